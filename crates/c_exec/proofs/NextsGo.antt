-- A Next, on what a machine keeps.
use Rattle.std.proofs.Common.{◌≡◌, ◌≢◌, ℕ, zero, suc, ◌+◌, ◌<◌, ◌≤◌, Bool, true, false, List, [], ◌∷◌, ◌++◌, length, take, drop, Option, Some, None, Ok, refl, sym, ap, ◌∙◌, subst, arith}
use Rattle.std.specs.Prelude.{IsTrue, nat_eq, nat_lt, slice_get, slice_set}
use Rattle.std.specs.List.{list_any, sum_by}
use Rattle.std.specs.Option.{option_map, option_map_or}
use Rattle.std.proofs.lemmas.Bool.Decides.{nat_tests}
use Rattle.std.proofs.lemmas.List.{length-set}
use Rattle.std.proofs.lemmas.Option.{slice_get_within}
use Rattle.c99_tree.specs.declared.types.CTy.{CTy}
use Rattle.c99_tree.specs.declared.types.CTy.TheVariants as ty
use Rattle.c99_tree.specs.declared.unit.CRing.{CRing}
use Rattle.c99_tree.specs.declared.unit.Unit.{Unit as CUnit}
use Rattle.c99_tree.specs.Tree.{Expr, Stmt, nexts}
use Rattle.c99_tree.specs.Words.{is_same}
use Rattle.c99_tree.specs.Lookup.{ring_of, place_of_ring}
use Rattle.c99_tree.specs.Values.{Value, words_of}
use Rattle.c99_tree.specs.Typing.{type_of, fits, fits_in}
use Rattle.c99_tree.specs.Evaluation.{Met, done, ◌>>=◌, value_at, settled, evaluate}
use Rattle.c99_tree.specs.Step.{Progress, with_local, carry_out}
use Rattle.c99_tree.specs.Typed.{IsValueOf}
use Rattle.c99_tree.specs.WellFormed.{types_come_first, is_next_of}
use Rattle.c99_tree.proofs.LookedUp.{found_there, same_number}
use Rattle.c99_tree.proofs.Shaped.{same-eq}
use Rattle.c99_tree.proofs.TypedValues.{then_gives, converted_to-is}
use Rattle.c99_tree.proofs.TypedStatements.{IsProgress, premises}
use Rattle.c_exec.specs.Codes.{Op}
use Rattle.c_exec.specs.Going.{Memory, Rooms, go, act}
use Rattle.c_exec.specs.Layout.{ring_width, local_start, value_width}
use Rattle.c_exec.specs.Machine.{words_of_statics}
use Rattle.c_exec.specs.Needs.{need, call_count, call_words}
use Rattle.c_exec.specs.Resolving.{scalar_of, as_settled, code_of, act_for}
use Rattle.c_exec.specs.Runs.{written}
use Rattle.c_exec.proofs.Fronts.{take_fits}
use Rattle.c_exec.proofs.ListsGo.{settled_sims}
use Rattle.c_exec.proofs.CodeGoes.{typed, scalar_given, fit_there, fit_scalar, then_then}
use Rattle.c_exec.proofs.StaticsLaid.{expression_goes}
use Rattle.c_exec.proofs.Apart.{run_before, run_behind, run_same, starts_apart}
use Rattle.c_exec.proofs.Follows.{Follows, Agrees, before_it, no_more, sims_agree}
use Rattle.c_exec.proofs.Known.{Known, one_good, width_of_ring, value_wide}

-- ---- places

set_here : (vs : List Value) (k : ℕ) (v : Value) → k < length vs → value_at (slice_set vs k v) k ≡ v
set_here [] k v h = absurd (omega (arith, h))
set_here (w ∷ vs) zero v h = refl
set_here (w ∷ vs) (suc k) v h = set_here vs k v (omega (arith, h))

set_elsewhere : (vs : List Value) (k n : ℕ) (v : Value) → n ≢ k → value_at (slice_set vs k v) n ≡ value_at vs n
set_elsewhere [] k n v h = refl
set_elsewhere (w ∷ vs) zero zero v h = absurd (h refl)
set_elsewhere (w ∷ vs) zero (suc n) v h = refl
set_elsewhere (w ∷ vs) (suc k) zero v h = refl
set_elsewhere (w ∷ vs) (suc k) (suc n) v h = set_elsewhere vs k n v (λ e. h (ap (λ (i : ℕ). suc i) e))

other_place : (n k : ℕ) → nat_eq n k ≡ false → n ≢ k
other_place n k h e = grind (arith, nat_tests)

not_next : (c : Bool) → (c ≡ true → ⊥) → c ≡ false
not_next true h = absurd (h refl)
not_next false h = refl

ring_there : (u : CUnit) (r : List ℕ) (ring : CRing) → ring_of u r ≡ Some ring → slice_get u.rings (place_of_ring u r) ≡ Some ring
ring_there u r ring e = found_there (λ (z : CRing). is_same r z.name) u.rings ring e

written_long : (ws xs : List ℕ) (at : ℕ) → length (written at xs ws) ≡ length ws
written_long ws [] at = refl
written_long ws (x ∷ xs) at = written_long (slice_set ws at x) xs (at + 1) ∙ length-set ws at x

-- the run at a place ends where those of all end
run_within : {A : Type 0} (w : A → ℕ) (xs : List A) (k : ℕ) (x : A) → slice_get xs k ≡ Some x → sum_by w (take k xs) + w x ≤ sum_by w xs
run_within w xs k x e =
    let apart = starts_apart w xs k (length xs) x e (slice_get_within xs k x e) in
    let whole : sum_by w (take (length xs) xs) ≡ sum_by w xs = ap (sum_by w) (take_fits (length xs) xs (omega arith)) in
    omega (arith, apart, whole)

-- ---- one local has its value, and the others stay

apart_kept : (u : CUnit) (q r : List ℕ) (other ring : CRing) (v : Value) (ws : List ℕ) → ring_of u q ≡ Some other → ring_of u r ≡ Some ring
    → length (words_of v) ≡ value_width u r → nat_eq (place_of_ring u q) (place_of_ring u r) ≡ false → (c : Bool) → nat_lt (place_of_ring u q) (place_of_ring u r) ≡ c
    → take (value_width u q) (drop (local_start u q) (written (local_start u r) (words_of v) ws)) ≡ take (value_width u q) (drop (local_start u q) ws)
apart_kept u q r other ring v ws e g l n true t =
    let less : place_of_ring u q < place_of_ring u r = grind (arith, nat_tests, t) in
    let apart = starts_apart (ring_width u.types) u.rings (place_of_ring u q) (place_of_ring u r) other (ring_there u q other e) less in
    let width = width_of_ring u q other e in
    run_before (words_of v) ws (local_start u r) (local_start u q) (value_width u q) (omega (arith, apart, width))
apart_kept u q r other ring v ws e g l n false t =
    let less : place_of_ring u r < place_of_ring u q = grind (arith, nat_tests, t, n) in
    let apart = starts_apart (ring_width u.types) u.rings (place_of_ring u r) (place_of_ring u q) ring (ring_there u r ring g) less in
    let width = width_of_ring u r ring g in
    run_behind (words_of v) ws (local_start u r) (local_start u q) (value_width u q) (omega (arith, apart, width, l))

held_at : (u : CUnit) (before : List Stmt) (r : List ℕ) (ring : CRing) (e : Expr) (p : Progress) (m : Memory) (v : Value) → IsProgress u before p
    → Follows u before p m → ring_of u r ≡ Some ring → length (words_of v) ≡ value_width u r
    → (q : List ℕ) (other : CRing) → ring_of u q ≡ Some other → list_any (is_next_of q) (before ++ nexts r e ∷ []) ≡ true
    → (c : Bool) → nat_eq (place_of_ring u q) (place_of_ring u r) ≡ c
    → take (value_width u q) (drop (local_start u q) (written (local_start u r) (words_of v) m.locals))
    ≡ words_of (value_at (slice_set p.locals (place_of_ring u r) v) (place_of_ring u q))
held_at u before r ring e p m v h f g l q other i n true t =
    let same : place_of_ring u q ≡ place_of_ring u r = same_number (place_of_ring u q) (place_of_ring u r) t in
    let there = ring_there u r ring g in
    let both : Some ring ≡ Some other = sym there ∙ ap (slice_get u.rings) (sym same) ∙ ring_there u q other i in
    let one : ring ≡ other = cc both in
    let width : value_width u q ≡ length (words_of v) =
    width_of_ring u q other i ∙ ap (ring_width u.types) (sym one) ∙ sym (width_of_ring u r ring g) ∙ sym l in
    let start : local_start u q ≡ local_start u r = ap (λ (k : ℕ). sum_by (ring_width u.types) (take k u.rings)) same in
    let within = slice_get_within u.rings (place_of_ring u r) ring there in
    let many = h.long in
    let last = run_within (ring_width u.types) u.rings (place_of_ring u r) ring there in
    let wide = f.wide in
    let own = width_of_ring u r ring g in
    let ws : List ℕ = written (local_start u r) (words_of v) m.locals in
    ap (λ (k : ℕ). take k (drop (local_start u q) ws)) width ∙ ap (λ (k : ℕ). take (length (words_of v)) (drop k ws)) start
    ∙ run_same (words_of v) m.locals (local_start u r) (omega (arith, last, wide, own, l))
    ∙ sym (ap (λ (w : Value). words_of w) (ap (value_at (slice_set p.locals (place_of_ring u r) v)) same ∙ set_here p.locals (place_of_ring u r) v (omega (arith, within, many))))
held_at u before r ring e p m v h f g l q other i n false t =
    let apart : place_of_ring u q ≢ place_of_ring u r = other_place (place_of_ring u q) (place_of_ring u r) t in
    let not_it : is_next_of q (nexts r e) ≡ false =
    not_next (is_next_of q (nexts r e)) (λ (y : is_same q r ≡ true). apart (ap (place_of_ring u) (same-eq q r y))) in
    apart_kept u q r other ring v m.locals i g l t (nat_lt (place_of_ring u q) (place_of_ring u r)) refl
    ∙ f.held q other i (before_it q before (nexts r e) not_it n)
    ∙ sym (ap (λ (w : Value). words_of w) (set_elsewhere p.locals (place_of_ring u r) (place_of_ring u q) v apart))

follows_local : (u : CUnit) (before : List Stmt) (r : List ℕ) (ring : CRing) (e : Expr) (p : Progress) (m : Memory) (v : Value) → IsProgress u before p
    → Follows u before p m → ring_of u r ≡ Some ring → length (words_of v) ≡ value_width u r
    → Follows u (before ++ nexts r e ∷ []) (with_local u r v p) (record m { locals = written (local_start u r) (words_of v) m.locals })
follows_local u before r ring e p m v h f g l = record {
  statics = f.statics;
  wide = written_long m.locals (words_of v) (local_start u r) ∙ f.wide;
  held = λ q other i n. held_at u before r ring e p m v h f g l q other i n (nat_eq (place_of_ring u q) (place_of_ring u r)) refl;
  paired = f.paired;
  rises = f.rises;
  calls = f.calls;
  few = no_more call_count u before (nexts r e) (length m.handlers) f.few;
  short = no_more call_words u before (nexts r e) (length m.words) f.short;
}

-- ---- the statement

-- with the ring's type, where there is one
next_agrees : (u : CUnit) (rs : Rooms) (before : List Stmt) (r : List ℕ) (e : Expr) (p : Progress) (m : Memory) (o : Option CRing)
    → IsTrue (types_come_first u) → Known u before (nexts r e) → IsProgress u before p → Follows u before p m → ring_of u r ≡ o
    → option_map_or (λ (ring : CRing). fits_in (type_of u e) ring.ty) o false ≡ true
    → need (as_settled (option_map (λ (ring : CRing). ring.ty) o) (scalar_of u e) (code_of u e)) ≤ rs.pile
    → Agrees u (before ++ nexts r e ∷ [])
    (go rs.pile m.statics (as_settled (option_map (λ (ring : CRing). ring.ty) o) (scalar_of u e) (code_of u e)) []
    >>= λ ws. done (Ok (record m { locals = written (local_start u r) ws m.locals })))
    (evaluate u p.statics e >>= λ v. done (settled (option_map (λ (ring : CRing). ring.ty) o) v) >>= λ x. done (Ok (with_local u r x p)))
next_agrees u rs before r e p m None first k h f i fit room = absurd (cc fit)
next_agrees u rs before r e p m (Some ring) first k h f i fit room =
    let c = premises u before (nexts r e) p k.ruled h in
    let a = fit_there (type_of u e) ring.ty fit in
    let good = one_good u e k.ruled.ranged k.there in
    let v : Met Value = evaluate u p.statics e in
    let as_local : Value → Met Value = λ x. done (settled (Some ring.ty) x) in
    let last : Value → Met Progress = λ x. done (Ok (with_local u r x p)) in
    let writes : List ℕ → Met Memory = λ ws. done (Ok (record m { locals = written (local_start u r) ws m.locals })) in
    let code : Op = as_settled (Some ring.ty) (scalar_of u e) (code_of u e) in
    subst (λ (z : Met Progress). Agrees u (before ++ nexts r e ∷ []) (go rs.pile m.statics code [] >>= writes) z) (then_then v as_local last)
    (sims_agree u (before ++ nexts r e ∷ []) rs.pile m.statics (words_of_statics p.statics) code (v >>= as_local) last writes
    (IsValueOf u.types ring.ty) f.statics
    (settled_sims u.types rs.pile (words_of_statics p.statics) (Some ring.ty) (scalar_of u e) (code_of u e) v
    (λ d q. let same : ring.ty ≡ ty.Scalar d = cc q in
    let s = fit_scalar a.0 d (subst (λ (z : CTy). fits a.0 z ≡ true) same a.2) in
    scalar_given u p.statics c e good.ranges (s.0, a.1 ∙ s.1))
    (expression_goes u p.statics rs.pile e a.0 first c good a.1))
    room
    (then_gives v as_local (IsValueOf u.types a.0) (IsValueOf u.types ring.ty) (typed u p.statics c e a.0 good.ranges a.1)
    (λ x q. converted_to-is u.types a.0 ring.ty x a.2 q))
    (λ x q. record { value = follows_local u before r ring e p m x h f i (value_wide u r ring x first i q); count = refl }))

pub next_goes : (u : CUnit) (rs : Rooms) (before : List Stmt) (r : List ℕ) (e : Expr) (p : Progress) (m : Memory) (row : List ℕ) (xs : List Value)
    → IsTrue (types_come_first u) → Known u before (nexts r e) → IsProgress u before p → Follows u before p m
    → need (as_settled (option_map (λ (ring : CRing). ring.ty) (ring_of u r)) (scalar_of u e) (code_of u e)) ≤ rs.pile
    → Agrees u (before ++ nexts r e ∷ []) (act rs row (act_for u (nexts r e)) m) (carry_out u xs (nexts r e) p)
next_goes u rs before r e p m row xs first k h f room =
    next_agrees u rs before r e p m (ring_of u r) first k h f refl k.ruled.fitting room
