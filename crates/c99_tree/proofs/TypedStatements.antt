-- Statements leave statics as the unit declares them, and call handlers with values of their parameters' types.
use Rattle.std.proofs.Common.{◌≡◌, ◌≢◌, ℕ, zero, suc, ◌^◌, ◌<◌, Bool, true, false, not, ◌||◌, ◌++◌, List, [], ◌∷◌, length, Option, Some, None, Result, Ok, Err, refl, sym, ap, ◌∙◌, subst, arith}
use Rattle.std.specs.Prelude.{ℤ, pos, negsuc, unsigned_abs, IfOk, nat_eq, slice_get, slice_set, All, if◌then◌else◌}
use Rattle.std.specs.List.{list_all, list_any, flat_map, AllZip, AllByRecursion}
use Rattle.std.specs.Option.{option_map, option_map_or}
use Rattle.std.proofs.lemmas.Bool.Decides.{nat_tests}
use Rattle.std.proofs.lemmas.Option.{slice_get_within}
use Rattle.std.proofs.lemmas.List.Folds.{list_all-append, list_any-append}
use Rattle.std.proofs.lemmas.List.{length-set}
use Rattle.std.proofs.lemmas.List.Elements.{All-set}
use Rattle.c99_tree.specs.declared.types.CScalar.TheVariants as t
use Rattle.c99_tree.specs.declared.types.CVar.{CVar}
use Rattle.c99_tree.specs.declared.types.CProto.{CProto}
use Rattle.c99_tree.specs.declared.undefined.Undefined.{Undefined}
use Rattle.c99_tree.specs.declared.unit.CRing.{CRing}
use Rattle.c99_tree.specs.declared.unit.Unit.{Unit as CUnit}
use Rattle.c99_tree.specs.Tree.{Expr, Exprs, none, more, Stmt, copies, calls, nexts, stores, moves, puts}
use Rattle.c99_tree.specs.CTypes.{Num, is_zero, converted}
use Rattle.c99_tree.specs.Words.{is_same}
use Rattle.c99_tree.specs.Lookup.{ring_of, handler_of, place_of_var, place_of_ring, place_of_handler}
use Rattle.c99_tree.specs.Values.{Value, Values, words_of_all, number_in}
use Rattle.c99_tree.specs.Typing.{type_of, types_of, fits_in}
use Rattle.c99_tree.specs.Evaluation.{done, ◌>>=◌, Statics, value_at, values_in, index_in, element, settled, evaluate, evaluate_all}
use Rattle.c99_tree.specs.Step.{Called, Progress, with_statics, with_copy, with_ring, with_local, with_call, local_in, called_if, stored, carry_out}
use Rattle.c99_tree.specs.WellFormed.{parts_of, parts_of_all, list_of, parts_in, is_in_range, is_statement_there, has_all_arguments, is_scalar_where_asked, has_fitting_values, fit_params, is_next_of, is_written_after_next, writes_its_way}
use Rattle.c99_tree.specs.Typed.{IsNumberOf, IsValueOf, AreValuesOf, IsRingOf, IsStatics, IsCallOf}
use Rattle.c99_tree.proofs.NumberRanges.{within, range_within}
use Rattle.c99_tree.proofs.NumberTypes.{converted-is}
use Rattle.c99_tree.proofs.LookedUp.{found_there, found_passes, zip_at, zip_set, found, same_number}
use Rattle.c99_tree.proofs.Shaped.{same-eq}
use Rattle.c99_tree.proofs.TypedValues.{then_gives, params_fit, types_long}
use Rattle.c99_tree.proofs.TypedExpressions.{has_length, Premises, evaluate_gives, evaluate_all_gives, fitting_gives, ring_values, index_small}
use Rattle.sm_io.proofs.Truths.{left_passes, right_passes}
use Rattle.sm_io.proofs.Elements.{all_by_place}

-- ---- lists

set_here : (vs : List Value) (k : ℕ) (v : Value) → k < length vs → value_at (slice_set vs k v) k ≡ v
set_here [] k v h = absurd (omega (arith, h))
set_here (w ∷ vs) zero v h = refl
set_here (w ∷ vs) (suc k) v h = set_here vs k v (omega (arith, h))

set_elsewhere : (vs : List Value) (k n : ℕ) (v : Value) → n ≢ k → value_at (slice_set vs k v) n ≡ value_at vs n
set_elsewhere [] k n v h = refl
set_elsewhere (w ∷ vs) zero zero v h = absurd (h refl)
set_elsewhere (w ∷ vs) zero (suc n) v h = refl
set_elsewhere (w ∷ vs) (suc k) zero v h = refl
set_elsewhere (w ∷ vs) (suc k) (suc n) v h = set_elsewhere vs k n v (λ e. h (ap (λ (i : ℕ). suc i) e))

pub push_all : {A : Type 0} (P : A → Type 0) (xs : List A) (x : A) → AllByRecursion P xs → P x → AllByRecursion P (xs ++ x ∷ [])
push_all P [] x h p = (p, tt)
push_all P (y ∷ xs) x h p = (h.0, push_all P xs x h.1 p)

any_ok : {A : Type 0} (r : Result A Undefined) → IfOk r (λ _. Unit {0})
any_ok (Ok x) = tt
any_ok (Err e) = tt

-- ---- the statics

with_copy-is : (u : CUnit) (x : List ℕ) (xs : List Value) (s : Statics) → AllZip (λ (y : CVar) v. IsValueOf u.types y.ty v) u.externs xs → IsStatics u s
    → IsStatics u (with_copy u x (value_at xs (place_of_var u.externs x)) s)
with_copy-is u x xs s row h =
    let k : ℕ = place_of_var u.externs x in
    record {
      copies = zip_set (λ (y : CVar) v. IsValueOf u.types y.ty v) u.externs s.copies k (value_at xs k) h.copies
          (λ y e. let f = zip_at (λ (z : CVar) v. IsValueOf u.types z.ty v) u.externs xs k y row e in rw f.there f.related);
      rings = h.rings;
    }

with_ring-is : (u : CUnit) (r : List ℕ) (ring : CRing) (vs : List Value) (k : ℕ) (s : Statics) → ring_of u r ≡ Some ring → IsRingOf u.types ring (record { values = vs; index = k }) → IsStatics u s
    → IsStatics u (with_ring u r vs k s)
with_ring-is u r ring vs k s e g h =
    let there = found_there (λ (z : CRing). is_same r z.name) u.rings ring e in
    record {
      copies = h.copies;
      rings = zip_set (IsRingOf u.types) u.rings s.rings (place_of_ring u r) (record { values = vs; index = k }) h.rings
          (λ z q. let both : Some ring ≡ Some z = sym there ∙ q in let same : ring ≡ z = cc both in subst (λ w. IsRingOf u.types w (record { values = vs; index = k })) same g);
    }

-- ---- how far a call of `step` has come

pub record IsProgress (u : CUnit) (before : List Stmt) (p : Progress) : Type 0 where
  pub statics : IsStatics u p.statics
  pub long : length p.locals ≡ length u.rings
  -- the local of each ring with a Next before
  pub locals : (r : List ℕ) (ring : CRing) → ring_of u r ≡ Some ring → list_any (is_next_of r) before ≡ true → IsValueOf u.types ring.ty (local_in u p r)
  pub called : AllByRecursion (IsCallOf u) p.called

abbrev NoNext : Stmt → Type 0
NoNext s = (r : List ℕ) → is_next_of r s ≡ false

or_nothing : (a b : Bool) → b ≡ false → (a || (b || false)) ≡ true → a ≡ true
or_nothing true b e h = refl
or_nothing false true e h = absurd (cc e)
or_nothing false false e h = h

next_before : (r : List ℕ) (before : List Stmt) (s : Stmt) → is_next_of r s ≡ false → list_any (is_next_of r) (before ++ s ∷ []) ≡ true → list_any (is_next_of r) before ≡ true
next_before r before s e h = or_nothing (list_any (is_next_of r) before) (is_next_of r s) e (sym (list_any-append (is_next_of r) before (s ∷ [])) ∙ h)

new_statics : (u : CUnit) (before : List Stmt) (s : Stmt) (p : Progress) (q : Statics) → NoNext s → IsProgress u before p → IsStatics u q → IsProgress u (before ++ s ∷ []) (with_statics p q)
new_statics u before s p q e h g =
    record { statics = g; long = h.long; locals = λ r ring f n. h.locals r ring f (next_before r before s (e r) n); called = h.called }

new_call : (u : CUnit) (before : List Stmt) (s : Stmt) (p : Progress) (c : Called) → NoNext s → IsProgress u before p → IsCallOf u c → IsProgress u (before ++ s ∷ []) (with_call c p)
new_call u before s p c e h g =
    record { statics = h.statics; long = h.long; locals = λ r ring f n. h.locals r ring f (next_before r before s (e r) n); called = push_all (IsCallOf u) p.called c h.called g }

no_call : (u : CUnit) (before : List Stmt) (s : Stmt) (p : Progress) → NoNext s → IsProgress u before p → IsProgress u (before ++ s ∷ []) p
no_call u before s p e h = record { statics = h.statics; long = h.long; locals = λ r ring f n. h.locals r ring f (next_before r before s (e r) n); called = h.called }

not_next : (c : Bool) → (c ≡ true → ⊥) → c ≡ false
not_next true h = absurd (h refl)
not_next false h = refl

other_place : (n k : ℕ) → nat_eq n k ≡ false → n ≢ k
other_place n k h e = grind (arith, nat_tests)

-- the local of one ring, once another or the same has its Next
local_at : (u : CUnit) (before : List Stmt) (p : Progress) (r : List ℕ) (ring : CRing) (e : Expr) (v : Value) → IsProgress u before p → ring_of u r ≡ Some ring → IsValueOf u.types ring.ty v
    → (q : List ℕ) (other : CRing) → ring_of u q ≡ Some other → list_any (is_next_of q) (before ++ nexts r e ∷ []) ≡ true
    → (c : Bool) → nat_eq (place_of_ring u q) (place_of_ring u r) ≡ c → IsValueOf u.types other.ty (value_at (slice_set p.locals (place_of_ring u r) v) (place_of_ring u q))
local_at u before p r ring e v h f g q other i n true d =
    let k : ℕ = place_of_ring u r in
    let there = found_there (λ (z : CRing). is_same r z.name) u.rings ring f in
    let over = found_there (λ (z : CRing). is_same q z.name) u.rings other i in
    let place : place_of_ring u q ≡ k = same_number (place_of_ring u q) k d in
    let both : Some ring ≡ Some other = sym there ∙ ap (slice_get u.rings) (sym place) ∙ over in
    let same : ring ≡ other = cc both in
    let within_rings = slice_get_within u.rings k ring there in
    let m : k < length p.locals = omega (arith, within_rings, h.long) in
    rw (place, set_here p.locals k v m) (subst (λ (z : CRing). IsValueOf u.types z.ty v) same g)
local_at u before p r ring e v h f g q other i n false d =
    let apart : place_of_ring u q ≢ place_of_ring u r = other_place (place_of_ring u q) (place_of_ring u r) d in
    let no : is_next_of q (nexts r e) ≡ false = not_next (is_next_of q (nexts r e)) (λ (y : is_same q r ≡ true). apart (ap (place_of_ring u) (same-eq q r y))) in
    rw (set_elsewhere p.locals (place_of_ring u r) (place_of_ring u q) v apart) (h.locals q other i (next_before q before (nexts r e) no n))

new_local : (u : CUnit) (before : List Stmt) (p : Progress) (r : List ℕ) (ring : CRing) (e : Expr) (v : Value) → IsProgress u before p → ring_of u r ≡ Some ring → IsValueOf u.types ring.ty v
    → IsProgress u (before ++ nexts r e ∷ []) (with_local u r v p)
new_local u before p r ring e v h f g =
    record {
      statics = h.statics;
      long = length-set p.locals (place_of_ring u r) v ∙ h.long;
      locals = λ q other i n. local_at u before p r ring e v h f g q other i n (nat_eq (place_of_ring u q) (place_of_ring u r)) refl;
      called = h.called;
    }

-- ---- a statement

-- what the rules say of a statement that stands behind these
pub record Ruled (u : CUnit) (before : List Stmt) (s : Stmt) : Type 0 where
  pub lengths : list_all has_length u.rings ≡ true
  pub single : list_all (λ r. r.indexed || nat_eq r.len 1) u.rings ≡ true
  pub ranged : list_all is_in_range (parts_in s) ≡ true
  pub there : is_statement_there u s ≡ true
  pub full : has_all_arguments u s ≡ true
  pub scalar : is_scalar_where_asked u s ≡ true
  pub fitting : has_fitting_values u s ≡ true
  pub after_next : is_written_after_next before s ≡ true
  pub way : writes_its_way u s ≡ true

pub premises : (u : CUnit) (before : List Stmt) (s : Stmt) (p : Progress) → Ruled u before s → IsProgress u before p → Premises u p.statics
premises u before s p c h = record { statics = h.statics; lengths = c.lengths }

pub only_parts : (e : Expr) → list_all is_in_range (parts_of e ++ []) ≡ true → list_all is_in_range (parts_of e) ≡ true
only_parts e h = left_passes (list_all is_in_range (parts_of e)) true (sym (list_all-append is_in_range (parts_of e) []) ∙ h)

listed_parts : (es : Exprs) → flat_map parts_of (list_of es) ≡ parts_of_all es
listed_parts none = refl
listed_parts (more e es) = ap (λ (ps : List Expr). parts_of e ++ ps) (listed_parts es)

pub args_parts : (guard : Expr) (args : Exprs) → list_all is_in_range (parts_of guard ++ flat_map parts_of (list_of args)) ≡ true → list_all is_in_range (parts_of_all args) ≡ true
args_parts guard args h =
    let g = sym (list_all-append is_in_range (parts_of guard) (flat_map parts_of (list_of args))) ∙ h in
    rw (← listed_parts args) (right_passes (list_all is_in_range (parts_of guard)) (list_all is_in_range (flat_map parts_of (list_of args))) g)

-- a call of a handler
call_progress : (u : CUnit) (before : List Stmt) (h : List ℕ) (guard : Expr) (args : Exprs) (p : Progress) (x : Num) (o : Option CProto) → Ruled u before (calls h guard args) → IsProgress u before p → handler_of u h ≡ o
    → option_map_or (λ q. nat_eq (length (list_of args)) (length q.params)) o false ≡ true → option_map_or (λ q. fit_params (types_of u args) q.params) o false ≡ true → (z : Bool)
    → IfOk (if z then done (Ok p) else (evaluate_all u p.statics (option_map_or (λ proto. proto.params) o []) args >>= λ (vs : Values). done (Ok (with_call (record { handler = place_of_handler u h; words = words_of_all vs }) p)))).value (IsProgress u (before ++ calls h guard args ∷ []))
call_progress u before h guard args p x None c g e n f z = absurd (cc n)
call_progress u before h guard args p x (Some proto) c g e n f true = no_call u before (calls h guard args) p (λ r. refl) g
call_progress u before h guard args p x (Some proto) c g e n f false =
    let long : length (types_of u args) ≡ length proto.params = types_long u args ∙ same_number (length (list_of args)) (length proto.params) n in
    let given = evaluate_all_gives u p.statics (premises u before (calls h guard args) p c g) proto.params args (args_parts guard args c.ranged) (params_fit (types_of u args) proto.params long f) in
    then_gives (evaluate_all u p.statics proto.params args) (λ (vs : Values). done (Ok (with_call (record { handler = place_of_handler u h; words = words_of_all vs }) p))) (AreValuesOf u.types proto.params) (IsProgress u (before ++ calls h guard args ∷ [])) given
    (λ vs q. new_call u before (calls h guard args) p (record { handler = place_of_handler u h; words = words_of_all vs }) (λ r. refl) g
    (record { handler = proto; is = found_there (λ (z : CProto). is_same h z.name) u.handlers proto e; arguments = vs; typed = q; words = refl }))

-- a Next
next_progress : (u : CUnit) (before : List Stmt) (r : List ℕ) (e : Expr) (p : Progress) (o : Option CRing) → Ruled u before (nexts r e) → IsProgress u before p → ring_of u r ≡ o
    → option_map_or (λ ring. fits_in (type_of u e) ring.ty) o false ≡ true
    → IfOk (evaluate u p.statics e >>= λ (v : Value). done (settled (option_map (λ (ring : CRing). ring.ty) o) v) >>= λ (x : Value). done (Ok (with_local u r x p))).value (IsProgress u (before ++ nexts r e ∷ []))
next_progress u before r e p None c g i f = absurd (cc f)
next_progress u before r e p (Some ring) c g i f =
    fitting_gives u.types (type_of u e) ring.ty (evaluate u p.statics e) (λ (x : Value). done (Ok (with_local u r x p))) (IsProgress u (before ++ nexts r e ∷ []))
    (evaluate_gives u p.statics (premises u before (nexts r e) p c g) e (only_parts e c.ranged)) f (λ v q. new_local u before p r ring e v g i q)

stored_progress : (u : CUnit) (before : List Stmt) (r : List ℕ) (e : Expr) (p : Progress) (i : Num) → Ruled u before (stores r e) → IsProgress u before p → IfOk (stored u r p i).value (IsProgress u (before ++ stores r e ∷ []))
stored_progress u before r e p i c g =
    let found = found (ring_of u r) c.there in
    let ring : CRing = found.0 in
    let vs : List Value = values_in u p.statics r in
    let v : Value = local_in u p r in
    let held = ring_values u p.statics r ring g.statics found.1 in
    let value : IsValueOf u.types ring.ty v = g.locals r ring found.1 c.after_next in
    let state : IsRingOf u.types ring (record { values = slice_set vs (unsigned_abs i.n) v; index = index_in u p.statics r }) =
    record { long = length-set vs (unsigned_abs i.n) v ∙ held.0; each = All-set (IsValueOf u.types ring.ty) vs (unsigned_abs i.n) v value held.1; index = index_small u p.statics r g.statics } in
    then_gives (done (element vs i.n)) (λ (old : Value). done (Ok (with_statics p (with_ring u r (slice_set vs (unsigned_abs i.n) v) (index_in u p.statics r) p.statics)))) (λ _. Unit {0}) (IsProgress u (before ++ stores r e ∷ [])) (any_ok (element vs i.n))
    (λ old q. new_statics u before (stores r e) p (with_ring u r (slice_set vs (unsigned_abs i.n) v) (index_in u p.statics r) p.statics) (λ z. refl) g (with_ring-is u r ring (slice_set vs (unsigned_abs i.n) v) (index_in u p.statics r) p.statics found.1 state g.statics))

natural_small : (z : ℤ) → within 32 false z ≡ true → unsigned_abs z < 2 ^ 32
natural_small (pos n) h = grind (arith, nat_tests)
natural_small (negsuc n) h = absurd (cc h)

moved_progress : (u : CUnit) (before : List Stmt) (r : List ℕ) (e : Expr) (p : Progress) (v : Value) → Ruled u before (moves r e) → IsProgress u before p
    → IfOk (done (converted t.U32 (number_in v)) >>= λ (k : Num). done (Ok (with_statics p (with_ring u r (values_in u p.statics r) (unsigned_abs k.n) p.statics)))).value (IsProgress u (before ++ moves r e ∷ []))
moved_progress u before r e p v c g =
    let found = found (ring_of u r) c.there in
    let ring : CRing = found.0 in
    let held = ring_values u p.statics r ring g.statics found.1 in
    then_gives (done (converted t.U32 (number_in v))) (λ (k : Num). done (Ok (with_statics p (with_ring u r (values_in u p.statics r) (unsigned_abs k.n) p.statics)))) (IsNumberOf t.U32) (IsProgress u (before ++ moves r e ∷ [])) (converted-is t.U32 (number_in v))
    (λ k q. new_statics u before (moves r e) p (with_ring u r (values_in u p.statics r) (unsigned_abs k.n) p.statics) (λ z. refl) g
    (with_ring-is u r ring (values_in u p.statics r) (unsigned_abs k.n) p.statics found.1 (record { long = held.0; each = held.1; index = natural_small k.n (range_within t.U32 k.n q.ranged) }) g.statics))

one_long : (b : Bool) (n : ℕ) → not b ≡ true → (b || nat_eq n 1) ≡ true → n ≡ 1
one_long true n h e = absurd (cc h)
one_long false n h e = same_number n 1 e

alone : (P : Value → Type 0) (v : Value) → P v → All P (v ∷ [])
alone P v h = all_by_place P (v ∷ []) (h, tt)

put_progress : (u : CUnit) (before : List Stmt) (r : List ℕ) (p : Progress) (o : Option CRing) → Ruled u before (puts r) → IsProgress u before p → ring_of u r ≡ o → option_map_or (λ (ring : CRing). not ring.indexed) o false ≡ true
    → IsProgress u (before ++ puts r ∷ []) (with_statics p (with_ring u r (local_in u p r ∷ []) (index_in u p.statics r) p.statics))
put_progress u before r p None c g e w = absurd (cc w)
put_progress u before r p (Some ring) c g e w =
    let one : ring.len ≡ 1 = one_long ring.indexed ring.len w (found_passes (λ (z : CRing). is_same r z.name) (λ z. z.indexed || nat_eq z.len 1) u.rings ring c.single e) in
    let v : Value = local_in u p r in
    let state : IsRingOf u.types ring (record { values = v ∷ []; index = index_in u p.statics r }) =
    record { long = sym one; each = alone (IsValueOf u.types ring.ty) v (g.locals r ring e c.after_next); index = index_small u p.statics r g.statics } in
    new_statics u before (puts r) p (with_ring u r (v ∷ []) (index_in u p.statics r) p.statics) (λ z. refl) g (with_ring-is u r ring (v ∷ []) (index_in u p.statics r) p.statics e state g.statics)

pub carry_out-is : (u : CUnit) (xs : List Value) (before : List Stmt) (s : Stmt) (p : Progress) → AllZip (λ (y : CVar) v. IsValueOf u.types y.ty v) u.externs xs → Ruled u before s → IsProgress u before p
    → IfOk (carry_out u xs s p).value (IsProgress u (before ++ s ∷ []))
carry_out-is u xs before (copies x) p row c g =
    new_statics u before (copies x) p (with_copy u x (value_at xs (place_of_var u.externs x)) p.statics) (λ r. refl) g (with_copy-is u x xs p.statics row g.statics)
carry_out-is u xs before (calls h guard args) p row c g =
    then_gives (evaluate u p.statics guard) (λ (v : Value). called_if u h args p (number_in v)) (λ _. Unit {0}) (IsProgress u (before ++ calls h guard args ∷ [])) (any_ok (evaluate u p.statics guard).value)
    (λ v q. call_progress u before h guard args p (number_in v) (handler_of u h) c g refl c.full c.fitting (is_zero (number_in v)))
carry_out-is u xs before (nexts r e) p row c g = next_progress u before r e p (ring_of u r) c g refl c.fitting
carry_out-is u xs before (stores r e) p row c g =
    then_gives (evaluate u p.statics e) (λ (v : Value). stored u r p (number_in v)) (λ _. Unit {0}) (IsProgress u (before ++ stores r e ∷ [])) (any_ok (evaluate u p.statics e).value) (λ v q. stored_progress u before r e p (number_in v) c g)
carry_out-is u xs before (moves r e) p row c g =
    then_gives (evaluate u p.statics e) (λ (v : Value). done (converted t.U32 (number_in v)) >>= λ (k : Num). done (Ok (with_statics p (with_ring u r (values_in u p.statics r) (unsigned_abs k.n) p.statics)))) (λ _. Unit {0}) (IsProgress u (before ++ moves r e ∷ [])) (any_ok (evaluate u p.statics e).value)
    (λ v q. moved_progress u before r e p v c g)
carry_out-is u xs before (puts r) p row c g = put_progress u before r p (ring_of u r) c g refl c.way
