-- The statements of a program, on what a machine keeps.
use Rattle.std.proofs.Common.{◌≡◌, ℕ, ◌+◌, ◌≤◌, Bool, true, false, not, ◌||◌, List, [], ◌∷◌, ◌++◌, length, map, Option, Some, Ok, refl, sym, ◌∙◌, subst, append_assoc, arith}
use Rattle.std.specs.Prelude.{IsTrue, max, nat_eq}
use Rattle.std.specs.List.{list_all, flat_map, sum_by, AllZip}
use Rattle.std.specs.Option.{option_map_or}
use Rattle.std.proofs.lemmas.List.{append-nil}
use Rattle.std.proofs.lemmas.List.Sums.{sum_by-cons}
use Rattle.c99_tree.specs.declared.types.CVar.{CVar}
use Rattle.c99_tree.specs.declared.unit.CRing.{CRing}
use Rattle.c99_tree.specs.declared.unit.Unit.{Unit as CUnit}
use Rattle.c99_tree.specs.Tree.{Stmt, copies, calls, nexts, stores, moves, puts}
use Rattle.c99_tree.specs.Words.{is_same}
use Rattle.c99_tree.specs.Lookup.{var_of, ring_of}
use Rattle.c99_tree.specs.Values.{Value, words_of}
use Rattle.c99_tree.specs.Evaluation.{done, ◌>>=◌, values_in}
use Rattle.c99_tree.specs.Step.{Progress, local_in, carry_out, carry_out_all}
use Rattle.c99_tree.specs.Typed.{IsValueOf}
use Rattle.c99_tree.specs.WellFormed.{parts_in, is_there, types_come_first}
use Rattle.c99_tree.proofs.LookedUp.{found, found_passes, same_number}
use Rattle.c99_tree.proofs.TypedExpressions.{ring_values}
use Rattle.c99_tree.proofs.TypedStatements.{Ruled, IsProgress, carry_out-is}
use Rattle.c99_tree.proofs.TypedRuns.{RuledAll, first_ruled, rest_ruled}
use Rattle.sm_io.proofs.Truths.{left_passes, right_passes}
use Rattle.c_exec.specs.Going.{Memory, Rooms, act, act_all}
use Rattle.c_exec.specs.Layout.{value_width}
use Rattle.c_exec.specs.Needs.{act_need, most_need, call_count, call_words}
use Rattle.c_exec.specs.Resolving.{act_for}
use Rattle.c_exec.proofs.LaidOut.{flat_long}
use Rattle.c_exec.proofs.Follows.{Follows, Agrees, Roomy, counted, then_agrees}
use Rattle.c_exec.proofs.Known.{Known, value_wide, values_wide}
use Rattle.c_exec.proofs.CopiesGo.{copy_goes, put_goes}
use Rattle.c_exec.proofs.MovesGo.{move_goes}
use Rattle.c_exec.proofs.StoresGo.{store_goes}
use Rattle.c_exec.proofs.NextsGo.{next_goes}
use Rattle.c_exec.proofs.CallsGo.{call_goes}

-- ---- a Put

alone_long : (b : Bool) (n : ℕ) → not b ≡ true → (b || nat_eq n 1) ≡ true → n ≡ 1
alone_long true n h e = absurd (cc h)
alone_long false n h e = same_number n 1 e

-- a ring that is written by Put has one value, of as many words as its local
put_long : (u : CUnit) (before : List Stmt) (r : List ℕ) (ring : CRing) (p : Progress) → IsTrue (types_come_first u) → Ruled u before (puts r)
    → IsProgress u before p → ring_of u r ≡ Some ring
    → length (words_of (local_in u p r)) ≡ length (flat_map words_of (values_in u p.statics r))
put_long u before r ring p first c h e =
    let plain : not ring.indexed ≡ true = subst (λ (o : Option CRing). option_map_or (λ (z : CRing). not z.indexed) o false ≡ true) e c.way in
    let one : ring.len ≡ 1 =
    alone_long ring.indexed ring.len plain (found_passes (λ (z : CRing). is_same r z.name) (λ (z : CRing). z.indexed || nat_eq z.len 1) u.rings ring c.single e) in
    let many : length (values_in u p.statics r) ≡ 1 = (ring_values u p.statics r ring h.statics e).0 ∙ one in
    let own = value_wide u r ring (local_in u p r) first e (h.locals r ring e c.after_next) in
    let all = flat_long 1 (value_width u r) (values_in u p.statics r) many (values_wide u p.statics r ring first h.statics e) in
    omega (arith, own, all)

-- ---- a statement

statement_goes : (u : CUnit) (rs : Rooms) (before : List Stmt) (s : Stmt) (p : Progress) (m : Memory) (row : List ℕ) (xs : List Value)
    → IsTrue (types_come_first u) → AllZip (λ (y : CVar) w. IsValueOf u.types y.ty w) u.externs xs → row ≡ flat_map words_of xs
    → Known u before s → IsProgress u before p → Follows u before p m → Roomy u rs before s
    → Agrees u (before ++ s ∷ []) (act rs row (act_for u s) m) (carry_out u xs s p)
statement_goes u rs before (copies x) p m row xs first given is k h f r =
    let v = found (var_of u.externs x) k.ruled.there in
    copy_goes u rs before x v.0 p m row xs first h.statics given is v.1 f
statement_goes u rs before (calls x guard args) p m row xs first given is k h f r = call_goes u rs before x guard args p m row xs first k h f r
statement_goes u rs before (nexts y e) p m row xs first given is k h f r = next_goes u rs before y e p m row xs first k h f r.pile
statement_goes u rs before (stores y e) p m row xs first given is k h f r = store_goes u rs before y e p m row xs first k h f r.pile
statement_goes u rs before (moves y e) p m row xs first given is k h f r = move_goes u rs before y e p m row xs first k h f r.pile
statement_goes u rs before (puts y) p m row xs first given is k h f r =
    let ring = found (ring_of u y) k.ruled.there in
    put_goes u rs before y ring.0 p m row xs first h.statics ring.1 (f.held y ring.0 ring.1 k.ruled.after_next) (put_long u before y ring.0 p first k.ruled h ring.1) f

-- ---- statements

pub record KnownAll (u : CUnit) (before ss : List Stmt) : Type 0 where
  pub ruled : RuledAll u before ss
  pub there : list_all (λ s. list_all (is_there u) (parts_in s)) ss ≡ true

-- there is room for statements behind others
pub record RoomyAll (u : CUnit) (rs : Rooms) (before ss : List Stmt) : Type 0 where
  pub pile : most_need (map (act_for u) ss) ≤ rs.pile
  pub handlers : sum_by call_count (map (act_for u) before) + sum_by call_count (map (act_for u) ss) ≤ rs.handlers
  pub ends : sum_by call_count (map (act_for u) before) + sum_by call_count (map (act_for u) ss) ≤ rs.ends
  pub words : sum_by call_words (map (act_for u) before) + sum_by call_words (map (act_for u) ss) ≤ rs.words

first_known : (u : CUnit) (before : List Stmt) (s : Stmt) (ss : List Stmt) → KnownAll u before (s ∷ ss) → Known u before s
first_known u before s ss k = record {
  ruled = first_ruled u before s ss k.ruled;
  there = left_passes (list_all (is_there u) (parts_in s)) (list_all (λ z. list_all (is_there u) (parts_in z)) ss) k.there;
}

rest_known : (u : CUnit) (before : List Stmt) (s : Stmt) (ss : List Stmt) → KnownAll u before (s ∷ ss) → KnownAll u (before ++ s ∷ []) ss
rest_known u before s ss k = record {
  ruled = rest_ruled u before s ss k.ruled;
  there = right_passes (list_all (is_there u) (parts_in s)) (list_all (λ z. list_all (is_there u) (parts_in z)) ss) k.there;
}

first_roomy : (u : CUnit) (rs : Rooms) (before : List Stmt) (s : Stmt) (ss : List Stmt) → RoomyAll u rs before (s ∷ ss) → Roomy u rs before s
first_roomy u rs before s ss r =
    let pile : max (act_need (act_for u s)) (most_need (map (act_for u) ss)) ≤ rs.pile = r.pile in
    let handlers : sum_by call_count (map (act_for u) before) + sum_by call_count (act_for u s ∷ map (act_for u) ss) ≤ rs.handlers = r.handlers in
    let ends : sum_by call_count (map (act_for u) before) + sum_by call_count (act_for u s ∷ map (act_for u) ss) ≤ rs.ends = r.ends in
    let words : sum_by call_words (map (act_for u) before) + sum_by call_words (act_for u s ∷ map (act_for u) ss) ≤ rs.words = r.words in
    let one = sum_by-cons call_count (act_for u s) (map (act_for u) ss) in
    let two = sum_by-cons call_words (act_for u s) (map (act_for u) ss) in
    record {
      pile = omega (arith, pile);
      handlers = omega (arith, handlers, one);
      ends = omega (arith, ends, one);
      words = omega (arith, words, two);
    }

rest_roomy : (u : CUnit) (rs : Rooms) (before : List Stmt) (s : Stmt) (ss : List Stmt) → RoomyAll u rs before (s ∷ ss)
    → RoomyAll u rs (before ++ s ∷ []) ss
rest_roomy u rs before s ss r =
    let pile : max (act_need (act_for u s)) (most_need (map (act_for u) ss)) ≤ rs.pile = r.pile in
    let handlers : sum_by call_count (map (act_for u) before) + sum_by call_count (act_for u s ∷ map (act_for u) ss) ≤ rs.handlers = r.handlers in
    let ends : sum_by call_count (map (act_for u) before) + sum_by call_count (act_for u s ∷ map (act_for u) ss) ≤ rs.ends = r.ends in
    let words : sum_by call_words (map (act_for u) before) + sum_by call_words (act_for u s ∷ map (act_for u) ss) ≤ rs.words = r.words in
    let one = sum_by-cons call_count (act_for u s) (map (act_for u) ss) in
    let two = sum_by-cons call_words (act_for u s) (map (act_for u) ss) in
    let calls_counted = counted call_count u before s in
    let words_counted = counted call_words u before s in
    record {
      pile = omega (arith, pile);
      handlers = omega (arith, handlers, one, calls_counted);
      ends = omega (arith, ends, one, calls_counted);
      words = omega (arith, words, two, words_counted);
    }

pub statements_go : (u : CUnit) (rs : Rooms) (row : List ℕ) (xs : List Value) (before ss : List Stmt) (p : Progress) (m : Memory)
    → IsTrue (types_come_first u) → AllZip (λ (y : CVar) w. IsValueOf u.types y.ty w) u.externs xs → row ≡ flat_map words_of xs
    → KnownAll u before ss → RoomyAll u rs before ss → IsProgress u before p → Follows u before p m
    → Agrees u (before ++ ss) (act_all rs row (map (act_for u) ss) m) (carry_out_all u xs ss p)
unfolding act_all carry_out_all
statements_go u rs row xs before [] p m first given is k r h f =
    subst (λ (all : List Stmt). Agrees u all (done (Ok m)) (done (Ok p))) (sym (append-nil before)) (record { value = f; count = refl })
statements_go u rs row xs before (s ∷ ss) p m first given is k r h f =
    let one = first_known u before s ss k in
    subst (λ (all : List Stmt). Agrees u all (act rs row (act_for u s) m >>= act_all rs row (map (act_for u) ss)) (carry_out u xs s p >>= carry_out_all u xs ss))
    (append_assoc before (s ∷ []) ss)
    (then_agrees u (before ++ s ∷ []) ((before ++ s ∷ []) ++ ss) (act rs row (act_for u s) m) (carry_out u xs s p)
    (act_all rs row (map (act_for u) ss)) (carry_out_all u xs ss) (IsProgress u (before ++ s ∷ []))
    (statement_goes u rs before s p m row xs first given is one h f (first_roomy u rs before s ss r))
    (carry_out-is u xs before s p given one.ruled h)
    (λ n q g i. statements_go u rs row xs (before ++ s ∷ []) ss q n first given is (rest_known u before s ss k) (rest_roomy u rs before s ss r) i g))
