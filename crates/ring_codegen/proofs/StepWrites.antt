-- The writes of a step: each ring takes its stream's next value in the place of the oldest, and moves on.
use Rattle.std.proofs.Common.{◌≡◌, ℕ, suc, ◌+◌, ◌%◌, ◌^◌, ◌<◌, ◌≤◌, Bool, true, false, List, [], ◌∷◌, length, map, Option, Some, Ok, Err, refl, sym, ap, ◌∙◌, subst, arith}
use Rattle.std.specs.Prelude.{slice_get, slice_set, slice_index_or, nat_eq, nat_lt, nat_le, pos, unsigned_abs, if◌then◌else◌}
use Rattle.std.specs.Option.{option_map_or}
use Rattle.std.specs.List.{flat_map}
use Rattle.std.proofs.lemmas.Bool.Decides.{nat_tests}
use Rattle.std.proofs.Math.Nat.{mod-eq_of_lt}
use Rattle.std.proofs.lemmas.List.{map-append}
use Rattle.sm_io.proofs.Elements.{get_within}
use Rattle.stream_core.specs.Term.{TreeSpec, TreeStream, initial_count}
use Rattle.stream_core.specs.Eval.{Moment, entry_at}
use Rattle.c99_tree.specs.declared.expr.CLit.TheVariants as k
use Rattle.c99_tree.specs.declared.expr.CBin.TheVariants as o
use Rattle.c99_tree.specs.declared.expr.CExpr.TheVariants as e
use Rattle.c99_tree.specs.declared.types.CScalar.TheVariants as t
use Rattle.c99_tree.specs.declared.unit.CStmt.TheVariants as s
use Rattle.c99_tree.specs.declared.unit.Unit.{Unit as CUnit}
use Rattle.c99_tree.specs.declared.undefined.Undefined.TheVariants as why
use Rattle.c99_tree.specs.Tree.{Stmt, head, stores, moves, puts, tree, statement}
use Rattle.c99_tree.specs.TreeLaws.{tree-Head}
use Rattle.c99_tree.specs.CTypes.{Num, num, converted}
use Rattle.c99_tree.specs.Lookup.{place_of_ring}
use Rattle.c99_tree.specs.Values.{Value, number, number_in, no_such_value}
use Rattle.c99_tree.specs.Evaluation.{done, ◌>>=◌, RingState, value_at, values_in, index_in, element, evaluate}
use Rattle.c99_tree.specs.Step.{Progress, with_statics, with_ring, local_in, stored, carry_out}
use Rattle.c99_tree.proofs.NumberRanges.{within_range}
use Rattle.ring_codegen.specs.Translation.{is_indexed, place_behind, write_statements}
use Rattle.ring_codegen.specs.Standing.{HasWords, HoldsAt, RingStands, HoldsRing, IsNextList, IsNextMoment}
use Rattle.ring_codegen.proofs.WordNumbers.{number_kept}
use Rattle.ring_codegen.proofs.Evaluated.{then_value, head_value, place_value}
use Rattle.ring_codegen.proofs.NamedOnce.{LooksUp}
use Rattle.ring_codegen.proofs.TypesGiven.{tree_place}
use Rattle.ring_codegen.proofs.Reaching.{Reaches, reach_none, reach_more, reach_both, set_here, set_other, set_length, next_place, whole_round, other_place, place_below}
use Rattle.ring_codegen.proofs.StepNexts.{HoldNexts}

-- a ring after its write
abbrev pub turned : RingState → Value → ℕ → RingState
turned state v len = record { values = slice_set state.values state.index v; index = (state.index + 1) % len }

module _ (spec : TreeSpec) (m next : Moment) (k : ℕ) (x : TreeStream) (state : RingState) (v : Value) (ws : List ℕ) (some : 1 ≤ initial_count spec.types x) where
  abbrev len : ℕ
  len = initial_count spec.types x

  turn_stands : RingStands spec m k x state → HasWords spec.types x.ty v ws → IsNextList m next k len ws → RingStands spec next k x (turned state v len)
  turn_stands h w n = record {
    long = set_length state.values state.index v ∙ h.long;
    index = place_below (state.index + 1) len (omega (arith, some));
    entries = λ j b. by j b (nat_lt (suc j) len) refl;
  }
    where
      by : (j : ℕ) → j < len → (d : Bool) → nat_lt (suc j) len ≡ d → HoldsAt spec.types x.ty (slice_set state.values state.index v) (((state.index + 1) % len + j) % len) (entry_at next.table k (next.time + j))
      by j b true q =
          let c : suc j < len = grind (arith, nat_tests, q) in
          let old = h.entries (suc j) c in
          let place = next_place state.index j len h.index b in
          let other = set_other state.values state.index ((state.index + suc j) % len) v (λ f. other_place state.index (suc j) len h.index (omega arith) c f) in
          record {
            value = old.value;
            is = ap (λ (i : ℕ). slice_get (slice_set state.values state.index v) i) place ∙ other ∙ old.is;
            words = subst (HasWords spec.types x.ty old.value) (sym (n.before j c)) old.words;
          }
      by j b false q =
          let c : suc j ≡ len = grind (arith, nat_tests, q, b) in
          let place = next_place state.index j len h.index b in
          let round : (state.index + suc j) % len ≡ state.index = ap (λ (i : ℕ). (state.index + i) % len) c ∙ whole_round state.index len h.index in
          let l = h.long in
          let i = h.index in
          record {
            value = v;
            is = ap (λ (i : ℕ). slice_get (slice_set state.values state.index v) i) (place ∙ round) ∙ set_here state.values state.index v (omega (arith, l, i));
            words = subst (HasWords spec.types x.ty v) (sym (n.last j c)) w;
          }

  -- of one value
  put_stands : nat_le 2 len ≡ false → RingStands spec m k x state → HasWords spec.types x.ty v ws → IsNextList m next k len ws → RingStands spec next k x (record { values = v ∷ []; index = state.index })
  put_stands one h w n =
      let few : len < 2 = grind (arith, nat_tests, one) in
      let i = h.index in
      let l1 : len ≡ 1 = omega (arith, few, some) in
      let z : state.index ≡ 0 = omega (arith, few, i) in
      record {
        long = sym l1;
        index = h.index;
        entries = λ j b.
            let jz : j ≡ 0 = omega (arith, few, b) in
            let sum : state.index + j < len = omega (arith, z, jz, some) in
            let none : state.index + j ≡ 0 = omega (arith, z, jz) in
            let place : (state.index + j) % len ≡ 0 = mod-eq_of_lt sum ∙ none in
            let end : suc j ≡ len = omega (arith, jz, l1) in
            record { value = v; is = ap (λ (i : ℕ). slice_get (v ∷ []) i) place; words = subst (HasWords spec.types x.ty v) (sym (n.last j end)) w };
      }

-- ---- what the statements do

number32 : (n : ℕ) → n < 2 ^ 32 → converted t.U32 (num t.U32 (pos n)) ≡ Ok (num t.U32 (pos n))
number32 n b = number_kept t.U32 (num t.U32 (pos n)) (pos n) refl (within_range t.U32 (pos n) (grind (arith, nat_tests, b)))

put_done : (u : CUnit) (xs : List Value) (r : List ℕ) (p : Progress)
    → (carry_out u xs (puts r) p).value ≡ Ok (with_statics p (with_ring u r (local_in u p r ∷ []) (index_in u p.statics r) p.statics))
put_done u xs r p = refl

store_done : (u : CUnit) (xs : List Value) (r : List ℕ) (p : Progress) (old : Value) → element (values_in u p.statics r) (pos (index_in u p.statics r)) ≡ Ok old
    → (carry_out u xs (stores r (head r)) p).value ≡ Ok (with_statics p (with_ring u r (slice_set (values_in u p.statics r) (index_in u p.statics r) (local_in u p r)) (index_in u p.statics r) p.statics))
store_done u xs r p old h =
    then_value (evaluate u p.statics (head r)) (λ (v : Value). stored u r p (number_in v)) (number (num t.U32 (pos (index_in u p.statics r)))) (head_value u p.statics r)
    ∙ then_value (done (element (values_in u p.statics r) (pos (index_in u p.statics r))))
    (λ (old : Value). done (Ok (with_statics p (with_ring u r (slice_set (values_in u p.statics r) (index_in u p.statics r) (local_in u p r)) (index_in u p.statics r) p.statics)))) old h

move_done : (u : CUnit) (xs : List Value) (r : List ℕ) (p : Progress) (len : ℕ) → 0 < len → index_in u p.statics r + 1 < 2 ^ 32 → len < 2 ^ 32
    → (carry_out u xs (moves r (tree (e.Bin o.Rem (e.Bin o.Add (e.Head r) (e.Lit k.U 1)) (e.Lit k.U len)))) p).value
    ≡ Ok (with_statics p (with_ring u r (values_in u p.statics r) ((index_in u p.statics r + 1) % len) p.statics))
move_done u xs r p len some a b =
    let place = (index_in u p.statics r + 1) % len in
    let low : place < len = place_below (index_in u p.statics r + 1) len some in
    ap (λ z. (carry_out u xs (moves r z) p).value) (tree_place r 1 len)
    ∙ then_value (evaluate u p.statics _) (λ (v : Value). done (converted t.U32 (number_in v)) >>= λ (k : Num). done (Ok (with_statics p (with_ring u r (values_in u p.statics r) (unsigned_abs k.n) p.statics))))
    (number (num t.U32 (pos place))) (place_value u p.statics r 1 len some a b)
    ∙ then_value (done (converted t.U32 (num t.U32 (pos place)))) (λ (k : Num). done (Ok (with_statics p (with_ring u r (values_in u p.statics r) (unsigned_abs k.n) p.statics))))
    (num t.U32 (pos place)) (number32 place (omega (arith, low, b)))

-- ---- all

module _ (spec : TreeSpec) (u : CUnit) (m next : Moment) (xs : List Value) (looks : LooksUp spec u) (nexts : List (List ℕ)) (n : ℕ)
    (grows : IsNextMoment spec m next nexts) where
  -- the first k rings stand for the next moment, and the others for this one
  pub record AreWritten (k : ℕ) (rings : List RingState) : Type 0 where
    pub long : length rings ≡ n
    pub written : (i : ℕ) (x : TreeStream) → slice_get spec.streams i ≡ Some x → i < k → HoldsRing spec next rings i x
    pub waiting : (i : ℕ) (x : TreeStream) → slice_get spec.streams i ≡ Some x → k ≤ i → HoldsRing spec m rings i x

  kept_ring : (l : Moment) (i : ℕ) (x : TreeStream) (old new : List RingState) → slice_get new i ≡ slice_get old i → HoldsRing spec l old i x → HoldsRing spec l new i x
  kept_ring l i x old new e h = record { state = h.state; is = e ∙ h.is; stands = h.stands }

  one_written : (k : ℕ) (x : TreeStream) (old new : List RingState) (state : RingState) → slice_get spec.streams k ≡ Some x → AreWritten k old → length new ≡ n → slice_get new k ≡ Some state
      → ((i : ℕ) → (i ≡ k → ⊥) → slice_get new i ≡ slice_get old i) → RingStands spec next k x state → AreWritten (suc k) new
  one_written k x old new state at h l here others stands = record {
    long = l;
    written = λ i y e b. by i y e b (nat_eq i k) refl;
    waiting = λ i y e b. kept_ring m i y old new (others i (λ f. omega (arith, b, f))) (h.waiting i y e (omega (arith, b)));
  }
    where
      by : (i : ℕ) (y : TreeStream) → slice_get spec.streams i ≡ Some y → i < suc k → (d : Bool) → nat_eq i k ≡ d → HoldsRing spec next new i y
      by i y e b true q =
          let s : k ≡ i = grind (arith, nat_tests, q) in
          let same : Some x ≡ Some y = sym at ∙ ap (λ (z : ℕ). slice_get spec.streams z) s ∙ e in
          let xy : x ≡ y = cc same in
          let one : HoldsRing spec next new k x = record { state = state; is = here; stands = stands } in
          subst (λ (z : TreeStream). HoldsRing spec next new i z) xy (subst (λ (z : ℕ). HoldsRing spec next new z x) s one)
      by i y e b false q = let s : i < k = grind (arith, nat_tests, q, b) in kept_ring next i y old new (others i (λ f. omega (arith, s, f))) (h.written i y e s)

  -- where the write of one stream leads
  pub record Wrote (k : ℕ) (x : TreeStream) (p : Progress) : Type 0 where
    pub end : Progress
    pub reach : Reaches u xs (map statement (write_statements spec.types x)) p end
    pub rings : AreWritten (suc k) end.statics.rings
    pub copies : end.statics.copies ≡ p.statics.copies
    pub locals : end.locals ≡ p.locals
    pub called : end.called ≡ p.called

  module _ (k : ℕ) (x : TreeStream) (p : Progress) (at : slice_get spec.streams k ≡ Some x) (b : k < n) (h : AreWritten k p.statics.rings) (hold : HoldNexts spec nexts n n p.locals) where
    ring : HoldsRing spec m p.statics.rings k x
    ring = h.waiting k x at (omega arith)

    local : HoldsAt spec.types x.ty p.locals k (slice_index_or nexts k [])
    local = hold.holds k x at b

    place : place_of_ring u x.name ≡ k
    place = looks.ring_place k x at

    local_is : local_in u p x.name ≡ local.value
    local_is = ap (λ (i : ℕ). value_at p.locals i) place ∙ ap (λ (w : Option Value). option_map_or (λ (v : Value). v) w no_such_value) local.is

    values_are : values_in u p.statics x.name ≡ ring.state.values
    values_are = ap (λ (i : ℕ). option_map_or (λ (r : RingState). r.values) (slice_get p.statics.rings i) []) place ∙ ap (λ (w : Option RingState). option_map_or (λ (r : RingState). r.values) w []) ring.is

    index_is : index_in u p.statics x.name ≡ ring.state.index
    index_is = ap (λ (i : ℕ). option_map_or (λ (r : RingState). r.index) (slice_get p.statics.rings i) 0) place ∙ ap (λ (w : Option RingState). option_map_or (λ (r : RingState). r.index) w 0) ring.is

    set_written : (rings : List RingState) (state : RingState) → rings ≡ slice_set p.statics.rings (place_of_ring u x.name) state → RingStands spec next k x state → AreWritten (suc k) rings
    set_written rings state e stands =
        let l = h.long in
        let r : rings ≡ slice_set p.statics.rings k state = e ∙ ap (λ (i : ℕ). slice_set p.statics.rings i state) place in
        subst (AreWritten (suc k)) (sym r)
        (one_written k x p.statics.rings (slice_set p.statics.rings k state) state at h (set_length p.statics.rings k state ∙ l) (set_here p.statics.rings k state (omega (arith, l, b)))
        (λ i f. set_other p.statics.rings k i state f) stands)

    put : nat_le 2 (initial_count spec.types x) ≡ false → (q : Progress) × ((carry_out u xs (puts x.name) p).value ≡ Ok q) × AreWritten (suc k) q.statics.rings × (q.statics.copies ≡ p.statics.copies) × (q.locals ≡ p.locals) × (q.called ≡ p.called)
    put one =
        let new : RingState = record { values = local_in u p x.name ∷ []; index = index_in u p.statics x.name } in
        let stands = put_stands spec m next k x ring.state local.value (slice_index_or nexts k []) (looks.long k x at).some one ring.stands local.words (grows k x at) in
        let same : record { values = local.value ∷ []; index = ring.state.index } ≡ new = λ j. record { values = sym local_is j ∷ []; index = sym index_is j } in (
          with_statics p (with_ring u x.name (local_in u p x.name ∷ []) (index_in u p.statics x.name) p.statics),
          refl,
          set_written (slice_set p.statics.rings (place_of_ring u x.name) new) new refl (subst (RingStands spec next k x) same stands),
          refl,
          refl,
          refl,
        )

    -- an indexed ring
    abbrev size : ℕ
    size = initial_count spec.types x

    abbrev first_state : RingState
    first_state = record { values = slice_set (values_in u p.statics x.name) (index_in u p.statics x.name) (local_in u p x.name); index = index_in u p.statics x.name }

    abbrev stored_at : Progress
    stored_at = with_statics p (with_ring u x.name (slice_set (values_in u p.statics x.name) (index_in u p.statics x.name) (local_in u p x.name)) (index_in u p.statics x.name) p.statics)

    stored_ring : slice_get stored_at.statics.rings (place_of_ring u x.name) ≡ Some first_state
    stored_ring = let l = h.long in let q = place in set_here p.statics.rings (place_of_ring u x.name) first_state (omega (arith, l, b, q))

    stored_values : values_in u stored_at.statics x.name ≡ first_state.values
    stored_values = ap (λ (w : Option RingState). option_map_or (λ (r : RingState). r.values) w []) stored_ring

    stored_index : index_in u stored_at.statics x.name ≡ first_state.index
    stored_index = ap (λ (w : Option RingState). option_map_or (λ (r : RingState). r.index) w 0) stored_ring

    abbrev moved_at : Progress
    moved_at = with_statics stored_at (with_ring u x.name (values_in u stored_at.statics x.name) ((index_in u stored_at.statics x.name + 1) % size) stored_at.statics)

    last_state : turned ring.state local.value size ≡ record { values = values_in u stored_at.statics x.name; index = (index_in u stored_at.statics x.name + 1) % size }
    last_state =
        (λ j. record { values = slice_set (sym values_are j) (sym index_is j) (sym local_is j); index = (sym index_is j + 1) % size })
        ∙ (λ j. record { values = sym stored_values j; index = (sym stored_index j + 1) % size })

    twice_written : (rings : List RingState) (one two : RingState) → rings ≡ slice_set (slice_set p.statics.rings (place_of_ring u x.name) one) (place_of_ring u x.name) two → RingStands spec next k x two → AreWritten (suc k) rings
    twice_written rings one two q stands =
        let l = h.long in
        let m1 = set_length p.statics.rings k one in
        let r : rings ≡ slice_set (slice_set p.statics.rings k one) k two = q ∙ ap (λ (i : ℕ). slice_set (slice_set p.statics.rings i one) i two) place in
        subst (AreWritten (suc k)) (sym r)
        (one_written k x p.statics.rings (slice_set (slice_set p.statics.rings k one) k two) two at h (set_length (slice_set p.statics.rings k one) k two ∙ m1 ∙ l)
        (set_here (slice_set p.statics.rings k one) k two (omega (arith, l, m1, b)))
        (λ i f. set_other (slice_set p.statics.rings k one) k i two f ∙ set_other p.statics.rings k i one f) stands)

    element_there : (vs : List Value) (i : ℕ) → i < length vs → (old : Value) × (element vs (pos i) ≡ Ok old)
    element_there vs i c = let at = get_within vs i c in (at.0, ap (λ (w : Option Value). option_map_or Ok w (Err why.BadIndex)) at.1)

    store_is : (carry_out u xs (stores x.name (tree (e.Head x.name))) p).value ≡ Ok stored_at
    store_is =
        let i = ring.stands.index in
        let l = ring.stands.long in
        let vl : length (values_in u p.statics x.name) ≡ length ring.state.values = ap length values_are in
        let ii = index_is in
        let there = element_there (values_in u p.statics x.name) (index_in u p.statics x.name) (omega (arith, i, l, vl, ii)) in
        ap (λ z. (carry_out u xs (stores x.name z) p).value) (tree-Head x.name) ∙ store_done u xs x.name p there.0 there.1

    move_is : (carry_out u xs (moves x.name (tree (place_behind spec.types x 1))) stored_at).value ≡ Ok moved_at
    move_is =
        let i = ring.stands.index in
        let most = (looks.long k x at).most in
        let some = (looks.long k x at).some in
        let ii = index_is in
        let si = stored_index in
        move_done u xs x.name stored_at size (omega (arith, some)) (omega (arith, i, most, ii, si)) (omega (arith, most))

    turned_stands : RingStands spec next k x (record { values = values_in u stored_at.statics x.name; index = (index_in u stored_at.statics x.name + 1) % size })
    turned_stands = subst (RingStands spec next k x) last_state (turn_stands spec m next k x ring.state local.value (slice_index_or nexts k []) (looks.long k x at).some ring.stands local.words (grows k x at))

    pub wrote : Wrote k x p
    wrote = by (is_indexed spec.types x) refl
      where
        by : (d : Bool) → is_indexed spec.types x ≡ d → Wrote k x p
        by true q = record {
          end = moved_at;
          reach = subst (λ (c : Bool). Reaches u xs (map statement (if c then s.Store x.name (e.Head x.name) ∷ s.Move x.name (place_behind spec.types x 1) ∷ [] else s.Put x.name ∷ [])) p moved_at) (sym q)
              (reach_more u xs (stores x.name (tree (e.Head x.name))) (moves x.name (tree (place_behind spec.types x 1)) ∷ []) p stored_at moved_at store_is
              (reach_more u xs (moves x.name (tree (place_behind spec.types x 1))) [] stored_at moved_at moved_at move_is (reach_none u xs moved_at)));
          rings = twice_written moved_at.statics.rings first_state (record { values = values_in u stored_at.statics x.name; index = (index_in u stored_at.statics x.name + 1) % size }) refl turned_stands;
          copies = refl;
          locals = refl;
          called = refl;
        }
        by false q =
            let r = put q in
            record {
              end = r.0;
              reach = subst (λ (c : Bool). Reaches u xs (map statement (if c then s.Store x.name (e.Head x.name) ∷ s.Move x.name (place_behind spec.types x 1) ∷ [] else s.Put x.name ∷ [])) p r.0) (sym q)
                  (reach_more u xs (puts x.name) [] p r.0 r.0 r.1 (reach_none u xs r.0));
              rings = r.2;
              copies = r.3;
              locals = r.4;
              called = r.5;
            }

  -- where the writes of these streams lead
  pub record AllWrote (ss : List TreeStream) (p : Progress) : Type 0 where
    pub end : Progress
    pub reach : Reaches u xs (map statement (flat_map (write_statements spec.types) ss)) p end
    pub rings : AreWritten n end.statics.rings
    pub copies : end.statics.copies ≡ p.statics.copies
    pub called : end.called ≡ p.called

  pub all_wrote : (ss : List TreeStream) (k : ℕ) (p : Progress) → ((j : ℕ) (x : TreeStream) → slice_get ss j ≡ Some x → slice_get spec.streams (k + j) ≡ Some x)
      → k + length ss ≡ n → AreWritten k p.statics.rings → HoldNexts spec nexts n n p.locals → AllWrote ss p
  all_wrote [] k p at total h hold =
      let q : k ≡ n = omega (arith, total) in
      record { end = p; reach = reach_none u xs p; rings = subst (λ (z : ℕ). AreWritten z p.statics.rings) q h; copies = refl; called = refl }
  all_wrote (x ∷ ss) k p at total h hold =
      let z : k + 0 ≡ k = omega arith in
      let here : slice_get spec.streams k ≡ Some x = subst (λ (i : ℕ). slice_get spec.streams i ≡ Some x) z (at 0 x refl) in
      let one = wrote k x p here (omega (arith, total)) h hold in
      let rest = all_wrote ss (suc k) one.end (λ j y e. let s : k + suc j ≡ suc k + j = omega arith in subst (λ (i : ℕ). slice_get spec.streams i ≡ Some y) s (at (suc j) y e))
      (omega (arith, total)) one.rings (subst (HoldNexts spec nexts n n) (sym one.locals) hold) in
      record {
        end = rest.end;
        reach = subst (λ (zs : List Stmt). Reaches u xs zs p rest.end) (sym (map-append statement (write_statements spec.types x) (flat_map (write_statements spec.types) ss)))
            (reach_both u xs (map statement (write_statements spec.types x)) (map statement (flat_map (write_statements spec.types) ss)) p one.end rest.end one.reach rest.reach);
        rings = rest.rings;
        copies = rest.copies ∙ one.copies;
        called = rest.called ∙ one.called;
      }
