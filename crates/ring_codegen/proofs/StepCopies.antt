-- The copies of a step: each extern's copy gets the row's value.
use Rattle.std.proofs.Common.{◌≡◌, ℕ, suc, ◌+◌, ◌<◌, Bool, true, false, List, [], ◌∷◌, length, map, Option, Some, refl, sym, ap, ◌∙◌, subst, arith}
use Rattle.std.specs.Prelude.{slice_get, slice_set, nat_eq}
use Rattle.std.specs.Option.{option_map_or}
use Rattle.std.proofs.lemmas.Bool.Decides.{nat_tests}
use Rattle.sm_io.proofs.Elements.{get_within}
use Rattle.stream_core.specs.declared.spec.ExternItem.{ExternItem}
use Rattle.stream_core.specs.Term.{TreeSpec}
use Rattle.c99_tree.specs.declared.unit.Unit.{Unit as CUnit}
use Rattle.c99_tree.specs.Tree.{statement}
use Rattle.c99_tree.specs.Lookup.{place_of_var}
use Rattle.c99_tree.specs.Values.{Value, no_such_value}
use Rattle.c99_tree.specs.Evaluation.{value_at}
use Rattle.c99_tree.specs.Step.{Progress, with_statics, with_copy}
use Rattle.ring_codegen.specs.Translation.{copy_statement}
use Rattle.ring_codegen.proofs.NamedOnce.{LooksUp}
use Rattle.ring_codegen.proofs.Reaching.{Reaches, reach_none, reach_more, set_here, set_other, set_length}

-- the first k of n copies are those of the row
pub record AreCopied (xs : List Value) (n k : ℕ) (cs : List Value) : Type 0 where
  pub long : length cs ≡ n
  pub same : (i : ℕ) → i < k → slice_get cs i ≡ slice_get xs i

one_copied : (xs cs : List Value) (n k : ℕ) → length xs ≡ n → k < n → AreCopied xs n k cs → AreCopied xs n (suc k) (slice_set cs k (value_at xs k))
one_copied xs cs n k long b h =
    let l = h.long in
    let at = get_within xs k (omega (arith, long, b)) in
    let v : value_at xs k ≡ at.0 = ap (λ (o : Option Value). option_map_or (λ (v : Value). v) o no_such_value) at.1 in
    let here : slice_get (slice_set cs k (value_at xs k)) k ≡ slice_get xs k = set_here cs k (value_at xs k) (omega (arith, l, b)) ∙ ap (λ (y : Value). Some y) v ∙ sym at.1 in
    record { long = set_length cs k (value_at xs k) ∙ h.long; same = λ i c. by here i c (nat_eq i k) refl }
  where
    by : slice_get (slice_set cs k (value_at xs k)) k ≡ slice_get xs k → (i : ℕ) → i < suc k → (d : Bool) → nat_eq i k ≡ d → slice_get (slice_set cs k (value_at xs k)) i ≡ slice_get xs i
    by here i c true q = let e : k ≡ i = grind (arith, nat_tests, q) in subst (λ (z : ℕ). slice_get (slice_set cs k (value_at xs k)) z ≡ slice_get xs z) e here
    by here i c false q = let e : i < k = grind (arith, nat_tests, q, c) in set_other cs k i (value_at xs k) (λ f. omega (arith, e, f)) ∙ h.same i e

module _ (spec : TreeSpec) (u : CUnit) (looks : LooksUp spec u) (xs : List Value) (n : ℕ) (long : length xs ≡ n) where
  -- where the copies of these externs lead
  pub record Copied (es : List ExternItem) (p : Progress) : Type 0 where
    pub end : Progress
    pub reach : Reaches u xs (map statement (map copy_statement es)) p end
    pub copies : AreCopied xs n n end.statics.copies
    pub rings : end.statics.rings ≡ p.statics.rings
    pub locals : end.locals ≡ p.locals
    pub called : end.called ≡ p.called

  pub copied : (es : List ExternItem) (k : ℕ) (p : Progress) → ((j : ℕ) (x : ExternItem) → slice_get es j ≡ Some x → slice_get spec.externs (k + j) ≡ Some x)
      → k + length es ≡ n → AreCopied xs n k p.statics.copies → Copied es p
  copied [] k p at total h =
      let e : k ≡ n = omega (arith, total) in
      record { end = p; reach = reach_none u xs p; copies = subst (λ (z : ℕ). AreCopied xs n z p.statics.copies) e h; rings = refl; locals = refl; called = refl }
  copied (x ∷ es) k p at total h =
      let z : k + 0 ≡ k = omega arith in
      let here : slice_get spec.externs k ≡ Some x = subst (λ (i : ℕ). slice_get spec.externs i ≡ Some x) z (at 0 x refl) in
      let place = looks.var_place k x here in
      let q : Progress = with_statics p (with_copy u x.name (value_at xs (place_of_var u.externs x.name)) p.statics) in
      let one : AreCopied xs n (suc k) q.statics.copies =
      subst (λ (i : ℕ). AreCopied xs n (suc k) (slice_set p.statics.copies i (value_at xs i))) (sym place) (one_copied xs p.statics.copies n k long (omega (arith, total)) h) in
      let rest = copied es (suc k) q (λ j y e. let s : k + suc j ≡ suc k + j = omega arith in subst (λ (i : ℕ). slice_get spec.externs i ≡ Some y) s (at (suc j) y e)) (omega (arith, total)) one in
      record {
        end = rest.end;
        reach = reach_more u xs (statement (copy_statement x)) (map statement (map copy_statement es)) p q rest.end refl rest.reach;
        copies = rest.copies;
        rings = rest.rings;
        locals = rest.locals;
        called = rest.called;
      }
