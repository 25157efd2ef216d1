-- The next values of a step: each stream's local gets its expression's value.
use Rattle.std.proofs.Common.{◌≡◌, ℕ, suc, ◌+◌, ◌<◌, Bool, true, false, List, [], ◌∷◌, length, map, Option, Some, Ok, refl, sym, ap, ◌∙◌, subst, arith}
use Rattle.std.specs.Prelude.{slice_get, slice_set, slice_index_or, nat_eq}
use Rattle.std.specs.Option.{option_map}
use Rattle.std.specs.List.{AllByRecursion}
use Rattle.std.proofs.lemmas.Bool.Decides.{nat_tests}
use Rattle.stream_types.specs.TypeList.{IsTypeList}
use Rattle.stream_core.specs.Term.{TreeSpec, TreeStream}
use Rattle.stream_core.specs.Eval.{Moment}
use Rattle.stream_core.specs.StepParts.{HaveValues}
use Rattle.c99_tree.specs.declared.unit.CRing.{CRing}
use Rattle.c99_tree.specs.declared.unit.Unit.{Unit as CUnit}
use Rattle.c99_tree.specs.Tree.{tree, statement}
use Rattle.c99_tree.specs.Lookup as look
use Rattle.c99_tree.specs.Lookup.{place_of_ring}
use Rattle.c99_tree.specs.Values.{Value}
use Rattle.c99_tree.specs.Evaluation.{done, ◌>>=◌, settled, evaluate}
use Rattle.c99_tree.specs.Step.{Progress, with_local, carry_out}
use Rattle.ring_codegen.specs.Translation.{translated, next_statement}
use Rattle.ring_codegen.specs.Standing.{HasWords, HoldsAt, StandsFor, IsMomentOf, IsTranslated}
use Rattle.ring_codegen.proofs.Evaluated.{then_value}
use Rattle.ring_codegen.proofs.NamedOnce.{LooksUp}
use Rattle.ring_codegen.proofs.OperatorPremises.{OperatorTypes, OperatorWords}
use Rattle.ring_codegen.proofs.ValuesGiven.{converts, gives}
use Rattle.ring_codegen.proofs.Reaching.{Reaches, reach_none, reach_more, set_here, set_other, set_length}

-- the locals of the first k of n streams hold their next values
pub record HoldNexts (spec : TreeSpec) (nexts : List (List ℕ)) (n k : ℕ) (locals : List Value) : Type 0 where
  pub long : length locals ≡ n
  pub holds : (i : ℕ) (x : TreeStream) → slice_get spec.streams i ≡ Some x → i < k → HoldsAt spec.types x.ty locals i (slice_index_or nexts i [])

module _ (spec : TreeSpec) (u : CUnit) (m : Moment) (xs : List Value) (types : OperatorTypes) (ops : OperatorWords) (good : IsTypeList spec.types) (looks : LooksUp spec u) (now : IsMomentOf spec m) (nexts : List (List ℕ)) (n : ℕ) where
  one_held : (k : ℕ) (x : TreeStream) (locals : List Value) (v : Value) → slice_get spec.streams k ≡ Some x → k < n → HasWords spec.types x.ty v (slice_index_or nexts k []) → HoldNexts spec nexts n k locals
      → HoldNexts spec nexts n (suc k) (slice_set locals k v)
  one_held k x locals v at b w h = record { long = set_length locals k v ∙ h.long; holds = λ i y e c. by i y e c (nat_eq i k) refl }
    where
      by : (i : ℕ) (y : TreeStream) → slice_get spec.streams i ≡ Some y → i < suc k → (d : Bool) → nat_eq i k ≡ d → HoldsAt spec.types y.ty (slice_set locals k v) i (slice_index_or nexts i [])
      by i y e c true q =
          let s : k ≡ i = grind (arith, nat_tests, q) in
          let l = h.long in
          let same : Some x ≡ Some y = sym at ∙ ap (λ (z : ℕ). slice_get spec.streams z) s ∙ e in
          let xy : x ≡ y = cc same in
          let here : HoldsAt spec.types x.ty (slice_set locals k v) k (slice_index_or nexts k []) = record { value = v; is = set_here locals k v (omega (arith, l, b)); words = w } in
          subst (λ (z : TreeStream). HoldsAt spec.types z.ty (slice_set locals k v) i (slice_index_or nexts i [])) xy (subst (λ (z : ℕ). HoldsAt spec.types x.ty (slice_set locals k v) z (slice_index_or nexts z [])) s here)
      by i y e c false q =
          let s : i < k = grind (arith, nat_tests, q, c) in
          let old = h.holds i y e s in
          record { value = old.value; is = set_other locals k i v (λ f. omega (arith, s, f)) ∙ old.is; words = old.words }

  -- where the next values of these streams lead
  pub record Computed (ss : List TreeStream) (p : Progress) : Type 0 where
    pub end : Progress
    pub reach : Reaches u xs (map statement (map (next_statement spec) ss)) p end
    pub statics : end.statics ≡ p.statics
    pub locals : HoldNexts spec nexts n n end.locals
    pub called : end.called ≡ p.called

  pub computed : (ss : List TreeStream) (k : ℕ) (p : Progress) (vs : List (List ℕ)) → ((j : ℕ) (x : TreeStream) → slice_get ss j ≡ Some x → slice_get spec.streams (k + j) ≡ Some x)
      → ((j : ℕ) → slice_index_or nexts (k + j) [] ≡ slice_index_or vs j []) → k + length ss ≡ n → AllByRecursion (λ (x : TreeStream). IsTranslated spec x.expr x.ty) ss → StandsFor spec m p.statics
      → HaveValues m (map (λ (x : TreeStream). x.expr) ss) vs → HoldNexts spec nexts n k p.locals → Computed ss p
  computed [] k p vs at same total h stand v hold =
      let e : k ≡ n = omega (arith, total) in
      record { end = p; reach = reach_none u xs p; statics = refl; locals = subst (λ (z : ℕ). HoldNexts spec nexts n z p.locals) e hold; called = refl }
  computed (x ∷ ss) k p [] at same total h stand v hold = absurd v
  computed (x ∷ ss) k p (w ∷ vs) at same total h stand v hold =
      let z : k + 0 ≡ k = omega arith in
      let here : slice_get spec.streams k ≡ Some x = subst (λ (i : ℕ). slice_get spec.streams i ≡ Some x) z (at 0 x refl) in
      let next : slice_index_or nexts k [] ≡ w = ap (λ (i : ℕ). slice_index_or nexts i []) (sym z) ∙ same 0 in
      let c = converts spec.types u p.statics (translated spec x.expr) x.ty w (gives spec u m p.statics types ops good looks now stand x.expr x.ty w h.0.typed h.0.plain h.0.written v.0) in
      let q : Progress = with_local u x.name c.kept p in
      let settled_is : settled (option_map (λ (ring : CRing). ring.ty) (look.ring_of u x.name)) c.value ≡ Ok c.kept =
      ap (λ (o : Option CRing). settled (option_map (λ (ring : CRing). ring.ty) o) c.value) (looks.ring k x here) ∙ c.to in
      let one : (carry_out u xs (statement (next_statement spec x)) p).value ≡ Ok q =
      then_value (evaluate u p.statics (tree (translated spec x.expr))) (λ (v : Value). done (settled (option_map (λ (ring : CRing). ring.ty) (look.ring_of u x.name)) v) >>= λ (y : Value). done (Ok (with_local u x.name y p))) c.value c.is
      ∙ then_value (done (settled (option_map (λ (ring : CRing). ring.ty) (look.ring_of u x.name)) c.value)) (λ (y : Value). done (Ok (with_local u x.name y p))) c.kept settled_is in
      let held : HoldNexts spec nexts n (suc k) q.locals =
      subst (λ (i : ℕ). HoldNexts spec nexts n (suc k) (slice_set p.locals i c.kept)) (sym (looks.ring_place k x here))
      (one_held k x p.locals c.kept here (omega (arith, total)) (subst (HasWords spec.types x.ty c.kept) (sym next) c.words) hold) in
      let rest = computed ss (suc k) q vs
      (λ j y e. let s : k + suc j ≡ suc k + j = omega arith in subst (λ (i : ℕ). slice_get spec.streams i ≡ Some y) s (at (suc j) y e))
      (λ j. let s : suc k + j ≡ k + suc j = omega arith in ap (λ (i : ℕ). slice_index_or nexts i []) s ∙ same (suc j))
      (omega (arith, total)) h.1 stand v.1 held in
      record {
        end = rest.end;
        reach = reach_more u xs (statement (next_statement spec x)) (map statement (map (next_statement spec) ss)) p q rest.end one rest.reach;
        statics = rest.statics;
        locals = rest.locals;
        called = rest.called;
      }
