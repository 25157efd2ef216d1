-- The weights of nodes and buffers are those of their plain trees.
use Rattle.std.proofs.Common.{◌≡◌, ℕ, max, List, [], ◌∷◌, length, map, Some, refl, sym, ap, ◌∙◌, arith}
use Rattle.std.specs.Prelude.{slice_get, sum}
use Rattle.stream_core.specs.declared.node.LibForm.{LibForm}
use Rattle.stream_core.specs.declared.node.LibForm.TheVariants as form
use Rattle.stream_core.specs.declared.spec.LibItem.{LibItem}
use Rattle.stream_core.specs.Value.{SpecValue}
use Rattle.stream_core.specs.Term.{Term, trees}
use Rattle.stream_core.specs.Lower.{buffer_of, buffers_of}
use Rattle.std.proofs.lemmas.List.{length-map}
use Rattle.stream_core.specs.WellTyped.{WellTyped, operand_types}
use Rattle.stream_core.specs.Weights.{heavy, buffers_weight, heaviest_buffer}
use Rattle.stream_core.specs.PlainTrees.{lowered_tree, buffer_weights, greatest}
use Rattle.stream_core.proofs.FormWeights.{over, stream_over, form_is, buffers_are}
use Rattle.stream_core.proofs.WholeWeight.{G, root_is, sum_is}
use Rattle.stream_core.proofs.GoodNodes.{args_count}

-- ---- the heaviest buffer

module _ (G : ℕ → Term) where
  one : (w v : ℕ) → w ≡ v → max w 0 ≡ v
  one w v e = omega (arith, e)

  form_greatest : (f : LibForm) (number b at : ℕ) (ps : List Term) → length ps ≡ length (operand_types f) → greatest (map (stream_over G) (buffers_of f number b at ps)) ≡ heaviest_buffer f (map (over G) ps)
  form_greatest form.Once number b at ps e = one _ _ (form_is G form.Once b ps)
  form_greatest form.Historically number b at ps e = one _ _ (form_is G form.Historically b ps)
  form_greatest form.Since number b at ps e = one _ _ (form_is G form.Since b ps)
  form_greatest (form.Clock period phase) number b at ps e = one 8 8 refl
  form_greatest form.Yesterday number b at (p ∷ ps) e = one _ _ refl
  form_greatest form.WeaklyYesterday number b at (p ∷ ps) e = one _ _ refl
  form_greatest (form.OnceIn l h) number b at (p ∷ ps) e = one _ _ refl
  form_greatest (form.HistoricallyIn l h) number b at (p ∷ ps) e = one _ _ refl
  form_greatest (form.SinceIn l h) number b at (p ∷ q ∷ ps) e = ap (max (over G p)) (one (over G q) _ refl)
  form_greatest (form.WindowMax n s) number b at (p ∷ ps) e = one _ _ refl
  form_greatest (form.WindowMin n s) number b at (p ∷ ps) e = one _ _ refl
  form_greatest (form.WindowSum n s) number b at (p ∷ ps) e = one _ _ refl
  form_greatest form.Yesterday number b at [] e = absurd (omega (arith, e))
  form_greatest form.WeaklyYesterday number b at [] e = absurd (omega (arith, e))
  form_greatest (form.OnceIn l h) number b at [] e = absurd (omega (arith, e))
  form_greatest (form.HistoricallyIn l h) number b at [] e = absurd (omega (arith, e))
  form_greatest (form.SinceIn l h) number b at [] e = absurd (omega (arith, e))
  form_greatest (form.SinceIn l h) number b at (p ∷ []) e = absurd (omega (arith, e))
  form_greatest (form.WindowMax n s) number b at [] e = absurd (omega (arith, e))
  form_greatest (form.WindowMin n s) number b at [] e = absurd (omega (arith, e))
  form_greatest (form.WindowSum n s) number b at [] e = absurd (omega (arith, e))

-- ---- a specification

module _ (s : SpecValue) where
  args_are : (is : List ℕ) → map (over (G s)) (map (lowered_tree s) is) ≡ map (heavy s) is
  args_are [] = refl
  args_are (i ∷ is) = let h = root_is s i in let t = args_are is in cc

  pub all_buffers : (k : ℕ) (x : LibItem) → buffers_weight x.form (map (heavy s) x.args) ≡ sum (buffer_weights s k x)
  all_buffers k x =
      let number = buffer_of 1 (trees s).libs k in
      let b = buffer_of (length (trees s).streams) (trees s).libs k in
      sym (sum_is (buffer_weights s k x) ∙ buffers_are (G s) x.form number b x.at (map (lowered_tree s) x.args) ∙ ap (buffers_weight x.form) (args_are x.args))

  pub heaviest : WellTyped s → (k : ℕ) (x : LibItem) → slice_get s.libs k ≡ Some x → heaviest_buffer x.form (map (heavy s) x.args) ≡ greatest (buffer_weights s k x)
  heaviest w k x e =
      let number = buffer_of 1 (trees s).libs k in
      let b = buffer_of (length (trees s).streams) (trees s).libs k in
      sym (form_greatest (G s) x.form number b x.at (map (lowered_tree s) x.args) (length-map x.args (lowered_tree s) ∙ args_count s w k x e) ∙ ap (heaviest_buffer x.form) (args_are x.args))
