-- A form reads two operands at most.
use Rattle.std.proofs.Common.{◌≡◌, ℕ, zero, suc, ◌<◌, ◌≤◌, ◌-◌, max, Bool, true, false, List, [], ◌∷◌, length, get_or, refl, ap, ◌∙◌, arith}
use Rattle.stream_core.specs.declared.node.LibForm.{LibForm}
use Rattle.stream_core.specs.declared.node.LibForm.TheVariants as form
use Rattle.stream_core.specs.Term.{Term}
use Rattle.stream_core.specs.Value.{SpecValue}
use Rattle.stream_core.specs.Lower.{agos, form_term}
use Rattle.stream_lib.specs.Built.{bounded, idle, joined, tree_at, trees_at}
use Rattle.stream_lib.proofs.Nested.{joined_and, joined_or}

first_two : (f : LibForm) (b : ℕ) (p q : Term) (ps : List Term) → form_term f b (p ∷ q ∷ []) ≡ form_term f b (p ∷ q ∷ ps)
first_two form.Once b p q ps = refl
first_two form.Historically b p q ps = refl
first_two form.Yesterday b p q ps = refl
first_two form.WeaklyYesterday b p q ps = refl
first_two form.Since b p q ps = refl
first_two (form.OnceIn zero high) b p q ps = refl
first_two (form.OnceIn (suc low) high) b p q ps = refl
first_two (form.HistoricallyIn zero high) b p q ps = refl
first_two (form.HistoricallyIn (suc low) high) b p q ps = refl
first_two (form.SinceIn low high) b p q ps = refl
first_two (form.Clock period phase) b p q ps = refl
first_two (form.WindowMax n s) b p q ps = refl
first_two (form.WindowMin n s) b p q ps = refl
first_two (form.WindowSum n s) b p q ps = refl

pub two_operands : (s : SpecValue) (f : LibForm) (b : ℕ) (is : List ℕ) (p q : ℕ) → 2 ≤ length is → p ≡ get_or is 0 p → q ≡ get_or is 1 q
    → form_term f b (tree_at s p ∷ tree_at s q ∷ []) ≡ form_term f b (trees_at s is)
two_operands s f b [] p q h a c = absurd (omega (arith, h))
two_operands s f b (i ∷ []) p q h a c = absurd (omega (arith, h))
two_operands s f b (i ∷ j ∷ is) p q h a c =
    ap (λ x. form_term f b (tree_at s x ∷ tree_at s q ∷ [])) a
    ∙ ap (λ x. form_term f b (tree_at s i ∷ tree_at s x ∷ [])) c
    ∙ first_two f b (tree_at s i) (tree_at s j) (trees_at s is)

pub once_in_is : (low high b : ℕ) (p : Term) → bounded false low high b p ≡ form_term (form.OnceIn low high) b (p ∷ [])
once_in_is zero high b p = joined_or p (agos b (max high 1) 1 high)
once_in_is (suc low) high b p = joined_or (idle false p) (agos b (max high 1) (suc low) (high - low))

pub historically_in_is : (low high b : ℕ) (p : Term) → bounded true low high b p ≡ form_term (form.HistoricallyIn low high) b (p ∷ [])
historically_in_is zero high b p = joined_and p (agos b (max high 1) 1 high)
historically_in_is (suc low) high b p = joined_and (idle true p) (agos b (max high 1) (suc low) (high - low))

pub bounded_past : (all : Bool) (low high b : ℕ) (p : Term) → 0 < low → joined all (idle all p ∷ agos b (max high 1) low (high - (low - 1))) ≡ bounded all low high b p
bounded_past all zero high b p h = absurd (omega (arith, h))
bounded_past all (suc low) high b p h = let e : suc low - 1 ≡ low = omega arith in rw e refl
