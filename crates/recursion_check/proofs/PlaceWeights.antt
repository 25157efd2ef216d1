-- The weights that a place's own is made of.
use Rattle.std.proofs.Common.{◌≡◌, ⊎_elim, inl, inr, ℕ, ◌+◌, ◌-◌, ◌<◌, ◌≤◌, min, List, [], ◌∷◌, length, set, Some, refl, sym, ap, ◌∙◌, subst, arith}
use Rattle.std.specs.Prelude.{slice_get}
use Rattle.std.specs.List.{AllByRecursion}
use Rattle.std.proofs.lemmas.Bool.{cases_eq}
use Rattle.std.proofs.lemmas.Option.{slice_get_past, slice_get_within}
use Rattle.stream_core.specs.declared.node.Node.{Node}
use Rattle.stream_core.specs.declared.node.Node.TheVariants as node
use Rattle.stream_core.specs.declared.spec.DefItem.{DefItem}
use Rattle.stream_core.specs.Value.{SpecValue}
use Rattle.stream_core.specs.Ordered.{all_parts}
use Rattle.stream_core.specs.Term.{expr_at}
use Rattle.stream_core.specs.WellTyped.{WellTyped}
use Rattle.stream_core.specs.Weights.{heavy}
use Rattle.stream_core.specs.KnownWeights.{AreKnown, IsKnown, made_at, made_of}
use Rattle.recursion_check.specs.Graph.{Has, Joins, node_next}
use Rattle.recursion_check.specs.Weighed.{expr_or, node_at}
use Rattle.recursion_check.proofs.ListElements.{set_same, set_other}
use Rattle.recursion_check.proofs.Places.{next_at, next_def, part_joins, there_def}
use Rattle.sm_io.proofs.Elements.{get_within}

-- ---- a list of weights with one more

pub set_known : (s : SpecValue) (weights : List ℕ) (i w : ℕ) → i < length weights → w ≡ min (heavy s i) 262145 → IsKnown s (set weights i w) i
set_known s weights i w b e = set_same weights i w b ∙ ap Some e

pub set_kept : (s : SpecValue) (weights : List ℕ) (i w : ℕ) → w ≡ min (heavy s i) 262145 → (j : ℕ) → IsKnown s weights j → IsKnown s (set weights i w) j
set_kept s weights i w e j h =
    ⊎_elim
    (λ same. subst (IsKnown s (set weights i w)) same (set_known s weights i w (let b = slice_get_within weights j _ h in omega (arith, b, same)) e))
    (λ ne. set_other weights i j w ne ∙ h)
    (cases_eq i j)

-- ---- nodes of places

module _ (s : SpecValue) where
  abbrev D : ℕ
  D = length s.defs

  pub node_past : (v : ℕ) → D ≤ v → node_at s v ≡ v - D
  node_past v b = ap (expr_or (v - D)) (slice_get_past s.defs v b)

  pub node_behind : (i : ℕ) → node_at s (D + i) ≡ i
  node_behind i = node_past (D + i) (omega arith) ∙ (let e : D + i - D ≡ i = omega arith in e)

  node_def : (d : ℕ) (x : DefItem) → slice_get s.defs d ≡ Some x → node_at s d ≡ x.expr
  node_def d x e = ap (expr_or (d - D)) e

  module _ (weights : List ℕ) where
    abbrev NextKnown : ℕ → Type 0
    NextKnown v = (w : ℕ) → Joins s v w → IsKnown s weights (node_at s w)

    -- a def's node is its expression
    pub def_known : (v : ℕ) (x : DefItem) → slice_get s.defs v ≡ Some x → NextKnown v → IsKnown s weights (node_at s v)
    def_known v x e h =
        let j : Joins s v (D + x.expr) = subst (λ ys. Has ys (D + x.expr)) (sym (next_def s v x e)) (inl refl) in
        subst (IsKnown s weights) (node_behind x.expr ∙ sym (node_def v x e)) (h (D + x.expr) j)

    all_from : (P : ℕ → Type 0) (is : List ℕ) → ((j : ℕ) → Has is j → P j) → AllByRecursion P is
    all_from P [] h = tt
    all_from P (i ∷ is) h = (h i (inl refl), all_from P is (λ j q. h j (inr q)))

    next_of : (i : ℕ) (n : Node) → slice_get s.nodes i ≡ Some n → NextKnown (D + i) → (w : ℕ) → Has (node_next s (Some n)) w → IsKnown s weights (node_at s w)
    next_of i n e h w q = h w (subst (λ ys. Has ys w) (sym (next_at s i ∙ ap (node_next s) e)) q)

    parts_known : (i : ℕ) (n : Node) → slice_get s.nodes i ≡ Some n → NextKnown (D + i) → AreKnown s weights (all_parts s.libs n)
    parts_known i n e h = all_from (IsKnown s weights) (all_parts s.libs n) (λ j q. subst (IsKnown s weights) (node_behind j) (next_of i n e h (D + j) (part_joins s n j q)))

    -- a node is weighed by what it leads to
    made_known : (i : ℕ) (n : Node) → WellTyped s → slice_get s.nodes i ≡ Some n → NextKnown (D + i) → AreKnown s weights (made_of s n)
    made_known i (node.Def d) w e h =
        let y = get_within s.defs d (there_def s w i d (node.Def d) e refl) in
        let at : expr_at (slice_get s.defs d) ≡ y.0.expr = ap expr_at y.1 in
        (subst (IsKnown s weights) (node_def d y.0 y.1 ∙ sym at) (next_of i (node.Def d) e h d (inl refl)), tt)
    made_known i n w e h = parts_known i n e h

    pub made_known_at : (v : ℕ) → WellTyped s → D ≤ v → v - D < length s.nodes → NextKnown v → AreKnown s weights (made_at s (slice_get s.nodes (v - D)))
    made_known_at v w b there h =
        let r = get_within s.nodes (v - D) there in
        let same : v ≡ D + (v - D) = omega (arith, b) in
        subst (λ o. AreKnown s weights (made_at s o)) (sym r.1) (made_known (v - D) r.0 w r.1 (subst NextKnown same h))
