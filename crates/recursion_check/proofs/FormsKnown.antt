-- The weights of a form's operands are among those of all nodes.
use Rattle.std.proofs.Common.{ℕ, ◌<◌, List, [], ◌∷◌, length, sym, subst}
use Rattle.std.specs.Prelude.{slice_get}
use Rattle.std.specs.List.{AllByRecursion}
use Rattle.stream_core.specs.Value.{SpecValue}
use Rattle.stream_core.specs.Ordered.{args_of}
use Rattle.stream_core.specs.WellTyped.{WellTyped}
use Rattle.stream_core.specs.KnownWeights.{AreKnown}
use Rattle.stream_core.proofs.GoodNodes.{good_item}
use Rattle.recursion_check.specs.Weighed.{AreWeights}
use Rattle.sm_io.proofs.Elements.{get_within}

there_known : (s : SpecValue) (weights : List ℕ) → AreWeights s weights → (is : List ℕ) → AllByRecursion (λ j. j < length s.nodes) is → AreKnown s weights is
there_known s weights all [] h = tt
there_known s weights all (i ∷ is) h = (all i h.0, there_known s weights all is h.1)

pub args_known : (s : SpecValue) → WellTyped s → (weights : List ℕ) → AreWeights s weights → (k : ℕ) → k < length s.libs → AreKnown s weights (args_of (slice_get s.libs k))
args_known s w weights all k b =
    let r = get_within s.libs k b in
    subst (λ o. AreKnown s weights (args_of o)) (sym r.1) (there_known s weights all r.0.args (good_item s w k r.0 r.1).there)
