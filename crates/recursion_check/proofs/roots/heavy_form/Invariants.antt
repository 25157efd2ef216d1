use Rattle.std.proofs.Common.{◌≡◌, drop}
use Rattle.recursion_check.specs.Loads.{first_form}
use Rattle.recursion_check.proofs.roots.heavy_form.Given as goal

abbrev pub invariant-loop-k : goal.invariant-loop-k
invariant-loop-k l = first_form l.spec (drop l.k l.spec.libs) ≡ first_form l.spec l.spec.libs
