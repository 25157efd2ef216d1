use Rattle.std.proofs.Common.{◌≡◌, ◌++◌, ◌∷◌, take}
use Rattle.std.specs.Prelude.{replicate}
use Rattle.std.specs.List.{sum_by, flat_map}
use Rattle.c_exec.specs.Layout.{var_width}
use Rattle.c_exec.proofs.machine.first_words.Given as goal

abbrev pub invariant-loop-ring : goal.invariant-loop-ring
invariant-loop-ring l = l.words.items ≡ replicate (sum_by (var_width l.unit.types) l.unit.externs) 0 ++ flat_map (λ r. 0 ∷ r.init) (take l.ring-index l.unit.rings)
