use Rattle.std.proofs.Common.{◌≡◌, ◌++◌, map, drop}
use Rattle.type_check.specs.declared.known.Known.TheVariants as known
use Rattle.type_check.proofs.order.place.Given as goal

abbrev pub invariant-loop-n : goal.invariant-loop-n
invariant-loop-n l = l.fn.placed ++ map (λ n. known.Array l.elem n) l.lengths ≡ l.placed ++ map (λ n. known.Array l.elem n) (drop l.n-index l.lengths)
