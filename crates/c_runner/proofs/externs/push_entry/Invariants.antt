use Rattle.std.proofs.Common.{◌≡◌, ◌++◌, take}
use Rattle.extern_rows.specs.Leaves.{under}
use Rattle.c_runner.proofs.externs.push_entry.Given as goal

abbrev pub invariant-loop-leaf : goal.invariant-loop-leaf
invariant-loop-leaf l = l.out.items ≡ l.fn.out.items ++ under l.front (take l.leaf-index l.leaf-items)
