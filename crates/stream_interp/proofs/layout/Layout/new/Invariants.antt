use Rattle.std.proofs.Common.{◌≡◌, ◌++◌, drop}
use Rattle.stream_interp.specs.Reading.{extern_firsts}
use Rattle.stream_interp.proofs.layout.Layout.new.Given as goal

abbrev pub invariant-loop-x : goal.invariant-loop-x
invariant-loop-x l = l.firsts.items ++ extern_firsts l.spec.types l.at (drop l.x-index l.spec.externs) ≡ extern_firsts l.spec.types 0 l.spec.externs
