use Rattle.std.proofs.Common.{◌≡◌, map, drop}
use Rattle.tool_top.specs.Command.{is_apart}
use Rattle.tool_top.proofs.command.is_apart.Given as goal

abbrev pub invariant-loop-end : goal.invariant-loop-end
invariant-loop-end l = is_apart (map (λ end. end.now) l.ends) l.file l.name ≡ is_apart (map (λ end. end.now) (drop l.end-index l.ends)) l.file l.name
