-- The statuses of a program's end.
use Rattle.std.specs.Prelude.{ℕ}
use Rattle.tool_top.specs.declared.outcome.Outcome.{Outcome}
use Rattle.tool_top.specs.declared.outcome.Outcome.TheVariants.{Done, Refused, Usage, Hazard, Undefined, BadRow, ReadFault, WriteFault, Missing, NoMemory}

abbrev pub code_of : Outcome → ℕ
code_of Done = 0
code_of (Refused refusal) = 1
code_of Usage = 2
code_of (Hazard step kind) = 3
code_of (Undefined step kind) = 3
code_of (BadRow line fault) = 4
code_of ReadFault = 5
code_of WriteFault = 6
code_of Missing = 7
code_of NoMemory = 8
