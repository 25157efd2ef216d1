-- What `demo` answers, and what it leaves.
use Rattle.std.specs.Prelude.{◌≡◌, ℕ, true, false, List, Option}
use Rattle.sm_io.specs.Written.{WritesText}
use Rattle.demo.specs.Figures.{demo_line, figures_of}
use Rattle.tool_top.specs.Outside.{Outside}
use Rattle.tool_top.specs.declared.outcome.Outcome.{Outcome}
use Rattle.tool_top.specs.declared.outcome.Outcome.TheVariants.{Done, WriteFault, NoMemory}

-- the answers of a demonstration
abbrev pub IsDemoAnswer : Outcome → Type 0
IsDemoAnswer Done = Unit {0}
IsDemoAnswer WriteFault = Unit {0}
IsDemoAnswer NoMemory = Unit {0}
IsDemoAnswer outcome = ⊥

-- After Done the output took the line, and after a fault of writing a part of it; after any other answer nothing was
-- written.
abbrev pub WritesLine : List ℕ → Option (List ℕ) → Option (List ℕ) → ℕ → ℕ → Outcome → Type 0
WritesLine line taken taken' faults faults' Done = WritesText taken taken' faults faults' true line
WritesLine line taken taken' faults faults' WriteFault = WritesText taken taken' faults faults' false line
WritesLine line taken taken' faults faults' outcome = (taken' ≡ taken) × (faults' ≡ faults)

-- the line of a demonstration of so many streams and steps
abbrev pub line_for : ℕ → ℕ → List ℕ
line_for streams steps = demo_line streams steps (figures_of streams steps)

-- The line is written, and nothing but the output is touched.
pub record RunsDemo (streams steps : ℕ) (before after : Outside) (outcome : Outcome) : Type 0 where
  pub possible : IsDemoAnswer outcome
  pub line : WritesLine (line_for streams steps) before.taken after.taken before.out_faults after.out_faults outcome
  pub others : after ≡ record before { taken = after.taken; out_faults = after.out_faults }
