-- What a monitor keeps.
use Rattle.std.specs.Prelude.{ℕ, List}
use Rattle.stream_core.specs.Value.{SpecValue}
use Rattle.stream_core.specs.Eval.{Table}
use Rattle.stream_interp.specs.declared.layout.Layout.{Layout}
use Rattle.stream_interp.specs.declared.steps.Work.{Work}
use Rattle.stream_interp.specs.Buffers.{FitsSpec}
use Rattle.stream_interp.specs.Reading.{IsLayout}
use Rattle.stream_interp.specs.Standing.{MonitorValue, HasHistory}

abbrev pub value_of : SpecValue → Table → ℕ → Work → MonitorValue
value_of s rings time work = record { spec = s; rings = rings; time = time; events = work.log.events }

-- it stands for some history, and its layout and buffers are the specification's
pub record IsRunning (s : SpecValue) (layout : Layout) (rings : Table) (time : ℕ) (work : Work) : Type 0 where
  pub stands : HasHistory (value_of s rings time work)
  pub laid : IsLayout s layout
  pub fits : FitsSpec s work
