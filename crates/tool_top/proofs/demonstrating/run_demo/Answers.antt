use Rattle.std.proofs.Common.{true, false, subst}
use Rattle.sm_io.specs.Written.{WritesText}
use Rattle.demo.specs.Figures.{demo_line}
use Rattle.demo.specs.declared.run.Figures.{Figures}
use Rattle.tool_top.proofs.demonstrating.run_demo.Goals as goal

pub returns-in-Ok-write_figures-clause-line : goal.returns-in-Ok-write_figures-clause-line
returns-in-Ok-write_figures-clause-line g c =
    subst (λ (f : Figures). WritesText (g.K.Sink.taken c.args.out.now) (g.K.Sink.taken c.write_figures.new.out) (g.K.Sink.faults c.args.out.now) (g.K.Sink.faults c.write_figures.new.out) true (demo_line c.args.streams c.args.steps f))
    c.in-Ok.ensures c.in-Ok-write_figures.ensures

pub returns-in-Err-write_figures-clause-line : goal.returns-in-Err-write_figures-clause-line
returns-in-Err-write_figures-clause-line g c =
    subst (λ (f : Figures). WritesText (g.K.Sink.taken c.args.out.now) (g.K.Sink.taken c.write_figures.new.out) (g.K.Sink.faults c.args.out.now) (g.K.Sink.faults c.write_figures.new.out) false (demo_line c.args.streams c.args.steps f))
    c.in-Ok.ensures c.in-Err-write_figures.ensures
