-- A run's outcome is one.
use Rattle.std.proofs.Common.{sym, ◌∙◌}
use Rattle.interpreter.specs.Interpreted.{interpreted}
use Rattle.c_runner.specs.Executed.{executed}
use Rattle.tool_top.specs.Answer.{IsExecuteAnswer, IsInterpretAnswer}
use Rattle.tool_top.specs.Command.{compile, interpret, cexec, demo, migrate, standalone, cfs, ros, fprime, no_command}
use Rattle.tool_top.specs.Compile.{IsCompiled}
use Rattle.tool_top.specs.Interpret.{IsReadAs}
use Rattle.tool_top.specs.Migrate.{IsRenewed}
use Rattle.tool_top.specs.Programs.{IsUnitIn}
use Rattle.tool_top.specs.Runs.{HasOneOutcome}
use Rattle.tool_top.specs.declared.outcome.Outcome.TheVariants.{Hazard, Undefined}
use Rattle.tool_top.proofs.OneCompile.{OneFault, SoundTexts, compile_makes}
use Rattle.tool_top.proofs.OneExecution.{execute_steps}
use Rattle.tool_top.proofs.OneMigration.{migrate_makes}
use Rattle.tool_top.proofs.Programs.{OneUnit}
use Rattle.tool_top.proofs.OneDemo.{one_demo}
use Rattle.tool_top.proofs.OneSession.{interpret_steps}
use Rattle.tool_top.proofs.SessionsRun.{OneMeaning}
use Rattle.tool_top.proofs.Settled.{one_making}
use Rattle.tool_top.proofs.Stepped.{one_stepping}

pub one_outcome : SoundTexts → OneFault → OneMeaning → OneUnit → HasOneOutcome
one_outcome sound one same unit (compile spec name) files left before before' after after' a b t t' sa sb h k =
    one_making (compile spec name) name (IsCompiled spec name) (compile_makes sound one spec name) files left before before' after after' a b t t' sa sb h k
one_outcome sound one same unit (interpret spec) files left before before' after after' a b t t' sa sb h k =
    one_stepping (interpret spec) (IsReadAs spec) interpreted Hazard IsInterpretAnswer (interpret_steps sound one same spec) files left before before' after after' a b t t' sa sb h k
one_outcome sound one same unit (cexec name) files left before before' after after' a b t t' sa sb h k =
    one_stepping (cexec name) (IsUnitIn name) executed Undefined IsExecuteAnswer (execute_steps unit name) files left before before' after after' a b t t' sa sb h k
one_outcome sound one same unit (migrate old name) files left before before' after after' a b t t' sa sb h k =
    one_making (migrate old name) name (IsRenewed old name) (migrate_makes unit old name) files left before before' after after' a b t t' sa sb h k
one_outcome sound one same unit (demo streams steps) files left before before' after after' a b t t' sa sb h k = one_demo streams steps before after before' after' a b sa sb h k
one_outcome sound one same unit (standalone reqs spec) files left before before' after after' a b t t' sa sb h k = h.0 ∙ sym k.0
one_outcome sound one same unit (cfs reqs name) files left before before' after after' a b t t' sa sb h k = h.0 ∙ sym k.0
one_outcome sound one same unit (ros reqs name) files left before before' after after' a b t t' sa sb h k = h.0 ∙ sym k.0
one_outcome sound one same unit (fprime reqs name) files left before before' after after' a b t t' sa sb h k = h.0 ∙ sym k.0
one_outcome sound one same unit no_command files left before before' after after' a b t t' sa sb h k = h.0 ∙ sym k.0
