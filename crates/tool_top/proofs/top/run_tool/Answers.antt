use Rattle.tool_top.proofs.OneCompile.{compile_completes, names_of}
use Rattle.tool_top.proofs.OneDemo.{demo_completes}
use Rattle.tool_top.proofs.OneExecution.{completes_execute, names_execute}
use Rattle.tool_top.proofs.OneMigration.{migrate_completes}
use Rattle.tool_top.proofs.OneSession.{about_is, completes_interpret, names_interpret}
use Rattle.tool_top.proofs.top.run_tool.Goals as goal

pub returns-in-Compile-clause-completes : goal.returns-in-Compile-clause-completes
returns-in-Compile-clause-completes g c =
    compile_completes c.first_fault_is_one.ensures.sound c.first_fault_is_one.ensures.one _ _ _ _ _ _ c.in-Compile.ensures.value c.compile-outcome.ensures.answer c.compile-outcome.ensures.faults

pub returns-in-Compile-clause-line : goal.returns-in-Compile-clause-line
returns-in-Compile-clause-line g c =
    (_, names_of _ _ _ _ _ _ c.in-Compile.ensures.value c.compile-outcome.ensures.answer, _, rw c.as_bytes.ensures.value at c.tell.ensures)

pub returns-in-Interpret-clause-completes : goal.returns-in-Interpret-clause-completes
returns-in-Interpret-clause-completes g c =
    completes_interpret c.first_fault_is_one-in-Interpret.ensures.sound c.first_fault_is_one-in-Interpret.ensures.one c.first_fault_is_one-in-Interpret.ensures.meaning
    _ _ _ _ _ c.in-Interpret.ensures.value c.interpret_file-told.ensures.runs

pub returns-in-Interpret-clause-line : goal.returns-in-Interpret-clause-line
returns-in-Interpret-clause-line g c = (
  _,
  names_interpret _ _ _ _ _ c.interpret_file-told.result.leaves.items _ c.in-Interpret.ensures.value c.interpret_file-told.ensures.runs c.interpret_file-told.ensures.leaves
      (about_is c.interpret_file-told.result.outcome _ _ _ c.interpret_file-told.result.leaves.items _ c.subject-about.ensures c.as_bytes-in-Interpret.ensures.value c.deref.ensures.value),
  _,
  c.tell-in-Interpret.ensures,
)

pub returns-in-Cexec-clause-completes : goal.returns-in-Cexec-clause-completes
returns-in-Cexec-clause-completes g c =
    completes_execute c.texts_spell_one_unit.ensures _ _ _ _ _ c.in-Cexec.ensures.value c.execute_files-told.ensures.runs

pub returns-in-Cexec-clause-line : goal.returns-in-Cexec-clause-line
returns-in-Cexec-clause-line g c = (
  _,
  names_execute _ _ _ _ _ c.execute_files-told.result.leaves.items _ c.in-Cexec.ensures.value c.execute_files-told.ensures.file c.execute_files-told.ensures.leaves
      (about_is c.execute_files-told.result.outcome _ _ _ c.execute_files-told.result.leaves.items _ c.subject-about-in-Cexec.ensures c.as_bytes-in-Cexec.ensures.value c.deref-in-Cexec.ensures.value),
  _,
  c.tell-in-Cexec.ensures,
)

pub returns-in-Migrate-clause-completes : goal.returns-in-Migrate-clause-completes
returns-in-Migrate-clause-completes g c =
    migrate_completes c.texts_spell_one_unit-in-Migrate.ensures _ _ _ _ _ _ c.in-Migrate.ensures.value c.migrate_files-told.ensures.answer c.migrate_files-told.ensures.faults

pub returns-in-Demo-clause-completes : goal.returns-in-Demo-clause-completes
returns-in-Demo-clause-completes g c = demo_completes _ c.in-Demo.streams c.in-Demo.steps _ _ _ c.in-Demo.ensures.value c.run_demo-outcome.ensures.possible c.run_demo-outcome.ensures.line
