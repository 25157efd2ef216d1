use Rattle.std.proofs.Common.{ℕ, List, subst}
use Rattle.tool_top.specs.Analysis.{Stops, HasFirstFault}
use Rattle.tool_top.specs.Compile.{IsProgramFor}
use Rattle.tool_top.proofs.Stopping.{fetch_compiles, stop_compiles, texts_compile}
use Rattle.tool_top.proofs.compiling.compile.Goals as goal

pub returns-in-Err-clause-answer : goal.returns-in-Err-clause-answer
returns-in-Err-clause-answer g c = fetch_compiles _ _ _ _ c.in-Err.outcome c.in-Err.ensures.err c.in-Err.ensures.same

pub returns-in-Err-compiled-clause-answer : goal.returns-in-Err-compiled-clause-answer
returns-in-Err-compiled-clause-answer g c =
    stop_compiles _ _ c.in-Ok.text.items _ _ _ (subst (λ (text : List ℕ). Stops (HasFirstFault text) c.in-Err-compiled.stop) c.deref.ensures.value c.in-Err-compiled.ensures.err) c.in-Ok.ensures.ok c.in-Ok.ensures.same

pub returns-clause-answer : goal.returns-clause-answer
returns-clause-answer g c =
    texts_compile c.args.spec.now c.args.name.now c.in-Ok.text.items c.in-Ok-compiled.texts.header.taken c.in-Ok-compiled.texts.source.taken _ _ _ c.put_program.result
    (subst (λ (text : List ℕ). IsProgramFor text c.args.name.now c.in-Ok-compiled.texts.header.taken c.in-Ok-compiled.texts.source.taken) c.deref.ensures.value c.in-Ok-compiled.ensures.ok)
    c.in-Ok.ensures.ok c.in-Ok.ensures.same c.put_program.ensures.files
