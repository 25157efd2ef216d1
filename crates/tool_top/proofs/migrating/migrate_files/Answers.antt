use Rattle.tool_top.proofs.OneMigration.{stopped_migrates, texts_migrate, unread_migrates}
use Rattle.tool_top.proofs.migrating.migrate_files.Goals as goal

pub returns-in-Err-clause-answer : goal.returns-in-Err-clause-answer
returns-in-Err-clause-answer g c = unread_migrates c.args.old.now c.args.name.now _ _ c.in-Err.stop.outcome c.in-Err.ensures.err c.in-Err.ensures.same

pub returns-in-Err-renewal-clause-answer : goal.returns-in-Err-renewal-clause-answer
returns-in-Err-renewal-clause-answer g c =
    stopped_migrates c.args.old.now c.args.name.now _ _ c.in-Ok.unit c.in-Err-renewal.outcome c.in-Ok.ensures.ok c.in-Err-renewal.ensures.err c.in-Ok.ensures.same

pub returns-clause-answer : goal.returns-clause-answer
returns-clause-answer g c =
    texts_migrate c.args.old.now c.args.name.now c.in-Ok-renewal.texts.header.taken c.in-Ok-renewal.texts.source.taken _ _ _ c.in-Ok.unit c.put_program-outcome.result c.in-Ok.ensures.ok
    c.in-Ok-renewal.ensures.used c.in-Ok-renewal.ensures.ok c.in-Ok.ensures.same c.put_program-outcome.ensures.files
