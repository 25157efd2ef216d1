use Rattle.tool_top.proofs.OneMigration.{renewal_of}
use Rattle.tool_top.proofs.migrating.renewal.Goals as goal

pub returns-in-Ok-make_texts-clause-ok : goal.returns-in-Ok-make_texts-clause-ok
returns-in-Ok-make_texts-clause-ok c =
    renewal_of c.texts_spell_one_unit.ensures c.args.unit.now c.in-Ok-migrate.program c.args.name.now c.in-Ok.name _ _ c.in-Ok.ensures
    c.in-Ok-migrate.ensures.unit c.in-Ok-migrate.ensures.formed c.in-Ok-migrate.ensures.runs c.in-Ok-migrate.ensures.storage c.in-Ok-make_texts.ensures
