use Rattle.c99_tree.proofs.Whole.{declared-types_first}
use Rattle.c99_ast.proofs.rules.is_sound.Goals as goal

pub has_sound_rings-requires : goal.has_sound_rings-requires
has_sound_rings-requires c = declared-types_first c.args.unit.now c.is_declared_well.result c.is_declared_well.ensures c.if-not-is_declared_well.false

pub totals_are_right-requires : goal.totals_are_right-requires
totals_are_right-requires c = declared-types_first c.args.unit.now c.is_declared_well.result c.is_declared_well.ensures c.if-not-is_declared_well.false
