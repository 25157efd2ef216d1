use Rattle.tool_top.proofs.LoweredPrograms.{program_of_lowered}
use Rattle.tool_top.proofs.Programs.{program_of}
use Rattle.tool_top.proofs.compiling.program_texts.Goals as goal

pub returns : goal.returns
returns c =
    let m = c.requires.means.1 in
    program_of c.texts_spell_one_unit.ensures _ _ _ _ _ c.in_ok-unit.unit c.in_ok-name.ensures
    (program_of_lowered c.args.spec.now c.in_ok-plain.plain _ _ m.typed.typed m.sound.0 c.in_ok-plain.ensures c.in_ok-unit.ensures.simulates)
    c.make_texts.result c.make_texts.ensures
