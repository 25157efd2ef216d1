use Rattle.typing.proofs.Told.{typed}
use Rattle.typing.proofs.typed.type_all.Goals as goal

pub returns : goal.returns
returns c =
    let t = c.in_ok-types.ensures in
    let r = c.in_ok-spec_over.ensures in
    typed c.args.surface.now c.in_ok-spec_over.field-0 c.requires.kept c.requires.items c.requires.nested t.0 r.trees r.ordered r.parts
