use Rattle.std.proofs.Common.{◌≡◌, ◌<◌, List, length, get_or, Some, ap, sym, ◌∙◌, subst, arith}
use Rattle.std.specs.Prelude.{slice_get}
use Rattle.std.proofs.lemmas.Option.{slice_get-get_or}
use Rattle.stream_types.specs.declared.types.Field.{Field}
use Rattle.ring_codegen.proofs.SoundItems.{member_named, member_within, no_member}
use Rattle.ring_codegen.proofs.c_types.member_name.Goals as goal

pub unreachable-requires-in_default : goal.unreachable-requires-in_default
unreachable-requires-in_default c = no_member c.args.types.now c.args.of c.args.member c.in_default.not-Struct c.requires

pub returns : goal.returns
returns c =
    let types = c.args.types.now in
    let there = c.entry.ensures.value ∙ ap Some c.in-Struct-entry.is in
    let fields = c.in-Struct-entry.fields in
    let h = member_within types c.args.of c.in-Struct.i c.in-Struct-entry.name fields c.args.member c.in-Struct.is there c.requires in
    let at = ap (λ (fs : List Field). slice_get fs c.args.member) (sym c.as_slice.ensures)
    ∙ slice_get-get_or c.as_slice.result.now c.args.member c.index-as_slice-member.result (omega (arith, h, ap length c.as_slice.ensures)) in
    member_named types c.args.of c.in-Struct.i c.in-Struct-entry.name fields c.args.member _ c.in-Struct.is there at
