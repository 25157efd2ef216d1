use Rattle.std.proofs.Common.{◌≡◌, length, Some, sym, ap, ◌∙◌, subst, arith}
use Rattle.std.specs.Prelude.{slice_get, slice_index_or}
use Rattle.std.proofs.lemmas.List.{length-map}
use Rattle.std.proofs.lemmas.Option.{slice_get-get_or}
use Rattle.stream_types.specs.declared.types.Field.{Field}
use Rattle.stream_types.specs.declared.types.TypeEntry.TheVariants as entry
use Rattle.stream_types.specs.TypeList.{Stands}
use Rattle.stream_types.specs.Types.{entry_of, words}
use Rattle.stream_interp.specs.Reading.{entry_parts, part_types}
use Rattle.stream_interp.proofs.PartWidths.{array_part, elements_stand, members_good, struct_part}
use Rattle.stream_interp.proofs.parts.part_words.Goals as goal

pub words-requires : goal.words-requires
words-requires c =
    let e : entry_of c.args.types.now c.args.of ≡ Some (entry.Array c.in-Array.elem c.in-Array.n) = c.in-Some.ensures.some ∙ ap Some c.in-Array.is in
    (elements_stand c.args.types.now c.args.of c.in-Array.elem c.in-Array.n c.requires.types e).0

pub words-requires-in-Struct : goal.words-requires-in-Struct
words-requires-in-Struct c =
    let types = c.args.types.now in
    let fields = c.in-Struct.fields in
    let r = c.index-as_slice-at.result in
    let e : entry_of types c.args.of ≡ Some (entry.Struct c.in-Struct.name fields) = c.in-Some.ensures.some ∙ ap Some c.in-Struct.is in
    let l : length (part_types types c.args.of) ≡ length fields = ap (λ o. length (entry_parts o)) e ∙ length-map fields (λ (f : Field). f.ty) in
    let good = members_good types c.args.of c.in-Struct.name fields c.requires.types e in
    subst (λ xs. Stands types (slice_index_or xs c.args.at r).ty) (sym c.as_slice.ensures) (good.0 c.args.at r (omega (arith, l, c.requires.there)))

pub returns-in-Array : goal.returns-in-Array
returns-in-Array c = λ t h.
    let e : entry_of c.args.types.now c.args.of ≡ Some (entry.Array c.in-Array.elem c.in-Array.n) = c.in-Some.ensures.some ∙ ap Some c.in-Array.is in
    c.words.ensures.value ∙ ap (words c.args.types.now) (array_part c.args.types.now c.args.of c.in-Array.elem c.in-Array.n c.args.at t e h)

pub returns-in-Struct : goal.returns-in-Struct
returns-in-Struct c = λ t h.
    let types = c.args.types.now in
    let fields = c.in-Struct.fields in
    let r = c.index-as_slice-at.result in
    let f = slice_index_or c.as_slice.result.now c.args.at r in
    let e : entry_of types c.args.of ≡ Some (entry.Struct c.in-Struct.name fields) = c.in-Some.ensures.some ∙ ap Some c.in-Struct.is in
    let l : length (part_types types c.args.of) ≡ length fields = ap (λ o. length (entry_parts o)) e ∙ length-map fields (λ (y : Field). y.ty) in
    let a = ap length c.as_slice.ensures in
    let is : slice_get fields c.args.at ≡ Some f = ap (λ xs. slice_get xs c.args.at) (sym c.as_slice.ensures) ∙ slice_get-get_or c.as_slice.result.now c.args.at r (omega (arith, l, a, c.requires.there)) in
    c.words-in-Struct.ensures.value ∙ ap (words types) (struct_part types c.args.of c.in-Struct.name fields c.args.at f t e is h)
