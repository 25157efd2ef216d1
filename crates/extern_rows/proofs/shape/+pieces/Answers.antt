use Rattle.std.proofs.Common.{◌≡◌, ◌++◌, List, Some, map, take, replicate, arith, ap, sym, ◌∙◌, take_all}
use Rattle.std.specs.Prelude.{slice_get}
use Rattle.stream_types.specs.declared.types.Field.{Field}
use Rattle.stream_types.specs.declared.types.TypeEntry.TheVariants as entry
use Rattle.extern_rows.specs.declared.event.Piece.{Piece}
use Rattle.extern_rows.specs.ValueTexts.{pieces_of}
use Rattle.extern_rows.proofs.LeafNames.{element_below, member_below}
use Rattle.extern_rows.proofs.ValuePieces.{pieces-array, pieces-struct, one_element, one_member, close_parts}
use Rattle.extern_rows.proofs.shape.+pieces.Goals as goal

pub push_elements-push_value-requires : goal.push_elements-push_value-requires
push_elements-push_value-requires t c =
    let p = element_below c.args.types.now c.args.place c.in-Array.elem c.in-Array.n c.entry.ensures.list (c.entry.ensures.value ∙ ap Some c.in-Array.is) in
    (omega (arith, p.0, c.decreases), p.1)

pub push_elements-loop-k-preserved : goal.push_elements-loop-k-preserved
push_elements-loop-k-preserved t c =
    one_element c.args.out.now.items c.loop-k.out.items c.push_value.new.out.items 91 c.loop-k.k (pieces_of c.args.types.now c.in-Array.elem) c.loop-k.invariant
    (c.in_ok-push_value.ensures ∙ ap (λ (r : List Piece). r ++ pieces_of c.args.types.now c.in-Array.elem) c.in_ok-push_comma.ensures)

pub push_elements-returns : goal.push_elements-returns
push_elements-returns t c =
    let n : c.loop-k.k ≡ c.in-Array.n = omega arith in
    let parts : List (List Piece) = replicate c.loop-k.k (pieces_of c.args.types.now c.in-Array.elem) in
    close_parts c.push_piece-2.result c.args.out.now.items c.loop-k.out.items c.push_piece-2.new.out.items _ 91 93 parts c.loop-k.invariant
    (rw n (pieces-array c.args.types.now c.args.place c.in-Array.elem c.in-Array.n c.entry.ensures.list (c.entry.ensures.value ∙ ap Some c.in-Array.is))) c.push_piece-2.ensures

pub push_members-push_value-requires : goal.push_members-push_value-requires
push_members-push_value-requires t c =
    let fields : List Field = c.as_slice-field-items.result.now in
    let is : slice_get c.args.types.now c.args.place ≡ Some (entry.Struct c.in-Struct.name fields) =
    c.entry.ensures.value ∙ ap Some c.in-Struct.is ∙ ap (λ (fs : List Field). Some (entry.Struct c.in-Struct.name fs)) (sym c.as_slice-field-items.ensures) in
    let p = member_below c.args.types.now c.args.place c.in-Struct.name fields c.loop-number.number c.field-item.result c.entry.ensures.list is c.loop-number-test.true c.field-item.is in
    (omega (arith, p.0, c.decreases), p.1)

pub push_members-loop-number-preserved : goal.push_members-loop-number-preserved
push_members-loop-number-preserved t c =
    one_member (λ (f : Field). pieces_of c.args.types.now f.ty) c.args.out.now.items c.loop-number.out.items c.push_value.new.out.items 123 c.loop-number.number c.as_slice-field-items.result.now
    c.field-item.result c.loop-number-test.true c.field-item.is c.loop-number.invariant
    (c.in_ok-push_value.ensures ∙ ap (λ (r : List Piece). r ++ pieces_of c.args.types.now c.field-item.result.ty) c.in_ok-push_comma.ensures)

pub push_members-returns : goal.push_members-returns
push_members-returns t c =
    let fields : List Field = c.as_slice-field-items.result.now in
    let is : slice_get c.args.types.now c.args.place ≡ Some (entry.Struct c.in-Struct.name fields) =
    c.entry.ensures.value ∙ ap Some c.in-Struct.is ∙ ap (λ (fs : List Field). Some (entry.Struct c.in-Struct.name fs)) (sym c.as_slice-field-items.ensures) in
    let all : take c.loop-number.number fields ≡ fields = take_all c.loop-number.number fields (omega arith) in
    let parts : List (List Piece) = map (λ (f : Field). pieces_of c.args.types.now f.ty) (take c.loop-number.number fields) in
    close_parts c.push_piece-2.result c.args.out.now.items c.loop-number.out.items c.push_piece-2.new.out.items _ 123 125 parts c.loop-number.invariant
    (rw all (pieces-struct c.args.types.now c.args.place c.in-Struct.name fields c.entry.ensures.list is)) c.push_piece-2.ensures
