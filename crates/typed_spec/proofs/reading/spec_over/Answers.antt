use Rattle.typed_spec.specs.declared.arena.Arena.{Arena}
use Rattle.typed_spec.proofs.WholeText.{filled, start_room, start_few, room_for_forms, text_is_read}
use Rattle.typed_spec.proofs.reading.spec_over.Goals as goal

pub decls-requires-clause-room : goal.decls-requires-clause-room
decls-requires-clause-room c = start_room c.args.surface.now c.new.result c.in_ok-name.name c.args.types c.as_slice.result.now c.as_slice.ensures c.new.ensures c.requires.lists

pub decls-requires-clause-few : goal.decls-requires-clause-few
decls-requires-clause-few c = start_few c.args.surface.now c.in_ok-text.text c.as_slice.result.now c.as_slice.ensures c.in_ok-text.ensures c.requires.lists

pub with_forms-requires : goal.with_forms-requires
with_forms-requires c =
    let s = c.args.surface.now in
    let first : Arena = record { spec = c.new.result; forms = c.new-2.result } in
    room_for_forms s c.decls.new.arena
    (filled s first c.decls.new.arena c.in_ok-text.text c.in_ok-name.name c.args.types c.as_slice.result.now c.as_slice.ensures c.new.ensures c.in_ok-name.ensures c.requires.types c.new-2.ensures.items c.in_ok-text.ensures c.in_ok-decls.ensures.adds)
    c.requires.lists

pub returns-clause-trees : goal.returns-clause-trees
returns-clause-trees c =
    let s = c.args.surface.now in
    let first : Arena = record { spec = c.new.result; forms = c.new-2.result } in
    let a = c.decls.new.arena in
    let h = filled s first a c.in_ok-text.text c.in_ok-name.name c.args.types c.as_slice.result.now c.as_slice.ensures c.new.ensures c.in_ok-name.ensures c.requires.types c.new-2.ensures.items c.in_ok-text.ensures c.in_ok-decls.ensures.adds in
    (text_is_read s a c.with_forms.new.spec h c.requires.lists c.nodes.ensures.list c.in_ok-with_forms.ensures).trees_are

pub returns-clause-ordered : goal.returns-clause-ordered
returns-clause-ordered c =
    let s = c.args.surface.now in
    let first : Arena = record { spec = c.new.result; forms = c.new-2.result } in
    let a = c.decls.new.arena in
    let h = filled s first a c.in_ok-text.text c.in_ok-name.name c.args.types c.as_slice.result.now c.as_slice.ensures c.new.ensures c.in_ok-name.ensures c.requires.types c.new-2.ensures.items c.in_ok-text.ensures c.in_ok-decls.ensures.adds in
    (text_is_read s a c.with_forms.new.spec h c.requires.lists c.nodes.ensures.list c.in_ok-with_forms.ensures).ordered

pub returns-clause-parts : goal.returns-clause-parts
returns-clause-parts c =
    let s = c.args.surface.now in
    let first : Arena = record { spec = c.new.result; forms = c.new-2.result } in
    let a = c.decls.new.arena in
    let h = filled s first a c.in_ok-text.text c.in_ok-name.name c.args.types c.as_slice.result.now c.as_slice.ensures c.new.ensures c.in_ok-name.ensures c.requires.types c.new-2.ensures.items c.in_ok-text.ensures c.in_ok-decls.ensures.adds in
    (text_is_read s a c.with_forms.new.spec h c.requires.lists c.nodes.ensures.list c.in_ok-with_forms.ensures).parts
