use Rattle.std.proofs.Common.{◌++◌, [], ◌∷◌, sym, ap, ◌∙◌, arith, append-nil}
use Rattle.std.proofs.Math.Facts.{Fits-below}
use Rattle.std.proofs.lemmas.Bool.Decides.{nat_tests}
use Rattle.std.proofs.lemmas.List.{take_all}
use Rattle.stream_types.specs.declared.types.TypeEntry.TheVariants as entry
use Rattle.type_check.specs.declared.known.Known.TheVariants as known
use Rattle.type_check.specs.Untyped.{all_of}
use Rattle.type_check.specs.Table.{struct_names}
use Rattle.type_check.specs.TypeOrder.{type_order, entries}
use Rattle.type_check.specs.Listed.{struct_list}
use Rattle.type_check.proofs.Numbering.{as_many}
use Rattle.type_check.proofs.Fielding.{array_entry}
use Rattle.type_check.proofs.Adding.{known_follows, known_added}
use Rattle.type_check.proofs.list.list.Goals.{in-Array+in_ok-add_array-in-Array, in-Element+in_ok-parts-in-Element+in-Some+in_ok-add_struct-in-Element, in-Element+in_ok-parts-in-Element+in_default}
use Rattle.type_check.proofs.list.list.Goals as goal

pub numbered-requires : goal.numbered-requires
numbered-requires c =
    let s = c.requires.text in
    let o = c.requires.order in
    let n = as_many (struct_names (all_of s)) c.args.placed.now (type_order s) o.types_are in
    record { few = omega (arith, n, o.listable.room) }

pub add_array-requires : goal.add_array-requires
add_array-requires c =
    let s = c.requires.text in
    let o = c.requires.order in
    let names = struct_names (all_of s) in
    let all = all_of s in
    let order = type_order s in
    let placed = c.args.placed.now in
    known_follows names all order placed c.loop-ty.ty-index (known.Array c.in-Array.elem c.in-Array.n) _ c.loop-ty.types (entry.Array c.element_ty.result c.in-Array.n) o.listable o.types_are c.loop-ty-test.true c.in-Array.is
    (λ t m. array_entry names order all c.in-Array.elem c.in-Array.n t c.element_ty.result m (λ u w. c.element_ty.ensures names placed order u o.distinct c.in_ok-numbers.ensures.ok o.types_are w))
    (c.loop-ty.invariant s o)

pub overflow_cast-n : goal.overflow_cast-n
overflow_cast-n c =
    let s = c.requires.text in
    let o = c.requires.order in
    let names = struct_names (all_of s) in
    let all = all_of s in
    let order = type_order s in
    let placed = c.args.placed.now in
    let f = known_follows names all order placed c.loop-ty.ty-index (known.Array c.in-Array.elem c.in-Array.n) _ c.loop-ty.types (entry.Array c.element_ty.result c.in-Array.n) o.listable o.types_are c.loop-ty-test.true c.in-Array.is
    (λ t m. array_entry names order all c.in-Array.elem c.in-Array.n t c.element_ty.result m (λ u w. c.element_ty.ensures names placed order u o.distinct c.in_ok-numbers.ensures.ok o.types_are w))
    (c.loop-ty.invariant s o) in
    Fits-below tt f.good.2

pub add_struct-requires : goal.add_struct-requires
add_struct-requires c =
    let s = c.requires.text in
    let o = c.requires.order in
    let names = struct_names (all_of s) in
    let all = all_of s in
    let order = type_order s in
    let placed = c.args.placed.now in
    known_follows names all order placed c.loop-ty.ty-index (known.Element c.in-Element.elem) _ c.loop-ty.types (entry.Struct c.in-Some.parts.name c.in-Some.parts.fields.items) o.listable o.types_are c.loop-ty-test.true c.in-Element.is
    (λ t m. sym (ap struct_list c.in-Some.is) ∙ c.in_ok-parts-in-Element.ensures.ok names placed order all t o.distinct c.in_ok-numbers.ensures.ok o.types_are o.structs_are m)
    (c.loop-ty.invariant s o)

pub loop-ty-preserved : goal.loop-ty-preserved
loop-ty-preserved c = λ s o.
    let names = struct_names (all_of s) in
    let all = all_of s in
    let order = type_order s in
    let placed = c.args.placed.now in
    let i = c.loop-ty.ty-index in
    elim c.match-ty.branch [
      | in-Array+in_ok-add_array-in-Array w ↦
          known_added names all order placed i (known.Array w.in-Array.elem w.in-Array.n) _ c.loop-ty.types c.match-ty.types (entry.Array w.element_ty.result w.in-Array.n ∷ []) o.types_are c.loop-ty-test.true w.in-Array.is
          (λ t m. array_entry names order all w.in-Array.elem w.in-Array.n t w.element_ty.result m (λ u v. w.element_ty.ensures names placed order u o.distinct c.in_ok-numbers.ensures.ok o.types_are v))
          (c.loop-ty.invariant s o) (w.types-is ∙ w.in_ok-add_array-in-Array.ensures.ok)
      | in-Element+in_ok-parts-in-Element+in-Some+in_ok-add_struct-in-Element w ↦
          known_added names all order placed i (known.Element w.in-Element.elem) _ c.loop-ty.types c.match-ty.types (struct_list w.in_ok-parts-in-Element.field-0) o.types_are c.loop-ty-test.true w.in-Element.is
          (λ t m. w.in_ok-parts-in-Element.ensures.ok names placed order all t o.distinct c.in_ok-numbers.ensures.ok o.types_are o.structs_are m)
          (c.loop-ty.invariant s o) (w.types-is ∙ w.in_ok-add_struct-in-Element.ensures.ok ∙ ap (λ p. c.loop-ty.types ++ struct_list p) (sym w.in-Some.is))
      | in-Element+in_ok-parts-in-Element+in_default w ↦
          known_added names all order placed i (known.Element w.in-Element.elem) _ c.loop-ty.types c.match-ty.types (struct_list w.in_ok-parts-in-Element.field-0) o.types_are c.loop-ty-test.true w.in-Element.is
          (λ t m. w.in_ok-parts-in-Element.ensures.ok names placed order all t o.distinct c.in_ok-numbers.ensures.ok o.types_are o.structs_are m)
          (c.loop-ty.invariant s o) (w.types-is ∙ sym (append-nil c.loop-ty.types) ∙ ap (λ p. c.loop-ty.types ++ struct_list p) (sym w.in_default.is))
    ]

pub returns-clause-ok : goal.returns-clause-ok
returns-clause-ok c = λ s o.
    let n = as_many (struct_names (all_of s)) c.args.placed.now (type_order s) o.types_are in
    c.loop-ty.invariant s o ∙ ap (entries (all_of s) (type_order s)) (take_all c.loop-ty.ty-index (type_order s) (grind (arith, nat_tests, n, c.loop-ty-test.false)))
