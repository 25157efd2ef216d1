use Rattle.std.proofs.Common.{◌≡◌, refl, sym, ◌∙◌, true, false, nat_eq, length, map}
use Rattle.std.specs.List.{list_all}
use Rattle.c99_tree.specs.TreeLaws.{tree-RingAt, tree-Pick}
use Rattle.c99_tree.proofs.Literals.{array_type}
use Rattle.c99_tree.specs.Tree.{tree, exprs}
use Rattle.c99_tree.specs.Typing.{fits_in, types_of}
use Rattle.c99_tree.specs.Words.{elem_type}
use Rattle.c99_tree.proofs.typing.+typing.Goals as goal

pub type_of-returns-in-RingAt : goal.type_of-returns-in-RingAt
type_of-returns-in-RingAt t c =
    rw (c.where_scalar.ensures, c.in-RingAt.is, tree-RingAt, c.type_of.ensures, c.get.ensures, c.ring_kind-in-RingAt.ensures)

pub type_of-returns-in-Pick : goal.type_of-returns-in-Pick
type_of-returns-in-Pick t c =
    rw (c.where_kind.ensures, c.in-Pick.is, tree-Pick, c.type_of-in-Pick-2.ensures, c.get-in-Pick-2.ensures, c.where_scalar-element.ensures, c.type_of-in-Pick.ensures, c.get-in-Pick.ensures, c.element_kind.ensures)

pub array_kind-returns-then-not-is_count : goal.array_kind-returns-then-not-is_count
array_kind-returns-then-not-is_count t c =
    let off : nat_eq (length c.args.all.now) c.args.n ≡ false = cc (c.is_count.ensures, c.if-not-is_count.true) in
    sym (array_type c.args.unit.now c.args.x.now c.args.n c.args.all.now false (list_all (λ a. fits_in a (elem_type c.args.x.now)) (types_of c.args.unit.now (exprs (map tree c.args.all.now)))) off refl)

pub array_kind-returns-then-fit_elements : goal.array_kind-returns-then-fit_elements
array_kind-returns-then-fit_elements t c =
    let on : nat_eq (length c.args.all.now) c.args.n ≡ true = cc (c.is_count.ensures, c.if-not-is_count.false) in
    let each = simp c.element_kind-element.ensures at c.fit_elements.ensures in
    sym (array_type c.args.unit.now c.args.x.now c.args.n c.args.all.now true true on (sym each ∙ c.if-fit_elements.true))
