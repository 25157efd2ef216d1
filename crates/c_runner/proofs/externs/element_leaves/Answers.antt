use Rattle.std.proofs.Common.{◌≡◌, ℕ, ◌++◌, ◌-◌, List, arith, ap, ◌∙◌}
use Rattle.c99_tree.specs.Words.{elem_type}
use Rattle.extern_rows.specs.declared.header.Leaf.{Leaf}
use Rattle.extern_rows.specs.Leaves.{of_elements, tails_at}
use Rattle.c_runner.specs.Read.{read_type}
use Rattle.c_runner.proofs.PartsSoFar.{element_more, elements_done}
use Rattle.c_runner.proofs.externs.element_leaves.Goals as goal

pub loop-k-init : goal.loop-k-init
loop-k-init c =
    let element : List Leaf = tails_at c.args.table.now (read_type c.args.types.now (elem_type c.args.elem.now)) in
    let n : ℕ = c.args.n in
    let count : n - 0 ≡ n = omega arith in
    ap (λ (o : List Leaf). o ++ of_elements 0 (n - 0) element) c.new-out.ensures.items ∙ ap (λ (m : ℕ). of_elements 0 m element) count

pub loop-k-preserved : goal.loop-k-preserved
loop-k-preserved c =
    let element : List Leaf = tails_at c.args.table.now (read_type c.args.types.now (elem_type c.args.elem.now)) in
    element_more element c.as_slice.result.now c.loop-k.k c.args.n c.loop-k.out.items c.push_element.new.out.items (of_elements 0 c.args.n element)
    c.loop-k-test.true (c.as_slice.ensures.value ∙ c.in_ok-front.ensures) c.in_ok-push_element.ensures c.loop-k.invariant

pub returns : goal.returns
returns c =
    let element : List Leaf = tails_at c.args.table.now (read_type c.args.types.now (elem_type c.args.elem.now)) in
    c.of.ensures ∙ elements_done element c.loop-k.k c.args.n c.loop-k.out.items (of_elements 0 c.args.n element) c.loop-k-test.false c.loop-k.invariant
