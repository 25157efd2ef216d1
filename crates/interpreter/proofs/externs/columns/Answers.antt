use Rattle.std.proofs.Common.{◌≡◌, ◌<◌, ◌++◌, List, length, get_or, take, sym, ap, ◌∙◌, arith}
use Rattle.std.specs.List.{flat_map}
use Rattle.stream_core.specs.declared.spec.ExternItem.{ExternItem}
use Rattle.extern_rows.specs.declared.header.Leaf.{Leaf}
use Rattle.extern_rows.specs.Leaves.{leaf_columns}
use Rattle.interpreter.proofs.RootsStand.{flat_next}
use Rattle.interpreter.proofs.externs.columns.Goals as goal

pub loop-x-preserved : goal.loop-x-preserved
loop-x-preserved c =
    let s = c.args.spec.now in
    let e = c.externs-x-items.ensures in
    let i = c.loop-x.x-index in
    let x = c.x-item.result in
    let columns : ExternItem → List Leaf = λ y. leaf_columns s.types y.name y.ty in
    let is : x ≡ get_or s.externs i x = c.x-item.is ∙ ap (λ ys. get_or ys i x) e in
    let less : i < length s.externs = omega (arith, ap length e, c.loop-x-test.true) in
    let types = ap (λ ts. leaf_columns ts c.bytes.result.now x.ty) c.types.ensures in
    let name = ap (λ n. leaf_columns s.types n x.ty) c.bytes.ensures.bytes in
    c.in_ok-push_leaves.ensures.columns ∙ ap (λ (ls : List Leaf). ls ++ leaf_columns c.types.result.now c.bytes.result.now x.ty) c.loop-x.invariant
    ∙ ap (λ (ls : List Leaf). flat_map columns (take i s.externs) ++ ls) (types ∙ name)
    ∙ sym (flat_next columns s.externs i x less is)
