use Rattle.std.proofs.Common.{List, take_all, ap, ◌∙◌}
use Rattle.std.specs.List.{flat_map}
use Rattle.c99_tree.specs.declared.types.CDef.{CDef}
use Rattle.c99_tree.specs.declared.types.CVar.{CVar}
use Rattle.extern_rows.specs.declared.header.Leaf.{Leaf}
use Rattle.extern_rows.specs.Leaves.{leaf_columns}
use Rattle.c_runner.specs.Read.{read_type, read_types}
use Rattle.c_runner.proofs.externs.columns.Goals as goal

pub returns : goal.returns
returns c =
    let of : List CDef → CVar → List Leaf = λ ds x. leaf_columns (read_types ds) x.name (read_type ds x.ty) in
    let types : List CDef = c.as_slice-types.result.now in
    let externs : List CVar = c.as_slice-x-items.result.now in
    c.loop-x.invariant
    ∙ ap (flat_map (of types)) (take_all c.loop-x.x-index externs c.loop-x-test.false)
    ∙ ap (λ (ds : List CDef). flat_map (of ds) externs) c.as_slice-types.ensures
    ∙ ap (flat_map (of c.args.unit.now.types)) c.as_slice-x-items.ensures
