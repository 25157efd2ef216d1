use Rattle.std.proofs.Common.{rules, ◌≡◌, []}
use Rattle.extern_rows.specs.ValueTexts.{each_entry, pieces_entry}
use Rattle.c_runner.specs.Read.{read_types}
use Rattle.c_runner.proofs.PartsSoFar.{shapes_are}
use Rattle.c_runner.proofs.shapes.shapes.Goals as goal

pub returns : goal.returns
returns c =
    let table : c.as_slice-entries.result.now ≡ each_entry pieces_entry [] (read_types c.as_slice-types.result.now) = search rules in
    shapes_are c.args.unit.now c.handler_pieces.result c.as_slice-entries.result.now c.as_slice-types.result.now c.as_slice-handlers.result.now table
    c.as_slice-types.ensures c.as_slice-handlers.ensures c.handler_pieces.ensures
