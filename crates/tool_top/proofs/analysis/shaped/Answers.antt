use Rattle.std.proofs.Common.{arith}
use Rattle.tool_top.proofs.analysis.shaped.Goals as goal

pub returns-in-Ok-declarations : goal.returns-in-Ok-declarations
returns-in-Ok-declarations c =
    let shaped = c.in-Ok-declarations.ensures in
    let scanned = c.in-Ok.ensures in
    let forest = c.in-Ok.forest in (
      record { forest = forest; scanned = scanned.0; fault = shaped.parses.0; is = shaped.parses.1.0; kept = shaped.parses.1.1 },
      record {
        nested = let e = shaped.nesting in let h = scanned.1.nested in omega arith;
        lists = let e = shaped.lists in let h = scanned.1.lists in omega arith;
        items = let e = shaped.items in let h = scanned.1.items in omega arith;
      },
    )
