use Rattle.std.proofs.Common.{ℕ, List, subst}
use Rattle.tool_top.specs.Analysis.{Analyses}
use Rattle.tool_top.proofs.SessionsRun.{fetch_stops, text_stops}
use Rattle.tool_top.proofs.interpreting.fetch_spec.Goals as goal

pub returns-in-Err-clause-err : goal.returns-in-Err-clause-err
returns-in-Err-clause-err g c = fetch_stops (g.F.Shelf.files c.args.shelf.now) c.args.spec.now _ c.in-Err.ensures.err

pub returns-clause-err : goal.returns-clause-err
returns-clause-err g c =
    text_stops (g.F.Shelf.files c.args.shelf.now) c.args.spec.now c.in-Ok.text.items c.analyse.result c.in-Ok.ensures.ok
    (subst (λ (text : List ℕ). Analyses text c.analyse.result) c.deref.ensures.value c.analyse.ensures)
