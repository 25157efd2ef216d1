use Rattle.std.proofs.Common.{arith, ◌∷◌, ◌+◌, drop, ◌∙◌}
use Rattle.std.specs.List.{flat_map}
use Rattle.std.proofs.lemmas.List.{drop_all}
use Rattle.std.proofs.lemmas.Result.{err_from_is_err_and}
use Rattle.c99_tree.specs.Lookup.{arrays_in}
use Rattle.c99_tree.specs.Spelling.{pick_line}
use Rattle.c99_read.specs.LineAt.{pick_of}
use Rattle.c99_read.proofs.Behind.{picks_more, line_more, line_fail, nothing_behind}
use Rattle.c99_read.proofs.WordsGo.{drop_item}
use Rattle.c99_read.proofs.known.picks_at.Goals as goal

pub returns-in_err-after : goal.returns-in_err-after
returns-in_err-after c =
    let i = c.loop-def.def-index in
    let all = c.args.types.now in
    let left = drop (i + 1) all in
    let x = c.def-item.result in
    let r = c.loop-def.rest.now in
    let is = drop_item all i x c.loop-def-test.true c.def-item.is in
    let failed = line_fail (flat_map pick_line (arrays_in (x ∷ left))) (pick_of x r) (flat_map pick_line (arrays_in left)) r (picks_more x left r) c.in_err-after.field-0.0 c.in_err-after.ensures in
    let p = err_from_is_err_and c.from_residual.result c.from_residual.ensures.1 in
    rw p.1 (rw p.2 (rw c.loop-def.invariant (rw is failed)))

pub loop-def-preserved : goal.loop-def-preserved
loop-def-preserved c =
    let i = c.loop-def.def-index in
    let all = c.args.types.now in
    let left = drop (i + 1) all in
    let x = c.def-item.result in
    let r = c.loop-def.rest.now in
    let is = drop_item all i x c.loop-def-test.true c.def-item.is in
    c.loop-def.invariant ∙ rw is (line_more (flat_map pick_line (arrays_in (x ∷ left))) (pick_of x r) (flat_map pick_line (arrays_in left)) r (picks_more x left r) c.in_ok-after.after.now c.in_ok-after.ensures)

pub returns : goal.returns
returns c = c.loop-def.invariant ∙ rw (drop_all c.loop-def.def-index c.args.types.now (omega arith)) (nothing_behind c.loop-def.rest.now)
