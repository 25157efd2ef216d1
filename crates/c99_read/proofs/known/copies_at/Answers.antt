use Rattle.std.proofs.Common.{arith, ◌∷◌, ◌+◌, drop, ◌∙◌}
use Rattle.std.specs.List.{flat_map}
use Rattle.std.proofs.lemmas.List.{drop_all}
use Rattle.std.proofs.lemmas.Result.{err_from_is_err_and}
use Rattle.c99_tree.specs.Spelling.{copy_line}
use Rattle.c99_read.specs.LineAt.{copy_of}
use Rattle.c99_read.proofs.Behind.{copies_more, line_more, line_fail, nothing_behind}
use Rattle.c99_read.proofs.WordsGo.{drop_item}
use Rattle.c99_read.proofs.known.copies_at.Goals as goal

pub returns-in_err-after : goal.returns-in_err-after
returns-in_err-after c =
    let i = c.loop-x.x-index in
    let all = c.args.externs.now in
    let left = drop (i + 1) all in
    let x = c.x-item.result in
    let r = c.loop-x.rest.now in
    let is = drop_item all i x c.loop-x-test.true c.x-item.is in
    let failed = line_fail (flat_map copy_line (x ∷ left)) (copy_of x r) (flat_map copy_line left) r (copies_more x left r) c.in_err-after.field-0.0 c.in_err-after.ensures in
    let p = err_from_is_err_and c.from_residual.result c.from_residual.ensures.1 in
    rw p.1 (rw p.2 (rw c.loop-x.invariant (rw is failed)))

pub loop-x-preserved : goal.loop-x-preserved
loop-x-preserved c =
    let i = c.loop-x.x-index in
    let all = c.args.externs.now in
    let left = drop (i + 1) all in
    let x = c.x-item.result in
    let r = c.loop-x.rest.now in
    let is = drop_item all i x c.loop-x-test.true c.x-item.is in
    c.loop-x.invariant ∙ rw is (line_more (flat_map copy_line (x ∷ left)) (copy_of x r) (flat_map copy_line left) r (copies_more x left r) c.in_ok-after.after.now c.in_ok-after.ensures)

pub returns : goal.returns
returns c = c.loop-x.invariant ∙ rw (drop_all c.loop-x.x-index c.args.externs.now (omega arith)) (nothing_behind c.loop-x.rest.now)
