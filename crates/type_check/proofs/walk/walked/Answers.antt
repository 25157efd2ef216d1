use Rattle.std.proofs.Common.{◌+◌, [], take, drop, arith}
use Rattle.std.proofs.lemmas.Result.{err_from_is_err_and}
use Rattle.std.proofs.lemmas.Bool.Decides.{nat_tests}
use Rattle.type_check.specs.Untyped.{reversed}
use Rattle.type_check.proofs.Passing.{walked_start, walked_next, walked_stops, walked_end, walked_at, walked_more, walked_whole}
use Rattle.type_check.proofs.walk.walked.Goals as goal

pub loop-next-init : goal.loop-next-init
loop-next-init c = λ names b. walked_start names c.args.decls.now c.args.scope.now c.new-order.result c.new-sent.result.entries b c.new-order.ensures.met c.new-order.ensures.placed c.new-order.ensures.waiting c.new-sent.ensures.empty

pub loop-next-preserved : goal.loop-next-preserved
loop-next-preserved c = λ names b.
    let xs = c.args.decls.now in
    let i = c.loop-next.next-index in
    let x = c.next-item.result in
    let before = reversed [] (take i xs) in
    let rest = drop (i + 1) xs in
    let w = walked_at names xs i x _ c.loop-next.scope c.loop-next.order c.loop-next.sent.entries c.loop-next-test.true c.next-item.is (c.loop-next.invariant names b) in
    let e = c.in_ok-decl.ensures in
    walked_more names xs i x _ c.decl.new.scope c.decl.new.order c.decl.new.sent.entries c.loop-next-test.true c.next-item.is
    (walked_next names before x rest xs c.loop-next.scope c.decl.new.scope c.loop-next.order c.decl.new.order c.loop-next.sent.entries c.decl.new.sent.entries w
    (e.keeps names before rest w.between) (e.sent names before rest w.between w.sent_are) (e.gives names before rest w.between w.sent_are))

pub returns-in_err-decl-clause-gives : goal.returns-in_err-decl-clause-gives
returns-in_err-decl-clause-gives c = λ names b.
    let xs = c.args.decls.now in
    let i = c.loop-next.next-index in
    let x = c.next-item.result in
    let before = reversed [] (take i xs) in
    let rest = drop (i + 1) xs in
    let w = walked_at names xs i x _ c.loop-next.scope c.loop-next.order c.loop-next.sent.entries c.loop-next-test.true c.next-item.is (c.loop-next.invariant names b) in
    let p = err_from_is_err_and c.from_residual.result c.from_residual.ensures.1 in
    rw p.1 (rw p.2 (walked_stops (Unit {0}) names before x rest xs c.loop-next.scope c.decl.new.scope.closed c.loop-next.order c.decl.new.order c.loop-next.sent.entries c.in_err-decl.field-0.0 w
    (c.in_err-decl.ensures.gives names before rest w.between w.sent_are)))

pub returns-clause-gives : goal.returns-clause-gives
returns-clause-gives c = λ names b.
    let xs = c.args.decls.now in
    let i = c.loop-next.next-index in
    let w = walked_whole names xs i c.loop-next.scope c.loop-next.order c.loop-next.sent.entries (grind (arith, nat_tests, c.loop-next-test.false)) (c.loop-next.invariant names b) in
    walked_end names (reversed [] xs) xs c.loop-next.scope c.loop-next.order c.loop-next.sent.entries w

pub returns-clause-keeps : goal.returns-clause-keeps
returns-clause-keeps c = λ names b.
    let xs = c.args.decls.now in
    let i = c.loop-next.next-index in
    let w = walked_whole names xs i c.loop-next.scope c.loop-next.order c.loop-next.sent.entries (grind (arith, nat_tests, c.loop-next-test.false)) (c.loop-next.invariant names b) in
    w.between
