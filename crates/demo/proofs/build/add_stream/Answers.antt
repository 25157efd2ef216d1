use Rattle.std.proofs.Common.{◌∙◌, ap}
use Rattle.std.proofs.lemmas.Result.{on_ok_weaker}
use Rattle.demo.proofs.Building.{places}
use Rattle.demo.proofs.Added.{stream_next}
use Rattle.demo.proofs.build.add_stream.Goals as goal

pub returns : goal.returns
returns c = λ k m built low.
    let a = c.in_ok-later.ensures in
    let b = c.in_ok-one.ensures in
    let d = c.in_ok-expr.ensures in
    on_ok_weaker c.add.result
    (λ e. stream_next k c.args.i m c.requires.few low c.args.spec.now built c.place.new.self c.place-2.new.self c.place-3.new.self c.add.new.self
    c.in_ok-name.name c.in_ok-init.init c.in_ok-later.later c.in_ok-one.one c.in_ok-expr.expr
    (places _ _ _ _ a.once a.others a.kept a.placed a.list)
    (places _ _ _ _ b.once b.others b.kept b.placed b.list)
    (places _ _ _ _ d.once d.others d.kept d.placed d.list)
    e c.in_ok-name.ensures c.in_ok-init.ensures)
    c.add.ensures.ok
