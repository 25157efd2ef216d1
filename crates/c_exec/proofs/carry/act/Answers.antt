use Rattle.std.proofs.Common.{◌+◌, refl, sym, ap, ◌∙◌}
use Rattle.c_exec.specs.declared.code.Line.{Line}
use Rattle.c_exec.specs.Codes.{act_of}
use Rattle.c_exec.specs.Going.{act}
use Rattle.c_exec.specs.Logs.{memory_of, rooms_of}
use Rattle.c_exec.proofs.carry.act.Goals as goal

pub returns-in-Store-clause-value : goal.returns-in-Store-clause-value
returns-in-Store-clause-value g c =
    let rs = rooms_of c.args.pile.now c.args.log.now in
    let m = memory_of c.args.statics.now c.args.locals.now c.args.log.now in
    ap (λ (l : Line). (act rs c.args.row.now (act_of l) m).value) c.in-Store.is ∙ c.store.ensures.value rs c.args.row.now c.args.log.now refl

pub returns-in-Store-clause-count : goal.returns-in-Store-clause-count
returns-in-Store-clause-count g c =
    let rs = rooms_of c.args.pile.now c.args.log.now in
    let m = memory_of c.args.statics.now c.args.locals.now c.args.log.now in
    c.store.ensures.count rs c.args.row.now c.args.log.now refl
    ∙ ap (λ (l : Line). c.args.steps.now + (act rs c.args.row.now (act_of l) m).count) (sym c.in-Store.is)
