use Rattle.std.proofs.Common.{◌≡◌, ◌≤◌, length, map, drop, Result, Err, sym, ap, ◌∙◌, arith}
use Rattle.std.proofs.lemmas.Result.{err_from_is_err_and}
use Rattle.c99_tree.specs.declared.undefined.Undefined.{Undefined}
use Rattle.c99_tree.specs.Evaluation.{Met}
use Rattle.c_exec.specs.Codes.{act_of}
use Rattle.c_exec.specs.Going.{Memory, left_by, act_all}
use Rattle.c_exec.specs.Logs.{memory_of, rooms_of}
use Rattle.c_exec.proofs.ActsGo.{acts_next, acts_next_count, acts_stop, acts_stop_count, acts_end}
use Rattle.c_exec.proofs.carry.act_all.Goals as goal

pub loop-line-preserved : goal.loop-line-preserved
loop-line-preserved g c =
    let l = c.loop-line in
    let rs = rooms_of c.args.pile.now c.args.log.now in
    let now = rooms_of l.pile l.log in
    let before = memory_of l.statics l.locals l.log in
    let new = memory_of c.act.new.statics c.act.new.locals c.act.new.log in
    record {
      statics_long = c.act.ensures.statics ∙ l.invariant.statics_long;
      locals_long = c.act.ensures.locals ∙ l.invariant.locals_long;
      rooms = c.act.ensures.rooms ∙ l.invariant.rooms;
      value = sym (acts_next rs now c.args.row.now c.args.lines.now l.line-index c.line-item.result before new c.act.result
          c.loop-line-test.true c.line-item.is l.invariant.rooms c.act.ensures.value c.in_ok-act.was) ∙ l.invariant.value;
      count = acts_next_count rs now c.args.row.now c.args.lines.now l.line-index c.line-item.result before new c.act.result l.steps c.act.new.steps _
          c.loop-line-test.true c.line-item.is l.invariant.rooms c.act.ensures.value c.in_ok-act.was c.act.ensures.count l.invariant.count;
    }

pub returns-in_err-act-clause-value : goal.returns-in_err-act-clause-value
returns-in_err-act-clause-value g c =
    let l = c.loop-line in
    let rs = rooms_of c.args.pile.now c.args.log.now in
    let now = rooms_of l.pile l.log in
    let before = memory_of l.statics l.locals l.log in
    let new = memory_of c.act.new.statics c.act.new.locals c.act.new.log in
    let why = c.in_err-act.field-0.0 in
    let p = err_from_is_err_and c.from_residual.result c.from_residual.ensures.1 in
    sym l.invariant.value
    ∙ acts_stop rs now c.args.row.now c.args.lines.now l.line-index c.line-item.result before new c.act.result why
    c.loop-line-test.true c.line-item.is l.invariant.rooms c.act.ensures.value c.in_err-act.was
    ∙ sym (ap (λ (z : Result (Unit {0}) Undefined). left_by z new) (p.1 ∙ ap (λ (e : Undefined). Err e) p.2))

pub returns-in_err-act-clause-count : goal.returns-in_err-act-clause-count
returns-in_err-act-clause-count g c =
    let l = c.loop-line in
    let rs = rooms_of c.args.pile.now c.args.log.now in
    let now = rooms_of l.pile l.log in
    let before = memory_of l.statics l.locals l.log in
    let new = memory_of c.act.new.statics c.act.new.locals c.act.new.log in
    let why = c.in_err-act.field-0.0 in
    acts_stop_count rs now c.args.row.now c.args.lines.now l.line-index c.line-item.result before new c.act.result why l.steps c.act.new.steps _
    c.loop-line-test.true c.line-item.is l.invariant.rooms c.act.ensures.value c.in_err-act.was c.act.ensures.count l.invariant.count

pub returns-clause-value : goal.returns-clause-value
returns-clause-value g c =
    let l = c.loop-line in
    let rs = rooms_of c.args.pile.now c.args.log.now in
    let last : length c.args.lines.now ≤ l.line-index = omega arith in
    let end = acts_end rs c.args.row.now c.args.lines.now l.line-index (memory_of l.statics l.locals l.log) last in
    sym l.invariant.value ∙ ap (λ (z : Met Memory). z.value) end

pub returns-clause-count : goal.returns-clause-count
returns-clause-count g c =
    let l = c.loop-line in
    let rs = rooms_of c.args.pile.now c.args.log.now in
    let last : length c.args.lines.now ≤ l.line-index = omega arith in
    let end = acts_end rs c.args.row.now c.args.lines.now l.line-index (memory_of l.statics l.locals l.log) last in
    let none : (act_all rs c.args.row.now (map act_of (drop l.line-index c.args.lines.now)) (memory_of l.statics l.locals l.log)).count ≡ 0 =
    ap (λ (z : Met Memory). z.count) end in
    let whole = l.invariant.count in
    omega (arith, none, whole)
