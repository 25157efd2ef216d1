use Rattle.std.proofs.Common.{◌≤◌, ◌+◌, ℕ, List, length, map, refl, sym, ap, ◌∙◌, subst}
use Rattle.std.specs.Vec.{with_items}
use Rattle.std.proofs.lemmas.List.{with_items_is}
use Rattle.c99_tree.specs.declared.unit.Unit.{Unit as CUnit}
use Rattle.c99_tree.specs.Weight.{unit_weight_of}
use Rattle.c_exec.specs.Codes.{act_of}
use Rattle.c_exec.specs.Inside.{AreStatics}
use Rattle.c_exec.specs.Logs.{memory_of, rooms_of}
use Rattle.c_exec.specs.Machine.{Kept}
use Rattle.c_exec.specs.PileOf.{PileOf}
use Rattle.c_exec.proofs.KeptAnswers.{enters_of, done_is, stopped_is, count_is, done_statics, done_answers, stopped_answers, counted_as, counted_within}
use Rattle.c_exec.proofs.machine.Machine.carry_out.Goals as goal

pub invariant_of-self : goal.invariant_of-self
invariant_of-self g c =
    let v = c.self.view_is in
    let bs = map act_of c.as_slice.result.now in
    let acts = ap (map act_of) c.as_slice.ensures.value ∙ c.self.invariant.lines in
    let e = enters_of c.self.inside c.args.self.now c.clear.new.self c.args.row.now c.as_mut_slice.result.now c.as_mut_slice-2.result.now
    (ap (λ (k : Kept). k.unit) v) (ap (λ (k : Kept). k.statics) v) (ap (λ (k : Kept). k.met) v) c.self.invariant c.requires.row c.requires.met
    c.clear.ensures.handlers c.clear.ensures.ends c.clear.ensures.words c.as_mut_slice.ensures.value c.as_mut_slice-2.ensures.value in
    let u = c.self.inside.unit.now in
    let row = c.args.row.now in
    let rs = rooms_of c.self.inside.pile c.clear.new.self in
    let m = memory_of c.as_mut_slice.result.now c.as_mut_slice-2.result.now c.clear.new.self in
    let after = memory_of c.act_all.new.statics c.act_all.new.locals c.act_all.new.log in
    let done = done_is u row rs bs m after c.act_all.result c.in-Ok.field-0 acts c.act_all.ensures.value c.in-Ok.is in
    let statics = with_items_is c.self.inside.statics c.act_all.new.statics (c.act_all.ensures.statics ∙ c.as_mut_slice.ensures.len) in
    let locals = with_items_is c.self.inside.locals c.act_all.new.locals (c.act_all.ensures.locals ∙ c.as_mut_slice-2.ensures.len) in
    record {
      well_formed = c.self.invariant.well_formed;
      lines = c.self.invariant.lines;
      rooms = c.act_all.ensures.rooms ∙ e.ready.rooms;
      locals = ap (λ (ws : List ℕ). length ws) locals ∙ c.act_all.ensures.locals ∙ e.ready.locals;
      statics = λ n. subst (λ (ws : List ℕ). AreStatics u ws) (sym statics) (done_statics u row rs m after e.ready done);
    }

pub returns-in-Ok-clause-value : goal.returns-in-Ok-clause-value
returns-in-Ok-clause-value g c =
    let v = c.self.view_is in
    let bs = map act_of c.as_slice.result.now in
    let acts = ap (map act_of) c.as_slice.ensures.value ∙ c.self.invariant.lines in
    let e = enters_of c.self.inside c.args.self.now c.clear.new.self c.args.row.now c.as_mut_slice.result.now c.as_mut_slice-2.result.now
    (ap (λ (k : Kept). k.unit) v) (ap (λ (k : Kept). k.statics) v) (ap (λ (k : Kept). k.met) v) c.self.invariant c.requires.row c.requires.met
    c.clear.ensures.handlers c.clear.ensures.ends c.clear.ensures.words c.as_mut_slice.ensures.value c.as_mut_slice-2.ensures.value in
    let u = c.self.inside.unit.now in
    let row = c.args.row.now in
    let rs = rooms_of c.self.inside.pile c.clear.new.self in
    let m = memory_of c.as_mut_slice.result.now c.as_mut_slice-2.result.now c.clear.new.self in
    let after = memory_of c.act_all.new.statics c.act_all.new.locals c.act_all.new.log in
    let done = done_is u row rs bs m after c.act_all.result c.in-Ok.field-0 acts c.act_all.ensures.value c.in-Ok.is in
    let statics = with_items_is c.self.inside.statics c.act_all.new.statics (c.act_all.ensures.statics ∙ c.as_mut_slice.ensures.len) in
    let new : Kept =
    record {
      unit = u;
      statics = (with_items c.self.inside.statics c.act_all.new.statics).items;
      handlers = c.act_all.new.log.handlers.items;
      ends = c.act_all.new.log.ends.items;
      words = c.act_all.new.log.words.items;
      met = c.self.inside.met;
    } in
    done_answers u row rs m after e.ready c.args.self.now new e.unit e.met e.statics done
    (record { unit = sym e.unit; is = refl; statics = statics; handlers = refl; ends = refl; words = refl; met = ap (λ (k : Kept). k.met) v ∙ e.met })

pub returns-in-Ok-clause-count : goal.returns-in-Ok-clause-count
returns-in-Ok-clause-count g c =
    let v = c.self.view_is in
    let bs = map act_of c.as_slice.result.now in
    let acts = ap (map act_of) c.as_slice.ensures.value ∙ c.self.invariant.lines in
    let e = enters_of c.self.inside c.args.self.now c.clear.new.self c.args.row.now c.as_mut_slice.result.now c.as_mut_slice-2.result.now
    (ap (λ (k : Kept). k.unit) v) (ap (λ (k : Kept). k.statics) v) (ap (λ (k : Kept). k.met) v) c.self.invariant c.requires.row c.requires.met
    c.clear.ensures.handlers c.clear.ensures.ends c.clear.ensures.words c.as_mut_slice.ensures.value c.as_mut_slice-2.ensures.value in
    let u = c.self.inside.unit.now in
    let row = c.args.row.now in
    let rs = rooms_of c.self.inside.pile c.clear.new.self in
    let m = memory_of c.as_mut_slice.result.now c.as_mut_slice-2.result.now c.clear.new.self in
    let after = memory_of c.act_all.new.statics c.act_all.new.locals c.act_all.new.log in
    let count = count_is u row rs bs m c.args.steps.now c.act_all.new.steps acts c.act_all.ensures.count in
    counted_as u row rs m e.ready c.args.self.now c.args.steps.now c.act_all.new.steps e.unit e.met e.statics count

pub returns-in-Ok-clause-within : goal.returns-in-Ok-clause-within
returns-in-Ok-clause-within g c =
    let v = c.self.view_is in
    let bs = map act_of c.as_slice.result.now in
    let acts = ap (map act_of) c.as_slice.ensures.value ∙ c.self.invariant.lines in
    let e = enters_of c.self.inside c.args.self.now c.clear.new.self c.args.row.now c.as_mut_slice.result.now c.as_mut_slice-2.result.now
    (ap (λ (k : Kept). k.unit) v) (ap (λ (k : Kept). k.statics) v) (ap (λ (k : Kept). k.met) v) c.self.invariant c.requires.row c.requires.met
    c.clear.ensures.handlers c.clear.ensures.ends c.clear.ensures.words c.as_mut_slice.ensures.value c.as_mut_slice-2.ensures.value in
    let u = c.self.inside.unit.now in
    let row = c.args.row.now in
    let rs = rooms_of c.self.inside.pile c.clear.new.self in
    let m = memory_of c.as_mut_slice.result.now c.as_mut_slice-2.result.now c.clear.new.self in
    let after = memory_of c.act_all.new.statics c.act_all.new.locals c.act_all.new.log in
    let count = count_is u row rs bs m c.args.steps.now c.act_all.new.steps acts c.act_all.ensures.count in
    subst (λ (w : CUnit). c.act_all.new.steps ≤ c.args.steps.now + unit_weight_of w) (sym e.unit)
    (counted_within u row rs m e.ready c.args.steps.now c.act_all.new.steps count)

pub returns-in-Err-clause-value : goal.returns-in-Err-clause-value
returns-in-Err-clause-value g c =
    let v = c.self.view_is in
    let bs = map act_of c.as_slice.result.now in
    let acts = ap (map act_of) c.as_slice.ensures.value ∙ c.self.invariant.lines in
    let e = enters_of c.self.inside c.args.self.now c.clear.new.self c.args.row.now c.as_mut_slice.result.now c.as_mut_slice-2.result.now
    (ap (λ (k : Kept). k.unit) v) (ap (λ (k : Kept). k.statics) v) (ap (λ (k : Kept). k.met) v) c.self.invariant c.requires.row c.requires.met
    c.clear.ensures.handlers c.clear.ensures.ends c.clear.ensures.words c.as_mut_slice.ensures.value c.as_mut_slice-2.ensures.value in
    let u = c.self.inside.unit.now in
    let row = c.args.row.now in
    let rs = rooms_of c.self.inside.pile c.clear.new.self in
    let m = memory_of c.as_mut_slice.result.now c.as_mut_slice-2.result.now c.clear.new.self in
    let after = memory_of c.act_all.new.statics c.act_all.new.locals c.act_all.new.log in
    let stopped = stopped_is u row rs bs m after c.act_all.result c.in-Err.why acts c.act_all.ensures.value c.in-Err.is in
    stopped_answers u row rs m c.in-Err.why e.ready c.args.self.now _ e.unit e.met e.statics stopped (sym e.unit)
    (ap (λ (p : PileOf). p.items) c.clear-in-Err.ensures.handlers) refl

pub returns-in-Err-clause-count : goal.returns-in-Err-clause-count
returns-in-Err-clause-count g c =
    let v = c.self.view_is in
    let bs = map act_of c.as_slice.result.now in
    let acts = ap (map act_of) c.as_slice.ensures.value ∙ c.self.invariant.lines in
    let e = enters_of c.self.inside c.args.self.now c.clear.new.self c.args.row.now c.as_mut_slice.result.now c.as_mut_slice-2.result.now
    (ap (λ (k : Kept). k.unit) v) (ap (λ (k : Kept). k.statics) v) (ap (λ (k : Kept). k.met) v) c.self.invariant c.requires.row c.requires.met
    c.clear.ensures.handlers c.clear.ensures.ends c.clear.ensures.words c.as_mut_slice.ensures.value c.as_mut_slice-2.ensures.value in
    let u = c.self.inside.unit.now in
    let row = c.args.row.now in
    let rs = rooms_of c.self.inside.pile c.clear.new.self in
    let m = memory_of c.as_mut_slice.result.now c.as_mut_slice-2.result.now c.clear.new.self in
    let after = memory_of c.act_all.new.statics c.act_all.new.locals c.act_all.new.log in
    let count = count_is u row rs bs m c.args.steps.now c.act_all.new.steps acts c.act_all.ensures.count in
    counted_as u row rs m e.ready c.args.self.now c.args.steps.now c.act_all.new.steps e.unit e.met e.statics count

pub returns-in-Err-clause-within : goal.returns-in-Err-clause-within
returns-in-Err-clause-within g c =
    let v = c.self.view_is in
    let bs = map act_of c.as_slice.result.now in
    let acts = ap (map act_of) c.as_slice.ensures.value ∙ c.self.invariant.lines in
    let e = enters_of c.self.inside c.args.self.now c.clear.new.self c.args.row.now c.as_mut_slice.result.now c.as_mut_slice-2.result.now
    (ap (λ (k : Kept). k.unit) v) (ap (λ (k : Kept). k.statics) v) (ap (λ (k : Kept). k.met) v) c.self.invariant c.requires.row c.requires.met
    c.clear.ensures.handlers c.clear.ensures.ends c.clear.ensures.words c.as_mut_slice.ensures.value c.as_mut_slice-2.ensures.value in
    let u = c.self.inside.unit.now in
    let row = c.args.row.now in
    let rs = rooms_of c.self.inside.pile c.clear.new.self in
    let m = memory_of c.as_mut_slice.result.now c.as_mut_slice-2.result.now c.clear.new.self in
    let after = memory_of c.act_all.new.statics c.act_all.new.locals c.act_all.new.log in
    let count = count_is u row rs bs m c.args.steps.now c.act_all.new.steps acts c.act_all.ensures.count in
    subst (λ (w : CUnit). c.act_all.new.steps ≤ c.args.steps.now + unit_weight_of w) (sym e.unit)
    (counted_within u row rs m e.ready c.args.steps.now c.act_all.new.steps count)
