use Rattle.std.proofs.Common.{List, map, refl, ap, ◌∙◌, arith}
use Rattle.std.specs.List.{sum_by}
use Rattle.c_exec.specs.declared.calls.Log.{Log}
use Rattle.c_exec.specs.declared.code.Line.{Line}
use Rattle.c_exec.specs.Codes.{act_of}
use Rattle.c_exec.specs.Needs.{most_need, call_count, call_words}
use Rattle.c_exec.specs.Resolving.{acts_for}
use Rattle.c_exec.proofs.Starting.{rooms_made, first_are, begins_with}
use Rattle.c_exec.proofs.machine.Machine.start.Goals as goal

pub invariant_of-result : goal.invariant_of-result
invariant_of-result c =
    let acts = map act_of c.in_ok-lines.lines.items in
    let long = c.in_ok-locals.ensures.len in
    let full = c.in_ok-locals.locals.ok.0 in
    let width = c.in_ok-locals_width.ensures in
    record {
      well_formed = c.requires;
      lines = c.in_ok-lines.ensures;
      rooms =
          rooms_made acts (acts_for c.args.unit.now) c.in_ok-pile.pile c.in_ok-log.log c.in_ok-most_need.field-0 c.in_ok-calls.field-0 c.in_ok-all_words.field-0
          c.in_ok-lines.ensures c.in_ok-pile.ensures c.in_ok-log.ensures
          (c.in_ok-most_need.ensures ∙ ap (λ (ls : List Line). most_need (map act_of ls)) c.as_slice.ensures.value)
          (c.in_ok-calls.ensures ∙ ap (λ (ls : List Line). sum_by call_count (map act_of ls)) c.as_slice-2.ensures.value)
          (c.in_ok-all_words.ensures ∙ ap (λ (ls : List Line). sum_by call_words (map act_of ls)) c.as_slice-3.ensures.value);
      locals = omega (arith, long, full, width);
      statics = λ n. first_are c.args.unit.now c.in_ok-statics.statics.items c.requires c.in_ok-statics.ensures;
    }

pub returns : goal.returns
returns c = begins_with c.args.unit.now _ c.requires refl c.in_ok-statics.ensures (ap (λ (l : Log). l.handlers.items) c.in_ok-log.ensures) refl
