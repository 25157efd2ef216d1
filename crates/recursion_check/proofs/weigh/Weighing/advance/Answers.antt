use Rattle.std.proofs.Common.{length, Some, ◌∙◌, sym, ap, arith}
use Rattle.std.proofs.lemmas.Option.{slice_get_read}
use Rattle.recursion_check.specs.Weighed.{last_of, tos}
use Rattle.recursion_check.proofs.Settling.{last_there, last_tos, none_left}
use Rattle.recursion_check.proofs.weigh.Weighing.advance.Goals as goal

pub index-requires : goal.index-requires
index-requires c =
    let s = c.loop-v.self in
    let v = c.in-Some.v in
    let l = ap last_of (sym c.as_slice.ensures.value) ∙ sym c.last_place.ensures ∙ c.in-Some.is in
    let b = last_there c.args.spec.now s.stages.items s.weights.items (tos s.todo.items) v c.loop-v.invariant.weighing (last_tos s.todo.items v l) in
    omega (arith, b, s.stages.ok.0)

pub returns-in-New-clause-is_new : goal.returns-in-New-clause-is_new
returns-in-New-clause-is_new c =
    let s = c.loop-v.self in
    let v = c.in-Some.v in
    let l = ap last_of (sym c.as_slice.ensures.value) ∙ sym c.last_place.ensures ∙ c.in-Some.is in
    let b = last_there c.args.spec.now s.stages.items s.weights.items (tos s.todo.items) v c.loop-v.invariant.weighing (last_tos s.todo.items v l) in
    slice_get_read s.stages.items (length s.stages.items) v c.index.result.now (omega arith) b c.index.ensures ∙ ap Some c.in-New.is

pub weigh-requires-clause-is_open : goal.weigh-requires-clause-is_open
weigh-requires-clause-is_open c =
    let s = c.loop-v.self in
    let v = c.in-Some.v in
    let l = ap last_of (sym c.as_slice.ensures.value) ∙ sym c.last_place.ensures ∙ c.in-Some.is in
    let b = last_there c.args.spec.now s.stages.items s.weights.items (tos s.todo.items) v c.loop-v.invariant.weighing (last_tos s.todo.items v l) in
    slice_get_read s.stages.items (length s.stages.items) v c.index.result.now (omega arith) b c.index.ensures ∙ ap Some c.in-Open.is

pub skip-requires-clause-is_known : goal.skip-requires-clause-is_known
skip-requires-clause-is_known c =
    let s = c.loop-v.self in
    let v = c.in-Some.v in
    let l = ap last_of (sym c.as_slice.ensures.value) ∙ sym c.last_place.ensures ∙ c.in-Some.is in
    let b = last_there c.args.spec.now s.stages.items s.weights.items (tos s.todo.items) v c.loop-v.invariant.weighing (last_tos s.todo.items v l) in
    slice_get_read s.stages.items (length s.stages.items) v c.index.result.now (omega arith) b c.index.ensures ∙ ap Some c.in-Known.is

pub returns-clause-weighed : goal.returns-clause-weighed
returns-clause-weighed c = none_left c.loop-v.self.todo.items (ap last_of (sym c.as_slice.ensures.value) ∙ sym c.last_place.ensures ∙ c.in_default.is)
