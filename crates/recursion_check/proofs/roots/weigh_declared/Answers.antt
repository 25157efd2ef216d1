use Rattle.std.proofs.Common.{◌<◌, length, sym, ap, ◌∙◌, subst}
use Rattle.std.specs.Prelude.{All}
use Rattle.stream_core.specs.declared.spec.ObserverItem.{ObserverItem}
use Rattle.stream_core.specs.declared.spec.StreamItem.{StreamItem}
use Rattle.stream_core.specs.Weights.{IsTriggerThere}
use Rattle.stream_core.proofs.Roots.{triggers_there, observers_there, streams_there}
use Rattle.recursion_check.specs.Loads.{observers_of, streams_of, triggers_of, no_roots, with_loads}
use Rattle.recursion_check.proofs.Tallied.{in_turn}
use Rattle.recursion_check.proofs.roots.weigh_declared.Goals as goal

pub with_triggers-tally-requires-clause-there : goal.with_triggers-tally-requires-clause-there
with_triggers-tally-requires-clause-there c = subst (All (IsTriggerThere c.args.spec.now)) (sym c.triggers.ensures) (triggers_there c.args.spec.now c.requires.typed)

pub with_observers-tally-requires-clause-there : goal.with_observers-tally-requires-clause-there
with_observers-tally-requires-clause-there c = subst (All (λ (x : ObserverItem). x.root.expr < length c.args.spec.now.nodes)) (sym c.observers.ensures) (observers_there c.args.spec.now c.requires.typed)

pub with_streams-requires-clause-there : goal.with_streams-requires-clause-there
with_streams-requires-clause-there c = subst (All (λ (x : StreamItem). x.expr < length c.args.spec.now.nodes)) (sym c.streams.ensures) (streams_there c.args.spec.now c.requires.typed)

pub returns : goal.returns
returns c =
    let s = c.args.spec.now in
    let a = c.with_triggers-tally.ensures ∙ ap (λ xs. with_loads no_roots (triggers_of s xs)) c.triggers.ensures in
    let b = c.with_observers-tally.ensures ∙ ap (λ xs. with_loads c.with_triggers-tally.result (observers_of s xs)) c.observers.ensures in
    let d = c.with_streams.ensures ∙ ap (λ xs. with_loads c.with_observers-tally.result (streams_of s xs)) c.streams.ensures in
    in_turn s c.with_triggers-tally.result c.with_observers-tally.result c.with_streams.result a b d
