use Rattle.std.proofs.Common.{◌≡◌, ◌+◌, ◌<◌, min, length, ◌∙◌, sym, ap, subst, arith}
use Rattle.std.specs.Prelude.{All}
use Rattle.stream_core.specs.declared.spec.ObserverItem.{ObserverItem}
use Rattle.stream_core.specs.declared.spec.StreamItem.{StreamItem}
use Rattle.stream_core.specs.Weights.{IsGoodItem, IsTriggerThere, triggers_weight, observers_weight, streams_weight, libs_weight}
use Rattle.stream_core.proofs.Roots.{triggers_there, observers_there, streams_there, items_good, founded}
use Rattle.stream_core.proofs.WholeWeight.{weight_is}
use Rattle.stream_core.proofs.spec.Spec.weight.Goals as goal

pub weigh_triggers-total-requires-clause-founded : goal.weigh_triggers-total-requires-clause-founded
weigh_triggers-total-requires-clause-founded c = founded c.args.self.now c.requires.typed c.requires.no_cycle

pub weigh_triggers-total-requires-clause-there : goal.weigh_triggers-total-requires-clause-there
weigh_triggers-total-requires-clause-there c = subst (All (IsTriggerThere c.args.self.now)) (sym c.triggers.ensures) (triggers_there c.args.self.now c.requires.typed)

pub weigh_observers-total-requires-clause-founded : goal.weigh_observers-total-requires-clause-founded
weigh_observers-total-requires-clause-founded c = founded c.args.self.now c.requires.typed c.requires.no_cycle

pub weigh_observers-total-requires-clause-there : goal.weigh_observers-total-requires-clause-there
weigh_observers-total-requires-clause-there c = subst (All (λ (x : ObserverItem). x.root.expr < length c.args.self.now.nodes)) (sym c.observers.ensures) (observers_there c.args.self.now c.requires.typed)

pub weigh_streams-total-requires-clause-founded : goal.weigh_streams-total-requires-clause-founded
weigh_streams-total-requires-clause-founded c = founded c.args.self.now c.requires.typed c.requires.no_cycle

pub weigh_streams-total-requires-clause-there : goal.weigh_streams-total-requires-clause-there
weigh_streams-total-requires-clause-there c = subst (All (λ (x : StreamItem). x.expr < length c.args.self.now.nodes)) (sym c.streams.ensures) (streams_there c.args.self.now c.requires.typed)

pub weigh_libs-requires-clause-founded : goal.weigh_libs-requires-clause-founded
weigh_libs-requires-clause-founded c = founded c.args.self.now c.requires.typed c.requires.no_cycle

pub weigh_libs-requires-clause-good : goal.weigh_libs-requires-clause-good
weigh_libs-requires-clause-good c = subst (All (IsGoodItem c.args.self.now)) (sym c.libs.ensures) (items_good c.args.self.now c.requires.typed)

pub returns : goal.returns
returns c =
    let s = c.args.self.now in
    let t = ap (triggers_weight s) c.triggers.ensures in
    let o = ap (observers_weight s) c.observers.ensures in
    let a = ap (streams_weight s) c.streams.ensures in
    let b = ap (libs_weight s) c.libs.ensures in
    let e : c.weigh_triggers-total.result + c.weigh_observers-total.result + c.weigh_streams-total.result + c.weigh_libs.result ≡ min (triggers_weight s s.triggers + observers_weight s s.observers + streams_weight s s.streams + libs_weight s s.libs) 262145 = omega (arith, t, o, a, b) in
    e ∙ ap (λ w. min w 262145) (sym (weight_is s))
