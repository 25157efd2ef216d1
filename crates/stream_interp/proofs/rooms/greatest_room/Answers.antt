use Rattle.std.proofs.Common.{◌<◌, length, sym, subst}
use Rattle.std.specs.Prelude.{All}
use Rattle.stream_core.specs.declared.spec.ObserverItem.{ObserverItem}
use Rattle.stream_core.specs.declared.spec.StreamItem.{StreamItem}
use Rattle.stream_core.specs.Weights.{IsTriggerThere}
use Rattle.stream_core.proofs.Roots.{observers_there, streams_there, triggers_there}
use Rattle.stream_interp.proofs.NowValues.{founded}
use Rattle.stream_interp.proofs.rooms.greatest_room.Goals as goal

pub of_triggers-requires : goal.of_triggers-requires
of_triggers-requires c =
    let s = c.args.spec.now in
    record { founded = founded s c.requires; typed = c.requires.typed; there = subst (All (IsTriggerThere s)) (sym c.triggers.ensures) (triggers_there s c.requires.typed) }

pub of_observers-requires : goal.of_observers-requires
of_observers-requires c =
    let s = c.args.spec.now in
    record { founded = founded s c.requires; typed = c.requires.typed; there = subst (All (λ (x : ObserverItem). x.root.expr < length s.nodes)) (sym c.observers.ensures) (observers_there s c.requires.typed) }

pub of_streams-requires : goal.of_streams-requires
of_streams-requires c =
    let s = c.args.spec.now in
    record { founded = founded s c.requires; typed = c.requires.typed; there = subst (All (λ (x : StreamItem). x.expr < length s.nodes)) (sym c.streams.ensures) (streams_there s c.requires.typed) }
