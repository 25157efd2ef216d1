use Rattle.std.proofs.Common.{◌≡◌, ℕ, List, [], ◌∷◌, ◌∙◌, sym, ap, subst}
use Rattle.stream_types.specs.declared.types.TypeEntry.{TypeEntry}
use Rattle.stream_core.specs.declared.spec.Item.TheVariants as item
use Rattle.stream_core.specs.Value.{SpecValue}
use Rattle.stream_core.specs.Stored.{with_item}
use Rattle.stream_core.specs.Soundness.{HasNoCycle}
use Rattle.stream_core.specs.Term.{defs_of}
use Rattle.stream_core.specs.WellTyped.{WellTyped}
use Rattle.stream_core.proofs.SharedNodes.{word8, t_item, with_nodes, shared, well_typed, no_cycle, made}
use Rattle.stream_core.proofs.tests.shared_sums.Goals as goal

empty_made : (s : SpecValue) (n x : List ℕ) (ts : List TypeEntry) → s ≡ record { name = n; types = ts; nodes = []; externs = []; streams = []; defs = []; triggers = []; observers = []; libs = [] } → n ≡ 115 ∷ [] → ts ≡ [] → x ≡ 120 ∷ [] → with_item s (item.Extern (record { name = x; ty = word8 })) ≡ with_nodes [] []
empty_made s n x ts e p q r =
    ap (λ o. with_item o (item.Extern (record { name = x; ty = word8 }))) e
    ∙ ap (λ m. with_item (record { name = m; types = ts; nodes = []; externs = []; streams = []; defs = []; triggers = []; observers = []; libs = [] }) (item.Extern (record { name = x; ty = word8 }))) p
    ∙ ap (λ m. with_item (record { name = 115 ∷ []; types = m; nodes = []; externs = []; streams = []; defs = []; triggers = []; observers = []; libs = [] }) (item.Extern (record { name = x; ty = word8 }))) q
    ∙ ap (λ m. with_item (record { name = 115 ∷ []; types = []; nodes = []; externs = []; streams = []; defs = []; triggers = []; observers = []; libs = [] }) (item.Extern (record { name = m; ty = word8 }))) r

pub returns-clause-typed : goal.returns-clause-typed
returns-clause-typed c =
    let e = c.in_ok-add.ensures.ok ∙ empty_made c.new-spec.result c.in_ok-name.field-0 c.in_ok-x_name.x_name c.new.result c.new-spec.ensures c.in_ok-name.ensures c.new.ensures c.in_ok-x_name.ensures in
    let f = c.in_ok-add-2.ensures.ok ∙ ap (λ x. with_item c.place-4.new.self (item.Trigger x)) c.in_ok-trigger.ensures in
    let is = made c.add.new.self c.place.new.self c.place-2.new.self c.place-3.new.self c.place-4.new.self c.add-2.new.self c.in_ok-yes.yes c.in_ok-x.x c.in_ok-first.first c.in_ok-second.second e c.in_ok-yes.ensures.once c.in_ok-x.ensures.once c.in_ok-first.ensures.once c.in_ok-second.ensures.once f in
    subst WellTyped (sym is) well_typed

pub returns-clause-no_cycle : goal.returns-clause-no_cycle
returns-clause-no_cycle c =
    let e = c.in_ok-add.ensures.ok ∙ empty_made c.new-spec.result c.in_ok-name.field-0 c.in_ok-x_name.x_name c.new.result c.new-spec.ensures c.in_ok-name.ensures c.new.ensures c.in_ok-x_name.ensures in
    let f = c.in_ok-add-2.ensures.ok ∙ ap (λ x. with_item c.place-4.new.self (item.Trigger x)) c.in_ok-trigger.ensures in
    let is = made c.add.new.self c.place.new.self c.place-2.new.self c.place-3.new.self c.place-4.new.self c.add-2.new.self c.in_ok-yes.yes c.in_ok-x.x c.in_ok-first.first c.in_ok-second.second e c.in_ok-yes.ensures.once c.in_ok-x.ensures.once c.in_ok-first.ensures.once c.in_ok-second.ensures.once f in
    subst (λ s. HasNoCycle (defs_of s)) (sym is) no_cycle
