use Rattle.std.proofs.Common.{◌≡◌, ℕ, [], ◌∷◌, codes, ap, ◌∙◌, lit<}
use Rattle.stream_core.specs.declared.spec.Item.TheVariants as item
use Rattle.stream_core.specs.Stored.{with_item}
use Rattle.ring_codegen.specs.WorkedSpecs.{bool_item}
use Rattle.ring_codegen.specs.WorkedSpecs.{bare, bare_trigger, bare_spec}
use Rattle.ring_codegen.proofs.Fitting.{started, placed_first, room}
use Rattle.ring_codegen.proofs.tests.door_spec.Goals as goal

pub add-requires : goal.add-requires
add-requires c =
    let start = started c.new-spec.result c.in_ok-name.field-0 (codes "door") c.new.result c.new-spec.ensures c.in_ok-name.ensures c.new.ensures in
    let first = placed_first c.new-spec.result c.place.new.self (codes "door") 0 c.in_ok-ajar.ajar start c.in_ok-ajar.ensures.once in
    room c.place.new.self (bare_spec (codes "door") [] (0 ∷ []) []) c.in_ok-extern_item.field-0 (item.Extern (bool_item (codes "ajar"))) first.0 c.in_ok-extern_item.ensures (lit< tt)

pub add-requires-2 : goal.add-requires-2
add-requires-2 c =
    let start = started c.new-spec.result c.in_ok-name.field-0 (codes "door") c.new.result c.new-spec.ensures c.in_ok-name.ensures c.new.ensures in
    let first = placed_first c.new-spec.result c.place.new.self (codes "door") 0 c.in_ok-ajar.ajar start c.in_ok-ajar.ensures.once in
    let second : c.add.new.self ≡ bare_spec (codes "door") (codes "ajar" ∷ []) (0 ∷ []) [] = c.in_ok-add.ensures.ok ∙ (λ j. with_item (first.0 j) (c.in_ok-extern_item.ensures j)) in
    room c.add.new.self (bare_spec (codes "door") (codes "ajar" ∷ []) (0 ∷ []) []) c.in_ok-trigger_item.field-0 (item.Trigger (bare_trigger (bare (codes "chime") c.in_ok-ajar.ajar 49))) second c.in_ok-trigger_item.ensures (lit< tt)

pub returns : goal.returns
returns c =
    let start = started c.new-spec.result c.in_ok-name.field-0 (codes "door") c.new.result c.new-spec.ensures c.in_ok-name.ensures c.new.ensures in
    let first = placed_first c.new-spec.result c.place.new.self (codes "door") 0 c.in_ok-ajar.ajar start c.in_ok-ajar.ensures.once in
    let second : c.add.new.self ≡ bare_spec (codes "door") (codes "ajar" ∷ []) (0 ∷ []) [] = c.in_ok-add.ensures.ok ∙ (λ j. with_item (first.0 j) (c.in_ok-extern_item.ensures j)) in
    c.in_ok-add-2.ensures.ok ∙ (λ j. with_item (second j) (c.in_ok-trigger_item.ensures j)) ∙ ap (λ (k : ℕ). with_item (bare_spec (codes "door") (codes "ajar" ∷ []) (0 ∷ []) []) (item.Trigger (bare_trigger (bare (codes "chime") k 49)))) first.1
