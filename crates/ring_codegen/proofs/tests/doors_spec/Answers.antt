use Rattle.std.proofs.Common.{codes, ◌∙◌, lit<}
use Rattle.stream_core.specs.declared.spec.Item.TheVariants as item
use Rattle.stream_core.specs.Stored.{with_item}
use Rattle.ring_codegen.specs.WorkedSpecs.{bare, bare_trigger, door}
use Rattle.ring_codegen.proofs.Fitting.{room}
use Rattle.ring_codegen.proofs.tests.doors_spec.Goals as goal

pub add-requires : goal.add-requires
add-requires c = room c.in_ok-spec.spec door c.in_ok-trigger_item.field-0 (item.Trigger (bare_trigger (bare (codes "chime") 0 72))) c.in_ok-spec.ensures c.in_ok-trigger_item.ensures (lit< tt)

pub returns : goal.returns
returns c = c.in_ok-add.ensures.ok ∙ (λ j. with_item (c.in_ok-spec.ensures j) (c.in_ok-trigger_item.ensures j))
