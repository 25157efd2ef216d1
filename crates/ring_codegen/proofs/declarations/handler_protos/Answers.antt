use Rattle.std.proofs.Common.{◌≡◌, ◌<◌, List, [], ◌∷◌, ◌++◌, length, refl, sym, ap, ◌∙◌, arith}
use Rattle.std.specs.Prelude.{slice_get, Some}
use Rattle.std.proofs.lemmas.Option.{slice_get_read}
use Rattle.stream_core.specs.declared.spec.TriggerItem.{TriggerItem}
use Rattle.stream_core.specs.Meaning.{closed_spec}
use Rattle.c99_tree.specs.declared.types.CProto.{CProto}
use Rattle.ring_codegen.specs.CTypes.{c_handler}
use Rattle.ring_codegen.proofs.FirstNames.{listed_new, listed_old, listed_none, listed_all}
use Rattle.ring_codegen.proofs.SoundUnits.{handler_is}
use Rattle.ring_codegen.proofs.declarations.handler_protos.Goals as goal
use Rattle.ring_codegen.proofs.declarations.handler_protos.Goals.{then-is_first+in_ok-proto+in_ok-push, else-is_first}

pub returns : goal.returns
returns c = c.of.ensures ∙ listed_all (c_handler (closed_spec c.args.spec.now)) c.args.spec.now _ _ _ _ c.loop-trigger.invariant (omega arith) c.triggers-trigger-items.ensures

pub loop-trigger-init : goal.loop-trigger-init
loop-trigger-init c = listed_none (c_handler (closed_spec c.args.spec.now)) _ _ _ c.new-seen.ensures.empty c.new-protos.ensures.items

pub loop-trigger-preserved : goal.loop-trigger-preserved
loop-trigger-preserved c =
    let s = c.args.spec.now in
    let i = c.loop-trigger.trigger-index in
    let x = c.trigger-item.result in
    let items = c.triggers-trigger-items.result.now in
    let proto = c_handler (closed_spec s) in
    let within : i < length items = omega arith in
    let there : slice_get s.triggers i ≡ Some x = ap (λ (xs : List TriggerItem). slice_get xs i) (sym c.triggers-trigger-items.ensures) ∙ slice_get_read items (length items) i x refl within c.trigger-item.is in
    elim c.if-is_first.branch [
      | then-is_first+in_ok-proto+in_ok-push w ↦
          let pushed : c.if-is_first.protos.items ≡ c.loop-trigger.protos.items ++ proto x.name ∷ []
          = ap (λ v. v.items) w.protos-is ∙ w.in_ok-push.ensures.items ∙ ap (λ (p : CProto). c.loop-trigger.protos.items ++ p ∷ []) (w.in_ok-proto.ensures ∙ handler_is s c.requires.sound i x there) in
          listed_new proto _ _ _ _ _ _ x c.in_ok-copy.field-0 c.in_ok-is_first.is_first c.loop-trigger.invariant within c.trigger-item.is c.in_ok-copy.ensures c.in_ok-is_first.ensures.added w.if-is_first.true c.in_ok-is_first.ensures.keys pushed
      | else-is_first w ↦
          listed_old proto _ _ _ _ _ _ x c.in_ok-copy.field-0 c.in_ok-is_first.is_first c.loop-trigger.invariant within c.trigger-item.is c.in_ok-copy.ensures c.in_ok-is_first.ensures.added w.if-is_first.false c.in_ok-is_first.ensures.keys (ap (λ v. v.items) w.protos-is)
    ]
