use Rattle.std.proofs.Common.{◌+◌, take, true, List, [], map, sym, ap, ◌∙◌, subst}
use Rattle.std.specs.Prelude.{◌&&◌, is_some, Option, Some}
use Rattle.std.specs.List.{list_all}
use Rattle.std.proofs.lemmas.Result.{err_from_is_err_and}
use Rattle.spec_text.specs.declared.surface.FieldForm.{FieldForm}
use Rattle.type_check.specs.declared.known.Known.{Known}
use Rattle.type_check.specs.Judged.{Judged, judge_form}
use Rattle.type_check.specs.Standing.{AreParts}
use Rattle.type_check.proofs.Nodes.{parts_none, taken_parts, failed_part, type_on}
use Rattle.type_check.proofs.Declared.{all_last}
use Rattle.type_check.proofs.declarations.fields.Goals as goal

pub loop-field-init : goal.loop-field-init
loop-field-init c =
    let n = c.args.scope.now.closed in
    let o = c.args.order.now in
    (λ names before d f. subst (λ (ks : List (Option Known)). AreParts names n o o [] ks) (sym c.new-parts.ensures.items) (parts_none names n o), ap (list_all is_some) c.new-parts.ensures.items)

pub returns-in_err-ty-clause-gives : goal.returns-in_err-ty-clause-gives
returns-in_err-ty-clause-gives c = λ names before d f.
    let p = err_from_is_err_and c.from_residual.result c.from_residual.ensures.1 in
    let n = c.args.scope.now.closed in
    let o = c.args.order.now in
    let judge : FieldForm → Judged = λ (x : FieldForm). judge_form before x.ty in
    let j = judge c.field-item.result in
    let e = c.in_err-ty.field-0.0 in
    rw p.1 (rw p.2 (failed_part judge names n o c.loop-field.order c.written.new.order c.args.fields.now c.loop-field.field-index c.field-item.result _ c.loop-field.parts.items e c.loop-field-test.true c.field-item.is (c.loop-field.invariant.0 names before d f)
    (type_on names n c.loop-field.order c.written.new.order c.loop-field.order c.written.new.order j j e (λ x h. h) (c.in_err-ty.ensures names before d f))))

pub loop-field-preserved : goal.loop-field-preserved
loop-field-preserved c =
    let n = c.args.scope.now.closed in
    let o = c.args.order.now in
    let fields = c.args.fields.now in
    let i = c.loop-field.field-index in (
      λ names before d f.
          let judge : FieldForm → Judged = λ (x : FieldForm). judge_form before x.ty in
          subst (λ (ks : List (Option Known)). AreParts names n o c.written.new.order (map judge (take (i + 1) fields)) ks) (sym c.in_ok-push.ensures.items)
          (taken_parts judge names n o c.loop-field.order c.written.new.order fields i c.field-item.result _ c.loop-field.parts.items (Some c.in_ok-ty.ty) c.loop-field-test.true c.field-item.is (c.loop-field.invariant.0 names before d f) (c.in_ok-ty.ensures names before d f)),
      ap (list_all is_some) c.in_ok-push.ensures.items ∙ all_last c.loop-field.parts.items (Some c.in_ok-ty.ty) ∙ ap (λ b. b && true) c.loop-field.invariant.1,
    )
