use Rattle.std.proofs.Common.{sym, ◌∙◌, subst, arith}
use Rattle.std.proofs.lemmas.Bool.Decides.{nat_tests}
use Rattle.type_check.specs.declared.known.Known.{Known}
use Rattle.type_check.specs.Judged.{judge_form, type_of}
use Rattle.type_check.specs.Standing.{Means}
use Rattle.type_check.proofs.Fielding.{next_member, fields_more, fields_whole}
use Rattle.type_check.proofs.list.fields_of.Goals as goal

pub loop-member-preserved : goal.loop-member-preserved
loop-member-preserved c = λ names placed order before forms d n a ms.
    let i = c.loop-member.member-index in
    let m = c.member-item.result in
    let next = next_member names before forms c.args.members.now i m _ ms c.loop-member-test.true c.member-item.is in
    c.in_ok-push.ensures.items ∙ fields_more names order before forms i m c.loop-member.fields.items c.in_ok-name.name c.ty-ty.result next c.in_ok-name.ensures
    (c.ty-ty.ensures names placed order (type_of (judge_form before next.form.ty)) d n a (subst (λ (k : Known). Means names k (type_of (judge_form before next.form.ty))) (sym c.unwrap_or.ensures) next.means)) (c.loop-member.invariant names placed order before forms d n a ms)

pub returns-clause-ok : goal.returns-clause-ok
returns-clause-ok c = λ names placed order before forms d n a ms.
    fields_whole names order before forms c.args.members.now c.loop-member.member-index c.loop-member.fields.items ms (grind (arith, nat_tests, c.loop-member-test.false)) (c.loop-member.invariant names placed order before forms d n a ms)
