use Rattle.std.proofs.Common.{◌≡◌, ◌+◌, List, [], ◌∷◌, ◌++◌, take, sym, ap, ◌∙◌, subst, arith}
use Rattle.std.proofs.lemmas.List.{take_more, take_all}
use Rattle.std.proofs.lemmas.Bool.Decides.{nat_tests}
use Rattle.spec_text.specs.declared.surface.FieldForm.{FieldForm}
use Rattle.type_check.specs.declared.structs.Member.{Member}
use Rattle.type_check.specs.Standing.{AreMembers, no_members}
use Rattle.type_check.proofs.Members.{members_more}
use Rattle.type_check.proofs.structs.Structs.members.Goals as goal

pub loop-field-init : goal.loop-field-init
loop-field-init c = λ names ds h. subst (λ (ms : List Member). AreMembers names ds [] ms) (sym c.new-members.ensures.items) no_members

pub loop-field-preserved : goal.loop-field-preserved
loop-field-preserved c = λ names ds h.
    let fields = c.args.fields.now in
    let i = c.loop-field.field-index in
    let x = c.field-item.result in
    let e : take (i + 1) fields ≡ take i fields ++ x ∷ [] = take_more fields i _ c.loop-field-test.true ∙ ap (λ y. take i fields ++ y ∷ []) (sym c.field-item.is) in
    subst (λ (fs : List FieldForm). AreMembers names ds fs c.push.new.self.items) (sym e)
    (subst (λ (ms : List Member). AreMembers names ds (take i fields ++ x ∷ []) ms) (sym c.in_ok-push.ensures.items)
    (members_more names ds (take i fields) c.loop-field.members.items x _ (c.loop-field.invariant names ds h) c.in_ok-name.ensures (c.latest-ty.ensures names ds h)))

pub returns-clause-ok : goal.returns-clause-ok
returns-clause-ok c = λ names ds h.
    let fields = c.args.fields.now in
    let i = c.loop-field.field-index in
    subst (λ (fs : List FieldForm). AreMembers names ds fs c.loop-field.members.items) (take_all i fields (grind (arith, nat_tests, c.loop-field-test.false))) (c.loop-field.invariant names ds h)
