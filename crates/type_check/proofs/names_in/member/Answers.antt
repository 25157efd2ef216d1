use Rattle.std.proofs.Common.{List, [], ◌∷◌, refl, sym, ap, ◌∙◌, subst}
use Rattle.std.specs.Prelude.{Option, Some, None, option_copied}
use Rattle.type_check.specs.declared.known.Known.{Known}
use Rattle.type_check.specs.declared.known.Known.TheVariants as known
use Rattle.type_check.specs.declared.structs.Member.{Member}
use Rattle.type_check.specs.Judged.{Judged, has, type_of, member_in}
use Rattle.type_check.specs.Standing.{AreMembers, IsMemberIn, IsTyped, Gives, is_type}
use Rattle.type_check.proofs.Nodes.{parts_two, parts_typed, parts_untyped, typed_means}
use Rattle.type_check.proofs.Members.{operand_of, members_at, missing, member_unknown, member_is}
use Rattle.type_check.proofs.names_in.member.Goals as goal

pub returns-in_default-numbered : goal.returns-in_default-numbered
returns-in_default-numbered c = λ names s start j h t.
    let all = c.args.scope.now.structs.all.items in
    let i = c.in-Struct.number in
    let u = subst (λ k. IsTyped names c.args.scope.now.closed start c.args.order.now j (Some k)) (c.in-Element.is ∙ ap known.Element c.in-Struct.is) t in
    let o = operand_of names s all c.args.scope.now.closed start c.args.order.now c.args.at j c.args.x.now i h.structs_are u in
    missing names s all c.args.at j c.args.x.now i o _ (sym (ap option_copied (sym c.in_default-numbered.is) ∙ c.numbered.ensures))

pub returns-in_default-member_in : goal.returns-in_default-member_in
returns-in_default-member_in c = λ names s start j h t.
    let all = c.args.scope.now.structs.all.items in
    let i = c.in-Struct.number in
    let u = subst (λ k. IsTyped names c.args.scope.now.closed start c.args.order.now j (Some k)) (c.in-Element.is ∙ ap known.Element c.in-Struct.is) t in
    let o = operand_of names s all c.args.scope.now.closed start c.args.order.now c.args.at j c.args.x.now i h.structs_are u in
    let m = members_at names s.all all o.name i o.there c.in-Some.found.now (sym c.in-Some.ensures) in
    let g = c.in_default-member_in.ensures names o.there.declared.before o.there.declared.fields (subst (λ (ms : List Member). AreMembers names o.there.declared.before o.there.declared.fields ms) (sym c.as_slice.ensures) m) in
    ap (λ (r : Judged). r.fault) o.is
    ∙ member_unknown names c.args.scope.now.closed start c.args.order.now j _ o.there.declared.before c.args.x.now (member_in o.there.declared.fields c.args.x.now.name) t g

pub returns-in-Some-ty : goal.returns-in-Some-ty
returns-in-Some-ty c = λ names s start j h t.
    let all = c.args.scope.now.structs.all.items in
    let n = c.args.scope.now.closed in
    let i = c.in-Struct.number in
    let u = subst (λ k. IsTyped names n start c.args.order.now j (Some k)) (c.in-Element.is ∙ ap known.Element c.in-Struct.is) t in
    let o = operand_of names s all n start c.args.order.now c.args.at j c.args.x.now i h.structs_are u in
    let m = members_at names s.all all o.name i o.there c.in-Some.found.now (sym c.in-Some.ensures) in
    let g = c.in-Some-member_in.ensures names o.there.declared.before o.there.declared.fields (subst (λ (ms : List Member). AreMembers names o.there.declared.before o.there.declared.fields ms) (sym c.as_slice.ensures) m) in
    let w = member_is names n c.args.order.now j o.there.declared.before c.args.x.now (member_in o.there.declared.fields c.args.x.now.name) (Some c.in-Some-ty.ty) (subst (λ (k : Option Known). IsMemberIn names o.there.declared.before (member_in o.there.declared.fields c.args.x.now.name) (Some k)) c.in-Some-ty.is g) in
    subst (λ (r : Judged). Gives names n start c.node.new.order r c.node.result) (sym (o.is ∙ w.is))
    (c.node.ensures names start (j ∷ w.part ∷ []) (has (type_of w.part)) h.distinct (parts_typed (parts_two t w.typed) refl) (is_type (typed_means w.typed)))

pub returns-in-None : goal.returns-in-None
returns-in-None c = λ names s start j h t.
    let all = c.args.scope.now.structs.all.items in
    let n = c.args.scope.now.closed in
    let i = c.in-Struct.number in
    let u = subst (λ k. IsTyped names n start c.args.order.now j (Some k)) (c.in-Element.is ∙ ap known.Element c.in-Struct.is) t in
    let o = operand_of names s all n start c.args.order.now c.args.at j c.args.x.now i h.structs_are u in
    let m = members_at names s.all all o.name i o.there c.in-Some.found.now (sym c.in-Some.ensures) in
    let g = c.in-Some-member_in.ensures names o.there.declared.before o.there.declared.fields (subst (λ (ms : List Member). AreMembers names o.there.declared.before o.there.declared.fields ms) (sym c.as_slice.ensures) m) in
    let w = member_is names n c.args.order.now j o.there.declared.before c.args.x.now (member_in o.there.declared.fields c.args.x.now.name) None (subst (λ (k : Option Known). IsMemberIn names o.there.declared.before (member_in o.there.declared.fields c.args.x.now.name) (Some k)) c.in-None.is g) in
    subst (λ (r : Judged). IsTyped names n start c.args.order.now r None) (sym (o.is ∙ w.is))
    (parts_untyped (has (type_of w.part)) (parts_two t w.typed) refl)
