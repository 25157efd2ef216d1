use Rattle.std.proofs.Common.{List, sym, ap, ◌∙◌, subst}
use Rattle.std.specs.Prelude.{◌&&◌}
use Rattle.type_check.specs.declared.known.Known.{Known}
use Rattle.type_check.specs.contracts.known.KnownPartialEq.TheImpl.{ghosts as known_eq}
use Rattle.type_check.specs.declared.structs.Member.{Member}
use Rattle.type_check.specs.Judged.{are_fields}
use Rattle.type_check.specs.Standing.{AreMembers, AllMean}
use Rattle.type_check.proofs.Members.{items_of_members}
use Rattle.type_check.proofs.structs.+are_members.Goals as goal

pub returns-then-not-is_same : goal.returns-then-not-is_same
returns-then-not-is_same t c = λ names before fields ts d h g.
    let p = c.in-Some-Some in
    let r = items_of_members names d before p.member.now p.members.now p.item.now p.items.now fields ts
    (subst (λ (ms : List Member). AreMembers names before fields ms) p.ensures.cases.0 h) (subst (λ (ks : List Known). AllMean names ks ts) p.ensures'.cases.0 g) in
    sym (r.is ∙ ap (λ b. b && are_fields before r.fields_left r.types_left) (ap (λ k. known_eq.eq k p.item.now) (sym c.unwrap_or.ensures) ∙ sym c.is_same.ensures ∙ c.if-not-is_same.true))

pub returns-else-not-is_same : goal.returns-else-not-is_same
returns-else-not-is_same t c = λ names before fields ts d h g.
    let p = c.in-Some-Some in
    let r = items_of_members names d before p.member.now p.members.now p.item.now p.items.now fields ts
    (subst (λ (ms : List Member). AreMembers names before fields ms) p.ensures.cases.0 h) (subst (λ (ks : List Known). AllMean names ks ts) p.ensures'.cases.0 g) in
    c.are_members.ensures names before r.fields_left r.types_left d r.members r.mean
    ∙ sym (r.is ∙ ap (λ b. b && are_fields before r.fields_left r.types_left) (ap (λ k. known_eq.eq k p.item.now) (sym c.unwrap_or.ensures) ∙ sym c.is_same.ensures ∙ c.if-not-is_same.false))
