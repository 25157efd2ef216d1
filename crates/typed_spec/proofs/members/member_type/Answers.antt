use Rattle.std.proofs.Common.{sym, ap, ◌∙◌, subst}
use Rattle.std.specs.Prelude.{Option, option_copied}
use Rattle.type_check.specs.declared.known.Known.{Known}
use Rattle.type_check.specs.Judged.{over_part}
use Rattle.type_check.specs.Standing.{MeansOption}
use Rattle.typed_spec.proofs.FoundMembers.{part_none, part_unknown, part_typed, at_place, member_at}
use Rattle.typed_spec.proofs.members.member_type.Goals as goal

pub returns-in_err-found : goal.returns-in_err-found
returns-in_err-found c = λ names s j at x n e h.
    subst (λ (o : Option Known). MeansOption names o (over_part s.all at j x).ty) (sym c.from_residual.ensures) (part_none names s at j x (option_copied c.args.found) h (ap option_copied c.in_err-found.was))

pub returns-in_err-get : goal.returns-in_err-get
returns-in_err-get c = λ names s j at x n e h.
    let y = c.in_ok-found.field-0.now in
    let there = at_place y.members c.as_slice-members.result.now x.name c.args.name.now c.position.result (option_copied c.get.result) c.position.ensures.value c.as_slice-members.ensures e
    (member_at c.as_slice-members.result.now c.position.result c.get.result c.get.ensures.lookup.0 c.get.ensures.lookup.1) in
    subst (λ (o : Option Known). MeansOption names o (over_part s.all at j x).ty) (sym c.from_residual-in_err-get.ensures)
    (part_unknown names s at j x (option_copied c.args.found) y n h (ap option_copied c.in_ok-found.was) (there ∙ ap option_copied c.in_err-get.was))

pub returns : goal.returns
returns c = λ names s j at x n e h.
    let y = c.in_ok-found.field-0.now in
    let there = at_place y.members c.as_slice-members.result.now x.name c.args.name.now c.position.result (option_copied c.get.result) c.position.ensures.value c.as_slice-members.ensures e
    (member_at c.as_slice-members.result.now c.position.result c.get.result c.get.ensures.lookup.0 c.get.ensures.lookup.1) in
    part_typed names s at j x (option_copied c.args.found) y c.in_ok-get.field-0.now n h (ap option_copied c.in_ok-found.was) (there ∙ ap option_copied c.in_ok-get.was)
