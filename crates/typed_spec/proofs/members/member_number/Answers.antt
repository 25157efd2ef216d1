use Rattle.std.proofs.Common.{◌≤◌, length, ap, ◌∙◌, arith}
use Rattle.std.specs.Prelude.{option_copied}
use Rattle.std.specs.List.{position_or_len}
use Rattle.typed_spec.proofs.FoundMembers.{named, number_kept}
use Rattle.typed_spec.proofs.members.member_number.Goals as goal

pub returns-in-Some : goal.returns-in-Some
returns-in-Some c = λ names o h.
    let x = c.args.name.now in
    let y = c.in-Some.found.now in
    let within : c.position.result ≤ length y.members = (let a = c.position.ensures.within in let b = ap length c.as_slice.ensures in omega (arith, a, b)) in
    number_kept names o (option_copied c.args.found) y x c.position.result c.short.result h (ap option_copied c.in-Some.is) (c.position.ensures.value ∙ ap (position_or_len (named x)) c.as_slice.ensures) within c.short.ensures
