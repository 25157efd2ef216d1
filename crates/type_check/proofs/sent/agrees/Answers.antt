use Rattle.std.proofs.Common.{true, List, sym, ap, ◌∙◌}
use Rattle.std.specs.Prelude.{Option, bytes_eq, option_copied}
use Rattle.std.specs.Map.{lookup}
use Rattle.std.specs.Option.{option_map_or}
use Rattle.type_check.specs.declared.known.Known.{Known}
use Rattle.type_check.specs.Untyped.{first_sent}
use Rattle.type_check.specs.Standing.{agree_known}
use Rattle.type_check.proofs.FirstSent.{agrees_is}
use Rattle.type_check.proofs.sent.agrees.Goals as goal

pub returns-in-Some : goal.returns-in-Some
returns-in-Some c = λ names all ds ts d h m.
    let js = c.args.args.now in
    let x = c.args.name.now in
    c.agree.ensures ∙ ap (λ ks. agree_known ks js) c.as_slice.ensures
    ∙ ap (λ (l : Option (List (Option Known))). option_map_or (λ ks. agree_known ks js) l true) (ap option_copied (sym c.in-Some.is) ∙ c.get.ensures.value)
    ∙ agrees_is names d all (first_sent ds x) (lookup (bytes_eq x) c.args.sent.now.entries) js ts (h.sent_are x) m
