use Rattle.std.proofs.Common.{◌≡◌, List, sym, ap, ◌∙◌, subst}
use Rattle.std.specs.Prelude.{Some}
use Rattle.std.specs.Global.{Vec}
use Rattle.std.specs.Option.{option_map}
use Rattle.type_check.specs.declared.known.Known.{Known}
use Rattle.type_check.specs.Judged.{types_of, on_votes}
use Rattle.type_check.specs.Standing.{AllMean, all_known}
use Rattle.typed_spec.proofs.FoundTypes.{all_typed, none_typed}
use Rattle.typed_spec.proofs.types.majority_of.Goals as goal

pub returns-in-None : goal.returns-in-None
returns-in-None c = λ names ps d m.
    none_typed names ps (on_votes c.args.at (λ t. t) (types_of ps)) c.args.votes.now m (sym c.in_ok-votes.ensures ∙ ap (option_map (λ (v : Vec Known). v.items)) c.in-None.is)

pub returns-in-Some : goal.returns-in-Some
returns-in-Some c = λ names ps d m.
    let js = c.in-Some.votes.items in
    let z : all_known c.args.votes.now ≡ Some js = sym c.in_ok-votes.ensures ∙ ap (option_map (λ (v : Vec Known). v.items)) c.in-Some.is in
    let w = all_typed names ps c.args.votes.now js m z in
    let mean : AllMean names c.as_slice.result.now (types_of ps) = subst (λ (ls : List Known). AllMean names ls (types_of ps)) (sym c.as_slice.ensures.value) w.mean in
    c.told.ensures names ps (on_votes c.args.at (λ t. t) (types_of ps)) w.typed (c.on_votes.ensures names (types_of ps) d mean)
