use Rattle.std.proofs.Common.{◌≡◌, List, sym, ap, ◌∙◌, subst}
use Rattle.std.specs.Prelude.{Some}
use Rattle.std.specs.Global.{Vec}
use Rattle.std.specs.Option.{option_map}
use Rattle.type_check.specs.declared.known.Known.{Known}
use Rattle.type_check.specs.NamedType.{struct_in}
use Rattle.type_check.specs.Judged.{types_of, on_record}
use Rattle.type_check.specs.Standing.{AllMean, all_known}
use Rattle.typed_spec.proofs.FoundTypes.{all_typed, none_typed}
use Rattle.typed_spec.proofs.types.record_type.Goals as goal

pub returns-in-None : goal.returns-in-None
returns-in-None c = λ names s ps h m.
    none_typed names ps (on_record (struct_in s.before c.args.name.now.name) c.args.at c.args.name.now (types_of ps)) c.args.items.now m (sym c.in_ok-items.ensures ∙ ap (option_map (λ (v : Vec Known). v.items)) c.in-None.is)

pub returns-in-Some : goal.returns-in-Some
returns-in-Some c = λ names s ps h m.
    let js = c.in-Some.items.items in
    let z : all_known c.args.items.now ≡ Some js = sym c.in_ok-items.ensures ∙ ap (option_map (λ (v : Vec Known). v.items)) c.in-Some.is in
    let w = all_typed names ps c.args.items.now js m z in
    let mean : AllMean names c.as_slice.result.now (types_of ps) = subst (λ (ls : List Known). AllMean names ls (types_of ps)) (sym c.as_slice.ensures.value) w.mean in
    c.told.ensures names ps (on_record (struct_in s.before c.args.name.now.name) c.args.at c.args.name.now (types_of ps)) w.typed (c.record_of.ensures names s.before (types_of ps) h.distinct h.behind mean)
