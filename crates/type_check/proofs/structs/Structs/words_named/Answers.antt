use Rattle.std.proofs.Common.{ℕ, sym, ap, ◌∙◌, subst}
use Rattle.std.specs.Prelude.{Option, Some, None, option_copied}
use Rattle.std.specs.Option.{option_map_or}
use Rattle.type_check.specs.declared.structs.Struct.{Struct as CodeStruct}
use Rattle.type_check.specs.Standing.{IsNumbered, capped}
use Rattle.type_check.proofs.Widths.{no_words}
use Rattle.type_check.proofs.structs.Structs.words_named.Goals as goal

pub returns-in-Some : goal.returns-in-Some
returns-in-Some c = λ names ds h.
    let all = c.args.self.now.all.items in
    let x = c.args.name.now in
    let n : IsNumbered names ds all x (Some c.in-Some.number.now) = subst (λ (o : Option ℕ). IsNumbered names ds all x o) (sym (ap option_copied (sym c.in-Some.is) ∙ c.get.ensures.value)) (h.numbers_are x) in
    c.words_of.ensures ∙ ap (λ (o : Option CodeStruct). option_map_or (λ (s : CodeStruct). s.words) o 0) n.kept_is ∙ n.words

pub returns-in-None : goal.returns-in-None
returns-in-None c = λ names ds h.
    let all = c.args.self.now.all.items in
    let x = c.args.name.now in
    let n : IsNumbered names ds all x None = subst (λ (o : Option ℕ). IsNumbered names ds all x o) (sym (ap option_copied (sym c.in-None.is) ∙ c.get.ensures.value)) (h.numbers_are x) in
    sym (ap capped (no_words ds x n))
