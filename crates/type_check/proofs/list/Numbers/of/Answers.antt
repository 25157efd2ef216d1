use Rattle.std.proofs.Common.{ℕ, sym, ap, ◌∙◌}
use Rattle.std.specs.Prelude.{Option, option_copied}
use Rattle.std.specs.Option.{option_map_or}
use Rattle.type_check.proofs.list.Numbers.of.Goals as goal

pub returns-in-Some : goal.returns-in-Some
returns-in-Some c = λ placed h. ap (λ (o : Option ℕ). option_map_or (λ n. n) o c.args.self.now.count) (ap option_copied (sym c.in-Some.is) ∙ c.get.ensures.value) ∙ h.numbers_are c.args.ty

pub returns-in-None : goal.returns-in-None
returns-in-None c = λ placed h. ap (λ (o : Option ℕ). option_map_or (λ n. n) o c.args.self.now.count) (ap option_copied (sym c.in-None.is) ∙ c.get.ensures.value) ∙ h.numbers_are c.args.ty
