use Rattle.std.proofs.Common.{◌≡◌, ℕ, ◌≤◌, arith}
use Rattle.typing.proofs.tests.surface.Goals as goal

-- what is as large as what fits is small
within : (a b most : ℕ) → a ≡ b → b ≤ most → a ≤ most
within a b most is h = omega arith

pub returns : goal.returns
returns c =
    let sizes = c.in-Ok-declarations.ensures in (
      sizes.parses.1.1,
      within _ _ _ sizes.nesting c.in-Ok.ensures.nesting,
      within _ _ _ sizes.lists c.in-Ok.ensures.lists,
      within _ _ _ sizes.items c.in-Ok.ensures.items,
    )
