-- Expressions within an expression.
use Rattle.std.specs.Prelude.{◌≡◌, ℕ, slice_get, Some}
use Rattle.stream_core.specs.Term.{Term}
use Rattle.stream_core.specs.Children.{children}

-- an expression is the whole, or stands within one of the whole's parts
pub data IsPartOf (e : Term) : Term → Type 0 where
  the_whole : IsPartOf e e
  within : {part whole : Term} (i : ℕ) → slice_get (children whole) i ≡ Some part → IsPartOf e part → IsPartOf e whole
