-- The places of a list's array types.
use Rattle.std.specs.Prelude.{◌≡◌, ◌↔◌, ℕ, List, slice_get, Some}
use Rattle.std.specs.Map.{lookup}
use Rattle.stream_types.specs.declared.array_key.ArrayKey.{ArrayKey}
use Rattle.stream_types.specs.declared.types.TypeEntry.{TypeEntry}
use Rattle.stream_types.specs.declared.types.TypeEntry.TheVariants as entry
use Rattle.stream_types.specs.contracts.array_key.ArrayKeyPartialEq.TheImpl.{ghosts as key_eq}

-- an element and a length have a place exactly where the array type of both stands
pub record ArePlaces (places : List (ArrayKey × ℕ)) (types : List TypeEntry) : Type 0 where
  pub places_are : (key : ArrayKey) (i : ℕ) → (lookup (key_eq.eq key) places ≡ Some i) ↔ (slice_get types i ≡ Some (entry.Array key.elem key.n))
