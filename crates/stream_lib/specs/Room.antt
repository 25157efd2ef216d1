-- How few items a specification has, so that 32 bits number them, and room for them behind others.
use Rattle.std.specs.Prelude.{ℕ, List, [], ◌∷◌, ◌+◌, ◌<◌, ◌≤◌, ◌≡◌, length, slice_get, Some}
use Rattle.stream_core.specs.declared.node.Node.TheVariants as node
use Rattle.stream_core.specs.declared.spec.LibItem.{LibItem}
use Rattle.stream_core.specs.Value.{SpecValue}
use Rattle.stream_core.specs.Lower.{buffers}

-- how many buffers these forms have
abbrev pub buffer_count : List LibItem → ℕ
buffer_count [] = 0
buffer_count (x ∷ xs) = buffers x.form + buffer_count xs

-- at most 4,096 items of each kind and 262,144 buffers
pub record IsSmall (s : SpecValue) : Type 0 where
  pub externs : length s.externs ≤ 4096
  pub streams : length s.streams ≤ 4096
  pub defs : length s.defs ≤ 4096
  pub triggers : length s.triggers ≤ 4096
  pub observers : length s.observers ≤ 4096
  pub forms : buffer_count s.libs ≤ 262144

-- room for the items of a specification and for n buffers behind the items of another one
pub record HasRoomFor (source : SpecValue) (n : ℕ) (s : SpecValue) : Type 0 where
  pub externs : length s.externs + length source.externs ≤ 4294967295
  pub streams : length s.streams + length source.streams + n ≤ 4294967295
  pub defs : length s.defs + length source.defs ≤ 4294967295
  pub triggers : length s.triggers + length source.triggers ≤ 4294967295
  pub observers : length s.observers + length source.observers ≤ 4294967295

-- each form that a node names is there
abbrev pub HasForms : SpecValue → Type 0
HasForms s = (i k : ℕ) → slice_get s.nodes i ≡ Some (node.Lib k) → k < length s.libs
