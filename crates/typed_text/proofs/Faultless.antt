-- The law of this crate: a specification that is read from a text without a fault is well typed.
use Rattle.std.specs.Prelude.{◌≡◌, ◌<◌, ◌≤◌, ℕ, length, None}
use Rattle.stream_types.specs.declared.scalar.Ty.{Ty}
use Rattle.stream_types.specs.TypeList.{IsTypeList}
use Rattle.stream_core.specs.Value.{SpecValue}
use Rattle.stream_core.specs.Ordered.{Ordered}
use Rattle.stream_core.specs.Term.{tree, trees}
use Rattle.stream_core.specs.Signature.{signature_of}
use Rattle.stream_core.specs.WellTyped.{HasType, WellTyped}
use Rattle.spec_text.specs.declared.surface.Surface.{Surface}
use Rattle.spec_text.specs.KeepsTable.{KeepsTable}
use Rattle.spec_text.specs.Form.{form_of}
use Rattle.spec_text.specs.Extent.{item_count, nesting}
use Rattle.type_check.specs.TypeOrder.{types_of_text}
use Rattle.type_check.specs.Checked.{type_fault}
use Rattle.typed_text.specs.ReadSpec.{spec_of}

-- a text that keeps the table and its bounds and has no fault, and whose types are a type list
pub record IsFaultless (s : Surface) : Type 0 where
  pub keeps : KeepsTable s
  pub items : item_count (form_of s) ≤ 1048576
  pub nested : nesting (form_of s) ≤ 64
  pub faultless : type_fault s ≡ None
  pub list : IsTypeList (types_of_text s)

-- an arena that holds the specification of a text, each node of which has a type
pub record IsBuilt (s : Surface) (x : SpecValue) : Type 0 where
  pub trees_are : trees x ≡ spec_of s
  pub ordered : Ordered x.nodes x.libs
  pub nodes : (i : ℕ) → i < length x.nodes → (t : Ty) × HasType (signature_of (trees x)) (tree x.nodes x.libs i) t

abbrev pub TypedSpecIsWellTyped : Surface → SpecValue → Type 0
TypedSpecIsWellTyped s x = IsFaultless s → IsBuilt s x → WellTyped x
