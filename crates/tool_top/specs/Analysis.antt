-- What a text stands for, and its first fault.
use Rattle.std.specs.Prelude.{◌≡◌, ◌≤◌, ℕ, ◌⊎◌, List, Option, Some, None, Result, Ok, Err}
use Rattle.stream_core.specs.Value.{SpecValue}
use Rattle.stream_core.specs.Term.{trees}
use Rattle.stream_core.specs.Meaning.{IsFirstFault}
use Rattle.stream_core.specs.WellTyped.{WellTyped}
use Rattle.stream_core.specs.Soundness.{SoundnessFault, cycle, too_many_decls, too_many_words, root_too_heavy, spec_too_heavy}
use Rattle.spec_forest.specs.Node.{forest_nodes}
use Rattle.spec_forest.specs.Scan.{TextFault, text_too_long, bad_byte, unbalanced, too_deep, scan_fault}
use Rattle.spec_forest.specs.Answers.{text_fault}
use Rattle.spec_forest.specs.Extents as nodes
use Rattle.spec_forest.specs.Tokens.{IsForestOf}
use Rattle.spec_forest.specs.declared.tree.Forest.{Forest}
use Rattle.spec_forest.specs.declared.fault.ScanFault.{ScanFault}
use Rattle.spec_text.specs.Form.{IsSurfaceOf, form_of}
use Rattle.spec_text.specs.Extent.{nesting, list_count, item_count}
use Rattle.spec_text.specs.KeepsTable.{KeepsTable}
use Rattle.spec_text.specs.Shape.{SyntaxFault, bad_form, bad_name, bad_literal, shape_fault}
use Rattle.spec_text.specs.Parses.{syntax_fault}
use Rattle.spec_text.specs.declared.surface.Surface.{Surface}
use Rattle.spec_text.specs.declared.fault.ShapeFault.{ShapeFault}
use Rattle.type_check.specs.Checked.{type_fault}
use Rattle.type_check.specs.declared.fault.TypeFault.{TypeFault}
use Rattle.typed_text.specs.ReadSpec.{spec_of}
use Rattle.typing.specs.Typing.{TypingFault, redeclared, unknown, type_clash, nested_array, type_too_wide, drop_of_no_buffer, drop_too_far, first_typing_fault, typing_fault}
use Rattle.recursion_check.specs.declared.fault.SoundFault.{SoundFault}
use Rattle.recursion_check.specs.declared.fault.SoundFault.TheVariants as unsound
use Rattle.tool_top.specs.declared.outcome.Outcome.{Outcome}
use Rattle.tool_top.specs.declared.outcome.Outcome.TheVariants.{Refused, NoMemory}
use Rattle.tool_top.specs.declared.outcome.Refusal.{Refusal}
use Rattle.tool_top.specs.declared.outcome.RefusalKind.{RefusalKind}
use Rattle.tool_top.specs.declared.outcome.RefusalKind.TheVariants as kind

-- ---- refusals

-- a refusal that tells no place, and one at a place
abbrev pub nowhere : RefusalKind → Refusal
nowhere kind = record { kind = kind; item = 0; at = 0 }

abbrev pub at_place : RefusalKind → ℕ → Refusal
at_place kind at = record { kind = kind; item = 0; at = at }

abbrev pub too_long : Refusal
too_long = nowhere kind.TextTooLong

-- the refusal of a fault of each stage
abbrev pub of_scan : TextFault → Refusal
of_scan text_too_long = too_long
of_scan (bad_byte at) = at_place kind.BadByte at
of_scan (unbalanced at) = at_place kind.Unbalanced at
of_scan (too_deep at) = at_place kind.TooDeep at

abbrev pub of_shape : SyntaxFault → Refusal
of_shape (bad_form at) = at_place kind.BadForm at
of_shape (bad_name at) = at_place kind.BadName at
of_shape (bad_literal at) = at_place kind.BadLiteral at

abbrev pub of_types : TypingFault → Refusal
of_types (redeclared at) = at_place kind.Redeclared at
of_types (unknown at) = at_place kind.Unknown at
of_types (type_clash at) = at_place kind.TypeClash at
of_types (nested_array at) = at_place kind.NestedArray at
of_types (type_too_wide at) = at_place kind.TypeTooWide at
of_types (drop_of_no_buffer at) = at_place kind.DropOfNoBuffer at
of_types (drop_too_far at) = at_place kind.DropTooFar at

abbrev pub of_soundness : SoundnessFault → Refusal
of_soundness (cycle at) = at_place kind.Cycle at
of_soundness too_many_decls = nowhere kind.TooManyDecls
of_soundness too_many_words = nowhere kind.TooManyWords
of_soundness (root_too_heavy at) = at_place kind.RootTooHeavy at
of_soundness spec_too_heavy = nowhere kind.SpecTooHeavy

-- ---- the stages of a text

-- the text without a fault of scanning, as a forest
pub record Scans (text : List ℕ) (forest : Forest) : Type 0 where
  pub fault : scan_fault text ≡ None
  pub is : IsForestOf text (forest_nodes forest)

-- the text without a fault of shape, as a surface
pub record Shapes (text : List ℕ) (surface : Surface) : Type 0 where
  pub forest : Forest
  pub scanned : Scans text forest
  pub fault : shape_fault forest ≡ None
  pub is : IsSurfaceOf forest surface
  pub kept : KeepsTable surface

-- the text without a fault of names and types, as a specification
pub record IsTypedText (text : List ℕ) (s : SpecValue) : Type 0 where
  pub surface : Surface
  pub shaped : Shapes text surface
  pub fault : type_fault surface ≡ None
  pub trees_are : trees s ≡ spec_of surface
  pub typed : WellTyped s

-- The text has no fault, and stands for this specification.
pub record Means (text : List ℕ) (s : SpecValue) : Type 0 where
  pub typed : IsTypedText text s
  pub sound : IsFirstFault s None

-- ---- the first fault

abbrev pub HasScanFault : List ℕ → Refusal → Type 0
HasScanFault text refusal = (e : TextFault) × (scan_fault text ≡ Some e) × (refusal ≡ of_scan e)

abbrev pub HasShapeFault : List ℕ → Refusal → Type 0
HasShapeFault text refusal = (forest : Forest) × Scans text forest × (e : SyntaxFault) × (shape_fault forest ≡ Some e) × (refusal ≡ of_shape e)

abbrev pub HasTypeFault : List ℕ → Refusal → Type 0
HasTypeFault text refusal = (surface : Surface) × Shapes text surface × (e : TypingFault) × (first_typing_fault surface ≡ Some e) × (refusal ≡ of_types e)

abbrev pub HasSoundnessFault : List ℕ → Refusal → Type 0
HasSoundnessFault text refusal = (s : SpecValue) × IsTypedText text s × (e : SoundnessFault) × IsFirstFault s (Some e) × (refusal ≡ of_soundness e)

-- The text's first fault: that of the first stage that has one.
abbrev pub HasFirstFault : List ℕ → Refusal → Type 0
HasFirstFault text refusal = HasScanFault text refusal ⊎ HasShapeFault text refusal ⊎ HasTypeFault text refusal ⊎ HasSoundnessFault text refusal

-- ---- the stages' answers

-- How an answer of a stage stops a run: it tells a fault of the text, or want of memory.
abbrev pub stop_of : {F : Type 0} → (F → Refusal) → Option F → Outcome
stop_of refusal None = NoMemory
stop_of refusal (Some fault) = Refused (refusal fault)

abbrev pub stop_of_scan : ScanFault → Outcome
stop_of_scan e = stop_of of_scan (text_fault e)

abbrev pub stop_of_shape : ShapeFault → Outcome
stop_of_shape e = stop_of of_shape (syntax_fault e)

abbrev pub stop_of_types : TypeFault → Outcome
stop_of_types e = stop_of of_types (typing_fault e)

abbrev pub stop_of_soundness : SoundFault → Outcome
stop_of_soundness (unsound.Cycle at) = Refused (at_place kind.Cycle at)
stop_of_soundness unsound.TooManyDecls = Refused (nowhere kind.TooManyDecls)
stop_of_soundness unsound.TooManyWords = Refused (nowhere kind.TooManyWords)
stop_of_soundness (unsound.RootTooHeavy at) = Refused (at_place kind.RootTooHeavy at)
stop_of_soundness unsound.SpecTooHeavy = Refused (nowhere kind.SpecTooHeavy)
stop_of_soundness unsound.Memory = NoMemory

-- Each stage gives its value, or stops with a fault of its own or of one before it.
abbrev pub Stops : (Refusal → Type 0) → Outcome → Type 0
Stops Fault (Refused refusal) = Fault refusal
Stops Fault NoMemory = Unit {0}
Stops Fault _ = ⊥

-- A forest that a scan gives, and the surface that it holds, are small.
pub record Fits (forest : Forest) : Type 0 where
  pub nested : nodes.nesting (forest_nodes forest) ≤ 64
  pub lists : nodes.list_count (forest_nodes forest) ≤ 524288
  pub items : nodes.item_count (forest_nodes forest) ≤ 1048576

pub record IsSmall (surface : Surface) : Type 0 where
  pub nested : nesting (form_of surface) ≤ 64
  pub lists : list_count (form_of surface) ≤ 524288
  pub items : item_count (form_of surface) ≤ 1048576

abbrev pub ScansTo : List ℕ → Result Forest Outcome → Type 0
ScansTo text (Ok forest) = Scans text forest × Fits forest
ScansTo text (Err stop) = Stops (HasScanFault text) stop

abbrev pub ShapesTo : List ℕ → Result Surface Outcome → Type 0
ShapesTo text (Ok surface) = Shapes text surface × IsSmall surface
ShapesTo text (Err stop) = Stops (λ refusal. HasScanFault text refusal ⊎ HasShapeFault text refusal) stop

abbrev pub TypesTo : List ℕ → Result SpecValue Outcome → Type 0
TypesTo text (Ok s) = IsTypedText text s
TypesTo text (Err stop) = Stops (λ refusal. HasScanFault text refusal ⊎ HasShapeFault text refusal ⊎ HasTypeFault text refusal) stop

-- A specification comes where the text stands for it, and a refusal is the text's first fault. Want of memory is free.
abbrev pub Analyses : List ℕ → Result SpecValue Outcome → Type 0
Analyses text (Ok s) = Means text s
Analyses text (Err stop) = Stops (HasFirstFault text) stop
