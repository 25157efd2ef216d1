-- From what the check and the reading of a text tell to what typing answers.
use Rattle.std.proofs.Common.{◌≡◌, ◌≤◌, List, length, refl, sym, ap, ◌∙◌, subst}
use Rattle.std.specs.Prelude.{Some, None, Result, Ok, Err, option_and_then}
use Rattle.stream_types.specs.declared.types.TypeEntry.{TypeEntry}
use Rattle.stream_core.specs.Value.{SpecValue}
use Rattle.stream_core.specs.Ordered.{Ordered}
use Rattle.stream_core.specs.Term.{TreeSpec, trees}
use Rattle.stream_core.specs.WellTyped.{WellTyped}
use Rattle.spec_text.specs.declared.surface.Surface.{Surface}
use Rattle.spec_text.specs.Extent.{item_count, list_count, nesting}
use Rattle.spec_text.specs.Form.{form_of}
use Rattle.spec_text.specs.KeepsTable.{KeepsTable}
use Rattle.type_check.specs.declared.fault.TypeFault.{TypeFault}
use Rattle.type_check.specs.declared.fault.TypeFault.TheVariants as told
use Rattle.type_check.specs.Checked.{type_fault, Checks}
use Rattle.type_check.specs.TypeOrder.{types_of_text}
use Rattle.type_check.proofs.TypeLists.{types_are_a_list}
use Rattle.typed_text.specs.InExpressions.{AreParts}
use Rattle.typed_text.specs.ReadSpec.{spec_of}
use Rattle.typed_text.proofs.Faultless.{IsFaultless}
use Rattle.typed_text.proofs.Whole.{IsGoodSpec, spec_is_good}
use Rattle.typed_text.proofs.GoodNames.{typed_spec_is_well_typed}
use Rattle.typed_text.proofs.NodesTyped.{nodes_typed}
use Rattle.typing.specs.Typing.{typing_fault, IsTyped, Types}
use Rattle.typing.proofs.FewTypes.{few_types}

-- ---- faults

pub refused : (s : Surface) (e : TypeFault) → Checks s (Err e) → Types s (Err e)
refused s (told.Redeclared at) h = ap (option_and_then typing_fault) h
refused s (told.Unknown at) h = ap (option_and_then typing_fault) h
refused s (told.TypeClash at) h = ap (option_and_then typing_fault) h
refused s (told.NestedArray at) h = ap (option_and_then typing_fault) h
refused s (told.TypeTooWide at) h = ap (option_and_then typing_fault) h
refused s (told.DropOfNoBuffer at) h = ap (option_and_then typing_fault) h
refused s (told.DropTooFar at) h = ap (option_and_then typing_fault) h
refused s told.Memory h = tt

pub memory_wants : (s : Surface) (e : TypeFault) → e ≡ told.Memory → Types s (Err e)
memory_wants s e h = subst (λ (x : TypeFault). Types s (Err x)) (sym h) tt

-- ---- the specification of a text without a fault

well_typed : (s : Surface) (x : SpecValue) → KeepsTable s → item_count (form_of s) ≤ 1048576 → nesting (form_of s) ≤ 64 → type_fault s ≡ None
    → trees x ≡ spec_of s
    → Ordered x.nodes x.libs → AreParts x → WellTyped x
well_typed s x keeps items nested faultless is ordered parts =
    let h : IsFaultless s = record { keeps = keeps; items = items; nested = nested; faultless = faultless; list = types_are_a_list s keeps items faultless } in
    let g = subst IsGoodSpec (sym is) (spec_is_good s h) in
    typed_spec_is_well_typed s x h (record { trees_are = is; ordered = ordered; nodes = nodes_typed x g parts })

types_of : (s : Surface) → (spec_of s).types ≡ types_of_text s
unfolding spec_of
types_of s = refl

few_of : (s : Surface) (x : SpecValue) → KeepsTable s → item_count (form_of s) ≤ 1048576 → type_fault s ≡ None → trees x ≡ spec_of s
    → length x.types ≤ list_count (form_of s)
few_of s x keeps items faultless is =
    subst (λ (ts : List TypeEntry). length ts ≤ list_count (form_of s)) (sym (ap (λ (t : TreeSpec). t.types) is ∙ types_of s))
    (few_types s keeps items faultless)

pub typed : (s : Surface) (x : SpecValue) → KeepsTable s → item_count (form_of s) ≤ 1048576 → nesting (form_of s) ≤ 64 → type_fault s ≡ None
    → trees x ≡ spec_of s
    → Ordered x.nodes x.libs → AreParts x → IsTyped s x
typed s x keeps items nested faultless is ordered parts = record {
  fault = faultless;
  trees_are = is;
  typed = well_typed s x keeps items nested faultless is ordered parts;
  few = few_of s x keeps items faultless is;
}
