-- Whole texts.
use Rattle.std.proofs.Common.{◌≡◌, ℕ, List, [], refl, sym, ap, ◌∙◌, subst}
use Rattle.std.specs.Prelude.{Some, None, Result, Ok, Err, IfOk, IfErr}
use Rattle.std.specs.Option.{option_map}
use Rattle.stream_types.specs.declared.types.TypeEntry.{TypeEntry}
use Rattle.spec_text.specs.declared.surface.Surface.{Surface}
use Rattle.type_check.specs.declared.fault.TypeFault.{TypeFault}
use Rattle.type_check.specs.declared.fault.TypeFault.TheVariants.{Redeclared, Unknown, TypeClash, NestedArray, TypeTooWide, DropOfNoBuffer, DropTooFar, Memory}
use Rattle.type_check.specs.declared.checked.Ordered.{Ordered}
use Rattle.type_check.specs.declared.scope.Scope.{Scope as CodeScope}
use Rattle.type_check.specs.Judged.{or_else}
use Rattle.type_check.specs.Names.{name_fault}
use Rattle.type_check.specs.Untyped.{all_of, untyped, first_untyped}
use Rattle.type_check.specs.TypeOrder.{type_order, types_of_text}
use Rattle.type_check.specs.Table.{struct_names, IsTable, HasItems}
use Rattle.type_check.specs.Walked.{IsBetween, IsOrdered, GivesOrder}
use Rattle.type_check.specs.Checked.{type_fault, IsText, GivesOrdered, Checks}
use Rattle.type_check.specs.NextEntries.{IsListable}
use Rattle.type_check.specs.Listed.{AreStructs, IsOrderOf, IsSomeOrder}
use Rattle.type_check.proofs.Distinct.{distinct_structs}
use Rattle.type_check.proofs.Walking.{structs_at}

pub redeclared_told : (s : Surface) (at : ℕ) → Some at ≡ name_fault s → type_fault s ≡ Some (Redeclared at)
redeclared_told s at e = ap (λ o. or_else (option_map (λ n. Redeclared n) o) (untyped s)) (sym e)

well_named : (s : Surface) → None ≡ name_fault s → type_fault s ≡ first_untyped (all_of s) [] s.decls
unfolding untyped
well_named s e = ap (λ o. or_else (option_map (λ n. Redeclared n) o) (untyped s)) (sym e)

-- before the first declaration
pub text_start : (s : Surface) (scope : CodeScope) → None ≡ name_fault s → IsTable (struct_names (all_of s)) (all_of s) scope.structs → HasItems (struct_names (all_of s)) (all_of s) scope.items.entries → scope.closed ≡ 0
    → IsBetween (struct_names (all_of s)) [] s.decls scope
text_start s scope e t i c = record { distinct = distinct_structs s (sym e); names_are = refl; table = t; items = i; ended = c }

pub text_is : (s : Surface) (text : Ordered) → None ≡ name_fault s → IsBetween (struct_names (all_of s)) (all_of s) [] text.scope → IsOrdered (struct_names (all_of s)) s.decls text.order → IsText s text
unfolding type_order
text_is s text e b o = record { faultless = well_named s e ∙ o.faultless; names_are = b; types_are = o.order_is.placed }

pub text_stops : (s : Surface) (names : List (List ℕ)) (e : TypeFault) → None ≡ name_fault s → GivesOrder names s.decls (Err e) → GivesOrdered s (Err e)
text_stops s names (Redeclared at) n h = well_named s n ∙ h
text_stops s names (Unknown at) n h = well_named s n ∙ h
text_stops s names (TypeClash at) n h = well_named s n ∙ h
text_stops s names (NestedArray at) n h = well_named s n ∙ h
text_stops s names (TypeTooWide at) n h = well_named s n ∙ h
text_stops s names (DropOfNoBuffer at) n h = well_named s n ∙ h
text_stops s names (DropTooFar at) n h = well_named s n ∙ h
text_stops s names Memory n h = tt

-- the structs of a text without a fault
pub text_structs : (s : Surface) (text : Ordered) → IsText s text → AreStructs (struct_names (all_of s)) (all_of s) text.scope.structs.all.items
text_structs s text t = record { structs_are = λ i x h. structs_at (struct_names (all_of s)) t.names_are.distinct (all_of s) refl text.scope.structs t.names_are.table i x h }

-- the order that the list is made of
pub text_order : (s : Surface) (text : Ordered) → IsText s text → IsListable (all_of s) (type_order s) → IsOrderOf s text.scope.structs.all.items text.order.placed
text_order s text t l = record { distinct = t.names_are.distinct; structs_are = text_structs s text t; types_are = t.types_are; listable = l }

pub some_order : (s : Surface) (text : Ordered) → IsText s text → IsListable (all_of s) (type_order s) → IsSomeOrder text.scope.structs.all.items text.order.placed
some_order s text t l = record { text = s; order = text_order s text t l }

-- a text that has a fault, or for which memory wants
pub text_refused : (s : Surface) (e : TypeFault) → GivesOrdered s (Err e) → Checks s (Err e)
text_refused s (Redeclared at) h = h
text_refused s (Unknown at) h = h
text_refused s (TypeClash at) h = h
text_refused s (NestedArray at) h = h
text_refused s (TypeTooWide at) h = h
text_refused s (DropOfNoBuffer at) h = h
text_refused s (DropTooFar at) h = h
text_refused s Memory h = tt

pub memory_told : (s : Surface) (e : TypeFault) → e ≡ Memory → Checks s (Err e)
memory_told s e h = subst (λ (x : TypeFault). Checks s (Err x)) (sym h) tt

-- the list of a text without a fault, or want of memory
pub listed_told : (s : Surface) (text : Ordered) (r : Result (List TypeEntry) TypeFault) → IsText s text → IfOk r (λ types. types ≡ types_of_text s) → IfErr r (λ e. e ≡ Memory) → Checks s r
listed_told s text (Ok types) t ok err = (t.faultless, ok)
listed_told s text (Err e) t ok err = memory_told s e err
