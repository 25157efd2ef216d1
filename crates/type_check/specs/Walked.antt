-- What a walk over a text's declarations tells and keeps.
use Rattle.std.specs.Prelude.{◌≡◌, ℕ, List, [], ◌++◌, length, map, Some, None, Result, Ok, Err}
use Rattle.spec_text.specs.declared.surface.Decl.{Decl}
use Rattle.type_check.specs.declared.fault.TypeFault.{TypeFault}
use Rattle.type_check.specs.declared.fault.TypeFault.TheVariants.{Memory}
use Rattle.type_check.specs.declared.order.Order.{Order}
use Rattle.type_check.specs.declared.scope.Scope.{Scope}
use Rattle.type_check.specs.NamedType.{Declarations}
use Rattle.type_check.specs.Judged.{Judged}
use Rattle.type_check.specs.Untyped.{reversed, first_untyped}
use Rattle.type_check.specs.TypeOrder.{Event, met, closings, events_from}
use Rattle.type_check.specs.Standing.{IsDistinct, IsOrder}
use Rattle.type_check.specs.Table.{struct_names, IsTable, HasItems}

-- the names of a text, where the structs of the declarations before the rest of it have ended
pub record IsBetween (names : List (List ℕ)) (before : Declarations) (rest : List Decl) (scope : Scope) : Type 0 where
  pub distinct : IsDistinct names
  pub names_are : names ≡ struct_names (reversed before rest)
  pub table : IsTable names (reversed before rest) scope.structs
  pub items : HasItems names (reversed before rest) scope.items.entries
  pub ended : scope.closed ≡ length (struct_names before)

-- a declaration without a fault in it, behind which so many structs have ended
pub record IsPassed (names : List (List ℕ)) (closed next : ℕ) (old new : Order) (j : Judged) (x : Decl) : Type 0 where
  pub faultless : j.fault ≡ None
  pub goes : (es : List Event) → IsOrder names closed es old → IsOrder names next (es ++ (map met j.types ++ closings x)) new

abbrev pub GivesPassed : {X : Type 0} → List (List ℕ) → ℕ → ℕ → Order → Order → Judged → Decl → Result X TypeFault → Type 0
GivesPassed names closed next old new j x (Ok y) = IsPassed names closed next old new j x
GivesPassed names closed next old new j x (Err Memory) = Unit {0}
GivesPassed names closed next old new j x (Err e) = j.fault ≡ Some e

-- a whole text: the order of its types, or its first fault
pub record IsOrdered (names : List (List ℕ)) (xs : List Decl) (o : Order) : Type 0 where
  pub faultless : first_untyped (reversed [] xs) [] xs ≡ None
  pub order_is : IsOrder names (length names) (events_from (reversed [] xs) [] xs) o

abbrev pub GivesOrder : List (List ℕ) → List Decl → Result Order TypeFault → Type 0
GivesOrder names xs (Ok o) = IsOrdered names xs o
GivesOrder names xs (Err Memory) = Unit {0}
GivesOrder names xs (Err e) = first_untyped (reversed [] xs) [] xs ≡ Some e
