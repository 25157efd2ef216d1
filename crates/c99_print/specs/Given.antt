-- The values that the first words give, by their types. These words serve the private clauses of src/constants.rt alone.
use Rattle.std.specs.Prelude.{◌≡◌, ℕ, List, Option, Some}
use Rattle.std.specs.Option.{option_and_then}
use Rattle.c99_tree.specs.declared.types.CTy.{CTy}
use Rattle.c99_tree.specs.declared.types.CVar.{CVar}
use Rattle.c99_tree.specs.declared.types.CDef.{CDef}
use Rattle.c99_tree.specs.Values.{Value, Values, filled, filled_all, repeated, shape_within, shapes_of_fields}
use Rattle.sm_print.specs.declared.printer.Printer.{Printer}
use Rattle.sm_print.specs.Prints.{Prints}

-- the value of a type, and the words behind it
abbrev pub value_in : ℕ → List CDef → CTy → List ℕ → Option (Value × List ℕ)
value_in depth ds t ws = option_and_then (λ s. filled s ws) (shape_within depth ds t)

-- the values of a struct's members
abbrev pub members_in : ℕ → List CDef → List CVar → List ℕ → Option (Values × List ℕ)
members_in depth ds fields ws = option_and_then (λ s. filled_all s ws) (shapes_of_fields (shape_within depth ds) fields)

-- n values of one type
abbrev pub values_in : ℕ → ℕ → List CDef → CTy → List ℕ → Option (List Value × List ℕ)
values_in n depth ds t ws = option_and_then (λ s. repeated n (filled s) ws) (shape_within depth ds t)

-- Where the words give a value, its text is printed, and the words behind it are left.
abbrev pub PrintsGiven : {K V : Type 0} → (K → Option (List ℕ)) → (K → ℕ)
    → Printer K → Option (V × List ℕ) → (V → List ℕ) → Printer K → List ℕ → Type 0
PrintsGiven {V = V} taken faults old given text new left =
    (a : V × List ℕ) → given ≡ Some a → Prints taken faults old (text a.0) new × (left ≡ a.1)
