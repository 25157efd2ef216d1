-- Rows of programs that read nothing, or one number.
use Rattle.std.proofs.Common.{◌≡◌, ℕ, Bool, true, if◌then◌else◌, List, [], ◌∷◌, Option, Some, None, ap, ◌∙◌}
use Rattle.std.specs.Option.{option_map, option_and_then}
use Rattle.c99_tree.specs.declared.types.CScalar.{CScalar}
use Rattle.c99_tree.specs.declared.types.CTy.{CTy}
use Rattle.c99_tree.specs.declared.types.CTy.TheVariants as ty
use Rattle.c99_tree.specs.declared.types.CVar.{CVar}
use Rattle.c99_tree.specs.declared.types.CDef.{CDef}
use Rattle.c99_tree.specs.declared.unit.Unit.{Unit as CUnit}
use Rattle.c99_tree.specs.Values.{Value, number, scalar, is_word, number_of_word, filled, shape_within, row_values}
use Rattle.c99_tree.specs.Typed.{IsRow}

abbrev left : Option (List Value × List ℕ) → Option (List ℕ)
left o = option_map (λ (a : List Value × List ℕ). a.1) o

abbrev one_value : Option (Value × List ℕ) → Option (List ℕ)
one_value o = left (option_and_then (λ (a : Value × List ℕ). option_map (λ (b : List Value × List ℕ). (a.0 ∷ b.0, b.1)) (Some ([], a.1))) o)

filled_word : (t : CScalar) (w : ℕ) → is_word t w ≡ true → filled (scalar t) (w ∷ []) ≡ Some (number (number_of_word t w), [])
filled_word t w h = ap (λ (b : Bool). if b then Some (number (number_of_word t w), []) else None) h

typed_var : (x : CVar) (t : CScalar) (w : ℕ) → x.ty ≡ ty.Scalar t → left (row_values [] (x ∷ []) (w ∷ [])) ≡ one_value (filled (scalar t) (w ∷ []))
unfolding shape_within
typed_var x t w e = ap (λ (y : CTy). left (row_values [] (record { name = x.name; ty = y } ∷ []) (w ∷ []))) e

pub one_row : (u : CUnit) (x : CVar) (t : CScalar) (w : ℕ) → u.types ≡ [] → u.externs ≡ x ∷ [] → x.ty ≡ ty.Scalar t → is_word t w ≡ true
    → IsRow u (w ∷ [])
one_row u x t w a b e h =
    ap (λ (ds : List CDef). left (row_values ds u.externs (w ∷ []))) a ∙ ap (λ (xs : List CVar). left (row_values [] xs (w ∷ []))) b
    ∙ typed_var x t w e ∙ ap one_value (filled_word t w h)

pub no_row : (u : CUnit) → u.externs ≡ [] → IsRow u []
no_row u e = ap (λ (xs : List CVar). left (row_values u.types xs [])) e
