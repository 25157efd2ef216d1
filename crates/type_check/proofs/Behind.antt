-- The declarations before each one of a text, in which structs have different names.
use Rattle.std.proofs.Common.{◌≡◌, ℕ, true, List, ◌∷◌, length, refl, ap, ◌∙◌, arith}
use Rattle.std.specs.Prelude.{is_some, slice_get, Option, Some, None}
use Rattle.std.proofs.lemmas.Option.{slice_get_within}
use Rattle.spec_text.specs.declared.surface.NameAt.{NameAt}
use Rattle.spec_text.specs.declared.surface.FieldForm.{FieldForm}
use Rattle.spec_text.specs.declared.surface.Decl.{Decl}
use Rattle.spec_text.specs.declared.surface.Decl.TheVariants as d
use Rattle.type_check.specs.NamedType.{Declarations, Struct, struct_in}
use Rattle.type_check.specs.Untyped.{reversed}
use Rattle.type_check.specs.Standing.{IsDistinct}
use Rattle.type_check.specs.Table.{struct_names}
use Rattle.type_check.proofs.Tables.{later_names, names_reversed, in_front, found_name, not_yet, next_name, IsAlike, grown}
use Rattle.type_check.proofs.SoundTypes.{IsBehind}

-- the name of a struct among those of the text
place_on : (names : List (List ℕ)) (ds : Declarations) (xs : List Decl) → names ≡ struct_names (reversed ds xs) → (j : ℕ) (x : List ℕ) → slice_get (struct_names ds) j ≡ Some x → slice_get names j ≡ Some x
place_on names ds xs n j x h = ap (λ ns. slice_get ns j) (n ∙ names_reversed ds xs) ∙ in_front (struct_names ds) (later_names xs) j x h

alike_if : (names : List (List ℕ)) → IsDistinct names → (ds : Declarations) (xs : List Decl) → names ≡ struct_names (reversed ds xs) → (x : List ℕ) (o : Option Struct) → struct_in ds x ≡ o → is_some o ≡ true → IsAlike ds (reversed ds xs) x
alike_if names k ds xs n x None e h = absurd (cc)
alike_if names k ds xs n x (Some s) e h =
    let r = found_name ds x s e in
    grown names k ds xs n r.0 x (place_on names ds xs n r.0 x r.1) (slice_get_within (struct_names ds) r.0 x r.1)

pub behind : (names : List (List ℕ)) → IsDistinct names → (ds : Declarations) (xs : List Decl) → names ≡ struct_names (reversed ds xs) → IsBehind ds (reversed ds xs)
behind names k ds xs n = record { alike = λ x h. alike_if names k ds xs n x (struct_in ds x) refl h }

-- a struct was not declared before
pub new_name : (names : List (List ℕ)) → IsDistinct names → (before : Declarations) (at : ℕ) (x : NameAt) (fields : List FieldForm) (rest : List Decl) → names ≡ struct_names (reversed before (d.Struct at x fields ∷ rest)) → struct_in before x.name ≡ None
new_name names k before at x fields rest n = not_yet before x.name (struct_in before x.name) refl (λ j p.
    let q = place_on names before (d.Struct at x fields ∷ rest) n j x.name p in
    let l = slice_get_within (struct_names before) j x.name p in
    let here : slice_get names (length (struct_names before)) ≡ Some x.name = ap (λ ns. slice_get ns (length (struct_names before))) n ∙ next_name before at x fields rest in
    let f = k.once j (length (struct_names before)) x.name q here in
    absurd (omega arith))
