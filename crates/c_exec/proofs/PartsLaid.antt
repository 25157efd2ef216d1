-- The words of an array's elements and of a struct's members lie where the code looks for them.
use Rattle.std.proofs.Common.{◌≡◌, ℕ, zero, suc, ◌+◌, List, [], ◌∷◌, ◌++◌, length, map, drop, Option, Some, refl, sym, ap, ◌∙◌, subst, arith}
use Rattle.std.specs.Prelude.{IsSome, replicate}
use Rattle.std.specs.List.{flat_map, AllZip, AllByRecursion}
use Rattle.std.specs.Option.{option_map_or}
use Rattle.std.proofs.lemmas.List.{append-nil}
use Rattle.c99_tree.specs.declared.types.CTy.{CTy}
use Rattle.c99_tree.specs.declared.types.CTy.TheVariants as ty
use Rattle.c99_tree.specs.declared.types.CVar.{CVar}
use Rattle.c99_tree.specs.declared.types.CDef.{CDef}
use Rattle.c99_tree.specs.Words.{is_same, elem_type}
use Rattle.c99_tree.specs.Lookup.{fields_of, var_of, place_of_var}
use Rattle.c99_tree.specs.Values.{Value, Values, number, struct_of, array_of, no_value, and_value, value_list, no_such_value, parts, words_of, words_of_all, Shape, Shapes, shapes_of_fields, shape_within, shape_of}
use Rattle.c99_tree.specs.Typing.{fields_in}
use Rattle.c99_tree.specs.Evaluation.{value_at}
use Rattle.c99_tree.specs.Typed.{IsValueOf, AreValuesOf}
use Rattle.c99_tree.proofs.LookedUp.{found, found_along, found_there}
use Rattle.c99_tree.proofs.Shapes.{shaped-element}
use Rattle.c99_tree.proofs.TypedShapes.{fields_split}
use Rattle.c99_tree.proofs.TypedValues.{members_along}
use Rattle.c_exec.specs.Layout.{width_of, var_width, var_start, var_length}
use Rattle.c_exec.proofs.ShapeWidths.{value_long}
use Rattle.c_exec.proofs.ElementsGo.{IsArrayOf, values_stand}
use Rattle.c_exec.proofs.CodeGoes.{RunAt, run_at}
use Rattle.c_exec.proofs.Deeper.{next_keeps, members_shaped}

-- ---- elements

many_of : (ds : List CDef) (r : CTy) (n : ℕ) (vs : Values) → AreValuesOf ds (replicate n r) vs → length (value_list vs) ≡ n
many_of ds r zero no_value h = refl
many_of ds r zero (and_value v vs) h = absurd h
many_of ds r (suc n) no_value h = absurd h
many_of ds r (suc n) (and_value v vs) h = let l = many_of ds r n vs h.1 in omega (arith, l)

each_long : (ds : List CDef) (r : CTy) (s : Shape) (n : ℕ) (vs : Values) → shape_of ds r ≡ Some s → AreValuesOf ds (replicate n r) vs
    → AllByRecursion (λ (v : Value). length (words_of v) ≡ width_of ds r) (value_list vs)
each_long ds r s zero no_value e h = tt
each_long ds r s zero (and_value v vs) e h = absurd h
each_long ds r s (suc n) no_value e h = absurd h
each_long ds r s (suc n) (and_value v vs) e h = (value_long ds r s v e h.0, each_long ds r s n vs e h.1)

pub elements_laid : (ds : List CDef) (x : List ℕ) (n : ℕ) (v : Value) → IsSome (shape_of ds (ty.Array x n)) → IsValueOf ds (ty.Array x n) v
    → IsArrayOf (width_of ds (elem_type x)) n v
elements_laid ds x n (number w) h p = absurd p
elements_laid ds x n (struct_of vs) h p = absurd p
elements_laid ds x n (array_of vs) h p =
    let s = found (shape_of ds (elem_type x)) (shaped-element (length ds + 1) ds x n h) in
    record { many = many_of ds (elem_type x) n vs p; stand = values_stand (width_of ds (elem_type x)) vs (each_long ds (elem_type x) s.0 n vs s.1 p) }

-- ---- members

all_flat : (vs : Values) → words_of_all vs ≡ flat_map words_of (value_list vs)
all_flat no_value = refl
all_flat (and_value v vs) = ap (λ (ys : List ℕ). words_of v ++ ys) (all_flat vs)

members_long : (ds : List CDef) (fields : List CVar) (ss : Shapes) (vs : List Value) → shapes_of_fields (shape_within (length ds) ds) fields ≡ Some ss
    → AllZip (λ (f : CVar) v. IsValueOf ds f.ty v) fields vs
    → AllZip (λ (f : CVar) (v : Value). length (words_of v) ≡ var_width ds f) fields vs
members_long ds [] ss [] e z = tt
members_long ds [] ss (v ∷ vs) e z = absurd z
members_long ds (f ∷ fields) ss [] e z = absurd z
members_long ds (f ∷ fields) ss (v ∷ vs) e z =
    let p = fields_split (shape_within (length ds) ds f.ty) (shapes_of_fields (shape_within (length ds) ds) fields) ss e in
    let next : length ds + 1 ≡ suc (length ds) = omega arith in
    let whole : shape_of ds f.ty ≡ Some p.one = ap (λ (n : ℕ). shape_within n ds f.ty) next ∙ next_keeps (length ds) ds f.ty p.one p.one_is in
    (value_long ds f.ty p.one v whole z.0, members_long ds fields p.others vs p.others_are z.1)

fields_run : (ds : List CDef) (y x : List ℕ) (fields : List CVar) (vs : Values) (f : CVar) → IsSome (shape_of ds (ty.Struct y))
    → fields_of ds y ≡ Some fields → AreValuesOf ds (map (λ (v : CVar). v.ty) fields) vs → var_of fields x ≡ Some f
    → RunAt (words_of_all vs) (var_start ds fields x) (var_length ds fields x) (words_of (value_at (value_list vs) (place_of_var fields x)))
fields_run ds y x fields vs f h e p g =
    let s = found (shape_of ds (ty.Struct y)) h in
    let ss = members_shaped ds y fields s.0 e s.1 in
    let along = members_along ds fields vs p in
    let w = found_along (λ (z : CVar) v. IsValueOf ds z.ty v) (λ (z : CVar). is_same x z.name) fields (value_list vs) f along g in
    let r = run_at (var_width ds) words_of fields (value_list vs) [] (place_of_var fields x) f w.value (members_long ds fields ss.0 (value_list vs) ss.1 along) (found_there (λ (z : CVar). is_same x z.name) fields f g) w.there in
    let value : w.value ≡ value_at (value_list vs) (place_of_var fields x) = sym (ap (λ (o : Option Value). option_map_or (λ (v : Value). v) o no_such_value) w.there) in
    let wide : var_width ds f ≡ var_length ds fields x = sym (ap (λ (o : Option CVar). option_map_or (var_width ds) o 0) g) in
    let words : words_of_all vs ≡ flat_map words_of (value_list vs) ++ [] = all_flat vs ∙ sym (append-nil (flat_map words_of (value_list vs))) in
    record {
      others = r.others;
      is = ap (λ (ys : List ℕ). drop (var_start ds fields x) ys) words ∙ r.is ∙ ap (λ (v : Value). words_of v ++ r.others) value;
      long = sym (ap (λ (v : Value). length (words_of v)) value) ∙ r.long ∙ wide;
    }

-- a member's words in those of a struct
pub member_run : (ds : List CDef) (y x : List ℕ) (v : Value) (f : CVar) → IsSome (shape_of ds (ty.Struct y))
    → var_of (fields_in ds (Some (ty.Struct y))) x ≡ Some f → IsValueOf ds (ty.Struct y) v
    → RunAt (words_of v) (var_start ds (fields_in ds (Some (ty.Struct y))) x) (var_length ds (fields_in ds (Some (ty.Struct y))) x) (words_of (value_at (parts v) (place_of_var (fields_in ds (Some (ty.Struct y))) x)))
member_run ds y x (number w) f h g p = absurd p
member_run ds y x (array_of vs) f h g p = absurd p
member_run ds y x (struct_of vs) f h g p =
    let is : fields_in ds (Some (ty.Struct y)) ≡ p.0 = ap (λ (o : Option (List CVar)). option_map_or (λ (fs : List CVar). fs) o []) p.1 in
    let found_in : var_of p.0 x ≡ Some f = subst (λ (fs : List CVar). var_of fs x ≡ Some f) is g in
    subst (λ (fs : List CVar). RunAt (words_of_all vs) (var_start ds fs x) (var_length ds fs x) (words_of (value_at (value_list vs) (place_of_var fs x)))) (sym is)
    (fields_run ds y x p.0 vs f h p.1 p.2 found_in)
