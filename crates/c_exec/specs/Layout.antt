-- Where the values of a program lie among words: first the externs' copies in their order, and then each ring's index and
-- its values. The locals lie apart, one for each ring, in the order of the rings.
use Rattle.std.specs.Prelude.{ℕ, zero, suc, ◌+◌, ◌*◌, List, length, take}
use Rattle.std.specs.List.{sum_by}
use Rattle.std.specs.Option.{option_map_or}
use Rattle.c99_tree.specs.declared.types.CTy.{CTy}
use Rattle.c99_tree.specs.declared.types.CTy.TheVariants as ty
use Rattle.c99_tree.specs.declared.types.CVar.{CVar}
use Rattle.c99_tree.specs.declared.types.CDef.{CDef}
use Rattle.c99_tree.specs.declared.unit.CRing.{CRing}
use Rattle.c99_tree.specs.declared.unit.Unit.{Unit as CUnit}
use Rattle.c99_tree.specs.Words.{elem_type}
use Rattle.c99_tree.specs.Lookup.{fields_of, place_of_var, place_of_ring, ring_of, var_of}

-- how many words a value of a struct has, where f says so of its members
abbrev pub struct_width : (CTy → ℕ) → List CDef → List ℕ → ℕ
struct_width f ds x = option_map_or (λ fields. sum_by (λ v. f v.ty) fields) (fields_of ds x) 0

-- how many an array's element has
abbrev pub element_width : (CTy → ℕ) → List CDef → CTy → ℕ
element_width f ds (ty.Scalar t) = 1
element_width f ds (ty.Struct x) = struct_width f ds x
element_width f ds (ty.Array x n) = 0

abbrev pub width_over : (CTy → ℕ) → List CDef → CTy → ℕ
width_over f ds (ty.Scalar t) = 1
width_over f ds (ty.Struct x) = struct_width f ds x
width_over f ds (ty.Array x n) = n * element_width f ds (elem_type x)

-- how many words a value of a type has in which at most n types stand one in another
unfoldable pub width_within : ℕ → List CDef → CTy → ℕ
width_within zero ds t = 0
width_within (suc n) ds t = width_over (width_within n ds) ds t

-- how many words a value of a type has
abbrev pub width_of : List CDef → CTy → ℕ
width_of ds t = width_within (length ds + 1) ds t

abbrev pub var_width : List CDef → CVar → ℕ
var_width ds v = width_of ds v.ty

-- where the words of the variable of this name begin among those of all
abbrev pub var_start : List CDef → List CVar → List ℕ → ℕ
var_start ds vs x = sum_by (var_width ds) (take (place_of_var vs x) vs)

-- how many they are
abbrev pub var_length : List CDef → List CVar → List ℕ → ℕ
var_length ds vs x = option_map_or (var_width ds) (var_of vs x) 0

abbrev pub ring_width : List CDef → CRing → ℕ
ring_width ds r = width_of ds r.ty

-- an index and the values
abbrev pub ring_words : List CDef → CRing → ℕ
ring_words ds r = 1 + r.len * ring_width ds r

-- where the index of the ring of this name stands
abbrev pub index_start : CUnit → List ℕ → ℕ
index_start u r = sum_by (var_width u.types) u.externs + sum_by (ring_words u.types) (take (place_of_ring u r) u.rings)

-- where the words of its local begin
abbrev pub local_start : CUnit → List ℕ → ℕ
local_start u r = sum_by (ring_width u.types) (take (place_of_ring u r) u.rings)

-- how many words one of its values has
abbrev pub value_width : CUnit → List ℕ → ℕ
value_width u r = option_map_or (ring_width u.types) (ring_of u r) 0

-- how many values it has
abbrev pub ring_length : CUnit → List ℕ → ℕ
ring_length u r = option_map_or (λ ring. ring.len) (ring_of u r) 0

abbrev pub statics_width : CUnit → ℕ
statics_width u = sum_by (var_width u.types) u.externs + sum_by (ring_words u.types) u.rings

abbrev pub locals_width : CUnit → ℕ
locals_width u = sum_by (ring_width u.types) u.rings
