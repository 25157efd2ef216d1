-- Values of the subset's types, and the lists of words that stand for them.
use Rattle.std.specs.Prelude.{ℕ, zero, suc, ◌+◌, ◌-◌, ◌^◌, Bool, ◌&&◌, ◌||◌, nat_lt, nat_le, if◌then◌else◌, List, [], ◌∷◌, ◌++◌, length, Option, Some, None, pos, ◌-ℤ◌, unsigned_abs}
use Rattle.std.specs.Int.{int_rem_euclid}
use Rattle.std.specs.Option.{option_and_then, option_map}
use Rattle.c99_tree.specs.declared.types.CScalar.{CScalar}
use Rattle.c99_tree.specs.declared.types.CScalar.TheVariants as t
use Rattle.c99_tree.specs.declared.types.CTy.{CTy}
use Rattle.c99_tree.specs.declared.types.CTy.TheVariants as ty
use Rattle.c99_tree.specs.declared.types.CVar.{CVar}
use Rattle.c99_tree.specs.declared.types.CDef.{CDef}
use Rattle.c99_tree.specs.declared.unit.CRing.{CRing}
use Rattle.c99_tree.specs.CTypes.{Num, num, bits, is_signed}
use Rattle.c99_tree.specs.Words.{elem_type}
use Rattle.c99_tree.specs.Lookup.{fields_of}

mutual
  -- a number, a struct by its members' values in order, or an array type's struct by its elements' values in order
  pub data Value : Type 0 where
    number : Num → Value
    struct_of : Values → Value
    array_of : Values → Value

  pub data Values : Type 0 where
    no_value : Values
    and_value : Value → Values → Values

abbrev pub values : List Value → Values
values [] = no_value
values (v ∷ vs) = and_value v (values vs)

abbrev pub value_list : Values → List Value
value_list no_value = []
value_list (and_value v vs) = v ∷ value_list vs

-- the values of a struct's members or of an array's elements
abbrev pub parts : Value → List Value
parts (number x) = []
parts (struct_of vs) = value_list vs
parts (array_of vs) = value_list vs

-- what stands for a value that isn't there; nothing of a well-formed program asks for it
abbrev pub no_such_value : Value
no_such_value = struct_of no_value

-- the number of a scalar's value; a value that is none stands nowhere in a well-formed program where a number is asked for
abbrev pub number_in : Value → Num
number_in (number x) = x
number_in (struct_of vs) = num t.I32 (pos 0)
number_in (array_of vs) = num t.I32 (pos 0)

-- ---- words

-- a word of a type: 0 or 1 of a bool, an unsigned number itself, and a signed number modulo 2^64
abbrev pub is_word : CScalar → ℕ → Bool
is_word t.Bool w = nat_lt w 2
is_word ty w =
    if is_signed ty then
    nat_lt w (2 ^ (bits ty - 1)) || (nat_le (2 ^ 64 - 2 ^ (bits ty - 1)) w && nat_lt w (2 ^ 64))
    else nat_lt w (2 ^ bits ty)

-- the number that a word of a type stands for
abbrev pub number_of_word : CScalar → ℕ → Num
number_of_word ty w =
    if is_signed ty && nat_le (2 ^ 63) w then num ty (pos w -ℤ pos (2 ^ 64)) else num ty (pos w)

-- the word of a number: the number modulo 2^64
abbrev pub word_of_number : Num → ℕ
word_of_number x = unsigned_abs (int_rem_euclid x.n (pos (2 ^ 64)))

abbrev mutual
  -- the words of a value: one for each scalar in it, in order of members and elements
  pub words_of : Value → List ℕ
  words_of (number x) = word_of_number x ∷ []
  words_of (struct_of vs) = words_of_all vs
  words_of (array_of vs) = words_of_all vs

  pub words_of_all : Values → List ℕ
  words_of_all no_value = []
  words_of_all (and_value v vs) = words_of v ++ words_of_all vs

-- ---- shapes

mutual
  -- which scalars a type holds, and how they are grouped
  pub data Shape : Type 0 where
    scalar : CScalar → Shape
    members : Shapes → Shape
    elements : ℕ → Shape → Shape

  pub data Shapes : Type 0 where
    no_shape : Shapes
    and_shape : Shape → Shapes → Shapes

abbrev pub shapes_of_fields : (CTy → Option Shape) → List CVar → Option Shapes
shapes_of_fields f [] = Some no_shape
shapes_of_fields f (x ∷ xs) = option_and_then (λ a. option_map (and_shape a) (shapes_of_fields f xs)) (f x.ty)

abbrev pub shape_of_struct : (CTy → Option Shape) → List CDef → List ℕ → Option Shape
shape_of_struct f ds x = option_and_then (λ fields. option_map members (shapes_of_fields f fields)) (fields_of ds x)

-- the shape of an array's element
abbrev pub shape_of_element : (CTy → Option Shape) → List CDef → CTy → Option Shape
shape_of_element f ds (ty.Scalar t) = Some (scalar t)
shape_of_element f ds (ty.Struct x) = shape_of_struct f ds x
shape_of_element f ds (ty.Array x n) = None

-- the shape of a type, where f gives those of a struct's members
abbrev pub shape_over : (CTy → Option Shape) → List CDef → CTy → Option Shape
shape_over f ds (ty.Scalar t) = Some (scalar t)
shape_over f ds (ty.Struct x) = shape_of_struct f ds x
shape_over f ds (ty.Array x n) = option_map (elements n) (shape_of_element f ds (elem_type x))

-- the shape of a type in which at most n types stand one in another
unfoldable pub shape_within : ℕ → List CDef → CTy → Option Shape
shape_within zero ds t = None
shape_within (suc n) ds t = shape_over (shape_within n ds) ds t

-- the shape of a type, each struct being the first of its name: None where one isn't defined, or holds itself,
-- directly or through others (structs that don't can't nest deeper than there are definitions)
abbrev pub shape_of : List CDef → CTy → Option Shape
shape_of ds t = shape_within (length ds + 1) ds t

-- ---- the value that words give

-- what a reader of words gives n times, one after another, and the words that are left
abbrev pub repeated : ℕ → (List ℕ → Option (Value × List ℕ)) → List ℕ → Option (List Value × List ℕ)
repeated zero f ws = Some ([], ws)
repeated (suc n) f ws =
    option_and_then (λ a. option_map (λ b. (a.0 ∷ b.0, b.1)) (repeated n f a.1)) (f ws)

abbrev mutual
  -- the value of this shape that the first words give, and the words that are left; None where there are too few, or
  -- where one isn't a word of its type
  pub filled : Shape → List ℕ → Option (Value × List ℕ)
  filled (scalar t) [] = None
  filled (scalar t) (w ∷ ws) = if is_word t w then Some (number (number_of_word t w), ws) else None
  filled (members shapes) ws = option_map (λ a. (struct_of a.0, a.1)) (filled_all shapes ws)
  filled (elements n shape) ws = option_map (λ a. (array_of (values a.0), a.1)) (repeated n (filled shape) ws)

  pub filled_all : Shapes → List ℕ → Option (Values × List ℕ)
  filled_all no_shape ws = Some (no_value, ws)
  filled_all (and_shape s shapes) ws =
      option_and_then (λ a. option_map (λ b. (and_value a.0 b.0, b.1)) (filled_all shapes a.1)) (filled s ws)

-- a list of values, where no word is left
abbrev pub whole : (List Value × List ℕ) → Option (List Value)
whole (vs, []) = Some vs
whole (vs, w ∷ ws) = None

-- the first values of a ring, in order; None where its type has no shape, or where it hasn't exactly one constant for
-- each word of its values, each a word of its type
abbrev pub first_values : List CDef → CRing → Option (List Value)
first_values ds r = option_and_then (λ s. option_and_then whole (repeated r.len (filled s) r.init)) (shape_of ds r.ty)

-- the values of variables of these types that the words of a row give
abbrev pub row_values : List CDef → List CVar → List ℕ → Option (List Value × List ℕ)
row_values ds [] ws = Some ([], ws)
row_values ds (x ∷ xs) ws =
    option_and_then
    (λ s. option_and_then (λ a. option_map (λ b. (a.0 ∷ b.0, b.1)) (row_values ds xs a.1)) (filled s ws))
    (shape_of ds x.ty)

-- ---- the value that is zero everywhere

abbrev pub copies_of : ℕ → Value → Values
copies_of zero v = no_value
copies_of (suc n) v = and_value v (copies_of n v)

abbrev mutual
  -- how an object without an initialiser begins (6.7.8 paragraph 10)
  pub zero_value : Shape → Value
  zero_value (scalar t) = number (num t (pos 0))
  zero_value (members shapes) = struct_of (zero_values shapes)
  zero_value (elements n shape) = array_of (copies_of n (zero_value shape))

  pub zero_values : Shapes → Values
  zero_values no_shape = no_value
  zero_values (and_shape s shapes) = and_value (zero_value s) (zero_values shapes)
