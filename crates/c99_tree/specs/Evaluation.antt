-- The value of an expression, and how many operators its evaluation meets.
-- An operator is met when its evaluation begins, before its operands, and none is met after the first thing that is
-- undefined. Operands and arguments go from left to right: C leaves their order open (6.5 paragraph 3), but no
-- expression writes, so the order changes neither the value nor whether there is one.
-- Sections are those of ISO/IEC 9899:1999.
use Rattle.std.specs.Prelude.{ℕ, ◌+◌, ◌-◌, ◌^◌, ◌/◌, Bool, true, false, not, ◌&&◌, ◌||◌, nat_le, if◌then◌else◌, List, [], ◌∷◌, map, replicate, slice_get, Option, Some, None, Result, Ok, Err, ℤ, pos, negsuc, ◌+ℤ◌, ◌-ℤ◌, ◌*ℤ◌, int_lt, int_le, int_div, int_rem, unsigned_abs, bit_and, bit_or, bit_xor}
use Rattle.std.specs.Int.{int_rem_euclid}
use Rattle.std.specs.Ordering.{int_eq}
use Rattle.std.specs.Option.{option_map_or}
use Rattle.c99_tree.specs.declared.expr.CUn.{CUn}
use Rattle.c99_tree.specs.declared.expr.CUn.TheVariants as u
use Rattle.c99_tree.specs.declared.expr.CBin.{CBin}
use Rattle.c99_tree.specs.declared.expr.CBin.TheVariants as o
use Rattle.c99_tree.specs.declared.types.CScalar.{CScalar}
use Rattle.c99_tree.specs.declared.types.CScalar.TheVariants as t
use Rattle.c99_tree.specs.declared.types.CTy.{CTy}
use Rattle.c99_tree.specs.declared.types.CTy.TheVariants as ty
use Rattle.c99_tree.specs.declared.undefined.Undefined.{Undefined}
use Rattle.c99_tree.specs.declared.undefined.Undefined.TheVariants as why
use Rattle.c99_tree.specs.declared.unit.Unit.{Unit as CUnit}
use Rattle.c99_tree.specs.Tree.{Expr, Exprs, lit, yes, no, copy, head, cell, ring_at, un, bin, choose, cast, field, pick, arr, rec, none, more}
use Rattle.c99_tree.specs.CTypes.{Num, num, bits, is_signed, promoted, usual, in_type, is_zero, truth, converted, widened}
use Rattle.c99_tree.specs.Words.{elem_type}
use Rattle.c99_tree.specs.Lookup.{fields_of, place_of_var, place_of_ring}
use Rattle.c99_tree.specs.Values.{Value, Values, number, struct_of, array_of, no_value, and_value, parts, number_in, no_such_value}
use Rattle.c99_tree.specs.Typing.{type_of, arms_type_of, fields_in, literal_type}

-- ---- operators on numbers

-- 6.5.3.3; in two's complement the complement of x is -x - 1
abbrev pub unary : CUn → Num → Result Num Undefined
unary u.Not x = Ok (truth (is_zero x))
unary u.BitNot x = in_type why.Overflow (promoted x.ty) (pos 0 -ℤ x.n -ℤ pos 1)
unary u.Neg x = in_type why.Overflow (promoted x.ty) (pos 0 -ℤ x.n)

-- the bits of a number of a type, and the number that has these bits, in two's complement (6.2.6.2)
abbrev pub bits_of : CScalar → ℤ → ℕ
bits_of ty z = unsigned_abs (int_rem_euclid z (pos (2 ^ bits ty)))

abbrev pub of_bits : CScalar → ℕ → ℤ
of_bits ty w = if is_signed ty && nat_le (2 ^ (bits ty - 1)) w then pos w -ℤ pos (2 ^ bits ty) else pos w

abbrev pub by_bits : (ℕ → ℕ → ℕ) → CScalar → ℤ → ℤ → Result Num Undefined
by_bits f ty x y = Ok (num ty (of_bits ty (f (bits_of ty x) (bits_of ty y))))

-- `/` and `%`, which truncate towards zero (6.5.5 paragraphs 5 and 6)
abbrev pub divided : (ℤ → ℤ → ℤ) → CScalar → ℤ → ℤ → Result Num Undefined
divided f ty x y =
    if int_eq y (pos 0) then Err why.ZeroDivisor
    else (if is_signed ty && int_eq y (negsuc 0) && int_eq x (negsuc (2 ^ (bits ty - 1) - 1)) then Err why.Overflow
    else Ok (num ty (f x y)))

-- an operator on two operands that the usual arithmetic conversions have brought to one type (6.3.1.8)
abbrev pub at_common : (CScalar → ℤ → ℤ → Result Num Undefined) → Num → Num → Result Num Undefined
at_common f x y = let ty = usual x.ty y.ty in f ty (widened ty x) (widened ty y)

-- `+ - *` (6.5.5, 6.5.6)
abbrev pub exact : (ℤ → ℤ → ℤ) → Num → Num → Result Num Undefined
exact f = at_common (λ ty x y. in_type why.Overflow ty (f x y))

-- `& | ^` (6.5.10 to 6.5.12)
abbrev pub bitwise : (ℕ → ℕ → ℕ) → Num → Num → Result Num Undefined
bitwise f = at_common (by_bits f)

-- `== != < <= > >=`, an int (6.5.8, 6.5.9)
abbrev pub compared : (ℤ → ℤ → Bool) → Num → Num → Result Num Undefined
compared f = at_common (λ ty x y. Ok (truth (f x y)))

-- a count that is negative or not less than the width, or a signed negative number to be shifted (6.5.7 paragraphs 3
-- to 5; C leaves the right shift of a negative number to the implementation)
abbrev pub is_bad_shift : CScalar → Num → Num → Bool
is_bad_shift ty x y = int_lt y.n (pos 0) || int_le (pos (bits ty)) y.n || (is_signed ty && int_lt x.n (pos 0))

-- x times 2 to the power n, or x divided by it (6.5.7 paragraphs 4 and 5); true says that the shift is bad
abbrev pub shifted_left : Bool → CScalar → ℤ → ℕ → Result Num Undefined
shifted_left true ty x n = Err why.BadShift
shifted_left false ty x n = in_type why.Overflow ty (x *ℤ pos (2 ^ n))

abbrev pub shifted_right : Bool → CScalar → ℤ → ℕ → Result Num Undefined
shifted_right true ty x n = Err why.BadShift
shifted_right false ty x n = Ok (num ty (pos (unsigned_abs x / 2 ^ n)))

-- each operand of a shift is promoted for itself, and the left one's type is the result's (6.5.7 paragraph 3)
abbrev pub shifted : (Bool → CScalar → ℤ → ℕ → Result Num Undefined) → Num → Num → Result Num Undefined
shifted f x y = let ty = promoted x.ty in f (is_bad_shift ty x y) ty x.n (unsigned_abs y.n)

-- a binary operator at its operands' values; of `&&` and `||` where both operands are evaluated
abbrev pub binary : CBin → Num → Num → Result Num Undefined
binary o.Add x y = exact ◌+ℤ◌ x y
binary o.Sub x y = exact ◌-ℤ◌ x y
binary o.Mul x y = exact ◌*ℤ◌ x y
binary o.Div x y = at_common (divided int_div) x y
binary o.Rem x y = at_common (divided int_rem) x y
binary o.BitAnd x y = bitwise bit_and x y
binary o.BitOr x y = bitwise bit_or x y
binary o.BitXor x y = bitwise bit_xor x y
binary o.Shl x y = shifted shifted_left x y
binary o.Shr x y = shifted shifted_right x y
binary o.Eq x y = compared int_eq x y
binary o.Ne x y = compared (λ a b. not (int_eq a b)) x y
binary o.Lt x y = compared int_lt x y
binary o.Le x y = compared int_le x y
binary o.Gt x y = compared (λ a b. int_lt b a) x y
binary o.Ge x y = compared (λ a b. int_le b a) x y
binary o.And x y = Ok (truth (not (is_zero x) && not (is_zero y)))
binary o.Or x y = Ok (truth (not (is_zero x) || not (is_zero y)))

-- the truth of the left operand at which the right one isn't evaluated (6.5.13 paragraph 4, 6.5.14 paragraph 4)
abbrev pub decided_at : CBin → Option Bool
decided_at o.And = Some false
decided_at o.Or = Some true
decided_at _ = None

-- the number has this truth
abbrev pub decides : Bool → Num → Bool
decides true x = not (is_zero x)
decides false x = is_zero x

-- ---- what an evaluation gives

-- a result, and how many operators were met before it or before the first thing that is undefined
pub record Met (A : Type 0) : Type 0 where
  pub value : Result A Undefined
  pub count : ℕ

abbrev pub done : {A : Type 0} → Result A Undefined → Met A
done r = record { value = r; count = 0 }

abbrev pub after : {A B : Type 0} → Result A Undefined → ℕ → (A → Met B) → Met B
after (Ok x) n f = record { value = (f x).value; count = n + (f x).count }
after (Err e) n f = record { value = Err e; count = n }

-- first the one, and where that is defined the other
infixl 10 ◌>>=◌
abbrev pub ◌>>=◌ : {A B : Type 0} → Met A → (A → Met B) → Met B
m >>= f = after m.value m.count f

-- n operators, met before what follows
abbrev pub meets : {A : Type 0} → ℕ → Met A → Met A
meets n m = record { value = m.value; count = n + m.count }

abbrev pub number_result : Result Num Undefined → Result Value Undefined
number_result (Ok x) = Ok (number x)
number_result (Err e) = Err e

-- ---- the statics

-- a ring: its values, and its index, which one without an index leaves at 0
pub record RingState : Type 0 where
  pub values : List Value
  pub index : ℕ

-- the externs' copies in the order of the externs, and the rings in theirs
pub record Statics : Type 0 where
  pub copies : List Value
  pub rings : List RingState

abbrev pub value_at : List Value → ℕ → Value
value_at vs k = option_map_or (λ v. v) (slice_get vs k) no_such_value

abbrev pub copy_in : CUnit → Statics → List ℕ → Value
copy_in u s x = value_at s.copies (place_of_var u.externs x)

abbrev pub values_in : CUnit → Statics → List ℕ → List Value
values_in u s r = option_map_or (λ ring. ring.values) (slice_get s.rings (place_of_ring u r)) []

abbrev pub index_in : CUnit → Statics → List ℕ → ℕ
index_in u s r = option_map_or (λ ring. ring.index) (slice_get s.rings (place_of_ring u r)) 0

-- ---- expressions

-- the element at a subscript, which is negative or not less than the length where it is bad (6.5.2.1, 6.5.6
-- paragraph 8)
abbrev pub element : List Value → ℤ → Result Value Undefined
element vs (pos k) = option_map_or Ok (slice_get vs k) (Err why.BadIndex)
element vs (negsuc k) = Err why.BadIndex

-- a value as an object of this type gets it: scalars convert, and others are of that type (6.5.16.1 paragraph 2,
-- 6.5.2.2 paragraph 7, 6.7.8 paragraph 11)
abbrev pub converted_to : CTy → Value → Result Value Undefined
converted_to (ty.Scalar t) v = number_result (converted t (number_in v))
converted_to (ty.Struct x) v = Ok v
converted_to (ty.Array x n) v = Ok v

-- the value of an arm of `?:`, in the type that both arms have (6.5.15 paragraphs 4 and 5)
abbrev pub settled : Option CTy → Value → Result Value Undefined
settled (Some t) v = converted_to t v
settled None v = Ok v

-- `&&` and `||` evaluate the right operand only where the left one doesn't decide
abbrev pub both : Option Bool → CBin → Met Value → Met Value → Met Value
both (Some b) op l r =
    l >>= λ x. if decides b (number_in x) then done (Ok (number (truth b)))
    else (r >>= λ y. done (number_result (binary op (number_in x) (number_in y))))
both None op l r = l >>= λ x. r >>= λ y. done (number_result (binary op (number_in x) (number_in y)))

-- `?:` evaluates one arm alone (6.5.15 paragraph 4)
abbrev pub chosen : Option CTy → Met Value → Met Value → Met Value → Met Value
chosen t c a b = c >>= λ x. (if is_zero (number_in x) then b else a) >>= λ y. done (settled t y)

-- a parameter of type uint32_t converts its argument (6.5.2.2 paragraph 7)
abbrev pub picked : Value → Value → Met Value
picked a i = done (number_result (converted t.U32 (number_in i))) >>= λ k. done (element (parts a) (number_in k).n)

-- the value, converted to the first type of a list, where there is one
abbrev pub converted_first : List CTy → Value → Result Value Undefined
converted_first [] v = Ok v
converted_first (t ∷ ts) v = converted_to t v

abbrev pub rest_of : List CTy → List CTy
rest_of [] = []
rest_of (t ∷ ts) = ts

unfoldable mutual
  -- a bare copy, index or cell meets nothing; a `cp_ix` call meets two operators, its member access and its subscript
  pub evaluate : CUnit → Statics → Expr → Met Value
  evaluate u s (lit k n) = done (Ok (number (num (literal_type k) (pos n))))
  evaluate u s yes = done (Ok (number (truth true)))
  evaluate u s no = done (Ok (number (truth false)))
  evaluate u s (copy x) = done (Ok (copy_in u s x))
  evaluate u s (head r) = done (Ok (number (num t.U32 (pos (index_in u s r)))))
  evaluate u s (cell r) = done (Ok (value_at (values_in u s r) 0))
  evaluate u s (ring_at r a) = meets 1 (evaluate u s a >>= λ i. done (element (values_in u s r) (number_in i).n))
  evaluate u s (un op a) = meets 1 (evaluate u s a >>= λ x. done (number_result (unary op (number_in x))))
  evaluate u s (bin op a b) = meets 1 (both (decided_at op) op (evaluate u s a) (evaluate u s b))
  evaluate u s (choose c a b) =
      meets 1 (chosen (arms_type_of (type_of u a) (type_of u b)) (evaluate u s c) (evaluate u s a) (evaluate u s b))
  evaluate u s (cast t a) = meets 1 (evaluate u s a >>= λ x. done (number_result (converted t (number_in x))))
  evaluate u s (field a x) =
      meets 1 (evaluate u s a >>= λ v. done (Ok (value_at (parts v) (place_of_var (fields_in u.types (type_of u a)) x))))
  evaluate u s (pick x n a i) = meets 2 (evaluate u s a >>= λ v. evaluate u s i >>= λ k. picked v k)
  evaluate u s (arr x n all) = meets 1 (evaluate_all u s (replicate n (elem_type x)) all >>= λ vs. done (Ok (array_of vs)))
  evaluate u s (rec x all) =
      meets 1 (evaluate_all u s (map (λ v. v.ty) (option_map_or (λ fields. fields) (fields_of u.types x) [])) all
      >>= λ vs. done (Ok (struct_of vs)))

  -- the values of a list, each converted to its type before the next one is evaluated
  pub evaluate_all : CUnit → Statics → List CTy → Exprs → Met Values
  evaluate_all u s ts none = done (Ok no_value)
  evaluate_all u s ts (more e es) =
      evaluate u s e >>= λ x. done (converted_first ts x) >>= λ v.
      evaluate_all u s (rest_of ts) es >>= λ vs. done (Ok (and_value v vs))
