-- The lines of rings, of array types and of statements.
use Rattle.std.proofs.Common.{◌≡◌, ℕ, zero, suc, ◌<◌, ◌-◌, ◌^◌, ◌≤◌, List, [], ◌∷◌, ◌++◌, length, get_or, map, Bool, true, false, Option, Some, None, codes, refl, sym, ap, ◌∙◌, arith}
use Rattle.std.specs.Prelude.{if◌then◌else◌, IsSome, IsTrue, pos, negsuc, ◌-ℤ◌, nat_le}
use Rattle.std.specs.Option.{option_map_or}
use Rattle.std.specs.List.{flat_map, list_all}
use Rattle.std.specs.Fmt.{decimal}
use Rattle.std.proofs.lemmas.Bool.{and_parts}
use Rattle.std.proofs.lemmas.Bool.Decides.{nat_tests}
use Rattle.std.proofs.lemmas.Int.{ints}
use Rattle.c99_tree.specs.declared.types.CScalar.TheVariants as t
use Rattle.c99_tree.specs.declared.types.CDef.{CDef}
use Rattle.c99_tree.specs.declared.types.CDef.TheVariants as def
use Rattle.c99_tree.specs.declared.unit.CRing.{CRing}
use Rattle.c99_tree.specs.CTypes.{num}
use Rattle.c99_tree.specs.Lookup.{arrays_in, named_array}
use Rattle.c99_tree.specs.Values.{Value, first_values, number_of_word}
use Rattle.c99_tree.specs.Spelling.{line, with_commas, constant, type_text, pick_line, ring_lines, ring_lines_of, signed_constant}

-- ---- signed numbers

pub low_signed : (tail : List ℕ) (w : ℕ) → w < 9223372036854775808 → signed_constant tail (number_of_word t.I64 w).n ≡ decimal w ++ tail
low_signed tail w h =
    let test : nat_le (2 ^ 63) w ≡ false = grind (arith, nat_tests) in
    ap (λ (b : Bool). signed_constant tail (if b then num t.I64 (pos w -ℤ pos (2 ^ 64)) else num t.I64 (pos w)).n) test

pub high_signed : (tail : List ℕ) (w : ℕ) → 9223372036854775808 ≤ w → w < 18446744073709551616
    → signed_constant tail (number_of_word t.I64 w).n ≡ codes "((-" ++ decimal (18446744073709551615 - w) ++ tail ++ codes ") - 1" ++ tail ++ codes ")"
high_signed tail w h g =
    let test : nat_le (2 ^ 63) w ≡ true = grind (arith, nat_tests) in
    let z : pos w -ℤ pos 18446744073709551616 ≡ negsuc (18446744073709551615 - w) = omega (arith, ints) in
    ap (λ (b : Bool). signed_constant tail (if b then num t.I64 (pos w -ℤ pos (2 ^ 64)) else num t.I64 (pos w)).n) test ∙ ap (signed_constant tail) z

-- ---- rings

pub some_of : {X : Type 0} (o : Option X) → IsSome o → (x : X) × (o ≡ Some x)
some_of None h = absurd (cc h)
some_of (Some x) h = (x, refl)

if_true : (b : Bool) (x y : List ℕ) → b ≡ true → (if b then x else y) ≡ x
if_true true x y h = refl
if_true false x y h = absurd (cc h)

if_false : (b : Bool) (x y : List ℕ) → b ≡ false → (if b then x else y) ≡ y
if_false true x y h = absurd (cc h)
if_false false x y h = refl

abbrev indexed_text : CRing → List Value → List ℕ
indexed_text r vs =
    line (codes "static " ++ type_text r.ty ++ codes " cp_b_" ++ r.name ++ codes "[" ++ decimal r.len ++ codes "] = { " ++ with_commas (map constant vs) ++ codes " };")
    ++ line (codes "static uint32_t cp_i_" ++ r.name ++ codes " = 0U;")

abbrev single_text : CRing → List Value → List ℕ
single_text r vs = line (codes "static " ++ type_text r.ty ++ codes " cp_b_" ++ r.name ++ codes " = " ++ with_commas (map constant vs) ++ codes ";")

of_values : (ds : List CDef) (r : CRing) (vs : List Value) → first_values ds r ≡ Some vs → ring_lines ds r ≡ ring_lines_of r vs
of_values ds r vs e = ap (λ (o : Option (List Value)). option_map_or (ring_lines_of r) o []) e

pub indexed-is : (ds : List CDef) (r : CRing) (vs : List Value) → first_values ds r ≡ Some vs → IsTrue r.indexed → indexed_text r vs ≡ ring_lines ds r
indexed-is ds r vs e h = sym (of_values ds r vs e ∙ if_true r.indexed (indexed_text r vs) (single_text r vs) h)

pub single-is : (ds : List CDef) (r : CRing) (vs : List Value) → first_values ds r ≡ Some vs → r.indexed ≡ false → single_text r vs ≡ ring_lines ds r
single-is ds r vs e h = sym (of_values ds r vs e ∙ if_false r.indexed (indexed_text r vs) (single_text r vs) h)

pub all_at : {X : Type 0} (p : X → Bool) (xs : List X) (i : ℕ) (x : X) → list_all p xs ≡ true → i < length xs → x ≡ get_or xs i x → p x ≡ true
all_at p [] i x h low is = absurd (omega (arith, low))
all_at p (y ∷ ys) zero x h low is = rw is (and_parts (p y) (list_all p ys) h).0
all_at p (y ∷ ys) (suc i) x h low is = all_at p ys i x (and_parts (p y) (list_all p ys) h).1 (omega (arith, low)) is

-- ---- lists of lines

pub lines-map : {X Y : Type 0} (f : Y → List ℕ) (g : X → Y) (xs : List X) → flat_map (λ x. f (g x)) xs ≡ flat_map f (map g xs)
lines-map f g [] = refl
lines-map f g (x ∷ xs) = ap (λ (rest : List ℕ). f (g x) ++ rest) (lines-map f g xs)

pub lines-arrays : (ds : List CDef) → flat_map (λ d. option_map_or pick_line (named_array d) []) ds ≡ flat_map pick_line (arrays_in ds)
lines-arrays [] = refl
lines-arrays (def.Struct x fields ∷ ds) = lines-arrays ds
lines-arrays (def.Array x n ∷ ds) = ap (λ (rest : List ℕ). pick_line (x, n) ++ rest) (lines-arrays ds)
