-- What is written fits its place: literals, names and numbers.
use Rattle.std.proofs.Common.{◌≡◌, ℕ, ◌^◌, ◌<◌, ◌≤◌, ◌==◌, ◌&&◌, not, Bool, true, false, nat_le, List, [], ◌∷◌, ◌++◌, length, None, refl, sym, subst, arith}
use Rattle.std.specs.Prelude.{◌||◌, if◌then◌else◌, codes, decimal, slice_get, is_some}
use Rattle.std.specs.List.{list_all, list_any}
use Rattle.std.specs.Option.{option_map_or}
use Rattle.std.proofs.lemmas.Bool.{and_from, and_parts, eqb-true, true≢false}
use Rattle.std.proofs.lemmas.Bool.Decides.{nat_tests}
use Rattle.sm_io.specs.Names.{is_name_byte}
use Rattle.sm_io.specs.Words as names
use Rattle.stream_types.specs.declared.scalar.Scalar.{Scalar}
use Rattle.stream_types.specs.declared.scalar.Scalar.TheVariants as scalar
use Rattle.stream_types.specs.Numbers.{is_word}
use Rattle.spec_words.specs.Words.{scalar_word, scalar_of}
use Rattle.spec_forest.specs.Node.{atom}
use Rattle.spec_text.specs.Shape.{SyntaxFault, bad_name, bad_literal, name, ty, constant, expression, decimal as decimal_place, number as number_place, unless}
use Rattle.spec_text.specs.FirstFault.{fault_in}
use Rattle.spec_words.specs.Decimals.{is_decimal, value_of}
use Rattle.spec_words.specs.Literals.{is_colon, is_numeric, number_text, literal_of, literal_text}
use Rattle.spec_words.specs.Words.{truth_of}
use Rattle.sm_io.proofs.Truths.{all_weaker, or_passes, either_says}
use Rattle.spec_words.proofs.ReadBack.{value-decimal, is-decimal, scalar-read, none-of, IsLiteral, typed-is}

-- ---- atoms at their places

pub unless-true : (b : Bool) (f : SyntaxFault) → b ≡ true → unless b f ≡ None
unless-true true f h = refl
unless-true false f h = absurd (cc)

pub record LiteralFits (text : List ℕ) : Type 0 where
  pub as_constant : fault_in constant (atom 0 text) ≡ None
  pub as_expression : fault_in expression (atom 0 text) ≡ None

typed-fits : (text : List ℕ) → IsLiteral text → LiteralFits text
typed-fits text l =
    let e : unless (is_some (literal_of text)) (bad_literal 0) ≡ None = unless-true (is_some (literal_of text)) (bad_literal 0) l.literal in
    record { as_constant = e; as_expression = rw l.numeric e }

truth-fits : (b : Bool) → LiteralFits (if b then codes "false" else codes "true")
unfolding literal_of is_numeric
truth-fits true = record { as_constant = refl; as_expression = refl }
truth-fits false = record { as_constant = refl; as_expression = refl }

pub literal-fits : (s : Scalar) (w : ℕ) → is_word s w ≡ true → LiteralFits (literal_text s w)
unfolding literal_text
literal-fits scalar.Bool w h = truth-fits (w == 0)
literal-fits scalar.Int8 w h = typed-fits (number_text true w ++ codes ":" ++ scalar_word scalar.Int8) (typed-is scalar.Int8 8 w true (omega arith) h refl refl (λ front. refl))
literal-fits scalar.Int16 w h = typed-fits (number_text true w ++ codes ":" ++ scalar_word scalar.Int16) (typed-is scalar.Int16 16 w true (omega arith) h refl refl (λ front. refl))
literal-fits scalar.Int32 w h = typed-fits (number_text true w ++ codes ":" ++ scalar_word scalar.Int32) (typed-is scalar.Int32 32 w true (omega arith) h refl refl (λ front. refl))
literal-fits scalar.Int64 w h = typed-fits (number_text true w ++ codes ":" ++ scalar_word scalar.Int64) (typed-is scalar.Int64 64 w true (omega arith) h refl refl (λ front. refl))
literal-fits scalar.Word8 w h = typed-fits (number_text false w ++ codes ":" ++ scalar_word scalar.Word8) (typed-is scalar.Word8 8 w false (omega arith) h refl refl (λ front. refl))
literal-fits scalar.Word16 w h = typed-fits (number_text false w ++ codes ":" ++ scalar_word scalar.Word16) (typed-is scalar.Word16 16 w false (omega arith) h refl refl (λ front. refl))
literal-fits scalar.Word32 w h = typed-fits (number_text false w ++ codes ":" ++ scalar_word scalar.Word32) (typed-is scalar.Word32 32 w false (omega arith) h refl refl (λ front. refl))
literal-fits scalar.Word64 w h = typed-fits (number_text false w ++ codes ":" ++ scalar_word scalar.Word64) (typed-is scalar.Word64 64 w false (omega arith) h refl refl (λ front. refl))

no-colon-case : (b : ℕ) (c : Bool) → is_colon b ≡ c → is_name_byte b ≡ true → not c ≡ true
no-colon-case b true e h = absurd (true≢false (sym (subst (λ x. is_name_byte x ≡ true) (eqb-true b 58 e) h)))
no-colon-case b false e h = refl

pub no-colon-name : (b : ℕ) → is_name_byte b ≡ true → not (is_colon b) ≡ true
no-colon-name b h = no-colon-case b (is_colon b) refl h

above : (b : ℕ) → names.is_letter b ≡ true → 65 ≤ b
above b h = either_says (nat_le 65 b && nat_le b 90) (nat_le 97 b && nat_le b 122) (λ k. let p = and_parts (nat_le 65 b) (nat_le b 90) k in grind (arith, nat_tests, p.0)) (λ k. let p = and_parts (nat_le 97 b) (nat_le b 122) k in grind (arith, nat_tests, p.0)) h

not-numeric : (x : List ℕ) → option_map_or names.is_letter (slice_get x 0) false ≡ true → list_any is_colon x ≡ false → is_numeric x ≡ false
unfolding is_numeric
not-numeric [] h k = absurd (cc)
not-numeric (b ∷ x) h k =
    let low : 65 ≤ b = above b h in
    let e : nat_le b 57 ≡ false = grind (arith, nat_tests) in
    let f : (b == 45) ≡ false = grind (arith, nat_tests) in
    let g : nat_le 48 b ≡ true = grind (arith, nat_tests) in
    rw (g, e, f, k) refl

pub record NameFits (x : List ℕ) : Type 0 where
  pub as_name : fault_in name (atom 0 x) ≡ None
  pub as_type : fault_in ty (atom 0 x) ≡ None
  pub as_expression : fault_in expression (atom 0 x) ≡ None

pub name-fits : (x : List ℕ) → names.is_name x ≡ true → NameFits x
name-fits x h =
    let p = and_parts (names.is_word x) (not (names.is_kept x)) h in
    let q = and_parts (option_map_or names.is_letter (slice_get x 0) false && nat_le (length x) 31) (list_all is_name_byte x) p.0 in
    let r = and_parts (option_map_or names.is_letter (slice_get x 0) false) (nat_le (length x) 31) q.0 in
    let plain = none-of x (all_weaker is_name_byte (λ b. not (is_colon b)) no-colon-name x q.1) in
    let numeric : is_numeric x ≡ false = not-numeric x r.0 plain in
    let e : unless (is_some (truth_of x) || names.is_name x) (bad_name 0) ≡ None = unless-true (is_some (truth_of x) || names.is_name x) (bad_name 0) (or_passes (is_some (truth_of x)) (names.is_name x) h) in
    record {
      as_name = unless-true (names.is_name x) (bad_name 0) h;
      as_type = unless-true (is_some (scalar_of x) || names.is_name x) (bad_name 0) (or_passes (is_some (scalar_of x)) (names.is_name x) h);
      as_expression = rw numeric e;
    }

pub scalar-fits : (s : Scalar) → fault_in ty (atom 0 (scalar_word s)) ≡ None
scalar-fits s = rw (scalar-read s) refl

pub decimal-fits : (n : ℕ) → n < 2 ^ 64 → fault_in decimal_place (atom 0 (decimal n)) ≡ None
decimal-fits n small = unless-true (is_decimal (decimal n)) (bad_literal 0) (is-decimal n small)

pub number-fits : (n low high : ℕ) → nat_le low n ≡ true → nat_le n high ≡ true → n < 2 ^ 64 → fault_in (number_place low high) (atom 0 (decimal n)) ≡ None
number-fits n low high h k small =
    let range : (nat_le low (value_of (decimal n)) && nat_le (value_of (decimal n)) high) ≡ true = rw (value-decimal n small) (and_from (nat_le low n) (nat_le n high) h k) in
    unless-true (is_decimal (decimal n) && (nat_le low (value_of (decimal n)) && nat_le (value_of (decimal n)) high)) (bad_literal 0) (and_from (is_decimal (decimal n)) (nat_le low (value_of (decimal n)) && nat_le (value_of (decimal n)) high) (is-decimal n small) range)
