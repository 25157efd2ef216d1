-- Fixed bytes, words, numbers, names and lines are read as they were written.
use Rattle.std.proofs.Common.{◌-◌, ◌≡◌, ℕ, zero, suc, ◌^◌, ◌<◌, ◌≤◌, Bool, true, false, not, ◌&&◌, ◌||◌, leb, List, [], ◌∷◌, ◌++◌, length, get_or, Option, Some, None, inl, inr, refl, sym, ap, ◌∙◌, append_assoc, length-append, codes, arith}
use Rattle.std.specs.Fmt.{decimal}
use Rattle.std.specs.List.{list_all, list_any, flat_map}
use Rattle.std.specs.Str.Parse.{digits_value}
use Rattle.std.specs.Char.{digit_value}
use Rattle.std.specs.Int.{IsInRange}
use Rattle.std.proofs.lemmas.Fmt.{decimal_nonempty, first_decimal, decimal_digit, digits_decimal, digits_value-decimal}
use Rattle.std.proofs.lemmas.Str.Parse.{IsDigitsTest, IsNumeralModel, numerals_by_value}
use Rattle.std.proofs.lemmas.Slice.Eq.{bytes_eq-Decides}
use Rattle.std.proofs.lemmas.Bool.{cases_eq, and_from, ne_eqb, cases_lt, and_parts, or_cases, not-true, true≢false, cases_Bool, eq-eqb, leb-true, le-leb, le-ltb, lt-ltb}
use Rattle.sm_io.specs.Names.{is_name_byte}
use Rattle.sm_io.specs.Words.{is_name, is_word, is_among, has_front, has_end, reserved, limit_fronts, limit_ends}
use Rattle.c99_tree.specs.declared.types.CScalar.{CScalar}
use Rattle.c99_tree.specs.declared.types.CScalar.TheVariants as t
use Rattle.c99_tree.specs.Words.{is_digit, is_same, is_index, is_ring_name, is_element, word_of, scalars}
use Rattle.c99_read.specs.Front.{behind, word, after_word, number, after_number, is_number, number_of, number_at, name_at, ring_name_at, last_split, array_of, many, all_at}

-- ---- tests

pub same_self : (w : List ℕ) → is_same w w ≡ true
same_self w = (bytes_eq-Decides w w).1 refl

pub same_is : (a b : List ℕ) → is_same a b ≡ true → a ≡ b
same_is a b h = (bytes_eq-Decides a b).0 h

pub not_same : (a b : List ℕ) → (a ≡ b → ⊥) → is_same a b ≡ false
not_same a b h = elim (cases_Bool (is_same a b)) [ inl y ↦ absurd (h (same_is a b y)) | inr n ↦ n ]

-- ---- fixed bytes

pub behind_front : (p s : List ℕ) → behind p (p ++ s) ≡ Some s
unfolding behind
behind_front [] s = refl
behind_front (b ∷ p) s = rw (eq-eqb b b refl) (behind_front p s)

pub behind_is : (p s r : List ℕ) → behind p s ≡ Some r → s ≡ p ++ r
unfolding behind
behind_is [] s r h = cc
behind_is (b ∷ p) [] r h = absurd (cc h)
behind_is (b ∷ p) (c ∷ s) r h = elim (cases_eq b c) [ inl e ↦ rw (← e) (ap (λ (x : List ℕ). b ∷ x) (behind_is p s r (rw (eq-eqb b c e) at h))) | inr n ↦ absurd (cc (rw (ne_eqb b c n) at h)) ]

-- ---- words

abbrev pub ends : List ℕ → Bool
ends [] = true
ends (b ∷ bs) = not (is_name_byte b)

word_end : (x : List ℕ) → ends x ≡ true → word x ≡ []
unfolding word
word_end [] h = refl
word_end (b ∷ bs) h = rw (not-true _ h) refl

after_word_end : (x : List ℕ) → ends x ≡ true → after_word x ≡ x
unfolding after_word
after_word_end [] h = refl
after_word_end (b ∷ bs) h = rw (not-true _ h) refl

abbrev pub all_word : List ℕ → Bool
all_word w = list_all is_name_byte w

pub word_front : (w x : List ℕ) → all_word w ≡ true → ends x ≡ true → word (w ++ x) ≡ w
unfolding word
word_front [] x a h = word_end x h
word_front (b ∷ bs) x a h = let p = and_parts (is_name_byte b) (all_word bs) a in rw (p.0) (ap (λ (y : List ℕ). b ∷ y) (word_front bs x p.1 h))

pub after_word_front : (w x : List ℕ) → all_word w ≡ true → ends x ≡ true → after_word (w ++ x) ≡ x
unfolding after_word
after_word_front [] x a h = after_word_end x h
after_word_front (b ∷ bs) x a h = let p = and_parts (is_name_byte b) (all_word bs) a in rw (p.0) (after_word_front bs x p.1 h)

pub all_word-append : (a b : List ℕ) → all_word a ≡ true → all_word b ≡ true → all_word (a ++ b) ≡ true
all_word-append [] b h k = k
all_word-append (x ∷ a) b h k = let p = and_parts (is_name_byte x) (all_word a) h in rw (p.0) (all_word-append a b p.1 k)

pub digit_byte : (b : ℕ) → is_digit b ≡ true → is_name_byte b ≡ true
digit_byte b h = rw h refl

pub digits_word : (ds : List ℕ) → list_all is_digit ds ≡ true → all_word ds ≡ true
digits_word [] h = refl
digits_word (b ∷ bs) h = let p = and_parts (is_digit b) (list_all is_digit bs) h in and_from (is_name_byte b) (all_word bs) (digit_byte b p.0) (digits_word bs p.1)

pub name_word : (x : List ℕ) → is_name x ≡ true → all_word x ≡ true
name_word x h = (and_parts _ _ (and_parts (is_word x) _ h).0).1

pub index_word : (x : List ℕ) → is_index x ≡ true → all_word x ≡ true
index_word [] h = refl
index_word (b ∷ bs) h = digits_word (b ∷ bs) (and_parts (leb 49 b) (list_all is_digit (b ∷ bs)) (and_parts _ _ h).0).1

pub ring_word : (r : List ℕ) → is_ring_name r ≡ true → all_word r ≡ true
ring_word r h = elim (or_cases (is_name r) (is_index r) h) [ inl a ↦ name_word r a | inr b ↦ index_word r b ]

pub any_word : (x : List ℕ) (all : List CScalar) → list_any (λ s. is_same (word_of s) x) all ≡ true → (s : CScalar) × (x ≡ word_of s)
any_word x [] h = absurd (cc h)
any_word x (s ∷ all) h = elim (or_cases (is_same (word_of s) x) _ h) [ inl a ↦ (s, sym (same_is (word_of s) x a)) | inr b ↦ any_word x all b ]

scalar_word : (s : CScalar) → all_word (word_of s) ≡ true
scalar_word t.Bool = refl
scalar_word _ = refl

pub element_word : (x : List ℕ) → is_element x ≡ true → all_word x ≡ true
element_word x h = elim (or_cases (is_name x) _ h) [ inl a ↦ name_word x a | inr b ↦ let p = any_word x scalars b in rw p.1 (scalar_word p.0) ]

-- a name doesn't begin with cp_
front_kept : (w a b c : Bool) → (w && not (a || true || b || c)) ≡ false
front_kept false a b c = refl
front_kept true true b c = refl
front_kept true false b c = refl

kept_name : (r : List ℕ) → is_name (codes "cp_" ++ r) ≡ false
kept_name r = let s : List ℕ = codes "cp_" ++ r in front_kept (is_word s) (is_among reserved s) (has_end (codes "_t" ∷ []) s) (has_front limit_fronts s && has_end limit_ends s)

pub name_no_cp : (p x : List ℕ) → is_name x ≡ true → behind (codes "cp_" ++ p) x ≡ None
name_no_cp p x h = found_none (behind (codes "cp_" ++ p) x) (λ r e. both (is_name x) h (ap is_name (behind_is (codes "cp_" ++ p) x r e) ∙ kept_name (p ++ r)))
  where
    both : (b : Bool) → b ≡ true → b ≡ false → ⊥
    both b h g = true≢false (sym h ∙ g)

    found_none : (o : Option (List ℕ)) → ((r : List ℕ) → o ≡ Some r → ⊥) → o ≡ None
    found_none None f = refl
    found_none (Some r) f = absurd (f r refl)

kept_step : is_name (codes "step") ≡ false
unfolding reserved limit_fronts limit_ends
kept_step = refl

pub not_step : (x : List ℕ) → is_name x ≡ true → is_same x (codes "step") ≡ false
not_step x h = not_same x (codes "step") (λ e. true≢false (sym h ∙ ap is_name e ∙ kept_step))

-- ---- numbers

pub in_range : (c : ℕ) → is_digit c ≡ true → IsInRange 48 57 c
in_range c h = let p = and_parts (leb 48 c) (leb c 57) h in (leb-true 48 c p.0, leb-true c 57 p.1)

from_range : (c : ℕ) → IsInRange 48 57 c → is_digit c ≡ true
from_range c h = and_from (leb 48 c) (leb c 57) (le-leb 48 c h.0) (le-leb c 57 h.1)

pub tells : IsDigitsTest (λ ds. list_all is_digit ds ≡ true)
tells = record {
  empty = refl;
  parts = λ c cs h. let p = and_parts (is_digit c) (list_all is_digit cs) h in (in_range c p.0, p.1);
  more = λ c cs r h. and_from (is_digit c) (list_all is_digit cs) (from_range c r) h;
}

abbrev pub numerals : IsNumeralModel (λ ds. list_all is_digit ds ≡ true) (digits_value 10)
numerals = numerals_by_value (λ ds. list_all is_digit ds ≡ true) tells

pub decimal_digits : (n : ℕ) → n < 2 ^ 64 → list_all is_digit (decimal n) ≡ true
decimal_digits n h = digits_decimal numerals n h

pub decimal_value : (n : ℕ) → n < 2 ^ 64 → digits_value 10 (decimal n) ≡ n
decimal_value n h = digits_value-decimal numerals n h

pub decimal_word : (n : ℕ) → n < 2 ^ 64 → all_word (decimal n) ≡ true
decimal_word n h = digits_word (decimal n) (decimal_digits n h)

abbrev pub ends_number : List ℕ → Bool
ends_number [] = true
ends_number (b ∷ bs) = not (is_digit b)

number_end : (x : List ℕ) → ends_number x ≡ true → number x ≡ []
unfolding number
number_end [] h = refl
number_end (b ∷ bs) h = rw (not-true _ h) refl

after_number_end : (x : List ℕ) → ends_number x ≡ true → after_number x ≡ x
unfolding after_number
after_number_end [] h = refl
after_number_end (b ∷ bs) h = rw (not-true _ h) refl

pub number_front : (w x : List ℕ) → list_all is_digit w ≡ true → ends_number x ≡ true → number (w ++ x) ≡ w
unfolding number
number_front [] x a h = number_end x h
number_front (b ∷ bs) x a h = let p = and_parts (is_digit b) (list_all is_digit bs) a in rw (p.0) (ap (λ (y : List ℕ). b ∷ y) (number_front bs x p.1 h))

pub after_number_front : (w x : List ℕ) → list_all is_digit w ≡ true → ends_number x ≡ true → after_number (w ++ x) ≡ x
unfolding after_number
after_number_front [] x a h = after_number_end x h
after_number_front (b ∷ bs) x a h = let p = and_parts (is_digit b) (list_all is_digit bs) a in rw (p.0) (after_number_front bs x p.1 h)

number_is : (ds : List ℕ) → 0 < length ds → (get_or ds 0 0 ≡ 48 → length ds ≡ 1) → is_number ds ≡ true
number_is [] h k = absurd (omega arith)
number_is (d ∷ []) h k = refl
number_is (d ∷ e ∷ ds) h k = ap not (ne_eqb d 48 (λ q. let one : suc (suc (length ds)) ≡ 1 = k q in absurd (omega arith)))

decimal_is : (n : ℕ) → n < 2 ^ 64 → is_number (decimal n) ≡ true
decimal_is n h = number_is (decimal n) (decimal_nonempty n h) (λ q. elim (cases_lt 0 n) [ inl p ↦ let f : 48 < get_or (decimal n) 0 0 = first_decimal n p h in absurd (omega arith) | inr z ↦ let zero-is : n ≡ 0 = omega arith in rw zero-is (ap length (decimal_digit 0 (omega arith))) ])

pub number_of-decimal : (most n : ℕ) → n < 2 ^ 64 → n ≤ most → number_of most (decimal n) ≡ Some n
unfolding number_of
number_of-decimal most n h k = rw (decimal_digits n h, decimal_is n h, decimal_value n h, le-leb n most k) refl

pub number_finds : (n : ℕ) (x : List ℕ) → leb n 4294967295 ≡ true → ends x ≡ true → number_at (decimal n ++ x) ≡ Some (n, x)
unfolding number_at
number_finds n x h e =
    let low : n ≤ 4294967295 = leb-true n 4294967295 h in
    let small : n < 2 ^ 64 = omega arith in
    rw (word_front (decimal n) x (decimal_word n small) e, after_word_front (decimal n) x (decimal_word n small) e, number_of-decimal 4294967295 n small low) refl

-- ---- names

pub name_finds : (n x : List ℕ) → is_name n ≡ true → ends x ≡ true → name_at (n ++ x) ≡ Some (n, x)
unfolding name_at
name_finds n x h e = rw (word_front n x (name_word n h) e, after_word_front n x (name_word n h) e, h) refl

pub ring_name_finds : (n x : List ℕ) → is_ring_name n ≡ true → ends x ≡ true → ring_name_at (n ++ x) ≡ Some (n, x)
unfolding ring_name_at
ring_name_finds n x h e = rw (word_front n x (ring_word n h) e, after_word_front n x (ring_word n h) e, h) refl

digits_split : (ds : List ℕ) → list_all is_digit ds ≡ true → last_split ds ≡ None
unfolding last_split
digits_split [] h = refl
digits_split (b ∷ bs) h = let p = and_parts (is_digit b) (list_all is_digit bs) h in let r = in_range b p.0 in rw (digits_split bs p.1, ne_eqb b 95 (λ e. omega (arith, r))) refl

split_front : (x ds : List ℕ) → list_all is_digit ds ≡ true → last_split (x ++ (95 ∷ ds)) ≡ Some (x, ds)
unfolding last_split
split_front [] ds h = rw (digits_split ds h) refl
split_front (b ∷ x) ds h = rw (split_front x ds h) refl

pub array_of-is : (x : List ℕ) (n : ℕ) → is_element x ≡ true → leb n 4294967295 ≡ true → array_of (x ++ codes "_" ++ decimal n) ≡ Some (x, n)
unfolding array_of
array_of-is x n h k =
    let low : n ≤ 4294967295 = leb-true n 4294967295 k in
    let small : n < 2 ^ 64 = omega arith in
    rw (append_assoc, split_front x (decimal n) (decimal_digits n small), h, number_of-decimal 4294967295 n small low) refl

-- ---- lines

-- this reader finds each of these that has a spelling, and this test tells that one begins
pub record ReadsLines {A : Type 0} (test after : List ℕ → Bool) (r : List ℕ → Option (A × List ℕ)) (f : A → List ℕ) (ok : A → Bool) : Type 0 where
  pub starts : (a : A) (y : List ℕ) → ok a ≡ true → test (f a ++ y) ≡ true
  pub finds : (a : A) (y : List ℕ) → ok a ≡ true → after y ≡ true → r (f a ++ y) ≡ Some (a, y)
  pub goes : (a : A) (y : List ℕ) → ok a ≡ true → after (f a ++ y) ≡ true
  pub long : (a : A) → ok a ≡ true → 0 < length (f a)

lines_go : {A : Type 0} {test after : List ℕ → Bool} {r : List ℕ → Option (A × List ℕ)} {f : A → List ℕ} {ok : A → Bool} →
    ReadsLines test after r f ok → (xs : List A) (x : List ℕ) → after x ≡ true → list_all ok xs ≡ true → after (flat_map f xs ++ x) ≡ true
lines_go l [] x g h = g
lines_go {after = after} {f = f} {ok = ok} l (a ∷ xs) x g h = rw (append_assoc (f a) (flat_map f xs) x) (l.goes a (flat_map f xs ++ x) (and_parts (ok a) (list_all ok xs) h).0)

pub many_finds : {A : Type 0} {test after : List ℕ → Bool} {r : List ℕ → Option (A × List ℕ)} {f : A → List ℕ} {ok : A → Bool} →
    ReadsLines test after r f ok → (xs : List A) (x : List ℕ) (n : ℕ) → test x ≡ false → after x ≡ true → list_all ok xs ≡ true → length xs < n
    → many test r n (flat_map f xs ++ x) ≡ Some (xs, x)
unfolding many
many_finds l xs x zero t g h k = absurd (omega arith)
many_finds l [] x (suc n) t g h k = rw t refl
many_finds {f = f} {ok = ok} l (a ∷ xs) x (suc n) t g h k =
    let p = and_parts (ok a) (list_all ok xs) h in
    rw (append_assoc (f a) (flat_map f xs) x, l.starts a (flat_map f xs ++ x) p.0, l.finds a (flat_map f xs ++ x) p.0 (lines_go l xs x g p.1), many_finds l xs x n t g p.1 (omega arith)) refl

count_lines : {A : Type 0} (f : A → List ℕ) (ok : A → Bool) → ((a : A) → ok a ≡ true → 0 < length (f a)) → (xs : List A) → list_all ok xs ≡ true → length xs ≤ length (flat_map f xs)
count_lines f ok h [] g = omega arith
count_lines f ok h (a ∷ xs) g = let p = and_parts (ok a) (list_all ok xs) g in omega (arith, length-append (f a) (flat_map f xs), count_lines f ok h xs p.1, h a p.0)

pub all_find : {A : Type 0} {test after : List ℕ → Bool} {r : List ℕ → Option (A × List ℕ)} {f : A → List ℕ} {ok : A → Bool} →
    ReadsLines test after r f ok → (xs : List A) (x : List ℕ) → 0 < length x → test x ≡ false → after x ≡ true → list_all ok xs ≡ true → all_at test r (flat_map f xs ++ x) ≡ Some (xs, x)
all_find {f = f} {ok = ok} l xs x k t g h =
    many_finds l xs x (length (flat_map f xs ++ x)) t g h (omega (arith, length-append (flat_map f xs) x, count_lines f ok l.long xs h))

-- where nothing is asked of what follows
abbrev pub anything : List ℕ → Bool
anything x = true

-- each of some digits is one
pub digit_among : (ds : List ℕ) (i : ℕ) → list_all is_digit ds ≡ true → i < length ds → is_digit (get_or ds i 0) ≡ true
digit_among [] i h k = absurd (omega arith)
digit_among (d ∷ ds) zero h k = (and_parts (is_digit d) (list_all is_digit ds) h).0
digit_among (d ∷ ds) (suc i) h k = digit_among ds i (and_parts (is_digit d) (list_all is_digit ds) h).1 (omega arith)

pub digit_worth : (c : ℕ) → is_digit c ≡ true → digit_value c ≡ c - 48
digit_worth c h = let r = in_range c h in rw (le-ltb c 48 (omega (arith, r)), lt-ltb c 58 (omega (arith, r))) refl
