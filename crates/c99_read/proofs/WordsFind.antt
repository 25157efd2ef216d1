-- A constant is read as the words of its value.
use Rattle.std.proofs.Common.{◌≡◌, ℕ, zero, suc, ◌+◌, ◌-◌, ◌^◌, ◌<◌, ◌≤◌, max, Bool, true, ◌&&◌, ◌||◌, leb, ltb, List, [], ◌∷◌, ◌++◌, length, Option, Some, None, inl, inr, refl, sym, ap, subst, ◌∙◌, append_assoc, codes, arith, ℤ, pos, negsuc}
use Rattle.std.specs.Prelude.{◌-ℤ◌, if◌then◌else◌}
use Rattle.std.specs.Fmt.{decimal}
use Rattle.std.specs.List.{list_all}
use Rattle.std.specs.Option.{option_map, option_and_then}
use Rattle.std.proofs.lemmas.Fmt.{decimal_nonempty}
use Rattle.std.proofs.lemmas.Option.{cond_some}
use Rattle.std.proofs.lemmas.Bool.{and_parts, or_cases, ne_eqb, le-leb, lt-leb, lt-ltb, leb-true, ltb-true, cases_eq, cond_both}
use Rattle.c99_tree.specs.declared.types.CScalar.{CScalar}
use Rattle.c99_tree.specs.declared.types.CScalar.TheVariants as t
use Rattle.c99_tree.specs.CTypes.{Num, num, is_signed}
use Rattle.c99_tree.specs.Words.{is_digit}
use Rattle.c99_tree.specs.Values.{Value, Values, number, struct_of, array_of, no_value, and_value, values, is_word, number_of_word, Shape, Shapes, scalar, members, elements, no_shape, and_shape, filled, filled_all, repeated}
use Rattle.c99_tree.specs.Spelling.{constant, constants, constant_height, highest_constant, signed_constant, number_constant, number_height}
use Rattle.c99_read.specs.Front.{behind}
use Rattle.c99_read.specs.WordsAt.{FoundWords, tailed_at, unsigned_at, signed_at, word_at, words_then, times_at, between, words_at, all_words_at}
use Rattle.c99_read.proofs.FrontFinds.{same_self, behind_front, ends, all_word, word_front, after_word_front, all_word-append, decimal_digits, decimal_word, ends_number, number_front, after_number_front, number_of-decimal, in_range}

-- ---- scalars

tailed_finds : (tail : List ℕ) (most n : ℕ) (x : List ℕ) → all_word tail ≡ true → ends_number tail ≡ true → n ≤ most → n < 2 ^ 64 → ends x ≡ true → tailed_at tail most (decimal n ++ tail ++ x) ≡ Some (n, x)
unfolding tailed_at
tailed_finds tail most n x a e low small h =
    let w = all_word-append (decimal n) tail (decimal_word n small) a in
    rw (word_front (decimal n ++ tail) x w h, after_word_front (decimal n ++ tail) x w h, number_front (decimal n) tail (decimal_digits n small) e, after_number_front (decimal n) tail (decimal_digits n small) e, same_self tail, number_of-decimal most n small low) refl

unsigned_finds : (tail : List ℕ) (most n : ℕ) (x : List ℕ) → all_word tail ≡ true → ends_number tail ≡ true → n ≤ most → n < 2 ^ 64 → ends x ≡ true → unsigned_at tail most (decimal n ++ tail ++ x) ≡ Some (n ∷ [], x)
unsigned_finds tail most n x a e low small h = rw (tailed_finds tail most n x a e low small h) refl

no_minus : (ds x : List ℕ) → 0 < length ds → list_all is_digit ds ≡ true → behind (codes "((-") (ds ++ x) ≡ None
unfolding behind
no_minus [] x h a = absurd (omega arith)
no_minus (d ∷ ds) x h a = let r = in_range d (and_parts (is_digit d) (list_all is_digit ds) a).0 in rw (ne_eqb 40 d (λ e. omega (arith, r))) refl

positive_finds : (depth : ℕ) (tail : List ℕ) (most n : ℕ) (x : List ℕ) → all_word tail ≡ true → ends_number tail ≡ true → n ≤ most → n < 2 ^ 64 → ends x ≡ true → signed_at depth tail most (decimal n ++ tail ++ x) ≡ Some (n ∷ [], x)
positive_finds depth tail most n x a e low small h =
    rw (append_assoc (decimal n) tail x, no_minus (decimal n) (tail ++ x) (decimal_nonempty n small) (decimal_digits n small), ← append_assoc (decimal n) tail x, tailed_finds tail most n x a e low small h) refl

negative_finds : (depth : ℕ) (tail : List ℕ) (most n : ℕ) (x : List ℕ) → all_word tail ≡ true → ends_number tail ≡ true → n ≤ most → n < 2 ^ 64 → 2 ≤ depth → signed_at depth tail most (signed_constant tail (negsuc n) ++ x) ≡ Some ((2 ^ 64 - 1 - n) ∷ [], x)
unfolding behind
negative_finds depth tail most n x a e low small deep =
    let ending : List ℕ = codes ") - 1" ++ tail ++ codes ")" in
    let regroup : signed_constant tail (negsuc n) ++ x ≡ codes "((-" ++ (decimal n ++ tail ++ ((codes ") - 1" ++ tail ++ codes ")") ++ x)) = simp append_assoc in
    ap (signed_at depth tail most) regroup
    ∙ rw (le-leb 2 depth deep, tailed_finds tail most n (ending ++ x) a e low small refl, behind_front ending x) refl

-- the number that is w less than 2^64
below : (w : ℕ) → w < 2 ^ 64 → pos w -ℤ pos (2 ^ 64) ≡ negsuc (2 ^ 64 - 1 - w)
below w h = rw (lt-ltb w (2 ^ 64) h) (ap negsuc (omega arith))

abbrev pub number_by : CScalar → ℕ → Bool → ℤ
number_by ty w b = (if b then num ty (pos w -ℤ pos (2 ^ 64)) else num ty (pos w)).n

abbrev pub signed_number : CScalar → ℕ → ℤ
signed_number ty w = number_by ty w (leb (2 ^ 63) w)

abbrev is_signed_word : ℕ → ℕ → Bool
is_signed_word half w = ltb w half || (leb (2 ^ 64 - half) w && ltb w (2 ^ 64))

pub number_low : (ty : CScalar) (w : ℕ) → w < 2 ^ 63 → signed_number ty w ≡ pos w
number_low ty w h = ap (number_by ty w) (lt-leb (2 ^ 63) w h)

pub number_high : (ty : CScalar) (w : ℕ) → 2 ^ 63 ≤ w → w < 2 ^ 64 → signed_number ty w ≡ negsuc (2 ^ 64 - 1 - w)
number_high ty w h k = ap (number_by ty w) (le-leb (2 ^ 63) w h) ∙ below w k

signed_finds : (ty : CScalar) (tail : List ℕ) (half depth w : ℕ) (x : List ℕ) → all_word tail ≡ true → ends_number tail ≡ true → half ≤ 2 ^ 63 → is_signed_word half w ≡ true
    → number_height (signed_number ty w) ≤ depth → ends x ≡ true → signed_at depth tail (half - 1) (signed_constant tail (signed_number ty w) ++ x) ≡ Some (w ∷ [], x)
signed_finds ty tail half depth w x a e low is deep h = elim (or_cases (ltb w half) (leb (2 ^ 64 - half) w && ltb w (2 ^ 64)) is) [
  | inl p ↦
      let l = ltb-true w half p in
      subst (λ (z : ℤ). signed_at depth tail (half - 1) (signed_constant tail z ++ x) ≡ Some (w ∷ [], x)) (sym (number_low ty w (omega arith)))
      (positive_finds depth tail (half - 1) w x a e (omega arith) (omega arith) h)
  | inr q ↦
      let r = and_parts (leb (2 ^ 64 - half) w) (ltb w (2 ^ 64)) q in
      let g = leb-true (2 ^ 64 - half) w r.0 in
      let l = ltb-true w (2 ^ 64) r.1 in
      let is-n = number_high ty w (omega arith) l in
      let deep' : 2 ≤ depth = subst (λ (z : ℤ). number_height z ≤ depth) is-n deep in
      let back : 2 ^ 64 - 1 - (2 ^ 64 - 1 - w) ≡ w = omega arith in
      subst (λ (z : ℤ). signed_at depth tail (half - 1) (signed_constant tail z ++ x) ≡ Some (w ∷ [], x)) (sym is-n)
      (negative_finds depth tail (half - 1) (2 ^ 64 - 1 - w) x a e (omega arith) (omega arith) deep' ∙ rw back refl)
]

-- this reader finds these words in this text
pub record Finds (r : List ℕ → FoundWords) (txt ws : List ℕ) : Type 0 where
  pub finds : (x : List ℕ) → ends x ≡ true → r (txt ++ x) ≡ Some (ws, x)

scalar_finds : (ty : CScalar) (depth w : ℕ) → is_word ty w ≡ true → number_height (number_of_word ty w).n ≤ depth → Finds (word_at depth ty) (number_constant ty (number_of_word ty w).n) (w ∷ [])
unfolding word_at
scalar_finds t.Bool depth w h d = elim (cases_eq w 0) [
  | inl z ↦ subst (λ (v : ℕ). Finds (word_at depth t.Bool) (number_constant t.Bool (pos v)) (v ∷ [])) (sym z) (record { finds = λ x e. rw (word_front (codes "false") x refl e, after_word_front (codes "false") x refl e) refl })
  | inr n ↦
      let l = ltb-true w 2 h in
      let one : w ≡ 1 = omega (arith, n) in
      subst (λ (v : ℕ). Finds (word_at depth t.Bool) (number_constant t.Bool (pos v)) (v ∷ [])) (sym one) (record { finds = λ x e. rw (word_front (codes "true") x refl e, after_word_front (codes "true") x refl e) refl })
]
scalar_finds t.I8 depth w h d = record { finds = λ x e. signed_finds t.I8 [] (2 ^ 7) depth w x refl refl (omega arith) h d e }
scalar_finds t.I16 depth w h d = record { finds = λ x e. signed_finds t.I16 [] (2 ^ 15) depth w x refl refl (omega arith) h d e }
scalar_finds t.I32 depth w h d = record { finds = λ x e. signed_finds t.I32 [] (2 ^ 31) depth w x refl refl (omega arith) h d e }
scalar_finds t.I64 depth w h d = record { finds = λ x e. signed_finds t.I64 (codes "LL") (2 ^ 63) depth w x refl refl (omega arith) h d e }
scalar_finds t.U8 depth w h d = record { finds = λ x e. unsigned_finds (codes "U") (2 ^ 8 - 1) w x refl refl (omega (arith, ltb-true w (2 ^ 8) h)) (omega (arith, ltb-true w (2 ^ 8) h)) e }
scalar_finds t.U16 depth w h d = record { finds = λ x e. unsigned_finds (codes "U") (2 ^ 16 - 1) w x refl refl (omega (arith, ltb-true w (2 ^ 16) h)) (omega (arith, ltb-true w (2 ^ 16) h)) e }
scalar_finds t.U32 depth w h d = record { finds = λ x e. unsigned_finds (codes "U") (2 ^ 32 - 1) w x refl refl (omega (arith, ltb-true w (2 ^ 32) h)) (omega (arith, ltb-true w (2 ^ 32) h)) e }
scalar_finds t.U64 depth w h d = record { finds = λ x e. unsigned_finds (codes "ULL") (2 ^ 64 - 1) w x refl refl (omega (arith, ltb-true w (2 ^ 64) h)) (omega (arith, ltb-true w (2 ^ 64) h)) e }

-- ---- values

-- what a value takes of the words, and that it is read as these
pub record Spent (r : List ℕ → FoundWords) (txt ws rest : List ℕ) : Type 0 where
  pub front : List ℕ
  pub parts : ws ≡ front ++ rest
  pub reads : Finds r txt front

pub mapped : {A B : Type 0} (f : A → B) (o : Option A) (y : B) → option_map f o ≡ Some y → (a : A) × (o ≡ Some a) × (f a ≡ y)
mapped f None y h = absurd (cc h)
mapped f (Some a) y h = (a, refl, cc h)

pub chained : {A B : Type 0} (f : A → Option B) (o : Option A) (y : B) → option_and_then f o ≡ Some y → (a : A) × (o ≡ Some a) × (f a ≡ Some y)
chained f None y h = absurd (cc h)
chained f (Some a) y h = (a, refl, h)

pub same_some : {A : Type 0} (x y : A) → Some x ≡ Some y → x ≡ y
same_some x y h = cc h

constants_end : (vs : Values) (x : List ℕ) → ends x ≡ true → ends (constants (codes ", ") vs ++ x) ≡ true
constants_end no_value x h = h
constants_end (and_value v vs) x h = refl

-- a value and then others
then_finds : (first others : List ℕ → FoundWords) (before : List ℕ) (v : Value) (vs : Values) (ws mid rest : List ℕ)
    → Spent first (constant v) ws mid → Spent others (constants (codes ", ") vs) mid rest → Spent (words_then first others before) (constants before (and_value v vs)) ws rest
then_finds first others before v vs ws mid rest a b = record {
  front = a.front ++ b.front;
  parts = a.parts ∙ ap (λ (y : List ℕ). a.front ++ y) b.parts ∙ sym (append_assoc a.front b.front rest);
  reads = record {
    finds = λ x h.
        let tailed : List ℕ = constants (codes ", ") vs ++ x in
        let regroup : constants before (and_value v vs) ++ x ≡ before ++ (constant v ++ (constants (codes ", ") vs ++ x)) = simp append_assoc in
        ap (words_then first others before) regroup
        ∙ rw (behind_front before (constant v ++ tailed), a.reads.finds tailed (constants_end vs x h), b.reads.finds x h) refl;
  };
}

pub word_type : (ty : CScalar) (w : ℕ) → (number_of_word ty w).ty ≡ ty
word_type ty w = cond_both (is_signed ty && leb (2 ^ 63) w) (num ty (pos w -ℤ pos (2 ^ 64))) (num ty (pos w)) (λ (x : Num). x.ty ≡ ty) (λ e. refl) (λ e. refl)

scalar_spent : (ty : CScalar) (depth : ℕ) (ws : List ℕ) (v : Value) (rest : List ℕ) → filled (scalar ty) ws ≡ Some (v, rest) → constant_height v ≤ depth → Spent (words_at depth (scalar ty)) (constant v) ws rest
unfolding words_at
scalar_spent ty depth [] v rest h d = absurd (cc h)
scalar_spent ty depth (w ∷ ws) v rest h d =
    let c = cond_some (is_word ty w) (number (number_of_word ty w), ws) (v, rest) h in
    let v-is : number (number_of_word ty w) ≡ v = ap (λ (x : Value × List ℕ). x.0) c.1 in
    let rest-is : ws ≡ rest = ap (λ (x : Value × List ℕ). x.1) c.1 in
    let deep : constant_height (number (number_of_word ty w)) ≤ depth = subst (λ (u : Value). constant_height u ≤ depth) (sym v-is) d in
    let found = scalar_finds ty depth w c.0 deep in
    let typed = subst (λ (k : CScalar). Finds (word_at depth ty) (number_constant k (number_of_word ty w).n) (w ∷ [])) (sym (word_type ty w)) found in
    subst (λ (u : Value). Spent (words_at depth (scalar ty)) (constant u) (w ∷ ws) rest) v-is
    (record { front = w ∷ []; parts = ap (λ (y : List ℕ). w ∷ y) rest-is; reads = typed })

-- what stands between two fixed texts
between_finds : (open' close : List ℕ) (f : List ℕ → FoundWords) (txt ws : List ℕ) → ((x : List ℕ) → ends (close ++ x) ≡ true) → Finds f txt ws → Finds (between open' close f) (open' ++ txt ++ close) ws
between_finds open' close f txt ws e r = record {
  finds = λ x h.
      let regroup : open' ++ txt ++ close ++ x ≡ open' ++ (txt ++ (close ++ x)) = simp append_assoc in
      ap (between open' close f) regroup ∙ rw (behind_front open' (txt ++ (close ++ x)), r.finds (close ++ x) (e x), behind_front close x) refl;
}

members_spent : (depth : ℕ) (shapes : Shapes) (vs : Values) (ws rest : List ℕ) → highest_constant vs + 1 ≤ depth
    → ((d : ℕ) → highest_constant vs ≤ d → Spent (all_words_at d shapes []) (constants [] vs) ws rest) → Spent (words_at depth (members shapes)) (constant (struct_of vs)) ws rest
unfolding words_at
members_spent zero shapes vs ws rest h f = absurd (omega arith)
members_spent (suc d) shapes vs ws rest h f =
    let s = f d (omega arith) in
    record { front = s.front; parts = s.parts; reads = between_finds (codes "{ ") (codes " }") (all_words_at d shapes []) (constants [] vs) s.front (λ x. refl) s.reads }

elements_spent : (depth n : ℕ) (shape : Shape) (vs : Values) (ws rest : List ℕ) → highest_constant vs + 2 ≤ depth
    → ((d : ℕ) → highest_constant vs ≤ d → Spent (times_at n (words_at d shape) []) (constants [] vs) ws rest) → Spent (words_at depth (elements n shape)) (constant (array_of vs)) ws rest
unfolding words_at
elements_spent zero n shape vs ws rest h f = absurd (omega arith)
elements_spent (suc zero) n shape vs ws rest h f = absurd (omega arith)
elements_spent (suc (suc d)) n shape vs ws rest h f =
    let s = f d (omega arith) in
    record { front = s.front; parts = s.parts; reads = between_finds (codes "{ { ") (codes " } }") (times_at n (words_at d shape) []) (constants [] vs) s.front (λ x. refl) s.reads }

nothing_spent : (f : List ℕ → FoundWords) (ws : List ℕ) → ((x : List ℕ) → f x ≡ Some ([], x)) → Spent f [] ws ws
nothing_spent f ws h = record { front = []; parts = refl; reads = record { finds = λ x e. h x } }

pub times_spent : (n depth : ℕ) (shape : Shape) (before ws : List ℕ) (vs : List Value) (rest : List ℕ)
    → ((ws : List ℕ) (v : Value) (rest : List ℕ) → filled shape ws ≡ Some (v, rest) → constant_height v ≤ depth → Spent (words_at depth shape) (constant v) ws rest)
    → repeated n (filled shape) ws ≡ Some (vs, rest) → highest_constant (values vs) ≤ depth → Spent (times_at n (words_at depth shape) before) (constants before (values vs)) ws rest
unfolding times_at
times_spent zero depth shape before ws vs rest one h d =
    let vs-is : [] ≡ vs = ap (λ (x : List Value × List ℕ). x.0) (same_some ([], ws) (vs, rest) h) in
    let rest-is : ws ≡ rest = ap (λ (x : List Value × List ℕ). x.1) (same_some ([], ws) (vs, rest) h) in
    subst (λ (us : List Value). Spent (times_at zero (words_at depth shape) before) (constants before (values us)) ws rest) vs-is
    (subst (λ (r : List ℕ). Spent (times_at zero (words_at depth shape) before) [] ws r) rest-is (nothing_spent (times_at zero (words_at depth shape) before) ws (λ x. refl)))
times_spent (suc n) depth shape before ws vs rest one h d =
    let a = chained (λ (a : Value × List ℕ). option_map (λ (b : List Value × List ℕ). (a.0 ∷ b.0, b.1)) (repeated n (filled shape) a.1)) (filled shape ws) (vs, rest) h in
    let b = mapped (λ (b : List Value × List ℕ). (a.0.0 ∷ b.0, b.1)) (repeated n (filled shape) a.0.1) (vs, rest) a.2 in
    let vs-is : a.0.0 ∷ b.0.0 ≡ vs = ap (λ (x : List Value × List ℕ). x.0) b.2 in
    let rest-is : b.0.1 ≡ rest = ap (λ (x : List Value × List ℕ). x.1) b.2 in
    let deep : max (constant_height a.0.0) (highest_constant (values b.0.0)) ≤ depth = subst (λ (us : List Value). highest_constant (values us) ≤ depth) (sym vs-is) d in
    let first = one ws a.0.0 a.0.1 a.1 (omega arith) in
    let others = times_spent n depth shape (codes ", ") a.0.1 b.0.0 b.0.1 one b.1 (omega arith) in
    subst (λ (us : List Value). Spent (times_at (suc n) (words_at depth shape) before) (constants before (values us)) ws rest) vs-is
    (subst (λ (r : List ℕ). Spent (times_at (suc n) (words_at depth shape) before) (constants before (values (a.0.0 ∷ b.0.0))) ws r) rest-is
    (then_finds (words_at depth shape) (times_at n (words_at depth shape) (codes ", ")) before a.0.0 (values b.0.0) ws a.0.1 b.0.1 first others))

mutual
  unfolding words_at

  pub value_spent : (shape : Shape) (depth : ℕ) (ws : List ℕ) (v : Value) (rest : List ℕ) → filled shape ws ≡ Some (v, rest) → constant_height v ≤ depth → Spent (words_at depth shape) (constant v) ws rest
  value_spent (scalar ty) depth ws v rest h d = scalar_spent ty depth ws v rest h d
  value_spent (members shapes) depth ws v rest h d =
      let a = mapped (λ (a : Values × List ℕ). (struct_of a.0, a.1)) (filled_all shapes ws) (v, rest) h in
      let v-is : struct_of a.0.0 ≡ v = ap (λ (x : Value × List ℕ). x.0) a.2 in
      let rest-is : a.0.1 ≡ rest = ap (λ (x : Value × List ℕ). x.1) a.2 in
      let deep : highest_constant a.0.0 + 1 ≤ depth = subst (λ (u : Value). constant_height u ≤ depth) (sym v-is) d in
      subst (λ (u : Value). Spent (words_at depth (members shapes)) (constant u) ws rest) v-is
      (subst (λ (r : List ℕ). Spent (words_at depth (members shapes)) (constant (struct_of a.0.0)) ws r) rest-is
      (members_spent depth shapes a.0.0 ws a.0.1 deep (λ e k. all_spent shapes e [] ws a.0.0 a.0.1 a.1 k)))
  value_spent (elements n shape) depth ws v rest h d =
      let a = mapped (λ (a : List Value × List ℕ). (array_of (values a.0), a.1)) (repeated n (filled shape) ws) (v, rest) h in
      let v-is : array_of (values a.0.0) ≡ v = ap (λ (x : Value × List ℕ). x.0) a.2 in
      let rest-is : a.0.1 ≡ rest = ap (λ (x : Value × List ℕ). x.1) a.2 in
      let deep : highest_constant (values a.0.0) + 2 ≤ depth = subst (λ (u : Value). constant_height u ≤ depth) (sym v-is) d in
      subst (λ (u : Value). Spent (words_at depth (elements n shape)) (constant u) ws rest) v-is
      (subst (λ (r : List ℕ). Spent (words_at depth (elements n shape)) (constant (array_of (values a.0.0))) ws r) rest-is
      (elements_spent depth n shape (values a.0.0) ws a.0.1 deep (λ e k. times_spent n e shape [] ws a.0.0 a.0.1 (λ ws v rest g l. value_spent shape e ws v rest g l) a.1 k)))

  pub all_spent : (shapes : Shapes) (depth : ℕ) (before ws : List ℕ) (vs : Values) (rest : List ℕ) → filled_all shapes ws ≡ Some (vs, rest) → highest_constant vs ≤ depth → Spent (all_words_at depth shapes before) (constants before vs) ws rest
  all_spent no_shape depth before ws vs rest h d =
      let vs-is : no_value ≡ vs = ap (λ (x : Values × List ℕ). x.0) (same_some (no_value, ws) (vs, rest) h) in
      let rest-is : ws ≡ rest = ap (λ (x : Values × List ℕ). x.1) (same_some (no_value, ws) (vs, rest) h) in
      subst (λ (us : Values). Spent (all_words_at depth no_shape before) (constants before us) ws rest) vs-is
      (subst (λ (r : List ℕ). Spent (all_words_at depth no_shape before) [] ws r) rest-is (nothing_spent (all_words_at depth no_shape before) ws (λ x. refl)))
  all_spent (and_shape shape shapes) depth before ws vs rest h d =
      let a = chained (λ (a : Value × List ℕ). option_map (λ (b : Values × List ℕ). (and_value a.0 b.0, b.1)) (filled_all shapes a.1)) (filled shape ws) (vs, rest) h in
      let b = mapped (λ (b : Values × List ℕ). (and_value a.0.0 b.0, b.1)) (filled_all shapes a.0.1) (vs, rest) a.2 in
      let vs-is : and_value a.0.0 b.0.0 ≡ vs = ap (λ (x : Values × List ℕ). x.0) b.2 in
      let rest-is : b.0.1 ≡ rest = ap (λ (x : Values × List ℕ). x.1) b.2 in
      let deep : max (constant_height a.0.0) (highest_constant b.0.0) ≤ depth = subst (λ (us : Values). highest_constant us ≤ depth) (sym vs-is) d in
      let first = value_spent shape depth ws a.0.0 a.0.1 a.1 (omega arith) in
      let others = all_spent shapes depth (codes ", ") a.0.1 b.0.0 b.0.1 b.1 (omega arith) in
      subst (λ (us : Values). Spent (all_words_at depth (and_shape shape shapes) before) (constants before us) ws rest) vs-is
      (subst (λ (r : List ℕ). Spent (all_words_at depth (and_shape shape shapes) before) (constants before (and_value a.0.0 b.0.0)) ws r) rest-is
      (then_finds (words_at depth shape) (all_words_at depth shapes (codes ", ")) before a.0.0 b.0.0 ws a.0.1 b.0.1 first others))
