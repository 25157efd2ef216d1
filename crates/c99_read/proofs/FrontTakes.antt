-- What is found at the front of a text stands there.
use Rattle.std.proofs.Common.{arith, ◌≡◌, ℕ, zero, suc, ◌^◌, ◌<◌, ◌≤◌, Bool, true, false, ◌&&◌, eqb, leb, List, [], ◌∷◌, ◌++◌, length, get_or, Option, Some, None, inl, inr, refl, sym, ap, ◌∙◌, append_assoc, codes}
use Rattle.std.specs.Prelude.{if◌then◌else◌}
use Rattle.std.specs.Fmt.{decimal}
use Rattle.std.specs.List.{list_all, find, flat_map}
use Rattle.std.specs.Str.Parse.{digits_value}
use Rattle.std.proofs.lemmas.Fmt.{decimal-digits_value}
use Rattle.std.proofs.lemmas.Bool.{and_parts, and_from, cases_Bool, eqb-true, eqb-false, leb-true, le-leb, not-true, true≢false}
use Rattle.sm_io.specs.Names.{is_name_byte}
use Rattle.sm_io.specs.Words.{is_name}
use Rattle.c99_tree.specs.Words.{is_digit, is_ring_name, is_element}
use Rattle.c99_read.specs.Front.{◌>>=◌, word, after_word, token, after_token, number, after_number, is_number, number_of, number_at, name_at, ring_name_at, longer, last_split, array_of, after_all, many}
use Rattle.c99_read.proofs.FrontFinds.{numerals}

pub bound : {A B : Type 0} (o : Option A) (f : A → Option B) (y : B) → (o >>= f) ≡ Some y → (x : A) × (o ≡ Some x) × (f x ≡ Some y)
bound None f y h = absurd (cc h)
bound (Some x) f y h = (x, refl, h)

pub paired : {A B : Type 0} (a x : A) (b y : B) → ◌≡◌ {A = Option (A × B)} (Some (a, b)) (Some (x, y)) → (a ≡ x) × (b ≡ y)
paired {A = A} {B = B} a x b y h = let p : ◌≡◌ {A = A × B} (a, b) (x, y) = cc h in (ap (λ (q : A × B). q.0) p, ap (λ (q : A × B). q.1) p)

-- one piece of a text after another
pub step : (p : List ℕ) {s r q : List ℕ} → s ≡ p ++ r → r ≡ q → s ≡ p ++ q
step p e f = e ∙ ap (λ (z : List ℕ). p ++ z) f

pub meet : (a b c d : List ℕ) → a ≡ c → b ≡ d → a ++ b ≡ c ++ d
meet a b c d p q = rw (p, q) refl

pub found_test : {A : Type 0} (test : A → Bool) (xs : List A) (x : A) → find test xs ≡ Some x → test x ≡ true
found_test test [] x h = absurd (cc h)
found_test test (a ∷ xs) x h = elim (cases_Bool (test a)) [ inl y ↦ let e : Some a ≡ Some x = sym (ap (λ b. if b then Some a else find test xs) y) ∙ h in let f : a ≡ x = cc e in rw (← f) y | inr n ↦ found_test test xs x (sym (ap (λ b. if b then Some a else find test xs) n) ∙ h) ]

pub guarded : {A : Type 0} (b : Bool) (o : Option A) (y : A) → (if b then o else None) ≡ Some y → (b ≡ true) × (o ≡ Some y)
guarded true o y h = (refl, h)
guarded false o y h = absurd (cc h)

pub word_whole : (s : List ℕ) → s ≡ word s ++ after_word s
unfolding word after_word
word_whole [] = refl
word_whole (b ∷ bs) = elim (cases_Bool (is_name_byte b)) [ inl y ↦ rw y (ap (λ (z : List ℕ). b ∷ z) (word_whole bs)) | inr n ↦ rw n refl ]

pub token_whole : (s : List ℕ) → s ≡ token s ++ after_token s
unfolding token after_token
token_whole [] = refl
token_whole (b ∷ bs) = elim (cases_Bool (eqb b 32)) [ inl y ↦ rw y refl | inr n ↦ rw n (ap (λ (z : List ℕ). b ∷ z) (token_whole bs)) ]

pub number_whole : (s : List ℕ) → s ≡ number s ++ after_number s
unfolding number after_number
number_whole [] = refl
number_whole (b ∷ bs) = elim (cases_Bool (is_digit b)) [ inl y ↦ rw y (ap (λ (z : List ℕ). b ∷ z) (number_whole bs)) | inr n ↦ rw n refl ]

no_zeros : (ds : List ℕ) → is_number ds ≡ true → (0 < length ds) × (get_or ds 0 0 ≡ 48 → length ds ≡ 1)
no_zeros [] h = absurd (true≢false (sym h))
no_zeros (d ∷ []) h = (omega arith, λ q. refl)
no_zeros (d ∷ e ∷ ds) h = (omega arith, λ q. absurd (eqb-false d 48 (not-true (eqb d 48) h) q))

pub number_of-takes : (most n : ℕ) (ds : List ℕ) → most < 2 ^ 64 → number_of most ds ≡ Some n → (ds ≡ decimal n) × (n ≤ most)
unfolding number_of
number_of-takes most n ds small h =
    let g = guarded (list_all is_digit ds && is_number ds && leb (digits_value 10 ds) most) (Some (digits_value 10 ds)) n h in
    let v : digits_value 10 ds ≡ n = cc g.1 in
    let p = and_parts (list_all is_digit ds && is_number ds) (leb (digits_value 10 ds) most) g.0 in
    let q = and_parts (list_all is_digit ds) (is_number ds) p.0 in
    let low = leb-true (digits_value 10 ds) most p.1 in
    let z = no_zeros ds q.1 in
    (sym (decimal-digits_value numerals ds q.0 z.0 z.1 (omega arith)) ∙ ap decimal v, omega arith)

pub number_takes : (s : List ℕ) (n : ℕ) (r : List ℕ) → number_at s ≡ Some (n, r) → (s ≡ decimal n ++ r) × (leb n 4294967295 ≡ true)
unfolding number_at
number_takes s n r h =
    let b = bound (number_of 4294967295 (word s)) (λ (m : ℕ). Some (m, after_word s)) (n, r) h in
    let p = paired b.0 n (after_word s) r b.2 in
    let d = number_of-takes 4294967295 b.0 (word s) (omega arith) b.1 in
    (word_whole s ∙ meet (word s) (after_word s) (decimal n) r (d.0 ∙ ap decimal p.0) p.1, le-leb n 4294967295 (omega (arith, p.0, d.1)))

pub name_takes : (s x r : List ℕ) → name_at s ≡ Some (x, r) → (s ≡ x ++ r) × (is_name x ≡ true)
unfolding name_at
name_takes s x r h =
    let g = guarded (is_name (word s)) (Some (word s, after_word s)) (x, r) h in
    let p = paired (word s) x (after_word s) r g.1 in
    (word_whole s ∙ meet (word s) (after_word s) x r p.0 p.1, ap is_name (sym p.0) ∙ g.0)

pub ring_name_takes : (s x r : List ℕ) → ring_name_at s ≡ Some (x, r) → (s ≡ x ++ r) × (is_ring_name x ≡ true)
unfolding ring_name_at
ring_name_takes s x r h =
    let g = guarded (is_ring_name (word s)) (Some (word s, after_word s)) (x, r) h in
    let p = paired (word s) x (after_word s) r g.1 in
    (word_whole s ∙ meet (word s) (after_word s) x r p.0 p.1, ap is_ring_name (sym p.0) ∙ g.0)

split_takes : (w p q : List ℕ) → last_split w ≡ Some (p, q) → w ≡ p ++ (95 ∷ q)
unfolding last_split
split_takes [] p q h = absurd (cc h)
split_takes (b ∷ bs) p q h = by (last_split bs) h (λ x y e. split_takes bs x y e)
  where
    by : (o : Option (List ℕ × List ℕ)) → longer b bs o ≡ Some (p, q) → ((x y : List ℕ) → o ≡ Some (x, y) → bs ≡ x ++ (95 ∷ y)) → b ∷ bs ≡ p ++ (95 ∷ q)
    by (Some r) k f = let e = paired (b ∷ r.0) p r.1 q k in ap (λ (z : List ℕ). b ∷ z) (f r.0 r.1 refl) ∙ rw (← e.0, ← e.1) refl
    by None k f =
        let g = guarded (eqb b 95) (Some ([], bs)) (p, q) k in
        let e = paired [] p bs q g.1 in
        rw (eqb-true b 95 g.0, ← e.0, ← e.1) refl

array_is : (p q x : List ℕ) (m n : ℕ) → q ≡ decimal m → p ≡ x → m ≡ n → p ++ (95 ∷ q) ≡ x ++ codes "_" ++ decimal n
array_is p q x m n a b c = rw (a, b, c) (sym (append_assoc x (codes "_") (decimal n)))

pub record TakesArray (w x : List ℕ) (n : ℕ) : Type 0 where
  pub is : w ≡ x ++ codes "_" ++ decimal n
  pub elem : is_element x ≡ true
  pub len : leb n 4294967295 ≡ true

pub array_takes : (w x : List ℕ) (n : ℕ) → array_of w ≡ Some (x, n) → TakesArray w x n
unfolding array_of
array_takes w x n h =
    let a = bound (last_split w) (λ p. if is_element p.0 then number_of 4294967295 p.1 >>= (λ m. Some (p.0, m)) else None) (x, n) h in
    let g = guarded (is_element a.0.0) (number_of 4294967295 a.0.1 >>= (λ m. Some (a.0.0, m))) (x, n) a.2 in
    let b = bound (number_of 4294967295 a.0.1) (λ m. Some (a.0.0, m)) (x, n) g.1 in
    let p = paired a.0.0 x b.0 n b.2 in
    let d = number_of-takes 4294967295 b.0 a.0.1 (omega arith) b.1 in
    record {
      is = split_takes w a.0.0 a.0.1 a.1 ∙ array_is a.0.0 a.0.1 x b.0 n d.0 p.0 p.1;
      elem = ap is_element (sym p.0) ∙ g.0;
      len = le-leb n 4294967295 (omega (arith, p.1, d.1));
    }

-- ---- lines

pub record TakesLines {A : Type 0} (r : List ℕ → Option (A × List ℕ)) (f : A → List ℕ) (ok : A → Bool) : Type 0 where
  pub takes : (s : List ℕ) (a : A) (x : List ℕ) → r s ≡ Some (a, x) → (s ≡ f a ++ x) × (ok a ≡ true)

pub after_all_takes : {A : Type 0} (a : A) (o : Option (List A × List ℕ)) (xs : List A) (x : List ℕ) → after_all (a ∷ []) o ≡ Some (xs, x)
    → (b : List A × List ℕ) × (o ≡ Some b) × (a ∷ b.0 ≡ xs) × (b.1 ≡ x)
after_all_takes a None xs x h = absurd (cc h)
after_all_takes a (Some b) xs x h = let p = paired (a ∷ b.0) xs b.1 x h in (b, refl, p.0, p.1)

pub lines_meet : {A : Type 0} (f : A → List ℕ) (ys xs : List A) (y x : List ℕ) → ys ≡ xs → y ≡ x → flat_map f ys ++ y ≡ flat_map f xs ++ x
lines_meet f ys xs y x p q = rw (p, q) refl

pub many_takes : {A : Type 0} {r : List ℕ → Option (A × List ℕ)} {f : A → List ℕ} {ok : A → Bool} (test : List ℕ → Bool) → TakesLines r f ok
    → (n : ℕ) (s : List ℕ) (xs : List A) (x : List ℕ) → many test r n s ≡ Some (xs, x) → (s ≡ flat_map f xs ++ x) × (list_all ok xs ≡ true)
unfolding many
many_takes test l zero s xs x h = absurd (cc h)
many_takes {A = A} {r = r} {f = f} {ok = ok} test l (suc n) s xs x h = elim (cases_Bool (test s)) [
  | inl y ↦
      let more : (a : A × List ℕ) → Option (List A × List ℕ) = λ a. after_all (a.0 ∷ []) (many test r n a.1) in
      let k : (r s >>= more) ≡ Some (xs, x) = sym (ap (λ (b : Bool). if b then r s >>= more else Some ([], s)) y) ∙ h in
      let a = bound (r s) more (xs, x) k in
      let q = after_all_takes a.0.0 (many test r n a.0.1) xs x a.2 in
      let t = l.takes s a.0.0 a.0.1 a.1 in
      let m = many_takes {r = r} {f = f} {ok = ok} test l n a.0.1 q.0.0 q.0.1 q.1 in
      let whole : s ≡ flat_map f (a.0.0 ∷ q.0.0) ++ q.0.1 = step (f a.0.0) t.0 m.0 ∙ sym (append_assoc (f a.0.0) (flat_map f q.0.0) q.0.1) in
      (whole ∙ lines_meet f (a.0.0 ∷ q.0.0) xs q.0.1 x q.2 q.3, ap (list_all ok) (sym q.2) ∙ and_from (ok a.0.0) (list_all ok q.0.0) t.1 m.1)
  | inr z ↦
      let k : Some ([], s) ≡ Some (xs, x) = sym (ap (λ (b : Bool). if b then r s >>= (λ a. after_all (a.0 ∷ []) (many test r n a.1)) else Some ([], s)) z) ∙ h in
      let p = paired [] xs s x k in
      (p.1 ∙ ap (λ (ys : List A). flat_map f ys ++ x) p.0, ap (list_all ok) (sym p.0))
]
