-- The names of buffers are the numbers from 1 on, which are all different and no names of declarations.
use Rattle.std.proofs.Common.{◌≡◌, ◌≢◌, ℕ, zero, suc, ◌+◌, ◌<◌, ◌≤◌, ◌^◌, ◌%◌, List, [], ◌∷◌, ◌++◌, length, map, Bool, true, false, Option, Some, None, refl, sym, ap, ◌∙◌, subst, arith}
use Rattle.std.specs.Prelude.{slice_get, decimal, not, ◌&&◌, nat_le}
use Rattle.std.specs.Option.{option_map_or}
use Rattle.std.specs.List.{AllByRecursion, list_all}
use Rattle.std.proofs.lemmas.Bool.Decides.{nat_tests}
use Rattle.std.proofs.lemmas.Fmt.{decimal_by_steps, decimal_injective}
use Rattle.sm_io.specs.Names.{is_name_byte}
use Rattle.sm_io.specs.Words.{is_kept, is_letter, is_word}
use Rattle.stream_core.specs.declared.node.LibForm.{LibForm}
use Rattle.stream_core.specs.declared.node.LibForm.TheVariants as form
use Rattle.stream_core.specs.Term.{Term, TreeLib, TreeStream}
use Rattle.stream_core.specs.Lower.{all_buffers, buffers, buffers_of}
use Rattle.stream_core.specs.WellTyped.{IsName, operand_types}
use Rattle.form_laws.proofs.BufferStreams.{AsMany}
use Rattle.form_laws.proofs.OutOfSpecs.{map_append, map_length}
use Rattle.form_laws.proofs.PlainForms.{each_append}

-- ---- lists of names that are all different

abbrev pub NotIn : List ℕ → List (List ℕ) → Type 0
NotIn x ys = AllByRecursion (λ y. x ≢ y) ys

abbrev pub Apart : List (List ℕ) → Type 0
Apart [] = Unit {0}
Apart (x ∷ xs) = NotIn x xs × Apart xs

pub front_of : {X : Type 0} (P : X → Type 0) (xs ys : List X) → AllByRecursion P (xs ++ ys) → AllByRecursion P xs
front_of P [] ys h = tt
front_of P (x ∷ xs) ys h = (h.0, front_of P xs ys h.1)

pub back_of : {X : Type 0} (P : X → Type 0) (xs ys : List X) → AllByRecursion P (xs ++ ys) → AllByRecursion P ys
back_of P [] ys h = h
back_of P (x ∷ xs) ys h = back_of P xs ys h.1

pub not_in : (x : List ℕ) (ys : List (List ℕ)) → ((k : ℕ) → slice_get ys k ≡ Some x → ⊥) → NotIn x ys
not_in x [] h = tt
not_in x (y ∷ ys) h = (λ e. h 0 (ap Some (sym e)), not_in x ys (λ k. h (suc k)))

pub not_at : (x : List ℕ) (ys : List (List ℕ)) → NotIn x ys → (k : ℕ) → slice_get ys k ≡ Some x → ⊥
not_at x [] h k e = absurd (cc)
not_at x (y ∷ ys) h zero e = let q : y ≡ x = cc in h.0 (sym q)
not_at x (y ∷ ys) h (suc k) e = not_at x ys h.1 k e

pub apart_of : (xs : List (List ℕ)) → ((i j : ℕ) (x : List ℕ) → slice_get xs i ≡ Some x → slice_get xs j ≡ Some x → i ≡ j) → Apart xs
apart_of [] h = tt
apart_of (x ∷ xs) h = (not_in x xs (λ k e. let q = h 0 (suc k) x refl e in absurd (omega (arith, q))), apart_of xs (λ i j y a b. let q = h (suc i) (suc j) y a b in omega (arith, q)))

pub once_of : (xs : List (List ℕ)) → Apart xs → (i j : ℕ) (x : List ℕ) → slice_get xs i ≡ Some x → slice_get xs j ≡ Some x → i ≡ j
once_of [] a i j x p q = absurd (cc)
once_of (y ∷ ys) a zero zero x p q = refl
once_of (y ∷ ys) a zero (suc j) x p q = let e : x ≡ y = cc in absurd (not_at y ys a.0 j (q ∙ ap Some e))
once_of (y ∷ ys) a (suc i) zero x p q = let e : x ≡ y = cc in absurd (not_at y ys a.0 i (p ∙ ap Some e))
once_of (y ∷ ys) a (suc i) (suc j) x p q = ap suc (once_of ys a.1 i j x p q)

behind : (bs rs : List (List ℕ)) → Apart bs → Apart rs → AllByRecursion (λ b. NotIn b rs) bs → Apart (bs ++ rs)
behind [] rs a b c = b
behind (x ∷ bs) rs a b c = (each_append (λ y. x ≢ y) bs rs a.0 c.0, behind bs rs a.1 b c.1)

-- a block between others
pub inserted : (fs bs rs : List (List ℕ)) → Apart (fs ++ rs) → Apart bs → AllByRecursion (λ b. NotIn b rs) bs → AllByRecursion (λ f. NotIn f bs) fs → Apart (fs ++ (bs ++ rs))
inserted [] bs rs a b c d = behind bs rs b a c
inserted (f ∷ fs) bs rs a b c d =
    (each_append (λ y. f ≢ y) fs (bs ++ rs) (front_of (λ y. f ≢ y) fs rs a.0) (each_append (λ y. f ≢ y) bs rs d.0 (back_of (λ y. f ≢ y) fs rs a.0)), inserted fs bs rs a.1 b c d.1)

-- ---- a number is no name

abbrev opens_with : (ℕ → Bool) → List ℕ → Bool
opens_with p bytes = option_map_or p (slice_get bytes 0) false

abbrev no_letter : ℕ → Bool
no_letter b = not (is_letter b)

digit_no_letter : (d : ℕ) → d < 10 → no_letter (48 + d) ≡ true
digit_no_letter d h = grind (arith, nat_tests)

still_opens : (p : ℕ → Bool) (ds es : List ℕ) → opens_with p ds ≡ true → opens_with p (ds ++ es) ≡ true
still_opens p [] es h = absurd (cc)
still_opens p (d ∷ ds) es h = h

number_opens : (n : ℕ) → n < 2 ^ 64 → opens_with no_letter (decimal n) ≡ true
number_opens n h = decimal_by_steps (λ k ds. opens_with no_letter ds ≡ true) (λ k small. digit_no_letter k small) (λ k ds big opens. still_opens no_letter ds ((48 + k % 10) ∷ []) opens) n h

left_of : (a b : Bool) → (a && b) ≡ true → a ≡ true
left_of true b h = refl
left_of false b h = absurd (cc)

name_opens : (x : List ℕ) → IsName x → opens_with is_letter x ≡ true
name_opens x h =
    let word = left_of (is_word x) (not (is_kept x)) h in
    let two = left_of (opens_with is_letter x && nat_le (length x) 31) (list_all is_name_byte x) word in
    left_of (opens_with is_letter x) (nat_le (length x) 31) two

not_both : (o : Option ℕ) → option_map_or is_letter o false ≡ true → option_map_or no_letter o false ≡ true → ⊥
not_both None a b = absurd (cc)
not_both (Some c) a b = by (is_letter c) a b
  where
    by : (t : Bool) → t ≡ true → not t ≡ true → ⊥
    by true p q = absurd (cc)
    by false p q = absurd (cc)

pub name_no_number : (x : List ℕ) (n : ℕ) → IsName x → n < 2 ^ 64 → x ≢ decimal n
name_no_number x n h small e = not_both (slice_get x 0) (name_opens x h) (subst (λ y. opens_with no_letter y ≡ true) (sym e) (number_opens n small))

-- ---- the numbers from n on

abbrev pub numbers : ℕ → ℕ → List (List ℕ)
numbers n zero = []
numbers n (suc k) = decimal n ∷ numbers (n + 1) k

pub numbers_length : (n k : ℕ) → length (numbers n k) ≡ k
numbers_length n zero = refl
numbers_length n (suc k) = ap suc (numbers_length (n + 1) k)

numbers_then : (n a b : ℕ) → numbers n (a + b) ≡ numbers n a ++ numbers (n + a) b
numbers_then n zero b = let e : 0 + b ≡ b = omega arith in let f : n + 0 ≡ n = omega arith in rw e (rw f refl)
numbers_then n (suc a) b =
    let e : suc a + b ≡ suc (a + b) = omega arith in
    let f : n + suc a ≡ n + 1 + a = omega arith in
    rw e (rw f (ap (λ ys. decimal n ∷ ys) (numbers_then (n + 1) a b)))

pub each_number : (P : List ℕ → Type 0) (n k : ℕ) → ((m : ℕ) → n ≤ m → m < n + k → P (decimal m)) → AllByRecursion P (numbers n k)
each_number P n zero h = tt
each_number P n (suc k) h = (h n (omega arith) (omega arith), each_number P (n + 1) k (λ m a b. h m (omega (arith, a)) (omega (arith, b))))

pub small : (m : ℕ) → m < 1048576 → m < 2 ^ 64
small m h = omega (arith, h)

pub numbers_apart : (n k : ℕ) → n + k < 1048576 → Apart (numbers n k)
numbers_apart n zero h = tt
numbers_apart n (suc k) h = (
  each_number (λ y. decimal n ≢ y) (n + 1) k
      (λ m a b e. let q = decimal_injective n m (small n (omega (arith, h))) (small m (omega (arith, b, h))) e in absurd (omega (arith, a, q))),
  numbers_apart (n + 1) k (omega (arith, h)),
)

pub name_in_no_numbers : (x : List ℕ) (n k : ℕ) → IsName x → n + k < 1048576 → NotIn x (numbers n k)
name_in_no_numbers x n k h few = each_number (λ y. x ≢ y) n k (λ m a b. name_no_number x m h (small m (omega (arith, b, few))))

pub numbers_not_among : (n k : ℕ) (xs : List (List ℕ)) → AllByRecursion IsName xs → n + k < 1048576 → AllByRecursion (λ b. NotIn b xs) (numbers n k)
numbers_not_among n k xs h few = each_number (λ b. NotIn b xs) n k (λ m a b. none_is m (omega (arith, b, few)) xs h)
  where
    none_is : (m : ℕ) → m < 1048576 → (ys : List (List ℕ)) → AllByRecursion IsName ys → NotIn (decimal m) ys
    none_is m l [] g = tt
    none_is m l (y ∷ ys) g = (λ e. name_no_number y m g.0 (small m l) (sym e), none_is m l ys g.1)

-- ---- the names of buffers

abbrev pub names : List TreeStream → List (List ℕ)
names xs = map (λ (x : TreeStream). x.name) xs

-- how many buffers forms have
abbrev pub all_told : List TreeLib → ℕ
all_told [] = 0
all_told (x ∷ xs) = buffers x.form + all_told xs

form_names : (f : LibForm) (number b at : ℕ) (ps : List Term) → length ps ≡ length (operand_types f) → names (buffers_of f number b at ps) ≡ numbers number (buffers f)
form_names form.Once number b at ps h = refl
form_names form.Historically number b at ps h = refl
form_names form.Yesterday number b at [] h = absurd (omega (arith, h))
form_names form.Yesterday number b at (p ∷ ps) h = refl
form_names form.WeaklyYesterday number b at [] h = absurd (omega (arith, h))
form_names form.WeaklyYesterday number b at (p ∷ ps) h = refl
form_names form.Since number b at ps h = refl
form_names (form.OnceIn low high) number b at [] h = absurd (omega (arith, h))
form_names (form.OnceIn low high) number b at (p ∷ ps) h = refl
form_names (form.HistoricallyIn low high) number b at [] h = absurd (omega (arith, h))
form_names (form.HistoricallyIn low high) number b at (p ∷ ps) h = refl
form_names (form.SinceIn low high) number b at [] h = absurd (omega (arith, h))
form_names (form.SinceIn low high) number b at (p ∷ []) h = absurd (omega (arith, h))
form_names (form.SinceIn low high) number b at (p ∷ q ∷ ps) h = refl
form_names (form.Clock period phase) number b at ps h = refl
form_names (form.WindowMax n s) number b at [] h = absurd (omega (arith, h))
form_names (form.WindowMax n s) number b at (e ∷ ps) h = refl
form_names (form.WindowMin n s) number b at [] h = absurd (omega (arith, h))
form_names (form.WindowMin n s) number b at (e ∷ ps) h = refl
form_names (form.WindowSum n s) number b at [] h = absurd (omega (arith, h))
form_names (form.WindowSum n s) number b at (e ∷ ps) h = refl

pub buffer_names : (f : Term → Term) (number b : ℕ) (xs : List TreeLib) → AllByRecursion AsMany xs → names (all_buffers f number b xs) ≡ numbers number (all_told xs)
buffer_names f number b [] h = refl
buffer_names f number b (x ∷ xs) h =
    map_append (λ (y : TreeStream). y.name) (buffers_of x.form number b x.at (map f x.args)) (all_buffers f (number + buffers x.form) (b + buffers x.form) xs)
    ∙ ap (λ ys. ys ++ names (all_buffers f (number + buffers x.form) (b + buffers x.form) xs)) (form_names x.form number b x.at (map f x.args) (map_length f x.args ∙ h.0))
    ∙ ap (λ ys. numbers number (buffers x.form) ++ ys) (buffer_names f (number + buffers x.form) (b + buffers x.form) xs h.1)
    ∙ sym (numbers_then number (buffers x.form) (all_told xs))
