-- The words that are found stand there as a constant.
use Rattle.std.proofs.Common.{◌≡◌, ℕ, zero, suc, ◌-◌, ◌^◌, ◌<◌, ◌≤◌, Bool, true, ◌&&◌, ◌||◌, leb, ltb, List, [], ◌∷◌, ◌++◌, Option, Some, None, inl, inr, refl, sym, ap, subst, ◌∙◌, append_assoc, codes, arith, ℤ, negsuc}
use Rattle.std.specs.Prelude.{if◌then◌else◌}
use Rattle.std.specs.Fmt.{decimal}
use Rattle.std.proofs.lemmas.Bool.{and_from, or_left, or_right, lt-ltb, le-leb, leb-true, cases_Bool, cond-true}
use Rattle.c99_tree.specs.declared.types.CScalar.{CScalar}
use Rattle.c99_tree.specs.declared.types.CScalar.TheVariants as t
use Rattle.c99_tree.specs.Words.{is_same}
use Rattle.c99_tree.specs.Values.{Value, Values, number, struct_of, array_of, no_value, and_value, values, is_word, number_of_word, Shape, Shapes, scalar, members, elements, no_shape, and_shape, filled, filled_all, repeated}
use Rattle.c99_tree.specs.Spelling.{constant, constants, constant_height, highest_constant, signed_constant, number_constant, number_height}
use Rattle.c99_read.specs.Front.{◌>>=◌, behind, word, after_word, number as digits_at, after_number, number_of}
use Rattle.c99_read.specs.WordsAt.{FoundWords, tailed_at, unsigned_at, negative_at, signed_by, signed_at, bool_of, word_at, words_then, times_at, between, words_at, all_words_at}
use Rattle.c99_read.proofs.FrontFinds.{behind_is, same_is}
use Rattle.c99_read.proofs.FrontTakes.{bound, paired, step, meet, guarded, word_whole, number_whole, number_of-takes}
use Rattle.c99_read.proofs.WordsFind.{word_type, number_low, number_high, signed_number}

-- ---- scalars

tailed_takes : (tail : List ℕ) (most n : ℕ) (s x : List ℕ) → most < 2 ^ 64 → tailed_at tail most s ≡ Some (n, x) → (s ≡ decimal n ++ (tail ++ x)) × (n ≤ most)
unfolding tailed_at
tailed_takes tail most n s x small h =
    let g = guarded (is_same (after_number (word s)) tail) (number_of most (digits_at (word s)) >>= (λ n. Some (n, after_word s))) (n, x) h in
    let b = bound (number_of most (digits_at (word s))) (λ n. Some (n, after_word s)) (n, x) g.1 in
    let p = paired b.0 n (after_word s) x b.2 in
    let d = number_of-takes most b.0 (digits_at (word s)) small b.1 in
    let w : word s ≡ decimal n ++ tail = number_whole (word s) ∙ meet (digits_at (word s)) (after_number (word s)) (decimal n) tail (d.0 ∙ ap decimal p.0) (same_is (after_number (word s)) tail g.0) in
    (word_whole s ∙ meet (word s) (after_word s) (decimal n ++ tail) x w p.1 ∙ append_assoc (decimal n) tail x, omega (arith, p.0, d.1))

-- this word of a type stands there, with nothing of it higher than a bound
record IsConstant (ty : CScalar) (depth w : ℕ) (s x : List ℕ) : Type 0 where
  fits : is_word ty w ≡ true
  is : s ≡ number_constant ty (number_of_word ty w).n ++ x
  low : number_height (number_of_word ty w).n ≤ depth

-- the words are one word
record IsOne (ty : CScalar) (depth : ℕ) (s ws x : List ℕ) : Type 0 where
  w : ℕ
  one : w ∷ [] ≡ ws
  constant-is : IsConstant ty depth w s x

unsigned_takes : (tail : List ℕ) (most : ℕ) (s ws x : List ℕ) → most < 2 ^ 64 → unsigned_at tail most s ≡ Some (ws, x) → (n : ℕ) × (n ∷ [] ≡ ws) × (n ≤ most) × (s ≡ decimal n ++ (tail ++ x))
unsigned_takes tail most s ws x small h =
    let b = bound (tailed_at tail most s) (λ n. Some (n.0 ∷ [], n.1)) (ws, x) h in
    let p = paired (b.0.0 ∷ []) ws b.0.1 x b.2 in
    let t = tailed_takes tail most b.0.0 s b.0.1 small b.1 in
    (b.0.0, p.0, t.1, t.0 ∙ ap (λ (z : List ℕ). decimal b.0.0 ++ (tail ++ z)) p.1)

negative_pieces : (a d t b c x : List ℕ) → a ++ (d ++ (t ++ ((b ++ t ++ c) ++ x))) ≡ a ++ d ++ t ++ b ++ t ++ c ++ x
negative_pieces a d t b c x = simp append_assoc

negative_takes : (tail : List ℕ) (most : ℕ) (s ws x : List ℕ) → most < 2 ^ 64 → negative_at tail most s ≡ Some (ws, x)
    → (n : ℕ) × ((2 ^ 64 - 1 - n) ∷ [] ≡ ws) × (n ≤ most) × (codes "((-" ++ s ≡ signed_constant tail (negsuc n) ++ x)
negative_takes tail most s ws x small h =
    let b = bound (tailed_at tail most s) (λ n. behind (codes ") - 1" ++ tail ++ codes ")") n.1 >>= λ r. Some ((2 ^ 64 - 1 - n.0) ∷ [], r)) (ws, x) h in
    let r = bound (behind (codes ") - 1" ++ tail ++ codes ")") b.0.1) (λ r. Some ((2 ^ 64 - 1 - b.0.0) ∷ [], r)) (ws, x) b.2 in
    let p = paired ((2 ^ 64 - 1 - b.0.0) ∷ []) ws r.0 x r.2 in
    let t = tailed_takes tail most b.0.0 s b.0.1 small b.1 in
    let rest : b.0.1 ≡ (codes ") - 1" ++ tail ++ codes ")") ++ x = behind_is (codes ") - 1" ++ tail ++ codes ")") b.0.1 r.0 r.1 ∙ ap (λ (z : List ℕ). (codes ") - 1" ++ tail ++ codes ")") ++ z) p.1 in
    (b.0.0, p.0, t.1, ap (λ (z : List ℕ). codes "((-" ++ z) (t.0 ∙ ap (λ (z : List ℕ). decimal b.0.0 ++ (tail ++ z)) rest) ∙ negative_pieces (codes "((-") (decimal b.0.0) tail (codes ") - 1") (codes ")") x)

-- a word of a signed type
record IsSigned (ty : CScalar) (tail : List ℕ) (half depth : ℕ) (s ws x : List ℕ) : Type 0 where
  w : ℕ
  one : w ∷ [] ≡ ws
  fits : (ltb w half || (leb (2 ^ 64 - half) w && ltb w (2 ^ 64))) ≡ true
  is : s ≡ signed_constant tail (signed_number ty w) ++ x
  low : number_height (signed_number ty w) ≤ depth

signed_takes : (ty : CScalar) (tail : List ℕ) (half depth : ℕ) (s ws x : List ℕ) → 0 < half → half ≤ 2 ^ 63 → signed_at depth tail (half - 1) s ≡ Some (ws, x) → IsSigned ty tail half depth s ws x
signed_takes ty tail half depth s ws x some low h = by (behind (codes "((-") s) h (λ r k. behind_is (codes "((-") s r k)
  where
    by : (o : Option (List ℕ)) → signed_by depth tail (half - 1) s o ≡ Some (ws, x) → ((r : List ℕ) → o ≡ Some r → s ≡ codes "((-" ++ r) → IsSigned ty tail half depth s ws x
    by None k f =
        let u = unsigned_takes tail (half - 1) s ws x (omega arith) k in
        let is-n = number_low ty u.0 (omega (arith, u.2)) in
        record {
          w = u.0;
          one = u.1;
          fits = or_left (ltb u.0 half) _ (lt-ltb u.0 half (omega (arith, u.2)));
          is = u.3 ∙ sym (append_assoc (decimal u.0) tail x) ∙ ap (λ (z : ℤ). signed_constant tail z ++ x) (sym is-n);
          low = subst (λ (z : ℤ). number_height z ≤ depth) (sym is-n) (omega arith);
        }
    by (Some r) k f =
        let g = guarded (leb 2 depth) (negative_at tail (half - 1) r) (ws, x) k in
        let u = negative_takes tail (half - 1) r ws x (omega arith) g.1 in
        let deep = leb-true 2 depth g.0 in
        let w : ℕ = 2 ^ 64 - 1 - u.0 in
        let is-n : signed_number ty w ≡ negsuc u.0 = number_high ty w (omega (arith, u.2)) (omega (arith, u.2)) ∙ ap negsuc (omega (arith, u.2)) in
        record {
          w = w;
          one = u.1;
          fits = or_right (ltb w half) _ (and_from (leb (2 ^ 64 - half) w) (ltb w (2 ^ 64)) (le-leb (2 ^ 64 - half) w (omega (arith, u.2))) (lt-ltb w (2 ^ 64) (omega (arith, u.2))));
          is = f r refl ∙ u.3 ∙ ap (λ (z : ℤ). signed_constant tail z ++ x) (sym is-n);
          low = subst (λ (z : ℤ). number_height z ≤ depth) (sym is-n) deep;
        }

bool_takes : (depth : ℕ) (s ws x : List ℕ) → bool_of (word s) (after_word s) ≡ Some (ws, x) → IsOne t.Bool depth s ws x
bool_takes depth s ws x h = elim (cases_Bool (is_same (word s) (codes "false"))) [
  | inl y ↦
      let p = paired (0 ∷ []) ws (after_word s) x (sym (ap (λ (b : Bool). if b then Some (0 ∷ [], after_word s) else (if is_same (word s) (codes "true") then Some (1 ∷ [], after_word s) else None)) y) ∙ h) in
      record { w = 0; one = p.0; constant-is = record { fits = refl; is = word_whole s ∙ meet (word s) (after_word s) (codes "false") x (same_is (word s) (codes "false") y) p.1; low = omega arith } }
  | inr n ↦
      let g = guarded (is_same (word s) (codes "true")) (Some (1 ∷ [], after_word s)) (ws, x) (sym (ap (λ (b : Bool). if b then Some (0 ∷ [], after_word s) else (if is_same (word s) (codes "true") then Some (1 ∷ [], after_word s) else None)) n) ∙ h) in
      let p = paired (1 ∷ []) ws (after_word s) x g.1 in
      record { w = 1; one = p.0; constant-is = record { fits = refl; is = word_whole s ∙ meet (word s) (after_word s) (codes "true") x (same_is (word s) (codes "true") g.0) p.1; low = omega arith } }
]

scalar_takes : (ty : CScalar) (depth : ℕ) (s ws x : List ℕ) → word_at depth ty s ≡ Some (ws, x) → IsOne ty depth s ws x
unfolding word_at
scalar_takes t.Bool depth s ws x h = bool_takes depth s ws x h
scalar_takes t.I8 depth s ws x h = let g = signed_takes t.I8 [] (2 ^ 7) depth s ws x (omega arith) (omega arith) h in record { w = g.w; one = g.one; constant-is = record { fits = g.fits; is = g.is; low = g.low } }
scalar_takes t.I16 depth s ws x h = let g = signed_takes t.I16 [] (2 ^ 15) depth s ws x (omega arith) (omega arith) h in record { w = g.w; one = g.one; constant-is = record { fits = g.fits; is = g.is; low = g.low } }
scalar_takes t.I32 depth s ws x h = let g = signed_takes t.I32 [] (2 ^ 31) depth s ws x (omega arith) (omega arith) h in record { w = g.w; one = g.one; constant-is = record { fits = g.fits; is = g.is; low = g.low } }
scalar_takes t.I64 depth s ws x h = let g = signed_takes t.I64 (codes "LL") (2 ^ 63) depth s ws x (omega arith) (omega arith) h in record { w = g.w; one = g.one; constant-is = record { fits = g.fits; is = g.is; low = g.low } }
scalar_takes t.U8 depth s ws x h = let g = unsigned_takes (codes "U") (2 ^ 8 - 1) s ws x (omega arith) h in record { w = g.0; one = g.1; constant-is = record { fits = lt-ltb g.0 (2 ^ 8) (omega (arith, g.2)); is = g.3 ∙ sym (append_assoc (decimal g.0) (codes "U") x); low = omega arith } }
scalar_takes t.U16 depth s ws x h = let g = unsigned_takes (codes "U") (2 ^ 16 - 1) s ws x (omega arith) h in record { w = g.0; one = g.1; constant-is = record { fits = lt-ltb g.0 (2 ^ 16) (omega (arith, g.2)); is = g.3 ∙ sym (append_assoc (decimal g.0) (codes "U") x); low = omega arith } }
scalar_takes t.U32 depth s ws x h = let g = unsigned_takes (codes "U") (2 ^ 32 - 1) s ws x (omega arith) h in record { w = g.0; one = g.1; constant-is = record { fits = lt-ltb g.0 (2 ^ 32) (omega (arith, g.2)); is = g.3 ∙ sym (append_assoc (decimal g.0) (codes "U") x); low = omega arith } }
scalar_takes t.U64 depth s ws x h = let g = unsigned_takes (codes "ULL") (2 ^ 64 - 1) s ws x (omega arith) h in record { w = g.0; one = g.1; constant-is = record { fits = lt-ltb g.0 (2 ^ 64) (omega (arith, g.2)); is = g.3 ∙ sym (append_assoc (decimal g.0) (codes "ULL") x); low = omega arith } }

-- ---- values

-- the words give a value of the shape, whose constant stands there and is no higher than a bound
pub record Valued (shape : Shape) (depth : ℕ) (s ws x : List ℕ) : Type 0 where
  pub v : Value
  pub gives : (more : List ℕ) → filled shape (ws ++ more) ≡ Some (v, more)
  pub is : s ≡ constant v ++ x
  pub low : constant_height v ≤ depth

pub record ValuedAll (shapes : Shapes) (depth : ℕ) (before s ws x : List ℕ) : Type 0 where
  pub vs : Values
  pub gives : (more : List ℕ) → filled_all shapes (ws ++ more) ≡ Some (vs, more)
  pub is : s ≡ constants before vs ++ x
  pub low : highest_constant vs ≤ depth

pub record ValuedTimes (n : ℕ) (shape : Shape) (depth : ℕ) (before s ws x : List ℕ) : Type 0 where
  pub vs : List Value
  pub gives : (more : List ℕ) → repeated n (filled shape) (ws ++ more) ≡ Some (vs, more)
  pub is : s ≡ constants before (values vs) ++ x
  pub low : highest_constant (values vs) ≤ depth

constant_by_type : (ty : CScalar) (w : ℕ) → number_constant ty (number_of_word ty w).n ≡ constant (number (number_of_word ty w))
constant_by_type ty w = ap (λ (k : CScalar). number_constant k (number_of_word ty w).n) (sym (word_type ty w))

scalar_valued : (ty : CScalar) (depth : ℕ) (s ws x : List ℕ) → words_at depth (scalar ty) s ≡ Some (ws, x) → Valued (scalar ty) depth s ws x
unfolding words_at
scalar_valued ty depth s ws x h =
    let g = scalar_takes ty depth s ws x h in
    subst (λ (us : List ℕ). Valued (scalar ty) depth s us x) g.one (record {
      v = number (number_of_word ty g.w);
      gives = λ more. cond-true (is_word ty g.w) _ _ g.constant-is.fits;
      is = g.constant-is.is ∙ ap (λ (z : List ℕ). z ++ x) (constant_by_type ty g.w);
      low = g.constant-is.low;
    })

between_takes : (open' close : List ℕ) (f : List ℕ → FoundWords) (s ws x : List ℕ) → between open' close f s ≡ Some (ws, x) → (r : List ℕ) × (y : List ℕ) × (f r ≡ Some (ws, y)) × (s ≡ open' ++ r) × (y ≡ close ++ x)
between_takes open' close f s ws x h =
    let r = bound (behind open' s) (λ r. f r >>= λ a. behind close a.1 >>= λ x. Some (a.0, x)) (ws, x) h in
    let a = bound (f r.0) (λ a. behind close a.1 >>= λ x. Some (a.0, x)) (ws, x) r.2 in
    let b = bound (behind close a.0.1) (λ x. Some (a.0.0, x)) (ws, x) a.2 in
    let p = paired a.0.0 ws b.0 x b.2 in
    (r.0, a.0.1, a.1 ∙ ap (λ (us : List ℕ). Some (us, a.0.1)) p.0, behind_is open' s r.0 r.1, behind_is close a.0.1 b.0 b.1 ∙ ap (λ (z : List ℕ). close ++ z) p.1)

then_takes : (first others : List ℕ → FoundWords) (before s ws x : List ℕ) → words_then first others before s ≡ Some (ws, x)
    → (r : List ℕ) × (us : List ℕ) × (y : List ℕ) × (vs : List ℕ) × (s ≡ before ++ r) × (first r ≡ Some (us, y)) × (others y ≡ Some (vs, x)) × (us ++ vs ≡ ws)
then_takes first others before s ws x h =
    let r = bound (behind before s) (λ r. first r >>= λ a. others a.1 >>= λ b. Some (a.0 ++ b.0, b.1)) (ws, x) h in
    let a = bound (first r.0) (λ a. others a.1 >>= λ b. Some (a.0 ++ b.0, b.1)) (ws, x) r.2 in
    let b = bound (others a.0.1) (λ b. Some (a.0.0 ++ b.0, b.1)) (ws, x) a.2 in
    let p = paired (a.0.0 ++ b.0.0) ws b.0.1 x b.2 in
    (r.0, a.0.0, a.0.1, b.0.0, behind_is before s r.0 r.1, a.1, b.1 ∙ ap (λ (z : List ℕ). Some (b.0.0, z)) p.1, p.0)

braces : (a v c x : List ℕ) → a ++ (v ++ (c ++ x)) ≡ a ++ v ++ c ++ x
braces a v c x = simp append_assoc

three : (b t p x : List ℕ) → b ++ (t ++ (p ++ x)) ≡ b ++ t ++ p ++ x
three b t p x = simp append_assoc

times_valued : (n depth : ℕ) (shape : Shape) (before s ws x : List ℕ) → ((s ws x : List ℕ) → words_at depth shape s ≡ Some (ws, x) → Valued shape depth s ws x)
    → times_at n (words_at depth shape) before s ≡ Some (ws, x) → ValuedTimes n shape depth before s ws x
unfolding times_at
times_valued zero depth shape before s ws x one h =
    let p = paired [] ws s x h in
    subst (λ (us : List ℕ). ValuedTimes zero shape depth before s us x) p.0 (record { vs = []; gives = λ more. refl; is = p.1; low = omega arith })
times_valued (suc n) depth shape before s ws x one h =
    let a = then_takes (words_at depth shape) (times_at n (words_at depth shape) (codes ", ")) before s ws x h in
    let v = one a.0 a.1 a.2 a.5 in
    let r = times_valued n depth shape (codes ", ") a.2 a.3 x one a.6 in
    subst (λ (us : List ℕ). ValuedTimes (suc n) shape depth before s us x) a.7 (record {
      vs = v.v ∷ r.vs;
      gives = λ more. rw (append_assoc a.1 a.3 more, v.gives (a.3 ++ more), r.gives more) refl;
      is = step before a.4 (step (constant v.v) v.is r.is) ∙ three before (constant v.v) (constants (codes ", ") (values r.vs)) x;
      low = omega (arith, v.low, r.low);
    })

members_valued : (depth : ℕ) (shapes : Shapes) (s ws x : List ℕ) → ((d : ℕ) (s ws x : List ℕ) → all_words_at d shapes [] s ≡ Some (ws, x) → ValuedAll shapes d [] s ws x)
    → words_at depth (members shapes) s ≡ Some (ws, x) → Valued (members shapes) depth s ws x
unfolding words_at
members_valued zero shapes s ws x f h = absurd (cc h)
members_valued (suc depth) shapes s ws x f h =
    let b = between_takes (codes "{ ") (codes " }") (all_words_at depth shapes []) s ws x h in
    let r = f depth b.0 ws b.1 b.2 in
    record {
      v = struct_of r.vs;
      gives = λ more. rw (r.gives more) refl;
      is = step (codes "{ ") b.3 (step (constants [] r.vs) r.is b.4) ∙ braces (codes "{ ") (constants [] r.vs) (codes " }") x;
      low = omega (arith, r.low);
    }

elements_valued : (depth n : ℕ) (shape : Shape) (s ws x : List ℕ) → ((d : ℕ) (s ws x : List ℕ) → words_at d shape s ≡ Some (ws, x) → Valued shape d s ws x)
    → words_at depth (elements n shape) s ≡ Some (ws, x) → Valued (elements n shape) depth s ws x
unfolding words_at
elements_valued zero n shape s ws x f h = absurd (cc h)
elements_valued (suc zero) n shape s ws x f h = absurd (cc h)
elements_valued (suc (suc depth)) n shape s ws x f h =
    let b = between_takes (codes "{ { ") (codes " } }") (times_at n (words_at depth shape) []) s ws x h in
    let r = times_valued n depth shape [] b.0 ws b.1 (λ s ws x k. f depth s ws x k) b.2 in
    record {
      v = array_of (values r.vs);
      gives = λ more. rw (r.gives more) refl;
      is = step (codes "{ { ") b.3 (step (constants [] (values r.vs)) r.is b.4) ∙ braces (codes "{ { ") (constants [] (values r.vs)) (codes " } }") x;
      low = omega (arith, r.low);
    }

mutual
  unfolding words_at

  pub valued : (shape : Shape) (depth : ℕ) (s ws x : List ℕ) → words_at depth shape s ≡ Some (ws, x) → Valued shape depth s ws x
  valued (scalar ty) depth s ws x h = scalar_valued ty depth s ws x h
  valued (members shapes) depth s ws x h = members_valued depth shapes s ws x (λ d s ws x k. all_valued shapes d [] s ws x k) h
  valued (elements n shape) depth s ws x h = elements_valued depth n shape s ws x (λ d s ws x k. valued shape d s ws x k) h

  pub all_valued : (shapes : Shapes) (depth : ℕ) (before s ws x : List ℕ) → all_words_at depth shapes before s ≡ Some (ws, x) → ValuedAll shapes depth before s ws x
  all_valued no_shape depth before s ws x h =
      let p = paired [] ws s x h in
      subst (λ (us : List ℕ). ValuedAll no_shape depth before s us x) p.0 (record { vs = no_value; gives = λ more. refl; is = p.1; low = omega arith })
  all_valued (and_shape shape shapes) depth before s ws x h =
      let a = then_takes (words_at depth shape) (all_words_at depth shapes (codes ", ")) before s ws x h in
      let v = valued shape depth a.0 a.1 a.2 a.5 in
      let r = all_valued shapes depth (codes ", ") a.2 a.3 x a.6 in
      subst (λ (us : List ℕ). ValuedAll (and_shape shape shapes) depth before s us x) a.7 (record {
        vs = and_value v.v r.vs;
        gives = λ more. rw (append_assoc a.1 a.3 more, v.gives (a.3 ++ more), r.gives more) refl;
        is = step before a.4 (step (constant v.v) v.is r.is) ∙ three before (constant v.v) (constants (codes ", ") r.vs) x;
        low = omega (arith, v.low, r.low);
      })

pub times_take : (n depth : ℕ) (shape : Shape) (s ws x : List ℕ) → times_at n (words_at depth shape) [] s ≡ Some (ws, x) → ValuedTimes n shape depth [] s ws x
times_take n depth shape s ws x h = times_valued n depth shape [] s ws x (λ s ws x k. valued shape depth s ws x k) h
