-- Votes: how many have the same value, and which more than half have.
use Rattle.std.proofs.Common.{◌≡◌, ℕ, suc, ◌+◌, ◌*◌, ◌/◌, ◌%◌, ◌^◌, ◌<◌, ◌≤◌, List, [], ◌∷◌, ◌++◌, length, map, cond, Some, find, refl, sym, ap, ◌∙◌, subst, zero-add, mod-lt, arith, Bool, true, false, not, ◌||◌, Ok, Err}
use Rattle.std.specs.Prelude.{Option, unwrap_or, count_by, nat_eq, nat_lt, pos, IsTrue}
use Rattle.std.specs.List.{AllByRecursion}
use Rattle.std.specs.Ordering.{int_eq}
use Rattle.std.proofs.Math.Bool.{or-false}
use Rattle.std.proofs.Math.Nat.{mod-eq_of_lt, div-add-mod}
use Rattle.std.proofs.lemmas.Bool.Decides.{nat_tests, same_from_decides, Decides-like, Decides-eqb, Decides-ltb, Decides-int_eq}
use Rattle.std.proofs.lemmas.List.Sums.{sum_by-cons}
use Rattle.stream_types.specs.declared.scalar.Hazard.{Hazard}
use Rattle.stream_types.specs.declared.scalar.Scalar.{Scalar}
use Rattle.stream_types.specs.declared.scalar.Scalar.TheVariants as scalar
use Rattle.stream_types.specs.declared.scalar.Op2.TheVariants as op2
use Rattle.stream_types.specs.Scalars.{is_integer}
use Rattle.stream_types.specs.Numbers.{number, word, is_word, as_word, of_test, op2_word}
use Rattle.stream_core.specs.Term.{Term, Terms, bin, majority, agreed, end, more}
use Rattle.stream_core.specs.Children.{term_list}
use Rattle.stream_core.specs.Library.{bool_word, has_majority, majority_of, agreed_of, bind}
use Rattle.stream_core.specs.Eval.{Moment, Value, value, all_values, cons, one, on_test, on_two, truth}
use Rattle.stream_core.specs.WellTyped.{terms_length}
use Rattle.stream_core.specs.Lower.{lowered, lowered_terms, lowered_all, or_all, one_vote, count_from, count_of, wins, majority_from, majority_term, agreed_term}
use Rattle.form_laws.specs.ScalarTerms.{HasWord}
use Rattle.form_laws.specs.VoteTerms.{HaveVotes}
use Rattle.form_laws.proofs.Chains.{on_or}
use Rattle.form_laws.proofs.WindowSums.{word_again}

-- ---- words of one scalar are the same where their numbers are

same_back : (s : Scalar) (a b : ℕ) → IsTrue (is_integer s) → IsTrue (is_word s a) → IsTrue (is_word s b) → number s a ≡ number s b → a ≡ b
same_back s a b i h k e = sym (word_again s a i h) ∙ ap word e ∙ word_again s b i k

same_word : (s : Scalar) (a b : ℕ) → IsTrue (is_word s a) → IsTrue (is_word s b) → number s a ≡ number s b → a ≡ b
same_word scalar.Bool a b h k e = cc e
same_word scalar.Int8 a b h k e = same_back scalar.Int8 a b refl h k e
same_word scalar.Int16 a b h k e = same_back scalar.Int16 a b refl h k e
same_word scalar.Int32 a b h k e = same_back scalar.Int32 a b refl h k e
same_word scalar.Int64 a b h k e = same_back scalar.Int64 a b refl h k e
same_word scalar.Word8 a b h k e = same_back scalar.Word8 a b refl h k e
same_word scalar.Word16 a b h k e = same_back scalar.Word16 a b refl h k e
same_word scalar.Word32 a b h k e = same_back scalar.Word32 a b refl h k e
same_word scalar.Word64 a b h k e = same_back scalar.Word64 a b refl h k e

equal_tests : (s : Scalar) (a b : ℕ) → IsTrue (is_word s a) → IsTrue (is_word s b) → int_eq (number s a) (number s b) ≡ nat_eq a b
equal_tests s a b h k =
    same_from_decides (int_eq (number s a) (number s b)) (nat_eq a b)
    (Decides-like (int_eq (number s a) (number s b)) (same_word s a b h k) (ap (number s)) (Decides-int_eq (number s a) (number s b)))
    (Decides-eqb a b)

-- ---- one vote

abbrev compared : Scalar → Value → Value → Value
compared s u v = on_test (on_two u v (λ x y. one (op2_word op2.Eq s x y))) (Ok (1 ∷ [])) (Ok (0 ∷ []))

counted_once : (b : Bool) → on_test (one (Ok (word (of_test b)))) (Ok (1 ∷ [])) (Ok (0 ∷ [])) ≡ Ok (bool_word b ∷ [])
counted_once true = refl
counted_once false = refl

vote_value : (m : Moment) (s : Scalar) (a b : Term) (x y : ℕ) → value m a ≡ Ok (x ∷ []) → value m b ≡ Ok (y ∷ []) → IsTrue (is_word s x) → IsTrue (is_word s y) → value m (one_vote s a b) ≡ Ok (bool_word (nat_eq x y) ∷ [])
vote_value m s a b x y p q h k =
    ap (λ v. compared s v (value m b)) p
    ∙ ap (compared s (Ok (x ∷ []))) q
    ∙ ap (λ c. on_test (one (Ok (word (of_test c)))) (Ok (1 ∷ [])) (Ok (0 ∷ []))) (equal_tests s x y h k)
    ∙ counted_once (nat_eq x y)

vote_stops : (m : Moment) (s : Scalar) (a b : Term) (h : Hazard) → value m a ≡ Err h → value m (one_vote s a b) ≡ Err h
vote_stops m s a b h p = ap (λ v. compared s v (value m b)) p

other_stops : (m : Moment) (s : Scalar) (a b : Term) (x : ℕ) (h : Hazard) → value m a ≡ Ok (x ∷ []) → value m b ≡ Err h → value m (one_vote s a b) ≡ Err h
other_stops m s a b x h p q =
    ap (λ v. compared s v (value m b)) p
    ∙ ap (compared s (Ok (x ∷ []))) q

-- ---- counts

-- each expression has its word
abbrev HaveWords : Moment → Scalar → List Term → List ℕ → Type 0
HaveWords m s [] [] = Unit {0}
HaveWords m s [] (w ∷ ws) = ⊥
HaveWords m s (e ∷ es) [] = ⊥
HaveWords m s (e ∷ es) (w ∷ ws) = (value m e ≡ Ok (w ∷ [])) × IsTrue (is_word s w) × HaveWords m s es ws

same_length : (m : Moment) (s : Scalar) (es : List Term) (ws : List ℕ) → HaveWords m s es ws → length es ≡ length ws
same_length m s [] [] h = refl
same_length m s [] (w ∷ ws) h = absurd h
same_length m s (e ∷ es) [] h = absurd h
same_length m s (e ∷ es) (w ∷ ws) h = ap suc (same_length m s es ws h.2)

no_wrap : (x y : ℕ) → x + y ≤ 255 → op2_word op2.Add scalar.Word8 x y ≡ Ok (x + y)
no_wrap x y h =
    let small : x + y < 2 ^ 8 = omega (arith, h) in
    let is : IsTrue (is_word scalar.Word8 (x + y)) = grind (arith, nat_tests, h) in
    ap (λ k. as_word (Ok (pos k))) (mod-eq_of_lt small) ∙ ap Ok (word_again scalar.Word8 (x + y) refl is)

at_most_one : (b : Bool) → bool_word b ≤ 1
at_most_one true = omega arith
at_most_one false = omega arith

as_count : (b : Bool) → bool_word b ≡ cond b 1 0
as_count true = refl
as_count false = refl

counted : (p : ℕ → Bool) (w : ℕ) (ws : List ℕ) → count_by p (w ∷ ws) ≡ bool_word (p w) + count_by p ws
counted p w ws = sum_by-cons (λ y. cond (p y) 1 0) w ws ∙ ap (λ k. k + count_by p ws) (sym (as_count (p w)))

abbrev sum_of : Value → Value → Value
sum_of u v = on_two u v (λ x y. one (op2_word op2.Add scalar.Word8 x y))

added : (m : Moment) (total a : Term) (n k : ℕ) → n + k ≤ 255 → value m total ≡ Ok (n ∷ []) → value m a ≡ Ok (k ∷ []) → value m (bin op2.Add scalar.Word8 total a) ≡ Ok ((n + k) ∷ [])
added m total a n k le p q =
    ap (λ v. sum_of v (value m a)) p
    ∙ ap (sum_of (Ok (n ∷ []))) q
    ∙ ap one (no_wrap n k le)

module _ (m : Moment) (s : Scalar) (a : Term) (x : ℕ) (is : value m a ≡ Ok (x ∷ [])) (x_word : IsTrue (is_word s x)) where
  count_value : (es : List Term) (ws : List ℕ) (total : Term) (n : ℕ) → value m total ≡ Ok (n ∷ []) → HaveWords m s es ws → n + length es ≤ 255
      → value m (count_from s a total es) ≡ Ok ((n + count_by (nat_eq x) ws) ∷ [])
  count_value [] [] total n p have le = let e : n ≡ n + 0 = omega arith in p ∙ ap (λ k. Ok (k ∷ [])) e
  count_value [] (w ∷ ws) total n p have le = absurd have
  count_value (e ∷ es) [] total n p have le = absurd have
  count_value (e ∷ es) (w ∷ ws) total n p have le =
      let k = bool_word (nat_eq x w) in
      let small = at_most_one (nat_eq x w) in
      let more_ : count_by (nat_eq x) (w ∷ ws) ≡ k + count_by (nat_eq x) ws = counted (nat_eq x) w ws in
      let same : (n + k) + count_by (nat_eq x) ws ≡ n + count_by (nat_eq x) (w ∷ ws) = omega (arith, more_) in
      count_value es ws (bin op2.Add scalar.Word8 total (one_vote s a e)) (n + k)
      (added m total (one_vote s a e) n k (omega (arith, small, le)) p (vote_value m s a e x w is have.0 x_word have.1)) have.2 (omega (arith, small, le))
      ∙ ap (λ j. Ok (j ∷ [])) same

  votes_counted : (es : List Term) (ws : List ℕ) → HaveWords m s es ws → length es ≤ 255 → value m (count_of s es a) ≡ Ok (count_by (nat_eq x) ws ∷ [])
  votes_counted [] [] have le = refl
  votes_counted [] (w ∷ ws) have le = absurd have
  votes_counted (e ∷ es) [] have le = absurd have
  votes_counted (e ∷ es) (w ∷ ws) have le =
      let small = at_most_one (nat_eq x w) in
      count_value es ws (one_vote s a e) (bool_word (nat_eq x w)) (vote_value m s a e x w is have.0 x_word have.1) have.2 (omega (arith, small, le))
      ∙ ap (λ j. Ok (j ∷ [])) (sym (counted (nat_eq x) w ws))

-- ---- more than half

more_than_half : (n c : ℕ) → nat_lt (n / 2) c ≡ nat_lt n (2 * c)
more_than_half n c =
    let parts = div-add-mod n 2 in
    let rest : n % 2 < 2 = mod-lt n (omega arith) in
    same_from_decides (nat_lt (n / 2) c) (nat_lt n (2 * c)) (Decides-ltb (n / 2) c)
    (Decides-like (nat_lt n (2 * c)) (λ (t : n < 2 * c). omega (arith, t, parts, rest)) (λ (t : n / 2 < c). omega (arith, t, parts, rest)) (Decides-ltb n (2 * c)))

as_truth : (b : Bool) → one (Ok (word (of_test b))) ≡ Ok (bool_word b ∷ [])
as_truth true = refl
as_truth false = refl

wins_value : (m : Moment) (s : Scalar) (es : List Term) (ws : List ℕ) (a : Term) (x : ℕ) → HaveWords m s es ws → length es ≤ 255 → value m a ≡ Ok (x ∷ []) → IsTrue (is_word s x)
    → value m (wins s es a) ≡ Ok (bool_word (has_majority ws x) ∷ [])
wins_value m s es ws a x have le p h =
    let c = count_by (nat_eq x) ws in
    ap (λ v. on_two v (Ok ((length es / 2) ∷ [])) (λ x y. one (op2_word op2.Gt scalar.Word8 x y))) (votes_counted m s a x p h es ws have le)
    ∙ as_truth (nat_lt (length es / 2) c)
    ∙ ap (λ b. Ok (bool_word b ∷ [])) (more_than_half (length es) c ∙ ap (λ n. nat_lt n (2 * c)) (same_length m s es ws have))

-- ---- the first that wins

counts_some : (b : Bool) (n : ℕ) → not (nat_eq 0 (bool_word b + n)) ≡ (b || not (nat_eq 0 n))
counts_some true n = let e : nat_eq 0 (1 + n) ≡ false = grind (arith, nat_tests) in ap not e
counts_some false n = ap (λ k. not (nat_eq 0 k)) (zero-add n)

some_counted : (p : ℕ → Bool) (w : ℕ) (ws : List ℕ) → not (nat_eq 0 (count_by p (w ∷ ws))) ≡ (p w || not (nat_eq 0 (count_by p ws)))
some_counted p w ws = ap (λ k. not (nat_eq 0 k)) (counted p w ws) ∙ counts_some (p w) (count_by p ws)

chosen : (b : Bool) (u v : Value) (w d : ℕ) (rest : Option ℕ) → u ≡ Ok (w ∷ []) → v ≡ Ok (unwrap_or rest d ∷ []) → on_test (Ok (bool_word b ∷ [])) u v ≡ Ok (unwrap_or (cond b (Some w) rest) d ∷ [])
chosen true u v w d rest p q = p
chosen false u v w d rest p q = q

module _ (m : Moment) (s : Scalar) (es : List Term) (ws : List ℕ) (all : HaveWords m s es ws) (le : length es ≤ 255) where
  first_winner : (as_ : List Term) (vs : List ℕ) (first : Term) (d : ℕ) → value m first ≡ Ok (d ∷ []) → HaveWords m s as_ vs
      → value m (majority_from s es first as_) ≡ Ok (unwrap_or (find (has_majority ws) vs) d ∷ [])
  first_winner [] [] first d p have = p
  first_winner [] (v ∷ vs) first d p have = absurd have
  first_winner (a ∷ as_) [] first d p have = absurd have
  first_winner (a ∷ as_) (v ∷ vs) first d p have =
      ap (λ u. on_test u (value m a) (value m (majority_from s es first as_))) (wins_value m s es ws a v all le have.0 have.1)
      ∙ chosen (has_majority ws v) (value m a) (value m (majority_from s es first as_)) v d (find (has_majority ws) vs) have.0 (first_winner as_ vs first d p have.2)

  some_winner : (as_ : List Term) (vs : List ℕ) (a : Term) (b : Bool) → value m a ≡ Ok (bool_word b ∷ []) → HaveWords m s as_ vs
      → value m (or_all a (map (wins s es) as_)) ≡ Ok (bool_word (b || not (nat_eq 0 (count_by (has_majority ws) vs))) ∷ [])
  some_winner [] [] a b p have = p ∙ ap (λ c. Ok (bool_word c ∷ [])) (sym (or-false b))
  some_winner [] (v ∷ vs) a b p have = absurd have
  some_winner (e ∷ as_) [] a b p have = absurd have
  some_winner (e ∷ as_) (v ∷ vs) a b p have =
      let now = has_majority ws v in
      let later = not (nat_eq 0 (count_by (has_majority ws) vs)) in
      on_or b (now || later) (value m a) (value m (or_all (wins s es e) (map (wins s es) as_))) p (some_winner as_ vs (wins s es e) now (wins_value m s es ws e v all le have.0 have.1) have.2)
      ∙ ap (λ c. Ok (bool_word (b || c) ∷ [])) (sym (some_counted (has_majority ws) v vs))

-- ---- hazards

count_stops : (m : Moment) (s : Scalar) (a total : Term) (es : List Term) (h : Hazard) → value m total ≡ Err h → value m (count_from s a total es) ≡ Err h
count_stops m s a total [] h p = p
count_stops m s a total (e ∷ es) h p =
    count_stops m s a (bin op2.Add scalar.Word8 total (one_vote s a e)) es h (ap (λ v. sum_of v (value m (one_vote s a e))) p)

same_ok : (x y : List ℕ) → ◌≡◌ {A = Value} (Ok x) (Ok y) → x ≡ y
same_ok x y e = cc e

rest_stops : (x : List ℕ) (v : Value) (h : Hazard) → cons (Ok x) v ≡ Err h → v ≡ Err h
rest_stops x (Ok y) h e = absurd (cc)
rest_stops x (Err g) h e = e

module _ (m : Moment) (s : Scalar) where
  -- the votes' words, where none of them has a hazard
  have_words : (es : Terms) (ws : List ℕ) → all_values m es ≡ Ok ws → AllByRecursion (HasWord m s) (term_list es) → HaveWords m s (term_list es) ws
  have_words end ws is all = subst (HaveWords m s []) (same_ok [] ws is) tt
  have_words (more e es) ws is all = parts (value m e) (all_values m es) refl refl (λ vs q. have_words es vs q all.1)
    where
      parts : (u v : Value) → value m e ≡ u → all_values m es ≡ v → ((vs : List ℕ) → all_values m es ≡ Ok vs → HaveWords m s (term_list es) vs) → HaveWords m s (e ∷ term_list es) ws
      parts (Err h) v p q rest = let e : ◌≡◌ {A = Value} (Err h) (Ok ws) = sym (ap (λ u. cons u (all_values m es)) p) ∙ is in absurd (cc)
      parts (Ok x) (Err h) p q rest = let e : ◌≡◌ {A = Value} (Err h) (Ok ws) = sym (ap (λ u. cons u (all_values m es)) p ∙ ap (cons (Ok x)) q) ∙ is in absurd (cc)
      parts (Ok x) (Ok vs) p q rest =
          let found = all.0 x p in
          let whole : found.0 ∷ vs ≡ ws = same_ok (found.0 ∷ vs) ws (sym (ap (λ u. cons u (all_values m es)) p ∙ ap (cons (Ok x)) q ∙ ap (λ y. Ok (y ++ vs)) found.1) ∙ is) in
          subst (HaveWords m s (e ∷ term_list es)) whole (p ∙ ap Ok found.1, found.2, rest vs q)

  later_stops : (a : Term) (x : ℕ) → value m a ≡ Ok (x ∷ []) → IsTrue (is_word s x) → (es : Terms) (total : Term) (n : ℕ) (h : Hazard) → value m total ≡ Ok (n ∷ [])
      → n + length (term_list es) ≤ 255 → AllByRecursion (HasWord m s) (term_list es) → all_values m es ≡ Err h → value m (count_from s a total (term_list es)) ≡ Err h
  later_stops a x is k end total n h p le all stop = absurd (cc)
  later_stops a x is k (more e es) total n h p le all stop =
      parts (value m e) refl (λ total' n' p' le' stop'. later_stops a x is k es total' n' h p' le' all.1 stop')
    where
      next : Term
      next = bin op2.Add scalar.Word8 total (one_vote s a e)

      parts : (u : Value) → value m e ≡ u
          → ((t : Term) (j : ℕ) → value m t ≡ Ok (j ∷ []) → j + length (term_list es) ≤ 255 → all_values m es ≡ Err h → value m (count_from s a t (term_list es)) ≡ Err h)
          → value m (count_from s a next (term_list es)) ≡ Err h
      parts (Err g) q rest =
          let same : ◌≡◌ {A = Value} (Err g) (Err h) = sym (ap (λ u. cons u (all_values m es)) q) ∙ stop in
          count_stops m s a next (term_list es) h
          (ap (λ v. sum_of v (value m (one_vote s a e))) p
          ∙ ap (sum_of (Ok (n ∷ []))) (other_stops m s a e x h is (q ∙ same)))
      parts (Ok y) q rest =
          let found = all.0 y q in
          let small = at_most_one (nat_eq x found.0) in
          let vote = vote_value m s a e x found.0 is (q ∙ ap Ok found.1) k found.2 in
          rest next (n + bool_word (nat_eq x found.0)) (added m total (one_vote s a e) n (bool_word (nat_eq x found.0)) (omega (arith, small, le)) p vote) (omega (arith, small, le))
          (rest_stops y (all_values m es) h (sym (ap (λ u. cons u (all_values m es)) q) ∙ stop))

  -- the first vote, with which the tests begin, and then the others in order
  first_stops : (e : Term) (es : Terms) (h : Hazard) → suc (length (term_list es)) ≤ 255 → AllByRecursion (HasWord m s) (e ∷ term_list es) → all_values m (more e es) ≡ Err h
      → value m (count_of s (e ∷ term_list es) e) ≡ Err h
  first_stops e es h le all stop = parts (value m e) refl
    where
      parts : (u : Value) → value m e ≡ u → value m (count_from s e (one_vote s e e) (term_list es)) ≡ Err h
      parts (Err g) q =
          let same : ◌≡◌ {A = Value} (Err g) (Err h) = sym (ap (λ u. cons u (all_values m es)) q) ∙ stop in
          count_stops m s e (one_vote s e e) (term_list es) h (vote_stops m s e e h (q ∙ same))
      parts (Ok y) q =
          let found = all.0 y q in
          let x = found.0 in
          let is : value m e ≡ Ok (x ∷ []) = q ∙ ap Ok found.1 in
          let small = at_most_one (nat_eq x x) in
          later_stops e x is found.2 es (one_vote s e e) (bool_word (nat_eq x x)) h (vote_value m s e e x x is is found.2 found.2) (omega (arith, small, le)) all.1
          (rest_stops y (all_values m es) h (sym (ap (λ u. cons u (all_values m es)) q) ∙ stop))

  win_stops : (e : Term) (es : Terms) (h : Hazard) → suc (length (term_list es)) ≤ 255 → AllByRecursion (HasWord m s) (e ∷ term_list es) → all_values m (more e es) ≡ Err h
      → value m (wins s (e ∷ term_list es) e) ≡ Err h
  win_stops e es h le all stop = ap (λ v. on_two v (Ok ((suc (length (term_list es)) / 2) ∷ [])) (λ x y. one (op2_word op2.Gt scalar.Word8 x y))) (first_stops e es h le all stop)

  or_stops : (a : Term) (bs : List Term) (h : Hazard) → value m a ≡ Err h → value m (or_all a bs) ≡ Err h
  or_stops a [] h p = p
  or_stops a (b ∷ bs) h p = ap (λ v. on_test v (Ok (1 ∷ [])) (value m (or_all b bs))) p

-- ---- the forms

list_length : (es : Terms) → length (term_list es) ≡ terms_length es
list_length end = refl
list_length (more e es) = ap suc (list_length es)

-- the votes of a lowered form are a list of lowered terms
pub lowered_list : (at : ℕ → ℕ) (es : Terms) → term_list (lowered_terms at es) ≡ lowered_all at es
lowered_list at end = refl
lowered_list at (more e es) = ap (λ as_. lowered at e ∷ as_) (lowered_list at es)

pub majority_kept : (m : Moment) (s : Scalar) (es : Terms) → HaveVotes m s es → value m (majority_term s (term_list es)) ≡ value m (majority s es)
majority_kept m s end votes = refl
majority_kept m s (more e es) given = by_value (all_values m (more e es)) refl
  where
    le : suc (length (term_list es)) ≤ 255
    le = let same = list_length es in omega (arith, given.0, same)

    votes : List Term
    votes = e ∷ term_list es

    by_value : (v : Value) → all_values m (more e es) ≡ v → value m (majority_from s votes e votes) ≡ value m (majority s (more e es))
    by_value (Err h) is =
        ap (λ v. on_test v (value m e) (value m (majority_from s votes e (term_list es)))) (win_stops m s e es h le given.1 is)
        ∙ sym (ap (λ v. bind v (λ ws. Ok (majority_of ws ∷ []))) is)
    by_value (Ok []) is = absurd (have_words m s (more e es) [] is given.1)
    by_value (Ok (w ∷ ws)) is =
        let have = have_words m s (more e es) (w ∷ ws) is given.1 in
        first_winner m s votes (w ∷ ws) have le votes (w ∷ ws) e w have.0 have
        ∙ sym (ap (λ v. bind v (λ ws. Ok (majority_of ws ∷ []))) is)

pub agreed_kept : (m : Moment) (s : Scalar) (es : Terms) → HaveVotes m s es → value m (agreed_term s (term_list es)) ≡ value m (agreed s es)
agreed_kept m s end votes = refl
agreed_kept m s (more e es) given = by_value (all_values m (more e es)) refl
  where
    le : suc (length (term_list es)) ≤ 255
    le = let same = list_length es in omega (arith, given.0, same)

    votes : List Term
    votes = e ∷ term_list es

    by_value : (v : Value) → all_values m (more e es) ≡ v → value m (or_all (wins s votes e) (map (wins s votes) (term_list es))) ≡ value m (agreed s (more e es))
    by_value (Err h) is =
        or_stops m s (wins s votes e) (map (wins s votes) (term_list es)) h (win_stops m s e es h le given.1 is)
        ∙ sym (ap (λ v. bind v (λ ws. truth (agreed_of ws))) is)
    by_value (Ok []) is = absurd (have_words m s (more e es) [] is given.1)
    by_value (Ok (w ∷ ws)) is =
        let have = have_words m s (more e es) (w ∷ ws) is given.1 in
        some_winner m s votes (w ∷ ws) have le (term_list es) ws (wins s votes e) (has_majority (w ∷ ws) w) (wins_value m s votes (w ∷ ws) e w have le have.0 have.1) have.2
        ∙ ap (λ c. Ok (bool_word c ∷ [])) (sym (some_counted (has_majority (w ∷ ws)) w ws))
        ∙ sym (ap (λ v. bind v (λ ws. truth (agreed_of ws))) is)
