-- No step of a demonstration has a hazard, and each of its events is a call.
use Rattle.std.proofs.Common.{◌≡◌, ℕ, zero, suc, ◌+◌, ◌%◌, ◌/◌, ◌<◌, ◌≤◌, List, [], ◌∷◌, ◌++◌, length, get_or, map, Bool, true, false, Result, Ok, Err, refl, sym, ap, ◌∙◌, subst, arith, length-append, append-nil}
use Rattle.std.proofs.Math.Numerals.{one-add}
use Rattle.std.specs.Prelude.{slice_index_or, nat_lt, pos, int_rem, if◌then◌else◌}
use Rattle.std.specs.List.{range_with_len}
use Rattle.std.proofs.lemmas.Bool.{lt-ltb}
use Rattle.stream_types.specs.declared.scalar.Scalar.TheVariants as scalar
use Rattle.stream_types.specs.declared.scalar.Op2.TheVariants as op2
use Rattle.stream_types.specs.declared.scalar.Hazard.{Hazard}
use Rattle.stream_types.specs.declared.scalar.Hazard.TheVariants.{Overflow}
use Rattle.stream_types.specs.Numbers.{as_word, op2_word}
use Rattle.stream_core.specs.Term.{TreeSpec, bin, dropped, lit}
use Rattle.stream_core.specs.Library.{bind, is_true_word}
use Rattle.stream_core.specs.Handlers.{call_of, calls_of}
use Rattle.stream_core.specs.Eval.{Event, Line, Moment, StepValues, Table, chunks, concat_values, entry_at, events_of, events_of_trigger, extend, fired, first_word, grown, initial, lines, moment, next_table, on_two, one, step_at, step_events, stream_line, table_after, trigger, value, values}
use Rattle.demo.specs.Demonstration.{ahead, demo_argument, demo_guard, demo_spec, demo_stream, demo_trigger}

-- ---- answers without hazard

-- a value of which P holds
abbrev Gives : {A : Type 0} → (A → Type 0) → Result A Hazard → Type 0
Gives {A} P r = (v : A) × (r ≡ Ok v) × P v

then_gives : {A B : Type 0} (P : A → Type 0) (Q : B → Type 0) (r : Result A Hazard) (f : A → Result B Hazard) → Gives P r → ((x : A) → P x → Gives Q (f x)) → Gives Q (bind r f)
then_gives P Q r f g h = let k = h g.0 g.2 in (k.0, ap (λ q. bind q f) g.1 ∙ k.1, k.2)

same_ok : {A : Type 0} (x y : A) → ◌≡◌ {A = Result A Hazard} (Ok x) (Ok y) → x ≡ y
same_ok x y e = cc

-- ---- small values

-- the word of a number of 32 bits
abbrev IsSmall : List ℕ → Type 0
IsSmall v = first_word v < 4294967296

abbrev AreSmall : Table → Type 0
AreSmall T = (s i : ℕ) → IsSmall (entry_at T s i)

abbrev AreSmallNext : List (List ℕ) → Type 0
AreSmallNext ns = (k : ℕ) → IsSmall (slice_index_or ns k [])

small_range : (a n i : ℕ) → a + n ≤ 4294967296 → get_or (range_with_len a n) i 0 < 4294967296
small_range a zero i b = omega arith
small_range a (suc n) zero b = omega (arith, b)
small_range a (suc n) (suc i) b = small_range (a + 1) n i (omega (arith, b))

small_chunks : (c : ℕ) (xs : List ℕ) (i : ℕ) → ((j : ℕ) → get_or xs j 0 < 4294967296) → IsSmall (slice_index_or (chunks c 1 xs) i [])
small_chunks zero xs i all = omega arith
small_chunks (suc c) [] zero all = omega arith
small_chunks (suc c) (x ∷ xs) zero all = all 0
small_chunks (suc c) [] (suc i) all = small_chunks c [] i all
small_chunks (suc c) (x ∷ xs) (suc i) all = small_chunks c xs i (λ j. all (suc j))

abbrev stream_lines : ℕ → ℕ → List Line
stream_lines a n = map (stream_line []) (map demo_stream (range_with_len a n))

all_lines : (k : ℕ) → lines (demo_spec k) ≡ stream_lines 0 k
all_lines k = append-nil (stream_lines 0 k)

small_first : (a n s i : ℕ) → a + n ≤ 1000 → IsSmall (entry_at (map (λ (x : Line). x.init) (stream_lines a n)) s i)
small_first a zero s i b = omega arith
small_first a (suc n) zero i b = small_chunks _ (range_with_len a (ahead a + 1)) i (λ j. small_range a (ahead a + 1) j (omega (arith, b)))
small_first a (suc n) (suc s) i b = small_first (a + 1) n s i (omega (arith, b))

small_more : (xs : List (List ℕ)) (y : List ℕ) (i : ℕ) → ((j : ℕ) → IsSmall (slice_index_or xs j [])) → IsSmall y → IsSmall (slice_index_or (xs ++ y ∷ []) i [])
small_more [] y zero all own = own
small_more [] y (suc i) all own = omega arith
small_more (x ∷ xs) y zero all own = all 0
small_more (x ∷ xs) y (suc i) all own = small_more xs y i (λ j. all (suc j)) own

small_grown : (T : Table) (ns : List (List ℕ)) → AreSmall T → AreSmallNext ns → AreSmall (extend T ns)
small_grown [] ns all new s i = omega arith
small_grown (xs ∷ xss) [] all new s i = all s i
small_grown (xs ∷ xss) (y ∷ ys) all new zero i = small_more xs y i (all 0) (new 0)
small_grown (xs ∷ xss) (y ∷ ys) all new (suc s) i = small_grown xss ys (λ s j. all (suc s) j) (λ j. new (suc j)) s i

-- ---- the expressions

-- a sum wraps
sum_gives : (m : Moment) (i d : ℕ) → Gives IsSmall (value m (bin op2.Add scalar.Word32 (dropped i d) (lit scalar.Word32 1)))
sum_gives m i d =
    let x = first_word (entry_at m.table i (m.time + d)) in
    let small : (x + 1) % 4294967296 < 4294967296 = omega arith in
    ((x + 1) % 4294967296 ∷ [], refl, small)

by_seven : (x : ℕ) → x < 4294967296 → nat_lt (x / 7) 4294967296 ≡ true
by_seven x b = lt-ltb (x / 7) 4294967296 (omega (arith, b))

-- a number of 32 bits has a remainder by seven
guard_gives : (m : Moment) (i : ℕ) → AreSmall m.table → Gives (λ v. Unit {0}) (value m (demo_guard i).expr)
guard_gives m i all =
    let x = first_word (entry_at m.table i m.time) in
    by x (nat_lt (x / 7) 4294967296) (by_seven x (all i m.time))
  where
    by : (x : ℕ) (b : Bool) → b ≡ true → Gives (λ v. Unit {0}) (on_two (one (as_word (if b then Ok (int_rem (pos x) (pos 7)) else Err Overflow))) (Ok (0 ∷ [])) (λ r y. one (op2_word op2.Eq scalar.Word32 r y)))
    by x true e = (_, refl, tt)
    by x false e = absurd (cc)

values_give : (m : Moment) (a n : ℕ) → Gives AreSmallNext (values m (map (λ (x : Line). x.expr) (stream_lines a n)))
values_give m a zero = ([], refl, λ k. omega arith)
values_give m a (suc n) =
    then_gives IsSmall AreSmallNext _ _ (sum_gives m a (ahead a)) (λ x own.
    then_gives AreSmallNext AreSmallNext _ _ (values_give m (a + 1) n) (λ xs rest.
    (x ∷ xs, refl, both x xs own rest)))
  where
    both : (x : List ℕ) (xs : List (List ℕ)) → IsSmall x → AreSmallNext xs → AreSmallNext (x ∷ xs)
    both x xs own rest zero = own
    both x xs own rest (suc k) = rest k

-- ---- the triggers

-- at most n events, each of which is a call
record AreCalls (n : ℕ) (es : List Event) : Type 0 where
  few : length es ≤ n
  called : (s : TreeSpec) → length (calls_of s es) ≡ length es

both_called : (s : TreeSpec) (es fs : List Event) → length (calls_of s (es ++ fs)) ≡ length (calls_of s es) + length (calls_of s fs)
both_called s [] fs = omega arith
both_called s (e ∷ es) fs =
    let rest = both_called s es fs in
    let a = length-append (call_of s e.who e.words) (calls_of s (es ++ fs)) in
    let b = length-append (call_of s e.who e.words) (calls_of s es) in
    omega (arith, rest, a, b)

both_calls : (m n : ℕ) (es fs : List Event) → AreCalls m es → AreCalls n fs → AreCalls (m + n) (es ++ fs)
both_calls m n es fs p q = record {
  few = omega (arith, length-append es fs, p.few, q.few);
  called = λ s. let a = both_called s es fs in let b = p.called s in let c = q.called s in let d = length-append es fs in omega (arith, a, b, c, d);
}

trigger_gives : (m : Moment) (j i : ℕ) → AreSmall m.table → Gives (AreCalls 1) (events_of_trigger m j (demo_trigger i))
trigger_gives m j i all =
    then_gives (λ v. Unit {0}) (AreCalls 1) (value m (demo_guard i).expr) _ (guard_gives m i all) (λ g u. by (is_true_word (first_word g)))
  where
    by : (b : Bool) → Gives (AreCalls 1) (if b then bind (concat_values m (demo_argument i ∷ [])) (λ ws. Ok (record { who = trigger j; words = ws } ∷ [])) else Ok [])
    by true = (_, refl, record { few = omega arith; called = λ s. refl })
    by false = ([], refl, record { few = omega arith; called = λ s. refl })

fired_gives : (m : Moment) (j a n : ℕ) → AreSmall m.table → Gives (AreCalls n) (fired m j (map demo_trigger (range_with_len a n)))
fired_gives m j a zero all = ([], refl, record { few = omega arith; called = λ s. refl })
fired_gives m j a (suc n) all =
    then_gives (AreCalls 1) (AreCalls (suc n)) (events_of_trigger m j (demo_trigger a)) _ (trigger_gives m j a all) (λ own p.
    then_gives (AreCalls n) (AreCalls (suc n)) (fired m (j + 1) (map demo_trigger (range_with_len (a + 1) n))) _ (fired_gives m (j + 1) (a + 1) n all) (λ rest q.
    (own ++ rest, refl, subst (λ c. AreCalls c (own ++ rest)) (one-add n) (both_calls 1 n own rest p q))))

-- ---- the steps

record IsGoodStep (k : ℕ) (v : StepValues) : Type 0 where
  calls : AreCalls k (events_of v)
  nexts : AreSmallNext v.nexts

step_gives : (k : ℕ) (m : Moment) → AreSmall m.table → Gives (IsGoodStep k) (step_at (demo_spec k) m)
step_gives k m all =
    then_gives (AreCalls k) (IsGoodStep k) (fired m 0 (demo_spec k).triggers) _ (fired_gives m 0 0 k all) (λ ts p.
    then_gives AreSmallNext (IsGoodStep k) (values m (map (λ (x : Line). x.expr) (lines (demo_spec k)))) _
    (subst (λ (ls : List Line). Gives AreSmallNext (values m (map (λ (x : Line). x.expr) ls))) (sym (all_lines k)) (values_give m 0 k)) (λ ns q.
    (record { triggered = ts; observed = []; nexts = ns }, refl, record { calls = subst (AreCalls k) (sym (append-nil ts)) p; nexts = q })))

table_gives : (k : ℕ) (h : List (List ℕ)) (n : ℕ) → k ≤ 1000 → Gives AreSmall (table_after (demo_spec k) h n)
table_gives k h zero b = (
  initial (demo_spec k),
  refl,
  λ s i.
      subst (λ (ls : List Line). IsSmall (entry_at (map (λ (x : Line). x.init) ls) s i)) (sym (all_lines k)) (small_first 0 k s i (omega (arith, b))),
)
table_gives k h (suc n) b =
    then_gives AreSmall AreSmall (table_after (demo_spec k) h n) (next_table (demo_spec k) h n) (table_gives k h n b) (λ T all.
    then_gives (IsGoodStep k) AreSmall (step_at (demo_spec k) (moment (demo_spec k) T h n)) (grown T) (step_gives k (moment (demo_spec k) T h n) all) (λ v good.
    (extend T v.nexts, refl, small_grown T v.nexts all good.nexts)))

events_give : (k : ℕ) (h : List (List ℕ)) (n : ℕ) → k ≤ 1000 → Gives (AreCalls k) (step_events (demo_spec k) h n)
events_give k h n b =
    then_gives (IsGoodStep k) (AreCalls k) (bind (table_after (demo_spec k) h n) (λ T. step_at (demo_spec k) (moment (demo_spec k) T h n))) _
    (then_gives AreSmall (IsGoodStep k) (table_after (demo_spec k) h n) _ (table_gives k h n b) (λ T all. step_gives k (moment (demo_spec k) T h n) all))
    (λ v good. (events_of v, refl, good.calls))

-- no step meets a hazard
pub no_hazard : (k : ℕ) (h : List (List ℕ)) (n : ℕ) (z : Hazard) → k ≤ 1000 → step_events (demo_spec k) h n ≡ Err z → ⊥
no_hazard k h n z b e = let g = events_give k h n b in let is : ◌≡◌ {A = Result (List Event) Hazard} (Ok g.0) (Err z) = sym g.1 ∙ e in absurd (cc)

-- each event is a call, and a step has at most one for each trigger
pub as_many_calls : (k : ℕ) (h : List (List ℕ)) (n : ℕ) (es : List Event) → k ≤ 1000 → step_events (demo_spec k) h n ≡ Ok es → (length (calls_of (demo_spec k) es) ≡ length es) × (length es ≤ k)
as_many_calls k h n es b e =
    let g = events_give k h n b in
    let is : g.0 ≡ es = same_ok g.0 es (sym g.1 ∙ e) in
    let c : AreCalls k es = subst (AreCalls k) is g.2 in
    (c.called (demo_spec k), c.few)
