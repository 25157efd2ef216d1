-- Tables of values as they grow: they meet the equations, keep their entries, and depend on the rows so far alone.
use Rattle.std.proofs.Common.{◌≡◌, ℕ, zero, suc, ◌+◌, ◌<◌, ◌≤◌, List, [], ◌∷◌, ◌++◌, length, take, Ok, Err, refl, sym, ap, ◌∙◌, ⊎_elim, subst, arith}
use Rattle.std.specs.Prelude.{slice_index_or, Result, map}
use Rattle.std.specs.List.{AllByRecursion}
use Rattle.std.proofs.lemmas.Bool.{cases_lt}
use Rattle.std.proofs.lemmas.List.{length-append, append-nil, take-append-le, get_or_append_left, get_or-take}
use Rattle.std.proofs.Math.Seq.{take-length, get_or-append_seam}
use Rattle.stream_types.specs.declared.scalar.Hazard.{Hazard}
use Rattle.stream_core.specs.Term.{TreeSpec}
use Rattle.stream_core.specs.Library.{bind}
use Rattle.stream_core.specs.Eval.{Table, Line, lines, Value, Event, StepValues, entry_at, value, values, moment, step_at, fired, observed, extend, grown, next_table, table_after, step_events, events_of}
use Rattle.stream_core.specs.Equations.{ReadsWithin, bound_of, LineMeets, AllMeet, Meets, Bounded, IsFront}
use Rattle.stream_core.proofs.Values.{value_same}

-- what an Ok holds
abbrev value_in : {A : Type 0} → A → Result A Hazard → A
value_in d (Ok x) = x
value_in d (Err e) = d

-- ---- the parts of a step that has no hazard

values_first : (v : Value) (r : Result (List (List ℕ)) Hazard) (ns : List (List ℕ)) → bind v (λ x. bind r (λ xs. Ok (x ∷ xs))) ≡ Ok ns → (y : List ℕ) × (ys : List (List ℕ)) × (v ≡ Ok y) × (r ≡ Ok ys) × (y ∷ ys ≡ ns)
values_first (Ok y) (Ok ys) ns e = (y, ys, refl, refl, ap (value_in ns) e)
values_first (Ok y) (Err h) ns e = absurd (cc)
values_first (Err h) r ns e = absurd (cc)

abbrev nexts_in : Result StepValues Hazard → List (List ℕ) → Result (List (List ℕ)) Hazard
nexts_in (Ok v) d = Ok v.nexts
nexts_in (Err e) d = Ok d

nexts_are : (f o : Result (List Event) Hazard) (w : Result (List (List ℕ)) Hazard) (v : StepValues) → bind f (λ ts. bind o (λ os. bind w (λ ns. Ok (record { triggered = ts; observed = os; nexts = ns })))) ≡ Ok v → w ≡ Ok v.nexts
nexts_are (Ok ts) (Ok os) (Ok ns) v e = ap (λ r. nexts_in r ns) e
nexts_are (Ok ts) (Ok os) (Err h) v e = absurd (cc)
nexts_are (Ok ts) (Err h) w v e = absurd (cc)
nexts_are (Err h) o w v e = absurd (cc)

-- ---- tables meet the equations

module _ (s : TreeSpec) (h : List (List ℕ)) (n : ℕ) (T : Table) where
  -- a table's lists keep their entries below the bounds
  agree_more : (ls : List Line) (xss : Table) (ns : List (List ℕ)) → AllMeet s h n T ls xss → (k i : ℕ) → i < bound_of ls k + n → entry_at xss k i ≡ entry_at (extend xss ns) k i
  agree_more [] [] ns all k i b = refl
  agree_more [] (xs ∷ xss) ns all k i b = absurd all
  agree_more (l ∷ ls) [] ns all k i b = absurd all
  agree_more (l ∷ ls) (xs ∷ xss) [] all k i b = refl
  agree_more (l ∷ ls) (xs ∷ xss) (y ∷ ys) all zero i b = sym (get_or_append_left xs (y ∷ []) [] i (omega (arith, b, all.0.count)))
  agree_more (l ∷ ls) (xs ∷ xss) (y ∷ ys) all (suc k) i b = agree_more ls xss ys all.1 k i b

  module _ (X : Table) (bound : ℕ → ℕ) (agree : (k i : ℕ) → i < bound k + n → entry_at T k i ≡ entry_at X k i) where
    value_at : (l : Line) → ReadsWithin bound l.expr → (t : ℕ) → t ≤ n → value (moment s X h t) l.expr ≡ value (moment s T h t) l.expr
    value_at l reads t le = sym (value_same (moment s T h t) T X bound (λ k i b. agree k i (omega (arith, b, le))) l.expr reads)

    line_more : (l : Line) (xs : List (List ℕ)) (z : List ℕ) → LineMeets s h n T l xs → ReadsWithin bound l.expr → value (moment s T h n) l.expr ≡ Ok z → LineMeets s h (suc n) X l (xs ++ z ∷ [])
    line_more l xs z meets reads is = record {
      count = let a = length-append xs (z ∷ []) in omega (arith, a, meets.count);
      start = take-append-le (length l.init) xs (z ∷ []) (omega (arith, meets.count)) ∙ meets.start;
      later = λ t b. ⊎_elim
          (λ (lt : t < n). value_at l reads t (omega (arith, lt)) ∙ meets.later t lt ∙ ap Ok (sym (get_or_append_left xs (z ∷ []) [] (length l.init + t) (omega (arith, lt, meets.count)))))
          (λ (le : n ≤ t).
          let e : n ≡ t = omega (arith, b, le) in
          let at : length xs ≡ length l.init + t = omega (arith, b, le, meets.count) in
          value_at l reads t (omega (arith, b)) ∙ ap (λ k. value (moment s T h k) l.expr) (sym e) ∙ is ∙ ap Ok (sym (get_or-append_seam xs z [] [])) ∙ ap (λ k. Ok (slice_index_or (xs ++ z ∷ []) k [])) at)
          (cases_lt t n);
    }

    all_more : (ls : List Line) (xss : Table) (ns : List (List ℕ)) → AllMeet s h n T ls xss → AllByRecursion (λ (l : Line). ReadsWithin bound l.expr) ls → values (moment s T h n) (map (λ (x : Line). x.expr) ls) ≡ Ok ns → AllMeet s h (suc n) X ls (extend xss ns)
    all_more [] [] ns all reads e = tt
    all_more [] (xs ∷ xss) ns all reads e = absurd all
    all_more (l ∷ ls) [] ns all reads e = absurd all
    all_more (l ∷ ls) (xs ∷ xss) ns all reads e =
        let p = values_first (value (moment s T h n) l.expr) (values (moment s T h n) (map (λ (x : Line). x.expr) ls)) ns e in
        let rest = all_more ls xss p.1 all.1 reads.1 p.3 in
        let here = line_more l xs p.0 all.0 reads.0 p.2 in
        subst (λ ns. AllMeet s h (suc n) X (l ∷ ls) (extend (xs ∷ xss) ns)) p.4 (here, rest)

  -- one more step
  meets_next : Bounded s → Meets s h n T → (v : StepValues) → step_at s (moment s T h n) ≡ Ok v → Meets s h (suc n) (extend T v.nexts)
  meets_next bounded meets v e =
      let ns = nexts_are (fired (moment s T h n) 0 s.triggers) (observed (moment s T h n) 0 s.observers) (values (moment s T h n) (map (λ (x : Line). x.expr) (lines s))) v e in
      record { each = all_more (extend T v.nexts) (bound_of (lines s)) (agree_more (lines s) T v.nexts meets.each) (lines s) T v.nexts meets.each bounded.each ns }

meets_start : (s : TreeSpec) (h : List (List ℕ)) (T : Table) (ls : List Line) → AllMeet s h 0 T ls (map (λ (x : Line). x.init) ls)
meets_start s h T [] = tt
meets_start s h T (l ∷ ls) =
    let rest = meets_start s h T ls in
    (record { count = omega arith; start = take-length l.init; later = λ t b. absurd (omega (arith, b)) }, rest)

-- the table after a step, from the one before it
next_is : (s : TreeSpec) (h : List (List ℕ)) (n : ℕ) (r : Result Table Hazard) (X : Table) → bind r (next_table s h n) ≡ Ok X → (T : Table) × (v : StepValues) × (r ≡ Ok T) × (step_at s (moment s T h n) ≡ Ok v) × (extend T v.nexts ≡ X)
next_is s h n (Err e) X is = absurd (cc)
next_is s h n (Ok T) X is = let p = found (step_at s (moment s T h n)) refl is in (T, p.0, refl, p.1, p.2)
  where
    found : (o : Result StepValues Hazard) → step_at s (moment s T h n) ≡ o → bind o (grown T) ≡ Ok X → (v : StepValues) × (step_at s (moment s T h n) ≡ Ok v) × (extend T v.nexts ≡ X)
    found (Ok v) e g = (v, e, ap (value_in X) g)
    found (Err x) e g = absurd (cc)

-- the table after n steps meets the equations
pub meets : (s : TreeSpec) (h : List (List ℕ)) (n : ℕ) (X : Table) → Bounded s → table_after s h n ≡ Ok X → Meets s h n X
meets s h zero X bounded e =
    let is = ap (value_in X) e in
    record { each = subst (λ Y. AllMeet s h 0 Y (lines s) Y) is (meets_start s h (map (λ (x : Line). x.init) (lines s)) (lines s)) }
meets s h (suc n) X bounded e =
    let p = next_is s h n (table_after s h n) X e in
    let before = meets s h n p.0 bounded p.2 in
    subst (Meets s h (suc n)) p.4 (meets_next s h n p.0 bounded before p.1 p.3)

-- ---- entries stay

front_more : (xss : Table) (ns : List (List ℕ)) (k : ℕ) → IsFront (slice_index_or xss k []) (slice_index_or (extend xss ns) k [])
front_more [] ns k = ([], refl)
front_more (xs ∷ xss) [] k = ([], sym (append-nil (slice_index_or (xs ∷ xss) k [])))
front_more (xs ∷ xss) (y ∷ ys) zero = (y ∷ [], refl)
front_more (xs ∷ xss) (y ∷ ys) (suc k) = front_more xss ys k

append_assoc : (xs ys zs : List (List ℕ)) → (xs ++ ys) ++ zs ≡ xs ++ (ys ++ zs)
append_assoc [] ys zs = refl
append_assoc (x ∷ xs) ys zs = ap (λ r. x ∷ r) (append_assoc xs ys zs)

front_of_front : (xs ys zs : List (List ℕ)) → IsFront xs ys → IsFront ys zs → IsFront xs zs
front_of_front xs ys zs p q = (p.0 ++ q.0, q.1 ∙ ap (λ r. r ++ q.0) p.1 ∙ append_assoc xs p.0 q.0)

pub front_stays : (s : TreeSpec) (h : List (List ℕ)) (m n : ℕ) (T X : Table) → m ≤ n → table_after s h m ≡ Ok T → table_after s h n ≡ Ok X → (k : ℕ) → IsFront (slice_index_or T k []) (slice_index_or X k [])
front_stays s h m zero T X le e f k =
    let z : m ≡ 0 = omega (arith, le) in
    let g = sym e ∙ ap (table_after s h) z ∙ f in
    let is = ap (value_in X) g in
    ([], ap (λ Y. slice_index_or Y k []) (sym is) ∙ sym (append-nil (slice_index_or T k [])))
front_stays s h m (suc n) T X le e f k =
    let p = next_is s h n (table_after s h n) X f in
    let more_ : IsFront (slice_index_or p.0 k []) (slice_index_or X k []) = subst (λ Y. IsFront (slice_index_or p.0 k []) (slice_index_or Y k [])) p.4 (front_more p.0 p.1.nexts k) in
    let earlier : m ≤ n → IsFront (slice_index_or T k []) (slice_index_or X k []) = λ b. front_of_front (slice_index_or T k []) (slice_index_or p.0 k []) (slice_index_or X k []) (front_stays s h m n T p.0 b e p.2 k) more_ in
    let same : n < m → IsFront (slice_index_or T k []) (slice_index_or X k []) = λ b.
    let z : m ≡ suc n = omega (arith, le, b) in
    let is = ap (value_in X) (sym e ∙ ap (table_after s h) z ∙ f) in
    ([], ap (λ Y. slice_index_or Y k []) (sym is) ∙ sym (append-nil (slice_index_or T k []))) in
    ⊎_elim same earlier (cases_lt n m)

-- ---- only the rows so far

module _ (s : TreeSpec) (h g : List (List ℕ)) where
  same_step : (T : Table) (t : ℕ) → slice_index_or h t [] ≡ slice_index_or g t [] → step_at s (moment s T h t) ≡ step_at s (moment s T g t)
  same_step T t e = ap (λ row. step_at s (record (moment s T h t) { row = row })) e

  same_next : (r : Result Table Hazard) (t : ℕ) → slice_index_or h t [] ≡ slice_index_or g t [] → bind r (next_table s h t) ≡ bind r (next_table s g t)
  same_next (Ok T) t e = ap (λ o. bind o (grown T)) (same_step T t e)
  same_next (Err x) t e = refl

  same_table : (t : ℕ) → ((i : ℕ) → i < t → slice_index_or h i [] ≡ slice_index_or g i []) → table_after s h t ≡ table_after s g t
  same_table zero rows = refl
  same_table (suc t) rows =
      let before = same_table t (λ i b. rows i (omega (arith, b))) in
      same_next (table_after s h t) t (rows t (omega arith)) ∙ ap (λ r. bind r (next_table s g t)) before

  same_events : (r : Result Table Hazard) (t : ℕ) → slice_index_or h t [] ≡ slice_index_or g t [] → bind (bind r (λ T. step_at s (moment s T h t))) (λ v. Ok (events_of v)) ≡ bind (bind r (λ T. step_at s (moment s T g t))) (λ v. Ok (events_of v))
  same_events (Ok T) t e = ap (λ o. bind o (λ v. Ok (events_of v))) (same_step T t e)
  same_events (Err x) t e = refl

  -- two histories with the same rows up to a step have the same step
  pub same_so_far : (t : ℕ) → take (t + 1) h ≡ take (t + 1) g → step_events s h t ≡ step_events s g t
  same_so_far t e =
      let rows : (i : ℕ) → i < t + 1 → slice_index_or h i [] ≡ slice_index_or g i [] = λ i b. sym (get_or-take (t + 1) h i [] b) ∙ ap (λ xs. slice_index_or xs i []) e ∙ get_or-take (t + 1) g i [] b in
      same_events (table_after s h t) t (rows t (omega arith)) ∙ ap (λ r. bind (bind r (λ T. step_at s (moment s T g t))) (λ v. Ok (events_of v))) (same_table t (λ i b. rows i (omega (arith, b))))
