-- A monitor takes a row: what it stands for then.
use Rattle.std.proofs.Common.{◌≡◌, ℕ, zero, suc, ◌+◌, ◌<◌, ◌≤◌, min, List, [], ◌∷◌, ◌++◌, length, Result, Ok, Err, refl, sym, ap, ◌∙◌, subst, arith}
use Rattle.std.specs.Prelude.{slice_index_or}
use Rattle.std.specs.List.{AllByRecursion}
use Rattle.std.proofs.Math.Numerals.{add-one}
use Rattle.std.proofs.lemmas.List.{get_or_append_left, get_or_push, length_push}
use Rattle.stream_types.specs.declared.scalar.Hazard.{Hazard}
use Rattle.stream_types.specs.Types.{AreWords}
use Rattle.stream_core.specs.Value.{SpecValue}
use Rattle.stream_core.specs.Term.{TreeSpec}
use Rattle.stream_core.specs.Library.{bind}
use Rattle.stream_core.specs.Eval.{Moment, Table, Event, StepValues, initial, moment, step_at, events_of, extend, grown, next_table, table_after, row_leaves}
use Rattle.stream_core.specs.Plain.{lists_from, moved}
use Rattle.stream_core.specs.Meaning.{IsHistory, closed_spec, step, table}
use Rattle.stream_core.proofs.PartsOfSteps.{step_together}
use Rattle.stream_core.proofs.RingsOfTables.{rings_next, rings_first}
use Rattle.stream_lib.specs.PlainSpecs.{IsSoundPlain}
use Rattle.stream_interp.specs.Seen.{IsSeen, now_moment}
use Rattle.stream_interp.specs.Standing.{MonitorValue, StandsFor}
use Rattle.stream_interp.proofs.SameSteps.{step_now}

each_push : {X : Type 0} (P : X → Type 0) (xs : List X) (x : X) → AllByRecursion P xs → P x → AllByRecursion P (xs ++ x ∷ [])
each_push P [] x h p = (p, tt)
each_push P (y ∷ xs) x h p = (h.0, each_push P xs x h.1 p)

same_ok : {A : Type 0} (x y : A) → ◌≡◌ {A = Result A Hazard} (Ok x) (Ok y) → x ≡ y
same_ok x y e = cc

-- the tables over the rows before a step depend on no later row
module _ (s : TreeSpec) (h g : List (List ℕ)) where
  same_next : (r : Result Table Hazard) (t : ℕ) → slice_index_or h t [] ≡ slice_index_or g t [] → bind r (next_table s h t) ≡ bind r (next_table s g t)
  same_next (Ok T) t e = ap (λ (row : List ℕ). bind (step_at s (record (moment s T h t) { row = row })) (grown T)) e
  same_next (Err x) t e = refl

  same_table : (t : ℕ) → ((i : ℕ) → i < t → slice_index_or h i [] ≡ slice_index_or g i []) → table_after s h t ≡ table_after s g t
  same_table zero rows = refl
  same_table (suc t) rows =
      let before = same_table t (λ i b. rows i (omega (arith, b))) in
      same_next (table_after s h t) t (rows t (omega arith)) ∙ ap (λ (r : Result Table Hazard). bind r (next_table s g t)) before

module _ (s : SpecValue) (plain : IsSoundPlain s) (h : List (List ℕ)) (lists : Table) (are : table s h (length h) ≡ Ok lists) (row : List ℕ) where
  abbrev t : ℕ
  t = length h

  abbrev g : List (List ℕ)
  g = h ++ row ∷ []

  abbrev then_ : Moment
  then_ = moment (closed_spec s) lists g t

  abbrev now : Moment
  now = now_moment s (lists_from t lists) row

  row_there : slice_index_or g t [] ≡ row
  row_there = get_or_push h row [] t refl

  table_is : table s g t ≡ Ok lists
  table_is = same_table (closed_spec s) g h t (λ i b. get_or_append_left h (row ∷ []) [] i b) ∙ are

  found : step_at (closed_spec s) then_ ≡ step_at (closed_spec s) now
  found = step_now s plain lists g t row row_there

  step_is : step s g t ≡ bind (step_at (closed_spec s) now) (λ v. Ok (events_of v))
  step_is =
      ap (λ (r : Result Table Hazard). bind (bind r (λ table. step_at (closed_spec s) (moment (closed_spec s) table g t))) (λ v. Ok (events_of v))) table_is
      ∙ ap (λ (r : Result StepValues Hazard). bind r (λ v. Ok (events_of v))) found

  next_is : table s g (suc t) ≡ bind (step_at (closed_spec s) now) (grown lists)
  next_is =
      ap (λ (r : Result Table Hazard). bind r (next_table (closed_spec s) g t)) table_is
      ∙ ap (λ (r : Result StepValues Hazard). bind r (grown lists)) found

  seen : (rings : Table) → rings ≡ lists_from t lists → IsHistory s h → AreWords (row_leaves (closed_spec s)) row → IsSeen s rings row
  seen rings e history words =
      let l = length_push h row in
      record {
        plain = plain;
        history = g;
        time = t;
        lists = lists;
        rows = each_push (AreWords (row_leaves (closed_spec s))) h row history words;
        there = omega (arith, l);
        row_is = row_there;
        table_is = table_is;
        rings_are = e;
      }

  module _ (v : StepValues) (is : step_at (closed_spec s) now ≡ Ok v) where
    step_ok : step s g t ≡ Ok (events_of v)
    step_ok = step_is ∙ ap (λ (r : Result StepValues Hazard). bind r (λ v. Ok (events_of v))) is

    next_ok : table s g (suc t) ≡ Ok (extend lists v.nexts)
    next_ok = next_is ∙ ap (λ (r : Result StepValues Hazard). bind r (grown lists)) is

    rings_ok : lists_from (t + 1) (extend lists v.nexts) ≡ moved (lists_from t lists) v.nexts
    rings_ok =
        let r = rings_next s plain.typed g t lists table_is plain.no_forms (extend lists v.nexts) next_ok in
        let same : r.0 ≡ v = same_ok r.0 v (sym (step_together (closed_spec s) then_ r.0 r.1) ∙ found ∙ is) in
        r.2 ∙ ap (λ (w : StepValues). moved (lists_from t lists) w.nexts) same

    stands : (rings : Table) (time : ℕ) → IsHistory s h → AreWords (row_leaves (closed_spec s)) row → rings ≡ moved (lists_from t lists) v.nexts → time ≡ min (t + 1) 18446744073709551615
        → StandsFor (record { spec = s; rings = rings; time = time; events = events_of v }) g
    stands rings time history words e count =
        let l : length g ≡ t + 1 = length_push h row in
        record {
          plain = plain;
          history = each_push (AreWords (row_leaves (closed_spec s))) h row history words;
          lists = extend lists v.nexts;
          are = ap (table s g) (l ∙ add-one t) ∙ next_ok;
          rings = e ∙ sym rings_ok ∙ ap (λ (n : ℕ). lists_from n (extend lists v.nexts)) (sym l);
          time = count ∙ ap (λ (n : ℕ). min n 18446744073709551615) (sym l);
        }

-- ---- the monitor

pub is_seen : (m : MonitorValue) (h : List (List ℕ)) (row : List ℕ) → StandsFor m h → AreWords (row_leaves (closed_spec m.spec)) row → IsSeen m.spec m.rings row
is_seen m h row stands words = seen m.spec stands.plain h stands.lists stands.are row m.rings stands.rings stands.history words

capped : (n k : ℕ) → k ≡ min n 18446744073709551615 → min (k + 1) 18446744073709551615 ≡ min (n + 1) 18446744073709551615
capped n k e = omega (arith, e)

-- a row without hazard
pub taken : (m : MonitorValue) (h : List (List ℕ)) (row : List ℕ) (v : StepValues) (rings : Table) (time : ℕ) → StandsFor m h → AreWords (row_leaves (closed_spec m.spec)) row
    → step_at (closed_spec m.spec) (now_moment m.spec m.rings row) ≡ Ok v → rings ≡ moved m.rings v.nexts → time ≡ min (m.time + 1) 18446744073709551615
    → StandsFor (record { spec = m.spec; rings = rings; time = time; events = events_of v }) (h ++ row ∷ []) × (step m.spec (h ++ row ∷ []) (length h) ≡ Ok (events_of v))
taken m h row v rings time stands_ words is e count =
    let s = m.spec in
    let is_then : step_at (closed_spec s) (now_moment s (lists_from (length h) stands_.lists) row) ≡ Ok v = ap (λ (R : Table). step_at (closed_spec s) (now_moment s R row)) (sym stands_.rings) ∙ is in (
      stands s stands_.plain h stands_.lists stands_.are row v is_then rings time stands_.history words
          (e ∙ ap (λ (R : Table). moved R v.nexts) stands_.rings) (count ∙ capped (length h) m.time stands_.time),
      step_ok s stands_.plain h stands_.lists stands_.are row v is_then,
    )

-- a row with a hazard
pub refused : (m : MonitorValue) (h : List (List ℕ)) (row : List ℕ) (z : Hazard) → StandsFor m h → step_at (closed_spec m.spec) (now_moment m.spec m.rings row) ≡ Err z → step m.spec (h ++ row ∷ []) (length h) ≡ Err z
refused m h row z stands_ is =
    let s = m.spec in
    step_is s stands_.plain h stands_.lists stands_.are row
    ∙ ap (λ (R : Table). bind (step_at (closed_spec s) (now_moment s R row)) (λ v. Ok (events_of v))) (sym stands_.rings)
    ∙ ap (λ (r : Result StepValues Hazard). bind r (λ v. Ok (events_of v))) is

-- no row yet
pub first_stands : (s : SpecValue) → IsSoundPlain s → (rings : Table) → rings ≡ initial (closed_spec s) → StandsFor (record { spec = s; rings = rings; time = 0; events = [] }) []
first_stands s plain rings e =
    record { plain = plain; history = tt; lists = initial (closed_spec s); are = refl; rings = e ∙ sym (rings_first (initial (closed_spec s))); time = refl }

-- events are no part of what it stands for
pub still_stands : (m : MonitorValue) (h : List (List ℕ)) (events : List Event) → StandsFor m h → StandsFor (record m { events = events }) h
still_stands m h events stands_ = record { plain = stands_.plain; history = stands_.history; lists = stands_.lists; are = stands_.are; rings = stands_.rings; time = stands_.time }
