-- A whole run of a translation: its statics stand for each moment, and it makes the specification's calls.
use Rattle.std.proofs.Common.{◌≡◌, ℕ, zero, suc, ◌+◌, ◌%◌, ◌<◌, ◌≤◌, List, [], ◌∷◌, ◌++◌, length, map, length-append, append-nil, append_assoc, Option, Some, None, Result, Ok, Err, refl, sym, ap, ◌∙◌, subst, arith}
use Rattle.std.specs.Prelude.{slice_get, slice_index_or, IsOk}
use Rattle.std.specs.Option.{option_map, option_map_or, option_and_then}
use Rattle.std.specs.List.{AllByRecursion}
use Rattle.std.proofs.Math.Nat.{mod-eq_of_lt}
use Rattle.std.proofs.lemmas.List.{length-map}
use Rattle.std.proofs.lemmas.Option.{slice_get-map, slice_get_within}
use Rattle.sm_io.proofs.Elements.{all_by_place, map_push}
use Rattle.stream_types.specs.declared.scalar.Hazard.{Hazard}
use Rattle.stream_types.specs.declared.types.TypeEntry.{TypeEntry}
use Rattle.stream_types.specs.Types.{words, AreWords}
use Rattle.stream_core.specs.Term.{Term, TreeSpec, TreeStream, TreeObserver, TreeLib, initial_count}
use Rattle.stream_core.specs.Eval as eval
use Rattle.stream_core.specs.Eval.{Moment, Table, Line, Event, StepValues, entry_at, extend, chunks, lines, stream_line, operand_lines, initial, moment, row_leaves, step_events, table_after, or_none, log}
use Rattle.stream_core.specs.StepParts.{HaveValues, AreObserved}
use Rattle.stream_core.specs.Handlers.{Call, calls, calls_of, call_of}
use Rattle.stream_core.proofs.Reach.{length_chunks}
use Rattle.stream_core.proofs.PartsOfSteps.{events_apart, table_together}
use Rattle.c99_tree.specs.declared.types.CVar.{CVar}
use Rattle.c99_tree.specs.declared.types.CDef.{CDef}
use Rattle.c99_tree.specs.declared.unit.CRing.{CRing}
use Rattle.c99_tree.specs.declared.unit.Unit.{Unit as CUnit}
use Rattle.c99_tree.specs.Values.{Value, Shape, values, filled, repeated, whole, first_values}
use Rattle.c99_tree.specs.Step.{Called, step}
use Rattle.c99_tree.specs.Run.{Ran, first_copy, first_ring, first_statics, row_at, with_step, stepped, run_to, run}
use Rattle.c99_tree.specs.Run as c_run
use Rattle.ring_codegen.specs.CTypes.{c_def, c_extern}
use Rattle.ring_codegen.specs.Simulation.{called}
use Rattle.ring_codegen.specs.Translation.{ring_of}
use Rattle.ring_codegen.specs.Standing.{HasWords, HoldsAt, HoldsRing, IsRingLong, IsProgramOf, HasSteps, IsNextMoment, AreBefore, Steps}
use Rattle.ring_codegen.proofs.Worded.{element_at}
use Rattle.ring_codegen.proofs.NamedOnce.{looks_up}
use Rattle.ring_codegen.proofs.OperatorPremises.{OperatorTypes, OperatorWords}
use Rattle.ring_codegen.proofs.ShapedTypes.{has_shape, fills, fill_times, list_back, chunk_at}
use Rattle.ring_codegen.proofs.StepWhole.{steps, lines-exprs}

-- ---- lists

index_front : (xs ys : List (List ℕ)) (i : ℕ) → i < length xs → slice_index_or (xs ++ ys) i [] ≡ slice_index_or xs i []
index_front [] ys i b = absurd (omega (arith, b))
index_front (x ∷ xs) ys zero b = refl
index_front (x ∷ xs) ys (suc i) b = index_front xs ys i (omega (arith, b))

index_last : (xs : List (List ℕ)) (y : List ℕ) (i : ℕ) → i ≡ length xs → slice_index_or (xs ++ y ∷ []) i [] ≡ y
index_last [] y zero e = refl
index_last [] y (suc i) e = absurd (omega (arith, e))
index_last (x ∷ xs) y zero e = absurd (omega (arith, e))
index_last (x ∷ xs) y (suc i) e = index_last xs y i (omega (arith, e))

extended : (T : Table) (ys : List (List ℕ)) (k : ℕ) → k < length T → k < length ys → slice_index_or (extend T ys) k [] ≡ slice_index_or T k [] ++ slice_index_or ys k [] ∷ []
extended [] ys k b c = absurd (omega (arith, b))
extended (xs ∷ T) [] k b c = absurd (omega (arith, c))
extended (xs ∷ T) (y ∷ ys) zero b c = refl
extended (xs ∷ T) (y ∷ ys) (suc k) b c = extended T ys k (omega (arith, b)) (omega (arith, c))

as_many : (T : Table) (ys : List (List ℕ)) → length (extend T ys) ≡ length T
as_many [] ys = refl
as_many (xs ∷ T) [] = refl
as_many (xs ∷ T) (y ∷ ys) = ap suc (as_many T ys)

many_values : (m : Moment) (es : List Term) (vs : List (List ℕ)) → HaveValues m es vs → length vs ≡ length es
many_values m [] [] h = refl
many_values m [] (v ∷ vs) h = absurd h
many_values m (e ∷ es) [] h = absurd h
many_values m (e ∷ es) (v ∷ vs) h = ap suc (many_values m es vs h.1)

first_list : (types : List TypeEntry) (xs : List TreeStream) (ls : List Line) (k : ℕ) (x : TreeStream) → slice_get xs k ≡ Some x
    → slice_index_or (map (λ (l : Line). l.init) (map (stream_line types) xs ++ ls)) k [] ≡ chunks (initial_count types x) (words types x.ty) x.init
first_list types [] ls k x e = absurd (cc e)
first_list types (y ∷ xs) ls zero x e = let s : y ≡ x = cc e in ap (λ (z : TreeStream). chunks (initial_count types z) (words types z.ty) z.init) s
first_list types (y ∷ xs) ls (suc k) x e = first_list types xs ls k x e

as_many_lists : (types : List TypeEntry) (xs : List TreeStream) → length (map (λ (l : Line). l.init) (map (stream_line types) xs ++ [])) ≡ length xs
as_many_lists types [] = refl
as_many_lists types (x ∷ xs) = ap suc (as_many_lists types xs)

row-is : (h : List (List ℕ)) (n : ℕ) → row_at h n ≡ slice_index_or h n []
row-is [] n = refl
row-is (row ∷ h) zero = refl
row-is (row ∷ h) (suc n) = row-is h n

-- ---- calls

no_calls : (spec : TreeSpec) (m : Moment) (i : ℕ) (xs : List TreeObserver) (es : List Event) → AreObserved m i xs es → calls_of spec es ≡ []
no_calls spec m i [] es h = ap (calls_of spec) h
no_calls spec m i (x ∷ xs) es h = ap (calls_of spec) h.2 ∙ no_calls spec m (i + 1) xs h.1 h.4

both_calls : (spec : TreeSpec) (es fs : List Event) → calls_of spec (es ++ fs) ≡ calls_of spec es ++ calls_of spec fs
both_calls spec [] fs = refl
both_calls spec (e ∷ es) fs = ap (λ (cs : List Call). call_of spec e.who e.words ++ cs) (both_calls spec es fs) ∙ sym (append_assoc (call_of spec e.who e.words) (calls_of spec es) (calls_of spec fs))

-- ---- a ring's first values

abbrev with_first : Value → (List Value × List ℕ) → (List Value × List ℕ)
with_first v b = (v ∷ b.0, b.1)

times_long : (n : ℕ) (f : List ℕ → Option (Value × List ℕ)) (ws : List ℕ) (vs : List Value) (rest : List ℕ) → repeated n f ws ≡ Some (vs, rest) → length vs ≡ n
times_long zero f ws vs rest e = sym (ap (λ (o : Option (List Value × List ℕ)). length (option_map_or (λ (a : List Value × List ℕ). a.0) o [])) e)
times_long (suc n) f ws vs rest e = by (λ r ys z q. times_long n f r ys z q) (f ws) e
  where
    inner : ((r : List ℕ) (ys : List Value) (z : List ℕ) → repeated n f r ≡ Some (ys, z) → length ys ≡ n) → (v : Value) (r : List ℕ) (o : Option (List Value × List ℕ)) → repeated n f r ≡ o
        → option_map (with_first v) o ≡ Some (vs, rest) → length vs ≡ suc n
    inner ih v r None q g = absurd (cc g)
    inner ih v r (Some (ys, z)) q g = sym (ap (λ (o : Option (List Value × List ℕ)). length (option_map_or (λ (a : List Value × List ℕ). a.0) o [])) g) ∙ ap suc (ih r ys z q)

    by : ((r : List ℕ) (ys : List Value) (z : List ℕ) → repeated n f r ≡ Some (ys, z) → length ys ≡ n) → (o : Option (Value × List ℕ))
        → option_and_then (λ (a : Value × List ℕ). option_map (with_first a.0) (repeated n f a.1)) o ≡ Some (vs, rest) → length vs ≡ suc n
    by ih None g = absurd (cc g)
    by ih (Some (v, r)) g = inner ih v r (repeated n f r) refl g

-- the events of a step
record Found (spec : TreeSpec) (h : List (List ℕ)) (n : ℕ) : Type 0 where
  events : List Event
  are : step_events spec h n ≡ Ok events

found_events : (spec : TreeSpec) (h : List (List ℕ)) (n : ℕ) (r : Result (List Event) Hazard) → step_events spec h n ≡ r → IsOk r → Found spec h n
found_events spec h n (Ok es) e ok = record { events = es; are = e }
found_events spec h n (Err z) e ok = absurd (cc ok)

module _ (spec : TreeSpec) (u : CUnit) (has : HasSteps spec) (is : IsProgramOf spec u) (types : OperatorTypes) (ops : OperatorWords) where
  abbrev ds : List CDef
  ds = map (c_def spec.types) spec.types

  long : (k : ℕ) (x : TreeStream) → slice_get spec.streams k ≡ Some x → IsRingLong spec.types x
  long k x e = (looks_up spec u has.translatable is.declares).long k x e

  -- ---- the first statics

  record FirstValues (x : TreeStream) : Type 0 where
    all : List Value
    are : first_values ds (ring_of spec.types x) ≡ Some all
    size : length all ≡ initial_count spec.types x
    holds : (j : ℕ) → j < initial_count spec.types x → HoldsAt spec.types x.ty all j (slice_index_or (chunks (initial_count spec.types x) (words spec.types x.ty) x.init) j [])

  first_held : (k : ℕ) (x : TreeStream) → slice_get spec.streams k ≡ Some x → FirstValues x
  first_held k x e =
      let l = long k x e in
      let count = initial_count spec.types x in
      let s = has_shape spec.types has.translatable.types has.translatable.structs x.ty l.stands in
      let t = fill_times spec.types has.translatable.types has.translatable.structs x.ty s.shape (λ ws a. fills spec.types has.translatable.types has.translatable.structs s.shape x.ty ws s.fits a) count x.init l.initial in
      let filled_is : repeated count (filled s.shape) x.init ≡ Some (t.all, []) = ap (repeated count (filled s.shape)) (sym (append-nil x.init)) ∙ t.are [] in
      record {
        all = t.all;
        are = ap (λ (o : Option Shape). option_and_then (λ (z : Shape). option_and_then whole (repeated count (filled z) x.init)) o) s.is ∙ ap (option_and_then whole) filled_is;
        size = times_long count (filled s.shape) x.init t.all [] filled_is;
        holds = λ j b.
            let at = element_at spec.types has.translatable.types x.ty count j (values t.all) x.init b t.words in
            record {
              value = at.value;
              is = ap (λ (vs : List Value). slice_get vs j) (sym (list_back spec.types has.translatable.types has.translatable.structs t.all)) ∙ at.is;
              words = subst (HasWords spec.types x.ty at.value) (sym (chunk_at spec.types has.translatable.types has.translatable.structs count (words spec.types x.ty) x.init j b)) at.words;
            };
      }

  -- ---- the run

  record RunStands (h : List (List ℕ)) (n : ℕ) : Type 0 where
    table : Table
    table_is : table_after spec h n ≡ Ok table
    many : length table ≡ length spec.streams
    grown : (k : ℕ) (x : TreeStream) → slice_get spec.streams k ≡ Some x → length (slice_index_or table k []) ≡ initial_count spec.types x + n
    ran : Ran
    ran_is : run_to u h n ≡ Ok ran
    statics : AreBefore spec (moment spec table h n) ran.statics
    calls_are : ran.called ≡ map (map called) (calls spec h n)

  initial_is : (k : ℕ) (x : TreeStream) → slice_get spec.streams k ≡ Some x → slice_index_or (initial spec) k [] ≡ chunks (initial_count spec.types x) (words spec.types x.ty) x.init
  initial_is k x e = first_list spec.types spec.streams (operand_lines spec.libs) k x e

  first_rings_hold : (h : List (List ℕ)) (k : ℕ) (x : TreeStream) → slice_get spec.streams k ≡ Some x → HoldsRing spec (moment spec (initial spec) h 0) (first_statics u).rings k x
  first_rings_hold h k x e =
      let f = first_held k x e in
      let l = long k x e in
      let some = l.some in
      let count = initial_count spec.types x in
      record {
        state = record { values = f.all; index = 0 };
        is = (λ j. slice_get (map (first_ring (is.declares.types j)) (is.declares.rings j)) k)
            ∙ slice_get-map (first_ring ds) (map (ring_of spec.types) spec.streams) k
            ∙ ap (option_map (first_ring ds)) (slice_get-map (ring_of spec.types) spec.streams k ∙ ap (option_map (ring_of spec.types)) e)
            ∙ ap (λ (o : Option (List Value)). Some (record { values = option_map_or (λ (vs : List Value). vs) o []; index = 0 })) f.are;
        stands = record {
          long = f.size;
          index = omega (arith, some);
          entries = λ j b.
              let hold = f.holds j b in
              let z : 0 + j ≡ j = omega arith in
              let place : (0 + j) % count ≡ j = ap (λ (i : ℕ). i % count) z ∙ mod-eq_of_lt b in
              record {
                value = hold.value;
                is = ap (λ (i : ℕ). slice_get f.all i) place ∙ hold.is;
                words = subst (HasWords spec.types x.ty hold.value) (ap (λ (xs : List (List ℕ)). slice_index_or xs j []) (sym (initial_is k x e)) ∙ ap (λ (i : ℕ). entry_at (initial spec) k i) (sym z)) hold.words;
              };
        };
      }

  run_begins : (h : List (List ℕ)) → RunStands h 0
  unfolding run_to
  run_begins h = record {
    table = initial spec;
    table_is = refl;
    many = ap (λ (ls : List TreeLib). length (map (λ (l : Line). l.init) (map (stream_line spec.types) spec.streams ++ operand_lines ls))) has.libs ∙ as_many_lists spec.types spec.streams;
    grown = λ k x e. let l : length (slice_index_or (initial spec) k []) ≡ initial_count spec.types x = ap (λ (xs : List (List ℕ)). length xs) (initial_is k x e) ∙ length_chunks (initial_count spec.types x) (words spec.types x.ty) x.init in omega (arith, l);
    ran = record { statics = first_statics u; called = [] };
    ran_is = refl;
    statics = record {
      copies = length-map u.externs (first_copy u.types) ∙ ap (λ (xs : List CVar). length xs) is.declares.externs ∙ length-map spec.externs (c_extern spec.types);
      many = length-map u.rings (first_ring u.types) ∙ ap (λ (xs : List CRing). length xs) is.declares.rings ∙ length-map spec.streams (ring_of spec.types);
      rings = λ k x e. first_rings_hold h k x e;
    };
    calls_are = refl;
  }

  run_more_is : (h : List (List ℕ)) (n : ℕ) → run_to u h (suc n) ≡ stepped u (row_at h n) n (run_to u h n)
  unfolding run_to
  run_more_is h n = refl

  run_goes_on : (h : List (List ℕ)) (n : ℕ) → AllByRecursion (AreWords (row_leaves spec)) h → n < length h → IsOk (step_events spec h n) → RunStands h n → RunStands h (suc n)
  run_goes_on h n rows b ok before =
      let f = found_events spec h n (step_events spec h n) refl ok in
      let T = before.table in
      let m = moment spec T h n in
      let a = events_apart spec h n T before.table_is f.events f.are in
      let v = a.0 in
      let clean = a.1 in
      let values_are = subst (λ es. HaveValues m es v.nexts) (lines-exprs spec has.libs) clean.nexts in
      let next_table = extend T v.nexts in
      let next = moment spec next_table h (suc n) in
      let counted : length v.nexts ≡ length spec.streams = many_values m (map (λ (x : TreeStream). x.expr) spec.streams) v.nexts values_are ∙ length-map spec.streams (λ (x : TreeStream). x.expr) in
      let tall = before.many in
      let list_is : (k : ℕ) (x : TreeStream) → slice_get spec.streams k ≡ Some x → slice_index_or next_table k [] ≡ slice_index_or T k [] ++ slice_index_or v.nexts k [] ∷ [] =
      λ k x e. let w = slice_get_within spec.streams k x e in extended T v.nexts k (omega (arith, w, tall)) (omega (arith, w, counted)) in
      let grows : IsNextMoment spec m next v.nexts = λ k x e.
      let l = before.grown k x e in
      record {
        before = λ j c.
            let p : suc n + j ≡ n + suc j = omega arith in
            let q : suc n + j < length (slice_index_or T k []) = omega (arith, l, c) in
            ap (λ (xs : List (List ℕ)). slice_index_or xs (suc n + j) []) (list_is k x e) ∙ index_front (slice_index_or T k []) (slice_index_or v.nexts k [] ∷ []) (suc n + j) q
            ∙ ap (λ (i : ℕ). slice_index_or (slice_index_or T k []) i []) p;
        last = λ j c.
            let q : suc n + j ≡ length (slice_index_or T k []) = omega (arith, l, c) in
            ap (λ (xs : List (List ℕ)). slice_index_or xs (suc n + j) []) (list_is k x e) ∙ index_last (slice_index_or T k []) (slice_index_or v.nexts k []) (suc n + j) q;
      } in
      let row = slice_index_or h n [] in
      let words_are : AreWords (row_leaves spec) row = all_by_place (AreWords (row_leaves spec)) h rows n [] b in
      let st : Steps spec u next before.ran.statics row v.triggered =
      steps spec u has is types ops m next before.ran.statics row v.triggered v.nexts (record { types = refl; externs = refl }) refl before.statics words_are clean.triggered values_are grows in
      let events_calls : calls_of spec f.events ≡ calls_of spec v.triggered =
      ap (calls_of spec) a.2 ∙ both_calls spec v.triggered v.observed ∙ ap (λ (cs : List Call). calls_of spec v.triggered ++ cs) (no_calls spec m 0 spec.observers v.observed clean.observed) ∙ append-nil (calls_of spec v.triggered) in
      record {
        table = next_table;
        table_is = table_together spec h n T before.table_is next_table v clean refl;
        many = as_many T v.nexts ∙ before.many;
        grown = λ k x e.
            let l = before.grown k x e in
            let s = ap (λ (xs : List (List ℕ)). length xs) (list_is k x e) ∙ length-append (slice_index_or T k []) (slice_index_or v.nexts k [] ∷ []) in
            s ∙ (let t : length (slice_index_or T k []) + 1 ≡ initial_count spec.types x + suc n = omega (arith, l) in t);
        ran = record { statics = st.end.statics; called = before.ran.called ++ st.end.called ∷ [] };
        ran_is = run_more_is h n ∙ ap (stepped u (row_at h n) n) before.ran_is
            ∙ ap (λ (r : List ℕ). with_step n before.ran.called (step u before.ran.statics r).value) (row-is h n)
            ∙ ap (with_step n before.ran.called) st.is;
        statics = st.statics;
        calls_are = (λ j. before.calls_are j ++ (st.calls ∙ ap (map called) (sym events_calls)) j ∷ [])
            ∙ sym (map_push (map called) (calls spec h n) (calls_of spec f.events))
            ∙ ap (map (map called)) (sym (map_push (calls_of spec) (log spec h n) f.events))
            ∙ ap (λ (r : Result (List Event) Hazard). map (map called) (map (calls_of spec) (log spec h n ++ or_none r ∷ []))) (sym f.are);
      }

  run_stands : (h : List (List ℕ)) (n : ℕ) → AllByRecursion (AreWords (row_leaves spec)) h → n ≤ length h → ((t : ℕ) → t < n → IsOk (step_events spec h t)) → RunStands h n
  run_stands h zero rows b ok = run_begins h
  run_stands h (suc n) rows b ok = run_goes_on h n rows (omega (arith, b)) (ok n (omega arith)) (run_stands h n rows (omega (arith, b)) (λ t c. ok t (omega (arith, c))))

  pub same_calls : (h : List (List ℕ)) (n : ℕ) → eval.IsHistory spec h → eval.Clean spec h n → run u h n ≡ Ok (map (map called) (calls spec h n))
  same_calls h n rows clean =
      let r = run_stands h n rows clean.within clean.ok in
      ap c_run.calls_of r.ran_is ∙ ap (λ (cs : List (List Called)). Ok cs) r.calls_are
