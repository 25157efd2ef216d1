-- What opening a place, weighing it and passing over it keep.
use Rattle.std.proofs.Common.{◌≡◌, ◌≢◌, ◌⊎◌, ⊎_elim, inl, inr, ℕ, zero, suc, ◌+◌, ◌-◌, ◌<◌, ◌≤◌, List, [], ◌∷◌, ◌++◌, length, map, replicate, set, get_or, Option, Some, None, refl, sym, ap, ◌∙◌, subst, arith}
use Rattle.std.specs.Prelude.{slice_get, slice_index_or}
use Rattle.std.specs.Option.{option_map, option_to_list}
use Rattle.std.specs.List.{sum_by}
use Rattle.std.proofs.lemmas.List.Sums.{sum_by-set}
use Rattle.std.proofs.lemmas.Bool.{cases_eq, cases_lt}
use Rattle.std.proofs.lemmas.Option.{slice_get_within, slice_get-map, get_or_from_slice_get}
use Rattle.std.proofs.lemmas.List.{length-map, length-replicate, map-append}
use Rattle.stream_core.specs.Value.{SpecValue}
use Rattle.stream_core.specs.Acyclic.{WellFounded}
use Rattle.stream_core.specs.WellTyped.{WellTyped}
use Rattle.stream_core.specs.KnownWeights.{IsKnown}
use Rattle.recursion_check.specs.declared.edges.Edge.{Edge}
use Rattle.recursion_check.specs.declared.weigh.Stage.{Stage}
use Rattle.recursion_check.specs.declared.weigh.Stage.TheVariants as stage
use Rattle.recursion_check.specs.Graph.{Has, Joins, next, places}
use Rattle.recursion_check.specs.Walked.{edge}
use Rattle.recursion_check.specs.Weighed.{AreWeights, KeepsWeights, Waits, all_steps, last_of, node_at, tos, unmet}
use Rattle.recursion_check.proofs.ListElements.{at_has, empty_last, get_push, has_append, has_at, has_left, has_pushed, has_right, length_set, pop_last, set_same, set_other}
use Rattle.recursion_check.proofs.Lighter.{joins_lighter}
use Rattle.recursion_check.proofs.PlaceWeights.{node_behind}
use Rattle.recursion_check.proofs.Places.{joins_there}
use Rattle.sm_io.proofs.Elements.{get_front}

-- ---- lists

-- an element of two lists, one after another, is one of the first or of the second
get_appended : (xs ys : List ℕ) (q u : ℕ) → slice_get (xs ++ ys) q ≡ Some u → (slice_get xs q ≡ Some u) ⊎ Has ys u
get_appended [] ys q u e = inr (at_has ys q u e)
get_appended (x ∷ xs) ys zero u e = inl e
get_appended (x ∷ xs) ys (suc q) u e = get_appended xs ys q u e

get_behind : (xs ys : List ℕ) (q : ℕ) → slice_get (xs ++ ys) (length xs + q) ≡ slice_get ys q
get_behind [] ys q = ap (slice_get ys) (let e : zero + q ≡ q = omega arith in e)
get_behind (x ∷ xs) ys q = ap (slice_get (x ∷ xs ++ ys)) (let e : suc (length xs) + q ≡ suc (length xs + q) = omega arith in e) ∙ get_behind xs ys q

tos_edges : (n : ℕ) (vs : List ℕ) → tos (map (edge n) vs) ≡ vs
tos_edges n [] = refl
tos_edges n (v ∷ vs) = ap (λ ws. v ∷ ws) (tos_edges n vs)

pub tos_pushed : (es : List Edge) (n : ℕ) (vs : List ℕ) → tos (es ++ map (edge n) vs) ≡ tos es ++ vs
tos_pushed es n vs = map-append (λ (e : Edge). e.to) es (map (edge n) vs) ∙ ap (λ ws. tos es ++ ws) (tos_edges n vs)

-- the step to a place of the list
pub step_at : (es : List Edge) (k v : ℕ) → slice_get (tos es) k ≡ Some v → (e : Edge) × (slice_get es k ≡ Some e) × (e.to ≡ v)
step_at [] k v h = absurd (cc)
step_at (e ∷ es) zero v h = (e, refl, cc)
step_at (e ∷ es) (suc k) v h = step_at es k v h

pub last_tos : (es : List Edge) (v : ℕ) → last_of es ≡ Some v → slice_get (tos es) (length (tos es) - 1) ≡ Some v
last_tos es v e = ap (λ n. slice_get (tos es) (n - 1)) (length-map es (λ (x : Edge). x.to)) ∙ e

-- without a last place there is none
pub none_left : (es : List Edge) → last_of es ≡ None → es ≡ []
none_left es e = by (slice_get es (length es - 1)) refl
  where
    by : (o : Option Edge) → slice_get es (length es - 1) ≡ o → es ≡ []
    by None is = empty_last es is
    by (Some x) is = absurd (some_none (slice_get (tos es) (length es - 1)) (slice_get-map (λ (y : Edge). y.to) es (length es - 1) ∙ ap (option_map (λ (y : Edge). y.to)) is) e)
      where
        some_none : (o : Option ℕ) → o ≡ Some x.to → o ≡ None → ⊥
        some_none o f g = cc

-- what a pop takes
pub popped : (es ys : List Edge) (o : Option Edge) (n v : ℕ) → es ≡ ys ++ option_to_list o → n ≡ length es → ((d : Edge) → 0 < n → o ≡ Some (slice_index_or es (n - 1) d)) → last_of es ≡ Some v → tos es ≡ tos ys ++ v ∷ []
popped es ys o n v items len value last =
    let st = step_at es (length es - 1) v last in
    ap tos (pop_last es ys o n st.0 items len value st.1) ∙ map-append (λ (e : Edge). e.to) ys (st.0 ∷ []) ∙ ap (λ x. tos ys ++ x ∷ []) st.2

not_known : (o : Option Stage) → o ≡ Some stage.New → o ≡ Some stage.Known → ⊥
not_known o e f = cc

not_open : (o : Option Stage) → o ≡ Some stage.New → o ≡ Some stage.Open → ⊥
not_open o e f = cc

not_both : (o : Option Stage) → o ≡ Some stage.Known → o ≡ Some stage.Open → ⊥
not_both o e f = cc

-- what a stage that is written leaves
stage_of : (stages : List Stage) (v u : ℕ) (a b : Stage) → slice_get (set stages v a) u ≡ Some b → ((v ≡ u) × (a ≡ b)) ⊎ ((v ≢ u) × (slice_get stages u ≡ Some b))
stage_of stages v u a b e =
    ⊎_elim
    (λ same. inl (same, by same (slice_get_within (set stages v a) u b e)))
    (λ ne. inr (ne, sym (set_other stages v u a ne) ∙ e))
    (cases_eq v u)
  where
    by : v ≡ u → u < length (set stages v a) → a ≡ b
    by same h =
        let l = length_set stages v a in
        let at : slice_get (set stages v a) u ≡ Some a = subst (λ k. slice_get (set stages v a) k ≡ Some a) same (set_same stages v a (omega (arith, h, l, same))) in
        cc

-- ---- the beginning

all_new : (n v : ℕ) (a : Stage) → slice_get (replicate n stage.New) v ≡ Some a → stage.New ≡ a
all_new zero v a e = absurd (cc)
all_new (suc n) zero a e = cc
all_new (suc n) (suc v) a e = all_new n v a e

new_known : stage.New ≡ stage.Known → ⊥
new_known e = cc

new_open : stage.New ≡ stage.Open → ⊥
new_open e = cc

tos_steps : (n : ℕ) → tos (all_steps (suc n)) ≡ tos (all_steps n) ++ n ∷ []
tos_steps n = map-append (λ (e : Edge). e.to) (all_steps n) (record { from = 0; to = n } ∷ [])

steps_there : (n w : ℕ) → Has (tos (all_steps n)) w → w < n
steps_there zero w h = absurd h
steps_there (suc n) w h =
    ⊎_elim
    (λ p. let b = steps_there n w p in omega (arith, b))
    (λ e. omega (arith, e))
    (has_pushed (tos (all_steps n)) n w (subst (λ ws. Has ws w) (tos_steps n) h))

steps_all : (n w : ℕ) → w < n → Has (tos (all_steps n)) w
steps_all zero w b = absurd (omega (arith, b))
steps_all (suc n) w b =
    subst (λ ws. Has ws w) (sym (tos_steps n))
    (⊎_elim
    (λ less. has_left (tos (all_steps n)) (n ∷ []) w (steps_all n w less))
    (λ ge. has_right (tos (all_steps n)) (n ∷ []) w (inl (let e : n ≡ w = omega (arith, b, ge) in e)))
    (cases_lt w n))

pub start_keeps : (s : SpecValue) (n m : ℕ) → n ≡ places s → m ≡ length s.nodes → KeepsWeights s (replicate n stage.New) (replicate m 0) (tos (all_steps n))
start_keeps s n m e f = record {
  size = length-replicate n stage.New ∙ e;
  count = length-replicate m 0 ∙ f;
  there = λ w h. let b = steps_there n w h in omega (arith, b, e);
  all = λ v b. inr (steps_all n v (omega (arith, b, e)));
  known = λ v h. absurd (new_known (all_new n v stage.Known h));
  waits = λ v h. absurd (new_open (all_new n v stage.Open h));
}

-- ---- the steps

-- the last place on the list is one
pub last_there : (s : SpecValue) (stages : List Stage) (weights ts : List ℕ) (v : ℕ) → KeepsWeights s stages weights ts → slice_get ts (length ts - 1) ≡ Some v → v < length stages
last_there s stages weights ts v k last = let b = k.there v (at_has ts (length ts - 1) v last) in let l = k.size in omega (arith, b, l)

-- a new place that is opened is one less
pub opened_unmet : (stages : List Stage) (v : ℕ) → slice_get stages v ≡ Some stage.New → sum_by unmet (set stages v stage.Open) + 1 ≡ sum_by unmet stages
opened_unmet stages v e =
    let b = slice_get_within stages v stage.New e in
    let at : get_or stages v stage.Known ≡ stage.New = get_or_from_slice_get stages v stage.New stage.Known e in
    let r = sum_by-set unmet stages v stage.Open stage.Known b in
    let z : unmet (get_or stages v stage.Known) ≡ 1 = ap unmet at in
    omega (arith, r, z)

pub weighed_unmet : (stages : List Stage) (v : ℕ) → slice_get stages v ≡ Some stage.Open → sum_by unmet (set stages v stage.Known) ≡ sum_by unmet stages
weighed_unmet stages v e =
    let b = slice_get_within stages v stage.Open e in
    let at : get_or stages v stage.Known ≡ stage.Open = get_or_from_slice_get stages v stage.Open stage.Known e in
    let r = sum_by-set unmet stages v stage.Known stage.Known b in
    let z : unmet (get_or stages v stage.Known) ≡ 0 = ap unmet at in
    omega (arith, r, z)

module _ (s : SpecValue) (stages : List Stage) (weights ts : List ℕ) (k : KeepsWeights s stages weights ts) (v : ℕ) where
  -- where the last place on the list is open, all to which it leads are weighed
  pub all_weighed : slice_get ts (length ts - 1) ≡ Some v → slice_get stages v ≡ Some stage.Open → (w : ℕ) → Joins s v w → IsKnown s weights (node_at s w)
  all_weighed last is_open w j =
      let h = k.waits v is_open in
      let b = slice_get_within ts h.p v h.at in
      ⊎_elim
      (λ less. let q = h.smaller (length ts - 1) v less last in absurd (omega (arith, q)))
      (λ ge. ⊎_elim (k.known w) (λ r. let c = slice_get_within ts r.0 w r.2 in let d = r.1 in absurd (omega (arith, b, c, d, ge))) (h.next w j))
      (cases_lt h.p (length ts - 1))

  waits_on : (u : ℕ) → Waits s stages ts u → Waits s (set stages v stage.Known) ts u
  waits_on u h = record {
    p = h.p;
    at = h.at;
    smaller = h.smaller;
    next = λ w j. ⊎_elim (λ e. inl (stays w e)) (λ r. inr r) (h.next w j);
  }
    where
      stays : (w : ℕ) → slice_get stages w ≡ Some stage.Known → slice_get (set stages v stage.Known) w ≡ Some stage.Known
      stays w e =
          ⊎_elim
          (λ same. subst (λ i. slice_get (set stages v stage.Known) i ≡ Some stage.Known) same (set_same stages v stage.Known (let b = slice_get_within stages w stage.Known e in omega (arith, b, same))))
          (λ ne. set_other stages v w stage.Known ne ∙ e)
          (cases_eq v w)

  -- the place is weighed
  pub weigh_keeps : (new : List ℕ) → v < length stages → length new ≡ length s.nodes → IsKnown s new (node_at s v) → ((i : ℕ) → IsKnown s weights i → IsKnown s new i) → KeepsWeights s (set stages v stage.Known) new ts
  weigh_keeps new there count own kept = record {
    size = length_set stages v stage.Known ∙ k.size;
    count = count;
    there = k.there;
    all = λ u b.
        ⊎_elim
        (λ same. inl (subst (λ i. slice_get (set stages v stage.Known) i ≡ Some stage.Known) same (set_same stages v stage.Known there)))
        (λ ne. ⊎_elim (λ e. inl (set_other stages v u stage.Known ne ∙ e)) (λ h. inr h) (k.all u b))
        (cases_eq v u);
    known = λ u e. ⊎_elim (λ r. subst (λ i. IsKnown s new (node_at s i)) r.0 own) (λ r. kept (node_at s u) (k.known u r.1)) (stage_of stages v u stage.Known stage.Known e);
    waits = λ u e. ⊎_elim (λ r. absurd (known_open r.1)) (λ r. waits_on u (k.waits u r.1)) (stage_of stages v u stage.Known stage.Open e);
  }
    where
      known_open : stage.Known ≡ stage.Open → ⊥
      known_open e = cc

-- the last place on the list is weighed, and is left out
pub skip_keeps : (s : SpecValue) (stages : List Stage) (weights ts : List ℕ) (v : ℕ) → KeepsWeights s stages weights (ts ++ v ∷ []) → slice_get stages v ≡ Some stage.Known → KeepsWeights s stages weights ts
skip_keeps s stages weights ts v k is_known = record {
  size = k.size;
  count = k.count;
  there = λ w h. k.there w (has_left ts (v ∷ []) w h);
  all = λ u b. ⊎_elim (λ e. inl e) (λ h. ⊎_elim (λ p. inr p) (λ e. inl (subst (λ i. slice_get stages i ≡ Some stage.Known) e is_known)) (has_pushed ts v u h)) (k.all u b);
  known = k.known;
  waits = λ u e. shorter u e (k.waits u e);
}
  where
    shorter : (u : ℕ) → slice_get stages u ≡ Some stage.Open → Waits s stages (ts ++ v ∷ []) u → Waits s stages ts u
    shorter u e h =
        ⊎_elim
        (λ at. record {
          p = h.p;
          at = at;
          smaller = λ q x b g. h.smaller q x b (get_front ts (v ∷ []) q x g);
          next = λ w j. ⊎_elim (λ g. inl g) (λ r. ⊎_elim (λ g. inr (r.0, r.1, g)) (λ g. inl (subst (λ i. slice_get stages i ≡ Some stage.Known) g.1 is_known)) (get_push ts v r.0 w r.2)) (h.next w j);
        })
        (λ r. absurd (not_both (slice_get stages u) (subst (λ i. slice_get stages i ≡ Some stage.Known) r.1 is_known) e))
        (get_push ts v h.p u h.at)

module _ (s : SpecValue) (w : WellTyped s) (f : WellFounded s) (stages : List Stage) (weights ts : List ℕ) (k : KeepsWeights s stages weights ts) (v : ℕ) (last : slice_get ts (length ts - 1) ≡ Some v) (is_new : slice_get stages v ≡ Some stage.New) where
  abbrev new : List Stage
  new = set stages v stage.Open

  stays : (u : ℕ) → slice_get stages u ≡ Some stage.Known → slice_get new u ≡ Some stage.Known
  stays u e = set_other stages v u stage.Open (λ same. not_known (slice_get stages u) (subst (λ i. slice_get stages i ≡ Some stage.New) same is_new) e) ∙ e

  some : 0 < length ts
  some = let b = slice_get_within ts (length ts - 1) v last in omega (arith, b)

  own : Waits s new (ts ++ next s v) v
  own = record {
    p = length ts - 1;
    at = get_front ts (next s v) (length ts - 1) v last;
    smaller = λ q u b e. ⊎_elim (λ g. let c = slice_get_within ts q u g in absurd (omega (arith, b, c))) (λ h. joins_lighter s w f v u h) (get_appended ts (next s v) q u e);
    next = λ x j. let r = has_at (next s v) x j in inr (length ts + r.0, (let p = some in let q : length ts - 1 < length ts + r.0 = omega (arith, p) in q), get_behind ts (next s v) r.0 ∙ r.1);
  }

  others : (u : ℕ) → slice_get stages u ≡ Some stage.Open → Waits s stages ts u → Waits s new (ts ++ next s v) u
  others u e h =
      let b = slice_get_within ts h.p u h.at in
      let before : h.p < length ts - 1 = ⊎_elim (λ less. less) (λ ge. absurd (not_open (slice_get stages u) (subst (λ i. slice_get stages i ≡ Some stage.New) (at_last ge) is_new) e)) (cases_lt h.p (length ts - 1)) in
      let above = h.smaller (length ts - 1) v before last in
      record {
        p = h.p;
        at = get_front ts (next s v) h.p u h.at;
        smaller = λ q x c g. ⊎_elim (λ r. h.smaller q x c r) (λ j. let l = joins_lighter s w f v x j in omega (arith, l, above)) (get_appended ts (next s v) q x g);
        next = λ x j. ⊎_elim (λ g. inl (stays x g)) (λ r. inr (r.0, r.1, get_front ts (next s v) r.0 x r.2)) (h.next x j);
      }
    where
      at_last : length ts - 1 ≤ h.p → v ≡ u
      at_last ge =
          let b = slice_get_within ts h.p u h.at in
          let same : h.p ≡ length ts - 1 = omega (arith, b, ge) in
          let at : slice_get ts (length ts - 1) ≡ Some u = subst (λ i. slice_get ts i ≡ Some u) same h.at in
          cc

  pub open_keeps : KeepsWeights s new weights (ts ++ next s v)
  open_keeps = record {
    size = length_set stages v stage.Open ∙ k.size;
    count = k.count;
    there = λ x h. ⊎_elim (k.there x) (joins_there s w v x) (has_append ts (next s v) x h);
    all = λ u b. ⊎_elim (λ e. inl (stays u e)) (λ h. inr (has_left ts (next s v) u h)) (k.all u b);
    known = λ u e. ⊎_elim (λ r. absurd (open_known r.1)) (λ r. k.known u r.1) (stage_of stages v u stage.Open stage.Known e);
    waits = λ u e. ⊎_elim (λ r. subst (Waits s new (ts ++ next s v)) r.0 own) (λ r. others u r.1 (k.waits u r.1)) (stage_of stages v u stage.Open stage.Open e);
  }
    where
      open_known : stage.Open ≡ stage.Known → ⊥
      open_known e = cc

-- ---- the end

pub all_known : (s : SpecValue) (stages : List Stage) (weights : List ℕ) → KeepsWeights s stages weights [] → AreWeights s weights
all_known s stages weights k i b =
    let v = length s.defs + i in
    subst (IsKnown s weights) (node_behind s i) (⊎_elim (k.known v) (λ h. absurd h) (k.all v (omega (arith, b))))
