-- What the close of a group keeps.
use Rattle.std.proofs.Common.{◌≡◌, ◌≢◌, ◌⊎◌, ⊎_elim, inl, inr, ℕ, zero, suc, ◌+◌, ◌<◌, ◌≤◌, min, Bool, true, false, List, [], ◌∷◌, ◌++◌, length, take, drop, set, get_or, Option, Some, None, refl, sym, ap, ◌∙◌, subst, arith}
use Rattle.std.specs.Prelude.{slice_get, nat_lt, if◌then◌else◌}
use Rattle.std.specs.List.{sum_by}
use Rattle.std.proofs.lemmas.Bool.{cases_lt, cases_eq}
use Rattle.std.proofs.lemmas.Bool.Decides.{nat_tests}
use Rattle.std.proofs.lemmas.Option.{slice_get_within, get_or_from_slice_get}
use Rattle.std.proofs.lemmas.List.{length-drop, length-take}
use Rattle.std.proofs.lemmas.List.Sums.{sum_by-set}
use Rattle.stream_core.specs.Value.{SpecValue}
use Rattle.recursion_check.specs.declared.walk.Mark.{Mark}
use Rattle.recursion_check.specs.declared.walk.Mark.TheVariants as mark
use Rattle.recursion_check.specs.declared.edges.Edge.{Edge}
use Rattle.recursion_check.specs.Graph.{Has, Joins, Steps, Reaches, LiesOnCycle}
use Rattle.recursion_check.specs.Walked.{HasEdge, Near, IsOpenNear, IsLeast, IsWalk, StaysOld, fresh, mark_all, lesser, least_def}
use Rattle.recursion_check.proofs.ListElements.{has_left, has_push, has_pushed, rising_front, rising_last, get_take, take_get, set_same, set_other, in_or_out, mark_length, mark_out, mark_stays, mark_in, has_drop, drop_has}
use Rattle.recursion_check.proofs.Walking.{way_on}
use Rattle.sm_io.proofs.Elements.{get_within}

open_is_one : (marks : List Mark) (v i j : ℕ) → slice_get marks v ≡ Some (mark.Open i) → slice_get marks v ≡ Some (mark.Open j) → i ≡ j
open_is_one marks v i j e f = cc

open_not_done : (marks : List Mark) (v i : ℕ) → slice_get marks v ≡ Some (mark.Open i) → slice_get marks v ≡ Some mark.Done → ⊥
open_not_done marks v i e f = cc

new_not_done : (marks : List Mark) (v : ℕ) → slice_get marks v ≡ Some mark.New → slice_get marks v ≡ Some mark.Done → ⊥
new_not_done marks v e f = cc

one_of : (xs : List ℕ) (i x y : ℕ) → slice_get xs i ≡ Some x → slice_get xs i ≡ Some y → x ≡ y
one_of xs i x y e f = cc

module _ (s : SpecValue) where
  -- ---- the least def on a cycle

  cycle_of : (u : ℕ) (first : Option ℕ) → ((f : ℕ) → first ≡ Some f → (f < length s.defs) × LiesOnCycle s f) → u < length s.defs → LiesOnCycle s u → (f : ℕ) → lesser first u ≡ Some f → (f < length s.defs) × LiesOnCycle s f
  cycle_of u None h b r f e = let q : u ≡ f = cc in subst (λ k. (k < length s.defs) × LiesOnCycle s k) q (b, r)
  cycle_of u (Some g) h b r f e =
      let q : min g u ≡ f = cc in
      ⊎_elim
      (λ less. let m : g ≡ f = omega (arith, q, less) in subst (λ k. (k < length s.defs) × LiesOnCycle s k) m (h g refl))
      (λ le. let m : u ≡ f = omega (arith, q, le) in subst (λ k. (k < length s.defs) × LiesOnCycle s k) m (b, r))
      (cases_lt g u)

  lesser_is : (u : ℕ) (first : Option ℕ) → (f : ℕ) × (lesser first u ≡ Some f) × (f ≤ u)
  lesser_is u None = (u, refl, omega arith)
  lesser_is u (Some g) = (min g u, refl, omega arith)

  lesser_keeps : (u : ℕ) (first : Option ℕ) (g : ℕ) → first ≡ Some g → (f : ℕ) × (lesser first u ≡ Some f) × (f ≤ g)
  lesser_keeps u None g e = absurd (cc)
  lesser_keeps u (Some h) g e = let q : h ≡ g = cc in (min h u, refl, omega (arith, q))

  abbrev with_place : Option ℕ → ℕ → Option ℕ
  with_place first u = if nat_lt u (length s.defs) then lesser first u else first

  place_by : (marks : List Mark) (first : Option ℕ) (u : ℕ) → IsLeast s marks first → LiesOnCycle s u → (t : Bool) → nat_lt u (length s.defs) ≡ t → IsLeast s (set marks u mark.Done) (if t then lesser first u else first)
  place_by marks first u l r true t = record { on_cycle = cycle_of u first l.on_cycle (let b : u < length s.defs = grind (arith, nat_tests) in b) r; below = below }
    where
      below : (d : ℕ) → d < length s.defs → slice_get (set marks u mark.Done) d ≡ Some mark.Done → LiesOnCycle s d → (f : ℕ) × (lesser first u ≡ Some f) × (f ≤ d)
      below d b e lr =
          ⊎_elim
          (λ same. let q = lesser_is u first in let le = q.2 in (q.0, q.1, omega (arith, le, same)))
          (λ ne.
          let g = l.below d b (sym (set_other marks u d mark.Done ne) ∙ e) lr in
          let q = lesser_keeps u first g.0 g.1 in
          let a = q.2 in
          let c = g.2 in
          (q.0, q.1, omega (arith, a, c)))
          (cases_eq u d)
  place_by marks first u l r false t = record { on_cycle = l.on_cycle; below = below }
    where
      below : (d : ℕ) → d < length s.defs → slice_get (set marks u mark.Done) d ≡ Some mark.Done → LiesOnCycle s d → (f : ℕ) × (first ≡ Some f) × (f ≤ d)
      below d b e lr =
          ⊎_elim
          (λ same. absurd (let far : length s.defs ≤ u = grind (arith, nat_tests) in omega (arith, far, same, b)))
          (λ ne. l.below d b (sym (set_other marks u d mark.Done ne) ∙ e) lr)
          (cases_eq u d)

  place_least : (marks : List Mark) (first : Option ℕ) (u : ℕ) → IsLeast s marks first → LiesOnCycle s u → IsLeast s (set marks u mark.Done) (with_place first u)
  place_least marks first u l r = place_by marks first u l r (nat_lt u (length s.defs)) refl

  -- all places of a group lie on cycles
  pub many_least : (vs : List ℕ) (marks : List Mark) (first : Option ℕ) → IsLeast s marks first → ((v : ℕ) → Has vs v → LiesOnCycle s v) → IsLeast s (mark_all marks vs) (least_def (length s.defs) first vs)
  many_least [] marks first l r = l
  many_least (x ∷ vs) marks first l r = many_least vs (set marks x mark.Done) (with_place first x) (place_least marks first x l (r x (inl refl))) (λ v h. r v (inr h))

  -- none of them does
  pub none_least : (vs : List ℕ) (marks : List Mark) (first : Option ℕ) → IsLeast s marks first → ((v : ℕ) → Has vs v → LiesOnCycle s v → ⊥) → IsLeast s (mark_all marks vs) first
  none_least vs marks first l r = record { on_cycle = l.on_cycle; below = λ d b e lr. ⊎_elim (λ h. absurd (r d h lr)) (λ out. l.below d b (sym (mark_out vs marks d out) ∙ e) lr) (in_or_out vs d) }

  -- ---- a group

  module _ (marks : List Mark) (path front : List ℕ) (b : ℕ) (todo : List Edge) (first : Option ℕ) (w : IsWalk s marks path (front ++ b ∷ []) todo first) (taken : (i x : ℕ) → HasEdge todo i x → i < b) where
    b_in : b < length path
    b_in = w.within b (has_push front b)

    starts_low : (c : ℕ) → Has (front ++ b ∷ []) c → c ≤ b
    starts_low c h = ⊎_elim (λ p. let r = rising_last front b w.rising c p in omega (arith, r)) (λ e. omega (arith, e)) (has_pushed front b c h)

    out_of : (i x : ℕ) → i < b → slice_get path i ≡ Some x → Has (drop b path) x → ⊥
    out_of i x less p h =
        let r = has_drop b path x h in
        let e = open_is_one marks x i r.0 (w.placed i x p) (w.placed r.0 x r.2) in
        let ge = r.1 in
        absurd (omega (arith, e, ge, less))

    marked : (x : ℕ) → x < length marks → Has (drop b path) x → slice_get (mark_all marks (drop b path)) x ≡ Some mark.Done
    marked x h i = mark_in (drop b path) marks x h i

    was_within : (x : ℕ) (m : Mark) → slice_get (mark_all marks (drop b path)) x ≡ Some m → x < length marks
    was_within x m e = let l = mark_length (drop b path) marks in let r = slice_get_within (mark_all marks (drop b path)) x m e in omega (arith, l, r)

    -- where a place of the group leads
    leads : (i a c : ℕ) → b ≤ i → slice_get path i ≡ Some a → Joins s a c → (slice_get marks c ≡ Some mark.Done) ⊎ ((k : ℕ) × (b ≤ k) × (slice_get path k ≡ Some c))
    leads i a c ge p j =
        ⊎_elim
        (λ t. absurd (let r = taken i c t in omega (arith, r, ge)))
        (λ r. ⊎_elim (λ d. inl d) (λ n. inr (n.0, n.2 b (has_push front b) ge, w.found c n.0 n.1)) r)
        (w.seen i a c p j)

    -- what is done reaches only what is done
    done_reach : (n a c : ℕ) → slice_get marks a ≡ Some mark.Done → Steps s n a c → slice_get marks c ≡ Some mark.Done
    done_reach zero a c d e = subst (λ k. slice_get marks k ≡ Some mark.Done) e d
    done_reach (suc n) a c d h = done_reach n h.0 c (w.closed a h.0 d h.1) h.2

    -- ---- two places of the group at least

    pub all_on_cycles : 1 < length (drop b path) → (v : ℕ) → Has (drop b path) v → LiesOnCycle s v
    all_on_cycles many v h =
        let r = has_drop b path v h in
        ⊎_elim (λ e. other r.0 r.1 r.2 (suc b) (omega arith) (let l = length-drop b path in omega (arith, many, l)) (omega (arith, e))) (λ ne. other r.0 r.1 r.2 b (omega arith) b_in ne) (cases_eq r.0 b)
      where
        other : (i : ℕ) → b ≤ i → slice_get path i ≡ Some v → (k : ℕ) → b ≤ k → k < length path → i ≢ k → LiesOnCycle s v
        other i ge p k gk bk ne =
            let y = get_within path k bk in
            let there = w.near i k v y.0 p y.1 (λ c q le. let z = starts_low c q in omega (arith, z, gk)) in
            let back = w.near k i y.0 v y.1 p (λ c q le. let z = starts_low c q in omega (arith, z, ge)) in
            ways there.0 y.0 there.1 back (λ e. ne (open_is_one marks v i k (w.placed i v p) (subst (λ x. slice_get marks x ≡ Some (mark.Open k)) (sym e) (w.placed k y.0 y.1))))
          where
            ways : (n y : ℕ) → Steps s n v y → Reaches s y v → (v ≡ y → ⊥) → LiesOnCycle s v
            ways zero y e back no_ = absurd (no_ e)
            ways (suc n) y st back no_ = (st.0, st.1, way_on s st.0 y v (n, st.2) back)

    -- ---- one place

    pub none_on_cycle : length (drop b path) ≤ 1 → ((x : ℕ) → Joins s x x → ⊥) → (v : ℕ) → Has (drop b path) v → LiesOnCycle s v → ⊥
    none_on_cycle few no_loop v h way =
        let r = has_drop b path v h in
        let o = w.placed r.0 v r.2 in
        ⊎_elim
        (λ d. open_not_done marks v r.0 o (done_reach way.2.0 way.0 v d way.2.1))
        (λ n.
        let l = length-drop b path in
        let x = slice_get_within path r.0 v r.2 in
        let y = slice_get_within path n.0 way.0 n.2 in
        let ge = r.1 in
        let gk = n.1 in
        let same : n.0 ≡ r.0 = omega (arith, l, x, y, few, ge, gk) in
        no_loop v (subst (Joins s v) (one_of path r.0 way.0 v (subst (λ k. slice_get path k ≡ Some way.0) same n.2) r.2) way.1))
        (leads r.0 v way.0 r.1 r.2 way.1)

    -- ---- the walk behind it

    pub close_walk : (least : Option ℕ) → IsLeast s (mark_all marks (drop b path)) least → IsWalk s (mark_all marks (drop b path)) (take b path) front todo least
    close_walk least l = record {
      size = mark_length (drop b path) marks ∙ w.size;
      placed = placed;
      found = found;
      closed = closed;
      seen = seen;
      near = near;
      within = within;
      begins = begins;
      rising = rising_front front b w.rising;
      waiting = waiting;
      ordered = w.ordered;
      least = l;
    }
      where
        placed : (i x : ℕ) → slice_get (take b path) i ≡ Some x → slice_get (mark_all marks (drop b path)) x ≡ Some (mark.Open i)
        placed i x p = let q = get_take b path i x p in mark_out (drop b path) marks x (out_of i x q.0 q.1) ∙ w.placed i x q.1

        found : (x i : ℕ) → slice_get (mark_all marks (drop b path)) x ≡ Some (mark.Open i) → slice_get (take b path) i ≡ Some x
        found x i e =
            ⊎_elim
            (λ h. absurd (open_not_done (mark_all marks (drop b path)) x i e (marked x (was_within x (mark.Open i) e) h)))
            (λ out.
            let p = w.found x i (sym (mark_out (drop b path) marks x out) ∙ e) in
            ⊎_elim (λ less. take_get b path i x less p) (λ ge. absurd (out (drop_has b path i x ge p))) (cases_lt i b))
            (in_or_out (drop b path) x)

        closed : (a c : ℕ) → slice_get (mark_all marks (drop b path)) a ≡ Some mark.Done → Joins s a c → slice_get (mark_all marks (drop b path)) c ≡ Some mark.Done
        closed a c d j =
            ⊎_elim
            (λ h.
            let r = has_drop b path a h in
            ⊎_elim
            (λ q. mark_stays (drop b path) marks c q)
            (λ n. marked c (slice_get_within marks c (mark.Open n.0) (w.placed n.0 c n.2)) (drop_has b path n.0 c n.1 n.2))
            (leads r.0 a c r.1 r.2 j))
            (λ out. mark_stays (drop b path) marks c (w.closed a c (sym (mark_out (drop b path) marks a out) ∙ d) j))
            (in_or_out (drop b path) a)

        seen : (i a c : ℕ) → slice_get (take b path) i ≡ Some a → Joins s a c → HasEdge todo i c ⊎ ((slice_get (mark_all marks (drop b path)) c ≡ Some mark.Done) ⊎ IsOpenNear (mark_all marks (drop b path)) front i c)
        seen i a c p j =
            let q = get_take b path i a p in
            ⊎_elim
            (λ t. inl t)
            (λ r. inr (⊎_elim
            (λ d. inl (mark_stays (drop b path) marks c d))
            (λ n. ⊎_elim
            (λ less. inr (n.0, mark_out (drop b path) marks c (out_of n.0 c less (w.found c n.0 n.1)) ∙ n.1, λ x h le. n.2 x (has_left front (b ∷ []) x h) le))
            (λ ge. inl (marked c (slice_get_within marks c (mark.Open n.0) n.1) (drop_has b path n.0 c ge (w.found c n.0 n.1))))
            (cases_lt n.0 b))
            r))
            (w.seen i a c q.1 j)

        near : (i j a c : ℕ) → slice_get (take b path) i ≡ Some a → slice_get (take b path) j ≡ Some c → Near front i j → Reaches s a c
        near i j a c pi pj nr =
            let qi = get_take b path i a pi in
            let qj = get_take b path j c pj in
            let less = qi.0 in
            w.near i j a c qi.1 qj.1 (λ x h le. ⊎_elim (λ hx. nr x hx le) (λ e. absurd (omega (arith, e, le, less))) (has_pushed front b x h))

        within : (x : ℕ) → Has front x → x < length (take b path)
        within x h = let l = length-take b path in let r = rising_last front b w.rising x h in let m = b_in in omega (arith, l, r, m)

        begins : (i a : ℕ) → slice_get (take b path) i ≡ Some a → Has front 0
        begins i a p =
            let q = get_take b path i a p in
            let less = q.0 in
            ⊎_elim (λ h. h) (λ e. absurd (omega (arith, e, less))) (has_pushed front b 0 (w.begins i a q.1))

        waiting : (i x : ℕ) → HasEdge todo i x → (a : ℕ) × (slice_get (take b path) i ≡ Some a) × Joins s a x
        waiting i x h = let r = w.waiting i x h in (r.0, take_get b path i r.0 (taken i x h) r.1, r.2)

    close_least : ((x : ℕ) → Joins s x x → ⊥) → (t : Bool) → nat_lt 1 (length (drop b path)) ≡ t → IsLeast s (mark_all marks (drop b path)) (if t then least_def (length s.defs) first (drop b path) else first)
    close_least no_loop true t = many_least (drop b path) marks first w.least (all_on_cycles (let q : 1 < length (drop b path) = grind (arith, nat_tests) in q))
    close_least no_loop false t = none_least (drop b path) marks first w.least (none_on_cycle (let q : length (drop b path) ≤ 1 = grind (arith, nat_tests) in q) no_loop)

    pub closed_walk : ((x : ℕ) → Joins s x x → ⊥) → IsWalk s (mark_all marks (drop b path)) (take b path) front todo (if nat_lt 1 (length (drop b path)) then least_def (length s.defs) first (drop b path) else first)
    closed_walk no_loop = close_walk (if nat_lt 1 (length (drop b path)) then least_def (length s.defs) first (drop b path) else first) (close_least no_loop (nat_lt 1 (length (drop b path))) refl)

    -- ---- what is new stays

    opened : (v : ℕ) → Has (drop b path) v → (i : ℕ) × (slice_get marks v ≡ Some (mark.Open i))
    opened v h = let r = has_drop b path v h in (r.0, w.placed r.0 v r.2)

    pub close_old : StaysOld marks (mark_all marks (drop b path))
    close_old v e = ⊎_elim (λ h. absurd (new_not_done (mark_all marks (drop b path)) v e (marked v (was_within v mark.New e) h))) (λ out. sym (mark_out (drop b path) marks v out) ∙ e) (in_or_out (drop b path) v)

not_fresh : Mark → Type 0
not_fresh m = fresh m ≡ 0

fresh_all : (vs : List ℕ) (marks : List Mark) → ((v : ℕ) → Has vs v → (m : Mark) × (slice_get marks v ≡ Some m) × (fresh m ≡ 0)) → sum_by fresh (mark_all marks vs) ≡ sum_by fresh marks
fresh_all [] marks h = refl
fresh_all (x ∷ vs) marks h =
    let r = h x (inl refl) in
    let b = slice_get_within marks x r.0 r.1 in
    let at : get_or marks x mark.Done ≡ r.0 = get_or_from_slice_get marks x r.0 mark.Done r.1 in
    let e = sum_by-set fresh marks x mark.Done mark.Done b in
    let z : fresh (get_or marks x mark.Done) ≡ 0 = ap fresh at ∙ r.2 in
    let one : sum_by fresh (set marks x mark.Done) ≡ sum_by fresh marks = omega (arith, e, z) in
    fresh_all vs (set marks x mark.Done) rest ∙ one
  where
    rest : (v : ℕ) → Has vs v → (m : Mark) × (slice_get (set marks x mark.Done) v ≡ Some m) × (fresh m ≡ 0)
    rest v q =
        let r = h v (inr q) in
        ⊎_elim
        (λ e. (mark.Done, subst (λ k. slice_get (set marks x mark.Done) k ≡ Some mark.Done) e (set_same marks x mark.Done (subst (λ k. k < length marks) (sym e) (slice_get_within marks v r.0 r.1))), refl))
        (λ ne. (r.0, set_other marks x v mark.Done ne ∙ r.1, r.2))
        (cases_eq x v)

pub close_fresh : (s : SpecValue) (marks : List Mark) (path front : List ℕ) (b : ℕ) (todo : List Edge) (first : Option ℕ) → IsWalk s marks path (front ++ b ∷ []) todo first → sum_by fresh (mark_all marks (drop b path)) ≡ sum_by fresh marks
close_fresh s marks path front b todo first w = fresh_all (drop b path) marks (λ v h. let r = has_drop b path v h in (mark.Open r.0, w.placed r.0 v r.2, refl))

-- a place that is entered
pub enter_fresh : (marks : List Mark) (v n : ℕ) → slice_get marks v ≡ Some mark.New → sum_by fresh (set marks v (mark.Open n)) + 1 ≡ sum_by fresh marks
enter_fresh marks v n e =
    let b = slice_get_within marks v mark.New e in
    let at : get_or marks v mark.Done ≡ mark.New = get_or_from_slice_get marks v mark.New mark.Done e in
    let r = sum_by-set fresh marks v (mark.Open n) mark.Done b in
    let z : fresh (get_or marks v mark.Done) ≡ 1 = ap fresh at in
    omega (arith, r, z)
