-- What each step of a walk keeps.
use Rattle.std.proofs.Common.{◌≡◌, ◌⊎◌, ⊎_elim, inl, inr, ℕ, zero, suc, ◌<◌, ◌≤◌, List, [], ◌∷◌, ◌++◌, length, map, set, Option, Some, refl, sym, ap, ◌∙◌, subst, arith}
use Rattle.std.specs.Prelude.{slice_get}
use Rattle.std.proofs.lemmas.Bool.{cases_lt, cases_eq}
use Rattle.std.proofs.lemmas.Option.{slice_get_within}
use Rattle.std.proofs.lemmas.List.{length_push}
use Rattle.stream_core.specs.Value.{SpecValue}
use Rattle.recursion_check.specs.declared.walk.Mark.{Mark}
use Rattle.recursion_check.specs.declared.walk.Mark.TheVariants as mark
use Rattle.recursion_check.specs.declared.edges.Edge.{Edge}
use Rattle.recursion_check.specs.Graph.{Has, Joins, Steps, Reaches, next}
use Rattle.recursion_check.specs.Walked.{HasEdge, edge, Rising, Near, IsOpenNear, IsWalk, IsReached, IsCut}
use Rattle.recursion_check.proofs.ListElements.{has_left, has_push, has_pushed, edge_append, edge_left, edge_right, edge_push, edge_pushed, edges_of, edges_to, rising_push, ordered_append, ordered_edges, ordered_front, get_push, get_last, set_same, set_other, length_set}
use Rattle.sm_io.proofs.Elements.{get_front, get_within}

-- the last of a list that rises
pub greatest : (xs : List ℕ) (x : ℕ) → Has xs x → Rising xs → (b : ℕ) × Has xs b × ((a : ℕ) → Has xs a → a ≤ b)
greatest [] x h r = absurd h
greatest (y ∷ []) x h r = (y, inl refl, one)
  where
    one : (a : ℕ) → Has (y ∷ []) a → a ≤ y
    one a (inl e) = omega (arith, e)
    one a (inr q) = absurd q
greatest (y ∷ z ∷ xs) x h r = let q = greatest (z ∷ xs) z (inl refl) r.1 in (q.0, inr q.1, λ a p. ⊎_elim (λ e. let b = r.0 q.0 q.1 in omega (arith, b, e)) (λ t. q.2 a t) p)

not_new : (i : ℕ) → mark.Open i ≡ mark.New → ⊥
not_new i e = cc

done_not_new : mark.Done ≡ mark.New → ⊥
done_not_new e = cc

same_number : (marks : List Mark) (v i j : ℕ) → slice_get marks v ≡ Some (mark.Open i) → slice_get marks v ≡ Some (mark.Open j) → i ≡ j
same_number marks v i j e f = cc

not_both : (marks : List Mark) (v i : ℕ) → slice_get marks v ≡ Some (mark.Open i) → slice_get marks v ≡ Some mark.Done → ⊥
not_both marks v i e f = cc

same_mark : (o : Option Mark) (m n : Mark) → o ≡ Some m → o ≡ Some n → m ≡ n
same_mark o m n e f = cc

module _ (s : SpecValue) where
  -- ---- ways

  pub steps_then : (n a b c : ℕ) → Steps s n a b → Reaches s b c → Reaches s a c
  steps_then zero a b c e r = subst (λ x. Reaches s x c) (sym e) r
  steps_then (suc n) a b c h r = let q = steps_then n h.0 b c h.2 r in (suc q.0, (h.0, h.1, q.1))

  pub way_on : (a b c : ℕ) → Reaches s a b → Reaches s b c → Reaches s a c
  way_on a b c p q = steps_then p.0 a b c p.1 q

  pub step_then : (a b c : ℕ) → Joins s a b → Reaches s b c → Reaches s a c
  step_then a b c j r = (suc r.0, (b, j, r.1))

  -- ---- steps that change no group

  pub skip_walk : (marks : List Mark) (path starts : List ℕ) (es : List Edge) (e : Edge) (first : Option ℕ) → IsWalk s marks path starts (es ++ e ∷ []) first → slice_get marks e.to ≡ Some mark.Done → IsWalk s marks path starts es first
  skip_walk marks path starts es e first w d = record {
    size = w.size;
    placed = w.placed;
    found = w.found;
    closed = w.closed;
    seen = seen;
    near = w.near;
    within = w.within;
    begins = w.begins;
    rising = w.rising;
    waiting = λ i x h. w.waiting i x (edge_left es (e ∷ []) i x h);
    ordered = ordered_front es e w.ordered;
    least = w.least;
  }
    where
      seen : (i v x : ℕ) → slice_get path i ≡ Some v → Joins s v x → HasEdge es i x ⊎ ((slice_get marks x ≡ Some mark.Done) ⊎ IsOpenNear marks starts i x)
      seen i v x p j = ⊎_elim (λ q. ⊎_elim (λ a. inl a) (λ b. inr (inl (subst (λ k. slice_get marks k ≡ Some mark.Done) b.1 d))) (edge_pushed es e i x q)) (λ r. inr r) (w.seen i v x p j)

  -- ---- a step to an open place

  pub join_walk : (marks : List Mark) (path starts cut_ : List ℕ) (es : List Edge) (e : Edge) (p : ℕ) (first : Option ℕ) → IsWalk s marks path starts (es ++ e ∷ []) first → slice_get marks e.to ≡ Some (mark.Open p) → ((b : ℕ) → Has starts b → b ≤ e.from) → IsCut starts cut_ p → IsWalk s marks path cut_ es first
  join_walk marks path starts cut_ es e p first w o g c = record {
    size = w.size;
    placed = w.placed;
    found = w.found;
    closed = w.closed;
    seen = seen;
    near = near;
    within = λ b h. w.within b (c.from b h).0;
    begins = λ i v q. c.all 0 (w.begins i v q) (omega arith);
    rising = c.rising;
    waiting = λ i x h. w.waiting i x (edge_left es (e ∷ []) i x h);
    ordered = ordered_front es e w.ordered;
    least = w.least;
  }
    where
      seen : (i v x : ℕ) → slice_get path i ≡ Some v → Joins s v x → HasEdge es i x ⊎ ((slice_get marks x ≡ Some mark.Done) ⊎ IsOpenNear marks cut_ i x)
      seen i v x q j =
          ⊎_elim
          (λ h. ⊎_elim (λ a. inl a) (λ b. inr (inr (p, subst (λ k. slice_get marks k ≡ Some (mark.Open p)) b.1 o, λ k m le. (c.from k m).1))) (edge_pushed es e i x h))
          (λ r. inr (⊎_elim (λ d. inl d) (λ n. inr (n.0, n.1, λ k m le. n.2 k (c.from k m).0 le)) r))
          (w.seen i v x q j)

      near : (i j v x : ℕ) → slice_get path i ≡ Some v → slice_get path j ≡ Some x → Near cut_ i j → Reaches s v x
      near i j v x pi pj nr =
          let u = w.waiting e.from e.to (edge_push es e) in
          let zero_in : Has cut_ 0 = c.all 0 (w.begins e.from u.0 u.1) (omega arith) in
          let top = greatest cut_ 0 zero_in c.rising in
          let top_in = (c.from top.0 top.1).1 in
          ⊎_elim
          (λ less. w.near i j v x pi pj (λ b h le. nr b (c.all b h (omega (arith, less, le, top_in))) le))
          (λ ge.
          let far = nr top.0 top.1 ge in
          way_on v u.0 x (w.near i e.from v u.0 pi u.1 (λ b h le. g b h)) (step_then u.0 e.to x u.2 (w.near p j e.to x (w.found e.to p o) pj (λ b h le. let q = top.2 b (c.all b h le) in omega (arith, q, far)))))
          (cases_lt i top.0)

  -- ---- a new place

  pub enter_walk : (marks : List Mark) (path starts : List ℕ) (todo : List Edge) (first : Option ℕ) (v : ℕ) → IsWalk s marks path starts todo first → slice_get marks v ≡ Some mark.New → IsReached s path v → IsWalk s (set marks v (mark.Open (length path))) (path ++ v ∷ []) (starts ++ length path ∷ []) (todo ++ map (edge (length path)) (next s v)) first
  enter_walk marks path starts todo first v w new reached = record {
    size = length_set marks v (mark.Open (length path)) ∙ w.size;
    placed = placed;
    found = found;
    closed = closed;
    seen = seen;
    near = near;
    within = within;
    begins = begins;
    rising = rising_push starts (length path) w.rising (λ a h. w.within a h);
    waiting = waiting;
    ordered = ordered_append todo (map (edge (length path)) (next s v)) w.ordered (ordered_edges (length path) (next s v)) in_order;
    least = record { on_cycle = w.least.on_cycle; below = λ d b e lr. w.least.below d b (old_done d e) lr };
  }
    where
      here : slice_get (set marks v (mark.Open (length path))) v ≡ Some (mark.Open (length path))
      here = set_same marks v (mark.Open (length path)) (slice_get_within marks v mark.New new)

      keep : (x : ℕ) (m : Mark) → slice_get marks x ≡ Some m → (m ≡ mark.New → ⊥) → slice_get (set marks v (mark.Open (length path))) x ≡ Some m
      keep x m e no_ = set_other marks v x (mark.Open (length path)) (λ q. no_ (same_mark (slice_get marks x) m mark.New e (subst (λ k. slice_get marks k ≡ Some mark.New) q new))) ∙ e

      old_done : (x : ℕ) → slice_get (set marks v (mark.Open (length path))) x ≡ Some mark.Done → slice_get marks x ≡ Some mark.Done
      old_done x e = ⊎_elim (λ q. absurd (not_both (set marks v (mark.Open (length path))) x (length path) (subst (λ k. slice_get (set marks v (mark.Open (length path))) k ≡ Some (mark.Open (length path))) q here) e)) (λ ne. sym (set_other marks v x (mark.Open (length path)) ne) ∙ e) (cases_eq v x)

      placed : (i x : ℕ) → slice_get (path ++ v ∷ []) i ≡ Some x → slice_get (set marks v (mark.Open (length path))) x ≡ Some (mark.Open i)
      placed i x p = ⊎_elim (λ q. keep x (mark.Open i) (w.placed i x q) (not_new i)) (λ q. subst (λ k. slice_get (set marks v (mark.Open (length path))) k ≡ Some (mark.Open i)) q.1 (here ∙ ap (λ k. Some (mark.Open k)) (sym q.0))) (get_push path v i x p)

      found : (x i : ℕ) → slice_get (set marks v (mark.Open (length path))) x ≡ Some (mark.Open i) → slice_get (path ++ v ∷ []) i ≡ Some x
      found x i e =
          ⊎_elim
          (λ q. let n = same_number (set marks v (mark.Open (length path))) x (length path) i (subst (λ k. slice_get (set marks v (mark.Open (length path))) k ≡ Some (mark.Open (length path))) q here) e in subst (λ k. slice_get (path ++ v ∷ []) k ≡ Some x) n (get_last path v ∙ ap Some q))
          (λ ne. get_front path (v ∷ []) i x (w.found x i (sym (set_other marks v x (mark.Open (length path)) ne) ∙ e)))
          (cases_eq v x)

      closed : (a b : ℕ) → slice_get (set marks v (mark.Open (length path))) a ≡ Some mark.Done → Joins s a b → slice_get (set marks v (mark.Open (length path))) b ≡ Some mark.Done
      closed a b d j = keep b mark.Done (w.closed a b (old_done a d) j) done_not_new

      seen : (i a b : ℕ) → slice_get (path ++ v ∷ []) i ≡ Some a → Joins s a b → HasEdge (todo ++ map (edge (length path)) (next s v)) i b ⊎ ((slice_get (set marks v (mark.Open (length path))) b ≡ Some mark.Done) ⊎ IsOpenNear (set marks v (mark.Open (length path))) (starts ++ length path ∷ []) i b)
      seen i a b p j =
          ⊎_elim
          (λ q. ⊎_elim
          (λ t. inl (edge_left todo (map (edge (length path)) (next s v)) i b t))
          (λ r. inr (⊎_elim
          (λ d. inl (keep b mark.Done d done_not_new))
          (λ n. inr (n.0, keep b (mark.Open n.0) n.1 (not_new n.0), λ c h le. ⊎_elim (λ hc. n.2 c hc le) (λ e. let l = slice_get_within path i a q in absurd (omega (arith, l, e, le))) (has_pushed starts (length path) c h)))
          r))
          (w.seen i a b q j))
          (λ q. inl (edge_right todo (map (edge (length path)) (next s v)) i b (subst (λ k. HasEdge (map (edge (length path)) (next s v)) k b) (sym q.0) (edges_to (length path) (next s v) b (subst (λ k. Joins s k b) (sym q.1) j)))))
          (get_push path v i a p)

      near : (i j a b : ℕ) → slice_get (path ++ v ∷ []) i ≡ Some a → slice_get (path ++ v ∷ []) j ≡ Some b → Near (starts ++ length path ∷ []) i j → Reaches s a b
      near i j a b pi pj nr =
          ⊎_elim
          (λ qi. ⊎_elim
          (λ qj. w.near i j a b qi qj (λ c h le. nr c (has_left starts (length path ∷ []) c h) le))
          (λ qj. subst (λ k. Reaches s a k) qj.1 (reached i a qi))
          (get_push path v j b pj))
          (λ qi. ⊎_elim
          (λ qj. let l = slice_get_within path j b qj in let e = qi.0 in let le = nr (length path) (has_push starts (length path)) (omega (arith, e)) in absurd (omega (arith, l, le)))
          (λ qj. (0, sym qi.1 ∙ qj.1))
          (get_push path v j b pj))
          (get_push path v i a pi)

      within : (b : ℕ) → Has (starts ++ length path ∷ []) b → b < length (path ++ v ∷ [])
      within b h = let l = length_push path v in ⊎_elim (λ q. let r = w.within b q in omega (arith, l, r)) (λ e. omega (arith, l, e)) (has_pushed starts (length path) b h)

      begins : (i a : ℕ) → slice_get (path ++ v ∷ []) i ≡ Some a → Has (starts ++ length path ∷ []) 0
      begins i a p =
          ⊎_elim
          (λ less. let x = get_within path 0 less in has_left starts (length path ∷ []) 0 (w.begins 0 x.0 x.1))
          (λ le. let e : length path ≡ 0 = omega (arith, le) in subst (λ k. Has (starts ++ length path ∷ []) k) e (has_push starts (length path)))
          (cases_lt 0 (length path))

      waiting : (i x : ℕ) → HasEdge (todo ++ map (edge (length path)) (next s v)) i x → (a : ℕ) × (slice_get (path ++ v ∷ []) i ≡ Some a) × Joins s a x
      waiting i x h =
          ⊎_elim
          (λ q. let r = w.waiting i x q in (r.0, get_front path (v ∷ []) i r.0 r.1, r.2))
          (λ q. let r = edges_of (length path) (next s v) i x q in (v, subst (λ k. slice_get (path ++ v ∷ []) k ≡ Some v) r.0 (get_last path v), r.1))
          (edge_append todo (map (edge (length path)) (next s v)) i x h)

      in_order : (i x j y : ℕ) → HasEdge todo i x → HasEdge (map (edge (length path)) (next s v)) j y → i ≤ j
      in_order i x j y p q =
          let r = w.waiting i x p in
          let l = slice_get_within path i r.0 r.1 in
          let e = (edges_of (length path) (next s v) j y q).0 in
          omega (arith, l, e)
