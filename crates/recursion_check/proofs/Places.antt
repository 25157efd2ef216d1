-- Where the places of the graph lead, and that its cycles are those of the defs.
use Rattle.std.proofs.Common.{◌≡◌, ◌⊎◌, ⊎_elim, inl, inr, ℕ, zero, suc, ◌+◌, ◌-◌, ◌^◌, ◌<◌, ◌≤◌, List, [], ◌∷◌, ◌++◌, length, map, Option, Some, None, refl, sym, ap, ◌∙◌, subst, arith}
use Rattle.std.specs.Prelude.{slice_get, slice_index_or, Contains}
use Rattle.std.specs.List.{AllByRecursion, flat_map}
use Rattle.std.specs.Option.{option_map}
use Rattle.std.proofs.lemmas.Bool.{cases_lt}
use Rattle.std.proofs.lemmas.Option.{slice_get_within, slice_get_past, slice_get-map}
use Rattle.std.proofs.lemmas.List.{append-nil, length-map}
use Rattle.stream_core.specs.declared.node.Node.{Node}
use Rattle.stream_core.specs.declared.node.Node.TheVariants as node
use Rattle.stream_core.specs.declared.spec.DefItem.{DefItem}
use Rattle.stream_core.specs.declared.spec.LibItem.{LibItem}
use Rattle.stream_core.specs.Value.{SpecValue}
use Rattle.stream_core.specs.Ordered.{all_parts}
use Rattle.stream_core.specs.Term.{Term, TreeDef, build, build_at, def, terms_of, lib_of, tree, tree_def, defs_of}
use Rattle.stream_core.specs.Limits.{mentions, all_mentions, Mentions, Leads, OnCycle}
use Rattle.stream_core.specs.WellTyped.{WellTyped}
use Rattle.stream_core.proofs.Trees.{tree_is, tree_of}
use Rattle.stream_core.proofs.Cycles.{exprs_there, defs_there}
use Rattle.recursion_check.specs.Graph.{Has, Joins, Steps, Reaches, LiesOnCycle, next, node_next, def_next, places}
use Rattle.recursion_check.proofs.Walking.{way_on, step_then}
use Rattle.recursion_check.proofs.ListElements.{has_append, has_left, has_right}
use Rattle.sm_io.proofs.Elements.{get_within}

-- ---- lists

contains_at : (xs : List ℕ) (k b : ℕ) → k < length xs → slice_index_or xs k b ≡ b → Has xs b
contains_at [] k b h e = absurd (omega (arith, h))
contains_at (x ∷ xs) zero b h e = inl e
contains_at (x ∷ xs) (suc k) b h e = inr (contains_at xs k b (omega (arith, h)) e)

pub contains_has : (xs : List ℕ) (b : ℕ) → Contains xs b → Has xs b
contains_has xs b c = contains_at xs c.0 b c.1 c.2

pub has_contains : (xs : List ℕ) (b : ℕ) → Has xs b → Contains xs b
has_contains [] b h = absurd h
has_contains (x ∷ xs) b (inl e) = (0, omega arith, e)
has_contains (x ∷ xs) b (inr h) = let r = has_contains xs b h in let l = r.1 in (suc r.0, omega (arith, l), r.2)

has_map : (n : ℕ) (xs : List ℕ) (w : ℕ) → Has (map (λ j. n + j) xs) w → (j : ℕ) × Has xs j × (n + j ≡ w)
has_map n [] w h = absurd h
has_map n (x ∷ xs) w (inl e) = (x, inl refl, e)
has_map n (x ∷ xs) w (inr h) = let r = has_map n xs w h in (r.0, inr r.1, r.2)

map_has : (n : ℕ) (xs : List ℕ) (j : ℕ) → Has xs j → Has (map (λ i. n + i) xs) (n + j)
map_has n [] j h = absurd h
map_has n (x ∷ xs) j (inl e) = inl (ap (λ i. n + i) e)
map_has n (x ∷ xs) j (inr h) = inr (map_has n xs j h)

has_flat : (f : ℕ → List ℕ) (xs : List ℕ) (c : ℕ) → Has (flat_map f xs) c → (j : ℕ) × Has xs j × Has (f j) c
has_flat f [] c h = absurd h
has_flat f (x ∷ xs) c h = ⊎_elim (λ p. (x, inl refl, p)) (λ q. let r = has_flat f xs c q in (r.0, inr r.1, r.2)) (has_append (f x) (flat_map f xs) c h)

flat_has : (f : ℕ → List ℕ) (xs : List ℕ) (j c : ℕ) → Has xs j → Has (f j) c → Has (flat_map f xs) c
flat_has f [] j c h p = absurd h
flat_has f (x ∷ xs) j c (inl e) p = has_left (f x) (flat_map f xs) c (subst (λ k. Has (f k) c) (sym e) p)
flat_has f (x ∷ xs) j c (inr h) p = has_right (f x) (flat_map f xs) c (flat_has f xs j c h p)

pub each_of : (P : ℕ → Type 0) (xs : List ℕ) (j : ℕ) → AllByRecursion P xs → Has xs j → P j
each_of P [] j a h = absurd h
each_of P (x ∷ xs) j a (inl e) = subst P e a.0
each_of P (x ∷ xs) j a (inr h) = each_of P xs j a.1 h

-- ---- mentions

terms_mention : (tree : ℕ → Term) (is : List ℕ) → all_mentions (terms_of tree is) ≡ flat_map (λ j. mentions (tree j)) is
terms_mention tree [] = refl
terms_mention tree (i ∷ is) = ap (λ ys. mentions (tree i) ++ ys) (terms_mention tree is)

abbrev node_mentions : List LibItem → (ℕ → List ℕ) → Node → List ℕ
node_mentions libs f (node.Def d) = d ∷ []
node_mentions libs f n = flat_map f (all_parts libs n)

one : (xs : List ℕ) → xs ≡ xs ++ []
one xs = sym (append-nil xs)

two : (xs ys : List ℕ) → xs ++ ys ≡ xs ++ (ys ++ [])
two xs ys = ap (λ zs. xs ++ zs) (one ys)

lib_mentions : (libs : List LibItem) (tree : ℕ → Term) (k : ℕ) (o : Option LibItem) → slice_get libs k ≡ o → mentions (lib_of tree k o) ≡ flat_map (λ j. mentions (tree j)) (all_parts libs (node.Lib k))
lib_mentions libs tree k None e = let parts : all_parts libs (node.Lib k) ≡ [] = rw e refl in ap (flat_map (λ j. mentions (tree j))) (sym parts)
lib_mentions libs tree k (Some x) e = let parts : all_parts libs (node.Lib k) ≡ x.args = rw e refl in terms_mention tree x.args ∙ ap (flat_map (λ j. mentions (tree j))) (sym parts)

mentions_build : (libs : List LibItem) (tree : ℕ → Term) (n : Node) → mentions (build libs def tree n) ≡ node_mentions libs (λ j. mentions (tree j)) n
mentions_build libs tree (node.Lit s w) = refl
mentions_build libs tree (node.Extern x) = refl
mentions_build libs tree (node.Stream x) = refl
mentions_build libs tree (node.Def d) = refl
mentions_build libs tree (node.Drop x k) = refl
mentions_build libs tree (node.Un o s a) = one (mentions (tree a))
mentions_build libs tree (node.Bin o s a b) = two (mentions (tree a)) (mentions (tree b))
mentions_build libs tree (node.Shift d s a cs c) = two (mentions (tree a)) (mentions (tree c))
mentions_build libs tree (node.Cast f t a) = one (mentions (tree a))
mentions_build libs tree (node.And a b) = two (mentions (tree a)) (mentions (tree b))
mentions_build libs tree (node.Or a b) = two (mentions (tree a)) (mentions (tree b))
mentions_build libs tree (node.Implies a b) = two (mentions (tree a)) (mentions (tree b))
mentions_build libs tree (node.If c a b) = ap (λ zs. mentions (tree c) ++ zs) (two (mentions (tree a)) (mentions (tree b)))
mentions_build libs tree (node.Index t a i) = two (mentions (tree a)) (mentions (tree i))
mentions_build libs tree (node.Field t m a) = one (mentions (tree a))
mentions_build libs tree (node.Array t es) = terms_mention tree es
mentions_build libs tree (node.Record t es) = terms_mention tree es
mentions_build libs tree (node.Abs s a) = one (mentions (tree a))
mentions_build libs tree (node.Sign s a) = one (mentions (tree a))
mentions_build libs tree (node.Majority s es) = terms_mention tree es
mentions_build libs tree (node.Agreed s es) = terms_mention tree es
mentions_build libs tree (node.Lib k) = lib_mentions libs tree k (slice_get libs k) refl

-- a node is a mention, or mentions what its parts mention
mention_cases : (libs : List LibItem) (f : ℕ → List ℕ) (n : Node) (c : ℕ) → Has (node_mentions libs f n) c → (n ≡ node.Def c) ⊎ ((j : ℕ) × Has (all_parts libs n) j × Has (f j) c)
mention_cases libs f (node.Def d) c (inl e) = inl (ap node.Def e)
mention_cases libs f (node.Def d) c (inr h) = absurd h
mention_cases libs f n c h = inr (has_flat f (all_parts libs n) c h)

part_mentions : (libs : List LibItem) (f : ℕ → List ℕ) (n : Node) (j c : ℕ) → Has (all_parts libs n) j → Has (f j) c → Has (node_mentions libs f n) c
part_mentions libs f (node.Def d) j c h p = absurd h
part_mentions libs f n j c h p = flat_has f (all_parts libs n) j c h p

module _ (s : SpecValue) where
  abbrev D : ℕ
  D = length s.defs

  abbrev T : ℕ → Term
  T = tree s.nodes s.libs

  -- a node leads to the def that it names, or to its parts
  node_joins : (n : Node) (w : ℕ) → Has (node_next s (Some n)) w → (n ≡ node.Def w) ⊎ ((j : ℕ) × Has (all_parts s.libs n) j × (D + j ≡ w))
  node_joins (node.Def d) w (inl e) = inl (ap node.Def e)
  node_joins (node.Def d) w (inr h) = absurd h
  node_joins n w h = inr (has_map D (all_parts s.libs n) w h)

  pub part_joins : (n : Node) (j : ℕ) → Has (all_parts s.libs n) j → Has (node_next s (Some n)) (D + j)
  part_joins (node.Def d) j h = absurd h
  part_joins n j h = map_has D (all_parts s.libs n) j h

  pub next_def : (v : ℕ) (x : DefItem) → slice_get s.defs v ≡ Some x → next s v ≡ (D + x.expr) ∷ []
  unfolding next
  next_def v x e = ap (def_next s v) e

  pub next_node : (v : ℕ) → D ≤ v → next s v ≡ node_next s (slice_get s.nodes (v - D))
  unfolding next
  next_node v b = ap (def_next s v) (slice_get_past s.defs v b)

  pub next_at : (i : ℕ) → next s (D + i) ≡ node_next s (slice_get s.nodes i)
  next_at i = next_node (D + i) (omega arith) ∙ ap (λ k. node_next s (slice_get s.nodes k)) (let e : D + i - D ≡ i = omega arith in e)

  module _ (w : WellTyped s) where
    -- where a def or a node leads
    abbrev pub Way : ℕ → ℕ → Type 0
    Way v x = ((y : DefItem) × (slice_get s.defs v ≡ Some y) × (D + y.expr ≡ x)) ⊎ ((i : ℕ) × (D + i ≡ v) × ((n : Node) × (slice_get s.nodes i ≡ Some n) × ((n ≡ node.Def x) ⊎ ((j : ℕ) × Has (all_parts s.libs n) j × (D + j ≡ x)))))

    by_node : (i x : ℕ) (o : Option Node) → slice_get s.nodes i ≡ o → Has (node_next s o) x → (n : Node) × (slice_get s.nodes i ≡ Some n) × ((n ≡ node.Def x) ⊎ ((j : ℕ) × Has (all_parts s.libs n) j × (D + j ≡ x)))
    by_node i x None e h = absurd h
    by_node i x (Some n) e h = (n, e, node_joins n x h)

    sole : (a x : ℕ) → Has (a ∷ []) x → a ≡ x
    sole a x (inl e) = e
    sole a x (inr h) = absurd h

    pub way : (v x : ℕ) → Joins s v x → Way v x
    way v x h =
        ⊎_elim
        (λ less. let y = get_within s.defs v less in inl (y.0, y.1, sole (D + y.0.expr) x (subst (λ xs. Has xs x) (next_def v y.0 y.1) h)))
        (λ ge. inr (v - D, omega (arith, ge), by_node (v - D) x (slice_get s.nodes (v - D)) refl (subst (λ xs. Has xs x) (next_node v ge) h)))
        (cases_lt v D)

    pub there_def : (i d : ℕ) (n : Node) → slice_get s.nodes i ≡ Some n → n ≡ node.Def d → d < D
    there_def i d n e is = defs_there s w i (node.Def d) (e ∙ ap Some is)

    below_part : (i j : ℕ) (n : Node) → slice_get s.nodes i ≡ Some n → Has (all_parts s.libs n) j → j < i
    below_part i j n e h = each_of (λ k. k < i) (all_parts s.libs n) j (w.ordered.below i n e) h

    pub joins_there : (v x : ℕ) → Joins s v x → x < places s
    joins_there v x h =
        ⊎_elim
        (λ y. let b = exprs_there s w v y.0 y.1 in let e = y.2 in omega (arith, b, e))
        (λ r.
        ⊎_elim
        (λ is. let b = there_def r.0 x r.2.0 r.2.1 is in omega (arith, b))
        (λ p. let b = below_part r.0 p.0 r.2.0 r.2.1 p.1 in let l = slice_get_within s.nodes r.0 r.2.0 r.2.1 in let e = p.2 in omega (arith, b, l, e))
        r.2.2)
        (way v x h)

    pub no_loop : (v : ℕ) → Joins s v v → ⊥
    no_loop v h =
        ⊎_elim
        (λ y. let b = slice_get_within s.defs v y.0 y.1 in let e = y.2 in absurd (omega (arith, b, e)))
        (λ r.
        let at = r.1 in
        ⊎_elim
        (λ is. let b = there_def r.0 v r.2.0 r.2.1 is in absurd (omega (arith, b, at)))
        (λ p. let b = below_part r.0 p.0 r.2.0 r.2.1 p.1 in let e = p.2 in absurd (omega (arith, b, e, at)))
        r.2.2)
        (way v v h)

    -- ---- a mention is a way

    tree_mentions : (i : ℕ) (n : Node) → slice_get s.nodes i ≡ Some n → mentions (T i) ≡ node_mentions s.libs (λ j. mentions (T j)) n
    tree_mentions i n e = ap mentions (tree_of s.nodes s.libs w.ordered i n e) ∙ mentions_build s.libs T n

    nothing : (i : ℕ) → slice_get s.nodes i ≡ None → mentions (T i) ≡ []
    nothing i e = ap mentions (tree_is s.nodes s.libs w.ordered i ∙ ap (build_at s.libs T) e)

    joins_at : (i : ℕ) (n : Node) (x : ℕ) → slice_get s.nodes i ≡ Some n → Has (node_next s (Some n)) x → Joins s (D + i) x
    joins_at i n x e q = subst (λ xs. Has xs x) (sym (next_at i ∙ ap (node_next s) e)) q

    mention_by : (i c : ℕ) → Has (mentions (T i)) c → ((j : ℕ) → j < i → Has (mentions (T j)) c → Reaches s (D + j) c) → (o : Option Node) → slice_get s.nodes i ≡ o → Reaches s (D + i) c
    mention_by i c m rest None e = absurd (subst (λ xs. Has xs c) (nothing i e) m)
    mention_by i c m rest (Some n) e =
        ⊎_elim
        (λ is. (1, (c, subst (λ xs. Has xs c) (sym (next_at i ∙ ap (node_next s) (e ∙ ap Some is))) (inl refl), refl)))
        (λ p. let r = rest p.0 (below_part i p.0 n e p.1) p.2 in (suc r.0, (D + p.0, joins_at i n (D + p.0) e (part_joins n p.0 p.1), r.1)))
        (mention_cases s.libs (λ j. mentions (T j)) n c (subst (λ xs. Has xs c) (tree_mentions i n e) m))

    mention_way : (b i : ℕ) → i < b → (c : ℕ) → Has (mentions (T i)) c → Reaches s (D + i) c
    mention_way zero i h c m = absurd (omega (arith, h))
    mention_way (suc b) i h c m = mention_by i c m (λ j less q. mention_way b j (omega (arith, h, less)) c q) (slice_get s.nodes i) refl

    -- the def of a mention
    def_of : (a : ℕ) (o : Option DefItem) (y : TreeDef) → slice_get s.defs a ≡ o → option_map (tree_def T) o ≡ Some y → (x : DefItem) × (slice_get s.defs a ≡ Some x) × (tree_def T x ≡ y)
    def_of a None y e f = absurd (none f)
      where
        none : None ≡ Some y → ⊥
        none g = cc
    def_of a (Some x) y e f = (x, e, cc)

    mentions_way : (a c : ℕ) → Mentions (defs_of s) a c → (x : ℕ) × Joins s a x × Reaches s x c
    mentions_way a c m =
        let y = def_of a (slice_get s.defs a) m.from refl (sym (slice_get-map (tree_def T) s.defs a) ∙ m.is) in
        let h : Has (mentions (T y.0.expr)) c = subst (λ (z : TreeDef). Has (mentions z.expr) c) (sym y.2) (contains_has (mentions m.from.expr) c m.to) in
        (D + y.0.expr, subst (λ xs. Has xs (D + y.0.expr)) (sym (next_def a y.0 y.1)) (inl refl), mention_way (suc y.0.expr) y.0.expr (omega arith) c h)

    leads_way : (n a c : ℕ) → Leads (defs_of s) n a c → (x : ℕ) × Joins s a x × Reaches s x c
    leads_way zero a c l = mentions_way a c l
    leads_way (suc n) a c l =
        let p = mentions_way a l.0 l.1 in
        let q = leads_way n l.0 c l.2 in
        (p.0, p.1, way_on s p.0 l.0 c p.2 (step_then s l.0 q.0 c q.1 q.2))

    pub cycle_forth : (d : ℕ) → OnCycle (defs_of s) d → LiesOnCycle s d
    cycle_forth d way = leads_way way.0 d d way.1

    pub cycle_there : (d : ℕ) → OnCycle (defs_of s) d → d < D
    cycle_there d way =
        let r = cycle_forth d way in
        first way.0 way.1
      where
        within : (c : ℕ) → Mentions (defs_of s) d c → d < D
        within c m = let b = slice_get_within (defs_of s) d m.from m.is in let l : length (defs_of s) ≡ length s.defs = length-map s.defs (tree_def T) in omega (arith, b, l)

        first : (n : ℕ) → Leads (defs_of s) n d d → d < D
        first zero l = within d l
        first (suc n) l = within l.0 l.1

    -- ---- a way is a mention

    abbrev Led : ℕ → ℕ → Type 0
    Led a c = (n : ℕ) × Leads (defs_of s) n a c

    mentioned_at : (v : ℕ) (y : DefItem) (e : ℕ) → slice_get s.defs v ≡ Some y → Has (mentions (T y.expr)) e → Mentions (defs_of s) v e
    mentioned_at v y e is h = record { from = tree_def T y; is = slice_get-map (tree_def T) s.defs v ∙ ap (option_map (tree_def T)) is; to = has_contains (mentions (T y.expr)) e h }

    led_by : (v c e : ℕ) → Mentions (defs_of s) v e → (e ≡ c) ⊎ Led e c → Led v c
    led_by v c e m (inl is) = (0, subst (Mentions (defs_of s) v) is m)
    led_by v c e m (inr l) = (suc l.0, (e, m, l.1))

    record Backs (n c : ℕ) : Type 0 where
      of_def : (v : ℕ) → v < D → Steps s n v c → (v ≡ c) ⊎ Led v c
      of_node : (i : ℕ) → Steps s n (D + i) c → (e : ℕ) × Has (mentions (T i)) e × ((e ≡ c) ⊎ Led e c)

    led_on : (n c : ℕ) → Backs n c → (v : ℕ) → v < D → Steps s (suc n) v c → Led v c
    led_on n c ih v h st =
        ⊎_elim
        (λ y. let q = ih.of_node y.0.expr (subst (λ k. Steps s n k c) (sym y.2) st.2) in led_by v c q.0 (mentioned_at v y.0 q.0 y.1 q.1) q.2)
        (λ r. let e = r.1 in absurd (omega (arith, e, h)))
        (way v st.0 st.1)

    node_on : (n c : ℕ) → Backs n c → (i : ℕ) → Steps s (suc n) (D + i) c → (e : ℕ) × Has (mentions (T i)) e × ((e ≡ c) ⊎ Led e c)
    node_on n c ih i st =
        ⊎_elim
        (λ y. let l = slice_get_within s.defs (D + i) y.0 y.1 in absurd (omega (arith, l)))
        (λ r.
        let at = r.1 in
        let same : r.0 ≡ i = omega (arith, at) in
        let is : slice_get s.nodes i ≡ Some r.2.0 = subst (λ k. slice_get s.nodes k ≡ Some r.2.0) same r.2.1 in
        let all = sym (tree_mentions i r.2.0 is) in
        ⊎_elim
        (λ q. (st.0, subst (λ xs. Has xs st.0) all (subst (λ m. Has (node_mentions s.libs (λ j. mentions (T j)) m) st.0) (sym q) (inl refl)), ih.of_def st.0 (there_def i st.0 r.2.0 is q) st.2))
        (λ p.
        let q = ih.of_node p.0 (subst (λ k. Steps s n k c) (sym p.2) st.2) in
        (q.0, subst (λ xs. Has xs q.0) all (part_mentions s.libs (λ j. mentions (T j)) r.2.0 p.0 q.0 p.1 q.1), q.2))
        r.2.2)
        (way (D + i) st.0 st.1)

    backs : (n c : ℕ) → c < D → Backs n c
    backs zero c b = record { of_def = λ v h e. inl e; of_node = λ i e. absurd (omega (arith, e, b)) }
    backs (suc n) c b = let ih = backs n c b in record { of_def = λ v h st. inr (led_on n c ih v h st); of_node = λ i st. node_on n c ih i st }

    pub cycle_back : (d : ℕ) → d < D → LiesOnCycle s d → OnCycle (defs_of s) d
    cycle_back d b way = led_on way.2.0 d (backs way.2.0 d b) d b (way.0, way.1, way.2.1)

    -- ---- numbers fit

    all_below : (m b : ℕ) (xs : List ℕ) → m + b ≤ places s → AllByRecursion (λ j. j < b) xs → places s < 2 ^ 64 → AllByRecursion (λ j. m + j < 2 ^ 64) xs
    all_below m b [] h a fits = tt
    all_below m b (x ∷ xs) h a fits = let l = a.0 in (omega (arith, l, h, fits), all_below m b xs h a.1 fits)

    pub parts_fit : (m i : ℕ) (n : Node) (xs : List ℕ) → m ≡ D → slice_get s.nodes i ≡ Some n → xs ≡ all_parts s.libs n → places s < 2 ^ 64 → AllByRecursion (λ j. m + j < 2 ^ 64) xs
    parts_fit m i n xs e is parts fits =
        let b = slice_get_within s.nodes i n is in
        all_below m i xs (omega (arith, e, b)) (subst (AllByRecursion (λ j. j < i)) (sym parts) (w.ordered.below i n is)) fits
