-- The names of a lowered specification: the old ones, and the numbers of the buffers.
use Rattle.std.proofs.Common.{◌≡◌, ◌≢◌, inl, inr, ℕ, zero, suc, ◌+◌, ◌<◌, List, [], ◌∷◌, ◌++◌, length, map, Some, refl, sym, ap, ◌∙◌, subst, arith}
use Rattle.std.specs.Prelude.{slice_get, All}
use Rattle.std.specs.List.{AllByRecursion}
use Rattle.std.proofs.lemmas.List.{append_assoc}
use Rattle.stream_types.specs.declared.scalar.Ty.{Ty}
use Rattle.stream_types.specs.declared.types.TypeEntry.{TypeEntry}
use Rattle.stream_core.specs.declared.spec.ExternItem.{ExternItem}
use Rattle.stream_core.specs.declared.spec.StreamItem.{StreamItem}
use Rattle.stream_core.specs.declared.spec.DefItem.{DefItem}
use Rattle.stream_core.specs.declared.spec.TriggerItem.{TriggerItem}
use Rattle.stream_core.specs.declared.spec.ObserverItem.{ObserverItem}
use Rattle.stream_core.specs.declared.spec.LibItem.{LibItem}
use Rattle.stream_core.specs.Value.{SpecValue}
use Rattle.stream_core.specs.Term.{Term, TreeSpec, TreeStream, TreeDef, TreeTrigger, TreeObserver, TreeLib, TreeRoot, root_with, tree, tree_root, trees}
use Rattle.stream_core.specs.Lower.{all_buffers, buffer_of, lowered, lowered_spec}
use Rattle.stream_core.specs.WellTyped.{HasGoodNames, HasNames, IsName, IsStreamName, argument_types, declared_names}
use Rattle.form_laws.proofs.BufferStreams.{AsMany}
use Rattle.form_laws.proofs.OutOfSpecs.{map_append, map_twice}
use Rattle.form_laws.proofs.PlainForms.{all_of_each, each_append, each_of}
use Rattle.stream_lib.proofs.BufferNames.{Apart, NotIn, all_told, apart_of, back_of, buffer_names, each_number, front_of, inserted, name_in_no_numbers, names, not_at, not_in, numbers, numbers_apart, numbers_not_among, once_of, small}

-- ---- lists

of_map : {X Y : Type 0} (P : Y → Type 0) (f : X → Y) (xs : List X) → AllByRecursion P (map f xs) → AllByRecursion (λ x. P (f x)) xs
of_map P f [] h = tt
of_map P f (x ∷ xs) h = (h.0, of_map P f xs h.1)

to_map : {X Y : Type 0} (P : Y → Type 0) (f : X → Y) (xs : List X) → AllByRecursion (λ x. P (f x)) xs → AllByRecursion P (map f xs)
to_map P f [] h = tt
to_map P f (x ∷ xs) h = (h.0, to_map P f xs h.1)

-- what holds of the keys of one list holds of the same keys of another one
by_keys : {X Y : Type 0} (P : Y → Type 0) (f : X → Y) (xs ys : List X) → map f xs ≡ map f ys → All (λ x. P (f x)) ys → All (λ x. P (f x)) xs
by_keys P f xs ys same h = all_of_each (λ x. P (f x)) xs (of_map P f xs (subst (AllByRecursion P) (sym same) (to_map P f ys (each_of (λ x. P (f x)) ys h))))

-- the element of the other list that has the same key
found : {X Y : Type 0} (f : X → Y) (xs ys : List X) → map f xs ≡ map f ys → (i : ℕ) (x : X) → slice_get xs i ≡ Some x → (y : X) × (slice_get ys i ≡ Some y) × (f x ≡ f y)
found f [] ys same i x e = absurd (cc)
found f (z ∷ zs) [] same i x e = absurd (cc)
found f (z ∷ zs) (y ∷ ys) same zero x e = let q : z ≡ x = cc in let r : f z ≡ f y = cc in (y, refl, ap f (sym q) ∙ r)
found f (z ∷ zs) (y ∷ ys) same (suc i) x e = found f zs ys (cc) i x e

five_parts : (es ss bs ds os : List (List ℕ)) → es ++ (ss ++ bs) ++ ds ++ os ≡ (es ++ ss) ++ (bs ++ (ds ++ os))
five_parts es ss bs ds os =
    append_assoc (es ++ (ss ++ bs)) ds os
    ∙ ap (λ xs. xs ++ (ds ++ os)) (sym (append_assoc es ss bs))
    ∙ append_assoc (es ++ ss) bs (ds ++ os)

-- ---- names of streams

old_name : (libs : List LibItem) (n : List ℕ) → IsStreamName libs n → IsStreamName [] n
old_name [] n h = h
old_name (x ∷ xs) n h = inl h

old_apart : (t : LibItem → TreeLib) (libs : List LibItem) (n : List ℕ) → 1 + all_told (map t libs) < 1048576 → IsStreamName libs n → NotIn n (numbers 1 (all_told (map t libs)))
old_apart t [] n few h = tt
old_apart t (x ∷ xs) n few h = name_in_no_numbers n 1 (all_told (map t (x ∷ xs))) h few

names_apart : (t : LibItem → TreeLib) (libs : List LibItem) (ns : List (List ℕ)) → 1 + all_told (map t libs) < 1048576 → AllByRecursion (IsStreamName libs) ns → AllByRecursion (λ n. NotIn n (numbers 1 (all_told (map t libs)))) ns
names_apart t libs [] few h = tt
names_apart t libs (n ∷ ns) few h = (old_apart t libs n few h.0, names_apart t libs ns few h.1)

proper_apart : (k : ℕ) (ns : List (List ℕ)) → 1 + k < 1048576 → AllByRecursion IsName ns → AllByRecursion (λ n. NotIn n (numbers 1 k)) ns
proper_apart k [] few h = tt
proper_apart k (n ∷ ns) few h = (name_in_no_numbers n 1 k h.0 few, proper_apart k ns few h.1)

old_names : (libs : List LibItem) (ns : List (List ℕ)) → AllByRecursion (IsStreamName libs) ns → AllByRecursion (IsStreamName []) ns
old_names libs [] h = tt
old_names libs (n ∷ ns) h = (old_name libs n h.0, old_names libs ns h.1)

-- ---- the whole

abbrev name_and_types : TriggerItem → List ℕ × List Ty
name_and_types x = (x.name, argument_types x)

abbrev tree_key : TreeTrigger → List ℕ × List Ty
tree_key x = (x.name, map (λ (r : TreeRoot). r.ty) x.args)

key_same : (f : Term → Term) (x : TreeTrigger) → tree_key (record x { guard = root_with f x.guard; args = map (root_with f) x.args }) ≡ tree_key x
key_same f x = ap (λ ts. (x.name, ts)) (map_twice (λ (r : TreeRoot). r.ty) (root_with f) x.args)

key_of_tree : (t : ℕ → Term) (x : TriggerItem) → tree_key (record { name = x.name; guard = tree_root t x.guard; args = map (tree_root t) x.args }) ≡ name_and_types x
key_of_tree t x = ap (λ ts. (x.name, ts)) (map_twice (λ (r : TreeRoot). r.ty) (tree_root t) x.args)

map_same : {X Y : Type 0} (f g : X → Y) (xs : List X) → ((x : X) → f x ≡ g x) → map f xs ≡ map g xs
map_same f g [] h = refl
map_same f g (x ∷ xs) h = let a = h x in let r = map_same f g xs h in cc

module _ (s x : SpecValue) (is : trees x ≡ lowered_spec (trees s)) (none : x.libs ≡ []) (good : HasGoodNames s)
    (many : AllByRecursion AsMany (trees s).libs) (few : 1 + all_told (trees s).libs < 1048576)
  where
    abbrev low : Term → Term
    low = lowered (buffer_of (length (trees s).streams) (trees s).libs)

    abbrev told : ℕ
    told = all_told (trees s).libs

    stream_names : map (λ (y : StreamItem). y.name) x.streams ≡ map (λ (y : StreamItem). y.name) s.streams ++ numbers 1 told
    stream_names =
        sym (map_twice (λ (y : TreeStream). y.name) _ x.streams)
        ∙ ap (λ (t : TreeSpec). names t.streams) is
        ∙ map_append (λ (y : TreeStream). y.name) (map (λ (y : TreeStream). record y { expr = low y.expr }) (trees s).streams) (all_buffers low 1 (length (trees s).streams) (trees s).libs)
        ∙ ap (λ ns. ns ++ names (all_buffers low 1 (length (trees s).streams) (trees s).libs)) (map_twice (λ (y : TreeStream). y.name) (λ (y : TreeStream). record y { expr = low y.expr }) (trees s).streams ∙ map_twice (λ (y : TreeStream). y.name) _ s.streams)
        ∙ ap (λ ns. map (λ (y : StreamItem). y.name) s.streams ++ ns) (buffer_names low 1 (length (trees s).streams) (trees s).libs many)

    def_names : map (λ (y : DefItem). y.name) x.defs ≡ map (λ (y : DefItem). y.name) s.defs
    def_names =
        sym (map_twice (λ (y : TreeDef). y.name) _ x.defs)
        ∙ ap (λ (t : TreeSpec). map (λ (y : TreeDef). y.name) t.defs) is
        ∙ map_twice (λ (y : TreeDef). y.name) (λ (y : TreeDef). record y { expr = low y.expr }) (trees s).defs
        ∙ map_twice (λ (y : TreeDef). y.name) _ s.defs

    observer_names : map (λ (y : ObserverItem). y.name) x.observers ≡ map (λ (y : ObserverItem). y.name) s.observers
    observer_names =
        sym (map_twice (λ (y : TreeObserver). y.name) _ x.observers)
        ∙ ap (λ (t : TreeSpec). map (λ (y : TreeObserver). y.name) t.observers) is
        ∙ map_twice (λ (y : TreeObserver). y.name) (λ (y : TreeObserver). record y { root = root_with low y.root }) (trees s).observers
        ∙ map_twice (λ (y : TreeObserver). y.name) _ s.observers

    keys_of : (t : ℕ → Term) (xs : List TriggerItem) → map tree_key (map (λ (y : TriggerItem). record { name = y.name; guard = tree_root t y.guard; args = map (tree_root t) y.args }) xs) ≡ map name_and_types xs
    keys_of t xs = map_twice tree_key _ xs ∙ map_same _ name_and_types xs (key_of_tree t)

    trigger_keys : map name_and_types x.triggers ≡ map name_and_types s.triggers
    trigger_keys =
        sym (keys_of (tree x.nodes x.libs) x.triggers)
        ∙ ap (λ (t : TreeSpec). map tree_key t.triggers) is
        ∙ map_twice tree_key (λ (y : TreeTrigger). record y { guard = root_with low y.guard; args = map (root_with low) y.args }) (trees s).triggers
        ∙ map_same _ tree_key (trees s).triggers (key_same low)
        ∙ keys_of (tree s.nodes s.libs) s.triggers

    externs_same : x.externs ≡ s.externs
    externs_same = ap (λ (t : TreeSpec). t.externs) is

    abbrev front : List (List ℕ)
    front = map (λ (y : ExternItem). y.name) s.externs ++ map (λ (y : StreamItem). y.name) s.streams

    abbrev rest : List (List ℕ)
    rest = map (λ (y : DefItem). y.name) s.defs ++ map (λ (y : ObserverItem). y.name) s.observers

    all_names : declared_names x ≡ front ++ (numbers 1 told ++ rest)
    all_names =
        ap (λ es. es ++ map (λ (y : StreamItem). y.name) x.streams ++ map (λ (y : DefItem). y.name) x.defs ++ map (λ (y : ObserverItem). y.name) x.observers) (ap (map (λ (y : ExternItem). y.name)) externs_same)
        ∙ ap (λ ss. map (λ (y : ExternItem). y.name) s.externs ++ ss ++ map (λ (y : DefItem). y.name) x.defs ++ map (λ (y : ObserverItem). y.name) x.observers) stream_names
        ∙ ap (λ ds. map (λ (y : ExternItem). y.name) s.externs ++ (map (λ (y : StreamItem). y.name) s.streams ++ numbers 1 told) ++ ds ++ map (λ (y : ObserverItem). y.name) x.observers) def_names
        ∙ ap (λ os. map (λ (y : ExternItem). y.name) s.externs ++ (map (λ (y : StreamItem). y.name) s.streams ++ numbers 1 told) ++ map (λ (y : DefItem). y.name) s.defs ++ os) observer_names
        ∙ five_parts (map (λ (y : ExternItem). y.name) s.externs) (map (λ (y : StreamItem). y.name) s.streams) (numbers 1 told) (map (λ (y : DefItem). y.name) s.defs) (map (λ (y : ObserverItem). y.name) s.observers)

    before : declared_names s ≡ front ++ rest
    before = append_assoc front (map (λ (y : DefItem). y.name) s.defs) (map (λ (y : ObserverItem). y.name) s.observers)

    rest_are_names : AllByRecursion IsName rest
    rest_are_names = each_append IsName (map (λ (y : DefItem). y.name) s.defs) (map (λ (y : ObserverItem). y.name) s.observers)
        (to_map IsName (λ (y : DefItem). y.name) s.defs (each_of (λ (y : DefItem). IsName y.name) s.defs good.defs))
        (to_map IsName (λ (y : ObserverItem). y.name) s.observers (each_of (λ (y : ObserverItem). IsName y.name) s.observers good.observers))

    stream_good : AllByRecursion (IsStreamName s.libs) (map (λ (y : StreamItem). y.name) s.streams)
    stream_good = to_map (IsStreamName s.libs) (λ (y : StreamItem). y.name) s.streams (each_of (λ (y : StreamItem). IsStreamName s.libs y.name) s.streams good.streams)

    front_apart : AllByRecursion (λ n. NotIn n (numbers 1 told)) front
    front_apart = each_append (λ n. NotIn n (numbers 1 told)) (map (λ (y : ExternItem). y.name) s.externs) (map (λ (y : StreamItem). y.name) s.streams)
        (proper_apart told (map (λ (y : ExternItem). y.name) s.externs) few (to_map IsName (λ (y : ExternItem). y.name) s.externs (each_of (λ (y : ExternItem). IsName y.name) s.externs good.externs)))
        (names_apart _ s.libs (map (λ (y : StreamItem). y.name) s.streams) few stream_good)

    all_apart : Apart (declared_names x)
    all_apart = subst Apart (sym all_names)
        (inserted front (numbers 1 told) rest
        (subst Apart before (apart_of (declared_names s) good.once))
        (numbers_apart 1 told few)
        (numbers_not_among 1 told rest rest_are_names few)
        front_apart)

    buffer_is_named : AllByRecursion (IsStreamName []) (numbers 1 told)
    buffer_is_named = each_number (IsStreamName []) 1 told (λ m a b. inr (m, a, small m (omega (arith, b, few)), refl))

    streams_named : All (λ (y : StreamItem). IsStreamName x.libs y.name) x.streams
    streams_named = subst (λ (libs : List LibItem). All (λ (y : StreamItem). IsStreamName libs y.name) x.streams) (sym none)
        (all_of_each (λ (y : StreamItem). IsStreamName [] y.name) x.streams
        (of_map (IsStreamName []) (λ (y : StreamItem). y.name) x.streams
        (subst (AllByRecursion (IsStreamName [])) (sym stream_names)
        (each_append (IsStreamName []) (map (λ (y : StreamItem). y.name) s.streams) (numbers 1 told) (old_names s.libs (map (λ (y : StreamItem). y.name) s.streams) stream_good) buffer_is_named))))

    abbrev first_of : List ℕ × List Ty → List ℕ
    first_of k = k.0

    no_trigger : (i : ℕ) (y : TriggerItem) → slice_get x.triggers i ≡ Some y → NotIn y.name (declared_names x)
    no_trigger i y e =
        let z = found name_and_types x.triggers s.triggers trigger_keys i y e in
        let n : z.0.name ≡ y.name = sym (ap first_of z.2) in
        let old = subst (NotIn z.0.name) before (not_in z.0.name (declared_names s) (λ k. good.apart i k z.0 z.1)) in
        let name = is_name z.0 i z.1 in
        let new = each_append (λ m. z.0.name ≢ m) front (numbers 1 told ++ rest) (front_of (λ m. z.0.name ≢ m) front rest old)
        (each_append (λ m. z.0.name ≢ m) (numbers 1 told) rest (name_in_no_numbers z.0.name 1 told name few) (back_of (λ m. z.0.name ≢ m) front rest old)) in
        subst (λ m. NotIn m (declared_names x)) n (subst (NotIn z.0.name) (sym all_names) new)
      where
        is_name : (t : TriggerItem) (k : ℕ) → slice_get s.triggers k ≡ Some t → IsName t.name
        is_name t k e = at s.triggers k (each_of (λ (v : TriggerItem). IsName v.name) s.triggers good.triggers) e
          where
            at : (ts : List TriggerItem) (k : ℕ) → AllByRecursion (λ (v : TriggerItem). IsName v.name) ts → slice_get ts k ≡ Some t → IsName t.name
            at [] k h g = absurd (cc)
            at (v ∷ vs) zero h g = let q : v ≡ t = cc in subst (λ (u : TriggerItem). IsName u.name) q h.0
            at (v ∷ vs) (suc k) h g = at vs k h.1 g

    pub names_good : HasGoodNames x
    names_good = record {
      spec = subst IsName (sym (ap (λ (t : TreeSpec). t.name) is)) good.spec;
      types = subst (λ (ts : List TypeEntry). All HasNames ts) (sym (ap (λ (t : TreeSpec). t.types) is)) good.types;
      externs = subst (λ (es : List ExternItem). All (λ (y : ExternItem). IsName y.name) es) (sym externs_same) good.externs;
      streams = streams_named;
      defs = by_keys IsName (λ (y : DefItem). y.name) x.defs s.defs def_names good.defs;
      triggers = by_keys (λ (k : List ℕ × List Ty). IsName k.0) name_and_types x.triggers s.triggers trigger_keys good.triggers;
      observers = by_keys IsName (λ (y : ObserverItem). y.name) x.observers s.observers observer_names good.observers;
      once = once_of (declared_names x) all_apart;
      apart = λ i j y e. not_at y.name (declared_names x) (no_trigger i y e) j;
      alike = λ i j y z p q e.
          let a = found name_and_types x.triggers s.triggers trigger_keys i y p in
          let b = found name_and_types x.triggers s.triggers trigger_keys j z q in
          let n : a.0.name ≡ b.0.name = sym (ap first_of a.2) ∙ e ∙ ap first_of b.2 in
          ap (λ (k : List ℕ × List Ty). k.1) a.2 ∙ good.alike i j a.0 b.0 a.1 b.1 n ∙ sym (ap (λ (k : List ℕ × List Ty). k.1) b.2);
    }
