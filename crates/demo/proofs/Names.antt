-- The names of a demonstration are good.
use Rattle.std.proofs.Common.{◌≡◌, ℕ, ◌<◌, ◌≤◌, Bool, true, List, [], ◌∷◌, ◌++◌, length, get_or, drop, map, Some, inl, refl, sym, ap, ◌∙◌, codes, arith}
use Rattle.std.specs.Prelude.{slice_get, All, IsTrue, nat_eq}
use Rattle.std.specs.Option.{option_map}
use Rattle.std.specs.Fmt.{decimal, digits}
use Rattle.std.specs.List.{range_with_len, list_all}
use Rattle.std.proofs.lemmas.Fmt.{decimal_injective}
use Rattle.std.proofs.lemmas.Bool.{true≢false}
use Rattle.std.proofs.lemmas.List.Sums.{AllPass-from_list_all}
use Rattle.std.proofs.lemmas.List.FromFn.{length-range_with_len, get_or-range_with_len, length-map-range_with_len, get_or-map-range_with_len}
use Rattle.std.proofs.lemmas.Option.{slice_get-map, slice_get_within, slice_get-get_or, get_or_from_slice_get}
use Rattle.std.proofs.lemmas.List.{append-nil}
use Rattle.std.proofs.lemmas.Simd.{map-map}
use Rattle.sm_io.specs.Words.{is_name, reserved, limit_fronts, limit_ends}
use Rattle.stream_core.specs.declared.spec.ExternItem.{ExternItem}
use Rattle.stream_core.specs.declared.spec.StreamItem.{StreamItem}
use Rattle.stream_core.specs.declared.spec.DefItem.{DefItem}
use Rattle.stream_core.specs.declared.spec.TriggerItem.{TriggerItem}
use Rattle.stream_core.specs.declared.spec.ObserverItem.{ObserverItem}
use Rattle.stream_core.specs.declared.spec.LibItem.{LibItem}
use Rattle.stream_core.specs.Value.{SpecValue}
use Rattle.stream_core.specs.Term.{TreeRoot, TreeStream, TreeTrigger, TreeSpec, tree, tree_root, trees}
use Rattle.stream_core.specs.WellTyped.{IsName, IsStreamName, HasNames, HasGoodNames, declared_names, argument_types, word32}
use Rattle.demo.specs.Demonstration.{demo_spec, demo_stream, demo_trigger}

-- ---- each name is one

-- whether a letter and a number are a name
abbrev numbered : ℕ → ℕ → Bool
numbered letter i = is_name (letter ∷ decimal i)

streams_named : list_all (numbered 115) (range_with_len 0 1000) ≡ true
unfolding digits reserved limit_fronts limit_ends
streams_named = refl

triggers_named : list_all (numbered 104) (range_with_len 0 1000) ≡ true
unfolding digits reserved limit_fronts limit_ends
triggers_named = refl

-- what holds of all numbers below 1,000 holds of each
below : (p : ℕ → Bool) → list_all p (range_with_len 0 1000) ≡ true → (i : ℕ) → i < 1000 → p i ≡ true
below p all i low =
    let here : i < length (range_with_len 0 1000) = omega (arith, length-range_with_len 0 1000) in
    let at : get_or (range_with_len 0 1000) i 0 ≡ i = get_or-range_with_len 0 1000 i 0 low ∙ omega arith in
    ap p (sym at) ∙ AllPass-from_list_all p (range_with_len 0 1000) all i 0 here

pub stream_name : (i : ℕ) → i < 1000 → IsTrue (is_name (codes "s" ++ decimal i))
stream_name i low = below (numbered 115) streams_named i low

pub trigger_name : (i : ℕ) → i < 1000 → IsTrue (is_name (codes "h" ++ decimal i))
trigger_name i low = below (numbered 104) triggers_named i low

pub spec_name : IsTrue (is_name (codes "demo"))
unfolding reserved limit_fronts limit_ends
spec_name = refl

-- ---- elements of a list made from numbers

-- the element at i of a list made from the numbers below n
made : {Y : Type 0} (f : ℕ → Y) (n i : ℕ) (y : Y) → slice_get (map f (range_with_len 0 n)) i ≡ Some y → (i < n) × (y ≡ f i)
made f n i y h =
    let inside : i < length (map f (range_with_len 0 n)) = slice_get_within (map f (range_with_len 0 n)) i y h in
    let low : i < n = omega (arith, length-map-range_with_len f 0 n) in
    (low, sym (get_or_from_slice_get (map f (range_with_len 0 n)) i y y h) ∙ get_or-map-range_with_len f 0 n i i y low (omega arith))

-- the same of a list that another one maps to
mapped : {X Y : Type 0} (g : X → Y) (f : ℕ → Y) (n : ℕ) (xs : List X) → map g xs ≡ map f (range_with_len 0 n) → (i : ℕ) (x : X) → slice_get xs i ≡ Some x → (i < n) × (g x ≡ f i)
mapped g f n xs is i x h = made f n i (g x) (ap (λ ys. slice_get ys i) (sym is) ∙ slice_get-map g xs i ∙ ap (option_map g) h)

none_mapped : {X Y : Type 0} (f : X → Y) (xs : List X) → map f xs ≡ [] → xs ≡ []
none_mapped f [] h = refl
none_mapped f (x ∷ xs) h = absurd (cc)

all_none : {X : Type 0} (P : X → Type 0) (xs : List X) → xs ≡ [] → All P xs
all_none P xs h = λ k d b. absurd (omega (arith, ap length h))

all_got : {X : Type 0} (P : X → Type 0) (xs : List X) → ((i : ℕ) (x : X) → slice_get xs i ≡ Some x → P x) → All P xs
all_got P xs f = λ k d b. f k _ (slice_get-get_or xs k d b)

-- ---- the names of a demonstration

abbrev stream_at : ℕ → List ℕ
stream_at i = codes "s" ++ decimal i

-- two streams of one name are one
same_number : (k i j : ℕ) → k ≤ 1000 → i < k → j < k → stream_at i ≡ stream_at j → i ≡ j
same_number k i j most a b h = decimal_injective i j (omega arith) (omega arith) (ap (drop 1) h)

-- a stream and a trigger have different names
differ : (i j : ℕ) → codes "h" ++ decimal i ≡ codes "s" ++ decimal j → ⊥
differ i j h = true≢false (sym (ap (λ (xs : List ℕ). nat_eq (get_or xs 0 0) 115) h))

is_stream_name : (libs : List LibItem) (name : List ℕ) → IsName name → IsStreamName libs name
is_stream_name [] name h = inl h
is_stream_name (x ∷ xs) name h = h

-- four lists, of which only the second has elements
joined : (a b c d names : List (List ℕ)) → a ≡ [] → b ≡ names → c ≡ [] → d ≡ [] → a ++ b ++ c ++ d ≡ names
joined a b c d names p q r s = rw (p, q, r, s, append-nil (names ++ [])) (append-nil names)

-- a specification of k streams, as it is stored
module _ (k : ℕ) (most : k ≤ 1000) (s : SpecValue) (is : trees s ≡ demo_spec k) where
  stream_made : (i : ℕ) (x : StreamItem) → slice_get s.streams i ≡ Some x → (i < k) × (x.name ≡ stream_at i)
  stream_made i x h =
      let t = tree s.nodes s.libs in
      let m = mapped (λ (y : StreamItem). record { name = y.name; ty = y.ty; init = y.init; expr = t y.expr; at = y.at }) demo_stream k s.streams (ap (λ (z : TreeSpec). z.streams) is) i x h in
      (m.0, ap (λ (y : TreeStream). y.name) m.1)

  trigger_made : (i : ℕ) (x : TriggerItem) → slice_get s.triggers i ≡ Some x → (i < k) × (x.name ≡ codes "h" ++ decimal i) × (argument_types x ≡ word32 ∷ [])
  trigger_made i x h =
      let t = tree s.nodes s.libs in
      let m = mapped (λ (y : TriggerItem). record { name = y.name; guard = tree_root t y.guard; args = map (tree_root t) y.args }) demo_trigger k s.triggers (ap (λ (z : TreeSpec). z.triggers) is) i x h in
      (m.0, ap (λ (y : TreeTrigger). y.name) m.1, sym (map-map (λ (r : TreeRoot). r.ty) (tree_root t) x.args) ∙ ap (λ (y : TreeTrigger). map (λ (r : TreeRoot). r.ty) y.args) m.1)

  no_types : s.types ≡ []
  no_types = ap (λ (z : TreeSpec). z.types) is

  no_externs : s.externs ≡ []
  no_externs = ap (λ (z : TreeSpec). z.externs) is

  no_defs : s.defs ≡ []
  no_defs = none_mapped _ s.defs (ap (λ (z : TreeSpec). z.defs) is)

  no_observers : s.observers ≡ []
  no_observers = none_mapped _ s.observers (ap (λ (z : TreeSpec). z.observers) is)

  stream_names : map (λ (x : StreamItem). x.name) s.streams ≡ map stream_at (range_with_len 0 k)
  stream_names =
      let t = tree s.nodes s.libs in
      sym (map-map (λ (y : TreeStream). y.name) (λ (y : StreamItem). record { name = y.name; ty = y.ty; init = y.init; expr = t y.expr; at = y.at }) s.streams)
      ∙ ap (λ (z : TreeSpec). map (λ (y : TreeStream). y.name) z.streams) is ∙ map-map (λ (y : TreeStream). y.name) demo_stream (range_with_len 0 k)

  names_are : declared_names s ≡ map stream_at (range_with_len 0 k)
  names_are = joined _ _ _ _ _ (ap (map (λ (x : ExternItem). x.name)) no_externs) stream_names (ap (map (λ (x : DefItem). x.name)) no_defs) (ap (map (λ (x : ObserverItem). x.name)) no_observers)

  name_made : (i : ℕ) (name : List ℕ) → slice_get (declared_names s) i ≡ Some name → (i < k) × (name ≡ stream_at i)
  name_made i name h = made stream_at k i name (ap (λ names. slice_get names i) (sym names_are) ∙ h)

  names_good : HasGoodNames s
  names_good = record {
    spec = ap (λ (z : TreeSpec). is_name z.name) is ∙ spec_name;
    types = all_none HasNames s.types no_types;
    externs = all_none (λ (x : ExternItem). IsName x.name) s.externs no_externs;
    streams = all_got (λ (x : StreamItem). IsStreamName s.libs x.name) s.streams (λ i x h. let m = stream_made i x h in is_stream_name s.libs x.name (ap is_name m.1 ∙ stream_name i (omega (arith, m.0))));
    defs = all_none (λ (x : DefItem). IsName x.name) s.defs no_defs;
    triggers = all_got (λ (x : TriggerItem). IsName x.name) s.triggers (λ i x h. let m = trigger_made i x h in ap is_name m.1 ∙ trigger_name i (omega (arith, m.0)));
    observers = all_none (λ (x : ObserverItem). IsName x.name) s.observers no_observers;
    once = λ i j name a b. let m = name_made i name a in let n = name_made j name b in same_number k i j most m.0 n.0 (sym m.1 ∙ n.1);
    apart = λ i j x a b. let m = trigger_made i x a in let n = name_made j x.name b in differ i j (sym m.1 ∙ n.1);
    alike = λ i j x y a b same. (trigger_made i x a).2 ∙ sym (trigger_made j y b).2;
  }

pub good_names : (k : ℕ) → k ≤ 1000 → (s : SpecValue) → trees s ≡ demo_spec k → HasGoodNames s
good_names k most s is = names_good k most s is
