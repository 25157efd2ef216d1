-- A specification of externs of Bool and of triggers that read them is well typed.
use Rattle.std.proofs.Common.{◌≡◌, ℕ, zero, suc, ◌<◌, ◌≤◌, Bool, true, false, not, ◌&&◌, List, [], ◌∷◌, ◌++◌, length, map, Some, refl, sym, ap, ◌∙◌, subst, append-nil, zero-le, ⊎_elim, arith}
use Rattle.std.specs.Prelude.{slice_get, nat_lt, nat_le, codes, All, IsTrue}
use Rattle.std.specs.Option.{option_map}
use Rattle.std.specs.List.{list_all, list_any, AllByRecursion}
use Rattle.std.proofs.lemmas.Bool.{and_parts, ltb-true, leb-true}
use Rattle.std.proofs.lemmas.List.{length-map}
use Rattle.std.proofs.lemmas.Option.{slice_get-map}
use Rattle.sm_io.specs.Words.{is_name, reserved, limit_fronts, limit_ends}
use Rattle.stream_types.specs.declared.scalar.Ty.{Ty}
use Rattle.stream_types.specs.TypeList.{Stands, IsTypeList}
use Rattle.stream_types.specs.declared.types.TypeEntry.{TypeEntry}
use Rattle.stream_core.specs.declared.node.Node.{Node}
use Rattle.stream_core.specs.declared.node.Node.TheVariants as node
use Rattle.stream_core.specs.declared.spec.ExternItem.{ExternItem}
use Rattle.stream_core.specs.declared.spec.TriggerItem.{TriggerItem}
use Rattle.stream_core.specs.Value.{SpecValue}
use Rattle.stream_core.specs.declared.spec.Item.{Item}
use Rattle.stream_core.specs.Ordered.{all_parts}
use Rattle.stream_core.specs.Stored.{IsPlaced, HasRoom}
use Rattle.stream_core.specs.declared.spec.LibItem.{LibItem}
use Rattle.stream_core.specs.Term.{Term, TreeTrigger, build_at, extern, tree, tree_root, tree_to, trees}
use Rattle.stream_core.specs.Signature.{signature_of}
use Rattle.stream_core.specs.WellTyped.{bool, HasType, IsGoodTrigger, HasGoodNames, WellTyped, declared_names, argument_types}
use Rattle.c99_tree.specs.Words.{is_same}
use Rattle.c99_tree.specs.WellFormed.{are_distinct}
use Rattle.ring_codegen.specs.WorkedSpecs.{Bare, bare, bare_trigger, bare_spec, bool_item, empty, door, doors}
use Rattle.ring_codegen.proofs.Listing.{by_place, at_any, Once}
use Rattle.sm_io.proofs.Elements.{all_by_place, get_within}

-- a trigger has a name that no extern has, and a node for its guard
abbrev is_fit : List (List ℕ) → ℕ → Bare → Bool
is_fit names n x = is_name x.name && not (list_any (is_same x.name) names) && nat_lt x.guard n

-- all that is asked of it, as one test
abbrev are_fit : List ℕ → List (List ℕ) → List ℕ → List Bare → Bool
are_fit name names reads triggers =
    is_name name && list_all is_name names && are_distinct is_same names && list_all (λ k. nat_lt k (length names)) reads
    && list_all (is_fit names (length reads)) triggers

-- ---- lists

none : {X : Type 0} (P : X → Type 0) → All P []
none P k d b = absurd (omega (arith, b))

each_of : {X : Type 0} (p : X → Bool) (xs : List X) → list_all p xs ≡ true → AllByRecursion (λ x. p x ≡ true) xs
each_of p [] h = tt
each_of p (x ∷ xs) h = let a = and_parts (p x) (list_all p xs) h in (a.0, each_of p xs a.1)

each_map : {X Y : Type 0} (P : X → Type 0) (Q : Y → Type 0) (f : X → Y) → ((x : X) → P x → Q (f x)) → (xs : List X) → AllByRecursion P xs → AllByRecursion Q (map f xs)
each_map P Q f m [] h = tt
each_map P Q f m (x ∷ xs) h = (m x h.0, each_map P Q f m xs h.1)

both_ways : (b : Bool) → b ≡ true → not b ≡ true → ⊥
both_ways true p q = cc q
both_ways false p q = cc p

-- the first of distinct names is none of the others
head_apart : (n : List ℕ) (ns : List (List ℕ)) → are_distinct is_same (n ∷ ns) ≡ true → (j : ℕ) (m : List ℕ) → n ≡ m → slice_get ns j ≡ Some m → ⊥
head_apart n ns h j m s f =
    both_ways (list_any (is_same n) ns) (at_any n ns j (f ∙ ap Some (sym s))) (and_parts (not (list_any (is_same n) ns)) (are_distinct is_same ns) h).0

once-distinct : (ns : List (List ℕ)) → are_distinct is_same ns ≡ true → Once ns
once-distinct [] h i j m e f = absurd (cc e)
once-distinct (n ∷ ns) h zero zero m e f = refl
once-distinct (n ∷ ns) h zero (suc j) m e f = absurd (head_apart n ns h j m (cc e) f)
once-distinct (n ∷ ns) h (suc i) zero m e f = absurd (head_apart n ns h i m (cc f) e)
once-distinct (n ∷ ns) h (suc i) (suc j) m e f = ap suc (once-distinct ns (and_parts (not (list_any (is_same n) ns)) (are_distinct is_same ns) h).1 i j m e f)

-- ---- the parts of a specification

no_types : IsTypeList []
no_types = record {
  each = λ i e h. absurd (cc h);
  narrow = λ i. zero-le;
  structs = λ i j name fs gs h g. absurd (cc h);
  arrays = λ i j elem n h g. absurd (cc h);
  short = zero-le;
}

-- a node that reads an extern has no parts
no_parts : (reads : List ℕ) (i m : ℕ) (n : Node) → slice_get (map node.Extern reads) i ≡ Some n → AllByRecursion (λ j. j < m) (all_parts [] n)
no_parts [] i m n e = absurd (cc e)
no_parts (k ∷ reads) zero m n e = let s : node.Extern k ≡ n = cc e in subst (λ (v : Node). AllByRecursion (λ j. j < m) (all_parts [] v)) s tt
no_parts (k ∷ reads) (suc i) m n e = no_parts reads i m n e

expr-is : (nodes : List Node) (libs : List LibItem) (i k : ℕ) → slice_get nodes i ≡ Some (node.Extern k) → tree nodes libs i ≡ extern k
unfolding tree
expr-is nodes libs i k e = ap (build_at libs (tree_to nodes libs i)) e

-- the number of the extern that a node reads
node_reads : (reads : List ℕ) (i : ℕ) → i < length reads → (k : ℕ) × (slice_get reads i ≡ Some k) × (slice_get (map node.Extern reads) i ≡ Some (node.Extern k))
node_reads reads i b = let at = get_within reads i b in (at.0, at.1, slice_get-map node.Extern reads i ∙ ap (option_map node.Extern) at.1)

names-of : (names : List (List ℕ)) → map (λ (x : ExternItem). x.name) (map bool_item names) ≡ names
names-of [] = refl
names-of (n ∷ names) = ap (λ (r : List (List ℕ)). n ∷ r) (names-of names)

all_stand : (names : List (List ℕ)) → AllByRecursion (λ (x : ExternItem). Stands [] x.ty) (map bool_item names)
all_stand [] = tt
all_stand (n ∷ names) = (tt, all_stand names)

no_arguments : (triggers : List Bare) (i : ℕ) (x : TriggerItem) → slice_get (map bare_trigger triggers) i ≡ Some x → argument_types x ≡ []
no_arguments [] i x e = absurd (cc e)
no_arguments (t ∷ triggers) zero x e = let s : bare_trigger t ≡ x = cc e in ap argument_types (sym s)
no_arguments (t ∷ triggers) (suc i) x e = no_arguments triggers i x e

record Fits (name : List ℕ) (names : List (List ℕ)) (reads : List ℕ) (triggers : List Bare) : Type 0 where
  name_is : is_name name ≡ true
  names_are : AllByRecursion (λ n. is_name n ≡ true) names
  once : Once names
  below : AllByRecursion (λ k. nat_lt k (length names) ≡ true) reads
  fit : AllByRecursion (λ x. is_fit names (length reads) x ≡ true) triggers

fits : (name : List ℕ) (names : List (List ℕ)) (reads : List ℕ) (triggers : List Bare) → are_fit name names reads triggers ≡ true → Fits name names reads triggers
fits name names reads triggers h =
    let a = and_parts (is_name name && list_all is_name names && are_distinct is_same names && list_all (λ k. nat_lt k (length names)) reads) (list_all (is_fit names (length reads)) triggers) h in
    let b = and_parts (is_name name && list_all is_name names && are_distinct is_same names) (list_all (λ k. nat_lt k (length names)) reads) a.0 in
    let c = and_parts (is_name name && list_all is_name names) (are_distinct is_same names) b.0 in
    let d = and_parts (is_name name) (list_all is_name names) c.0 in
    record {
      name_is = d.0;
      names_are = each_of is_name names d.1;
      once = once-distinct names c.1;
      below = each_of (λ k. nat_lt k (length names)) reads b.1;
      fit = each_of (is_fit names (length reads)) triggers a.1;
    }

record FitTrigger (names : List (List ℕ)) (n : ℕ) (x : Bare) : Type 0 where
  named : is_name x.name ≡ true
  new : list_any (is_same x.name) names ≡ true → ⊥
  there : x.guard < n

fit_trigger : (names : List (List ℕ)) (n : ℕ) (x : Bare) → is_fit names n x ≡ true → FitTrigger names n x
fit_trigger names n x h =
    let a = and_parts (is_name x.name && not (list_any (is_same x.name) names)) (nat_lt x.guard n) h in
    let b = and_parts (is_name x.name) (not (list_any (is_same x.name) names)) a.0 in
    record { named = b.0; new = λ there. both_ways (list_any (is_same x.name) names) there b.1; there = ltb-true x.guard n a.1 }

-- what a fit trigger's item is like
fit_item : (names : List (List ℕ)) (n : ℕ) (triggers : List Bare) → AllByRecursion (λ x. is_fit names n x ≡ true) triggers → (i : ℕ) (x : TriggerItem) → slice_get (map bare_trigger triggers) i ≡ Some x → list_any (is_same x.name) names ≡ true → ⊥
fit_item names n [] h i x e = absurd (cc e)
fit_item names n (t ∷ triggers) h zero x e = let s : bare_trigger t ≡ x = cc e in subst (λ (y : TriggerItem). list_any (is_same y.name) names ≡ true → ⊥) s (fit_trigger names n t h.0).new
fit_item names n (t ∷ triggers) h (suc i) x e = fit_item names n triggers h.1 i x e

module _ (name : List ℕ) (names : List (List ℕ)) (reads : List ℕ) (triggers : List Bare) (f : Fits name names reads triggers) where
  abbrev spec : SpecValue
  spec = bare_spec name names reads triggers

  node_typed : (i : ℕ) → i < length reads → HasType (signature_of (trees spec)) (tree spec.nodes [] i) bool
  node_typed i b =
      let extern_ty : ExternItem → Ty = λ (x : ExternItem). x.ty in
      let node = node_reads reads i b in
      let at = get_within names node.0 (ltb-true node.0 (length names) (by_place (λ k. nat_lt k (length names) ≡ true) reads i node.0 f.below node.1)) in
      subst (λ (t : Term). HasType (signature_of (trees spec)) t bool) (sym (expr-is spec.nodes [] i node.0 node.2))
      (slice_get-map extern_ty (map bool_item names) node.0 ∙ ap (option_map extern_ty) (slice_get-map bool_item names node.0 ∙ ap (option_map bool_item) at.1))

  declared-is : declared_names spec ≡ names
  declared-is =
      let own = map (λ (x : ExternItem). x.name) (map bool_item names) in
      append-nil (own ++ [] ++ []) ∙ append-nil (own ++ []) ∙ append-nil own ∙ names-of names

  names_fit : HasGoodNames spec
  names_fit = record {
    spec = f.name_is;
    types = none _;
    externs = all_by_place (λ (x : ExternItem). is_name x.name ≡ true) (map bool_item names) (each_map (λ n. is_name n ≡ true) (λ (x : ExternItem). is_name x.name ≡ true) bool_item (λ n h. h) names f.names_are);
    streams = none _;
    defs = none _;
    triggers = all_by_place (λ (x : TriggerItem). is_name x.name ≡ true) (map bare_trigger triggers)
        (each_map (λ x. is_fit names (length reads) x ≡ true) (λ (x : TriggerItem). is_name x.name ≡ true) bare_trigger (λ x h. (fit_trigger names (length reads) x h).named) triggers f.fit);
    observers = none _;
    once = subst Once (sym declared-is) f.once;
    apart = λ i j x there same. fit_item names (length reads) triggers f.fit i x there (at_any x.name names j (ap (λ (ns : List (List ℕ)). slice_get ns j) (sym declared-is) ∙ same));
    alike = λ i j x y at other same. no_arguments triggers i x at ∙ sym (no_arguments triggers j y other);
  }

  abbrev root : TriggerItem → TreeTrigger
  root x = record { name = x.name; guard = tree_root (tree spec.nodes []) x.guard; args = map (tree_root (tree spec.nodes [])) x.args }

  well_typed : WellTyped spec
  well_typed = record {
    types = no_types;
    ordered = record { below = λ i n e. no_parts reads i i n e };
    nodes = λ i b. (bool, node_typed i (let l = length-map reads node.Extern in omega arith));
    externs = all_by_place (λ (x : ExternItem). Stands [] x.ty) (map bool_item names) (all_stand names);
    streams = none _;
    defs = none _;
    triggers = all_by_place (IsGoodTrigger (signature_of (trees spec))) (trees spec).triggers
        (each_map (λ (x : TriggerItem). IsGoodTrigger (signature_of (trees spec)) (root x)) (IsGoodTrigger (signature_of (trees spec))) root (λ x h. h) (map bare_trigger triggers)
        (each_map (λ x. is_fit names (length reads) x ≡ true) (λ (x : TriggerItem). IsGoodTrigger (signature_of (trees spec)) (root x)) bare_trigger
        (λ x h. record { guard = node_typed x.guard (fit_trigger names (length reads) x h).there; truth = refl; args = none _; few = zero-le }) triggers f.fit));
    observers = none _;
    libs = none _;
    names = names_fit;
  }

-- what `sound` and `generate` ask of a specification and a name
pub record Asked (s : SpecValue) (name : List ℕ) : Type 0 where
  pub named : IsTrue (is_name name)
  pub typed : WellTyped s

asked : (name : List ℕ) (names : List (List ℕ)) (reads : List ℕ) (triggers : List Bare) → are_fit name names reads triggers ≡ true → Asked (bare_spec name names reads triggers) name
asked name names reads triggers h =
    let f = fits name names reads triggers h in
    record { named = f.name_is; typed = well_typed name names reads triggers f }

-- ---- those of the tests

pub empty_asked : Asked empty (codes "a")
unfolding reserved limit_fronts limit_ends
empty_asked = asked (codes "a") [] [] [] refl

pub door_asked : Asked door (codes "door")
unfolding reserved limit_fronts limit_ends
door_asked = asked (codes "door") (codes "ajar" ∷ []) (0 ∷ []) (bare (codes "chime") 0 49 ∷ []) refl

pub doors_asked : Asked doors (codes "door")
unfolding reserved limit_fronts limit_ends
doors_asked = asked (codes "door") (codes "ajar" ∷ []) (0 ∷ []) (bare (codes "chime") 0 49 ∷ bare (codes "chime") 0 72 ∷ []) refl

-- ---- how they are built

pub started : (s : SpecValue) (name n : List ℕ) (types : List TypeEntry) → s ≡ record { name = name; types = types; nodes = []; externs = []; streams = []; defs = []; triggers = []; observers = []; libs = [] } → name ≡ n → types ≡ [] → s ≡ bare_spec n [] [] []
started s name n types is named typed = is ∙ (λ j. record { name = named j; types = typed j; nodes = []; externs = []; streams = []; defs = []; triggers = []; observers = []; libs = [] })

pub placed_first : (s t : SpecValue) (n : List ℕ) (k i : ℕ) → s ≡ bare_spec n [] [] [] → IsPlaced s t (node.Extern k) i → (t ≡ bare_spec n [] (k ∷ []) []) × (i ≡ 0)
placed_first s t n k i is placed =
    ⊎_elim
    (λ old. absurd (cc (sym (ap (λ (v : SpecValue). slice_get v.nodes i) is) ∙ old.0)))
    (λ new. (new.2 ∙ ap (λ (v : SpecValue). record v { nodes = v.nodes ++ node.Extern k ∷ [] }) is, new.1 ∙ ap (λ (v : SpecValue). length v.nodes) is))
    placed

pub room : (s v : SpecValue) (x w : Item) → s ≡ v → x ≡ w → HasRoom v w → HasRoom s x
room s v x w e f h = subst (λ (t : SpecValue). HasRoom t x) (sym e) (subst (HasRoom v) (sym f) h)
