-- The trees of a specification put together of nodes, buffers and items.
use Rattle.std.proofs.Common.{◌≡◌, ℕ, suc, ◌<◌, List, [], ◌∷◌, ◌++◌, length, map, refl, sym, ap, ◌∙◌}
use Rattle.std.specs.List.{AllByRecursion}
use Rattle.stream_types.specs.declared.types.TypeEntry.{TypeEntry}
use Rattle.stream_core.specs.declared.spec.Root.{Root}
use Rattle.stream_core.specs.declared.spec.StreamItem.{StreamItem}
use Rattle.stream_core.specs.declared.spec.DefItem.{DefItem}
use Rattle.stream_core.specs.declared.spec.TriggerItem.{TriggerItem}
use Rattle.stream_core.specs.declared.spec.ObserverItem.{ObserverItem}
use Rattle.stream_core.specs.Value.{SpecValue}
use Rattle.stream_core.specs.Term.{Term, TreeDef, TreeObserver, TreeSpec, TreeStream, TreeTrigger, root_with, tree, tree_root, trees}
use Rattle.stream_core.specs.Lower.{all_buffers, buffer_of, lowered, lowered_spec}
use Rattle.stream_lib.specs.Built.{Grows, tree_at}
use Rattle.stream_lib.specs.Made.{MakesStreams}
use Rattle.stream_lib.specs.Renamed.{AreLowered, AreNumbers, new_of, renamed_stream, starts_of, with_items}
use Rattle.stream_lib.proofs.PlacedTrees.{grows_then}
use Rattle.stream_lib.proofs.MadeStreams.{still_lowered}

-- items over new numbers, whose trees are the old ones' lowered
module _ (f : Term → Term) (t T : ℕ → Term) (g : ℕ → ℕ) (n : ℕ) (same : (i : ℕ) → i < n → t (g i) ≡ f (T i)) where
  pub streams_are : (xs : List StreamItem) → AllByRecursion (λ (x : StreamItem). x.expr < n) xs
      → map (λ (x : StreamItem). record { name = x.name; ty = x.ty; init = x.init; expr = t x.expr; at = x.at }) (map (λ (x : StreamItem). record x { expr = g x.expr }) xs)
      ≡ map (λ (x : TreeStream). record x { expr = f x.expr }) (map (λ (x : StreamItem). record { name = x.name; ty = x.ty; init = x.init; expr = T x.expr; at = x.at }) xs)
  streams_are [] h = refl
  streams_are (x ∷ xs) h = let a = same x.expr h.0 in let r = streams_are xs h.1 in cc

  pub defs_are : (xs : List DefItem) → AllByRecursion (λ (x : DefItem). x.expr < n) xs
      → map (λ (x : DefItem). record { name = x.name; ty = x.ty; expr = t x.expr; at = x.at }) (map (λ (x : DefItem). record x { expr = g x.expr }) xs)
      ≡ map (λ (x : TreeDef). record x { expr = f x.expr }) (map (λ (x : DefItem). record { name = x.name; ty = x.ty; expr = T x.expr; at = x.at }) xs)
  defs_are [] h = refl
  defs_are (x ∷ xs) h = let a = same x.expr h.0 in let r = defs_are xs h.1 in cc

  abbrev new_root : Root → Root
  new_root r = record r { expr = g r.expr }

  pub roots_are : (xs : List Root) → AllByRecursion (λ (r : Root). r.expr < n) xs → map (tree_root t) (map new_root xs) ≡ map (root_with f) (map (tree_root T) xs)
  roots_are [] h = refl
  roots_are (x ∷ xs) h = let a = same x.expr h.0 in let r = roots_are xs h.1 in cc

  pub observers_are : (xs : List ObserverItem) → AllByRecursion (λ (x : ObserverItem). x.root.expr < n) xs
      → map (λ (x : ObserverItem). record { name = x.name; root = tree_root t x.root }) (map (λ (x : ObserverItem). record x { root = new_root x.root }) xs)
      ≡ map (λ (x : TreeObserver). record x { root = root_with f x.root }) (map (λ (x : ObserverItem). record { name = x.name; root = tree_root T x.root }) xs)
  observers_are [] h = refl
  observers_are (x ∷ xs) h = let a = same x.root.expr h.0 in let r = observers_are xs h.1 in cc

  pub triggers_are : (xs : List TriggerItem) → AllByRecursion (λ (x : TriggerItem). (x.guard.expr < n) × AllByRecursion (λ (r : Root). r.expr < n) x.args) xs
      → map (λ (x : TriggerItem). record { name = x.name; guard = tree_root t x.guard; args = map (tree_root t) x.args }) (map (λ (x : TriggerItem). record x { guard = new_root x.guard; args = map new_root x.args }) xs)
      ≡ map (λ (x : TreeTrigger). record x { guard = root_with f x.guard; args = map (root_with f) x.args }) (map (λ (x : TriggerItem). record { name = x.name; guard = tree_root T x.guard; args = map (tree_root T) x.args }) xs)
  triggers_are [] h = refl
  triggers_are (x ∷ xs) h = let a = same x.guard.expr h.0.0 in let b = roots_are x.args h.0.1 in let r = triggers_are xs h.1 in cc

abbrev map_streams : (ℕ → Term) → List StreamItem → List TreeStream
map_streams t xs = map (λ (x : StreamItem). record { name = x.name; ty = x.ty; init = x.init; expr = t x.expr; at = x.at }) xs

streams_behind : (t : ℕ → Term) (xs ys : List StreamItem) → map_streams t (xs ++ ys) ≡ map_streams t xs ++ map_streams t ys
streams_behind t [] ys = refl
streams_behind t (x ∷ xs) ys = let r = streams_behind t xs ys in cc

abbrev with_trees : TreeSpec → List TreeStream → List TreeDef → List TreeTrigger → List TreeObserver → TreeSpec
with_trees s streams defs triggers observers = record { name = s.name; types = s.types; externs = s.externs; streams = streams; defs = defs; triggers = triggers; observers = observers; libs = [] }

abbrev with_parts : SpecValue → List TreeStream → List TreeDef → List TreeTrigger → List TreeObserver → TreeSpec
with_parts source streams defs triggers observers = record { name = source.name; types = source.types; externs = source.externs; streams = streams; defs = defs; triggers = triggers; observers = observers; libs = [] }

parts_same : (source : SpecValue) (a a' : List TreeStream) (b b' : List TreeDef) (c c' : List TreeTrigger) (d d' : List TreeObserver) → a ≡ a' → b ≡ b' → c ≡ c' → d ≡ d' → with_parts source a b c d ≡ with_parts source a' b' c' d'
parts_same source a a' b b' c c' d d' p q r s =
    ap (λ x. with_parts source x b c d) p ∙ ap (λ x. with_parts source a' x c d) q ∙ ap (λ x. with_parts source a' b' x d) r ∙ ap (λ x. with_parts source a' b' c' x) s

-- the lowered specification, its buffers behind n streams
abbrev lowered_behind : ℕ → TreeSpec → TreeSpec
lowered_behind n s = let f = lowered (buffer_of n s.libs) in with_trees s
    (map (λ (x : TreeStream). record x { expr = f x.expr }) s.streams ++ all_buffers f 1 n s.libs)
    (map (λ (x : TreeDef). record x { expr = f x.expr }) s.defs)
    (map (λ (x : TreeTrigger). record x { guard = root_with f x.guard; args = map (root_with f) x.args }) s.triggers)
    (map (λ (x : TreeObserver). record x { root = root_with f x.root }) s.observers)

same_count : (t : ℕ → Term) (xs : List StreamItem) → length (map_streams t xs) ≡ length xs
same_count t [] = refl
same_count t (x ∷ xs) = ap suc (same_count t xs)

-- the whole, where s has the source's nodes lowered, and t the buffers' besides
pub whole_is : (source v s t u : SpecValue) (news : List ℕ) (xs : List StreamItem)
    → v ≡ record { name = source.name; types = source.types; nodes = []; externs = []; streams = []; defs = []; triggers = []; observers = []; libs = [] }
    → Grows v s → AreLowered source s news
    → MakesStreams s t xs (all_buffers (lowered (starts_of source)) 1 (length source.streams) (trees source).libs)
    → AreNumbers (length news) source → u ≡ with_items source news xs t → trees u ≡ lowered_spec (trees source)
unfolding tree_at
whole_is source v s t u news xs new grows low made below is =
    ap trees (is ∙ ap (with_items source news xs) base)
    ∙ cong_fields
    ∙ ap (λ n. lowered_behind n (trees source)) (sym (same_count T source.streams))
  where
    f : Term → Term
    f = lowered (starts_of source)

    tr : ℕ → Term
    tr = tree t.nodes []

    base : t ≡ record { name = source.name; types = source.types; nodes = t.nodes; externs = []; streams = []; defs = []; triggers = []; observers = []; libs = [] }
    base = (grows_then v s t grows made.grows).others ∙ ap (λ (w : SpecValue). record w { nodes = t.nodes }) new

    same : (i : ℕ) → i < length news → tree t.nodes [] (new_of news i) ≡ f (tree source.nodes source.libs i)
    same i h = (still_lowered source s t news made.grows low i h).1

    T : ℕ → Term
    T = tree source.nodes source.libs

    cong_fields : trees (with_items source news xs (record { name = source.name; types = source.types; nodes = t.nodes; externs = []; streams = []; defs = []; triggers = []; observers = []; libs = [] })) ≡ lowered_behind (length source.streams) (trees source)
    cong_fields =
        parts_same source _ _ _ _ _ _ _ _
        (streams_behind tr (map (renamed_stream (new_of news)) source.streams) xs
        ∙ ap (λ ys. ys ++ map_streams tr xs) (streams_are f tr T (new_of news) (length news) same source.streams below.streams)
        ∙ ap (λ ys. map (λ (x : TreeStream). record x { expr = f x.expr }) (map_streams T source.streams) ++ ys) made.are)
        (defs_are f tr T (new_of news) (length news) same source.defs below.defs)
        (triggers_are f tr T (new_of news) (length news) same source.triggers below.triggers)
        (observers_are f tr T (new_of news) (length news) same source.observers below.observers)

abbrev pub empty_spec : List ℕ → List TypeEntry → SpecValue
empty_spec name types = record { name = name; types = types; nodes = []; externs = []; streams = []; defs = []; triggers = []; observers = []; libs = [] }

-- a specification without nodes and items, of the source's name and types
pub new_is : (source : SpecValue) (name name' : List ℕ) (types types' : List TypeEntry) → name ≡ name' → types ≡ types' → name' ≡ source.name → types' ≡ source.types
    → empty_spec name types ≡ empty_spec source.name source.types
new_is source name name' types types' a b d e = cc
