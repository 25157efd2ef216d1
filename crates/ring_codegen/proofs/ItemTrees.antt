-- What a translation has of a specification's lists is what it makes of the items.
use Rattle.std.proofs.Common.{◌≡◌, ℕ, zero, suc, ◌+◌, List, [], ◌∷◌, ◌++◌, map, take, Some, refl, sym, ap, ◌∙◌, append-nil, append_assoc, add-one}
use Rattle.std.specs.Prelude.{slice_get}
use Rattle.std.specs.List.{flat_map}
use Rattle.stream_core.specs.declared.spec.Root.{Root}
use Rattle.stream_core.specs.declared.spec.StreamItem.{StreamItem}
use Rattle.stream_core.specs.declared.spec.TriggerItem.{TriggerItem}
use Rattle.stream_core.specs.Value.{SpecValue}
use Rattle.stream_core.specs.Term.{Term, TreeRoot, TreeStream, TreeTrigger, tree, trees, tree_root, root_with, written_out, closed}
use Rattle.stream_core.specs.Meaning.{closed_spec}
use Rattle.c99_tree.specs.declared.unit.CRing.{CRing}
use Rattle.c99_tree.specs.declared.unit.CStmt.{CStmt}
use Rattle.ring_codegen.specs.Items.{closed_root, closed_stream, closed_trigger, expression_of, item_call, item_next, item_ring, item_writes}
use Rattle.ring_codegen.specs.Translation.{copy_statement, next_statement, ring_of, translated, translated_step, trigger_statement, write_statements}

map_twice : {X Y Z : Type 0} (f : Y → Z) (g : X → Y) (xs : List X) → map f (map g xs) ≡ map (λ x. f (g x)) xs
map_twice f g [] = refl
map_twice f g (x ∷ xs) = ap (λ zs. f (g x) ∷ zs) (map_twice f g xs)

flat_twice : {X Y Z : Type 0} (f : Y → List Z) (g : X → Y) (xs : List X) → flat_map f (map g xs) ≡ flat_map (λ x. f (g x)) xs
flat_twice f g [] = refl
flat_twice f g (x ∷ xs) = ap (λ zs. f (g x) ++ zs) (flat_twice f g xs)

map_push : {X Y : Type 0} (f : X → Y) (xs : List X) (x : X) → map f (xs ++ x ∷ []) ≡ map f xs ++ f x ∷ []
map_push f [] x = refl
map_push f (y ∷ ys) x = ap (λ zs. f y ∷ zs) (map_push f ys x)

flat_push : {X Y : Type 0} (f : X → List Y) (xs : List X) (x : X) → flat_map f (xs ++ x ∷ []) ≡ flat_map f xs ++ f x
flat_push f [] x = append-nil (f x)
flat_push f (y ∷ ys) x = ap (λ zs. f y ++ zs) (flat_push f ys x) ∙ sym (append_assoc (f y) (flat_map f ys) (f x))

take_get : {X : Type 0} (xs : List X) (i : ℕ) (x : X) → slice_get xs i ≡ Some x → take (suc i) xs ≡ take i xs ++ x ∷ []
take_get [] i x e = absurd (cc)
take_get (y ∷ ys) zero x e = let same : y ≡ x = cc in ap (λ z. z ∷ []) same
take_get (y ∷ ys) (suc i) x e = ap (λ zs. y ∷ zs) (take_get ys i x e)

-- one element more of a list that is gone through
pub mapped_more : {X Y : Type 0} (f : X → Y) (xs : List X) (i : ℕ) (x : X) (done more : List Y) (y : Y) → slice_get xs i ≡ Some x → done ≡ map f (take i xs) → y ≡ f x → more ≡ done ++ y ∷ [] → more ≡ map f (take (i + 1) xs)
mapped_more f xs i x done more y there is same pushed =
    let next : take (i + 1) xs ≡ take i xs ++ x ∷ [] = ap (λ k. take k xs) (add-one i) ∙ take_get xs i x there in
    pushed ∙ ap (λ zs. zs ++ y ∷ []) is ∙ ap (λ z. map f (take i xs) ++ z ∷ []) same ∙ sym (ap (map f) next ∙ map_push f (take i xs) x)

pub flat_more : {X Y : Type 0} (f : X → List Y) (xs : List X) (i : ℕ) (x : X) (first done more : List Y) → slice_get xs i ≡ Some x → done ≡ first ++ flat_map f (take i xs) → more ≡ done ++ f x → more ≡ first ++ flat_map f (take (i + 1) xs)
flat_more f xs i x first done more there is pushed =
    let next : take (i + 1) xs ≡ take i xs ++ x ∷ [] = ap (λ k. take k xs) (add-one i) ∙ take_get xs i x there in
    pushed ∙ ap (λ zs. zs ++ f x) is ∙ append_assoc first (flat_map f (take i xs)) (f x) ∙ ap (λ zs. first ++ zs) (sym (ap (flat_map f) next ∙ flat_push f (take i xs) x))

module _ (s : SpecValue) where
  abbrev at : ℕ → Term
  at i = tree s.nodes s.libs i

  abbrev out : Term → Term
  out e = written_out (trees s).defs e

  roots_are : (rs : List Root) → map (root_with out) (map (tree_root at) rs) ≡ map (closed_root s) rs
  unfolding closed
  roots_are [] = refl
  roots_are (r ∷ rs) = ap (λ (xs : List TreeRoot). closed_root s r ∷ xs) (roots_are rs)

  abbrev trigger_tree : TriggerItem → TreeTrigger
  trigger_tree x = record { name = x.name; guard = tree_root at x.guard; args = map (tree_root at) x.args }

  abbrev trigger_out : TreeTrigger → TreeTrigger
  trigger_out x = record x { guard = root_with out x.guard; args = map (root_with out) x.args }

  by_triggers : (xs : List TriggerItem) → map trigger_out (map trigger_tree xs) ≡ map (closed_trigger s) xs
  unfolding closed
  by_triggers [] = refl
  by_triggers (x ∷ xs) =
      ap (λ (as_ : List TreeRoot). record { name = x.name; guard = root_with out (tree_root at x.guard); args = as_ } ∷ map trigger_out (map trigger_tree xs)) (roots_are x.args)
      ∙ ap (λ (ts : List TreeTrigger). closed_trigger s x ∷ ts) (by_triggers xs)

  pub triggers_are : (closed_spec s).triggers ≡ map (closed_trigger s) s.triggers
  triggers_are = by_triggers s.triggers

  abbrev stream_tree : StreamItem → TreeStream
  stream_tree x = record { name = x.name; ty = x.ty; init = x.init; expr = at x.expr; at = x.at }

  abbrev stream_out : TreeStream → TreeStream
  stream_out x = record x { expr = out x.expr }

  by_streams : (xs : List StreamItem) → map stream_out (map stream_tree xs) ≡ map (closed_stream s) xs
  unfolding closed
  by_streams [] = refl
  by_streams (x ∷ xs) = ap (λ (ts : List TreeStream). closed_stream s x ∷ ts) (by_streams xs)

  pub streams_are : (closed_spec s).streams ≡ map (closed_stream s) s.streams
  streams_are = by_streams s.streams

  -- ---- what the translation makes of them

  pub rings_are : map (item_ring s) s.streams ≡ map (ring_of s.types) (closed_spec s).streams
  rings_are = sym (ap (map (ring_of s.types)) streams_are ∙ map_twice (ring_of s.types) (closed_stream s) s.streams)

  calls_are : map (trigger_statement (closed_spec s)) (closed_spec s).triggers ≡ map (item_call s) s.triggers
  calls_are = ap (map (trigger_statement (closed_spec s))) triggers_are ∙ map_twice (trigger_statement (closed_spec s)) (closed_trigger s) s.triggers

  nexts_are : map (next_statement (closed_spec s)) (closed_spec s).streams ≡ map (item_next s) s.streams
  nexts_are = ap (map (next_statement (closed_spec s))) streams_are ∙ map_twice (next_statement (closed_spec s)) (closed_stream s) s.streams

  writes_are : flat_map (write_statements s.types) (closed_spec s).streams ≡ flat_map (item_writes s) s.streams
  writes_are = ap (flat_map (write_statements s.types)) streams_are ∙ flat_twice (write_statements s.types) (closed_stream s) s.streams

  -- the statements, group by group
  pub step_is : (none copies calls nexts : List CStmt) → none ≡ [] → copies ≡ none ++ map copy_statement s.externs → calls ≡ copies ++ map (item_call s) s.triggers
      → nexts ≡ calls ++ map (item_next s) s.streams → nexts ++ flat_map (item_writes s) s.streams ≡ translated_step (closed_spec s)
  step_is none copies calls nexts a b c d =
      let first : copies ≡ map copy_statement s.externs = b ∙ ap (λ (xs : List CStmt). xs ++ map copy_statement s.externs) a in
      let second : calls ≡ map copy_statement s.externs ++ map (trigger_statement (closed_spec s)) (closed_spec s).triggers =
      c ∙ ap (λ (xs : List CStmt). xs ++ map (item_call s) s.triggers) first ∙ ap (λ (xs : List CStmt). map copy_statement s.externs ++ xs) (sym calls_are) in
      let third : nexts ≡ map copy_statement s.externs ++ map (trigger_statement (closed_spec s)) (closed_spec s).triggers ++ map (next_statement (closed_spec s)) (closed_spec s).streams =
      d ∙ ap (λ (xs : List CStmt). xs ++ map (item_next s) s.streams) second
      ∙ ap (λ (xs : List CStmt). map copy_statement s.externs ++ map (trigger_statement (closed_spec s)) (closed_spec s).triggers ++ xs) (sym nexts_are) in
      ap (λ (xs : List CStmt). xs ++ flat_map (item_writes s) s.streams) third
      ∙ ap (λ (xs : List CStmt). map copy_statement s.externs ++ map (trigger_statement (closed_spec s)) (closed_spec s).triggers ++ map (next_statement (closed_spec s)) (closed_spec s).streams ++ xs) (sym writes_are)

  pub args_are : (rs : List Root) → map (λ (r : Root). expression_of s r.expr) rs ≡ map (λ (r : TreeRoot). translated (closed_spec s) r.expr) (map (closed_root s) rs)
  args_are rs = sym (map_twice (λ (r : TreeRoot). translated (closed_spec s) r.expr) (closed_root s) rs)
