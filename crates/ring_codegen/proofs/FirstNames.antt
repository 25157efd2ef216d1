-- The names of triggers, each once, in the order in which they come first.
use Rattle.std.proofs.Common.{◌≡◌, ℕ, ◌+◌, ◌<◌, ◌≤◌, Bool, true, false, not, List, [], ◌∷◌, ◌++◌, map, drop, length, get_or, if◌then◌else◌, refl, sym, ap, ◌∙◌, drop-cons, add-one}
use Rattle.std.proofs.Math.ListN.{drop_of_length-le}
use Rattle.std.proofs.lemmas.Bool.{not-true, not-false}
use Rattle.std.specs.Prelude.{nat_eq}
use Rattle.std.specs.List.{list_any}
use Rattle.std.specs.Cmp.Lexicographic.{pointwise}
use Rattle.stream_core.specs.declared.spec.TriggerItem.{TriggerItem}
use Rattle.stream_core.specs.Term.{Term, TreeTrigger, tree, tree_root, root_with, written_out, defs_of}
use Rattle.stream_core.specs.Handlers.{handlers_after}
use Rattle.stream_core.specs.Meaning.{handlers}
use Rattle.stream_core.specs.Value.{SpecValue}
use Rattle.c99_tree.specs.declared.types.CProto.{CProto}

abbrev pub with_name : List (List ℕ) → List ℕ → List (List ℕ)
with_name seen name = if list_any (pointwise nat_eq name) seen then seen else seen ++ name ∷ []

abbrev pub names_from : List (List ℕ) → List TriggerItem → List (List ℕ)
names_from seen [] = seen
names_from seen (x ∷ xs) = names_from (with_name seen x.name) xs

-- the triggers of a specification whose expressions are trees, the defs written out
abbrev pub closed_triggers : (ℕ → Term) → (Term → Term) → List TriggerItem → List TreeTrigger
closed_triggers at out xs =
    map (λ (x : TreeTrigger). record x { guard = root_with out x.guard; args = map (root_with out) x.args })
    (map (λ (x : TriggerItem). record { name = x.name; guard = tree_root at x.guard; args = map (tree_root at) x.args }) xs)

handlers-from : (at : ℕ → Term) (out : Term → Term) (seen : List (List ℕ)) (xs : List TriggerItem) → handlers_after seen (closed_triggers at out xs) ≡ names_from seen xs
handlers-from at out seen [] = refl
handlers-from at out seen (x ∷ xs) = handlers-from at out (with_name seen x.name) xs

-- the handlers of a specification
handlers-names : (s : SpecValue) → handlers s ≡ names_from [] s.triggers
handlers-names s = handlers-from (tree s.nodes s.libs) (written_out (defs_of s)) [] s.triggers

-- ---- a loop over the triggers

-- one trigger more
next_names : (seen : List (List ℕ)) (xs : List TriggerItem) (i : ℕ) (x : TriggerItem) → i < length xs → x ≡ get_or xs i x → names_from seen (drop i xs) ≡ names_from (with_name seen x.name) (drop (i + 1) xs)
next_names seen xs i x h is =
    ap (names_from seen) (drop-cons xs i x h)
    ∙ ap (λ (k : ℕ). names_from (with_name seen (get_or xs i x).name) (drop k xs)) (sym (add-one i))
    ∙ ap (λ (y : TriggerItem). names_from (with_name seen y.name) (drop (i + 1) xs)) (sym is)

-- what the loop keeps: the prototypes of the names so far, and which names there will be
pub record Listed (proto : List ℕ → CProto) (xs : List TriggerItem) (i : ℕ) (seen : List (List ℕ)) (protos : List CProto) : Type 0 where
  pub listed : protos ≡ map proto seen
  pub ahead : names_from seen (drop i xs) ≡ names_from [] xs

-- the names after a name that is new, or one that is there already
new_name : (seen : List (List ℕ)) (name : List ℕ) (b : Bool) → b ≡ not (list_any (pointwise nat_eq name) seen) → b ≡ true → with_name seen name ≡ seen ++ name ∷ []
new_name seen name b is new = ap (λ (t : Bool). if t then seen else seen ++ name ∷ []) (not-true (list_any (pointwise nat_eq name) seen) (sym is ∙ new))

old_name : (seen : List (List ℕ)) (name : List ℕ) (b : Bool) → b ≡ not (list_any (pointwise nat_eq name) seen) → b ≡ false → with_name seen name ≡ seen
old_name seen name b is old = ap (λ (t : Bool). if t then seen else seen ++ name ∷ []) (not-false (list_any (pointwise nat_eq name) seen) (sym is ∙ old))

protos-more : (proto : List ℕ → CProto) (seen : List (List ℕ)) (name : List ℕ) → map proto seen ++ proto name ∷ [] ≡ map proto (seen ++ name ∷ [])
protos-more proto [] name = refl
protos-more proto (x ∷ seen) name = ap (λ (r : List CProto). proto x ∷ r) (protos-more proto seen name)

module _ (proto : List ℕ → CProto) where
  pub listed_new : (xs : List TriggerItem) (i : ℕ) (seen seen' : List (List ℕ)) (protos protos' : List CProto) (x : TriggerItem) (name : List ℕ) (b : Bool) → Listed proto xs i seen protos → i < length xs → x ≡ get_or xs i x → name ≡ x.name
      → b ≡ not (list_any (pointwise nat_eq name) seen) → b ≡ true → seen' ≡ with_name seen name → protos' ≡ protos ++ proto x.name ∷ [] → Listed proto xs (i + 1) seen' protos'
  listed_new xs i seen seen' protos protos' x name b inv h is named added new keys pushed = record {
    listed = pushed ∙ ap (λ (r : List CProto). r ++ proto x.name ∷ []) inv.listed ∙ ap (λ (n : List ℕ). map proto seen ++ proto n ∷ []) (sym named) ∙ protos-more proto seen name ∙ ap (map proto) (sym (keys ∙ new_name seen name b added new));
    ahead = ap (λ (ns : List (List ℕ)). names_from ns (drop (i + 1) xs)) (keys ∙ ap (with_name seen) named) ∙ sym (next_names seen xs i x h is) ∙ inv.ahead;
  }

  pub listed_old : (xs : List TriggerItem) (i : ℕ) (seen seen' : List (List ℕ)) (protos protos' : List CProto) (x : TriggerItem) (name : List ℕ) (b : Bool) → Listed proto xs i seen protos → i < length xs → x ≡ get_or xs i x → name ≡ x.name
      → b ≡ not (list_any (pointwise nat_eq name) seen) → b ≡ false → seen' ≡ with_name seen name → protos' ≡ protos → Listed proto xs (i + 1) seen' protos'
  listed_old xs i seen seen' protos protos' x name b inv h is named added old keys same = record {
    listed = same ∙ inv.listed ∙ ap (map proto) (sym (keys ∙ old_name seen name b added old));
    ahead = ap (λ (ns : List (List ℕ)). names_from ns (drop (i + 1) xs)) (keys ∙ ap (with_name seen) named) ∙ sym (next_names seen xs i x h is) ∙ inv.ahead;
  }

  -- before the loop
  pub listed_none : (xs : List TriggerItem) (seen : List (List ℕ)) (protos : List CProto) → seen ≡ [] → protos ≡ [] → Listed proto xs 0 seen protos
  listed_none xs seen protos none_seen none = record { listed = none ∙ ap (map proto) (sym none_seen); ahead = ap (λ (ns : List (List ℕ)). names_from ns xs) none_seen }

  -- and behind it
  pub listed_all : (s : SpecValue) (xs : List TriggerItem) (i : ℕ) (seen : List (List ℕ)) (protos : List CProto) → Listed proto xs i seen protos → length xs ≤ i → xs ≡ s.triggers → protos ≡ map proto (handlers s)
  listed_all s xs i seen protos inv past is =
      inv.listed ∙ ap (map proto) (ap (names_from seen) (sym (drop_of_length-le xs past)) ∙ inv.ahead ∙ ap (names_from []) is ∙ sym (handlers-names s))
