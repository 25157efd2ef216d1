-- Places ascend in preorder.
use Rattle.std.proofs.Common.{◌≡◌, ℕ, zero, suc, ◌+◌, ◌<◌, Bool, true, false, List, [], ◌∷◌, ◌++◌, length, drop, get_or, refl, ap, sym, ◌∙◌, subst, arith, append-nil}
use Rattle.std.specs.Prelude.{◌&&◌, slice_index, if◌then◌else◌}
use Rattle.std.specs.List.{AllPairs, take_while}
use Rattle.std.specs.List.Sorted.{IsStrictlyIncreasing}
use Rattle.std.proofs.lemmas.List.Quantifiers.{all_pairs_push}
use Rattle.spec_forest.specs.Node.{Node, Nodes, atom, list, none, more}
use Rattle.spec_forest.specs.Scan.{is_left, is_right, commented}
use Rattle.spec_forest.specs.Tokens.{Token, left, right, word, is_letter, is_fresh, token_of, token_at, tokens_before, tokens, node_tokens, forest_tokens, IsForestOf}
use Rattle.spec_forest.specs.Places.{node_places, places}
use Rattle.spec_forest.proofs.Bounds.{PlacesBelow, places-before}

abbrev token_places : List Token → List ℕ
token_places [] = []
token_places (left k ∷ ts) = k ∷ token_places ts
token_places (right ∷ ts) = token_places ts
token_places (word k t ∷ ts) = k ∷ token_places ts

places-split : (ts us : List Token) → token_places (ts ++ us) ≡ token_places ts ++ token_places us
places-split [] us = refl
places-split (left k ∷ ts) us = ap (λ (ks : List ℕ). k ∷ ks) (places-split ts us)
places-split (right ∷ ts) us = places-split ts us
places-split (word k t ∷ ts) us = ap (λ (ks : List ℕ). k ∷ ks) (places-split ts us)

mutual
  node-places : (x : Node) → token_places (node_tokens x) ≡ node_places x
  node-places (atom at text) = refl
  node-places (list at items) =
      ap (λ (ks : List ℕ). at ∷ ks) (places-split (forest_tokens items) (right ∷ []) ∙ append-nil (token_places (forest_tokens items)) ∙ forest-places items)

  forest-places : (xs : Nodes) → token_places (forest_tokens xs) ≡ places xs
  forest-places none = refl
  forest-places (more x xs) =
      places-split (node_tokens x) (forest_tokens xs)
      ∙ ap (λ (ks : List ℕ). ks ++ token_places (forest_tokens xs)) (node-places x)
      ∙ ap (λ (ks : List ℕ). node_places x ++ ks) (forest-places xs)

abbrev Rises : List ℕ → Type 0
Rises ks = AllPairs (λ (x y : ℕ). x < y) ks

each-below : (n : ℕ) (ts : List Token) → PlacesBelow n ts → (i d : ℕ) → i < length (token_places ts) → get_or (token_places ts) i d < n
each-below n [] h i d low = absurd (omega (arith, low))
each-below n (left k ∷ ts) h zero d low = h.0
each-below n (left k ∷ ts) h (suc i) d low = each-below n ts h.1 i d (omega (arith, low))
each-below n (right ∷ ts) h i d low = each-below n ts h i d low
each-below n (word k t ∷ ts) h zero d low = h.0
each-below n (word k t ∷ ts) h (suc i) d low = each-below n ts h.1 i d (omega (arith, low))

-- one byte further
rises-on : (text : List ℕ) (k : ℕ) → Rises (token_places (tokens_before text k)) → Rises (token_places (tokens_before text k) ++ token_places (token_at text k))
unfolding token_at
rises-on text k rises = outer (commented text k) where
  seen : List ℕ
  seen = token_places (tokens_before text k)

  same : Rises (seen ++ [])
  same = subst Rises (sym (append-nil seen)) rises

  further : Rises (seen ++ k ∷ [])
  further = all_pairs_push (λ (x y : ℕ). x < y) seen k rises (λ i d low. each-below k (tokens_before text k) (places-before k text k (omega arith)) i d low)

  inner : (l r w : Bool) (t : List ℕ) → Rises (seen ++ token_places (if l then left k ∷ [] else if r then right ∷ [] else if w then word k t ∷ [] else []))
  inner true r w t = further
  inner false true w t = same
  inner false false true t = further
  inner false false false t = same

  outer : (c : Bool) → Rises (seen ++ token_places (if c then [] else token_of text k (slice_index text k)))
  outer true = same
  outer false = inner (is_left (slice_index text k)) (is_right (slice_index text k)) (is_letter (slice_index text k) && is_fresh text k) (take_while is_letter (drop k text))

rises-before : (text : List ℕ) (k : ℕ) → Rises (token_places (tokens_before text k))
rises-before text zero = λ i j d h low. absurd (omega (arith, low))
rises-before text (suc k) =
    subst Rises (sym (places-split (tokens_before text k) (token_at text k))) (rises-on text k (rises-before text k))

pub rising : (text : List ℕ) (f : Nodes) → IsForestOf text f → IsStrictlyIncreasing (places f)
unfolding IsForestOf tokens
rising text f is =
    let all : Rises (places f) = subst Rises (ap token_places is ∙ forest-places f) (rises-before text (length text)) in
    λ k low. all k (k + 1) 0 (omega arith) low
