-- Forests up to places, and the forest of a text made of pieces.
use Rattle.std.proofs.Common.{◌≡◌, ℕ, ◌+◌, ◌-◌, ◌<◌, ◌≤◌, List, [], ◌∷◌, ◌++◌, map, length, None, refl, ap, sym, ◌∙◌, subst, arith, append_assoc, append-nil}
use Rattle.std.proofs.lemmas.List.{map-append}
use Rattle.spec_forest.specs.Node.{Node, Nodes, atom, list, none, more}
use Rattle.spec_forest.specs.Scan.{longest_text, deepest, scan_fault}
use Rattle.spec_forest.specs.Tokens.{Token, left, right, word, tokens, node_tokens, forest_tokens, IsForestOf}
use Rattle.spec_forest.specs.Extents.{node_nesting, nesting}
use Rattle.spec_forest.specs.Pieces.{Piece, opening, closing, letters, gap, pieces_text, AreParted, StaysWithin, piece_tokens, node_unplaced, unplaced, SameShape, bare_tokens, LaysOut}
use Rattle.spec_forest.proofs.OneForest.{same-forest, items-then}
use Rattle.spec_forest.proofs.PiecesRead.{pieces-tokens, pieces-sound}

abbrev pub bare : Token → Token
bare (left k) = left 0
bare right = right
bare (word k t) = word 0 t

-- ---- places taken away

mutual
  node-bare : (x : Node) → map bare (node_tokens x) ≡ node_tokens (node_unplaced x)
  node-bare (atom a t) = refl
  node-bare (list a is) = ap (λ ts. left 0 ∷ ts) (map-append bare (forest_tokens is) (right ∷ []) ∙ ap (λ ts. ts ++ right ∷ []) (forest-bare is))

  forest-bare : (xs : Nodes) → map bare (forest_tokens xs) ≡ forest_tokens (unplaced xs)
  forest-bare none = refl
  forest-bare (more x xs) =
      map-append bare (node_tokens x) (forest_tokens xs) ∙ ap (λ ts. ts ++ map bare (forest_tokens xs)) (node-bare x)
      ∙ ap (λ ts. node_tokens (node_unplaced x) ++ ts) (forest-bare xs)

pieces-bare : (k : ℕ) (ps : List Piece) → map bare (piece_tokens k ps) ≡ bare_tokens ps
pieces-bare k [] = refl
pieces-bare k (opening ∷ ps) = ap (λ ts. left 0 ∷ ts) (pieces-bare (k + 1) ps)
pieces-bare k (closing ∷ ps) = ap (λ ts. right ∷ ts) (pieces-bare (k + 1) ps)
pieces-bare k (letters w ∷ ps) = ap (λ ts. word 0 w ∷ ts) (pieces-bare (k + length w) ps)
pieces-bare k (gap g ∷ ps) = pieces-bare (k + length g) ps

-- Forests whose tokens are equal but for places are equal but for places.
pub same-shape : (f g : Nodes) → map bare (forest_tokens f) ≡ map bare (forest_tokens g) → SameShape f g
same-shape f g e = same-forest (unplaced f) (unplaced g) (sym (forest-bare f) ∙ e ∙ forest-bare g)

-- ---- depth

abbrev TokensStay : ℕ → List Token → Type 0
TokensStay d [] = d ≡ 0
TokensStay d (left k ∷ ts) = (d < deepest) × TokensStay (d + 1) ts
TokensStay d (right ∷ ts) = (0 < d) × TokensStay (d - 1) ts
TokensStay d (word k t ∷ ts) = TokensStay d ts

pieces-stay : (d : ℕ) (ps : List Piece) → TokensStay d (bare_tokens ps) → StaysWithin d ps
pieces-stay d [] h = h
pieces-stay d (opening ∷ ps) h = (h.0, pieces-stay (d + 1) ps h.1)
pieces-stay d (closing ∷ ps) h = (h.0, pieces-stay (d - 1) ps h.1)
pieces-stay d (letters w ∷ ps) h = pieces-stay d ps h
pieces-stay d (gap g ∷ ps) h = pieces-stay d ps h

mutual
  node-stays : (d : ℕ) (x : Node) (r : List Token) → d + node_nesting x ≤ deepest → TokensStay d r → TokensStay d (node_tokens (node_unplaced x) ++ r)
  node-stays d (atom a t) r low h = h
  node-stays d (list a is) r low h =
      let back : (d + 1) - 1 ≡ d = omega arith in
      let P : ℕ → Type 0 = λ n. TokensStay n r in
      let Q : List Token → Type 0 = λ ts. TokensStay (d + 1) ts in
      (omega (arith, low), subst Q (sym (items-then (unplaced is) r)) (forest-stays (d + 1) is (right ∷ r) (omega (arith, low)) (omega arith, subst P (sym back) h)))

  forest-stays : (d : ℕ) (xs : Nodes) (r : List Token) → d + nesting xs ≤ deepest → TokensStay d r → TokensStay d (forest_tokens (unplaced xs) ++ r)
  forest-stays d none r low h = h
  forest-stays d (more x xs) r low h =
      let P : List Token → Type 0 = λ ts. TokensStay d ts in
      subst P (sym (append_assoc (node_tokens (node_unplaced x)) (forest_tokens (unplaced xs)) r))
      (node-stays d x (forest_tokens (unplaced xs) ++ r) (omega (arith, low)) (forest-stays d xs r (omega (arith, low)) h))

laid-stays : (ps : List Piece) (f : Nodes) → LaysOut ps f → nesting f ≤ deepest → StaysWithin 0 ps
laid-stays ps f e low =
    let P : List Token → Type 0 = λ ts. TokensStay 0 ts in
    pieces-stay 0 ps (subst P (append-nil (forest_tokens (unplaced f)) ∙ sym e) (forest-stays 0 f [] (omega (arith, low)) refl))

-- ---- places put in

-- the node that the first tokens are, and the tokens behind it
record FilledNode (x : Node) (ts r : List Token) : Type 0 where
  node : Node
  more' : List Token
  is : ts ≡ node_tokens node ++ more'
  rest : map bare more' ≡ r
  shape : node_unplaced node ≡ node_unplaced x

record Filled (xs : Nodes) (ts r : List Token) : Type 0 where
  nodes : Nodes
  more' : List Token
  is : ts ≡ forest_tokens nodes ++ more'
  rest : map bare more' ≡ r
  shape : unplaced nodes ≡ unplaced xs

fill-word : (a k : ℕ) (t v : List ℕ) (ts r : List Token) → word 0 v ∷ map bare ts ≡ word 0 t ∷ r → FilledNode (atom a t) (word k v ∷ ts) r
fill-word a k t v ts r e =
    let p : v ≡ t = cc in
    let q : map bare ts ≡ r = cc in
    record { node = atom k v; more' = ts; is = refl; rest = q; shape = ap (λ u. atom 0 u) p }

fill-right : (s r : List Token) → map bare s ≡ right ∷ r → (u : List Token) × (s ≡ right ∷ u) × (map bare u ≡ r)
fill-right [] r e = absurd (cc)
fill-right (left k ∷ s) r e = absurd (cc)
fill-right (word k v ∷ s) r e = absurd (cc)
fill-right (right ∷ s) r e = let p : map bare s ≡ r = cc in (s, refl, p)

left-rest : (s r : List Token) → left 0 ∷ s ≡ left 0 ∷ r → s ≡ r
left-rest s r e = cc

fill-list : (a k : ℕ) (is : Nodes) (ts r : List Token) → Filled is ts (right ∷ r) → FilledNode (list a is) (left k ∷ ts) r
fill-list a k is ts r f =
    let p = fill-right f.more' r f.rest in
    record {
      node = list k f.nodes;
      more' = p.0;
      is = ap (λ us. left k ∷ us) (f.is ∙ ap (λ us. forest_tokens f.nodes ++ us) p.1 ∙ sym (items-then f.nodes p.0));
      rest = p.2;
      shape = ap (λ js. list 0 js) f.shape;
    }

fill-more : (x : Node) (xs : Nodes) (ts r : List Token) (n : FilledNode x ts (forest_tokens (unplaced xs) ++ r)) → Filled xs n.more' r → Filled (more x xs) ts r
fill-more x xs ts r n f = record {
  nodes = more n.node f.nodes;
  more' = f.more';
  is = n.is ∙ ap (λ us. node_tokens n.node ++ us) f.is ∙ sym (append_assoc (node_tokens n.node) (forest_tokens f.nodes) f.more');
  rest = f.rest;
  shape = ap (λ y. more y (unplaced f.nodes)) n.shape ∙ ap (λ ys. more (node_unplaced x) ys) f.shape;
}

nil-no-token : (t : Token) (r : List Token) → [] ≡ t ∷ r → ⊥
nil-no-token t r e = cc

left-no-word : (t : List ℕ) (s r : List Token) → left 0 ∷ s ≡ word 0 t ∷ r → ⊥
left-no-word t s r e = cc

right-no-word : (t : List ℕ) (s r : List Token) → right ∷ s ≡ word 0 t ∷ r → ⊥
right-no-word t s r e = cc

right-no-left : (s r : List Token) → right ∷ s ≡ left 0 ∷ r → ⊥
right-no-left s r e = cc

word-no-left : (t : List ℕ) (s r : List Token) → word 0 t ∷ s ≡ left 0 ∷ r → ⊥
word-no-left t s r e = cc

mutual
  node-fill : (x : Node) (ts r : List Token) → map bare ts ≡ node_tokens (node_unplaced x) ++ r → FilledNode x ts r
  node-fill (atom a t) [] r e = absurd (nil-no-token (word 0 t) r e)
  node-fill (atom a t) (left k ∷ ts) r e = absurd (left-no-word t (map bare ts) r e)
  node-fill (atom a t) (right ∷ ts) r e = absurd (right-no-word t (map bare ts) r e)
  node-fill (atom a t) (word k v ∷ ts) r e = fill-word a k t v ts r e
  node-fill (list a is) [] r e = absurd (nil-no-token (left 0) ((forest_tokens (unplaced is) ++ right ∷ []) ++ r) e)
  node-fill (list a is) (right ∷ ts) r e = absurd (right-no-left (map bare ts) ((forest_tokens (unplaced is) ++ right ∷ []) ++ r) e)
  node-fill (list a is) (word k v ∷ ts) r e = absurd (word-no-left v (map bare ts) ((forest_tokens (unplaced is) ++ right ∷ []) ++ r) e)
  node-fill (list a is) (left k ∷ ts) r e =
      fill-list a k is ts r (forest-fill is ts (right ∷ r) (left-rest (map bare ts) ((forest_tokens (unplaced is) ++ right ∷ []) ++ r) e ∙ items-then (unplaced is) r))

  forest-fill : (xs : Nodes) (ts r : List Token) → map bare ts ≡ forest_tokens (unplaced xs) ++ r → Filled xs ts r
  forest-fill none ts r e = record { nodes = none; more' = ts; is = refl; rest = e; shape = refl }
  forest-fill (more x xs) ts r e =
      let n : FilledNode x ts (forest_tokens (unplaced xs) ++ r) = node-fill x ts (forest_tokens (unplaced xs) ++ r) (e ∙ append_assoc (node_tokens (node_unplaced x)) (forest_tokens (unplaced xs)) r) in
      fill-more x xs ts r n (forest-fill xs n.more' r n.rest)

no-tokens : (ts : List Token) → map bare ts ≡ [] → ts ≡ []
no-tokens [] e = refl
no-tokens (t ∷ ts) e = absurd (cc)

-- ---- a forest laid out

-- The text of the pieces has no fault, and its forest is this one but for places.
pub record ReadsAs (ps : List Piece) (f : Nodes) : Type 0 where
  pub sound : scan_fault (pieces_text ps) ≡ None
  pub some : (g : Nodes) × IsForestOf (pieces_text ps) g
  pub each : (g : Nodes) → IsForestOf (pieces_text ps) g → SameShape g f

pub read-nodes : (ps : List Piece) (f : Nodes) → AreParted ps → LaysOut ps f → nesting f ≤ deepest → length (pieces_text ps) ≤ longest_text → ReadsAs ps f
unfolding IsForestOf
read-nodes ps f a e low short =
    let laid : map bare (tokens (pieces_text ps)) ≡ forest_tokens (unplaced f) = ap (map bare) (pieces-tokens ps a) ∙ pieces-bare 0 ps ∙ e in
    let p : Filled f (tokens (pieces_text ps)) [] = forest-fill f (tokens (pieces_text ps)) [] (laid ∙ sym (append-nil (forest_tokens (unplaced f)))) in
    record {
      sound = pieces-sound ps a (laid-stays ps f e low) short;
      some = (p.nodes, p.is ∙ ap (λ us. forest_tokens p.nodes ++ us) (no-tokens p.more' p.rest) ∙ append-nil (forest_tokens p.nodes));
      each = λ g is. same-shape g f (ap (map bare) (sym is) ∙ laid ∙ sym (forest-bare f));
    }
