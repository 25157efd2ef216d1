-- Tokens make one forest.
use Rattle.std.proofs.Common.{◌≡◌, ℕ, List, [], ◌∷◌, ◌++◌, refl, sym, ◌∙◌, subst, append_assoc, append-nil}
use Rattle.spec_forest.specs.Node.{Node, Nodes, atom, list, none, more}
use Rattle.spec_forest.specs.Tokens.{Token, left, right, word, node_tokens, forest_tokens, IsForestOf}

-- what may stand behind the last item of a list, or of a forest
abbrev Ends : List Token → Type 0
Ends [] = Unit {0}
Ends (right ∷ r) = Unit {0}
Ends (left k ∷ r) = ⊥
Ends (word k t ∷ r) = ⊥

begins : (x : Node) (r : List Token) → Ends (node_tokens x ++ r) → ⊥
begins (atom a t) r h = h
begins (list a is) r h = h

no-item : (x : Node) (xs : Nodes) (r s : List Token) → Ends r → r ≡ (node_tokens x ++ forest_tokens xs) ++ s → ⊥
no-item x xs r s h e = begins x (forest_tokens xs ++ s) (subst Ends (e ∙ append_assoc (node_tokens x) (forest_tokens xs) s) h)

-- ---- equal parts

words-same : (a b : ℕ) (t u : List ℕ) (r s : List Token) → word a t ∷ r ≡ word b u ∷ s → (atom a t ≡ atom b u) × (r ≡ s)
words-same a b t u r s e = let p : a ≡ b = cc in let q : t ≡ u = cc in let o : r ≡ s = cc in (cc, o)

left-same : (a b : ℕ) (r s : List Token) → left a ∷ r ≡ left b ∷ s → (a ≡ b) × (r ≡ s)
left-same a b r s e = let p : a ≡ b = cc in let o : r ≡ s = cc in (p, o)

right-same : (r s : List Token) → right ∷ r ≡ right ∷ s → r ≡ s
right-same r s e = cc

word-no-left : (a b : ℕ) (t : List ℕ) (r s : List Token) → word a t ∷ r ≡ left b ∷ s → ⊥
word-no-left a b t r s e = cc

list-same : (a b : ℕ) (is js : Nodes) → a ≡ b → is ≡ js → list a is ≡ list b js
list-same a b is js p q = cc

more-same : (x y : Node) (xs ys : Nodes) → x ≡ y → xs ≡ ys → more x xs ≡ more y ys
more-same x y xs ys p q = cc

-- the items of a list, with what stands behind it
pub items-then : (is : Nodes) (r : List Token) → (forest_tokens is ++ right ∷ []) ++ r ≡ forest_tokens is ++ right ∷ r
items-then is r = append_assoc (forest_tokens is) (right ∷ []) r

-- ---- equal tokens

mutual
  same-node : (x y : Node) (r s : List Token) → node_tokens x ++ r ≡ node_tokens y ++ s → (x ≡ y) × (r ≡ s)
  same-node (atom a t) (atom b u) r s e = words-same a b t u r s e
  same-node (atom a t) (list b js) r s e = absurd (word-no-left a b t r ((forest_tokens js ++ right ∷ []) ++ s) e)
  same-node (list a is) (atom b u) r s e = absurd (word-no-left b a u s ((forest_tokens is ++ right ∷ []) ++ r) (sym e))
  same-node (list a is) (list b js) r s e =
      let p = left-same a b ((forest_tokens is ++ right ∷ []) ++ r) ((forest_tokens js ++ right ∷ []) ++ s) e in
      let q = same-nodes is js (right ∷ r) (right ∷ s) tt tt (sym (items-then is r) ∙ p.1 ∙ items-then js s) in
      (list-same a b is js p.0 q.0, right-same r s q.1)

  same-nodes : (xs ys : Nodes) (r s : List Token) → Ends r → Ends s → forest_tokens xs ++ r ≡ forest_tokens ys ++ s → (xs ≡ ys) × (r ≡ s)
  same-nodes none none r s h i e = (refl, e)
  same-nodes none (more y ys) r s h i e = absurd (no-item y ys r s h e)
  same-nodes (more x xs) none r s h i e = absurd (no-item x xs s r i (sym e))
  same-nodes (more x xs) (more y ys) r s h i e =
      let p = same-node x y (forest_tokens xs ++ r) (forest_tokens ys ++ s) (sym (append_assoc (node_tokens x) (forest_tokens xs) r) ∙ e ∙ append_assoc (node_tokens y) (forest_tokens ys) s) in
      let q = same-nodes xs ys r s h i p.1 in
      (more-same x y xs ys p.0 q.0, q.1)

pub same-forest : (f g : Nodes) → forest_tokens f ≡ forest_tokens g → f ≡ g
same-forest f g e = (same-nodes f g [] [] tt tt (append-nil (forest_tokens f) ∙ e ∙ sym (append-nil (forest_tokens g)))).0

pub one-forest : (text : List ℕ) (f g : Nodes) → IsForestOf text f → IsForestOf text g → f ≡ g
unfolding IsForestOf
one-forest text f g a b = same-forest f g (sym a ∙ b)
