-- A text without a fault has a forest: its tokens, put one by one onto the lists that are open.
use Rattle.std.proofs.Common.{◌≡◌, ℕ, zero, suc, ◌+◌, Bool, true, false, List, [], ◌∷◌, ◌++◌, length, drop, Some, None, refl, ap, sym, ◌∙◌, arith, append_assoc, append-nil}
use Rattle.std.specs.Prelude.{◌&&◌, ◌==◌, slice_index, if◌then◌else◌}
use Rattle.std.specs.List.{take_while}
use Rattle.std.proofs.lemmas.Bool.{eqb-true}
use Rattle.spec_forest.specs.declared.tree.Tree.{Tree}
use Rattle.spec_forest.specs.declared.tree.Tree.TheVariants as tree
use Rattle.spec_forest.specs.declared.tree.Forest.{Forest}
use Rattle.spec_forest.specs.Node.{node, forest_nodes}
use Rattle.spec_forest.specs.NodeLaws.{node-Atom, node-List}
use Rattle.spec_forest.specs.Scan.{unbalanced, is_left, is_right, count_below, first_below, commented, opens, closes, depth, fault_at, scan_fault}
use Rattle.spec_forest.specs.Tokens.{Token, left, right, word, is_letter, is_fresh, token_at, tokens_before, tokens, node_tokens, IsForestOf}
use Rattle.spec_forest.specs.Scanning.{tree_tokens}
use Rattle.spec_forest.proofs.Shown.{commented_adds, left_adds, right_adds}
use Rattle.spec_forest.proofs.ScanSteps.{depth-here}
use Rattle.spec_forest.proofs.Holding.{tree-push}
use Rattle.spec_forest.proofs.Bounds.{bit, earlier-parts, no-byte-fault, no-end-fault}

-- the nodes at the top, or those of an open list with its place, in what stands around it
data Stack : Type 0 where
  bottom : List Tree → Stack
  inside : Stack → ℕ → List Tree → Stack

abbrev stack_tokens : Stack → List Token
stack_tokens (bottom ts) = tree_tokens ts
stack_tokens (inside s at ts) = stack_tokens s ++ left at ∷ tree_tokens ts

-- how many lists are open
abbrev height : Stack → ℕ
height (bottom ts) = 0
height (inside s at ts) = height s + 1

abbrev push : Stack → Tree → Stack
push (bottom ts) x = bottom (ts ++ x ∷ [])
push (inside s at ts) x = inside s at (ts ++ x ∷ [])

push-height : (s : Stack) (x : Tree) → height (push s x) ≡ height s
push-height (bottom ts) x = refl
push-height (inside s at ts) x = refl

push-tokens : (s : Stack) (x : Tree) → stack_tokens (push s x) ≡ stack_tokens s ++ node_tokens (node x)
push-tokens (bottom ts) x = tree-push ts x
push-tokens (inside s at ts) x =
    ap (λ (us : List Token). stack_tokens s ++ left at ∷ us) (tree-push ts x)
    ∙ sym (append_assoc (stack_tokens s) (left at ∷ tree_tokens ts) (node_tokens (node x)))

push-word : (s : Stack) (at : ℕ) (bytes : List ℕ) → stack_tokens (push s (tree.Atom at bytes)) ≡ stack_tokens s ++ word at bytes ∷ []
push-word s at bytes = push-tokens s (tree.Atom at bytes) ∙ ap (λ x. stack_tokens s ++ node_tokens x) (node-Atom at bytes)

push-list : (s : Stack) (at : ℕ) (ts : List Tree) → stack_tokens (push s (tree.List at ts)) ≡ (stack_tokens s ++ left at ∷ tree_tokens ts) ++ right ∷ []
push-list s at ts =
    push-tokens s (tree.List at ts) ∙ ap (λ x. stack_tokens s ++ node_tokens x) (node-List at ts)
    ∙ sym (append_assoc (stack_tokens s) (left at ∷ tree_tokens ts) (right ∷ []))

-- what is made of the text before a place
record Stands (text : List ℕ) (k : ℕ) : Type 0 where
  stack : Stack
  known : tokens_before text k ≡ stack_tokens stack
  level : count_below k (opens text) ≡ count_below k (closes text) + height stack

stands-on : (text : List ℕ) (k : ℕ) (us : List Token) (l r : Bool) (s : Stands text k) (new : Stack) → token_at text k ≡ us → opens text k ≡ l → closes text k ≡ r
    → stack_tokens new ≡ stack_tokens s.stack ++ us → height s.stack + bit l ≡ height new + bit r → Stands text (suc k)
stands-on text k us l r s new t o c e h = record {
  stack = new;
  known = rw (s.known, t) (sym e);
  level = rw (o, c) (omega (arith, s.level, h));
}

by-word : (text : List ℕ) (k : ℕ) (w : Bool) (bytes : List ℕ) (s : Stands text k) → token_at text k ≡ (if w then word k bytes ∷ [] else []) → opens text k ≡ false → closes text k ≡ false → Stands text (suc k)
by-word text k true bytes s t o c =
    stands-on text k (word k bytes ∷ []) false false s (push s.stack (tree.Atom k bytes)) t o c (push-word s.stack k bytes) (ap (λ (n : ℕ). n + 0) (sym (push-height s.stack (tree.Atom k bytes))))
by-word text k false bytes s t o c = stands-on text k [] false false s s.stack t o c (sym (append-nil (stack_tokens s.stack))) refl

by-left : (text : List ℕ) (k : ℕ) → Stands text k → commented text k ≡ false → slice_index text k ≡ 40 → Stands text (suc k)
by-left text k s c b =
    let a = left_adds text k c b in
    stands-on text k (left k ∷ []) true false s (inside s.stack k []) a.begins a.lefts a.rights refl (omega arith)

by-right : (text : List ℕ) (k : ℕ) → Stands text k → commented text k ≡ false → slice_index text k ≡ 41 → fault_at text k ≡ None → Stands text (suc k)
by-right text k s c b clean = at s.stack refl where
  at : (this : Stack) → s.stack ≡ this → Stands text (suc k)
  at (bottom ts) is =
      let here : depth text k ≡ 0 = depth-here text k 0 (s.level ∙ ap (λ x. count_below k (closes text) + height x) is) in
      let full : (depth text k == 0) ≡ true = ap (λ (d : ℕ). d == 0) here in
      absurd (let no : None ≡ Some (unbalanced k) = sym clean ∙ (right_adds text k c b).fault ∙ ap (λ (x : Bool). if x then Some (unbalanced k) else None) full in cc)
  at (inside o p ts) is =
      let a = right_adds text k c b in
      stands-on text k (right ∷ []) false true s (push o (tree.List p ts)) a.begins a.lefts a.rights
      (push-list o p ts ∙ ap (λ x. stack_tokens x ++ right ∷ []) (sym is))
      (ap (λ x. height x + 0) is ∙ omega (arith, push-height o (tree.List p ts)))

plain : (text : List ℕ) (k : ℕ) → Stands text k → commented text k ≡ false → is_left (slice_index text k) ≡ false → is_right (slice_index text k) ≡ false → Stands text (suc k)
unfolding token_at opens closes
plain text k s c l r =
    by-word text k (is_letter (slice_index text k) && is_fresh text k) (take_while is_letter (drop k text)) s (rw (c, l, r) refl) (rw (c, l) refl) (rw (c, r) refl)

stands-step : (text : List ℕ) (k : ℕ) → Stands text k → fault_at text k ≡ None → Stands text (suc k)
stands-step text k s clean = at (commented text k) refl where
  sides : commented text k ≡ false → (l r : Bool) → is_left (slice_index text k) ≡ l → is_right (slice_index text k) ≡ r → Stands text (suc k)
  sides c true r e f = by-left text k s c (eqb-true (slice_index text k) 40 e)
  sides c false true e f = by-right text k s c (eqb-true (slice_index text k) 41 f) clean
  sides c false false e f = plain text k s c e f

  at : (v : Bool) → commented text k ≡ v → Stands text (suc k)
  at true c =
      let a = commented_adds text k c in
      stands-on text k [] false false s s.stack a.begins a.lefts a.rights (sym (append-nil (stack_tokens s.stack))) refl
  at false c = sides c (is_left (slice_index text k)) (is_right (slice_index text k)) refl refl

stands : (text : List ℕ) (k : ℕ) → first_below k (fault_at text) ≡ None → Stands text k
stands text zero e = record { stack = bottom []; known = refl; level = refl }
stands text (suc k) e =
    let p = earlier-parts (first_below k (fault_at text)) (fault_at text k) e in
    stands-step text k (stands text k p.0) p.1

pub forest-made : (text : List ℕ) → scan_fault text ≡ None → (forest : Forest) × IsForestOf text (forest_nodes forest)
unfolding IsForestOf tokens
forest-made text clean = at (stands text (length text) (no-byte-fault text clean)) where
  at : Stands text (length text) → (forest : Forest) × (tokens_before text (length text) ≡ tree_tokens forest.items)
  at s = from s.stack s.known (sym (depth-here text (length text) (height s.stack) s.level) ∙ no-end-fault text clean) where
    from : (this : Stack) → tokens_before text (length text) ≡ stack_tokens this → height this ≡ 0 → (forest : Forest) × (tokens_before text (length text) ≡ tree_tokens forest.items)
    from (bottom ts) e h = (record { items = ts }, e)
    from (inside o p ts) e h = absurd (omega (arith, h))
