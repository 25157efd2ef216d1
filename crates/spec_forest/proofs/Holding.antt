-- The tokens that a scan holds, and the lengths of its pieces.
use Rattle.std.proofs.Common.{◌≡◌, ℕ, ◌+◌, Bool, true, false, not, cond, min, nat_lt, List, [], ◌∷◌, ◌++◌, length, Some, None, refl, ap, sym, ◌∙◌, arith, append_assoc, append-nil}
use Rattle.std.specs.List.{flat_map, prefix_len, position, position_or_len}
use Rattle.std.specs.Option.{unwrap_or}
use Rattle.std.proofs.lemmas.Bool.Decides.{nat_tests}
use Rattle.std.proofs.lemmas.List.Sums.{prefix_len-le-length}
use Rattle.std.proofs.lemmas.Grind.{flat_map-append}
use Rattle.spec_forest.specs.declared.tree.Tree.{Tree}
use Rattle.spec_forest.specs.declared.tree.Tree.TheVariants as t
use Rattle.spec_forest.specs.declared.scan.Level.{Level}
use Rattle.spec_forest.specs.Node.{node}
use Rattle.spec_forest.specs.NodeLaws.{node-Atom, node-List}
use Rattle.spec_forest.specs.Tokens.{Token, left, right, word, node_tokens}
use Rattle.spec_forest.specs.Scanning.{tree_tokens, level_tokens}

pub tree-push : (ts : List Tree) (x : Tree) → tree_tokens (ts ++ x ∷ []) ≡ tree_tokens ts ++ node_tokens (node x)
tree-push [] x = append-nil (node_tokens (node x))
tree-push (y ∷ ts) x = ap (λ us. node_tokens (node y) ++ us) (tree-push ts x) ∙ sym (append_assoc (node_tokens (node y)) (tree_tokens ts) (node_tokens (node x)))

level-push : (os : List Level) (o : Level) → flat_map level_tokens (os ++ o ∷ []) ≡ flat_map level_tokens os ++ (tree_tokens o.before.items ++ left o.at ∷ [])
level-push os o = flat_map-append level_tokens os (o ∷ []) ∙ ap (λ us. flat_map level_tokens os ++ us) (append-nil (tree_tokens o.before.items ++ left o.at ∷ []))

regroup : (f b i : List Token) (l r : Token) → f ++ (b ++ (l ∷ (i ++ r ∷ []))) ≡ ((f ++ (b ++ l ∷ [])) ++ i) ++ r ∷ []
regroup f b i l r = sym (simp append_assoc)

pub atom-holds : (os : List Level) (ts : List Tree) (at : ℕ) (bytes : List ℕ)
    → flat_map level_tokens os ++ tree_tokens (ts ++ t.Atom at bytes ∷ []) ≡ (flat_map level_tokens os ++ tree_tokens ts) ++ word at bytes ∷ []
atom-holds os ts at bytes =
    ap (λ us. flat_map level_tokens os ++ us) (tree-push ts (t.Atom at bytes) ∙ ap (λ x. tree_tokens ts ++ node_tokens x) (node-Atom at bytes))
    ∙ sym (append_assoc (flat_map level_tokens os) (tree_tokens ts) (word at bytes ∷ []))

pub enter-holds : (os : List Level) (o : Level) → flat_map level_tokens (os ++ o ∷ []) ++ [] ≡ (flat_map level_tokens os ++ tree_tokens o.before.items) ++ left o.at ∷ []
enter-holds os o = append-nil (flat_map level_tokens (os ++ o ∷ [])) ∙ level-push os o ∙ sym (append_assoc (flat_map level_tokens os) (tree_tokens o.before.items) (left o.at ∷ []))

pub leave-holds : (os : List Level) (o : Level) (items : List Tree)
    → flat_map level_tokens os ++ tree_tokens (o.before.items ++ t.List o.at items ∷ []) ≡ (flat_map level_tokens (os ++ o ∷ []) ++ tree_tokens items) ++ right ∷ []
leave-holds os o items =
    ap (λ us. flat_map level_tokens os ++ us) (tree-push o.before.items (t.List o.at items) ∙ ap (λ x. tree_tokens o.before.items ++ node_tokens x) (node-List o.at items))
    ∙ regroup (flat_map level_tokens os) (tree_tokens o.before.items) (tree_tokens items) (left o.at) right
    ∙ ap (λ us. (us ++ tree_tokens items) ++ right ∷ []) (sym (level-push os o))

-- the same, as a scan has it

pub leave-is : (old new : List Level) (o : Level) (was after : List Tree) → old ≡ new ++ o ∷ [] → after ≡ o.before.items ++ t.List o.at was ∷ []
    → flat_map level_tokens new ++ tree_tokens after ≡ (flat_map level_tokens old ++ tree_tokens was) ++ right ∷ []
leave-is old new o was after p q = rw (p, q) (leave-holds new o was)

pub atom-is : (os : List Level) (was after : List Tree) (at : ℕ) (bytes : List ℕ) → after ≡ was ++ t.Atom at bytes ∷ []
    → flat_map level_tokens os ++ tree_tokens after ≡ (flat_map level_tokens os ++ tree_tokens was) ++ word at bytes ∷ []
atom-is os was after at bytes p = rw p (atom-holds os was at bytes)

-- ---- lengths

pub some-position : (p : ℕ → Bool) (xs : List ℕ) (n : ℕ) → position p xs ≡ Some n → n + 1 ≡ min (position_or_len p xs + 1) (length xs)
some-position p xs n e = at (nat_lt (position_or_len p xs) (length xs)) refl where
  at : (v : Bool) → nat_lt (position_or_len p xs) (length xs) ≡ v → n + 1 ≡ min (position_or_len p xs + 1) (length xs)
  at true t = let is : Some (position_or_len p xs) ≡ Some n = rw (t) at e in let m : position_or_len p xs ≡ n = cc in grind (arith, nat_tests)
  at false t = absurd (let no : None ≡ Some n = rw (t) at e in cc)

pub no-position : (p : ℕ → Bool) (xs : List ℕ) → position p xs ≡ None → length xs ≡ min (position_or_len p xs + 1) (length xs)
no-position p xs e = at (nat_lt (position_or_len p xs) (length xs)) refl where
  at : (v : Bool) → nat_lt (position_or_len p xs) (length xs) ≡ v → length xs ≡ min (position_or_len p xs + 1) (length xs)
  at true t = absurd (let no : Some (position_or_len p xs) ≡ None = rw (t) at e in cc)
  at false t = grind (arith, nat_tests, prefix_len-le-length (λ x. not (p x)) xs)

twice : (p : ℕ → Bool) (xs : List ℕ) → position_or_len (λ x. not (p x)) xs ≡ prefix_len p xs
twice p [] = refl
twice p (x ∷ xs) = at (p x) (twice p xs) where
  at : (v : Bool) → position_or_len (λ y. not (p y)) xs ≡ prefix_len p xs → cond (not (not v)) (1 + position_or_len (λ y. not (p y)) xs) 0 ≡ cond v (1 + prefix_len p xs) 0
  at true e = ap (λ n. 1 + n) e
  at false e = refl

pub front-length : (p : ℕ → Bool) (xs : List ℕ) → unwrap_or (position (λ x. not (p x)) xs) (length xs) ≡ prefix_len p xs
front-length p xs = at (nat_lt (position_or_len (λ x. not (p x)) xs) (length xs)) refl ∙ twice p xs where
  at : (v : Bool) → nat_lt (position_or_len (λ x. not (p x)) xs) (length xs) ≡ v → unwrap_or (cond v (Some (position_or_len (λ x. not (p x)) xs)) None) (length xs) ≡ position_or_len (λ x. not (p x)) xs
  at true e = refl
  at false e = grind (arith, nat_tests, prefix_len-le-length (λ x. not (not (p x))) xs)
