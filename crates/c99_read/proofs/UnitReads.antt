-- What the list reader finds decides what two texts spell.
use Rattle.std.proofs.Common.{◌≡◌, ℕ, List, [], ◌∷◌, map, Option, Some, None, ◌⊎◌, inl, inr, refl, sym, ap, ◌∙◌}
use Rattle.c99_tree.specs.declared.unit.Unit.{Unit as CUnit}
use Rattle.c99_tree.specs.Tree.{Stmt, copies, calls, nexts, stores, moves, puts, statement}
use Rattle.c99_tree.specs.Spelling.{Spells}
use Rattle.c99_read.specs.declared.heading.Header.{Header}
use Rattle.c99_read.specs.Headers.{IsHeader, HaveParts}
use Rattle.c99_read.specs.UnitAt.{Source, header_of, source_of}
use Rattle.c99_read.proofs.HeaderFinds.{header_in}
use Rattle.c99_read.proofs.OneTree.{tree_back, trees_back}
use Rattle.c99_read.proofs.OneUnit.{source_in, unstatement, a_unit}
use Rattle.c99_read.proofs.UnitTakes.{spells, read_header, read_source, header_has_program}

pub none_some : {A : Type 0} (o : Option A) (x : A) → o ≡ None → o ≡ Some x → ⊥
none_some o x p q = cc (sym p ∙ q)

pub some_some : {A : Type 0} (o : Option A) (x y : A) → o ≡ Some x → o ≡ Some y → x ≡ y
some_some o x y p q = let e : Some x ≡ Some y = sym p ∙ q in cc e

pub no_header : (h : List ℕ) → header_of h ≡ None → IsHeader h → ⊥
no_header h e p = none_some (header_of h) (header_in p.0) e (read_header p.0 h p.1 p.2)

pub some_header : (h : List ℕ) (q : Header) → header_of h ≡ Some q → IsHeader h × HaveParts h q
some_header h q e = (header_has_program h q e, λ u other p. some_some (header_of h) (header_in u) q (read_header u h other p) e)

-- ---- a program from what is read

back_again : (a : Stmt) → statement (unstatement a) ≡ a
back_again (copies x) = refl
back_again (calls h g args) = rw (tree_back g, trees_back args) refl
back_again (nexts r e) = rw (tree_back e) refl
back_again (stores r e) = rw (tree_back e) refl
back_again (moves r e) = rw (tree_back e) refl
back_again (puts r) = refl

all_again : (all : List Stmt) → map statement (map unstatement all) ≡ all
all_again [] = refl
all_again (a ∷ all) = rw (back_again a, all_again all) refl

source_again : (q : Header) (x : Source) → source_in (a_unit q x) ≡ x
source_again q x = ap (λ (all : List Stmt). record { rings = x.rings; step = all }) (all_again x.step)

pub no_source : (h s : List ℕ) (q : Header) → header_of h ≡ Some q → source_of q s ≡ None → (u : CUnit) → Spells u h s → ⊥
no_source h s q e f u p =
    let same : header_in u ≡ q = some_some (header_of h) (header_in u) q (read_header u h s p) e in
    none_some (source_of q s) (source_in u) f (ap (λ (k : Header). source_of k s) (sym same) ∙ read_source u h s p)

abbrev Decided : List ℕ → List ℕ → Type 0
Decided h s = ((u : CUnit) × Spells u h s) ⊎ ((u : CUnit) → Spells u h s → ⊥)

by_source : (h s : List ℕ) (q : Header) → header_of h ≡ Some q → (o : Option Source) → source_of q s ≡ o → Decided h s
by_source h s q e None f = inr (no_source h s q e f)
by_source h s q e (Some x) f = inl (a_unit q x, spells (a_unit q x) h s e (f ∙ ap (λ (y : Source). Some y) (sym (source_again q x))))

by_header : (h s : List ℕ) (o : Option Header) → header_of h ≡ o → Decided h s
by_header h s None e = inr (λ u p. none_some (header_of h) (header_in u) e (read_header u h s p))
by_header h s (Some q) e = by_source h s q e (source_of q s) refl

pub decided : (h s : List ℕ) → Decided h s
decided h s = by_header h s (header_of h) refl
