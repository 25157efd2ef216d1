-- What the list reader finds of both texts decides whether a program has them.
use Rattle.std.proofs.Common.{◌≡◌, ℕ, List, Some, None, sym, ap, ◌∙◌}
use Rattle.c99_tree.specs.declared.unit.Unit.{Unit as CUnit}
use Rattle.c99_tree.specs.Spelling.{Spells}
use Rattle.c99_read.specs.declared.heading.Header.{Header}
use Rattle.c99_read.specs.UnitAt.{Source, header_of, source_of, said, said_by_source}
use Rattle.c99_read.proofs.UnitTakes.{spells, header_has_program}
use Rattle.c99_read.proofs.UnitReads.{no_header, no_source}

pub refuses_header : (h : List ℕ) → header_of h ≡ None → (u : CUnit) (other : List ℕ) → Spells u h other → ⊥
refuses_header h e u other p = no_header h e (u, other, p)

pub refuses_source : (h s : List ℕ) (q : Header) → header_of h ≡ Some q → source_of q s ≡ None
    → ((u : CUnit) × (other : List ℕ) × Spells u h other) × ((u : CUnit) → Spells u h s → ⊥)
refuses_source h s q e f = (header_has_program h q e, no_source h s q e f)

pub spells_read : (u : CUnit) (h s : List ℕ) (q : Header) (x : Source) → header_of h ≡ Some q → source_of q s ≡ Some x → said u ≡ q → said_by_source u ≡ x → Spells u h s
spells_read u h s q x e f same kept =
    spells u h s (e ∙ ap (λ (k : Header). Some k) (sym same)) (ap (λ (k : Header). source_of k s) same ∙ f ∙ ap (λ (y : Source). Some y) (sym kept))
