use Rattle.std.proofs.Common.{◌≡◌, ℕ, ◌+◌, List, [], ◌∷◌, length, take, drop, true, false, eqb, Option, Some, None, refl, sym, ap, ◌∙◌, inl, inr}
use Rattle.std.specs.Prelude.{MatchOption}
use Rattle.std.specs.Borrow.{Bor}
use Rattle.std.specs.Cmp.Lexicographic.{pointwise}
use Rattle.std.proofs.lemmas.Bool.{and_parts, and_cases, eqb-true, eqb-false, eq-eqb, ne_eqb, cases_eq, true≢false}
use Rattle.c99_read.specs.Front.{behind}
use Rattle.c99_read.proofs.front.strip.Goals as goal

behind_some : (p s : List ℕ) → pointwise eqb (take (length p) s) p ≡ true → behind p s ≡ Some (drop (length p) s)
unfolding behind
behind_some [] s h = refl
behind_some (b ∷ p) [] h = absurd (true≢false (sym h))
behind_some (b ∷ p) (c ∷ s) h = let q = and_parts (eqb c b) (pointwise eqb (take (length p) s) p) h in let e = eqb-true c b q.0 in rw (eq-eqb b c (sym e)) (behind_some p s q.1)

behind_none : (p s : List ℕ) → pointwise eqb (take (length p) s) p ≡ false → behind p s ≡ None
unfolding behind
behind_none [] s h = absurd (true≢false h)
behind_none (b ∷ p) [] h = refl
behind_none (b ∷ p) (c ∷ s) h = elim (cases_eq b c) [ inl e ↦ rw (eq-eqb b c e) (behind_none p s (elim (and_cases (eqb c b) (pointwise eqb (take (length p) s) p) h) [ inl f ↦ absurd (eqb-false c b f (sym e)) | inr f ↦ f ])) | inr n ↦ rw (ne_eqb b c n) refl ]

strip_cases : (p s : List ℕ) (o : Option (Bor (List ℕ))) → MatchOption o (pointwise eqb (take (length p) s) p ≡ false) (λ x. (pointwise eqb (take (length p) s) p ≡ true) × (x.now ≡ drop (length p) s) × (length x.now + length p ≡ length s)) → MatchOption o (behind p s ≡ None) (λ r. behind p s ≡ Some r.now)
strip_cases p s None h = behind_none p s h
strip_cases p s (Some r) h = behind_some p s h.0 ∙ ap (λ (x : List ℕ). Some x) (sym h.1)

pub returns : goal.returns
returns c = strip_cases c.args.fixed.now c.args.bytes.now c.strip_prefix.result c.strip_prefix.ensures.cases
