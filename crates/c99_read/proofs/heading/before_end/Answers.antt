use Rattle.std.proofs.Common.{◌≡◌, ◌≢◌, ℕ, List, ◌++◌, codes, Option, Some, None, refl, ap, ◌∙◌}
use Rattle.std.specs.Prelude.{MatchOption}
use Rattle.std.specs.Borrow.{Bor}
use Rattle.std.proofs.lemmas.Bool.Decides.{Decides-eqb}
use Rattle.std.proofs.lemmas.Slice.Eq.{strip_suffix_is}
use Rattle.c99_read.specs.UnitAt.{before_end}
use Rattle.c99_read.proofs.HeaderFinds.{before_end-is}
use Rattle.c99_read.proofs.UnitTakes.{end_takes}
use Rattle.c99_read.proofs.heading.before_end.Goals as goal

none_by : (w : List ℕ) (o : Option (List ℕ)) → before_end w ≡ o → ((front : List ℕ) → w ≢ front ++ codes "_H") → o ≡ None
none_by w None e h = refl
none_by w (Some x) e h = absurd (h x (end_takes w x e))

by_end : (w : List ℕ) (o : Option (Bor (List ℕ))) → MatchOption o ((front : List ℕ) → w ≢ front ++ codes "_H") (λ x. w ≡ x.now ++ codes "_H")
    → MatchOption o (before_end w ≡ None) (λ x. before_end w ≡ Some x.now)
by_end w None h = none_by w (before_end w) refl h
by_end w (Some x) h = ap before_end h ∙ before_end-is x.now

pub returns : goal.returns
returns c = by_end c.args.word.now c.strip_suffix.result (strip_suffix_is Decides-eqb c.args.word.now (codes "_H") c.strip_suffix.result c.strip_suffix.ensures.cases)
