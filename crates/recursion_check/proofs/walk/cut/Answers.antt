use Rattle.std.proofs.Common.{◌≡◌, ⊎_elim, ◌-◌, [], ◌∷◌, length, Some, None, ◌∙◌, sym, ap, subst, arith}
use Rattle.std.specs.Prelude.{slice_get}
use Rattle.std.proofs.lemmas.List.{length_push}
use Rattle.recursion_check.specs.Graph.{Has}
use Rattle.recursion_check.specs.Walked.{Rising}
use Rattle.recursion_check.proofs.ListElements.{at_most_last, empty_last, has_left, has_pushed, pop_last, rising_front}
use Rattle.recursion_check.proofs.walk.cut.Goals as goal

pub returns-then-start-place : goal.returns-then-start-place
returns-then-start-place c =
    let xs = c.loop-start.starts.items in
    let l = subst (λ ys. slice_get ys (length ys - 1) ≡ Some c.in-Some.start) c.as_slice.ensures.value (sym c.last.ensures ∙ c.in-Some.is) in
    let i = c.loop-start.invariant in
    record {
      from = λ b h. let q = at_most_last xs c.in-Some.start b i.rising l h in (i.from b h, omega (arith, q, c.if-start-place.true));
      all = i.all;
      rising = i.rising;
      short = i.short;
    }

pub loop-start-preserved : goal.loop-start-preserved
loop-start-preserved c =
    let v = c.loop-start.starts in
    let ys = c.pop.new.self.items in
    let i = c.loop-start.invariant in
    let l = subst (λ zs. slice_get zs (length zs - 1) ≡ Some c.in-Some.start) c.as_slice.ensures.value (sym c.last.ensures ∙ c.in-Some.is) in
    let e = pop_last v.items ys c.pop.result v.len c.in-Some.start c.pop.ensures.items (omega (arith, v.ok.0)) c.pop.ensures.value l in
    record {
      rising = rising_front ys c.in-Some.start (subst Rising e i.rising);
      from = λ b h. i.from b (subst (λ zs. Has zs b) (sym e) (has_left ys (c.in-Some.start ∷ []) b h));
      all = λ b h le. ⊎_elim (λ q. q) (λ q. absurd (omega (arith, q, le, c.if-start-place.false))) (has_pushed ys c.in-Some.start b (subst (λ zs. Has zs b) e (i.all b h le)));
      short = omega (arith, ap length e, length_push ys c.in-Some.start, i.short);
    }

pub returns : goal.returns
returns c =
    let xs = c.loop-start.starts.items in
    let i = c.loop-start.invariant in
    let l = subst (λ ys. slice_get ys (length ys - 1) ≡ None) c.as_slice.ensures.value (sym c.last.ensures ∙ c.in_default.is) in
    let e = empty_last xs l in
    record {
      from = λ b h. absurd (subst (λ zs. Has zs b) e h);
      all = i.all;
      rising = i.rising;
      short = i.short;
    }
