use Rattle.std.proofs.Common.{arith, refl}
use Rattle.stream_types.proofs.Widths.{words-array}
use Rattle.stream_types.proofs.types.Types.add_array.Goals as goal

pub returns-in-Some-clause-found : goal.returns-in-Some-clause-found
returns-in-Some-clause-found c = λ i e.
    let p = c.place_of_array.ensures.list.arrays c.in-Some.i i c.args.elem c.args.n c.in-Some.ensures.found e in
    (cc, refl)

pub returns-in-Some-clause-too_wide : goal.returns-in-Some-clause-too_wide
returns-in-Some-clause-too_wide c =
    let h = c.place_of_array.ensures.list in
    (λ e. absurd (cc), λ p. absurd (omega (arith, words-array c.args.self.now c.in-Some.i c.args.elem c.args.n h c.in-Some.ensures.found, h.narrow c.in-Some.i)))
