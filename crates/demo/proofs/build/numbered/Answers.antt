use Rattle.std.proofs.Common.{List, ℕ, [], ◌∷◌, ◌++◌, ap, ap₂, ◌∙◌, sym, subst}
use Rattle.sm_io.specs.Names.{IsNameBytes}
use Rattle.demo.proofs.Naming.{numbered_name}
use Rattle.demo.proofs.build.numbered.Goals as goal

pub new-requires : goal.new-requires
new-requires c =
    let join : List ℕ → List ℕ → List ℕ = λ xs ys. xs ++ ys in
    subst IsNameBytes (sym (c.in_ok-extend_from_slice.ensures.items ∙ ap₂ join (c.in_ok-push.ensures.items ∙ ap (λ (xs : List ℕ). xs ++ c.args.letter ∷ []) c.new-bytes.ensures.items) (c.as_bytes.ensures.value ∙ c.format.ensures.text)))
    (numbered_name c.args.letter c.args.i c.requires.low c.requires.high c.ranges.i.fits)
