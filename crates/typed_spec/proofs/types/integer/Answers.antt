use Rattle.std.proofs.Common.{[], ◌∷◌, subst}
use Rattle.std.specs.Prelude.{Option, Some}
use Rattle.type_check.specs.declared.known.Known.{Known}
use Rattle.type_check.specs.Judged.{type_of, on_integer}
use Rattle.type_check.specs.Standing.{MeansOption}
use Rattle.typed_spec.proofs.TypedRows.{part_means, have_one}
use Rattle.typed_spec.proofs.types.integer.Goals as goal

pub returns : goal.returns
returns c = λ names p hp.
    let x = c.in_ok-a.field-0 in
    let a : MeansOption names (Some x) p.ty = subst (λ (o : Option Known). MeansOption names o p.ty) c.in_ok-a.was hp in
    c.told.ensures names (p ∷ []) (on_integer c.args.at (type_of p)) (have_one names x p a) (c.on_integer.ensures names (type_of p) (part_means names x p a))
