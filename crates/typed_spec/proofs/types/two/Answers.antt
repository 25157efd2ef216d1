use Rattle.std.proofs.Common.{[], ◌∷◌, subst}
use Rattle.std.specs.Prelude.{Option, Some}
use Rattle.type_check.specs.declared.known.Known.{Known}
use Rattle.type_check.specs.Judged.{type_of, on_two}
use Rattle.type_check.specs.Standing.{MeansOption}
use Rattle.typed_spec.proofs.TypedRows.{part_means, have_two}
use Rattle.typed_spec.proofs.types.two.Goals as goal

pub returns : goal.returns
returns c = λ names p q d hp hq.
    let x = c.in_ok-a.field-0 in
    let y = c.in_ok-b.field-0 in
    let a : MeansOption names (Some x) p.ty = subst (λ (o : Option Known). MeansOption names o p.ty) c.in_ok-a.was hp in
    let b : MeansOption names (Some y) q.ty = subst (λ (o : Option Known). MeansOption names o q.ty) c.in_ok-b.was hq in
    c.told.ensures names (p ∷ q ∷ []) (on_two c.args.at c.args.op (type_of p) (type_of q)) (have_two names x y p q a b)
    (c.on_two.ensures names (type_of p) (type_of q) d (part_means names x p a) (part_means names y q b))
