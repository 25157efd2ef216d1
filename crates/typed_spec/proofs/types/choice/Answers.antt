use Rattle.std.proofs.Common.{[], ◌∷◌, sym, subst}
use Rattle.std.specs.Prelude.{Option, Some, None}
use Rattle.type_check.specs.declared.known.Known.{Known}
use Rattle.type_check.specs.Judged.{type_of, on_choice, judged}
use Rattle.type_check.specs.Standing.{MeansOption}
use Rattle.typed_spec.proofs.TypedRows.{part_means, have_three, untyped_three}
use Rattle.typed_spec.proofs.types.choice.Goals as goal

pub returns-in_err-b : goal.returns-in_err-b
returns-in_err-b c = λ names j p q d hj hp hq.
    let v = on_choice c.args.at (type_of j) (type_of p) (type_of q) in
    let missing : MeansOption names None q.ty = subst (λ (o : Option Known). MeansOption names o q.ty) c.in_err-b.was hq in
    subst (λ (o : Option Known). MeansOption names o (judged (j ∷ p ∷ q ∷ []) v).ty) (sym c.from_residual-in_err-b.ensures) (untyped_three names j p q [] v missing)

pub returns : goal.returns
returns c = λ names j p q d hj hp hq.
    let v = on_choice c.args.at (type_of j) (type_of p) (type_of q) in
    let x = c.in_ok-c.field-0 in
    let y = c.in_ok-a.field-0 in
    let z = c.in_ok-b.field-0 in
    let a : MeansOption names (Some x) j.ty = subst (λ (o : Option Known). MeansOption names o j.ty) c.in_ok-c.was hj in
    let b : MeansOption names (Some y) p.ty = subst (λ (o : Option Known). MeansOption names o p.ty) c.in_ok-a.was hp in
    let e : MeansOption names (Some z) q.ty = subst (λ (o : Option Known). MeansOption names o q.ty) c.in_ok-b.was hq in
    c.told.ensures names (j ∷ p ∷ q ∷ []) v (have_three names x y z j p q a b e)
    (c.on_choice.ensures names (type_of j) (type_of p) (type_of q) d (part_means names x j a) (part_means names y p b) (part_means names z q e))
