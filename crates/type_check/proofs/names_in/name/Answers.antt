use Rattle.std.proofs.Common.{[], ◌∷◌, refl, sym, ◌∙◌, subst}
use Rattle.std.specs.Prelude.{Option, Some, None, bytes_eq}
use Rattle.std.specs.Map.{lookup}
use Rattle.type_check.specs.declared.known.Known.{Known}
use Rattle.type_check.specs.Judged.{Named, named_in, has, type_of, declared, over_name}
use Rattle.type_check.specs.Standing.{MeansOption, IsTyped, Gives, is_type}
use Rattle.type_check.proofs.Nodes.{found_of, declared_typed, parts_one, parts_typed, parts_untyped, typed_means}
use Rattle.type_check.proofs.names_in.name.Goals as goal

pub returns-in-Some-ty : goal.returns-in-Some-ty
returns-in-Some-ty c = λ names s h.
    let scope = c.args.scope.now in
    let o = c.args.order.now in
    let x = c.args.x.now.name in
    let f = found_of names (named_in s.all x) (lookup (bytes_eq x) scope.items.entries) c.in-Some.item (h.items_are x) (sym c.find.ensures ∙ c.in-Some.is) in
    let t = declared_typed names scope.closed o f.thing (Some c.in-Some-ty.ty) (subst (λ (k : Option Known). MeansOption names k (declared f.thing).ty) c.in-Some-ty.is f.ty) in
    subst (λ (n : Option Named). Gives names scope.closed o c.node.new.order (over_name c.args.x.now n) c.node.result) (sym f.is)
    (c.node.ensures names o (declared f.thing ∷ []) (has (type_of (declared f.thing))) h.distinct (parts_typed (parts_one t) refl) (is_type (typed_means t)))

pub returns-in-None : goal.returns-in-None
returns-in-None c = λ names s h.
    let scope = c.args.scope.now in
    let o = c.args.order.now in
    let x = c.args.x.now.name in
    let f = found_of names (named_in s.all x) (lookup (bytes_eq x) scope.items.entries) c.in-Some.item (h.items_are x) (sym c.find.ensures ∙ c.in-Some.is) in
    let t = declared_typed names scope.closed o f.thing None (subst (λ (k : Option Known). MeansOption names k (declared f.thing).ty) c.in-None.is f.ty) in
    subst (λ (n : Option Named). IsTyped names scope.closed o o (over_name c.args.x.now n) None) (sym f.is)
    (parts_untyped (has (type_of (declared f.thing))) (parts_one t) refl)
