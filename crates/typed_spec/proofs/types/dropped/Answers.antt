use Rattle.std.proofs.Common.{sym, ◌∙◌, subst}
use Rattle.std.specs.Prelude.{Option, bytes_eq}
use Rattle.std.specs.Map.{lookup}
use Rattle.type_check.specs.declared.known.Known.{Known}
use Rattle.type_check.specs.Judged.{named_in, over_drop}
use Rattle.type_check.specs.Standing.{MeansOption}
use Rattle.typed_spec.proofs.FoundTypes.{drop_missing}
use Rattle.typed_spec.proofs.types.dropped.Goals as goal

pub returns-in_err-item : goal.returns-in_err-item
returns-in_err-item c = λ names s h.
    let x = c.args.x.now in
    subst (λ (o : Option Known). MeansOption names o (over_drop c.args.at c.args.k x (named_in s.all x.name)).ty) (sym c.from_residual.ensures)
    (drop_missing names c.args.at c.args.k x (named_in s.all x.name) (lookup (bytes_eq x.name) c.args.scope.now.items.entries) (h.items_are x.name) (sym c.find.ensures ∙ c.in_err-item.was))
