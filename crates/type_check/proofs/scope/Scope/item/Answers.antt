use Rattle.std.proofs.Common.{ℕ, List, cond, sym, ap, ◌∙◌, subst}
use Rattle.std.specs.Prelude.{Option, Some, bytes_eq}
use Rattle.std.specs.Map.{lookup}
use Rattle.type_check.specs.declared.scope.Item.{Item}
use Rattle.type_check.specs.NamedType.{NamedType}
use Rattle.type_check.specs.Standing.{MeansOption}
use Rattle.type_check.proofs.Tables.{item_more}
use Rattle.type_check.proofs.scope.Scope.item.Goals as goal

pub returns-clause-items : goal.returns-clause-items
returns-clause-items c = λ names ds n t k j h.
    let i : Item = record { kind = c.args.kind; ty = c.latest-ty.result } in
    let old = c.args.self.now.items.entries in
    item_more names ds c.args.name.now n i old c.insert.new.self.entries h k
    (subst (λ (o : Option NamedType). MeansOption names c.latest-ty.result o) (sym j) (c.latest-ty.ensures names ds t))
    (λ q. c.in_ok-insert.ensures.updates.0 q ∙ ap (λ (x : List ℕ). cond (bytes_eq x q) (Some i) (lookup (bytes_eq q) old)) c.in_ok-copy.ensures)
