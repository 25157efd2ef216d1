use Rattle.std.proofs.Common.{◌≡◌, length, sym, ap, ◌∙◌}
use Rattle.std.specs.Prelude.{bytes_eq, None}
use Rattle.std.specs.List.{position}
use Rattle.std.specs.Option.{option_map_or}
use Rattle.typed_spec.proofs.KindNames.{position_or}
use Rattle.typed_spec.proofs.table.Table.number.Goals as goal

pub returns-in-None : goal.returns-in-None
returns-in-None c = λ all h.
    let x = c.args.name.now in
    let none : position (bytes_eq x) all ≡ None = sym (h.numbers_are x) ∙ sym c.in-None.ensures.value in
    h.count ∙ ap (λ o. option_map_or (λ k. k) o (length all)) (sym none) ∙ position_or (bytes_eq x) all
