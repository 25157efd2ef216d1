use Rattle.std.proofs.Common.{◌+◌, cond, [], ◌∷◌, ◌++◌, refl, sym, ap, ◌∙◌, subst}
use Rattle.std.specs.Prelude.{Some, bytes_eq}
use Rattle.std.specs.Map.{lookup}
use Rattle.typed_spec.specs.declared.table.Table.{Table}
use Rattle.typed_spec.specs.Texts.{AreNumbered}
use Rattle.typed_spec.proofs.KindNames.{name_more, name_again}
use Rattle.typed_spec.proofs.table.Table.add.Goals.{then-not-contains_key+in_ok-copy+in_ok-insert, else-not-contains_key}
use Rattle.typed_spec.proofs.table.Table.add.Goals as goal

pub returns-clause-numbers : goal.returns-clause-numbers
returns-clause-numbers c = λ all h.
    let old = c.args.self.now in
    let x = c.args.name.now in
    elim c.if-not-contains_key.branch [
      | then-not-contains_key+in_ok-copy+in_ok-insert w ↦ subst (λ (s : Table). AreNumbered (all ++ x ∷ []) (record { numbers = s.numbers; count = s.count + 1 })) (sym w.self-is)
          (name_more all x old (record { numbers = w.insert.new.self; count = old.count + 1 }) h (sym c.contains_key.ensures ∙ w.if-not-contains_key.true)
          (λ q. w.in_ok-insert.ensures.updates.0 q ∙ ap (λ z. cond (bytes_eq z q) (Some old.count) (lookup (bytes_eq q) old.numbers.entries)) w.in_ok-copy.ensures) refl)
      | else-not-contains_key w ↦ subst (λ (s : Table). AreNumbered (all ++ x ∷ []) (record { numbers = s.numbers; count = s.count + 1 })) (sym w.self-is)
          (name_again all x old (record { numbers = old.numbers; count = old.count + 1 }) h (sym c.contains_key.ensures ∙ w.if-not-contains_key.false) refl refl)
    ]
