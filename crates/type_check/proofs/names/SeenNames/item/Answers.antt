use Rattle.std.proofs.Common.{◌≡◌, false, cond, nat_eq, sym, ap, ◌∙◌}
use Rattle.std.specs.Prelude.{◌&&◌, bytes_eq, Some}
use Rattle.std.specs.Map.{lookup}
use Rattle.type_check.specs.Seen.{clashes}
use Rattle.type_check.proofs.Redeclarations.{item_seen}
use Rattle.type_check.proofs.names.SeenNames.item.Goals as goal

pub returns-clause-seen : goal.returns-clause-seen
returns-clause-seen c = λ before i h.
    let v = c.args.self.now.version in
    let x = c.args.name.now in
    let is = c.args.self.now.items.entries in
    let shared = c.is_shared-shared.ensures in
    let free : clashes (nat_eq v 2 && c.args.trigger) (lookup (bytes_eq x.name) is) ≡ false =
    ap (λ s. clashes s (lookup (bytes_eq x.name) is)) (sym shared)
    ∙ ap (clashes c.is_shared-shared.result) (sym (c.copied-earlier.ensures ∙ c.get.ensures.value))
    ∙ sym c.clashes.ensures ∙ c.if-clashes.false in
    item_seen v before i c.args.self.now.structs.keys is c.insert.new.self.entries x c.args.trigger h free
    (λ q. c.in_ok-insert.ensures.updates.0 q
    ∙ ap (λ k. cond (bytes_eq k q) (Some c.is_shared-shared.result) (lookup (bytes_eq q) is)) c.in_ok-copy.ensures
    ∙ ap (λ s. cond (bytes_eq x.name q) (Some s) (lookup (bytes_eq q) is)) shared)
