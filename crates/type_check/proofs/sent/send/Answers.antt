use Rattle.std.proofs.Common.{ℕ, List, cond, sym, ap, ◌∙◌}
use Rattle.std.specs.Prelude.{Option, Some, bytes_eq}
use Rattle.std.specs.Map.{lookup}
use Rattle.type_check.specs.declared.known.Known.{Known}
use Rattle.type_check.proofs.FirstSent.{sent_more}
use Rattle.type_check.proofs.sent.send.Goals as goal

pub returns-clause-sent : goal.returns-clause-sent
returns-clause-sent c = λ names all ds at guard es h m.
    let old = c.args.sent.now.entries in
    let ks = c.args.args.items in
    sent_more names all ds at c.args.name.now guard es ks old c.insert.new.self.entries h m (sym c.contains_key.ensures ∙ c.if-contains_key.false)
    (λ q. c.in_ok-insert.ensures.updates.0 q ∙ ap (λ (x : List ℕ). cond (bytes_eq x q) (Some c.of.result) (lookup (bytes_eq q) old)) c.in_ok-copy.ensures ∙ ap (λ (l : List (Option Known)). cond (bytes_eq c.args.name.now.name q) (Some l) (lookup (bytes_eq q) old)) c.of.ensures)
