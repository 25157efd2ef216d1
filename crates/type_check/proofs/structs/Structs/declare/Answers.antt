use Rattle.std.proofs.Common.{◌≡◌, ℕ, List, cond, length, sym, ap, ◌∙◌, subst}
use Rattle.std.specs.Prelude.{Some, bytes_eq}
use Rattle.std.specs.Map.{lookup}
use Rattle.type_check.specs.declared.structs.Member.{Member}
use Rattle.type_check.specs.declared.structs.Structs.{Structs}
use Rattle.type_check.specs.Standing.{AreMembers}
use Rattle.type_check.proofs.Tables.{table_more}
use Rattle.type_check.proofs.structs.Structs.declare.Goals as goal

pub returns-clause-ok : goal.returns-clause-ok
returns-clause-ok c = λ names ds at t n.
    let old : Structs = c.args.self.now in
    let new : Structs = record { numbers = c.insert.new.self; all = c.push.new.self } in
    let x = c.args.name.now in
    let m = subst (λ (ms : List Member). AreMembers names ds c.args.fields.now ms) (sym c.of-members.ensures) (c.in_ok-members.ensures.ok names ds t) in
    let l : c.len.result ≡ length old.all.items = c.len.ensures ∙ old.all.ok.0 in
    table_more names ds at x c.args.fields.now old new _ t n c.in_ok-name.ensures m (c.fields_words-words.ensures names ds t) c.in_ok-push.ensures.items
    (λ q. c.in_ok-insert.ensures.updates.0 q
    ∙ ap (λ (k : List ℕ). cond (bytes_eq k q) (Some c.len.result) (lookup (bytes_eq q) old.numbers.entries)) c.in_ok-copy.ensures
    ∙ ap (λ (k : ℕ). cond (bytes_eq x.name q) (Some k) (lookup (bytes_eq q) old.numbers.entries)) l)
