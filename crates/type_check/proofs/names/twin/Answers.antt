use Rattle.std.proofs.Common.{◌+◌, List, ℕ, arith, sym, subst}
use Rattle.type_check.proofs.Redeclarations.{was_there, was_new, IsTwinless, twinless_none, twinless_fault, twinless_more, twinless_all}
use Rattle.type_check.proofs.names.twin.Goals as goal

pub loop-field-init : goal.loop-field-init
loop-field-init c = subst (λ (ns : List (List ℕ)). IsTwinless c.args.members.now 0 ns) (sym c.clear.ensures.empty) (twinless_none c.args.members.now)

pub returns-then-not-branch-clause-ok : goal.returns-then-not-branch-clause-ok
returns-then-not-branch-clause-ok c =
    twinless_fault c.args.members.now c.loop-field.field-index c.loop-field.seen.keys c.loop-field.invariant c.field-item.result (omega arith) c.field-item.is
    (was_there _ _ c.in_ok-is_new.ensures.new c.if-not-branch.true)

pub loop-field-preserved : goal.loop-field-preserved
loop-field-preserved c =
    subst (λ (ns : List (List ℕ)). IsTwinless c.args.members.now (c.loop-field.field-index + 1) ns) (sym (c.in_ok-is_new.ensures.put c.if-not-branch.false))
    (twinless_more c.args.members.now c.loop-field.field-index c.loop-field.seen.keys c.loop-field.invariant c.field-item.result (omega arith) c.field-item.is
    (was_new _ _ c.in_ok-is_new.ensures.new c.if-not-branch.false))

pub returns-clause-ok : goal.returns-clause-ok
returns-clause-ok c = twinless_all c.args.members.now c.loop-field.field-index c.loop-field.seen.keys c.loop-field.invariant (omega arith)
