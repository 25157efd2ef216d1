use Rattle.std.proofs.Common.{List, ◌≡◌, ◌++◌, map, ap, ◌∙◌, subst}
use Rattle.std.specs.Prelude.{IfOk}
use Rattle.stream_core.specs.declared.spec.ExternItem.{ExternItem}
use Rattle.stream_core.proofs.Roots.{streams_there, triggers_there}
use Rattle.c99_tree.specs.declared.unit.CStmt.{CStmt}
use Rattle.ring_codegen.specs.Translation.{copy_statement}
use Rattle.ring_codegen.proofs.ItemTrees.{step_is}
use Rattle.ring_codegen.proofs.SoundItems.{ring_items}
use Rattle.ring_codegen.proofs.statements.step_statements.Goals as goal

pub add_calls-requires-clause-there : goal.add_calls-requires-clause-there
add_calls-requires-clause-there c = triggers_there c.args.spec.now c.requires.typed

pub add_nexts-requires-clause-there : goal.add_nexts-requires-clause-there
add_nexts-requires-clause-there c = streams_there c.args.spec.now c.requires.typed

pub add_writes-requires : goal.add_writes-requires
add_writes-requires c = ring_items c.args.spec.now c.requires

pub returns : goal.returns
returns c =
    let s = c.args.spec.now in
    let copied = c.in_ok-copies.ensures ∙ ap (λ (xs : List ExternItem). c.new-nothing.result ++ map copy_statement xs) c.externs.ensures in
    subst (λ (xs : List CStmt). IfOk c.add_writes.result (λ all. all ≡ xs))
    (step_is s c.new-nothing.result c.in_ok-copies.copies c.in_ok-calls.calls c.in_ok-nexts.nexts c.new-nothing.ensures copied c.in_ok-calls.ensures c.in_ok-nexts.ensures)
    c.add_writes.ensures
