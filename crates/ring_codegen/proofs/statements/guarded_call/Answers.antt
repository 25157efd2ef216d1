use Rattle.std.proofs.Common.{List, ◌<◌, length, map, sym, ap, ◌∙◌, subst}
use Rattle.std.specs.Prelude.{All}
use Rattle.stream_core.specs.declared.spec.Root.{Root}
use Rattle.c99_tree.specs.declared.unit.CStmt.TheVariants as stmt
use Rattle.ring_codegen.specs.Items.{expression_of}
use Rattle.ring_codegen.proofs.ItemTrees.{args_are}
use Rattle.ring_codegen.proofs.statements.guarded_call.Goals as goal

pub arguments-requires-clause-there : goal.arguments-requires-clause-there
arguments-requires-clause-there c =
    subst (λ (rs : List Root). All (λ (r : Root). r.expr < length c.args.spec.now.nodes) rs) (sym c.as_slice.ensures) c.requires.there.1

pub returns : goal.returns
returns c =
    let s = c.args.spec.now in
    let args = c.in_ok-args.ensures ∙ ap (map (λ (r : Root). expression_of s r.expr)) c.as_slice.ensures ∙ args_are s c.args.trigger.now.args in
    λ j. stmt.Call (c.in_ok-handler.ensures j) (c.in_ok-guard.ensures j) (args j)
