use Rattle.std.proofs.Common.{◌≡◌, ◌<◌, length, subst, arith}
use Rattle.std.specs.Prelude.{IfSome}
use Rattle.sm_io.proofs.Elements.{get_within}
use Rattle.stream_types.specs.declared.types.TypeEntry.{TypeEntry}
use Rattle.ring_codegen.specs.CTypes.{c_def}
use Rattle.ring_codegen.proofs.ItemTrees.{mapped_more}
use Rattle.ring_codegen.proofs.declarations.type_defs.Goals as goal

pub loop-i-preserved : goal.loop-i-preserved
loop-i-preserved c =
    let types = c.args.types.now in
    let i = c.loop-i.i in
    let x = get_within types i (omega arith) in
    mapped_more (c_def types) types i x.0 c.loop-i.defs c.push.new.self c.in_ok-def.def x.1 c.loop-i.invariant
    (subst (λ o. IfSome o (λ (e : TypeEntry). c.in_ok-def.def ≡ c_def types e)) x.1 c.in_ok-def.ensures) c.in_ok-push.ensures.ok
