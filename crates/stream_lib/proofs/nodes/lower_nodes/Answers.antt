use Rattle.std.proofs.Common.{◌+◌, length, ◌∙◌, sym, ap, subst}
use Rattle.stream_core.specs.Term.{tree}
use Rattle.stream_core.specs.Lower.{lowered}
use Rattle.stream_lib.specs.Built.{Makes}
use Rattle.stream_lib.specs.Renamed.{AreLowered, starts_of}
use Rattle.stream_lib.proofs.PlacedTrees.{grows_then}
use Rattle.stream_lib.proofs.LoweredNodes.{length_more, lowered_more}
use Rattle.stream_lib.proofs.LoweredParts.{adds_lowered_more}
use Rattle.stream_lib.proofs.nodes.lower_nodes.Goals as goal

pub loop-i-preserved : goal.loop-i-preserved
loop-i-preserved c =
    let source = c.args.source.now in
    let l = c.loop-i.invariant in
    let m = c.in_ok-id.ensures.made in
    let made = subst (λ k. Makes c.loop-i.spec c.lower_node.new.spec c.in_ok-id.id (lowered (starts_of source) (tree source.nodes source.libs k))) (sym l.count) m in
    record {
      grows = grows_then _ _ _ l.grows m.grows;
      count = ap length c.in_ok-push.ensures.items ∙ length_more c.loop-i.news.items c.in_ok-id.id ∙ ap (λ k. k + 1) l.count;
      lowered = subst (AreLowered source c.lower_node.new.spec) (sym c.in_ok-push.ensures.items) (lowered_more source c.loop-i.spec c.lower_node.new.spec c.loop-i.news.items c.in_ok-id.id l.lowered made);
      adds = adds_lowered_more source c.args.spec.now c.loop-i.spec c.lower_node.new.spec c.loop-i.i c.in_ok-id.id l.adds m;
    }
