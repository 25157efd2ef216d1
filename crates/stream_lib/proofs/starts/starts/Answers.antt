use Rattle.std.proofs.Common.{◌<◌, ◌+◌, List, length, get_or, ◌∙◌, sym, ap, subst, arith}
use Rattle.stream_core.specs.declared.spec.LibItem.{LibItem}
use Rattle.stream_lib.specs.Renamed.{AreStarts}
use Rattle.stream_lib.proofs.LoweredNodes.{length_more}
use Rattle.stream_lib.proofs.FirstBuffers.{counted_on, rest_starts, starts_more}
use Rattle.stream_lib.proofs.starts.starts.Goals as goal

pub loop-item-preserved : goal.loop-item-preserved
loop-item-preserved c =
    let source = c.args.source.now in
    let l = c.loop-item.invariant in
    let small : c.loop-item.next < 4294967295 = let h = l.few in omega (arith, h) in
    let all = c.libs-item-items.ensures in
    let i = c.loop-item.item-index in
    let x = c.item-item.result in
    let within : i < length c.libs-item-items.result.now = omega (arith, c.loop-item-test.true) in
    let inside = subst (λ (xs : List LibItem). i < length xs) all within in
    let is = c.item-item.is ∙ ap (λ (xs : List LibItem). get_or xs i x) all in
    record {
      few = counted_on source.libs i x c.loop-item.next c.buffers-next.result 266240 inside is c.buffers-next.ensures.value l.few;
      count = ap length c.in_ok-push.ensures.items ∙ length_more c.loop-item.starts.items c.loop-item.next ∙ ap (λ k. k + 1) l.count;
      starts = subst (AreStarts source) (sym c.in_ok-push.ensures.items) (starts_more source c.loop-item.starts.items c.loop-item.next c.loop-item.item-index l.count small l.starts l.rest);
      rest = rest_starts (length source.streams) c.loop-item.next i c.buffers-next.result source.libs x
          inside
          is
          c.buffers-next.ensures.value
          l.rest;
    }
