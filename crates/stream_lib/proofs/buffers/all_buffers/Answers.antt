use Rattle.std.proofs.Common.{◌≡◌, ◌<◌, ◌+◌, ◌++◌, List, length, get_or, map, ◌∙◌, sym, ap, subst, arith}
use Rattle.stream_core.specs.declared.spec.LibItem.{LibItem}
use Rattle.stream_core.specs.declared.spec.StreamItem.{StreamItem}
use Rattle.stream_lib.specs.Made.{MakesStreams, stream_tree}
use Rattle.stream_lib.proofs.FirstBuffers.{counted_on}
use Rattle.stream_lib.proofs.MadeStreams.{AreBuffers, args_at, buffers_more, still_lowered, streams_more}
use Rattle.stream_lib.proofs.buffers.all_buffers.Goals as goal

pub loop-item-preserved : goal.loop-item-preserved
loop-item-preserved c =
    let source = c.args.source.now in
    let l = c.loop-item.invariant in
    let i = c.loop-item.item-index in
    let x = c.item-item.result in
    let t = c.item_buffers.new.spec in
    let old = c.loop-item.all.items in
    let xs = c.in_ok-xs.xs.items in
    let made = c.in_ok-xs.ensures.made in
    let items : c.append.new.self.items ≡ old ++ xs = c.in_ok-append.ensures.items in
    let all = c.libs-item-items.ensures in
    let within : i < length c.libs-item-items.result.now = omega (arith, c.loop-item-test.true) in
    let inside = subst (λ (ys : List LibItem). i < length ys) all within in
    let is = c.item-item.is ∙ ap (λ (ys : List LibItem). get_or ys i x) all in
    record {
      number = counted_on source.libs i x c.loop-item.number c.buffers-number.result 262145 inside is c.buffers-number.ensures.value l.number;
      b = counted_on source.libs i x c.loop-item.b c.buffers-b.result 266240 inside is c.buffers-b.ensures.value l.b;
      made = subst (λ (ys : List StreamItem). MakesStreams c.args.spec.now t ys (map (stream_tree t) ys)) (sym items) (streams_more _ _ _ _ _ _ _ l.made made);
      lowered = still_lowered source c.loop-item.spec t c.args.news.now made.grows l.lowered;
      same = subst (λ (ys : List StreamItem). AreBuffers source t ys (i + 1) (c.loop-item.number + c.buffers-number.result) (c.loop-item.b + c.buffers-b.result)) (sym items)
          (buffers_more source c.loop-item.spec t c.args.news.now old xs i c.loop-item.number c.loop-item.b c.buffers-number.result c.buffers-b.result x
          l.lowered (args_at (length c.args.news.now) source.libs i x c.requires.below inside is) inside is c.buffers-number.ensures.value c.buffers-b.ensures.value
          l.made.there made l.same);
    }
