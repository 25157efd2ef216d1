use Rattle.std.proofs.Common.{◌≡◌, ◌-◌, ℕ, List, length, take, drop, ap, ◌∙◌, subst, arith}
use Rattle.sm_io.specs.Known.{after_known}
use Rattle.sm_io.proofs.WrittenParts.{after_more}
use Rattle.row_sessions.proofs.gather.Gather.flush.Goals as goal

pub loop-done-preserved : goal.loop-done-preserved
loop-done-preserved g c =
    let same = c.deref.ensures.value in
    record {
      within = omega (arith, c.in-Ok.ensures.bound, ap (λ (xs : List ℕ). length xs) same);
      taken = after_more (g.K.Sink.taken c.args.out.now) (g.K.Sink.taken c.loop-done.out) (g.K.Sink.taken c.write.new.self) c.loop-done.done c.in-Ok.count c.args.self.now.bytes.items c.loop-done.invariant.taken
          (subst (λ (xs : List ℕ). g.K.Sink.taken c.write.new.self ≡ after_known (g.K.Sink.taken c.loop-done.out) (take c.in-Ok.count (take (length xs - c.loop-done.done) (drop c.loop-done.done xs)))) same c.in-Ok.ensures.bytes);
      steady = c.in-Ok.ensures.cause.steady ∙ c.loop-done.invariant.steady;
    }
