use Rattle.std.proofs.Common.{◌≡◌, ℕ, ◌+◌, ◌≤◌, length, sym, ap, ◌∙◌, subst, arith}
use Rattle.stream_core.specs.Term.{trees}
use Rattle.stream_core.specs.Lower.{lowered_spec}
use Rattle.stream_interp.specs.Standing.{StandsFor}
use Rattle.demo.specs.Demonstration.{demo_spec}
use Rattle.demo.specs.Figures.{calls_below, empty_rows}
use Rattle.demo.proofs.Counted.{few_events, never_fails, next_count, no_words, rows_more}
use Rattle.demo.proofs.run.count.Goals as goal

pub step-requires : goal.step-requires
step-requires g c = record { row = no_words c.args.streams c.loop-n.monitor.spec (ap trees c.loop-n.invariant.spec ∙ c.requires.plain) }

pub unreachable-requires : goal.unreachable-requires
unreachable-requires g c =
    let is : trees c.loop-n.monitor.spec ≡ lowered_spec (demo_spec c.args.streams) = ap trees c.loop-n.invariant.spec ∙ c.requires.plain in
    never_fails c.args.streams c.loop-n.monitor.spec is c.loop-n.n c.in-Err.field-0 c.requires.streams (c.in-Err.ensures.err (empty_rows c.loop-n.n) c.loop-n.invariant.stands)

pub loop-n-preserved : goal.loop-n-preserved
loop-n-preserved g c =
    let is : trees c.loop-n.monitor.spec ≡ lowered_spec (demo_spec c.args.streams) = ap trees c.loop-n.invariant.spec ∙ c.requires.plain in
    let went = c.in-Ok.ensures.ok (empty_rows c.loop-n.n) c.loop-n.invariant.stands in
    let len : c.len.result ≡ length c.step.new.self.events = c.len.ensures ∙ ap length c.events.ensures in
    let few : length c.step.new.self.events ≤ 1000 = few_events c.args.streams c.loop-n.monitor.spec is c.args.steps c.loop-n.n c.requires.streams c.loop-n-test.true c.step.new.self.events went.1 in
    let next : calls_below c.args.streams c.args.steps (c.loop-n.n + 1) ≡ calls_below c.args.streams c.args.steps c.loop-n.n + length c.step.new.self.events =
    next_count c.args.streams c.loop-n.monitor.spec is c.args.steps c.loop-n.n c.requires.streams c.loop-n-test.true c.step.new.self.events went.1 in
    let sofar : c.loop-n.events ≡ calls_below c.args.streams c.args.steps c.loop-n.n = c.loop-n.invariant.counted in
    record {
      spec = c.in-Ok.ensures.spec ∙ c.loop-n.invariant.spec;
      stands = subst (StandsFor c.step.new.self) (rows_more c.loop-n.n) went.0;
      within = omega (arith, c.loop-n-test.true);
      few = omega (arith, few, len, c.loop-n.invariant.few);
      counted = ap (λ (a : ℕ). a + c.len.result) sofar ∙ ap (λ (b : ℕ). calls_below c.args.streams c.args.steps c.loop-n.n + b) len ∙ sym next;
    }
