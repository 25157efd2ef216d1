use Rattle.std.proofs.Common.{◌+◌, sym, ap, ◌∙◌}
use Rattle.migration.specs.Migration.{is_misused}
use Rattle.migration.proofs.Listed.{first_here, first_later}
use Rattle.migration.proofs.misuse.misused.Goals as goal

pub returns-then-is_misused : goal.returns-then-is_misused
returns-then-is_misused c =
    first_here (is_misused c.args.unit.now) c.args.unit.now.rings c.as_slice-r-items.result.now (c.loop-r.number + 1) c.loop-r.r-index c.r-item.result
    c.as_slice-r-items.ensures c.loop-r-test.true c.r-item.is (sym c.is_misused.ensures ∙ c.if-is_misused.true) c.loop-r.invariant.rest

pub loop-r-preserved : goal.loop-r-preserved
loop-r-preserved c = record {
  counted = ap (λ n. n + 1) c.loop-r.invariant.counted;
  rest = first_later (is_misused c.args.unit.now) c.args.unit.now.rings c.as_slice-r-items.result.now (c.loop-r.number + 1) c.loop-r.r-index c.r-item.result
      c.as_slice-r-items.ensures c.loop-r-test.true c.r-item.is (sym c.is_misused.ensures ∙ c.if-is_misused.false) c.loop-r.invariant.rest;
}
