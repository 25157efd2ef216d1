use Rattle.std.proofs.Common.{◌<◌, ◌+◌, length, List, ℕ, subst, sym, arith}
use Rattle.std.specs.Prelude.{slice_index_or}
use Rattle.stream_core.specs.Term.{bin}
use Rattle.stream_core.specs.Lower.{tests}
use Rattle.stream_lib.specs.Built.{MakesAll, tree_at}
use Rattle.stream_lib.proofs.WindowSamples.{tests_makes, tests_skip}
use Rattle.stream_lib.proofs.windows.tests_of.Goals as goal

pub loop-j-preserved-then-j-i : goal.loop-j-preserved-then-j-i
loop-j-preserved-then-j-i c =
    let l = c.loop-j.invariant in
    record {
      made = subst (MakesAll c.args.spec.now c.loop-j.spec c.loop-j.ids.items) (tests_skip (bin c.args.op c.args.s) (λ k. tree_at c.args.spec.now (slice_index_or c.args.samples.now k 0)) c.args.i c.loop-j.j c.if-j-i.true) l.made;
      size = l.size;
    }

pub loop-j-preserved : goal.loop-j-preserved
loop-j-preserved c =
    let l = c.loop-j.invariant in
    let m = c.in_ok-put.ensures.made in
    let within : c.loop-j.j < length c.args.samples.now = omega (arith, c.loop-j-test.true) in
    record {
      made = subst
          (λ (is : List ℕ). MakesAll c.args.spec.now c.put.new.spec is (tests (bin c.args.op c.args.s) (λ k. tree_at c.args.spec.now (slice_index_or c.args.samples.now k 0)) c.args.i 0 (c.loop-j.j + 1)))
          (sym c.in_ok-push.ensures.items)
          (tests_makes (bin c.args.op c.args.s) c.args.spec.now c.loop-j.spec c.put.new.spec c.args.samples.now c.loop-j.ids.items c.args.i c.loop-j.j c.index-samples-i.result c.index-samples-j.result c.in_ok-put.field-0 c.requires.there c.requires.within within c.if-j-i.false c.index-samples-i.is c.index-samples-j.is l.made m);
      size = let a = l.size in let b = m.grows.size in omega (arith, a, b);
    }
