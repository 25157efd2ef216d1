use Rattle.std.proofs.Common.{◌≡◌, ◌+◌, ◌-◌, ◌++◌, [], length, suc, ◌∙◌, arith}
use Rattle.c99_tree.specs.Spelling.{constant}
use Rattle.sm_print.proofs.Printing.{◌⨾◌, Prints-none, Prints-is}
use Rattle.c99_print.proofs.Giving.{values_start, values_step, values_end, ring-given}
use Rattle.c99_print.proofs.Commas.{constants-with_commas}
use Rattle.c99_print.proofs.constants.first_values.Goals as goal

pub loop-i-init : goal.loop-i-init
loop-i-init g c = λ vs e. ([], Prints-none _, rw c.as_slice-left.ensures (values_start (c.args.r.now.len - 0) c.args.r.now.len (length c.args.types.now + 1) c.args.types.now c.args.r.now.ty c.args.r.now.init (vs, []) (omega arith) (ring-given c.args.types.now c.args.r.now vs e)))

pub loop-i-preserved : goal.loop-i-preserved
loop-i-preserved g c =
    let one : c.args.r.now.len - c.loop-i.i ≡ suc (c.args.r.now.len - (c.loop-i.i + 1)) = omega arith in
    λ vs e.
    let k = c.loop-i.invariant vs e in
    let s = values_step (c.args.r.now.len - c.loop-i.i) (c.args.r.now.len - (c.loop-i.i + 1)) (length c.args.types.now + 1) c.args.types.now c.args.r.now.ty c.loop-i.left.now c.loop-i.before.now k.0 (vs, []) one k.2 in (
      k.0 ++ c.loop-i.before.now ++ constant s.0.0,
      k.1 ⨾ c.put.ensures ⨾ (c.constant-rest.ensures s.0 s.1).0,
      rw ((c.constant-rest.ensures s.0 s.1).1) s.2,
    )

pub returns : goal.returns
returns g c =
    let none : c.args.r.now.len - c.loop-i.i ≡ 0 = omega arith in
    λ vs e.
    let k = c.loop-i.invariant vs e in
    Prints-is ((values_end (c.args.r.now.len - c.loop-i.i) (length c.args.types.now + 1) c.args.types.now c.args.r.now.ty c.loop-i.left.now c.loop-i.before.now k.0 (vs, []) none k.2).0 ∙ constants-with_commas vs) k.1
