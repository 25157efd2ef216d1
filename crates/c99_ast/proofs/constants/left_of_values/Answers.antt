use Rattle.std.proofs.Common.{◌≡◌, ◌+◌, ◌-◌, suc, sym, ◌∙◌, arith}
use Rattle.c99_tree.specs.Values.{shape_of}
use Rattle.c99_ast.proofs.Filled.{left-one_more, left-none_more}
use Rattle.c99_ast.proofs.constants.left_of_values.Goals as goal

pub returns-in-None : goal.returns-in-None
returns-in-None c =
    let one : c.args.len - c.loop-i.i ≡ suc (c.args.len - (c.loop-i.i + 1)) = omega arith in
    sym c.loop-i.invariant ∙ left-none_more 8192 (c.args.len - c.loop-i.i) (c.args.len - (c.loop-i.i + 1)) (shape_of c.args.types.now c.args.ty.now) c.loop-i.left.now one c.in-None.ensures

pub loop-i-preserved : goal.loop-i-preserved
loop-i-preserved c =
    let one : c.args.len - c.loop-i.i ≡ suc (c.args.len - (c.loop-i.i + 1)) = omega arith in
    sym (left-one_more 8192 (c.args.len - c.loop-i.i) (c.args.len - (c.loop-i.i + 1)) (shape_of c.args.types.now c.args.ty.now) c.loop-i.left.now c.in-Some.rest.now one c.in-Some.ensures) ∙ c.loop-i.invariant
