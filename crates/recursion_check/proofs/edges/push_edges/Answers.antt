use Rattle.std.proofs.Common.{◌≡◌, ◌+◌, ◌-◌, ◌<◌, ◌++◌, [], ◌∷◌, length, map, Some, refl, ◌∙◌, sym, ap, subst, arith}
use Rattle.std.specs.Prelude.{slice_get, OnOk}
use Rattle.std.proofs.lemmas.Option.{slice_get_read}
use Rattle.stream_core.proofs.Cycles.{exprs_there}
use Rattle.recursion_check.specs.Graph.{node_next}
use Rattle.recursion_check.specs.Walked.{edge}
use Rattle.recursion_check.proofs.Places.{next_def, next_node}
use Rattle.recursion_check.proofs.edges.push_edges.Goals as goal

pub overflow_add-defs : goal.overflow_add-defs
overflow_add-defs c =
    let s = c.args.spec.now in
    let v = c.args.v in
    let x = c.index-defs-v.result in
    let e : slice_get s.defs v ≡ Some x = ap (λ xs. slice_get xs v) (sym c.defs-defs.ensures) ∙ slice_get_read c.defs-defs.result.now (length c.defs-defs.result.now) v x refl c.if-v-defs.true c.index-defs-v.is in
    let b : x.expr < length s.nodes = exprs_there s c.requires.typed v x e in
    omega (arith, b, c.expr.view_is, c.expr_of-expr.ensures, ap length c.defs-defs.ensures, c.requires.room)

pub returns-then-v-defs : goal.returns-then-v-defs
returns-then-v-defs c =
    let s = c.args.spec.now in
    let v = c.args.v in
    let x = c.index-defs-v.result in
    let e : slice_get s.defs v ≡ Some x = ap (λ xs. slice_get xs v) (sym c.defs-defs.ensures) ∙ slice_get_read c.defs-defs.result.now (length c.defs-defs.result.now) v x refl c.if-v-defs.true c.index-defs-v.is in
    let same : length c.defs-defs.result.now + c.expr.inside.0 ≡ length s.defs + x.expr = omega (arith, c.expr.view_is, c.expr_of-expr.ensures, ap length c.defs-defs.ensures) in
    c.in_ok-push.ensures.items
    ∙ ap (λ k. c.args.todo.now.items ++ edge c.args.from k ∷ []) same
    ∙ ap (λ ys. c.args.todo.now.items ++ map (edge c.args.from) ys) (sym (next_def s v x e))

pub returns : goal.returns
returns c =
    let s = c.args.spec.now in
    let v = c.args.v in
    let l = ap length c.defs-defs.ensures in
    let is = ap (λ n. node_next s (slice_get s.nodes (v - n))) l ∙ sym (next_node s v (omega (arith, c.if-v-defs.false, l))) in
    subst (λ ys. OnOk c.push_node.result (c.push_node.new.todo.items ≡ c.args.todo.now.items ++ map (edge c.args.from) ys)) is c.push_node.ensures
