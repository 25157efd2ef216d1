use Rattle.std.proofs.Common.{arith, ◌≡◌, ◌<◌, ℕ, List, Some, refl, sym, ap}
use Rattle.std.proofs.lemmas.Result.{err_from_is_err_and}
use Rattle.c99_tree.specs.declared.types.CTy.TheVariants as ty
use Rattle.c99_read.specs.WordsAt.{words_at, word_at}
use Rattle.c99_read.proofs.WordsGo.{no_depth, scalar_shape, after_fail}
use Rattle.c99_read.proofs.values.scalar_words.Goals as goal

pub returns-then-depth-eq0 : goal.returns-then-depth-eq0
returns-then-depth-eq0 c =
    let none : c.args.depth ≡ 0 = omega arith in
    rw (no_depth c.args.depth c.args.types.now (ty.Scalar c.args.t) none) refl

pub returns-in_err-w : goal.returns-in_err-w
unfolding words_at
returns-in_err-w c =
    let deep : 0 < c.args.depth = omega arith in
    let failed = after_fail c.in_err-w.field-0.0 c.args.given (word_at c.args.most c.args.t c.args.bytes.now) c.in_err-w.ensures in
    let p = err_from_is_err_and c.from_residual.result c.from_residual.ensures.1 in
    rw p.1 (rw p.2 (rw (scalar_shape c.args.depth c.args.types.now c.args.t deep) failed))

pub returns : goal.returns
unfolding words_at
returns c =
    let deep : 0 < c.args.depth = omega arith in
    rw (scalar_shape c.args.depth c.args.types.now c.args.t deep, c.in_ok-w.ensures) (ap (λ (xs : List ℕ). Some (xs, c.in_ok-w.rest.now)) (sym c.in_ok-push.ensures.ok))
