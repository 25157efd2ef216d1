use Rattle.std.proofs.Common.{◌≡◌, ◌+◌, take, arith, true, false, List, [], ◌∷◌, map, refl, sym, ap, ◌∙◌, subst}
use Rattle.std.specs.Prelude.{◌&&◌, is_some, Option, Some, None, Err}
use Rattle.std.specs.Option.{option_map}
use Rattle.std.specs.Global.{Vec}
use Rattle.std.proofs.lemmas.Bool.Decides.{nat_tests}
use Rattle.std.proofs.lemmas.Result.{err_from_is_err_and}
use Rattle.spec_text.specs.declared.surface.Expr.TheOpen.{Expr-F}
use Rattle.type_check.specs.declared.known.Known.{Known}
use Rattle.type_check.specs.NamedType.{scalar, bool, struct_in}
use Rattle.type_check.specs.Judged.{Judged, has, type_of, types_of, on_votes, on_items, on_record, judge_expr, expr_step, on_one, on_two, on_shift, on_truths, on_integer, on_index, on_choice, on_cast, judge_form}
use Rattle.spec_text.specs.FoldRows.{expr-Abs, expr-Agreed, expr-And, expr-Array, expr-Bin, expr-Cast, expr-Clock, expr-Drop, expr-Field, expr-Historically, expr-HistoricallyIn, expr-If, expr-Implies, expr-Index, expr-Lit, expr-Majority, expr-Name, expr-Once, expr-OnceIn, expr-Or, expr-Record, expr-Shift, expr-Sign, expr-Since, expr-SinceIn, expr-Un, expr-WeaklyYesterday, expr-WindowMax, expr-WindowMin, expr-WindowSum, expr-Yesterday}
use Rattle.type_check.specs.Standing.{IsTyped, Gives, AreParts, AllMean, all_known, is_type}
use Rattle.type_check.proofs.Nodes.{parts_none, first_fault, second_fault, taken_parts, whole_parts, failed_part, all_are, none_all, parts_one, parts_two, parts_three, parts_typed, parts_untyped, typed_means, typed_none}
use Rattle.type_check.proofs.Members.{part_none, items_words}
use Rattle.type_check.proofs.expressions.+expressions.Goals as goal

pub expr-returns-in-Lit : goal.expr-returns-in-Lit
unfolding judge_expr
expr-returns-in-Lit t c = λ names s h.
    let n = c.args.scope.now.closed in
    let o = c.args.order.now in
    let e : expr_step s (Expr-F.Lit c.in-Lit.at c.in-Lit.scalar c.in-Lit.word) ≡ judge_expr s c.args.e.now = rw (c.in-Lit.is, expr-Lit) in
    subst (λ (x : Judged). Gives names n o c.node.new.order x c.node.result) e (c.node.ensures names o [] (has (scalar c.in-Lit.scalar)) h.distinct (typed_none names n o) (is_type (record { is = refl })))

pub expr-returns-in-Name : goal.expr-returns-in-Name
unfolding judge_expr
expr-returns-in-Name t c = λ names s h.
    let n = c.args.scope.now.closed in
    let o = c.args.order.now in
    let e : expr_step s (Expr-F.Name c.in-Name.x) ≡ judge_expr s c.args.e.now = rw (c.in-Name.is, expr-Name) in
    subst (λ (x : Judged). Gives names n o c.name.new.order x c.name.result) e (c.name.ensures names s h)

pub expr-returns-in-Drop : goal.expr-returns-in-Drop
unfolding judge_expr
expr-returns-in-Drop t c = λ names s h.
    let n = c.args.scope.now.closed in
    let o = c.args.order.now in
    let e : expr_step s (Expr-F.Drop c.in-Drop.at c.in-Drop.k c.in-Drop.name) ≡ judge_expr s c.args.e.now = rw (c.in-Drop.is, expr-Drop) in
    subst (λ (x : Judged). Gives names n o c.drop_of.new.order x c.drop_of.result) e (c.drop_of.ensures names s h)

pub expr-returns-in-Un : goal.expr-returns-in-Un
unfolding judge_expr
expr-returns-in-Un t c = λ names s h.
    let n = c.args.scope.now.closed in
    let o = c.args.order.now in
    let e : expr_step s (Expr-F.Un c.in-Un.at c.in-Un.op (judge_expr s c.get.result.now)) ≡ judge_expr s c.args.e.now = rw (c.get.ensures, c.in-Un.is, expr-Un) in
    subst (λ (x : Judged). Gives names n o c.unary.new.order x c.unary.result) e (c.unary.ensures names s h)

pub expr-returns-in_ok-a-in-Bin : goal.expr-returns-in_ok-a-in-Bin
unfolding judge_expr
expr-returns-in_ok-a-in-Bin t c = λ names s h.
    let n = c.args.scope.now.closed in
    let o = c.args.order.now in
    let e : expr_step s (Expr-F.Bin c.in-Bin.at c.in-Bin.op (judge_expr s c.get-in-Bin.result.now) (judge_expr s c.get-in-Bin-2.result.now)) ≡ judge_expr s c.args.e.now = rw (c.get-in-Bin.ensures, c.get-in-Bin-2.ensures, c.in-Bin.is, expr-Bin) in
    subst (λ (x : Judged). Gives names n o c.binary.new.order x c.binary.result) e (c.binary.ensures names s o (judge_expr s c.get-in-Bin.result.now) h (c.in_ok-a-in-Bin.ensures names s h))

pub expr-returns-in_ok-a-in-Shift : goal.expr-returns-in_ok-a-in-Shift
unfolding judge_expr
expr-returns-in_ok-a-in-Shift t c = λ names s h.
    let n = c.args.scope.now.closed in
    let o = c.args.order.now in
    let e : expr_step s (Expr-F.Shift c.in-Shift.at c.in-Shift.dir (judge_expr s c.get-in-Shift.result.now) (judge_expr s c.get-in-Shift-2.result.now)) ≡ judge_expr s c.args.e.now = rw (c.get-in-Shift.ensures, c.get-in-Shift-2.ensures, c.in-Shift.is, expr-Shift) in
    subst (λ (x : Judged). Gives names n o c.shifted.new.order x c.shifted.result) e (c.shifted.ensures names s o (judge_expr s c.get-in-Shift.result.now) h (c.in_ok-a-in-Shift.ensures names s h))

pub expr-returns-in_ok-a-in-And : goal.expr-returns-in_ok-a-in-And
unfolding judge_expr
expr-returns-in_ok-a-in-And t c = λ names s h.
    let n = c.args.scope.now.closed in
    let o = c.args.order.now in
    let e : expr_step s (Expr-F.And c.in-And.at (judge_expr s c.get-in-And.result.now) (judge_expr s c.get-in-And-2.result.now)) ≡ judge_expr s c.args.e.now = rw (c.get-in-And.ensures, c.get-in-And-2.ensures, c.in-And.is, expr-And) in
    subst (λ (x : Judged). Gives names n o c.truths.new.order x c.truths.result) e (c.truths.ensures names s o (judge_expr s c.get-in-And.result.now) h (c.in_ok-a-in-And.ensures names s h))

pub expr-returns-in_ok-a-in-Or : goal.expr-returns-in_ok-a-in-Or
unfolding judge_expr
expr-returns-in_ok-a-in-Or t c = λ names s h.
    let n = c.args.scope.now.closed in
    let o = c.args.order.now in
    let e : expr_step s (Expr-F.Or c.in-Or.at (judge_expr s c.get-in-Or.result.now) (judge_expr s c.get-in-Or-2.result.now)) ≡ judge_expr s c.args.e.now = rw (c.get-in-Or.ensures, c.get-in-Or-2.ensures, c.in-Or.is, expr-Or) in
    subst (λ (x : Judged). Gives names n o c.truths-in-Or.new.order x c.truths-in-Or.result) e (c.truths-in-Or.ensures names s o (judge_expr s c.get-in-Or.result.now) h (c.in_ok-a-in-Or.ensures names s h))

pub expr-returns-in_ok-a-in-Implies : goal.expr-returns-in_ok-a-in-Implies
unfolding judge_expr
expr-returns-in_ok-a-in-Implies t c = λ names s h.
    let n = c.args.scope.now.closed in
    let o = c.args.order.now in
    let e : expr_step s (Expr-F.Implies c.in-Implies.at (judge_expr s c.get-in-Implies.result.now) (judge_expr s c.get-in-Implies-2.result.now)) ≡ judge_expr s c.args.e.now = rw (c.get-in-Implies.ensures, c.get-in-Implies-2.ensures, c.in-Implies.is, expr-Implies) in
    subst (λ (x : Judged). Gives names n o c.truths-in-Implies.new.order x c.truths-in-Implies.result) e (c.truths-in-Implies.ensures names s o (judge_expr s c.get-in-Implies.result.now) h (c.in_ok-a-in-Implies.ensures names s h))

pub expr-returns-in_ok-a-in-If : goal.expr-returns-in_ok-a-in-If
unfolding judge_expr
expr-returns-in_ok-a-in-If t c = λ names s h.
    let n = c.args.scope.now.closed in
    let o = c.args.order.now in
    let e : expr_step s (Expr-F.If c.in-If.at (judge_expr s c.get-in-If.result.now) (judge_expr s c.get-in-If-2.result.now) (judge_expr s c.get-in-If-3.result.now)) ≡ judge_expr s c.args.e.now = rw (c.get-in-If.ensures, c.get-in-If-2.ensures, c.get-in-If-3.ensures, c.in-If.is, expr-If) in
    subst (λ (x : Judged). Gives names n o c.choice.new.order x c.choice.result) e (c.choice.ensures names s o c.expr-in-If.new.order (judge_expr s c.get-in-If.result.now) (judge_expr s c.get-in-If-2.result.now) h (c.in_ok-c-in-If.ensures names s h) (c.in_ok-a-in-If.ensures names s h))

pub expr-returns-in-Cast : goal.expr-returns-in-Cast
unfolding judge_expr
expr-returns-in-Cast t c = λ names s h.
    let n = c.args.scope.now.closed in
    let o = c.args.order.now in
    let e : expr_step s (Expr-F.Cast c.in-Cast.at c.in-Cast.to (judge_expr s c.get-in-Cast.result.now)) ≡ judge_expr s c.args.e.now = rw (c.get-in-Cast.ensures, c.in-Cast.is, expr-Cast) in
    subst (λ (x : Judged). Gives names n o c.cast.new.order x c.cast.result) e (c.cast.ensures names s h)

pub expr-returns-in-Abs : goal.expr-returns-in-Abs
unfolding judge_expr
expr-returns-in-Abs t c = λ names s h.
    let n = c.args.scope.now.closed in
    let o = c.args.order.now in
    let e : expr_step s (Expr-F.Abs c.in-Abs.at (judge_expr s c.get-in-Abs.result.now)) ≡ judge_expr s c.args.e.now = rw (c.get-in-Abs.ensures, c.in-Abs.is, expr-Abs) in
    subst (λ (x : Judged). Gives names n o c.integer.new.order x c.integer.result) e (c.integer.ensures names s h)

pub expr-returns-in-Sign : goal.expr-returns-in-Sign
unfolding judge_expr
expr-returns-in-Sign t c = λ names s h.
    let n = c.args.scope.now.closed in
    let o = c.args.order.now in
    let e : expr_step s (Expr-F.Sign c.in-Sign.at (judge_expr s c.get-in-Sign.result.now)) ≡ judge_expr s c.args.e.now = rw (c.get-in-Sign.ensures, c.in-Sign.is, expr-Sign) in
    subst (λ (x : Judged). Gives names n o c.integer-in-Sign.new.order x c.integer-in-Sign.result) e (c.integer-in-Sign.ensures names s h)

pub expr-returns-in_ok-a-in-Index : goal.expr-returns-in_ok-a-in-Index
unfolding judge_expr
expr-returns-in_ok-a-in-Index t c = λ names s h.
    let n = c.args.scope.now.closed in
    let o = c.args.order.now in
    let e : expr_step s (Expr-F.Index c.in-Index.at (judge_expr s c.get-in-Index.result.now) (judge_expr s c.get-in-Index-2.result.now)) ≡ judge_expr s c.args.e.now = rw (c.get-in-Index.ensures, c.get-in-Index-2.ensures, c.in-Index.is, expr-Index) in
    subst (λ (x : Judged). Gives names n o c.index.new.order x c.index.result) e (c.index.ensures names s o (judge_expr s c.get-in-Index.result.now) h (c.in_ok-a-in-Index.ensures names s h))

pub expr-returns-in-Field : goal.expr-returns-in-Field
unfolding judge_expr
expr-returns-in-Field t c = λ names s h.
    let n = c.args.scope.now.closed in
    let o = c.args.order.now in
    let e : expr_step s (Expr-F.Field c.in-Field.at (judge_expr s c.get-in-Field.result.now) c.in-Field.member) ≡ judge_expr s c.args.e.now = rw (c.get-in-Field.ensures, c.in-Field.is, expr-Field) in
    subst (λ (x : Judged). Gives names n o c.field.new.order x c.field.result) e (c.field.ensures names s h)

pub expr-returns-in-Array : goal.expr-returns-in-Array
unfolding judge_expr
expr-returns-in-Array t c = λ names s h.
    let n = c.args.scope.now.closed in
    let o = c.args.order.now in
    let e : expr_step s (Expr-F.Array c.in-Array.at (map (judge_expr s) c.as_slice.result.now)) ≡ judge_expr s c.args.e.now = rw (c.as_slice.ensures, c.in-Array.is, expr-Array) in
    subst (λ (x : Judged). Gives names n o c.array.new.order x c.array.result) e (c.array.ensures names s h)

pub expr-returns-in-Record : goal.expr-returns-in-Record
unfolding judge_expr
expr-returns-in-Record t c = λ names s h.
    let n = c.args.scope.now.closed in
    let o = c.args.order.now in
    let e : expr_step s (Expr-F.Record c.in-Record.at c.in-Record.name (map (judge_expr s) c.as_slice-in-Record.result.now)) ≡ judge_expr s c.args.e.now = rw (c.as_slice-in-Record.ensures, c.in-Record.is, expr-Record) in
    subst (λ (x : Judged). Gives names n o c.record.new.order x c.record.result) e (c.record.ensures names s h)

pub expr-returns-in-Once : goal.expr-returns-in-Once
unfolding judge_expr
expr-returns-in-Once t c = λ names s h.
    let n = c.args.scope.now.closed in
    let o = c.args.order.now in
    let e : expr_step s (Expr-F.Once c.in-Once.at (judge_expr s c.get-in-Once.result.now)) ≡ judge_expr s c.args.e.now = rw (c.get-in-Once.ensures, c.in-Once.is, expr-Once) in
    subst (λ (x : Judged). Gives names n o c.truth.new.order x c.truth.result) e (c.truth.ensures names s h)

pub expr-returns-in-Historically : goal.expr-returns-in-Historically
unfolding judge_expr
expr-returns-in-Historically t c = λ names s h.
    let n = c.args.scope.now.closed in
    let o = c.args.order.now in
    let e : expr_step s (Expr-F.Historically c.in-Historically.at (judge_expr s c.get-in-Historically.result.now)) ≡ judge_expr s c.args.e.now = rw (c.get-in-Historically.ensures, c.in-Historically.is, expr-Historically) in
    subst (λ (x : Judged). Gives names n o c.truth-in-Historically.new.order x c.truth-in-Historically.result) e (c.truth-in-Historically.ensures names s h)

pub expr-returns-in-Yesterday : goal.expr-returns-in-Yesterday
unfolding judge_expr
expr-returns-in-Yesterday t c = λ names s h.
    let n = c.args.scope.now.closed in
    let o = c.args.order.now in
    let e : expr_step s (Expr-F.Yesterday c.in-Yesterday.at (judge_expr s c.get-in-Yesterday.result.now)) ≡ judge_expr s c.args.e.now = rw (c.get-in-Yesterday.ensures, c.in-Yesterday.is, expr-Yesterday) in
    subst (λ (x : Judged). Gives names n o c.truth-in-Yesterday.new.order x c.truth-in-Yesterday.result) e (c.truth-in-Yesterday.ensures names s h)

pub expr-returns-in-WeaklyYesterday : goal.expr-returns-in-WeaklyYesterday
unfolding judge_expr
expr-returns-in-WeaklyYesterday t c = λ names s h.
    let n = c.args.scope.now.closed in
    let o = c.args.order.now in
    let e : expr_step s (Expr-F.WeaklyYesterday c.in-WeaklyYesterday.at (judge_expr s c.get-in-WeaklyYesterday.result.now)) ≡ judge_expr s c.args.e.now = rw (c.get-in-WeaklyYesterday.ensures, c.in-WeaklyYesterday.is, expr-WeaklyYesterday) in
    subst (λ (x : Judged). Gives names n o c.truth-in-WeaklyYesterday.new.order x c.truth-in-WeaklyYesterday.result) e (c.truth-in-WeaklyYesterday.ensures names s h)

pub expr-returns-in_ok-p-in-Since : goal.expr-returns-in_ok-p-in-Since
unfolding judge_expr
expr-returns-in_ok-p-in-Since t c = λ names s h.
    let n = c.args.scope.now.closed in
    let o = c.args.order.now in
    let e : expr_step s (Expr-F.Since c.in-Since.at (judge_expr s c.get-in-Since.result.now) (judge_expr s c.get-in-Since-2.result.now)) ≡ judge_expr s c.args.e.now = rw (c.get-in-Since.ensures, c.get-in-Since-2.ensures, c.in-Since.is, expr-Since) in
    subst (λ (x : Judged). Gives names n o c.truths-in-Since.new.order x c.truths-in-Since.result) e (c.truths-in-Since.ensures names s o (judge_expr s c.get-in-Since.result.now) h (c.in_ok-p-in-Since.ensures names s h))

pub expr-returns-in-OnceIn : goal.expr-returns-in-OnceIn
unfolding judge_expr
expr-returns-in-OnceIn t c = λ names s h.
    let n = c.args.scope.now.closed in
    let o = c.args.order.now in
    let e : expr_step s (Expr-F.OnceIn c.in-OnceIn.at c.in-OnceIn.low c.in-OnceIn.high (judge_expr s c.get-in-OnceIn.result.now)) ≡ judge_expr s c.args.e.now = rw (c.get-in-OnceIn.ensures, c.in-OnceIn.is, expr-OnceIn) in
    subst (λ (x : Judged). Gives names n o c.truth-in-OnceIn.new.order x c.truth-in-OnceIn.result) e (c.truth-in-OnceIn.ensures names s h)

pub expr-returns-in-HistoricallyIn : goal.expr-returns-in-HistoricallyIn
unfolding judge_expr
expr-returns-in-HistoricallyIn t c = λ names s h.
    let n = c.args.scope.now.closed in
    let o = c.args.order.now in
    let e : expr_step s (Expr-F.HistoricallyIn c.in-HistoricallyIn.at c.in-HistoricallyIn.low c.in-HistoricallyIn.high (judge_expr s c.get-in-HistoricallyIn.result.now)) ≡ judge_expr s c.args.e.now = rw (c.get-in-HistoricallyIn.ensures, c.in-HistoricallyIn.is, expr-HistoricallyIn) in
    subst (λ (x : Judged). Gives names n o c.truth-in-HistoricallyIn.new.order x c.truth-in-HistoricallyIn.result) e (c.truth-in-HistoricallyIn.ensures names s h)

pub expr-returns-in_ok-p-in-SinceIn : goal.expr-returns-in_ok-p-in-SinceIn
unfolding judge_expr
expr-returns-in_ok-p-in-SinceIn t c = λ names s h.
    let n = c.args.scope.now.closed in
    let o = c.args.order.now in
    let e : expr_step s (Expr-F.SinceIn c.in-SinceIn.at c.in-SinceIn.low c.in-SinceIn.high (judge_expr s c.get-in-SinceIn.result.now) (judge_expr s c.get-in-SinceIn-2.result.now)) ≡ judge_expr s c.args.e.now = rw (c.get-in-SinceIn.ensures, c.get-in-SinceIn-2.ensures, c.in-SinceIn.is, expr-SinceIn) in
    subst (λ (x : Judged). Gives names n o c.truths-in-SinceIn.new.order x c.truths-in-SinceIn.result) e (c.truths-in-SinceIn.ensures names s o (judge_expr s c.get-in-SinceIn.result.now) h (c.in_ok-p-in-SinceIn.ensures names s h))

pub expr-returns-in-Clock : goal.expr-returns-in-Clock
unfolding judge_expr
expr-returns-in-Clock t c = λ names s h.
    let n = c.args.scope.now.closed in
    let o = c.args.order.now in
    let e : expr_step s (Expr-F.Clock c.in-Clock.at c.in-Clock.period c.in-Clock.phase) ≡ judge_expr s c.args.e.now = rw (c.in-Clock.is, expr-Clock) in
    subst (λ (x : Judged). Gives names n o c.node-in-Clock.new.order x c.node-in-Clock.result) e (c.node-in-Clock.ensures names o [] (has (bool)) h.distinct (typed_none names n o) (is_type (record { is = refl })))

pub expr-returns-in-Majority : goal.expr-returns-in-Majority
unfolding judge_expr
expr-returns-in-Majority t c = λ names s h.
    let n = c.args.scope.now.closed in
    let o = c.args.order.now in
    let e : expr_step s (Expr-F.Majority c.in-Majority.at (map (judge_expr s) c.as_slice-in-Majority.result.now)) ≡ judge_expr s c.args.e.now = rw (c.as_slice-in-Majority.ensures, c.in-Majority.is, expr-Majority) in
    subst (λ (x : Judged). Gives names n o c.majority.new.order x c.majority.result) e (c.majority.ensures names s h)

pub expr-returns-in-Agreed : goal.expr-returns-in-Agreed
unfolding judge_expr
expr-returns-in-Agreed t c = λ names s h.
    let n = c.args.scope.now.closed in
    let o = c.args.order.now in
    let e : expr_step s (Expr-F.Agreed c.in-Agreed.at (map (judge_expr s) c.as_slice-in-Agreed.result.now)) ≡ judge_expr s c.args.e.now = rw (c.as_slice-in-Agreed.ensures, c.in-Agreed.is, expr-Agreed) in
    subst (λ (x : Judged). Gives names n o c.agreed.new.order x c.agreed.result) e (c.agreed.ensures names s h)

pub expr-returns-in-WindowMax : goal.expr-returns-in-WindowMax
unfolding judge_expr
expr-returns-in-WindowMax t c = λ names s h.
    let n = c.args.scope.now.closed in
    let o = c.args.order.now in
    let e : expr_step s (Expr-F.WindowMax c.in-WindowMax.at c.in-WindowMax.n (judge_expr s c.get-in-WindowMax.result.now)) ≡ judge_expr s c.args.e.now = rw (c.get-in-WindowMax.ensures, c.in-WindowMax.is, expr-WindowMax) in
    subst (λ (x : Judged). Gives names n o c.integer-in-WindowMax.new.order x c.integer-in-WindowMax.result) e (c.integer-in-WindowMax.ensures names s h)

pub expr-returns-in-WindowMin : goal.expr-returns-in-WindowMin
unfolding judge_expr
expr-returns-in-WindowMin t c = λ names s h.
    let n = c.args.scope.now.closed in
    let o = c.args.order.now in
    let e : expr_step s (Expr-F.WindowMin c.in-WindowMin.at c.in-WindowMin.n (judge_expr s c.get-in-WindowMin.result.now)) ≡ judge_expr s c.args.e.now = rw (c.get-in-WindowMin.ensures, c.in-WindowMin.is, expr-WindowMin) in
    subst (λ (x : Judged). Gives names n o c.integer-in-WindowMin.new.order x c.integer-in-WindowMin.result) e (c.integer-in-WindowMin.ensures names s h)

pub expr-returns-in-WindowSum : goal.expr-returns-in-WindowSum
unfolding judge_expr
expr-returns-in-WindowSum t c = λ names s h.
    let n = c.args.scope.now.closed in
    let o = c.args.order.now in
    let e : expr_step s (Expr-F.WindowSum c.in-WindowSum.at c.in-WindowSum.n (judge_expr s c.get-in-WindowSum.result.now)) ≡ judge_expr s c.args.e.now = rw (c.get-in-WindowSum.ensures, c.in-WindowSum.is, expr-WindowSum) in
    subst (λ (x : Judged). Gives names n o c.integer-in-WindowSum.new.order x c.integer-in-WindowSum.result) e (c.integer-in-WindowSum.ensures names s h)

pub unary-returns-in-Some : goal.unary-returns-in-Some
unary-returns-in-Some t c = λ names s h.
    let n = c.args.scope.now.closed in
    let o = c.args.order.now in
    let j = judge_expr s c.args.a.now in
    let u = subst (λ (k : Option Known). IsTyped names n o c.expr.new.order j k) c.in-Some.is (c.in_ok-a.ensures names s h) in
    c.node.ensures names o (j ∷ []) (on_one c.args.at c.args.op (type_of j)) h.distinct (parts_typed (parts_one u) refl) (c.on_one.ensures names (type_of j) (typed_means u))

pub unary-returns-in-None : goal.unary-returns-in-None
unary-returns-in-None t c = λ names s h.
    let n = c.args.scope.now.closed in
    let o = c.args.order.now in
    let j = judge_expr s c.args.a.now in
    let u = subst (λ (k : Option Known). IsTyped names n o c.expr.new.order j k) c.in-None.is (c.in_ok-a.ensures names s h) in
    parts_untyped (on_one c.args.at c.args.op (type_of j)) (parts_one u) refl

pub truth-returns-in-Some : goal.truth-returns-in-Some
truth-returns-in-Some t c = λ names s h.
    let n = c.args.scope.now.closed in
    let o = c.args.order.now in
    let j = judge_expr s c.args.p.now in
    let u = subst (λ (k : Option Known). IsTyped names n o c.expr.new.order j k) c.in-Some.is (c.in_ok-p.ensures names s h) in
    c.node.ensures names o (j ∷ []) (on_truths c.args.at (type_of j ∷ [])) h.distinct (parts_typed (parts_one u) refl) (c.on_truth.ensures names (type_of j) h.distinct (typed_means u))

pub truth-returns-in-None : goal.truth-returns-in-None
truth-returns-in-None t c = λ names s h.
    let n = c.args.scope.now.closed in
    let o = c.args.order.now in
    let j = judge_expr s c.args.p.now in
    let u = subst (λ (k : Option Known). IsTyped names n o c.expr.new.order j k) c.in-None.is (c.in_ok-p.ensures names s h) in
    parts_untyped (on_truths c.args.at (type_of j ∷ [])) (parts_one u) refl

pub integer-returns-in-Some : goal.integer-returns-in-Some
integer-returns-in-Some t c = λ names s h.
    let n = c.args.scope.now.closed in
    let o = c.args.order.now in
    let j = judge_expr s c.args.a.now in
    let u = subst (λ (k : Option Known). IsTyped names n o c.expr.new.order j k) c.in-Some.is (c.in_ok-a.ensures names s h) in
    c.node.ensures names o (j ∷ []) (on_integer c.args.at (type_of j)) h.distinct (parts_typed (parts_one u) refl) (c.on_integer.ensures names (type_of j) (typed_means u))

pub integer-returns-in-None : goal.integer-returns-in-None
integer-returns-in-None t c = λ names s h.
    let n = c.args.scope.now.closed in
    let o = c.args.order.now in
    let j = judge_expr s c.args.a.now in
    let u = subst (λ (k : Option Known). IsTyped names n o c.expr.new.order j k) c.in-None.is (c.in_ok-a.ensures names s h) in
    parts_untyped (on_integer c.args.at (type_of j)) (parts_one u) refl

pub binary-returns-in_default : goal.binary-returns-in_default
binary-returns-in_default t c = λ names s start j h r.
    let n = c.args.scope.now.closed in
    let l = judge_expr s c.args.b.now in
    let p = parts_two r (c.in_ok-b.ensures names s h) in
    parts_untyped (on_two c.args.at c.args.op (type_of j) (type_of l)) p (ap (λ (k : Option Known). is_some k && (is_some c.in_ok-b.b && true)) c.in_default.is)

pub binary-returns-in_default-b : goal.binary-returns-in_default-b
binary-returns-in_default-b t c = λ names s start j h r.
    let n = c.args.scope.now.closed in
    let l = judge_expr s c.args.b.now in
    let p = parts_two r (c.in_ok-b.ensures names s h) in
    parts_untyped (on_two c.args.at c.args.op (type_of j) (type_of l)) p (ap (λ (k : Option Known). is_some c.args.a && (is_some k && true)) c.in_default-b.is ∙ ap (λ (k : Option Known). is_some k && false) c.in-Some.is)

pub binary-returns : goal.binary-returns
binary-returns t c = λ names s start j h r.
    let n = c.args.scope.now.closed in
    let l = judge_expr s c.args.b.now in
    let u = subst (λ (k : Option Known). IsTyped names n start c.args.order.now j k) c.in-Some.is r in
    let v = subst (λ (k : Option Known). IsTyped names n c.args.order.now c.expr.new.order l k) c.in-Some-b.is (c.in_ok-b.ensures names s h) in
    c.node.ensures names start (j ∷ l ∷ []) (on_two c.args.at c.args.op (type_of j) (type_of l)) h.distinct (parts_typed (parts_two u v) refl) (c.on_two.ensures names (type_of j) (type_of l) h.distinct (typed_means u) (typed_means v))

pub shifted-returns-in_default : goal.shifted-returns-in_default
shifted-returns-in_default t c = λ names s start j h r.
    let n = c.args.scope.now.closed in
    let l = judge_expr s c.args.count.now in
    let p = parts_two r (c.in_ok-count.ensures names s h) in
    parts_untyped (on_shift c.args.at (type_of j) (type_of l)) p (ap (λ (k : Option Known). is_some k && (is_some c.in_ok-count.count && true)) c.in_default.is)

pub shifted-returns-in_default-count : goal.shifted-returns-in_default-count
shifted-returns-in_default-count t c = λ names s start j h r.
    let n = c.args.scope.now.closed in
    let l = judge_expr s c.args.count.now in
    let p = parts_two r (c.in_ok-count.ensures names s h) in
    parts_untyped (on_shift c.args.at (type_of j) (type_of l)) p (ap (λ (k : Option Known). is_some c.args.a && (is_some k && true)) c.in_default-count.is ∙ ap (λ (k : Option Known). is_some k && false) c.in-Some.is)

pub shifted-returns : goal.shifted-returns
shifted-returns t c = λ names s start j h r.
    let n = c.args.scope.now.closed in
    let l = judge_expr s c.args.count.now in
    let u = subst (λ (k : Option Known). IsTyped names n start c.args.order.now j k) c.in-Some.is r in
    let v = subst (λ (k : Option Known). IsTyped names n c.args.order.now c.expr.new.order l k) c.in-Some-count.is (c.in_ok-count.ensures names s h) in
    c.node.ensures names start (j ∷ l ∷ []) (on_shift c.args.at (type_of j) (type_of l)) h.distinct (parts_typed (parts_two u v) refl) (c.on_shift.ensures names (type_of j) (type_of l) (typed_means u) (typed_means v))

pub truths-returns-in_default : goal.truths-returns-in_default
truths-returns-in_default t c = λ names s start j h r.
    let n = c.args.scope.now.closed in
    let l = judge_expr s c.args.q.now in
    let p = parts_two r (c.in_ok-q.ensures names s h) in
    parts_untyped (on_truths c.args.at (type_of j ∷ type_of l ∷ [])) p (ap (λ (k : Option Known). is_some k && (is_some c.in_ok-q.q && true)) c.in_default.is)

pub truths-returns-in_default-q : goal.truths-returns-in_default-q
truths-returns-in_default-q t c = λ names s start j h r.
    let n = c.args.scope.now.closed in
    let l = judge_expr s c.args.q.now in
    let p = parts_two r (c.in_ok-q.ensures names s h) in
    parts_untyped (on_truths c.args.at (type_of j ∷ type_of l ∷ [])) p (ap (λ (k : Option Known). is_some c.args.p && (is_some k && true)) c.in_default-q.is ∙ ap (λ (k : Option Known). is_some k && false) c.in-Some.is)

pub truths-returns : goal.truths-returns
truths-returns t c = λ names s start j h r.
    let n = c.args.scope.now.closed in
    let l = judge_expr s c.args.q.now in
    let u = subst (λ (k : Option Known). IsTyped names n start c.args.order.now j k) c.in-Some.is r in
    let v = subst (λ (k : Option Known). IsTyped names n c.args.order.now c.expr.new.order l k) c.in-Some-q.is (c.in_ok-q.ensures names s h) in
    c.node.ensures names start (j ∷ l ∷ []) (on_truths c.args.at (type_of j ∷ type_of l ∷ [])) h.distinct (parts_typed (parts_two u v) refl) (c.on_truths.ensures names (type_of j) (type_of l) h.distinct (typed_means u) (typed_means v))

pub index-returns-in_default : goal.index-returns-in_default
index-returns-in_default t c = λ names s start j h r.
    let n = c.args.scope.now.closed in
    let l = judge_expr s c.args.i.now in
    let p = parts_two r (c.in_ok-i.ensures names s h) in
    parts_untyped (on_index c.args.at (type_of j) (type_of l)) p (ap (λ (k : Option Known). is_some k && (is_some c.in_ok-i.i && true)) c.in_default.is)

pub index-returns-in_default-i : goal.index-returns-in_default-i
index-returns-in_default-i t c = λ names s start j h r.
    let n = c.args.scope.now.closed in
    let l = judge_expr s c.args.i.now in
    let p = parts_two r (c.in_ok-i.ensures names s h) in
    parts_untyped (on_index c.args.at (type_of j) (type_of l)) p (ap (λ (k : Option Known). is_some c.args.a && (is_some k && true)) c.in_default-i.is ∙ ap (λ (k : Option Known). is_some k && false) c.in-Some.is)

pub index-returns : goal.index-returns
index-returns t c = λ names s start j h r.
    let n = c.args.scope.now.closed in
    let l = judge_expr s c.args.i.now in
    let u = subst (λ (k : Option Known). IsTyped names n start c.args.order.now j k) c.in-Some.is r in
    let v = subst (λ (k : Option Known). IsTyped names n c.args.order.now c.expr.new.order l k) c.in-Some-i.is (c.in_ok-i.ensures names s h) in
    c.node.ensures names start (j ∷ l ∷ []) (on_index c.args.at (type_of j) (type_of l)) h.distinct (parts_typed (parts_two u v) refl) (c.on_index.ensures names (type_of j) (type_of l) h.distinct (typed_means u) (typed_means v))

pub choice-returns-in_default : goal.choice-returns-in_default
choice-returns-in_default t c = λ names s start mid j l h r q.
    let m = judge_expr s c.args.b.now in
    let p = parts_three r q (c.in_ok-b.ensures names s h) in
    parts_untyped (on_choice c.args.at (type_of j) (type_of l) (type_of m)) p (ap (λ (k : Option Known). is_some k && (is_some c.args.a && (is_some c.in_ok-b.b && true))) c.in_default.is)

pub choice-returns-in_default-a : goal.choice-returns-in_default-a
choice-returns-in_default-a t c = λ names s start mid j l h r q.
    let m = judge_expr s c.args.b.now in
    let p = parts_three r q (c.in_ok-b.ensures names s h) in
    parts_untyped (on_choice c.args.at (type_of j) (type_of l) (type_of m)) p (ap (λ (k : Option Known). is_some c.args.c && (is_some k && (is_some c.in_ok-b.b && true))) c.in_default-a.is ∙ ap (λ (k : Option Known). is_some k && false) c.in-Some.is)

pub choice-returns-in_default-b : goal.choice-returns-in_default-b
choice-returns-in_default-b t c = λ names s start mid j l h r q.
    let m = judge_expr s c.args.b.now in
    let p = parts_three r q (c.in_ok-b.ensures names s h) in
    parts_untyped (on_choice c.args.at (type_of j) (type_of l) (type_of m)) p (ap (λ (k : Option Known). is_some c.args.c && (is_some c.args.a && (is_some k && true))) c.in_default-b.is
    ∙ ap (λ (k : Option Known). is_some c.args.c && (is_some k && false)) c.in-Some-a.is ∙ ap (λ (k : Option Known). is_some k && false) c.in-Some.is)

pub choice-returns : goal.choice-returns
choice-returns t c = λ names s start mid j l h r q.
    let n = c.args.scope.now.closed in
    let m = judge_expr s c.args.b.now in
    let u = subst (λ (k : Option Known). IsTyped names n start mid j k) c.in-Some.is r in
    let v = subst (λ (k : Option Known). IsTyped names n mid c.args.order.now l k) c.in-Some-a.is q in
    let w = subst (λ (k : Option Known). IsTyped names n c.args.order.now c.expr.new.order m k) c.in-Some-b.is (c.in_ok-b.ensures names s h) in
    c.node.ensures names start (j ∷ l ∷ m ∷ []) (on_choice c.args.at (type_of j) (type_of l) (type_of m)) h.distinct (parts_typed (parts_three u v w) refl) (c.on_choice.ensures names (type_of j) (type_of l) (type_of m) h.distinct (typed_means u) (typed_means v) (typed_means w))

pub cast-returns-in-Some : goal.cast-returns-in-Some
cast-returns-in-Some t c = λ names s h.
    let n = c.args.scope.now.closed in
    let o = c.args.order.now in
    let f = judge_form s.before c.args.to.now in
    let j = judge_expr s c.args.a.now in
    let r = c.in_ok-to.ensures names s.before h.distinct h.behind in
    let u = subst (λ (k : Option Known). IsTyped names n c.written.new.order c.expr.new.order j k) c.in-Some.is (c.in_ok-a.ensures names s h) in
    c.node.ensures names o (f ∷ j ∷ []) (on_cast c.args.at (type_of f) (type_of j)) h.distinct (parts_typed (parts_two r u) refl) (c.on_cast.ensures names (type_of f) (type_of j) (typed_means r) (typed_means u))

pub cast-returns-in-None : goal.cast-returns-in-None
cast-returns-in-None t c = λ names s h.
    let n = c.args.scope.now.closed in
    let f = judge_form s.before c.args.to.now in
    let j = judge_expr s c.args.a.now in
    let r = c.in_ok-to.ensures names s.before h.distinct h.behind in
    let u = subst (λ (k : Option Known). IsTyped names n c.written.new.order c.expr.new.order j k) c.in-None.is (c.in_ok-a.ensures names s h) in
    parts_untyped (on_cast c.args.at (type_of f) (type_of j)) (parts_two r u) refl

pub field-returns-in-Some : goal.field-returns-in-Some
field-returns-in-Some t c = λ names s h.
    let n = c.args.scope.now.closed in
    let o = c.args.order.now in
    let j = judge_expr s c.args.a.now in
    let u = subst (λ (k : Option Known). IsTyped names n o c.expr.new.order j k) c.in-Some.is (c.in_ok-a.ensures names s h) in
    c.member.ensures names s o j h u

pub field-returns-in-None : goal.field-returns-in-None
field-returns-in-None t c = λ names s h.
    let n = c.args.scope.now.closed in
    let o = c.args.order.now in
    let j = judge_expr s c.args.a.now in
    let u = subst (λ (k : Option Known). IsTyped names n o c.expr.new.order j k) c.in-None.is (c.in_ok-a.ensures names s h) in
    part_none names s.all n o c.expr.new.order c.args.at j c.args.x.now u

pub expr-returns-in_err-a-in-Bin : goal.expr-returns-in_err-a-in-Bin
unfolding judge_expr
expr-returns-in_err-a-in-Bin t c = λ names s h.
    let n = c.args.scope.now.closed in
    let o = c.args.order.now in
    let j = judge_expr s c.get-in-Bin.result.now in
    let m = judge_expr s c.in-Bin.b in
    let p = err_from_is_err_and c.from_residual.result c.from_residual.ensures.1 in
    let e : expr_step s (Expr-F.Bin c.in-Bin.at c.in-Bin.op j m) ≡ judge_expr s c.args.e.now = rw (c.get-in-Bin.ensures, c.in-Bin.is, expr-Bin) in
    rw p.1 (rw p.2 (subst (λ (x : Judged). Gives names n o c.expr.new.order x (Err c.in_err-a-in-Bin.field-0.0)) e
    (first_fault names n o c.expr.new.order o c.expr.new.order j (m ∷ []) _ c.in_err-a-in-Bin.field-0.0 (c.in_err-a-in-Bin.ensures names s h))))

pub expr-returns-in_err-a-in-Shift : goal.expr-returns-in_err-a-in-Shift
unfolding judge_expr
expr-returns-in_err-a-in-Shift t c = λ names s h.
    let n = c.args.scope.now.closed in
    let o = c.args.order.now in
    let j = judge_expr s c.get-in-Shift.result.now in
    let m = judge_expr s c.in-Shift.count in
    let p = err_from_is_err_and c.from_residual-in_err-a-in-Shift.result c.from_residual-in_err-a-in-Shift.ensures.1 in
    let e : expr_step s (Expr-F.Shift c.in-Shift.at c.in-Shift.dir j m) ≡ judge_expr s c.args.e.now = rw (c.get-in-Shift.ensures, c.in-Shift.is, expr-Shift) in
    rw p.1 (rw p.2 (subst (λ (x : Judged). Gives names n o c.expr-in-Shift.new.order x (Err c.in_err-a-in-Shift.field-0.0)) e
    (first_fault names n o c.expr-in-Shift.new.order o c.expr-in-Shift.new.order j (m ∷ []) _ c.in_err-a-in-Shift.field-0.0 (c.in_err-a-in-Shift.ensures names s h))))

pub expr-returns-in_err-a-in-And : goal.expr-returns-in_err-a-in-And
unfolding judge_expr
expr-returns-in_err-a-in-And t c = λ names s h.
    let n = c.args.scope.now.closed in
    let o = c.args.order.now in
    let j = judge_expr s c.get-in-And.result.now in
    let m = judge_expr s c.in-And.b in
    let p = err_from_is_err_and c.from_residual-in_err-a-in-And.result c.from_residual-in_err-a-in-And.ensures.1 in
    let e : expr_step s (Expr-F.And c.in-And.at j m) ≡ judge_expr s c.args.e.now = rw (c.get-in-And.ensures, c.in-And.is, expr-And) in
    rw p.1 (rw p.2 (subst (λ (x : Judged). Gives names n o c.expr-in-And.new.order x (Err c.in_err-a-in-And.field-0.0)) e
    (first_fault names n o c.expr-in-And.new.order o c.expr-in-And.new.order j (m ∷ []) _ c.in_err-a-in-And.field-0.0 (c.in_err-a-in-And.ensures names s h))))

pub expr-returns-in_err-a-in-Or : goal.expr-returns-in_err-a-in-Or
unfolding judge_expr
expr-returns-in_err-a-in-Or t c = λ names s h.
    let n = c.args.scope.now.closed in
    let o = c.args.order.now in
    let j = judge_expr s c.get-in-Or.result.now in
    let m = judge_expr s c.in-Or.b in
    let p = err_from_is_err_and c.from_residual-in_err-a-in-Or.result c.from_residual-in_err-a-in-Or.ensures.1 in
    let e : expr_step s (Expr-F.Or c.in-Or.at j m) ≡ judge_expr s c.args.e.now = rw (c.get-in-Or.ensures, c.in-Or.is, expr-Or) in
    rw p.1 (rw p.2 (subst (λ (x : Judged). Gives names n o c.expr-in-Or.new.order x (Err c.in_err-a-in-Or.field-0.0)) e
    (first_fault names n o c.expr-in-Or.new.order o c.expr-in-Or.new.order j (m ∷ []) _ c.in_err-a-in-Or.field-0.0 (c.in_err-a-in-Or.ensures names s h))))

pub expr-returns-in_err-a-in-Implies : goal.expr-returns-in_err-a-in-Implies
unfolding judge_expr
expr-returns-in_err-a-in-Implies t c = λ names s h.
    let n = c.args.scope.now.closed in
    let o = c.args.order.now in
    let j = judge_expr s c.get-in-Implies.result.now in
    let m = judge_expr s c.in-Implies.b in
    let p = err_from_is_err_and c.from_residual-in_err-a-in-Implies.result c.from_residual-in_err-a-in-Implies.ensures.1 in
    let e : expr_step s (Expr-F.Implies c.in-Implies.at j m) ≡ judge_expr s c.args.e.now = rw (c.get-in-Implies.ensures, c.in-Implies.is, expr-Implies) in
    rw p.1 (rw p.2 (subst (λ (x : Judged). Gives names n o c.expr-in-Implies.new.order x (Err c.in_err-a-in-Implies.field-0.0)) e
    (first_fault names n o c.expr-in-Implies.new.order o c.expr-in-Implies.new.order j (m ∷ []) _ c.in_err-a-in-Implies.field-0.0 (c.in_err-a-in-Implies.ensures names s h))))

pub expr-returns-in_err-a-in-Index : goal.expr-returns-in_err-a-in-Index
unfolding judge_expr
expr-returns-in_err-a-in-Index t c = λ names s h.
    let n = c.args.scope.now.closed in
    let o = c.args.order.now in
    let j = judge_expr s c.get-in-Index.result.now in
    let m = judge_expr s c.in-Index.i in
    let p = err_from_is_err_and c.from_residual-in_err-a-in-Index.result c.from_residual-in_err-a-in-Index.ensures.1 in
    let e : expr_step s (Expr-F.Index c.in-Index.at j m) ≡ judge_expr s c.args.e.now = rw (c.get-in-Index.ensures, c.in-Index.is, expr-Index) in
    rw p.1 (rw p.2 (subst (λ (x : Judged). Gives names n o c.expr-in-Index.new.order x (Err c.in_err-a-in-Index.field-0.0)) e
    (first_fault names n o c.expr-in-Index.new.order o c.expr-in-Index.new.order j (m ∷ []) _ c.in_err-a-in-Index.field-0.0 (c.in_err-a-in-Index.ensures names s h))))

pub expr-returns-in_err-p-in-Since : goal.expr-returns-in_err-p-in-Since
unfolding judge_expr
expr-returns-in_err-p-in-Since t c = λ names s h.
    let n = c.args.scope.now.closed in
    let o = c.args.order.now in
    let j = judge_expr s c.get-in-Since.result.now in
    let m = judge_expr s c.in-Since.q in
    let p = err_from_is_err_and c.from_residual-in_err-p-in-Since.result c.from_residual-in_err-p-in-Since.ensures.1 in
    let e : expr_step s (Expr-F.Since c.in-Since.at j m) ≡ judge_expr s c.args.e.now = rw (c.get-in-Since.ensures, c.in-Since.is, expr-Since) in
    rw p.1 (rw p.2 (subst (λ (x : Judged). Gives names n o c.expr-in-Since.new.order x (Err c.in_err-p-in-Since.field-0.0)) e
    (first_fault names n o c.expr-in-Since.new.order o c.expr-in-Since.new.order j (m ∷ []) _ c.in_err-p-in-Since.field-0.0 (c.in_err-p-in-Since.ensures names s h))))

pub expr-returns-in_err-p-in-SinceIn : goal.expr-returns-in_err-p-in-SinceIn
unfolding judge_expr
expr-returns-in_err-p-in-SinceIn t c = λ names s h.
    let n = c.args.scope.now.closed in
    let o = c.args.order.now in
    let j = judge_expr s c.get-in-SinceIn.result.now in
    let m = judge_expr s c.in-SinceIn.q in
    let p = err_from_is_err_and c.from_residual-in_err-p-in-SinceIn.result c.from_residual-in_err-p-in-SinceIn.ensures.1 in
    let e : expr_step s (Expr-F.SinceIn c.in-SinceIn.at c.in-SinceIn.low c.in-SinceIn.high j m) ≡ judge_expr s c.args.e.now = rw (c.get-in-SinceIn.ensures, c.in-SinceIn.is, expr-SinceIn) in
    rw p.1 (rw p.2 (subst (λ (x : Judged). Gives names n o c.expr-in-SinceIn.new.order x (Err c.in_err-p-in-SinceIn.field-0.0)) e
    (first_fault names n o c.expr-in-SinceIn.new.order o c.expr-in-SinceIn.new.order j (m ∷ []) _ c.in_err-p-in-SinceIn.field-0.0 (c.in_err-p-in-SinceIn.ensures names s h))))

pub expr-returns-in_err-c-in-If : goal.expr-returns-in_err-c-in-If
unfolding judge_expr
expr-returns-in_err-c-in-If t c = λ names s h.
    let n = c.args.scope.now.closed in
    let o = c.args.order.now in
    let j = judge_expr s c.get-in-If.result.now in
    let l = judge_expr s c.in-If.a in
    let m = judge_expr s c.in-If.b in
    let p = err_from_is_err_and c.from_residual-in_err-c-in-If.result c.from_residual-in_err-c-in-If.ensures.1 in
    let e : expr_step s (Expr-F.If c.in-If.at j l m) ≡ judge_expr s c.args.e.now = rw (c.get-in-If.ensures, c.in-If.is, expr-If) in
    rw p.1 (rw p.2 (subst (λ (x : Judged). Gives names n o c.expr-in-If.new.order x (Err c.in_err-c-in-If.field-0.0)) e
    (first_fault names n o c.expr-in-If.new.order o c.expr-in-If.new.order j (l ∷ m ∷ []) _ c.in_err-c-in-If.field-0.0 (c.in_err-c-in-If.ensures names s h))))

pub expr-returns-in_err-a-in-If : goal.expr-returns-in_err-a-in-If
unfolding judge_expr
expr-returns-in_err-a-in-If t c = λ names s h.
    let n = c.args.scope.now.closed in
    let o = c.args.order.now in
    let j = judge_expr s c.get-in-If.result.now in
    let l = judge_expr s c.get-in-If-2.result.now in
    let m = judge_expr s c.in-If.b in
    let p = err_from_is_err_and c.from_residual-in_err-a-in-If.result c.from_residual-in_err-a-in-If.ensures.1 in
    let e : expr_step s (Expr-F.If c.in-If.at j l m) ≡ judge_expr s c.args.e.now = rw (c.get-in-If.ensures, c.get-in-If-2.ensures, c.in-If.is, expr-If) in
    rw p.1 (rw p.2 (subst (λ (x : Judged). Gives names n o c.expr-in-If-2.new.order x (Err c.in_err-a-in-If.field-0.0)) e
    (second_fault names n c.expr-in-If.new.order c.expr-in-If-2.new.order o c.expr-in-If-2.new.order j l (m ∷ []) _ c.in_err-a-in-If.field-0.0 (c.in_ok-c-in-If.ensures names s h).faultless (c.in_err-a-in-If.ensures names s h))))

pub binary-returns-in_err-b : goal.binary-returns-in_err-b
binary-returns-in_err-b t c = λ names s start j h r.
    let p = err_from_is_err_and c.from_residual.result c.from_residual.ensures.1 in
    let n = c.args.scope.now.closed in
    rw p.1 (rw p.2 (second_fault names n c.args.order.now c.expr.new.order start c.expr.new.order j (judge_expr s c.args.b.now) [] _ c.in_err-b.field-0.0 r.faultless (c.in_err-b.ensures names s h)))

pub exprs-loop-e-init : goal.exprs-loop-e-init
exprs-loop-e-init t c = λ names s h.
    let n = c.args.scope.now.closed in
    let o = c.args.order.now in
    subst (λ (ks : List (Option Known)). AreParts names n o o [] ks) (sym c.new-parts.ensures.items) (parts_none names n o)

pub exprs-loop-e-preserved : goal.exprs-loop-e-preserved
exprs-loop-e-preserved t c = λ names s h.
    let n = c.args.scope.now.closed in
    let o = c.args.order.now in
    let all = c.args.all.now in
    let i = c.loop-e.e-index in
    subst (λ (ks : List (Option Known)). AreParts names n o c.expr.new.order (map (judge_expr s) (take (i + 1) all)) ks) (sym c.in_ok-push.ensures.items)
    (taken_parts (judge_expr s) names n o c.loop-e.order c.expr.new.order all i _ _ c.loop-e.parts.items c.in_ok-ty.ty c.loop-e-test.true c.e-item.is (c.loop-e.invariant names s h) (c.in_ok-ty.ensures names s h))

pub exprs-returns : goal.exprs-returns
exprs-returns t c = λ names s h.
    let i = c.loop-e.e-index in
    whole_parts (judge_expr s) names c.args.scope.now.closed c.args.order.now c.loop-e.order c.args.all.now i c.loop-e.parts.items (grind (arith, nat_tests, c.loop-e-test.false)) (c.loop-e.invariant names s h)

pub exprs-returns-in_err-ty : goal.exprs-returns-in_err-ty
exprs-returns-in_err-ty t c = λ names s h.
    let p = err_from_is_err_and c.from_residual.result c.from_residual.ensures.1 in
    let n = c.args.scope.now.closed in
    let o = c.args.order.now in
    rw p.1 (rw p.2 (failed_part (judge_expr s) names n o c.loop-e.order c.expr.new.order c.args.all.now c.loop-e.e-index _ _ c.loop-e.parts.items c.in_err-ty.field-0.0 c.loop-e-test.true c.e-item.is (c.loop-e.invariant names s h) (c.in_err-ty.ensures names s h)))

pub array-returns : goal.array-returns
array-returns t c = λ names s h.
    let q = c.in_ok-parts.ensures names s h in
    let z : all_known c.in_ok-parts.parts.items ≡ None = ap all_known (sym c.as_slice.ensures.value) ∙ sym c.in_ok-types.ensures.all ∙ ap (option_map (λ (v : Vec Known). v.items)) c.in-None.is in
    parts_untyped _ q (none_all c.in_ok-parts.parts.items z)

pub array-returns-in-Some : goal.array-returns-in-Some
array-returns-in-Some t c = λ names s h.
    let ks = c.in_ok-parts.parts.items in
    let js = c.in-Some.types.items in
    let ps = map (judge_expr s) c.args.items.now in
    let q = c.in_ok-parts.ensures names s h in
    let z : all_known ks ≡ Some js = ap all_known (sym c.as_slice.ensures.value) ∙ sym c.in_ok-types.ensures.all ∙ ap (option_map (λ (v : Vec Known). v.items)) c.in-Some.is in
    let w = all_are names ps ks js q.types_are z in
    let m : AllMean names c.as_slice-in-Some.result.now (types_of ps) = subst (λ (ls : List Known). AllMean names ls (types_of ps)) (sym c.as_slice-in-Some.ensures.value) w.mean in
    c.node.ensures names c.args.order.now ps (on_items s.all c.args.at (types_of ps)) h.distinct (parts_typed q w.all) (c.on_items.ensures names s.all (types_of ps) h.distinct m (items_words names s c.args.scope.now.structs.all.items h.structs_are c.as_slice-in-Some.result.now (types_of ps) m))

pub record-returns : goal.record-returns
record-returns t c = λ names s h.
    let q = c.in_ok-parts.ensures names s h in
    let z : all_known c.in_ok-parts.parts.items ≡ None = ap all_known (sym c.as_slice.ensures.value) ∙ sym c.in_ok-types.ensures.all ∙ ap (option_map (λ (v : Vec Known). v.items)) c.in-None.is in
    parts_untyped _ q (none_all c.in_ok-parts.parts.items z)

pub record-returns-in-Some : goal.record-returns-in-Some
record-returns-in-Some t c = λ names s h.
    let ks = c.in_ok-parts.parts.items in
    let js = c.in-Some.types.items in
    let ps = map (judge_expr s) c.args.items.now in
    let q = c.in_ok-parts.ensures names s h in
    let z : all_known ks ≡ Some js = ap all_known (sym c.as_slice.ensures.value) ∙ sym c.in_ok-types.ensures.all ∙ ap (option_map (λ (v : Vec Known). v.items)) c.in-Some.is in
    let w = all_are names ps ks js q.types_are z in
    let m : AllMean names c.as_slice-in-Some.result.now (types_of ps) = subst (λ (ls : List Known). AllMean names ls (types_of ps)) (sym c.as_slice-in-Some.ensures.value) w.mean in
    c.node.ensures names c.args.order.now ps (on_record (struct_in s.before c.args.name.now.name) c.args.at c.args.name.now (types_of ps)) h.distinct (parts_typed q w.all) (c.record_of.ensures names s.before (types_of ps) h.distinct h.behind m)

pub majority-returns : goal.majority-returns
majority-returns t c = λ names s h.
    let q = c.in_ok-parts.ensures names s h in
    let z : all_known c.in_ok-parts.parts.items ≡ None = ap all_known (sym c.as_slice.ensures.value) ∙ sym c.in_ok-types.ensures.all ∙ ap (option_map (λ (v : Vec Known). v.items)) c.in-None.is in
    parts_untyped _ q (none_all c.in_ok-parts.parts.items z)

pub majority-returns-in-Some : goal.majority-returns-in-Some
majority-returns-in-Some t c = λ names s h.
    let ks = c.in_ok-parts.parts.items in
    let js = c.in-Some.types.items in
    let ps = map (judge_expr s) c.args.items.now in
    let q = c.in_ok-parts.ensures names s h in
    let z : all_known ks ≡ Some js = ap all_known (sym c.as_slice.ensures.value) ∙ sym c.in_ok-types.ensures.all ∙ ap (option_map (λ (v : Vec Known). v.items)) c.in-Some.is in
    let w = all_are names ps ks js q.types_are z in
    let m : AllMean names c.as_slice-in-Some.result.now (types_of ps) = subst (λ (ls : List Known). AllMean names ls (types_of ps)) (sym c.as_slice-in-Some.ensures.value) w.mean in
    c.node.ensures names c.args.order.now ps (on_votes c.args.at (λ t. t) (types_of ps)) h.distinct (parts_typed q w.all) (c.on_votes.ensures names (types_of ps) h.distinct m)

pub agreed-returns : goal.agreed-returns
agreed-returns t c = λ names s h.
    let q = c.in_ok-parts.ensures names s h in
    let z : all_known c.in_ok-parts.parts.items ≡ None = ap all_known (sym c.as_slice.ensures.value) ∙ sym c.in_ok-types.ensures.all ∙ ap (option_map (λ (v : Vec Known). v.items)) c.in-None.is in
    parts_untyped _ q (none_all c.in_ok-parts.parts.items z)

pub agreed-returns-in-Some : goal.agreed-returns-in-Some
agreed-returns-in-Some t c = λ names s h.
    let ks = c.in_ok-parts.parts.items in
    let js = c.in-Some.types.items in
    let ps = map (judge_expr s) c.args.items.now in
    let q = c.in_ok-parts.ensures names s h in
    let z : all_known ks ≡ Some js = ap all_known (sym c.as_slice.ensures.value) ∙ sym c.in_ok-types.ensures.all ∙ ap (option_map (λ (v : Vec Known). v.items)) c.in-Some.is in
    let w = all_are names ps ks js q.types_are z in
    let m : AllMean names c.as_slice-in-Some.result.now (types_of ps) = subst (λ (ls : List Known). AllMean names ls (types_of ps)) (sym c.as_slice-in-Some.ensures.value) w.mean in
    c.node.ensures names c.args.order.now ps (on_votes c.args.at (λ t. bool) (types_of ps)) h.distinct (parts_typed q w.all) (c.on_agreed.ensures names (types_of ps) h.distinct m)
