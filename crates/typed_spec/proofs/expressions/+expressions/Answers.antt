use Rattle.std.proofs.Common.{◌≡◌, ◌+◌, ◌<◌, ◌≤◌, ◌++◌, ℕ, length, length-append, arith, List, [], ◌∷◌, map, refl, sym, ap, ◌∙◌, subst, IfOk}
use Rattle.std.specs.List.{AllByRecursion}
use Rattle.stream_core.specs.Value.{SpecValue}
use Rattle.std.proofs.lemmas.Bool.Decides.{nat_tests}
use Rattle.spec_text.specs.declared.surface.Expr.TheOpen.{Expr-F}
use Rattle.spec_text.specs.FoldRows.{expr-Abs, expr-Agreed, expr-And, expr-Array, expr-Bin, expr-Cast, expr-Clock, expr-Drop, expr-Field, expr-Historically, expr-HistoricallyIn, expr-If, expr-Implies, expr-Index, expr-Lit, expr-Majority, expr-Name, expr-Once, expr-OnceIn, expr-Or, expr-Record, expr-Shift, expr-Sign, expr-Since, expr-SinceIn, expr-Un, expr-WeaklyYesterday, expr-WindowMax, expr-WindowMin, expr-WindowSum, expr-Yesterday}
use Rattle.std.specs.Prelude.{Option}
use Rattle.type_check.specs.declared.known.Known.{Known}
use Rattle.typed_spec.specs.declared.arena.Arena.{Arena}
use Rattle.typed_spec.specs.declared.arena.Operand.{Operand}
use Rattle.typed_text.specs.ReadSpec.{Read, read_step, read_expr}
use Rattle.typed_spec.specs.Made.{Makes, operands_of}
use Rattle.typed_spec.proofs.Making.{makes_none}
use Rattle.typed_spec.proofs.Lists.{makes_next, makes_all, there_more}
use Rattle.typed_spec.proofs.expressions.+expressions.Goals as goal

pub expr-returns-in-Lit-clause-made : goal.expr-returns-in-Lit-clause-made
unfolding read_expr
expr-returns-in-Lit-clause-made t c = λ names s n h.
    let e : read_step n s (Expr-F.Lit c.in-Lit.at c.in-Lit.scalar c.in-Lit.word) ≡ read_expr n s c.args.e.now = rw (c.in-Lit.is, expr-Lit) in
    subst (λ (x : Read). IfOk c.literal.result (λ (o : Operand). Makes names c.args.arena.now c.literal.new.arena (o ∷ []) (x ∷ []))) e
    (c.literal.ensures.made names s n c.in-Lit.at)

pub expr-returns-in-Name-clause-made : goal.expr-returns-in-Name-clause-made
unfolding read_expr
expr-returns-in-Name-clause-made t c = λ names s n h.
    let e : read_step n s (Expr-F.Name c.in-Name.x) ≡ read_expr n s c.args.e.now = rw (c.in-Name.is, expr-Name) in
    subst (λ (x : Read). IfOk c.name.result (λ (o : Operand). Makes names c.args.arena.now c.name.new.arena (o ∷ []) (x ∷ []))) e
    (c.name.ensures.made names s n h)

pub expr-returns-in-Drop-clause-made : goal.expr-returns-in-Drop-clause-made
unfolding read_expr
expr-returns-in-Drop-clause-made t c = λ names s n h.
    let e : read_step n s (Expr-F.Drop c.in-Drop.at c.in-Drop.k c.in-Drop.name) ≡ read_expr n s c.args.e.now = rw (c.in-Drop.is, expr-Drop) in
    subst (λ (x : Read). IfOk c.earlier.result (λ (o : Operand). Makes names c.args.arena.now c.earlier.new.arena (o ∷ []) (x ∷ []))) e
    (c.earlier.ensures.made names s n h)

pub expr-returns-in-Clock-clause-made : goal.expr-returns-in-Clock-clause-made
unfolding read_expr
expr-returns-in-Clock-clause-made t c = λ names s n h.
    let e : read_step n s (Expr-F.Clock c.in-Clock.at c.in-Clock.period c.in-Clock.phase) ≡ read_expr n s c.args.e.now = rw (c.in-Clock.is, expr-Clock) in
    subst (λ (x : Read). IfOk c.clock.result (λ (o : Operand). Makes names c.args.arena.now c.clock.new.arena (o ∷ []) (x ∷ []))) e
    (c.clock.ensures.made names s n)

pub expr-returns-in_ok-a-in-Un-clause-made : goal.expr-returns-in_ok-a-in-Un-clause-made
unfolding read_expr
expr-returns-in_ok-a-in-Un-clause-made t c = λ names s n h.
    let e : read_step n s (Expr-F.Un c.in-Un.at c.in-Un.op (read_expr n s c.get.result.now)) ≡ read_expr n s c.args.e.now = rw (c.get.ensures, c.in-Un.is, expr-Un) in
    subst (λ (x : Read). IfOk c.un.result (λ (o : Operand). Makes names c.args.arena.now c.un.new.arena (o ∷ []) (x ∷ []))) e
    (c.un.ensures.made names s n c.args.arena.now (read_expr n s c.get.result.now) h.scope.distinct (c.in_ok-a-in-Un.ensures.made names s n h))

pub expr-returns-in_ok-b-in-Bin-clause-made : goal.expr-returns-in_ok-b-in-Bin-clause-made
unfolding read_expr
expr-returns-in_ok-b-in-Bin-clause-made t c = λ names s n h.
    let e : read_step n s (Expr-F.Bin c.in-Bin.at c.in-Bin.op (read_expr n s c.get-in-Bin.result.now) (read_expr n s c.get-in-Bin-2.result.now)) ≡ read_expr n s c.args.e.now = rw (c.get-in-Bin.ensures, c.get-in-Bin-2.ensures, c.in-Bin.is, expr-Bin) in
    subst (λ (x : Read). IfOk c.bin.result (λ (o : Operand). Makes names c.args.arena.now c.bin.new.arena (o ∷ []) (x ∷ []))) e
    (c.bin.ensures.made names s n c.args.arena.now c.expr-in-Bin.new.arena (read_expr n s c.get-in-Bin.result.now) (read_expr n s c.get-in-Bin-2.result.now) h.scope.distinct (c.in_ok-a-in-Bin.ensures.made names s n h) (c.in_ok-b-in-Bin.ensures.made names s n h))

pub expr-returns-in_ok-count-in-Shift-clause-made : goal.expr-returns-in_ok-count-in-Shift-clause-made
unfolding read_expr
expr-returns-in_ok-count-in-Shift-clause-made t c = λ names s n h.
    let e : read_step n s (Expr-F.Shift c.in-Shift.at c.in-Shift.dir (read_expr n s c.get-in-Shift.result.now) (read_expr n s c.get-in-Shift-2.result.now)) ≡ read_expr n s c.args.e.now = rw (c.get-in-Shift.ensures, c.get-in-Shift-2.ensures, c.in-Shift.is, expr-Shift) in
    subst (λ (x : Read). IfOk c.shift.result (λ (o : Operand). Makes names c.args.arena.now c.shift.new.arena (o ∷ []) (x ∷ []))) e
    (c.shift.ensures.made names s n c.args.arena.now c.expr-in-Shift.new.arena (read_expr n s c.get-in-Shift.result.now) (read_expr n s c.get-in-Shift-2.result.now) h.scope.distinct (c.in_ok-a-in-Shift.ensures.made names s n h) (c.in_ok-count-in-Shift.ensures.made names s n h))

pub expr-returns-in_ok-b-in-And-clause-made : goal.expr-returns-in_ok-b-in-And-clause-made
unfolding read_expr
expr-returns-in_ok-b-in-And-clause-made t c = λ names s n h.
    let e : read_step n s (Expr-F.And c.in-And.at (read_expr n s c.get-in-And.result.now) (read_expr n s c.get-in-And-2.result.now)) ≡ read_expr n s c.args.e.now = rw (c.get-in-And.ensures, c.get-in-And-2.ensures, c.in-And.is, expr-And) in
    subst (λ (x : Read). IfOk c.and.result (λ (o : Operand). Makes names c.args.arena.now c.and.new.arena (o ∷ []) (x ∷ []))) e
    (c.and.ensures.made names s n c.args.arena.now c.expr-in-And.new.arena (read_expr n s c.get-in-And.result.now) (read_expr n s c.get-in-And-2.result.now) h.scope.distinct (c.in_ok-a-in-And.ensures.made names s n h) (c.in_ok-b-in-And.ensures.made names s n h))

pub expr-returns-in_ok-b-in-Or-clause-made : goal.expr-returns-in_ok-b-in-Or-clause-made
unfolding read_expr
expr-returns-in_ok-b-in-Or-clause-made t c = λ names s n h.
    let e : read_step n s (Expr-F.Or c.in-Or.at (read_expr n s c.get-in-Or.result.now) (read_expr n s c.get-in-Or-2.result.now)) ≡ read_expr n s c.args.e.now = rw (c.get-in-Or.ensures, c.get-in-Or-2.ensures, c.in-Or.is, expr-Or) in
    subst (λ (x : Read). IfOk c.or.result (λ (o : Operand). Makes names c.args.arena.now c.or.new.arena (o ∷ []) (x ∷ []))) e
    (c.or.ensures.made names s n c.args.arena.now c.expr-in-Or.new.arena (read_expr n s c.get-in-Or.result.now) (read_expr n s c.get-in-Or-2.result.now) h.scope.distinct (c.in_ok-a-in-Or.ensures.made names s n h) (c.in_ok-b-in-Or.ensures.made names s n h))

pub expr-returns-in_ok-b-in-Implies-clause-made : goal.expr-returns-in_ok-b-in-Implies-clause-made
unfolding read_expr
expr-returns-in_ok-b-in-Implies-clause-made t c = λ names s n h.
    let e : read_step n s (Expr-F.Implies c.in-Implies.at (read_expr n s c.get-in-Implies.result.now) (read_expr n s c.get-in-Implies-2.result.now)) ≡ read_expr n s c.args.e.now = rw (c.get-in-Implies.ensures, c.get-in-Implies-2.ensures, c.in-Implies.is, expr-Implies) in
    subst (λ (x : Read). IfOk c.implies.result (λ (o : Operand). Makes names c.args.arena.now c.implies.new.arena (o ∷ []) (x ∷ []))) e
    (c.implies.ensures.made names s n c.args.arena.now c.expr-in-Implies.new.arena (read_expr n s c.get-in-Implies.result.now) (read_expr n s c.get-in-Implies-2.result.now) h.scope.distinct (c.in_ok-a-in-Implies.ensures.made names s n h) (c.in_ok-b-in-Implies.ensures.made names s n h))

pub expr-returns-in_ok-b-in-If-clause-made : goal.expr-returns-in_ok-b-in-If-clause-made
unfolding read_expr
expr-returns-in_ok-b-in-If-clause-made t c = λ names s n h.
    let e : read_step n s (Expr-F.If c.in-If.at (read_expr n s c.get-in-If.result.now) (read_expr n s c.get-in-If-2.result.now) (read_expr n s c.get-in-If-3.result.now)) ≡ read_expr n s c.args.e.now = rw (c.get-in-If.ensures, c.get-in-If-2.ensures, c.get-in-If-3.ensures, c.in-If.is, expr-If) in
    subst (λ (x : Read). IfOk c.choose.result (λ (o : Operand). Makes names c.args.arena.now c.choose.new.arena (o ∷ []) (x ∷ []))) e
    (c.choose.ensures.made names s n c.args.arena.now c.expr-in-If.new.arena c.expr-in-If-2.new.arena (read_expr n s c.get-in-If.result.now) (read_expr n s c.get-in-If-2.result.now) (read_expr n s c.get-in-If-3.result.now) h.scope.distinct (c.in_ok-c-in-If.ensures.made names s n h) (c.in_ok-a-in-If.ensures.made names s n h) (c.in_ok-b-in-If.ensures.made names s n h))

pub expr-returns-in_ok-a-in-Cast-clause-made : goal.expr-returns-in_ok-a-in-Cast-clause-made
unfolding read_expr
expr-returns-in_ok-a-in-Cast-clause-made t c = λ names s n h.
    let e : read_step n s (Expr-F.Cast c.in-Cast.at c.in-Cast.to (read_expr n s c.get-in-Cast.result.now)) ≡ read_expr n s c.args.e.now = rw (c.get-in-Cast.ensures, c.in-Cast.is, expr-Cast) in
    subst (λ (x : Read). IfOk c.convert.result (λ (o : Operand). Makes names c.args.arena.now c.convert.new.arena (o ∷ []) (x ∷ []))) e
    (c.convert.ensures.made names s n c.args.arena.now (read_expr n s c.get-in-Cast.result.now) h (c.in_ok-a-in-Cast.ensures.made names s n h))

pub expr-returns-in_ok-a-in-Abs-clause-made : goal.expr-returns-in_ok-a-in-Abs-clause-made
unfolding read_expr
expr-returns-in_ok-a-in-Abs-clause-made t c = λ names s n h.
    let e : read_step n s (Expr-F.Abs c.in-Abs.at (read_expr n s c.get-in-Abs.result.now)) ≡ read_expr n s c.args.e.now = rw (c.get-in-Abs.ensures, c.in-Abs.is, expr-Abs) in
    subst (λ (x : Read). IfOk c.abs.result (λ (o : Operand). Makes names c.args.arena.now c.abs.new.arena (o ∷ []) (x ∷ []))) e
    (c.abs.ensures.made names s n c.args.arena.now (read_expr n s c.get-in-Abs.result.now) h.scope.distinct (c.in_ok-a-in-Abs.ensures.made names s n h))

pub expr-returns-in_ok-a-in-Sign-clause-made : goal.expr-returns-in_ok-a-in-Sign-clause-made
unfolding read_expr
expr-returns-in_ok-a-in-Sign-clause-made t c = λ names s n h.
    let e : read_step n s (Expr-F.Sign c.in-Sign.at (read_expr n s c.get-in-Sign.result.now)) ≡ read_expr n s c.args.e.now = rw (c.get-in-Sign.ensures, c.in-Sign.is, expr-Sign) in
    subst (λ (x : Read). IfOk c.sign.result (λ (o : Operand). Makes names c.args.arena.now c.sign.new.arena (o ∷ []) (x ∷ []))) e
    (c.sign.ensures.made names s n c.args.arena.now (read_expr n s c.get-in-Sign.result.now) h.scope.distinct (c.in_ok-a-in-Sign.ensures.made names s n h))

pub expr-returns-in_ok-i-in-Index-clause-made : goal.expr-returns-in_ok-i-in-Index-clause-made
unfolding read_expr
expr-returns-in_ok-i-in-Index-clause-made t c = λ names s n h.
    let e : read_step n s (Expr-F.Index c.in-Index.at (read_expr n s c.get-in-Index.result.now) (read_expr n s c.get-in-Index-2.result.now)) ≡ read_expr n s c.args.e.now = rw (c.get-in-Index.ensures, c.get-in-Index-2.ensures, c.in-Index.is, expr-Index) in
    subst (λ (x : Read). IfOk c.element.result (λ (o : Operand). Makes names c.args.arena.now c.element.new.arena (o ∷ []) (x ∷ []))) e
    (c.element.ensures.made names s n c.args.arena.now c.expr-in-Index.new.arena (read_expr n s c.get-in-Index.result.now) (read_expr n s c.get-in-Index-2.result.now) h (c.in_ok-a-in-Index.ensures.made names s n h) (c.in_ok-i-in-Index.ensures.made names s n h))

pub expr-returns-in_ok-a-in-Field-clause-made : goal.expr-returns-in_ok-a-in-Field-clause-made
unfolding read_expr
expr-returns-in_ok-a-in-Field-clause-made t c = λ names s n h.
    let e : read_step n s (Expr-F.Field c.in-Field.at (read_expr n s c.get-in-Field.result.now) c.in-Field.x) ≡ read_expr n s c.args.e.now = rw (c.get-in-Field.ensures, c.in-Field.is, expr-Field) in
    subst (λ (x : Read). IfOk c.member.result (λ (o : Operand). Makes names c.args.arena.now c.member.new.arena (o ∷ []) (x ∷ []))) e
    (c.member.ensures.made names s n c.in-Field.at c.args.arena.now (read_expr n s c.get-in-Field.result.now) h (c.in_ok-a-in-Field.ensures.made names s n h))

pub expr-returns-in_ok-items-in-Array-clause-made : goal.expr-returns-in_ok-items-in-Array-clause-made
unfolding read_expr
expr-returns-in_ok-items-in-Array-clause-made t c = λ names s n h.
    let e : read_step n s (Expr-F.Array c.in-Array.at (map (read_expr n s) c.as_slice.result.now)) ≡ read_expr n s c.args.e.now = rw (c.as_slice.ensures, c.in-Array.is, expr-Array) in
    subst (λ (x : Read). IfOk c.array.result (λ (o : Operand). Makes names c.args.arena.now c.array.new.arena (o ∷ []) (x ∷ []))) e
    (c.array.ensures.made names s n c.args.arena.now (map (read_expr n s) c.as_slice.result.now) h (c.in_ok-items-in-Array.ensures.made names s n h))

pub expr-returns-in_ok-items-in-Record-clause-made : goal.expr-returns-in_ok-items-in-Record-clause-made
unfolding read_expr
expr-returns-in_ok-items-in-Record-clause-made t c = λ names s n h.
    let e : read_step n s (Expr-F.Record c.in-Record.at c.in-Record.name (map (read_expr n s) c.as_slice-in-Record.result.now)) ≡ read_expr n s c.args.e.now = rw (c.as_slice-in-Record.ensures, c.in-Record.is, expr-Record) in
    subst (λ (x : Read). IfOk c.record.result (λ (o : Operand). Makes names c.args.arena.now c.record.new.arena (o ∷ []) (x ∷ []))) e
    (c.record.ensures.made names s n c.args.arena.now (map (read_expr n s) c.as_slice-in-Record.result.now) h (c.in_ok-items-in-Record.ensures.made names s n h))

pub expr-returns-in_ok-items-in-Majority-clause-made : goal.expr-returns-in_ok-items-in-Majority-clause-made
unfolding read_expr
expr-returns-in_ok-items-in-Majority-clause-made t c = λ names s n h.
    let e : read_step n s (Expr-F.Majority c.in-Majority.at (map (read_expr n s) c.as_slice-in-Majority.result.now)) ≡ read_expr n s c.args.e.now = rw (c.as_slice-in-Majority.ensures, c.in-Majority.is, expr-Majority) in
    subst (λ (x : Read). IfOk c.majority.result (λ (o : Operand). Makes names c.args.arena.now c.majority.new.arena (o ∷ []) (x ∷ []))) e
    (c.majority.ensures.made names s n c.args.arena.now (map (read_expr n s) c.as_slice-in-Majority.result.now) h.scope.distinct (c.in_ok-items-in-Majority.ensures.made names s n h))

pub expr-returns-in_ok-items-in-Agreed-clause-made : goal.expr-returns-in_ok-items-in-Agreed-clause-made
unfolding read_expr
expr-returns-in_ok-items-in-Agreed-clause-made t c = λ names s n h.
    let e : read_step n s (Expr-F.Agreed c.in-Agreed.at (map (read_expr n s) c.as_slice-in-Agreed.result.now)) ≡ read_expr n s c.args.e.now = rw (c.as_slice-in-Agreed.ensures, c.in-Agreed.is, expr-Agreed) in
    subst (λ (x : Read). IfOk c.agreed.result (λ (o : Operand). Makes names c.args.arena.now c.agreed.new.arena (o ∷ []) (x ∷ []))) e
    (c.agreed.ensures.made names s n c.args.arena.now (map (read_expr n s) c.as_slice-in-Agreed.result.now) h.scope.distinct (c.in_ok-items-in-Agreed.ensures.made names s n h))

pub expr-returns-in-Once-clause-made : goal.expr-returns-in-Once-clause-made
unfolding read_expr
expr-returns-in-Once-clause-made t c = λ names s n h.
    let e : read_step n s (Expr-F.Once c.in-Once.at (read_expr n s c.get-in-Once.result.now)) ≡ read_expr n s c.args.e.now = rw (c.get-in-Once.ensures, c.in-Once.is, expr-Once) in
    subst (λ (x : Read). IfOk c.of_truth.result (λ (o : Operand). Makes names c.args.arena.now c.of_truth.new.arena (o ∷ []) (x ∷ []))) e
    (c.of_truth.ensures.made names s n h)

pub expr-returns-in-Historically-clause-made : goal.expr-returns-in-Historically-clause-made
unfolding read_expr
expr-returns-in-Historically-clause-made t c = λ names s n h.
    let e : read_step n s (Expr-F.Historically c.in-Historically.at (read_expr n s c.get-in-Historically.result.now)) ≡ read_expr n s c.args.e.now = rw (c.get-in-Historically.ensures, c.in-Historically.is, expr-Historically) in
    subst (λ (x : Read). IfOk c.of_truth-in-Historically.result (λ (o : Operand). Makes names c.args.arena.now c.of_truth-in-Historically.new.arena (o ∷ []) (x ∷ []))) e
    (c.of_truth-in-Historically.ensures.made names s n h)

pub expr-returns-in-Yesterday-clause-made : goal.expr-returns-in-Yesterday-clause-made
unfolding read_expr
expr-returns-in-Yesterday-clause-made t c = λ names s n h.
    let e : read_step n s (Expr-F.Yesterday c.in-Yesterday.at (read_expr n s c.get-in-Yesterday.result.now)) ≡ read_expr n s c.args.e.now = rw (c.get-in-Yesterday.ensures, c.in-Yesterday.is, expr-Yesterday) in
    subst (λ (x : Read). IfOk c.of_truth-in-Yesterday.result (λ (o : Operand). Makes names c.args.arena.now c.of_truth-in-Yesterday.new.arena (o ∷ []) (x ∷ []))) e
    (c.of_truth-in-Yesterday.ensures.made names s n h)

pub expr-returns-in-WeaklyYesterday-clause-made : goal.expr-returns-in-WeaklyYesterday-clause-made
unfolding read_expr
expr-returns-in-WeaklyYesterday-clause-made t c = λ names s n h.
    let e : read_step n s (Expr-F.WeaklyYesterday c.in-WeaklyYesterday.at (read_expr n s c.get-in-WeaklyYesterday.result.now)) ≡ read_expr n s c.args.e.now = rw (c.get-in-WeaklyYesterday.ensures, c.in-WeaklyYesterday.is, expr-WeaklyYesterday) in
    subst (λ (x : Read). IfOk c.of_truth-in-WeaklyYesterday.result (λ (o : Operand). Makes names c.args.arena.now c.of_truth-in-WeaklyYesterday.new.arena (o ∷ []) (x ∷ []))) e
    (c.of_truth-in-WeaklyYesterday.ensures.made names s n h)

pub expr-returns-in-OnceIn-clause-made : goal.expr-returns-in-OnceIn-clause-made
unfolding read_expr
expr-returns-in-OnceIn-clause-made t c = λ names s n h.
    let e : read_step n s (Expr-F.OnceIn c.in-OnceIn.at c.in-OnceIn.low c.in-OnceIn.high (read_expr n s c.get-in-OnceIn.result.now)) ≡ read_expr n s c.args.e.now = rw (c.get-in-OnceIn.ensures, c.in-OnceIn.is, expr-OnceIn) in
    subst (λ (x : Read). IfOk c.of_truth-in-OnceIn.result (λ (o : Operand). Makes names c.args.arena.now c.of_truth-in-OnceIn.new.arena (o ∷ []) (x ∷ []))) e
    (c.of_truth-in-OnceIn.ensures.made names s n h)

pub expr-returns-in-HistoricallyIn-clause-made : goal.expr-returns-in-HistoricallyIn-clause-made
unfolding read_expr
expr-returns-in-HistoricallyIn-clause-made t c = λ names s n h.
    let e : read_step n s (Expr-F.HistoricallyIn c.in-HistoricallyIn.at c.in-HistoricallyIn.low c.in-HistoricallyIn.high (read_expr n s c.get-in-HistoricallyIn.result.now)) ≡ read_expr n s c.args.e.now = rw (c.get-in-HistoricallyIn.ensures, c.in-HistoricallyIn.is, expr-HistoricallyIn) in
    subst (λ (x : Read). IfOk c.of_truth-in-HistoricallyIn.result (λ (o : Operand). Makes names c.args.arena.now c.of_truth-in-HistoricallyIn.new.arena (o ∷ []) (x ∷ []))) e
    (c.of_truth-in-HistoricallyIn.ensures.made names s n h)

pub expr-returns-in_ok-q-in-Since-clause-made : goal.expr-returns-in_ok-q-in-Since-clause-made
unfolding read_expr
expr-returns-in_ok-q-in-Since-clause-made t c = λ names s n h.
    let p = read_expr n s c.get-in-Since.result.now in
    let q = read_expr n s c.get-in-Since-2.result.now in
    let e : read_step n s (Expr-F.Since c.in-Since.at p q) ≡ read_expr n s c.args.e.now = rw (c.get-in-Since.ensures, c.get-in-Since-2.ensures, c.in-Since.is, expr-Since) in
    subst (λ (x : Read). IfOk c.over_truths.result (λ (o : Operand). Makes names c.args.arena.now c.over_truths.new.arena (o ∷ []) (x ∷ []))) e
    (c.over_truths.ensures.made names c.args.arena.now c.reserve.new.self c.expr-in-Since.new.arena p q _ h.scope.distinct c.in_ok-number-in-Since.ensures.number c.reserve.ensures.spec c.in_ok-number-in-Since.ensures.forms (c.in_ok-p-in-Since.ensures.made names s n h) (c.in_ok-q-in-Since.ensures.made names s n h))

pub expr-returns-in_ok-q-in-SinceIn-clause-made : goal.expr-returns-in_ok-q-in-SinceIn-clause-made
unfolding read_expr
expr-returns-in_ok-q-in-SinceIn-clause-made t c = λ names s n h.
    let p = read_expr n s c.get-in-SinceIn.result.now in
    let q = read_expr n s c.get-in-SinceIn-2.result.now in
    let e : read_step n s (Expr-F.SinceIn c.in-SinceIn.at c.in-SinceIn.low c.in-SinceIn.high p q) ≡ read_expr n s c.args.e.now = rw (c.get-in-SinceIn.ensures, c.get-in-SinceIn-2.ensures, c.in-SinceIn.is, expr-SinceIn) in
    subst (λ (x : Read). IfOk c.over_truths-in-SinceIn.result (λ (o : Operand). Makes names c.args.arena.now c.over_truths-in-SinceIn.new.arena (o ∷ []) (x ∷ []))) e
    (c.over_truths-in-SinceIn.ensures.made names c.args.arena.now c.reserve-in-SinceIn.new.self c.expr-in-SinceIn.new.arena p q _ h.scope.distinct c.in_ok-number-in-SinceIn.ensures.number c.reserve-in-SinceIn.ensures.spec c.in_ok-number-in-SinceIn.ensures.forms (c.in_ok-p-in-SinceIn.ensures.made names s n h) (c.in_ok-q-in-SinceIn.ensures.made names s n h))

pub expr-returns-in-WindowMax-clause-made : goal.expr-returns-in-WindowMax-clause-made
unfolding read_expr
expr-returns-in-WindowMax-clause-made t c = λ names s n h.
    let e : read_step n s (Expr-F.WindowMax c.in-WindowMax.at c.in-WindowMax.n (read_expr n s c.get-in-WindowMax.result.now)) ≡ read_expr n s c.args.e.now = rw (c.get-in-WindowMax.ensures, c.in-WindowMax.is, expr-WindowMax) in
    subst (λ (x : Read). IfOk c.of_samples.result (λ (o : Operand). Makes names c.args.arena.now c.of_samples.new.arena (o ∷ []) (x ∷ []))) e
    (c.of_samples.ensures.made names s n h)

pub expr-returns-in-WindowMin-clause-made : goal.expr-returns-in-WindowMin-clause-made
unfolding read_expr
expr-returns-in-WindowMin-clause-made t c = λ names s n h.
    let e : read_step n s (Expr-F.WindowMin c.in-WindowMin.at c.in-WindowMin.n (read_expr n s c.get-in-WindowMin.result.now)) ≡ read_expr n s c.args.e.now = rw (c.get-in-WindowMin.ensures, c.in-WindowMin.is, expr-WindowMin) in
    subst (λ (x : Read). IfOk c.of_samples-in-WindowMin.result (λ (o : Operand). Makes names c.args.arena.now c.of_samples-in-WindowMin.new.arena (o ∷ []) (x ∷ []))) e
    (c.of_samples-in-WindowMin.ensures.made names s n h)

pub expr-returns-in-WindowSum-clause-made : goal.expr-returns-in-WindowSum-clause-made
unfolding read_expr
expr-returns-in-WindowSum-clause-made t c = λ names s n h.
    let e : read_step n s (Expr-F.WindowSum c.in-WindowSum.at c.in-WindowSum.n (read_expr n s c.get-in-WindowSum.result.now)) ≡ read_expr n s c.args.e.now = rw (c.get-in-WindowSum.ensures, c.in-WindowSum.is, expr-WindowSum) in
    subst (λ (x : Read). IfOk c.of_samples-in-WindowSum.result (λ (o : Operand). Makes names c.args.arena.now c.of_samples-in-WindowSum.new.arena (o ∷ []) (x ∷ []))) e
    (c.of_samples-in-WindowSum.ensures.made names s n h)

pub of_truth-returns-clause-made : goal.of_truth-returns-clause-made
of_truth-returns-clause-made t c = λ names s n h.
    c.over_truth.ensures.made names c.args.arena.now c.reserve.new.self (read_expr n s c.args.p.now) _ h.scope.distinct c.in_ok-number.ensures.number c.reserve.ensures.spec c.in_ok-number.ensures.forms (c.in_ok-p.ensures.made names s n h)

pub of_samples-returns-clause-made : goal.of_samples-returns-clause-made
of_samples-returns-clause-made t c = λ names s n h.
    c.over_samples.ensures.made names c.args.arena.now c.reserve.new.self (read_expr n s c.args.e.now) _ h.scope.distinct c.in_ok-number.ensures.number c.reserve.ensures.spec c.in_ok-number.ensures.forms (c.in_ok-e.ensures.made names s n h)

there_next : {js : List ℕ} (n m : ℕ) (is : List ℕ) (i : ℕ) → js ≡ is ++ i ∷ [] → n ≤ m → AllByRecursion (λ j. j < n) is → i < m → AllByRecursion (λ j. j < m) js
there_next n m is i e l h b = subst (AllByRecursion (λ j. j < m)) (sym e) (there_more n m is i l h b)

paired_next : {js : List ℕ} {us : List (Option Known)} (is : List ℕ) (ts : List (Option Known)) (i : ℕ) (t : Option Known) → js ≡ is ++ i ∷ [] → us ≡ ts ++ t ∷ [] → length ts ≡ length is → length us ≡ length js
paired_next is ts i t e f p = ap length f ∙ length-append ts (t ∷ []) ∙ ap (λ k. k + 1) p ∙ sym (ap length e ∙ length-append is (i ∷ []))

others_then : (a b c : SpecValue) → c ≡ record b { nodes = c.nodes } → b ≡ record a { nodes = b.nodes } → c ≡ record a { nodes = c.nodes }
others_then a b c e f = e ∙ ap (λ (x : SpecValue). record x { nodes = c.nodes }) f

renamed : {names : List (List ℕ)} {s u : Arena} {ps : List Read} {is js : List ℕ} {ts us : List (Option Known)} → js ≡ is → us ≡ ts → Makes names s u (operands_of is ts) ps → Makes names s u (operands_of js us) ps
renamed {names = names} {s = s} {u = u} {ps = ps} {is = is} {us = us} e f m = subst (λ ks. Makes names s u (operands_of ks us) ps) (sym e) (subst (λ ks. Makes names s u (operands_of is ks) ps) (sym f) m)

pub exprs-loop-e-init : goal.exprs-loop-e-init
exprs-loop-e-init t c =
    let a = c.args.arena.now in
    let is = sym c.new-ids.ensures.items in (
      subst (AllByRecursion (λ j. j < length a.spec.nodes)) is tt,
      ap length c.new-types.ensures.items ∙ ap length is,
      omega arith,
      omega arith,
      refl,
      λ names s n h. subst (λ js. Makes names a a (operands_of js c.new-types.result.items) []) is (makes_none names a),
    )

pub exprs-loop-e-preserved : goal.exprs-loop-e-preserved
exprs-loop-e-preserved t c =
    let a = c.args.arena.now in
    let l = c.loop-e in
    let new = c.expr.new.arena in
    let o = c.in_ok-operand.operand in
    let call = c.in_ok-operand.ensures in
    let v = l.invariant in
    let is = c.in_ok-push.ensures.items in
    let ts = c.in_ok-push-2.ensures.items in (
      there_next (length l.arena.spec.nodes) (length new.spec.nodes) l.ids.items o.id is call.size v.0 call.within,
      paired_next l.ids.items l.types.items o.id o.ty is ts v.1,
      let p = v.2 in let q = call.size in omega (arith, p, q),
      let p = v.3 in let q = call.forms in omega (arith, p, q),
      others_then a.spec l.arena.spec new.spec call.others v.4,
      λ names s n h.
          renamed is ts
          (makes_next (read_expr n s) c.args.all.now l.e-index _ _ l.ids.items l.types.items o c.loop-e-test.true c.e-item.is v.1 (v.5 names s n h) (call.made names s n h)),
    )

pub exprs-returns-clause-made : goal.exprs-returns-clause-made
exprs-returns-clause-made t c = λ names s n h.
    makes_all (read_expr n s) c.args.all.now c.loop-e.e-index (operands_of c.loop-e.ids.items c.loop-e.types.items) (grind (arith, nat_tests, c.loop-e-test.false)) (c.loop-e.invariant.5 names s n h)
