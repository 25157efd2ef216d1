-- The fold of each kind of type, constant and expression: the step over the folds of its parts.
use Rattle.std.specs.Prelude.{◌≡◌, ℕ, List, map}
use Rattle.std.proofs.Common.{sym, ◌∙◌, ap}
use Rattle.stream_types.specs.declared.scalar.Scalar.{Scalar}
use Rattle.stream_types.specs.declared.scalar.Op1.{Op1}
use Rattle.stream_types.specs.declared.scalar.Op2.{Op2}
use Rattle.stream_types.specs.declared.scalar.Dir.{Dir}
use Rattle.spec_text.specs.declared.surface.NameAt.{NameAt}
use Rattle.spec_text.specs.declared.surface.TypeForm.{TypeForm, map-TypeForm, roll-TypeForm}
use Rattle.spec_text.specs.declared.surface.TypeForm.TheVariants as t_
use Rattle.spec_text.specs.declared.surface.TypeForm.TheOpen.{TypeForm-F}
use Rattle.spec_text.specs.declared.surface.TypeForm.TheFolds.{fold-TypeForm, fold-roll-TypeForm}
use Rattle.spec_text.specs.declared.surface.ConstForm.{ConstForm, map-ConstForm, roll-ConstForm}
use Rattle.spec_text.specs.declared.surface.ConstForm.TheVariants as c_
use Rattle.spec_text.specs.declared.surface.ConstForm.TheOpen.{ConstForm-F}
use Rattle.spec_text.specs.declared.surface.ConstForm.TheFolds.{fold-ConstForm, fold-roll-ConstForm}
use Rattle.spec_text.specs.declared.surface.Expr.{Expr, map-Expr, roll-Expr}
use Rattle.spec_text.specs.declared.surface.Expr.TheVariants as e_
use Rattle.spec_text.specs.declared.surface.Expr.TheOpen.{Expr-F}
use Rattle.spec_text.specs.declared.surface.Expr.TheFolds.{fold-Expr, fold-roll-Expr}

-- the row of what is rolled up from its parts
type-row : {R : Type 0} (step : TypeForm-F R → R) (x : TypeForm-F TypeForm) (y : TypeForm) → roll-TypeForm x ≡ y →
    fold-TypeForm R step y ≡ step (map-TypeForm TypeForm R (fold-TypeForm R step) x)
type-row {R = R} step x y is = ap (fold-TypeForm R step) (sym is) ∙ fold-roll-TypeForm R step x

pub type-Scalar : {R : Type 0} (step : TypeForm-F R → R) (at : ℕ) (s : Scalar) →
    fold-TypeForm R step (t_.Scalar at s) ≡ step (TypeForm-F.Scalar at s)
type-Scalar step at s = type-row step (TypeForm-F.Scalar at s) (t_.Scalar at s) (t_.rolls-Scalar at s)

pub type-Named : {R : Type 0} (step : TypeForm-F R → R) (x : NameAt) → fold-TypeForm R step (t_.Named x) ≡ step (TypeForm-F.Named x)
type-Named step x = type-row step (TypeForm-F.Named x) (t_.Named x) (t_.rolls-Named x)

pub type-Array : {R : Type 0} (step : TypeForm-F R → R) (at : ℕ) (elem : TypeForm) (n : ℕ) →
    fold-TypeForm R step (t_.Array at elem n) ≡ step (TypeForm-F.Array at (fold-TypeForm R step elem) n)
type-Array step at elem n = type-row step (TypeForm-F.Array at elem n) (t_.Array at elem n) (t_.rolls-Array at elem n)

-- the row of what is rolled up from its parts
const-row : {R : Type 0} (step : ConstForm-F R → R) (x : ConstForm-F ConstForm) (y : ConstForm) → roll-ConstForm x ≡ y →
    fold-ConstForm R step y ≡ step (map-ConstForm ConstForm R (fold-ConstForm R step) x)
const-row {R = R} step x y is = ap (fold-ConstForm R step) (sym is) ∙ fold-roll-ConstForm R step x

pub const-Lit : {R : Type 0} (step : ConstForm-F R → R) (at : ℕ) (s : Scalar) (w : ℕ) →
    fold-ConstForm R step (c_.Lit at s w) ≡ step (ConstForm-F.Lit at s w)
const-Lit step at s w = const-row step (ConstForm-F.Lit at s w) (c_.Lit at s w) (c_.rolls-Lit at s w)

pub const-Array : {R : Type 0} (step : ConstForm-F R → R) (at : ℕ) (items : List ConstForm) →
    fold-ConstForm R step (c_.Array at items) ≡ step (ConstForm-F.Array at (map (fold-ConstForm R step) items))
const-Array step at items = const-row step (ConstForm-F.Array at items) (c_.Array at items) (c_.rolls-Array at items)

pub const-Record : {R : Type 0} (step : ConstForm-F R → R) (at : ℕ) (x : NameAt) (items : List ConstForm) →
    fold-ConstForm R step (c_.Record at x items) ≡ step (ConstForm-F.Record at x (map (fold-ConstForm R step) items))
const-Record step at x items = const-row step (ConstForm-F.Record at x items) (c_.Record at x items) (c_.rolls-Record at x items)

-- the row of what is rolled up from its parts
expr-row : {R : Type 0} (step : Expr-F R → R) (x : Expr-F Expr) (y : Expr) → roll-Expr x ≡ y →
    fold-Expr R step y ≡ step (map-Expr Expr R (fold-Expr R step) x)
expr-row {R = R} step x y is = ap (fold-Expr R step) (sym is) ∙ fold-roll-Expr R step x

pub expr-Lit : {R : Type 0} (step : Expr-F R → R) (at : ℕ) (s : Scalar) (w : ℕ) →
    fold-Expr R step (e_.Lit at s w) ≡ step (Expr-F.Lit at s w)
expr-Lit step at s w = expr-row step (Expr-F.Lit at s w) (e_.Lit at s w) (e_.rolls-Lit at s w)

pub expr-Name : {R : Type 0} (step : Expr-F R → R) (x : NameAt) → fold-Expr R step (e_.Name x) ≡ step (Expr-F.Name x)
expr-Name step x = expr-row step (Expr-F.Name x) (e_.Name x) (e_.rolls-Name x)

pub expr-Drop : {R : Type 0} (step : Expr-F R → R) (at k : ℕ) (x : NameAt) → fold-Expr R step (e_.Drop at k x) ≡ step (Expr-F.Drop at k x)
expr-Drop step at k x = expr-row step (Expr-F.Drop at k x) (e_.Drop at k x) (e_.rolls-Drop at k x)

pub expr-Un : {R : Type 0} (step : Expr-F R → R) (at : ℕ) (op : Op1) (a : Expr) →
    fold-Expr R step (e_.Un at op a) ≡ step (Expr-F.Un at op (fold-Expr R step a))
expr-Un step at op a = expr-row step (Expr-F.Un at op a) (e_.Un at op a) (e_.rolls-Un at op a)

pub expr-Bin : {R : Type 0} (step : Expr-F R → R) (at : ℕ) (op : Op2) (a b : Expr) →
    fold-Expr R step (e_.Bin at op a b) ≡ step (Expr-F.Bin at op (fold-Expr R step a) (fold-Expr R step b))
expr-Bin step at op a b = expr-row step (Expr-F.Bin at op a b) (e_.Bin at op a b) (e_.rolls-Bin at op a b)

pub expr-Shift : {R : Type 0} (step : Expr-F R → R) (at : ℕ) (dir : Dir) (a count : Expr) →
    fold-Expr R step (e_.Shift at dir a count) ≡ step (Expr-F.Shift at dir (fold-Expr R step a) (fold-Expr R step count))
expr-Shift step at dir a count = expr-row step (Expr-F.Shift at dir a count) (e_.Shift at dir a count) (e_.rolls-Shift at dir a count)

pub expr-And : {R : Type 0} (step : Expr-F R → R) (at : ℕ) (a b : Expr) →
    fold-Expr R step (e_.And at a b) ≡ step (Expr-F.And at (fold-Expr R step a) (fold-Expr R step b))
expr-And step at a b = expr-row step (Expr-F.And at a b) (e_.And at a b) (e_.rolls-And at a b)

pub expr-Or : {R : Type 0} (step : Expr-F R → R) (at : ℕ) (a b : Expr) →
    fold-Expr R step (e_.Or at a b) ≡ step (Expr-F.Or at (fold-Expr R step a) (fold-Expr R step b))
expr-Or step at a b = expr-row step (Expr-F.Or at a b) (e_.Or at a b) (e_.rolls-Or at a b)

pub expr-Implies : {R : Type 0} (step : Expr-F R → R) (at : ℕ) (a b : Expr) →
    fold-Expr R step (e_.Implies at a b) ≡ step (Expr-F.Implies at (fold-Expr R step a) (fold-Expr R step b))
expr-Implies step at a b = expr-row step (Expr-F.Implies at a b) (e_.Implies at a b) (e_.rolls-Implies at a b)

pub expr-If : {R : Type 0} (step : Expr-F R → R) (at : ℕ) (c a b : Expr) →
    fold-Expr R step (e_.If at c a b) ≡ step (Expr-F.If at (fold-Expr R step c) (fold-Expr R step a) (fold-Expr R step b))
expr-If step at c a b = expr-row step (Expr-F.If at c a b) (e_.If at c a b) (e_.rolls-If at c a b)

pub expr-Cast : {R : Type 0} (step : Expr-F R → R) (at : ℕ) (to : TypeForm) (a : Expr) →
    fold-Expr R step (e_.Cast at to a) ≡ step (Expr-F.Cast at to (fold-Expr R step a))
expr-Cast step at to a = expr-row step (Expr-F.Cast at to a) (e_.Cast at to a) (e_.rolls-Cast at to a)

pub expr-Abs : {R : Type 0} (step : Expr-F R → R) (at : ℕ) (a : Expr) →
    fold-Expr R step (e_.Abs at a) ≡ step (Expr-F.Abs at (fold-Expr R step a))
expr-Abs step at a = expr-row step (Expr-F.Abs at a) (e_.Abs at a) (e_.rolls-Abs at a)

pub expr-Sign : {R : Type 0} (step : Expr-F R → R) (at : ℕ) (a : Expr) →
    fold-Expr R step (e_.Sign at a) ≡ step (Expr-F.Sign at (fold-Expr R step a))
expr-Sign step at a = expr-row step (Expr-F.Sign at a) (e_.Sign at a) (e_.rolls-Sign at a)

pub expr-Index : {R : Type 0} (step : Expr-F R → R) (at : ℕ) (a i : Expr) →
    fold-Expr R step (e_.Index at a i) ≡ step (Expr-F.Index at (fold-Expr R step a) (fold-Expr R step i))
expr-Index step at a i = expr-row step (Expr-F.Index at a i) (e_.Index at a i) (e_.rolls-Index at a i)

pub expr-Field : {R : Type 0} (step : Expr-F R → R) (at : ℕ) (a : Expr) (x : NameAt) →
    fold-Expr R step (e_.Field at a x) ≡ step (Expr-F.Field at (fold-Expr R step a) x)
expr-Field step at a x = expr-row step (Expr-F.Field at a x) (e_.Field at a x) (e_.rolls-Field at a x)

pub expr-Array : {R : Type 0} (step : Expr-F R → R) (at : ℕ) (items : List Expr) →
    fold-Expr R step (e_.Array at items) ≡ step (Expr-F.Array at (map (fold-Expr R step) items))
expr-Array step at items = expr-row step (Expr-F.Array at items) (e_.Array at items) (e_.rolls-Array at items)

pub expr-Record : {R : Type 0} (step : Expr-F R → R) (at : ℕ) (x : NameAt) (items : List Expr) →
    fold-Expr R step (e_.Record at x items) ≡ step (Expr-F.Record at x (map (fold-Expr R step) items))
expr-Record step at x items = expr-row step (Expr-F.Record at x items) (e_.Record at x items) (e_.rolls-Record at x items)

pub expr-Once : {R : Type 0} (step : Expr-F R → R) (at : ℕ) (p : Expr) →
    fold-Expr R step (e_.Once at p) ≡ step (Expr-F.Once at (fold-Expr R step p))
expr-Once step at p = expr-row step (Expr-F.Once at p) (e_.Once at p) (e_.rolls-Once at p)

pub expr-Historically : {R : Type 0} (step : Expr-F R → R) (at : ℕ) (p : Expr) →
    fold-Expr R step (e_.Historically at p) ≡ step (Expr-F.Historically at (fold-Expr R step p))
expr-Historically step at p = expr-row step (Expr-F.Historically at p) (e_.Historically at p) (e_.rolls-Historically at p)

pub expr-Yesterday : {R : Type 0} (step : Expr-F R → R) (at : ℕ) (p : Expr) →
    fold-Expr R step (e_.Yesterday at p) ≡ step (Expr-F.Yesterday at (fold-Expr R step p))
expr-Yesterday step at p = expr-row step (Expr-F.Yesterday at p) (e_.Yesterday at p) (e_.rolls-Yesterday at p)

pub expr-WeaklyYesterday : {R : Type 0} (step : Expr-F R → R) (at : ℕ) (p : Expr) →
    fold-Expr R step (e_.WeaklyYesterday at p) ≡ step (Expr-F.WeaklyYesterday at (fold-Expr R step p))
expr-WeaklyYesterday step at p = expr-row step (Expr-F.WeaklyYesterday at p) (e_.WeaklyYesterday at p) (e_.rolls-WeaklyYesterday at p)

pub expr-Since : {R : Type 0} (step : Expr-F R → R) (at : ℕ) (p q : Expr) →
    fold-Expr R step (e_.Since at p q) ≡ step (Expr-F.Since at (fold-Expr R step p) (fold-Expr R step q))
expr-Since step at p q = expr-row step (Expr-F.Since at p q) (e_.Since at p q) (e_.rolls-Since at p q)

pub expr-OnceIn : {R : Type 0} (step : Expr-F R → R) (at low high : ℕ) (p : Expr) →
    fold-Expr R step (e_.OnceIn at low high p) ≡ step (Expr-F.OnceIn at low high (fold-Expr R step p))
expr-OnceIn step at low high p = expr-row step (Expr-F.OnceIn at low high p) (e_.OnceIn at low high p) (e_.rolls-OnceIn at low high p)

pub expr-HistoricallyIn : {R : Type 0} (step : Expr-F R → R) (at low high : ℕ) (p : Expr) →
    fold-Expr R step (e_.HistoricallyIn at low high p) ≡ step (Expr-F.HistoricallyIn at low high (fold-Expr R step p))
expr-HistoricallyIn step at low high p = expr-row step (Expr-F.HistoricallyIn at low high p) (e_.HistoricallyIn at low high p) (e_.rolls-HistoricallyIn at low high p)

pub expr-SinceIn : {R : Type 0} (step : Expr-F R → R) (at low high : ℕ) (p q : Expr) →
    fold-Expr R step (e_.SinceIn at low high p q) ≡ step (Expr-F.SinceIn at low high (fold-Expr R step p) (fold-Expr R step q))
expr-SinceIn step at low high p q = expr-row step (Expr-F.SinceIn at low high p q) (e_.SinceIn at low high p q) (e_.rolls-SinceIn at low high p q)

pub expr-Clock : {R : Type 0} (step : Expr-F R → R) (at period phase : ℕ) →
    fold-Expr R step (e_.Clock at period phase) ≡ step (Expr-F.Clock at period phase)
expr-Clock step at period phase = expr-row step (Expr-F.Clock at period phase) (e_.Clock at period phase) (e_.rolls-Clock at period phase)

pub expr-Majority : {R : Type 0} (step : Expr-F R → R) (at : ℕ) (items : List Expr) →
    fold-Expr R step (e_.Majority at items) ≡ step (Expr-F.Majority at (map (fold-Expr R step) items))
expr-Majority step at items = expr-row step (Expr-F.Majority at items) (e_.Majority at items) (e_.rolls-Majority at items)

pub expr-Agreed : {R : Type 0} (step : Expr-F R → R) (at : ℕ) (items : List Expr) →
    fold-Expr R step (e_.Agreed at items) ≡ step (Expr-F.Agreed at (map (fold-Expr R step) items))
expr-Agreed step at items = expr-row step (Expr-F.Agreed at items) (e_.Agreed at items) (e_.rolls-Agreed at items)

pub expr-WindowMax : {R : Type 0} (step : Expr-F R → R) (at n : ℕ) (e : Expr) →
    fold-Expr R step (e_.WindowMax at n e) ≡ step (Expr-F.WindowMax at n (fold-Expr R step e))
expr-WindowMax step at n e = expr-row step (Expr-F.WindowMax at n e) (e_.WindowMax at n e) (e_.rolls-WindowMax at n e)

pub expr-WindowMin : {R : Type 0} (step : Expr-F R → R) (at n : ℕ) (e : Expr) →
    fold-Expr R step (e_.WindowMin at n e) ≡ step (Expr-F.WindowMin at n (fold-Expr R step e))
expr-WindowMin step at n e = expr-row step (Expr-F.WindowMin at n e) (e_.WindowMin at n e) (e_.rolls-WindowMin at n e)

pub expr-WindowSum : {R : Type 0} (step : Expr-F R → R) (at n : ℕ) (e : Expr) →
    fold-Expr R step (e_.WindowSum at n e) ≡ step (Expr-F.WindowSum at n (fold-Expr R step e))
expr-WindowSum step at n e = expr-row step (Expr-F.WindowSum at n e) (e_.WindowSum at n e) (e_.rolls-WindowSum at n e)

pub ruleset type_rows = (type-Scalar, type-Named, type-Array)

pub ruleset const_rows = (const-Lit, const-Array, const-Record)

pub ruleset expr_rows = (expr-Lit, expr-Name, expr-Drop, expr-Un, expr-Bin, expr-Shift, expr-And, expr-Or, expr-Implies, expr-If, expr-Cast, expr-Abs, expr-Sign, expr-Index, expr-Field, expr-Array, expr-Record, expr-Once, expr-Historically, expr-Yesterday, expr-WeaklyYesterday, expr-Since, expr-OnceIn, expr-HistoricallyIn, expr-SinceIn, expr-Clock, expr-Majority, expr-Agreed, expr-WindowMax, expr-WindowMin, expr-WindowSum)
