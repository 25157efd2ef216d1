-- The atoms of a surface's form are words.
use Rattle.std.proofs.Common.{◌≡◌, ℕ, ◌<◌, ◌≤◌, ◌^◌, ◌==◌, ◌&&◌, Bool, true, false, nat_lt, nat_le, List, [], ◌∷◌, map, length, refl, sym, ◌∙◌, subst, arith}
use Rattle.std.specs.Prelude.{◌||◌, if◌then◌else◌, codes, decimal}
use Rattle.std.proofs.lemmas.Bool.{and_parts}
use Rattle.std.proofs.lemmas.Bool.Decides.{nat_tests}
use Rattle.sm_io.specs.Words.{is_name}
use Rattle.stream_types.specs.declared.scalar.Scalar.{Scalar}
use Rattle.stream_types.specs.declared.scalar.Scalar.TheVariants as scalar
use Rattle.stream_types.specs.declared.scalar.Op1.{Op1}
use Rattle.stream_types.specs.declared.scalar.Op1.TheVariants as op1
use Rattle.stream_types.specs.declared.scalar.Op2.{Op2}
use Rattle.stream_types.specs.declared.scalar.Op2.TheVariants as op2
use Rattle.stream_types.specs.declared.scalar.Dir.{Dir}
use Rattle.stream_types.specs.declared.scalar.Dir.TheVariants as dir
use Rattle.spec_forest.specs.Layout.{NodeHasWords, HasWords, IsWord}
use Rattle.spec_text.specs.declared.surface.FieldForm.{FieldForm}
use Rattle.spec_text.specs.declared.surface.TypeForm.{TypeForm, map-TypeForm, roll-TypeForm}
use Rattle.spec_text.specs.declared.surface.TypeForm.TheOpen.{TypeForm-F}
use Rattle.spec_text.specs.declared.surface.TypeForm.TheFolds.{fold-roll-TypeForm, ind-TypeForm}
use Rattle.spec_text.specs.declared.surface.ConstForm.{ConstForm, map-ConstForm, roll-ConstForm}
use Rattle.spec_text.specs.declared.surface.ConstForm.TheOpen.{ConstForm-F}
use Rattle.spec_text.specs.declared.surface.ConstForm.TheFolds.{fold-roll-ConstForm, ind-ConstForm}
use Rattle.spec_text.specs.declared.surface.Expr.{Expr, map-Expr, roll-Expr}
use Rattle.spec_text.specs.declared.surface.Expr.TheOpen.{Expr-F}
use Rattle.spec_text.specs.declared.surface.Expr.TheFolds.{fold-roll-Expr, ind-Expr}
use Rattle.spec_text.specs.declared.surface.Decl.{Decl}
use Rattle.spec_text.specs.declared.surface.Decl.TheVariants as d
use Rattle.spec_text.specs.declared.surface.Surface.{Surface}
use Rattle.spec_words.specs.Words.{scalar_word, op1_word, op2_word, dir_word}
use Rattle.spec_text.specs.Form.{Form, form_of_type, form_of_const, form_of_expr, form_of_field, form_of_decl, type_step, const_step, expr_step, forms}
use Rattle.spec_words.specs.Words.{spec_word}
use Rattle.spec_text.specs.KeepsTable.{between, all_kept, kept_from, keeps_name, keeps_type, keeps_const, keeps_expr, keeps_field, keeps_decl, keeps_type_step, keeps_const_step, keeps_expr_step, keeps_table, KeepsTable}
use Rattle.spec_text.specs.Shape.{most_initial}
use Rattle.spec_text.specs.Bare.{bare, bares}
use Rattle.spec_text.proofs.Letters.{name-word, decimal-word, literal-word}

-- ---- words

number-word : (n most : ℕ) → nat_le n most ≡ true → most ≤ 4294967295 → IsWord (decimal n)
number-word n most h low =
    let p : n ≤ most = grind (arith, nat_tests, h) in
    decimal-word n (omega (arith, p))

bounds-words : (low high : ℕ) → between low 128 high ≡ true → IsWord (decimal low) × IsWord (decimal high)
bounds-words low high h =
    let p = and_parts (nat_le low high) (nat_le high 128) h in
    let a : low ≤ high = grind (arith, nat_tests, p.0) in
    let b : high ≤ 128 = grind (arith, nat_tests, p.1) in
    (decimal-word low (omega (arith, a, b)), decimal-word high (omega (arith, b)))

clock-words : (period phase : ℕ) → (nat_lt phase period && nat_lt period (2 ^ 32)) ≡ true → IsWord (decimal period) × IsWord (decimal phase)
clock-words period phase h =
    let p = and_parts (nat_lt phase period) (nat_lt period (2 ^ 32)) h in
    let a : phase < period = grind (arith, nat_tests, p.0) in
    let b : period < 4294967296 = grind (arith, nat_tests, p.1) in
    (decimal-word period (omega (arith, b)), decimal-word phase (omega (arith, a, b)))

scalar-word : (op : Scalar) → IsWord (scalar_word op)
scalar-word scalar.Bool = (omega arith, refl)
scalar-word scalar.Int8 = (omega arith, refl)
scalar-word scalar.Int16 = (omega arith, refl)
scalar-word scalar.Int32 = (omega arith, refl)
scalar-word scalar.Int64 = (omega arith, refl)
scalar-word scalar.Word8 = (omega arith, refl)
scalar-word scalar.Word16 = (omega arith, refl)
scalar-word scalar.Word32 = (omega arith, refl)
scalar-word scalar.Word64 = (omega arith, refl)

op1-word : (op : Op1) → IsWord (op1_word op)
op1-word op1.Not = (omega arith, refl)
op1-word op1.BitNot = (omega arith, refl)

op2-word : (op : Op2) → IsWord (op2_word op)
op2-word op2.Add = (omega arith, refl)
op2-word op2.Sub = (omega arith, refl)
op2-word op2.Mul = (omega arith, refl)
op2-word op2.Quot = (omega arith, refl)
op2-word op2.Rem = (omega arith, refl)
op2-word op2.BitAnd = (omega arith, refl)
op2-word op2.BitOr = (omega arith, refl)
op2-word op2.BitXor = (omega arith, refl)
op2-word op2.Eq = (omega arith, refl)
op2-word op2.Ne = (omega arith, refl)
op2-word op2.Lt = (omega arith, refl)
op2-word op2.Le = (omega arith, refl)
op2-word op2.Gt = (omega arith, refl)
op2-word op2.Ge = (omega arith, refl)

dir-word : (op : Dir) → IsWord (dir_word op)
dir-word dir.Left = (omega arith, refl)
dir-word dir.Right = (omega arith, refl)

-- ---- parts

-- a kept part has words alone
abbrev Worded : {X : Type 0} → (X → Bool) → (X → Form) → X → Type 0
Worded keeps as_form x = keeps x ≡ true → NodeHasWords (bare (as_form x))

abbrev first : {X : Type 0} {P : X → Type 0} → ((x : X) × P x) → X
first e = e.0

each-worded : {X : Type 0} (keeps : X → Bool) (as_form : X → Form) (es : List ((x : X) × Worded keeps as_form x)) → all_kept (map keeps (map first es)) ≡ true → HasWords (bares (forms (map as_form (map first es))))
each-worded keeps as_form [] k = tt
each-worded keeps as_form (e ∷ es) k =
    let p = and_parts (keeps e.0) (all_kept (map keeps (map first es))) k in
    (e.1 p.0, each-worded keeps as_form es p.1)

all-worded : {X : Type 0} (keeps : X → Bool) (as_form : X → Form) → ((x : X) → Worded keeps as_form x) → (xs : List X) → all_kept (map keeps xs) ≡ true → HasWords (bares (forms (map as_form xs)))
all-worded keeps as_form h [] k = tt
all-worded keeps as_form h (x ∷ xs) k =
    let p = and_parts (keeps x) (all_kept (map keeps xs)) k in
    (h x p.0, all-worded keeps as_form h xs p.1)

-- ---- types

abbrev TypeWorded : TypeForm → Type 0
TypeWorded t = Worded keeps_type form_of_type t

abbrev KeptType : Type 0
KeptType = (t : TypeForm) × TypeWorded t

abbrev type_of : TypeForm-F KeptType → TypeForm-F TypeForm
type_of y = map-TypeForm KeptType TypeForm (λ e. e.0) y

type-step : (y : TypeForm-F KeptType) → keeps_type_step (map-TypeForm TypeForm Bool keeps_type (type_of y)) ≡ true → NodeHasWords (bare (type_step (map-TypeForm TypeForm Form form_of_type (type_of y))))
type-step (TypeForm-F.Scalar at s) k = scalar-word s
type-step (TypeForm-F.Named x) k = name-word x.name k
type-step (TypeForm-F.Array at elem n) k =
    let p = and_parts (keeps_type elem.0) (between 1 1024 n) k in
    ((omega arith, refl), (elem.1 p.0, (number-word n 1024 (and_parts (nat_le 1 n) (nat_le n 1024) p.1).1 (omega arith), tt)))

type-rolled : (x : TypeForm-F TypeForm) → (keeps_type_step (map-TypeForm TypeForm Bool keeps_type x) ≡ true → NodeHasWords (bare (type_step (map-TypeForm TypeForm Form form_of_type x)))) → TypeWorded (roll-TypeForm x)
unfolding keeps_type form_of_type
type-rolled x h = λ k. subst (λ (f : Form). NodeHasWords (bare f)) (sym (fold-roll-TypeForm Form type_step x)) (h (sym (fold-roll-TypeForm Bool keeps_type_step x) ∙ k))

pub type-worded : (t : TypeForm) → TypeWorded t
type-worded = ind-TypeForm TypeWorded (λ x y is. subst (λ z. TypeWorded (roll-TypeForm z)) is (type-rolled (type_of y) (type-step y)))

-- ---- constants

abbrev ConstWorded : ConstForm → Type 0
ConstWorded c = Worded keeps_const form_of_const c

abbrev KeptConst : Type 0
KeptConst = (c : ConstForm) × ConstWorded c

abbrev const_of : ConstForm-F KeptConst → ConstForm-F ConstForm
const_of y = map-ConstForm KeptConst ConstForm (λ e. e.0) y

const-step : (y : ConstForm-F KeptConst) → keeps_const_step (map-ConstForm ConstForm Bool keeps_const (const_of y)) ≡ true → NodeHasWords (bare (const_step (map-ConstForm ConstForm Form form_of_const (const_of y))))
const-step (ConstForm-F.Lit at s w) k = literal-word s w k
const-step (ConstForm-F.Array at es) k =
    ((omega arith, refl), each-worded keeps_const form_of_const es (and_parts (between 1 1024 (length (map keeps_const (map first es)))) (all_kept (map keeps_const (map first es))) k).1)
const-step (ConstForm-F.Record at x es) k =
    let p = and_parts (keeps_name x) (nat_le 1 (length (map keeps_const (map first es))) && all_kept (map keeps_const (map first es))) k in
    let q = and_parts (nat_le 1 (length (map keeps_const (map first es)))) (all_kept (map keeps_const (map first es))) p.1 in
    ((omega arith, refl), (name-word x.name p.0, each-worded keeps_const form_of_const es q.1))

const-rolled : (x : ConstForm-F ConstForm) → (keeps_const_step (map-ConstForm ConstForm Bool keeps_const x) ≡ true → NodeHasWords (bare (const_step (map-ConstForm ConstForm Form form_of_const x)))) → ConstWorded (roll-ConstForm x)
unfolding keeps_const form_of_const
const-rolled x h = λ k. subst (λ (f : Form). NodeHasWords (bare f)) (sym (fold-roll-ConstForm Form const_step x)) (h (sym (fold-roll-ConstForm Bool keeps_const_step x) ∙ k))

pub const-worded : (c : ConstForm) → ConstWorded c
const-worded = ind-ConstForm ConstWorded (λ x y is. subst (λ z. ConstWorded (roll-ConstForm z)) is (const-rolled (const_of y) (const-step y)))

-- ---- expressions

abbrev ExprWorded : Expr → Type 0
ExprWorded e = Worded keeps_expr form_of_expr e

abbrev KeptExpr : Type 0
KeptExpr = (e : Expr) × ExprWorded e

abbrev expr_of : Expr-F KeptExpr → Expr-F Expr
expr_of y = map-Expr KeptExpr Expr (λ e. e.0) y

expr-step : (y : Expr-F KeptExpr) → keeps_expr_step (map-Expr Expr Bool keeps_expr (expr_of y)) ≡ true → NodeHasWords (bare (expr_step (map-Expr Expr Form form_of_expr (expr_of y))))
expr-step (Expr-F.Lit at s w) k = literal-word s w k
expr-step (Expr-F.Name x) k = name-word x.name k
expr-step (Expr-F.Drop at n x) k = let p = and_parts (nat_le n 4294967295) (keeps_name x) k in ((omega arith, refl), (number-word n 4294967295 p.0 (omega arith), (name-word x.name p.1, tt)))
expr-step (Expr-F.Un at op a) k = (op1-word op, (a.1 k, tt))
expr-step (Expr-F.Bin at op a b) k = let p = and_parts (keeps_expr a.0) (keeps_expr b.0) k in (op2-word op, (a.1 p.0, (b.1 p.1, tt)))
expr-step (Expr-F.Shift at dir a b) k = let p = and_parts (keeps_expr a.0) (keeps_expr b.0) k in (dir-word dir, (a.1 p.0, (b.1 p.1, tt)))
expr-step (Expr-F.And at a b) k = let p = and_parts (keeps_expr a.0) (keeps_expr b.0) k in ((omega arith, refl), (a.1 p.0, (b.1 p.1, tt)))
expr-step (Expr-F.Or at a b) k = let p = and_parts (keeps_expr a.0) (keeps_expr b.0) k in ((omega arith, refl), (a.1 p.0, (b.1 p.1, tt)))
expr-step (Expr-F.Implies at a b) k = let p = and_parts (keeps_expr a.0) (keeps_expr b.0) k in ((omega arith, refl), (a.1 p.0, (b.1 p.1, tt)))
expr-step (Expr-F.If at c a b) k = let p = and_parts (keeps_expr c.0 && keeps_expr a.0) (keeps_expr b.0) k in let q = and_parts (keeps_expr c.0) (keeps_expr a.0) p.0 in ((omega arith, refl), (c.1 q.0, (a.1 q.1, (b.1 p.1, tt))))
expr-step (Expr-F.Cast at to a) k = let p = and_parts (keeps_type to) (keeps_expr a.0) k in ((omega arith, refl), (type-worded to p.0, (a.1 p.1, tt)))
expr-step (Expr-F.Abs at a) k = ((omega arith, refl), (a.1 k, tt))
expr-step (Expr-F.Sign at a) k = ((omega arith, refl), (a.1 k, tt))
expr-step (Expr-F.Index at a b) k = let p = and_parts (keeps_expr a.0) (keeps_expr b.0) k in ((omega arith, refl), (a.1 p.0, (b.1 p.1, tt)))
expr-step (Expr-F.Field at a x) k = let p = and_parts (keeps_expr a.0) (keeps_name x) k in ((omega arith, refl), (a.1 p.0, (name-word x.name p.1, tt)))
expr-step (Expr-F.Array at es) k = ((omega arith, refl), each-worded keeps_expr form_of_expr es (and_parts (between 1 1024 (length (map keeps_expr (map first es)))) (all_kept (map keeps_expr (map first es))) k).1)
expr-step (Expr-F.Record at x es) k = let p = and_parts (keeps_name x) (nat_le 1 (length (map keeps_expr (map first es))) && all_kept (map keeps_expr (map first es))) k in let q = and_parts (nat_le 1 (length (map keeps_expr (map first es)))) (all_kept (map keeps_expr (map first es))) p.1 in ((omega arith, refl), (name-word x.name p.0, each-worded keeps_expr form_of_expr es q.1))
expr-step (Expr-F.Once at p) k = ((omega arith, refl), (p.1 k, tt))
expr-step (Expr-F.Historically at p) k = ((omega arith, refl), (p.1 k, tt))
expr-step (Expr-F.Yesterday at p) k = ((omega arith, refl), (p.1 k, tt))
expr-step (Expr-F.WeaklyYesterday at p) k = ((omega arith, refl), (p.1 k, tt))
expr-step (Expr-F.Since at a b) k = let p = and_parts (keeps_expr a.0) (keeps_expr b.0) k in ((omega arith, refl), (a.1 p.0, (b.1 p.1, tt)))
expr-step (Expr-F.OnceIn at low high a) k = let p = and_parts (between low 128 high) (keeps_expr a.0) k in let b = bounds-words low high p.0 in ((omega arith, refl), (b.0, (b.1, (a.1 p.1, tt))))
expr-step (Expr-F.HistoricallyIn at low high a) k = let p = and_parts (between low 128 high) (keeps_expr a.0) k in let b = bounds-words low high p.0 in ((omega arith, refl), (b.0, (b.1, (a.1 p.1, tt))))
expr-step (Expr-F.SinceIn at low high a c) k = let p = and_parts (between low 128 high && keeps_expr a.0) (keeps_expr c.0) k in let q = and_parts (between low 128 high) (keeps_expr a.0) p.0 in let b = bounds-words low high q.0 in ((omega arith, refl), (b.0, (b.1, (a.1 q.1, (c.1 p.1, tt)))))
expr-step (Expr-F.Clock at period phase) k = let b = clock-words period phase k in ((omega arith, refl), (b.0, (b.1, tt)))
expr-step (Expr-F.Majority at es) k = ((omega arith, refl), each-worded keeps_expr form_of_expr es (and_parts (between 1 9 (length (map keeps_expr (map first es)))) (all_kept (map keeps_expr (map first es))) k).1)
expr-step (Expr-F.Agreed at es) k = ((omega arith, refl), each-worded keeps_expr form_of_expr es (and_parts (between 1 9 (length (map keeps_expr (map first es)))) (all_kept (map keeps_expr (map first es))) k).1)
expr-step (Expr-F.WindowMax at n a) k = let p = and_parts (between 1 12 n) (keeps_expr a.0) k in ((omega arith, refl), (number-word n 12 (and_parts (nat_le 1 n) (nat_le n 12) p.0).1 (omega arith), (a.1 p.1, tt)))
expr-step (Expr-F.WindowMin at n a) k = let p = and_parts (between 1 12 n) (keeps_expr a.0) k in ((omega arith, refl), (number-word n 12 (and_parts (nat_le 1 n) (nat_le n 12) p.0).1 (omega arith), (a.1 p.1, tt)))
expr-step (Expr-F.WindowSum at n a) k = let p = and_parts (between 1 12 n) (keeps_expr a.0) k in ((omega arith, refl), (number-word n 12 (and_parts (nat_le 1 n) (nat_le n 12) p.0).1 (omega arith), (a.1 p.1, tt)))

expr-rolled : (x : Expr-F Expr) → (keeps_expr_step (map-Expr Expr Bool keeps_expr x) ≡ true → NodeHasWords (bare (expr_step (map-Expr Expr Form form_of_expr x)))) → ExprWorded (roll-Expr x)
unfolding keeps_expr form_of_expr
expr-rolled x h = λ k. subst (λ (f : Form). NodeHasWords (bare f)) (sym (fold-roll-Expr Form expr_step x)) (h (sym (fold-roll-Expr Bool keeps_expr_step x) ∙ k))

pub expr-worded : (e : Expr) → ExprWorded e
expr-worded = ind-Expr ExprWorded (λ x y is. subst (λ z. ExprWorded (roll-Expr z)) is (expr-rolled (expr_of y) (expr-step y)))

-- ---- declarations

field-worded : (f : FieldForm) → Worded keeps_field form_of_field f
field-worded f k = let p = and_parts (keeps_name f.name) (keeps_type f.ty) k in (name-word f.name.name p.0, (type-worded f.ty p.1, tt))

decl-worded : (version : ℕ) (x : Decl) → Worded (keeps_decl version) form_of_decl x
decl-worded version (d.Struct at x fields) k =
    let p = and_parts (keeps_name x) (kept_from 1 64 (map keeps_field fields)) k in
    let q = and_parts (between 1 64 (length (map keeps_field fields))) (all_kept (map keeps_field fields)) p.1 in
    ((omega arith, refl), (name-word x.name p.0, all-worded keeps_field form_of_field field-worded fields q.1))
decl-worded version (d.Extern at x ty) k =
    let p = and_parts (keeps_name x) (keeps_type ty) k in
    ((omega arith, refl), (name-word x.name p.0, (type-worded ty p.1, tt)))
decl-worded version (d.Stream at x ty init e) k =
    let p = and_parts (keeps_name x && keeps_type ty && kept_from 1 (most_initial version) (map keeps_const init)) (keeps_expr e) k in
    let q = and_parts (keeps_name x && keeps_type ty) (kept_from 1 (most_initial version) (map keeps_const init)) p.0 in
    let r = and_parts (keeps_name x) (keeps_type ty) q.0 in
    let i = and_parts (between 1 (most_initial version) (length (map keeps_const init))) (all_kept (map keeps_const init)) q.1 in
    ((omega arith, refl), (name-word x.name r.0, (type-worded ty r.1, (all-worded keeps_const form_of_const const-worded init i.1, (expr-worded e p.1, tt)))))
decl-worded version (d.Def at x ty e) k =
    let p = and_parts (keeps_name x && keeps_type ty) (keeps_expr e) k in
    let q = and_parts (keeps_name x) (keeps_type ty) p.0 in
    ((omega arith, refl), (name-word x.name q.0, (type-worded ty q.1, (expr-worded e p.1, tt))))
decl-worded version (d.Trigger at x guard args) k =
    let p = and_parts (keeps_name x && keeps_expr guard) (kept_from 0 16 (map keeps_expr args)) k in
    let q = and_parts (keeps_name x) (keeps_expr guard) p.0 in
    let i = and_parts (between 0 16 (length (map keeps_expr args))) (all_kept (map keeps_expr args)) p.1 in
    ((omega arith, refl), (name-word x.name q.0, (expr-worded guard q.1, all-worded keeps_expr form_of_expr expr-worded args i.1)))
decl-worded version (d.Observer at x e) k =
    let p = and_parts (keeps_name x) (keeps_expr e) k in
    ((omega arith, refl), (name-word x.name p.0, (expr-worded e p.1, tt)))

-- ---- the whole

spec-word : (b : Bool) → IsWord (if b then codes "spec" else codes "spec2")
spec-word true = (omega arith, refl)
spec-word false = (omega arith, refl)

pub record SurfaceWorded (s : Surface) : Type 0 where
  pub head : IsWord (spec_word s.version)
  pub name : IsWord s.name
  pub items : HasWords (bares (forms (map form_of_decl s.decls)))

pub surface-worded : (s : Surface) → KeepsTable s → SurfaceWorded s
unfolding keeps_table
surface-worded s k =
    let p = and_parts ((s.version == 1 || s.version == 2) && is_name s.name) (all_kept (map (keeps_decl s.version) s.decls)) k in
    let q = and_parts (s.version == 1 || s.version == 2) (is_name s.name) p.0 in
    record { head = spec-word (s.version == 1); name = name-word s.name q.1; items = all-worded (keeps_decl s.version) form_of_decl (decl-worded s.version) s.decls p.1 }
