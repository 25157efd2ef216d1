-- Types and constants that are kept are read from the nodes that match their forms.
use Rattle.std.proofs.Common.{◌≡◌, ℕ, ◌≤◌, ◌&&◌, Bool, true, nat_le, List, ◌∷◌, map, length, refl, ap, sym, ◌∙◌, subst, arith}
use Rattle.std.specs.Prelude.{codes}
use Rattle.std.proofs.lemmas.Bool.{and_parts}
use Rattle.std.proofs.lemmas.Bool.Decides.{nat_tests}
use Rattle.spec_forest.specs.Node.{Nodes, atom, list}
use Rattle.spec_forest.specs.Node.{none as no_node, more as more_node}
use Rattle.spec_text.specs.declared.surface.TypeForm.{TypeForm, map-TypeForm, roll-TypeForm}
use Rattle.spec_text.specs.declared.surface.TypeForm.TheOpen.{TypeForm-F}
use Rattle.spec_text.specs.declared.surface.TypeForm.TheFolds.{fold-roll-TypeForm, ind-TypeForm}
use Rattle.spec_text.specs.declared.surface.ConstForm.{ConstForm, map-ConstForm, roll-ConstForm}
use Rattle.spec_text.specs.declared.surface.ConstForm.TheOpen.{ConstForm-F}
use Rattle.spec_text.specs.declared.surface.ConstForm.TheFolds.{fold-roll-ConstForm, ind-ConstForm}
use Rattle.spec_words.specs.Words.{scalar_word, const_head}
use Rattle.spec_words.specs.Literals.{literal_text}
use Rattle.spec_text.specs.Form.{Form, number, form_of_type, form_of_const, type_step, const_step, forms}
use Rattle.spec_text.specs.KeepsTable.{between, all_kept, keeps_name, keeps_type, keeps_const, keeps_type_step, keeps_const_step}
use Rattle.spec_text.specs.Shape.{number_in}
use Rattle.spec_words.proofs.ReadBack.{scalar-read}
use Rattle.spec_text.proofs.Read.{each_in, name_in, type_in, type_atom, const_in, const_atom, consts_in}
use Rattle.spec_text.proofs.ReadWords.{literal-read, name-no-scalar}
use Rattle.spec_text.proofs.ReadParts.{IsRead, AreRead, Kept, fst, atom-is, headed-is, many-are, two-are, front-are, number-is, name-is, each-are}

-- ---- numbers

pub number-to : (n low high : ℕ) → between low high n ≡ true → high ≤ 4294967295 → IsRead number_in (number n) n
number-to n low high h small =
    let p = and_parts (nat_le low n) (nat_le n high) h in
    let q : n ≤ high = grind (arith, nat_tests, p.1) in
    number-is n (omega (arith, q))

-- ---- types

abbrev TypeRead : TypeForm → Type 0
TypeRead t = Kept keeps_type form_of_type type_in t

abbrev KeptType : Type 0
KeptType = (t : TypeForm) × TypeRead t

abbrev type_of : TypeForm-F KeptType → TypeForm-F TypeForm
type_of y = map-TypeForm KeptType TypeForm (λ e. e.0) y

type-step : (y : TypeForm-F KeptType) → keeps_type_step (map-TypeForm TypeForm Bool keeps_type (type_of y)) ≡ true → IsRead type_in (type_step (map-TypeForm TypeForm Form form_of_type (type_of y))) (roll-TypeForm (type_of y))
type-step (TypeForm-F.Scalar at s) k =
    atom-is type_in at (scalar_word s) (roll-TypeForm (TypeForm-F.Scalar at s)) (ap (type_atom at (scalar_word s)) (scalar-read s))
type-step (TypeForm-F.Named x) k =
    atom-is type_in x.at x.name (roll-TypeForm (TypeForm-F.Named x)) (ap (type_atom x.at x.name) (name-no-scalar x.name k))
type-step (TypeForm-F.Array at elem n) k =
    let p = and_parts (keeps_type elem.0) (between 1 1024 n) k in
    headed-is type_in at (codes "array") (λ w. two-are (λ xs. type_in (list at (more_node (atom w (codes "array")) xs))) type_in number_in (λ t m. roll-TypeForm (TypeForm-F.Array at t m)) (λ x y. refl) (elem.1 p.0) (number-to n 1 1024 p.1 (omega arith)))

type-rolled : (x : TypeForm-F TypeForm) → (keeps_type_step (map-TypeForm TypeForm Bool keeps_type x) ≡ true → IsRead type_in (type_step (map-TypeForm TypeForm Form form_of_type x)) (roll-TypeForm x)) → TypeRead (roll-TypeForm x)
unfolding keeps_type form_of_type
type-rolled x h = λ k. subst (λ (f : Form). IsRead type_in f (roll-TypeForm x)) (sym (fold-roll-TypeForm Form type_step x)) (h (sym (fold-roll-TypeForm Bool keeps_type_step x) ∙ k))

pub type-read : (t : TypeForm) → TypeRead t
type-read = ind-TypeForm TypeRead (λ x y is. subst (λ z. TypeRead (roll-TypeForm z)) is (type-rolled (type_of y) (type-step y)))

-- ---- constants

abbrev ConstRead : ConstForm → Type 0
ConstRead c = Kept keeps_const form_of_const const_in c

abbrev KeptConst : Type 0
KeptConst = (c : ConstForm) × ConstRead c

abbrev const_of : ConstForm-F KeptConst → ConstForm-F ConstForm
const_of y = map-ConstForm KeptConst ConstForm (λ e. e.0) y

pub consts-each : (xs : Nodes) → consts_in xs ≡ each_in const_in xs
consts-each no_node = refl
consts-each (more_node x xs) = ap (λ (cs : List ConstForm). const_in x ∷ cs) (consts-each xs)

consts-read : (es : List KeptConst) → all_kept (map keeps_const (map fst es)) ≡ true → AreRead (λ xs. consts_in xs) (forms (map form_of_const (map fst es))) (map fst es)
consts-read es k = many-are (λ xs. consts_in xs) (λ xs. each_in const_in xs) (λ cs. cs) consts-each (each-are keeps_const form_of_const const_in es k)

const-step : (y : ConstForm-F KeptConst) → keeps_const_step (map-ConstForm ConstForm Bool keeps_const (const_of y)) ≡ true → IsRead const_in (const_step (map-ConstForm ConstForm Form form_of_const (const_of y))) (roll-ConstForm (const_of y))
unfolding const_head
const-step (ConstForm-F.Lit at s w) k =
    atom-is const_in at (literal_text s w) (roll-ConstForm (ConstForm-F.Lit at s w)) (ap (const_atom at) (literal-read s w k))
const-step (ConstForm-F.Array at es) k =
    let p = and_parts (between 1 1024 (length (map keeps_const (map fst es)))) (all_kept (map keeps_const (map fst es))) k in
    headed-is const_in at (codes "array") (λ w. many-are (λ xs. const_in (list at (more_node (atom w (codes "array")) xs))) (λ xs. consts_in xs) (λ cs. roll-ConstForm (ConstForm-F.Array at cs)) (λ xs. refl) (consts-read es p.1))
const-step (ConstForm-F.Record at x es) k =
    let p = and_parts (keeps_name x) (nat_le 1 (length (map keeps_const (map fst es))) && all_kept (map keeps_const (map fst es))) k in
    let q = and_parts (nat_le 1 (length (map keeps_const (map fst es)))) (all_kept (map keeps_const (map fst es))) p.1 in
    headed-is const_in at (codes "record") (λ w. front-are (λ xs. const_in (list at (more_node (atom w (codes "record")) xs))) name_in (λ xs. consts_in xs) (λ n cs. roll-ConstForm (ConstForm-F.Record at n cs)) (λ y xs. refl) (name-is x) (consts-read es q.1))

const-rolled : (x : ConstForm-F ConstForm) → (keeps_const_step (map-ConstForm ConstForm Bool keeps_const x) ≡ true → IsRead const_in (const_step (map-ConstForm ConstForm Form form_of_const x)) (roll-ConstForm x)) → ConstRead (roll-ConstForm x)
unfolding keeps_const form_of_const
const-rolled x h = λ k. subst (λ (f : Form). IsRead const_in f (roll-ConstForm x)) (sym (fold-roll-ConstForm Form const_step x)) (h (sym (fold-roll-ConstForm Bool keeps_const_step x) ∙ k))

pub const-read : (c : ConstForm) → ConstRead c
const-read = ind-ConstForm ConstRead (λ x y is. subst (λ z. ConstRead (roll-ConstForm z)) is (const-rolled (const_of y) (const-step y)))
