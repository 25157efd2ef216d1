-- Types and constants without a fault are those that their nodes hold, and keep the table.
use Rattle.std.proofs.Common.{◌≡◌, ℕ, ◌≤◌, ◌&&◌, Bool, true, false, nat_le, List, [], map, length, Option, Some, None, refl, sym, ◌∙◌, subst, arith}
use Rattle.std.specs.Prelude.{◌||◌, codes, bytes_eq, is_some}
use Rattle.std.proofs.lemmas.Bool.{and_from, and_parts}
use Rattle.std.proofs.lemmas.Bool.Decides.{nat_tests}
use Rattle.sm_io.specs.Words.{is_name}
use Rattle.stream_types.specs.declared.scalar.Scalar.{Scalar}
use Rattle.spec_forest.specs.Node.{Node, Nodes, atom, list}
use Rattle.spec_forest.specs.Node.{none as no_node, more as more_node}
use Rattle.spec_text.specs.declared.surface.TypeForm.{TypeForm, map-TypeForm, roll-TypeForm}
use Rattle.spec_text.specs.declared.surface.TypeForm.TheOpen.{TypeForm-F}
use Rattle.spec_text.specs.declared.surface.TypeForm.TheFolds.{fold-roll-TypeForm}
use Rattle.spec_text.specs.declared.surface.ConstForm.{ConstForm, map-ConstForm, roll-ConstForm}
use Rattle.spec_text.specs.declared.surface.ConstForm.TheOpen.{ConstForm-F}
use Rattle.spec_text.specs.declared.surface.ConstForm.TheFolds.{fold-roll-ConstForm}
use Rattle.spec_words.specs.declared.head.ConstHead.{ConstHead}
use Rattle.spec_words.specs.declared.head.ConstHead.TheVariants as constant_head
use Rattle.spec_words.specs.Words.{scalar_of, const_head}
use Rattle.spec_words.specs.Decimals.{is_decimal, value_of}
use Rattle.spec_words.specs.Literals.{literal_of}
use Rattle.spec_words.proofs.WordLaws.{same_bytes, found_scalar, found_const}
use Rattle.spec_words.proofs.DecimalLaws.{decimal-value_of}
use Rattle.spec_words.proofs.LiteralLaws.{literal_word, literal_spelled}
use Rattle.spec_text.specs.Form.{Form, form_of_type, form_of_const, type_step, const_step, Matches}
use Rattle.spec_text.specs.Form.{number as number_form}
use Rattle.spec_text.specs.KeepsTable.{between, all_kept, kept_from, keeps_name, keeps_type, keeps_const, keeps_type_step, keeps_const_step}
use Rattle.spec_text.specs.Shape.{SyntaxFault, bad_form, bad_name, bad_literal, Place, Items, ty, constant, name, number, count, number_in, unless, type_items, const_items, headed_items}
use Rattle.spec_text.specs.Shape.{decimal as decimal_place}
use Rattle.spec_text.specs.FirstFault.{or_else, fault_in, fault_among, faults_of}
use Rattle.spec_text.specs.Holds.{Holds, AllHold, HoldsName, HoldsType, HoldsConst}
use Rattle.spec_text.proofs.Counts.{kept_count, kept_some}
use Rattle.spec_text.proofs.Read.{each_in, name_in, named, type_in, type_atom, const_in, consts_in, const_atom, const_list}
use Rattle.spec_text.proofs.ReadForms.{consts-each}

-- ---- no fault

pub or-parts : (a b : Option SyntaxFault) → or_else a b ≡ None → (a ≡ None) × (b ≡ None)
or-parts None b e = (refl, e)
or-parts (Some f) b e = absurd (cc)

pub first-fine : (a b : Option SyntaxFault) → or_else a b ≡ None → a ≡ None
first-fine a b e = (or-parts a b e).0

pub unless-none : (b : Bool) (f : SyntaxFault) → unless b f ≡ None → b ≡ true
unless-none true f e = refl
unless-none false f e = absurd (cc)

-- ---- items

-- what holds of each node
abbrev pub Each : (Node → Type 0) → Nodes → Type 0
Each P no_node = Unit {0}
Each P (more_node x xs) = P x × Each P xs

-- Without a fault at its place the node holds what is read from it.
abbrev pub Held : {T : Type 0} → Place → (T → Form) → (T → Bool) → (Node → T) → Node → Type 0
Held p as_form keeps read x = fault_in p x ≡ None → Holds as_form keeps x (read x)

pub each-held : {T : Type 0} (p : Place) (as_form : T → Form) (keeps : T → Bool) (read : Node → T) (xs : Nodes) → Each (Held p as_form keeps read) xs → fault_among [] p xs ≡ None
    → AllHold as_form keeps xs (each_in read xs)
each-held p as_form keeps read no_node h e = (tt, refl, refl)
each-held p as_form keeps read (more_node x xs) h e =
    let q = or-parts (fault_in p x) (fault_among [] p xs) e in
    let one = h.0 q.0 in
    let others = each-held p as_form keeps read xs h.1 q.1 in
    ((one.0, others.0), and_from (keeps (read x)) (all_kept (map keeps (each_in read xs))) one.1 others.1, omega (arith, others.2))

-- so many items, and each of them held
pub several : {T : Type 0} (at low high : ℕ) (p : Place) (as_form : T → Form) (keeps : T → Bool) (read : Node → T) (xs : Nodes) → Each (Held p as_form keeps read) xs
    → or_else (unless (nat_le low (count xs) && nat_le (count xs) high) (bad_form at)) (fault_among [] p xs) ≡ None
    → AllHold as_form keeps xs (each_in read xs) × (kept_from low high (map keeps (each_in read xs)) ≡ true)
several at low high p as_form keeps read xs h e =
    let q = or-parts (unless (nat_le low (count xs) && nat_le (count xs) high) (bad_form at)) (fault_among [] p xs) e in
    let items = each-held p as_form keeps read xs h q.1 in
    (items, kept_count low high xs (map keeps (each_in read xs)) (unless-none (nat_le low (count xs) && nat_le (count xs) high) (bad_form at) q.0) items.1 items.2)

pub every : {P : Node → Type 0} → ((x : Node) → P x) → (xs : Nodes) → Each P xs
every h no_node = tt
every h (more_node x xs) = (h x, every h xs)

-- ---- names and numbers

pub name-held : (x : Node) → fault_in name x ≡ None → HoldsName x (name_in x)
name-held (atom at text) e = ((refl, refl), unless-none (is_name text) (bad_name at) e)
name-held (list at xs) e = absurd (cc)

pub number-held : (low high : ℕ) (x : Node) → high ≤ 4294967295 → fault_in (number low high) x ≡ None → Matches (number_form (number_in x)) x × (between low high (number_in x) ≡ true)
number-held low high (list at xs) small e = absurd (cc)
number-held low high (atom at text) small e =
    let p = and_parts (is_decimal text) (nat_le low (value_of text) && nat_le (value_of text) high) (unless-none (is_decimal text && (nat_le low (value_of text) && nat_le (value_of text) high)) (bad_literal at) e) in
    let q = and_parts (nat_le low (value_of text)) (nat_le (value_of text) high) p.1 in
    let m : value_of text ≤ high = grind (arith, nat_tests, q.1) in
    ((tt, sym (decimal-value_of text p.0 (omega (arith, m, small)))), p.1)

pub decimal-held : (x : Node) → number_in x ≤ 128 → fault_in decimal_place x ≡ None → Matches (number_form (number_in x)) x
decimal-held (list at xs) small e = absurd (cc)
decimal-held (atom at text) small e = (tt, sym (decimal-value_of text (unless-none (is_decimal text) (bad_literal at) e) (omega (arith, small))))

-- ---- types

type-rolled : (t : TypeForm-F TypeForm) (x : Node) → Matches (type_step (map-TypeForm TypeForm Form form_of_type t)) x → keeps_type_step (map-TypeForm TypeForm Bool keeps_type t) ≡ true → HoldsType x (roll-TypeForm t)
unfolding form_of_type keeps_type
type-rolled t x m k = (subst (λ (f : Form). Matches f x) (sym (fold-roll-TypeForm Form type_step t)) m, fold-roll-TypeForm Bool keeps_type_step t ∙ k)

type-atom : (at : ℕ) (text : List ℕ) (o : Option Scalar) → scalar_of text ≡ o → unless (is_some o || is_name text) (bad_name at) ≡ None → HoldsType (atom at text) (type_atom at text o)
type-atom at text (Some s) h e = type-rolled (TypeForm-F.Scalar at s) (atom at text) (refl, found_scalar text s h) refl
type-atom at text None h e = type-rolled (TypeForm-F.Named (named at text)) (atom at text) (refl, refl) (unless-none (is_name text) (bad_name at) e)

at-array : (at p : ℕ) (text : List ℕ) (ps : Nodes) → bytes_eq text (codes "array") ≡ true → fault_in ty (list at (more_node (atom p text) ps)) ≡ faults_of at type_items ps
at-array at p text ps e = rw e refl

at-none : (at p : ℕ) (text : List ℕ) (ps : Nodes) → bytes_eq text (codes "array") ≡ false → fault_in ty (list at (more_node (atom p text) ps)) ≡ Some (bad_form at)
at-none at p text ps e = rw e refl

abbrev TypeHeld : Node → Type 0
TypeHeld x = Held ty form_of_type keeps_type type_in x

array-held : (at p : ℕ) (text : List ℕ) (ps : Nodes) → Each TypeHeld ps → text ≡ codes "array" → faults_of at type_items ps ≡ None → HoldsType (list at (more_node (atom p text) ps)) (type_in (list at (more_node (atom p text) ps)))
array-held at p text no_node h same e = absurd (cc)
array-held at p text (more_node x no_node) h same e = absurd (cc)
array-held at p text (more_node x (more_node y (more_node z zs))) h same e = absurd (cc)
array-held at p text (more_node x (more_node y no_node)) h same e =
    let q = or-parts (fault_in ty x) (or_else (fault_in (number 1 1024) y) None) e in
    let elem = h.0 q.0 in
    let n = number-held 1 1024 y (omega arith) (or-parts (fault_in (number 1 1024) y) None q.1).0 in
    type-rolled (TypeForm-F.Array at (type_in x) (number_in y)) (list at (more_node (atom p text) (more_node x (more_node y no_node))))
    (refl, ((tt, same), (elem.0, (n.0, tt)))) (and_from (keeps_type (type_in x)) (between 1 1024 (number_in y)) elem.1 n.1)

type-list : (at : ℕ) (xs : Nodes) → Each TypeHeld xs → TypeHeld (list at xs)
type-list at no_node h e = absurd (cc)
type-list at (more_node (list p ys) ps) h e = absurd (cc)
type-list at (more_node (atom p text) ps) h e = by (bytes_eq text (codes "array")) refl where
  by : (b : Bool) → bytes_eq text (codes "array") ≡ b → HoldsType (list at (more_node (atom p text) ps)) (type_in (list at (more_node (atom p text) ps)))
  by true is = array-held at p text ps h.1 (same_bytes text (codes "array") is) (sym (at-array at p text ps is) ∙ e)
  by false is = absurd (let no : Some (bad_form at) ≡ None = sym (at-none at p text ps is) ∙ e in cc)

mutual
  pub type-held : (x : Node) → TypeHeld x
  type-held (atom at text) = λ e. type-atom at text (scalar_of text) refl e
  type-held (list at xs) = type-list at xs (types-held xs)

  types-held : (xs : Nodes) → Each TypeHeld xs
  types-held no_node = tt
  types-held (more_node x xs) = (type-held x, types-held xs)

-- ---- constants

const-rolled : (c : ConstForm-F ConstForm) (x : Node) → Matches (const_step (map-ConstForm ConstForm Form form_of_const c)) x → keeps_const_step (map-ConstForm ConstForm Bool keeps_const c) ≡ true → HoldsConst x (roll-ConstForm c)
unfolding form_of_const keeps_const
const-rolled c x m k = (subst (λ (f : Form). Matches f x) (sym (fold-roll-ConstForm Form const_step c)) m, fold-roll-ConstForm Bool keeps_const_step c ∙ k)

const-atom : (at : ℕ) (text : List ℕ) (o : Option (Scalar × ℕ)) → literal_of text ≡ o → unless (is_some o) (bad_literal at) ≡ None → HoldsConst (atom at text) (const_atom at o)
const-atom at text None h e = absurd (cc)
const-atom at text (Some l) h e = const-rolled (ConstForm-F.Lit at l.0 l.1) (atom at text) (refl, literal_spelled text l.0 l.1 h) (literal_word text l.0 l.1 h)

abbrev ConstHeld : Node → Type 0
ConstHeld x = Held constant form_of_const keeps_const const_in x

consts-among : (xs : Nodes) → Each ConstHeld xs → fault_among [] constant xs ≡ None → AllHold form_of_const keeps_const xs (consts_in xs)
consts-among xs h e = subst (λ (cs : List ConstForm). AllHold form_of_const keeps_const xs cs) (sym (consts-each xs)) (each-held constant form_of_const keeps_const const_in xs h e)

at-const : (at p : ℕ) (text : List ℕ) (ps : Nodes) (all : Items) → headed_items constant text ps ≡ Some all → fault_in constant (list at (more_node (atom p text) ps)) ≡ faults_of at all ps
at-const at p text ps all e = rw e refl

no-const : (at p : ℕ) (text : List ℕ) (ps : Nodes) → headed_items constant text ps ≡ None → fault_in constant (list at (more_node (atom p text) ps)) ≡ Some (bad_form at)
no-const at p text ps e = rw e refl

abbrev ConstListHeld : ℕ → ℕ → List ℕ → Nodes → Option ConstHead → Type 0
ConstListHeld at p text ps o = HoldsConst (list at (more_node (atom p text) ps)) (const_list at o ps (consts_in ps))

array-const : (at p : ℕ) (text : List ℕ) (ps : Nodes) → Each ConstHeld ps → text ≡ codes "array" → or_else (unless (nat_le 1 (count ps) && nat_le (count ps) 1024) (bad_form at)) (fault_among [] constant ps) ≡ None → ConstListHeld at p text ps (Some constant_head.Array)
array-const at p text ps h same e =
    let s = subst (λ (cs : List ConstForm). AllHold form_of_const keeps_const ps cs × (kept_from 1 1024 (map keeps_const cs) ≡ true)) (sym (consts-each ps)) (several at 1 1024 constant form_of_const keeps_const const_in ps h e) in
    const-rolled (ConstForm-F.Array at (consts_in ps)) (list at (more_node (atom p text) ps)) (refl, ((tt, same), s.0.0)) s.1

record-const : (at p : ℕ) (text : List ℕ) (x : Node) (ps : Nodes) → Each ConstHeld ps → text ≡ codes "record"
    → or_else (unless (nat_le 1 (count ps) && true) (bad_form at)) (or_else (fault_in name x) (fault_among [] constant ps)) ≡ None → ConstListHeld at p text (more_node x ps) (Some constant_head.Record)
record-const at p text x ps h same e =
    let q = or-parts (unless (nat_le 1 (count ps) && true) (bad_form at)) (or_else (fault_in name x) (fault_among [] constant ps)) e in
    let r = or-parts (fault_in name x) (fault_among [] constant ps) q.1 in
    let n = name-held x r.0 in
    let items = consts-among ps h r.1 in
    const-rolled (ConstForm-F.Record at (name_in x) (consts_in ps)) (list at (more_node (atom p text) (more_node x ps))) (refl, ((tt, same), (n.0, items.0)))
    (and_from (keeps_name (name_in x)) (nat_le 1 (length (map keeps_const (consts_in ps))) && all_kept (map keeps_const (consts_in ps))) n.1
    (kept_some ps (map keeps_const (consts_in ps)) (unless-none (nat_le 1 (count ps) && true) (bad_form at) q.0) items.1 items.2))

const-headed : (at p : ℕ) (text : List ℕ) (ps : Nodes) (o : Option ConstHead) → Each ConstHeld ps → const_head text ≡ o → fault_in constant (list at (more_node (atom p text) ps)) ≡ None → ConstListHeld at p text ps o
const-headed at p text ps None h is e = absurd (let no : Some (bad_form at) ≡ None = sym (no-const at p text ps (rw is refl)) ∙ e in cc)
const-headed at p text ps (Some constant_head.Array) h is e =
    array-const at p text ps h (found_const text constant_head.Array is) (sym (at-const at p text ps (const_items constant_head.Array) (rw is refl)) ∙ e)
const-headed at p text no_node (Some constant_head.Record) h is e = absurd (let no : Some (bad_form at) ≡ None = sym (at-const at p text no_node (const_items constant_head.Record) (rw is refl)) ∙ e in cc)
const-headed at p text (more_node x ps) (Some constant_head.Record) h is e =
    record-const at p text x ps h.1 (found_const text constant_head.Record is) (sym (at-const at p text (more_node x ps) (const_items constant_head.Record) (rw is refl)) ∙ e)

const-list : (at : ℕ) (xs : Nodes) → Each ConstHeld xs → ConstHeld (list at xs)
const-list at no_node h e = absurd (cc)
const-list at (more_node (list p ys) ps) h e = absurd (cc)
const-list at (more_node (atom p text) ps) h e = const-headed at p text ps (const_head text) h.1 refl e

mutual
  pub const-held : (x : Node) → ConstHeld x
  const-held (atom at text) = λ e. const-atom at text (literal_of text) refl e
  const-held (list at xs) = const-list at xs (consts-held xs)

  consts-held : (xs : Nodes) → Each ConstHeld xs
  consts-held no_node = tt
  consts-held (more_node x xs) = (const-held x, consts-held xs)
