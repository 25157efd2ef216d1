-- A list at a place is read as the form that its word begins.
use Rattle.std.proofs.Common.{◌≡◌, ℕ, refl, ap, List, [], Bool, Option, Some, None, Result, Ok, Err}
use Rattle.spec_forest.specs.Node.{Nodes, atom, list, none, more}
use Rattle.spec_text.specs.declared.fault.ShapeFault.{ShapeFault}
use Rattle.spec_text.specs.declared.fault.ShapeFault.TheVariants.{BadForm, BadName, BadLiteral, Memory}
use Rattle.spec_text.specs.declared.surface.Surface.{Surface}
use Rattle.spec_text.specs.KeepsTable.{keeps_table}
use Rattle.spec_text.specs.Form.{Form, word, form, Matches, form_of}
use Rattle.spec_text.specs.Form.{none as none_form, more as more_form}
use Rattle.spec_text.specs.Shape.{Items, constant, expression, declaration, top, headed_items, SyntaxFault}
use Rattle.spec_text.specs.Parses.{Parses}
use Rattle.spec_text.specs.FirstFault.{fault_in, faults_of}
use Rattle.spec_text.specs.Holds.{word_and_parts, IsList, HoldsForm, Holds}

pub parses_as : {T : Type 0} (f : Option SyntaxFault) (P Q : T → Type 0) → ((v : T) → P v → Q v) → (r : Result T ShapeFault) → Parses f P r → Parses f Q r
parses_as f P Q h (Ok v) p = (p.0, h v p.1)
parses_as f P Q h (Err Memory) p = p
parses_as f P Q h (Err (BadForm at)) p = p
parses_as f P Q h (Err (BadName at)) p = p
parses_as f P Q h (Err (BadLiteral at)) p = p

matches_list : (f : Form) (at w : ℕ) (head : List ℕ) (parts : Nodes) → IsList f at head parts → Matches f (list at (more (atom w head) parts))
matches_list (form place (more_form (word None head') items)) at w head parts h = (h.0, ((tt, h.1), h.2))
matches_list (form place (more_form (word (Some p) head') items)) at w head parts h = elim h [ ]
matches_list (form place (more_form (form p fs) items)) at w head parts h = elim h [ ]
matches_list (form place none_form) at w head parts h = elim h [ ]
matches_list (word place text) at w head parts h = elim h [ ]

pub holds_list : {T : Type 0} (as_form : T → Form) (keeps : T → Bool) (at w : ℕ) (head : List ℕ) (parts : Nodes) (v : T) → HoldsForm as_form keeps at head parts v → Holds as_form keeps (list at (more (atom w head) parts)) v
holds_list as_form keeps at w head parts v h = (matches_list (as_form v) at w head parts h.0, h.1)

abbrev text_in : Option (List ℕ × Nodes) → List ℕ
text_in None = []
text_in (Some p) = p.0

abbrev parts_in : Option (List ℕ × Nodes) → Nodes
parts_in None = none
parts_in (Some p) = p.1

-- the word and the items behind it
split : (xs ps : Nodes) (text : List ℕ) → word_and_parts xs ≡ Some (text, ps) → (w : ℕ) × (xs ≡ more (atom w text) ps)
split none ps text h = absurd (cc)
split (more (list at ys) xs) ps text h = absurd (cc)
split (more (atom w t) qs) ps text h = (w, rw (ap text_in h, ap parts_in h) refl)

at_const : (at w : ℕ) (text : List ℕ) (ps : Nodes) (all : Items) → headed_items constant text ps ≡ Some all → fault_in constant (list at (more (atom w text) ps)) ≡ faults_of at all ps
at_const at w text ps all e = rw e refl

const_of : {T : Type 0} (as_form : T → Form) (keeps : T → Bool) (at : ℕ) (xs ps : Nodes) (text head : List ℕ) (all : Items) (r : Result T ShapeFault) (w : ℕ) → xs ≡ more (atom w text) ps → headed_items constant text ps ≡ Some all → text ≡ head → Parses (faults_of at all ps) (HoldsForm as_form keeps at head ps) r → Parses (fault_in constant (list at xs)) (Holds as_form keeps (list at xs)) r
const_of as_form keeps at xs ps text head all r w is begins same h =
    rw (is, at_const at w text ps all begins, same)
    (parses_as (faults_of at all ps) (HoldsForm as_form keeps at head ps) (Holds as_form keeps (list at (more (atom w head) ps))) (λ v. holds_list as_form keeps at w head ps v) r h)

pub whole_const : {T : Type 0} (as_form : T → Form) (keeps : T → Bool) (at : ℕ) (xs ps : Nodes) (text head : List ℕ) (all : Items) (r : Result T ShapeFault) → word_and_parts xs ≡ Some (text, ps) → headed_items constant text ps ≡ Some all → text ≡ head → Parses (faults_of at all ps) (HoldsForm as_form keeps at head ps) r → Parses (fault_in constant (list at xs)) (Holds as_form keeps (list at xs)) r
whole_const as_form keeps at xs ps text head all r is begins same h =
    let there = split xs ps text is in
    const_of as_form keeps at xs ps text head all r there.0 there.1 begins same h

at_expr : (at w : ℕ) (text : List ℕ) (ps : Nodes) (all : Items) → headed_items expression text ps ≡ Some all → fault_in expression (list at (more (atom w text) ps)) ≡ faults_of at all ps
at_expr at w text ps all e = rw e refl

expr_of : {T : Type 0} (as_form : T → Form) (keeps : T → Bool) (at : ℕ) (xs ps : Nodes) (text head : List ℕ) (all : Items) (r : Result T ShapeFault) (w : ℕ) → xs ≡ more (atom w text) ps → headed_items expression text ps ≡ Some all → text ≡ head → Parses (faults_of at all ps) (HoldsForm as_form keeps at head ps) r → Parses (fault_in expression (list at xs)) (Holds as_form keeps (list at xs)) r
expr_of as_form keeps at xs ps text head all r w is begins same h =
    rw (is, at_expr at w text ps all begins, same)
    (parses_as (faults_of at all ps) (HoldsForm as_form keeps at head ps) (Holds as_form keeps (list at (more (atom w head) ps))) (λ v. holds_list as_form keeps at w head ps v) r h)

pub whole_expr : {T : Type 0} (as_form : T → Form) (keeps : T → Bool) (at : ℕ) (xs ps : Nodes) (text head : List ℕ) (all : Items) (r : Result T ShapeFault) → word_and_parts xs ≡ Some (text, ps) → headed_items expression text ps ≡ Some all → text ≡ head → Parses (faults_of at all ps) (HoldsForm as_form keeps at head ps) r → Parses (fault_in expression (list at xs)) (Holds as_form keeps (list at xs)) r
whole_expr as_form keeps at xs ps text head all r is begins same h =
    let there = split xs ps text is in
    expr_of as_form keeps at xs ps text head all r there.0 there.1 begins same h

at_decl : (version : ℕ) (at w : ℕ) (text : List ℕ) (ps : Nodes) (all : Items) → headed_items (declaration version) text ps ≡ Some all → fault_in (declaration version) (list at (more (atom w text) ps)) ≡ faults_of at all ps
at_decl version at w text ps all e = rw e refl

decl_of : {T : Type 0} (version : ℕ) (as_form : T → Form) (keeps : T → Bool) (at : ℕ) (xs ps : Nodes) (text head : List ℕ) (all : Items) (r : Result T ShapeFault) (w : ℕ) → xs ≡ more (atom w text) ps → headed_items (declaration version) text ps ≡ Some all → text ≡ head → Parses (faults_of at all ps) (HoldsForm as_form keeps at head ps) r → Parses (fault_in (declaration version) (list at xs)) (Holds as_form keeps (list at xs)) r
decl_of version as_form keeps at xs ps text head all r w is begins same h =
    rw (is, at_decl version at w text ps all begins, same)
    (parses_as (faults_of at all ps) (HoldsForm as_form keeps at head ps) (Holds as_form keeps (list at (more (atom w head) ps))) (λ v. holds_list as_form keeps at w head ps v) r h)

pub whole_decl : {T : Type 0} (version : ℕ) (as_form : T → Form) (keeps : T → Bool) (at : ℕ) (xs ps : Nodes) (text head : List ℕ) (all : Items) (r : Result T ShapeFault) → word_and_parts xs ≡ Some (text, ps) → headed_items (declaration version) text ps ≡ Some all → text ≡ head → Parses (faults_of at all ps) (HoldsForm as_form keeps at head ps) r → Parses (fault_in (declaration version) (list at xs)) (Holds as_form keeps (list at xs)) r
whole_decl version as_form keeps at xs ps text head all r is begins same h =
    let there = split xs ps text is in
    decl_of version as_form keeps at xs ps text head all r there.0 there.1 begins same h

-- ---- the whole

at_top : (at w : ℕ) (text : List ℕ) (ps : Nodes) (all : Items) → headed_items top text ps ≡ Some all → fault_in top (list at (more (atom w text) ps)) ≡ faults_of 0 all ps
at_top at w text ps all e = rw e refl

top_of : (at : ℕ) (xs ps : Nodes) (text head : List ℕ) (all : Items) (r : Result Surface ShapeFault) (w : ℕ) → xs ≡ more (atom w text) ps → headed_items top text ps ≡ Some all → text ≡ head → Parses (faults_of 0 all ps) (HoldsForm form_of keeps_table 0 head ps) r → Parses (fault_in top (list at xs)) (Holds form_of keeps_table (list at xs)) r
top_of at xs ps text head all r w is begins same h =
    rw (is, at_top at w text ps all begins, same)
    (parses_as (faults_of 0 all ps) (HoldsForm form_of keeps_table 0 head ps) (Holds form_of keeps_table (list at (more (atom w head) ps))) (λ v p. ((p.0.0, ((tt, p.0.1), p.0.2)), p.1)) r h)

pub whole_top : (at : ℕ) (xs ps : Nodes) (text head : List ℕ) (all : Items) (r : Result Surface ShapeFault) → word_and_parts xs ≡ Some (text, ps) → headed_items top text ps ≡ Some all → text ≡ head → Parses (faults_of 0 all ps) (HoldsForm form_of keeps_table 0 head ps) r → Parses (fault_in top (list at xs)) (Holds form_of keeps_table (list at xs)) r
whole_top at xs ps text head all r is begins same h =
    let there = split xs ps text is in
    top_of at xs ps text head all r there.0 there.1 begins same h
