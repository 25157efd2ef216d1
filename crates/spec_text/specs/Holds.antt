-- What a part that was read has in common with its node: it has the node's form, and keeps the table.
use Rattle.std.specs.Prelude.{◌≡◌, ℕ, List, map, length, IsTrue, ◌≤◌, ◌<◌, Bool, Option, Some, None}
use Rattle.spec_forest.specs.Node.{Node, Nodes, atom, list, none, more}
use Rattle.spec_words.specs.declared.magnitudes.Magnitude.{Magnitude}
use Rattle.spec_words.specs.declared.magnitudes.Magnitude.TheVariants.{Of}
use Rattle.spec_words.specs.Magnitudes.{magnitude_of}
use Rattle.spec_text.specs.declared.surface.NameAt.{NameAt}
use Rattle.spec_text.specs.declared.surface.FieldForm.{FieldForm}
use Rattle.spec_text.specs.declared.surface.TypeForm.{TypeForm}
use Rattle.spec_text.specs.declared.surface.ConstForm.{ConstForm}
use Rattle.spec_text.specs.declared.surface.Expr.{Expr}
use Rattle.spec_text.specs.declared.surface.Decl.{Decl}
use Rattle.spec_text.specs.Form.{none as none_form, more as more_form}
use Rattle.spec_text.specs.Form.{Form, word, form, IsAt, form_of_type, form_of_const, form_of_expr, form_of_field, form_of_decl, name_form, number as number_form, forms, Matches, AllMatch}
use Rattle.spec_text.specs.KeepsTable.{keeps_name, keeps_type, keeps_const, keeps_expr, keeps_field, keeps_decl, all_kept}
use Rattle.spec_text.specs.Shape.{count, number_in}

-- a value and the node that it was read from
abbrev pub Holds : {T : Type 0} → (T → Form) → (T → Bool) → Node → T → Type 0
Holds as_form keeps x v = Matches (as_form v) x × IsTrue (keeps v)

-- some values, and the nodes that they were read from
abbrev pub AllHold : {T : Type 0} → (T → Form) → (T → Bool) → Nodes → List T → Type 0
AllHold as_form keeps xs vs = AllMatch (forms (map as_form vs)) xs × IsTrue (all_kept (map keeps vs)) × (length (map keeps vs) ≡ count xs)

abbrev pub HoldsName : Node → NameAt → Type 0
HoldsName x v = Holds name_form keeps_name x v

abbrev pub HoldsType : Node → TypeForm → Type 0
HoldsType x v = Holds form_of_type keeps_type x v

abbrev pub HoldsConst : Node → ConstForm → Type 0
HoldsConst x v = Holds form_of_const keeps_const x v

abbrev pub HoldsExpr : Node → Expr → Type 0
HoldsExpr x v = Holds form_of_expr keeps_expr x v

abbrev pub HoldsField : Node → FieldForm → Type 0
HoldsField x v = Holds form_of_field keeps_field x v

abbrev pub HoldsDecl : ℕ → Node → Decl → Type 0
HoldsDecl version x v = Holds form_of_decl (keeps_decl version) x v

-- a number from the first to the second, which the node writes
abbrev pub HoldsNumber : ℕ → ℕ → Node → ℕ → Type 0
HoldsNumber low high x n = Matches (number_form n) x × (low ≤ n) × (n ≤ high) × (n ≡ number_in x)

-- a decimal of any size, which the node writes
abbrev pub HoldsDecimal : Node → Magnitude → Type 0
HoldsDecimal x m = (m ≡ magnitude_of (number_in x)) × ((n : ℕ) → m ≡ Of n → Matches (number_form n) x)

-- two bounds
abbrev pub HoldsBounds : Node → Node → ℕ × ℕ → Type 0
HoldsBounds x y n = Matches (number_form n.0) x × Matches (number_form n.1) y × (n.0 ≤ n.1) × (n.1 ≤ 128)

-- a period and a phase below it
abbrev pub HoldsClock : Node → Node → ℕ × ℕ → Type 0
HoldsClock x y n = Matches (number_form n.0) x × Matches (number_form n.1) y × (n.1 < n.0)

-- The form is a list at this place of this word and these items.
abbrev pub IsList : Form → ℕ → List ℕ → Nodes → Type 0
IsList (form place (more_form (word None head') items)) at head parts = IsAt place at × (head ≡ head') × AllMatch items parts
IsList (form place (more_form (word (Some p) head') items)) at head parts = ⊥
IsList (form place (more_form (form p fs) items)) at head parts = ⊥
IsList (form place none_form) at head parts = ⊥
IsList (word place text) at head parts = ⊥

-- a value that was read from a list of this word and these items
abbrev pub HoldsForm : {T : Type 0} → (T → Form) → (T → Bool) → ℕ → List ℕ → Nodes → T → Type 0
HoldsForm as_form keeps at head parts v = IsList (as_form v) at head parts × IsTrue (keeps v)

-- ---- the items of a list

-- the word that begins a list, and the items behind it
abbrev pub word_and_parts : Nodes → Option (List ℕ × Nodes)
word_and_parts none = None
word_and_parts (more (atom at text) xs) = Some (text, xs)
word_and_parts (more (list at ys) xs) = None
