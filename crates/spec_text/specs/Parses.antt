-- What the readers of nodes answer.
use Rattle.std.specs.Prelude.{◌≡◌, ℕ, Bool, true, false, ◌&&◌, nat_le, List, [], Option, Some, None, IfSome, MatchResult, Result, Ok, Err}
use Rattle.std.specs.Global.{Vec}
use Rattle.spec_forest.specs.Node.{Nodes}
use Rattle.spec_text.specs.declared.fault.ShapeFault.{ShapeFault}
use Rattle.spec_text.specs.declared.fault.ShapeFault.TheVariants.{BadForm, BadName, BadLiteral, Memory}
use Rattle.spec_words.specs.declared.head.DeclHead.{DeclHead}
use Rattle.spec_words.specs.declared.head.ConstHead.{ConstHead}
use Rattle.spec_words.specs.declared.head.Head.{Head}
use Rattle.spec_text.specs.declared.surface.ConstForm.{ConstForm}
use Rattle.spec_text.specs.declared.surface.Expr.{Expr}
use Rattle.spec_text.specs.declared.surface.Decl.{Decl}
use Rattle.spec_words.specs.Words.{decl_word, const_word, head_word}
use Rattle.spec_text.specs.Form.{Form, form_of_const, form_of_expr, form_of_decl}
use Rattle.spec_text.specs.KeepsTable.{keeps_const, keeps_expr, keeps_decl}
use Rattle.spec_text.specs.Shape.{SyntaxFault, bad_form, bad_name, bad_literal, Place, Items, decl_items, const_items, expr_items, count, is_within}
use Rattle.spec_text.specs.FirstFault.{fault_among, faults_of}
use Rattle.spec_text.specs.Holds.{HoldsForm, AllHold}

-- the fault that an error tells; want of memory is none
abbrev pub syntax_fault : ShapeFault → Option SyntaxFault
syntax_fault (BadForm at) = Some (bad_form at)
syntax_fault (BadName at) = Some (bad_name at)
syntax_fault (BadLiteral at) = Some (bad_literal at)
syntax_fault Memory = None

-- A value comes where there is no fault and it is as it must be, and an error is the fault. Want of memory is free.
abbrev pub Parses : {T : Type 0} → Option SyntaxFault → (T → Type 0) → Result T ShapeFault → Type 0
Parses fault P (Ok x) = (fault ≡ None) × P x
Parses fault P (Err e) = IfSome (syntax_fault e) (λ f. fault ≡ Some f)

-- of a list's items behind its word: where the list stands, the word, and what the items are
abbrev pub ParsesForm : {T : Type 0} → (T → Form) → (T → Bool) → ℕ → List ℕ → Items → Nodes → Result T ShapeFault → Type 0
ParsesForm as_form keeps at word all parts r = Parses (faults_of at all parts) (HoldsForm as_form keeps at word parts) r

abbrev pub ParsesConst : ℕ → ConstHead → Nodes → Result ConstForm ShapeFault → Type 0
ParsesConst at head parts r = ParsesForm form_of_const keeps_const at (const_word head) (const_items head) parts r

abbrev pub ParsesExpr : ℕ → Head → Nodes → Result Expr ShapeFault → Type 0
ParsesExpr at head parts r = ParsesForm form_of_expr keeps_expr at (head_word head) (expr_items head parts) parts r

-- in a text of this version
abbrev pub ParsesDecl : ℕ → ℕ → DeclHead → Nodes → Result Decl ShapeFault → Type 0
ParsesDecl version at head parts r =
    ParsesForm form_of_decl (keeps_decl version) at (decl_word head) (decl_items version head) parts r

-- of nodes at one place, one after another
abbrev pub ParsesEach : {T : Type 0} → Place → (T → Form) → (T → Bool) → Nodes → Result (Vec T) ShapeFault → Type 0
ParsesEach p as_form keeps xs r = Parses (fault_among [] p xs) (λ v. AllHold as_form keeps xs v.items) r

-- ---- how many items a list has

-- an error where this test of the items fails: the list at this place is no form
abbrev pub FormIff : ℕ → Bool → Result (Unit {0}) ShapeFault → Type 0
FormIff at test r = MatchResult r (λ _. test ≡ true) (λ e. (e ≡ BadForm at) × (test ≡ false))

abbrev pub has_between : ℕ → Option ℕ → Nodes → Bool
has_between least most xs = nat_le least (count xs) && is_within (count xs) most
