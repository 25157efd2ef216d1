-- The tree of each form of resolved expression.
use Rattle.std.specs.Prelude.{◌≡◌, ℕ}
use Rattle.std.proofs.Common.{sym, ◌∙◌, ap}
use Rattle.c_exec.specs.declared.code.Code.{Code}
use Rattle.c_exec.specs.declared.code.Code.TheVariants as e
use Rattle.c_exec.specs.declared.code.Code.TheOpen.{Code-F}
use Rattle.c_exec.specs.declared.code.Code.TheFolds.{fold-roll-Code}
use Rattle.c99_tree.specs.declared.expr.CUn.{CUn}
use Rattle.c99_tree.specs.declared.expr.CBin.{CBin}
use Rattle.c99_tree.specs.declared.types.CScalar.{CScalar}
use Rattle.c_exec.specs.Codes.{Op, word, load, elem, un, bin, choose, conv, met, part, pick, chain, nothing, op_step, op_of}

pub op-Word : (w : ℕ) → op_of (e.Word w) ≡ word w
unfolding op_of
op-Word w = ap op_of (sym (e.rolls-Word w)) ∙ fold-roll-Code Op op_step (Code-F.Word w)

pub op-Load : (at n : ℕ) → op_of (e.Load at n) ≡ load at n
unfolding op_of
op-Load at n = ap op_of (sym (e.rolls-Load at n)) ∙ fold-roll-Code Op op_step (Code-F.Load at n)

pub op-Element : (at n len : ℕ) (t : CScalar) (a : Code) → op_of (e.Element at n len t a) ≡ elem at n len t (op_of a)
unfolding op_of
op-Element at n len t a = ap op_of (sym (e.rolls-Element at n len t a)) ∙ fold-roll-Code Op op_step (Code-F.Element at n len t a)

pub op-Un : (o : CUn) (t : CScalar) (a : Code) → op_of (e.Un o t a) ≡ un o t (op_of a)
unfolding op_of
op-Un o t a = ap op_of (sym (e.rolls-Un o t a)) ∙ fold-roll-Code Op op_step (Code-F.Un o t a)

pub op-Bin : (o : CBin) (s t : CScalar) (a b : Code) → op_of (e.Bin o s t a b) ≡ bin o s t (op_of a) (op_of b)
unfolding op_of
op-Bin o s t a b = ap op_of (sym (e.rolls-Bin o s t a b)) ∙ fold-roll-Code Op op_step (Code-F.Bin o s t a b)

pub op-Choose : (c a b : Code) → op_of (e.Choose c a b) ≡ choose (op_of c) (op_of a) (op_of b)
unfolding op_of
op-Choose c a b = ap op_of (sym (e.rolls-Choose c a b)) ∙ fold-roll-Code Op op_step (Code-F.Choose c a b)

pub op-Convert : (s t : CScalar) (a : Code) → op_of (e.Convert s t a) ≡ conv s t (op_of a)
unfolding op_of
op-Convert s t a = ap op_of (sym (e.rolls-Convert s t a)) ∙ fold-roll-Code Op op_step (Code-F.Convert s t a)

pub op-Met : (a : Code) → op_of (e.Met a) ≡ met (op_of a)
unfolding op_of
op-Met a = ap op_of (sym (e.rolls-Met a)) ∙ fold-roll-Code Op op_step (Code-F.Met a)

pub op-Part : (off n : ℕ) (a : Code) → op_of (e.Part off n a) ≡ part off n (op_of a)
unfolding op_of
op-Part off n a = ap op_of (sym (e.rolls-Part off n a)) ∙ fold-roll-Code Op op_step (Code-F.Part off n a)

pub op-Pick : (n len : ℕ) (a i : Code) → op_of (e.Pick n len a i) ≡ pick n len (op_of a) (op_of i)
unfolding op_of
op-Pick n len a i = ap op_of (sym (e.rolls-Pick n len a i)) ∙ fold-roll-Code Op op_step (Code-F.Pick n len a i)

pub op-Then : (a b : Code) → op_of (e.Then a b) ≡ chain (op_of a) (op_of b)
unfolding op_of
op-Then a b = ap op_of (sym (e.rolls-Then a b)) ∙ fold-roll-Code Op op_step (Code-F.Then a b)

pub op-Nothing : op_of e.Nothing ≡ nothing
unfolding op_of
op-Nothing = ap op_of (sym e.rolls-Nothing) ∙ fold-roll-Code Op op_step Code-F.Nothing

pub ruleset op_laws = (op-Word, op-Load, op-Element, op-Un, op-Bin, op-Choose, op-Convert, op-Met, op-Part, op-Pick, op-Then, op-Nothing)
