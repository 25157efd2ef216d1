-- Resolved expressions and statements as trees, without where they lie in memory.
use Rattle.std.specs.Prelude.{ℕ}
use Rattle.c_exec.specs.declared.code.Code.{Code}
use Rattle.c_exec.specs.declared.code.Code.TheOpen.{Code-F}
use Rattle.c_exec.specs.declared.code.Code.TheFolds.{fold-Code}
use Rattle.c_exec.specs.declared.code.Line.{Line}
use Rattle.c_exec.specs.declared.code.Line.TheVariants as l
use Rattle.c99_tree.specs.declared.expr.CUn.{CUn}
use Rattle.c99_tree.specs.declared.expr.CBin.{CBin}
use Rattle.c99_tree.specs.declared.types.CScalar.{CScalar}

-- one constructor for each form, in the order of the forms
pub data Op : Type 0 where
  word : ℕ → Op
  load : ℕ → ℕ → Op
  elem : ℕ → ℕ → ℕ → CScalar → Op → Op
  un : CUn → CScalar → Op → Op
  bin : CBin → CScalar → CScalar → Op → Op → Op
  choose : Op → Op → Op → Op
  conv : CScalar → CScalar → Op → Op
  met : Op → Op
  part : ℕ → ℕ → Op → Op
  pick : ℕ → ℕ → Op → Op → Op
  chain : Op → Op → Op
  nothing : Op

abbrev pub op_step : Code-F Op → Op
op_step (Code-F.Word w) = word w
op_step (Code-F.Load at n) = load at n
op_step (Code-F.Element at n len t a) = elem at n len t a
op_step (Code-F.Un o t a) = un o t a
op_step (Code-F.Bin o s t a b) = bin o s t a b
op_step (Code-F.Choose c a b) = choose c a b
op_step (Code-F.Convert s t a) = conv s t a
op_step (Code-F.Met a) = met a
op_step (Code-F.Part off n a) = part off n a
op_step (Code-F.Pick n len a i) = pick n len a i
op_step (Code-F.Then a b) = chain a b
op_step Code-F.Nothing = nothing

-- the tree of a resolved expression
unfoldable pub op_of : Code → Op
op_of = fold-Code Op op_step

-- one constructor for each form of statement
pub data Act : Type 0 where
  copies : ℕ → ℕ → Act
  calls : ℕ → Op → Op → Act
  nexts : ℕ → Op → Act
  stores : ℕ → ℕ → ℕ → CScalar → Op → ℕ → Act
  moves : ℕ → Op → Act
  puts : ℕ → ℕ → ℕ → Act

abbrev pub act_of : Line → Act
act_of (l.Copy at n) = copies at n
act_of (l.Call h guard args) = calls h (op_of guard) (op_of args)
act_of (l.Next at a) = nexts at (op_of a)
act_of (l.Store at n len t a from) = stores at n len t (op_of a) from
act_of (l.Move at a) = moves at (op_of a)
act_of (l.Put at n from) = puts at n from
