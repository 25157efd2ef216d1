-- For the tests alone: worked specifications over library forms. No clause of a call outside the tests cites this file.
use Rattle.std.specs.Prelude.{ℕ, List, [], ◌∷◌}
use Rattle.stream_types.specs.declared.scalar.Scalar.{Scalar}
use Rattle.stream_types.specs.declared.scalar.Scalar.TheVariants as scalar
use Rattle.stream_types.specs.declared.scalar.Op2.TheVariants as op2
use Rattle.stream_types.specs.declared.scalar.Ty.{Ty}
use Rattle.stream_types.specs.declared.scalar.Ty.TheVariants as ty
use Rattle.stream_core.specs.declared.node.Node.TheVariants as node
use Rattle.stream_core.specs.declared.node.LibForm.{LibForm}
use Rattle.stream_core.specs.declared.node.LibForm.TheVariants as form
use Rattle.stream_core.specs.declared.spec.Root.{Root}
use Rattle.stream_core.specs.declared.spec.ExternItem.{ExternItem}
use Rattle.stream_core.specs.declared.spec.TriggerItem.{TriggerItem}
use Rattle.stream_core.specs.declared.spec.LibItem.{LibItem}
use Rattle.stream_core.specs.Value.{SpecValue}
use Rattle.stream_core.specs.WellTyped.{bool}

abbrev pub named : ℕ → SpecValue
named letter = record { name = letter ∷ []; types = []; nodes = []; externs = []; streams = []; defs = []; triggers = []; observers = []; libs = [] }

abbrev pub input : ℕ → Scalar → ExternItem
input letter s = record { name = letter ∷ []; ty = ty.Scalar s }

abbrev pub root : ℕ → Ty → Root
root i t = record { expr = i; ty = t; at = 9 }

abbrev pub call : ℕ → ℕ → List Root → TriggerItem
call letter guard args = record { name = letter ∷ []; guard = root guard bool; args = args }

abbrev pub form_over : LibForm → List ℕ → LibItem
form_over f args = record { form = f; args = args; at = 9 }

-- (spec l (extern p Bool) (extern q Bool) (trigger a true (since p q) (once-in 0 0 q) (historically-in 2 4 p)))
abbrev pub starts : SpecValue
starts = record (named 108) {
  nodes = node.Lit scalar.Bool 1 ∷ node.Extern 0 ∷ node.Extern 1 ∷ node.Lib 0 ∷ node.Lib 1 ∷ node.Lib 2 ∷ [];
  externs = input 112 scalar.Bool ∷ input 113 scalar.Bool ∷ [];
  libs = form_over form.Since (1 ∷ 2 ∷ []) ∷ form_over (form.OnceIn 0 0) (2 ∷ []) ∷ form_over (form.HistoricallyIn 2 4) (1 ∷ []) ∷ [];
  triggers = call 97 0 (root 3 bool ∷ root 4 bool ∷ root 5 bool ∷ []) ∷ [];
}

-- (spec z (extern d Int32) (trigger a (if (== d 0:Int32) false (once (> (quot 6:Int32 d) 2:Int32)))))
abbrev pub operands : SpecValue
operands = record (named 122) {
  nodes = node.Extern 0 ∷ node.Lit scalar.Int32 0 ∷ node.Bin op2.Eq scalar.Int32 0 1 ∷ node.Lit scalar.Bool 0 ∷ node.Lit scalar.Int32 6 ∷ node.Bin op2.Quot scalar.Int32 4 0 ∷ node.Lit scalar.Int32 2 ∷ node.Bin op2.Gt scalar.Int32 5 6 ∷ node.Lib 0 ∷ node.If 2 3 8 ∷ [];
  externs = input 100 scalar.Int32 ∷ [];
  libs = form_over form.Once (7 ∷ []) ∷ [];
  triggers = call 97 9 [] ∷ [];
}

abbrev pub byte : Ty
byte = ty.Scalar scalar.Word8

-- (spec v (extern a Word8) (extern b Word8) (extern c Word8)
--   (trigger m true (majority a b c) (agreed a b c) (window-max 2 a) (window-sum 2 a)) (trigger k (clock 2 1)))
abbrev pub voted : SpecValue
voted = record (named 118) {
  nodes = node.Lit scalar.Bool 1 ∷ node.Extern 0 ∷ node.Extern 1 ∷ node.Extern 2 ∷ node.Majority scalar.Word8 (1 ∷ 2 ∷ 3 ∷ []) ∷ node.Agreed scalar.Word8 (1 ∷ 2 ∷ 3 ∷ []) ∷ node.Lib 0 ∷ node.Lib 1 ∷ node.Lib 2 ∷ [];
  externs = input 97 scalar.Word8 ∷ input 98 scalar.Word8 ∷ input 99 scalar.Word8 ∷ [];
  libs = form_over (form.WindowMax 2 scalar.Word8) (1 ∷ []) ∷ form_over (form.WindowSum 2 scalar.Word8) (1 ∷ []) ∷ form_over (form.Clock 2 1) [] ∷ [];
  triggers = call 109 0 (root 4 byte ∷ root 5 bool ∷ root 6 byte ∷ root 7 byte ∷ []) ∷ call 107 8 [] ∷ [];
}

-- (spec y (extern p Bool) (trigger a (yesterday p)) (trigger b (weakly-yesterday p)))
abbrev pub yesterdays : SpecValue
yesterdays = record (named 121) {
  nodes = node.Extern 0 ∷ node.Lib 0 ∷ node.Lib 1 ∷ [];
  externs = input 112 scalar.Bool ∷ [];
  libs = form_over form.Yesterday (0 ∷ []) ∷ form_over form.WeaklyYesterday (0 ∷ []) ∷ [];
  triggers = call 97 1 [] ∷ call 98 2 [] ∷ [];
}
