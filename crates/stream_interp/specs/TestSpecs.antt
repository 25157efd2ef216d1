-- For the tests alone: the specifications that they run. No clause of a call outside the tests cites this file.
use Rattle.std.specs.Prelude.{ℕ, List, [], ◌∷◌}
use Rattle.stream_types.specs.declared.scalar.Scalar.TheVariants as scalar
use Rattle.stream_types.specs.declared.scalar.Op2.TheVariants as op2
use Rattle.stream_types.specs.declared.scalar.Ty.{Ty}
use Rattle.stream_types.specs.declared.scalar.Ty.TheVariants as ty
use Rattle.stream_core.specs.declared.node.Node.TheVariants as node
use Rattle.stream_core.specs.declared.spec.Root.{Root}
use Rattle.stream_core.specs.Value.{SpecValue}
use Rattle.stream_core.specs.WellTyped.{bool}

abbrev pub word8 : Ty
word8 = ty.Scalar scalar.Word8

abbrev pub root : ℕ → Ty → Root
root i t = record { expr = i; ty = t; at = 9 }

-- (spec c (stream n Word8 (254) (+ n 1)) (observe o n))
abbrev pub counter : SpecValue
counter = record {
  name = 99 ∷ [];
  types = [];
  nodes = node.Stream 0 ∷ node.Lit scalar.Word8 1 ∷ node.Bin op2.Add scalar.Word8 0 1 ∷ [];
  externs = [];
  streams = record { name = 110 ∷ []; ty = word8; init = 254 ∷ []; expr = 2; at = 9 } ∷ [];
  defs = [];
  triggers = [];
  observers = record { name = 111 ∷ []; root = root 0 word8 } ∷ [];
  libs = [];
}

-- (spec g (extern b Bool) (extern c Word8) (stream d Word8 (0) c) (stream e Word8 (7 9) (+ d c)) (trigger a b c d) (observe f e))
abbrev pub two_streams : SpecValue
two_streams = record {
  name = 103 ∷ [];
  types = [];
  nodes = node.Extern 0 ∷ node.Extern 1 ∷ node.Stream 0 ∷ node.Stream 1 ∷ node.Bin op2.Add scalar.Word8 2 1 ∷ [];
  externs = record { name = 98 ∷ []; ty = bool } ∷ record { name = 99 ∷ []; ty = word8 } ∷ [];
  streams = record { name = 100 ∷ []; ty = word8; init = 0 ∷ []; expr = 1; at = 9 } ∷ record { name = 101 ∷ []; ty = word8; init = 7 ∷ 9 ∷ []; expr = 4; at = 9 } ∷ [];
  defs = [];
  triggers = record { name = 97 ∷ []; guard = root 0 bool; args = root 1 word8 ∷ root 2 word8 ∷ [] } ∷ [];
  observers = record { name = 102 ∷ []; root = root 3 word8 } ∷ [];
  libs = [];
}
