-- Types of expressions by computation.
use Rattle.std.specs.Prelude.{◌≡◌, refl, ℕ, zero, suc, ◌∷◌, [], List, Option, Some, None}
use Rattle.stream_types.specs.declared.scalar.Scalar.TheVariants as scalar
use Rattle.stream_types.specs.declared.scalar.Op1.TheVariants as op1
use Rattle.stream_types.specs.declared.scalar.Op2.TheVariants as op2
use Rattle.stream_types.specs.declared.scalar.Dir.TheVariants as dir
use Rattle.stream_types.specs.declared.scalar.Ty.{Ty}
use Rattle.stream_types.specs.declared.scalar.Ty.TheVariants as ty
use Rattle.stream_types.specs.declared.types.TypeEntry.TheVariants as entry
use Rattle.stream_core.specs.declared.node.LibForm.TheVariants as form
use Rattle.stream_core.specs.Term.{Term, Terms, lit, extern, stream, def, named, missing, dropped, un, bin, shift, cast, and, or, implies, choose, index, field, array, struct, abs, sign, majority, agreed, lib, end, more}
use Rattle.stream_core.specs.Signature.{Signature}
use Rattle.stream_core.specs.WellTyped.{bool, word32}
use Rattle.stream_core.specs.TypeOf.{type_of}

abbrev word8 : Ty
word8 = ty.Scalar scalar.Word8

abbrev int16 : Ty
int16 = ty.Scalar scalar.Int16

-- (array Word8 3), (struct p (a Word8) (b Bool)); externs of Word8 and of these; streams of three Word8 and of one Bool; a def of Int16
abbrev sig : Signature
sig = record {
  types = entry.Array word8 3 ∷ entry.Struct (112 ∷ []) (record { name = 97 ∷ []; ty = word8 } ∷ record { name = 98 ∷ []; ty = bool } ∷ []) ∷ [];
  externs = word8 ∷ ty.Array 0 ∷ ty.Struct 1 ∷ [];
  streams = record { ty = word8; count = 3 } ∷ record { ty = bool; count = 1 } ∷ [];
  defs = int16 ∷ [];
}

abbrev Has : Term → Ty → Type 0
Has e t = type_of sig e ≡ Some t

abbrev HasNone : Term → Type 0
HasNone e = type_of sig e ≡ None

abbrev x : Term
x = extern 0

abbrev p : Term
p = stream 1

-- so often the same operand
abbrev times : ℕ → Term → Terms
times zero e = end
times (suc n) e = more e (times n e)

names : Has x word8 × Has (extern 1) (ty.Array 0) × Has (stream 0) word8 × Has (def 0) int16 × HasNone (extern 3) × HasNone (stream 2) × HasNone (def 1) × HasNone missing
names = (refl, refl, refl, refl, refl, refl, refl, refl)

literals : Has (lit scalar.Word8 255) word8 × HasNone (lit scalar.Word8 256) × Has (lit scalar.Bool 1) bool × HasNone (lit scalar.Bool 2)
literals = (refl, refl, refl, refl)

-- a drop keeps one initial value at least
drops : Has (dropped 0 2) word8 × HasNone (dropped 0 3) × Has (dropped 1 0) bool × HasNone (dropped 1 1)
drops = (refl, refl, refl, refl)

operators : Has (un op1.Not scalar.Bool p) bool × HasNone (un op1.Not scalar.Word8 x) × Has (bin op2.Add scalar.Word8 x x) word8 × HasNone (bin op2.Add scalar.Bool p p) × Has (bin op2.Eq scalar.Bool p p) bool × HasNone (bin op2.Lt scalar.Bool p p) × HasNone (bin op2.Add scalar.Word8 x (def 0))
operators = (refl, refl, refl, refl, refl, refl, refl)

shifts_and_casts : Has (shift dir.Left scalar.Word8 x scalar.Int16 (def 0)) word8 × HasNone (shift dir.Left scalar.Bool p scalar.Word8 x) × Has (cast scalar.Bool scalar.Int16 p) int16 × HasNone (cast scalar.Word8 scalar.Bool x)
shifts_and_casts = (refl, refl, refl, refl)

choices : Has (choose p x x) word8 × HasNone (choose p x p) × HasNone (choose x x x) × Has (implies p p) bool × HasNone (and p x)
choices = (refl, refl, refl, refl, refl)

parts : Has (index (ty.Array 0) (extern 1) (lit scalar.Word32 7)) word8 × HasNone (index (ty.Array 0) (extern 1) x) × Has (field (ty.Struct 1) 1 (extern 2)) bool × HasNone (field (ty.Struct 1) 2 (extern 2)) × HasNone (field (ty.Struct 1) 0 (extern 1))
parts = (refl, refl, refl, refl, refl)

wholes : Has (array (ty.Array 0) (times 3 x)) (ty.Array 0) × HasNone (array (ty.Array 0) (times 2 x)) × HasNone (array (ty.Array 0) (times 3 p)) × Has (struct (ty.Struct 1) (more x (more p end))) (ty.Struct 1) × HasNone (struct (ty.Struct 1) (more p (more x end)))
wholes = (refl, refl, refl, refl, refl)

-- 1 to 9 votes
votes : Has (majority scalar.Word8 (times 9 x)) word8 × HasNone (majority scalar.Word8 (times 10 x)) × HasNone (majority scalar.Word8 end) × Has (agreed scalar.Word8 (times 1 x)) bool × Has (abs scalar.Int16 (def 0)) int16 × HasNone (sign scalar.Bool p)
votes = (refl, refl, refl, refl, refl, refl)

forms : Has (lib 0 form.Since (times 2 p)) bool × HasNone (lib 0 form.Since (times 1 p)) × Has (lib 0 (form.OnceIn 0 128) (times 1 p)) bool × HasNone (lib 0 (form.OnceIn 3 2) (times 1 p)) × HasNone (lib 0 (form.SinceIn 0 129) (times 2 p)) × Has (lib 0 (form.Clock 4294967295 4294967294) end) bool × HasNone (lib 0 (form.Clock 1 1) end) × HasNone (lib 0 (form.Clock 4294967296 0) end) × Has (lib 0 (form.WindowMax 12 scalar.Word8) (times 1 x)) word8 × HasNone (lib 0 (form.WindowSum 13 scalar.Word8) (times 1 x)) × HasNone (lib 0 (form.WindowMin 2 scalar.Bool) (times 1 p))
forms = (refl, refl, refl, refl, refl, refl, refl, refl, refl, refl, refl)
