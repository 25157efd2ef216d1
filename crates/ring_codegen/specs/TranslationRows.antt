-- Data of worked rows: specifications, and the programs that are their translations.
use Rattle.std.specs.Prelude.{◌≡◌, ℕ, List, [], ◌∷◌, codes}
use Rattle.stream_types.specs.declared.scalar.Scalar.{Scalar}
use Rattle.stream_types.specs.declared.scalar.Scalar.TheVariants as scalar
use Rattle.stream_types.specs.declared.scalar.Ty.{Ty}
use Rattle.stream_types.specs.declared.scalar.Ty.TheVariants as ty
use Rattle.stream_types.specs.declared.scalar.Op2.TheVariants as op2
use Rattle.stream_types.specs.declared.types.TypeEntry.{TypeEntry}
use Rattle.stream_types.specs.declared.types.TypeEntry.TheVariants as entry
use Rattle.stream_core.specs.declared.spec.ExternItem.{ExternItem}
use Rattle.stream_core.specs.Term.{Term, lit, extern, stream, dropped, bin, index, field, TreeSpec, TreeStream, TreeTrigger, TreeRoot}
use Rattle.c99_tree.specs.Programs as program
use Rattle.ring_codegen.specs.Translation.{translation}

abbrev pub root : Ty → Term → TreeRoot
root t a = record { expr = a; ty = t; at = 0 }

abbrev pub trigger : List ℕ → Term → List TreeRoot → TreeTrigger
trigger name guard args = record { name = name; guard = root (ty.Scalar scalar.Bool) guard; args = args }

abbrev pub stream_of : List ℕ → Scalar → List ℕ → Term → TreeStream
stream_of name t init a = record { name = name; ty = ty.Scalar t; init = init; expr = a; at = 0 }

abbrev pub yes : Term
yes = lit scalar.Bool 1

-- a specification by its types, externs, streams and triggers
abbrev pub spec_of : List ℕ → List TypeEntry → List ExternItem → List TreeStream → List TreeTrigger → TreeSpec
spec_of name types externs streams triggers = record { name = name; types = types; externs = externs; streams = streams; defs = []; triggers = triggers; observers = []; libs = [] }

-- (spec heater (extern temp Int32) (trigger heat (< temp 18:Int32) temp))
abbrev pub heater : TreeSpec
heater = spec_of (codes "heater") []
    (record { name = codes "temp"; ty = ty.Scalar scalar.Int32 } ∷ [])
    []
    (trigger (codes "heat") (bin op2.Lt scalar.Int32 (extern 0) (lit scalar.Int32 18)) (root (ty.Scalar scalar.Int32) (extern 0) ∷ []) ∷ [])

-- (spec a)
abbrev pub empty : TreeSpec
empty = spec_of (codes "a") [] [] [] []

-- (spec door (extern ajar Bool) (trigger chime ajar))
abbrev pub door : TreeSpec
door = spec_of (codes "door") []
    (record { name = codes "ajar"; ty = ty.Scalar scalar.Bool } ∷ [])
    []
    (trigger (codes "chime") (extern 0) [] ∷ [])

-- (spec c (stream n Word8 (0:Word8) (+ n 1:Word8)) (trigger t (== n 0:Word8) n))
abbrev pub counter : TreeSpec
counter = spec_of (codes "c") [] []
    (stream_of (codes "n") scalar.Word8 (0 ∷ []) (bin op2.Add scalar.Word8 (stream 0) (lit scalar.Word8 1)) ∷ [])
    (trigger (codes "t") (bin op2.Eq scalar.Word8 (stream 0) (lit scalar.Word8 0)) (root (ty.Scalar scalar.Word8) (stream 0) ∷ []) ∷ [])

-- (spec pair (stream x Int32 (1:Int32) (+ x (drop 4 y))) (stream y Int32 (0:Int32 1:Int32 2:Int32 3:Int32 4:Int32) x)
-- (trigger o true x y))
abbrev pub pair : TreeSpec
pair = spec_of (codes "pair") [] []
    (stream_of (codes "x") scalar.Int32 (1 ∷ []) (bin op2.Add scalar.Int32 (stream 0) (dropped 1 4))
    ∷ stream_of (codes "y") scalar.Int32 (0 ∷ 1 ∷ 2 ∷ 3 ∷ 4 ∷ []) (stream 0) ∷ [])
    (trigger (codes "o") yes (root (ty.Scalar scalar.Int32) (stream 0) ∷ root (ty.Scalar scalar.Int32) (stream 1) ∷ []) ∷ [])

-- (spec w (extern w Word16) (trigger t true (* w w)))
abbrev pub square : TreeSpec
square = spec_of (codes "w") []
    (record { name = codes "w"; ty = ty.Scalar scalar.Word16 } ∷ [])
    []
    (trigger (codes "t") yes (root (ty.Scalar scalar.Word16) (bin op2.Mul scalar.Word16 (extern 0) (extern 0)) ∷ []) ∷ [])

-- (spec m (stream s Int64 (-9223372036854775808:Int64) s) (trigger t (== s -9223372036854775808:Int64) s))
abbrev pub least : TreeSpec
least = spec_of (codes "m") [] []
    (stream_of (codes "s") scalar.Int64 (9223372036854775808 ∷ []) (stream 0) ∷ [])
    (trigger (codes "t") (bin op2.Eq scalar.Int64 (stream 0) (lit scalar.Int64 9223372036854775808)) (root (ty.Scalar scalar.Int64) (stream 0) ∷ []) ∷ [])

-- (spec n (trigger t true -128:Int8 -1:Int64))
abbrev pub constants : TreeSpec
constants = spec_of (codes "n") [] [] []
    (trigger (codes "t") yes (root (ty.Scalar scalar.Int8) (lit scalar.Int8 18446744073709551488) ∷ root (ty.Scalar scalar.Int64) (lit scalar.Int64 18446744073709551615) ∷ []) ∷ [])

-- (spec g (struct P (x Int16) (y Int16)) (extern p (array P 3)) (extern i Word32) (trigger t true (field (index p i) x)))
abbrev pub picker : TreeSpec
picker = spec_of (codes "g")
    (entry.Struct (codes "P") (record { name = codes "x"; ty = ty.Scalar scalar.Int16 } ∷ record { name = codes "y"; ty = ty.Scalar scalar.Int16 } ∷ [])
    ∷ entry.Array (ty.Struct 0) 3 ∷ [])
    (record { name = codes "p"; ty = ty.Array 1 } ∷ record { name = codes "i"; ty = ty.Scalar scalar.Word32 } ∷ [])
    []
    (trigger (codes "t") yes (root (ty.Scalar scalar.Int16) (field (ty.Struct 0) 0 (index (ty.Array 1) (extern 0) (extern 1))) ∷ []) ∷ [])

pub record AreTranslated : Type 0 where
  pub heater_is : translation heater (codes "heater") ≡ program.heater
  pub empty_is : translation empty (codes "a") ≡ program.empty
  pub door_is : translation door (codes "door") ≡ program.door
  pub counter_is : translation counter (codes "c") ≡ program.counter
  pub pair_is : translation pair (codes "pair") ≡ program.pair
  pub square_is : translation square (codes "w") ≡ program.square
  pub least_is : translation least (codes "m") ≡ program.least
  pub constants_is : translation constants (codes "n") ≡ program.constants
  pub picker_is : translation picker (codes "g") ≡ program.picker
