-- Data of worked rows: the bytes of rings, over the types of Rows.antt.
use Rattle.std.specs.Prelude.{ℕ, Bool, true, false, List, [], ◌∷◌, codes}
use Rattle.c99_tree.specs.declared.types.CScalar.TheVariants as t
use Rattle.c99_tree.specs.declared.types.CTy.{CTy}
use Rattle.c99_tree.specs.declared.types.CTy.TheVariants as ty
use Rattle.c99_tree.specs.declared.unit.CRing.{CRing}

abbrev pub ring_of_bytes : CTy → ℕ → Bool → CRing
ring_of_bytes t n indexed = record { name = codes "r"; ty = t; len = n; indexed = indexed; init = [] }

-- a ring, and its bytes: each scalar type, structs and arrays, with an index and without
unfoldable pub storage_rows : List (CRing × ℕ)
storage_rows =
    (ring_of_bytes (ty.Scalar t.Bool) 1 false, 1) ∷ (ring_of_bytes (ty.Scalar t.I8) 1 false, 1)
    ∷ (ring_of_bytes (ty.Scalar t.I16) 1 false, 2) ∷ (ring_of_bytes (ty.Scalar t.I32) 1 false, 4)
    ∷ (ring_of_bytes (ty.Scalar t.I64) 1 false, 8) ∷ (ring_of_bytes (ty.Scalar t.U8) 1 false, 1)
    ∷ (ring_of_bytes (ty.Scalar t.U16) 1 false, 2) ∷ (ring_of_bytes (ty.Scalar t.U32) 1 false, 4)
    ∷ (ring_of_bytes (ty.Scalar t.U64) 1 false, 8) ∷ (ring_of_bytes (ty.Struct (codes "P")) 1 false, 3)
    ∷ (ring_of_bytes (ty.Array (codes "P") 3) 1 false, 9) ∷ (ring_of_bytes (ty.Scalar t.I32) 3 false, 4)
    ∷ (ring_of_bytes (ty.Scalar t.I32) 3 true, 16) ∷ (ring_of_bytes (ty.Scalar t.Bool) 1 true, 5)
    ∷ (ring_of_bytes (ty.Struct (codes "P")) 2 true, 10) ∷ (ring_of_bytes (ty.Array (codes "Word8") 2) 4 true, 12)
    ∷ (ring_of_bytes (ty.Scalar t.U64) 0 true, 4) ∷ []
