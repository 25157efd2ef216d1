use Rattle.std.proofs.Common.{refl}
use Rattle.stream_types.specs.declared.scalar.Scalar.TheVariants as scalar
use Rattle.stream_types.proofs.op_table.tables_hold_their_scalars.Goals as goal

pub returns-clause-bool : goal.returns-clause-bool
returns-clause-bool c =
    elim [ scalar.Bool ↦ refl | scalar.Int8 ↦ refl | scalar.Int16 ↦ refl | scalar.Int32 ↦ refl | scalar.Int64 ↦ refl | scalar.Word8 ↦ refl | scalar.Word16 ↦ refl | scalar.Word32 ↦ refl | scalar.Word64 ↦ refl ]

pub returns-clause-integers : goal.returns-clause-integers
returns-clause-integers c =
    elim [ scalar.Bool ↦ refl | scalar.Int8 ↦ refl | scalar.Int16 ↦ refl | scalar.Int32 ↦ refl | scalar.Int64 ↦ refl | scalar.Word8 ↦ refl | scalar.Word16 ↦ refl | scalar.Word32 ↦ refl | scalar.Word64 ↦ refl ]

pub returns-clause-scalars : goal.returns-clause-scalars
returns-clause-scalars c =
    elim [ scalar.Bool ↦ refl | scalar.Int8 ↦ refl | scalar.Int16 ↦ refl | scalar.Int32 ↦ refl | scalar.Int64 ↦ refl | scalar.Word8 ↦ refl | scalar.Word16 ↦ refl | scalar.Word32 ↦ refl | scalar.Word64 ↦ refl ]
