-- The tables compute the worked values.
use Rattle.std.specs.Prelude.{◌≡◌, refl, pos, negsuc, Ok, Err}
use Rattle.stream_types.specs.declared.scalar.Scalar.TheVariants as scalar
use Rattle.stream_types.specs.declared.scalar.Hazard.TheVariants.{Overflow, BadShift}
use Rattle.stream_types.specs.declared.scalar.Op1.TheVariants as op1
use Rattle.stream_types.specs.declared.scalar.Op2.TheVariants as op2
use Rattle.stream_types.specs.declared.scalar.Dir.TheVariants as dir
use Rattle.stream_types.specs.Numbers.{word, op1_word, op2_word, shift_word, cast_word}

add8 : op2_word op2.Add scalar.Int8 (word (pos 127)) 1 ≡ Err Overflow
add8 = refl

mul16 : op2_word op2.Mul scalar.Word16 65535 65535 ≡ Ok 1
mul16 = refl

quot8 : op2_word op2.Quot scalar.Int8 (word (negsuc 6)) 2 ≡ Ok (word (negsuc 2))
quot8 = refl

rem8 : op2_word op2.Rem scalar.Int8 (word (negsuc 6)) 2 ≡ Ok (word (negsuc 0))
rem8 = refl

rem8min : op2_word op2.Rem scalar.Int8 (word (negsuc 127)) (word (negsuc 0)) ≡ Err Overflow
rem8min = refl

left6 : shift_word dir.Left scalar.Int8 1 scalar.Word8 6 ≡ Ok 64
left6 = refl

left7 : shift_word dir.Left scalar.Int8 1 scalar.Word8 7 ≡ Err Overflow
left7 = refl

left255 : shift_word dir.Left scalar.Word8 255 scalar.Int8 1 ≡ Ok 254
left255 = refl

left8 : shift_word dir.Left scalar.Word8 1 scalar.Word8 8 ≡ Err BadShift
left8 = refl

left_neg : shift_word dir.Left scalar.Word8 1 scalar.Int8 (word (negsuc 0)) ≡ Err BadShift
left_neg = refl

right_neg : shift_word dir.Right scalar.Int8 (word (negsuc 0)) scalar.Word8 0 ≡ Err BadShift
right_neg = refl

cast300 : cast_word scalar.Int16 scalar.Word8 300 ≡ Ok 44
cast300 = refl

cast_minus : cast_word scalar.Int8 scalar.Word32 (word (negsuc 0)) ≡ Ok 4294967295
cast_minus = refl

cast200 : cast_word scalar.Word8 scalar.Int8 200 ≡ Err Overflow
cast200 = refl

bitnot8 : op1_word op1.BitNot scalar.Word8 0 ≡ 255
bitnot8 = refl

xor8 : op2_word op2.BitXor scalar.Int8 (word (negsuc 0)) 1 ≡ Ok (word (negsuc 1))
xor8 = refl
