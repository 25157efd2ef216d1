-- Data of worked rows: whole programs, their texts, their totals, and what they show.
use Rattle.std.specs.Prelude.{◌≡◌, ℕ, true, false, List, [], ◌∷◌, ◌++◌, replicate, codes, Ok, Err, pos, negsuc}
use Rattle.c99_tree.specs.declared.expr.CLit.TheVariants as k
use Rattle.c99_tree.specs.declared.expr.CUn.TheVariants as u
use Rattle.c99_tree.specs.declared.expr.CBin.TheVariants as o
use Rattle.c99_tree.specs.declared.expr.CExpr.TheVariants as e
use Rattle.c99_tree.specs.declared.types.CScalar.TheVariants as t
use Rattle.c99_tree.specs.declared.types.CTy.TheVariants as ty
use Rattle.c99_tree.specs.declared.types.CDef.TheVariants as def
use Rattle.c99_tree.specs.declared.undefined.Undefined.TheVariants as why
use Rattle.c99_tree.specs.declared.unit.CStmt.TheVariants as s
use Rattle.c99_tree.specs.declared.unit.Unit.{Unit as CUnit}
use Rattle.c99_tree.specs.Tree.{lit, copy, un, bin, cast}
use Rattle.c99_tree.specs.CTypes.{num}
use Rattle.c99_tree.specs.Values.{number}
use Rattle.c99_tree.specs.Spelling.{line, text, header_text, source_text, HasSpelling}
use Rattle.c99_tree.specs.Storage.{storage_of}
use Rattle.c99_tree.specs.Weight.{unit_weight_of}
use Rattle.c99_tree.specs.WellFormed.{IsWellFormed}
use Rattle.c99_tree.specs.Evaluation.{evaluate}
use Rattle.c99_tree.specs.Step.{Called}
use Rattle.c99_tree.specs.Run.{run, first_statics}
use Rattle.c99_tree.specs.Rows.{call}

-- a call of the first handler with 0, and then n steps without a call
abbrev pub called_at_zero : ℕ → List (List Called)
called_at_zero n = (call 0 (0 ∷ []) ∷ []) ∷ replicate n []

-- ---- a heater that one extern switches

unfoldable pub heater : CUnit
heater = record {
  name = codes "heater";
  types = [];
  storage = 4;
  need = 1;
  externs = record { name = codes "temp"; ty = ty.Scalar t.I32 } ∷ [];
  handlers = record { name = codes "heat"; params = ty.Scalar t.I32 ∷ [] } ∷ [];
  rings = [];
  step =
      s.Copy (codes "temp")
      ∷ s.Call (codes "heat") (e.Bin o.Lt (e.Copy (codes "temp")) (e.Lit k.I 18)) (e.Copy (codes "temp") ∷ []) ∷ [];
}

pub record HeaterWorks : Type 0 where
  pub header_is : header_text heater ≡
      line (codes "#ifndef CP_heater_H")
      ++ line (codes "#define CP_heater_H")
      ++ line (codes "#include <stdint.h>")
      ++ line (codes "#include <stdbool.h>")
      ++ line (codes "enum { cp_storage = 4, cp_need = 1 };")
      ++ line (codes "extern int32_t temp;")
      ++ line (codes "void heat(int32_t);")
      ++ line (codes "void step(void);")
      ++ line (codes "#endif")
  pub source_is : source_text heater ≡
      line (codes "#include \"heater.h\"")
      ++ line (codes "static int32_t cp_c_temp;")
      ++ line (codes "void step(void)")
      ++ line (codes "{")
      ++ line (codes "  cp_c_temp = temp;")
      ++ line (codes "  if ((cp_c_temp < 18)) { heat(cp_c_temp); }")
      ++ line (codes "}")
  pub storage_is : storage_of heater ≡ 4
  pub weight_is : unit_weight_of heater ≡ 1
  pub is_spelled : HasSpelling heater
  pub is_well_formed : IsWellFormed heater
  -- over 20 and 17
  pub runs : run heater ((20 ∷ []) ∷ (17 ∷ []) ∷ []) 2 ≡ Ok ([] ∷ (call 0 (17 ∷ []) ∷ []) ∷ [])

-- ---- a program of nothing

unfoldable pub empty : CUnit
empty = record {
  name = codes "a";
  types = [];
  storage = 0;
  need = 0;
  externs = [];
  handlers = [];
  rings = [];
  step = [];
}

pub record EmptyWorks : Type 0 where
  pub header_is : header_text empty ≡
      line (codes "#ifndef CP_a_H")
      ++ line (codes "#define CP_a_H")
      ++ line (codes "#include <stdint.h>")
      ++ line (codes "#include <stdbool.h>")
      ++ line (codes "enum { cp_storage = 0, cp_need = 0 };")
      ++ line (codes "void step(void);")
      ++ line (codes "#endif")
  pub source_is : source_text empty ≡
      line (codes "#include \"a.h\"")
      ++ line (codes "void step(void)")
      ++ line (codes "{")
      ++ line (codes "}")
  pub storage_is : storage_of empty ≡ 0
  pub weight_is : unit_weight_of empty ≡ 0
  pub is_spelled : HasSpelling empty
  pub is_well_formed : IsWellFormed empty

-- ---- a door, with a handler that takes nothing

unfoldable pub door : CUnit
door = record {
  name = codes "door";
  types = [];
  storage = 1;
  need = 0;
  externs = record { name = codes "ajar"; ty = ty.Scalar t.Bool } ∷ [];
  handlers = record { name = codes "chime"; params = [] } ∷ [];
  rings = [];
  step = s.Copy (codes "ajar") ∷ s.Call (codes "chime") (e.Copy (codes "ajar")) [] ∷ [];
}

pub record DoorWorks : Type 0 where
  pub header_is : header_text door ≡
      line (codes "#ifndef CP_door_H")
      ++ line (codes "#define CP_door_H")
      ++ line (codes "#include <stdint.h>")
      ++ line (codes "#include <stdbool.h>")
      ++ line (codes "enum { cp_storage = 1, cp_need = 0 };")
      ++ line (codes "extern bool ajar;")
      ++ line (codes "void chime(void);")
      ++ line (codes "void step(void);")
      ++ line (codes "#endif")
  pub source_is : source_text door ≡
      line (codes "#include \"door.h\"")
      ++ line (codes "static bool cp_c_ajar;")
      ++ line (codes "void step(void)")
      ++ line (codes "{")
      ++ line (codes "  cp_c_ajar = ajar;")
      ++ line (codes "  if (cp_c_ajar) { chime(); }")
      ++ line (codes "}")
  pub storage_is : storage_of door ≡ 1
  pub weight_is : unit_weight_of door ≡ 0
  pub is_spelled : HasSpelling door
  pub is_well_formed : IsWellFormed door

-- ---- a counter of eight bits that wraps, kept as one value

unfoldable pub counter : CUnit
counter = record {
  name = codes "c";
  types = [];
  storage = 1;
  need = 5;
  externs = [];
  handlers = record { name = codes "t"; params = ty.Scalar t.U8 ∷ [] } ∷ [];
  rings = record { name = codes "n"; ty = ty.Scalar t.U8; len = 1; indexed = false; init = 0 ∷ [] } ∷ [];
  step =
      s.Call (codes "t") (e.Bin o.Eq (e.Cell (codes "n")) (e.Lit k.U 0)) (e.Cell (codes "n") ∷ [])
      ∷ s.Next (codes "n") (e.Cast t.U8 (e.Bin o.Add (e.Cast t.U32 (e.Cell (codes "n"))) (e.Cast t.U32 (e.Lit k.U 1))))
      ∷ s.Put (codes "n") ∷ [];
}

pub record CounterWorks : Type 0 where
  pub header_is : header_text counter ≡
      line (codes "#ifndef CP_c_H")
      ++ line (codes "#define CP_c_H")
      ++ line (codes "#include <stdint.h>")
      ++ line (codes "#include <stdbool.h>")
      ++ line (codes "enum { cp_storage = 1, cp_need = 5 };")
      ++ line (codes "void t(uint8_t);")
      ++ line (codes "void step(void);")
      ++ line (codes "#endif")
  pub source_is : source_text counter ≡
      line (codes "#include \"c.h\"")
      ++ line (codes "static uint8_t cp_b_n = 0U;")
      ++ line (codes "void step(void)")
      ++ line (codes "{")
      ++ line (codes "  if ((cp_b_n == 0U)) { t(cp_b_n); }")
      ++ line (codes "  uint8_t cp_n_n = ((uint8_t)(((uint32_t)cp_b_n) + ((uint32_t)1U)));")
      ++ line (codes "  cp_b_n = cp_n_n;")
      ++ line (codes "}")
  pub storage_is : storage_of counter ≡ 1
  pub weight_is : unit_weight_of counter ≡ 5
  pub is_spelled : HasSpelling counter
  pub is_well_formed : IsWellFormed counter
  pub runs : run counter (replicate 258 []) 258 ≡ Ok (called_at_zero 255 ++ called_at_zero 1)

-- ---- the same counter, kept as a ring with an index

unfoldable pub old_counter : CUnit
old_counter = record {
  name = codes "c";
  types = [];
  storage = 5;
  need = 17;
  externs = [];
  handlers = record { name = codes "t"; params = ty.Scalar t.U8 ∷ [] } ∷ [];
  rings = record { name = codes "n"; ty = ty.Scalar t.U8; len = 1; indexed = true; init = 0 ∷ [] } ∷ [];
  step =
      s.Call (codes "t") (e.Bin o.Eq (e.RingAt (codes "n") (e.Bin o.Rem (e.Bin o.Add (e.Head (codes "n")) (e.Lit k.U 0)) (e.Lit k.U 1))) (e.Lit k.U 0)) ((e.RingAt (codes "n") (e.Bin o.Rem (e.Bin o.Add (e.Head (codes "n")) (e.Lit k.U 0)) (e.Lit k.U 1))) ∷ [])
      ∷ s.Next (codes "n") (e.Cast t.U8 (e.Bin o.Add (e.Cast t.U32 (e.RingAt (codes "n") (e.Bin o.Rem (e.Bin o.Add (e.Head (codes "n")) (e.Lit k.U 0)) (e.Lit k.U 1)))) (e.Cast t.U32 (e.Lit k.U 1))))
      ∷ s.Store (codes "n") (e.Head (codes "n"))
      ∷ s.Move (codes "n") (e.Bin o.Rem (e.Bin o.Add (e.Head (codes "n")) (e.Lit k.U 1)) (e.Lit k.U 1)) ∷ [];
}

pub record OldCounterWorks : Type 0 where
  pub header_is : header_text old_counter ≡
      line (codes "#ifndef CP_c_H")
      ++ line (codes "#define CP_c_H")
      ++ line (codes "#include <stdint.h>")
      ++ line (codes "#include <stdbool.h>")
      ++ line (codes "enum { cp_storage = 5, cp_need = 17 };")
      ++ line (codes "void t(uint8_t);")
      ++ line (codes "void step(void);")
      ++ line (codes "#endif")
  pub source_is : source_text old_counter ≡
      line (codes "#include \"c.h\"")
      ++ line (codes "static uint8_t cp_b_n[1] = { 0U };")
      ++ line (codes "static uint32_t cp_i_n = 0U;")
      ++ line (codes "void step(void)")
      ++ line (codes "{")
      ++ line (codes "  if ((cp_b_n[((cp_i_n + 0U) % 1U)] == 0U)) { t(cp_b_n[((cp_i_n + 0U) % 1U)]); }")
      ++ line (codes "  uint8_t cp_n_n = ((uint8_t)(((uint32_t)cp_b_n[((cp_i_n + 0U) % 1U)]) + ((uint32_t)1U)));")
      ++ line (codes "  cp_b_n[cp_i_n] = cp_n_n;")
      ++ line (codes "  cp_i_n = ((cp_i_n + 1U) % 1U);")
      ++ line (codes "}")
  pub storage_is : storage_of old_counter ≡ 5
  pub weight_is : unit_weight_of old_counter ≡ 17
  pub is_spelled : HasSpelling old_counter
  pub is_well_formed : IsWellFormed old_counter
  pub runs : run old_counter (replicate 258 []) 258 ≡ Ok (called_at_zero 255 ++ called_at_zero 1)

-- ---- two streams that read each other

unfoldable pub pair : CUnit
pair = record {
  name = codes "pair";
  types = [];
  storage = 28;
  need = 13;
  externs = [];
  handlers = record { name = codes "o"; params = ty.Scalar t.I32 ∷ ty.Scalar t.I32 ∷ [] } ∷ [];
  rings =
      record { name = codes "x"; ty = ty.Scalar t.I32; len = 1; indexed = false; init = 1 ∷ [] }
      ∷ record { name = codes "y"; ty = ty.Scalar t.I32; len = 5; indexed = true; init = 0 ∷ 1 ∷ 2 ∷ 3 ∷ 4 ∷ [] } ∷ [];
  step =
      s.Call (codes "o") e.True (e.Cell (codes "x") ∷ (e.RingAt (codes "y") (e.Bin o.Rem (e.Bin o.Add (e.Head (codes "y")) (e.Lit k.U 0)) (e.Lit k.U 5))) ∷ [])
      ∷ s.Next (codes "x") (e.Cast t.I32 (e.Bin o.Add (e.Cast t.I32 (e.Cell (codes "x"))) (e.Cast t.I32 (e.RingAt (codes "y") (e.Bin o.Rem (e.Bin o.Add (e.Head (codes "y")) (e.Lit k.U 4)) (e.Lit k.U 5))))))
      ∷ s.Next (codes "y") (e.Cell (codes "x"))
      ∷ s.Put (codes "x")
      ∷ s.Store (codes "y") (e.Head (codes "y"))
      ∷ s.Move (codes "y") (e.Bin o.Rem (e.Bin o.Add (e.Head (codes "y")) (e.Lit k.U 1)) (e.Lit k.U 5)) ∷ [];
}

pub record PairWorks : Type 0 where
  pub storage_is : storage_of pair ≡ 28
  pub weight_is : unit_weight_of pair ≡ 13
  pub is_spelled : HasSpelling pair
  pub is_well_formed : IsWellFormed pair
  -- over six rows
  pub runs : run pair (replicate 6 []) 6 ≡
      Ok ((call 0 (1 ∷ 0 ∷ []) ∷ []) ∷ (call 0 (5 ∷ 1 ∷ []) ∷ []) ∷ (call 0 (6 ∷ 2 ∷ []) ∷ []) ∷ (call 0 (11 ∷ 3 ∷ []) ∷ [])
      ∷ (call 0 (17 ∷ 4 ∷ []) ∷ []) ∷ (call 0 (28 ∷ 1 ∷ []) ∷ []) ∷ [])

-- ---- a product that would overflow an int, and does not in uint32_t

unfoldable pub square : CUnit
square = record {
  name = codes "w";
  types = [];
  storage = 2;
  need = 4;
  externs = record { name = codes "w"; ty = ty.Scalar t.U16 } ∷ [];
  handlers = record { name = codes "t"; params = ty.Scalar t.U16 ∷ [] } ∷ [];
  rings = [];
  step =
      s.Copy (codes "w")
      ∷ s.Call (codes "t") e.True (e.Cast t.U16 (e.Bin o.Mul (e.Cast t.U32 (e.Copy (codes "w"))) (e.Cast t.U32 (e.Copy (codes "w")))) ∷ []) ∷ [];
}

pub record SquareWorks : Type 0 where
  pub source_is : source_text square ≡
      line (codes "#include \"w.h\"")
      ++ line (codes "static uint16_t cp_c_w;")
      ++ line (codes "void step(void)")
      ++ line (codes "{")
      ++ line (codes "  cp_c_w = w;")
      ++ line (codes "  if (true) { t(((uint16_t)(((uint32_t)cp_c_w) * ((uint32_t)cp_c_w)))); }")
      ++ line (codes "}")
  pub storage_is : storage_of square ≡ 2
  pub weight_is : unit_weight_of square ≡ 4
  pub is_spelled : HasSpelling square
  pub is_well_formed : IsWellFormed square
  pub runs : run square ((65535 ∷ []) ∷ []) 1 ≡ Ok ((call 0 (1 ∷ []) ∷ []) ∷ [])
  -- without the casts the factors are promoted to int, which 65535 times 65535 overflows
  pub narrow_product : (evaluate square (record { copies = number (num t.U16 (pos 65535)) ∷ []; rings = [] }) (cast t.U16 (bin o.Mul (copy (codes "w")) (copy (codes "w"))))).value ≡ Err why.Overflow

-- ---- a ring that begins with the least number of 64 bits

unfoldable pub least : CUnit
least = record {
  name = codes "m";
  types = [];
  storage = 8;
  need = 3;
  externs = [];
  handlers = record { name = codes "t"; params = ty.Scalar t.I64 ∷ [] } ∷ [];
  rings =
      record { name = codes "s"; ty = ty.Scalar t.I64; len = 1; indexed = false; init = 9223372036854775808 ∷ [] } ∷ [];
  step =
      s.Call (codes "t") (e.Bin o.Eq (e.Cell (codes "s")) (e.Bin o.Sub (e.Un u.Neg (e.Lit k.LL 9223372036854775807)) (e.Lit k.LL 1))) (e.Cell (codes "s") ∷ [])
      ∷ s.Next (codes "s") (e.Cell (codes "s"))
      ∷ s.Put (codes "s") ∷ [];
}

pub record LeastWorks : Type 0 where
  pub source_is : source_text least ≡
      line (codes "#include \"m.h\"")
      ++ line (codes "static int64_t cp_b_s = ((-9223372036854775807LL) - 1LL);")
      ++ line (codes "void step(void)")
      ++ line (codes "{")
      ++ line (codes "  if ((cp_b_s == ((-9223372036854775807LL) - 1LL))) { t(cp_b_s); }")
      ++ line (codes "  int64_t cp_n_s = cp_b_s;")
      ++ line (codes "  cp_b_s = cp_n_s;")
      ++ line (codes "}")
  pub storage_is : storage_of least ≡ 8
  pub weight_is : unit_weight_of least ≡ 3
  pub is_spelled : HasSpelling least
  pub is_well_formed : IsWellFormed least
  -- its word is 2^63
  pub runs : run least ([] ∷ []) 1 ≡ Ok ((call 0 (9223372036854775808 ∷ []) ∷ []) ∷ [])
  -- the least number, as an expression: its text, its value and its two operators
  pub text_is : text (bin o.Sub (un u.Neg (lit k.LL 9223372036854775807)) (lit k.LL 1)) ≡ codes "((-9223372036854775807LL) - 1LL)"
  pub value_is : evaluate least (first_statics least) (bin o.Sub (un u.Neg (lit k.LL 9223372036854775807)) (lit k.LL 1)) ≡ record { value = Ok (number (num t.I64 (negsuc 9223372036854775807))); count = 2 }

-- ---- negative constants as arguments

unfoldable pub constants : CUnit
constants = record {
  name = codes "n";
  types = [];
  storage = 0;
  need = 4;
  externs = [];
  handlers = record { name = codes "t"; params = ty.Scalar t.I8 ∷ ty.Scalar t.I64 ∷ [] } ∷ [];
  rings = [];
  step =
      s.Call (codes "t") e.True (e.Bin o.Sub (e.Un u.Neg (e.Lit k.I 127)) (e.Lit k.I 1) ∷ e.Bin o.Sub (e.Un u.Neg (e.Lit k.LL 0)) (e.Lit k.LL 1) ∷ []) ∷ [];
}

pub record ConstantsWorks : Type 0 where
  pub source_is : source_text constants ≡
      line (codes "#include \"n.h\"")
      ++ line (codes "void step(void)")
      ++ line (codes "{")
      ++ line (codes "  if (true) { t(((-127) - 1), ((-0LL) - 1LL)); }")
      ++ line (codes "}")
  pub storage_is : storage_of constants ≡ 0
  pub weight_is : unit_weight_of constants ≡ 4
  pub is_spelled : HasSpelling constants
  pub is_well_formed : IsWellFormed constants

-- ---- a member of an element of an array of structs

unfoldable pub picker : CUnit
picker = record {
  name = codes "g";
  types =
      def.Struct (codes "P") (record { name = codes "x"; ty = ty.Scalar t.I16 } ∷ record { name = codes "y"; ty = ty.Scalar t.I16 } ∷ [])
      ∷ def.Array (codes "P") 3 ∷ [];
  storage = 16;
  need = 3;
  externs =
      record { name = codes "p"; ty = ty.Array (codes "P") 3 }
      ∷ record { name = codes "i"; ty = ty.Scalar t.U32 } ∷ [];
  handlers = record { name = codes "t"; params = ty.Scalar t.I16 ∷ [] } ∷ [];
  rings = [];
  step =
      s.Copy (codes "p")
      ∷ s.Copy (codes "i")
      ∷ s.Call (codes "t") e.True (e.Field (e.Pick (codes "P") 3 (e.Copy (codes "p")) (e.Copy (codes "i"))) (codes "x") ∷ []) ∷ [];
}

pub record PickerWorks : Type 0 where
  pub header_is : header_text picker ≡
      line (codes "#ifndef CP_g_H")
      ++ line (codes "#define CP_g_H")
      ++ line (codes "#include <stdint.h>")
      ++ line (codes "#include <stdbool.h>")
      ++ line (codes "enum { cp_storage = 16, cp_need = 3 };")
      ++ line (codes "struct P { int16_t x; int16_t y; };")
      ++ line (codes "struct cp_arr_P_3 { struct P e[3]; };")
      ++ line (codes "extern struct cp_arr_P_3 p;")
      ++ line (codes "extern uint32_t i;")
      ++ line (codes "void t(int16_t);")
      ++ line (codes "void step(void);")
      ++ line (codes "#endif")
  pub source_is : source_text picker ≡
      line (codes "#include \"g.h\"")
      ++ line (codes "static struct P cp_ix_P_3(struct cp_arr_P_3 cp_a, uint32_t cp_k) { return cp_a.e[cp_k]; }")
      ++ line (codes "static struct cp_arr_P_3 cp_c_p;")
      ++ line (codes "static uint32_t cp_c_i;")
      ++ line (codes "void step(void)")
      ++ line (codes "{")
      ++ line (codes "  cp_c_p = p;")
      ++ line (codes "  cp_c_i = i;")
      ++ line (codes "  if (true) { t((cp_ix_P_3(cp_c_p, cp_c_i).x)); }")
      ++ line (codes "}")
  pub storage_is : storage_of picker ≡ 16
  pub weight_is : unit_weight_of picker ≡ 3
  pub is_spelled : HasSpelling picker
  pub is_well_formed : IsWellFormed picker
  -- the element at 2, and then none at 3
  pub runs : run picker ((1 ∷ 2 ∷ 3 ∷ 4 ∷ 5 ∷ 6 ∷ 2 ∷ []) ∷ []) 1 ≡ Ok ((call 0 (5 ∷ []) ∷ []) ∷ [])
  pub stops : run picker ((1 ∷ 2 ∷ 3 ∷ 4 ∷ 5 ∷ 6 ∷ 2 ∷ []) ∷ (1 ∷ 2 ∷ 3 ∷ 4 ∷ 5 ∷ 6 ∷ 3 ∷ []) ∷ []) 2 ≡ Err (record { step = 1; kind = why.BadIndex })
