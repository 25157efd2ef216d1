-- Whole programs: their texts, their storage and weight, that they are well formed, and what they do.
use Rattle.std.specs.Prelude.{◌≡◌, ℕ, zero, suc, List, [], ◌∷◌, ◌++◌, replicate, codes, Result, Ok, Err, pos, negsuc, refl}
use Rattle.std.proofs.Common.{ap, ◌∙◌}
use Rattle.std.specs.Fmt.{digits}
use Rattle.c99_tree.specs.declared.expr.CLit.TheVariants as k
use Rattle.c99_tree.specs.declared.expr.CUn.TheVariants as u
use Rattle.c99_tree.specs.declared.expr.CBin.TheVariants as o
use Rattle.c99_tree.specs.declared.types.CScalar.TheVariants as t
use Rattle.c99_tree.specs.declared.undefined.Undefined.TheVariants as why
use Rattle.c99_tree.specs.declared.unit.Unit.{Unit as CUnit}
use Rattle.sm_io.specs.Words.{reserved, limit_fronts, limit_ends}
use Rattle.c99_tree.specs.Tree.{lit, yes, copy, head, cell, ring_at, un, bin, cast, field, pick, none, more, Stmt, copies, calls, nexts, stores, moves, puts, statements}
use Rattle.c99_tree.specs.TreeLaws.{tree_laws}
use Rattle.c99_tree.specs.CTypes.{num}
use Rattle.c99_tree.specs.Values.{number, shape_within}
use Rattle.c99_tree.specs.Spelling.{line, text, header_text, source_text, HasSpelling}
use Rattle.c99_tree.specs.Storage.{storage_of}
use Rattle.c99_tree.specs.Weight.{unit_weight_of}
use Rattle.c99_tree.specs.WellFormed.{IsWellFormed}
use Rattle.c99_tree.specs.Evaluation.{evaluate}
use Rattle.c99_tree.specs.Step.{perform, carry_out_all}
use Rattle.c99_tree.specs.Rows.{call}
use Rattle.c99_tree.specs.Programs.{heater, empty, door, counter, old_counter, pair, square, least, constants, picker, called_at_zero, HeaterWorks, EmptyWorks, DoorWorks, CounterWorks, OldCounterWorks, PairWorks, SquareWorks, LeastWorks, ConstantsWorks, PickerWorks}
use Rattle.c99_tree.specs.Run.{Ran, Stopped, run, run_to, row_at, with_step, stepped, calls_of, first_statics}

-- ---- runs of programs whose statements are known

stepped_by : CUnit → List Stmt → List ℕ → ℕ → Result Ran Stopped → Result Ran Stopped
stepped_by u ss row n (Ok ran) = with_step n ran.called (perform u ss ran.statics row).value
stepped_by u ss row n (Err stop) = Err stop

run_by : CUnit → List Stmt → List (List ℕ) → ℕ → Result Ran Stopped
run_by u ss rows zero = Ok (record { statics = first_statics u; called = [] })
run_by u ss rows (suc n) = stepped_by u ss (row_at rows n) n (run_by u ss rows n)

stepped-by : (u : CUnit) (row : List ℕ) (n : ℕ) (r : Result Ran Stopped) → stepped u row n r ≡ stepped_by u (statements u) row n r
unfolding stepped_by
stepped-by u row n (Ok ran) = refl
stepped-by u row n (Err stop) = refl

run_to-by : (u : CUnit) (rows : List (List ℕ)) (n : ℕ) → run_to u rows n ≡ run_by u (statements u) rows n
unfolding run_to run_by
run_to-by u rows zero = refl
run_to-by u rows (suc n) = ap (stepped u (row_at rows n) n) (run_to-by u rows n) ∙ stepped-by u (row_at rows n) n (run_by u (statements u) rows n)

-- a run by the statements that the program has
known_run : (u : CUnit) (ss : List Stmt) (rows : List (List ℕ)) (n : ℕ) → statements u ≡ ss → run u rows n ≡ calls_of (run_by u ss rows n)
known_run u ss rows n is = ap calls_of (run_to-by u rows n ∙ ap (λ (x : List Stmt). run_by u x rows n) is)

-- ---- a heater that one extern switches

heater_step : List Stmt
heater_step = copies (codes "temp") ∷ calls (codes "heat") (bin o.Lt (copy (codes "temp")) (lit k.I 18)) (more (copy (codes "temp")) none) ∷ []

heater_step_is : statements heater ≡ heater_step
unfolding heater heater_step
heater_step_is = simp tree_laws

heater_header : header_text heater ≡
    line (codes "#ifndef CP_heater_H")
    ++ line (codes "#define CP_heater_H")
    ++ line (codes "#include <stdint.h>")
    ++ line (codes "#include <stdbool.h>")
    ++ line (codes "enum { cp_storage = 4, cp_need = 1 };")
    ++ line (codes "extern int32_t temp;")
    ++ line (codes "void heat(int32_t);")
    ++ line (codes "void step(void);")
    ++ line (codes "#endif")
unfolding heater digits
heater_header = refl

heater_source : source_text heater ≡
    line (codes "#include \"heater.h\"")
    ++ line (codes "static int32_t cp_c_temp;")
    ++ line (codes "void step(void)")
    ++ line (codes "{")
    ++ line (codes "  cp_c_temp = temp;")
    ++ line (codes "  if ((cp_c_temp < 18)) { heat(cp_c_temp); }")
    ++ line (codes "}")
unfolding heater digits shape_within
heater_source = simp tree_laws

heater_storage : storage_of heater ≡ 4
unfolding heater shape_within
heater_storage = refl

heater_need : unit_weight_of heater ≡ 1
unfolding heater
heater_need = simp tree_laws

heater_is_spelled : HasSpelling heater
unfolding heater shape_within reserved limit_fronts limit_ends
heater_is_spelled = record { name = refl; numbers = refl; types = refl; externs = refl; handlers = refl; rings = refl; step = simp tree_laws }

heater_is_well_formed : IsWellFormed heater
unfolding heater shape_within reserved limit_fronts limit_ends
heater_is_well_formed = record { names = simp tree_laws; spaces = refl; types_first = refl; used_there = simp tree_laws; fields = refl; literals = simp tree_laws; constants = refl; types = simp tree_laws; arguments = refl; scalars = simp tree_laws; assigned = simp tree_laws; copied = simp tree_laws; rings = simp tree_laws; lengths = refl; heights = simp tree_laws; totals = simp tree_laws }

-- over 20 and 17
heater_run : run heater ((20 ∷ []) ∷ (17 ∷ []) ∷ []) 2 ≡ Ok ([] ∷ (call 0 (17 ∷ []) ∷ []) ∷ [])
unfolding heater heater_step run_by stepped_by carry_out_all evaluate shape_within
heater_run = known_run heater heater_step ((20 ∷ []) ∷ (17 ∷ []) ∷ []) 2 heater_step_is

-- ---- a program of nothing

empty_step : List Stmt
empty_step = []

empty_step_is : statements empty ≡ empty_step
unfolding empty empty_step
empty_step_is = refl

empty_header : header_text empty ≡
    line (codes "#ifndef CP_a_H")
    ++ line (codes "#define CP_a_H")
    ++ line (codes "#include <stdint.h>")
    ++ line (codes "#include <stdbool.h>")
    ++ line (codes "enum { cp_storage = 0, cp_need = 0 };")
    ++ line (codes "void step(void);")
    ++ line (codes "#endif")
unfolding empty digits
empty_header = refl

empty_source : source_text empty ≡
    line (codes "#include \"a.h\"")
    ++ line (codes "void step(void)")
    ++ line (codes "{")
    ++ line (codes "}")
unfolding empty digits shape_within
empty_source = refl

empty_storage : storage_of empty ≡ 0
unfolding empty shape_within
empty_storage = refl

empty_need : unit_weight_of empty ≡ 0
unfolding empty
empty_need = refl

empty_is_spelled : HasSpelling empty
unfolding empty shape_within reserved limit_fronts limit_ends
empty_is_spelled = record { name = refl; numbers = refl; types = refl; externs = refl; handlers = refl; rings = refl; step = refl }

empty_is_well_formed : IsWellFormed empty
unfolding empty shape_within reserved limit_fronts limit_ends
empty_is_well_formed = record { names = refl; spaces = refl; types_first = refl; used_there = refl; fields = refl; literals = refl; constants = refl; types = refl; arguments = refl; scalars = refl; assigned = refl; copied = refl; rings = refl; lengths = refl; heights = refl; totals = refl }

-- ---- a door, with a handler that takes nothing

door_step : List Stmt
door_step = copies (codes "ajar") ∷ calls (codes "chime") (copy (codes "ajar")) none ∷ []

door_step_is : statements door ≡ door_step
unfolding door door_step
door_step_is = simp tree_laws

door_header : header_text door ≡
    line (codes "#ifndef CP_door_H")
    ++ line (codes "#define CP_door_H")
    ++ line (codes "#include <stdint.h>")
    ++ line (codes "#include <stdbool.h>")
    ++ line (codes "enum { cp_storage = 1, cp_need = 0 };")
    ++ line (codes "extern bool ajar;")
    ++ line (codes "void chime(void);")
    ++ line (codes "void step(void);")
    ++ line (codes "#endif")
unfolding door digits
door_header = refl

door_source : source_text door ≡
    line (codes "#include \"door.h\"")
    ++ line (codes "static bool cp_c_ajar;")
    ++ line (codes "void step(void)")
    ++ line (codes "{")
    ++ line (codes "  cp_c_ajar = ajar;")
    ++ line (codes "  if (cp_c_ajar) { chime(); }")
    ++ line (codes "}")
unfolding door digits shape_within
door_source = simp tree_laws

door_storage : storage_of door ≡ 1
unfolding door shape_within
door_storage = refl

door_need : unit_weight_of door ≡ 0
unfolding door
door_need = simp tree_laws

door_is_spelled : HasSpelling door
unfolding door shape_within reserved limit_fronts limit_ends
door_is_spelled = record { name = refl; numbers = refl; types = refl; externs = refl; handlers = refl; rings = refl; step = simp tree_laws }

door_is_well_formed : IsWellFormed door
unfolding door shape_within reserved limit_fronts limit_ends
door_is_well_formed = record { names = simp tree_laws; spaces = refl; types_first = refl; used_there = simp tree_laws; fields = refl; literals = simp tree_laws; constants = refl; types = simp tree_laws; arguments = refl; scalars = simp tree_laws; assigned = refl; copied = simp tree_laws; rings = simp tree_laws; lengths = refl; heights = simp tree_laws; totals = simp tree_laws }

-- ---- a counter of eight bits that wraps, kept as one value

counter_step : List Stmt
counter_step = calls (codes "t") (bin o.Eq (cell (codes "n")) (lit k.U 0)) (more (cell (codes "n")) none) ∷ nexts (codes "n") (cast t.U8 (bin o.Add (cast t.U32 (cell (codes "n"))) (cast t.U32 (lit k.U 1)))) ∷ puts (codes "n") ∷ []

counter_step_is : statements counter ≡ counter_step
unfolding counter counter_step
counter_step_is = simp tree_laws

counter_header : header_text counter ≡
    line (codes "#ifndef CP_c_H")
    ++ line (codes "#define CP_c_H")
    ++ line (codes "#include <stdint.h>")
    ++ line (codes "#include <stdbool.h>")
    ++ line (codes "enum { cp_storage = 1, cp_need = 5 };")
    ++ line (codes "void t(uint8_t);")
    ++ line (codes "void step(void);")
    ++ line (codes "#endif")
unfolding counter digits
counter_header = refl

counter_source : source_text counter ≡
    line (codes "#include \"c.h\"")
    ++ line (codes "static uint8_t cp_b_n = 0U;")
    ++ line (codes "void step(void)")
    ++ line (codes "{")
    ++ line (codes "  if ((cp_b_n == 0U)) { t(cp_b_n); }")
    ++ line (codes "  uint8_t cp_n_n = ((uint8_t)(((uint32_t)cp_b_n) + ((uint32_t)1U)));")
    ++ line (codes "  cp_b_n = cp_n_n;")
    ++ line (codes "}")
unfolding counter digits shape_within
counter_source = simp tree_laws

counter_storage : storage_of counter ≡ 1
unfolding counter shape_within
counter_storage = refl

counter_need : unit_weight_of counter ≡ 5
unfolding counter
counter_need = simp tree_laws

counter_is_spelled : HasSpelling counter
unfolding counter shape_within reserved limit_fronts limit_ends
counter_is_spelled = record { name = refl; numbers = refl; types = refl; externs = refl; handlers = refl; rings = refl; step = simp tree_laws }

counter_is_well_formed : IsWellFormed counter
unfolding counter shape_within reserved limit_fronts limit_ends
counter_is_well_formed = record { names = simp tree_laws; spaces = refl; types_first = refl; used_there = simp tree_laws; fields = refl; literals = simp tree_laws; constants = refl; types = simp tree_laws; arguments = refl; scalars = simp tree_laws; assigned = simp tree_laws; copied = simp tree_laws; rings = simp tree_laws; lengths = refl; heights = simp tree_laws; totals = simp tree_laws }

counter_run : run counter (replicate 258 []) 258 ≡ Ok (called_at_zero 255 ++ called_at_zero 1)
unfolding counter counter_step run_by stepped_by carry_out_all evaluate shape_within
counter_run = known_run counter counter_step (replicate 258 []) 258 counter_step_is

-- ---- the same counter, kept as a ring with an index

old_counter_step : List Stmt
old_counter_step = calls (codes "t") (bin o.Eq (ring_at (codes "n") (bin o.Rem (bin o.Add (head (codes "n")) (lit k.U 0)) (lit k.U 1))) (lit k.U 0)) (more (ring_at (codes "n") (bin o.Rem (bin o.Add (head (codes "n")) (lit k.U 0)) (lit k.U 1))) none) ∷ nexts (codes "n") (cast t.U8 (bin o.Add (cast t.U32 (ring_at (codes "n") (bin o.Rem (bin o.Add (head (codes "n")) (lit k.U 0)) (lit k.U 1)))) (cast t.U32 (lit k.U 1)))) ∷ stores (codes "n") (head (codes "n")) ∷ moves (codes "n") (bin o.Rem (bin o.Add (head (codes "n")) (lit k.U 1)) (lit k.U 1)) ∷ []

old_counter_step_is : statements old_counter ≡ old_counter_step
unfolding old_counter old_counter_step
old_counter_step_is = simp tree_laws

old_counter_header : header_text old_counter ≡
    line (codes "#ifndef CP_c_H")
    ++ line (codes "#define CP_c_H")
    ++ line (codes "#include <stdint.h>")
    ++ line (codes "#include <stdbool.h>")
    ++ line (codes "enum { cp_storage = 5, cp_need = 17 };")
    ++ line (codes "void t(uint8_t);")
    ++ line (codes "void step(void);")
    ++ line (codes "#endif")
unfolding old_counter digits
old_counter_header = refl

old_counter_source : source_text old_counter ≡
    line (codes "#include \"c.h\"")
    ++ line (codes "static uint8_t cp_b_n[1] = { 0U };")
    ++ line (codes "static uint32_t cp_i_n = 0U;")
    ++ line (codes "void step(void)")
    ++ line (codes "{")
    ++ line (codes "  if ((cp_b_n[((cp_i_n + 0U) % 1U)] == 0U)) { t(cp_b_n[((cp_i_n + 0U) % 1U)]); }")
    ++ line (codes "  uint8_t cp_n_n = ((uint8_t)(((uint32_t)cp_b_n[((cp_i_n + 0U) % 1U)]) + ((uint32_t)1U)));")
    ++ line (codes "  cp_b_n[cp_i_n] = cp_n_n;")
    ++ line (codes "  cp_i_n = ((cp_i_n + 1U) % 1U);")
    ++ line (codes "}")
unfolding old_counter digits shape_within
old_counter_source = simp tree_laws

old_counter_storage : storage_of old_counter ≡ 5
unfolding old_counter shape_within
old_counter_storage = refl

old_counter_need : unit_weight_of old_counter ≡ 17
unfolding old_counter
old_counter_need = simp tree_laws

old_counter_is_spelled : HasSpelling old_counter
unfolding old_counter shape_within reserved limit_fronts limit_ends
old_counter_is_spelled = record { name = refl; numbers = refl; types = refl; externs = refl; handlers = refl; rings = refl; step = simp tree_laws }

old_counter_is_well_formed : IsWellFormed old_counter
unfolding old_counter shape_within reserved limit_fronts limit_ends
old_counter_is_well_formed = record { names = simp tree_laws; spaces = refl; types_first = refl; used_there = simp tree_laws; fields = refl; literals = simp tree_laws; constants = refl; types = simp tree_laws; arguments = refl; scalars = simp tree_laws; assigned = simp tree_laws; copied = simp tree_laws; rings = simp tree_laws; lengths = refl; heights = simp tree_laws; totals = simp tree_laws }

old_counter_run : run old_counter (replicate 258 []) 258 ≡ Ok (called_at_zero 255 ++ called_at_zero 1)
unfolding old_counter old_counter_step run_by stepped_by carry_out_all evaluate shape_within
old_counter_run = known_run old_counter old_counter_step (replicate 258 []) 258 old_counter_step_is

-- ---- two streams that read each other

pair_step : List Stmt
pair_step = calls (codes "o") yes (more (cell (codes "x")) (more (ring_at (codes "y") (bin o.Rem (bin o.Add (head (codes "y")) (lit k.U 0)) (lit k.U 5))) none)) ∷ nexts (codes "x") (cast t.I32 (bin o.Add (cast t.I32 (cell (codes "x"))) (cast t.I32 (ring_at (codes "y") (bin o.Rem (bin o.Add (head (codes "y")) (lit k.U 4)) (lit k.U 5)))))) ∷ nexts (codes "y") (cell (codes "x")) ∷ puts (codes "x") ∷ stores (codes "y") (head (codes "y")) ∷ moves (codes "y") (bin o.Rem (bin o.Add (head (codes "y")) (lit k.U 1)) (lit k.U 5)) ∷ []

pair_step_is : statements pair ≡ pair_step
unfolding pair pair_step
pair_step_is = simp tree_laws

pair_storage : storage_of pair ≡ 28
unfolding pair shape_within
pair_storage = refl

pair_need : unit_weight_of pair ≡ 13
unfolding pair
pair_need = simp tree_laws

pair_is_spelled : HasSpelling pair
unfolding pair shape_within reserved limit_fronts limit_ends
pair_is_spelled = record { name = refl; numbers = refl; types = refl; externs = refl; handlers = refl; rings = refl; step = simp tree_laws }

pair_is_well_formed : IsWellFormed pair
unfolding pair shape_within reserved limit_fronts limit_ends
pair_is_well_formed = record { names = simp tree_laws; spaces = refl; types_first = refl; used_there = simp tree_laws; fields = refl; literals = simp tree_laws; constants = refl; types = simp tree_laws; arguments = refl; scalars = simp tree_laws; assigned = simp tree_laws; copied = simp tree_laws; rings = simp tree_laws; lengths = refl; heights = simp tree_laws; totals = simp tree_laws }

-- over six rows
pair_run : run pair (replicate 6 []) 6 ≡
    Ok ((call 0 (1 ∷ 0 ∷ []) ∷ []) ∷ (call 0 (5 ∷ 1 ∷ []) ∷ []) ∷ (call 0 (6 ∷ 2 ∷ []) ∷ []) ∷ (call 0 (11 ∷ 3 ∷ []) ∷ [])
    ∷ (call 0 (17 ∷ 4 ∷ []) ∷ []) ∷ (call 0 (28 ∷ 1 ∷ []) ∷ []) ∷ [])
unfolding pair pair_step run_by stepped_by carry_out_all evaluate shape_within
pair_run = known_run pair pair_step (replicate 6 []) 6 pair_step_is

-- ---- a product that would overflow an int, and does not in uint32_t

square_step : List Stmt
square_step = copies (codes "w") ∷ calls (codes "t") yes (more (cast t.U16 (bin o.Mul (cast t.U32 (copy (codes "w"))) (cast t.U32 (copy (codes "w"))))) none) ∷ []

square_step_is : statements square ≡ square_step
unfolding square square_step
square_step_is = simp tree_laws

square_source : source_text square ≡
    line (codes "#include \"w.h\"")
    ++ line (codes "static uint16_t cp_c_w;")
    ++ line (codes "void step(void)")
    ++ line (codes "{")
    ++ line (codes "  cp_c_w = w;")
    ++ line (codes "  if (true) { t(((uint16_t)(((uint32_t)cp_c_w) * ((uint32_t)cp_c_w)))); }")
    ++ line (codes "}")
unfolding square digits shape_within
square_source = simp tree_laws

square_storage : storage_of square ≡ 2
unfolding square shape_within
square_storage = refl

square_need : unit_weight_of square ≡ 4
unfolding square
square_need = simp tree_laws

square_is_spelled : HasSpelling square
unfolding square shape_within reserved limit_fronts limit_ends
square_is_spelled = record { name = refl; numbers = refl; types = refl; externs = refl; handlers = refl; rings = refl; step = simp tree_laws }

square_is_well_formed : IsWellFormed square
unfolding square shape_within reserved limit_fronts limit_ends
square_is_well_formed = record { names = simp tree_laws; spaces = refl; types_first = refl; used_there = simp tree_laws; fields = refl; literals = simp tree_laws; constants = refl; types = simp tree_laws; arguments = refl; scalars = simp tree_laws; assigned = simp tree_laws; copied = simp tree_laws; rings = simp tree_laws; lengths = refl; heights = simp tree_laws; totals = simp tree_laws }

square_run : run square ((65535 ∷ []) ∷ []) 1 ≡ Ok ((call 0 (1 ∷ []) ∷ []) ∷ [])
unfolding square square_step run_by stepped_by carry_out_all evaluate shape_within
square_run = known_run square square_step ((65535 ∷ []) ∷ []) 1 square_step_is

-- without the casts the factors are promoted to int, which 65535 times 65535 overflows
narrow_product : (evaluate square (record { copies = number (num t.U16 (pos 65535)) ∷ []; rings = [] }) (cast t.U16 (bin o.Mul (copy (codes "w")) (copy (codes "w"))))).value ≡ Err why.Overflow
unfolding square evaluate
narrow_product = refl

-- ---- a ring that begins with the least number of 64 bits

least_step : List Stmt
least_step = calls (codes "t") (bin o.Eq (cell (codes "s")) (bin o.Sub (un u.Neg (lit k.LL 9223372036854775807)) (lit k.LL 1))) (more (cell (codes "s")) none) ∷ nexts (codes "s") (cell (codes "s")) ∷ puts (codes "s") ∷ []

least_step_is : statements least ≡ least_step
unfolding least least_step
least_step_is = simp tree_laws

least_source : source_text least ≡
    line (codes "#include \"m.h\"")
    ++ line (codes "static int64_t cp_b_s = ((-9223372036854775807LL) - 1LL);")
    ++ line (codes "void step(void)")
    ++ line (codes "{")
    ++ line (codes "  if ((cp_b_s == ((-9223372036854775807LL) - 1LL))) { t(cp_b_s); }")
    ++ line (codes "  int64_t cp_n_s = cp_b_s;")
    ++ line (codes "  cp_b_s = cp_n_s;")
    ++ line (codes "}")
unfolding least digits shape_within
least_source = simp tree_laws

least_storage : storage_of least ≡ 8
unfolding least shape_within
least_storage = refl

least_need : unit_weight_of least ≡ 3
unfolding least
least_need = simp tree_laws

least_is_spelled : HasSpelling least
unfolding least shape_within reserved limit_fronts limit_ends
least_is_spelled = record { name = refl; numbers = refl; types = refl; externs = refl; handlers = refl; rings = refl; step = simp tree_laws }

least_is_well_formed : IsWellFormed least
unfolding least shape_within reserved limit_fronts limit_ends
least_is_well_formed = record { names = simp tree_laws; spaces = refl; types_first = refl; used_there = simp tree_laws; fields = refl; literals = simp tree_laws; constants = refl; types = simp tree_laws; arguments = refl; scalars = simp tree_laws; assigned = simp tree_laws; copied = simp tree_laws; rings = simp tree_laws; lengths = refl; heights = simp tree_laws; totals = simp tree_laws }

-- its word is 2^63
least_run : run least ([] ∷ []) 1 ≡ Ok ((call 0 (9223372036854775808 ∷ []) ∷ []) ∷ [])
unfolding least least_step run_by stepped_by carry_out_all evaluate shape_within
least_run = known_run least least_step ([] ∷ []) 1 least_step_is

-- the least number, as an expression: its text, its value and its two operators
least_text : text (bin o.Sub (un u.Neg (lit k.LL 9223372036854775807)) (lit k.LL 1)) ≡ codes "((-9223372036854775807LL) - 1LL)"
unfolding digits
least_text = refl

least_value : evaluate least (first_statics least) (bin o.Sub (un u.Neg (lit k.LL 9223372036854775807)) (lit k.LL 1)) ≡ record { value = Ok (number (num t.I64 (negsuc 9223372036854775807))); count = 2 }
unfolding evaluate
least_value = refl

-- ---- negative constants as arguments

constants_step : List Stmt
constants_step = calls (codes "t") yes (more (bin o.Sub (un u.Neg (lit k.I 127)) (lit k.I 1)) (more (bin o.Sub (un u.Neg (lit k.LL 0)) (lit k.LL 1)) none)) ∷ []

constants_step_is : statements constants ≡ constants_step
unfolding constants constants_step
constants_step_is = simp tree_laws

constants_source : source_text constants ≡
    line (codes "#include \"n.h\"")
    ++ line (codes "void step(void)")
    ++ line (codes "{")
    ++ line (codes "  if (true) { t(((-127) - 1), ((-0LL) - 1LL)); }")
    ++ line (codes "}")
unfolding constants digits shape_within
constants_source = simp tree_laws

constants_storage : storage_of constants ≡ 0
unfolding constants shape_within
constants_storage = refl

constants_need : unit_weight_of constants ≡ 4
unfolding constants
constants_need = simp tree_laws

constants_is_spelled : HasSpelling constants
unfolding constants shape_within reserved limit_fronts limit_ends
constants_is_spelled = record { name = refl; numbers = refl; types = refl; externs = refl; handlers = refl; rings = refl; step = simp tree_laws }

constants_is_well_formed : IsWellFormed constants
unfolding constants shape_within reserved limit_fronts limit_ends
constants_is_well_formed = record { names = simp tree_laws; spaces = refl; types_first = refl; used_there = simp tree_laws; fields = refl; literals = simp tree_laws; constants = refl; types = simp tree_laws; arguments = refl; scalars = simp tree_laws; assigned = simp tree_laws; copied = simp tree_laws; rings = simp tree_laws; lengths = refl; heights = simp tree_laws; totals = simp tree_laws }

-- ---- a member of an element of an array of structs

picker_step : List Stmt
picker_step = copies (codes "p") ∷ copies (codes "i") ∷ calls (codes "t") yes (more (field (pick (codes "P") 3 (copy (codes "p")) (copy (codes "i"))) (codes "x")) none) ∷ []

picker_step_is : statements picker ≡ picker_step
unfolding picker picker_step
picker_step_is = simp tree_laws

picker_header : header_text picker ≡
    line (codes "#ifndef CP_g_H")
    ++ line (codes "#define CP_g_H")
    ++ line (codes "#include <stdint.h>")
    ++ line (codes "#include <stdbool.h>")
    ++ line (codes "enum { cp_storage = 16, cp_need = 3 };")
    ++ line (codes "struct P { int16_t x; int16_t y; };")
    ++ line (codes "struct cp_arr_P_3 { struct P e[3]; };")
    ++ line (codes "extern struct cp_arr_P_3 p;")
    ++ line (codes "extern uint32_t i;")
    ++ line (codes "void t(int16_t);")
    ++ line (codes "void step(void);")
    ++ line (codes "#endif")
unfolding picker digits
picker_header = refl

picker_source : source_text picker ≡
    line (codes "#include \"g.h\"")
    ++ line (codes "static struct P cp_ix_P_3(struct cp_arr_P_3 cp_a, uint32_t cp_k) { return cp_a.e[cp_k]; }")
    ++ line (codes "static struct cp_arr_P_3 cp_c_p;")
    ++ line (codes "static uint32_t cp_c_i;")
    ++ line (codes "void step(void)")
    ++ line (codes "{")
    ++ line (codes "  cp_c_p = p;")
    ++ line (codes "  cp_c_i = i;")
    ++ line (codes "  if (true) { t((cp_ix_P_3(cp_c_p, cp_c_i).x)); }")
    ++ line (codes "}")
unfolding picker digits shape_within
picker_source = simp tree_laws

picker_storage : storage_of picker ≡ 16
unfolding picker shape_within
picker_storage = refl

picker_need : unit_weight_of picker ≡ 3
unfolding picker
picker_need = simp tree_laws

picker_is_spelled : HasSpelling picker
unfolding picker shape_within reserved limit_fronts limit_ends
picker_is_spelled = record { name = refl; numbers = refl; types = refl; externs = refl; handlers = refl; rings = refl; step = simp tree_laws }

picker_is_well_formed : IsWellFormed picker
unfolding picker shape_within reserved limit_fronts limit_ends
picker_is_well_formed = record { names = simp tree_laws; spaces = refl; types_first = refl; used_there = simp tree_laws; fields = refl; literals = simp tree_laws; constants = refl; types = simp tree_laws; arguments = refl; scalars = simp tree_laws; assigned = simp tree_laws; copied = simp tree_laws; rings = simp tree_laws; lengths = refl; heights = simp tree_laws; totals = simp tree_laws }

-- the element at 2, and then none at 3
picker_run : run picker ((1 ∷ 2 ∷ 3 ∷ 4 ∷ 5 ∷ 6 ∷ 2 ∷ []) ∷ []) 1 ≡ Ok ((call 0 (5 ∷ []) ∷ []) ∷ [])
unfolding picker picker_step run_by stepped_by carry_out_all evaluate shape_within
picker_run = known_run picker picker_step ((1 ∷ 2 ∷ 3 ∷ 4 ∷ 5 ∷ 6 ∷ 2 ∷ []) ∷ []) 1 picker_step_is

picker_stops : run picker ((1 ∷ 2 ∷ 3 ∷ 4 ∷ 5 ∷ 6 ∷ 2 ∷ []) ∷ (1 ∷ 2 ∷ 3 ∷ 4 ∷ 5 ∷ 6 ∷ 3 ∷ []) ∷ []) 2 ≡ Err (record { step = 1; kind = why.BadIndex })
unfolding picker picker_step run_by stepped_by carry_out_all evaluate shape_within
picker_stops = known_run picker picker_step ((1 ∷ 2 ∷ 3 ∷ 4 ∷ 5 ∷ 6 ∷ 2 ∷ []) ∷ (1 ∷ 2 ∷ 3 ∷ 4 ∷ 5 ∷ 6 ∷ 3 ∷ []) ∷ []) 2 picker_step_is

pub heater-works : HeaterWorks
heater-works = record { header_is = heater_header; source_is = heater_source; storage_is = heater_storage; weight_is = heater_need; is_spelled = heater_is_spelled; is_well_formed = heater_is_well_formed; runs = heater_run }

pub empty-works : EmptyWorks
empty-works = record { header_is = empty_header; source_is = empty_source; storage_is = empty_storage; weight_is = empty_need; is_spelled = empty_is_spelled; is_well_formed = empty_is_well_formed }

pub door-works : DoorWorks
door-works = record { header_is = door_header; source_is = door_source; storage_is = door_storage; weight_is = door_need; is_spelled = door_is_spelled; is_well_formed = door_is_well_formed }

pub counter-works : CounterWorks
counter-works = record { header_is = counter_header; source_is = counter_source; storage_is = counter_storage; weight_is = counter_need; is_spelled = counter_is_spelled; is_well_formed = counter_is_well_formed; runs = counter_run }

pub old_counter-works : OldCounterWorks
old_counter-works = record { header_is = old_counter_header; source_is = old_counter_source; storage_is = old_counter_storage; weight_is = old_counter_need; is_spelled = old_counter_is_spelled; is_well_formed = old_counter_is_well_formed; runs = old_counter_run }

pub pair-works : PairWorks
pair-works = record { storage_is = pair_storage; weight_is = pair_need; is_spelled = pair_is_spelled; is_well_formed = pair_is_well_formed; runs = pair_run }

pub square-works : SquareWorks
square-works = record { source_is = square_source; storage_is = square_storage; weight_is = square_need; is_spelled = square_is_spelled; is_well_formed = square_is_well_formed; runs = square_run; narrow_product = narrow_product }

pub least-works : LeastWorks
least-works = record { source_is = least_source; storage_is = least_storage; weight_is = least_need; is_spelled = least_is_spelled; is_well_formed = least_is_well_formed; runs = least_run; text_is = least_text; value_is = least_value }

pub constants-works : ConstantsWorks
constants-works = record { source_is = constants_source; storage_is = constants_storage; weight_is = constants_need; is_spelled = constants_is_spelled; is_well_formed = constants_is_well_formed }

pub picker-works : PickerWorks
picker-works = record { header_is = picker_header; source_is = picker_source; storage_is = picker_storage; weight_is = picker_need; is_spelled = picker_is_spelled; is_well_formed = picker_is_well_formed; runs = picker_run; stops = picker_stops }
