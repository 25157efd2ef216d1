-- Data of worked rows: statements of `step`, the calls that they make, and the operators that they meet.
use Rattle.std.specs.Prelude.{List, [], ◌∷◌, codes}
use Rattle.c99_tree.specs.Tree.{lit, yes, copy, head, cell, ring_at, un, bin, choose, pick, rec, none, more, copies, calls, nexts, stores, moves, puts}
use Rattle.c99_tree.specs.Rows.{StepRow, step_gives, step_stops, call}
use Rattle.c99_tree.specs.declared.expr.CLit.TheVariants as k
use Rattle.c99_tree.specs.declared.expr.CUn.TheVariants as u
use Rattle.c99_tree.specs.declared.expr.CBin.TheVariants as o
use Rattle.c99_tree.specs.declared.undefined.Undefined.TheVariants as why

-- arguments, guards, next values, stores, moves, copies, and a stop, over the statics and the row of Rows.antt
unfoldable pub step_rows : List StepRow
step_rows =
    step_gives (codes "if (true) { h_word8(300); }" ∷ [])
    (calls (codes "h_word8") yes (more (lit k.I 300) none) ∷ [])
    (call 0 (44 ∷ []) ∷ []) 0 0
    ∷ step_stops (codes "if (true) { h_int8(200); }" ∷ [])
    (calls (codes "h_int8") yes (more (lit k.I 200) none) ∷ [])
    why.BadConversion 0 0
    ∷ step_gives (codes "if (true) { h_int8((-1)); }" ∷ [])
    (calls (codes "h_int8") yes (more (un u.Neg (lit k.I 1)) none) ∷ [])
    (call 1 (18446744073709551615 ∷ []) ∷ []) 1 1
    ∷ step_gives (codes "if (true) { h_bool(2); }" ∷ [])
    (calls (codes "h_bool") yes (more (lit k.I 2) none) ∷ [])
    (call 2 (1 ∷ []) ∷ []) 0 0
    ∷ step_gives (codes "if (true) { h_int64((true ? (-1) : 1U)); }" ∷ [])
    (calls (codes "h_int64") yes (more (choose yes (un u.Neg (lit k.I 1)) (lit k.U 1)) none) ∷ [])
    (call 3 (4294967295 ∷ []) ∷ []) 2 2
    ∷ step_gives (codes "if (true) { h_two(5, 300); }" ∷ [])
    (calls (codes "h_two") yes (more (lit k.I 5) (more (lit k.I 300) none)) ∷ [])
    (call 4 (5 ∷ 44 ∷ []) ∷ []) 0 0
    ∷ step_stops (codes "if (true) { h_two(200, (1 / 0)); }" ∷ [])
    (calls (codes "h_two") yes (more (lit k.I 200) (more (bin o.Div (lit k.I 1) (lit k.I 0)) none)) ∷ [])
    why.BadConversion 0 1
    ∷ step_stops (codes "if (true) { h_two((1 / 0), 200); }" ∷ [])
    (calls (codes "h_two") yes (more (bin o.Div (lit k.I 1) (lit k.I 0)) (more (lit k.I 200) none)) ∷ [])
    why.ZeroDivisor 1 1
    ∷ step_gives (codes "if (true) { h_p(((struct P){ (-5), 300 })); }" ∷ [])
    (calls (codes "h_p") yes (more (rec (codes "P") (more (un u.Neg (lit k.I 5)) (more (lit k.I 300) none))) none) ∷ [])
    (call 5 (18446744073709551611 ∷ 44 ∷ []) ∷ []) 2 2
    ∷ step_gives (codes "if ((3 - 3)) { h_word8((1 / 0)); }" ∷ [])
    (calls (codes "h_word8") (bin o.Sub (lit k.I 3) (lit k.I 3)) (more (bin o.Div (lit k.I 1) (lit k.I 0)) none) ∷ [])
    [] 1 2
    ∷ step_gives (codes "if ((-1)) { h_word8((1 + 2)); }" ∷ [])
    (calls (codes "h_word8") (un u.Neg (lit k.I 1)) (more (bin o.Add (lit k.I 1) (lit k.I 2)) none) ∷ [])
    (call 0 (3 ∷ []) ∷ []) 2 2
    ∷ step_gives (codes "if (256) { h_word8(1); }" ∷ [])
    (calls (codes "h_word8") (lit k.I 256) (more (lit k.I 1) none) ∷ [])
    (call 0 (1 ∷ []) ∷ []) 0 0
    ∷ step_gives (codes "if (4294967296LL) { h_word8(1); }" ∷ [])
    (calls (codes "h_word8") (lit k.LL 4294967296) (more (lit k.I 1) none) ∷ [])
    (call 0 (1 ∷ []) ∷ []) 0 0
    ∷ step_stops (codes "if ((1 / 0)) { h_word8((1 + 2)); }" ∷ [])
    (calls (codes "h_word8") (bin o.Div (lit k.I 1) (lit k.I 0)) (more (bin o.Add (lit k.I 1) (lit k.I 2)) none) ∷ [])
    why.ZeroDivisor 1 2
    ∷ step_gives (codes "uint8_t cp_n_c = 300;" ∷ codes "cp_b_c = cp_n_c;" ∷ codes "if (true) { h_int64(cp_b_c); }" ∷ [])
    (nexts (codes "c") (lit k.I 300)
    ∷ puts (codes "c")
    ∷ calls (codes "h_int64") yes (more (cell (codes "c")) none)
    ∷ [])
    (call 3 (44 ∷ []) ∷ []) 0 0
    ∷ step_stops (codes "int8_t cp_n_d = 200;" ∷ [])
    (nexts (codes "d") (lit k.I 200) ∷ [])
    why.BadConversion 0 0
    ∷ step_gives (codes "int8_t cp_n_d = (-1);" ∷ codes "cp_b_d = cp_n_d;" ∷ codes "if (true) { h_int64(cp_b_d); }" ∷ [])
    (nexts (codes "d") (un u.Neg (lit k.I 1))
    ∷ puts (codes "d")
    ∷ calls (codes "h_int64") yes (more (cell (codes "d")) none)
    ∷ [])
    (call 3 (18446744073709551615 ∷ []) ∷ []) 1 1
    ∷ step_gives (codes "bool cp_n_e = 2;" ∷ codes "cp_b_e = cp_n_e;" ∷ codes "if (true) { h_int64(cp_b_e); }" ∷ [])
    (nexts (codes "e") (lit k.I 2)
    ∷ puts (codes "e")
    ∷ calls (codes "h_int64") yes (more (cell (codes "e")) none)
    ∷ [])
    (call 3 (1 ∷ []) ∷ []) 0 0
    ∷ step_gives (codes "uint8_t cp_n_c = (cp_b_c + 1);" ∷ codes "if (true) { h_int64(cp_b_c); }" ∷ codes "cp_b_c = cp_n_c;" ∷ codes "if (true) { h_int64(cp_b_c); }" ∷ [])
    (nexts (codes "c") (bin o.Add (cell (codes "c")) (lit k.I 1))
    ∷ calls (codes "h_int64") yes (more (cell (codes "c")) none)
    ∷ puts (codes "c")
    ∷ calls (codes "h_int64") yes (more (cell (codes "c")) none)
    ∷ [])
    (call 3 (7 ∷ []) ∷ call 3 (8 ∷ []) ∷ []) 1 1
    ∷ step_gives (codes "int16_t cp_n_r = 99;" ∷ codes "cp_b_r[(0 + 1)] = cp_n_r;" ∷ codes "if (true) { h_int64(cp_b_r[0]); }" ∷ codes "if (true) { h_int64(cp_b_r[1]); }" ∷ [])
    (nexts (codes "r") (lit k.I 99)
    ∷ stores (codes "r") (bin o.Add (lit k.I 0) (lit k.I 1))
    ∷ calls (codes "h_int64") yes (more (ring_at (codes "r") (lit k.I 0)) none)
    ∷ calls (codes "h_int64") yes (more (ring_at (codes "r") (lit k.I 1)) none)
    ∷ [])
    (call 3 (10 ∷ []) ∷ call 3 (99 ∷ []) ∷ []) 4 4
    ∷ step_stops (codes "int16_t cp_n_r = 99;" ∷ codes "cp_b_r[3] = cp_n_r;" ∷ [])
    (nexts (codes "r") (lit k.I 99)
    ∷ stores (codes "r") (lit k.I 3)
    ∷ [])
    why.BadIndex 1 1
    ∷ step_stops (codes "int16_t cp_n_r = 99;" ∷ codes "cp_b_r[4294967296LL] = cp_n_r;" ∷ [])
    (nexts (codes "r") (lit k.I 99)
    ∷ stores (codes "r") (lit k.LL 4294967296)
    ∷ [])
    why.BadIndex 1 1
    ∷ step_stops (codes "int16_t cp_n_r = 99;" ∷ codes "cp_b_r[(-1)] = cp_n_r;" ∷ [])
    (nexts (codes "r") (lit k.I 99)
    ∷ stores (codes "r") (un u.Neg (lit k.I 1))
    ∷ [])
    why.BadIndex 2 2
    ∷ step_stops (codes "int16_t cp_n_r = 99;" ∷ codes "cp_b_r[(1 / 0)] = cp_n_r;" ∷ [])
    (nexts (codes "r") (lit k.I 99)
    ∷ stores (codes "r") (bin o.Div (lit k.I 1) (lit k.I 0))
    ∷ [])
    why.ZeroDivisor 2 2
    ∷ step_gives (codes "cp_i_r = 4294967297LL;" ∷ codes "if (true) { h_int64(cp_i_r); }" ∷ [])
    (moves (codes "r") (lit k.LL 4294967297)
    ∷ calls (codes "h_int64") yes (more (head (codes "r")) none)
    ∷ [])
    (call 3 (1 ∷ []) ∷ []) 0 0
    ∷ step_gives (codes "cp_i_r = (-1);" ∷ codes "if (true) { h_int64(cp_i_r); }" ∷ [])
    (moves (codes "r") (un u.Neg (lit k.I 1))
    ∷ calls (codes "h_int64") yes (more (head (codes "r")) none)
    ∷ [])
    (call 3 (4294967295 ∷ []) ∷ []) 1 1
    ∷ step_gives (codes "cp_c_w = w;" ∷ codes "if (true) { h_word8(cp_c_w); }" ∷ [])
    (copies (codes "w")
    ∷ calls (codes "h_word8") yes (more (copy (codes "w")) none)
    ∷ [])
    (call 0 (201 ∷ []) ∷ []) 0 0
    ∷ step_gives (codes "cp_c_a = a;" ∷ codes "if (true) { h_p(cp_ix_P_3(cp_c_a, 1)); }" ∷ [])
    (copies (codes "a")
    ∷ calls (codes "h_p") yes (more (pick (codes "P") 3 (copy (codes "a")) (lit k.I 1)) none)
    ∷ [])
    (call 5 (13 ∷ 14 ∷ []) ∷ []) 2 2
    ∷ step_stops (codes "if (true) { h_word8((1 + 2)); }" ∷ codes "int8_t cp_n_d = (100 + 100);" ∷ codes "if (true) { h_word8((3 + 4)); }" ∷ [])
    (calls (codes "h_word8") yes (more (bin o.Add (lit k.I 1) (lit k.I 2)) none)
    ∷ nexts (codes "d") (bin o.Add (lit k.I 100) (lit k.I 100))
    ∷ calls (codes "h_word8") yes (more (bin o.Add (lit k.I 3) (lit k.I 4)) none)
    ∷ [])
    why.BadConversion 2 3
    ∷ []
