-- One call of `step`: its statements in order, while the externs hold a row.
-- Sections are those of ISO/IEC 9899:1999.
use Rattle.std.specs.Prelude.{ℕ, if◌then◌else◌, List, [], ◌∷◌, ◌++◌, map, slice_set, Ok, unsigned_abs}
use Rattle.std.specs.Option.{option_map, option_map_or}
use Rattle.c99_tree.specs.declared.types.CScalar.TheVariants as t
use Rattle.c99_tree.specs.declared.types.CTy.{CTy}
use Rattle.c99_tree.specs.declared.unit.Unit.{Unit as CUnit}
use Rattle.c99_tree.specs.Tree.{Exprs, Stmt, copies, calls, nexts, stores, moves, puts, statements}
use Rattle.c99_tree.specs.CTypes.{Num, is_zero, converted}
use Rattle.c99_tree.specs.Lookup.{ring_of, handler_of, place_of_var, place_of_ring, place_of_handler}
use Rattle.c99_tree.specs.Values.{Value, words_of_all, number_in, no_such_value, row_values}
use Rattle.c99_tree.specs.Evaluation.{Met, done, meets, ◌>>=◌, Statics, value_at, values_in, index_in, element, settled, evaluate, evaluate_all}

-- a call of a handler: its place among the unit's handlers, from 0, and the words of its converted arguments
pub record Called : Type 0 where
  pub handler : ℕ
  pub words : List ℕ

-- how far a call of `step` has come: the statics, the locals `cp_n_r` in the order of the rings, and the calls so far
pub record Progress : Type 0 where
  pub statics : Statics
  pub locals : List Value
  pub called : List Called

abbrev pub with_statics : Progress → Statics → Progress
with_statics p s = record p { statics = s }

-- the copy of an extern gets a value
abbrev pub with_copy : CUnit → List ℕ → Value → Statics → Statics
with_copy u x v s = record s { copies = slice_set s.copies (place_of_var u.externs x) v }

-- a ring gets values, and an index
abbrev pub with_ring : CUnit → List ℕ → List Value → ℕ → Statics → Statics
with_ring u r vs k s = record s { rings = slice_set s.rings (place_of_ring u r) (record { values = vs; index = k }) }

abbrev pub with_local : CUnit → List ℕ → Value → Progress → Progress
with_local u r v p = record p { locals = slice_set p.locals (place_of_ring u r) v }

abbrev pub with_call : Called → Progress → Progress
with_call c p = record p { called = p.called ++ c ∷ [] }

abbrev pub local_in : CUnit → Progress → List ℕ → Value
local_in u p r = value_at p.locals (place_of_ring u r)

-- the types of a handler's parameters
abbrev pub params_of : CUnit → List ℕ → List CTy
params_of u h = option_map_or (λ proto. proto.params) (handler_of u h) []

-- the call, where the guard isn't 0 (6.8.4.1); the arguments convert to the parameters' types (6.5.2.2 paragraph 7)
abbrev pub called_if : CUnit → List ℕ → Exprs → Progress → Num → Met Progress
called_if u h args p guard =
    if is_zero guard then done (Ok p)
    else (evaluate_all u p.statics (params_of u h) args >>= λ vs.
    done (Ok (with_call (record { handler = place_of_handler u h; words = words_of_all vs }) p)))

-- the ring's element at the subscript becomes the local value
abbrev pub stored : CUnit → List ℕ → Progress → Num → Met Progress
stored u r p i =
    done (element (values_in u p.statics r) i.n) >>= λ old.
    done (Ok (with_statics p (with_ring u r (slice_set (values_in u p.statics r) (unsigned_abs i.n) (local_in u p r)) (index_in u p.statics r) p.statics)))

-- a statement, while the externs hold these values. Assignment and initialisation convert to the object's type
-- (6.5.16.1, 6.7.8). A Store's own subscript is an operator, met before the expression in it; assignments, `if` and
-- calls of handlers are none
abbrev pub carry_out : CUnit → List Value → Stmt → Progress → Met Progress
carry_out u xs (copies x) p =
    done (Ok (with_statics p (with_copy u x (value_at xs (place_of_var u.externs x)) p.statics)))
carry_out u xs (calls h guard args) p = evaluate u p.statics guard >>= λ v. called_if u h args p (number_in v)
carry_out u xs (nexts r e) p =
    evaluate u p.statics e >>= λ v. done (settled (option_map (λ ring. ring.ty) (ring_of u r)) v) >>= λ x.
    done (Ok (with_local u r x p))
carry_out u xs (stores r e) p = meets 1 (evaluate u p.statics e >>= λ v. stored u r p (number_in v))
carry_out u xs (moves r e) p =
    evaluate u p.statics e >>= λ v. done (converted t.U32 (number_in v)) >>= λ k.
    done (Ok (with_statics p (with_ring u r (values_in u p.statics r) (unsigned_abs k.n) p.statics)))
carry_out u xs (puts r) p =
    done (Ok (with_statics p (with_ring u r (local_in u p r ∷ []) (index_in u p.statics r) p.statics)))

unfoldable pub carry_out_all : CUnit → List Value → List Stmt → Progress → Met Progress
carry_out_all u xs [] p = done (Ok p)
carry_out_all u xs (s ∷ ss) p = carry_out u xs s p >>= carry_out_all u xs ss

-- the externs' values that a row of words gives
abbrev pub extern_values : CUnit → List ℕ → List Value
extern_values u row = option_map_or (λ a. a.0) (row_values u.types u.externs row) []

abbrev pub at_entry : CUnit → Statics → Progress
at_entry u s = record { statics = s; locals = map (λ r. no_such_value) u.rings; called = [] }

-- these statements, carried out on these statics
abbrev pub perform : CUnit → List Stmt → Statics → List ℕ → Met Progress
perform u ss s row = carry_out_all u (extern_values u row) ss (at_entry u s)

-- a call of `step` on these statics, while the externs hold this row: the statics and the calls that it ends with, or
-- the first thing that is undefined, and how many operators it meets
abbrev pub step : CUnit → Statics → List ℕ → Met Progress
step u s row = perform u (statements u) s row
