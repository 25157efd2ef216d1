-- What a worked row says, and the program over which the rows of statements and objects stand.
use Rattle.std.specs.Prelude.{◌≡◌, ℕ, List, [], ◌∷◌, ◌++◌, map, codes, Some, Result, Ok, Err, ℤ, pos, ◌-ℤ◌, false, true}
use Rattle.std.specs.List.{sum_by}
use Rattle.c99_tree.specs.declared.types.CScalar.{CScalar}
use Rattle.c99_tree.specs.declared.types.CScalar.TheVariants as t
use Rattle.c99_tree.specs.declared.types.CTy.{CTy}
use Rattle.c99_tree.specs.declared.types.CTy.TheVariants as ty
use Rattle.c99_tree.specs.declared.types.CVar.{CVar}
use Rattle.c99_tree.specs.declared.types.CDef.TheVariants as def
use Rattle.c99_tree.specs.declared.types.CProto.{CProto}
use Rattle.c99_tree.specs.declared.unit.CRing.{CRing}
use Rattle.c99_tree.specs.declared.undefined.Undefined.{Undefined}
use Rattle.c99_tree.specs.declared.unit.Unit.{Unit as CUnit}
use Rattle.c99_tree.specs.Tree.{Expr, Stmt}
use Rattle.c99_tree.specs.CTypes.{num}
use Rattle.c99_tree.specs.Values.{Value, number, struct_of, array_of, values}
use Rattle.c99_tree.specs.Spelling.{text, line, statement_line}
use Rattle.c99_tree.specs.Typing.{type_of}
use Rattle.c99_tree.specs.Weight.{weight, statement_weight}
use Rattle.c99_tree.specs.Evaluation.{Met, Statics, RingState, evaluate}
use Rattle.c99_tree.specs.Step.{Called, Progress, perform}

-- ---- rows of expressions

-- how an expression is written, the expression, its type, what its evaluation gives after how many operators, and its
-- weight
pub record Row : Type 0 where
  pub written : List ℕ
  pub expr : Expr
  pub type : CTy
  pub given : Met Value
  pub operators : ℕ

-- an expression of some type with a value, or with something undefined
abbrev pub holds : List ℕ → Expr → CTy → Value → ℕ → ℕ → Row
holds w e t v met all = record { written = w; expr = e; type = t; given = record { value = Ok v; count = met }; operators = all }

abbrev pub breaks : List ℕ → Expr → CTy → Undefined → ℕ → ℕ → Row
breaks w e t reason met all = record { written = w; expr = e; type = t; given = record { value = Err reason; count = met }; operators = all }

-- the same of a scalar
abbrev pub gives : List ℕ → Expr → CScalar → ℤ → ℕ → ℕ → Row
gives w e t n met all = holds w e (ty.Scalar t) (number (num t n)) met all

abbrev pub stops : List ℕ → Expr → CScalar → Undefined → ℕ → ℕ → Row
stops w e t reason met all = breaks w e (ty.Scalar t) reason met all

abbrev pub minus : ℕ → ℤ
minus n = pos 0 -ℤ pos n

-- each expression is written so, has this type, gives this, and weighs this
pub record AreRight (u : CUnit) (s : Statics) (rows : List Row) : Type 0 where
  pub written : map (λ r. text r.expr) rows ≡ map (λ r. r.written) rows
  pub types : map (λ r. type_of u r.expr) rows ≡ map (λ r. Some r.type) rows
  pub given : map (λ r. evaluate u s r.expr) rows ≡ map (λ r. r.given) rows
  pub weights : map (λ r. weight r.expr) rows ≡ map (λ r. r.operators) rows

-- ---- rows of statements

-- how some statements of a step are written, the statements, the calls that they make after how many operators, and
-- their weight
pub record StepRow : Type 0 where
  pub written : List (List ℕ)
  pub body : List Stmt
  pub given : Met (List Called)
  pub operators : ℕ

abbrev pub step_gives : List (List ℕ) → List Stmt → List Called → ℕ → ℕ → StepRow
step_gives w ss calls met all = record { written = w; body = ss; given = record { value = Ok calls; count = met }; operators = all }

abbrev pub step_stops : List (List ℕ) → List Stmt → Undefined → ℕ → ℕ → StepRow
step_stops w ss reason met all = record { written = w; body = ss; given = record { value = Err reason; count = met }; operators = all }

abbrev pub call : ℕ → List ℕ → Called
call h ws = record { handler = h; words = ws }

abbrev pub calls_made : Result Progress Undefined → Result (List Called) Undefined
calls_made (Ok p) = Ok p.called
calls_made (Err e) = Err e

-- the calls that some statements make, while the externs hold a row
abbrev pub calls_by : CUnit → Statics → List ℕ → List Stmt → Met (List Called)
calls_by u s row ss = let m = perform u ss s row in record { value = calls_made m.value; count = m.count }

-- each group of statements is written so, makes these calls, and weighs this
pub record AreCarriedOut (u : CUnit) (s : Statics) (row : List ℕ) (rows : List StepRow) : Type 0 where
  pub written : map (λ r. map (statement_line u) r.body) rows ≡ map (λ r. map (λ l. line (codes "  " ++ l)) r.written) rows
  pub given : map (λ r. calls_by u s row r.body) rows ≡ map (λ r. r.given) rows
  pub weights : map (λ r. sum_by statement_weight r.body) rows ≡ map (λ r. r.operators) rows

-- ---- the program of the rows

abbrev pub variable : List ℕ → CTy → CVar
variable x t = record { name = x; ty = t }

abbrev pub handler : List ℕ → List CTy → CProto
handler h ts = record { name = h; params = ts }

-- a ring of one value, without an index, that begins with 0
abbrev pub single : List ℕ → CScalar → CRing
single r t = record { name = r; ty = ty.Scalar t; len = 1; indexed = false; init = 0 ∷ [] }

unfoldable pub probe : CUnit
probe = record {
  name = codes "probe";
  types =
      def.Struct (codes "P") (variable (codes "x") (ty.Scalar t.I16) ∷ variable (codes "y") (ty.Scalar t.U8) ∷ [])
      ∷ def.Array (codes "P") 3 ∷ def.Array (codes "Word8") 2 ∷ def.Array (codes "Int8") 2 ∷ def.Array (codes "Bool") 2 ∷ [];
  storage = 23;
  need = 0;
  externs = variable (codes "a") (ty.Array (codes "P") 3) ∷ variable (codes "w") (ty.Scalar t.U8) ∷ [];
  handlers =
      handler (codes "h_word8") (ty.Scalar t.U8 ∷ []) ∷ handler (codes "h_int8") (ty.Scalar t.I8 ∷ [])
      ∷ handler (codes "h_bool") (ty.Scalar t.Bool ∷ []) ∷ handler (codes "h_int64") (ty.Scalar t.I64 ∷ [])
      ∷ handler (codes "h_two") (ty.Scalar t.I8 ∷ ty.Scalar t.U8 ∷ []) ∷ handler (codes "h_p") (ty.Struct (codes "P") ∷ []) ∷ [];
  rings =
      record { name = codes "r"; ty = ty.Scalar t.I16; len = 3; indexed = true; init = 0 ∷ 0 ∷ 0 ∷ [] }
      ∷ single (codes "c") t.U8 ∷ single (codes "d") t.I8 ∷ single (codes "e") t.Bool ∷ [];
  step = [];
}

abbrev pub value_of : CScalar → ℤ → Value
value_of t n = number (num t n)

-- a struct P
abbrev pub point : ℤ → ℤ → Value
point x y = struct_of (values (value_of t.I16 x ∷ value_of t.U8 y ∷ []))

abbrev pub ring_state : List Value → ℕ → RingState
ring_state vs k = record { values = vs; index = k }

-- statics that the program may have
unfoldable pub probe_statics : Statics
probe_statics = record {
  copies = array_of (values (point (pos 1) (pos 2) ∷ point (pos 3) (pos 4) ∷ point (minus 5) (pos 6) ∷ [])) ∷ value_of t.U8 (pos 200) ∷ [];
  rings =
      ring_state (value_of t.I16 (pos 10) ∷ value_of t.I16 (pos 20) ∷ value_of t.I16 (minus 30) ∷ []) 2
      ∷ ring_state (value_of t.U8 (pos 7) ∷ []) 0 ∷ ring_state (value_of t.I8 (minus 8) ∷ []) 0
      ∷ ring_state (value_of t.Bool (pos 0) ∷ []) 0 ∷ [];
}

-- what its externs hold
abbrev pub probe_row : List ℕ
probe_row = 11 ∷ 12 ∷ 13 ∷ 14 ∷ 15 ∷ 16 ∷ 201 ∷ []
