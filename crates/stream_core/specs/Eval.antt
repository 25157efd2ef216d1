-- What expressions and steps mean.
use Rattle.std.specs.Prelude.{ℕ, zero, suc, ◌+◌, ◌*◌, ◌≤◌, List, [], ◌∷◌, ◌++◌, length, take, drop, map, slice_index, slice_index_or, Bool, if◌then◌else◌, nat_lt, Result, Ok, Err, IsOk, Option, ◌<◌}
use Rattle.std.specs.List.{AllByRecursion, flat_map}
use Rattle.stream_types.specs.declared.scalar.Scalar.{Scalar}
use Rattle.stream_types.specs.declared.scalar.Hazard.{Hazard}
use Rattle.stream_types.specs.declared.scalar.Hazard.TheVariants.{BadIndex}
use Rattle.stream_types.specs.declared.types.TypeEntry.{TypeEntry}
use Rattle.stream_types.specs.Types.{words, entry_of, elem_count, elem_words, fields_of, field_first, field_words, leaves, AreWords}
use Rattle.stream_types.specs.Numbers.{op1_word, op2_word, shift_word, cast_word, abs_word, sign_word}
use Rattle.stream_core.specs.declared.spec.ExternItem.{ExternItem}
use Rattle.stream_core.specs.Term.{Term, Terms, lit, extern, stream, def, named, missing, dropped, un, bin, shift, cast, and, or, implies, choose, index, field, array, struct, abs, sign, majority, agreed, lib, end, more, TreeSpec, TreeStream, TreeTrigger, TreeObserver, TreeLib, TreeRoot, initial_count}
use Rattle.stream_core.specs.Library.{bind, bool_word, is_true_word, majority_of, agreed_of, form_value}

-- ---- what an evaluation reads

-- the values so far of each stream, and then of each operand of each form
abbrev pub Table : Type 0
Table = List (List (List ℕ))

-- a step: the types, the externs, where in the table the operands of a form begin, the table, the row and the time
pub record Moment : Type 0 where
  pub types : List TypeEntry
  pub externs : List ExternItem
  pub place : ℕ → ℕ
  pub table : Table
  pub row : List ℕ
  pub time : ℕ

abbrev pub Value : Type 0
Value = Result (List ℕ) Hazard

-- an extern's part of a row
abbrev pub part_of : List TypeEntry → List ExternItem → List ℕ → ℕ → List ℕ
part_of types [] row x = []
part_of types (e ∷ es) row zero = take (words types e.ty) row
part_of types (e ∷ es) row (suc x) = part_of types es (drop (words types e.ty) row) x

abbrev pub entry_at : Table → ℕ → ℕ → List ℕ
entry_at table s i = slice_index_or (slice_index_or table s []) i []

-- ---- values

abbrev pub first_word : List ℕ → ℕ
first_word v = slice_index v 0

abbrev pub one : Result ℕ Hazard → Value
one (Ok w) = Ok (w ∷ [])
one (Err h) = Err h

-- goes on with the word of a scalar
abbrev pub on_word : Value → (ℕ → Value) → Value
on_word v f = bind v (λ x. f (first_word x))

abbrev pub on_two : Value → Value → (ℕ → ℕ → Value) → Value
on_two a b f = on_word a (λ x. on_word b (f x))

-- the first where the word is true, and else the second
abbrev pub on_test : Value → Value → Value → Value
on_test c a b = on_word c (λ w. if is_true_word w then a else b)

abbrev pub truth : Bool → Value
truth b = Ok (bool_word b ∷ [])

abbrev pub element : List TypeEntry → Option TypeEntry → List ℕ → ℕ → Value
element types e v i = if nat_lt i (elem_count e) then Ok (take (elem_words types e) (drop (i * elem_words types e) v)) else Err BadIndex

abbrev pub member : List TypeEntry → Option TypeEntry → List ℕ → ℕ → List ℕ
member types e v m = take (field_words types (fields_of e) m) (drop (field_first types (fields_of e) m) v)

-- the words of several values
abbrev pub cons : Value → Value → Value
cons a b = bind a (λ x. bind b (λ xs. Ok (x ++ xs)))

-- the word of operand j of form k at step i, where those of this step are known
abbrev pub operand_word : Moment → ℕ → List ℕ → ℕ → ℕ → ℕ
operand_word m k now j i = if nat_lt i m.time then first_word (entry_at m.table (m.place k + j) i) else slice_index now j

abbrev mutual
  -- The value of an expression whose defs are written out. (That of a def's bare name and of a missing node is the empty
  -- list, which is never met: they stand in no tree of a well typed specification with its defs written out.)
  pub value : Moment → Term → Value
  value m (lit s w) = Ok (w ∷ [])
  value m (extern x) = Ok (part_of m.types m.externs m.row x)
  value m (stream s) = Ok (entry_at m.table s m.time)
  value m (def d) = Ok []
  value m (named d a) = value m a
  value m missing = Ok []
  value m (dropped s k) = Ok (entry_at m.table s (m.time + k))
  value m (un o s a) = on_word (value m a) (λ x. Ok (op1_word o s x ∷ []))
  value m (bin o s a b) = on_two (value m a) (value m b) (λ x y. one (op2_word o s x y))
  value m (shift d s a cs c) = on_two (value m a) (value m c) (λ x y. one (shift_word d s x cs y))
  value m (cast f t a) = on_word (value m a) (λ x. one (cast_word f t x))
  value m (and a b) = on_test (value m a) (value m b) (Ok (0 ∷ []))
  value m (or a b) = on_test (value m a) (Ok (1 ∷ [])) (value m b)
  value m (implies a b) = on_test (value m a) (value m b) (Ok (1 ∷ []))
  value m (choose c a b) = on_test (value m c) (value m a) (value m b)
  value m (index t a i) = bind (value m a) (λ v. on_word (value m i) (element m.types (entry_of m.types t) v))
  value m (field t k a) = bind (value m a) (λ v. Ok (member m.types (entry_of m.types t) v k))
  value m (array t es) = all_values m es
  value m (struct t es) = all_values m es
  value m (abs s a) = on_word (value m a) (λ x. one (abs_word s x))
  value m (sign s a) = on_word (value m a) (λ x. Ok (sign_word s x ∷ []))
  value m (majority s es) = bind (all_values m es) (λ ws. Ok (majority_of ws ∷ []))
  value m (agreed s es) = bind (all_values m es) (λ ws. truth (agreed_of ws))
  value m (lib k form es) = bind (all_values m es) (λ now. one (form_value form m.time (operand_word m k now)))

  pub all_values : Moment → Terms → Value
  all_values m end = Ok []
  all_values m (more a es) = cons (value m a) (all_values m es)

-- ---- a step

-- by number: a trigger, or an observer
pub data Who : Type 0 where
  trigger : ℕ → Who
  observer : ℕ → Who

-- a trigger that fired with its arguments' words, or an observer with its words
pub record Event : Type 0 where
  pub who : Who
  pub words : List ℕ

-- the values of several expressions, in order
abbrev pub values : Moment → List Term → Result (List (List ℕ)) Hazard
values m [] = Ok []
values m (e ∷ es) = bind (value m e) (λ x. bind (values m es) (λ xs. Ok (x ∷ xs)))

abbrev pub concat_values : Moment → List TreeRoot → Value
concat_values m [] = Ok []
concat_values m (r ∷ rs) = cons (value m r.expr) (concat_values m rs)

-- the events of trigger i: one where its guard is true, and else none
abbrev pub events_of_trigger : Moment → ℕ → TreeTrigger → Result (List Event) Hazard
events_of_trigger m i x =
    bind (value m x.guard.expr) (λ g.
    if is_true_word (first_word g) then bind (concat_values m x.args) (λ ws. Ok (record { who = trigger i; words = ws } ∷ [])) else Ok [])

-- the events of the triggers from number i on
abbrev pub fired : Moment → ℕ → List TreeTrigger → Result (List Event) Hazard
fired m i [] = Ok []
fired m i (x ∷ xs) = bind (events_of_trigger m i x) (λ es. bind (fired m (i + 1) xs) (λ more_. Ok (es ++ more_)))

abbrev pub observed : Moment → ℕ → List TreeObserver → Result (List Event) Hazard
observed m i [] = Ok []
observed m i (x ∷ xs) = bind (value m x.root.expr) (λ ws. bind (observed m (i + 1) xs) (λ es. Ok (record { who = observer i; words = ws } ∷ es)))

-- a list of values that grows by an expression
pub record Line : Type 0 where
  pub init : List (List ℕ)
  pub expr : Term

-- what a step finds: its events, and the next value of each line
pub record StepValues : Type 0 where
  pub triggered : List Event
  pub observed : List Event
  pub nexts : List (List ℕ)

abbrev pub chunks : ℕ → ℕ → List ℕ → List (List ℕ)
chunks zero w xs = []
chunks (suc n) w xs = take w xs ∷ chunks n w (drop w xs)

abbrev pub stream_line : List TypeEntry → TreeStream → Line
stream_line types x = record { init = chunks (initial_count types x) (words types x.ty) x.init; expr = x.expr }

abbrev pub operand_lines : List TreeLib → List Line
operand_lines [] = []
operand_lines (x ∷ xs) = map (λ e. record { init = []; expr = e }) x.args ++ operand_lines xs

-- the streams, and then the operands in the order of their forms
abbrev pub lines : TreeSpec → List Line
lines s = map (stream_line s.types) s.streams ++ operand_lines s.libs

-- where the operands of form k begin, behind n lines
abbrev pub place_of : ℕ → List TreeLib → ℕ → ℕ
place_of n [] k = n
place_of n (x ∷ xs) zero = n
place_of n (x ∷ xs) (suc k) = place_of (n + length x.args) xs k

abbrev pub step_at : TreeSpec → Moment → Result StepValues Hazard
step_at s m =
    bind (fired m 0 s.triggers) (λ ts.
    bind (observed m 0 s.observers) (λ os.
    bind (values m (map (λ (x : Line). x.expr) (lines s))) (λ ns.
    Ok (record { triggered = ts; observed = os; nexts = ns }))))

abbrev pub moment : TreeSpec → Table → List (List ℕ) → ℕ → Moment
moment s table h t = record { types = s.types; externs = s.externs; place = place_of (length s.streams) s.libs; table = table; row = slice_index_or h t []; time = t }

-- ---- the tables

abbrev pub initial : TreeSpec → Table
initial s = map (λ (x : Line). x.init) (lines s)

-- each list with one more entry
abbrev pub extend : Table → List (List ℕ) → Table
extend [] ys = []
extend (xs ∷ xss) [] = xs ∷ xss
extend (xs ∷ xss) (y ∷ ys) = (xs ++ y ∷ []) ∷ extend xss ys

abbrev pub grown : Table → StepValues → Result Table Hazard
grown table o = Ok (extend table o.nexts)

abbrev pub next_table : TreeSpec → List (List ℕ) → ℕ → Table → Result Table Hazard
next_table s h t table = bind (step_at s (moment s table h t)) (grown table)

-- the table after n steps, or the first hazard
abbrev pub table_after : TreeSpec → List (List ℕ) → ℕ → Result Table Hazard
table_after s h zero = Ok (initial s)
table_after s h (suc n) = bind (table_after s h n) (next_table s h n)

-- ---- histories

-- the scalars of a row, in the order of the externs
abbrev pub row_leaves : TreeSpec → List Scalar
row_leaves s = flat_map (λ (x : ExternItem). leaves s.types x.ty) s.externs

-- each row has one word for each scalar, and each is a word of its scalar
abbrev pub IsHistory : TreeSpec → List (List ℕ) → Type 0
IsHistory s h = AllByRecursion (AreWords (row_leaves s)) h

-- ---- steps, clean histories and logs, of a specification without defs

-- what step t finds, or the first hazard up to there
abbrev pub step_values : TreeSpec → List (List ℕ) → ℕ → Result StepValues Hazard
step_values s h t = bind (table_after s h t) (λ table. step_at s (moment s table h t))

abbrev pub events_of : StepValues → List Event
events_of v = v.triggered ++ v.observed

-- step t over a history with more than t rows: its first hazard, or its events, the triggers before the observers
abbrev pub step_events : TreeSpec → List (List ℕ) → ℕ → Result (List Event) Hazard
step_events s h t = bind (step_values s h t) (λ v. Ok (events_of v))

-- no step below n has a hazard
pub record Clean (s : TreeSpec) (h : List (List ℕ)) (n : ℕ) : Type 0 where
  pub within : n ≤ length h
  pub ok : (t : ℕ) → t < n → IsOk (step_events s h t)

abbrev pub or_none : Result (List Event) Hazard → List Event
or_none (Ok es) = es
or_none (Err h) = []

-- the events of the steps below n, step by step
abbrev pub log : TreeSpec → List (List ℕ) → ℕ → List (List Event)
log s h zero = []
log s h (suc n) = log s h n ++ or_none (step_events s h n) ∷ []
