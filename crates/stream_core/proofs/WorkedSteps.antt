-- Worked examples of what specifications mean.
use Rattle.std.specs.Prelude.{◌≡◌, refl, ℕ, ◌∷◌, [], ◌++◌, List, replicate, Ok, Err, Some, None}
use Rattle.stream_types.specs.declared.scalar.Scalar.{Scalar}
use Rattle.stream_types.specs.declared.scalar.Scalar.TheVariants as scalar
use Rattle.stream_types.specs.declared.scalar.Ty.TheVariants as ty
use Rattle.stream_types.specs.declared.scalar.Hazard.TheVariants.{Overflow, ZeroDivisor, BadIndex}
use Rattle.stream_types.specs.declared.scalar.Op2.TheVariants as op2
use Rattle.stream_types.specs.declared.types.TypeEntry.TheVariants as entry
use Rattle.stream_core.specs.declared.node.Node.{Node}
use Rattle.stream_core.specs.declared.node.Node.TheVariants as node
use Rattle.stream_core.specs.declared.node.LibForm.{LibForm}
use Rattle.stream_core.specs.declared.node.LibForm.TheVariants as form
use Rattle.stream_core.specs.declared.spec.Root.{Root}
use Rattle.stream_core.specs.declared.spec.ExternItem.{ExternItem}
use Rattle.stream_core.specs.declared.spec.StreamItem.{StreamItem}
use Rattle.stream_core.specs.declared.spec.DefItem.{DefItem}
use Rattle.stream_core.specs.declared.spec.TriggerItem.{TriggerItem}
use Rattle.stream_core.specs.declared.spec.LibItem.{LibItem}
use Rattle.stream_core.specs.Value.{SpecValue}
use Rattle.stream_core.specs.Term.{tree, trees, without_defs}
use Rattle.stream_core.specs.Lower.{lowered_spec}
use Rattle.stream_core.specs.Eval.{Event, Who, trigger, observer}
use Rattle.stream_core.specs.Eval as eval
use Rattle.stream_core.specs.Handlers.{Call}
use Rattle.stream_core.specs.Soundness.{declarations, total_words, heavy_root, limit_fault}
use Rattle.stream_core.specs.Meaning.{step, log, calls, handlers, weight, storage}

abbrev root : ℕ → Root
root i = record { expr = i; ty = ty.Scalar scalar.Bool; at = 0 }

abbrev event : Who → List ℕ → Event
event who words = record { who = who; words = words }

abbrev call : ℕ → List ℕ → Call
call handler words = record { handler = handler; words = words }

abbrev input : List ℕ → Scalar → ExternItem
input name s = record { name = name; ty = ty.Scalar s }

abbrev stream_of : List ℕ → Scalar → List ℕ → ℕ → StreamItem
stream_of name s init i = record { name = name; ty = ty.Scalar s; init = init; expr = i; at = 0 }

abbrev trigger_of : List ℕ → ℕ → List Root → TriggerItem
trigger_of name i args = record { name = name; guard = root i; args = args }

abbrev lib_of : LibForm → List ℕ → LibItem
lib_of form args = record { form = form; args = args; at = 0 }

-- a specification without types, defs and observers
abbrev spec_of : List Node → List ExternItem → List StreamItem → List LibItem → List TriggerItem → SpecValue
spec_of nodes externs streams libs triggers =
    record { name = []; types = []; nodes = nodes; externs = externs; streams = streams; defs = []; triggers = triggers; observers = []; libs = libs }

-- (stream n Word8 (0:Word8) (+ n 1:Word8)), a trigger where n is 0
abbrev counter : SpecValue
counter = spec_of (node.Stream 0 ∷ node.Lit scalar.Word8 1 ∷ node.Bin op2.Add scalar.Word8 0 1 ∷ node.Lit scalar.Word8 0 ∷ node.Bin op2.Eq scalar.Word8 0 3 ∷ []) [] (stream_of (110 ∷ []) scalar.Word8 (0 ∷ []) 2 ∷ []) [] (trigger_of (116 ∷ []) 4 (root 0 ∷ []) ∷ [])

wrapping_counter : log counter [] 258 ≡ (event (trigger 0) (0 ∷ []) ∷ []) ∷ replicate 255 [] ++ (event (trigger 0) (0 ∷ []) ∷ []) ∷ [] ∷ []
unfolding tree
wrapping_counter = refl

counter_storage : storage counter ≡ 1
unfolding tree
counter_storage = refl

-- (stream n Int8 (0:Int8) (+ n 1:Int8)), a trigger where n is above 124
abbrev signed_counter : SpecValue
signed_counter = spec_of (node.Stream 0 ∷ node.Lit scalar.Int8 1 ∷ node.Bin op2.Add scalar.Int8 0 1 ∷ node.Lit scalar.Int8 124 ∷ node.Bin op2.Gt scalar.Int8 0 3 ∷ []) [] (stream_of (110 ∷ []) scalar.Int8 (0 ∷ []) 2 ∷ []) [] (trigger_of (116 ∷ []) 4 (root 0 ∷ []) ∷ [])

signed_counter_log : log signed_counter [] 127 ≡ replicate 125 [] ++ (event (trigger 0) (125 ∷ []) ∷ []) ∷ (event (trigger 0) (126 ∷ []) ∷ []) ∷ []
unfolding tree
signed_counter_log = refl

signed_counter_hazard : step signed_counter [] 127 ≡ Err Overflow
unfolding tree
signed_counter_hazard = refl

-- a product of Word16
abbrev promotion : SpecValue
promotion = spec_of (node.Extern 0 ∷ node.Bin op2.Mul scalar.Word16 0 0 ∷ node.Lit scalar.Bool 1 ∷ []) (input (119 ∷ []) scalar.Word16 ∷ []) [] [] (trigger_of (116 ∷ []) 2 (root 1 ∷ []) ∷ [])

promoted : step promotion ((65535 ∷ []) ∷ []) 0 ≡ Ok (event (trigger 0) (1 ∷ []) ∷ [])
unfolding tree
promoted = refl

-- a quotient and a remainder, 0 where the divisor is 0
abbrev division : SpecValue
division = spec_of (node.Extern 0 ∷ node.Extern 1 ∷ node.Lit scalar.Int32 0 ∷ node.Bin op2.Eq scalar.Int32 1 2 ∷ node.Bin op2.Quot scalar.Int32 0 1 ∷ node.If 3 2 4 ∷ node.Bin op2.Rem scalar.Int32 0 1 ∷ node.If 3 2 6 ∷ node.Lit scalar.Bool 1 ∷ []) (input (97 ∷ []) scalar.Int32 ∷ input (98 ∷ []) scalar.Int32 ∷ []) [] [] (trigger_of (113 ∷ []) 8 (root 5 ∷ root 7 ∷ []) ∷ [])

abbrev division_rows : List (List ℕ)
division_rows = (7 ∷ 0 ∷ []) ∷ (18446744073709551609 ∷ 2 ∷ []) ∷ (18446744071562067968 ∷ 18446744073709551615 ∷ []) ∷ []

division_log : log division division_rows 2 ≡ (event (trigger 0) (0 ∷ 0 ∷ []) ∷ []) ∷ (event (trigger 0) (18446744073709551613 ∷ 18446744073709551615 ∷ []) ∷ []) ∷ []
unfolding tree
division_log = refl

division_hazard : step division division_rows 2 ≡ Err Overflow
unfolding tree
division_hazard = refl

-- two streams, of 1 and of 5 initial values
abbrev pair : SpecValue
pair = spec_of (node.Stream 0 ∷ node.Drop 1 4 ∷ node.Bin op2.Add scalar.Int32 0 1 ∷ node.Stream 1 ∷ node.Lit scalar.Bool 1 ∷ []) [] (stream_of (120 ∷ []) scalar.Int32 (1 ∷ []) 2 ∷ stream_of (121 ∷ []) scalar.Int32 (0 ∷ 1 ∷ 2 ∷ 3 ∷ 4 ∷ []) 0 ∷ []) [] (trigger_of (111 ∷ []) 4 (root 0 ∷ root 3 ∷ []) ∷ [])

two_streams : log pair [] 6 ≡ (event (trigger 0) (1 ∷ 0 ∷ []) ∷ []) ∷ (event (trigger 0) (5 ∷ 1 ∷ []) ∷ []) ∷ (event (trigger 0) (6 ∷ 2 ∷ []) ∷ []) ∷ (event (trigger 0) (11 ∷ 3 ∷ []) ∷ []) ∷ (event (trigger 0) (17 ∷ 4 ∷ []) ∷ []) ∷ (event (trigger 0) (28 ∷ 1 ∷ []) ∷ []) ∷ []
unfolding tree
two_streams = refl

pair_storage : storage pair ≡ 28
unfolding tree
pair_storage = refl

-- (since p q), (once-in 0 0 q) and (historically-in 2 4 p) from the first step on
abbrev starts : SpecValue
starts = spec_of (node.Extern 0 ∷ node.Extern 1 ∷ node.Lib 0 ∷ node.Lib 1 ∷ node.Lib 2 ∷ node.Lit scalar.Bool 1 ∷ []) (input (112 ∷ []) scalar.Bool ∷ input (113 ∷ []) scalar.Bool ∷ []) [] (lib_of form.Since (0 ∷ 1 ∷ []) ∷ lib_of (form.OnceIn 0 0) (1 ∷ []) ∷ lib_of (form.HistoricallyIn 2 4) (0 ∷ []) ∷ []) (trigger_of (97 ∷ []) 5 (root 2 ∷ root 3 ∷ root 4 ∷ []) ∷ [])

abbrev starts_rows : List (List ℕ)
starts_rows = (1 ∷ 0 ∷ []) ∷ (1 ∷ 1 ∷ []) ∷ (0 ∷ 0 ∷ []) ∷ (1 ∷ 0 ∷ []) ∷ (1 ∷ 1 ∷ []) ∷ (1 ∷ 0 ∷ []) ∷ []

start_of_history : log starts starts_rows 6 ≡ (event (trigger 0) (0 ∷ 0 ∷ 1 ∷ []) ∷ []) ∷ (event (trigger 0) (1 ∷ 1 ∷ 1 ∷ []) ∷ []) ∷ (event (trigger 0) (0 ∷ 0 ∷ 1 ∷ []) ∷ []) ∷ (event (trigger 0) (0 ∷ 0 ∷ 1 ∷ []) ∷ []) ∷ (event (trigger 0) (1 ∷ 1 ∷ 0 ∷ []) ∷ []) ∷ (event (trigger 0) (1 ∷ 0 ∷ 0 ∷ []) ∷ []) ∷ []
unfolding tree
start_of_history = refl

-- with buffers in place of the forms the log is the same
start_of_history_lowered : eval.log (without_defs (lowered_spec (trees starts))) starts_rows 6 ≡ log starts starts_rows 6
unfolding tree
start_of_history_lowered = refl

starts_storage : storage starts ≡ 12
unfolding tree
starts_storage = refl

-- (if (== d 0:Int32) false (once (> (quot 6:Int32 d) 2:Int32)))
abbrev operands : SpecValue
operands = spec_of (node.Extern 0 ∷ node.Lit scalar.Int32 0 ∷ node.Bin op2.Eq scalar.Int32 0 1 ∷ node.Lit scalar.Bool 0 ∷ node.Lit scalar.Int32 6 ∷ node.Bin op2.Quot scalar.Int32 4 0 ∷ node.Lit scalar.Int32 2 ∷ node.Bin op2.Gt scalar.Int32 5 6 ∷ node.Lib 0 ∷ node.If 2 3 8 ∷ []) (input (100 ∷ []) scalar.Int32 ∷ []) [] (lib_of form.Once (7 ∷ []) ∷ []) (trigger_of (97 ∷ []) 9 [] ∷ [])

library_operands_run : step operands ((2 ∷ []) ∷ (0 ∷ []) ∷ []) 0 ≡ Ok (event (trigger 0) [] ∷ [])
unfolding tree
library_operands_run = refl

-- no guard needs the form at this step, and its operand is evaluated all the same
library_operands_hazard : step operands ((2 ∷ []) ∷ (0 ∷ []) ∷ []) 1 ≡ Err ZeroDivisor
unfolding tree
library_operands_hazard = refl

-- votes, windows and a clock
abbrev voted : SpecValue
voted = spec_of (node.Extern 0 ∷ node.Extern 1 ∷ node.Extern 2 ∷ node.Majority scalar.Word8 (0 ∷ 1 ∷ 2 ∷ []) ∷ node.Agreed scalar.Word8 (0 ∷ 1 ∷ 2 ∷ []) ∷ node.Lib 0 ∷ node.Lib 1 ∷ node.Lib 2 ∷ node.Lit scalar.Bool 1 ∷ []) (input (97 ∷ []) scalar.Word8 ∷ input (98 ∷ []) scalar.Word8 ∷ input (99 ∷ []) scalar.Word8 ∷ []) [] (lib_of (form.WindowMax 2 scalar.Word8) (0 ∷ []) ∷ lib_of (form.WindowSum 2 scalar.Word8) (0 ∷ []) ∷ lib_of (form.Clock 2 1) [] ∷ []) (trigger_of (109 ∷ []) 8 (root 3 ∷ root 4 ∷ root 5 ∷ root 6 ∷ []) ∷ trigger_of (107 ∷ []) 7 [] ∷ [])

abbrev voted_rows : List (List ℕ)
voted_rows = (1 ∷ 1 ∷ 2 ∷ []) ∷ (3 ∷ 4 ∷ 5 ∷ []) ∷ (255 ∷ 7 ∷ 7 ∷ []) ∷ []

clocks_votes_windows : log voted voted_rows 3 ≡ (event (trigger 0) (1 ∷ 1 ∷ 1 ∷ 1 ∷ []) ∷ []) ∷ (event (trigger 0) (3 ∷ 0 ∷ 3 ∷ 4 ∷ []) ∷ event (trigger 1) [] ∷ []) ∷ (event (trigger 0) (7 ∷ 1 ∷ 255 ∷ 2 ∷ []) ∷ []) ∷ []
unfolding tree
clocks_votes_windows = refl

clocks_votes_windows_lowered : eval.log (without_defs (lowered_spec (trees voted))) voted_rows 3 ≡ log voted voted_rows 3
unfolding tree
clocks_votes_windows_lowered = refl

voted_storage : storage voted ≡ 9
unfolding tree
voted_storage = refl

-- (yesterday p) and (weakly-yesterday p)
abbrev yesterdays : SpecValue
yesterdays = spec_of (node.Extern 0 ∷ node.Lib 0 ∷ node.Lib 1 ∷ []) (input (112 ∷ []) scalar.Bool ∷ []) [] (lib_of form.Yesterday (0 ∷ []) ∷ lib_of form.WeaklyYesterday (0 ∷ []) ∷ []) (trigger_of (97 ∷ []) 1 [] ∷ trigger_of (98 ∷ []) 2 [] ∷ [])

yesterday : log yesterdays ((1 ∷ []) ∷ (0 ∷ []) ∷ (1 ∷ []) ∷ []) 3 ≡ (event (trigger 1) [] ∷ []) ∷ (event (trigger 0) [] ∷ event (trigger 1) [] ∷ []) ∷ [] ∷ []
unfolding tree
yesterday = refl

-- two triggers of one name
abbrev shared_handler : SpecValue
shared_handler = spec_of (node.Extern 0 ∷ node.Lit scalar.Int8 0 ∷ node.Bin op2.Gt scalar.Int8 0 1 ∷ node.Lit scalar.Int8 5 ∷ node.Bin op2.Lt scalar.Int8 0 3 ∷ node.Lit scalar.Int8 1 ∷ []) (input (97 ∷ []) scalar.Int8 ∷ []) [] [] (trigger_of (116 ∷ []) 2 (root 0 ∷ []) ∷ trigger_of (116 ∷ []) 4 (root 5 ∷ []) ∷ [])

shared_handler_names : handlers shared_handler ≡ (116 ∷ []) ∷ []
unfolding tree
shared_handler_names = refl

shared_handler_calls : calls shared_handler ((3 ∷ []) ∷ (9 ∷ []) ∷ []) 2 ≡ (call 0 (3 ∷ []) ∷ call 0 (1 ∷ []) ∷ []) ∷ (call 0 (9 ∷ []) ∷ []) ∷ []
unfolding tree
shared_handler_calls = refl

-- (+ x x) as two arguments, which are one node
abbrev twice : SpecValue
twice = spec_of (node.Lit scalar.Bool 1 ∷ node.Extern 0 ∷ node.Bin op2.Add scalar.Word8 1 1 ∷ []) (input (120 ∷ []) scalar.Word8 ∷ []) [] [] (trigger_of (116 ∷ []) 0 (root 2 ∷ root 2 ∷ []) ∷ [])

shared_nodes_weight : weight twice ≡ 7
unfolding tree
shared_nodes_weight = refl

-- (observer y (abs x))
abbrev observers : SpecValue
observers = record {
  name = [];
  types = [];
  nodes = node.Extern 0 ∷ node.Abs scalar.Int8 0 ∷ [];
  externs = input (120 ∷ []) scalar.Int8 ∷ [];
  streams = [];
  defs = [];
  triggers = [];
  observers = record { name = 121 ∷ []; root = root 1 } ∷ [];
  libs = [];
}

abbrev observers_rows : List (List ℕ)
observers_rows = (18446744073709551611 ∷ []) ∷ (18446744073709551488 ∷ []) ∷ []

observed : log observers observers_rows 1 ≡ (event (observer 0) (5 ∷ []) ∷ []) ∷ []
unfolding tree
observed = refl

observers_hazard : step observers observers_rows 1 ≡ Err Overflow
unfolding tree
observers_hazard = refl

-- an array of structs: (field (index p i) x)
abbrev points : SpecValue
points = record {
  name = [];
  types = entry.Struct (80 ∷ []) (record { name = 120 ∷ []; ty = ty.Scalar scalar.Int16 } ∷ record { name = 121 ∷ []; ty = ty.Scalar scalar.Int16 } ∷ []) ∷ entry.Array (ty.Struct 0) 3 ∷ [];
  nodes = node.Extern 0 ∷ node.Extern 1 ∷ node.Index (ty.Array 1) 0 1 ∷ node.Field (ty.Struct 0) 0 2 ∷ node.Lit scalar.Bool 1 ∷ [];
  externs = record { name = 112 ∷ []; ty = ty.Array 1 } ∷ input (105 ∷ []) scalar.Word32 ∷ [];
  streams = [];
  defs = [];
  triggers = trigger_of (116 ∷ []) 4 (root 3 ∷ []) ∷ [];
  observers = [];
  libs = [];
}

abbrev points_rows : List (List ℕ)
points_rows = (1 ∷ 2 ∷ 3 ∷ 4 ∷ 5 ∷ 6 ∷ 2 ∷ []) ∷ (1 ∷ 2 ∷ 3 ∷ 4 ∷ 5 ∷ 6 ∷ 3 ∷ []) ∷ []

arrays_and_structs : log points points_rows 1 ≡ (event (trigger 0) (5 ∷ []) ∷ []) ∷ []
unfolding tree
arrays_and_structs = refl

points_hazard : step points points_rows 1 ≡ Err BadIndex
unfolding tree
points_hazard = refl

points_storage : storage points ≡ 16
unfolding tree
points_storage = refl

abbrev def_of : ℕ → DefItem
def_of i = record { name = []; ty = ty.Scalar scalar.Word8; expr = i; at = 0 }

-- ten defs, each the sum of the one before with itself: nodes 2k + 1 and 2k + 2 are a def's sum and its name
abbrev doubling : SpecValue
doubling = record {
  name = [];
  types = [];
  nodes = node.Extern 0 ∷ node.Bin op2.Add scalar.Word8 0 0 ∷ node.Def 0 ∷ node.Bin op2.Add scalar.Word8 2 2 ∷ node.Def 1 ∷ node.Bin op2.Add scalar.Word8 4 4 ∷ node.Def 2 ∷ node.Bin op2.Add scalar.Word8 6 6 ∷ node.Def 3 ∷ node.Bin op2.Add scalar.Word8 8 8 ∷ node.Def 4 ∷ node.Bin op2.Add scalar.Word8 10 10 ∷ node.Def 5 ∷ node.Bin op2.Add scalar.Word8 12 12 ∷ node.Def 6 ∷ node.Bin op2.Add scalar.Word8 14 14 ∷ node.Def 7 ∷ node.Bin op2.Add scalar.Word8 16 16 ∷ node.Def 8 ∷ node.Bin op2.Add scalar.Word8 18 18 ∷ node.Def 9 ∷ node.Lit scalar.Bool 1 ∷ [];
  externs = input [] scalar.Word8 ∷ [];
  streams = [];
  defs = def_of 1 ∷ def_of 3 ∷ def_of 5 ∷ def_of 7 ∷ def_of 9 ∷ def_of 11 ∷ def_of 13 ∷ def_of 15 ∷ def_of 17 ∷ def_of 19 ∷ [];
  triggers = trigger_of [] 21 (root 20 ∷ []) ∷ [];
  observers = [];
  libs = [];
}

-- the guard's 1 and the argument's 2,047
doubling_weight : weight doubling ≡ 2048
unfolding tree
doubling_weight = refl

doubling_limits : limit_fault (trees doubling) ≡ None
unfolding tree
doubling_limits = refl

doubling_declarations : declarations (trees doubling) ≡ 12
unfolding tree
doubling_declarations = refl

-- one def more, at an argument at place 7
abbrev heavy_doubling : SpecValue
heavy_doubling = record doubling {
  nodes = node.Extern 0 ∷ node.Bin op2.Add scalar.Word8 0 0 ∷ node.Def 0 ∷ node.Bin op2.Add scalar.Word8 2 2 ∷ node.Def 1 ∷ node.Bin op2.Add scalar.Word8 4 4 ∷ node.Def 2 ∷ node.Bin op2.Add scalar.Word8 6 6 ∷ node.Def 3 ∷ node.Bin op2.Add scalar.Word8 8 8 ∷ node.Def 4 ∷ node.Bin op2.Add scalar.Word8 10 10 ∷ node.Def 5 ∷ node.Bin op2.Add scalar.Word8 12 12 ∷ node.Def 6 ∷ node.Bin op2.Add scalar.Word8 14 14 ∷ node.Def 7 ∷ node.Bin op2.Add scalar.Word8 16 16 ∷ node.Def 8 ∷ node.Bin op2.Add scalar.Word8 18 18 ∷ node.Def 9 ∷ node.Bin op2.Add scalar.Word8 20 20 ∷ node.Def 10 ∷ node.Lit scalar.Bool 1 ∷ [];
  defs = def_of 1 ∷ def_of 3 ∷ def_of 5 ∷ def_of 7 ∷ def_of 9 ∷ def_of 11 ∷ def_of 13 ∷ def_of 15 ∷ def_of 17 ∷ def_of 19 ∷ def_of 21 ∷ [];
  triggers = trigger_of [] 23 (record { expr = 22; ty = ty.Scalar scalar.Word8; at = 7 } ∷ []) ∷ [];
}

heavy_doubling_root : heavy_root (trees heavy_doubling) ≡ Some 7
unfolding tree
heavy_doubling_root = refl

-- the buffers' words count
starts_words : total_words (trees starts) ≡ 8
unfolding tree
starts_words = refl
