-- A program does what a specification means.
use Rattle.std.specs.Prelude.{◌≡◌, ℕ, Bool, true, false, not, List, [], ◌||◌, map, Ok, IsTrue}
use Rattle.std.specs.List.{list_any}
use Rattle.stream_core.specs.Value.{SpecValue}
use Rattle.stream_core.specs.Handlers.{Call}
use Rattle.stream_core.specs.Meaning.{closed_spec, IsHistory, Clean, calls, storage}
use Rattle.c99_tree.specs.declared.unit.Unit.{Unit as CUnit}
use Rattle.c99_tree.specs.Tree as c
use Rattle.c99_tree.specs.Tree.{Stmt, statements}
use Rattle.c99_tree.specs.Step.{Called}
use Rattle.c99_tree.specs.Run.{run}
use Rattle.c99_tree.specs.Storage.{storage_of}
use Rattle.c99_tree.specs.WellFormed.{IsWellFormed, each_after}
use Rattle.ring_codegen.specs.CTypes.{c_def, c_extern, c_handlers}

abbrev pub is_copy : Stmt → Bool
is_copy (c.copies x) = true
is_copy _ = false

abbrev pub is_call : Stmt → Bool
is_call (c.calls h guard args) = true
is_call _ = false

-- No call stands before a copy, so that a handler that writes externs changes nothing in its step.
abbrev pub copies_stand_first : CUnit → Bool
copies_stand_first u = each_after (λ before s. not (is_copy s) || not (list_any is_call before)) [] (statements u)

-- a call of a specification as one of a program: the same place among the handlers, and the same words
abbrev pub called : Call → Called
called call = record { handler = call.handler; words = call.words }

-- Stepped once for each row of a history that the specification's equations pass without hazard, the program does
-- nothing undefined and makes the specification's calls, with the same arguments in the same order at every step.
abbrev pub MakesSameCalls : SpecValue → CUnit → Type 0
MakesSameCalls s u = (h : List (List ℕ)) (n : ℕ) → IsHistory s h → Clean s h n → run u h n ≡ Ok (map (map called) (calls s h n))

-- The program has this name, the specification's types, externs and handlers in order, with their names and their C
-- types, and the specification's storage; it is well formed, and makes the same calls.
pub record Simulates (s : SpecValue) (name : List ℕ) (u : CUnit) : Type 0 where
  pub named : u.name ≡ name
  pub types : u.types ≡ map (c_def s.types) s.types
  pub externs : u.externs ≡ map (c_extern s.types) s.externs
  pub handlers : u.handlers ≡ c_handlers (closed_spec s)
  pub well_formed : IsWellFormed u
  pub storage_is : storage_of u ≡ storage s
  pub copied : IsTrue (copies_stand_first u)
  pub calls : MakesSameCalls s u
