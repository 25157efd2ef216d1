-- What a lowering keeps of a specification.
use Rattle.std.specs.Prelude.{ℕ, ◌+◌, ◌≡◌, List, ◌++◌, length, map}
use Rattle.stream_core.specs.Term.{Term, TreeSpec, TreeRoot, TreeStream, TreeDef, TreeTrigger, TreeObserver, missing, root_with}
use Rattle.stream_core.specs.Eval.{Table, entry_at, first_word}
use Rattle.stream_core.specs.Lower.{lowered, buffer_of}
use Rattle.form_laws.specs.Buffers.{Samples}

-- an expression of a specification, over the buffers behind its streams
abbrev pub lowered_in : TreeSpec → Term → Term
lowered_in s e = lowered (buffer_of (length s.streams) s.libs) e

-- the samples of a form's operands in a table, by the place of the first operand's list
abbrev pub samples_at : Table → ℕ → Samples
samples_at table n j i = first_word (entry_at table (n + j) i)

-- ---- declarations

-- a root, and declarations, but for their expressions
abbrev pub bare_root : TreeRoot → TreeRoot
bare_root r = root_with (λ e. missing) r

abbrev pub bare_stream : TreeStream → TreeStream
bare_stream x = record x { expr = missing }

abbrev pub bare_def : TreeDef → TreeDef
bare_def x = record x { expr = missing }

abbrev pub bare_trigger : TreeTrigger → TreeTrigger
bare_trigger x = record x { guard = bare_root x.guard; args = map bare_root x.args }

abbrev pub bare_observer : TreeObserver → TreeObserver
bare_observer x = record x { root = bare_root x.root }

-- The second has the name, types, externs, defs, triggers and observers of the first, and its streams and then others,
-- each as it was but for expressions.
pub record KeepsDeclarations (s p : TreeSpec) : Type 0 where
  pub name : p.name ≡ s.name
  pub types : p.types ≡ s.types
  pub externs : p.externs ≡ s.externs
  pub others : List TreeStream
  pub streams : map bare_stream p.streams ≡ map bare_stream s.streams ++ others
  pub defs : map bare_def p.defs ≡ map bare_def s.defs
  pub triggers : map bare_trigger p.triggers ≡ map bare_trigger s.triggers
  pub observers : map bare_observer p.observers ≡ map bare_observer s.observers
