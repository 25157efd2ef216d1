-- The value of a plain expression over the rings is that over the history.
use Rattle.std.proofs.Common.{◌≡◌, ℕ, List, [], ◌∷◌, length, Ok, IsTrue, sym, ap, ◌∙◌}
use Rattle.std.proofs.lemmas.List.{length-map}
use Rattle.stream_types.specs.declared.scalar.Scalar.{Scalar}
use Rattle.stream_types.specs.declared.scalar.Ty.TheVariants as ty
use Rattle.stream_types.specs.Numbers.{is_word}
use Rattle.stream_core.specs.Acyclic.{Acyclic, WellFounded}
use Rattle.stream_core.specs.Value.{SpecValue}
use Rattle.stream_core.specs.Term.{Term, closed, defs_of, trees}
use Rattle.stream_core.specs.Eval.{Moment, Table, moment, place_of, value}
use Rattle.stream_core.specs.Meaning.{closed_spec}
use Rattle.stream_core.specs.Plain.{IsPlain, at_table, lists_from}
use Rattle.stream_core.proofs.ClosedTypes.{node_words}
use Rattle.stream_core.proofs.Recent.{from_here}
use Rattle.stream_core.proofs.Roots as roots
use Rattle.stream_lib.specs.PlainSpecs.{IsSoundPlain}
use Rattle.stream_interp.specs.Reading.{NodeHasType}
use Rattle.stream_interp.specs.Seen.{IsSeen, now_moment}

pub acyclic : (s : SpecValue) → IsSoundPlain s → Acyclic (defs_of s)
acyclic s p = roots.acyclic s p.typed p.no_cycle

pub founded : (s : SpecValue) → IsSoundPlain s → WellFounded s
founded s p = roots.founded s p.typed p.no_cycle

as_many_streams : (s : SpecValue) → length (closed_spec s).streams ≡ length s.streams
as_many_streams s = length-map (trees s).streams _ ∙ length-map s.streams _

module _ (s : SpecValue) (rings : Table) (row : List ℕ) (seen : IsSeen s rings row) where
  abbrev then : Moment
  then = moment (closed_spec s) seen.lists seen.history seen.time

  abbrev with : ℕ → Table → List ℕ → Moment
  with n t r = record { types = s.types; externs = s.externs; place = place_of n (closed_spec s).libs; table = t; row = r; time = 0 }

  now_is : at_table then (lists_from seen.time seen.lists) 0 ≡ now_moment s rings row
  unfolding now_moment
  now_is =
      ap (λ n. with n (lists_from seen.time seen.lists) then.row) (as_many_streams s)
      ∙ ap (λ t. with (length s.streams) t then.row) (sym seen.rings_are)
      ∙ ap (λ r. with (length s.streams) rings r) seen.row_is

  -- over the history and over the rings
  pub now_value : (e : Term) → IsPlain e → value then e ≡ value (now_moment s rings row) e
  now_value e p = from_here then seen.lists seen.time e p ∙ ap (λ m. value m e) now_is

  -- the word of a scalar is one of its words
  pub seen_word : (i : ℕ) (c : Scalar) (w : ℕ) → NodeHasType s i (ty.Scalar c) → IsPlain (closed s i) → value (now_moment s rings row) (closed s i) ≡ Ok (w ∷ []) → IsTrue (is_word c w)
  unfolding closed
  seen_word i c w typed plain e =
      (node_words s seen.plain.typed (acyclic s seen.plain) seen.history seen.rows seen.time seen.lists seen.table_is seen.there i (ty.Scalar c) (w ∷ []) typed (now_value (closed s i) plain ∙ e)).0
