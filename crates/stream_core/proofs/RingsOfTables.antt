-- Rings of a table: its lists from the present step on.
use Rattle.std.proofs.Common.{◌≡◌, ℕ, zero, suc, ◌+◌, ◌-◌, ◌<◌, List, [], ◌∷◌, ◌++◌, length, map, Ok, refl, sym, ap, ◌∙◌, arith, subst}
use Rattle.std.specs.Prelude.{slice_index_or, All}
use Rattle.std.specs.List.{AllByRecursion}
use Rattle.std.proofs.lemmas.List.{length-drop}
use Rattle.stream_types.specs.Types.{words}
use Rattle.stream_core.specs.declared.spec.LibItem.{LibItem}
use Rattle.stream_core.specs.Value.{SpecValue}
use Rattle.stream_core.specs.Term.{Term, TreeSpec, TreeStream, TreeLib, initial_count, tree, trees, written_out}
use Rattle.stream_core.specs.Eval.{Moment, Table, Line, StepValues, lines, stream_line, operand_lines, moment}
use Rattle.stream_core.specs.Equations.{bound_of, AllMeet, Meets}
use Rattle.stream_core.specs.Signature.{signature_of}
use Rattle.stream_core.specs.WellTyped.{IsGoodStream, WellTyped}
use Rattle.stream_core.specs.Meaning.{closed_spec, table}
use Rattle.stream_core.specs.Plain.{lists_from, moved}
use Rattle.stream_core.specs.StepParts.{HaveValues, IsCleanStep}
use Rattle.stream_core.proofs.Reach.{bounded, length_chunks}
use Rattle.stream_core.proofs.Tables.{meets}
use Rattle.stream_core.proofs.Recent.{next_from}
use Rattle.stream_core.proofs.PartsOfSteps.{table_apart}

module _ (s : TreeSpec) (h : List (List ℕ)) (n : ℕ) (T : Table) where
  -- as many entries as initial values
  ring_length : (ls : List Line) (xss : Table) → AllMeet s h n T ls xss → (k : ℕ) → length (slice_index_or (lists_from n xss) k []) ≡ bound_of ls k
  ring_length [] [] all k = refl
  ring_length [] (xs ∷ xss) all k = absurd all
  ring_length (l ∷ ls) [] all k = absurd all
  ring_length (l ∷ ls) (xs ∷ xss) all zero = let count = all.0.count in length-drop n xs ∙ (let e : length xs - n ≡ length l.init = omega (arith, count) in e)
  ring_length (l ∷ ls) (xs ∷ xss) all (suc k) = ring_length ls xss all.1 k

  longer : (ls : List Line) (xss : Table) → AllMeet s h n T ls xss → AllByRecursion (λ (l : Line). 0 < length l.init) ls → AllByRecursion (λ (xs : List (List ℕ)). n < length xs) xss
  longer [] [] all some = tt
  longer [] (xs ∷ xss) all some = absurd all
  longer (l ∷ ls) [] all some = absurd all
  longer (l ∷ ls) (xs ∷ xss) all some = (let count = all.0.count in let b = some.0 in omega (arith, count, b), longer ls xss all.1 some.1)

  as_many : (ls : List Line) (xss : Table) → AllMeet s h n T ls xss → length xss ≡ length ls
  as_many [] [] all = refl
  as_many [] (xs ∷ xss) all = absurd all
  as_many (l ∷ ls) [] all = absurd all
  as_many (l ∷ ls) (xs ∷ xss) all = ap suc (as_many ls xss all.1)

as_many_values : (m : Moment) (ls : List Line) (vs : List (List ℕ)) → HaveValues m (map (λ (l : Line). l.expr) ls) vs → length vs ≡ length ls
as_many_values m [] [] h = refl
as_many_values m [] (v ∷ vs) h = absurd h
as_many_values m (l ∷ ls) [] h = absurd h
as_many_values m (l ∷ ls) (v ∷ vs) h = ap suc (as_many_values m ls vs h.1)

module _ (s : SpecValue) (w : WellTyped s) where
  abbrev out : Term → Term
  out e = written_out (trees s).defs e

  -- each stream has an initial value
  streams_some : (xs : List TreeStream) → All (IsGoodStream (signature_of (trees s))) xs → AllByRecursion (λ (l : Line). 0 < length l.init) (map (stream_line s.types) (map (λ (x : TreeStream). record x { expr = out x.expr }) xs) ++ [])
  streams_some [] h = tt
  streams_some (x ∷ xs) h =
      let some = (h 0 x (omega arith)).initial.some in
      let count = length_chunks (initial_count s.types x) (words s.types x.ty) x.init in
      (omega (arith, some, count), streams_some xs (λ k d b. h (suc k) d (omega (arith, b))))

  no_forms : s.libs ≡ [] → operand_lines (closed_spec s).libs ≡ []
  no_forms e = ap (λ (xs : List LibItem). operand_lines (map (λ (x : TreeLib). record x { args = map out x.args }) (map (λ (x : LibItem). record { form = x.form; args = map (tree s.nodes s.libs) x.args; at = x.at }) xs))) e

  lines_some : s.libs ≡ [] → AllByRecursion (λ (l : Line). 0 < length l.init) (lines (closed_spec s))
  lines_some e =
      subst (λ ls. AllByRecursion (λ (l : Line). 0 < length l.init) (map (stream_line s.types) (closed_spec s).streams ++ ls)) (sym (no_forms e))
      (streams_some (trees s).streams w.streams)

  module _ (h : List (List ℕ)) (n : ℕ) (T : Table) (is : table s h n ≡ Ok T) where
    met : Meets (closed_spec s) h n T
    met = meets (closed_spec s) h n T (bounded s w) is

    pub rings_long : (k : ℕ) → length (slice_index_or (lists_from n T) k []) ≡ bound_of (lines (closed_spec s)) k
    rings_long k = ring_length (closed_spec s) h n T (lines (closed_spec s)) T met.each k

    pub rings_next : s.libs ≡ [] → (next : Table) → table s h (suc n) ≡ Ok next → (v : StepValues) × IsCleanStep (closed_spec s) (moment (closed_spec s) T h n) v × (lists_from (n + 1) next ≡ moved (lists_from n T) v.nexts)
    rings_next none next e =
        let step = table_apart (closed_spec s) h n T is next e in
        let many : length step.0.nexts ≡ length T = as_many_values (moment (closed_spec s) T h n) (lines (closed_spec s)) step.0.nexts step.1.nexts ∙ sym (as_many (closed_spec s) h n T (lines (closed_spec s)) T met.each) in
        (step.0, step.1, ap (lists_from (n + 1)) step.2 ∙ next_from n T step.0.nexts (longer (closed_spec s) h n T (lines (closed_spec s)) T met.each (lines_some none)) many)

pub rings_first : (T : Table) → lists_from 0 T ≡ T
rings_first [] = refl
rings_first (xs ∷ T) = ap (λ (r : Table). xs ∷ r) (rings_first T)
