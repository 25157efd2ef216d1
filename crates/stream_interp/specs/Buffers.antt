-- The buffers that a step works in, and the rings' first words.
use Rattle.std.specs.Prelude.{ℕ, ◌+◌, ◌≤◌, ◌≡◌, List, [], ◌∷◌, ◌++◌, length, vec_len}
use Rattle.stream_types.specs.declared.types.TypeEntry.{TypeEntry}
use Rattle.stream_types.specs.Types.{words}
use Rattle.stream_core.specs.declared.spec.StreamItem.{StreamItem}
use Rattle.stream_core.specs.Value.{SpecValue}
use Rattle.stream_core.specs.Eval.{Table}
use Rattle.stream_core.specs.Term.{value_count}
use Rattle.ring_bank.specs.declared.shape.Shape.{Shape}
use Rattle.ring_bank.specs.RingRows.{width_of}
use Rattle.stream_interp.specs.declared.steps.Work.{Work}
use Rattle.stream_interp.specs.Roots.{IsReadySpec, triggers_words, observers_words, streams_words}

-- there is room for each event of a step, for the streams' next values, and for each evaluation
pub record FitsSpec (s : SpecValue) (w : Work) : Type 0 where
  pub words : triggers_words s.types s.triggers + observers_words s.types s.observers ≤ w.log.words
  pub marks : length s.triggers + length s.observers ≤ w.log.marks
  pub rows : vec_len w.rows ≡ streams_words s.types s.streams
  pub scratch : IsReadySpec s (vec_len w.scratch)

-- a ring for each stream, whose rows have as many words as the stream's values
abbrev pub AreAsWide : List TypeEntry → List StreamItem → Table → Type 0
AreAsWide types [] [] = Unit {0}
AreAsWide types [] (r ∷ rs) = ⊥
AreAsWide types (x ∷ xs) [] = ⊥
AreAsWide types (x ∷ xs) (r ∷ rs) = (width_of r ≡ words types x.ty) × AreAsWide types xs rs

-- shapes of as many rows as a stream has initial values, and as many words as its values have
abbrev pub AreShapes : List TypeEntry → List StreamItem → List Shape → Type 0
AreShapes types [] [] = Unit {0}
AreShapes types [] (a ∷ as_) = ⊥
AreShapes types (x ∷ xs) [] = ⊥
AreShapes types (x ∷ xs) (a ∷ as_) = (a.len ≡ value_count types x.ty x.init) × (a.width ≡ words types x.ty) × AreShapes types xs as_

-- the words of all initial values
abbrev pub first_words : List StreamItem → List ℕ
first_words [] = []
first_words (x ∷ xs) = x.init ++ first_words xs
