-- What the buffers of a library form hold, and when a form over its buffers keeps its meaning.
use Rattle.std.specs.Prelude.{ℕ, zero, suc, ◌+◌, ◌-◌, ◌%◌, ◌<◌, ◌≡◌, List, [], ◌∷◌, length, map, max, slice_get, slice_index, Bool, if◌then◌else◌, nat_lt, IsTrue, Some, Ok, Err}
use Rattle.stream_types.specs.declared.scalar.Scalar.{Scalar}
use Rattle.stream_types.specs.declared.scalar.Hazard.{Hazard}
use Rattle.stream_types.specs.declared.scalar.Ty.TheVariants as ty
use Rattle.stream_types.specs.Scalars.{bits, signed}
use Rattle.stream_types.specs.Numbers.{word, least, greatest, is_word}
use Rattle.stream_core.specs.declared.node.LibForm.{LibForm}
use Rattle.stream_core.specs.declared.node.LibForm.TheVariants as form
use Rattle.stream_core.specs.Term.{Term, TreeStream}
use Rattle.stream_core.specs.Library.{once, historically, since, bool_word, is_true_word, form_value}
use Rattle.stream_core.specs.Eval.{Table, Moment, entry_at, value, values, one}
use Rattle.stream_core.specs.Lower.{depth, buffers, form_term, buffers_of}
use Rattle.stream_core.specs.WellTyped.{operand_types}

-- ---- samples

-- the word of operand j at step i
abbrev pub Samples : Type 0
Samples = ℕ → ℕ → ℕ

-- operand j was true at step i
abbrev pub truths : Samples → ℕ → ℕ → Bool
truths p j i = is_true_word (p j i)

-- the samples before step t, and those of this step
abbrev pub with_now : ℕ → Samples → List ℕ → Samples
with_now t p now j i = if nat_lt i t then p j i else slice_index now j

-- each sample before step t is a word of its operand's scalar
abbrev pub AreSamples : LibForm → ℕ → Samples → Type 0
AreSamples f t p = (j i : ℕ) (s : Scalar) → i < t → slice_get (operand_types f) j ≡ Some (ty.Scalar s) → IsTrue (is_word s (p j i))

-- a word for each operand, of its scalar
pub record AreNow (f : LibForm) (now : List ℕ) : Type 0 where
  pub count : length now ≡ length (operand_types f)
  pub words : (j : ℕ) (s : Scalar) → slice_get (operand_types f) j ≡ Some (ty.Scalar s) → IsTrue (is_word s (slice_index now j))

-- ---- buffers

-- entry i of a buffer that begins with m times a word, and then takes an operand's samples
abbrev pub taken : ℕ → ℕ → (ℕ → ℕ) → ℕ → ℕ
taken m w p i = if nat_lt i m then w else p (i - m)

-- entry i of a buffer that begins with a word, and then takes the form's own value at each step
abbrev pub followed : ℕ → (ℕ → Bool) → ℕ → ℕ
followed w sentence zero = w
followed w sentence (suc i) = bool_word (sentence i)

-- entry i of buffer k of a form
abbrev pub buffer_entry : LibForm → Samples → ℕ → ℕ → ℕ
buffer_entry form.Once p k i = followed 0 (once (truths p 0)) i
buffer_entry form.Historically p k i = followed 1 (historically (truths p 0)) i
buffer_entry form.Yesterday p k i = taken 1 0 (p 0) i
buffer_entry form.WeaklyYesterday p k i = taken 1 1 (p 0) i
buffer_entry form.Since p k i = followed 0 (since (truths p 0) (truths p 1)) i
buffer_entry (form.OnceIn low high) p k i = taken (max high 1) 0 (p 0) i
buffer_entry (form.HistoricallyIn low high) p k i = taken (max high 1) 1 (p 0) i
buffer_entry (form.SinceIn low high) p zero i = taken (max high 1) 1 (p 0) i
buffer_entry (form.SinceIn low high) p (suc k) i = taken (max high 1) 0 (p 1) i
buffer_entry (form.Clock period phase) p k i = i % period
buffer_entry (form.WindowMax n s) p k i = taken (max (n - 1) 1) (word (least (bits s) (signed s))) (p 0) i
buffer_entry (form.WindowMin n s) p k i = taken (max (n - 1) 1) (word (greatest (bits s) (signed s))) (p 0) i
buffer_entry (form.WindowSum n s) p k i = taken (max (n - 1) 1) 0 (p 0) i

-- Before step t the lists of a table from list b on hold what the form's buffers hold.
abbrev pub HoldBuffers : LibForm → ℕ → Table → ℕ → Samples → Type 0
HoldBuffers f b table t p = (k i : ℕ) → k < buffers f → i < depth f + t → entry_at table (b + k) i ≡ buffer_entry f p k i ∷ []

-- ---- a form over its buffers

-- values of one word each
abbrev pub singles : List ℕ → List (List ℕ)
singles now = map (λ w. w ∷ []) now

-- A step over the buffers: the samples so far, those of this step, and the operands' expressions, which have them as
-- values.
pub record IsFormStep (f : LibForm) (m : Moment) (b : ℕ) (ps : List Term) (p : Samples) (now : List ℕ) : Type 0 where
  pub samples : AreSamples f m.time p
  pub words : AreNow f now
  pub hold : HoldBuffers f b m.table m.time p
  pub given : values m ps ≡ Ok (singles now)

-- The operands' expressions meet a hazard, the first of which is this.
pub record StopsForm (f : LibForm) (m : Moment) (ps : List Term) (h : Hazard) : Type 0 where
  pub count : length ps ≡ length (operand_types f)
  pub met : values m ps ≡ Err h

-- The plain expression of a form over its buffers has the value of the form's sentence over all steps up to now, and
-- each buffer goes on with its next entry, which the buffers hold before the next step. A hazard of the operands is
-- that of the expression, and of the buffers. Each buffer begins with its first entries.
pub record FormIsKept (f : LibForm) : Type 0 where
  pub given : (m : Moment) (b : ℕ) (ps : List Term) (p : Samples) (now : List ℕ) → IsFormStep f m b ps p now
      → value m (form_term f b ps) ≡ one (form_value f m.time (with_now m.time p now))
  pub stops : (m : Moment) (b : ℕ) (ps : List Term) (h : Hazard) → StopsForm f m ps h → value m (form_term f b ps) ≡ Err h
  pub moves : (m : Moment) (number b at : ℕ) (ps : List Term) (p : Samples) (now : List ℕ) → IsFormStep f m b ps p now
      → (k : ℕ) (x : TreeStream) → slice_get (buffers_of f number b at ps) k ≡ Some x
      → value m x.expr ≡ Ok (buffer_entry f (with_now m.time p now) k (depth f + m.time) ∷ [])
  pub halts : (m : Moment) (number b at : ℕ) (ps : List Term) (h : Hazard) → StopsForm f m ps h
      → values m (map (λ (x : TreeStream). x.expr) (buffers_of f number b at ps)) ≡ Err h
  pub begins : (number b at : ℕ) (ps : List Term) (p : Samples) → length ps ≡ length (operand_types f)
      → (k : ℕ) (x : TreeStream) → slice_get (buffers_of f number b at ps) k ≡ Some x
      → (length x.init ≡ depth f) × ((i : ℕ) → i < depth f → slice_get x.init i ≡ Some (buffer_entry f p k i))
