-- Buffers that begin with some times a word, and then take an operand's samples.
use Rattle.std.proofs.Common.{◌≡◌, ◌+◌, ◌<◌, ℕ, zero, suc, [], ◌∷◌, length, sym, ap, ◌∙◌, Some, Ok}
use Rattle.std.specs.Prelude.{slice_get}
use Rattle.std.proofs.lemmas.Option.{same_Some, none-some}
use Rattle.std.proofs.lemmas.List.{length-replicate}
use Rattle.stream_core.specs.Term.{Term, TreeStream}
use Rattle.stream_core.specs.Eval.{Moment, value}
use Rattle.stream_core.specs.Lower.{bool_buffer}
use Rattle.form_laws.specs.Buffers.{taken}
use Rattle.form_laws.proofs.Samples.{first_entries, later_entries}
use Rattle.form_laws.proofs.ReadAgo.{replicated_at}

pub buffer_moves : (m : Moment) (number d w at : ℕ) (e : Term) (q : ℕ → ℕ) (x : TreeStream) → bool_buffer number d w e at ≡ x → value m e ≡ Ok (q m.time ∷ []) → value m x.expr ≡ Ok (taken d w q (d + m.time) ∷ [])
buffer_moves m number d w at e q x is here = ap (λ (y : TreeStream). value m y.expr) (sym is) ∙ here ∙ ap (λ n. Ok (n ∷ [])) (sym (later_entries d w q m.time))

pub buffer_begins : (number d w at : ℕ) (e : Term) (q : ℕ → ℕ) (x : TreeStream) → bool_buffer number d w e at ≡ x → (length x.init ≡ d) × ((i : ℕ) → i < d → slice_get x.init i ≡ Some (taken d w q i))
buffer_begins number d w at e q x is = (
  ap (λ (y : TreeStream). length y.init) (sym is) ∙ length-replicate d w,
  λ i h. ap (λ (y : TreeStream). slice_get y.init i) (sym is) ∙ replicated_at d w i h ∙ ap Some (sym (first_entries d w q i h)),
)

-- the element of a list of one
pub only_one : (x y : TreeStream) (k : ℕ) → slice_get (x ∷ []) k ≡ Some y → x ≡ y
only_one x y zero h = same_Some x y h
only_one x y (suc k) h = absurd (none-some y h)
