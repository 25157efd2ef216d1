-- Where the externs' parts stand in a row.
use Rattle.std.proofs.Common.{◌≡◌, ℕ, zero, suc, ◌+◌, ◌<◌, ◌≤◌, List, [], ◌∷◌, length, take, drop, Some, refl, sym, ap, ◌∙◌, subst, arith}
use Rattle.std.specs.Prelude.{slice_get, slice_index}
use Rattle.std.specs.List.{flat_map}
use Rattle.std.proofs.lemmas.List.{drop-drop, length-append, length-drop, length-take}
use Rattle.stream_types.specs.declared.scalar.Ty.{Ty}
use Rattle.stream_types.specs.declared.types.TypeEntry.{TypeEntry}
use Rattle.stream_types.specs.Types.{AreWords, leaves, words}
use Rattle.stream_types.proofs.LeafWords.{length-leaves, length-words}
use Rattle.stream_core.specs.declared.spec.ExternItem.{ExternItem}
use Rattle.stream_core.specs.Value.{SpecValue}
use Rattle.stream_core.specs.Eval.{Table, part_of, row_leaves}
use Rattle.stream_core.specs.Meaning.{closed_spec}
use Rattle.stream_core.specs.Signature.{extern_types}
use Rattle.stream_interp.specs.Reading.{extern_firsts}
use Rattle.stream_interp.specs.Seen.{IsSeen}
use Rattle.stream_interp.proofs.RingEntries.{all_read}

-- the words before an extern's part
abbrev before : List TypeEntry → List ExternItem → ℕ → ℕ
before types [] x = 0
before types (e ∷ es) zero = 0
before types (e ∷ es) (suc x) = words types e.ty + before types es x

-- the words of all externs
abbrev pub row_words : List TypeEntry → List ExternItem → ℕ
row_words types [] = 0
row_words types (e ∷ es) = words types e.ty + row_words types es

pub firsts_length : (types : List TypeEntry) (at : ℕ) (es : List ExternItem) → length (extern_firsts types at es) ≡ length es
firsts_length types at [] = refl
firsts_length types at (e ∷ es) = ap suc (firsts_length types (at + words types e.ty) es)

-- extern x, of this type, where the first part begins at an index
pub record IsPlace (types : List TypeEntry) (at : ℕ) (es : List ExternItem) (x : ℕ) (t : Ty) : Type 0 where
  pub there : x < length es
  pub first : slice_index (extern_firsts types at es) x ≡ at + before types es x
  pub within : before types es x + words types t ≤ row_words types es
  pub part : (row : List ℕ) → part_of types es row x ≡ take (words types t) (drop (before types es x) row)

pub place_of_extern : (types : List TypeEntry) (at : ℕ) (es : List ExternItem) (x : ℕ) (t : Ty) → slice_get (extern_types es) x ≡ Some t → IsPlace types at es x t
place_of_extern types at [] x t e = absurd (cc)
place_of_extern types at (y ∷ es) zero t e =
    let is : y.ty ≡ t = cc in
    let w = ap (words types) is in
    record { there = omega arith; first = omega arith; within = omega (arith, w); part = λ row. ap (λ n. take n row) w }
place_of_extern types at (y ∷ es) (suc x) t e =
    let h = place_of_extern types (at + words types y.ty) es x t e in
    let there = h.there in
    let first = h.first in
    let within = h.within in
    record {
      there = omega (arith, there);
      first = omega (arith, first);
      within = omega (arith, within);
      part = λ row. h.part (drop (words types y.ty) row) ∙ ap (take (words types t)) (drop-drop (before types es x) (words types y.ty) row);
    }

leaves_length : (types : List TypeEntry) (es : List ExternItem) → length (flat_map (λ (x : ExternItem). leaves types x.ty) es) ≡ row_words types es
leaves_length types [] = refl
leaves_length types (e ∷ es) =
    let h = leaves_length types es in
    let a = length-append (leaves types e.ty) (flat_map (λ (x : ExternItem). leaves types x.ty) es) in
    let b = length-leaves types e.ty in
    omega (arith, h, a, b)

-- a row has the words of all externs
pub row_length : (s : SpecValue) (rings : Table) (row : List ℕ) → IsSeen s rings row → length row ≡ row_words s.types s.externs
row_length s rings row seen =
    let ws = subst (AreWords (row_leaves (closed_spec s))) seen.row_is (all_read (AreWords (row_leaves (closed_spec s))) seen.history seen.time [] seen.rows seen.there) in
    length-words (row_leaves (closed_spec s)) row ws ∙ leaves_length s.types s.externs

-- what is read at an extern's place
pub extern_read : (s : SpecValue) (rings : Table) (row : List ℕ) → IsSeen s rings row → (firsts : List ℕ) → firsts ≡ extern_firsts s.types 0 s.externs → (x wide first : ℕ) (t : Ty)
    → slice_get (extern_types s.externs) x ≡ Some t → words s.types t ≡ wide → first ≡ slice_index firsts x
    → (take wide (drop first row) ≡ part_of s.types s.externs row x) × (length (take wide (drop first row)) ≡ wide)
extern_read s rings row seen firsts are x wide first t typed w is =
    let p = place_of_extern s.types 0 s.externs x t typed in
    let start = p.first in
    let within = p.within in
    let long = row_length s rings row seen in
    let at : first ≡ before s.types s.externs x = (let e = is ∙ ap (λ xs. slice_index xs x) are in omega (arith, e, start)) in
    let a = length-take wide (drop first row) in
    let b = length-drop first row in
    (ap (λ n. take wide (drop n row)) at ∙ ap (λ n. take n (drop (before s.types s.externs x) row)) (sym w) ∙ sym (p.part row), omega (arith, a, b, at, w, within, long))
