-- What may stand as a name has the bytes of a name.
use Rattle.std.proofs.Common.{sym, ◌≡◌, ℕ, Bool, true, false, ◌&&◌, leb, List, [], ◌∷◌, length, inl, inr, refl, arith}
use Rattle.std.specs.Prelude.{slice_get, IsTrue}
use Rattle.std.specs.List.{list_all}
use Rattle.std.specs.Option.{option_map_or}
use Rattle.std.proofs.lemmas.Bool.{and_parts, and_from, or_cases, leb-true, le-leb, true≢false}
use Rattle.sm_io.specs.Names.{is_name_byte, IsNameBytes}
use Rattle.sm_io.specs.Words.{is_name, is_word, is_letter}
use Rattle.c99_tree.specs.declared.types.CScalar.{CScalar}
use Rattle.c99_tree.specs.declared.types.CScalar.TheVariants as t
use Rattle.c99_tree.specs.Words.{is_index, is_ring_name, is_element, word_of, scalars}
use Rattle.c99_read.proofs.FrontFinds.{index_word, any_word}

three : (a b c : Bool) → a ≡ true → b ≡ true → c ≡ true → IsTrue (a && b && c)
three a b c f g h = and_from (a && b) c (and_from a b f g) h

nonempty : (x : List ℕ) → option_map_or is_letter (slice_get x 0) false ≡ true → leb 1 (length x) ≡ true
nonempty [] h = absurd (true≢false (sym h))
nonempty (b ∷ x) h = le-leb 1 (length (b ∷ x)) (omega arith)

pub name_bytes : (x : List ℕ) → is_name x ≡ true → IsNameBytes x
name_bytes x h =
    let w = (and_parts (is_word x) _ h).0 in
    let p = and_parts (option_map_or is_letter (slice_get x 0) false && leb (length x) 31) (list_all is_name_byte x) w in
    let q = and_parts (option_map_or is_letter (slice_get x 0) false) (leb (length x) 31) p.0 in
    three (leb 1 (length x)) (leb (length x) 31) (list_all is_name_byte x) (nonempty x q.0) q.1 p.1

index_bytes : (x : List ℕ) → is_index x ≡ true → IsNameBytes x
index_bytes [] h = absurd (true≢false (sym h))
index_bytes (b ∷ x) h =
    let short = leb-true (length x) 30 (and_parts _ (leb (length x) 30) h).1 in
    three (leb 1 (length (b ∷ x))) (leb (length (b ∷ x)) 31) (list_all is_name_byte (b ∷ x)) (le-leb 1 (length (b ∷ x)) (omega arith)) (le-leb (length (b ∷ x)) 31 (omega arith)) (index_word (b ∷ x) h)

pub ring_name_bytes : (x : List ℕ) → is_ring_name x ≡ true → IsNameBytes x
ring_name_bytes x h = elim (or_cases (is_name x) (is_index x) h) [ inl a ↦ name_bytes x a | inr b ↦ index_bytes x b ]

scalar_bytes : (s : CScalar) → IsNameBytes (word_of s)
scalar_bytes t.Bool = refl
scalar_bytes _ = refl

pub element_bytes : (x : List ℕ) → is_element x ≡ true → IsNameBytes x
element_bytes x h = elim (or_cases (is_name x) _ h) [ inl a ↦ name_bytes x a | inr b ↦ let p = any_word x scalars b in rw p.1 (scalar_bytes p.0) ]
