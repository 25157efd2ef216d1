-- A type is read as it was written.
use Rattle.std.proofs.Common.{◌≡◌, ℕ, ◌^◌, ◌<◌, ◌≤◌, true, false, List, ◌∷◌, ◌++◌, Some, refl, codes, arith}
use Rattle.std.specs.Fmt.{decimal}
use Rattle.std.proofs.lemmas.Bool.{and_parts, leb-true}
use Rattle.c99_tree.specs.declared.types.CScalar.{CScalar}
use Rattle.c99_tree.specs.declared.types.CScalar.TheVariants as t
use Rattle.c99_tree.specs.declared.types.CTy.{CTy}
use Rattle.c99_tree.specs.declared.types.CTy.TheVariants as ty
use Rattle.c99_tree.specs.Words.{is_same, is_element}
use Rattle.c99_tree.specs.Spelling.{scalar_text, type_text, is_spelled_type, is_u32}
use Rattle.c99_read.specs.Front.{behind}
use Rattle.c99_read.specs.TypeAt.{scalar_of, type_at}
use Rattle.c99_read.proofs.FrontFinds.{ends, all_word, word_front, after_word_front, all_word-append, name_word, element_word, decimal_word, name_no_cp, array_of-is}

pub record IsScalar (t : CScalar) : Type 0 where
  pub is_word : all_word (scalar_text t) ≡ true
  pub is : scalar_of (scalar_text t) ≡ Some t
  pub no_struct : is_same (scalar_text t) (codes "struct") ≡ false

pub are_scalars : (t : CScalar) → IsScalar t
unfolding scalar_of
are_scalars t.Bool = record { is_word = refl; is = refl; no_struct = refl }
are_scalars _ = record { is_word = refl; is = refl; no_struct = refl }

-- the word of an array type
abbrev pub array_word : List ℕ → ℕ → List ℕ
array_word x n = codes "cp_arr_" ++ x ++ codes "_" ++ decimal n

pub array_word-word : (x : List ℕ) (n : ℕ) → is_element x ≡ true → is_u32 n ≡ true → all_word (array_word x n) ≡ true
array_word-word x n h k =
    let low : n ≤ 4294967295 = leb-true n 4294967295 k in
    let small : n < 2 ^ 64 = omega arith in
    all_word-append (codes "cp_arr_" ++ x ++ codes "_") (decimal n) (all_word-append (codes "cp_arr_" ++ x) (codes "_") (element_word x h) refl) (decimal_word n small)

pub type_finds : (k : CTy) (x : List ℕ) → is_spelled_type k ≡ true → ends x ≡ true → type_at (type_text k ++ x) ≡ Some (k, x)
unfolding type_at behind
type_finds (ty.Scalar t) x h e =
    let s = are_scalars t in
    rw (word_front (scalar_text t) x s.is_word e, after_word_front (scalar_text t) x s.is_word e, s.no_struct, s.is) refl
type_finds (ty.Struct n) x h e =
    rw (word_front (codes "struct") (32 ∷ (n ++ x)) refl refl, after_word_front (codes "struct") (32 ∷ (n ++ x)) refl refl, word_front n x (name_word n h) e, after_word_front n x (name_word n h) e, name_no_cp (codes "arr_") n h, h) refl
type_finds (ty.Array y n) x h e =
    let p = and_parts (is_element y) (is_u32 n) h in
    let w = array_word-word y n p.0 p.1 in
    rw (word_front (codes "struct") (32 ∷ (array_word y n ++ x)) refl refl, after_word_front (codes "struct") (32 ∷ (array_word y n ++ x)) refl refl, word_front (array_word y n) x w e, after_word_front (array_word y n) x w e, array_of-is y n p.0 p.1) refl
