-- A type that is found stands there.
use Rattle.std.proofs.Common.{◌≡◌, ℕ, Bool, true, List, ◌++◌, Option, Some, None, inl, inr, refl, sym, ap, ◌∙◌, append_assoc, codes}
use Rattle.std.specs.Prelude.{if◌then◌else◌}
use Rattle.std.proofs.lemmas.Bool.{and_from, cases_Bool}
use Rattle.sm_io.specs.Words.{is_name}
use Rattle.c99_tree.specs.declared.types.CScalar.{CScalar}
use Rattle.c99_tree.specs.declared.types.CTy.{CTy}
use Rattle.c99_tree.specs.declared.types.CTy.TheVariants as ty
use Rattle.c99_tree.specs.Words.{is_same, is_element, scalars}
use Rattle.c99_tree.specs.Spelling.{scalar_text, type_text, is_spelled_type, is_u32}
use Rattle.c99_read.specs.Front.{◌>>=◌, behind, word, after_word, array_of}
use Rattle.c99_read.specs.TypeAt.{scalar_of, struct_of_word, struct_at, type_at}
use Rattle.c99_read.proofs.FrontFinds.{behind_is, same_is}
use Rattle.c99_read.proofs.FrontTakes.{bound, paired, meet, found_test, guarded, word_whole, TakesArray, array_takes}
use Rattle.c99_read.proofs.TypeFinds.{array_word}

pub scalar_takes : (w : List ℕ) (t : CScalar) → scalar_of w ≡ Some t → w ≡ scalar_text t
unfolding scalar_of
scalar_takes w t h = sym (same_is (scalar_text t) w (found_test (λ k. is_same (scalar_text k) w) scalars t h))

-- the name of an array type
pub array_word_takes : (w a x : List ℕ) (n : ℕ) → behind (codes "cp_arr_") w ≡ Some a → TakesArray a x n → w ≡ array_word x n
array_word_takes w a x n h t = behind_is (codes "cp_arr_") w a h ∙ ap (λ (z : List ℕ). codes "cp_arr_" ++ z) t.is ∙ simp append_assoc

typed_is : (s : List ℕ) (j k : CTy) (q r : List ℕ) → s ≡ type_text j ++ q → j ≡ k → q ≡ r → s ≡ type_text k ++ r
typed_is s j k q r h a b = rw (← a, ← b) h

struct_takes : (s : List ℕ) (k : CTy) (r : List ℕ) → struct_at s ≡ Some (k, r) → (codes "struct " ++ s ≡ type_text k ++ r) × (is_spelled_type k ≡ true)
struct_takes s k r h = by (behind (codes "cp_arr_") (word s)) h (λ a e. e)
  where
    by : (o : Option (List ℕ)) → struct_of_word o (word s) (after_word s) ≡ Some (k, r) → ((a : List ℕ) → o ≡ Some a → behind (codes "cp_arr_") (word s) ≡ Some a)
        → (codes "struct " ++ s ≡ type_text k ++ r) × (is_spelled_type k ≡ true)
    by (Some a) g f =
        let b = bound (array_of a) (λ p. Some (ty.Array p.0 p.1, after_word s)) (k, r) g in
        let p = paired (ty.Array b.0.0 b.0.1) k (after_word s) r b.2 in
        let t = array_takes a b.0.0 b.0.1 b.1 in
        let w = array_word_takes (word s) a b.0.0 b.0.1 (f a refl) t in
        (typed_is (codes "struct " ++ s) (ty.Array b.0.0 b.0.1) k (after_word s) r (ap (λ (z : List ℕ). codes "struct " ++ z) (word_whole s ∙ ap (λ (z : List ℕ). z ++ after_word s) w)) p.0 p.1, ap is_spelled_type (sym p.0) ∙ and_from (is_element b.0.0) (is_u32 b.0.1) t.elem t.len)
    by None g f =
        let b = guarded (is_name (word s)) (Some (ty.Struct (word s), after_word s)) (k, r) g in
        let p = paired (ty.Struct (word s)) k (after_word s) r b.1 in
        (typed_is (codes "struct " ++ s) (ty.Struct (word s)) k (after_word s) r (ap (λ (z : List ℕ). codes "struct " ++ z) (word_whole s)) p.0 p.1, ap is_spelled_type (sym p.0) ∙ b.0)

pub type_takes : (s : List ℕ) (k : CTy) (r : List ℕ) → type_at s ≡ Some (k, r) → (s ≡ type_text k ++ r) × (is_spelled_type k ≡ true)
unfolding type_at
type_takes s k r h = elim (cases_Bool (is_same (word s) (codes "struct"))) [
  | inl y ↦
      let g : (behind (codes " ") (after_word s) >>= struct_at) ≡ Some (k, r) = sym (ap (λ (b : Bool). if b then behind (codes " ") (after_word s) >>= struct_at else scalar_of (word s) >>= (λ t. Some (ty.Scalar t, after_word s))) y) ∙ h in
      let b = bound (behind (codes " ") (after_word s)) struct_at (k, r) g in
      let t = struct_takes b.0 k r b.2 in
      (word_whole s ∙ meet (word s) (after_word s) (codes "struct") (codes " " ++ b.0) (same_is (word s) (codes "struct") y) (behind_is (codes " ") (after_word s) b.0 b.1) ∙ t.0, t.1)
  | inr n ↦
      let g : (scalar_of (word s) >>= (λ t. Some (ty.Scalar t, after_word s))) ≡ Some (k, r) = sym (ap (λ (b : Bool). if b then behind (codes " ") (after_word s) >>= struct_at else scalar_of (word s) >>= (λ t. Some (ty.Scalar t, after_word s))) n) ∙ h in
      let b = bound (scalar_of (word s)) (λ t. Some (ty.Scalar t, after_word s)) (k, r) g in
      let p = paired (ty.Scalar b.0) k (after_word s) r b.2 in
      (typed_is s (ty.Scalar b.0) k (after_word s) r (word_whole s ∙ ap (λ (z : List ℕ). z ++ after_word s) (scalar_takes (word s) b.0 b.1)) p.0 p.1, ap is_spelled_type (sym p.0))
]
