-- The width of a type, one type inside another.
use Rattle.std.proofs.Common.{◌≡◌, ℕ, suc, ◌+◌, List, length, Option, Some, None, refl, sym, ap, ◌∙◌, arith}
use Rattle.std.specs.List.{find}
use Rattle.std.specs.Option.{option_map_or}
use Rattle.c99_tree.specs.declared.types.CScalar.{CScalar}
use Rattle.c99_tree.specs.declared.types.CTy.{CTy}
use Rattle.c99_tree.specs.declared.types.CTy.TheVariants as ty
use Rattle.c99_tree.specs.Words.{is_same, word_of, scalars, elem_type}
use Rattle.c99_tree.specs.declared.types.CDef.{CDef}
use Rattle.c_exec.specs.Layout.{element_width, width_within, width_over, width_of}

pub width_within-zero : (ds : List CDef) (t : CTy) → width_within 0 ds t ≡ 0
unfolding width_within
width_within-zero ds t = refl

-- where no depth is left
pub no_depth : (n : ℕ) (ds : List CDef) (t : CTy) → n ≡ 0 → 0 ≡ width_within n ds t
no_depth n ds t e = sym (ap (λ k. width_within k ds t) e ∙ width_within-zero ds t)

pub width_within-suc : (n : ℕ) (ds : List CDef) (t : CTy) → width_within (suc n) ds t ≡ width_over (width_within n ds) ds t
unfolding width_within
width_within-suc n ds t = refl

pub width_within-more : (n : ℕ) (ds : List CDef) (t : CTy) → width_within (n + 1) ds t ≡ width_over (width_within n ds) ds t
width_within-more n ds t = ap (λ k. width_within k ds t) (next n) ∙ width_within-suc n ds t
  where
    next : (n : ℕ) → n + 1 ≡ suc n
    next n = omega arith

element_as_type : (f : CTy → ℕ) (ds : List CDef) (x : List ℕ) (o : Option CScalar) → element_width f ds (option_map_or ty.Scalar o (ty.Struct x)) ≡ width_over f ds (option_map_or ty.Scalar o (ty.Struct x))
element_as_type f ds x None = refl
element_as_type f ds x (Some t) = refl

-- an array's element is as wide as its type
pub width_of_elem : (ds : List CDef) (x : List ℕ) → element_width (width_within (length ds) ds) ds (elem_type x) ≡ width_of ds (elem_type x)
width_of_elem ds x = element_as_type (width_within (length ds) ds) ds x (find (λ s. is_same (word_of s) x) scalars) ∙ sym (width_within-more (length ds) ds (elem_type x))

pub ruleset width_steps = (width_within-more, width_within-suc, width_within-zero)
