-- A tree with its forms and defs written out weighs what the forms' weights say.
use Rattle.std.proofs.Common.{◌≡◌, ℕ, zero, suc, ◌+◌, ◌*◌, List, [], ◌∷◌, map, refl, ap, ◌∙◌, arith, if◌then◌else◌, Bool, true, false}
use Rattle.std.specs.Prelude.{slice_get}
use Rattle.stream_types.specs.Types.{signed}
use Rattle.stream_types.specs.declared.scalar.Scalar.{Scalar}
use Rattle.stream_core.specs.Term.{Term, Terms, lit, extern, stream, def, named, missing, dropped, un, bin, shift, cast, and, or, implies, choose, index, field, array, struct, abs, sign, majority, agreed, lib, end, more, TreeDef, with_defs, all_with_defs, def_at, def_to}
use Rattle.stream_core.specs.Lower.{lowered, lowered_terms, lowered_all, sign_term}
use Rattle.stream_core.specs.Limits.{plain_weight, plain_weights}
use Rattle.stream_core.specs.Weights.{total, loaded, loads, majority_weight, agreed_weight, form_weight}
use Rattle.stream_core.proofs.FormWeights.{over, majority_is, agreed_is, form_is}

module _ (G F : ℕ → Term) (same : (d : ℕ) → plain_weight (G d) ≡ loaded (F d)) (at : ℕ → ℕ) where
  sign_is : (s : Scalar) (e : Term) (w : ℕ) → over G e ≡ w → over G (sign_term s e) ≡ (if signed s then 2 * w + 9 else w + 5)
  sign_is s e w h = go (signed s) refl
    where
      go : (b : Bool) → signed s ≡ b → over G (sign_term s e) ≡ (if signed s then 2 * w + 9 else w + 5)
      go true eq = rw eq (omega (arith, h))
      go false eq = rw eq (omega (arith, h))

  mutual
    pub lowered_is : (e : Term) → over G (lowered at e) ≡ loaded (with_defs F e)
    lowered_is (lit s w) = refl
    lowered_is (extern x) = refl
    lowered_is (stream s) = refl
    lowered_is (def d) = same d
    lowered_is (named d a) = lowered_is a
    lowered_is missing = refl
    lowered_is (dropped s k) = refl
    lowered_is (un o s a) = let p = lowered_is a in cc
    lowered_is (bin o s a b) = let p = lowered_is a in let q = lowered_is b in cc
    lowered_is (shift d s a cs b) = let p = lowered_is a in let q = lowered_is b in cc
    lowered_is (cast f t a) = let p = lowered_is a in cc
    lowered_is (and a b) = let p = lowered_is a in let q = lowered_is b in cc
    lowered_is (or a b) = let p = lowered_is a in let q = lowered_is b in cc
    lowered_is (implies a b) = let p = lowered_is a in let q = lowered_is b in cc
    lowered_is (choose c a b) = let p = lowered_is a in let q = lowered_is b in let r = lowered_is c in cc
    lowered_is (index t a b) = let p = lowered_is a in let q = lowered_is b in cc
    lowered_is (field t m a) = let p = lowered_is a in cc
    lowered_is (array t es) = let p = terms_are es in cc
    lowered_is (struct t es) = let p = terms_are es in cc
    lowered_is (abs s a) = let p = lowered_is a in omega (arith, p)
    lowered_is (sign s a) = sign_is s (lowered at a) (loaded (with_defs F a)) (lowered_is a)
    lowered_is (majority s es) = majority_is G s (lowered_all at es) ∙ ap majority_weight (list_is es)
    lowered_is (agreed s es) = agreed_is G s (lowered_all at es) ∙ ap agreed_weight (list_is es)
    lowered_is (lib k form es) = form_is G form (at k) (lowered_all at es) ∙ ap (form_weight form) (list_is es)

    terms_are : (es : Terms) → plain_weights (all_with_defs G (lowered_terms at es)) ≡ total (loads (all_with_defs F es))
    terms_are end = refl
    terms_are (more a es) = let p = lowered_is a in let q = terms_are es in cc

    list_is : (es : Terms) → map (over G) (lowered_all at es) ≡ loads (all_with_defs F es)
    list_is end = refl
    list_is (more a es) = let p = lowered_is a in let q = list_is es in cc

-- ---- defs

abbrev pub lowered_def : (ℕ → ℕ) → TreeDef → TreeDef
lowered_def at x = record x { expr = lowered at x.expr }

module _ (at : ℕ → ℕ) (defs : List TreeDef) where
  def_at_is : (G F : ℕ → Term) → ((d : ℕ) → plain_weight (G d) ≡ loaded (F d)) → (xs : List TreeDef) (d : ℕ) → plain_weight (def_at G (slice_get (map (lowered_def at) xs) d)) ≡ loaded (def_at F (slice_get xs d))
  def_at_is G F same [] d = refl
  def_at_is G F same (x ∷ xs) zero = lowered_is G F same at x.expr
  def_at_is G F same (x ∷ xs) (suc d) = def_at_is G F same xs d

  pub def_to_is : (n d : ℕ) → plain_weight (def_to (map (lowered_def at) defs) n d) ≡ loaded (def_to defs n d)
  def_to_is zero d = refl
  def_to_is (suc n) d = def_at_is (def_to (map (lowered_def at) defs) n) (def_to defs n) (λ c. def_to_is n c) defs d
