-- Defs written out: each is its expression, where no def leads back to itself.
use Rattle.std.proofs.Common.{◌≡◌, ℕ, zero, suc, ◌<◌, List, [], ◌∷◌, ◌++◌, length, Option, Some, None, refl, ap, ◌∙◌, arith}
use Rattle.std.specs.Prelude.{slice_get}
use Rattle.std.specs.List.{AllByRecursion}
use Rattle.stream_core.specs.Term.{Term, Terms, lit, extern, stream, def, named, missing, dropped, un, bin, shift, cast, and, or, implies, choose, index, field, array, struct, abs, sign, majority, agreed, lib, end, more, TreeDef, with_defs, all_with_defs, def_at, def_to, written_out}
use Rattle.stream_core.specs.Limits.{mentions, all_mentions, Ranks}
use Rattle.stream_core.proofs.Trees.{all_map}

abbrev Agree : (ℕ → Term) → (ℕ → Term) → List ℕ → Type 0
Agree f g ds = AllByRecursion (λ d. f d ≡ g d) ds

front : (f g : ℕ → Term) (a b : List ℕ) → Agree f g (a ++ b) → Agree f g a
front f g [] b h = tt
front f g (x ∷ a) b h = (h.0, front f g a b h.1)

back : (f g : ℕ → Term) (a b : List ℕ) → Agree f g (a ++ b) → Agree f g b
back f g [] b h = h
back f g (x ∷ a) b h = back f g a b h.1

mutual
  with_same : (f g : ℕ → Term) (e : Term) → Agree f g (mentions e) → with_defs f e ≡ with_defs g e
  with_same f g (lit s w) h = refl
  with_same f g missing h = refl
  with_same f g (extern x) h = refl
  with_same f g (stream s) h = refl
  with_same f g (dropped s k) h = refl
  with_same f g (def d) h = ap (named d) h.0
  with_same f g (un o s a) h = let p = with_same f g a h in cc
  with_same f g (cast x t a) h = let p = with_same f g a h in cc
  with_same f g (field t k a) h = let p = with_same f g a h in cc
  with_same f g (abs s a) h = let p = with_same f g a h in cc
  with_same f g (sign s a) h = let p = with_same f g a h in cc
  with_same f g (named d a) h = let p = with_same f g a h in cc
  with_same f g (bin o s a b) h = let p = with_same f g a (front f g (mentions a) (mentions b) h) in let q = with_same f g b (back f g (mentions a) (mentions b) h) in cc
  with_same f g (shift w s a cs b) h = let p = with_same f g a (front f g (mentions a) (mentions b) h) in let q = with_same f g b (back f g (mentions a) (mentions b) h) in cc
  with_same f g (and a b) h = let p = with_same f g a (front f g (mentions a) (mentions b) h) in let q = with_same f g b (back f g (mentions a) (mentions b) h) in cc
  with_same f g (or a b) h = let p = with_same f g a (front f g (mentions a) (mentions b) h) in let q = with_same f g b (back f g (mentions a) (mentions b) h) in cc
  with_same f g (implies a b) h = let p = with_same f g a (front f g (mentions a) (mentions b) h) in let q = with_same f g b (back f g (mentions a) (mentions b) h) in cc
  with_same f g (index t a b) h = let p = with_same f g a (front f g (mentions a) (mentions b) h) in let q = with_same f g b (back f g (mentions a) (mentions b) h) in cc
  with_same f g (choose c a b) h =
      let p = with_same f g c (front f g (mentions c) (mentions a ++ mentions b) h) in
      let r = back f g (mentions c) (mentions a ++ mentions b) h in
      let q = with_same f g a (front f g (mentions a) (mentions b) r) in
      let s = with_same f g b (back f g (mentions a) (mentions b) r) in
      cc
  with_same f g (array t es) h = let p = all_with_same f g es h in cc
  with_same f g (struct t es) h = let p = all_with_same f g es h in cc
  with_same f g (majority s es) h = let p = all_with_same f g es h in cc
  with_same f g (agreed s es) h = let p = all_with_same f g es h in cc
  with_same f g (lib k form es) h = let p = all_with_same f g es h in cc

  all_with_same : (f g : ℕ → Term) (es : Terms) → Agree f g (all_mentions es) → all_with_defs f es ≡ all_with_defs g es
  all_with_same f g end h = refl
  all_with_same f g (more a es) h = let p = with_same f g a (front f g (mentions a) (all_mentions es) h) in let q = all_with_same f g es (back f g (mentions a) (all_mentions es) h) in cc

module _ (defs : List TreeDef) (rank : ℕ → ℕ) (ranks : Ranks defs rank) where
  same_at : (f g : ℕ → Term) (d : ℕ) (o : Option TreeDef) → slice_get defs d ≡ o → ((c : ℕ) → rank c < rank d → f c ≡ g c) → def_at f o ≡ def_at g o
  same_at f g d None e same = refl
  same_at f g d (Some x) e same = with_same f g x.expr (all_map (mentions x.expr) same (ranks.falls d x e))

  steady : (a b d : ℕ) → rank d < a → rank d < b → def_to defs a d ≡ def_to defs b d
  steady zero b d p q = absurd (omega (arith, p))
  steady (suc a) zero d p q = absurd (omega (arith, q))
  steady (suc a) (suc b) d p q = same_at (def_to defs a) (def_to defs b) d (slice_get defs d) refl (λ c below. steady a b c (omega arith) (omega arith))

  there : (xs : List TreeDef) (d : ℕ) (x : TreeDef) → slice_get xs d ≡ Some x → d < length xs
  there [] d x h = absurd (cc)
  there (y ∷ ys) zero x h = omega arith
  there (y ∷ ys) (suc d) x h = let b = there ys d x h in omega arith

  -- a def written out is its expression written out
  pub def_is : (d : ℕ) (x : TreeDef) → slice_get defs d ≡ Some x → written_out defs (def d) ≡ named d (written_out defs x.expr)
  def_is d x e = let b = ranks.below d (there defs d x e) in ap (named d) (steady (length defs) (suc (length defs)) d b (omega (arith, b)) ∙ ap (def_at (def_to defs (length defs))) e)
