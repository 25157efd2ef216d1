-- What stands within a typed expression is typed.
use Rattle.std.proofs.Common.{◌≡◌, ℕ, zero, suc, List, [], ◌∷◌, Some, subst}
use Rattle.std.specs.Prelude.{slice_get, replicate}
use Rattle.stream_types.specs.declared.scalar.Ty.{Ty}
use Rattle.stream_core.specs.Term.{Term, Terms, lit, extern, stream, def, named, missing, dropped, un, bin, shift, cast, and, or, implies, choose, index, field, array, struct, abs, sign, majority, agreed, lib, end, more}
use Rattle.stream_core.specs.Children.{children, term_list}
use Rattle.stream_core.specs.Signature.{Signature}
use Rattle.stream_core.specs.WellTyped.{HasType, HaveTypes}
use Rattle.stream_core.specs.PartOf.{IsPartOf, the_whole, within}

module _ (sig : Signature) where
  -- some type
  abbrev pub Typed : Term → Type 0
  Typed e = (t : Ty) × HasType sig e t

  found : (a b : Term) (t : Ty) → HasType sig a t → Some a ≡ Some b → Typed b
  found a b t h e = let g : a ≡ b = cc in (t, subst (λ (x : Term). HasType sig x t) g h)

  one_typed : (a : Term) (t : Ty) → HasType sig a t → (i : ℕ) (p : Term) → slice_get (a ∷ []) i ≡ Some p → Typed p
  one_typed a t h zero p e = found a p t h e
  one_typed a t h (suc i) p e = absurd (cc)

  two_typed : (a b : Term) (t u : Ty) → HasType sig a t → HasType sig b u → (i : ℕ) (p : Term) → slice_get (a ∷ b ∷ []) i ≡ Some p → Typed p
  two_typed a b t u h g zero p e = found a p t h e
  two_typed a b t u h g (suc i) p e = one_typed b u g i p e

  list_typed : (es : Terms) (ts : List Ty) → HaveTypes sig es ts → (i : ℕ) (p : Term) → slice_get (term_list es) i ≡ Some p → Typed p
  list_typed end ts h i p e = absurd (cc)
  list_typed (more a es) [] h i p e = absurd h
  list_typed (more a es) (t ∷ ts) h zero p e = found a p t h.0 e
  list_typed (more a es) (t ∷ ts) h (suc i) p e = list_typed es ts h.1 i p e

  pub child_typed : (e : Term) (t : Ty) → HasType sig e t → (i : ℕ) (p : Term) → slice_get (children e) i ≡ Some p → Typed p
  child_typed (lit s w) t h i p e = absurd (cc)
  child_typed (extern x) t h i p e = absurd (cc)
  child_typed (stream x) t h i p e = absurd (cc)
  child_typed (def d) t h i p e = absurd (cc)
  child_typed (named d a) t h i p e = one_typed a t h.1 i p e
  child_typed missing t h i p e = absurd h
  child_typed (dropped x k) t h i p e = absurd (cc)
  child_typed (un o s a) t h i p e = one_typed a _ h.1 i p e
  child_typed (bin o s a b) t h i p e = two_typed a b _ _ h.1 h.2 i p e
  child_typed (shift d s a cs b) t h i p e = two_typed a b _ _ h.1 h.2 i p e
  child_typed (cast f g a) t h i p e = one_typed a _ h.1 i p e
  child_typed (and a b) t h i p e = two_typed a b _ _ h.0 h.1 i p e
  child_typed (or a b) t h i p e = two_typed a b _ _ h.0 h.1 i p e
  child_typed (implies a b) t h i p e = two_typed a b _ _ h.0 h.1 i p e
  child_typed (choose c a b) t h zero p e = found c p _ h.0 e
  child_typed (choose c a b) t h (suc i) p e = two_typed a b _ _ h.1 h.2 i p e
  child_typed (index of a n) t h i p e = two_typed a n _ _ h.2 h.3 i p e
  child_typed (field of k a) t h i p e = one_typed a _ h.1 i p e
  child_typed (array of es) t h i p e = list_typed es _ h.3 i p e
  child_typed (struct of es) t h i p e = list_typed es _ h.2 i p e
  child_typed (abs s a) t h i p e = one_typed a _ h.1 i p e
  child_typed (sign s a) t h i p e = one_typed a _ h.1 i p e
  child_typed (majority s es) t h i p e = list_typed es _ h.1 i p e
  child_typed (agreed s es) t h i p e = list_typed es _ h.1 i p e
  child_typed (lib k form es) t h i p e = list_typed es _ h.1 i p e

  pub part_typed : (p e : Term) (t : Ty) → IsPartOf p e → HasType sig e t → Typed p
  part_typed p e t the_whole h = (t, h)
  part_typed p e t (within i is inner) h = let g = child_typed e t h i _ is in part_typed p _ g.0 inner g.1
