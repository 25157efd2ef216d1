-- What a well typed expression mentions and reads is there.
use Rattle.std.proofs.Common.{ℕ, ◌<◌, List, [], ◌∷◌, ◌++◌, length}
use Rattle.std.specs.List.{AllByRecursion}
use Rattle.std.proofs.lemmas.Option.{slice_get_within}
use Rattle.stream_types.specs.declared.scalar.Ty.{Ty}
use Rattle.stream_core.specs.Term.{Term, Terms, lit, extern, stream, def, named, missing, dropped, un, bin, shift, cast, and, or, implies, choose, index, field, array, struct, abs, sign, majority, agreed, lib, end, more}
use Rattle.stream_core.specs.Signature.{Signature}
use Rattle.stream_core.specs.Limits.{mentions, all_mentions}
use Rattle.stream_core.specs.WellTyped.{HasType, HaveTypes}

both : (n : ℕ) (xs ys : List ℕ) → AllByRecursion (λ d. d < n) xs → AllByRecursion (λ d. d < n) ys → AllByRecursion (λ d. d < n) (xs ++ ys)
both n [] ys p q = q
both n (x ∷ xs) ys p q = (p.0, both n xs ys p.1 q)

module _ (sig : Signature) where
  abbrev There : List ℕ → Type 0
  There ds = AllByRecursion (λ d. d < length sig.defs) ds

  mutual
    pub mentioned : (e : Term) (t : Ty) → HasType sig e t → There (mentions e)
    mentioned (lit c w) t h = tt
    mentioned (extern x) t h = tt
    mentioned (stream x) t h = tt
    mentioned (def d) t h = (slice_get_within sig.defs d t h, tt)
    mentioned (named d a) t h = mentioned a t h.1
    mentioned missing t h = tt
    mentioned (dropped x k) t h = tt
    mentioned (un o c a) t h = mentioned a _ h.1
    mentioned (bin o c a b) t h = both (length sig.defs) (mentions a) (mentions b) (mentioned a _ h.1) (mentioned b _ h.2)
    mentioned (shift d c a cs b) t h = both (length sig.defs) (mentions a) (mentions b) (mentioned a _ h.1) (mentioned b _ h.2)
    mentioned (cast f g a) t h = mentioned a _ h.1
    mentioned (and a b) t h = both (length sig.defs) (mentions a) (mentions b) (mentioned a _ h.0) (mentioned b _ h.1)
    mentioned (or a b) t h = both (length sig.defs) (mentions a) (mentions b) (mentioned a _ h.0) (mentioned b _ h.1)
    mentioned (implies a b) t h = both (length sig.defs) (mentions a) (mentions b) (mentioned a _ h.0) (mentioned b _ h.1)
    mentioned (choose c a b) t h = both (length sig.defs) (mentions c) (mentions a ++ mentions b) (mentioned c _ h.0) (both (length sig.defs) (mentions a) (mentions b) (mentioned a t h.1) (mentioned b t h.2))
    mentioned (index of a b) t h = both (length sig.defs) (mentions a) (mentions b) (mentioned a _ h.2) (mentioned b _ h.3)
    mentioned (field of k a) t h = mentioned a _ h.1
    mentioned (array of es) t h = all_mentioned es _ h.3
    mentioned (struct of es) t h = all_mentioned es _ h.2
    mentioned (abs c a) t h = mentioned a _ h.1
    mentioned (sign c a) t h = mentioned a _ h.1
    mentioned (majority c es) t h = all_mentioned es _ h.1
    mentioned (agreed c es) t h = all_mentioned es _ h.1
    mentioned (lib k form es) t h = all_mentioned es _ h.1

    all_mentioned : (es : Terms) (ts : List Ty) → HaveTypes sig es ts → There (all_mentions es)
    all_mentioned end ts h = tt
    all_mentioned (more a es) [] h = absurd h
    all_mentioned (more a es) (t ∷ ts) h = both (length sig.defs) (mentions a) (all_mentions es) (mentioned a t h.0) (all_mentioned es ts h.1)
