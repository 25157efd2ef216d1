-- Expressions whose defs are written out, and whose library forms are those of a list.
use Rattle.std.specs.Prelude.{ℕ, ◌≡◌, List, slice_get, Some}
use Rattle.stream_core.specs.declared.node.LibForm.{LibForm}
use Rattle.stream_core.specs.Term.{Term, Terms, lit, extern, stream, def, named, missing, dropped, un, bin, shift, cast, and, or, implies, choose, index, field, array, struct, abs, sign, majority, agreed, lib, end, more, TreeLib}

-- form k of the list is this one
pub record IsFormOf (libs : List TreeLib) (k : ℕ) (form : LibForm) : Type 0 where
  pub item : TreeLib
  pub is : slice_get libs k ≡ Some item
  pub form_is : item.form ≡ form

abbrev mutual
  -- each def that is not written out is one of these, and each library form is the one of its number
  pub IsWritten : (ℕ → Type 0) → List TreeLib → Term → Type 0
  IsWritten D libs (lit s w) = Unit {0}
  IsWritten D libs (extern x) = Unit {0}
  IsWritten D libs (stream s) = Unit {0}
  IsWritten D libs (def d) = D d
  IsWritten D libs (named d a) = IsWritten D libs a
  IsWritten D libs missing = Unit {0}
  IsWritten D libs (dropped s k) = Unit {0}
  IsWritten D libs (un o s a) = IsWritten D libs a
  IsWritten D libs (bin o s a b) = IsWritten D libs a × IsWritten D libs b
  IsWritten D libs (shift d s a cs c) = IsWritten D libs a × IsWritten D libs c
  IsWritten D libs (cast f t a) = IsWritten D libs a
  IsWritten D libs (and a b) = IsWritten D libs a × IsWritten D libs b
  IsWritten D libs (or a b) = IsWritten D libs a × IsWritten D libs b
  IsWritten D libs (implies a b) = IsWritten D libs a × IsWritten D libs b
  IsWritten D libs (choose c a b) = IsWritten D libs c × IsWritten D libs a × IsWritten D libs b
  IsWritten D libs (index t a i) = IsWritten D libs a × IsWritten D libs i
  IsWritten D libs (field t k a) = IsWritten D libs a
  IsWritten D libs (array t es) = AreWritten D libs es
  IsWritten D libs (struct t es) = AreWritten D libs es
  IsWritten D libs (abs s a) = IsWritten D libs a
  IsWritten D libs (sign s a) = IsWritten D libs a
  IsWritten D libs (majority s es) = AreWritten D libs es
  IsWritten D libs (agreed s es) = AreWritten D libs es
  IsWritten D libs (lib k form es) = IsFormOf libs k form × AreWritten D libs es

  pub AreWritten : (ℕ → Type 0) → List TreeLib → Terms → Type 0
  AreWritten D libs end = Unit {0}
  AreWritten D libs (more a es) = IsWritten D libs a × AreWritten D libs es

-- no bare def, and each library form is the one of its number
abbrev pub IsWrittenOut : List TreeLib → Term → Type 0
IsWrittenOut libs e = IsWritten (λ d. ⊥) libs e
