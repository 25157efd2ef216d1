-- The parts of an expression.
use Rattle.std.specs.Prelude.{List, [], ◌∷◌}
use Rattle.stream_core.specs.Term.{Term, Terms, lit, extern, stream, def, named, missing, dropped, un, bin, shift, cast, and, or, implies, choose, index, field, array, struct, abs, sign, majority, agreed, lib, end, more}

abbrev pub term_list : Terms → List Term
term_list end = []
term_list (more a es) = a ∷ term_list es

-- what an expression is made of, in order
abbrev pub children : Term → List Term
children (lit s w) = []
children (extern x) = []
children (stream x) = []
children (def d) = []
children (named d a) = a ∷ []
children missing = []
children (dropped x k) = []
children (un o s a) = a ∷ []
children (bin o s a b) = a ∷ b ∷ []
children (shift d s a cs b) = a ∷ b ∷ []
children (cast f t a) = a ∷ []
children (and a b) = a ∷ b ∷ []
children (or a b) = a ∷ b ∷ []
children (implies a b) = a ∷ b ∷ []
children (choose c a b) = c ∷ a ∷ b ∷ []
children (index t a i) = a ∷ i ∷ []
children (field t k a) = a ∷ []
children (array t es) = term_list es
children (struct t es) = term_list es
children (abs s a) = a ∷ []
children (sign s a) = a ∷ []
children (majority s es) = term_list es
children (agreed s es) = term_list es
children (lib k form es) = term_list es

abbrev mutual
  -- it holds of an expression, of its parts, of theirs, and so on
  pub EachPart : (Term → Type 0) → Term → Type 0
  EachPart P (lit s w) = P (lit s w)
  EachPart P (extern x) = P (extern x)
  EachPart P (stream x) = P (stream x)
  EachPart P (def d) = P (def d)
  EachPart P (named d a) = P (named d a) × EachPart P a
  EachPart P missing = P missing
  EachPart P (dropped x k) = P (dropped x k)
  EachPart P (un o s a) = P (un o s a) × EachPart P a
  EachPart P (bin o s a b) = P (bin o s a b) × EachPart P a × EachPart P b
  EachPart P (shift d s a cs b) = P (shift d s a cs b) × EachPart P a × EachPart P b
  EachPart P (cast f t a) = P (cast f t a) × EachPart P a
  EachPart P (and a b) = P (and a b) × EachPart P a × EachPart P b
  EachPart P (or a b) = P (or a b) × EachPart P a × EachPart P b
  EachPart P (implies a b) = P (implies a b) × EachPart P a × EachPart P b
  EachPart P (choose c a b) = P (choose c a b) × EachPart P c × EachPart P a × EachPart P b
  EachPart P (index t a i) = P (index t a i) × EachPart P a × EachPart P i
  EachPart P (field t k a) = P (field t k a) × EachPart P a
  EachPart P (array t es) = P (array t es) × EachOf P es
  EachPart P (struct t es) = P (struct t es) × EachOf P es
  EachPart P (abs s a) = P (abs s a) × EachPart P a
  EachPart P (sign s a) = P (sign s a) × EachPart P a
  EachPart P (majority s es) = P (majority s es) × EachOf P es
  EachPart P (agreed s es) = P (agreed s es) × EachOf P es
  EachPart P (lib k form es) = P (lib k form es) × EachOf P es

  pub EachOf : (Term → Type 0) → Terms → Type 0
  EachOf P end = Unit {0}
  EachOf P (more a es) = EachPart P a × EachOf P es
