-- Induction over expressions by their parts.
use Rattle.std.specs.List.{AllByRecursion}
use Rattle.stream_core.specs.Term.{Term, Terms, lit, extern, stream, def, named, missing, dropped, un, bin, shift, cast, and, or, implies, choose, index, field, array, struct, abs, sign, majority, agreed, lib, end, more}
use Rattle.stream_core.specs.Children.{term_list, children, EachPart, EachOf}

module _ (P : Term → Type 0) where
  module _ (step : (e : Term) → AllByRecursion P (children e) → P e) where
    mutual
      -- what follows for an expression from its parts holds of each
      pub by_children : (e : Term) → P e
      by_children (lit s w) = step (lit s w) tt
      by_children (extern x) = step (extern x) tt
      by_children (stream x) = step (stream x) tt
      by_children (def d) = step (def d) tt
      by_children (named d a) = step (named d a) (by_children a, tt)
      by_children missing = step missing tt
      by_children (dropped x k) = step (dropped x k) tt
      by_children (un o s a) = step (un o s a) (by_children a, tt)
      by_children (bin o s a b) = step (bin o s a b) (by_children a, (by_children b, tt))
      by_children (shift d s a cs b) = step (shift d s a cs b) (by_children a, (by_children b, tt))
      by_children (cast f t a) = step (cast f t a) (by_children a, tt)
      by_children (and a b) = step (and a b) (by_children a, (by_children b, tt))
      by_children (or a b) = step (or a b) (by_children a, (by_children b, tt))
      by_children (implies a b) = step (implies a b) (by_children a, (by_children b, tt))
      by_children (choose c a b) = step (choose c a b) (by_children c, (by_children a, (by_children b, tt)))
      by_children (index t a i) = step (index t a i) (by_children a, (by_children i, tt))
      by_children (field t k a) = step (field t k a) (by_children a, tt)
      by_children (array t es) = step (array t es) (by_all es)
      by_children (struct t es) = step (struct t es) (by_all es)
      by_children (abs s a) = step (abs s a) (by_children a, tt)
      by_children (sign s a) = step (sign s a) (by_children a, tt)
      by_children (majority s es) = step (majority s es) (by_all es)
      by_children (agreed s es) = step (agreed s es) (by_all es)
      by_children (lib k form es) = step (lib k form es) (by_all es)

      by_all : (es : Terms) → AllByRecursion P (term_list es)
      by_all end = tt
      by_all (more a es) = (by_children a, by_all es)

  of_each : (es : Terms) → EachOf P es → AllByRecursion (EachPart P) (term_list es)
  of_each end h = tt
  of_each (more a es) h = (h.0, of_each es h.1)

  in_each : (es : Terms) → AllByRecursion (EachPart P) (term_list es) → EachOf P es
  in_each end h = tt
  in_each (more a es) h = (h.0, in_each es h.1)

  -- what holds of each part holds of the expression, and of each part of a child
  pub of_parts : (e : Term) → EachPart P e → P e × AllByRecursion (EachPart P) (children e)
  of_parts (lit s w) h = (h, tt)
  of_parts (extern x) h = (h, tt)
  of_parts (stream x) h = (h, tt)
  of_parts (def d) h = (h, tt)
  of_parts (named d a) h = (h.0, (h.1, tt))
  of_parts missing h = (h, tt)
  of_parts (dropped x k) h = (h, tt)
  of_parts (un o s a) h = (h.0, (h.1, tt))
  of_parts (bin o s a b) h = (h.0, (h.1, (h.2, tt)))
  of_parts (shift d s a cs b) h = (h.0, (h.1, (h.2, tt)))
  of_parts (cast f t a) h = (h.0, (h.1, tt))
  of_parts (and a b) h = (h.0, (h.1, (h.2, tt)))
  of_parts (or a b) h = (h.0, (h.1, (h.2, tt)))
  of_parts (implies a b) h = (h.0, (h.1, (h.2, tt)))
  of_parts (choose c a b) h = (h.0, (h.1, (h.2, (h.3, tt))))
  of_parts (index t a i) h = (h.0, (h.1, (h.2, tt)))
  of_parts (field t k a) h = (h.0, (h.1, tt))
  of_parts (array t es) h = (h.0, of_each es h.1)
  of_parts (struct t es) h = (h.0, of_each es h.1)
  of_parts (abs s a) h = (h.0, (h.1, tt))
  of_parts (sign s a) h = (h.0, (h.1, tt))
  of_parts (majority s es) h = (h.0, of_each es h.1)
  of_parts (agreed s es) h = (h.0, of_each es h.1)
  of_parts (lib k form es) h = (h.0, of_each es h.1)

  pub in_parts : (e : Term) → P e → AllByRecursion (EachPart P) (children e) → EachPart P e
  in_parts (lit s w) p h = p
  in_parts (extern x) p h = p
  in_parts (stream x) p h = p
  in_parts (def d) p h = p
  in_parts (named d a) p h = (p, h.0)
  in_parts missing p h = p
  in_parts (dropped x k) p h = p
  in_parts (un o s a) p h = (p, h.0)
  in_parts (bin o s a b) p h = (p, h.0, h.1.0)
  in_parts (shift d s a cs b) p h = (p, h.0, h.1.0)
  in_parts (cast f t a) p h = (p, h.0)
  in_parts (and a b) p h = (p, h.0, h.1.0)
  in_parts (or a b) p h = (p, h.0, h.1.0)
  in_parts (implies a b) p h = (p, h.0, h.1.0)
  in_parts (choose c a b) p h = (p, h.0, h.1.0, h.1.1.0)
  in_parts (index t a i) p h = (p, h.0, h.1.0)
  in_parts (field t k a) p h = (p, h.0)
  in_parts (array t es) p h = (p, in_each es h)
  in_parts (struct t es) p h = (p, in_each es h)
  in_parts (abs s a) p h = (p, h.0)
  in_parts (sign s a) p h = (p, h.0)
  in_parts (majority s es) p h = (p, in_each es h)
  in_parts (agreed s es) p h = (p, in_each es h)
  in_parts (lib k form es) p h = (p, in_each es h)
