-- The parts of a form that can be evaluated can be evaluated.
use Rattle.std.proofs.Common.{◌≡◌, ℕ, ◌<◌, ◌≤◌, Some, refl, ap, ◌∙◌, subst, arith}
use Rattle.std.specs.Prelude.{slice_get}
use Rattle.std.specs.List.{AllByRecursion}
use Rattle.stream_types.specs.declared.scalar.Scalar.{Scalar}
use Rattle.stream_types.specs.declared.scalar.Ty.{Ty}
use Rattle.stream_types.specs.declared.scalar.Ty.TheVariants as ty
use Rattle.stream_core.specs.declared.node.Node.{Node}
use Rattle.stream_core.specs.declared.node.Node.TheVariants as node
use Rattle.stream_core.specs.Acyclic.{WellFounded}
use Rattle.stream_core.specs.Limits.{tree_size}
use Rattle.stream_core.specs.Ordered.{all_parts}
use Rattle.stream_core.specs.Plain.{IsPlain}
use Rattle.stream_core.specs.Signature.{signature_of}
use Rattle.stream_core.specs.Value.{SpecValue}
use Rattle.stream_core.specs.Term.{Term, lit, extern, stream, def, named, missing, dropped, un, bin, shift, cast, and, or, implies, choose, index, field, array, struct, abs, sign, majority, agreed, lib, build, closed, closed_def, tree, trees}
use Rattle.stream_core.specs.WellTyped.{HasType, bool}
use Rattle.stream_core.proofs.NodeSizes.{node_size, parts_there, size, size_is}
use Rattle.stream_interp.specs.Reading.{IsBehind, IsReady, IsReadyForm, NodeHasType, bare}
use Rattle.stream_interp.specs.Room.{room}
use Rattle.stream_interp.proofs.NamedNodes.{bare_plain, behind_same}

-- an expression is as plain as it is behind its names
plain_bare : (e : Term) → IsPlain (bare e) → IsPlain e
plain_bare (named d a) p = plain_bare a p
plain_bare (lit s w) p = p
plain_bare (extern x) p = p
plain_bare (stream s) p = p
plain_bare (def d) p = p
plain_bare missing p = p
plain_bare (dropped s k) p = p
plain_bare (un o s a) p = p
plain_bare (bin o s a b) p = p
plain_bare (shift d s a cs c) p = p
plain_bare (cast g t a) p = p
plain_bare (and a b) p = p
plain_bare (or a b) p = p
plain_bare (implies a b) p = p
plain_bare (choose c a b) p = p
plain_bare (index t a i) p = p
plain_bare (field t m a) p = p
plain_bare (array t es) p = p
plain_bare (struct t es) p = p
plain_bare (abs s a) p = p
plain_bare (sign s a) p = p
plain_bare (majority s es) p = p
plain_bare (agreed s es) p = p
plain_bare (lib k form es) p = p

some_size : (e : Term) → 0 < tree_size e
some_size (named d a) = omega arith
some_size (lit s w) = omega arith
some_size (extern x) = omega arith
some_size (stream s) = omega arith
some_size (def d) = omega arith
some_size missing = omega arith
some_size (dropped s k) = omega arith
some_size (un o s a) = omega arith
some_size (bin o s a b) = omega arith
some_size (shift d s a cs c) = omega arith
some_size (cast g t a) = omega arith
some_size (and a b) = omega arith
some_size (or a b) = omega arith
some_size (implies a b) = omega arith
some_size (choose c a b) = omega arith
some_size (index t a i) = omega arith
some_size (field t m a) = omega arith
some_size (array t es) = omega arith
some_size (struct t es) = omega arith
some_size (abs s a) = omega arith
some_size (sign s a) = omega arith
some_size (majority s es) = omega arith
some_size (agreed s es) = omega arith
some_size (lib k form es) = omega arith

pub node_some_size : (s : SpecValue) (i : ℕ) → 0 < size s i
node_some_size s i = some_size (closed s i)

module _ (s : SpecValue) where
  -- the node behind the names of another
  pub ready_form : WellFounded s → (n i j : ℕ) (form : Node) (t : Ty) → IsBehind s i j → slice_get s.nodes j ≡ Some form
      → closed s j ≡ build s.libs (closed_def s) (closed s) form → tree s.nodes s.libs j ≡ build s.libs def (tree s.nodes s.libs) form
      → AllByRecursion (λ k. k < j) (all_parts s.libs form)
      → NodeHasType s i t → IsPlain (closed s i) → room s.types (closed s i) ≤ n → IsReadyForm s n form t
  ready_form w n i j form t b is e g below typed plain enough =
      let r = behind_same s (room s.types) (λ d a. refl) i j b in
      let r2 = ap (room s.types) e in
      let p : IsPlain (closed s j) = plain_bare (closed s j) (subst IsPlain b.same (bare_plain (closed s i) plain)) in
      record {
        there = parts_there s j form b.there below;
        typed = subst (λ (a : Term). HasType (signature_of (trees s)) a t) g (b.typed t typed);
        plain = subst IsPlain e p;
        enough = omega (arith, r, r2, enough);
      }

  pub no_larger : (i j : ℕ) (form : Node) → IsBehind s i j → closed s j ≡ build s.libs (closed_def s) (closed s) form → node_size s form ≤ size s i
  no_larger i j form b e = let a = b.smaller in let z = size_is s j form e in omega (arith, a, z)

  -- what a value or a weight is, behind names
  pub form_same : {A : Type 0} (f : Term → A) → ((d : ℕ) (a : Term) → f (named d a) ≡ f a) → (i j : ℕ) (form : Node) → IsBehind s i j
      → closed s j ≡ build s.libs (closed_def s) (closed s) form → f (closed s i) ≡ f (build s.libs (closed_def s) (closed s) form)
  form_same f h i j form b e = behind_same s f h i j b ∙ ap f e

  module _ (n : ℕ) (t : Ty) where
    pub un_ready : (form : Node) (o : _) (c : Scalar) (a : ℕ) → form ≡ node.Un o c a → IsReadyForm s n form t → IsReady s n a (ty.Scalar c)
    un_ready form o c a e r = let q = subst (λ f. IsReadyForm s n f t) e r in record { there = q.there.0; typed = q.typed.1; plain = q.plain; enough = q.enough }

    pub cast_ready : (form : Node) (from to : Scalar) (a : ℕ) → form ≡ node.Cast from to a → IsReadyForm s n form t → IsReady s n a (ty.Scalar from)
    cast_ready form from to a e r = let q = subst (λ f. IsReadyForm s n f t) e r in record { there = q.there.0; typed = q.typed.1; plain = q.plain; enough = q.enough }

    pub bin_ready : (form : Node) (o : _) (c : Scalar) (a b : ℕ) → form ≡ node.Bin o c a b → IsReadyForm s n form t → IsReady s n a (ty.Scalar c) × IsReady s n b (ty.Scalar c)
    bin_ready form o c a b e r =
        let q = subst (λ f. IsReadyForm s n f t) e r in
        let enough = q.enough in (
          record { there = q.there.0; typed = q.typed.1; plain = q.plain.0; enough = omega (arith, enough) },
          record { there = q.there.1.0; typed = q.typed.2; plain = q.plain.1; enough = omega (arith, enough) },
        )

    pub shift_ready : (form : Node) (d : _) (c : Scalar) (a : ℕ) (cs : Scalar) (b : ℕ) → form ≡ node.Shift d c a cs b → IsReadyForm s n form t
        → IsReady s n a (ty.Scalar c) × IsReady s n b (ty.Scalar cs)
    shift_ready form d c a cs b e r =
        let q = subst (λ f. IsReadyForm s n f t) e r in
        let enough = q.enough in (
          record { there = q.there.0; typed = q.typed.1; plain = q.plain.0; enough = omega (arith, enough) },
          record { there = q.there.1.0; typed = q.typed.2; plain = q.plain.1; enough = omega (arith, enough) },
        )

    pub and_ready : (form : Node) (a b : ℕ) → form ≡ node.And a b → IsReadyForm s n form t → IsReady s n a bool × IsReady s n b bool
    and_ready form a b e r =
        let q = subst (λ f. IsReadyForm s n f t) e r in
        let enough = q.enough in (
          record { there = q.there.0; typed = q.typed.0; plain = q.plain.0; enough = omega (arith, enough) },
          record { there = q.there.1.0; typed = q.typed.1; plain = q.plain.1; enough = omega (arith, enough) },
        )

    pub or_ready : (form : Node) (a b : ℕ) → form ≡ node.Or a b → IsReadyForm s n form t → IsReady s n a bool × IsReady s n b bool
    or_ready form a b e r =
        let q = subst (λ f. IsReadyForm s n f t) e r in
        let enough = q.enough in (
          record { there = q.there.0; typed = q.typed.0; plain = q.plain.0; enough = omega (arith, enough) },
          record { there = q.there.1.0; typed = q.typed.1; plain = q.plain.1; enough = omega (arith, enough) },
        )

    pub implies_ready : (form : Node) (a b : ℕ) → form ≡ node.Implies a b → IsReadyForm s n form t → IsReady s n a bool × IsReady s n b bool
    implies_ready form a b e r =
        let q = subst (λ f. IsReadyForm s n f t) e r in
        let enough = q.enough in (
          record { there = q.there.0; typed = q.typed.0; plain = q.plain.0; enough = omega (arith, enough) },
          record { there = q.there.1.0; typed = q.typed.1; plain = q.plain.1; enough = omega (arith, enough) },
        )

    pub choose_ready : (form : Node) (c a b : ℕ) → form ≡ node.If c a b → IsReadyForm s n form t → IsReady s n c bool × IsReady s n a t × IsReady s n b t
    choose_ready form c a b e r =
        let q = subst (λ f. IsReadyForm s n f t) e r in
        let enough = q.enough in (
          record { there = q.there.0; typed = q.typed.0; plain = q.plain.0; enough = omega (arith, enough) },
          record { there = q.there.1.0; typed = q.typed.1; plain = q.plain.1; enough = omega (arith, enough) },
          record { there = q.there.1.1.0; typed = q.typed.2; plain = q.plain.2; enough = omega (arith, enough) },
        )
