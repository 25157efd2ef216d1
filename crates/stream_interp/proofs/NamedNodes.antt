-- The nodes that names stand for.
use Rattle.std.proofs.Common.{◌≡◌, ℕ, ◌<◌, length, Some, refl, sym, ap, ◌∙◌, subst, arith}
use Rattle.std.specs.Prelude.{slice_get}
use Rattle.std.proofs.lemmas.Option.{get_or_from_slice_get, slice_get_within}
use Rattle.stream_types.specs.declared.scalar.Ty.{Ty}
use Rattle.stream_core.specs.declared.node.Node.{Node}
use Rattle.stream_core.specs.declared.node.Node.TheVariants as node
use Rattle.stream_core.specs.declared.spec.DefItem.{DefItem}
use Rattle.stream_core.specs.Limits.{tree_size}
use Rattle.stream_core.specs.Plain.{IsPlain}
use Rattle.stream_core.specs.Value.{SpecValue}
use Rattle.stream_core.specs.Term.{Term, TreeDef, lit, extern, stream, def, named, missing, dropped, un, bin, shift, cast, and, or, implies, choose, index, field, array, struct, abs, sign, majority, agreed, lib, build, closed, closed_def, expr_at, tree, tree_def, trees}
use Rattle.stream_core.specs.Signature.{signature_of}
use Rattle.stream_core.specs.WellTyped.{HasType, IsGoodDef, WellTyped}
use Rattle.stream_core.proofs.Signatures.{from_mapped}
use Rattle.stream_interp.specs.Reading.{IsBehind, IsNoDef, NodeHasType, bare}

-- what does not see names is the same behind them
pub bare_same : {A : Type 0} (f : Term → A) → ((d : ℕ) (a : Term) → f (named d a) ≡ f a) → (e : Term) → f (bare e) ≡ f e
bare_same f h (named d a) = bare_same f h a ∙ sym (h d a)
bare_same f h (lit s w) = refl
bare_same f h (extern x) = refl
bare_same f h (stream s) = refl
bare_same f h (def d) = refl
bare_same f h missing = refl
bare_same f h (dropped s k) = refl
bare_same f h (un o s a) = refl
bare_same f h (bin o s a b) = refl
bare_same f h (shift d s a cs c) = refl
bare_same f h (cast g t a) = refl
bare_same f h (and a b) = refl
bare_same f h (or a b) = refl
bare_same f h (implies a b) = refl
bare_same f h (choose c a b) = refl
bare_same f h (index t a i) = refl
bare_same f h (field t m a) = refl
bare_same f h (array t es) = refl
bare_same f h (struct t es) = refl
bare_same f h (abs s a) = refl
bare_same f h (sign s a) = refl
bare_same f h (majority s es) = refl
bare_same f h (agreed s es) = refl
bare_same f h (lib k form es) = refl

pub bare_plain : (e : Term) → IsPlain e → IsPlain (bare e)
bare_plain (named d a) p = bare_plain a p
bare_plain (lit s w) p = p
bare_plain (extern x) p = p
bare_plain (stream s) p = p
bare_plain (def d) p = p
bare_plain missing p = p
bare_plain (dropped s k) p = p
bare_plain (un o s a) p = p
bare_plain (bin o s a b) p = p
bare_plain (shift d s a cs c) p = p
bare_plain (cast g t a) p = p
bare_plain (and a b) p = p
bare_plain (or a b) p = p
bare_plain (implies a b) p = p
bare_plain (choose c a b) p = p
bare_plain (index t a i) p = p
bare_plain (field t m a) p = p
bare_plain (array t es) p = p
bare_plain (struct t es) p = p
bare_plain (abs s a) p = p
bare_plain (sign s a) p = p
bare_plain (majority s es) p = p
bare_plain (agreed s es) p = p
bare_plain (lib k form es) p = p

pub no_def_of : (n : Node) → ((d : ℕ) → n ≡ node.Def d → ⊥) → IsNoDef n
no_def_of (node.Def d) h = h d refl
no_def_of (node.Lit c w) h = tt
no_def_of (node.Extern x) h = tt
no_def_of (node.Stream x) h = tt
no_def_of (node.Drop x k) h = tt
no_def_of (node.Un o c a) h = tt
no_def_of (node.Bin o c a b) h = tt
no_def_of (node.Shift d c a cs b) h = tt
no_def_of (node.Cast f t a) h = tt
no_def_of (node.And a b) h = tt
no_def_of (node.Or a b) h = tt
no_def_of (node.Implies a b) h = tt
no_def_of (node.If c a b) h = tt
no_def_of (node.Index of a i) h = tt
no_def_of (node.Field of k a) h = tt
no_def_of (node.Array of es) h = tt
no_def_of (node.Record of es) h = tt
no_def_of (node.Abs c a) h = tt
no_def_of (node.Sign c a) h = tt
no_def_of (node.Majority c es) h = tt
no_def_of (node.Agreed c es) h = tt
no_def_of (node.Lib k) h = tt

module _ (s : SpecValue) where
  pub behind_same : {A : Type 0} (f : Term → A) → ((d : ℕ) (a : Term) → f (named d a) ≡ f a) → (i j : ℕ) → IsBehind s i j → f (closed s i) ≡ f (closed s j)
  behind_same f h i j b = sym (bare_same f h (closed s i)) ∙ ap f b.same ∙ bare_same f h (closed s j)

  pub behind_itself : (i : ℕ) → i < length s.nodes → IsBehind s i i
  behind_itself i h = record { there = h; same = refl; typed = λ t g. g; smaller = omega arith }

  pub behind_behind : (i j k : ℕ) → IsBehind s i j → IsBehind s j k → IsBehind s i k
  behind_behind i j k a b =
      let x = a.smaller in
      let y = b.smaller in
      record { there = b.there; same = a.same ∙ b.same; typed = λ t g. b.typed t (a.typed t g); smaller = omega (arith, x, y) }

  def_typed : WellTyped s → (d : ℕ) (x : DefItem) → slice_get s.defs d ≡ Some x → (t : Ty) → HasType (signature_of (trees s)) (def d) t → NodeHasType s x.expr t
  def_typed w d x is t h =
      let typed_is = from_mapped (λ (y : TreeDef). y.ty) (trees s).defs d t h in
      let item_is = from_mapped (tree_def (tree s.nodes s.libs)) s.defs d typed_is.0 typed_is.1 in
      let same : item_is.0 ≡ x = (let a = item_is.1 in cc) in
      let y : TreeDef = tree_def (tree s.nodes s.libs) x in
      let y_is : typed_is.0 ≡ y = sym item_is.2 ∙ ap (tree_def (tree s.nodes s.libs)) same in
      let there : slice_get (trees s).defs d ≡ Some y = typed_is.1 ∙ ap Some y_is in
      let good : IsGoodDef (signature_of (trees s)) y = subst (IsGoodDef (signature_of (trees s))) (get_or_from_slice_get (trees s).defs d y y there) (w.defs d y (slice_get_within (trees s).defs d y there)) in
      subst (λ u. NodeHasType s x.expr u) (sym (ap (λ (z : TreeDef). z.ty) y_is) ∙ typed_is.2) good.expr

  -- the expression of the def that a node names
  pub def_behind : WellTyped s → (i d : ℕ) (x : DefItem) → slice_get s.defs d ≡ Some x → x.expr < length s.nodes
      → closed s i ≡ build s.libs (closed_def s) (closed s) (node.Def d) → tree s.nodes s.libs i ≡ build s.libs def (tree s.nodes s.libs) (node.Def d)
      → IsBehind s i x.expr × (tree_size (closed s x.expr) < tree_size (closed s i))
  def_behind w i d x is there e t =
      let e2 : closed s i ≡ named d (closed s x.expr) = e ∙ ap (λ o. named d (closed s (expr_at o))) is in
      let z = ap tree_size e2 in
      (record { there = there; same = ap bare e2; typed = λ u h. def_typed w d x is u (subst (λ (a : Term). HasType (signature_of (trees s)) a u) t h); smaller = omega (arith, z) }, omega (arith, z))
