-- The nodes that names stand for.
use Rattle.std.proofs.Common.{◌≡◌, ℕ, ◌<◌, List, length, Some, refl, sym, ap, ◌∙◌, subst, arith}
use Rattle.std.specs.Prelude.{slice_get}
use Rattle.stream_core.specs.declared.node.Node.{Node}
use Rattle.stream_core.specs.declared.node.Node.TheVariants as node
use Rattle.stream_core.specs.declared.spec.DefItem.{DefItem}
use Rattle.stream_core.specs.Limits.{tree_size}
use Rattle.stream_core.specs.Value.{SpecValue}
use Rattle.stream_core.specs.Term.{Term, named, build, closed, closed_def, expr_at}
use Rattle.stream_core.specs.Meaning.{closed_spec}
use Rattle.ring_codegen.specs.Translation.{translated}
use Rattle.ring_codegen.specs.Items.{IsNoDef, expression_of}

pub no_def_of : (n : Node) → ((d : ℕ) → n ≡ node.Def d → ⊥) → IsNoDef n
no_def_of (node.Def d) h = h d refl
no_def_of (node.Lit c w) h = tt
no_def_of (node.Extern x) h = tt
no_def_of (node.Stream x) h = tt
no_def_of (node.Drop x k) h = tt
no_def_of (node.Un o c a) h = tt
no_def_of (node.Bin o c a b) h = tt
no_def_of (node.Shift d c a cs b) h = tt
no_def_of (node.Cast f t a) h = tt
no_def_of (node.And a b) h = tt
no_def_of (node.Or a b) h = tt
no_def_of (node.Implies a b) h = tt
no_def_of (node.If c a b) h = tt
no_def_of (node.Index of a i) h = tt
no_def_of (node.Field of k a) h = tt
no_def_of (node.Array of es) h = tt
no_def_of (node.Record of es) h = tt
no_def_of (node.Abs c a) h = tt
no_def_of (node.Sign c a) h = tt
no_def_of (node.Majority c es) h = tt
no_def_of (node.Agreed c es) h = tt
no_def_of (node.Lib k) h = tt

module _ (s : SpecValue) (i d : ℕ) (x : DefItem) (is : slice_get s.defs d ≡ Some x) (e : closed s i ≡ build s.libs (closed_def s) (closed s) (node.Def d)) where
  def_is : closed s i ≡ named d (closed s x.expr)
  def_is = e ∙ ap (λ o. named d (closed s (expr_at o))) is

  pub def_same : expression_of s x.expr ≡ expression_of s i
  def_same = sym (ap (translated (closed_spec s)) def_is)

  pub def_smaller : tree_size (closed s x.expr) < tree_size (closed s i)
  def_smaller = let z = ap tree_size def_is in omega (arith, z)
