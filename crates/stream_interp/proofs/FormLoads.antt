-- What each form weighs and its size, by those of its parts.
use Rattle.std.proofs.Common.{◌≡◌, ℕ, ◌+◌, List, [], ◌∷◌, refl, ap, ◌∙◌}
use Rattle.stream_types.specs.declared.scalar.Dir.{Dir}
use Rattle.stream_types.specs.declared.scalar.Op1.{Op1}
use Rattle.stream_types.specs.declared.scalar.Op2.{Op2}
use Rattle.stream_types.specs.declared.scalar.Scalar.{Scalar}
use Rattle.stream_types.specs.declared.scalar.Ty.{Ty}
use Rattle.stream_core.specs.declared.node.Node.{Node}
use Rattle.stream_core.specs.declared.node.Node.TheVariants as node
use Rattle.stream_core.specs.Term.{build, closed, closed_def, terms_of}
use Rattle.stream_core.specs.Value.{SpecValue}
use Rattle.stream_core.specs.Weights.{heavy, loaded, loads, nodes_weight, total}
use Rattle.stream_core.proofs.NodeSizes.{all_sizes, array_size, node_size, size}

module _ (s : SpecValue) where
  abbrev pub load : Node → ℕ
  load form = loaded (build s.libs (closed_def s) (closed s) form)

  pub lit_load : (form : Node) (c : Scalar) (w : ℕ) → form ≡ node.Lit c w → load form ≡ 1
  lit_load form c w e = ap load e

  pub extern_load : (form : Node) (x : ℕ) → form ≡ node.Extern x → load form ≡ 1
  extern_load form x e = ap load e

  pub stream_load : (form : Node) (x : ℕ) → form ≡ node.Stream x → load form ≡ 1
  stream_load form x e = ap load e

  pub drop_load : (form : Node) (x k : ℕ) → form ≡ node.Drop x k → load form ≡ 1
  drop_load form x k e = ap load e

  pub un_load : (form : Node) (o : Op1) (c : Scalar) (a : ℕ) → form ≡ node.Un o c a → load form ≡ 1 + heavy s a
  un_load form o c a e = ap load e

  pub un_size : (form : Node) (o : Op1) (c : Scalar) (a : ℕ) → form ≡ node.Un o c a → node_size s form ≡ 1 + size s a
  un_size form o c a e = ap (node_size s) e

  pub bin_load : (form : Node) (o : Op2) (c : Scalar) (a b : ℕ) → form ≡ node.Bin o c a b → load form ≡ 1 + heavy s a + heavy s b
  bin_load form o c a b e = ap load e

  pub bin_size : (form : Node) (o : Op2) (c : Scalar) (a b : ℕ) → form ≡ node.Bin o c a b → node_size s form ≡ 1 + size s a + size s b
  bin_size form o c a b e = ap (node_size s) e

  pub shift_load : (form : Node) (d : Dir) (c : Scalar) (a : ℕ) (cs : Scalar) (b : ℕ) → form ≡ node.Shift d c a cs b → load form ≡ 1 + heavy s a + heavy s b
  shift_load form d c a cs b e = ap load e

  pub shift_size : (form : Node) (d : Dir) (c : Scalar) (a : ℕ) (cs : Scalar) (b : ℕ) → form ≡ node.Shift d c a cs b → node_size s form ≡ 1 + size s a + size s b
  shift_size form d c a cs b e = ap (node_size s) e

  pub cast_load : (form : Node) (from to : Scalar) (a : ℕ) → form ≡ node.Cast from to a → load form ≡ 1 + heavy s a
  cast_load form from to a e = ap load e

  pub cast_size : (form : Node) (from to : Scalar) (a : ℕ) → form ≡ node.Cast from to a → node_size s form ≡ 1 + size s a
  cast_size form from to a e = ap (node_size s) e

  pub and_load : (form : Node) (a b : ℕ) → form ≡ node.And a b → load form ≡ 1 + heavy s a + heavy s b
  and_load form a b e = ap load e

  pub and_size : (form : Node) (a b : ℕ) → form ≡ node.And a b → node_size s form ≡ 1 + size s a + size s b
  and_size form a b e = ap (node_size s) e

  pub or_load : (form : Node) (a b : ℕ) → form ≡ node.Or a b → load form ≡ 1 + heavy s a + heavy s b
  or_load form a b e = ap load e

  pub or_size : (form : Node) (a b : ℕ) → form ≡ node.Or a b → node_size s form ≡ 1 + size s a + size s b
  or_size form a b e = ap (node_size s) e

  pub implies_load : (form : Node) (a b : ℕ) → form ≡ node.Implies a b → load form ≡ 1 + heavy s a + heavy s b
  implies_load form a b e = ap load e

  pub implies_size : (form : Node) (a b : ℕ) → form ≡ node.Implies a b → node_size s form ≡ 1 + size s a + size s b
  implies_size form a b e = ap (node_size s) e

  pub if_load : (form : Node) (c a b : ℕ) → form ≡ node.If c a b → load form ≡ 1 + heavy s c + heavy s a + heavy s b
  if_load form c a b e = ap load e

  pub if_size : (form : Node) (c a b : ℕ) → form ≡ node.If c a b → node_size s form ≡ 1 + size s c + size s a + size s b
  if_size form c a b e = ap (node_size s) e

  pub index_load : (form : Node) (of : Ty) (a i : ℕ) → form ≡ node.Index of a i → load form ≡ 1 + heavy s a + heavy s i
  index_load form of a i e = ap load e

  pub index_size : (form : Node) (of : Ty) (a i : ℕ) → form ≡ node.Index of a i → node_size s form ≡ 1 + size s a + size s i
  index_size form of a i e = ap (node_size s) e

  pub field_load : (form : Node) (of : Ty) (k a : ℕ) → form ≡ node.Field of k a → load form ≡ 1 + heavy s a
  field_load form of k a e = ap load e

  pub field_size : (form : Node) (of : Ty) (k a : ℕ) → form ≡ node.Field of k a → node_size s form ≡ 1 + size s a
  field_size form of k a e = ap (node_size s) e

  total_of : (is : List ℕ) → total (loads (terms_of (closed s) is)) ≡ nodes_weight s is
  total_of [] = refl
  total_of (i ∷ is) = ap (λ n. heavy s i + n) (total_of is)

  pub array_load : (form : Node) (of : Ty) (is : List ℕ) → form ≡ node.Array of is → load form ≡ 1 + nodes_weight s is
  array_load form of is e = ap load e ∙ ap (λ n. 1 + n) (total_of is)

  pub struct_load : (form : Node) (of : Ty) (is : List ℕ) → form ≡ node.Record of is → load form ≡ 1 + nodes_weight s is
  struct_load form of is e = ap load e ∙ ap (λ n. 1 + n) (total_of is)

  pub elements_size : (form : Node) (of : Ty) (is : List ℕ) → form ≡ node.Array of is → node_size s form ≡ 1 + all_sizes s is
  elements_size form of is e = ap (node_size s) e ∙ array_size s (node.Array of is) is refl

  pub members_size : (form : Node) (of : Ty) (is : List ℕ) → form ≡ node.Record of is → node_size s form ≡ 1 + all_sizes s is
  members_size form of is e = ap (node_size s) e ∙ array_size s (node.Record of is) is refl
