-- What the nodes and forms of a well typed specification keep.
use Rattle.std.proofs.Common.{◌≡◌, ℕ, suc, ◌<◌, List, [], ◌∷◌, length, map, Option, Some, None, refl, ap, ◌∙◌, subst, arith}
use Rattle.std.specs.Prelude.{slice_get}
use Rattle.std.specs.List.{AllByRecursion}
use Rattle.std.specs.Option.{option_map}
use Rattle.std.proofs.lemmas.Option.{slice_get-map, slice_get_within, get_or_from_slice_get}
use Rattle.stream_types.specs.declared.scalar.Ty.{Ty}
use Rattle.stream_core.specs.declared.node.Node.{Node}
use Rattle.stream_core.specs.declared.node.Node.TheVariants as node
use Rattle.stream_core.specs.declared.node.LibForm.{LibForm}
use Rattle.stream_core.specs.declared.node.LibForm.TheVariants as form
use Rattle.stream_core.specs.declared.spec.LibItem.{LibItem}
use Rattle.stream_core.specs.Value.{SpecValue}
use Rattle.stream_core.specs.Term.{Term, TreeLib, lib_of, terms_of, tree, trees}
use Rattle.stream_core.specs.Signature.{signature_of}
use Rattle.stream_core.specs.WellTyped.{HasType, IsGoodLib, ListHasTypes, operand_types, terms_length, WellTyped}
use Rattle.stream_core.specs.Weights.{IsGoodNode, IsGoodItem, heavy, heavy_at, operands}
use Rattle.stream_core.proofs.Trees.{tree_of}
use Rattle.stream_core.proofs.Cycles.{node_there, defs_there}

terms_count : (f : ℕ → Term) (is : List ℕ) → terms_length (terms_of f is) ≡ length is
terms_count f [] = refl
terms_count f (i ∷ is) = ap suc (terms_count f is)

item_there : (s : SpecValue) (k : ℕ) (o : Option LibItem) (t : Ty) → slice_get s.libs k ≡ o → HasType (signature_of (trees s)) (lib_of (tree s.nodes s.libs) k o) t → k < length s.libs
item_there s k None t e h = absurd h
item_there s k (Some x) t e h = slice_get_within s.libs k x e

typed_node : (s : SpecValue) → WellTyped s → (i : ℕ) (n : Node) (e : Term) → slice_get s.nodes i ≡ Some n → tree s.nodes s.libs i ≡ e → (t : Ty) × HasType (signature_of (trees s)) e t
typed_node s w i n e there is = let h = w.nodes i (slice_get_within s.nodes i n there) in (h.0, subst (λ x. HasType (signature_of (trees s)) x h.0) is h.1)

pub good_node : (s : SpecValue) → WellTyped s → (i : ℕ) (n : Node) → slice_get s.nodes i ≡ Some n → IsGoodNode s n
good_node s w i (node.Majority c es) e =
    let h = typed_node s w i (node.Majority c es) _ e (tree_of s.nodes s.libs w.ordered i (node.Majority c es) e) in
    let l = terms_count (tree s.nodes s.libs) es in
    let a = h.1.0.0 in
    let b = h.1.0.1 in
    (omega (arith, l, a), omega (arith, l, b))
good_node s w i (node.Agreed c es) e =
    let h = typed_node s w i (node.Agreed c es) _ e (tree_of s.nodes s.libs w.ordered i (node.Agreed c es) e) in
    let l = terms_count (tree s.nodes s.libs) es in
    let a = h.1.0.0 in
    let b = h.1.0.1 in
    (omega (arith, l, a), omega (arith, l, b))
good_node s w i (node.Def d) e = defs_there s w i (node.Def d) e
good_node s w i (node.Lib k) e =
    let h = typed_node s w i (node.Lib k) _ e (tree_of s.nodes s.libs w.ordered i (node.Lib k) e) in
    item_there s k (slice_get s.libs k) h.0 refl h.1
good_node s w i (node.Lit c x) e = tt
good_node s w i (node.Extern x) e = tt
good_node s w i (node.Stream x) e = tt
good_node s w i (node.Drop x k) e = tt
good_node s w i (node.Un o c a) e = tt
good_node s w i (node.Bin o c a b) e = tt
good_node s w i (node.Shift d c a cs b) e = tt
good_node s w i (node.Cast f t a) e = tt
good_node s w i (node.And a b) e = tt
good_node s w i (node.Or a b) e = tt
good_node s w i (node.Implies a b) e = tt
good_node s w i (node.If c a b) e = tt
good_node s w i (node.Index t a b) e = tt
good_node s w i (node.Field t m a) e = tt
good_node s w i (node.Array t es) e = tt
good_node s w i (node.Record t es) e = tt
good_node s w i (node.Abs c a) e = tt
good_node s w i (node.Sign c a) e = tt

-- ---- forms

args_there : (s : SpecValue) → WellTyped s → (is : List ℕ) (ts : List Ty) → ListHasTypes (signature_of (trees s)) (map (tree s.nodes s.libs) is) ts → (length is ≡ length ts) × AllByRecursion (λ j. j < length s.nodes) is
args_there s w [] [] h = (refl, tt)
args_there s w [] (t ∷ ts) h = absurd h
args_there s w (i ∷ is) [] h = absurd h
args_there s w (i ∷ is) (t ∷ ts) h = let r = args_there s w is ts h.1 in (ap suc r.0, (node_there s i t w h.0, r.1))

-- as many operands as the form wants
counted : (s : SpecValue) (f : LibForm) (is : List ℕ) → length is ≡ length (operand_types f) → map (heavy s) is ≡ operands f (heavy_at s (slice_get is 0)) (heavy_at s (slice_get is 1))
counted s form.Once (i ∷ []) e = refl
counted s form.Historically (i ∷ []) e = refl
counted s form.Yesterday (i ∷ []) e = refl
counted s form.WeaklyYesterday (i ∷ []) e = refl
counted s (form.OnceIn low high) (i ∷ []) e = refl
counted s (form.HistoricallyIn low high) (i ∷ []) e = refl
counted s (form.WindowMax n c) (i ∷ []) e = refl
counted s (form.WindowMin n c) (i ∷ []) e = refl
counted s (form.WindowSum n c) (i ∷ []) e = refl
counted s form.Since (i ∷ j ∷ []) e = refl
counted s (form.SinceIn low high) (i ∷ j ∷ []) e = refl
counted s (form.Clock period phase) [] e = refl
counted s form.Once [] e = absurd (omega (arith, e))
counted s form.Once (i ∷ j ∷ is) e = absurd (omega (arith, e))
counted s form.Historically [] e = absurd (omega (arith, e))
counted s form.Historically (i ∷ j ∷ is) e = absurd (omega (arith, e))
counted s form.Yesterday [] e = absurd (omega (arith, e))
counted s form.Yesterday (i ∷ j ∷ is) e = absurd (omega (arith, e))
counted s form.WeaklyYesterday [] e = absurd (omega (arith, e))
counted s form.WeaklyYesterday (i ∷ j ∷ is) e = absurd (omega (arith, e))
counted s (form.OnceIn low high) [] e = absurd (omega (arith, e))
counted s (form.OnceIn low high) (i ∷ j ∷ is) e = absurd (omega (arith, e))
counted s (form.HistoricallyIn low high) [] e = absurd (omega (arith, e))
counted s (form.HistoricallyIn low high) (i ∷ j ∷ is) e = absurd (omega (arith, e))
counted s (form.WindowMax n c) [] e = absurd (omega (arith, e))
counted s (form.WindowMax n c) (i ∷ j ∷ is) e = absurd (omega (arith, e))
counted s (form.WindowMin n c) [] e = absurd (omega (arith, e))
counted s (form.WindowMin n c) (i ∷ j ∷ is) e = absurd (omega (arith, e))
counted s (form.WindowSum n c) [] e = absurd (omega (arith, e))
counted s (form.WindowSum n c) (i ∷ j ∷ is) e = absurd (omega (arith, e))
counted s form.Since [] e = absurd (omega (arith, e))
counted s form.Since (i ∷ []) e = absurd (omega (arith, e))
counted s form.Since (i ∷ j ∷ k ∷ is) e = absurd (omega (arith, e))
counted s (form.SinceIn low high) [] e = absurd (omega (arith, e))
counted s (form.SinceIn low high) (i ∷ []) e = absurd (omega (arith, e))
counted s (form.SinceIn low high) (i ∷ j ∷ k ∷ is) e = absurd (omega (arith, e))
counted s (form.Clock period phase) (i ∷ is) e = absurd (omega (arith, e))

abbrev lib_tree : SpecValue → LibItem → TreeLib
lib_tree s x = record { form = x.form; args = map (tree s.nodes s.libs) x.args; at = x.at }

good_lib : (s : SpecValue) → WellTyped s → (k : ℕ) (x : LibItem) → slice_get s.libs k ≡ Some x → IsGoodLib (signature_of (trees s)) (lib_tree s x)
good_lib s w k x e =
    let at : slice_get (trees s).libs k ≡ Some (lib_tree s x) = slice_get-map (lib_tree s) s.libs k ∙ ap (option_map (lib_tree s)) e in
    let y = lib_tree s x in
    subst (IsGoodLib (signature_of (trees s))) (get_or_from_slice_get (trees s).libs k y y at) (w.libs k y (slice_get_within (trees s).libs k y at))

-- a form has as many operands as it wants
pub args_count : (s : SpecValue) → WellTyped s → (k : ℕ) (x : LibItem) → slice_get s.libs k ≡ Some x → length x.args ≡ length (operand_types x.form)
args_count s w k x e = (args_there s w x.args (operand_types x.form) (good_lib s w k x e).args).0

pub good_item : (s : SpecValue) → WellTyped s → (k : ℕ) (x : LibItem) → slice_get s.libs k ≡ Some x → IsGoodItem s x
good_item s w k x e =
    let good = good_lib s w k x e in
    let r = args_there s w x.args (operand_types x.form) good.args in
    record { form = good.form; weights = counted s x.form x.args r.0; there = r.1 }
