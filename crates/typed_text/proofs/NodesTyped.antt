-- Each node that stands in an expression of a good specification has a type.
use Rattle.std.proofs.Common.{◌≡◌, ◌<◌, ℕ, zero, suc, List, [], ◌∷◌, length, Some, sym, subst}
use Rattle.std.specs.Prelude.{slice_get, All}
use Rattle.std.proofs.lemmas.Option.{slice_get_within, get_or_from_slice_get}
use Rattle.stream_types.specs.declared.scalar.Ty.{Ty}
use Rattle.stream_core.specs.Value.{SpecValue}
use Rattle.stream_core.specs.Term.{Term, TreeSpec, TreeRoot, TreeStream, TreeDef, TreeTrigger, TreeObserver, TreeLib, tree, trees}
use Rattle.stream_core.specs.Signature.{signature_of}
use Rattle.stream_core.specs.WellTyped.{HasType, ListHasTypes, RootHasType, IsGoodStream, IsGoodDef, IsGoodTrigger, IsGoodLib, operand_types}
use Rattle.stream_core.proofs.PartTypes.{Typed, part_typed}
use Rattle.typed_text.specs.InExpressions.{IsExpression, of_stream, of_def, of_guard, of_argument, of_observer, of_form, AreParts}
use Rattle.typed_text.proofs.Whole.{IsGoodSpec}

all_at : {X : Type 0} (P : X → Type 0) (xs : List X) (k : ℕ) (x : X) → All P xs → slice_get xs k ≡ Some x → P x
all_at P xs k x h e = subst P (get_or_from_slice_get xs k x x e) (h k x (slice_get_within xs k x e))

-- one of several expressions that have these types
one_of_list : (x : TreeSpec) (es : List Term) (ts : List Ty) (j : ℕ) (e : Term) → ListHasTypes (signature_of x) es ts → slice_get es j ≡ Some e → Typed (signature_of x) e
one_of_list x [] ts j e h is = absurd (cc)
one_of_list x (a ∷ es) [] j e h is = absurd h
one_of_list x (a ∷ es) (t ∷ ts) zero e h is = let same : a ≡ e = cc in (t, subst (λ (b : Term). HasType (signature_of x) b t) same h.0)
one_of_list x (a ∷ es) (t ∷ ts) (suc j) e h is = one_of_list x es ts j e h.1 is

expression_typed : (x : TreeSpec) → IsGoodSpec x → (e : Term) → IsExpression x e → Typed (signature_of x) e
expression_typed x g e (of_stream i y is) = (y.ty, (all_at (IsGoodStream (signature_of x)) x.streams i y g.streams is).expr)
expression_typed x g e (of_def i y is) = (y.ty, (all_at (IsGoodDef (signature_of x)) x.defs i y g.defs is).expr)
expression_typed x g e (of_guard i y is) = (y.guard.ty, (all_at (IsGoodTrigger (signature_of x)) x.triggers i y g.triggers is).guard)
expression_typed x g e (of_argument i j y r is there) =
    (r.ty, all_at (RootHasType (signature_of x)) y.args j r (all_at (IsGoodTrigger (signature_of x)) x.triggers i y g.triggers is).args there)
expression_typed x g e (of_observer i y is) =
    (y.root.ty, all_at (λ (o : TreeObserver). RootHasType (signature_of x) o.root) x.observers i y g.observers is)
expression_typed x g e (of_form i j y a is there) =
    one_of_list x y.args (operand_types y.form) j a (all_at (IsGoodLib (signature_of x)) x.libs i y g.libs is).args there

pub nodes_typed : (x : SpecValue) → IsGoodSpec (trees x) → AreParts x → (i : ℕ) → i < length x.nodes → (t : Ty) × HasType (signature_of (trees x)) (tree x.nodes x.libs i) t
nodes_typed x g parts i h =
    let p = parts.parts i h in
    let w = expression_typed (trees x) g p.whole p.is in
    part_typed (signature_of (trees x)) (tree x.nodes x.libs i) p.whole w.0 p.part w.1
