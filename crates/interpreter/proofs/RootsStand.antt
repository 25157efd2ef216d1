-- The types of a well typed specification's externs, arguments and observers stand in its list.
use Rattle.std.proofs.Common.{◌≡◌, ℕ, zero, suc, ◌<◌, List, [], ◌∷◌, ◌++◌, ◌+◌, length, map, take, get_or, Some, sym, ap, ◌∙◌, subst, append-nil}
use Rattle.std.specs.Prelude.{All, slice_get}
use Rattle.std.specs.List.{AllByRecursion, flat_map}
use Rattle.std.proofs.lemmas.Grind.{flat_map-append}
use Rattle.std.proofs.lemmas.List.{take_more}
use Rattle.std.proofs.lemmas.List.Concat.{flat_map-cons}
use Rattle.std.specs.Option.{option_map}
use Rattle.std.proofs.lemmas.Option.{slice_get-get_or, slice_get-map}
use Rattle.sm_io.proofs.Elements.{all_by_place}
use Rattle.stream_types.specs.TypeList.{Stands}
use Rattle.stream_core.specs.declared.spec.ExternItem.{ExternItem}
use Rattle.stream_core.specs.declared.spec.Root.{Root}
use Rattle.stream_core.specs.declared.spec.TriggerItem.{TriggerItem}
use Rattle.stream_core.specs.declared.spec.ObserverItem.{ObserverItem}
use Rattle.stream_core.specs.Value.{SpecValue}
use Rattle.stream_core.specs.Term.{TreeObserver, TreeRoot, TreeTrigger, tree, tree_root, trees}
use Rattle.stream_core.specs.Signature.{signature_of}
use Rattle.stream_core.specs.WellTyped.{IsGoodTrigger, RootHasType, WellTyped}
use Rattle.form_laws.proofs.PlainForms.{each_of}
use Rattle.stream_interp.proofs.TypedStands.{typed_stands}

-- an element by its place
pub there : {X : Type 0} (xs ys : List X) (i : ℕ) (x : X) → ys ≡ xs → x ≡ get_or ys i x → i < length ys → slice_get xs i ≡ Some x
there xs ys i x e is less = ap (λ (zs : List _). slice_get zs i) (sym e) ∙ slice_get-get_or ys i x less ∙ ap Some (sym is)

pub at_place : {X : Type 0} (P : X → Type 0) (xs : List X) → AllByRecursion P xs → (i : ℕ) (x : X) → slice_get xs i ≡ Some x → P x
at_place P [] h i x e = absurd (cc)
at_place P (y ∷ xs) h zero x e = subst P (cc) h.0
at_place P (y ∷ xs) h (suc i) x e = at_place P xs h.1 i x e

pub of_all : {X : Type 0} (P : X → Type 0) (xs : List X) → All P xs → (i : ℕ) (x : X) → slice_get xs i ≡ Some x → P x
of_all P xs h i x e = at_place P xs (each_of P xs h) i x e

module _ (s : SpecValue) (w : WellTyped s) where
  abbrev root_tree : Root → TreeRoot
  root_tree r = tree_root (tree s.nodes s.libs) r

  pub extern_stands : (i : ℕ) (x : ExternItem) → slice_get s.externs i ≡ Some x → Stands s.types x.ty
  extern_stands i x e = of_all (λ (y : ExternItem). Stands s.types y.ty) s.externs w.externs i x e

  roots_stand : (rs : List Root) → AllByRecursion (RootHasType (signature_of (trees s))) (map root_tree rs) → AllByRecursion (λ (r : Root). Stands s.types r.ty) rs
  roots_stand [] h = tt
  roots_stand (r ∷ rs) h = (typed_stands s w (root_tree r).expr r.ty h.0, roots_stand rs h.1)

  abbrev trigger_tree : TriggerItem → TreeTrigger
  trigger_tree x = record { name = x.name; guard = root_tree x.guard; args = map root_tree x.args }

  pub args_stand : (i : ℕ) (x : TriggerItem) → slice_get s.triggers i ≡ Some x → All (λ (r : Root). Stands s.types r.ty) x.args
  args_stand i x e =
      let good = of_all (IsGoodTrigger (signature_of (trees s))) (trees s).triggers w.triggers i (trigger_tree x)
      (slice_get-map trigger_tree s.triggers i ∙ ap (option_map trigger_tree) e) in
      all_by_place (λ (r : Root). Stands s.types r.ty) x.args (roots_stand x.args (each_of (RootHasType (signature_of (trees s))) (map root_tree x.args) good.args))

  abbrev observer_tree : ObserverItem → TreeObserver
  observer_tree x = record { name = x.name; root = root_tree x.root }

  pub watched_stands : (i : ℕ) (x : ObserverItem) → slice_get s.observers i ≡ Some x → Stands s.types x.root.ty
  watched_stands i x e =
      typed_stands s w (root_tree x.root).expr x.root.ty
      (of_all (λ (y : TreeObserver). RootHasType (signature_of (trees s)) y.root) (trees s).observers w.observers i (observer_tree x)
      (slice_get-map observer_tree s.observers i ∙ ap (option_map observer_tree) e))

-- one element more of a list, mapped and joined
pub flat_next : {X A : Type 0} (f : X → List A) (xs : List X) (i : ℕ) (x : X) → i < length xs → x ≡ get_or xs i x → flat_map f (take (i + 1) xs) ≡ flat_map f (take i xs) ++ f x
flat_next f xs i x low is =
    ap (flat_map f) (take_more xs i x low ∙ ap (λ y. take i xs ++ y ∷ []) (sym is))
    ∙ flat_map-append f (take i xs) (x ∷ [])
    ∙ ap (λ ys. flat_map f (take i xs) ++ ys) (flat_map-cons f x [] ∙ append-nil (f x))
