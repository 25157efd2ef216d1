-- The names of a specification that is read from a text without a fault are good, and the whole is well typed.
use Rattle.std.proofs.Common.{◌≡◌, ℕ, zero, suc, ◌+◌, ◌≤◌, List, [], ◌∷◌, ◌++◌, map, refl, sym, ap, ◌∙◌, subst, arith, inl}
use Rattle.std.specs.Prelude.{◌&&◌, ◌||◌, ◌==◌, slice_get, Some, All}
use Rattle.std.specs.List.{AllByRecursion}
use Rattle.std.proofs.lemmas.Bool.{and_parts}
use Rattle.sm_io.specs.Words.{is_name}
use Rattle.sm_io.proofs.Elements.{all_by_place}
use Rattle.stream_types.specs.declared.scalar.Ty.{Ty}
use Rattle.stream_core.specs.declared.spec.Root.{Root}
use Rattle.stream_core.specs.declared.spec.ExternItem.{ExternItem}
use Rattle.stream_core.specs.declared.spec.StreamItem.{StreamItem}
use Rattle.stream_core.specs.declared.spec.DefItem.{DefItem}
use Rattle.stream_core.specs.declared.spec.TriggerItem.{TriggerItem}
use Rattle.stream_core.specs.declared.spec.ObserverItem.{ObserverItem}
use Rattle.stream_core.specs.declared.spec.LibItem.{LibItem}
use Rattle.stream_core.specs.Value.{SpecValue}
use Rattle.stream_core.specs.Term.{TreeSpec, TreeRoot, TreeStream, TreeDef, TreeTrigger, TreeObserver, tree, tree_root, trees}
use Rattle.stream_core.specs.WellTyped.{IsName, IsStreamName, HasNames, declared_names, argument_types, HasGoodNames, WellTyped}
use Rattle.spec_text.specs.declared.surface.Surface.{Surface}
use Rattle.spec_text.specs.KeepsTable.{all_kept, keeps_decl, keeps_table, KeepsTable}
use Rattle.typed_text.specs.ReadSpec.{extern_names, stream_names, def_names}
use Rattle.typed_text.proofs.Names.{times, times-append, times_some, one_place, observer_names, trigger_names, item_names, by_kinds, declared_once, triggers_apart}
use Rattle.typed_text.proofs.Places.{EachDecl, IsDecl, each_decl}
use Rattle.typed_text.proofs.ItemNames.{extern_names_are, stream_names_are, def_names_are, trigger_names_are, observer_names_are, extern_names_kept, stream_names_kept, def_names_kept, trigger_names_kept, observer_names_kept}
use Rattle.typed_text.proofs.TypeNames.{types_named}
use Rattle.typed_text.proofs.Senders.{sent_tys, triggers_alike}
use Rattle.typed_text.proofs.Faultless.{IsFaultless, IsBuilt}
use Rattle.typed_text.proofs.Whole.{sound_text, spec_read, spec_same, well_typed}

-- ---- lists

mapped : {X Y Z : Type 0} (f : Y → Z) (g : X → Y) (h : X → Z) → ((x : X) → f (g x) ≡ h x) → (xs : List X) → map f (map g xs) ≡ map h xs
mapped f g h e [] = refl
mapped f g h e (x ∷ xs) = ap (λ z. z ∷ map f (map g xs)) (e x) ∙ ap (λ zs. h x ∷ zs) (mapped f g h e xs)

get_mapped : {X Y : Type 0} (f : X → Y) (xs : List X) (i : ℕ) (x : X) → slice_get xs i ≡ Some x → slice_get (map f xs) i ≡ Some (f x)
get_mapped f [] i x h = absurd (cc)
get_mapped f (y ∷ xs) zero x h = let e : y ≡ x = cc in ap (λ z. Some (f z)) e
get_mapped f (y ∷ xs) (suc i) x h = get_mapped f xs i x h

each_named : {X : Type 0} (P : List ℕ → Type 0) (f : X → List ℕ) (xs : List X) → AllByRecursion P (map f xs) → AllByRecursion (λ x. P (f x)) xs
each_named P f [] h = tt
each_named P f (x ∷ xs) h = (h.0, each_named P f xs h.1)

at_place : {X Y : Type 0} (P : Y → Type 0) (f : X → Y) (xs : List X) (i : ℕ) (x : X) → AllByRecursion P (map f xs) → slice_get xs i ≡ Some x → P (f x)
at_place P f [] i x h e = absurd (cc)
at_place P f (y ∷ xs) zero x h e = let q : y ≡ x = cc in subst (λ z. P (f z)) q h.0
at_place P f (y ∷ xs) (suc i) x h e = at_place P f xs i x h.1 e

stream_name : (ls : List LibItem) (n : List ℕ) → IsName n → IsStreamName ls n
stream_name [] n h = inl h
stream_name (l ∷ ls) n h = h

each_stream : (ls : List LibItem) (ns : List (List ℕ)) → AllByRecursion IsName ns → AllByRecursion (IsStreamName ls) ns
each_stream ls [] k = tt
each_stream ls (n ∷ ns) k = (stream_name ls n k.0, each_stream ls ns k.1)

own_name : (s : Surface) → KeepsTable s → IsName s.name
unfolding keeps_table
own_name s k = (and_parts (s.version == 1 || s.version == 2) (is_name s.name) (and_parts ((s.version == 1 || s.version == 2) && is_name s.name) (all_kept (map (keeps_decl s.version) s.decls)) k).0).1

-- ---- names of an arena's items

module _ (s : Surface) (x : SpecValue) (h : IsFaultless s) (b : IsBuilt s x) where
  decls : EachDecl (IsDecl s) [] s.decls
  decls = let t = sound_text s h in each_decl s t.keeps t.names t.typed

  externs_are : map (λ (i : ExternItem). i.name) x.externs ≡ extern_names s.decls
  externs_are = ap (λ (y : TreeSpec). map (λ (i : ExternItem). i.name) y.externs) (b.trees_are ∙ spec_same s) ∙ extern_names_are s [] 0 s.decls

  streams_are : map (λ (i : StreamItem). i.name) x.streams ≡ stream_names s.decls
  streams_are =
      sym (mapped (λ (i : TreeStream). i.name) (λ (i : StreamItem). record { name = i.name; ty = i.ty; init = i.init; expr = tree x.nodes x.libs i.expr; at = i.at }) (λ (i : StreamItem). i.name) (λ i. refl) x.streams)
      ∙ ap (λ (y : TreeSpec). map (λ (i : TreeStream). i.name) y.streams) (b.trees_are ∙ spec_same s) ∙ stream_names_are s [] 0 s.decls

  defs_are : map (λ (i : DefItem). i.name) x.defs ≡ def_names s.decls
  defs_are =
      sym (mapped (λ (i : TreeDef). i.name) (λ (i : DefItem). record { name = i.name; ty = i.ty; expr = tree x.nodes x.libs i.expr; at = i.at }) (λ (i : DefItem). i.name) (λ i. refl) x.defs)
      ∙ ap (λ (y : TreeSpec). map (λ (i : TreeDef). i.name) y.defs) (b.trees_are ∙ spec_same s) ∙ def_names_are s [] 0 s.decls

  abbrev tree_trigger : TriggerItem → TreeTrigger
  tree_trigger i = record { name = i.name; guard = tree_root (tree x.nodes x.libs) i.guard; args = map (tree_root (tree x.nodes x.libs)) i.args }

  triggers_are : map (λ (i : TriggerItem). i.name) x.triggers ≡ trigger_names s.decls
  triggers_are =
      sym (mapped (λ (i : TreeTrigger). i.name) tree_trigger (λ (i : TriggerItem). i.name) (λ i. refl) x.triggers)
      ∙ ap (λ (y : TreeSpec). map (λ (i : TreeTrigger). i.name) y.triggers) (b.trees_are ∙ spec_same s) ∙ trigger_names_are s [] 0 s.decls

  observers_are : map (λ (i : ObserverItem). i.name) x.observers ≡ observer_names s.decls
  observers_are =
      sym (mapped (λ (i : TreeObserver). i.name) (λ (i : ObserverItem). record { name = i.name; root = tree_root (tree x.nodes x.libs) i.root }) (λ (i : ObserverItem). i.name) (λ i. refl) x.observers)
      ∙ ap (λ (y : TreeSpec). map (λ (i : TreeObserver). i.name) y.observers) (b.trees_are ∙ spec_same s) ∙ observer_names_are s [] 0 s.decls

  -- ---- no name twice

  as_often : (n : List ℕ) → times n (declared_names x) ≡ times n (item_names s.decls)
  as_often n =
      let a = map (λ (i : ExternItem). i.name) x.externs in
      let c = map (λ (i : StreamItem). i.name) x.streams in
      let e = map (λ (i : DefItem). i.name) x.defs in
      let o = map (λ (i : ObserverItem). i.name) x.observers in
      let p = times-append n (a ++ c ++ e) o in
      let q = times-append n (a ++ c) e in
      let r = times-append n a c in
      let k = by_kinds n s.decls in
      let ea : times n a ≡ times n (extern_names s.decls) = ap (times n) externs_are in
      let ec : times n c ≡ times n (stream_names s.decls) = ap (times n) streams_are in
      let ee : times n e ≡ times n (def_names s.decls) = ap (times n) defs_are in
      let eo : times n o ≡ times n (observer_names s.decls) = ap (times n) observers_are in
      omega (arith, p, q, r, k, ea, ec, ee, eo)

  apart_from_items : (i j : ℕ) (t : TriggerItem) → slice_get x.triggers i ≡ Some t → slice_get (declared_names x) j ≡ Some t.name → ⊥
  apart_from_items i j t p q =
      let a = times_some t.name (declared_names x) j q in
      let c : slice_get (trigger_names s.decls) i ≡ Some t.name = ap (λ ns. slice_get ns i) (sym triggers_are) ∙ get_mapped (λ (u : TriggerItem). u.name) x.triggers i t p in
      let e = triggers_apart s (sound_text s h).names t.name (times_some t.name (trigger_names s.decls) i c) in
      let o = as_often t.name in
      absurd (omega (arith, a, e, o))

  sent : (i : ℕ) (t : TriggerItem) → slice_get x.triggers i ≡ Some t → argument_types t ≡ sent_tys s t.name
  sent i t p =
      let all = subst (λ (y : TreeSpec). AllByRecursion (λ (u : TreeTrigger). map (λ (r : TreeRoot). r.ty) u.args ≡ sent_tys s u.name) y.triggers) (sym (b.trees_are ∙ spec_same s))
      (triggers_alike s (sound_text s h) h.list decls [] 0 s.decls refl decls) in
      sym (mapped (λ (r : TreeRoot). r.ty) (tree_root (tree x.nodes x.libs)) (λ (r : Root). r.ty) (λ r. refl) t.args)
      ∙ at_place (λ (u : TreeTrigger). map (λ (r : TreeRoot). r.ty) u.args ≡ sent_tys s u.name) tree_trigger x.triggers i t all p

  pub names_good : HasGoodNames x
  names_good = record {
    spec = subst (λ (y : TreeSpec). IsName y.name) (sym (b.trees_are ∙ spec_same s)) (own_name s h.keeps);
    types = subst (λ (y : TreeSpec). All HasNames y.types) (sym (b.trees_are ∙ spec_same s)) (types_named s decls);
    externs = all_by_place (λ (i : ExternItem). IsName i.name) x.externs (each_named IsName (λ (i : ExternItem). i.name) x.externs (subst (AllByRecursion IsName) (sym externs_are) (extern_names_kept s [] s.decls decls)));
    streams = all_by_place (λ (i : StreamItem). IsStreamName x.libs i.name) x.streams
        (each_named (IsStreamName x.libs) (λ (i : StreamItem). i.name) x.streams (each_stream x.libs (map (λ (i : StreamItem). i.name) x.streams) (subst (AllByRecursion IsName) (sym streams_are) (stream_names_kept s [] s.decls decls))));
    defs = all_by_place (λ (i : DefItem). IsName i.name) x.defs (each_named IsName (λ (i : DefItem). i.name) x.defs (subst (AllByRecursion IsName) (sym defs_are) (def_names_kept s [] s.decls decls)));
    triggers = all_by_place (λ (i : TriggerItem). IsName i.name) x.triggers (each_named IsName (λ (i : TriggerItem). i.name) x.triggers (subst (AllByRecursion IsName) (sym triggers_are) (trigger_names_kept s [] s.decls decls)));
    observers = all_by_place (λ (i : ObserverItem). IsName i.name) x.observers (each_named IsName (λ (i : ObserverItem). i.name) x.observers (subst (AllByRecursion IsName) (sym observers_are) (observer_names_kept s [] s.decls decls)));
    once = λ i j n p q. one_place n (declared_names x) i j (subst (λ k. k ≤ 1) (sym (as_often n)) (declared_once s (sound_text s h).names n)) p q;
    apart = apart_from_items;
    alike = λ i j t u p q e. sent i t p ∙ ap (sent_tys s) e ∙ sym (sent j u q);
  }

-- An arena that holds the specification of a text without a fault is well typed.
pub typed_spec_is_well_typed : (s : Surface) (x : SpecValue) → IsFaultless s → IsBuilt s x → WellTyped x
typed_spec_is_well_typed s x h b = well_typed s x h b (names_good s x h b)
