-- The translation of a plain specification that is well typed makes the specification's calls.
use Rattle.std.proofs.Common.{◌≡◌, ℕ, suc, ◌+◌, List, [], ◌∷◌, ◌++◌, length, map, Some, refl, sym, ap, ◌∙◌, subst, arith}
use Rattle.std.specs.Prelude.{slice_get}
use Rattle.std.specs.Option.{option_map}
use Rattle.std.specs.List.{AllByRecursion}
use Rattle.std.proofs.lemmas.Option.{slice_get-map}
use Rattle.sm_io.proofs.Elements.{get_front}
use Rattle.stream_types.specs.declared.scalar.Ty.{Ty}
use Rattle.stream_types.specs.declared.types.TypeEntry.{TypeEntry}
use Rattle.stream_types.specs.declared.types.TypeEntry.TheVariants as entry
use Rattle.stream_core.specs.declared.spec.Root.{Root}
use Rattle.stream_core.specs.declared.spec.ExternItem.{ExternItem}
use Rattle.stream_core.specs.declared.spec.StreamItem.{StreamItem}
use Rattle.stream_core.specs.declared.spec.DefItem.{DefItem}
use Rattle.stream_core.specs.declared.spec.TriggerItem.{TriggerItem}
use Rattle.stream_core.specs.declared.spec.ObserverItem.{ObserverItem}
use Rattle.stream_core.specs.Value.{SpecValue}
use Rattle.stream_core.specs.Term.{Term, TreeSpec, TreeStream, TreeTrigger, TreeRoot, TreeLib, tree, tree_root, root_with, trees, written_out, defs_of}
use Rattle.stream_core.specs.Signature.{signature_of}
use Rattle.stream_core.specs.WellTyped.{HasType, HasNames, IsGoodStream, IsGoodTrigger, RootHasType, WellTyped, declared_names}
use Rattle.stream_core.specs.WrittenOut.{IsWrittenOut}
use Rattle.stream_core.specs.Plain.{IsPlain, IsPlainTrigger, IsPlainSpec}
use Rattle.stream_core.specs.Soundness.{HasNoCycle}
use Rattle.stream_core.specs.TypedParts.{HasTypedParts}
use Rattle.stream_core.specs.Meaning.{closed_spec}
use Rattle.stream_core.proofs.Roots.{acyclic}
use Rattle.stream_core.proofs.ClosedTypes.{node_out}
use Rattle.stream_core.proofs.Extended.{typed_parts, parts_stay}
use Rattle.stream_core.proofs.PlainDefs.{plain_stays}
use Rattle.c99_tree.proofs.LookedUp.{all_at}
use Rattle.ring_codegen.specs.Simulation.{MakesSameCalls}
use Rattle.ring_codegen.specs.Translation.{translation}
use Rattle.ring_codegen.specs.Standing.{IsNamedOnce, HasStructName, IsRingLong, IsTranslatable, IsTranslated, IsTriggerTranslated, IsProgramOf, HasSteps}
use Rattle.ring_codegen.proofs.Listing.{by_recursion, by_get, each_two}
use Rattle.ring_codegen.proofs.NamedOnce.{from_map, once_map}
use Rattle.ring_codegen.proofs.OperatorPremises.{OperatorTypes, OperatorWords}
use Rattle.ring_codegen.proofs.RunWhole.{same_calls}

-- the translation is a program of its specification
pub program_is : (spec : TreeSpec) (name : List ℕ) → IsProgramOf spec (translation spec name)
program_is spec name = record { declares = record { types = refl; externs = refl; rings = refl }; handlers = refl; step = refl }

get_later : {A : Type 0} (xs ys : List A) (i : ℕ) (y : A) → slice_get ys i ≡ Some y → slice_get (xs ++ ys) (length xs + i) ≡ Some y
get_later [] ys i y e = let z : i ≡ 0 + i = omega arith in subst (λ (k : ℕ). slice_get ys k ≡ Some y) z e
get_later (x ∷ xs) ys i y e = let z : suc (length xs + i) ≡ length (x ∷ xs) + i = omega arith in subst (λ (k : ℕ). slice_get (x ∷ (xs ++ ys)) k ≡ Some y) z (get_later xs ys i y e)

struct_name_is : (e : TypeEntry) → HasNames e → HasStructName e
struct_name_is (entry.Array elem n) h = tt
struct_name_is (entry.Struct name fields) h = h.0

module _ (s : SpecValue) (w : WellTyped s) (plain : IsPlainSpec (trees s)) (none : HasNoCycle (defs_of s)) where
  abbrev spec : TreeSpec
  spec = closed_spec s

  abbrev at : ℕ → Term
  at i = tree s.nodes s.libs i

  abbrev out : Term → Term
  out e = written_out (trees s).defs e

  parts : HasTypedParts spec
  parts = parts_stay (trees s) (typed_parts s w)

  plain_out : IsPlainSpec spec
  plain_out = plain_stays (trees s) plain

  no_libs : spec.libs ≡ []
  no_libs = plain_out.libs

  written : (i : ℕ) (t : Ty) → HasType (signature_of (trees s)) (at i) t → IsWrittenOut [] (out (at i))
  written i t h = subst (λ (libs : List TreeLib). IsWrittenOut libs (out (at i))) no_libs (node_out s w (acyclic s w none) i t h)

  -- ---- names

  name_at : {A : Type 0} (name : A → List ℕ) (xs : List A) (i : ℕ) (x : A) → slice_get xs i ≡ Some x → slice_get (map name xs) i ≡ Some (name x)
  name_at name xs i x e = slice_get-map name xs i ∙ ap (option_map name) e

  abbrev stream_names : List (List ℕ)
  stream_names = map (λ (x : StreamItem). x.name) s.streams

  abbrev def_names : List (List ℕ)
  def_names = map (λ (x : DefItem). x.name) s.defs

  abbrev observer_names : List (List ℕ)
  observer_names = map (λ (x : ObserverItem). x.name) s.observers

  abbrev extern_names : List (List ℕ)
  extern_names = map (λ (x : ExternItem). x.name) s.externs

  extern_declared : (i : ℕ) (x : ExternItem) → slice_get s.externs i ≡ Some x → slice_get (declared_names s) i ≡ Some x.name
  extern_declared i x e =
      get_front (extern_names ++ stream_names ++ def_names) observer_names i x.name (get_front (extern_names ++ stream_names) def_names i x.name
      (get_front extern_names stream_names i x.name (name_at (λ (y : ExternItem). y.name) s.externs i x e)))

  stream_declared : (i : ℕ) (x : StreamItem) → slice_get s.streams i ≡ Some x → slice_get (declared_names s) (length extern_names + i) ≡ Some x.name
  stream_declared i x e =
      get_front (extern_names ++ stream_names ++ def_names) observer_names (length extern_names + i) x.name (get_front (extern_names ++ stream_names) def_names (length extern_names + i) x.name
      (get_later extern_names stream_names i x.name (name_at (λ (y : StreamItem). y.name) s.streams i x e)))

  externs_once : IsNamedOnce (λ (x : ExternItem). x.name) s.externs
  externs_once i j x y e f g = w.names.once i j y.name (extern_declared i x e ∙ ap (λ (n : List ℕ). Some n) g) (extern_declared j y f)

  items_once : IsNamedOnce (λ (x : StreamItem). x.name) s.streams
  items_once i j x y e f g =
      let same = w.names.once (length extern_names + i) (length extern_names + j) y.name (stream_declared i x e ∙ ap (λ (n : List ℕ). Some n) g) (stream_declared j y f) in
      omega (arith, same)

  abbrev tree_stream : StreamItem → TreeStream
  tree_stream x = record { name = x.name; ty = x.ty; init = x.init; expr = at x.expr; at = x.at }

  abbrev closed_stream : TreeStream → TreeStream
  closed_stream x = record x { expr = out x.expr }

  streams_once : IsNamedOnce (λ (x : TreeStream). x.name) spec.streams
  streams_once =
      once_map closed_stream (λ (x : TreeStream). x.name) (λ (x : TreeStream). x.name) (λ x. refl) (trees s).streams
      (once_map tree_stream (λ (x : StreamItem). x.name) (λ (x : TreeStream). x.name) (λ x. refl) s.streams items_once)

  ring_long : (x : TreeStream) → IsGoodStream (signature_of spec) x → IsRingLong spec.types x
  ring_long x h = record { stands = h.stands; some = h.initial.some; most = h.initial.most; initial = h.initial.values }

  translatable : IsTranslatable spec
  translatable = record {
    types = w.types;
    structs = λ k d b. struct_name_is _ (w.names.types k d b);
    externs = externs_once;
    streams = streams_once;
    standing = w.externs;
    long = λ k d b. ring_long _ (parts.streams k d b);
  }

  -- ---- expressions

  stream_written : (i : ℕ) (x : TreeStream) → slice_get spec.streams i ≡ Some x → IsWrittenOut [] x.expr
  stream_written i x e =
      let a = from_map closed_stream (trees s).streams i x e in
      let b = from_map tree_stream s.streams i a.origin a.there in
      let good = all_at (IsGoodStream (signature_of (trees s))) (trees s).streams i a.origin w.streams a.there in
      let typed : HasType (signature_of (trees s)) (at b.origin.expr) b.origin.ty = subst (λ (y : TreeStream). HasType (signature_of (trees s)) y.expr y.ty) (sym b.is) good.expr in
      let shut : IsWrittenOut [] (closed_stream a.origin).expr = subst (λ (y : TreeStream). IsWrittenOut [] (out y.expr)) b.is (written b.origin.expr b.origin.ty typed) in
      subst (λ (y : TreeStream). IsWrittenOut [] y.expr) a.is shut

  streams_translated : AllByRecursion (λ (x : TreeStream). IsTranslated spec x.expr x.ty) spec.streams
  streams_translated = by_get (λ (x : TreeStream). IsTranslated spec x.expr x.ty) spec.streams
      (λ i x e. record {
        typed = (all_at (IsGoodStream (signature_of spec)) spec.streams i x parts.streams e).expr;
        plain = all_at (λ (y : TreeStream). IsPlain y.expr) spec.streams i x plain_out.streams e;
        written = stream_written i x e;
      })

  -- ---- triggers

  abbrev item_root : Root → TreeRoot
  item_root r = tree_root (tree s.nodes s.libs) r

  abbrev tree_trigger : TriggerItem → TreeTrigger
  tree_trigger x = record { name = x.name; guard = item_root x.guard; args = map (tree_root (tree s.nodes s.libs)) x.args }

  abbrev closed_trigger : TreeTrigger → TreeTrigger
  closed_trigger x = record x { guard = root_with out x.guard; args = map (root_with out) x.args }

  roots_written : (rs : List Root) → AllByRecursion (RootHasType (signature_of (trees s))) (map (tree_root (tree s.nodes s.libs)) rs)
      → AllByRecursion (λ (r : TreeRoot). IsWrittenOut [] r.expr) (map (root_with out) (map (tree_root (tree s.nodes s.libs)) rs))
  roots_written [] h = tt
  roots_written (r ∷ rs) h = (written r.expr r.ty h.0, roots_written rs h.1)

  pub record TriggerWritten (x : TreeTrigger) : Type 0 where
    pub guard : IsWrittenOut [] x.guard.expr
    pub args : AllByRecursion (λ (r : TreeRoot). IsWrittenOut [] r.expr) x.args

  trigger_written : (i : ℕ) (x : TreeTrigger) → slice_get spec.triggers i ≡ Some x → TriggerWritten x
  trigger_written i x e =
      let a = from_map closed_trigger (trees s).triggers i x e in
      let b = from_map tree_trigger s.triggers i a.origin a.there in
      let good : IsGoodTrigger (signature_of (trees s)) (tree_trigger b.origin) = subst (IsGoodTrigger (signature_of (trees s))) (sym b.is) (all_at (IsGoodTrigger (signature_of (trees s))) (trees s).triggers i a.origin w.triggers a.there) in
      let shut : TriggerWritten (closed_trigger (tree_trigger b.origin)) = record {
        guard = written b.origin.guard.expr b.origin.guard.ty good.guard;
        args = roots_written b.origin.args (by_recursion (RootHasType (signature_of (trees s))) (map (tree_root (tree s.nodes s.libs)) b.origin.args) good.args);
      } in
      subst TriggerWritten (ap closed_trigger b.is ∙ a.is) shut

  trigger_translated : (x : TreeTrigger) → IsGoodTrigger (signature_of spec) x → IsPlainTrigger x → TriggerWritten x → IsTriggerTranslated spec x
  trigger_translated x h p o = record {
    guard = record { typed = subst (HasType (signature_of spec) x.guard.expr) h.truth h.guard; plain = p.0; written = o.guard };
    args = each_two (λ (r : TreeRoot). RootHasType (signature_of spec) r × IsPlain r.expr) (λ (r : TreeRoot). IsWrittenOut [] r.expr) (λ (r : TreeRoot). IsTranslated spec r.expr r.ty)
        (λ r a b. record { typed = a.0; plain = a.1; written = b }) x.args
        (each_two (RootHasType (signature_of spec)) (λ (r : TreeRoot). IsPlain r.expr) (λ (r : TreeRoot). RootHasType (signature_of spec) r × IsPlain r.expr) (λ r a b. (a, b)) x.args
        (by_recursion (RootHasType (signature_of spec)) x.args h.args) (by_recursion (λ (r : TreeRoot). IsPlain r.expr) x.args p.1))
        o.args;
  }

  triggers_translated : AllByRecursion (IsTriggerTranslated spec) spec.triggers
  triggers_translated = by_get (IsTriggerTranslated spec) spec.triggers
      (λ i x e. trigger_translated x (all_at (IsGoodTrigger (signature_of spec)) spec.triggers i x parts.triggers e) (all_at IsPlainTrigger spec.triggers i x plain_out.triggers e) (trigger_written i x e))

  same_types : (rs : List Root) → map (λ (r : TreeRoot). r.ty) (map (root_with out) (map (tree_root (tree s.nodes s.libs)) rs)) ≡ map (λ (r : Root). r.ty) rs
  same_types [] = refl
  same_types (r ∷ rs) = ap (λ (ts : List Ty). r.ty ∷ ts) (same_types rs)

  -- a trigger's item
  record Item (i : ℕ) (x : TreeTrigger) : Type 0 where
    item : TriggerItem
    there : slice_get s.triggers i ≡ Some item
    name : item.name ≡ x.name
    types : map (λ (r : Root). r.ty) item.args ≡ map (λ (r : TreeRoot). r.ty) x.args

  item_of : (i : ℕ) (x : TreeTrigger) → slice_get spec.triggers i ≡ Some x → Item i x
  item_of i x e =
      let a = from_map closed_trigger (trees s).triggers i x e in
      let b = from_map tree_trigger s.triggers i a.origin a.there in
      let is : closed_trigger (tree_trigger b.origin) ≡ x = ap closed_trigger b.is ∙ a.is in
      record { item = b.origin; there = b.there; name = ap (λ (y : TreeTrigger). y.name) is; types = sym (same_types b.origin.args) ∙ ap (λ (y : TreeTrigger). map (λ (r : TreeRoot). r.ty) y.args) is }

  pub has_steps : HasSteps spec
  has_steps = record {
    libs = no_libs;
    translatable = translatable;
    streams = streams_translated;
    triggers = triggers_translated;
    alike = λ i j x y e f g.
        let a = item_of i x e in
        let b = item_of j y f in
        sym a.types ∙ w.names.alike i j a.item b.item a.there b.there (a.name ∙ g ∙ sym b.name) ∙ b.types;
  }

  pub makes_same_calls : (name : List ℕ) → OperatorTypes → OperatorWords → MakesSameCalls s (translation spec name)
  makes_same_calls name types ops h n rows clean = same_calls spec (translation spec name) has_steps (program_is spec name) types ops h n rows clean
