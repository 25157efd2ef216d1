-- A specification that is read from a text without a fault is well typed, where its names are good.
use Rattle.std.proofs.Common.{◌≡◌, ℕ, ◌+◌, ◌≤◌, List, [], ◌∷◌, map, Option, Some, None, refl, sym, ap, ◌∙◌, subst, arith}
use Rattle.std.specs.Prelude.{max, All}
use Rattle.std.specs.List.{flat_map, AllByRecursion}
use Rattle.std.specs.Option.{option_map}
use Rattle.sm_io.proofs.Elements.{all_by_place}
use Rattle.stream_types.specs.declared.types.TypeEntry.{TypeEntry}
use Rattle.stream_types.specs.TypeList.{Stands, IsTypeList}
use Rattle.stream_core.specs.declared.spec.ExternItem.{ExternItem}
use Rattle.stream_core.specs.Value.{SpecValue}
use Rattle.stream_core.specs.Term.{TreeSpec, TreeObserver, TreeDef, trees}
use Rattle.stream_core.specs.Signature.{Signature, StreamSignature, signature_of}
use Rattle.stream_core.specs.WellTyped.{RootHasType, IsGoodStream, IsGoodDef, IsGoodTrigger, IsGoodLib, HasGoodNames, WellTyped}
use Rattle.spec_text.specs.declared.surface.Surface.{Surface}
use Rattle.spec_text.specs.Form.{forms, form_of, form_of_decl}
use Rattle.spec_text.specs.Extent.{nesting, deepest}
use Rattle.type_check.specs.declared.fault.TypeFault.{TypeFault}
use Rattle.type_check.specs.declared.fault.TypeFault.TheVariants.{Redeclared}
use Rattle.type_check.specs.Names.{name_fault}
use Rattle.type_check.specs.Untyped.{untyped, all_of}
use Rattle.type_check.specs.TypeOrder.{types_of_text}
use Rattle.typed_text.specs.ReadSpec.{numbers_of, placed, spec_by, spec_of}
use Rattle.typed_text.proofs.Sound.{both_none}
use Rattle.typed_text.proofs.Places.{EachDecl, IsDecl, each_decl}
use Rattle.typed_text.proofs.Items.{externs_from, defs_from}
use Rattle.typed_text.proofs.Environment.{IsSoundText, kept_signatures}
use Rattle.typed_text.proofs.Decls.{libs_good, streams_same}
use Rattle.typed_text.proofs.Goods.{externs_stand, shallow, streams_good, observers_good}
use Rattle.typed_text.proofs.GoodRoots.{defs_good, triggers_good}
use Rattle.typed_text.proofs.Faultless.{IsFaultless, IsBuilt}

no_name_fault : (o : Option ℕ) → option_map (λ at. Redeclared at) o ≡ None → o ≡ None
no_name_fault None h = refl
no_name_fault (Some at) h = absurd (cc)

pub sound_text : (s : Surface) → IsFaultless s → IsSoundText s
sound_text s h = let p = both_none (option_map (λ at. Redeclared at) (name_fault s)) (untyped s) h.faultless in record { keeps = h.keeps; names = no_name_fault (name_fault s) p.0; typed = p.1 }

abbrev pub spec_read : Surface → TreeSpec
spec_read s = spec_by s (numbers_of s) (all_of s) (placed (numbers_of s) (all_of s) [] 0 s.decls)

pub spec_same : (s : Surface) → spec_of s ≡ spec_read s
unfolding spec_of
spec_same s = refl

decls_of : (s : Surface) → IsFaultless s → EachDecl (IsDecl s) [] s.decls
decls_of s h = let t = sound_text s h in each_decl s t.keeps t.names t.typed

signature_same : (s : Surface) → IsFaultless s → kept_signatures s ≡ signature_of (spec_read s)
signature_same s h = ap (λ (ss : List StreamSignature). record {
  types = types_of_text s;
  externs = map (λ (x : ExternItem). x.ty) (externs_from (numbers_of s) (all_of s) (types_of_text s) [] 0 s.decls);
  streams = ss;
  defs = map (λ (x : TreeDef). x.ty) (defs_from (numbers_of s) (all_of s) (types_of_text s) [] 0 s.decls);
}) (streams_same s (sound_text s h) h.list [] 0 s.decls (decls_of s h))

-- what is good of a specification over trees
pub record IsGoodSpec (x : TreeSpec) : Type 0 where
  pub types : IsTypeList x.types
  pub externs : All (λ (e : ExternItem). Stands x.types e.ty) x.externs
  pub streams : All (IsGoodStream (signature_of x)) x.streams
  pub defs : All (IsGoodDef (signature_of x)) x.defs
  pub triggers : All (IsGoodTrigger (signature_of x)) x.triggers
  pub observers : All (λ (o : TreeObserver). RootHasType (signature_of x) o.root) x.observers
  pub libs : All (IsGoodLib (signature_of x)) x.libs

good_read : (s : Surface) → IsFaultless s → IsGoodSpec (spec_read s)
good_read s h =
    let t = sound_text s h in
    let q = decls_of s h in
    let x = spec_read s in
    let e = signature_same s h in
    let bound : 1 + max 0 (max 0 (deepest (forms (map form_of_decl s.decls)))) ≤ 64 = h.nested in
    let low = shallow 64 s.decls (omega (arith, bound)) in
    record {
      types = h.list;
      externs = all_by_place (λ (i : ExternItem). Stands (types_of_text s) i.ty) x.externs (externs_stand s [] 0 s.decls q);
      streams = all_by_place (IsGoodStream (signature_of x)) x.streams (subst (λ sig. AllByRecursion (IsGoodStream sig) x.streams) e (streams_good s t h.list [] 0 s.decls q low));
      defs = all_by_place (IsGoodDef (signature_of x)) x.defs (subst (λ sig. AllByRecursion (IsGoodDef sig) x.defs) e (defs_good s t h.list [] 0 s.decls q));
      triggers = all_by_place (IsGoodTrigger (signature_of x)) x.triggers (subst (λ sig. AllByRecursion (IsGoodTrigger sig) x.triggers) e (triggers_good s t h.list [] 0 s.decls q));
      observers = all_by_place (λ (o : TreeObserver). RootHasType (signature_of x) o.root) x.observers (subst (λ sig. AllByRecursion (λ (o : TreeObserver). RootHasType sig o.root) x.observers) e (observers_good s t h.list [] 0 s.decls q));
      libs = all_by_place (IsGoodLib (signature_of x)) x.libs (subst (λ sig. AllByRecursion (IsGoodLib sig) x.libs) e (libs_good s t h.list [] 0 s.decls q));
    }

-- The typed specification of a text without a fault is good.
pub spec_is_good : (s : Surface) → IsFaultless s → IsGoodSpec (spec_of s)
spec_is_good s h = subst IsGoodSpec (sym (spec_same s)) (good_read s h)

-- An arena that holds it is well typed, where its names are good.
pub well_typed : (s : Surface) (x : SpecValue) → IsFaultless s → IsBuilt s x → HasGoodNames x → WellTyped x
well_typed s x h b names =
    let g = subst IsGoodSpec (sym b.trees_are) (spec_is_good s h) in
    record { types = g.types; ordered = b.ordered; nodes = b.nodes; externs = g.externs; streams = g.streams; defs = g.defs; triggers = g.triggers; observers = g.observers; libs = g.libs; names = names }
