-- The program of a sound and plain specification.
use Rattle.std.proofs.Common.{◌≡◌, ℕ, ◌<◌, ◌≤◌, List, [], ◌∷◌, length, map, get_or, refl, sym, ap, ◌∙◌}
use Rattle.std.specs.Prelude.{slice_get, All, IsTrue, Some}
use Rattle.std.specs.Option.{option_map}
use Rattle.std.proofs.lemmas.Option.{slice_get-get_or, slice_get-map}
use Rattle.sm_io.specs.Words.{is_name}
use Rattle.sm_io.proofs.Elements.{all_by_place}
use Rattle.stream_types.specs.TypeList.{Stands}
use Rattle.stream_core.specs.declared.spec.Root.{Root}
use Rattle.stream_core.specs.declared.spec.TriggerItem.{TriggerItem}
use Rattle.stream_core.specs.Value.{SpecValue}
use Rattle.stream_core.specs.Term.{TreeRoot, TreeSpec, TreeTrigger}
use Rattle.stream_core.specs.Meaning.{closed_spec}
use Rattle.stream_lib.specs.PlainSpecs.{IsSoundPlain}
use Rattle.c99_tree.specs.declared.types.CTy.{CTy}
use Rattle.c99_tree.specs.Storage.{storage_of}
use Rattle.c99_tree.specs.Weight.{unit_weight_of}
use Rattle.c99_tree.specs.WellFormed.{IsWellFormed, types_come_first}
use Rattle.ring_codegen.specs.CTypes.{c_handler, c_type}
use Rattle.ring_codegen.specs.Simulation.{Simulates}
use Rattle.ring_codegen.specs.Standing.{HasSteps, IsTranslated, IsTriggerTranslated}
use Rattle.ring_codegen.specs.Translation.{translation}
use Rattle.ring_codegen.specs.Items.{HasStandingArgs, closed_root, closed_trigger, item_handler}
use Rattle.ring_codegen.proofs.ItemTrees.{triggers_are}
use Rattle.ring_codegen.proofs.Listing.{by_place, each_weaken, of_map}
use Rattle.ring_codegen.proofs.LaidOut.{storage_kept, copied_first}
use Rattle.ring_codegen.proofs.OperatorsHold.{operator_types, operator_words}
use Rattle.ring_codegen.proofs.PlainPrograms.{has_steps, makes_same_calls, program_is}
use Rattle.ring_codegen.proofs.SoundItems.{ring_names}
use Rattle.ring_codegen.proofs.UnitSound as unit
use Rattle.ring_codegen.proofs.UnitStatements.{HasGoodParts, params-are}
use Rattle.ring_codegen.proofs.UnitTotals.{weight_small}

module _ (s : SpecValue) (name : List ℕ) (named : IsTrue (is_name name)) (sound : IsSoundPlain s) where
  pub well_formed : IsWellFormed (translation (closed_spec s) name)
  well_formed = unit.well_formed s name named sound.typed sound.plain sound.no_cycle sound.limits (ring_names s sound)

  pub simulates : Simulates s name (translation (closed_spec s) name)
  simulates = record {
    named = refl;
    types = refl;
    externs = refl;
    handlers = refl;
    well_formed = well_formed;
    storage_is = storage_kept s sound.typed sound.plain sound.no_cycle name;
    copied = copied_first s sound.typed sound.plain sound.no_cycle name;
    calls = makes_same_calls s sound.typed sound.plain sound.no_cycle name operator_types operator_words;
  }

  pub types_first : IsTrue (types_come_first (translation (closed_spec s) name))
  types_first = unit.types_right s name named sound.typed sound.plain sound.no_cycle sound.limits (ring_names s sound)

  pub storage_small : storage_of (translation (closed_spec s) name) ≤ 2147483647
  storage_small = unit.small_storage s name named sound.typed sound.plain sound.no_cycle sound.limits (ring_names s sound)

  pub light : unit_weight_of (translation (closed_spec s) name) ≤ 2147483647
  light =
      weight_small (closed_spec s) (translation (closed_spec s) name)
      (unit.has s name named sound.typed sound.plain sound.no_cycle sound.limits (ring_names s sound))
      (unit.is s name named sound.typed sound.plain sound.no_cycle sound.limits (ring_names s sound))
      (unit.keeps s name named sound.typed sound.plain sound.no_cycle sound.limits (ring_names s sound))

-- ---- handlers

types_twice : (s : SpecValue) (rs : List Root) → map (c_type s.types) (map (λ (r : TreeRoot). r.ty) (map (closed_root s) rs)) ≡ map (λ (r : Root). c_type s.types r.ty) rs
types_twice s [] = refl
types_twice s (r ∷ rs) = ap (λ (ts : List CTy). c_type s.types r.ty ∷ ts) (types_twice s rs)

module _ (s : SpecValue) (sound : IsSoundPlain s) where
  abbrev spec : TreeSpec
  spec = closed_spec s

  has : HasSteps spec
  has = has_steps s sound.typed sound.plain sound.no_cycle

  good : HasGoodParts spec
  good = unit.good s s.name sound.typed.names.spec sound.typed sound.plain sound.no_cycle sound.limits (ring_names s sound)

  trigger_there : (i : ℕ) (x : TriggerItem) → slice_get s.triggers i ≡ Some x → slice_get spec.triggers i ≡ Some (closed_trigger s x)
  trigger_there i x e =
      ap (λ (xs : List TreeTrigger). slice_get xs i) (triggers_are s) ∙ slice_get-map (closed_trigger s) s.triggers i ∙ ap (option_map (closed_trigger s)) e

  -- a handler has the parameters of each trigger of its name
  pub handler_is : (i : ℕ) (x : TriggerItem) → slice_get s.triggers i ≡ Some x → item_handler s x ≡ c_handler spec x.name
  handler_is i x e =
      let p : map (λ (r : Root). c_type s.types r.ty) x.args ≡ (c_handler spec x.name).params =
      sym (params-are spec (translation spec s.name) has (program_is spec s.name) good i (closed_trigger s x) (trigger_there i x e) ∙ types_twice s x.args) in
      λ j. record { name = x.name; params = p j }

  pub args_stand : (i : ℕ) (x : TriggerItem) → slice_get s.triggers i ≡ Some x → All (λ (r : Root). Stands s.types r.ty) x.args
  args_stand i x e =
      let t = by_place (IsTriggerTranslated spec) spec.triggers i (closed_trigger s x) has.triggers (trigger_there i x e) in
      all_by_place (λ (r : Root). Stands s.types r.ty) x.args
      (each_weaken (λ (r : Root). IsTranslated spec (closed_root s r).expr (closed_root s r).ty) (λ (r : Root). Stands s.types r.ty)
      (λ r h. unit.stands spec (translation spec s.name) has (program_is spec s.name) good (closed_root s r).expr (closed_root s r).ty h) x.args
      (of_map (λ (r : TreeRoot). IsTranslated spec r.expr r.ty) (closed_root s) x.args t.args))

  pub all_args_stand : All (HasStandingArgs s.types) s.triggers
  all_args_stand k d h = args_stand k (get_or s.triggers k d) (slice_get-get_or s.triggers k d h)
