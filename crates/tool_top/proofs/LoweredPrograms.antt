-- A program of what a specification is lowered to is a program of the specification.
use Rattle.std.specs.Prelude.{◌≡◌, ℕ, Bool, true, false, if◌then◌else◌, nat_eq, List, [], ◌∷◌, map, Option, Some, None, Ok, length}
use Rattle.std.specs.Option.{option_map_or}
use Rattle.std.specs.List.{find}
use Rattle.std.specs.Cmp.Lexicographic.{pointwise}
use Rattle.std.proofs.Common.{refl, ap, sym, subst, ◌∙◌}
use Rattle.stream_types.specs.declared.types.TypeEntry.{TypeEntry}
use Rattle.stream_core.specs.Value.{SpecValue}
use Rattle.stream_core.specs.Term.{Term, TreeSpec, TreeRoot, TreeTrigger, trees, root_with, without_defs, written_out}
use Rattle.stream_core.specs.Lower.{lowered_spec}
use Rattle.stream_core.specs.Limits.{storage_of_plain}
use Rattle.stream_core.specs.KeptLimits.{plain_form}
use Rattle.stream_core.specs.WellTyped.{WellTyped}
use Rattle.stream_core.specs.Soundness.{HasNoCycle}
use Rattle.stream_core.specs.Eval as eval
use Rattle.stream_core.specs.Handlers as handled
use Rattle.stream_core.specs.Handlers.{handlers}
use Rattle.stream_core.specs.Meaning.{closed_spec, IsHistory, Clean, calls, storage}
use Rattle.c99_tree.specs.declared.types.CTy.{CTy}
use Rattle.c99_tree.specs.declared.types.CProto.{CProto}
use Rattle.c99_tree.specs.declared.unit.Unit.{Unit as CUnit}
use Rattle.c99_tree.specs.Run.{run}
use Rattle.c99_tree.specs.Storage.{storage_of}
use Rattle.form_laws.specs.Kept.{bare_root, bare_trigger}
use Rattle.form_laws.proofs.OutOfSpecs.{map_twice, map_alike}
use Rattle.form_laws.proofs.PlainForms.{spec_plain, spec_still}
use Rattle.form_laws.proofs.KeptDeclarations.{declarations_kept}
use Rattle.form_laws.proofs.LoweredCalls.{plain_handlers, plain_calls, plain_clean}
use Rattle.ring_codegen.specs.CTypes.{c_def, c_extern, c_type, c_arguments, c_handler, c_handlers}
use Rattle.ring_codegen.specs.Simulation.{called, Simulates, MakesSameCalls}

-- ---- the handlers' prototypes

params_of : List TypeEntry → List ℕ → List TreeTrigger → List CTy
params_of types name xs = option_map_or (c_arguments types) (find (λ (x : TreeTrigger). pointwise nat_eq x.name name) xs) []

bare_arguments : (types : List TypeEntry) (x : TreeTrigger) → c_arguments types (bare_trigger x) ≡ c_arguments types x
bare_arguments types x = map_twice (λ (r : TreeRoot). c_type types r.ty) bare_root x.args

bare_choice : (types : List TypeEntry) (b : Bool) (x : TreeTrigger) (r q : Option TreeTrigger) → option_map_or (c_arguments types) r [] ≡ option_map_or (c_arguments types) q []
    → option_map_or (c_arguments types) (if b then Some (bare_trigger x) else r) [] ≡ option_map_or (c_arguments types) (if b then Some x else q) []
bare_choice types true x r q h = bare_arguments types x
bare_choice types false x r q h = h

bare_params : (types : List TypeEntry) (name : List ℕ) (xs : List TreeTrigger) → params_of types name (map bare_trigger xs) ≡ params_of types name xs
unfolding params_of
bare_params types name [] = refl
bare_params types name (x ∷ xs) = bare_choice types (pointwise nat_eq x.name name) x _ _ (bare_params types name xs)

trigger_bare : (f : Term → Term) (x : TreeTrigger) → bare_trigger (record x { guard = root_with f x.guard; args = map (root_with f) x.args }) ≡ bare_trigger x
trigger_bare f x = ap (λ rs. record x { guard = bare_root x.guard; args = rs }) (map_twice bare_root (root_with f) x.args)

triggers_bare : (f : Term → Term) (xs : List TreeTrigger)
    → map bare_trigger (map (λ (x : TreeTrigger). record x { guard = root_with f x.guard; args = map (root_with f) x.args }) xs) ≡ map bare_trigger xs
triggers_bare f xs = map_twice bare_trigger _ xs ∙ map_alike _ bare_trigger xs (trigger_bare f)

same_triggers : (t : TreeSpec) → map bare_trigger (plain_form t).triggers ≡ map bare_trigger (without_defs t).triggers
same_triggers t =
    triggers_bare (written_out (lowered_spec t).defs) (lowered_spec t).triggers
    ∙ (declarations_kept t).triggers
    ∙ sym (triggers_bare (written_out t.defs) t.triggers)

same_params : (types : List TypeEntry) (name : List ℕ) (xs ys : List TreeTrigger) → map bare_trigger xs ≡ map bare_trigger ys → params_of types name xs ≡ params_of types name ys
same_params types name xs ys same = sym (bare_params types name xs) ∙ ap (params_of types name) same ∙ bare_params types name ys

proto_of : List TypeEntry → List TreeTrigger → List ℕ → CProto
proto_of types xs name = record { name = name; params = params_of types name xs }

protos_are : (t : TreeSpec) (names : List (List ℕ)) → map (c_handler t) names ≡ map (proto_of t.types t.triggers) names
unfolding proto_of params_of
protos_are t names = refl

pub same_handlers : (s : SpecValue) → c_handlers (plain_form (trees s)) ≡ c_handlers (closed_spec s)
unfolding proto_of
same_handlers s =
    protos_are (plain_form (trees s)) (handlers (plain_form (trees s)))
    ∙ ap (map (proto_of s.types (plain_form (trees s)).triggers)) (plain_handlers s)
    ∙ map_alike (proto_of s.types (plain_form (trees s)).triggers) (proto_of s.types (closed_spec s).triggers) (handlers (closed_spec s)) each
    ∙ sym (protos_are (closed_spec s) (handlers (closed_spec s)))
  where
    each : (name : List ℕ) → proto_of s.types (plain_form (trees s)).triggers name ≡ proto_of s.types (closed_spec s).triggers name
    each name = ap (λ ps. record { name = name; params = ps }) (same_params s.types name (plain_form (trees s)).triggers (closed_spec s).triggers (same_triggers (trees s)))

-- ---- the whole

module _ (s p : SpecValue) (name : List ℕ) (u : CUnit) (typed : WellTyped s) (free : HasNoCycle (trees s).defs) (is : trees p ≡ lowered_spec (trees s)) (x : Simulates p name u) where
  closed_is : closed_spec p ≡ plain_form (trees s)
  closed_is = ap without_defs is

  types_are : p.types ≡ s.types
  types_are = ap (λ (t : TreeSpec). t.types) is

  same_calls : MakesSameCalls s u
  same_calls h n history clean =
      x.calls h n (subst (λ t. eval.IsHistory t h) (sym closed_is) history) (subst (λ t. eval.Clean t h n) (sym closed_is) ((plain_clean s typed free h history n).1 clean))
      ∙ ap (λ cs. Ok (map (map called) cs)) (ap (λ t. handled.calls t h n) closed_is ∙ plain_calls s typed free h history n clean.within)

  pub program_of_lowered : Simulates s name u
  program_of_lowered = record {
    named = x.named;
    types = x.types ∙ ap (λ ts. map (c_def ts) ts) types_are;
    externs = x.externs ∙ ap (λ (t : TreeSpec). map (c_extern t.types) t.externs) is;
    handlers = x.handlers ∙ ap c_handlers closed_is ∙ same_handlers s;
    well_formed = x.well_formed;
    storage_is = x.storage_is ∙ ap (λ t. storage_of_plain (lowered_spec t)) is ∙ ap storage_of_plain (spec_still (lowered_spec (trees s)) (spec_plain (trees s)));
    copied = x.copied;
    calls = same_calls;
  }
