-- The translation of a plain specification that keeps the limits is a well formed program.
use Rattle.std.proofs.Common.{◌≡◌, ℕ, zero, suc, ◌≤◌, Bool, true, false, ◌&&◌, List, [], ◌∷◌, ◌++◌, length, map, Option, Some, refl, sym, ap, ◌∙◌, subst, if◌then◌else◌, arith}
use Rattle.std.specs.Prelude.{slice_get, nat_eq, nat_le, sum, All, IsTrue}
use Rattle.std.specs.Option.{option_map}
use Rattle.std.specs.List.{list_all, list_any, flat_map, AllByRecursion}
use Rattle.std.specs.Cmp.Lexicographic.{pointwise}
use Rattle.std.proofs.lemmas.Bool.{and_from, le-leb, eq-eqb}
use Rattle.std.proofs.lemmas.Option.{slice_get-map}
use Rattle.sm_io.specs.Words.{is_name}
use Rattle.sm_io.proofs.Elements.{get_front, all_by_place}
use Rattle.stream_types.specs.declared.scalar.Ty.{Ty}
use Rattle.stream_types.specs.TypeList.{Stands}
use Rattle.stream_core.specs.declared.spec.ExternItem.{ExternItem}
use Rattle.stream_core.specs.declared.spec.StreamItem.{StreamItem}
use Rattle.stream_core.specs.declared.spec.DefItem.{DefItem}
use Rattle.stream_core.specs.declared.spec.TriggerItem.{TriggerItem}
use Rattle.stream_core.specs.declared.spec.ObserverItem.{ObserverItem}
use Rattle.stream_core.specs.Value.{SpecValue}
use Rattle.stream_core.specs.Term.{Term, TreeSpec, TreeStream, TreeTrigger, TreeRoot, tree, tree_root, root_with, trees, written_out, defs_of, initial_count}
use Rattle.stream_core.specs.Signature.{signature_of}
use Rattle.stream_core.specs.WellTyped.{IsName, HasNames, IsGoodStream, WellTyped, declared_names}
use Rattle.stream_core.specs.Plain.{IsPlainSpec}
use Rattle.stream_core.specs.Soundness.{HasNoCycle}
use Rattle.stream_core.specs.KeptLimits.{IsLightTrigger, KeepsLimits, plain_form, words_of_plain}
use Rattle.stream_core.specs.Limits.{storage_of_plain}
use Rattle.stream_core.specs.TypedParts.{HasTypedParts}
use Rattle.stream_core.specs.Handlers.{handlers_after, handlers}
use Rattle.stream_core.specs.Meaning.{closed_spec}
use Rattle.stream_core.proofs.Handled.{handlers_once}
use Rattle.stream_core.proofs.Extended.{typed_parts, parts_stay}
use Rattle.c99_tree.specs.declared.types.CTy.{CTy}
use Rattle.c99_tree.specs.declared.types.CVar.{CVar}
use Rattle.c99_tree.specs.declared.types.CProto.{CProto}
use Rattle.c99_tree.specs.declared.types.CDef.{CDef}
use Rattle.c99_tree.specs.declared.unit.CRing.{CRing}
use Rattle.c99_tree.specs.declared.unit.Unit.{Unit as CUnit}
use Rattle.c99_tree.specs.Tree.{Stmt, statement, statements}
use Rattle.c99_tree.specs.Words.{is_same, is_ring_name}
use Rattle.c99_tree.specs.Lookup.{is_defined}
use Rattle.c99_tree.specs.Storage.{storage_of}
use Rattle.c99_tree.specs.Weight.{unit_weight_of}
use Rattle.c99_tree.specs.Rules.{has_names, is_declared_well, has_sound_rings, has_sound_step, is_long_as_used, is_filled}
use Rattle.c99_tree.specs.Checks.{is_sound_statement}
use Rattle.c99_tree.specs.WellFormed.{IsWellFormed, has_names_type, has_names_var, has_names_handler, has_names_ring, names_are_distinct, are_distinct, types_come_first, lengths_are_in_range, each_statement, totals_are_right}
use Rattle.c99_tree.proofs.LookedUp.{all_at}
use Rattle.c99_tree.proofs.Whole.{sound-well}
use Rattle.ring_codegen.specs.CTypes.{c_type, c_def, c_extern, c_handler}
use Rattle.ring_codegen.specs.Translation.{copy_statement, trigger_statement, next_statement, write_statements, ring_of, translation}
use Rattle.ring_codegen.specs.Standing.{IsRingLong, IsTranslated, IsTriggerTranslated, HasSteps, IsProgramOf}
use Rattle.ring_codegen.proofs.Listing.{all_both, by_recursion, by_get, by_place, each_push, Once, once_both}
use Rattle.ring_codegen.proofs.NamedOnce.{from_map}
use Rattle.ring_codegen.proofs.LaidOut.{storage_kept}
use Rattle.ring_codegen.proofs.PlainPrograms.{has_steps, program_is}
use Rattle.ring_codegen.proofs.StillPlain.{spec_still, plain_form-is}
use Rattle.ring_codegen.proofs.UnitLists.{all_mapped, distinct_names, distinct_once}
use Rattle.ring_codegen.proofs.UnitOrder.{grouped, copies_first, nexts_distinct, writes_last}
use Rattle.ring_codegen.proofs.UnitRings.{ring_filled, ring_used, ring_in_range}
use Rattle.ring_codegen.proofs.UnitStands.{type_stands}
use Rattle.ring_codegen.proofs.UnitStatements.{HasGoodParts, copy_sound, call_sound, next_sound, writes_sound, all_writes_sound, params-are}
use Rattle.ring_codegen.proofs.UnitTotals.{storage_small, weight_small}
use Rattle.ring_codegen.proofs.UnitTypes.{structs_named, type_named, defs_named, types_distinct, members_distinct, defined, in_order, few_fields, array_lengths}

-- ---- handlers

-- a trigger of this name
record IsOfTrigger (ts : List TreeTrigger) (name : List ℕ) : Type 0 where
  place : ℕ
  trigger : TreeTrigger
  there : slice_get ts place ≡ Some trigger
  named : trigger.name ≡ name

-- what holds of each trigger's name holds of each handler
each_handler : (P : List ℕ → Type 0) (seen : List (List ℕ)) (xs : List TreeTrigger) → AllByRecursion P seen → AllByRecursion (λ (x : TreeTrigger). P x.name) xs → AllByRecursion P (handlers_after seen xs)
each_handler P seen [] h g = h
each_handler P seen (x ∷ xs) h g = each_handler P (if list_any (pointwise nat_eq x.name) seen then seen else seen ++ x.name ∷ []) xs (by (list_any (pointwise nat_eq x.name) seen)) g.1
  where
    by : (b : Bool) → AllByRecursion P (if b then seen else seen ++ x.name ∷ [])
    by true = h
    by false = each_push P seen x.name h g.0

handler_of_trigger : (spec : TreeSpec) (k : ℕ) (name : List ℕ) → slice_get (handlers spec) k ≡ Some name → IsOfTrigger spec.triggers name
handler_of_trigger spec k name e =
    by_place (IsOfTrigger spec.triggers) (handlers spec) k name
    (each_handler (IsOfTrigger spec.triggers) [] spec.triggers tt
    (by_get (λ (x : TreeTrigger). IsOfTrigger spec.triggers x.name) spec.triggers (λ i x f. record { place = i; trigger = x; there = f; named = refl })))
    e

-- ---- lists

all_twice : {X Y Z : Type 0} (p : Z → Bool) (f : Y → Z) (g : X → Y) (xs : List X) → ((k : ℕ) (x : X) → slice_get xs k ≡ Some x → p (f (g x)) ≡ true) → list_all p (map f (map g xs)) ≡ true
all_twice p f g [] h = refl
all_twice p f g (x ∷ xs) h = and_from (p (f (g x))) (list_all p (map f (map g xs))) (h 0 x refl) (all_twice p f g xs (λ k y e. h (suc k) y e))

declared-names : (spec : TreeSpec) (xs : List ExternItem) (hs : List (List ℕ)) → map (λ (v : CVar). v.name) (map (c_extern spec.types) xs) ++ map (λ (p : CProto). p.name) (map (c_handler spec) hs) ≡ map (λ (x : ExternItem). x.name) xs ++ hs
declared-names spec [] [] = refl
declared-names spec [] (h ∷ hs) = ap (λ (r : List (List ℕ)). h ∷ r) (declared-names spec [] hs)
declared-names spec (x ∷ xs) hs = ap (λ (r : List (List ℕ)). x.name ∷ r) (declared-names spec xs hs)

-- ---- a program of a specification that has steps and good parts

module _ (spec : TreeSpec) (u : CUnit) (has : HasSteps spec) (is : IsProgramOf spec u) (named : HasGoodParts spec) where
  pub stands : (a : Term) (t : Ty) → IsTranslated spec a t → Stands spec.types t
  stands a t h = type_stands spec has.translatable.types has.translatable.standing has.translatable.long a t h.typed h.plain h.written

  params_pass : (p : CTy → Bool) → ((t : Ty) → Stands spec.types t → p (c_type spec.types t) ≡ true) → (name : List ℕ) → IsOfTrigger spec.triggers name → list_all p (c_handler spec name).params ≡ true
  params_pass p pass name h =
      let translated_ = by_place (IsTriggerTranslated spec) spec.triggers h.place h.trigger has.triggers h.there in
      ap (λ (n : List ℕ). list_all p (c_handler spec n).params) (sym h.named)
      ∙ ap (list_all p) (params-are spec u has is named h.place h.trigger h.there)
      ∙ all_twice p (c_type spec.types) (λ (r : TreeRoot). r.ty) h.trigger.args
      (λ k r e. pass r.ty (stands r.expr r.ty (by_place (λ (x : TreeRoot). IsTranslated spec x.expr x.ty) h.trigger.args k r translated_.args e)))

  pub handlers_named : list_all has_names_handler (map (c_handler spec) (handlers spec)) ≡ true
  handlers_named = all_mapped has_names_handler (c_handler spec) (handlers spec)
      (λ k n e.
      let h = handler_of_trigger spec k n e in
      let good : is_name n ≡ true = subst (λ (x : List ℕ). is_name x ≡ true) h.named (all_at (λ (x : TreeTrigger). IsName x.name) spec.triggers h.place h.trigger named.triggers h.there) in
      and_from (is_name n) (list_all has_names_type (c_handler spec n).params) good
      (params_pass has_names_type (type_named spec.types has.translatable.types named.names) n h))

  pub handlers_defined : list_all (λ (p : CProto). list_all (is_defined (map (c_def spec.types) spec.types)) p.params) (map (c_handler spec) (handlers spec)) ≡ true
  handlers_defined = all_mapped (λ (p : CProto). list_all (is_defined (map (c_def spec.types) spec.types)) p.params) (c_handler spec) (handlers spec)
      (λ k n e. params_pass (is_defined (map (c_def spec.types) spec.types)) (defined spec.types has.translatable.types named.names) n (handler_of_trigger spec k n e))

  extern_stands : (k : ℕ) (x : ExternItem) → slice_get spec.externs k ≡ Some x → Stands spec.types x.ty
  extern_stands k x e = all_at (λ (y : ExternItem). Stands spec.types y.ty) spec.externs k x has.translatable.standing e

  pub externs_named : list_all has_names_var (map (c_extern spec.types) spec.externs) ≡ true
  externs_named = all_mapped has_names_var (c_extern spec.types) spec.externs
      (λ k x e. and_from (is_name x.name) (has_names_type (c_type spec.types x.ty)) (all_at (λ (y : ExternItem). IsName y.name) spec.externs k x named.externs e)
      (type_named spec.types has.translatable.types named.names x.ty (extern_stands k x e)))

  pub externs_defined : list_all (λ (v : CVar). is_defined (map (c_def spec.types) spec.types) v.ty) (map (c_extern spec.types) spec.externs) ≡ true
  externs_defined = all_mapped (λ (v : CVar). is_defined (map (c_def spec.types) spec.types) v.ty) (c_extern spec.types) spec.externs
      (λ k x e. defined spec.types has.translatable.types named.names x.ty (extern_stands k x e))

  ring_long : (k : ℕ) (x : TreeStream) → slice_get spec.streams k ≡ Some x → IsRingLong spec.types x
  ring_long k x e = all_at (IsRingLong spec.types) spec.streams k x has.translatable.long e

  pub rings_named : list_all has_names_ring (map (ring_of spec.types) spec.streams) ≡ true
  rings_named = all_mapped has_names_ring (ring_of spec.types) spec.streams
      (λ k x e. and_from (is_ring_name x.name) (has_names_type (c_type spec.types x.ty)) (all_at (λ (y : TreeStream). IsTrue (is_ring_name y.name)) spec.streams k x named.rings e)
      (type_named spec.types has.translatable.types named.names x.ty (ring_long k x e).stands))

  pub rings_defined : list_all (λ (r : CRing). is_defined (map (c_def spec.types) spec.types) r.ty) (map (ring_of spec.types) spec.streams) ≡ true
  rings_defined = all_mapped (λ (r : CRing). is_defined (map (c_def spec.types) spec.types) r.ty) (ring_of spec.types) spec.streams
      (λ k x e. defined spec.types has.translatable.types named.names x.ty (ring_long k x e).stands)

  pub rings_in_range : list_all (λ (r : CRing). nat_le 1 r.len && nat_le r.len 65536) (map (ring_of spec.types) spec.streams) ≡ true
  rings_in_range = all_mapped (λ (r : CRing). nat_le 1 r.len && nat_le r.len 65536) (ring_of spec.types) spec.streams
      (λ k x e. ring_in_range spec.types has.translatable.types x (ring_long k x e))

  pub rings_used : list_all is_long_as_used (map (ring_of spec.types) spec.streams) ≡ true
  rings_used = all_mapped is_long_as_used (ring_of spec.types) spec.streams (λ k x e. ring_used spec.types has.translatable.types x (ring_long k x e))

  -- ---- statements

  abbrev sound : Stmt → Bool
  sound s = is_sound_statement u s

  copied_sound : list_all sound (map statement (map copy_statement spec.externs)) ≡ true
  copied_sound = all_twice sound statement copy_statement spec.externs (copy_sound spec u has is named)

  called_sound : list_all sound (map statement (map (trigger_statement spec) spec.triggers)) ≡ true
  called_sound = all_twice sound statement (trigger_statement spec) spec.triggers
      (λ i x e. call_sound spec u has is named i x e (by_place (IsTriggerTranslated spec) spec.triggers i x has.triggers e) (all_at IsLightTrigger spec.triggers i x named.light_triggers e))

  computed_sound : list_all sound (map statement (map (next_statement spec) spec.streams)) ≡ true
  computed_sound = all_twice sound statement (next_statement spec) spec.streams
      (λ k x e. next_sound spec u has is named k x e (by_place (λ (y : TreeStream). IsTranslated spec y.expr y.ty) spec.streams k x has.streams e))

  wrote_sound : list_all sound (map statement (flat_map (write_statements spec.types) spec.streams)) ≡ true
  wrote_sound = all_writes_sound spec u has is named spec.streams (writes_sound spec u has is named)

  behind_sound : list_all sound (map statement (map (trigger_statement spec) spec.triggers) ++ (map statement (map (next_statement spec) spec.streams) ++ map statement (flat_map (write_statements spec.types) spec.streams))) ≡ true
  behind_sound =
      all_both sound (map statement (map (trigger_statement spec) spec.triggers)) (map statement (map (next_statement spec) spec.streams) ++ map statement (flat_map (write_statements spec.types) spec.streams)) called_sound
      (all_both sound (map statement (map (next_statement spec) spec.streams)) (map statement (flat_map (write_statements spec.types) spec.streams)) computed_sound wrote_sound)

  statements_sound : each_statement sound u ≡ true
  statements_sound =
      ap (list_all sound) (grouped spec u has is)
      ∙ all_both sound (map statement (map copy_statement spec.externs)) (map statement (map (trigger_statement spec) spec.triggers) ++ (map statement (map (next_statement spec) spec.streams) ++ map statement (flat_map (write_statements spec.types) spec.streams))) copied_sound behind_sound

  pub step_sound : has_sound_step u ≡ true
  step_sound =
      let first = copies_first spec u has is behind_sound in
      let once = nexts_distinct spec u has is in
      let last = writes_last spec u has is in
      λ j. statements_sound j && first j && once j && last j

-- ---- the translation

module _ (s : SpecValue) (name : List ℕ) (name_is : IsTrue (is_name name)) (w : WellTyped s) (plain : IsPlainSpec (trees s)) (none : HasNoCycle (defs_of s)) (kept : KeepsLimits (plain_form (trees s)))
    (rings : All (λ (x : StreamItem). IsTrue (is_ring_name x.name)) s.streams)
  where
    abbrev spec : TreeSpec
    spec = closed_spec s

    abbrev u : CUnit
    u = translation spec name

    pub has : HasSteps spec
    has = has_steps s w plain none

    pub is : IsProgramOf spec u
    is = program_is spec name

    pub keeps : KeepsLimits spec
    keeps = subst KeepsLimits (plain_form-is (trees s) plain) kept

    abbrev out : Term → Term
    out e = written_out (trees s).defs e

    abbrev tree_stream : StreamItem → TreeStream
    tree_stream x = record { name = x.name; ty = x.ty; init = x.init; expr = tree s.nodes s.libs x.expr; at = x.at }

    abbrev closed_stream : TreeStream → TreeStream
    closed_stream x = record x { expr = out x.expr }

    abbrev tree_trigger : TriggerItem → TreeTrigger
    tree_trigger x = record { name = x.name; guard = tree_root (tree s.nodes s.libs) x.guard; args = map (tree_root (tree s.nodes s.libs)) x.args }

    abbrev closed_trigger : TreeTrigger → TreeTrigger
    closed_trigger x = record x { guard = root_with out x.guard; args = map (root_with out) x.args }

    -- where a trigger comes from
    record Origin (i : ℕ) (x : TreeTrigger) : Type 0 where
      item : TriggerItem
      there : slice_get s.triggers i ≡ Some item
      named : item.name ≡ x.name

    origin : (i : ℕ) (x : TreeTrigger) → slice_get spec.triggers i ≡ Some x → Origin i x
    origin i x e =
        let a = from_map closed_trigger (trees s).triggers i x e in
        let b = from_map tree_trigger s.triggers i a.origin a.there in
        record { item = b.origin; there = b.there; named = ap (λ (y : TreeTrigger). y.name) b.is ∙ ap (λ (y : TreeTrigger). y.name) a.is }

    triggers_named : (k : ℕ) (x : TreeTrigger) → slice_get spec.triggers k ≡ Some x → IsName x.name
    triggers_named k x e = let a = origin k x e in subst IsName a.named (all_at (λ (y : TriggerItem). IsName y.name) s.triggers k a.item w.names.triggers a.there)

    rings_are_named : (k : ℕ) (x : TreeStream) → slice_get spec.streams k ≡ Some x → IsTrue (is_ring_name x.name)
    rings_are_named k x e =
        let a = from_map closed_stream (trees s).streams k x e in
        let b = from_map tree_stream s.streams k a.origin a.there in
        subst (λ (n : List ℕ). IsTrue (is_ring_name n)) (ap (λ (y : TreeStream). y.name) b.is ∙ ap (λ (y : TreeStream). y.name) a.is)
        (all_at (λ (y : StreamItem). IsTrue (is_ring_name y.name)) s.streams k b.origin rings b.there)

    pub good : HasGoodParts spec
    good = record {
      names = w.names.types;
      externs = w.names.externs;
      rings = all_by_place (λ (x : TreeStream). IsTrue (is_ring_name x.name)) spec.streams (by_get (λ (x : TreeStream). IsTrue (is_ring_name x.name)) spec.streams rings_are_named);
      triggers = all_by_place (λ (x : TreeTrigger). IsName x.name) spec.triggers (by_get (λ (x : TreeTrigger). IsName x.name) spec.triggers triggers_named);
      light_streams = keeps.streams;
      light_triggers = keeps.triggers;
    }

    -- ---- what is declared

    names_right : has_names u ≡ true
    names_right =
        let own : is_name name ≡ true = name_is in
        let defs = defs_named s.types w.types w.names.types in
        let vars = externs_named spec u has is good in
        let protos = handlers_named spec u has is good in
        let all = rings_named spec u has is good in
        λ j. own j && defs j && vars j && protos j && all j

    externs_once : Once (map (λ (x : ExternItem). x.name) s.externs)
    externs_once i j n e f =
        let a = from_map (λ (x : ExternItem). x.name) s.externs i n e in
        let b = from_map (λ (x : ExternItem). x.name) s.externs j n f in
        has.translatable.externs i j a.origin b.origin a.there b.there (a.is ∙ sym b.is)

    extern_declared : (i : ℕ) (n : List ℕ) → slice_get (map (λ (x : ExternItem). x.name) s.externs) i ≡ Some n → slice_get (declared_names s) i ≡ Some n
    extern_declared i n e =
        let externs = map (λ (x : ExternItem). x.name) s.externs in
        let streams = map (λ (x : StreamItem). x.name) s.streams in
        let defs = map (λ (x : DefItem). x.name) s.defs in
        let observers = map (λ (x : ObserverItem). x.name) s.observers in
        get_front (externs ++ streams ++ defs) observers i n (get_front (externs ++ streams) defs i n (get_front externs streams i n e))

    handlers_apart : (i j : ℕ) (n : List ℕ) → slice_get (map (λ (x : ExternItem). x.name) s.externs) i ≡ Some n → slice_get (handlers spec) j ≡ Some n → ⊥
    handlers_apart i j n e f =
        let h = handler_of_trigger spec j n f in
        let a = origin h.place h.trigger h.there in
        w.names.apart h.place i a.item a.there (extern_declared i n e ∙ ap (λ (m : List ℕ). Some m) (sym (a.named ∙ h.named)))

    spaces_right : names_are_distinct u ≡ true
    spaces_right =
        let types = types_distinct s.types w.types w.names.types in
        let members = members_distinct s.types w.types w.names.types in
        let ring_names = distinct_names (ring_of s.types) (λ (r : CRing). r.name) (λ (x : TreeStream). x.name) (λ x. refl) spec.streams has.translatable.streams in
        let others : are_distinct is_same (map (λ (v : CVar). v.name) (map (c_extern s.types) s.externs) ++ map (λ (p : CProto). p.name) (map (c_handler spec) (handlers spec))) ≡ true =
        ap (are_distinct is_same) (declared-names spec s.externs (handlers spec))
        ∙ distinct_once (map (λ (x : ExternItem). x.name) s.externs ++ handlers spec)
        (once_both (map (λ (x : ExternItem). x.name) s.externs) (handlers spec) externs_once (handlers_once spec) handlers_apart) in
        λ j. types j && members j && ring_names j && others j

    lengths_right : lengths_are_in_range u ≡ true
    lengths_right =
        let arrays = array_lengths s.types w.types w.names.types in
        let all = rings_in_range spec u has is good in
        λ j. arrays j && all j

    pub types_right : types_come_first u ≡ true
    types_right =
        let built = in_order s.types w.types w.names.types in
        let vars = externs_defined spec u has is good in
        let protos = handlers_defined spec u has is good in
        let all = rings_defined spec u has is good in
        λ j. built j && vars j && protos j && all j

    declared_right : is_declared_well u ≡ true
    declared_right =
        let fields = few_fields s.types w.types w.names.types in
        λ j. names_right j && spaces_right j && fields j && lengths_right j && types_right j

    -- ---- rings

    parts : HasTypedParts spec
    parts = parts_stay (trees s) (typed_parts s w)

    rings_right : has_sound_rings u ≡ true
    rings_right =
        let used = rings_used spec u has is good in
        let all = all_mapped (is_filled (map (c_def s.types) s.types)) (ring_of s.types) spec.streams
        (λ k x e.
        ring_filled s.types w.types (structs_named s.types w.types w.names.types) x (all_at (IsRingLong s.types) spec.streams k x has.translatable.long e)
        (all_at (IsGoodStream (signature_of spec)) spec.streams k x parts.streams e).initial.flat) in
        λ j. used j && all j

    -- ---- totals

    same_words : (xs : List TreeStream) → map (λ (x : TreeStream). length x.init) (map closed_stream xs) ≡ map (λ (x : TreeStream). length x.init) xs
    same_words [] = refl
    same_words (x ∷ xs) = ap (λ (r : List ℕ). length x.init ∷ r) (same_words xs)

    few_words : words_of_plain (trees s) ≤ 262144
    few_words =
        let a = ap (λ (ns : List ℕ). sum ns) (same_words (trees s).streams) in
        let b = keeps.words in
        omega (arith, a, b)

    long_items : AllByRecursion (IsRingLong s.types) (trees s).streams
    long_items = by_get (IsRingLong s.types) (trees s).streams
        (λ k x e.
        let g = all_at (IsGoodStream (signature_of (trees s))) (trees s).streams k x w.streams e in
        record { stands = g.stands; some = g.initial.some; most = g.initial.most; initial = g.initial.values })

    pub small_storage : storage_of u ≤ 2147483647
    small_storage =
        let a = storage_kept s w plain none name in
        let b = ap storage_of_plain (spec_still (trees s) plain) in
        let c = storage_small (trees s) long_items few_words in
        omega (arith, a, b, c)

    totals_right : totals_are_right u ≡ true
    totals_right =
        let same : nat_eq (storage_of u) (storage_of u) ≡ true = eq-eqb (storage_of u) (storage_of u) refl in
        let same_weight : nat_eq (unit_weight_of u) (unit_weight_of u) ≡ true = eq-eqb (unit_weight_of u) (unit_weight_of u) refl in
        let low : nat_le (storage_of u) 2147483647 ≡ true = le-leb (storage_of u) 2147483647 small_storage in
        let light : nat_le (unit_weight_of u) 2147483647 ≡ true = le-leb (unit_weight_of u) 2147483647 (weight_small spec u has is keeps) in
        λ j. same j && same_weight j && low j && light j

    -- ---- all of it

    pub well_formed : IsWellFormed u
    well_formed =
        let step = step_sound spec u has is good in
        sound-well u (λ j. declared_right j && rings_right j && step j && totals_right j)
