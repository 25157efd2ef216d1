-- Each statement of a translation is sound by itself.
use Rattle.std.proofs.Common.{◌≡◌, ℕ, suc, ◌≤◌, ◌*◌, Bool, true, false, ◌&&◌, List, [], ◌∷◌, ◌++◌, length, map, find, Option, Some, None, is_some, refl, sym, ap, ◌∙◌, subst, arith}
use Rattle.std.specs.Prelude.{slice_get, nat_eq, nat_le, if◌then◌else◌, All, IsTrue}
use Rattle.std.specs.Option.{option_map_or}
use Rattle.std.specs.List.{list_all, flat_map, AllByRecursion}
use Rattle.std.proofs.lemmas.Bool.{and_from, le-leb, eq-eqb}
use Rattle.std.proofs.lemmas.List.{map-append}
use Rattle.sm_io.specs.Words.{is_name}
use Rattle.stream_types.specs.declared.scalar.Ty.{Ty}
use Rattle.stream_types.specs.declared.scalar.Ty.TheVariants as ty
use Rattle.stream_types.specs.declared.scalar.Scalar.TheVariants as scalar
use Rattle.stream_types.specs.TypeList.{IsTypeList}
use Rattle.stream_core.specs.declared.spec.ExternItem.{ExternItem}
use Rattle.stream_core.specs.Term.{Term, TreeSpec, TreeStream, TreeTrigger, TreeRoot, initial_count}
use Rattle.stream_core.specs.Signature.{signature_of}
use Rattle.stream_core.specs.WellTyped.{HasNames, IsName, bool}
use Rattle.stream_core.specs.Limits.{plain_weight}
use Rattle.stream_core.specs.KeptLimits.{IsLight, IsLightTrigger}
use Rattle.stream_core.specs.Handlers as handlers
use Rattle.stream_core.proofs.Handled.{handler_named}
use Rattle.c99_tree.specs.declared.expr.CExpr.{CExpr}
use Rattle.c99_tree.specs.declared.expr.CExpr.TheVariants as e
use Rattle.c99_tree.specs.declared.types.CScalar.TheVariants as c
use Rattle.c99_tree.specs.declared.types.CTy.{CTy}
use Rattle.c99_tree.specs.declared.types.CTy.TheVariants as cty
use Rattle.c99_tree.specs.declared.types.CVar.{CVar}
use Rattle.c99_tree.specs.declared.types.CProto.{CProto}
use Rattle.c99_tree.specs.declared.unit.CRing.{CRing}
use Rattle.c99_tree.specs.declared.unit.CStmt.{CStmt}
use Rattle.c99_tree.specs.declared.unit.CStmt.TheVariants as s
use Rattle.c99_tree.specs.declared.unit.Unit.{Unit as CUnit}
use Rattle.c99_tree.specs.Tree.{Expr, Exprs, tree, exprs, statement}
use Rattle.c99_tree.specs.TreeLaws.{tree-Head}
use Rattle.c99_tree.specs.Words.{is_same, is_ring_name}
use Rattle.c99_tree.specs.Lookup as look
use Rattle.c99_tree.specs.Lookup.{var_of, handler_of}
use Rattle.c99_tree.specs.Step.{params_of}
use Rattle.c99_tree.specs.Spelling.{height, most_height}
use Rattle.c99_tree.specs.Typing.{type_of, types_of, is_scalar_type, fits_in}
use Rattle.c99_tree.specs.WellFormed.{list_of, is_scalar_expr, fit_params}
use Rattle.c99_tree.specs.Checks.{is_sound_part, is_sound_expression, is_sound_statement}
use Rattle.c99_tree.proofs.LookedUp.{all_at}
use Rattle.ring_codegen.specs.CTypes.{c_type, c_handler}
use Rattle.ring_codegen.specs.Translation.{translated, copy_statement, trigger_statement, next_statement, write_statements, is_indexed, place_behind, ring_of}
use Rattle.ring_codegen.specs.Standing.{Declares, IsTranslated, IsTriggerTranslated, HasSteps, IsProgramOf}
use Rattle.ring_codegen.specs.Carried.{HasCarrier}
use Rattle.ring_codegen.proofs.Listing.{all_both, find_there, at_any, by_recursion}
use Rattle.ring_codegen.proofs.NamedOnce.{LooksUp, looks_up}
use Rattle.ring_codegen.proofs.OperatorsHold.{operator_types}
use Rattle.ring_codegen.proofs.StepWhole.{handlers_found}
use Rattle.ring_codegen.proofs.TypesGiven.{HasTypeFor, fits_type, has_type, tree_place}
use Rattle.ring_codegen.proofs.UnitLists.{all_mapped}
use Rattle.ring_codegen.proofs.UnitParts.{passes, HasParts, has_parts, head_parts, place_parts, ring_named, with_index, without_index}
use Rattle.ring_codegen.proofs.UnitSizes.{small, IsPlace, place_small}

-- what has a type for a type has a type
typed_some : (spec : TreeSpec) (u : CUnit) (a : CExpr) (t : Ty) → HasTypeFor spec.types u a t → is_some (type_of u (tree a)) ≡ true
typed_some spec u a (ty.Scalar s) h = ap (λ (o : Option CTy). is_some o) h.is
typed_some spec u a (ty.Array i) h = ap (λ (o : Option CTy). is_some o) h
typed_some spec u a (ty.Struct i) h = ap (λ (o : Option CTy). is_some o) h

list-exprs : (es : List Expr) → list_of (exprs es) ≡ es
list-exprs [] = refl
list-exprs (x ∷ es) = ap (λ (r : List Expr). x ∷ r) (list-exprs es)

-- what is asked of the names and weights of a specification
pub record HasGoodParts (spec : TreeSpec) : Type 0 where
  pub names : All HasNames spec.types
  pub externs : All (λ (x : ExternItem). IsName x.name) spec.externs
  pub rings : All (λ (x : TreeStream). IsTrue (is_ring_name x.name)) spec.streams
  pub triggers : All (λ (x : TreeTrigger). IsName x.name) spec.triggers
  pub light_streams : All (λ (x : TreeStream). plain_weight x.expr ≤ 2048) spec.streams
  pub light_triggers : All IsLightTrigger spec.triggers

module _ (spec : TreeSpec) (u : CUnit) (has : HasSteps spec) (is : IsProgramOf spec u) (named : HasGoodParts spec) where
  looks : LooksUp spec u
  looks = looks_up spec u has.translatable is.declares

  -- ---- expressions

  expression_typed : (a : Term) (t : Ty) → IsTranslated spec a t → HasTypeFor spec.types u (translated spec a) t
  expression_typed a t h = has_type spec u operator_types looks a t h.typed h.plain h.written

  expression_sound : (a : Term) (t : Ty) → IsTranslated spec a t → plain_weight a ≤ 2048 → is_sound_expression u (tree (translated spec a)) ≡ true
  expression_sound a t h b =
      let low = (small spec a).high in
      let height_is : nat_le (height (tree (translated spec a))) most_height ≡ true = le-leb (height (tree (translated spec a))) 8192 (omega (arith, low, b)) in
      let some : is_some (type_of u (tree (translated spec a))) ≡ true = typed_some spec u (translated spec a) t (expression_typed a t h) in
      let parts : passes u (tree (translated spec a)) ≡ true = has_parts spec u has.translatable.types named.names is.declares looks named.externs named.rings a t h.typed h.plain h.written in
      λ j. height_is j && some j && parts j

  -- ---- copies

  pub copy_sound : (k : ℕ) (x : ExternItem) → slice_get spec.externs k ≡ Some x → is_sound_statement u (statement (copy_statement x)) ≡ true
  copy_sound k x h =
      let n : is_name x.name ≡ true = all_at (λ (y : ExternItem). IsName y.name) spec.externs k x named.externs h in
      let v : is_some (var_of u.externs x.name) ≡ true = ap (λ (o : Option CVar). is_some o) (looks.var k x h) in
      λ j. n j && v j && true && true && true && true && true

  -- ---- calls

  pub proto_found : (i : ℕ) (x : TreeTrigger) → slice_get spec.triggers i ≡ Some x → handler_of u x.name ≡ Some (c_handler spec x.name)
  proto_found i x h =
      ap (λ (ps : List CProto). find (λ (p : CProto). is_same x.name p.name) ps) is.handlers
      ∙ find_there (c_handler spec) (λ (p : CProto). is_same x.name p.name) x.name (λ n. refl) (handlers.handlers spec) (at_any x.name (handlers.handlers spec) (handlers.handler_of spec i) (handler_named spec i x h))

  pub params-are : (i : ℕ) (x : TreeTrigger) → slice_get spec.triggers i ≡ Some x → (c_handler spec x.name).params ≡ map (c_type spec.types) (map (λ (r : TreeRoot). r.ty) x.args)
  params-are i x h =
      ap (λ (o : Option CProto). option_map_or (λ (p : CProto). p.params) o []) (sym (proto_found i x h)) ∙ (handlers_found spec u has is).params i x h

  abbrev args_of : List TreeRoot → List Expr
  args_of rs = map tree (map (λ (r : TreeRoot). translated spec r.expr) rs)

  args_sound : (rs : List TreeRoot) → AllByRecursion (λ (r : TreeRoot). IsTranslated spec r.expr r.ty) rs → AllByRecursion IsLight rs → list_all (is_sound_expression u) (args_of rs) ≡ true
  args_sound [] h b = refl
  args_sound (r ∷ rs) h b = and_from (is_sound_expression u (tree (translated spec r.expr))) (list_all (is_sound_expression u) (args_of rs)) (expression_sound r.expr r.ty h.0 b.0) (args_sound rs h.1 b.1)

  args_fit : (rs : List TreeRoot) → AllByRecursion (λ (r : TreeRoot). IsTranslated spec r.expr r.ty) rs
      → fit_params (types_of u (exprs (args_of rs))) (map (c_type spec.types) (map (λ (r : TreeRoot). r.ty) rs)) ≡ true
  args_fit [] h = refl
  args_fit (r ∷ rs) h =
      and_from (fits_in (type_of u (tree (translated spec r.expr))) (c_type spec.types r.ty)) (fit_params (types_of u (exprs (args_of rs))) (map (c_type spec.types) (map (λ (y : TreeRoot). y.ty) rs)))
      (fits_type spec.types u (translated spec r.expr) r.ty (expression_typed r.expr r.ty h.0)) (args_fit rs h.1)

  as_many : (rs : List TreeRoot) → length (args_of rs) ≡ length (map (c_type spec.types) (map (λ (r : TreeRoot). r.ty) rs))
  as_many [] = refl
  as_many (r ∷ rs) = ap suc (as_many rs)

  pub call_sound : (i : ℕ) (x : TreeTrigger) → slice_get spec.triggers i ≡ Some x → IsTriggerTranslated spec x → IsLightTrigger x → is_sound_statement u (statement (trigger_statement spec x)) ≡ true
  call_sound i x h t b =
      let guard = tree (translated spec x.guard.expr) in
      let args = exprs (args_of x.args) in
      let proto = proto_found i x h in
      let params = params-are i x h in
      let n : is_name x.name ≡ true = all_at (λ (y : TreeTrigger). IsName y.name) spec.triggers i x named.triggers h in
      let there : is_some (handler_of u x.name) ≡ true = ap (λ (o : Option CProto). is_some o) proto in
      let sound : list_all (is_sound_expression u) (guard ∷ list_of args) ≡ true =
      and_from (is_sound_expression u guard) (list_all (is_sound_expression u) (list_of args)) (expression_sound x.guard.expr bool t.guard b.guard)
      (ap (list_all (is_sound_expression u)) (list-exprs (args_of x.args)) ∙ args_sound x.args t.args (by_recursion IsLight x.args b.args)) in
      let many : option_map_or (λ (p : CProto). nat_eq (length (list_of args)) (length p.params)) (handler_of u x.name) false ≡ true =
      ap (λ (o : Option CProto). option_map_or (λ (p : CProto). nat_eq (length (list_of args)) (length p.params)) o false) proto
      ∙ eq-eqb (length (list_of args)) (length (c_handler spec x.name).params)
      (ap (λ (es : List Expr). length es) (list-exprs (args_of x.args)) ∙ as_many x.args ∙ ap (λ (ts : List CTy). length ts) (sym params)) in
      let scalar_is : is_scalar_expr u guard ≡ true = ap (λ (o : Option CTy). option_map_or is_scalar_type o false) (expression_typed x.guard.expr bool t.guard).is in
      let fit : option_map_or (λ (p : CProto). fit_params (types_of u args) p.params) (handler_of u x.name) false ≡ true =
      ap (λ (o : Option CProto). option_map_or (λ (p : CProto). fit_params (types_of u args) p.params) o false) proto
      ∙ ap (fit_params (types_of u args)) params ∙ args_fit x.args t.args in
      λ j. n j && there j && sound j && many j && scalar_is j && fit j && true

  -- ---- nexts

  ring_there : (k : ℕ) (x : TreeStream) → slice_get spec.streams k ≡ Some x → is_some (look.ring_of u x.name) ≡ true
  ring_there k x h = ap (λ (o : Option CRing). is_some o) (looks.ring k x h)

  ring_name : (k : ℕ) (x : TreeStream) → slice_get spec.streams k ≡ Some x → is_ring_name x.name ≡ true
  ring_name k x h = all_at (λ (y : TreeStream). IsTrue (is_ring_name y.name)) spec.streams k x named.rings h

  pub next_sound : (k : ℕ) (x : TreeStream) → slice_get spec.streams k ≡ Some x → IsTranslated spec x.expr x.ty → is_sound_statement u (statement (next_statement spec x)) ≡ true
  next_sound k x h t =
      let n = ring_name k x h in
      let there = ring_there k x h in
      let sound = expression_sound x.expr x.ty t (all_at (λ (y : TreeStream). plain_weight y.expr ≤ 2048) spec.streams k x named.light_streams h) in
      let fit : option_map_or (λ (ring : CRing). fits_in (type_of u (tree (translated spec x.expr))) ring.ty) (look.ring_of u x.name) false ≡ true =
      ap (λ (o : Option CRing). option_map_or (λ (ring : CRing). fits_in (type_of u (tree (translated spec x.expr))) ring.ty) o false) (looks.ring k x h)
      ∙ fits_type spec.types u (translated spec x.expr) x.ty (expression_typed x.expr x.ty t) in
      λ j. n j && there j && (sound j && true) && true && true && fit j && true

  -- ---- writes

  head_sound : (k : ℕ) (x : TreeStream) → slice_get spec.streams k ≡ Some x → is_indexed spec.types x ≡ true → is_sound_expression u (tree (e.Head x.name)) ≡ true
  head_sound k x h q =
      let ways = with_index spec u has.translatable.types named.names is.declares looks named.externs named.rings k x h q in
      let parts = head_parts u x.name (ring_name k x h) ways in
      let height_is : nat_le (height (tree (e.Head x.name))) most_height ≡ true = ap (λ (t : Expr). nat_le (height t) most_height) (tree-Head x.name) in
      let some : is_some (type_of u (tree (e.Head x.name))) ≡ true = ap (λ (t : Expr). is_some (type_of u t)) (tree-Head x.name) in
      λ j. height_is j && some j && parts j

  place_sound : (k : ℕ) (x : TreeStream) → slice_get spec.streams k ≡ Some x → is_indexed spec.types x ≡ true → is_sound_expression u (tree (place_behind spec.types x 1)) ≡ true
  place_sound k x h q =
      let parts = place_parts spec u has.translatable.types named.names is.declares looks named.externs named.rings k 1 x h (omega arith) q in
      let same = tree_place x.name 1 (initial_count spec.types x) in
      let height_is : nat_le (height (tree (place_behind spec.types x 1))) most_height ≡ true = ap (λ (t : Expr). nat_le (height t) most_height) same in
      let some : is_some (type_of u (tree (place_behind spec.types x 1))) ≡ true = ap (λ (t : Expr). is_some (type_of u t)) same in
      λ j. height_is j && some j && parts j

  abbrev written : TreeStream → Bool → List CStmt
  written x b = if b then s.Store x.name (e.Head x.name) ∷ s.Move x.name (place_behind spec.types x 1) ∷ [] else s.Put x.name ∷ []

  pub writes_sound : (k : ℕ) (x : TreeStream) → slice_get spec.streams k ≡ Some x → list_all (is_sound_statement u) (map statement (write_statements spec.types x)) ≡ true
  writes_sound k x h = by (is_indexed spec.types x) refl
    where
      by : (b : Bool) → is_indexed spec.types x ≡ b → list_all (is_sound_statement u) (map statement (written x b)) ≡ true
      by false q =
          let n = ring_name k x h in
          let there = ring_there k x h in
          let way = without_index spec u has.translatable.types named.names is.declares looks named.externs named.rings k x h q in
          λ j. (n j && there j && true && true && true && true && way j) && true
      by true q =
          let n = ring_name k x h in
          let there = ring_there k x h in
          let way = with_index spec u has.translatable.types named.names is.declares looks named.externs named.rings k x h q in
          let first = head_sound k x h q in
          let second = place_sound k x h q in
          let scalar_is : is_scalar_expr u (tree (e.Head x.name)) ≡ true = ap (λ (t : Expr). option_map_or is_scalar_type (type_of u t) false) (tree-Head x.name) in
          let fit : fits_in (type_of u (tree (place_behind spec.types x 1))) (cty.Scalar c.U32) ≡ true = ap (λ (t : Expr). fits_in (type_of u t) (cty.Scalar c.U32)) (tree_place x.name 1 (initial_count spec.types x)) in
          λ j. (n j && there j && (first j && true) && true && scalar_is j && true && way j)
          && ((n j && there j && (second j && true) && true && true && fit j && way j) && true)

  pub all_writes_sound : (xs : List TreeStream) → ((k : ℕ) (x : TreeStream) → slice_get xs k ≡ Some x → list_all (is_sound_statement u) (map statement (write_statements spec.types x)) ≡ true)
      → list_all (is_sound_statement u) (map statement (flat_map (write_statements spec.types) xs)) ≡ true
  all_writes_sound [] h = refl
  all_writes_sound (x ∷ xs) h =
      ap (list_all (is_sound_statement u)) (map-append statement (write_statements spec.types x) (flat_map (write_statements spec.types) xs))
      ∙ all_both (is_sound_statement u) (map statement (write_statements spec.types x)) (map statement (flat_map (write_statements spec.types) xs)) (h 0 x refl) (all_writes_sound xs (λ k y g. h (suc k) y g))
