-- A whole step of a translation.
use Rattle.std.proofs.Common.{◌≡◌, ℕ, zero, suc, ◌+◌, ◌<◌, Bool, true, false, List, [], ◌∷◌, ◌++◌, length, map, find, append-nil, zero-add, Option, Some, Ok, cond, refl, sym, ap, ◌∙◌, subst, arith}
use Rattle.std.specs.Prelude.{slice_get, slice_index_or, nat_eq}
use Rattle.std.specs.Option.{option_map_or}
use Rattle.std.specs.List.{flat_map, position_or_len}
use Rattle.std.specs.Cmp.Lexicographic.{pointwise, nat_list_eq_equiv}
use Rattle.std.proofs.lemmas.List.{map-append, length-map}
use Rattle.std.proofs.lemmas.Option.{slice_get_within}
use Rattle.stream_types.specs.declared.types.TypeEntry.{TypeEntry}
use Rattle.stream_types.specs.Types.{AreWords}
use Rattle.stream_types.specs.TypeList.{Stands}
use Rattle.stream_core.specs.declared.spec.ExternItem.{ExternItem}
use Rattle.stream_core.specs.Term.{Term, TreeSpec, TreeStream, TreeTrigger, TreeRoot, TreeLib}
use Rattle.stream_core.specs.Eval.{Moment, Event, Line, part_of, row_leaves, lines, stream_line, operand_lines}
use Rattle.stream_core.specs.StepParts.{HaveValues, AreFired}
use Rattle.stream_core.specs.Handlers as handlers
use Rattle.stream_core.specs.Handlers.{trigger_name, calls_of}
use Rattle.stream_core.proofs.Handled.{handler_named}
use Rattle.stream_core.proofs.SameNode.{list_same}
use Rattle.c99_tree.specs.declared.types.CTy.{CTy}
use Rattle.c99_tree.specs.declared.types.CProto.{CProto}
use Rattle.c99_tree.specs.declared.unit.CRing.{CRing}
use Rattle.c99_tree.specs.declared.unit.Unit.{Unit as CUnit}
use Rattle.c99_tree.specs.Tree.{Stmt, statement, statements}
use Rattle.c99_tree.specs.Words.{is_same}
use Rattle.c99_tree.specs.Lookup.{handler_of}
use Rattle.c99_tree.specs.Values.{Value, no_such_value, row_values}
use Rattle.c99_tree.specs.Evaluation.{Statics}
use Rattle.c99_tree.specs.Step.{Called, Progress, extern_values, at_entry, carry_out_all, step}
use Rattle.c99_tree.proofs.LookedUp.{all_at}
use Rattle.ring_codegen.specs.CTypes.{c_type, c_arguments, c_handler, c_extern, c_def}
use Rattle.ring_codegen.specs.Simulation.{called}
use Rattle.ring_codegen.specs.Translation.{copy_statement, trigger_statement, next_statement, write_statements, ring_of}
use Rattle.ring_codegen.specs.Standing.{HasWords, RingsStand, StandsFor, IsMomentOf, IsProgramOf, HasSteps, IsNextMoment, AreBefore, Steps}
use Rattle.ring_codegen.proofs.Listing.{find_there, position_map, at_any}
use Rattle.ring_codegen.proofs.NamedOnce.{LooksUp, looks_up}
use Rattle.ring_codegen.proofs.OperatorPremises.{OperatorTypes, OperatorWords}
use Rattle.ring_codegen.proofs.ShapedTypes.{row_gives, RowGives}
use Rattle.ring_codegen.proofs.Reaching.{reach_both, reach_end}
use Rattle.ring_codegen.proofs.StepCopies.{copied}
use Rattle.ring_codegen.proofs.StepCalls.{HandlersFound, all_called}
use Rattle.ring_codegen.proofs.StepNexts.{computed}
use Rattle.ring_codegen.proofs.StepWrites.{all_wrote}

-- ---- handlers

-- the first trigger of a name that is there
record FirstTrigger (ts : List TreeTrigger) (name : List ℕ) : Type 0 where
  first : TreeTrigger
  place : ℕ
  found : find (λ (x : TreeTrigger). pointwise nat_eq x.name name) ts ≡ Some first
  there : slice_get ts place ≡ Some first
  named : first.name ≡ name

first_trigger : (ts : List TreeTrigger) (i : ℕ) (x : TreeTrigger) → slice_get ts i ≡ Some x → FirstTrigger ts x.name
first_trigger [] i x e = absurd (cc e)
first_trigger (y ∷ ts) zero x e =
    let s : y ≡ x = cc e in
    let n : y.name ≡ x.name = ap (λ (z : TreeTrigger). z.name) s in
    record {
      first = y;
      place = 0;
      found = ap (λ (b : Bool). cond b (Some y) (find (λ (z : TreeTrigger). pointwise nat_eq z.name x.name) ts)) (ap (pointwise nat_eq y.name) (sym n) ∙ nat_list_eq_equiv.refl y.name);
      there = refl;
      named = n;
    }
first_trigger (y ∷ ts) (suc i) x e = by (first_trigger ts i x e) (pointwise nat_eq y.name x.name) refl
  where
    by : FirstTrigger ts x.name → (b : Bool) → pointwise nat_eq y.name x.name ≡ b → FirstTrigger (y ∷ ts) x.name
    by rest true q = record {
      first = y;
      place = 0;
      found = ap (λ (b : Bool). cond b (Some y) (find (λ (z : TreeTrigger). pointwise nat_eq z.name x.name) ts)) q;
      there = refl;
      named = list_same y.name x.name q;
    }
    by rest false q = record {
      first = rest.first;
      place = suc rest.place;
      found = ap (λ (b : Bool). cond b (Some y) (find (λ (z : TreeTrigger). pointwise nat_eq z.name x.name) ts)) q ∙ rest.found;
      there = rest.there;
      named = rest.named;
    }

types_of_roots : (types : List TypeEntry) (rs : List TreeRoot) → map (λ (r : TreeRoot). c_type types r.ty) rs ≡ map (c_type types) (map (λ (r : TreeRoot). r.ty) rs)
types_of_roots types [] = refl
types_of_roots types (r ∷ rs) = ap (λ (ts : List CTy). c_type types r.ty ∷ ts) (types_of_roots types rs)

stream_exprs : (types : List TypeEntry) (xs : List TreeStream) → map (λ (l : Line). l.expr) (map (stream_line types) xs ++ []) ≡ map (λ (x : TreeStream). x.expr) xs
stream_exprs types [] = refl
stream_exprs types (x ∷ xs) = ap (λ (es : List Term). x.expr ∷ es) (stream_exprs types xs)

-- without forms of the library the lines are those of the streams
pub lines-exprs : (spec : TreeSpec) → spec.libs ≡ [] → map (λ (l : Line). l.expr) (lines spec) ≡ map (λ (x : TreeStream). x.expr) spec.streams
lines-exprs spec none =
    ap (λ (ls : List TreeLib). map (λ (l : Line). l.expr) (map (stream_line spec.types) spec.streams ++ operand_lines ls)) none ∙ stream_exprs spec.types spec.streams

module _ (spec : TreeSpec) (u : CUnit) (has : HasSteps spec) (is : IsProgramOf spec u) where
  protos_found : (i : ℕ) (x : TreeTrigger) → slice_get spec.triggers i ≡ Some x → handler_of u x.name ≡ Some (c_handler spec x.name)
  protos_found i x e =
      ap (λ (ps : List CProto). find (λ (p : CProto). is_same x.name p.name) ps) is.handlers
      ∙ find_there (c_handler spec) (λ (p : CProto). is_same x.name p.name) x.name (λ n. refl) (handlers.handlers spec) (at_any x.name (handlers.handlers spec) (handlers.handler_of spec i) (handler_named spec i x e))

  pub handlers_found : HandlersFound spec u
  handlers_found = record {
    params = λ i x e.
        let f = first_trigger spec.triggers i x e in
        ap (λ (o : Option CProto). option_map_or (λ (p : CProto). p.params) o []) (protos_found i x e)
        ∙ ap (λ (o : Option TreeTrigger). option_map_or (c_arguments spec.types) o []) f.found
        ∙ types_of_roots spec.types f.first.args
        ∙ ap (map (c_type spec.types)) (has.alike f.place i f.first x f.there e f.named);
    place = λ i x e.
        ap (λ (ps : List CProto). position_or_len (λ (p : CProto). is_same x.name p.name) ps) is.handlers
        ∙ position_map (c_handler spec) (λ (p : CProto). is_same x.name p.name) (is_same x.name) (λ n. refl) (handlers.handlers spec)
        ∙ ap (λ (o : Option TreeTrigger). position_or_len (pointwise nat_eq (trigger_name o)) (handlers.handlers spec)) (sym e);
  }

  -- ---- statements

  abbrev copies_part : List Stmt
  copies_part = map statement (map copy_statement spec.externs)

  abbrev calls_part : List Stmt
  calls_part = map statement (map (trigger_statement spec) spec.triggers)

  abbrev nexts_part : List Stmt
  nexts_part = map statement (map (next_statement spec) spec.streams)

  abbrev writes_part : List Stmt
  writes_part = map statement (flat_map (write_statements spec.types) spec.streams)

  pub statements_are : statements u ≡ copies_part ++ calls_part ++ nexts_part ++ writes_part
  statements_are =
      let a = map copy_statement spec.externs in
      let b = map (trigger_statement spec) spec.triggers in
      let c = map (next_statement spec) spec.streams in
      let d = flat_map (write_statements spec.types) spec.streams in
      ap (map statement) is.step
      ∙ map-append statement (a ++ b ++ c) d
      ∙ ap (λ (z : List Stmt). z ++ map statement d) (map-append statement (a ++ b) c)
      ∙ ap (λ (z : List Stmt). z ++ map statement c ++ map statement d) (map-append statement a b)

  -- ---- the whole

  module _ (types : OperatorTypes) (ops : OperatorWords) (m next : Moment) (s : Statics) (row : List ℕ) (events : List Event) (nexts : List (List ℕ)) (now : IsMomentOf spec m) (at_row : m.row ≡ row) (before : AreBefore spec m s)
      (words : AreWords (row_leaves spec) row) (fired : AreFired m 0 spec.triggers events) (values : HaveValues m (map (λ (x : TreeStream). x.expr) spec.streams) nexts) (grows : IsNextMoment spec m next nexts)
    where
      looks : LooksUp spec u
      looks = looks_up spec u has.translatable is.declares

      given : RowGives spec.types has.translatable.types has.translatable.structs spec.externs row
      given = row_gives spec.types has.translatable.types has.translatable.structs spec.externs (λ k x e. all_at (λ (y : ExternItem). Stands spec.types y.ty) spec.externs k x has.translatable.standing e) row words

      values_are : extern_values u row ≡ given.all
      values_are =
          (λ j. option_map_or (λ (a : List Value × List ℕ). a.0) (row_values (is.declares.types j) (is.declares.externs j) row) [])
          ∙ ap (λ (r : List ℕ). option_map_or (λ (a : List Value × List ℕ). a.0) (row_values (map (c_def spec.types) spec.types) (map (c_extern spec.types) spec.externs) r) []) (sym (append-nil row))
          ∙ ap (λ (o : Option (List Value × List ℕ)). option_map_or (λ (a : List Value × List ℕ). a.0) o []) (given.are [])

      abbrev start : Progress
      start = at_entry u s

      abbrev xs : List Value
      xs = given.all

      from_start : {A : Type 0} (ys : List A) (j : ℕ) (x : A) → slice_get ys j ≡ Some x → slice_get ys (0 + j) ≡ Some x
      from_start ys j x e = let z : j ≡ 0 + j = omega arith in subst (λ (i : ℕ). slice_get ys i ≡ Some x) z e

      rings_many : length u.rings ≡ length spec.streams
      rings_many = ap (λ (rs : List CRing). length rs) is.declares.rings ∙ length-map spec.streams (ring_of spec.types)

      done : (q : Progress) × ((step u s row).value ≡ Ok q) × AreBefore spec next q.statics × (q.called ≡ map called (calls_of spec events))
      done =
          let n = length spec.externs in
          let l = length spec.streams in
          let c = copied spec u looks xs n given.long spec.externs 0 start (from_start spec.externs) (zero-add n) (record { long = before.copies; same = λ i b. absurd (omega (arith, b)) }) in
          let stand : StandsFor spec m c.end.statics = record {
            copies = λ k x e.
                let hold = given.holds k x e in
                let inside : k < n = slice_get_within spec.externs k x e in
                record {
                  value = hold.value;
                  is = c.copies.same k inside ∙ hold.is;
                  words = subst (λ (r : List ℕ). HasWords spec.types x.ty hold.value r) (λ j. part_of (sym now.types j) (sym now.externs j) (sym at_row j) k) hold.words;
                };
            rings = subst (RingsStand spec m) (sym c.rings) before.rings;
          } in
          let f = all_called spec u m xs types ops has.translatable.types looks handlers_found now spec.triggers 0 c.end events (from_start spec.triggers) has.triggers stand fired in
          let stand2 : StandsFor spec m f.end.statics = subst (StandsFor spec m) (sym f.statics) stand in
          let locals_long : length f.end.locals ≡ l = ap (λ (vs : List Value). length vs) (f.locals ∙ c.locals) ∙ length-map u.rings (λ (r : CRing). no_such_value) ∙ rings_many in
          let g = computed spec u m xs types ops has.translatable.types looks now nexts l spec.streams 0 f.end nexts (from_start spec.streams) (λ j. let z : 0 + j ≡ j = omega arith in ap (λ (i : ℕ). slice_index_or nexts i []) z)
          (zero-add l) has.streams stand2 values (record { long = locals_long; holds = λ i x e b. absurd (omega (arith, b)) }) in
          let stand3 : StandsFor spec m g.end.statics = subst (StandsFor spec m) (sym g.statics) stand2 in
          let many : length g.end.statics.rings ≡ l = ap (λ (st : Statics). length st.rings) (g.statics ∙ f.statics) ∙ ap (λ rs. length rs) c.rings ∙ before.many in
          let w = all_wrote spec u m next xs looks nexts l grows spec.streams 0 g.end (from_start spec.streams) (zero-add l)
          (record { long = many; written = λ i x e b. absurd (omega (arith, b)); waiting = λ i x e b. stand3.rings i x e }) g.locals in
          let all = reach_both u xs (copies_part ++ calls_part ++ nexts_part) writes_part start g.end w.end
          (reach_both u xs (copies_part ++ calls_part) nexts_part start f.end g.end (reach_both u xs copies_part calls_part start c.end f.end c.reach f.reach) g.reach) w.reach in (
            w.end,
            (λ j. (carry_out_all u (values_are j) (statements_are j) start).value) ∙ reach_end u xs (copies_part ++ calls_part ++ nexts_part ++ writes_part) start w.end all,
            record {
              copies = ap (λ vs. length vs) (w.copies ∙ ap (λ (st : Statics). st.copies) (g.statics ∙ f.statics)) ∙ c.copies.long;
              many = w.rings.long;
              rings = λ k x e. w.rings.written k x e (slice_get_within spec.streams k x e);
            },
            w.called ∙ g.called ∙ f.calls ∙ ap (λ (cs : List Called). cs ++ map called (calls_of spec events)) c.called,
          )

      pub steps : Steps spec u next s row events
      steps = record { end = done.0; is = done.1; statics = done.2; calls = done.3 }
