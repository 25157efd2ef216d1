-- The lines of a program's calls are those of its specification's triggers.
use Rattle.std.specs.Prelude.{◌≡◌, ℕ, zero, suc, ◌+◌, ◌<◌, Bool, true, false, nat_eq, cond, List, [], ◌∷◌, ◌++◌, length, map, slice_get, unwrap_or, Option, Some, Result, Ok}
use Rattle.std.specs.List.{AllByRecursion, filter, find, flat_map}
use Rattle.std.specs.Option.{option_map_or}
use Rattle.std.specs.Cmp.Lexicographic.{pointwise, nat_list_eq_equiv}
use Rattle.std.proofs.Common.{refl, sym, ap, subst, ◌∙◌, arith}
use Rattle.std.proofs.lemmas.List.{length-append}
use Rattle.std.proofs.lemmas.List.Concat.{flat_map-cons}
use Rattle.stream_types.specs.declared.scalar.Hazard.{Hazard}
use Rattle.stream_types.specs.declared.scalar.Ty.{Ty}
use Rattle.stream_types.specs.declared.types.TypeEntry.{TypeEntry}
use Rattle.stream_core.specs.declared.spec.TriggerItem.{TriggerItem}
use Rattle.stream_core.specs.Value.{SpecValue}
use Rattle.stream_core.specs.Term.{Term, TreeRoot, TreeSpec, TreeTrigger, root_with, tree, tree_root, trees, without_defs, written_out}
use Rattle.stream_core.specs.Eval.{Who, trigger, observer, Event, log, or_none, step_events}
use Rattle.stream_core.specs.EventWords.{AreWordsOf}
use Rattle.stream_core.specs.Handlers as handled
use Rattle.stream_core.specs.Handlers.{Call, call_of, calls_of, handler_of}
use Rattle.stream_core.specs.Meaning.{Clean, IsHistory, calls, closed_spec, table}
use Rattle.stream_core.specs.Soundness.{HasNoCycle}
use Rattle.stream_core.specs.WellTyped.{WellTyped, argument_types}
use Rattle.stream_core.proofs.Handled.{handler_named}
use Rattle.stream_core.proofs.PartsOfSteps.{bind_apart, events_apart}
use Rattle.stream_core.proofs.Roots.{acyclic}
use Rattle.stream_core.proofs.SameNode.{list_same}
use Rattle.stream_core.proofs.TypedEvents.{event_words}
use Rattle.form_laws.proofs.LoweredTables.{mapped_get}
use Rattle.form_laws.proofs.OutOfSpecs.{map_twice}
use Rattle.c99_tree.specs.declared.types.CDef.{CDef}
use Rattle.c99_tree.specs.declared.types.CProto.{CProto}
use Rattle.c99_tree.specs.declared.unit.Unit.{Unit as CUnit}
use Rattle.c99_tree.specs.Run.{Stopped, run}
use Rattle.c99_tree.specs.Step.{Called}
use Rattle.extern_rows.specs.ValueTexts.{EventOf, typed_event_text}
use Rattle.interpreter.specs.Interpreted.{line_of_event, of_trigger}
use Rattle.ring_codegen.specs.CTypes.{c_arguments, c_handler}
use Rattle.ring_codegen.specs.Simulation.{Simulates, called}
use Rattle.ring_codegen.proofs.NamedOnce.{from_map}
use Rattle.c_runner.specs.Executed.{calls_at, line_of_call, of_handler, shown, step_lines}
use Rattle.c_runner.specs.Read.{read_type, read_types}
use Rattle.compiled_runs.specs.Agreement.{is_call}
use Rattle.compiled_runs.proofs.SameColumns.{same_arguments, same_entries}

-- ---- lists

-- the first trigger of a name that is there
record FirstTrigger (ts : List TreeTrigger) (name : List ℕ) : Type 0 where
  first : TreeTrigger
  place : ℕ
  found : find (λ (z : TreeTrigger). pointwise nat_eq z.name name) ts ≡ Some first
  there : slice_get ts place ≡ Some first
  named : first.name ≡ name

first_trigger : (ts : List TreeTrigger) (i : ℕ) (x : TreeTrigger) → slice_get ts i ≡ Some x → FirstTrigger ts x.name
first_trigger [] i x e = absurd (cc e)
first_trigger (y ∷ ts) zero x e =
    let s : y ≡ x = cc e in
    let n : y.name ≡ x.name = ap (λ (z : TreeTrigger). z.name) s in
    record {
      first = y;
      place = 0;
      found = ap (λ (b : Bool). cond b (Some y) (find (λ (z : TreeTrigger). pointwise nat_eq z.name x.name) ts)) (ap (pointwise nat_eq y.name) (sym n) ∙ nat_list_eq_equiv.refl y.name);
      there = refl;
      named = n;
    }
first_trigger (y ∷ ts) (suc i) x e = by (first_trigger ts i x e) (pointwise nat_eq y.name x.name) refl
  where
    by : FirstTrigger ts x.name → (b : Bool) → pointwise nat_eq y.name x.name ≡ b → FirstTrigger (y ∷ ts) x.name
    by rest true q = record {
      first = y;
      place = 0;
      found = ap (λ (b : Bool). cond b (Some y) (find (λ (z : TreeTrigger). pointwise nat_eq z.name x.name) ts)) q;
      there = refl;
      named = list_same y.name x.name q;
    }
    by rest false q = record {
      first = rest.first;
      place = suc rest.place;
      found = ap (λ (b : Bool). cond b (Some y) (find (λ (z : TreeTrigger). pointwise nat_eq z.name x.name) ts)) q ∙ rest.found;
      there = rest.there;
      named = rest.named;
    }

last_get : {X : Type 0} (xs : List X) (y : X) → slice_get (xs ++ y ∷ []) (length xs) ≡ Some y
last_get [] y = refl
last_get (x ∷ xs) y = last_get xs y

log_length : (c : TreeSpec) (h : List (List ℕ)) (n : ℕ) → length (log c h n) ≡ n
log_length c h zero = refl
log_length c h (suc n) = length-append (log c h n) (or_none (step_events c h n) ∷ []) ∙ (let l = log_length c h n in omega (arith, l))

-- the events of a step in the log
log_at : (c : TreeSpec) (h : List (List ℕ)) (n : ℕ) (events : List Event) → step_events c h n ≡ Ok events → slice_get (log c h (suc n)) n ≡ Some events
log_at c h n events is =
    ap (slice_get (log c h (suc n))) (sym (log_length c h n))
    ∙ last_get (log c h n) (or_none (step_events c h n))
    ∙ ap (λ (r : Result (List Event) Hazard). Some (or_none r)) is

-- ---- a specification and its program

module _ (s : SpecValue) (w : WellTyped s) (free : HasNoCycle (trees s).defs) (name : List ℕ) (u : CUnit) (is : Simulates s name u) where
  abbrev t : TreeSpec
  t = trees s

  abbrev c : TreeSpec
  c = closed_spec s

  entries : read_types u.types ≡ s.types
  entries = ap read_types is.types ∙ same_entries s.types w.types w.names.types

  abbrev of_item : TriggerItem → TreeTrigger
  of_item y = let at : ℕ → Term = tree s.nodes s.libs in record { name = y.name; guard = tree_root at y.guard; args = map (tree_root at) y.args }

  abbrev close : TreeTrigger → TreeTrigger
  close y = record y { guard = root_with (written_out t.defs) y.guard; args = map (root_with (written_out t.defs)) y.args }

  abbrev ty_of : TreeRoot → Ty
  ty_of r = r.ty

  item_types : (y : TriggerItem) → map ty_of (of_item y).args ≡ argument_types y
  item_types y = map_twice ty_of (tree_root (tree s.nodes s.libs)) y.args

  -- triggers of one name have the same types
  alike : (i j : ℕ) (y z : TreeTrigger) → slice_get t.triggers i ≡ Some y → slice_get t.triggers j ≡ Some z → y.name ≡ z.name → map ty_of y.args ≡ map ty_of z.args
  alike i j y z e f n =
      let a = from_map of_item s.triggers i y e in
      let b = from_map of_item s.triggers j z f in
      let nm : a.origin.name ≡ b.origin.name = ap (λ (q : TreeTrigger). q.name) a.is ∙ n ∙ sym (ap (λ (q : TreeTrigger). q.name) b.is) in
      ap (λ (q : TreeTrigger). map ty_of q.args) (sym a.is)
      ∙ item_types a.origin
      ∙ w.names.alike i j a.origin b.origin a.there b.there nm
      ∙ sym (item_types b.origin)
      ∙ ap (λ (q : TreeTrigger). map ty_of q.args) b.is

  closed_args : (y : TreeTrigger) → c_arguments s.types (close y) ≡ c_arguments s.types y
  closed_args y = map_twice _ (root_with (written_out t.defs)) y.args

  closed_at : (i : ℕ) (y : TreeTrigger) → slice_get t.triggers i ≡ Some y → slice_get c.triggers i ≡ Some (close y)
  closed_at i y e = mapped_get close t.triggers i y e

  arguments : (i : ℕ) (y : TreeTrigger) → slice_get t.triggers i ≡ Some y → map (read_type u.types) (c_arguments s.types y) ≡ map ty_of y.args
  arguments i y e = ap (λ (ds : List CDef). map (read_type ds) (c_arguments s.types y)) is.types ∙ same_arguments s w i y e

  -- the types of a handler's parameters are those of each trigger that calls it
  params : (i : ℕ) (y : TreeTrigger) → slice_get t.triggers i ≡ Some y → map (read_type u.types) (c_handler c y.name).params ≡ map ty_of y.args
  params i y e =
      let f = first_trigger c.triggers i (close y) (closed_at i y e) in
      let a = from_map close t.triggers f.place f.first f.there in
      let n : a.origin.name ≡ y.name = ap (λ (q : TreeTrigger). q.name) a.is ∙ f.named in
      ap (λ (o : Option TreeTrigger). map (read_type u.types) (option_map_or (c_arguments s.types) o [])) f.found
      ∙ ap (λ (q : TreeTrigger). map (read_type u.types) (c_arguments s.types q)) (sym a.is)
      ∙ ap (map (read_type u.types)) (closed_args a.origin)
      ∙ arguments f.place a.origin a.there
      ∙ alike f.place i a.origin y a.there e n

  proto_at : (i : ℕ) (y : TreeTrigger) → slice_get t.triggers i ≡ Some y → slice_get u.handlers (handler_of c i) ≡ Some (c_handler c y.name)
  proto_at i y e =
      ap (λ (ps : List CProto). slice_get ps (handler_of c i)) is.handlers
      ∙ mapped_get (c_handler c) (handled.handlers c) (handler_of c i) y.name (handler_named c i (close y) (closed_at i y e))

  -- ---- lines

  abbrev event_of : List ℕ → List Ty → List ℕ → List EventOf
  event_of who args words = record { mark = false; name = who; args = args; words = words } ∷ []

  call_line : (n i : ℕ) (words : List ℕ) (y : TreeTrigger) → slice_get t.triggers i ≡ Some y
      → line_of_call u n (record { handler = handler_of c i; words = words }) ≡ line_of_event t n (record { who = trigger i; words = words })
  call_line n i words y e =
      ap (λ (o : Option CProto). flat_map (typed_event_text (read_types u.types) n) (of_handler u o words)) (proto_at i y e)
      ∙ ap (λ (tys : List Ty). flat_map (typed_event_text (read_types u.types) n) (event_of y.name tys words)) (params i y e)
      ∙ ap (λ (ts : List TypeEntry). flat_map (typed_event_text ts n) (event_of y.name (map ty_of y.args) words)) entries
      ∙ sym (ap (λ (o : Option TreeTrigger). flat_map (typed_event_text s.types n) (of_trigger o words)) e)

  abbrev Worded : Event → Type 0
  Worded e = AreWordsOf s e.who e.words

  trigger_at : (i : ℕ) (ws : List ℕ) → AreWordsOf s (trigger i) ws → (y : TreeTrigger) × (slice_get t.triggers i ≡ Some y)
  trigger_at i ws h = (of_item h.0, mapped_get of_item s.triggers i h.0 h.1)

  lines : (n : ℕ) (events : List Event) → AllByRecursion Worded events
      → flat_map (line_of_call u n) (map called (calls_of c events)) ≡ flat_map (line_of_event t n) (filter is_call events)
  lines n [] h = refl
  lines n (e ∷ es) h = one e.who e.words h.0 (lines n es h.1)
    where
      one : (who : Who) (ws : List ℕ) → AreWordsOf s who ws → flat_map (line_of_call u n) (map called (calls_of c es)) ≡ flat_map (line_of_event t n) (filter is_call es)
          → flat_map (line_of_call u n) (map called (call_of c who ws ++ calls_of c es)) ≡ flat_map (line_of_event t n) (filter is_call (record { who = who; words = ws } ∷ es))
      one (trigger i) ws fit rest =
          let at = trigger_at i ws fit in
          flat_map-cons (line_of_call u n) (record { handler = handler_of c i; words = ws }) (map called (calls_of c es))
          ∙ ap (λ (l : List ℕ). l ++ flat_map (line_of_call u n) (map called (calls_of c es))) (call_line n i ws at.0 at.1)
          ∙ ap (λ (l : List ℕ). line_of_event t n (record { who = trigger i; words = ws }) ++ l) rest
          ∙ sym (flat_map-cons (line_of_event t n) (record { who = trigger i; words = ws }) (filter is_call es))
      one (observer i) ws fit rest = rest

  -- ---- steps

  worded : (h : List (List ℕ)) (n : ℕ) (events : List Event) → IsHistory s h → n < length h → step_events (without_defs t) h n ≡ Ok events → AllByRecursion Worded events
  worded h n events history low own =
      let first = bind_apart _ _ events own in
      let before = bind_apart (table s h n) _ first.0 first.1 in
      let found = events_apart (closed_spec s) h n before.0 before.1 events own in
      subst (AllByRecursion Worded) (sym found.2)
      (event_words s w (acyclic s w free) h history n before.0 before.1 low found.0 found.1)

  pub same_step : (h : List (List ℕ)) (n : ℕ) (events : List Event) → IsHistory s h → Clean s h (n + 1) → step_events (without_defs t) h n ≡ Ok events
      → step_lines u h n ≡ Ok (flat_map (line_of_event t n) (filter is_call events))
  same_step h n events history clean own =
      let next : n + 1 ≡ suc n = omega arith in
      let ran : run u h (n + 1) ≡ Ok (map (map called) (calls s h (suc n))) = is.calls h (n + 1) history clean ∙ ap (λ (k : ℕ). Ok (map (map called) (calls s h k))) next in
      let at : slice_get (map (map called) (calls s h (suc n))) n ≡ Some (map called (calls_of c events)) =
      mapped_get (map called) (calls s h (suc n)) n (calls_of c events) (mapped_get (calls_of c) (log c h (suc n)) n events (log_at c h n events own)) in
      let low : n < length h = let l = clean.within in omega (arith, l) in
      ap (λ (r : Result (List (List Called)) Stopped). shown u n (calls_at n r)) ran
      ∙ ap (λ (o : Option (List Called)). shown u n (Ok (unwrap_or o []))) at
      ∙ ap Ok (lines n events (worded h n events history low own))
