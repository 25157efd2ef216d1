-- The calls of a step: those of the triggers that fire, with their arguments' words.
use Rattle.std.proofs.Common.{◌≡◌, ℕ, zero, suc, ◌+◌, ◌<◌, Bool, true, false, not, List, [], ◌∷◌, ◌++◌, map, append_assoc, append-nil, Some, Ok, ⊎_elim, refl, sym, ap, ◌∙◌, subst, arith}
use Rattle.std.specs.Prelude.{slice_get, pos, IsTrue, if◌then◌else◌}
use Rattle.std.specs.List.{flat_map, AllByRecursion}
use Rattle.std.proofs.lemmas.Bool.Decides.{nat_tests}
use Rattle.stream_types.specs.declared.scalar.Scalar.TheVariants as scalar
use Rattle.stream_types.specs.Numbers as of
use Rattle.stream_core.specs.Library.{is_true_word}
use Rattle.stream_core.specs.Term.{TreeSpec, TreeTrigger, TreeRoot}
use Rattle.stream_core.specs.Eval.{Moment, Event, first_word}
use Rattle.stream_core.specs.StepParts as parts
use Rattle.stream_core.specs.StepParts.{HaveValues, AreFired, Fires}
use Rattle.stream_core.specs.WellTyped.{bool}
use Rattle.stream_core.specs.Handlers.{Call, calls_of}
use Rattle.stream_core.specs.Handlers as handlers
use Rattle.c99_tree.specs.declared.expr.CExpr.{CExpr}
use Rattle.c99_tree.specs.declared.types.CTy.{CTy}
use Rattle.c99_tree.specs.declared.unit.Unit.{Unit as CUnit}
use Rattle.c99_tree.specs.Tree.{Exprs, tree, exprs, statement}
use Rattle.c99_tree.specs.CTypes.{Num, is_zero}
use Rattle.c99_tree.specs.Lookup.{place_of_handler}
use Rattle.c99_tree.specs.Values.{Value, Values, number, words_of_all, number_in}
use Rattle.c99_tree.specs.Evaluation.{done, ◌>>=◌, evaluate, evaluate_all}
use Rattle.c99_tree.specs.Step.{Called, Progress, with_call, params_of, called_if, carry_out}
use Rattle.ring_codegen.specs.CTypes.{c_type}
use Rattle.ring_codegen.specs.Simulation.{called}
use Rattle.ring_codegen.specs.Translation.{translated, trigger_statement}
use Rattle.ring_codegen.specs.Standing.{StandsFor, IsMomentOf, IsTranslated, IsTriggerTranslated}
use Rattle.stream_types.specs.TypeList.{IsTypeList}
use Rattle.ring_codegen.proofs.Worded.{all_words_back}
use Rattle.ring_codegen.proofs.Evaluated.{then_value}
use Rattle.ring_codegen.proofs.NamedOnce.{LooksUp}
use Rattle.ring_codegen.proofs.OperatorPremises.{OperatorTypes, OperatorWords}
use Rattle.ring_codegen.proofs.ValuesGiven.{GivesAll, more_given, none_given, gives}
use Rattle.ring_codegen.proofs.Reaching.{Reaches, reach_none, reach_more}

-- what the program finds of a trigger's handler
pub record HandlersFound (spec : TreeSpec) (u : CUnit) : Type 0 where
  pub params : (i : ℕ) (x : TreeTrigger) → slice_get spec.triggers i ≡ Some x → params_of u x.name ≡ map (c_type spec.types) (map (λ (r : TreeRoot). r.ty) x.args)
  pub place : (i : ℕ) (x : TreeTrigger) → slice_get spec.triggers i ≡ Some x → place_of_handler u x.name ≡ handlers.handler_of spec i

guard_zero : (w : ℕ) (x : Num) → IsTrue (of.is_word scalar.Bool w) → x.n ≡ pos w → is_zero x ≡ not (is_true_word w)
guard_zero zero x i e = ap (λ n. is_zero (record { ty = x.ty; n = n })) e
guard_zero (suc zero) x i e = ap (λ n. is_zero (record { ty = x.ty; n = n })) e
guard_zero (suc (suc w)) x i e = let q : suc (suc w) < 2 = grind (arith, nat_tests, i) in absurd (omega (arith, q))

not_called : (u : CUnit) (h : List ℕ) (args : Exprs) (p : Progress) (x : Num) → is_zero x ≡ true → (called_if u h args p x).value ≡ Ok p
not_called u h args p x e = ap (λ (b : Bool). (if b then done (Ok p) else (evaluate_all u p.statics (params_of u h) args >>= λ (vs : Values).
    done (Ok (with_call (record { handler = place_of_handler u h; words = words_of_all vs }) p)))).value) e

is_called : (u : CUnit) (h : List ℕ) (args : Exprs) (p : Progress) (x : Num) (vs : Values) → is_zero x ≡ false → (evaluate_all u p.statics (params_of u h) args).value ≡ Ok vs
    → (called_if u h args p x).value ≡ Ok (with_call (record { handler = place_of_handler u h; words = words_of_all vs }) p)
is_called u h args p x vs e f =
    ap (λ (b : Bool). (if b then done (Ok p) else (evaluate_all u p.statics (params_of u h) args >>= λ (vs : Values).
    done (Ok (with_call (record { handler = place_of_handler u h; words = words_of_all vs }) p)))).value) e
    ∙ then_value (evaluate_all u p.statics (params_of u h) args) (λ (vs : Values). done (Ok (with_call (record { handler = place_of_handler u h; words = words_of_all vs }) p))) vs f

module _ (spec : TreeSpec) (u : CUnit) (m : Moment) (xs : List Value) (types : OperatorTypes) (ops : OperatorWords) (good : IsTypeList spec.types) (looks : LooksUp spec u) (found : HandlersFound spec u) (now : IsMomentOf spec m) where
  abbrev args_of : TreeTrigger → List CExpr
  args_of x = map (λ (r : TreeRoot). translated spec r.expr) x.args

  roots_give : (p : Progress) → StandsFor spec m p.statics → (rs : List TreeRoot) (vals : List (List ℕ)) → AllByRecursion (λ (r : TreeRoot). IsTranslated spec r.expr r.ty) rs → HaveValues m (map (λ (r : TreeRoot). r.expr) rs) vals
      → GivesAll spec.types u p.statics (map (λ (r : TreeRoot). translated spec r.expr) rs) (map (λ (r : TreeRoot). r.ty) rs) (flat_map (λ v. v) vals)
  roots_give p stand [] [] h v = none_given spec.types u p.statics [] refl
  roots_give p stand [] (w ∷ vals) h v = absurd v
  roots_give p stand (r ∷ rs) [] h v = absurd v
  roots_give p stand (r ∷ rs) (w ∷ vals) h v =
      more_given spec.types u p.statics (translated spec r.expr) (map (λ (r : TreeRoot). translated spec r.expr) rs) r.ty (map (λ (r : TreeRoot). r.ty) rs) (flat_map (λ v. v) (w ∷ vals)) w (flat_map (λ v. v) vals) refl
      (gives spec u m p.statics types ops good looks now stand r.expr r.ty w h.0.typed h.0.plain h.0.written v.0)
      (roots_give p stand rs vals h.1 v.1)

  -- the guard decides
  record Guarded (p : Progress) (x : TreeTrigger) (b : Bool) : Type 0 where
    value : Num
    is : (evaluate u p.statics (tree (translated spec x.guard.expr))).value ≡ Ok (number value)
    zero : is_zero value ≡ not b

  guarded : (p : Progress) (x : TreeTrigger) (b : Bool) → StandsFor spec m p.statics → IsTriggerTranslated spec x → parts.HasGuard m x b → Guarded p x b
  guarded p x b stand h g =
      let r = gives spec u m p.statics types ops good looks now stand x.guard.expr bool g.guard h.guard.typed h.guard.plain h.guard.written g.is in
      let truth : is_true_word r.word ≡ b = ap (λ (ws : List ℕ). is_true_word (first_word ws)) (sym r.words) ∙ g.truth in
      record { value = r.gives.value; is = r.gives.is; zero = guard_zero r.word r.gives.value r.good r.gives.carries.is ∙ ap not truth }

  statement_skips : (p : Progress) (x : TreeTrigger) → StandsFor spec m p.statics → IsTriggerTranslated spec x → parts.HasGuard m x false → (carry_out u xs (statement (trigger_statement spec x)) p).value ≡ Ok p
  statement_skips p x stand h g =
      let q = guarded p x false stand h g in
      then_value (evaluate u p.statics (tree (translated spec x.guard.expr))) (λ (v : Value). called_if u x.name (exprs (map tree (args_of x))) p (number_in v)) (number q.value) q.is
      ∙ not_called u x.name (exprs (map tree (args_of x))) p q.value q.zero

  statement_calls : (p : Progress) (i : ℕ) (x : TreeTrigger) (e : Event) → StandsFor spec m p.statics → IsTriggerTranslated spec x → slice_get spec.triggers i ≡ Some x → Fires m i x e
      → (carry_out u xs (statement (trigger_statement spec x)) p).value ≡ Ok (with_call (record { handler = handlers.handler_of spec i; words = e.words }) p)
  statement_calls p i x e stand h at f =
      let q = guarded p x true stand h f.guard in
      let a = roots_give p stand x.args f.args h.args f.are in
      let args = exprs (map tree (args_of x)) in
      let are : (evaluate_all u p.statics (params_of u x.name) args).value ≡ Ok a.all = subst (λ (ts : List CTy). (evaluate_all u p.statics ts args).value ≡ Ok a.all) (sym (found.params i x at)) a.are in
      let words : words_of_all a.all ≡ e.words = all_words_back spec.types (map (λ (r : TreeRoot). r.ty) x.args) a.all (flat_map (λ v. v) f.args) a.words ∙ ap (λ (y : Event). y.words) (sym f.event) in
      then_value (evaluate u p.statics (tree (translated spec x.guard.expr))) (λ (v : Value). called_if u x.name args p (number_in v)) (number q.value) q.is
      ∙ is_called u x.name args p q.value a.all q.zero are
      ∙ (λ j. Ok (with_call (record { handler = found.place i x at j; words = words j }) p))

  -- where the calls of these triggers lead
  pub record AllCalled (ts : List TreeTrigger) (p : Progress) (es : List Event) : Type 0 where
    pub end : Progress
    pub reach : Reaches u xs (map statement (map (trigger_statement spec) ts)) p end
    pub statics : end.statics ≡ p.statics
    pub locals : end.locals ≡ p.locals
    pub calls : end.called ≡ p.called ++ map called (calls_of spec es)

  event_call : (i : ℕ) (x : TreeTrigger) (e : Event) (rest : List Event) → Fires m i x e → map called (calls_of spec (e ∷ rest)) ≡ record { handler = handlers.handler_of spec i; words = e.words } ∷ map called (calls_of spec rest)
  event_call i x e rest f =
      ap (λ (y : Event). map called (calls_of spec (y ∷ rest))) f.event
      ∙ ap (λ (y : Event). record { handler = handlers.handler_of spec i; words = y.words } ∷ map called (calls_of spec rest)) (sym f.event)

  pub all_called : (ts : List TreeTrigger) (i : ℕ) (p : Progress) (es : List Event) → ((j : ℕ) (x : TreeTrigger) → slice_get ts j ≡ Some x → slice_get spec.triggers (i + j) ≡ Some x)
      → AllByRecursion (IsTriggerTranslated spec) ts → StandsFor spec m p.statics → AreFired m i ts es → AllCalled ts p es
  all_called [] i p es at h stand f =
      record { end = p; reach = reach_none u xs p; statics = refl; locals = refl; calls = sym (append-nil p.called) ∙ ap (λ (y : List Event). p.called ++ map called (calls_of spec y)) (sym f) }
  all_called (x ∷ ts) i p es at h stand f = ⊎_elim
      (λ skip. skipped (statement_skips p x stand h.0 skip.0) (all_called ts (i + 1) p es later h.1 stand skip.1))
      (λ fire. fired fire.0 fire.1 fire.2 fire.3 (statement_calls p i x fire.0 stand h.0 here fire.3)
      (all_called ts (i + 1) (with_call (record { handler = handlers.handler_of spec i; words = fire.0.words }) p) fire.1 later h.1 stand fire.4))
      f
    where
      here : slice_get spec.triggers i ≡ Some x
      here = let z : i + 0 ≡ i = omega arith in subst (λ (k : ℕ). slice_get spec.triggers k ≡ Some x) z (at 0 x refl)

      later : (j : ℕ) (y : TreeTrigger) → slice_get ts j ≡ Some y → slice_get spec.triggers (i + 1 + j) ≡ Some y
      later j y e = let s : i + suc j ≡ i + 1 + j = omega arith in subst (λ (k : ℕ). slice_get spec.triggers k ≡ Some y) s (at (suc j) y e)

      skipped : (carry_out u xs (statement (trigger_statement spec x)) p).value ≡ Ok p → AllCalled ts p es → AllCalled (x ∷ ts) p es
      skipped one r = record {
        end = r.end;
        reach = reach_more u xs (statement (trigger_statement spec x)) (map statement (map (trigger_statement spec) ts)) p p r.end one r.reach;
        statics = r.statics;
        locals = r.locals;
        calls = r.calls;
      }

      fired : (e : Event) (rest : List Event) → es ≡ e ∷ rest → Fires m i x e → (carry_out u xs (statement (trigger_statement spec x)) p).value ≡ Ok (with_call (record { handler = handlers.handler_of spec i; words = e.words }) p)
          → AllCalled ts (with_call (record { handler = handlers.handler_of spec i; words = e.words }) p) rest → AllCalled (x ∷ ts) p es
      fired e rest is fires one r = record {
        end = r.end;
        reach = reach_more u xs (statement (trigger_statement spec x)) (map statement (map (trigger_statement spec) ts)) p (with_call (record { handler = handlers.handler_of spec i; words = e.words }) p) r.end one r.reach;
        statics = r.statics;
        locals = r.locals;
        calls = r.calls ∙ append_assoc p.called (record { handler = handlers.handler_of spec i; words = e.words } ∷ []) (map called (calls_of spec rest))
            ∙ ap (λ (c : List Called). p.called ++ c) (sym (event_call i x e rest fires)) ∙ ap (λ (y : List Event). p.called ++ map called (calls_of spec y)) (sym is);
      }
