-- Two steps over which the expressions have the same values find the same.
use Rattle.std.proofs.Common.{◌≡◌, ℕ, suc, ◌+◌, List, [], ◌∷◌, ◌++◌, length, map, Result, Ok, refl, sym, ap, ◌∙◌, subst, arith}
use Rattle.std.specs.Prelude.{All, if◌then◌else◌, slice_index_or}
use Rattle.std.specs.List.{AllByRecursion}
use Rattle.std.proofs.lemmas.List.Elements.{recursion_from_All}
use Rattle.stream_types.specs.declared.scalar.Hazard.{Hazard}
use Rattle.stream_types.specs.declared.types.TypeEntry.{TypeEntry}
use Rattle.stream_core.specs.Value.{SpecValue}
use Rattle.stream_core.specs.Term.{Term, TreeSpec, TreeStream, TreeTrigger, TreeObserver, TreeRoot, trees}
use Rattle.stream_core.specs.Library.{bind, is_true_word}
use Rattle.stream_core.specs.Eval.{Moment, Table, Line, Event, StepValues, Value, trigger, observer, first_word, value, values, concat_values, events_of_trigger, fired, observed, lines, stream_line, step_at, moment, place_of, cons}
use Rattle.stream_core.specs.Plain.{IsPlain, IsPlainTrigger, IsPlainSpec, lists_from}
use Rattle.stream_core.specs.Meaning.{closed_spec}
use Rattle.stream_core.proofs.Recent.{from_here}
use Rattle.stream_core.proofs.PlainDefs.{plain_stays}
use Rattle.stream_lib.specs.PlainSpecs.{IsSoundPlain}
use Rattle.stream_interp.specs.Seen.{now_moment}
use Rattle.stream_interp.proofs.ClosedForms.{no_operands, streams_count}

module _ (m n : Moment) (P : Term → Type 0) (same : (e : Term) → P e → value m e ≡ value n e) where
  abbrev Each : List TreeRoot → Type 0
  Each rs = AllByRecursion (λ (r : TreeRoot). P r.expr) rs

  abbrev OfTrigger : TreeTrigger → Type 0
  OfTrigger x = P x.guard.expr × Each x.args

  cons_same : (a a' b b' : Value) → a ≡ a' → b ≡ b' → cons a b ≡ cons a' b'
  cons_same a a' b b' p q = ap (λ (u : Value). cons u b) p ∙ ap (λ (u : Value). cons a' u) q

  concat_same : (rs : List TreeRoot) → Each rs → concat_values m rs ≡ concat_values n rs
  concat_same [] h = refl
  concat_same (r ∷ rs) h = cons_same _ _ _ _ (same r.expr h.0) (concat_same rs h.1)

  abbrev by_guard : ℕ → Value → Value → Result (List Event) Hazard
  by_guard i guard args = bind guard (λ g. if is_true_word (first_word g) then bind args (λ ws. Ok (record { who = trigger i; words = ws } ∷ [])) else Ok [])

  trigger_same : (i : ℕ) (x : TreeTrigger) → OfTrigger x → events_of_trigger m i x ≡ events_of_trigger n i x
  trigger_same i x h = ap (λ (v : Value). by_guard i v (concat_values m x.args)) (same x.guard.expr h.0) ∙ ap (by_guard i (value n x.guard.expr)) (concat_same x.args h.1)

  two_events : (a a' b b' : Result (List Event) Hazard) → a ≡ a' → b ≡ b' → bind a (λ es. bind b (λ more_. Ok (es ++ more_))) ≡ bind a' (λ es. bind b' (λ more_. Ok (es ++ more_)))
  two_events a a' b b' p q = ap (λ (u : Result (List Event) Hazard). bind u (λ es. bind b (λ more_. Ok (es ++ more_)))) p ∙ ap (λ (u : Result (List Event) Hazard). bind a' (λ es. bind u (λ more_. Ok (es ++ more_)))) q

  fired_same : (i : ℕ) (xs : List TreeTrigger) → AllByRecursion OfTrigger xs → fired m i xs ≡ fired n i xs
  fired_same i [] h = refl
  fired_same i (x ∷ xs) h = two_events _ _ _ _ (trigger_same i x h.0) (fired_same (i + 1) xs h.1)

  two_observed : (i : ℕ) (a a' : Value) (b b' : Result (List Event) Hazard) → a ≡ a' → b ≡ b' → bind a (λ ws. bind b (λ es. Ok (record { who = observer i; words = ws } ∷ es))) ≡ bind a' (λ ws. bind b' (λ es. Ok (record { who = observer i; words = ws } ∷ es)))
  two_observed i a a' b b' p q =
      ap (λ (u : Value). bind u (λ ws. bind b (λ es. Ok (record { who = observer i; words = ws } ∷ es)))) p ∙ ap (λ (u : Result (List Event) Hazard). bind a' (λ ws. bind u (λ es. Ok (record { who = observer i; words = ws } ∷ es)))) q

  observed_same : (i : ℕ) (xs : List TreeObserver) → AllByRecursion (λ (x : TreeObserver). P x.root.expr) xs → observed m i xs ≡ observed n i xs
  observed_same i [] h = refl
  observed_same i (x ∷ xs) h = two_observed i _ _ _ _ (same x.root.expr h.0) (observed_same (i + 1) xs h.1)

  two_values : (a a' : Value) (b b' : Result (List (List ℕ)) Hazard) → a ≡ a' → b ≡ b' → bind a (λ x. bind b (λ xs. Ok (x ∷ xs))) ≡ bind a' (λ x. bind b' (λ xs. Ok (x ∷ xs)))
  two_values a a' b b' p q = ap (λ (u : Value). bind u (λ x. bind b (λ xs. Ok (x ∷ xs)))) p ∙ ap (λ (u : Result (List (List ℕ)) Hazard). bind a' (λ x. bind u (λ xs. Ok (x ∷ xs)))) q

  values_same : (es : List Term) → AllByRecursion P es → values m es ≡ values n es
  values_same [] h = refl
  values_same (e ∷ es) h = two_values _ _ _ _ (same e h.0) (values_same es h.1)

  module _ (s : TreeSpec) where
    abbrev exprs : List Term
    exprs = map (λ (l : Line). l.expr) (lines s)

    abbrev after : Result (List Event) Hazard → Result (List Event) Hazard → Result (List (List ℕ)) Hazard → Result StepValues Hazard
    after a b c = bind a (λ ts. bind b (λ os. bind c (λ ns. Ok (record { triggered = ts; observed = os; nexts = ns }))))

    three : (a a' b b' : Result (List Event) Hazard) (c c' : Result (List (List ℕ)) Hazard) → a ≡ a' → b ≡ b' → c ≡ c' → after a b c ≡ after a' b' c'
    three a a' b b' c c' p q r = ap (λ (u : Result (List Event) Hazard). after u b c) p ∙ ap (λ (u : Result (List Event) Hazard). after a' u c) q ∙ ap (after a' b') r

    pub step_same : AllByRecursion OfTrigger s.triggers → AllByRecursion (λ (x : TreeObserver). P x.root.expr) s.observers → AllByRecursion P exprs → step_at s m ≡ step_at s n
    step_same t o e = three _ _ _ _ _ _ (fired_same 0 s.triggers t) (observed_same 0 s.observers o) (values_same exprs e)

-- ---- over the lists from now on

triggers_plain : (xs : List TreeTrigger) → All IsPlainTrigger xs → AllByRecursion (λ (x : TreeTrigger). IsPlain x.guard.expr × AllByRecursion (λ (r : TreeRoot). IsPlain r.expr) x.args) xs
triggers_plain [] h = tt
triggers_plain (x ∷ xs) h =
    let own = recursion_from_All IsPlainTrigger (x ∷ xs) h in
    ((own.0.0, recursion_from_All (λ (r : TreeRoot). IsPlain r.expr) x.args own.0.1), triggers_plain xs (λ k d b. h (suc k) d (omega (arith, b))))

exprs_plain : (types : List TypeEntry) (xs : List TreeStream) → AllByRecursion (λ (x : TreeStream). IsPlain x.expr) xs → AllByRecursion IsPlain (map (λ (l : Line). l.expr) (map (stream_line types) xs ++ []))
exprs_plain types [] h = tt
exprs_plain types (x ∷ xs) h = (h.0, exprs_plain types xs h.1)

module _ (s : SpecValue) (plain : IsSoundPlain s) where
  written : IsPlainSpec (closed_spec s)
  written = plain_stays (trees s) plain.plain

  lines_plain : AllByRecursion IsPlain (map (λ (l : Line). l.expr) (lines (closed_spec s)))
  lines_plain =
      subst (λ (ls : List Line). AllByRecursion IsPlain (map (λ (l : Line). l.expr) (map (stream_line s.types) (closed_spec s).streams ++ ls))) (sym (no_operands s plain.no_forms))
      (exprs_plain s.types (closed_spec s).streams (recursion_from_All (λ (x : TreeStream). IsPlain x.expr) (closed_spec s).streams written.streams))

  module _ (lists : Table) (h : List (List ℕ)) (t : ℕ) (row : List ℕ) (row_is : slice_index_or h t [] ≡ row) where
    abbrev then_ : Moment
    then_ = moment (closed_spec s) lists h t

    abbrev from_now : ℕ → List ℕ → Moment
    from_now count r = record { types = s.types; externs = s.externs; place = place_of count (closed_spec s).libs; table = lists_from t lists; row = r; time = 0 }

    value_now : (e : Term) → IsPlain e → value then_ e ≡ value (now_moment s (lists_from t lists) row) e
    unfolding now_moment
    value_now e p =
        from_here then_ lists t e p
        ∙ ap (λ (r : List ℕ). value (from_now (length (closed_spec s).streams) r) e) row_is
        ∙ ap (λ (c : ℕ). value (from_now c row) e) (streams_count s)

    pub step_now : step_at (closed_spec s) then_ ≡ step_at (closed_spec s) (now_moment s (lists_from t lists) row)
    step_now =
        step_same then_ (now_moment s (lists_from t lists) row) IsPlain value_now (closed_spec s)
        (triggers_plain (closed_spec s).triggers written.triggers)
        (recursion_from_All (λ (x : TreeObserver). IsPlain x.root.expr) (closed_spec s).observers written.observers)
        lines_plain
