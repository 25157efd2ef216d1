-- A lowered specification has the steps of the specification.
use Rattle.std.proofs.Common.{◌≡◌, ℕ, zero, suc, ◌+◌, ◌<◌, ◌≤◌, List, [], ◌∷◌, ◌++◌, length, map, refl, sym, ap, ◌∙◌, subst, arith, Some, Result, Ok, Err, append-nil}
use Rattle.std.specs.Prelude.{slice_get, slice_index_or, IfOk, if◌then◌else◌}
use Rattle.std.specs.List.{AllByRecursion}
use Rattle.stream_types.specs.declared.scalar.Hazard.{Hazard}
use Rattle.stream_types.specs.declared.scalar.Ty.{Ty}
use Rattle.stream_types.specs.declared.types.TypeEntry.{TypeEntry}
use Rattle.stream_types.specs.Types.{leaves, AreWords}
use Rattle.stream_core.specs.declared.node.LibForm.{LibForm}
use Rattle.stream_core.specs.Term.{Term, TreeSpec, TreeStream, TreeTrigger, TreeObserver, TreeLib, TreeRoot, root_with}
use Rattle.stream_core.specs.Library.{bind, is_true_word}
use Rattle.stream_core.specs.Eval.{Moment, Table, Line, Event, StepValues, Value, trigger, observer, entry_at, first_word, value, values, concat_values, events_of_trigger, fired, observed, lines, stream_line, operand_lines, step_at, moment, events_of, initial, extend, grown, next_table, table_after, step_events, place_of, IsHistory}
use Rattle.stream_core.specs.Signature.{Signature, StreamSignature, stream_signature, signature_of}
use Rattle.stream_core.specs.WellTyped.{HasType, ListHasTypes, RootHasType, IsGoodTrigger, IsGoodLib, operand_types}
use Rattle.stream_core.specs.WrittenOut.{IsFormOf, IsWrittenOut}
use Rattle.stream_core.specs.TypedParts.{HasTypedParts}
use Rattle.stream_core.specs.Lower.{lowered, lowered_spec, buffers, buffer_of, buffers_of, all_buffers, depth}
use Rattle.stream_core.proofs.TypedTables.{IsClosedStream, IsClosedLib, IsClosed, AreLists, line_types, lists_typed, value_typed}
use Rattle.form_laws.specs.Buffers.{HoldBuffers, IsFormStep, StopsForm, singles, with_now, buffer_entry}
use Rattle.form_laws.specs.Kept.{samples_at}
use Rattle.form_laws.proofs.KeptForms.{AllFormsKept, PlainFormsKept}
use Rattle.form_laws.proofs.OutOfSpecs.{map_twice, map_append, map_length}
use Rattle.form_laws.proofs.PlainForms.{each_of}
use Rattle.form_laws.proofs.BufferLists as listed
use Rattle.form_laws.proofs.BufferStreams.{AsMany}
use Rattle.form_laws.proofs.LoweredParts.{many, get_there, get_earlier}
use Rattle.form_laws.proofs.LoweredValues.{AreEach, now_of, each_typed, two_listed, two_joined, known, same}
use Rattle.form_laws.proofs.LoweredTables.{At, at_end, at_first, at_second, list_grows, list_is, Holds, IsNext, AllHold, hold_at, AreNext, all_next, inits, holds_first, mapped_get}

-- ---- answers that go together

-- both have values, which are so related, or both the same hazard
abbrev pub Go : {A B : Type 0} → (A → B → Type 0) → Result A Hazard → Result B Hazard → Type 0
Go Q (Ok x) (Ok y) = Q x y
Go Q (Ok x) (Err e) = ⊥
Go Q (Err d) (Ok y) = ⊥
Go Q (Err d) (Err e) = d ≡ e

go_bind : {A B C D : Type 0} (Q : A → B → Type 0) (R : C → D → Type 0) (a : Result A Hazard) (b : Result B Hazard) (f : A → Result C Hazard) (g : B → Result D Hazard) → Go Q a b → ((x : A) (y : B) → Q x y → Go R (f x) (g y)) → Go R (bind a f) (bind b g)
go_bind Q R (Ok x) (Ok y) f g h k = k x y h
go_bind Q R (Ok x) (Err e) f g h k = absurd h
go_bind Q R (Err d) (Ok y) f g h k = absurd h
go_bind Q R (Err d) (Err e) f g h k = h

go_same : {A B C : Type 0} (Q : A → B → Type 0) (a : Result A Hazard) (b : Result B Hazard) (f : A → Result C Hazard) (g : B → Result C Hazard) → Go Q a b → ((x : A) (y : B) → Q x y → f x ≡ g y) → bind a f ≡ bind b g
go_same Q (Ok x) (Ok y) f g h k = k x y h
go_same Q (Ok x) (Err e) f g h k = absurd h
go_same Q (Err d) (Ok y) f g h k = absurd h
go_same Q (Err d) (Err e) f g h k = ap Err h

go_refl : {A : Type 0} (a : Result A Hazard) → Go (λ x y. x ≡ y) a a
go_refl (Ok x) = refl
go_refl (Err e) = refl

go_equal : {A : Type 0} (a b : Result A Hazard) → a ≡ b → Go (λ (x : A) (y : A). x ≡ y) a b
go_equal a b e = subst (λ z. Go (λ x y. x ≡ y) a z) e (go_refl a)

go_known : {A B : Type 0} (Q : A → B → Type 0) (P : A → Type 0) (a : Result A Hazard) (b : Result B Hazard) → Go Q a b → IfOk a P → Go (λ x y. Q x y × P x) a b
go_known Q P (Ok x) (Ok y) h p = (h, p)
go_known Q P (Ok x) (Err e) h p = absurd h
go_known Q P (Err d) (Ok y) h p = absurd h
go_known Q P (Err d) (Err e) h p = h

go_less : {A B : Type 0} (Q R : A → B → Type 0) (a : Result A Hazard) (b : Result B Hazard) → ((x : A) (y : B) → Q x y → R x y) → Go Q a b → Go R a b
go_less Q R (Ok x) (Ok y) k h = k x y h
go_less Q R (Ok x) (Err e) k h = absurd h
go_less Q R (Err d) (Ok y) k h = absurd h
go_less Q R (Err d) (Err e) k h = h

go_as : {A B : Type 0} (Q : A → B → Type 0) (a a' : Result A Hazard) (b b' : Result B Hazard) → a ≡ a' → b ≡ b' → Go Q a' b' → Go Q a b
go_as Q a a' b b' e f h = subst (λ x. Go Q x b) (sym e) (subst (λ y. Go Q a' y) (sym f) h)

-- ---- values of lists of expressions

joined_step : (v : Value) (p q : Result (List (List ℕ)) Hazard) → bind v (λ x. bind (bind p (λ xs. bind q (λ ys. Ok (xs ++ ys)))) (λ zs. Ok (x ∷ zs))) ≡ bind (bind v (λ x. bind p (λ xs. Ok (x ∷ xs)))) (λ xs. bind q (λ ys. Ok (xs ++ ys)))
joined_step (Err e) p q = refl
joined_step (Ok x) (Err e) q = refl
joined_step (Ok x) (Ok xs) (Err e) = refl
joined_step (Ok x) (Ok xs) (Ok ys) = refl

bind_end : (q : Result (List (List ℕ)) Hazard) → q ≡ bind q (λ ys. Ok ([] ++ ys))
bind_end (Ok ys) = refl
bind_end (Err e) = refl

values_append : (m : Moment) (xs ys : List Term) → values m (xs ++ ys) ≡ bind (values m xs) (λ vs. bind (values m ys) (λ ws. Ok (vs ++ ws)))
values_append m [] ys = bind_end (values m ys)
values_append m (x ∷ xs) ys = ap (λ (r : Result (List (List ℕ)) Hazard). bind (value m x) (λ v. bind r (λ vs. Ok (v ∷ vs)))) (values_append m xs ys) ∙ joined_step (value m x) (values m xs) (values m ys)

count_values : (m : Moment) (xs : List Term) → IfOk (values m xs) (λ vs. length vs ≡ length xs)
count_values m [] = refl
count_values m (x ∷ xs) = by (value m x) (values m xs) (count_values m xs)
  where
    by : (v : Value) (r : Result (List (List ℕ)) Hazard) → IfOk r (λ vs. length vs ≡ length xs) → IfOk (bind v (λ y. bind r (λ ys. Ok (y ∷ ys)))) (λ vs. length vs ≡ suc (length xs))
    by (Ok y) (Ok ys) h = ap suc h
    by (Ok y) (Err e) h = tt
    by (Err e) r h = tt

abbrev exprs : List TreeStream → List Term
exprs xs = map (λ (x : TreeStream). x.expr) xs

-- streams whose expressions have values
streams_have : (m : Moment) (xs : List TreeStream) (at : ℕ → List ℕ) → ((j : ℕ) (x : TreeStream) → slice_get xs j ≡ Some x → value m x.expr ≡ Ok (at j)) → (ws : List (List ℕ)) × (values m (exprs xs) ≡ Ok ws) × (length ws ≡ length xs) × ((j : ℕ) → j < length xs → slice_get ws j ≡ Some (at j))
streams_have m [] at h = ([], refl, refl, λ j b. absurd (omega (arith, b)))
streams_have m (x ∷ xs) at h =
    let rest = streams_have m xs (λ j. at (suc j)) (λ j y e. h (suc j) y e) in
    (at 0 ∷ rest.0, two_listed _ _ _ _ (h 0 x refl) rest.1, ap suc rest.2, places rest.0 rest.3)
  where
    places : (ws : List (List ℕ)) → ((j : ℕ) → j < length xs → slice_get ws j ≡ Some (at (suc j))) → (j : ℕ) → j < suc (length xs) → slice_get (at 0 ∷ ws) j ≡ Some (at j)
    places ws g zero b = refl
    places ws g (suc j) b = g j (omega (arith, b))

abbrev operand_exprs : List TreeLib → List Term
operand_exprs [] = []
operand_exprs (x ∷ xs) = x.args ++ operand_exprs xs

line_exprs : (es : List Term) → map (λ (l : Line). l.expr) (map (λ e. record { init = []; expr = e }) es) ≡ es
line_exprs [] = refl
line_exprs (e ∷ es) = ap (λ r. e ∷ r) (line_exprs es)

operands_are : (xs : List TreeLib) → map (λ (l : Line). l.expr) (operand_lines xs) ≡ operand_exprs xs
operands_are [] = refl
operands_are (x ∷ xs) =
    map_append (λ (l : Line). l.expr) (map (λ e. record { init = []; expr = e }) x.args) (operand_lines xs)
    ∙ ap (λ es. es ++ map (λ (l : Line). l.expr) (operand_lines xs)) (line_exprs x.args) ∙ ap (λ es. x.args ++ es) (operands_are xs)

-- the expressions of all lines
lines_are : (s : TreeSpec) → map (λ (l : Line). l.expr) (lines s) ≡ exprs s.streams ++ operand_exprs s.libs
lines_are s =
    map_append (λ (l : Line). l.expr) (map (stream_line s.types) s.streams) (operand_lines s.libs)
    ∙ ap (λ es. es ++ map (λ (l : Line). l.expr) (operand_lines s.libs)) (map_twice (λ (l : Line). l.expr) (stream_line s.types) s.streams)
    ∙ ap (λ es. exprs s.streams ++ es) (operands_are s.libs)

within_streams : (types : List TypeEntry) (xs : List TreeStream) (k : ℕ) (y : StreamSignature) → slice_get (map (stream_signature types) xs) k ≡ Some y → k < length xs
within_streams types [] k y e = absurd (cc)
within_streams types (x ∷ xs) zero y e = omega arith
within_streams types (x ∷ xs) (suc k) y e = let b = within_streams types xs k y e in omega (arith, b)

-- ---- a specification whose defs are written out

-- no root has a bare def, and each form is the specification's
pub record RootsWritten (s : TreeSpec) : Type 0 where
  pub triggers : AllByRecursion (λ (x : TreeTrigger). IsWrittenOut s.libs x.guard.expr × AllByRecursion (λ (r : TreeRoot). IsWrittenOut s.libs r.expr) x.args) s.triggers
  pub observers : AllByRecursion (λ (x : TreeObserver). IsWrittenOut s.libs x.root.expr) s.observers

module _ (kept : AllFormsKept) (plain : PlainFormsKept) (s : TreeSpec) (parts : HasTypedParts s) (closed : IsClosed s) (roots : RootsWritten s) (h : List (List ℕ)) (history : IsHistory s h) where
  abbrev count : ℕ
  count = length s.streams

  abbrev at : ℕ → ℕ
  at = buffer_of count s.libs

  abbrev low : Term → Term
  low e = lowered at e

  abbrev sig : Signature
  sig = signature_of s

  abbrev own : List TreeStream → List TreeStream
  own xs = map (λ (x : TreeStream). record x { expr = low x.expr }) xs

  -- the tables before step t
  record Related (t : ℕ) (T X : Table) : Type 0 where
    pub streams : (x : ℕ) → x < count → (l : List (List ℕ)) × (slice_get T x ≡ Some l) × (slice_get X x ≡ Some l)
    pub forms : AllHold t count count s.libs T X

  module _ (t : ℕ) (within : t < length h) (T X : Table) (lists : AreLists s.types t (lines s) (line_types s) T) (rel : Related t T X) where
    abbrev m : Moment
    m = moment s T h t

    abbrev r : Moment
    r = moment (lowered_spec s) X h t

    typed : (e : Term) (u : Ty) → HasType sig e u → IsWrittenOut s.libs e → IfOk (value m e) (AreWords (leaves s.types u))
    typed e u g o = value_typed s closed h history t within T lists e u g o

    streams_same : (x : ℕ) (y : StreamSignature) → slice_get sig.streams x ≡ Some y → (i : ℕ) → entry_at X x i ≡ entry_at T x i
    streams_same x y e i =
        let found = rel.streams x (within_streams s.types s.streams x y e) in
        ap (λ l. slice_index_or l i []) (list_is X x found.0 found.2 ∙ sym (list_is T x found.0 found.1))

    form_holds : (k : ℕ) (f : LibForm) → IsFormOf s.libs k f → Holds t f (place_of count s.libs k) (at k) T X
    form_holds k f is = subst (λ g. Holds t g (place_of count s.libs k) (at k) T X) is.form_is (hold_at t count count s.libs T X rel.forms k is.item is.is)

    value_same : (e : Term) (u : Ty) → HasType sig e u → IsWrittenOut s.libs e → value r (low e) ≡ value m e
    value_same e u g o =
        same kept plain sig s.libs m (place_of (length (lowered_spec s).streams) []) X at typed streams_same (λ k f is. (form_holds k f is).hold) (λ k f is. (form_holds k f is).samples) e u g o

    -- ---- events

    concat_same : (rs : List TreeRoot) → AllByRecursion (RootHasType sig) rs → AllByRecursion (λ (x : TreeRoot). IsWrittenOut s.libs x.expr) rs → concat_values r (map (root_with low) rs) ≡ concat_values m rs
    concat_same [] g o = refl
    concat_same (x ∷ xs) g o = two_joined _ _ _ _ (value_same x.expr x.ty g.0 o.0) (concat_same xs g.1 o.1)

    abbrev low_trigger : TreeTrigger → TreeTrigger
    low_trigger x = record x { guard = root_with low x.guard; args = map (root_with low) x.args }

    abbrev events_by : ℕ → Value → Value → Result (List Event) Hazard
    events_by i guard args = bind guard (λ g. if is_true_word (first_word g) then bind args (λ ws. Ok (record { who = trigger i; words = ws } ∷ [])) else Ok [])

    trigger_same : (i : ℕ) (x : TreeTrigger) → IsGoodTrigger sig x → IsWrittenOut s.libs x.guard.expr × AllByRecursion (λ (r : TreeRoot). IsWrittenOut s.libs r.expr) x.args → events_of_trigger r i (low_trigger x) ≡ events_of_trigger m i x
    trigger_same i x g o =
        ap (λ v. events_by i v (concat_values r (map (root_with low) x.args))) (value_same x.guard.expr x.guard.ty g.guard o.0)
        ∙ ap (events_by i (value m x.guard.expr)) (concat_same x.args (each_of (RootHasType sig) x.args g.args) o.1)

    two_events : (a a' b b' : Result (List Event) Hazard) → a ≡ a' → b ≡ b' → bind a (λ es. bind b (λ more_. Ok (es ++ more_))) ≡ bind a' (λ es. bind b' (λ more_. Ok (es ++ more_)))
    two_events a a' b b' p q = ap (λ (u : Result (List Event) Hazard). bind u (λ es. bind b (λ more_. Ok (es ++ more_)))) p ∙ ap (λ (u : Result (List Event) Hazard). bind a' (λ es. bind u (λ more_. Ok (es ++ more_)))) q

    fired_same : (i : ℕ) (xs : List TreeTrigger) → AllByRecursion (IsGoodTrigger sig) xs → AllByRecursion (λ (x : TreeTrigger). IsWrittenOut s.libs x.guard.expr × AllByRecursion (λ (r : TreeRoot). IsWrittenOut s.libs r.expr) x.args) xs → fired r i (map low_trigger xs) ≡ fired m i xs
    fired_same i [] g o = refl
    fired_same i (x ∷ xs) g o = two_events _ _ _ _ (trigger_same i x g.0 o.0) (fired_same (i + 1) xs g.1 o.1)

    two_observed : (i : ℕ) (a a' : Value) (b b' : Result (List Event) Hazard) → a ≡ a' → b ≡ b' → bind a (λ ws. bind b (λ es. Ok (record { who = observer i; words = ws } ∷ es))) ≡ bind a' (λ ws. bind b' (λ es. Ok (record { who = observer i; words = ws } ∷ es)))
    two_observed i a a' b b' p q =
        ap (λ (u : Value). bind u (λ ws. bind b (λ es. Ok (record { who = observer i; words = ws } ∷ es)))) p ∙ ap (λ (u : Result (List Event) Hazard). bind a' (λ ws. bind u (λ es. Ok (record { who = observer i; words = ws } ∷ es)))) q

    observed_same : (i : ℕ) (xs : List TreeObserver) → AllByRecursion (λ (x : TreeObserver). RootHasType sig x.root) xs → AllByRecursion (λ (x : TreeObserver). IsWrittenOut s.libs x.root.expr) xs → observed r i (map (λ (x : TreeObserver). record x { root = root_with low x.root }) xs) ≡ observed m i xs
    observed_same i [] g o = refl
    observed_same i (x ∷ xs) g o = two_observed i _ _ _ _ (value_same x.root.expr x.root.ty g.0 o.0) (observed_same (i + 1) xs g.1 o.1)

    -- ---- next values

    own_same : (xs : List TreeStream) → AllByRecursion (IsClosedStream s) xs → values r (exprs (own xs)) ≡ values m (exprs xs)
    own_same [] g = refl
    own_same (x ∷ xs) g = two_listed _ _ _ _ (value_same x.expr x.ty g.0.expr g.0.written) (own_same xs g.1)

    args_same : (es : List Term) (ts : List Ty) → ListHasTypes sig es ts → AllByRecursion (IsWrittenOut s.libs) es → values r (map low es) ≡ values m es
    args_same [] ts g o = refl
    args_same (e ∷ es) [] g o = absurd g
    args_same (e ∷ es) (u ∷ ts) g o = two_listed _ _ _ _ (value_same e u g.0 o.0) (args_same es ts g.1 o.1)

    args_typed : (es : List Term) (ts : List Ty) → ListHasTypes sig es ts → AllByRecursion (IsWrittenOut s.libs) es → IfOk (values m es) (AreEach s.types ts)
    args_typed [] [] g o = tt
    args_typed [] (u ∷ ts) g o = absurd g
    args_typed (e ∷ es) [] g o = absurd g
    args_typed (e ∷ es) (u ∷ ts) g o = each_typed s.types u ts (value m e) (values m es) (typed e u g.0 o.0) (args_typed es ts g.1 o.1)

    as_many : (es : List Term) (ts : List Ty) → ListHasTypes sig es ts → length es ≡ length ts
    as_many [] [] g = refl
    as_many [] (u ∷ ts) g = absurd g
    as_many (e ∷ es) [] g = absurd g
    as_many (e ∷ es) (u ∷ ts) g = ap suc (as_many es ts g.1)

    -- the operands of one form, and its buffers
    abbrev OneNext : LibForm → ℕ → List (List ℕ) → List (List ℕ) → Type 0
    OneNext f n vs ws = (now : List ℕ) × (vs ≡ singles now) × IsNext t f (samples_at T n) now ws

    form_go : (number n b : ℕ) (x : TreeLib) → IsClosedLib s x → IsGoodLib sig x → Holds t x.form n b T X → Go (OneNext x.form n) (values m x.args) (values r (exprs (buffers_of x.form number b x.at (map low x.args))))
    form_go number n b x c g hold = by (values m x.args) refl
      where
        mine : List TreeStream
        mine = buffers_of x.form number b x.at (map low x.args)

        many_low : length (map low x.args) ≡ length (operand_types x.form)
        many_low = map_length low x.args ∙ as_many x.args (operand_types x.form) c.args

        by : (v : Result (List (List ℕ)) Hazard) → values m x.args ≡ v → Go (OneNext x.form n) v (values r (exprs (buffers_of x.form number b x.at (map low x.args))))
        by (Err e) q =
            let stops : StopsForm x.form r (map low x.args) e = record { count = many_low; met = args_same x.args (operand_types x.form) c.args c.written ∙ q } in
            subst (λ v. Go (OneNext x.form n) (Err e) v) (sym ((kept.kept x.form g.form).halts r number b x.at (map low x.args) e stops)) refl
        by (Ok vs) q =
            let each : AreEach s.types (operand_types x.form) vs = known (AreEach s.types (operand_types x.form)) (values m x.args) vs (args_typed x.args (operand_types x.form) c.args c.written) q in
            let found = now_of s.types x.form vs each in
            let step : IsFormStep x.form r b (map low x.args) (samples_at T n) found.0 = record { samples = hold.samples; words = found.2; hold = hold.hold; given = args_same x.args (operand_types x.form) c.args c.written ∙ q ∙ ap Ok found.1 } in
            let moves = (kept.kept x.form g.form).moves r number b x.at (map low x.args) (samples_at T n) found.0 step in
            let counted : length (buffers_of x.form number b x.at (map low x.args)) ≡ buffers x.form = listed.as_many x.form number b x.at (map low x.args) many_low in
            let all = streams_have r (buffers_of x.form number b x.at (map low x.args)) (λ j. buffer_entry x.form (with_now t (samples_at T n) found.0) j (depth x.form + t) ∷ []) moves in
            let next : IsNext t x.form (samples_at T n) found.0 all.0 = record { words = found.2; count = all.2 ∙ counted; entries = λ j less. all.3 j (omega (arith, less, counted)) } in
            subst (λ v. Go (OneNext x.form n) (Ok vs) v) (sym all.1) (found.0, found.1, next)

    forms_go : (number n b : ℕ) (xs : List TreeLib) → AllByRecursion (IsClosedLib s) xs → AllByRecursion (IsGoodLib sig) xs → AllHold t n b xs T X → Go (AreNext t n xs T) (values m (operand_exprs xs)) (values r (exprs (all_buffers low number b xs)))
    forms_go number n b [] c g hold = (refl, refl)
    forms_go number n b (x ∷ xs) c g hold =
        let mine = buffers_of x.form number b x.at (map low x.args) in
        let rest = all_buffers low (number + buffers x.form) (b + buffers x.form) xs in
        go_as (AreNext t n (x ∷ xs) T) _ _ _ _ (values_append m x.args (operand_exprs xs)) (ap (values r) (map_append (λ (y : TreeStream). y.expr) mine rest) ∙ values_append r (exprs mine) (exprs rest))
        (go_bind (OneNext x.form n) (AreNext t n (x ∷ xs) T) (values m x.args) (values r (exprs mine)) _ _ (form_go number n b x c.0 g.0 hold.0)
        (λ vs ws one. go_bind (AreNext t (n + length x.args) xs T) (AreNext t n (x ∷ xs) T) (values m (operand_exprs xs)) (values r (exprs rest)) _ _ (forms_go (number + buffers x.form) (n + length x.args) (b + buffers x.form) xs c.1 g.1 hold.1)
        (λ vs' ws' more_. (one.0, ws, vs', ws', ap (λ us. us ++ vs') one.1, refl, one.2, more_))))

    -- the next values of all lines
    abbrev LinesNext : List (List ℕ) → List (List ℕ) → Type 0
    LinesNext vs ws =
        (first : List (List ℕ)) × (ops : List (List ℕ)) × (bufs : List (List ℕ)) × (vs ≡ first ++ ops) × (ws ≡ first ++ bufs) × (length first ≡ count) × AreNext t count s.libs T ops bufs

    lines_go : Go LinesNext (values m (map (λ (l : Line). l.expr) (lines s))) (values r (map (λ (l : Line). l.expr) (lines (lowered_spec s))))
    lines_go =
        let bufs = all_buffers low 1 count s.libs in
        let left : values m (map (λ (l : Line). l.expr) (lines s)) ≡ bind (values m (exprs s.streams)) (λ vs. bind (values m (operand_exprs s.libs)) (λ ws. Ok (vs ++ ws))) =
        ap (values m) (lines_are s) ∙ values_append m (exprs s.streams) (operand_exprs s.libs) in
        let right : values r (map (λ (l : Line). l.expr) (lines (lowered_spec s))) ≡ bind (values r (exprs (own s.streams))) (λ vs. bind (values r (exprs bufs)) (λ ws. Ok (vs ++ ws))) =
        ap (values r) (lines_are (lowered_spec s) ∙ append-nil (exprs (lowered_spec s).streams) ∙ map_append (λ (y : TreeStream). y.expr) (own s.streams) bufs) ∙ values_append r (exprs (own s.streams)) (exprs bufs) in
        go_as LinesNext _ _ _ _ left right
        (go_bind (λ x y. (x ≡ y) × (length x ≡ length (exprs s.streams))) LinesNext (values m (exprs s.streams)) (values r (exprs (own s.streams))) _ _
        (go_known (λ x y. x ≡ y) (λ x. length x ≡ length (exprs s.streams)) (values m (exprs s.streams)) (values r (exprs (own s.streams))) (go_equal _ _ (sym (own_same s.streams closed.streams))) (count_values m (exprs s.streams)))
        (λ vs ws eq. go_bind (AreNext t count s.libs T) LinesNext (values m (operand_exprs s.libs)) (values r (exprs bufs)) _ _ (forms_go 1 count count s.libs closed.libs (each_of (IsGoodLib sig) s.libs parts.libs) rel.forms)
        (λ ops bs next. (vs, ops, bs, refl, ap (λ us. us ++ bs) (sym eq.0), eq.1 ∙ map_length (λ (x : TreeStream). x.expr) s.streams, next))))

    -- ---- the step

    abbrev StepNext : StepValues → StepValues → Type 0
    StepNext v w = (w.triggered ≡ v.triggered) × (w.observed ≡ v.observed) × LinesNext v.nexts w.nexts

    step_go : Go StepNext (step_at s m) (step_at (lowered_spec s) r)
    step_go =
        go_bind (λ x y. x ≡ y) StepNext (fired m 0 s.triggers) (fired r 0 (lowered_spec s).triggers) _ _ (go_equal _ _ (sym (fired_same 0 s.triggers (each_of (IsGoodTrigger sig) s.triggers parts.triggers) roots.triggers)))
        (λ ts ts' p. go_bind (λ x y. x ≡ y) StepNext (observed m 0 s.observers) (observed r 0 (lowered_spec s).observers) _ _ (go_equal _ _ (sym (observed_same 0 s.observers (each_of (λ (x : TreeObserver). RootHasType sig x.root) s.observers parts.observers) roots.observers)))
        (λ os os' q. go_bind LinesNext StepNext (values m (map (λ (l : Line). l.expr) (lines s))) (values r (map (λ (l : Line). l.expr) (lines (lowered_spec s)))) _ _ lines_go
        (λ ns ns' next. (sym p, sym q, next))))

    next_related : (v w : StepValues) → StepNext v w → Related (suc t) (extend T v.nexts) (extend X w.nexts)
    next_related v w q =
        let next = q.2 in
        let first = next.0 in
        record {
          streams = λ x less.
              let old = rel.streams x less in
              let new = let n = next.5 in get_there first x (omega (arith, less, n)) in
              let a : slice_get v.nexts x ≡ Some new.0 = ap (λ zs. slice_get zs x) next.3 ∙ get_earlier first next.1 x new.0 new.1 in
              let b : slice_get w.nexts x ≡ Some new.0 = ap (λ zs. slice_get zs x) next.4 ∙ get_earlier first next.2 x new.0 new.1 in
              (old.0 ++ new.0 ∷ [], list_grows T v.nexts x old.0 new.0 old.1 a, list_grows X w.nexts x old.0 new.0 old.2 b);
          forms = all_next t count count s.libs T X v.nexts w.nexts next.1 next.2 (many s parts) rel.forms next.6
              (subst (λ zs. At zs count next.1) (sym next.3) (at_end first next.1 count next.5)) (subst (λ zs. At zs count next.2) (sym next.4) (at_end first next.2 count next.5));
        }

    table_go : Go (Related (suc t)) (next_table s h t T) (next_table (lowered_spec s) h t X)
    table_go = go_bind StepNext (Related (suc t)) (step_at s m) (step_at (lowered_spec s) r) (grown T) (grown X) step_go next_related

  -- ---- from the first step on

  first_forms : (number n b : ℕ) (xs : List TreeLib) (T X : Table) → AllByRecursion (IsGoodLib sig) xs → AllByRecursion AsMany xs → At T n (inits (operand_lines xs)) → At X b (inits (map (stream_line s.types) (all_buffers low number b xs))) → AllHold 0 n b xs T X
  first_forms number n b [] T X g c a d = tt
  first_forms number n b (x ∷ xs) T X g c a d =
      let args = map (λ e. record { init = []; expr = e }) x.args in
      let mine = buffers_of x.form number b x.at (map low x.args) in
      let rest = all_buffers low (number + buffers x.form) (b + buffers x.form) xs in
      let counted : length mine ≡ buffers x.form = listed.as_many x.form number b x.at (map low x.args) (map_length low x.args ∙ c.0) in
      let a' : At T n (inits args ++ inits (operand_lines xs)) = subst (At T n) (map_append (λ (l : Line). l.init) args (operand_lines xs)) a in
      let d' : At X b (inits (map (stream_line s.types) mine) ++ inits (map (stream_line s.types) rest)) = subst (At X b) (ap inits (map_append (stream_line s.types) mine rest) ∙ map_append (λ (l : Line). l.init) (map (stream_line s.types) mine) (map (stream_line s.types) rest)) d in
      let n1 : length (inits args) ≡ length x.args = map_length (λ (l : Line). l.init) args ∙ map_length (λ e. record { init = []; expr = e }) x.args in
      let n2 : length (inits (map (stream_line s.types) mine)) ≡ buffers x.form = map_length (λ (l : Line). l.init) (map (stream_line s.types) mine) ∙ map_length (stream_line s.types) mine ∙ counted in (
        holds_first kept s.types x.form number n b x.at (map low x.args) x.args T X g.0.form (map_length low x.args ∙ c.0) c.0 (at_first T n (inits args) (inits (operand_lines xs)) a') (at_first X b (inits (map (stream_line s.types) mine)) (inits (map (stream_line s.types) rest)) d'),
        first_forms (number + buffers x.form) (n + length x.args) (b + buffers x.form) xs T X g.1 c.1 (at_second T n (length x.args) (inits args) (inits (operand_lines xs)) n1 a') (at_second X b (buffers x.form) (inits (map (stream_line s.types) mine)) (inits (map (stream_line s.types) rest)) n2 d'),
      )

  first_related : Related 0 (initial s) (initial (lowered_spec s))
  first_related =
      let bufs = all_buffers low 1 count s.libs in
      let left : initial s ≡ inits (map (stream_line s.types) s.streams) ++ inits (operand_lines s.libs) = map_append (λ (l : Line). l.init) (map (stream_line s.types) s.streams) (operand_lines s.libs) in
      let right : initial (lowered_spec s) ≡ inits (map (stream_line s.types) (own s.streams)) ++ inits (map (stream_line s.types) bufs) =
      ap inits (append-nil (map (stream_line s.types) (lowered_spec s).streams) ∙ map_append (stream_line s.types) (own s.streams) bufs) ∙ map_append (λ (l : Line). l.init) (map (stream_line s.types) (own s.streams)) (map (stream_line s.types) bufs) in
      let n1 : length (inits (map (stream_line s.types) s.streams)) ≡ count = map_length (λ (l : Line). l.init) (map (stream_line s.types) s.streams) ∙ map_length (stream_line s.types) s.streams in
      let n2 : length (inits (map (stream_line s.types) (own s.streams))) ≡ count = map_length (λ (l : Line). l.init) (map (stream_line s.types) (own s.streams)) ∙ map_length (stream_line s.types) (own s.streams) ∙ map_length (λ (x : TreeStream). record x { expr = low x.expr }) s.streams in
      record {
        streams = λ x less.
            let found = get_there s.streams x less in
            let l = (stream_line s.types found.0).init in
            let a : slice_get (inits (map (stream_line s.types) s.streams)) x ≡ Some l = mapped_get (λ (l : Line). l.init) (map (stream_line s.types) s.streams) x (stream_line s.types found.0) (mapped_get (stream_line s.types) s.streams x found.0 found.1) in
            let z : TreeStream = record found.0 { expr = low found.0.expr } in
            let b : slice_get (inits (map (stream_line s.types) (own s.streams))) x ≡ Some l =
            mapped_get (λ (l : Line). l.init) (map (stream_line s.types) (own s.streams)) x (stream_line s.types z) (mapped_get (stream_line s.types) (own s.streams) x z (mapped_get (λ (x : TreeStream). record x { expr = low x.expr }) s.streams x found.0 found.1)) in
            (l, ap (λ zs. slice_get zs x) left ∙ get_earlier _ _ x l a, ap (λ zs. slice_get zs x) right ∙ get_earlier _ _ x l b);
        forms = first_forms 1 count count s.libs (initial s) (initial (lowered_spec s)) (each_of (IsGoodLib sig) s.libs parts.libs) (many s parts)
            (subst (λ zs. At zs count (inits (operand_lines s.libs))) (sym left) (at_end _ _ count n1)) (subst (λ zs. At zs count (inits (map (stream_line s.types) bufs))) (sym right) (at_end _ _ count n2));
      }

  tables_go : (t : ℕ) → t ≤ length h → Go (Related t) (table_after s h t) (table_after (lowered_spec s) h t)
  tables_go zero b = first_related
  tables_go (suc t) b =
      go_bind (λ T X. Related t T X × AreLists s.types t (lines s) (line_types s) T) (Related (suc t)) (table_after s h t) (table_after (lowered_spec s) h t) (next_table s h t) (next_table (lowered_spec s) h t)
      (go_known (Related t) (AreLists s.types t (lines s) (line_types s)) (table_after s h t) (table_after (lowered_spec s) h t) (tables_go t (omega (arith, b))) (lists_typed s closed h history t (omega (arith, b))))
      (λ T X p. table_go t (omega (arith, b)) T X p.1 p.0)

  abbrev SameEvents : StepValues → StepValues → Type 0
  SameEvents v w = (w.triggered ≡ v.triggered) × (w.observed ≡ v.observed)

  pub steps_same : (t : ℕ) → t < length h → step_events (lowered_spec s) h t ≡ step_events s h t
  steps_same t b =
      sym (go_same SameEvents (bind (table_after s h t) (λ T. step_at s (moment s T h t))) (bind (table_after (lowered_spec s) h t) (λ X. step_at (lowered_spec s) (moment (lowered_spec s) X h t))) (λ v. Ok (events_of v)) (λ v. Ok (events_of v))
      (go_bind (λ T X. Related t T X × AreLists s.types t (lines s) (line_types s) T) SameEvents (table_after s h t) (table_after (lowered_spec s) h t) _ _
      (go_known (Related t) (AreLists s.types t (lines s) (line_types s)) (table_after s h t) (table_after (lowered_spec s) h t) (tables_go t (omega (arith, b))) (lists_typed s closed h history t (omega (arith, b))))
      (λ T X p. go_less (StepNext t b T X p.1 p.0) SameEvents (step_at s (moment s T h t)) (step_at (lowered_spec s) (moment (lowered_spec s) X h t)) (λ v w q. (q.0, q.1)) (step_go t b T X p.1 p.0)))
      (λ v w q. ap (λ ts. Ok (ts ++ v.observed)) (sym q.0) ∙ ap (λ os. Ok (w.triggered ++ os)) (sym q.1)))

  -- ---- what is related at a step

  go_at : {A B : Type 0} (Q : A → B → Type 0) (a : Result A Hazard) (b : Result B Hazard) (x : A) (y : B) → Go Q a b → a ≡ Ok x → b ≡ Ok y → Q x y
  go_at Q (Ok x') (Ok y') x y g e f = let p : x' ≡ x = cc in let q : y' ≡ y = cc in subst (λ z. Q z y) p (subst (Q x') q g)
  go_at Q (Ok x') (Err d) x y g e f = absurd g
  go_at Q (Err d) b x y g e f = absurd (cc)

  go_err : {A B : Type 0} (Q : A → B → Type 0) (a : Result A Hazard) (b : Result B Hazard) (d : Hazard) → Go Q a b → a ≡ Err d → b ≡ Err d
  go_err Q (Ok x) b d g e = absurd (cc)
  go_err Q (Err c) (Ok y) d g e = absurd g
  go_err Q (Err c) (Err c') d g e = let p : c ≡ d = cc in ap Err (sym g ∙ p)

  go_ok : {A B : Type 0} (Q : A → B → Type 0) (a : Result A Hazard) (b : Result B Hazard) (x : A) → Go Q a b → a ≡ Ok x → (y : B) × (b ≡ Ok y)
  go_ok Q (Ok x') (Ok y) x g e = (y, refl)
  go_ok Q (Ok x') (Err d) x g e = absurd g
  go_ok Q (Err d) b x g e = absurd (cc)

  pub hazards_same : (t : ℕ) → t ≤ length h → (d : Hazard) → table_after s h t ≡ Err d → table_after (lowered_spec s) h t ≡ Err d
  hazards_same t b d e = go_err (Related t) _ _ d (tables_go t b) e

  pub table_there : (t : ℕ) → t ≤ length h → (T : Table) → table_after s h t ≡ Ok T → (X : Table) × (table_after (lowered_spec s) h t ≡ Ok X)
  table_there t b T e = go_ok (Related t) _ _ T (tables_go t b) e

  module _ (t : ℕ) (T X : Table) (is : table_after s h t ≡ Ok T) (low_is : table_after (lowered_spec s) h t ≡ Ok X) where
    related : t ≤ length h → Related t T X
    related b = go_at (Related t) _ _ T X (tables_go t b) is low_is

    pub stream_lists : t ≤ length h → (x : ℕ) → x < count → slice_index_or X x [] ≡ slice_index_or T x []
    stream_lists b x less = let found = (related b).streams x less in list_is X x found.0 found.2 ∙ sym (list_is T x found.0 found.1)

    pub buffer_lists : t ≤ length h → (k : ℕ) (x : TreeLib) → slice_get s.libs k ≡ Some x → HoldBuffers x.form (at k) X t (samples_at T (place_of count s.libs k))
    buffer_lists b k x e = (hold_at t count count s.libs T X (related b).forms k x e).hold

    pub values_same : t < length h → (e : Term) (u : Ty) → HasType sig e u → IsWrittenOut s.libs e → value (moment (lowered_spec s) X h t) (low e) ≡ value (moment s T h t) e
    values_same b e u g o =
        value_same t b T X (known (AreLists s.types t (lines s) (line_types s)) (table_after s h t) T (lists_typed s closed h history t (omega (arith, b))) is) (related (omega (arith, b))) e u g o
