-- The value of what an expression is lowered to is the expression's, where the buffers hold what they should.
use Rattle.std.proofs.Common.{arith, ◌≡◌, ℕ, zero, suc, ◌+◌, ◌≤◌, List, [], ◌∷◌, ◌++◌, length, replicate, refl, sym, ap, ◌∙◌, subst, Some, Result, Ok, Err}
use Rattle.std.specs.Prelude.{slice_get, slice_index, IsTrue, IfOk}
use Rattle.std.specs.List.{AllByRecursion}
use Rattle.stream_types.specs.declared.scalar.Scalar.{Scalar}
use Rattle.stream_types.specs.declared.scalar.Hazard.{Hazard}
use Rattle.stream_types.specs.declared.scalar.Ty.{Ty}
use Rattle.stream_types.specs.declared.scalar.Ty.TheVariants as ty
use Rattle.stream_types.specs.declared.types.TypeEntry.{TypeEntry}
use Rattle.stream_types.specs.Numbers.{is_word}
use Rattle.stream_types.specs.Types.{leaves, entry_of, AreWords}
use Rattle.stream_core.specs.declared.node.LibForm.{LibForm}
use Rattle.stream_core.specs.declared.node.LibForm.TheVariants as form
use Rattle.stream_core.specs.Term.{Term, Terms, lit, extern, stream, def, named, missing, dropped, un, bin, shift, cast, and, or, implies, choose, index, field, array, struct, abs, sign, majority, agreed, lib, end, more, TreeLib}
use Rattle.stream_core.specs.Library.{bind, form_value, majority_of, agreed_of}
use Rattle.stream_core.specs.Eval.{Moment, Table, Value, value, all_values, values, entry_at, operand_word, one, truth}
use Rattle.stream_core.specs.Signature.{Signature, StreamSignature}
use Rattle.stream_core.specs.WellTyped.{HasType, HaveTypes, IsGoodForm, operand_types, terms_length}
use Rattle.stream_core.specs.WrittenOut.{IsFormOf, IsWrittenOut, AreWritten}
use Rattle.stream_core.specs.Lower.{lowered, lowered_terms, lowered_all, form_term, majority_term, agreed_term}
use Rattle.stream_core.specs.Children.{term_list}
use Rattle.stream_core.proofs.Values.{test_same, index_same}
use Rattle.form_laws.specs.Buffers.{AreSamples, AreNow, HoldBuffers, IsFormStep, singles}
use Rattle.form_laws.specs.ScalarTerms.{HasWord}
use Rattle.form_laws.specs.Kept.{samples_at}
use Rattle.form_laws.proofs.VoteWords.{lowered_list}
use Rattle.form_laws.proofs.KeptForms.{AllFormsKept, PlainFormsKept}

-- ---- values of one word each

-- a value of each type
abbrev pub AreEach : List TypeEntry → List Ty → List (List ℕ) → Type 0
AreEach types [] [] = Unit {0}
AreEach types [] (v ∷ vs) = ⊥
AreEach types (t ∷ ts) [] = ⊥
AreEach types (t ∷ ts) (v ∷ vs) = AreWords (leaves types t) v × AreEach types ts vs

one_word : (c : Scalar) (v : List ℕ) → AreWords (c ∷ []) v → (w : ℕ) × (v ≡ w ∷ []) × IsTrue (is_word c w)
one_word c [] h = absurd h
one_word c (w ∷ []) h = (w, refl, h.0)
one_word c (w ∷ x ∷ v) h = absurd h.1

abbrev IsScalar : Ty → Type 0
IsScalar (ty.Scalar c) = Unit {0}
IsScalar _ = ⊥

operands_scalar : (f : LibForm) → AllByRecursion IsScalar (operand_types f)
operands_scalar form.Since = (tt, (tt, tt))
operands_scalar (form.SinceIn low high) = (tt, (tt, tt))
operands_scalar (form.Clock period phase) = tt
operands_scalar (form.WindowMax n s) = (tt, tt)
operands_scalar (form.WindowMin n s) = (tt, tt)
operands_scalar (form.WindowSum n s) = (tt, tt)
operands_scalar form.Once = (tt, tt)
operands_scalar form.Historically = (tt, tt)
operands_scalar form.Yesterday = (tt, tt)
operands_scalar form.WeaklyYesterday = (tt, tt)
operands_scalar (form.OnceIn low high) = (tt, tt)
operands_scalar (form.HistoricallyIn low high) = (tt, tt)

-- the words of values of scalars
record Singles (ts : List Ty) (vs : List (List ℕ)) : Type 0 where
  pub now : List ℕ
  pub is : vs ≡ singles now
  pub count : length now ≡ length ts
  pub words : (j : ℕ) (c : Scalar) → slice_get ts j ≡ Some (ty.Scalar c) → IsTrue (is_word c (slice_index now j))

same_scalar : (c d : Scalar) → ty.Scalar c ≡ ty.Scalar d → c ≡ d
same_scalar c d e = cc

each_single : (types : List TypeEntry) (ts : List Ty) (vs : List (List ℕ)) → AllByRecursion IsScalar ts → AreEach types ts vs → Singles ts vs
each_single types [] [] a h = record { now = []; is = refl; count = refl; words = λ j c e. absurd (cc) }
each_single types [] (v ∷ vs) a h = absurd h
each_single types (t ∷ ts) [] a h = absurd h
each_single types (ty.Array i ∷ ts) (v ∷ vs) a h = absurd a.0
each_single types (ty.Struct i ∷ ts) (v ∷ vs) a h = absurd a.0
each_single types (ty.Scalar c ∷ ts) (v ∷ vs) a h =
    let first = one_word c v h.0 in
    let rest = each_single types ts vs a.1 h.1 in
    record { now = first.0 ∷ rest.now; is = ap (λ u. u ∷ vs) first.1 ∙ ap (λ us. (first.0 ∷ []) ∷ us) rest.is; count = ap suc rest.count; words = at first.0 first.2 rest.now rest.words }
  where
    at : (w : ℕ) → IsTrue (is_word c w) → (ws : List ℕ) → ((j : ℕ) (d : Scalar) → slice_get ts j ≡ Some (ty.Scalar d) → IsTrue (is_word d (slice_index ws j))) → (j : ℕ) (d : Scalar) → slice_get (ty.Scalar c ∷ ts) j ≡ Some (ty.Scalar d) → IsTrue (is_word d (slice_index (w ∷ ws) j))
    at w p ws h zero d e = let q : ty.Scalar c ≡ ty.Scalar d = cc in subst (λ x. IsTrue (is_word x w)) (same_scalar c d q) p
    at w p ws h (suc j) d e = h j d e

pub now_of : (types : List TypeEntry) (f : LibForm) (vs : List (List ℕ)) → AreEach types (operand_types f) vs → (now : List ℕ) × (vs ≡ singles now) × AreNow f now
now_of types f vs h =
    let s = each_single types (operand_types f) vs (operands_scalar f) h in
    (s.now, s.is, record { count = s.count; words = s.words })

-- ---- values of several expressions

abbrev flat : List (List ℕ) → List ℕ
flat [] = []
flat (v ∷ vs) = v ++ flat vs

flat_singles : (now : List ℕ) → flat (singles now) ≡ now
flat_singles [] = refl
flat_singles (w ∷ ws) = ap (λ r. w ∷ r) (flat_singles ws)

flat_step : (v : Value) (r : Result (List (List ℕ)) Hazard) → bind v (λ x. bind (bind r (λ vs. Ok (flat vs))) (λ xs. Ok (x ++ xs))) ≡ bind (bind v (λ x. bind r (λ xs. Ok (x ∷ xs)))) (λ vs. Ok (flat vs))
flat_step (Ok x) (Ok vs) = refl
flat_step (Ok x) (Err h) = refl
flat_step (Err h) r = refl

all_flat : (m : Moment) (es : Terms) → all_values m es ≡ bind (values m (term_list es)) (λ vs. Ok (flat vs))
all_flat m end = refl
all_flat m (more a es) = ap (λ (r : Value). bind (value m a) (λ x. bind r (λ xs. Ok (x ++ xs)))) (all_flat m es) ∙ flat_step (value m a) (values m (term_list es))

pub each_typed : (types : List TypeEntry) (t : Ty) (ts : List Ty) (v : Value) (r : Result (List (List ℕ)) Hazard) → IfOk v (AreWords (leaves types t)) → IfOk r (AreEach types ts) → IfOk (bind v (λ x. bind r (λ xs. Ok (x ∷ xs)))) (AreEach types (t ∷ ts))
each_typed types t ts (Ok x) (Ok xs) h g = (h, g)
each_typed types t ts (Ok x) (Err e) h g = tt
each_typed types t ts (Err e) r h g = tt

pub two_listed : (v w : Value) (p q : Result (List (List ℕ)) Hazard) → v ≡ w → p ≡ q → bind v (λ x. bind p (λ xs. Ok (x ∷ xs))) ≡ bind w (λ x. bind q (λ xs. Ok (x ∷ xs)))
two_listed v w p q e f = ap (λ (u : Value). bind u (λ x. bind p (λ xs. Ok (x ∷ xs)))) e ∙ ap (λ (u : Result (List (List ℕ)) Hazard). bind w (λ x. bind u (λ xs. Ok (x ∷ xs)))) f

pub two_joined : (v w p q : Value) → v ≡ w → p ≡ q → bind v (λ x. bind p (λ xs. Ok (x ++ xs))) ≡ bind w (λ x. bind q (λ xs. Ok (x ++ xs)))
two_joined v w p q e f = ap (λ (u : Value). bind u (λ x. bind p (λ xs. Ok (x ++ xs)))) e ∙ ap (λ (u : Value). bind w (λ x. bind u (λ xs. Ok (x ++ xs)))) f

-- what is known of an answer that is given
pub known : {A : Type 0} (P : A → Type 0) (r : Result A Hazard) (x : A) → IfOk r P → r ≡ Ok x → P x
known P (Ok y) x h e = let is : y ≡ x = cc in subst P is h
known P (Err f) x h e = absurd (cc)

-- ---- expressions

module _ (kept : AllFormsKept) (plain : PlainFormsKept) (sig : Signature) (libs : List TreeLib) (m : Moment) (place : ℕ → ℕ) (X : Table) (at : ℕ → ℕ)
    (typed : (e : Term) (t : Ty) → HasType sig e t → IsWrittenOut libs e → IfOk (value m e) (AreWords (leaves m.types t)))
    (streams : (x : ℕ) (y : StreamSignature) → slice_get sig.streams x ≡ Some y → (i : ℕ) → entry_at X x i ≡ entry_at m.table x i)
    (hold : (k : ℕ) (f : LibForm) → IsFormOf libs k f → HoldBuffers f (at k) X m.time (samples_at m.table (m.place k)))
    (samples : (k : ℕ) (f : LibForm) → IsFormOf libs k f → AreSamples f m.time (samples_at m.table (m.place k)))
  where
    abbrev r : Moment
    r = record m { place = place; table = X }

    list_typed : (es : Terms) (ts : List Ty) → HaveTypes sig es ts → AreWritten (λ d. ⊥) libs es → IfOk (values m (term_list es)) (AreEach m.types ts)
    list_typed end [] h o = tt
    list_typed end (t ∷ ts) h o = absurd h
    list_typed (more a es) [] h o = absurd h
    list_typed (more a es) (t ∷ ts) h o = each_typed m.types t ts (value m a) (values m (term_list es)) (typed a t h.0 o.0) (list_typed es ts h.1 o.1)

    lib_same : (k : ℕ) (f : LibForm) (es : Terms) → IsGoodForm f → HaveTypes sig es (operand_types f) → IsFormOf libs k f → AreWritten (λ d. ⊥) libs es → length (lowered_all at es) ≡ length (operand_types f)
        → values r (lowered_all at es) ≡ values m (term_list es) → value r (form_term f (at k) (lowered_all at es)) ≡ value m (lib k f es)
    lib_same k f es good h is o count same = by (values m (term_list es)) refl
      where
        by : (v : Result (List (List ℕ)) Hazard) → values m (term_list es) ≡ v → value r (form_term f (at k) (lowered_all at es)) ≡ value m (lib k f es)
        by (Err e) q =
            (kept.kept f good).stops r (at k) (lowered_all at es) e (record { count = count; met = same ∙ q })
            ∙ sym (ap (λ (u : Value). bind u (λ now. one (form_value f m.time (operand_word m k now)))) (all_flat m es ∙ ap (λ u. bind u (λ vs. Ok (flat vs))) q))
        by (Ok vs) q =
            let each : AreEach m.types (operand_types f) vs = known (AreEach m.types (operand_types f)) (values m (term_list es)) vs (list_typed es (operand_types f) h o) q in
            let found = now_of m.types f vs each in
            let step : IsFormStep f r (at k) (lowered_all at es) (samples_at m.table (m.place k)) found.0 = record { samples = samples k f is; words = found.2; hold = hold k f is; given = same ∙ q ∙ ap Ok found.1 } in
            let all : all_values m es ≡ Ok found.0 = all_flat m es ∙ ap (λ u. bind u (λ vs. Ok (flat vs))) (q ∙ ap Ok found.1) ∙ ap Ok (flat_singles found.0) in
            (kept.kept f good).given r (at k) (lowered_all at es) (samples_at m.table (m.place k)) found.0 step
            ∙ sym (ap (λ (u : Value). bind u (λ now. one (form_value f m.time (operand_word m k now)))) all)

    has_word : (c : Scalar) (a : Term) → value r (lowered at a) ≡ value m a → IfOk (value m a) (AreWords (c ∷ [])) → HasWord r c (lowered at a)
    has_word c a same h v e = one_word c v (known (AreWords (c ∷ [])) (value m a) v h (sym same ∙ e))

    as_many : (es : Terms) (ts : List Ty) → HaveTypes sig es ts → length (lowered_all at es) ≡ length ts
    as_many end [] h = refl
    as_many end (t ∷ ts) h = absurd h
    as_many (more a es) [] h = absurd h
    as_many (more a es) (t ∷ ts) h = ap suc (as_many es ts h.1)

    terms_counted : (es : Terms) → terms_length (lowered_terms at es) ≡ terms_length es
    terms_counted end = refl
    terms_counted (more a es) = ap suc (terms_counted es)

    mutual
      pub same : (e : Term) (t : Ty) → HasType sig e t → IsWrittenOut libs e → value r (lowered at e) ≡ value m e
      same (lit c w) t h o = refl
      same (extern x) t h o = refl
      same (stream x) t h o = ap Ok (streams x h.stream h.is m.time)
      same (def d) t h o = absurd o
      same (named d a) t h o = same a t h.1 o
      same missing t h o = absurd h
      same (dropped x k) t h o = ap Ok (streams x h.stream h.is (m.time + k))
      same (un p c a) t h o = let i = same a _ h.1 o in cc
      same (bin p c a b) t h o = let i = same a _ h.1 o.0 in let j = same b _ h.2 o.1 in cc
      same (shift d c a cs b) t h o = let i = same a _ h.1 o.0 in let j = same b _ h.2 o.1 in cc
      same (cast from to a) t h o = let i = same a _ h.1 o in cc
      same (and a b) t h o = test_same _ _ _ _ _ _ (same a _ h.0 o.0) (same b _ h.1 o.1) refl
      same (or a b) t h o = test_same _ _ _ _ _ _ (same a _ h.0 o.0) refl (same b _ h.1 o.1)
      same (implies a b) t h o = test_same _ _ _ _ _ _ (same a _ h.0 o.0) (same b _ h.1 o.1) refl
      same (choose c a b) t h o = test_same _ _ _ _ _ _ (same c _ h.0 o.0) (same a t h.1 o.1) (same b t h.2 o.2)
      same (index of a i) t h o = index_same m.types (entry_of m.types of) _ _ _ _ (same a of h.2 o.0) (same i _ h.3 o.1)
      same (field of k a) t h o = let i = same a of h.1 o in cc
      same (array of es) t h o = all_same es _ h.3 o
      same (struct of es) t h o = all_same es _ h.2 o
      same (abs c a) t h o =
          let i = same a _ h.1 o in
          let w = has_word c a i (typed a _ h.1 o) in
          plain.abs r c (lowered at a) h.0 w ∙ (let q : value r (abs c (lowered at a)) ≡ value m (abs c a) = cc in q)
      same (sign c a) t h o =
          let i = same a _ h.1 o in
          let w = has_word c a i (typed a _ h.1 o) in
          plain.sign r c (lowered at a) h.0 w ∙ (let q : value r (sign c (lowered at a)) ≡ value m (sign c a) = cc in q)
      same (majority c es) t h o =
          let few : terms_length (lowered_terms at es) ≤ 255 = let n = terms_counted es in let b = h.0.1 in omega (arith, n, b) in
          ap (λ l. value r (majority_term c l)) (sym (lowered_list at es)) ∙ plain.majority r c (lowered_terms at es) (few, words_have es c (terms_length es) h.1 o)
          ∙ ap (λ (v : Value). bind v (λ ws. Ok (majority_of ws ∷ []))) (all_same es _ h.1 o)
      same (agreed c es) t h o =
          let few : terms_length (lowered_terms at es) ≤ 255 = let n = terms_counted es in let b = h.0.1 in omega (arith, n, b) in
          ap (λ l. value r (agreed_term c l)) (sym (lowered_list at es)) ∙ plain.agreed r c (lowered_terms at es) (few, words_have es c (terms_length es) h.1 o)
          ∙ ap (λ (v : Value). bind v (λ ws. truth (agreed_of ws))) (all_same es _ h.1 o)
      same (lib k f es) t h o = lib_same k f es h.0 h.1 o.0 o.1 (as_many es (operand_types f) h.1) (list_same es (operand_types f) h.1 o.1)

      all_same : (es : Terms) (ts : List Ty) → HaveTypes sig es ts → AreWritten (λ d. ⊥) libs es → all_values r (lowered_terms at es) ≡ all_values m es
      all_same end [] h o = refl
      all_same end (t ∷ ts) h o = absurd h
      all_same (more a es) [] h o = absurd h
      all_same (more a es) (t ∷ ts) h o = two_joined _ _ _ _ (same a t h.0 o.0) (all_same es ts h.1 o.1)

      list_same : (es : Terms) (ts : List Ty) → HaveTypes sig es ts → AreWritten (λ d. ⊥) libs es → values r (lowered_all at es) ≡ values m (term_list es)
      list_same end [] h o = refl
      list_same end (t ∷ ts) h o = absurd h
      list_same (more a es) [] h o = absurd h
      list_same (more a es) (t ∷ ts) h o = two_listed _ _ _ _ (same a t h.0 o.0) (list_same es ts h.1 o.1)

      words_have : (es : Terms) (c : Scalar) (n : ℕ) → HaveTypes sig es (replicate n (ty.Scalar c)) → AreWritten (λ d. ⊥) libs es → AllByRecursion (HasWord r c) (term_list (lowered_terms at es))
      words_have end c n h o = tt
      words_have (more a es) c zero h o = absurd h
      words_have (more a es) c (suc n) h o = (has_word c a (same a (ty.Scalar c) h.0 o.0) (typed a (ty.Scalar c) h.0 o.0), words_have es c n h.1 o.1)
