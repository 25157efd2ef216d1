-- The lists of a specification's table and those of what it is lowered to, as both grow.
use Rattle.std.proofs.Common.{◌≡◌, ⊎_elim, ℕ, zero, suc, ◌+◌, ◌-◌, ◌<◌, ◌≤◌, List, [], ◌∷◌, ◌++◌, length, map, refl, sym, ap, ◌∙◌, max, subst, arith, Some, Bool, true, false, nat_lt, length-append}
use Rattle.std.specs.Prelude.{slice_get, slice_index, slice_index_or, IsTrue, if◌then◌else◌, ◌&&◌, ◌||◌, nat_le}
use Rattle.std.proofs.lemmas.Bool.{cases_lt}
use Rattle.std.proofs.lemmas.Bool.Decides.{nat_tests}
use Rattle.stream_types.specs.declared.scalar.Scalar.{Scalar}
use Rattle.std.specs.List.{AllByRecursion}
use Rattle.stream_types.specs.declared.scalar.Ty.{Ty}
use Rattle.stream_types.specs.declared.scalar.Ty.TheVariants as ty
use Rattle.stream_types.specs.declared.types.TypeEntry.{TypeEntry}
use Rattle.stream_types.specs.Numbers.{word, least, greatest, is_word}
use Rattle.stream_types.specs.Types.{bits, signed}
use Rattle.stream_core.specs.declared.node.LibForm.{LibForm}
use Rattle.stream_core.specs.declared.node.LibForm.TheVariants as form
use Rattle.stream_core.specs.Term.{Term, TreeStream, TreeLib}
use Rattle.stream_core.specs.Library.{each_below, since, bool_word, is_true_word}
use Rattle.stream_core.specs.Eval.{Table, Line, first_word, extend, chunks, stream_line, place_of}
use Rattle.stream_core.specs.WellTyped.{IsGoodForm, operand_types}
use Rattle.stream_core.specs.Lower.{depth, buffers, buffer_of, buffers_of}
use Rattle.form_laws.specs.Buffers.{Samples, truths, with_now, taken, followed, buffer_entry, HoldBuffers, AreSamples, AreNow, singles}
use Rattle.form_laws.specs.Kept.{samples_at}
use Rattle.form_laws.proofs.KeptForms.{AllFormsKept}
use Rattle.form_laws.proofs.BufferLists as listed
use Rattle.form_laws.proofs.KeptSentences.{some_same, each_same}
use Rattle.form_laws.proofs.BufferStreams.{by_one, IsBuffer, are_buffers, get_last, AsMany}
use Rattle.form_laws.proofs.LoweredParts.{each_at, get_there, get_earlier}

-- ---- entries by samples up to a step

taken_same : (m w t i : ℕ) (p q : ℕ → ℕ) → ((i : ℕ) → i < t → p i ≡ q i) → i < m + t → taken m w p i ≡ taken m w q i
taken_same m w t i p q h b = by (nat_lt i m) refl
  where
    by : (c : Bool) → nat_lt i m ≡ c → (if c then w else p (i - m)) ≡ (if c then w else q (i - m))
    by true e = refl
    by false e = h (i - m) (let le : m ≤ i = grind (arith, nat_tests, e) in omega (arith, b, le))

followed_same : (w t i : ℕ) (p q : ℕ → Bool) → ((i : ℕ) → i < t → p i ≡ q i) → i < 1 + t → followed w p i ≡ followed w q i
followed_same w t zero p q h b = refl
followed_same w t (suc i) p q h b = ap bool_word (h i (omega (arith, b)))

since_same : (t : ℕ) (p q p' q' : ℕ → Bool) → ((i : ℕ) → i < t + 1 → p i ≡ p' i) → ((i : ℕ) → i < t + 1 → q i ≡ q' i) → since p q t ≡ since p' q' t
since_same t p q p' q' h g =
    some_same (t + 1) _ _ (λ j b. ap (λ c. c && each_below (t + 1) (λ i. nat_le i j || p i)) (g j b) ∙ ap (λ c. q' j && c) (each_same (t + 1) _ _ (λ i d. ap (λ c. nat_le i j || c) (h i d))))

module _ (t : ℕ) (p q : Samples) where
  abbrev Alike : ℕ → Type 0
  Alike n = (j i : ℕ) → j < n → i < t → p j i ≡ q j i

  truth_same : (n j i : ℕ) → Alike n → j < n → i < t → truths p j i ≡ truths q j i
  truth_same n j i h b c = ap is_true_word (h j i b c)

  pub entry_same : (f : LibForm) → Alike (length (operand_types f)) → (k i : ℕ) → k < buffers f → i < depth f + t → buffer_entry f p k i ≡ buffer_entry f q k i
  entry_same form.Once h k i b c = followed_same 0 t i _ _ (λ i' d. some_same (i' + 1) _ _ (λ j e. truth_same 1 0 j h (omega arith) (omega (arith, d, e)))) c
  entry_same form.Historically h k i b c = followed_same 1 t i _ _ (λ i' d. each_same (i' + 1) _ _ (λ j e. truth_same 1 0 j h (omega arith) (omega (arith, d, e)))) c
  entry_same form.Yesterday h k i b c = taken_same 1 0 t i _ _ (λ i' d. h 0 i' (omega arith) d) c
  entry_same form.WeaklyYesterday h k i b c = taken_same 1 1 t i _ _ (λ i' d. h 0 i' (omega arith) d) c
  entry_same form.Since h k i b c =
      followed_same 0 t i _ _ (λ i' d. since_same i' _ _ _ _ (λ j e. truth_same 2 0 j h (omega arith) (omega (arith, d, e))) (λ j e. truth_same 2 1 j h (omega arith) (omega (arith, d, e)))) c
  entry_same (form.OnceIn low high) h k i b c = taken_same (max high 1) 0 t i _ _ (λ i' d. h 0 i' (omega arith) d) c
  entry_same (form.HistoricallyIn low high) h k i b c = taken_same (max high 1) 1 t i _ _ (λ i' d. h 0 i' (omega arith) d) c
  entry_same (form.SinceIn low high) h zero i b c = taken_same (max high 1) 1 t i _ _ (λ i' d. h 0 i' (omega arith) d) c
  entry_same (form.SinceIn low high) h (suc k) i b c = taken_same (max high 1) 0 t i _ _ (λ i' d. h 1 i' (omega arith) d) c
  entry_same (form.Clock period phase) h k i b c = refl
  entry_same (form.WindowMax n s) h k i b c = taken_same (max (n - 1) 1) (word (least (bits s) (signed s))) t i _ _ (λ i' d. h 0 i' (omega arith) d) c
  entry_same (form.WindowMin n s) h k i b c = taken_same (max (n - 1) 1) (word (greatest (bits s) (signed s))) t i _ _ (λ i' d. h 0 i' (omega arith) d) c
  entry_same (form.WindowSum n s) h k i b c = taken_same (max (n - 1) 1) 0 t i _ _ (λ i' d. h 0 i' (omega arith) d) c

-- ---- lists within a list

-- the second is what stands in the first from a place on
abbrev pub At : {X : Type 0} → List X → ℕ → List X → Type 0
At {X} whole n part = (j : ℕ) (x : X) → slice_get part j ≡ Some x → slice_get whole (n + j) ≡ Some x

pub at_start : {X : Type 0} (xs ys : List X) → At (xs ++ ys) 0 xs
at_start xs ys j x e = ap (slice_get (xs ++ ys)) (let z : 0 + j ≡ j = omega arith in z) ∙ get_earlier xs ys j x e

pub at_end : {X : Type 0} (xs ys : List X) (n : ℕ) → length xs ≡ n → At (xs ++ ys) n ys
at_end xs ys n q j x e = get_last xs ys n j q ∙ e

pub at_first : {X : Type 0} (whole : List X) (n : ℕ) (xs ys : List X) → At whole n (xs ++ ys) → At whole n xs
at_first whole n xs ys h j x e = h j x (get_earlier xs ys j x e)

pub at_second : {X : Type 0} (whole : List X) (n k : ℕ) (xs ys : List X) → length xs ≡ k → At whole n (xs ++ ys) → At whole (n + k) ys
at_second whole n k xs ys q h j x e =
    ap (slice_get whole) (let z : n + k + j ≡ n + (k + j) = omega arith in z) ∙ h (k + j) x (get_last xs ys k j q ∙ e)

-- ---- a table that grows

pub list_grows : (T : Table) (ys : List (List ℕ)) (k : ℕ) (l : List (List ℕ)) (y : List ℕ) → slice_get T k ≡ Some l → slice_get ys k ≡ Some y → slice_get (extend T ys) k ≡ Some (l ++ y ∷ [])
list_grows [] ys k l y e f = absurd (cc)
list_grows (xs ∷ T) [] k l y e f = absurd (cc)
list_grows (xs ∷ T) (z ∷ ys) zero l y e f =
    let a : xs ≡ l = cc in
    let b : z ≡ y = cc in
    ap (λ u. Some (u ++ z ∷ [])) a ∙ ap (λ u. Some (l ++ u ∷ [])) b
list_grows (xs ∷ T) (z ∷ ys) (suc k) l y e f = list_grows T ys k l y e f

pub list_is : (T : Table) (k : ℕ) (l : List (List ℕ)) → slice_get T k ≡ Some l → slice_index_or T k [] ≡ l
list_is [] k l e = absurd (cc)
list_is (x ∷ T) zero l e = cc
list_is (x ∷ T) (suc k) l e = list_is T k l e

entry_before : (l : List (List ℕ)) (y : List ℕ) (i : ℕ) → i < length l → slice_index_or (l ++ y ∷ []) i [] ≡ slice_index_or l i []
entry_before [] y i b = absurd (omega (arith, b))
entry_before (x ∷ l) y zero b = refl
entry_before (x ∷ l) y (suc i) b = entry_before l y i (omega (arith, b))

entry_after : (l : List (List ℕ)) (y : List ℕ) (i : ℕ) → length l ≡ i → slice_index_or (l ++ y ∷ []) i [] ≡ y
entry_after [] y zero e = refl
entry_after [] y (suc i) e = absurd (omega (arith, e))
entry_after (x ∷ l) y zero e = absurd (omega (arith, e))
entry_after (x ∷ l) y (suc i) e = entry_after l y i (omega (arith, e))

-- ---- one form

-- the lists of a form's operands from list n on, and of its buffers from list b on
pub record Holds (t : ℕ) (f : LibForm) (n b : ℕ) (T X : Table) : Type 0 where
  pub operands : (j : ℕ) → j < length (operand_types f) → (l : List (List ℕ)) × (slice_get T (n + j) ≡ Some l) × (length l ≡ t)
  pub buffered : (j : ℕ) → j < buffers f → (l : List (List ℕ)) × (slice_get X (b + j) ≡ Some l) × (length l ≡ depth f + t)
  pub hold : HoldBuffers f b X t (samples_at T n)
  pub samples : AreSamples f t (samples_at T n)

-- the next words of a form's operands, and the next entries of its buffers
pub record IsNext (t : ℕ) (f : LibForm) (p : Samples) (now : List ℕ) (own : List (List ℕ)) : Type 0 where
  pub words : AreNow f now
  pub count : length own ≡ buffers f
  pub entries : (j : ℕ) → j < buffers f → slice_get own j ≡ Some (buffer_entry f (with_now t p now) j (depth f + t) ∷ [])

single_there : (now : List ℕ) (j : ℕ) → j < length now → slice_get (singles now) j ≡ Some (slice_index now j ∷ [])
single_there [] j b = absurd (omega (arith, b))
single_there (w ∷ ws) zero b = refl
single_there (w ∷ ws) (suc j) b = single_there ws j (omega (arith, b))

operand_within : (f : LibForm) (j : ℕ) (c : Scalar) → slice_get (operand_types f) j ≡ Some (ty.Scalar c) → j < length (operand_types f)
operand_within f j c e = by (operand_types f) j e
  where
    by : (ts : List Ty) (j : ℕ) → slice_get ts j ≡ Some (ty.Scalar c) → j < length ts
    by [] j e = absurd (cc)
    by (t ∷ ts) zero e = omega arith
    by (t ∷ ts) (suc j) e = let b = by ts j e in omega (arith, b)

module _ (t : ℕ) (f : LibForm) (n b : ℕ) (T X : Table) (h : Holds t f n b T X) (now : List ℕ) (own : List (List ℕ)) (next : IsNext t f (samples_at T n) now own)
    (ys zs : List (List ℕ)) (now_at : At ys n (singles now)) (own_at : At zs b own)
  where
    now_there : (j : ℕ) → j < length (operand_types f) → slice_get ys (n + j) ≡ Some (slice_index now j ∷ [])
    now_there j less = now_at j (slice_index now j ∷ []) (single_there now j (let c = next.words.count in omega (arith, c, less)))

    new_operand : (j : ℕ) → j < length (operand_types f) → (l : List (List ℕ)) × (slice_get (extend T ys) (n + j) ≡ Some l) × (length l ≡ suc t)
    new_operand j less =
        let found = h.operands j less in
        let count = found.2 in
        let a = length-append found.0 ((slice_index now j ∷ []) ∷ []) in
        (found.0 ++ (slice_index now j ∷ []) ∷ [], list_grows T ys (n + j) found.0 (slice_index now j ∷ []) found.1 (now_there j less), omega (arith, count, a))

    new_buffer : (j : ℕ) → j < buffers f → (l : List (List ℕ)) × (slice_get (extend X zs) (b + j) ≡ Some l) × (length l ≡ depth f + suc t)
    new_buffer j less =
        let found = h.buffered j less in
        let count = found.2 in
        let e : List ℕ = buffer_entry f (with_now t (samples_at T n) now) j (depth f + t) ∷ [] in
        let a = length-append found.0 (e ∷ []) in
        (found.0 ++ e ∷ [], list_grows X zs (b + j) found.0 e found.1 (own_at j e (next.entries j less)), omega (arith, count, a))

    -- the samples so far stay, and the new ones are this step's
    sample_before : (j i : ℕ) → j < length (operand_types f) → i < t → samples_at (extend T ys) n j i ≡ samples_at T n j i
    sample_before j i less before =
        let found = h.operands j less in
        let count = found.2 in
        let y : List ℕ = slice_index now j ∷ [] in
        ap (λ l. first_word (slice_index_or l i [])) (list_is (extend T ys) (n + j) (found.0 ++ y ∷ []) (list_grows T ys (n + j) found.0 y found.1 (now_there j less)))
        ∙ ap first_word (entry_before found.0 y i (omega (arith, count, before)))
        ∙ sym (ap (λ l. first_word (slice_index_or l i [])) (list_is T (n + j) found.0 found.1))

    sample_now : (j : ℕ) → j < length (operand_types f) → samples_at (extend T ys) n j t ≡ slice_index now j
    sample_now j less =
        let found = h.operands j less in
        let y : List ℕ = slice_index now j ∷ [] in
        ap (λ l. first_word (slice_index_or l t [])) (list_is (extend T ys) (n + j) (found.0 ++ y ∷ []) (list_grows T ys (n + j) found.0 y found.1 (now_there j less)))
        ∙ ap first_word (entry_after found.0 y t found.2)

    with_now_is : (j i : ℕ) → j < length (operand_types f) → i < suc t → with_now t (samples_at T n) now j i ≡ samples_at (extend T ys) n j i
    with_now_is j i less within =
        ⊎_elim
        (λ (lt : i < t). let e : nat_lt i t ≡ true = grind (arith, nat_tests, lt) in ap (λ c. if c then samples_at T n j i else slice_index now j) e ∙ sym (sample_before j i less lt))
        (λ (le : t ≤ i).
        let e : nat_lt i t ≡ false = grind (arith, nat_tests, le) in
        let q : t ≡ i = omega (arith, le, within) in
        ap (λ c. if c then samples_at T n j i else slice_index now j) e ∙ sym (sample_now j less) ∙ ap (samples_at (extend T ys) n j) q)
        (cases_lt i t)

    new_hold : HoldBuffers f b (extend X zs) (suc t) (samples_at (extend T ys) n)
    new_hold k i less within =
        let found = h.buffered k less in
        let count = found.2 in
        let e : List ℕ = buffer_entry f (with_now t (samples_at T n) now) k (depth f + t) ∷ [] in
        let is : slice_index_or (extend X zs) (b + k) [] ≡ found.0 ++ e ∷ [] = list_is (extend X zs) (b + k) (found.0 ++ e ∷ []) (list_grows X zs (b + k) found.0 e found.1 (own_at k e (next.entries k less))) in
        ⊎_elim
        (λ (lt : i < depth f + t).
        ap (λ l. slice_index_or l i []) is ∙ entry_before found.0 e i (omega (arith, count, lt)) ∙ sym (ap (λ l. slice_index_or l i []) (list_is X (b + k) found.0 found.1)) ∙ h.hold k i less lt
        ∙ ap (λ w. w ∷ []) (sym (entry_same t (samples_at (extend T ys) n) (samples_at T n) f (λ j i' a c. sample_before j i' a c) k i less lt)))
        (λ (le : depth f + t ≤ i).
        let q : depth f + t ≡ i = omega (arith, le, within) in
        ap (λ l. slice_index_or l i []) is ∙ entry_after found.0 e i (count ∙ q)
        ∙ ap (λ w. w ∷ []) (ap (buffer_entry f (with_now t (samples_at T n) now) k) q ∙ entry_same (suc t) (with_now t (samples_at T n) now) (samples_at (extend T ys) n) f (λ j i' a c. with_now_is j i' a c) k i less within))
        (cases_lt i (depth f + t))

    new_samples : AreSamples f (suc t) (samples_at (extend T ys) n)
    new_samples j i c within e =
        let less = operand_within f j c e in
        ⊎_elim
        (λ (lt : i < t). subst (λ w. IsTrue (is_word c w)) (sym (sample_before j i less lt)) (h.samples j i c lt e))
        (λ (le : t ≤ i).
        let q : t ≡ i = omega (arith, le, within) in
        subst (λ w. IsTrue (is_word c w)) (sym (sample_now j less) ∙ ap (samples_at (extend T ys) n j) q) (next.words.words j c e))
        (cases_lt i t)

    pub holds_next : Holds (suc t) f n b (extend T ys) (extend X zs)
    holds_next = record { operands = new_operand; buffered = new_buffer; hold = new_hold; samples = new_samples }

-- ---- all forms

abbrev pub AllHold : ℕ → ℕ → ℕ → List TreeLib → Table → Table → Type 0
AllHold t n b [] T X = Unit {0}
AllHold t n b (x ∷ xs) T X = Holds t x.form n b T X × AllHold t (n + length x.args) (b + buffers x.form) xs T X

-- form k, behind n operands' lists and b streams
pub hold_at : (t n b : ℕ) (xs : List TreeLib) (T X : Table) → AllHold t n b xs T X → (k : ℕ) (x : TreeLib) → slice_get xs k ≡ Some x → Holds t x.form (place_of n xs k) (buffer_of b xs k) T X
hold_at t n b [] T X h k x e = absurd (cc)
hold_at t n b (y ∷ ys) T X h zero x e = let is : y ≡ x = cc in subst (λ (z : TreeLib). Holds t z.form n b T X) is h.0
hold_at t n b (y ∷ ys) T X h (suc k) x e = hold_at t (n + length y.args) (b + buffers y.form) ys T X h.1 k x e

-- the next values of the operands of several forms, and of their buffers
abbrev pub AreNext : ℕ → ℕ → List TreeLib → Table → List (List ℕ) → List (List ℕ) → Type 0
AreNext t n [] T vs ws = (vs ≡ []) × (ws ≡ [])
AreNext t n (x ∷ xs) T vs ws =
    (now : List ℕ) × (own : List (List ℕ)) × (vs' : List (List ℕ)) × (ws' : List (List ℕ)) × (vs ≡ singles now ++ vs') × (ws ≡ own ++ ws') × IsNext t x.form (samples_at T n) now own × AreNext t (n + length x.args) xs T vs' ws'

singles_count : (now : List ℕ) → length (singles now) ≡ length now
singles_count [] = refl
singles_count (w ∷ ws) = ap suc (singles_count ws)

pub all_next : (t n b : ℕ) (xs : List TreeLib) (T X : Table) (ys zs vs ws : List (List ℕ)) → AllByRecursion AsMany xs → AllHold t n b xs T X → AreNext t n xs T vs ws → At ys n vs → At zs b ws → AllHold (suc t) n b xs (extend T ys) (extend X zs)
all_next t n b [] T X ys zs vs ws many h next a c = tt
all_next t n b (x ∷ xs) T X ys zs vs ws many h next a c =
    let now = next.0 in
    let own = next.1 in
    let vs' = next.2 in
    let ws' = next.3 in
    let a' : At ys n (singles now ++ vs') = subst (At ys n) next.4 a in
    let c' : At zs b (own ++ ws') = subst (At zs b) next.5 c in
    let is = next.6 in
    let counted : length (singles now) ≡ length x.args = singles_count now ∙ is.words.count ∙ sym many.0 in (
      holds_next t x.form n b T X h.0 now own is ys zs (at_first ys n (singles now) vs' a') (at_first zs b own ws' c'),
      all_next t (n + length x.args) (b + buffers x.form) xs T X ys zs vs' ws' many.1 h.1 next.7 (at_second ys n (length x.args) (singles now) vs' counted a') (at_second zs b (buffers x.form) own ws' is.count c'),
    )

-- ---- at first

chunks_one : (xs : List ℕ) → chunks (length xs) 1 xs ≡ singles xs
chunks_one [] = refl
chunks_one (x ∷ xs) = ap (λ r. (x ∷ []) ∷ r) (chunks_one xs)

buffer_line : (f : LibForm) (types : List TypeEntry) (x : TreeStream) → IsBuffer f x → (stream_line types x).init ≡ singles x.init
buffer_line f types x h =
    ap (λ u. (stream_line types (record x { ty = u })).init) h.ty ∙ ap (λ k. chunks k 1 x.init) (by_one (length x.init)) ∙ chunks_one x.init

single_entry : (ws : List ℕ) (i w : ℕ) → slice_get ws i ≡ Some w → slice_index_or (singles ws) i [] ≡ w ∷ []
single_entry [] i w e = absurd (cc)
single_entry (x ∷ ws) zero w e = let is : x ≡ w = cc in ap (λ u. u ∷ []) is
single_entry (x ∷ ws) (suc i) w e = single_entry ws i w e

pub mapped_get : {A B : Type 0} (f : A → B) (xs : List A) (i : ℕ) (x : A) → slice_get xs i ≡ Some x → slice_get (map f xs) i ≡ Some (f x)
mapped_get f [] i x e = absurd (cc)
mapped_get f (y ∷ ys) zero x e = let is : y ≡ x = cc in ap (λ z. Some (f z)) is
mapped_get f (y ∷ ys) (suc i) x e = mapped_get f ys i x e

abbrev pub inits : List Line → Table
inits ls = map (λ (l : Line). l.init) ls

pub holds_first : AllFormsKept → (types : List TypeEntry) (f : LibForm) (number n b at : ℕ) (ps args : List Term) (T X : Table) → IsGoodForm f → length ps ≡ length (operand_types f) → length args ≡ length (operand_types f)
    → At T n (inits (map (λ e. record { init = []; expr = e }) args)) → At X b (inits (map (stream_line types) (buffers_of f number b at ps))) → Holds 0 f n b T X
holds_first kept types f number n b at ps args T X good many count a c =
    let own = buffers_of f number b at ps in
    let counted : length own ≡ buffers f = listed.as_many f number b at ps many in
    let line : (j : ℕ) (x : TreeStream) → slice_get own j ≡ Some x → slice_get X (b + j) ≡ Some (singles x.init) = λ j x e.
    c j (singles x.init) (mapped_get (λ (l : Line). l.init) (map (stream_line types) own) j (stream_line types x) (mapped_get (stream_line types) own j x e)
    ∙ ap Some (buffer_line f types x (each_at (IsBuffer f) own j x (are_buffers f number b at ps good) e))) in
    let begins = (kept.kept f good).begins number b at ps (samples_at T n) many in
    record {
      operands = λ j less.
          let found = get_there args j (omega (arith, less, count)) in
          ([], a j [] (mapped_get (λ (l : Line). l.init) (map (λ e. record { init = []; expr = e }) args) j (record { init = []; expr = found.0 }) (mapped_get (λ e. record { init = []; expr = e }) args j found.0 found.1)), refl);
      buffered = λ j less.
          let found = get_there own j (omega (arith, less, counted)) in
          let start = begins j found.0 found.1 in
          (singles found.0.init, line j found.0 found.1, (let l = singles_count found.0.init in let d = start.0 in omega (arith, l, d)));
      hold = λ k i less within.
          let found = get_there own k (omega (arith, less, counted)) in
          let start = begins k found.0 found.1 in
          ap (λ l. slice_index_or l i []) (list_is X (b + k) (singles found.0.init) (line k found.0 found.1))
          ∙ single_entry found.0.init i (buffer_entry f (samples_at T n) k i) (start.1 i (omega (arith, within)));
      samples = λ j i s b e. absurd (omega (arith, b));
    }
