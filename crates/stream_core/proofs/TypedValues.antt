-- The value of a typed expression is words of its type, where those of what it reads are.
use Rattle.std.proofs.Common.{◌≡◌, ℕ, zero, suc, ◌+◌, ◌*◌, ◌<◌, ◌≤◌, Bool, true, false, List, [], ◌∷◌, ◌++◌, take, drop, replicate, map, nat_lt, Some, Result, Ok, Err, refl, sym, ap, ◌∙◌, arith, subst}
use Rattle.std.specs.Prelude.{slice_get, slice_index, if◌then◌else◌, IfOk, IsTrue}
use Rattle.std.specs.List.{AllByRecursion, flat_map}
use Rattle.std.proofs.lemmas.Bool.Decides.{nat_tests}
use Rattle.std.proofs.lemmas.List.Folds.{flat_map-map}
use Rattle.stream_types.specs.declared.scalar.Scalar.{Scalar}
use Rattle.stream_types.specs.declared.scalar.Scalar.TheVariants as scalar
use Rattle.stream_types.specs.declared.scalar.Hazard.{Hazard}
use Rattle.stream_types.specs.declared.scalar.Hazard.TheVariants.{BadIndex}
use Rattle.stream_types.specs.declared.scalar.Ty.{Ty}
use Rattle.stream_types.specs.declared.scalar.Ty.TheVariants as ty
use Rattle.stream_types.specs.declared.types.Field.{Field}
use Rattle.stream_types.specs.declared.types.TypeEntry.{TypeEntry}
use Rattle.stream_types.specs.Scalars.{op2_gives}
use Rattle.stream_types.specs.Numbers.{is_word, op1_word, op2_word, shift_word, cast_word, abs_word, sign_word}
use Rattle.stream_types.specs.Types.{leaves, repeated, words, entry_of, AreWords}
use Rattle.stream_types.specs.TypeList.{IsTypeList}
use Rattle.stream_types.proofs.Ranges.{op2_answer}
use Rattle.stream_types.proofs.AnsweredWords.{op1_answer, shift_answer, cast_answer, abs_answer, sign_answer}
use Rattle.stream_types.proofs.LeafEntries.{leaves-array, leaves-struct}
use Rattle.stream_types.proofs.LeafParts.{AreWords-append, AreWords-first, element_words, member_words}
use Rattle.stream_core.specs.declared.node.LibForm.{LibForm}
use Rattle.stream_core.specs.declared.node.LibForm.TheVariants as form
use Rattle.stream_core.specs.Term.{Term, Terms, lit, extern, stream, def, named, missing, dropped, un, bin, shift, cast, and, or, implies, choose, index, field, array, struct, abs, sign, majority, agreed, lib, end, more, TreeLib}
use Rattle.stream_core.specs.Library.{is_true_word, majority_of, agreed_of}
use Rattle.stream_core.specs.Eval.{Moment, Value, value, all_values, part_of, truth, entry_at, operand_word, first_word, one, on_word, on_two, on_test, element, member}
use Rattle.stream_core.specs.Signature.{Signature, StreamSignature}
use Rattle.stream_core.specs.WellTyped.{HasType, HaveTypes, IsArrayOf, IsStructOf, HasMember, terms_length, field_types, operand_types, form_gives, bool}
use Rattle.stream_core.specs.WrittenOut.{IsFormOf, IsWrittenOut, AreWritten}
use Rattle.stream_core.proofs.TypedForms.{ok_bind, bool_is_word, majority_is_vote, OperandsAreWords, form_is_word}

-- ---- words of a scalar, of several types

abbrev IsOne : Scalar → Value → Type 0
IsOne s v = IfOk v (AreWords (s ∷ []))

one_is : (s : Scalar) (r : Result ℕ Hazard) → IfOk r (λ w. IsTrue (is_word s w)) → IsOne s (one r)
one_is s (Ok w) h = (h, tt)
one_is s (Err e) h = tt

one_has : (types : List TypeEntry) (t : Ty) (r : Result ℕ Hazard) → IfOk r (λ w. AreWords (leaves types t) (w ∷ [])) → IfOk (one r) (AreWords (leaves types t))
one_has types t (Ok w) h = h
one_has types t (Err e) h = tt

-- goes on with the word of a scalar
word_then : (s : Scalar) (Q : List ℕ → Type 0) (v : Value) (f : ℕ → Value) → IsOne s v → ((w : ℕ) → IsTrue (is_word s w) → IfOk (f w) Q) → IfOk (on_word v f) Q
word_then s Q v f h k = ok_bind (AreWords (s ∷ [])) Q v (λ x. f (first_word x)) h (λ x p. k (first_word x) (AreWords-first s x p))

two_then : (s t : Scalar) (Q : List ℕ → Type 0) (a b : Value) (f : ℕ → ℕ → Value) → IsOne s a → IsOne t b → ((x y : ℕ) → IsTrue (is_word s x) → IsTrue (is_word t y) → IfOk (f x y) Q) → IfOk (on_two a b f) Q
two_then s t Q a b f h g k = word_then s Q a (λ x. on_word b (f x)) h (λ x p. word_then t Q b (f x) g (λ y q. k x y p q))

choice : (Q : List ℕ → Type 0) (b : Bool) (v w : Value) → IfOk v Q → IfOk w Q → IfOk (if b then v else w) Q
choice Q true v w p q = p
choice Q false v w p q = q

test_then : (Q : List ℕ → Type 0) (c a b : Value) → IsOne scalar.Bool c → IfOk a Q → IfOk b Q → IfOk (on_test c a b) Q
test_then Q c a b h p q = word_then scalar.Bool Q c (λ w. if is_true_word w then a else b) h (λ w _. choice Q (is_true_word w) a b p q)

-- one type for another that is equal to it
retyped : (types : List TypeEntry) (t u : Ty) (v : Value) → t ≡ u → IfOk v (AreWords (leaves types u)) → IfOk v (AreWords (leaves types t))
retyped types t u v e h = subst (λ x. IfOk v (AreWords (leaves types x))) (sym e) h

ok_map : (P Q : List ℕ → Type 0) (v : Value) → ((x : List ℕ) → P x → Q x) → IfOk v P → IfOk v Q
ok_map P Q (Ok x) f h = f x h
ok_map P Q (Err e) f h = tt

-- the scalars of so many values
leaves_replicate : (types : List TypeEntry) (n : ℕ) (t : Ty) → flat_map (leaves types) (replicate n t) ≡ repeated n (leaves types t)
leaves_replicate types zero t = refl
leaves_replicate types (suc n) t = ap (λ ss. leaves types t ++ ss) (leaves_replicate types n t)

-- words of one scalar so often are each a word of it
each_word : (s : Scalar) (n : ℕ) (ws : List ℕ) → AreWords (repeated n (s ∷ [])) ws → AllByRecursion (λ w. IsTrue (is_word s w)) ws
each_word s zero [] h = tt
each_word s zero (w ∷ ws) h = absurd h
each_word s (suc n) [] h = tt
each_word s (suc n) (w ∷ ws) h = (h.0, each_word s n ws h.1)

majority_word : (s : Scalar) (n : ℕ) (ws : List ℕ) → 1 ≤ n → AreWords (repeated n (s ∷ [])) ws → IsTrue (is_word s (majority_of ws))
majority_word s zero ws b h = absurd (omega (arith, b))
majority_word s (suc n) [] b h = absurd h
majority_word s (suc n) (w ∷ ws) b h = majority_is_vote (λ x. IsTrue (is_word s x)) w ws (each_word s (suc n) (w ∷ ws) h)

-- ---- parts of values

within_test : (Q : List ℕ → Type 0) (b : Bool) (v : List ℕ) → (b ≡ true → Q v) → IfOk (if b then Ok v else Err BadIndex) Q
within_test Q true v h = h refl
within_test Q false v h = tt

element_typed : (types : List TypeEntry) (of t : Ty) (n : ℕ) (v : List ℕ) (i : ℕ) → IsTypeList types → IsArrayOf types of t n → AreWords (leaves types of) v → IfOk (element types (entry_of types of) v i) (AreWords (leaves types t))
element_typed types (ty.Scalar s) t n v i good a h = absurd a
element_typed types (ty.Struct k) t n v i good a h = absurd a
element_typed types (ty.Array k) t n v i good a h =
    subst (λ e. IfOk (element types e v i) (AreWords (leaves types t))) (sym a)
    (within_test (AreWords (leaves types t)) (nat_lt i n) (take (words types t) (drop (i * words types t) v))
    (λ e. let b : i < n = grind (arith, nat_tests, e) in element_words types k n i t v good a b h))

member_typed : (types : List TypeEntry) (of t : Ty) (k : ℕ) (v : List ℕ) → IsTypeList types → HasMember types of k t → AreWords (leaves types of) v → AreWords (leaves types t) (member types (entry_of types of) v k)
member_typed types of t k v good m h = by of m.struct_is h
  where
    by : (o : Ty) → IsStructOf types o m.fields → AreWords (leaves types o) v → AreWords (leaves types t) (member types (entry_of types o) v k)
    by (ty.Scalar s) a h = absurd a
    by (ty.Array i) a h = absurd a
    by (ty.Struct i) a h =
        subst (λ u. AreWords (leaves types u) (member types (slice_get types i) v k)) m.type_is
        (subst (λ e. AreWords (leaves types m.member.ty) (member types e v k)) (sym a.1)
        (member_words types i k a.0 m.fields m.member v good a.1 m.is h))

array_words : (types : List TypeEntry) (of elem : Ty) (n : ℕ) (v : List ℕ) → IsTypeList types → IsArrayOf types of elem n → AreWords (flat_map (leaves types) (replicate n elem)) v → AreWords (leaves types of) v
array_words types (ty.Scalar s) elem n v good a h = absurd a
array_words types (ty.Struct i) elem n v good a h = absurd a
array_words types (ty.Array i) elem n v good a h = subst (λ ss. AreWords ss v) (leaves_replicate types n elem ∙ sym (leaves-array types i n elem good a)) h

struct_words : (types : List TypeEntry) (of : Ty) (fields : List Field) (v : List ℕ) → IsTypeList types → IsStructOf types of fields → AreWords (flat_map (leaves types) (field_types fields)) v → AreWords (leaves types of) v
struct_words types (ty.Scalar s) fields v good a h = absurd a
struct_words types (ty.Array i) fields v good a h = absurd a
struct_words types (ty.Struct i) fields v good a h =
    subst (λ ss. AreWords ss v) (flat_map-map (leaves types) (λ (f : Field). f.ty) fields ∙ sym (leaves-struct types i a.0 fields good a.1)) h

-- ---- operands

abbrev operand_scalars : LibForm → List Scalar
operand_scalars form.Since = scalar.Bool ∷ scalar.Bool ∷ []
operand_scalars (form.SinceIn low high) = scalar.Bool ∷ scalar.Bool ∷ []
operand_scalars (form.Clock period phase) = []
operand_scalars (form.WindowMax n s) = s ∷ []
operand_scalars (form.WindowMin n s) = s ∷ []
operand_scalars (form.WindowSum n s) = s ∷ []
operand_scalars _ = scalar.Bool ∷ []

operands_scalar : (f : LibForm) → operand_types f ≡ map ty.Scalar (operand_scalars f)
operands_scalar form.Since = refl
operands_scalar (form.SinceIn low high) = refl
operands_scalar (form.Clock period phase) = refl
operands_scalar (form.WindowMax n s) = refl
operands_scalar (form.WindowMin n s) = refl
operands_scalar (form.WindowSum n s) = refl
operands_scalar _ = refl

scalars_of : (types : List TypeEntry) (cs : List Scalar) → flat_map (leaves types) (map ty.Scalar cs) ≡ cs
scalars_of types [] = refl
scalars_of types (c ∷ cs) = ap (λ r. c ∷ r) (scalars_of types cs)

scalar_at : (cs : List Scalar) (ws : List ℕ) (j : ℕ) (c : Scalar) → AreWords cs ws → slice_get (map ty.Scalar cs) j ≡ Some (ty.Scalar c) → IsTrue (is_word c (slice_index ws j))
scalar_at [] ws j c h e = absurd (cc)
scalar_at (d ∷ cs) [] j c h e = absurd h
scalar_at (d ∷ cs) (w ∷ ws) zero c h e = let is : d ≡ c = cc in subst (λ x. IsTrue (is_word x w)) is h.0
scalar_at (d ∷ cs) (w ∷ ws) (suc j) c h e = scalar_at cs ws j c h.1 e

-- word j of the words of a form's operands
now_word : (types : List TypeEntry) (f : LibForm) (ws : List ℕ) (j : ℕ) (c : Scalar) → AreWords (flat_map (leaves types) (operand_types f)) ws → slice_get (operand_types f) j ≡ Some (ty.Scalar c) → IsTrue (is_word c (slice_index ws j))
now_word types f ws j c h e =
    scalar_at (operand_scalars f) ws j c
    (subst (λ ss. AreWords ss ws) (ap (flat_map (leaves types)) (operands_scalar f) ∙ scalars_of types (operand_scalars f)) h)
    (subst (λ ts. slice_get ts j ≡ Some (ty.Scalar c)) (operands_scalar f) e)

module _ (sig : Signature) (libs : List TreeLib) (m : Moment) (good : IsTypeList m.types) (same : sig.types ≡ m.types)
    (externs : (x : ℕ) (t : Ty) → slice_get sig.externs x ≡ Some t → AreWords (leaves m.types t) (part_of m.types m.externs m.row x))
    (streams : (x k : ℕ) (y : StreamSignature) → slice_get sig.streams x ≡ Some y → k < y.count → AreWords (leaves m.types y.ty) (entry_at m.table x (m.time + k)))
    (some : (x : ℕ) (y : StreamSignature) → slice_get sig.streams x ≡ Some y → 0 < y.count)
    (operands : (k j i : ℕ) (f : LibForm) (c : Scalar) → IsFormOf libs k f → slice_get (operand_types f) j ≡ Some (ty.Scalar c) → i < m.time → AreWords (c ∷ []) (entry_at m.table (m.place k + j) i))
  where
    abbrev Typed : Ty → Value → Type 0
    Typed t v = IfOk v (AreWords (leaves m.types t))

    operands_are : (k : ℕ) (f : LibForm) (now : List ℕ) → IsFormOf libs k f → AreWords (flat_map (leaves m.types) (operand_types f)) now → OperandsAreWords m.types f m.time (operand_word m k now)
    operands_are k f now is h j c e i b = by (nat_lt i m.time) refl
      where
        by : (d : Bool) → nat_lt i m.time ≡ d → IsTrue (is_word c (if d then first_word (entry_at m.table (m.place k + j) i) else slice_index now j))
        by true q = AreWords-first c _ (operands k j i f c is e (grind (arith, nat_tests, q)))
        by false q = now_word m.types f now j c h e

    stream_typed : (x k : ℕ) (t : Ty) (y : StreamSignature) → slice_get sig.streams x ≡ Some y → y.ty ≡ t → k < y.count → AreWords (leaves m.types t) (entry_at m.table x (m.time + k))
    stream_typed x k t y is e b = subst (λ u. AreWords (leaves m.types u) (entry_at m.table x (m.time + k))) e (streams x k y is b)

    array_of : (of t : Ty) (n : ℕ) → IsArrayOf sig.types of t n → IsArrayOf m.types of t n
    array_of of t n a = subst (λ types. IsArrayOf types of t n) same a

    struct_of : (of : Ty) (fs : List Field) → IsStructOf sig.types of fs → IsStructOf m.types of fs
    struct_of of fs a = subst (λ types. IsStructOf types of fs) same a

    member_of : (of : Ty) (k : ℕ) (t : Ty) → HasMember sig.types of k t → HasMember m.types of k t
    member_of of k t a = subst (λ types. HasMember types of k t) same a

    mutual
      pub typed : (e : Term) (t : Ty) → HasType sig e t → IsWrittenOut libs e → Typed t (value m e)
      typed (lit c w) t h o = retyped m.types t (ty.Scalar c) (Ok (w ∷ [])) h.1 (h.0, tt)
      typed (extern x) t h o = externs x t h
      typed (stream x) t h o =
          let e : m.time + 0 ≡ m.time = omega arith in
          subst (λ k. AreWords (leaves m.types t) (entry_at m.table x k)) e (stream_typed x 0 t h.stream h.is h.type_is (some x h.stream h.is))
      typed (def d) t h o = absurd o
      typed (named d a) t h o = typed a t h.1 o
      typed missing t h o = absurd h
      typed (dropped x k) t h o = stream_typed x k t h.stream h.is h.type_is h.within
      typed (un p c a) t h o = retyped m.types t (ty.Scalar c) _ h.2 (word_then c (AreWords (c ∷ [])) (value m a) (λ x. Ok (op1_word p c x ∷ [])) (typed a _ h.1 o) (λ x i. (op1_answer p c x h.0 i, tt)))
      typed (bin p c a b) t h o = retyped m.types t (ty.Scalar (op2_gives p c)) _ h.3 (two_then c c (AreWords (op2_gives p c ∷ [])) (value m a) (value m b) _ (typed a _ h.1 o.0) (typed b _ h.2 o.1) (λ x y i j. one_is (op2_gives p c) (op2_word p c x y) (op2_answer p c x y h.0 i j)))
      typed (shift d c a cs b) t h o = retyped m.types t (ty.Scalar c) _ h.3 (two_then c cs (AreWords (c ∷ [])) (value m a) (value m b) _ (typed a _ h.1 o.0) (typed b _ h.2 o.1) (λ x y i j. one_is c (shift_word d c x cs y) (shift_answer d c x cs y h.0 i)))
      typed (cast f g a) t h o = retyped m.types t (ty.Scalar g) _ h.2 (word_then f (AreWords (g ∷ [])) (value m a) _ (typed a _ h.1 o) (λ x i. one_is g (cast_word f g x) (cast_answer f g x h.0)))
      typed (and a b) t h o = retyped m.types t bool _ h.2 (test_then (AreWords (scalar.Bool ∷ [])) (value m a) (value m b) (Ok (0 ∷ [])) (typed a _ h.0 o.0) (typed b _ h.1 o.1) (refl, tt))
      typed (or a b) t h o = retyped m.types t bool _ h.2 (test_then (AreWords (scalar.Bool ∷ [])) (value m a) (Ok (1 ∷ [])) (value m b) (typed a _ h.0 o.0) (refl, tt) (typed b _ h.1 o.1))
      typed (implies a b) t h o = retyped m.types t bool _ h.2 (test_then (AreWords (scalar.Bool ∷ [])) (value m a) (value m b) (Ok (1 ∷ [])) (typed a _ h.0 o.0) (typed b _ h.1 o.1) (refl, tt))
      typed (choose c a b) t h o = test_then (AreWords (leaves m.types t)) (value m c) (value m a) (value m b) (typed c _ h.0 o.0) (typed a t h.1 o.1) (typed b t h.2 o.2)
      typed (index of a i) t h o =
          ok_bind (AreWords (leaves m.types of)) (AreWords (leaves m.types t)) (value m a) _ (typed a of h.2 o.0)
          (λ v p. word_then scalar.Word32 (AreWords (leaves m.types t)) (value m i) _ (typed i _ h.3 o.1) (λ w q. element_typed m.types of t h.0 v w good (array_of of t h.0 h.1) p))
      typed (field of k a) t h o = ok_bind (AreWords (leaves m.types of)) (AreWords (leaves m.types t)) (value m a) _ (typed a of h.1 o) (λ v p. member_typed m.types of t k v good (member_of of k t h.0) p)
      typed (array of es) t h o =
          retyped m.types t of _ h.4 (ok_map (AreWords (flat_map (leaves m.types) (replicate h.1 h.0))) (AreWords (leaves m.types of)) (all_values m es) (λ v p. array_words m.types of h.0 h.1 v good (array_of of h.0 h.1 h.2) p) (all_typed es _ h.3 o))
      typed (struct of es) t h o =
          retyped m.types t of _ h.3 (ok_map (AreWords (flat_map (leaves m.types) (field_types h.0))) (AreWords (leaves m.types of)) (all_values m es) (λ v p. struct_words m.types of h.0 v good (struct_of of h.0 h.1) p) (all_typed es _ h.2 o))
      typed (abs c a) t h o = retyped m.types t (ty.Scalar c) _ h.2 (word_then c (AreWords (c ∷ [])) (value m a) _ (typed a _ h.1 o) (λ x i. one_is c (abs_word c x) (abs_answer c x h.0)))
      typed (sign c a) t h o = retyped m.types t (ty.Scalar c) _ h.2 (word_then c (AreWords (c ∷ [])) (value m a) (λ x. Ok (sign_word c x ∷ [])) (typed a _ h.1 o) (λ x i. (sign_answer c x h.0 i, tt)))
      typed (majority c es) t h o =
          retyped m.types t (ty.Scalar c) _ h.2 (ok_bind (AreWords (flat_map (leaves m.types) (replicate (terms_length es) (ty.Scalar c)))) (AreWords (c ∷ [])) (all_values m es) (λ ws. Ok (majority_of ws ∷ [])) (all_typed es _ h.1 o)
          (λ ws p. (majority_word c (terms_length es) ws h.0.0 (subst (λ ss. AreWords ss ws) (leaves_replicate m.types (terms_length es) (ty.Scalar c)) p), tt)))
      typed (agreed c es) t h o = retyped m.types t bool _ h.2 (ok_bind (AreWords (flat_map (leaves m.types) (replicate (terms_length es) (ty.Scalar c)))) (AreWords (scalar.Bool ∷ [])) (all_values m es) (λ ws. truth (agreed_of ws)) (all_typed es _ h.1 o) (λ ws p. (bool_is_word (agreed_of ws), tt)))
      typed (lib k f es) t h o =
          retyped m.types t (form_gives f) _ h.2 (ok_bind (AreWords (flat_map (leaves m.types) (operand_types f))) (AreWords (leaves m.types (form_gives f))) (all_values m es) _ (all_typed es _ h.1 o.1)
          (λ now p. one_has m.types (form_gives f) _ (form_is_word m.types f m.time (operand_word m k now) h.0 (operands_are k f now o.0 p))))

      pub all_typed : (es : Terms) (ts : List Ty) → HaveTypes sig es ts → AreWritten (λ d. ⊥) libs es → IfOk (all_values m es) (AreWords (flat_map (leaves m.types) ts))
      all_typed end [] h o = tt
      all_typed end (t ∷ ts) h o = absurd h
      all_typed (more a es) [] h o = absurd h
      all_typed (more a es) (t ∷ ts) h o =
          ok_bind (AreWords (leaves m.types t)) (AreWords (flat_map (leaves m.types) (t ∷ ts))) (value m a) _ (typed a t h.0 o.0)
          (λ x p. ok_bind (AreWords (flat_map (leaves m.types) ts)) (AreWords (flat_map (leaves m.types) (t ∷ ts))) (all_values m es) _ (all_typed es ts h.1 o.1) (λ xs q. AreWords-append (leaves m.types t) (flat_map (leaves m.types) ts) x xs p q))
