-- The streams that a form's buffers are, and where they stand behind the specification's own.
use Rattle.std.proofs.Common.{◌≡◌, ℕ, zero, suc, ◌+◌, ◌-◌, ◌<◌, ◌≤◌, List, [], ◌∷◌, ◌++◌, length, map, replicate, refl, sym, ap, ◌∙◌, subst, arith, Some, append_assoc, length-append}
use Rattle.std.specs.Prelude.{slice_get, IsTrue, ◌/◌}
use Rattle.std.specs.List.{AllByRecursion}
use Rattle.stream_types.specs.declared.scalar.Scalar.{Scalar}
use Rattle.stream_types.specs.declared.scalar.Scalar.TheVariants as scalar
use Rattle.stream_types.specs.declared.scalar.Ty.TheVariants as ty
use Rattle.stream_types.specs.declared.types.TypeEntry.{TypeEntry}
use Rattle.stream_types.specs.Types.{bits, signed, AreWords, leaves, repeated}
use Rattle.stream_types.specs.Numbers.{word, is_word, least, greatest}
use Rattle.stream_core.specs.declared.node.LibForm.{LibForm}
use Rattle.stream_core.specs.declared.node.LibForm.TheVariants as form
use Rattle.stream_core.specs.Term.{Term, TreeStream, TreeLib, initial_count}
use Rattle.stream_core.specs.Signature.{Signature, stream_signature}
use Rattle.stream_types.specs.TypeList.{Stands}
use Rattle.stream_core.specs.WellTyped.{HasType, ListHasTypes, IsGoodForm, IsGoodStream, AreInitial, nesting, operand_types}
use Rattle.stream_core.specs.Lower.{depth, buffers, buffer_of, buffers_of, all_buffers}
use Rattle.form_laws.proofs.BufferLists as listed
use Rattle.form_laws.proofs.OutOfSpecs.{map_length}
use Rattle.form_laws.proofs.LoweredTypes.{buffer_scalar, buffer_signature, HasBuffers, word32_is, least_is, greatest_is, now_has, first_there, form_has, zero_is}

-- a stream of the buffer's scalar, which begins with so many times a word
pub record IsBuffer (f : LibForm) (x : TreeStream) : Type 0 where
  pub ty : x.ty ≡ ty.Scalar (buffer_scalar f)
  pub first : ℕ
  pub init : x.init ≡ replicate (depth f) first
  pub word : IsTrue (is_word (buffer_scalar f) first)

pub are_buffers : (f : LibForm) (number b at : ℕ) (ps : List Term) → IsGoodForm f → AllByRecursion (IsBuffer f) (buffers_of f number b at ps)
are_buffers form.Once number b at ps good = (record { ty = refl; first = 0; init = refl; word = refl }, tt)
are_buffers form.Historically number b at ps good = (record { ty = refl; first = 1; init = refl; word = refl }, tt)
are_buffers form.Yesterday number b at [] good = tt
are_buffers form.Yesterday number b at (p ∷ ps) good = (record { ty = refl; first = 0; init = refl; word = refl }, tt)
are_buffers form.WeaklyYesterday number b at [] good = tt
are_buffers form.WeaklyYesterday number b at (p ∷ ps) good = (record { ty = refl; first = 1; init = refl; word = refl }, tt)
are_buffers form.Since number b at ps good = (record { ty = refl; first = 0; init = refl; word = refl }, tt)
are_buffers (form.OnceIn low high) number b at [] good = tt
are_buffers (form.OnceIn low high) number b at (p ∷ ps) good = (record { ty = refl; first = 0; init = refl; word = refl }, tt)
are_buffers (form.HistoricallyIn low high) number b at [] good = tt
are_buffers (form.HistoricallyIn low high) number b at (p ∷ ps) good = (record { ty = refl; first = 1; init = refl; word = refl }, tt)
are_buffers (form.SinceIn low high) number b at [] good = tt
are_buffers (form.SinceIn low high) number b at (p ∷ []) good = tt
are_buffers (form.SinceIn low high) number b at (p ∷ q ∷ ps) good = (record { ty = refl; first = 1; init = refl; word = refl }, (record { ty = refl; first = 0; init = refl; word = refl }, tt))
are_buffers (form.Clock period phase) number b at ps good = (record { ty = refl; first = 0; init = refl; word = refl }, tt)
are_buffers (form.WindowMax n s) number b at [] good = tt
are_buffers (form.WindowMax n s) number b at (e ∷ ps) good = (record { ty = refl; first = word (least (bits s) (signed s)); init = refl; word = least_is s }, tt)
are_buffers (form.WindowMin n s) number b at [] good = tt
are_buffers (form.WindowMin n s) number b at (e ∷ ps) good = (record { ty = refl; first = word (greatest (bits s) (signed s)); init = refl; word = greatest_is s good.2 }, tt)
are_buffers (form.WindowSum n s) number b at [] good = tt
are_buffers (form.WindowSum n s) number b at (e ∷ ps) good = (record { ty = refl; first = 0; init = refl; word = zero_is s }, tt)

depth_some : (f : LibForm) → 1 ≤ depth f
depth_some form.Once = omega arith
depth_some form.Historically = omega arith
depth_some form.Yesterday = omega arith
depth_some form.WeaklyYesterday = omega arith
depth_some form.Since = omega arith
depth_some (form.OnceIn low high) = omega arith
depth_some (form.HistoricallyIn low high) = omega arith
depth_some (form.SinceIn low high) = omega arith
depth_some (form.Clock period phase) = omega arith
depth_some (form.WindowMax n s) = omega arith
depth_some (form.WindowMin n s) = omega arith
depth_some (form.WindowSum n s) = omega arith

depth_most : (f : LibForm) → IsGoodForm f → depth f ≤ 65536
depth_most form.Once good = omega arith
depth_most form.Historically good = omega arith
depth_most form.Yesterday good = omega arith
depth_most form.WeaklyYesterday good = omega arith
depth_most form.Since good = omega arith
depth_most (form.OnceIn low high) good = omega (arith, good.1)
depth_most (form.HistoricallyIn low high) good = omega (arith, good.1)
depth_most (form.SinceIn low high) good = omega (arith, good.1)
depth_most (form.Clock period phase) good = omega arith
depth_most (form.WindowMax n s) good = omega (arith, good.1)
depth_most (form.WindowMin n s) good = omega (arith, good.1)
depth_most (form.WindowSum n s) good = omega (arith, good.1)

length_replicate : {X : Type 0} (n : ℕ) (x : X) → length (replicate n x) ≡ n
length_replicate zero x = refl
length_replicate (suc n) x = ap suc (length_replicate n x)

pub by_one : (n : ℕ) → n / 1 ≡ n
by_one n = omega arith

count_is : (f : LibForm) (types : List TypeEntry) (x : TreeStream) → IsBuffer f x → initial_count types x ≡ depth f
count_is f types x h =
    ap (λ t. initial_count types (record x { ty = t })) h.ty
    ∙ ap (λ v. length v / 1) h.init ∙ by_one (length (replicate (depth f) h.first)) ∙ length_replicate (depth f) h.first

pub signature_is : (f : LibForm) (types : List TypeEntry) (x : TreeStream) → IsBuffer f x → stream_signature types x ≡ buffer_signature f
signature_is f types x h =
    ap (λ n. record { ty = x.ty; count = n }) (count_is f types x h) ∙ ap (λ t. record { ty = t; count = depth f }) h.ty

words_replicate : (s : Scalar) (n w : ℕ) → IsTrue (is_word s w) → AreWords (repeated n (s ∷ [])) (replicate n w)
words_replicate s zero w h = tt
words_replicate s (suc n) w h = (h, words_replicate s n w h)

initial_is : (f : LibForm) (types : List TypeEntry) (x : TreeStream) → IsGoodForm f → IsBuffer f x → AreInitial types x.ty x.init
initial_is f types x good h =
    let n = count_is f types x h in
    let a = depth_some f in
    let b = depth_most f good in
    record {
      some = omega (arith, n, a);
      most = omega (arith, n, b);
      values = subst (λ k. AreWords (repeated k (leaves types x.ty)) x.init) (sym n)
          (subst (λ t. AreWords (repeated (depth f) (leaves types t)) x.init) (sym h.ty)
          (subst (AreWords (repeated (depth f) (buffer_scalar f ∷ []))) (sym h.init) (words_replicate (buffer_scalar f) (depth f) h.first h.word)));
      flat = subst (λ t. nesting types t ≤ 64) (sym h.ty) (omega arith);
    }

-- ---- expressions

module _ (sig : Signature) where
  abbrev Fits : TreeStream → Type 0
  Fits x = HasType sig x.expr x.ty

  pub buffers_have : (f : LibForm) (number b at : ℕ) (ps : List Term) → IsGoodForm f → ListHasTypes sig ps (operand_types f) → HasBuffers sig f b → AllByRecursion Fits (buffers_of f number b at ps)
  buffers_have form.Once number b at ps good h there = (form_has sig form.Once b ps good h there, tt)
  buffers_have form.Historically number b at ps good h there = (form_has sig form.Historically b ps good h there, tt)
  buffers_have form.Yesterday number b at [] good h there = tt
  buffers_have form.Yesterday number b at (p ∷ ps) good h there = (h.0, tt)
  buffers_have form.WeaklyYesterday number b at [] good h there = tt
  buffers_have form.WeaklyYesterday number b at (p ∷ ps) good h there = (h.0, tt)
  buffers_have form.Since number b at ps good h there = (form_has sig form.Since b ps good h there, tt)
  buffers_have (form.OnceIn low high) number b at [] good h there = tt
  buffers_have (form.OnceIn low high) number b at (p ∷ ps) good h there = (h.0, tt)
  buffers_have (form.HistoricallyIn low high) number b at [] good h there = tt
  buffers_have (form.HistoricallyIn low high) number b at (p ∷ ps) good h there = (h.0, tt)
  buffers_have (form.SinceIn low high) number b at [] good h there = tt
  buffers_have (form.SinceIn low high) number b at (p ∷ []) good h there = tt
  buffers_have (form.SinceIn low high) number b at (p ∷ q ∷ ps) good h there = (h.0, (h.1.0, tt))
  buffers_have (form.Clock period phase) number b at ps good h there =
      let read = now_has sig scalar.Word32 b 1 (first_there sig (form.Clock period phase) b (omega arith) there) (omega arith) in
      (((refl, read, (word32_is (period - 1) (omega (arith, good.1)), refl), refl), (refl, refl), (refl, read, (refl, refl), refl)), tt)
  buffers_have (form.WindowMax n s) number b at [] good h there = tt
  buffers_have (form.WindowMax n s) number b at (e ∷ ps) good h there = (h.0, tt)
  buffers_have (form.WindowMin n s) number b at [] good h there = tt
  buffers_have (form.WindowMin n s) number b at (e ∷ ps) good h there = (h.0, tt)
  buffers_have (form.WindowSum n s) number b at [] good h there = tt
  buffers_have (form.WindowSum n s) number b at (e ∷ ps) good h there = (h.0, tt)

  good_both : (f : LibForm) (xs : List TreeStream) → IsGoodForm f → AllByRecursion (IsBuffer f) xs → AllByRecursion Fits xs → AllByRecursion (IsGoodStream sig) xs
  good_both f [] good h g = tt
  good_both f (x ∷ xs) good h g =
      (record { stands = subst (Stands sig.types) (sym h.0.ty) tt; initial = initial_is f sig.types x good h.0; expr = g.0 }, good_both f xs good h.1 g.1)

  pub buffers_good : (f : LibForm) (number b at : ℕ) (ps : List Term) → IsGoodForm f → ListHasTypes sig ps (operand_types f) → HasBuffers sig f b → AllByRecursion (IsGoodStream sig) (buffers_of f number b at ps)
  buffers_good f number b at ps good h there = good_both f (buffers_of f number b at ps) good (are_buffers f number b at ps good) (buffers_have f number b at ps good h there)

-- ---- places

pub get_first : {X : Type 0} (xs ys : List X) (i : ℕ) → i < length xs → slice_get (xs ++ ys) i ≡ slice_get xs i
get_first [] ys i h = absurd (omega (arith, h))
get_first (x ∷ xs) ys zero h = refl
get_first (x ∷ xs) ys (suc i) h = get_first xs ys i (omega (arith, h))

pub get_last : {X : Type 0} (xs ys : List X) (n j : ℕ) → length xs ≡ n → slice_get (xs ++ ys) (n + j) ≡ slice_get ys j
get_last [] ys n j e = ap (slice_get ys) (let q : n + j ≡ j = omega (arith, e) in q)
get_last (x ∷ xs) ys zero j e = absurd (omega (arith, e))
get_last (x ∷ xs) ys (suc n) j e =
    ap (slice_get (x ∷ (xs ++ ys))) (let q : suc n + j ≡ suc (n + j) = omega arith in q) ∙ get_last xs ys n j (let q : length xs ≡ n = omega (arith, e) in q)

-- as many operands as the form has
abbrev pub AsMany : TreeLib → Type 0
AsMany x = length x.args ≡ length (operand_types x.form)

-- buffer j of form k, behind the streams
pub buffer_at : (f : Term → Term) (front : List TreeStream) (number b : ℕ) (xs : List TreeLib) → AllByRecursion AsMany xs → length front ≡ b → (k j : ℕ) (x : TreeLib) → slice_get xs k ≡ Some x → j < buffers x.form
    → slice_get (front ++ all_buffers f number b xs) (buffer_of b xs k + j) ≡ slice_get (buffers_of x.form (buffer_of number xs k) (buffer_of b xs k) x.at (map f x.args)) j
buffer_at f front number b [] many e k j x is h = absurd (cc)
buffer_at f front number b (y ∷ ys) many e zero j x is h =
    let same : y ≡ x = cc in
    let own = buffers_of y.form number b y.at (map f y.args) in
    let rest = all_buffers f (number + buffers y.form) (b + buffers y.form) ys in
    let n : length own ≡ buffers y.form = listed.as_many y.form number b y.at (map f y.args) (map_length f y.args ∙ many.0) in
    let less : j < length own = subst (λ n. j < n) (ap (λ (z : TreeLib). buffers z.form) (sym same) ∙ sym n) h in
    get_last front (own ++ rest) b j e ∙ get_first own rest j less ∙ ap (λ (z : TreeLib). slice_get (buffers_of z.form number b z.at (map f z.args)) j) same
buffer_at f front number b (y ∷ ys) many e (suc k) j x is h =
    let own = buffers_of y.form number b y.at (map f y.args) in
    let n : length own ≡ buffers y.form = listed.as_many y.form number b y.at (map f y.args) (map_length f y.args ∙ many.0) in
    let longer : length (front ++ own) ≡ b + buffers y.form = omega (arith, e, n, length-append front own) in
    ap (λ zs. slice_get zs (buffer_of (b + buffers y.form) ys k + j)) (sym (append_assoc front own (all_buffers f (number + buffers y.form) (b + buffers y.form) ys)))
    ∙ buffer_at f (front ++ own) (number + buffers y.form) (b + buffers y.form) ys many.1 longer k j x is h

-- how many streams there are with all buffers
pub buffers_end : (f : Term → Term) (front : List TreeStream) (number b : ℕ) (xs : List TreeLib) → AllByRecursion AsMany xs → length front ≡ b → length (front ++ all_buffers f number b xs) ≡ buffer_of b xs (length xs)
buffers_end f front number b [] many e = let a = length-append front [] in omega (arith, a, e)
buffers_end f front number b (y ∷ ys) many e =
    let own = buffers_of y.form number b y.at (map f y.args) in
    let n : length own ≡ buffers y.form = listed.as_many y.form number b y.at (map f y.args) (map_length f y.args ∙ many.0) in
    let longer : length (front ++ own) ≡ b + buffers y.form = omega (arith, e, n, length-append front own) in
    ap length (sym (append_assoc front own (all_buffers f (number + buffers y.form) (b + buffers y.form) ys)))
    ∙ buffers_end f (front ++ own) (number + buffers y.form) (b + buffers y.form) ys many.1 longer
