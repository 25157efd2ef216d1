-- The forms of the library as buffers and plain expressions.
use Rattle.std.specs.Prelude.{ℕ, zero, suc, ◌+◌, ◌-◌, ◌/◌, List, [], ◌∷◌, ◌++◌, length, map, replicate, if◌then◌else◌, nat_le, nat_eq, max, negsuc, decimal}
use Rattle.stream_types.specs.declared.scalar.Scalar.{Scalar}
use Rattle.stream_types.specs.declared.scalar.Scalar.TheVariants as scalar
use Rattle.stream_types.specs.declared.scalar.Ty.TheVariants as ty
use Rattle.stream_types.specs.declared.scalar.Op2.TheVariants as op2
use Rattle.stream_types.specs.Types.{bits, signed}
use Rattle.stream_types.specs.Numbers.{word, least, greatest}
use Rattle.stream_core.specs.declared.node.LibForm.{LibForm}
use Rattle.stream_core.specs.declared.node.LibForm.TheVariants as form
use Rattle.stream_core.specs.Term.{Term, Terms, lit, extern, stream, def, named, missing, dropped, un, bin, shift, cast, and, or, implies, choose, index, field, array, struct, abs, sign, majority, agreed, lib, end, more, TreeSpec, TreeStream, TreeDef, TreeTrigger, TreeObserver, TreeLib, root_with}

abbrev pub yes : Term
yes = lit scalar.Bool 1

abbrev pub no : Term
no = lit scalar.Bool 0

-- nested to the right
abbrev pub or_all : Term → List Term → Term
or_all a [] = a
or_all a (b ∷ bs) = or a (or_all b bs)

abbrev pub and_all : Term → List Term → Term
and_all a [] = a
and_all a (b ∷ bs) = and a (and_all b bs)

-- the operand i steps ago, from a buffer of m values
abbrev pub ago : ℕ → ℕ → ℕ → Term
ago b m i = dropped b (m - i)

-- n of these, from i steps ago on
abbrev pub agos : ℕ → ℕ → ℕ → ℕ → List Term
agos b m i zero = []
agos b m i (suc n) = ago b m i ∷ agos b m (i + 1) n

-- what of the bounded since holds from i steps ago back, n more steps to the farthest
abbrev pub since_from : ℕ → ℕ → ℕ → ℕ → ℕ → ℕ → Term
since_from low p q m i zero = ago q m i
since_from low p q m i (suc n) =
    if nat_le low i
    then or (ago q m i) (and (ago p m i) (since_from low p q m (i + 1) n))
    else and (ago p m i) (since_from low p q m (i + 1) n)

abbrev pub since_in_value : ℕ → ℕ → ℕ → Term → Term → Term
since_in_value b zero zero p q = choose p q q
since_in_value b (suc low) zero p q = choose p q q
since_in_value b zero (suc high) p q = choose p (or q (since_from 0 b (b + 1) (suc high) 1 high)) q
since_in_value b (suc low) (suc high) p q = choose p (or (and q no) (since_from (suc low) b (b + 1) (suc high) 1 high)) (and q no)

-- sample i of a window, 0 being the newest
abbrev pub sample : ℕ → ℕ → Term → ℕ → Term
sample b m e zero = e
sample b m e (suc i) = ago b m (suc i)

abbrev pub samples_from : ℕ → ℕ → Term → ℕ → ℕ → List Term
samples_from b m e i zero = []
samples_from b m e i (suc n) = sample b m e i ∷ samples_from b m e (i + 1) n

abbrev pub all_of : List Term → Term
all_of [] = yes
all_of (a ∷ as_) = and_all a as_

-- the tests of sample i against each other sample, from j on
abbrev pub tests : (Term → Term → Term) → (ℕ → Term) → ℕ → ℕ → ℕ → List Term
tests test at i j zero = []
tests test at i j (suc n) = if nat_eq j i then tests test at i (j + 1) n else test (at i) (at j) ∷ tests test at i (j + 1) n

-- the first sample from i on that passes its tests, or the last
abbrev pub best : (Term → Term → Term) → (ℕ → Term) → ℕ → ℕ → ℕ → Term
best test at count i zero = at i
best test at count i (suc n) = choose (all_of (tests test at i 0 count)) (at i) (best test at count (i + 1) n)

abbrev pub sum_all : Scalar → Term → List Term → Term
sum_all s a [] = a
sum_all s a (b ∷ bs) = sum_all s (bin op2.Add s a b) bs

-- how many values a buffer of a form has
abbrev pub depth : LibForm → ℕ
depth form.Once = 1
depth form.Historically = 1
depth form.Yesterday = 1
depth form.WeaklyYesterday = 1
depth form.Since = 1
depth (form.OnceIn low high) = max high 1
depth (form.HistoricallyIn low high) = max high 1
depth (form.SinceIn low high) = max high 1
depth (form.Clock period phase) = 1
depth (form.WindowMax n s) = max (n - 1) 1
depth (form.WindowMin n s) = max (n - 1) 1
depth (form.WindowSum n s) = max (n - 1) 1

-- the value of a form whose first buffer is stream b, over its operands
abbrev pub form_term : LibForm → ℕ → List Term → Term
form_term form.Once b (p ∷ ps) = or p (stream b)
form_term form.Historically b (p ∷ ps) = and p (stream b)
form_term form.Yesterday b (p ∷ ps) = or (and p no) (stream b)
form_term form.WeaklyYesterday b (p ∷ ps) = or (and p no) (stream b)
form_term form.Since b (p ∷ q ∷ ps) = choose p (or q (stream b)) q
form_term (form.OnceIn zero high) b (p ∷ ps) = or_all p (agos b (max high 1) 1 high)
form_term (form.OnceIn (suc low) high) b (p ∷ ps) = or_all (and p no) (agos b (max high 1) (suc low) (high - low))
form_term (form.HistoricallyIn zero high) b (p ∷ ps) = and_all p (agos b (max high 1) 1 high)
form_term (form.HistoricallyIn (suc low) high) b (p ∷ ps) = and_all (or p yes) (agos b (max high 1) (suc low) (high - low))
form_term (form.SinceIn low high) b (p ∷ q ∷ ps) = since_in_value b low high p q
form_term (form.Clock period phase) b ps = bin op2.Eq scalar.Word32 (stream b) (lit scalar.Word32 phase)
form_term (form.WindowMax n s) b (e ∷ ps) = best (bin op2.Ge s) (sample b (max (n - 1) 1) e) n 0 (n - 1)
form_term (form.WindowMin n s) b (e ∷ ps) = best (bin op2.Le s) (sample b (max (n - 1) 1) e) n 0 (n - 1)
form_term (form.WindowSum n s) b (e ∷ ps) = sum_all s e (agos b (max (n - 1) 1) 1 (n - 1))
form_term _ b ps = no

-- ---- forms without a buffer

abbrev pub abs_term : Scalar → Term → Term
abs_term s e = choose (bin op2.Lt s e (lit s 0)) (bin op2.Sub s (lit s 0) e) e

abbrev pub sign_term : Scalar → Term → Term
sign_term s e = choose (bin op2.Gt s e (lit s 0)) (lit s 1) (if signed s then choose (bin op2.Lt s e (lit s 0)) (lit s (word (negsuc 0))) (lit s 0) else lit s 0)

abbrev pub one_vote : Scalar → Term → Term → Term
one_vote s a b = choose (bin op2.Eq s a b) (lit scalar.Word8 1) (lit scalar.Word8 0)

abbrev pub count_from : Scalar → Term → Term → List Term → Term
count_from s a sum_ [] = sum_
count_from s a sum_ (b ∷ bs) = count_from s a (bin op2.Add scalar.Word8 sum_ (one_vote s a b)) bs

abbrev pub count_of : Scalar → List Term → Term → Term
count_of s [] a = lit scalar.Word8 0
count_of s (b ∷ bs) a = count_from s a (one_vote s a b) bs

abbrev pub wins : Scalar → List Term → Term → Term
wins s es a = bin op2.Gt scalar.Word8 (count_of s es a) (lit scalar.Word8 (length es / 2))

abbrev pub majority_from : Scalar → List Term → Term → List Term → Term
majority_from s es first [] = first
majority_from s es first (a ∷ as_) = choose (wins s es a) a (majority_from s es first as_)

abbrev pub majority_term : Scalar → List Term → Term
majority_term s [] = lit s 0
majority_term s (e ∷ es) = majority_from s (e ∷ es) e (e ∷ es)

abbrev pub agreed_term : Scalar → List Term → Term
agreed_term s [] = no
agreed_term s (e ∷ es) = or_all (wins s (e ∷ es) e) (map (wins s (e ∷ es)) es)

-- ---- expressions and specifications

abbrev mutual
  -- an expression, where form k has its first buffer at stream (at k)
  pub lowered : (ℕ → ℕ) → Term → Term
  lowered at (lit s w) = lit s w
  lowered at (extern x) = extern x
  lowered at (stream s) = stream s
  lowered at (def d) = def d
  lowered at (named d a) = named d (lowered at a)
  lowered at missing = missing
  lowered at (dropped s k) = dropped s k
  lowered at (un o s a) = un o s (lowered at a)
  lowered at (bin o s a b) = bin o s (lowered at a) (lowered at b)
  lowered at (shift d s a cs c) = shift d s (lowered at a) cs (lowered at c)
  lowered at (cast f t a) = cast f t (lowered at a)
  lowered at (and a b) = and (lowered at a) (lowered at b)
  lowered at (or a b) = or (lowered at a) (lowered at b)
  lowered at (implies a b) = implies (lowered at a) (lowered at b)
  lowered at (choose c a b) = choose (lowered at c) (lowered at a) (lowered at b)
  lowered at (index t a i) = index t (lowered at a) (lowered at i)
  lowered at (field t m a) = field t m (lowered at a)
  lowered at (array t es) = array t (lowered_terms at es)
  lowered at (struct t es) = struct t (lowered_terms at es)
  lowered at (abs s a) = abs_term s (lowered at a)
  lowered at (sign s a) = sign_term s (lowered at a)
  lowered at (majority s es) = majority_term s (lowered_all at es)
  lowered at (agreed s es) = agreed_term s (lowered_all at es)
  lowered at (lib k form es) = form_term form (at k) (lowered_all at es)

  pub lowered_terms : (ℕ → ℕ) → Terms → Terms
  lowered_terms at end = end
  lowered_terms at (more a es) = more (lowered at a) (lowered_terms at es)

  pub lowered_all : (ℕ → ℕ) → Terms → List Term
  lowered_all at end = []
  lowered_all at (more a es) = lowered at a ∷ lowered_all at es

-- how many buffers a form has
abbrev pub buffers : LibForm → ℕ
buffers (form.SinceIn low high) = 2
buffers _ = 1

-- the first buffer of form k, behind n streams
abbrev pub buffer_of : ℕ → List TreeLib → ℕ → ℕ
buffer_of n [] k = n
buffer_of n (x ∷ xs) zero = n
buffer_of n (x ∷ xs) (suc k) = buffer_of (n + buffers x.form) xs k

abbrev pub bool_buffer : ℕ → ℕ → ℕ → Term → ℕ → TreeStream
bool_buffer number m w e at = record { name = decimal number; ty = ty.Scalar scalar.Bool; init = replicate m w; expr = e; at = at }

abbrev pub word_buffer : ℕ → Scalar → ℕ → ℕ → Term → ℕ → TreeStream
word_buffer number s m w e at = record { name = decimal number; ty = ty.Scalar s; init = replicate m w; expr = e; at = at }

-- the buffers of a form at place `at`, of which the first is stream b and has this number, over its lowered operands
abbrev pub buffers_of : LibForm → ℕ → ℕ → ℕ → List Term → List TreeStream
buffers_of form.Once number b at ps = bool_buffer number 1 0 (form_term form.Once b ps) at ∷ []
buffers_of form.Historically number b at ps = bool_buffer number 1 1 (form_term form.Historically b ps) at ∷ []
buffers_of form.Yesterday number b at (p ∷ ps) = bool_buffer number 1 0 p at ∷ []
buffers_of form.WeaklyYesterday number b at (p ∷ ps) = bool_buffer number 1 1 p at ∷ []
buffers_of form.Since number b at ps = bool_buffer number 1 0 (form_term form.Since b ps) at ∷ []
buffers_of (form.OnceIn low high) number b at (p ∷ ps) = bool_buffer number (max high 1) 0 p at ∷ []
buffers_of (form.HistoricallyIn low high) number b at (p ∷ ps) = bool_buffer number (max high 1) 1 p at ∷ []
buffers_of (form.SinceIn low high) number b at (p ∷ q ∷ ps) = bool_buffer number (max high 1) 1 p at ∷ bool_buffer (number + 1) (max high 1) 0 q at ∷ []
buffers_of (form.Clock period phase) number b at ps = word_buffer number scalar.Word32 1 0 (choose (bin op2.Eq scalar.Word32 (stream b) (lit scalar.Word32 (period - 1))) (lit scalar.Word32 0) (bin op2.Add scalar.Word32 (stream b) (lit scalar.Word32 1))) at ∷ []
buffers_of (form.WindowMax n s) number b at (e ∷ ps) = word_buffer number s (max (n - 1) 1) (word (least (bits s) (signed s))) e at ∷ []
buffers_of (form.WindowMin n s) number b at (e ∷ ps) = word_buffer number s (max (n - 1) 1) (word (greatest (bits s) (signed s))) e at ∷ []
buffers_of (form.WindowSum n s) number b at (e ∷ ps) = word_buffer number s (max (n - 1) 1) 0 e at ∷ []
buffers_of _ number b at ps = []

abbrev pub all_buffers : (Term → Term) → ℕ → ℕ → List TreeLib → List TreeStream
all_buffers f number b [] = []
all_buffers f number b (x ∷ xs) = buffers_of x.form number b x.at (map f x.args) ++ all_buffers f (number + buffers x.form) (b + buffers x.form) xs

-- the specification without library forms
abbrev pub lowered_spec : TreeSpec → TreeSpec
lowered_spec s = let f = lowered (buffer_of (length s.streams) s.libs) in record {
  name = s.name;
  types = s.types;
  externs = s.externs;
  streams = map (λ (x : TreeStream). record x { expr = f x.expr }) s.streams ++ all_buffers f 1 (length s.streams) s.libs;
  defs = map (λ (x : TreeDef). record x { expr = f x.expr }) s.defs;
  triggers = map (λ (x : TreeTrigger). record x { guard = root_with f x.guard; args = map (root_with f) x.args }) s.triggers;
  observers = map (λ (x : TreeObserver). record x { root = root_with f x.root }) s.observers;
  libs = [];
}
