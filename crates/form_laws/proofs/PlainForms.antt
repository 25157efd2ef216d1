-- What expressions, forms and specifications are lowered to is plain, and what is plain stays.
use Rattle.std.proofs.Common.{◌≡◌, ℕ, zero, suc, ◌+◌, ◌-◌, List, [], ◌∷◌, ◌++◌, length, map, refl, sym, ap, ◌∙◌, max, Bool, true, false, if◌then◌else◌, arith}
use Rattle.std.specs.Prelude.{nat_le, nat_eq, All}
use Rattle.std.specs.List.{AllByRecursion}
use Rattle.std.proofs.lemmas.List.Elements.{All-nil, All-cons}
use Rattle.stream_types.specs.declared.scalar.Scalar.{Scalar}
use Rattle.stream_types.specs.declared.scalar.Scalar.TheVariants as scalar
use Rattle.stream_types.specs.declared.scalar.Op2.{Op2}
use Rattle.stream_types.specs.declared.scalar.Op2.TheVariants as op2
use Rattle.stream_types.specs.Types.{signed}
use Rattle.stream_core.specs.declared.node.LibForm.{LibForm}
use Rattle.stream_core.specs.declared.node.LibForm.TheVariants as form
use Rattle.stream_core.specs.Term.{Term, Terms, lit, extern, stream, def, named, missing, dropped, un, bin, shift, cast, and, or, implies, choose, index, field, array, struct, abs, sign, majority, agreed, lib, end, more, TreeSpec, TreeStream, TreeDef, TreeTrigger, TreeObserver, TreeLib, TreeRoot, root_with}
use Rattle.stream_core.specs.Lower.{yes, no, or_all, and_all, agos, since_from, since_in_value, sample, all_of, tests, best, sum_all, abs_term, sign_term, one_vote, count_from, wins, majority_from, majority_term, agreed_term, form_term, buffers, buffer_of, buffers_of, all_buffers, lowered, lowered_terms, lowered_all, lowered_spec}
use Rattle.stream_core.specs.Plain.{IsPlain, ArePlain, IsPlainTrigger, IsPlainSpec}

abbrev EachPlain : List Term → Type 0
EachPlain es = AllByRecursion IsPlain es

-- ---- chains

or_all_plain : (a : Term) (bs : List Term) → IsPlain a → EachPlain bs → IsPlain (or_all a bs)
or_all_plain a [] p h = p
or_all_plain a (b ∷ bs) p h = (p, or_all_plain b bs h.0 h.1)

and_all_plain : (a : Term) (bs : List Term) → IsPlain a → EachPlain bs → IsPlain (and_all a bs)
and_all_plain a [] p h = p
and_all_plain a (b ∷ bs) p h = (p, and_all_plain b bs h.0 h.1)

agos_plain : (b m i n : ℕ) → EachPlain (agos b m i n)
agos_plain b m i zero = tt
agos_plain b m i (suc n) = (tt, agos_plain b m (i + 1) n)

sum_all_plain : (s : Scalar) (a : Term) (bs : List Term) → IsPlain a → EachPlain bs → IsPlain (sum_all s a bs)
sum_all_plain s a [] p h = p
sum_all_plain s a (b ∷ bs) p h = sum_all_plain s (bin op2.Add s a b) bs (p, h.0) h.1

picked_plain : (c : Bool) (a b : Term) → IsPlain a → IsPlain b → IsPlain (if c then a else b)
picked_plain true a b p q = p
picked_plain false a b p q = q

since_from_plain : (low p q m i n : ℕ) → IsPlain (since_from low p q m i n)
since_from_plain low p q m i zero = tt
since_from_plain low p q m i (suc n) =
    let rest = since_from_plain low p q m (i + 1) n in
    picked_plain (nat_le low i) _ _ (tt, (tt, rest)) (tt, rest)

since_in_plain : (b low high : ℕ) (p q : Term) → IsPlain p → IsPlain q → IsPlain (since_in_value b low high p q)
since_in_plain b zero zero p q h g = (h, g, g)
since_in_plain b (suc low) zero p q h g = (h, g, g)
since_in_plain b zero (suc high) p q h g = (h, (g, since_from_plain 0 b (b + 1) (suc high) 1 high), g)
since_in_plain b (suc low) (suc high) p q h g = (h, ((g, tt), since_from_plain (suc low) b (b + 1) (suc high) 1 high), (g, tt))

-- ---- windows

sample_plain : (b m : ℕ) (e : Term) (i : ℕ) → IsPlain e → IsPlain (sample b m e i)
sample_plain b m e zero h = h
sample_plain b m e (suc i) h = tt

all_of_plain : (ts : List Term) → EachPlain ts → IsPlain (all_of ts)
all_of_plain [] h = tt
all_of_plain (a ∷ ts) h = and_all_plain a ts h.0 h.1

picked_list : (c : Bool) (x y : List Term) → EachPlain x → EachPlain y → EachPlain (if c then x else y)
picked_list true x y p q = p
picked_list false x y p q = q

module _ (o : Op2) (s : Scalar) (b m : ℕ) (e : Term) (h : IsPlain e) where
  tests_plain : (i j n : ℕ) → EachPlain (tests (bin o s) (sample b m e) i j n)
  tests_plain i j zero = tt
  tests_plain i j (suc n) =
      let rest = tests_plain i (j + 1) n in
      picked_list (nat_eq j i) _ _ rest ((sample_plain b m e i h, sample_plain b m e j h), rest)

  best_plain : (count i n : ℕ) → IsPlain (best (bin o s) (sample b m e) count i n)
  best_plain count i zero = sample_plain b m e i h
  best_plain count i (suc n) = (all_of_plain (tests (bin o s) (sample b m e) i 0 count) (tests_plain i 0 count), sample_plain b m e i h, best_plain count (i + 1) n)

-- ---- votes and signs

abs_plain : (s : Scalar) (e : Term) → IsPlain e → IsPlain (abs_term s e)
abs_plain s e h = ((h, tt), (tt, h), h)

sign_plain : (s : Scalar) (e : Term) → IsPlain e → IsPlain (sign_term s e)
sign_plain s e h = ((h, tt), tt, picked_plain (signed s) _ _ ((h, tt), tt, tt) tt)

vote_plain : (s : Scalar) (a b : Term) → IsPlain a → IsPlain b → IsPlain (one_vote s a b)
vote_plain s a b h g = ((h, g), tt, tt)

count_from_plain : (s : Scalar) (a sum_ : Term) (bs : List Term) → IsPlain a → IsPlain sum_ → EachPlain bs → IsPlain (count_from s a sum_ bs)
count_from_plain s a sum_ [] h g k = g
count_from_plain s a sum_ (b ∷ bs) h g k = count_from_plain s a (bin op2.Add scalar.Word8 sum_ (one_vote s a b)) bs h (g, vote_plain s a b h k.0) k.1

wins_plain : (s : Scalar) (es : List Term) (a : Term) → EachPlain es → IsPlain a → IsPlain (wins s es a)
wins_plain s [] a h g = (tt, tt)
wins_plain s (b ∷ bs) a h g = (count_from_plain s a (one_vote s a b) bs g (vote_plain s a b g h.0) h.1, tt)

majority_from_plain : (s : Scalar) (es : List Term) (first : Term) (as_ : List Term) → EachPlain es → IsPlain first → EachPlain as_ → IsPlain (majority_from s es first as_)
majority_from_plain s es first [] h g k = g
majority_from_plain s es first (a ∷ as_) h g k = (wins_plain s es a h k.0, k.0, majority_from_plain s es first as_ h g k.1)

majority_plain : (s : Scalar) (es : List Term) → EachPlain es → IsPlain (majority_term s es)
majority_plain s [] h = tt
majority_plain s (e ∷ es) h = majority_from_plain s (e ∷ es) e (e ∷ es) h h.0 h

wins_are_plain : (s : Scalar) (es as_ : List Term) → EachPlain es → EachPlain as_ → EachPlain (map (wins s es) as_)
wins_are_plain s es [] h k = tt
wins_are_plain s es (a ∷ as_) h k = (wins_plain s es a h k.0, wins_are_plain s es as_ h k.1)

agreed_plain : (s : Scalar) (es : List Term) → EachPlain es → IsPlain (agreed_term s es)
agreed_plain s [] h = tt
agreed_plain s (e ∷ es) h = or_all_plain (wins s (e ∷ es) e) (map (wins s (e ∷ es)) es) (wins_plain s (e ∷ es) e h h.0) (wins_are_plain s (e ∷ es) es h h.1)

-- ---- forms

form_plain : (f : LibForm) (b : ℕ) (ps : List Term) → EachPlain ps → IsPlain (form_term f b ps)
form_plain form.Once b [] h = tt
form_plain form.Once b (p ∷ ps) h = (h.0, tt)
form_plain form.Historically b [] h = tt
form_plain form.Historically b (p ∷ ps) h = (h.0, tt)
form_plain form.Yesterday b [] h = tt
form_plain form.Yesterday b (p ∷ ps) h = ((h.0, tt), tt)
form_plain form.WeaklyYesterday b [] h = tt
form_plain form.WeaklyYesterday b (p ∷ ps) h = ((h.0, tt), tt)
form_plain form.Since b [] h = tt
form_plain form.Since b (p ∷ []) h = tt
form_plain form.Since b (p ∷ q ∷ ps) h = (h.0, (h.1.0, tt), h.1.0)
form_plain (form.OnceIn zero high) b [] h = tt
form_plain (form.OnceIn zero high) b (p ∷ ps) h = or_all_plain p (agos b (max high 1) 1 high) h.0 (agos_plain b (max high 1) 1 high)
form_plain (form.OnceIn (suc low) high) b [] h = tt
form_plain (form.OnceIn (suc low) high) b (p ∷ ps) h = or_all_plain (and p no) (agos b (max high 1) (suc low) (high - low)) (h.0, tt) (agos_plain b (max high 1) (suc low) (high - low))
form_plain (form.HistoricallyIn zero high) b [] h = tt
form_plain (form.HistoricallyIn zero high) b (p ∷ ps) h = and_all_plain p (agos b (max high 1) 1 high) h.0 (agos_plain b (max high 1) 1 high)
form_plain (form.HistoricallyIn (suc low) high) b [] h = tt
form_plain (form.HistoricallyIn (suc low) high) b (p ∷ ps) h = and_all_plain (or p yes) (agos b (max high 1) (suc low) (high - low)) (h.0, tt) (agos_plain b (max high 1) (suc low) (high - low))
form_plain (form.SinceIn low high) b [] h = tt
form_plain (form.SinceIn low high) b (p ∷ []) h = tt
form_plain (form.SinceIn low high) b (p ∷ q ∷ ps) h = since_in_plain b low high p q h.0 h.1.0
form_plain (form.Clock period phase) b ps h = (tt, tt)
form_plain (form.WindowMax n s) b [] h = tt
form_plain (form.WindowMax n s) b (e ∷ ps) h = best_plain op2.Ge s b (max (n - 1) 1) e h.0 n 0 (n - 1)
form_plain (form.WindowMin n s) b [] h = tt
form_plain (form.WindowMin n s) b (e ∷ ps) h = best_plain op2.Le s b (max (n - 1) 1) e h.0 n 0 (n - 1)
form_plain (form.WindowSum n s) b [] h = tt
form_plain (form.WindowSum n s) b (e ∷ ps) h = sum_all_plain s e (agos b (max (n - 1) 1) 1 (n - 1)) h.0 (agos_plain b (max (n - 1) 1) 1 (n - 1))

abbrev PlainStream : TreeStream → Type 0
PlainStream x = IsPlain x.expr

buffers_plain : (f : LibForm) (number b at : ℕ) (ps : List Term) → EachPlain ps → AllByRecursion PlainStream (buffers_of f number b at ps)
buffers_plain form.Once number b at ps h = (form_plain form.Once b ps h, tt)
buffers_plain form.Historically number b at ps h = (form_plain form.Historically b ps h, tt)
buffers_plain form.Yesterday number b at [] h = tt
buffers_plain form.Yesterday number b at (p ∷ ps) h = (h.0, tt)
buffers_plain form.WeaklyYesterday number b at [] h = tt
buffers_plain form.WeaklyYesterday number b at (p ∷ ps) h = (h.0, tt)
buffers_plain form.Since number b at ps h = (form_plain form.Since b ps h, tt)
buffers_plain (form.OnceIn low high) number b at [] h = tt
buffers_plain (form.OnceIn low high) number b at (p ∷ ps) h = (h.0, tt)
buffers_plain (form.HistoricallyIn low high) number b at [] h = tt
buffers_plain (form.HistoricallyIn low high) number b at (p ∷ ps) h = (h.0, tt)
buffers_plain (form.SinceIn low high) number b at [] h = tt
buffers_plain (form.SinceIn low high) number b at (p ∷ []) h = tt
buffers_plain (form.SinceIn low high) number b at (p ∷ q ∷ ps) h = (h.0, (h.1.0, tt))
buffers_plain (form.Clock period phase) number b at ps h = (((tt, tt), tt, (tt, tt)), tt)
buffers_plain (form.WindowMax n s) number b at [] h = tt
buffers_plain (form.WindowMax n s) number b at (e ∷ ps) h = (h.0, tt)
buffers_plain (form.WindowMin n s) number b at [] h = tt
buffers_plain (form.WindowMin n s) number b at (e ∷ ps) h = (h.0, tt)
buffers_plain (form.WindowSum n s) number b at [] h = tt
buffers_plain (form.WindowSum n s) number b at (e ∷ ps) h = (h.0, tt)

-- ---- expressions

module _ (at : ℕ → ℕ) where
  mutual
    lowered_plain : (e : Term) → IsPlain (lowered at e)
    lowered_plain (lit s w) = tt
    lowered_plain (extern x) = tt
    lowered_plain (stream s) = tt
    lowered_plain (def d) = tt
    lowered_plain (named d a) = lowered_plain a
    lowered_plain missing = tt
    lowered_plain (dropped s k) = tt
    lowered_plain (un o s a) = lowered_plain a
    lowered_plain (bin o s a b) = (lowered_plain a, lowered_plain b)
    lowered_plain (shift d s a cs b) = (lowered_plain a, lowered_plain b)
    lowered_plain (cast f t a) = lowered_plain a
    lowered_plain (and a b) = (lowered_plain a, lowered_plain b)
    lowered_plain (or a b) = (lowered_plain a, lowered_plain b)
    lowered_plain (implies a b) = (lowered_plain a, lowered_plain b)
    lowered_plain (choose c a b) = (lowered_plain c, lowered_plain a, lowered_plain b)
    lowered_plain (index t a b) = (lowered_plain a, lowered_plain b)
    lowered_plain (field t m a) = lowered_plain a
    lowered_plain (array t es) = terms_plain es
    lowered_plain (struct t es) = terms_plain es
    lowered_plain (abs s a) = abs_plain s (lowered at a) (lowered_plain a)
    lowered_plain (sign s a) = sign_plain s (lowered at a) (lowered_plain a)
    lowered_plain (majority s es) = majority_plain s (lowered_all at es) (list_plain es)
    lowered_plain (agreed s es) = agreed_plain s (lowered_all at es) (list_plain es)
    lowered_plain (lib k form es) = form_plain form (at k) (lowered_all at es) (list_plain es)

    terms_plain : (es : Terms) → ArePlain (lowered_terms at es)
    terms_plain end = tt
    terms_plain (more a es) = (lowered_plain a, terms_plain es)

    list_plain : (es : Terms) → EachPlain (lowered_all at es)
    list_plain end = tt
    list_plain (more a es) = (lowered_plain a, list_plain es)

  mutual
    plain_same : (e : Term) → IsPlain e → lowered at e ≡ e
    plain_same (lit s w) h = refl
    plain_same (extern x) h = refl
    plain_same (stream s) h = refl
    plain_same (def d) h = refl
    plain_same (named d a) h = ap (named d) (plain_same a h)
    plain_same missing h = refl
    plain_same (dropped s k) h = refl
    plain_same (un o s a) h = ap (un o s) (plain_same a h)
    plain_same (bin o s a b) h = let p = plain_same a h.0 in let q = plain_same b h.1 in cc
    plain_same (shift d s a cs b) h = let p = plain_same a h.0 in let q = plain_same b h.1 in cc
    plain_same (cast f t a) h = ap (cast f t) (plain_same a h)
    plain_same (and a b) h = let p = plain_same a h.0 in let q = plain_same b h.1 in cc
    plain_same (or a b) h = let p = plain_same a h.0 in let q = plain_same b h.1 in cc
    plain_same (implies a b) h = let p = plain_same a h.0 in let q = plain_same b h.1 in cc
    plain_same (choose c a b) h = let p = plain_same a h.1 in let q = plain_same b h.2 in let r = plain_same c h.0 in cc
    plain_same (index t a b) h = let p = plain_same a h.0 in let q = plain_same b h.1 in cc
    plain_same (field t m a) h = ap (field t m) (plain_same a h)
    plain_same (array t es) h = ap (array t) (terms_same es h)
    plain_same (struct t es) h = ap (struct t) (terms_same es h)
    plain_same (abs s a) h = absurd h
    plain_same (sign s a) h = absurd h
    plain_same (majority s es) h = absurd h
    plain_same (agreed s es) h = absurd h
    plain_same (lib k form es) h = absurd h

    terms_same : (es : Terms) → ArePlain es → lowered_terms at es ≡ es
    terms_same end h = refl
    terms_same (more a es) h = let p = plain_same a h.0 in let q = terms_same es h.1 in cc

-- ---- specifications

-- of the elements by place, and the other way round
pub each_of : {X : Type 0} (P : X → Type 0) (xs : List X) → All P xs → AllByRecursion P xs
each_of P [] h = tt
each_of P (x ∷ xs) h = (h 0 x (omega arith), each_of P xs (λ k d b. h (suc k) d (omega (arith, b))))

pub all_of_each : {X : Type 0} (P : X → Type 0) (xs : List X) → AllByRecursion P xs → All P xs
all_of_each P [] h = All-nil P
all_of_each P (x ∷ xs) h = All-cons P x xs h.0 (all_of_each P xs h.1)

pub each_mapped : {X Y : Type 0} (P : Y → Type 0) (f : X → Y) (xs : List X) → ((x : X) → P (f x)) → AllByRecursion P (map f xs)
each_mapped P f [] h = tt
each_mapped P f (x ∷ xs) h = (h x, each_mapped P f xs h)

pub each_append : {X : Type 0} (P : X → Type 0) (xs ys : List X) → AllByRecursion P xs → AllByRecursion P ys → AllByRecursion P (xs ++ ys)
each_append P [] ys h g = g
each_append P (x ∷ xs) ys h g = (h.0, each_append P xs ys h.1 g)

append_nil : {X : Type 0} (xs : List X) → xs ++ [] ≡ xs
append_nil [] = refl
append_nil (x ∷ xs) = ap (λ r. x ∷ r) (append_nil xs)

map_still : {X : Type 0} (P : X → Type 0) (f : X → X) (xs : List X) → ((x : X) → P x → f x ≡ x) → AllByRecursion P xs → map f xs ≡ xs
map_still P f [] h g = refl
map_still P f (x ∷ xs) h g = ap (λ y. y ∷ map f xs) (h x g.0) ∙ ap (λ r. x ∷ r) (map_still P f xs h g.1)

module _ (s : TreeSpec) where
  abbrev at : ℕ → ℕ
  at = buffer_of (length s.streams) s.libs

  abbrev low : Term → Term
  low e = lowered at e

  all_plain : (number b : ℕ) (xs : List TreeLib) → AllByRecursion PlainStream (all_buffers low number b xs)
  all_plain number b [] = tt
  all_plain number b (x ∷ xs) =
      each_append PlainStream (buffers_of x.form number b x.at (map low x.args)) (all_buffers low (number + buffers x.form) (b + buffers x.form) xs)
      (buffers_plain x.form number b x.at (map low x.args) (each_mapped IsPlain low x.args (lowered_plain at)))
      (all_plain (number + buffers x.form) (b + buffers x.form) xs)

  trigger_plain : (x : TreeTrigger) → IsPlainTrigger (record x { guard = root_with low x.guard; args = map (root_with low) x.args })
  trigger_plain x =
      (lowered_plain at x.guard.expr, all_of_each (λ (r : TreeRoot). IsPlain r.expr) (map (root_with low) x.args) (each_mapped (λ (r : TreeRoot). IsPlain r.expr) (root_with low) x.args (λ r. lowered_plain at r.expr)))

  pub spec_plain : IsPlainSpec (lowered_spec s)
  spec_plain = record {
    libs = refl;
    streams = all_of_each PlainStream (lowered_spec s).streams
        (each_append PlainStream (map (λ (x : TreeStream). record x { expr = low x.expr }) s.streams) (all_buffers low 1 (length s.streams) s.libs)
        (each_mapped PlainStream (λ (x : TreeStream). record x { expr = low x.expr }) s.streams (λ x. lowered_plain at x.expr)) (all_plain 1 (length s.streams) s.libs));
    defs = all_of_each (λ (x : TreeDef). IsPlain x.expr) (lowered_spec s).defs (each_mapped (λ (x : TreeDef). IsPlain x.expr) (λ (x : TreeDef). record x { expr = low x.expr }) s.defs (λ x. lowered_plain at x.expr));
    triggers = all_of_each IsPlainTrigger (lowered_spec s).triggers (each_mapped IsPlainTrigger _ s.triggers trigger_plain);
    observers = all_of_each (λ (x : TreeObserver). IsPlain x.root.expr) (lowered_spec s).observers (each_mapped (λ (x : TreeObserver). IsPlain x.root.expr) (λ (x : TreeObserver). record x { root = root_with low x.root }) s.observers (λ x. lowered_plain at x.root.expr));
  }

  abbrev whole : List TreeStream → List TreeDef → List TreeTrigger → List TreeObserver → List TreeLib → TreeSpec
  whole ss ds ts os ls = record { name = s.name; types = s.types; externs = s.externs; streams = ss; defs = ds; triggers = ts; observers = os; libs = ls }

  module _ (h : IsPlainSpec s) where
    streams_still : map (λ (x : TreeStream). record x { expr = low x.expr }) s.streams ++ all_buffers low 1 (length s.streams) s.libs ≡ s.streams
    streams_still =
        ap (λ ls. map (λ (x : TreeStream). record x { expr = low x.expr }) s.streams ++ all_buffers low 1 (length s.streams) ls) h.libs
        ∙ append_nil (map (λ (x : TreeStream). record x { expr = low x.expr }) s.streams)
        ∙ map_still PlainStream (λ (x : TreeStream). record x { expr = low x.expr }) s.streams (λ x p. ap (λ e. record x { expr = e }) (plain_same at x.expr p)) (each_of PlainStream s.streams h.streams)

    defs_still : map (λ (x : TreeDef). record x { expr = low x.expr }) s.defs ≡ s.defs
    defs_still = map_still (λ (x : TreeDef). IsPlain x.expr) (λ (x : TreeDef). record x { expr = low x.expr }) s.defs (λ x p. ap (λ e. record x { expr = e }) (plain_same at x.expr p)) (each_of (λ (x : TreeDef). IsPlain x.expr) s.defs h.defs)

    root_still : (r : TreeRoot) → IsPlain r.expr → root_with low r ≡ r
    root_still r p = ap (λ e. record r { expr = e }) (plain_same at r.expr p)

    trigger_still : (x : TreeTrigger) → IsPlainTrigger x → (record x { guard = root_with low x.guard; args = map (root_with low) x.args }) ≡ x
    trigger_still x p =
        ap (λ g. record x { guard = g; args = map (root_with low) x.args }) (root_still x.guard p.0)
        ∙ ap (λ rs. record x { args = rs }) (map_still (λ (r : TreeRoot). IsPlain r.expr) (root_with low) x.args root_still (each_of (λ (r : TreeRoot). IsPlain r.expr) x.args p.1))

    triggers_still : map (λ (x : TreeTrigger). record x { guard = root_with low x.guard; args = map (root_with low) x.args }) s.triggers ≡ s.triggers
    triggers_still = map_still IsPlainTrigger _ s.triggers trigger_still (each_of IsPlainTrigger s.triggers h.triggers)

    observers_still : map (λ (x : TreeObserver). record x { root = root_with low x.root }) s.observers ≡ s.observers
    observers_still = map_still (λ (x : TreeObserver). IsPlain x.root.expr) (λ (x : TreeObserver). record x { root = root_with low x.root }) s.observers (λ x p. ap (λ r. record x { root = r }) (root_still x.root p)) (each_of (λ (x : TreeObserver). IsPlain x.root.expr) s.observers h.observers)

    pub spec_still : lowered_spec s ≡ s
    spec_still =
        ap (λ ss. whole ss (map (λ (x : TreeDef). record x { expr = low x.expr }) s.defs) (map (λ (x : TreeTrigger). record x { guard = root_with low x.guard; args = map (root_with low) x.args }) s.triggers) (map (λ (x : TreeObserver). record x { root = root_with low x.root }) s.observers) []) streams_still
        ∙ ap (λ ds. whole s.streams ds (map (λ (x : TreeTrigger). record x { guard = root_with low x.guard; args = map (root_with low) x.args }) s.triggers) (map (λ (x : TreeObserver). record x { root = root_with low x.root }) s.observers) []) defs_still
        ∙ ap (λ ts. whole s.streams s.defs ts (map (λ (x : TreeObserver). record x { root = root_with low x.root }) s.observers) []) triggers_still
        ∙ ap (λ os. whole s.streams s.defs s.triggers os []) observers_still
        ∙ ap (λ ls. whole s.streams s.defs s.triggers s.observers ls) (sym h.libs)
