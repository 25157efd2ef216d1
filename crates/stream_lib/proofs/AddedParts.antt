-- Each node that was added stands within what was made.
use Rattle.std.proofs.Common.{◌≡◌, ⊎_elim, ℕ, zero, suc, List, [], ◌∷◌, ◌++◌, length, Bool, true, false, Some, refl, sym, subst, arith}
use Rattle.std.specs.Prelude.{slice_get}
use Rattle.std.proofs.lemmas.Bool.{cases_lt}
use Rattle.stream_core.specs.Term.{Term}
use Rattle.stream_core.specs.Children.{children}
use Rattle.stream_core.specs.PartOf.{IsPartOf, the_whole, within}
use Rattle.stream_core.specs.Value.{SpecValue}
use Rattle.stream_lib.specs.Built.{AddsParts, AddsPartsOf, Grows, IsPartOfOne, Makes, both, joined, tree_at}

-- ---- parts of parts

pub part_then : (p e f : Term) → IsPartOf p e → IsPartOf e f → IsPartOf p f
part_then p e f h the_whole = h
part_then p e f h (within i is inner) = within i is (part_then p e _ h inner)

pub is_whole : (p e : Term) → p ≡ e → IsPartOf p e
is_whole p e same = subst (IsPartOf p) same the_whole

pub is_child : (p e : Term) (i : ℕ) → slice_get (children e) i ≡ Some p → IsPartOf p e
is_child p e i is = within i is the_whole

pub one_then : (p : Term) (es : List Term) (f : Term) → IsPartOfOne p es → ((k : ℕ) (e : Term) → slice_get es k ≡ Some e → IsPartOf e f) → IsPartOf p f
one_then p es f one each = part_then p one.whole f one.part (each one.place one.whole one.is)

-- ---- lists

get_front : {X : Type 0} (xs ys : List X) (i : ℕ) (x : X) → slice_get xs i ≡ Some x → slice_get (xs ++ ys) i ≡ Some x
get_front [] ys i x e = absurd (cc)
get_front (z ∷ zs) ys zero x e = e
get_front (z ∷ zs) ys (suc i) x e = get_front zs ys i x e

get_back : {X : Type 0} (xs ys : List X) (i : ℕ) (x : X) → slice_get ys i ≡ Some x → (k : ℕ) × (slice_get (xs ++ ys) k ≡ Some x)
get_back [] ys i x e = (i, e)
get_back (z ∷ zs) ys i x e = let r = get_back zs ys i x e in (suc r.0, r.1)

pub one_front : (p : Term) (es fs : List Term) → IsPartOfOne p es → IsPartOfOne p (es ++ fs)
one_front p es fs h = record { place = h.place; whole = h.whole; is = get_front es fs h.place h.whole h.is; part = h.part }

pub one_back : (p : Term) (es fs : List Term) → IsPartOfOne p fs → IsPartOfOne p (es ++ fs)
one_back p es fs h = let r = get_back es fs h.place h.whole h.is in record { place = r.0; whole = h.whole; is = r.1; part = h.part }

pub one_first : (p e : Term) (es : List Term) → IsPartOf p e → IsPartOfOne p (e ∷ es)
one_first p e es h = record { place = 0; whole = e; is = refl; part = h }

-- ---- one expression

pub adds_none : (s : SpecValue) (e : Term) → AddsParts s s e
adds_none s e = record { parts = λ j low high. absurd (omega (arith, low, high)) }

pub adds_within : (s t : SpecValue) (e f : Term) → AddsParts s t e → IsPartOf e f → AddsParts s t f
adds_within s t e f a part = record { parts = λ j low high. part_then _ e f (a.parts j low high) part }

pub adds_as : (s t : SpecValue) (e f : Term) → e ≡ f → AddsParts s t e → AddsParts s t f
adds_as s t e f is a = subst (AddsParts s t) is a

-- nodes within one expression, and then others within it
pub adds_then : (s t u : SpecValue) (f : Term) → AddsParts s t f → Grows t u → AddsParts t u f → AddsParts s u f
adds_then s t u f a g b = record {
  parts = λ j low high. ⊎_elim
      (λ below. subst (λ e. IsPartOf e f) (sym (g.trees j below)) (a.parts j low below))
      (λ above. b.parts j above high)
      (cases_lt j (length t.nodes));
}

-- one more that was made within it
pub adds_more : (s t u : SpecValue) (f e : Term) (i : ℕ) → AddsParts s t f → Makes t u i e → IsPartOf e f → AddsParts s u f
adds_more s t u f e i a m part = adds_then s t u f a m.grows (adds_within t u e f m.adds part)

pub adds_first : (s t : SpecValue) (f e : Term) (i : ℕ) → Makes s t i e → IsPartOf e f → AddsParts s t f
adds_first s t f e i m part = adds_within s t e f m.adds part

-- the next expression is over the one before it
pub adds_over : (s t u : SpecValue) (i k : ℕ) (f : Term) → AddsParts s t (tree_at t i) → Makes t u k f → IsPartOf (tree_at t i) f → AddsParts s u (tree_at u k)
adds_over s t u i k f a m part = adds_as s u f (tree_at u k) (sym m.is) (adds_more s t u f f k (adds_within s t (tree_at t i) f a part) m the_whole)

-- ---- several expressions

pub adds_of_none : (s : SpecValue) (es : List Term) → AddsPartsOf s s es
adds_of_none s es = record { parts = λ j low high. absurd (omega (arith, low, high)) }

pub adds_of_then : (s t u : SpecValue) (es : List Term) → AddsPartsOf s t es → Grows t u → AddsPartsOf t u es → AddsPartsOf s u es
adds_of_then s t u es a g b = record {
  parts = λ j low high. ⊎_elim
      (λ below. subst (λ e. IsPartOfOne e es) (sym (g.trees j below)) (a.parts j low below))
      (λ above. b.parts j above high)
      (cases_lt j (length t.nodes));
}

pub adds_of_front : (s t : SpecValue) (es fs : List Term) → AddsPartsOf s t es → AddsPartsOf s t (es ++ fs)
adds_of_front s t es fs a = record { parts = λ j low high. one_front _ es fs (a.parts j low high) }

pub adds_of_back : (s t : SpecValue) (es fs : List Term) → AddsPartsOf s t fs → AddsPartsOf s t (es ++ fs)
adds_of_back s t es fs a = record { parts = λ j low high. one_back _ es fs (a.parts j low high) }

pub adds_of_one : (s t : SpecValue) (e : Term) → AddsParts s t e → AddsPartsOf s t (e ∷ [])
adds_of_one s t e a = record { parts = λ j low high. one_first _ e [] (a.parts j low high) }

-- each of them is within one expression
pub adds_all_within : (s t : SpecValue) (es : List Term) (f : Term) → AddsPartsOf s t es → ((k : ℕ) (e : Term) → slice_get es k ≡ Some e → IsPartOf e f) → AddsParts s t f
adds_all_within s t es f a each = record { parts = λ j low high. one_then _ es f (a.parts j low high) each }

-- ---- what is nested to the right

pub both_first : (all : Bool) (a b : Term) → IsPartOf a (both all a b)
both_first true a b = is_child a _ 0 refl
both_first false a b = is_child a _ 0 refl

pub both_second : (all : Bool) (a b : Term) → IsPartOf b (both all a b)
both_second true a b = is_child b _ 1 refl
both_second false a b = is_child b _ 1 refl

pub joined_part : (all : Bool) (es : List Term) (k : ℕ) (e : Term) → slice_get es k ≡ Some e → IsPartOf e (joined all es)
joined_part all [] k e is = absurd (cc)
joined_part all (a ∷ []) zero e is = is_whole e a (let q : a ≡ e = cc in sym q)
joined_part all (a ∷ []) (suc k) e is = absurd (cc)
joined_part all (a ∷ b ∷ bs) zero e is = let q : a ≡ e = cc in subst (λ x. IsPartOf x (both all a (joined all (b ∷ bs)))) q (both_first all a (joined all (b ∷ bs)))
joined_part all (a ∷ b ∷ bs) (suc k) e is = part_then e (joined all (b ∷ bs)) _ (joined_part all (b ∷ bs) k e is) (both_second all a (joined all (b ∷ bs)))
