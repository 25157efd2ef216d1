-- The first buffers of a list of forms.
use Rattle.std.proofs.Common.{◌≡◌, ⊎_elim, ℕ, zero, suc, ◌<◌, ◌≤◌, ◌+◌, List, [], ◌∷◌, ◌++◌, length, map, drop, get_or, refl, sym, ap, ◌∙◌, subst, arith}
use Rattle.stream_types.proofs.GrownLists.{get_push}
use Rattle.stream_core.specs.declared.spec.LibItem.{LibItem}
use Rattle.stream_core.specs.Value.{SpecValue}
use Rattle.stream_core.specs.Term.{Term, tree}
use Rattle.stream_core.specs.Lower.{buffer_of, buffers}
use Rattle.stream_lib.specs.Renamed.{AreStarts, first_from}
use Rattle.stream_lib.specs.Room.{buffer_count}

first_is : (t : ℕ → Term) (n : ℕ) (libs : List LibItem) (k : ℕ) → first_from n libs k ≡ buffer_of n (map (λ (x : LibItem). record { form = x.form; args = map t x.args; at = x.at }) libs) k
first_is t n [] k = refl
first_is t n (x ∷ xs) zero = refl
first_is t n (x ∷ xs) (suc k) = first_is t (n + buffers x.form) xs k

first_of_all : (n : ℕ) (libs : List LibItem) → first_from n libs 0 ≡ n
first_of_all n [] = refl
first_of_all n (x ∷ xs) = refl

pub drop_item : (xs : List LibItem) (i : ℕ) (x : LibItem) → i < length xs → x ≡ get_or xs i x → drop i xs ≡ x ∷ drop (suc i) xs
drop_item [] i x h e = absurd (omega (arith, h))
drop_item (y ∷ ys) zero x h e = ap (λ z. z ∷ ys) (sym e)
drop_item (y ∷ ys) (suc i) x h e = drop_item ys i x (omega (arith, h)) e

-- as many buffers are left as behind this form's
pub counted_on : (libs : List LibItem) (i : ℕ) (x : LibItem) (next step most : ℕ) → i < length libs → x ≡ get_or libs i x → step ≡ buffers x.form
    → next + buffer_count (drop i libs) ≤ most → next + step + buffer_count (drop (i + 1) libs) ≤ most
counted_on libs i x next step most h is s few =
    let a : i + 1 ≡ suc i = omega arith in
    let b = ap buffer_count (drop_item libs i x h is) in
    let r = ap (λ j. buffer_count (drop j libs)) a in
    omega (arith, b, r, s, few)

-- the rest of the forms begins where this form's buffers end
pub rest_starts : (n next i step : ℕ) (libs : List LibItem) (x : LibItem) → i < length libs → x ≡ get_or libs i x → step ≡ buffers x.form
    → ((k : ℕ) → first_from next (drop i libs) k ≡ first_from n libs (i + k))
    → (k : ℕ) → first_from (next + step) (drop (i + 1) libs) k ≡ first_from n libs (i + 1 + k)
rest_starts n next i step libs x h is s rest k =
    let a : i + 1 ≡ suc i = omega arith in
    let b : i + suc k ≡ i + 1 + k = omega arith in
    ap (λ j. first_from (next + step) (drop j libs) k) a
    ∙ ap (λ w. first_from (next + w) (drop (suc i) libs) k) s
    ∙ ap (λ ys. first_from next ys (suc k)) (sym (drop_item libs i x h is))
    ∙ rest (suc k)
    ∙ ap (first_from n libs) b

-- the next form's first buffer, behind those of the forms before it
pub starts_more : (source : SpecValue) (starts : List ℕ) (next i : ℕ) → length starts ≡ i → next < 4294967295 → AreStarts source starts
    → ((k : ℕ) → first_from next (drop i source.libs) k ≡ first_from (length source.streams) source.libs (i + k))
    → AreStarts source (starts ++ next ∷ [])
starts_more source starts next i count small are rest k b e =
    ⊎_elim
    (λ front. are k b front.1)
    (λ last.
    let z : i + 0 ≡ k = let p = last.0 in omega (arith, p, count) in
    let n = next_is ∙ ap (first_from (length source.streams) source.libs) z ∙ first_is (tree source.nodes source.libs) (length source.streams) source.libs k in
    (subst (λ x. x < 4294967295) last.1 small, sym last.1 ∙ n))
    (get_push starts next b k e)
  where
    next_is : next ≡ first_from (length source.streams) source.libs (i + 0)
    next_is = sym (first_of_all next (drop i source.libs)) ∙ rest 0
