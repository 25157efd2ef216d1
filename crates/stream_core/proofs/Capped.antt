-- Counts that stop at a bound.
use Rattle.std.proofs.Common.{◌≡◌, ⊎_elim, ℕ, suc, ◌+◌, ◌-◌, ◌*◌, ◌<◌, ◌≤◌, min, List, [], ◌∷◌, length, map, drop, take, refl, sym, ap, ◌∙◌, arith}
use Rattle.std.proofs.lemmas.Bool.{cases_lt}
use Rattle.std.specs.Prelude.{slice_get}
use Rattle.std.proofs.Math.Seq.{take-length}
use Rattle.stream_core.specs.Value.{SpecValue}
use Rattle.stream_core.specs.Weights.{total, heavy, heavy_at, nodes_weight, majority_weight, agreed_weight}

pub heavy_count : (s : SpecValue) (is : List ℕ) → length (map (heavy s) is) ≡ length is
heavy_count s [] = refl
heavy_count s (i ∷ is) = ap suc (heavy_count s is)

pub heavy_total : (s : SpecValue) (is : List ℕ) → total (map (heavy s) is) ≡ nodes_weight s is
heavy_total s [] = refl
heavy_total s (i ∷ is) = let h = heavy_total s is in cc

agreed_number : (k A a m : ℕ) → a ≡ min A (m - 1) → 0 < m → min (suc k * (5 * suc k + a + 1) + suc k * a + k) m ≡ min (suc k * (5 * suc k + A + 1) + suc k * A + k) m
agreed_number k A a m e p =
    ⊎_elim
    (λ (less : A < m). ap (λ x. min (suc k * (5 * suc k + x + 1) + suc k * x + k) m) (let q : a ≡ A = omega (arith, e, less) in q))
    (λ (le : m ≤ A). let q : a + 1 ≡ m = omega (arith, e, le, p) in omega (arith, q, le))
    (cases_lt A m)

pub agreed_capped : (s : SpecValue) (es : List ℕ) (m a : ℕ) → 1 ≤ length es → 0 < m → a ≡ min (nodes_weight s es) (m - 1) → min (length es * (5 * length es + a + 1) + length es * a + (length es - 1)) m ≡ min (agreed_weight (map (heavy s) es)) m
agreed_capped s [] m a one p e = absurd (omega (arith, one))
agreed_capped s (i ∷ is) m a one p e =
    let k = length is in
    let less : suc k - 1 ≡ k = omega arith in
    ap (λ x. min (suc k * (5 * suc k + a + 1) + suc k * a + x) m) less
    ∙ agreed_number k (heavy s i + nodes_weight s is) a m e p
    ∙ ap (λ x. min (suc k * (5 * suc k + (heavy s i + x) + 1) + suc k * (heavy s i + x) + k) m) (sym (heavy_total s is))
    ∙ ap (λ x. min (suc x * (5 * suc x + (heavy s i + total (map (heavy s) is)) + 1) + suc x * (heavy s i + total (map (heavy s) is)) + x) m) (sym (heavy_count s is))

majority_number : (k w r first others m : ℕ) → first ≡ min w (m - 1) → others ≡ min r (m - 1 - first) → 0 < m → min (suc k * (5 * suc k + (first + others) + 2) + (suc k + 1) * (first + others) + first) m ≡ min (suc k * (5 * suc k + (w + r) + 2) + (suc k + 1) * (w + r) + w) m
majority_number k w r first others m e f p =
    ⊎_elim
    (λ (less : w + r < m).
    let q : first ≡ w = omega (arith, e, less) in
    let g : others ≡ r = omega (arith, f, q, less) in
    ap (λ x. min (suc k * (5 * suc k + (x + others) + 2) + (suc k + 1) * (x + others) + x) m) q ∙ ap (λ x. min (suc k * (5 * suc k + (w + x) + 2) + (suc k + 1) * (w + x) + w) m) g)
    (λ (le : m ≤ w + r). let q : first + others + 1 ≡ m = omega (arith, e, f, le, p) in omega (arith, q, le))
    (cases_lt (w + r) m)

votes_capped : (s : SpecValue) (i : ℕ) (is : List ℕ) (m first others : ℕ) → first ≡ min (heavy s i) (m - 1) → others ≡ min (nodes_weight s is) (m - 1 - first) → 0 < m → min (suc (length is) * (5 * suc (length is) + (first + others) + 2) + (suc (length is) + 1) * (first + others) + first) m ≡ min (majority_weight (map (heavy s) (i ∷ is))) m
votes_capped s i is m first others e f p =
    let k = length is in
    majority_number k (heavy s i) (nodes_weight s is) first others m e f p
    ∙ ap (λ x. min (suc k * (5 * suc k + (heavy s i + x) + 2) + (suc k + 1) * (heavy s i + x) + heavy s i) m) (sym (heavy_total s is))
    ∙ ap (λ x. min (suc x * (5 * suc x + (heavy s i + total (map (heavy s) is)) + 2) + (suc x + 1) * (heavy s i + total (map (heavy s) is)) + heavy s i) m) (sym (heavy_count s is))

pub majority_capped : (s : SpecValue) (es : List ℕ) (m first others : ℕ) → 1 ≤ length es → first ≡ min (heavy_at s (slice_get es 0)) (m - 1) → others ≡ min (nodes_weight s (take (length es - 1) (drop 1 es))) (m - 1 - first) → 0 < m → min (length es * (5 * length es + (first + others) + 2) + (length es + 1) * (first + others) + first) m ≡ min (majority_weight (map (heavy s) es)) m
majority_capped s [] m first others one e f p = absurd (omega (arith, one))
majority_capped s (i ∷ is) m first others one e f p =
    let less : suc (length is) - 1 ≡ length is = omega arith in
    let all : take (suc (length is) - 1) is ≡ is = ap (λ n. take n is) less ∙ take-length is in
    votes_capped s i is m first others e (f ∙ ap (λ xs. min (nodes_weight s xs) (m - 1 - first)) all) p

-- a count over the elements so far that stops at a bound: with those that are left it is the count over all
abbrev pub Counting : {X : Type 0} → (List X → ℕ) → List X → ℕ → ℕ → ℕ → Type 0
Counting weigh xs i total most = (total ≤ most) × (min (total + weigh (drop i xs)) most ≡ min (weigh xs) most)
