-- Votes by weights that stop at a bound.
use Rattle.std.proofs.Common.{◌≡◌, ⊎_elim, ℕ, suc, ◌+◌, ◌-◌, ◌*◌, ◌<◌, ◌≤◌, min, List, [], ◌∷◌, length, map, sym, ap, ◌∙◌, arith}
use Rattle.std.specs.Prelude.{slice_get}
use Rattle.std.proofs.lemmas.Bool.{cases_lt}
use Rattle.stream_core.specs.Value.{SpecValue}
use Rattle.stream_core.specs.Weights.{total, heavy, heavy_at, nodes_weight, majority_weight, agreed_weight}
use Rattle.stream_core.proofs.Capped.{heavy_count, heavy_total}

agreed_number : (k A a m : ℕ) → a ≡ min A m → min (suc k * (5 * suc k + a + 1) + suc k * a + k) m ≡ min (suc k * (5 * suc k + A + 1) + suc k * A + k) m
agreed_number k A a m e =
    ⊎_elim
    (λ (less : A < m). ap (λ x. min (suc k * (5 * suc k + x + 1) + suc k * x + k) m) (let q : a ≡ A = omega (arith, e, less) in q))
    (λ (le : m ≤ A). let q : a ≡ m = omega (arith, e, le) in omega (arith, q, le))
    (cases_lt A m)

pub agreed_known : (s : SpecValue) (es : List ℕ) (m a : ℕ) → 1 ≤ length es → a ≡ min (nodes_weight s es) m → min (length es * (5 * length es + a + 1) + length es * a + (length es - 1)) m ≡ min (agreed_weight (map (heavy s) es)) m
agreed_known s [] m a one e = absurd (omega (arith, one))
agreed_known s (i ∷ is) m a one e =
    let k = length is in
    let less : suc k - 1 ≡ k = omega arith in
    ap (λ x. min (suc k * (5 * suc k + a + 1) + suc k * a + x) m) less
    ∙ agreed_number k (heavy s i + nodes_weight s is) a m e
    ∙ ap (λ x. min (suc k * (5 * suc k + (heavy s i + x) + 1) + suc k * (heavy s i + x) + k) m) (sym (heavy_total s is))
    ∙ ap (λ x. min (suc x * (5 * suc x + (heavy s i + total (map (heavy s) is)) + 1) + suc x * (heavy s i + total (map (heavy s) is)) + x) m) (sym (heavy_count s is))

majority_number : (k w r first all m : ℕ) → first ≡ min w m → all ≡ min (w + r) m → min (suc k * (5 * suc k + all + 2) + (suc k + 1) * all + first) m ≡ min (suc k * (5 * suc k + (w + r) + 2) + (suc k + 1) * (w + r) + w) m
majority_number k w r first all m e f =
    ⊎_elim
    (λ (less : w + r < m).
    let q : first ≡ w = omega (arith, e, less) in
    let g : all ≡ w + r = omega (arith, f, less) in
    ap (λ x. min (suc k * (5 * suc k + all + 2) + (suc k + 1) * all + x) m) q ∙ ap (λ x. min (suc k * (5 * suc k + x + 2) + (suc k + 1) * x + w) m) g)
    (λ (le : m ≤ w + r). let q : all ≡ m = omega (arith, f, le) in omega (arith, q, le))
    (cases_lt (w + r) m)

pub majority_known : (s : SpecValue) (es : List ℕ) (m first all : ℕ) → 1 ≤ length es → first ≡ min (heavy_at s (slice_get es 0)) m → all ≡ min (nodes_weight s es) m → min (length es * (5 * length es + all + 2) + (length es + 1) * all + first) m ≡ min (majority_weight (map (heavy s) es)) m
majority_known s [] m first all one e f = absurd (omega (arith, one))
majority_known s (i ∷ is) m first all one e f =
    let k = length is in
    majority_number k (heavy s i) (nodes_weight s is) first all m e f
    ∙ ap (λ x. min (suc k * (5 * suc k + (heavy s i + x) + 2) + (suc k + 1) * (heavy s i + x) + heavy s i) m) (sym (heavy_total s is))
    ∙ ap (λ x. min (suc x * (5 * suc x + (heavy s i + total (map (heavy s) is)) + 2) + (suc x + 1) * (heavy s i + total (map (heavy s) is)) + heavy s i) m) (sym (heavy_count s is))
