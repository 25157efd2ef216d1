-- One more call behind others.
use Rattle.std.proofs.Common.{◌≡◌, ℕ, ◌-◌, ◌≤◌, List, [], ◌∷◌, ◌++◌, length, take, drop, refl, ap, ◌∙◌, arith}
use Rattle.std.proofs.lemmas.List.{length-append, length-drop, take-append-le, drop-append-le}
use Rattle.std.proofs.Math.Seq.{drop-append_seam}
use Rattle.c99_tree.specs.Step.{Called}
use Rattle.c_exec.specs.Called.{calls_in}
use Rattle.c_exec.proofs.Fronts.{take_fits}

-- the ends of the calls' words rise from one place to another
abbrev pub Rises : ℕ → List ℕ → ℕ → Type 0
Rises from [] to = from ≡ to
Rises from (e ∷ es) to = (from ≤ e) × Rises e es to

pub rises_within : (from : ℕ) (es : List ℕ) (to : ℕ) → Rises from es to → from ≤ to
rises_within from [] to h = omega (arith, h)
rises_within from (e ∷ es) to h = let l = rises_within e es to h.1 in let k = h.0 in omega (arith, l, k)

pub rises_more : (from : ℕ) (es : List ℕ) (to next : ℕ) → Rises from es to → to ≤ next → Rises from (es ++ next ∷ []) next
rises_more from [] to next h l = (omega (arith, h, l), refl)
rises_more from (e ∷ es) to next h l = (h.0, rises_more e es to next h.1 l)

abbrev call : ℕ → List ℕ → Called
call h ws = record { handler = h; words = ws }

last_words : (from : ℕ) (ws new : List ℕ) → from ≡ length ws → take (length (ws ++ new) - from) (drop from (ws ++ new)) ≡ new
last_words from ws new e =
    let l = length-append ws new in
    let n : length (ws ++ new) - from ≡ length new = omega (arith, l, e) in
    ap (λ (k : ℕ). take k (drop from (ws ++ new))) n ∙ ap (λ (k : ℕ). take (length new) (drop k (ws ++ new))) e
    ∙ ap (λ (xs : List ℕ). take (length new) xs) (drop-append_seam ws new) ∙ take_fits (length new) new (omega arith)

same_words : (from e : ℕ) (ws new : List ℕ) → from ≤ e → e ≤ length ws → take (e - from) (drop from (ws ++ new)) ≡ take (e - from) (drop from ws)
same_words from e ws new h g =
    let l = length-drop from ws in
    ap (λ (xs : List ℕ). take (e - from) xs) (drop-append-le from ws new (omega (arith, h, g))) ∙ take-append-le (e - from) (drop from ws) new (omega (arith, l, h, g))

pub calls_more : (from : ℕ) (hs es ws new : List ℕ) (h : ℕ) → length hs ≡ length es → Rises from es (length ws)
    → calls_in from (hs ++ h ∷ []) (es ++ length (ws ++ new) ∷ []) (ws ++ new) ≡ calls_in from hs es ws ++ call h new ∷ []
calls_more from [] [] ws new h l r = ap (λ (xs : List ℕ). call h xs ∷ []) (last_words from ws new r)
calls_more from [] (e ∷ es) ws new h l r = absurd (omega (arith, l))
calls_more from (k ∷ hs) [] ws new h l r = absurd (omega (arith, l))
calls_more from (k ∷ hs) (e ∷ es) ws new h l r =
    ap (λ (xs : List ℕ). call k xs ∷ calls_in e (hs ++ h ∷ []) (es ++ length (ws ++ new) ∷ []) (ws ++ new)) (same_words from e ws new r.0 (rises_within e es (length ws) r.1))
    ∙ ap (λ (cs : List Called). call k (take (e - from) (drop from ws)) ∷ cs) (calls_more e hs es ws new h (omega (arith, l)) r.1)
