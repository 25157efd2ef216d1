use Rattle.std.proofs.Common.{◌≡◌, ℕ, zero, suc, ◌+◌, ◌-◌, ◌<◌, ◌≤◌, List, [], ◌∷◌, length, get_or, take, drop, length-drop, Some, None, refl, ap, ◌∙◌, arith}
use Rattle.std.proofs.lemmas.List.{drop_all, drop_more, take_all}
use Rattle.std.proofs.lemmas.Bool.{ne_eqb}
use Rattle.c99_read.specs.Front.{last_split}
use Rattle.c99_read.proofs.front.last_split.Goals as goal

-- where the rest begins with the last _
at_last : (s : List ℕ) (k : ℕ) (r : List ℕ) → drop k s ≡ 95 ∷ r → last_split r ≡ None → last_split s ≡ Some (take k s, r)
unfolding last_split
at_last s zero r h n = ap last_split h ∙ rw n refl
at_last [] (suc k) r h n = absurd (cc h)
at_last (b ∷ s) (suc k) r h n = rw (at_last s k r h n) refl

before_last : (b : ℕ) (r : List ℕ) → (b ≡ 95 → ⊥) → last_split r ≡ None → last_split (b ∷ r) ≡ None
unfolding last_split
before_last b r h n = rw (n, ne_eqb b 95 h) refl

nothing_there : last_split [] ≡ None
unfolding last_split
nothing_there = refl

back_one : (s : List ℕ) (i : ℕ) → 0 < i → i ≤ length s → drop (i - 1) s ≡ get_or s (i - 1) 0 ∷ drop i s
back_one s i p h = drop_more s (i - 1) 0 (omega arith) ∙ ap (λ (n : ℕ). get_or s (i - 1) 0 ∷ drop n s) (omega arith)

whole_rest : (s : List ℕ) (i : ℕ) → 0 < i → i ≤ length s → take (length s - (i - 1 + 1)) (drop (i - 1 + 1) s) ≡ drop i s
whole_rest s i p h =
    let same : i - 1 + 1 ≡ i = omega arith in
    rw same (take_all (length s - i) (drop i s) (omega (arith, length-drop i s)))

pub loop-i-init : goal.loop-i-init
loop-i-init c = record { within = omega arith; nowhere = ap last_split (drop_all (length c.args.bytes.now) c.args.bytes.now (omega arith)) ∙ nothing_there }

pub returns-then-bytes-i-eq95 : goal.returns-then-bytes-i-eq95
returns-then-bytes-i-eq95 c =
    let s = c.args.bytes.now in
    let i = c.loop-i.i in
    let pos : 0 < i = omega arith in
    let within : i ≤ length s = c.loop-i.invariant.within in
    let stands : drop (i - 1) s ≡ 95 ∷ drop i s = back_one s i pos within ∙ ap (λ (b : ℕ). b ∷ drop i s) c.if-bytes-i-eq95.true in
    let whole : take (length s - (i - 1 + 1)) (drop (i - 1 + 1) s) ≡ drop i s = whole_rest s i pos within in
    at_last s (i - 1) (drop i s) stands c.loop-i.invariant.nowhere ∙ rw whole refl

pub loop-i-preserved : goal.loop-i-preserved
loop-i-preserved c =
    let s = c.args.bytes.now in
    let i = c.loop-i.i in
    let pos : 0 < i = omega arith in
    let within : i ≤ length s = c.loop-i.invariant.within in
    record { within = omega arith; nowhere = ap last_split (back_one s i pos within) ∙ before_last (get_or s (i - 1) 0) (drop i s) c.if-bytes-i-eq95.false c.loop-i.invariant.nowhere }
