-- One run of words among others, read and written over.
use Rattle.std.proofs.Common.{◌≡◌, ℕ, zero, suc, ◌+◌, List, [], ◌∷◌, ◌++◌, length, take, Some, refl, sym, ap, ◌∙◌, append_assoc, arith}
use Rattle.std.specs.Prelude.{slice_get, slice_set}
use Rattle.std.specs.List.{flat_map, sum_by, AllZip}
use Rattle.std.proofs.lemmas.List.{length-append}
use Rattle.std.proofs.lemmas.List.Sums.{sum_by-cons}
use Rattle.c_exec.specs.Runs.{written}

-- ---- a run is written over

set_behind : (before behind : List ℕ) (old new : ℕ) → slice_set (before ++ (old ∷ behind)) (length before) new ≡ before ++ (new ∷ behind)
set_behind [] behind old new = refl
set_behind (x ∷ before) behind old new = ap (λ (ws : List ℕ). x ∷ ws) (set_behind before behind old new)

-- as many words as before take the place of a run
pub written_run : (new old before behind : List ℕ) → length new ≡ length old
    → written (length before) new (before ++ (old ++ behind)) ≡ before ++ (new ++ behind)
written_run [] [] before behind e = refl
written_run [] (o ∷ old) before behind e = absurd (omega (arith, e))
written_run (n ∷ new) [] before behind e = absurd (omega (arith, e))
written_run (n ∷ new) (o ∷ old) before behind e =
    let next : length before + 1 ≡ length (before ++ n ∷ []) = sym (length-append before (n ∷ [])) in
    let regroup : before ++ (n ∷ (old ++ behind)) ≡ (before ++ n ∷ []) ++ (old ++ behind) = sym (append_assoc before (n ∷ []) (old ++ behind)) in
    ap (λ (ws : List ℕ). written (length before + 1) new ws) (set_behind before (old ++ behind) o n ∙ regroup)
    ∙ ap (λ (place : ℕ). written place new ((before ++ n ∷ []) ++ (old ++ behind))) next
    ∙ written_run new old (before ++ n ∷ []) behind (omega (arith, e))
    ∙ append_assoc before (n ∷ []) (new ++ behind)

-- the same where the run's place is known by its number
pub written_at : (place : ℕ) (new old before behind ws : List ℕ) → place ≡ length before → ws ≡ before ++ (old ++ behind) → length new ≡ length old
    → written place new ws ≡ before ++ (new ++ behind)
written_at place new old before behind ws p q e =
    ap (λ (k : ℕ). written k new ws) p ∙ ap (λ (xs : List ℕ). written (length before) new xs) q ∙ written_run new old before behind e

-- ---- the run of one of many

-- the words of all: those before one, its own, and those behind it; and the same where another stands in its place
pub record Split {B : Type 0} (f : B → List ℕ) (ys : List B) (k start : ℕ) (y : B) : Type 0 where
  pub before : List ℕ
  pub behind : List ℕ
  pub all : flat_map f ys ≡ before ++ (f y ++ behind)
  pub changed : (z : B) → flat_map f (slice_set ys k z) ≡ before ++ (f z ++ behind)
  pub long : length before ≡ start

pub split_at : {A B : Type 0} (w : A → ℕ) (f : B → List ℕ) (xs : List A) (ys : List B) (k : ℕ) (y : B)
    → AllZip (λ (a : A) (b : B). length (f b) ≡ w a) xs ys → slice_get ys k ≡ Some y
    → Split f ys k (sum_by w (take k xs)) y
split_at w f [] [] k y h e = absurd (cc e)
split_at w f [] (b ∷ ys) k y h e = absurd h
split_at w f (a ∷ xs) [] k y h e = absurd h
split_at w f (a ∷ xs) (b ∷ ys) zero y h e =
    let same : b ≡ y = cc e in
    record { before = []; behind = flat_map f ys; all = ap (λ (z : _). f z ++ flat_map f ys) same; changed = λ z. refl; long = refl }
split_at w f (a ∷ xs) (b ∷ ys) (suc k) y h e =
    let s = split_at w f xs ys k y h.1 e in
    let first = sum_by-cons w a (take k xs) in
    let both = length-append (f b) s.before in
    let here = h.0 in
    let there = s.long in
    record {
      before = f b ++ s.before;
      behind = s.behind;
      all = ap (λ (ws : List ℕ). f b ++ ws) s.all ∙ sym (append_assoc (f b) s.before (f y ++ s.behind));
      changed = λ z. ap (λ (ws : List ℕ). f b ++ ws) (s.changed z) ∙ sym (append_assoc (f b) s.before (f z ++ s.behind));
      long = omega (arith, first, both, here, there);
    }
