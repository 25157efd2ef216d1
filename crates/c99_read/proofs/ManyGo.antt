-- Lines are read one by one.
use Rattle.std.proofs.Common.{arith, ◌≡◌, ℕ, zero, suc, ◌-◌, ◌<◌, Bool, true, false, List, [], ◌∷◌, ◌++◌, Option, Some, None, refl, sym, ap, ◌∙◌, append-nil, append_assoc}
use Rattle.c99_read.specs.declared.fault.ReadFault.{ReadFault}
use Rattle.c99_read.specs.declared.fault.ReadFault.TheVariants.{Memory, NotRead}
use Rattle.c99_read.specs.Gives.{Fails}
use Rattle.c99_read.specs.Front.{after_all, many}

module _ {A : Type 0} (test : List ℕ → Bool) (r : List ℕ → Option (A × List ℕ)) where
  pub many_end : (n : ℕ) (s : List ℕ) (done : List A) → 0 < n → test s ≡ false → after_all done (many test r n s) ≡ Some (done, s)
  unfolding many
  many_end zero s done p h = absurd (omega arith)
  many_end (suc n) s done p h = rw h (ap (λ (xs : List A). Some (xs, s)) (append-nil done))

  pub many_out : (n : ℕ) (s : List ℕ) (done : List A) → n ≡ 0 → after_all done (many test r n s) ≡ None
  unfolding many
  many_out zero s done h = refl
  many_out (suc n) s done h = absurd (omega arith)

  many_bad : (n : ℕ) (s : List ℕ) (done : List A) → 0 < n → test s ≡ true → r s ≡ None → after_all done (many test r n s) ≡ None
  unfolding many
  many_bad zero s done p h g = absurd (omega arith)
  many_bad (suc n) s done p h g = rw (h, g) refl

  pub many_fail : (e : ReadFault) (n : ℕ) (s : List ℕ) (done : List A) → 0 < n → test s ≡ true → Fails e (r s) → Fails e (after_all done (many test r n s))
  many_fail Memory n s done p h g = tt
  many_fail NotRead n s done p h g = many_bad n s done p h g

  after_after : (a b : List A) (o : Option (List A × List ℕ)) → after_all a (after_all b o) ≡ after_all (a ++ b) o
  after_after a b None = refl
  after_after a b (Some x) = ap (λ (xs : List A). Some (xs, x.1)) (sym (append_assoc a b x.0))

  less_one : (n : ℕ) → suc n - 1 ≡ n
  less_one n = omega arith

  pub many_more : (n k : ℕ) (s y : List ℕ) (done : List A) (x : A) → 0 < n → k ≡ n - 1 → test s ≡ true → r s ≡ Some (x, y) → after_all done (many test r n s) ≡ after_all (done ++ x ∷ []) (many test r k y)
  unfolding many
  many_more zero k s y done x p q h g = absurd (omega arith)
  many_more (suc n) k s y done x p q h g = rw (h, g) (after_after done (x ∷ []) (many test r n y) ∙ ap (λ (m : ℕ). after_all (done ++ x ∷ []) (many test r m y)) (sym (q ∙ less_one n)))
