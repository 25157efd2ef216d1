-- The kinds of bytes.
use Rattle.std.proofs.Common.{◌≡◌, ℕ, true, false, not, ◌⊎◌, inl, inr, refl, sym, subst}
use Rattle.std.specs.Prelude.{◌||◌, ◌==◌}
use Rattle.std.proofs.lemmas.Bool.{and_parts, not-true, or_parts, or_cases, eqb-true}
use Rattle.spec_forest.specs.Scan.{is_break, is_blank, is_mark, is_left, is_right, is_allowed}
use Rattle.spec_forest.specs.Tokens.{is_letter}

pub record LetterIs (b : ℕ) : Type 0 where
  pub allowed : is_allowed b ≡ true
  pub no_left : is_left b ≡ false
  pub no_right : is_right b ≡ false
  pub no_mark : is_mark b ≡ false
  pub no_break : is_break b ≡ false

pub letter_is : (b : ℕ) → is_letter b ≡ true → LetterIs b
letter_is b h =
    let p = and_parts (is_allowed b) (not (is_blank b || is_left b || is_right b || is_mark b)) h in
    let n : (is_blank b || is_left b || is_right b || is_mark b) ≡ false = not-true (is_blank b || is_left b || is_right b || is_mark b) p.1 in
    let m = or_parts (is_blank b || is_left b || is_right b) (is_mark b) n in
    let r = or_parts (is_blank b || is_left b) (is_right b) m.0 in
    let l = or_parts (is_blank b) (is_left b) r.0 in
    let k = or_parts ((b == 32) || (b == 9) || (b == 10)) (b == 13) l.0 in
    let i = or_parts ((b == 32) || (b == 9)) (b == 10) k.0 in
    record { allowed = p.0; no_left = l.1; no_right = r.1; no_mark = m.1; no_break = i.1 }

pub record BlankIs (b : ℕ) : Type 0 where
  pub allowed : is_allowed b ≡ true
  pub no_left : is_left b ≡ false
  pub no_right : is_right b ≡ false
  pub no_mark : is_mark b ≡ false
  pub no_letter : is_letter b ≡ false

pub blank_is : (b : ℕ) → is_blank b ≡ true → BlankIs b
blank_is b h = first (or_cases ((b == 32) || (b == 9) || (b == 10)) (b == 13) h) where
  at : (n : ℕ) → BlankIs n → (b == n) ≡ true → BlankIs b
  at n is e = subst BlankIs (sym (eqb-true b n e)) is

  third : ((b == 32) ≡ true) ⊎ ((b == 9) ≡ true) → BlankIs b
  third (inl e) = at 32 (record { allowed = refl; no_left = refl; no_right = refl; no_mark = refl; no_letter = refl }) e
  third (inr e) = at 9 (record { allowed = refl; no_left = refl; no_right = refl; no_mark = refl; no_letter = refl }) e

  second : (((b == 32) || (b == 9)) ≡ true) ⊎ ((b == 10) ≡ true) → BlankIs b
  second (inl e) = third (or_cases (b == 32) (b == 9) e)
  second (inr e) = at 10 (record { allowed = refl; no_left = refl; no_right = refl; no_mark = refl; no_letter = refl }) e

  first : (((b == 32) || (b == 9) || (b == 10)) ≡ true) ⊎ ((b == 13) ≡ true) → BlankIs b
  first (inl e) = second (or_cases ((b == 32) || (b == 9)) (b == 10) e)
  first (inr e) = at 13 (record { allowed = refl; no_left = refl; no_right = refl; no_mark = refl; no_letter = refl }) e
