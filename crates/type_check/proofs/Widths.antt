-- Words that are counted up to 1,025.
use Rattle.std.proofs.Common.{◌≡◌, ◌≤◌, ◌+◌, ◌*◌, ℕ, zero, suc, min, nat_le, Bool, true, false, List, [], ◌∷◌, refl, sym, ap, ◌∙◌, arith}
use Rattle.std.specs.Prelude.{bytes_eq, if◌then◌else◌, Some, None}
use Rattle.std.proofs.lemmas.Bool.Decides.{nat_tests}
use Rattle.spec_text.specs.declared.surface.FieldForm.{FieldForm}
use Rattle.spec_text.specs.declared.surface.NameAt.{NameAt}
use Rattle.spec_text.specs.declared.surface.Decl.TheVariants as d
use Rattle.type_check.specs.NamedType.{Declarations, struct_in, struct_words}
use Rattle.type_check.specs.Untyped.{struct_width}
use Rattle.type_check.specs.Standing.{capped}
use Rattle.type_check.proofs.Reasons.{up}

-- a struct that isn't there has no words
no_words_if : (ds : Declarations) (at : ℕ) (y : NameAt) (fields : List FieldForm) (x : List ℕ) (b : Bool) → bytes_eq y.name x ≡ b → (struct_in ds x ≡ None → struct_words ds x ≡ 0) → struct_in (d.Struct at y fields ∷ ds) x ≡ None → struct_words (d.Struct at y fields ∷ ds) x ≡ 0
no_words_if ds at y fields x true e f h = absurd (let g = sym (ap (λ c. if c then Some (record { fields = fields; before = ds }) else struct_in ds x) e) ∙ h in cc)
no_words_if ds at y fields x false e f h = ap (λ c. if c then struct_width ds fields else struct_words ds x) e ∙ f (sym (ap (λ c. if c then Some (record { fields = fields; before = ds }) else struct_in ds x) e) ∙ h)

pub no_words : (ds : Declarations) (x : List ℕ) → struct_in ds x ≡ None → struct_words ds x ≡ 0
no_words [] x h = refl
no_words (d.Struct at y fields ∷ ds) x h = no_words_if ds at y fields x (bytes_eq y.name x) refl (no_words ds x) h
no_words (d.Extern at y ty ∷ ds) x h = no_words ds x h
no_words (d.Stream at y ty init e ∷ ds) x h = no_words ds x h
no_words (d.Def at y ty e ∷ ds) x h = no_words ds x h
no_words (d.Trigger at y guard args ∷ ds) x h = no_words ds x h
no_words (d.Observer at y e ∷ ds) x h = no_words ds x h

capped_low : (k : ℕ) → min (min k 18446744073709551615) 1025 ≡ min k 1025
capped_low k = grind (arith, nat_tests)

scaled_by : (n words : ℕ) (small : Bool) → nat_le words 1025 ≡ small → capped (min (suc n * capped words) 18446744073709551615) ≡ capped (suc n * words)
scaled_by n words true h = let e : min words 1025 ≡ words = grind (arith, nat_tests, h) in ap (λ k. min (min (suc n * k) 18446744073709551615) 1025) e ∙ capped_low (suc n * words)
scaled_by n words false h =
    let l : 1025 ≤ words = grind (arith, nat_tests, h) in
    let a : 1025 ≤ suc n * capped words = up n (capped words) 1025 (omega arith) in
    let b : 1025 ≤ suc n * words = up n words 1025 l in
    capped_low (suc n * capped words) ∙ full (suc n * capped words) a ∙ sym (full (suc n * words) b)
  where
    full : (k : ℕ) → 1025 ≤ k → min k 1025 ≡ 1025
    full k h = grind (arith, nat_tests, h)

scaled_at : (n words : ℕ) → capped (min (n * capped words) 18446744073709551615) ≡ capped (n * words)
scaled_at zero words = let a : 0 * capped words ≡ 0 = omega arith in let b : 0 * words ≡ 0 = omega arith in ap (λ k. capped (min k 18446744073709551615)) a ∙ ap capped (sym b)
scaled_at (suc n) words = scaled_by n words (nat_le words 1025) refl

-- so many times a type's words
pub scaled : (n w r words : ℕ) → r ≡ min (n * w) 18446744073709551615 → w ≡ capped words → capped r ≡ capped (n * words)
scaled n w r words e f = ap capped e ∙ ap (λ k. capped (min (n * k) 18446744073709551615)) f ∙ scaled_at n words

summed_by : (a words rest : ℕ) (small : Bool) → nat_le words 1025 ≡ small → capped (capped (min (a + capped words) 18446744073709551615) + rest) ≡ capped (a + (words + rest))
summed_by a words rest true h = let e : min words 1025 ≡ words = grind (arith, nat_tests, h) in ap (λ k. min (min (min (a + k) 18446744073709551615) 1025 + rest) 1025) e ∙ (grind (arith, nat_tests))
summed_by a words rest false h = let e : min words 1025 ≡ 1025 = grind (arith, nat_tests, h) in ap (λ k. min (min (min (a + k) 18446744073709551615) 1025 + rest) 1025) e ∙ (grind (arith, nat_tests, h))

-- the words of one field more
pub summed : (a w r words rest : ℕ) → r ≡ min (a + w) 18446744073709551615 → w ≡ capped words → capped (capped r + rest) ≡ capped (a + (words + rest))
summed a w r words rest e f = ap (λ k. capped (capped k + rest)) e ∙ ap (λ k. capped (capped (min (a + k) 18446744073709551615) + rest)) f ∙ summed_by a words rest (nat_le words 1025) refl
