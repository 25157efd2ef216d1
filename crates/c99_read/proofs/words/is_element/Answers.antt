use Rattle.std.proofs.Common.{◌≡◌, List, [], ◌∷◌, Bool, true, false, ◌||◌, Option, Some, refl, sym, ap, ◌∙◌}
use Rattle.std.specs.Prelude.{is_some, if◌then◌else◌}
use Rattle.std.specs.List.{find, list_any}
use Rattle.c99_tree.specs.declared.types.CScalar.{CScalar}
use Rattle.c99_tree.specs.Words.{is_same, word_of, scalars}
use Rattle.c99_read.proofs.words.is_element.Goals as goal

any_found : {A : Type 0} (p : A → Bool) (xs : List A) → is_some (find p xs) ≡ list_any p xs
any_found p [] = refl
any_found {A = A} p (x ∷ xs) = by (p x) (find p xs) (list_any p xs) (any_found p xs)
  where
    by : (b : Bool) (o : Option A) (c : Bool) → is_some o ≡ c → is_some (if b then Some x else o) ≡ (b || c)
    by true o c h = refl
    by false o c h = h

pub returns-else-is_name : goal.returns-else-is_name
returns-else-is_name c =
    let w = c.args.word.now in
    let found : is_some c.element_scalar.result ≡ list_any (λ s. is_same (word_of s) w) scalars = ap (λ (o : Option CScalar). is_some o) c.element_scalar.ensures ∙ any_found (λ s. is_same (word_of s) w) scalars in
    let no_name = sym c.is_name.ensures ∙ c.if-is_name.false in
    c.is_some.ensures ∙ found ∙ sym (ap (λ (b : Bool). b || list_any (λ s. is_same (word_of s) w) scalars) no_name)
