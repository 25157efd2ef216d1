use Rattle.std.proofs.Common.{◌≡◌, ℕ, List, [], ◌∷◌, ◌++◌, map, refl, ap, ◌∙◌, subst}
use Rattle.std.specs.Prelude.{OnOk}
use Rattle.std.specs.List.{flat_map}
use Rattle.spec_text.specs.declared.surface.ConstForm.{ConstForm}
use Rattle.spec_text.specs.FoldRows.{const-Array, const-Record}
use Rattle.typed_text.specs.ReadSpec.{const_words}
use Rattle.typed_spec.proofs.constants.+constants.Goals as goal

flat_same : (f : ConstForm → List ℕ) (xs : List ConstForm) → flat_map f xs ≡ flat_map (λ ws. ws) (map f xs)
flat_same f [] = refl
flat_same f (x ∷ xs) = ap (λ ws. f x ++ ws) (flat_same f xs)

pub constant-returns-in-Array : goal.constant-returns-in-Array
unfolding const_words
constant-returns-in-Array t c =
    let e : flat_map (λ ws. ws) (map const_words c.in-Array.items) ≡ const_words c.args.form.now = rw (c.in-Array.is, const-Array) in
    subst (λ ws. OnOk c.constants.result (c.constants.new.words.items ≡ c.args.words.now.items ++ ws)) (ap (flat_map const_words) c.as_slice.ensures ∙ flat_same const_words c.in-Array.items ∙ e) c.constants.ensures

pub constant-returns-in-Record : goal.constant-returns-in-Record
unfolding const_words
constant-returns-in-Record t c =
    let e : flat_map (λ ws. ws) (map const_words c.in-Record.items) ≡ const_words c.args.form.now = rw (c.in-Record.is, const-Record) in
    subst (λ ws. OnOk c.constants-in-Record.result (c.constants-in-Record.new.words.items ≡ c.args.words.now.items ++ ws)) (ap (flat_map const_words) c.as_slice-in-Record.ensures ∙ flat_same const_words c.in-Record.items ∙ e) c.constants-in-Record.ensures
