use Rattle.std.proofs.Common.{sym, ap, ◌∙◌}
use Rattle.spec_text.specs.FoldRows.{type-Scalar, type-Named, type-Array}
use Rattle.type_check.specs.NamedType.{form_words, words_step, struct_words}
use Rattle.type_check.specs.Standing.{capped}
use Rattle.type_check.proofs.Widths.{scaled}
use Rattle.type_check.proofs.structs.Structs.+form_words.Goals as goal

pub returns-in-Scalar : goal.returns-in-Scalar
unfolding form_words
returns-in-Scalar t c = λ names ds h. let f = struct_words ds in sym (ap capped (ap (form_words f) c.in-Scalar.is ∙ type-Scalar (words_step f) c.in-Scalar.at c.in-Scalar.scalar))

pub returns-in-Named : goal.returns-in-Named
unfolding form_words
returns-in-Named t c = λ names ds h. let f = struct_words ds in c.words_named.ensures names ds h ∙ sym (ap capped (ap (form_words f) c.in-Named.is ∙ type-Named (words_step f) c.in-Named.x))

pub returns-in-Array : goal.returns-in-Array
unfolding form_words
returns-in-Array t c = λ names ds h.
    let f = struct_words ds in
    let a = c.in-Array in
    c.capped.ensures
    ∙ scaled a.n c.form_words.result c.saturating_mul.result (form_words f a.elem) c.saturating_mul.ensures (c.form_words.ensures names ds h ∙ ap (λ y. capped (form_words f y)) c.get.ensures)
    ∙ sym (ap capped (ap (form_words f) a.is ∙ type-Array (words_step f) a.at a.elem a.n))
