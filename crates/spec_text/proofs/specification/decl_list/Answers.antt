use Rattle.std.proofs.Common.{sym, ap, map}
use Rattle.std.specs.Option.{option_map}
use Rattle.spec_forest.specs.Node.{node, nodes}
use Rattle.spec_text.specs.Form.{form_of_decl}
use Rattle.spec_text.specs.KeepsTable.{keeps_decl}
use Rattle.spec_text.specs.Shape.{decl_items}
use Rattle.spec_words.specs.Words.{decl_word}
use Rattle.spec_words.proofs.WordLaws.{found_decl}
use Rattle.spec_text.proofs.Heads.{whole_decl}
use Rattle.spec_text.proofs.specification.decl_list.Goals as goal

pub returns : goal.returns
returns c =
    let head = c.in-Some-decl_head.head in
    let parts = nodes (map node c.in-Some.parts.now) in
    whole_decl c.args.version form_of_decl (keeps_decl c.args.version) c.args.at (nodes (map node c.args.items.now)) parts c.in-Some.word.now (decl_word head) (decl_items c.args.version head) c.decl_form.result
    (sym c.in-Some.ensures)
    (ap (option_map (decl_items c.args.version)) (sym c.in-Some-decl_head.ensures))
    (found_decl c.in-Some.word.now head (sym c.in-Some-decl_head.ensures))
    c.decl_form.ensures
