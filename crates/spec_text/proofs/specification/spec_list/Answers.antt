use Rattle.std.proofs.Common.{sym, ap, map}
use Rattle.std.specs.Option.{option_map}
use Rattle.spec_forest.specs.Node.{node, nodes}
use Rattle.spec_words.specs.Words.{spec_word}
use Rattle.spec_text.specs.Shape.{spec_items}
use Rattle.spec_text.proofs.Heads.{whole_top}
use Rattle.spec_words.proofs.WordLaws.{found_version}
use Rattle.spec_text.proofs.specification.spec_list.Goals as goal

pub returns : goal.returns
returns c =
    let version = c.in-Some-version_of.version in
    let parts = nodes (map node c.in-Some.parts.now) in
    whole_top c.args.at (nodes (map node c.args.items.now)) parts c.in-Some.word.now (spec_word version) (spec_items version) c.read_body.result
    (sym c.in-Some.ensures)
    (ap (option_map spec_items) (sym c.in-Some-version_of.ensures.version))
    (found_version c.in-Some.word.now version (sym c.in-Some-version_of.ensures.version))
    c.read_body.ensures
