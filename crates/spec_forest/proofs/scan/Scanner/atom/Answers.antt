use Rattle.std.proofs.Common.{◌≡◌, ◌∷◌, [], ◌++◌, ap, ◌∙◌}
use Rattle.spec_forest.specs.declared.tree.Tree.TheVariants as t
use Rattle.spec_forest.proofs.Holding.{atom-is}
use Rattle.spec_forest.proofs.scan.Scanner.atom.Goals as goal

pub returns-clause-held : goal.returns-clause-held
returns-clause-held c =
    let bytes : c.new-text.result ≡ c.args.bytes.now = c.new-text.ensures ∙ c.in_ok-from_slice.ensures.items in
    let pushed : c.push.new.self.items ≡ c.args.self.now.items.items ++ t.Atom c.args.at c.args.bytes.now ∷ [] =
    c.in_ok-push.ensures.items ∙ ap (λ us. c.args.self.now.items.items ++ t.Atom c.args.at us ∷ []) bytes in
    atom-is c.args.self.now.open.items c.args.self.now.items.items c.push.new.self.items c.args.at c.args.bytes.now pushed
