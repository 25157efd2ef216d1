use Rattle.std.proofs.Common.{◌≡◌, ◌∷◌, [], ◌++◌, length, ap, ◌∙◌}
use Rattle.std.proofs.lemmas.List.{length_push}
use Rattle.std.specs.Global.{Vec}
use Rattle.spec_forest.specs.declared.tree.Tree.{Tree}
use Rattle.spec_forest.specs.declared.tree.Tree.TheVariants as t
use Rattle.spec_forest.proofs.Holding.{leave-is}
use Rattle.spec_forest.proofs.scan.Scanner.leave.Goals as goal

pub returns-in_ok-push-in-Some : goal.returns-in_ok-push-in-Some
returns-in_ok-push-in-Some c =
    let pushed : c.push.new.self.items ≡ c.replace-items.new.dest.items ++ t.List c.in-Some.field-0.at c.from_vec.result ∷ [] = c.in_ok-push-in-Some.ensures.items in
    let before : c.replace-items.new.dest.items ≡ c.in-Some.field-0.before.items = ap (λ (v : Vec Tree). v.items) c.replace-items.ensures.after in
    let inner : c.from_vec.result ≡ c.args.self.now.items.items = c.from_vec.ensures ∙ ap (λ (v : Vec Tree). v.items) c.replace-items.ensures.value in
    let after : c.push.new.self.items ≡ c.in-Some.field-0.before.items ++ t.List c.in-Some.field-0.at c.args.self.now.items.items ∷ [] =
    pushed ∙ ap (λ us. us ++ t.List c.in-Some.field-0.at c.from_vec.result ∷ []) before ∙ ap (λ us. c.in-Some.field-0.before.items ++ t.List c.in-Some.field-0.at us ∷ []) inner in (
      ap length c.in-Some.ensures.items ∙ length_push c.pop.new.self.items c.in-Some.field-0,
      leave-is c.args.self.now.open.items c.pop.new.self.items c.in-Some.field-0 c.args.self.now.items.items c.push.new.self.items c.in-Some.ensures.items after,
    )
