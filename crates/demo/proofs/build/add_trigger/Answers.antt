use Rattle.std.proofs.Common.{List, ℕ, [], ◌∷◌, ◌++◌, ◌∙◌, ap, ap₂}
use Rattle.std.proofs.lemmas.Result.{on_ok_weaker}
use Rattle.stream_core.specs.declared.spec.Root.{Root}
use Rattle.stream_core.specs.declared.spec.Item.TheVariants as item
use Rattle.stream_core.specs.Stored.{with_item}
use Rattle.demo.proofs.Building.{places}
use Rattle.demo.proofs.Added.{trigger_next}
use Rattle.demo.proofs.build.add_trigger.Goals as goal

pub returns : goal.returns
returns c = λ k n built low.
    let a = c.in_ok-value.ensures in
    let b = c.in_ok-seven.ensures in
    let d = c.in_ok-rest.ensures in
    let e = c.in_ok-zero.ensures in
    let f = c.in_ok-test.ensures in
    let one : List Root → Root → List Root = λ before x. before ++ x ∷ [] in
    let args_are = c.in_ok-push.ensures.ok ∙ ap₂ one c.new-args.ensures c.root.ensures in
    on_ok_weaker c.add.result
    (λ is. trigger_next k n c.args.i low c.args.spec.now built c.place.new.self c.place-2.new.self c.place-3.new.self c.place-4.new.self c.place-5.new.self c.add.new.self
    c.in_ok-name.name c.in_ok-value.value c.in_ok-seven.seven c.in_ok-rest.rest c.in_ok-zero.zero c.in_ok-test.test
    (places _ _ _ _ a.once a.others a.kept a.placed a.list)
    (places _ _ _ _ b.once b.others b.kept b.placed b.list)
    (places _ _ _ _ d.once d.others d.kept d.placed d.list)
    (places _ _ _ _ e.once e.others e.kept e.placed e.list)
    (places _ _ _ _ f.once f.others f.kept f.placed f.list)
    (is ∙ ap₂ (λ (g : Root) (xs : List Root). with_item c.place-5.new.self (item.Trigger (record { name = c.in_ok-name.name; guard = g; args = xs }))) c.root-2.ensures args_are)
    c.in_ok-name.ensures)
    c.add.ensures.ok
