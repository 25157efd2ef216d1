use Rattle.std.proofs.Common.{◌≡◌, ◌+◌, List, [], take, drop, ap, ◌∙◌, subst, arith}
use Rattle.std.proofs.lemmas.List.{take_all}
use Rattle.std.proofs.lemmas.Bool.Decides.{nat_tests}
use Rattle.spec_text.specs.declared.surface.Decl.{Decl}
use Rattle.type_check.specs.NamedType.{Declarations}
use Rattle.type_check.specs.Untyped.{reversed}
use Rattle.type_check.specs.Table.{struct_names, IsTable, HasItems}
use Rattle.type_check.proofs.Tables.{table_none, items_none, reversed_at, reversed_more}
use Rattle.type_check.proofs.scope.Scope.of.Goals as goal

pub loop-decl-init : goal.loop-decl-init
loop-decl-init c = λ names e. (table_none names c.new-scope.result.structs c.new-scope.ensures.numbers c.new-scope.ensures.all, items_none names c.new-scope.result.items.entries c.new-scope.ensures.items, c.new-scope.ensures.closed)

pub loop-decl-preserved : goal.loop-decl-preserved
loop-decl-preserved c = λ names e.
    let decls = c.args.decls.now in
    let i = c.loop-decl.decl-index in
    let x = c.decl-item.result in
    let q = c.loop-decl.invariant names e in
    let r = c.in_ok-declare.ensures.ok names (reversed [] (take i decls)) (drop (i + 1) decls) (e ∙ ap struct_names (reversed_at decls i x _ c.loop-decl-test.true c.decl-item.is)) q.0 q.1 in
    subst (λ (ds : Declarations). IsTable names ds c.declare.new.self.structs × HasItems names ds c.declare.new.self.items.entries × (c.declare.new.self.closed ≡ 0)) (reversed_more decls i x _ c.loop-decl-test.true c.decl-item.is)
    (r.0, r.1, c.in_ok-declare.ensures.closed ∙ q.2)

pub returns-clause-ok : goal.returns-clause-ok
returns-clause-ok c = λ names e.
    let decls = c.args.decls.now in
    let s = c.loop-decl.scope in
    subst (λ (xs : List Decl). IsTable names (reversed [] xs) s.structs × HasItems names (reversed [] xs) s.items.entries × (s.closed ≡ 0)) (take_all c.loop-decl.decl-index decls (grind (arith, nat_tests, c.loop-decl-test.false))) (c.loop-decl.invariant names e)
