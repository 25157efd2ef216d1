use Rattle.std.proofs.Common.{List, take, ◌∙◌, subst, arith}
use Rattle.std.proofs.lemmas.List.{take_all}
use Rattle.std.proofs.lemmas.Bool.Decides.{nat_tests}
use Rattle.spec_text.specs.declared.surface.Decl.{Decl}
use Rattle.typed_text.specs.ReadSpec.{extern_names, stream_names, def_names}
use Rattle.typed_spec.specs.Texts.{AreNumbered}
use Rattle.typed_spec.proofs.KindNames.{externs_more, streams_more, defs_more}
use Rattle.typed_spec.proofs.text.Text.of.Goals as goal

pub loop-decl-preserved : goal.loop-decl-preserved
loop-decl-preserved c =
    let l = c.loop-decl in
    let v = l.invariant in
    let xs = c.args.decls.now in
    let i = l.decl-index in
    let x = c.decl-item.result in
    let low = c.loop-decl-test.true in
    let is = c.decl-item.is in
    let call = c.in_ok-declare.ensures in
    let new = c.declare.new.self in (
      call.scope ∙ v.0,
      call.types ∙ v.1,
      externs_more xs i x _ new.externs low is (call.externs (extern_names (take i xs)) v.2),
      streams_more xs i x _ new.streams low is (call.streams (stream_names (take i xs)) v.3),
      defs_more xs i x _ new.defs low is (call.defs (def_names (take i xs)) v.4),
      (let a = call.extern_count in let b = v.5 in omega (arith, a, b)),
      (let a = call.stream_count in let b = v.6 in omega (arith, a, b)),
      (let a = call.def_count in let b = v.7 in omega (arith, a, b)),
    )

pub returns-clause-externs : goal.returns-clause-externs
returns-clause-externs c = let l = c.loop-decl in
    subst (λ (xs : List Decl). AreNumbered (extern_names xs) l.text.externs) (take_all l.decl-index c.args.decls.now (grind (arith, nat_tests, c.loop-decl-test.false))) l.invariant.2

pub returns-clause-streams : goal.returns-clause-streams
returns-clause-streams c = let l = c.loop-decl in
    subst (λ (xs : List Decl). AreNumbered (stream_names xs) l.text.streams) (take_all l.decl-index c.args.decls.now (grind (arith, nat_tests, c.loop-decl-test.false))) l.invariant.3

pub returns-clause-defs : goal.returns-clause-defs
returns-clause-defs c = let l = c.loop-decl in
    subst (λ (xs : List Decl). AreNumbered (def_names xs) l.text.defs) (take_all l.decl-index c.args.decls.now (grind (arith, nat_tests, c.loop-decl-test.false))) l.invariant.4
