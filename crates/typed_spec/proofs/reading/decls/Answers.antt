use Rattle.std.proofs.Common.{◌+◌, List, [], ◌∷◌, take, drop, sym, subst, arith}
use Rattle.std.proofs.lemmas.List.{take_all}
use Rattle.std.proofs.lemmas.Bool.Decides.{nat_tests}
use Rattle.spec_text.specs.declared.surface.Decl.{Decl}
use Rattle.type_check.specs.NamedType.{Declarations}
use Rattle.type_check.specs.Untyped.{reversed, scope_of}
use Rattle.type_check.proofs.Tables.{reversed_at}
use Rattle.typed_text.specs.ReadSpec.{placed}
use Rattle.typed_spec.specs.Added.{Adds, next_of}
use Rattle.typed_spec.proofs.Joining.{adds_none, adds_next}
use Rattle.typed_spec.proofs.TextNames.{text_here, text_more}
use Rattle.typed_spec.proofs.reading.decls.Goals as goal

pub loop-next-init : goal.loop-next-init
loop-next-init c = (omega arith, omega arith, λ names n h. h, λ names n h e. adds_none n (reversed [] c.args.all.now) c.args.arena.now)

pub decl-requires-clause-room : goal.decl-requires-clause-room
decl-requires-clause-room c = let p = c.loop-next.invariant.0 in let q = c.requires.room in let i = c.loop-next-test.true in omega (arith, p, q, i)

pub decl-requires-clause-few : goal.decl-requires-clause-few
decl-requires-clause-few c = let p = c.loop-next.invariant.1 in let q = c.requires.few in let i = c.loop-next-test.true in omega (arith, p, q, i)

pub loop-next-preserved : goal.loop-next-preserved
loop-next-preserved c =
    let l = c.loop-next in
    let xs = c.args.all.now in
    let i = l.next-index in
    let x = c.next-item.result in
    let low = c.loop-next-test.true in
    let is = c.next-item.is in
    let before = reversed [] (take i xs) in
    let rest = drop (i + 1) xs in
    let call = c.in_ok-decl.ensures in
    let v = l.invariant in (
      let p = v.0 in let q = call.total in omega (arith, p, q),
      let p = v.1 in let q = call.closed in omega (arith, p, q),
      λ names n h. text_more xs i x _ low is (call.text names n before rest (text_here xs i x _ low is (v.2 names n h))),
      λ names n h e. adds_next xs i x _ low is e (v.3 names n h e)
          (subst (λ (all : Declarations). Adds n all l.arena c.decl.new.arena (next_of (scope_of before all) l.arena x ∷ [])) (sym (reversed_at xs i x _ low is))
          (call.adds names n before rest (text_here xs i x _ low is (v.2 names n h)))),
    )

pub returns : goal.returns
returns c = record {
  adds = λ names n h e.
      let l = c.loop-next in
      let xs = c.args.all.now in
      subst (λ (ys : List Decl). Adds n (reversed [] xs) c.args.arena.now l.arena (placed n (reversed [] xs) [] 0 ys)) (take_all l.next-index xs (grind (arith, nat_tests, c.loop-next-test.false))) (l.invariant.3 names n h e);
}
