use Rattle.std.proofs.Common.{◌≡◌, length, Some, sym, ap, subst, arith}
use Rattle.std.specs.Prelude.{slice_get}
use Rattle.std.specs.List.{sum_by}
use Rattle.recursion_check.specs.declared.walk.Mark.TheVariants as mark
use Rattle.recursion_check.specs.Walked.{StaysOld, fresh}
use Rattle.recursion_check.proofs.Closing.{enter_fresh}
use Rattle.recursion_check.proofs.Turns.{enter_old, entered}
use Rattle.recursion_check.proofs.walk.Walk.walk_from.Goals as goal

pub loop-w-init : goal.loop-w-init
loop-w-init c =
    let s = c.args.self.now in
    let v = c.args.v in
    let n = length s.path.items in
    record {
      walk = c.in_ok-enter.ensures.walk;
      old = subst (StaysOld s.marks.items) (sym c.in_ok-enter.ensures.marks) (enter_old s.marks.items v n c.requires.is_new);
      entered = λ e. entered s.marks.items v n c.requires.is_new (subst (λ ms. slice_get ms v ≡ Some mark.New) c.in_ok-enter.ensures.marks e);
    }

pub loop-w-smaller : goal.loop-w-smaller
loop-w-smaller c =
    let a = c.advance.new.self in
    let w = c.in-Some.w in
    let n = length a.path.items in
    let f = enter_fresh a.marks.items w n c.in-Some.ensures.is_new in
    omega (arith, f, ap (sum_by fresh) c.in_ok-enter-2.ensures.marks, c.advance.ensures.fresh)

pub loop-w-preserved : goal.loop-w-preserved
loop-w-preserved c =
    let a = c.advance.new.self in
    let w = c.in-Some.w in
    let n = length a.path.items in
    let i = c.loop-w.invariant in
    let old = subst (StaysOld a.marks.items) (sym c.in_ok-enter-2.ensures.marks) (enter_old a.marks.items w n c.in-Some.ensures.is_new) in
    record {
      walk = c.in_ok-enter-2.ensures.walk;
      old = λ x e. i.old x (c.advance.ensures.old x (old x e));
      entered = λ e. i.entered (c.advance.ensures.old c.args.v (old c.args.v e));
    }
