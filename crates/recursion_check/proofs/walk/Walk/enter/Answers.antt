use Rattle.std.proofs.Common.{◌≡◌, ◌++◌, [], ◌∷◌, length, map, set, sym, subst, arith}
use Rattle.std.proofs.lemmas.Result.{on_ok_weaker}
use Rattle.recursion_check.specs.declared.walk.Mark.TheVariants as mark
use Rattle.recursion_check.specs.Graph.{next}
use Rattle.recursion_check.specs.Walked.{IsWalk, edge}
use Rattle.recursion_check.proofs.Walking.{enter_walk}
use Rattle.recursion_check.proofs.walk.Walk.enter.Goals as goal

pub returns-clause-walk : goal.returns-clause-walk
returns-clause-walk c =
    let z = c.args.spec.now in
    let s = c.args.self.now in
    let v = c.args.v in
    let n : length s.path.items ≡ c.len-number.result = omega (arith, c.len-number.ensures, s.path.ok.0) in
    let w = enter_walk z s.marks.items s.path.items s.starts.items s.todo.items s.first v c.requires.walk c.requires.is_new c.requires.reached in
    let a = subst (λ k. IsWalk z (set s.marks.items v (mark.Open k)) (s.path.items ++ v ∷ []) (s.starts.items ++ k ∷ []) (s.todo.items ++ map (edge k) (next z v)) s.first) n w in
    let k = c.len-number.result in
    let b = subst (λ xs. IsWalk z (set s.marks.items v (mark.Open k)) xs (s.starts.items ++ k ∷ []) (s.todo.items ++ map (edge k) (next z v)) s.first) (sym c.in_ok-push.ensures.items) a in
    let d = subst (λ xs. IsWalk z (set s.marks.items v (mark.Open k)) c.push.new.self.items xs (s.todo.items ++ map (edge k) (next z v)) s.first) (sym c.in_ok-push-2.ensures.items) b in
    on_ok_weaker c.push_edges.result (λ e. subst (λ xs. IsWalk z (set s.marks.items v (mark.Open k)) c.push.new.self.items c.push-2.new.self.items xs s.first) (sym e) d) c.push_edges.ensures
