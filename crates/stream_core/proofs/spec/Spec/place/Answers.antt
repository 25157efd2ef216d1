use Rattle.std.proofs.Common.{Some, ap, sym, ◌∙◌}
use Rattle.std.proofs.lemmas.Option.{slice_get_within}
use Rattle.stream_core.proofs.SameNode.{same}
use Rattle.stream_core.proofs.NodesOnce.{placed_from, list_from, nodes_kept}
use Rattle.stream_core.proofs.spec.Spec.place.Goals as goal

pub returns-clause-placed : goal.returns-clause-placed
returns-clause-placed c =
    let s = c.in_ok-at.ensures.stored in
    s.1 ∙ ap Some (sym (same c.args.node s.0 s.2))

pub returns-clause-once : goal.returns-clause-once
returns-clause-once c =
    let s = c.in_ok-at.ensures.stored in
    let there = s.1 ∙ ap Some (sym (same c.args.node s.0 s.2)) in
    placed_from _ _ c.self.view_is c.insert_full.new.self.keys c.args.node c.in_ok-at.at c.in_ok-at.ensures.keys c.in_ok-at.ensures.index there

pub invariant_of-self-2 : goal.invariant_of-self-2
invariant_of-self-2 c =
    let s = c.in_ok-at.ensures.stored in
    let there = s.1 ∙ ap Some (sym (same c.args.node s.0 s.2)) in
    list_from _ _ c.self.view_is c.insert_full.new.self.keys c.args.node c.in_ok-at.at c.in_ok-at.ensures.keys c.in_ok-at.ensures.index there c.self.invariant c.requires

pub returns-clause-list : goal.returns-clause-list
returns-clause-list c = invariant_of-self-2 c

pub returns-clause-within : goal.returns-clause-within
returns-clause-within c = slice_get_within _ _ _ (returns-clause-placed c)

pub returns-clause-kept : goal.returns-clause-kept
returns-clause-kept c = nodes_kept _ _ _ _ (returns-clause-once c)
