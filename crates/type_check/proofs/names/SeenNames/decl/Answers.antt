use Rattle.std.proofs.Common.{◌≡◌, ◌+◌, ◌++◌, ◌∷◌, ℕ, List, [], sym, ap, ◌∙◌, subst}
use Rattle.std.specs.Prelude.{Option}
use Rattle.std.specs.Result.{IfOk}
use Rattle.spec_text.specs.declared.surface.Decl.{Decl}
use Rattle.type_check.specs.Names.{names_of, first_redeclared}
use Rattle.type_check.specs.Seen.{IsSeen}
use Rattle.type_check.proofs.Redeclarations.{was_new, in_any_case, field_names, struct_new, struct_seen}
use Rattle.type_check.proofs.names.SeenNames.decl.Goals as goal

pub returns-else-not-branch-clause-ok : goal.returns-else-not-branch-clause-ok
returns-else-not-branch-clause-ok c = λ before i h.
    let v = c.args.self.now.version in
    let n = c.in-Struct in
    let new = was_new _ _ c.in_ok-is_new-in-Struct.ensures.new c.if-not-branch.false in
    let same : first_redeclared v [] (field_names i c.as_slice.result.now) ≡ first_redeclared v before (names_of i c.args.decl.now) =
    ap (λ fs. first_redeclared v [] (field_names i fs)) c.as_slice.ensures
    ∙ sym (struct_new v before i c.args.self.now.structs.keys c.args.self.now.items.entries n.at n.name n.fields h new)
    ∙ ap (λ d. first_redeclared v before (names_of i d)) (sym n.is) in
    subst (λ (o : Option ℕ). IfOk c.twin.result (λ at. at ≡ o)) same (c.twin.ensures.ok v i)

pub returns-else-not-branch-clause-seen : goal.returns-else-not-branch-clause-seen
returns-else-not-branch-clause-seen c = λ before i h.
    let v = c.args.self.now.version in
    let n = c.in-Struct in
    let is = c.args.self.now.items.entries in
    let put = c.in_ok-is_new-in-Struct.ensures.put c.if-not-branch.false in
    in_any_case c.twin.result
    (subst (λ (ss : List (List ℕ)). IsSeen v (before ++ names_of i c.args.decl.now) (i + 1) ss is) (sym put)
    (subst (λ (d : Decl). IsSeen v (before ++ names_of i d) (i + 1) (c.args.self.now.structs.keys ++ n.name.name ∷ []) is) (sym n.is)
    (struct_seen v before i c.args.self.now.structs.keys is n.at n.name n.fields h)))
