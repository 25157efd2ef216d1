use Rattle.std.proofs.Common.{◌≡◌, ◌<◌, ◌≤◌, ◌+◌, ◌++◌, length, get_or, ℕ, List, Bool, [], refl, sym, ap, ◌∙◌, subst, arith}
use Rattle.std.specs.Prelude.{Option}
use Rattle.std.specs.Option.{IfNone}
use Rattle.spec_text.specs.declared.surface.Decl.{Decl}
use Rattle.type_check.specs.Names.{names_of, first_redeclared}
use Rattle.type_check.specs.Seen.{IsSeen}
use Rattle.type_check.proofs.Redeclarations.{IsWalked, walked_none, walked_fault, walked_more, walked_all}
use Rattle.type_check.proofs.names.name_fault.Goals as goal

pub loop-decl-init : goal.loop-decl-init
loop-decl-init c = record {
  version_is = refl;
  walked = subst (λ (is : List (List ℕ × Bool)). IsWalked c.args.surface.now 0 c.new.result.keys is) (sym c.new-3.ensures.empty)
      (subst (λ (ss : List (List ℕ)). IsWalked c.args.surface.now 0 ss []) (sym c.new.ensures.empty) (walked_none c.args.surface.now));
}

pub returns-in-Some-clause-ok : goal.returns-in-Some-clause-ok
returns-in-Some-clause-ok c =
    let s = c.args.surface.now in
    let l = c.loop-decl in
    let x = c.decl-item.result in
    let w = l.invariant.walked in
    let lt = subst (λ (ds : List Decl). l.decl-index < length ds) c.as_slice-decl-items.ensures (omega arith) in
    let at = subst (λ (ds : List Decl). x ≡ get_or ds l.decl-index x) c.as_slice-decl-items.ensures c.decl-item.is in
    let seen = subst (λ v. IsSeen v w.before l.decl-index l.seen.structs.keys l.seen.items.entries) (sym l.invariant.version_is) w.seen in
    let found = sym c.in-Some.is ∙ c.in_ok-at.ensures.ok w.before l.decl-index seen ∙ ap (λ v. first_redeclared v w.before (names_of l.decl-index x)) l.invariant.version_is in
    walked_fault s l.decl-index l.seen.structs.keys l.seen.items.entries w x c.in-Some.at lt at found

pub loop-decl-preserved : goal.loop-decl-preserved
loop-decl-preserved c =
    let s = c.args.surface.now in
    let l = c.loop-decl in
    let x = c.decl-item.result in
    let w = l.invariant.walked in
    let new = c.decl.new.self in
    let lt = subst (λ (ds : List Decl). l.decl-index < length ds) c.as_slice-decl-items.ensures (omega arith) in
    let at = subst (λ (ds : List Decl). x ≡ get_or ds l.decl-index x) c.as_slice-decl-items.ensures c.decl-item.is in
    let seen = subst (λ v. IsSeen v w.before l.decl-index l.seen.structs.keys l.seen.items.entries) (sym l.invariant.version_is) w.seen in
    let none = sym c.in_default.is ∙ c.in_ok-at.ensures.ok w.before l.decl-index seen ∙ ap (λ v. first_redeclared v w.before (names_of l.decl-index x)) l.invariant.version_is in
    let on = subst (λ (o : Option ℕ). IfNone o (IsSeen l.seen.version (w.before ++ names_of l.decl-index x) (l.decl-index + 1) new.structs.keys new.items.entries)) c.in_default.is (c.in_ok-at.ensures.seen w.before l.decl-index seen) in
    record {
      version_is = c.in_ok-at.ensures.version ∙ l.invariant.version_is;
      walked = walked_more s l.decl-index l.seen.structs.keys new.structs.keys l.seen.items.entries new.items.entries w x lt at none
          (subst (λ v. IsSeen v (w.before ++ names_of l.decl-index x) (l.decl-index + 1) new.structs.keys new.items.entries) l.invariant.version_is on);
    }

pub returns-clause-ok : goal.returns-clause-ok
returns-clause-ok c =
    let l = c.loop-decl in
    walked_all c.args.surface.now l.decl-index l.seen.structs.keys l.seen.items.entries l.invariant.walked (subst (λ (ds : List Decl). length ds ≤ l.decl-index) c.as_slice-decl-items.ensures (omega arith))
