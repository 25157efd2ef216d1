use Rattle.std.proofs.Common.{◌≡◌, ℕ, length, Option, Some, refl, ◌∙◌, sym, ap, subst, arith}
use Rattle.std.specs.Prelude.{slice_get, MatchOption}
use Rattle.std.specs.Option.{option_map}
use Rattle.std.proofs.lemmas.Option.{slice_get-map, slice_get_read}
use Rattle.std.proofs.lemmas.List.{length-map}
use Rattle.stream_core.specs.declared.spec.DefItem.{DefItem}
use Rattle.stream_core.specs.Term.{tree, tree_def, defs_of}
use Rattle.stream_core.specs.Soundness.{HasNoCycle}
use Rattle.recursion_check.specs.Graph.{IsFirstOnCycle}
use Rattle.recursion_check.proofs.judge.first_cycle.Goals as goal

pub returns-in-Some : goal.returns-in-Some
returns-in-Some c =
    let s = c.args.spec.now in
    let d = c.in-Some.d in
    let x = c.index-defs-d.result in
    let T = tree_def (tree s.nodes s.libs) in
    let f : IsFirstOnCycle (defs_of s) d = subst (λ (o : Option ℕ). MatchOption o (HasNoCycle (defs_of s)) (λ e. IsFirstOnCycle (defs_of s) e)) c.in-Some.is c.in_ok-d.ensures in
    let b = f.there in
    let l : length (defs_of s) ≡ length s.defs = length-map s.defs T in
    let e : slice_get s.defs d ≡ Some x = ap (λ xs. slice_get xs d) (sym c.defs.ensures) ∙ slice_get_read c.defs.result.now (length c.defs.result.now) d x refl (omega (arith, b, l, ap length c.defs.ensures)) c.index-defs-d.is in
    record {
      d = d;
      def = T x;
      is = slice_get-map T s.defs d ∙ ap (option_map T) e;
      on_cycle = f.on_cycle;
      first = f.first;
      place = ap (λ (y : DefItem). y.at) (sym c.index-defs-d.is);
    }
