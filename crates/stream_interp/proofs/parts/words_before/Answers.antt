use Rattle.std.proofs.Common.{length, refl, sym, subst, ap, arith, All}
use Rattle.std.proofs.lemmas.List.{length-take}
use Rattle.stream_types.specs.declared.types.Field.{Field}
use Rattle.stream_types.specs.TypeList.{Stands}
use Rattle.stream_types.specs.Types.{entry_of}
use Rattle.stream_interp.proofs.PartWidths.{all_members_good, all_taken}
use Rattle.stream_interp.proofs.parts.words_before.Goals as goal

pub members_words-requires-clause-stand : goal.members_words-requires-clause-stand
members_words-requires-clause-stand c =
    let types = c.args.types.now in
    let good = all_members_good types c.args.of (entry_of types c.args.of) c.requires.types refl in
    all_taken (λ (f : Field). Stands types f.ty) c.members_of-members.result.now c.args.member
    (subst (All (λ (f : Field). Stands types f.ty)) (sym c.members_of-members.ensures) good.0)

pub members_words-requires-clause-few : goal.members_words-requires-clause-few
members_words-requires-clause-few c =
    let types = c.args.types.now in
    let few = (all_members_good types c.args.of (entry_of types c.args.of) c.requires.types refl).1 in
    let l = ap length c.members_of-members.ensures in
    let k = length-take c.args.member c.members_of-members.result.now in
    omega (arith, few, l, k)
