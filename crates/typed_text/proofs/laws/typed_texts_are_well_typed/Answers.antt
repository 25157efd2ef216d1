use Rattle.std.proofs.Common.{sym, subst}
use Rattle.stream_core.specs.Term.{trees}
use Rattle.type_check.proofs.TypeLists.{types_are_a_list}
use Rattle.typed_text.proofs.Faultless.{IsFaultless}
use Rattle.typed_text.proofs.Whole.{IsGoodSpec, spec_is_good}
use Rattle.typed_text.proofs.GoodNames.{typed_spec_is_well_typed}
use Rattle.typed_text.proofs.NodesTyped.{nodes_typed}
use Rattle.typed_text.proofs.laws.typed_texts_are_well_typed.Goals as goal

pub returns : goal.returns
returns c s x keeps items nested faultless is ordered parts =
    let h : IsFaultless s = record { keeps = keeps; items = items; nested = nested; faultless = faultless; list = types_are_a_list s keeps items faultless } in
    let g = subst IsGoodSpec (sym is) (spec_is_good s h) in
    typed_spec_is_well_typed s x h (record { trees_are = is; ordered = ordered; nodes = nodes_typed x g parts })
