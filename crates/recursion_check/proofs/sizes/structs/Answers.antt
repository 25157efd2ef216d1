use Rattle.std.proofs.Common.{◌∙◌, ap, arith}
use Rattle.std.proofs.lemmas.Option.{get_or_from_slice_get, slice_get_within}
use Rattle.std.proofs.lemmas.List.Sums.{count_by_more_yes, count_by_more_no}
use Rattle.stream_core.specs.Soundness.{is_struct}
use Rattle.recursion_check.proofs.sizes.structs.Goals as goal
use Rattle.recursion_check.proofs.sizes.structs.Goals.{in-Struct, in_default}

pub loop-i-preserved : goal.loop-i-preserved
loop-i-preserved c =
    let types = c.args.types.now in
    let i = c.loop-i.i in
    let x = c.entry.result.now in
    let b = slice_get_within types i x c.entry.ensures.value in
    let at = get_or_from_slice_get types i x x c.entry.ensures.value in
    elim c.match-entry.branch [
      | in-Struct w ↦
          let n = count_by_more_yes is_struct types i x b (ap is_struct (at ∙ w.in-Struct.is)) in
          record { counted = omega (arith, n, w.count-is, c.loop-i.invariant.counted); bounded = omega (arith, w.count-is, c.loop-i.invariant.bounded) }
      | in_default w ↦
          let n = count_by_more_no is_struct types i x b (ap is_struct (at ∙ w.in_default.is)) in
          record { counted = omega (arith, n, w.count-is, c.loop-i.invariant.counted); bounded = omega (arith, w.count-is, c.loop-i.invariant.bounded) }
    ]
