use Rattle.std.proofs.Common.{◌<◌, length, Ok, sym, ap, ◌∙◌, arith}
use Rattle.stream_types.specs.Types.{elem_count, entry_of}
use Rattle.stream_interp.proofs.PartWidths.{element_inside, element_is, element_not, from_fits}
use Rattle.stream_interp.proofs.parts.copy_element.Goals as goal

pub overflow_mul-from : goal.overflow_mul-from
overflow_mul-from c =
    let b : c.args.k < elem_count (entry_of c.args.types.now c.args.of) = omega (arith, c.count_of.ensures) in
    from_fits c.args.types.now c.args.of c.args.k (length c.args.out.now) c.requires.types c.requires.stands b c.requires.element

pub copy_from_slice-requires : goal.copy_from_slice-requires
copy_from_slice-requires c =
    let b : c.args.k < elem_count (entry_of c.args.types.now c.args.of) = omega (arith, c.count_of.ensures) in
    sym (ap length c.run_of.ensures ∙ element_inside c.args.types.now c.args.of c.args.array.now c.args.k (length c.args.out.now) c.requires.types c.requires.stands c.requires.array b c.requires.element)

pub returns-then-k-count_of-clause-err : goal.returns-then-k-count_of-clause-err
returns-then-k-count_of-clause-err c =
    element_not c.args.types.now (entry_of c.args.types.now c.args.of) c.args.array.now c.args.k (omega (arith, c.count_of.ensures))

pub returns-clause-ok : goal.returns-clause-ok
returns-clause-ok c =
    let b : c.args.k < elem_count (entry_of c.args.types.now c.args.of) = omega (arith, c.count_of.ensures) in
    element_is c.args.types.now (entry_of c.args.types.now c.args.of) c.args.array.now c.args.k (length c.args.out.now) b c.requires.element
    ∙ ap Ok (sym (c.copy_from_slice.ensures.after ∙ c.run_of.ensures))
