use Rattle.std.proofs.Common.{◌∙◌, sym, subst}
use Rattle.sm_io.specs.Names.{IsNameBytes}
use Rattle.stream_lib.proofs.DecimalNames.{decimal_is_name}
use Rattle.stream_lib.proofs.numerals.number_name.Goals as goal

pub new-requires : goal.new-requires
new-requires c = subst IsNameBytes (sym (c.in_ok-bytes.ensures.items ∙ c.as_bytes.ensures.value ∙ c.format-text.ensures.text)) (decimal_is_name c.args.n c.ranges.n.fits)
