use Rattle.std.proofs.Common.{rules, ◌∙◌, sym}
use Rattle.std.proofs.lemmas.Option.{slice_get_read}
use Rattle.std.proofs.lemmas.Slice.Eq.{bytes_eq-Decides}
use Rattle.stream_types.proofs.types.place_of.Goals as goal

pub returns-then-eq-clause-found : goal.returns-then-eq-clause-found
returns-then-eq-clause-found c = record { field = c.index-fields-i.result; is = search (rules, slice_get_read); named = sym c.bytes.ensures.bytes ∙ (bytes_eq-Decides c.bytes.result.now c.args.name.now).0 (sym c.eq.ensures ∙ c.if-eq.true) }
