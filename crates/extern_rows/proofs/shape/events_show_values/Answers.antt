use Rattle.std.proofs.Common.{refl}
use Rattle.extern_rows.proofs.ValuePieces.{events_show_values, values_by_type, log_is_written}
use Rattle.extern_rows.proofs.shape.events_show_values.Goals as goal

pub returns : goal.returns
returns c = record { events = events_show_values; values = values_by_type; pairs = refl; log = log_is_written }
