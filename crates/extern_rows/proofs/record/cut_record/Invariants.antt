use Rattle.std.proofs.Common.{◌≡◌, []}
use Rattle.csv.specs.Records.{fields_of, partial_of}
use Rattle.extern_rows.proofs.PlainLines.{CutTo}
use Rattle.extern_rows.proofs.record.cut_record.Given as goal

abbrev pub invariant-loop-at : goal.invariant-loop-at
invariant-loop-at l = (partial_of l.record ≡ []) × CutTo l.line (fields_of l.record) l.start l.at
