use Rattle.std.proofs.Common.{◌≡◌, ℕ, ◌-◌, List, [], ◌∷◌, ◌++◌, take, drop, length, arith}
use Rattle.csv.specs.Records.{fields_of, partial_of}
use Rattle.extern_rows.proofs.PlainLines.{put, cut_comma, cut_byte, cut_end}
use Rattle.extern_rows.proofs.record.cut_record.Goals.{then-line-at-eq44+in_ok-push_field, else-line-at-eq44}
use Rattle.extern_rows.proofs.record.cut_record.Goals as goal

pub loop-at-preserved : goal.loop-at-preserved
loop-at-preserved c = elim c.if-line-at-eq44.branch [
  | then-line-at-eq44+in_ok-push_field w ↦
      let line : List ℕ = c.args.line.now in
      let start : ℕ = c.loop-at.start in
      let place : ℕ = c.loop-at.at in
      let fields : fields_of w.push_field.new.self ≡ fields_of c.loop-at.record ++ take (place - start) (drop start line) ∷ [] =
      put (fields_of c.loop-at.record) (fields_of w.push_field.new.self) (partial_of c.loop-at.record) (take (place - start) (drop start line)) w.in_ok-push_field.ensures.fields c.loop-at.invariant.0 in
      rw (w.record-is, w.start-is, fields) (w.in_ok-push_field.ensures.partial, cut_comma line (fields_of c.loop-at.record) start place c.loop-at-test.true w.if-line-at-eq44.true c.loop-at.invariant.1)
  | else-line-at-eq44 w ↦
      rw (w.record-is, w.start-is) (c.loop-at.invariant.0, cut_byte c.args.line.now (fields_of c.loop-at.record) c.loop-at.start c.loop-at.at c.loop-at-test.true w.if-line-at-eq44.false c.loop-at.invariant.1)
]

pub returns : goal.returns
returns c =
    let line : List ℕ = c.args.line.now in
    let start : ℕ = c.loop-at.start in
    let end : c.loop-at.at ≡ length line = omega (arith, c.loop-at-test.false, c.loop-at.auto.at-end) in
    let fields : fields_of c.push_field-2.new.self ≡ fields_of c.loop-at.record ++ take (length line - start) (drop start line) ∷ [] =
    put (fields_of c.loop-at.record) (fields_of c.push_field-2.new.self) (partial_of c.loop-at.record) (take (length line - start) (drop start line)) c.in_ok-push_field-2.ensures.fields c.loop-at.invariant.0 in
    rw fields (cut_end line (fields_of c.loop-at.record) start c.loop-at.at c.requires end c.loop-at.invariant.1)
