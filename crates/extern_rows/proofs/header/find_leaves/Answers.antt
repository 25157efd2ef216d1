use Rattle.std.proofs.Common.{◌≡◌, ◌+◌, ◌++◌, ◌∷◌, [], List, ℕ, map, length, drop, ap, sym, ◌∙◌, length-append}
use Rattle.std.proofs.lemmas.Result.{err_from_is_err_and}
use Rattle.csv.specs.Records.{fields_of}
use Rattle.extern_rows.specs.Fields.{trimmed}
use Rattle.extern_rows.specs.Columns.{column_of, wanted_at, wanted_from}
use Rattle.extern_rows.specs.LeafReading.{behind}
use Rattle.extern_rows.specs.declared.header.Wanted.{Wanted}
use Rattle.extern_rows.proofs.Cells.{leaf_found, leaf_missed, reads_missed}
use Rattle.extern_rows.proofs.header.find_leaves.Goals as goal

pub returns-in_err-found-clause-reads : goal.returns-in_err-found-clause-reads
returns-in_err-found-clause-reads c =
    let p = err_from_is_err_and c.from_residual-in_err-found.result c.from_residual-in_err-found.ensures.1 in
    let names : List (List ℕ) = map trimmed (fields_of c.args.row.now) in
    let leaf = c.index-leaves-number.result in
    let column : c.copied-column.result ≡ column_of leaf.name names =
    c.copied-column.ensures ∙ c.get.ensures.value ∙ c.in_ok-columns.ensures c.bytes.result.now ∙ ap (λ (n : List ℕ). column_of n names) c.bytes.ensures in
    rw (p.1, p.2) (reads_missed c.args.leaves.now names c.in_err-found.field-0.0
    (leaf_missed c.args.leaves.now names c.loop-number.number leaf c.loop-number.wanted.items c.in_err-found.field-0.0 c.loop-number-test.true c.index-leaves-number.is
    (c.in_err-found.ensures ∙ ap (wanted_at c.loop-number.number leaf.scalar) column) c.loop-number.invariant.1))

pub loop-number-preserved : goal.loop-number-preserved
loop-number-preserved c =
    let names : List (List ℕ) = map trimmed (fields_of c.args.row.now) in
    let leaf = c.index-leaves-number.result in
    let column : c.copied-column.result ≡ column_of leaf.name names =
    c.copied-column.ensures ∙ c.get.ensures.value ∙ c.in_ok-columns.ensures c.bytes.result.now ∙ ap (λ (n : List ℕ). column_of n names) c.bytes.ensures in
    let items : c.push.new.self.items ≡ c.loop-number.wanted.items ++ c.in_ok-found.found ∷ [] = c.in_ok-push.ensures.items in (
      ap length items ∙ length-append c.loop-number.wanted.items (c.in_ok-found.found ∷ []) ∙ ap (λ (n : ℕ). n + 1) c.loop-number.invariant.0,
      leaf_found c.args.leaves.now names c.loop-number.number leaf c.loop-number.wanted.items c.in_ok-found.found c.loop-number-test.true c.index-leaves-number.is
          (c.in_ok-found.ensures ∙ ap (wanted_at c.loop-number.number leaf.scalar) column) c.loop-number.invariant.1
          ∙ ap (λ (ws : List Wanted). behind ws (wanted_from (c.loop-number.number + 1) (drop (c.loop-number.number + 1) c.args.leaves.now) names)) (sym items),
    )
