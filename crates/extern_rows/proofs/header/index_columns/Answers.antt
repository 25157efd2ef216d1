use Rattle.std.proofs.Common.{◌≡◌, ◌<◌, ◌++◌, ◌∷◌, [], List, ℕ, Option, Some, cond, map, take, length, get_or, ap, sym, ◌∙◌, bytes_eq, arith}
use Rattle.std.specs.HashMap as hash
use Rattle.std.proofs.lemmas.Map.Text.{hash_map_updates_str}
use Rattle.csv.specs.Records.{fields_of}
use Rattle.extern_rows.specs.declared.header.Column.{Column}
use Rattle.extern_rows.specs.Fields.{trimmed}
use Rattle.extern_rows.specs.Columns.{column_of}
use Rattle.extern_rows.specs.LeafReading.{seen_at}
use Rattle.extern_rows.proofs.Cells.{column_more, names_more, length-names}
use Rattle.extern_rows.proofs.header.index_columns.Goals as goal

pub loop-place-preserved : goal.loop-place-preserved
loop-place-preserved c = λ q.
    let fields : List (List ℕ) = fields_of c.args.row.now in
    let place : ℕ = c.loop-place.place in
    let name : List ℕ = c.trimmed-name.result.now in
    let names : List (List ℕ) = map trimmed (take place fields) in
    let low : place < length fields = omega (arith, c.loop-place-test.true, c.len-place-end.ensures) in
    let found : c.copied.result ≡ column_of name names = c.copied.ensures ∙ c.get.ensures.value ∙ c.loop-place.invariant name in
    let seen : c.seen_at-column.result ≡ seen_at (column_of name names) place = c.seen_at-column.ensures ∙ ap (λ o. seen_at o place) found in
    let is : name ≡ trimmed (get_or fields place []) = c.trimmed-name.ensures ∙ ap trimmed c.field_at.ensures in
    hash_map_updates_str name c.loop-place.columns c.insert.new.self (Some c.seen_at-column.result) c.in_ok-insert.ensures.updates q
    ∙ ap (λ (w : Column). cond (bytes_eq name q) (Some w) (hash.get_by (λ k. bytes_eq q k.now) c.loop-place.columns)) seen
    ∙ ap (λ (o : Option Column). cond (bytes_eq name q) (Some (seen_at (column_of name names) place)) o) (c.loop-place.invariant q)
    ∙ ap (λ (k : ℕ). cond (bytes_eq name q) (Some (seen_at (column_of name names) k)) (column_of q names)) (sym (length-names fields place (omega arith)))
    ∙ sym (column_more q name names)
    ∙ ap (λ (n : List ℕ). column_of q (names ++ n ∷ [])) is
    ∙ ap (column_of q) (names_more fields place low)
