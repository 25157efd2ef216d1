-- Fields of one name.
use Rattle.std.proofs.Common.{◌≢◌, ℕ, ◌<◌, ◌≤◌, List, length, arith, ap, sym, ◌∙◌}
use Rattle.std.specs.Prelude.{slice_index_or}
use Rattle.std.proofs.lemmas.Option.{get_or_from_slice_get, slice_get_within}
use Rattle.stream_types.specs.declared.types.Field.{Field}
use Rattle.stream_types.specs.TypeList.{HasTwins}

pub no_twins : (fields : List Field) (n : ℕ) → length fields ≤ n → ((j k : ℕ) (d : Field) → j < k → k < n → (slice_index_or fields j d).name ≢ (slice_index_or fields k d).name) → ¬ HasTwins fields
no_twins fields n p h w =
    let a = get_or_from_slice_get fields w.i w.one w.one w.one_is in
    let b = get_or_from_slice_get fields w.j w.other w.one w.other_is in
    h w.i w.j w.one w.before (omega (arith, slice_get_within fields w.j w.other w.other_is)) (ap (λ (f : Field). f.name) a ∙ w.alike ∙ sym (ap (λ (f : Field). f.name) b))
