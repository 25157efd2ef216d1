-- A look-up among entries whose keys are bytes, by the test of slices.
use Rattle.std.proofs.Common.{◌≡◌, ℕ, List, ◌∷◌, Bool, true, false, cond, nat_eq, Option, Some, ap, sym, ◌∙◌}
use Rattle.std.specs.Ordering.{nat_cmp}
use Rattle.std.specs.Cmp.Lexicographic.{slice_cmp, pointwise, texts_ties, nat_list_cmp_total}
use Rattle.std.specs.FinMap.{find, get, from_entries, get-from_entries}
use Rattle.sm_io.specs.Files.{Files}

-- the first entry is tested, and then the others
pub find_by_test : (name : List ℕ) (entry : List ℕ × List ℕ) (entries all : List (List ℕ × List ℕ)) (key : List ℕ) (same : Bool) → all ≡ entry ∷ entries → key ≡ entry.0 → same ≡ pointwise nat_eq name key → find (slice_cmp nat_cmp) name all ≡ cond same (Some entry.1) (find (slice_cmp nat_cmp) name entries)
find_by_test name entry entries all key same first is test =
    ap (find (slice_cmp nat_cmp) name) first
    ∙ ap (λ b. cond b (Some entry.1) (find (slice_cmp nat_cmp) name entries)) (sym (test ∙ ap (pointwise nat_eq name) is ∙ texts_ties name entry.0))

pub found_by_test : (name value : List ℕ) (whole : Option (List ℕ)) (entry : List ℕ × List ℕ) (entries all : List (List ℕ × List ℕ)) (key : List ℕ) (same : Bool) → whole ≡ find (slice_cmp nat_cmp) name all → all ≡ entry ∷ entries → key ≡ entry.0 → same ≡ pointwise nat_eq name key → same ≡ true → value ≡ entry.1 → Some value ≡ whole
found_by_test name value whole entry entries all key same so first is test holds value_is =
    ap Some value_is
    ∙ sym (so ∙ find_by_test name entry entries all key same first is test ∙ ap (λ b. cond b (Some entry.1) (find (slice_cmp nat_cmp) name entries)) holds)

pub past_by_test : (name : List ℕ) (whole : Option (List ℕ)) (entry : List ℕ × List ℕ) (entries all : List (List ℕ × List ℕ)) (key : List ℕ) (same : Bool) → whole ≡ find (slice_cmp nat_cmp) name all → all ≡ entry ∷ entries → key ≡ entry.0 → same ≡ pointwise nat_eq name key → same ≡ false → whole ≡ find (slice_cmp nat_cmp) name entries
past_by_test name whole entry entries all key same so first is test fails =
    so ∙ find_by_test name entry entries all key same first is test ∙ ap (λ b. cond b (Some entry.1) (find (slice_cmp nat_cmp) name entries)) fails

-- what is found in a log is what its map has
pub get_by_find : (answer : Option (List ℕ)) (name key : List ℕ) (log : List (List ℕ × List ℕ)) (files : Files) → answer ≡ find (slice_cmp nat_cmp) key log → key ≡ name → from_entries log ≡ files → answer ≡ get files name
get_by_find answer name key log files found is same =
    found ∙ ap (λ k. find (slice_cmp nat_cmp) k log) is ∙ sym (get-from_entries nat_list_cmp_total log name) ∙ ap (λ m. get m name) same
