-- What a put leaves of the other files.
use Rattle.std.proofs.Common.{◌≡◌, ℕ, List, Bool, true, false, cond, Option, None, Some, refl, ap, sym, ◌∙◌}
use Rattle.std.specs.Ordering.{nat_cmp, eq_by_cmp}
use Rattle.std.specs.Cmp.Lexicographic.{slice_cmp, nat_list_cmp_total}
use Rattle.std.specs.FinMap.{get, insert, remove, get-insert, get-remove, same_map, slice_cmp-IsAntisymmetric, nat_cmp-IsAntisymmetric}
use Rattle.sm_io.specs.Files.{Files, with_file, SameBut}

hidden : (b : Bool) (v old : Option (List ℕ)) → cond b None (cond b v old) ≡ cond b None old
hidden true v old = refl
hidden false v old = refl

-- a file that is put and taken away
pub remove-insert : (files : Files) (name bytes : List ℕ) → remove (insert files name bytes) name ≡ remove files name
remove-insert files name bytes =
    same_map nat_list_cmp_total (slice_cmp-IsAntisymmetric nat_cmp-IsAntisymmetric) _ _
    (λ q. get-remove nat_list_cmp_total (insert files name bytes) name q
    ∙ ap (cond (eq_by_cmp (slice_cmp nat_cmp) q name) None) (get-insert nat_list_cmp_total files name bytes q)
    ∙ hidden (eq_by_cmp (slice_cmp nat_cmp) q name) (Some bytes) (get files q)
    ∙ sym (get-remove nat_list_cmp_total files name q))

-- a file that is put leaves the others
pub SameBut-with_file : (files : Option Files) (name bytes : List ℕ) → SameBut name files (with_file files name bytes)
SameBut-with_file None name bytes = refl
SameBut-with_file (Some m) name bytes = ap Some (remove-insert m name bytes)
