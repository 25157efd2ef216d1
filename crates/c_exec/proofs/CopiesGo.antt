-- A Copy and a Put, on what a machine keeps.
use Rattle.std.proofs.Common.{◌≡◌, ℕ, ◌+◌, List, [], ◌∷◌, ◌++◌, length, take, drop, Option, Some, refl, sym, ap, ◌∙◌}
use Rattle.std.specs.Prelude.{IsTrue}
use Rattle.std.specs.List.{flat_map, AllZip}
use Rattle.std.specs.Option.{option_map_or}
use Rattle.std.proofs.lemmas.List.{append-nil}
use Rattle.c99_tree.specs.declared.types.CVar.{CVar}
use Rattle.c99_tree.specs.declared.unit.CRing.{CRing}
use Rattle.c99_tree.specs.declared.unit.Unit.{Unit as CUnit}
use Rattle.c99_tree.specs.Tree.{Stmt, copies, puts}
use Rattle.c99_tree.specs.Words.{is_same}
use Rattle.c99_tree.specs.Lookup.{var_of, ring_of, place_of_var}
use Rattle.c99_tree.specs.Values.{Value, no_such_value, words_of}
use Rattle.c99_tree.specs.Evaluation.{Statics, value_at, values_in, index_in}
use Rattle.c99_tree.specs.Step.{Progress, with_copy, with_ring, local_in, carry_out}
use Rattle.c99_tree.specs.Typed.{IsValueOf, IsStatics}
use Rattle.c99_tree.specs.WellFormed.{types_come_first}
use Rattle.c99_tree.proofs.LookedUp.{found_along, found_there}
use Rattle.c99_tree.proofs.Shaped.{externs_shaped}
use Rattle.c_exec.specs.Going.{Memory, Rooms, act}
use Rattle.c_exec.specs.Layout.{var_width, var_start, var_length, index_start, local_start, value_width}
use Rattle.c_exec.specs.Machine.{words_of_statics}
use Rattle.c_exec.specs.Resolving.{act_for}
use Rattle.c_exec.specs.Runs.{written}
use Rattle.c_exec.proofs.CodeGoes.{RunAt, run_taken, run_at}
use Rattle.c_exec.proofs.LaidOut.{copies_long, copy_found}
use Rattle.c_exec.proofs.StaticsWrites.{copy_written, ring_split, values_written}
use Rattle.c_exec.proofs.Follows.{Follows, Agrees, follows_statics}

-- the words of an extern's value among those of a row
row_run : (u : CUnit) (x : List ℕ) (v : CVar) (row : List ℕ) (xs : List Value) → IsTrue (types_come_first u)
    → AllZip (λ (y : CVar) w. IsValueOf u.types y.ty w) u.externs xs → row ≡ flat_map words_of xs → var_of u.externs x ≡ Some v
    → RunAt row (var_start u.types u.externs x) (var_width u.types v) (words_of (value_at xs (place_of_var u.externs x)))
row_run u x v row xs t h is e =
    let f = found_along (λ (z : CVar) w. IsValueOf u.types z.ty w) (λ (z : CVar). is_same x z.name) u.externs xs v h e in
    let value : f.value ≡ value_at xs (place_of_var u.externs x) = sym (ap (λ (o : Option Value). option_map_or (λ (w : Value). w) o no_such_value) f.there) in
    let r = run_at (var_width u.types) words_of u.externs xs [] (place_of_var u.externs x) v f.value (copies_long u.types u.externs xs (externs_shaped u t) h) (found_there (λ (z : CVar). is_same x z.name) u.externs v e) f.there in
    record {
      others = r.others;
      is = ap (λ (ws : List ℕ). drop (var_start u.types u.externs x) ws) (is ∙ sym (append-nil (flat_map words_of xs))) ∙ r.is ∙ ap (λ (w : Value). words_of w ++ r.others) value;
      long = sym (ap (λ (w : Value). length (words_of w)) value) ∙ r.long;
    }

-- an extern's copy has as many words as the extern
old_long : (u : CUnit) (s : Statics) (x : List ℕ) (v : CVar) (t : IsTrue (types_come_first u)) (h : IsStatics u s) (e : var_of u.externs x ≡ Some v)
    → length (words_of (copy_found u s x v h e).value) ≡ var_width u.types v
old_long u s x v t h e =
    let f = copy_found u s x v h e in
    (run_at (var_width u.types) words_of u.externs s.copies [] (place_of_var u.externs x) v f.value (copies_long u.types u.externs s.copies (externs_shaped u t) h.copies) (found_there (λ (z : CVar). is_same x z.name) u.externs v e) f.there).long

pub copy_goes : (u : CUnit) (rs : Rooms) (before : List Stmt) (x : List ℕ) (v : CVar) (p : Progress) (m : Memory) (row : List ℕ) (xs : List Value)
    → IsTrue (types_come_first u) → IsStatics u p.statics
    → AllZip (λ (y : CVar) w. IsValueOf u.types y.ty w) u.externs xs → row ≡ flat_map words_of xs → var_of u.externs x ≡ Some v → Follows u before p m
    → Agrees u (before ++ copies x ∷ []) (act rs row (act_for u (copies x)) m) (carry_out u xs (copies x) p)
copy_goes u rs before x v p m row xs t h g is e f =
    let start : ℕ = var_start u.types u.externs x in
    let wide : ℕ = var_length u.types u.externs x in
    let w : Value = value_at xs (place_of_var u.externs x) in
    let r = row_run u x v row xs t g is e in
    let n : wide ≡ var_width u.types v = ap (λ (o : Option CVar). option_map_or (var_width u.types) o 0) e in
    let taken : take wide (drop start row) ≡ words_of w = ap (λ (k : ℕ). take k (drop start row)) n ∙ run_taken row start (var_width u.types v) (words_of w) r in
    let long : length (words_of w) ≡ length (words_of (copy_found u p.statics x v h e).value) = r.long ∙ sym (old_long u p.statics x v t h e) in
    record {
      value = follows_statics u before (copies x) p m (with_copy u x w p.statics) (written start (take wide (drop start row)) m.statics) (λ q. refl) f
          (ap (λ (ws : List ℕ). written start (take wide (drop start row)) ws) f.statics ∙ ap (λ (ws : List ℕ). written start ws (words_of_statics p.statics)) taken
          ∙ copy_written u p.statics x v w t h e long);
      count = refl;
    }

-- the local of a ring of one value becomes that value
pub put_goes : (u : CUnit) (rs : Rooms) (before : List Stmt) (r : List ℕ) (ring : CRing) (p : Progress) (m : Memory) (row : List ℕ) (xs : List Value)
    → IsTrue (types_come_first u) → IsStatics u p.statics → ring_of u r ≡ Some ring
    → take (value_width u r) (drop (local_start u r) m.locals) ≡ words_of (local_in u p r)
    → length (words_of (local_in u p r)) ≡ length (flat_map words_of (values_in u p.statics r)) → Follows u before p m
    → Agrees u (before ++ puts r ∷ []) (act rs row (act_for u (puts r)) m) (carry_out u xs (puts r) p)
put_goes u rs before r ring p m row xs t h e held l f =
    let start : ℕ = index_start u r + 1 in
    let local : List ℕ = take (value_width u r) (drop (local_start u r) m.locals) in
    record {
      value = follows_statics u before (puts r) p m (with_ring u r (local_in u p r ∷ []) (index_in u p.statics r) p.statics) (written start local m.statics) (λ q. refl) f
          (ap (λ (ws : List ℕ). written start local ws) f.statics ∙ ap (λ (ws : List ℕ). written start ws (words_of_statics p.statics)) held
          ∙ values_written u p.statics r (local_in u p r) (ring_split u p.statics r ring t h e) l);
      count = refl;
    }
