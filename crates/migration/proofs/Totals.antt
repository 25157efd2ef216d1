-- The bytes and the weight of the new program.
use Rattle.std.proofs.Common.{◌≡◌, ℕ, ◌+◌, ◌*◌, ◌≤◌, Bool, true, false, ◌&&◌, List, [], ◌∷◌, map, Option, Some, None, refl, sym, ◌∙◌, subst, arith}
use Rattle.std.specs.Prelude.{nat_eq, nat_le, if◌then◌else◌}
use Rattle.std.specs.List.{filter_map, cons_option, sum_by}
use Rattle.std.proofs.lemmas.Bool.Decides.{nat_tests}
use Rattle.std.proofs.lemmas.List.Sums.{sum_by-cons}
use Rattle.sm_io.proofs.Truths.{left_passes, right_passes}
use Rattle.c99_tree.specs.declared.types.CDef.{CDef}
use Rattle.c99_tree.specs.declared.unit.CRing.{CRing}
use Rattle.c99_tree.specs.declared.unit.CStmt.{CStmt}
use Rattle.c99_tree.specs.declared.unit.Unit.{Unit as CUnit}
use Rattle.c99_tree.specs.Tree.{Expr, Exprs, lit, yes, no, copy, head, cell, ring_at, un, bin, choose, cast, field, pick, arr, rec, none, more, Stmt, copies, calls, nexts, stores, moves, puts, statements}
use Rattle.c99_tree.specs.Storage.{index_size, size_of, ring_storage, copy_storage, storage_of}
use Rattle.c99_tree.specs.Weight.{weight, weights, statement_weight, unit_weight_of}
use Rattle.c99_tree.specs.WellFormed.{IsWellFormed}
use Rattle.c99_tree.proofs.LookedUp.{same_number}
use Rattle.migration.specs.Migration.{is_old, names_old, renewed, renewed_all, renewed_ring, renewed_statement, old_indices, IsRenewed, IsMigrated, with_totals}
use Rattle.migration.proofs.NewTypes.{made, is_made}

-- ---- the totals of a well formed program

-- what its header says is so, and not too much
pub record HasTotals (u : CUnit) : Type 0 where
  pub storage : u.storage ≡ storage_of u
  pub need : u.need ≡ unit_weight_of u
  pub bytes : storage_of u ≤ 2147483647
  pub weight : unit_weight_of u ≤ 2147483647

pub four : (a b c d : Bool) → (a && b && c && d) ≡ true → (a ≡ true) × (b ≡ true) × (c ≡ true) × (d ≡ true)
four true true true true h = (refl, refl, refl, refl)
four true true true false h = absurd (cc h)
four true true false d h = absurd (cc h)
four true false c d h = absurd (cc h)
four false b c d h = absurd (cc h)

small : (n m k : ℕ) → n ≡ m → nat_le n k ≡ true → m ≤ k
small n m k e h = grind (arith, nat_tests, e, h)

pub totals : (u : CUnit) → IsWellFormed u → HasTotals u
totals u w =
    let p = four (nat_eq u.storage (storage_of u)) (nat_eq u.need (unit_weight_of u)) (nat_le u.storage 2147483647) (nat_le u.need 2147483647) w.totals in
    let bytes = same_number u.storage (storage_of u) p.0 in
    let weight = same_number u.need (unit_weight_of u) p.1 in
    record {
      storage = bytes;
      need = weight;
      bytes = small u.storage (storage_of u) 2147483647 bytes p.2;
      weight = small u.need (unit_weight_of u) 2147483647
          weight p.3;
    }

-- ---- bytes

indexed_size : (b : Bool) (n s : ℕ) → b ≡ true → n ≡ 1 → s + 4 ≡ (if b then n * s + 4 else s)
indexed_size true n s h g = rw g (omega arith)
indexed_size false n s h g = absurd (cc h)

index_goes : (ds : List CDef) (b : Bool) (r : CRing) → is_old r ≡ b → ring_storage ds (if b then record r { indexed = false } else r) + (if b then index_size
    else 0) ≡ ring_storage ds r
index_goes ds true r e = indexed_size r.indexed r.len (size_of ds r.ty) (left_passes r.indexed (nat_eq r.len 1) e) (same_number r.len 1
    (right_passes r.indexed (nat_eq r.len 1) e))
index_goes ds false r e = omega arith

rings_storage : (ds : List CDef) (rs : List CRing) → sum_by (ring_storage ds) (map renewed_ring rs) + sum_by (λ r. if is_old r then index_size else 0) rs ≡
    sum_by (ring_storage ds) rs
rings_storage ds [] = refl
rings_storage ds (r ∷ rs) =
    added (ring_storage ds (renewed_ring r)) (sum_by (ring_storage ds) (map renewed_ring rs)) (if is_old r then index_size else 0)
    (sum_by (λ (z : CRing). if is_old z then index_size else 0) rs)
    (ring_storage ds r) (sum_by (ring_storage ds) rs)
    (sum_by (ring_storage ds) (map renewed_ring (r ∷ rs))) (sum_by (λ (z : CRing). if is_old z then index_size else 0) (r ∷ rs)) (sum_by (ring_storage ds)
    (r ∷ rs))
    (sum_by-cons (ring_storage ds) (renewed_ring r) (map renewed_ring rs)) (sum_by-cons (λ (z : CRing). if is_old z then index_size else 0) r rs)
    (sum_by-cons (ring_storage ds) r rs)
    (index_goes ds (is_old r) r refl) (rings_storage ds rs)
  where
    added : (a b c d e f x y z : ℕ) → x ≡ a + b → y ≡ c + d → z ≡ e + f → a + c ≡ e → b + d ≡ f → x + y ≡ z
    added a b c d e f x y z p q r s t = omega (arith, p, q, r, s, t)

sum_less : (a b c d : ℕ) → a + b ≡ c → (a + d) + b ≡ c + d
sum_less a b c d h = omega (arith, h)

-- ---- weight

element_weight : (u : CUnit) (r : List ℕ) (a : Expr) (b : Bool) → weight (renewed u a) ≤ weight a → weight (if b then cell r else ring_at r (renewed u a)) ≤ 1
    + weight a
element_weight u r a true h = omega arith
element_weight u r a false h = omega (arith, h)

mutual
  new_weight : (u : CUnit) (e : Expr) → weight (renewed u e) ≤ weight e
  new_weight u (lit k n) = omega arith
  new_weight u yes = omega arith
  new_weight u no = omega arith
  new_weight u (copy x) = omega arith
  new_weight u (head r) = omega arith
  new_weight u (cell r) = omega arith
  new_weight u (ring_at r a) = element_weight u r a (names_old u r) (new_weight u a)
  new_weight u (un op a) = let k = new_weight u a in omega (arith, k)
  new_weight u (bin op a b) = let k = new_weight u a in let l = new_weight u b in omega (arith, k, l)
  new_weight u (choose c a b) = let k = new_weight u c in let l = new_weight u a in let m = new_weight u b in omega (arith, k, l, m)
  new_weight u (cast ty a) = let k = new_weight u a in omega (arith, k)
  new_weight u (field a x) = let k = new_weight u a in omega (arith, k)
  new_weight u (pick x n a i) = let k = new_weight u a in let l = new_weight u i in omega (arith, k, l)
  new_weight u (arr x n all) = let k = new_weights u all in omega (arith, k)
  new_weight u (rec x all) = let k = new_weights u all in omega (arith, k)

  new_weights : (u : CUnit) (es : Exprs) → weights (renewed_all u es) ≤ weights es
  new_weights u none = omega arith
  new_weights u (more e es) = let k = new_weight u e in let l = new_weights u es in omega (arith, k, l)

-- the weight of a statement that may be gone
abbrev weight_or_none : Option Stmt → ℕ
weight_or_none None = 0
weight_or_none (Some s) = statement_weight s

store_weight : (u : CUnit) (r : List ℕ) (e : Expr) (b : Bool) → weight_or_none (if b then Some (puts r) else Some (stores r (renewed u e))) ≤ 1 + weight e
store_weight u r e true = omega arith
store_weight u r e false = let k = new_weight u e in omega (arith, k)

move_weight : (u : CUnit) (r : List ℕ) (e : Expr) (b : Bool) → weight_or_none (if b then None else Some (moves r (renewed u e))) ≤ weight e
move_weight u r e true = omega arith
move_weight u r e false = new_weight u e

new_statement_weight : (u : CUnit) (s : Stmt) → weight_or_none (renewed_statement u s) ≤ statement_weight s
new_statement_weight u (copies x) = omega arith
new_statement_weight u (calls h guard args) = let k = new_weight u guard in let l = new_weights u args in omega (arith, k, l)
new_statement_weight u (nexts r e) = new_weight u e
new_statement_weight u (stores r e) = store_weight u r e (names_old u r)
new_statement_weight u (moves r e) = move_weight u r e (names_old u r)
new_statement_weight u (puts r) = omega arith

one_more : (o : Option Stmt) (ss : List Stmt) → sum_by statement_weight (cons_option o ss) ≡ weight_or_none o + sum_by statement_weight ss
one_more None ss = omega arith
one_more (Some s) ss = sum_by-cons statement_weight s ss

at_most : (a b c d x y : ℕ) → x ≡ a + b → y ≡ c + d → a ≤ c → b ≤ d → x ≤ y
at_most a b c d x y p q h g = omega (arith, p, q, h, g)

step_weight : (u : CUnit) (ss : List Stmt) → sum_by statement_weight (filter_map (renewed_statement u) ss) ≤ sum_by statement_weight ss
step_weight u [] = omega arith
step_weight u (s ∷ ss) =
    at_most (weight_or_none (renewed_statement u s)) (sum_by statement_weight (filter_map (renewed_statement u) ss)) (statement_weight s)
    (sum_by statement_weight ss)
    (sum_by statement_weight (filter_map (renewed_statement u) (s ∷ ss))) (sum_by statement_weight (s ∷ ss))
    (one_more (renewed_statement u s) (filter_map (renewed_statement u) ss)) (sum_by-cons statement_weight s ss) (new_statement_weight u s) (step_weight u ss)

-- ---- the new program

made_storage : (u : CUnit) (name : List ℕ) (bytes need : ℕ) (step : List CStmt) → storage_of (made u name bytes need step) + old_indices u ≡ storage_of u
made_storage u name bytes need step =
    sum_less (sum_by (ring_storage u.types) (map renewed_ring u.rings)) (old_indices u) (sum_by (ring_storage u.types) u.rings) (sum_by (copy_storage u.types)
    u.externs)
    (rings_storage u.types u.rings)

pub new_storage : (u v : CUnit) (name : List ℕ) → IsRenewed u name v → storage_of v + old_indices u ≡ storage_of u
new_storage u v name is = subst (λ (z : CUnit). storage_of z + old_indices u ≡ storage_of u) (sym (is_made u v name is)) (made_storage u name v.storage v.need
    v.step)

pub new_unit_weight : (u v : CUnit) (name : List ℕ) → IsRenewed u name v → unit_weight_of v ≤ unit_weight_of u
new_unit_weight u v name is = subst (λ (ss : List Stmt). sum_by statement_weight ss ≤ unit_weight_of u) (sym is.step) (step_weight u (statements u))

left_of_sum : (a b c k : ℕ) → a + b ≡ c → c ≤ k → a ≤ k
left_of_sum a b c k e h = omega (arith, e, h)

pub storage_fits : (u v : CUnit) (name : List ℕ) → IsRenewed u name v → IsWellFormed u → storage_of v ≤ 2147483647
storage_fits u v name is w = left_of_sum (storage_of v) (old_indices u) (storage_of u) 2147483647 (new_storage u v name is) (totals u w).bytes

below : (a b k : ℕ) → a ≤ b → b ≤ k → a ≤ k
below a b k h g = omega (arith, h, g)

pub weight_fits : (u v : CUnit) (name : List ℕ) → IsRenewed u name v → IsWellFormed u → unit_weight_of v ≤ 2147483647
weight_fits u v name is w = below (unit_weight_of v) (unit_weight_of u) 2147483647 (new_unit_weight u v name is) (totals u w).weight

-- the bytes that its header says, beside those of the indices that are gone
pub storage_told : (u v : CUnit) (name : List ℕ) → IsRenewed u name v → IsWellFormed u → storage_of v + old_indices u ≡ u.storage
storage_told u v name is w = new_storage u v name is ∙ sym (totals u w).storage

-- the new program with its own totals
pub migrated : (u v : CUnit) (name : List ℕ) → IsRenewed u name v → IsMigrated u name (with_totals v)
migrated u v name is =
    record {
      renewed = record { named = is.named; types = is.types; externs = is.externs; handlers = is.handlers; rings = is.rings; step = is.step };
      storage = refl;
      need = refl;
    }
