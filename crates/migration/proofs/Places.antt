-- A place `((cp_i_r + kU) % 1U)` is no other expression.
use Rattle.std.proofs.Common.{◌≡◌, ℕ, Bool, true, false, ◌&&◌, List, refl, sym, ap}
use Rattle.std.specs.Prelude.{nat_eq}
use Rattle.sm_io.proofs.Truths.{left_passes, right_passes}
use Rattle.c99_tree.proofs.LookedUp.{same_number}
use Rattle.c99_tree.specs.declared.expr.CLit.{CLit}
use Rattle.c99_tree.specs.declared.expr.CLit.TheVariants as k
use Rattle.c99_tree.specs.declared.expr.CBin.{CBin}
use Rattle.c99_tree.specs.declared.expr.CBin.TheVariants as o
use Rattle.c99_tree.specs.Tree.{Expr, lit, yes, no, copy, head, cell, ring_at, un, bin, choose, cast, field, pick, arr, rec}
use Rattle.c99_tree.proofs.Shaped.{same-eq}
use Rattle.migration.specs.Migration.{has_suffix_u, is_plus, is_remainder, is_head, is_unsigned, is_one, is_sum, is_old_place}

suffix_is : (s : CLit) → has_suffix_u s ≡ true → s ≡ k.U
suffix_is k.I h = absurd (cc h)
suffix_is k.U h = refl
suffix_is k.LL h = absurd (cc h)
suffix_is k.ULL h = absurd (cc h)

plus_is : (op : CBin) → is_plus op ≡ true → op ≡ o.Add
plus_is o.Add h = refl
plus_is o.Sub h = absurd (cc h)
plus_is o.Mul h = absurd (cc h)
plus_is o.Div h = absurd (cc h)
plus_is o.Rem h = absurd (cc h)
plus_is o.BitAnd h = absurd (cc h)
plus_is o.BitOr h = absurd (cc h)
plus_is o.BitXor h = absurd (cc h)
plus_is o.Shl h = absurd (cc h)
plus_is o.Shr h = absurd (cc h)
plus_is o.Eq h = absurd (cc h)
plus_is o.Ne h = absurd (cc h)
plus_is o.Lt h = absurd (cc h)
plus_is o.Le h = absurd (cc h)
plus_is o.Gt h = absurd (cc h)
plus_is o.Ge h = absurd (cc h)
plus_is o.And h = absurd (cc h)
plus_is o.Or h = absurd (cc h)

remainder_is : (op : CBin) → is_remainder op ≡ true → op ≡ o.Rem
remainder_is o.Add h = absurd (cc h)
remainder_is o.Sub h = absurd (cc h)
remainder_is o.Mul h = absurd (cc h)
remainder_is o.Div h = absurd (cc h)
remainder_is o.Rem h = refl
remainder_is o.BitAnd h = absurd (cc h)
remainder_is o.BitOr h = absurd (cc h)
remainder_is o.BitXor h = absurd (cc h)
remainder_is o.Shl h = absurd (cc h)
remainder_is o.Shr h = absurd (cc h)
remainder_is o.Eq h = absurd (cc h)
remainder_is o.Ne h = absurd (cc h)
remainder_is o.Lt h = absurd (cc h)
remainder_is o.Le h = absurd (cc h)
remainder_is o.Gt h = absurd (cc h)
remainder_is o.Ge h = absurd (cc h)
remainder_is o.And h = absurd (cc h)
remainder_is o.Or h = absurd (cc h)

-- `cp_i_r`
pub head_is : (r : List ℕ) (e : Expr) → is_head r e ≡ true → e ≡ head r
head_is r (lit s n) h = absurd (cc h)
head_is r yes h = absurd (cc h)
head_is r no h = absurd (cc h)
head_is r (copy x) h = absurd (cc h)
head_is r (head x) h = ap head (sym (same-eq r x h))
head_is r (cell x) h = absurd (cc h)
head_is r (ring_at x a) h = absurd (cc h)
head_is r (un op a) h = absurd (cc h)
head_is r (bin op a b) h = absurd (cc h)
head_is r (choose c a b) h = absurd (cc h)
head_is r (cast ty a) h = absurd (cc h)
head_is r (field a x) h = absurd (cc h)
head_is r (pick x n a i) h = absurd (cc h)
head_is r (arr x n all) h = absurd (cc h)
head_is r (rec x all) h = absurd (cc h)

-- `kU`
unsigned_is : (e : Expr) → is_unsigned e ≡ true → (n : ℕ) × (e ≡ lit k.U n)
unsigned_is (lit s n) h = (n, ap (λ (z : CLit). lit z n) (suffix_is s h))
unsigned_is yes h = absurd (cc h)
unsigned_is no h = absurd (cc h)
unsigned_is (copy x) h = absurd (cc h)
unsigned_is (head x) h = absurd (cc h)
unsigned_is (cell x) h = absurd (cc h)
unsigned_is (ring_at x a) h = absurd (cc h)
unsigned_is (un op a) h = absurd (cc h)
unsigned_is (bin op a b) h = absurd (cc h)
unsigned_is (choose c a b) h = absurd (cc h)
unsigned_is (cast ty a) h = absurd (cc h)
unsigned_is (field a x) h = absurd (cc h)
unsigned_is (pick x n a i) h = absurd (cc h)
unsigned_is (arr x n all) h = absurd (cc h)
unsigned_is (rec x all) h = absurd (cc h)

-- `1U`
one_is : (e : Expr) → is_one e ≡ true → e ≡ lit k.U 1
one_is (lit s n) h = let t = suffix_is s (left_passes (has_suffix_u s) (nat_eq n 1) h) in let m = same_number n 1 (right_passes (has_suffix_u s) (nat_eq n 1)
    h) in cc (t, m)
one_is yes h = absurd (cc h)
one_is no h = absurd (cc h)
one_is (copy x) h = absurd (cc h)
one_is (head x) h = absurd (cc h)
one_is (cell x) h = absurd (cc h)
one_is (ring_at x a) h = absurd (cc h)
one_is (un op a) h = absurd (cc h)
one_is (bin op a b) h = absurd (cc h)
one_is (choose c a b) h = absurd (cc h)
one_is (cast ty a) h = absurd (cc h)
one_is (field a x) h = absurd (cc h)
one_is (pick x n a i) h = absurd (cc h)
one_is (arr x n all) h = absurd (cc h)
one_is (rec x all) h = absurd (cc h)

-- ---- the parts together

three : (a b c : Bool) → (a && b && c) ≡ true → (a ≡ true) × (b ≡ true) × (c ≡ true)
three true true true h = (refl, refl, refl)
three true true false h = absurd (cc h)
three true false c h = absurd (cc h)
three false b c h = absurd (cc h)

abbrev pub old_sum : List ℕ → ℕ → Expr
old_sum r n = bin o.Add (head r) (lit k.U n)

abbrev pub old_place : List ℕ → ℕ → Expr
old_place r n = bin o.Rem (old_sum r n) (lit k.U 1)

-- `(cp_i_r + kU)`
sum_is : (r : List ℕ) (e : Expr) → is_sum r e ≡ true → (n : ℕ) × (e ≡ old_sum r n)
sum_is r (lit s n) h = absurd (cc h)
sum_is r yes h = absurd (cc h)
sum_is r no h = absurd (cc h)
sum_is r (copy x) h = absurd (cc h)
sum_is r (head x) h = absurd (cc h)
sum_is r (cell x) h = absurd (cc h)
sum_is r (ring_at x a) h = absurd (cc h)
sum_is r (un op a) h = absurd (cc h)
sum_is r (bin op a b) h =
    let t = three (is_plus op) (is_head r a) (is_unsigned b) h in
    let p = plus_is op t.0 in
    let q = head_is r a t.1 in
    let m = unsigned_is b t.2 in
    let same = m.1 in
    (m.0, cc (p, q, same))
sum_is r (choose c a b) h = absurd (cc h)
sum_is r (cast ty a) h = absurd (cc h)
sum_is r (field a x) h = absurd (cc h)
sum_is r (pick x n a i) h = absurd (cc h)
sum_is r (arr x n all) h = absurd (cc h)
sum_is r (rec x all) h = absurd (cc h)

-- `((cp_i_r + kU) % 1U)`
pub place_is : (r : List ℕ) (e : Expr) → is_old_place r e ≡ true → (n : ℕ) × (e ≡ old_place r n)
place_is r (lit s n) h = absurd (cc h)
place_is r yes h = absurd (cc h)
place_is r no h = absurd (cc h)
place_is r (copy x) h = absurd (cc h)
place_is r (head x) h = absurd (cc h)
place_is r (cell x) h = absurd (cc h)
place_is r (ring_at x a) h = absurd (cc h)
place_is r (un op a) h = absurd (cc h)
place_is r (bin op a b) h =
    let t = three (is_remainder op) (is_sum r a) (is_one b) h in
    let p = remainder_is op t.0 in
    let m = sum_is r a t.1 in
    let q = one_is b t.2 in
    let same = m.1 in
    (m.0, cc (p, q, same))
place_is r (choose c a b) h = absurd (cc h)
place_is r (cast ty a) h = absurd (cc h)
place_is r (field a x) h = absurd (cc h)
place_is r (pick x n a i) h = absurd (cc h)
place_is r (arr x n all) h = absurd (cc h)
place_is r (rec x all) h = absurd (cc h)
