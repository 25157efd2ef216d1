-- From the old layout, in which a ring of one value has an index, to the new one, in which it has none.
use Rattle.std.specs.Prelude.{◌≡◌, ℕ, Bool, true, false, not, ◌&&◌, nat_eq, if◌then◌else◌, List, map, Option, Some, None, Result, Ok, Err}
use Rattle.std.specs.List.{filter_map, list_all, position_from, sum_by}
use Rattle.std.specs.Option.{option_map, option_map_or}
use Rattle.c99_tree.specs.declared.expr.CLit.{CLit}
use Rattle.c99_tree.specs.declared.expr.CLit.TheVariants as k
use Rattle.c99_tree.specs.declared.expr.CBin.{CBin}
use Rattle.c99_tree.specs.declared.expr.CBin.TheVariants as o
use Rattle.c99_tree.specs.declared.unit.CRing.{CRing}
use Rattle.c99_tree.specs.declared.unit.CStmt.{CStmt}
use Rattle.c99_tree.specs.declared.unit.Unit.{Unit as CUnit}
use Rattle.c99_tree.specs.Tree.{Expr, Exprs, lit, yes, no, copy, head, cell, ring_at, un, bin, choose, cast, field, pick, arr, rec, none, more, Stmt, copies, calls, nexts, stores, moves, puts, statement, statements}
use Rattle.c99_tree.specs.Words.{is_same}
use Rattle.c99_tree.specs.Lookup.{ring_of}
use Rattle.c99_tree.specs.Storage.{storage_of, index_size}
use Rattle.c99_tree.specs.Weight.{unit_weight_of}
use Rattle.c99_tree.specs.Run.{run}
use Rattle.migration.specs.declared.fault.MigrateFault.{MigrateFault}
use Rattle.migration.specs.declared.fault.MigrateFault.TheVariants.{OldUse, Memory}

-- ---- which rings are changed

-- a ring of one value with an index
abbrev pub is_old : CRing → Bool
is_old r = r.indexed && nat_eq r.len 1

-- the ring of this name is one
abbrev pub names_old : CUnit → List ℕ → Bool
names_old u r = option_map_or is_old (ring_of u r) false

-- ---- how such a ring is used as of old

abbrev pub has_suffix_u : CLit → Bool
has_suffix_u k.I = false
has_suffix_u k.U = true
has_suffix_u k.LL = false
has_suffix_u k.ULL = false

abbrev pub is_plus : CBin → Bool
is_plus o.Add = true
is_plus _ = false

abbrev pub is_remainder : CBin → Bool
is_remainder o.Rem = true
is_remainder _ = false

-- `cp_i_r`
abbrev pub is_head : List ℕ → Expr → Bool
is_head r (head x) = is_same r x
is_head r _ = false

-- `kU`, of any k
abbrev pub is_unsigned : Expr → Bool
is_unsigned (lit k n) = has_suffix_u k
is_unsigned _ = false

-- `1U`
abbrev pub is_one : Expr → Bool
is_one (lit k n) = has_suffix_u k && nat_eq n 1
is_one _ = false

-- `(cp_i_r + kU)`
abbrev pub is_sum : List ℕ → Expr → Bool
is_sum r (bin op a b) = is_plus op && is_head r a && is_unsigned b
is_sum r _ = false

-- `((cp_i_r + kU) % 1U)`
abbrev pub is_old_place : List ℕ → Expr → Bool
is_old_place r (bin op a b) = is_remainder op && is_sum r a && is_one b
is_old_place r _ = false

abbrev mutual
  -- the ring is read in this expression by `cp_b_r[((cp_i_r + kU) % 1U)]` alone
  pub reads_as_of_old : List ℕ → Expr → Bool
  reads_as_of_old r (lit k n) = true
  reads_as_of_old r yes = true
  reads_as_of_old r no = true
  reads_as_of_old r (copy x) = true
  reads_as_of_old r (head x) = not (is_same r x)
  reads_as_of_old r (cell x) = true
  reads_as_of_old r (ring_at x a) = if is_same r x then is_old_place r a else reads_as_of_old r a
  reads_as_of_old r (un op a) = reads_as_of_old r a
  reads_as_of_old r (bin op a b) = reads_as_of_old r a && reads_as_of_old r b
  reads_as_of_old r (choose c a b) = reads_as_of_old r c && (reads_as_of_old r a && reads_as_of_old r b)
  reads_as_of_old r (cast ty a) = reads_as_of_old r a
  reads_as_of_old r (field a x) = reads_as_of_old r a
  reads_as_of_old r (pick x n a i) = reads_as_of_old r a && reads_as_of_old r i
  reads_as_of_old r (arr x n all) = all_read_as_of_old r all
  reads_as_of_old r (rec x all) = all_read_as_of_old r all

  pub all_read_as_of_old : List ℕ → Exprs → Bool
  all_read_as_of_old r none = true
  all_read_as_of_old r (more e es) = reads_as_of_old r e && all_read_as_of_old r es

-- beside such reads, the ring is stored at `cp_i_r` alone, and its index becomes `((cp_i_r + kU) % 1U)` alone
abbrev pub uses_as_of_old : List ℕ → Stmt → Bool
uses_as_of_old r (copies x) = true
uses_as_of_old r (calls h guard args) = reads_as_of_old r guard && all_read_as_of_old r args
uses_as_of_old r (nexts x e) = reads_as_of_old r e
uses_as_of_old r (stores x e) = if is_same r x then is_head r e else reads_as_of_old r e
uses_as_of_old r (moves x e) = if is_same r x then is_old_place r e else reads_as_of_old r e
uses_as_of_old r (puts x) = true

abbrev pub is_misused : CUnit → CRing → Bool
is_misused u r = is_old r && not (list_all (uses_as_of_old r.name) (statements u))

-- the number, from 1, of the first ring of one value with an index that is used otherwise
abbrev pub misused : CUnit → Option ℕ
misused u = position_from (is_misused u) 1 u.rings

-- ---- the new program

abbrev mutual
  -- each read of such a ring is its cell
  pub renewed : CUnit → Expr → Expr
  renewed u (lit k n) = lit k n
  renewed u yes = yes
  renewed u no = no
  renewed u (copy x) = copy x
  renewed u (head r) = head r
  renewed u (cell r) = cell r
  renewed u (ring_at r a) = if names_old u r then cell r else ring_at r (renewed u a)
  renewed u (un op a) = un op (renewed u a)
  renewed u (bin op a b) = bin op (renewed u a) (renewed u b)
  renewed u (choose c a b) = choose (renewed u c) (renewed u a) (renewed u b)
  renewed u (cast ty a) = cast ty (renewed u a)
  renewed u (field a x) = field (renewed u a) x
  renewed u (pick x n a i) = pick x n (renewed u a) (renewed u i)
  renewed u (arr x n all) = arr x n (renewed_all u all)
  renewed u (rec x all) = rec x (renewed_all u all)

  pub renewed_all : CUnit → Exprs → Exprs
  renewed_all u none = none
  renewed_all u (more e es) = more (renewed u e) (renewed_all u es)

-- each Store of such a ring is a Put, and each Move goes
abbrev pub renewed_statement : CUnit → Stmt → Option Stmt
renewed_statement u (copies x) = Some (copies x)
renewed_statement u (calls h guard args) = Some (calls h (renewed u guard) (renewed_all u args))
renewed_statement u (nexts r e) = Some (nexts r (renewed u e))
renewed_statement u (stores r e) = if names_old u r then Some (puts r) else Some (stores r (renewed u e))
renewed_statement u (moves r e) = if names_old u r then None else Some (moves r (renewed u e))
renewed_statement u (puts r) = Some (puts r)

-- the tree of a statement, where there is one
abbrev pub tree_of : Option CStmt → Option Stmt
tree_of = option_map statement

-- each such ring loses its index
abbrev pub renewed_ring : CRing → CRing
renewed_ring r = if is_old r then record r { indexed = false } else r

-- the old program without the index of its rings of one value, under this name
pub record IsRenewed (u : CUnit) (name : List ℕ) (v : CUnit) : Type 0 where
  pub named : v.name ≡ name
  pub types : v.types ≡ u.types
  pub externs : v.externs ≡ u.externs
  pub handlers : v.handlers ≡ u.handlers
  pub rings : v.rings ≡ map renewed_ring u.rings
  pub step : statements v ≡ filter_map (renewed_statement u) (statements u)

-- with totals of its own in its header
abbrev pub with_totals : CUnit → CUnit
with_totals v = record v { storage = storage_of v; need = unit_weight_of v }

pub record IsMigrated (u : CUnit) (name : List ℕ) (v : CUnit) : Type 0 where
  pub renewed : IsRenewed u name v
  pub storage : v.storage ≡ storage_of v
  pub need : v.need ≡ unit_weight_of v

-- ---- what is said of it

-- over the first n of any rows both make the same calls, or meet the same that is undefined at the same step
abbrev pub RunAlike : CUnit → CUnit → Type 0
RunAlike u v = (rows : List (List ℕ)) (n : ℕ) → run v rows n ≡ run u rows n

-- the bytes of an index of each ring of one value that has one
abbrev pub old_indices : CUnit → ℕ
old_indices u = sum_by (λ r. if is_old r then index_size else 0) u.rings

-- a ring used otherwise is told exactly where there is one, by the number of the first
abbrev pub Tells : Option ℕ → Result CUnit MigrateFault → Type 0
Tells first (Ok v) = first ≡ None
Tells first (Err (OldUse i)) = first ≡ Some i
Tells first (Err Memory) = first ≡ None
