-- A well formed program has a spelling.
use Rattle.std.proofs.Common.{◌≡◌, ℕ, List, [], ◌∷◌, ◌++◌, Bool, true, false, ◌&&◌, ◌||◌, Option, Some, None, refl, sym, ap, ◌∙◌, arith}
use Rattle.std.specs.Prelude.{is_some, nat_eq, nat_le}
use Rattle.std.specs.Option.{option_map_or}
use Rattle.std.specs.List.{flat_map, filter_map, list_all, list_any}
use Rattle.std.proofs.lemmas.Bool.{and_parts, and_from}
use Rattle.std.proofs.lemmas.Bool.Decides.{nat_tests}
use Rattle.std.proofs.lemmas.List.Folds.{list_all-append}
use Rattle.sm_io.specs.Words.{is_name}
use Rattle.c99_tree.specs.declared.types.CTy.{CTy}
use Rattle.c99_tree.specs.declared.types.CTy.TheVariants as ty
use Rattle.c99_tree.specs.declared.types.CVar.{CVar}
use Rattle.c99_tree.specs.declared.types.CDef.{CDef}
use Rattle.c99_tree.specs.declared.types.CDef.TheVariants as def
use Rattle.c99_tree.specs.declared.types.CProto.{CProto}
use Rattle.c99_tree.specs.declared.unit.CRing.{CRing}
use Rattle.c99_tree.specs.declared.unit.Unit.{Unit as CUnit}
use Rattle.c99_tree.specs.Tree.{Expr, Exprs, lit, yes, no, copy, head, cell, ring_at, un, bin, choose, cast, field, pick, arr, rec, none, more, Stmt, copies, calls, nexts, stores, moves, puts, statements}
use Rattle.c99_tree.specs.Words.{is_same, is_ring_name, is_element}
use Rattle.c99_tree.specs.Lookup.{arrays_in, is_array, is_defined, ring_of}
use Rattle.c99_tree.specs.Values.{Value, first_values}
use Rattle.c99_tree.specs.Storage.{storage_of}
use Rattle.c99_tree.specs.Weight.{unit_weight_of}
use Rattle.c99_tree.specs.Spelling.{most, height, most_height, constant_height, is_u32, is_spelled, are_spelled, is_spelled_type, is_spelled_var, is_spelled_def, is_spelled_handler, is_spelled_ring, is_spelled_here, are_spelled_here, is_spelled_statement, header_text, source_text, HasSpelling, Spells}
use Rattle.c99_tree.specs.WellFormed.{parts_of, parts_of_all, list_of, expressions_in, parts_in, each_part, each_after, has_names_type, has_names_var, has_names_def, has_names_handler, has_names_ring, has_names_part, has_names_statement, is_there, is_statement_there, is_in_range, is_built_from, has_array_length, has_low_constants, names_are_names, types_are_built_in_order, types_come_first, rings_are_used_their_way, totals_are_right, are_distinct, is_written_after_next, next_of, reads_its_way, writes_its_way, each_statement, IsWellFormed}
use Rattle.c99_tree.proofs.Soundness.{all-join}
use Rattle.sm_io.proofs.Truths.{either_says, all-flat_map}

-- ---- tests

all-both : {X : Type 0} (p q : X → Bool) (xs : List X) → list_all p xs ≡ true → list_all q xs ≡ true → list_all (λ x. p x && q x) xs ≡ true
all-both p q xs h g = all-join p q (λ x. p x && q x) (λ x a b. and_from (p x) (q x) a b) xs h g

small : (n m : ℕ) → nat_le n m ≡ true → nat_le m 4294967295 ≡ true → nat_le n 4294967295 ≡ true
small n m h g = grind (arith, nat_tests)

equal_small : (n m : ℕ) → nat_eq n m ≡ true → nat_le m 1024 ≡ true → nat_le n 4294967295 ≡ true
equal_small n m h g = grind (arith, nat_tests)

-- ---- types

-- an array type of 1 to 1,024 elements
has_short : CDef → Bool
has_short (def.Struct x fields) = true
has_short (def.Array x n) = has_array_length (x, n)

arrays-short : (ds : List CDef) → list_all has_array_length (arrays_in ds) ≡ list_all has_short ds
unfolding has_short
arrays-short [] = refl
arrays-short (def.Struct x fields ∷ ds) = arrays-short ds
arrays-short (def.Array x n ∷ ds) = ap (λ (b : Bool). has_array_length (x, n) && b) (arrays-short ds)

array-short : (x : List ℕ) (n : ℕ) (a : List ℕ × ℕ) → has_array_length a ≡ true → is_array x n a ≡ true → is_u32 n ≡ true
array-short x n a h g = equal_small n a.1 (and_parts (is_same x a.0) (nat_eq n a.1) g).1 (and_parts (nat_le 1 a.1) (nat_le a.1 1024) h).1

any-short : (x : List ℕ) (n : ℕ) (as' : List (List ℕ × ℕ)) → list_all has_array_length as' ≡ true → list_any (is_array x n) as' ≡ true → is_u32 n ≡ true
any-short x n [] h g = absurd (cc g)
any-short x n (a ∷ all) h g =
    let p = and_parts (has_array_length a) (list_all has_array_length all) h in
    either_says (is_array x n a) (list_any (is_array x n) all) (λ s. array-short x n a p.0 s) (λ s. any-short x n all p.1 s) g

type-spelled : (ds : List CDef) → list_all has_short ds ≡ true → (t : CTy) → has_names_type t ≡ true → is_defined ds t ≡ true → is_spelled_type t ≡ true
type-spelled ds s (ty.Scalar t) h g = refl
type-spelled ds s (ty.Struct x) h g = h
type-spelled ds s (ty.Array x n) h g = and_from (is_element x) (is_u32 n) h (any-short x n (arrays_in ds) (arrays-short ds ∙ s) g)

var-spelled : (ds : List CDef) → list_all has_short ds ≡ true → (x : CVar) → has_names_var x ≡ true → is_defined ds x.ty ≡ true → is_spelled_var x ≡ true
var-spelled ds s x h g =
    let p = and_parts (is_name x.name) (has_names_type x.ty) h in
    and_from (is_name x.name) (is_spelled_type x.ty) p.0 (type-spelled ds s x.ty p.1 g)

vars-spelled : (ds : List CDef) → list_all has_short ds ≡ true → (xs : List CVar) → list_all has_names_var xs ≡ true → list_all (λ x. is_defined ds x.ty) xs ≡ true → list_all is_spelled_var xs ≡ true
vars-spelled ds s xs h g = all-join has_names_var (λ (x : CVar). is_defined ds x.ty) is_spelled_var (var-spelled ds s) xs h g

def-spelled : (ds : List CDef) → list_all has_short ds ≡ true → (d : CDef) → has_short d ≡ true → has_names_def d ≡ true → is_built_from ds d ≡ true → is_spelled_def d ≡ true
unfolding has_short
def-spelled ds s (def.Struct x fields) k h g =
    let p = and_parts (is_name x) (list_all has_names_var fields) h in
    and_from (is_name x) (list_all is_spelled_var fields) p.0 (vars-spelled ds s fields p.1 g)
def-spelled ds s (def.Array x n) k h g = and_from (is_element x) (is_u32 n) h (small n 1024 (and_parts (nat_le 1 n) (nat_le n 1024) k).1 refl)

defs-spelled : (before ds : List CDef) → list_all has_short before ≡ true → list_all has_short ds ≡ true → list_all has_names_def ds ≡ true → each_after is_built_from before ds ≡ true → list_all is_spelled_def ds ≡ true
defs-spelled before [] b s h g = refl
defs-spelled before (d ∷ ds) b s h g =
    let sp = and_parts (has_short d) (list_all has_short ds) s in
    let hp = and_parts (has_names_def d) (list_all has_names_def ds) h in
    let gp = and_parts (is_built_from before d) (each_after is_built_from (before ++ d ∷ []) ds) g in
    let more_short : list_all has_short (before ++ d ∷ []) ≡ true =
    list_all-append has_short before (d ∷ []) ∙ and_from (list_all has_short before) (has_short d && true) b (and_from (has_short d) true sp.0 refl) in
    and_from (is_spelled_def d) (list_all is_spelled_def ds) (def-spelled before b d sp.0 hp.0 gp.0) (defs-spelled (before ++ d ∷ []) ds more_short sp.1 hp.1 gp.1)

handler-spelled : (ds : List CDef) → list_all has_short ds ≡ true → (h : CProto) → has_names_handler h ≡ true → list_all (is_defined ds) h.params ≡ true → is_spelled_handler h ≡ true
handler-spelled ds s h n g =
    let p = and_parts (is_name h.name) (list_all has_names_type h.params) n in
    and_from (is_name h.name) (list_all is_spelled_type h.params) p.0 (all-join has_names_type (is_defined ds) is_spelled_type (type-spelled ds s) h.params p.1 g)

-- ---- rings

low-constants : (o : Option (List Value)) (p : List Value → Bool) → is_some o ≡ true → option_map_or p o true ≡ true → option_map_or p o false ≡ true
low-constants None p h g = absurd (cc h)
low-constants (Some vs) p h g = g

record RingRules (ds : List CDef) (r : CRing) : Type 0 where
  named : has_names_ring r ≡ true
  defined : is_defined ds r.ty ≡ true
  long : (nat_le 1 r.len && nat_le r.len 65536) ≡ true
  single : (r.indexed || nat_eq r.len 1) ≡ true
  filled_is : is_some (first_values ds r) ≡ true
  low : has_low_constants ds r ≡ true

ring-spelled : (ds : List CDef) → list_all has_short ds ≡ true → (r : CRing) → RingRules ds r → is_spelled_ring ds r ≡ true
ring-spelled ds s r k =
    let p = and_parts (is_ring_name r.name) (has_names_type r.ty) k.named in
    let short = small r.len 65536 (and_parts (nat_le 1 r.len) (nat_le r.len 65536) k.long).1 refl in
    let low = low-constants (first_values ds r) (list_all (λ v. nat_le (constant_height v) most_height)) k.filled_is k.low in
    and_from (is_ring_name r.name && is_spelled_type r.ty && is_u32 r.len && (r.indexed || nat_eq r.len 1)) (option_map_or (list_all (λ v. nat_le (constant_height v) most_height)) (first_values ds r) false)
    (and_from (is_ring_name r.name && is_spelled_type r.ty && is_u32 r.len) (r.indexed || nat_eq r.len 1)
    (and_from (is_ring_name r.name && is_spelled_type r.ty) (is_u32 r.len) (and_from (is_ring_name r.name) (is_spelled_type r.ty) p.0 (type-spelled ds s r.ty p.1 k.defined)) short) k.single) low

rings-spelled : (ds : List CDef) → list_all has_short ds ≡ true → (rs : List CRing) → list_all has_names_ring rs ≡ true → list_all (λ r. is_defined ds r.ty) rs ≡ true → list_all (λ r. nat_le 1 r.len && nat_le r.len 65536) rs ≡ true
    → list_all (λ r. r.indexed || nat_eq r.len 1) rs ≡ true → list_all (λ r. is_some (first_values ds r)) rs ≡ true → list_all (has_low_constants ds) rs ≡ true → list_all (is_spelled_ring ds) rs ≡ true
rings-spelled ds s [] a b c d e f = refl
rings-spelled ds s (r ∷ rs) a b c d e f =
    let ap' = and_parts (has_names_ring r) (list_all has_names_ring rs) a in
    let bp = and_parts (is_defined ds r.ty) (list_all (λ x. is_defined ds x.ty) rs) b in
    let cp = and_parts (nat_le 1 r.len && nat_le r.len 65536) (list_all (λ x. nat_le 1 x.len && nat_le x.len 65536) rs) c in
    let dp = and_parts (r.indexed || nat_eq r.len 1) (list_all (λ x. x.indexed || nat_eq x.len 1) rs) d in
    let ep = and_parts (is_some (first_values ds r)) (list_all (λ x. is_some (first_values ds x)) rs) e in
    let fp = and_parts (has_low_constants ds r) (list_all (has_low_constants ds) rs) f in
    and_from (is_spelled_ring ds r) (list_all (is_spelled_ring ds) rs)
    (ring-spelled ds s r (record { named = ap'.0; defined = bp.0; long = cp.0; single = dp.0; filled_is = ep.0; low = fp.0 }))
    (rings-spelled ds s rs ap'.1 bp.1 cp.1 dp.1 ep.1 fp.1)

-- ---- expressions

-- what the spelling asks of a part by itself
abbrev is_spelled_part : Expr → Bool
is_spelled_part (lit k n) = nat_le n (most k)
is_spelled_part yes = true
is_spelled_part no = true
is_spelled_part (copy x) = is_name x
is_spelled_part (head r) = is_ring_name r
is_spelled_part (cell r) = is_ring_name r
is_spelled_part (ring_at r a) = is_ring_name r
is_spelled_part (un op a) = true
is_spelled_part (bin op a b) = true
is_spelled_part (choose c a b) = true
is_spelled_part (cast ty a) = true
is_spelled_part (field a x) = is_name x
is_spelled_part (pick x n a i) = is_element x && is_u32 n
is_spelled_part (arr x n all) = is_element x && is_u32 n
is_spelled_part (rec x all) = is_name x

part-spelled : (u : CUnit) → list_all has_short u.types ≡ true → (e : Expr) → (has_names_part e && is_in_range e) ≡ true → is_there u e ≡ true → is_spelled_part e ≡ true
part-spelled u s (lit k n) h g = h
part-spelled u s yes h g = refl
part-spelled u s no h g = refl
part-spelled u s (copy x) h g = (and_parts (is_name x) true h).0
part-spelled u s (head r) h g = (and_parts (is_ring_name r) true h).0
part-spelled u s (cell r) h g = (and_parts (is_ring_name r) true h).0
part-spelled u s (ring_at r a) h g = (and_parts (is_ring_name r) true h).0
part-spelled u s (un op a) h g = refl
part-spelled u s (bin op a b) h g = refl
part-spelled u s (choose c a b) h g = refl
part-spelled u s (cast t a) h g = refl
part-spelled u s (field a x) h g = (and_parts (is_name x) true h).0
part-spelled u s (pick x n a i) h g = and_from (is_element x) (is_u32 n) (and_parts (is_element x) true h).0 (any-short x n (arrays_in u.types) (arrays-short u.types ∙ s) g)
part-spelled u s (arr x n all) h g = and_from (is_element x) (is_u32 n) (and_parts (is_element x) true h).0 (any-short x n (arrays_in u.types) (arrays-short u.types ∙ s) g)
part-spelled u s (rec x all) h g = (and_parts (is_name x) true h).0

abbrev each : Expr → Bool
each e = list_all is_spelled_part (parts_of e)

two : (a b : Expr) → list_all is_spelled_part (parts_of a ++ parts_of b) ≡ true → (each a ≡ true) × (each b ≡ true)
two a b h = and_parts (each a) (each b) (sym (list_all-append is_spelled_part (parts_of a) (parts_of b)) ∙ h)

mutual
  spelled-parts : (e : Expr) → each e ≡ true → is_spelled e ≡ true
  spelled-parts (lit k n) h = (and_parts (nat_le n (most k)) true h).0
  spelled-parts yes h = refl
  spelled-parts no h = refl
  spelled-parts (copy x) h = (and_parts (is_name x) true h).0
  spelled-parts (head r) h = (and_parts (is_ring_name r) true h).0
  spelled-parts (cell r) h = (and_parts (is_ring_name r) true h).0
  spelled-parts (ring_at r a) h =
      let p = and_parts (is_ring_name r) (each a) h in
      and_from (is_ring_name r) (is_spelled a) p.0 (spelled-parts a p.1)
  spelled-parts (un op a) h = spelled-parts a h
  spelled-parts (bin op a b) h =
      let p = two a b h in
      and_from (is_spelled a) (is_spelled b) (spelled-parts a p.0) (spelled-parts b p.1)
  spelled-parts (choose c a b) h =
      let p = and_parts (each c) (list_all is_spelled_part (parts_of a ++ parts_of b)) (sym (list_all-append is_spelled_part (parts_of c) (parts_of a ++ parts_of b)) ∙ h) in
      let q = two a b p.1 in
      and_from (is_spelled c && is_spelled a) (is_spelled b) (and_from (is_spelled c) (is_spelled a) (spelled-parts c p.0) (spelled-parts a q.0)) (spelled-parts b q.1)
  spelled-parts (cast t a) h = spelled-parts a h
  spelled-parts (field a x) h =
      let p = and_parts (is_name x) (each a) h in
      and_from (is_spelled a) (is_name x) (spelled-parts a p.1) p.0
  spelled-parts (pick x n a i) h =
      let p = and_parts (is_element x && is_u32 n) (list_all is_spelled_part (parts_of a ++ parts_of i)) h in
      let q = two a i p.1 in
      and_from (is_element x && is_u32 n && is_spelled a) (is_spelled i) (and_from (is_element x && is_u32 n) (is_spelled a) p.0 (spelled-parts a q.0)) (spelled-parts i q.1)
  spelled-parts (arr x n all) h =
      let p = and_parts (is_element x && is_u32 n) (list_all is_spelled_part (parts_of_all all)) h in
      and_from (is_element x && is_u32 n) (are_spelled all) p.0 (spelled-all all p.1)
  spelled-parts (rec x all) h =
      let p = and_parts (is_name x) (list_all is_spelled_part (parts_of_all all)) h in
      and_from (is_name x) (are_spelled all) p.0 (spelled-all all p.1)

  spelled-all : (es : Exprs) → list_all is_spelled_part (parts_of_all es) ≡ true → are_spelled es ≡ true
  spelled-all none h = refl
  spelled-all (more e es) h =
      let p = and_parts (each e) (list_all is_spelled_part (parts_of_all es)) (sym (list_all-append is_spelled_part (parts_of e) (parts_of_all es)) ∙ h) in
      and_from (is_spelled e) (are_spelled es) (spelled-parts e p.0) (spelled-all es p.1)

-- ---- statements

here : (e : Expr) → each e ≡ true → nat_le (height e) most_height ≡ true → is_spelled_here e ≡ true
here e h g = and_from (is_spelled e) (nat_le (height e) most_height) (spelled-parts e h) g

all_here : (es : Exprs) → list_all is_spelled_here (list_of es) ≡ true → are_spelled_here es ≡ true
all_here none h = refl
all_here (more e es) h =
    let p = and_parts (is_spelled_here e) (list_all is_spelled_here (list_of es)) h in
    and_from (is_spelled_here e) (are_spelled_here es) p.0 (all_here es p.1)

of_here : (u : CUnit) (s : Stmt) → has_names_statement s ≡ true → is_statement_there u s ≡ true → list_all is_spelled_here (expressions_in s) ≡ true → is_spelled_statement u s ≡ true
of_here u (copies x) h g k = h
of_here u (calls f guard args) h g k =
    let p = and_parts (is_spelled_here guard) (list_all is_spelled_here (list_of args)) k in
    and_from (is_name f && is_spelled_here guard) (are_spelled_here args) (and_from (is_name f) (is_spelled_here guard) h p.0) (all_here args p.1)
of_here u (nexts r e) h g k = and_from (is_ring_name r && is_some (ring_of u r)) (is_spelled_here e) (and_from (is_ring_name r) (is_some (ring_of u r)) h g) (and_parts (is_spelled_here e) true k).0
of_here u (stores r e) h g k = and_from (is_ring_name r) (is_spelled_here e) h (and_parts (is_spelled_here e) true k).0
of_here u (moves r e) h g k = and_from (is_ring_name r) (is_spelled_here e) h (and_parts (is_spelled_here e) true k).0
of_here u (puts r) h g k = h

record StatementRules (u : CUnit) (s : Stmt) : Type 0 where
  named : has_names_statement s ≡ true
  there : is_statement_there u s ≡ true
  low : list_all (λ e. nat_le (height e) most_height) (expressions_in s) ≡ true
  part_names : list_all has_names_part (parts_in s) ≡ true
  ranged : list_all is_in_range (parts_in s) ≡ true
  parts_there : list_all (is_there u) (parts_in s) ≡ true

statement-spelled : (u : CUnit) → list_all has_short u.types ≡ true → (s : Stmt) → StatementRules u s → is_spelled_statement u s ≡ true
statement-spelled u short s k =
    let names = all-both has_names_part is_in_range (parts_in s) k.part_names k.ranged in
    let parts : list_all is_spelled_part (parts_in s) ≡ true =
    all-join (λ e. has_names_part e && is_in_range e) (is_there u) is_spelled_part (part-spelled u short) (parts_in s) names k.parts_there in
    of_here u s k.named k.there (all-join each (λ e. nat_le (height e) most_height) is_spelled_here here (expressions_in s) (sym (all-flat_map is_spelled_part parts_of (expressions_in s)) ∙ parts) k.low)

statements-spelled : (u : CUnit) → list_all has_short u.types ≡ true → (ss : List Stmt) → list_all has_names_statement ss ≡ true → list_all (is_statement_there u) ss ≡ true
    → list_all (λ s. list_all (λ e. nat_le (height e) most_height) (expressions_in s)) ss ≡ true → list_all (λ s. list_all has_names_part (parts_in s)) ss ≡ true
    → list_all (λ s. list_all is_in_range (parts_in s)) ss ≡ true → list_all (λ s. list_all (is_there u) (parts_in s)) ss ≡ true → list_all (is_spelled_statement u) ss ≡ true
statements-spelled u short [] a b c d e f = refl
statements-spelled u short (s ∷ ss) a b c d e f =
    let ap' = and_parts (has_names_statement s) (list_all has_names_statement ss) a in
    let bp = and_parts (is_statement_there u s) (list_all (is_statement_there u) ss) b in
    let cp = and_parts (list_all (λ x. nat_le (height x) most_height) (expressions_in s)) (list_all (λ y. list_all (λ x. nat_le (height x) most_height) (expressions_in y)) ss) c in
    let dp = and_parts (list_all has_names_part (parts_in s)) (list_all (λ y. list_all has_names_part (parts_in y)) ss) d in
    let ep = and_parts (list_all is_in_range (parts_in s)) (list_all (λ y. list_all is_in_range (parts_in y)) ss) e in
    let fp = and_parts (list_all (is_there u) (parts_in s)) (list_all (λ y. list_all (is_there u) (parts_in y)) ss) f in
    and_from (is_spelled_statement u s) (list_all (is_spelled_statement u) ss)
    (statement-spelled u short s (record { named = ap'.0; there = bp.0; low = cp.0; part_names = dp.0; ranged = ep.0; parts_there = fp.0 }))
    (statements-spelled u short ss ap'.1 bp.1 cp.1 dp.1 ep.1 fp.1)

-- ---- programs

record Named (u : CUnit) : Type 0 where
  unit : is_name u.name ≡ true
  types : list_all has_names_def u.types ≡ true
  externs : list_all has_names_var u.externs ≡ true
  handlers : list_all has_names_handler u.handlers ≡ true
  rings : list_all has_names_ring u.rings ≡ true
  step : each_statement has_names_statement u ≡ true
  parts : each_part has_names_part u ≡ true

named : (u : CUnit) → names_are_names u ≡ true → Named u
named u h =
    let a = and_parts (is_name u.name && list_all has_names_def u.types && list_all has_names_var u.externs && list_all has_names_handler u.handlers && list_all has_names_ring u.rings && each_statement has_names_statement u) (each_part has_names_part u) h in
    let b = and_parts (is_name u.name && list_all has_names_def u.types && list_all has_names_var u.externs && list_all has_names_handler u.handlers && list_all has_names_ring u.rings) (each_statement has_names_statement u) a.0 in
    let c = and_parts (is_name u.name && list_all has_names_def u.types && list_all has_names_var u.externs && list_all has_names_handler u.handlers) (list_all has_names_ring u.rings) b.0 in
    let d = and_parts (is_name u.name && list_all has_names_def u.types && list_all has_names_var u.externs) (list_all has_names_handler u.handlers) c.0 in
    let e = and_parts (is_name u.name && list_all has_names_def u.types) (list_all has_names_var u.externs) d.0 in
    let f = and_parts (is_name u.name) (list_all has_names_def u.types) e.0 in
    record { unit = f.0; types = f.1; externs = e.1; handlers = d.1; rings = c.1; step = b.1; parts = a.1 }

record Ordered (u : CUnit) : Type 0 where
  types : types_are_built_in_order u.types ≡ true
  externs : list_all (λ x. is_defined u.types x.ty) u.externs ≡ true
  handlers : list_all (λ h. list_all (is_defined u.types) h.params) u.handlers ≡ true
  rings : list_all (λ r. is_defined u.types r.ty) u.rings ≡ true

ordered : (u : CUnit) → types_come_first u ≡ true → Ordered u
ordered u h =
    let a = and_parts (types_are_built_in_order u.types && list_all (λ x. is_defined u.types x.ty) u.externs && list_all (λ h. list_all (is_defined u.types) h.params) u.handlers) (list_all (λ r. is_defined u.types r.ty) u.rings) h in
    let b = and_parts (types_are_built_in_order u.types && list_all (λ x. is_defined u.types x.ty) u.externs) (list_all (λ h. list_all (is_defined u.types) h.params) u.handlers) a.0 in
    let c = and_parts (types_are_built_in_order u.types) (list_all (λ x. is_defined u.types x.ty) u.externs) b.0 in
    record { types = c.0; externs = c.1; handlers = b.1; rings = a.1 }

single_rings : (u : CUnit) → rings_are_used_their_way u ≡ true → list_all (λ r. r.indexed || nat_eq r.len 1) u.rings ≡ true
single_rings u h =
    let next = are_distinct is_same (filter_map next_of (statements u)) && each_after is_written_after_next [] (statements u) in
    let long = list_all (λ r. r.indexed || nat_eq r.len 1) u.rings in
    let a = and_parts (next && long && each_part (reads_its_way u) u) (each_statement (writes_its_way u) u) h in
    let b = and_parts (next && long) (each_part (reads_its_way u) u) a.0 in
    (and_parts next long b.0).1

totals : (u : CUnit) → totals_are_right u ≡ true → (is_u32 u.storage && is_u32 u.need) ≡ true
totals u h =
    let a = and_parts (nat_eq u.storage (storage_of u) && nat_eq u.need (unit_weight_of u) && nat_le u.storage 2147483647) (nat_le u.need 2147483647) h in
    let b = and_parts (nat_eq u.storage (storage_of u) && nat_eq u.need (unit_weight_of u)) (nat_le u.storage 2147483647) a.0 in
    and_from (is_u32 u.storage) (is_u32 u.need) (small u.storage 2147483647 b.1 refl) (small u.need 2147483647 a.1 refl)

pub has_spelling : (u : CUnit) → IsWellFormed u → HasSpelling u
has_spelling u w =
    let n = named u w.names in
    let o = ordered u w.types_first in
    let l = and_parts (list_all has_array_length (arrays_in u.types)) (list_all (λ r. nat_le 1 r.len && nat_le r.len 65536) u.rings) w.lengths in
    let there = and_parts (each_statement (is_statement_there u) u) (each_part (is_there u) u) w.used_there in
    let low = and_parts (each_statement (λ s. list_all (λ e. nat_le (height e) most_height) (expressions_in s)) u) (list_all (has_low_constants u.types) u.rings) w.heights in
    let short : list_all has_short u.types ≡ true = sym (arrays-short u.types) ∙ l.0 in
    record {
      name = n.unit;
      numbers = totals u w.totals;
      types = defs-spelled [] u.types refl short n.types o.types;
      externs = vars-spelled u.types short u.externs n.externs o.externs;
      handlers = all-join has_names_handler (λ (h : CProto). list_all (is_defined u.types) h.params) is_spelled_handler (handler-spelled u.types short) u.handlers n.handlers o.handlers;
      rings = rings-spelled u.types short u.rings n.rings o.rings l.1 (single_rings u w.rings) w.constants low.1;
      step = statements-spelled u short (statements u) n.step there.0 low.0 n.parts w.literals there.1;
    }

-- these two texts are the spelling of a well formed program
pub spelled : (u : CUnit) → IsWellFormed u → Spells u (header_text u) (source_text u)
spelled u w = record { spelled = has_spelling u w; header_is = refl; source_is = refl }
