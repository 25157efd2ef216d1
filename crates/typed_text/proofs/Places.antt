-- The declarations of a text without a fault: what is known of each behind those before it.
use Rattle.std.proofs.Common.{◌≡◌, ℕ, zero, suc, ◌+◌, ◌<◌, Bool, true, false, List, [], ◌∷◌, ◌++◌, map, length, refl, sym, ap, ◌∙◌, subst, arith, length-append}
use Rattle.std.specs.Prelude.{◌&&◌, ◌||◌, if◌then◌else◌, is_some, slice_get, bytes_eq, Option, Some, None, IsTrue}
use Rattle.std.specs.List.{list_any, AllByRecursion}
use Rattle.std.proofs.lemmas.Bool.{and_parts}
use Rattle.spec_text.specs.declared.surface.Decl.{Decl}
use Rattle.spec_text.specs.declared.surface.Decl.TheVariants as d
use Rattle.spec_text.specs.declared.surface.Surface.{Surface}
use Rattle.spec_text.specs.KeepsTable.{all_kept, keeps_decl, keeps_table, KeepsTable}
use Rattle.sm_io.specs.Words.{is_name}
use Rattle.type_check.specs.declared.fault.TypeFault.{TypeFault}
use Rattle.type_check.specs.NamedType.{NamedType, Declarations, Struct, struct_in}
use Rattle.type_check.specs.Judged.{Judged, or_else}
use Rattle.type_check.specs.Names.{name_fault}
use Rattle.type_check.specs.Untyped.{judge_decl, reversed, all_of, first_untyped, untyped}
use Rattle.type_check.specs.TypeOrder.{Event, met, is_met, closings, events_from, events}
use Rattle.type_check.specs.Standing.{IsDistinct}
use Rattle.type_check.specs.Table.{struct_names}
use Rattle.type_check.proofs.SameNames.{list_same}
use Rattle.type_check.proofs.Distinct.{distinct_structs}
use Rattle.type_check.proofs.Tables.{next_name, grown}
use Rattle.typed_text.proofs.Sound.{AllMet, both_none}
use Rattle.typed_text.proofs.Order.{same_refl, any_front, any_back}

-- each declaration, behind those before it
abbrev pub EachDecl : (Declarations → Decl → Type 0) → Declarations → List Decl → Type 0
EachDecl P before [] = Unit {0}
EachDecl P before (x ∷ xs) = P before x × EachDecl P (x ∷ before) xs

pub each_weaker : (P Q : Declarations → Decl → Type 0) → ((before : Declarations) (x : Decl) → P before x → Q before x) → (before : Declarations) (xs : List Decl) → EachDecl P before xs → EachDecl Q before xs
each_weaker P Q f before [] h = tt
each_weaker P Q f before (x ∷ xs) h = (f before x h.0, each_weaker P Q f (x ∷ before) xs h.1)

pub each_both : (P Q : Declarations → Decl → Type 0) (before : Declarations) (xs : List Decl) → EachDecl P before xs → EachDecl Q before xs → EachDecl (λ b x. P b x × Q b x) before xs
each_both P Q before [] h k = tt
each_both P Q before (x ∷ xs) h k = ((h.0, k.0), each_both P Q (x ∷ before) xs h.1 k.1)

-- ---- no fault

abbrev IsFaultless : Declarations → Declarations → Decl → Type 0
IsFaultless all before x = (judge_decl all before x).fault ≡ None

faultless : (all before : Declarations) (xs : List Decl) → first_untyped all before xs ≡ None → EachDecl (IsFaultless all) before xs
faultless all before [] h = tt
faultless all before (x ∷ xs) h = let p = both_none (judge_decl all before x).fault (first_untyped all (x ∷ before) xs) h in (p.0, faultless all (x ∷ before) xs p.1)

-- ---- what the walk met

abbrev IsMet : List Event → Declarations → Declarations → Decl → Type 0
IsMet es all before x = AllMet es (judge_decl all before x).types

met_more : (v : NamedType) (es : List Event) (ws : List NamedType) → AllMet es ws → AllMet (met v ∷ es) ws
met_more v es [] h = tt
met_more v es (w ∷ ws) h = (any_back (is_met w) (met v ∷ []) es h.0, met_more v es ws h.1)

met_own : (ts : List NamedType) → AllMet (map met ts) ts
met_own [] = tt
met_own (v ∷ vs) = (ap (λ b. b || list_any (is_met v) (map met vs)) (same_refl v), met_more v (map met vs) vs (met_own vs))

met_front : (xs ys : List Event) (ts : List NamedType) → AllMet xs ts → AllMet (xs ++ ys) ts
met_front xs ys [] h = tt
met_front xs ys (u ∷ ts) h = (any_front (is_met u) xs ys h.0, met_front xs ys ts h.1)

met_back : (xs ys : List Event) (ts : List NamedType) → AllMet ys ts → AllMet (xs ++ ys) ts
met_back xs ys [] h = tt
met_back xs ys (u ∷ ts) h = (any_back (is_met u) xs ys h.0, met_back xs ys ts h.1)

all_met : (all before : Declarations) (xs : List Decl) → EachDecl (IsMet (events_from all before xs) all) before xs
all_met all before [] = tt
all_met all before (x ∷ xs) =
    let own = map met (judge_decl all before x).types in
    let rest = events_from all (x ∷ before) xs in (
      met_front (own ++ closings x) rest (judge_decl all before x).types (met_front own (closings x) (judge_decl all before x).types (met_own (judge_decl all before x).types)),
      each_weaker (IsMet rest all) (IsMet (own ++ closings x ++ rest) all) (λ b y h. met_back (own ++ closings x) rest (judge_decl all b y).types h) (x ∷ before) xs (all_met all (x ∷ before) xs),
    )

-- ---- what it keeps

abbrev IsKept : ℕ → Declarations → Decl → Type 0
IsKept version before x = keeps_decl version x ≡ true

all_keep : (version : ℕ) (before : Declarations) (xs : List Decl) → all_kept (map (keeps_decl version) xs) ≡ true → EachDecl (IsKept version) before xs
all_keep version before [] h = tt
all_keep version before (x ∷ xs) h = let p = and_parts (keeps_decl version x) (all_kept (map (keeps_decl version) xs)) h in (p.0, all_keep version (x ∷ before) xs p.1)

-- ---- the structs before it are the same in the whole text

abbrev pub AreSame : Declarations → Declarations → Type 0
AreSame before all = (x : List ℕ) (st : Struct) → struct_in before x ≡ Some st → struct_in all x ≡ Some st

-- the name of a struct that was declared is at a place of its own
abbrev HavePlaces : List (List ℕ) → Declarations → Type 0
HavePlaces names ds = (x : List ℕ) (st : Struct) → struct_in ds x ≡ Some st → (j : ℕ) × (j < length (struct_names ds)) × (slice_get names j ≡ Some x)

places_more : (names : List (List ℕ)) (ds : Declarations) (y : Decl) (xs : List Decl) → names ≡ struct_names (reversed ds (y ∷ xs)) → HavePlaces names ds → HavePlaces names (y ∷ ds)
places_more names ds (d.Struct at y fields) xs n h x st e = by (bytes_eq y.name x) refl
  where
    longer : length (struct_names ds) + 1 ≡ length (struct_names ds ++ y.name ∷ [])
    longer = sym (length-append (struct_names ds) (y.name ∷ []))

    by : (b : Bool) → bytes_eq y.name x ≡ b → (j : ℕ) × (j < length (struct_names ds ++ y.name ∷ [])) × (slice_get names j ≡ Some x)
    by true q = (length (struct_names ds), omega (arith, longer), ap (λ ns. slice_get ns (length (struct_names ds))) n ∙ next_name ds at y fields xs ∙ ap Some (list_same y.name x q))
    by false q =
        let r = h x st (sym (ap (λ b. if b then Some (record { fields = fields; before = ds }) else struct_in ds x) q) ∙ e) in
        let low = r.1 in
        (r.0, omega (arith, longer, low), r.2)
places_more names ds (d.Extern at y ty) xs n h x st e = h x st e
places_more names ds (d.Stream at y ty init v) xs n h x st e = h x st e
places_more names ds (d.Def at y ty v) xs n h x st e = h x st e
places_more names ds (d.Trigger at y guard args) xs n h x st e = h x st e
places_more names ds (d.Observer at y v) xs n h x st e = h x st e

same_from : (names : List (List ℕ)) → IsDistinct names → (ds : Declarations) (xs : List Decl) → names ≡ struct_names (reversed ds xs) → HavePlaces names ds → EachDecl (λ before x. AreSame before (reversed ds xs)) ds xs
same_from names k ds [] n h = tt
same_from names k ds (y ∷ xs) n h =
    ((λ x st e. let p = h x st e in (grown names k ds (y ∷ xs) n p.0 x p.2 p.1).struct_is ∙ e), same_from names k (y ∷ ds) xs n (places_more names ds y xs n h))

-- ---- all of it

-- a declaration of this text, behind those before it
pub record IsDecl (s : Surface) (before : Declarations) (x : Decl) : Type 0 where
  pub faultless : (judge_decl (all_of s) before x).fault ≡ None
  pub met : AllMet (events s) (judge_decl (all_of s) before x).types
  pub kept : keeps_decl s.version x ≡ true
  pub same : AreSame before (all_of s)

pub kept_decls : (s : Surface) → KeepsTable s → all_kept (map (keeps_decl s.version) s.decls) ≡ true
unfolding keeps_table
kept_decls s k = (and_parts _ (all_kept (map (keeps_decl s.version) s.decls)) k).1

untyped_decls : (s : Surface) → untyped s ≡ None → first_untyped (all_of s) [] s.decls ≡ None
unfolding untyped
untyped_decls s h = h

pub each_decl : (s : Surface) → KeepsTable s → name_fault s ≡ None → untyped s ≡ None → EachDecl (IsDecl s) [] s.decls
each_decl s k n u =
    let a = faultless (all_of s) [] s.decls (untyped_decls s u) in
    let b = all_met (all_of s) [] s.decls in
    let c = all_keep s.version [] s.decls (kept_decls s k) in
    let e = same_from (struct_names (all_of s)) (distinct_structs s n) [] s.decls refl (λ x st h. absurd (cc)) in
    let ab = each_both (IsFaultless (all_of s)) (IsMet (events s) (all_of s)) [] s.decls a b in
    let ce = each_both (IsKept s.version) (λ before x. AreSame before (all_of s)) [] s.decls c e in
    let all = each_both (λ before x. IsFaultless (all_of s) before x × IsMet (events s) (all_of s) before x) (λ before x. IsKept s.version before x × AreSame before (all_of s)) [] s.decls ab ce in
    each_weaker (λ before x. (IsFaultless (all_of s) before x × IsMet (events s) (all_of s) before x) × (IsKept s.version before x × AreSame before (all_of s))) (IsDecl s)
    (λ before x h. record { faultless = h.0.0; met = h.0.1; kept = h.1.0; same = h.1.1 }) [] s.decls all
