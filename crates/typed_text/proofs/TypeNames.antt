-- The structs of a type list and their fields have names.
use Rattle.std.proofs.Common.{◌≡◌, ℕ, Bool, true, false, List, [], ◌∷◌, ◌++◌, map, refl, sym, ap, ◌∙◌, subst}
use Rattle.std.specs.Prelude.{◌&&◌, ◌||◌, not, if◌then◌else◌, Option, Some, None, IsTrue, All}
use Rattle.std.specs.List.{list_any, AllByRecursion}
use Rattle.std.proofs.lemmas.Bool.{and_parts}
use Rattle.sm_io.proofs.Elements.{all_by_place}
use Rattle.stream_types.specs.declared.types.Field.{Field}
use Rattle.stream_types.specs.declared.types.TypeEntry.{TypeEntry}
use Rattle.stream_core.specs.WellTyped.{IsName, HasNames}
use Rattle.spec_text.specs.declared.surface.FieldForm.{FieldForm}
use Rattle.spec_text.specs.declared.surface.Decl.{Decl}
use Rattle.spec_text.specs.declared.surface.Decl.TheVariants as d
use Rattle.spec_text.specs.declared.surface.Surface.{Surface}
use Rattle.spec_text.specs.KeepsTable.{all_kept, kept_from, between, keeps_name, keeps_type, keeps_field}
use Rattle.type_check.specs.NamedType.{NamedType, scalar, struct, array, Declarations, Struct, struct_in}
use Rattle.type_check.specs.Untyped.{judge_decl, all_of}
use Rattle.type_check.specs.TypeOrder.{Event, met, ends, closings, events_from, events, is_met, waits, is_array_of, waiting, added, listed, type_order, field_of, fields_of, entry_of, entries, types_of_text}
use Rattle.std.proofs.Common.{length}
use Rattle.typed_text.proofs.Sound.{all_join}
use Rattle.typed_text.proofs.Places.{EachDecl, IsDecl}
use Rattle.typed_text.proofs.Items.{IsStructFound, struct_found}

abbrev HasStructName : NamedType → Type 0
HasStructName (struct x) = IsName x
HasStructName (scalar s) = Unit {0}
HasStructName (array u n) = Unit {0}

abbrev EndsName : Event → Type 0
EndsName (met u) = Unit {0}
EndsName (ends x) = IsName x

struct_kept : (s : Surface) (before : Declarations) (y : Decl) → IsDecl s before y → AllByRecursion EndsName (closings y)
struct_kept s before (d.Struct at x fields) h = ((and_parts (keeps_name x) (kept_from 1 64 (map keeps_field fields)) h.kept).0, tt)
struct_kept s before (d.Extern at x ty) h = tt
struct_kept s before (d.Stream at x ty init e) h = tt
struct_kept s before (d.Def at x ty e) h = tt
struct_kept s before (d.Trigger at x guard args) h = tt
struct_kept s before (d.Observer at x e) h = tt

all_meetings : (us : List NamedType) → AllByRecursion EndsName (map met us)
all_meetings [] = tt
all_meetings (u ∷ us) = (tt, all_meetings us)

events_named : (s : Surface) (before : Declarations) (ys : List Decl) → EachDecl (IsDecl s) before ys → AllByRecursion EndsName (events_from (all_of s) before ys)
events_named s before [] q = tt
events_named s before (y ∷ ys) q =
    let own = map met (judge_decl (all_of s) before y).types in
    all_join EndsName (own ++ closings y) (events_from (all_of s) (y ∷ before) ys) (all_join EndsName own (closings y) (all_meetings (judge_decl (all_of s) before y).types) (struct_kept s before y q.0)) (events_named s (y ∷ before) ys q.1)

one_array : (x : List ℕ) (v : NamedType) (b : Bool) → is_array_of x v ≡ b → (c : Bool) → AllByRecursion HasStructName (if b && c then v ∷ [] else [])
one_array x v false e c = tt
one_array x v true e false = tt
one_array x (scalar s) true e true = absurd (cc)
one_array x (struct y) true e true = absurd (cc)
one_array x (array u n) true e true = (tt, tt)

waiting_named : (x : List ℕ) (earlier es : List Event) → AllByRecursion HasStructName (waiting x earlier es)
waiting_named x earlier [] = tt
waiting_named x earlier (ends y ∷ es) = waiting_named x (earlier ++ ends y ∷ []) es
waiting_named x earlier (met v ∷ es) = all_join HasStructName (if is_array_of x v && not (list_any (is_met v) earlier) then v ∷ [] else []) (waiting x (earlier ++ met v ∷ []) es)
    (one_array x v (is_array_of x v) refl (not (list_any (is_met v) earlier))) (waiting_named x (earlier ++ met v ∷ []) es)

one_added : (u : NamedType) (n : ℕ) (b : Bool) → AllByRecursion HasStructName (if b then [] else array u n ∷ [])
one_added u n true = tt
one_added u n false = (tt, tt)

added_named : (earlier : List Event) (e : Event) → EndsName e → AllByRecursion HasStructName (added earlier e)
added_named earlier (met (scalar s)) h = tt
added_named earlier (met (struct x)) h = tt
added_named earlier (met (array u n)) h = one_added u n (list_any (is_met (array u n)) earlier || waits earlier u)
added_named earlier (ends x) h = (h, waiting_named x [] earlier)

listed_named : (earlier es : List Event) → AllByRecursion EndsName es → AllByRecursion HasStructName (listed earlier es)
listed_named earlier [] h = tt
listed_named earlier (e ∷ es) h = all_join HasStructName (added earlier e) (listed (earlier ++ e ∷ []) es) (added_named earlier e h.0) (listed_named (earlier ++ e ∷ []) es h.1)

fields_named : (order : List NamedType) (before : Declarations) (fs : List FieldForm) → all_kept (map keeps_field fs) ≡ true → AllByRecursion (λ (f : Field). IsName f.name) (map (field_of order before) fs)
fields_named order before [] h = tt
fields_named order before (f ∷ fs) h =
    let p = and_parts (keeps_field f) (all_kept (map keeps_field fs)) h in
    ((and_parts (keeps_name f.name) (keeps_type f.ty) p.0).0, fields_named order before fs p.1)

members_named : (s : Surface) → EachDecl (IsDecl s) [] s.decls → (order : List NamedType) (x : List ℕ) (o : Option Struct) → struct_in (all_of s) x ≡ o → AllByRecursion (λ (f : Field). IsName f.name) (fields_of order o)
members_named s q order x None e = tt
members_named s q order x (Some st) e =
    let r = struct_found s x st q e in
    let p = and_parts (keeps_name r.name) (kept_from 1 64 (map keeps_field st.fields)) r.known.kept in
    fields_named order st.before st.fields (and_parts (between 1 64 (length (map keeps_field st.fields))) (all_kept (map keeps_field st.fields)) p.1).1

entries_named : (s : Surface) → EachDecl (IsDecl s) [] s.decls → (order ts : List NamedType) → AllByRecursion HasStructName ts → AllByRecursion HasNames (entries (all_of s) order ts)
entries_named s q order [] h = tt
entries_named s q order (scalar c ∷ ts) h = entries_named s q order ts h.1
entries_named s q order (array u n ∷ ts) h = (tt, entries_named s q order ts h.1)
entries_named s q order (struct x ∷ ts) h =
    ((h.0, all_by_place (λ (f : Field). IsName f.name) (fields_of order (struct_in (all_of s) x)) (members_named s q order x (struct_in (all_of s) x) refl)), entries_named s q order ts h.1)

pub types_named : (s : Surface) → EachDecl (IsDecl s) [] s.decls → All HasNames (types_of_text s)
unfolding type_order
types_named s q = all_by_place HasNames (types_of_text s) (entries_named s q (type_order s) (type_order s) (listed_named [] (events s) (events_named s [] s.decls q)))
