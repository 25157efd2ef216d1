-- A text has no more types than lists.
use Rattle.std.proofs.Common.{◌≡◌, ◌≤◌, ◌+◌, ℕ, suc, Bool, true, false, List, [], ◌∷◌, ◌++◌, map, length, length-append, refl, sym, ap, ◌∙◌, subst, arith}
use Rattle.std.specs.Prelude.{◌==◌, ◌&&◌, ◌||◌, not, Option, Some, None, take}
use Rattle.std.specs.List.{list_any, AllByRecursion}
use Rattle.std.specs.Option.{option_map}
use Rattle.std.proofs.lemmas.List.{take_all}
use Rattle.sm_io.specs.Words.{is_name}
use Rattle.spec_text.specs.declared.surface.FieldForm.{FieldForm}
use Rattle.spec_text.specs.declared.surface.TypeForm.{TypeForm}
use Rattle.spec_text.specs.declared.surface.Decl.{Decl}
use Rattle.spec_text.specs.declared.surface.Decl.TheVariants as d
use Rattle.spec_text.specs.declared.surface.Surface.{Surface}
use Rattle.spec_text.specs.Extent.{item_count, list_count, list_counts}
use Rattle.spec_text.specs.Form.{forms, form_of, form_of_type, form_of_field, form_of_decl}
use Rattle.spec_text.specs.KeepsTable.{KeepsTable, keeps_table, keeps_decl, all_kept}
use Rattle.type_check.specs.declared.fault.TypeFault.{TypeFault}
use Rattle.type_check.specs.declared.fault.TypeFault.TheVariants.{Redeclared}
use Rattle.type_check.specs.NamedType.{NamedType, scalar, struct, array, same_type, Declarations}
use Rattle.type_check.specs.Names.{name_fault}
use Rattle.type_check.specs.Judged.{or_else}
use Rattle.type_check.specs.Untyped.{judge_decl, reversed, all_of, untyped}
use Rattle.type_check.specs.TypeOrder.{Event, met, ends, closings, is_met, is_closed, waits, events_from, events, listed, type_order, entries}
use Rattle.type_check.specs.TypeOrder.{types_of_text}
use Rattle.type_check.specs.Table.{struct_names}
use Rattle.type_check.specs.Checked.{type_fault}
use Rattle.type_check.proofs.SameNames.{left_true, right_true, list_same}
use Rattle.type_check.proofs.Meaning.{same_true}
use Rattle.type_check.proofs.Distinct.{distinct_structs}
use Rattle.type_check.proofs.SoundTexts.{sound_text}
use Rattle.type_check.proofs.TextEvents.{text_events}
use Rattle.type_check.proofs.Placing.{among, placed, IsPlacing, placing}
use Rattle.type_check.proofs.TypeLists.{listable, no_more}
use Rattle.typed_text.proofs.Sound.{all_join}
use Rattle.typed_text.proofs.Places.{EachDecl}
use Rattle.typing.proofs.MadeNodes.{Kept}
use Rattle.typing.proofs.MadeDecls.{written, form_lists, sum_of, writes_in, owns_in, AllDecls, text_written, known_text, EventKept, DeclKept, AreAll}
use Rattle.typing.proofs.MadeDecls.{all_added}

-- ---- lists

few_fields : (fs : List FieldForm) → form_lists (map (λ (f : FieldForm). f.ty) fs) ≤ list_counts (forms (map form_of_field fs))
few_fields [] = omega arith
few_fields (f ∷ fs) = let h = few_fields fs in omega (arith, h)

decl_lists : (x : Decl) → suc (writes_in x + owns_in x) ≤ list_count (form_of_decl x)
decl_lists (d.Struct at x fields) = let h = few_fields fields in omega (arith, h)
decl_lists (d.Extern at x ty) = omega arith
decl_lists (d.Stream at x ty init e) = omega arith
decl_lists (d.Def at x ty e) = omega arith
decl_lists (d.Trigger at x guard args) = omega arith
decl_lists (d.Observer at x e) = omega arith

text_lists : (xs : List Decl) → length xs + sum_of writes_in xs + sum_of owns_in xs ≤ list_counts (forms (map form_of_decl xs))
text_lists [] = omega arith
text_lists (x ∷ xs) = let a = decl_lists x in let h = text_lists xs in omega (arith, a, h)

sum_reversed : (f : Decl → ℕ) (before xs : List Decl) → sum_of f (reversed before xs) ≡ sum_of f before + sum_of f xs
sum_reversed f before [] = omega arith
sum_reversed f before (x ∷ xs) = let h = sum_reversed f (x ∷ before) xs in omega (arith, h)

length_reversed : (before xs : List Decl) → length (reversed before xs) ≡ length before + length xs
length_reversed before [] = omega arith
length_reversed before (x ∷ xs) = let h = length_reversed (x ∷ before) xs in omega (arith, h)

-- ---- events

-- the declarations of a text, first to last
each_of : (P : Declarations → Decl → Type 0) (before : Declarations) (xs : List Decl) → AllDecls P (reversed before xs)
    → EachDecl P before xs × AllDecls P before
each_of P before [] h = (tt, h)
each_of P before (x ∷ xs) h = let r = each_of P (x ∷ before) xs h in ((r.1.0, r.0), r.1.1)

events_kept : (us : List NamedType) (all before : Declarations) (xs : List Decl) → EachDecl (DeclKept us all) before xs
    → AllByRecursion (EventKept us) (events_from all before xs)
events_kept us all before [] h = tt
events_kept us all before (x ∷ xs) h =
    all_join (EventKept us) (map met (judge_decl all before x).types ++ closings x) (events_from all (x ∷ before) xs) h.0
    (events_kept us all (x ∷ before) xs h.1)

event_if : (us : List NamedType) (p : Event → Bool) (t : NamedType) (e : Event) (es : List Event) (b : Bool) → p e ≡ b → (p e ≡ true → among t us ≡ true)
    → (list_any p es ≡ true → among t us ≡ true) → (p e || list_any p es) ≡ true → among t us ≡ true
event_if us p t e es true g f k h = f g
event_if us p t e es false g f k h = k (sym (ap (λ b. b || list_any p es) g) ∙ h)

event_among : (us : List NamedType) (p : Event → Bool) (t : NamedType) (es : List Event) → ((e : Event) → p e ≡ true → EventKept us e → among t us ≡ true)
    → AllByRecursion (EventKept us) es → list_any p es ≡ true → among t us ≡ true
event_among us p t [] f k h = absurd (cc)
event_among us p t (e ∷ es) f k h = event_if us p t e es (p e) refl (λ g. f e g k.0) (λ g. event_among us p t es f k.1 g) h

closed_among : (us : List NamedType) (x : List ℕ) (e : Event) → is_closed x e ≡ true → EventKept us e → among (struct x) us ≡ true
closed_among us x (met t) g k = absurd (cc)
closed_among us x (ends y) g k = subst (λ (z : List ℕ). among (struct z) us ≡ true) (sym (list_same x y g)) k

met_among : (us : List NamedType) (t : NamedType) (n : ℕ) (e : Event) → is_met (array t n) e ≡ true → EventKept us e → among (array t n) us ≡ true
met_among us t n (met u) g k = let q : Kept us (array t n) = subst (Kept us) (sym (same_true (array t n) u g)) k in q.0
met_among us t n (ends y) g k = absurd (cc)

placed_among : (us : List NamedType) (es : List Event) (t : NamedType) → AllByRecursion (EventKept us) es → placed es t ≡ true → among t us ≡ true
placed_among us es (scalar s) k h = absurd (cc)
placed_among us es (struct x) k h = event_among us (is_closed x) (struct x) es (closed_among us x) k h
placed_among us es (array t n) k h =
    event_among us (is_met (array t n)) (array t n) es (met_among us t n) k (left_true (list_any (is_met (array t n)) es) (not (waits es t)) h)

-- ---- the text

no_fault : (o : Option ℕ) (u : Option TypeFault) → or_else (option_map (λ at. Redeclared at) o) u ≡ None → o ≡ None
no_fault None u e = refl
no_fault (Some at) u e = absurd (cc)

kept_decls : (s : Surface) → KeepsTable s → all_kept (map (keeps_decl s.version) s.decls) ≡ true
unfolding keeps_table
kept_decls s k = right_true ((s.version == 1 || s.version == 2) && is_name s.name) (all_kept (map (keeps_decl s.version) s.decls)) k

text_placing : (s : Surface) → KeepsTable s → type_fault s ≡ None → IsPlacing (all_of s) (events s)
text_placing s k f =
    let names = struct_names (all_of s) in
    let distinct = distinct_structs s (no_fault (name_fault s) (untyped s) f) in
    let kept = kept_decls s k in
    placing (all_of s) (events s) (text_events s.version names distinct s.decls refl kept (sound_text s.version names distinct s.decls refl kept)).good

few_listed : (s : Surface) → KeepsTable s → type_fault s ≡ None → length (listed [] (events s)) ≤ list_count (form_of s)
few_listed s k f =
    let all = all_of s in
    let w = text_written all in
    let a = all_added w.made all all (known_text all w) w.forms_are in
    let p = text_placing s k f in
    let kept = events_kept a.made all [] s.decls (each_of (DeclKept a.made all) [] s.decls a.kept).0 in
    let few = no_more all [] (listed [] (events s)) a.made p.steps (λ t h. placed_among a.made (events s) t kept (sym (p.among_are t) ∙ h)) in
    let lists = text_lists s.decls in
    let n = length_reversed [] s.decls in
    let writes = sum_reversed writes_in [] s.decls in
    let owns = sum_reversed owns_in [] s.decls in
    omega (arith, few, lists, n, writes, owns, a.few, w.few)

few_order : (s : Surface) → KeepsTable s → type_fault s ≡ None → length (type_order s) ≤ list_count (form_of s)
unfolding type_order
few_order s k f = few_listed s k f

pub few_types : (s : Surface) → KeepsTable s → item_count (form_of s) ≤ 1048576 → type_fault s ≡ None → length (types_of_text s) ≤ list_count (form_of s)
few_types s keeps items faultless =
    let l = listable s keeps items faultless in
    let order = type_order s in
    let few = few_order s keeps faultless in
    let count : length (entries (all_of s) order order) ≡ length order =
    ap (λ (ts : List NamedType). length (entries (all_of s) order ts)) (sym (take_all (length order) order (omega arith))) ∙ l.counts (length order)
    (omega arith) in
    omega (arith, few, count)
