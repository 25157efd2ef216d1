-- The names and types of a text without faults, before its first declaration and behind each.
use Rattle.std.proofs.Common.{◌≡◌, ℕ, ◌+◌, ◌<◌, ◌≤◌, Bool, true, false, List, [], ◌∷◌, length, map, take, drop, get_or, refl, sym, ap, ◌∙◌, subst, arith}
use Rattle.std.specs.Prelude.{if◌then◌else◌, slice_get, bytes_eq, Some, None, Result, Ok, Err, IfOk}
use Rattle.std.proofs.lemmas.Option.{slice_get_within}
use Rattle.std.proofs.lemmas.List.{drop_more}
use Rattle.sm_io.specs.Words.{is_name}
use Rattle.sm_io.proofs.Elements.{get_within}
use Rattle.spec_text.specs.declared.surface.NameAt.{NameAt}
use Rattle.spec_text.specs.declared.surface.FieldForm.{FieldForm}
use Rattle.spec_text.specs.declared.surface.Decl.{Decl}
use Rattle.spec_text.specs.declared.surface.Decl.TheVariants as d
use Rattle.spec_text.specs.declared.surface.Surface.{Surface}
use Rattle.spec_text.specs.KeepsTable.{between, all_kept, kept_from, keeps_name, keeps_field, keeps_decl, KeepsTable}
use Rattle.spec_text.specs.Form.{form_of}
use Rattle.spec_text.specs.Extent.{item_count}
use Rattle.type_check.specs.declared.known.Known.{Known}
use Rattle.type_check.specs.declared.checked.Ordered.{Ordered}
use Rattle.type_check.specs.declared.list.Numbers.{Numbers as CodeNumbers}
use Rattle.type_check.specs.declared.scope.Scope.{Scope as CodeScope}
use Rattle.type_check.specs.declared.structs.Struct.{Struct as CodeStruct}
use Rattle.type_check.specs.declared.structs.Member.{Member}
use Rattle.type_check.specs.NamedType.{NamedType, Declarations, Struct, struct_in}
use Rattle.type_check.specs.Untyped.{reversed, scope_of, all_of}
use Rattle.type_check.specs.Standing.{AllMean, all_none, all_more, AreMembers, no_members, more_members}
use Rattle.type_check.specs.Listed.{AreNumbers}
use Rattle.type_check.specs.Table.{struct_names}
use Rattle.type_check.specs.Walked.{IsBetween}
use Rattle.type_check.specs.Checked.{type_fault, IsText}
use Rattle.type_check.proofs.SoundForms.{between_high, map_count}
use Rattle.type_check.proofs.SameNames.{left_true, right_true}
use Rattle.type_check.proofs.Walking.{structs_at, between_scope, between_next}
use Rattle.type_check.proofs.TypeLists.{listable}
use Rattle.type_check.proofs.Tables.{reversed_more}
use Rattle.typed_spec.specs.declared.text.Text.{Text}
use Rattle.typed_text.specs.ReadSpec.{Numbers, numbers_of, extern_names, stream_names, def_names}
use Rattle.typed_spec.specs.Texts.{AreNumbered, StandsFor}
use Rattle.typed_spec.specs.Added.{IsTextAt}
use Rattle.typed_text.proofs.Places.{kept_decls}

-- ---- structs have names and few fields

record AreFew (ds : Declarations) : Type 0 where
  few : (x : List ℕ) (s : Struct) → struct_in ds x ≡ Some s → length s.fields ≤ 64
  nameless : struct_in ds [] ≡ None

not_nameless : (x : List ℕ) → is_name x ≡ true → bytes_eq x [] ≡ false
not_nameless [] h = absurd (let q : false ≡ true = h in cc)
not_nameless (b ∷ bs) h = refl

few_if : (ds : Declarations) (fs : List FieldForm) (x : List ℕ) (s : Struct) (b : Bool) → length fs ≤ 64 → (struct_in ds x ≡ Some s → length s.fields ≤ 64)
    → (if b then Some (record { fields = fs; before = ds }) else struct_in ds x) ≡ Some s → length s.fields ≤ 64
few_if ds fs x s true l f e =
    let own : Struct = record { fields = fs; before = ds } in
    let g : own ≡ s = cc in
    subst (λ (t : Struct). length t.fields ≤ 64) g l
few_if ds fs x s false l f e = f e

struct_few : (v at : ℕ) (x : NameAt) (fs : List FieldForm) (ds : Declarations) → keeps_decl v (d.Struct at x fs) ≡ true → AreFew ds → AreFew (d.Struct at x fs ∷ ds)
struct_few v at x fs ds k g =
    let named = left_true (keeps_name x) (kept_from 1 64 (map keeps_field fs)) k in
    let within = left_true (between 1 64 (length (map keeps_field fs))) (all_kept (map keeps_field fs)) (right_true (keeps_name x) (kept_from 1 64 (map keeps_field fs)) k) in
    let most : length fs ≤ 64 = subst (λ n. n ≤ 64) (map_count keeps_field fs) (between_high 1 64 (length (map keeps_field fs)) within) in
    record {
      few = λ y s e. few_if ds fs y s (bytes_eq x.name y) most (g.few y s) e;
      nameless = ap (λ b. if b then Some (record { fields = fs; before = ds }) else struct_in ds []) (not_nameless x.name named) ∙ g.nameless;
    }

all_few : (v : ℕ) (ds : Declarations) (xs : List Decl) → all_kept (map (keeps_decl v) xs) ≡ true → AreFew ds → AreFew (reversed ds xs)
all_few v ds [] k g = g
all_few v ds (d.Struct at x fs ∷ xs) k g =
    all_few v (d.Struct at x fs ∷ ds) xs (right_true (keeps_decl v (d.Struct at x fs)) (all_kept (map (keeps_decl v) xs)) k)
    (struct_few v at x fs ds (left_true (keeps_decl v (d.Struct at x fs)) (all_kept (map (keeps_decl v) xs)) k) g)
all_few v ds (d.Extern at x ty ∷ xs) k g =
    all_few v (d.Extern at x ty ∷ ds) xs (right_true (keeps_decl v (d.Extern at x ty)) (all_kept (map (keeps_decl v) xs)) k) (record { few = λ y s e. g.few y s e; nameless = g.nameless })
all_few v ds (d.Stream at x ty init f ∷ xs) k g =
    all_few v (d.Stream at x ty init f ∷ ds) xs (right_true (keeps_decl v (d.Stream at x ty init f)) (all_kept (map (keeps_decl v) xs)) k) (record { few = λ y s e. g.few y s e; nameless = g.nameless })
all_few v ds (d.Def at x ty f ∷ xs) k g =
    all_few v (d.Def at x ty f ∷ ds) xs (right_true (keeps_decl v (d.Def at x ty f)) (all_kept (map (keeps_decl v) xs)) k) (record { few = λ y s e. g.few y s e; nameless = g.nameless })
all_few v ds (d.Trigger at x guard args ∷ xs) k g =
    all_few v (d.Trigger at x guard args ∷ ds) xs (right_true (keeps_decl v (d.Trigger at x guard args)) (all_kept (map (keeps_decl v) xs)) k) (record { few = λ y s e. g.few y s e; nameless = g.nameless })
all_few v ds (d.Observer at x f ∷ xs) k g =
    all_few v (d.Observer at x f ∷ ds) xs (right_true (keeps_decl v (d.Observer at x f)) (all_kept (map (keeps_decl v) xs)) k) (record { few = λ y s e. g.few y s e; nameless = g.nameless })

structs_few : (s : Surface) → KeepsTable s → AreFew (all_of s)
structs_few s k = all_few s.version [] s.decls (kept_decls s k) (record { few = λ y t e. absurd (cc); nameless = refl })

as_many : {names : List (List ℕ)} {before : Declarations} {fs : List FieldForm} {ms : List Member} → AreMembers names before fs ms → length ms ≡ length fs
as_many no_members = refl
as_many (more_members n m h) = let e = as_many h in omega (arith, e)

-- ---- types

mean_many : {names : List (List ℕ)} {ks : List Known} {ts : List NamedType} → AllMean names ks ts → length ks ≡ length ts
mean_many all_none = refl
mean_many (all_more m h) = let e = mean_many h in omega (arith, e)

-- there are fewer types than numbers
pub few_placed : (s : Surface) (o : Ordered) → KeepsTable s → item_count (form_of s) ≤ 1048576 → type_fault s ≡ None → IsText s o → length o.order.placed < 4294967295
few_placed s o k l f t = let e = mean_many t.types_are in let r = (listable s k l f).room in omega (arith, e, r)

-- ---- texts

members_few : (s : Surface) (o : Ordered) → KeepsTable s → IsText s o → (i : ℕ) (x : CodeStruct) → slice_get o.scope.structs.all.items i ≡ Some x → length x.members < 4294967296
members_few s o k t i x h =
    let names = struct_names (all_of s) in
    let low = slice_get_within o.scope.structs.all.items i x h in
    let count = t.names_are.table.count in
    let name = get_within names i (omega (arith, low, count)) in
    let a = structs_at names t.names_are.distinct (all_of s) refl o.scope.structs t.names_are.table i name.0 name.1 in
    let is : a.kept ≡ x = let e = sym a.kept_is ∙ h in cc in
    let fields = as_many a.members in
    let most = (structs_few s k).few name.0 a.declared a.is in
    subst (λ (y : CodeStruct). length y.members < 4294967296) is (omega (arith, fields, most))

start : (s : Surface) (o : Ordered) (scope : CodeScope) → IsText s o → scope ≡ record o.scope { closed = 0 } → IsBetween (struct_names (all_of s)) [] s.decls scope
start s o scope t e = subst (λ (c : CodeScope). IsBetween (struct_names (all_of s)) [] s.decls c) (sym e)
    (record { distinct = t.names_are.distinct; names_are = refl; table = t.names_are.table; items = t.names_are.items; ended = refl })

-- before the first declaration
pub text_starts : (s : Surface) (o : Ordered) (text : Text) → KeepsTable s → IsText s o → text.scope ≡ record o.scope { closed = 0 } → AreNumbers o.order.placed text.types.by_type.entries text.types.count
    → AreNumbered (extern_names s.decls) text.externs → AreNumbered (stream_names s.decls) text.streams → AreNumbered (def_names s.decls) text.defs
    → IsTextAt (struct_names (all_of s)) [] s.decls (numbers_of s) text
text_starts s o text k t e n a b c = record {
  between = start s o text.scope t e;
  placed = o.order.placed;
  numbers = n;
  order = t.types_are;
  externs = a;
  streams = b;
  defs = c;
  few = λ i x h. members_few s o k t i x (ap (λ (q : CodeScope). slice_get q.structs.all.items i) (sym e) ∙ h);
  nameless = (structs_few s k).nameless;
}

-- what stands for a text at a place of it
pub text_stands : {names : List (List ℕ)} {before : Declarations} {rest : List Decl} {n : Numbers} {text : Text} → IsTextAt names before rest n text → StandsFor names (scope_of before (reversed before rest)) n text
text_stands {names} {before} {rest} {n} {text} h = record {
  scope = between_scope names before rest text.scope h.between;
  placed = h.placed;
  numbers = h.numbers;
  order = h.order;
  externs = h.externs;
  streams = h.streams;
  defs = h.defs;
  few = h.few;
  nameless = h.nameless;
}

-- behind one declaration more
pub text_next : {names : List (List ℕ)} {before : Declarations} {rest : List Decl} {n : Numbers} (x : Decl) (old new : Text) → IsTextAt names before (x ∷ rest) n old → new ≡ record old { scope = record old.scope { closed = new.scope.closed } }
    → new.scope.closed ≡ length (struct_names (x ∷ before)) → IsTextAt names (x ∷ before) rest n new
text_next {names} {before} {rest} {n} x old new h e c = record {
  between = between_next names before x rest old.scope new.scope h.between (ap (λ (t : Text). t.scope.structs) e) (ap (λ (t : Text). t.scope.items) e) c;
  placed = h.placed;
  numbers = subst (λ (t : Text). AreNumbers h.placed t.types.by_type.entries t.types.count) (sym e) h.numbers;
  order = h.order;
  externs = subst (λ (t : Text). AreNumbered n.externs t.externs) (sym e) h.externs;
  streams = subst (λ (t : Text). AreNumbered n.streams t.streams) (sym e) h.streams;
  defs = subst (λ (t : Text). AreNumbered n.defs t.defs) (sym e) h.defs;
  few = λ i y g. h.few i y (ap (λ (t : Text). slice_get t.scope.structs.all.items i) (sym e) ∙ g);
  nameless = h.nameless;
}

-- at the next declaration of a walk
pub text_here : {names : List (List ℕ)} {before : Declarations} {n : Numbers} {text : Text} (xs : List Decl) (i : ℕ) (x out : Decl) → i < length xs → x ≡ get_or xs i out → IsTextAt names before (drop i xs) n text → IsTextAt names before (x ∷ drop (i + 1) xs) n text
text_here {names} {before} {n} {text} xs i x out low is h = subst (λ (ys : List Decl). IsTextAt names before ys n text) (drop_more xs i out low ∙ ap (λ y. y ∷ drop (i + 1) xs) (sym is)) h

pub text_more : {names : List (List ℕ)} {rest : List Decl} {n : Numbers} {text : Text} (xs : List Decl) (i : ℕ) (x out : Decl) → i < length xs → x ≡ get_or xs i out → IsTextAt names (x ∷ reversed [] (take i xs)) rest n text
    → IsTextAt names (reversed [] (take (i + 1) xs)) rest n text
text_more {names} {rest} {n} {text} xs i x out low is h = subst (λ (before : Declarations). IsTextAt names before rest n text) (reversed_more xs i x out low is) h

-- what was made of a text, if memory sufficed
pub text_told : {E : Type 0} (s : Surface) (o : Ordered) (types : CodeNumbers) (scope : CodeScope) (r : Result Text E) → KeepsTable s → IsText s o → AreNumbers o.order.placed types.by_type.entries types.count → scope ≡ record o.scope { closed = 0 }
    → IfOk r (λ t. t.scope ≡ scope) → IfOk r (λ t. t.types ≡ types) → IfOk r (λ t. AreNumbered (extern_names s.decls) t.externs) → IfOk r (λ t. AreNumbered (stream_names s.decls) t.streams) → IfOk r (λ t. AreNumbered (def_names s.decls) t.defs)
    → IfOk r (λ t. IsTextAt (struct_names (all_of s)) [] s.decls (numbers_of s) t)
text_told s o types scope (Ok t) k i n e a b x y z = text_starts s o t k i (a ∙ e) (subst (λ (m : CodeNumbers). AreNumbers o.order.placed m.by_type.entries m.count) (sym b) n) x y z
text_told s o types scope (Err w) k i n e a b x y z = tt
