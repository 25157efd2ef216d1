-- The entries of one type more.
use Rattle.std.proofs.Common.{◌≡◌, ◌<◌, ◌≤◌, ◌+◌, ◌*◌, ℕ, zero, suc, Bool, true, false, List, [], ◌∷◌, ◌++◌, map, length, take, refl, sym, ap, ◌∙◌, subst, inl, inr, append-nil, append_assoc, length-append, arith}
use Rattle.std.specs.Prelude.{◌||◌, ◌⊎◌, slice_get, Some}
use Rattle.std.proofs.lemmas.List.Folds.{list_any-append}
use Rattle.sm_io.proofs.Elements.{map_push}
use Rattle.stream_types.specs.declared.scalar.Scalar.{Scalar}
use Rattle.stream_types.specs.declared.types.TypeEntry.{TypeEntry}
use Rattle.stream_types.specs.Types.{at_entry, one_word, entry_words, fields_words}
use Rattle.stream_types.specs.Types.{words as words_in}
use Rattle.stream_types.specs.TypeList.{IsNewEntry, IsGoodEntry, IsTypeList}
use Rattle.stream_types.proofs.GrownLists.{get_push}
use Rattle.stream_types.proofs.TypeLists.{IsTypeList-push}
use Rattle.stream_types.proofs.Widths.{words-append, words-array, words-struct}
use Rattle.type_check.specs.NamedType.{NamedType, scalar, struct, array, same_type, Declarations, struct_in, words}
use Rattle.type_check.specs.TypeOrder.{number_of, ty_of, fields_of, entries}
use Rattle.type_check.specs.NextEntries.{MayBeAdded, IsListable}
use Rattle.type_check.proofs.Meaning.{same_true}
use Rattle.type_check.proofs.SoundForms.{map_count}
use Rattle.type_check.proofs.Placing.{among, Stood, MayStand, Steps}
use Rattle.type_check.proofs.Numbered.{one_entry, entries_more, entries_count, among_at}
use Rattle.type_check.proofs.ListedTypes.{IsPart, IsListed, AreKnown, entry_at, stands, fields_wide, next_type}

-- ---- a good entry

good_entry : (all : Declarations) (order before : List NamedType) (es : List TypeEntry) (t : NamedType) → MayBeAdded all order es t → IsGoodEntry es (one_entry all order t)
good_entry all order before es (scalar s) m = elim m [ ]
good_entry all order before es (struct x) m = (m.parts, m.least, m.most, m.apart)
good_entry all order before es (array t n) m = (m.element, m.least, m.most)

new_entry : (all : Declarations) (order : List NamedType) (es : List TypeEntry) (t : NamedType) → MayBeAdded all order es t → IsNewEntry es (one_entry all order t)
new_entry all order es (scalar s) m = elim m [ ]
new_entry all order es (struct x) m = m.fresh
new_entry all order es (array t n) m = m.fresh

narrow_entry : (all : Declarations) (order : List NamedType) (es : List TypeEntry) (t : NamedType) → MayBeAdded all order es t → at_entry one_word (entry_words es) (one_entry all order t) ≤ 1024
narrow_entry all order es (scalar s) m = elim m [ ]
narrow_entry all order es (struct x) m = m.narrow
narrow_entry all order es (array t n) m = m.narrow

-- ---- one type more

among_more : (u t : NamedType) (before : List NamedType) → among u before ≡ true → among u (before ++ t ∷ []) ≡ true
among_more u t before h = list_any-append (same_type u) before (t ∷ []) ∙ ap (λ b. b || among u (t ∷ [])) h

among_last : (t : NamedType) (before : List NamedType) → among t (before ++ t ∷ []) ≡ true
among_last t before = among_at (before ++ t ∷ []) (length before) t (last before)
  where
    last : (xs : List NamedType) → slice_get (xs ++ t ∷ []) (length xs) ≡ Some t
    last [] = refl
    last (x ∷ xs) = last xs

stood_more : (u t : NamedType) (before : List NamedType) → Stood before u → Stood (before ++ t ∷ []) u
stood_more (scalar s) t before h = tt
stood_more (struct x) t before h = among_more (struct x) t before h
stood_more (array v n) t before h = among_more (array v n) t before h

scalar_if : (all : Declarations) (before : List NamedType) (t : NamedType) (s : Scalar) → MayStand all before t → t ≡ scalar s → ⊥
scalar_if all before (scalar c) s m e = elim m [ ]
scalar_if all before (struct x) s m e = cc
scalar_if all before (array u n) s m e = cc

part_of : (all : Declarations) (before : List NamedType) (t u : NamedType) (n : ℕ) → MayStand all before t → t ≡ array u n → IsPart before u
part_of all before (scalar c) u n m e = elim m [ ]
part_of all before (struct x) u n m e = absurd (cc)
part_of all before (array v k) u n m e = let f : v ≡ u = cc in subst (IsPart before) f (record { stood = m.part; plain = m.sound.0 })

part_more : (u t : NamedType) (before : List NamedType) → IsPart before u → IsPart (before ++ t ∷ []) u
part_more u t before p = record { stood = stood_more u t before p.stood; plain = p.plain }

-- a type is an old one or the new one
old_or_new : (u t : NamedType) (before : List NamedType) → among u (before ++ t ∷ []) ≡ true → (among u before ≡ true) ⊎ (u ≡ t)
old_or_new u t before h = by (among u before) (same_type u t) refl refl (sym (list_any-append (same_type u) before (t ∷ [])) ∙ h)
  where
    by : (a b : Bool) → among u before ≡ a → same_type u t ≡ b → (among u before || (same_type u t || false)) ≡ true → (among u before ≡ true) ⊎ (u ≡ t)
    by true b e f g = inl e
    by false true e f g = inr (same_true u t f)
    by false false e f g = absurd (let i : (among u before || (same_type u t || false)) ≡ false = ap (λ a. a || (same_type u t || false)) e ∙ ap (λ b. b || false) f in let no : true ≡ false = sym g ∙ i in cc)

-- the words of the new type
new_words : (all : Declarations) (order before : List NamedType) (es : List TypeEntry) (t : NamedType) → AreKnown all → IsTypeList es → slice_get es (number_of order t) ≡ Some (one_entry all order t) → MayStand all before t
    → ((u : NamedType) → Stood before u → words_in es (ty_of order u) ≡ words all u) → words_in es (ty_of order t) ≡ words all t
new_words all order before es (scalar s) k l at m w = elim m [ ]
new_words all order before es (struct x) k l at m w =
    words-struct es (number_of order (struct x)) x (fields_of order (struct_in all x)) l at
    ∙ ap (λ o. fields_words es (fields_of order o)) m.is
    ∙ fields_wide all order before es m.found.before m.found.fields w m.parts
    ∙ (k.good.good x m.found m.is).words_are
new_words all order before es (array u n) k l at m w = words-array es (number_of order (array u n)) (ty_of order u) n l at ∙ ap (λ j. n * j) (w u m.part)

record IsGrown (all : Declarations) (order before : List NamedType) (t : NamedType) (es : List TypeEntry) : Type 0 where
  types : IsTypeList es
  are : es ≡ map (one_entry all order) (before ++ t ∷ [])
  old : (u : NamedType) → Stood before u → words_in es (ty_of order u) ≡ words all u
  new : words_in es (ty_of order t) ≡ words all t

stood_words : (all : Declarations) (order before : List NamedType) (t u : NamedType) (es : List TypeEntry) → IsGrown all order before t es → ((before ++ t ∷ [] ≡ before ++ t ∷ []) → Stood before u ⊎ (u ≡ t)) → words_in es (ty_of order u) ≡ words all u
stood_words all order before t u es g f = elim (f refl) [ inl a ↦ g.old u a | inr b ↦ subst (λ v. words_in es (ty_of order v) ≡ words all v) (sym b) g.new ]

stood_split : (u t : NamedType) (before : List NamedType) → Stood (before ++ t ∷ []) u → Stood before u ⊎ (u ≡ t)
stood_split (scalar s) t before h = inl tt
stood_split (struct x) t before h = old_or_new (struct x) t before h
stood_split (array v n) t before h = old_or_new (array v n) t before h

grown_entries : (all : Declarations) (order before post : List NamedType) (t : NamedType) → AreKnown all → IsListed all order before → order ≡ before ++ t ∷ post → MayStand all before t → MayBeAdded all order (entries all order before) t → length order < 4294967295
    → IsGrown all order before t (entries all order before ++ one_entry all order t ∷ [])
grown_entries all order before post t k l split m a room =
    let es = entries all order before in
    let e = one_entry all order t in
    let count : length es ≡ length before = ap length l.are ∙ map_count (one_entry all order) before in
    let whole : length order ≡ length before + length (t ∷ post) = ap length split ∙ length-append before (t ∷ post) in
    let types = IsTypeList-push es e l.types (good_entry all order before es t a) (new_entry all order es t a) (narrow_entry all order es t a) (omega (arith, count, whole, room)) in
    let are : es ++ e ∷ [] ≡ map (one_entry all order) (before ++ t ∷ []) = ap (λ xs. xs ++ e ∷ []) l.are ∙ sym (map_push (one_entry all order) before t) in
    let old = λ (u : NamedType) (h : Stood before u). words-append es (e ∷ []) (ty_of order u) (stands all order before (t ∷ post) es u l.are split h) ∙ l.words_are u h in
    let split2 : order ≡ (before ++ t ∷ []) ++ post = split ∙ sym (append_assoc before (t ∷ []) post) in
    let at = entry_at all order (before ++ t ∷ []) post (es ++ e ∷ []) t are split2 (among_last t before) in
    record { types = types; are = are; old = old; new = new_words all order before (es ++ e ∷ []) t k types at m old }

listed_more : (all : Declarations) (order before post : List NamedType) (t : NamedType) → AreKnown all → IsListed all order before → order ≡ before ++ t ∷ post → MayStand all before t → MayBeAdded all order (entries all order before) t → length order < 4294967295
    → IsListed all order (before ++ t ∷ [])
listed_more all order before post t k l split m a room =
    let g = grown_entries all order before post t k l split m a room in
    let e = sym (entries_more all order before t m) in
    record {
      types = subst IsTypeList e g.types;
      are = sym e ∙ g.are;
      no_scalar = λ i s h. elim (get_push before t (scalar s) i h) [ inl p ↦ l.no_scalar i s p.1 | inr p ↦ scalar_if all before t s m p.1 ];
      parts = λ i u n h. part_more u t before (elim (get_push before t (array u n) i h) [ inl p ↦ l.parts i u n p.1 | inr p ↦ part_of all before t u n m p.1 ]);
      words_are = λ u h. subst (λ es. words_in es (ty_of order u) ≡ words all u) e (stood_words all order before t u (entries all order before ++ one_entry all order t ∷ []) g (λ q. stood_split u t before h));
    }

-- ---- all types

abbrev AllMay : Declarations → List NamedType → List NamedType → List NamedType → Type 0
AllMay all order before [] = Unit {0}
AllMay all order before (t ∷ ts) = MayBeAdded all order (entries all order before) t × AllMay all order (before ++ t ∷ []) ts

record AreListed (all : Declarations) (order before ts : List NamedType) : Type 0 where
  each : AllMay all order before ts
  whole : IsListed all order (before ++ ts)

all_listed : (all : Declarations) (order before ts : List NamedType) → AreKnown all → IsListed all order before → order ≡ before ++ ts → Steps all before ts → length order < 4294967295 → AreListed all order before ts
all_listed all order before [] k l split s room = record { each = tt; whole = subst (IsListed all order) (sym (append-nil before)) l }
all_listed all order before (t ∷ ts) k l split s room =
    let a = next_type all order before (t ∷ ts) t k l split s.0 in
    let r = all_listed all order (before ++ t ∷ []) ts k (listed_more all order before ts t k l split s.0 a room) (split ∙ sym (append_assoc before (t ∷ []) ts)) s.1 room in
    record { each = (a, r.each); whole = subst (IsListed all order) (append_assoc before (t ∷ []) ts) r.whole }

may_at : (all : Declarations) (order before ts : List NamedType) (i : ℕ) (t : NamedType) → AllMay all order before ts → slice_get ts i ≡ Some t → MayBeAdded all order (entries all order (before ++ take i ts)) t
may_at all order before [] i t a h = absurd (cc)
may_at all order before (u ∷ ts) zero t a h = let e : u ≡ t = cc in subst (λ v. MayBeAdded all order (entries all order (before ++ [])) v) e (subst (λ xs. MayBeAdded all order (entries all order xs) u) (sym (append-nil before)) a.0)
may_at all order before (u ∷ ts) (suc i) t a h = subst (λ xs. MayBeAdded all order (entries all order xs) t) (append_assoc before (u ∷ []) (take i ts)) (may_at all order (before ++ u ∷ []) ts i t a.1 h)

nothing_listed : (all : Declarations) (order : List NamedType) → IsListed all order []
nothing_listed all order = record {
  types = record {
    each = λ i e h. absurd (cc);
    narrow = λ i. omega arith;
    structs = λ i j x fs gs p q. absurd (cc);
    arrays = λ i j elem n p q. absurd (cc);
    short = omega arith;
  };
  are = refl;
  no_scalar = λ i s h. cc;
  parts = λ i t n h. absurd (cc);
  words_are = λ t h. first_words t h;
}
  where
    first_words : (t : NamedType) → Stood [] t → words_in [] (ty_of order t) ≡ words all t
    first_words (scalar s) h = refl
    first_words (struct x) h = absurd (cc)
    first_words (array u n) h = absurd (cc)

-- what is told of a whole order
pub record IsWhole (all : Declarations) (order : List NamedType) : Type 0 where
  pub listable : IsListable all order
  pub types : IsTypeList (entries all order order)

pub whole_order : (all : Declarations) (order : List NamedType) → AreKnown all → Steps all [] order → length order < 4294967295 → IsWhole all order
whole_order all order k s room =
    let r = all_listed all order [] order k (nothing_listed all order) refl s room in
    record {
      listable = record {
        each = λ i t h. may_at all order [] order i t r.each h;
        counts = λ i h. entries_count all order [] order i s h;
        room = room;
      };
      types = r.whole.types;
    }
