-- Each struct of a text and each array type that its walk meets has its entry in the type list.
use Rattle.std.proofs.Common.{◌≡◌, ℕ, zero, suc, ◌+◌, Bool, true, false, nat_eq, List, [], ◌∷◌, ◌++◌, map, refl, sym, ap, ◌∙◌, subst, arith}
use Rattle.std.specs.Prelude.{◌&&◌, ◌||◌, not, cond, if◌then◌else◌, is_some, slice_get, bytes_eq, Option, Some, None, IsTrue}
use Rattle.std.specs.List.{list_any, position_or_len, AllByRecursion}
use Rattle.std.proofs.lemmas.List.Folds.{list_any-append}
use Rattle.std.proofs.lemmas.Bool.Decides.{nat_tests}
use Rattle.std.specs.Cmp.Lexicographic.{nat_list_eq_equiv}
use Rattle.stream_types.specs.declared.types.TypeEntry.{TypeEntry}
use Rattle.stream_types.specs.declared.types.TypeEntry.TheVariants as entry
use Rattle.spec_text.specs.declared.surface.Decl.{Decl}
use Rattle.spec_text.specs.declared.surface.Decl.TheVariants as d
use Rattle.spec_text.specs.declared.surface.Surface.{Surface}
use Rattle.type_check.specs.NamedType.{NamedType, scalar, struct, array, same_type, Declarations, Struct, struct_in}
use Rattle.type_check.specs.Judged.{Judged}
use Rattle.type_check.specs.Untyped.{judge_decl, reversed, all_of}
use Rattle.type_check.specs.TypeOrder.{Event, met, ends, closings, events_from, events, is_met, is_closed, waits, is_array_of, waiting, added, listed, type_order, number_of, ty_of, fields_of, entry_of, entries, types_of_text}
use Rattle.type_check.proofs.Meaning.{same_scalar_refl, same_true}
use Rattle.type_check.proofs.SameNames.{list_same}
use Rattle.typed_text.proofs.Sound.{WellNamed, IsEntered, all_join}

or_left : (a b : Bool) → a ≡ true → (a || b) ≡ true
or_left true b h = refl
or_left false b h = absurd (cc)

or_right : (a b : Bool) → b ≡ true → (a || b) ≡ true
or_right true b h = refl
or_right false b h = h

pub same_refl : (u : NamedType) → same_type u u ≡ true
same_refl (scalar s) = same_scalar_refl s
same_refl (struct x) = nat_list_eq_equiv.refl x
same_refl (array u n) = let e : nat_eq n n ≡ true = grind (arith, nat_tests) in ap (λ b. b && nat_eq n n) (same_refl u) ∙ e

-- ---- lists that some element passes

pub any_front : {X : Type 0} (p : X → Bool) (xs ys : List X) → list_any p xs ≡ true → list_any p (xs ++ ys) ≡ true
any_front p xs ys h = list_any-append p xs ys ∙ or_left (list_any p xs) (list_any p ys) h

pub any_back : {X : Type 0} (p : X → Bool) (xs ys : List X) → list_any p ys ≡ true → list_any p (xs ++ ys) ≡ true
any_back p xs ys h = list_any-append p xs ys ∙ or_right (list_any p xs) (list_any p ys) h

none_more : (u v : NamedType) (earlier : List Event) → list_any (is_met u) earlier ≡ false → same_type u v ≡ false → list_any (is_met u) (earlier ++ met v ∷ []) ≡ false
none_more u v earlier h e = list_any-append (is_met u) earlier (met v ∷ []) ∙ ap (λ b. b || (same_type u v || false)) h ∙ ap (λ b. b || false) e

none_ends : (u : NamedType) (x : List ℕ) (earlier : List Event) → list_any (is_met u) earlier ≡ false → list_any (is_met u) (earlier ++ ends x ∷ []) ≡ false
none_ends u x earlier h = list_any-append (is_met u) earlier (ends x ∷ []) ∙ ap (λ b. b || false) h

-- ---- arrays that wait

abbrev of_struct : List ℕ → ℕ → NamedType
of_struct x n = array (struct x) n

waiting_here : (x : List ℕ) (n : ℕ) (earlier es : List Event) → list_any (is_met (of_struct x n)) earlier ≡ false → list_any (is_met (of_struct x n)) es ≡ true → list_any (same_type (of_struct x n)) (waiting x earlier es) ≡ true
waiting_here x n earlier [] h m = absurd (cc)
waiting_here x n earlier (ends y ∷ es) h m = waiting_here x n (earlier ++ ends y ∷ []) es (none_ends (of_struct x n) y earlier h) m
waiting_here x n earlier (met v ∷ es) h m = by (same_type (of_struct x n) v) refl (λ g k. waiting_here x n (earlier ++ met v ∷ []) es g k)
  where
    here : List NamedType
    here = if is_array_of x v && not (list_any (is_met v) earlier) then v ∷ [] else []

    by : (b : Bool) → same_type (of_struct x n) v ≡ b → (list_any (is_met (of_struct x n)) (earlier ++ met v ∷ []) ≡ false → list_any (is_met (of_struct x n)) es ≡ true → list_any (same_type (of_struct x n)) (waiting x (earlier ++ met v ∷ []) es) ≡ true)
        → list_any (same_type (of_struct x n)) (waiting x earlier (met v ∷ es)) ≡ true
    by true e f =
        let same : of_struct x n ≡ v = same_true (of_struct x n) v e in
        let own : is_array_of x v ≡ true = subst (λ w. is_array_of x w ≡ true) same (nat_list_eq_equiv.refl x) in
        let new : list_any (is_met v) earlier ≡ false = subst (λ w. list_any (is_met w) earlier ≡ false) same h in
        let there : (if is_array_of x v && not (list_any (is_met v) earlier) then v ∷ [] else []) ≡ v ∷ [] = ap (λ b. if b && not (list_any (is_met v) earlier) then v ∷ [] else []) own ∙ ap (λ b. if not b then v ∷ [] else []) new in
        any_front (same_type (of_struct x n)) (if is_array_of x v && not (list_any (is_met v) earlier) then v ∷ [] else []) (waiting x (earlier ++ met v ∷ []) es)
        (ap (list_any (same_type (of_struct x n))) there ∙ ap (λ b. b || false) e)
    by false e f =
        let rest : list_any (is_met (of_struct x n)) es ≡ true = sym (ap (λ b. b || list_any (is_met (of_struct x n)) es) e) ∙ m in
        any_back (same_type (of_struct x n)) (if is_array_of x v && not (list_any (is_met v) earlier) then v ∷ [] else []) (waiting x (earlier ++ met v ∷ []) es) (f (none_more (of_struct x n) v earlier h e) rest)

-- an array that was met comes at the end of its struct at the latest
waited : (x : List ℕ) (n : ℕ) (earlier es : List Event) → list_any (is_met (of_struct x n)) earlier ≡ true → list_any (is_closed x) es ≡ true → list_any (same_type (of_struct x n)) (listed earlier es) ≡ true
waited x n earlier [] h c = absurd (cc)
waited x n earlier (met v ∷ es) h c = any_back (same_type (of_struct x n)) (added earlier (met v)) (listed (earlier ++ met v ∷ []) es) (waited x n (earlier ++ met v ∷ []) es (any_front (is_met (of_struct x n)) earlier (met v ∷ []) h) c)
waited x n earlier (ends y ∷ es) h c = by (bytes_eq x y) refl (λ g k. waited x n (earlier ++ ends y ∷ []) es g k)
  where
    by : (b : Bool) → bytes_eq x y ≡ b → (list_any (is_met (of_struct x n)) (earlier ++ ends y ∷ []) ≡ true → list_any (is_closed x) es ≡ true → list_any (same_type (of_struct x n)) (listed (earlier ++ ends y ∷ []) es) ≡ true)
        → list_any (same_type (of_struct x n)) (listed earlier (ends y ∷ es)) ≡ true
    by true e f =
        let same : x ≡ y = list_same x y e in
        let there : list_any (same_type (of_struct x n)) (waiting y [] earlier) ≡ true = subst (λ z. list_any (same_type (of_struct x n)) (waiting z [] earlier) ≡ true) same (waiting_here x n [] earlier refl h) in
        any_front (same_type (of_struct x n)) (struct y ∷ waiting y [] earlier) (listed (earlier ++ ends y ∷ []) es) there
    by false e f =
        let rest : list_any (is_closed x) es ≡ true = sym (ap (λ b. b || list_any (is_closed x) es) e) ∙ c in
        any_back (same_type (of_struct x n)) (struct y ∷ waiting y [] earlier) (listed (earlier ++ ends y ∷ []) es) (f (any_front (is_met (of_struct x n)) earlier (ends y ∷ []) h) rest)

-- ---- each array comes

-- the struct of an array's elements ends before these events or among them
abbrev Closes : List Event → List Event → NamedType → Type 0
Closes earlier es (struct x) = (list_any (is_closed x) earlier || list_any (is_closed x) es) ≡ true
Closes earlier es (scalar s) = Unit {0}
Closes earlier es (array u n) = Unit {0}

closes_on : (e : Event) (earlier es : List Event) (u : NamedType) → Closes earlier (e ∷ es) u → Closes (earlier ++ e ∷ []) es u
closes_on e earlier es (scalar s) h = tt
closes_on e earlier es (array u n) h = tt
closes_on e earlier es (struct x) h = ap (λ b. b || list_any (is_closed x) es) (list_any-append (is_closed x) earlier (e ∷ [])) ∙ turned (list_any (is_closed x) earlier) (is_closed x e) (list_any (is_closed x) es) h
  where
    turned : (a b c : Bool) → (a || (b || c)) ≡ true → ((a || (b || false)) || c) ≡ true
    turned true b c g = refl
    turned false true c g = refl
    turned false false c g = g

-- the first time that it is met
first_met : (u : NamedType) (n : ℕ) (earlier es : List Event) → list_any (is_met (array u n)) earlier ≡ false → Closes earlier (met (array u n) ∷ es) u → list_any (same_type (array u n)) (listed earlier (met (array u n) ∷ es)) ≡ true
first_met u n earlier es h c = by u (waits earlier u) refl h c
  where
    now : (v : NamedType) → list_any (is_met (array v n)) earlier ≡ false → waits earlier v ≡ false → list_any (same_type (array v n)) (listed earlier (met (array v n) ∷ es)) ≡ true
    now v g e =
        any_front (same_type (array v n)) (if list_any (is_met (array v n)) earlier || waits earlier v then [] else array v n ∷ []) (listed (earlier ++ met (array v n) ∷ []) es)
        (ap (λ b. list_any (same_type (array v n)) (if b || waits earlier v then [] else array v n ∷ [])) g ∙ ap (λ b. list_any (same_type (array v n)) (if b then [] else array v n ∷ [])) e ∙ ap (λ b. b || false) (same_refl (array v n)))

    left_out : (a c : Bool) → not a ≡ true → (a || c) ≡ true → c ≡ true
    left_out true c p q = absurd (cc)
    left_out false c p q = q

    by : (v : NamedType) (w : Bool) → waits earlier v ≡ w → list_any (is_met (array v n)) earlier ≡ false → Closes earlier (met (array v n) ∷ es) v → list_any (same_type (array v n)) (listed earlier (met (array v n) ∷ es)) ≡ true
    by v false e g k = now v g e
    by (scalar s) true e g k = absurd (cc)
    by (array v m) true e g k = absurd (cc)
    by (struct x) true e g k =
        any_back (same_type (of_struct x n)) (added earlier (met (of_struct x n))) (listed (earlier ++ met (of_struct x n) ∷ []) es)
        (waited x n (earlier ++ met (of_struct x n) ∷ []) es (any_back (is_met (of_struct x n)) earlier (met (of_struct x n) ∷ []) (ap (λ b. b || false) (same_refl (of_struct x n)))) (left_out (list_any (is_closed x) earlier) (list_any (is_closed x) es) e k))

array_comes : (u : NamedType) (n : ℕ) (earlier es : List Event) → list_any (is_met (array u n)) earlier ≡ false → list_any (is_met (array u n)) es ≡ true → Closes earlier es u → list_any (same_type (array u n)) (listed earlier es) ≡ true
array_comes u n earlier [] h m c = absurd (cc)
array_comes u n earlier (ends x ∷ es) h m c = any_back (same_type (array u n)) (added earlier (ends x)) (listed (earlier ++ ends x ∷ []) es) (array_comes u n (earlier ++ ends x ∷ []) es (none_ends (array u n) x earlier h) m (closes_on (ends x) earlier es u c))
array_comes u n earlier (met v ∷ es) h m c = by (same_type (array u n) v) refl (λ g k l. array_comes u n (earlier ++ met v ∷ []) es g k l)
  where
    by : (b : Bool) → same_type (array u n) v ≡ b
        → (list_any (is_met (array u n)) (earlier ++ met v ∷ []) ≡ false → list_any (is_met (array u n)) es ≡ true → Closes (earlier ++ met v ∷ []) es u → list_any (same_type (array u n)) (listed (earlier ++ met v ∷ []) es) ≡ true)
        → list_any (same_type (array u n)) (listed earlier (met v ∷ es)) ≡ true
    by true e f =
        let same : array u n ≡ v = same_true (array u n) v e in
        let moved : Closes earlier (met (array u n) ∷ es) u = closes_same u c in
        subst (λ w. list_any (same_type (array u n)) (listed earlier (met w ∷ es)) ≡ true) same (first_met u n earlier es h moved)
      where
        closes_same : (w : NamedType) → Closes earlier (met v ∷ es) w → Closes earlier (met (array u n) ∷ es) w
        closes_same (scalar s) k = tt
        closes_same (array w i) k = tt
        closes_same (struct x) k = k
    by false e f =
        let rest : list_any (is_met (array u n)) es ≡ true = sym (ap (λ b. b || list_any (is_met (array u n)) es) e) ∙ m in
        any_back (same_type (array u n)) (added earlier (met v)) (listed (earlier ++ met v ∷ []) es) (f (none_more (array u n) v earlier h e) rest (closes_on (met v) earlier es u c))

struct_comes : (x : List ℕ) (earlier es : List Event) → list_any (is_closed x) es ≡ true → list_any (same_type (struct x)) (listed earlier es) ≡ true
struct_comes x earlier [] c = absurd (cc)
struct_comes x earlier (met v ∷ es) c = any_back (same_type (struct x)) (added earlier (met v)) (listed (earlier ++ met v ∷ []) es) (struct_comes x (earlier ++ met v ∷ []) es c)
struct_comes x earlier (ends y ∷ es) c = by (bytes_eq x y) refl (λ g. struct_comes x (earlier ++ ends y ∷ []) es g)
  where
    by : (b : Bool) → bytes_eq x y ≡ b → (list_any (is_closed x) es ≡ true → list_any (same_type (struct x)) (listed (earlier ++ ends y ∷ []) es) ≡ true) → list_any (same_type (struct x)) (listed earlier (ends y ∷ es)) ≡ true
    by true e f = any_front (same_type (struct x)) (struct y ∷ waiting y [] earlier) (listed (earlier ++ ends y ∷ []) es) (or_left (bytes_eq x y) (list_any (same_type (struct x)) (waiting y [] earlier)) e)
    by false e f = any_back (same_type (struct x)) (struct y ∷ waiting y [] earlier) (listed (earlier ++ ends y ∷ []) es) (f (sym (ap (λ b. b || list_any (is_closed x) es) e) ∙ c))

-- ---- no scalar comes

abbrev IsNoScalar : NamedType → Type 0
IsNoScalar (scalar s) = ⊥
IsNoScalar (struct x) = Unit {0}
IsNoScalar (array u n) = Unit {0}

of_array : (x : List ℕ) (v : NamedType) (b : Bool) → is_array_of x v ≡ b → (c : Bool) → AllByRecursion IsNoScalar (if b && c then v ∷ [] else [])
of_array x v false e c = tt
of_array x v true e false = tt
of_array x (scalar s) true e true = absurd (cc)
of_array x (struct y) true e true = absurd (cc)
of_array x (array u n) true e true = (tt, tt)

waiting_plain : (x : List ℕ) (earlier es : List Event) → AllByRecursion IsNoScalar (waiting x earlier es)
waiting_plain x earlier [] = tt
waiting_plain x earlier (ends y ∷ es) = waiting_plain x (earlier ++ ends y ∷ []) es
waiting_plain x earlier (met v ∷ es) = all_join IsNoScalar (if is_array_of x v && not (list_any (is_met v) earlier) then v ∷ [] else []) (waiting x (earlier ++ met v ∷ []) es)
    (of_array x v (is_array_of x v) refl (not (list_any (is_met v) earlier))) (waiting_plain x (earlier ++ met v ∷ []) es)

one_plain : (u : NamedType) (n : ℕ) (b : Bool) → AllByRecursion IsNoScalar (if b then [] else array u n ∷ [])
one_plain u n true = tt
one_plain u n false = (tt, tt)

added_plain : (earlier : List Event) (e : Event) → AllByRecursion IsNoScalar (added earlier e)
added_plain earlier (met (scalar s)) = tt
added_plain earlier (met (struct x)) = tt
added_plain earlier (met (array u n)) = one_plain u n (list_any (is_met (array u n)) earlier || waits earlier u)
added_plain earlier (ends x) = (tt, waiting_plain x [] earlier)

listed_plain : (earlier es : List Event) → AllByRecursion IsNoScalar (listed earlier es)
listed_plain earlier [] = tt
listed_plain earlier (e ∷ es) = all_join IsNoScalar (added earlier e) (listed (earlier ++ e ∷ []) es) (added_plain earlier e) (listed_plain (earlier ++ e ∷ []) es)

-- ---- entries

-- an entry is at the number of its type
entry_at : (all : Declarations) (order : List NamedType) (u : NamedType) (e : TypeEntry) → entry_of all order u ≡ e ∷ [] → (ts : List NamedType) → AllByRecursion IsNoScalar ts → list_any (same_type u) ts ≡ true
    → slice_get (entries all order ts) (number_of ts u) ≡ Some e
entry_at all order u e h [] p m = absurd (cc)
entry_at all order u e h (v ∷ ts) p m = by (same_type u v) refl (λ g. entry_at all order u e h ts p.1 g)
  where
    skip : (w : NamedType) (i : ℕ) → IsNoScalar w → slice_get (entry_of all order w ++ entries all order ts) (1 + i) ≡ slice_get (entries all order ts) i
    skip (scalar s) i k = absurd k
    skip (struct x) i k = let one : 1 + i ≡ suc i = omega arith in ap (slice_get (entry_of all order (struct x) ++ entries all order ts)) one
    skip (array w n) i k = let one : 1 + i ≡ suc i = omega arith in ap (slice_get (entry_of all order (array w n) ++ entries all order ts)) one

    by : (b : Bool) → same_type u v ≡ b → (list_any (same_type u) ts ≡ true → slice_get (entries all order ts) (number_of ts u) ≡ Some e) → slice_get (entries all order (v ∷ ts)) (number_of (v ∷ ts) u) ≡ Some e
    by true q f =
        ap (λ b. slice_get (entries all order (v ∷ ts)) (cond (not b) (1 + number_of ts u) 0)) q
        ∙ ap (λ w. slice_get (entry_of all order w ++ entries all order ts) 0) (sym (same_true u v q))
        ∙ ap (λ ws. slice_get (ws ++ entries all order ts) 0) h
    by false q f =
        ap (λ b. slice_get (entries all order (v ∷ ts)) (cond (not b) (1 + number_of ts u) 0)) q
        ∙ skip v (number_of ts u) p.0
        ∙ f (sym (ap (λ b. b || list_any (same_type u) ts) q) ∙ m)

-- ---- the structs of a text end

pub ended : (all before : Declarations) (xs : List Decl) (x : List ℕ) → IsTrue (is_some (struct_in (reversed before xs) x)) → (is_some (struct_in before x) || list_any (is_closed x) (events_from all before xs)) ≡ true
ended all before [] x h = or_left (is_some (struct_in before x)) false h
ended all before (y ∷ xs) x h = by y (ended all (y ∷ before) xs x h)
  where
    behind : (z : Decl) → list_any (is_closed x) (events_from all (z ∷ before) xs) ≡ true → list_any (is_closed x) (events_from all before (z ∷ xs)) ≡ true
    behind z k = any_back (is_closed x) (map met (judge_decl all before z).types ++ closings z) (events_from all (z ∷ before) xs) k

    other : (z : Decl) → struct_in (z ∷ before) x ≡ struct_in before x → (is_some (struct_in (z ∷ before) x) || list_any (is_closed x) (events_from all (z ∷ before) xs)) ≡ true
        → (is_some (struct_in before x) || list_any (is_closed x) (events_from all before (z ∷ xs))) ≡ true
    other z e k = on (is_some (struct_in before x)) (sym (ap (λ o. is_some o || list_any (is_closed x) (events_from all (z ∷ before) xs)) e) ∙ k)
      where
        on : (b : Bool) → (b || list_any (is_closed x) (events_from all (z ∷ before) xs)) ≡ true → (b || list_any (is_closed x) (events_from all before (z ∷ xs))) ≡ true
        on true g = refl
        on false g = behind z g

    by : (z : Decl) → (is_some (struct_in (z ∷ before) x) || list_any (is_closed x) (events_from all (z ∷ before) xs)) ≡ true → (is_some (struct_in before x) || list_any (is_closed x) (events_from all before (z ∷ xs))) ≡ true
    by (d.Struct at n fields) k = named (bytes_eq n.name x) refl
      where
        named : (b : Bool) → bytes_eq n.name x ≡ b → (is_some (struct_in before x) || list_any (is_closed x) (events_from all before (d.Struct at n fields ∷ xs))) ≡ true
        named true e =
            let own : bytes_eq x n.name ≡ true = nat_list_eq_equiv.symm x n.name ∙ e in
            let there : list_any (is_closed x) (map met (judge_decl all before (d.Struct at n fields)).types ++ closings (d.Struct at n fields)) ≡ true = any_back (is_closed x) (map met (judge_decl all before (d.Struct at n fields)).types) (ends n.name ∷ []) (ap (λ b. b || false) own) in
            or_right (is_some (struct_in before x)) (list_any (is_closed x) (events_from all before (d.Struct at n fields ∷ xs)))
            (any_front (is_closed x) (map met (judge_decl all before (d.Struct at n fields)).types ++ closings (d.Struct at n fields)) (events_from all (d.Struct at n fields ∷ before) xs) there)
        named false e = other (d.Struct at n fields) (ap (λ b. if b then Some (record { fields = fields; before = before }) else struct_in before x) e) k
    by (d.Extern at n ty) k = other (d.Extern at n ty) refl k
    by (d.Stream at n ty init e) k = other (d.Stream at n ty init e) refl k
    by (d.Def at n ty e) k = other (d.Def at n ty e) refl k
    by (d.Trigger at n guard args) k = other (d.Trigger at n guard args) refl k
    by (d.Observer at n e) k = other (d.Observer at n e) refl k

-- ---- the whole text

pub entered : (s : Surface) (u : NamedType) → WellNamed (all_of s) u → IsTrue (list_any (is_met u) (events s)) → IsEntered (all_of s) (type_order s) (types_of_text s) u
unfolding type_order
entered s (scalar c) h m = tt
entered s (struct x) h m =
    entry_at (all_of s) (type_order s) (struct x) (entry.Struct x (fields_of (type_order s) (struct_in (all_of s) x))) refl (listed [] (events s)) (listed_plain [] (events s)) (struct_comes x [] (events s) (ended (all_of s) [] s.decls x h))
entered s (array u n) h m =
    entry_at (all_of s) (type_order s) (array u n) (entry.Array (ty_of (type_order s) u) n) refl (listed [] (events s)) (listed_plain [] (events s)) (array_comes u n [] (events s) refl m (closes u h))
  where
    closes : (v : NamedType) → WellNamed (all_of s) v → Closes [] (events s) v
    closes (scalar c) k = tt
    closes (array v i) k = tt
    closes (struct x) k = ended (all_of s) [] s.decls x k
