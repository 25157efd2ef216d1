-- The types that are met, in the order of the type list.
use Rattle.std.proofs.Common.{◌≡◌, ◌≤◌, ℕ, suc, Bool, true, false, nat_eq, nat_lt, nat_le, List, [], ◌∷◌, ◌++◌, refl, sym, ap, ◌∙◌, subst, append-nil, append_assoc, arith}
use Rattle.std.specs.Prelude.{◌&&◌, ◌||◌, not, if◌then◌else◌, is_some, bytes_eq, slice_get, Some, None}
use Rattle.std.specs.List.{list_any}
use Rattle.std.specs.Option.{option_map}
use Rattle.std.proofs.lemmas.List.Folds.{list_any-append}
use Rattle.std.proofs.lemmas.List.{map-append}
use Rattle.std.proofs.lemmas.Bool.Decides.{nat_tests}
use Rattle.indexmap.specs.IndexSet.{contains}
use Rattle.type_check.specs.declared.known.Known.{Known}
use Rattle.type_check.specs.declared.known.Known.TheVariants as known
use Rattle.type_check.specs.declared.known.Element.{Element}
use Rattle.type_check.specs.declared.known.Element.TheVariants as element
use Rattle.type_check.specs.contracts.known.KnownPartialEq.TheImpl.{ghosts as known_eq}
use Rattle.type_check.specs.declared.order.Order.{Order}
use Rattle.type_check.specs.NamedType.{NamedType, scalar, struct, array, same_type, is_array}
use Rattle.type_check.specs.TypeOrder.{Event, met, ends, is_met, is_closed, is_array_of, waits, waiting, added, listed}
use Rattle.type_check.specs.Standing.{named_element, Means, IsDistinct, AllMean, all_none, all_more, arrays_of, waiting_for, waiting_at, IsOrder, Ends, Grows}
use Rattle.type_check.proofs.SameNames.{nat_same}
use Rattle.type_check.proofs.Meaning.{one_test, same_true, some_struct, same_structs, same_means}
use Rattle.type_check.proofs.Reasons.{means_array}
use Rattle.type_check.proofs.Nodes.{grows_none, grows_then}

-- ---- events at the end

listed_append : (earlier xs ys : List Event) → listed earlier (xs ++ ys) ≡ listed earlier xs ++ listed (earlier ++ xs) ys
listed_append earlier [] ys = ap (λ e. listed e ys) (sym (append-nil earlier))
listed_append earlier (x ∷ xs) ys =
    ap (λ l. added earlier x ++ l) (listed_append (earlier ++ x ∷ []) xs ys)
    ∙ sym (append_assoc (added earlier x) (listed (earlier ++ x ∷ []) xs) (listed ((earlier ++ x ∷ []) ++ xs) ys))
    ∙ ap (λ e. (added earlier x ++ listed (earlier ++ x ∷ []) xs) ++ listed e ys) (append_assoc earlier (x ∷ []) xs)

pub listed_last : (es : List Event) (e : Event) → listed [] (es ++ e ∷ []) ≡ listed [] es ++ added es e
listed_last es e = listed_append [] es (e ∷ []) ∙ ap (λ l. listed [] es ++ l) (append-nil (added es e))

abbrev pub waits_first : List ℕ → List Event → NamedType → List NamedType
waits_first x es t = if is_array_of x t && not (list_any (is_met t) es) then t ∷ [] else []

waiting_append : (x : List ℕ) (earlier xs ys : List Event) → waiting x earlier (xs ++ ys) ≡ waiting x earlier xs ++ waiting x (earlier ++ xs) ys
waiting_append x earlier [] ys = ap (λ e. waiting x e ys) (sym (append-nil earlier))
waiting_append x earlier (met t ∷ xs) ys =
    ap (λ l. waits_first x earlier t ++ l) (waiting_append x (earlier ++ met t ∷ []) xs ys)
    ∙ sym (append_assoc (waits_first x earlier t) (waiting x (earlier ++ met t ∷ []) xs) (waiting x ((earlier ++ met t ∷ []) ++ xs) ys))
    ∙ ap (λ e. (waits_first x earlier t ++ waiting x (earlier ++ met t ∷ []) xs) ++ waiting x e ys) (append_assoc earlier (met t ∷ []) xs)
waiting_append x earlier (ends y ∷ xs) ys =
    waiting_append x (earlier ++ ends y ∷ []) xs ys ∙ ap (λ e. waiting x (earlier ++ ends y ∷ []) xs ++ waiting x e ys) (append_assoc earlier (ends y ∷ []) xs)

pub waiting_last : (x : List ℕ) (es : List Event) (t : NamedType) → waiting x [] (es ++ met t ∷ []) ≡ waiting x [] es ++ waits_first x es t
waiting_last x es t = waiting_append x [] es (met t ∷ []) ∙ ap (λ l. waiting x [] es ++ l) (append-nil (waits_first x es t))

or_false : (a : Bool) → (a || (false || false)) ≡ a
or_false true = refl
or_false false = refl

pub any_last : (p : Event → Bool) (es : List Event) (e : Event) → list_any p (es ++ e ∷ []) ≡ (list_any p es || (p e || false))
any_last p es e = list_any-append p es (e ∷ [])

-- ---- a type that is no array

plain_added : (es : List Event) (t : NamedType) → is_array t ≡ false → added es (met t) ≡ []
plain_added es (scalar s) h = refl
plain_added es (struct x) h = refl
plain_added es (array t n) h = absurd (cc)

plain_waits : (x : List ℕ) (es : List Event) (t : NamedType) → is_array t ≡ false → waits_first x es t ≡ []
plain_waits x es (scalar s) h = refl
plain_waits x es (struct y) h = refl
plain_waits x es (array t n) h = absurd (cc)

plain_apart : (u t : NamedType) → is_array u ≡ true → is_array t ≡ false → same_type u t ≡ false
plain_apart (scalar s) t g h = absurd (cc)
plain_apart (struct x) t g h = absurd (cc)
plain_apart (array u n) (scalar s) g h = refl
plain_apart (array u n) (struct x) g h = refl
plain_apart (array u n) (array t m) g h = absurd (cc)

pub meets_plain : (names : List (List ℕ)) (n : ℕ) (o : Order) (t : NamedType) → is_array t ≡ false → Grows names n o o (t ∷ [])
meets_plain names n o t h = record {
  goes = λ es i. record {
    ended_are = λ k x e. any_last (is_closed x) es (met t) ∙ or_false (list_any (is_closed x) es) ∙ i.ended_are k x e;
    placed = subst (λ ts. AllMean names o.placed ts) (sym (listed_last es (met t) ∙ ap (λ l. listed [] es ++ l) (plain_added es t h) ∙ append-nil (listed [] es))) i.placed;
    met_are = λ k u m a. i.met_are k u m a ∙ sym (any_last (is_met u) es (met t) ∙ ap (λ b. list_any (is_met u) es || (b || false)) (plain_apart u t a h) ∙ or_false (list_any (is_met u) es));
    waiting_are = λ k x e l. subst (λ ts. AllMean names (arrays_of k (waiting_at o k)) ts) (sym (waiting_last x es t ∙ ap (λ w. waiting x [] es ++ w) (plain_waits x es t h) ∙ append-nil (waiting x [] es))) (i.waiting_are k x e l);
  };
}

split_any : (a b : Bool) → (a || b) ≡ false → (a ≡ false) × (b ≡ false)
split_any true b h = absurd (cc)
split_any false b h = (refl, h)

pub meets_plains : (names : List (List ℕ)) (n : ℕ) (o : Order) (ts : List NamedType) → list_any is_array ts ≡ false → Grows names n o o ts
meets_plains names n o [] h = grows_none names n o
meets_plains names n o (t ∷ ts) h = let s = split_any (is_array t) (list_any is_array ts) h in grows_then (meets_plain names n o t s.0) (meets_plains names n o ts s.1)

-- ---- an array

or_one : (a : Bool) → (a || false) ≡ a
or_one true = refl
or_one false = refl

pub all_append : (names : List (List ℕ)) (ks js : List Known) (ts us : List NamedType) → AllMean names ks ts → AllMean names js us → AllMean names (ks ++ js) (ts ++ us)
all_append names [] js [] us h g = g
all_append names [] js (t ∷ ts) us h g = elim h [ ]
all_append names (k ∷ ks) js [] us h g = elim h [ ]
all_append names (k ∷ ks) js (t ∷ ts) us (all_more m ms) g = all_more m (all_append names ks js ts us ms g)

-- where it is met, what is placed and what waits are told by the events before it
grows_by : (names : List (List ℕ)) → IsDistinct names → (n : ℕ) (o p : Order) (k : Known) (t : NamedType) → Means names k t
    → ((es : List Event) → IsOrder names n es o → (l : Known) (u : NamedType) → Means names l u → is_array u ≡ true → contains known_eq.eq p.met l ≡ list_any (is_met u) (es ++ met t ∷ []))
    → ((es : List Event) → IsOrder names n es o → AllMean names p.placed (listed [] es ++ added es (met t)))
    → ((es : List Event) → IsOrder names n es o → (i : ℕ) (x : List ℕ) → slice_get names i ≡ Some x → n ≤ i → AllMean names (arrays_of i (waiting_at p i)) (waiting x [] es ++ waits_first x es t))
    → Grows names n o p (t ∷ [])
grows_by names d n o p k t m more place wait = record {
  goes = λ es i. record {
    ended_are = λ j x e. any_last (is_closed x) es (met t) ∙ or_false (list_any (is_closed x) es) ∙ i.ended_are j x e;
    placed = subst (λ ts. AllMean names p.placed ts) (sym (listed_last es (met t))) (place es i);
    met_are = λ l u q b. more es i l u q b;
    waiting_are = λ j x e l. subst (λ ts. AllMean names (arrays_of j (waiting_at p j)) ts) (sym (waiting_last x es t)) (wait es i j x e l);
  };
}

seen_if : (es : List Event) (u t : NamedType) (b : Bool) → same_type u t ≡ b → list_any (is_met t) es ≡ true → (list_any (is_met u) es || (b || false)) ≡ list_any (is_met u) es
seen_if es u t true e h =
    let f : list_any (is_met u) es ≡ true = subst (λ v. list_any (is_met v) es ≡ true) (sym (same_true u t e)) h in
    ap (λ c. c || true) f ∙ sym f
seen_if es u t false e h = or_false (list_any (is_met u) es)

seen_met : (es : List Event) (u t : NamedType) → list_any (is_met t) es ≡ true → list_any (is_met u) (es ++ met t ∷ []) ≡ list_any (is_met u) es
seen_met es u t h = any_last (is_met u) es (met t) ∙ seen_if es u t (same_type u t) refl h

fresh_met : (names : List (List ℕ)) → IsDistinct names → (n : ℕ) (o p : Order) (k : Known) (t : NamedType) → Means names k t → p.met.keys ≡ o.met.keys ++ k ∷ []
    → (es : List Event) → IsOrder names n es o → (l : Known) (u : NamedType) → Means names l u → is_array u ≡ true → contains known_eq.eq p.met l ≡ list_any (is_met u) (es ++ met t ∷ [])
fresh_met names d n o p k t m keys es i l u q b =
    ap (list_any (known_eq.eq l)) keys ∙ list_any-append (known_eq.eq l) o.met.keys (k ∷ [])
    ∙ ap (λ c. c || (known_eq.eq l k || false)) (i.met_are l u q b)
    ∙ sym (any_last (is_met u) es (met t) ∙ ap (λ c. list_any (is_met u) es || (c || false)) (same_means names d l k u t q m))

seen_added : (es : List Event) (t : NamedType) → is_array t ≡ true → list_any (is_met t) es ≡ true → added es (met t) ≡ []
seen_added es (scalar s) a h = refl
seen_added es (struct x) a h = refl
seen_added es (array u n) a h = ap (λ b. if b || waits es u then [] else array u n ∷ []) h

never : (b : Bool) (t : NamedType) → (if b && not true then t ∷ [] else []) ≡ []
never true t = refl
never false t = refl

seen_waits : (x : List ℕ) (es : List Event) (t : NamedType) → list_any (is_met t) es ≡ true → waits_first x es t ≡ []
seen_waits x es t h = ap (λ b. if is_array_of x t && not b then t ∷ [] else []) h ∙ never (is_array_of x t) t

-- Nothing is kept of an array that was met before; what tells which arrays were met may be written anew.
pub meets_seen : (names : List (List ℕ)) → IsDistinct names → (n : ℕ) (o p : Order) (k : Known) (t : NamedType) → Means names k t → is_array t ≡ true
    → contains known_eq.eq o.met k ≡ true → p.met.keys ≡ o.met.keys
    → p.placed ≡ o.placed → ((i : ℕ) → waiting_at p i ≡ waiting_at o i) → Grows names n o p (t ∷ [])
meets_seen names d n o p k t m a seen keys same wait = grows_by names d n o p k t m
    (λ es i l u q b. ap (list_any (known_eq.eq l)) keys ∙ i.met_are l u q b ∙ sym (seen_met es u t (sym (i.met_are k t m a) ∙ seen)))
    (λ es i.
    let h : list_any (is_met t) es ≡ true = sym (i.met_are k t m a) ∙ seen in
    let e : listed [] es ≡ listed [] es ++ added es (met t) = sym (ap (λ l. listed [] es ++ l) (seen_added es t a h) ∙ append-nil (listed [] es)) in
    subst (λ (q : List Known). AllMean names q (listed [] es ++ added es (met t))) (sym same) (subst (λ ts. AllMean names o.placed ts) e i.placed))
    (λ es i j x e l.
    let h : list_any (is_met t) es ≡ true = sym (i.met_are k t m a) ∙ seen in
    let f : waiting x [] es ≡ waiting x [] es ++ waits_first x es t = sym (ap (λ w. waiting x [] es ++ w) (seen_waits x es t h) ∙ append-nil (waiting x [] es)) in
    subst (λ (q : List ℕ). AllMean names (arrays_of j q) (waiting x [] es ++ waits_first x es t)) (sym (wait j)) (subst (λ ts. AllMean names (arrays_of j (waiting_at o j)) ts) f (i.waiting_are j x e l)))

-- ---- an array that is met first

-- whether an element is the struct of this number
abbrev pub of_elem : ℕ → Element → Bool
of_elem j (element.Scalar s) = false
of_elem j (element.Struct i) = nat_eq j i

of_is : (names : List (List ℕ)) → IsDistinct names → (e : Element) (u : NamedType) (len : ℕ) → named_element names e ≡ Some u → (j : ℕ) (x : List ℕ) → slice_get names j ≡ Some x → is_array_of x (array u len) ≡ of_elem j e
of_is names d (element.Scalar s) u len m j x f = let q : u ≡ scalar s = cc in ap (λ v. is_array_of x (array v len)) q
of_is names d (element.Struct i) u len m j x f = let p = some_struct (slice_get names i) u m in ap (λ v. is_array_of x (array v len)) p.2 ∙ same_structs names d j i x p.0 f p.1

waits_if : (n i : ℕ) (b : Bool) → nat_le n i ≡ b → not (nat_lt i n) ≡ is_some (if b then Some i else None)
waits_if n i true h = grind (arith, nat_tests, h)
waits_if n i false h = grind (arith, nat_tests, h)

waits_is : (names : List (List ℕ)) (n : ℕ) (es : List Event) → ((i : ℕ) (x : List ℕ) → slice_get names i ≡ Some x → list_any (is_closed x) es ≡ nat_lt i n) → (e : Element) (u : NamedType) → named_element names e ≡ Some u → waits es u ≡ is_some (waiting_for n e)
waits_is names n es f (element.Scalar s) u m = let q : u ≡ scalar s = cc in ap (waits es) q
waits_is names n es f (element.Struct i) u m = let p = some_struct (slice_get names i) u m in ap (waits es) p.2 ∙ ap not (f i p.0 p.1) ∙ waits_if n i (nat_le n i) refl

not_if : (n i j : ℕ) (b : Bool) → nat_le n i ≡ b → (if b then Some i else None) ≡ None → n ≤ j → nat_eq j i ≡ false
not_if n i j true h e l = absurd (cc)
not_if n i j false h e l = grind (arith, nat_tests, h, l)

not_of : (n j : ℕ) (e : Element) → waiting_for n e ≡ None → n ≤ j → of_elem j e ≡ false
not_of n j (element.Scalar s) h l = refl
not_of n j (element.Struct i) h l = not_if n i j (nat_le n i) refl h l

-- it is placed
pub meets_placed : (names : List (List ℕ)) → IsDistinct names → (n : ℕ) (o p : Order) (e : Element) (len : ℕ) (u : NamedType) → Means names (known.Element e) u
    → contains known_eq.eq o.met (known.Array e len) ≡ false → p.met.keys ≡ o.met.keys ++ known.Array e len ∷ []
    → waiting_for n e ≡ None → p.placed ≡ o.placed ++ known.Array e len ∷ [] → ((i : ℕ) → waiting_at p i ≡ waiting_at o i) → Grows names n o p (array u len ∷ [])
meets_placed names d n o p e len u m fresh keys none same wait =
    let mk : Means names (known.Array e len) (array u len) = means_array names e len u m in
    grows_by names d n o p (known.Array e len) (array u len) mk (fresh_met names d n o p (known.Array e len) (array u len) mk keys)
    (λ es i.
    let h : list_any (is_met (array u len)) es ≡ false = sym (i.met_are (known.Array e len) (array u len) mk refl) ∙ fresh in
    let w : waits es u ≡ false = waits_is names n es i.ended_are e u m.is ∙ ap is_some none in
    let f : added es (met (array u len)) ≡ array u len ∷ [] = ap (λ b. if b || waits es u then [] else array u len ∷ []) h ∙ ap (λ b. if b then [] else array u len ∷ []) w in
    subst (λ (q : List Known). AllMean names q (listed [] es ++ added es (met (array u len)))) (sym same)
    (subst (λ (ts : List NamedType). AllMean names (o.placed ++ known.Array e len ∷ []) (listed [] es ++ ts)) (sym f)
    (all_append names o.placed (known.Array e len ∷ []) (listed [] es) (array u len ∷ []) i.placed (all_more mk all_none))))
    (λ es i j x g l.
    let f : is_array_of x (array u len) ≡ false = of_is names d e u len m.is j x g ∙ not_of n j e none l in
    let v : waits_first x es (array u len) ≡ [] = ap (λ b. if b && not (list_any (is_met (array u len)) es) then array u len ∷ [] else []) f in
    subst (λ (q : List ℕ). AllMean names (arrays_of j q) (waiting x [] es ++ waits_first x es (array u len))) (sym (wait j))
    (subst (λ (ts : List NamedType). AllMean names (arrays_of j (waiting_at o j)) ts) (sym (ap (λ w. waiting x [] es ++ w) v ∙ append-nil (waiting x [] es))) (i.waiting_are j x g l)))

waits_struct : (n : ℕ) (e : Element) (i : ℕ) → waiting_for n e ≡ Some i → e ≡ element.Struct i
waits_struct n (element.Scalar s) i h = absurd (cc)
waits_struct n (element.Struct j) i h = if_struct (nat_le n j) j i h
  where
    if_struct : (b : Bool) (j i : ℕ) → (if b then Some j else None) ≡ Some i → element.Struct j ≡ element.Struct i
    if_struct true j i h = cc
    if_struct false j i h = absurd (cc)

wait_more : (names : List (List ℕ)) (i j len : ℕ) (u : NamedType) (b : Bool) (ws : List ℕ) (vs : List NamedType) → nat_eq i j ≡ b → Means names (known.Array (element.Struct i) len) (array u len) → AllMean names (arrays_of j ws) vs
    → AllMean names (arrays_of j (ws ++ (if b then len ∷ [] else []))) (vs ++ (if b && true then array u len ∷ [] else []))
wait_more names i j len u true ws vs h m g =
    subst (λ (ks : List Known). AllMean names ks (vs ++ array u len ∷ [])) (sym (map-append (λ n. known.Array (element.Struct j) n) ws (len ∷ [])))
    (all_append names (arrays_of j ws) (arrays_of j (len ∷ [])) vs (array u len ∷ []) g (all_more (subst (λ (k : ℕ). Means names (known.Array (element.Struct k) len) (array u len)) (nat_same i j h) m) all_none))
wait_more names i j len u false ws vs h m g =
    subst (λ (ks : List ℕ). AllMean names (arrays_of j ks) (vs ++ [])) (sym (append-nil ws)) (subst (λ (ts : List NamedType). AllMean names (arrays_of j ws) ts) (sym (append-nil vs)) g)

eq_sym : (i j : ℕ) → nat_eq i j ≡ nat_eq j i
eq_sym i j = one_test (nat_eq i j) (nat_eq j i) (λ h. grind (arith, nat_tests, h)) (λ h. grind (arith, nat_tests, h))

-- it waits for its struct
pub meets_waits : (names : List (List ℕ)) → IsDistinct names → (n : ℕ) (o p : Order) (e : Element) (len number : ℕ) (u : NamedType) → Means names (known.Element e) u
    → contains known_eq.eq o.met (known.Array e len) ≡ false → p.met.keys ≡ o.met.keys ++ known.Array e len ∷ []
    → waiting_for n e ≡ Some number → p.placed ≡ o.placed → ((i : ℕ) → waiting_at p i ≡ waiting_at o i ++ (if nat_eq number i then len ∷ [] else [])) → Grows names n o p (array u len ∷ [])
meets_waits names d n o p e len number u m fresh keys for same wait =
    let mk : Means names (known.Array e len) (array u len) = means_array names e len u m in
    let is = waits_struct n e number for in
    grows_by names d n o p (known.Array e len) (array u len) mk (fresh_met names d n o p (known.Array e len) (array u len) mk keys)
    (λ es i.
    let h : list_any (is_met (array u len)) es ≡ false = sym (i.met_are (known.Array e len) (array u len) mk refl) ∙ fresh in
    let w : waits es u ≡ true = waits_is names n es i.ended_are e u m.is ∙ ap is_some for in
    let f : added es (met (array u len)) ≡ [] = ap (λ b. if b || waits es u then [] else array u len ∷ []) h ∙ ap (λ b. if b then [] else array u len ∷ []) w in
    subst (λ (q : List Known). AllMean names q (listed [] es ++ added es (met (array u len)))) (sym same)
    (subst (λ (ts : List NamedType). AllMean names o.placed ts) (sym (ap (λ l. listed [] es ++ l) f ∙ append-nil (listed [] es))) i.placed))
    (λ es i j x g l.
    let h : list_any (is_met (array u len)) es ≡ false = sym (i.met_are (known.Array e len) (array u len) mk refl) ∙ fresh in
    let f : is_array_of x (array u len) ≡ nat_eq number j = of_is names d e u len m.is j x g ∙ ap (of_elem j) is ∙ eq_sym j number in
    let v : waits_first x es (array u len) ≡ (if nat_eq number j && true then array u len ∷ [] else []) =
    ap (λ b. if b && not (list_any (is_met (array u len)) es) then array u len ∷ [] else []) f ∙ ap (λ b. if nat_eq number j && not b then array u len ∷ [] else []) h in
    subst (λ (q : List ℕ). AllMean names (arrays_of j q) (waiting x [] es ++ waits_first x es (array u len))) (sym (wait j))
    (subst (λ (ts : List NamedType). AllMean names (arrays_of j (waiting_at o j ++ (if nat_eq number j then len ∷ [] else []))) (waiting x [] es ++ ts)) (sym v)
    (wait_more names number j len u (nat_eq number j) (waiting_at o j) (waiting x [] es) refl (subst (λ (a : Element). Means names (known.Array a len) (array u len)) is mk) (i.waiting_are j x g l))))

-- ---- the end of a struct

lt_more : (j n : ℕ) → (nat_lt j n || nat_eq j n) ≡ nat_lt j (suc n)
lt_more j n = one_test (nat_lt j n || nat_eq j n) (nat_lt j (suc n)) (λ h. grind (arith, nat_tests, h)) (λ h. grind (arith, nat_tests, h))

pub struct_ends : (names : List (List ℕ)) → IsDistinct names → (number : ℕ) (o p : Order) (x : List ℕ) → slice_get names number ≡ Some x
    → p.placed ≡ o.placed ++ known.Element (element.Struct number) ∷ arrays_of number (waiting_at o number) → p.met ≡ o.met → ((i : ℕ) → waiting_at p i ≡ waiting_at o i) → Ends names number o p x
struct_ends names d number o p x s place same wait = record {
  goes = λ es i. record {
    ended_are = λ j y e. any_last (is_closed y) es (ends x) ∙ ap (λ b. b || (bytes_eq y x || false)) (i.ended_are j y e)
        ∙ ap (λ b. nat_lt j number || b) (or_one (bytes_eq y x) ∙ same_structs names d j number y x e s) ∙ lt_more j number;
    placed = subst (λ (q : List Known). AllMean names q (listed [] (es ++ ends x ∷ []))) (sym place)
        (subst (λ (ts : List NamedType). AllMean names (o.placed ++ known.Element (element.Struct number) ∷ arrays_of number (waiting_at o number)) ts) (sym (listed_last es (ends x)))
        (all_append names o.placed (known.Element (element.Struct number) ∷ arrays_of number (waiting_at o number)) (listed [] es) (struct x ∷ waiting x [] es) i.placed
        (all_more (record { is = ap (option_map struct) s }) (i.waiting_are number x s (omega arith)))));
    met_are = λ k t m a. ap (λ q. contains known_eq.eq q k) same ∙ i.met_are k t m a ∙ sym (any_last (is_met t) es (ends x) ∙ or_false (list_any (is_met t) es));
    waiting_are = λ j y e l. subst (λ (q : List ℕ). AllMean names (arrays_of j q) (waiting y [] (es ++ ends x ∷ []))) (sym (wait j))
        (subst (λ (ts : List NamedType). AllMean names (arrays_of j (waiting_at o j)) ts) (sym (waiting_append y [] es (ends x ∷ []) ∙ append-nil (waiting y [] es))) (i.waiting_are j y e (omega (arith, l))));
  };
}
