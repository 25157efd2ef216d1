-- Nodes and their parts.
use Rattle.std.proofs.Common.{◌≡◌, ◌<◌, ◌≤◌, ◌+◌, length, take, drop, get_or, ℕ, Bool, true, false, List, [], ◌∷◌, ◌++◌, map, refl, sym, ap, ◌∙◌, subst, append-nil, append_assoc}
use Rattle.std.specs.Prelude.{◌&&◌, is_some, Option, Some, None, Ok, Err}
use Rattle.std.specs.List.{list_all}
use Rattle.std.specs.Option.{option_map, option_map_or}
use Rattle.std.proofs.lemmas.Grind.{flat_map-append}
use Rattle.std.proofs.lemmas.List.{map-append, take_more, take_all, take-append-drop, drop_more}
use Rattle.std.proofs.lemmas.List.Concat.{flat_map-cons}
use Rattle.type_check.specs.declared.fault.TypeFault.{TypeFault}
use Rattle.type_check.specs.declared.fault.TypeFault.TheVariants.{Redeclared, Unknown, TypeClash, NestedArray, TypeTooWide, DropOfNoBuffer, DropTooFar, Memory}
use Rattle.type_check.specs.declared.known.Known.{Known}
use Rattle.type_check.specs.declared.order.Order.{Order}
use Rattle.type_check.specs.declared.scope.Item.{Item}
use Rattle.type_check.specs.NamedType.{NamedType, bool}
use Rattle.type_check.specs.Judged.{Verdict, has, lacks, Judged, or_else, first_of, have_types, all_types, over_parts, judged, type_of, types_of, Named, extern_of, stream_of, def_of, declared}
use Rattle.type_check.specs.TypeOrder.{Event, met}
use Rattle.type_check.specs.Standing.{Means, AllMean, all_none, all_more, MeansOption, both_none, both_some, IsVerdict, is_type, is_fault, all_known, IsOrder, Grows, IsTyped, Gives, GivesType, AllMeanOption, options_none, options_more, ty_of_part, AreParts, GivesParts, AreTypedParts, IsItem, an_item, kind_of, IsWritten}

-- ---- faults

pub gives_fault : (names : List (List ℕ)) (n : ℕ) (a b : Order) (j : Judged) (e : TypeFault) → j.fault ≡ Some e → Gives names n a b j (Err e)
gives_fault names n a b j (Redeclared at) h = h
gives_fault names n a b j (Unknown at) h = h
gives_fault names n a b j (TypeClash at) h = h
gives_fault names n a b j (NestedArray at) h = h
gives_fault names n a b j (TypeTooWide at) h = h
gives_fault names n a b j (DropOfNoBuffer at) h = h
gives_fault names n a b j (DropTooFar at) h = h
gives_fault names n a b j Memory h = tt

pub gives_memory : (names : List (List ℕ)) (n : ℕ) (a b : Order) (j : Judged) (e : TypeFault) → e ≡ Memory → Gives names n a b j (Err e)
gives_memory names n a b j e h = subst (λ (x : TypeFault). Gives names n a b j (Err x)) (sym h) tt

-- a part's fault is the node's
pub gives_on : (names : List (List ℕ)) (n : ℕ) (a b c d : Order) (j k : Judged) (e : TypeFault) → ((x : TypeFault) → j.fault ≡ Some x → k.fault ≡ Some x) → Gives names n a b j (Err e) → Gives names n c d k (Err e)
gives_on names n a b c d j k (Redeclared at) f h = f (Redeclared at) h
gives_on names n a b c d j k (Unknown at) f h = f (Unknown at) h
gives_on names n a b c d j k (TypeClash at) f h = f (TypeClash at) h
gives_on names n a b c d j k (NestedArray at) f h = f (NestedArray at) h
gives_on names n a b c d j k (TypeTooWide at) f h = f (TypeTooWide at) h
gives_on names n a b c d j k (DropOfNoBuffer at) f h = f (DropOfNoBuffer at) h
gives_on names n a b c d j k (DropTooFar at) f h = f (DropTooFar at) h
gives_on names n a b c d j k Memory f h = tt

pub type_on : (names : List (List ℕ)) (n : ℕ) (a b c d : Order) (j k : Judged) (e : TypeFault) → ((x : TypeFault) → j.fault ≡ Some x → k.fault ≡ Some x) → GivesType names n a b j (Err e) → Gives names n c d k (Err e)
type_on names n a b c d j k (Redeclared at) f h = f (Redeclared at) h
type_on names n a b c d j k (Unknown at) f h = f (Unknown at) h
type_on names n a b c d j k (TypeClash at) f h = f (TypeClash at) h
type_on names n a b c d j k (NestedArray at) f h = f (NestedArray at) h
type_on names n a b c d j k (TypeTooWide at) f h = f (TypeTooWide at) h
type_on names n a b c d j k (DropOfNoBuffer at) f h = f (DropOfNoBuffer at) h
type_on names n a b c d j k (DropTooFar at) f h = f (DropTooFar at) h
type_on names n a b c d j k Memory f h = tt

pub parts_on : (names : List (List ℕ)) (n : ℕ) (a b c d : Order) (ps : List Judged) (k : Judged) (e : TypeFault) → ((x : TypeFault) → first_of ps ≡ Some x → k.fault ≡ Some x) → GivesParts names n a b ps (Err e) → Gives names n c d k (Err e)
parts_on names n a b c d ps k (Redeclared at) f h = f (Redeclared at) h
parts_on names n a b c d ps k (Unknown at) f h = f (Unknown at) h
parts_on names n a b c d ps k (TypeClash at) f h = f (TypeClash at) h
parts_on names n a b c d ps k (NestedArray at) f h = f (NestedArray at) h
parts_on names n a b c d ps k (TypeTooWide at) f h = f (TypeTooWide at) h
parts_on names n a b c d ps k (DropOfNoBuffer at) f h = f (DropOfNoBuffer at) h
parts_on names n a b c d ps k (DropTooFar at) f h = f (DropTooFar at) h
parts_on names n a b c d ps k Memory f h = tt

-- the fault of a further part among parts
pub on_parts : (names : List (List ℕ)) (n : ℕ) (a b c d : Order) (j : Judged) (ps : List Judged) (e : TypeFault) → ((x : TypeFault) → j.fault ≡ Some x → first_of ps ≡ Some x) → Gives names n a b j (Err e) → GivesParts names n c d ps (Err e)
on_parts names n a b c d j ps (Redeclared at) f h = f (Redeclared at) h
on_parts names n a b c d j ps (Unknown at) f h = f (Unknown at) h
on_parts names n a b c d j ps (TypeClash at) f h = f (TypeClash at) h
on_parts names n a b c d j ps (NestedArray at) f h = f (NestedArray at) h
on_parts names n a b c d j ps (TypeTooWide at) f h = f (TypeTooWide at) h
on_parts names n a b c d j ps (DropOfNoBuffer at) f h = f (DropOfNoBuffer at) h
on_parts names n a b c d j ps (DropTooFar at) f h = f (DropTooFar at) h
on_parts names n a b c d j ps Memory f h = tt

over_fault : (b : Bool) (ps : List Judged) (v : Verdict) (e : TypeFault) → first_of ps ≡ Some e → (over_parts b ps v).fault ≡ Some e
over_fault false ps v e h = h
over_fault true ps (has t) e h = h
over_fault true ps (lacks x) e h = ap (λ o. or_else o (Some x)) h

pub judged_fault : (ps : List Judged) (v : Verdict) (e : TypeFault) → first_of ps ≡ Some e → (judged ps v).fault ≡ Some e
judged_fault ps v e h = over_fault (have_types ps) ps v e h

first_none : (o r : Option TypeFault) → or_else o r ≡ None → (o ≡ None) × (r ≡ None)
first_none None r h = (refl, h)
first_none (Some x) r h = absurd (cc)

pub first_at : (ps : List Judged) (j : Judged) (qs : List Judged) (e : TypeFault) → first_of ps ≡ None → j.fault ≡ Some e → first_of (ps ++ j ∷ qs) ≡ Some e
first_at [] j qs e n h = ap (λ o. or_else o (first_of qs)) h
first_at (p ∷ ps) j qs e n h = let m = first_none p.fault (first_of ps) n in ap (λ o. or_else o (first_of (ps ++ j ∷ qs))) m.0 ∙ first_at ps j qs e m.1 h

first_more : (ps : List Judged) (j : Judged) → first_of ps ≡ None → j.fault ≡ None → first_of (ps ++ j ∷ []) ≡ None
first_more [] j n h = ap (λ o. or_else o None) h
first_more (p ∷ ps) j n h = let m = first_none p.fault (first_of ps) n in ap (λ o. or_else o (first_of (ps ++ j ∷ []))) m.0 ∙ first_more ps j m.1 h

-- ---- what was met

pub grows_none : (names : List (List ℕ)) (n : ℕ) (a : Order) → Grows names n a a []
grows_none names n a = record { goes = λ es h. subst (λ (x : List Event). IsOrder names n x a) (sym (append-nil es)) h }

pub grows_then : {names : List (List ℕ)} {n : ℕ} {a b c : Order} {ts us : List NamedType} → Grows names n a b ts → Grows names n b c us → Grows names n a c (ts ++ us)
grows_then {names} {n} {a} {b} {c} {ts} {us} g h = record {
  goes = λ es i. subst (λ (x : List Event). IsOrder names n x c) (append_assoc es (map met ts) (map met us) ∙ ap (λ x. es ++ x) (sym (map-append met ts us))) (h.goes (es ++ map met ts) (g.goes es i));
}

pub grows_is : {names : List (List ℕ)} {n : ℕ} {a b : Order} {ts us : List NamedType} → ts ≡ us → Grows names n a b ts → Grows names n a b us
grows_is {names} {n} {a} {b} {ts} {us} e g = subst (λ (x : List NamedType). Grows names n a b x) e g

-- ---- parts

options_more_last : (names : List (List ℕ)) (ks : List (Option Known)) (ts : List (Option NamedType)) (k : Option Known) (t : Option NamedType) → AllMeanOption names ks ts → MeansOption names k t → AllMeanOption names (ks ++ k ∷ []) (ts ++ t ∷ [])
options_more_last names [] [] k t h m = options_more m options_none
options_more_last names [] (u ∷ ts) k t h m = elim h [ ]
options_more_last names (j ∷ ks) [] k t h m = elim h [ ]
options_more_last names (j ∷ ks) (u ∷ ts) k t (options_more x xs) m = options_more x (options_more_last names ks ts k t xs m)

pub parts_none : (names : List (List ℕ)) (n : ℕ) (a : Order) → AreParts names n a a [] []
parts_none names n a = record { faultless = refl; types_are = options_none; grows = grows_none names n a }

all_types_more : (ps : List Judged) (j : Judged) → all_types ps ++ j.types ≡ all_types (ps ++ j ∷ [])
all_types_more ps j = ap (λ x. all_types ps ++ x) (sym (flat_map-cons (λ (p : Judged). p.types) j [] ∙ append-nil j.types)) ∙ sym (flat_map-append (λ (p : Judged). p.types) ps (j ∷ []))

pub parts_more : {names : List (List ℕ)} {n : ℕ} {a b c : Order} {ps : List Judged} {ks : List (Option Known)} {j : Judged} {k : Option Known} → AreParts names n a b ps ks → IsTyped names n b c j k → AreParts names n a c (ps ++ j ∷ []) (ks ++ k ∷ [])
parts_more {names} {n} {a} {b} {c} {ps} {ks} {j} {k} p t = record {
  faultless = first_more ps j p.faultless t.faultless;
  types_are = subst (λ (x : List (Option NamedType)). AllMeanOption names (ks ++ k ∷ []) x) (sym (map-append ty_of_part ps (j ∷ []))) (options_more_last names ks (map ty_of_part ps) k j.ty p.types_are t.type_is);
  grows = grows_is (all_types_more ps j) (grows_then p.grows t.grows);
}

pub parts_one : {names : List (List ℕ)} {n : ℕ} {a b : Order} {j : Judged} {k : Option Known} → IsTyped names n a b j k → AreParts names n a b (j ∷ []) (k ∷ [])
parts_one {names} {n} {a} {b} {j} {k} t = parts_more (parts_none names n a) t

pub parts_two : {names : List (List ℕ)} {n : ℕ} {a b c : Order} {i j : Judged} {k l : Option Known} → IsTyped names n a b i k → IsTyped names n b c j l → AreParts names n a c (i ∷ j ∷ []) (k ∷ l ∷ [])
parts_two s t = parts_more (parts_one s) t

pub parts_three : {names : List (List ℕ)} {n : ℕ} {a b c d : Order} {h i j : Judged} {k l m : Option Known} → IsTyped names n a b h k → IsTyped names n b c i l → IsTyped names n c d j m → AreParts names n a d (h ∷ i ∷ j ∷ []) (k ∷ l ∷ m ∷ [])
parts_three r s t = parts_more (parts_two r s) t

some_both : (names : List (List ℕ)) (k : Option Known) (t : Option NamedType) → MeansOption names k t → is_some t ≡ is_some k
some_both names None None h = refl
some_both names None (Some t) h = elim h [ ]
some_both names (Some k) None h = elim h [ ]
some_both names (Some k) (Some t) h = refl

have_are : (names : List (List ℕ)) (ps : List Judged) (ks : List (Option Known)) → AllMeanOption names ks (map ty_of_part ps) → have_types ps ≡ list_all is_some ks
have_are names [] [] h = refl
have_are names [] (k ∷ ks) h = elim h [ ]
have_are names (p ∷ ps) [] h = elim h [ ]
have_are names (p ∷ ps) (k ∷ ks) (options_more m ms) = ap (λ b. b && have_types ps) (some_both names k p.ty m) ∙ ap (λ b. is_some k && b) (have_are names ps ks ms)

pub parts_typed : {names : List (List ℕ)} {n : ℕ} {a b : Order} {ps : List Judged} {ks : List (Option Known)} → AreParts names n a b ps ks → list_all is_some ks ≡ true → AreTypedParts names n a b ps
parts_typed {names} {n} {a} {b} {ps} {ks} p h = record { faultless = p.faultless; typed = have_are names ps ks p.types_are ∙ h; grows = p.grows }

pub parts_untyped : {names : List (List ℕ)} {n : ℕ} {a b : Order} {ps : List Judged} {ks : List (Option Known)} (v : Verdict) → AreParts names n a b ps ks → list_all is_some ks ≡ false → IsTyped names n a b (judged ps v) None
parts_untyped {names} {n} {a} {b} {ps} {ks} v p h =
    let e = have_are names ps ks p.types_are ∙ h in
    subst (λ (x : Bool). IsTyped names n a b (over_parts x ps v) None) (sym e) (record { faultless = p.faultless; type_is = both_none; grows = p.grows })

-- the type of a part that has one
means_type : (names : List (List ℕ)) (k : Known) (t : Option NamedType) → MeansOption names (Some k) t → Means names k (option_map_or (λ u. u) t bool)
means_type names k None h = elim h [ ]
means_type names k (Some t) (both_some m) = m

pub typed_means : {names : List (List ℕ)} {n : ℕ} {a b : Order} {j : Judged} {k : Known} → IsTyped names n a b j (Some k) → Means names k (type_of j)
typed_means {names} {n} {a} {b} {j} {k} t = means_type names k j.ty t.type_is

-- the types of parts that all have one
pub record AreAll (names : List (List ℕ)) (ps : List Judged) (ks : List (Option Known)) (js : List Known) : Type 0 where
  pub mean : AllMean names js (types_of ps)
  pub all : list_all is_some ks ≡ true

some_all : (o : Option (List Known)) (k : Known) (js : List Known) → option_map (λ ls. k ∷ ls) o ≡ Some js → (ls : List Known) × (o ≡ Some ls) × (js ≡ k ∷ ls)
some_all None k js h = absurd (cc)
some_all (Some ls) k js h = (ls, refl, cc)

pub all_are : (names : List (List ℕ)) (ps : List Judged) (ks : List (Option Known)) (js : List Known) → AllMeanOption names ks (map ty_of_part ps) → all_known ks ≡ Some js → AreAll names ps ks js
all_are names [] [] js h e = record { mean = subst (λ (x : List Known). AllMean names x []) (let q : [] ≡ js = cc in q) all_none; all = refl }
all_are names [] (k ∷ ks) js h e = elim h [ ]
all_are names (p ∷ ps) [] js h e = elim h [ ]
all_are names (p ∷ ps) (None ∷ ks) js h e = absurd (cc)
all_are names (p ∷ ps) (Some k ∷ ks) js (options_more m ms) e =
    let s = some_all (all_known ks) k js e in
    let r = all_are names ps ks s.0 ms s.1 in
    record { mean = subst (λ (x : List Known). AllMean names x (types_of (p ∷ ps))) (sym s.2) (all_more (means_type names k p.ty m) r.mean); all = r.all }

no_all : (o : Option (List Known)) (k : Known) → option_map (λ ls. k ∷ ls) o ≡ None → o ≡ None
no_all None k h = refl
no_all (Some ls) k h = absurd (cc)

pub none_all : (ks : List (Option Known)) → all_known ks ≡ None → list_all is_some ks ≡ false
none_all [] h = absurd (cc)
none_all (None ∷ ks) h = refl
none_all (Some k ∷ ks) h = none_all ks (no_all (all_known ks) k h)

-- ---- the node itself

pub node_fault : (names : List (List ℕ)) (n : ℕ) (a b : Order) (ps : List Judged) (v : Verdict) (e : TypeFault) → AreTypedParts names n a b ps → IsVerdict names v (Err e) → (judged ps v).fault ≡ Some e
node_fault names n a b ps (has t) e p h = elim h [ ]
node_fault names n a b ps (lacks x) e p is_fault = ap (λ y. (over_parts y ps (lacks e)).fault) p.typed ∙ ap (λ o. or_else o (Some e)) p.faultless

verdict_type : (names : List (List ℕ)) (v : Verdict) (k : Known) → IsVerdict names v (Ok k) → (t : NamedType) × (v ≡ has t) × Means names k t
verdict_type names (has t) k (is_type m) = (t, refl, m)
verdict_type names (lacks e) k h = elim h [ ]

pub node_typed : (names : List (List ℕ)) (n : ℕ) (a b c : Order) (ps : List Judged) (v : Verdict) (k : Known) → AreTypedParts names n a b ps → IsVerdict names v (Ok k) → ((t : NamedType) → Means names k t → Grows names n b c (t ∷ [])) → IsTyped names n a c (judged ps v) (Some k)
node_typed names n a b c ps v k p h g =
    let t = verdict_type names v k h in
    subst (λ (x : Verdict). IsTyped names n a c (judged ps x) (Some k)) (sym t.1)
    (subst (λ (y : Bool). IsTyped names n a c (over_parts y ps (has t.0)) (Some k)) (sym p.typed)
    (record { faultless = p.faultless; type_is = both_some t.2; grows = grows_then p.grows (g t.0 t.2) }))

pub typed_none : (names : List (List ℕ)) (n : ℕ) (a : Order) → AreTypedParts names n a a []
typed_none names n a = record { faultless = refl; typed = refl; grows = grows_none names n a }

pub type_fault : (names : List (List ℕ)) (n : ℕ) (a b : Order) (j : Judged) (e : TypeFault) → j.fault ≡ Some e → GivesType names n a b j (Err e)
type_fault names n a b j (Redeclared at) h = h
type_fault names n a b j (Unknown at) h = h
type_fault names n a b j (TypeClash at) h = h
type_fault names n a b j (NestedArray at) h = h
type_fault names n a b j (TypeTooWide at) h = h
type_fault names n a b j (DropOfNoBuffer at) h = h
type_fault names n a b j (DropTooFar at) h = h
type_fault names n a b j Memory h = tt

-- ---- names

pub declared_typed : (names : List (List ℕ)) (n : ℕ) (a : Order) (x : Named) (k : Option Known) → MeansOption names k (declared x).ty → IsTyped names n a a (declared x) k
declared_typed names n a (extern_of ds ty) k m = record { faultless = refl; type_is = m; grows = grows_none names n a }
declared_typed names n a (stream_of ds ty l) k m = record { faultless = refl; type_is = m; grows = grows_none names n a }
declared_typed names n a (def_of ds ty) k m = record { faultless = refl; type_is = m; grows = grows_none names n a }

pub record IsFound (names : List (List ℕ)) (o : Option Named) (i : Item) : Type 0 where
  pub thing : Named
  pub is : o ≡ Some thing
  pub kept : i.kind ≡ kind_of thing
  pub ty : MeansOption names i.ty (declared thing).ty

pub found_of : (names : List (List ℕ)) (o : Option Named) (l : Option Item) (i : Item) → IsItem names o l → l ≡ Some i → IsFound names o i
found_of names None None i h e = absurd (cc)
found_of names None (Some j) i h e = elim h [ ]
found_of names (Some n) None i h e = elim h [ ]
found_of names (Some n) (Some j) i (an_item k m) e = let f : j ≡ i = cc in record { thing = n; is = refl; kept = subst (λ (x : Item). x.kind ≡ kind_of n) f k; ty = subst (λ (x : Item). MeansOption names x.ty (declared n).ty) f m }

pub not_found : (names : List (List ℕ)) (o : Option Named) (l : Option Item) → IsItem names o l → l ≡ None → o ≡ None
not_found names None l h e = refl
not_found names (Some n) None h e = elim h [ ]
not_found names (Some n) (Some j) h e = absurd (cc)

-- ---- written types

pub written_typed : (names : List (List ℕ)) (n : ℕ) (a b : Order) (j : Judged) (k : Known) (w : IsWritten names j k) → Grows names n a a w.inner → Grows names n a b (w.ty ∷ []) → IsTyped names n a b j (Some k)
written_typed names n a b j k w g h = record {
  faultless = w.faultless;
  type_is = subst (λ (o : Option NamedType). MeansOption names (Some k) o) (sym w.ty_is) (both_some w.means);
  grows = grows_is (sym w.types_are) (grows_then g h);
}

-- ---- the fault of one part, where those before it have none

pub first_fault : (names : List (List ℕ)) (n : ℕ) (a b c d : Order) (j : Judged) (ps : List Judged) (v : Verdict) (e : TypeFault) → Gives names n a b j (Err e) → Gives names n c d (judged (j ∷ ps) v) (Err e)
first_fault names n a b c d j ps v e g = gives_on names n a b c d j (judged (j ∷ ps) v) e (λ x h. judged_fault (j ∷ ps) v x (ap (λ o. or_else o (first_of ps)) h)) g

pub second_fault : (names : List (List ℕ)) (n : ℕ) (a b c d : Order) (i j : Judged) (ps : List Judged) (v : Verdict) (e : TypeFault) → i.fault ≡ None → Gives names n a b j (Err e) → Gives names n c d (judged (i ∷ j ∷ ps) v) (Err e)
second_fault names n a b c d i j ps v e f g = gives_on names n a b c d j (judged (i ∷ j ∷ ps) v) e
    (λ x h. judged_fault (i ∷ j ∷ ps) v x (ap (λ o. or_else o (or_else j.fault (first_of ps))) f ∙ ap (λ o. or_else o (first_of ps)) h)) g

-- ---- parts one after another

pub taken_parts : {X : Type 0} (f : X → Judged) (names : List (List ℕ)) (n : ℕ) (a b c : Order) (xs : List X) (i : ℕ) (x out : X) (ks : List (Option Known)) (k : Option Known) → i < length xs → x ≡ get_or xs i out
    → AreParts names n a b (map f (take i xs)) ks → IsTyped names n b c (f x) k → AreParts names n a c (map f (take (i + 1) xs)) (ks ++ k ∷ [])
taken_parts f names n a b c xs i x out ks k low is p t =
    let e : map f (take (i + 1) xs) ≡ map f (take i xs) ++ f x ∷ [] = ap (map f) (take_more xs i out low ∙ ap (λ y. take i xs ++ y ∷ []) (sym is)) ∙ map-append f (take i xs) (x ∷ []) in
    subst (λ (ps : List Judged). AreParts names n a c ps (ks ++ k ∷ [])) (sym e) (parts_more p t)

pub whole_parts : {X : Type 0} (f : X → Judged) (names : List (List ℕ)) (n : ℕ) (a b : Order) (xs : List X) (i : ℕ) (ks : List (Option Known)) → length xs ≤ i → AreParts names n a b (map f (take i xs)) ks → AreParts names n a b (map f xs) ks
whole_parts f names n a b xs i ks high p = subst (λ (ys : List _). AreParts names n a b (map f ys) ks) (take_all i xs high) p

pub failed_part : {X : Type 0} (f : X → Judged) (names : List (List ℕ)) (n : ℕ) (a b c : Order) (xs : List X) (i : ℕ) (x out : X) (ks : List (Option Known)) (e : TypeFault) → i < length xs → x ≡ get_or xs i out
    → AreParts names n a b (map f (take i xs)) ks → Gives names n b c (f x) (Err e) → GivesParts names n a c (map f xs) (Err e)
failed_part f names n a b c xs i x out ks e low is p g =
    let split : map f xs ≡ map f (take i xs) ++ f x ∷ map f (drop (i + 1) xs) =
    ap (map f) (sym (take-append-drop i xs)) ∙ map-append f (take i xs) (drop i xs)
    ∙ ap (λ ys. map f (take i xs) ++ map f ys) (drop_more xs i out low ∙ ap (λ y. y ∷ drop (i + 1) xs) (sym is)) in
    on_parts names n b c a c (f x) (map f xs) e (λ y h. ap first_of split ∙ first_at (map f (take i xs)) (f x) (map f (drop (i + 1) xs)) y p.faultless h) g
