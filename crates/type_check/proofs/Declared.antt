-- Declarations and their parts.
use Rattle.std.proofs.Common.{◌≡◌, ◌<◌, ◌+◌, suc, length, drop, get_or, ℕ, Bool, true, false, List, [], ◌∷◌, ◌++◌, refl, sym, ap, ◌∙◌, subst}
use Rattle.std.specs.Prelude.{◌&&◌, is_some, Option, Some, None, Err}
use Rattle.std.specs.List.{list_all}
use Rattle.std.specs.Option.{option_map_or}
use Rattle.std.proofs.lemmas.List.{map-append, drop_more}
use Rattle.type_check.specs.declared.fault.TypeFault.{TypeFault}
use Rattle.type_check.specs.declared.fault.TypeFault.TheVariants.{Redeclared, Unknown, TypeClash, NestedArray, TypeTooWide, DropOfNoBuffer, DropTooFar, Memory}
use Rattle.type_check.specs.declared.known.Known.{Known}
use Rattle.type_check.specs.declared.order.Order.{Order}
use Rattle.type_check.specs.contracts.known.KnownPartialEq.TheImpl.{ghosts as known_eq}
use Rattle.type_check.specs.NamedType.{NamedType, bool, same_type}
use Rattle.type_check.specs.Judged.{Verdict, has, lacks, Judged, or_else, first_of, over_parts, judged, type_of, types_of}
use Rattle.type_check.specs.Untyped.{agree}
use Rattle.type_check.specs.Standing.{MeansOption, both_some, AllMeanOption, agree_known, Means, AllMean, all_none, all_more, IsDistinct, IsTyped, Gives, GivesParts, AreParts, options_more, AreTypedParts, IsDone, GivesDone}
use Rattle.type_check.proofs.Meaning.{same_means}
use Rattle.type_check.proofs.Meeting.{meets_plain, all_append}
use Rattle.type_check.proofs.Reasons.{all_same_means}
use Rattle.type_check.proofs.Nodes.{grows_then, parts_untyped}

-- where parts have types, the declaration is done if they fit
pub fits_done : (names : List (List ℕ)) (n : ℕ) (a b : Order) (ps : List Judged) (e : TypeFault) → AreTypedParts names n a b ps → IsDone names n a b (judged ps (has bool))
fits_done names n a b ps e p = subst (λ (x : Bool). IsDone names n a b (over_parts x ps (has bool))) (sym p.typed) (record { faultless = p.faultless; grows = grows_then p.grows (meets_plain names n b bool refl) })

pub clash_told : (names : List (List ℕ)) (n : ℕ) (a b : Order) (ps : List Judged) (e : TypeFault) → AreTypedParts names n a b ps → (judged ps (lacks e)).fault ≡ Some e
clash_told names n a b ps e p = ap (λ x. (over_parts x ps (lacks e)).fault) p.typed ∙ ap (λ o. or_else o (Some e)) p.faultless

-- parts one of which has no type
pub untyped_done : {names : List (List ℕ)} {n : ℕ} {a b : Order} {ps : List Judged} {ks : List (Option Known)} (v : Verdict) → AreParts names n a b ps ks → list_all is_some ks ≡ false → IsDone names n a b (judged ps v)
untyped_done v p h = let t = parts_untyped v p h in record { faultless = t.faultless; grows = t.grows }

-- ---- faults of parts

-- what is told of a part is told of the declaration
pub done_on : (X : Type 0) (names : List (List ℕ)) (n : ℕ) (a b c d : Order) (j k : Judged) (e : TypeFault) → ((x : TypeFault) → j.fault ≡ Some x → k.fault ≡ Some x) → Gives names n a b j (Err e) → GivesDone {X = X} names n c d k (Err e)
done_on X names n a b c d j k (Redeclared at) f h = f (Redeclared at) h
done_on X names n a b c d j k (Unknown at) f h = f (Unknown at) h
done_on X names n a b c d j k (TypeClash at) f h = f (TypeClash at) h
done_on X names n a b c d j k (NestedArray at) f h = f (NestedArray at) h
done_on X names n a b c d j k (TypeTooWide at) f h = f (TypeTooWide at) h
done_on X names n a b c d j k (DropOfNoBuffer at) f h = f (DropOfNoBuffer at) h
done_on X names n a b c d j k (DropTooFar at) f h = f (DropTooFar at) h
done_on X names n a b c d j k Memory f h = tt

pub done_parts : (X : Type 0) (names : List (List ℕ)) (n : ℕ) (a b c d : Order) (ps : List Judged) (k : Judged) (e : TypeFault) → ((x : TypeFault) → first_of ps ≡ Some x → k.fault ≡ Some x) → GivesParts names n a b ps (Err e) → GivesDone {X = X} names n c d k (Err e)
done_parts X names n a b c d ps k (Redeclared at) f h = f (Redeclared at) h
done_parts X names n a b c d ps k (Unknown at) f h = f (Unknown at) h
done_parts X names n a b c d ps k (TypeClash at) f h = f (TypeClash at) h
done_parts X names n a b c d ps k (NestedArray at) f h = f (NestedArray at) h
done_parts X names n a b c d ps k (TypeTooWide at) f h = f (TypeTooWide at) h
done_parts X names n a b c d ps k (DropOfNoBuffer at) f h = f (DropOfNoBuffer at) h
done_parts X names n a b c d ps k (DropTooFar at) f h = f (DropTooFar at) h
done_parts X names n a b c d ps k Memory f h = tt

-- the same fault, whatever a good answer would be
pub done_turns : (X Y : Type 0) (names : List (List ℕ)) (n : ℕ) (a b c d : Order) (j : Judged) (e : TypeFault) → GivesDone {X = X} names n a b j (Err e) → GivesDone {X = Y} names n c d j (Err e)
done_turns X Y names n a b c d j (Redeclared at) h = h
done_turns X Y names n a b c d j (Unknown at) h = h
done_turns X Y names n a b c d j (TypeClash at) h = h
done_turns X Y names n a b c d j (NestedArray at) h = h
done_turns X Y names n a b c d j (TypeTooWide at) h = h
done_turns X Y names n a b c d j (DropOfNoBuffer at) h = h
done_turns X Y names n a b c d j (DropTooFar at) h = h
done_turns X Y names n a b c d j Memory h = tt

front_if : (o : Option TypeFault) (ps qs : List Judged) (x : TypeFault) → (first_of ps ≡ Some x → first_of (ps ++ qs) ≡ Some x) → or_else o (first_of ps) ≡ Some x → or_else o (first_of (ps ++ qs)) ≡ Some x
front_if None ps qs x f h = f h
front_if (Some e) ps qs x f h = h

-- the first fault of some parts is that of more
pub first_front : (ps qs : List Judged) (x : TypeFault) → first_of ps ≡ Some x → first_of (ps ++ qs) ≡ Some x
first_front [] qs x h = absurd (cc)
first_front (p ∷ ps) qs x h = front_if p.fault ps qs x (first_front ps qs x) h

-- ---- a part before others

pub parts_cons : {names : List (List ℕ)} {n : ℕ} {a b c : Order} {j : Judged} {k : Option Known} {ps : List Judged} {ks : List (Option Known)} → IsTyped names n a b j k → AreParts names n b c ps ks → AreParts names n a c (j ∷ ps) (k ∷ ks)
parts_cons {names} {n} {a} {b} {c} {j} {k} {ps} {ks} t p = record {
  faultless = ap (λ o. or_else o (first_of ps)) t.faultless ∙ p.faultless;
  types_are = options_more t.type_is p.types_are;
  grows = grows_then t.grows p.grows;
}

pub all_last : (ks : List (Option Known)) (k : Option Known) → list_all is_some (ks ++ k ∷ []) ≡ (list_all is_some ks && is_some k)
all_last [] None = refl
all_last [] (Some k) = refl
all_last (None ∷ ks) k = refl
all_last (Some j ∷ ks) k = all_last ks k

pub and_false : (a : Bool) → (a && false) ≡ false
and_false true = refl
and_false false = refl

pub and_true : (a : Bool) → (a && true) ≡ a
and_true true = refl
and_true false = refl

same_last : (k : Known) (js : List Known) (j : Known) → list_all (λ other. known_eq.eq k other) (js ++ j ∷ []) ≡ (list_all (λ other. known_eq.eq k other) js && known_eq.eq k j)
same_last k [] j = and_true (known_eq.eq k j)
same_last k (i ∷ js) j = ap (λ b. known_eq.eq k i && b) (same_last k js j) ∙ sym (and_more (known_eq.eq k i) (list_all (λ other. known_eq.eq k other) js) (known_eq.eq k j))
  where
    and_more : (a b c : Bool) → ((a && b) && c) ≡ (a && (b && c))
    and_more true b c = refl
    and_more false b c = refl

-- values and one more are of the written type
pub of_same_type : (names : List (List ℕ)) → IsDistinct names → (k : Known) (t : NamedType) → Means names k t → (js : List Known) (ps : List Judged) → AllMean names js (types_of ps) → (j : Known) (v : Judged) → Means names j (type_of v)
    → (list_all (λ other. known_eq.eq k other) js && known_eq.eq k j) ≡ list_all (same_type t) (types_of (ps ++ v ∷ []))
of_same_type names d k t m js ps ms j v mj =
    let us : AllMean names (js ++ j ∷ []) (types_of (ps ++ v ∷ [])) = subst (λ (ts : List NamedType). AllMean names (js ++ j ∷ []) ts) (sym (map-append type_of ps (v ∷ []))) (all_append names js (j ∷ []) (types_of ps) (type_of v ∷ []) ms (all_more mj all_none)) in
    sym (all_same_means names d k t m (js ++ j ∷ []) (types_of (ps ++ v ∷ [])) us ∙ same_last k js j)

-- ---- triggers of one name

agree_means : (names : List (List ℕ)) → IsDistinct names → (k : Option Known) (t : Option NamedType) (j : Known) (u : NamedType) → MeansOption names k t → Means names j u → option_map_or (λ i. known_eq.eq i j) k true ≡ option_map_or (λ s. same_type s u) t true
agree_means names d None None j u h m = refl
agree_means names d (Some k) None j u h m = elim h [ ]
agree_means names d None (Some t) j u h m = elim h [ ]
agree_means names d (Some k) (Some t) j u (both_some g) m = sym (same_means names d k j t u g m)

pub all_agree : (names : List (List ℕ)) → IsDistinct names → (ks : List (Option Known)) (ss : List (Option NamedType)) (js : List Known) (ts : List NamedType) → AllMeanOption names ks ss → AllMean names js ts → agree_known ks js ≡ agree ss ts
all_agree names d [] [] [] [] h g = refl
all_agree names d [] [] [] (t ∷ ts) h g = elim g [ ]
all_agree names d [] [] (j ∷ js) [] h g = elim g [ ]
all_agree names d [] [] (j ∷ js) (t ∷ ts) h g = refl
all_agree names d [] (s ∷ ss) js ts h g = elim h [ ]
all_agree names d (k ∷ ks) [] js ts h g = elim h [ ]
all_agree names d (k ∷ ks) (s ∷ ss) [] [] h g = refl
all_agree names d (k ∷ ks) (s ∷ ss) [] (t ∷ ts) h g = elim g [ ]
all_agree names d (k ∷ ks) (s ∷ ss) (j ∷ js) [] h g = elim g [ ]
all_agree names d (k ∷ ks) (s ∷ ss) (j ∷ js) (t ∷ ts) (options_more m ms) (all_more l ls) =
    ap (λ b. b && agree_known ks js) (agree_means names d k s j t m l) ∙ ap (λ b. option_map_or (λ u. same_type u t) s true && b) (all_agree names d ks ss js ts ms ls)

pub unequal : (ks : List (Option Known)) (js : List Known) → (length ks ≡ length js → ⊥) → agree_known ks js ≡ false
unequal [] [] h = absurd (h refl)
unequal [] (j ∷ js) h = refl
unequal (k ∷ ks) [] h = refl
unequal (k ∷ ks) (j ∷ js) h = ap (λ b. option_map_or (λ i. known_eq.eq i j) k true && b) (unequal ks js (λ e. h (ap suc e))) ∙ and_false (option_map_or (λ i. known_eq.eq i j) k true)

-- the types from one place on
pub agree_from : (ks : List (Option Known)) (js : List Known) (i : ℕ) (k : Option Known) (j : Known) → i < length ks → i < length js
    → agree_known (drop i ks) (drop i js) ≡ (option_map_or (λ l. known_eq.eq l (get_or js i j)) (get_or ks i k) true && agree_known (drop (i + 1) ks) (drop (i + 1) js))
agree_from ks js i k j l m =
    ap (λ xs. agree_known xs (drop i js)) (drop_more ks i k l) ∙ ap (λ xs. agree_known (get_or ks i k ∷ drop (i + 1) ks) xs) (drop_more js i j m)
