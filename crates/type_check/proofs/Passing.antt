-- A text's declarations, gone over one after another.
use Rattle.std.proofs.Common.{◌≡◌, ◌<◌, ◌≤◌, ◌+◌, ℕ, nat_eq, List, [], ◌∷◌, ◌++◌, length, map, take, drop, get_or, refl, sym, ap, ◌∙◌, subst, arith, append-nil, append_assoc}
use Rattle.std.specs.Prelude.{Option, Some, Err}
use Rattle.std.specs.Map.{lookup}
use Rattle.std.specs.List.{list_any}
use Rattle.std.specs.Option.{option_map_or}
use Rattle.std.proofs.lemmas.Bool.Decides.{nat_tests}
use Rattle.std.proofs.lemmas.List.{drop_more, take_all, drop_all}
use Rattle.spec_text.specs.declared.surface.Decl.{Decl}
use Rattle.type_check.specs.declared.fault.TypeFault.{TypeFault}
use Rattle.type_check.specs.declared.fault.TypeFault.TheVariants.{Redeclared, Unknown, TypeClash, NestedArray, TypeTooWide, DropOfNoBuffer, DropTooFar, Memory}
use Rattle.type_check.specs.declared.known.Known.{Known}
use Rattle.type_check.specs.declared.order.Order.{Order}
use Rattle.type_check.specs.declared.scope.Scope.{Scope as CodeScope}
use Rattle.type_check.specs.contracts.known.KnownPartialEq.TheImpl.{ghosts as known_eq}
use Rattle.type_check.specs.NamedType.{Declarations}
use Rattle.type_check.specs.Judged.{Judged, or_else}
use Rattle.type_check.specs.Untyped.{reversed, judge_decl, first_untyped}
use Rattle.type_check.specs.TypeOrder.{Event, met, closings, events_from}
use Rattle.type_check.specs.Standing.{IsOrder, AllMean, arrays_of, all_none}
use Rattle.type_check.specs.Table.{HasSent}
use Rattle.type_check.specs.Walked.{IsBetween, IsPassed, GivesPassed, IsOrdered, GivesOrder}
use Rattle.type_check.proofs.FirstSent.{none_sent}
use Rattle.type_check.proofs.Tables.{reversed_more}

-- what is told of the declarations before the rest of a text
pub record IsWalked (names : List (List ℕ)) (before : Declarations) (rest xs : List Decl) (scope : CodeScope) (order : Order) (sent : List (List ℕ × List (Option Known))) : Type 0 where
  pub between : IsBetween names before rest scope
  pub sent_are : HasSent names (reversed before rest) before sent
  pub events : List Event
  pub order_is : IsOrder names scope.closed events order
  pub to_come : events ++ events_from (reversed before rest) before rest ≡ events_from (reversed [] xs) [] xs
  pub faults : first_untyped (reversed [] xs) [] xs ≡ first_untyped (reversed before rest) before rest

order_none : (names : List (List ℕ)) (o : Order) → o.met.keys ≡ [] → o.placed ≡ [] → o.waiting.entries ≡ [] → IsOrder names 0 [] o
order_none names o m p w = record {
  ended_are = λ i x h. grind (arith, nat_tests);
  placed = subst (λ ks. AllMean names ks []) (sym p) all_none;
  met_are = λ k t h a. ap (list_any (known_eq.eq k)) m;
  waiting_are = λ i x h l. subst (λ es. AllMean names (arrays_of i (option_map_or (λ ns. ns) (lookup (nat_eq i) es) [])) []) (sym w) all_none;
}

pub walked_start : (names : List (List ℕ)) (xs : List Decl) (scope : CodeScope) (o : Order) (sent : List (List ℕ × List (Option Known))) → IsBetween names [] xs scope
    → o.met.keys ≡ [] → o.placed ≡ [] → o.waiting.entries ≡ [] → sent ≡ [] → IsWalked names [] xs xs scope o sent
walked_start names xs scope o sent b m p w s = record {
  between = b;
  sent_are = none_sent names (reversed [] xs) sent s;
  events = [];
  order_is = subst (λ (n : ℕ). IsOrder names n [] o) (sym b.ended) (order_none names o m p w);
  to_come = refl;
  faults = refl;
}

pub walked_next : (names : List (List ℕ)) (before : Declarations) (x : Decl) (rest xs : List Decl) (old new : CodeScope) (o p : Order) (sent more : List (List ℕ × List (Option Known))) → IsWalked names before (x ∷ rest) xs old o sent
    → IsBetween names (x ∷ before) rest new → HasSent names (reversed before (x ∷ rest)) (x ∷ before) more → IsPassed names old.closed new.closed o p (judge_decl (reversed before (x ∷ rest)) before x) x
    → IsWalked names (x ∷ before) rest xs new p more
walked_next names before x rest xs old new o p sent more w b s h =
    let all = reversed before (x ∷ rest) in
    let es = map met (judge_decl all before x).types ++ closings x in
    record {
      between = b;
      sent_are = s;
      events = w.events ++ es;
      order_is = h.goes w.events w.order_is;
      to_come = append_assoc w.events es (events_from all (x ∷ before) rest) ∙ w.to_come;
      faults = w.faults ∙ ap (λ o. or_else o (first_untyped all (x ∷ before) rest)) h.faultless;
    }

walked_fault : (names : List (List ℕ)) (before : Declarations) (x : Decl) (rest xs : List Decl) (scope : CodeScope) (o : Order) (sent : List (List ℕ × List (Option Known))) (e : TypeFault) → IsWalked names before (x ∷ rest) xs scope o sent
    → (judge_decl (reversed before (x ∷ rest)) before x).fault ≡ Some e → first_untyped (reversed [] xs) [] xs ≡ Some e
walked_fault names before x rest xs scope o sent e w h = w.faults ∙ ap (λ o. or_else o (first_untyped (reversed before (x ∷ rest)) (x ∷ before) rest)) h

order_fault : (X : Type 0) (names : List (List ℕ)) (n m : ℕ) (a b : Order) (j : Judged) (x : Decl) (xs : List Decl) (e : TypeFault) → ((y : TypeFault) → j.fault ≡ Some y → first_untyped (reversed [] xs) [] xs ≡ Some y) → GivesPassed {X = X} names n m a b j x (Err e) → GivesOrder names xs (Err e)
order_fault X names n m a b j x xs (Redeclared at) f h = f (Redeclared at) h
order_fault X names n m a b j x xs (Unknown at) f h = f (Unknown at) h
order_fault X names n m a b j x xs (TypeClash at) f h = f (TypeClash at) h
order_fault X names n m a b j x xs (NestedArray at) f h = f (NestedArray at) h
order_fault X names n m a b j x xs (TypeTooWide at) f h = f (TypeTooWide at) h
order_fault X names n m a b j x xs (DropOfNoBuffer at) f h = f (DropOfNoBuffer at) h
order_fault X names n m a b j x xs (DropTooFar at) f h = f (DropTooFar at) h
order_fault X names n m a b j x xs Memory f h = tt

-- a declaration's fault is the text's
pub walked_stops : (X : Type 0) (names : List (List ℕ)) (before : Declarations) (x : Decl) (rest xs : List Decl) (scope : CodeScope) (m : ℕ) (o p : Order) (sent : List (List ℕ × List (Option Known))) (e : TypeFault) → IsWalked names before (x ∷ rest) xs scope o sent
    → GivesPassed {X = X} names scope.closed m o p (judge_decl (reversed before (x ∷ rest)) before x) x (Err e) → GivesOrder names xs (Err e)
walked_stops X names before x rest xs scope m o p sent e w h =
    order_fault X names scope.closed m o p (judge_decl (reversed before (x ∷ rest)) before x) x xs e (λ y g. walked_fault names before x rest xs scope o sent y w g) h

pub walked_end : (names : List (List ℕ)) (before : Declarations) (xs : List Decl) (scope : CodeScope) (o : Order) (sent : List (List ℕ × List (Option Known))) → IsWalked names before [] xs scope o sent → IsOrdered names xs o
walked_end names before xs scope o sent w = record {
  faultless = w.faults;
  order_is = subst (λ (n : ℕ). IsOrder names n (events_from (reversed [] xs) [] xs) o) (w.between.ended ∙ ap length (sym w.between.names_are))
      (subst (λ (es : List Event). IsOrder names scope.closed es o) (sym (append-nil w.events) ∙ w.to_come) w.order_is);
}

-- the next declaration, at its place
pub walked_at : (names : List (List ℕ)) (xs : List Decl) (i : ℕ) (x out : Decl) (scope : CodeScope) (o : Order) (sent : List (List ℕ × List (Option Known))) → i < length xs → x ≡ get_or xs i out
    → IsWalked names (reversed [] (take i xs)) (drop i xs) xs scope o sent → IsWalked names (reversed [] (take i xs)) (x ∷ drop (i + 1) xs) xs scope o sent
walked_at names xs i x out scope o sent low is w =
    subst (λ (rest : List Decl). IsWalked names (reversed [] (take i xs)) rest xs scope o sent) (drop_more xs i out low ∙ ap (λ y. y ∷ drop (i + 1) xs) (sym is)) w

pub walked_more : (names : List (List ℕ)) (xs : List Decl) (i : ℕ) (x out : Decl) (scope : CodeScope) (o : Order) (sent : List (List ℕ × List (Option Known))) → i < length xs → x ≡ get_or xs i out
    → IsWalked names (x ∷ reversed [] (take i xs)) (drop (i + 1) xs) xs scope o sent → IsWalked names (reversed [] (take (i + 1) xs)) (drop (i + 1) xs) xs scope o sent
walked_more names xs i x out scope o sent low is w =
    subst (λ (ds : Declarations). IsWalked names ds (drop (i + 1) xs) xs scope o sent) (reversed_more xs i x out low is) w

pub walked_whole : (names : List (List ℕ)) (xs : List Decl) (i : ℕ) (scope : CodeScope) (o : Order) (sent : List (List ℕ × List (Option Known))) → length xs ≤ i
    → IsWalked names (reversed [] (take i xs)) (drop i xs) xs scope o sent → IsWalked names (reversed [] xs) [] xs scope o sent
walked_whole names xs i scope o sent high w =
    subst (λ (ys : List Decl). IsWalked names (reversed [] xs) ys xs scope o sent) (drop_all i xs high)
    (subst (λ (ys : List Decl). IsWalked names (reversed [] ys) (drop i xs) xs scope o sent) (take_all i xs high) w)
