-- How large the forest of a text is.
use Rattle.std.proofs.Common.{◌≡◌, ℕ, zero, suc, ◌+◌, ◌-◌, ◌<◌, ◌≤◌, Bool, true, false, List, [], ◌∷◌, ◌++◌, length, drop, Option, Some, None, refl, ap, sym, ◌∙◌, subst, arith, append_assoc, append-nil, length-append}
use Rattle.std.specs.Prelude.{◌==◌, ◌&&◌, slice_index, if◌then◌else◌, nat_lt}
use Rattle.std.specs.List.{take_while}
use Rattle.std.proofs.lemmas.Bool.{eqb-true}
use Rattle.std.proofs.lemmas.Bool.Decides.{nat_tests}
use Rattle.spec_forest.specs.Node.{Node, Nodes, atom, list, none, more}
use Rattle.spec_forest.specs.Scan.{text_too_long, unbalanced, too_deep, longest_text, is_left, is_right, deepest, count_below, earlier, first_below, commented, opens, closes, depth, fault_at, scan_fault}
use Rattle.spec_forest.specs.Tokens.{Token, left, right, word, is_letter, is_fresh, token_of, token_at, tokens_before, tokens, node_tokens, forest_tokens, IsForestOf}
use Rattle.spec_forest.specs.Extents.{node_nesting, nesting, node_lists, list_count, node_items, item_count, NodeIsWithin, IsWithin}
use Rattle.spec_forest.proofs.Shown.{Adds, commented_adds, left_adds, right_adds}
use Rattle.spec_forest.proofs.OneForest.{items-then}

-- ---- the number of tokens

one-token : (text : List ℕ) (k : ℕ) → length (token_at text k) ≤ 1
unfolding token_at
one-token text k = outer (commented text k) where
  inner : (l r w : Bool) (x : Token) → length (if l then left k ∷ [] else if r then right ∷ [] else if w then x ∷ [] else []) ≤ 1
  inner true r w x = omega arith
  inner false true w x = omega arith
  inner false false true x = omega arith
  inner false false false x = omega arith

  outer : (c : Bool) → length (if c then [] else token_of text k (slice_index text k)) ≤ 1
  outer true = omega arith
  outer false = inner (is_left (slice_index text k)) (is_right (slice_index text k)) (is_letter (slice_index text k) && is_fresh text k) (word k (take_while is_letter (drop k text)))

few-tokens : (text : List ℕ) (k : ℕ) → length (tokens_before text k) ≤ k
few-tokens text zero = omega arith
few-tokens text (suc k) = omega (arith, few-tokens text k, one-token text k, length-append (tokens_before text k) (token_at text k))

mutual
  node-size : (x : Node) → length (node_tokens x) ≡ node_lists x + node_items x
  node-size (atom a t) = refl
  node-size (list a is) =
      let n : length (forest_tokens is) ≡ list_count is + item_count is = forest-size is in
      let m : length (forest_tokens is ++ right ∷ []) ≡ length (forest_tokens is) + 1 = length-append (forest_tokens is) (right ∷ []) in omega arith

  forest-size : (xs : Nodes) → length (forest_tokens xs) ≡ list_count xs + item_count xs
  forest-size none = refl
  forest-size (more x xs) =
      let n : length (node_tokens x) ≡ node_lists x + node_items x = node-size x in
      let m : length (forest_tokens xs) ≡ list_count xs + item_count xs = forest-size xs in
      let o : length (node_tokens x ++ forest_tokens xs) ≡ length (node_tokens x) + length (forest_tokens xs) = length-append (node_tokens x) (forest_tokens xs) in omega arith

mutual
  node-lists : (x : Node) → node_lists x ≤ node_items x
  node-lists (atom a t) = omega arith
  node-lists (list a is) = let n : list_count is ≤ item_count is = forest-lists is in omega arith

  forest-lists : (xs : Nodes) → list_count xs ≤ item_count xs
  forest-lists none = omega arith
  forest-lists (more x xs) =
      let n : node_lists x ≤ node_items x = node-lists x in
      let m : list_count xs ≤ item_count xs = forest-lists xs in omega arith

short-text : (text : List ℕ) → scan_fault text ≡ None → length text ≤ longest_text
unfolding scan_fault
short-text text e = at (nat_lt longest_text (length text)) refl where
  at : (v : Bool) → nat_lt longest_text (length text) ≡ v → length text ≤ longest_text
  at false t = grind (arith, nat_tests)
  at true t = absurd (let no : Some text_too_long ≡ None = rw (t) at e in cc)

whole-size : (text : List ℕ) (f : Nodes) → IsForestOf text f → list_count f + item_count f ≤ length text
unfolding IsForestOf tokens
whole-size text f is = omega (arith, few-tokens text (length text), forest-size f, ap length is)

pub few-lists : (text : List ℕ) (f : Nodes) → scan_fault text ≡ None → IsForestOf text f → list_count f ≤ 524288
few-lists text f e is = omega (arith, whole-size text f is, forest-lists f, short-text text e)

pub few-items : (text : List ℕ) (f : Nodes) → scan_fault text ≡ None → IsForestOf text f → item_count f ≤ 1048576
few-items text f e is = omega (arith, whole-size text f is, short-text text e)

-- ---- places

abbrev pub PlacesBelow : ℕ → List Token → Type 0
PlacesBelow n [] = Unit {0}
PlacesBelow n (left k ∷ ts) = (k < n) × PlacesBelow n ts
PlacesBelow n (right ∷ ts) = PlacesBelow n ts
PlacesBelow n (word k t ∷ ts) = (k < n) × PlacesBelow n ts

places-append : (n : ℕ) (ts us : List Token) → PlacesBelow n ts → PlacesBelow n us → PlacesBelow n (ts ++ us)
places-append n [] us h i = i
places-append n (left k ∷ ts) us h i = (h.0, places-append n ts us h.1 i)
places-append n (right ∷ ts) us h i = places-append n ts us h i
places-append n (word k t ∷ ts) us h i = (h.0, places-append n ts us h.1 i)

places-parts : (n : ℕ) (ts us : List Token) → PlacesBelow n (ts ++ us) → PlacesBelow n ts × PlacesBelow n us
places-parts n [] us h = (tt, h)
places-parts n (left k ∷ ts) us h = let p = places-parts n ts us h.1 in ((h.0, p.0), p.1)
places-parts n (right ∷ ts) us h = places-parts n ts us h
places-parts n (word k t ∷ ts) us h = let p = places-parts n ts us h.1 in ((h.0, p.0), p.1)

place-here : (n : ℕ) (text : List ℕ) (k : ℕ) → k < n → PlacesBelow n (token_at text k)
unfolding token_at
place-here n text k low = outer (commented text k) where
  inner : (l r w : Bool) (t : List ℕ) → PlacesBelow n (if l then left k ∷ [] else if r then right ∷ [] else if w then word k t ∷ [] else [])
  inner true r w t = (low, tt)
  inner false true w t = tt
  inner false false true t = (low, tt)
  inner false false false t = tt

  outer : (c : Bool) → PlacesBelow n (if c then [] else token_of text k (slice_index text k))
  outer true = tt
  outer false = inner (is_left (slice_index text k)) (is_right (slice_index text k)) (is_letter (slice_index text k) && is_fresh text k) (take_while is_letter (drop k text))

pub places-before : (n : ℕ) (text : List ℕ) (k : ℕ) → k ≤ n → PlacesBelow n (tokens_before text k)
places-before n text zero low = tt
places-before n text (suc k) low = places-append n (tokens_before text k) (token_at text k) (places-before n text k (omega arith)) (place-here n text k (omega arith))

mutual
  node-within : (n : ℕ) (x : Node) → PlacesBelow n (node_tokens x) → NodeIsWithin n x
  node-within n (atom a t) h = h.0
  node-within n (list a is) h = (h.0, forest-within n is (places-parts n (forest_tokens is) (right ∷ []) h.1).0)

  forest-within : (n : ℕ) (xs : Nodes) → PlacesBelow n (forest_tokens xs) → IsWithin n xs
  forest-within n none h = tt
  forest-within n (more x xs) h = let p = places-parts n (node_tokens x) (forest_tokens xs) h in (node-within n x p.0, forest-within n xs p.1)

pub within-text : (text : List ℕ) (f : Nodes) → IsForestOf text f → IsWithin (length text) f
unfolding IsForestOf tokens
within-text text f is = forest-within (length text) f (let P : List Token → Type 0 = λ ts. PlacesBelow (length text) ts in subst P is (places-before (length text) text (length text) (omega arith)))

-- ---- nesting

-- no `(` stands where there is no room for a further level
abbrev HasRoom : ℕ → List Token → Type 0
HasRoom room [] = Unit {0}
HasRoom room (left k ∷ ts) = (0 < room) × HasRoom (room - 1) ts
HasRoom room (right ∷ ts) = HasRoom (room + 1) ts
HasRoom room (word k t ∷ ts) = HasRoom room ts

abbrev room_after : ℕ → List Token → ℕ
room_after room [] = room
room_after room (left k ∷ ts) = room_after (room - 1) ts
room_after room (right ∷ ts) = room_after (room + 1) ts
room_after room (word k t ∷ ts) = room_after room ts

room-append : (room : ℕ) (ts us : List Token) → HasRoom room ts → HasRoom (room_after room ts) us → HasRoom room (ts ++ us)
room-append room [] us h i = i
room-append room (left k ∷ ts) us h i = (h.0, room-append (room - 1) ts us h.1 i)
room-append room (right ∷ ts) us h i = room-append (room + 1) ts us h i
room-append room (word k t ∷ ts) us h i = room-append room ts us h i

after-append : (room : ℕ) (ts us : List Token) → room_after room (ts ++ us) ≡ room_after (room_after room ts) us
after-append room [] us = refl
after-append room (left k ∷ ts) us = after-append (room - 1) ts us
after-append room (right ∷ ts) us = after-append (room + 1) ts us
after-append room (word k t ∷ ts) us = after-append room ts us

mutual
  node-room : (room : ℕ) (x : Node) (r : List Token) → HasRoom room (node_tokens x ++ r) → (node_nesting x ≤ room) × HasRoom room r
  node-room room (atom a t) r h = (omega arith, h)
  node-room room (list a is) r h =
      let P : List Token → Type 0 = λ ts. HasRoom (room - 1) ts in
      let p = forest-room (room - 1) is (right ∷ r) (subst P (items-then is r) h.1) in
      let back : (room - 1) + 1 ≡ room = omega (arith, h.0) in
      let Q : ℕ → Type 0 = λ n. HasRoom n r in
      (omega (arith, p.0, h.0), subst Q back p.1)

  forest-room : (room : ℕ) (xs : Nodes) (r : List Token) → HasRoom room (forest_tokens xs ++ r) → (nesting xs ≤ room) × HasRoom room r
  forest-room room none r h = (omega arith, h)
  forest-room room (more x xs) r h =
      let P : List Token → Type 0 = λ ts. HasRoom room ts in
      let p = node-room room x (forest_tokens xs ++ r) (subst P (append_assoc (node_tokens x) (forest_tokens xs) r) h) in
      let q = forest-room room xs r p.1 in
      (omega (arith, p.0, q.0), q.1)

-- what holds before a place up to which nothing is wrong
record Room (text : List ℕ) (k : ℕ) : Type 0 where
  room : HasRoom 64 (tokens_before text k)
  left_over : room_after 64 (tokens_before text k) + count_below k (opens text) ≡ 64 + count_below k (closes text)
  balance : count_below k (closes text) ≤ count_below k (opens text)

pub earlier-parts : {X : Type 0} (x y : Option X) → earlier x y ≡ None → (x ≡ None) × (y ≡ None)
earlier-parts None y e = (refl, e)
earlier-parts (Some x) y e = absurd (cc)

depth-is : (text : List ℕ) (k : ℕ) → depth text k ≡ count_below k (opens text) - count_below k (closes text)
unfolding depth
depth-is text k = refl

abbrev pub bit : Bool → ℕ
bit b = if b then 1 else 0

room-one : (text : List ℕ) (k : ℕ) (us : List Token) (l r : Bool) → Room text k → token_at text k ≡ us → opens text k ≡ l → closes text k ≡ r
    → HasRoom (room_after 64 (tokens_before text k)) us
    → room_after (room_after 64 (tokens_before text k)) us + bit l ≡ room_after 64 (tokens_before text k) + bit r
    → count_below k (closes text) + bit r ≤ count_below k (opens text) + bit l → Room text (suc k)
room-one text k us l r s t o c h e b = record {
  room = rw t (room-append 64 (tokens_before text k) us s.room h);
  left_over = rw (t, after-append 64 (tokens_before text k) us, o, c) (omega (arith, s.left_over, e));
  balance = rw (o, c) b;
}

room-plain : (room : ℕ) (l r w : Bool) (k : ℕ) (t : List ℕ) → l ≡ false → r ≡ false
    → HasRoom room (if l then left k ∷ [] else if r then right ∷ [] else if w then word k t ∷ [] else [])
    × (room_after room (if l then left k ∷ [] else if r then right ∷ [] else if w then word k t ∷ [] else []) ≡ room)
room-plain room true r w k t e f = absurd (cc)
room-plain room false true w k t e f = absurd (cc)
room-plain room false false true k t e f = (tt, refl)
room-plain room false false false k t e f = (tt, refl)

room-other : (text : List ℕ) (k : ℕ) → Room text k → commented text k ≡ false → is_left (slice_index text k) ≡ false → is_right (slice_index text k) ≡ false → Room text (suc k)
unfolding token_at opens closes
room-other text k s c l r =
    let w : Bool = is_letter (slice_index text k) && is_fresh text k in
    let t : List ℕ = take_while is_letter (drop k text) in
    let p = room-plain (room_after 64 (tokens_before text k)) (is_left (slice_index text k)) (is_right (slice_index text k)) w k t l r in
    room-one text k (token_of text k (slice_index text k)) false false s (rw c refl) (rw (c, l) refl) (rw (c, r) refl) p.0 (ap (λ n. n + 0) p.1) (omega (arith, s.balance))

room-step : (text : List ℕ) (k : ℕ) → Room text k → fault_at text k ≡ None → Room text (suc k)
room-step text k s clean = at (commented text k) refl where
  R : ℕ
  R = room_after 64 (tokens_before text k)

  by_left : commented text k ≡ false → slice_index text k ≡ 40 → Room text (suc k)
  by_left c b = deep (depth text k == deepest) refl where
    a : Adds text k (left k ∷ []) true false (if depth text k == deepest then Some (too_deep k) else None)
    a = left_adds text k c b

    deep : (v : Bool) → (depth text k == deepest) ≡ v → Room text (suc k)
    deep true e = absurd (let no : None ≡ Some (too_deep k) = sym clean ∙ a.fault ∙ ap (λ x. if x then Some (too_deep k) else None) e in cc)
    deep false e =
        let shallow : count_below k (opens text) - count_below k (closes text) ≡ 64 → ⊥ = λ h. (let full : depth text k ≡ 64 = depth-is text k ∙ h in let no : true ≡ false = sym (ap (λ d. d == deepest) full) ∙ e in cc) in
        let some : 0 < room_after 64 (tokens_before text k) = omega (arith, s.left_over, s.balance, shallow) in
        room-one text k (left k ∷ []) true false s a.begins a.lefts a.rights (some, tt) (omega (arith, some)) (omega (arith, s.balance))

  by_right : commented text k ≡ false → slice_index text k ≡ 41 → Room text (suc k)
  by_right c b = deep (depth text k == 0) refl where
    a : Adds text k (right ∷ []) false true (if depth text k == 0 then Some (unbalanced k) else None)
    a = right_adds text k c b

    deep : (v : Bool) → (depth text k == 0) ≡ v → Room text (suc k)
    deep true e = absurd (let no : None ≡ Some (unbalanced k) = sym clean ∙ a.fault ∙ ap (λ x. if x then Some (unbalanced k) else None) e in cc)
    deep false e =
        let some : count_below k (opens text) - count_below k (closes text) ≡ 0 → ⊥ = λ h. (let full : depth text k ≡ 0 = depth-is text k ∙ h in let no : true ≡ false = sym (ap (λ d. d == 0) full) ∙ e in cc) in
        room-one text k (right ∷ []) false true s a.begins a.lefts a.rights tt (omega arith) (omega (arith, s.balance, some))

  sides : commented text k ≡ false → (l r : Bool) → is_left (slice_index text k) ≡ l → is_right (slice_index text k) ≡ r → Room text (suc k)
  sides c true r e f = by_left c (eqb-true (slice_index text k) 40 e)
  sides c false true e f = by_right c (eqb-true (slice_index text k) 41 f)
  sides c false false e f = room-other text k s c e f

  at : (v : Bool) → commented text k ≡ v → Room text (suc k)
  at true c = let a = commented_adds text k c in room-one text k [] false false s a.begins a.lefts a.rights tt refl (omega (arith, s.balance))
  at false c = sides c (is_left (slice_index text k)) (is_right (slice_index text k)) refl refl

room-before : (text : List ℕ) (k : ℕ) → first_below k (fault_at text) ≡ None → Room text k
room-before text zero e = record { room = tt; left_over = refl; balance = omega arith }
room-before text (suc k) e = let p = earlier-parts (first_below k (fault_at text)) (fault_at text k) e in room-step text k (room-before text k p.0) p.1

pub no-byte-fault : (text : List ℕ) → scan_fault text ≡ None → first_below (length text) (fault_at text) ≡ None
unfolding scan_fault
no-byte-fault text e = at (nat_lt longest_text (length text)) refl where
  at : (v : Bool) → nat_lt longest_text (length text) ≡ v → first_below (length text) (fault_at text) ≡ None
  at true t = absurd (let no : Some text_too_long ≡ None = rw (t) at e in cc)
  at false t = (earlier-parts (first_below (length text) (fault_at text)) (if depth text (length text) == 0 then None else Some (unbalanced (length text))) (rw (t) at e)).0

pub no-end-fault : (text : List ℕ) → scan_fault text ≡ None → depth text (length text) ≡ 0
unfolding scan_fault
no-end-fault text e = at (nat_lt longest_text (length text)) refl where
  at : (v : Bool) → nat_lt longest_text (length text) ≡ v → depth text (length text) ≡ 0
  at true t = absurd (let no : Some text_too_long ≡ None = rw (t) at e in cc)
  at false t = level (depth text (length text) == 0) refl (earlier-parts (first_below (length text) (fault_at text)) (if depth text (length text) == 0 then None else Some (unbalanced (length text))) (rw (t) at e)).1 where
    level : (z : Bool) → (depth text (length text) == 0) ≡ z → (if z then None else Some (unbalanced (length text))) ≡ None → depth text (length text) ≡ 0
    level true e h = eqb-true (depth text (length text)) 0 e
    level false e h = absurd (cc)

pub shallow : (text : List ℕ) (f : Nodes) → scan_fault text ≡ None → IsForestOf text f → nesting f ≤ 64
unfolding IsForestOf tokens
shallow text f e is =
    let P : List Token → Type 0 = λ ts. HasRoom 64 ts in
    (forest-room 64 f [] (subst P (is ∙ sym (append-nil (forest_tokens f))) (room-before text (length text) (no-byte-fault text e)).room)).0
