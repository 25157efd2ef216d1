-- What it says that no ring of one value with an index is misused.
use Rattle.std.proofs.Common.{◌≡◌, ℕ, ◌+◌, Bool, true, false, ◌&&◌, cond, List, [], ◌∷◌, Option, Some, None, refl, sym, subst}
use Rattle.std.specs.Prelude.{not, if◌then◌else◌}
use Rattle.std.specs.List.{find, position_from, list_all}
use Rattle.std.specs.Option.{option_map_or}
use Rattle.std.proofs.lemmas.Slice.Eq.{bytes_eq-Decides}
use Rattle.sm_io.proofs.Truths.{left_passes, right_passes}
use Rattle.c99_tree.specs.declared.unit.CRing.{CRing}
use Rattle.c99_tree.specs.declared.unit.Unit.{Unit as CUnit}
use Rattle.c99_tree.specs.Tree.{Expr, Exprs, head, ring_at, Stmt, stores, moves, statements}
use Rattle.c99_tree.specs.Words.{is_same}
use Rattle.c99_tree.proofs.Shaped.{same-eq}
use Rattle.migration.specs.Migration.{is_old, names_old, is_head, is_old_place, reads_as_of_old, all_read_as_of_old, uses_as_of_old, is_misused, misused}

-- each ring of one value with an index is used as of old
abbrev pub ReadsOfOld : CUnit → Expr → Type 0
ReadsOfOld u e = (x : List ℕ) → names_old u x ≡ true → reads_as_of_old x e ≡ true

abbrev pub AllReadOfOld : CUnit → Exprs → Type 0
AllReadOfOld u es = (x : List ℕ) → names_old u x ≡ true → all_read_as_of_old x es ≡ true

abbrev pub UsesOfOld : CUnit → Stmt → Type 0
UsesOfOld u s = (x : List ℕ) → names_old u x ≡ true → uses_as_of_old x s ≡ true

abbrev pub AllUseOfOld : CUnit → List Stmt → Type 0
AllUseOfOld u ss = (x : List ℕ) → names_old u x ≡ true → list_all (uses_as_of_old x) ss ≡ true

-- ---- where none is misused

none_passes : (k : ℕ) (o : Option ℕ) (b : Bool) → cond b (Some k) o ≡ None → (b ≡ false) × (o ≡ None)
none_passes k o true h = absurd (cc h)
none_passes k o false h = (refl, h)

used_well : (a b : Bool) → a ≡ true → (a && not b) ≡ false → b ≡ true
used_well true true h g = refl
used_well true false h g = absurd (cc g)
used_well false b h g = absurd (cc h)

found_used : (u : CUnit) (x : List ℕ) (rs : List CRing) (r : CRing) (b : Bool) → is_same x r.name ≡ b → is_misused u r ≡ false
    → (option_map_or is_old (find (λ (z : CRing). is_same x z.name) rs) false ≡ true → list_all (uses_as_of_old x) (statements u) ≡ true)
    → option_map_or is_old (cond b (Some r) (find (λ (z : CRing). is_same x z.name) rs)) false ≡ true → list_all (uses_as_of_old x) (statements u) ≡ true
found_used u x rs r true e n ih h =
    subst (λ (y : List ℕ). list_all (uses_as_of_old y) (statements u) ≡ true) (sym (same-eq x r.name e)) (used_well (is_old r)
    (list_all (uses_as_of_old r.name) (statements u)) h n)
found_used u x rs r false e n ih h = ih h

each_used : (u : CUnit) (x : List ℕ) (k : ℕ) (rs : List CRing) → position_from (is_misused u) k rs ≡ None
    → option_map_or is_old (find (λ (z : CRing). is_same x z.name) rs) false ≡ true → list_all (uses_as_of_old x) (statements u) ≡ true
each_used u x k [] h g = absurd (cc g)
each_used u x k (r ∷ rs) h g =
    let p = none_passes k (position_from (is_misused u) (k + 1) rs) (is_misused u r) h in
    found_used u x rs r (is_same x r.name) refl p.0 (λ f. each_used u x (k + 1) rs p.1 f) g

pub all_use_of_old : (u : CUnit) → misused u ≡ None → AllUseOfOld u (statements u)
all_use_of_old u h x g = each_used u x 1 u.rings h g

pub first_uses : (u : CUnit) (s : Stmt) (ss : List Stmt) → AllUseOfOld u (s ∷ ss) → UsesOfOld u s
first_uses u s ss h x g = left_passes (uses_as_of_old x s) (list_all (uses_as_of_old x) ss) (h x g)

pub rest_use : (u : CUnit) (s : Stmt) (ss : List Stmt) → AllUseOfOld u (s ∷ ss) → AllUseOfOld u ss
rest_use u s ss h x g = right_passes (uses_as_of_old x s) (list_all (uses_as_of_old x) ss) (h x g)

-- ---- the parts

pub same_self : (x : List ℕ) → is_same x x ≡ true
same_self x = (bytes_eq-Decides x x).1 refl

apart_by : (u : CUnit) (x r : List ℕ) (b : Bool) → is_same x r ≡ b → names_old u x ≡ true → names_old u r ≡ false → b ≡ false
apart_by u x r true e g n = let t : names_old u r ≡ true = subst (λ (y : List ℕ). names_old u y ≡ true) (same-eq x r e) g in absurd (cc (t, n))
apart_by u x r false e g n = refl

apart : (u : CUnit) (x r : List ℕ) → names_old u x ≡ true → names_old u r ≡ false → is_same x r ≡ false
apart u x r g n = apart_by u x r (is_same x r) refl g n

other_arm : (b c d : Bool) → b ≡ false → (if b then c else d) ≡ true → d ≡ true
other_arm true c d e h = absurd (cc e)
other_arm false c d e h = h

own_arm : (b c d : Bool) → b ≡ true → (if b then c else d) ≡ true → c ≡ true
own_arm true c d e h = h
own_arm false c d e h = absurd (cc e)

-- the subscript of another ring
pub subscript_reads : (u : CUnit) (r : List ℕ) (a : Expr) → names_old u r ≡ false → ReadsOfOld u (ring_at r a) → ReadsOfOld u a
subscript_reads u r a n h x g = other_arm (is_same x r) (is_old_place x a) (reads_as_of_old x a) (apart u x r g n) (h x g)

-- the subscript of such a ring
pub subscript_is : (u : CUnit) (r : List ℕ) (a : Expr) → names_old u r ≡ true → ReadsOfOld u (ring_at r a) → is_old_place r a ≡ true
subscript_is u r a n h = own_arm (is_same r r) (is_old_place r a) (reads_as_of_old r a) (same_self r) (h r n)

not_both : (b : Bool) → b ≡ true → not b ≡ true → true ≡ false
not_both true e h = sym h
not_both false e h = sym e

head_by : (u : CUnit) (r : List ℕ) (b : Bool) → names_old u r ≡ b → ReadsOfOld u (head r) → b ≡ false
head_by u r true e h = not_both (is_same r r) (same_self r) (h r e)
head_by u r false e h = refl

-- no index of such a ring is read otherwise
pub head_is_other : (u : CUnit) (r : List ℕ) → ReadsOfOld u (head r) → names_old u r ≡ false
head_is_other u r h = head_by u r (names_old u r) refl h

pub store_reads : (u : CUnit) (r : List ℕ) (e : Expr) → names_old u r ≡ false → UsesOfOld u (stores r e) → ReadsOfOld u e
store_reads u r e n h x g = other_arm (is_same x r) (is_head x e) (reads_as_of_old x e) (apart u x r g n) (h x g)

pub store_is : (u : CUnit) (r : List ℕ) (e : Expr) → names_old u r ≡ true → UsesOfOld u (stores r e) → is_head r e ≡ true
store_is u r e n h = own_arm (is_same r r) (is_head r e) (reads_as_of_old r e) (same_self r) (h r n)

pub move_reads : (u : CUnit) (r : List ℕ) (e : Expr) → names_old u r ≡ false → UsesOfOld u (moves r e) → ReadsOfOld u e
move_reads u r e n h x g = other_arm (is_same x r) (is_old_place x e) (reads_as_of_old x e) (apart u x r g n) (h x g)

pub move_is : (u : CUnit) (r : List ℕ) (e : Expr) → names_old u r ≡ true → UsesOfOld u (moves r e) → is_old_place r e ≡ true
move_is u r e n h = own_arm (is_same r r) (is_old_place r e) (reads_as_of_old r e) (same_self r) (h r n)

pub left_reads : (u : CUnit) (a b : Expr) → ((x : List ℕ) → names_old u x ≡ true → (reads_as_of_old x a && reads_as_of_old x b) ≡ true) → ReadsOfOld u a
left_reads u a b h x g = left_passes (reads_as_of_old x a) (reads_as_of_old x b) (h x g)

pub right_reads : (u : CUnit) (a b : Expr) → ((x : List ℕ) → names_old u x ≡ true → (reads_as_of_old x a && reads_as_of_old x b) ≡ true) → ReadsOfOld u b
right_reads u a b h x g = right_passes (reads_as_of_old x a) (reads_as_of_old x b) (h x g)

module _ (u : CUnit) (c a b : Expr) (h : (x : List ℕ) → names_old u x ≡ true → (reads_as_of_old x c && (reads_as_of_old x a && reads_as_of_old x b)) ≡ true)
  where
    pub asked_reads : ReadsOfOld u c
    asked_reads x g = left_passes (reads_as_of_old x c) (reads_as_of_old x a && reads_as_of_old x b) (h x g)

    pub then_reads : ReadsOfOld u a
    then_reads x g = left_passes (reads_as_of_old x a) (reads_as_of_old x b) (right_passes (reads_as_of_old x c) (reads_as_of_old x a && reads_as_of_old x b)
        (h x g))

    pub else_reads : ReadsOfOld u b
    else_reads x g = right_passes (reads_as_of_old x a) (reads_as_of_old x b) (right_passes (reads_as_of_old x c) (reads_as_of_old x a && reads_as_of_old x b)
        (h x g))

-- an expression before others
module _ (u : CUnit) (e : Expr) (es : Exprs) (h : (x : List ℕ) → names_old u x ≡ true → (reads_as_of_old x e && all_read_as_of_old x es) ≡ true) where
  pub here_reads : ReadsOfOld u e
  here_reads x g = left_passes (reads_as_of_old x e) (all_read_as_of_old x es) (h x g)

  pub others_read : AllReadOfOld u es
  others_read x g = right_passes (reads_as_of_old x e) (all_read_as_of_old x es) (h x g)
