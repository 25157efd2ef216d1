-- The statements of the new program carry out what those of the old one do, and each ring of one value stays at its only place.
use Rattle.std.proofs.Common.{◌≡◌, ℕ, zero, suc, ◌+◌, Bool, true, false, List, [], ◌∷◌, Option, Some, None, Result, Ok, refl, sym, ap, ◌∙◌, subst, arith}
use Rattle.std.specs.Prelude.{slice_get, slice_set, nat_eq, IfOk, unsigned_abs, if◌then◌else◌, pos}
use Rattle.std.specs.Option.{option_map, option_map_or}
use Rattle.std.specs.List.{find, position_or_len, filter_map, cons_option}
use Rattle.std.proofs.lemmas.Bool.Decides.{nat_tests}
use Rattle.c99_tree.specs.declared.types.CScalar.TheVariants as t
use Rattle.c99_tree.specs.declared.types.CTy.{CTy}
use Rattle.c99_tree.specs.declared.undefined.Undefined.{Undefined}
use Rattle.c99_tree.specs.declared.unit.CRing.{CRing}
use Rattle.c99_tree.specs.declared.unit.CStmt.{CStmt}
use Rattle.c99_tree.specs.declared.unit.Unit.{Unit as CUnit}
use Rattle.c99_tree.specs.Tree.{Expr, Exprs, head, Stmt, copies, calls, nexts, stores, moves, puts}
use Rattle.c99_tree.specs.CTypes.{Num, num, is_zero, converted}
use Rattle.c99_tree.specs.Words.{is_same}
use Rattle.c99_tree.specs.Lookup.{ring_of, place_of_ring, place_of_handler}
use Rattle.c99_tree.specs.Values.{Value, Values, number, number_in, words_of_all}
use Rattle.c99_tree.specs.Evaluation.{Met, done, ◌>>=◌, RingState, Statics, value_at, values_in, index_in, element, settled, evaluate, evaluate_all}
use Rattle.c99_tree.specs.Step.{Progress, with_statics, with_ring, with_local, with_call, local_in, params_of, called_if, stored, carry_out, carry_out_all}
use Rattle.c99_tree.proofs.LookedUp.{found_there, same_number}
use Rattle.c99_tree.proofs.TypedValues.{then_gives}
use Rattle.migration.specs.Migration.{is_old, names_old, is_old_place, is_head, renewed, renewed_all, renewed_statement}
use Rattle.migration.proofs.Places.{head_is}
use Rattle.migration.proofs.Alike.{then_alike, then_alike_where, after_known, then_any, if_any, if_alike}
use Rattle.migration.proofs.AsOfOld.{AllReadOfOld, UsesOfOld, AllUseOfOld, first_uses, rest_use, here_reads, others_read, store_reads, store_is, move_reads, move_is}
use Rattle.migration.proofs.NewTypes.{made, new_place, new_ring_type}
use Rattle.migration.proofs.NewValues.{AtOne, Idle, one_value, at_zero, place_is_zero, new_value, new_values}

-- ---- lists with one element set

set_same : {X : Type 0} (xs : List X) (k : ℕ) (x : X) → slice_get xs k ≡ Some x → slice_set xs k x ≡ xs
set_same [] k x e = absurd (cc e)
set_same (y ∷ xs) zero x e = let same : y ≡ x = cc e in ap (λ z. z ∷ xs) (sym same)
set_same {X = X} (y ∷ xs) (suc k) x e = ap (λ (zs : List X). y ∷ zs) (set_same xs k x e)

get_set : {X : Type 0} (xs : List X) (k : ℕ) (x y : X) → slice_get xs k ≡ Some x → slice_get (slice_set xs k y) k ≡ Some y
get_set [] k x y e = absurd (cc e)
get_set (z ∷ xs) zero x y e = refl
get_set (z ∷ xs) (suc k) x y e = get_set xs k x y e

get_other : {X : Type 0} (xs : List X) (k j : ℕ) (y : X) → (k ≡ j → ⊥) → slice_get (slice_set xs j y) k ≡ slice_get xs k
get_other [] k j y n = refl
get_other (z ∷ xs) zero zero y n = absurd (n refl)
get_other (z ∷ xs) zero (suc j) y n = refl
get_other (z ∷ xs) (suc k) zero y n = refl
get_other (z ∷ xs) (suc k) (suc j) y n = get_other xs k j y (λ e. n (ap (λ (i : ℕ). suc i) e))

different : (n m : ℕ) → nat_eq n m ≡ false → n ≡ m → ⊥
different n m h e = grind (arith, nat_tests, h, e)

one_set : (w v : Value) (k : ℕ) → (z : Value) × (slice_set (w ∷ []) k v ≡ z ∷ [])
one_set w v zero = (v, refl)
one_set w v (suc k) = (w, refl)

-- ---- rings by their places

find_by : {A : Type 0} (p : A → Bool) (x : A) (xs : List A) (a : A) (b : Bool) → p x ≡ b → (slice_get xs (position_or_len p xs) ≡ Some a → find p xs ≡ Some a)
    → slice_get (x ∷ xs) (position_or_len p (x ∷ xs)) ≡ Some a → find p (x ∷ xs) ≡ Some a
find_by p x xs a true e ih h = let g : Some x ≡ Some a = rw e at h in rw e g
find_by p x xs a false e ih h = rw e (ih (rw (e, next_place (position_or_len p xs)) at h))
  where
    next_place : (n : ℕ) → 1 + n ≡ suc n
    next_place n = omega arith

-- what stands at the place of the first that passes is the first that passes
find_there : {A : Type 0} (p : A → Bool) (xs : List A) (a : A) → slice_get xs (position_or_len p xs) ≡ Some a → find p xs ≡ Some a
find_there p [] a h = absurd (cc h)
find_there p (x ∷ xs) a h = find_by p x xs a (p x) refl (λ e. find_there p xs a e) h

pub record FoundOld (u : CUnit) (x : List ℕ) : Type 0 where
  pub ring : CRing
  pub found : ring_of u x ≡ Some ring
  pub old : is_old ring ≡ true

found_by : (u : CUnit) (x : List ℕ) (o : Option CRing) → ring_of u x ≡ o → option_map_or is_old o false ≡ true → FoundOld u x
found_by u x None e h = absurd (cc h)
found_by u x (Some r) e h = record { ring = r; found = e; old = h }

pub found_old : (u : CUnit) (x : List ℕ) → names_old u x ≡ true → FoundOld u x
found_old u x h = found_by u x (ring_of u x) refl h

same_place_old : (u : CUnit) (x r : List ℕ) → names_old u x ≡ true → place_of_ring u x ≡ place_of_ring u r → names_old u r ≡ true
same_place_old u x r h e =
    let f = found_old u x h in
    let there = found_there (λ (z : CRing). is_same x z.name) u.rings f.ring f.found in
    let moved : slice_get u.rings (place_of_ring u r) ≡ Some f.ring = subst (λ (k : ℕ). slice_get u.rings k ≡ Some f.ring) e there in
    ap (λ (o : Option CRing). option_map_or is_old o false) (find_there (λ (z : CRing). is_same r z.name) u.rings f.ring moved) ∙ f.old

-- ---- a ring gets values

-- such a ring gets one value, and index 0
abbrev IsOne : List Value → ℕ → Type 0
IsOne vals k = (w : Value) × (vals ≡ w ∷ []) × (k ≡ 0)

set_at : (u : CUnit) (s : Statics) (r x : List ℕ) (vals : List Value) (k : ℕ) (b : Bool) → nat_eq (place_of_ring u x) (place_of_ring u r) ≡ b
    → (names_old u r ≡ true → IsOne vals k) → names_old u x ≡ true → AtOne u s x → AtOne u (with_ring u r vals k s) x
set_at u s r x vals k true e one h a =
    let same : place_of_ring u x ≡ place_of_ring u r = same_number (place_of_ring u x) (place_of_ring u r) e in
    let new = one (same_place_old u x r h same) in
    let first = new.1 in let last = new.2 in
    let state : record { values = vals; index = k } ≡ record { values = new.0 ∷ []; index = 0 } = cc (first, last) in
    let put = get_set s.rings (place_of_ring u x) (record { values = a.value ∷ []; index = 0 }) (record { values = vals; index = k }) a.there in
    record {
      value = new.0;
      there = ap (λ (j : ℕ). slice_get (slice_set s.rings j (record { values = vals; index = k })) (place_of_ring u x)) (sym same) ∙ put
          ∙ ap (λ (z : RingState). Some z) state;
    }
set_at u s r x vals k false e one h a =
    record {
      value = a.value;
      there = get_other s.rings (place_of_ring u x) (place_of_ring u r) (record { values = vals; index = k })
          (different (place_of_ring u x) (place_of_ring u r) e) ∙ a.there;
    }

stays_idle : (u : CUnit) (s : Statics) (r : List ℕ) (vals : List Value) (k : ℕ) → (names_old u r ≡ true → IsOne vals k) → Idle u s
    → Idle u (with_ring u r vals k s)
stays_idle u s r vals k one i x h = set_at u s r x vals k (nat_eq (place_of_ring u x) (place_of_ring u r)) refl one h (i x h)

-- what stands there is put there
put_back : (u : CUnit) (s : Statics) (r : List ℕ) → AtOne u s r → with_ring u r (values_in u s r) 0 s ≡ s
put_back u s r a =
    let state : record { values = values_in u s r; index = 0 } ≡ record { values = a.value ∷ []; index = 0 } = ap (λ (vs : List Value). record
    { values = vs; index = 0 }) (one_value u s r a) in
    ap (λ (z : RingState). record s { rings = slice_set s.rings (place_of_ring u r) z }) state
    ∙ ap (λ (zs : List RingState). record s { rings = zs }) (set_same s.rings (place_of_ring u r) (record { values = a.value ∷ []; index = 0 }) a.there)

-- ---- the statements of the old program

-- the progress that follows has each such ring at its only place
abbrev pub StaysIdle : CUnit → Result Progress Undefined → Type 0
StaysIdle u r = IfOk r (λ (q : Progress). Idle u q.statics)

-- a Store of such a ring is its Put
store_one : (u : CUnit) (xs : List Value) (r : List ℕ) (e : Expr) (p : Progress) → is_head r e ≡ true → AtOne u p.statics r
    → (carry_out u xs (stores r e) p).value ≡ Ok (with_statics p (with_ring u r (local_in u p r ∷ []) (index_in u p.statics r) p.statics))
unfolding evaluate
store_one u xs r e p h a =
    let same : e ≡ head r = head_is r e h in
    let zero_index : (evaluate u p.statics (head r)).value ≡ Ok (number (num t.U32 (pos 0))) = ap (λ (k : ℕ). Ok (number (num t.U32 (pos k))))
    (at_zero u p.statics r a) in
    let known = ap (λ (d : Expr). (evaluate u p.statics d).value) same ∙ zero_index in
    after_known (evaluate u p.statics e) (number (num t.U32 (pos 0))) (λ (v : Value). stored u r p (number_in v)) known
    ∙ ap (λ (vs : List Value). (done (element vs (pos 0)) >>= λ (old : Value). done (Ok (with_statics p (with_ring u r (slice_set vs 0 (local_in u p r))
    (index_in u p.statics r) p.statics)))).value) (one_value u p.statics r a)

-- a Move of such a ring leaves all as it is
move_one : (u : CUnit) (xs : List Value) (r : List ℕ) (e : Expr) (p : Progress) → is_old_place r e ≡ true → AtOne u p.statics r
    → (carry_out u xs (moves r e) p).value ≡ Ok p
move_one u xs r e p h a =
    after_known (evaluate u p.statics e) (number (num t.U32 (pos 0)))
    (λ (v : Value). done (converted t.U32 (number_in v)) >>= λ (k : Num). done (Ok (with_statics p (with_ring u r (values_in u p.statics r) (unsigned_abs k.n)
    p.statics))))
    (place_is_zero u p.statics r e h)
    ∙ ap (λ (st : Statics). Ok (with_statics p st)) (put_back u p.statics r a)

call_idle : (u : CUnit) (xs : List Value) (h : List ℕ) (guard : Expr) (args : Exprs) (p : Progress) → Idle u p.statics
    → StaysIdle u (carry_out u xs (calls h guard args) p).value
call_idle u xs h guard args p i =
    then_any (evaluate u p.statics guard) (λ (v : Value). called_if u h args p (number_in v)) (λ (q : Progress). Idle u q.statics)
    (λ v. if_any (is_zero (number_in v)) (done (Ok p)) (evaluate_all u p.statics (params_of u h) args >>= λ (vs : Values). done
    (Ok (with_call (record { handler = place_of_handler u h; words = words_of_all vs }) p)))
    (λ (q : Progress). Idle u q.statics) i
    (then_any (evaluate_all u p.statics (params_of u h) args) (λ (vs : Values). done
    (Ok (with_call (record { handler = place_of_handler u h; words = words_of_all vs }) p)))
    (λ (q : Progress). Idle u q.statics) (λ vs. i)))

next_idle : (u : CUnit) (xs : List Value) (r : List ℕ) (e : Expr) (p : Progress) → Idle u p.statics → StaysIdle u (carry_out u xs (nexts r e) p).value
next_idle u xs r e p i =
    then_any (evaluate u p.statics e) (λ (v : Value). done (settled (option_map (λ (ring : CRing). ring.ty) (ring_of u r)) v) >>= λ (x : Value). done
    (Ok (with_local u r x p))) (λ (q : Progress). Idle u q.statics)
    (λ v. then_any (done (settled (option_map (λ (ring : CRing). ring.ty) (ring_of u r)) v)) (λ (x : Value). done (Ok (with_local u r x p)))
    (λ (q : Progress). Idle u q.statics) (λ x. i))

set_is_one : (u : CUnit) (s : Statics) (r : List ℕ) (v : Value) (k : ℕ) → AtOne u s r → IsOne (slice_set (values_in u s r) k v) (index_in u s r)
set_is_one u s r v k a =
    let set = one_set a.value v k in
    (set.0, ap (λ (vs : List Value). slice_set vs k v) (one_value u s r a) ∙ set.1, at_zero u s r a)

store_idle : (u : CUnit) (xs : List Value) (r : List ℕ) (e : Expr) (p : Progress) → Idle u p.statics → StaysIdle u (carry_out u xs (stores r e) p).value
store_idle u xs r e p i =
    then_any (evaluate u p.statics e) (λ (v : Value). stored u r p (number_in v)) (λ (q : Progress). Idle u q.statics)
    (λ v. then_any (done (element (values_in u p.statics r) (number_in v).n))
    (λ (old : Value). done (Ok (with_statics p (with_ring u r (slice_set (values_in u p.statics r) (unsigned_abs (number_in v).n) (local_in u p r))
    (index_in u p.statics r) p.statics))))
    (λ (q : Progress). Idle u q.statics)
    (λ old. stays_idle u p.statics r (slice_set (values_in u p.statics r) (unsigned_abs (number_in v).n) (local_in u p r)) (index_in u p.statics r)
    (λ h. set_is_one u p.statics r (local_in u p r) (unsigned_abs (number_in v).n) (i r h)) i))

never : {A : Type 0} (b : Bool) → b ≡ false → b ≡ true → A
never true e h = absurd (cc e)
never false e h = absurd (cc h)

move_idle : (u : CUnit) (xs : List Value) (r : List ℕ) (e : Expr) (p : Progress) (b : Bool) → names_old u r ≡ b → UsesOfOld u (moves r e) → Idle u p.statics
    → StaysIdle u (carry_out u xs (moves r e) p).value
move_idle u xs r e p true h c i = subst (StaysIdle u) (sym (move_one u xs r e p (move_is u r e h c) (i r h))) i
move_idle u xs r e p false h c i =
    then_any (evaluate u p.statics e)
    (λ (v : Value). done (converted t.U32 (number_in v)) >>= λ (k : Num). done (Ok (with_statics p (with_ring u r (values_in u p.statics r) (unsigned_abs k.n)
    p.statics))))
    (λ (q : Progress). Idle u q.statics)
    (λ v. then_any (done (converted t.U32 (number_in v))) (λ (k : Num). done (Ok (with_statics p (with_ring u r (values_in u p.statics r) (unsigned_abs k.n)
    p.statics))))
    (λ (q : Progress). Idle u q.statics)
    (λ k. stays_idle u p.statics r (values_in u p.statics r) (unsigned_abs k.n) (λ g. never (names_old u r) h g) i))

statement_idle : (u : CUnit) (xs : List Value) (s : Stmt) (p : Progress) → UsesOfOld u s → Idle u p.statics → StaysIdle u (carry_out u xs s p).value
statement_idle u xs (copies x) p c i = λ y h. let a = i y h in record { value = a.value; there = a.there }
statement_idle u xs (calls h guard args) p c i = call_idle u xs h guard args p i
statement_idle u xs (nexts r e) p c i = next_idle u xs r e p i
statement_idle u xs (stores r e) p c i = store_idle u xs r e p i
statement_idle u xs (moves r e) p c i = move_idle u xs r e p (names_old u r) refl c i
statement_idle u xs (puts r) p c i =
    stays_idle u p.statics r (local_in u p r ∷ []) (index_in u p.statics r) (λ h. (local_in u p r, refl, at_zero u p.statics r (i r h))) i

pub all_idle : (u : CUnit) (xs : List Value) (ss : List Stmt) (p : Progress) → AllUseOfOld u ss → Idle u p.statics → StaysIdle u (carry_out_all u xs ss p).value
unfolding carry_out_all
all_idle u xs [] p c i = i
all_idle u xs (s ∷ ss) p c i =
    then_gives (carry_out u xs s p) (carry_out_all u xs ss) (λ (q : Progress). Idle u q.statics) (λ (q : Progress). Idle u q.statics)
    (statement_idle u xs s p (first_uses u s ss c) i) (λ q h. all_idle u xs ss q (rest_use u s ss c) h)

-- ---- the statements of both

-- the statement, where there is one
abbrev carried : CUnit → List Value → Option Stmt → Progress → Met Progress
carried v xs None p = done (Ok p)
carried v xs (Some s) p = carry_out v xs s p

one_then : (v : CUnit) (xs : List Value) (o : Option Stmt) (ss : List Stmt) (p : Progress) → (carry_out_all v xs (cons_option o ss) p).value ≡
    (carried v xs o p >>= carry_out_all v xs ss).value
unfolding carry_out_all
one_then v xs None ss p = refl
one_then v xs (Some s) ss p = refl

module _ (u : CUnit) (name : List ℕ) (bytes need : ℕ) (step : List CStmt) where
  called_alike : (h : List ℕ) (args : Exprs) (p : Progress) (g : Num) → Idle u p.statics → AllReadOfOld u args
      → (called_if (made u name bytes need step) h (renewed_all u args) p g).value ≡ (called_if u h args p g).value
  called_alike h args p g i c =
      let f : Values → Met Progress = λ vs. done (Ok (with_call (record { handler = place_of_handler u h; words = words_of_all vs }) p)) in
      if_alike (is_zero g) (done (Ok p)) (evaluate_all (made u name bytes need step) p.statics (params_of u h) (renewed_all u args) >>= f) (done (Ok p))
      (evaluate_all u p.statics (params_of u h) args >>= f) refl
      (then_alike (evaluate_all (made u name bytes need step) p.statics (params_of u h) (renewed_all u args)) (evaluate_all u p.statics (params_of u h) args)
      f f
      (new_values u name bytes need step p.statics (params_of u h) args i c) (λ vs. refl))

  call_alike : (xs : List Value) (h : List ℕ) (guard : Expr) (args : Exprs) (p : Progress) → UsesOfOld u (calls h guard args) → Idle u p.statics
      → (carry_out (made u name bytes need step) xs (calls h (renewed u guard) (renewed_all u args)) p).value ≡ (carry_out u xs (calls h guard args) p).value
  call_alike xs h guard args p c i =
      then_alike (evaluate (made u name bytes need step) p.statics (renewed u guard)) (evaluate u p.statics guard)
      (λ (v : Value). called_if (made u name bytes need step) h (renewed_all u args) p (number_in v)) (λ (v : Value). called_if u h args p (number_in v))
      (new_value u name bytes need step p.statics guard i (here_reads u guard args c)) (λ v. called_alike h args p (number_in v) i (others_read u guard args c))

  next_alike : (xs : List Value) (r : List ℕ) (e : Expr) (p : Progress) → UsesOfOld u (nexts r e) → Idle u p.statics
      → (carry_out (made u name bytes need step) xs (nexts r (renewed u e)) p).value ≡ (carry_out u xs (nexts r e) p).value
  next_alike xs r e p c i =
      let f : Value → Met Progress = λ x. done (Ok (with_local (made u name bytes need step) r x p)) in
      let g : Value → Met Progress = λ x. done (Ok (with_local u r x p)) in
      then_alike (evaluate (made u name bytes need step) p.statics (renewed u e)) (evaluate u p.statics e)
      (λ (v : Value). done (settled (option_map (λ (ring : CRing). ring.ty) (ring_of (made u name bytes need step) r)) v) >>= f)
      (λ (v : Value). done (settled (option_map (λ (ring : CRing). ring.ty) (ring_of u r)) v) >>= g)
      (new_value u name bytes need step p.statics e i c)
      (λ v. then_alike (done (settled (option_map (λ (ring : CRing). ring.ty) (ring_of (made u name bytes need step) r)) v))
      (done (settled (option_map (λ (ring : CRing). ring.ty) (ring_of u r)) v)) f g
      (ap (λ (q : Option CTy). settled q v) (new_ring_type u name bytes need step r))
      (λ x. ap (λ (k : ℕ). Ok (record p { locals = slice_set p.locals k x })) (new_place u name bytes need step r)))

  put_alike : (r : List ℕ) (p : Progress)
      → with_statics p (with_ring (made u name bytes need step) r (local_in (made u name bytes need step) p r ∷ []) (index_in (made u name bytes need step)
      p.statics r) p.statics)
      ≡ with_statics p (with_ring u r (local_in u p r ∷ []) (index_in u p.statics r) p.statics)
  put_alike r p =
      ap (λ (k : ℕ). with_statics p (record p.statics {
        rings = slice_set p.statics.rings k (record {
          values = value_at p.locals k ∷ [];
          index = option_map_or
              (λ (ring : RingState). ring.index) (slice_get p.statics.rings k) 0;
        });
      }))
      (new_place u name bytes need step r)

  stored_alike : (r : List ℕ) (p : Progress) (i : Num) → (stored (made u name bytes need step) r p i).value ≡ (stored u r p i).value
  stored_alike r p i =
      ap (λ (k : ℕ). (done (element (option_map_or (λ (ring : RingState). ring.values) (slice_get p.statics.rings k) []) i.n) >>= λ (old : Value).
      done (Ok (with_statics p (record p.statics {
        rings = slice_set p.statics.rings k (record {
          values = slice_set (option_map_or (λ (ring : RingState). ring.values) (slice_get p.statics.rings k) []) (unsigned_abs i.n) (value_at p.locals k);
          index = option_map_or (λ (ring : RingState). ring.index) (slice_get p.statics.rings k) 0;
        });
      })))).value)
      (new_place u name bytes need step r)

  store_alike : (xs : List Value) (r : List ℕ) (e : Expr) (p : Progress) (b : Bool) → names_old u r ≡ b → UsesOfOld u (stores r e) → Idle u p.statics
      → (carried (made u name bytes need step) xs (if b then Some (puts r) else Some (stores r (renewed u e))) p).value ≡ (carry_out u xs (stores r e) p).value
  store_alike xs r e p true h c i = ap (λ (q : Progress). Ok q) (put_alike r p) ∙ sym (store_one u xs r e p (store_is u r e h c) (i r h))
  store_alike xs r e p false h c i =
      then_alike (evaluate (made u name bytes need step) p.statics (renewed u e)) (evaluate u p.statics e)
      (λ (v : Value). stored (made u name bytes need step) r p (number_in v)) (λ (v : Value). stored u r p (number_in v))
      (new_value u name bytes need step p.statics e i (store_reads u r e h c)) (λ v. stored_alike r p (number_in v))

  moved_alike : (r : List ℕ) (p : Progress) (k : Num)
      → with_statics p (with_ring (made u name bytes need step) r (values_in (made u name bytes need step) p.statics r) (unsigned_abs k.n) p.statics)
      ≡ with_statics p (with_ring u r (values_in u p.statics r) (unsigned_abs k.n) p.statics)
  moved_alike r p k =
      ap (λ (j : ℕ). with_statics p (record p.statics {
        rings = slice_set p.statics.rings j (record {
          values = option_map_or (λ (ring : RingState).
              ring.values) (slice_get p.statics.rings j) [];
          index = unsigned_abs k.n;
        });
      }))
      (new_place u name bytes need step r)

  move_alike : (xs : List Value) (r : List ℕ) (e : Expr) (p : Progress) (b : Bool) → names_old u r ≡ b → UsesOfOld u (moves r e) → Idle u p.statics
      → (carried (made u name bytes need step) xs (if b then None else Some (moves r (renewed u e))) p).value ≡ (carry_out u xs (moves r e) p).value
  move_alike xs r e p true h c i = sym (move_one u xs r e p (move_is u r e h c) (i r h))
  move_alike xs r e p false h c i =
      let f : Num → Met Progress = λ k. done (Ok (with_statics p (with_ring (made u name bytes need step) r (values_in (made u name bytes need step) p.statics
      r) (unsigned_abs k.n) p.statics))) in
      let g : Num → Met Progress = λ k. done (Ok (with_statics p (with_ring u r (values_in u p.statics r) (unsigned_abs k.n) p.statics))) in
      then_alike (evaluate (made u name bytes need step) p.statics (renewed u e)) (evaluate u p.statics e)
      (λ (v : Value). done (converted t.U32 (number_in v)) >>= f) (λ (v : Value). done (converted t.U32 (number_in v)) >>= g)
      (new_value u name bytes need step p.statics e i (move_reads u r e h c))
      (λ v. then_alike (done (converted t.U32 (number_in v))) (done (converted t.U32 (number_in v))) f g refl (λ k. ap (λ (q : Progress). Ok q)
      (moved_alike r p k)))

  statement_alike : (xs : List Value) (s : Stmt) (p : Progress) → UsesOfOld u s → Idle u p.statics
      → (carried (made u name bytes need step) xs (renewed_statement u s) p).value ≡ (carry_out u xs s p).value
  statement_alike xs (copies x) p c i = refl
  statement_alike xs (calls h guard args) p c i = call_alike xs h guard args p c i
  statement_alike xs (nexts r e) p c i = next_alike xs r e p c i
  statement_alike xs (stores r e) p c i = store_alike xs r e p (names_old u r) refl c i
  statement_alike xs (moves r e) p c i = move_alike xs r e p (names_old u r) refl c i
  statement_alike xs (puts r) p c i = ap (λ (q : Progress). Ok q) (put_alike r p)

  pub all_alike : (xs : List Value) (ss : List Stmt) (p : Progress) → AllUseOfOld u ss → Idle u p.statics
      → (carry_out_all (made u name bytes need step) xs (filter_map (renewed_statement u) ss) p).value ≡ (carry_out_all u xs ss p).value
  unfolding carry_out_all
  all_alike xs [] p c i = refl
  all_alike xs (s ∷ ss) p c i =
      one_then (made u name bytes need step) xs (renewed_statement u s) (filter_map (renewed_statement u) ss) p
      ∙ then_alike_where (λ (q : Progress). Idle u q.statics) (carried (made u name bytes need step) xs (renewed_statement u s) p) (carry_out u xs s p)
      (carry_out_all (made u name bytes need step) xs (filter_map (renewed_statement u) ss)) (carry_out_all u xs ss)
      (statement_alike xs s p (first_uses u s ss c) i) (statement_idle u xs s p (first_uses u s ss c) i)
      (λ q h. all_alike xs ss q (rest_use u s ss c) h)
