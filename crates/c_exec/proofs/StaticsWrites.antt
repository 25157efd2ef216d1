-- A value that is written over among the words of statics: those of the statics that have it instead.
use Rattle.std.proofs.Common.{◌≡◌, ℕ, zero, suc, ◌+◌, ◌*◌, List, [], ◌∷◌, ◌++◌, length, Option, Some, refl, sym, ap, ◌∙◌, append_assoc, arith}
use Rattle.std.specs.Prelude.{IsTrue, slice_get, slice_set}
use Rattle.std.specs.List.{flat_map}
use Rattle.std.specs.Option.{option_map_or}
use Rattle.std.proofs.lemmas.List.{length-append, append-nil}
use Rattle.c99_tree.specs.declared.types.CVar.{CVar}
use Rattle.c99_tree.specs.declared.unit.CRing.{CRing}
use Rattle.c99_tree.specs.declared.unit.Unit.{Unit as CUnit}
use Rattle.c99_tree.specs.Lookup.{var_of, ring_of, place_of_var, place_of_ring}
use Rattle.c99_tree.specs.Values.{Value, words_of}
use Rattle.c99_tree.specs.Evaluation.{RingState, Statics, values_in, index_in}
use Rattle.c99_tree.specs.Step.{with_copy, with_ring}
use Rattle.c99_tree.specs.Typed.{IsStatics}
use Rattle.c99_tree.specs.WellFormed.{types_come_first}
use Rattle.c99_tree.proofs.Shaped.{externs_shaped, rings_shaped}
use Rattle.c99_tree.proofs.TypedExpressions.{state_of}
use Rattle.c_exec.specs.Layout.{var_width, var_start, ring_words, index_start}
use Rattle.c_exec.specs.Machine.{words_of_ring, words_of_statics}
use Rattle.c_exec.specs.Runs.{written}
use Rattle.c_exec.proofs.LaidOut.{copy_found, copies_long, runs_long, states_long}
use Rattle.c_exec.proofs.SetRuns.{Split, split_at, written_at}

three : (a b c d : List ℕ) → (a ++ (b ++ c)) ++ d ≡ a ++ (b ++ (c ++ d))
three a b c d = append_assoc a (b ++ c) d ∙ ap (λ (ws : List ℕ). a ++ ws) (append_assoc b c d)

-- ---- copies

pub copy_written : (u : CUnit) (s : Statics) (x : List ℕ) (v : CVar) (w : Value) → IsTrue (types_come_first u)
    → (h : IsStatics u s) (e : var_of u.externs x ≡ Some v) → length (words_of w) ≡ length (words_of (copy_found u s x v h e).value)
    → written (var_start u.types u.externs x) (words_of w) (words_of_statics s) ≡ words_of_statics (with_copy u x w s)
copy_written u s x v w t h e l =
    let f = copy_found u s x v h e in
    let p = split_at (var_width u.types) words_of u.externs s.copies (place_of_var u.externs x) f.value (copies_long u.types u.externs s.copies (externs_shaped u t) h.copies) f.there in
    let rest : List ℕ = flat_map words_of_ring s.rings in
    written_at (var_start u.types u.externs x) (words_of w) (words_of f.value) p.before (p.behind ++ rest) (words_of_statics s) (sym p.long)
    (ap (λ (ws : List ℕ). ws ++ rest) p.all ∙ three p.before (words_of f.value) p.behind rest) l
    ∙ sym (ap (λ (ws : List ℕ). ws ++ rest) (p.changed w) ∙ three p.before (words_of w) p.behind rest)

-- ---- rings

-- the words of all: those before a ring, its index and its values, and those behind it; and the same where the ring has others
pub record RingSplit (u : CUnit) (s : Statics) (r : List ℕ) : Type 0 where
  pub before : List ℕ
  pub behind : List ℕ
  pub all : words_of_statics s ≡ before ++ (index_in u s r ∷ (flat_map words_of (values_in u s r) ++ behind))
  pub changed : (vs : List Value) (k : ℕ) → words_of_statics (with_ring u r vs k s) ≡ before ++ (k ∷ (flat_map words_of vs ++ behind))
  pub long : length before ≡ index_start u r

pub ring_split : (u : CUnit) (s : Statics) (r : List ℕ) (ring : CRing) → IsTrue (types_come_first u) → IsStatics u s → ring_of u r ≡ Some ring
    → RingSplit u s r
ring_split u s r ring t h e =
    let f = state_of u s r ring h e in
    let c : List ℕ = flat_map words_of s.copies in
    let p = split_at (ring_words u.types) words_of_ring u.rings s.rings (place_of_ring u r) f.value (states_long u.types u.rings s.rings (rings_shaped u t) h.rings) f.there in
    let index : f.value.index ≡ index_in u s r = sym (ap (λ (o : Option RingState). option_map_or (λ (z : RingState). z.index) o 0) f.there) in
    let values : f.value.values ≡ values_in u s r = sym (ap (λ (o : Option RingState). option_map_or (λ (z : RingState). z.values) o []) f.there) in
    let copies = runs_long (var_width u.types) words_of u.externs s.copies (copies_long u.types u.externs s.copies (externs_shaped u t) h.copies) in
    let both = length-append c p.before in
    let there = p.long in
    record {
      before = c ++ p.before;
      behind = p.behind;
      all = ap (λ (ws : List ℕ). c ++ ws) p.all ∙ sym (append_assoc c p.before (words_of_ring f.value ++ p.behind))
          ∙ ap (λ (k : ℕ). (c ++ p.before) ++ (k ∷ (flat_map words_of f.value.values ++ p.behind))) index
          ∙ ap (λ (vs : List Value). (c ++ p.before) ++ (index_in u s r ∷ (flat_map words_of vs ++ p.behind))) values;
      changed = λ vs k. ap (λ (ws : List ℕ). c ++ ws) (p.changed (record { values = vs; index = k })) ∙ sym (append_assoc c p.before (k ∷ (flat_map words_of vs ++ p.behind)));
      long = omega (arith, copies, both, there);
    }

pub index_written : (u : CUnit) (s : Statics) (r : List ℕ) (k : ℕ) → RingSplit u s r
    → written (index_start u r) (k ∷ []) (words_of_statics s) ≡ words_of_statics (with_ring u r (values_in u s r) k s)
index_written u s r k p =
    written_at (index_start u r) (k ∷ []) (index_in u s r ∷ []) p.before (flat_map words_of (values_in u s r) ++ p.behind) (words_of_statics s) (sym p.long) p.all refl
    ∙ sym (p.changed (values_in u s r) k)

-- the values of a ring begin behind its index
behind_index : (start : ℕ) (before : List ℕ) (k : ℕ) → length before ≡ start → start + 1 ≡ length (before ++ k ∷ [])
behind_index start before k e = let l = length-append before (k ∷ []) in omega (arith, l, e)

-- one value in place of all values of a ring
pub values_written : (u : CUnit) (s : Statics) (r : List ℕ) (v : Value) → RingSplit u s r → length (words_of v) ≡ length (flat_map words_of (values_in u s r))
    → written (index_start u r + 1) (words_of v) (words_of_statics s) ≡ words_of_statics (with_ring u r (v ∷ []) (index_in u s r) s)
values_written u s r v p l =
    let k : ℕ = index_in u s r in
    let old : List ℕ = flat_map words_of (values_in u s r) in
    written_at (index_start u r + 1) (words_of v) old (p.before ++ k ∷ []) p.behind (words_of_statics s) (behind_index (index_start u r) p.before k p.long)
    (p.all ∙ sym (append_assoc p.before (k ∷ []) (old ++ p.behind))) l
    ∙ append_assoc p.before (k ∷ []) (words_of v ++ p.behind)
    ∙ sym (p.changed (v ∷ []) k ∙ ap (λ (ws : List ℕ). p.before ++ (k ∷ (ws ++ p.behind))) (append-nil (words_of v)))

-- values of n words each
value_split : (n : ℕ) (vs : List Value) (k : ℕ) (y : Value) → ((j : ℕ) (v : Value) → slice_get vs j ≡ Some v → length (words_of v) ≡ n)
    → slice_get vs k ≡ Some y → Split words_of vs k (k * n) y
value_split n [] k y h e = absurd (cc e)
value_split n (v ∷ vs) zero y h e =
    let same : v ≡ y = cc e in
    record { before = []; behind = flat_map words_of vs; all = ap (λ (z : Value). words_of z ++ flat_map words_of vs) same; changed = λ z. refl; long = omega arith }
value_split n (v ∷ vs) (suc k) y h e =
    let s = value_split n vs k y (λ j w q. h (suc j) w q) e in
    let both = length-append (words_of v) s.before in
    let here = h 0 v refl in
    let there = s.long in
    let m : suc k * n ≡ n + k * n = omega arith in
    record {
      before = words_of v ++ s.before;
      behind = s.behind;
      all = ap (λ (ws : List ℕ). words_of v ++ ws) s.all ∙ sym (append_assoc (words_of v) s.before (words_of y ++ s.behind));
      changed = λ z. ap (λ (ws : List ℕ). words_of v ++ ws) (s.changed z) ∙ sym (append_assoc (words_of v) s.before (words_of z ++ s.behind));
      long = omega (arith, both, here, there, m);
    }

within_values : (p b c d q : List ℕ) (k : ℕ) → p ++ (k ∷ ((b ++ (c ++ d)) ++ q)) ≡ ((p ++ k ∷ []) ++ b) ++ (c ++ (d ++ q))
within_values p b c d q k =
    ap (λ (ws : List ℕ). p ++ (k ∷ ws)) (three b c d q) ∙ sym (append_assoc p (k ∷ []) (b ++ (c ++ (d ++ q)))) ∙ sym (append_assoc (p ++ k ∷ []) b (c ++ (d ++ q)))

-- one of the values of a ring, of n words each
pub element_written : (u : CUnit) (s : Statics) (r : List ℕ) (n k : ℕ) (y v : Value) → RingSplit u s r
    → ((j : ℕ) (w : Value) → slice_get (values_in u s r) j ≡ Some w → length (words_of w) ≡ n) → slice_get (values_in u s r) k ≡ Some y
    → length (words_of v) ≡ n
    → written ((index_start u r + 1) + k * n) (words_of v) (words_of_statics s) ≡ words_of_statics (with_ring u r (slice_set (values_in u s r) k v) (index_in u s r) s)
element_written u s r n k y v p each e l =
    let q = value_split n (values_in u s r) k y each e in
    let i : ℕ = index_in u s r in
    let a = length-append (p.before ++ i ∷ []) q.before in
    let b = behind_index (index_start u r) p.before i p.long in
    let c = q.long in
    let old = each k y e in
    written_at ((index_start u r + 1) + k * n) (words_of v) (words_of y) ((p.before ++ i ∷ []) ++ q.before) (q.behind ++ p.behind) (words_of_statics s) (omega (arith, a, b, c))
    (p.all ∙ ap (λ (ws : List ℕ). p.before ++ (i ∷ (ws ++ p.behind))) q.all ∙ within_values p.before q.before (words_of y) q.behind p.behind i) (omega (arith, l, old))
    ∙ sym (p.changed (slice_set (values_in u s r) k v) i ∙ ap (λ (ws : List ℕ). p.before ++ (i ∷ (ws ++ p.behind))) (q.changed v) ∙ within_values p.before q.before (words_of v) q.behind p.behind i)
