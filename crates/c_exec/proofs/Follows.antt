-- What a machine keeps of how far a call of `step` has come.
use Rattle.std.proofs.Common.{◌≡◌, ℕ, ◌+◌, ◌≤◌, Bool, true, false, ◌||◌, List, [], ◌∷◌, ◌++◌, length, take, drop, Some, Result, Ok, Err, refl, sym, ap, ◌∙◌, subst, arith}
use Rattle.std.specs.Prelude.{IfOk, map}
use Rattle.std.specs.List.{list_any, sum_by}
use Rattle.std.proofs.lemmas.List.{map-append}
use Rattle.std.proofs.lemmas.List.Folds.{list_any-append}
use Rattle.std.proofs.lemmas.List.Sums.{sum_by_push}
use Rattle.c99_tree.specs.declared.undefined.Undefined.{Undefined}
use Rattle.c99_tree.specs.declared.unit.CRing.{CRing}
use Rattle.c99_tree.specs.declared.unit.Unit.{Unit as CUnit}
use Rattle.c99_tree.specs.Tree.{Stmt}
use Rattle.c99_tree.specs.Lookup.{ring_of}
use Rattle.c99_tree.specs.Values.{Value, words_of}
use Rattle.c99_tree.specs.Evaluation.{Met, after, meets, Statics}
use Rattle.c99_tree.specs.Step.{Progress, with_statics, local_in}
use Rattle.c99_tree.specs.WellFormed.{is_next_of}
use Rattle.c_exec.specs.Called.{calls_in}
use Rattle.c_exec.specs.Codes.{Op, Act}
use Rattle.c_exec.specs.Going.{Memory, Rooms, go}
use Rattle.c_exec.specs.Layout.{locals_width, local_start, value_width}
use Rattle.c_exec.specs.Machine.{words_of_statics}
use Rattle.c_exec.specs.Needs.{need, act_need, call_count, call_words}
use Rattle.c_exec.specs.Resolving.{act_for}
use Rattle.c_exec.proofs.Simulates.{pushed}
use Rattle.c_exec.proofs.ExpressionsGo.{Sims}
use Rattle.c_exec.proofs.CallsMore.{Rises}

-- the words of the statics, those of each local that has its Next among these statements, and the calls so far, which need
-- no more room than those statements
pub record Follows (u : CUnit) (before : List Stmt) (p : Progress) (m : Memory) : Type 0 where
  pub statics : m.statics ≡ words_of_statics p.statics
  pub wide : length m.locals ≡ locals_width u
  pub held : (r : List ℕ) (ring : CRing) → ring_of u r ≡ Some ring → list_any (is_next_of r) before ≡ true
      → take (value_width u r) (drop (local_start u r) m.locals) ≡ words_of (local_in u p r)
  pub paired : length m.handlers ≡ length m.ends
  pub rises : Rises 0 m.ends (length m.words)
  pub calls : calls_in 0 m.handlers m.ends m.words ≡ p.called
  pub few : length m.handlers ≤ sum_by call_count (map (act_for u) before)
  pub short : length m.words ≤ sum_by call_words (map (act_for u) before)

-- there is room for a statement behind others
pub record Roomy (u : CUnit) (rs : Rooms) (before : List Stmt) (s : Stmt) : Type 0 where
  pub pile : act_need (act_for u s) ≤ rs.pile
  pub handlers : sum_by call_count (map (act_for u) before) + call_count (act_for u s) ≤ rs.handlers
  pub ends : sum_by call_count (map (act_for u) before) + call_count (act_for u s) ≤ rs.ends
  pub words : sum_by call_words (map (act_for u) before) + call_words (act_for u s) ≤ rs.words

-- both meet the same thing that is undefined, or the words follow
abbrev pub AgreesBy : CUnit → List Stmt → Result Memory Undefined → Result Progress Undefined → Type 0
AgreesBy u before (Ok m) (Ok p) = Follows u before p m
AgreesBy u before (Ok m) (Err e) = ⊥
AgreesBy u before (Err e) (Ok p) = ⊥
AgreesBy u before (Err e) (Err f) = e ≡ f

pub record Agrees (u : CUnit) (before : List Stmt) (a : Met Memory) (b : Met Progress) : Type 0 where
  pub value : AgreesBy u before a.value b.value
  pub count : a.count ≡ b.count

-- what follows the words of an expression's value, and what follows the value
pub value_agrees : (u : CUnit) (before : List Stmt) (r : Result Value Undefined) (n : ℕ) (f : Value → Met Progress) (g : List ℕ → Met Memory) (P : Value → Type 0)
    → IfOk r P → ((v : Value) → P v → Agrees u before (g (words_of v)) (f v))
    → Agrees u before (after (pushed [] r) n g) (after r n f)
value_agrees u before (Ok v) n f g P p h = let a = h v p in record { value = a.value; count = ap (λ (k : ℕ). n + k) a.count }
value_agrees u before (Err e) n f g P p h = record { value = refl; count = refl }

-- the same of a resolved expression, on words that are as it is said
pub sims_agree : (u : CUnit) (before : List Stmt) (room : ℕ) (held ws : List ℕ) (a : Op) (m : Met Value) (f : Value → Met Progress) (g : List ℕ → Met Memory)
    (P : Value → Type 0) → held ≡ ws → Sims room ws a m → need a ≤ room → IfOk m.value P
    → ((v : Value) → P v → Agrees u before (g (words_of v)) (f v))
    → Agrees u before (after (go room held a []).value (go room held a []).count g) (after m.value m.count f)
sims_agree u before room held ws a m f g P e s n p h =
    let fits : 0 + need a ≤ room = omega (arith, n) in
    subst (λ (z : Met (List ℕ)). Agrees u before (after z.value z.count g) (after m.value m.count f))
    (sym (ap (λ (ys : List ℕ). go room ys a []) e ∙ s.goes [] fits)) (value_agrees u before m.value m.count f g P p h)

-- operators, met before both
pub meets_agree : (u : CUnit) (before : List Stmt) (n : ℕ) (a : Met Memory) (b : Met Progress) → Agrees u before a b
    → Agrees u before (meets n a) (meets n b)
meets_agree u before n a b h = record { value = h.value; count = ap (λ (k : ℕ). n + k) h.count }

step_agrees : (u : CUnit) (before more : List Stmt) (a : Result Memory Undefined) (b : Result Progress Undefined) (n k : ℕ) (f : Memory → Met Memory) (g : Progress → Met Progress) (P : Progress → Type 0)
    → AgreesBy u before a b → n ≡ k → IfOk b P
    → ((m : Memory) (p : Progress) → Follows u before p m → P p → Agrees u more (f m) (g p)) → Agrees u more (after a n f) (after b k g)
step_agrees u before more (Ok m) (Ok p) n k f g P h e q r =
    let a = r m p h q in
    let z = a.count in
    record { value = a.value; count = omega (arith, e, z) }
step_agrees u before more (Ok m) (Err e) n k f g P h c q r = absurd h
step_agrees u before more (Err e) (Ok p) n k f g P h c q r = absurd h
step_agrees u before more (Err e) (Err d) n k f g P h c q r = record { value = h; count = c }

-- one statement, and then those behind it
pub then_agrees : (u : CUnit) (before more : List Stmt) (a : Met Memory) (b : Met Progress) (f : Memory → Met Memory) (g : Progress → Met Progress) (P : Progress → Type 0)
    → Agrees u before a b → IfOk b.value P
    → ((m : Memory) (p : Progress) → Follows u before p m → P p → Agrees u more (f m) (g p))
    → Agrees u more (after a.value a.count f) (after b.value b.count g)
then_agrees u before more a b f g P h q r = step_agrees u before more a.value b.value a.count b.count f g P h.value h.count q r

-- ---- what changes

or_last : (a b : Bool) → b ≡ false → (a || (b || false)) ≡ true → a ≡ true
or_last true b e h = refl
or_last false true e h = absurd (cc e)
or_last false false e h = h

pub before_it : (r : List ℕ) (before : List Stmt) (s : Stmt) → is_next_of r s ≡ false → list_any (is_next_of r) (before ++ s ∷ []) ≡ true
    → list_any (is_next_of r) before ≡ true
before_it r before s e h = or_last (list_any (is_next_of r) before) (is_next_of r s) e (sym (list_any-append (is_next_of r) before (s ∷ [])) ∙ h)

-- one more statement
pub counted : (f : Act → ℕ) (u : CUnit) (before : List Stmt) (s : Stmt)
    → sum_by f (map (act_for u) (before ++ s ∷ [])) ≡ sum_by f (map (act_for u) before) + f (act_for u s)
counted f u before s = ap (sum_by f) (map-append (act_for u) before (s ∷ [])) ∙ sum_by_push f (map (act_for u) before) (act_for u s)

pub no_more : (f : Act → ℕ) (u : CUnit) (before : List Stmt) (s : Stmt) (n : ℕ) → n ≤ sum_by f (map (act_for u) before)
    → n ≤ sum_by f (map (act_for u) (before ++ s ∷ []))
no_more f u before s n h = let c = counted f u before s in omega (arith, c, h)

-- other statics alone
pub follows_statics : (u : CUnit) (before : List Stmt) (s : Stmt) (p : Progress) (m : Memory) (q : Statics) (ws : List ℕ)
    → ((r : List ℕ) → is_next_of r s ≡ false) → Follows u before p m → ws ≡ words_of_statics q
    → Follows u (before ++ s ∷ []) (with_statics p q) (record m { statics = ws })
follows_statics u before s p m q ws none f e = record {
  statics = e;
  wide = f.wide;
  held = λ r ring g h. f.held r ring g (before_it r before s (none r) h);
  paired = f.paired;
  rises = f.rises;
  calls = f.calls;
  few = no_more call_count u before s (length m.handlers) f.few;
  short = no_more call_words u before s (length m.words) f.short;
}

-- nothing
pub follows_nothing : (u : CUnit) (before : List Stmt) (s : Stmt) (p : Progress) (m : Memory) → ((r : List ℕ) → is_next_of r s ≡ false)
    → Follows u before p m → Follows u (before ++ s ∷ []) p m
follows_nothing u before s p m none f = record {
  statics = f.statics;
  wide = f.wide;
  held = λ r ring g h. f.held r ring g (before_it r before s (none r) h);
  paired = f.paired;
  rises = f.rises;
  calls = f.calls;
  few = no_more call_count u before s (length m.handlers) f.few;
  short = no_more call_words u before s (length m.words) f.short;
}
