-- Statements one after another, by the place of the next one.
use Rattle.std.proofs.Common.{◌≡◌, ℕ, zero, suc, ◌+◌, ◌<◌, ◌≤◌, List, [], ◌∷◌, length, map, drop, get_or, Result, Ok, Err, refl, sym, ap, ◌∙◌, arith}
use Rattle.c99_tree.specs.declared.undefined.Undefined.{Undefined}
use Rattle.c99_tree.specs.Evaluation.{Met, done, after}
use Rattle.c_exec.specs.declared.code.Line.{Line}
use Rattle.c_exec.specs.Codes.{act_of}
use Rattle.c_exec.specs.Going.{Memory, Rooms, left_by, act, act_all}

pub drop_next : {X : Type 0} (xs : List X) (i : ℕ) (x : X) → i < length xs → x ≡ get_or xs i x → drop i xs ≡ x ∷ drop (i + 1) xs
drop_next [] i x h e = absurd (omega (arith, h))
drop_next (y ∷ xs) zero x h e = ap (λ (z : _). z ∷ xs) (sym e)
drop_next (y ∷ xs) (suc i) x h e =
    let s : suc (i + 1) ≡ suc i + 1 = omega arith in
    drop_next xs i x (omega (arith, h)) e ∙ ap (λ (k : ℕ). x ∷ drop k (y ∷ xs)) s

pub drop_past : {X : Type 0} (xs : List X) (i : ℕ) → length xs ≤ i → drop i xs ≡ []
drop_past [] zero h = refl
drop_past [] (suc i) h = refl
drop_past (x ∷ xs) zero h = absurd (omega (arith, h))
drop_past (x ∷ xs) (suc i) h = drop_past xs i (omega (arith, h))

-- the next statement, in rooms of which the lengths are known
acts_at : (rs : Rooms) (row : List ℕ) (lines : List Line) (i : ℕ) (line : Line) (m : Memory) → i < length lines → line ≡ get_or lines i line
    → act_all rs row (map act_of (drop i lines)) m
    ≡ after (act rs row (act_of line) m).value (act rs row (act_of line) m).count (act_all rs row (map act_of (drop (i + 1) lines)))
unfolding act_all
acts_at rs row lines i line m h e = ap (λ (ls : List Line). act_all rs row (map act_of ls) m) (drop_next lines i line h e)

moved_rooms : (rs now : Rooms) (row : List ℕ) (line : Line) (m : Memory) (r : Result Memory Undefined) → now ≡ rs
    → (act now row (act_of line) m).value ≡ r → (act rs row (act_of line) m).value ≡ r
moved_rooms rs now row line m r e h = sym (ap (λ (z : Rooms). (act z row (act_of line) m).value) e) ∙ h

-- a statement that was carried out
pub acts_next : (rs now : Rooms) (row : List ℕ) (lines : List Line) (i : ℕ) (line : Line) (m n : Memory) (r : Result (Unit {0}) Undefined)
    → i < length lines → line ≡ get_or lines i line → now ≡ rs → (act now row (act_of line) m).value ≡ left_by r n → r ≡ Ok tt
    → (act_all rs row (map act_of (drop i lines)) m).value ≡ (act_all rs row (map act_of (drop (i + 1) lines)) n).value
acts_next rs now row lines i line m n r h e g v k =
    let rest : Memory → Met Memory = act_all rs row (map act_of (drop (i + 1) lines)) in
    let done_is : (act rs row (act_of line) m).value ≡ Ok n =
    moved_rooms rs now row line m (Ok n) g (v ∙ ap (λ (z : Result (Unit {0}) Undefined). left_by z n) k) in
    ap (λ (z : Met Memory). z.value) (acts_at rs row lines i line m h e)
    ∙ ap (λ (z : Result Memory Undefined). (after z (act rs row (act_of line) m).count rest).value) done_is

pub acts_next_count : (rs now : Rooms) (row : List ℕ) (lines : List Line) (i : ℕ) (line : Line) (m n : Memory) (r : Result (Unit {0}) Undefined)
    (before after_it whole : ℕ) → i < length lines → line ≡ get_or lines i line → now ≡ rs → (act now row (act_of line) m).value ≡ left_by r n → r ≡ Ok tt
    → after_it ≡ before + (act now row (act_of line) m).count
    → before + (act_all rs row (map act_of (drop i lines)) m).count ≡ whole
    → after_it + (act_all rs row (map act_of (drop (i + 1) lines)) n).count ≡ whole
acts_next_count rs now row lines i line m n r before after_it whole h e g v k c w =
    let rest : Memory → Met Memory = act_all rs row (map act_of (drop (i + 1) lines)) in
    let done_is : (act rs row (act_of line) m).value ≡ Ok n =
    moved_rooms rs now row line m (Ok n) g (v ∙ ap (λ (z : Result (Unit {0}) Undefined). left_by z n) k) in
    let one : (act now row (act_of line) m).count ≡ (act rs row (act_of line) m).count = ap (λ (z : Rooms). (act z row (act_of line) m).count) g in
    let all : (act_all rs row (map act_of (drop i lines)) m).count ≡ (act rs row (act_of line) m).count + (rest n).count =
    ap (λ (z : Met Memory). z.count) (acts_at rs row lines i line m h e)
    ∙ ap (λ (z : Result Memory Undefined). (after z (act rs row (act_of line) m).count rest).count) done_is in
    omega (arith, c, one, all, w)

-- one that met something undefined
pub acts_stop : (rs now : Rooms) (row : List ℕ) (lines : List Line) (i : ℕ) (line : Line) (m n : Memory) (r : Result (Unit {0}) Undefined) (why : Undefined)
    → i < length lines → line ≡ get_or lines i line → now ≡ rs → (act now row (act_of line) m).value ≡ left_by r n → r ≡ Err why
    → (act_all rs row (map act_of (drop i lines)) m).value ≡ Err why
acts_stop rs now row lines i line m n r why h e g v k =
    let rest : Memory → Met Memory = act_all rs row (map act_of (drop (i + 1) lines)) in
    let met : (act rs row (act_of line) m).value ≡ Err why =
    moved_rooms rs now row line m (Err why) g (v ∙ ap (λ (z : Result (Unit {0}) Undefined). left_by z n) k) in
    ap (λ (z : Met Memory). z.value) (acts_at rs row lines i line m h e)
    ∙ ap (λ (z : Result Memory Undefined). (after z (act rs row (act_of line) m).count rest).value) met

pub acts_stop_count : (rs now : Rooms) (row : List ℕ) (lines : List Line) (i : ℕ) (line : Line) (m n : Memory) (r : Result (Unit {0}) Undefined)
    (why : Undefined) (before after_it whole : ℕ) → i < length lines → line ≡ get_or lines i line → now ≡ rs
    → (act now row (act_of line) m).value ≡ left_by r n → r ≡ Err why → after_it ≡ before + (act now row (act_of line) m).count
    → before + (act_all rs row (map act_of (drop i lines)) m).count ≡ whole → after_it ≡ whole
acts_stop_count rs now row lines i line m n r why before after_it whole h e g v k c w =
    let rest : Memory → Met Memory = act_all rs row (map act_of (drop (i + 1) lines)) in
    let met : (act rs row (act_of line) m).value ≡ Err why =
    moved_rooms rs now row line m (Err why) g (v ∙ ap (λ (z : Result (Unit {0}) Undefined). left_by z n) k) in
    let one : (act now row (act_of line) m).count ≡ (act rs row (act_of line) m).count = ap (λ (z : Rooms). (act z row (act_of line) m).count) g in
    let all : (act_all rs row (map act_of (drop i lines)) m).count ≡ (act rs row (act_of line) m).count =
    ap (λ (z : Met Memory). z.count) (acts_at rs row lines i line m h e)
    ∙ ap (λ (z : Result Memory Undefined). (after z (act rs row (act_of line) m).count rest).count) met in
    omega (arith, c, one, all, w)

-- no more statements
pub acts_end : (rs : Rooms) (row : List ℕ) (lines : List Line) (i : ℕ) (m : Memory) → length lines ≤ i
    → act_all rs row (map act_of (drop i lines)) m ≡ done (Ok m)
unfolding act_all
acts_end rs row lines i m h = ap (λ (ls : List Line). act_all rs row (map act_of ls) m) (drop_past lines i h)
