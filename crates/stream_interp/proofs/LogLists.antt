-- Marks in a list of words, and the events that they are.
use Rattle.std.proofs.Common.{◌≡◌, ℕ, zero, suc, ◌+◌, ◌-◌, ◌<◌, ◌≤◌, List, [], ◌∷◌, ◌++◌, length, map, take, drop, get_or, set, Some, Ok, refl, sym, ap, ◌∙◌, subst, arith}
use Rattle.std.specs.Prelude.{slice_get}
use Rattle.std.specs.List.{AllByRecursion}
use Rattle.std.proofs.lemmas.List.{length-take-le, length-drop, length-map, length-set, take-take, drop-take, take_more_set, map_push}
use Rattle.stream_core.specs.Library.{bind}
use Rattle.stream_core.specs.Eval.{Event, Value}
use Rattle.stream_interp.specs.declared.events.Who.{Who}
use Rattle.stream_interp.specs.declared.events.Who.TheVariants.{Trigger}
use Rattle.stream_interp.specs.declared.events.Mark.{Mark}
use Rattle.stream_interp.specs.EventLog.{who_of, event_at, events_in, AreBefore, used, IsFilled}

-- the words before a place are enough for the marks before it
same_run : (first end n : ℕ) (old new : List ℕ) → first ≤ end → end ≤ n → take n new ≡ take n old → take (end - first) (drop first new) ≡ take (end - first) (drop first old)
same_run first end n old new a b e =
    let z : first + (end - first) ≡ end = omega (arith, a) in
    sym (drop-take first (end - first) new) ∙ ap (λ (k : ℕ). drop first (take k new)) z
    ∙ ap (drop first) (sym (take-take end n new b) ∙ ap (take end) e ∙ take-take end n old b)
    ∙ sym (ap (λ (k : ℕ). drop first (take k old)) z) ∙ drop-take first (end - first) old

pub events_stay : (n : ℕ) (old new : List ℕ) (marks : List Mark) → AreBefore n marks → take n new ≡ take n old → events_in new marks ≡ events_in old marks
events_stay n old new [] h e = refl
events_stay n old new (k ∷ ks) h e =
    ap (λ (ws : List ℕ). record { who = who_of k.who; words = ws } ∷ events_in new ks) (same_run k.first k.end n old new h.0.0 h.0.1 e)
    ∙ ap (λ (es : List Event). event_at old k ∷ es) (events_stay n old new ks h.1 e)

later : (n m : ℕ) (marks : List Mark) → n ≤ m → AreBefore n marks → AreBefore m marks
later n m [] le h = tt
later n m (k ∷ ks) le h = let b = h.0.1 in ((h.0.0, omega (arith, b, le)), later n m ks le h.1)

push_before : (n : ℕ) (marks : List Mark) (k : Mark) → AreBefore n marks → k.first ≤ k.end → k.end ≤ n → AreBefore n (marks ++ k ∷ [])
push_before n [] k h a b = ((a, b), tt)
push_before n (j ∷ js) k h a b = (h.0, push_before n js k h.1 a b)

pub used_push : (es : List Event) (e : Event) → used (es ++ e ∷ []) ≡ used es + length e.words
used_push [] e = omega arith
used_push (d ∷ es) e = let h = used_push es e in omega (arith, h)

pub count_events : (words : List ℕ) (marks : List Mark) (n : ℕ) → n ≤ length marks → length (events_in words (take n marks)) ≡ n
count_events words marks n le = length-map (take n marks) (event_at words) ∙ length-take-le n marks le

-- the mark of a further event, whose words lie from one place to another
module _ (old new : List ℕ) (end : ℕ) (marks : List Mark) (count : ℕ) (filled : IsFilled old end marks count) (k : Mark) (first_is : k.first ≡ end) (within : k.first ≤ k.end) (room : k.end ≤ length new) (less : count < length marks) (front : take end new ≡ take end old) where
  marked : take (count + 1) (set marks count k) ≡ take count marks ++ k ∷ []
  marked = take_more_set marks count k less

  pub added : events_in new (take (count + 1) (set marks count k)) ≡ events_in old (take count marks) ++ event_at new k ∷ []
  added =
      ap (events_in new) marked ∙ map_push (event_at new) (take count marks) k
      ∙ ap (λ (es : List Event). es ++ event_at new k ∷ []) (events_stay end old new (take count marks) filled.before front)

  own_words : length (event_at new k).words ≡ k.end - k.first
  own_words = let d = length-drop k.first new in length-take-le (k.end - k.first) (drop k.first new) (omega (arith, d, room, within))

  pub added_used : used (events_in new (take (count + 1) (set marks count k))) ≡ k.end
  added_used =
      let u = filled.used_are in
      let w = own_words in
      ap used added ∙ used_push (events_in old (take count marks)) (event_at new k) ∙ omega (arith, u, w, first_is, within)

  pub still_filled : IsFilled new k.end (set marks count k) (count + 1)
  still_filled =
      let l = length-set_of in
      record {
        within = room;
        counted = omega (arith, l, less);
        before = subst (AreBefore k.end) (sym marked) (push_before k.end (take count marks) k (later end k.end (take count marks) (omega (arith, first_is, within)) filled.before) within (omega arith));
        used_are = added_used;
      }
    where
      length-set_of : length (set marks count k) ≡ length marks
      length-set_of = length-set marks count k

-- an event whose words are a value that stands behind those of the others
pub added_value : (old new : List ℕ) (end : ℕ) (marks : List Mark) (count : ℕ) → IsFilled old end marks count → (w : Who) (next : ℕ) (value : Value) → end ≤ next → next ≤ length new → count < length marks → take end new ≡ take end old
    → value ≡ Ok (take (next - end) (drop end new))
    → bind value (λ ws. Ok (events_in old (take count marks) ++ record { who = who_of w; words = ws } ∷ [])) ≡ Ok (events_in new (take (count + 1) (set marks count (record { who = w; first = end; end = next }))))
added_value old new end marks count filled w next value from to less front is =
    ap (λ (r : Value). bind r (λ ws. Ok (events_in old (take count marks) ++ record { who = who_of w; words = ws } ∷ []))) is
    ∙ ap (λ (es : List Event). Ok es) (sym (added old new end marks count filled (record { who = w; first = end; end = next }) refl from to less front))

-- words that change behind the events' leave them
pub filled_stays : (old new : List ℕ) (end : ℕ) (marks : List Mark) (count : ℕ) → IsFilled old end marks count → length new ≡ length old → take end new ≡ take end old → IsFilled new end marks count
filled_stays old new end marks count filled long front =
    let w = filled.within in
    record {
      within = omega (arith, w, long);
      counted = filled.counted;
      before = filled.before;
      used_are = ap used (events_stay end old new (take count marks) filled.before front) ∙ filled.used_are;
    }

-- ---- an event by its place

some_is : {X : Type 0} (x y : X) → Some x ≡ Some y → x ≡ y
some_is x y e = cc

pub event_of : (words : List ℕ) (marks : List Mark) (i : ℕ) (d : Mark) (e : Event) → i < length marks → slice_get (events_in words marks) i ≡ Some e → event_at words (get_or marks i d) ≡ e
event_of words [] i d e h is = absurd (omega (arith, h))
event_of words (k ∷ ks) zero d e h is = some_is (event_at words k) e is
event_of words (k ∷ ks) (suc i) d e h is = event_of words ks i d e (omega (arith, h)) is

pub mark_before : (n : ℕ) (marks : List Mark) (i : ℕ) (d : Mark) → i < length marks → AreBefore n marks → ((get_or marks i d).first ≤ (get_or marks i d).end) × ((get_or marks i d).end ≤ n)
mark_before n [] i d h b = absurd (omega (arith, h))
mark_before n (k ∷ ks) zero d h b = b.0
mark_before n (k ∷ ks) (suc i) d h b = mark_before n ks i d (omega (arith, h)) b.1

-- the mark that an index outside the list would read
abbrev pub blank : Mark
blank = record { who = Trigger 0; first = 0; end = 0 }

pub event_is : (words : List ℕ) (marks : List Mark) (es : List Event) (i : ℕ) (e : Event) → events_in words marks ≡ es → i < length es → slice_get es i ≡ Some e → event_at words (get_or marks i blank) ≡ e
event_is words marks es i e are less is =
    let n = length-map marks (event_at words) in
    let m = ap length are in
    event_of words marks i blank e (omega (arith, n, m, less)) (ap (λ (fs : List Event). slice_get fs i) are ∙ is)
