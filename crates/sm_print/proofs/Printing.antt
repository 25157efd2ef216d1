-- Texts that are printed one after another.
use Rattle.std.proofs.Common.{◌≡◌, ℕ, ◌+◌, ◌<◌, ◌≤◌, Bool, true, false, not, List, [], ◌∷◌, ◌++◌, get_or, map, take, drop, length, Option, refl, sym, ap, ◌∙◌, subst, append_assoc, append-nil}
use Rattle.std.proofs.lemmas.Bool.{true≢false}
use Rattle.std.proofs.lemmas.Grind.{flat_map-append}
use Rattle.std.proofs.lemmas.List.{take_more, take_all, drop_more, drop_all}
use Rattle.std.proofs.lemmas.List.Concat.{flat_map-cons}
use Rattle.std.specs.List.{flat_map}
use Rattle.sm_io.specs.Written.{WritesText}
use Rattle.sm_io.proofs.Written.{then_text, longer, no_text}
use Rattle.sm_print.specs.declared.printer.Printer.{Printer}
use Rattle.sm_print.specs.Prints.{GoesBy, Prints, Starts}

join : (f g h : Bool) (o p q : Option (List ℕ)) (m n k : ℕ) (a b : List ℕ) → GoesBy f o m a g p n → GoesBy g p n b h q k → GoesBy f o m (a ++ b) h q k
join true true h o p q m n k a b s t = (t.0, t.1 ∙ s.1, t.2 ∙ s.2)
join true false h o p q m n k a b s t = absurd (true≢false (sym s.0))
join false true h o p q m n k a b s t = rw (t.0, t.1, t.2) (longer b s)
join false false h o p q m n k a b s t = then_text s t

nothing : (f : Bool) (o : Option (List ℕ)) (m : ℕ) → GoesBy f o m [] f o m
nothing true o m = (refl, refl, refl)
nothing false o m = no_text

infixl 4 ◌⨾◌
-- one text and then another
pub ◌⨾◌ : {K : Type 0} {taken : K → Option (List ℕ)} {faults : K → ℕ} {p q r : Printer K} {a b : List ℕ}
    → Prints taken faults p a q → Prints taken faults q b r → Prints taken faults p (a ++ b) r
◌⨾◌ {taken = taken} {faults = faults} {p = p} {q = q} {r = r} {a = a} {b = b} s t = record {
  goes = join p.failed q.failed r.failed (taken p.sink.now) (taken q.sink.now) (taken r.sink.now) (faults p.sink.now) (faults q.sink.now) (faults r.sink.now) a b s.goes t.goes;
  same = t.same ∙ s.same;
}

-- an equal text
pub Prints-is : {K : Type 0} {taken : K → Option (List ℕ)} {faults : K → ℕ} {p q : Printer K} {a b : List ℕ}
    → a ≡ b → Prints taken faults p a q → Prints taken faults p b q
Prints-is {taken = taken} {faults = faults} {p = p} {q = q} e s = subst (λ (text : List ℕ). Prints taken faults p text q) e s

-- texts of two and of three parts, grouped as they stand in a longer one
pub Prints-two : {K : Type 0} {taken : K → Option (List ℕ)} {faults : K → ℕ} {p q r : Printer K} {a : List ℕ} (b c : List ℕ)
    → Prints taken faults p a q → Prints taken faults q (b ++ c) r → Prints taken faults p (a ++ b ++ c) r
Prints-two {a = a} b c s t = Prints-is (sym (append_assoc a b c)) (s ⨾ t)

pub Prints-three : {K : Type 0} {taken : K → Option (List ℕ)} {faults : K → ℕ} {p q r : Printer K} {a : List ℕ} (b c d : List ℕ)
    → Prints taken faults p a q → Prints taken faults q (b ++ c ++ d) r → Prints taken faults p (a ++ b ++ c ++ d) r
Prints-three {a = a} b c d s t =
    let e : a ++ (b ++ c ++ d) ≡ a ++ b ++ c ++ d = simp append_assoc in
    Prints-is e (s ⨾ t)

-- the end of a line
pub Prints-line : {K : Type 0} {taken : K → Option (List ℕ)} {faults : K → ℕ} {p q r : Printer K} {a : List ℕ} (b : List ℕ)
    → Prints taken faults p a q → Prints taken faults q (b ++ 10 ∷ []) r → Prints taken faults p (a ++ b ++ 10 ∷ []) r
Prints-line b s t = Prints-two b (10 ∷ []) s t

pub Prints-none : {K : Type 0} {taken : K → Option (List ℕ)} {faults : K → ℕ} (p : Printer K) → Prints taken faults p [] p
Prints-none {taken = taken} {faults = faults} p = record { goes = nothing p.failed (taken p.sink.now) (faults p.sink.now); same = refl }

-- what was written from the start on
pub Prints-written : {K : Type 0} {taken : K → Option (List ℕ)} {faults : K → ℕ} {sink : K} {p q : Printer K} {a : List ℕ} {whole : Bool}
    → Starts sink p → Prints taken faults p a q → whole ≡ not q.failed
    → WritesText (taken sink) (taken q.sink.now) (faults sink) (faults q.sink.now) whole a
Prints-written start s done = rw done (rw (start.now, start.failed) at s.goes)

-- ---- the texts of a list, one after another

-- those of the first elements
pub record PrintsFirst {K X : Type 0} (taken : K → Option (List ℕ)) (faults : K → ℕ)
    (old : Printer K) (text : X → List ℕ) (xs : List X) (i : ℕ) (new : Printer K) : Type 0 where
  pub prints : Prints taken faults old (flat_map text (take i xs)) new

pub first-none : {K X : Type 0} {taken : K → Option (List ℕ)} {faults : K → ℕ} {p : Printer K} {text : X → List ℕ} {xs : List X}
    → PrintsFirst taken faults p text xs 0 p
first-none {p = p} = record { prints = Prints-none p }

-- one more
pub first-more : {K X : Type 0} {taken : K → Option (List ℕ)} {faults : K → ℕ} {p q r : Printer K} {text : X → List ℕ} {xs : List X} {i : ℕ} {x : X}
    → i < length xs → x ≡ get_or xs i x → PrintsFirst taken faults p text xs i q → Prints taken faults q (text x) r
    → PrintsFirst taken faults p text xs (i + 1) r
first-more {text = text} {xs = xs} {i = i} {x = x} low is s t = record {
  prints = Prints-is (sym (
      ap (flat_map text) (take_more xs i x low ∙ ap (λ y. take i xs ++ y ∷ []) (sym is))
      ∙ flat_map-append text (take i xs) (x ∷ [])
      ∙ ap (λ ys. flat_map text (take i xs) ++ ys) (flat_map-cons text x [] ∙ append-nil (text x)))) (s.prints ⨾ t);
}

-- all of them
pub first-all : {K X : Type 0} {taken : K → Option (List ℕ)} {faults : K → ℕ} {p q : Printer K} {text : X → List ℕ} {xs : List X} {i : ℕ}
    → length xs ≤ i → PrintsFirst taken faults p text xs i q → Prints taken faults p (flat_map text xs) q
first-all {text = text} {xs = xs} {i = i} high s = Prints-is (ap (flat_map text) (take_all i xs high)) s.prints

-- ---- the texts of a list with a separator between them

-- each behind the separator, and the first behind `before`
abbrev pub separated : List ℕ → List ℕ → List (List ℕ) → List ℕ
separated between before [] = []
separated between before (a ∷ all) = before ++ a ++ separated between between all

-- those of the first elements, where the next one goes behind `before`
pub record PrintsParted {K X : Type 0} (taken : K → Option (List ℕ)) (faults : K → ℕ)
    (old : Printer K) (between : List ℕ) (text : X → List ℕ) (xs : List X) (i : ℕ) (before : List ℕ) (new : Printer K) : Type 0 where
  pub done : List ℕ
  pub prints : Prints taken faults old done new
  pub rest : done ++ separated between before (map text (drop i xs)) ≡ separated between [] (map text xs)

pub parted-none : {K X : Type 0} {taken : K → Option (List ℕ)} {faults : K → ℕ} {p : Printer K} {between : List ℕ} {text : X → List ℕ} {xs : List X}
    → PrintsParted taken faults p between text xs 0 [] p
parted-none {p = p} = record { done = []; prints = Prints-none p; rest = refl }

-- one more
pub parted-more : {K X : Type 0} {taken : K → Option (List ℕ)} {faults : K → ℕ} {p q r z : Printer K} {between : List ℕ} {text : X → List ℕ} {xs : List X} {i : ℕ} {before : List ℕ} {x : X}
    → i < length xs → x ≡ get_or xs i x → PrintsParted taken faults p between text xs i before q → Prints taken faults q before r
    → Prints taken faults r (text x) z → PrintsParted taken faults p between text xs (i + 1) between z
parted-more {X = X} {between = between} {text = text} {xs = xs} {i = i} {before = before} {x = x} low is s t u =
    let first : drop i xs ≡ x ∷ drop (i + 1) xs = drop_more xs i x low ∙ ap (λ (y : X). y ∷ drop (i + 1) xs) (sym is) in
    let rest = rw first at s.rest in
    record {
      done = s.done ++ before ++ text x;
      prints = s.prints ⨾ t ⨾ u;
      rest = simp append_assoc (simp append_assoc at rest);
    }

-- all of them
pub parted-all : {K X : Type 0} {taken : K → Option (List ℕ)} {faults : K → ℕ} {p q : Printer K} {between : List ℕ} {text : X → List ℕ} {xs : List X} {i : ℕ} {before : List ℕ}
    → length xs ≤ i → PrintsParted taken faults p between text xs i before q → Prints taken faults p (separated between [] (map text xs)) q
parted-all {X = X} {between = between} {text = text} {xs = xs} {i = i} {before = before} high s =
    Prints-is (sym (append-nil s.done) ∙ ap (λ (ys : List X). s.done ++ separated between before (map text ys)) (sym (drop_all i xs high)) ∙ s.rest) s.prints
