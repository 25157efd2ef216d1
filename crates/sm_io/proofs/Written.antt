-- Texts that are written one after another.
use Rattle.std.proofs.Common.{◌≡◌, ℕ, ◌+◌, ◌<◌, ◌∷◌, get_or, drop, min, List, ◌++◌, take, length, Option, None, Some, Bool, true, false, [], refl, ap, sym, ◌∙◌, arith, append_assoc, append-nil}
use Rattle.std.specs.Bool.{OnTrue, OnFalse}
use Rattle.std.proofs.lemmas.Grind.{common_steps, flat_map-append}
use Rattle.std.proofs.lemmas.List.{take_more, take-append-drop}
use Rattle.std.proofs.lemmas.List.Concat.{flat_map-cons}
use Rattle.std.specs.List.{flat_map}
use Rattle.std.proofs.Math.Seq.{take-append-add}
use Rattle.sm_io.specs.Known.{after_known}
use Rattle.sm_io.specs.Causes.{Rose}
use Rattle.sm_io.specs.Written.{WritesText}

pub after_known_append : (known : Option (List ℕ)) (a b : List ℕ) → after_known (after_known known a) b ≡ after_known known (a ++ b)
after_known_append None a b = refl
after_known_append (Some front) a b = ap Some (append_assoc front a b)

nothing : (known : Option (List ℕ)) → after_known known [] ≡ known
nothing None = refl
nothing (Some front) = ap Some (append-nil front)

on_true : {P Q : Type 0} (b : Bool) → (P → Q) → OnTrue b P → OnTrue b Q
on_true true f p = f p
on_true false f p = tt

on_false : {P Q : Type 0} (b : Bool) → (P → Q) → OnFalse b P → OnFalse b Q
on_false true f p = tt
on_false false f p = f p

take_front : (n : ℕ) (a b : List ℕ) → take (min n (length a)) (a ++ b) ≡ take n a
take_front n a b = grind (arith, common_steps)

-- all of the first text, and then the second
pub then_text : {k k' k'' : Option (List ℕ)} {f f' f'' : ℕ} {whole : Bool} {a b : List ℕ} → WritesText k k' f f' true a → WritesText k' k'' f' f'' whole b → WritesText k k'' f f'' whole (a ++ b)
then_text {k = k} {k' = k'} {f = f} {f' = f'} {f'' = f''} {whole = whole} {a = a} {b = b} first second =
    let joined : (rest : List ℕ) → after_known k' rest ≡ after_known k (a ++ rest) = λ rest. ap (λ known. after_known known rest) first.all ∙ after_known_append k a rest in
    record {
      all = on_true whole (λ e. e ∙ joined b) second.all;
      front = (length a + second.front.0, second.front.1 ∙ joined (take second.front.0 b) ∙ ap (after_known k) (sym (take-append-add a b second.front.0)));
      later = omega (arith, first.later, second.later);
      failed = on_false whole (λ (rose : Rose f' f''). omega (arith, first.later, rose)) second.failed;
      steady = on_true whole (λ e. e ∙ first.steady) second.steady;
    }

-- Only a part of a text is only a part of a longer one.
pub longer : {k k' : Option (List ℕ)} {f f' : ℕ} {a : List ℕ} (b : List ℕ) → WritesText k k' f f' false a → WritesText k k' f f' false (a ++ b)
longer {k = k} {a = a} b first = record {
  all = tt;
  front = (min first.front.0 (length a), first.front.1 ∙ ap (after_known k) (sym (take_front first.front.0 a b)));
  later = first.later;
  failed = first.failed;
  steady = tt;
}

-- nothing yet
pub no_text : {k : Option (List ℕ)} {f : ℕ} → WritesText k k f f true []
no_text {k = k} = record { all = sym (nothing k); front = (0, sym (nothing k)); later = omega arith; failed = tt; steady = refl }

-- ---- lines of a list, one after another

flat_more : {X : Type 0} (line : X → List ℕ) (xs : List X) (i : ℕ) (x out : X) → i < length xs → x ≡ get_or xs i out → flat_map line (take (i + 1) xs) ≡ flat_map line (take i xs) ++ line x
flat_more line xs i x out low is =
    ap (flat_map line) (take_more xs i out low ∙ ap (λ y. take i xs ++ y ∷ []) (sym is))
    ∙ flat_map-append line (take i xs) (x ∷ [])
    ∙ ap (λ ys. flat_map line (take i xs) ++ ys) (flat_map-cons line x [] ∙ append-nil (line x))

flat_whole : {X : Type 0} (line : X → List ℕ) (xs : List X) (i : ℕ) → flat_map line (take i xs) ++ flat_map line (drop i xs) ≡ flat_map line xs
flat_whole line xs i = sym (flat_map-append line (take i xs) (drop i xs)) ∙ ap (flat_map line) (take-append-drop i xs)

-- one more line
pub next_line : {X : Type 0} {k k' k'' : Option (List ℕ)} {f f' f'' : ℕ} {whole : Bool} (head : List ℕ) (line : X → List ℕ) (xs : List X) (i : ℕ) (x out : X) → WritesText k k' f f' true (head ++ flat_map line (take i xs)) → WritesText k' k'' f' f'' whole (line x) → i < length xs → x ≡ get_or xs i out → WritesText k k'' f f'' whole (head ++ flat_map line (take (i + 1) xs))
next_line head line xs i x out first second low is =
    rw (flat_more line xs i x out low is) (rw (← append_assoc head (flat_map line (take i xs)) (line x)) (then_text first second))

-- a part of the lines is a part of them all
pub stop_lines : {X : Type 0} {k k' : Option (List ℕ)} {f f' : ℕ} (head : List ℕ) (line : X → List ℕ) (xs : List X) (i : ℕ) → WritesText k k' f f' false (head ++ flat_map line (take i xs)) → WritesText k k' f f' false (head ++ flat_map line xs)
stop_lines head line xs i first =
    rw (← flat_whole line xs i) (rw (← append_assoc head (flat_map line (take i xs)) (flat_map line (drop i xs))) (longer (flat_map line (drop i xs)) first))
