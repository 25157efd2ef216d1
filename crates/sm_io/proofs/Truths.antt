-- Tests that pass or fail together.
use Rattle.std.proofs.Common.{◌≡◌, Bool, true, false, List, [], ◌∷◌, refl, ap, ◌∙◌}
use Rattle.std.specs.Prelude.{◌&&◌, ◌||◌}
use Rattle.std.specs.List.{list_all, flat_map}
use Rattle.std.proofs.lemmas.List.Folds.{list_all-append}

pub both_pass : (a b : Bool) → a ≡ true → b ≡ true → (a && b) ≡ true
both_pass true b p q = q
both_pass false b p q = absurd (cc)

pub left_passes : (a b : Bool) → (a && b) ≡ true → a ≡ true
left_passes true b h = refl
left_passes false b h = absurd (cc)

pub right_passes : (a b : Bool) → (a && b) ≡ true → b ≡ true
right_passes true b h = h
right_passes false b h = absurd (cc)

-- what each of two tests that pass says
pub both_say : {A B : Type 0} (a b : Bool) → (a ≡ true → A) → (b ≡ true → B) → (a && b) ≡ true → A × B
both_say true b f g h = (f refl, g h)
both_say false b f g h = absurd (cc)

pub or_passes : (a b : Bool) → b ≡ true → (a || b) ≡ true
or_passes true b h = refl
or_passes false b h = h

pub either_says : {A : Type 0} (a b : Bool) → (a ≡ true → A) → (b ≡ true → A) → (a || b) ≡ true → A
either_says true b f g h = f refl
either_says false b f g h = g h

pub neither_passes : (a b : Bool) → (a || b) ≡ false → (a ≡ false) × (b ≡ false)
neither_passes true b h = absurd (cc)
neither_passes false b h = (refl, h)

pub or_spreads : (x y b : Bool) → ((x && b) || (y && b)) ≡ ((x || y) && b)
or_spreads true true true = refl
or_spreads true true false = refl
or_spreads true false true = refl
or_spreads true false false = refl
or_spreads false true true = refl
or_spreads false true false = refl
or_spreads false false b = refl

pub all_weaker : {X : Type 0} (p q : X → Bool) → ((x : X) → p x ≡ true → q x ≡ true) → (xs : List X) → list_all p xs ≡ true → list_all q xs ≡ true
all_weaker p q h [] t = refl
all_weaker p q h (x ∷ xs) t =
    both_pass (q x) (list_all q xs) (h x (left_passes (p x) (list_all p xs) t)) (all_weaker p q h xs (right_passes (p x) (list_all p xs) t))

pub all-flat_map : {X Y : Type 0} (p : Y → Bool) (f : X → List Y) (xs : List X) → list_all p (flat_map f xs) ≡ list_all (λ x. list_all p (f x)) xs
all-flat_map p f [] = refl
all-flat_map p f (x ∷ xs) = list_all-append p (f x) (flat_map f xs) ∙ ap (λ (b : Bool). list_all p (f x) && b) (all-flat_map p f xs)
