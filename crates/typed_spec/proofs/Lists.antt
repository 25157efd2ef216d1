-- Expressions one after another, as lists of nodes and of types.
use Rattle.std.proofs.Common.{◌≡◌, ◌+◌, ◌<◌, ◌≤◌, ℕ, List, [], ◌∷◌, ◌++◌, length, map, take, get_or, refl, sym, ap, ◌∙◌, subst, arith}
use Rattle.std.specs.Prelude.{slice_get, Option, Some, None}
use Rattle.std.proofs.lemmas.Option.{same_Some}
use Rattle.std.specs.List.{AllByRecursion}
use Rattle.std.proofs.lemmas.List.{take_more, take_all}
use Rattle.stream_types.specs.declared.scalar.Scalar.{Scalar}
use Rattle.stream_types.specs.declared.scalar.Scalar.TheVariants as scalar
use Rattle.stream_core.specs.Term.{Term, more, terms_of}
use Rattle.type_check.specs.declared.known.Known.{Known}
use Rattle.type_check.specs.NamedType.{NamedType}
use Rattle.type_check.specs.Judged.{Judged, type_of}
use Rattle.type_check.specs.Standing.{MeansOption, AllMeanOption, options_more, ty_of_part}
use Rattle.typed_spec.specs.declared.arena.Arena.{Arena}
use Rattle.typed_spec.specs.declared.arena.Operand.{Operand}
use Rattle.typed_text.specs.ReadSpec.{Read, terms, scalar_in, first_scalar}
use Rattle.typed_spec.specs.Made.{Makes, id_of, ty_of_operand, type_in, operands_of}
use Rattle.typed_spec.proofs.Making.{makes_then}

pub ids_are : (is : List ℕ) (ts : List (Option Known)) → length ts ≡ length is → map id_of (operands_of is ts) ≡ is
ids_are [] ts e = refl
ids_are (i ∷ is) [] e = absurd (omega (arith, e))
ids_are (i ∷ is) (t ∷ ts) e = ap (λ js. i ∷ js) (ids_are is ts (omega (arith, e)))

pub types_are : (is : List ℕ) (ts : List (Option Known)) → length ts ≡ length is → map ty_of_operand (operands_of is ts) ≡ ts
types_are [] [] e = refl
types_are [] (t ∷ ts) e = absurd (omega (arith, e))
types_are (i ∷ is) [] e = absurd (omega (arith, e))
types_are (i ∷ is) (t ∷ ts) e = ap (λ us. t ∷ us) (types_are is ts (omega (arith, e)))

pub one_behind : (is : List ℕ) (ts : List (Option Known)) (i : ℕ) (t : Option Known) → length ts ≡ length is → operands_of (is ++ i ∷ []) (ts ++ t ∷ []) ≡ operands_of is ts ++ record { id = i; ty = t } ∷ []
one_behind [] [] i t e = refl
one_behind [] (u ∷ ts) i t e = absurd (omega (arith, e))
one_behind (j ∷ is) [] i t e = absurd (omega (arith, e))
one_behind (j ∷ is) (u ∷ ts) i t e = ap (λ os. record { id = j; ty = u } ∷ os) (one_behind is ts i t (omega (arith, e)))

judged_types : (ps : List Read) → map type_in ps ≡ map ty_of_part (map (λ (p : Read). p.judged) ps)
judged_types [] = refl
judged_types (p ∷ ps) = ap (λ ts. p.judged.ty ∷ ts) (judged_types ps)

-- the types of a list's parts
pub list_types : {names : List (List ℕ)} {s t : Arena} {ps : List Read} (is : List ℕ) (ts : List (Option Known)) → length ts ≡ length is → Makes names s t (operands_of is ts) ps
    → AllMeanOption names ts (map ty_of_part (map (λ (p : Read). p.judged) ps))
list_types {names = names} {ps = ps} is ts e m = subst (λ us. AllMeanOption names us (map ty_of_part (map (λ (p : Read). p.judged) ps))) (types_are is ts e) (subst (λ us. AllMeanOption names (map ty_of_operand (operands_of is ts)) us) (judged_types ps) m.types)

pub read_types : {names : List (List ℕ)} {s t : Arena} {ps : List Read} (is : List ℕ) (ts : List (Option Known)) → length ts ≡ length is → Makes names s t (operands_of is ts) ps → AllMeanOption names ts (map type_in ps)
read_types {names = names} {ps = ps} is ts e m = subst (λ us. AllMeanOption names us (map type_in ps)) (types_are is ts e) m.types

first_means : {names : List (List ℕ)} {k : Option Known} {t : Option NamedType} {ks : List (Option Known)} {ts : List (Option NamedType)} → AllMeanOption names (k ∷ ks) (t ∷ ts) → MeansOption names k t
first_means (options_more h r) = h

-- the type of one expression
pub type_made : {names : List (List ℕ)} {s t : Arena} {o : Operand} {p : Read} → Makes names s t (o ∷ []) (p ∷ []) → MeansOption names o.ty p.judged.ty
type_made m = first_means m.types

-- the scalar of the first of some parts
pub first_is : (names : List (List ℕ)) (ts : List (Option Known)) (ps : List Read) (t : Option Known) (s : Scalar) → slice_get ts 0 ≡ Some t → ((j : Judged) → MeansOption names t j.ty → s ≡ scalar_in (type_of j))
    → AllMeanOption names ts (map type_in ps) → s ≡ first_scalar ps
first_is names [] ps t s e f h = absurd (cc)
first_is names (u ∷ ts) [] t s e f h = elim h [ ]
first_is names (u ∷ ts) (p ∷ ps) t s e f h = f p.judged (subst (λ o. MeansOption names o p.judged.ty) (same_Some u t e) (first_means h))

pub first_none : (names : List (List ℕ)) (ts : List (Option Known)) (ps : List Read) → slice_get ts 0 ≡ None → AllMeanOption names ts (map type_in ps) → scalar.Bool ≡ first_scalar ps
first_none names [] [] e h = refl
first_none names [] (p ∷ ps) e h = elim h [ ]
first_none names (u ∷ ts) ps e h = absurd (cc)

terms_of_ids : (f : ℕ → Term) (is : List ℕ) → terms_of f is ≡ terms (map f is)
terms_of_ids f [] = refl
terms_of_ids f (i ∷ is) = ap (more (f i)) (terms_of_ids f is)

pub list_terms : (f : ℕ → Term) (is : List ℕ) (ts : List (Option Known)) → length ts ≡ length is → terms_of f is ≡ terms (map f (map id_of (operands_of is ts)))
list_terms f is ts e = terms_of_ids f is ∙ ap (λ js. terms (map f js)) (sym (ids_are is ts e))

pub there_more : (n m : ℕ) (is : List ℕ) (i : ℕ) → n ≤ m → AllByRecursion (λ j. j < n) is → i < m → AllByRecursion (λ j. j < m) (is ++ i ∷ [])
there_more n m [] i l h b = (b, tt)
there_more n m (j ∷ is) i l h b = (let a = h.0 in omega (arith, a, l), there_more n m is i l h.1 b)

map_end : {X Y : Type 0} (f : X → Y) (xs : List X) (x : X) → map f (xs ++ x ∷ []) ≡ map f xs ++ f x ∷ []
map_end f [] x = refl
map_end f (y ∷ xs) x = ap (λ ys. f y ∷ ys) (map_end f xs x)

-- one expression more
pub makes_next : {X : Type 0} {names : List (List ℕ)} {s t u : Arena} (f : X → Read) (xs : List X) (i : ℕ) (x out : X) (is : List ℕ) (ts : List (Option Known)) (o : Operand) → i < length xs → x ≡ get_or xs i out → length ts ≡ length is
    → Makes names s t (operands_of is ts) (map f (take i xs)) → Makes names t u (o ∷ []) (f x ∷ []) → Makes names s u (operands_of (is ++ o.id ∷ []) (ts ++ o.ty ∷ [])) (map f (take (i + 1) xs))
makes_next {X = X} {names = names} {s = s} {t = t} {u = u} f xs i x out is ts o low at e m n =
    let more_is : take (i + 1) xs ≡ take i xs ++ x ∷ [] = take_more xs i out low ∙ ap (λ y. take i xs ++ y ∷ []) (sym at) in
    subst (λ ps. Makes names s u (operands_of (is ++ o.id ∷ []) (ts ++ o.ty ∷ [])) ps) (sym (ap (map f) more_is ∙ map_end f (take i xs) x))
    (subst (λ os. Makes names s u os (map f (take i xs) ++ f x ∷ [])) (sym (one_behind is ts o.id o.ty e)) (makes_then m n))

pub makes_all : {X : Type 0} {names : List (List ℕ)} {s t : Arena} (f : X → Read) (xs : List X) (i : ℕ) (os : List Operand) → length xs ≤ i → Makes names s t os (map f (take i xs)) → Makes names s t os (map f xs)
makes_all {names = names} {s = s} {t = t} f xs i os low m = subst (λ ys. Makes names s t os (map f ys)) (take_all i xs low) m
