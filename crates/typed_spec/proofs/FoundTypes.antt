-- The types of names, and of nodes over lists of parts.
use Rattle.std.proofs.Common.{◌≡◌, ℕ, true, List, [], ◌∷◌, map, refl, sym, ap, ◌∙◌, subst}
use Rattle.std.specs.Prelude.{◌&&◌, is_some, Option, Some, None}
use Rattle.std.specs.List.{list_all}
use Rattle.std.specs.Option.{option_map_or, unwrap_or}
use Rattle.stream_types.specs.declared.scalar.Scalar.TheVariants as s_
use Rattle.spec_text.specs.declared.surface.NameAt.{NameAt}
use Rattle.type_check.specs.declared.known.Known.{Known}
use Rattle.type_check.specs.declared.known.Known.TheVariants as known
use Rattle.type_check.specs.declared.known.Element.TheVariants as element
use Rattle.type_check.specs.declared.scope.Item.{Item}
use Rattle.type_check.specs.NamedType.{NamedType, bool}
use Rattle.type_check.specs.Judged.{Verdict, has, Judged, judged, type_of, types_of, have_types, Named, declared, on_drop, over_name, over_drop}
use Rattle.type_check.specs.Standing.{Means, AllMean, MeansOption, both_none, both_some, AllMeanOption, options_more, all_known, is_type, ty_of_part, IsItem}
use Rattle.type_check.proofs.Nodes.{found_of, not_found, all_are, none_all}
use Rattle.typed_spec.proofs.TypedRows.{part_means, have_one, untyped, untyped_one, told_type}

-- ---- names

name_typed : (names : List (List ℕ)) (n : Named) (k : Option Known) → MeansOption names k (declared n).ty → MeansOption names k (judged (declared n ∷ []) (has (type_of (declared n)))).ty
name_typed names n None h = untyped_one names (declared n) [] (has (type_of (declared n))) h
name_typed names n (Some k) h = told_type names (declared n ∷ []) (has (type_of (declared n))) k (have_one names k (declared n) h) (is_type (part_means names k (declared n) h))

-- a name has the type of its item
pub name_found : (names : List (List ℕ)) (x : NameAt) (o : Option Named) (l : Option Item) (i : Item) → IsItem names o l → l ≡ Some i → MeansOption names i.ty (over_name x o).ty
name_found names x o l i h e =
    let f = found_of names o l i h e in
    subst (λ (n : Option Named). MeansOption names i.ty (over_name x n).ty) (sym f.is) (name_typed names f.thing i.ty f.ty)

pub name_missing : (names : List (List ℕ)) (x : NameAt) (o : Option Named) (l : Option Item) → IsItem names o l → l ≡ None → MeansOption names None (over_name x o).ty
name_missing names x o l h e = subst (λ (n : Option Named). MeansOption names None (over_name x n).ty) (sym (not_found names o l h e)) both_none

pub drop_missing : (names : List (List ℕ)) (at k : ℕ) (x : NameAt) (o : Option Named) (l : Option Item) → IsItem names o l → l ≡ None → MeansOption names None (over_drop at k x o).ty
drop_missing names at k x o l h e = subst (λ (n : Option Named). MeansOption names None (over_drop at k x n).ty) (sym (not_found names o l h e)) both_none

-- a drop of an item whose type is no type has none
pub drop_untyped : (names : List (List ℕ)) (at k : ℕ) (x : NameAt) (o : Option Named) (l : Option Item) (i : Item) → IsItem names o l → l ≡ Some i → i.ty ≡ None → MeansOption names None (over_drop at k x o).ty
drop_untyped names at k x o l i h e t =
    let f = found_of names o l i h e in
    let missing : MeansOption names None (declared f.thing).ty = subst (λ (ty : Option Known). MeansOption names ty (declared f.thing).ty) t f.ty in
    subst (λ (n : Option Named). MeansOption names None (over_drop at k x n).ty) (sym f.is) (untyped_one names (declared f.thing) [] (on_drop at k f.thing (type_of (declared f.thing))) missing)

-- ---- parts

some_both : (names : List (List ℕ)) (k : Option Known) (t : Option NamedType) → MeansOption names k t → is_some t ≡ is_some k
some_both names None None h = refl
some_both names None (Some t) h = elim h [ ]
some_both names (Some k) None h = elim h [ ]
some_both names (Some k) (Some t) h = refl

have_are : (names : List (List ℕ)) (ps : List Judged) (ks : List (Option Known)) → AllMeanOption names ks (map ty_of_part ps) → have_types ps ≡ list_all is_some ks
have_are names [] [] h = refl
have_are names [] (k ∷ ks) h = elim h [ ]
have_are names (p ∷ ps) [] h = elim h [ ]
have_are names (p ∷ ps) (k ∷ ks) (options_more m ms) = ap (λ b. b && have_types ps) (some_both names k p.ty m) ∙ ap (λ b. is_some k && b) (have_are names ps ks ms)

-- parts that all have types
pub record AreTyped (names : List (List ℕ)) (ps : List Judged) (js : List Known) : Type 0 where
  pub typed : have_types ps ≡ true
  pub mean : AllMean names js (types_of ps)

pub all_typed : (names : List (List ℕ)) (ps : List Judged) (ks : List (Option Known)) (js : List Known) → AllMeanOption names ks (map ty_of_part ps) → all_known ks ≡ Some js → AreTyped names ps js
all_typed names ps ks js h e = let a = all_are names ps ks js h e in record { typed = have_are names ps ks h ∙ a.all; mean = a.mean }

-- a node over parts of which one has no type
pub none_typed : (names : List (List ℕ)) (ps : List Judged) (v : Verdict) (ks : List (Option Known)) → AllMeanOption names ks (map ty_of_part ps) → all_known ks ≡ None → MeansOption names None (judged ps v).ty
none_typed names ps v ks h e = untyped names (have_types ps) ps v (have_are names ps ks h ∙ none_all ks e)

-- ---- types

-- a missing type counts as Bool
pub means_or : (names : List (List ℕ)) (k : Option Known) (o : Option NamedType) → MeansOption names k o → Means names (unwrap_or k (known.Element (element.Scalar s_.Bool))) (option_map_or (λ t. t) o bool)
means_or names None None h = record { is = refl }
means_or names None (Some t) h = elim h [ ]
means_or names (Some k) None h = elim h [ ]
means_or names (Some k) (Some t) (both_some m) = m
