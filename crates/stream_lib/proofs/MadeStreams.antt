-- Streams over nodes that were placed.
use Rattle.std.proofs.Common.{◌≡◌, ℕ, zero, suc, ◌<◌, ◌≤◌, ◌+◌, List, [], ◌∷◌, ◌++◌, length, map, drop, get_or, refl, sym, ap, ◌∙◌, subst, arith}
use Rattle.stream_types.specs.declared.scalar.Scalar.{Scalar}
use Rattle.stream_types.specs.declared.scalar.Scalar.TheVariants as scalar
use Rattle.std.specs.List.{AllByRecursion}
use Rattle.stream_core.specs.declared.spec.LibItem.{LibItem}
use Rattle.stream_core.specs.declared.spec.StreamItem.{StreamItem}
use Rattle.stream_core.specs.Value.{SpecValue}
use Rattle.stream_core.specs.Term.{Term, TreeLib, TreeStream, tree}
use Rattle.stream_core.specs.Lower.{all_buffers, buffers, buffers_of, lowered, word_buffer}
use Rattle.stream_lib.specs.Built.{AddsPartsOf, AreThere, Grows, Makes, tree_at, trees_at}
use Rattle.stream_lib.specs.Made.{MakesStreams, both_taken, buffer_item, first_taken, stream_tree}
use Rattle.stream_lib.proofs.AddedParts.{adds_of_back, adds_of_front, adds_of_none, adds_of_one, adds_of_then}
use Rattle.stream_lib.proofs.PlacedTrees.{grows_same, grows_then}
use Rattle.stream_lib.proofs.FirstBuffers.{drop_item}
use Rattle.stream_lib.specs.Renamed.{AreLowered, new_of, starts_of}

-- one buffer over a node that was placed
pub one_made : (s t : SpecValue) (i : ℕ) (e : Term) (number : ℕ) (c : Scalar) (m w at : ℕ) (xs : List StreamItem) → Makes s t i e → xs ≡ buffer_item number c m w i at ∷ []
    → MakesStreams s t xs (word_buffer number c m w e at ∷ [])
one_made s t i e number c m w at xs made is = subst (λ ys. MakesStreams s t ys (word_buffer number c m w e at ∷ [])) (sym is) (record {
  grows = made.grows;
  there = (made.there, tt);
  are = ap (λ a. word_buffer number c m w a at ∷ []) made.is;
  adds = adds_of_one s t e made.adds;
})

pub none_made : (s : SpecValue) → MakesStreams s s [] []
none_made s = record { grows = grows_same s; there = tt; are = refl; adds = adds_of_none s [] }

pub first_made : (s : SpecValue) (number : ℕ) (c : Scalar) (m w at : ℕ) (is : List ℕ) (p : ℕ) (xs : List StreamItem) → AreThere s is → 1 ≤ length is → p ≡ get_or is 0 p
    → xs ≡ buffer_item number c m w p at ∷ [] → MakesStreams s s xs (first_taken number c m w at (trees_at s is))
first_made s number c m w at [] p xs there h e is = absurd (omega (arith, h))
first_made s number c m w at (i ∷ is) p xs there h e made = subst (λ ys. MakesStreams s s ys (word_buffer number c m w (tree_at s i) at ∷ [])) (sym (made ∙ ap (λ j. buffer_item number c m w j at ∷ []) e)) (record {
  grows = grows_same s;
  there = (there.0, tt);
  are = refl;
  adds = adds_of_none s (tree_at s i ∷ []);
})

pub both_made : (s : SpecValue) (number m at : ℕ) (is : List ℕ) (p q : ℕ) (xs : List StreamItem) → AreThere s is → 2 ≤ length is → p ≡ get_or is 0 p → q ≡ get_or is 1 q
    → xs ≡ buffer_item number scalar.Bool m 1 p at ∷ buffer_item (number + 1) scalar.Bool m 0 q at ∷ [] → MakesStreams s s xs (both_taken number m at (trees_at s is))
both_made s number m at [] p q xs there h a b is = absurd (omega (arith, h))
both_made s number m at (i ∷ []) p q xs there h a b is = absurd (omega (arith, h))
both_made s number m at (i ∷ j ∷ is) p q xs there h a b made =
    subst (λ ys. MakesStreams s s ys (both_taken number m at (trees_at s (i ∷ j ∷ is))))
    (sym (made ∙ ap (λ k. buffer_item number scalar.Bool m 1 k at ∷ buffer_item (number + 1) scalar.Bool m 0 q at ∷ []) a
    ∙ ap (λ k. buffer_item number scalar.Bool m 1 i at ∷ buffer_item (number + 1) scalar.Bool m 0 k at ∷ []) b))
    (record { grows = grows_same s; there = (there.0, (there.1.0, tt)); are = refl; adds = adds_of_none s (tree_at s i ∷ tree_at s j ∷ []) })

pub made_as : (s t : SpecValue) (xs : List StreamItem) (ys zs : List TreeStream) → ys ≡ zs → MakesStreams s t xs ys → MakesStreams s t xs zs
made_as s t xs ys zs e m = subst (MakesStreams s t xs) e m

-- ---- streams of several forms

pub same_streams : (s t : SpecValue) (xs : List StreamItem) → Grows s t → AllByRecursion (λ (x : StreamItem). x.expr < length s.nodes) xs → map (stream_tree t) xs ≡ map (stream_tree s) xs
same_streams s t [] g there = refl
same_streams s t (x ∷ xs) g there = let a = g.trees x.expr there.0 in let r = same_streams s t xs g there.1 in cc

both_there : (s t : SpecValue) (xs ys : List StreamItem) → length s.nodes ≤ length t.nodes → AllByRecursion (λ (x : StreamItem). x.expr < length s.nodes) xs
    → AllByRecursion (λ (x : StreamItem). x.expr < length t.nodes) ys → AllByRecursion (λ (x : StreamItem). x.expr < length t.nodes) (xs ++ ys)
both_there s t [] ys size a b = b
both_there s t (x ∷ xs) ys size a b = (let h = a.0 in omega (arith, h, size), both_there s t xs ys size a.1 b)

map_both : (f : StreamItem → TreeStream) (xs ys : List StreamItem) → map f (xs ++ ys) ≡ map f xs ++ map f ys
map_both f [] ys = refl
map_both f (x ∷ xs) ys = ap (λ zs. f x ∷ zs) (map_both f xs ys)

three_parts : (xs ys zs : List TreeStream) → (xs ++ ys) ++ zs ≡ xs ++ (ys ++ zs)
three_parts [] ys zs = refl
three_parts (x ∷ xs) ys zs = ap (λ us. x ∷ us) (three_parts xs ys zs)

abbrev pub exprs : List TreeStream → List Term
exprs ys = map (λ (y : TreeStream). y.expr) ys

pub exprs_both : (xs ys : List TreeStream) → exprs (xs ++ ys) ≡ exprs xs ++ exprs ys
exprs_both [] ys = refl
exprs_both (x ∷ xs) ys = ap (λ es. x.expr ∷ es) (exprs_both xs ys)

-- streams behind others
pub streams_more : (s t u : SpecValue) (xs ys : List StreamItem) (as_ bs : List TreeStream) → MakesStreams s t xs as_ → MakesStreams t u ys bs → MakesStreams s u (xs ++ ys) (map (stream_tree u) (xs ++ ys))
streams_more s t u xs ys as_ bs a b = record {
  grows = grows_then s t u a.grows b.grows;
  there = both_there t u xs ys b.grows.size a.there b.there;
  are = refl;
  adds = subst (AddsPartsOf s u) (sym all) (adds_of_then s t u (exprs as_ ++ exprs bs) (adds_of_front s t (exprs as_) (exprs bs) a.adds) b.grows (adds_of_back t u (exprs as_) (exprs bs) b.adds));
}
  where
    all : exprs (map (stream_tree u) (xs ++ ys)) ≡ exprs as_ ++ exprs bs
    all =
        ap exprs (map_both (stream_tree u) xs ys)
        ∙ exprs_both (map (stream_tree u) xs) (map (stream_tree u) ys)
        ∙ ap (λ zs. exprs zs ++ exprs (map (stream_tree u) ys)) (same_streams t u xs b.grows a.there ∙ a.are)
        ∙ ap (λ zs. exprs as_ ++ exprs zs) b.are

pub still_lowered : (source s t : SpecValue) (news : List ℕ) → Grows s t → AreLowered source s news → AreLowered source t news
still_lowered source s t news g h j within =
    let old = h j within in
    let size = g.size in
    (let b = old.0 in omega (arith, b, size), g.trees (new_of news j) old.0 ∙ old.1)

args_lowered : (source s : SpecValue) (news is : List ℕ) → AreLowered source s news → AllByRecursion (λ j. j < length news) is
    → trees_at s (map (new_of news) is) ≡ map (lowered (starts_of source)) (map (tree source.nodes source.libs) is)
args_lowered source s news [] h below = refl
args_lowered source s news (i ∷ is) h below = let a = (h i below.0).1 in let r = args_lowered source s news is h below.1 in cc

abbrev pub tree_lib : SpecValue → LibItem → TreeLib
tree_lib source x = record { form = x.form; args = map (tree source.nodes source.libs) x.args; at = x.at }

-- these streams, and those of the forms from form i on, are the buffers of all forms
abbrev pub AreBuffers : SpecValue → SpecValue → List StreamItem → ℕ → ℕ → ℕ → Type 0
AreBuffers source s xs i number b =
    map (stream_tree s) xs ++ all_buffers (lowered (starts_of source)) number b (map (tree_lib source) (drop i source.libs))
    ≡ all_buffers (lowered (starts_of source)) 1 (length source.streams) (map (tree_lib source) source.libs)

pub buffers_more : (source s t : SpecValue) (news : List ℕ) (all xs : List StreamItem) (i number b step step' : ℕ) (x : LibItem)
    → AreLowered source s news → AllByRecursion (λ j. j < length news) x.args → i < length source.libs → x ≡ get_or source.libs i x → step ≡ buffers x.form → step' ≡ buffers x.form
    → AllByRecursion (λ (y : StreamItem). y.expr < length s.nodes) all → MakesStreams s t xs (buffers_of x.form number b x.at (trees_at s (map (new_of news) x.args)))
    → AreBuffers source s all i number b → AreBuffers source t (all ++ xs) (i + 1) (number + step) (b + step')
buffers_more source s t news all xs i number b step step' x low below within is st st' there made same =
    ap (λ ys. ys ++ rest (i + 1) (number + step) (b + step')) (map_both (stream_tree t) all xs)
    ∙ ap (λ ys. (ys ++ map (stream_tree t) xs) ++ rest (i + 1) (number + step) (b + step')) (same_streams s t all made.grows there)
    ∙ ap (λ ys. (map (stream_tree s) all ++ ys) ++ rest (i + 1) (number + step) (b + step')) (made.are ∙ ap (buffers_of x.form number b x.at) (args_lowered source s news x.args low below))
    ∙ three_parts (map (stream_tree s) all) now (rest (i + 1) (number + step) (b + step'))
    ∙ ap (λ ys. map (stream_tree s) all ++ (now ++ ys)) (ap (λ j. rest j (number + step) (b + step')) next ∙ ap (λ k. rest (suc i) (number + k) (b + step')) st ∙ ap (λ k. rest (suc i) (number + buffers x.form) (b + k)) st')
    ∙ ap (λ ys. map (stream_tree s) all ++ all_buffers f number b (map (tree_lib source) ys)) (sym (drop_item source.libs i x within is))
    ∙ same
  where
    next : i + 1 ≡ suc i
    next = omega arith

    f : Term → Term
    f = lowered (starts_of source)

    rest : ℕ → ℕ → ℕ → List TreeStream
    rest j n k = all_buffers f n k (map (tree_lib source) (drop j source.libs))

    now : List TreeStream
    now = buffers_of x.form number b x.at (map f (map (tree source.nodes source.libs) x.args))

pub args_at : (n : ℕ) (libs : List LibItem) (i : ℕ) (x : LibItem) → AllByRecursion (λ (y : LibItem). AllByRecursion (λ j. j < n) y.args) libs → i < length libs → x ≡ get_or libs i x
    → AllByRecursion (λ j. j < n) x.args
args_at n [] i x all h e = absurd (omega (arith, h))
args_at n (y ∷ ys) zero x all h e = subst (λ (z : LibItem). AllByRecursion (λ j. j < n) z.args) (sym e) all.0
args_at n (y ∷ ys) (suc i) x all h e = args_at n ys i x all.1 (omega (arith, h)) e
