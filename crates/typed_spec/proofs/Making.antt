-- Nodes and forms that are placed one after another, and the expressions that they stand for together.
use Rattle.std.proofs.Common.{◌≡◌, ⊎_elim, inl, inr, ℕ, zero, suc, ◌+◌, ◌<◌, ◌≤◌, true, false, List, [], ◌∷◌, ◌++◌, length, map, set, refl, sym, ap, ap₂, ◌∙◌, subst, arith, append_assoc, append-nil, length-append}
use Rattle.std.specs.Prelude.{slice_get, Option, Some}
use Rattle.std.specs.List.{AllByRecursion}
use Rattle.std.proofs.lemmas.Option.{slice_get_within}
use Rattle.sm_io.proofs.Elements.{get_front}
use Rattle.stream_core.specs.declared.node.Node.{Node}
use Rattle.stream_core.specs.declared.node.Node.TheVariants as node
use Rattle.stream_core.specs.declared.node.LibForm.{LibForm}
use Rattle.stream_core.specs.declared.spec.LibItem.{LibItem}
use Rattle.stream_core.specs.Value.{SpecValue}
use Rattle.stream_core.specs.Term.{Term, more, lib, build, def, terms_of, lib_of, tree, TreeLib}
use Rattle.stream_core.specs.Ordered.{args_of}
use Rattle.stream_core.specs.Parts.{parts}
use Rattle.stream_core.specs.Children.{children}
use Rattle.stream_core.proofs.Trees.{tree_of}
use Rattle.type_check.specs.declared.known.Known.{Known}
use Rattle.type_check.specs.Judged.{Judged}
use Rattle.type_check.specs.Standing.{MeansOption, AllMeanOption, options_none, options_more}
use Rattle.typed_spec.specs.declared.arena.Arena.{Arena}
use Rattle.typed_spec.specs.declared.arena.Operand.{Operand}
use Rattle.typed_text.specs.ReadSpec.{Read, counts, terms_from, forms_from, terms, plain, library}
use Rattle.typed_spec.specs.Made.{StandAt, form_tree, Grows, Holds, id_of, ty_of_operand, type_in, StandsAmong, Makes, Puts, Fills, is_form}
use Rattle.typed_spec.proofs.Among.{children_are, among_front, among_back, among_parts, among_operands, among_itself}

-- ---- places in longer lists

pub get_back : {X : Type 0} (xs ys : List X) (i j : ℕ) → j ≡ length xs + i → slice_get (xs ++ ys) j ≡ slice_get ys i
get_back [] ys i j e = let f : j ≡ i = omega (arith, e) in ap (slice_get ys) f
get_back (x ∷ xs) ys i zero e = absurd (omega (arith, e))
get_back (x ∷ xs) ys i (suc j) e = get_back xs ys i j (omega (arith, e))

pub stand_front : (k : ℕ) (xs ys all : List LibItem) → StandAt k (xs ++ ys) all → StandAt k xs all
stand_front k xs ys all h = record { stands = λ i x e. h.stands i x (get_front xs ys i x e) }

pub stand_back : (k l : ℕ) (xs ys all : List LibItem) → l ≡ k + length xs → StandAt k (xs ++ ys) all → StandAt l ys all
stand_back k l xs ys all is h = record {
  stands = λ i x e.
      let f : k + (length xs + i) ≡ l + i = omega (arith, is) in
      ap (slice_get all) (sym f) ∙ h.stands (length xs + i) x (get_back xs ys i (length xs + i) refl ∙ e);
}

-- ---- counts

pub counts_append : (ps qs : List Read) → counts (ps ++ qs) ≡ counts ps + counts qs
counts_append [] qs = omega arith
counts_append (p ∷ ps) qs = let r = counts_append ps qs in omega (arith, r)

pub terms_append : (k : ℕ) (ps qs : List Read) → terms_from k (ps ++ qs) ≡ terms_from k ps ++ terms_from (k + counts ps) qs
terms_append k [] qs = let e : k ≡ k + 0 = omega arith in ap (λ j. terms_from j qs) e
terms_append k (p ∷ ps) qs =
    let e : k + p.count + counts ps ≡ k + (p.count + counts ps) = omega arith in
    ap (λ as_. p.term k ∷ as_) (terms_append (k + p.count) ps qs ∙ ap (λ j. terms_from (k + p.count) ps ++ terms_from j qs) e)

pub forms_append : (k : ℕ) (ps qs : List Read) → forms_from k (ps ++ qs) ≡ forms_from k ps ++ forms_from (k + counts ps) qs
forms_append k [] qs = let e : k ≡ k + 0 = omega arith in ap (λ j. forms_from j qs) e
forms_append k (p ∷ ps) qs =
    let e : k + p.count + counts ps ≡ k + (p.count + counts ps) = omega arith in
    ap (λ xs. p.forms k ++ xs) (forms_append (k + p.count) ps qs ∙ ap (λ j. forms_from (k + p.count) ps ++ forms_from j qs) e)
    ∙ sym (append_assoc (p.forms k) (forms_from (k + p.count) ps) (forms_from (k + (p.count + counts ps)) qs))

-- ---- growth

abbrev with_nodes : List Node → SpecValue → SpecValue
with_nodes ns s = record s { nodes = ns }

pub grows_none : (s : Arena) → Grows s s []
grows_none s = record { others = refl; kept = λ i n e. e; size = omega arith; forms_are = sym (append-nil s.forms.items); behind = λ all at few i k e. inl e }

more_forms : (s t : Arena) (fs : List LibItem) → Grows s t fs → length t.forms.items ≡ length s.forms.items + length fs
more_forms s t fs g = ap length g.forms_are ∙ length-append s.forms.items fs

pub grows_then : (s t u : Arena) (fs gs : List LibItem) → Grows s t fs → Grows t u gs → Grows s u (fs ++ gs)
grows_then s t u fs gs f g = record {
  others = g.others ∙ ap (with_nodes u.spec.nodes) f.others;
  kept = λ i n e. g.kept i n (f.kept i n e);
  size = let a = f.size in let b = g.size in omega (arith, a, b);
  forms_are = g.forms_are ∙ ap (λ xs. xs ++ gs) f.forms_are ∙ append_assoc s.forms.items fs gs;
  behind = λ all at few i k e. ⊎_elim
      (λ old. f.behind all (stand_front (length s.forms.items) fs gs all at) few i k old)
      (λ b. inr b)
      (g.behind all (stand_back (length s.forms.items) (length t.forms.items) fs gs all (more_forms s t fs f) at) few i k e);
}

holds_first : (s t u : Arena) (fs gs : List LibItem) (nodes : List Node) (all : List LibItem) → Grows t u gs → Holds s u (fs ++ gs) nodes all → Holds s t fs nodes all
holds_first s t u fs gs nodes all g h = record { kept = λ i n e. h.kept i n (g.kept i n e); stand = stand_front (length s.forms.items) fs gs all h.stand; few = h.few; ordered = h.ordered }

holds_then : (s t u : Arena) (fs gs : List LibItem) (nodes : List Node) (all : List LibItem) → Grows s t fs → Holds s u (fs ++ gs) nodes all → Holds t u gs nodes all
holds_then s t u fs gs nodes all f h =
    record { kept = h.kept; stand = stand_back (length s.forms.items) (length t.forms.items) fs gs all (more_forms s t fs f) h.stand; few = h.few; ordered = h.ordered }

-- ---- expressions one after another

map_append : {X Y : Type 0} (f : X → Y) (xs ys : List X) → map f (xs ++ ys) ≡ map f xs ++ map f ys
map_append f [] ys = refl
map_append f (x ∷ xs) ys = ap (λ zs. f x ∷ zs) (map_append f xs ys)

all_append : (P Q : Operand → Type 0) (xs ys : List Operand) → ((x : Operand) → P x → Q x) → AllByRecursion P xs → AllByRecursion Q ys → AllByRecursion Q (xs ++ ys)
all_append P Q [] ys f h k = k
all_append P Q (x ∷ xs) ys f h k = (f x h.0, all_append P Q xs ys f h.1 k)

types_then : (names : List (List ℕ)) (xs : List Operand) (ps : List Read) (ys : List Operand) (qs : List Read) → AllMeanOption names (map ty_of_operand xs) (map type_in ps)
    → AllMeanOption names (map ty_of_operand ys) (map type_in qs) → AllMeanOption names (map ty_of_operand (xs ++ ys)) (map type_in (ps ++ qs))
types_then names [] [] ys qs a b = b
types_then names (x ∷ xs) (p ∷ ps) ys qs (options_more h t) b = options_more h (types_then names xs ps ys qs t b)
types_then names [] (p ∷ ps) ys qs a b = elim a [ ]
types_then names (x ∷ xs) [] ys qs a b = elim a [ ]

pub makes_none : (names : List (List ℕ)) (s : Arena) → Makes names s s [] []
makes_none names s = record { forms = []; grows = grows_none s; count = refl; there = tt; terms = λ nodes all h. refl; trees = λ nodes all h. refl; parts = λ nodes all h i n e. inl e; types = options_none }

pub makes_then : {names : List (List ℕ)} {s t u : Arena} {xs ys : List Operand} {ps qs : List Read} → Makes names s t xs ps → Makes names t u ys qs → Makes names s u (xs ++ ys) (ps ++ qs)
makes_then {names = names} {s = s} {t = t} {u = u} {xs = xs} {ys = ys} {ps = ps} {qs = qs} a b = record {
  forms = a.forms ++ b.forms;
  grows = grows_then s t u a.forms b.forms a.grows b.grows;
  count = let m = length-append a.forms b.forms in let n = counts_append ps qs in let c = a.count in let d = b.count in omega (arith, m, n, c, d);
  there = all_append (λ (o : Operand). o.id < length t.spec.nodes) (λ (o : Operand). o.id < length u.spec.nodes) xs ys (λ x h. let l = b.grows.size in omega (arith, l, h)) a.there b.there;
  terms = λ nodes all h.
      ap (map (tree nodes all)) (map_append id_of xs ys) ∙ map_append (tree nodes all) (map id_of xs) (map id_of ys)
      ∙ ap₂ (λ as_ bs. as_ ++ bs) (a.terms nodes all (holds_first s t u a.forms b.forms nodes all b.grows h))
      (b.terms nodes all (holds_then s t u a.forms b.forms nodes all a.grows h) ∙ ap (λ k. terms_from k qs) start)
      ∙ sym (terms_append (length s.forms.items) ps qs);
  trees = λ nodes all h.
      map_append (form_tree (tree nodes all)) a.forms b.forms
      ∙ ap₂ (λ as_ bs. as_ ++ bs) (a.trees nodes all (holds_first s t u a.forms b.forms nodes all b.grows h))
      (b.trees nodes all (holds_then s t u a.forms b.forms nodes all a.grows h) ∙ ap (λ k. forms_from k qs) start)
      ∙ sym (forms_append (length s.forms.items) ps qs);
  parts = λ nodes all h i n e.
      let k = length s.forms.items in
      let x = tree nodes all i in
      let moved : StandsAmong (terms_from k ps ++ terms_from (k + counts ps) qs) (forms_from k ps ++ forms_from (k + counts ps) qs) x → StandsAmong (terms_from k (ps ++ qs)) (forms_from k (ps ++ qs)) x =
      λ w. subst (λ es. StandsAmong es (forms_from k (ps ++ qs)) x) (sym (terms_append k ps qs)) (subst (λ fs. StandsAmong (terms_from k ps ++ terms_from (k + counts ps) qs) fs x) (sym (forms_append k ps qs)) w) in
      ⊎_elim
      (λ old. ⊎_elim (λ first. inl first) (λ w. inr (moved (among_front (terms_from (k + counts ps) qs) (forms_from (k + counts ps) qs) w)))
      (a.parts nodes all (holds_first s t u a.forms b.forms nodes all b.grows h) i n old))
      (λ w. inr (moved (among_back (terms_from k ps) (forms_from k ps) (subst (λ j. StandsAmong (terms_from j qs) (forms_from j qs) x) start w))))
      (b.parts nodes all (holds_then s t u a.forms b.forms nodes all a.grows h) i n e);
  types = types_then names xs ps ys qs a.types b.types;
}
  where
    start : length t.forms.items ≡ length s.forms.items + counts ps
    start = more_forms s t a.forms a.grows ∙ ap (λ n. length s.forms.items + n) a.count

-- ---- a node over these expressions

lib_is : (n : Node) (k : ℕ) → is_form n ≡ false → node.Lib k ≡ n → true ≡ false
lib_is n k h e = ap is_form e ∙ h

grows_put : (s t u : Arena) (fs : List LibItem) (n : Node) (id : ℕ) → Grows s t fs → Puts t u n id → is_form n ≡ false → Grows s u fs
grows_put s t u fs n id g p h = record {
  others = p.others ∙ ap (with_nodes u.spec.nodes) g.others;
  kept = λ i m e. p.kept i m (g.kept i m e);
  size = let a = g.size in let b = p.size in omega (arith, a, b);
  forms_are = p.forms_are ∙ g.forms_are;
  behind = λ all at few i k e. ⊎_elim (λ old. g.behind all at few i k old) (λ new. absurd (let q = lib_is n k h new.0 in cc)) (p.last i (node.Lib k) e);
}

holds_put : (s t u : Arena) (fs : List LibItem) (n : Node) (id : ℕ) (nodes : List Node) (all : List LibItem) → Puts t u n id → Holds s u fs nodes all → Holds s t fs nodes all
holds_put s t u fs n id nodes all p h = record { kept = λ i m e. h.kept i m (p.kept i m e); stand = h.stand; few = h.few; ordered = h.ordered }

-- a node that names no form, over the trees of its operands
pub plain_made : {names : List (List ℕ)} {s t u : Arena} {os : List Operand} {ps : List Read} (n : Node) (id : ℕ) (ty : Option Known) (j : Judged) (make : List Term → Term) → Makes names s t os ps → Puts t u n id
    → is_form n ≡ false → parts n ≡ map id_of os → ((all : List LibItem) (f : ℕ → Term) → build all def f n ≡ make (map f (map id_of os))) → MeansOption names ty j.ty
    → Makes names s u (record { id = id; ty = ty } ∷ []) (plain j ps make ∷ [])
plain_made {names = names} {s = s} {t = t} {u = u} {os = os} {ps = ps} n id ty j make m p h over is means = record {
  forms = m.forms;
  grows = grows_put s t u m.forms n id m.grows p h;
  count = let c = m.count in omega (arith, c);
  there = (p.within, tt);
  terms = λ nodes all hold.
      ap (λ (a : Term). a ∷ [])
      (tree_of nodes all hold.ordered id n (hold.kept id n p.there) ∙ is all (tree nodes all) ∙ ap make (m.terms nodes all (holds_put s t u m.forms n id nodes all p hold)));
  trees = λ nodes all hold. m.trees nodes all (holds_put s t u m.forms n id nodes all p hold) ∙ sym (append-nil (forms_from (length s.forms.items) ps));
  parts = λ nodes all hold i o e.
      let k = length s.forms.items in
      let f = tree nodes all in
      let inner = m.terms nodes all (holds_put s t u m.forms n id nodes all p hold) in
      let built = is all f ∙ ap make inner in
      let own : children (make (terms_from k ps)) ≡ terms_from k ps = sym (ap children built) ∙ children_are all f n h ∙ ap (map f) over ∙ inner in
      let moved : StandsAmong (make (terms_from k ps) ∷ []) (forms_from k ps) (f i) → StandsAmong (make (terms_from k ps) ∷ []) (forms_from k ps ++ []) (f i) =
      λ w. subst (λ fs. StandsAmong (make (terms_from k ps) ∷ []) fs (f i)) (sym (append-nil (forms_from k ps))) w in
      ⊎_elim
      (λ old. ⊎_elim (λ first. inl first) (λ w. inr (moved (among_parts (terms_from k ps) (make (terms_from k ps)) own w)))
      (m.parts nodes all (holds_put s t u m.forms n id nodes all p hold) i o old))
      (λ new. inr (moved (among_itself (f i) (make (terms_from k ps)) (tree_of nodes all hold.ordered i n (hold.kept i n (e ∙ ap Some new.0)) ∙ built))))
      (p.last i o e);
  types = options_more means options_none;
}

-- ---- a library form over these expressions

terms_are : (f : ℕ → Term) (is : List ℕ) → terms_of f is ≡ terms (map f is)
terms_are f [] = refl
terms_are f (i ∷ is) = ap (more (f i)) (terms_are f is)

set_behind : {X : Type 0} (xs ys : List X) (b x : X) (k : ℕ) → k ≡ length xs → set ((xs ++ b ∷ []) ++ ys) k x ≡ xs ++ x ∷ ys
set_behind [] ys b x zero e = refl
set_behind [] ys b x (suc k) e = absurd (omega (arith, e))
set_behind (z ∷ xs) ys b x zero e = absurd (omega (arith, e))
set_behind (z ∷ xs) ys b x (suc k) e = ap (λ zs. z ∷ zs) (set_behind xs ys b x k (omega (arith, e)))

ids_below : (n m : ℕ) (os : List Operand) → n ≤ m → AllByRecursion (λ (o : Operand). o.id < n) os → AllByRecursion (λ j. j < m) (map id_of os)
ids_below n m [] l h = tt
ids_below n m (o ∷ os) l h = (let a = h.0 in omega (arith, a, l), ids_below n m os l h.1)

module _ {names : List (List ℕ)} {a t u : Arena} {os : List Operand} {ps : List Read} (s : Arena) (blank : LibItem) (form : LibForm) (at id : ℕ) (ty : Option Known) (j : Judged)
    (spec_is : a.spec ≡ s.spec) (forms_are : a.forms.items ≡ s.forms.items ++ blank ∷ []) (m : Makes names a t os ps)
    (f : Fills t u (length s.forms.items) (record { form = form; args = map id_of os; at = at }) id) (means : MeansOption names ty j.ty) where
  abbrev item : LibItem
  item = record { form = form; args = map id_of os; at = at }

  abbrev k : ℕ
  k = length s.forms.items

  behind_it : length a.forms.items ≡ suc k
  behind_it = ap length forms_are ∙ length-append s.forms.items (blank ∷ []) ∙ (omega arith)

  inner : (all : List LibItem) → StandAt k (item ∷ m.forms) all → StandAt (length a.forms.items) m.forms all
  inner all h = stand_back k (length a.forms.items) (item ∷ []) m.forms all (let e = behind_it in omega (arith, e)) h

  own : (all : List LibItem) → StandAt k (item ∷ m.forms) all → slice_get all k ≡ Some item
  own all h = let e : k + 0 ≡ k = omega arith in ap (slice_get all) (sym e) ∙ h.stands 0 item refl

  low : (all : List LibItem) → StandAt k (item ∷ m.forms) all → length all < 4294967296 → k < 4294967296
  low all h few = let l = slice_get_within all k item (own all h) in omega (arith, l, few)

  nodes_are : a.spec.nodes ≡ s.spec.nodes
  nodes_are = ap (λ (v : SpecValue). v.nodes) spec_is

  grown : Grows s u (item ∷ m.forms)
  grown = record {
    others = f.others ∙ ap (with_nodes u.spec.nodes) (m.grows.others ∙ ap (with_nodes t.spec.nodes) spec_is);
    kept = λ i n e. f.kept i n (m.grows.kept i n (subst (λ ns. slice_get ns i ≡ Some n) (sym nodes_are) e));
    size = let x = m.grows.size in let y = f.size in let z = ap length nodes_are in omega (arith, x, y, z);
    forms_are = f.forms_are ∙ ap (λ xs. set xs k item) (m.grows.forms_are ∙ ap (λ xs. xs ++ m.forms) forms_are) ∙ set_behind s.forms.items m.forms blank item k refl;
    behind = λ all h few i l e. ⊎_elim
        (λ old. ⊎_elim (λ first. inl (subst (λ ns. slice_get ns i ≡ Some (node.Lib l)) nodes_are first)) (λ b. inr b) (m.grows.behind all (inner all h) few i l old))
        (λ new. inr (args_there all h i l (lib_number l new.0) new.1))
        (f.last (low all h few) i (node.Lib l) e);
  }
    where
      lib_number : (l : ℕ) → node.Lib l ≡ node.Lib k → l ≡ k
      lib_number l e = cc

      args_there : (all : List LibItem) → StandAt k (item ∷ m.forms) all → (i l : ℕ) → l ≡ k → length t.spec.nodes ≤ i → AllByRecursion (λ j. j < i) (args_of (slice_get all l))
      args_there all h i l e b = subst (λ o. AllByRecursion (λ j. j < i) (args_of o)) (sym (ap (slice_get all) e ∙ own all h)) (ids_below (length t.spec.nodes) i os b m.there)

  held : (nodes : List Node) (all : List LibItem) → Holds s u (item ∷ m.forms) nodes all → Holds a t m.forms nodes all
  held nodes all h = record { kept = λ i n e. h.kept i n (f.kept i n e); stand = inner all h.stand; few = h.few; ordered = h.ordered }

  pub library_made : Makes names s u (record { id = id; ty = ty } ∷ []) (library j at form ps ∷ [])
  library_made = record {
    forms = item ∷ m.forms;
    grows = grown;
    count = let c = m.count in omega (arith, c);
    there = (f.within, tt);
    terms = λ nodes all h.
        ap (λ (b : Term). b ∷ [])
        (tree_of nodes all h.ordered id (node.Lib k) (h.kept id (node.Lib k) (f.there (low all h.stand h.few))) ∙ ap (lib_of (tree nodes all) k) (own all h.stand)
        ∙ ap (lib k form) (terms_are (tree nodes all) (map id_of os) ∙ ap terms (m.terms nodes all (held nodes all h) ∙ ap (λ i. terms_from i ps) behind_it)));
    trees = λ nodes all h.
        ap₂ (λ (as_ : List Term) (xs : List TreeLib). record { form = form; args = as_; at = at } ∷ xs)
        (m.terms nodes all (held nodes all h) ∙ ap (λ i. terms_from i ps) behind_it)
        (m.trees nodes all (held nodes all h) ∙ ap (λ i. forms_from i ps) behind_it ∙ sym (append-nil (forms_from (suc k) ps)));
    parts = λ nodes all h i n e.
        let g = tree nodes all in
        let inner = m.terms nodes all (held nodes all h) ∙ ap (λ j. terms_from j ps) behind_it in
        let whole = lib k form (terms (terms_from (suc k) ps)) in
        let x : TreeLib = record { form = form; args = terms_from (suc k) ps; at = at } in
        let built : build all def g (node.Lib k) ≡ whole = ap (lib_of g k) (own all h.stand) ∙ ap (lib k form) (terms_are g (map id_of os) ∙ ap terms inner) in
        let moved : StandsAmong (whole ∷ []) (x ∷ forms_from (suc k) ps) (g i) → StandsAmong (whole ∷ []) (x ∷ forms_from (suc k) ps ++ []) (g i) =
        λ w. subst (λ fs. StandsAmong (whole ∷ []) (x ∷ fs) (g i)) (sym (append-nil (forms_from (suc k) ps))) w in
        ⊎_elim
        (λ old. ⊎_elim (λ first. inl (subst (λ ns. slice_get ns i ≡ Some n) nodes_are first))
        (λ w. inr (moved (among_operands whole x refl (subst (λ j. StandsAmong (terms_from j ps) (forms_from j ps) (g i)) behind_it w))))
        (m.parts nodes all (held nodes all h) i n old))
        (λ new. inr (moved (among_itself (g i) whole (tree_of nodes all h.ordered i (node.Lib k) (h.kept i (node.Lib k) (e ∙ ap Some new.0)) ∙ built))))
        (f.last (low all h.stand h.few) i n e);
    types = options_more means options_none;
  }
