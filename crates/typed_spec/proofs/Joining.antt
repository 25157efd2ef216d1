-- What roots and declarations add to an arena, one after another.
use Rattle.std.proofs.Common.{◌≡◌, ⊎_elim, inl, inr, ℕ, ◌+◌, ◌<◌, List, [], ◌∷◌, ◌++◌, length, map, take, get_or, refl, sym, ap, ap₂, ◌∙◌, subst, arith, append_assoc, append-nil, length-append}
use Rattle.std.specs.Prelude.{slice_get, Some}
use Rattle.std.specs.List.{flat_map, AllByRecursion}
use Rattle.std.specs.Global.{Vec}
use Rattle.std.proofs.lemmas.List.{take_more}
use Rattle.sm_io.proofs.Elements.{get_front}
use Rattle.stream_types.specs.declared.scalar.Ty.{Ty}
use Rattle.spec_text.specs.declared.surface.Expr.{Expr}
use Rattle.spec_text.specs.declared.surface.Decl.{Decl}
use Rattle.spec_text.specs.Places.{place_of_expr}
use Rattle.stream_core.specs.declared.node.Node.{Node}
use Rattle.stream_core.specs.declared.node.Node.TheVariants as node
use Rattle.stream_core.specs.declared.spec.Root.{Root}
use Rattle.stream_core.specs.declared.spec.ExternItem.{ExternItem}
use Rattle.stream_core.specs.declared.spec.LibItem.{LibItem}
use Rattle.stream_core.specs.Parts.{IsNodeList}
use Rattle.stream_core.specs.Term.{Term, TreeSpec, TreeRoot, TreeStream, TreeDef, TreeTrigger, TreeObserver, TreeLib, tree, tree_root}
use Rattle.stream_core.specs.Ordered.{Ordered, args_of, all_parts}
use Rattle.type_check.specs.NamedType.{Declarations}
use Rattle.type_check.specs.Judged.{Scope}
use Rattle.type_check.specs.Untyped.{reversed, scope_of}
use Rattle.typed_spec.specs.declared.arena.Arena.{Arena}
use Rattle.typed_spec.specs.declared.arena.Operand.{Operand}
use Rattle.typed_text.specs.ReadSpec.{Numbers, Read, read_expr, counts, terms_from, forms_from, ty_in, root_of, roots_from, Placed, placed, reads, roots, first_root, extern_item, stream_item, def_item, trigger_item, observer_item, forms_of}
use Rattle.typed_spec.specs.Made.{StandAt, form_tree, Grows, Holds, Makes, StandsAmong}
use Rattle.typed_text.specs.InExpressions.{IsExpression, of_stream, of_def, of_guard, of_argument, of_observer, of_form, StandsIn}
use Rattle.typed_spec.specs.Added.{Extends, reads_of, MakesRoots, trees_in, joined, items_of, form_total, Adds, next_of}
use Rattle.typed_spec.proofs.Making.{stand_front, stand_back, counts_append, terms_append, forms_append}
use Rattle.typed_spec.proofs.Among.{get_behind, among_front, among_back}

-- ---- more nodes and forms

pub extends_none : (s : Arena) → Extends s s []
extends_none s = record { kept = λ i n e. e; size = omega arith; forms_are = sym (append-nil s.forms.items); behind = λ all at few i k e. inl e }

pub grown_extends : {s t : Arena} {fs : List LibItem} → Grows s t fs → Extends s t fs
grown_extends g = record { kept = g.kept; size = g.size; forms_are = g.forms_are; behind = g.behind }

pub more_items : (s t : Arena) (fs : List LibItem) → Extends s t fs → length t.forms.items ≡ length s.forms.items + length fs
more_items s t fs g = ap length g.forms_are ∙ length-append s.forms.items fs

extends_then : (s t u : Arena) (fs gs : List LibItem) → Extends s t fs → Extends t u gs → Extends s u (fs ++ gs)
extends_then s t u fs gs f g = record {
  kept = λ i n e. g.kept i n (f.kept i n e);
  size = let a = f.size in let b = g.size in omega (arith, a, b);
  forms_are = g.forms_are ∙ ap (λ xs. xs ++ gs) f.forms_are ∙ append_assoc s.forms.items fs gs;
  behind = λ all at few i k e. ⊎_elim
      (λ old. f.behind all (stand_front (length s.forms.items) fs gs all at) few i k old)
      (λ b. inr b)
      (g.behind all (stand_back (length s.forms.items) (length t.forms.items) fs gs all (more_items s t fs f) at) few i k e);
}

-- the items of a specification may be others
pub extends_items : {s t u : Arena} {fs : List LibItem} → Extends s t fs → u.spec.nodes ≡ t.spec.nodes → u.forms ≡ t.forms → Extends s u fs
extends_items {s} {t} {u} {fs} f n h = record {
  kept = λ i m e. subst (λ ns. slice_get ns i ≡ Some m) (sym n) (f.kept i m e);
  size = let a = f.size in let b = ap length n in omega (arith, a, b);
  forms_are = ap (λ (v : Vec LibItem). v.items) h ∙ f.forms_are;
  behind = λ all at few i k e. f.behind all at few i k (subst (λ ns. slice_get ns i ≡ Some (node.Lib k)) n e);
}

held_first : (s t u : Arena) (fs gs : List LibItem) (nodes : List Node) (all : List LibItem) → Extends t u gs → Holds s u (fs ++ gs) nodes all → Holds s t fs nodes all
held_first s t u fs gs nodes all g h = record { kept = λ i n e. h.kept i n (g.kept i n e); stand = stand_front (length s.forms.items) fs gs all h.stand; few = h.few; ordered = h.ordered }

held_then : (s t u : Arena) (fs gs : List LibItem) (nodes : List Node) (all : List LibItem) → Extends s t fs → Holds s u (fs ++ gs) nodes all → Holds t u gs nodes all
held_then s t u fs gs nodes all f h =
    record { kept = h.kept; stand = stand_back (length s.forms.items) (length t.forms.items) fs gs all (more_items s t fs f) h.stand; few = h.few; ordered = h.ordered }

-- ---- roots

abbrev root_with : Term → Ty → ℕ → TreeRoot
root_with a t i = record { expr = a; ty = t; at = i }

root_same : (a b : Term) (t u : Ty) (i j : ℕ) → a ∷ [] ≡ b ∷ [] → t ≡ u → i ≡ j → root_with a t i ∷ [] ≡ root_with b u j ∷ []
root_same a b t u i j e f g = let h : a ≡ b = cc in rw (h, f, g)

-- an expression as a root
pub root_made : {names : List (List ℕ)} {s t : Arena} (n : Numbers) (c : Scope) (o : Operand) (r : Root) (e : Expr) → Makes names s t (o ∷ []) (read_expr n c e ∷ []) → r.expr ≡ o.id → r.ty ≡ ty_in n (read_expr n c e).judged → r.at ≡ place_of_expr e
    → MakesRoots n c s t (r ∷ []) (e ∷ [])
root_made {s = s} {t = t} n c o r e m x y z = record {
  forms = m.forms;
  extends = grown_extends m.grows;
  count = m.count;
  roots = λ nodes all h.
      root_same (tree nodes all r.expr) ((read_expr n c e).term (length s.forms.items)) r.ty (ty_in n (read_expr n c e).judged) r.at (place_of_expr e)
      (ap (λ i. tree nodes all i ∷ []) x ∙ m.terms nodes all h) y z;
  trees = m.trees;
  parts = m.parts;
}

pub roots_none : (n : Numbers) (c : Scope) (s : Arena) → MakesRoots n c s s [] []
roots_none n c s = record { forms = []; extends = extends_none s; count = refl; roots = λ nodes all h. refl; trees = λ nodes all h. refl; parts = λ nodes all h i m e. inl e }

map_more : {X Y : Type 0} (f : X → Y) (xs ys : List X) → map f (xs ++ ys) ≡ map f xs ++ map f ys
map_more f [] ys = refl
map_more f (x ∷ xs) ys = ap (λ zs. f x ∷ zs) (map_more f xs ys)

roots_append : (n : Numbers) (f : Expr → Read) (k : ℕ) (es ds : List Expr) → roots_from n k (map f (es ++ ds)) (es ++ ds) ≡ roots_from n k (map f es) es ++ roots_from n (k + counts (map f es)) (map f ds) ds
roots_append n f k [] ds = let e : k ≡ k + 0 = omega arith in ap (λ j. roots_from n j (map f ds) ds) e
roots_append n f k (e ∷ es) ds =
    let i : k + (f e).count + counts (map f es) ≡ k + ((f e).count + counts (map f es)) = omega arith in
    ap (λ rs. root_of n k (f e) e ∷ rs) (roots_append n f (k + (f e).count) es ds ∙ ap (λ j. roots_from n (k + (f e).count) (map f es) es ++ roots_from n j (map f ds) ds) i)

pub roots_then : {n : Numbers} {c : Scope} {s t u : Arena} {rs qs : List Root} {es ds : List Expr} → MakesRoots n c s t rs es → MakesRoots n c t u qs ds → MakesRoots n c s u (rs ++ qs) (es ++ ds)
roots_then {n} {c} {s} {t} {u} {rs} {qs} {es} {ds} a b = record {
  forms = a.forms ++ b.forms;
  extends = extends_then s t u a.forms b.forms a.extends b.extends;
  count = length-append a.forms b.forms ∙ ap₂ (λ x y. x + y) a.count b.count ∙ sym (ap counts reads_are ∙ counts_append ps qs_);
  roots = λ nodes all h.
      map_more (tree_root (tree nodes all)) rs qs
      ∙ ap₂ (λ xs ys. xs ++ ys) (a.roots nodes all (held_first s t u a.forms b.forms nodes all b.extends h))
      (b.roots nodes all (held_then s t u a.forms b.forms nodes all a.extends h) ∙ ap (λ j. roots_from n j qs_ ds) start)
      ∙ sym (roots_append n (read_expr n c) k es ds);
  trees = λ nodes all h.
      map_more (form_tree (tree nodes all)) a.forms b.forms
      ∙ ap₂ (λ xs ys. xs ++ ys) (a.trees nodes all (held_first s t u a.forms b.forms nodes all b.extends h))
      (b.trees nodes all (held_then s t u a.forms b.forms nodes all a.extends h) ∙ ap (λ j. forms_from j qs_) start)
      ∙ sym (ap (forms_from k) reads_are ∙ forms_append k ps qs_);
  parts = λ nodes all h i m e.
      let x = tree nodes all i in
      let moved : StandsAmong (terms_from k ps ++ terms_from (k + counts ps) qs_) (forms_from k ps ++ forms_from (k + counts ps) qs_) x → StandsAmong (terms_from k (reads_of n c (es ++ ds))) (forms_from k (reads_of n c (es ++ ds))) x =
      λ w. subst (λ zs. StandsAmong (terms_from k zs) (forms_from k zs) x) (sym reads_are)
      (subst (λ zs. StandsAmong zs (forms_from k (ps ++ qs_)) x) (sym (terms_append k ps qs_)) (subst (λ fs. StandsAmong (terms_from k ps ++ terms_from (k + counts ps) qs_) fs x) (sym (forms_append k ps qs_)) w)) in
      ⊎_elim
      (λ old. ⊎_elim (λ first. inl first) (λ w. inr (moved (among_front (terms_from (k + counts ps) qs_) (forms_from (k + counts ps) qs_) w)))
      (a.parts nodes all (held_first s t u a.forms b.forms nodes all b.extends h) i m old))
      (λ w. inr (moved (among_back (terms_from k ps) (forms_from k ps) (subst (λ j. StandsAmong (terms_from j qs_) (forms_from j qs_) x) start w))))
      (b.parts nodes all (held_then s t u a.forms b.forms nodes all a.extends h) i m e);
}
  where
    k : ℕ
    k = length s.forms.items

    ps : List Read
    ps = reads_of n c es

    qs_ : List Read
    qs_ = reads_of n c ds

    reads_are : reads_of n c (es ++ ds) ≡ ps ++ qs_
    reads_are = map_more (read_expr n c) es ds

    start : length t.forms.items ≡ k + counts ps
    start = more_items s t a.forms a.extends ∙ ap (λ i. k + i) a.count

-- one more root in a walk over expressions
pub roots_next : {n : Numbers} {c : Scope} {s t u : Arena} {rs : List Root} (es : List Expr) (i : ℕ) (r : Root) (e out : Expr) → i < length es → e ≡ get_or es i out → MakesRoots n c s t rs (take i es) → MakesRoots n c t u (r ∷ []) (e ∷ [])
    → MakesRoots n c s u (rs ++ r ∷ []) (take (i + 1) es)
roots_next {n} {c} {s} {t} {u} {rs} es i r e out low at a b =
    subst (λ ds. MakesRoots n c s u (rs ++ r ∷ []) ds) (sym (take_more es i out low ∙ ap (λ y. take i es ++ y ∷ []) (sym at))) (roots_then a b)

-- ---- items

abbrev pub with_items : TreeSpec → List ExternItem → List TreeStream → List TreeDef → List TreeTrigger → List TreeObserver → List TreeLib → TreeSpec
with_items x es ss ds ts os ls = record x { externs = es; streams = ss; defs = ds; triggers = ts; observers = os; libs = ls }

pub spec_same : (x : TreeSpec) {es es' : List ExternItem} {ss ss' : List TreeStream} {ds ds' : List TreeDef} {ts ts' : List TreeTrigger} {os os' : List TreeObserver} {ls ls' : List TreeLib}
    → es ≡ es' → ss ≡ ss' → ds ≡ ds' → ts ≡ ts' → os ≡ os' → ls ≡ ls'
    → with_items x es ss ds ts os ls ≡ with_items x es' ss' ds' ts' os' ls'
spec_same x a b c d e f = rw (a, b, c, d, e, f)

joined_none : (n : Numbers) (all : Declarations) (x : TreeSpec) → x ≡ joined x (items_of n all [])
joined_none n all x = spec_same x (sym (append-nil x.externs)) (sym (append-nil x.streams)) (sym (append-nil x.defs)) (sym (append-nil x.triggers)) (sym (append-nil x.observers)) (sym (append-nil x.libs))

joined_assoc : (x y z : TreeSpec) → joined (joined x y) z ≡ joined x (joined y z)
joined_assoc x y z = spec_same x (append_assoc x.externs y.externs z.externs) (append_assoc x.streams y.streams z.streams) (append_assoc x.defs y.defs z.defs) (append_assoc x.triggers y.triggers z.triggers)
    (append_assoc x.observers y.observers z.observers) (append_assoc x.libs y.libs z.libs)

flat_append : {X Y : Type 0} (f : X → List Y) (xs ys : List X) → flat_map f (xs ++ ys) ≡ flat_map f xs ++ flat_map f ys
flat_append f [] ys = refl
flat_append f (x ∷ xs) ys = ap (λ zs. f x ++ zs) (flat_append f xs ys) ∙ sym (append_assoc (f x) (flat_map f xs) (flat_map f ys))

items_append : (n : Numbers) (all : Declarations) (ps qs : List Placed) → items_of n all (ps ++ qs) ≡ joined (items_of n all ps) (items_of n all qs)
items_append n all ps qs = spec_same (items_of n all ps)
    (flat_append (λ (p : Placed). extern_item n p p.decl) ps qs)
    (flat_append (λ (p : Placed). stream_item n p (first_root (roots n all p)) p.decl) ps qs)
    (flat_append (λ (p : Placed). def_item n p (first_root (roots n all p)) p.decl) ps qs)
    (flat_append (λ (p : Placed). trigger_item (roots n all p) p.decl) ps qs)
    (flat_append (λ (p : Placed). observer_item (first_root (roots n all p)) p.decl) ps qs)
    (flat_append (forms_of n all) ps qs)

expression_front : (x y : TreeSpec) (e : Term) → IsExpression x e → IsExpression (joined x y) e
expression_front x y e (of_stream i t h) = of_stream i t (get_front x.streams y.streams i t h)
expression_front x y e (of_def i t h) = of_def i t (get_front x.defs y.defs i t h)
expression_front x y e (of_guard i t h) = of_guard i t (get_front x.triggers y.triggers i t h)
expression_front x y e (of_argument i j t r h g) = of_argument i j t r (get_front x.triggers y.triggers i t h) g
expression_front x y e (of_observer i t h) = of_observer i t (get_front x.observers y.observers i t h)
expression_front x y e (of_form i j t a h g) = of_form i j t a (get_front x.libs y.libs i t h) g

expression_back : (x y : TreeSpec) (e : Term) → IsExpression y e → IsExpression (joined x y) e
expression_back x y e (of_stream i t h) = of_stream (length x.streams + i) t (get_behind x.streams y.streams i ∙ h)
expression_back x y e (of_def i t h) = of_def (length x.defs + i) t (get_behind x.defs y.defs i ∙ h)
expression_back x y e (of_guard i t h) = of_guard (length x.triggers + i) t (get_behind x.triggers y.triggers i ∙ h)
expression_back x y e (of_argument i j t r h g) = of_argument (length x.triggers + i) j t r (get_behind x.triggers y.triggers i ∙ h) g
expression_back x y e (of_observer i t h) = of_observer (length x.observers + i) t (get_behind x.observers y.observers i ∙ h)
expression_back x y e (of_form i j t a h g) = of_form (length x.libs + i) j t a (get_behind x.libs y.libs i ∙ h) g

stands_front : (x y : TreeSpec) (e : Term) → StandsIn x e → StandsIn (joined x y) e
stands_front x y e w = record { whole = w.whole; is = expression_front x y w.whole w.is; part = w.part }

pub stands_back : (x y : TreeSpec) (e : Term) → StandsIn y e → StandsIn (joined x y) e
stands_back x y e w = record { whole = w.whole; is = expression_back x y w.whole w.is; part = w.part }

-- ---- declarations one after another

pub adds_none : (n : Numbers) (all : Declarations) (s : Arena) → Adds n all s s []
adds_none n all s = record { forms = []; extends = extends_none s; count = refl; libs = refl; trees = λ nodes libs h. joined_none n all (trees_in (tree nodes libs) s); parts = λ nodes libs h i m e. inl e }

total_append : (n : Numbers) (all : Declarations) (ps qs : List Placed) → form_total n all (ps ++ qs) ≡ form_total n all ps + form_total n all qs
total_append n all [] qs = omega arith
total_append n all (p ∷ ps) qs = let e = total_append n all ps qs in omega (arith, e)

pub adds_then : {n : Numbers} {all : Declarations} {s t u : Arena} {ps qs : List Placed} → Adds n all s t ps → Adds n all t u qs → Adds n all s u (ps ++ qs)
adds_then {n} {all} {s} {t} {u} {ps} {qs} a b = record {
  forms = a.forms ++ b.forms;
  extends = extends_then s t u a.forms b.forms a.extends b.extends;
  count = length-append a.forms b.forms ∙ ap₂ (λ x y. x + y) a.count b.count ∙ sym (total_append n all ps qs);
  libs = b.libs ∙ a.libs;
  trees = λ nodes libs h.
      b.trees nodes libs (held_then s t u a.forms b.forms nodes libs a.extends h)
      ∙ ap (λ x. joined x (items_of n all qs)) (a.trees nodes libs (held_first s t u a.forms b.forms nodes libs b.extends h))
      ∙ joined_assoc (trees_in (tree nodes libs) s) (items_of n all ps) (items_of n all qs) ∙ ap (joined (trees_in (tree nodes libs) s)) (sym (items_append n all ps qs));
  parts = λ nodes libs h i m e.
      let x = tree nodes libs i in
      let moved : StandsIn (joined (items_of n all ps) (items_of n all qs)) x → StandsIn (items_of n all (ps ++ qs)) x = λ w. subst (λ z. StandsIn z x) (sym (items_append n all ps qs)) w in
      ⊎_elim
      (λ old. ⊎_elim (λ first. inl first) (λ w. inr (moved (stands_front (items_of n all ps) (items_of n all qs) x w)))
      (a.parts nodes libs (held_first s t u a.forms b.forms nodes libs b.extends h) i m old))
      (λ w. inr (moved (stands_back (items_of n all ps) (items_of n all qs) x w)))
      (b.parts nodes libs (held_then s t u a.forms b.forms nodes libs a.extends h) i m e);
}

-- ---- the declarations of a text

placed_append : (n : Numbers) (all before : Declarations) (k : ℕ) (xs ys : List Decl) → placed n all before k (xs ++ ys) ≡ placed n all before k xs ++ placed n all (reversed before xs) (k + form_total n all (placed n all before k xs)) ys
placed_append n all before k [] ys = let e : k ≡ k + 0 = omega arith in ap (λ j. placed n all before j ys) e
placed_append n all before k (x ∷ xs) ys =
    let c = counts (reads n all before x) in
    let p : Placed = record { before = before; forms = k; decl = x } in
    let t = form_total n all (placed n all (x ∷ before) (k + c) xs) in
    let e : k + c + t ≡ k + (c + t) = omega arith in
    ap (λ ps. p ∷ ps) (placed_append n all (x ∷ before) (k + c) xs ys ∙ ap (λ j. placed n all (x ∷ before) (k + c) xs ++ placed n all (reversed (x ∷ before) xs) j ys) e)

-- one declaration more in a walk over them
pub adds_next : {n : Numbers} {all : Declarations} {s t u : Arena} (xs : List Decl) (i : ℕ) (x out : Decl) → i < length xs → x ≡ get_or xs i out → s.forms.items ≡ [] → Adds n all s t (placed n all [] 0 (take i xs))
    → Adds n all t u (next_of (scope_of (reversed [] (take i xs)) all) t x ∷ []) → Adds n all s u (placed n all [] 0 (take (i + 1) xs))
adds_next {n} {all} {s} {t} {u} xs i x out low at none a b =
    let before = reversed [] (take i xs) in
    let sum = form_total n all (placed n all [] 0 (take i xs)) in
    let start = more_items s t a.forms a.extends in
    let nothing : length s.forms.items ≡ 0 = ap length none in
    let count = a.count in
    let k_is : length t.forms.items ≡ 0 + sum = omega (arith, start, nothing, count) in
    let more_is : take (i + 1) xs ≡ take i xs ++ x ∷ [] = take_more xs i out low ∙ ap (λ y. take i xs ++ y ∷ []) (sym at) in
    let q : List Placed = record { before = before; forms = 0 + sum; decl = x } ∷ [] in
    let placed_is : placed n all [] 0 (take (i + 1) xs) ≡ placed n all [] 0 (take i xs) ++ q = ap (placed n all [] 0) more_is ∙ placed_append n all [] 0 (take i xs) (x ∷ []) in
    let here : Adds n all t u q = subst (λ k. Adds n all t u (record { before = before; forms = k; decl = x } ∷ [])) k_is b in
    subst (Adds n all s u) (sym placed_is) (adds_then a here)

-- ---- a whole arena

-- an arena that began with nothing has its parts in order
pub all_ordered : (s t : Arena) (fs : List LibItem) → s.spec.nodes ≡ [] → s.forms.items ≡ [] → Extends s t fs → IsNodeList t.spec.nodes → length t.forms.items < 4294967296 → Ordered t.spec.nodes t.forms.items
all_ordered s t fs n f e list few = record { below = λ i m h. below_at i m h }
  where
    stand : StandAt (length s.forms.items) fs t.forms.items
    stand =
        let all_are : t.forms.items ≡ fs = e.forms_are ∙ ap (λ xs. xs ++ fs) f in
        let none : length s.forms.items ≡ 0 = ap length f in
        record { stands = λ i x h. let p : length s.forms.items + i ≡ i = omega (arith, none) in ap₂ (λ xs j. slice_get xs j) all_are p ∙ h }

    of_form_at : (i k : ℕ) → slice_get t.spec.nodes i ≡ Some (node.Lib k) → AllByRecursion (λ j. j < i) (args_of (slice_get t.forms.items k))
    of_form_at i k h = ⊎_elim (λ old. absurd (let q = ap (λ ns. slice_get ns i) (sym n) ∙ old in cc)) (λ b. b) (e.behind t.forms.items stand few i k h)

    below_at : (i : ℕ) (m : Node) → slice_get t.spec.nodes i ≡ Some m → AllByRecursion (λ j. j < i) (all_parts t.forms.items m)
    below_at i (node.Lit a b) h = list.below i _ h
    below_at i (node.Extern a) h = list.below i _ h
    below_at i (node.Stream a) h = list.below i _ h
    below_at i (node.Def a) h = list.below i _ h
    below_at i (node.Drop a b) h = list.below i _ h
    below_at i (node.Un o a b) h = list.below i _ h
    below_at i (node.Bin o a b c) h = list.below i _ h
    below_at i (node.Shift o a b c g) h = list.below i _ h
    below_at i (node.Cast a b c) h = list.below i _ h
    below_at i (node.And a b) h = list.below i _ h
    below_at i (node.Or a b) h = list.below i _ h
    below_at i (node.Implies a b) h = list.below i _ h
    below_at i (node.If a b c) h = list.below i _ h
    below_at i (node.Index a b c) h = list.below i _ h
    below_at i (node.Field a b c) h = list.below i _ h
    below_at i (node.Array a b) h = list.below i _ h
    below_at i (node.Record a b) h = list.below i _ h
    below_at i (node.Abs a b) h = list.below i _ h
    below_at i (node.Sign a b) h = list.below i _ h
    below_at i (node.Majority a b) h = list.below i _ h
    below_at i (node.Agreed a b) h = list.below i _ h
    below_at i (node.Lib k) h = of_form_at i k h

-- an arena that began with nothing holds all that was added
pub all_held : (s t : Arena) (fs : List LibItem) → s.spec.nodes ≡ [] → s.forms.items ≡ [] → Extends s t fs → IsNodeList t.spec.nodes → length t.forms.items < 4294967296 → Holds s t fs t.spec.nodes t.forms.items
all_held s t fs n f e list few = record {
  kept = λ i m h. h;
  stand =
      let all_are : t.forms.items ≡ fs = e.forms_are ∙ ap (λ xs. xs ++ fs) f in
      let none : length s.forms.items ≡ 0 = ap length f in
      record { stands = λ i x h. let p : length s.forms.items + i ≡ i = omega (arith, none) in ap₂ (λ xs j. slice_get xs j) all_are p ∙ h };
  few = few;
  ordered = all_ordered s t fs n f e list few;
}
