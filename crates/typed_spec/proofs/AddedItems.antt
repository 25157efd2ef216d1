-- The item of one declaration, behind its expressions.
use Rattle.std.proofs.Common.{◌≡◌, ⊎_elim, inl, inr, ℕ, zero, suc, ◌+◌, List, [], ◌∷◌, ◌++◌, length, map, refl, sym, ap, ap₂, ◌∙◌, subst, arith, append-nil}
use Rattle.std.specs.Prelude.{slice_get, Some}
use Rattle.std.specs.List.{flat_map}
use Rattle.std.specs.Global.{Vec}
use Rattle.stream_types.specs.declared.scalar.Ty.{Ty}
use Rattle.sm_io.proofs.Elements.{get_front, map_push}
use Rattle.spec_text.specs.declared.surface.NameAt.{NameAt}
use Rattle.spec_text.specs.declared.surface.TypeForm.{TypeForm}
use Rattle.spec_text.specs.declared.surface.FieldForm.{FieldForm}
use Rattle.spec_text.specs.declared.surface.ConstForm.{ConstForm}
use Rattle.spec_text.specs.declared.surface.Expr.{Expr}
use Rattle.spec_text.specs.declared.surface.Decl.{Decl}
use Rattle.spec_text.specs.declared.surface.Decl.TheVariants as d
use Rattle.stream_core.specs.declared.node.Node.{Node}
use Rattle.stream_core.specs.declared.spec.Root.{Root}
use Rattle.stream_core.specs.declared.spec.ExternItem.{ExternItem}
use Rattle.stream_core.specs.declared.spec.StreamItem.{StreamItem}
use Rattle.stream_core.specs.declared.spec.DefItem.{DefItem}
use Rattle.stream_core.specs.declared.spec.TriggerItem.{TriggerItem}
use Rattle.stream_core.specs.declared.spec.ObserverItem.{ObserverItem}
use Rattle.stream_core.specs.declared.spec.LibItem.{LibItem}
use Rattle.stream_core.specs.declared.spec.Item.TheVariants as item
use Rattle.stream_core.specs.Value.{SpecValue}
use Rattle.stream_core.specs.Stored.{with_item}
use Rattle.stream_core.specs.Term.{Term, TreeSpec, TreeRoot, TreeStream, TreeDef, TreeTrigger, TreeObserver, TreeLib, tree, tree_root, trees_by}
use Rattle.type_check.specs.Judged.{Scope}
use Rattle.typed_spec.specs.declared.arena.Arena.{Arena}
use Rattle.typed_text.specs.ReadSpec.{Numbers, Read, read_expr, terms_from, forms_from, root_of, roots_from, expressions, const_words, Placed, roots, first_root, other_roots, written_ty, stream_item, def_item, trigger_item, observer_item}
use Rattle.typed_spec.specs.Made.{form_tree, Holds, StandsAmong, in_expression, in_operand}
use Rattle.typed_text.specs.InExpressions.{IsExpression, of_stream, of_def, of_guard, of_argument, of_observer, of_form, StandsIn}
use Rattle.typed_spec.specs.Added.{reads_of, MakesRoots, items_of, Adds, next_of}
use Rattle.typed_spec.proofs.Joining.{extends_items, roots_none, spec_same}

-- ---- where the roots stand

-- the root of each expression is its tree
root_at : (n : Numbers) (f : Expr → Read) (k j : ℕ) (es : List Expr) (w : Term) → slice_get (terms_from k (map f es)) j ≡ Some w → (r : TreeRoot) × (slice_get (roots_from n k (map f es) es) j ≡ Some r) × (r.expr ≡ w)
root_at n f k j [] w h = absurd (cc)
root_at n f k zero (e ∷ es) w h = let q : (f e).term k ≡ w = cc in (root_of n k (f e) e, refl, q)
root_at n f k (suc j) (e ∷ es) w h = root_at n f (k + (f e).count) j es w h

none_there : (x : TreeSpec) (j : ℕ) (r : TreeRoot) → slice_get [] j ≡ Some r → IsExpression x r.expr
none_there x j r h = absurd (cc)

only_there : (x : TreeSpec) (q : TreeRoot) → IsExpression x q.expr → (j : ℕ) (r : TreeRoot) → slice_get (q ∷ []) j ≡ Some r → IsExpression x r.expr
only_there x q w zero r h = let e : q ≡ r = cc in subst (λ (p : TreeRoot). IsExpression x p.expr) e w
only_there x q w (suc j) r h = absurd (cc)

first_or : (x : TreeSpec) (q : TreeRoot) (qs : List TreeRoot) → IsExpression x q.expr → ((j : ℕ) (r : TreeRoot) → slice_get qs j ≡ Some r → IsExpression x r.expr) → (j : ℕ) (r : TreeRoot) → slice_get (q ∷ qs) j ≡ Some r → IsExpression x r.expr
first_or x q qs w f zero r h = let e : q ≡ r = cc in subst (λ (p : TreeRoot). IsExpression x p.expr) e w
first_or x q qs w f (suc j) r h = f j r h

stream_there : (x : TreeSpec) (y : TreeStream) → slice_get x.streams 0 ≡ Some y → IsExpression x y.expr
stream_there x y h = of_stream 0 y h

def_there : (x : TreeSpec) (y : TreeDef) → slice_get x.defs 0 ≡ Some y → IsExpression x y.expr
def_there x y h = of_def 0 y h

trigger_there : (x : TreeSpec) (y : TreeTrigger) → slice_get x.triggers 0 ≡ Some y → (j : ℕ) (r : TreeRoot) → slice_get (y.guard ∷ y.args) j ≡ Some r → IsExpression x r.expr
trigger_there x y h = first_or x y.guard y.args (of_guard 0 y h) (λ j r g. of_argument 0 j y r h g)

observer_there : (x : TreeSpec) (y : TreeObserver) → slice_get x.observers 0 ≡ Some y → IsExpression x y.root.expr
observer_there x y h = of_observer 0 y h

-- each root is an expression of the declaration's item
root_stands : (n : Numbers) (s : Scope) (k : ℕ) (x : Decl) (j : ℕ) (r : TreeRoot) → let p : Placed = record { before = s.before; forms = k; decl = x } in
    slice_get (roots n s.all p) j ≡ Some r → IsExpression (items_of n s.all (p ∷ [])) r.expr
root_stands n s k (d.Struct at x fields) j r = none_there _ j r
root_stands n s k (d.Extern at x ty) j r = none_there _ j r
root_stands n s k (d.Stream at x ty init e) j r =
    let p : Placed = record { before = s.before; forms = k; decl = d.Stream at x ty init e } in
    let q = first_root (roots n s.all p) in
    let y : TreeStream = record { name = x.name; ty = written_ty n p ty; init = flat_map const_words init; expr = q.expr; at = q.at } in
    first_or (items_of n s.all (p ∷ [])) q [] (stream_there (items_of n s.all (p ∷ [])) y refl) (none_there (items_of n s.all (p ∷ []))) j r
root_stands n s k (d.Def at x ty e) j r =
    let p : Placed = record { before = s.before; forms = k; decl = d.Def at x ty e } in
    let q = first_root (roots n s.all p) in
    let y : TreeDef = record { name = x.name; ty = written_ty n p ty; expr = q.expr; at = at } in
    first_or (items_of n s.all (p ∷ [])) q [] (def_there (items_of n s.all (p ∷ [])) y refl) (none_there (items_of n s.all (p ∷ []))) j r
root_stands n s k (d.Trigger at x guard args) j r =
    let p : Placed = record { before = s.before; forms = k; decl = d.Trigger at x guard args } in
    let rs = roots n s.all p in
    let y : TreeTrigger = record { name = x.name; guard = first_root rs; args = other_roots rs } in
    trigger_there (items_of n s.all (p ∷ [])) y refl j r
root_stands n s k (d.Observer at x e) j r =
    let p : Placed = record { before = s.before; forms = k; decl = d.Observer at x e } in
    let q = first_root (roots n s.all p) in
    let y : TreeObserver = record { name = x.name; root = q } in
    first_or (items_of n s.all (p ∷ [])) q [] (observer_there (items_of n s.all (p ∷ [])) y refl) (none_there (items_of n s.all (p ∷ []))) j r

-- what stands among a declaration's expressions and forms stands in its item
decl_stands : (n : Numbers) (s : Scope) (k : ℕ) (x : Decl) (e : Term) → let p : Placed = record { before = s.before; forms = k; decl = x } in
    StandsAmong (terms_from k (reads_of n s (expressions x))) (forms_from k (reads_of n s (expressions x))) e → StandsIn (items_of n s.all (p ∷ [])) e
decl_stands n s k x e (in_expression j w h g) =
    let p : Placed = record { before = s.before; forms = k; decl = x } in
    let r = root_at n (read_expr n s) k j (expressions x) w h in
    record { whole = w; is = subst (IsExpression (items_of n s.all (p ∷ []))) r.2 (root_stands n s k x j r.0 r.1); part = g }
decl_stands n s k x e (in_operand j i y w h g q) = record { whole = w; is = of_form j i y w (get_front (forms_from k (reads_of n s (expressions x))) [] j y h) g; part = q }

-- ---- one declaration

-- the items of two specifications, without forms
abbrev items_joined : TreeSpec → TreeSpec → TreeSpec
items_joined a b = record a {
  externs = a.externs ++ b.externs;
  streams = a.streams ++ b.streams;
  defs = a.defs ++ b.defs;
  triggers = a.triggers ++ b.triggers;
  observers = a.observers ++ b.observers;
}

abbrev with_libs : TreeSpec → List TreeLib → TreeSpec
with_libs x ls = record x { libs = ls }

map_more : {X Y : Type 0} (f : X → Y) (xs ys : List X) → map f (xs ++ ys) ≡ map f xs ++ map f ys
map_more f [] ys = refl
map_more f (x ∷ xs) ys = ap (λ zs. f x ∷ zs) (map_more f xs ys)

-- an arena after a declaration's expressions, with its item
pub adds_one : (n : Numbers) (s : Scope) (old mid new : Arena) (rs : List Root) (x : Decl) → MakesRoots n s old mid rs (expressions x) → new.spec.nodes ≡ mid.spec.nodes → new.forms ≡ mid.forms → new.spec.libs ≡ old.spec.libs
    → ((f : ℕ → Term) → map (tree_root f) rs ≡ roots n s.all (next_of s old x) → items_joined (trees_by f old.spec) (items_of n s.all (next_of s old x ∷ [])) ≡ trees_by f new.spec)
    → Adds n s.all old new (next_of s old x ∷ [])
adds_one n s old mid new rs x m nodes_are forms_are same_libs item_is = record {
  forms = m.forms;
  extends = extends_items m.extends nodes_are forms_are;
  count = let c = m.count in omega (arith, c);
  libs = same_libs;
  trees = λ nodes libs h.
      let f = tree nodes libs in
      ap₂ with_libs (sym (item_is f (m.roots nodes libs (before nodes libs h)))) (libs_are f (m.trees nodes libs (before nodes libs h)));
  parts = λ nodes libs h i o e. ⊎_elim (λ first. inl first) (λ w. inr (decl_stands n s (length old.forms.items) x (tree nodes libs i) w))
      (m.parts nodes libs (before nodes libs h) i o (subst (λ ns. slice_get ns i ≡ Some o) nodes_are e));
}
  where
    before : (nodes : List Node) (libs : List LibItem) → Holds old new m.forms nodes libs → Holds old mid m.forms nodes libs
    before nodes libs h = record { kept = λ i o e. h.kept i o (subst (λ ns. slice_get ns i ≡ Some o) (sym nodes_are) e); stand = h.stand; few = h.few; ordered = h.ordered }

    libs_are : (f : ℕ → Term) → map (form_tree f) m.forms ≡ forms_from (length old.forms.items) (reads_of n s (expressions x))
        → map (form_tree f) new.forms.items ≡ map (form_tree f) old.forms.items ++ (forms_from (length old.forms.items) (reads_of n s (expressions x)) ++ [])
    libs_are f e = ap (λ (v : Vec LibItem). map (form_tree f) v.items) forms_are ∙ ap (map (form_tree f)) m.extends.forms_are ∙ map_more (form_tree f) old.forms.items m.forms
        ∙ ap (λ ls. map (form_tree f) old.forms.items ++ ls) (e ∙ sym (append-nil (forms_from (length old.forms.items) (reads_of n s (expressions x)))))

-- ---- the item of each kind

abbrev tree_stream : (ℕ → Term) → StreamItem → TreeStream
tree_stream f x = record { name = x.name; ty = x.ty; init = x.init; expr = f x.expr; at = x.at }

abbrev tree_def : (ℕ → Term) → DefItem → TreeDef
tree_def f x = record { name = x.name; ty = x.ty; expr = f x.expr; at = x.at }

abbrev tree_trigger : (ℕ → Term) → TriggerItem → TreeTrigger
tree_trigger f x = record { name = x.name; guard = tree_root f x.guard; args = map (tree_root f) x.args }

abbrev tree_observer : (ℕ → Term) → ObserverItem → TreeObserver
tree_observer f x = record { name = x.name; root = tree_root f x.root }

abbrev pub extern_with : List ℕ → Ty → ExternItem
extern_with a t = record { name = a; ty = t }

abbrev pub stream_with : List ℕ → Ty → List ℕ → ℕ → ℕ → StreamItem
stream_with a t ws e i = record { name = a; ty = t; init = ws; expr = e; at = i }

abbrev pub def_with : List ℕ → Ty → ℕ → ℕ → DefItem
def_with a t e i = record { name = a; ty = t; expr = e; at = i }

abbrev trigger_with : List ℕ → TreeRoot → List TreeRoot → TreeTrigger
trigger_with a r rs = record { name = a; guard = r; args = rs }

abbrev observer_with : List ℕ → TreeRoot → TreeObserver
observer_with a r = record { name = a; root = r }

pub struct_joined : (n : Numbers) (s : Scope) (o : SpecValue) (k at : ℕ) (x : NameAt) (fields : List FieldForm) (f : ℕ → Term)
    → items_joined (trees_by f o) (items_of n s.all (record { before = s.before; forms = k; decl = d.Struct at x fields } ∷ [])) ≡ trees_by f o
struct_joined n s o k at x fields f =
    let t = trees_by f o in spec_same t (append-nil t.externs) (append-nil t.streams) (append-nil t.defs) (append-nil t.triggers) (append-nil t.observers) refl

pub extern_joined : (n : Numbers) (s : Scope) (o new : SpecValue) (k at : ℕ) (x : NameAt) (ty : TypeForm) (y : ExternItem) → let p : Placed = record { before = s.before; forms = k; decl = d.Extern at x ty } in
    new ≡ with_item o (item.Extern y) → y ≡ extern_with x.name (written_ty n p ty) → (f : ℕ → Term) → items_joined (trees_by f o) (items_of n s.all (p ∷ [])) ≡ trees_by f new
extern_joined n s o new k at x ty y e g f =
    let t = trees_by f o in
    spec_same t (ap (λ i. o.externs ++ i ∷ []) (sym g)) (append-nil t.streams) (append-nil t.defs) (append-nil t.triggers) (append-nil t.observers) refl ∙ ap (trees_by f) (sym e)

pub stream_joined : (n : Numbers) (s : Scope) (o new : SpecValue) (ns : List Node) (k at : ℕ) (x : NameAt) (ty : TypeForm) (init : List ConstForm) (e : Expr) (r : Root) (y : StreamItem)
    → let p : Placed = record { before = s.before; forms = k; decl = d.Stream at x ty init e } in
    new ≡ with_item (record o { nodes = ns }) (item.Stream y) → y ≡ stream_with x.name (written_ty n p ty) (flat_map const_words init) r.expr r.at
    → (f : ℕ → Term) → map (tree_root f) (r ∷ []) ≡ roots n s.all p → items_joined (trees_by f o) (items_of n s.all (p ∷ [])) ≡ trees_by f new
stream_joined n s o new ns k at x ty init e r y h g f q =
    let p : Placed = record { before = s.before; forms = k; decl = d.Stream at x ty init e } in
    let t = trees_by f o in
    let head : first_root (roots n s.all p) ≡ tree_root f r = ap first_root (sym q) in
    let own : stream_item n p (first_root (roots n s.all p)) (d.Stream at x ty init e) ≡ tree_stream f y ∷ [] =
    ap (λ (z : TreeRoot). stream_item n p z (d.Stream at x ty init e)) head ∙ ap (λ z. tree_stream f z ∷ []) (sym g) in
    spec_same t (append-nil t.externs) (ap (λ zs. t.streams ++ (zs ++ [])) own ∙ sym (map_push (tree_stream f) o.streams y)) (append-nil t.defs) (append-nil t.triggers) (append-nil t.observers) refl
    ∙ ap (trees_by f) (sym h)

pub def_joined : (n : Numbers) (s : Scope) (o new : SpecValue) (ns : List Node) (k at : ℕ) (x : NameAt) (ty : TypeForm) (e : Expr) (r : Root) (y : DefItem)
    → let p : Placed = record { before = s.before; forms = k; decl = d.Def at x ty e } in
    new ≡ with_item (record o { nodes = ns }) (item.Def y) → y ≡ def_with x.name (written_ty n p ty) r.expr at
    → (f : ℕ → Term) → map (tree_root f) (r ∷ []) ≡ roots n s.all p → items_joined (trees_by f o) (items_of n s.all (p ∷ [])) ≡ trees_by f new
def_joined n s o new ns k at x ty e r y h g f q =
    let p : Placed = record { before = s.before; forms = k; decl = d.Def at x ty e } in
    let t = trees_by f o in
    let head : first_root (roots n s.all p) ≡ tree_root f r = ap first_root (sym q) in
    let own : def_item n p (first_root (roots n s.all p)) (d.Def at x ty e) ≡ tree_def f y ∷ [] =
    ap (λ (z : TreeRoot). def_item n p z (d.Def at x ty e)) head ∙ ap (λ z. tree_def f z ∷ []) (sym g) in
    spec_same t (append-nil t.externs) (append-nil t.streams) (ap (λ zs. t.defs ++ (zs ++ [])) own ∙ sym (map_push (tree_def f) o.defs y)) (append-nil t.triggers) (append-nil t.observers) refl
    ∙ ap (trees_by f) (sym h)

pub trigger_joined : (n : Numbers) (s : Scope) (o new : SpecValue) (ns : List Node) (k at : ℕ) (x : NameAt) (guard : Expr) (args : List Expr) (y : TriggerItem)
    → let p : Placed = record { before = s.before; forms = k; decl = d.Trigger at x guard args } in
    new ≡ with_item (record o { nodes = ns }) (item.Trigger y) → y.name ≡ x.name
    → (f : ℕ → Term) → map (tree_root f) (y.guard ∷ y.args) ≡ roots n s.all p → items_joined (trees_by f o) (items_of n s.all (p ∷ [])) ≡ trees_by f new
trigger_joined n s o new ns k at x guard args y h g f q =
    let p : Placed = record { before = s.before; forms = k; decl = d.Trigger at x guard args } in
    let t = trees_by f o in
    let own : trigger_item (roots n s.all p) (d.Trigger at x guard args) ≡ tree_trigger f y ∷ [] =
    ap (λ rs. trigger_item rs (d.Trigger at x guard args)) (sym q) ∙ ap (λ z. trigger_with z (tree_root f y.guard) (map (tree_root f) y.args) ∷ []) (sym g) in
    spec_same t (append-nil t.externs) (append-nil t.streams) (append-nil t.defs) (ap (λ zs. t.triggers ++ (zs ++ [])) own ∙ sym (map_push (tree_trigger f) o.triggers y)) (append-nil t.observers) refl
    ∙ ap (trees_by f) (sym h)

pub observer_joined : (n : Numbers) (s : Scope) (o new : SpecValue) (ns : List Node) (k at : ℕ) (x : NameAt) (e : Expr) (y : ObserverItem)
    → let p : Placed = record { before = s.before; forms = k; decl = d.Observer at x e } in
    new ≡ with_item (record o { nodes = ns }) (item.Observer y) → y.name ≡ x.name
    → (f : ℕ → Term) → map (tree_root f) (y.root ∷ []) ≡ roots n s.all p → items_joined (trees_by f o) (items_of n s.all (p ∷ [])) ≡ trees_by f new
observer_joined n s o new ns k at x e y h g f q =
    let p : Placed = record { before = s.before; forms = k; decl = d.Observer at x e } in
    let t = trees_by f o in
    let own : observer_item (first_root (roots n s.all p)) (d.Observer at x e) ≡ tree_observer f y ∷ [] =
    ap (λ rs. observer_item (first_root rs) (d.Observer at x e)) (sym q) ∙ ap (λ z. observer_with z (tree_root f y.root) ∷ []) (sym g) in
    spec_same t (append-nil t.externs) (append-nil t.streams) (append-nil t.defs) (append-nil t.triggers) (ap (λ zs. t.observers ++ (zs ++ [])) own ∙ sym (map_push (tree_observer f) o.observers y)) refl
    ∙ ap (trees_by f) (sym h)

-- a struct adds nothing
pub adds_struct : (n : Numbers) (s : Scope) (a : Arena) (at : ℕ) (x : NameAt) (fields : List FieldForm) → Adds n s.all a a (next_of s a (d.Struct at x fields) ∷ [])
adds_struct n s a at x fields = adds_one n s a a a [] (d.Struct at x fields) (roots_none n s a) refl refl refl (λ f e. struct_joined n s a.spec (length a.forms.items) at x fields f)
