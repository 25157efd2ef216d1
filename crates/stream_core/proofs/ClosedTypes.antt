-- A well typed specification without a cycle of defs, its defs written out.
use Rattle.std.proofs.Common.{◌≡◌, ℕ, zero, suc, ◌<◌, ◌≤◌, List, [], ◌∷◌, ◌++◌, length, map, Option, Some, None, refl, ap, ◌∙◌, arith, subst, ◌+◌, Result, Ok, Err}
use Rattle.std.specs.Prelude.{slice_get, slice_index_or, All, IfOk}
use Rattle.std.specs.List.{AllByRecursion}
use Rattle.std.specs.Option.{option_map}
use Rattle.std.proofs.lemmas.Option.{slice_get-map}
use Rattle.std.proofs.lemmas.List.{length-map}
use Rattle.stream_types.specs.declared.scalar.Hazard.{Hazard}
use Rattle.stream_types.specs.declared.scalar.Ty.{Ty}
use Rattle.stream_types.specs.Types.{leaves, AreWords}
use Rattle.stream_core.specs.declared.node.Node.{Node}
use Rattle.stream_core.specs.declared.node.Node.TheVariants as node
use Rattle.stream_core.specs.declared.node.LibForm.{LibForm}
use Rattle.stream_core.specs.declared.spec.StreamItem.{StreamItem}
use Rattle.stream_core.specs.declared.spec.DefItem.{DefItem}
use Rattle.stream_core.specs.declared.spec.LibItem.{LibItem}
use Rattle.stream_core.specs.Value.{SpecValue}
use Rattle.stream_core.specs.Term.{Term, Terms, lit, extern, stream, def, named, missing, dropped, un, bin, shift, cast, and, or, implies, choose, index, field, array, struct, abs, sign, majority, agreed, lib, end, more, TreeSpec, TreeStream, TreeDef, TreeLib, terms_of, lib_of, build, build_at, tree_to, tree, trees, with_defs, all_with_defs, def_at, def_to, written_out, tree_def, defs_of}
use Rattle.stream_core.specs.Limits.{mentions, all_mentions, Ranks}
use Rattle.stream_core.specs.Acyclic.{Acyclic}
use Rattle.stream_core.specs.Signature.{signature_of}
use Rattle.stream_core.specs.WellTyped.{HasType, ListHasTypes, operand_types, IsGoodStream, IsGoodLib, WellTyped}
use Rattle.stream_core.specs.Eval.{Table, lines, moment, place_of, value}
use Rattle.stream_core.specs.Meaning.{IsHistory, closed_spec, table}
use Rattle.stream_core.specs.WrittenOut.{IsFormOf, IsWritten, AreWritten, IsWrittenOut}
use Rattle.stream_core.proofs.Mentioned.{mentioned}
use Rattle.stream_core.proofs.Extended.{out_has, parts_stay, typed_parts}
use Rattle.stream_core.proofs.TypedTables.{IsClosedStream, IsClosedLib, IsClosed, AreLists, line_types, form_operands, list_at, operand_place, lists_typed, value_typed}

-- ---- trees of nodes

abbrev pub Any : ℕ → Type 0
Any d = Unit {0}

module _ (forms : List TreeLib) (nodes : List Node) (libs : List LibItem) (are : (k : ℕ) (x : LibItem) → slice_get libs k ≡ Some x → IsFormOf forms k x.form) where
  abbrev Good : Term → Type 0
  Good e = IsWritten Any forms e

  terms_written : (f : ℕ → Term) → ((i : ℕ) → Good (f i)) → (is : List ℕ) → AreWritten Any forms (terms_of f is)
  terms_written f h [] = tt
  terms_written f h (i ∷ is) = (h i, terms_written f h is)

  lib_written : (f : ℕ → Term) → ((i : ℕ) → Good (f i)) → (k : ℕ) (o : Option LibItem) → slice_get libs k ≡ o → Good (lib_of f k o)
  lib_written f h k None e = tt
  lib_written f h k (Some x) e = (are k x e, terms_written f h x.args)

  build_written : (f : ℕ → Term) → ((i : ℕ) → Good (f i)) → (n : Node) → Good (build libs def f n)
  build_written f h (node.Lit s w) = tt
  build_written f h (node.Extern x) = tt
  build_written f h (node.Stream s) = tt
  build_written f h (node.Def d) = tt
  build_written f h (node.Drop s k) = tt
  build_written f h (node.Un o s a) = h a
  build_written f h (node.Bin o s a b) = (h a, h b)
  build_written f h (node.Shift d s a cs c) = (h a, h c)
  build_written f h (node.Cast g t a) = h a
  build_written f h (node.And a b) = (h a, h b)
  build_written f h (node.Or a b) = (h a, h b)
  build_written f h (node.Implies a b) = (h a, h b)
  build_written f h (node.If c a b) = (h c, h a, h b)
  build_written f h (node.Index t a i) = (h a, h i)
  build_written f h (node.Field t m a) = h a
  build_written f h (node.Array t es) = terms_written f h es
  build_written f h (node.Record t es) = terms_written f h es
  build_written f h (node.Abs s a) = h a
  build_written f h (node.Sign s a) = h a
  build_written f h (node.Majority s es) = terms_written f h es
  build_written f h (node.Agreed s es) = terms_written f h es
  build_written f h (node.Lib k) = lib_written f h k (slice_get libs k) refl

  at_written : (f : ℕ → Term) → ((i : ℕ) → Good (f i)) → (o : Option Node) → Good (build_at libs f o)
  at_written f h None = tt
  at_written f h (Some n) = build_written f h n

  to_written : (depth i : ℕ) → Good (tree_to nodes libs depth i)
  to_written zero i = tt
  to_written (suc depth) i = at_written (tree_to nodes libs depth) (to_written depth) (slice_get nodes i)

  pub tree_written : (i : ℕ) → Good (tree nodes libs i)
  unfolding tree
  tree_written i = to_written (suc i) i

-- ---- the defs of an expression

front : (P : ℕ → Type 0) (a b : List ℕ) → AllByRecursion P (a ++ b) → AllByRecursion P a
front P [] b h = tt
front P (x ∷ a) b h = (h.0, front P a b h.1)

back : (P : ℕ → Type 0) (a b : List ℕ) → AllByRecursion P (a ++ b) → AllByRecursion P b
back P [] b h = h
back P (x ∷ a) b h = back P a b h.1

module _ (P : ℕ → Type 0) (forms : List TreeLib) where
  mutual
    -- the bare defs are among those mentioned
    by_mentions : (e : Term) → AllByRecursion P (mentions e) → IsWritten Any forms e → IsWritten P forms e
    by_mentions (lit s w) h o = tt
    by_mentions (extern x) h o = tt
    by_mentions (stream s) h o = tt
    by_mentions (def d) h o = h.0
    by_mentions (named d a) h o = by_mentions a h o
    by_mentions missing h o = tt
    by_mentions (dropped s k) h o = tt
    by_mentions (un p s a) h o = by_mentions a h o
    by_mentions (bin p s a b) h o = (by_mentions a (front P (mentions a) (mentions b) h) o.0, by_mentions b (back P (mentions a) (mentions b) h) o.1)
    by_mentions (shift d s a cs b) h o = (by_mentions a (front P (mentions a) (mentions b) h) o.0, by_mentions b (back P (mentions a) (mentions b) h) o.1)
    by_mentions (cast f t a) h o = by_mentions a h o
    by_mentions (and a b) h o = (by_mentions a (front P (mentions a) (mentions b) h) o.0, by_mentions b (back P (mentions a) (mentions b) h) o.1)
    by_mentions (or a b) h o = (by_mentions a (front P (mentions a) (mentions b) h) o.0, by_mentions b (back P (mentions a) (mentions b) h) o.1)
    by_mentions (implies a b) h o = (by_mentions a (front P (mentions a) (mentions b) h) o.0, by_mentions b (back P (mentions a) (mentions b) h) o.1)
    by_mentions (choose c a b) h o =
        let rest = back P (mentions c) (mentions a ++ mentions b) h in
        (by_mentions c (front P (mentions c) (mentions a ++ mentions b) h) o.0, by_mentions a (front P (mentions a) (mentions b) rest) o.1, by_mentions b (back P (mentions a) (mentions b) rest) o.2)
    by_mentions (index t a b) h o = (by_mentions a (front P (mentions a) (mentions b) h) o.0, by_mentions b (back P (mentions a) (mentions b) h) o.1)
    by_mentions (field t k a) h o = by_mentions a h o
    by_mentions (array t es) h o = all_by_mentions es h o
    by_mentions (struct t es) h o = all_by_mentions es h o
    by_mentions (abs s a) h o = by_mentions a h o
    by_mentions (sign s a) h o = by_mentions a h o
    by_mentions (majority s es) h o = all_by_mentions es h o
    by_mentions (agreed s es) h o = all_by_mentions es h o
    by_mentions (lib k f es) h o = (o.0, all_by_mentions es h o.1)

    all_by_mentions : (es : Terms) → AllByRecursion P (all_mentions es) → AreWritten Any forms es → AreWritten P forms es
    all_by_mentions end h o = tt
    all_by_mentions (more a es) h o = (by_mentions a (front P (mentions a) (all_mentions es) h) o.0, all_by_mentions es (back P (mentions a) (all_mentions es) h) o.1)

module _ (P : ℕ → Type 0) (forms : List TreeLib) (f : ℕ → Term) (out : (d : ℕ) → P d → IsWrittenOut forms (f d)) where
  mutual
    with_written : (e : Term) → IsWritten P forms e → IsWrittenOut forms (with_defs f e)
    with_written (lit s w) o = tt
    with_written (extern x) o = tt
    with_written (stream s) o = tt
    with_written (def d) o = out d o
    with_written (named d a) o = with_written a o
    with_written missing o = tt
    with_written (dropped s k) o = tt
    with_written (un p s a) o = with_written a o
    with_written (bin p s a b) o = (with_written a o.0, with_written b o.1)
    with_written (shift d s a cs b) o = (with_written a o.0, with_written b o.1)
    with_written (cast g t a) o = with_written a o
    with_written (and a b) o = (with_written a o.0, with_written b o.1)
    with_written (or a b) o = (with_written a o.0, with_written b o.1)
    with_written (implies a b) o = (with_written a o.0, with_written b o.1)
    with_written (choose c a b) o = (with_written c o.0, with_written a o.1, with_written b o.2)
    with_written (index t a b) o = (with_written a o.0, with_written b o.1)
    with_written (field t k a) o = with_written a o
    with_written (array t es) o = all_with_written es o
    with_written (struct t es) o = all_with_written es o
    with_written (abs s a) o = with_written a o
    with_written (sign s a) o = with_written a o
    with_written (majority s es) o = all_with_written es o
    with_written (agreed s es) o = all_with_written es o
    with_written (lib k g es) o = (o.0, all_with_written es o.1)

    all_with_written : (es : Terms) → AreWritten P forms es → AreWritten (λ d. ⊥) forms (all_with_defs f es)
    all_with_written end o = tt
    all_with_written (more a es) o = (with_written a o.0, all_with_written es o.1)

-- a def is written out once so many levels are as its rank
module _ (forms : List TreeLib) (defs : List TreeDef) (rank : ℕ → ℕ) (ranks : Ranks defs rank) (good : (d : ℕ) (x : TreeDef) → slice_get defs d ≡ Some x → IsWritten Any forms x.expr) where
  def_at_written : (n d : ℕ) → ((c : ℕ) → rank c < rank d → IsWrittenOut forms (def_to defs n c)) → (o : Option TreeDef) → slice_get defs d ≡ o → IsWrittenOut forms (def_at (def_to defs n) o)
  def_at_written n d below None e = tt
  def_at_written n d below (Some x) e =
      with_written (λ c. rank c < rank d) forms (def_to defs n) below x.expr (by_mentions (λ c. rank c < rank d) forms x.expr (ranks.falls d x e) (good d x e))

  def_written : (n d : ℕ) → rank d < n → IsWrittenOut forms (def_to defs n d)
  def_written zero d b = absurd (omega (arith, b))
  def_written (suc n) d b = def_at_written n d (λ c less. def_written n c (omega (arith, b, less))) (slice_get defs d) refl

  out_written : (e : Term) → AllByRecursion (λ d. d < length defs) (mentions e) → IsWritten Any forms e → IsWrittenOut forms (written_out defs e)
  out_written e there o =
      with_written (λ d. d < length defs) forms (def_to defs (length defs)) (λ d b. def_written (length defs) d (ranks.below d b)) e
      (by_mentions (λ d. d < length defs) forms e there o)

-- ---- the specification

pub head : {X : Type 0} (P : X → Type 0) (x : X) (xs : List X) → All P (x ∷ xs) → P x
head P x xs h = h 0 x (omega arith)

pub tail : {X : Type 0} (P : X → Type 0) (x : X) (xs : List X) → All P (x ∷ xs) → All P xs
tail P x xs h = λ k d b. h (suc k) d (omega (arith, b))

module _ (s : SpecValue) (w : WellTyped s) (acyclic : Acyclic (defs_of s)) where
  abbrev at : ℕ → Term
  at i = tree s.nodes s.libs i

  abbrev out : Term → Term
  out e = written_out (trees s).defs e

  abbrev whole : TreeSpec
  whole = closed_spec s

  form_there : (k : ℕ) (x : LibItem) → slice_get s.libs k ≡ Some x → IsFormOf whole.libs k x.form
  form_there k x e =
      let first = slice_get-map (λ (y : LibItem). record { form = y.form; args = map at y.args; at = y.at }) s.libs k in
      let second = slice_get-map (λ (y : TreeLib). record y { args = map out y.args }) (trees s).libs k in
      record {
        item = record { form = x.form; args = map out (map at x.args); at = x.at };
        is = second ∙ ap (option_map (λ (y : TreeLib). record y { args = map out y.args })) (first ∙ ap (option_map (λ (y : LibItem). record { form = y.form; args = map at y.args; at = y.at })) e);
        form_is = refl;
      }

  node_written : (i : ℕ) → IsWritten Any whole.libs (at i)
  node_written i = tree_written whole.libs s.nodes s.libs form_there i

  def_expr : (xs : List DefItem) (d : ℕ) (x : TreeDef) → slice_get (map (tree_def at) xs) d ≡ Some x → IsWritten Any whole.libs x.expr
  def_expr [] d x e = absurd (cc)
  def_expr (y ∷ ys) zero x e = let is : tree_def at y ≡ x = cc in subst (λ (z : TreeDef). IsWritten Any whole.libs z.expr) is (node_written y.expr)
  def_expr (y ∷ ys) (suc d) x e = def_expr ys d x e

  there : (i : ℕ) (t : Ty) → HasType (signature_of (trees s)) (at i) t → AllByRecursion (λ d. d < length (trees s).defs) (mentions (at i))
  there i t h =
      subst (λ n. AllByRecursion (λ d. d < n) (mentions (at i))) (length-map (trees s).defs (λ (x : TreeDef). x.ty)) (mentioned (signature_of (trees s)) (at i) t h)

  -- a typed node, its defs written out
  pub node_out : (i : ℕ) (t : Ty) → HasType (signature_of (trees s)) (at i) t → IsWrittenOut whole.libs (out (at i))
  node_out i t h = out_written whole.libs (trees s).defs acyclic.rank acyclic.ranks (def_expr s.defs) (at i) (there i t h) (node_written i)

  abbrev stream_tree : StreamItem → TreeStream
  stream_tree x = record { name = x.name; ty = x.ty; init = x.init; expr = at x.expr; at = x.at }

  abbrev stream_out : TreeStream → TreeStream
  stream_out x = record x { expr = out x.expr }

  closed_streams : (xs : List StreamItem) → All (IsGoodStream (signature_of (trees s))) (map stream_tree xs) → All (IsGoodStream (signature_of whole)) (map stream_out (map stream_tree xs)) → AllByRecursion (IsClosedStream whole) (map stream_out (map stream_tree xs))
  closed_streams [] h g = tt
  closed_streams (x ∷ xs) h g =
      let old = head (IsGoodStream (signature_of (trees s))) (stream_tree x) (map stream_tree xs) h in
      let new = head (IsGoodStream (signature_of whole)) (stream_out (stream_tree x)) (map stream_out (map stream_tree xs)) g in
      let some = new.initial.some in (
        record { expr = new.expr; written = node_out x.expr x.ty old.expr; some = omega (arith, some); values = new.initial.values },
        closed_streams xs (tail (IsGoodStream (signature_of (trees s))) (stream_tree x) (map stream_tree xs) h) (tail (IsGoodStream (signature_of whole)) (stream_out (stream_tree x)) (map stream_out (map stream_tree xs)) g),
      )

  args_out : (is : List ℕ) (ts : List Ty) → ListHasTypes (signature_of (trees s)) (map at is) ts → AllByRecursion (IsWrittenOut whole.libs) (map out (map at is))
  args_out [] ts h = tt
  args_out (i ∷ is) [] h = absurd h
  args_out (i ∷ is) (t ∷ ts) h = (node_out i t h.0, args_out is ts h.1)

  abbrev lib_tree : LibItem → TreeLib
  lib_tree x = record { form = x.form; args = map at x.args; at = x.at }

  abbrev lib_out : TreeLib → TreeLib
  lib_out x = record x { args = map out x.args }

  closed_libs : (xs : List LibItem) → All (IsGoodLib (signature_of (trees s))) (map lib_tree xs) → All (IsGoodLib (signature_of whole)) (map lib_out (map lib_tree xs)) → AllByRecursion (IsClosedLib whole) (map lib_out (map lib_tree xs))
  closed_libs [] h g = tt
  closed_libs (x ∷ xs) h g =
      let old = head (IsGoodLib (signature_of (trees s))) (lib_tree x) (map lib_tree xs) h in
      let new = head (IsGoodLib (signature_of whole)) (lib_out (lib_tree x)) (map lib_out (map lib_tree xs)) g in (
        record { args = new.args; written = args_out x.args (operand_types x.form) old.args },
        closed_libs xs (tail (IsGoodLib (signature_of (trees s))) (lib_tree x) (map lib_tree xs) h) (tail (IsGoodLib (signature_of whole)) (lib_out (lib_tree x)) (map lib_out (map lib_tree xs)) g),
      )

  pub closed_is_typed : IsClosed whole
  closed_is_typed =
      let parts = parts_stay (trees s) (typed_parts s w) in
      record { types = w.types; streams = closed_streams s.streams w.streams parts.streams; libs = closed_libs s.libs w.libs parts.libs }

  -- what is known of an answer that is given
  known : {A : Type 0} (P : A → Type 0) (r : Result A Hazard) (x : A) → IfOk r P → r ≡ Ok x → P x
  known P (Ok y) x h e = let is : y ≡ x = cc in subst P is h
  known P (Err f) x h e = absurd (cc)

  module _ (h : List (List ℕ)) (history : IsHistory s h) (n : ℕ) (T : Table) (is : table s h n ≡ Ok T) where
    table_lists : n ≤ length h → AreLists s.types n (lines whole) (line_types whole) T
    table_lists b = known (AreLists s.types n (lines whole) (line_types whole)) (table s h n) T (lists_typed whole closed_is_typed h history n b) is

    pub expression_words : n < length h → (e : Term) (t : Ty) (v : List ℕ) → IsWrittenOut whole.libs e → HasType (signature_of whole) e t → value (moment whole T h n) e ≡ Ok v → AreWords (leaves s.types t) v
    expression_words b e t v o g f =
        known (AreWords (leaves s.types t)) (value (moment whole T h n) e) v (value_typed whole closed_is_typed h history n b T (table_lists (omega (arith, b))) e t g o) f

    pub node_words : n < length h → (i : ℕ) (t : Ty) (v : List ℕ) → HasType (signature_of (trees s)) (at i) t → value (moment whole T h n) (out (at i)) ≡ Ok v → AreWords (leaves s.types t) v
    node_words b i t v g f = expression_words b (out (at i)) t v (node_out i t g) (out_has (trees s) w.defs (at i) t g) f

    stream_at : (xs : List StreamItem) (us : List Ty) (k : ℕ) (x : StreamItem) → slice_get xs k ≡ Some x → slice_get (map (λ (y : TreeStream). y.ty) (map stream_out (map stream_tree xs)) ++ us) k ≡ Some x.ty
    stream_at [] us k x e = absurd (cc)
    stream_at (y ∷ ys) us zero x e = let q : y ≡ x = cc in ap (λ (z : StreamItem). Some z.ty) q
    stream_at (y ∷ ys) us (suc k) x e = stream_at ys us k x e

    pub stream_words : n ≤ length h → (k : ℕ) (x : StreamItem) → slice_get s.streams k ≡ Some x → AllByRecursion (AreWords (leaves s.types x.ty)) (slice_index_or T k [])
    stream_words b k x e = (list_at s.types n (lines whole) (line_types whole) T k x.ty (table_lists b) (stream_at s.streams (form_operands whole.libs) k x e)).1

    length_streams : (xs : List StreamItem) → length (map (λ (y : TreeStream). y.ty) (map stream_out (map stream_tree xs))) ≡ length xs
    length_streams [] = refl
    length_streams (x ∷ xs) = ap suc (length_streams xs)

    pub operand_words : n ≤ length h → (k j : ℕ) (x : LibItem) (t : Ty) → slice_get s.libs k ≡ Some x → slice_get (operand_types x.form) j ≡ Some t → AllByRecursion (AreWords (leaves s.types t)) (slice_index_or T (place_of (length s.streams) whole.libs k + j) [])
    operand_words b k j x t e f =
        let form = form_there k x e in
        let place = operand_place whole whole.libs closed_is_typed.libs (map (λ (y : TreeStream). y.ty) whole.streams) (length s.streams) k j form.item t (length_streams s.streams) form.is (ap (λ (g : LibForm). slice_get (operand_types g) j) form.form_is ∙ f) in
        (list_at s.types n (lines whole) (line_types whole) T (place_of (length s.streams) whole.libs k + j) t (table_lists b) place).1
