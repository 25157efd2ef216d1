-- The tree of a node with the defs written out.
use Rattle.std.proofs.Common.{◌≡◌, ℕ, zero, suc, ◌<◌, List, [], ◌∷◌, length, Option, Some, None, refl, sym, ap, ◌∙◌, arith}
use Rattle.std.specs.Prelude.{slice_get, map}
use Rattle.stream_core.specs.declared.node.Node.{Node}
use Rattle.stream_core.specs.declared.node.Node.TheVariants as node
use Rattle.stream_core.specs.declared.spec.DefItem.{DefItem}
use Rattle.stream_core.specs.declared.spec.LibItem.{LibItem}
use Rattle.stream_core.specs.Value.{SpecValue}
use Rattle.stream_core.specs.Ordered.{Ordered, DefsThere}
use Rattle.stream_core.specs.Acyclic.{Acyclic}
use Rattle.stream_core.specs.Term.{Term, def, named, lib, array, struct, majority, agreed, terms_of, lib_of, build, tree, with_defs, all_with_defs, def_to, written_out, tree_def, defs_of, closed, closed_def, expr_at}
use Rattle.stream_core.proofs.Trees.{tree_of}
use Rattle.stream_core.proofs.Defs.{def_is}

terms_with : (f tree : ℕ → Term) (is : List ℕ) → all_with_defs f (terms_of tree is) ≡ terms_of (λ j. with_defs f (tree j)) is
terms_with f tree [] = refl
terms_with f tree (i ∷ is) = let h = terms_with f tree is in cc

lib_with : (f tree : ℕ → Term) (k : ℕ) (o : Option LibItem) → with_defs f (lib_of tree k o) ≡ lib_of (λ j. with_defs f (tree j)) k o
lib_with f tree k None = refl
lib_with f tree k (Some item) = ap (lib k item.form) (terms_with f tree item.args)

build_with : (libs : List LibItem) (f tree : ℕ → Term) (n : Node) → with_defs f (build libs def tree n) ≡ build libs (λ d. named d (f d)) (λ j. with_defs f (tree j)) n
build_with libs f tree (node.Lit s w) = refl
build_with libs f tree (node.Extern x) = refl
build_with libs f tree (node.Stream s) = refl
build_with libs f tree (node.Drop s k) = refl
build_with libs f tree (node.Un o s a) = refl
build_with libs f tree (node.Bin o s a b) = refl
build_with libs f tree (node.Shift d s a cs c) = refl
build_with libs f tree (node.Cast x t a) = refl
build_with libs f tree (node.And a b) = refl
build_with libs f tree (node.Or a b) = refl
build_with libs f tree (node.Implies a b) = refl
build_with libs f tree (node.If c a b) = refl
build_with libs f tree (node.Index t a i) = refl
build_with libs f tree (node.Field t m a) = refl
build_with libs f tree (node.Abs s a) = refl
build_with libs f tree (node.Sign s a) = refl
build_with libs f tree (node.Def d) = refl
build_with libs f tree (node.Array t es) = ap (array t) (terms_with f tree es)
build_with libs f tree (node.Record t es) = ap (struct t) (terms_with f tree es)
build_with libs f tree (node.Majority s es) = ap (majority s) (terms_with f tree es)
build_with libs f tree (node.Agreed s es) = ap (agreed s) (terms_with f tree es)
build_with libs f tree (node.Lib k) = lib_with f tree k (slice_get libs k)

def_within : (defs : List DefItem) (d : ℕ) → d < length defs → (x : DefItem) × (slice_get defs d ≡ Some x)
def_within [] d h = absurd (omega (arith, h))
def_within (x ∷ xs) zero h = (x, refl)
def_within (x ∷ xs) (suc d) h = def_within xs d (omega (arith, h))

mapped : (tree : ℕ → Term) (defs : List DefItem) (d : ℕ) (x : DefItem) → slice_get defs d ≡ Some x → slice_get (map (tree_def tree) defs) d ≡ Some (tree_def tree x)
mapped tree [] d x h = absurd (cc)
mapped tree (y ∷ ys) zero x h = ap (λ o. elim o [ None ↦ None | Some z ↦ Some (tree_def tree z) ]) h
mapped tree (y ∷ ys) (suc d) x h = mapped tree ys d x h

-- the def's own tree, written out
out_is : (s : SpecValue) (d : ℕ) → Acyclic (defs_of s) → d < length s.defs → written_out (defs_of s) (def d) ≡ closed_def s d
unfolding closed
out_is s d acyclic there =
    let found = def_within s.defs d there in
    let x = found.0 in
    let e : slice_get s.defs d ≡ Some x = found.1 in
    let is = def_is (defs_of s) acyclic.rank acyclic.ranks d (tree_def (tree s.nodes s.libs) x) (mapped (tree s.nodes s.libs) s.defs d x e) in
    is ∙ ap (λ o. named d (written_out (defs_of s) (tree s.nodes s.libs (expr_at o)))) (sym e)

-- the def of a node, or the same for any other node
at_def_is : (s : SpecValue) (f g tree : ℕ → Term) (n : Node) → ((d : ℕ) → d < length s.defs → f d ≡ g d) → DefsThere s.defs n → build s.libs f tree n ≡ build s.libs g tree n
at_def_is s f g tree (node.Def d) h there = h d there
at_def_is s f g tree _ h there = refl

pub closed_is : (s : SpecValue) (i : ℕ) (n : Node) → Ordered s.nodes s.libs → Acyclic (defs_of s) → DefsThere s.defs n → slice_get s.nodes i ≡ Some n → closed s i ≡ build s.libs (closed_def s) (closed s) n
unfolding closed
closed_is s i n ordered acyclic there e =
    let f = def_to (defs_of s) (length (defs_of s)) in
    ap (with_defs f) (tree_of s.nodes s.libs ordered i n e)
    ∙ build_with s.libs f (tree s.nodes s.libs) n
    ∙ at_def_is s (λ d. named d (f d)) (closed_def s) (λ j. with_defs f (tree s.nodes s.libs j)) n (λ d h. out_is s d acyclic h) there
