-- Ranks leave no cycle, and a well typed specification with ranks has the trees that its nodes need.
use Rattle.std.proofs.Common.{◌≡◌, ⊎_elim, ℕ, zero, suc, ◌<◌, ◌≤◌, List, [], ◌∷◌, length, Some, ap, ◌∙◌, subst, arith}
use Rattle.std.specs.Prelude.{slice_get, slice_index_or, Contains}
use Rattle.std.specs.List.{AllByRecursion}
use Rattle.std.specs.Option.{option_map}
use Rattle.std.proofs.lemmas.Bool.{cases_lt}
use Rattle.std.proofs.lemmas.Option.{slice_get-map, slice_get_past, slice_get_within, get_or_from_slice_get}
use Rattle.std.proofs.lemmas.List.{length-map}
use Rattle.stream_types.specs.declared.scalar.Ty.{Ty}
use Rattle.stream_core.specs.declared.node.Node.{Node}
use Rattle.stream_core.specs.declared.node.Node.TheVariants as node
use Rattle.stream_core.specs.declared.spec.DefItem.{DefItem}
use Rattle.stream_core.specs.Value.{SpecValue}
use Rattle.stream_core.specs.Ordered.{DefsThere}
use Rattle.stream_core.specs.Term.{TreeDef, missing, build_at, tree, trees, tree_def, defs_of}
use Rattle.stream_core.specs.Limits.{Mentions, Leads, Ranks, mentions}
use Rattle.stream_core.specs.Acyclic.{Acyclic, WellFounded}
use Rattle.stream_core.specs.Soundness.{HasNoCycle}
use Rattle.stream_core.specs.Signature.{def_types, signature_of}
use Rattle.stream_core.specs.WellTyped.{HasType, IsGoodDef, WellTyped}
use Rattle.stream_core.proofs.Trees.{tree_is, tree_of}

each_at : (P : ℕ → Type 0) (xs : List ℕ) → AllByRecursion P xs → (k d : ℕ) → k < length xs → P (slice_index_or xs k d)
each_at P [] all k d b = absurd (omega (arith, b))
each_at P (x ∷ xs) all zero d b = all.0
each_at P (x ∷ xs) all (suc k) d b = each_at P xs all.1 k d (omega (arith, b))

pub each_in : (P : ℕ → Type 0) (xs : List ℕ) (x : ℕ) → AllByRecursion P xs → Contains xs x → P x
each_in P xs x all c = subst P c.2 (each_at P xs all c.0 x c.1)

module _ (defs : List TreeDef) (rank : ℕ → ℕ) (ranks : Ranks defs rank) where
  mention_falls : (a b : ℕ) → Mentions defs a b → rank b < rank a
  mention_falls a b m = each_in (λ c. rank c < rank a) (mentions m.from.expr) b (ranks.falls a m.from m.is) m.to

  walk_falls : (n a b : ℕ) → Leads defs n a b → rank b < rank a
  walk_falls zero a b l = mention_falls a b l
  walk_falls (suc n) a b l = let p = mention_falls a l.0 l.1 in let q = walk_falls n l.0 b l.2 in omega (arith, p, q)

pub no_cycle : (defs : List TreeDef) → Acyclic defs → HasNoCycle defs
no_cycle defs acyclic d way = let p = walk_falls defs acyclic.rank acyclic.ranks way.0 d d way.1 in absurd (omega (arith, p))

-- ---- well typed

-- a tree with a type is a node's
pub node_there : (s : SpecValue) (i : ℕ) (t : Ty) → WellTyped s → HasType (signature_of (trees s)) (tree s.nodes s.libs i) t → i < length s.nodes
node_there s i t w has = ⊎_elim (λ b. b) past (cases_lt i (length s.nodes))
  where
    past : length s.nodes ≤ i → i < length s.nodes
    past le =
        let is : tree s.nodes s.libs i ≡ missing = tree_is s.nodes s.libs w.ordered i ∙ ap (build_at s.libs (tree s.nodes s.libs)) (slice_get_past s.nodes i le) in
        absurd (subst (λ e. HasType (signature_of (trees s)) e t) is has)

pub exprs_there : (s : SpecValue) → WellTyped s → (d : ℕ) (x : DefItem) → slice_get s.defs d ≡ Some x → x.expr < length s.nodes
exprs_there s w d x e =
    let trees_at : slice_get (trees s).defs d ≡ Some (tree_def (tree s.nodes s.libs) x) = slice_get-map (tree_def (tree s.nodes s.libs)) s.defs d ∙ ap (option_map (tree_def (tree s.nodes s.libs))) e in
    let y = tree_def (tree s.nodes s.libs) x in
    let good : IsGoodDef (signature_of (trees s)) y = subst (IsGoodDef (signature_of (trees s))) (get_or_from_slice_get (trees s).defs d y y trees_at) (w.defs d y (slice_get_within (trees s).defs d y trees_at)) in
    node_there s x.expr x.ty w good.expr

pub defs_there : (s : SpecValue) → WellTyped s → (i : ℕ) (n : Node) → slice_get s.nodes i ≡ Some n → DefsThere s.defs n
defs_there s w i (node.Def d) e =
    let typed = w.nodes i (slice_get_within s.nodes i (node.Def d) e) in
    let has = subst (λ t. HasType (signature_of (trees s)) t typed.0) (tree_of s.nodes s.libs w.ordered i (node.Def d) e) typed.1 in
    let b = slice_get_within (def_types (trees s).defs) d typed.0 has in
    let l : length (trees s).defs ≡ length s.defs = length-map s.defs (tree_def (tree s.nodes s.libs)) in
    let m : length (def_types (trees s).defs) ≡ length (trees s).defs = length-map (trees s).defs (λ (x : TreeDef). x.ty) in
    omega (arith, b, l, m)
defs_there s w i _ e = tt

pub well_founded : (s : SpecValue) → WellTyped s → Acyclic (defs_of s) → WellFounded s
well_founded s w acyclic = record { ordered = w.ordered; acyclic = acyclic; named = defs_there s w; exprs = exprs_there s w }
