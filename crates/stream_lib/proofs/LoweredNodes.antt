-- A node over new numbers has the lowered tree.
use Rattle.std.proofs.Common.{◌≡◌, ℕ, zero, suc, ◌<◌, ◌+◌, List, [], ◌∷◌, ◌++◌, length, map, Bool, true, false, refl, sym, ap, ◌∙◌, subst, arith}
use Rattle.std.specs.Prelude.{slice_get, Option, Some, nat_lt}
use Rattle.std.proofs.lemmas.Bool.Decides.{nat_tests}
use Rattle.std.specs.List.{AllByRecursion}
use Rattle.stream_core.specs.declared.node.Node.{Node}
use Rattle.stream_core.specs.declared.node.Node.TheVariants as node
use Rattle.stream_core.specs.declared.spec.LibItem.{LibItem}
use Rattle.stream_core.specs.Value.{SpecValue}
use Rattle.stream_core.specs.Ordered.{all_parts}
use Rattle.stream_core.specs.Parts.{parts}
use Rattle.stream_core.specs.Term.{Term, array, struct, build, def, lib_of, terms_of, tree}
use Rattle.stream_core.specs.Lower.{agreed_term, form_term, lowered, lowered_all, lowered_terms, majority_term}
use Rattle.stream_lib.specs.Built.{AreThere, Makes, tree_at, trees_at}
use Rattle.stream_lib.specs.Renamed.{AreLowered, new_of, plain_node, renamed, starts_of}

abbrev pub IsNoForm : Node → Type 0
IsNoForm (node.Lib k) = ⊥
IsNoForm n = Unit {0}

module _ (at f : ℕ → ℕ) (t T : ℕ → Term) where
  abbrev Agree : List ℕ → Type 0
  Agree is = AllByRecursion (λ j. t (f j) ≡ lowered at (T j)) is

  pub all_lowered : (is : List ℕ) → Agree is → map t (map f is) ≡ lowered_all at (terms_of T is)
  all_lowered [] h = refl
  all_lowered (i ∷ is) h = let a = h.0 in let r = all_lowered is h.1 in cc

  terms_lowered : (is : List ℕ) → Agree is → terms_of t (map f is) ≡ lowered_terms at (terms_of T is)
  terms_lowered [] h = refl
  terms_lowered (i ∷ is) h = let a = h.0 in let r = terms_lowered is h.1 in cc

  pub node_lowered : (libs : List LibItem) (n : Node) → IsNoForm n → Agree (parts n) → plain_node t (renamed f n) ≡ lowered at (build libs def T n)
  node_lowered libs (node.Lit s w) known h = refl
  node_lowered libs (node.Extern x) known h = refl
  node_lowered libs (node.Stream s) known h = refl
  node_lowered libs (node.Def d) known h = refl
  node_lowered libs (node.Drop s k) known h = refl
  node_lowered libs (node.Un o s a) known h = let p = h.0 in cc
  node_lowered libs (node.Bin o s a b) known h = let p = h.0 in let q = h.1.0 in cc
  node_lowered libs (node.Shift d s a cs c) known h = let p = h.0 in let q = h.1.0 in cc
  node_lowered libs (node.Cast x y a) known h = let p = h.0 in cc
  node_lowered libs (node.And a b) known h = let p = h.0 in let q = h.1.0 in cc
  node_lowered libs (node.Or a b) known h = let p = h.0 in let q = h.1.0 in cc
  node_lowered libs (node.Implies a b) known h = let p = h.0 in let q = h.1.0 in cc
  node_lowered libs (node.If c a b) known h = let p = h.0 in let q = h.1.0 in let r = h.1.1.0 in cc
  node_lowered libs (node.Index x a i) known h = let p = h.0 in let q = h.1.0 in cc
  node_lowered libs (node.Field x m a) known h = let p = h.0 in cc
  node_lowered libs (node.Array x es) known h = ap (array x) (terms_lowered es h)
  node_lowered libs (node.Record x es) known h = ap (struct x) (terms_lowered es h)
  node_lowered libs (node.Abs s a) known h = let p = h.0 in cc
  node_lowered libs (node.Sign s a) known h = let p = h.0 in cc
  node_lowered libs (node.Majority s es) known h = ap (majority_term s) (all_lowered es h)
  node_lowered libs (node.Agreed s es) known h = ap (agreed_term s) (all_lowered es h)
  node_lowered libs (node.Lib k) known h = absurd known

-- the new numbers of earlier nodes have their lowered trees, and are there
pub agree_below : (source s : SpecValue) (news is : List ℕ) → AreLowered source s news → AllByRecursion (λ j. j < length news) is
    → AllByRecursion (λ j. tree_at s (new_of news j) ≡ lowered (starts_of source) (tree source.nodes source.libs j)) is
agree_below source s news [] h below = tt
agree_below source s news (i ∷ is) h below = ((h i below.0).1, agree_below source s news is h below.1)

pub new_there : (source s : SpecValue) (news is : List ℕ) → AreLowered source s news → AllByRecursion (λ j. j < length news) is → AreThere s (map (new_of news) is)
new_there source s news [] h below = tt
new_there source s news (i ∷ is) h below = ((h i below.0).0, new_there source s news is h below.1)

pub form_lowered : (source s : SpecValue) (news : List ℕ) (k b : ℕ) (item : LibItem) → AreLowered source s news → slice_get source.libs k ≡ Some item → b ≡ starts_of source k
    → AllByRecursion (λ j. j < length news) item.args
    → form_term item.form b (trees_at s (map (new_of news) item.args)) ≡ lowered (starts_of source) (lib_of (tree source.nodes source.libs) k (slice_get source.libs k))
form_lowered source s news k b item h is start below =
    ap (λ c. form_term item.form c (trees_at s (map (new_of news) item.args))) start
    ∙ ap (form_term item.form (starts_of source k)) (all_lowered (starts_of source) (new_of news) (tree_at s) (tree source.nodes source.libs) item.args (agree_below source s news item.args h below))
    ∙ ap (λ (o : Option LibItem). lowered (starts_of source) (lib_of (tree source.nodes source.libs) k o)) (sym is)

-- the parts of a node over new numbers are there
pub parts_there : (source s : SpecValue) (news : List ℕ) (n : Node) → AreLowered source s news → AllByRecursion (λ j. j < length news) (parts n) → AreThere s (parts (renamed (new_of news) n))
parts_there source s news (node.Lit c w) h below = tt
parts_there source s news (node.Extern x) h below = tt
parts_there source s news (node.Stream x) h below = tt
parts_there source s news (node.Def d) h below = tt
parts_there source s news (node.Drop x k) h below = tt
parts_there source s news (node.Un o c a) h below = new_there source s news (a ∷ []) h below
parts_there source s news (node.Bin o c a b) h below = new_there source s news (a ∷ b ∷ []) h below
parts_there source s news (node.Shift d c a cs b) h below = new_there source s news (a ∷ b ∷ []) h below
parts_there source s news (node.Cast x y a) h below = new_there source s news (a ∷ []) h below
parts_there source s news (node.And a b) h below = new_there source s news (a ∷ b ∷ []) h below
parts_there source s news (node.Or a b) h below = new_there source s news (a ∷ b ∷ []) h below
parts_there source s news (node.Implies a b) h below = new_there source s news (a ∷ b ∷ []) h below
parts_there source s news (node.If c a b) h below = new_there source s news (c ∷ a ∷ b ∷ []) h below
parts_there source s news (node.Index x a i) h below = new_there source s news (a ∷ i ∷ []) h below
parts_there source s news (node.Field x m a) h below = new_there source s news (a ∷ []) h below
parts_there source s news (node.Array x es) h below = new_there source s news es h below
parts_there source s news (node.Record x es) h below = new_there source s news es h below
parts_there source s news (node.Abs c a) h below = new_there source s news (a ∷ []) h below
parts_there source s news (node.Sign c a) h below = new_there source s news (a ∷ []) h below
parts_there source s news (node.Majority c es) h below = new_there source s news es h below
parts_there source s news (node.Agreed c es) h below = new_there source s news es h below
parts_there source s news (node.Lib k) h below = tt

no_form : (n : Node) → ((k : ℕ) → n ≡ node.Lib k → ⊥) → IsNoForm n
no_form (node.Lit c w) other = tt
no_form (node.Extern x) other = tt
no_form (node.Stream x) other = tt
no_form (node.Def d) other = tt
no_form (node.Drop x k) other = tt
no_form (node.Un o c a) other = tt
no_form (node.Bin o c a b) other = tt
no_form (node.Shift d c a cs b) other = tt
no_form (node.Cast x y a) other = tt
no_form (node.And a b) other = tt
no_form (node.Or a b) other = tt
no_form (node.Implies a b) other = tt
no_form (node.If c a b) other = tt
no_form (node.Index x a i) other = tt
no_form (node.Field x m a) other = tt
no_form (node.Array x es) other = tt
no_form (node.Record x es) other = tt
no_form (node.Abs c a) other = tt
no_form (node.Sign c a) other = tt
no_form (node.Majority c es) other = tt
no_form (node.Agreed c es) other = tt
no_form (node.Lib k) other = absurd (other k refl)

parts_all : (libs : List LibItem) (n : Node) → IsNoForm n → all_parts libs n ≡ parts n
parts_all libs (node.Lit c w) known = refl
parts_all libs (node.Extern x) known = refl
parts_all libs (node.Stream x) known = refl
parts_all libs (node.Def d) known = refl
parts_all libs (node.Drop x k) known = refl
parts_all libs (node.Un o c a) known = refl
parts_all libs (node.Bin o c a b) known = refl
parts_all libs (node.Shift d c a cs b) known = refl
parts_all libs (node.Cast x y a) known = refl
parts_all libs (node.And a b) known = refl
parts_all libs (node.Or a b) known = refl
parts_all libs (node.Implies a b) known = refl
parts_all libs (node.If c a b) known = refl
parts_all libs (node.Index x a i) known = refl
parts_all libs (node.Field x m a) known = refl
parts_all libs (node.Array x es) known = refl
parts_all libs (node.Record x es) known = refl
parts_all libs (node.Abs c a) known = refl
parts_all libs (node.Sign c a) known = refl
parts_all libs (node.Majority c es) known = refl
parts_all libs (node.Agreed c es) known = refl
parts_all libs (node.Lib k) known = absurd known

pub plain_lowered : (source s : SpecValue) (news : List ℕ) (n : Node) (i : ℕ) (e : Term) → AreLowered source s news → ((k : ℕ) → n ≡ node.Lib k → ⊥) → i ≡ length news → AllByRecursion (λ j. j < i) (all_parts source.libs n)
    → e ≡ build source.libs def (tree source.nodes source.libs) n → plain_node (tree_at s) (renamed (new_of news) n) ≡ lowered (starts_of source) e
plain_lowered source s news n i e h other last below is =
    let known = no_form n other in
    let parts_below : AllByRecursion (λ j. j < length news) (parts n) = subst (λ k. AllByRecursion (λ j. j < k) (parts n)) last (subst (AllByRecursion (λ j. j < i)) (parts_all source.libs n known) below) in
    node_lowered (starts_of source) (new_of news) (tree_at s) (tree source.nodes source.libs) source.libs n known (agree_below source s news (parts n) h parts_below)
    ∙ ap (lowered (starts_of source)) (sym is)

-- one node more is lowered
get_old : (xs : List ℕ) (x j : ℕ) → j < length xs → new_of (xs ++ x ∷ []) j ≡ new_of xs j
get_old [] x j h = absurd (omega (arith, h))
get_old (y ∷ ys) x zero h = refl
get_old (y ∷ ys) x (suc j) h = get_old ys x j (omega (arith, h))

get_last : (xs : List ℕ) (x : ℕ) → new_of (xs ++ x ∷ []) (length xs) ≡ x
get_last [] x = refl
get_last (y ∷ ys) x = get_last ys x

pub length_more : (xs : List ℕ) (x : ℕ) → length (xs ++ x ∷ []) ≡ length xs + 1
length_more [] x = refl
length_more (y ∷ ys) x = let r = length_more ys x in omega (arith, r)

pub lowered_more : (source s t : SpecValue) (news : List ℕ) (id : ℕ) → AreLowered source s news
    → Makes s t id (lowered (starts_of source) (tree source.nodes source.libs (length news))) → AreLowered source t (news ++ id ∷ [])
lowered_more source s t news id h m j within = by (nat_lt j (length news)) refl
  where
    by : (b : Bool) → nat_lt j (length news) ≡ b → (new_of (news ++ id ∷ []) j < length t.nodes) × (tree_at t (new_of (news ++ id ∷ []) j) ≡ lowered (starts_of source) (tree source.nodes source.libs j))
    by true e =
        let below : j < length news = grind (arith, nat_tests, e) in
        let old = h j below in
        let size = m.grows.size in
        let at = get_old news id j below in
        (rw at (let b = old.0 in omega (arith, b, size)), rw at (m.grows.trees (new_of news j) old.0 ∙ old.1))
    by false e =
        let n = length_more news id in
        let last : j ≡ length news = grind (arith, nat_tests, e, within, n) in
        let at : new_of (news ++ id ∷ []) j ≡ id = ap (new_of (news ++ id ∷ [])) last ∙ get_last news id in
        (rw at m.there, rw at (m.is ∙ ap (λ k. lowered (starts_of source) (tree source.nodes source.libs k)) (sym last)))
