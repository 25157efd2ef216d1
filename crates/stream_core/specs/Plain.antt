-- Plain expressions and specifications, and the entries of a table that their values read.
use Rattle.std.specs.Prelude.{ℕ, ◌+◌, ◌<◌, ◌≡◌, List, [], ◌∷◌, ◌++◌, map, drop, All}
use Rattle.stream_core.specs.Term.{Term, Terms, lit, extern, stream, def, named, missing, dropped, un, bin, shift, cast, and, or, implies, choose, index, field, array, struct, abs, sign, majority, agreed, lib, end, more, TreeSpec, TreeStream, TreeDef, TreeTrigger, TreeObserver, TreeRoot}
use Rattle.stream_core.specs.Eval.{Moment, Table, entry_at}

abbrev mutual
  -- without forms of the library, sizes, signs and votes
  pub IsPlain : Term → Type 0
  IsPlain (lit s w) = Unit {0}
  IsPlain (extern x) = Unit {0}
  IsPlain (stream s) = Unit {0}
  IsPlain (def d) = Unit {0}
  IsPlain (named d a) = IsPlain a
  IsPlain missing = Unit {0}
  IsPlain (dropped s k) = Unit {0}
  IsPlain (un o s a) = IsPlain a
  IsPlain (bin o s a b) = IsPlain a × IsPlain b
  IsPlain (shift d s a cs c) = IsPlain a × IsPlain c
  IsPlain (cast f t a) = IsPlain a
  IsPlain (and a b) = IsPlain a × IsPlain b
  IsPlain (or a b) = IsPlain a × IsPlain b
  IsPlain (implies a b) = IsPlain a × IsPlain b
  IsPlain (choose c a b) = IsPlain c × IsPlain a × IsPlain b
  IsPlain (index t a i) = IsPlain a × IsPlain i
  IsPlain (field t k a) = IsPlain a
  IsPlain (array t es) = ArePlain es
  IsPlain (struct t es) = ArePlain es
  IsPlain (abs s a) = ⊥
  IsPlain (sign s a) = ⊥
  IsPlain (majority s es) = ⊥
  IsPlain (agreed s es) = ⊥
  IsPlain (lib k form es) = ⊥

  pub ArePlain : Terms → Type 0
  ArePlain end = Unit {0}
  ArePlain (more a es) = IsPlain a × ArePlain es

abbrev pub IsPlainTrigger : TreeTrigger → Type 0
IsPlainTrigger x = IsPlain x.guard.expr × All (λ (r : TreeRoot). IsPlain r.expr) x.args

-- no form of the library is declared, and each expression is plain
pub record IsPlainSpec (s : TreeSpec) : Type 0 where
  pub libs : s.libs ≡ []
  pub streams : All (λ (x : TreeStream). IsPlain x.expr) s.streams
  pub defs : All (λ (x : TreeDef). IsPlain x.expr) s.defs
  pub triggers : All IsPlainTrigger s.triggers
  pub observers : All (λ (x : TreeObserver). IsPlain x.root.expr) s.observers

-- ---- the entries that are read

-- the same step over this table at this time
abbrev pub at_table : Moment → Table → ℕ → Moment
at_table m table t = record m { table = table; time = t }

-- each list from entry t on
abbrev pub lists_from : ℕ → Table → Table
lists_from t table = map (drop t) table

-- below the bound of each list, the entries of the first from t on are those of the second
abbrev pub AgreeFrom : (ℕ → ℕ) → ℕ → Table → Table → Type 0
AgreeFrom bound t first second = (k i : ℕ) → i < bound k → entry_at first k (t + i) ≡ entry_at second k i

-- each list without its oldest entry, and with one more
abbrev pub moved : Table → List (List ℕ) → Table
moved [] ys = []
moved (xs ∷ xss) [] = xs ∷ xss
moved (xs ∷ xss) (y ∷ ys) = (drop 1 xs ++ y ∷ []) ∷ moved xss ys
