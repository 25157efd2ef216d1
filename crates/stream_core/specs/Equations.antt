-- The equations of the streams' values, which have one solution.
use Rattle.std.specs.Prelude.{ℕ, ◌+◌, ◌<◌, ◌≡◌, List, [], ◌∷◌, ◌++◌, length, take, slice_index_or, Ok}
use Rattle.std.specs.List.{AllByRecursion}
use Rattle.stream_core.specs.Term.{Term, Terms, lit, extern, stream, def, named, missing, dropped, un, bin, shift, cast, and, or, implies, choose, index, field, array, struct, abs, sign, majority, agreed, lib, end, more, TreeSpec}
use Rattle.stream_core.specs.Eval.{Table, Line, lines, value, moment}

abbrev mutual
  -- each stream that is read is read within its bound
  pub ReadsWithin : (ℕ → ℕ) → Term → Type 0
  ReadsWithin bound (lit s w) = Unit {0}
  ReadsWithin bound (extern x) = Unit {0}
  ReadsWithin bound (def d) = Unit {0}
  ReadsWithin bound (missing) = Unit {0}
  ReadsWithin bound (stream s) = 0 < bound s
  ReadsWithin bound (dropped s k) = k < bound s
  ReadsWithin bound (un o s a) = ReadsWithin bound a
  ReadsWithin bound (cast x t a) = ReadsWithin bound a
  ReadsWithin bound (field t k a) = ReadsWithin bound a
  ReadsWithin bound (abs s a) = ReadsWithin bound a
  ReadsWithin bound (sign s a) = ReadsWithin bound a
  ReadsWithin bound (named d a) = ReadsWithin bound a
  ReadsWithin bound (bin o s a b) = ReadsWithin bound a × ReadsWithin bound b
  ReadsWithin bound (shift w s a cs b) = ReadsWithin bound a × ReadsWithin bound b
  ReadsWithin bound (and a b) = ReadsWithin bound a × ReadsWithin bound b
  ReadsWithin bound (or a b) = ReadsWithin bound a × ReadsWithin bound b
  ReadsWithin bound (implies a b) = ReadsWithin bound a × ReadsWithin bound b
  ReadsWithin bound (index t a b) = ReadsWithin bound a × ReadsWithin bound b
  ReadsWithin bound (choose c a b) = ReadsWithin bound c × ReadsWithin bound a × ReadsWithin bound b
  ReadsWithin bound (array t es) = AllRead bound es
  ReadsWithin bound (struct t es) = AllRead bound es
  ReadsWithin bound (majority s es) = AllRead bound es
  ReadsWithin bound (agreed s es) = AllRead bound es
  ReadsWithin bound (lib k form es) = AllRead bound es

  pub AllRead : (ℕ → ℕ) → Terms → Type 0
  AllRead bound end = Unit {0}
  AllRead bound (more a es) = ReadsWithin bound a × AllRead bound es

-- how many initial values a line has
abbrev pub bound_of : List Line → ℕ → ℕ
bound_of ls k = length (slice_index_or ls k (record { init = []; expr = missing })).init

-- a list of values begins with the line's, and goes on with its expression's value at each step below n
pub record LineMeets (s : TreeSpec) (h : List (List ℕ)) (n : ℕ) (table : Table) (line : Line) (xs : List (List ℕ)) : Type 0 where
  pub count : length xs ≡ length line.init + n
  pub start : take (length line.init) xs ≡ line.init
  pub later : (t : ℕ) → t < n → value (moment s table h t) line.expr ≡ Ok (slice_index_or xs (length line.init + t) [])

abbrev pub AllMeet : TreeSpec → List (List ℕ) → ℕ → Table → List Line → Table → Type 0
AllMeet s h n table [] [] = Unit {0}
AllMeet s h n table [] (xs ∷ xss) = ⊥
AllMeet s h n table (l ∷ ls) [] = ⊥
AllMeet s h n table (l ∷ ls) (xs ∷ xss) = LineMeets s h n table l xs × AllMeet s h n table ls xss

-- the table meets the equations up to step n
pub record Meets (s : TreeSpec) (h : List (List ℕ)) (n : ℕ) (table : Table) : Type 0 where
  pub each : AllMeet s h n table (lines s) table

-- each expression of a line reads within the bounds
pub record Bounded (s : TreeSpec) : Type 0 where
  pub each : AllByRecursion (λ (l : Line). ReadsWithin (bound_of (lines s)) l.expr) (lines s)

-- the second list begins with the first
abbrev pub IsFront : List (List ℕ) → List (List ℕ) → Type 0
IsFront xs ys = (rest : List (List ℕ)) × (ys ≡ xs ++ rest)
