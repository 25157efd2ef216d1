-- Where a scan stands, and what its parts answer.
use Rattle.std.specs.Prelude.{◌≡◌, ℕ, ◌+◌, ◌<◌, ◌≤◌, true, false, List, [], ◌∷◌, ◌++◌, map, length, slice_index, None, Some, IfSome, Result, Ok, Err}
use Rattle.std.specs.List.{flat_map}
use Rattle.spec_forest.specs.declared.fault.ScanFault.{ScanFault}
use Rattle.spec_forest.specs.declared.fault.ScanFault.TheVariants.{Unbalanced, TooDeep, Memory}
use Rattle.spec_forest.specs.declared.tree.Tree.{Tree}
use Rattle.spec_forest.specs.declared.tree.Forest.{Forest}
use Rattle.spec_forest.specs.declared.scan.Kind.{Kind}
use Rattle.spec_forest.specs.declared.scan.Kind.TheVariants.{Blank, Left, Right, Mark, Letter, Bad}
use Rattle.spec_forest.specs.declared.scan.Level.{Level}
use Rattle.spec_forest.specs.declared.scan.Scanner.{Scanner}
use Rattle.spec_forest.specs.Node.{nodes, node, forest_nodes}
use Rattle.spec_forest.specs.Scan.{is_blank, is_mark, is_allowed, deepest, count_below, first_below, commented, opens, closes, fault_at, scan_fault}
use Rattle.spec_forest.specs.Answers.{text_fault}
use Rattle.spec_forest.specs.Tokens.{Token, left, right, is_letter, is_fresh, tokens_before, forest_tokens}

-- what a byte of each kind is
abbrev pub IsKind : ℕ → Kind → Type 0
IsKind b Blank = is_blank b ≡ true
IsKind b Left = b ≡ 40
IsKind b Right = b ≡ 41
IsKind b Mark = b ≡ 59
IsKind b Letter = is_letter b ≡ true
IsKind b Bad = is_allowed b ≡ false

-- A place at which no atom and no comment stands that began before.
pub record Boundary (text : List ℕ) (k : ℕ) : Type 0 where
  pub clear : k < length text → commented text k ≡ is_mark (slice_index text k)
  pub fresh : is_letter (slice_index text k) ≡ true → is_fresh text k ≡ true

-- The text before k shows these tokens, d lists are open, and nothing is wrong so far.
pub record IsScanned (text : List ℕ) (k d : ℕ) (held : List Token) : Type 0 where
  pub low : k ≤ length text
  pub boundary : Boundary text k
  pub sound : first_below k (fault_at text) ≡ None
  pub known : tokens_before text k ≡ held
  pub level : count_below k (opens text) ≡ count_below k (closes text) + d

-- ---- the tokens that a scan holds

abbrev pub tree_tokens : List Tree → List Token
tree_tokens ts = forest_tokens (nodes (map node ts))

abbrev pub level_tokens : Level → List Token
level_tokens o = tree_tokens o.before.items ++ left o.at ∷ []

abbrev pub held : Scanner → List Token
held s = flat_map level_tokens s.open.items ++ tree_tokens s.items.items

-- how many lists are open
abbrev pub levels : Scanner → ℕ
levels s = length s.open.items

-- ---- answers; want of memory is free

abbrev pub Enters : Scanner → ℕ → Scanner → Result (Unit {0}) ScanFault → Type 0
Enters old at new (Ok _) = (levels old < deepest) × (levels new ≡ levels old + 1) × (held new ≡ held old ++ left at ∷ [])
Enters old at new (Err (TooDeep k)) = (k ≡ at) × (levels old ≡ deepest)
Enters old at new (Err Memory) = Unit {0}
Enters old at new (Err _) = ⊥

abbrev pub Leaves : Scanner → ℕ → Scanner → Result (Unit {0}) ScanFault → Type 0
Leaves old at new (Ok _) = (levels old ≡ levels new + 1) × (held new ≡ held old ++ right ∷ [])
Leaves old at new (Err (Unbalanced k)) = (k ≡ at) × (levels old ≡ 0)
Leaves old at new (Err Memory) = Unit {0}
Leaves old at new (Err _) = ⊥

abbrev pub Takes : List ℕ → ℕ → Scanner → Result ℕ ScanFault → Type 0
Takes text at new (Ok n) = (0 < n) × IsScanned text (at + n) (levels new) (held new)
Takes text at new (Err e) = IfSome (text_fault e) (λ fault. scan_fault text ≡ Some fault)

abbrev pub Finishes : Scanner → ℕ → Result Forest ScanFault → Type 0
Finishes old at (Ok f) = (levels old ≡ 0) × (forest_tokens (forest_nodes f) ≡ held old)
Finishes old at (Err (Unbalanced k)) = (k ≡ at) × (0 < levels old)
Finishes old at (Err _) = ⊥
