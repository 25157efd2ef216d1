-- What each form weighs, by what its operands weigh.
use Rattle.std.specs.Prelude.{ℕ, zero, suc, ◌+◌, ◌-◌, ◌*◌, ◌<◌, ◌≤◌, ◌≡◌, List, [], ◌∷◌, length, map, slice_get, max, Option, Some, None, All, if◌then◌else◌}
use Rattle.std.specs.List.{AllByRecursion}
use Rattle.stream_types.specs.Types.{signed}
use Rattle.stream_core.specs.declared.node.Node.{Node}
use Rattle.stream_core.specs.declared.node.Node.TheVariants as node
use Rattle.stream_core.specs.declared.node.LibForm.{LibForm}
use Rattle.stream_core.specs.declared.node.LibForm.TheVariants as form
use Rattle.stream_core.specs.declared.spec.Root.{Root}
use Rattle.stream_core.specs.declared.spec.StreamItem.{StreamItem}
use Rattle.stream_core.specs.declared.spec.TriggerItem.{TriggerItem}
use Rattle.stream_core.specs.declared.spec.ObserverItem.{ObserverItem}
use Rattle.stream_core.specs.declared.spec.LibItem.{LibItem}
use Rattle.stream_core.specs.Term.{Term, Terms, lit, extern, stream, def, named, missing, dropped, un, bin, shift, cast, and, or, implies, choose, index, field, array, struct, abs, sign, majority, agreed, lib, end, more, closed, expr_at}
use Rattle.stream_core.specs.Value.{SpecValue}
use Rattle.stream_core.specs.Parts.{parts}
use Rattle.stream_core.specs.WellTyped.{IsGoodForm}

abbrev pub total : List ℕ → ℕ
total [] = 0
total (w ∷ ws) = w + total ws

-- each vote is compared with each, and then each or the first one is taken
abbrev pub majority_weight : List ℕ → ℕ
majority_weight [] = 1
majority_weight (w ∷ ws) = let n = suc (length ws) in let all = total (w ∷ ws) in n * (5 * n + all + 2) + (n + 1) * all + w

-- each vote is compared with each
abbrev pub agreed_weight : List ℕ → ℕ
agreed_weight [] = 1
agreed_weight (w ∷ ws) = let n = suc (length ws) in let all = total (w ∷ ws) in n * (5 * n + all + 1) + n * all + length ws

-- the greatest or the least of so many samples, of which the newest weighs e and each other one 1
abbrev pub best_weight : ℕ → ℕ → ℕ
best_weight zero e = e
best_weight (suc zero) e = e
best_weight (suc (suc k)) e = e + (k + 1) * (e + 3) + k * (e + 4 * k + 4) + 1

-- the reads of a buffer from the nearest to the farthest step
abbrev pub span_weight : ℕ → ℕ → ℕ
span_weight zero high = 2 * high
span_weight (suc low) high = 2 * (high - low) + 2

-- what `since-in` weighs beside its operands
abbrev pub since_weight : ℕ → ℕ → ℕ
since_weight low zero = 1
since_weight zero (suc high) = 4 * high + 3
since_weight (suc low) (suc high) = 2 * high + 2 * (high - low) + 7

-- the value of a form
abbrev pub form_weight : LibForm → List ℕ → ℕ
form_weight form.Once (p ∷ ps) = p + 2
form_weight form.Historically (p ∷ ps) = p + 2
form_weight form.Yesterday (p ∷ ps) = p + 4
form_weight form.WeaklyYesterday (p ∷ ps) = p + 4
form_weight form.Since (p ∷ q ∷ ps) = p + 2 * q + 3
form_weight (form.OnceIn low high) (p ∷ ps) = p + span_weight low high
form_weight (form.HistoricallyIn low high) (p ∷ ps) = p + span_weight low high
form_weight (form.SinceIn low high) (p ∷ q ∷ ps) = p + 2 * q + since_weight low high
form_weight (form.Clock period phase) ps = 3
form_weight (form.WindowMax n s) (e ∷ ps) = best_weight n e
form_weight (form.WindowMin n s) (e ∷ ps) = best_weight n e
form_weight (form.WindowSum n s) (e ∷ ps) = e + 2 * (n - 1)
form_weight _ ps = 1

-- the expressions of a form's buffers, together
abbrev pub buffers_weight : LibForm → List ℕ → ℕ
buffers_weight form.Once ps = form_weight form.Once ps
buffers_weight form.Historically ps = form_weight form.Historically ps
buffers_weight form.Since ps = form_weight form.Since ps
buffers_weight (form.SinceIn low high) (p ∷ q ∷ ps) = p + q
buffers_weight (form.SinceIn low high) _ = 0
buffers_weight (form.Clock period phase) ps = 8
buffers_weight _ (p ∷ ps) = p
buffers_weight _ [] = 0

-- the heaviest of them
abbrev pub heaviest_buffer : LibForm → List ℕ → ℕ
heaviest_buffer (form.SinceIn low high) (p ∷ q ∷ ps) = max p q
heaviest_buffer f ps = buffers_weight f ps

abbrev mutual
  -- an expression without defs that are not written out
  pub loaded : Term → ℕ
  loaded (lit s w) = 1
  loaded (extern x) = 1
  loaded (stream s) = 1
  loaded (def d) = 1
  loaded (named d a) = loaded a
  loaded missing = 1
  loaded (dropped s k) = 1
  loaded (un o s a) = 1 + loaded a
  loaded (bin o s a b) = 1 + loaded a + loaded b
  loaded (shift d s a cs c) = 1 + loaded a + loaded c
  loaded (cast f t a) = 1 + loaded a
  loaded (and a b) = 1 + loaded a + loaded b
  loaded (or a b) = 1 + loaded a + loaded b
  loaded (implies a b) = 1 + loaded a + loaded b
  loaded (choose c a b) = 1 + loaded c + loaded a + loaded b
  loaded (index t a i) = 1 + loaded a + loaded i
  loaded (field t m a) = 1 + loaded a
  loaded (array t es) = 1 + total (loads es)
  loaded (struct t es) = 1 + total (loads es)
  loaded (abs s a) = 3 * loaded a + 5
  loaded (sign s a) = if signed s then 2 * loaded a + 9 else loaded a + 5
  loaded (majority s es) = majority_weight (loads es)
  loaded (agreed s es) = agreed_weight (loads es)
  loaded (lib k form es) = form_weight form (loads es)

  pub loads : Terms → List ℕ
  loads end = []
  loads (more a es) = loaded a ∷ loads es

-- what node i of a specification weighs
abbrev pub heavy : SpecValue → ℕ → ℕ
heavy s i = loaded (closed s i)

-- ---- roots

abbrev pub roots_weight : SpecValue → List Root → ℕ
roots_weight s [] = 0
roots_weight s (r ∷ rs) = heavy s r.expr + roots_weight s rs

abbrev pub triggers_weight : SpecValue → List TriggerItem → ℕ
triggers_weight s [] = 0
triggers_weight s (x ∷ xs) = heavy s x.guard.expr + roots_weight s x.args + triggers_weight s xs

abbrev pub observers_weight : SpecValue → List ObserverItem → ℕ
observers_weight s [] = 0
observers_weight s (x ∷ xs) = heavy s x.root.expr + observers_weight s xs

abbrev pub streams_weight : SpecValue → List StreamItem → ℕ
streams_weight s [] = 0
streams_weight s (x ∷ xs) = heavy s x.expr + streams_weight s xs

abbrev pub nodes_weight : SpecValue → List ℕ → ℕ
nodes_weight s [] = 0
nodes_weight s (i ∷ is) = heavy s i + nodes_weight s is

abbrev pub libs_weight : SpecValue → List LibItem → ℕ
libs_weight s [] = 0
libs_weight s (x ∷ xs) = buffers_weight x.form (map (heavy s) x.args) + libs_weight s xs

-- ---- nodes

abbrev pub lib_weight : SpecValue → Option LibItem → ℕ
lib_weight s None = 1
lib_weight s (Some x) = form_weight x.form (map (heavy s) x.args)

-- a node, by what its parts weigh
abbrev pub node_weight : SpecValue → Node → ℕ
node_weight s (node.Lit c w) = 1
node_weight s (node.Extern x) = 1
node_weight s (node.Stream x) = 1
node_weight s (node.Drop x k) = 1
node_weight s (node.Def d) = heavy s (expr_at (slice_get s.defs d))
node_weight s (node.Abs c a) = 3 * heavy s a + 5
node_weight s (node.Sign c a) = if signed c then 2 * heavy s a + 9 else heavy s a + 5
node_weight s (node.Majority c es) = majority_weight (map (heavy s) es)
node_weight s (node.Agreed c es) = agreed_weight (map (heavy s) es)
node_weight s (node.Lib k) = lib_weight s (slice_get s.libs k)
node_weight s n = 1 + nodes_weight s (parts n)

-- 1 to 9 votes, and what is named is there
abbrev pub IsGoodNode : SpecValue → Node → Type 0
IsGoodNode s (node.Majority c es) = (1 ≤ length es) × (length es ≤ 9)
IsGoodNode s (node.Agreed c es) = (1 ≤ length es) × (length es ≤ 9)
IsGoodNode s (node.Def d) = d < length s.defs
IsGoodNode s (node.Lib k) = k < length s.libs
IsGoodNode s n = Unit {0}

-- the operands of a form, of which it has none, one or two
abbrev pub operands : LibForm → ℕ → ℕ → List ℕ
operands form.Since p q = p ∷ q ∷ []
operands (form.SinceIn low high) p q = p ∷ q ∷ []
operands (form.Clock period phase) p q = []
operands _ p q = p ∷ []

abbrev pub heavy_at : SpecValue → Option ℕ → ℕ
heavy_at s None = 0
heavy_at s (Some i) = heavy s i

-- a form's bounds, and as many operands as it wants
pub record IsGoodItem (s : SpecValue) (x : LibItem) : Type 0 where
  pub form : IsGoodForm x.form
  pub weights : map (heavy s) x.args ≡ operands x.form (heavy_at s (slice_get x.args 0)) (heavy_at s (slice_get x.args 1))
  pub there : AllByRecursion (λ j. j < length s.nodes) x.args

abbrev pub IsTriggerThere : SpecValue → TriggerItem → Type 0
IsTriggerThere s x = (x.guard.expr < length s.nodes) × All (λ (r : Root). r.expr < length s.nodes) x.args
