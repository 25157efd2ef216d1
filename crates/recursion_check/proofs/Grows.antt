-- Specifications of the tests with one item more.
use Rattle.std.proofs.Common.{◌≡◌, ℕ, zero, suc, ◌+◌, ◌*◌, [], ◌∷◌, ◌++◌, length, replicate, refl, ap, ◌∙◌, arith}
use Rattle.std.proofs.lemmas.List.{append_assoc, length_push, length-append}
use Rattle.stream_core.specs.declared.node.Node.TheVariants as node
use Rattle.stream_core.specs.declared.spec.Item.TheVariants as item
use Rattle.stream_core.specs.declared.spec.TriggerItem.{TriggerItem}
use Rattle.stream_core.specs.Stored.{with_item}
use Rattle.recursion_check.specs.TestSpecs.{yes_node, bare_trigger, many, sum_node, sum_nodes, sum_def, sum_defs, sums, with_node}

copies_push : {A : Type 0} (n : ℕ) (x : A) → replicate n x ++ x ∷ [] ≡ replicate (suc n) x
copies_push zero x = refl
copies_push (suc n) x = ap (λ xs. x ∷ xs) (copies_push n x)

pub many_next : (n : ℕ) → with_item (many n) (item.Trigger (bare_trigger [])) ≡ many (n + 1)
many_next n = ap (λ ts. record (many n) { triggers = ts }) (copies_push n (bare_trigger [])) ∙ ap many (let e : suc n ≡ n + 1 = omega arith in e)

pub copies_length : (n : ℕ) (x : TriggerItem) → length (replicate n x) ≡ n
copies_length zero x = refl
copies_length (suc n) x = ap suc (copies_length n x)

pub nodes_length : (n : ℕ) → length (sum_nodes n) ≡ 2 * n
nodes_length zero = refl
nodes_length (suc n) = let a = length-append (sum_nodes n) (sum_node (2 * n + 1) ∷ node.Def n ∷ []) in let h = nodes_length n in omega (arith, a, h)

pub defs_length : (n : ℕ) → length (sum_defs n) ≡ n
defs_length zero = refl
defs_length (suc n) = let a = length_push (sum_defs n) (sum_def n) in let h = defs_length n in omega (arith, a, h)

pub sums_next : (n : ℕ) → with_item (with_node (with_node (sums n) (sum_node (2 * n + 1))) (node.Def n)) (item.Def (sum_def n)) ≡ sums (n + 1)
sums_next n =
    ap (λ ns. record (sums n) { nodes = yes_node ∷ node.Extern 0 ∷ ns; defs = sum_defs n ++ sum_def n ∷ [] }) (append_assoc (sum_nodes n) (sum_node (2 * n + 1) ∷ []) (node.Def n ∷ []))
    ∙ ap sums (let e : suc n ≡ n + 1 = omega arith in e)
