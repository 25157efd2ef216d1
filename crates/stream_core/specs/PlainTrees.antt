-- The plain trees of expressions and of a form's buffers: each library form is written out as its value over its buffers,
-- and then each def as its expression, as in the specification without library forms and defs.
use Rattle.std.specs.Prelude.{ℕ, List, [], ◌∷◌, map, max, length}
use Rattle.stream_core.specs.declared.spec.LibItem.{LibItem}
use Rattle.stream_core.specs.Value.{SpecValue}
use Rattle.stream_core.specs.Term.{Term, TreeStream, tree, trees, written_out}
use Rattle.stream_core.specs.Lower.{lowered, lowered_spec, buffer_of, buffers_of}
use Rattle.stream_core.specs.Limits.{plain_weight}

-- the tree of node i without library forms
abbrev pub lowered_tree : SpecValue → ℕ → Term
lowered_tree s i = lowered (buffer_of (length (trees s).streams) (trees s).libs) (tree s.nodes s.libs i)

abbrev pub plain_tree : SpecValue → ℕ → Term
plain_tree s i = written_out (lowered_spec (trees s)).defs (lowered_tree s i)

-- the buffers of form k
abbrev pub lowered_buffers : SpecValue → ℕ → LibItem → List TreeStream
lowered_buffers s k x = buffers_of x.form (buffer_of 1 (trees s).libs k) (buffer_of (length (trees s).streams) (trees s).libs k) x.at (map (lowered_tree s) x.args)

abbrev pub buffer_weights : SpecValue → ℕ → LibItem → List ℕ
buffer_weights s k x = map (λ (b : TreeStream). plain_weight (written_out (lowered_spec (trees s)).defs b.expr)) (lowered_buffers s k x)

abbrev pub greatest : List ℕ → ℕ
greatest [] = 0
greatest (w ∷ ws) = max w (greatest ws)
