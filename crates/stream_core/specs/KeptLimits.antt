-- The limits that a specification without library forms and defs keeps.
use Rattle.std.specs.Prelude.{ℕ, ◌+◌, ◌≤◌, length, map, sum, All}
use Rattle.stream_types.specs.Types.{words}
use Rattle.stream_core.specs.declared.spec.ExternItem.{ExternItem}
use Rattle.stream_core.specs.Term.{TreeSpec, TreeStream, TreeTrigger, TreeObserver, TreeRoot, without_defs}
use Rattle.stream_core.specs.Lower.{lowered_spec}
use Rattle.stream_core.specs.Limits.{plain_weight, weight_of_plain}

-- the specification with its library forms as buffers and plain expressions, and each def written out
abbrev pub plain_form : TreeSpec → TreeSpec
plain_form s = without_defs (lowered_spec s)

-- the words of all initial values and of all externs
abbrev pub words_of_plain : TreeSpec → ℕ
words_of_plain p = sum (map (λ (x : TreeStream). length x.init) p.streams) + sum (map (λ (x : ExternItem). words p.types x.ty) p.externs)

-- a root weighs 2,048 at most
abbrev pub IsLight : TreeRoot → Type 0
IsLight r = plain_weight r.expr ≤ 2048

pub record IsLightTrigger (x : TreeTrigger) : Type 0 where
  pub guard : IsLight x.guard
  pub args : All IsLight x.args

-- at most 262,144 words, 2,048 operators, literals and reads in each root, and 262,144 in all
pub record KeepsLimits (p : TreeSpec) : Type 0 where
  pub words : words_of_plain p ≤ 262144
  pub streams : All (λ (x : TreeStream). plain_weight x.expr ≤ 2048) p.streams
  pub triggers : All IsLightTrigger p.triggers
  pub observers : All (λ (x : TreeObserver). IsLight x.root) p.observers
  pub whole : weight_of_plain p ≤ 262144
