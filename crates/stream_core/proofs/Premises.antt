-- A specification that meets the premises: two defs, the second named by a trigger.
use Rattle.std.proofs.Common.{◌≡◌, ℕ, zero, suc, ◌<◌, List, [], ◌∷◌, length, Some, None, Option, refl, sym, ◌∙◌, subst, ap, arith}
use Rattle.std.specs.Prelude.{slice_get, All}
use Rattle.std.specs.List.{AllByRecursion}
use Rattle.std.proofs.lemmas.List.Elements.{All-nil, All-cons}
use Rattle.sm_io.specs.Words.{reserved, limit_fronts, limit_ends}
use Rattle.stream_types.specs.declared.scalar.Scalar.TheVariants as scalar
use Rattle.stream_types.specs.declared.scalar.Ty.{Ty}
use Rattle.stream_types.specs.TypeList.{IsTypeList}
use Rattle.stream_core.specs.declared.node.Node.{Node}
use Rattle.stream_core.specs.declared.node.Node.TheVariants as node
use Rattle.stream_core.specs.declared.spec.DefItem.{DefItem}
use Rattle.stream_core.specs.declared.spec.TriggerItem.{TriggerItem}
use Rattle.stream_core.specs.Value.{SpecValue}
use Rattle.stream_core.specs.Ordered.{Ordered, all_parts, DefsThere}
use Rattle.stream_core.specs.Term.{TreeDef, tree, trees, tree_def, tree_root, defs_of}
use Rattle.stream_core.specs.Limits.{mentions}
use Rattle.stream_core.specs.Acyclic.{Acyclic, WellFounded}
use Rattle.stream_core.specs.Signature.{signature_of}
use Rattle.stream_core.specs.WellTyped.{bool, HasType, HasGoodNames, IsName, IsGoodTrigger, IsGoodDef, WellTyped, declared_names, argument_types}

abbrev def_a : DefItem
def_a = record { name = 97 ∷ []; ty = bool; expr = 0; at = 8 }

abbrev def_b : DefItem
def_b = record { name = 98 ∷ []; ty = bool; expr = 1; at = 26 }

abbrev trigger_t : TriggerItem
trigger_t = record { name = 116 ∷ []; guard = record { expr = 2; ty = bool; at = 52 }; args = [] }

-- (def a Bool true) (def b Bool a) (trigger t b)
abbrev two_defs : SpecValue
two_defs = record {
  name = 115 ∷ [];
  types = [];
  nodes = node.Lit scalar.Bool 1 ∷ node.Def 0 ∷ node.Def 1 ∷ [];
  externs = [];
  streams = [];
  defs = def_a ∷ def_b ∷ [];
  triggers = trigger_t ∷ [];
  observers = [];
  libs = [];
}

none_acyclic : Acyclic []
none_acyclic = record { rank = λ d. d; ranks = record { falls = λ d x e. absurd (cc); below = λ d b. absurd (omega (arith, b)) } }

-- a fact of each node
each_node : (P : ℕ → Node → Type 0) → P 0 (node.Lit scalar.Bool 1) → P 1 (node.Def 0) → P 2 (node.Def 1) → (i : ℕ) (n : Node) → slice_get two_defs.nodes i ≡ Some n → P i n
each_node P a b c zero n e = let is : node.Lit scalar.Bool 1 ≡ n = cc in subst (P 0) is a
each_node P a b c (suc zero) n e = let is : node.Def 0 ≡ n = cc in subst (P 1) is b
each_node P a b c (suc (suc zero)) n e = let is : node.Def 1 ≡ n = cc in subst (P 2) is c
each_node P a b c (suc (suc (suc i))) n e = absurd (cc)

ordered : Ordered two_defs.nodes two_defs.libs
ordered = record { below = each_node (λ i n. AllByRecursion (λ j. j < i) (all_parts [] n)) tt tt tt }

falls : (d : ℕ) (x : TreeDef) → slice_get (defs_of two_defs) d ≡ Some x → AllByRecursion (λ c. c < d) (mentions x.expr)
unfolding tree
falls zero x e = subst (λ (y : TreeDef). AllByRecursion (λ c. c < 0) (mentions y.expr)) (some_is _ x e) tt
  where
    some_is : (a b : TreeDef) → Some a ≡ Some b → a ≡ b
    some_is a b e = cc
falls (suc zero) x e = subst (λ (y : TreeDef). AllByRecursion (λ c. c < 1) (mentions y.expr)) (some_is _ x e) (omega arith, tt)
  where
    some_is : (a b : TreeDef) → Some a ≡ Some b → a ≡ b
    some_is a b e = cc
falls (suc (suc d)) x e = absurd (cc)

exprs : (d : ℕ) (x : DefItem) → slice_get two_defs.defs d ≡ Some x → x.expr < length two_defs.nodes
exprs zero x e = subst (λ (y : DefItem). y.expr < 3) (some_is _ x e) (omega arith)
  where
    some_is : (a b : DefItem) → Some a ≡ Some b → a ≡ b
    some_is a b e = cc
exprs (suc zero) x e = subst (λ (y : DefItem). y.expr < 3) (some_is _ x e) (omega arith)
  where
    some_is : (a b : DefItem) → Some a ≡ Some b → a ≡ b
    some_is a b e = cc
exprs (suc (suc d)) x e = absurd (cc)

well_founded : WellFounded two_defs
well_founded = record {
  ordered = ordered;
  acyclic = record { rank = λ d. d; ranks = record { falls = falls; below = λ d b. omega (arith, b) } };
  named = each_node (λ i n. DefsThere two_defs.defs n) tt (omega arith) (omega arith);
  exprs = exprs;
}

pub no_types : IsTypeList []
no_types = record {
  each = λ i e is. absurd (cc);
  narrow = λ i. omega arith;
  structs = λ i j name fs gs a b. absurd (cc);
  arrays = λ i j elem n a b. absurd (cc);
  short = omega arith;
}

typed : (i : ℕ) → i < 3 → (t : Ty) × HasType (signature_of (trees two_defs)) (tree two_defs.nodes two_defs.libs i) t
unfolding tree
typed zero b = (bool, (refl, refl))
typed (suc zero) b = (bool, refl)
typed (suc (suc zero)) b = (bool, refl)
typed (suc (suc (suc i))) b = absurd (omega (arith, b))

abbrev pub first_byte : Option (List ℕ) → ℕ
first_byte (Some (b ∷ bs)) = b
first_byte _ = 0

abbrev pub name_byte : Option TriggerItem → ℕ
name_byte (Some x) = first_byte (Some x.name)
name_byte None = 0

pub one : {X : Type 0} (P : X → Type 0) (x : X) → P x → All P (x ∷ [])
one P x p = All-cons P x [] p (All-nil P)

pub two : {X : Type 0} (P : X → Type 0) (x y : X) → P x → P y → All P (x ∷ y ∷ [])
two P x y p q = All-cons P x (y ∷ []) p (one P y q)

once : (i j : ℕ) (name : List ℕ) → slice_get (declared_names two_defs) i ≡ Some name → slice_get (declared_names two_defs) j ≡ Some name → i ≡ j
once zero zero name e f = refl
once (suc zero) (suc zero) name e f = refl
once zero (suc zero) name e f = let q : 97 ≡ 98 = ap first_byte (e ∙ sym f) in absurd (omega (arith, q))
once (suc zero) zero name e f = let q : 98 ≡ 97 = ap first_byte (e ∙ sym f) in absurd (omega (arith, q))
once (suc (suc i)) j name e f = absurd (cc)
once zero (suc (suc j)) name e f = absurd (cc)
once (suc zero) (suc (suc j)) name e f = absurd (cc)

good_names : HasGoodNames two_defs
unfolding reserved limit_fronts limit_ends
good_names = record {
  spec = refl;
  types = All-nil _;
  externs = All-nil _;
  streams = All-nil _;
  defs = two (λ (x : DefItem). IsName x.name) def_a def_b refl refl;
  triggers = one (λ (x : TriggerItem). IsName x.name) trigger_t refl;
  observers = All-nil _;
  once = once;
  apart = apart;
  alike = alike;
}
  where
    apart : (i j : ℕ) (x : TriggerItem) → slice_get two_defs.triggers i ≡ Some x → slice_get (declared_names two_defs) j ≡ Some x.name → ⊥
    apart zero zero x e f = let q : 116 ≡ name_byte (Some x) = ap name_byte e in let r : 97 ≡ name_byte (Some x) = ap first_byte f in absurd (omega (arith, q, r))
    apart zero (suc zero) x e f = let q : 116 ≡ name_byte (Some x) = ap name_byte e in let r : 98 ≡ name_byte (Some x) = ap first_byte f in absurd (omega (arith, q, r))
    apart zero (suc (suc j)) x e f = absurd (cc)
    apart (suc i) j x e f = absurd (cc)

    alike : (i j : ℕ) (x y : TriggerItem) → slice_get two_defs.triggers i ≡ Some x → slice_get two_defs.triggers j ≡ Some y → x.name ≡ y.name → argument_types x ≡ argument_types y
    alike zero zero x y e f s = let is : x ≡ y = cc in ap argument_types is
    alike (suc i) j x y e f s = absurd (cc)
    alike zero (suc j) x y e f s = absurd (cc)

abbrev tree_of_def : DefItem → TreeDef
tree_of_def x = tree_def (tree two_defs.nodes two_defs.libs) x

well_typed : WellTyped two_defs
unfolding tree
well_typed = record {
  types = no_types;
  ordered = ordered;
  nodes = typed;
  externs = All-nil _;
  streams = All-nil _;
  defs = two (IsGoodDef (signature_of (trees two_defs))) (tree_of_def def_a) (tree_of_def def_b) (record { stands = tt; expr = (refl, refl) }) (record { stands = tt; expr = refl });
  triggers = one (IsGoodTrigger (signature_of (trees two_defs))) (record { name = 116 ∷ []; guard = tree_root (tree two_defs.nodes two_defs.libs) trigger_t.guard; args = [] }) (record { guard = refl; truth = refl; args = All-nil _; few = omega arith });
  observers = All-nil _;
  libs = All-nil _;
  names = good_names;
}
