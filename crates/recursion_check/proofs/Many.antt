-- Triggers of one name are well typed, however many.
use Rattle.std.proofs.Common.{◌≡◌, ℕ, zero, suc, ◌<◌, [], ◌∷◌, map, Some, refl, sym, ap, ◌∙◌, arith}
use Rattle.std.specs.Prelude.{slice_get}
use Rattle.std.specs.List.{AllByRecursion}
use Rattle.std.proofs.lemmas.List.Elements.{All-nil}
use Rattle.sm_io.specs.Words.{reserved, limit_fronts, limit_ends}
use Rattle.stream_core.specs.declared.spec.TriggerItem.{TriggerItem}
use Rattle.stream_core.specs.Value.{SpecValue}
use Rattle.stream_core.specs.Ordered.{all_parts}
use Rattle.stream_core.specs.Term.{TreeTrigger, tree, trees, tree_root}
use Rattle.stream_core.specs.Signature.{signature_of}
use Rattle.stream_core.specs.WellTyped.{bool, HasType, HasGoodNames, IsName, IsGoodTrigger, WellTyped, argument_types}
use Rattle.stream_core.proofs.Premises.{no_types}
use Rattle.recursion_check.specs.TestSpecs.{yes_node, bare_trigger, many}
use Rattle.recursion_check.proofs.Each.{all_copies, copies_all, get_copies, each_at}

module _ (n : ℕ) where
  abbrev s : SpecValue
  s = many n

  typed : (i : ℕ) → i < 1 → HasType (signature_of (trees s)) (tree (yes_node ∷ []) [] i) bool
  unfolding tree
  typed zero h = (refl, refl)
  typed (suc i) h = absurd (omega (arith, h))

  nowhere : {A : Type 0} (i : ℕ) (x : A) → slice_get [] i ≡ Some x → ⊥
  nowhere i x e = cc

  good_names : HasGoodNames s
  unfolding reserved limit_fronts limit_ends
  good_names = record {
    spec = refl;
    types = All-nil _;
    externs = All-nil _;
    streams = All-nil _;
    defs = All-nil _;
    triggers = copies_all (λ (x : TriggerItem). IsName x.name) (bare_trigger []) refl n;
    observers = All-nil _;
    once = λ i j name e f. absurd (nowhere i name e);
    apart = λ i j x e f. nowhere j x.name f;
    alike = λ i j x y e f q. ap argument_types (sym (get_copies n (bare_trigger []) x i e) ∙ get_copies n (bare_trigger []) y j f);
  }

  abbrev trigger_tree : TriggerItem → TreeTrigger
  trigger_tree x = record { name = x.name; guard = tree_root (tree (yes_node ∷ []) []) x.guard; args = map (tree_root (tree (yes_node ∷ []) [])) x.args }

  pub many_typed : WellTyped (many n)
  many_typed = record {
    types = no_types;
    ordered = record { below = each_at (yes_node ∷ []) (λ i n. AllByRecursion (λ j. j < i) (all_parts [] n)) (tt, tt) };
    nodes = λ i h. (bool, typed i h);
    externs = All-nil _;
    streams = All-nil _;
    defs = All-nil _;
    triggers = all_copies (IsGoodTrigger (signature_of (trees s))) trigger_tree (bare_trigger []) (record { guard = typed 0 (omega arith); truth = refl; args = All-nil _; few = omega arith }) n;
    observers = All-nil _;
    libs = All-nil _;
    names = good_names;
  }
