-- Four defs of Bool that name each other are well typed.
use Rattle.std.proofs.Common.{◌≡◌, ℕ, zero, suc, ◌<◌, ◌≤◌, [], Some, refl, arith}
use Rattle.std.specs.Prelude.{slice_get}
use Rattle.std.specs.List.{AllByRecursion}
use Rattle.std.proofs.lemmas.List.Elements.{All-nil}
use Rattle.sm_io.specs.Words.{reserved, limit_fronts, limit_ends}
use Rattle.stream_core.specs.declared.spec.DefItem.{DefItem}
use Rattle.stream_core.specs.Value.{SpecValue}
use Rattle.stream_core.specs.Ordered.{all_parts}
use Rattle.stream_core.specs.Term.{tree, trees, tree_def}
use Rattle.stream_core.specs.Signature.{signature_of}
use Rattle.stream_core.specs.WellTyped.{bool, HasType, HasGoodNames, IsName, IsGoodDef, WellTyped}
use Rattle.stream_core.proofs.Premises.{no_types}
use Rattle.recursion_check.specs.TestSpecs.{five_nodes, bool_def, four_defs}
use Rattle.recursion_check.proofs.Each.{each_at, once_by, up, up_rising}
use Rattle.sm_io.proofs.Elements.{all_by_place}

module _ (a b c d : ℕ) (pa : a ≤ 4) (pb : b ≤ 4) (pc : c ≤ 4) (pd : d ≤ 4) where
  abbrev s : SpecValue
  s = four_defs a b c d

  typed : (i : ℕ) → i < 5 → HasType (signature_of (trees s)) (tree five_nodes [] i) bool
  unfolding tree
  typed zero h = (refl, refl)
  typed (suc zero) h = refl
  typed (suc (suc zero)) h = refl
  typed (suc (suc (suc zero))) h = refl
  typed (suc (suc (suc (suc zero)))) h = refl
  typed (suc (suc (suc (suc (suc i))))) h = absurd (omega (arith, h))

  nowhere : {A : Type 0} (i : ℕ) (x : A) → slice_get [] i ≡ Some x → ⊥
  nowhere i x e = cc

  good_names : HasGoodNames s
  unfolding reserved limit_fronts limit_ends
  good_names = record {
    spec = refl;
    types = All-nil _;
    externs = All-nil _;
    streams = All-nil _;
    defs = all_by_place (λ (x : DefItem). IsName x.name) s.defs (refl, (refl, (refl, (refl, tt))));
    triggers = All-nil _;
    observers = All-nil _;
    once = once_by (up 97 4) (up_rising 4 97);
    apart = λ i j x e f. nowhere i x e;
    alike = λ i j x y e f n. absurd (nowhere i x e);
  }

  good : (i : ℕ) → i ≤ 4 → (letter at : ℕ) → IsGoodDef (signature_of (trees s)) (tree_def (tree five_nodes []) (bool_def letter i at))
  good i h letter at = record { stands = tt; expr = typed i (omega (arith, h)) }

  pub four_typed : WellTyped (four_defs a b c d)
  four_typed = record {
    types = no_types;
    ordered = record { below = each_at five_nodes (λ i n. AllByRecursion (λ j. j < i) (all_parts [] n)) (tt, (tt, (tt, (tt, (tt, tt))))) };
    nodes = λ i h. (bool, typed i h);
    externs = All-nil _;
    streams = All-nil _;
    defs = all_by_place (IsGoodDef (signature_of (trees s))) (trees s).defs (good a pa 97 8, (good b pb 98 23, (good c pc 99 38, (good d pd 100 53, tt))));
    triggers = All-nil _;
    observers = All-nil _;
    libs = All-nil _;
    names = good_names;
  }
