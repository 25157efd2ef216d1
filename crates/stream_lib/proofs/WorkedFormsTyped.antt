-- The worked specifications over library forms are well typed.
use Rattle.std.proofs.Common.{◌≡◌, ℕ, ◌<◌, List, [], ◌∷◌, get_or, Some, refl, ap, arith}
use Rattle.std.specs.Prelude.{slice_get, ◌≢◌}
use Rattle.std.specs.List.{AllByRecursion}
use Rattle.std.proofs.lemmas.List.Elements.{All-nil}
use Rattle.sm_io.specs.Words.{reserved, limit_fronts, limit_ends}
use Rattle.sm_io.proofs.Elements.{get_within, all_by_place}
use Rattle.stream_types.specs.declared.scalar.Scalar.TheVariants as scalar
use Rattle.stream_types.specs.declared.scalar.Ty.{Ty}
use Rattle.stream_types.specs.declared.scalar.Ty.TheVariants as ty
use Rattle.stream_types.specs.TypeList.{Stands}
use Rattle.stream_core.specs.declared.node.Node.{Node}
use Rattle.stream_core.specs.declared.spec.Root.{Root}
use Rattle.stream_core.specs.declared.spec.ExternItem.{ExternItem}
use Rattle.stream_core.specs.declared.spec.TriggerItem.{TriggerItem}
use Rattle.stream_core.specs.Value.{SpecValue}
use Rattle.stream_core.specs.Ordered.{all_parts}
use Rattle.stream_core.specs.Term.{TreeRoot, tree, trees, tree_root}
use Rattle.stream_core.specs.Signature.{signature_of}
use Rattle.stream_core.specs.WellTyped.{bool, HasType, HasGoodNames, IsName, IsGoodLib, IsGoodTrigger, RootHasType, WellTyped, argument_types, declared_names}
use Rattle.stream_core.proofs.Premises.{no_types}
use Rattle.recursion_check.proofs.Places.{each_of}
use Rattle.recursion_check.proofs.Each.{Each, each_at, names_of, once_by, up, up_rising, among}
use Rattle.stream_lib.specs.WorkedForms.{byte, root, starts, operands, voted, yesterdays}

abbrev int32 : Ty
int32 = ty.Scalar scalar.Int32

-- ---- what is the same in each: a specification of nodes, externs, forms and triggers

abbrev Typed : SpecValue → ℕ → Node → Type 0
Typed s i n = (t : Ty) × HasType (signature_of (trees s)) (tree s.nodes s.libs i) t

abbrev InOrder : SpecValue → ℕ → Node → Type 0
InOrder s i n = AllByRecursion (λ j. j < i) (all_parts s.libs n)

-- no declaration but a trigger has the trigger's name
abbrev Apart : SpecValue → ℕ → TriggerItem → Type 0
Apart s i x = (j : ℕ) → slice_get (declared_names s) j ≢ Some x.name

-- triggers of the trigger's name have its argument types
abbrev Alike : SpecValue → ℕ → TriggerItem → Type 0
Alike s i x = Each s.triggers (λ (j : ℕ) (y : TriggerItem). x.name ≡ y.name → argument_types x ≡ argument_types y)

abbrev root_tree : SpecValue → Root → TreeRoot
root_tree s r = tree_root (tree s.nodes s.libs) r

above : (a n k : ℕ) → AllByRecursion (λ b. k < b) (up a n) → (j : ℕ) → slice_get (names_of (up a n)) j ≢ Some (k ∷ [])
above a n k far j e = let h = each_of (λ b. k < b) (up a n) k far (among (up a n) j k e) in absurd (omega (arith, h))

below : (a n k : ℕ) → AllByRecursion (λ b. b < k) (up a n) → (j : ℕ) → slice_get (names_of (up a n)) j ≢ Some (k ∷ [])
below a n k far j e = let h = each_of (λ b. b < k) (up a n) k far (among (up a n) j k e) in absurd (omega (arith, h))

other : (a b : ℕ) → (a ≡ b → ⊥) → a ∷ [] ≡ b ∷ [] → ⊥
other a b h e = h (ap (λ (xs : List ℕ). get_or xs 0 0) e)

alike_by : (s : SpecValue) → Each s.triggers (Alike s) → (i j : ℕ) (x y : TriggerItem) → slice_get s.triggers i ≡ Some x → slice_get s.triggers j ≡ Some y → x.name ≡ y.name → argument_types x ≡ argument_types y
alike_by s h i j x y e f = each_at s.triggers (λ (k : ℕ) (z : TriggerItem). x.name ≡ z.name → argument_types x ≡ argument_types z) (each_at s.triggers (Alike s) h i x e) j y f

apart_by : (s : SpecValue) → Each s.triggers (Apart s) → (i j : ℕ) (x : TriggerItem) → slice_get s.triggers i ≡ Some x → slice_get (declared_names s) j ≢ Some x.name
apart_by s h i j x e = each_at s.triggers (Apart s) h i x e j

-- ---- starts

starts_nodes : Each starts.nodes (Typed starts)
unfolding tree
starts_nodes = ((bool, (refl, refl)), ((bool, refl), ((bool, refl), ((bool, (tt, (refl, (refl, tt)), refl)), ((bool, ((omega arith, omega arith), (refl, tt), refl)), ((bool, ((omega arith, omega arith), (refl, tt), refl)), tt))))))

starts_order : Each starts.nodes (InOrder starts)
starts_order = (tt, (tt, (tt, ((omega arith, (omega arith, tt)), ((omega arith, tt), ((omega arith, tt), tt))))))

starts_names : HasGoodNames starts
unfolding reserved limit_fronts limit_ends
starts_names = record {
  spec = refl;
  types = All-nil _;
  externs = all_by_place (λ (x : ExternItem). IsName x.name) starts.externs (refl, (refl, tt));
  streams = All-nil _;
  defs = All-nil _;
  triggers = all_by_place (λ (x : TriggerItem). IsName x.name) starts.triggers (refl, tt);
  observers = All-nil _;
  once = once_by (up 112 2) (up_rising 2 112);
  apart = apart_by starts (above 112 2 97 (omega arith, (omega arith, tt)), tt);
  alike = alike_by starts (((λ e. refl), tt), tt);
}

pub starts_typed : WellTyped starts
unfolding tree
starts_typed = record {
  types = no_types;
  ordered = record { below = each_at starts.nodes (InOrder starts) starts_order };
  nodes = λ i h. let x = get_within starts.nodes i h in each_at starts.nodes (Typed starts) starts_nodes i x.0 x.1;
  externs = all_by_place (λ (x : ExternItem). Stands [] x.ty) starts.externs (tt, (tt, tt));
  streams = All-nil _;
  defs = All-nil _;
  triggers = all_by_place (IsGoodTrigger (signature_of (trees starts))) (trees starts).triggers (record { guard = (refl, refl); truth = refl; args = all_by_place (RootHasType (signature_of (trees starts))) (root_tree starts (root 3 bool) ∷ root_tree starts (root 4 bool) ∷ root_tree starts (root 5 bool) ∷ []) ((tt, (refl, (refl, tt)), refl), (((omega arith, omega arith), (refl, tt), refl), (((omega arith, omega arith), (refl, tt), refl), tt))); few = omega arith }, tt);
  observers = All-nil _;
  libs = all_by_place (IsGoodLib (signature_of (trees starts))) (trees starts).libs (record { form = tt; args = (refl, (refl, tt)) }, (record { form = (omega arith, omega arith); args = (refl, tt) }, (record { form = (omega arith, omega arith); args = (refl, tt) }, tt)));
  names = starts_names;
}

-- ---- operands

operands_nodes : Each operands.nodes (Typed operands)
unfolding tree
operands_nodes = ((int32, refl), ((int32, (refl, refl)), ((bool, (refl, refl, (refl, refl), refl)), ((bool, (refl, refl)), ((int32, (refl, refl)), ((int32, (refl, (refl, refl), refl, refl)), ((int32, (refl, refl)), ((bool, (refl, (refl, (refl, refl), refl, refl), (refl, refl), refl)), ((bool, (tt, ((refl, (refl, (refl, refl), refl, refl), (refl, refl), refl), tt), refl)), ((bool, ((refl, refl, (refl, refl), refl), (refl, refl), (tt, ((refl, (refl, (refl, refl), refl, refl), (refl, refl), refl), tt), refl))), tt))))))))))

operands_order : Each operands.nodes (InOrder operands)
operands_order = (tt, (tt, ((omega arith, (omega arith, tt)), (tt, (tt, ((omega arith, (omega arith, tt)), (tt, ((omega arith, (omega arith, tt)), ((omega arith, tt), ((omega arith, (omega arith, (omega arith, tt))), tt))))))))))

operands_names : HasGoodNames operands
unfolding reserved limit_fronts limit_ends
operands_names = record {
  spec = refl;
  types = All-nil _;
  externs = all_by_place (λ (x : ExternItem). IsName x.name) operands.externs (refl, tt);
  streams = All-nil _;
  defs = All-nil _;
  triggers = all_by_place (λ (x : TriggerItem). IsName x.name) operands.triggers (refl, tt);
  observers = All-nil _;
  once = once_by (up 100 1) (up_rising 1 100);
  apart = apart_by operands (above 100 1 97 (omega arith, tt), tt);
  alike = alike_by operands (((λ e. refl), tt), tt);
}

pub operands_typed : WellTyped operands
unfolding tree
operands_typed = record {
  types = no_types;
  ordered = record { below = each_at operands.nodes (InOrder operands) operands_order };
  nodes = λ i h. let x = get_within operands.nodes i h in each_at operands.nodes (Typed operands) operands_nodes i x.0 x.1;
  externs = all_by_place (λ (x : ExternItem). Stands [] x.ty) operands.externs (tt, tt);
  streams = All-nil _;
  defs = All-nil _;
  triggers = all_by_place (IsGoodTrigger (signature_of (trees operands))) (trees operands).triggers (record { guard = ((refl, refl, (refl, refl), refl), (refl, refl), (tt, ((refl, (refl, (refl, refl), refl, refl), (refl, refl), refl), tt), refl)); truth = refl; args = All-nil _; few = omega arith }, tt);
  observers = All-nil _;
  libs = all_by_place (IsGoodLib (signature_of (trees operands))) (trees operands).libs (record { form = tt; args = ((refl, (refl, (refl, refl), refl, refl), (refl, refl), refl), tt) }, tt);
  names = operands_names;
}

-- ---- voted

voted_nodes : Each voted.nodes (Typed voted)
unfolding tree
voted_nodes = ((bool, (refl, refl)), ((byte, refl), ((byte, refl), ((byte, refl), ((byte, ((omega arith, omega arith), (refl, (refl, (refl, tt))), refl)), ((bool, ((omega arith, omega arith), (refl, (refl, (refl, tt))), refl)), ((byte, ((omega arith, omega arith, refl), (refl, tt), refl)), ((byte, ((omega arith, omega arith, refl), (refl, tt), refl)), ((bool, ((omega arith, omega arith, omega arith), tt, refl)), tt)))))))))

voted_order : Each voted.nodes (InOrder voted)
voted_order = (tt, (tt, (tt, (tt, ((omega arith, (omega arith, (omega arith, tt))), ((omega arith, (omega arith, (omega arith, tt))), ((omega arith, tt), ((omega arith, tt), (tt, tt)))))))))

voted_names : HasGoodNames voted
unfolding reserved limit_fronts limit_ends
voted_names = record {
  spec = refl;
  types = All-nil _;
  externs = all_by_place (λ (x : ExternItem). IsName x.name) voted.externs (refl, (refl, (refl, tt)));
  streams = All-nil _;
  defs = All-nil _;
  triggers = all_by_place (λ (x : TriggerItem). IsName x.name) voted.triggers (refl, (refl, tt));
  observers = All-nil _;
  once = once_by (up 97 3) (up_rising 3 97);
  apart = apart_by voted (below 97 3 109 (omega arith, (omega arith, (omega arith, tt))), (below 97 3 107 (omega arith, (omega arith, (omega arith, tt))), tt));
  alike = alike_by voted (((λ e. refl), ((λ e. absurd (other 109 107 (λ h. omega (arith, h)) e)), tt)), (((λ e. absurd (other 107 109 (λ h. omega (arith, h)) e)), ((λ e. refl), tt)), tt));
}

pub voted_typed : WellTyped voted
unfolding tree
voted_typed = record {
  types = no_types;
  ordered = record { below = each_at voted.nodes (InOrder voted) voted_order };
  nodes = λ i h. let x = get_within voted.nodes i h in each_at voted.nodes (Typed voted) voted_nodes i x.0 x.1;
  externs = all_by_place (λ (x : ExternItem). Stands [] x.ty) voted.externs (tt, (tt, (tt, tt)));
  streams = All-nil _;
  defs = All-nil _;
  triggers = all_by_place (IsGoodTrigger (signature_of (trees voted))) (trees voted).triggers (record { guard = (refl, refl); truth = refl; args = all_by_place (RootHasType (signature_of (trees voted))) (root_tree voted (root 4 byte) ∷ root_tree voted (root 5 bool) ∷ root_tree voted (root 6 byte) ∷ root_tree voted (root 7 byte) ∷ []) (((omega arith, omega arith), (refl, (refl, (refl, tt))), refl), (((omega arith, omega arith), (refl, (refl, (refl, tt))), refl), (((omega arith, omega arith, refl), (refl, tt), refl), (((omega arith, omega arith, refl), (refl, tt), refl), tt)))); few = omega arith }, (record { guard = ((omega arith, omega arith, omega arith), tt, refl); truth = refl; args = All-nil _; few = omega arith }, tt));
  observers = All-nil _;
  libs = all_by_place (IsGoodLib (signature_of (trees voted))) (trees voted).libs (record { form = (omega arith, omega arith, refl); args = (refl, tt) }, (record { form = (omega arith, omega arith, refl); args = (refl, tt) }, (record { form = (omega arith, omega arith, omega arith); args = tt }, tt)));
  names = voted_names;
}

-- ---- yesterdays

yesterdays_nodes : Each yesterdays.nodes (Typed yesterdays)
unfolding tree
yesterdays_nodes = ((bool, refl), ((bool, (tt, (refl, tt), refl)), ((bool, (tt, (refl, tt), refl)), tt)))

yesterdays_order : Each yesterdays.nodes (InOrder yesterdays)
yesterdays_order = (tt, ((omega arith, tt), ((omega arith, tt), tt)))

yesterdays_names : HasGoodNames yesterdays
unfolding reserved limit_fronts limit_ends
yesterdays_names = record {
  spec = refl;
  types = All-nil _;
  externs = all_by_place (λ (x : ExternItem). IsName x.name) yesterdays.externs (refl, tt);
  streams = All-nil _;
  defs = All-nil _;
  triggers = all_by_place (λ (x : TriggerItem). IsName x.name) yesterdays.triggers (refl, (refl, tt));
  observers = All-nil _;
  once = once_by (up 112 1) (up_rising 1 112);
  apart = apart_by yesterdays (above 112 1 97 (omega arith, tt), (above 112 1 98 (omega arith, tt), tt));
  alike = alike_by yesterdays (((λ e. refl), ((λ e. refl), tt)), (((λ e. refl), ((λ e. refl), tt)), tt));
}

pub yesterdays_typed : WellTyped yesterdays
unfolding tree
yesterdays_typed = record {
  types = no_types;
  ordered = record { below = each_at yesterdays.nodes (InOrder yesterdays) yesterdays_order };
  nodes = λ i h. let x = get_within yesterdays.nodes i h in each_at yesterdays.nodes (Typed yesterdays) yesterdays_nodes i x.0 x.1;
  externs = all_by_place (λ (x : ExternItem). Stands [] x.ty) yesterdays.externs (tt, tt);
  streams = All-nil _;
  defs = All-nil _;
  triggers = all_by_place (IsGoodTrigger (signature_of (trees yesterdays))) (trees yesterdays).triggers (record { guard = (tt, (refl, tt), refl); truth = refl; args = All-nil _; few = omega arith }, (record { guard = (tt, (refl, tt), refl); truth = refl; args = All-nil _; few = omega arith }, tt));
  observers = All-nil _;
  libs = all_by_place (IsGoodLib (signature_of (trees yesterdays))) (trees yesterdays).libs (record { form = tt; args = (refl, tt) }, (record { form = tt; args = (refl, tt) }, tt));
  names = yesterdays_names;
}
