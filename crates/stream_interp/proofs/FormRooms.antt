-- The forms that take no room, and the room of arrays and structs.
use Rattle.std.proofs.Common.{◌≡◌, ℕ, List, [], ◌∷◌, max, Option, Some, None, refl, ap, ◌∙◌}
use Rattle.std.specs.Prelude.{slice_get}
use Rattle.stream_types.specs.declared.scalar.Dir.{Dir}
use Rattle.stream_types.specs.declared.scalar.Op1.{Op1}
use Rattle.stream_types.specs.declared.scalar.Op2.{Op2}
use Rattle.stream_types.specs.declared.scalar.Scalar.{Scalar}
use Rattle.stream_types.specs.declared.scalar.Ty.{Ty}
use Rattle.stream_types.specs.declared.types.TypeEntry.{TypeEntry}
use Rattle.stream_core.specs.declared.node.Node.{Node}
use Rattle.stream_core.specs.declared.node.Node.TheVariants as node
use Rattle.stream_core.specs.declared.spec.LibItem.{LibItem}
use Rattle.stream_core.specs.Value.{SpecValue}
use Rattle.stream_core.specs.Term.{Term, build, closed, closed_def, lib_of, terms_of}
use Rattle.stream_interp.specs.Reading.{IsNoDef}
use Rattle.stream_interp.specs.Room.{all_rooms, node_room, nodes_room, room}

no_lib_room : (types : List TypeEntry) (at : ℕ → Term) (k : ℕ) (o : Option LibItem) → 0 ≡ room types (lib_of at k o)
no_lib_room types at k None = refl
no_lib_room types at k (Some x) = refl

pub no_room : (types : List TypeEntry) (libs : List LibItem) (at_def at : ℕ → Term) (form : Node) → IsNoDef form
    → ((o : Op1) (c : Scalar) (a : ℕ) → form ≡ node.Un o c a → ⊥)
    → ((o : Op2) (c : Scalar) (a b : ℕ) → form ≡ node.Bin o c a b → ⊥)
    → ((d : Dir) (c : Scalar) (a : ℕ) (cs : Scalar) (b : ℕ) → form ≡ node.Shift d c a cs b → ⊥)
    → ((from to : Scalar) (a : ℕ) → form ≡ node.Cast from to a → ⊥)
    → ((a b : ℕ) → form ≡ node.And a b → ⊥)
    → ((a b : ℕ) → form ≡ node.Or a b → ⊥)
    → ((a b : ℕ) → form ≡ node.Implies a b → ⊥)
    → ((c a b : ℕ) → form ≡ node.If c a b → ⊥)
    → ((of : Ty) (a i : ℕ) → form ≡ node.Index of a i → ⊥)
    → ((of : Ty) (k a : ℕ) → form ≡ node.Field of k a → ⊥)
    → ((of : Ty) (es : List ℕ) → form ≡ node.Array of es → ⊥)
    → ((of : Ty) (es : List ℕ) → form ≡ node.Record of es → ⊥)
    → 0 ≡ room types (build libs at_def at form)
no_room types libs at_def at (node.Lit c_ w_) no_def n_un n_bin n_shift n_cast n_and n_or n_implies n_if n_index n_field n_array n_record = refl
no_room types libs at_def at (node.Extern x_) no_def n_un n_bin n_shift n_cast n_and n_or n_implies n_if n_index n_field n_array n_record = refl
no_room types libs at_def at (node.Stream x_) no_def n_un n_bin n_shift n_cast n_and n_or n_implies n_if n_index n_field n_array n_record = refl
no_room types libs at_def at (node.Def d_) no_def n_un n_bin n_shift n_cast n_and n_or n_implies n_if n_index n_field n_array n_record = absurd no_def
no_room types libs at_def at (node.Drop x_ k_) no_def n_un n_bin n_shift n_cast n_and n_or n_implies n_if n_index n_field n_array n_record = refl
no_room types libs at_def at (node.Un o_ c_ a_) no_def n_un n_bin n_shift n_cast n_and n_or n_implies n_if n_index n_field n_array n_record = absurd (n_un o_ c_ a_ refl)
no_room types libs at_def at (node.Bin o_ c_ a_ b_) no_def n_un n_bin n_shift n_cast n_and n_or n_implies n_if n_index n_field n_array n_record = absurd (n_bin o_ c_ a_ b_ refl)
no_room types libs at_def at (node.Shift d_ c_ a_ cs_ b_) no_def n_un n_bin n_shift n_cast n_and n_or n_implies n_if n_index n_field n_array n_record = absurd (n_shift d_ c_ a_ cs_ b_ refl)
no_room types libs at_def at (node.Cast from_ to_ a_) no_def n_un n_bin n_shift n_cast n_and n_or n_implies n_if n_index n_field n_array n_record = absurd (n_cast from_ to_ a_ refl)
no_room types libs at_def at (node.And a_ b_) no_def n_un n_bin n_shift n_cast n_and n_or n_implies n_if n_index n_field n_array n_record = absurd (n_and a_ b_ refl)
no_room types libs at_def at (node.Or a_ b_) no_def n_un n_bin n_shift n_cast n_and n_or n_implies n_if n_index n_field n_array n_record = absurd (n_or a_ b_ refl)
no_room types libs at_def at (node.Implies a_ b_) no_def n_un n_bin n_shift n_cast n_and n_or n_implies n_if n_index n_field n_array n_record = absurd (n_implies a_ b_ refl)
no_room types libs at_def at (node.If c_ a_ b_) no_def n_un n_bin n_shift n_cast n_and n_or n_implies n_if n_index n_field n_array n_record = absurd (n_if c_ a_ b_ refl)
no_room types libs at_def at (node.Index of_ a_ i_) no_def n_un n_bin n_shift n_cast n_and n_or n_implies n_if n_index n_field n_array n_record = absurd (n_index of_ a_ i_ refl)
no_room types libs at_def at (node.Field of_ k_ a_) no_def n_un n_bin n_shift n_cast n_and n_or n_implies n_if n_index n_field n_array n_record = absurd (n_field of_ k_ a_ refl)
no_room types libs at_def at (node.Array of_ es_) no_def n_un n_bin n_shift n_cast n_and n_or n_implies n_if n_index n_field n_array n_record = absurd (n_array of_ es_ refl)
no_room types libs at_def at (node.Record of_ es_) no_def n_un n_bin n_shift n_cast n_and n_or n_implies n_if n_index n_field n_array n_record = absurd (n_record of_ es_ refl)
no_room types libs at_def at (node.Abs c_ a_) no_def n_un n_bin n_shift n_cast n_and n_or n_implies n_if n_index n_field n_array n_record = refl
no_room types libs at_def at (node.Sign c_ a_) no_def n_un n_bin n_shift n_cast n_and n_or n_implies n_if n_index n_field n_array n_record = refl
no_room types libs at_def at (node.Majority c_ es_) no_def n_un n_bin n_shift n_cast n_and n_or n_implies n_if n_index n_field n_array n_record = refl
no_room types libs at_def at (node.Agreed c_ es_) no_def n_un n_bin n_shift n_cast n_and n_or n_implies n_if n_index n_field n_array n_record = refl
no_room types libs at_def at (node.Lib k_) no_def n_un n_bin n_shift n_cast n_and n_or n_implies n_if n_index n_field n_array n_record = no_lib_room types at k_ (slice_get libs k_)

module _ (s : SpecValue) where
  all_of : (is : List ℕ) → all_rooms s.types (terms_of (closed s) is) ≡ nodes_room s is
  all_of [] = refl
  all_of (i ∷ is) = ap (λ n. max (node_room s i) n) (all_of is)

  pub array_room : (form : Node) (of : Ty) (is : List ℕ) → form ≡ node.Array of is → room s.types (build s.libs (closed_def s) (closed s) form) ≡ nodes_room s is
  array_room form of is e = ap (λ (f : Node). room s.types (build s.libs (closed_def s) (closed s) f)) e ∙ all_of is

  pub struct_room : (form : Node) (of : Ty) (is : List ℕ) → form ≡ node.Record of is → room s.types (build s.libs (closed_def s) (closed s) form) ≡ nodes_room s is
  struct_room form of is e = ap (λ (f : Node). room s.types (build s.libs (closed_def s) (closed s) f)) e ∙ all_of is
