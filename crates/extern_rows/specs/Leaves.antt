-- How the leaves of a value are named from its type: `x` is a scalar's, `x[k]` leads to an element, `x.f` to a member.
use Rattle.std.specs.Prelude.{ℕ, zero, suc, ◌+◌, List, [], ◌∷◌, ◌++◌, map, slice_get, unwrap_or, codes, decimal}
use Rattle.stream_types.specs.declared.scalar.Scalar.{Scalar}
use Rattle.stream_types.specs.declared.scalar.Ty.{Ty}
use Rattle.stream_types.specs.declared.scalar.Ty.TheVariants as ty
use Rattle.stream_types.specs.declared.types.Field.{Field}
use Rattle.stream_types.specs.declared.types.TypeEntry.{TypeEntry}
use Rattle.stream_types.specs.declared.types.TypeEntry.TheVariants as entry
use Rattle.extern_rows.specs.declared.header.Leaf.{Leaf}

-- ---- names

-- what leads from an array to its element k, counted from 0
abbrev pub index_text : ℕ → List ℕ
index_text k = codes "[" ++ decimal k ++ codes "]"

-- what leads from a struct to its member of this name
abbrev pub member_text : List ℕ → List ℕ
member_text name = codes "." ++ name

-- a leaf with a text before its name
abbrev pub led : List ℕ → Leaf → Leaf
led front leaf = record { name = front ++ leaf.name; scalar = leaf.scalar }

-- leaves with a text before each name
abbrev pub under : List ℕ → List Leaf → List Leaf
under front leaves = map (led front) leaves

-- ---- the leaves of a value: of each, its scalar and what stands behind the value's own name

-- those of n elements, the first of which is element k, given those of one element
abbrev pub of_elements : ℕ → ℕ → List Leaf → List Leaf
of_elements k zero element = []
of_elements k (suc n) element = under (index_text k) element ++ of_elements (k + 1) n element

-- those of a type, given those of the entries before it
abbrev pub tails_at : List (List Leaf) → Ty → List Leaf
tails_at before (ty.Scalar s) = record { name = []; scalar = s } ∷ []
tails_at before (ty.Array i) = unwrap_or (slice_get before i) []
tails_at before (ty.Struct i) = unwrap_or (slice_get before i) []

-- those of some members, and of an entry
abbrev pub of_members : List (List Leaf) → List Field → List Leaf
of_members before [] = []
of_members before (f ∷ fs) = under (member_text f.name) (tails_at before f.ty) ++ of_members before fs

abbrev pub of_entry : List (List Leaf) → TypeEntry → List Leaf
of_entry before (entry.Array elem n) = of_elements 0 n (tails_at before elem)
of_entry before (entry.Struct name fields) = of_members before fields

-- those of each entry, behind those already found
abbrev pub all_tails : List (List Leaf) → List TypeEntry → List (List Leaf)
all_tails before [] = before
all_tails before (e ∷ es) = all_tails (before ++ of_entry before e ∷ []) es

-- the leaves of a value of this name and type, in order of elements and members
abbrev pub leaf_columns : List TypeEntry → List ℕ → Ty → List Leaf
leaf_columns types name t = under name (tails_at (all_tails [] types) t)

-- the scalars of some leaves
abbrev pub scalars_of : List Leaf → List Scalar
scalars_of leaves = map (λ (leaf : Leaf). leaf.scalar) leaves
