use Rattle.std.proofs.Common.{rules, ◌≡◌, ◌++◌, [], ℕ, ◌+◌, ◌-◌, List, Some, drop, refl, arith, ap, sym, ◌∙◌}
use Rattle.std.specs.Prelude.{slice_get}
use Rattle.stream_types.specs.declared.types.Field.{Field}
use Rattle.stream_types.specs.declared.types.TypeEntry.TheVariants as entry
use Rattle.stream_types.specs.declared.scalar.Ty.TheVariants as ty
use Rattle.extern_rows.specs.declared.header.Leaf.{Leaf}
use Rattle.extern_rows.specs.Leaves.{index_text, member_text, under, of_elements, of_members, tails_at, all_tails, leaf_columns}
use Rattle.extern_rows.proofs.LeafNames.{columns-array, columns-struct, one_element, one_member, element_below, member_below, cut_back}
use Rattle.extern_rows.proofs.leaves.+leaves.Goals as goal

pub push_elements-loop-k-init : goal.push_elements-loop-k-init
push_elements-loop-k-init t c =
    let types = c.args.types.now in
    let name : List ℕ = c.args.name.now.items in
    let out : List Leaf = c.args.out.now.items in
    let count : c.in-Array.n - 0 ≡ c.in-Array.n = omega arith in (
      refl,
      search rules,
      ap (λ (m : ℕ). out ++ under name (of_elements 0 m (tails_at (all_tails [] types) c.in-Array.elem))) count
          ∙ ap (λ (r : List Leaf). out ++ r) (sym (columns-array types name c.args.place c.in-Array.elem c.in-Array.n c.entry.ensures.list (c.entry.ensures.value ∙ ap Some c.in-Array.is))),
    )

pub push_elements-push_value-requires : goal.push_elements-push_value-requires
push_elements-push_value-requires t c =
    let p = element_below c.args.types.now c.args.place c.in-Array.elem c.in-Array.n c.entry.ensures.list (c.entry.ensures.value ∙ ap Some c.in-Array.is) in
    (omega (arith, p.0, c.decreases), p.1)

pub push_elements-loop-k-preserved : goal.push_elements-loop-k-preserved
push_elements-loop-k-preserved t c =
    let types = c.args.types.now in
    let name : List ℕ = c.args.name.now.items in
    let k : ℕ = c.loop-k.k in
    let n : ℕ = c.in-Array.n in
    let element : List Leaf = tails_at (all_tails [] types) c.in-Array.elem in
    let before : List Leaf = c.loop-k.out.items in
    let i = c.loop-k.invariant in
    let longer : c.push_index.new.name.items ≡ name ++ index_text k = c.in_ok-push_index.ensures ∙ ap (λ (s : List ℕ). s ++ index_text k) i.0 in
    let added : c.push_value.new.out.items ≡ before ++ under (name ++ index_text k) element =
    c.in_ok-push_value.ensures.columns ∙ ap (λ (s : List ℕ). before ++ under s element) longer in (
      c.truncate.ensures.items ∙ cut_back c.push_value.new.name.items name (index_text k) c.len-length.result (c.in_ok-push_value.ensures.name ∙ longer) i.1,
      i.1,
      ap (λ (o : List Leaf). o ++ under name (of_elements (k + 1) (n - (k + 1)) element)) added
          ∙ one_element element name k n before (c.args.out.now.items ++ leaf_columns types name (ty.Array c.args.place)) c.loop-k-test.true i.2,
    )

pub push_members-loop-field-init : goal.push_members-loop-field-init
push_members-loop-field-init t c =
    let types = c.args.types.now in
    let name : List ℕ = c.args.name.now.items in
    let out : List Leaf = c.args.out.now.items in (
      refl,
      search rules,
      ap (λ (fs : List Field). out ++ under name (of_members (all_tails [] types) fs)) c.as_slice-field-items.ensures
          ∙ ap (λ (r : List Leaf). out ++ r) (sym (columns-struct types name c.args.place c.in-Struct.name c.in-Struct.fields c.entry.ensures.list (c.entry.ensures.value ∙ ap Some c.in-Struct.is))),
    )

pub push_members-push_value-requires : goal.push_members-push_value-requires
push_members-push_value-requires t c =
    let fields : List Field = c.as_slice-field-items.result.now in
    let is : slice_get c.args.types.now c.args.place ≡ Some (entry.Struct c.in-Struct.name fields) =
    c.entry.ensures.value ∙ ap Some c.in-Struct.is ∙ ap (λ (fs : List Field). Some (entry.Struct c.in-Struct.name fs)) (sym c.as_slice-field-items.ensures) in
    let p = member_below c.args.types.now c.args.place c.in-Struct.name fields c.loop-field.field-index c.field-item.result c.entry.ensures.list is c.loop-field-test.true c.field-item.is in
    (omega (arith, p.0, c.decreases), p.1)

pub push_members-loop-field-preserved : goal.push_members-loop-field-preserved
push_members-loop-field-preserved t c =
    let types = c.args.types.now in
    let name : List ℕ = c.args.name.now.items in
    let fields : List Field = c.as_slice-field-items.result.now in
    let j : ℕ = c.loop-field.field-index in
    let f : Field = c.field-item.result in
    let before : List Leaf = c.loop-field.out.items in
    let i = c.loop-field.invariant in
    let longer : c.push_member.new.name.items ≡ name ++ member_text f.name =
    c.in_ok-push_member.ensures ∙ ap (λ (b : List ℕ). c.loop-field.name.items ++ member_text b) c.bytes.ensures.bytes ∙ ap (λ (s : List ℕ). s ++ member_text f.name) i.0 in
    let added : c.push_value.new.out.items ≡ before ++ under (name ++ member_text f.name) (tails_at (all_tails [] types) f.ty) =
    c.in_ok-push_value.ensures.columns ∙ ap (λ (s : List ℕ). before ++ under s (tails_at (all_tails [] types) f.ty)) longer in (
      c.truncate.ensures.items ∙ cut_back c.push_value.new.name.items name (member_text f.name) c.len-length.result (c.in_ok-push_value.ensures.name ∙ longer) i.1,
      i.1,
      ap (λ (o : List Leaf). o ++ under name (of_members (all_tails [] types) (drop (j + 1) fields))) added
          ∙ one_member (all_tails [] types) fields j f name before (c.args.out.now.items ++ leaf_columns types name (ty.Struct c.args.place)) c.loop-field-test.true c.field-item.is i.2,
    )
