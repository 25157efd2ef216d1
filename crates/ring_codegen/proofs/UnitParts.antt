-- Each part of the translation of an expression is named well, there, in range, and read as its ring is.
use Rattle.std.proofs.Common.{◌≡◌, ℕ, ◌+◌, ◌-◌, ◌^◌, ◌<◌, ◌≤◌, Bool, true, false, not, ◌&&◌, List, [], ◌∷◌, ◌++◌, map, replicate, Option, Some, None, is_some, refl, sym, ap, ◌∙◌, subst, arith}
use Rattle.std.specs.Prelude.{slice_get, nat_eq, nat_le, nat_lt, if◌then◌else◌, All, IsTrue, ℤ, pos, negsuc}
use Rattle.std.specs.Option.{option_map_or}
use Rattle.std.specs.List.{list_all}
use Rattle.std.proofs.lemmas.Bool.{and_from, le-leb, ltb-true}
use Rattle.sm_io.specs.Words.{is_name}
use Rattle.stream_types.specs.declared.scalar.Scalar.{Scalar}
use Rattle.stream_types.specs.declared.scalar.Scalar.TheVariants as scalar
use Rattle.stream_types.specs.declared.scalar.Ty.{Ty}
use Rattle.stream_types.specs.declared.scalar.Ty.TheVariants as ty
use Rattle.stream_types.specs.declared.scalar.Op1.{Op1}
use Rattle.stream_types.specs.declared.scalar.Op1.TheVariants as op1
use Rattle.stream_types.specs.declared.scalar.Op2.{Op2}
use Rattle.stream_types.specs.declared.scalar.Op2.TheVariants as op2
use Rattle.stream_types.specs.declared.scalar.Dir.{Dir}
use Rattle.stream_types.specs.declared.types.Field.{Field}
use Rattle.stream_types.specs.declared.types.TypeEntry.{TypeEntry}
use Rattle.stream_types.specs.declared.types.TypeEntry.TheVariants as entry
use Rattle.stream_types.specs.Numbers as of
use Rattle.stream_types.specs.TypeList.{IsArrayEntry, IsStructEntry, IsTypeList}
use Rattle.stream_types.proofs.Ranges.{number_in_range}
use Rattle.stream_core.specs.declared.spec.ExternItem.{ExternItem}
use Rattle.stream_core.specs.Term.{Term, Terms, lit, extern, stream, def, named, missing, dropped, un, bin, shift, cast, and, or, implies, choose, index, field, array, struct, abs, sign, majority, agreed, lib, end, more, TreeSpec, TreeStream, initial_count}
use Rattle.stream_core.specs.Signature.{Signature, StreamSignature, signature_of, stream_signature}
use Rattle.stream_core.specs.WellTyped.{HasType, HaveTypes, HasMember, HasNames, IsName, field_types, bool, word32}
use Rattle.stream_core.specs.WrittenOut.{IsWrittenOut, AreWritten}
use Rattle.stream_core.specs.Plain.{IsPlain, ArePlain}
use Rattle.c99_tree.specs.declared.expr.CLit.{CLit}
use Rattle.c99_tree.specs.declared.expr.CLit.TheVariants as k
use Rattle.c99_tree.specs.declared.expr.CUn.{CUn}
use Rattle.c99_tree.specs.declared.expr.CUn.TheVariants as u_
use Rattle.c99_tree.specs.declared.expr.CBin.{CBin}
use Rattle.c99_tree.specs.declared.expr.CBin.TheVariants as o
use Rattle.c99_tree.specs.declared.expr.CExpr.{CExpr}
use Rattle.c99_tree.specs.declared.expr.CExpr.TheVariants as e
use Rattle.c99_tree.specs.declared.types.CScalar.{CScalar}
use Rattle.c99_tree.specs.declared.types.CTy.{CTy}
use Rattle.c99_tree.specs.declared.types.CTy.TheVariants as cty
use Rattle.c99_tree.specs.declared.types.CVar.{CVar}
use Rattle.c99_tree.specs.declared.types.CDef.{CDef}
use Rattle.c99_tree.specs.declared.unit.CRing.{CRing}
use Rattle.c99_tree.specs.declared.unit.Unit.{Unit as CUnit}
use Rattle.c99_tree.specs.Tree.{Expr, tree, exprs}
use Rattle.c99_tree.specs.Tree as c_tree
use Rattle.c99_tree.specs.TreeLaws.{tree-Lit, tree-True, tree-False, tree-Copy, tree-Head, tree-Cell, tree-RingAt, tree-Un, tree-Bin, tree-Cond, tree-Cast, tree-Field, tree-Pick, tree-Arr, tree-Rec}
use Rattle.c99_tree.specs.Words.{is_ring_name, is_element}
use Rattle.c99_tree.specs.Lookup as look
use Rattle.c99_tree.specs.Lookup.{var_of, is_defined}
use Rattle.c99_tree.specs.Spelling.{most}
use Rattle.c99_tree.specs.WellFormed.{parts_of, parts_of_all, has_index, has_no_index}
use Rattle.c99_tree.specs.Checks.{is_sound_part}
use Rattle.c99_tree.proofs.LookedUp.{all_at}
use Rattle.ring_codegen.specs.CTypes.{c_scalar, c_type, c_def, array_type, struct_name, element_word}
use Rattle.ring_codegen.specs.Translation.{wide, constant, literal, arithmetic, binary, unary, shift_sign, shifted, extern_value, is_indexed, place_behind, stream_value, picked, array_value, struct_value, member_name, translated, all_translated, ring_of}
use Rattle.ring_codegen.specs.Translation as to
use Rattle.ring_codegen.specs.Standing.{Declares}
use Rattle.ring_codegen.proofs.Listing.{all_both}
use Rattle.ring_codegen.proofs.NamedOnce.{LooksUp, from_map}
use Rattle.ring_codegen.proofs.UnitTypes.{element_named, element_at, defined}

-- all parts of an expression are sound
abbrev pub passes : CUnit → Expr → Bool
passes u x = list_all (is_sound_part u) (parts_of x)

abbrev pub HasParts : CUnit → CExpr → Type 0
HasParts u a = passes u (tree a) ≡ true

abbrev pub HaveParts : CUnit → List CExpr → Type 0
HaveParts u es = list_all (is_sound_part u) (parts_of_all (exprs (map tree es))) ≡ true

-- ---- the forms

module _ (u : CUnit) where
  false_parts : HasParts u e.False
  false_parts = ap (passes u) tree-False

  true_parts : HasParts u e.True
  true_parts = ap (passes u) tree-True

  lit_parts : (q : CLit) (n : ℕ) → nat_le n (most q) ≡ true → HasParts u (e.Lit q n)
  lit_parts q n h = ap (passes u) (tree-Lit q n) ∙ (λ j. (true && true && h j && true) && true)

  copy_parts : (x : List ℕ) → is_name x ≡ true → is_some (var_of u.externs x) ≡ true → HasParts u (e.Copy x)
  copy_parts x h g = ap (passes u) (tree-Copy x) ∙ (λ j. (h j && g j && true && true) && true)

  cell_parts : (r : List ℕ) → is_ring_name r ≡ true → has_no_index u r ≡ true → HasParts u (e.Cell r)
  cell_parts r h g = ap (passes u) (tree-Cell r) ∙ (λ j. (h j && true && true && g j) && true)

  pub head_parts : (r : List ℕ) → is_ring_name r ≡ true → has_index u r ≡ true → HasParts u (e.Head r)
  head_parts r h g = ap (passes u) (tree-Head r) ∙ (λ j. (h j && true && true && g j) && true)

  ring_parts : (r : List ℕ) (a : CExpr) → is_ring_name r ≡ true → has_index u r ≡ true → HasParts u a → HasParts u (e.RingAt r a)
  ring_parts r a h g p = ap (passes u) (tree-RingAt r a) ∙ (λ j. (h j && true && true && g j) && p j)

  un_parts : (op : CUn) (a : CExpr) → HasParts u a → HasParts u (e.Un op a)
  un_parts op a p = ap (passes u) (tree-Un op a) ∙ p

  bin_parts : (op : CBin) (a b : CExpr) → HasParts u a → HasParts u b → HasParts u (e.Bin op a b)
  bin_parts op a b p q = ap (passes u) (tree-Bin op a b) ∙ all_both (is_sound_part u) (parts_of (tree a)) (parts_of (tree b)) p q

  cast_parts : (t : CScalar) (a : CExpr) → HasParts u a → HasParts u (e.Cast t a)
  cast_parts t a p = ap (passes u) (tree-Cast t a) ∙ p

  cond_parts : (c a b : CExpr) → HasParts u c → HasParts u a → HasParts u b → HasParts u (e.Cond c a b)
  cond_parts c a b p q r =
      ap (passes u) (tree-Cond c a b)
      ∙ all_both (is_sound_part u) (parts_of (tree c)) (parts_of (tree a) ++ parts_of (tree b)) p (all_both (is_sound_part u) (parts_of (tree a)) (parts_of (tree b)) q r)

  field_parts : (a : CExpr) (x : List ℕ) → is_name x ≡ true → HasParts u a → HasParts u (e.Field a x)
  field_parts a x h p = ap (passes u) (tree-Field a x) ∙ (λ j. (h j && true && true && true) && p j)

  pick_parts : (x : List ℕ) (n : ℕ) (a i : CExpr) → is_element x ≡ true → is_defined u.types (cty.Array x n) ≡ true → HasParts u a → HasParts u i → HasParts u (e.Pick x n a i)
  pick_parts x n a i h g p q =
      ap (passes u) (tree-Pick x n a i)
      ∙ (λ j. (h j && g j && true && true) && all_both (is_sound_part u) (parts_of (tree a)) (parts_of (tree i)) p q j)

  arr_parts : (x : List ℕ) (n : ℕ) (es : List CExpr) → is_element x ≡ true → is_defined u.types (cty.Array x n) ≡ true → HaveParts u es → HasParts u (e.Arr x n es)
  arr_parts x n es h g p = ap (passes u) (tree-Arr x n es) ∙ (λ j. (h j && g j && true && true) && p j)

  rec_parts : (x : List ℕ) (es : List CExpr) → is_name x ≡ true → is_defined u.types (cty.Struct x) ≡ true → HaveParts u es → HasParts u (e.Rec x es)
  rec_parts x es h g p = ap (passes u) (tree-Rec x es) ∙ (λ j. (h j && g j && true && true) && p j)

  arithmetic_parts : (op : CBin) (t : Scalar) (a b : CExpr) → HasParts u a → HasParts u b → HasParts u (arithmetic op t a b)
  arithmetic_parts op t a b p q =
      cast_parts (c_scalar t) (e.Bin op (e.Cast (wide t) a) (e.Cast (wide t) b))
      (bin_parts op (e.Cast (wide t) a) (e.Cast (wide t) b) (cast_parts (wide t) a p) (cast_parts (wide t) b q))

  binary_parts : (op : Op2) (t : Scalar) (a b : CExpr) → HasParts u a → HasParts u b → HasParts u (binary op t a b)
  binary_parts op2.Add t a b p q = arithmetic_parts o.Add t a b p q
  binary_parts op2.Sub t a b p q = arithmetic_parts o.Sub t a b p q
  binary_parts op2.Mul t a b p q = arithmetic_parts o.Mul t a b p q
  binary_parts op2.Quot t a b p q = arithmetic_parts o.Div t a b p q
  binary_parts op2.Rem t a b p q = arithmetic_parts o.Rem t a b p q
  binary_parts op2.BitAnd t a b p q = arithmetic_parts o.BitAnd t a b p q
  binary_parts op2.BitOr t a b p q = arithmetic_parts o.BitOr t a b p q
  binary_parts op2.BitXor t a b p q = arithmetic_parts o.BitXor t a b p q
  binary_parts op2.Eq t a b p q = bin_parts o.Eq a b p q
  binary_parts op2.Ne t a b p q = bin_parts o.Ne a b p q
  binary_parts op2.Lt t a b p q = bin_parts o.Lt a b p q
  binary_parts op2.Le t a b p q = bin_parts o.Le a b p q
  binary_parts op2.Gt t a b p q = bin_parts o.Gt a b p q
  binary_parts op2.Ge t a b p q = bin_parts o.Ge a b p q

  unary_parts : (op : Op1) (t : Scalar) (a : CExpr) → HasParts u a → HasParts u (unary op t a)
  unary_parts op1.Not t a p = un_parts u_.Not a p
  unary_parts op1.BitNot t a p = cast_parts (c_scalar t) (e.Un u_.BitNot (e.Cast (wide t) a)) (un_parts u_.BitNot (e.Cast (wide t) a) (cast_parts (wide t) a p))

  -- ---- literals

  constant_parts : (q : CLit) (n : ℕ) (z : ℤ) → 2 ^ (n - 1) ≤ most q + 1 → nat_le 1 (most q) ≡ true → IsTrue (of.in_range n true z) → HasParts u (constant q z)
  constant_parts q n (pos m) h one r = let l = ltb-true m (2 ^ (n - 1)) r in lit_parts q m (le-leb m (most q) (omega (arith, h, l)))
  constant_parts q n (negsuc m) h one r =
      let l = ltb-true m (2 ^ (n - 1)) r in
      bin_parts o.Sub (e.Un u_.Neg (e.Lit q m)) (e.Lit q 1) (un_parts u_.Neg (e.Lit q m) (lit_parts q m (le-leb m (most q) (omega (arith, h, l))))) (lit_parts q 1 one)

  word_parts : (q : CLit) (n w : ℕ) → 2 ^ n ≤ most q + 1 → IsTrue (of.in_range n false (pos w)) → HasParts u (e.Lit q w)
  word_parts q n w h r = let l = ltb-true w (2 ^ n) r in lit_parts q w (le-leb w (most q) (omega (arith, h, l)))

  truth_parts : (b : Bool) → HasParts u (if b then e.False else e.True)
  truth_parts true = false_parts
  truth_parts false = true_parts

  literal_parts : (s : Scalar) (w : ℕ) → IsTrue (of.is_word s w) → HasParts u (literal s w)
  literal_parts scalar.Bool w h = truth_parts (nat_eq w 0)
  literal_parts scalar.Int8 w h = constant_parts k.I 8 (of.number scalar.Int8 w) (omega arith) refl (number_in_range scalar.Int8 w refl h)
  literal_parts scalar.Int16 w h = constant_parts k.I 16 (of.number scalar.Int16 w) (omega arith) refl (number_in_range scalar.Int16 w refl h)
  literal_parts scalar.Int32 w h = constant_parts k.I 32 (of.number scalar.Int32 w) (omega arith) refl (number_in_range scalar.Int32 w refl h)
  literal_parts scalar.Int64 w h = constant_parts k.LL 64 (of.number scalar.Int64 w) (omega arith) refl (number_in_range scalar.Int64 w refl h)
  literal_parts scalar.Word8 w h = word_parts k.U 8 w (omega arith) (number_in_range scalar.Word8 w refl h)
  literal_parts scalar.Word16 w h = word_parts k.U 16 w (omega arith) (number_in_range scalar.Word16 w refl h)
  literal_parts scalar.Word32 w h = word_parts k.U 32 w (omega arith) (number_in_range scalar.Word32 w refl h)
  literal_parts scalar.Word64 w h = word_parts k.ULL 64 w (omega arith) (number_in_range scalar.Word64 w refl h)

-- ---- expressions

module _ (spec : TreeSpec) (u : CUnit) (good : IsTypeList spec.types) (names : All HasNames spec.types) (is : Declares spec u) (looks : LooksUp spec u)
    (extern_names : All (λ (x : ExternItem). IsName x.name) spec.externs) (ring_names : All (λ (x : TreeStream). IsTrue (is_ring_name x.name)) spec.streams)
  where
    abbrev sig : Signature
    sig = signature_of spec

    extern_parts : (x : ℕ) (o : Option ExternItem) → slice_get spec.externs x ≡ o → HasParts u (extern_value o)
    extern_parts x None h = false_parts u
    extern_parts x (Some y) h =
        copy_parts u y.name (all_at (λ (z : ExternItem). IsName z.name) spec.externs x y extern_names h) (ap (λ (v : Option CVar). is_some v) (looks.var x y h))

    pub ring_named : (x : ℕ) (y : TreeStream) → slice_get spec.streams x ≡ Some y → is_ring_name y.name ≡ true
    ring_named x y h = all_at (λ (z : TreeStream). IsTrue (is_ring_name z.name)) spec.streams x y ring_names h

    pub with_index : (x : ℕ) (y : TreeStream) → slice_get spec.streams x ≡ Some y → is_indexed spec.types y ≡ true → has_index u y.name ≡ true
    with_index x y h q = ap (λ (v : Option CRing). option_map_or (λ (ring : CRing). ring.indexed) v false) (looks.ring x y h) ∙ q

    pub without_index : (x : ℕ) (y : TreeStream) → slice_get spec.streams x ≡ Some y → is_indexed spec.types y ≡ false → has_no_index u y.name ≡ true
    without_index x y h q = ap (λ (v : Option CRing). option_map_or (λ (ring : CRing). not ring.indexed) v false) (looks.ring x y h) ∙ ap not q

    -- a place behind a ring's index
    pub place_parts : (x n : ℕ) (y : TreeStream) → slice_get spec.streams x ≡ Some y → n ≤ 65536 → is_indexed spec.types y ≡ true → HasParts u (place_behind spec.types y n)
    place_parts x n y h b q =
        let most_ = (looks.long x y h).most in
        bin_parts u o.Rem (e.Bin o.Add (e.Head y.name) (e.Lit k.U n)) (e.Lit k.U (initial_count spec.types y))
        (bin_parts u o.Add (e.Head y.name) (e.Lit k.U n) (head_parts u y.name (ring_named x y h) (with_index x y h q)) (lit_parts u k.U n (le-leb n 4294967295 (omega (arith, b)))))
        (lit_parts u k.U (initial_count spec.types y) (le-leb (initial_count spec.types y) 4294967295 (omega (arith, most_))))

    stream_parts : (x n : ℕ) (y : TreeStream) → slice_get spec.streams x ≡ Some y → n ≤ 65536 → HasParts u (stream_value spec.types n (Some y))
    stream_parts x n y h b = by (is_indexed spec.types y) refl
      where
        by : (c : Bool) → is_indexed spec.types y ≡ c → HasParts u (if c then e.RingAt y.name (place_behind spec.types y n) else e.Cell y.name)
        by true q = ring_parts u y.name (place_behind spec.types y n) (ring_named x y h) (with_index x y h q) (place_parts x n y h b q)
        by false q = cell_parts u y.name (ring_named x y h) (without_index x y h q)

    read_parts : (x n : ℕ) (z : StreamSignature) → slice_get sig.streams x ≡ Some z → n ≤ z.count → HasParts u (stream_value spec.types n (slice_get spec.streams x))
    read_parts x n z h b =
        let at = from_map (stream_signature spec.types) spec.streams x z h in
        let count : initial_count spec.types at.origin ≡ z.count = ap (λ (w : StreamSignature). w.count) at.is in
        let most_ = (looks.long x at.origin at.there).most in
        subst (λ (v : Option TreeStream). HasParts u (stream_value spec.types n v)) (sym at.there) (stream_parts x n at.origin at.there (omega (arith, b, count, most_)))

    array_defined : (i n : ℕ) (elem : Ty) → slice_get spec.types i ≡ Some (entry.Array elem n) → is_defined u.types (cty.Array (element_word spec.types elem) n) ≡ true
    array_defined i n elem h =
        let same : c_type spec.types (ty.Array i) ≡ cty.Array (element_word spec.types elem) n = ap (array_type spec.types) h in
        (λ j. is_defined (is.types j) (sym same j))
        ∙ defined spec.types good names (ty.Array i) (subst IsArrayEntry (sym h) tt)

    struct_defined : (i : ℕ) (name : List ℕ) (fields : List Field) → slice_get spec.types i ≡ Some (entry.Struct name fields) → is_defined u.types (cty.Struct name) ≡ true
    struct_defined i name fields h =
        let same : c_type spec.types (ty.Struct i) ≡ cty.Struct name = ap (λ (x : Option TypeEntry). cty.Struct (struct_name x)) h in
        (λ j. is_defined (is.types j) (sym same j))
        ∙ defined spec.types good names (ty.Struct i) (subst IsStructEntry (sym h) tt)

    index_parts : (i n : ℕ) (elem : Ty) (a j : CExpr) → slice_get spec.types i ≡ Some (entry.Array elem n) → HasParts u a → HasParts u j → HasParts u (picked (c_type spec.types (ty.Array i)) a j)
    index_parts i n elem a j h p q =
        let same : c_type spec.types (ty.Array i) ≡ cty.Array (element_word spec.types elem) n = ap (array_type spec.types) h in
        ap (λ (t : CTy). passes u (tree (picked t a j))) same
        ∙ pick_parts u (element_word spec.types elem) n a j (element_named spec.types good names elem (element_at spec.types good names i n elem h)) (array_defined i n elem h) p q

    array_parts : (i n : ℕ) (elem : Ty) (es : List CExpr) → slice_get spec.types i ≡ Some (entry.Array elem n) → HaveParts u es → HasParts u (array_value (c_type spec.types (ty.Array i)) es)
    array_parts i n elem es h p =
        let same : c_type spec.types (ty.Array i) ≡ cty.Array (element_word spec.types elem) n = ap (array_type spec.types) h in
        ap (λ (t : CTy). passes u (tree (array_value t es))) same
        ∙ arr_parts u (element_word spec.types elem) n es (element_named spec.types good names elem (element_at spec.types good names i n elem h)) (array_defined i n elem h) p

    struct_parts : (i : ℕ) (name : List ℕ) (fields : List Field) (es : List CExpr) → slice_get spec.types i ≡ Some (entry.Struct name fields) → HaveParts u es → HasParts u (struct_value (c_type spec.types (ty.Struct i)) es)
    struct_parts i name fields es h p =
        let same : c_type spec.types (ty.Struct i) ≡ cty.Struct name = ap (λ (x : Option TypeEntry). cty.Struct (struct_name x)) h in
        ap (λ (t : CTy). passes u (tree (struct_value t es))) same
        ∙ rec_parts u name es (all_at HasNames spec.types i (entry.Struct name fields) names h).0 (struct_defined i name fields h) p

    member_parts : (of_ t : Ty) (m : ℕ) (a : CExpr) → HasMember spec.types of_ m t → HasParts u a → HasParts u (e.Field a (member_name (to.entry_of spec.types of_) m))
    member_parts (ty.Scalar s) t m a h p = absurd h.struct_is
    member_parts (ty.Array i) t m a h p = absurd h.struct_is
    member_parts (ty.Struct i) t m a h p =
        let named : member_name (to.entry_of spec.types (ty.Struct i)) m ≡ h.member.name
        = ap (λ (x : Option TypeEntry). member_name x m) h.struct_is.1 ∙ ap (λ (x : Option Field). option_map_or (λ (z : Field). z.name) x []) h.is in
        let good_name : is_name h.member.name ≡ true = all_at (λ (f : Field). IsName f.name) h.fields m h.member (all_at HasNames spec.types i (entry.Struct h.struct_is.0 h.fields) names h.struct_is.1).1 h.is in
        subst (λ (x : List ℕ). HasParts u (e.Field a x)) (sym named) (field_parts u a h.member.name good_name p)

    mutual
      pub has_parts : (a : Term) (t : Ty) → HasType sig a t → IsPlain a → IsWrittenOut [] a → HasParts u (translated spec a)
      has_parts (lit s w) t h p o_ = literal_parts u s w h.0
      has_parts (extern x) t h p o_ = extern_parts x (slice_get spec.externs x) refl
      has_parts (stream x) t h p o_ = read_parts x 0 h.stream h.is (omega arith)
      has_parts (def d) t h p o_ = absurd o_
      has_parts (named d a) t h p o_ = has_parts a t h.1 p o_
      has_parts missing t h p o_ = absurd h
      has_parts (dropped x n) t h p o_ = let b = h.within in read_parts x n h.stream h.is (omega (arith, b))
      has_parts (un op s a) t h p o_ = unary_parts u op s (translated spec a) (has_parts a (ty.Scalar s) h.1 p o_)
      has_parts (bin op s a b) t h p o_ = binary_parts u op s (translated spec a) (translated spec b) (has_parts a (ty.Scalar s) h.1 p.0 o_.0) (has_parts b (ty.Scalar s) h.2 p.1 o_.1)
      has_parts (shift d s a cs n) t h p o_ =
          cast_parts u (c_scalar s) (e.Bin (shift_sign d) (e.Cast (wide s) (translated spec a)) (translated spec n))
          (bin_parts u (shift_sign d) (e.Cast (wide s) (translated spec a)) (translated spec n)
          (cast_parts u (wide s) (translated spec a) (has_parts a (ty.Scalar s) h.1 p.0 o_.0)) (has_parts n (ty.Scalar cs) h.2 p.1 o_.1))
      has_parts (cast f s a) t h p o_ = cast_parts u (c_scalar s) (translated spec a) (has_parts a (ty.Scalar f) h.1 p o_)
      has_parts (and a b) t h p o_ = bin_parts u o.And (translated spec a) (translated spec b) (has_parts a bool h.0 p.0 o_.0) (has_parts b bool h.1 p.1 o_.1)
      has_parts (or a b) t h p o_ = bin_parts u o.Or (translated spec a) (translated spec b) (has_parts a bool h.0 p.0 o_.0) (has_parts b bool h.1 p.1 o_.1)
      has_parts (implies a b) t h p o_ =
          bin_parts u o.Or (e.Un u_.Not (translated spec a)) (translated spec b) (un_parts u u_.Not (translated spec a) (has_parts a bool h.0 p.0 o_.0)) (has_parts b bool h.1 p.1 o_.1)
      has_parts (choose q a b) t h p o_ =
          cond_parts u (translated spec q) (translated spec a) (translated spec b) (has_parts q bool h.0 p.0 o_.0) (has_parts a t h.1 p.1 o_.1) (has_parts b t h.2 p.2 o_.2)
      has_parts (index (ty.Scalar s) a i) t h p o_ = absurd h.1
      has_parts (index (ty.Struct s) a i) t h p o_ = absurd h.1
      has_parts (index (ty.Array s) a i) t h p o_ =
          index_parts s h.0 t (translated spec a) (translated spec i) h.1 (has_parts a (ty.Array s) h.2 p.0 o_.0) (has_parts i word32 h.3 p.1 o_.1)
      has_parts (field of_ m a) t h p o_ = member_parts of_ t m (translated spec a) h.0 (has_parts a of_ h.1 p o_)
      has_parts (array (ty.Scalar s) es) t h p o_ = absurd h.2
      has_parts (array (ty.Struct s) es) t h p o_ = absurd h.2
      has_parts (array (ty.Array s) es) t h p o_ = array_parts s h.1 h.0 (all_translated spec es) h.2 (have_parts es (replicate h.1 h.0) h.3 p o_)
      has_parts (struct (ty.Scalar s) es) t h p o_ = absurd h.1
      has_parts (struct (ty.Array s) es) t h p o_ = absurd h.1
      has_parts (struct (ty.Struct s) es) t h p o_ = struct_parts s h.1.0 h.0 (all_translated spec es) h.1.1 (have_parts es (field_types h.0) h.2 p o_)
      has_parts (abs s a) t h p o_ = absurd p
      has_parts (sign s a) t h p o_ = absurd p
      has_parts (majority s es) t h p o_ = absurd p
      has_parts (agreed s es) t h p o_ = absurd p
      has_parts (lib n form es) t h p o_ = absurd p

      pub have_parts : (es : Terms) (ts : List Ty) → HaveTypes sig es ts → ArePlain es → AreWritten (λ d. ⊥) [] es → HaveParts u (all_translated spec es)
      have_parts end [] h p o_ = refl
      have_parts end (t ∷ ts) h p o_ = absurd h
      have_parts (more a es) [] h p o_ = absurd h
      have_parts (more a es) (t ∷ ts) h p o_ =
          all_both (is_sound_part u) (parts_of (tree (translated spec a))) (parts_of_all (exprs (map tree (all_translated spec es)))) (has_parts a t h.0 p.0 o_.0) (have_parts es ts h.1 p.1 o_.1)
