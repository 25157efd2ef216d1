-- What evaluation and the statements look up. Their definitions name some value also where a look-up finds nothing, where
-- a number is asked of a value that is none, and where lists end early; these say that nothing of the kind happens.
use Rattle.std.specs.Prelude.{◌≡◌, ℕ, IsSome, IfOk, List, ◌∷◌, ◌++◌, map, replicate, slice_get, Some, All}
use Rattle.std.specs.List.{AllZip}
use Rattle.c99_tree.specs.declared.types.CTy.{CTy}
use Rattle.c99_tree.specs.declared.types.CTy.TheVariants as ty
use Rattle.c99_tree.specs.declared.types.CVar.{CVar}
use Rattle.c99_tree.specs.declared.types.CProto.{CProto}
use Rattle.c99_tree.specs.declared.unit.CRing.{CRing}
use Rattle.c99_tree.specs.declared.unit.Unit.{Unit as CUnit}
use Rattle.c99_tree.specs.Tree.{Expr, Exprs, lit, yes, no, copy, head, cell, ring_at, un, bin, choose, cast, field, pick, arr, rec, Stmt, copies, calls, nexts, stores, moves, puts, statements}
use Rattle.c99_tree.specs.Words.{elem_type}
use Rattle.c99_tree.specs.Lookup.{fields_of, ring_of, handler_of, place_of_var, place_of_ring}
use Rattle.c99_tree.specs.Values.{Value, number, struct_of, array_of, parts}
use Rattle.c99_tree.specs.Typing.{type_of, arms_type_of, fields_in}
use Rattle.c99_tree.specs.Evaluation.{Statics, values_in, evaluate}
use Rattle.c99_tree.specs.Step.{Progress, local_in, extern_values, perform}
use Rattle.c99_tree.specs.WellFormed.{list_of, parts_in}
use Rattle.c99_tree.specs.Typed.{IsValueOf, IsStatics}

abbrev pub IsNumber : Value → Type 0
IsNumber (number x) = Unit {0}
IsNumber (struct_of vs) = ⊥
IsNumber (array_of vs) = ⊥

abbrev pub IsArray : Value → Type 0
IsArray (number x) = ⊥
IsArray (struct_of vs) = ⊥
IsArray (array_of vs) = Unit {0}

-- the expression's value is a number, where it has one
abbrev pub GivesNumber : CUnit → Statics → Expr → Type 0
GivesNumber u s e = IfOk (evaluate u s e).value IsNumber

-- the expression's value is a number where this type is scalar, so that a conversion to it reads one
abbrev pub GivesFor : CUnit → Statics → CTy → Expr → Type 0
GivesFor u s (ty.Scalar t) e = GivesNumber u s e
GivesFor u s (ty.Struct x) e = Unit {0}
GivesFor u s (ty.Array x n) e = Unit {0}

-- as many types as expressions, each giving what is converted to the type at its place
abbrev pub GiveFor : CUnit → Statics → List CTy → Exprs → Type 0
GiveFor u s ts es = AllZip (GivesFor u s) ts (list_of es)

-- the statics hold the ring
abbrev pub HoldsRing : CUnit → Statics → List ℕ → Type 0
HoldsRing u s r = IsSome (slice_get s.rings (place_of_ring u r))

-- what an expression looks up by itself is there, and its operands are what it asks for; its parts are other expressions
abbrev pub Finds : CUnit → Statics → Expr → Type 0
Finds u s (lit k n) = Unit {0}
Finds u s yes = Unit {0}
Finds u s no = Unit {0}
Finds u s (copy x) = IsSome (slice_get s.copies (place_of_var u.externs x))
Finds u s (head r) = HoldsRing u s r
Finds u s (cell r) = HoldsRing u s r × IsSome (slice_get (values_in u s r) 0)
Finds u s (ring_at r a) = HoldsRing u s r × GivesNumber u s a
Finds u s (un op a) = GivesNumber u s a
Finds u s (bin op a b) = GivesNumber u s a × GivesNumber u s b
Finds u s (choose c a b) =
    GivesNumber u s c × ((t : CTy) × (arms_type_of (type_of u a) (type_of u b) ≡ Some t) × GivesFor u s t a × GivesFor u s t b)
Finds u s (cast t a) = GivesNumber u s a
Finds u s (field a x) = IfOk (evaluate u s a).value (λ v. IsSome (slice_get (parts v) (place_of_var (fields_in u.types (type_of u a)) x)))
Finds u s (pick x n a i) = IfOk (evaluate u s a).value IsArray × GivesNumber u s i
Finds u s (arr x n all) = GiveFor u s (replicate n (elem_type x)) all
Finds u s (rec x all) = (fields : List CVar) × (fields_of u.types x ≡ Some fields) × GiveFor u s (map (λ v. v.ty) fields) all

-- the local of the ring holds a value of the ring's type
abbrev pub HoldsLocal : CUnit → Progress → List ℕ → Type 0
HoldsLocal u p r = (ring : CRing) × (ring_of u r ≡ Some ring) × IsValueOf u.types ring.ty (local_in u p r)

-- what a statement looks up is there, while the externs hold these values; what its expressions look up is theirs
abbrev pub FindsFor : CUnit → List Value → Progress → Stmt → Type 0
FindsFor u xs p (copies x) = IsSome (slice_get xs (place_of_var u.externs x)) × IsSome (slice_get p.statics.copies (place_of_var u.externs x))
FindsFor u xs p (calls h guard args) =
    GivesNumber u p.statics guard × ((proto : CProto) × (handler_of u h ≡ Some proto) × GiveFor u p.statics proto.params args)
FindsFor u xs p (nexts r e) =
    IsSome (slice_get p.locals (place_of_ring u r)) × ((ring : CRing) × (ring_of u r ≡ Some ring) × GivesFor u p.statics ring.ty e)
FindsFor u xs p (stores r e) = HoldsRing u p.statics r × GivesNumber u p.statics e × HoldsLocal u p r
FindsFor u xs p (moves r e) = HoldsRing u p.statics r × GivesNumber u p.statics e
FindsFor u xs p (puts r) = HoldsRing u p.statics r × HoldsLocal u p r

-- the statement stands in `step` behind these
abbrev pub StandsBehind : CUnit → List Stmt → Stmt → Type 0
StandsBehind u before st = (rest : List Stmt) × (statements u ≡ before ++ st ∷ rest)

-- every expression in the statements of `step` finds what it looks up
abbrev pub AllFind : CUnit → Statics → Type 0
AllFind u s = All (λ st. All (Finds u s) (parts_in st)) (statements u)

-- where a call of `step` has carried out these statements, the statics are as the program declares them, and this
-- statement finds what it looks up
abbrev pub FindsAfter : CUnit → Statics → List ℕ → List Stmt → Stmt → Type 0
FindsAfter u s row before st =
    IfOk (perform u before s row).value (λ p. IsStatics u p.statics × FindsFor u (extern_values u row) p st)
