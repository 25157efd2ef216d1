-- The entries of tables are words of their types.
use Rattle.std.proofs.Common.{◌≡◌, ℕ, zero, suc, ◌+◌, ◌<◌, ◌≤◌, List, [], ◌∷◌, ◌++◌, length, take, drop, map, Some, Result, Ok, Err, refl, sym, ap, ◌∙◌, arith, subst, append_assoc, length-append}
use Rattle.std.specs.Prelude.{slice_get, slice_index_or, IfOk}
use Rattle.std.specs.List.{AllByRecursion, flat_map}
use Rattle.sm_io.proofs.Elements.{get_front}
use Rattle.stream_types.specs.declared.scalar.Scalar.{Scalar}
use Rattle.stream_types.specs.declared.scalar.Hazard.{Hazard}
use Rattle.stream_types.specs.declared.scalar.Ty.{Ty}
use Rattle.stream_types.specs.declared.scalar.Ty.TheVariants as ty
use Rattle.stream_types.specs.declared.types.TypeEntry.{TypeEntry}
use Rattle.stream_types.specs.Types.{leaves, repeated, words, AreWords}
use Rattle.stream_types.specs.TypeList.{IsTypeList}
use Rattle.stream_types.proofs.LeafWords.{length-leaves}
use Rattle.stream_types.proofs.LeafParts.{AreWords-take, AreWords-drop}
use Rattle.stream_core.specs.declared.node.LibForm.{LibForm}
use Rattle.stream_core.specs.declared.spec.ExternItem.{ExternItem}
use Rattle.stream_core.specs.Term.{Term, TreeSpec, TreeStream, TreeLib, initial_count}
use Rattle.stream_core.specs.Eval.{Table, Line, StepValues, entry_at, value, values, part_of, chunks, stream_line, operand_lines, lines, place_of, fired, observed, step_at, moment, extend, grown, next_table, table_after, IsHistory}
use Rattle.stream_core.specs.Equations.{bound_of}
use Rattle.stream_core.specs.Signature.{Signature, StreamSignature, stream_signature, signature_of}
use Rattle.stream_core.specs.WellTyped.{HasType, ListHasTypes, operand_types}
use Rattle.stream_core.specs.WrittenOut.{IsFormOf, IsWrittenOut}
use Rattle.stream_core.proofs.Signatures.{from_mapped}
use Rattle.stream_core.proofs.Reach.{length_chunks}
use Rattle.stream_core.proofs.TypedForms.{ok_bind}
use Rattle.stream_core.proofs.TypedValues.{typed}

-- ---- what is read of a specification whose defs are written out

pub record IsClosedStream (s : TreeSpec) (x : TreeStream) : Type 0 where
  pub expr : HasType (signature_of s) x.expr x.ty
  pub written : IsWrittenOut s.libs x.expr
  pub some : 0 < initial_count s.types x
  pub values : AreWords (repeated (initial_count s.types x) (leaves s.types x.ty)) x.init

pub record IsClosedLib (s : TreeSpec) (x : TreeLib) : Type 0 where
  pub args : ListHasTypes (signature_of s) x.args (operand_types x.form)
  pub written : AllByRecursion (IsWrittenOut s.libs) x.args

pub record IsClosed (s : TreeSpec) : Type 0 where
  pub types : IsTypeList s.types
  pub streams : AllByRecursion (IsClosedStream s) s.streams
  pub libs : AllByRecursion (IsClosedLib s) s.libs

-- ---- the types of lines

abbrev pub form_operands : List TreeLib → List Ty
form_operands [] = []
form_operands (x ∷ xs) = operand_types x.form ++ form_operands xs

-- of the streams, and then of the operands in the order of their forms
abbrev pub line_types : TreeSpec → List Ty
line_types s = map (λ (x : TreeStream). x.ty) s.streams ++ form_operands s.libs

-- a list of values of one type
abbrev pub AreValues : List TypeEntry → Ty → List (List ℕ) → Type 0
AreValues types t xs = AllByRecursion (AreWords (leaves types t)) xs

record IsLine (s : TreeSpec) (l : Line) (t : Ty) : Type 0 where
  pub init : AreValues s.types t l.init
  pub expr : HasType (signature_of s) l.expr t
  pub written : IsWrittenOut s.libs l.expr

abbrev AreLines : TreeSpec → List Line → List Ty → Type 0
AreLines s [] [] = Unit {0}
AreLines s [] (t ∷ ts) = ⊥
AreLines s (l ∷ ls) [] = ⊥
AreLines s (l ∷ ls) (t ∷ ts) = IsLine s l t × AreLines s ls ts

chunks_are : (types : List TypeEntry) (t : Ty) (n : ℕ) (xs : List ℕ) → AreWords (repeated n (leaves types t)) xs → AreValues types t (chunks n (words types t) xs)
chunks_are types t zero xs h = tt
chunks_are types t (suc n) xs h =
    let ss = leaves types t in
    let w = length-leaves types t in (
      subst (λ k. AreWords ss (take k xs)) w (AreWords-take ss (repeated n ss) xs h),
      subst (λ k. AreValues types t (chunks n (words types t) (drop k xs))) w
          (chunks_are types t n (drop (length ss) xs) (AreWords-drop ss (repeated n ss) xs h)),
    )

args_lines : (s : TreeSpec) (es : List Term) (ts : List Ty) → ListHasTypes (signature_of s) es ts → AllByRecursion (IsWrittenOut s.libs) es → (ls : List Line) (us : List Ty) → AreLines s ls us → AreLines s (map (λ e. record { init = []; expr = e }) es ++ ls) (ts ++ us)
args_lines s [] [] h o ls us r = r
args_lines s [] (t ∷ ts) h o ls us r = absurd h
args_lines s (e ∷ es) [] h o ls us r = absurd h
args_lines s (e ∷ es) (t ∷ ts) h o ls us r = (record { init = tt; expr = h.0; written = o.0 }, args_lines s es ts h.1 o.1 ls us r)

libs_lines : (s : TreeSpec) (xs : List TreeLib) → AllByRecursion (IsClosedLib s) xs → AreLines s (operand_lines xs) (form_operands xs)
libs_lines s [] h = tt
libs_lines s (x ∷ xs) h = args_lines s x.args (operand_types x.form) h.0.args h.0.written (operand_lines xs) (form_operands xs) (libs_lines s xs h.1)

streams_lines : (s : TreeSpec) (xs : List TreeStream) → AllByRecursion (IsClosedStream s) xs → (ls : List Line) (us : List Ty) → AreLines s ls us → AreLines s (map (stream_line s.types) xs ++ ls) (map (λ (x : TreeStream). x.ty) xs ++ us)
streams_lines s [] h ls us r = r
streams_lines s (x ∷ xs) h ls us r =
    (record { init = chunks_are s.types x.ty (initial_count s.types x) x.init h.0.values; expr = h.0.expr; written = h.0.written }, streams_lines s xs h.1 ls us r)

all_lines : (s : TreeSpec) → IsClosed s → AreLines s (lines s) (line_types s)
all_lines s closed = streams_lines s s.streams closed.streams (operand_lines s.libs) (form_operands s.libs) (libs_lines s s.libs closed.libs)

-- ---- places of lines

stream_place : (types : List TypeEntry) (xs : List TreeStream) (us : List Ty) (k : ℕ) (x : TreeStream) → slice_get xs k ≡ Some x → slice_get (map (λ (y : TreeStream). y.ty) xs ++ us) k ≡ Some x.ty
stream_place types [] us k x e = absurd (cc)
stream_place types (y ∷ ys) us zero x e = let is : y ≡ x = cc in ap (λ (z : TreeStream). Some z.ty) is
stream_place types (y ∷ ys) us (suc k) x e = stream_place types ys us k x e

stream_bound : (types : List TypeEntry) (xs : List TreeStream) (ls : List Line) (k : ℕ) (x : TreeStream) → slice_get xs k ≡ Some x → bound_of (map (stream_line types) xs ++ ls) k ≡ initial_count types x
stream_bound types [] ls k x e = absurd (cc)
stream_bound types (y ∷ ys) ls zero x e = let is : y ≡ x = cc in length_chunks (initial_count types y) _ y.init ∙ ap (initial_count types) is
stream_bound types (y ∷ ys) ls (suc k) x e = stream_bound types ys ls k x e

get_back : {X : Type 0} (xs ys : List X) (n j : ℕ) → length xs ≡ n → slice_get (xs ++ ys) (n + j) ≡ slice_get ys j
get_back [] ys n j e = ap (slice_get ys) (let q : n + j ≡ j = omega arith in q)
get_back (x ∷ xs) ys zero j e = absurd (omega arith)
get_back (x ∷ xs) ys (suc n) j e =
    ap (slice_get (x ∷ (xs ++ ys))) (let q : suc n + j ≡ suc (n + j) = omega arith in q) ∙ get_back xs ys n j (let q : length xs ≡ n = omega arith in q)

as_many : (sig : Signature) (es : List Term) (ts : List Ty) → ListHasTypes sig es ts → length es ≡ length ts
as_many sig [] [] h = refl
as_many sig [] (t ∷ ts) h = absurd h
as_many sig (e ∷ es) [] h = absurd h
as_many sig (e ∷ es) (t ∷ ts) h = ap suc (as_many sig es ts h.1)

-- operand j of form k, behind n lines
pub operand_place : (s : TreeSpec) (xs : List TreeLib) → AllByRecursion (IsClosedLib s) xs → (front : List Ty) (n k j : ℕ) (x : TreeLib) (t : Ty) → length front ≡ n → slice_get xs k ≡ Some x → slice_get (operand_types x.form) j ≡ Some t → slice_get (front ++ form_operands xs) (place_of n xs k + j) ≡ Some t
operand_place s [] h front n k j x t b e is = absurd (cc)
operand_place s (y ∷ ys) h front n zero j x t b e is =
    let same : y ≡ x = cc in
    get_back front (operand_types y.form ++ form_operands ys) n j b
    ∙ get_front (operand_types y.form) (form_operands ys) j t (ap (λ (z : TreeLib). slice_get (operand_types z.form) j) same ∙ is)
operand_place s (y ∷ ys) h front n (suc k) j x t b e is =
    let more_ : length (front ++ operand_types y.form) ≡ n + length y.args = omega (arith, b, length-append front (operand_types y.form), as_many (signature_of s) y.args (operand_types y.form) h.0.args) in
    ap (λ ts. slice_get ts (place_of (n + length y.args) ys k + j)) (sym (append_assoc front (operand_types y.form) (form_operands ys)))
    ∙ operand_place s ys h.1 (front ++ operand_types y.form) (n + length y.args) k j x t more_ e is

-- ---- tables

-- each list has so many values more than its line, each of its type
pub record IsList (types : List TypeEntry) (n : ℕ) (l : Line) (t : Ty) (xs : List (List ℕ)) : Type 0 where
  pub count : length xs ≡ length l.init + n
  pub values : AreValues types t xs

abbrev pub AreLists : List TypeEntry → ℕ → List Line → List Ty → Table → Type 0
AreLists types n [] [] [] = Unit {0}
AreLists types n (l ∷ ls) (t ∷ ts) (xs ∷ xss) = IsList types n l t xs × AreLists types n ls ts xss
AreLists types n _ _ _ = ⊥

at_place : {X : Type 0} (P : X → Type 0) (xs : List X) (i : ℕ) (d : X) → i < length xs → AllByRecursion P xs → P (slice_index_or xs i d)
at_place P [] i d b h = absurd (omega (arith, b))
at_place P (x ∷ xs) zero d b h = h.0
at_place P (x ∷ xs) (suc i) d b h = at_place P xs i d (omega (arith, b)) h.1

pub list_at : (types : List TypeEntry) (n : ℕ) (ls : List Line) (ts : List Ty) (T : Table) (k : ℕ) (t : Ty) → AreLists types n ls ts T → slice_get ts k ≡ Some t → (length (slice_index_or T k []) ≡ bound_of ls k + n) × AreValues types t (slice_index_or T k [])
list_at types n [] [] [] k t h e = absurd (cc)
list_at types n (l ∷ ls) (u ∷ ts) (xs ∷ xss) zero t h e = let is : u ≡ t = cc in (h.0.count, subst (λ x. AreValues types x xs) is h.0.values)
list_at types n (l ∷ ls) (u ∷ ts) (xs ∷ xss) (suc k) t h e = list_at types n ls ts xss k t h.1 e
list_at types n [] [] (xs ∷ xss) k t h e = absurd h
list_at types n [] (u ∷ ts) T k t h e = absurd h
list_at types n (l ∷ ls) [] T k t h e = absurd h
list_at types n (l ∷ ls) (u ∷ ts) [] k t h e = absurd h

-- an entry below the bound
entry_words : (types : List TypeEntry) (n : ℕ) (ls : List Line) (ts : List Ty) (T : Table) (k i : ℕ) (t : Ty) → AreLists types n ls ts T → slice_get ts k ≡ Some t → i < bound_of ls k + n → AreWords (leaves types t) (entry_at T k i)
entry_words types n ls ts T k i t h e b =
    let found = list_at types n ls ts T k t h e in
    let count = found.0 in
    at_place (AreWords (leaves types t)) (slice_index_or T k []) i [] (omega (arith, b, count)) found.1

first_lists : (s : TreeSpec) (ls : List Line) (ts : List Ty) → AreLines s ls ts → AreLists s.types 0 ls ts (map (λ (x : Line). x.init) ls)
first_lists s [] [] h = tt
first_lists s [] (t ∷ ts) h = absurd h
first_lists s (l ∷ ls) [] h = absurd h
first_lists s (l ∷ ls) (t ∷ ts) h = (record { count = omega arith; values = h.0.init }, first_lists s ls ts h.1)

-- a value of each type
abbrev AreEach : List TypeEntry → List Ty → List (List ℕ) → Type 0
AreEach types [] [] = Unit {0}
AreEach types (t ∷ ts) (v ∷ vs) = AreWords (leaves types t) v × AreEach types ts vs
AreEach types _ _ = ⊥

push_value : (types : List TypeEntry) (t : Ty) (xs : List (List ℕ)) (v : List ℕ) → AreValues types t xs → AreWords (leaves types t) v → AreValues types t (xs ++ v ∷ [])
push_value types t [] v h w = (w, tt)
push_value types t (x ∷ xs) v h w = (h.0, push_value types t xs v h.1 w)

longer_lists : (types : List TypeEntry) (n : ℕ) (ls : List Line) (ts : List Ty) (T : Table) (ns : List (List ℕ)) → AreLists types n ls ts T → AreEach types ts ns → AreLists types (suc n) ls ts (extend T ns)
longer_lists types n [] [] [] ns h e = tt
longer_lists types n (l ∷ ls) (t ∷ ts) (xs ∷ xss) (v ∷ vs) h e =
    let count = h.0.count in
    let more_ : length (xs ++ v ∷ []) ≡ length l.init + suc n = omega (arith, count, length-append xs (v ∷ [])) in
    (record { count = more_; values = push_value types t xs v h.0.values e.0 }, longer_lists types n ls ts xss vs h.1 e.1)
longer_lists types n (l ∷ ls) (t ∷ ts) (xs ∷ xss) [] h e = absurd e
longer_lists types n [] [] (xs ∷ xss) ns h e = absurd h
longer_lists types n [] (t ∷ ts) T ns h e = absurd h
longer_lists types n (l ∷ ls) [] T ns h e = absurd h
longer_lists types n (l ∷ ls) (t ∷ ts) [] ns h e = absurd h

-- ---- rows

extern_words : (types : List TypeEntry) (es : List ExternItem) (row : List ℕ) (x : ℕ) (t : Ty) → AreWords (flat_map (λ (e : ExternItem). leaves types e.ty) es) row → slice_get (map (λ (e : ExternItem). e.ty) es) x ≡ Some t → AreWords (leaves types t) (part_of types es row x)
extern_words types [] row x t h e = absurd (cc)
extern_words types (y ∷ ys) row zero t h e =
    let is : y.ty ≡ t = cc in
    let front = AreWords-take (leaves types y.ty) (flat_map (λ (e : ExternItem). leaves types e.ty) ys) row h in
    subst (λ u. AreWords (leaves types u) (take (words types y.ty) row)) is (subst (λ k. AreWords (leaves types y.ty) (take k row)) (length-leaves types y.ty) front)
extern_words types (y ∷ ys) row (suc x) t h e =
    let rest = AreWords-drop (leaves types y.ty) (flat_map (λ (e : ExternItem). leaves types e.ty) ys) row h in
    extern_words types ys (drop (words types y.ty) row) x t (subst (λ k. AreWords (flat_map (λ (e : ExternItem). leaves types e.ty) ys) (drop k row)) (length-leaves types y.ty) rest) e

any_ok : {A : Type 0} (r : Result A Hazard) → IfOk r (λ _. Unit {0})
any_ok (Ok x) = tt
any_ok (Err e) = tt

module _ (s : TreeSpec) (closed : IsClosed s) (h : List (List ℕ)) (history : IsHistory s h) where
  abbrev Lists : ℕ → Table → Type 0
  Lists n T = AreLists s.types n (lines s) (line_types s) T

  module _ (n : ℕ) (within : n < length h) (T : Table) (lists : Lists n T) where
    extern_part : (x : ℕ) (t : Ty) → slice_get (signature_of s).externs x ≡ Some t → AreWords (leaves s.types t) (part_of s.types s.externs (slice_index_or h n []) x)
    extern_part x t e = extern_words s.types s.externs (slice_index_or h n []) x t (at_place (AreWords (flat_map (λ (y : ExternItem). leaves s.types y.ty) s.externs)) h n [] within history) e

    closed_stream : (x : ℕ) (z : TreeStream) → slice_get s.streams x ≡ Some z → IsClosedStream s z
    closed_stream x z e = by s.streams x closed.streams e
      where
        by : (xs : List TreeStream) (k : ℕ) → AllByRecursion (IsClosedStream s) xs → slice_get xs k ≡ Some z → IsClosedStream s z
        by [] k h e = absurd (cc)
        by (y ∷ ys) zero h e = let is : y ≡ z = cc in subst (IsClosedStream s) is h.0
        by (y ∷ ys) (suc k) h e = by ys k h.1 e

    stream_entry : (x k : ℕ) (y : StreamSignature) → slice_get (signature_of s).streams x ≡ Some y → k < y.count → AreWords (leaves s.types y.ty) (entry_at T x (n + k))
    stream_entry x k y e b =
        let z = from_mapped (stream_signature s.types) s.streams x y e in
        let count : initial_count s.types z.0 ≡ y.count = ap (λ (v : StreamSignature). v.count) z.2 in
        let is : z.0.ty ≡ y.ty = ap (λ (v : StreamSignature). v.ty) z.2 in
        let bound : bound_of (lines s) x ≡ initial_count s.types z.0 = stream_bound s.types s.streams (operand_lines s.libs) x z.0 z.1 in
        let at : slice_get (line_types s) x ≡ Some z.0.ty = stream_place s.types s.streams (form_operands s.libs) x z.0 z.1 in
        subst (λ u. AreWords (leaves s.types u) (entry_at T x (n + k))) is
        (entry_words s.types n (lines s) (line_types s) T x (n + k) z.0.ty lists at (omega (arith, b, bound, count)))

    stream_some : (x : ℕ) (y : StreamSignature) → slice_get (signature_of s).streams x ≡ Some y → 0 < y.count
    stream_some x y e =
        let z = from_mapped (stream_signature s.types) s.streams x y e in
        let count : initial_count s.types z.0 ≡ y.count = ap (λ (v : StreamSignature). v.count) z.2 in
        let some = (closed_stream x z.0 z.1).some in
        omega (arith, count, some)

    length_types : length (map (λ (x : TreeStream). x.ty) s.streams) ≡ length s.streams
    length_types = by s.streams
      where
        by : (xs : List TreeStream) → length (map (λ (x : TreeStream). x.ty) xs) ≡ length xs
        by [] = refl
        by (x ∷ xs) = ap suc (by xs)

    operand_entry : (k j i : ℕ) (f : LibForm) (c : Scalar) → IsFormOf s.libs k f → slice_get (operand_types f) j ≡ Some (ty.Scalar c) → i < n → AreWords (c ∷ []) (entry_at T (place_of (length s.streams) s.libs k + j) i)
    operand_entry k j i f c is e b =
        let at = operand_place s s.libs closed.libs (map (λ (x : TreeStream). x.ty) s.streams) (length s.streams) k j is.item (ty.Scalar c) length_types is.is (ap (λ (g : LibForm). slice_get (operand_types g) j) is.form_is ∙ e) in
        entry_words s.types n (lines s) (line_types s) T (place_of (length s.streams) s.libs k + j) i (ty.Scalar c) lists at (omega (arith, b))

    -- an expression's value at step n
    pub value_typed : (e : Term) (t : Ty) → HasType (signature_of s) e t → IsWrittenOut s.libs e → IfOk (value (moment s T h n) e) (AreWords (leaves s.types t))
    value_typed e t = typed (signature_of s) s.libs (moment s T h n) closed.types refl extern_part stream_entry stream_some operand_entry e t

    next_values : (ls : List Line) (ts : List Ty) → AreLines s ls ts → IfOk (values (moment s T h n) (map (λ (x : Line). x.expr) ls)) (AreEach s.types ts)
    next_values [] [] are = tt
    next_values [] (t ∷ ts) are = absurd are
    next_values (l ∷ ls) [] are = absurd are
    next_values (l ∷ ls) (t ∷ ts) are =
        ok_bind (AreWords (leaves s.types t)) (AreEach s.types (t ∷ ts)) (value (moment s T h n) l.expr) _ (value_typed l.expr t are.0.expr are.0.written)
        (λ v p. ok_bind (AreEach s.types ts) (AreEach s.types (t ∷ ts)) (values (moment s T h n) (map (λ (x : Line). x.expr) ls)) (λ vs. Ok (v ∷ vs)) (next_values ls ts are.1) (λ vs q. (p, q)))

    step_lists : IfOk (next_table s h n T) (Lists (suc n))
    step_lists =
        let m = moment s T h n in
        let Next : StepValues → Type 0 = λ v. AreEach s.types (line_types s) v.nexts in
        ok_bind Next (Lists (suc n)) (step_at s m) (grown T)
        (ok_bind (λ _. Unit {0}) Next (fired m 0 s.triggers) _ (any_ok (fired m 0 s.triggers))
        (λ ts _. ok_bind (λ _. Unit {0}) Next (observed m 0 s.observers) _ (any_ok (observed m 0 s.observers))
        (λ os _. ok_bind (AreEach s.types (line_types s)) Next (values m (map (λ (x : Line). x.expr) (lines s))) (λ ns. Ok (record { triggered = ts; observed = os; nexts = ns })) (next_values (lines s) (line_types s) (all_lines s closed)) (λ ns p. p))))
        (λ v p. longer_lists s.types n (lines s) (line_types s) T v.nexts lists p)

  -- the lists after n steps
  pub lists_typed : (n : ℕ) → n ≤ length h → IfOk (table_after s h n) (Lists n)
  lists_typed zero b = first_lists s (lines s) (line_types s) (all_lines s closed)
  lists_typed (suc n) b = ok_bind (Lists n) (Lists (suc n)) (table_after s h n) (next_table s h n) (lists_typed n (omega (arith, b))) (λ T p. step_lists n (omega (arith, b)) T p)
