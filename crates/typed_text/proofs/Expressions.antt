-- Each expression that keeps the table and has no fault is read as a well typed tree, with good forms.
use Rattle.std.proofs.Common.{◌≡◌, ℕ, suc, ◌+◌, ◌≤◌, ◌<◌, ◌^◌, Bool, true, false, nat_le, nat_lt, List, [], ◌∷◌, map, length, refl, sym, ap, ◌∙◌, subst, arith}
use Rattle.std.specs.Prelude.{◌&&◌, Option, Some, None, IsTrue}
use Rattle.std.specs.List.{AllByRecursion}
use Rattle.std.proofs.lemmas.Bool.{and_parts}
use Rattle.std.proofs.lemmas.Bool.Decides.{nat_tests}
use Rattle.stream_types.specs.declared.scalar.Ty.{Ty}
use Rattle.stream_types.specs.Scalars.{is_integer}
use Rattle.stream_types.specs.declared.scalar.Ty.TheVariants as ty
use Rattle.stream_core.specs.declared.node.LibForm.{LibForm}
use Rattle.stream_core.specs.declared.node.LibForm.TheVariants as form
use Rattle.stream_core.specs.Term as t
use Rattle.stream_core.specs.Term.{Term, Terms}
use Rattle.stream_core.specs.Signature.{Signature}
use Rattle.stream_core.specs.WellTyped.{HasType, ListHasTypes, IsGoodForm, operand_types, form_gives}
use Rattle.stream_core.specs.WellTyped.{bool as ty_bool}
use Rattle.spec_text.specs.declared.surface.Expr.{Expr, map-Expr, roll-Expr}
use Rattle.spec_text.specs.declared.surface.Expr.TheOpen.{Expr-F}
use Rattle.spec_text.specs.declared.surface.Expr.TheFolds.{fold-roll-Expr, ind-Expr}
use Rattle.spec_text.specs.KeepsTable.{between, all_kept, kept_from, keeps_name, keeps_type, keeps_expr, keeps_expr_step}
use Rattle.type_check.specs.NamedType.{NamedType, scalar, bool, Declarations, Struct, struct_in}
use Rattle.type_check.specs.Judged.{Verdict, has, Judged, first_of, all_types, have_types, judged, type_of, types_of, Scope, named_in, on_one, on_two, on_shift, on_truths, on_choice, on_integer, on_index, on_items, on_record, on_votes}
use Rattle.type_check.specs.TypeOrder.{Event, ty_of}
use Rattle.typed_text.specs.ReadSpec.{Numbers, Read, plain, library, operand, scalar_of, scalar_in, first_scalar, ty_in, terms, terms_from, read_step, read_expr}
use Rattle.typed_text.proofs.Sound.{WellNamed, IsEntered, AllMet, IsPlace, judged_of, own_type, IsSound, AllSound, SoundIf, IsNode, node_of, parts_sound, Gives, sound_plain, GivesForm, sound_library}
use Rattle.typed_text.proofs.Verdicts.{un_gives, bin_gives, shift_gives, truths_typed, truths_has, choice_gives, integer_of, integer_named, integer_typed, index_gives, array_gives, record_gives, votes_typed}
use Rattle.typed_text.proofs.Reading.{name_sound, drop_sound, cast_sound, field_sound}

module _ (numbers : Numbers) (scope : Scope) (es : List Event) (sig : Signature) (here : IsPlace numbers scope es sig) where
  abbrev Sound_ : Read → Type 0
  Sound_ r = SoundIf es numbers.order scope.all sig r

  abbrev All_ : List Read → Type 0
  All_ ps = AllSound numbers.order scope.all sig ps

  abbrev Gives_ : NamedType → Term → Type 0
  Gives_ u e = Gives numbers.order scope.all sig u e

  abbrev GivesForm_ : LibForm → NamedType → List Term → Type 0
  GivesForm_ form u ts = GivesForm numbers.order scope.all sig form u ts

  -- ---- nodes over parts that are read

  plain_case : (ps : List Read) (v : Verdict) (make : List Term → Term) → AllByRecursion Sound_ ps
      → ((w : NamedType) → v ≡ has w → type_of (judged (map judged_of ps) v) ≡ w → All_ ps → (k : ℕ) → (WellNamed scope.all w → IsEntered scope.all numbers.order sig.types w) → Gives_ w (make (terms_from k ps)))
      → Sound_ (plain (judged (map judged_of ps) v) ps make)
  plain_case ps v make g f h m =
      let node = node_of es (All_ ps) (map judged_of ps) v (parts_sound es numbers.order scope.all sig ps g) h m in
      sound_plain numbers scope es sig here (All_ ps) v (judged (map judged_of ps) v) ps make node node.parts
      (λ k. f node.ty node.v_is node.type_is node.parts k (λ good. here.entered node.ty good node.is_met))

  library_case : (ps : List Read) (v : Verdict) (at : ℕ) (form : LibForm) → AllByRecursion Sound_ ps → ((w : NamedType) → v ≡ has w → All_ ps → (k : ℕ) → GivesForm_ form w (terms_from k ps))
      → Sound_ (library (judged (map judged_of ps) v) at form ps)
  library_case ps v at form g f h m =
      let node = node_of es (All_ ps) (map judged_of ps) v (parts_sound es numbers.order scope.all sig ps g) h m in
      sound_library numbers scope es sig here (All_ ps) v (judged (map judged_of ps) v) ps at form node node.parts (λ k. f node.ty node.v_is node.parts k)

  -- ---- truth values

  truth_gives : (at : ℕ) (ts : List NamedType) (w : NamedType) (e : Term) → on_truths at ts ≡ has w → HasType sig e ty_bool → Gives_ w e
  truth_gives at ts w e v h = subst (λ u. Gives_ u e) (truths_has at ts w v).truth (tt, h)

  truth_form : (at : ℕ) (form : LibForm) (ps : List Read) (w : NamedType) → on_truths at (types_of (map judged_of ps)) ≡ has w → IsGoodForm form → operand_types form ≡ map (λ (p : Read). ty_bool) ps → form_gives form ≡ ty_bool → All_ ps → (k : ℕ)
      → GivesForm_ form w (terms_from k ps)
  truth_form at form ps w v good are gives h k =
      let r = truths_has at (types_of (map judged_of ps)) w v in
      (subst (WellNamed scope.all) r.truth tt, good, subst (ListHasTypes sig (terms_from k ps)) (sym are) (truths_typed numbers.order scope.all sig ps h r.each k), sym (ap (ty_of numbers.order) r.truth) ∙ sym gives)

  truth_case : (at : ℕ) (form : LibForm) (ps : List Read) → IsGoodForm form → operand_types form ≡ map (λ (p : Read). ty_bool) ps → form_gives form ≡ ty_bool → AllByRecursion Sound_ ps
      → Sound_ (library (judged (map judged_of ps) (on_truths at (types_of (map judged_of ps)))) at form ps)
  truth_case at form ps good are gives g = library_case ps (on_truths at (types_of (map judged_of ps))) at form g (λ w v h k. truth_form at form ps w v good are gives h k)

  two_truths : (at : ℕ) (make : Term → Term → Term) → ((x y : Term) → HasType sig x ty_bool → HasType sig y ty_bool → HasType sig (make x y) ty_bool) → (a b : Read) → Sound_ a → Sound_ b
      → Sound_ (plain (judged (map judged_of (a ∷ b ∷ [])) (on_truths at (types_of (map judged_of (a ∷ b ∷ []))))) (a ∷ b ∷ []) (λ as_. make (operand as_ 0) (operand as_ 1)))
  two_truths at make f a b g h =
      let ps : List Read = a ∷ b ∷ [] in
      let ts = types_of (map judged_of ps) in
      plain_case ps (on_truths at ts) (λ as_. make (operand as_ 0) (operand as_ 1)) (g, (h, tt))
      (λ w v same s k there.
      let q = truths_typed numbers.order scope.all sig ps s (truths_has at ts w v).each k in
      truth_gives at ts w (make (a.term k) (b.term (k + a.count))) v (f (a.term k) (b.term (k + a.count)) q.0 q.1.0))

  -- ---- integers

  abs_gives : (at : ℕ) (u w : NamedType) (x : Term) → on_integer at u ≡ has w → WellNamed scope.all u → HasType sig x (ty_of numbers.order u) → Gives_ w (t.abs (scalar_in u) x)
  abs_gives at u w x e good h = let i = integer_of numbers.order at u w e in (integer_named scope.all at u w e good, (i.fits, integer_typed numbers.order sig u w x i h, i.same))

  sign_gives : (at : ℕ) (u w : NamedType) (x : Term) → on_integer at u ≡ has w → WellNamed scope.all u → HasType sig x (ty_of numbers.order u) → Gives_ w (t.sign (scalar_in u) x)
  sign_gives at u w x e good h = let i = integer_of numbers.order at u w e in (integer_named scope.all at u w e good, (i.fits, integer_typed numbers.order sig u w x i h, i.same))

  -- a window's bounds
  window_bounds : (n : ℕ) → between 1 12 n ≡ true → (1 ≤ n) × (n ≤ 12)
  window_bounds n h = let p = and_parts (nat_le 1 n) (nat_le n 12) h in (grind (arith, nat_tests, p.0), grind (arith, nat_tests, p.1))

  form_bounds : (low high : ℕ) → between low 128 high ≡ true → (low ≤ high) × (high ≤ 128)
  form_bounds low high h = let p = and_parts (nat_le low high) (nat_le high 128) h in (grind (arith, nat_tests, p.0), grind (arith, nat_tests, p.1))

  clock_bounds : (period phase : ℕ) → (nat_lt phase period && nat_lt period (2 ^ 32)) ≡ true → (1 ≤ period) × (period ≤ 4294967295) × (phase < period)
  clock_bounds period phase h =
      let p = and_parts (nat_lt phase period) (nat_lt period (2 ^ 32)) h in
      let a : phase < period = grind (arith, nat_tests, p.0) in
      let b : period < 4294967296 = grind (arith, nat_tests, p.1) in
      (omega (arith, a), omega (arith, b), a)

  -- a form over one integer, of its type
  window_case : (at : ℕ) (form : LibForm) (a : Read) → (IsTrue (is_integer (scalar_of a)) → IsGoodForm form) → operand_types form ≡ ty.Scalar (scalar_of a) ∷ [] → form_gives form ≡ ty.Scalar (scalar_of a) → Sound_ a
      → Sound_ (library (judged (a.judged ∷ []) (on_integer at (type_of a.judged))) at form (a ∷ []))
  window_case at form a good are gives g =
      library_case (a ∷ []) (on_integer at (type_of a.judged)) at form (g, tt)
      (λ w e s k.
      let i = integer_of numbers.order at (type_of a.judged) w e in
      (integer_named scope.all at (type_of a.judged) w e s.0.well, good i.fits, subst (ListHasTypes sig (a.term k ∷ [])) (sym are) (integer_typed numbers.order sig (type_of a.judged) w (a.term k) i (s.0.typed k), tt), i.same ∙ sym gives))

  -- ---- parts

  abbrev Kept : Expr → Type 0
  Kept e = keeps_expr e ≡ true → Sound_ (read_expr numbers scope e)

  abbrev KeptExpr : Type 0
  KeptExpr = (e : Expr) × Kept e

  abbrev read_ : KeptExpr → Read
  read_ e = read_expr numbers scope e.0

  abbrev expr_of : Expr-F KeptExpr → Expr-F Expr
  expr_of y = map-Expr KeptExpr Expr (λ e. e.0) y

  abbrev firsts : List KeptExpr → List Expr
  firsts xs = map (λ (e : KeptExpr). e.0) xs

  each_sound : (xs : List KeptExpr) → all_kept (map keeps_expr (firsts xs)) ≡ true → AllByRecursion Sound_ (map (read_expr numbers scope) (firsts xs))
  each_sound [] k = tt
  each_sound (x ∷ xs) k = let p = and_parts (keeps_expr x.0) (all_kept (map keeps_expr (firsts xs))) k in (x.1 p.0, each_sound xs p.1)

  as_many_reads : (xs : List Expr) → length (map keeps_expr xs) ≡ length (map (read_expr numbers scope) xs)
  as_many_reads [] = refl
  as_many_reads (x ∷ xs) = ap suc (as_many_reads xs)

  votes_between : (xs : List Expr) → between 1 9 (length (map keeps_expr xs)) ≡ true → (1 ≤ length (map (read_expr numbers scope) xs)) × (length (map (read_expr numbers scope) xs) ≤ 9)
  votes_between xs h =
      let n = length (map (read_expr numbers scope) xs) in
      let k : between 1 9 n ≡ true = subst (λ i. between 1 9 i ≡ true) (as_many_reads xs) h in
      let p = and_parts (nat_le 1 n) (nat_le n 9) k in
      (grind (arith, nat_tests, p.0), grind (arith, nat_tests, p.1))

  -- ---- each kind of expression

  step_sound : (y : Expr-F KeptExpr) → keeps_expr_step (map-Expr Expr Bool keeps_expr (expr_of y)) ≡ true → Sound_ (read_step numbers scope (map-Expr Expr Read (read_expr numbers scope) (expr_of y)))
  step_sound (Expr-F.Lit at s w) k =
      plain_case [] (has (scalar s)) (λ as_. t.lit s w) tt (λ u e same h i there. let q : scalar s ≡ u = cc in subst (λ v. Gives_ v (t.lit s w)) q (tt, (k, refl)))
  step_sound (Expr-F.Name x) k = name_sound numbers scope es sig here x (named_in scope.all x.name) refl
  step_sound (Expr-F.Drop at n x) k = drop_sound numbers scope es sig here at n x (named_in scope.all x.name) refl
  step_sound (Expr-F.Un at op a) k =
      let r = read_ a in
      plain_case (r ∷ []) (on_one at op (type_of r.judged)) (λ as_. t.un op (scalar_of r) (operand as_ 0)) (a.1 k, tt)
      (λ w e same s i there. un_gives numbers.order scope.all sig at op (type_of r.judged) w (r.term i) e (s.0.typed i))
  step_sound (Expr-F.Bin at op a b) k =
      let q = and_parts (keeps_expr a.0) (keeps_expr b.0) k in
      let x = read_ a in
      let y = read_ b in
      plain_case (x ∷ y ∷ []) (on_two at op (type_of x.judged) (type_of y.judged)) (λ as_. t.bin op (scalar_of x) (operand as_ 0) (operand as_ 1)) (a.1 q.0, (b.1 q.1, tt))
      (λ w e same s i there. bin_gives numbers.order scope.all sig at op (type_of x.judged) (type_of y.judged) w (x.term i) (y.term (i + x.count)) e (s.0.typed i) (s.1.0.typed (i + x.count)))
  step_sound (Expr-F.Shift at dir a b) k =
      let q = and_parts (keeps_expr a.0) (keeps_expr b.0) k in
      let x = read_ a in
      let y = read_ b in
      plain_case (x ∷ y ∷ []) (on_shift at (type_of x.judged) (type_of y.judged)) (λ as_. t.shift dir (scalar_of x) (operand as_ 0) (scalar_of y) (operand as_ 1)) (a.1 q.0, (b.1 q.1, tt))
      (λ w e same s i there. shift_gives numbers.order scope.all sig at dir (type_of x.judged) (type_of y.judged) w (x.term i) (y.term (i + x.count)) e (s.0.typed i) (s.1.0.typed (i + x.count)))
  step_sound (Expr-F.And at a b) k =
      let q = and_parts (keeps_expr a.0) (keeps_expr b.0) k in two_truths at t.and (λ x y h g. (h, g, refl)) (read_ a) (read_ b) (a.1 q.0) (b.1 q.1)
  step_sound (Expr-F.Or at a b) k =
      let q = and_parts (keeps_expr a.0) (keeps_expr b.0) k in two_truths at t.or (λ x y h g. (h, g, refl)) (read_ a) (read_ b) (a.1 q.0) (b.1 q.1)
  step_sound (Expr-F.Implies at a b) k =
      let q = and_parts (keeps_expr a.0) (keeps_expr b.0) k in two_truths at t.implies (λ x y h g. (h, g, refl)) (read_ a) (read_ b) (a.1 q.0) (b.1 q.1)
  step_sound (Expr-F.If at c a b) k =
      let p = and_parts (keeps_expr c.0 && keeps_expr a.0) (keeps_expr b.0) k in
      let q = and_parts (keeps_expr c.0) (keeps_expr a.0) p.0 in
      let x = read_ c in
      let y = read_ a in
      let z = read_ b in
      plain_case (x ∷ y ∷ z ∷ []) (on_choice at (type_of x.judged) (type_of y.judged) (type_of z.judged)) (λ as_. t.choose (operand as_ 0) (operand as_ 1) (operand as_ 2)) (c.1 q.0, (a.1 q.1, (b.1 p.1, tt)))
      (λ w e same s i there. choice_gives numbers.order scope.all sig at (type_of x.judged) (type_of y.judged) (type_of z.judged) w (x.term i) (y.term (i + x.count)) (z.term (i + x.count + y.count)) e
      s.1.0.well (s.0.typed i) (s.1.0.typed (i + x.count)) (s.1.1.0.typed (i + x.count + y.count)))
  step_sound (Expr-F.Cast at to a) k = let q = and_parts (keeps_type to) (keeps_expr a.0) k in cast_sound numbers scope es sig here at to (read_ a) (a.1 q.1)
  step_sound (Expr-F.Abs at a) k =
      let r = read_ a in
      plain_case (r ∷ []) (on_integer at (type_of r.judged)) (λ as_. t.abs (scalar_of r) (operand as_ 0)) (a.1 k, tt) (λ w e same s i there. abs_gives at (type_of r.judged) w (r.term i) e s.0.well (s.0.typed i))
  step_sound (Expr-F.Sign at a) k =
      let r = read_ a in
      plain_case (r ∷ []) (on_integer at (type_of r.judged)) (λ as_. t.sign (scalar_of r) (operand as_ 0)) (a.1 k, tt) (λ w e same s i there. sign_gives at (type_of r.judged) w (r.term i) e s.0.well (s.0.typed i))
  step_sound (Expr-F.Index at a b) k =
      let q = and_parts (keeps_expr a.0) (keeps_expr b.0) k in
      let x = read_ a in
      let y = read_ b in
      plain_case (x ∷ y ∷ []) (on_index at (type_of x.judged) (type_of y.judged)) (λ as_. t.index (ty_in numbers x.judged) (operand as_ 0) (operand as_ 1)) (a.1 q.0, (b.1 q.1, tt))
      (λ w e same s i there. index_gives numbers.order scope.all sig at (type_of x.judged) (type_of y.judged) w (x.term i) (y.term (i + x.count)) e s.0.well s.0.entered (s.0.typed i) (s.1.0.typed (i + x.count)))
  step_sound (Expr-F.Field at a x) k = let q = and_parts (keeps_expr a.0) (keeps_name x) k in field_sound numbers scope es sig here at (read_ a) (a.1 q.0) x
  step_sound (Expr-F.Array at xs) k =
      let q = and_parts (between 1 1024 (length (map keeps_expr (firsts xs)))) (all_kept (map keeps_expr (firsts xs))) k in
      let ps = map (read_expr numbers scope) (firsts xs) in
      let v = on_items scope.all at (types_of (map judged_of ps)) in
      plain_case ps v (λ as_. t.array (ty_in numbers (judged (map judged_of ps) v)) (terms as_)) (each_sound xs q.1)
      (λ w e same s i there. array_gives numbers.order scope.all sig scope.all at ps w (type_of (judged (map judged_of ps) v)) e same s there i)
  step_sound (Expr-F.Record at x xs) k =
      let q = and_parts (keeps_name x) (nat_le 1 (length (map keeps_expr (firsts xs))) && all_kept (map keeps_expr (firsts xs))) k in
      let r = and_parts (nat_le 1 (length (map keeps_expr (firsts xs)))) (all_kept (map keeps_expr (firsts xs))) q.1 in
      let ps = map (read_expr numbers scope) (firsts xs) in
      let v = on_record (struct_in scope.before x.name) at x (types_of (map judged_of ps)) in
      plain_case ps v (λ as_. t.struct (ty_in numbers (judged (map judged_of ps) v)) (terms as_)) (each_sound xs r.1)
      (λ w e same s i there. record_gives numbers.order scope.all sig (struct_in scope.before x.name) at x ps w (type_of (judged (map judged_of ps) v)) e same (λ st. here.structs x.name st) s there i)
  step_sound (Expr-F.Once at a) k = truth_case at form.Once (read_ a ∷ []) tt refl refl (a.1 k, tt)
  step_sound (Expr-F.Historically at a) k = truth_case at form.Historically (read_ a ∷ []) tt refl refl (a.1 k, tt)
  step_sound (Expr-F.Yesterday at a) k = truth_case at form.Yesterday (read_ a ∷ []) tt refl refl (a.1 k, tt)
  step_sound (Expr-F.WeaklyYesterday at a) k = truth_case at form.WeaklyYesterday (read_ a ∷ []) tt refl refl (a.1 k, tt)
  step_sound (Expr-F.Since at a b) k = let q = and_parts (keeps_expr a.0) (keeps_expr b.0) k in truth_case at form.Since (read_ a ∷ read_ b ∷ []) tt refl refl (a.1 q.0, (b.1 q.1, tt))
  step_sound (Expr-F.OnceIn at low high a) k = let q = and_parts (between low 128 high) (keeps_expr a.0) k in truth_case at (form.OnceIn low high) (read_ a ∷ []) (form_bounds low high q.0) refl refl (a.1 q.1, tt)
  step_sound (Expr-F.HistoricallyIn at low high a) k = let q = and_parts (between low 128 high) (keeps_expr a.0) k in truth_case at (form.HistoricallyIn low high) (read_ a ∷ []) (form_bounds low high q.0) refl refl (a.1 q.1, tt)
  step_sound (Expr-F.SinceIn at low high a b) k =
      let p = and_parts (between low 128 high && keeps_expr a.0) (keeps_expr b.0) k in
      let q = and_parts (between low 128 high) (keeps_expr a.0) p.0 in
      truth_case at (form.SinceIn low high) (read_ a ∷ read_ b ∷ []) (form_bounds low high q.0) refl refl (a.1 q.1, (b.1 p.1, tt))
  step_sound (Expr-F.Clock at period phase) k =
      library_case [] (has bool) at (form.Clock period phase) tt (λ w e s i. let q : bool ≡ w = cc in (subst (WellNamed scope.all) q tt, clock_bounds period phase k, tt, ap (ty_of numbers.order) (sym q)))
  step_sound (Expr-F.Majority at xs) k =
      let q = and_parts (between 1 9 (length (map keeps_expr (firsts xs)))) (all_kept (map keeps_expr (firsts xs))) k in
      let ps = map (read_expr numbers scope) (firsts xs) in
      let n = votes_between (firsts xs) q.0 in
      plain_case ps (on_votes at (λ u. u) (types_of (map judged_of ps))) (λ as_. t.majority (first_scalar ps) (terms as_)) (each_sound xs q.1)
      (λ w e same s i there.
      let v = votes_typed numbers.order scope.all sig at (λ u. u) ps w e n.0 n.1 s in
      let r = v.typed i in
      subst (λ u. Gives_ u (t.majority (first_scalar ps) (terms (terms_from i ps)))) v.answer (tt, (r.0, r.1, refl)))
  step_sound (Expr-F.Agreed at xs) k =
      let q = and_parts (between 1 9 (length (map keeps_expr (firsts xs)))) (all_kept (map keeps_expr (firsts xs))) k in
      let ps = map (read_expr numbers scope) (firsts xs) in
      let n = votes_between (firsts xs) q.0 in
      plain_case ps (on_votes at (λ u. bool) (types_of (map judged_of ps))) (λ as_. t.agreed (first_scalar ps) (terms as_)) (each_sound xs q.1)
      (λ w e same s i there.
      let v = votes_typed numbers.order scope.all sig at (λ u. bool) ps w e n.0 n.1 s in
      let r = v.typed i in
      subst (λ u. Gives_ u (t.agreed (first_scalar ps) (terms (terms_from i ps)))) v.answer (tt, (r.0, r.1, refl)))
  step_sound (Expr-F.WindowMax at n a) k =
      let q = and_parts (between 1 12 n) (keeps_expr a.0) k in
      let b = window_bounds n q.0 in
      window_case at (form.WindowMax n (scalar_of (read_ a))) (read_ a) (λ i. (b.0, b.1, i)) refl refl (a.1 q.1)
  step_sound (Expr-F.WindowMin at n a) k =
      let q = and_parts (between 1 12 n) (keeps_expr a.0) k in
      let b = window_bounds n q.0 in
      window_case at (form.WindowMin n (scalar_of (read_ a))) (read_ a) (λ i. (b.0, b.1, i)) refl refl (a.1 q.1)
  step_sound (Expr-F.WindowSum at n a) k =
      let q = and_parts (between 1 12 n) (keeps_expr a.0) k in
      let b = window_bounds n q.0 in
      window_case at (form.WindowSum n (scalar_of (read_ a))) (read_ a) (λ i. (b.0, b.1, i)) refl refl (a.1 q.1)

  expr_rolled : (x : Expr-F Expr) → (keeps_expr_step (map-Expr Expr Bool keeps_expr x) ≡ true → Sound_ (read_step numbers scope (map-Expr Expr Read (read_expr numbers scope) x))) → Kept (roll-Expr x)
  unfolding keeps_expr read_expr
  expr_rolled x h = λ k. subst Sound_ (sym (fold-roll-Expr Read (read_step numbers scope) x)) (h (sym (fold-roll-Expr Bool keeps_expr_step x) ∙ k))

  pub expr_sound : (e : Expr) → Kept e
  expr_sound = ind-Expr Kept (λ x y is. subst (λ z. Kept (roll-Expr z)) is (expr_rolled (expr_of y) (step_sound y)))
