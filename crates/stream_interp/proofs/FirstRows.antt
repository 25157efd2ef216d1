-- The rings' first rows are the streams' initial values.
use Rattle.std.proofs.Common.{◌≡◌, ℕ, zero, suc, ◌+◌, ◌*◌, ◌/◌, ◌<◌, ◌≤◌, List, [], ◌∷◌, ◌++◌, length, map, take, drop, get_or, refl, sym, ap, ◌∙◌, subst, arith, append-nil}
use Rattle.std.specs.Prelude.{All, sum}
use native.Mathlib.Nat.{mul-le-mul_right}
use Rattle.std.proofs.lemmas.List.{length-append, length-drop, length-map, take-append-le, drop-append-le, drop_at, take_more, take_all}
use Rattle.std.proofs.lemmas.List.Sums.{sum_by-cons}
use Rattle.stream_types.specs.declared.types.TypeEntry.{TypeEntry}
use Rattle.stream_types.specs.Types.{words}
use Rattle.stream_types.specs.TypeList.{Stands}
use Rattle.stream_types.proofs.LeafWords.{length-words}
use Rattle.stream_core.specs.declared.spec.StreamItem.{StreamItem}
use Rattle.stream_core.specs.declared.spec.LibItem.{LibItem}
use Rattle.stream_core.specs.declared.spec.ExternItem.{ExternItem}
use Rattle.stream_core.specs.Value.{SpecValue}
use Rattle.stream_core.specs.Term.{Term, TreeStream, TreeLib, TreeDef, tree, trees, value_count, written_out}
use Rattle.stream_core.specs.Eval.{Table, Line, chunks, initial, lines, stream_line, operand_lines}
use Rattle.stream_core.specs.Lower.{lowered, lowered_spec, buffer_of, all_buffers}
use Rattle.stream_core.specs.KeptLimits.{plain_form, words_of_plain}
use Rattle.stream_core.specs.Signature.{signature_of}
use Rattle.stream_core.specs.WellTyped.{AreInitial, IsGoodStream, WellTyped}
use Rattle.stream_core.specs.Meaning.{closed_spec}
use Rattle.stream_core.proofs.Wide.{words_wide, initial_words}
use Rattle.stream_core.proofs.Roots.{all_mapped}
use Rattle.ring_bank.specs.declared.shape.Shape.{Shape}
use Rattle.ring_bank.specs.RingRows.{rows_of, rings_of, words_of}
use Rattle.stream_lib.specs.PlainSpecs.{IsSoundPlain}
use Rattle.stream_interp.specs.Buffers.{AreShapes, first_words}
use Rattle.stream_interp.proofs.ClosedForms.{no_operands}

-- ---- one stream

pub record IsRingOf (types : List TypeEntry) (x : StreamItem) : Type 0 where
  pub stands : Stands types x.ty
  pub some : 1 ≤ value_count types x.ty x.init
  pub most : value_count types x.ty x.init ≤ 65536
  pub wide : 1 ≤ words types x.ty
  pub whole : length x.init ≡ value_count types x.ty x.init * words types x.ty

pub streams_good : (s : SpecValue) → WellTyped s → All (IsRingOf s.types) s.streams
streams_good s w k d h =
    let x = get_or s.streams k d in
    let tree_of : StreamItem → TreeStream = λ (x : StreamItem). record { name = x.name; ty = x.ty; init = x.init; expr = tree s.nodes s.libs x.expr; at = x.at } in
    let good : IsGoodStream (signature_of (trees s)) (tree_of x) = all_mapped tree_of (IsGoodStream (signature_of (trees s))) s.streams w.streams k d h in
    record {
      stands = good.stands;
      some = good.initial.some;
      most = good.initial.most;
      wide = words_wide s.types w.types x.ty good.stands;
      whole = initial_words s.types w.types x.ty x.init good.initial;
    }

-- a stream's initial values have few words
pub init_few : (types : List TypeEntry) (x : StreamItem) → IsRingOf types x → words types x.ty ≤ 1024 → length x.init ≤ 67108864
init_few types x r most =
    let a = mul-le-mul_right (words types x.ty) r.most in
    let e = r.whole in
    omega (arith, a, e, most)

-- one shape more
pub shapes_push : (types : List TypeEntry) (xs : List StreamItem) (as_ : List Shape) (x : StreamItem) (a : Shape) → AreShapes types xs as_ → a.len ≡ value_count types x.ty x.init → a.width ≡ words types x.ty → AreShapes types (xs ++ x ∷ []) (as_ ++ a ∷ [])
shapes_push types [] [] x a h p q = (p, q, tt)
shapes_push types [] (b ∷ bs) x a h p q = absurd h
shapes_push types (y ∷ ys) [] x a h p q = absurd h
shapes_push types (y ∷ ys) (b ∷ bs) x a h p q = (h.0, h.1, shapes_push types ys bs x a h.2 p q)

-- the same of a list that is known by an equation
pub shapes_pushed : (types : List TypeEntry) (xs : List StreamItem) (as_ new : List Shape) (x : StreamItem) (a : Shape) → new ≡ as_ ++ a ∷ [] → AreShapes types xs as_ → a.len ≡ value_count types x.ty x.init → a.width ≡ words types x.ty → AreShapes types (xs ++ x ∷ []) new
shapes_pushed types xs as_ new x a e h p q = subst (AreShapes types (xs ++ x ∷ [])) (sym e) (shapes_push types xs as_ x a h p q)

-- ---- rows

times_suc : (n w : ℕ) → suc n * w ≡ w + n * w
times_suc n w = omega arith

rows_are : (n w : ℕ) (xs rest : List ℕ) → n * w ≤ length xs → rows_of n w (xs ++ rest) ≡ chunks n w xs
rows_are zero w xs rest h = refl
rows_are (suc n) w xs rest h =
    let t = times_suc n w in
    let l = length-drop w xs in
    let m = n * w in
    let b : w ≤ length xs = omega (arith, t, h) in
    let c : n * w ≤ length (drop w xs) = omega (arith, t, h, l) in
    ap (λ (r : List ℕ). r ∷ rows_of n w (drop w (xs ++ rest))) (take-append-le w xs rest b)
    ∙ ap (λ (ys : List ℕ). take w xs ∷ rows_of n w ys) (drop-append-le w xs rest b)
    ∙ ap (λ (rs : List (List ℕ)). take w xs ∷ rs) (rows_are n w (drop w xs) rest c)

module _ (s : SpecValue) where
  abbrev out : Term → Term
  out e = written_out (trees s).defs e

  abbrev stream_tree : StreamItem → TreeStream
  stream_tree x = record { name = x.name; ty = x.ty; init = x.init; expr = tree s.nodes s.libs x.expr; at = x.at }

  abbrev stream_out : TreeStream → TreeStream
  stream_out x = record x { expr = out x.expr }

  abbrev inits : List Line → Table
  inits ls = map (λ (l : Line). l.init) ls

  by_streams : (xs : List StreamItem) (shapes : List Shape) → All (IsRingOf s.types) xs → AreShapes s.types xs shapes → rings_of shapes (first_words xs) ≡ inits (map (stream_line s.types) (map stream_out (map stream_tree xs)) ++ [])
  by_streams [] [] good are = refl
  by_streams [] (a ∷ as_) good are = absurd are
  by_streams (x ∷ xs) [] good are = absurd are
  by_streams (x ∷ xs) (a ∷ as_) good are =
      let own : IsRingOf s.types x = good 0 x (omega arith) in
      let n = value_count s.types x.ty x.init in
      let w = words s.types x.ty in
      let size : a.len * a.width ≡ n * w = ap (λ (k : ℕ). k * a.width) are.0 ∙ ap (λ (k : ℕ). n * k) are.1 in
      let whole = own.whole in
      let head : rows_of a.len a.width (x.init ++ first_words xs) ≡ chunks n w x.init = ap (λ (k : ℕ). rows_of k a.width (x.init ++ first_words xs)) are.0 ∙ ap (λ (k : ℕ). rows_of n k (x.init ++ first_words xs)) are.1 ∙ rows_are n w x.init (first_words xs) (omega (arith, whole)) in
      let rest : drop (a.len * a.width) (x.init ++ first_words xs) ≡ first_words xs = drop_at x.init (first_words xs) (a.len * a.width) (whole ∙ sym size) in
      ap (λ (r : List (List ℕ)). r ∷ rings_of as_ (drop (a.len * a.width) (x.init ++ first_words xs))) head
      ∙ ap (λ (ws : List ℕ). chunks n w x.init ∷ rings_of as_ ws) rest
      ∙ ap (λ (rs : Table). chunks n w x.init ∷ rs) (by_streams xs as_ (λ k d b. good (suc k) d (omega (arith, b))) are.2)

  pub first_rings_are : IsSoundPlain s → (shapes : List Shape) → AreShapes s.types s.streams shapes → rings_of shapes (first_words s.streams) ≡ initial (closed_spec s)
  first_rings_are plain shapes are =
      by_streams s.streams shapes (streams_good s plain.typed) are
      ∙ ap (λ (ls : List Line). inits (map (stream_line s.types) (closed_spec s).streams ++ ls)) (sym (no_operands s plain.no_forms))

  -- ---- how many words

  shape_words : (xs : List StreamItem) (shapes : List Shape) → All (IsRingOf s.types) xs → AreShapes s.types xs shapes → length (first_words xs) ≡ words_of shapes
  shape_words [] [] good are = refl
  shape_words [] (a ∷ as_) good are = absurd are
  shape_words (x ∷ xs) [] good are = absurd are
  shape_words (x ∷ xs) (a ∷ as_) good are =
      let own : IsRingOf s.types x = good 0 x (omega arith) in
      let n = value_count s.types x.ty x.init in
      let size : a.len * a.width ≡ n * words s.types x.ty = ap (λ (k : ℕ). k * a.width) are.0 ∙ ap (λ (k : ℕ). n * k) are.1 in
      let l = length-append x.init (first_words xs) in
      let rest = shape_words xs as_ (λ k d b. good (suc k) d (omega (arith, b))) are.2 in
      l ∙ ap (λ (k : ℕ). k + length (first_words xs)) (own.whole ∙ sym size) ∙ ap (λ (k : ℕ). a.len * a.width + k) rest

  pub words_fit : IsSoundPlain s → (shapes : List Shape) → AreShapes s.types s.streams shapes → length (first_words s.streams) ≡ words_of shapes
  words_fit plain shapes are = shape_words s.streams shapes (streams_good s plain.typed) are

  abbrev low : Term → Term
  low = lowered (buffer_of (length (trees s).streams) (trees s).libs)

  abbrev size_of : TreeStream → ℕ
  size_of x = length x.init

  module _ (f : Term → Term) where
    abbrev low_stream : TreeStream → TreeStream
    low_stream x = record x { expr = low x.expr }

    abbrev last_stream : TreeStream → TreeStream
    last_stream x = record x { expr = f x.expr }

    sums : (xs : List StreamItem) → sum (map size_of (map last_stream (map low_stream (map stream_tree xs) ++ []))) ≡ length (first_words xs)
    sums [] = refl
    sums (x ∷ xs) =
        let h = sums xs in
        let l = length-append x.init (first_words xs) in
        sum_by-cons (λ (k : ℕ). k) (length x.init) (map size_of (map last_stream (map low_stream (map stream_tree xs) ++ [])))
        ∙ ap (λ (k : ℕ). length x.init + k) h ∙ sym l

  pub few_words : IsSoundPlain s → length (first_words s.streams) ≤ 262144
  few_words plain =
      let limit = plain.limits.words in
      let p = lowered_spec (trees s) in
      let f : Term → Term = written_out p.defs in
      let no_buffers : (lowered_spec (trees s)).streams ≡ map (λ (x : TreeStream). record x { expr = low x.expr }) (map stream_tree s.streams) ++ [] =
      ap (λ (xs : List LibItem). map (λ (x : TreeStream). record x { expr = low x.expr }) (map stream_tree s.streams) ++ all_buffers low 1 (length (trees s).streams) (map (λ (x : LibItem). record { form = x.form; args = map (tree s.nodes s.libs) x.args; at = x.at }) xs)) plain.no_forms in
      let own : sum (map size_of (plain_form (trees s)).streams) ≡ length (first_words s.streams) = ap (λ (xs : List TreeStream). sum (map size_of (map (λ (x : TreeStream). record x { expr = f x.expr }) xs))) no_buffers ∙ sums f s.streams in
      omega (arith, limit, own)
