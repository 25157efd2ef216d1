-- The rings that are found stand there.
use Rattle.std.proofs.Common.{◌≡◌, ℕ, ◌≤◌, true, false, ◌||◌, eqb, List, [], ◌∷◌, ◌++◌, map, Option, Some, None, refl, sym, ap, subst, ◌∙◌, append-nil, codes, arith}
use Rattle.std.specs.Fmt.{decimal}
use Rattle.std.specs.List.{list_all}
use Rattle.std.specs.Option.{option_map_or, option_and_then}
use Rattle.std.proofs.lemmas.Bool.{and_from, le-leb}
use Rattle.c99_tree.specs.declared.types.CTy.{CTy}
use Rattle.c99_tree.specs.declared.types.CDef.{CDef}
use Rattle.c99_tree.specs.declared.unit.CRing.{CRing}
use Rattle.c99_tree.specs.Words.{is_ring_name}
use Rattle.c99_tree.specs.Values.{Value, values, Shape, filled, repeated, whole, shape_of, first_values}
use Rattle.c99_tree.specs.Spelling.{type_text, constant, constant_height, highest_constant, with_commas, most_height, is_u32, is_spelled_type, is_spelled_ring, ring_lines}
use Rattle.c99_read.specs.Front.{◌>>=◌, behind, number_at, ring_name_at}
use Rattle.c99_read.specs.TypeAt.{type_at}
use Rattle.c99_read.specs.WordsAt.{words_at, times_at}
use Rattle.c99_read.specs.LineAt.{a_ring, init_at, single_at, indexed_at, ring_by, ring_lines_at}
use Rattle.c99_read.proofs.FrontFinds.{behind_is}
use Rattle.c99_read.proofs.FrontTakes.{bound, paired, step, number_takes, ring_name_takes, TakesLines}
use Rattle.c99_read.proofs.TypeTakes.{type_takes}
use Rattle.c99_read.proofs.WordsTake.{times_take}
use Rattle.c99_read.proofs.LinesTake.{Taken}
use Rattle.c99_read.proofs.RingsFind.{is_low, constants-commas, single_pieces, indexed_pieces, lines-are}

all_low : (vs : List Value) → highest_constant (values vs) ≤ most_height → list_all is_low vs ≡ true
all_low [] h = refl
all_low (v ∷ vs) h = and_from (is_low v) (list_all is_low vs) (le-leb (constant_height v) most_height (omega arith)) (all_low vs (omega arith))

-- the constants of these words stand there
record Given (ds : List CDef) (t : CTy) (n : ℕ) (s ws x : List ℕ) : Type 0 where
  vs : List Value
  gives : (r : CRing) → r.ty ≡ t → r.len ≡ n → r.init ≡ ws → first_values ds r ≡ Some vs
  is : s ≡ with_commas (map constant vs) ++ x
  low : list_all is_low vs ≡ true

first_by : (ds : List CDef) (t : CTy) (n : ℕ) (ws : List ℕ) (shape : Shape) (vs : List Value) → shape_of ds t ≡ Some shape → repeated n (filled shape) ws ≡ Some (vs, [])
    → option_and_then (λ s. option_and_then whole (repeated n (filled s) ws)) (shape_of ds t) ≡ Some vs
first_by ds t n ws shape vs h g = rw (h, g) refl

given_ring : (ds : List CDef) (t : CTy) (n : ℕ) (ws : List ℕ) (vs : List Value) (r : CRing) → r.ty ≡ t → r.len ≡ n → r.init ≡ ws
    → option_and_then (λ s. option_and_then whole (repeated n (filled s) ws)) (shape_of ds t) ≡ Some vs → first_values ds r ≡ Some vs
given_ring ds t n ws vs r a b c h = rw (a, b, c) h

init_takes : (ds : List CDef) (t : CTy) (n : ℕ) (s ws x : List ℕ) → init_at ds t n s ≡ Some (ws, x) → Given ds t n s ws x
unfolding init_at
init_takes ds t n s ws x h =
    let b = bound (shape_of ds t) (λ shape. times_at n (words_at most_height shape) [] s) (ws, x) h in
    let v = times_take n most_height b.0 s ws x b.2 in
    let found : repeated n (filled b.0) ws ≡ Some (v.vs, []) = ap (λ (z : List ℕ). repeated n (filled b.0) z) (sym (append-nil ws)) ∙ v.gives [] in
    record {
      vs = v.vs;
      gives = λ r p q k. given_ring ds t n ws v.vs r p q k (first_by ds t n ws b.0 v.vs b.1 found);
      is = v.is ∙ ap (λ (z : List ℕ). z ++ x) (sym (constants-commas v.vs));
      low = all_low v.vs v.low;
    }

-- the tests of a ring
spelled_by : (ds : List CDef) (r : CRing) (vs : List Value) → is_ring_name r.name ≡ true → is_spelled_type r.ty ≡ true → is_u32 r.len ≡ true → (r.indexed || eqb r.len 1) ≡ true
    → first_values ds r ≡ Some vs → list_all is_low vs ≡ true → is_spelled_ring ds r ≡ true
spelled_by ds r vs a b c d f low =
    let first : option_map_or (list_all is_low) (first_values ds r) false ≡ true = ap (λ (o : Option (List Value)). option_map_or (list_all is_low) o false) f ∙ low in
    and_from _ (option_map_or (list_all is_low) (first_values ds r) false) (and_from _ (r.indexed || eqb r.len 1) (and_from _ (is_u32 r.len) (and_from (is_ring_name r.name) (is_spelled_type r.ty) a b) c) d) first

abbrev before_name : CTy → List ℕ → List ℕ → List ℕ
before_name t r rest = codes "static " ++ (type_text t ++ (codes " cp_b_" ++ (r ++ rest)))

single_takes : (ds : List CDef) (t : CTy) (r rest : List ℕ) (q : CRing) (x : List ℕ) → is_ring_name r ≡ true → is_spelled_type t ≡ true → single_at ds t r rest ≡ Some (q, x)
    → Taken (ring_lines ds) (is_spelled_ring ds) (before_name t r rest) q x
single_takes ds t r rest q x nm k h =
    let a = bound (behind (codes " = ") rest) (λ x. init_at ds t 1 x >>= λ ws. behind (codes ";\n") ws.1 >>= λ y. Some (a_ring r t 1 false ws.0, y)) (q, x) h in
    let w = bound (init_at ds t 1 a.0) (λ ws. behind (codes ";\n") ws.1 >>= λ y. Some (a_ring r t 1 false ws.0, y)) (q, x) a.2 in
    let y = bound (behind (codes ";\n") w.0.1) (λ y. Some (a_ring r t 1 false w.0.0, y)) (q, x) w.2 in
    let ring : CRing = a_ring r t 1 false w.0.0 in
    let p = paired ring q y.0 x y.2 in
    let g = init_takes ds t 1 a.0 w.0.0 w.0.1 w.1 in
    let f = g.gives ring refl refl refl in
    let v : List ℕ = with_commas (map constant g.vs) in
    let all : rest ≡ codes " = " ++ (v ++ (codes ";\n" ++ x)) = step (codes " = ") (behind_is (codes " = ") rest a.0 a.1) (step v g.is (behind_is (codes ";\n") w.0.1 y.0 y.1 ∙ ap (λ (z : List ℕ). codes ";\n" ++ z) p.1)) in
    subst (λ (z : CRing). Taken (ring_lines ds) (is_spelled_ring ds) (before_name t r rest) z x) p.0 (record {
      is = ap (before_name t r) all ∙ sym (single_pieces (codes "static ") (type_text t) (codes " cp_b_") r (codes " = ") v (codes ";") (codes "\n") x) ∙ ap (λ (z : List ℕ). z ++ x) (sym (lines-are ds ring g.vs f));
      spelled = spelled_by ds ring g.vs nm k refl refl f g.low;
    })

indexed_takes : (ds : List CDef) (t : CTy) (r at rest : List ℕ) (q : CRing) (x : List ℕ) → is_ring_name r ≡ true → is_spelled_type t ≡ true → rest ≡ codes "[" ++ at → indexed_at ds t r at ≡ Some (q, x)
    → Taken (ring_lines ds) (is_spelled_ring ds) (before_name t r rest) q x
indexed_takes ds t r at rest q x nm k is h =
    let n = bound (number_at at) (λ n. behind (codes "] = { ") n.1 >>= λ x. init_at ds t n.0 x >>= λ ws. behind (codes " };\nstatic uint32_t cp_i_" ++ r ++ codes " = 0U;\n") ws.1 >>= λ y. Some (a_ring r t n.0 true ws.0, y)) (q, x) h in
    let a = bound (behind (codes "] = { ") n.0.1) (λ x. init_at ds t n.0.0 x >>= λ ws. behind (codes " };\nstatic uint32_t cp_i_" ++ r ++ codes " = 0U;\n") ws.1 >>= λ y. Some (a_ring r t n.0.0 true ws.0, y)) (q, x) n.2 in
    let w = bound (init_at ds t n.0.0 a.0) (λ ws. behind (codes " };\nstatic uint32_t cp_i_" ++ r ++ codes " = 0U;\n") ws.1 >>= λ y. Some (a_ring r t n.0.0 true ws.0, y)) (q, x) a.2 in
    let ending : List ℕ = codes " };\nstatic uint32_t cp_i_" ++ r ++ codes " = 0U;\n" in
    let y = bound (behind ending w.0.1) (λ y. Some (a_ring r t n.0.0 true w.0.0, y)) (q, x) w.2 in
    let ring : CRing = a_ring r t n.0.0 true w.0.0 in
    let p = paired ring q y.0 x y.2 in
    let m = number_takes at n.0.0 n.0.1 n.1 in
    let g = init_takes ds t n.0.0 a.0 w.0.0 w.0.1 w.1 in
    let f = g.gives ring refl refl refl in
    let v : List ℕ = with_commas (map constant g.vs) in
    let all : rest ≡ codes "[" ++ (decimal n.0.0 ++ (codes "] = { " ++ (v ++ (ending ++ x)))) =
    step (codes "[") is (step (decimal n.0.0) m.0 (step (codes "] = { ") (behind_is (codes "] = { ") n.0.1 a.0 a.1) (step v g.is (behind_is ending w.0.1 y.0 y.1 ∙ ap (λ (z : List ℕ). ending ++ z) p.1)))) in
    subst (λ (z : CRing). Taken (ring_lines ds) (is_spelled_ring ds) (before_name t r rest) z x) p.0 (record {
      is = ap (before_name t r) all ∙ sym (indexed_pieces (codes "static ") (type_text t) (codes " cp_b_") r (codes "[") (decimal n.0.0) (codes "] = { ") v (codes " };") (codes "\n") (codes "static uint32_t cp_i_") (codes " = 0U;") x) ∙ ap (λ (z : List ℕ). z ++ x) (sym (lines-are ds ring g.vs f));
      spelled = spelled_by ds ring g.vs nm k m.1 refl f g.low;
    })

ring_takes : (ds : List CDef) (s : List ℕ) (q : CRing) (x : List ℕ) → ring_lines_at ds s ≡ Some (q, x) → Taken (ring_lines ds) (is_spelled_ring ds) s q x
unfolding ring_lines_at
ring_takes ds s q x h =
    let a = bound (behind (codes "static ") s) (λ x. type_at x >>= λ t. behind (codes " cp_b_") t.1 >>= λ y. ring_name_at y >>= λ r. ring_by ds t.0 r.0 r.1 (behind (codes "[") r.1)) (q, x) h in
    let t = bound (type_at a.0) (λ t. behind (codes " cp_b_") t.1 >>= λ y. ring_name_at y >>= λ r. ring_by ds t.0 r.0 r.1 (behind (codes "[") r.1)) (q, x) a.2 in
    let y = bound (behind (codes " cp_b_") t.0.1) (λ y. ring_name_at y >>= λ r. ring_by ds t.0.0 r.0 r.1 (behind (codes "[") r.1)) (q, x) t.2 in
    let r = bound (ring_name_at y.0) (λ r. ring_by ds t.0.0 r.0 r.1 (behind (codes "[") r.1)) (q, x) y.2 in
    let k = type_takes a.0 t.0.0 t.0.1 t.1 in
    let m = ring_name_takes y.0 r.0.0 r.0.1 r.1 in
    let all : s ≡ before_name t.0.0 r.0.0 r.0.1 = step (codes "static ") (behind_is (codes "static ") s a.0 a.1) (step (type_text t.0.0) k.0 (step (codes " cp_b_") (behind_is (codes " cp_b_") t.0.1 y.0 y.1) m.0)) in
    subst (λ (z : List ℕ). Taken (ring_lines ds) (is_spelled_ring ds) z q x) (sym all) (by (behind (codes "[") r.0.1) t.0.0 r.0.0 r.0.1 m.1 k.1 r.2 (λ at e. behind_is (codes "[") r.0.1 at e))
  where
    by : (o : Option (List ℕ)) (t : CTy) (r rest : List ℕ) → is_ring_name r ≡ true → is_spelled_type t ≡ true → ring_by ds t r rest o ≡ Some (q, x) → ((at : List ℕ) → o ≡ Some at → rest ≡ codes "[" ++ at)
        → Taken (ring_lines ds) (is_spelled_ring ds) (before_name t r rest) q x
    by None t r rest n k e f = single_takes ds t r rest q x n k e
    by (Some at) t r rest n k e f = indexed_takes ds t r at rest q x n k (f at refl) e

pub rings_taken : (ds : List CDef) → TakesLines (ring_lines_at ds) (ring_lines ds) (is_spelled_ring ds)
rings_taken ds = record { takes = λ s q x h. let t = ring_takes ds s q x h in (t.is, t.spelled) }
