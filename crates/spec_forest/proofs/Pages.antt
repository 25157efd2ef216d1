-- A page is read as its nodes.
use Rattle.std.proofs.Common.{◌≡◌, ℕ, ◌≤◌, List, [], ◌∷◌, ◌++◌, length, None, refl, ap, sym, ◌∙◌, subst, arith, append_assoc, append-nil}
use Rattle.spec_forest.specs.Node.{Node, Nodes, atom, list, none, more}
use Rattle.spec_forest.specs.Scan.{longest_text, deepest, scan_fault}
use Rattle.spec_forest.specs.Tokens.{left, right, word, node_tokens, forest_tokens, IsForestOf}
use Rattle.spec_forest.specs.Extents.{nesting}
use Rattle.spec_forest.specs.Pieces.{Piece, opening, closing, letters, gap, pieces_text, BeginsWithNoWord, AreParted, node_unplaced, unplaced, SameShape, bare_tokens, LaysOut}
use Rattle.spec_forest.specs.Layout.{IsWord, NodeHasWords, HasWords, node_text, line_text, lines_text, page_text, page_nodes}
use Rattle.spec_forest.proofs.OneForest.{items-then}
use Rattle.spec_forest.proofs.Shapes.{ReadsAs, read-nodes}

-- ---- the pieces of nodes, before others

abbrev mutual
  node_then : Node → List Piece → List Piece
  node_then (atom at bytes) ps = letters bytes ∷ ps
  node_then (list at items) ps = opening ∷ line_then items (closing ∷ ps)

  line_then : Nodes → List Piece → List Piece
  line_then none ps = ps
  line_then (more x none) ps = node_then x ps
  line_then (more x (more y ys)) ps = node_then x (gap (32 ∷ []) ∷ line_then (more y ys) ps)

abbrev lines_then : Nodes → List Piece → List Piece
lines_then none ps = ps
lines_then (more x xs) ps = gap (10 ∷ 32 ∷ 32 ∷ []) ∷ node_then x (lines_then xs ps)

abbrev page_pieces : List ℕ → List ℕ → Nodes → List Piece
page_pieces head name items = opening ∷ letters head ∷ gap (32 ∷ []) ∷ letters name ∷ lines_then items (closing ∷ gap (10 ∷ []) ∷ [])

-- ---- they are parted

mutual
  node-parted : (x : Node) (ps : List Piece) → NodeHasWords x → BeginsWithNoWord ps → AreParted ps → AreParted (node_then x ps)
  node-parted (atom a t) ps w n p = (w, n, p)
  node-parted (list a is) ps w n p = (tt, tt, line-parted is (closing ∷ ps) w tt (tt, tt, p))

  line-parted : (xs : Nodes) (ps : List Piece) → HasWords xs → BeginsWithNoWord ps → AreParted ps → AreParted (line_then xs ps)
  line-parted none ps w n p = p
  line-parted (more x none) ps w n p = node-parted x ps w.0 n p
  line-parted (more x (more y ys)) ps w n p =
      node-parted x (gap (32 ∷ []) ∷ line_then (more y ys) ps) w.0 tt ((omega arith, refl), tt, line-parted (more y ys) ps w.1 n p)

lines-begin : (xs : Nodes) (ps : List Piece) → BeginsWithNoWord ps → BeginsWithNoWord (lines_then xs ps)
lines-begin none ps n = n
lines-begin (more x xs) ps n = tt

lines-parted : (xs : Nodes) (ps : List Piece) → HasWords xs → BeginsWithNoWord ps → AreParted ps → AreParted (lines_then xs ps)
lines-parted none ps w n p = p
lines-parted (more x xs) ps w n p = ((omega arith, refl), tt, node-parted x (lines_then xs ps) w.0 (lines-begin xs ps n) (lines-parted xs ps w.1 n p))

-- ---- their text

mutual
  node-text : (x : Node) (ps : List Piece) → pieces_text (node_then x ps) ≡ node_text x ++ pieces_text ps
  node-text (atom a t) ps = refl
  node-text (list a is) ps = ap (λ s. 40 ∷ s) (line-text is (closing ∷ ps) ∙ sym (append_assoc (line_text is) (41 ∷ []) (pieces_text ps)))

  line-text : (xs : Nodes) (ps : List Piece) → pieces_text (line_then xs ps) ≡ line_text xs ++ pieces_text ps
  line-text none ps = refl
  line-text (more x none) ps = node-text x ps
  line-text (more x (more y ys)) ps =
      node-text x (gap (32 ∷ []) ∷ line_then (more y ys) ps)
      ∙ ap (λ s. node_text x ++ 32 ∷ s) (line-text (more y ys) ps)
      ∙ sym (append_assoc (node_text x ++ 32 ∷ []) (line_text (more y ys)) (pieces_text ps) ∙ append_assoc (node_text x) (32 ∷ []) (line_text (more y ys) ++ pieces_text ps))

lines-text : (xs : Nodes) (ps : List Piece) → pieces_text (lines_then xs ps) ≡ lines_text xs ++ pieces_text ps
lines-text none ps = refl
lines-text (more x xs) ps =
    ap (λ s. 10 ∷ 32 ∷ 32 ∷ s) (node-text x (lines_then xs ps) ∙ ap (λ s. node_text x ++ s) (lines-text xs ps) ∙ sym (append_assoc (node_text x) (lines_text xs) (pieces_text ps)))

page-text : (head name : List ℕ) (xs : Nodes) → pieces_text (page_pieces head name xs) ≡ page_text head name xs
unfolding page_text
page-text head name xs =
    ap (λ s. 40 ∷ s) (ap (λ s. head ++ 32 ∷ (name ++ s)) (lines-text xs (closing ∷ gap (10 ∷ []) ∷ []))
    ∙ sym (append_assoc (((head ++ 32 ∷ []) ++ name)) (lines_text xs) (41 ∷ 10 ∷ [])
    ∙ append_assoc (head ++ 32 ∷ []) name (lines_text xs ++ 41 ∷ 10 ∷ [])
    ∙ append_assoc head (32 ∷ []) (name ++ (lines_text xs ++ 41 ∷ 10 ∷ []))))

-- ---- their tokens

mutual
  node-tokens : (x : Node) (ps : List Piece) → bare_tokens (node_then x ps) ≡ node_tokens (node_unplaced x) ++ bare_tokens ps
  node-tokens (atom a t) ps = refl
  node-tokens (list a is) ps = ap (λ s. left 0 ∷ s) (line-tokens is (closing ∷ ps) ∙ sym (items-then (unplaced is) (bare_tokens ps)))

  line-tokens : (xs : Nodes) (ps : List Piece) → bare_tokens (line_then xs ps) ≡ forest_tokens (unplaced xs) ++ bare_tokens ps
  line-tokens none ps = refl
  line-tokens (more x none) ps = node-tokens x ps ∙ ap (λ s. s ++ bare_tokens ps) (sym (append-nil (node_tokens (node_unplaced x))))
  line-tokens (more x (more y ys)) ps =
      node-tokens x (gap (32 ∷ []) ∷ line_then (more y ys) ps)
      ∙ ap (λ s. node_tokens (node_unplaced x) ++ s) (line-tokens (more y ys) ps)
      ∙ sym (append_assoc (node_tokens (node_unplaced x)) (forest_tokens (unplaced (more y ys))) (bare_tokens ps))

lines-tokens : (xs : Nodes) (ps : List Piece) → bare_tokens (lines_then xs ps) ≡ forest_tokens (unplaced xs) ++ bare_tokens ps
lines-tokens none ps = refl
lines-tokens (more x xs) ps =
    node-tokens x (lines_then xs ps) ∙ ap (λ s. node_tokens (node_unplaced x) ++ s) (lines-tokens xs ps)
    ∙ sym (append_assoc (node_tokens (node_unplaced x)) (forest_tokens (unplaced xs)) (bare_tokens ps))

page-laid : (head name : List ℕ) (xs : Nodes) → LaysOut (page_pieces head name xs) (page_nodes head name xs)
page-laid head name xs =
    ap (λ s. left 0 ∷ word 0 head ∷ word 0 name ∷ s) (lines-tokens xs (closing ∷ gap (10 ∷ []) ∷ []))
    ∙ sym (append-nil (left 0 ∷ word 0 head ∷ word 0 name ∷ (forest_tokens (unplaced xs) ++ right ∷ [])))

-- ---- pages

pub record PageIsRead (head name : List ℕ) (items : Nodes) : Type 0 where
  pub sound : scan_fault (page_text head name items) ≡ None
  pub some : (g : Nodes) × IsForestOf (page_text head name items) g
  pub each : (g : Nodes) → IsForestOf (page_text head name items) g → SameShape g (page_nodes head name items)

pub page-read : (head name : List ℕ) (items : Nodes) → IsWord head → IsWord name → HasWords items → nesting (page_nodes head name items) ≤ deepest → length (page_text head name items) ≤ longest_text → PageIsRead head name items
page-read head name items h n w low short =
    let e : pieces_text (page_pieces head name items) ≡ page_text head name items = page-text head name items in
    let a : AreParted (page_pieces head name items) =
    (tt, tt, (h, tt, ((omega arith, refl), tt, (n, lines-begin items (closing ∷ gap (10 ∷ []) ∷ []) tt, lines-parted items (closing ∷ gap (10 ∷ []) ∷ []) w tt (tt, tt, ((omega arith, refl), tt, tt)))))) in
    let r : ReadsAs (page_pieces head name items) (page_nodes head name items) =
    read-nodes (page_pieces head name items) (page_nodes head name items) a (page-laid head name items) low (omega (arith, short, ap length e)) in
    let P : List ℕ → Type 0 = λ t. scan_fault t ≡ None in
    let Q : List ℕ → Type 0 = λ t. (g : Nodes) × IsForestOf t g in
    let R : List ℕ → Type 0 = λ t. (g : Nodes) → IsForestOf t g → SameShape g (page_nodes head name items) in
    record { sound = subst P e r.sound; some = subst Q e r.some; each = subst R e r.each }
