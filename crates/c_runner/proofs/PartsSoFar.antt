-- What was made of the first elements of a list, and what is to come, also after one more.
use Rattle.std.proofs.Common.{◌≡◌, ℕ, suc, ◌+◌, ◌-◌, ◌<◌, ◌≤◌, List, [], ◌∷◌, ◌++◌, length, map, take, get_or, refl, arith, ap, sym, ◌∙◌}
use Rattle.std.proofs.Common.{append_assoc, append-nil, ◌==◌}
use Rattle.std.specs.Prelude.{Result, Ok, Err, IfOk}
use Rattle.std.specs.List.{flat_map}
use Rattle.std.specs.declared.alloc.AllocError.{AllocError}
use Rattle.std.proofs.lemmas.Grind.{common_steps}
use Rattle.std.proofs.lemmas.List.{take_more, map_push}
use Rattle.std.proofs.lemmas.List.Folds.{flat_map-map}
use Rattle.stream_types.specs.declared.scalar.Ty.{Ty}
use Rattle.c99_tree.specs.declared.types.CProto.{CProto}
use Rattle.c99_tree.specs.declared.types.CTy.{CTy}
use Rattle.c99_tree.specs.declared.types.CDef.{CDef}
use Rattle.c99_tree.specs.declared.unit.Unit.{Unit as CUnit}
use Rattle.extern_rows.specs.declared.header.Leaf.{Leaf}
use Rattle.extern_rows.specs.declared.event.Piece.{Piece}
use Rattle.extern_rows.specs.declared.event.Piece.TheVariants.{Gap, Open, Comma}
use Rattle.extern_rows.specs.Leaves.{index_text, under, of_elements}
use Rattle.extern_rows.specs.ValueTexts.{each_entry, parted, pieces_at, pieces_entry, pieces_of, comma_before, shape_of}
use Rattle.extern_rows.proofs.ValuePieces.{parted-push}
use Rattle.c_runner.specs.Read.{read_type, read_types}
use Rattle.c_runner.specs.Lines.{shapes_of}

-- ---- elements

join : {Y : Type 0} (out one more whole rest : List Y) → rest ≡ one ++ more → out ++ rest ≡ whole → (out ++ one) ++ more ≡ whole
join out one more whole rest e h = append_assoc out one more ∙ ap (λ (r : List _). out ++ r) (sym e) ∙ h

pub element_more : (element : List Leaf) (front : List ℕ) (k n : ℕ) (out new whole : List Leaf) → k < n → front ≡ index_text k
    → new ≡ out ++ under front element
    → out ++ of_elements k (n - k) element ≡ whole → new ++ of_elements (k + 1) (n - (k + 1)) element ≡ whole
element_more element front k n out new whole low named added h =
    let count : n - k ≡ suc (n - (k + 1)) = omega arith in
    let rest : List Leaf = of_elements (k + 1) (n - (k + 1)) element in
    ap (λ (o : List Leaf). o ++ rest) (added ∙ ap (λ (t : List ℕ). out ++ under t element) named)
    ∙ join out (under (index_text k) element) rest whole (of_elements k (n - k) element) (ap (λ (m : ℕ). of_elements k m element) count) h

pub elements_done : (element : List Leaf) (k n : ℕ) (out whole : List Leaf) → n ≤ k → out ++ of_elements k (n - k) element ≡ whole → out ≡ whole
elements_done element k n out whole high h =
    let none : n - k ≡ 0 = omega arith in
    sym (append-nil out) ∙ ap (λ (m : ℕ). out ++ of_elements k m element) (sym none) ∙ h

-- ---- parts with commas

pub parted_more : {X Y : Type 0} (of : Y → List Piece) (read : X → Y) (xs : List X) (k : ℕ) (x : X) (b : ℕ) (now later : List Piece) → k < length xs
    → x ≡ get_or xs k x
    → now ≡ Open b ∷ parted Comma (map of (map read (take k xs))) → later ≡ (now ++ comma_before (k == 0)) ++ of (read x)
    → later ≡ Open b ∷ parted Comma (map of (map read (take (k + 1) xs)))
parted_more of read xs k x b now later low is so_far added =
    let parts : List (List Piece) = map of (map read (take k xs)) in
    let count : length (map of (map read (take k xs))) ≡ k = grind (arith, common_steps) in
    let longer : take (k + 1) xs ≡ take k xs ++ x ∷ [] = take_more xs k x low ∙ ap (λ (y : _). take k xs ++ y ∷ []) (sym is) in
    let whole : map of (map read (take (k + 1) xs)) ≡ parts ++ of (read x) ∷ [] =
    ap (λ (ys : List _). map of (map read ys)) longer ∙ ap (map of) (map_push read (take k xs) x) ∙ map_push of (map read (take k xs)) (read x) in
    added
    ∙ ap (λ (r : List Piece). (r ++ comma_before (k == 0)) ++ of (read x)) so_far
    ∙ ap (λ (r : List Piece). Open b ∷ r) (sym (parted-push parts (of (read x)) (k == 0) (ap (λ (n : ℕ). n == 0) (sym count))))
    ∙ ap (λ (ps : List (List Piece)). Open b ∷ parted Comma ps) (sym whole)

-- ---- handlers

handlers_each : (ds : List CDef) (hs : List CProto)
    → map (λ (h : CProto). flat_map (λ (x : CTy). Gap ∷ pieces_at (each_entry pieces_entry [] (read_types ds)) (read_type ds x)) h.params) hs
    ≡ map (λ (h : CProto). shape_of (read_types ds) (map (read_type ds) h.params)) hs
handlers_each ds [] = refl
handlers_each ds (h ∷ hs) =
    let rest : List (List Piece) = map (λ (g : CProto). flat_map (λ (x : CTy). Gap ∷ pieces_of (read_types ds) (read_type ds x)) g.params) hs in
    ap (λ (p : List Piece). p ∷ rest)
    (sym (flat_map-map (λ (t : Ty). Gap ∷ pieces_of (read_types ds) t) (read_type ds) h.params))
    ∙ ap (λ (ps : List (List Piece)). shape_of (read_types ds) (map (read_type ds) h.params) ∷ ps) (handlers_each ds hs)

pub shapes_are : (u : CUnit) (r : Result (List (List Piece)) AllocError) (table : List (List Piece)) (ds : List CDef) (hs : List CProto)
    → table ≡ each_entry pieces_entry [] (read_types ds) → ds ≡ u.types → hs ≡ u.handlers
    → IfOk r (λ all. all ≡ map (λ (h : CProto). flat_map (λ (x : CTy). Gap ∷ pieces_at table (read_type ds x)) h.params) hs) → IfOk r (λ all. all ≡ shapes_of u)
shapes_are u (Ok all) table ds hs table_is types_are handlers_are h =
    h
    ∙ ap (λ (t : List (List Piece)). map (λ (g : CProto). flat_map (λ (x : CTy). Gap ∷ pieces_at t (read_type ds x)) g.params) hs) table_is
    ∙ handlers_each ds hs
    ∙ ap (λ (es : List CDef). map (λ (g : CProto). shape_of (read_types es) (map (read_type es) g.params)) hs) types_are
    ∙ ap (map (λ (g : CProto). shape_of (read_types u.types) (map (read_type u.types) g.params))) handlers_are
shapes_are u (Err e) table ds hs table_is types_are handlers_are h = tt
