-- Rings that are pushed one after another.
use Rattle.std.proofs.Common.{◌≡◌, ℕ, zero, suc, ◌+◌, ◌<◌, ◌≤◌, List, [], ◌∷◌, ◌++◌, length, take, drop, get_or, set, refl, sym, ap, ◌∙◌, subst, arith, append-nil, append_assoc}
use Rattle.std.proofs.lemmas.List.{length-drop, length-set, drop_more, drop_all, drop-drop, drop-set-lt, take_more_set, take_all, take-set, length-take-le}
use Rattle.stream_types.specs.declared.types.TypeEntry.{TypeEntry}
use Rattle.stream_types.specs.Types.{words}
use Rattle.stream_core.specs.declared.spec.StreamItem.{StreamItem}
use Rattle.stream_core.specs.Eval.{Table}
use Rattle.stream_core.specs.Plain.{moved}
use Rattle.ring_bank.specs.RingRows.{ring_at, width_of, pushed}
use Rattle.stream_interp.specs.Roots.{streams_words, rows_in}
use Rattle.stream_interp.specs.Buffers.{AreAsWide}

module _ (types : List TypeEntry) (all : List StreamItem) (first : Table) (rows : List ℕ) where
  abbrev left : ℕ → ℕ → List (List ℕ)
  left i at = rows_in types (drop i all) (drop at rows)

  -- the first rings have their next rows
  pub record PushedSoFar (i at : ℕ) (rings : Table) : Type 0 where
    pub to : at + streams_words types (drop i all) ≡ length rows
    pub wide : AreAsWide types (drop i all) (drop i rings)
    pub found : moved first (rows_in types all rows) ≡ take i rings ++ moved (drop i rings) (rows_in types (drop i all) (drop at rows))

  pub pushed_first : AreAsWide types all first → length rows ≡ streams_words types all → PushedSoFar 0 0 first
  pushed_first wide e = record { to = omega (arith, e); wide = wide; found = refl }

  there : (xs : List StreamItem) (x : StreamItem) (rest : List StreamItem) (rings : Table) (i : ℕ) → xs ≡ x ∷ rest → AreAsWide types xs (drop i rings) → i < length rings
  there xs x rest rings i e wide = by (drop i rings) refl (subst (λ ys. AreAsWide types ys (drop i rings)) e wide)
    where
      by : (rs : Table) → drop i rings ≡ rs → AreAsWide types (x ∷ rest) rs → i < length rings
      by [] q h = absurd h
      by (r ∷ rs) q h = let l = length-drop i rings in let n = ap length q in omega (arith, l, n)

  module _ (i at : ℕ) (rings : Table) (so_far : PushedSoFar i at rings) where
    module _ (d : StreamItem) (less : i < length all) where
      abbrev x : StreamItem
      x = get_or all i d

      abbrev rest : List StreamItem
      rest = drop (i + 1) all

      abbrev w : ℕ
      w = words types x.ty

      pub ring_there : i < length rings
      ring_there = there (drop i all) x rest rings i (drop_more all i d less) so_far.wide

      parted : drop i rings ≡ ring_at rings i ∷ drop (i + 1) rings
      parted = drop_more rings i [] ring_there

      wides : (width_of (ring_at rings i) ≡ w) × AreAsWide types rest (drop (i + 1) rings)
      wides = subst (λ (rs : Table). AreAsWide types (x ∷ rest) rs) parted (subst (λ (xs : List StreamItem). AreAsWide types xs (drop i rings)) (drop_more all i d less) so_far.wide)

      pub ring_wide : width_of (ring_at rings i) ≡ w
      ring_wide = wides.0

      more_words : streams_words types (drop i all) ≡ w + streams_words types rest
      more_words = ap (streams_words types) (drop_more all i d less)

      pub row_within : at + w ≤ length rows
      row_within = let m = more_words in let to_ = so_far.to in omega (arith, m, to_)

      abbrev row : List ℕ
      row = take w (drop at rows)

      pub row_length : length row ≡ w
      row_length = let l = length-drop at rows in let b = row_within in length-take-le w (drop at rows) (omega (arith, l, b))

      abbrev next : Table
      next = set rings i (pushed (ring_at rings i) row)

      pub pushed_next : PushedSoFar (i + 1) (at + w) next
      pushed_next =
          let m = more_words in
          let to_ = so_far.to in
          let behind : drop (i + 1) next ≡ drop (i + 1) rings = drop-set-lt (i + 1) rings i (pushed (ring_at rings i) row) (omega arith) in
          let front : take (i + 1) next ≡ take i rings ++ pushed (ring_at rings i) row ∷ [] = take_more_set rings i (pushed (ring_at rings i) row) ring_there in
          let after : rows_in types rest (drop w (drop at rows)) ≡ rows_in types rest (drop (at + w) rows) = ap (rows_in types rest) (drop-drop w at rows) in
          record {
            to = omega (arith, m, to_);
            wide = subst (AreAsWide types rest) (sym behind) wides.1;
            found = so_far.found
                ∙ ap (λ (xs : List StreamItem). take i rings ++ moved (drop i rings) (rows_in types xs (drop at rows))) (drop_more all i d less)
                ∙ ap (λ (rs : Table). take i rings ++ moved rs (row ∷ rows_in types rest (drop w (drop at rows)))) parted
                ∙ ap (λ (ys : List (List ℕ)). take i rings ++ (pushed (ring_at rings i) row ∷ moved (drop (i + 1) rings) ys)) after
                ∙ sym (append_assoc (take i rings) (pushed (ring_at rings i) row ∷ []) (moved (drop (i + 1) rings) (rows_in types rest (drop (at + w) rows))))
                ∙ ap (λ (ts : Table). ts ++ moved (drop (i + 1) rings) (rows_in types rest (drop (at + w) rows))) (sym front)
                ∙ ap (λ (rs : Table). take (i + 1) next ++ moved rs (rows_in types rest (drop (at + w) rows))) (sym behind);
          }

    -- the same of the stream that is read there
    module _ (y : StreamItem) (is : y ≡ get_or all i y) (less : i < length all) where
      pub item_there : i < length rings
      item_there = ring_there y less

      pub item_wide : width_of (ring_at rings i) ≡ words types y.ty
      item_wide = ring_wide y less ∙ ap (λ (r : StreamItem). words types r.ty) (sym is)

      pub item_within : at + words types y.ty ≤ length rows
      item_within = subst (λ (r : StreamItem). at + words types r.ty ≤ length rows) (sym is) (row_within y less)

      pub item_length : length (take (words types y.ty) (drop at rows)) ≡ words types y.ty
      item_length = subst (λ (r : StreamItem). length (take (words types r.ty) (drop at rows)) ≡ words types r.ty) (sym is) (row_length y less)

      pub item_pushed : PushedSoFar (i + 1) (at + words types y.ty) (set rings i (pushed (ring_at rings i) (take (words types y.ty) (drop at rows))))
      item_pushed = subst (λ (r : StreamItem). PushedSoFar (i + 1) (at + words types r.ty) (set rings i (pushed (ring_at rings i) (take (words types r.ty) (drop at rows))))) (sym is) (pushed_next y less)

    none_left : (xs : List StreamItem) (rs : Table) → xs ≡ [] → AreAsWide types xs rs → rs ≡ []
    none_left [] [] e h = refl
    none_left [] (r ∷ rs) e h = absurd h
    none_left (y ∷ ys) rs e h = absurd (cc)

    pub pushed_all : length all ≤ i → rings ≡ moved first (rows_in types all rows)
    pushed_all over =
        let none : drop i rings ≡ [] = none_left (drop i all) (drop i rings) (drop_all i all over) so_far.wide in
        let l = length-drop i rings in
        let n : length (drop i rings) ≡ 0 = ap length none in
        sym (so_far.found
        ∙ ap (λ (rs : Table). take i rings ++ moved rs (rows_in types (drop i all) (drop at rows))) none
        ∙ append-nil (take i rings)
        ∙ take_all i rings (omega (arith, l, n)))
