-- The streams' next values, one after another.
use Rattle.std.proofs.Common.{◌≡◌, ℕ, suc, ◌+◌, ◌-◌, ◌<◌, ◌≤◌, List, [], ◌∷◌, ◌++◌, length, take, drop, get_or, Result, Ok, Err, refl, sym, ap, ◌∙◌, subst, arith, append-nil, append_assoc}
use Rattle.std.proofs.lemmas.List.{length-append, length-drop, length-take-le, drop_more, drop_all, take_more, take_all, nil_from_length, drop-append-le, take-append-le, take_at}
use Rattle.stream_types.specs.declared.scalar.Hazard.{Hazard}
use Rattle.stream_types.specs.declared.types.TypeEntry.{TypeEntry}
use Rattle.stream_types.specs.Types.{words}
use Rattle.stream_core.specs.declared.spec.StreamItem.{StreamItem}
use Rattle.stream_core.specs.Value.{SpecValue}
use Rattle.stream_core.specs.Term.{closed}
use Rattle.stream_core.specs.Library.{bind}
use Rattle.stream_core.specs.Eval.{Moment, value, values}
use Rattle.stream_interp.specs.Roots.{closed_exprs, streams_words, rows_in}
use Rattle.stream_interp.proofs.EvaluatedRoots.{IsWrittenAt, length_written}

rows_push : (types : List TypeEntry) (xs : List StreamItem) (x : StreamItem) (ws v : List ℕ) → length ws ≡ streams_words types xs → length v ≡ words types x.ty → rows_in types (xs ++ x ∷ []) (ws ++ v) ≡ rows_in types xs ws ++ v ∷ []
rows_push types [] x ws v e l =
    let n : ws ≡ [] = nil_from_length ws e in
    ap (λ (us : List ℕ). take (words types x.ty) (us ++ v) ∷ []) n ∙ ap (λ (u : List ℕ). u ∷ []) (take_all (words types x.ty) v (omega (arith, l)))
rows_push types (y ∷ ys) x ws v e l =
    let w = words types y.ty in
    let d = length-drop w ws in
    ap (λ (u : List ℕ). u ∷ rows_in types (ys ++ x ∷ []) (drop w (ws ++ v))) (take-append-le w ws v (omega (arith, e)))
    ∙ ap (λ (us : List ℕ). take w ws ∷ rows_in types (ys ++ x ∷ []) us) (drop-append-le w ws v (omega (arith, e)))
    ∙ ap (λ (rs : List (List ℕ)). take w ws ∷ rs) (rows_push types ys x (drop w ws) v (omega (arith, e, d)) l)

streams_push : (types : List TypeEntry) (xs : List StreamItem) (x : StreamItem) → streams_words types (xs ++ x ∷ []) ≡ streams_words types xs + words types x.ty
streams_push types [] x = omega arith
streams_push types (y ∷ ys) x = let h = streams_push types ys x in omega (arith, h)

regroup : (r : Result (List (List ℕ)) Hazard) (v : List ℕ) (done : List (List ℕ)) → bind (bind r (λ xs. Ok (v ∷ xs))) (λ ys. Ok (done ++ ys)) ≡ bind r (λ xs. Ok ((done ++ v ∷ []) ++ xs))
regroup (Ok xs) v done = ap Ok (sym (append_assoc done (v ∷ []) xs))
regroup (Err z) v done = refl

from_none : (r : Result (List (List ℕ)) Hazard) → r ≡ bind r (λ ys. Ok ([] ++ ys))
from_none (Ok xs) = refl
from_none (Err z) = refl

module _ (m : Moment) (s : SpecValue) where
  abbrev of : List StreamItem → Result (List (List ℕ)) Hazard
  of xs = values m (closed_exprs s xs)

  -- the first streams' next values stand before a place
  pub record RowsSoFar (all : List StreamItem) (i at : ℕ) (rows : List ℕ) : Type 0 where
    pub to : at + streams_words s.types (drop i all) ≡ streams_words s.types all
    pub here : at ≡ streams_words s.types (take i all)
    pub whole : length rows ≡ streams_words s.types all
    pub found : values m (closed_exprs s all) ≡ bind (values m (closed_exprs s (drop i all))) (λ ys. Ok (rows_in s.types (take i all) (take at rows) ++ ys))

  pub rows_first : (all : List StreamItem) (rows : List ℕ) → length rows ≡ streams_words s.types all → RowsSoFar all 0 0 rows
  rows_first all rows e = record { to = omega arith; here = refl; whole = e; found = from_none (of all) }

  module _ (all : List StreamItem) (i at : ℕ) (rows : List ℕ) (so_far : RowsSoFar all i at rows) where
    module _ (d : StreamItem) (less : i < length all) where
      abbrev x : StreamItem
      x = get_or all i d

      abbrev rest : List StreamItem
      rest = drop (i + 1) all

      more_words : streams_words s.types (drop i all) ≡ words s.types x.ty + streams_words s.types rest
      more_words = ap (streams_words s.types) (drop_more all i d less)

      pub row_room : at + words s.types x.ty ≤ length rows
      row_room = let w = more_words in let to_ = so_far.to in let n = so_far.whole in omega (arith, w, to_, n)

      abbrev done : List (List ℕ)
      done = rows_in s.types (take i all) (take at rows)

      more_value : of all ≡ bind (bind (value m (closed s x.expr)) (λ v. bind (of rest) (λ xs. Ok (v ∷ xs)))) (λ ys. Ok (done ++ ys))
      more_value = so_far.found ∙ ap (λ (xs : List StreamItem). bind (of xs) (λ ys. Ok (done ++ ys))) (drop_more all i d less)

      pub row_err : (z : Hazard) → value m (closed s x.expr) ≡ Err z → of all ≡ Err z
      row_err z e = more_value ∙ ap (λ (r : Result (List ℕ) Hazard). bind (bind r (λ v. bind (of rest) (λ xs. Ok (v ∷ xs)))) (λ ys. Ok (done ++ ys))) e

      pub row_next : (v rows' : List ℕ) → value m (closed s x.expr) ≡ Ok v → length v ≡ words s.types x.ty → IsWrittenAt at v rows rows' → RowsSoFar all (i + 1) (at + words s.types x.ty) rows'
      row_next v rows' e l w =
          let room : at + length v ≤ length rows = (let r = row_room in omega (arith, r, l)) in
          let wide = more_words in
          let to_ = so_far.to in
          let here_ = so_far.here in
          let whole_ = so_far.whole in
          let one : take (i + 1) all ≡ take i all ++ x ∷ [] = take_more all i d less in
          let more_here : streams_words s.types (take (i + 1) all) ≡ streams_words s.types (take i all) + words s.types x.ty = ap (streams_words s.types) one ∙ streams_push s.types (take i all) x in
          let long = length_written at v rows rows' room w in
          let p : length (take at rows) ≡ at = length-take-le at rows (omega (arith, room)) in
          let q = length-append (take at rows) v in
          let front : take (at + words s.types x.ty) rows' ≡ take at rows ++ v = ap (take (at + words s.types x.ty)) w ∙ take_at (take at rows ++ v) (drop (at + length v) rows) (at + words s.types x.ty) (omega (arith, p, q, l)) in
          let grown : rows_in s.types (take (i + 1) all) (take (at + words s.types x.ty) rows') ≡ done ++ v ∷ [] =
          ap (λ (us : List ℕ). rows_in s.types (take (i + 1) all) us) front ∙ ap (λ (xs : List StreamItem). rows_in s.types xs (take at rows ++ v)) one ∙ rows_push s.types (take i all) x (take at rows) v (omega (arith, p, here_)) l in
          record {
            to = omega (arith, to_, wide);
            here = omega (arith, here_, more_here);
            whole = omega (arith, long, whole_);
            found = more_value
                ∙ ap (λ (r : Result (List ℕ) Hazard). bind (bind r (λ v. bind (of rest) (λ xs. Ok (v ∷ xs)))) (λ ys. Ok (done ++ ys))) e
                ∙ regroup (of rest) v done
                ∙ ap (λ (rs : List (List ℕ)). bind (of rest) (λ xs. Ok (rs ++ xs))) (sym grown);
          }

    -- the same of the stream that is read there
    module _ (y : StreamItem) (is : y ≡ get_or all i y) (less : i < length all) where
      pub item_room : at + words s.types y.ty ≤ length rows
      item_room = subst (λ (r : StreamItem). at + words s.types r.ty ≤ length rows) (sym is) (row_room y less)

      pub item_err : (z : Hazard) → value m (closed s y.expr) ≡ Err z → of all ≡ Err z
      item_err z e = row_err y less z (ap (λ (r : StreamItem). value m (closed s r.expr)) (sym is) ∙ e)

      pub item_next : (v rows' : List ℕ) → value m (closed s y.expr) ≡ Ok v → length v ≡ words s.types y.ty → IsWrittenAt at v rows rows' → RowsSoFar all (i + 1) (at + words s.types y.ty) rows'
      item_next v rows' e l w =
          subst (λ (r : StreamItem). RowsSoFar all (i + 1) (at + words s.types r.ty) rows') (sym is)
          (row_next y less v rows' (ap (λ (r : StreamItem). value m (closed s r.expr)) (sym is) ∙ e) (l ∙ ap (λ (r : StreamItem). words s.types r.ty) is) w)

    pub rows_all : length all ≤ i → of all ≡ Ok (rows_in s.types all rows)
    rows_all over =
        let to_ = so_far.to in
        let whole_ = so_far.whole in
        let n : streams_words s.types (drop i all) ≡ 0 = ap (streams_words s.types) (drop_all i all over) in
        so_far.found ∙ ap (λ (xs : List StreamItem). bind (of xs) (λ ys. Ok (rows_in s.types (take i all) (take at rows) ++ ys))) (drop_all i all over)
        ∙ ap Ok (append-nil (rows_in s.types (take i all) (take at rows)))
        ∙ ap (λ (xs : List StreamItem). Ok (rows_in s.types xs (take at rows))) (take_all i all over)
        ∙ ap (λ (ws : List ℕ). Ok (rows_in s.types all ws)) (take_all at rows (omega (arith, to_, whole_, n)))
