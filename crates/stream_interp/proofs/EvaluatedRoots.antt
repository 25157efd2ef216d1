-- Values that are written one after another.
use Rattle.std.proofs.Common.{◌≡◌, ℕ, suc, ◌+◌, ◌-◌, ◌<◌, ◌≤◌, List, [], ◌∷◌, ◌++◌, length, take, drop, get_or, Result, Ok, Err, refl, sym, ap, ◌∙◌, subst, arith, append-nil, append_assoc}
use Rattle.std.proofs.lemmas.List.{length-append, length-drop, length-take-le, drop_more, drop_all, drop-append-le, drop-drop, drop-take, take-append-le, take-take, take_at}
use borrow.Rule.Slice.PartMut.{put_mid}
use Rattle.stream_types.specs.declared.scalar.Hazard.{Hazard}
use Rattle.stream_types.specs.Types.{words}
use Rattle.stream_core.specs.declared.spec.Root.{Root}
use Rattle.stream_core.specs.Value.{SpecValue}
use Rattle.stream_core.specs.Term.{closed}
use Rattle.stream_core.specs.Library.{bind}
use Rattle.stream_core.specs.Eval.{Moment, Value, value, concat_values}
use Rattle.stream_interp.specs.Roots.{closed_roots, roots_words}

-- ---- a run of words

abbrev pub between : ℕ → ℕ → List ℕ → List ℕ
between at end ws = take (end - at) (drop at ws)

-- these words with a run of others from a place on
abbrev pub IsWrittenAt : ℕ → List ℕ → List ℕ → List ℕ → Type 0
IsWrittenAt end v old new = new ≡ take end old ++ v ++ drop (end + length v) old

-- a run of words that is put in place of as many
pub put_over : (a k : ℕ) (xs ys : List ℕ) → length ys ≡ k → IsWrittenAt a ys xs (put_mid a k xs ys)
put_over a k xs ys h = sym (append_assoc (take a xs) ys (drop k (drop a xs))) ∙ ap (λ zs. (take a xs ++ ys) ++ zs) (drop-drop k a xs ∙ ap (λ n. drop (a + n) xs) (sym h))

pub front_stays : (at end : ℕ) (v old new : List ℕ) → at ≤ end → end + length v ≤ length old → IsWrittenAt end v old new → take at new ≡ take at old
front_stays at end v old new le room e =
    let p : length (take end old) ≡ end = length-take-le end old (omega (arith, room)) in
    let q = length-append (take end old) v in
    ap (take at) e
    ∙ take-append-le at (take end old ++ v) (drop (end + length v) old) (omega (arith, p, q, le))
    ∙ take-append-le at (take end old) v (omega (arith, p, le))
    ∙ take-take at end old le

-- how many words a part has that begins and ends within a list
pub part_length : (a w : ℕ) (xs : List ℕ) → a + w ≤ length xs → length (take (a + w - a) (drop a xs)) ≡ w
part_length a w xs h =
    let n : a + w - a ≡ w = omega arith in
    let d = length-drop a xs in
    length-take-le (a + w - a) (drop a xs) (omega (arith, n, d, h)) ∙ n

-- the words before a place stay where a part behind it is written
pub put_behind : (at a w : ℕ) (xs ys : List ℕ) → at ≤ a → a + w ≤ length xs → length ys ≡ w → take at (put_mid a (a + w - a) xs ys) ≡ take at xs
put_behind at a w xs ys le room long =
    let n : a + w - a ≡ w = omega arith in
    front_stays at a ys xs (put_mid a (a + w - a) xs ys) le (omega (arith, room, long)) (put_over a (a + w - a) xs ys (long ∙ sym n))

pub between_more : (at end : ℕ) (v old new : List ℕ) → at ≤ end → end + length v ≤ length old → IsWrittenAt end v old new → between at (end + length v) new ≡ between at end old ++ v
between_more at end v old new le room e =
    let P = take end old in
    let p : length P ≡ end = length-take-le end old (omega (arith, room)) in
    let q = length-append P v in
    let d = length-drop at P in
    let l = length-append (drop at P) v in
    let own : drop at P ≡ between at end old = ap (λ (n : ℕ). drop at (take n old)) (let z : end ≡ at + (end - at) = omega (arith, le) in z) ∙ drop-take at (end - at) old in
    let parts : drop at new ≡ (drop at P ++ v) ++ drop (end + length v) old =
    ap (drop at) e ∙ drop-append-le at (P ++ v) (drop (end + length v) old) (omega (arith, p, q, le)) ∙ ap (λ (xs : List ℕ). xs ++ drop (end + length v) old) (drop-append-le at P v (omega (arith, p, le))) in
    ap (take (end + length v - at)) parts
    ∙ take_at (drop at P ++ v) (drop (end + length v) old) (end + length v - at) (omega (arith, l, d, p, le))
    ∙ ap (λ (xs : List ℕ). xs ++ v) own

pub length_written : (end : ℕ) (v old new : List ℕ) → end + length v ≤ length old → IsWrittenAt end v old new → length new ≡ length old
length_written end v old new room e =
    let p : length (take end old) ≡ end = length-take-le end old (omega (arith, room)) in
    let q = length-append (take end old) v in
    let r = length-append (take end old ++ v) (drop (end + length v) old) in
    let d = length-drop (end + length v) old in
    ap length e ∙ omega (arith, p, q, r, d, room)

-- ---- values of several expressions

regroup : (r : Value) (v done : List ℕ) → bind (bind r (λ xs. Ok (v ++ xs))) (λ ys. Ok (done ++ ys)) ≡ bind r (λ xs. Ok ((done ++ v) ++ xs))
regroup (Ok xs) v done = ap Ok (sym (append_assoc done v xs))
regroup (Err z) v done = refl

module _ (m : Moment) (s : SpecValue) where
  abbrev of : List Root → Value
  of rs = concat_values m (closed_roots s rs)

  -- the values of the first roots stand from one place to another
  pub record Written (all : List Root) (i at end : ℕ) (old new : List ℕ) : Type 0 where
    pub from : at ≤ end
    pub to : end + roots_words s.types (drop i all) ≡ at + roots_words s.types all
    pub fits : at + roots_words s.types all ≤ length new
    pub front : take at new ≡ take at old
    pub found : concat_values m (closed_roots s all) ≡ bind (concat_values m (closed_roots s (drop i all))) (λ ys. Ok (between at end new ++ ys))

  nothing : (at : ℕ) (ws : List ℕ) → between at at ws ≡ []
  nothing at ws = ap (λ (n : ℕ). take n (drop at ws)) (let z : at - at ≡ 0 = omega arith in z)

  from_none : (r : Value) (done : List ℕ) → done ≡ [] → r ≡ bind r (λ ys. Ok (done ++ ys))
  from_none (Ok xs) done e = ap (λ (d : List ℕ). Ok (d ++ xs)) (sym e)
  from_none (Err z) done e = refl

  pub written_first : (all : List Root) (at : ℕ) (old : List ℕ) → at + roots_words s.types all ≤ length old → Written all 0 at at old old
  written_first all at old room = record { from = omega arith; to = refl; fits = room; front = refl; found = from_none (of all) (between at at old) (nothing at old) }

  module _ (all : List Root) (i at end : ℕ) (old new : List ℕ) (so_far : Written all i at end old new) where
    module _ (d : Root) (less : i < length all) where
      abbrev x : Root
      x = get_or all i d

      abbrev rest : List Root
      rest = drop (i + 1) all

      more_words : roots_words s.types (drop i all) ≡ words s.types x.ty + roots_words s.types rest
      more_words = ap (roots_words s.types) (drop_more all i d less)

      pub written_room : end + words s.types x.ty ≤ length new
      written_room = let w = more_words in let to = so_far.to in let room = so_far.fits in omega (arith, w, to, room)

      more_value : of all ≡ bind (bind (value m (closed s x.expr)) (λ v. bind (of rest) (λ xs. Ok (v ++ xs)))) (λ ys. Ok (between at end new ++ ys))
      more_value = so_far.found ∙ ap (λ (rs : List Root). bind (of rs) (λ ys. Ok (between at end new ++ ys))) (drop_more all i d less)

      pub written_err : (z : Hazard) → value m (closed s x.expr) ≡ Err z → of all ≡ Err z
      written_err z e = more_value ∙ ap (λ (r : Value). bind (bind r (λ v. bind (of rest) (λ xs. Ok (v ++ xs)))) (λ ys. Ok (between at end new ++ ys))) e

      pub written_next : (v new' : List ℕ) → value m (closed s x.expr) ≡ Ok v → length v ≡ words s.types x.ty → IsWrittenAt end v new new' → Written all (i + 1) at (end + words s.types x.ty) old new'
      written_next v new' e l w =
          let room : end + length v ≤ length new = (let r = written_room in omega (arith, r, l)) in
          let wide = more_words in
          let to_ = so_far.to in
          let from_ = so_far.from in
          let longer = length_written end v new new' room w in
          let ends : end + length v ≡ end + words s.types x.ty = ap (λ (n : ℕ). end + n) l in
          let fits = so_far.fits in
          record {
            from = omega (arith, from_);
            to = omega (arith, to_, wide);
            fits = omega (arith, fits, longer);
            front = front_stays at end v new new' so_far.from room w ∙ so_far.front;
            found = more_value
                ∙ ap (λ (r : Value). bind (bind r (λ v. bind (of rest) (λ xs. Ok (v ++ xs)))) (λ ys. Ok (between at end new ++ ys))) e
                ∙ regroup (of rest) v (between at end new)
                ∙ ap (λ (ws : List ℕ). bind (of rest) (λ xs. Ok (ws ++ xs))) (sym (between_more at end v new new' so_far.from room w) ∙ ap (λ (n : ℕ). between at n new') ends);
          }

    -- the same of the root that is read there
    module _ (y : Root) (is : y ≡ get_or all i y) (less : i < length all) where
      pub item_room : end + words s.types y.ty ≤ length new
      item_room = subst (λ (r : Root). end + words s.types r.ty ≤ length new) (sym is) (written_room y less)

      pub item_err : (z : Hazard) → value m (closed s y.expr) ≡ Err z → of all ≡ Err z
      item_err z e = written_err y less z (ap (λ (r : Root). value m (closed s r.expr)) (sym is) ∙ e)

      pub item_next : (v new' : List ℕ) → value m (closed s y.expr) ≡ Ok v → length v ≡ words s.types y.ty → IsWrittenAt end v new new' → Written all (i + 1) at (end + words s.types y.ty) old new'
      item_next v new' e l w =
          subst (λ (r : Root). Written all (i + 1) at (end + words s.types r.ty) old new') (sym is)
          (written_next y less v new' (ap (λ (r : Root). value m (closed s r.expr)) (sym is) ∙ e) (l ∙ ap (λ (r : Root). words s.types r.ty) is) w)

    module _ (over : length all ≤ i) where
      pub written_end : end ≡ at + roots_words s.types all
      written_end = let to_ = so_far.to in let n : roots_words s.types (drop i all) ≡ 0 = ap (roots_words s.types) (drop_all i all over) in omega (arith, to_, n)

      pub written_all : of all ≡ Ok (between at end new)
      written_all =
          so_far.found ∙ ap (λ (rs : List Root). bind (of rs) (λ ys. Ok (between at end new ++ ys))) (drop_all i all over)
          ∙ ap Ok (append-nil (between at end new))
