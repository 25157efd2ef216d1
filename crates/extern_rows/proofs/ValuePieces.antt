-- The parts of a value: they show its leaves' words, and its text.
use Rattle.std.proofs.Common.{◌≡◌, ℕ, zero, suc, ◌+◌, ◌<◌, Bool, true, false, List, [], ◌∷◌, ◌++◌, length, map, take, drop, replicate, get_or, refl, arith, ap, sym, ◌∙◌, append_assoc, append-nil, length-append, length-take, length-drop, subst, ◌==◌, unwrap_or, codes, decimal}
use Rattle.std.specs.Prelude.{slice_get, sum_by, All, Option, Some, Result, Ok, Err, OnOk}
use Rattle.std.specs.List.{flat_map}
use Rattle.std.specs.Fmt.{digits}
use Rattle.std.proofs.lemmas.List.{map_push, take-append-drop, take_more, length-replicate}
use Rattle.std.proofs.lemmas.List.Sums.{sum_by-cons}
use Rattle.std.proofs.lemmas.Bool.Decides.{nat_tests}
use Rattle.std.proofs.lemmas.Grind.{flat_map-append, replicate_next, common_steps}
use Rattle.std.specs.declared.alloc.AllocError.{AllocError}
use Rattle.stream_types.specs.declared.scalar.Scalar.{Scalar}
use Rattle.stream_types.specs.declared.scalar.Ty.{Ty}
use Rattle.stream_types.specs.declared.scalar.Ty.TheVariants as ty
use Rattle.stream_types.specs.declared.types.Field.{Field}
use Rattle.stream_types.specs.declared.types.TypeEntry.{TypeEntry}
use Rattle.stream_types.specs.declared.types.TypeEntry.TheVariants as entry
use Rattle.stream_types.specs.Types.{repeated, leaves_at, leaves_of_fields, leaves_of_entry, all_leaves, leaves, AreWords}
use Rattle.stream_types.specs.TypeList.{Stands, IsGoodEntry, IsTypeList}
use Rattle.stream_types.proofs.LeafWords.{length-words, length-leaves}
use Rattle.stream_types.proofs.Widths.{Stands-element}
use Rattle.extern_rows.specs.declared.event.Piece.{Piece}
use Rattle.extern_rows.specs.declared.event.Piece.TheVariants.{Gap, Word, Open, Comma, Close}
use Rattle.extern_rows.specs.Events.{Fits, pieces_text, before_name}
use Rattle.extern_rows.specs.ValueTexts.{each_entry, parted, Written, written_scalar, written_nothing, texts_of, within_brackets, written_at, written_entry, written_as, pieces_at, pieces_entry, pieces_of, piece_scalars, comma_before, shape_of, args_text, EventsShowValues, ValuesByType, LogIsWritten}
use Rattle.extern_rows.proofs.EntryParts.{at-longer, entry_is}

-- ---- lists with commas

pub parted-push : (xs : List (List Piece)) (x : List Piece) (first : Bool) → first ≡ (length xs == 0) → parted Comma (xs ++ x ∷ []) ≡ parted Comma xs ++ comma_before first ++ x
parted-push [] x true h = append-nil x
parted-push [] x false h = absurd (cc)
parted-push (y ∷ xs) x true h = absurd (let k : (length (y ∷ xs) == 0) ≡ false = grind (arith, nat_tests) in cc)
parted-push (y ∷ xs) x false h =
    ap (λ (r : List Piece). y ++ r) (flat_map-append (λ ys. Comma ∷ ys) xs (x ∷ []) ∙ ap (λ (r : List Piece). flat_map (λ ys. Comma ∷ ys) xs ++ Comma ∷ r) (append-nil x))
    ∙ simp append_assoc

-- ---- scalars

scalars-append : (ps qs : List Piece) → piece_scalars (ps ++ qs) ≡ piece_scalars ps ++ piece_scalars qs
scalars-append [] qs = refl
scalars-append (Word s ∷ ps) qs = ap (λ (r : List Scalar). s ∷ r) (scalars-append ps qs)
scalars-append (Gap ∷ ps) qs = scalars-append ps qs
scalars-append (Comma ∷ ps) qs = scalars-append ps qs
scalars-append (Open b ∷ ps) qs = scalars-append ps qs
scalars-append (Close b ∷ ps) qs = scalars-append ps qs

scalars-behind : (xs : List (List Piece)) → piece_scalars (flat_map (λ ys. Comma ∷ ys) xs) ≡ flat_map piece_scalars xs
scalars-behind [] = refl
scalars-behind (x ∷ xs) = scalars-append x (flat_map (λ ys. Comma ∷ ys) xs) ∙ ap (λ (r : List Scalar). piece_scalars x ++ r) (scalars-behind xs)

scalars-parted : (xs : List (List Piece)) (b : ℕ) → piece_scalars (parted Comma xs ++ Close b ∷ []) ≡ flat_map piece_scalars xs
scalars-parted [] b = refl
scalars-parted (x ∷ xs) b =
    scalars-append (x ++ flat_map (λ ys. Comma ∷ ys) xs) (Close b ∷ []) ∙ append-nil (piece_scalars (x ++ flat_map (λ ys. Comma ∷ ys) xs))
    ∙ scalars-append x (flat_map (λ ys. Comma ∷ ys) xs) ∙ ap (λ (r : List Scalar). piece_scalars x ++ r) (scalars-behind xs)

scalars-place : (before : List (List Piece)) (i : ℕ) → piece_scalars (unwrap_or (slice_get before i) []) ≡ unwrap_or (slice_get (map piece_scalars before) i) []
scalars-place [] i = refl
scalars-place (x ∷ before) zero = refl
scalars-place (x ∷ before) (suc i) = scalars-place before i

scalars-at : (before : List (List Piece)) (t : Ty) → piece_scalars (pieces_at before t) ≡ leaves_at (map piece_scalars before) t
scalars-at before (ty.Scalar s) = refl
scalars-at before (ty.Array i) = scalars-place before i
scalars-at before (ty.Struct i) = scalars-place before i

scalars-elements : (n : ℕ) (x : List Piece) → flat_map piece_scalars (replicate n x) ≡ repeated n (piece_scalars x)
scalars-elements zero x = refl
scalars-elements (suc n) x = ap (λ (r : List Scalar). piece_scalars x ++ r) (scalars-elements n x)

scalars-members : (before : List (List Piece)) (fs : List Field) → flat_map piece_scalars (map (λ (f : Field). pieces_at before f.ty) fs) ≡ leaves_of_fields (map piece_scalars before) fs
scalars-members before [] = refl
scalars-members before (f ∷ fs) =
    ap (λ (r : List Scalar). r ++ flat_map piece_scalars (map (λ (g : Field). pieces_at before g.ty) fs)) (scalars-at before f.ty)
    ∙ ap (λ (r : List Scalar). leaves_at (map piece_scalars before) f.ty ++ r) (scalars-members before fs)

scalars-entry : (before : List (List Piece)) (e : TypeEntry) → piece_scalars (pieces_entry before e) ≡ leaves_of_entry (map piece_scalars before) e
scalars-entry before (entry.Array elem n) =
    scalars-parted (replicate n (pieces_at before elem)) 93 ∙ scalars-elements n (pieces_at before elem) ∙ ap (λ (r : List Scalar). repeated n r) (scalars-at before elem)
scalars-entry before (entry.Struct name fields) = scalars-parted (map (λ (f : Field). pieces_at before f.ty) fields) 125 ∙ scalars-members before fields

scalars-all : (before : List (List Piece)) (es : List TypeEntry) → map piece_scalars (each_entry pieces_entry before es) ≡ all_leaves (map piece_scalars before) es
scalars-all before [] = refl
scalars-all before (e ∷ es) =
    scalars-all (before ++ pieces_entry before e ∷ []) es
    ∙ ap (λ (ls : List (List Scalar)). all_leaves ls es)
    (map_push piece_scalars before (pieces_entry before e) ∙ ap (λ (l : List Scalar). map piece_scalars before ++ l ∷ []) (scalars-entry before e))

pub scalars-pieces : (types : List TypeEntry) (t : Ty) → piece_scalars (pieces_of types t) ≡ leaves types t
scalars-pieces types t = scalars-at (each_entry pieces_entry [] types) t ∙ ap (λ (ls : List (List Scalar)). leaves_at ls t) (scalars-all [] types)

pub words_fit : (ps : List Piece) (ws : List ℕ) → AreWords (piece_scalars ps) ws → Fits ps ws
words_fit [] [] h = tt
words_fit [] (w ∷ ws) h = absurd h
words_fit (Word s ∷ ps) [] h = absurd h
words_fit (Word s ∷ ps) (w ∷ ws) h = (h.0, words_fit ps ws h.1)
words_fit (Gap ∷ ps) ws h = (tt, words_fit ps ws h)
words_fit (Comma ∷ ps) ws h = (tt, words_fit ps ws h)
words_fit (Open b ∷ ps) ws h = (tt, words_fit ps ws h)
words_fit (Close b ∷ ps) ws h = (tt, words_fit ps ws h)

-- ---- by entry

stays : (types more : List TypeEntry) (e : TypeEntry) → IsGoodEntry types e → pieces_entry (each_entry pieces_entry [] (types ++ more)) e ≡ pieces_entry (each_entry pieces_entry [] types) e
stays types more (entry.Array elem n) h =
    ap (λ (p : List Piece). Open 91 ∷ parted Comma (replicate n p) ++ Close 93 ∷ []) (at-longer pieces_entry (λ s. Word s ∷ []) [] types more elem (Stands-element types elem h.0))
stays types more (entry.Struct name fields) h = ap (λ (ps : List (List Piece)). Open 123 ∷ parted Comma ps ++ Close 125 ∷ []) (at fields h.0) where
  at : (fs : List Field) → All (λ (f : Field). Stands types f.ty) fs
      → map (λ (f : Field). pieces_at (each_entry pieces_entry [] (types ++ more)) f.ty) fs ≡ map (λ (f : Field). pieces_at (each_entry pieces_entry [] types) f.ty) fs
  at [] k = refl
  at (f ∷ fs) k =
      let one = at-longer pieces_entry (λ s. Word s ∷ []) [] types more f.ty (k 0 f (omega arith)) in
      let rest = at fs (λ i d p. k (suc i) d (omega arith)) in cc

pub pieces-array : (types : List TypeEntry) (i : ℕ) (elem : Ty) (n : ℕ) → IsTypeList types → slice_get types i ≡ Some (entry.Array elem n)
    → pieces_of types (ty.Array i) ≡ Open 91 ∷ parted Comma (replicate n (pieces_of types elem)) ++ Close 93 ∷ []
pieces-array types i elem n h p = ap (λ (o : Option (List Piece)). unwrap_or o []) (entry_is pieces_entry stays types i (entry.Array elem n) h p)

pub pieces-struct : (types : List TypeEntry) (i : ℕ) (name : List ℕ) (fields : List Field) → IsTypeList types → slice_get types i ≡ Some (entry.Struct name fields)
    → pieces_of types (ty.Struct i) ≡ Open 123 ∷ parted Comma (map (λ (f : Field). pieces_of types f.ty) fields) ++ Close 125 ∷ []
pieces-struct types i name fields h p = ap (λ (o : Option (List Piece)). unwrap_or o []) (entry_is pieces_entry stays types i (entry.Struct name fields) h p)

-- ---- texts

-- these parts show the text that is written so, whatever comes behind
pub record Shows (ps : List Piece) (v : Written) : Type 0 where
  pub count : length (piece_scalars ps) ≡ v.width
  pub text : (more : List Piece) (ws rest : List ℕ) → length ws ≡ v.width → pieces_text (ps ++ more) (ws ++ rest) ≡ v.text ws ++ pieces_text more rest

abbrev AllShow : List (List Piece) → List Written → Type 0
AllShow [] [] = Unit {0}
AllShow [] (v ∷ vs) = ⊥
AllShow (p ∷ ps) [] = ⊥
AllShow (p ∷ ps) (v ∷ vs) = Shows p v × AllShow ps vs

no_words : (ws : List ℕ) → length ws ≡ 0 → ws ≡ []
no_words [] h = refl
no_words (w ∷ ws) h = absurd (omega arith)

one_word : (ws : List ℕ) → length ws ≡ 1 → (w : ℕ) × (ws ≡ w ∷ [])
one_word [] h = absurd (omega arith)
one_word (w ∷ ws) h = (w, ap (λ (r : List ℕ). w ∷ r) (no_words ws (omega arith)))

shows-scalar : (s : Scalar) → Shows (Word s ∷ []) (written_scalar s)
shows-scalar s = record { count = refl; text = λ more ws rest h. let p = one_word ws h in rw p.1 refl }

shows-nothing : Shows [] written_nothing
shows-nothing = record { count = refl; text = λ more ws rest h. rw (no_words ws h) refl }

-- values behind a separator, as they are shown
behind_text : (sep : Piece) (b : ℕ) → ((ps : List Piece) (ws : List ℕ) → pieces_text (sep ∷ ps) ws ≡ b ∷ pieces_text ps ws) → (ps : List (List Piece)) (vs : List Written) → AllShow ps vs
    → (more : List Piece) (ws rest : List ℕ) → length ws ≡ sum_by (λ (v : Written). v.width) vs
    → pieces_text (flat_map (λ ys. sep ∷ ys) ps ++ more) (ws ++ rest) ≡ flat_map (λ text. b ∷ text) (texts_of vs ws) ++ pieces_text more rest
behind_text sep b sees [] [] all more ws rest h = rw (no_words ws h) refl
behind_text sep b sees [] (v ∷ vs) all more ws rest h = absurd all
behind_text sep b sees (p ∷ ps) [] all more ws rest h = absurd all
behind_text sep b sees (p ∷ ps) (v ∷ vs) all more ws rest h =
    let width : length ws ≡ v.width + sum_by (λ (x : Written). x.width) vs = h ∙ sum_by-cons (λ (x : Written). x.width) v vs in
    let here : List ℕ = take v.width ws in
    let later : List ℕ = drop v.width ws in
    let fits : length here ≡ v.width = omega (arith, length-take v.width ws) in
    let left : length later ≡ sum_by (λ (x : Written). x.width) vs = omega (arith, length-drop v.width ws) in
    let tail : List Piece = flat_map (λ ys. sep ∷ ys) ps in
    sees ((p ++ tail) ++ more) (ws ++ rest)
    ∙ ap (λ (qs : List Piece). b ∷ pieces_text qs (ws ++ rest)) (append_assoc p tail more)
    ∙ ap (λ (xs : List ℕ). b ∷ pieces_text (p ++ (tail ++ more)) xs) (ap (λ (xs : List ℕ). xs ++ rest) (sym (take-append-drop v.width ws)) ∙ append_assoc here later rest)
    ∙ ap (λ (xs : List ℕ). b ∷ xs) (all.0.text (tail ++ more) here (later ++ rest) fits)
    ∙ ap (λ (xs : List ℕ). b ∷ (v.text here ++ xs)) (behind_text sep b sees ps vs all.1 more later rest left)
    ∙ ap (λ (xs : List ℕ). b ∷ xs) (sym (append_assoc (v.text here) (flat_map (λ text. b ∷ text) (texts_of vs later)) (pieces_text more rest)))

sees_comma : (ps : List Piece) (ws : List ℕ) → pieces_text (Comma ∷ ps) ws ≡ 44 ∷ pieces_text ps ws
sees_comma ps ws = refl

sees_gap : (ps : List Piece) (ws : List ℕ) → pieces_text (Gap ∷ ps) ws ≡ 32 ∷ pieces_text ps ws
sees_gap ps ws = refl

parted_text : (ps : List (List Piece)) (vs : List Written) → AllShow ps vs → (more : List Piece) (ws rest : List ℕ) → length ws ≡ sum_by (λ (v : Written). v.width) vs
    → pieces_text (parted Comma ps ++ more) (ws ++ rest) ≡ parted 44 (texts_of vs ws) ++ pieces_text more rest
parted_text [] [] all more ws rest h = rw (no_words ws h) refl
parted_text [] (v ∷ vs) all more ws rest h = absurd all
parted_text (p ∷ ps) [] all more ws rest h = absurd all
parted_text (p ∷ ps) (v ∷ vs) all more ws rest h =
    let e : 44 ∷ pieces_text (parted Comma (p ∷ ps) ++ more) (ws ++ rest) ≡ 44 ∷ (parted 44 (texts_of (v ∷ vs) ws) ++ pieces_text more rest) = behind_text Comma 44 sees_comma (p ∷ ps) (v ∷ vs) all more ws rest h in
    cc

count-parted : (ps : List (List Piece)) (vs : List Written) → AllShow ps vs → length (flat_map piece_scalars ps) ≡ sum_by (λ (v : Written). v.width) vs
count-parted [] [] all = refl
count-parted [] (v ∷ vs) all = absurd all
count-parted (p ∷ ps) [] all = absurd all
count-parted (p ∷ ps) (v ∷ vs) all =
    omega (arith, length-append (piece_scalars p) (flat_map piece_scalars ps), all.0.count, count-parted ps vs all.1, sum_by-cons (λ (x : Written). x.width) v vs)

shows-brackets : (a b : ℕ) (ps : List (List Piece)) (vs : List Written) → AllShow ps vs → Shows (Open a ∷ parted Comma ps ++ Close b ∷ []) (within_brackets (a ∷ []) (b ∷ []) vs)
shows-brackets a b ps vs all = record {
  count = ap length (scalars-parted ps b) ∙ count-parted ps vs all;
  text = λ more ws rest h.
      ap (λ (qs : List Piece). a ∷ pieces_text qs (ws ++ rest)) (append_assoc (parted Comma ps) (Close b ∷ []) more)
      ∙ ap (λ (xs : List ℕ). a ∷ xs) (parted_text ps vs all (Close b ∷ more) ws rest h)
      ∙ ap (λ (xs : List ℕ). a ∷ xs) (sym (append_assoc (parted 44 (texts_of vs ws)) (b ∷ []) (pieces_text more rest)));
}

shows-place : (ps : List (List Piece)) (vs : List Written) (i : ℕ) → AllShow ps vs → Shows (unwrap_or (slice_get ps i) []) (unwrap_or (slice_get vs i) written_nothing)
shows-place [] [] i all = shows-nothing
shows-place [] (v ∷ vs) i all = absurd all
shows-place (p ∷ ps) [] i all = absurd all
shows-place (p ∷ ps) (v ∷ vs) zero all = all.0
shows-place (p ∷ ps) (v ∷ vs) (suc i) all = shows-place ps vs i all.1

shows-at : (ps : List (List Piece)) (vs : List Written) → AllShow ps vs → (t : Ty) → Shows (pieces_at ps t) (written_at vs t)
shows-at ps vs all (ty.Scalar s) = shows-scalar s
shows-at ps vs all (ty.Array i) = shows-place ps vs i all
shows-at ps vs all (ty.Struct i) = shows-place ps vs i all

shows-elements : (n : ℕ) (p : List Piece) (v : Written) → Shows p v → AllShow (replicate n p) (replicate n v)
shows-elements zero p v s = tt
shows-elements (suc n) p v s = (s, shows-elements n p v s)

shows-members : (ps : List (List Piece)) (vs : List Written) → AllShow ps vs → (fs : List Field) → AllShow (map (λ (f : Field). pieces_at ps f.ty) fs) (map (λ (f : Field). written_at vs f.ty) fs)
shows-members ps vs all [] = tt
shows-members ps vs all (f ∷ fs) = (shows-at ps vs all f.ty, shows-members ps vs all fs)

shows-entry : (ps : List (List Piece)) (vs : List Written) → AllShow ps vs → (e : TypeEntry) → Shows (pieces_entry ps e) (written_entry vs e)
shows-entry ps vs all (entry.Array elem n) = shows-brackets 91 93 (replicate n (pieces_at ps elem)) (replicate n (written_at vs elem)) (shows-elements n (pieces_at ps elem) (written_at vs elem) (shows-at ps vs all elem))
shows-entry ps vs all (entry.Struct name fields) =
    shows-brackets 123 125 (map (λ (f : Field). pieces_at ps f.ty) fields) (map (λ (f : Field). written_at vs f.ty) fields) (shows-members ps vs all fields)

all_show-push : (ps : List (List Piece)) (vs : List Written) (p : List Piece) (v : Written) → AllShow ps vs → Shows p v → AllShow (ps ++ p ∷ []) (vs ++ v ∷ [])
all_show-push [] [] p v all s = (s, tt)
all_show-push [] (x ∷ vs) p v all s = absurd all
all_show-push (q ∷ ps) [] p v all s = absurd all
all_show-push (q ∷ ps) (x ∷ vs) p v all s = (all.0, all_show-push ps vs p v all.1 s)

shows-all : (ps : List (List Piece)) (vs : List Written) → AllShow ps vs → (es : List TypeEntry) → AllShow (each_entry pieces_entry ps es) (each_entry written_entry vs es)
shows-all ps vs all [] = all
shows-all ps vs all (e ∷ es) = shows-all (ps ++ pieces_entry ps e ∷ []) (vs ++ written_entry vs e ∷ []) (all_show-push ps vs (pieces_entry ps e) (written_entry vs e) all (shows-entry ps vs all e)) es

pub shows : (types : List TypeEntry) (t : Ty) → Shows (pieces_of types t) (written_as types t)
shows types t = shows-at (each_entry pieces_entry [] types) (each_entry written_entry [] types) (shows-all [] [] tt types) t

-- ---- events

args_show : (types : List TypeEntry) (args : List Ty) → AllShow (map (pieces_of types) args) (map (written_as types) args)
args_show types [] = tt
args_show types (t ∷ args) = (shows types t, args_show types args)

shape_is : (types : List TypeEntry) (args : List Ty) → shape_of types args ≡ flat_map (λ ys. Gap ∷ ys) (map (pieces_of types) args)
shape_is types [] = refl
shape_is types (t ∷ args) = ap (λ (r : List Piece). (Gap ∷ pieces_of types t) ++ r) (shape_is types args)

shape-scalars : (types : List TypeEntry) (args : List Ty) → piece_scalars (shape_of types args) ≡ flat_map (leaves types) args
shape-scalars types [] = refl
shape-scalars types (t ∷ args) =
    scalars-append (pieces_of types t) (shape_of types args)
    ∙ ap (λ (r : List Scalar). r ++ piece_scalars (shape_of types args)) (scalars-pieces types t)
    ∙ ap (λ (r : List Scalar). leaves types t ++ r) (shape-scalars types args)

args-scalars : (types : List TypeEntry) (args : List Ty) → flat_map piece_scalars (map (pieces_of types) args) ≡ flat_map (leaves types) args
args-scalars types [] = refl
args-scalars types (t ∷ args) =
    ap (λ (r : List Scalar). r ++ flat_map piece_scalars (map (pieces_of types) args)) (scalars-pieces types t) ∙ ap (λ (r : List Scalar). leaves types t ++ r) (args-scalars types args)

args_text_is : (types : List TypeEntry) (args : List Ty) (ws : List ℕ) → AreWords (flat_map (leaves types) args) ws → pieces_text (shape_of types args) ws ≡ args_text types args ws
args_text_is types args ws h =
    let ps : List (List Piece) = map (pieces_of types) args in
    let vs : List Written = map (written_as types) args in
    let all : AllShow ps vs = args_show types args in
    let count : length ws ≡ sum_by (λ (v : Written). v.width) vs =
    length-words (flat_map (leaves types) args) ws h ∙ ap length (sym (args-scalars types args)) ∙ count-parted ps vs all in
    ap (λ (qs : List Piece). pieces_text qs ws) (shape_is types args ∙ sym (append-nil (flat_map (λ ys. Gap ∷ ys) ps)))
    ∙ ap (λ (xs : List ℕ). pieces_text (flat_map (λ ys. Gap ∷ ys) ps ++ []) xs) (sym (append-nil ws))
    ∙ behind_text Gap 32 sees_gap ps vs all [] ws [] count
    ∙ append-nil (args_text types args ws)

pub events_show_values : EventsShowValues
events_show_values types step e h = record {
  fits = words_fit (shape_of types e.args) e.words (subst (λ (ss : List Scalar). AreWords ss e.words) (sym (shape-scalars types e.args)) h);
  text = ap (λ (xs : List ℕ). decimal step ++ before_name e.mark ++ e.name ++ xs ++ codes "\n") (args_text_is types e.args e.words h);
}

-- ---- one part more

pub one_part : (out now later : List Piece) (b : ℕ) (xs : List (List Piece)) (x : List Piece) (first : Bool) → first ≡ (length xs == 0)
    → now ≡ out ++ Open b ∷ parted Comma xs → later ≡ (now ++ comma_before first) ++ x → later ≡ out ++ Open b ∷ parted Comma (xs ++ x ∷ [])
one_part out now later b xs x first e so_far added =
    let spread : ((out ++ Open b ∷ parted Comma xs) ++ comma_before first) ++ x ≡ out ++ Open b ∷ (parted Comma xs ++ (comma_before first ++ x)) = simp append_assoc in
    added ∙ ap (λ (r : List Piece). (r ++ comma_before first) ++ x) so_far ∙ spread
    ∙ ap (λ (r : List Piece). out ++ Open b ∷ r) (sym (append_assoc (parted Comma xs) (comma_before first) x) ∙ sym (parted-push xs x first e))

pub one_element : (out now later : List Piece) (b k : ℕ) (p : List Piece) → now ≡ out ++ Open b ∷ parted Comma (replicate k p) → later ≡ (now ++ comma_before (k == 0)) ++ p
    → later ≡ out ++ Open b ∷ parted Comma (replicate (k + 1) p)
one_element out now later b k p so_far added =
    one_part out now later b (replicate k p) p (k == 0) (ap (λ (n : ℕ). n == 0) (sym (length-replicate k p))) so_far added
    ∙ ap (λ (ps : List (List Piece)). out ++ Open b ∷ parted Comma ps) (sym (replicate_next k p))

pub one_member : (of : Field → List Piece) (out now later : List Piece) (b k : ℕ) (fields : List Field) (f : Field) → k < length fields → f ≡ get_or fields k f
    → now ≡ out ++ Open b ∷ parted Comma (map of (take k fields)) → later ≡ (now ++ comma_before (k == 0)) ++ of f
    → later ≡ out ++ Open b ∷ parted Comma (map of (take (k + 1) fields))
one_member of out now later b k fields f low is so_far added =
    let count : length (map of (take k fields)) ≡ k = grind (arith, common_steps) in
    let longer : take (k + 1) fields ≡ take k fields ++ f ∷ [] = take_more fields k f low ∙ ap (λ (x : Field). take k fields ++ x ∷ []) (sym is) in
    one_part out now later b (map of (take k fields)) (of f) (k == 0) (ap (λ (n : ℕ). n == 0) (sym count)) so_far added
    ∙ ap (λ (ps : List (List Piece)). out ++ Open b ∷ parted Comma ps) (sym (ap (map of) longer ∙ map_push of (take k fields) f))

pub close_parts : (r : Result (Unit {0}) AllocError) (out now later whole : List Piece) (b d : ℕ) (ps : List (List Piece)) → now ≡ out ++ Open b ∷ parted Comma ps
    → whole ≡ Open b ∷ parted Comma ps ++ Close d ∷ [] → OnOk r (later ≡ now ++ Close d ∷ []) → OnOk r (later ≡ out ++ whole)
close_parts (Ok u) out now later whole b d ps so_far is h =
    h ∙ ap (λ (r : List Piece). r ++ Close d ∷ []) so_far ∙ append_assoc out (Open b ∷ parted Comma ps) (Close d ∷ []) ∙ ap (λ (r : List Piece). out ++ r) (sym is)
close_parts (Err e) out now later whole b d ps so_far is h = tt

-- ---- the text of a value, by the entry of its type

written-stays : (types more : List TypeEntry) (e : TypeEntry) → IsGoodEntry types e → written_entry (each_entry written_entry [] (types ++ more)) e ≡ written_entry (each_entry written_entry [] types) e
written-stays types more (entry.Array elem n) h =
    ap (λ (v : Written). within_brackets (codes "[") (codes "]") (replicate n v)) (at-longer written_entry written_scalar written_nothing types more elem (Stands-element types elem h.0))
written-stays types more (entry.Struct name fields) h = ap (λ (vs : List Written). within_brackets (codes "{") (codes "}") vs) (at fields h.0) where
  at : (fs : List Field) → All (λ (f : Field). Stands types f.ty) fs
      → map (λ (f : Field). written_at (each_entry written_entry [] (types ++ more)) f.ty) fs ≡ map (λ (f : Field). written_at (each_entry written_entry [] types) f.ty) fs
  at [] k = refl
  at (f ∷ fs) k =
      let one = at-longer written_entry written_scalar written_nothing types more f.ty (k 0 f (omega arith)) in
      let rest = at fs (λ i d p. k (suc i) d (omega arith)) in cc

pub values_by_type : ValuesByType
values_by_type types h = record {
  scalar = λ s w. refl;
  array = λ i elem n ws p. ap (λ (o : Option Written). (unwrap_or o written_nothing).text ws) (entry_is written_entry written-stays types i (entry.Array elem n) h p);
  struct = λ i name fields ws p. ap (λ (o : Option Written). (unwrap_or o written_nothing).text ws) (entry_is written_entry written-stays types i (entry.Struct name fields) h p);
  width = λ t. sym (shows types t).count ∙ ap length (scalars-pieces types t) ∙ length-leaves types t;
}

pub log_is_written : LogIsWritten
unfolding digits
log_is_written = refl
