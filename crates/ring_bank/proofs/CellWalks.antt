-- What the walks of the block's functions share. Assumes `Logic`.
--     cell_out, cell_back, cell_in     one word's cell is taken out of the row of words, and put back as it was or with another word
--     room_out, row_more               the first place behind the words is taken, and with a word in it is one of them
--     row_room                         words are room
--     pointer_in, pointer_out          a pointer behind a `&` is looked at, and shut again
use Rattle.std.proofs.Common.{◌≡◌, ℕ, suc, ◌+◌, ◌-◌, ◌*◌, ◌<◌, List, [], ◌∷◌, ◌++◌, length, arith, get_or, set, refl, sym, ap, ◌∙◌, w64}
use Rattle.std.specs.Borrow.{full_share, u64}
use seplogic.Ra.Ura.{Ura}
use mir.Syntax.{ty_array, ty_int, ty_ptr}
use mir.Val.{Val, vint, vptr}
use base.Logic.{ent}
use base.Fml.{Lft, Share, Fml, fat, froom, flft}
use types.Logic.{Logic}
use types.Kit.{Item, Goal, Soaks, Seq, Step, step, ‵, ◌⊛◌, ⋆, ◌$◌, ◌∵◌, !, qed, by, move, drop, use1, use2, split, fsplit, fjoin, feq_i, feq_l, rewrite, done}
use denote.Copied.{plain_Copied}
use denote.Opens.{Shut}
use denote.RawPtr.{Ptr, RawPtr, block_ptr, coded_ptr, ptr_own, rawptr_pure, ptr_val}
use denote.Steps.{looks, shuts}
use denote.Struct.Laws.{RawPtr-laws}
use denote.Memory.{cell_at, hidden_shr, part_at, shares}
use denote.Plain.{uint_in, uint_out}
use Rattle.ring_bank.specs.Ownership.{room}
use denote.Index.{row, others, takes, puts, puts_back, place_is, place as nth}

module _ {M : Type 1} {𝓤 : Ura M} (𝓛 : Logic 𝓤) (q : Share) (b o : ℕ) (xs : List ℕ) (i : ℕ) (inside : i < length xs) where
  abbrev pub rest : Fml
  rest = others (shares u64) q xs i b o

  pub cell_out : ent 𝓤 (⋆ 𝓛 (‵ (row u64 q xs b o) ∷ [])) (⋆ 𝓛 (‵ (fat q (ty_int w64) b (i * 8 + o) (vint w64 (get_or xs i 0))) ∷ ‵ rest ∷ []))
  cell_out =
      qed 𝓛 (‵ (row u64 q xs b o) ∷ []) ∵
      use1 𝓛 (‵ (part_at u64 q (get_or xs i 0) b (nth 8 o i)) ⊛ ‵ rest) (takes (shares u64) q 𝓛 xs i 0 b o inside) $ split ! $
      rewrite ! 0 (λ (k : ℕ). ‵ (part_at u64 q (get_or xs i 0) b k)) (place_is 8 o i) refl $
      use1 𝓛 (‵ (fat q (ty_int w64) b (i * 8 + o) (vint w64 (get_or xs i 0)))) (uint_out 𝓛 q w64 (get_or xs i 0) b (i * 8 + o)) $ done !

  pub cell_back : ent 𝓤 (⋆ 𝓛 (‵ (fat q (ty_int w64) b (i * 8 + o) (vint w64 (get_or xs i 0))) ∷ ‵ rest ∷ [])) (⋆ 𝓛 (‵ (row u64 q xs b o) ∷ []))
  cell_back =
      qed 𝓛 (‵ (fat q (ty_int w64) b (i * 8 + o) (vint w64 (get_or xs i 0))) ∷ ‵ rest ∷ []) ∵
      use1 𝓛 (‵ (part_at u64 q (get_or xs i 0) b (i * 8 + o))) (uint_in 𝓛 q w64 (get_or xs i 0) b (i * 8 + o)) $
      rewrite ! 0 (λ (k : ℕ). ‵ (part_at u64 q (get_or xs i 0) b k)) (sym (place_is 8 o i)) refl $
      by ! (puts_back (shares u64) q 𝓛 xs i 0 b o inside)

  pub cell_in : (x : ℕ) → ent 𝓤 (⋆ 𝓛 (‵ (fat q (ty_int w64) b (i * 8 + o) (vint w64 x)) ∷ ‵ rest ∷ [])) (⋆ 𝓛 (‵ (row u64 q (set xs i x) b o) ∷ []))
  cell_in x =
      qed 𝓛 (‵ (fat q (ty_int w64) b (i * 8 + o) (vint w64 x)) ∷ ‵ rest ∷ []) ∵
      use1 𝓛 (‵ (part_at u64 q x b (i * 8 + o))) (uint_in 𝓛 q w64 x b (i * 8 + o)) $
      rewrite ! 0 (λ (k : ℕ). ‵ (part_at u64 q x b k)) (sym (place_is 8 o i)) refl $
      by ! (puts (shares u64) q 𝓛 xs i x b o inside)

module _ {M : Type 1} {𝓤 : Ura M} (𝓛 : Logic 𝓤) where
  -- the first of the places that are left
  pub room_out : (n k b o : ℕ) → n < k → ent 𝓤 (⋆ 𝓛 (‵ (room (k - n) b (n * 8 + o)) ∷ [])) (⋆ 𝓛 (‵ (froom (ty_int w64) b (n * 8 + o)) ∷ ‵ (room (k - (n + 1)) b ((n + 1) * 8 + o)) ∷ []))
  room_out n k b o lt =
      let one_less : k - n ≡ suc (k - (n + 1)) = omega arith in let next : n * 8 + o + 8 ≡ (n + 1) * 8 + o = omega arith in
      qed 𝓛 (‵ (room (k - n) b (n * 8 + o)) ∷ []) ∵
      rewrite ! 0 (λ (m : ℕ). ‵ (room m b (n * 8 + o))) one_less refl $
      use1 𝓛 (‵ (froom (ty_int w64) b (n * 8 + o)) ⊛ ‵ (froom (ty_array (ty_int w64) (k - (n + 1))) b (n * 8 + o + 8))) (𝓛.laws.room_uncons (ty_int w64) (k - (n + 1)) b (n * 8 + o)) $ split ! $ move ! (1 ∷ []) $
      rewrite ! 0 (λ (at : ℕ). ‵ (room (k - (n + 1)) b at)) next refl $ move ! (1 ∷ 0 ∷ []) $ done !

  -- a word behind the others
  pub row_more : (xs : List ℕ) (x b o at : ℕ) → at ≡ length xs * 8 + o → ent 𝓤 (⋆ 𝓛 (‵ (row u64 full_share xs b o) ∷ ‵ (fat full_share (ty_int w64) b at (vint w64 x)) ∷ [])) (⋆ 𝓛 (‵ (row u64 full_share (xs ++ x ∷ []) b o) ∷ []))
  row_more [] x b o at is =
      let first : at ≡ o = omega arith in
      qed 𝓛 (‵ (row u64 full_share [] b o) ∷ ‵ (fat full_share (ty_int w64) b at (vint w64 x)) ∷ []) ∵ move ! (1 ∷ []) $
      use1 𝓛 (‵ (part_at u64 full_share x b at)) (uint_in 𝓛 full_share w64 x b at) $ rewrite ! 0 (λ (k : ℕ). ‵ (part_at u64 full_share x b k)) first refl $ fjoin ! $ done !
  row_more (y ∷ xs) x b o at is =
      let is' : at ≡ suc (length xs) * 8 + o = is in
      qed 𝓛 (‵ (row u64 full_share (y ∷ xs) b o) ∷ ‵ (fat full_share (ty_int w64) b at (vint w64 x)) ∷ []) ∵ fsplit ! $ move ! (1 ∷ 2 ∷ []) $
      use2 𝓛 (‵ (row u64 full_share (xs ++ x ∷ []) b (o + 8))) (row_more xs x b (o + 8) at (omega arith)) $ move ! (1 ∷ 0 ∷ []) $ fjoin ! $ done !

  -- the words' places, whatever they hold
  pub row_room : (xs : List ℕ) (b o : ℕ) → ent 𝓤 (⋆ 𝓛 (‵ (row u64 full_share xs b o) ∷ [])) (⋆ 𝓛 (‵ (room (length xs) b o) ∷ []))
  row_room [] b o = 𝓛.laws.room_nil (ty_int w64) b o
  row_room (x ∷ xs) b o =
      qed 𝓛 (‵ (row u64 full_share (x ∷ xs) b o) ∷ []) ∵ fsplit ! $
      use1 𝓛 (‵ (fat full_share (ty_int w64) b o (vint w64 x))) (uint_out 𝓛 full_share w64 x b o) $ use1 𝓛 (‵ (froom (ty_int w64) b o)) (𝓛.laws.at_room (ty_int w64) b o (vint w64 x)) $ move ! (1 ∷ []) $
      use1 𝓛 (‵ (froom (ty_array (ty_int w64) (length xs)) b (o + 8))) (row_room xs b (o + 8)) $ move ! (1 ∷ []) $ by ! (𝓛.laws.room_cons (ty_int w64) (length xs) b o)

module _ {M : Type 1} {𝓤 : Ura M} {𝓛 : Logic 𝓤} {K : Type 0} {Γ : List (Item 𝓤)} {G : Goal 𝓤 𝓛.H} where
  pub pointer_in : K → Soaks G → {κ : Lft} {q : Share} (p : Ptr) (pb po : ℕ) → p ≡ block_ptr pb po → (b at : ℕ)
      → ((q' : Share) → Seq K 𝓛 (‵ (fat q' ty_ptr b at (vptr pb po)) ∷ Shut 𝓛 κ q (part_at RawPtr q' p b at) ∷ Γ) G) → Seq K 𝓛 (‵ (hidden_shr RawPtr κ p b at) ∷ ‵ (flft κ q) ∷ Γ) G
  pointer_in t z p pb po is b at k =
      looks t z RawPtr (plain_Copied 𝓛 Ptr coded_ptr (ty_ptr ∷ []) ptr_own rawptr_pure ptr_val RawPtr-laws.tells).opens p b at (λ q' vs. move t (1 ∷ []) $ feq_l t (λ e.
      rewrite t 0 (λ (us : List Val). ‵ (cell_at q' RawPtr.mir us b at)) (e ∙ ap (λ (r : Ptr). ptr_val r ∷ []) is) refl $ move t (2 ∷ []) $ drop t $ k q'))

  pub pointer_out : K → Soaks G → {κ : Lft} {q q' : Share} (p : Ptr) (pb po : ℕ) → p ≡ block_ptr pb po → (b at : ℕ)
      → Step K 𝓛 (‵ (flft κ q) ∷ Γ) G (‵ (fat q' ty_ptr b at (vptr pb po)) ∷ Shut 𝓛 κ q (part_at RawPtr q' p b at) ∷ Γ) G
  pointer_out t z {q' = q'} p pb po is b at = step (λ s.
      feq_i t (List Val) (vptr pb po ∷ []) (ptr_val p ∷ []) (ap (λ (r : Ptr). ptr_val r ∷ []) (sym is)) $ move t (1 ∷ 0 ∷ []) $ shuts t z RawPtr q' p (vptr pb po ∷ []) b at $ s)
