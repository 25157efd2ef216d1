-- `get` looks at the words that a `&` lends, and reads one word's cell. Assumes `Logic`.
use Rattle.std.proofs.Common.{◌+◌, ◌*◌, ◌^◌, ◌<◌, ◌≤◌, List, [], ◌∷◌, length, get_or, refl, arith, w64}
use base.Logic.{id⊢, never}
use base.Fml.{ftrue, fat, flft, fhide}
use mir.Syntax.{ty_int, named}
use mir.Val.{Val, vint}
use contract.Monad.{fact}
use contract.Running.{tables}
use types.Kit.{‵, raw, ◌⊛◌, at_ret, ◌$◌, ◌∵◌, !, qed, done, move, keep, use1, use2, split, join, fsplit, fjoin, feq_i, flt_i, suffices, frame}
use types.Run.{enter, of_opd, lit, bin, load, look, stop, fld, first, blocks, exec, returns, well_typed}
use types.ByLocal.{alloc_all, pass_all, free_all, look_at, get, through, sets, sets_last, env}
use denote.Builtin.{u64, usize, RefOf}
use denote.Copied.{uint_Copied}
use denote.Exit.{yes}
use denote.Index.{row, looks_slice, shuts_slice}
use denote.Memory.{hidden_shr}
use denote.Plain.{uint_vals, uint_Tells}
use denote.RattleType.{owns}
use denote.RawPtr.{in_a_block}
use denote.Ref.{shr_vals, shr_Tells}
use denote.Signature.{plain, types_at}
use denote.Opens.{unhide, hide}
use denote.Steps.{nothing, heard}
use denote.Struct.Lending.{lent_out}
use denote.Struct.Struct.{Struct}
use denote.Struct.Owning.{shape}
use denote.Triple.Walked.{Stays, walk_of, says, stay_dropped, Goes-dropped, ends_at}
use Rattle.std.proofs.raw_atomic.Walks.{proved}
use Rattle.std.proofs.VecSteps.Shapes.{after}
use Rattle.ring_bank.specs.Ownership.{words_lent}
use Rattle.ring_bank.proofs.CellWalks.{rest, cell_out, cell_back, pointer_in, pointer_out}
use Rattle.ring_bank.specs.contracts.words.Words.get as f
use Rattle.ring_bank.specs.contracts.words.Words as C
use Rattle.ring_bank.proofs.words.Words.get.Statement.{statement}
use Rattle.ring_bank.proofs.words.Words.get.Code as code

abbrev stayed : Stays f.ended.signature.params f.ended.kept
stayed = (stay_dropped (RefOf (0 ∷ []) tt (plain (λ _. C.the_row)) (λ _. tt)) yes, (stay_dropped (plain (λ _. usize)) yes, tt))

pub get_spec : {M : Type 1} → statement M
get_spec 𝓤 𝓛 𝓜 𝓡 wired =
    let c = f.clauses 𝓛 𝓜.mem 𝓡.returns in let W = walk_of 𝓛 f.ended stayed c in let 𝓣 = tables 𝓤 𝓛.H 𝓜 𝓡 𝓡.env in
    proved 𝓛 f.ended stayed c 𝓜 𝓡
    (Goes-dropped 𝓛 1 (RefOf (0 ∷ []) tt (plain (λ _. C.the_row)) (λ _. tt)) yes (λ κs x w. refl), (Goes-dropped 𝓛 1 (plain (λ _. usize)) yes (λ κs x w. refl), tt))
    f.Key.name code.function (code.unfolded 𝓤 𝓛.H 𝓜 𝓡 wired)
    (λ κs. (shr_vals, (uint_vals w64, tt))) (λ κs. (shr_Tells (named 0) κs.0 C.the_row, (uint_Tells w64, tt))) (λ κs qs bounds a _ are.
    let κ = κs.0 in let b = a.0.ref_ptr.0 in let o = a.0.ref_ptr.1 in let h = a.0.now in let i = a.1.0 in
    let y : W.Ghost = ((κs, qs, bounds, a, (shr_vals a.0, (uint_vals w64 i, tt))), tt) in
    qed 𝓛 (((‵ (flft κ qs.0) ⊛ ‵ ftrue) ⊛ ‵ (owns (types_at f.ended.signature.params κs) a y.0.4)) ∷ raw (fact 𝓤 (i < length h.words)) ∷ []) ∵
    move ! (1 ∷ []) $ heard ! _ (λ inside.
    let few : length h.words ≤ 262144 = omega (arith, h.within.0, h.within.1) in
    let offset : i * 8 < 2 ^ 64 = omega arith in
    split ! $ split ! $ move ! (2 ∷ []) $ fsplit ! $ fsplit ! $ keep ! (1 ∷ 3 ∷ []) $
    -- [what self lends; the token]
    use1 𝓛 (‵ (hidden_shr (Struct (shape C.the_type)) κ (h.at, tt) b o) ⊛ ‵ (fhide (words_lent h.at h.words κ))) (lent_out 𝓛 C.struct C.the_codes C.the_heap C.the_lent κ h b o) $ split ! $
    unhide ! $ fsplit ! $ fsplit ! $ hide ! $ keep ! (0 ∷ 3 ∷ 4 ∷ []) $ move ! (1 ∷ []) $ unhide ! $
    in_a_block ! h.at (λ p. words_lent p h.words κ) (id⊢ 𝓤 (never 𝓤)) (λ b' o' e. hide ! $ move ! (1 ∷ 2 ∷ []) $
    -- [the pointer, lent; the token; the words, lent]
    let word = get_or h.words i 0 in
    enter ! _ _ _ _ _ $ alloc_all ! (λ l. pass_all ! refl ((tt, tt), ((tt, record { fits = are.1.0.1 }), tt)) $
    first ! $ blocks ! $
    pointer_in ! tt h.at b' o' e b (o + 0) (λ q'.
    sets ! (of_opd ! (load ! (through ! refl (fld ! refl (stop !))) (look ! 0 refl))) refl (tt, tt) $
    pointer_out ! tt h.at b' o' e b (o + 0) $
    sets ! (bin ! (get ! refl) (lit ! tt) (record { fits = offset })) refl (tt, record { fits = offset }) $
    sets ! (bin ! (get ! refl) (get ! refl) tt) refl (tt, tt) $
    move ! (1 ∷ 0 ∷ []) $ looks_slice ! tt u64 (uint_Copied 𝓛 w64) h.words b' o' (λ q₂.
    use1 𝓛 (‵ (fat q₂ (ty_int w64) b' (i * 8 + o') (vint w64 word)) ⊛ ‵ (rest 𝓛 q₂ b' o' h.words i inside)) (cell_out 𝓛 q₂ b' o' h.words i inside) $ split ! $ well_typed ! (λ good.
    sets_last ! (of_opd ! (load ! (through ! refl (stop !)) (look ! 0 refl))) refl good $
    exec ! 𝓣.C 𝓣.Λ (env code.Mir.locals l) (after 1 (code.function).body) (at_ret _ (W.post y)) $
    sets ! (of_opd ! (get ! refl)) refl good $
    use2 𝓛 (‵ (row u64 q₂ h.words b' o')) (cell_back 𝓛 q₂ b' o' h.words i inside) $ shuts_slice ! tt u64 q₂ h.words b' o' $
    returns ! (look_at ! 0 refl) $ free_all ! refl $ keep ! (0 ∷ []) $
    suffices ! _ (ends_at 𝓛 f.ended stayed c y (vint w64 word) word (tt, (tt, tt)) (tt, (tt, tt))) $ says ! refl $
    nothing ! $ move ! (1 ∷ 0 ∷ []) $ join ! $ frame ! $ nothing ! $ nothing ! $ fjoin ! $ nothing ! $ fjoin ! $
    flt_i ! word (2 ^ 64) good.1.fits $ feq_i ! (List Val) (vint w64 word ∷ []) (vint w64 word ∷ []) refl $ fjoin ! $ move ! (1 ∷ 0 ∷ []) $ done !)))))))
