-- A `&` to the words is made where one to a word is. Assumes `Logic`.
use Rattle.std.specs.Prelude.{ℕ, ◌+◌, ◌-◌, ◌*◌, List, length}
use Rattle.std.specs.Borrow.{full_share, u64}
use seplogic.Ra.Ura.{Ura}
use base.Fml.{Lft, ffalse}
use types.Logic.{Logic}
use denote.Index.{row}
use denote.Memory.{shared_of}
use denote.Param.Shared.{Sharable, copy_shared}
use denote.RawPtr.{Ptr, block_ptr, null_ptr}
use denote.Shares.{Shares, shares_each_from}
use denote.Sharing.{ShrLaws, said}
use denote.SharingLaws.{said_shr_laws}
use denote.Slice.{elements_shared, elements_shr_laws}
use denote.Struct.Field.{RawPtr-field, u64-field}
use denote.Struct.Laws.{RawPtr-copy, u64-copy}
use denote.Struct.Lending.{Lends, Lends-false, Lends-first, of_Lends}
use Rattle.ring_bank.specs.Ownership.{words_owned, words_lent, room}
use Rattle.ring_bank.specs.contracts.words.Words as C
use Rattle.ring_bank.proofs.words.Words.TheLaw.Statement.{statement}

word : Sharable u64-field
word = copy_shared u64-field u64-copy

words_lent_laws : (p : Ptr) (xs : List ℕ) → ShrLaws (words_lent p xs)
words_lent_laws (block_ptr b o) xs = elements_shr_laws u64 word.shr_laws xs b o
words_lent_laws null_ptr xs = said_shr_laws ffalse tt

Lends-words : {M : Type 1} {𝓤 : Ura M} (𝓛 : Logic 𝓤) (l : Lft) → Shares 𝓛 u64 l → (p : Ptr) (xs : List ℕ) (n : ℕ) → Lends 𝓛 (words_owned p xs n) (words_lent p xs) l
Lends-words 𝓛 l s (block_ptr b o) xs n =
    Lends-first 𝓛 (row u64 full_share xs b o) (room (n - length xs) b (length xs * 8 + o)) (elements_shared u64 xs b o) l (λ κ ts inc sp. shares_each_from 𝓛 full_share u64 (shared_of u64) l s xs κ ts b o inc sp)
Lends-words 𝓛 l s null_ptr xs n = Lends-false 𝓛 (said ffalse) l

pub shares : statement
shares = of_Lends C.struct C.the_codes C.the_heap C.the_lent (λ d p. words_lent_laws d.at d.words)
    (copy_shared RawPtr-field RawPtr-copy, tt)
    (λ M 𝓤 𝓛 d p. Lends-words 𝓛 (C.the_row).lives (word.shares M 𝓤 𝓛) d.at d.words d.room)
