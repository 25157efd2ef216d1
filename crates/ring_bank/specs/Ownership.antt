-- What the words of a block own, and what a `&` to them lends.
use Rattle.std.specs.Prelude.{ℕ, ◌+◌, ◌-◌, ◌*◌, List, length}
use Rattle.std.specs.Borrow.{full_share, u64}
use base.Fml.{Lft, Fml, ffalse, fsep, froom}
use mir.Syntax.{Ty, ty_array, ty_int, w64}
use mir.Raw.{raw}
use denote.Index.{row}
use denote.RawPtr.{Ptr, block_ptr, null_ptr}
use denote.Sharing.{said}
use denote.Slice.{elements_shared}

-- memory for n words, whatever it holds now
abbrev pub room : ℕ → ℕ → ℕ → Fml
room n b o = froom (ty_array (ty_int w64) n) b o

-- memory for n words, of which the first hold these
abbrev pub words_owned : Ptr → List ℕ → ℕ → Fml
words_owned (block_ptr b o) xs n = fsep (row u64 full_share xs b o) (room (n - length xs) b (length xs * 8 + o))
words_owned null_ptr xs n = ffalse

-- what a `&` to them shows
abbrev pub words_lent : Ptr → List ℕ → Lft → Fml
words_lent (block_ptr b o) xs = elements_shared u64 xs b o
words_lent null_ptr xs = said ffalse

-- an allocator's token for a block of n words
abbrev pub deed_owned : (Ty → Ptr → Fml) → Ptr → ℕ → Fml
deed_owned token p n = token (raw (ty_array (ty_int w64) n)) p
