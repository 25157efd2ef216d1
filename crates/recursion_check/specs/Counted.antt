-- How many words a specification has, over its items.
use Rattle.std.specs.Prelude.{ℕ, ◌+◌, ◌*◌, List, [], ◌∷◌, length}
use Rattle.stream_types.specs.declared.types.TypeEntry.{TypeEntry}
use Rattle.stream_types.specs.Types.{words}
use Rattle.stream_core.specs.declared.node.LibForm.{LibForm}
use Rattle.stream_core.specs.declared.spec.ExternItem.{ExternItem}
use Rattle.stream_core.specs.declared.spec.StreamItem.{StreamItem}
use Rattle.stream_core.specs.declared.spec.LibItem.{LibItem}
use Rattle.stream_core.specs.Lower.{buffers, depth}

-- the words of a form's buffers
abbrev pub form_words : LibForm → ℕ
form_words form = buffers form * depth form

abbrev pub streams_words : List StreamItem → ℕ
streams_words [] = 0
streams_words (x ∷ xs) = length x.init + streams_words xs

abbrev pub libs_words : List LibItem → ℕ
libs_words [] = 0
libs_words (x ∷ xs) = form_words x.form + libs_words xs

abbrev pub externs_words : List TypeEntry → List ExternItem → ℕ
externs_words types [] = 0
externs_words types (x ∷ xs) = words types x.ty + externs_words types xs
