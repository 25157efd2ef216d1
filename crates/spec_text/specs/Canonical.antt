-- The canonical text of a surface.
use Rattle.std.specs.Prelude.{ℕ, List, ◌++◌, codes}
use Rattle.std.specs.List.{flat_map}
use Rattle.spec_text.specs.declared.surface.Decl.{Decl}
use Rattle.spec_text.specs.declared.surface.Surface.{Surface}
use Rattle.spec_words.specs.Words.{spec_word}
use Rattle.spec_text.specs.Form.{Form, Forms, word, form, none, more, form_of_decl}

-- atoms and brackets, with one space between two items and nothing else blank
abbrev mutual
  pub text : Form → List ℕ
  text (word at bytes) = bytes
  text (form at items) = codes "(" ++ texts items ++ codes ")"

  pub texts : Forms → List ℕ
  texts none = codes ""
  texts (more f none) = text f
  texts (more f (more g gs)) = text f ++ codes " " ++ texts (more g gs)

-- a line break, two spaces and the declaration
abbrev pub decl_line : Decl → List ℕ
decl_line d = codes "\n  " ++ text (form_of_decl d)

-- the word of the version and the name, a line for each declaration, and the closing bracket
unfoldable pub canonical : Surface → List ℕ
canonical s = codes "(" ++ spec_word s.version ++ codes " " ++ s.name ++ flat_map decl_line s.decls ++ codes ")\n"
