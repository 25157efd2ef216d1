-- How many lists and items a form has, and how deep its lists nest.
use Rattle.std.specs.Prelude.{ℕ, ◌+◌, max}
use Rattle.spec_text.specs.Form.{Form, Forms, word, form, none, more}

abbrev mutual
  pub list_count : Form → ℕ
  list_count (word at bytes) = 0
  list_count (form at items) = 1 + list_counts items

  pub list_counts : Forms → ℕ
  list_counts none = 0
  list_counts (more f fs) = list_count f + list_counts fs

-- lists and atoms together
abbrev mutual
  pub item_count : Form → ℕ
  item_count (word at bytes) = 1
  item_count (form at items) = 1 + item_counts items

  pub item_counts : Forms → ℕ
  item_counts none = 0
  item_counts (more f fs) = item_count f + item_counts fs

-- the most lists that stand within each other
abbrev mutual
  pub nesting : Form → ℕ
  nesting (word at bytes) = 0
  nesting (form at items) = 1 + deepest items

  pub deepest : Forms → ℕ
  deepest none = 0
  deepest (more f fs) = max (nesting f) (deepest fs)
