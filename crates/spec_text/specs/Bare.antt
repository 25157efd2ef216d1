-- Forms without places, as trees with each place 0.
use Rattle.spec_forest.specs.Node.{Node, Nodes, atom, list}
use Rattle.spec_forest.specs.Node.{none as no_node, more as more_node}
use Rattle.spec_text.specs.Form.{Form, Forms, word, form, none, more}

abbrev mutual
  pub bare : Form → Node
  bare (word at bytes) = atom 0 bytes
  bare (form at items) = list 0 (bares items)

  pub bares : Forms → Nodes
  bares none = no_node
  bares (more f fs) = more_node (bare f) (bares fs)
