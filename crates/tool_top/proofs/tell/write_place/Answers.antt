use Rattle.tool_top.proofs.tell.write_place.Goals as goal

pub returns-in-Requirement : goal.returns-in-Requirement
returns-in-Requirement g c = rw (c.in-Requirement.is, ← c.format.ensures.text, ← c.as_bytes-item.ensures.value) c.write_parts-in-Requirement.ensures

pub returns-in-Formula : goal.returns-in-Formula
returns-in-Formula g c =
    rw (c.in-Formula.is, ← c.format.ensures.text, ← c.as_bytes-item.ensures.value, ← c.format-2.ensures.text, ← c.as_bytes-at.ensures.value) c.write_parts-in-Formula.ensures
