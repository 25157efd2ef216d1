use Rattle.tool_top.proofs.tell.tell.Goals as goal

pub returns-in-Undefined : goal.returns-in-Undefined
returns-in-Undefined g c = rw (c.in-Undefined.is, ← c.undefined_word.ensures, ← c.as_bytes-in-Undefined.ensures.value) c.tell_step-in-Undefined.ensures

pub returns-in-BadRow : goal.returns-in-BadRow
returns-in-BadRow g c = rw c.in-BadRow.is c.tell_row.ensures

pub returns-in-ReadFault : goal.returns-in-ReadFault
returns-in-ReadFault g c = rw c.in-ReadFault.is c.write_all-in-ReadFault.ensures

pub returns-in-WriteFault : goal.returns-in-WriteFault
returns-in-WriteFault g c = rw c.in-WriteFault.is c.write_all-in-WriteFault.ensures
