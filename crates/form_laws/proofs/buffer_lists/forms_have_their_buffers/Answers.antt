use Rattle.form_laws.proofs.BufferLists.{as_many}
use Rattle.form_laws.proofs.buffer_lists.forms_have_their_buffers.Goals as goal

pub returns : goal.returns
returns c = λ f number b at ps h. as_many f number b at ps h
