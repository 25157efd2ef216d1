use Rattle.std.proofs.lemmas.Result.{err_from_is_err_and}
use Rattle.sm_io.proofs.Written.{then_text, longer}
use Rattle.tool_top.specs.Lines.{place_text}
use Rattle.tool_top.proofs.tell.tell_refusal.Goals as goal

pub returns-in_err-write_parts : goal.returns-in_err-write_parts
returns-in_err-write_parts g c =
    let p = err_from_is_err_and c.from_residual.result c.from_residual.ensures.1 in
    rw (p.1, ← c.kind_word.ensures, ← c.as_bytes.ensures.value) (longer (place_text _ _ _) c.in_err-write_parts.ensures)

pub returns : goal.returns
returns g c = rw (← c.kind_word.ensures, ← c.as_bytes.ensures.value, ← c.place_of.ensures) (then_text c.in_ok-write_parts.ensures c.write_place.ensures)
