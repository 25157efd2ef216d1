use Rattle.std.specs.Prelude.{[], ◌∷◌, codes, decimal}
use Rattle.std.specs.List.{flat_map}
use Rattle.std.proofs.lemmas.Result.{err_from_is_err_and}
use Rattle.sm_io.proofs.Written.{then_text, longer}
use Rattle.tool_top.specs.Lines.{row_words}
use Rattle.tool_top.proofs.tell.tell_row.Goals as goal

pub returns-in_err-write_parts : goal.returns-in_err-write_parts
returns-in_err-write_parts g c =
    let p = err_from_is_err_and c.from_residual.result c.from_residual.ensures.1 in
    rw p.1
    (longer (flat_map (λ piece. piece) (codes " at line " ∷ decimal c.args.line ∷ codes "\n" ∷ []))
    (longer (flat_map (λ piece. piece) (row_words c.args.fault.now c.args.leaf.now)) c.in_err-write_parts.ensures))

pub returns-in_err-write_row_fault : goal.returns-in_err-write_row_fault
returns-in_err-write_row_fault g c =
    let p = err_from_is_err_and c.from_residual-in_err-write_row_fault.result c.from_residual-in_err-write_row_fault.ensures.1 in
    rw p.1
    (longer (flat_map (λ piece. piece) (codes " at line " ∷ decimal c.args.line ∷ codes "\n" ∷ []))
    (then_text c.in_ok-write_parts.ensures c.in_err-write_row_fault.ensures))

pub returns : goal.returns
returns g c = then_text (then_text c.in_ok-write_parts.ensures c.in_ok-write_row_fault.ensures) c.write_line_number.ensures
