use Rattle.std.proofs.Common.{ℕ, List, ◌++◌, Option, Some, codes, refl}
use Rattle.std.proofs.lemmas.Result.{err_from_is_err_and}
use Rattle.c99_read.specs.declared.fault.ReadFault.{ReadFault}
use Rattle.c99_read.specs.declared.fault.ReadFault.TheVariants.{Memory, NotRead}
use Rattle.c99_read.specs.Front.{◌>>=◌, behind}
use Rattle.c99_read.specs.Gives.{Fails}
use Rattle.c99_read.specs.UnitAt.{top_at}
use Rattle.c99_read.proofs.heading.top_at.Goals as goal

pair_fail : (e : ReadFault) (o : Option (List ℕ)) (x : List ℕ) → Fails e o → Fails {Y = List ℕ × List ℕ} e (o >>= λ t. Some (x, t))
pair_fail Memory o x h = tt
pair_fail NotRead o x h = rw h refl

pub returns-in_err-rest-2 : goal.returns-in_err-rest-2
unfolding top_at
returns-in_err-rest-2 c =
    let x = c.in_ok-name.name in
    let guard = codes "\n#define CP_" ++ x ++ codes "_H\n#include <stdint.h>\n#include <stdbool.h>\n" in
    let failed = pair_fail c.in_err-rest-2.field-0.0 (behind guard c.in_ok-name.rest.now) x c.in_err-rest-2.ensures in
    let p = err_from_is_err_and c.from_residual-in_err-rest-2.result c.from_residual-in_err-rest-2.ensures.1 in
    rw p.1 (rw p.2 (rw (c.in_ok-rest.ensures, c.in_ok-name.ensures) failed))

pub returns : goal.returns
unfolding top_at
returns c = rw (c.in_ok-rest.ensures, c.in_ok-name.ensures, c.in_ok-rest-2.ensures) refl
