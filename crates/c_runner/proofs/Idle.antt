-- A session that took nothing and wrote nothing.
use Rattle.std.proofs.Common.{◌≡◌, ℕ, List, [], Option, Some, None, refl, inl, arith}
use Rattle.std.specs.Prelude.{IfSome}
use Rattle.sm_io.proofs.Written.{no_text}
use Rattle.row_sessions.specs.Session.{EndsSession, RunsSession, Sessions, Streams, Took}
use Rattle.row_sessions.specs.declared.ending.Ending.TheVariants.{NoMemory}

pub nothing_ran : {F : Type 0} (sessions : Sessions F) (s : Streams) → RunsSession sessions s s NoMemory
nothing_ran {F = F} sessions s = at s.left refl
  where
    at : (o : Option (List ℕ)) → s.left ≡ o
        → IfSome o (λ whole. (taken : List ℕ) × Took s whole taken × EndsSession {F = F} sessions whole taken s.taken s.taken NoMemory)
    at None e = tt
    at (Some whole) e = ([], record { rest = whole; left = e; split = refl }, (0, inl (omega arith, (no_text {k = s.taken} {f = 0}).all)))
