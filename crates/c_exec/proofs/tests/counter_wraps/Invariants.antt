use Rattle.c_exec.proofs.tests.counter_wraps.Given as goal

abbrev pub ghosts-run_counter : goal.ghosts-run_counter
ghosts-run_counter g a = record { name = a.blank.name; parts = a.blank.parts }
