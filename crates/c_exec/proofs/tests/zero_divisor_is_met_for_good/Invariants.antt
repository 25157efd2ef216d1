use Rattle.c_exec.proofs.tests.zero_divisor_is_met_for_good.Given as goal

abbrev pub ghosts-run_divider : goal.ghosts-run_divider
ghosts-run_divider g a = record { name = a.blank.name; parts = a.blank.parts }
