use Rattle.c_exec.proofs.tests.heater_calls_below_eighteen.Given as goal

abbrev pub ghosts-run_heater : goal.ghosts-run_heater
ghosts-run_heater g a = record { name = a.blank.name; parts = a.blank.parts }
