use Rattle.command_line.proofs.serve.serve_opened.Given as goal

abbrev pub ghosts-serve_watched : goal.ghosts-serve_watched
ghosts-serve_watched g a = record { faults = g.A.Accept.faults a.accept }
