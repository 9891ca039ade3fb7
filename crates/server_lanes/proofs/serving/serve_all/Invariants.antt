use Rattle.server_lanes.proofs.serving.serve_all.Given as goal

abbrev pub ghosts-run-K-Run : goal.ghosts-run-K-Run
ghosts-run-K-Run g a = record { connections = a.connections; given = g.A.Accept.given a.accept; faults = g.A.Accept.faults a.accept }

abbrev pub ghosts-run-K-Ledger : goal.ghosts-run-K-Ledger
ghosts-run-K-Ledger g a = record { name = a.links.name; parts = a.links.parts }

abbrev pub ghosts-run-E-Ledger : goal.ghosts-run-E-Ledger
ghosts-run-E-Ledger g a = record { name = a.ends.name; parts = a.ends.parts }
