use Rattle.command_line.proofs.serve.closed.Goals as goal

pub returns-clause-whole : goal.returns-clause-whole
returns-clause-whole g c = g.met.D.Disk.sound c.into_disk.result
