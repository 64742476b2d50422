use Rattle.tests_streams.proofs.versions.append_two.Goals as goal

pub append-requires-clause-fits : goal.append-requires-clause-fits
append-requires-clause-fits g c = c.make.ensures.any c.args.file.now.version
