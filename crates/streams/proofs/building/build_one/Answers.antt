use Rattle.streams.specs.Table.{streams_of}
use Rattle.streams.proofs.BuildingLemmas.{built_over}
use Rattle.streams.proofs.building.build_one.Goals as goal

pub returns : goal.returns
returns c =
    built_over (streams_of c.args.table.now) (streams_of c.args.made.now) (streams_of c.reserve.new.self) (streams_of c.put_listed.new.self) c.args.m.now c.in_ok-listed.listed
    c.put_listed.ensures c.reserve.ensures.same c.in_ok-listed.ensures.name c.in_ok-listed.ensures.stream
