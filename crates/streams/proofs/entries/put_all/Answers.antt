use Rattle.std.proofs.Common.{List, arith, ap, sym, ◌∙◌}
use Rattle.streams.specs.Streams.{Streams}
use Rattle.streams.specs.Table.{Entry, streams_in, streams_over}
use Rattle.streams.proofs.BuildingLemmas.{over_last, over_empty}
use Rattle.streams.proofs.entries.put_all.Goals as goal

pub loop-listed-preserved : goal.loop-listed-preserved
loop-listed-preserved c =
    let before = c.loop-listed.invariant in
    record {
      sorted = c.put.ensures.sorted;
      room = omega (arith, before.room, c.put.ensures.room, c.in-Some.ensures.len);
      streams =
          ap (λ (s : Streams). streams_over (streams_in c.pop.new.self.items) s) c.put.ensures.streams
          ∙ sym (over_last c.pop.new.self.items c.in-Some.listed (streams_in c.loop-listed.entries.items))
          ∙ ap (λ (xs : List Entry). streams_over (streams_in xs) (streams_in c.loop-listed.entries.items)) (sym c.in-Some.ensures.items)
          ∙ before.streams;
    }

pub returns-clause-streams : goal.returns-clause-streams
returns-clause-streams c =
    over_empty c.loop-listed.others.items _ (omega (arith, c.in_default.ensures.cases, c.loop-listed.others.ok.0)) ∙ c.loop-listed.invariant.streams
