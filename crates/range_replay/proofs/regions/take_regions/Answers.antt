use Rattle.std.proofs.Common.{◌≡◌, List, subst, arith}
use Rattle.std.proofs.lemmas.Grind.{common_steps}
use Rattle.std.specs.Vec.Iter.{into_iter_items}
use Rattle.commitlog.specs.Reading.{each_of}
use Rattle.commitlog.proofs.Loop.{with_done, each_goes_on}
use Rattle.memtable.specs.Entries.{put_all}
use Rattle.metadata.specs.declared.record.Region.{Region}
use Rattle.model_partition.specs.Loading.{region_takes}
use Rattle.range_replay.proofs.regions.take_regions.Goals as goal

pub loop-region-preserved : goal.loop-region-preserved
loop-region-preserved c = record {
  taken = λ layer.
      let so_far = subst (λ (xs : List Region). with_done c.loop-region.all.items (each_of (region_takes c.args.keys.now c.args.at.now c.args.extent c.args.written.now) (put_all layer c.loop-region.changes.items) xs)
      ≡ each_of (region_takes c.args.keys.now c.args.at.now c.args.extent c.args.written.now) (put_all layer c.args.changes.now.items) c.args.regions.items) c.in-Some.ensures.steps.0 (c.loop-region.invariant.taken layer) in
      rw c.in_ok-push.ensures.items (each_goes_on (region_takes c.args.keys.now c.args.at.now c.args.extent c.args.written.now) c.loop-region.all.items (put_all layer c.loop-region.changes.items) c.in-Some.region (into_iter_items c.next.new.self) c.in_ok-taken.taken (put_all layer c.take_region.new.changes.items)
      (each_of (region_takes c.args.keys.now c.args.at.now c.args.extent c.args.written.now) (put_all layer c.args.changes.now.items) c.args.regions.items) (c.in_ok-taken.ensures.ok layer) so_far);
  entries = c.in_ok-taken.ensures.entries;
}

pub returns-clause-ok : goal.returns-clause-ok
returns-clause-ok c = grind (arith, common_steps)
