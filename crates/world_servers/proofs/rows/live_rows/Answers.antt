use Rattle.std.proofs.Common.{◌≡◌, ◌∙◌, ap, sym, arith}
use Rattle.std.proofs.lemmas.Grind.{common_steps}
use Rattle.model_partition.specs.Servers.{rows_in}
use Rattle.world_servers.proofs.RunEntries.{put_sorted}
use Rattle.world_servers.proofs.rows.live_rows.Goals as goal

pub loop-key-preserved : goal.loop-key-preserved
loop-key-preserved c = grind (arith, common_steps)

pub returns : goal.returns
returns c =
    let all : c.loop-key.rows.items ≡ rows_in c.args.notes.now c.args.live.now.entries = grind (arith, common_steps) in
    all ∙ ap (rows_in c.args.notes.now) (sym (put_sorted c.args.live.now.entries c.into_iter-key-iterator.ensures.into_iter_gives.5))
