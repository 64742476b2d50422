use Rattle.std.proofs.Common.{◌≡◌, ℕ, false, [], IfOk, OnErr, sym, ◌∙◌, subst}
use Rattle.disk.specs.declared.memory.MemDisk.{MemDisk}
use Rattle.model_partition.specs.Cluster.{renews}
use Rattle.pmap.specs.MapWithFile.{MapWithFile}
use Rattle.world_map.specs.Seen.{MapSeen, MapSimulates, renew_refusal, seen_of}
use Rattle.world_map.proofs.MapCalls.{renew_went, renew_short, renew_refused, if_packets, if_refusal, if_short}
use Rattle.world_map.proofs.map_actor.MapActor.renew.Goals as goal

pub returns-clause-ok : goal.returns-clause-ok
returns-clause-ok c =
    let t : ℕ = c.self.inside.moment in
    let x : MapWithFile MemDisk = c.self.inside.map in
    let y : MapWithFile MemDisk = c.renew-done.new.self in
    let e = c.renew-done.ensures in
    let up : x.file.stopped ≡ false = sym c.is_stopped.ensures ∙ c.if-is_stopped.false in
    subst (λ (s : MapSeen). IfOk c.outcome.result (λ step. MapSimulates s (seen_of t y) (λ k. renews k c.args.range c.args.server c.args.until) step.packets [])) c.self.view_is
    (if_packets c.outcome.result (λ packets. MapSimulates (seen_of t x) (seen_of t y) (λ k. renews k c.args.range c.args.server c.args.until) packets []) c.renew-done.result c.outcome.ensures.packets c.outcome.ensures.ok
    (renew_went t x y c.args.range c.args.server c.args.until c.renew-done.result up e.refused e.performed e.taken (sym e.replays.replays)))

pub returns-clause-refusal : goal.returns-clause-refusal
returns-clause-refusal c =
    let t : ℕ = c.self.inside.moment in
    let x : MapWithFile MemDisk = c.self.inside.map in
    let y : MapWithFile MemDisk = c.renew-done.new.self in
    let e = c.renew-done.ensures in
    let up : x.file.stopped ≡ false = sym c.is_stopped.ensures ∙ c.if-is_stopped.false in
    subst (λ (s : MapSeen). IfOk c.outcome.result (λ step. step.refusal ≡ renew_refusal s c.args.range c.args.server)) c.self.view_is
    (if_refusal c.outcome.result c.renew-done.result (renew_refusal (seen_of t x) c.args.range c.args.server) c.outcome.ensures.refusal (renew_refused t x y c.args.range c.args.server c.args.until c.renew-done.result up e.refused e.performed e.taken))

pub returns-clause-err : goal.returns-clause-err
returns-clause-err c =
    let t : ℕ = c.self.inside.moment in
    let x : MapWithFile MemDisk = c.self.inside.map in
    let y : MapWithFile MemDisk = c.renew-done.new.self in
    let e = c.renew-done.ensures in
    let up : x.file.stopped ≡ false = sym c.is_stopped.ensures ∙ c.if-is_stopped.false in
    subst (λ (s : MapSeen). OnErr c.outcome.result (seen_of t y ≡ s)) c.self.view_is
    (if_short c.outcome.result c.renew-done.result c.outcome.ensures.err (renew_short t x y c.args.range c.args.server c.args.until c.renew-done.result up e.refused e.performed e.taken))
