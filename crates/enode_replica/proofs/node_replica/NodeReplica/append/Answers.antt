use Rattle.std.proofs.Common.{refl, ◌∙◌, ap}
use Rattle.replica.specs.Replay.{is_open}
use Rattle.replica.specs.State.{content_of}
use Rattle.model_streams.specs.Node.{Replica}
use Rattle.enode_replica.proofs.Queued.{queue_push, within_push}
use Rattle.enode_replica.proofs.Written.{append_written}
use Rattle.enode_replica.proofs.node_replica.NodeReplica.append.Goals as goal

pub invariant_of-queue-2 : goal.invariant_of-queue-2
invariant_of-queue-2 g c = rw (c.push_back_reserved-2.ensures.items, c.push_back_reserved.ensures.items, c.reserve-2.ensures.items, c.reserve.ensures.items)
    (queue_push (content_of c.self.inside.replica) (content_of c.add_group.new.replica) _ c.self.inside.waiting _ _ _ c.queue.invariant c.queue.view_is c.self.invariant
    (ap (λ (r : Replica). is_open r.content.phase) c.self.view_is ∙ c.requires.open) c.blocks-blocks.ensures.fits
    c.len-offset.ensures.value c.in-Ok.ensures.after c.len.ensures.value)

pub invariant_of-self-2 : goal.invariant_of-self-2
invariant_of-self-2 g c = rw (c.push_back_reserved.ensures.items, c.reserve.ensures.items)
    (within_push (content_of c.self.inside.replica) (content_of c.add_group.new.replica) _ c.self.inside.waiting _ c.queue.view_is c.self.invariant
    c.len-offset.ensures.value c.in-Ok.ensures.after)

pub returns-clause-file : goal.returns-clause-file
returns-clause-file g c = rw (← c.self.view_is) (append_written g.D.Disk.state _ _ c.args.extent _ _ c.args.group c.args.group c.add_group.result _
    refl refl c.in-Ok.is c.add_group.ensures.file)
