use Rattle.std.proofs.Common.{◌≡◌, ℕ, ◌-◌, length, take, ap, ◌∙◌, arith}
use Rattle.range_commit.specs.Queue.{QueueState}
use Rattle.range_commit.proofs.Fronts.{taken_back}
use Rattle.range_commit.proofs.queue.Queue.take_back.Goals as goal

pub returns : goal.returns
returns c = λ before last is.
    let size : c.len.result ≡ length c.self.inside.all.items = omega (arith, c.len.ensures, c.self.inside.all.ok.0) in
    taken_back c.self.inside.all.items c.truncate.new.self.items c.self.inside.out_count c.self.inside.next before last c.self.invariant.counted
    (c.truncate.ensures.items ∙ ap (λ (k : ℕ). take (k - 1) c.self.inside.all.items) size) (ap (λ (q : QueueState). q.queue) c.self.view_is ∙ is)
    ∙ ap (λ (q : QueueState). record { queue = before; out = q.out; next = q.next }) c.self.view_is
