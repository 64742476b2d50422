use Rattle.std.proofs.Common.{◌+◌, ◌≤◌, ap, arith, subst, sym}
use Rattle.replica.specs.Groups.{text_length}
use Rattle.replica.specs.Content.{StoredContent}
use Rattle.replica.specs.Replay.{longest}
use Rattle.replica.proofs.Lengths.{text_length-append}
use Rattle.replica.proofs.frozen.FrozenReplica.fill.Goals as goal

pub of-requires-clause-bound : goal.of-requires-clause-bound
of-requires-clause-bound c =
    let below = subst (λ (h : StoredContent). text_length h.content.groups + text_length c.args.groups.now ≤ longest) (sym c.self.view_is) c.requires.bound in
    omega (arith, below, ap text_length c.extend.ensures, text_length-append c.self.inside.kept.held.groups c.args.groups.now)
