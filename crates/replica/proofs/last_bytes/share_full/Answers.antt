use Rattle.std.proofs.Common.{◌/◌, ◌*◌, ◌++◌, take, ap, sym, subst, ◌∙◌}
use Rattle.replica.specs.Buffers.{AllFull}
use Rattle.replica.specs.Groups.{joined}
use Rattle.replica.proofs.Buffering.{all-append, joined-append}
use Rattle.replica.proofs.last_bytes.share_full.Goals as goal

pub returns-clause-front : goal.returns-clause-front
returns-clause-front c =
    let full = c.args.full.now.items in
    let bytes = c.args.bytes.now in
    ap joined c.in_ok-append.ensures.items ∙ joined-append full c.in_ok-whole.whole.items ∙ ap (λ x. joined full ++ x) c.in_ok-whole.ensures.front ∙ ap (λ n. joined full ++ take (n / 65536 * 65536) bytes) (sym c.len.ensures.value)

pub returns-clause-all : goal.returns-clause-all
returns-clause-all c =
    λ all. subst (AllFull 65536) (sym c.in_ok-append.ensures.items) (all-append 65536 c.args.full.now.items c.in_ok-whole.whole.items all c.in_ok-whole.ensures.all)
