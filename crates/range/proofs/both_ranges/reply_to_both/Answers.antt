use Rattle.std.proofs.Common.{rules, ◌≡◌, true, true≢false, is_some, ap, sym, ◌∙◌}
use Rattle.std.specs.BTreeMap.{is_at}
use Rattle.std.specs.Map.{set_value}
use Rattle.std.specs.Ordering.{nat_cmp}
use Rattle.model_partition.specs.Merges.{merge_reply}
use Rattle.model_partition.specs.Server.{range_of}
use Rattle.range.proofs.BothRanges.{both_kept, both_stepped, right_held}
use Rattle.range.proofs.both_ranges.reply_to_both.Goals as goal

pub unreachable-requires : goal.unreachable-requires
unreachable-requires c =
    let there : is_some (range_of c.exchange.new.ranges.entries c.args.job.now.right) ≡ true =
    right_held c.args.ranges.now.entries c.exchange.new.ranges.entries c.args.job.now c.in_ok-left.left c.requires.held c.exchange.ensures.ranges in
    true≢false (sym there ∙ ap is_some (ap (range_of c.exchange.new.ranges.entries) (sym c.high.view_is) ∙ sym c.in_default.ensures.value))

pub returns-in-Ok-clause-ok : goal.returns-in-Ok-clause-ok
returns-in-Ok-clause-ok c =
    both_stepped
    c.args.ranges.now.entries c.exchange.new.ranges.entries (c.get_mut.follows.lender c.reply-told.new.right).entries c.exchange-2.new.ranges.entries
    c.drop_some.new.ranges.entries c.args.job.now c.reply-told.new.job c.in_ok-left.left c.exchange.new.state c.reply-told.new.left c.in-Some.right.now
    c.reply-told.new.right (λ l r. merge_reply c.args.context.now l r c.args.job.now c.args.packet.now.body) c.in-Ok.taken c.exchange.ensures.ranges
    c.exchange.ensures.state (ap (range_of c.exchange.new.ranges.entries) (sym c.high.view_is) ∙ sym c.in-Some.ensures.value) c.in-Ok.ensures.ok (search rules) c.exchange-2.ensures.ranges c.drop_some.ensures

pub returns-clause-ranges : goal.returns-clause-ranges
returns-clause-ranges c =
    let set : (c.get_mut.follows.lender c.reply-told.new.right).entries ≡ set_value (is_at (nat_cmp c.args.job.now.right)) c.exchange.new.ranges.entries c.reply-told.new.right = search rules in
    both_kept
    c.args.ranges.now.entries c.exchange.new.ranges.entries (c.get_mut.follows.lender c.reply-told.new.right).entries c.exchange-2.new.ranges.entries
    c.args.job.now c.in_ok-left.left c.exchange.new.state c.in-Some.right.now c.requires.held c.exchange.ensures.ranges
    c.exchange.ensures.state (ap (range_of c.exchange.new.ranges.entries) (sym c.high.view_is) ∙ sym c.in-Some.ensures.value)
    (set ∙ ap (set_value (is_at (nat_cmp c.args.job.now.right)) c.exchange.new.ranges.entries) c.in-Err.ensures.right)
    (c.exchange-2.ensures.ranges
    ∙ ap (set_value (is_at (nat_cmp c.args.job.now.left)) (c.get_mut.follows.lender c.reply-told.new.right).entries) c.in-Err.ensures.left)
