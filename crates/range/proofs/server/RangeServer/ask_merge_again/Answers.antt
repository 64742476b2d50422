use Rattle.std.proofs.Common.{Some, ap, sym, subst, ◌∙◌}
use Rattle.std.specs.Prelude.{is_some}
use Rattle.std.specs.List.Sorted.{IsStrictlySortedBy}
use Rattle.std.specs.Map.{keys_of}
use Rattle.std.specs.Ordering.{nat_cmp}
use Rattle.model_partition.specs.declared.merge_job.MergeSide.TheVariants.{Left, Right}
use Rattle.model_partition.specs.Merges.{other_checkpoint}
use Rattle.model_partition.specs.Server.{ServerState, both_of, merge_of}
use Rattle.range.proofs.Merged.{asked_itself, asked_other}
use Rattle.range.proofs.server.RangeServer.ask_merge_again.Goals as goal

pub returns-in_default-other-clause-value : goal.returns-in_default-other-clause-value
returns-in_default-other-clause-value c = λ notes.
    asked_itself c.args.self.now c.ask_again_for.new.self c.args.range c.args.left c.in-Some.job.now c.args.sent.items c.ask_again_for.result.items notes
    (ap (λ (x : ServerState). merge_of x.merges c.args.left) (sym c.self.view_is) ∙ sym c.in-Some.ensures.value)
    (ap (other_checkpoint c.in-Some.job.now.phase) (sym c.side_of.ensures) ∙ sym c.other_checkpoint-other.ensures ∙ c.in_default-other.is)
    (c.ask_again_for.ensures.value notes)

pub returns-in-Left-clause-value : goal.returns-in-Left-clause-value
returns-in-Left-clause-value c = λ notes.
    asked_other c.args.self.now c.ask_checkpoint_again.new.self c.args.range c.args.left c.in-Some.job.now Left c.args.sent.items c.ask_checkpoint_again.result.items notes
    (subst (λ (x : ServerState). IsStrictlySortedBy nat_cmp (keys_of x.merges)) c.self.view_is c.len-count.ensures.ordered)
    (ap (λ (x : ServerState). merge_of x.merges c.args.left) (sym c.self.view_is) ∙ sym c.in-Some.ensures.value)
    (ap (λ (x : ServerState). is_some (both_of x.ranges c.in-Some.job.now)) (sym c.self.view_is) ∙ sym c.are_held-are_both.ensures ∙ c.if-not-are_both.false)
    (ap (other_checkpoint c.in-Some.job.now.phase) (sym c.side_of.ensures) ∙ sym c.other_checkpoint-other.ensures ∙ c.in-Some-other.is ∙ ap Some c.in-Left.is)
    (λ r known. c.ask_checkpoint_again.ensures.value r notes known)

pub returns-in-Right-clause-value : goal.returns-in-Right-clause-value
returns-in-Right-clause-value c = λ notes.
    asked_other c.args.self.now c.ask_checkpoint_again-in-Right.new.self c.args.range c.args.left c.in-Some.job.now Right c.args.sent.items c.ask_checkpoint_again-in-Right.result.items notes
    (subst (λ (x : ServerState). IsStrictlySortedBy nat_cmp (keys_of x.merges)) c.self.view_is c.len-count.ensures.ordered)
    (ap (λ (x : ServerState). merge_of x.merges c.args.left) (sym c.self.view_is) ∙ sym c.in-Some.ensures.value)
    (ap (λ (x : ServerState). is_some (both_of x.ranges c.in-Some.job.now)) (sym c.self.view_is) ∙ sym c.are_held-are_both.ensures ∙ c.if-not-are_both.false)
    (ap (other_checkpoint c.in-Some.job.now.phase) (sym c.side_of.ensures) ∙ sym c.other_checkpoint-other.ensures ∙ c.in-Some-other.is ∙ ap Some c.in-Right.is)
    (λ r known. c.ask_checkpoint_again-in-Right.ensures.value r notes known)
