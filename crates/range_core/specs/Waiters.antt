-- Whose answer moves a load or a checkpoint on.
use Rattle.wire.specs.declared.body.Body.{Body}
use Rattle.model_partition.specs.declared.server_context.ServerContext.{ServerContext}
use Rattle.model_partition.specs.Range.{RangeState, RangeOutcome}
use Rattle.model_partition.specs.Answering.{load_reply, log_taken, metadata_reply, index_reply, page_reply, trim_reply}
use Rattle.model_partition.specs.Checkpoints.{rows_reply}
use Rattle.range_core.specs.declared.answering.Waiter.{Waiter}
use Rattle.range_core.specs.declared.answering.Waiter.TheVariants as waiters

-- what the range does with an answer to this one
abbrev pub waiter_rule : Waiter → ServerContext → RangeState → Body → RangeOutcome
waiter_rule waiters.Load d r body = load_reply d r body
waiter_rule waiters.Metadata d r body = metadata_reply d r body
waiter_rule waiters.Record d r body = metadata_reply d r body
waiter_rule waiters.Log d r body = log_taken d r body
waiter_rule waiters.Rows d r body = rows_reply d r body
waiter_rule waiters.Index d r body = index_reply d r body
waiter_rule waiters.Page d r body = page_reply d r body
waiter_rule waiters.Trim d r body = trim_reply d r body
