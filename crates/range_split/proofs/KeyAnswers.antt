-- What comes of an answer to the client of the keys that does not say that they stand.
use Rattle.std.proofs.Common.{◌≡◌, false, Option, Some, None, refl, sym, ap, ◌∙◌}
use Rattle.std.specs.Prelude.{option_to_list}
use Rattle.wire.specs.declared.body.Body.{Body}
use Rattle.client.specs.declared.job.News.{News}
use Rattle.client.specs.declared.job.News.TheVariants as news
use Rattle.client.specs.Client.{ClientState, Outcome, reply_rule}
use Rattle.model_partition.specs.declared.server_context.ServerContext.{ServerContext}
use Rattle.model_partition.specs.declared.split_job.Side.{Side}
use Rattle.model_partition.specs.declared.split_job.SplitJob.{SplitJob}
use Rattle.model_partition.specs.Range.{RangeState, request, picking}
use Rattle.model_partition.specs.Splits.{keys_told, keys_reply}
use Rattle.range_checkpoint.proofs.Told.{is_append, other}
use Rattle.range_checkpoint.specs.Steps.{appended}
use Rattle.range_split.specs.KeyAnswers.{other_told}

other_in : (d : ServerContext) (r : RangeState) (job : SplitJob) (side : Side) (o : Outcome) (told : Option News) → is_append told ≡ false → keys_told d r job side o told ≡ other_told d r job side o.after told (option_to_list o.packet)
other_in d r job side o None is = refl
other_in d r job side o (Some (news.Appended e offset)) is = absurd cc
other_in d r job side o (Some news.Fenced) is = refl
other_in d r job side o (Some (news.Checked e length)) is = refl
other_in d r job side o (Some (news.Sealed e length)) is = refl
other_in d r job side o (Some (news.Content e upto)) is = refl

pub keys_other : (d : ServerContext) (r : RangeState) (job : SplitJob) (side : Side) (c : ClientState) (body : Body) (o : Outcome) → appended c body ≡ None → reply_rule (picking d c) (request d) body ≡ o
    → keys_reply d r job side c body ≡ other_told d r job side o.after o.news (option_to_list o.packet)
keys_other d r job side c body o none is =
    ap (λ (x : Outcome). keys_told d r job side x x.news) is
    ∙ other_in d r job side o o.news (ap (λ (x : Outcome). is_append x.news) (sym is) ∙ other (picking d c) (request d) body none)
