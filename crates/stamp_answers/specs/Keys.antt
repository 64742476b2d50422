-- The keys of requests.
use Rattle.std.specs.Prelude.{ℕ, ◌==◌, Option, Some, None, if◌then◌else◌}
use Rattle.wire.specs.declared.actor.ReqNo.{ReqNo}
use Rattle.wire.specs.declared.actor.ReqNo.TheVariants as requests
use Rattle.stamp_answers.specs.declared.key.AnswerKey.{AnswerKey}

-- the key of a request's number, where it is a number of this user
abbrev pub key_of : ℕ → ReqNo → Option AnswerKey
key_of user (requests.User owner ticket) = if owner == user then Some (record { user = user; ticket = ticket }) else None
key_of user _ = None

-- the same, where there is a number
abbrev pub key_in : ℕ → Option ReqNo → Option AnswerKey
key_in user None = None
key_in user (Some number) = key_of user number
