-- The first answer to each request.
use Rattle.std.specs.Prelude.{ℕ, List, Option}
use Rattle.std.specs.Map.{lookup}
use Rattle.std.specs.BTreeMap.{is_at}
use Rattle.std.specs.Ordering.{nat_cmp, ordering_then}
use Rattle.std.specs.declared.cmp.Ordering.{Ordering}
use Rattle.stamp_answers.specs.declared.key.AnswerKey.{AnswerKey}

-- the order of pairs of a user and a ticket
abbrev pub pair_cmp : ℕ × ℕ → ℕ × ℕ → Ordering
pair_cmp x y = ordering_then (nat_cmp x.0 y.0) (nat_cmp x.1 y.1)

-- a key as such a pair
abbrev pub pair_of : AnswerKey → ℕ × ℕ
pair_of key = (key.user, key.ticket)

-- by user and ticket, the number of a packet
abbrev pub Numbers : Type 0
Numbers = List ((ℕ × ℕ) × ℕ)

-- the number of the packet that is kept for a request
abbrev pub kept_at : Numbers → AnswerKey → Option ℕ
kept_at numbers key = lookup (is_at (pair_cmp (pair_of key))) numbers
