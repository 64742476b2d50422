-- The words that lines and requests begin with.
use Rattle.std.specs.Prelude.{ℕ, List, codes}
use Rattle.script_lines.specs.declared.verb.Verb.{Verb}
use Rattle.script_lines.specs.declared.verb.Verb.TheVariants as verbs
use Rattle.script_lines.specs.declared.verb.Wish.{Wish}
use Rattle.script_lines.specs.declared.verb.Wish.TheVariants as wishes

abbrev pub verb_word : Verb → List ℕ
verb_word verbs.User = codes "user"
verb_word verbs.Deliver = codes "deliver"
verb_word verbs.Settle = codes "settle"
verb_word verbs.Cut = codes "cut"
verb_word verbs.Heal = codes "heal"
verb_word verbs.Show = codes "show"
verb_word verbs.Stop = codes "stop"
verb_word verbs.Restart = codes "restart"
verb_word verbs.Decide = codes "decide"
verb_word verbs.GiveUp = codes "giveup"
verb_word verbs.Checkpoint = codes "checkpoint"
verb_word verbs.Split = codes "split"
verb_word verbs.Merge = codes "merge"
verb_word verbs.Assign = codes "assign"
verb_word verbs.Renew = codes "renew"
verb_word verbs.Moment = codes "moment"

abbrev pub wish_word : Wish → List ℕ
wish_word wishes.Create = codes "create"
wish_word wishes.Extend = codes "extend"
wish_word wishes.Append = codes "append"
wish_word wishes.Read = codes "read"
wish_word wishes.Content = codes "content"
wish_word wishes.Seal = codes "seal"
wish_word wishes.Transact = codes "tx"
wish_word wishes.Get = codes "get"
wish_word wishes.Route = codes "route"
