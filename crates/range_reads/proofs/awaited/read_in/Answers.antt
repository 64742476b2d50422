use Rattle.std.proofs.Common.{◌≡◌, List, [], ◌∷◌, Some, cond, refl, ap, ◌∙◌, rules, tests}
use Rattle.std.specs.List.{find}
use Rattle.std.proofs.lemmas.Iterator.{YieldsList-from_slice}
use Rattle.std.proofs.lemmas.Iterator.Search.{find_from_yields_List}
use Rattle.wire.specs.declared.actor.ReqNo.{ReqNo}
use Rattle.client.specs.Requests.{is_same}
use Rattle.model_partition.specs.declared.waiting.PlaceRead.{PlaceRead}
use Rattle.model_partition.specs.Getting.{read_in}
use Rattle.range_reads.proofs.awaited.read_in.Goals as goal

first_is : (w : ReqNo) (reads : List PlaceRead) → find (λ read. is_same read.request w) reads ≡ read_in reads w
first_is w [] = refl
first_is w (read ∷ reads) = ap (cond (is_same read.request w) (Some read)) (first_is w reads)

pub returns : goal.returns
returns c =
    c.copied.ensures ∙ find_from_yields_List (λ read. is_same read.request c.args.number.now) _ _ _ c.find.ensures.ran (YieldsList-from_slice c.args.reads.now cc) (λ x b q k. search (rules, tests))
    ∙ first_is c.args.number.now c.args.reads.now
