use Rattle.std.proofs.Common.{◌&&◌, Bool, not, ◌∙◌, ap, sym, subst}
use Rattle.std.proofs.lemmas.Result.{IfOk-weaker}
use Rattle.streams.specs.Garbage.{is_listed}
use Rattle.streams.specs.Table.{IsGarbage}
use Rattle.streams.proofs.GarbageLemmas.{in_keys}
use Rattle.streams.proofs.garbage.garbage.Goals as goal

pub returns : goal.returns
returns c =
    let garbage = in_keys c.args.entries.now.items c.remove_listed.new.set c.listing.ensures.ordered
    (λ e. c.remove_listed.ensures e ∙ ap (λ (b : Bool). b && not (is_listed c.args.entries.now.items e)) (c.in_ok-set.ensures e)) in
    IfOk-weaker c.listing.result _ _ (λ x is. subst (IsGarbage c.args.entries.now.items) (sym is) garbage) c.listing.ensures.items
