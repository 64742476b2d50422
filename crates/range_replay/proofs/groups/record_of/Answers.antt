use Rattle.std.proofs.Common.{◌≡◌, ◌≤◌, List, ℕ, length, ap, subst, sym, ◌∙◌}
use Rattle.std.specs.Prelude.{◌++◌, IfOk}
use Rattle.blocks.specs.Format.{Gives}
use Rattle.commitlog.specs.Reading.{record_at}
use Rattle.commitlog.specs.Record.{spelling, Fits}
use Rattle.range_replay.proofs.groups.record_of.Goals as goal

pub returns-clause-found : goal.returns-clause-found
returns-clause-found c =
    let fed : c.feed_all.new.reader ≡ c.args.group.now = c.in_ok-feed_all.ensures ∙ ap (λ (l : List (List ℕ)). l ++ c.blocks-blocks.result.now) c.new-reader.ensures ∙ c.blocks-blocks.ensures.value in
    subst (λ (l : List (List ℕ)). IfOk c.end.result (λ r. Fits r × (spelling r ≡ l))) fed c.end.ensures.found

pub returns-clause-read : goal.returns-clause-read
returns-clause-read c =
    let fed : c.feed_all.new.reader ≡ c.args.group.now = c.in_ok-feed_all.ensures ∙ ap (λ (l : List (List ℕ)). l ++ c.blocks-blocks.result.now) c.new-reader.ensures ∙ c.blocks-blocks.ensures.value in
    let few : length c.feed_all.new.reader ≤ 64 = subst (λ (l : List (List ℕ)). length l ≤ 64) (sym fed) c.blocks-blocks.ensures.fits.1 in
    subst (λ (l : List (List ℕ)). Gives (λ r. r) c.end.result (record_at l)) fed (c.end.ensures.read few)
