use Rattle.std.proofs.Common.{◌≡◌, not, ap, ◌∙◌, rules}
use Rattle.std.specs.Prelude.{filter}
use Rattle.memtable.specs.Entries.{Entries, put_all}
use Rattle.std.proofs.lemmas.Map.Entries.{filter_from_retain_pairs}
use Rattle.checkpoint.specs.Pages.{is_deleted, without_deleted}
use Rattle.checkpoint.proofs.combination.combined_entries.Goals as goal

pub returns : goal.returns
returns c =
    let kept : c.retain.new.self.entries ≡ filter (λ e. not (is_deleted e.1)) c.put_copies.new.all.entries =
    filter_from_retain_pairs _ (λ f. Unit {0}) (λ e. not (is_deleted e.1)) (λ g k v b w g' i t. (search rules, search rules, tt)) _ c.put_copies.new.all.entries c.retain.new.self.entries tt c.retain.ensures.filtered in
    kept ∙ ap without_deleted (c.in_ok-put_copies.ensures
    ∙ ap (λ (es : Entries). put_all es c.args.newer.now.entries) (c.in_ok-put_changes.ensures ∙ ap (λ (es : Entries). put_all es c.args.changes.now) c.in_ok-all.ensures))
