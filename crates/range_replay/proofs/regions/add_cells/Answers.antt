use Rattle.std.proofs.Common.{rules}
use Rattle.std.proofs.lemmas.Fn.{filter_same}
use Rattle.range_replay.specs.Reload.{is_of}
use Rattle.range_replay.proofs.Taking.{added_are, added_fit}
use Rattle.range_replay.proofs.regions.add_cells.Goals as goal

pub returns-clause-ok : goal.returns-clause-ok
returns-clause-ok c =
    added_are (is_of c.args.keys.now c.args.own.now) c.args.cells.items c.retain.new.self.items c.args.changes.now.items c.append.new.self.items
    (filter_same _ (is_of c.args.keys.now c.args.own.now) _ (λ x b f' k. search rules) _ _ c.retain.ensures.filtered) c.in_ok-append.ensures.items

pub returns-clause-entries : goal.returns-clause-entries
returns-clause-entries c =
    added_fit (is_of c.args.keys.now c.args.own.now) c.args.cells.items c.retain.new.self.items c.args.changes.now.items c.append.new.self.items
    (filter_same _ (is_of c.args.keys.now c.args.own.now) _ (λ x b f' k. search rules) _ _ c.retain.ensures.filtered) c.in_ok-append.ensures.items c.requires.entries c.requires.before
