use Rattle.std.proofs.Common.{◌≡◌, ◌∙◌, ◌<◌, ◌+◌, ◌^◌, ℕ, List, [], ◌∷◌, length, sym, subst, arith, ap}
use Rattle.block_types.specs.declared.record.Record.{Record}
use Rattle.block_types.specs.declared.record.Record.TheVariants.{Manage}
use Rattle.model_streams.specs.declared.manager_record.ManagerRecord.TheVariants.{First}
use Rattle.model_streams.specs.RecordBytes.{spelled}
use Rattle.model_streams.specs.Manager.{first_catalog}
use Rattle.manager_state.specs.RecordBytes.{CanSpell}
use Rattle.manager_state.specs.Table.{ManagerTableState, SameCatalog, first_table}
use Rattle.manager_state.specs.Replay.{TableIsReplay}
use Rattle.manager_state.proofs.Spelling.{first_again, spelled_few}
use Rattle.manager_state.proofs.Recovering.{first_replay, first_shows}
use Rattle.manager.specs.Manager.{first_record}
use Rattle.manager.proofs.ReplaysRecords.{holding}
use Rattle.manager.proofs.manager.Manager.create.Goals as goal

few : (nodes target : ℕ) (text : List ℕ) → CanSpell (First nodes target) → text ≡ spelled (First nodes target) → length text + 1 < 2 ^ 32
few nodes target text can spelling = omega (arith, ap length spelling, spelled_few (First nodes target) can)

-- the table of a file of the first record alone
first_made : (nodes target : ℕ) (t : ManagerTableState) (text : List ℕ) (rs : List Record) → CanSpell (First nodes target) → t ≡ first_table nodes target → text ≡ spelled (First nodes target) → rs ≡ Manage text ∷ [] → TableIsReplay t rs
first_made nodes target t text rs can table spelling same =
    subst (λ (u : ManagerTableState). TableIsReplay u rs) (sym table)
    (subst (TableIsReplay (first_table nodes target)) (sym (same ∙ ap (λ (l : List ℕ). Manage l ∷ []) spelling))
    (first_replay nodes target (first_record nodes target) (first_again nodes target can)))

pub with_records-requires-clause-fit : goal.with_records-requires-clause-fit
with_records-requires-clause-fit g c = (few c.args.nodes c.args.target c.in-Ok-encode.text (c.requires.nodes, c.requires.target) c.in-Ok-encode.ensures, tt)

pub invariant_of-result : goal.invariant_of-result
invariant_of-result g c = holding (first_made c.args.nodes c.args.target _ c.in-Ok-encode.text _ (c.requires.nodes, c.requires.target) c.in-Ok.ensures c.in-Ok-encode.ensures c.in-Ok-with_records.ensures.ok.2)

pub returns-in-Ok-with_records-clause-shows : goal.returns-in-Ok-with_records-clause-shows
returns-in-Ok-with_records-clause-shows g c = subst (λ (t : ManagerTableState). SameCatalog t (first_catalog c.args.nodes c.args.target)) (sym c.in-Ok.ensures) (first_shows c.args.nodes c.args.target)

pub returns-in-Ok-with_records-clause-replays : goal.returns-in-Ok-with_records-clause-replays
returns-in-Ok-with_records-clause-replays g c = first_made c.args.nodes c.args.target _ c.in-Ok-encode.text _ (c.requires.nodes, c.requires.target) c.in-Ok.ensures c.in-Ok-encode.ensures c.in-Ok-with_records.ensures.ok.2
