use Rattle.laws_tables.proofs.FamilyRuns.{families_replay, families_serve}
use Rattle.laws_tables.proofs.Final.{tables_of_first_range_replay}
use Rattle.laws_tables.proofs.Machine.{chain_replays}
use Rattle.laws.proofs.tables.tables_replay.Goals as goal

pub returns-clause-chain : goal.returns-clause-chain
returns-clause-chain c = λ layer_at b rows run order begins is_run right ends behind metadata_order. chain_replays layer_at b rows run begins is_run right order ends behind metadata_order

pub returns-clause-law : goal.returns-clause-law
returns-clause-law c = λ layer_at rows run h is_run keeps right order ends metadata_order same. tables_of_first_range_replay layer_at rows run h is_run keeps right order ends metadata_order same

pub returns-clause-families : goal.returns-clause-families
returns-clause-families c = λ layer_at h family. families_replay layer_at h family

pub returns-clause-reads : goal.returns-clause-reads
returns-clause-reads c = λ layer_at h family reads. families_serve layer_at h family reads
