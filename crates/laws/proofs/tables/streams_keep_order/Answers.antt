use Rattle.model_partition.specs.Past.{Transaction}
use Rattle.commitlog.specs.Replay.{Numbered as Group}
use Rattle.laws_tables.proofs.Built.{built_keeps_source}
use Rattle.laws_tables.proofs.Extents.{stream_keeps_order}
use Rattle.laws_tables.proofs.Turns.{clients_keep_order, clients_ends_rise}
use Rattle.laws_tables.proofs.Index.{index_is_right}
use Rattle.laws.proofs.tables.streams_keep_order.Goals as goal

pub returns-clause-law : goal.returns-clause-law
returns-clause-law c = λ generation steps ok. stream_keeps_order (Group Transaction) generation steps ok

pub returns-clause-table : goal.returns-clause-table
returns-clause-table c = λ generation moves ok. clients_keep_order (Group Transaction) generation moves ok

pub returns-clause-index : goal.returns-clause-index
returns-clause-index c = λ generation moves ok i n m append group growing there. index_is_right (Group Transaction) generation moves ok i n m append group growing there

pub returns-clause-ends : goal.returns-clause-ends
returns-clause-ends c = λ generation moves ok. clients_ends_rise (Group Transaction) generation moves ok

pub returns-clause-built : goal.returns-clause-built
returns-clause-built c = λ generation early late own source built. built_keeps_source (Group Transaction) generation early late own source built
