-- What a look-up gives, and its answer.
use Rattle.std.specs.Prelude.{ℕ, List, Option, Some, None}
use Rattle.wire.specs.declared.body.Body.TheVariants as bodies
use Rattle.wire.specs.declared.body.TableBody.TheVariants as tables
use Rattle.wire.specs.declared.packet.Packet.{Packet}
use Rattle.memtable.specs.declared.cell.Cell.{Cell}
use Rattle.checkpoint.specs.declared.installed_index.InstalledIndex.{InstalledIndex}
use Rattle.checkpoint.specs.declared.page_lookup.Lookup.{Lookup as Indexed}
use Rattle.checkpoint.specs.Lookup.{PageSource, looked_up, lookup_of as indexed_of}
use Rattle.model_partition.specs.declared.server_context.ServerContext.{ServerContext}
use Rattle.model_partition.specs.declared.waiting.WaitingGet.{WaitingGet}
use Rattle.model_partition.specs.Getting.{Lookup}
use Rattle.model_partition.specs.Getting as getting
use Rattle.model_partition.specs.Range.{tells}
use Rattle.range_reads.specs.ValueCache.{Values, with_fresh}
use Rattle.range_reads.specs.declared.cache_view.CacheView.{CacheView}
use Rattle.range_reads.specs.declared.key_lookup.Found.{Found}
use Rattle.range_reads.specs.declared.key_lookup.Found.TheVariants.{Is, Needs}

-- what is held, with what has just come
abbrev pub view_content : CacheView → Values
view_content view = with_fresh view.held.now view.fresh.now

abbrev pub lookup_of : Found → Lookup
lookup_of (Is value) = getting.Is value
lookup_of (Needs page place) = getting.Needs page place

-- a value, or that there is none
abbrev pub answer_of : ServerContext → WaitingGet → Option (List ℕ) → Packet
answer_of d g value = tells d g.from (bodies.Table (tables.Value g.request value))

-- what a key has: the cell of the memory table, or else what the indexes say
abbrev pub newest_cell : PageSource → List InstalledIndex → List ℕ → Option Cell → Indexed
newest_cell source indexes key None = looked_up source indexes key
newest_cell source indexes key (Some cell) = indexed_of cell
