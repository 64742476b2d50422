-- What Gets see is the range.
use Rattle.std.proofs.Common.{◌≡◌, Option, None, refl, ℕ, true, List, [], ◌++◌, map, Some, sym, ap, ◌∙◌}
use Rattle.std.specs.Prelude.{option_to_list}
use Rattle.wire.specs.declared.actor.ReqNo.{ReqNo}
use Rattle.wire.specs.declared.packet.Packet.{Packet}
use Rattle.model_partition.specs.declared.server_context.ServerContext.{ServerContext}
use Rattle.model_partition.specs.declared.table_note.TableNote.{TableNote}
use Rattle.model_partition.specs.declared.waiting.WaitingGet.{WaitingGet}
use Rattle.checkpoint.specs.declared.installed_index.InstalledIndex.{InstalledIndex}
use Rattle.checkpoint.specs.Lookup.{looked_up}
use Rattle.model_partition.specs.Getting.{Tried, try, try_all, without, gets_after, standing, held_at, used, used_all, used_for, pages_of_key, found_cell, read_at, are_no_page, bytes_rule}
use Rattle.model_partition.specs.Range.{RangeState, RangeOutcome}
use Rattle.range_reads.specs.declared.asking.Asking.{Asking}
use Rattle.range_reads.specs.declared.trying.OneTry.{OneTry}
use Rattle.range_reads.specs.Caching.{placed, used_at, pages_used}
use Rattle.range_reads.specs.Looking.{newest_cell}
use Rattle.range_reads.specs.ValueCache.{Values}
use Rattle.memtable.specs.declared.cell.Cell.{Cell}
use Rattle.memtable.specs.declared.cell.Place.{Place}
use Rattle.memtable.specs.declared.cell.Cell.TheVariants.{Deleted, Inline, Placed}
use Rattle.memtable.specs.Layers.{found_in, or_else, cell_at}
use Rattle.memtable.specs.Entries.{found}
use Rattle.range_reads.specs.Lookups.{LookupsState, Sees, IsOf, seen, tried_of}

pub is_seen : (r : RangeState) (a : Asking) (held : Values) → Sees r a → seen a held r ≡ record r { held = held }
is_seen r a held s = λ i.
    record r {
      load = record r.load { range = s.range i; generation = s.generation i };
      until = s.until i;
      pause = s.pause i;
      live = s.live i;
      fixed = s.fixed i;
      indexes = s.indexes i;
      log = record r.log { extents = s.log i };
      blob_data = record r.blob_data { extents = s.blob i };
      rows = record r.rows { extents = s.rows i };
      held = held;
    }

pub get_taken : (d : ServerContext) (r : RangeState) (a : Asking) (s : LookupsState) (g : WaitingGet) (one : OneTry) (held : Values) (gets : List WaitingGet) (packets : List Packet) (notes : List TableNote) → Sees r a → IsOf r s
    → tried_of one ≡ try d (seen a s.held r) g → gets ≡ s.gets ++ option_to_list one.waiting → packets ≡ option_to_list one.packet → notes ≡ option_to_list one.note
    → gets_after (record r { held = held }) r.gets (try d r g) ≡ record { after = Some (record r { gets = gets; held = held }); count = one.count; packets = packets; notes = notes }
get_taken d r a s g one held gets packets notes sees own tried gets_are packets_are notes_are =
    let same : seen a s.held r ≡ r = is_seen r a s.held sees ∙ ap (λ (h : Values). record r { held = h }) own.held in
    let is : try d r g ≡ tried_of one = ap (λ (x : RangeState). try d x g) (sym same) ∙ sym tried in
    let all : r.gets ++ option_to_list one.waiting ≡ gets = ap (λ (l : List WaitingGet). l ++ option_to_list one.waiting) (sym own.gets) ∙ sym gets_are in
    ap (gets_after (record r { held = held }) r.gets) is
    ∙ (λ i. record { after = Some (record r { gets = all i; held = held }); count = one.count; packets = sym packets_are i; notes = sym notes_are i })

abbrev pub bytes_with : ServerContext → RangeState → ReqNo → Values → RangeOutcome
bytes_with d r w held = gets_after (record r { held = held }) [] (try_all d (record r { held = held }) (map (without w) r.gets))

-- bytes that spell no page
pub none_taken : (d : ServerContext) (r : RangeState) (s : LookupsState) (w : ReqNo) (place : Place) (bytes : List ℕ) (packets : List Packet) (notes : List TableNote) → IsOf r s → are_no_page (read_at r.gets w) bytes ≡ true → packets ≡ [] → notes ≡ []
    → bytes_rule d r w place bytes ≡ record { after = Some (record r { gets = s.gets; held = s.held }); count = d.count; packets = packets; notes = notes }
none_taken d r s w place bytes packets notes own none empty silent =
    rw none (λ i. record { after = Some (record r { gets = sym own.gets i; held = sym own.held i }); count = d.count; packets = sym empty i; notes = sym silent i })

pub bytes_taken : (d : ServerContext) (r : RangeState) (a : Asking) (s : LookupsState) (w : ReqNo) (gets : List WaitingGet) (held after : Values) (t : Tried) → Sees r a → IsOf r s → gets ≡ s.gets → after ≡ held
    → try_all d (seen a held r) (map (without w) gets) ≡ t → bytes_with d r w after ≡ record { after = Some (record r { gets = t.waiting; held = after }); count = t.count; packets = t.packets; notes = t.notes }
bytes_taken d r a s w gets held after t sees own gets_are after_is tried =
    let is : try_all d (record r { held = after }) (map (without w) r.gets) ≡ t =
    ap (λ (h : Values). try_all d (record r { held = h }) (map (without w) r.gets)) after_is
    ∙ ap (λ (x : RangeState). try_all d x (map (without w) r.gets)) (sym (is_seen r a held sees))
    ∙ ap (λ (l : List WaitingGet). try_all d (seen a held r) (map (without w) l)) (sym own.gets ∙ sym gets_are) ∙ tried in
    ap (gets_after (record r { held = after }) []) is

pub stands : (r : RangeState) (a : Asking) (key : List ℕ) → Sees r a → cell_at a.table.now key ≡ standing r key
stands r a key s = λ i. or_else (found (s.live i) key) (found_in (s.fixed i) key)

pub is_used : (held : Values) (cell : Option Cell) → used_at held (placed cell) ≡ used held cell
is_used held None = refl
is_used held (Some Deleted) = refl
is_used held (Some (Inline value)) = refl
is_used held (Some (Placed place)) = refl

-- what serves a Get goes to the front
pub is_used_for : (held : Values) (indexes : List InstalledIndex) (key : List ℕ) (cell : Option Cell)
    → used_at (used_all held (pages_used indexes key cell)) (placed (found_cell (newest_cell (held_at held) indexes key cell))) ≡ used_for held indexes key cell
is_used_for held indexes key None = is_used (used_all held (pages_of_key indexes key)) (found_cell (looked_up (held_at held) indexes key))
is_used_for held indexes key (Some Deleted) = refl
is_used_for held indexes key (Some (Inline value)) = refl
is_used_for held indexes key (Some (Placed place)) = refl
