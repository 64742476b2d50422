-- Tries in turn.
use Rattle.std.proofs.Common.{◌≡◌, ℕ, ◌+◌, ◌<◌, ◌≤◌, List, [], ◌∷◌, ◌++◌, length, map, drop, get_or, Option, Some, None, refl, sym, ap, ◌∙◌, arith, append_assoc, append-nil, length-append}
use Rattle.std.specs.Prelude.{option_to_list}
use Rattle.std.proofs.lemmas.List.{drop_more, drop_all}
use Rattle.wire.specs.declared.actor.ReqNo.{ReqNo}
use Rattle.wire.specs.declared.packet.Packet.{Packet}
use Rattle.wire.specs.declared.refusal.Refusal.{Refusal}
use Rattle.model_partition.specs.declared.server_context.ServerContext.{ServerContext}
use Rattle.model_partition.specs.declared.table_note.TableNote.{TableNote}
use Rattle.model_partition.specs.declared.waiting.WaitingGet.{WaitingGet}
use Rattle.memtable.specs.declared.cell.Cell.{Cell}
use Rattle.memtable.specs.declared.cell.Cell.TheVariants.{Deleted, Inline, Placed}
use Rattle.checkpoint.specs.declared.installed_index.InstalledIndex.{InstalledIndex}
use Rattle.model_partition.specs.Getting.{Lookup, Tried, look, held_at, indexed_value, standing, answered, try, try_all, try_fault, try_unless, without}
use Rattle.model_partition.specs.Range.{RangeState, refuses}
use Rattle.range_reads.specs.declared.trying.OneTry.{OneTry}
use Rattle.range_reads.specs.Looking.{newest_cell}
use Rattle.range_reads.specs.ValueCache.{Values}
use Rattle.range_reads.specs.Lookups.{tried_of}

-- what earlier tries left, and then these
abbrev pub with_done : List WaitingGet → List Packet → List TableNote → Tried → Tried
with_done waiting packets notes t = record { waiting = waiting ++ t.waiting; count = t.count; packets = packets ++ t.packets; notes = notes ++ t.notes }

-- what a try leaves behind what is there, and then what others leave
both_behind : {A : Type 0} (before after others : List A) (more : Option A) → after ≡ before ++ option_to_list more → after ++ others ≡ before ++ (option_to_list more ++ others)
both_behind before after others more is = ap (λ l. l ++ others) is ∙ append_assoc before (option_to_list more) others

pub goes_on : (d : ServerContext) (r : RangeState) (count : ℕ) (g : WaitingGet) (gs : List WaitingGet) (one : OneTry) (waiting waiting_after : List WaitingGet) (packets packets_after : List Packet) (notes notes_after : List TableNote) (count_after : ℕ)
    → tried_of one ≡ try (record d { count = count }) r g → waiting_after ≡ waiting ++ option_to_list one.waiting → count_after ≡ one.count → packets_after ≡ packets ++ option_to_list one.packet
    → notes_after ≡ notes ++ option_to_list one.note
    → with_done waiting_after packets_after notes_after (try_all (record d { count = count_after }) r gs) ≡ with_done waiting packets notes (try_all (record d { count = count }) r (g ∷ gs))
goes_on d r count g gs one waiting waiting_after packets packets_after notes notes_after count_after tried waiting_is count_is packets_is notes_is =
    let others : Tried = try_all (record d { count = one.count }) r gs in
    let all_waiting = both_behind waiting waiting_after others.waiting one.waiting waiting_is in
    let all_packets = both_behind packets packets_after others.packets one.packet packets_is in
    let all_notes = both_behind notes notes_after others.notes one.note notes_is in
    ap (λ (n : ℕ). with_done waiting_after packets_after notes_after (try_all (record d { count = n }) r gs)) count_is
    ∙ (λ i. record { waiting = all_waiting i; count = others.count; packets = all_packets i; notes = all_notes i })
    ∙ ap (λ (t : Tried).
    let rest : Tried = try_all (record d { count = t.count }) r gs in
    with_done waiting packets notes (record { waiting = t.waiting ++ rest.waiting; count = rest.count; packets = t.packets ++ rest.packets; notes = t.notes ++ rest.notes })) tried

-- the Get at hand, and those after it
pub next_try : (w : ReqNo) (gets : List WaitingGet) (i : ℕ) (get left : WaitingGet) → i < length gets → get ≡ get_or gets i get → left ≡ without w get
    → left ∷ map (without w) (drop (i + 1) gets) ≡ map (without w) (drop i gets)
next_try w gets i get left lt is left_is =
    ap (λ (g : WaitingGet). g ∷ map (without w) (drop (i + 1) gets)) (left_is ∙ ap (without w) is) ∙ sym (ap (map (without w)) (drop_more gets i get lt))

pub all_tried : (d : ServerContext) (r : RangeState) (count : ℕ) (w : ReqNo) (gets : List WaitingGet) (i : ℕ) (waiting : List WaitingGet) (packets : List Packet) (notes : List TableNote) → length gets ≤ i
    → with_done waiting packets notes (try_all (record d { count = count }) r (map (without w) (drop i gets))) ≡ record { waiting = waiting; count = count; packets = packets; notes = notes }
all_tried d r count w gets i waiting packets notes le =
    ap (λ (l : List WaitingGet). with_done waiting packets notes (try_all (record d { count = count }) r (map (without w) l))) (drop_all i gets le)
    ∙ (λ j. record { waiting = append-nil waiting j; count = count; packets = append-nil packets j; notes = append-nil notes j })

-- one more at most
pub counted_on : (start i count one after : ℕ) → count ≤ start + i → one ≤ count + 1 → after ≡ one → after ≤ start + (i + 1)
counted_on start i count one after so_far next is = omega arith

at_most_one : {A : Type 0} (o : Option A) → length (option_to_list o) ≤ 1
at_most_one None = omega arith
at_most_one (Some x) = omega arith

pub no_more : {A : Type 0} (i : ℕ) (o : Option A) (before after : List A) → length before ≤ i → after ≡ before ++ option_to_list o → length after ≤ i + 1
no_more i o before after le is = omega (arith, ap length is, length-append before (option_to_list o), at_most_one o)

-- what is looked up before the lease has ended, and while the range is not paused, is answered
pub in_time : (d : ServerContext) (r : RangeState) (g : WaitingGet) (found : Lookup) → try_fault d r ≡ None → found ≡ look r.held r.indexes g.key (standing r g.key) → answered d r g found ≡ try d r g
in_time d r g found no_fault is = ap (answered d r g) is ∙ sym (ap (try_unless d r g) no_fault)

-- else it is refused
pub refused : (d : ServerContext) (r : RangeState) (g : WaitingGet) (refusal : Refusal) (packet : Packet) → try_fault d r ≡ Some refusal → packet ≡ refuses d g.from g.request refusal
    → record { waiting = []; count = d.count; packets = packet ∷ []; notes = [] } ≡ try d r g
refused d r g refusal packet fault is =
    ap (λ (p : Packet). record { waiting = []; count = d.count; packets = p ∷ []; notes = [] }) is ∙ sym (ap (try_unless d r g) fault)

-- the value of what a key has
pub look_is : (held : Values) (indexes : List InstalledIndex) (key : List ℕ) (cell : Option Cell) → indexed_value held (newest_cell (held_at held) indexes key cell) ≡ look held indexes key cell
look_is held indexes key None = refl
look_is held indexes key (Some Deleted) = refl
look_is held indexes key (Some (Inline value)) = refl
look_is held indexes key (Some (Placed place)) = refl
