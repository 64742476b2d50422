-- What the real map does is what the cluster's map does.
use Rattle.std.proofs.Common.{◌≡◌, ◌≢◌, ℕ, Bool, true, false, not, ◌==◌, if◌then◌else◌, List, [], ◌++◌, Option, Some, None, Ok, Err, refl, sym, ap, ◌∙◌, subst, append-nil}
use Rattle.std.proofs.lemmas.Bool.{eqb-true}
use Rattle.disk.specs.declared.device.DiskFault.TheVariants.{Failed, Memory}
use Rattle.disk.specs.declared.memory.MemDisk.{MemDisk}
use Rattle.disk.specs.Appends.{listed}
use Rattle.disk.specs.Memory.{memory_state}
use Rattle.wire.specs.declared.note.Note.{Note}
use Rattle.wire.specs.declared.packet.Packet.{Packet}
use Rattle.wire.specs.declared.packet.Step.{Step}
use Rattle.wire.specs.declared.refusal.Refusal.{Refusal}
use Rattle.model_streams.specs.Outcome.{Outcome}
use Rattle.model_streams.specs.StreamSystem.{StreamSystem, running, stands_in, stops_in, unsent}
use Rattle.model_streams.proofs.Tests.{if_elim}
use Rattle.model_partition.specs.Map.{MapState}
use Rattle.model_partition.specs.Replay.{map_replay}
use Rattle.model_partition.specs.Cluster.{Cluster, told_by_map, after_map_rule, map_performs, map_performs_if, map_halted, map_stops, map_starts}
use Rattle.world_stops.specs.LastRecord.{shown_if}
use Rattle.world_stops.proofs.StopInRecord.{broken_down, broken_records, broken_stops, burnt_up, no_stop, plan_ok, plan_armed, short_same, up_ok}
use Rattle.pmap.specs.MapWithFile.{MapWithFile, map_of}
use Rattle.pmap.specs.Performs.{MapPerforms}
use Rattle.world_map.specs.Seen.{MapSeen, MapMirrors, MapSteps, seen_of, new_map}

-- ---- what is seen

pub seen_up : (t : ℕ) (x : MapWithFile MemDisk) → x.file.stopped ≡ false → (seen_of t x).map ≡ map_of x
seen_up t x up = ap (λ (b : Bool). if b then map_replay x.file.records else map_of x) up

pub seen_down : (t : ℕ) (x : MapWithFile MemDisk) → x.file.stopped ≡ true → (seen_of t x).map ≡ map_replay x.file.records
seen_down t x isdown = ap (λ (b : Bool). if b then map_replay x.file.records else map_of x) isdown

-- a map that runs is what its records make
abbrev pub IsReplayed : MapWithFile MemDisk → Type 0
IsReplayed x = map_of x ≡ map_replay x.file.records

nothing_told : (w : StreamSystem) → w ≡ told_by_map w [] []
nothing_told w =
    ap (λ (l : List Packet). record w { post = l }) (sym (append-nil w.post))
    ∙ ap (λ (l : List Note). record w { post = w.post ++ []; notes = l }) (sym (append-nil w.notes))

-- the cluster stays as it is
pub rests_on : (x : MapSeen) (c : Cluster) → MapMirrors x c → MapSteps x c c [] []
rests_on x c m = record { stream_layer = nothing_told c.stream_layer; servers = refl; now = refl; batch = refl; map = m }

-- the model's map is this one, which has stopped
down_mirrors : (y : MapSeen) (d : Cluster) → y.stopped ≡ true → d.map ≡ y.map → d.now ≡ y.moment → MapMirrors y (map_halted d)
down_mirrors y d isdown is at = record { map = is; up = ap not (sym isdown); plan = λ isup. absurd (let b = isdown in cc); moment = at }

-- it has stopped with the map that was, and shows nothing
pub halted_on : (y : MapSeen) (c : Cluster) → y.stopped ≡ true → c.map ≡ y.map → c.now ≡ y.moment → MapSteps y c (map_halted c) [] []
halted_on y c isdown is at = record { stream_layer = nothing_told c.stream_layer; servers = refl; now = refl; batch = refl; map = down_mirrors y c isdown is at }

-- it has stopped with the map of a rule whose record stands, and shows what the rule shows
halted_behind : (y : MapSeen) (c : Cluster) (o : Outcome MapState) → y.stopped ≡ true → o.after ≡ y.map → c.now ≡ y.moment → MapSteps y c (map_halted (after_map_rule c (unsent o))) [] o.notes
halted_behind y c o isdown is at = record { stream_layer = refl; servers = refl; now = refl; batch = refl; map = down_mirrors y (after_map_rule c (unsent o)) isdown is at }

-- ---- a rule

-- the record stands before anything is sent
pub rule_done : (t : ℕ) (o : Outcome MapState) (x y : MapWithFile MemDisk) (c : Cluster) (s : Step) → x.file.stopped ≡ false → MapMirrors (seen_of t x) c → MapPerforms memory_state x y o (Ok s) →
    MapSteps (seen_of t y) c (map_performs c o) s.packets s.notes
rule_done t o x y c s up m h =
    if_elim (λ d. MapSteps (seen_of t y) c d s.packets s.notes) (stops_in c.map_cell o.written) _ _
    (λ b. absurd (no_stop x.file y.file o.written s c.map_cell h.file (m.plan up) b))
    (λ f. record {
      stream_layer = ap (λ (l : List Packet). told_by_map c.stream_layer l o.notes) (sym h.packets)
          ∙ ap (λ (l : List Note). told_by_map c.stream_layer s.packets l) (sym h.notes);
      servers = refl;
      now = refl;
      batch = refl;
      map = record {
        map = sym h.after ∙ sym (seen_up t y yup);
        up = burnt_up c.map_cell o.written ∙ m.up ∙ ap not (up ∙ sym yup);
        plan = λ _. plan_ok x.file y.file o.written s c.map_cell h.file (m.plan up) f;
        moment = m.moment;
      };
    })
  where
    yup : y.file.stopped ≡ false
    yup = up_ok x.file y.file o.written s h.file up

-- it stops in the rule's record, which stands or not; what the rule shows is there where the record stands
pub rule_broken : (t : ℕ) (o : Outcome MapState) (x y : MapWithFile MemDisk) (c : Cluster) (notes : List Note) → x.file.stopped ≡ false → MapMirrors (seen_of t x) c → IsReplayed x →
    (stops_in c.map_cell o.written ≡ true → notes ≡ shown_if (stands_in c.map_cell) o.notes) → MapPerforms memory_state x y o (Err Failed) →
    MapSteps (seen_of t y) c (map_performs c o) [] notes
rule_broken t o x y c notes up m before shown h =
    if_elim (λ d. MapSteps (seen_of t y) c d [] notes) (stops_in c.map_cell o.written) _ _
    (λ b. by_record (stands_in c.map_cell) (broken_records x.file y.file o.written c.map_cell h.file (m.plan up) b) (shown b))
    (λ f. absurd (broken_stops x.file y.file o.written c.map_cell h.file (m.plan up) f))
  where
    isdown : y.file.stopped ≡ true
    isdown = broken_down x.file y.file o.written h.file

    by_record : (b : Bool) → y.file.records ≡ (if b then x.file.records ++ listed o.written else x.file.records) → notes ≡ shown_if b o.notes →
        MapSteps (seen_of t y) c (if b then map_halted (after_map_rule c (unsent o)) else map_halted c) [] notes
    by_record true is told =
        subst (λ ns. MapSteps (seen_of t y) c (map_halted (after_map_rule c (unsent o))) [] ns) (sym told)
        (halted_behind (seen_of t y) c o isdown (sym h.stands.replays ∙ ap map_replay (sym is) ∙ sym (seen_down t y isdown)) m.moment)
    by_record false is told =
        subst (λ ns. MapSteps (seen_of t y) c (map_halted c) [] ns) (sym told)
        (halted_on (seen_of t y) c isdown (m.map ∙ seen_up t x up ∙ before ∙ ap map_replay (sym is) ∙ sym (seen_down t y isdown)) m.moment)

-- where no memory was left all that is seen of it is as it was
pub rule_short : (t : ℕ) (o : Outcome MapState) (x y : MapWithFile MemDisk) → x.file.stopped ≡ false → MapPerforms memory_state x y o (Err Memory) → seen_of t y ≡ seen_of t x
rule_short t o x y up h =
    let f = short_same x.file y.file o.written h.file in
    let same : (seen_of t y).map ≡ (seen_of t x).map = seen_up t y (f.1 ∙ up) ∙ h.same ∙ sym (seen_up t x up) in
    λ i. record { map = same i; stopped = f.1 i; stop = f.2 i; moment = t }

-- ---- one that runs, and one that has stopped

pub goes_up : (x y : MapSeen) (c d : Cluster) (packets : List Packet) (notes : List Note) → x.stopped ≡ false → MapMirrors x c → MapSteps y c d packets notes →
    MapSteps y c (if c.map_cell.up then d else c) packets notes
goes_up x y c d packets notes isup m h =
    if_elim (λ e. MapSteps y c e packets notes) c.map_cell.up d c
    (λ b. h)
    (λ f. absurd (let a = m.up ∙ ap not isup in cc))

pub goes_down : (x : MapSeen) (c d : Cluster) → x.stopped ≡ true → MapMirrors x c → MapSteps x c (if c.map_cell.up then d else c) [] []
goes_down x c d isdown m =
    if_elim (λ e. MapSteps x c e [] []) c.map_cell.up d c
    (λ b. absurd (let a = m.up ∙ ap not isdown in cc))
    (λ f. rests_on x c m)

-- ---- calls that may be refused

pub not_refused : (c : Cluster) (fault : Option Refusal) (o : Outcome MapState) → fault ≡ None → map_performs_if c fault o ≡ map_performs c o
not_refused c fault o is = ap (λ (f : Option Refusal). map_performs_if c f o) is

pub is_refused : (c : Cluster) (fault : Option Refusal) (refusal : Refusal) (o : Outcome MapState) → fault ≡ Some refusal → map_performs_if c fault o ≡ c
is_refused c fault refusal o is = ap (λ (f : Option Refusal). map_performs_if c f o) is

-- ---- stops and restarts

pub stop_down : (call : ℕ) (keep : Bool) (x : MapSeen) (c : Cluster) → x.stopped ≡ true → MapMirrors x c → MapSteps x c (map_stops c call keep) [] []
stop_down call keep x c isdown m = goes_down x c _ isdown m

pub stop_now : (t : ℕ) (call : ℕ) (keep : Bool) (x y : MapWithFile MemDisk) (c : Cluster) → x.file.stopped ≡ false → call ≡ 0 → MapMirrors (seen_of t x) c → IsReplayed x →
    y.file.records ≡ x.file.records → y.file.stopped ≡ true → MapSteps (seen_of t y) c (map_stops c call keep) [] []
stop_now t call keep x y c up now m before same isdown =
    goes_up (seen_of t x) (seen_of t y) c _ [] [] up m
    (if_elim (λ d. MapSteps (seen_of t y) c d [] []) (call == 0) (map_halted c) _
    (λ z. halted_on (seen_of t y) c isdown (m.map ∙ seen_up t x up ∙ before ∙ ap map_replay (sym same) ∙ sym (seen_down t y isdown)) m.moment)
    (λ z. absurd (let f = subst (λ k. (k == 0) ≡ false) now z in cc)))

pub stop_later : (t : ℕ) (call : ℕ) (keep : Bool) (x y : MapWithFile MemDisk) (c : Cluster) → x.file.stopped ≡ false → call ≢ 0 → MapMirrors (seen_of t x) c →
    map_of y ≡ map_of x → y.file.stopped ≡ x.file.stopped → (memory_state y.file.disk).stop ≡ Some (call, keep) → MapSteps (seen_of t y) c (map_stops c call keep) [] []
stop_later t call keep x y c up later m kept same told =
    goes_up (seen_of t x) (seen_of t y) c _ [] [] up m
    (if_elim (λ d. MapSteps (seen_of t y) c d [] []) (call == 0) (map_halted c) _
    (λ z. absurd (later (eqb-true call 0 z)))
    (λ z. record {
      stream_layer = nothing_told c.stream_layer;
      servers = refl;
      now = refl;
      batch = refl;
      map = record {
        map = m.map ∙ seen_up t x up ∙ sym kept ∙ sym (seen_up t y (same ∙ up));
        up = ap not (sym (same ∙ up));
        plan = λ _. told ∙ sym (plan_armed call keep later);
        moment = m.moment;
      };
    }))

pub start_up : (x : MapSeen) (c : Cluster) → x.stopped ≡ false → MapMirrors x c → MapSteps x c (map_starts c) [] []
start_up x c isup m =
    if_elim (λ d. MapSteps x c d [] []) c.map_cell.up c (record c { map_cell = running })
    (λ b. rests_on x c m)
    (λ f. absurd (let a = m.up ∙ ap not isup in cc))

pub starts_again : (t : ℕ) (x y : MapWithFile MemDisk) (c : Cluster) → x.file.stopped ≡ true → MapMirrors (seen_of t x) c → y.file.stopped ≡ false → y.file.records ≡ x.file.records →
    (memory_state y.file.disk).stop ≡ None → IsReplayed y → MapSteps (seen_of t y) c (map_starts c) [] []
starts_again t x y c isdown m isup same untold made =
    if_elim (λ d. MapSteps (seen_of t y) c d [] []) c.map_cell.up c (record c { map_cell = running })
    (λ b. absurd (let a = m.up ∙ ap not isdown in cc))
    (λ f. record {
      stream_layer = nothing_told c.stream_layer;
      servers = refl;
      now = refl;
      batch = refl;
      map = record {
        map = m.map ∙ seen_down t x isdown ∙ ap map_replay (sym same) ∙ sym made ∙ sym (seen_up t y isup);
        up = ap not (sym isup);
        plan = λ _. untold;
        moment = m.moment;
      };
    })

-- a map with nothing on its disk
pub first_seen : (y : MapWithFile MemDisk) → y.file.stopped ≡ false → y.file.records ≡ [] → (memory_state y.file.disk).stop ≡ None → IsReplayed y → seen_of 0 y ≡ new_map
first_seen y isup none untold made =
    let map : (seen_of 0 y).map ≡ map_replay [] = seen_up 0 y isup ∙ made ∙ ap map_replay none in
    λ i. record { map = map i; stopped = isup i; stop = untold i; moment = 0 }
