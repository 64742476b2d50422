-- Gets, and transactions that are refused, turn no stream: they send what says nothing of any extent of a stream.
use Rattle.std.proofs.Common.{ℕ, ◌≤◌, List, [], ◌∷◌, ◌++◌, map, Bool, true, false, Option, Some, None, inl, arith, if◌then◌else◌}
use Rattle.block_types.specs.declared.record.Nodes.{Nodes}
use Rattle.wire.specs.declared.actor.ActorId.{ActorId}
use Rattle.wire.specs.declared.actor.ReqNo.{ReqNo}
use Rattle.wire.specs.declared.body.AppendBody.{AppendBody}
use Rattle.wire.specs.declared.body.AppendBody.TheVariants as appends
use Rattle.wire.specs.declared.body.ReadBody.{ReadBody}
use Rattle.wire.specs.declared.body.ReadBody.TheVariants as reads
use Rattle.wire.specs.declared.body.Body.{Body}
use Rattle.wire.specs.declared.body.Body.TheVariants as bodies
use Rattle.wire.specs.declared.refusal.Refusal.{Refusal}
use Rattle.wire.specs.declared.refusal.Refusal.TheVariants as refusals
use Rattle.wire.specs.declared.streams.StreamName.{StreamName}
use Rattle.wire.specs.declared.packet.Packet.{Packet}
use Rattle.memtable.specs.declared.cell.Place.{Place}
use Rattle.model_streams.specs.StreamSystem.{StreamSystem}
use Rattle.model_partition.specs.declared.server_context.ServerContext.{ServerContext}
use Rattle.model_partition.specs.declared.waiting.WaitingGet.{WaitingGet}
use Rattle.model_partition.specs.Range.{RangeState, RangeOutcome, refuses, answers, dropped}
use Rattle.model_partition.specs.PlaceReads.{place_of, places_of}
use Rattle.model_partition.specs.Getting.{Lookup, Is, Needs, Tried, asks_place, answered, try_fault, try_unless, try, try_all, get_fault, gets, get_rule, are_no_page, bytes_come, bytes_rule, came, look, read_at, standing, used_for, without}
use Rattle.model_partition.specs.Answering.{bytes_reply, gets_reply, load_refused}
use Rattle.model_partition.specs.declared.table_note.TableNote.{TableNote}
use Rattle.laws_stream_machine.specs.Refinement.{Sent}
use Rattle.laws_ranges.specs.Serves.{Stand, Side, log_of, AreAsked, Follows, BothListed, IsSentBy}
use Rattle.laws_ranges.specs.Quiet.{GoesQuietly}
use Rattle.laws_ranges.proofs.LogRules.{asked_both}
use Rattle.laws_ranges.proofs.BothStreams.{still_showing, follows_same}
use Rattle.laws_ranges.proofs.Confirmed.{dropped_quietly}

-- ---- what is tried

module _ (generation : ℕ → ℕ) (range : ℕ) (w : StreamSystem) (i : ℕ) (name : StreamName) (x : Stand) (sent : List Sent) where
  -- the next number is no lower, and what is sent is plain
  abbrev pub IsTry : ServerContext → Tried → Type 0
  IsTry d t = (d.count ≤ t.count) × AreAsked generation range w i name x sent t.packets

  place_try : (d : ServerContext) (g : WaitingGet) (page : Bool) (place : Place) (places : Option Nodes) → IsTry d (asks_place d g page place places)
  place_try d g page place None = (omega arith, tt)
  place_try d g page place (Some places) = (omega arith, (inl (λ u n s z. tt), tt))

  found_try : (d : ServerContext) (r : RangeState) (g : WaitingGet) (found : Lookup) → IsTry d (answered d r g found)
  found_try d r g (Is value) = (omega arith, (inl (λ u n s z. tt), tt))
  found_try d r g (Needs page place) = place_try d g page place (places_of r place.extent)

  pub one_try : (d : ServerContext) (r : RangeState) (g : WaitingGet) → IsTry d (try d r g)
  one_try d r g = go (try_fault d r)
    where
      go : (fault : Option Refusal) → IsTry d (try_unless d r g fault)
      go (Some why) = (omega arith, (inl (λ u n s z. tt), tt))
      go None = found_try d r g (look r.held r.indexes g.key (standing r g.key))

  pub all_try : (d : ServerContext) (r : RangeState) (gs : List WaitingGet) → IsTry d (try_all d r gs)
  all_try d r [] = (omega arith, tt)
  all_try d r (g ∷ gs) =
      let one : IsTry d (try d r g) = one_try d r g in
      let others : IsTry (record d { count = (try d r g).count }) (try_all (record d { count = (try d r g).count }) r gs) = all_try (record d { count = (try d r g).count }) r gs in
      let a : d.count ≤ (try d r g).count = one.0 in
      let b : (try d r g).count ≤ (try_all (record d { count = (try d r g).count }) r gs).count = others.0 in (
        omega (arith, a, b),
        asked_both generation range w i name x sent (try d r g).packets (try_all (record d { count = (try d r g).count }) r gs).packets one.1 others.1,
      )

-- ---- the rules

-- what is so where the range keeps all but its Gets and what was read for them, and where it is dropped
module _ (generation : ℕ → ℕ) (range : ℕ) (w : StreamSystem) (i : ℕ) (l : Side) (d : ServerContext) (r : RangeState) (Holds : RangeOutcome → Type 0)
    (still : (gets : List WaitingGet) (held : List (Place × List ℕ)) (count : ℕ) (packets : List Packet) (notes : List TableNote) → d.count ≤ count → AreAsked generation range w i (log_of range) l.stand l.sent packets →
    Holds (record { after = Some (record r { gets = gets; held = held }); count = count; packets = packets; notes = notes }))
    (gone : Holds (dropped d r)) where
  pub refused_is : (from : ActorId) (v : ReqNo) (why : Refusal) → Holds (answers d r (refuses d from v why ∷ []))
  refused_is from v why = still r.gets r.held d.count (refuses d from v why ∷ []) [] (omega arith) (inl (λ u n s z. tt), tt)

  gets_is : (from : ActorId) (v : ReqNo) (key : List ℕ) (fault : Option Refusal) → Holds (gets d r from v key fault)
  gets_is from v key (Some why) = refused_is from v why
  gets_is from v key None =
      let g : WaitingGet = record { from = from; request = v; key = key; reads = [] } in
      let t : Tried = try d r g in
      let is : IsTry generation range w i (log_of range) l.stand l.sent d t = one_try generation range w i (log_of range) l.stand l.sent d r g in
      still (r.gets ++ t.waiting) (used_for r.held r.indexes key (standing r key)) t.count t.packets t.notes is.0 is.1

  -- a Get
  pub get_is : (from : ActorId) (v : ReqNo) (key : List ℕ) → Holds (get_rule d r from v key)
  get_is from v key = gets_is from v key (get_fault d r key)

  -- the bytes of a page or of a value
  bytes_is : (v : ReqNo) (place : Place) (bytes : List ℕ) → Holds (bytes_come d r v place bytes)
  bytes_is v place bytes =
      let now : RangeState = record r { held = came r.held (read_at r.gets v) place bytes } in
      let t : Tried = try_all d now (map (without v) r.gets) in
      let is : IsTry generation range w i (log_of range) l.stand l.sent d t = all_try generation range w i (log_of range) l.stand l.sent d now (map (without v) r.gets) in
      still t.waiting now.held t.count t.packets t.notes is.0 is.1

  rested : Holds (answers d r [])
  rested = still r.gets r.held d.count [] [] (omega arith) tt

  -- bytes that spell no page where one is wanted change nothing
  pages_are : (v : ReqNo) (place : Place) (bytes : List ℕ) → Holds (bytes_rule d r v place bytes)
  pages_are v place bytes = go (are_no_page (read_at r.gets v) bytes)
    where
      go : (t : Bool) → Holds (if t then answers d r [] else bytes_come d r v place bytes)
      go true = rested
      go false = bytes_is v place bytes

  read_is : (v : ReqNo) (body : ReadBody) → Holds (bytes_reply d r v body)
  read_is v (reads.Bytes u e offset bytes) = pages_are v (place_of e offset bytes) bytes
  read_is v body = rested

  -- the refusal of a read
  refused_read : (body : AppendBody) → Holds (load_refused d r body)
  refused_read (appends.Refused u refusals.Stale) = gone
  refused_read body = rested

  pub gets_reply_is : (v : ReqNo) (body : Body) → Holds (gets_reply d r v body)
  gets_reply_is v (bodies.Read body) = read_is v body
  gets_reply_is v (bodies.Append body) = refused_read body
  gets_reply_is v body = rested

module _ (generation : ℕ → ℕ) (range : ℕ) (w : StreamSystem) (i : ℕ) (both : BothListed w range) (m l : Side) (d : ServerContext) (by : IsSentBy d d.count m.sent l.sent)
    (r : RangeState) (f : Follows generation range w i m l r) where
  abbrev Quiet : RangeOutcome → Type 0
  Quiet o = GoesQuietly generation range w i m l d o

  still : (gets : List WaitingGet) (held : List (Place × List ℕ)) (count : ℕ) (packets : List Packet) (notes : List TableNote) → d.count ≤ count → AreAsked generation range w i (log_of range) l.stand l.sent packets →
      Quiet (record { after = Some (record r { gets = gets; held = held }); count = count; packets = packets; notes = notes })
  still gets held count packets notes more asked =
      still_showing generation range w i both m l d by (Some (record r { gets = gets; held = held })) count packets notes (follows_same generation range w i m l r r.until gets held f) more asked

  gone : Quiet (dropped d r)
  gone = dropped_quietly generation range w i both m l d by r

  pub refused_quietly : (from : ActorId) (v : ReqNo) (why : Refusal) → Quiet (answers d r (refuses d from v why ∷ []))
  refused_quietly from v why = refused_is generation range w i l d r (λ o. Quiet o) still gone from v why

  pub get_quietly : (from : ActorId) (v : ReqNo) (key : List ℕ) → Quiet (get_rule d r from v key)
  get_quietly from v key = get_is generation range w i l d r (λ o. Quiet o) still gone from v key

  pub gets_reply_quietly : (v : ReqNo) (body : Body) → Quiet (gets_reply d r v body)
  gets_reply_quietly v body = gets_reply_is generation range w i l d r (λ o. Quiet o) still gone v body
