-- A step of the client of one stream of a range, as both streams see it; and steps that turn neither.
use Rattle.std.proofs.Common.{◌≡◌, ℕ, suc, ◌≤◌, List, [], ◌∷◌, ◌++◌, Option, Some, None, option_to_list, refl, sym, ◌∙◌, inl, inr, arith}
use Rattle.wire.specs.declared.actor.ReqNo.{ReqNo}
use Rattle.wire.specs.declared.body.AppendBody.TheVariants as appends
use Rattle.wire.specs.declared.body.CheckBody.TheVariants as checks
use Rattle.wire.specs.declared.body.SealBody.TheVariants as seals
use Rattle.wire.specs.declared.body.ReadBody.TheVariants as reads
use Rattle.wire.specs.declared.body.StreamBody.TheVariants as streams
use Rattle.wire.specs.declared.body.Body.{Body}
use Rattle.wire.specs.declared.body.Body.TheVariants as bodies
use Rattle.wire.specs.declared.packet.Packet.{Packet}
use Rattle.wire.specs.declared.streams.StreamKind.TheVariants as kinds
use Rattle.replica.specs.Groups.{Group}
use Rattle.model_streams.specs.StreamSystem.{StreamSystem}
use Rattle.memtable.specs.declared.cell.Place.{Place}
use Rattle.model_partition.specs.declared.server_context.ServerContext.{ServerContext}
use Rattle.model_partition.specs.declared.stage.Stage.{Stage}
use Rattle.model_partition.specs.declared.stage.Stage.TheVariants as stages
use Rattle.model_partition.specs.declared.waiting.WaitingGet.{WaitingGet}
use Rattle.model_partition.specs.declared.table_note.TableNote.{TableNote}
use Rattle.model_partition.specs.Range.{RangeState, request, goes}
use Rattle.model_histories.specs.StreamMachine as machine
use Rattle.laws_stream_machine.specs.Refinement.{Purpose, Sent, purpose_of, IsAt, AsksToAppend, AsksToCheck, AsksToRead, AsksToSeal, OfExtent, IsAsked}
use Rattle.laws_ranges.specs.Serves.{Stand, Side, after_turns, metadata_of, log_of, sent_with, IsNumbered, IsOwn, AreAsked, Goes, StageIs, LoadsMetadata, LoadsLog, Follows, FollowsIf, Apart, BothListed, IsSentBy, AskedOfBoth, RuleGoes}
use Rattle.laws_ranges.specs.Quiet.{GoesQuietly}
use Rattle.laws_ranges.proofs.MachineSteps.{purposes_on}
use Rattle.laws_ranges.proofs.LogRules.{asked_if}
use Rattle.laws_ranges.proofs.ServedRules.{kinds_differ, unused_on, apart_on, asked_of_both, own_known, own_builds}

-- ---- numbers

turned_apart : (m l : List Sent) → Apart m l → Apart l m
turned_apart m l a = record { here = a.there; there = a.here }

-- a number that neither list has may be used in the first
pub apart_first : (m l : List Sent) (q : ReqNo) (o : Option Purpose) → Apart m l → purpose_of l q ≡ None → Apart (sent_with q o m) l
apart_first m l q o a fresh = turned_apart l (sent_with q o m) (apart_on l m q o (turned_apart m l a) fresh)

-- ---- a step of both clients, with one number

module _ (generation : ℕ → ℕ) (range : ℕ) (w : StreamSystem) (i : ℕ) (m l : Side) (d : ServerContext) (by : IsSentBy d d.count m.sent l.sent) where
  module _ (One Two : Stand → List Sent → Type 0) (first second : Option Packet) (one : Goes generation (metadata_of range) w i m.stand m.sent (request d) One first)
      (two : Goes generation (log_of range) w i l.stand l.sent (request d) Two second) where
    abbrev first_side : Side
    first_side = record { stand = after_turns generation i m.stand one.list; sent = sent_with (request d) one.purpose m.sent }

    abbrev second_side : Side
    second_side = record { stand = after_turns generation i l.stand two.list; sent = sent_with (request d) two.purpose l.sent }

    unfoldable pub both_step : (after : RangeState) (packets : List Packet) (shown : List TableNote) → Apart first_side.sent second_side.sent → Follows generation range w i first_side second_side after →
        AskedOfBoth generation range w i (Some after) first_side second_side packets → RuleGoes generation range w i m l d (goes d after packets shown)
    both_step after packets shown apart follows asked =
        record {
          metadata_turns = one.list;
          log_turns = two.list;
          metadata_allowed = one.allowed;
          log_allowed = two.allowed;
          none = λ e. absurd cc;
          metadata_sent = first_side.sent;
          log_sent = second_side.sent;
          metadata_keeps = purposes_on (request d) one.purpose m.sent (by.metadata d.count (omega arith));
          log_keeps = purposes_on (request d) two.purpose l.sent (by.log d.count (omega arith));
          rises = omega arith;
          metadata_adds = record { number = d.count; from = omega arith; purpose = one.purpose; is = refl };
          log_adds = record { number = d.count; from = omega arith; purpose = two.purpose; is = refl };
          sent_by = record {
            apart = apart;
            metadata = unused_on d (suc d.count) one.purpose m.sent by.metadata (inl refl);
            log = unused_on d (suc d.count) two.purpose l.sent by.log (inl refl);
          };
          then = follows;
          asked = asked;
        }

module _ (generation : ℕ → ℕ) (range : ℕ) (w : StreamSystem) (i : ℕ) (both : BothListed w range) where
  -- ---- what is asked of the metadata alone says nothing of the log

  other_extent : (s : machine.MachineState Group) (m l : List Sent) → Apart m l → (e : ℕ) (q : ReqNo) (Asks : ℕ → Type 0) → (index : ℕ) × IsAt w (metadata_of range) index e →
      IsNumbered generation (metadata_of range) w i m q → OfExtent generation (log_of range) w s l e q Asks
  other_extent s m l a e q Asks here number = record {
    made = both.metadata.made here.0 e here.1;
    unsealed = λ k at. absurd (both.apart here.0 k e here.1 at.0 at.1);
    known = λ p for. let c : None ≡ Some p = sym (a.here q number.0 number.1 number.2) ∙ for in absurd cc;
  }

  metadata_elsewhere : (s : machine.MachineState Group) (m l : List Sent) → Apart m l → (body : Body) → IsOwn generation (metadata_of range) w i m body → IsAsked generation (log_of range) w s l body
  metadata_elsewhere s m l a (bodies.Append (appends.Append e g blocks q)) b =
      other_extent s m l a e q (λ index. AsksToAppend generation (log_of range) w s l g e index blocks q) b.0 b.1
  metadata_elsewhere s m l a (bodies.Append body) b = absurd b
  metadata_elsewhere s m l a (bodies.Check (checks.Check e g q)) b =
      other_extent s m l a e q (λ index. AsksToCheck generation (log_of range) w s l g e index q) b.0 b.1
  metadata_elsewhere s m l a (bodies.Check body) b = absurd b
  metadata_elsewhere s m l a (bodies.Read (reads.ReadGroups e upto sealed q)) b =
      other_extent s m l a e q (λ index. AsksToRead generation (log_of range) w s l e index upto q) b.0 b.1
  metadata_elsewhere s m l a (bodies.Read body) b = absurd b
  metadata_elsewhere s m l a (bodies.Seal (seals.SealExtent e q)) b =
      other_extent s m l a e q (λ index. AsksToSeal generation (log_of range) w s l e index q) b.0 b.1
  metadata_elsewhere s m l a (bodies.Seal body) b = absurd b
  metadata_elsewhere s m l a (bodies.Stream (streams.Extend stream g last pick q)) b =
      record { here = λ same. absurd (kinds_differ range (sym b.0 ∙ same)); elsewhere = λ other. a.here q b.1.0 b.1.1 b.1.2 }
  metadata_elsewhere s m l a (bodies.Stream body) b = absurd b
  metadata_elsewhere s m l a body b = absurd b

  pub asked_of_metadata : (after : Option RangeState) (n k : Side) → Apart n.sent k.sent → (ps : List Packet) → AreAsked generation range w i (metadata_of range) n.stand n.sent ps → AskedOfBoth generation range w i after n k ps
  asked_of_metadata after n k a [] asked = tt
  asked_of_metadata after n k a (p ∷ ps) (inl plain, asked) = ((asked_of_both generation range w i both after n k a (p ∷ []) (inl plain, tt)).0, asked_of_metadata after n k a ps asked)
  asked_of_metadata after n k a (p ∷ ps) (inr own, asked) =
      ((own.0, metadata_elsewhere k.stand.state n.sent k.sent a p.body own.1, λ q is one two. absurd (own_known generation range w i both (metadata_of range) n.sent p.body own.1 q is one), own_builds generation range w i both (metadata_of range) n.sent p.body own.1), asked_of_metadata after n k a ps asked)

  pub asked_joined : (after : Option RangeState) (n k : Side) (ps qs : List Packet) → AskedOfBoth generation range w i after n k ps → AskedOfBoth generation range w i after n k qs → AskedOfBoth generation range w i after n k (ps ++ qs)
  asked_joined after n k [] qs a b = b
  asked_joined after n k (p ∷ ps) qs a b = (a.0, asked_joined after n k ps qs a.1 b)

  module _ (m l : Side) (d : ServerContext) (by : IsSentBy d d.count m.sent l.sent) where
    -- ---- a step of one client

    pub log_step : (after : RangeState) (p : Option Packet) (Then : Stand → List Sent → Type 0) (went : Goes generation (log_of range) w i l.stand l.sent (request d) Then p) →
        Follows generation range w i m (record { stand = after_turns generation i l.stand went.list; sent = sent_with (request d) went.purpose l.sent }) after →
        RuleGoes generation range w i m l d (goes d after (option_to_list p) [])
    log_step after p Then went follows =
        let idle : Goes generation (metadata_of range) w i m.stand m.sent (request d) (λ y more. Unit {0}) None = record { list = []; allowed = tt; purpose = None; then = tt; asked = tt } in
        let k : Side = record { stand = after_turns generation i l.stand went.list; sent = sent_with (request d) went.purpose l.sent } in
        let apart : Apart m.sent k.sent = apart_on m.sent l.sent (request d) went.purpose by.apart (by.metadata d.count (omega arith)) in
        both_step generation range w i m l d by (λ y more. Unit {0}) Then None p idle went after (option_to_list p) [] apart follows
        (asked_of_both generation range w i both (Some after) m k apart (option_to_list p) (asked_if generation range w i (log_of range) k.stand k.sent p went.asked))

    pub metadata_step : (after : RangeState) (p : Option Packet) (Then : Stand → List Sent → Type 0) (went : Goes generation (metadata_of range) w i m.stand m.sent (request d) Then p) →
        Follows generation range w i (record { stand = after_turns generation i m.stand went.list; sent = sent_with (request d) went.purpose m.sent }) l after →
        RuleGoes generation range w i m l d (goes d after (option_to_list p) [])
    metadata_step after p Then went follows =
        let idle : Goes generation (log_of range) w i l.stand l.sent (request d) (λ y more. Unit {0}) None = record { list = []; allowed = tt; purpose = None; then = tt; asked = tt } in
        let n : Side = record { stand = after_turns generation i m.stand went.list; sent = sent_with (request d) went.purpose m.sent } in
        let apart : Apart n.sent l.sent = apart_first m.sent l.sent (request d) went.purpose by.apart (by.log d.count (omega arith)) in
        both_step generation range w i m l d by Then (λ y more. Unit {0}) p None went idle after (option_to_list p) [] apart follows
        (asked_of_metadata (Some after) n l apart (option_to_list p) (asked_if generation range w i (metadata_of range) n.stand n.sent p went.asked))

    -- ---- a step that turns neither

    -- whatever is shown
    still_shown : (after : Option RangeState) (count : ℕ) (packets : List Packet) (notes : List TableNote) → FollowsIf generation range w i after m l → d.count ≤ count →
        AskedOfBoth generation range w i after m l packets → GoesQuietly generation range w i m l d (record { after = after; count = count; packets = packets; notes = notes })
    still_shown after count packets notes follows more asked =
        record {
          goes = record {
            metadata_turns = [];
            log_turns = [];
            metadata_allowed = tt;
            log_allowed = tt;
            none = λ e. (refl, refl);
            metadata_sent = m.sent;
            log_sent = l.sent;
            metadata_keeps = λ q z e. e;
            log_keeps = λ q z e. e;
            rises = more;
            metadata_adds = record { number = d.count; from = omega arith; purpose = None; is = refl };
            log_adds = record { number = d.count; from = omega arith; purpose = None; is = refl };
            sent_by = record { apart = by.apart; metadata = λ k le. by.metadata k (omega (arith, le, more)); log = λ k le. by.log k (omega (arith, le, more)) };
            then = follows;
            asked = asked;
          };
          metadata = tt;
          log = tt;
        }

    pub still_asked : (after : Option RangeState) (count : ℕ) (packets : List Packet) → FollowsIf generation range w i after m l → d.count ≤ count →
        AskedOfBoth generation range w i after m l packets → GoesQuietly generation range w i m l d (record { after = after; count = count; packets = packets; notes = [] })
    still_asked after count packets follows more asked = still_shown after count packets [] follows more asked

    pub still_showing : (after : Option RangeState) (count : ℕ) (packets : List Packet) (notes : List TableNote) → FollowsIf generation range w i after m l → d.count ≤ count →
        AreAsked generation range w i (log_of range) l.stand l.sent packets → GoesQuietly generation range w i m l d (record { after = after; count = count; packets = packets; notes = notes })
    still_showing after count packets notes follows more asked = still_shown after count packets notes follows more (asked_of_both generation range w i both after m l by.apart packets asked)

    pub still_quietly : (after : Option RangeState) (count : ℕ) (packets : List Packet) → FollowsIf generation range w i after m l → d.count ≤ count →
        AreAsked generation range w i (log_of range) l.stand l.sent packets → GoesQuietly generation range w i m l d (record { after = after; count = count; packets = packets; notes = [] })
    still_quietly after count packets follows more asked = still_showing after count packets [] follows more asked

    pub still_both : (after : RangeState) (count : ℕ) (packets : List Packet) → Follows generation range w i m l after → d.count ≤ count →
        AreAsked generation range w i (log_of range) l.stand l.sent packets → RuleGoes generation range w i m l d (record { after = Some after; count = count; packets = packets; notes = [] })
    still_both after count packets follows more asked = (still_quietly (Some after) count packets follows more asked).goes

-- ---- what the lease and the Gets of a range do not matter for

module _ (generation : ℕ → ℕ) (range : ℕ) (w : StreamSystem) (i : ℕ) (m l : Side) where
  abbrev pub kept_but : RangeState → ℕ → List WaitingGet → List (Place × List ℕ) → RangeState
  kept_but r until gets held = record r { until = until; gets = gets; held = held }

  module _ (r : RangeState) (until : ℕ) (gets : List WaitingGet) (held : List (Place × List ℕ)) where
    same_metadata : LoadsMetadata generation range w i m l r → LoadsMetadata generation range w i m l (kept_but r until gets held)
    same_metadata b = record { phase = b.phase; metadata = b.metadata; log = b.log }

    same_log : LoadsLog generation range w i m l r → LoadsLog generation range w i m l (kept_but r until gets held)
    same_log b = record { phase = b.phase; metadata = b.metadata; metadata_idle = b.metadata_idle; log = b.log }

    same_stage : (stage : Stage) → StageIs generation range w i m l r stage → StageIs generation range w i m l (kept_but r until gets held) stage
    same_stage stages.Opening b = record { q = b.q; phase = b.phase; metadata = b.metadata; log = b.log; metadata_idle = b.metadata_idle; log_idle = b.log_idle }
    same_stage (stages.Checking kinds.Metadata) b = same_metadata b
    same_stage (stages.Checking kinds.Log) b = same_log b
    same_stage (stages.Checking kinds.RowData) b = absurd b
    same_stage (stages.Checking kinds.BlobData) b = absurd b
    same_stage (stages.Reading kinds.Metadata position) b = same_metadata b
    same_stage (stages.Reading kinds.Log position) b = same_log b
    same_stage (stages.Reading kinds.RowData position) b = absurd b
    same_stage (stages.Reading kinds.BlobData position) b = absurd b
    same_stage (stages.Indexing position) b =
        record { phase = b.phase; metadata = b.metadata; metadata_idle = b.metadata_idle; log = b.log; log_idle = b.log_idle }
    same_stage stages.Confirming b = record { q = b.q; phase = b.phase; metadata = b.metadata; log = b.log }
    same_stage stages.Serving b = record { phase = b.phase; metadata = b.metadata; record_is = b.record_is; log = b.log; out = b.out; position = b.position; trims = b.trims }

    pub follows_same : Follows generation range w i m l r → Follows generation range w i m l (kept_but r until gets held)
    follows_same b = record { range_is = b.range_is; under = b.under; calm = b.calm; rows = b.rows; stage = same_stage r.stage b.stage }
