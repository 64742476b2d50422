-- THE TABLES OF SERVERS REPLAY, with splits, over any streams that keep their order, where the map and the manager answer by their tables; and
-- each range that is served is at its line within its keys.
use Rattle.std.proofs.Common.{◌≡◌, ◌⊎◌, ◌<◌, ◌≤◌, ℕ, true, List, ◌++◌, Some, Contains, sym, ap, ◌∙◌, subst, inl, inr, arith, append_assoc}
use Rattle.wire.specs.declared.note.Note.{Note}
use Rattle.wire.specs.declared.packet.Packet.{Packet}
use Rattle.model_partition.specs.declared.split_job.Side.{Side}
use Rattle.model_partition.specs.declared.split_job.Side.TheVariants.{Low, High}
use Rattle.model_partition.specs.declared.split_job.SplitPhase.{SplitPhase}
use Rattle.model_partition.specs.declared.split_job.SplitPhase.TheVariants as phases
use Rattle.model_partition.specs.Past.{Bytes, Replays, first_range, keys_of}
use Rattle.model_partition.specs.Range.{RangeState}
use Rattle.model_partition.specs.Splits.{side_range}
use Rattle.model_histories.specs.Log.{is_of}
use Rattle.model_histories.specs.ServedTables.{AreSeenAs, AreUnborn, ServesAt}
use Rattle.model_histories.specs.ServerRun.{ServerEvent, run_of, log_name}
use Rattle.model_histories.specs.Story.{KeepsOrder}
use Rattle.laws_tables.specs.Families.{HasNoBirth, generation_of}
use Rattle.laws_map.specs.Generations.{HasAsked}
use Rattle.laws_map.specs.Stages.{stage_of}
use Rattle.laws_server_runs.specs.Answerers.{split_asked, MapBook, AreAnswered, sent_by, IsShownSplit, ShareLoads, AllAreShown}
use Rattle.laws_server_runs.specs.BornRanges.{AllInOrder, IsToldOf, IsSplitOff, AllAreBorn}
use Rattle.laws_server_runs.specs.ChildInvariant.{HasPair, IsCompleting, ChildAt, IsBuiltBy, AreBornSo}
use Rattle.laws_server_runs.specs.FamilyMembers.{of_servers}
use Rattle.laws_server_runs.specs.OwnKeys.{IsAtLineWithin}
use Rattle.laws_server_runs.proofs.AnsweredBirths.{AllStand, now_stands, all_born}
use Rattle.laws_server_runs.proofs.AnsweredNotes.{IsUnder, shown_by_servers, seen_under}
use Rattle.laws_server_runs.proofs.AnsweredRuns.{HadSplit}
use Rattle.laws_server_runs.proofs.AnsweredStands.{HasBuilt}
use Rattle.laws_server_runs.proofs.ChildTheorem.{served_at_own_keys}
use Rattle.laws_server_runs.proofs.SplitsReplay.{splits_replay, splits_keys}

module _ (texts : ℕ → Bytes) (b : MapBook) (batch servers : ℕ) (h : List Note) where
  abbrev sent : List ServerEvent → List Packet
  sent events = sent_by batch servers events

  module _ (events : List ServerEvent) (answered : AreAnswered b batch servers events) (order : AllInOrder texts batch servers events) (seen : AreSeenAs texts (run_of batch servers events).notes (of_servers h)) where
    abbrev all : AreBornSo texts batch servers events × AllStand texts b batch servers events
    all = all_born texts b batch servers events answered order

    -- ---- one of the two of a split that is shown

    module _ (p r : ℕ) (s : IsShownSplit b texts batch servers events h p r) (shares : ShareLoads b texts batch servers events order p r) where
      abbrev e : HasBuilt (sent events) (IsBuiltBy events) b (HadSplit batch servers events) p s.generation
      e = (now_stands texts b batch servers events all.1).ended p s.generation s.ended

      abbrev w : HadSplit batch servers events p e.job
      w = e.was

      -- the split that asked for its end is this one
      key_is : e.job.key ≡ s.child.key
      key_is =
          (now_stands texts b batch servers events all.1).keys e.numbered.1.0 s.request p s.generation e.job.key s.child.key
          (subst (λ n. HasAsked (sent events) e.numbered.1.0 n s.generation e.job.key) e.range_is (subst (λ g. HasAsked (sent events) e.numbered.1.0 e.job.range g e.job.key) e.generation_is e.numbered.1.1)) s.asked

      same : split_asked e.job.range e.job.generation e.job.key ≡ split_asked p s.generation s.child.key
      same = λ i. split_asked (e.range_is i) (e.generation_is i) (key_is i)

      low_is : e.job.low ≡ s.child.low
      low_is = e.numbered.0.low_is ∙ ap b.low same ∙ sym s.given.low_is

      high_is : e.job.high ≡ s.child.high
      high_is = e.numbered.0.high_is ∙ ap b.high same ∙ sym s.given.high_is

      side_of : (r ≡ s.child.low) ⊎ (r ≡ s.child.high) → (side : Side) × (r ≡ side_range e.job side)
      side_of (inl is) = (Low, is ∙ sym low_is)
      side_of (inr is) = (High, is ∙ sym high_is)

      completing : (phase : SplitPhase) → 4 ≤ stage_of phase → IsCompleting phase × HasPair phase
      completing (phases.Complete q) end = (tt, tt)
      completing (phases.Begin q) end = absurd (omega (arith, end))
      completing (phases.Keys side x) end = absurd (omega (arith, end))
      completing phases.Checkpoint end = absurd (omega (arith, end))
      completing phases.Queue end = absurd (omega (arith, end))
      completing phases.Record end = absurd (omega (arith, end))
      completing (phases.Seal kind q) end = absurd (omega (arith, end))
      completing (phases.Build q) end = absurd (omega (arith, end))

      abbrev child_at : ChildAt (run_of batch servers w.until) w.server p r
      child_at = record {
        cell = w.cell;
        state = w.state;
        there = w.there;
        runs = w.runs;
        job = e.job;
        found = w.found;
        pair = (completing e.job.phase e.ends).1;
        side = (side_of s.child.half).0;
        is = (side_of s.child.half).1;
      }

      -- what servers show is of generations that the map assigns
      under : (n : ℕ) (note : Note) → Contains h note → is_of n note ≡ true → IsUnder b n (generation_of note)
      under n note there is = seen_under texts b batch servers events all.1 (of_servers h) seen note (shown_by_servers n note h is there) n is

      given_r : b.given r ≡ Some (split_asked p s.generation s.child.key)
      given_r = elim s.child.half [ inl is ↦ ap b.given is ∙ s.given.low_given | inr is ↦ ap b.given is ∙ s.given.high_given ]

      told_of : IsToldOf texts batch servers h w.until w.server p r child_at
      told_of = record {
        waits = (completing e.job.phase e.ends).0;
        child = s.child;
        low = sym low_is;
        high = sym high_is;
        key = sym key_is;
        highest = λ note there is. subst (λ g. generation_of note ≤ g) (sym e.generation_is) ((under p note there is).last s.generation s.last);
        above = λ note there is. subst (λ g. g < generation_of note) (sym e.generation_is) ((under r note there is).above (split_asked p s.generation s.child.key) given_r);
      }

      split_off : IsSplitOff texts batch servers h events order p r
      split_off = record {
        after = w.after;
        until = w.until;
        is = w.is;
        server = w.server;
        split = child_at;
        told = told_of;
        shared = λ late early is. shares (w.after ++ late) early (w.is ∙ ap (λ l. w.after ++ l) is ∙ sym (append_assoc w.after late _));
      }

    are_born : AllAreShown b texts batch servers events h order → AllAreBorn texts batch servers h events order
    are_born shown r = elim (shown r) [
      | inl none ↦ inl none
      | inr known ↦ inr (elim known [ inl first ↦ inl first | inr split ↦ inr (split.0, split_off split.0 r split.1 split.2) ])
    ]

    -- THE TABLES REPLAY
    pub answered_replays : AreUnborn first_range events → HasNoBirth first_range h → AllAreShown b texts batch servers events h order → Replays h
    answered_replays unnumbered unborn shown = splits_replay texts batch servers h events all.0 order seen unnumbered unborn (are_born shown)

    -- EACH RANGE THAT IS SERVED IS AT ITS LINE within the keys that splits left to it
    pub answered_at_line : AreUnborn first_range events → HasNoBirth first_range h → AllAreShown b texts batch servers events h order → (s range : ℕ) (r : RangeState) → ServesAt (run_of batch servers events) s range r →
        (log : KeepsOrder ((run_of batch servers events).story (log_name range))) → IsAtLineWithin texts (keys_of h range) ((run_of batch servers events).story (log_name range)) log.copies r
    answered_at_line unnumbered unborn shown s range r at log =
        subst (λ keys. IsAtLineWithin texts keys ((run_of batch servers events).story (log_name range)) log.copies r) (splits_keys texts batch servers h events all.0 order seen unnumbered unborn (are_born shown) s range r at)
        (served_at_own_keys texts batch servers events all.0 order s range r at log)
