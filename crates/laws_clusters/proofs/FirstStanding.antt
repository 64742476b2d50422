-- A cluster stands before anything comes to it: its machines have done nothing, and its servers hold nothing.
use Rattle.std.proofs.Common.{◌≡◌, ℕ, zero, suc, ◌+◌, Bool, true, false, [], Some, None, slice_get, refl, sym, ap, ◌∙◌, subst, inl, inr, arith, if◌then◌else◌, ◌&&◌, ◌==◌, nat_le}
use Rattle.std.proofs.lemmas.Bool.{eqb-true}
use Rattle.wire.specs.declared.actor.ReqNo.{ReqNo}
use Rattle.wire.specs.declared.streams.StreamKind.{StreamKind}
use Rattle.wire.specs.declared.streams.StreamKind.TheVariants as kinds
use Rattle.model_streams.specs.Maps.{entry_at}
use Rattle.streams.specs.Streams.{kind_number, empty_stream}
use Rattle.model_streams.specs.StreamSystem.{start}
use Rattle.model_partition.specs.Servers.{ServerCell, first_pick, first_server, first_servers}
use Rattle.model_partition.specs.Cluster.{first_cluster}
use Rattle.model_partition.specs.Past.{first_range}
use Rattle.model_partition.specs.declared.split_job.SplitJob.{SplitJob}
use Rattle.model_partition.specs.Range.{RangeState}
use Rattle.model_partition.specs.Server.{ServerState, split_of, range_of, started}
use Rattle.model_histories.specs.ServerRun.{stream_named, first_run, run_of}
use Rattle.laws_stream_machine.specs.Refinement.{IsThere}
use Rattle.laws_stream_machine.proofs.LowerLayer.{below_start}
use Rattle.laws_ranges.specs.Serves.{Apart}
use Rattle.laws_clusters.proofs.Generations.{generation_at}
use Rattle.laws_clusters.proofs.Invariant.{SplitAt, Waiter, OfRows, OfSeal, OfCall, Waits, HeldAt, Machines, HasNumber, IsBeside, AreBeside, Runs, Standing, Bases}
use Rattle.laws_server_runs.specs.Places.{AreAscending}
use Rattle.laws_clusters.proofs.RangeStreams.{HasStreams}
use Rattle.laws_clusters.proofs.StepShapes.{none_aside}

first_is : (batch k n j : ℕ) (cell : ServerCell) → slice_get (first_servers batch k n) j ≡ Some cell → cell ≡ first_server batch (k + j)
first_is batch k zero j cell e = absurd cc
first_is batch k (suc n) zero cell e =
    let same : first_server batch k ≡ cell = cc in
    let number : k + 0 ≡ k = omega arith in
    sym same ∙ ap (first_server batch) (sym number)
first_is batch k (suc n) (suc j) cell e =
    let number : suc k + j ≡ k + suc j = omega arith in
    first_is batch (suc k) n j cell e ∙ ap (first_server batch) number

-- nothing was sent
none_apart : Apart [] []
none_apart = record { here = λ q p e alone. absurd cc; there = λ q p e alone. absurd cc }

module _ (nodes target batch count : ℕ) where
  -- no stream has grown at first
  abbrev pub nothing : Bases generation_at
  nothing = record { metadata = λ range. []; logs = λ range. []; midst = None }

  abbrev empty : Machines generation_at
  empty = record { m = []; l = []; m_sent = []; l_sent = [] }

  empty_number : (q : ReqNo) → HasNumber generation_at empty q → ⊥
  empty_number q (p, inl e) = cc
  empty_number q (p, inr e) = cc

  -- the streams of the first range are there, and no others
  first_streams_are : HasStreams (start nodes target) first_range
  first_streams_are kinds.Metadata = (empty_stream 0, refl)
  first_streams_are kinds.Log = (empty_stream 0, refl)
  first_streams_are kinds.RowData = (empty_stream 0, refl)
  first_streams_are kinds.BlobData = (empty_stream 0, refl)

  empty_stream_beside : (range : ℕ) (kind : StreamKind) → IsBeside generation_at nodes target [] (stream_named range kind) [] []
  empty_stream_beside range kind = go (range == 1) refl
    where
      go : (b : Bool) → (range == 1) ≡ b → IsBeside generation_at nodes target [] (stream_named range kind) [] []
      go true is = inl (record {
        there = subst (λ n. IsThere (start nodes target) (stream_named n kind)) (sym (eqb-true range 1 is)) (first_streams_are kind);
        below = below_start generation_at (stream_named range kind) nodes target;
      })
      go false is = inr (record {
        absent = record {
          nobody = record {
            opens = λ server to n g q there. absurd (let l = there.1 in omega (arith, l));
            confirms = λ server to n g q there. absurd (let l = there.1 in omega (arith, l));
            extends = λ server to stream g last pick q there. absurd (let l = there.1 in omega (arith, l));
          };
          absent = ap (λ t. if t && nat_le (kind_number kind) 3 then Some (empty_stream 0) else None) is;
        };
        none_done = refl;
        none_sent = refl;
      })

  empty_beside : (range : ℕ) → AreBeside generation_at nodes target [] range empty
  empty_beside range = record {
    m_are = tt;
    l_are = tt;
    apart = none_apart;
    metadata = λ counted. empty_stream_beside range kinds.Metadata;
    log = λ counted. empty_stream_beside range kinds.Log;
  }

  -- it stands before anything comes
  pub first_standing : Standing generation_at nodes target nothing (first_cluster nodes count target batch) (run_of batch count [])
  first_standing = record {
    moves = [];
    leads = refl;
    machines = λ range. empty;
    beside = empty_beside;
    grows = λ range. (([], refl), ([], refl));
    distinct = λ one other apart q has. (refl, refl);
    past = λ range q has. absurd (empty_number q has);
    numbers = λ server to body there. absurd (let l = there.1 in omega (arith, l));
    out = λ s range by q waits. absurd (none_waits s range by q waits);
    from_map = λ to body there. absurd (let l = there.1 in omega (arith, l));
    counted = record { next = omega arith; entries = refl };
    have = (first_streams_are, tt);
    first = first_streams_are;
    there = λ s range r held. absurd (none_held s range r held);
    lists = λ server to list q there. absurd (let l = there.1 in omega (arith, l));
    extends = λ server to stream fence last pick q there. absurd (let l = there.1 in omega (arith, l));
    incarnation = λ s range. None;
    bound = 0;
    own = λ s t j k i e f. absurd cc;
    below = λ s range i e. absurd cc;
    idle = λ i le range. (refl, refl);
    cells = refl;
    servers = first_runs;
    aside = none_aside (first_servers batch 1 count) none_split;
    keys = λ s range r job held split. absurd (none_split s range job split);
    stories = record { metadata_is = λ range. refl; log_is = λ range. refl; others = λ name other. refl };
    says = λ range n g group at. absurd cc;
    observed = λ range. tt;
    acked = λ range. tt;
    told = λ texts all. tt;
  }
    where
      first_runs : (s : ℕ) (cell : ServerCell) (st : ServerState) → entry_at (first_servers batch 1 count) s ≡ Some cell → cell.state ≡ Some st →
          Runs generation_at nodes target [] (λ range. empty) ((first_run batch count).history s) (λ range. None) s cell st
      first_runs zero cell st at up = absurd cc
      first_runs (suc n) cell st at up =
          let number : 1 + n ≡ suc n = omega arith in
          let is : cell ≡ first_server batch (suc n) = first_is batch 1 count n cell at ∙ ap (first_server batch) number in
          let state : Some (started (suc n) 1 0 first_pick batch) ≡ Some st = sym (ap (λ (z : ServerCell). z.state) is) ∙ up in
          let same : started (suc n) 1 0 first_pick batch ≡ st = cc in
          record {
            server = ap (λ (z : ServerState). z.context.server) (sym same);
            session = ap (λ (z : ServerState). z.context.session) (sym same) ∙ sym (ap (λ (z : ServerCell). z.session) is);
            ascending = subst (λ (z : ServerState). AreAscending z.ranges) same tt;
            held = λ range r found. absurd (let e : None ≡ Some r = ap (λ (z : ServerState). range_of z.ranges range) same ∙ found in cc);
            splits_ascending = subst (λ (z : ServerState). AreAscending z.splits) same tt;
            split_held = λ range job found. absurd (let e : None ≡ Some job = ap (λ (z : ServerState). split_of z.splits range) same ∙ found in cc);
          }

      none_held : (s range : ℕ) (r : RangeState) → HeldAt (first_servers batch 1 count) s range r → ⊥
      none_held s range r held = let h = (first_runs s held.cell held.state held.there held.up).held range r held.found in let z : None ≡ Some h.incarnation = h.is in cc

      none_split : (s range : ℕ) (job : SplitJob) → SplitAt (first_servers batch 1 count) s range job → ⊥
      none_split s range job split =
          let h = (first_runs s split.cell split.state split.there split.up).split_held range job split.found in
          none_held s range h.0 (record { cell = split.cell; state = split.state; there = split.there; up = split.up; found = h.1 })

      none_waits : (s range : ℕ) (by : Waiter) (q : ReqNo) → Waits (first_servers batch 1 count) s range by q → ⊥
      none_waits s range OfRows q waits = none_held s range waits.0 waits.1
      none_waits s range OfSeal q waits = none_split s range waits.0 waits.1
      none_waits s range OfCall q waits = none_split s range waits.0 waits.1
