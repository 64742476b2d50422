-- The load of a stream is turns of its incarnation.
use Rattle.std.proofs.Common.{◌≡◌, ℕ, ◌+◌, List, [], ◌∷◌, Bool, true, false, Option, Some, None, refl, sym, ap, ◌∙◌, subst, inl, inr, arith}
use Rattle.block_types.specs.declared.record.Nodes.{Nodes}
use Rattle.wire.specs.declared.actor.ReqNo.{ReqNo}
use Rattle.wire.specs.declared.packet.Packet.{Packet}
use Rattle.wire.specs.declared.streams.StreamName.{StreamName}
use Rattle.replica.specs.Groups.{Group}
use Rattle.client.specs.declared.job.Job.{Job}
use Rattle.client.specs.declared.job.Job.TheVariants as jobs
use Rattle.client.specs.declared.job.Place.{Place}
use Rattle.client.specs.Client.{ClientState, last_extent, sealed_last, checks_last, shuts, reads_groups, ends_checked, ends_sealed, ends, give_up_job, next_place}
use Rattle.client.specs.declared.job.News.TheVariants as news
use Rattle.model_streams.specs.StreamSystem.{StreamSystem}
use Rattle.model_histories.specs.Story.{Copy}
use Rattle.model_histories.specs.StreamMachine as machine
use Rattle.model_histories.specs.ServerTurns as turns
use Rattle.laws_stream_machine.specs.Refinement.{Purpose, Sent, purpose_of, Checks, Seals, Reads, IsAt}
use Rattle.laws_ranges.specs.Serves.{Stand, after_turns, known, LastIs, is_live, IsTold, CheckingIs, ShuttingIs, FoundIs, Readable, WasSealed, WasFound, WasShut, ReadingIs, LoadsBy, LoadingIs, UnreadIs, Listed, Goes}
use Rattle.laws_ranges.proofs.MachineSteps.{newest}
use Rattle.laws_ranges.proofs.ClientAsks.{at_last, check_asked, seal_asked, read_asked}
use Rattle.laws_ranges.proofs.ToldExtents.{sealed_length, sealed_end, told_sealed}
use Rattle.laws_ranges.proofs.AppendJob.{turn_told, told_after, at_phase, rests}

-- a last extent that is open is there
pub live_last : (c : ClientState) (e index : ℕ) → LastIs c e index → is_live (last_extent c.extents) ≡ true
live_last c e index last = ap is_live last.last

module _ (generation : ℕ → ℕ) (name : StreamName) (w : StreamSystem) (i : ℕ) (x : Stand) (sent : List Sent) where
  -- the load goes on from where it stands, with nothing out and nothing sent
  pub record LoadsNow (c : ClientState) (packet : Option Packet) : Type 0 where
    pub loading : LoadingIs generation name w i x sent c
    pub idle : c.job ≡ jobs.Idle
    pub silent : packet ≡ None

  -- what is read of an open last extent was checked
  pub found_of : (c : ClientState) → Readable generation name w i x sent c → is_live (last_extent c.extents) ≡ true → FoundIs generation name w i x sent c
  found_of c (WasSealed live stands) open_one = absurd (let z : false ≡ true = sym live ∙ open_one in cc)
  found_of c (WasFound f) open_one = f
  found_of c (WasShut index index_is live stands) open_one = absurd (let z : false ≡ true = sym live ∙ open_one in cc)

module _ (generation : ℕ → ℕ) (name : StreamName) (w : StreamSystem) (i : ℕ) (listed : Listed w name) (sent : List Sent) (q : ReqNo) (fresh : purpose_of sent q ≡ None) (x : Stand) where
  abbrev Loads : ClientState → Stand → List Sent → Type 0
  Loads c = λ y more. LoadingIs generation name w i y more c

  -- ---- the length of the last extent is checked

  pub checks_goes : (c : ClientState) (e index : ℕ) (places : Nodes) → UnreadIs generation name w i x sent c → LastIs c e index →
      Goes generation name w i x sent q (Loads (record c { job = jobs.Checking e q })) (checks_last c e places q).packet
  checks_goes c e index places b last =
      let ts : List (turns.Turn Group) = turns.LastOpen index ∷ [] in
      let o : Purpose = Checks i index in
      let y : Stand = after_turns generation i (record { state = x.state; phase = turns.Opening }) ts in
      let more : List Sent = record { request = q; purpose = o } ∷ sent in
      let here : IsTold generation name w i y more c = turn_told generation name w i sent q fresh x turns.Opening ts (Some o) c b.told in
      at_phase generation name w i x turns.Opening sent q _ _ b.stands
      (record {
        list = ts;
        allowed = (subst (λ n. machine.In (machine.Opened i n) x.state.facts) (sym last.index_is) b.opened, tt);
        purpose = Some o;
        then = record {
          told = record { stream = here.stream; under = here.under; tells = here.tells };
          opened = inr b.opened;
          job = record {
            index = index;
            last = record { places = last.places; last = last.last; index_is = last.index_is };
            stands = refl;
            for = newest q o sent;
            fact = inl refl;
          };
        };
        asked = check_asked generation name w i y more listed c here q e index last (newest q o sent) (inl refl);
      })

  -- ---- it was checked, or is sealed

  -- the check found a length
  pub found_goes : (c : ClientState) (e found : ℕ) (r : ReqNo) → LoadingIs generation name w i x sent c → (b : CheckingIs generation name w i x sent c e r) → (stood : List (Copy Group)) →
      machine.In (machine.Checked i b.index stood (machine.base b.index + found)) x.state.facts → LoadsNow generation name w i x sent (ends_checked c e found).after None
  found_goes c e found r l b stood fact =
      record {
        idle = refl;
        silent = refl;
        loading = record {
          told = record { stream = l.told.stream; under = l.told.under; tells = l.told.tells };
          opened = l.opened;
          job = WasFound (record {
            e = e;
            index = b.index;
            found = found;
            stood = stood;
            last = record { places = b.last.places; last = b.last.last; index_is = b.last.index_is };
            stands = b.stands;
            checked = refl;
            fact = fact;
          });
        };
      }

  -- it fails: the extent is sealed
  pub shuts_goes : (c : ClientState) (e index : ℕ) → IsTold generation name w i x sent c → machine.In (machine.Opened i (known c)) x.state.facts → LastIs c e index → x.phase ≡ turns.Checking index →
      Goes generation name w i x sent q (Loads (record c { job = jobs.Shutting e q })) (shuts c e q).packet
  shuts_goes c e index told opened last stands =
      let ts : List (turns.Turn Group) = turns.Fails ∷ [] in
      let o : Purpose = Seals i index in
      let y : Stand = after_turns generation i (record { state = x.state; phase = turns.Checking index }) ts in
      let more : List Sent = record { request = q; purpose = o } ∷ sent in
      let here : IsTold generation name w i y more c = turn_told generation name w i sent q fresh x (turns.Checking index) ts (Some o) c told in
      at_phase generation name w i x (turns.Checking index) sent q _ _ stands
      (record {
        list = ts;
        allowed = (tt, tt);
        purpose = Some o;
        then = record {
          told = record { stream = here.stream; under = here.under; tells = here.tells };
          opened = opened;
          job = record {
            index = index;
            last = record { places = last.places; last = last.last; index_is = last.index_is };
            stands = refl;
            for = newest q o sent;
          };
        };
        asked = seal_asked generation name w i y more listed c here q e index (at_last generation name w i y more c e index here last) (newest q o sent);
      })

  -- it is sealed
  pub sealed_goes : (c : ClientState) (e l : ℕ) (r : ReqNo) → LoadingIs generation name w i x sent c → (b : ShuttingIs generation name w i x sent c e r) → (y : machine.SealedExtent Group) →
      machine.shut_at b.index x.state.core.shut ≡ Some y → y.end ≡ machine.base b.index + l → LoadsNow generation name w i x sent (ends_sealed c e l).after None
  sealed_goes c e l r a b y shut end =
      let now : IsTold generation name w i x sent (record c { extents = sealed_last c.extents l }) = told_sealed generation name w i x sent c e b.index l a.told b.last y shut end in
      record {
        idle = refl;
        silent = refl;
        loading = record {
          told = record { stream = now.stream; under = now.under; tells = now.tells };
          opened = subst (λ n. machine.In (machine.Opened i (c.base + n)) x.state.facts) (sym (sealed_length c e b.index l b.last)) a.opened;
          job = WasShut b.index (b.last.index_is ∙ ap (λ k. c.base + k) (sym (sealed_length c e b.index l b.last))) (ap is_live (sealed_end c e b.index l b.last)) b.stands;
        };
      }

  -- ---- reading

  same_readable : (c : ClientState) (j : Job) (group : Group) → Readable generation name w i x sent c → Readable generation name w i x sent (record c { job = j; group = group })
  same_readable c j group (WasSealed live stands) = WasSealed live stands
  same_readable c j group (WasFound f) =
      WasFound (record {
        e = f.e;
        index = f.index;
        found = f.found;
        stood = f.stood;
        last = record { places = f.last.places; last = f.last.last; index_is = f.last.index_is };
        stands = f.stands;
        checked = f.checked;
        fact = f.fact;
      })
  same_readable c j group (WasShut index index_is live stands) = WasShut index index_is live stands

  more_readable : (c : ClientState) (o : Purpose) → Readable generation name w i x sent c → Readable generation name w i x (record { request = q; purpose = o } ∷ sent) c
  more_readable c o (WasSealed live stands) = WasSealed live stands
  more_readable c o (WasFound f) =
      WasFound (record { e = f.e; index = f.index; found = f.found; stood = f.stood; last = f.last; stands = f.stands; checked = f.checked; fact = f.fact })
  more_readable c o (WasShut index index_is live stands) = WasShut index index_is live stands

  -- groups are asked for
  pub reads_goes : (c : ClientState) (e index upto : ℕ) (places : Nodes) (sealed : Bool) (place : Place) → IsTold generation name w i x sent c →
      machine.In (machine.Opened i (known c)) x.state.facts → Readable generation name w i x sent c → IsAt w name index e → (sealed ≡ false → LastIs c e index) →
      Goes generation name w i x sent q (Loads (record c { job = jobs.Reading e places upto sealed place q })) (reads_groups c e places upto sealed place q).packet
  reads_goes c e index upto places sealed place told opened readable at is_last =
      let o : Purpose = Reads i index upto in
      let more : List Sent = record { request = q; purpose = o } ∷ sent in
      let here : IsTold generation name w i x more c = told_after generation name w i x [] sent q (Some o) fresh c told in
      let j : Job = jobs.Reading e places upto sealed place q in
      record {
        list = [];
        allowed = tt;
        purpose = Some o;
        then = record {
          told = record { stream = here.stream; under = here.under; tells = here.tells };
          opened = opened;
          job = record {
            index = index;
            at = at;
            for = newest q o sent;
            is_last = λ u. (let z : LastIs c e index = is_last u in record { places = z.places; last = z.last; index_is = z.index_is });
            readable = more_readable (record c { job = j }) o (same_readable c j c.group readable);
          };
        };
        asked = read_asked generation name w i x more listed c here q e index upto sealed at (newest q o sent);
      }

  -- groups have come
  pub groups_goes : (c : ClientState) (e upto : ℕ) → LoadingIs generation name w i x sent c → Readable generation name w i x sent c →
      LoadsNow generation name w i x sent (ends c (news.Content e upto)).after None
  groups_goes c e upto l readable =
      record {
        idle = refl;
        silent = refl;
        loading = record {
          told = record { stream = l.told.stream; under = l.told.under; tells = l.told.tells };
          opened = l.opened;
          job = same_readable c jobs.Idle [] readable;
        };
      }

  -- ---- giving up

  give_up_reading : (c : ClientState) (e upto : ℕ) (places : Nodes) (sealed : Bool) (place : Place) (r : ReqNo) → IsTold generation name w i x sent c →
      machine.In (machine.Opened i (known c)) x.state.facts → ReadingIs generation name w i x sent c e upto sealed r →
      Goes generation name w i x sent q (Loads (give_up_job c q (jobs.Reading e places upto sealed place r)).after) (give_up_job c q (jobs.Reading e places upto sealed place r)).packet
  give_up_reading c e upto places true place r told opened b =
      let j : Job = jobs.Reading e places upto true (next_place place) r in
      record {
        list = [];
        allowed = tt;
        purpose = None;
        then = record {
          told = record { stream = told.stream; under = told.under; tells = told.tells };
          opened = opened;
          job = record { index = b.index; at = b.at; for = b.for; is_last = λ u. absurd (cc); readable = same_readable c j c.group b.readable };
        };
        asked = read_asked generation name w i x sent listed c told r e b.index upto true b.at b.for;
      }
  give_up_reading c e upto places false place r told opened b =
      let last : LastIs c e b.index = b.is_last refl in
      let f : FoundIs generation name w i x sent c = found_of generation name w i x sent c b.readable (live_last c e b.index last) in
      let same : f.index ≡ b.index = omega (arith, f.last.index_is, last.index_is) in
      shuts_goes c e b.index told opened last (f.stands ∙ ap turns.Checking same)

  pub give_up_loading : (c : ClientState) (j : Job) → c.job ≡ j → IsTold generation name w i x sent c → machine.In (machine.Opened i (known c)) x.state.facts → LoadsBy generation name w i x sent c j →
      Goes generation name w i x sent q (Loads (give_up_job c q j).after) (give_up_job c q j).packet
  give_up_loading c jobs.Idle e told opened b = rests generation name w i x sent q _ (record { told = told; opened = opened; job = subst (λ j. LoadsBy generation name w i x sent c j) (sym e) b })
  give_up_loading c (jobs.Sent n r) e told opened b = absurd b
  give_up_loading c (jobs.Closing n r) e told opened b = absurd b
  give_up_loading c (jobs.Growing last r) e told opened b = absurd b
  give_up_loading c (jobs.Checking n r) e told opened b = shuts_goes c n b.index told opened b.last b.stands
  give_up_loading c (jobs.Shutting n r) e told opened b =
      record {
        list = [];
        allowed = tt;
        purpose = None;
        then = record {
          told = record { stream = told.stream; under = told.under; tells = told.tells };
          opened = opened;
          job = record { index = b.index; last = record { places = b.last.places; last = b.last.last; index_is = b.last.index_is }; stands = b.stands; for = b.for };
        };
        asked = seal_asked generation name w i x sent listed c told r n b.index (at_last generation name w i x sent c n b.index told b.last) b.for;
      }
  give_up_loading c (jobs.Reading n places upto sealed place r) e told opened b = give_up_reading c n upto places sealed place r told opened b
