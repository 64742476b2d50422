-- The append job of a client is turns of its incarnation.
use Rattle.std.proofs.Common.{◌≡◌, ℕ, suc, ◌-◌, ◌<◌, List, [], ◌∷◌, length, true, false, Option, Some, None, refl, sym, ap, ◌∙◌, subst, inl, arith}
use Rattle.wire.specs.declared.actor.ReqNo.{ReqNo}
use Rattle.wire.specs.declared.packet.Packet.{Packet}
use Rattle.wire.specs.declared.streams.StreamExtent.{StreamExtent}
use Rattle.wire.specs.declared.streams.StreamName.{StreamName}
use Rattle.replica.specs.Groups.{Group}
use Rattle.client.specs.declared.job.Job.{Job}
use Rattle.client.specs.declared.job.Job.TheVariants as jobs
use Rattle.client.specs.Client.{ClientState, last_extent, append_at, give_up_job}
use Rattle.model_streams.specs.StreamSystem.{StreamSystem}
use Rattle.model_histories.specs.StreamMachine as machine
use Rattle.model_histories.specs.ServerTurns as turns
use Rattle.laws_stream_machine.specs.Refinement.{Purpose, Sent, purpose_of, Seals, Appends, Extends}
use Rattle.laws_ranges.specs.Serves.{Stand, after_turns, known, LastIs, is_live, number_of, IsTold, SentIs, ClosingIs, GrowingIs, ServesBy, ServingIs, Listed, sent_with, Goes}
use Rattle.laws_ranges.specs.Quiet.{Quietly, FormsOnly}
use Rattle.laws_ranges.proofs.MoreKnown.{told_on}
use Rattle.laws_ranges.proofs.MachineSteps.{newest, wider_turns}
use Rattle.laws_ranges.proofs.ClientAsks.{none_last, some_last, at_last, append_asked, seal_asked, extend_asked}

module _ (generation : ℕ → ℕ) (name : StreamName) (w : StreamSystem) (i : ℕ) where
  -- the place does not matter, only the state
  pub told_here : (x : Stand) (p : turns.Phase Group) (sent : List Sent) (c : ClientState) → IsTold generation name w i x sent c →
      IsTold generation name w i (record { state = x.state; phase = p }) sent c
  told_here x p sent c t = record { stream = t.stream; under = t.under; tells = t.tells }

  pub told_after : (x : Stand) (ts : List (turns.Turn Group)) (sent : List Sent) (q : ReqNo) (o : Option Purpose) → purpose_of sent q ≡ None → (c : ClientState) →
      IsTold generation name w i x sent c → IsTold generation name w i (after_turns generation i x ts) (sent_with q o sent) c
  told_after x ts sent q o fresh c t = told_on generation name w w i x (after_turns generation i x ts) sent (sent_with q o sent) (wider_turns generation i name w x ts sent q o fresh) c t

  -- turns from a known phase, and perhaps a request
  pub turn_told : (sent : List Sent) (q : ReqNo) → purpose_of sent q ≡ None → (x : Stand) (p : turns.Phase Group) (ts : List (turns.Turn Group)) (o : Option Purpose) (c : ClientState) → IsTold generation name w i x sent c →
      IsTold generation name w i (after_turns generation i (record { state = x.state; phase = p }) ts) (sent_with q o sent) c
  turn_told sent q fresh x p ts o c told = told_after (record { state = x.state; phase = p }) ts sent q o fresh c (told_here x p sent c told)

  -- where the incarnation stands in a known phase
  pub at_phase : (x : Stand) (p : turns.Phase Group) (sent : List Sent) (q : ReqNo) (Then : Stand → List Sent → Type 0) (packet : Option _) → x.phase ≡ p →
      Goes generation name w i (record { state = x.state; phase = p }) sent q Then packet → Goes generation name w i x sent q Then packet
  at_phase x p sent q Then packet e g = subst (λ z. Goes generation name w i (record { state = x.state; phase = z }) sent q Then packet) (sym e) g

  -- it goes so, by turns that are known
  abbrev pub GoesBy : Stand → List Sent → ReqNo → (Stand → List Sent → Type 0) → Option Packet → (Stand → List (turns.Turn Group) → Type 0) → Type 0
  GoesBy x sent q Then packet Made = (g : Goes generation name w i x sent q Then packet) × Made x g.list

  pub at_phase_by : (x : Stand) (p : turns.Phase Group) (sent : List Sent) (q : ReqNo) (Then : Stand → List Sent → Type 0) (packet : Option Packet) (Made : Stand → List (turns.Turn Group) → Type 0) → x.phase ≡ p →
      GoesBy (record { state = x.state; phase = p }) sent q Then packet Made → GoesBy x sent q Then packet Made
  at_phase_by x p sent q Then packet Made e g = subst (λ z. GoesBy (record { state = x.state; phase = z }) sent q Then packet Made) (sym e) g

  abbrev Serves : ClientState → Stand → List Sent → Type 0
  Serves c = λ y more. ServingIs generation name w i y more c

  -- nothing happens
  pub rests : (x : Stand) (sent : List Sent) (q : ReqNo) (Then : Stand → List Sent → Type 0) → Then x sent → Goes generation name w i x sent q Then None
  rests x sent q Then t = record { list = []; allowed = tt; purpose = None; then = t; asked = tt }

  pub rests_by : (x : Stand) (sent : List Sent) (q : ReqNo) (Then : Stand → List Sent → Type 0) → Then x sent → GoesBy x sent q Then None Quietly
  rests_by x sent q Then t = (record { list = []; allowed = tt; purpose = None; then = t; asked = tt }, tt)

  -- where no extent is known, none was there before
  none_known : {x : Stand} {sent : List Sent} (c : ClientState) → IsTold generation name w i x sent c → last_extent c.extents ≡ None → known c ≡ 0
  none_known {x} {sent} c told e =
      let none : length c.extents ≡ 0 = none_last c.extents e in
      let first = told.tells.ends none in
      omega (arith, none, first)

  -- ---- its client

  -- the client with the server's pick
  picked : (x : Stand) (sent : List Sent) (c : ClientState) (j : Job) (pick : _) → IsTold generation name w i x sent c → ServesBy generation name w i x sent c j →
      ServesBy generation name w i x sent (record c { pick = pick }) j
  picked x sent c jobs.Idle pick told b = b
  picked x sent c (jobs.Sent e v) pick told b = record { index = b.index; append = b.append; last = record { places = b.last.places; last = b.last.last; index_is = b.last.index_is }; stands = b.stands; for = b.for; fact = b.fact }
  picked x sent c (jobs.Closing e v) pick told b = record { index = b.index; append = b.append; last = record { places = b.last.places; last = b.last.last; index_is = b.last.index_is }; stands = b.stands; for = b.for }
  picked x sent c (jobs.Growing last v) pick told b = record { append = b.append; all_sealed = b.all_sealed; stands = b.stands; for = b.for; last_is = b.last_is; fact = b.fact }
  picked x sent c (jobs.Checking e v) pick told b = absurd b
  picked x sent c (jobs.Shutting e v) pick told b = absurd b
  picked x sent c (jobs.Reading e places upto sealed place v) pick told b = absurd b

  pub picked_serving : (x : Stand) (sent : List Sent) (c : ClientState) (pick : _) → ServingIs generation name w i x sent c → ServingIs generation name w i x sent (record c { pick = pick })
  picked_serving x sent c pick b = record { told = record { stream = b.told.stream; under = b.told.under; tells = b.told.tells }; job = picked x sent c c.job pick b.told b.job }

  module _ (listed : Listed w name) (sent : List Sent) (q : ReqNo) (fresh : purpose_of sent q ≡ None) where
    -- ---- a group is formed

    module _ (s : machine.MachineState Group) (c : ClientState) where
      abbrev Stood : turns.Phase Group → Stand
      Stood p = record { state = s; phase = p }

      abbrev Formed : turns.Phase Group → Stand
      Formed p = after_turns generation i (Stood p) (turns.Forms c.group ∷ [])

      form_none : (o : Option StreamExtent) → last_extent c.extents ≡ o → o ≡ None → IsTold generation name w i (Stood (turns.Serving 0 false)) sent c →
          GoesBy (Stood (turns.Serving 0 false)) sent q (Serves (append_at c q o).after) (append_at c q o).packet (FormsOnly c.group)
      form_none (Some y) e absent told = absurd (cc)
      form_none None e absent told =
          let ts : List (turns.Turn Group) = turns.Forms c.group ∷ [] in
          let zero_is : known c ≡ 0 = none_known c told e in
          let p : Purpose = Extends i (known c) in
          let y : Stand = Formed (turns.Serving 0 false) in
          let more : List Sent = record { request = q; purpose = p } ∷ sent in
          let fact : machine.In (machine.AsksExtend i (known c)) y.state.facts = subst (λ z. machine.In (machine.AsksExtend i z) y.state.facts) (sym zero_is) (inl refl) in
          let here : IsTold generation name w i y more c = told_after (Stood (turns.Serving 0 false)) ts sent q (Some p) fresh c told in (
            record {
              list = ts;
              allowed = (tt, tt);
              purpose = Some p;
              then = record {
                told = record { stream = here.stream; under = here.under; tells = here.tells };
                job = record {
                  append = length s.story;
                  all_sealed = ap is_live e;
                  stands = ap (λ n. turns.Growing n (length s.story) c.group) (sym zero_is);
                  for = newest q p sent;
                  last_is = sym (ap number_of e);
                  fact = fact;
                };
              };
              asked = extend_asked generation name w i y more listed c here q None c.pick (sym (ap number_of e)) (newest q p sent) fact;
            },
            refl,
          )

      form_open : (index : ℕ) (z : StreamExtent) → last_extent c.extents ≡ Some z → z.length ≡ None → suc index ≡ known c →
          IsTold generation name w i (Stood (turns.Serving (suc index) true)) sent c →
          GoesBy (Stood (turns.Serving (suc index) true)) sent q (Serves (append_at c q (Some (record z { length = None }))).after) (append_at c q (Some (record z { length = None }))).packet (FormsOnly c.group)
      form_open index z e unsealed at told =
          let ts : List (turns.Turn Group) = turns.Forms c.group ∷ [] in
          let p : Purpose = Appends i index (length s.story) c.group in
          let y : Stand = Formed (turns.Serving (suc index) true) in
          let more : List Sent = record { request = q; purpose = p } ∷ sent in
          let last : LastIs c z.extent index = record { places = z.places; last = e ∙ ap (λ k. Some (record z { length = k })) unsealed; index_is = at } in
          let here : IsTold generation name w i y more c = told_after (Stood (turns.Serving (suc index) true)) ts sent q (Some p) fresh c told in (
            record {
              list = ts;
              allowed = (tt, tt);
              purpose = Some p;
              then = record {
                told = record { stream = here.stream; under = here.under; tells = here.tells };
                job = record {
                  index = index;
                  append = length s.story;
                  last = record { places = last.places; last = last.last; index_is = last.index_is };
                  stands = refl;
                  for = newest q p sent;
                  fact = inl refl;
                };
              };
              asked = append_asked generation name w i y more listed c here q z.extent index (length s.story) last (newest q p sent) (inl refl);
            },
            refl,
          )

      form_shut : (index : ℕ) (z : StreamExtent) (l : ℕ) → last_extent c.extents ≡ Some z → z.length ≡ Some l → suc index ≡ known c →
          IsTold generation name w i (Stood (turns.Serving (suc index) false)) sent c →
          GoesBy (Stood (turns.Serving (suc index) false)) sent q (Serves (append_at c q (Some (record z { length = Some l }))).after) (append_at c q (Some (record z { length = Some l }))).packet (FormsOnly c.group)
      form_shut index z l e sealed at told =
          let ts : List (turns.Turn Group) = turns.Forms c.group ∷ [] in
          let p : Purpose = Extends i (known c) in
          let y : Stand = Formed (turns.Serving (suc index) false) in
          let more : List Sent = record { request = q; purpose = p } ∷ sent in
          let fact : machine.In (machine.AsksExtend i (known c)) y.state.facts = subst (λ n. machine.In (machine.AsksExtend i n) y.state.facts) at (inl refl) in
          let here : IsTold generation name w i y more c = told_after (Stood (turns.Serving (suc index) false)) ts sent q (Some p) fresh c told in
          let closed : last_extent c.extents ≡ Some (record z { length = Some l }) = e ∙ ap (λ k. Some (record z { length = k })) sealed in (
            record {
              list = ts;
              allowed = (tt, tt);
              purpose = Some p;
              then = record {
                told = record { stream = here.stream; under = here.under; tells = here.tells };
                job = record {
                  append = length s.story;
                  all_sealed = ap is_live closed;
                  stands = ap (λ n. turns.Growing n (length s.story) c.group) at;
                  for = newest q p sent;
                  last_is = sym (ap number_of closed);
                  fact = fact;
                };
              };
              asked = extend_asked generation name w i y more listed c here q (Some z.extent) c.pick (sym (ap number_of closed)) (newest q p sent) fact;
            },
            refl,
          )

    -- ---- a job gives up

    module _ (x : Stand) (c : ClientState) (told : IsTold generation name w i x sent c) where
      -- a new request seals the extent
      pub closes_goes : (e w0 : _) → SentIs generation name w i x sent c e w0 →
          GoesBy x sent q (Serves (record c { job = jobs.Closing e q })) (give_up_job c q (jobs.Sent e w0)).packet Quietly
      closes_goes e w0 b =
          let ts : List (turns.Turn Group) = turns.Fails ∷ [] in
          let p : Purpose = Seals i b.index in
          let at : Stand = record { state = x.state; phase = turns.Sent (suc b.index) b.append c.group } in
          let y : Stand = after_turns generation i at ts in
          let more : List Sent = record { request = q; purpose = p } ∷ sent in
          let here : IsTold generation name w i y more c = told_after at ts sent q (Some p) fresh c (told_here x (turns.Sent (suc b.index) b.append c.group) sent c told) in
          at_phase_by x (turns.Sent (suc b.index) b.append c.group) sent q (Serves (record c { job = jobs.Closing e q })) (give_up_job c q (jobs.Sent e w0)).packet Quietly b.stands (
            record {
              list = ts;
              allowed = (tt, tt);
              purpose = Some p;
              then = record {
                told = record { stream = here.stream; under = here.under; tells = here.tells };
                job = record {
                  index = b.index;
                  append = b.append;
                  last = record { places = b.last.places; last = b.last.last; index_is = b.last.index_is };
                  stands = refl;
                  for = newest q p sent;
                };
              };
              asked = seal_asked generation name w i y more listed c here q e b.index (at_last generation name w i y more c e b.index here b.last) (newest q p sent);
            },
            (tt, tt),
          )

      closing_goes : (e w0 : _) → ClosingIs generation name w i x sent c e w0 →
          GoesBy x sent q (Serves (record c { job = jobs.Closing e w0 })) (give_up_job c q (jobs.Closing e w0)).packet Quietly
      closing_goes e w0 b = (
        record {
          list = [];
          allowed = tt;
          purpose = None;
          then = record {
            told = record { stream = told.stream; under = told.under; tells = told.tells };
            job = record {
              index = b.index;
              append = b.append;
              last = record { places = b.last.places; last = b.last.last; index_is = b.last.index_is };
              stands = b.stands;
              for = b.for;
            };
          };
          asked = seal_asked generation name w i x sent listed c told w0 e b.index (at_last generation name w i x sent c e b.index told b.last) b.for;
        },
        tt,
      )

      growing_goes : (last w0 : _) → GrowingIs generation name w i x sent c last w0 →
          GoesBy x sent q (Serves (record c { job = jobs.Growing last w0 })) (give_up_job c q (jobs.Growing last w0)).packet Quietly
      growing_goes last w0 b = (
        record {
          list = [];
          allowed = tt;
          purpose = None;
          then = record {
            told = record { stream = told.stream; under = told.under; tells = told.tells };
            job = record { append = b.append; all_sealed = b.all_sealed; stands = b.stands; for = b.for; last_is = b.last_is; fact = b.fact };
          };
          asked = extend_asked generation name w i x sent listed c told w0 last c.pick b.last_is b.for b.fact;
        },
        tt,
      )

      pub give_up_goes : (j : Job) → c.job ≡ j → ServesBy generation name w i x sent c j →
          GoesBy x sent q (Serves (give_up_job c q j).after) (give_up_job c q j).packet Quietly
      give_up_goes jobs.Idle e b = rests_by x sent q (Serves c) (record { told = told; job = subst (λ j. ServesBy generation name w i x sent c j) (sym e) b })
      give_up_goes (jobs.Sent n w0) e b = closes_goes n w0 b
      give_up_goes (jobs.Closing n w0) e b = closing_goes n w0 b
      give_up_goes (jobs.Growing last w0) e b = growing_goes last w0 b
      give_up_goes (jobs.Checking n w0) e b = absurd b
      give_up_goes (jobs.Shutting n w0) e b = absurd b
      give_up_goes (jobs.Reading n places upto sealed place w0) e b = absurd b

      -- ---- a group is formed, wherever the last extent stands

      live_goes : (z : StreamExtent) (o : Option ℕ) → last_extent c.extents ≡ Some z → z.length ≡ o → x.phase ≡ turns.Serving (known c) (is_live (Some z)) →
          GoesBy x sent q (Serves (append_at c q (Some (record z { length = o }))).after) (append_at c q (Some (record z { length = o }))).packet (FormsOnly c.group)
      live_goes z None e l idle =
          let inside : 0 < length c.extents = some_last c z e in
          let at : suc (known c - 1) ≡ known c = omega (arith, inside) in
          let p : turns.Phase Group = turns.Serving (suc (known c - 1)) true in
          at_phase_by x p sent q _ _ (FormsOnly c.group) (idle ∙ ap (λ k. turns.Serving (known c) (is_live (Some (record z { length = k })))) l ∙ ap (λ k. turns.Serving k true) (sym at))
          (form_open x.state c (known c - 1) z e l at (told_here x p sent c told))
      live_goes z (Some l) e s idle =
          let inside : 0 < length c.extents = some_last c z e in
          let at : suc (known c - 1) ≡ known c = omega (arith, inside) in
          let p : turns.Phase Group = turns.Serving (suc (known c - 1)) false in
          at_phase_by x p sent q _ _ (FormsOnly c.group) (idle ∙ ap (λ k. turns.Serving (known c) (is_live (Some (record z { length = k })))) s ∙ ap (λ k. turns.Serving k false) (sym at))
          (form_shut x.state c (known c - 1) z l e s at (told_here x p sent c told))

      pub append_goes : (o : Option StreamExtent) → last_extent c.extents ≡ o → x.phase ≡ turns.Serving (known c) (is_live o) →
          GoesBy x sent q (Serves (append_at c q o).after) (append_at c q o).packet (FormsOnly c.group)
      append_goes None e idle =
          let none : known c ≡ 0 = none_known c told e in
          at_phase_by x (turns.Serving 0 false) sent q _ _ (FormsOnly c.group) (idle ∙ ap (λ k. turns.Serving k false) none) (form_none x.state c None e refl (told_here x (turns.Serving 0 false) sent c told))
      append_goes (Some z) e idle = live_goes z z.length e refl idle
