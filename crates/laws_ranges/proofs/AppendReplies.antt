-- What an answer makes of the append job of a client is turns of its incarnation.
use Rattle.std.proofs.Common.{◌≡◌, ℕ, suc, ◌+◌, ◌-◌, List, [], ◌∷◌, ◌++◌, true, Option, Some, None, refl, sym, ap, ◌∙◌, subst, inl, arith}
use Rattle.block_types.specs.declared.record.Nodes.{Nodes}
use Rattle.wire.specs.declared.actor.ReqNo.{ReqNo}
use Rattle.wire.specs.declared.body.AppendBody.TheVariants as appends
use Rattle.wire.specs.declared.body.SealBody.TheVariants as seals
use Rattle.wire.specs.declared.body.StreamBody.TheVariants as streams
use Rattle.wire.specs.declared.body.Body.{Body}
use Rattle.wire.specs.declared.refusal.Refusal.{Refusal}
use Rattle.wire.specs.declared.refusal.Refusal.TheVariants as refusals
use Rattle.wire.specs.declared.streams.StreamExtent.{StreamExtent}
use Rattle.wire.specs.declared.streams.StreamName.{StreamName}
use Rattle.replica.specs.Groups.{Group, size}
use Rattle.replica.proofs.Lengths.{group_size-size}
use Rattle.client.specs.declared.job.Job.{Job}
use Rattle.client.specs.declared.job.Job.TheVariants as jobs
use Rattle.client.specs.declared.job.News.TheVariants as news
use Rattle.client.specs.Client.{ClientState, Outcome, last_extent, sealed_last, waits, closes, append_refused, reply_rule, grows_behind, appends_again, ends}
use Rattle.model_streams.specs.StreamSystem.{StreamSystem}
use Rattle.model_histories.specs.StreamMachine as machine
use Rattle.model_histories.specs.ServerTurns as turns
use Rattle.laws_stream_machine.specs.Refinement.{Purpose, Sent, purpose_of, Seals, Appends, Extends, IsAt, Means, AppendMeans, SealMeans, StreamMeans}
use Rattle.laws_ranges.specs.Serves.{Stand, after_turns, known, LastIs, is_live, number_of, IsTold, SentIs, ClosingIs, GrowingIs, ServesBy, ServingIs, Listed, ServesAfter, IsCounted}
use Rattle.laws_ranges.specs.Quiet.{AppendsOnly, Quietly, MadeBy}
use Rattle.laws_ranges.proofs.MachineSteps.{newest, is_within, for_same}
use Rattle.laws_ranges.proofs.ClientAsks.{append_asked, extend_asked}
use Rattle.laws_loads.proofs.Renaming.{more_length}
use Rattle.laws_ranges.proofs.ToldExtents.{closed, sealed_length, sealed_end, told_sealed, told_more, more_last}
use Rattle.laws_ranges.proofs.ClientReplies.{ByJob, reply_takes}
use Rattle.laws_ranges.proofs.AppendJob.{GoesBy, told_here, told_after, at_phase_by, rests_by, closes_goes}

module _ (generation : ℕ → ℕ) (name : StreamName) (w : StreamSystem) (i : ℕ) (listed : Listed w name) (sent : List Sent) (q : ReqNo) (fresh : purpose_of sent q ≡ None) (x : Stand) where
  -- what an outcome of a client is
  abbrev pub Went : ClientState → Outcome → Type 0
  Went c o = GoesBy generation name w i x sent q (ServesAfter generation name w i sent o.news o.after) o.packet (MadeBy c o.news)

  module _ (c : ClientState) (told : IsTold generation name w i x sent c) where
    still : ServesBy generation name w i x sent c c.job → Went c (waits c)
    still b = rests_by generation name w i x sent q _ (record { told = told; job = b })

    closes_at : (e : ℕ) (r : ReqNo) → SentIs generation name w i x sent c e r → Went c (closes c e q)
    closes_at e r b = closes_goes generation name w i listed sent q fresh x c told e r b

    refused_goes : (e : ℕ) (r : ReqNo) (why : Refusal) → SentIs generation name w i x sent c e r → Went c (waits c) → Went c (append_refused c q e why)
    refused_goes e r refusals.NotOpen b k = closes_at e r b
    refused_goes e r refusals.ExtentFull b k = closes_at e r b
    refused_goes e r refusals.Stale b k = rests_by generation name w i x sent q _ tt
    refused_goes e r why b k = k

    -- the group stands
    appended_goes : (e offset : ℕ) (r : ReqNo) (b : SentIs generation name w i x sent c e r) → machine.In (machine.Appended i b.append (machine.base b.index + offset) (machine.base b.index + offset + size c.group)) x.state.facts →
        Went c (ends c (news.Appended e offset))
    appended_goes e offset r b stood =
        let p : turns.Phase Group = turns.Sent (suc b.index) b.append c.group in
        let ts : List (turns.Turn Group) = turns.AppendedAt (machine.base b.index + offset) (machine.base b.index + offset + size c.group) ∷ [] in
        let at : Stand = record { state = x.state; phase = p } in
        let y : Stand = after_turns generation i at ts in
        let here : IsTold generation name w i y sent c = told_after generation name w i at ts sent q None fresh c (told_here generation name w i x p sent c told) in
        at_phase_by generation name w i x p sent q _ None (AppendsOnly c offset) b.stands (
          record {
            list = ts;
            allowed = (stood, tt);
            purpose = None;
            then = (
              record {
                told = record { stream = here.stream; under = here.under; tells = here.tells };
                job = ap (λ n. turns.Serving n true) b.last.index_is ∙ ap (λ o. turns.Serving (known c) (is_live o)) (sym b.last.last);
              },
              refl,
            );
            asked = tt;
          },
          record {
            from = machine.base b.index + offset;
            to = machine.base b.index + offset + size c.group;
            only = refl;
            sent = record { n = suc b.index; append = b.append; group = c.group; is = refl };
            begins = (let index : b.index ≡ known c - 1 = omega (arith, b.last.index_is) in ap (λ k. machine.base k + offset) index);
            ends = ap (λ k. machine.base b.index + offset + k) (sym (group_size-size c.group));
          },
        )

    -- the extent is sealed, and another is asked for
    sealed_goes : (e l : ℕ) (r : ReqNo) (b : ClosingIs generation name w i x sent c e r) (y : machine.SealedExtent Group) → machine.shut_at b.index x.state.core.shut ≡ Some y → y.end ≡ machine.base b.index + l →
        Went c (grows_behind c q e l)
    sealed_goes e l r b shut found end =
        let p : turns.Phase Group = turns.Closing (suc b.index) b.append c.group in
        let ts : List (turns.Turn Group) = turns.IsShut ∷ [] in
        let at : Stand = record { state = x.state; phase = p } in
        let y : Stand = after_turns generation i at ts in
        let d : ClientState = record c { extents = sealed_last c.extents l } in
        let count : suc b.index ≡ known d = b.last.index_is ∙ ap (λ k. c.base + k) (sym (sealed_length c e b.index l b.last)) in
        let o : Purpose = Extends i (known d) in
        let more : List Sent = record { request = q; purpose = o } ∷ sent in
        let now : IsTold generation name w i x sent d = told_sealed generation name w i x sent c e b.index l told b.last shut found end in
        let here : IsTold generation name w i y more d = told_after generation name w i at ts sent q (Some o) fresh d (told_here generation name w i x p sent d now) in
        let fact : machine.In (machine.AsksExtend i (known d)) y.state.facts = subst (λ n. machine.In (machine.AsksExtend i n) y.state.facts) count (inl refl) in
        let last : last_extent d.extents ≡ Some (closed e b.last.places l) = sealed_end c e b.index l b.last in
        at_phase_by generation name w i x p sent q _ _ Quietly b.stands (
          record {
            list = ts;
            allowed = (is_within b.index x.state.core.shut shut found, tt);
            purpose = Some o;
            then = record {
              told = record { stream = here.stream; under = here.under; tells = here.tells };
              job = record {
                append = b.append;
                all_sealed = ap is_live last;
                stands = ap (λ n. turns.Growing n b.append c.group) count;
                for = newest q o sent;
                last_is = sym (ap number_of last);
                fact = fact;
              };
            };
            asked = extend_asked generation name w i y more listed d here q (Some e) d.pick (sym (ap number_of last)) (newest q o sent) fact;
          },
          (tt, tt),
        )

    -- the group goes to the new extent
    extended_goes : (last : Option ℕ) (e : ℕ) (places : Nodes) (r : ReqNo) (b : GrowingIs generation name w i x sent c last r) → IsAt w name (known c) e →
        machine.In (machine.Extended i (known c) (suc (known c))) x.state.facts → Went c (appends_again c q e places)
    extended_goes last e places r b stands fact =
        let n : ℕ = known c in
        let p : turns.Phase Group = turns.Growing n b.append c.group in
        let ts : List (turns.Turn Group) = turns.ExtendedTo (suc n) ∷ [] in
        let at : Stand = record { state = x.state; phase = p } in
        let y : Stand = after_turns generation i at ts in
        let new : StreamExtent = record { extent = e; places = places; length = None } in
        let d : ClientState = record c { extents = c.extents ++ new ∷ []; checked = None } in
        let o : Purpose = Appends i n b.append c.group in
        let more : List Sent = record { request = q; purpose = o } ∷ sent in
        let now : IsTold generation name w i x sent d = told_more generation name w i x sent c e places told b.all_sealed stands in
        let here : IsTold generation name w i y more d = told_after generation name w i at ts sent q (Some o) fresh d (told_here generation name w i x p sent d now) in
        let is_last : LastIs d e n = record { places = places; last = more_last c.extents new; index_is = omega (arith, more_length c.extents new) } in
        at_phase_by generation name w i x p sent q _ _ Quietly b.stands (
          record {
            list = ts;
            allowed = (fact, tt);
            purpose = Some o;
            then = record {
              told = record { stream = here.stream; under = here.under; tells = here.tells };
              job = record {
                index = n;
                append = b.append;
                last = record { places = is_last.places; last = is_last.last; index_is = is_last.index_is };
                stands = refl;
                for = newest q o sent;
                fact = inl refl;
              };
            };
            asked = append_asked generation name w i y more listed d here q e n b.append is_last (newest q o sent) (inl refl);
          },
          (tt, tt),
        )

  -- ---- the answers to each job

  -- what is known of a number that is the same
  abbrev Meant : Body → Type 0
  Meant body = Means generation name w x.state sent body

  serve_by : (c : ClientState) → IsCounted i x → IsTold generation name w i x sent c → Went c (waits c) → (body : Body) → Meant body → (j : Job) → ServesBy generation name w i x sent c j → ByJob q (Went c) c body j
  serve_by c counted told k body m jobs.Idle b = tt
  serve_by c counted told k body m (jobs.Sent e r) b = (
    λ v n offset t is.
        appended_goes c told e offset r b
        (subst (λ z. AppendMeans generation name w x.state sent z (appends.Appended v n offset)) (for_same sent r v (Appends i b.index b.append c.group) t b.for) (subst (λ z. Meant z) is m)).1,
    λ why. refused_goes c told e r why b k,
  )
  serve_by c counted told k body m (jobs.Closing e r) b =
      λ v n l t is.
      let means : SealMeans generation name w x.state sent (Some (Seals i b.index)) (seals.SealedIs v n l) =
      subst (λ z. SealMeans generation name w x.state sent z (seals.SealedIs v n l)) (for_same sent r v (Seals i b.index) t b.for) (subst (λ z. Meant z) is m) in
      sealed_goes c told e l r b means.1 means.2 means.3
  serve_by c counted told k body m (jobs.Growing last r) b =
      λ v n places t is.
      let means : StreamMeans generation name w x.state sent (Some (Extends i (known c))) (streams.Extended v n places) =
      subst (λ z. StreamMeans generation name w x.state sent z (streams.Extended v n places)) (for_same sent r v (Extends i (known c)) t b.for) (subst (λ z. Meant z) is m) in
      let same : suc means.0 ≡ suc (known c) = counted (known c) (suc means.0) b.append c.group b.stands means.2 in
      let index : means.0 ≡ known c = omega (arith, same) in
      extended_goes c told last n places r b (subst (λ z. IsAt w name z n) index means.1)
      (subst (λ z. machine.In (machine.Extended i (known c) (suc z)) x.state.facts) index means.2)
  serve_by c counted told k body m j b = absurd b

  -- what an answer that is right makes of a job of a client of a range that is served
  pub reply_goes : (c : ClientState) → IsCounted i x → ServingIs generation name w i x sent c → (body : Body) → Meant body → Went c (reply_rule c q body)
  reply_goes c counted b body m =
      let k : Went c (waits c) = still c b.told b.job in reply_takes q (Went c) c body k (λ v t. rests_by generation name w i x sent q _ tt) (serve_by c counted b.told k body m c.job b.job)
