-- What an answer to the client of a stream leaves of what was read of the stream, while it is loaded.
use Rattle.std.proofs.Common.{◌≡◌, ℕ, suc, ◌+◌, ◌<◌, ◌≤◌, List, ◌∷◌, length, Bool, true, false, Option, Some, None, refl, sym, ap, ◌∙◌, subst, arith}
use Rattle.wire.specs.declared.actor.ReqNo.{ReqNo}
use Rattle.wire.specs.declared.body.Body.{Body}
use Rattle.wire.specs.declared.body.Body.TheVariants as bodies
use Rattle.wire.specs.declared.body.ReadBody.TheVariants as answers
use Rattle.wire.specs.declared.body.SealBody.TheVariants as seals
use Rattle.wire.specs.declared.packet.Packet.{Packet}
use Rattle.wire.specs.declared.streams.StreamName.{StreamName}
use Rattle.replica.specs.Groups.{Group}
use Rattle.client.specs.Requests.{is_same}
use Rattle.client.specs.declared.job.Job.{Job}
use Rattle.client.specs.declared.job.Job.TheVariants as jobs
use Rattle.client.specs.declared.job.News.TheVariants as news
use Rattle.client.specs.Client.{ClientState, Outcome, last_extent, ends, ends_checked, ends_sealed, shuts, reply_rule}
use Rattle.model_streams.specs.StreamSystem.{StreamSystem}
use Rattle.model_partition.specs.declared.server_context.ServerContext.{ServerContext}
use Rattle.model_partition.specs.Range.{request, picking}
use Rattle.model_histories.specs.StreamActions.{ExtentRead}
use Rattle.laws_stream_machine.specs.Refinement.{Sent, Reads, purpose_of, IsAt, Means}
use Rattle.laws_stream_machine.proofs.ServerRequests.{same_request}
use Rattle.laws_ranges.specs.Serves.{Stand, is_live, Listed, LoadsBy, LoadingIs, ReadingIs}
use Rattle.laws_ranges.proofs.ClientReplies.{ByJob, reply_takes}
use Rattle.laws_ranges.proofs.ToldExtents.{sealed_length, sealed_end}
use Rattle.laws_log_reads.specs.Reads.{ReadsAt, ReadsBy, HasReadTo}
use Rattle.laws_log_reads.proofs.AnswersAreRight.{Rightly, IsShut, IsStood, rightly, told_shut}
use Rattle.laws_log_reads.proofs.ExtentByExtent.{IsRead, ItsSealed, ItStood, TellsOf, HasReadBelow, one_more}
use Rattle.laws_log_reads.proofs.ReadRequests.{by_same}

-- the groups that a read has brought
abbrev pub extent_read : ClientState → ℕ → ℕ → List Group → ExtentRead
extent_read c position e groups = record { index = c.base + position; extent = e; groups = groups }

module _ (generation : ℕ → ℕ) (name : StreamName) (w : StreamSystem) (i : ℕ) (listed : Listed w name) (x : Stand) (sent : List Sent) (d : ServerContext) (from : ℕ) (before : ClientState) (body : Body) where
  abbrev c : ClientState
  c = picking d before

  -- the groups of an extent have come, by the answer to a request that asked for it
  pub record BringsGroups (reads : List ExtentRead) (position e upto : ℕ) : Type 0 where
    pub number : ReqNo
    pub told : ℕ
    pub groups : List Group
    pub is : body ≡ bodies.Read (answers.Groups number told groups)
    pub index : ℕ
    pub for : purpose_of sent number ≡ Some (Reads i index upto)
    pub at : IsAt w name index e
    pub below : HasReadBelow generation name w i x sent from (ends c (news.Content e upto)).after (extent_read before position e groups ∷ reads) (suc position)

  -- what each outcome of an answer leads to, while the length of the last extent is asked for or it is sealed
  pub record FromCheck (G : Outcome → Type 0) : Type 0 where
    pub stays : (k : ClientState) (packet : Option Packet) → G (record { after = k; packet = packet; news = None })
    pub fenced : G (ends c news.Fenced)
    pub checked : (e found : ℕ) → TellsOf generation name w x sent (ends_checked c e found).after → G (ends_checked c e found)
    pub sealed : (e t : ℕ) → TellsOf generation name w x sent (ends_sealed c e t).after → is_live (last_extent (ends_sealed c e t).after.extents) ≡ false → G (ends_sealed c e t)
    pub came : (e upto : ℕ) → G (ends c (news.Content e upto))

  -- the same while the extent at a position is read
  pub record FromRead (G : Outcome → Type 0) (reads : List ExtentRead) (position : ℕ) : Type 0 where
    pub stays : (k : ClientState) (packet : Option Packet) → HasReadTo name w i x.state from k reads position → G (record { after = k; packet = packet; news = None })
    pub fenced : G (ends c news.Fenced)
    pub checked : (e found : ℕ) → HasReadTo name w i x.state from (ends_checked c e found).after reads position → G (ends_checked c e found)
    pub sealed : (e t : ℕ) → HasReadBelow generation name w i x sent from (ends_sealed c e t).after reads position → G (ends_sealed c e t)
    pub came : (e upto : ℕ) → BringsGroups reads position e upto → G (ends c (news.Content e upto))

  module _ (b : LoadingIs generation name w i x sent before) (means : Means generation name w x.state sent body) where
    -- the last extent is told to be sealed
    sealed_told : (e : ℕ) (q : ReqNo) → LoadsBy generation name w i x sent before (jobs.Shutting e q) → (v : ReqNo) (k t : ℕ) → is_same q v ≡ true → body ≡ bodies.Seal (seals.SealedIs v k t) →
        TellsOf generation name w x sent (ends_sealed c e t).after
    sealed_told e q a v k t same is = told_shut generation name w i listed sent x before e q b.told a v k t same (subst (λ z. Means generation name w x.state sent z) is means)

    sealed_now : (e : ℕ) (q : ReqNo) → LoadsBy generation name w i x sent before (jobs.Shutting e q) → (t : ℕ) → is_live (last_extent (ends_sealed c e t).after.extents) ≡ false
    sealed_now e q a t = ap is_live (sealed_end before e a.index t a.last)

    -- ---- the length of the last extent is asked for, or it is sealed

    module _ (G : Outcome → Type 0) (g : FromCheck G) where
      checking_by : (j : Job) → LoadsBy generation name w i x sent before j → ByJob (request d) G c body j
      checking_by jobs.Idle a = tt
      checking_by (jobs.Sent e q) a = absurd a
      checking_by (jobs.Closing e q) a = absurd a
      checking_by (jobs.Growing last q) a = absurd a
      checking_by (jobs.Checking e q) a = (g.stays (shuts c e (request d)).after (shuts c e (request d)).packet, λ v found same is. g.checked e found b.told.tells)
      checking_by (jobs.Shutting e q) a = λ v k t same is. g.sealed e t (sealed_told e q a v k t same is) (sealed_now e q a t)
      checking_by (jobs.Reading e places upto sealed place q) a = λ v k groups same is. g.came e upto

      pub checking_takes : G (reply_rule c (request d) body)
      checking_takes = reply_takes (request d) G c body (g.stays c None) (λ v t. g.fenced) (checking_by before.job b.job)

    -- ---- an extent is read

    module _ (reads : List ExtentRead) (position : ℕ) (h : HasReadTo name w i x.state from before reads position) where
      reads_on : (k : ClientState) → k.base ≡ before.base → k.extents ≡ before.extents → ReadsBy k position k.job → HasReadTo name w i x.state from k reads position
      reads_on k base extents job =
          record {
            inside = subst (λ n. n ≤ from) (sym base) h.inside;
            count = h.count ∙ ap (λ n. n + position) (sym base);
            below = subst (λ n. position < n) (ap length (sym extents)) h.below;
            sealed = h.sealed;
            job = job;
          }

      -- the last extent was sealed: it is asked for once more
      shut_below : (e : ℕ) (q : ReqNo) (a : LoadsBy generation name w i x sent before (jobs.Shutting e q)) (t : ℕ) → TellsOf generation name w x sent (ends_sealed c e t).after →
          HasReadBelow generation name w i x sent from (ends_sealed c e t).after reads position
      shut_below e q a t told =
          record {
            told = told;
            inside = h.inside;
            idle = refl;
            count = h.count;
            sealed = λ more. h.sealed;
            all = λ le. absurd (let inside : position < length before.extents = h.below in omega (arith, inside, sealed_length before e a.index t a.last, le));
          }

      -- the groups have come
      module _ (e upto : ℕ) (sealed : Bool) (q : ReqNo) (a : ReadingIs generation name w i x sent before e upto sealed q) (s : ReadsAt before e upto sealed position) (v : ReqNo) (k : ℕ) (groups : List Group)
          (same : is_same q v ≡ true) (is : body ≡ bodies.Read (answers.Groups v k groups)) where
        abbrev after : ClientState
        after = (ends c (news.Content e upto)).after

        right : Rightly generation name w i listed sent x before position s.known groups
        right =
            rightly generation name w i listed sent x before b.told.tells e upto q position groups sealed a s v k same (subst (λ z. Means generation name w x.state sent z) is means)

        at_index : IsAt w name (before.base + position) e
        at_index = subst (λ z. IsAt w name (before.base + position) z) s.extent (b.told.tells.are position s.known s.at)

        read_by : Rightly generation name w i listed sent x before position s.known groups → IsRead name w i x.state after position s.known (extent_read before position e groups)
        read_by (IsShut z what y shut equal) = ItsSealed z what (record { at = at_index; index_is = refl; shut = y; is = shut; same = equal })
        read_by (IsStood found what checked stood fact equal) = ItStood found what checked (record { at = at_index; index_is = refl; stood = stood; fact = fact; same = equal })

        more : BringsGroups reads position e upto
        more = record {
          number = v;
          told = k;
          groups = groups;
          is = is;
          index = a.index;
          for = subst (λ z. purpose_of sent z ≡ Some (Reads i a.index upto)) (same_request q v same) a.for;
          at = a.at;
          below = one_more generation name w i x sent from after reads position (extent_read before position e groups)
              (record { told = b.told.tells; inside = h.inside; idle = refl; count = h.count; below = h.below; sealed = h.sealed; known = s.known; at = s.at; read = read_by right });
        }

      module _ (G : Outcome → Type 0) (g : FromRead G reads position) where
        reading_by : (j : Job) → LoadsBy generation name w i x sent before j → ReadsBy before position j → ByJob (request d) G c body j
        reading_by jobs.Idle a s = tt
        reading_by (jobs.Sent e q) a s = absurd a
        reading_by (jobs.Closing e q) a s = absurd a
        reading_by (jobs.Growing last q) a s = absurd a
        reading_by (jobs.Checking e q) a s = (
          g.stays (shuts c e (request d)).after (shuts c e (request d)).packet (reads_on (shuts c e (request d)).after refl refl tt),
          λ v found same is. g.checked e found (reads_on (ends_checked c e found).after refl refl tt),
        )
        reading_by (jobs.Shutting e q) a s = λ v k t same is. g.sealed e t (shut_below e q a t (sealed_told e q a v k t same is))
        reading_by (jobs.Reading e places upto sealed place q) a s = λ v k groups same is. g.came e upto (more e upto sealed q a s v k groups same is)

        pub reading_takes : G (reply_rule c (request d) body)
        reading_takes =
            reply_takes (request d) G c body (g.stays c None (reads_on c refl refl (by_same before c refl refl position before.job h.job))) (λ v t. g.fenced) (reading_by before.job b.job h.job)
