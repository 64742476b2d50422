-- What is sent of one range's streams says nothing of any stream of another range.
use Rattle.std.proofs.Common.{◌≡◌, ◌⊎◌, ℕ, zero, suc, List, [], ◌∷◌, Option, Some, None, Contains, refl, sym, ap, ◌∙◌, subst, inl, inr, arith}
use Rattle.wire.specs.declared.actor.ReqNo.{ReqNo}
use Rattle.wire.specs.declared.body.AppendBody.TheVariants as appends
use Rattle.wire.specs.declared.body.Body.{Body}
use Rattle.wire.specs.declared.body.Body.TheVariants as bodies
use Rattle.wire.specs.declared.body.CheckBody.TheVariants as checks
use Rattle.wire.specs.declared.body.ReadBody.TheVariants as reads
use Rattle.wire.specs.declared.body.SealBody.TheVariants as seals
use Rattle.wire.specs.declared.body.StreamBody.TheVariants as streams
use Rattle.wire.specs.declared.packet.Packet.{Packet}
use Rattle.wire.specs.declared.streams.StreamName.{StreamName}
use Rattle.replica.specs.Groups.{Group}
use Rattle.model_streams.specs.StreamSystem.{StreamSystem}
use Rattle.model_partition.specs.declared.split_job.SplitJob.{SplitJob}
use Rattle.model_partition.specs.Range.{RangeState}
use Rattle.model_histories.specs.ServerTurns.{Whole}
use Rattle.laws_stream_machine.specs.Refinement.{Purpose, Sent, purpose_of, asked_number, IsAt, IsUnsealedAt, IsThere, IsAsked, OfExtent, OfStream}
use Rattle.laws_ranges.specs.Serves.{Side, metadata_of, log_of, rows_of, IsOfRows, BuildsNone}
use Rattle.laws_ranges.specs.SplitJobs.{IsBuildOf, AskedOfSplit}
use Rattle.laws_clusters.proofs.RangeStreams.{LeavesAlone}
use Rattle.laws_clusters.proofs.StreamMachines.{AllAskedOf}

-- what never is a number's purpose leaves it none
pub none_of : (sent : List Sent) (q : ReqNo) → ((p : Purpose) → purpose_of sent q ≡ Some p → ⊥) → purpose_of sent q ≡ None
none_of sent q never = go (purpose_of sent q) refl
  where
    go : (o : Option Purpose) → purpose_of sent q ≡ o → purpose_of sent q ≡ None
    go None e = e
    go (Some p) e = absurd (never p e)

-- a request about row data of a range: an extent of its list is named, or the list itself
abbrev pub RowsRequest : StreamSystem → ℕ → Body → Type 0
RowsRequest w range (bodies.Append (appends.Append e g blocks q)) = IsOfRows w range e
RowsRequest w range (bodies.Check (checks.Check e g q)) = ⊥
RowsRequest w range (bodies.Read (reads.ReadGroups e upto sealed q)) = ⊥
RowsRequest w range (bodies.Seal (seals.SealExtent e q)) = IsOfRows w range e
RowsRequest w range (bodies.Stream (streams.OpenStreams r g q)) = ⊥
RowsRequest w range (bodies.Stream (streams.Confirm r g q)) = ⊥
RowsRequest w range (bodies.Stream (streams.Extend stream g last pick q)) = stream ≡ rows_of range
RowsRequest w range body = Unit {0}

module _ (generation : ℕ → ℕ) (range : ℕ) (w : StreamSystem) (i : ℕ) (n k : Side) where
  -- the number has a purpose in one of the range's streams
  abbrev IsOfRange : ReqNo → Type 0
  IsOfRange q = purpose_of n.sent q ≡ None → purpose_of k.sent q ≡ None → ⊥

  -- what has no purpose there is about row data, under a number of no other stream
  abbrev pub IsRowsElse : List Sent → Body → Type 0
  IsRowsElse sent body = (q : ReqNo) → asked_number body ≡ Some q → purpose_of n.sent q ≡ None → purpose_of k.sent q ≡ None → RowsRequest w range body × (purpose_of sent q ≡ None)

  abbrev pub AreRowsElse : List Sent → List Packet → Type 0
  AreRowsElse sent [] = Unit {0}
  AreRowsElse sent (p ∷ ps) = IsRowsElse sent p.body × AreRowsElse sent ps

  owner : {P : Type 0} → (q : ReqNo) → (purpose_of n.sent q ≡ None → purpose_of k.sent q ≡ None → P) → IsOfRange q ⊎ P
  owner {P} q rows = go (purpose_of n.sent q) (purpose_of k.sent q) refl refl
    where
      go : (a b : Option Purpose) → purpose_of n.sent q ≡ a → purpose_of k.sent q ≡ b → IsOfRange q ⊎ P
      go (Some p) b one two = inl (λ none other. absurd (let z : None ≡ Some p = sym none ∙ one in cc))
      go None (Some p) one two = inl (λ none other. absurd (let z : None ≡ Some p = sym other ∙ two in cc))
      go None None one two = inr (rows one two)

  module _ (name : StreamName) (apart : name.range ≡ range → ⊥) (whole : Whole Group generation) (sent : List Sent)
      (one_alone : (a b e : ℕ) → IsAt w (metadata_of range) a e → IsUnsealedAt w name b e → ⊥) (two_alone : (a b e : ℕ) → IsAt w (log_of range) a e → IsUnsealedAt w name b e → ⊥)
      (rows_alone : (a b e : ℕ) → IsAt w (rows_of range) a e → IsUnsealedAt w name b e → ⊥) (none : (q : ReqNo) → IsOfRange q → purpose_of sent q ≡ None) where
    none_at : {P : Type 0} → (q : ReqNo) → IsOfRange q ⊎ (P × (purpose_of sent q ≡ None)) → purpose_of sent q ≡ None
    none_at q (inl known) = none q known
    none_at q (inr rows) = rows.1

    -- its number is none of the other stream's, nor is its extent, while that is not sealed
    of_extent : {P Q R : ℕ → Type 0} → (e : ℕ) (q : ReqNo) → OfExtent generation (metadata_of range) w n.stand.state n.sent e q P → OfExtent generation (log_of range) w k.stand.state k.sent e q Q →
        IsOfRange q ⊎ (IsOfRows w range e × (purpose_of sent q ≡ None)) → OfExtent generation name w whole.state sent e q R
    of_extent {P} {Q} {R} e q one two owned = record {
      made = one.made;
      unsealed = λ b at. absurd (of_another b at owned);
      known = λ p for. absurd (let c : None ≡ Some p = sym (none_at q owned) ∙ for in cc);
    }
      where
        of_another : (b : ℕ) → IsUnsealedAt w name b e → IsOfRange q ⊎ (IsOfRows w range e × (purpose_of sent q ≡ None)) → ⊥
        of_another b at (inl known) =
            known
            (none_of n.sent q (λ p for. (let a = one.known p for in one_alone a.0 b e a.1 at)))
            (none_of k.sent q (λ p for. (let a = two.known p for in two_alone a.0 b e a.1 at)))
        of_another b at (inr rows) = rows_alone rows.0.0 b e rows.0.1 at

    -- the same of a request about a range or a stream
    of_stream : {Here One Two P Q R T : Type 0} → (q : ReqNo) → OfStream generation (metadata_of range) w n.stand.state n.sent One q P → OfStream generation (log_of range) w k.stand.state k.sent Two q Q →
        IsOfRange q ⊎ (T × (purpose_of sent q ≡ None)) → (Here → One → ⊥) → (Here → Two → ⊥) → (Here → T → ⊥) → OfStream generation name w whole.state sent Here q R
    of_stream {Here} {One} {Two} {P} {Q} {R} {T} q one two owned not_one not_two not_rows = record {
      here = λ h. absurd (of_another h owned);
      elsewhere = λ other. none_at q owned;
    }
      where
        of_another : Here → IsOfRange q ⊎ (T × (purpose_of sent q ≡ None)) → ⊥
        of_another h (inl known) = known (one.elsewhere (not_one h)) (two.elsewhere (not_two h))
        of_another h (inr rows) = not_rows h rows.0

    asked_elsewhere : (body : Body) → IsAsked generation (metadata_of range) w n.stand.state n.sent body → IsAsked generation (log_of range) w k.stand.state k.sent body → IsRowsElse sent body → IsThere w name →
        IsAsked generation name w whole.state sent body
    asked_elsewhere (bodies.Append (appends.Append e g blocks q)) one two rows there = of_extent e q one two (owner q (rows q refl))
    asked_elsewhere (bodies.Append body) one two rows there = tt
    asked_elsewhere (bodies.Check (checks.Check e g q)) one two rows there = of_extent e q one two (owner q (λ a b. absurd (rows q refl a b).0))
    asked_elsewhere (bodies.Check body) one two rows there = tt
    asked_elsewhere (bodies.Read (reads.ReadGroups e upto sealed q)) one two rows there = of_extent e q one two (owner q (λ a b. absurd (rows q refl a b).0))
    asked_elsewhere (bodies.Read body) one two rows there = tt
    asked_elsewhere (bodies.Seal (seals.SealExtent e q)) one two rows there = of_extent e q one two (owner q (rows q refl))
    asked_elsewhere (bodies.Seal body) one two rows there = tt
    asked_elsewhere (bodies.Stream (streams.OpenStreams r g q)) one two rows there = of_stream q one two (owner q (rows q refl)) (λ h a. apart (sym h ∙ a)) (λ h a. apart (sym h ∙ a)) (λ h a. a)
    asked_elsewhere (bodies.Stream (streams.Confirm r g q)) one two rows there = of_stream q one two (owner q (rows q refl)) (λ h a. apart (sym h ∙ a)) (λ h a. apart (sym h ∙ a)) (λ h a. a)
    asked_elsewhere (bodies.Stream (streams.Extend stream g last pick q)) one two rows there =
        of_stream q one two (owner q (rows q refl)) (λ h a. apart (ap (λ (z : StreamName). z.range) (sym h ∙ a))) (λ h a. apart (ap (λ (z : StreamName). z.range) (sym h ∙ a)))
        (λ h a. apart (ap (λ (z : StreamName). z.range) (sym h ∙ a)))
    asked_elsewhere (bodies.Stream (streams.MultiModify list q)) one two rows there = λ m among same. there
    asked_elsewhere (bodies.Stream body) one two rows there = tt
    asked_elsewhere body one two rows there = tt

    -- what is asked of both streams of the range, and of its split, is asked as another range's stream sees it
    pub all_elsewhere : (nodes target : ℕ) (after : Option RangeState) (job : Option SplitJob) (ps : List Packet) → AskedOfSplit generation range w i after job n k ps → AreRowsElse sent ps → IsThere w name →
        AllAskedOf generation nodes target name w whole sent ps
    all_elsewhere nodes target after job [] asked rows there = tt
    all_elsewhere nodes target after job (p ∷ ps) asked rows there = (asked_elsewhere p.body asked.0.0 asked.0.1 rows.0 there, all_elsewhere nodes target after job ps asked.1 rows.1 there)

  -- ---- streams of other ranges that are absent

  module _ (name : StreamName) (apart : name.range ≡ range → ⊥) where
    other_range : (r : ℕ) → r ≡ name.range → r ≡ range → ⊥
    other_range r here own = apart (sym here ∙ own)

    other_stream : (stream own : StreamName) → own.range ≡ range → stream ≡ name → stream ≡ own → ⊥
    other_stream stream own of here same = apart (ap (λ (z : StreamName). z.range) (sym here ∙ same) ∙ of)

    -- none of them is asked for
    asked_alone : (body : Body) → IsAsked generation (metadata_of range) w n.stand.state n.sent body → IsAsked generation (log_of range) w k.stand.state k.sent body → IsRowsElse [] body → LeavesAlone name body
    asked_alone (bodies.Stream (streams.OpenStreams r g q)) one two rows = λ here. (rows q refl (one.elsewhere (other_range r here)) (two.elsewhere (other_range r here))).0
    asked_alone (bodies.Stream (streams.Confirm r g q)) one two rows = λ here. (rows q refl (one.elsewhere (other_range r here)) (two.elsewhere (other_range r here))).0
    asked_alone (bodies.Stream (streams.Extend stream g last pick q)) one two rows =
        λ here.
        other_stream stream (rows_of range) refl here (rows q refl (one.elsewhere (other_stream stream (metadata_of range) refl here)) (two.elsewhere (other_stream stream (log_of range) refl here))).0
    asked_alone (bodies.Stream body) one two rows = tt
    asked_alone body one two rows = tt

    pub all_alone : (after : Option RangeState) (job : Option SplitJob) (ps : List Packet) → AskedOfSplit generation range w i after job n k ps → AreRowsElse [] ps → (p : Packet) → Contains ps p → LeavesAlone name p.body
    all_alone after job [] asked rows p (at, less, is) = absurd (omega (arith, less))
    all_alone after job (x ∷ ps) asked rows p (zero, less, is) = subst (λ (z : Packet). LeavesAlone name z.body) is (asked_alone x.body asked.0.0 asked.0.1 rows.0)
    all_alone after job (x ∷ ps) asked rows p (suc at, less, is) = all_alone after job ps asked.1 rows.1 p (at, omega (arith, less), is)

  -- a list to build is empty, or that of the split
  pub builds_own : (after : Option RangeState) (job : Option SplitJob) (ps : List Packet) → AskedOfSplit generation range w i after job n k ps → (p : Packet) → Contains ps p → BuildsNone p.body ⊎ IsBuildOf job p.body
  builds_own after job [] asked p (at, less, is) = absurd (omega (arith, less))
  builds_own after job (x ∷ ps) asked p (zero, less, is) = subst (λ (z : Packet). BuildsNone z.body ⊎ IsBuildOf job z.body) is asked.0.3
  builds_own after job (x ∷ ps) asked p (suc at, less, is) = builds_own after job ps asked.1 p (at, omega (arith, less), is)
