-- What a split does on the metadata of the two ranges that it makes, as servers see it: the groups of their keys are formed, and stand where
-- they were acknowledged.
use Rattle.std.proofs.Common.{◌≡◌, ℕ, List, [], ◌∷◌, ◌++◌, Option, Some, None, Contains, refl, inl}
use Rattle.wire.specs.declared.note.Note.{Note}
use Rattle.wire.specs.declared.note.Note.TheVariants.{Acked}
use Rattle.wire.specs.declared.streams.StreamKind.TheVariants as kinds
use Rattle.client.specs.declared.job.News.{News}
use Rattle.client.specs.declared.job.News.TheVariants as news
use Rattle.client.specs.Client.{ClientState}
use Rattle.model_streams.proofs.Tests.{if_elim}
use Rattle.model_partition.specs.declared.split_job.Side.{Side as SplitSide}
use Rattle.model_partition.specs.declared.split_job.Side.TheVariants.{Low, High}
use Rattle.model_partition.specs.declared.split_job.SplitJob.{SplitJob}
use Rattle.model_partition.specs.Range.{RangeState}
use Rattle.model_partition.specs.Splits.{side_range, may_say_keys}
use Rattle.model_histories.specs.StreamActions.{StreamAction, Forms, Stands, SideAction, last_position, keys_after, keys_told}
use Rattle.laws_loads.specs.RangeView.{RangeView, view_after_all}
use Rattle.laws_log_reads.specs.Reads.{SaysOneRegion}
use Rattle.laws_log_reads.proofs.SplitGroups.{keys_say}
use Rattle.laws_ranges.specs.Seen.{AreOf}
use Rattle.laws_ranges.specs.SplitSides.{keys_group, tagged}
use Rattle.laws_clusters.proofs.ObservedBytes.{AsAcked}
use Rattle.laws_clusters.proofs.RangeActions.{AreOnEither, SeesBytes}

-- on metadata, a group that leaves one region is formed, or one stands where it was acknowledged
abbrev pub IsOfKeys : List Note → StreamAction → Type 0
IsOfKeys notes (Forms kind group) = (kind ≡ kinds.Metadata) × SaysOneRegion group
IsOfKeys notes (Stands kind extent at group) = (kind ≡ kinds.Metadata) × Contains notes (Acked extent at.offset group)
IsOfKeys notes action = ⊥

-- the same of each of some
abbrev pub AreOfKeys : List Note → List StreamAction → Type 0
AreOfKeys notes [] = Unit {0}
AreOfKeys notes (action ∷ earlier) = IsOfKeys notes action × AreOfKeys notes earlier

-- and of some on streams of either range
abbrev pub SidesAreOfKeys : List Note → List SideAction → Type 0
SidesAreOfKeys notes [] = Unit {0}
SidesAreOfKeys notes (side ∷ earlier) = IsOfKeys notes side.action × SidesAreOfKeys notes earlier

-- those on one range
pub untagged : (notes : List Note) (range : ℕ) (actions : List StreamAction) → SidesAreOfKeys notes (tagged range actions) → AreOfKeys notes actions
untagged notes range [] all = tt
untagged notes range (action ∷ earlier) all = (all.0, untagged notes range earlier all.1)

-- and what comes before them
pub later_sides : (notes : List Note) (later before : List SideAction) → SidesAreOfKeys notes (later ++ before) → SidesAreOfKeys notes later
later_sides notes [] before all = tt
later_sides notes (side ∷ later) before all = (all.0, later_sides notes later before all.1)

pub earlier_sides : (notes : List Note) (later before : List SideAction) → SidesAreOfKeys notes (later ++ before) → SidesAreOfKeys notes before
earlier_sides notes [] before all = all
earlier_sides notes (side ∷ later) before all = earlier_sides notes later before all.1

module _ (notes : List Note) where
  -- they are on metadata alone
  pub of_metadata : (actions : List StreamAction) → AreOfKeys notes actions → AreOf kinds.Metadata actions
  of_metadata [] keys = tt
  of_metadata (Forms kind group ∷ earlier) keys = (keys.0.0, of_metadata earlier keys.1)
  of_metadata (Stands kind extent at group ∷ earlier) keys = (keys.0.0, of_metadata earlier keys.1)
  of_metadata (action ∷ earlier) keys = absurd keys.0

  -- so they are on metadata or the log
  pub keys_on_either : (actions : List StreamAction) → AreOfKeys notes actions → AreOnEither actions
  keys_on_either [] keys = tt
  keys_on_either (Forms kind group ∷ earlier) keys = (inl keys.0, keys_on_either earlier keys.1)
  keys_on_either (Stands kind extent at group ∷ earlier) keys = (inl keys.0.0, keys_on_either earlier keys.1)
  keys_on_either (action ∷ earlier) keys = absurd keys.0

  -- and what they are answered for was observed
  pub keys_observed : (generation : ℕ) (v : RangeView) → SeesBytes notes v.shown v.answered → (actions : List StreamAction) → AreOfKeys notes actions → SeesBytes notes (view_after_all generation v actions).shown (view_after_all generation v actions).answered
  keys_observed generation v old [] keys = old
  keys_observed generation v old (Forms kind group ∷ earlier) keys = let b = keys_observed generation v old earlier keys.1 in record { shown_there = b.shown_there; answered_there = b.answered_there }
  keys_observed generation v old (Stands kind extent at group ∷ earlier) keys =
      let b = keys_observed generation v old earlier keys.1 in record { shown_there = b.shown_there; answered_there = (AsAcked group keys.0.1 refl, b.answered_there) }
  keys_observed generation v old (action ∷ earlier) keys = absurd keys.0

-- ---- what news of the append of keys leads to

module _ (notes : List Note) (r : RangeState) (job : SplitJob) where
  -- keys are formed
  pub said_keys : (side : SplitSide) → SidesAreOfKeys notes (record { range = side_range job side; action = Forms kinds.Metadata (keys_group r job side) } ∷ [])
  said_keys side = ((refl, keys_say r job side), tt)

  module _ (c : ClientState) (extent offset : ℕ) (acked : Contains notes (Acked extent offset c.group)) where
    -- they stand, and others are formed behind them
    stood_keys : (side : SplitSide) → SidesAreOfKeys notes (keys_after r job side ++ record { range = side_range job side; action = Stands kinds.Metadata extent (last_position c offset) c.group } ∷ [])
    stood_keys Low =
        if_elim (λ (l : List SideAction). SidesAreOfKeys notes (l ++ record { range = job.low; action = Stands kinds.Metadata extent (last_position c offset) c.group } ∷ [])) (may_say_keys r job) _ _
        (λ may. ((refl, keys_say r job High), ((refl, acked), tt))) (λ no. ((refl, acked), tt))
    stood_keys High = ((refl, acked), tt)

  -- whatever the news
  pub told_keys : (side : SplitSide) (c : ClientState) (told : Option News) → ((extent offset : ℕ) → told ≡ Some (news.Appended extent offset) → Contains notes (Acked extent offset c.group)) → SidesAreOfKeys notes (keys_told r job side c told)
  told_keys side c (Some (news.Appended extent offset)) acked = stood_keys c extent offset (acked extent offset refl) side
  told_keys side c (Some news.Fenced) acked = tt
  told_keys side c (Some (news.Checked e n)) acked = tt
  told_keys side c (Some (news.Sealed e n)) acked = tt
  told_keys side c (Some (news.Content e n)) acked = tt
  told_keys side c None acked = tt
