-- Rules of the manager's table that leave streams as they are.
use Rattle.std.proofs.Common.{◌≡◌, ℕ, Option, Some, None, refl}
use Rattle.wire.specs.declared.actor.ReqNo.{ReqNo}
use Rattle.wire.specs.declared.body.SealBody.{SealBody}
use Rattle.wire.specs.declared.body.SealBody.TheVariants.{SealExtent, Frozen, IsSealed, Short}
use Rattle.wire.specs.declared.packet.Packet.{Packet}
use Rattle.model_streams.specs.declared.extent.Extent.{Extent}
use Rattle.model_streams.specs.declared.extent.PlaceReport.{PlaceReport}
use Rattle.model_streams.specs.Actors.{is_node}
use Rattle.model_streams.specs.Manager.{Catalog, is_there, seal_asked, seal_extent_rule, with_report, noted, frozen_to, frozen_rule, known_sealed, is_sealed_rule, place_of, first_sealed, asks_tail, short_rule, decided_if, least_told, decide_rule, seal_body_rule, reminders}
use Rattle.model_streams.specs.Outcome.{Outcome, silent, sends}
use Rattle.model_streams.proofs.Tests.{if_elim}

module _ (b : Catalog) where
  abbrev SameStreams : Outcome Catalog → Type 0
  SameStreams o = o.after.stream ≡ b.stream

  reported_same : (p : Packet) (e : ℕ) (news : PlaceReport → PlaceReport) (x : Extent) → SameStreams (noted b e (with_report x p.from news))
  reported_same p e news x =
      if_elim (λ o. SameStreams (noted b e o)) (is_node x.places.primary p.from) (Some (record x { primary = news x.primary })) _ (λ t. refl)
      (λ _. if_elim (λ o. SameStreams (noted b e o)) (is_node x.places.second p.from) (Some (record x { second = news x.second })) _ (λ t. refl)
      (λ _. if_elim (λ o. SameStreams (noted b e o)) (is_node x.places.third p.from) (Some (record x { third = news x.third })) None (λ t. refl) (λ _. refl)))

  seal_extent_same : (p : Packet) (e : ℕ) (q : ReqNo) (o : Option Extent) → SameStreams (seal_extent_rule b p e q o)
  seal_extent_same p e q None = refl
  seal_extent_same p e q (Some x) = by_length x.sealed
    where
      by_length : (o : Option ℕ) → SameStreams (seal_asked b p e q x o)
      by_length None = refl
      by_length (Some l) = refl

  frozen_same : (p : Packet) (e l : ℕ) (o : Option Extent) → SameStreams (frozen_rule b p e l o)
  frozen_same p e l None = refl
  frozen_same p e l (Some x) =
      if_elim SameStreams (is_there x.sealed) (silent b) (noted b e (with_report x p.from (frozen_to l))) (λ t. refl) (λ f. reported_same p e (frozen_to l) x)

  is_sealed_same : (p : Packet) (e : ℕ) (o : Option Extent) → SameStreams (is_sealed_rule b p e o)
  is_sealed_same p e None = refl
  is_sealed_same p e (Some x) = reported_same p e known_sealed x

  asks_same : (e l : ℕ) (to n : Option ℕ) → SameStreams (asks_tail b e l to n)
  asks_same e l (Some to) (Some n) = refl
  asks_same e l (Some to) None = refl
  asks_same e l None (Some n) = refl
  asks_same e l None None = refl

  short_same : (p : Packet) (e l : ℕ) (o : Option Extent) → SameStreams (short_rule b p e l o)
  short_same p e l None = refl
  short_same p e l (Some x) =
      if_elim SameStreams (is_there x.sealed) (asks_tail b e l (place_of x.places p.from) (first_sealed x)) (silent b)
      (λ t. asks_same e l (place_of x.places p.from) (first_sealed x)) (λ f. refl)

  pub seal_same : (p : Packet) (body : SealBody) → SameStreams (seal_body_rule b p body)
  seal_same p (SealExtent e q) = seal_extent_same p e q (b.extent e)
  seal_same p (Frozen e l) = frozen_same p e l (b.extent e)
  seal_same p (IsSealed e) = is_sealed_same p e (b.extent e)
  seal_same p (Short e l) = short_same p e l (b.extent e)
  seal_same p body = refl

  pub decide_same : (e : ℕ) (o : Option Extent) → SameStreams (decide_rule b e o)
  decide_same e None = refl
  decide_same e (Some x) =
      if_elim SameStreams (is_there x.sealed) (sends b (reminders b e x)) (decided_if b e x (least_told x)) (λ t. refl) (λ f. by_least (least_told x))
    where
      by_least : (o : Option ℕ) → SameStreams (decided_if b e x o)
      by_least None = refl
      by_least (Some l) = refl
