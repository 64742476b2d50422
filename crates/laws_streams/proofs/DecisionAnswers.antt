-- What a decision sends: an answer to the one who asked last for the seal.
use Rattle.std.proofs.Common.{◌≡◌, ℕ, ◌++◌, Option, Some, None, refl}
use Rattle.wire.specs.declared.actor.ActorId.{ActorId}
use Rattle.wire.specs.declared.actor.ActorId.TheVariants.{Manager}
use Rattle.wire.specs.declared.actor.ReqNo.{ReqNo}
use Rattle.wire.specs.declared.body.SealBody.{SealBody}
use Rattle.wire.specs.declared.body.SealBody.TheVariants as seals
use Rattle.wire.specs.declared.body.Body.{Body}
use Rattle.wire.specs.declared.body.Body.TheVariants as bodies
use Rattle.wire.specs.declared.packet.Packet.{Packet}
use Rattle.model_streams.specs.declared.extent.Asker.{Asker}
use Rattle.model_streams.specs.declared.extent.Extent.{Extent}
use Rattle.model_streams.specs.Manager.{Catalog, each_place, closes, reminders, tells_asker, sealed_to, with_extent, decided_if, least_told, decide_rule, is_there}
use Rattle.model_streams.specs.Outcome.{Outcome, sends}
use Rattle.model_streams.proofs.Tests.{if_elim}
use Rattle.laws_streams.proofs.Choices.{Each, each-append}

-- the extent is sealed at this length now, and this one had asked for it
pub record FromDecision (b : Catalog) (decides : ℕ) (after : Catalog) (to : ActorId) (q : ReqNo) (e l : ℕ) : Type 0 where
  pub which : e ≡ decides
  pub extent : Extent
  pub there : b.extent e ≡ Some extent
  pub asker : Asker
  pub kept : extent.asker ≡ Some asker
  pub who : to ≡ asker.who
  pub request : q ≡ asker.request
  pub left : after ≡ with_extent b e (sealed_to extent l)

abbrev pub SealTells : Catalog → ℕ → Catalog → ActorId → SealBody → Type 0
SealTells b e after to (seals.SealedIs q k l) = FromDecision b e after to q k l
SealTells b e after to (seals.SealExtent k q) = ⊥
SealTells b e after to _ = Unit {0}

abbrev pub BodyTells : Catalog → ℕ → Catalog → ActorId → Body → Type 0
BodyTells b e after to (bodies.Seal body) = SealTells b e after to body
BodyTells b e after to _ = ⊥

-- what the manager sends, having decided on extent e
abbrev pub DecisionTells : Catalog → ℕ → Catalog → Packet → Type 0
DecisionTells b e after p = (p.from ≡ Manager) × BodyTells b e after p.to p.body

abbrev Tells : Catalog → ℕ → Outcome Catalog → Type 0
Tells b e o = Each (DecisionTells b e o.after) o.packets

module _ (b : Catalog) (e : ℕ) (x : Extent) where
  reminders_tell : (after : Catalog) (y : Extent) → Each (DecisionTells b e after) (reminders b e y)
  reminders_tell after y = by_length y.sealed
    where
      by_length : (o : Option ℕ) → Each (DecisionTells b e after)
          (each_place y.places (bodies.Seal (seals.Make e y.fence b.target y.places)) ++ each_place y.places (bodies.Seal (closes e o)))
      by_length None = ((refl, tt), ((refl, tt), ((refl, tt), ((refl, tt), ((refl, tt), ((refl, tt), tt))))))
      by_length (Some l) = ((refl, tt), ((refl, tt), ((refl, tt), ((refl, tt), ((refl, tt), ((refl, tt), tt))))))

  asker_tells : (l : ℕ) → b.extent e ≡ Some x → (o : Option Asker) → x.asker ≡ o →
      Each (DecisionTells b e (with_extent b e (sealed_to x l))) (tells_asker e l o)
  asker_tells l there None kept = tt
  asker_tells l there (Some a) kept =
      ((refl, record { which = refl; extent = x; there = there; asker = a; kept = kept; who = refl; request = refl; left = refl }), tt)

  decided_tells : b.extent e ≡ Some x → (o : Option ℕ) → Tells b e (decided_if b e x o)
  decided_tells there None = tt
  decided_tells there (Some l) =
      let after = with_extent b e (sealed_to x l) in
      each-append (DecisionTells b e after) (reminders b e (sealed_to x l)) (tells_asker e l x.asker)
      (reminders_tell after (sealed_to x l)) (asker_tells l there x.asker refl)

decide_tells : (b : Catalog) (e : ℕ) (o : Option Extent) → b.extent e ≡ o → Tells b e (decide_rule b e o)
decide_tells b e None there = tt
decide_tells b e (Some x) there =
    if_elim (Tells b e) (is_there x.sealed) (sends b (reminders b e x)) (decided_if b e x (least_told x))
    (λ t. reminders_tell b e x b x) (λ f. decided_tells b e x there (least_told x))

-- whatever the manager sends, having decided
pub decision_tells : (b : Catalog) (e : ℕ) → Each (DecisionTells b e (decide_rule b e (b.extent e)).after) (decide_rule b e (b.extent e)).packets
decision_tells b e = decide_tells b e (b.extent e) refl
