-- A pair that a split was told of stays pending at the range, whatever happens, while the range keeps its generation.
use Rattle.std.proofs.Common.{ℕ, List, Contains, refl}
use Rattle.wire.specs.declared.actor.ReqNo.{ReqNo}
use Rattle.wire.specs.declared.packet.Packet.{Packet}
use Rattle.model_streams.specs.declared.event.Event.{Event}
use Rattle.model_streams.specs.declared.event.Event.TheVariants.{Submit, Deliver, Stop, Restart, Decide, GiveUp, Assign, Renew, Moment, Checkpoint, Split, Merge}
use Rattle.model_streams.specs.Outcome.{Outcome}
use Rattle.model_partition.specs.Map.{MapState, range_at}
use Rattle.model_partition.specs.Partition.{IsSound}
use Rattle.model_partition.specs.Cluster.{Cluster, cluster_after}
use Rattle.laws_streams.proofs.Choices.{contains_get}
use Rattle.laws_map.specs.Naming.{Names}
use Rattle.laws_map.specs.Generations.{HasAsked}
use Rattle.laws_map.specs.Pairs.{AskOneKey, IsPending, IsPaired, paired, ArePaired}
use Rattle.laws_map.proofs.Knowing.{Extends}
use Rattle.laws_map.proofs.EventNames.{RuleNames, names_on}
use Rattle.laws_map.proofs.SoundMaps.{RuleLeaves, event_leaves}
use Rattle.laws_map.proofs.PendingPairs.{assign_pairs, renew_pairs, rule_pairs}

-- where more was asked
asked_more : (m : MapState) (asks more : List Packet) → ((p : Packet) → Contains asks p → Contains more p) → Extends (paired m asks) (paired m more)
asked_more m asks more sent = record {
  knows = λ n g k. k;
  assigned = λ n g k. k;
  asked = on;
  begun = λ q low high k. record { range = k.range; generation = k.generation; key = k.key; asked = on q k.range k.generation k.key k.asked; pending = k.pending };
  splits = λ n g key low high k. record { number = k.number; asked = on k.number n g key k.asked; pending = k.pending };
  numbers = λ n k. k;
  merges = λ n g k. k;
}
  where
    on : (q : ReqNo) (range generation : ℕ) (key : List ℕ) → HasAsked asks q range generation key → HasAsked more q range generation key
    on q range generation key h = record { packet = h.packet; sent = sent h.packet h.sent; is = h.is }

-- all that is paired was asked for in the post
pub paired_in_post : (c : Cluster) → ArePaired c → Names (paired c.map c.stream_layer.post) c
paired_in_post c p = names_on (paired c.map p.asks) (paired c.map c.stream_layer.post) (asked_more c.map p.asks c.stream_layer.post p.sent) c p.names

pub pair_in_more : (m : MapState) (asks more : List Packet) → ((p : Packet) → Contains asks p → Contains more p) → (range generation : ℕ) (key : List ℕ) (low high : ℕ) →
    IsPaired m asks range generation key low high → IsPaired m more range generation key low high
pair_in_more m asks more sent range generation key low high k = (asked_more m asks more sent).splits range generation key low high k

module _ (c : Cluster) (s : IsSound c.map) (asks : List Packet) (one : AskOneKey asks) (n : Names (paired c.map asks) c) (range generation : ℕ) (key : List ℕ) (low high : ℕ) (k : IsPaired c.map asks range generation key low high) where
  abbrev P : MapState → Type 0
  P m = IsPending m range generation key low high

  by : (o : Outcome MapState) → RuleNames (λ a. paired a asks) c.map o → P o.after
  by o rule = (rule.extends.splits range generation key low high k).pending

  leaves : (event : Event) → RuleLeaves P c k.pending event
  leaves (Deliver number) = λ p at. by _ (rule_pairs asks one c.map s p p.body refl (n.post p (contains_get c.stream_layer.post number p at)))
  leaves (Assign r server until) = by _ (assign_pairs asks one c.map s r server until (range_at c.map.ranges r))
  leaves (Renew r server until) = λ free. by _ (renew_pairs asks one c.map s r server until (range_at c.map.ranges r))
  leaves (Submit user to body) = tt
  leaves (Stop actor call keep) = tt
  leaves (Restart actor) = tt
  leaves (Decide e) = tt
  leaves (GiveUp server r pick) = tt
  leaves (Moment now) = tt
  leaves (Checkpoint server r combine) = tt
  leaves (Split server r key) = tt
  leaves (Merge server left right) = tt

  pub pair_stays : (event : Event) → IsPaired (cluster_after c event).map asks range generation key low high
  pair_stays event = record { number = k.number; asked = k.asked; pending = event_leaves P c k.pending event (leaves event) }
