-- What a stream that the manager built of another's has of its source, as the servers of a run see both.
use Rattle.std.specs.Prelude.{◌≡◌, ℕ, ◌<◌, ◌≤◌, List, [], ◌∷◌, ◌++◌, length, Some, Contains}
use Rattle.wire.specs.declared.actor.ReqNo.{ReqNo}
use Rattle.wire.specs.declared.body.Body.TheVariants as bodies
use Rattle.wire.specs.declared.body.StreamBody.TheVariants.{MultiModify}
use Rattle.wire.specs.declared.packet.Packet.{Packet}
use Rattle.wire.specs.declared.streams.Modify.{Modify}
use Rattle.wire.specs.declared.streams.StreamKind.{StreamKind}
use Rattle.wire.specs.declared.streams.StreamName.{StreamName}
use Rattle.model_histories.specs.ServerRun.{ServerRun, stream_named, log_name, metadata_name}
use Rattle.model_histories.specs.Story.{Placed, Made, Answered, Showed, Story, event_at, Copy, KeepsOrder}
use Rattle.laws_tables.specs.Through.{IsLoaded}

-- The stream was built of its source under this generation, when the story of that had come so far (early); since then each goes on by itself.
-- The copies are those that belong to each load of the source, and of the stream.
pub record HasPart {A : Type 0} (generation : ℕ) (early source built : Story A) (source_copies built_copies : ℕ → List (Copy A)) : Type 0 where
  pub late : Story A
  pub own : Story A
  pub source_is : source ≡ late ++ early
  pub built_is : built ≡ own ++ early
  -- the source had been loaded under that generation
  pub loaded : IsLoaded early generation
  -- each load by then is one of the same copies for both
  pub shared : (l g start end : ℕ) (groups : List (Placed A)) → event_at early l ≡ Some (Showed g start end groups) → built_copies l ≡ source_copies l
  -- Each append under that generation or a lower one that the source answers, by then or ever, counts as the stream's own: it was begun by then,
  -- and is there at its place in each load of the stream under a higher generation.
  pub answered : (a g k from to m h start end : ℕ) (group : A) (groups : List (Placed A)) →
      event_at source a ≡ Some (Made g group) → g ≤ generation → event_at source k ≡ Some (Answered a from to) →
      event_at built m ≡ Some (Showed h start end groups) → generation < h →
      (a < length early) × Contains (built_copies m) (record { from = from; to = to; append = a; group = group })
  -- Nothing had been begun under a higher one by then,
  pub highest : (a g : ℕ) (group : A) → event_at early a ≡ Some (Made g group) → g ≤ generation
  -- and each copy of an append that had been begun by then, answered or not, stands before all that was appended to the stream itself.
  pub before : (m h start end : ℕ) (groups : List (Placed A)) (c d : Copy A) →
      event_at built m ≡ Some (Showed h start end groups) → generation < h → Contains (built_copies m) c → Contains (built_copies m) d →
      c.append < length early → length early ≤ d.append → c.to ≤ d.from

-- somebody asked that the streams of a range be built of those of a source, which it named with this generation
pub record AsksOf (post : List Packet) (source range generation : ℕ) : Type 0 where
  pub packet : Packet
  pub list : List Modify
  pub request : ReqNo
  pub sent : Contains post packet
  pub is : packet.body ≡ bodies.Stream (MultiModify list request)
  pub names : (kind : StreamKind) → Contains list (record { stream = stream_named range kind; sources = record { stream = stream_named source kind; generation = generation } ∷ [] })

-- The streams of a range were built of those of a source, as these stood in a run of servers (moment): it has its part of the metadata, and of the
-- log, up to the generation that was named.
pub record HasSource (post : List Packet) (x : ServerRun) (ordered : (name : StreamName) → KeepsOrder (x.story name)) (moment : ServerRun) (source range : ℕ) : Type 0 where
  pub generation : ℕ
  pub asked : AsksOf post source range generation
  pub metadata : HasPart generation (moment.story (metadata_name source)) (x.story (metadata_name source)) (x.story (metadata_name range)) (ordered (metadata_name source)).copies (ordered (metadata_name range)).copies
  pub log : HasPart generation (moment.story (log_name source)) (x.story (log_name source)) (x.story (log_name range)) (ordered (log_name source)).copies (ordered (log_name range)).copies
