-- A stream that is built of another begins as that one stands: with its list, its fence, and all that was done on it.
use Rattle.std.proofs.Common.{◌≡◌, ◌≢◌, ◌⊎◌, ℕ, suc, ◌<◌, ◌≤◌, List, [], ◌∷◌, ◌++◌, length, Option, Some, None, slice_get, Contains, refl, sym, ap, ◌∙◌, subst, inl, inr, arith}
use Rattle.std.proofs.lemmas.Option.{slice_get_within}
use Rattle.wire.specs.declared.actor.ActorId.{ActorId}
use Rattle.wire.specs.declared.actor.ActorId.TheVariants.{Server}
use Rattle.wire.specs.declared.actor.ReqNo.{ReqNo}
use Rattle.wire.specs.declared.body.AppendBody.TheVariants.{Append}
use Rattle.wire.specs.declared.body.CheckBody.TheVariants.{Check}
use Rattle.wire.specs.declared.body.ReadBody.TheVariants.{ReadGroups}
use Rattle.wire.specs.declared.body.SealBody.TheVariants.{SealExtent}
use Rattle.wire.specs.declared.body.StreamBody.{StreamBody}
use Rattle.wire.specs.declared.body.StreamBody.TheVariants.{OpenStreams, Confirm, Extend, MultiModify}
use Rattle.wire.specs.declared.body.Body.TheVariants as bodies
use Rattle.wire.specs.declared.streams.Modify.{Modify}
use Rattle.wire.specs.declared.streams.Source.{Source}
use Rattle.wire.specs.declared.streams.StreamKind.{StreamKind}
use Rattle.wire.specs.declared.streams.StreamKind.TheVariants.{BlobData}
use Rattle.wire.specs.declared.streams.StreamKind.TheVariants as kinds
use Rattle.wire.specs.declared.streams.StreamName.{StreamName}
use Rattle.block_types.specs.declared.record.Nodes.{Nodes}
use Rattle.replica.specs.Groups.{Group}
use Rattle.streams.specs.Streams.{Stream, stream_of, whole, last_of}
use Rattle.model_streams.specs.declared.extent.Extent.{Extent}
use Rattle.model_streams.specs.Manager.{sealed_in, sealed_lengths}
use Rattle.model_streams.specs.Outcome.{packet}
use Rattle.model_streams.specs.StreamSystem.{StreamSystem, Move, start}
use Rattle.laws_streams.proofs.BuildRequests.{ServersAsk, servers_ask}
use Rattle.laws_streams.proofs.BuildTests.{IsOfOneKind, entries_of}
use Rattle.laws_streams.proofs.Choices.{Each, each-contains}
use Rattle.laws_streams.proofs.Invariant.{run_moves_push}
use Rattle.laws_streams.proofs.Listings.{last_at, moved_goes}
use Rattle.laws_streams.proofs.ListRules.{BuildsStream, Built, KeepsAll, Goes, IsBuiltOf}
use Rattle.laws_streams.proofs.RestsOnGround.{sealed_of}
use Rattle.laws_streams.proofs.WholeLists.{whole_last, none_whole}
use Rattle.model_histories.specs.StreamMachine.{OpenExtent, MachineState, count, nothing, one_if_live}
use Rattle.model_histories.specs.ServerTurns.{after_all, AreMoves}
use Rattle.model_histories.specs.ServerTurns as machine
use Rattle.laws_stream_machine.specs.Refinement.{Sent, extents_of, IsAt, IsThere, OfExtent, OfStream, AllAsked, StreamMeans, purpose_if, stream_meant}
use Rattle.laws_stream_machine.proofs.MachineCore.{FencedBy, Shaped, same_shape}
use Rattle.laws_stream_machine.proofs.Refines.{Follows}
use Rattle.laws_stream_machine.proofs.StreamRules.{IsListed}
use Rattle.laws_stream_machine.proofs.LowerLayer.{system, Below, is_below, listed_now}

sealed_same : (o : Option Extent) → sealed_of o ≡ sealed_in o
sealed_same None = refl
sealed_same (Some y) = refl

-- nobody has asked for the stream: to open or to confirm its range, or for one more extent at its end
pub record NobodyAsked (name : StreamName) (w : StreamSystem) : Type 0 where
  pub opens : (server : ℕ) (to : ActorId) (range g : ℕ) (q : ReqNo) → Contains w.post (packet (Server server) to (bodies.Stream (OpenStreams range g q))) → range ≡ name.range → ⊥
  pub confirms : (server : ℕ) (to : ActorId) (range g : ℕ) (q : ReqNo) → Contains w.post (packet (Server server) to (bodies.Stream (Confirm range g q))) → range ≡ name.range → ⊥
  pub extends : (server : ℕ) (to : ActorId) (stream : StreamName) (g : ℕ) (last : Option ℕ) (pick : Nodes) (q : ReqNo) →
      Contains w.post (packet (Server server) to (bodies.Stream (Extend stream g last pick q))) → stream ≡ name → ⊥

-- so it is where none of its numbers is used
pub nobody_asked : (generation : ℕ → ℕ) (name : StreamName) (w : StreamSystem) (s : MachineState Group) → AllAsked generation name w s [] → NobodyAsked name w
nobody_asked generation name w s asked = record {
  opens = λ server to range g q c here. let y = (asked server to (bodies.Stream (OpenStreams range g q)) c).here here in let z = y.for in cc;
  confirms = λ server to range g q c here. let y = (asked server to (bodies.Stream (Confirm range g q)) c).here here in let z = y.for in cc;
  extends = λ server to stream g last pick q c here. let y = (asked server to (bodies.Stream (Extend stream g last pick q)) c).here here in let z = y.for in cc;
}

-- The stream has the list of the source and its fence. All of these extents are sealed.
pub record StandsAs (source name : StreamName) (w : StreamSystem) (s : MachineState Group) : Type 0 where
  pub list : Stream
  pub there : stream_of w.catalog.stream source ≡ Some list
  pub built : Stream
  pub made : stream_of w.catalog.stream name ≡ Some built
  pub same : whole built ≡ whole list
  pub fence : built.fence ≡ list.fence
  pub closed : s.core.live ≡ None

module _ (generation : ℕ → ℕ) (source name : StreamName) (w : StreamSystem) (s : MachineState Group) (sent : List Sent) (a : Follows generation source w s sent)
    (stands : StandsAs source name w s) (nobody : NobodyAsked name w) where
  source_shaped : Shaped (Some stands.list) a.ground s sent
  source_shaped = subst (λ o. Shaped o a.ground s sent) stands.there a.shaped

  -- the stream has none of the numbers
  unnumbered : Shaped (Some stands.list) a.ground s []
  unnumbered =
      let b = source_shaped in
      record {
        settled = record {
          fence = b.settled.fence;
          counts = b.settled.counts;
          born = b.settled.born;
          made = b.settled.made;
          shut = λ index e at l. let k = b.settled.shut index e at l in record { shut = k.shut; is = k.is; tied = k.tied; sources = λ i c from is there p for. absurd cc };
          checked = b.settled.checked;
        };
        live = λ v is. absurd (let c : None ≡ Some v = sym stands.closed ∙ is in cc);
      }

  built_shaped : Shaped (stream_of w.catalog.stream name) a.ground s []
  built_shaped = subst (λ o. Shaped o a.ground s []) (sym stands.made) (same_shape stands.list stands.built a.ground s [] stands.same stands.fence unnumbered)

  -- its extents are sealed
  all_sealed : (index e : ℕ) → IsAt w name index e → sealed_lengths w.catalog e ≡ None → ⊥
  all_sealed index e at none =
      let own : slice_get (whole stands.list) index ≡ Some e = subst (λ xs. slice_get xs index ≡ Some e) stands.same (subst (λ o. slice_get (extents_of o) index ≡ Some e) stands.made at) in
      let within = slice_get_within (whole stands.list) index e own in
      let b = source_shaped.settled.shut index e own (omega (arith, within, source_shaped.settled.counts, ap one_if_live stands.closed)) in
      let c : None ≡ Some b.tied.length_at = sym none ∙ sym (sealed_same (w.catalog.extent e)) ∙ sym (a.holds.catalog.sealed e) ∙ b.tied.sealed in cc

  of_extent : (e : ℕ) (q : ReqNo) (P Q : ℕ → Type 0) → OfExtent generation source w s sent e q P → OfExtent generation name w s [] e q Q
  of_extent e q P Q x = record { made = x.made; unsealed = λ index at. absurd (all_sealed index e at.0 at.1); known = λ p for. absurd cc }

  of_stream : (Here : Type 0) (q : ReqNo) (Q : Type 0) → (Here → ⊥) → OfStream generation name w s [] Here q Q
  of_stream Here q Q none = record { here = λ h. absurd (none h); elsewhere = λ z. refl }

  built_asked : AllAsked generation name w s []
  built_asked server to (bodies.Append (Append e g blocks q)) c = of_extent e q _ _ (a.asked server to (bodies.Append (Append e g blocks q)) c)
  built_asked server to (bodies.Check (Check e g q)) c = of_extent e q _ _ (a.asked server to (bodies.Check (Check e g q)) c)
  built_asked server to (bodies.Read (ReadGroups e upto sealed q)) c = of_extent e q _ _ (a.asked server to (bodies.Read (ReadGroups e upto sealed q)) c)
  built_asked server to (bodies.Seal (SealExtent e q)) c = of_extent e q _ _ (a.asked server to (bodies.Seal (SealExtent e q)) c)
  built_asked server to (bodies.Stream (OpenStreams range g q)) c = of_stream (range ≡ name.range) q _ (λ here. nobody.opens server to range g q c here)
  built_asked server to (bodies.Stream (Confirm range g q)) c = of_stream (range ≡ name.range) q _ (λ here. nobody.confirms server to range g q c here)
  built_asked server to (bodies.Stream (Extend stream g last pick q)) c = of_stream (stream ≡ name) q _ (λ here. nobody.extends server to stream g last pick q c here)
  built_asked server to (bodies.Stream (MultiModify list q)) c = λ m among same. (stands.built, stands.made)
  built_asked server to body c = tt

  none_streamed : (o : Option ReqNo) (body : StreamBody) → StreamMeans generation name w s [] (purpose_if generation name w s [] o) body
  none_streamed None body = tt
  none_streamed (Some q) body = tt

  -- it goes on from there by itself, with no number of its own
  pub built_follows : Follows generation name w s []
  built_follows = record {
    ground = a.ground;
    holds = a.holds;
    shaped = built_shaped;
    rising = λ x is.
        let c : stands.built ≡ x = (let d : Some stands.built ≡ Some x = sym stands.made ∙ is in cc) in
        subst (λ (z : Stream). (i j e f : ℕ) → i < j → slice_get (whole z) i ≡ Some e → slice_get (whole z) j ≡ Some f → e < f) c
        (subst (λ xs. (i j e f : ℕ) → i < j → slice_get xs i ≡ Some e → slice_get xs j ≡ Some f → e < f) (sym stands.same) (a.rising stands.list stands.there));
    asked = built_asked;
    called = a.called;
    read = a.read;
    appended = a.appended;
    meant = λ p c server to. record {
      appended = λ q e o is. tt;
      checked = λ q l is. tt;
      streamed = λ body is. none_streamed (stream_meant body) body;
    };
  }

-- ---- what the manager leaves where it builds a stream

module _ (generation : ℕ → ℕ) (source : StreamName) (w : StreamSystem) (s : MachineState Group) (sent : List Sent) (a : Follows generation source w s sent) where
  -- where the last extent of the list is sealed, all are
  none_live : (x : Stream) → stream_of w.catalog.stream source ≡ Some x → (x.extents ≡ [] → x.gone ≡ []) →
      ((e : ℕ) → last_of x.extents ≡ Some e → (l : ℕ) × (sealed_lengths w.catalog e ≡ Some l)) → s.core.live ≡ None
  none_live x there ends closed = by_live s.core.live refl
    where
      by_live : (o : Option (OpenExtent Group)) → s.core.live ≡ o → s.core.live ≡ None
      by_live None is = is
      by_live (Some v) is =
          let b = a.shaped.live v is in
          let own : slice_get (whole x) (length s.core.shut) ≡ Some b.extent = subst (λ o. slice_get (extents_of o) (length s.core.shut) ≡ Some b.extent) there b.at in
          let counts : length (whole x) ≡ count s.core = subst (λ o. length (extents_of o) ≡ count s.core) there a.shaped.settled.counts in
          let one = ap one_if_live is in
          let last = last_at (whole x) (length s.core.shut) b.extent own (omega (arith, counts, one)) in
          let (l, sealed) = closed b.extent (sym (whole_last x ends) ∙ last) in
          absurd (let c : None ≡ Some l = sym b.tied.unsealed ∙ a.holds.catalog.sealed b.extent ∙ sealed_same (w.catalog.extent b.extent) ∙ sealed in cc)

  -- so it is of a source that a stream was built of, while the source stays as it is
  pub built_stands : (name : StreamName) (old : StreamSystem) → Goes old.post old.catalog w.catalog → IsListed w source → stream_of w.catalog.stream source ≡ stream_of old.catalog.stream source →
      (z : Stream) → stream_of w.catalog.stream name ≡ Some z → IsBuiltOf old.catalog source z → StandsAs source name w s
  built_stands name old goes listed kept z there of =
      let own : stream_of w.catalog.stream source ≡ Some of.list = kept ∙ of.there in
      record {
        list = of.list;
        there = own;
        built = z;
        made = there;
        same = of.same;
        fence = of.fence;
        closed = none_live of.list own (listed.listed of.list own).ends (λ e last. (let (l, is) = of.closed e last in (l, still_sealed e (old.catalog.extent e) refl l is)));
      }
    where
      still_sealed : (e : ℕ) (o : Option Extent) → old.catalog.extent e ≡ o → (l : ℕ) → sealed_lengths old.catalog e ≡ Some l → sealed_lengths w.catalog e ≡ Some l
      still_sealed e None none l is = absurd (let c : None ≡ Some l = sym (ap sealed_in none) ∙ is in cc)
      still_sealed e (Some y) there l is =
          let k = goes.kept e y there in
          ap sealed_in k.is ∙ k.sealed l (sym (ap sealed_in there) ∙ is)

-- ---- a stream that is not there yet, or has no extent

-- nobody has asked for it, and it has no extent
pub record IsUnborn (name : StreamName) (w : StreamSystem) : Type 0 where
  pub nobody : NobodyAsked name w
  pub empty : (x : Stream) → stream_of w.catalog.stream name ≡ Some x → whole x ≡ []

module _ (generation : ℕ → ℕ) (other name : StreamName) (w : StreamSystem) (s : MachineState Group) (sent : List Sent) (a : Follows generation other w s sent) (unborn : IsUnborn name w)
    (unbuilt : (server : ℕ) (to : ActorId) (list : List Modify) (q : ReqNo) (m : Modify) → Contains w.post (packet (Server server) to (bodies.Stream (MultiModify list q))) → Contains list m → m.stream ≡ name → IsThere w name) where
  abbrev first : MachineState Group
  first = nothing Group generation

  none_at : (index e : ℕ) → IsAt w name index e → ⊥
  none_at index e at = by_stream (stream_of w.catalog.stream name) refl at
    where
      by_stream : (o : Option Stream) → stream_of w.catalog.stream name ≡ o → slice_get (extents_of o) index ≡ Some e → ⊥
      by_stream None is at = cc
      by_stream (Some x) is at = let c : slice_get [] index ≡ Some e = subst (λ xs. slice_get xs index ≡ Some e) (unborn.empty x is) at in cc

  first_fence : (o : Option Stream) → FencedBy first o
  first_fence None = (refl, λ i n m. m)
  first_fence (Some x) = inr (refl, λ i n m. m)

  none_counted : (o : Option Stream) → stream_of w.catalog.stream name ≡ o → length (extents_of o) ≡ 0
  none_counted None is = refl
  none_counted (Some x) is = ap (λ (xs : List ℕ). length xs) (unborn.empty x is)

  first_shaped : Shaped (stream_of w.catalog.stream name) a.ground first []
  first_shaped = record {
    settled = record {
      fence = first_fence (stream_of w.catalog.stream name);
      counts = none_counted (stream_of w.catalog.stream name) refl;
      born = λ index e at. absurd (none_at index e at);
      made = λ index e at. absurd (none_at index e at);
      shut = λ index e at l. absurd (none_at index e at);
      checked = λ i index stood end m. absurd m;
    };
    live = λ v is. absurd cc;
  }

  first_extent : (e : ℕ) (q : ReqNo) (P Q : ℕ → Type 0) → OfExtent generation other w s sent e q P → OfExtent generation name w first [] e q Q
  first_extent e q P Q x = record { made = x.made; unsealed = λ index at. absurd (none_at index e at.0); known = λ p for. absurd cc }

  first_stream : (Here : Type 0) (q : ReqNo) (Q : Type 0) → (Here → ⊥) → OfStream generation name w first [] Here q Q
  first_stream Here q Q none = record { here = λ h. absurd (none h); elsewhere = λ z. refl }

  first_asked : AllAsked generation name w first []
  first_asked server to (bodies.Append (Append e g blocks q)) c = first_extent e q _ _ (a.asked server to (bodies.Append (Append e g blocks q)) c)
  first_asked server to (bodies.Check (Check e g q)) c = first_extent e q _ _ (a.asked server to (bodies.Check (Check e g q)) c)
  first_asked server to (bodies.Read (ReadGroups e upto sealed q)) c = first_extent e q _ _ (a.asked server to (bodies.Read (ReadGroups e upto sealed q)) c)
  first_asked server to (bodies.Seal (SealExtent e q)) c = first_extent e q _ _ (a.asked server to (bodies.Seal (SealExtent e q)) c)
  first_asked server to (bodies.Stream (OpenStreams range g q)) c = first_stream (range ≡ name.range) q _ (λ here. unborn.nobody.opens server to range g q c here)
  first_asked server to (bodies.Stream (Confirm range g q)) c = first_stream (range ≡ name.range) q _ (λ here. unborn.nobody.confirms server to range g q c here)
  first_asked server to (bodies.Stream (Extend stream g last pick q)) c = first_stream (stream ≡ name) q _ (λ here. unborn.nobody.extends server to stream g last pick q c here)
  first_asked server to (bodies.Stream (MultiModify list q)) c = λ m among same. unbuilt server to list q m c among same
  first_asked server to body c = tt

  first_streamed : (o : Option ReqNo) (body : StreamBody) → StreamMeans generation name w first [] (purpose_if generation name w first [] o) body
  first_streamed None body = tt
  first_streamed (Some q) body = tt

  -- its machine has done nothing, whatever has been done on other streams
  pub unborn_follows : Follows generation name w first []
  unborn_follows = record {
    ground = a.ground;
    holds = a.holds;
    shaped = first_shaped;
    rising = λ x is. subst (λ xs. (i j e f : ℕ) → i < j → slice_get xs i ≡ Some e → slice_get xs j ≡ Some f → e < f) (sym (unborn.empty x is)) (λ i j e f l at next. absurd cc);
    asked = first_asked;
    called = a.called;
    read = a.read;
    appended = a.appended;
    meant = λ p c server to. record {
      appended = λ q e o is. tt;
      checked = λ q l is. tt;
      streamed = λ body is. first_streamed (stream_meant body) body;
    };
  }

-- ---- from one stream system to the next

-- there is no such stream, and nobody has asked for it
pub record IsAbsent (name : StreamName) (w : StreamSystem) : Type 0 where
  pub nobody : NobodyAsked name w
  pub absent : stream_of w.catalog.stream name ≡ None

-- where it was asked to be built, it is built of one stream alone, which is there, and is of a range that has a number
abbrev pub BuildsAlone : StreamName → StreamSystem → Type 0
BuildsAlone name w = (b : BuildsStream w.post name) → (source : Source) × (b.entry.sources ≡ source ∷ []) × (1 ≤ source.stream.range) × IsThere w source.stream

-- the machine of a stream, and its numbers
pub record Followed (generation : ℕ → ℕ) (name : StreamName) (v : StreamSystem) : Type 0 where
  pub state : MachineState Group
  pub sent : List Sent
  pub follows : Follows generation name v state sent
  pub listed : IsListed v name

module _ (generation : ℕ → ℕ) (name : StreamName) (plain : name.kind ≢ BlobData) (w v : StreamSystem) (goes : Goes w.post w.catalog v.catalog) (asks : ServersAsk w.post) where
  -- it stands as a source of its kind does, whose machine is the beginning of its own
  pub record BornOf : Type 0 where
    pub source : StreamName
    pub kind : source.kind ≡ name.kind
    pub counted : 1 ≤ source.range
    pub there : IsThere w source
    pub stands : (f : Followed generation source v) → StandsAs source name v f.state

  -- how a stream that was absent is there
  abbrev pub IsBorn : Type 0
  IsBorn = ((x : Stream) → stream_of v.catalog.stream name ≡ Some x → whole x ≡ []) ⊎ BornOf

  first_kind : (kind : StreamKind) (source : Source) (sources : List Source) → sources ≡ source ∷ [] → Each (λ (s : Source). s.stream.kind ≡ kind) sources → source.stream.kind ≡ kind
  first_kind kind source sources one each = (subst (Each (λ (s : Source). s.stream.kind ≡ kind)) one each).0

  built_kind : (b : BuildsStream w.post name) (source : Source) → b.entry.sources ≡ source ∷ [] → source.stream.kind ≡ name.kind
  built_kind b source one =
      let (server, kinds) = asks b.packet b.list b.request b.sent b.body in
      let (same, among) = each-contains (λ m. IsOfOneKind m × Contains b.list m) b.list b.entry (entries_of b.list kinds) b.among in
      first_kind b.entry.stream.kind source b.entry.sources one same ∙ ap (λ (n : StreamName). n.kind) b.name

  pub born : stream_of w.catalog.stream name ≡ None → BuildsAlone name w → IsBorn
  born absent alone = by_stream (stream_of v.catalog.stream name) refl
    where
      is_empty : (z : Stream) → stream_of v.catalog.stream name ≡ Some z → whole z ≡ [] → IsBorn
      is_empty z there none = inl (λ x is. (let c : z ≡ x = (let d : Some z ≡ Some x = sym there ∙ is in cc) in ap whole (sym c) ∙ none))

      is_built : (z : Stream) → stream_of v.catalog.stream name ≡ Some z → KeepsAll w.catalog v.catalog → Built w.post w.catalog name z → IsBorn
      is_built z there keeps b =
          let (source, one, counted, (x, was)) = alone b.asked in
          inr (record {
            source = source.stream;
            kind = built_kind b.asked source one;
            counted = counted;
            there = (x, was);
            stands = λ f. built_stands generation source.stream v f.state f.sent f.follows name w goes f.listed (keeps source.stream x was ∙ sym was) z there (b.alone source one x was);
          })

      by_list : (z : Stream) → stream_of v.catalog.stream name ≡ Some z → KeepsAll w.catalog v.catalog → IsBorn
      by_list z there keeps = elim (goes.lists name z there) [
        | inl o ↦ absurd (let c : None ≡ Some o.was = sym absent ∙ o.there in cc)
        | inr n ↦ elim n [
          | inl e ↦ is_empty z there (none_whole z e.0 e.1)
          | inr k ↦ elim k [
            | inl g ↦ absurd (let c : None ≡ Some g.1.was = sym absent ∙ g.1.there in cc)
            | inr h ↦ elim h [ inl g ↦ absurd (plain g.kind) | inr b ↦ is_built z there keeps b ]
          ]
        ]
      ]

      by_stream : (o : Option Stream) → stream_of v.catalog.stream name ≡ o → IsBorn
      by_stream None none = inl (λ x is. absurd (let c : None ≡ Some x = sym none ∙ is in cc))
      by_stream (Some z) there = elim goes.brings [ inl empty ↦ is_empty z there (empty name z absent there) | inr keeps ↦ by_list z there keeps ]

-- ---- from one move to the next

module _ (generation : ℕ → ℕ) (nodes target : ℕ) where
  -- what was done on a stream up to these moves, and its numbers
  pub record Machine (name : StreamName) (moves : List Move) : Type 0 where
    pub done : List (machine.Move Group generation)
    pub are : AreMoves Group generation done
    pub sent : List Sent
    pub below : Below generation name nodes target moves (after_all Group generation done) sent

  -- the system after these moves
  abbrev pub now : List Move → StreamSystem
  now moves = system generation (record { range = 0; kind = kinds.Metadata }) nodes target moves

  abbrev as_followed : (name : StreamName) → name.kind ≢ BlobData → (moves : List Move) → Machine name moves → Followed generation name (now moves)
  as_followed name plain moves m = record {
    state = (after_all Group generation m.done).state;
    sent = m.sent;
    follows = m.below.follows;
    listed = listed_now generation name nodes target plain moves (after_all Group generation m.done) m.sent m.below;
  }

  -- A stream that is there now: nothing was done on it, or what was done on the source that it was built of.
  pub record Begins (name : StreamName) (before moves : List Move) : Type 0 where
    pub own : Machine name moves
    pub unnumbered : own.sent ≡ []
    pub from : (own.done ≡ []) ⊎ ((source : StreamName) × (kind : source.kind ≡ name.kind) × (there : IsThere (now before) source) × (m : Machine source moves) × (own.done ≡ m.done))

  module _ (name : StreamName) (plain : name.kind ≢ BlobData) (other : StreamName) (moves : List Move) (move : Move) (was : Machine other moves) (is : Machine other (moves ++ move ∷ []))
      (sources : (source : StreamName) → source.kind ≡ name.kind → 1 ≤ source.range → IsThere (now moves) source → Machine source (moves ++ move ∷ []))
      (absent : IsAbsent name (now moves)) (alone : BuildsAlone name (now moves)) (nobody : NobodyAsked name (now (moves ++ move ∷ []))) where
    abbrev w : StreamSystem
    w = now moves

    abbrev v : StreamSystem
    v = now (moves ++ move ∷ [])

    asks_before : ServersAsk w.post
    asks_before = servers_ask nodes target moves

    goes_on : Goes w.post w.catalog v.catalog
    goes_on =
        subst (λ (u : StreamSystem). Goes w.post w.catalog u.catalog) (sym (run_moves_push moves move (start nodes target)))
        (moved_goes w (was.below.follows.holds.catalog.fresh (suc w.catalog.count) (omega arith)) asks_before move)

    abbrev From : List (machine.Move Group generation) → Type 0
    From done = (done ≡ []) ⊎ ((source : StreamName) × (kind : source.kind ≡ name.kind) × (there : IsThere w source) × (m : Machine source (moves ++ move ∷ [])) × (done ≡ m.done))

    begins_with : (done : List (machine.Move Group generation)) → AreMoves Group generation done → Follows generation name v (after_all Group generation done).state [] → From done → Begins name moves (moves ++ move ∷ [])
    begins_with done are follows from = record {
      own = record { done = done; are = are; sent = []; below = is_below generation name nodes target (moves ++ move ∷ []) (after_all Group generation done) [] follows };
      unnumbered = refl;
      from = from;
    }

    -- it is absent still, or begins
    pub below_born : (stream_of v.catalog.stream name ≡ None) ⊎ Begins name moves (moves ++ move ∷ [])
    below_born = by_stream (stream_of v.catalog.stream name) refl
      where
        by_stream : (o : Option Stream) → stream_of v.catalog.stream name ≡ o → (stream_of v.catalog.stream name ≡ None) ⊎ Begins name moves (moves ++ move ∷ [])
        by_stream None none = inl none
        by_stream (Some z) there = elim (born generation name plain w v goes_on asks_before absent.absent alone) [
          | inl empty ↦
              let follows = unborn_follows generation other name v (after_all Group generation is.done).state is.sent is.below.follows (record { nobody = nobody; empty = empty }) (λ server to list q m c among same. (z, there)) in
              inr (begins_with [] tt follows (inl refl))
          | inr b ↦
              let m : Machine b.source (moves ++ move ∷ []) = sources b.source b.kind b.counted b.there in
              let f = as_followed b.source (λ blob. plain (sym b.kind ∙ blob)) (moves ++ move ∷ []) m in
              let follows = built_follows generation b.source name v (after_all Group generation m.done).state m.sent m.below.follows (b.stands f) nobody in
              inr (begins_with m.done m.are follows (inr (b.source, b.kind, b.there, m, refl)))
        ]
