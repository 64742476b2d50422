-- The manager's rules for packets show nothing.
use Rattle.std.proofs.Common.{◌≡◌, ℕ, Bool, true, false, List, [], Option, Some, None, Result, Ok, Err, refl}
use Rattle.block_types.specs.declared.record.Nodes.{Nodes}
use Rattle.wire.specs.declared.actor.ActorId.TheVariants.{Manager}
use Rattle.wire.specs.declared.actor.ReqNo.{ReqNo}
use Rattle.wire.specs.declared.body.Body.{Body}
use Rattle.wire.specs.declared.body.Body.TheVariants as bodies
use Rattle.wire.specs.declared.body.SealBody.{SealBody}
use Rattle.wire.specs.declared.body.SealBody.TheVariants.{SealExtent, Frozen, IsSealed, Short}
use Rattle.wire.specs.declared.body.StreamBody.{StreamBody}
use Rattle.wire.specs.declared.body.StreamBody.TheVariants.{CreateStream, OpenStreams, Confirm, Confirmed, Extend, Trim, MultiModify}
use Rattle.wire.specs.declared.packet.Packet.{Packet}
use Rattle.wire.specs.declared.refusal.Refusal.{Refusal}
use Rattle.wire.specs.declared.streams.Modify.{Modify}
use Rattle.wire.specs.declared.streams.StreamName.{StreamName}
use Rattle.model_streams.specs.declared.extent.Extent.{Extent}
use Rattle.model_streams.specs.Actors.{is_user}
use Rattle.model_streams.specs.Outcome.{Outcome, or_refused, silent}
use Rattle.streams.specs.Streams.{stream_of, extending, trimming}
use Rattle.model_streams.specs.Manager.{Catalog, answer, asks_tail, confirm_refusal, create_refusal, create_taken, extend_answered, extend_picked, extend_rule, frozen_rule, is_foreign, is_pick, is_sealed_rule, is_there, last_told, modify_refusal, modify_taken, open_refusal, open_taken, sealed_lengths, manager_rule, noted, seal_asked, seal_body_rule, seal_extent_rule, short_rule, stream_body_rule, trim_answered, trim_rule, with_report, frozen_to, known_sealed, first_sealed, place_of}
use Rattle.model_streams.proofs.Tests.{if_elim}

abbrev IsQuiet : Outcome Catalog → Type 0
IsQuiet o = o.notes ≡ []

created : (b : Catalog) (p : Packet) (s : StreamName) (fence : ℕ) (q : ReqNo) (x : Option Refusal) → IsQuiet (or_refused b Manager p q x (create_taken b p s fence q))
created b p s fence q None = refl
created b p s fence q (Some refusal) = refl

opened : (b : Catalog) (p : Packet) (range generation : ℕ) (q : ReqNo) (x : Option Refusal) → IsQuiet (or_refused b Manager p q x (open_taken b p range generation q))
opened b p range generation q None = refl
opened b p range generation q (Some refusal) = refl

confirmed : (b : Catalog) (p : Packet) (q : ReqNo) (x : Option Refusal) → IsQuiet (or_refused b Manager p q x (answer b p (Confirmed q)))
confirmed b p q None = refl
confirmed b p q (Some refusal) = refl

picked : (b : Catalog) (p : Packet) (s : StreamName) (generation : ℕ) (pick : Nodes) (q : ReqNo) → IsQuiet (extend_picked b p s generation pick q)
picked b p s generation pick q = if_elim IsQuiet (is_pick b.nodes pick) _ _ (λ t. refl) (λ f. refl)

named : (b : Catalog) (p : Packet) (e : ℕ) (x : Option Extent) (q : ReqNo) → IsQuiet (last_told b p e x q)
named b p e None q = refl
named b p e (Some x) q = refl

extended : (b : Catalog) (p : Packet) (s : StreamName) (generation : ℕ) (pick : Nodes) (q : ReqNo) (x : Result (Option ℕ) Refusal) → IsQuiet (extend_answered b p s generation pick q x)
extended b p s generation pick q (Err refusal) = refl
extended b p s generation pick q (Ok None) = picked b p s generation pick q
extended b p s generation pick q (Ok (Some e)) = named b p e (b.extent e) q

lengthened : (b : Catalog) (p : Packet) (s : StreamName) (generation : ℕ) (last : Option ℕ) (pick : Nodes) (q : ReqNo) → IsQuiet (extend_rule b p s generation last pick q)
lengthened b p s generation last pick q =
    if_elim IsQuiet (is_foreign p.from s.range) _ _
    (λ t. refl)
    (λ f. extended b p s generation pick q (extending (sealed_lengths b) (stream_of b.stream s) generation last))

trimmed : (b : Catalog) (p : Packet) (range before : ℕ) (to_blob : Bool) (q : ReqNo) (x : Result Bool Refusal) → IsQuiet (trim_answered b p range before to_blob q x)
trimmed b p range before to_blob q (Err refusal) = refl
trimmed b p range before to_blob q (Ok false) = refl
trimmed b p range before to_blob q (Ok true) = refl

shortened : (b : Catalog) (p : Packet) (range generation before : ℕ) (to_blob : Bool) (q : ReqNo) → IsQuiet (trim_rule b p range generation before to_blob q)
shortened b p range generation before to_blob q =
    if_elim IsQuiet (is_user p.from) _ _ (λ t. refl) (λ f. trimmed b p range before to_blob q (trimming b.stream range generation before))

modified : (b : Catalog) (p : Packet) (list : List Modify) (q : ReqNo) (x : Option Refusal) → IsQuiet (or_refused b Manager p q x (modify_taken b p list q))
modified b p list q None = refl
modified b p list q (Some refusal) = refl

called : (b : Catalog) (p : Packet) (body : StreamBody) → IsQuiet (stream_body_rule b p body)
called b p (CreateStream s fence q) = created b p s _ q (create_refusal b p s)
called b p (OpenStreams range generation q) = opened b p range generation q (open_refusal b p range generation)
called b p (Confirm range generation q) = confirmed b p q (confirm_refusal b p range generation)
called b p (Extend s generation last pick q) = lengthened b p s _ last pick q
called b p (Trim range generation before to_blob q) = shortened b p range generation before to_blob q
called b p (MultiModify list q) = modified b p list q (modify_refusal b p list)
called b p body = refl

asked : (b : Catalog) (p : Packet) (e : ℕ) (q : ReqNo) (x : Extent) (length : Option ℕ) → IsQuiet (seal_asked b p e q x length)
asked b p e q x None = refl
asked b p e q x (Some length) = refl

sealed : (b : Catalog) (p : Packet) (e : ℕ) (q : ReqNo) (x : Option Extent) → IsQuiet (seal_extent_rule b p e q x)
sealed b p e q None = refl
sealed b p e q (Some x) = asked b p e q x x.sealed

heard : (b : Catalog) (e : ℕ) (x : Option Extent) → IsQuiet (noted b e x)
heard b e None = refl
heard b e (Some x) = refl

froze : (b : Catalog) (p : Packet) (e length : ℕ) (x : Option Extent) → IsQuiet (frozen_rule b p e length x)
froze b p e length None = refl
froze b p e length (Some x) =
    if_elim IsQuiet (is_there x.sealed) (silent b) (noted b e (with_report x p.from (frozen_to length)))
    (λ t. refl) (λ f. heard b e (with_report x p.from (frozen_to length)))

known : (b : Catalog) (p : Packet) (e : ℕ) (x : Option Extent) → IsQuiet (is_sealed_rule b p e x)
known b p e None = refl
known b p e (Some x) = heard b e (with_report x p.from known_sealed)

tails : (b : Catalog) (e from : ℕ) (to n : Option ℕ) → IsQuiet (asks_tail b e from to n)
tails b e from (Some to) (Some n) = refl
tails b e from None None = refl
tails b e from (Some to) None = refl
tails b e from None (Some n) = refl

short : (b : Catalog) (p : Packet) (e length : ℕ) (x : Option Extent) → IsQuiet (short_rule b p e length x)
short b p e length None = refl
short b p e length (Some x) =
    if_elim IsQuiet (is_there x.sealed) (asks_tail b e length (place_of x.places p.from) (first_sealed x)) (silent b)
    (λ t. tails b e length (place_of x.places p.from) (first_sealed x)) (λ f. refl)

closed : (b : Catalog) (p : Packet) (body : SealBody) → IsQuiet (seal_body_rule b p body)
closed b p (SealExtent e q) = sealed b p e q (b.extent e)
closed b p (Frozen e length) = froze b p e length (b.extent e)
closed b p (IsSealed e) = known b p e (b.extent e)
closed b p (Short e length) = short b p e length (b.extent e)
closed b p body = refl

pub rule_quiet : (b : Catalog) (p : Packet) (body : Body) → IsQuiet (manager_rule b p body)
rule_quiet b p (bodies.Stream body) = called b p body
rule_quiet b p (bodies.Seal body) = closed b p body
rule_quiet b p body = refl
