-- The worked split, to whose server the map and the manager answer by their tables: so the law of servers is one of it, and what it shows replays.
use Rattle.std.proofs.Common.{◌≡◌, ◌⊎◌, ◌<◌, ◌==◌, ℕ, zero, suc, Bool, true, false, List, [], ◌∷◌, ◌++◌, Option, Some, None, Contains, refl, sym, ap, ◌∙◌, subst, inl, inr, arith, if◌then◌else◌}
use Rattle.std.proofs.lemmas.Bool.{cases_eq}
use Rattle.std.proofs.lemmas.Option.{same_Some}
use Rattle.std.proofs.lemmas.List.Elements.{Contains-append_left, Contains-append_right, Contains-append_cases}
use Rattle.blocks.specs.Record as numbers
use Rattle.checkpoint_format.specs.Index as index_reading
use Rattle.metadata.specs.Reading as reading
use Rattle.wire.specs.declared.actor.ActorId.{ActorId}
use Rattle.wire.specs.declared.actor.ActorId.TheVariants.{Map, Manager, Node}
use Rattle.wire.specs.declared.actor.ReqNo.{ReqNo}
use Rattle.wire.specs.declared.body.AppendBody.TheVariants as appends
use Rattle.wire.specs.declared.body.Body.{Body}
use Rattle.wire.specs.declared.body.Body.TheVariants as bodies
use Rattle.wire.specs.declared.body.CheckBody.TheVariants as checks
use Rattle.wire.specs.declared.body.ReadBody.TheVariants as reads
use Rattle.wire.specs.declared.body.MapBody.{MapBody}
use Rattle.wire.specs.declared.body.MapBody.TheVariants as maps
use Rattle.wire.specs.declared.body.StreamBody.TheVariants as streams
use Rattle.wire.specs.declared.note.Note.{Note}
use Rattle.wire.specs.declared.packet.Packet.{Packet}
use Rattle.wire.specs.declared.refusal.Refusal.TheVariants as refusals
use Rattle.wire.specs.declared.rows.Row.{Row}
use Rattle.wire.specs.declared.streams.Modify.{Modify}
use Rattle.wire.specs.declared.streams.StreamKind.TheVariants as kinds
use Rattle.model_partition.specs.declared.split_job.SplitJob.{SplitJob}
use Rattle.model_partition.specs.declared.split_job.SplitPhase.TheVariants as phases
use Rattle.model_partition.specs.Past.{Bytes, Replays}
use Rattle.model_partition.specs.Splits.{all_streams, built_stream}
use Rattle.model_histories.specs.ServedTables.{AllStand, AreSeenAs}
use Rattle.model_histories.specs.ServerRun.{ServerEvent, Takes, GivesUp, Checkpoints, Splits, Stops, Starts, Moment, Builds}
use Rattle.laws_map.specs.Generations.{HasAsked}
use Rattle.laws_map.specs.GivenPairs.{AsksToComplete}
use Rattle.laws_map.specs.Stages.{TellsBuilt}
use Rattle.laws_map.proofs.Knowing.{each_has}
use Rattle.laws_map.proofs.StagesKept.{sides_of}
use Rattle.laws_server_runs.specs.Answerers.{AskedSplit, split_asked, MapBook, AreGiven, TellsOfMap, TellsOfStreams, AsksForStreams, IsBuiltOf, IsAnswered, AreAnswered, sent_by, IsShownSplit, ShareLoads, AllAreShown}
use Rattle.laws_server_runs.specs.ChildInvariant.{IsBuiltBy}
use Rattle.laws_server_runs.specs.FamilyMembers.{of_servers}
use Rattle.laws_server_runs.proofs.AnsweredReplays.{answered_replays}
use Rattle.laws_server_runs.proofs.Worked.{comes, asked, lists}
use Rattle.laws_server_runs.proofs.WorkedBirths.{built_none, sealed_log, built_low, told_built, said_both}
use Rattle.laws_server_runs.proofs.WorkedReplays.{checkpoint_record, index, low_lists, loaded_low, run, bytes_at, own_bytes, in_order, same_copies, unnumbered, h, is_child, untold}
use Rattle.laws_server_runs.proofs.WorkedSplits.{begun, key, split_record, low_keys, high_keys, stands_at, grows_to, sealed_at}

-- ---- what was asked for in a list of packets

abbrev begin_of : Body → List (ReqNo × AskedSplit)
begin_of (bodies.Map (maps.BeginSplit range generation key q)) = (q, split_asked range generation key) ∷ []
begin_of body = []

abbrev list_of : Body → List (List Modify × ReqNo)
list_of (bodies.Stream (streams.MultiModify list q)) = (list, q) ∷ []
list_of body = []

abbrev end_of : Body → List (ℕ × ℕ)
end_of (bodies.Map (maps.CompleteSplit range generation q)) = (range, generation) ∷ []
end_of body = []

-- what is found of each body
module _ {A : Type 0} (found : Body → List A) where
  abbrev all_found : List Packet → List A
  all_found [] = []
  all_found (p ∷ packets) = found p.body ++ all_found packets

  found_in : (packets : List Packet) (p : Packet) (x : A) → Contains packets p → Contains (found p.body) x → Contains (all_found packets) x
  found_in [] p x (k, less, is) here = absurd (omega (arith, less))
  found_in (y ∷ packets) p x (zero, less, is) here = Contains-append_left (found y.body) (all_found packets) x (subst (λ (z : Packet). Contains (found z.body) x) (sym is) here)
  found_in (y ∷ packets) p x (suc k, less, is) here = Contains-append_right (found y.body) (all_found packets) x (found_in packets p x (k, omega (arith, less), is) here)

  record FoundAt (packets : List Packet) (x : A) : Type 0 where
    packet : Packet
    among : Contains packets packet
    is : Contains (found packet.body) x

  found_at : (packets : List Packet) (x : A) → Contains (all_found packets) x → FoundAt packets x
  found_at [] x (k, less, is) = absurd (omega (arith, less))
  found_at (y ∷ packets) x there = elim (Contains-append_cases (found y.body) (all_found packets) x there) [
    | inl here ↦ record { packet = y; among = (zero, omega arith, refl); is = here }
    | inr later ↦ (let f = found_at packets x later in record { packet = f.packet; among = (suc f.among.0, (let l = f.among.1 in omega (arith, l)), f.among.2); is = f.is })
  ]

only_one : {A : Type 0} (x y : A) → Contains (x ∷ []) y → x ≡ y
only_one x y (zero, less, is) = is
only_one x y (suc k, less, is) = absurd (omega (arith, less))

asked_in : (sent : List Packet) (q : ReqNo) (range generation : ℕ) (key : List ℕ) → HasAsked sent q range generation key → Contains (all_found begin_of sent) (q, split_asked range generation key)
asked_in sent q range generation key a = found_in begin_of sent a.packet (q, split_asked range generation key) a.sent (subst (λ b. Contains (begin_of b) (q, split_asked range generation key)) (sym a.is) (zero, omega arith, refl))

list_in : (sent : List Packet) (list : List Modify) (q : ReqNo) → AsksForStreams sent list q → Contains (all_found list_of sent) (list, q)
list_in sent list q a = found_in list_of sent a.packet (list, q) a.among (subst (λ b. Contains (list_of b) (list, q)) (sym a.is) (zero, omega arith, refl))

nothing_in : {A : Type 0} (x : A) → Contains [] x → ⊥
nothing_in x (k, less, is) = omega (arith, less)

begin_is : (body : Body) (q : ReqNo) (split : AskedSplit) → Contains (begin_of body) (q, split) → body ≡ bodies.Map (maps.BeginSplit split.range split.generation split.key q)
begin_is (bodies.Map (maps.BeginSplit range generation key w)) q split there =
    let e : (w, split_asked range generation key) ≡ (q, split) = only_one (w, split_asked range generation key) (q, split) there in
    λ i. bodies.Map (maps.BeginSplit (e i).1.range (e i).1.generation (e i).1.key (e i).0)
begin_is (bodies.Map body) q split there = absurd (nothing_in _ there)
begin_is body q split there = absurd (nothing_in _ there)

list_is : (body : Body) (list : List Modify) (q : ReqNo) → Contains (list_of body) (list, q) → body ≡ bodies.Stream (streams.MultiModify list q)
list_is (bodies.Stream (streams.MultiModify l w)) list q there = let e : (l, w) ≡ (list, q) = only_one (l, w) (list, q) there in λ i. bodies.Stream (streams.MultiModify (e i).0 (e i).1)
list_is (bodies.Stream body) list q there = absurd (nothing_in _ there)
list_is body list q there = absurd (nothing_in _ there)

end_is : (body : Body) (range generation : ℕ) → Contains (end_of body) (range, generation) → (q : ReqNo) × (body ≡ bodies.Map (maps.CompleteSplit range generation q))
end_is (bodies.Map (maps.CompleteSplit n g q)) range generation there = let e : (n, g) ≡ (range, generation) = only_one (n, g) (range, generation) there in (q, λ i. bodies.Map (maps.CompleteSplit (e i).0 (e i).1 q))
end_is (bodies.Map body) range generation there = absurd (nothing_in _ there)
end_is body range generation there = absurd (nothing_in _ there)

asked_at : (sent : List Packet) (q : ReqNo) (split : AskedSplit) → Contains (all_found begin_of sent) (q, split) → HasAsked sent q split.range split.generation split.key
asked_at sent q split there = let f = found_at begin_of sent (q, split) there in record { packet = f.packet; sent = f.among; is = begin_is f.packet.body q split f.is }

list_at : (sent : List Packet) (list : List Modify) (q : ReqNo) → Contains (all_found list_of sent) (list, q) → AsksForStreams sent list q
list_at sent list q there = let f = found_at list_of sent (list, q) there in record { packet = f.packet; among = f.among; is = list_is f.packet.body list q f.is }

ended_at : (sent : List Packet) (range generation : ℕ) → Contains (all_found end_of sent) (range, generation) → AsksToComplete sent range generation
ended_at sent range generation there = let f = found_at end_of sent (range, generation) there in let e = end_is f.packet.body range generation f.is in record { packet = f.packet; request = e.0; sent = f.among; is = e.1 }

-- ---- what owes nothing

-- it tells of no streams that are built
abbrev tells_built : Body → Bool
tells_built (bodies.Stream (streams.Modified q)) = true
tells_built (bodies.Append (appends.Refused q refusals.NameTaken)) = true
tells_built body = false

-- nor does it assign, or give numbers
abbrev gives : Body → Bool
gives (bodies.Map (maps.Assign range generation until)) = true
gives (bodies.Map (maps.SplitBegun q low high)) = true
gives body = false

abbrev owes : Body → Bool
owes body = if gives body then true else tells_built body

owes_none : (body : Body) → owes body ≡ false → (gives body ≡ false) × (tells_built body ≡ false)
owes_none body none = by (gives body) refl
  where
    by : (b : Bool) → gives body ≡ b → (gives body ≡ false) × (tells_built body ≡ false)
    by true e = absurd (let z : true ≡ false = sym (ap (λ b. if b then true else tells_built body) e) ∙ none in cc)
    by false e = (e, sym (ap (λ b. if b then true else tells_built body) e) ∙ none)

told_so : (q : ReqNo) (body : Body) → TellsBuilt q body → tells_built body ≡ true
told_so q body (inl is) = ap tells_built is
told_so q body (inr is) = ap tells_built is

module _ (b : MapBook) (sent : List Packet) (IsBuilt : ℕ → Type 0) where
  map_owes : (server : ℕ) (body : MapBody) → gives (bodies.Map body) ≡ false → TellsOfMap b sent server Map (bodies.Map body)
  map_owes server (maps.Assign range generation until) none = absurd cc
  map_owes server (maps.SplitBegun q low high) none = absurd cc
  map_owes server body none = tt

  of_map : (server : ℕ) (from : ActorId) (body : Body) → gives body ≡ false → TellsOfMap b sent server from body
  of_map server Map (bodies.Map body) none = map_owes server body none
  of_map server from body none = tt

  of_streams : (from : ActorId) (body : Body) → tells_built body ≡ false → TellsOfStreams sent IsBuilt from body
  of_streams from body none may q tells = absurd (let z : true ≡ false = sym (told_so q body tells) ∙ none in cc)

  abbrev IsPlain : ServerEvent → Bool
  IsPlain (Takes s p) = if owes p.body then false else true
  IsPlain (Builds source range) = false
  IsPlain event = true

  plain_answered : (event : ServerEvent) → IsPlain event ≡ true → IsAnswered b sent IsBuilt event
  plain_answered (Takes s p) plain = by (owes p.body) refl
    where
      by : (o : Bool) → owes p.body ≡ o → IsAnswered b sent IsBuilt (Takes s p)
      by true e = absurd (let z : false ≡ true = sym (ap (λ o. if o then false else true) e) ∙ plain in cc)
      by false e = let n = owes_none p.body e in (of_map s p.from p.body n.0, of_streams p.from p.body n.1)
  plain_answered (Builds source range) plain = absurd cc
  plain_answered (GivesUp s range pick) plain = tt
  plain_answered (Checkpoints s range combine) plain = tt
  plain_answered (Splits s range key) plain = tt
  plain_answered (Stops s call) plain = tt
  plain_answered (Starts s now size) plain = tt
  plain_answered (Moment now) plain = tt

-- ---- the worked split

-- the range's split under its first generation, whose two ranges have the numbers 2 and 3
abbrev split : AskedSplit
split = split_asked 1 1 key

abbrev given_in : ℕ → Option AskedSplit
given_in n = if n == 2 then Some split else if n == 3 then Some split else None

abbrev pub book : MapBook
book = record { low = λ asked. 2; high = λ asked. 3; given = given_in; holder = λ range generation. 1; last = λ range. if range == 1 then Some 1 else None }

given : AreGiven book split 2 3
given = record { low_is = refl; high_is = refl; low_given = refl; high_given = refl; apart = λ e. absurd cc }

abbrev sent : List ServerEvent → List Packet
sent events = sent_by 1 1 events

abbrev Answered : List ServerEvent → Type 0
Answered events = AreAnswered book 1 1 events

abbrev Plain : ServerEvent → Bool
Plain event = IsPlain book [] (λ n. ⊥) event

-- one event more, which owes nothing
plainly : (event : ServerEvent) (earlier : List ServerEvent) → Plain event ≡ true → Answered earlier → Answered (event ∷ earlier)
plainly event earlier plain before = (plain_answered book (sent earlier) (IsBuiltBy earlier) event plain, before)

-- and some
abbrev ArePlain : List ServerEvent → Bool
ArePlain [] = true
ArePlain (event ∷ late) = if Plain event then ArePlain late else false

all_plainly : (late early : List ServerEvent) → ArePlain late ≡ true → Answered early → Answered (late ++ early)
all_plainly [] early plain before = before
all_plainly (event ∷ late) early plain before = by (Plain event) refl (λ rest. all_plainly late early rest before)
  where
    by : (b : Bool) → Plain event ≡ b → (ArePlain late ≡ true → Answered (late ++ early)) → Answered (event ∷ (late ++ early))
    by true e rest = plainly event (late ++ early) e (rest (sym (ap (λ b. if b then ArePlain late else false) e) ∙ plain))
    by false e rest = absurd (let z : false ≡ true = sym (ap (λ b. if b then ArePlain late else false) e) ∙ plain in cc)

-- the range is assigned
first_assigned : Answered (comes 1 Map (bodies.Map (maps.Assign 1 1 100)) ∷ [])
first_assigned = (
  (
    record { holder = refl; completed = λ s is. absurd cc; above = λ s is. absurd cc; last = λ g is. (let e : 1 ≡ g = cc in omega (arith, e)) },
    of_streams book [] (λ n. ⊥) Map (bodies.Map (maps.Assign 1 1 100)) refl,
  ),
  tt,
)

abbrev served : List ServerEvent
served =
    Splits 1 1 key
    ∷ comes 1 Manager (bodies.Stream (streams.Confirmed (asked 1 2)))
    ∷ comes 1 Manager (bodies.Stream (streams.Opened (asked 1 1) (lists [])))
    ∷ comes 1 Map (bodies.Map (maps.Assign 1 1 100))
    ∷ []

served_answered : Answered served
served_answered =
    all_plainly (Splits 1 1 key ∷ comes 1 Manager (bodies.Stream (streams.Confirmed (asked 1 2))) ∷ comes 1 Manager (bodies.Stream (streams.Opened (asked 1 1) (lists []))) ∷ []) (comes 1 Map (bodies.Map (maps.Assign 1 1 100)) ∷ []) refl first_assigned

-- its split was asked for, and no other
one_begun : all_found begin_of (sent served) ≡ (asked 1 4, split) ∷ []
unfolding numbers.number
one_begun = refl

begun_answered : Answered begun
begun_answered = (
  (
    λ range generation other a.
        (let e : (asked 1 4, split) ≡ (asked 1 4, split_asked range generation other) =
        only_one (asked 1 4, split) (asked 1 4, split_asked range generation other) (subst (λ l. Contains l (asked 1 4, split_asked range generation other)) one_begun (asked_in (sent served) (asked 1 4) range generation other a)) in
        subst (λ s. AreGiven book s 2 3) (ap (λ (x : ReqNo × AskedSplit). x.1) e) given),
    of_streams book (sent served) (IsBuiltBy served) Map (bodies.Map (maps.SplitBegun (asked 1 4) 2 3)) refl,
  ),
  served_answered,
)

sealed_answered : Answered sealed_log
sealed_answered =
    all_plainly
    (sealed_at 13 20 9 ∷ sealed_at 12 30 74 ∷ stands_at 10 30 46 ∷ comes 1 Manager (bodies.Stream (streams.Trimmed (asked 1 9))) ∷ stands_at 8 30 0 ∷ grows_to 7 30 ∷ stands_at 6 20 0 ∷ grows_to 5 20 ∷ []) begun refl begun_answered

-- its streams are asked for, and no others
abbrev job : SplitJob
job = record { range = 1; generation = 1; key = key; low = 2; high = 3; number = 2; phase = phases.Build (asked 1 14) }

one_list : all_found list_of (sent sealed_log) ≡ (all_streams job, asked 1 14) ∷ []
unfolding numbers.number
one_list = refl

asks_list : AsksForStreams (sent sealed_log) (all_streams job) (asked 1 14)
asks_list = list_at (sent sealed_log) (all_streams job) (asked 1 14) (subst (λ l. Contains l (all_streams job, asked 1 14)) (sym one_list) (zero, omega arith, refl))

named : (n k : ℕ) → Contains (all_streams job) (built_stream job n kinds.Metadata) → IsBuiltOf (all_streams job) 1 n
named n k among = record { entry = built_stream job n kinds.Metadata; among = among; range_is = refl; stream = record { stream = record { range = 1; kind = kinds.Metadata }; generation = 1 }; named = (zero, omega arith, refl); source_is = refl }

low_answered : Answered built_low
low_answered = (record { new = built_none 2 sealed_log tt; list = all_streams job; request = asked 1 14; asked = asks_list; named = named 2 0 (zero, omega arith, refl) }, sealed_answered)

-- more is sent by nobody while streams are built
later : (event : ServerEvent) (earlier : List ServerEvent) (list : List Modify) (q : ReqNo) → AsksForStreams (sent earlier) list q → AsksForStreams (sent (event ∷ earlier)) list q
later event earlier list q a = record { packet = a.packet; among = Contains-append_left (sent earlier) _ a.packet a.among; is = a.is }

abbrev built_both : List ServerEvent
built_both = Builds 1 3 ∷ built_low

both_answered : Answered built_both
both_answered = (
  record {
    new = built_none 3 built_low ((λ e. absurd cc), tt);
    list = all_streams job;
    request = asked 1 14;
    asked = later (Builds 1 2) sealed_log (all_streams job) (asked 1 14) asks_list;
    named = named 3 4 (4, omega arith, refl);
  },
  low_answered,
)

one_list_then : all_found list_of (sent built_both) ≡ (all_streams job, asked 1 14) ∷ []
unfolding numbers.number
one_list_then = refl

both_there : (n : ℕ) → (n ≡ 2) ⊎ (n ≡ 3) → IsBuiltBy built_both n
both_there n (inl is) = inr (inl (1, ap (Builds 1) (sym is)))
both_there n (inr is) = inl (1, ap (Builds 1) (sym is))

told_answered : Answered told_built
told_answered = (
  (
    tt,
    λ may q tells list a entry among.
        (let body : bodies.Stream (streams.Modified (asked 1 14)) ≡ bodies.Stream (streams.Modified q) = modified q tells in
        let e : (all_streams job, asked 1 14) ≡ (list, q) = only_one (all_streams job, asked 1 14) (list, q) (subst (λ l. Contains l (list, q)) one_list_then (list_in (sent built_both) list q a)) in
        let is : all_streams job ≡ list = ap (λ (x : List Modify × ReqNo). x.0) e in
        both_there entry.stream.range (each_has (λ (m : Modify). (m.stream.range ≡ 2) ⊎ (m.stream.range ≡ 3)) (all_streams job) entry (sides_of job) (subst (λ l. Contains l entry) (sym is) among))),
  ),
  both_answered,
)
  where
    modified : (q : ReqNo) → TellsBuilt q (bodies.Stream (streams.Modified (asked 1 14))) → bodies.Stream (streams.Modified (asked 1 14)) ≡ bodies.Stream (streams.Modified q)
    modified q (inl is) = is
    modified q (inr is) = absurd cc

said_answered : Answered said_both
said_answered = all_plainly (stands_at 18 32 0 ∷ grows_to 17 32 ∷ stands_at 16 31 0 ∷ grows_to 15 31 ∷ []) told_built refl told_answered

-- the end of the split is asked for
one_end : all_found end_of (sent (comes 1 Map (bodies.Map (maps.SplitDone (asked 1 19))) ∷ said_both)) ≡ (1, 1) ∷ []
unfolding numbers.number
one_end = refl

asks_end : AsksToComplete (sent (comes 1 Map (bodies.Map (maps.SplitDone (asked 1 19))) ∷ said_both)) 1 1
asks_end = ended_at (sent (comes 1 Map (bodies.Map (maps.SplitDone (asked 1 19))) ∷ said_both)) 1 1 (subst (λ l. Contains l (1, 1)) (sym one_end) (zero, omega arith, refl))

low_assigned : Answered (comes 1 Map (bodies.Map (maps.Assign 2 2 100)) ∷ comes 1 Map (bodies.Map (maps.SplitDone (asked 1 19))) ∷ said_both)
low_assigned = (
  (
    record {
      holder = refl;
      completed = λ s is. (let e : split ≡ s = same_Some split s is in subst (λ (z : AskedSplit). AsksToComplete (sent (comes 1 Map (bodies.Map (maps.SplitDone (asked 1 19))) ∷ said_both)) z.range z.generation) e asks_end);
      above = λ s is. (let e : split ≡ s = same_Some split s is in subst (λ (z : AskedSplit). z.generation < 2) e (omega arith));
      last = λ g is. absurd cc;
    },
    of_streams book (sent (comes 1 Map (bodies.Map (maps.SplitDone (asked 1 19))) ∷ said_both)) (IsBuiltBy (comes 1 Map (bodies.Map (maps.SplitDone (asked 1 19))) ∷ said_both)) Map (bodies.Map (maps.Assign 2 2 100)) refl,
  ),
  plainly (comes 1 Map (bodies.Map (maps.SplitDone (asked 1 19)))) said_both refl said_answered,
)

-- ALL IS ANSWERED BY THE TABLES
pub loaded_answered : AreAnswered book 1 1 loaded_low
loaded_answered =
    all_plainly
    (comes 1 Manager (bodies.Stream (streams.Confirmed (asked 1 26)))
    ∷ comes 1 (Node 1) (bodies.Read (reads.Bytes (asked 1 25) 20 0 index))
    ∷ comes 1 (Node 1) (bodies.Read (reads.Groups (asked 1 24) 31 (low_keys ∷ [])))
    ∷ comes 1 (Node 1) (bodies.Read (reads.Groups (asked 1 23) 30 (checkpoint_record ∷ split_record ∷ [])))
    ∷ comes 1 (Node 1) (bodies.Check (checks.Checked (asked 1 22) (Some 15)))
    ∷ comes 1 Manager (bodies.Stream (streams.Opened (asked 1 21) low_lists))
    ∷ [])
    (comes 1 Map (bodies.Map (maps.Assign 2 2 100)) ∷ comes 1 Map (bodies.Map (maps.SplitDone (asked 1 19))) ∷ said_both) refl low_assigned

-- ---- so the law is one of it

all_begun : all_found begin_of (sent loaded_low) ≡ (asked 1 4, split) ∷ []
unfolding numbers.number index_reading.index_at index_reading.body_at index_reading.one_page_at reading.record_at reading.next_at reading.item_at reading.ranges_at reading.checkpoint_at reading.status_at reading.keys_at reading.text_at reading.high_at reading.high_behind reading.place_at reading.position_at reading.flag_at
all_begun = refl

all_ended : all_found end_of (sent loaded_low) ≡ (1, 1) ∷ []
unfolding numbers.number index_reading.index_at index_reading.body_at index_reading.one_page_at reading.record_at reading.next_at reading.item_at reading.ranges_at reading.checkpoint_at reading.status_at reading.keys_at reading.text_at reading.high_at reading.high_behind reading.place_at reading.position_at reading.flag_at
all_ended = refl

module _ (texts : ℕ → Bytes) (there : AllStand texts (bytes_at 32 0 high_keys ∷ bytes_at 31 0 low_keys ∷ own_bytes)) (rows low_rows : List Row) where
  abbrev shown : List Note
  shown = h texts there rows low_rows

  -- the map shows the split of which it was asked
  shown_split : IsShownSplit book texts 1 1 loaded_low shown 1 2
  shown_split = record {
    child = is_child texts there rows low_rows;
    generation = 1;
    last = refl;
    given = given;
    request = asked 1 4;
    asked = asked_at (sent loaded_low) (asked 1 4) split (subst (λ l. Contains l (asked 1 4, split)) (sym all_begun) (zero, omega arith, refl));
    ended = ended_at (sent loaded_low) 1 1 (subst (λ l. Contains l (1, 1)) (sym all_ended) (zero, omega arith, refl));
  }

  shares : ShareLoads book texts 1 1 loaded_low (in_order texts there) 1 2
  shares late early is l g start end groups at = same_copies texts there l

  all_shown : AllAreShown book texts 1 1 loaded_low shown (in_order texts there)
  all_shown r = elim (cases_eq r 1) [
    | inl is ↦ inr (inl is)
    | inr not_first ↦ elim (cases_eq r 2) [
      | inl is ↦
          inr (inr (1, subst (λ n. IsShownSplit book texts 1 1 loaded_low shown 1 n) (sym is) shown_split, subst (λ n. ShareLoads book texts 1 1 loaded_low (in_order texts there) 1 n) (sym is) shares))
      | inr not_second ↦ inl (untold texts there rows low_rows r not_first not_second)
    ]
  ]

  -- WHAT ITS SERVER SHOWS REPLAYS by the law of servers
  pub worked_by_law : AreSeenAs texts run.notes (of_servers shown) → Replays shown
  worked_by_law seen = answered_replays texts book 1 1 shown loaded_low loaded_answered (in_order texts there) seen unnumbered (refl, (refl, (refl, tt))) all_shown
