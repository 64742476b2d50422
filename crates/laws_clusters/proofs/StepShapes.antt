-- What a step of a range at a server leaves: of its ranges and its splits, and of what they wait for.
use Rattle.std.proofs.Common.{◌≡◌, subst, ◌++◌, ◌⊎◌, ⊎_elim, ℕ, suc, ◌+◌, ◌<◌, Bool, true, false, List, [], ◌∷◌, length, Option, Some, None, Contains, refl, sym, ap, ◌∙◌, inl, inr, arith, if◌then◌else◌, ◌==◌, ◌&&◌}
use Rattle.std.proofs.lemmas.Bool.{cases_eq, cases_lt}
use Rattle.std.proofs.lemmas.Bool.Decides.{nat_tests}
use Rattle.wire.specs.declared.actor.ReqNo.{ReqNo}
use Rattle.wire.specs.declared.actor.ReqNo.TheVariants as requests
use Rattle.wire.specs.declared.body.Body.{Body}
use Rattle.wire.specs.declared.body.Body.TheVariants as bodies
use Rattle.wire.specs.declared.body.MapBody.TheVariants as maps
use Rattle.wire.specs.declared.body.StreamBody.TheVariants as streams
use Rattle.wire.specs.declared.packet.Packet.{Packet}
use Rattle.wire.specs.declared.streams.StreamName.{StreamName}
use Rattle.client.specs.Client.{awaits}
use Rattle.model_partition.specs.declared.server_context.ServerContext.{ServerContext}
use Rattle.model_partition.specs.declared.split_job.SplitJob.{SplitJob}
use Rattle.model_partition.specs.declared.table_note.TableNote.{TableNote}
use Rattle.model_partition.specs.declared.table_note.TableNote.TheVariants as tables
use Rattle.model_histories.specs.StreamActions.{PlacedBytes}
use Rattle.laws_clusters.proofs.ObservedBytes.{tables_behind}
use Rattle.model_streams.specs.StreamSystem.{StreamSystem}
use Rattle.model_partition.specs.Past.{Bytes}
use Rattle.model_partition.specs.Range.{RangeState}
use Rattle.model_partition.specs.Server.{ServerState, range_of, split_of}
use Rattle.model_partition.specs.Servers.{ServerCell, ArePlain}
use Rattle.model_partition.specs.Splits.{SplitStep, all_streams, side_range}
use Rattle.model_histories.specs.ServedTables.{StreamsInOrder}
use Rattle.model_histories.specs.ServerRun.{ServerRun}
use Rattle.laws_stream_machine.specs.Refinement.{Purpose, Sent, purpose_of}
use Rattle.laws_ranges.specs.Serves.{Side, sent_with, Adds, AreUnused}
use Rattle.laws_ranges.specs.SplitJobs.{waits_seal, waits_call}
use Rattle.laws_ranges.proofs.MachineSteps.{newest}
use Rattle.laws_server_runs.specs.Places.{AreAscending, TablesWithin, bytes_of}
use Rattle.laws_server_runs.proofs.Actions.{same_test, other_test}
use Rattle.laws_clusters.proofs.Invariant.{Machines, HasNumber, HasNone, HeldAt, SplitAt, IsSplitAsk, AreAside}
use Rattle.laws_clusters.proofs.Elsewhere.{none_of, IsRowsElse, AreRowsElse}
use Rattle.laws_clusters.proofs.RowSteps.{WasOut, IsNew}
use Rattle.laws_clusters.proofs.SplitRequests.{AllSent}

-- this run, but for what a server has read of a range
pub record IsNear (s range : ℕ) (y b : ServerRun) : Type 0 where
  pub history : (t j : ℕ) → ((t == s) && (j == range)) ≡ false → b.history t j ≡ y.history t j
  pub story : (name : StreamName) → b.story name ≡ y.story name
  pub shown : (j : ℕ) → b.shown j ≡ y.shown j
  pub answered : (j : ℕ) → b.answered j ≡ y.answered j
  pub notes : b.notes ≡ y.notes

-- where the streams of a run are in order, the tables that its servers show lie within what was shown and answered; and the two ranges of
-- each split are aside
pub record AreLaid (y : ServerRun) (notes : List TableNote) : Type 0 where
  pub within : (texts : ℕ → Bytes) → ((range : ℕ) → StreamsInOrder texts range y) → TablesWithin texts (bytes_of y) notes
  pub aside : AreAside y.servers

-- the same of all that they have shown
abbrev pub IsLaid : ServerRun → Type 0
IsLaid y = AreLaid y y.notes

-- so they are where nothing is split
pub none_aside : (servers : List ServerCell) → ((s k : ℕ) (job : SplitJob) → SplitAt servers s k job → ⊥) → AreAside servers
none_aside servers none = record {
  unheld = λ s k job at making side r held. none s k job at;
  once = λ s k j job other at one making too side part same. absurd (none s k job at);
  two = λ s k job at making same. none s k job at;
}

-- and where whoever splits and holds did so before
pub aside_on : (old new : List ServerCell) → ((s k : ℕ) (job : SplitJob) → SplitAt new s k job → SplitAt old s k job) → ((s k : ℕ) (r : RangeState) → HeldAt new s k r → (q : RangeState) × HeldAt old s k q) → AreAside old → AreAside new
aside_on old new split held aside = record {
  unheld = λ s k job at making side r h. (let was = held s (side_range job side) r h in aside.unheld s k job (split s k job at) making side was.0 was.1);
  once = λ s k j job other at one making too side part same. aside.once s k j job other (split s k job at) (split s j other one) making too side part same;
  two = λ s k job at making same. aside.two s k job (split s k job at) making same;
}

pub laid_behind : (y : ServerRun) (before notes : List TableNote) → y.notes ≡ before ++ notes → IsLaid y → AreLaid y notes
laid_behind y before notes is laid = record {
  within = λ texts order. tables_behind texts (bytes_of y) before notes (subst (λ ns. TablesWithin texts (bytes_of y) ns) is (laid.within texts order));
  aside = laid.aside;
}

plain_within : (texts : ℕ → Bytes) (placed : ℕ → List PlacedBytes) (notes : List TableNote) → ArePlain notes → TablesWithin texts placed notes
plain_within texts placed [] plain = tt
plain_within texts placed (tables.Began range generation number changes ∷ notes) plain = plain_within texts placed notes plain
plain_within texts placed (tables.Done range generation number ∷ notes) plain = plain_within texts placed notes plain
plain_within texts placed (tables.Got range generation key value ∷ notes) plain = plain_within texts placed notes plain
plain_within texts placed (tables.Loaded range generation table next ∷ notes) plain = absurd plain

-- so it is where no table is shown
pub plain_laid : (y : ServerRun) (notes : List TableNote) → ArePlain notes → AreAside y.servers → AreLaid y notes
plain_laid y notes plain aside = record { within = λ texts order. plain_within texts (bytes_of y) notes plain; aside = aside }

-- of a server's ranges one is left so, and all others are as before
pub record AreLeft (before after : List (ℕ × RangeState)) (range : ℕ) (o : Option RangeState) : Type 0 where
  pub ascending : AreAscending after
  pub here : (r : RangeState) → range_of after range ≡ Some r → o ≡ Some r
  pub there : (r : RangeState) → o ≡ Some r → range_of after range ≡ Some r
  pub others : (j : ℕ) → (j ≡ range → ⊥) → range_of after j ≡ range_of before j

-- of its splits the one of that range is left so, and all others are as before
pub record SplitsLeft (before after : List (ℕ × SplitJob)) (range : ℕ) (o : Option SplitJob) : Type 0 where
  pub ascending : AreAscending after
  pub here : split_of after range ≡ o
  pub others : (j : ℕ) → (j ≡ range → ⊥) → split_of after j ≡ split_of before j

-- what was asked for one split is asked for the other
pub record KeepsAsks (job later : SplitJob) : Type 0 where
  pub range : later.range ≡ job.range
  pub generation : later.generation ≡ job.generation
  pub key : later.key ≡ job.key
  pub streams : all_streams later ≡ all_streams job

pub keep_asks : (job later : SplitJob) → KeepsAsks job later → (body : Body) → IsSplitAsk job body → IsSplitAsk later body
keep_asks job later k (bodies.Stream (streams.MultiModify list q)) a = a ∙ sym k.streams
keep_asks job later k (bodies.Stream body) a = tt
keep_asks job later k (bodies.Map (maps.BeginSplit range generation key q)) a = (a.0 ∙ sym k.range, a.1 ∙ sym k.generation, a.2 ∙ sym k.key)
keep_asks job later k (bodies.Map (maps.CompleteSplit range generation q)) a = (a.0 ∙ sym k.range, a.1 ∙ sym k.generation)
keep_asks job later k (bodies.Map body) a = tt
keep_asks job later k body a = tt

-- the number that row data waits under it waited under before
abbrev pub RowsWaited : ServerState → ℕ → RangeState → ReqNo → Type 0
RowsWaited st range next q = (r : RangeState) × (range_of st.ranges range ≡ Some r) × WasOut r.rows next.rows

-- so does its split
abbrev pub SealWaited : ServerState → ℕ → ReqNo → Type 0
SealWaited st range q = (job : SplitJob) × (split_of st.splits range ≡ Some job) × (waits_seal job.phase q ≡ true)

abbrev pub CallWaited : ServerState → ℕ → SplitJob → ReqNo → Type 0
CallWaited st range later q = (job : SplitJob) × (split_of st.splits range ≡ Some job) × (waits_call job.phase q ≡ true) × KeepsAsks job later

-- What a range that a step leaves waits for with its row data or its split it waited for before, or under a number that was not used;
-- and each request is that of a job.
pub record WaitsAfter (st : ServerState) (range : ℕ) (t : SplitStep) (ps : List Packet) (next : RangeState) : Type 0 where
  pub rows : (q : ReqNo) → awaits next.rows.job q ≡ true → RowsWaited st range next q ⊎ IsNew st.context t.count q
  pub seal : (later : SplitJob) → t.job ≡ Some later → (q : ReqNo) → waits_seal later.phase q ≡ true → SealWaited st range q ⊎ IsNew st.context t.count q
  pub call : (later : SplitJob) → t.job ≡ Some later → (q : ReqNo) → waits_call later.phase q ≡ true → CallWaited st range later q ⊎ IsNew st.context t.count q
  -- the step is one of its row data, or one of its split
  pub steady : ((q : ReqNo) → awaits next.rows.job q ≡ true → RowsWaited st range next q)
      ⊎ ((later : SplitJob) → t.job ≡ Some later → (q : ReqNo) → (waits_seal later.phase q ≡ true → SealWaited st range q) × (waits_call later.phase q ≡ true → CallWaited st range later q))
  pub sent : AllSent next t.job ps

abbrev pub StepWaits : ServerState → ℕ → SplitStep → List Packet → Type 0
StepWaits st range t ps = (next : RangeState) → t.range ≡ Some next → WaitsAfter st range t ps next

-- the number of a request that has a purpose is below the next one
pub below_next : (d : ServerContext) (count : ℕ) (sent more : List Sent) → AreUnused d count more → (a : Adds d sent more) → (p : Purpose) → a.purpose ≡ Some p → a.number < count
below_next d count sent more unused a p some =
    ⊎_elim {C = a.number < count} (λ less. less)
    (λ le.
    (let q : ReqNo = requests.Server d.server d.session a.number in
    let none : purpose_of more q ≡ None = unused a.number le in
    let there : purpose_of more q ≡ Some p = ap (λ z. purpose_of z q) (a.is ∙ ap (λ o. sent_with q o sent) some) ∙ newest q p sent in
    absurd (let z : None ≡ Some p = sym none ∙ there in cc)))
    (cases_lt a.number count)

-- ---- tests of a server and a range

not_second : (a b : Bool) → b ≡ false → (a && b) ≡ false
not_second true b e = e
not_second false b e = refl

-- what is so of one, and of each other
pub by_one : (range : ℕ) (P : ℕ → Type 0) → P range → ((j : ℕ) → (j ≡ range → ⊥) → P j) → (j : ℕ) → P j
by_one range P own others j = elim (cases_eq j range) [ inl same ↦ subst P (sym same) own | inr other ↦ others j other ]

-- the same of a value that is another one there
pub by_if : {A : Type 0} → (range : ℕ) (new : A) (old : ℕ → A) (P : ℕ → A → Type 0) → P range new → ((j : ℕ) → (j ≡ range → ⊥) → P j (old j)) → (j : ℕ) → P j (if j == range then new else old j)
by_if {A} range new old P own others j = go (j == range) refl
  where
    go : (t : Bool) → (j == range) ≡ t → P j (if t then new else old j)
    go true e = let same : range ≡ j = grind (arith, nat_tests) in subst (λ n. P n new) same own
    go false e = others j (λ same. grind (arith, nat_tests))

pub if_here : {A : Type 0} → (range : ℕ) (new old : A) → (if range == range then new else old) ≡ new
if_here {A} range new old = ap (λ t. if t then new else old) (same_test range)

pub if_other : {A : Type 0} → (range j : ℕ) (new old : A) → (j ≡ range → ⊥) → (if j == range then new else old) ≡ old
if_other {A} range j new old apart = ap (λ t. if t then new else old) (other_test j range apart)

pub other_range : (t s j range : ℕ) → (j ≡ range → ⊥) → ((t == s) && (j == range)) ≡ false
other_range t s j range apart = not_second (t == s) (j == range) (other_test j range apart)

pub other_server : (t s j range : ℕ) → (t ≡ s → ⊥) → ((t == s) && (j == range)) ≡ false
other_server t s j range apart = ap (λ a. a && (j == range)) (other_test t s apart)

-- ---- incarnations of ranges at servers

abbrev pub with_one : (ℕ → ℕ → Option ℕ) → ℕ → ℕ → ℕ → ℕ → ℕ → Option ℕ
with_one o s range i t j = if (t == s) && (j == range) then Some i else o t j

pub one_here : (o : ℕ → ℕ → Option ℕ) (s range i : ℕ) → with_one o s range i s range ≡ Some i
one_here o s range i = ap (λ b. if b && (range == range) then Some i else o s range) (same_test s) ∙ ap (λ b. if b then Some i else o s range) (same_test range)

pub one_other : (o : ℕ → ℕ → Option ℕ) (s range i t j : ℕ) → ((t == s) && (j == range)) ≡ false → with_one o s range i t j ≡ o t j
one_other o s range i t j test = ap (λ b. if b then Some i else o t j) test

-- whose it is
pub whose : (o : ℕ → ℕ → Option ℕ) (s range i t j k : ℕ) → with_one o s range i t j ≡ Some k → ((t ≡ s) × (j ≡ range) × (i ≡ k)) ⊎ (o t j ≡ Some k)
whose o s range i t j k e = go (t == s) (j == range) refl refl e
  where
    go : (a b : Bool) → (t == s) ≡ a → (j == range) ≡ b → (if a && b then Some i else o t j) ≡ Some k → ((t ≡ s) × (j ≡ range) × (i ≡ k)) ⊎ (o t j ≡ Some k)
    go true true one two z = inl (grind (arith, nat_tests), grind (arith, nat_tests), cc)
    go true false one two z = inr z
    go false b one two z = inr z

-- each is of one range at one server, where it was, and the one that is had here is had nowhere else
pub own_with_one : (o : ℕ → ℕ → Option ℕ) (s range i : ℕ) → ((t j : ℕ) → o t j ≡ Some i → (t ≡ s) × (j ≡ range)) → ((t u j n k : ℕ) → o t j ≡ Some k → o u n ≡ Some k → (t ≡ u) × (j ≡ n)) →
    (t u j n k : ℕ) → with_one o s range i t j ≡ Some k → with_one o s range i u n ≡ Some k → (t ≡ u) × (j ≡ n)
own_with_one o s range i alone own t u j n k e f = elim (whose o s range i t j k e) [
  | inl here_t ↦ elim (whose o s range i u n k f) [
    | inl here_u ↦ (here_t.0 ∙ sym here_u.0, here_t.1 ∙ sym here_u.1)
    | inr there_u ↦ (let a = alone u n (there_u ∙ ap Some (sym here_t.2)) in (here_t.0 ∙ sym a.0, here_t.1 ∙ sym a.1))
  ]
  | inr there_t ↦ elim (whose o s range i u n k f) [
    | inl here_u ↦ (let a = alone t j (there_t ∙ ap Some (sym here_u.2)) in (a.0 ∙ sym here_u.0, a.1 ∙ sym here_u.1))
    | inr there_u ↦ own t u j n k there_t there_u
  ]
]

-- The incarnations of ranges at servers after a step at one of them, which this incarnation does: that of the range where it is left, and
-- those of all others as before.
pub record Incarnations (before : ℕ → ℕ → Option ℕ) (bound s range i : ℕ) (left : Option RangeState) : Type 0 where
  pub of : ℕ → ℕ → Option ℕ
  pub here : (next : RangeState) → left ≡ Some next → of s range ≡ Some i
  pub others : (t j : ℕ) → ((t == s) && (j == range)) ≡ false → of t j ≡ before t j
  pub own : (t u j n k : ℕ) → of t j ≡ Some k → of u n ≡ Some k → (t ≡ u) × (j ≡ n)
  pub below : (t j k : ℕ) → of t j ≡ Some k → k < bound + suc i
  -- it is of no range at another server
  pub alone : (t j : ℕ) → before t j ≡ Some i → t ≡ s

module _ (before : ℕ → ℕ → Option ℕ) (bound s range i : ℕ) (own : (t u j n k : ℕ) → before t j ≡ Some k → before u n ≡ Some k → (t ≡ u) × (j ≡ n)) (below : (t j k : ℕ) → before t j ≡ Some k → k < bound) where
  -- it is, or becomes, that of the range
  pub own_incarnations : ((t j : ℕ) → before t j ≡ Some i → (t ≡ s) × (j ≡ range)) → (left : Option RangeState) → Incarnations before bound s range i left
  own_incarnations alone left = record {
    of = with_one before s range i;
    here = λ next is. one_here before s range i;
    others = λ t j test. one_other before s range i t j test;
    own = own_with_one before s range i alone own;
    below = λ t j k e. elim (whose before s range i t j k e) [
      | inl here_t ↦ (let same = here_t.2 in omega (arith, same))
      | inr there_t ↦ (let less = below t j k there_t in omega (arith, less))
    ];
    alone = λ t j e. (alone t j e).0;
  }

-- ---- numbers and packets

pub same_value : {A : Type 0} → (o : Option A) (a b : A) → o ≡ Some a → o ≡ Some b → b ≡ a
same_value {A} o a b one two = let both : Some b ≡ Some a = sym two ∙ one in cc

module _ (generation : ℕ → ℕ) where
  pub has_not : (z : Machines generation) (q : ReqNo) → HasNumber generation z q → HasNone generation z q → ⊥
  has_not z q (p, inl has) none = let e : None ≡ Some p = sym none.0 ∙ has in cc
  has_not z q (p, inr has) none = let e : None ≡ Some p = sym none.1 ∙ has in cc

  -- a number of both lists, or of one
  pub has_number : (z : Machines generation) (q : ReqNo) → (purpose_of z.m_sent q ≡ None → purpose_of z.l_sent q ≡ None → ⊥) → HasNumber generation z q
  has_number z q known = go (purpose_of z.m_sent q) (purpose_of z.l_sent q) refl refl
    where
      go : (a b : Option Purpose) → purpose_of z.m_sent q ≡ a → purpose_of z.l_sent q ≡ b → HasNumber generation z q
      go (Some p) b one two = (p, inl one)
      go None (Some p) one two = (p, inr two)
      go None None one two = absurd (known one two)

  pub has_none : (z : Machines generation) (q : ReqNo) → (HasNumber generation z q → ⊥) → HasNone generation z q
  has_none z q not = (none_of z.m_sent q (λ p e. not (p, inl e)), none_of z.l_sent q (λ p e. not (p, inr e)))

  -- what is so of each of some packets makes a list
  pub all_else : (range i : ℕ) (w : StreamSystem) (n k : Side) (sent : List Sent) (ps : List Packet) → ((p : Packet) → Contains ps p → IsRowsElse generation range w i n k sent p.body) → AreRowsElse generation range w i n k sent ps
  all_else range i w n k sent [] each = tt
  all_else range i w n k sent (p ∷ ps) each = (each p (0, omega arith, refl), all_else range i w n k sent ps (λ q there. each q (suc there.0, (let less : there.0 < length ps = there.1 in omega arith), there.2)))
