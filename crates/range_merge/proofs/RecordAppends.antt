-- The records of the new range are appended, and answered.
use Rattle.std.proofs.Common.{◌≡◌, ℕ, suc, ◌+◌, Bool, true, false, List, [], ◌∷◌, Option, Some, None, refl, sym, ap, subst, ◌∙◌, arith}
use Rattle.std.specs.Prelude.{IfSome, option_to_list, is_some, if◌then◌else◌}
use Rattle.wire.specs.declared.body.Body.{Body}
use Rattle.wire.specs.declared.packet.Packet.{Packet}
use Rattle.wire.specs.declared.streams.StreamKind.TheVariants as kinds
use Rattle.client.specs.declared.job.News.{News}
use Rattle.client.specs.declared.job.News.TheVariants as news
use Rattle.client.specs.Client.{ClientState, Outcome, append_rule, ends, new_client, reply_rule}
use Rattle.metadata.specs.Record.{spelling}
use Rattle.model_partition.specs.declared.server_context.ServerContext.{ServerContext}
use Rattle.model_partition.specs.Range.{RangeState, request, given, picking}
use Rattle.range_checkpoint.proofs.Stood.{stood}
use Rattle.range_checkpoint.proofs.Told.{is_append, other}
use Rattle.range_checkpoint.specs.Steps.{appended}
use Rattle.model_partition.specs.declared.merge_job.MergeJob.{MergeJob}
use Rattle.model_partition.specs.declared.merge_job.MergePhase.{MergePhase}
use Rattle.model_partition.specs.declared.merge_job.MergePhase.TheVariants as phases
use Rattle.model_partition.specs.declared.merge_job.MergeRecord.{MergeRecord}
use Rattle.model_partition.specs.declared.merge_job.MergeRecord.TheVariants as records
use Rattle.model_partition.specs.Merges.{appends_record, completes, goes, may_write, merge_reply, merge_reply_in, record_of, record_stands, stays, with_phase, write_reply, write_told}
use Rattle.range_merge.specs.Steps.{MergeTaken, goes_on, outcome}
use Rattle.range_merge.specs.WriteAnswers.{other_told, record_stood}

-- a record is given to the client, which sends it
pub appends_so : (d : ServerContext) (l r : RangeState) (job : MergeJob) (what : MergeRecord) (m after : ClientState) (blocks : List (List ℕ)) (packet : Option Packet) → blocks ≡ spelling (record_of l r what) ∷ []
    → given (picking d m) (append_rule (picking d m) (request d) blocks) ≡ record { after = after; packet = packet; news = None }
    → appends_record d l r job what m ≡ goes d l r (with_phase job (phases.Write what after)) (option_to_list packet)
appends_so d l r job what m after blocks packet blocks_are sent =
    let o : given (picking d m) (append_rule (picking d m) (request d) (spelling (record_of l r what) ∷ [])) ≡ record { after = after; packet = packet; news = None } =
    (λ i. given (picking d m) (append_rule (picking d m) (request d) (sym blocks_are i))) ∙ sent in
    ap (λ (o : Outcome). goes d l r (with_phase job (phases.Write what o.after)) (option_to_list o.packet)) o

pub counted : (d : ServerContext) (l r : RangeState) (job : MergeJob) (packet : Option Packet) → goes d l r job (option_to_list packet) ≡ goes_on l r job (d.count + 1) packet
counted d l r job packet =
    let next : suc d.count ≡ d.count + 1 = omega arith in
    ap (λ (count : ℕ). goes_on l r job count packet) next

-- ---- answers

abbrev no_client : ServerContext → ClientState
no_client d = new_client d.server (record { range = 0; kind = kinds.Metadata }) 0 (record { base = 0; extents = [] }) d.pick

abbrev record_or : MergeRecord → Option MergeRecord → MergeRecord
record_or other None = other
record_or other (Some what) = what

-- the client of the metadata behind an answer, if a record is being appended
abbrev client_behind : ServerContext → MergePhase → Body → ClientState
client_behind d (phases.Write what c) body = (reply_rule (picking d c) (request d) body).after
client_behind d phase body = no_client d

other_in : (d : ServerContext) (l r : RangeState) (job : MergeJob) (what : MergeRecord) (o : Outcome) (told : Option News) → is_append told ≡ false → write_told d l r job what o told ≡ other_told d l r job what o.after told (option_to_list o.packet)
other_in d l r job what o None is = refl
other_in d l r job what o (Some (news.Appended e offset)) is = absurd cc
other_in d l r job what o (Some news.Fenced) is = refl
other_in d l r job what o (Some (news.Checked e length)) is = refl
other_in d l r job what o (Some (news.Sealed e length)) is = refl
other_in d l r job what o (Some (news.Content e upto)) is = refl

pub write_other : (d : ServerContext) (l r : RangeState) (job : MergeJob) (what : MergeRecord) (c : ClientState) (body : Body) (o : Outcome) → appended c body ≡ None → reply_rule (picking d c) (request d) body ≡ o
    → write_reply d l r job what c body ≡ other_told d l r job what o.after o.news (option_to_list o.packet)
write_other d l r job what c body o none is =
    ap (λ (x : Outcome). write_told d l r job what x x.news) is
    ∙ other_in d l r job what o o.news (ap (λ (x : Outcome). is_append x.news) (sym is) ∙ other (picking d c) (request d) body none)

stood_at : (d : ServerContext) (l r : RangeState) (job : MergeJob) (what : MergeRecord) (c : ClientState) (body : Body) (o : Outcome) (at : ℕ × ℕ) → appended c body ≡ Some at → reply_rule (picking d c) (request d) body ≡ o
    → write_reply d l r job what c body ≡ record_stands d l r job what o.after
stood_at d l r job what c body o at there is =
    let ended : o ≡ ends (picking d c) (news.Appended at.0 at.1) = sym is ∙ stood (picking d c) (request d) body at.0 at.1 there in
    ap (λ (x : Outcome). write_told d l r job what x x.news) is
    ∙ ap (λ (x : Outcome). write_told d l r job what o x.news) ended

stood_if : (d : ServerContext) (l r : RangeState) (job : MergeJob) (what : MergeRecord) (c : ClientState) (body : Body) (o : Outcome) (at : Option (ℕ × ℕ)) → appended c body ≡ at → is_some at ≡ true → reply_rule (picking d c) (request d) body ≡ o
    → write_reply d l r job what c body ≡ record_stands d l r job what o.after
stood_if d l r job what c body o None there some is = absurd cc
stood_if d l r job what c body o (Some at) there some is = stood_at d l r job what c body o at there is

-- the record stands
pub write_stood : (d : ServerContext) (l r : RangeState) (job : MergeJob) (what : MergeRecord) (c : ClientState) (body : Body) (o : Outcome) → is_some (appended c body) ≡ true → reply_rule (picking d c) (request d) body ≡ o
    → write_reply d l r job what c body ≡ record_stands d l r job what o.after
write_stood d l r job what c body o some is = stood_if d l r job what c body o (appended c body) refl some is

-- and the next one is sent
pub next_sent : (d : ServerContext) (l r : RangeState) (job : MergeJob) (c m after : ClientState) (body : Body) (blocks : List (List ℕ)) (sent : Option Packet) (told : Option Packet) (news : Option News) → is_some (appended c body) ≡ true
    → reply_rule (picking d c) (request d) body ≡ record { after = m; packet = told; news = news } → blocks ≡ spelling (record_of l r records.Regions) ∷ [] → may_write l r records.Regions ≡ true
    → given (picking d m) (append_rule (picking d m) (request d) blocks) ≡ record { after = after; packet = sent; news = None }
    → write_reply d l r job records.Keys c body ≡ goes d l r (with_phase job (phases.Write records.Regions after)) (option_to_list sent)
next_sent d l r job c m after body blocks sent told news some is blocks_are may given_so =
    write_stood d l r job records.Keys c body (record { after = m; packet = told; news = news }) some is
    ∙ (λ i. if may i then appends_record d l r job records.Regions m else stays d l r job)
    ∙ appends_so d l r job records.Regions m after blocks sent blocks_are given_so

-- ---- which record stands

stood_of : (what other : MergeRecord) (b : Bool) → (if b then Some what else None) ≡ Some other → (what ≡ other) × (b ≡ true)
stood_of what other true is = (ap (record_or what) is, refl)
stood_of what other false is = absurd cc

pub stood_in : (what other : MergeRecord) (c : ClientState) (body : Body) → record_stood (phases.Write what c) body ≡ Some other → (what ≡ other) × (is_some (appended c body) ≡ true)
stood_in what other c body is = stood_of what other (is_some (appended c body)) is

phase_stood : (d : ServerContext) (l r : RangeState) (job : MergeJob) (phase : MergePhase) (other : MergeRecord) (body : Body) → record_stood phase body ≡ Some other
    → merge_reply_in d l r job phase body ≡ record_stands d l r job other (client_behind d phase body)
phase_stood d l r job (phases.Write what c) other body is =
    let p = stood_in what other c body is in
    write_stood d l r job what c body (reply_rule (picking d c) (request d) body) p.1 refl
    ∙ ap (λ (w : MergeRecord). record_stands d l r job w (reply_rule (picking d c) (request d) body).after) p.0
phase_stood d l r job (phases.Begin q) other body is = absurd cc
phase_stood d l r job (phases.Checkpoint side) other body is = absurd cc
phase_stood d l r job phases.Queue other body is = absurd cc
phase_stood d l r job (phases.Seal side kind q) other body is = absurd cc
phase_stood d l r job (phases.Build q) other body is = absurd cc
phase_stood d l r job (phases.Create q) other body is = absurd cc
phase_stood d l r job (phases.Complete q) other body is = absurd cc

-- that of the regions does
pub regions_stood : (d : ServerContext) (l r : RangeState) (job : MergeJob) (body : Body) → record_stood job.phase body ≡ Some records.Regions → merge_reply d l r job body ≡ completes d l r job
regions_stood d l r job body is = phase_stood d l r job job.phase records.Regions body is

-- that of the keys does, and the next one cannot be written
pub keys_rest : (d : ServerContext) (l r : RangeState) (job : MergeJob) (body : Body) → record_stood job.phase body ≡ Some records.Keys → may_write l r records.Regions ≡ false → merge_reply d l r job body ≡ stays d l r job
keys_rest d l r job body is may =
    let c : ClientState = client_behind d job.phase body in
    phase_stood d l r job job.phase records.Keys body is
    ∙ (λ i. if may i then appends_record d l r job records.Regions c else stays d l r job)

-- ---- what is at hand

pub some_of : {A : Type 0} (a b : A) → Some a ≡ Some b → a ≡ b
some_of a b is = cc is

pub if_some : {A : Type 0} (P : A → Type 0) (o : Option A) (a : A) → o ≡ Some a → IfSome o P → P a
if_some P None a is p = absurd cc
if_some P (Some b) a is p = subst P (some_of b a is) p

pub sent_some : (l r : RangeState) (job : MergeJob) (count : ℕ) (packet : Option Packet) (t : MergeTaken) (packets : List Packet)
    → t ≡ record { left_dropped = false; right_dropped = false; ended = false; count = count; packets = packets }
    → packets ≡ option_to_list packet → goes_on l r job count packet ≡ outcome t l r job
sent_some l r job count packet t packets is packets_are =
    (λ i. record { left = Some l; right = Some r; job = Some job; count = count; packets = sym packets_are i }) ∙ ap (λ (t : MergeTaken). outcome t l r job) (sym is)
