-- What a Trim that is taken finds, and what it leaves.
use Rattle.std.proofs.Common.{◌≡◌, ℕ, zero, suc, ◌+◌, ◌-◌, ◌<◌, ◌≤◌, ◌==◌, nat_le, nat_lt, Bool, true, false, if◌then◌else◌, List, [], ◌∷◌, ◌++◌, length, take, drop, Option, Some, None, Ok, Err, slice_get, refl, sym, ap, ◌∙◌, arith, append_assoc, length-append, length-drop, subst}
use Rattle.std.proofs.lemmas.Bool.{eqb-true, ltb-true}
use Rattle.std.proofs.lemmas.Bool.Decides.{nat_tests}
use Rattle.std.proofs.lemmas.List.{take-append-drop, length-take-le}
use Rattle.wire.specs.declared.refusal.Refusal.TheVariants.{Stale, LastOpen}
use Rattle.wire.specs.declared.streams.StreamName.{StreamName}
use Rattle.streams.specs.Streams.{Stream, Streams, stream_of, with_stream, base_of, whole, trim_of_log, trim_of, trimming, shorter, leaving, with_extents, log_name, blob_data_name, trimmed_if, trimmed}
use Rattle.model_streams.proofs.Tests.{if_elim}
use Rattle.laws_streams.specs.Origins.{Begins}
use Rattle.laws_streams.proofs.StreamNames.{with_stream_elim}
use Rattle.laws_streams.proofs.WholeLists.{get_behind}

-- the log and the blob stream of a range are there; the log has the fence, and extents below the index and behind it
pub record Trims (streams : Streams) (range generation before : ℕ) : Type 0 where
  pub log : Stream
  pub blob_data : Stream
  pub log_is : stream_of streams (log_name range) ≡ Some log
  pub blob_data_is : stream_of streams (blob_data_name range) ≡ Some blob_data
  pub fence : log.fence ≡ generation
  pub above : base_of log < before
  pub below : before < base_of log + length log.extents

not_below : (a b : ℕ) → nat_le a b ≡ false → b < a
not_below a b f = grind (arith, nat_tests)

log_trims : (log : Stream) (generation before : ℕ) → trim_of_log log generation before ≡ Ok true →
    (log.fence ≡ generation) × (base_of log < before) × (before < base_of log + length log.extents)
log_trims log generation before =
    if_elim (λ r. r ≡ Ok true → (log.fence ≡ generation) × (base_of log < before) × (before < base_of log + length log.extents)) (log.fence == generation) _ (Err Stale)
    (λ same. if_elim (λ r. r ≡ Ok true → (log.fence ≡ generation) × (base_of log < before) × (before < base_of log + length log.extents)) (nat_le before (base_of log)) (Ok false) _
    (λ t is. absurd cc)
    (λ above. if_elim (λ r. r ≡ Ok true → (log.fence ≡ generation) × (base_of log < before) × (before < base_of log + length log.extents)) (nat_lt before (base_of log + length log.extents)) (Ok true) (Err LastOpen)
    (λ below is. (eqb-true log.fence generation same, not_below before (base_of log) above, ltb-true before (base_of log + length log.extents) below)) (λ f is. absurd cc)))
    (λ f is. absurd cc)

pub trims : (streams : Streams) (range generation before : ℕ) → trimming streams range generation before ≡ Ok true → Trims streams range generation before
trims streams range generation before is = by_streams (streams range 1) (streams range 3) refl refl is
  where
    by_streams : (o n : Option Stream) → streams range 1 ≡ o → streams range 3 ≡ n → trim_of o n generation before ≡ Ok true → Trims streams range generation before
    by_streams None n log_is blob_data_is is = absurd cc
    by_streams (Some log) None log_is blob_data_is is = absurd cc
    by_streams (Some log) (Some blob_data) log_is blob_data_is is =
        let (fence, above, below) = log_trims log generation before is in
        record { log = log; blob_data = blob_data; log_is = log_is; blob_data_is = blob_data_is; fence = fence; above = above; below = below }

-- what the blob stream is afterwards
abbrev pub kept_in : ℕ → Bool → Stream → Stream → Stream
kept_in before to_blob log blob_data = if to_blob then with_extents (leaving before log) blob_data else blob_data

pub trimmed_is : {streams : Streams} {range generation before : ℕ} (to_blob : Bool) (t : Trims streams range generation before) →
    trimmed streams range before to_blob ≡ with_stream (with_stream streams (log_name range) (shorter before t.log)) (blob_data_name range) (kept_in before to_blob t.log t.blob_data)
trimmed_is {streams} {range} {generation} {before} to_blob t =
    ap (λ o. trimmed_if streams range before to_blob o (streams range 3)) t.log_is ∙ ap (λ o. trimmed_if streams range before to_blob (Some t.log) o) t.blob_data_is

-- each of the two that change, and the others
pub trimmed_elim : (streams : Streams) (range generation before : ℕ) (to_blob : Bool) (t : Trims streams range generation before) (P : Option Stream → Type 0) (s : StreamName) →
    (s ≡ blob_data_name range → P (Some (kept_in before to_blob t.log t.blob_data))) → (s ≡ log_name range → P (Some (shorter before t.log))) → P (stream_of streams s) →
    P (stream_of (trimmed streams range before to_blob) s)
trimmed_elim streams range generation before to_blob t P s of_blob of_log other =
    let log = shorter before t.log in
    rw (trimmed_is to_blob t) (with_stream_elim P (with_stream streams (log_name range) log) (blob_data_name range) (kept_in before to_blob t.log t.blob_data) s of_blob
    (with_stream_elim P streams (log_name range) log s of_log other))

-- ---- lists

pub shorter_whole : (before : ℕ) (x : Stream) → whole (shorter before x) ≡ whole x
shorter_whole before x = take-append-drop before (whole x)

length_whole : (x : Stream) → length (whole x) ≡ base_of x + length x.extents
length_whole x = length-append x.gone x.extents

-- the list of a log begins at the index then, and has an extent
pub shorter_base : (before : ℕ) (x : Stream) → before < base_of x + length x.extents → base_of (shorter before x) ≡ before
shorter_base before x below = length-take-le before (whole x) (let all = length_whole x in omega (arith, below, all))

pub shorter_ends : (before : ℕ) (x : Stream) → before < base_of x + length x.extents → (shorter before x).extents ≡ [] → ⊥
shorter_ends before x below none =
    let all = length_whole x in
    let left : length (drop before (whole x)) ≡ 0 = ap (λ (es : List ℕ). length es) none in
    omega (arith, below, all, left, length-drop before (whole x))

take_beyond : (n : ℕ) (xs ys : List ℕ) → length xs ≤ n → take n (xs ++ ys) ≡ xs ++ take (n - length xs) ys
take_beyond n [] ys far = let same : n - 0 ≡ n = omega arith in ap (λ (k : ℕ). take k ys) (sym same)
take_beyond zero (x ∷ xs) ys far = absurd (omega (arith, far))
take_beyond (suc n) (x ∷ xs) ys far =
    let same : suc n - suc (length xs) ≡ n - length xs = omega arith in
    ap (λ (zs : List ℕ). x ∷ zs) (take_beyond n xs ys (omega (arith, far)) ∙ ap (λ (k : ℕ). xs ++ take k ys) (sym same))

-- what had left it stays so
pub shorter_gone : (before : ℕ) (x : Stream) → base_of x < before → Begins x.gone (shorter before x).gone
shorter_gone before x above = record { rest = take (before - base_of x) x.extents; is = take_beyond before x.gone x.extents (omega (arith, above)) }

get_taken : {A : Type 0} (n : ℕ) (xs : List A) (i : ℕ) (x : A) → slice_get (take n xs) i ≡ Some x → (i < n) × (slice_get xs i ≡ Some x)
get_taken zero xs i x is = absurd cc
get_taken (suc n) [] i x is = absurd cc
get_taken (suc n) (y ∷ xs) zero x is = (omega arith, is)
get_taken (suc n) (y ∷ xs) (suc i) x is = let (below, at) = get_taken n xs i x is in (omega (arith, below), at)

got_within : (es : List ℕ) (k : ℕ) → k < length es → (e : ℕ) × (slice_get es k ≡ Some e)
got_within [] k inside = absurd (omega (arith, inside))
got_within (e ∷ es) zero inside = (e, refl)
got_within (e ∷ es) (suc k) inside = got_within es k (omega (arith, inside))

-- an extent that leaves stands in the log, with one more behind it
pub left_at : (before : ℕ) (x : Stream) → before < base_of x + length x.extents → (i e : ℕ) → slice_get (leaving before x) i ≡ Some e →
    (index next : ℕ) × (slice_get (whole x) index ≡ Some e) × (slice_get (whole x) (suc index) ≡ Some next)
left_at before x below i e is =
    let (inside, at) = get_taken (before - base_of x) x.extents i e is in
    let (next, there) = got_within x.extents (suc i) (omega (arith, inside, below)) in
    let step : base_of x + suc i ≡ suc (base_of x + i) = omega arith in
    (base_of x + i, next, get_behind x.gone x.extents i ∙ at, subst (λ k. slice_get (whole x) k ≡ Some next) step (get_behind x.gone x.extents (suc i) ∙ there))

pub with_extents_whole : (es : List ℕ) (x : Stream) → whole (with_extents es x) ≡ whole x ++ es
with_extents_whole es x = rw append_assoc refl
