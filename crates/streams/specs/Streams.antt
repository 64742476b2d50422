-- Streams: named lists of extents (Calder et al., SOSP 2011, section 4.1). Each has a fence, the least generation that it
-- listens to, and remembers the extents that have left it at the front.
use Rattle.std.specs.Prelude.{ℕ, ◌+◌, ◌-◌, max, Bool, true, false, not, ◌&&◌, List, [], ◌∷◌, ◌++◌, length, take, drop, Option, Some, None, option_map, Result, Ok, Err, ◌==◌, nat_lt, nat_le, slice_get, if◌then◌else◌}
use Rattle.std.specs.List.{list_any, list_all}
use Rattle.wire.specs.declared.refusal.Refusal.{Refusal}
use Rattle.wire.specs.declared.refusal.Refusal.TheVariants.{Stale, NoSuchStream, NameTaken, LastOpen}
use Rattle.wire.specs.declared.streams.StreamKind.{StreamKind}
use Rattle.wire.specs.declared.streams.StreamKind.TheVariants.{Metadata, Log, RowData, BlobData}
use Rattle.wire.specs.declared.streams.StreamName.{StreamName}
use Rattle.wire.specs.declared.streams.Source.{Source}
use Rattle.wire.specs.declared.streams.Modify.{Modify}

abbrev pub kind_number : StreamKind → ℕ
kind_number Metadata = 0
kind_number Log = 1
kind_number RowData = 2
kind_number BlobData = 3

-- the extents that have left it at the front, its fence, and its extents, both in order
pub record Stream : Type 0 where
  pub gone : List ℕ
  pub fence : ℕ
  pub extents : List ℕ

-- the index of its first extent
abbrev pub base_of : Stream → ℕ
base_of x = length x.gone

-- its extents from index 0 on, those that have left it first
abbrev pub whole : Stream → List ℕ
whole x = x.gone ++ x.extents

-- with no extent
abbrev pub empty_stream : ℕ → Stream
empty_stream fence = record { gone = []; fence = fence; extents = [] }

-- the streams that there are, by the number of their range and of their kind
abbrev pub Streams : Type 0
Streams = ℕ → ℕ → Option Stream

abbrev pub stream_of : Streams → StreamName → Option Stream
stream_of streams s = streams s.range (kind_number s.kind)

-- with this stream under a name
abbrev pub with_stream : Streams → StreamName → Stream → Streams
with_stream streams s x range kind = if (range == s.range) && (kind == kind_number s.kind) then Some x else streams range kind

abbrev pub is_there : {A : Type 0} → Option A → Bool
is_there None = false
is_there (Some x) = true

-- ---- a new stream

abbrev pub create_fault : Streams → StreamName → Option Refusal
create_fault streams s = if is_there (stream_of streams s) then Some NameTaken else None

abbrev pub created : Streams → StreamName → ℕ → Streams
created streams s fence = with_stream streams s (empty_stream fence)

-- ---- the four streams of a range, opened for a generation

-- each of the four is there, and passes the test
abbrev pub passes : (Stream → Bool) → Option Stream → Bool
passes test None = false
passes test (Some x) = test x

abbrev pub all_pass : (Stream → Bool) → Streams → ℕ → Bool
all_pass test streams range =
    passes test (streams range 0) && (passes test (streams range 1) && (passes test (streams range 2) && passes test (streams range 3)))

abbrev pub has_four : Streams → ℕ → Bool
has_four = all_pass (λ x. true)

-- a generation opens the streams of a range only where it is above each of their fences
abbrev pub open_fault : Streams → ℕ → ℕ → Option Refusal
open_fault streams range generation =
    if has_four streams range
    then (if all_pass (λ x. nat_lt x.fence generation) streams range then None else Some Stale)
    else Some NoSuchStream

abbrev pub fenced_at : ℕ → Option Stream → Option Stream
fenced_at generation None = None
fenced_at generation (Some x) = Some (record x { fence = generation })

-- all streams of the range have this fence
abbrev pub opened : Streams → ℕ → ℕ → Streams
opened streams opening generation range kind = if range == opening then fenced_at generation (streams range kind) else streams range kind

-- a generation is confirmed only while it is the fence of the four
abbrev pub confirm_fault : Streams → ℕ → ℕ → Option Refusal
confirm_fault streams range generation =
    if has_four streams range
    then (if all_pass (λ x. x.fence == generation) streams range then None else Some Stale)
    else Some NoSuchStream

-- ---- one more extent at the end

abbrev pub last_of : List ℕ → Option ℕ
last_of [] = None
last_of (e ∷ []) = Some e
last_of (e ∷ f ∷ es) = last_of (f ∷ es)

abbrev pub is_number : ℕ → Option ℕ → Bool
is_number e None = false
is_number e (Some f) = f == e

-- After its last extent: another than the caller takes for the last is named to it, and nothing is added after an open
-- one. None: the extent may be added.
abbrev pub behind : (ℕ → Option ℕ) → Option ℕ → Option ℕ → Result (Option ℕ) Refusal
behind sealed None last = Ok None
behind sealed (Some e) last =
    if is_number e last then (if is_there (sealed e) then Ok None else Err LastOpen) else Ok (Some e)

-- what the end of a stream answers to a generation that takes `last` for its last extent; `sealed` are the lengths of the
-- extents that are sealed
abbrev pub extending : (ℕ → Option ℕ) → Option Stream → ℕ → Option ℕ → Result (Option ℕ) Refusal
extending sealed None generation last = Err NoSuchStream
extending sealed (Some x) generation last = if generation == x.fence then behind sealed (last_of x.extents) last else Err Stale

abbrev pub longer : ℕ → Stream → Stream
longer e x = record x { extents = x.extents ++ e ∷ [] }

abbrev pub extended_if : Streams → StreamName → ℕ → Option Stream → Streams
extended_if streams s e None = streams
extended_if streams s e (Some x) = with_stream streams s (longer e x)

-- with one more extent at the end of a stream
abbrev pub extended : Streams → StreamName → ℕ → Streams
extended streams s e = extended_if streams s e (stream_of streams s)

-- ---- extents that leave the front of a range's log

-- Whether a log loses its extents below an index: none does where the list begins there or later, and the last one never does.
abbrev pub trim_of_log : Stream → ℕ → ℕ → Result Bool Refusal
trim_of_log log generation before =
    if log.fence == generation
    then (if nat_le before (base_of log) then Ok false else if nat_lt before (base_of log + length log.extents) then Ok true else Err LastOpen)
    else Err Stale

abbrev pub trim_of : Option Stream → Option Stream → ℕ → ℕ → Result Bool Refusal
trim_of None blob_data generation before = Err NoSuchStream
trim_of (Some log) None generation before = Err NoSuchStream
trim_of (Some log) (Some blob_data) generation before = trim_of_log log generation before

-- what the log and the blob stream of a range answer to a generation that trims the log below an index: whether extents leave
abbrev pub trimming : Streams → ℕ → ℕ → ℕ → Result Bool Refusal
trimming streams range generation before = trim_of (streams range 1) (streams range 3) generation before

-- without its extents below an index
abbrev pub shorter : ℕ → Stream → Stream
shorter before x = record x { gone = take before (whole x); extents = drop before (whole x) }

-- its extents below an index
abbrev pub leaving : ℕ → Stream → List ℕ
leaving before x = take (before - base_of x) x.extents

abbrev pub with_extents : List ℕ → Stream → Stream
with_extents es x = record x { extents = x.extents ++ es }

abbrev pub log_name : ℕ → StreamName
log_name range = record { range = range; kind = Log }

abbrev pub blob_data_name : ℕ → StreamName
blob_data_name range = record { range = range; kind = BlobData }

abbrev pub trimmed_if : Streams → ℕ → ℕ → Bool → Option Stream → Option Stream → Streams
trimmed_if streams range before to_blob None blob_data = streams
trimmed_if streams range before to_blob (Some log) None = streams
trimmed_if streams range before to_blob (Some log) (Some blob_data) =
    with_stream (with_stream streams (log_name range) (shorter before log)) (blob_data_name range)
    (if to_blob then with_extents (leaving before log) blob_data else blob_data)

-- The log's extents below an index have left it, and where they are to be kept they stand at the end of the blob stream.
abbrev pub trimmed : Streams → ℕ → ℕ → Bool → Streams
trimmed streams range before to_blob = trimmed_if streams range before to_blob (streams range 1) (streams range 3)

-- ---- streams that are built from the lists of others

-- at most 255 streams at once, each of 1 to 255 others
abbrev pub are_sources : List Source → Bool
are_sources sources = nat_lt 0 (length sources) && nat_le (length sources) 255

abbrev pub may_list : List Modify → Bool
may_list list = nat_le (length list) 255 && list_all (λ m. are_sources m.sources) list

-- there is the stream, with this fence
abbrev pub has_fence : ℕ → Option Stream → Bool
has_fence fence None = false
has_fence fence (Some x) = x.fence == fence

abbrev pub is_unsealed : (ℕ → Option ℕ) → Option ℕ → Bool
is_unsealed sealed None = false
is_unsealed sealed (Some e) = not (is_there (sealed e))

-- there is the stream, and its last extent is open
abbrev pub is_open_at_the_end : (ℕ → Option ℕ) → Option Stream → Bool
is_open_at_the_end sealed None = false
is_open_at_the_end sealed (Some x) = is_unsealed sealed (last_of x.extents)

-- Why a stream is not built, each test over all its sources: there is one of its name, a source is missing, a source's fence is
-- not the generation that is named, the last extent of a source is open.
abbrev pub build_fault : (ℕ → Option ℕ) → Streams → Modify → Option Refusal
build_fault sealed streams m =
    if is_there (stream_of streams m.stream) then Some NameTaken
    else if list_any (λ s. not (is_there (stream_of streams s.stream))) m.sources then Some NoSuchStream
    else if list_any (λ s. not (has_fence s.generation (stream_of streams s.stream))) m.sources then Some Stale
    else if list_any (λ s. is_open_at_the_end sealed (stream_of streams s.stream)) m.sources then Some LastOpen
    else None

abbrev pub extents_of : Option Stream → List ℕ
extents_of None = []
extents_of (Some x) = x.extents

abbrev pub gone_of : Option Stream → List ℕ
gone_of None = []
gone_of (Some x) = x.gone

-- what has left the first of the sources
abbrev pub gone_of_first : Streams → List Source → List ℕ
gone_of_first streams [] = []
gone_of_first streams (s ∷ sources) = gone_of (stream_of streams s.stream)

-- the extents of the sources, one source after the other
abbrev pub joined_extents : Streams → List Source → List ℕ
joined_extents streams [] = []
joined_extents streams (s ∷ sources) = extents_of (stream_of streams s.stream) ++ joined_extents streams sources

abbrev pub greatest_generation : List Source → ℕ
greatest_generation [] = 0
greatest_generation (s ∷ sources) = max s.generation (greatest_generation sources)

-- the lists of the sources joined: it begins at the index of the first one, and its fence is the greatest generation named
abbrev pub joined : Streams → List Source → Stream
joined streams sources =
    record { gone = gone_of_first streams sources; fence = greatest_generation sources; extents = joined_extents streams sources }

abbrev pub built : Streams → Modify → Streams
built streams m = with_stream streams m.stream (joined streams m.sources)

-- with streams built one after the other, each from those that there are then; the sources stay as they are
abbrev pub modified : Streams → List Modify → Streams
modified streams [] = streams
modified streams (m ∷ list) = modified (built streams m) list

abbrev pub or_later : Option Refusal → Option Refusal → Option Refusal
or_later None later = later
or_later (Some refusal) later = Some refusal

-- why not all are built, the first reason in their order; each of them sees those before it
abbrev pub first_build_fault : (ℕ → Option ℕ) → Streams → List Modify → Option Refusal
first_build_fault sealed streams [] = None
first_build_fault sealed streams (m ∷ list) = or_later (build_fault sealed streams m) (first_build_fault sealed (built streams m) list)

abbrev pub modify_fault : (ℕ → Option ℕ) → Streams → List Modify → Option Refusal
modify_fault sealed streams list = if may_list list then first_build_fault sealed streams list else Some NoSuchStream

-- ---- places

-- the extent of an index; the first extent has the stream's base as its index
abbrev pub at_index : Stream → ℕ → Option ℕ
at_index x index = if nat_le (base_of x) index then slice_get x.extents (index - base_of x) else None

abbrev pub located : Option Stream → ℕ → ℕ → Option (ℕ × ℕ)
located None index offset = None
located (Some x) index offset = option_map (λ e. (e, offset)) (at_index x index)
