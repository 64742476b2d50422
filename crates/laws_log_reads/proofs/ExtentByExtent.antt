-- A stream is read extent by extent: what is read of it is kept.
use Rattle.std.proofs.Common.{◌≡◌, ℕ, suc, ◌+◌, ◌-◌, ◌<◌, ◌≤◌, List, [], ◌∷◌, length, Bool, true, false, Option, Some, None, slice_get, get_or, refl, sym, ap, ◌∙◌, subst, arith}
use Rattle.std.proofs.lemmas.Option.{slice_get-get_or}
use Rattle.wire.specs.declared.streams.StreamExtent.{StreamExtent}
use Rattle.wire.specs.declared.streams.StreamName.{StreamName}
use Rattle.replica.specs.Groups.{Group}
use Rattle.client.specs.declared.job.Job.TheVariants as jobs
use Rattle.client.specs.Client.{ClientState, last_extent}
use Rattle.model_streams.specs.StreamSystem.{StreamSystem}
use Rattle.model_partition.specs.declared.server_context.ServerContext.{ServerContext}
use Rattle.model_partition.specs.Range.{picking}
use Rattle.model_partition.specs.Loading.{read_of}
use Rattle.model_histories.specs.StreamActions.{ExtentRead}
use Rattle.model_histories.specs.StreamMachine as machine
use Rattle.laws_stream_machine.specs.Refinement.{Sent, Tells}
use Rattle.laws_ranges.specs.Serves.{Stand, is_live, known}
use Rattle.laws_log_reads.specs.Reads.{IsSealed, AllSealed, HasStood, AllRead, WereSealed, LastStood, Nothing, HasReadTo}
use Rattle.laws_log_reads.proofs.ReadRequests.{AsksThere, read_there}

-- where no extent is known, none is open
pub none_open : (xs : List StreamExtent) → length xs ≤ 0 → is_live (last_extent xs) ≡ false
none_open [] le = refl
none_open (x ∷ xs) le = absurd (omega (arith, le))

-- where there is no last extent, none is known
pub none_known : (xs : List StreamExtent) → last_extent xs ≡ None → length xs ≤ 0
none_known [] e = omega arith
none_known (x ∷ xs) e =
    let at : last_extent (x ∷ xs) ≡ Some (get_or (x ∷ xs) (length (x ∷ xs) - 1) x) = slice_get-get_or (x ∷ xs) (length (x ∷ xs) - 1) x (omega arith) in
    absurd (let z : None ≡ Some (get_or (x ∷ xs) (length (x ∷ xs) - 1) x) = sym e ∙ at in cc)

-- what is read of one more extent, at a position: it is sealed, or it is open and was checked
pub data IsRead (name : StreamName) (w : StreamSystem) (i : ℕ) (s : machine.MachineState Group) (c : ClientState) (position : ℕ) (known : StreamExtent) (x : ExtentRead) : Type 0 where
  ItsSealed : (l : ℕ) (is : known.length ≡ Some l) (b : IsSealed name w i s (c.base + position) x) → IsRead name w i s c position known x
  ItStood : (found : ℕ) (is : known.length ≡ None) (checked : c.checked ≡ Some found) (b : HasStood name w i s (c.base + position) found x) → IsRead name w i s c position known x

-- what the client knows was told rightly
abbrev pub TellsOf : (ℕ → ℕ) → StreamName → StreamSystem → Stand → List Sent → ClientState → Type 0
TellsOf generation name w x sent c = Tells generation name w x.state sent (record { base = c.base; extents = c.extents })

-- a last extent that is open was checked
abbrev pub IsMeasured : ClientState → Type 0
IsMeasured c = is_live (last_extent c.extents) ≡ true → (found : ℕ) × (c.checked ≡ Some found)

module _ (generation : ℕ → ℕ) (name : StreamName) (w : StreamSystem) (i : ℕ) (x : Stand) (sent : List Sent) (from : ℕ) where
  -- the extents from an index on below a position are read, and nothing is asked for
  pub record HasReadBelow (c : ClientState) (reads : List ExtentRead) (position : ℕ) : Type 0 where
    pub told : TellsOf generation name w x sent c
    pub inside : c.base ≤ from
    pub idle : c.job ≡ jobs.Idle
    pub count : from + length reads ≡ c.base + position
    pub sealed : position < length c.extents → AllSealed name w i x.state from reads
    pub all : length c.extents ≤ position → AllRead name w i x.state from c reads

  -- nothing is read yet, and the first extent to be read stands at a position, or just behind the last
  pub nothing_read : (c : ClientState) (position : ℕ) → TellsOf generation name w x sent c → from ≡ c.base + position → position ≤ length c.extents → (length c.extents ≤ position → IsMeasured c) →
      c.job ≡ jobs.Idle → (reads : List ExtentRead) → reads ≡ [] → HasReadBelow c reads position
  nothing_read c position told at upto measured idle reads none = subst (λ rs. HasReadBelow c rs position) (sym none) first
    where
      behind : length c.extents ≤ position → from ≡ known c
      behind le = omega (arith, at, upto, le)

      all_read : length c.extents ≤ position → (live : Bool) → is_live (last_extent c.extents) ≡ live → AllRead name w i x.state from c []
      all_read le true e = let m = measured le e in Nothing (omega (arith, at)) m.0 e (behind le) m.1 refl
      all_read le false e = WereSealed (omega (arith, at)) e (let b : from ≡ known c = behind le in omega (arith, b)) tt

      first : HasReadBelow c [] position
      first = record {
        told = told;
        inside = omega (arith, at);
        idle = idle;
        count = omega (arith, at);
        sealed = λ more. tt;
        all = λ le. all_read le (is_live (last_extent c.extents)) refl;
      }

  -- the next extent is asked for
  pub next_asked : (d : ServerContext) (c : ClientState) (reads : List ExtentRead) (position : ℕ) → HasReadBelow c reads position → position < length c.extents →
      HasReadTo name w i x.state from (read_of d (picking d c) position).after reads position
  next_asked d c reads position b below =
      let there : AsksThere d c position b.told.unsealed (read_of d (picking d c) position) = read_there d c position b.told.unsealed b.idle in
      record {
        inside = subst (λ k. k ≤ from) (sym there.0.base) b.inside;
        count = b.count ∙ ap (λ k. k + position) (sym there.0.base);
        below = subst (λ k. position < k) (sym (ap length there.0.extents)) below;
        sealed = b.sealed below;
        job = there.1;
      }

  -- ---- the groups of an extent have come

  pub record HasOneMore (c : ClientState) (older : List ExtentRead) (position : ℕ) (y : ExtentRead) : Type 0 where
    pub told : TellsOf generation name w x sent c
    pub inside : c.base ≤ from
    pub idle : c.job ≡ jobs.Idle
    pub count : from + length older ≡ c.base + position
    pub below : position < length c.extents
    pub sealed : AllSealed name w i x.state from older
    pub known : StreamExtent
    pub at : slice_get c.extents position ≡ Some known
    pub read : IsRead name w i x.state c position known y

  module _ (c : ClientState) (older : List ExtentRead) (position : ℕ) (y : ExtentRead) (b : HasOneMore c older position y) where
    last_is : suc position ≡ length c.extents → last_extent c.extents ≡ Some b.known
    last_is end = let back : length c.extents - 1 ≡ position = omega (arith, end) in subst (λ k. slice_get c.extents k ≡ Some b.known) (sym back) b.at

    live_is : (o : Option ℕ) → b.known.length ≡ o → suc position ≡ length c.extents → is_live (last_extent c.extents) ≡ is_live (Some (record b.known { length = o }))
    live_is o is end = ap is_live (last_is end) ∙ ap (λ k. is_live (Some (record b.known { length = k }))) is

    -- one more is sealed
    more_sealed : IsSealed name w i x.state (c.base + position) y → AllSealed name w i x.state from (y ∷ older)
    more_sealed k = (subst (λ n. IsSealed name w i x.state n y) (sym b.count) k, b.sealed)

    still_sealed : suc position < length c.extents → IsRead name w i x.state c position b.known y → AllSealed name w i x.state from (y ∷ older)
    still_sealed more (ItsSealed m is k) = more_sealed k
    still_sealed more (ItStood found is checked k) =
        let end : suc position ≡ length c.extents = b.told.unsealed position b.known b.at is in
        absurd (omega (arith, more, end))

    one_longer : from + length (y ∷ older) ≡ c.base + suc position
    one_longer = let count : from + length older ≡ c.base + position = b.count in omega (arith, count)

    all_read : length c.extents ≤ suc position → IsRead name w i x.state c position b.known y → AllRead name w i x.state from c (y ∷ older)
    all_read le (ItsSealed m is k) =
        let below : position < length c.extents = b.below in
        let end : suc position ≡ length c.extents = omega (arith, le, below) in
        WereSealed b.inside (live_is (Some m) is end) (one_longer ∙ ap (λ n. c.base + n) end) (more_sealed k)
    all_read le (ItStood found is checked k) =
        let below : position < length c.extents = b.below in
        let end : suc position ≡ length c.extents = omega (arith, le, below) in
        let count : from + length older ≡ c.base + position = b.count in
        LastStood b.inside y older found refl (live_is None is end) (omega (arith, count, end)) checked b.sealed (subst (λ n. HasStood name w i x.state n found y) (sym b.count) k)

    -- one more extent is read
    pub one_more : HasReadBelow c (y ∷ older) (suc position)
    one_more = record {
      told = b.told;
      inside = b.inside;
      idle = b.idle;
      count = one_longer;
      sealed = λ more. still_sealed more b.read;
      all = λ le. all_read le b.read;
    }
