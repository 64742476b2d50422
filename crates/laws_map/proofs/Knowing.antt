-- Where more is known, all that was named is known still; and lists of ranges and splits by their numbers.
use Rattle.std.proofs.Common.{◌≡◌, ℕ, zero, suc, Bool, true, false, cond, List, [], ◌∷◌, ◌++◌, Option, Some, None, slice_get, slice_set, Contains, refl, sym, ap, subst, inl, inr, arith}
use Rattle.std.specs.Map.{lookup, remove_entry, set_value}
use Rattle.std.specs.BTreeMap.{is_at, insert_entry}
use Rattle.std.specs.Ordering.{nat_cmp, is_eq, match_ordering}
use Rattle.std.specs.declared.cmp.Ordering.{Ordering}
use Rattle.std.specs.declared.cmp.Ordering.TheVariants.{Less, Equal, Greater}
use Rattle.wire.specs.declared.actor.ReqNo.{ReqNo}
use Rattle.wire.specs.declared.body.StreamBody.{StreamBody}
use Rattle.wire.specs.declared.body.StreamBody.TheVariants as streams
use Rattle.wire.specs.declared.body.MapBody.{MapBody}
use Rattle.wire.specs.declared.body.MapBody.TheVariants as maps
use Rattle.wire.specs.declared.body.Body.{Body}
use Rattle.wire.specs.declared.body.Body.TheVariants as bodies
use Rattle.wire.specs.declared.packet.Packet.{Packet}
use Rattle.wire.specs.declared.streams.Modify.{Modify}
use Rattle.model_streams.specs.Manager.{Catalog}
use Rattle.model_partition.specs.declared.split_job.SplitJob.{SplitJob}
use Rattle.model_partition.specs.declared.split_job.SplitPhase.{SplitPhase}
use Rattle.model_partition.specs.declared.split_job.SplitPhase.TheVariants as phases
use Rattle.model_partition.specs.Range.{RangeState}
use Rattle.model_partition.specs.Server.{ServerState}
use Rattle.model_partition.specs.Servers.{ServerCell}
use Rattle.laws_map.specs.Naming.{Each, IsFor, AreFor, AsksStreams, Knowledge, IsSplit, IsBuilt, StreamNames, IsToSplit, MapNames, BodyNames, PacketNames, RangeNames, PhaseNames, JobNames, ServerNames, StateNames, CatalogNames}

-- ---- lists

pub each_weaker : {A : Type 0} (P Q : A → Type 0) → ((x : A) → P x → Q x) → (xs : List A) → Each P xs → Each Q xs
each_weaker P Q f [] a = tt
each_weaker P Q f (x ∷ xs) a = (f x a.0, each_weaker P Q f xs a.1)

pub each_both : {A : Type 0} (P : A → Type 0) (xs ys : List A) → Each P xs → Each P ys → Each P (xs ++ ys)
each_both P [] ys a b = b
each_both P (x ∷ xs) ys a b = (a.0, each_both P xs ys a.1 b)

pub each_has : {A : Type 0} (P : A → Type 0) (xs : List A) (x : A) → Each P xs → Contains xs x → P x
each_has P [] x a (k, less, is) = absurd (omega (arith, less))
each_has P (y ∷ ys) x a (zero, less, is) = subst P is a.0
each_has P (y ∷ ys) x a (suc k, less, is) = each_has P ys x a.1 (k, omega (arith, less), is)

pub each_get : {A : Type 0} (P : A → Type 0) (xs : List A) (k : ℕ) (x : A) → Each P xs → slice_get xs k ≡ Some x → P x
each_get P [] k x a is = absurd cc
each_get P (y ∷ ys) zero x a is = let s : y ≡ x = cc in subst P s a.0
each_get P (y ∷ ys) (suc k) x a is = each_get P ys k x a.1 is

pub each_put : {A : Type 0} (P : A → Type 0) (xs : List A) (k : ℕ) (x : A) → Each P xs → P x → Each P (slice_set xs k x)
each_put P [] k x a p = tt
each_put P (y ∷ ys) zero x a p = (p, a.1)
each_put P (y ∷ ys) (suc k) x a p = (a.0, each_put P ys k x a.1 p)

-- ---- lists by numbers

pub same_number : (n m : ℕ) → is_eq (nat_cmp n m) ≡ true → n ≡ m
same_number n m is = grind (arith, is)

module _ {A : Type 0} (P : ℕ → A → Type 0) where
  abbrev pub EachAt : List (ℕ × A) → Type 0
  EachAt xs = Each (λ x. P x.0 x.1) xs

  pub found_at : (xs : List (ℕ × A)) (n : ℕ) (v : A) → EachAt xs → lookup (is_at (nat_cmp n)) xs ≡ Some v → P n v
  found_at [] n v a is = absurd cc
  found_at (x ∷ xs) n v a is = go (is_eq (nat_cmp n x.0)) refl (λ more. found_at xs n v a.1 more) is
    where
      go : (b : Bool) → is_eq (nat_cmp n x.0) ≡ b → (lookup (is_at (nat_cmp n)) xs ≡ Some v → P n v) → cond b (Some x.1) (lookup (is_at (nat_cmp n)) xs) ≡ Some v → P n v
      go true e rest is = let s : x.1 ≡ v = cc in subst (λ z. P n z) s (subst (λ k. P k x.1) (sym (same_number n x.0 e)) a.0)
      go false e rest is = rest is

  pub removed_at : (xs : List (ℕ × A)) (n : ℕ) → EachAt xs → EachAt (remove_entry (is_at (nat_cmp n)) xs)
  removed_at [] n a = tt
  removed_at (x ∷ xs) n a = go (is_eq (nat_cmp n x.0)) (removed_at xs n a.1)
    where
      go : (b : Bool) → EachAt (remove_entry (is_at (nat_cmp n)) xs) → EachAt (cond b xs (x ∷ remove_entry (is_at (nat_cmp n)) xs))
      go true rest = a.1
      go false rest = (a.0, rest)

  pub put_at : (xs : List (ℕ × A)) (n : ℕ) (v : A) → EachAt xs → P n v → EachAt (set_value (is_at (nat_cmp n)) xs v)
  put_at [] n v a p = tt
  put_at (x ∷ xs) n v a p = go (is_eq (nat_cmp n x.0)) refl (put_at xs n v a.1 p)
    where
      go : (b : Bool) → is_eq (nat_cmp n x.0) ≡ b → EachAt (set_value (is_at (nat_cmp n)) xs v) → EachAt (cond b ((x.0, v) ∷ xs) (x ∷ set_value (is_at (nat_cmp n)) xs v))
      go true e rest = (subst (λ k. P k v) (same_number n x.0 e) p, a.1)
      go false e rest = (a.0, rest)

  pub inserted_at : (xs : List (ℕ × A)) (n : ℕ) (v : A) → EachAt xs → P n v → EachAt (insert_entry nat_cmp xs n v)
  inserted_at [] n v a p = (p, tt)
  inserted_at (x ∷ xs) n v a p = go (nat_cmp n x.0) refl (inserted_at xs n v a.1 p)
    where
      go : (o : Ordering) → nat_cmp n x.0 ≡ o → EachAt (insert_entry nat_cmp xs n v) → EachAt (match_ordering o ((n, v) ∷ x ∷ xs) ((x.0, v) ∷ xs) (x ∷ insert_entry nat_cmp xs n v))
      go Less e rest = (p, a)
      go Equal e rest = (subst (λ k. P k v) (same_number n x.0 (ap is_eq e)) p, a.1)
      go Greater e rest = (a.0, rest)

-- ---- what a range asks for is known where its generation is

module _ (K : Knowledge) where
  abbrev pub AllName : List Packet → Type 0
  AllName packets = Each (λ (p : Packet). BodyNames K p.body) packets

  asks_named : (range generation : ℕ) (body : StreamBody) → K.knows range generation → AsksStreams range generation body → StreamNames K body
  asks_named range generation (streams.OpenStreams n g q) k a = rw (a.0, a.1) k
  asks_named range generation (streams.Confirm n g q) k a = rw (a.0, a.1) k
  asks_named range generation (streams.Extend s g last pick q) k a = rw (a.0, a.1) k
  asks_named range generation (streams.Trim n g before to_blob q) k a = rw (a.0, a.1) k
  asks_named range generation body k a = absurd a

  pub is_named : (range generation : ℕ) (body : Body) → K.knows range generation → IsFor range generation body → BodyNames K body
  is_named range generation (bodies.Stream body) k a = asks_named range generation body k a
  is_named range generation (bodies.Map body) k a = absurd a
  is_named range generation body k a = tt

  pub are_named : (range generation : ℕ) (packets : List Packet) → K.knows range generation → AreFor range generation packets → AllName packets
  are_named range generation [] k a = tt
  are_named range generation (p ∷ packets) k a = (is_named range generation p.body k a.0, are_named range generation packets k a.1)

-- ---- more is known

-- all that the first knows the second knows
pub record Extends (K L : Knowledge) : Type 0 where
  pub knows : (range generation : ℕ) → K.knows range generation → L.knows range generation
  pub assigned : (range generation : ℕ) → K.assigned range generation → L.assigned range generation
  pub asked : (q : ReqNo) (range generation : ℕ) (key : List ℕ) → K.asked q range generation key → L.asked q range generation key
  pub begun : (q : ReqNo) (low high : ℕ) → K.begun q low high → L.begun q low high
  pub splits : (range generation : ℕ) (key : List ℕ) (low high : ℕ) → K.splits range generation key low high → L.splits range generation key low high
  pub numbers : (range : ℕ) → K.numbers range → L.numbers range
  pub merges : (range generation : ℕ) → K.merges range generation → L.merges range generation

module _ (K L : Knowledge) (e : Extends K L) where
  split_on : (job : SplitJob) → IsSplit K job → IsSplit L job
  split_on job s = e.splits job.range job.generation job.key job.low job.high s

  built_on : (list : List Modify) → IsBuilt K list → IsBuilt L list
  built_on list b = record { job = b.job; is = b.is; known = e.knows b.job.range b.job.generation b.known; split = split_on b.job b.split }

  stream_on : (body : StreamBody) → StreamNames K body → StreamNames L body
  stream_on (streams.CreateStream s fence q) n = e.knows s.range fence n
  stream_on (streams.OpenStreams range generation q) n = e.knows range generation n
  stream_on (streams.Confirm range generation q) n = e.knows range generation n
  stream_on (streams.Extend s generation last pick q) n = e.knows s.range generation n
  stream_on (streams.Trim range generation before to_blob q) n = e.knows range generation n
  stream_on (streams.MultiModify list q) n = built_on list n
  stream_on body n = tt

  to_split_on : (range generation : ℕ) → IsToSplit K range generation → IsToSplit L range generation
  to_split_on range generation s = record { key = s.key; low = s.low; high = s.high; split = e.splits range generation s.key s.low s.high s.split }

  map_on : (body : MapBody) → MapNames K body → MapNames L body
  map_on (maps.Assign range generation until) n = e.assigned range generation n
  map_on (maps.Renew range generation until) n = e.assigned range generation n
  map_on (maps.RouteIs q range server) n = e.numbers range n
  map_on (maps.BeginSplit range generation key q) n = (e.knows range generation n.0, e.asked q range generation key n.1)
  map_on (maps.SplitBegun q low high) n = e.begun q low high n
  map_on (maps.CompleteSplit range generation q) n = (e.knows range generation n.0, to_split_on range generation n.1)
  map_on (maps.BeginMerge left a right b q) n = (e.merges left a n.0, e.merges right b n.1)
  map_on (maps.MergeBegun q range) n = e.numbers range n
  map_on (maps.CompleteMerge left a right b q) n = (e.merges left a n.0, e.merges right b n.1)
  map_on body n = tt

  pub body_on : (body : Body) → BodyNames K body → BodyNames L body
  body_on (bodies.Stream body) n = stream_on body n
  body_on (bodies.Map body) n = map_on body n
  body_on body n = tt

  pub packet_on : (p : Packet) → PacketNames K p → PacketNames L p
  packet_on p n = elim n [ inl asks ↦ inl asks | inr names ↦ inr (body_on p.body names) ]

  range_on : (range : ℕ) (r : RangeState) → RangeNames K range r → RangeNames L range r
  range_on range r n = record { generation = n.generation; under = n.under; known = e.assigned range n.generation n.known }

  phase_on : (job : SplitJob) (phase : SplitPhase) → PhaseNames K job phase → PhaseNames L job phase
  phase_on job (phases.Begin q) n = e.asked q job.range job.generation job.key n
  phase_on job (phases.Keys side c) n = (split_on job n.0, n.1)
  phase_on job phases.Checkpoint n = split_on job n
  phase_on job phases.Queue n = split_on job n
  phase_on job phases.Record n = split_on job n
  phase_on job (phases.Seal kind q) n = split_on job n
  phase_on job (phases.Build q) n = split_on job n
  phase_on job (phases.Complete q) n = split_on job n

  job_on : (range : ℕ) (job : SplitJob) → JobNames K range job → JobNames L range job
  job_on range job n = record { number = n.number; known = e.knows job.range job.generation n.known; phase = phase_on job job.phase n.phase }

  pub server_on : (s : ServerState) → ServerNames K s → ServerNames L s
  server_on s n = record {
    ranges = each_weaker (λ (x : ℕ × RangeState). RangeNames K x.0 x.1) (λ (x : ℕ × RangeState). RangeNames L x.0 x.1) (λ x h. range_on x.0 x.1 h) s.ranges n.ranges;
    splits = each_weaker (λ (x : ℕ × SplitJob). JobNames K x.0 x.1) (λ (x : ℕ × SplitJob). JobNames L x.0 x.1) (λ x h. job_on x.0 x.1 h) s.splits n.splits;
    rising = n.rising;
    merges = n.merges;
  }

  pub state_on : (state : Option ServerState) → StateNames K state → StateNames L state
  state_on None n = tt
  state_on (Some s) n = server_on s n

  pub cells_on : (cells : List ServerCell) → Each (λ (cell : ServerCell). StateNames K cell.state) cells → Each (λ (cell : ServerCell). StateNames L cell.state) cells
  cells_on cells n = each_weaker (λ (cell : ServerCell). StateNames K cell.state) (λ (cell : ServerCell). StateNames L cell.state) (λ cell h. state_on cell.state h) cells n

  pub catalog_on : (b : Catalog) → CatalogNames K b → CatalogNames L b
  catalog_on b n range kind x is = e.knows range x.fence (n range kind x is)
