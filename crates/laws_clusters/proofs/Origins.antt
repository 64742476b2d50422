-- Where the ranges of a map come from: each is the first one, or a split that was shown made it.
use Rattle.std.proofs.Common.{◌≡◌, ◌⊎◌, ℕ, suc, ◌+◌, ◌^◌, Bool, true, false, ◌==◌, nat_lt, List, [], ◌∷◌, ◌++◌, map, Option, Some, None, refl, sym, ap, ◌∙◌, subst, inl, inr, append-nil, append_assoc, if◌then◌else◌}
use Rattle.std.proofs.lemmas.Option.{same_Some}
use Rattle.wire.specs.declared.actor.ActorId.{ActorId}
use Rattle.wire.specs.declared.actor.ReqNo.{ReqNo}
use Rattle.wire.specs.declared.body.Body.{Body}
use Rattle.wire.specs.declared.body.Body.TheVariants as bodies
use Rattle.wire.specs.declared.body.MapBody.{MapBody}
use Rattle.wire.specs.declared.body.MapBody.TheVariants as maps
use Rattle.wire.specs.declared.note.Note.{Note}
use Rattle.wire.specs.declared.note.Note.TheVariants as notes
use Rattle.wire.specs.declared.packet.Packet.{Packet}
use Rattle.wire.specs.declared.refusal.Refusal.{Refusal}
use Rattle.model_streams.specs.Outcome.{Outcome, silent}
use Rattle.model_streams.proofs.Tests.{if_elim}
use Rattle.model_partition.specs.declared.pending.Pending.{Pending}
use Rattle.model_partition.specs.declared.pending.Pending.TheVariants as pendings
use Rattle.model_partition.specs.declared.range_entry.RangeEntry.{RangeEntry}
use Rattle.model_partition.specs.Past.{first_range, table_notes}
use Rattle.model_partition.specs.Map.{MapState, range_at, range_of_key, changed_if, assigned, renewed, dropped_if, with_pending, halves_at, halves, split_in, union_with}
use Rattle.model_partition.specs.MapRules.{assign_rule, renew_rule, has_numbers, begin_split_fault, begin_split_taken, begin_split_rule, complete_split_fault, complete_split_taken, complete_split_rule, begin_merge_fault, begin_merge_taken, begin_merge_rule, route_rule, called, told, map_rule}
use Rattle.model_partition.proofs.Numbers.{kept, dropped}
use Rattle.laws_map.specs.Naming.{Each, Knowledge}
use Rattle.laws_map.proofs.Knowing.{AllName, each_weaker, Extends}
use Rattle.laws_map.proofs.SplitNames.{Laws}
use Rattle.laws_map.proofs.UsedNumbers.{assigns_nothing, renews_nothing}
use Rattle.laws_map.proofs.WithinMaps.{each_map}
use Rattle.laws_map.proofs.GivenNumbers.{entry_number}
use Rattle.laws_map.proofs.GoneRanges.{found_knows}

-- ---- how a range came to be

-- a split among these made it
pub record IsMade (h : List Note) (range : ℕ) : Type 0 where
  pub before : List Note
  pub after : List Note
  pub parent : ℕ
  pub low : ℕ
  pub high : ℕ
  pub key : List ℕ
  pub is : h ≡ before ++ notes.Split parent low high key ∷ after
  pub half : (range ≡ low) ⊎ (range ≡ high)

-- the first one, or one that a split made
abbrev pub HasOrigin : List Note → ℕ → Type 0
HasOrigin h range = (range ≡ first_range) ⊎ IsMade h range

-- where more is shown the split is shown still
pub origin_more : (h new : List Note) (range : ℕ) → HasOrigin h range → HasOrigin (h ++ new) range
origin_more h new range (inl first) = inl first
origin_more h new range (inr m) = inr (record {
  before = m.before;
  after = m.after ++ new;
  parent = m.parent;
  low = m.low;
  high = m.high;
  key = m.key;
  is = ap (λ l. l ++ new) m.is ∙ append_assoc m.before (notes.Split m.parent m.low m.high m.key ∷ m.after) new;
  half = m.half;
})

-- the split that is shown last makes its two
last_made : (h : List Note) (parent low high : ℕ) (key : List ℕ) → HasOrigin (h ++ notes.Split parent low high key ∷ []) low × HasOrigin (h ++ notes.Split parent low high key ∷ []) high
last_made h parent low high key = (
  inr (record { before = h; after = []; parent = parent; low = low; high = high; key = key; is = refl; half = inl refl }),
  inr (record { before = h; after = []; parent = parent; low = low; high = high; key = key; is = refl; half = inr refl }),
)

-- each entry has an origin that these show
abbrev pub AreFrom : List Note → List RangeEntry → Type 0
AreFrom h rs = Each (λ (r : RangeEntry). HasOrigin h r.range) rs

pub from_more : (h new : List Note) (rs : List RangeEntry) → AreFrom h rs → AreFrom (h ++ new) rs
from_more h new rs from = each_weaker (λ (r : RangeEntry). HasOrigin h r.range) (λ (r : RangeEntry). HasOrigin (h ++ new) r.range) (λ r o. origin_more h new r.range o) rs from

-- the entry of a number
pub found_from : (h : List Note) (range : ℕ) (rs : List RangeEntry) (x : RangeEntry) → AreFrom h rs → range_at rs range ≡ Some x → HasOrigin h range
found_from h range rs x from at = subst (HasOrigin h) (entry_number range rs x at) (found_knows (λ (r : RangeEntry). HasOrigin h r.range) range rs x from at)

-- ---- observations of ranges that are served

-- of which an origin is shown
abbrev pub NoteFrom : List Note → Note → Type 0
NoteFrom h (notes.Began range generation number changes) = HasOrigin h range
NoteFrom h (notes.Done range generation number) = HasOrigin h range
NoteFrom h (notes.Loaded range generation rows next) = HasOrigin h range
NoteFrom h note = Unit {0}

abbrev pub AllFrom : List Note → List Note → Type 0
AllFrom h ns = Each (NoteFrom h) ns

note_more : (h new : List Note) (note : Note) → NoteFrom h note → NoteFrom (h ++ new) note
note_more h new (notes.Began range generation number changes) f = origin_more h new range f
note_more h new (notes.Done range generation number) f = origin_more h new range f
note_more h new (notes.Loaded range generation rows next) f = origin_more h new range f
note_more h new (notes.Got range generation key value) f = tt
note_more h new (notes.Split parent low high key) f = tt
note_more h new (notes.Merged left right range) f = tt
note_more h new (notes.Acked e offset group) f = tt
note_more h new (notes.SealedAt e length) f = tt
note_more h new (notes.Content e node groups) f = tt
note_more h new (notes.Seen e node offset bytes) f = tt

pub all_more : (h new ns : List Note) → AllFrom h ns → AllFrom (h ++ new) ns
all_more h new ns f = each_weaker (NoteFrom h) (NoteFrom (h ++ new)) (note_more h new) ns f

-- ---- what is known of ranges that were assigned

-- each has an origin that these show, and no two were merged
abbrev pub origins : List Note → Knowledge
origins h =
    record {
      knows = λ range generation. Unit {0};
      assigned = λ range generation. HasOrigin h range;
      asked = λ q range generation key. Unit {0};
      begun = λ q low high. Unit {0};
      splits = λ range generation key low high. Unit {0};
      numbers = λ range. Unit {0};
      merges = λ range generation. ⊥;
    }

pub origins_laws : (h : List Note) → Laws (origins h)
origins_laws h = record {
  leased = λ range generation k. tt;
  tells = λ q w range generation key low high a same b. tt;
  low = λ range generation key low high k. tt;
  high = λ range generation key low high k. tt;
}

pub origins_more : (h new : List Note) → Extends (origins h) (origins (h ++ new))
origins_more h new = record {
  knows = λ range generation k. k;
  assigned = λ range generation k. origin_more h new range k;
  asked = λ q range generation key k. k;
  begun = λ q low high k. k;
  splits = λ range generation key low high k. k;
  numbers = λ range k. k;
  merges = λ range generation k. k;
}

pub origins_same : (h : List Note) → Extends (origins h) (origins h)
origins_same h = record {
  knows = λ range generation k. k;
  assigned = λ range generation k. k;
  asked = λ q range generation key k. k;
  begun = λ q low high k. k;
  splits = λ range generation key low high k. k;
  numbers = λ range k. k;
  merges = λ range generation k. k;
}

-- ---- the map

-- it does not ask to merge two
abbrev IsUnmergedMap : MapBody → Type 0
IsUnmergedMap (maps.CompleteMerge left b right g q) = ⊥
IsUnmergedMap body = Unit {0}

abbrev pub IsUnmergedBody : Body → Type 0
IsUnmergedBody (bodies.Map body) = IsUnmergedMap body
IsUnmergedBody body = Unit {0}

-- What a rule leaves has origins that are shown with what it shows; it shows nothing that a server would; and it tells of ranges that have
-- origins.
pub record Gives (m : MapState) (h : List Note) (o : Outcome MapState) : Type 0 where
  pub entries : AreFrom (h ++ table_notes o.notes) o.after.ranges
  pub none : (seen : List Note) → AllFrom seen (table_notes o.notes)
  pub packets : (seen : List Note) → ((range : ℕ) → HasOrigin h range → HasOrigin seen range) → AllName (origins seen) o.packets

module _ (m : MapState) (h : List Note) (from : AreFrom h m.ranges) where
  abbrev Giving : Outcome MapState → Type 0
  Giving o = Gives m h o

  abbrev Telling : List Packet → Type 0
  Telling ps = (seen : List Note) → ((range : ℕ) → HasOrigin h range → HasOrigin seen range) → AllName (origins seen) ps

  -- a rule that shows nothing
  quiet : (o : Outcome MapState) → o.notes ≡ [] → AreFrom h o.after.ranges → Telling o.packets → Giving o
  quiet o none after packets = record {
    entries = subst (λ (ns : List Note). AreFrom (h ++ table_notes ns) o.after.ranges) (sym none) (subst (λ (l : List Note). AreFrom l o.after.ranges) (sym (append-nil h)) after);
    none = λ seen. subst (λ (ns : List Note). AllFrom seen (table_notes ns)) (sym none) tt;
    packets = packets;
  }

  silent_gives : Giving (silent m)
  silent_gives = quiet (silent m) refl from (λ seen on. tt)

  called_gives : (p : Packet) (q : ReqNo) (fault : Option Refusal) (o : Outcome MapState) → Giving o → Giving (called m p q fault o)
  called_gives p q (Some refusal) o taken = quiet (called m p q (Some refusal) o) refl from (λ seen on. (tt, tt))
  called_gives p q None o taken = taken

  -- a change that leaves numbers as they are
  change_from : (change : RangeEntry → RangeEntry) → ((r : RangeEntry) → (change r).range ≡ r.range) → (rs : List RangeEntry) → AreFrom h rs → AreFrom h (map change rs)
  change_from change number rs all = each_map (λ (r : RangeEntry). HasOrigin h r.range) (λ (r : RangeEntry). HasOrigin h r.range) change (λ r o. subst (HasOrigin h) (sym (number r)) o) rs all

  drop_from : (range : ℕ) (rs : List RangeEntry) → AreFrom h rs → AreFrom h (map (dropped_if range) rs)
  drop_from range rs all = change_from (dropped_if range) (dropped range).number rs all

  begin_from : (range : ℕ) (pending : Pending) (rs : List RangeEntry) → AreFrom h rs → AreFrom h (map (changed_if range (with_pending pending)) (map (dropped_if range) rs))
  begin_from range pending rs all = change_from (changed_if range (with_pending pending)) number (map (dropped_if range) rs) (drop_from range rs all)
    where
      number : (r : RangeEntry) → (changed_if range (with_pending pending) r).range ≡ r.range
      number r = if_elim (λ (y : RangeEntry). y.range ≡ r.range) (r.range == range) (with_pending pending r) r (λ t. refl) (λ f. refl)

  pub assign_gives : (range server until : ℕ) (o : Option RangeEntry) → range_at m.ranges range ≡ o → Giving (assign_rule m range server until o)
  assign_gives range server until None at = silent_gives
  assign_gives range server until (Some x) at =
      if_elim Giving (nat_lt (suc x.generation) (2 ^ 64)) _ _
      (λ t. quiet _ refl (change_from (changed_if range (assigned server until)) (kept range (assigned server until) (assigns_nothing server until)).number (map (dropped_if range) m.ranges) (drop_from range m.ranges from))
      (λ seen on. (on range (found_from h range m.ranges x from at), tt)))
      (λ f. silent_gives)

  pub renew_gives : (range server until : ℕ) (o : Option RangeEntry) → range_at m.ranges range ≡ o → Giving (renew_rule m range server until o)
  renew_gives range server until None at = silent_gives
  renew_gives range server until (Some x) at =
      quiet (renew_rule m range server until (Some x)) refl (change_from (changed_if range (renewed until)) (kept range (renewed until) (renews_nothing until)).number m.ranges from)
      (λ seen on. (on range (found_from h range m.ranges x from at), tt))

  route_gives : (p : Packet) (q : ReqNo) (o : Option RangeEntry) → Giving (route_rule m p q o)
  route_gives p q None = silent_gives
  route_gives p q (Some r) = quiet (route_rule m p q (Some r)) refl from (λ seen on. (tt, tt))

  begin_split_gives : (to : ActorId) (q : ReqNo) (range : ℕ) (key : List ℕ) (pair : Option (ℕ × ℕ)) → Giving (begin_split_taken m to q range key pair)
  begin_split_gives to q range key (Some pair) = quiet (begin_split_taken m to q range key (Some pair)) refl from (λ seen on. (tt, tt))
  begin_split_gives to q range key None =
      if_elim Giving (has_numbers m 2) _ _ (λ t. quiet _ refl (begin_from range (pendings.Split key m.next (m.next + 1)) m.ranges from) (λ seen on. (tt, tt))) (λ f. silent_gives)

  begin_split_rule_gives : (to : ActorId) (q : ReqNo) (range : ℕ) (key : List ℕ) (o : Option RangeEntry) → Giving (begin_split_rule m to q range key o)
  begin_split_rule_gives to q range key None = silent_gives
  begin_split_rule_gives to q range key (Some r) = begin_split_gives to q range key (halves_at key r.pending)

  -- both halves have an origin where the split is shown
  split_in_from : (seen : List Note) (range : ℕ) (rs : List RangeEntry) (x : RangeEntry) (key : List ℕ) (low high : ℕ) → range_at rs range ≡ Some x → x.pending ≡ Some (pendings.Split key low high) →
      HasOrigin seen low → HasOrigin seen high → AreFrom seen rs → AreFrom seen (split_in rs range)
  split_in_from seen range [] x key low high at pending l g all = tt
  split_in_from seen range (r ∷ rs) x key low high at pending l g all = go (r.range == range) at (λ more. split_in_from seen range rs x key low high more pending l g all.1)
    where
      go : (b : Bool) → (if b then Some r else range_at rs range) ≡ Some x → (range_at rs range ≡ Some x → AreFrom seen (split_in rs range)) → AreFrom seen (if b then halves r r.pending ++ rs else r ∷ split_in rs range)
      go true is more =
          let same : r ≡ x = same_Some r x is in
          let here : r.pending ≡ Some (pendings.Split key low high) = subst (λ (y : RangeEntry). y.pending ≡ Some (pendings.Split key low high)) (sym same) pending in
          subst (λ (p : Option Pending). AreFrom seen (halves r p ++ rs)) (sym here) (l, (g, all.1))
      go false is more = (all.0, more is)

  complete_split_gives : (to : ActorId) (q : ReqNo) (range : ℕ) (o : Option RangeEntry) → range_at m.ranges range ≡ o → Giving (complete_split_rule m to q range o)
  complete_split_gives to q range None at = silent_gives
  complete_split_gives to q range (Some r) at = by_pending r.pending refl
    where
      by_pending : (p : Option Pending) → r.pending ≡ p → Giving (complete_split_taken m to q range p)
      by_pending None is = silent_gives
      by_pending (Some (pendings.Merge right into)) is = silent_gives
      by_pending (Some (pendings.Split key low high)) is =
          let made = last_made h range low high key in
          record {
            entries = split_in_from (h ++ notes.Split range low high key ∷ []) range m.ranges r key low high at is made.0 made.1 (from_more h (notes.Split range low high key ∷ []) m.ranges from);
            none = λ seen. (tt, tt);
            packets = λ seen on. (tt, tt);
          }

  begin_merge_gives : (to : ActorId) (q : ReqNo) (left right : ℕ) (into : Option ℕ) → Giving (begin_merge_taken m to q left right into)
  begin_merge_gives to q left right (Some into) = quiet (begin_merge_taken m to q left right (Some into)) refl from (λ seen on. (tt, tt))
  begin_merge_gives to q left right None =
      if_elim Giving (has_numbers m 1) _ _ (λ t. quiet _ refl (begin_from left (pendings.Merge right m.next) (map (dropped_if right) m.ranges) (drop_from right m.ranges from)) (λ seen on. (tt, tt))) (λ f. silent_gives)

  begin_merge_rule_gives : (to : ActorId) (q : ReqNo) (left right : ℕ) (l : Option RangeEntry) → Giving (begin_merge_rule m to q left right l)
  begin_merge_rule_gives to q left right None = silent_gives
  begin_merge_rule_gives to q left right (Some l) = begin_merge_gives to q left right (union_with right l.pending)

  told_gives : (p : Packet) (body : MapBody) → IsUnmergedMap body → Giving (told m p body)
  told_gives p (maps.Route key q) unmerged = route_gives p q (range_of_key m.ranges key)
  told_gives p (maps.BeginSplit range generation key q) unmerged =
      called_gives p q (begin_split_fault generation key (range_at m.ranges range)) _ (begin_split_rule_gives p.from q range key (range_at m.ranges range))
  told_gives p (maps.CompleteSplit range generation q) unmerged =
      called_gives p q (complete_split_fault generation (range_at m.ranges range)) _ (complete_split_gives p.from q range (range_at m.ranges range) refl)
  told_gives p (maps.BeginMerge left b right g q) unmerged =
      called_gives p q (begin_merge_fault b g (range_at m.ranges left) (range_at m.ranges right)) _ (begin_merge_rule_gives p.from q left right (range_at m.ranges left))
  told_gives p (maps.CompleteMerge left b right g q) unmerged = absurd unmerged
  told_gives p body unmerged = silent_gives

  pub map_gives : (p : Packet) (body : Body) → IsUnmergedBody body → Giving (map_rule m p body)
  map_gives p (bodies.Map body) unmerged = told_gives p body unmerged
  map_gives p body unmerged = silent_gives
