-- What comes of a call by a packet is the rule of the packet.
use Rattle.std.proofs.Common.{◌≡◌, ℕ, Bool, true, false, not, ◌&&◌, List, [], ◌∷◌, Option, Some, None, Result, Ok, Err, IfErr, refl, ap, sym, subst, append-nil, if◌then◌else◌}
use Rattle.std.specs.Prelude.{MatchResult, ◌==◌, is_none}
use Rattle.block_types.specs.declared.record.Record.{Record}
use Rattle.disk.specs.declared.device.DiskFault.{DiskFault}
use Rattle.disk.specs.declared.device.DiskFault.TheVariants as disk
use Rattle.disk.specs.Disk.{DiskState}
use Rattle.wire.specs.declared.actor.ActorId.TheVariants.{Map}
use Rattle.wire.specs.declared.actor.ReqNo.{ReqNo}
use Rattle.wire.specs.declared.body.MapBody.{MapBody}
use Rattle.wire.specs.declared.body.MapBody.TheVariants as maps
use Rattle.wire.specs.declared.packet.Packet.{Packet}
use Rattle.wire.specs.declared.packet.Step.{Step}
use Rattle.wire.specs.declared.refusal.Refusal.{Refusal}
use Rattle.wire.specs.declared.refusal.Refusal.TheVariants.{NotOwner, BadSplitKey, NotAdjacent, GenerationChanged}
use Rattle.model_streams.specs.Outcome.{Outcome, first_met, or_refused, silent}
use Rattle.model_partition.specs.declared.range_entry.RangeEntry.{RangeEntry}
use Rattle.model_partition.specs.Map.{MapState, is_split_key}
use Rattle.model_partition.specs.MapRules.{is_split, is_beside, is_same_holder, begin_split_fault, complete_split_fault, begin_merge_fault, complete_merge_fault, told}
use Rattle.pmap.specs.declared.fault.MapFault.{MapFault}
use Rattle.pmap.specs.declared.fault.MapFault.TheVariants as faults
use Rattle.pmap.specs.MapWithFile.{MapWithFile, map_of, MakesMap}
use Rattle.pmap.specs.Performs.{MapPerforms, as_rule, fault_of, is_failure, refusal_of, AnswersFault, AnswersCall}

-- a refusal that a call by a packet meets
abbrev pub IsCallRefusal : Refusal → Type 0
IsCallRefusal r = refusal_of (fault_of r) ≡ Some r

abbrev pub AreCallRefusals : List (Refusal × Bool) → Type 0
AreCallRefusals [] = Unit {0}
AreCallRefusals ((refusal, test) ∷ tests) = IsCallRefusal refusal × AreCallRefusals tests

first_is : (tests : List (Refusal × Bool)) (r : Refusal) → AreCallRefusals tests → first_met tests ≡ Some r → IsCallRefusal r
first_is [] r all is = absurd cc
first_is ((x, b) ∷ tests) r all is = go b is (first_is tests r all.1)
  where
    go : (c : Bool) → (if c then Some x else first_met tests) ≡ Some r → (first_met tests ≡ Some r → IsCallRefusal r) → IsCallRefusal r
    go true some more = let e : x ≡ r = cc in subst IsCallRefusal e all.0
    go false some more = more some

changed_is : (r : Refusal) → Some GenerationChanged ≡ Some r → IsCallRefusal r
changed_is r is = let e : GenerationChanged ≡ r = cc in subst IsCallRefusal e refl

pub begin_split_is : (generation : ℕ) (key : List ℕ) (o : Option RangeEntry) (r : Refusal) → begin_split_fault generation key o ≡ Some r → IsCallRefusal r
begin_split_is generation key None r is = changed_is r is
begin_split_is generation key (Some x) r is =
    first_is ((GenerationChanged, not (x.generation == generation)) ∷ (BadSplitKey, not (is_split_key x.keys key)) ∷ []) r (refl, (refl, tt)) is

pub complete_split_is : (generation : ℕ) (o : Option RangeEntry) (r : Refusal) → complete_split_fault generation o ≡ Some r → IsCallRefusal r
complete_split_is generation None r is = changed_is r is
complete_split_is generation (Some x) r is = first_is ((GenerationChanged, not (x.generation == generation && is_split x.pending)) ∷ []) r (refl, tt) is

pub begin_merge_is : (g h : ℕ) (o p : Option RangeEntry) (r : Refusal) → begin_merge_fault g h o p ≡ Some r → IsCallRefusal r
begin_merge_is g h None p r is = changed_is r is
begin_merge_is g h (Some x) None r is = changed_is r is
begin_merge_is g h (Some x) (Some y) r is =
    first_is ((GenerationChanged, not (x.generation == g && y.generation == h)) ∷ (NotAdjacent, not (is_beside x.keys y.keys)) ∷ (NotOwner, not (is_same_holder x.holder y.holder)) ∷ []) r (refl, (refl, (refl, tt))) is

pub complete_merge_is : (g h : ℕ) (o p : Option RangeEntry) (into : Option ℕ) (r : Refusal) → complete_merge_fault g h o p into ≡ Some r → IsCallRefusal r
complete_merge_is g h None p into r is = changed_is r is
complete_merge_is g h (Some x) None into r is = changed_is r is
complete_merge_is g h (Some x) (Some y) into r is =
    first_is ((GenerationChanged, not (x.generation == g && y.generation == h)) ∷ (GenerationChanged, is_none into) ∷ []) r (refl, (refl, tt)) is

module _ {D : Type 0} (state : D → DiskState) (x y : MapWithFile D) (p : Packet) (q : ReqNo) (rule : Outcome MapState) where
  -- a rule that does nothing but send, of a map that makes its records
  pub sent : (packets : List Packet) (told : Result Step DiskFault) → y ≡ x → MakesMap x.file.records (map_of x) →
      MatchResult told (λ step. step ≡ record { packets = packets; notes = [] }) (λ e. e ≡ disk.Memory) →
      MapPerforms state x y (record { after = map_of x; written = None; packets = packets; notes = [] }) told
  sent packets (Ok step) same made is = record {
    after = ap map_of same;
    packets = ap (λ (s : Step). s.packets) is;
    notes = ap (λ (s : Step). s.notes) is;
    same = tt;
    file = (ap (λ (m : MapWithFile D). m.file) same, λ e. absurd cc);
    stands = subst (λ (l : List Record). MakesMap l (map_of x)) (sym (append-nil x.file.records)) made;
  }
  sent packets (Err disk.Failed) same made is = absurd cc
  sent packets (Err disk.Memory) same made is = record {
    after = tt;
    packets = tt;
    notes = tt;
    same = ap map_of same;
    file = (ap (λ (m : MapWithFile D). m.file) same, λ f. absurd cc);
    stands = subst (λ (l : List Record). MakesMap l (map_of x)) (sym (append-nil x.file.records)) made;
  }

  not_refused : (done : Result Step MapFault) (told : Result Step DiskFault) → IfErr done (λ e. is_failure e ≡ true) → AnswersCall p.from q done told → told ≡ as_rule done
  not_refused (Ok step) told taken is = is
  not_refused (Err faults.NotOwner) told taken is = absurd cc
  not_refused (Err faults.LeaseHeld) told taken is = absurd cc
  not_refused (Err faults.BadSplitKey) told taken is = absurd cc
  not_refused (Err faults.NotAdjacent) told taken is = absurd cc
  not_refused (Err faults.GenerationChanged) told taken is = absurd cc
  not_refused (Err faults.DiskFailed) told taken is = is
  not_refused (Err faults.Memory) told taken is = is

  pub call_performs : (fault : Option Refusal) (done : Result Step MapFault) (told : Result Step DiskFault) → MakesMap x.file.records (map_of x) →
      ((r : Refusal) → fault ≡ Some r → IsCallRefusal r) → ((r : Refusal) → fault ≡ Some r → (y ≡ x) × (done ≡ Err (fault_of r))) → (fault ≡ None → MapPerforms state x y rule (as_rule done)) →
      (fault ≡ None → IfErr done (λ e. is_failure e ≡ true)) → AnswersCall p.from q done told → MapPerforms state x y (or_refused (map_of x) Map p q fault rule) told
  call_performs None done told made known refuses performs taken is =
      subst (λ (w : Result Step DiskFault). MapPerforms state x y rule w) (sym (not_refused done told (taken refl) is)) (performs refl)
  call_performs (Some r) done told made known refuses performs taken is =
      let was = refuses r refl in
      sent _ told was.0 made
      (subst (λ (o : Option Refusal). AnswersFault p.from q (fault_of r) o told) (known r refl) (subst (λ (d : Result Step MapFault). AnswersCall p.from q d told) was.1 is))

-- nothing comes of a packet that is none of these
pub other_told : (m : MapState) (p : Packet) (body : MapBody) → ((key : List ℕ) (q : ReqNo) → body ≡ maps.Route key q → ⊥) → ((range generation : ℕ) (key : List ℕ) (q : ReqNo) → body ≡ maps.BeginSplit range generation key q → ⊥) →
    ((range generation : ℕ) (q : ReqNo) → body ≡ maps.CompleteSplit range generation q → ⊥) → ((l gl r gr : ℕ) (q : ReqNo) → body ≡ maps.BeginMerge l gl r gr q → ⊥) →
    ((l gl r gr : ℕ) (q : ReqNo) → body ≡ maps.CompleteMerge l gl r gr q → ⊥) → told m p body ≡ silent m
other_told m p (maps.Assign range generation until) a b c d e = refl
other_told m p (maps.Renew range generation until) a b c d e = refl
other_told m p (maps.Route key q) a b c d e = absurd (a key q refl)
other_told m p (maps.RouteIs q range server) a b c d e = refl
other_told m p (maps.BeginSplit range generation key q) a b c d e = absurd (b range generation key q refl)
other_told m p (maps.SplitBegun q low high) a b c d e = refl
other_told m p (maps.CompleteSplit range generation q) a b c d e = absurd (c range generation q refl)
other_told m p (maps.SplitDone q) a b c d e = refl
other_told m p (maps.BeginMerge l gl r gr q) a b c d e = absurd (d l gl r gr q refl)
other_told m p (maps.MergeBegun q range) a b c d e = refl
other_told m p (maps.CompleteMerge l gl r gr q) a b c d e = absurd (e l gl r gr q refl)
other_told m p (maps.MergeDone q) a b c d e = refl
