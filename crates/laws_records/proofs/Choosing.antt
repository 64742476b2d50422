-- Rules whose tests are known.
use Rattle.std.proofs.Common.{◌≡◌, Bool, true, false, List, [], ◌∷◌, Option, Some, None, refl}
use Rattle.std.specs.Prelude.{if◌then◌else◌}
use Rattle.block_types.specs.declared.record.Record.{Record}
use Rattle.wire.specs.declared.actor.ActorId.{ActorId}
use Rattle.wire.specs.declared.actor.ReqNo.{ReqNo}
use Rattle.wire.specs.declared.packet.Packet.{Packet}
use Rattle.wire.specs.declared.refusal.Refusal.{Refusal}
use Rattle.model_streams.specs.Outcome.{Outcome, first_met, or_refused}
use Rattle.model_streams.proofs.Tests.{NoneMet}

-- the rule writes this record
abbrev pub Writes : {S : Type 0} → Record → Outcome S → Type 0
Writes r o = o.written ≡ Some r

pub if_so : {A : Type 0} (P : A → Type 0) (b : Bool) (x y : A) → b ≡ true → P x → P (if b then x else y)
if_so P true x y so h = h
if_so P false x y so h = absurd cc

pub if_not : {A : Type 0} (P : A → Type 0) (b : Bool) (x y : A) → b ≡ false → P y → P (if b then x else y)
if_not P true x y not h = absurd cc
if_not P false x y not h = h

none_first : (refusal : Refusal) (test : Bool) (tests : List (Refusal × Bool)) → test ≡ false → first_met tests ≡ None → first_met ((refusal, test) ∷ tests) ≡ None
none_first refusal true tests unmet none = absurd cc
none_first refusal false tests unmet none = none

-- where no test is met there is no refusal
pub unmet : (tests : List (Refusal × Bool)) → NoneMet tests → first_met tests ≡ None
unmet [] none = refl
unmet (x ∷ tests) none = none_first x.0 x.1 tests none.0 (unmet tests none.1)

-- and the rule goes on
pub unrefused : {S : Type 0} (r : Record) (s : S) (me : ActorId) (p : Packet) (q : ReqNo) (x : Option Refusal) (taken : Outcome S) → x ≡ None → Writes r taken → Writes r (or_refused s me p q x taken)
unrefused r s me p q (Some refusal) taken none h = absurd cc
unrefused r s me p q None taken none h = h
