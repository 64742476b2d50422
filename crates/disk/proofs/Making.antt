-- A crash while a file of given records is made.
use Rattle.std.proofs.Common.{◌≡◌, ◌==◌, inl, inr, ℕ, ◌+◌, ◌-◌, ◌<◌, ◌≤◌, true, false, List, [], ◌∷◌, ◌++◌, length, take, drop, Result, Err, sym, ap, subst, ◌∙◌, append_assoc, arith, length-append}
use Rattle.std.proofs.lemmas.List.{take_all, length-drop}
use Rattle.std.specs.List.{AllByRecursion}
use Rattle.std.specs.Prelude.{IsErrOf}
use Rattle.block_types.specs.declared.record.Record.{Record}
use Rattle.block_types.specs.declared.record.Version.{Version}
use Rattle.blocks.specs.Record.{Fits}
use Rattle.disk.specs.declared.device.DiskFault.{DiskFault}
use Rattle.disk.specs.declared.device.DiskFault.TheVariants.{Failed}
use Rattle.disk.specs.Behind.{IsBehind, PutsBytes, PutsRecords}
use Rattle.disk.specs.Disk.{DiskState, IsUntouched, IsSteady, LeavesOnly, Only, OnlyNow}
use Rattle.disk.specs.File.{header, opened, IsFileOf, IsOpen, IsBeforeOrAfterAll, IsNoneOrAll, HasNoRecord}
use Rattle.disk.proofs.Beginning.{widened}
use Rattle.disk.proofs.Files.{records_in-file, short_file}
use Rattle.disk.proofs.Moments.{started, goes_on, joined}
use Rattle.disk.proofs.Scanning.{one_header}
use Rattle.disk.proofs.Steps.{bare}

-- a file of no records is none of others, in either version
none_in : (v : Version) (file : List ℕ) → IsFileOf v [] file → HasNoRecord file
none_in v file none w rs is =
    let same : v ≡ w = one_header v w _ _ (sym (none.bytes ∙ append_assoc (header v) (opened v []) (none.gate ∷ none.rest)) ∙ (is.bytes ∙ append_assoc (header w) (opened w rs) (is.gate ∷ is.rest))) in
    let here : IsFileOf v rs file = subst (λ (u : Version). IsFileOf u rs file) (sym same) is in
    sym (records_in-file v rs file here) ∙ records_in-file v [] file none

pub none_or_all : (v : Version) (rs : List Record) (file : List ℕ) → IsBeforeOrAfterAll v [] rs file → IsNoneOrAll v rs file
none_or_all v rs file (inl none) = inl (none_in v file none)
none_or_all v rs file (inr all) = inr all

-- the text of a new file's records, without the gate before the first
pub behind_first : (v : Version) (r : Record) (rs : List Record) (text : List ℕ) → text ≡ opened v (r ∷ rs) ++ 0 ∷ [] → IsBehind v (r ∷ rs) (drop 1 text)
behind_first v r rs text is = ap (λ (l : List ℕ). 1 ∷ drop 1 l) (sym is)

pub behind_some : (v : Version) (rs : List Record) (text : List ℕ) → (length rs == 0) ≡ false → text ≡ opened v rs ++ 0 ∷ [] → IsBehind v rs (drop 1 text)
behind_some v [] text some is = absurd (let bad : true ≡ false = some in cc bad)
behind_some v (r ∷ rs) text some is = behind_first v r rs text is

module _ (s0 s : DiskState) (v : Version) (rs : List Record) (empty : s0.seen ≡ []) (only : Only s0.seen s0.may_leave) (only_now : OnlyNow s0) where
  nothing : (c : List ℕ) → s0.may_leave c → HasNoRecord c
  nothing c left = short_file c (omega (arith, ap length (only c left), ap length empty))

  -- nothing is done
  pub unwritten : LeavesOnly s0 s0 HasNoRecord
  unwritten = started s0 HasNoRecord (λ c left. nothing c (only_now c left))

  module _ (same : IsUntouched s0 s) where
    -- room is made
    pub with_room : LeavesOnly s0 s HasNoRecord
    with_room = goes_on s0 s0 s HasNoRecord unwritten same.time (λ c left. nothing c (same.may_leave c left))

    pub only_still : Only s.seen s.may_leave
    only_still c left = only c (same.may_leave c left) ∙ sym same.seen

    -- the header is written
    pub with_header : (t : DiskState) → LeavesOnly s t HasNoRecord → LeavesOnly s0 t HasNoRecord
    with_header t leaves = joined s0 s t HasNoRecord with_room leaves

    -- the records are written
    pub with_all : (t u : DiskState) → LeavesOnly s t HasNoRecord → LeavesOnly t u (IsBeforeOrAfterAll v [] rs) → LeavesOnly s0 u (IsNoneOrAll v rs)
    with_all t u first second = joined s0 t u (IsNoneOrAll v rs) (widened s0 t HasNoRecord _ (λ c is. inl is) (with_header t first)) (widened t u (IsBeforeOrAfterAll v [] rs) _ (λ c is. none_or_all v rs c is) second)

-- all of a text but its first byte, as a range of it shows that
pub but_first : (text : List ℕ) → take (length text - 1) (drop 1 text) ≡ drop 1 text
but_first text = take_all _ (drop 1 text) (omega (arith, length-drop 1 text))

-- the records are put behind the closed gate of a file that has none
pub puts_all : (t u : DiskState) (v : Version) (rs : List Record) (text shown : List ℕ) (result : Result Unit DiskFault) → (length rs == 0) ≡ false → text ≡ opened v rs ++ 0 ∷ [] → shown ≡ text → AllByRecursion (Fits v) rs → IsOpen t v 4 [] → PutsBytes t u 4 (take (length shown - 1) (drop 1 shown)) result → PutsRecords t u v 4 [] rs result
puts_all t u v rs text shown result some is same fit header puts = puts v [] rs header fit (subst (IsBehind v rs) (sym (but_first shown ∙ ap (λ (l : List ℕ). drop 1 l) same)) (behind_some v rs text some is))

-- the place of the last gate
pub last_place : (v : Version) (rs : List Record) (text : List ℕ) → text ≡ opened v rs ++ 0 ∷ [] → 4 + length (opened v rs) ≡ 3 + length text
last_place v rs text is = omega (arith, ap length is, length-append (opened v rs) (0 ∷ []))

-- a refusal that is handed on with another value's type
pub handed : {T : Type 0} (e f : DiskFault) (result : Result T DiskFault) → result ≡ Err e → IsErrOf result f → IsErrOf {T = Unit {0}} (Err e) f
handed e f result same is = ap bare (sym same ∙ is)

-- room was made, then the header was written, and then the records
module _ (s0 s t u : DiskState) (v : Version) (rs : List Record) (result : Result Unit DiskFault) (same : IsUntouched s0 s) (later : s.failures ≤ t.failures) (steady : IsSteady s → IsSteady t) (puts : PutsRecords t u v 4 [] rs result) where
  pub all_later : s0.failures ≤ u.failures
  all_later = omega (arith, puts.later, later, same.failures)

  pub all_failed : IsErrOf result Failed → s0.failures < u.failures
  all_failed bad = omega (arith, puts.failed bad, later, same.failures)

  pub all_steady : IsSteady s0 → (IsErrOf result Failed → ⊥) × IsSteady u
  all_steady was = puts.steady (steady (same.sure ∙ was.0, same.stop ∙ was.1))
