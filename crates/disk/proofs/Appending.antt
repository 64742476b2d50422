-- What an append leaves where one of its device calls fails, and where none does.
use Rattle.std.proofs.Common.{◌≡◌, inl, inr, ℕ, ◌+◌, ◌<◌, ◌≤◌, Bool, true, false, Some, None, refl, List, [], ◌∷◌, ◌++◌, length, Result, Ok, Err, sym, ap, subst, ◌∙◌, arith}
use Rattle.std.specs.List.{AllByRecursion}
use Rattle.std.specs.Prelude.{IsErrOf, ◌⊎◌}
use Rattle.block_types.specs.declared.record.Version.{Version}
use Rattle.block_types.specs.declared.record.Record.{Record}
use Rattle.blocks.specs.Record.{spelling, Fits}
use Rattle.disk.specs.declared.device.DiskFault.{DiskFault}
use Rattle.disk.specs.declared.device.DiskFault.TheVariants.{Failed, Memory}
use Rattle.disk.specs.Disk.{DiskState, IsUntouched, Writes, Syncs, OnlyNow, CountsNow, SeenIsThere, SyncedIsThere, IsSteady, LeavesOnly}
use Rattle.disk.specs.Behind.{IsBehind, HasRoom, PutsRecords}
use Rattle.disk.specs.File.{opened, IsFileOf, IsOpen, IsKept, IsBeforeOrAfter, IsBeforeOrAfterAll, records_in, stopped_all}
use Rattle.disk.specs.Filed.{Filed}
use Rattle.disk.specs.Appends.{Appends}
use Rattle.disk.proofs.Files.{records_in-file, renamed, one_behind, length-behind}
use Rattle.disk.proofs.Moments.{started, goes_on, joined}
use Rattle.disk.proofs.Crash.{at1, at2, at3, at4, stands, stop1, stop2, stop3, stop4, after4}

-- before the first device call
pub record IsReady (v : Version) (rs added : List Record) (end : ℕ) (s : DiskState) (bytes : List ℕ) : Type 0 where
  pub fit : AllByRecursion (Fits v) added
  pub was : IsOpen s v end rs
  pub text : IsBehind v added bytes
  pub only_now : OnlyNow s
  pub there : SyncedIsThere s
  pub room : HasRoom s 4 (end + 1 + length bytes)

-- after a device call that failed
record Fails (v : Version) (rs added : List Record) (s0 s : DiskState) (e : DiskFault) : Type 0 where
  failed : e ≡ Failed
  left : LeavesOnly s0 s (IsBeforeOrAfterAll v rs added)
  count : s0.failures < s.failures
  sure : s.sure ≡ s0.sure
  told : (n : ℕ) (keep : Bool) → s0.stop ≡ Some (n, keep) → (n ≤ 4) × (s.stop ≡ None) × (records_in v s.seen ≡ stopped_all n keep rs added)
  unsteady : IsSteady s0 → ⊥

is_failed : (e : DiskFault) → (IsErrOf {T = Unit {0}} (Err e) Memory → ⊥) → e ≡ Failed
is_failed Failed other = refl
is_failed Memory other = absurd (other refl)

-- a bound that is weaker
at_most_4 : (k n : ℕ) (P Q : Type 0) → k ≤ 4 → (n ≤ k) × P × Q → (n ≤ 4) × P × Q
at_most_4 k n P Q few it = (omega (arith, it.0, few), it.1, it.2)

module _ (v : Version) (rs added : List Record) (end : ℕ) (s : DiskState) (bytes : List ℕ) (is : IsReady v rs added end s bytes) where
  puts_failed : (t : DiskState) (e : DiskFault) (result : Result Unit DiskFault) → result ≡ Err e → Fails v rs added s t e → PutsRecords s t v end rs added result
  puts_failed t e result same fails = subst (λ (x : Result Unit DiskFault). PutsRecords s t v end rs added x) (sym (same ∙ ap Err fails.failed)) (record {
    left = fails.left;
    ok = tt;
    memory = λ bad. absurd (cc bad);
    failed = λ _. fails.count;
    later = omega (arith, fails.count);
    sure = fails.sure;
    stop = λ n keep told few. (λ ok. absurd (cc ok), λ _. ((fails.told n keep told).1, (fails.told n keep told).2));
    goes_on = λ n keep told more. (λ _. absurd (omega (arith, (fails.told n keep told).0, more)), tt);
    steady = λ steady. absurd (fails.unsteady steady);
  })

  pub put1 : (s1 : DiskState) (e : DiskFault) (result : Result Unit DiskFault) → result ≡ Err e → Writes s s1 (end + 1) bytes (Err e) → PutsRecords s s1 v end rs added result
  put1 s1 e result same w1 =
      let failed : e ≡ Failed = is_failed e (w1.memory (omega (arith, is.room.1)) (omega (arith, is.room.0))) in
      let err : IsErrOf {T = Unit {0}} (Err e) Failed = ap Err failed in
      puts_failed s1 e result same (record {
        failed = failed;
        left = at1 v rs added bytes is.text is.fit end is.was.place s is.only_now is.was s1 (Err e) w1;
        count = w1.cause.failed err;
        sure = w1.stops.sure;
        told = λ n keep told. at_most_4 1 n _ _ (omega arith) (stop1 v rs added bytes is.text is.fit end is.was.place s is.only_now is.was n keep told is.there s1 (Err e) w1 err);
        unsteady = λ steady. (w1.stops.steady steady).0 err;
      })

  module _ (s1 : DiskState) (w1 : Writes s s1 (end + 1) bytes (Ok tt)) where
    room1 : HasRoom s1 3 (end + 1 + length bytes)
    room1 =
        let spent = w1.spent (omega (arith, is.room.1)) in
        (omega (arith, spent.room, is.room.0), omega (arith, spent.reserved, is.room.1))

    pub put2 : (s2 : DiskState) (e : DiskFault) (result : Result Unit DiskFault) → result ≡ Err e → Syncs s1 s2 (Err e) → PutsRecords s s2 v end rs added result
    put2 s2 e result same y2 =
        let failed : e ≡ Failed = is_failed e (y2.memory (omega (arith, room1.0))) in
        let err : IsErrOf {T = Unit {0}} (Err e) Failed = ap Err failed in
        puts_failed s2 e result same (record {
          failed = failed;
          left = at2 v rs added bytes is.text is.fit end is.was.place s is.only_now is.was s1 s2 (Ok tt) (Err e) w1 y2;
          count = omega (arith, y2.cause.failed err, w1.cause.later);
          sure = y2.stops.sure ∙ w1.stops.sure;
          told = λ n keep told. at_most_4 2 n _ _ (omega arith) (stop2 v rs added bytes is.text is.fit end is.was.place s is.only_now is.was n keep told is.there s1 s2 (Err e) w1 y2 err);
          unsteady = λ steady. (y2.stops.steady (w1.stops.steady steady).1).0 err;
        })

    module _ (s2 : DiskState) (y2 : Syncs s1 s2 (Ok tt)) where
      room2 : HasRoom s2 2 (end + 1 + length bytes)
      room2 = (omega (arith, y2.spent.room, room1.0), omega (arith, y2.spent.reserved, room1.1))

      sure2 : s2.sure ≡ s.sure
      sure2 = y2.stops.sure ∙ w1.stops.sure

      steady2 : IsSteady s → IsSteady s2
      steady2 steady = (y2.stops.steady (w1.stops.steady steady).1).1

      pub put3 : (s3 : DiskState) (e : DiskFault) (result : Result Unit DiskFault) → result ≡ Err e → Writes s2 s3 end (1 ∷ []) (Err e) → PutsRecords s s3 v end rs added result
      put3 s3 e result same w3 =
          let failed : e ≡ Failed = is_failed e (w3.memory (omega (arith, room2.1)) (omega (arith, room2.0))) in
          let err : IsErrOf {T = Unit {0}} (Err e) Failed = ap Err failed in
          puts_failed s3 e result same (record {
            failed = failed;
            left = at3 v rs added bytes is.text is.fit end is.was.place s is.only_now is.was s1 s2 s3 (Err e) w1 y2 w3;
            count = omega (arith, w3.cause.failed err, y2.cause.later, w1.cause.later);
            sure = w3.stops.sure ∙ sure2;
            told = λ n keep told. at_most_4 3 n _ _ (omega arith) (stop3 v rs added bytes is.text is.fit end is.was.place s is.only_now is.was n keep told is.there s1 s2 s3 (Err e) w1 y2 w3 err);
            unsteady = λ steady. (w3.stops.steady (steady2 steady)).0 err;
          })

      module _ (s3 : DiskState) (w3 : Writes s2 s3 end (1 ∷ []) (Ok tt)) where
        room3 : 1 ≤ s3.room
        room3 =
            let spent = w3.spent (omega (arith, room2.1)) in
            omega (arith, spent.room, room2.0)

        steady3 : IsSteady s → IsSteady s3
        steady3 steady = (w3.stops.steady (steady2 steady)).1

        pub put4 : (s4 : DiskState) (result : Result Unit DiskFault) → Syncs s3 s4 result → PutsRecords s s4 v end rs added result
        put4 s4 (Err e) y4 =
            let failed : e ≡ Failed = is_failed e (y4.memory (omega (arith, room3))) in
            let err : IsErrOf {T = Unit {0}} (Err e) Failed = ap Err failed in
            puts_failed s4 e (Err e) refl (record {
              failed = failed;
              left = at4 v rs added bytes is.text is.fit end is.was.place s is.only_now is.was s1 s2 s3 s4 (Ok tt) (Err e) w1 y2 w3 y4;
              count = omega (arith, y4.cause.failed err, w3.cause.later, y2.cause.later, w1.cause.later);
              sure = y4.stops.sure ∙ w3.stops.sure ∙ sure2;
              told = λ n keep told. stop4 v rs added bytes is.text is.fit end is.was.place s is.only_now is.was n keep told is.there s1 s2 s3 s4 (Err e) w1 y2 w3 y4 err;
              unsteady = λ steady. (y4.stops.steady (steady3 steady)).0 err;
            })
        put4 s4 (Ok u) y4 = record {
          left = at4 v rs added bytes is.text is.fit end is.was.place s is.only_now is.was s1 s2 s3 s4 (Ok tt) (Ok tt) w1 y2 w3 y4;
          ok = stands v rs added bytes is.text is.fit end is.was.place s is.only_now is.was s1 s2 s3 s4 w1 y2 w3 y4;
          memory = λ bad. absurd (cc bad);
          failed = λ bad. absurd (cc bad);
          later = omega (arith, y4.cause.later, w3.cause.later, y2.cause.later, w1.cause.later);
          sure = y4.stops.sure ∙ w3.stops.sure ∙ sure2;
          stop = λ n keep told few. absurd (omega (arith, (after4 v rs added bytes is.text is.fit end is.was.place s is.only_now is.was n keep told is.there s1 s2 s3 s4 w1 y2 w3 y4).0, few));
          goes_on = λ n keep told more. (λ bad. absurd (cc bad), (after4 v rs added bytes is.text is.fit end is.was.place s is.only_now is.was n keep told is.there s1 s2 s3 s4 w1 y2 w3 y4).1);
          steady = λ steady. (λ bad. absurd (cc bad), (y4.stops.steady (steady3 steady)).1);
        }

-- ---- room was made before

module _ (s0 s : DiskState) (v : Version) (end : ℕ) (rs added : List Record) (only_now : OnlyNow s0) (was : IsOpen s0 v end rs) (same : IsUntouched s0 s) where
  pub roomier : LeavesOnly s0 s (IsBeforeOrAfterAll v rs added)
  roomier =
      let as_before : (c : List ℕ) → s0.may_leave c → IsBeforeOrAfterAll v rs added c = λ c left. inl (subst (IsFileOf v rs) (sym (was.durable c left)) was.file) in
      goes_on s0 s0 s _ (started s0 _ (λ c left. as_before c (only_now c left))) same.time (λ c left. as_before c (same.may_leave c left))

  pub open_untouched : IsOpen s v end rs
  open_untouched = record {
    file = subst (IsFileOf v rs) (sym same.seen) was.file;
    place = was.place;
    durable = λ c left. was.durable c (same.may_leave c left) ∙ sym same.seen;
  }

  pub puts_with_room : (t : DiskState) (result : Result Unit DiskFault) → PutsRecords s t v end rs added result → PutsRecords s0 t v end rs added result
  puts_with_room t result puts = record {
    left = joined s0 s t _ roomier puts.left;
    ok = puts.ok;
    memory = puts.memory;
    failed = λ bad. omega (arith, puts.failed bad, same.failures);
    later = omega (arith, puts.later, same.failures);
    sure = puts.sure ∙ same.sure;
    stop = λ n keep told few. puts.stop n keep (same.stop ∙ told) few;
    goes_on = λ n keep told more. puts.goes_on n keep (same.stop ∙ told) more;
    steady = λ steady. puts.steady (same.sure ∙ steady.0, same.stop ∙ steady.1);
  }

-- ---- the file as its users see it

-- the file as its fields show it
abbrev pub shown : {D : Type 0} → (D → DiskState) → D → Version → Bool → Filed D
shown state disk v stopped = record { disk = disk; version = v; records = records_in v (state disk).seen; stopped = stopped }

-- what a running file is
module _ {D : Type 0} (state : D → DiskState) (disk : D) (v : Version) (end : ℕ) (stopped : Bool) (old : Filed D) (view_is : shown state disk v stopped ≡ old) (kept : IsKept (state disk) v end stopped (records_in v (state disk).seen)) (running : old.stopped ≡ false) where
  pub is_open : IsOpen (state disk) v end (records_in v (state disk).seen)
  is_open = kept.running (ap (λ (f : Filed _). f.stopped) view_is ∙ running)

  module _ (r : Record) (only_now : OnlyNow (state disk)) where
    pub unchanged : LeavesOnly (state old.disk) (state disk) (IsBeforeOrAfter old.version old.records r)
    unchanged = subst (λ (f : Filed _). LeavesOnly (state f.disk) (state disk) (IsBeforeOrAfter f.version f.records r)) view_is (started (state disk) _ (λ c left. inl (subst (IsFileOf v (records_in v (state disk).seen)) (sym (is_open.durable c (only_now c left))) is_open.file)))

    pub untouched : (now : DiskState) → IsUntouched (state disk) now → LeavesOnly (state old.disk) now (IsBeforeOrAfter old.version old.records r)
    untouched now same = subst (λ (f : Filed _). LeavesOnly (state f.disk) now (IsBeforeOrAfter f.version f.records r)) view_is (roomier (state disk) now v end (records_in v (state disk).seen) (r ∷ []) only_now is_open same)

    -- the record is put behind the last gate
    pub puts_one : (s t : DiskState) (closed bytes : List ℕ) (result : Result Unit DiskFault) → Fits old.version r → IsUntouched (state disk) s → closed ≡ spelling v r ++ 0 ∷ [] → bytes ≡ closed
        → ((w : Version) (rs added : List Record) → IsOpen s w end rs → AllByRecursion (Fits w) added → IsBehind w added bytes → PutsRecords s t w end rs added result)
        → PutsRecords (state disk) t v end (records_in v (state disk).seen) (r ∷ []) result
    puts_one s t closed bytes result fits same text is puts =
        let rs : List Record = records_in v (state disk).seen in
        let fits_v : Fits v r = subst (λ (f : Filed _). Fits f.version r) (sym view_is) fits in
        puts_with_room (state disk) s v end rs (r ∷ []) only_now is_open same t result
        (puts v rs (r ∷ []) (open_untouched (state disk) s v end rs (r ∷ []) only_now is_open same) (fits_v, tt) (one_behind v r bytes (is ∙ text)))

-- the bytes are a file of one of the two lists, and so of the records that are shown
one_of : (v : Version) (rs : List Record) (r : Record) (file : List ℕ) → IsBeforeOrAfter v rs r file → IsFileOf v (records_in v file) file × ((records_in v file ≡ rs) ⊎ (records_in v file ≡ rs ++ r ∷ []))
one_of v rs r file (inl is) =
    let found = records_in-file v rs file is in
    (subst (λ (l : List Record). IsFileOf v l file) (sym found) is, inl found)
one_of v rs r file (inr is) =
    let found = records_in-file v (rs ++ r ∷ []) file is in
    (subst (λ (l : List Record). IsFileOf v l file) (sym found) is, inr found)

module _ {D : Type 0} (state : D → DiskState) (was now : D) (v : Version) (end : ℕ) (r : Record) where
  abbrev rs : List Record
  rs = records_in v (state was).seen

  pub stands_stopped : (result : Result Unit DiskFault) → CountsNow (state now) → SeenIsThere (state now) → PutsRecords (state was) (state now) v end rs (r ∷ []) result → IsKept (state now) v end true (records_in v (state now).seen)
  stands_stopped result counts there puts = record {
    file = (one_of v rs r (state now).seen (puts.left.each (state now).seen (counts _ _ puts.left.later there))).0;
    running = λ bad. absurd (cc bad);
  }

  pub appends_failed : (stopped : Bool) (e : DiskFault) (result : Result Unit DiskFault) → result ≡ Err e → CountsNow (state now) → SeenIsThere (state now) → PutsRecords (state was) (state now) v end rs (r ∷ []) (Err e) → Appends state (shown state was v stopped) (shown state now v true) r result
  appends_failed stopped e result is counts there puts =
      let failed : e ≡ Failed = is_failed e puts.memory in
      let err : IsErrOf {T = Unit {0}} (Err e) Failed = ap Err failed in
      let either = one_of v rs r (state now).seen (puts.left.each (state now).seen (counts _ _ puts.left.later there)) in
      subst (λ (x : Result Unit DiskFault). Appends state (shown state was v stopped) (shown state now v true) r x) (sym (is ∙ ap Err failed)) (record {
        ok = tt;
        durable = tt;
        any_moment = λ _. puts.left;
        stands = λ _. either.0;
        memory = λ bad. absurd (cc bad);
        failed = λ _. (refl, puts.failed err);
        either = λ _. either.1;
        version = refl;
        stop = λ n keep told one four. (λ ok. absurd (cc ok), λ _. (puts.stop n keep told four).1 err);
        later = λ n keep told more. (λ _. absurd ((puts.goes_on n keep told more).0 err), tt);
        steady = λ steady. absurd ((puts.steady steady).0 err);
        sure = puts.sure;
      })

  pub appends_ok : (stopped : Bool) → PutsRecords (state was) (state now) v end rs (r ∷ []) (Ok tt) → Appends {T = Unit {0}} state (shown state was v stopped) (shown state now v false) r (Ok tt)
  appends_ok stopped puts =
      let found = records_in-file v (rs ++ r ∷ []) (state now).seen puts.ok.file in
      record {
        ok = (refl, refl, found);
        durable = puts.ok.durable;
        any_moment = λ _. puts.left;
        stands = λ _. subst (λ (l : List Record). IsFileOf v l (state now).seen) (sym found) puts.ok.file;
        memory = λ bad. absurd (cc bad);
        failed = λ bad. absurd (cc bad);
        either = λ bad. absurd (cc bad);
        version = refl;
        stop = λ n keep told one four. absurd ((puts.stop n keep told four).0 refl);
        later = λ n keep told more. (λ bad. absurd (cc bad), (puts.goes_on n keep told more).1);
        steady = λ steady. (λ bad. absurd (cc bad), (puts.steady steady).1);
        sure = puts.sure;
      }

  pub stands_running : (closed : List ℕ) (place : ℕ) → closed ≡ spelling v r ++ 0 ∷ [] → end + length closed ≡ place → PutsRecords (state was) (state now) v end rs (r ∷ []) (Ok tt) → IsKept (state now) v place false (records_in v (state now).seen)
  stands_running closed place text same puts =
      let found = records_in-file v (rs ++ r ∷ []) (state now).seen puts.ok.file in
      let next : end + length (opened v (r ∷ [])) ≡ place = omega (arith, same, length-behind v (r ∷ []) closed (one_behind v r closed text)) in
      let open_now : IsOpen (state now) v place (records_in v (state now).seen) = renamed (state now) v _ place _ _ next (sym found) puts.ok in
      record { file = open_now.file; running = λ _. open_now }
