-- What files of records stand for.
use Rattle.std.proofs.Common.{◌≡◌, ◌≢◌, ℕ, zero, suc, ◌<◌, ◌≤◌, Bool, List, [], ◌∷◌, ◌++◌, length, take, drop, Option, Some, refl, sym, ap, subst, ◌∙◌, append_assoc, arith, length-append}
use Rattle.std.specs.List.{AllByRecursion}
use Rattle.std.proofs.lemmas.List.{take_at, drop_at, append-nil, nil_from_length}
use Rattle.std.proofs.lemmas.Bool.Decides.{nat_tests}
use Rattle.block_types.specs.declared.record.Version.{Version}
use Rattle.block_types.specs.declared.record.Version.TheVariants.{V1, V2}
use Rattle.block_types.specs.declared.record.Record.{Record}
use Rattle.blocks.specs.Record.{spelling, Fits, Begins}
use Rattle.blocks.specs.Reading.{record_at}
use Rattle.blocks.proofs.Laws.{record_again}
use Rattle.disk.specs.Disk.{DiskState, Only}
use Rattle.disk.specs.Behind.{IsBehind}
use Rattle.disk.specs.File.{header, opened, IsFileOf, IsOpen, IsKept, found, records_from, records_in, HasNoRecord}

pub opened-push : (v : Version) (rs : List Record) (r : Record) → opened v (rs ++ r ∷ []) ≡ opened v rs ++ (1 ∷ spelling v r)
opened-push v [] r = ap (λ (l : List ℕ). 1 ∷ l) (append-nil (spelling v r))
opened-push v (s ∷ rs) r = ap (λ (l : List ℕ). 1 ∷ (spelling v s ++ l)) (opened-push v rs r) ∙ ap (λ (l : List ℕ). 1 ∷ l) (sym (append_assoc (spelling v s) (opened v rs) (1 ∷ spelling v r)))

pub opened-append : (v : Version) (rs more : List Record) → opened v (rs ++ more) ≡ opened v rs ++ opened v more
opened-append v [] more = refl
opened-append v (r ∷ rs) more = ap (λ (l : List ℕ). 1 ∷ (spelling v r ++ l)) (opened-append v rs more) ∙ ap (λ (l : List ℕ). 1 ∷ l) (sym (append_assoc (spelling v r) (opened v rs) (opened v more)))

pub fit-append : (v : Version) (rs more : List Record) → AllByRecursion (Fits v) rs → AllByRecursion (Fits v) more → AllByRecursion (Fits v) (rs ++ more)
fit-append v [] more first second = second
fit-append v (r ∷ rs) more first second = (first.0, fit-append v rs more first.1 second)

length-opened : (v : Version) (rs : List Record) → length rs ≤ length (opened v rs)
length-opened v [] = omega arith
length-opened v (r ∷ rs) = omega (arith, length-append (spelling v r) (opened v rs), length-opened v rs)

closed : (v : Version) (fuel gate : ℕ) (rest : List ℕ) → gate ≢ 1 → records_from v fuel (gate ∷ rest) ≡ []
unfolding records_from
closed v zero gate rest shut = refl
closed v (suc fuel) gate rest shut = grind (arith, nat_tests)

begun : (v : Version) (r : Record) (rest : List ℕ) → Fits v r → Begins v (spelling v r ++ rest) r (length (spelling v r))
begun v r rest fits = record {
  fits = fits;
  within = omega (arith, length-append (spelling v r) rest);
  spelled = take_at (spelling v r) rest (length (spelling v r)) refl;
}

records_from-opened : (v : Version) (rs : List Record) (fuel gate : ℕ) (rest : List ℕ) → AllByRecursion (Fits v) rs → gate ≢ 1 → length rs ≤ fuel → records_from v fuel (opened v rs ++ gate ∷ rest) ≡ rs
unfolding records_from
records_from-opened v [] fuel gate rest fit shut le = closed v fuel gate rest shut
records_from-opened v (r ∷ rs) zero gate rest fit shut le = absurd (omega arith)
records_from-opened v (r ∷ rs) (suc fuel) gate rest fit shut le =
    let tail : List ℕ = opened v rs ++ gate ∷ rest in
    let regrouped : (spelling v r ++ opened v rs) ++ gate ∷ rest ≡ spelling v r ++ tail = append_assoc (spelling v r) (opened v rs) (gate ∷ rest) in
    let read : record_at v (spelling v r ++ tail) ≡ Some (r, length (spelling v r)) = record_again v (spelling v r ++ tail) r (length (spelling v r)) (begun v r tail fit.0) in
    ap (λ (l : List ℕ). records_from v (suc fuel) (1 ∷ l)) regrouped
    ∙ ap (λ (o : Option (Record × ℕ)). found o (λ x. x.0 ∷ records_from v fuel (drop x.1 (spelling v r ++ tail)))) read
    ∙ ap (λ (l : List ℕ). r ∷ records_from v fuel l) (drop_at (spelling v r) tail (length (spelling v r)) refl)
    ∙ ap (λ (l : List Record). r ∷ l) (records_from-opened v rs fuel gate rest fit.1 shut (omega arith))

pub length-header : (v : Version) → length (header v) ≡ 4
length-header V1 = refl
length-header V2 = refl

pub records_in-file : (v : Version) (rs : List Record) (file : List ℕ) → IsFileOf v rs file → records_in v file ≡ rs
unfolding records_in
records_in-file v rs file is =
    let regrouped : file ≡ header v ++ (opened v rs ++ is.gate ∷ is.rest) = is.bytes ∙ append_assoc (header v) (opened v rs) (is.gate ∷ is.rest) in
    let behind : drop 4 file ≡ opened v rs ++ is.gate ∷ is.rest = ap (λ (l : List ℕ). drop 4 l) regrouped ∙ drop_at (header v) (opened v rs ++ is.gate ∷ is.rest) 4 (length-header v) in
    let long : length rs ≤ length file = omega (arith, length-opened v rs, ap length regrouped, length-append (header v) (opened v rs ++ is.gate ∷ is.rest), length-append (opened v rs) (is.gate ∷ is.rest)) in
    ap (records_from v (length file)) behind ∙ records_from-opened v rs (length file) is.gate is.rest is.fit is.closed long

pub opened_as : (d : DiskState) (v : Version) (rs : List Record) (end : ℕ) (bytes : List ℕ) → IsFileOf v rs bytes → end ≡ length (header v ++ opened v rs) → bytes ≡ d.seen → Only d.seen d.may_leave → IsOpen d v end (records_in v d.seen)
opened_as d v rs end bytes is place same only =
    let is_seen : IsFileOf v rs d.seen = subst (IsFileOf v rs) same is in
    subst (λ (l : List Record). IsOpen d v end l) (sym (records_in-file v rs d.seen is_seen)) (record { file = is_seen; place = place; durable = only })

pub short_file : (file : List ℕ) → length file ≤ 5 → HasNoRecord file
short_file file short v rs is = nil_from_length rs (omega (arith, length-opened v rs, ap length is.bytes, length-append (header v ++ opened v rs) (is.gate ∷ is.rest), length-append (header v) (opened v rs), length-header v))

-- a file begins with the letters of its version
pub letters : (v : Version) (rs : List Record) (file : List ℕ) → IsFileOf v rs file → (5 ≤ length file) × (take 4 file ≡ header v)
letters v rs file is = (omega (arith, ap length is.bytes, length-append (header v ++ opened v rs) (is.gate ∷ is.rest), length-append (header v) (opened v rs), length-header v), ap (λ (l : List ℕ). take 4 l) (is.bytes ∙ append_assoc (header v) (opened v rs) (is.gate ∷ is.rest)) ∙ take_at (header v) (opened v rs ++ (is.gate ∷ is.rest)) 4 (length-header v))

pub renamed : (d : DiskState) (v : Version) (end place : ℕ) (rs ss : List Record) → end ≡ place → rs ≡ ss → IsOpen d v end rs → IsOpen d v place ss
renamed d v end place rs ss e f is = subst (λ (n : ℕ). IsOpen d v n ss) e (subst (λ (l : List Record). IsOpen d v end l) f is)

-- an open file is kept, whether it is stopped or not
pub kept_open : (d : DiskState) (v : Version) (end : ℕ) (stopped : Bool) (rs : List Record) → IsOpen d v end rs → IsKept d v end stopped rs
kept_open d v end stopped rs is = record { file = is.file; running = λ _. is }

pub one_behind : (v : Version) (r : Record) (bytes : List ℕ) → bytes ≡ spelling v r ++ 0 ∷ [] → IsBehind v (r ∷ []) bytes
one_behind v r bytes is = ap (λ (l : List ℕ). 1 ∷ (l ++ 0 ∷ [])) (append-nil (spelling v r)) ∙ ap (λ (l : List ℕ). 1 ∷ l) (sym is)

pub length-behind : (v : Version) (rs : List Record) (bytes : List ℕ) → IsBehind v rs bytes → length bytes ≡ length (opened v rs)
length-behind v rs bytes is = omega (arith, ap length is, length-append (opened v rs) (0 ∷ []))

-- the last gate is one of the bytes
pub gate_within : (d : DiskState) (v : Version) (end : ℕ) (rs : List Record) → IsOpen d v end rs → end < length d.seen
gate_within d v end rs is = omega (arith, is.place, ap length is.file.bytes, length-append (header v ++ opened v rs) (is.file.gate ∷ is.file.rest))
