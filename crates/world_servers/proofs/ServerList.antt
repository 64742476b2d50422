-- The list of servers, one after the other.
use Rattle.std.proofs.Common.{◌≡◌, ℕ, zero, suc, ◌<◌, ◌≤◌, ◌+◌, ◌-◌, Bool, false, nat_lt, List, [], ◌∷◌, ◌++◌, Some, None, refl, sym, ap, ◌∙◌, arith, length, slice_get, slice_index_or, slice_set, map, append-nil, if◌then◌else◌}
use Rattle.model_streams.specs.Maps.{entry_at}
use Rattle.model_partition.specs.Servers.{ServerCell, CellOutcome, at_server, cell_rests, cell_starts, cell_stops, server_starts, server_stops, told_moment, first_server, first_servers}
use Rattle.world_server.specs.Seen.{ServerSeen, cell_outcome, moment_shown, new_server}
use Rattle.world_steps.specs.ActorStep.{ActorStep}
use Rattle.world_servers.specs.Servers.{AreServers, ServersSeen, StayServers, all_shown, cells_of, new_servers, outcome}

-- ---- one of them

pub length_cells : (xs : List ServerSeen) → length (cells_of xs) ≡ length xs
length_cells [] = refl
length_cells (x ∷ xs) = ap suc (length_cells xs)

pub cell_here : (xs : List ServerSeen) (at : ℕ) (x : ServerSeen) → at < length xs → x ≡ slice_index_or xs at x → entry_at (cells_of xs) (suc at) ≡ Some x.cell
cell_here [] at x l is = absurd (omega arith)
cell_here (y ∷ xs) zero x l is = ap (λ (z : ServerSeen). Some z.cell) (sym is)
cell_here (y ∷ xs) (suc at) x l is = cell_here xs at x (omega arith) is

pub cell_set : (xs : List ServerSeen) (at : ℕ) (y : ServerSeen) → cells_of (slice_set xs at y) ≡ slice_set (cells_of xs) at y.cell
cell_set [] at y = refl
cell_set (x ∷ xs) zero y = refl
cell_set (x ∷ xs) (suc at) y = ap (λ (cells : List ServerCell). x.cell ∷ cells) (cell_set xs at y)

-- where it is as it was, so are all
pub set_same : (xs : List ServerSeen) (at : ℕ) (x : ServerSeen) → x ≡ slice_index_or xs at x → slice_set xs at x ≡ xs
set_same [] at x is = refl
set_same (y ∷ xs) zero x is = ap (λ (z : ServerSeen). z ∷ xs) is
set_same (y ∷ xs) (suc at) x is = ap (λ (zs : List ServerSeen). y ∷ zs) (set_same xs at x is)

-- beyond the last there is none
pub cell_beyond : (xs : List ServerSeen) (at : ℕ) → length xs ≤ at → slice_get (cells_of xs) at ≡ None
cell_beyond [] at l = refl
cell_beyond (x ∷ xs) zero l = absurd (omega arith)
cell_beyond (x ∷ xs) (suc at) l = cell_beyond xs at (omega arith)

pub nobody_there : (xs : List ServerSeen) (number : ℕ) → (number ≡ 0 → ⊥) → length xs ≤ number - 1 → entry_at (cells_of xs) number ≡ None
nobody_there xs zero some l = absurd (some refl)
nobody_there xs (suc k) some l = cell_beyond xs k (omega (arith, l))

-- what it does, all do
at_one : (cells : List ServerCell) (at : ℕ) (rule : ServerCell → CellOutcome) (cell : ServerCell) → entry_at cells (suc at) ≡ Some cell →
    at_server cells (suc at) rule (entry_at cells (suc at)) ≡ record { servers = slice_set cells at (rule cell).cell; packets = (rule cell).packets; notes = (rule cell).notes }
at_one cells at rule cell is =
    ap (at_server cells (suc at) rule) is
    ∙ ap (λ k. record { servers = slice_set cells k (rule cell).cell; packets = (rule cell).packets; notes = (rule cell).notes }) {x = suc at - 1} {y = at} (omega arith)

pub one_went : (xs : List ServerSeen) (at : ℕ) (x y : ServerSeen) (rule : ServerCell → CellOutcome) (o : CellOutcome) → at < length xs → x ≡ slice_index_or xs at x → rule x.cell ≡ o → o.cell ≡ y.cell →
    at_server (cells_of xs) (suc at) rule (entry_at (cells_of xs) (suc at)) ≡ record { servers = cells_of (slice_set xs at y); packets = o.packets; notes = o.notes }
one_went xs at x y rule o l is does cell =
    at_one (cells_of xs) at rule x.cell (cell_here xs at x l is)
    ∙ ap (λ (p : CellOutcome). record { servers = slice_set (cells_of xs) at p.cell; packets = p.packets; notes = p.notes }) does
    ∙ ap (λ (c : ServerCell). record { servers = slice_set (cells_of xs) at c; packets = o.packets; notes = o.notes }) cell
    ∙ ap (λ (cells : List ServerCell). record { servers = cells; packets = o.packets; notes = o.notes }) (sym (cell_set xs at y))

-- they stay what they are
stays : (moment batch n : ℕ) (xs : List ServerSeen) (at : ℕ) (x y : ServerSeen) → x ≡ slice_index_or xs at x → y ≡ record x { cell = y.cell } → AreServers moment batch n xs →
    AreServers moment batch n (slice_set xs at y)
stays moment batch n [] at x y is same h = tt
stays moment batch n (z ∷ xs) zero x y is same h =
    let from : (y.number ≡ z.number) × (y.moment ≡ z.moment) × (y.batch ≡ z.batch) =
    (ap (λ (s : ServerSeen). s.number) same ∙ ap (λ (s : ServerSeen). s.number) is, ap (λ (s : ServerSeen). s.moment) same ∙ ap (λ (s : ServerSeen). s.moment) is, ap (λ (s : ServerSeen). s.batch) same ∙ ap (λ (s : ServerSeen). s.batch) is) in
    (from.0 ∙ h.0, from.1 ∙ h.1, from.2 ∙ h.2, h.3)
stays moment batch n (z ∷ xs) (suc at) x y is same h = (h.0, h.1, h.2, stays moment batch (suc n) xs at x y is same h.3)

pub one_stays : (xs : List ServerSeen) (at : ℕ) (x y : ServerSeen) → x ≡ slice_index_or xs at x → y ≡ record x { cell = y.cell } → StayServers xs (slice_set xs at y)
one_stays xs at x y is same = λ moment batch n h. stays moment batch n xs at x y is same h

-- the one at a place
found : (moment batch n : ℕ) (xs : List ServerSeen) (at : ℕ) (x : ServerSeen) → at < length xs → x ≡ slice_index_or xs at x → AreServers moment batch n xs →
    (x.number ≡ n + at) × (x.moment ≡ moment) × (x.batch ≡ batch)
found moment batch n [] at x l is h = absurd (omega arith)
found moment batch n (y ∷ xs) zero x l is h =
    (ap (λ (s : ServerSeen). s.number) is ∙ h.0 ∙ omega arith, ap (λ (s : ServerSeen). s.moment) is ∙ h.1, ap (λ (s : ServerSeen). s.batch) is ∙ h.2)
found moment batch n (y ∷ xs) (suc at) x l is h =
    let rest = found moment batch (suc n) xs at x (omega arith) is h.3 in (rest.0 ∙ omega arith, rest.1, rest.2)

-- its number comes after its place, among servers that are numbered from 1
pub is_server : (moment batch : ℕ) (xs : List ServerSeen) (at : ℕ) (x : ServerSeen) → at < length xs → x ≡ slice_index_or xs at x → AreServers moment batch 1 xs →
    (x.number ≡ suc at) × (x.moment ≡ moment) × (x.batch ≡ batch)
is_server moment batch xs at x l is h = let is_it = found moment batch 1 xs at x l is h in (is_it.0 ∙ omega arith, is_it.1, is_it.2)

-- a step of it
pub one_stepped : (xs : List ServerSeen) (at : ℕ) (x y : ServerSeen) (rule : ServerCell → CellOutcome) (step : ActorStep) → at < length xs → x ≡ slice_index_or xs at x → rule x.cell ≡ cell_outcome y.cell step →
    at_server (cells_of xs) (suc at) rule (entry_at (cells_of xs) (suc at)) ≡ outcome (cells_of (slice_set xs at y)) step
one_stepped xs at x y rule step l is does = one_went xs at x y rule (cell_outcome y.cell step) l is does refl

pub one_stopped : (xs : List ServerSeen) (at call : ℕ) (x y : ServerSeen) → at < length xs → x ≡ slice_index_or xs at x → y ≡ record x { cell = cell_stops call x.cell } →
    server_stops (cells_of xs) (suc at) call ≡ record { servers = cells_of (slice_set xs at y); packets = []; notes = [] }
one_stopped xs at call x y l is does =
    one_went xs at x y (λ cell. cell_rests (cell_stops call cell)) (cell_rests y.cell) l is (ap (λ (s : ServerSeen). cell_rests s.cell) (sym does)) refl

pub one_restarted : (xs : List ServerSeen) (at : ℕ) (x y : ServerSeen) → at < length xs → x ≡ slice_index_or xs at x →
    y ≡ record x { cell = cell_starts x.number x.moment x.batch x.cell x.cell.state } → (moment batch : ℕ) → AreServers moment batch 1 xs →
    server_starts (cells_of xs) (suc at) moment batch ≡ record { servers = cells_of (slice_set xs at y); packets = []; notes = [] }
one_restarted xs at x y l is does moment batch h =
    let seen = is_server moment batch xs at x l is h in
    let starts : y.cell ≡ cell_starts (suc at) moment batch x.cell x.cell.state =
    ap (λ (s : ServerSeen). s.cell) does ∙ (λ i. cell_starts (seen.0 i) (seen.1 i) (seen.2 i) x.cell x.cell.state) in
    one_went xs at x y (λ cell. cell_rests (cell_starts (suc at) moment batch cell cell.state)) (cell_rests y.cell) l is (ap cell_rests (sym starts)) refl

-- ---- all of them see the moment, one after the other

abbrev pub first_shown : ℕ → ℕ → List ServerSeen → List ServerSeen
first_shown now zero xs = xs
first_shown now (suc n) [] = []
first_shown now (suc n) (x ∷ xs) = moment_shown now x ∷ first_shown now n xs

shown_next : (now n : ℕ) (xs : List ServerSeen) (d : ServerSeen) → n < length xs → d ≡ slice_index_or (first_shown now n xs) n d →
    slice_set (first_shown now n xs) n (moment_shown now d) ≡ first_shown now (suc n) xs
shown_next now n [] d l is = absurd (omega arith)
shown_next now zero (x ∷ xs) d l is = ap (λ (y : ServerSeen). moment_shown now y ∷ xs) is
shown_next now (suc n) (x ∷ xs) d l is = ap (λ (ys : List ServerSeen). moment_shown now x ∷ ys) (shown_next now n xs d (omega arith) is)

pub shown_one : (now n : ℕ) (xs ys : List ServerSeen) (d e : ServerSeen) → ys ≡ first_shown now n xs → n < length xs → d ≡ slice_index_or ys n d → e ≡ moment_shown now d →
    slice_set ys n e ≡ first_shown now (n + 1) xs
shown_one now n xs ys d e same l is told =
    (λ i. slice_set (same i) n (told i)) ∙ shown_next now n xs d l (is ∙ ap (λ (zs : List ServerSeen). slice_index_or zs n d) same)
    ∙ ap (λ k. first_shown now k xs) {x = suc n} {y = n + 1} (omega arith)

pub all_are_shown : (now n : ℕ) (xs : List ServerSeen) → length xs ≤ n → first_shown now n xs ≡ map (moment_shown now) xs
all_are_shown now zero [] l = refl
all_are_shown now zero (x ∷ xs) l = absurd (omega arith)
all_are_shown now (suc n) [] l = refl
all_are_shown now (suc n) (x ∷ xs) l = ap (λ (ys : List ServerSeen). moment_shown now x ∷ ys) (all_are_shown now n xs (omega arith))

pub length_shown : (now n : ℕ) (xs : List ServerSeen) → length (first_shown now n xs) ≡ length xs
length_shown now zero xs = refl
length_shown now (suc n) [] = refl
length_shown now (suc n) (x ∷ xs) = ap suc (length_shown now n xs)

goes_on : (now moment : ℕ) (x : ServerSeen) → x.moment ≡ moment → nat_lt now moment ≡ false → moment_shown now x ≡ record x { moment = now; cell = told_moment now x.cell }
goes_on now moment x at on = ap (λ (b : Bool). if b then x else record x { moment = now; cell = told_moment now x.cell }) (ap (nat_lt now) at ∙ on)

-- they have seen the moment then
pub are_shown : (now moment batch n : ℕ) (xs : List ServerSeen) → nat_lt now moment ≡ false → AreServers moment batch n xs → AreServers now batch n (map (moment_shown now) xs)
are_shown now moment batch n [] on h = tt
are_shown now moment batch n (x ∷ xs) on h =
    let is = goes_on now moment x h.1 on in
    (ap (λ (y : ServerSeen). y.number) is ∙ h.0, ap (λ (y : ServerSeen). y.moment) is, ap (λ (y : ServerSeen). y.batch) is ∙ h.2, are_shown now moment batch (suc n) xs on h.3)

pub cells_shown : (now moment batch n : ℕ) (xs : List ServerSeen) → nat_lt now moment ≡ false → AreServers moment batch n xs → cells_of (map (moment_shown now) xs) ≡ map (told_moment now) (cells_of xs)
cells_shown now moment batch n [] on h = refl
cells_shown now moment batch n (x ∷ xs) on h =
    let is = goes_on now moment x h.1 on in
    let rest = cells_shown now moment batch (suc n) xs on h.3 in
    λ i. (is i).cell ∷ rest i

abbrev pub with_cells : List ServerCell → ℕ → ℕ → ServersSeen
with_cells cells moment batch = record { cells = cells; moment = moment; batch = batch }

abbrev pub servers_seen : List ServerSeen → ℕ → ℕ → ServersSeen
servers_seen xs moment batch = with_cells (cells_of xs) moment batch

-- the clock shows this to all
pub shown_to_all : (now moment batch : ℕ) (xs : List ServerSeen) → nat_lt now moment ≡ false → AreServers moment batch 1 xs →
    servers_seen (map (moment_shown now) xs) now batch ≡ all_shown now (servers_seen xs moment batch)
shown_to_all now moment batch xs on h =
    ap (λ (cells : List ServerCell). with_cells cells now batch) (cells_shown now moment batch 1 xs on h)
    ∙ sym (ap (λ (b : Bool). if b then with_cells (cells_of xs) moment batch else with_cells (map (told_moment now) (cells_of xs)) now batch) on)

-- ---- the first servers

append_one : {A : Type 0} (xs : List A) (y : A) (zs : List A) → (xs ++ y ∷ []) ++ zs ≡ xs ++ y ∷ zs
append_one [] y zs = refl
append_one (x ∷ xs) y zs = ap (λ l. x ∷ l) (append_one xs y zs)

one_more : (batch k count : ℕ) → k < count → new_servers batch (suc k) (count - k) ≡ new_server batch (suc k) ∷ new_servers batch (suc (k + 1)) (count - (k + 1))
one_more batch k count l =
    ap (new_servers batch (suc k)) {x = count - k} {y = suc (count - (k + 1))} (omega (arith, l))
    ∙ ap (λ n. new_server batch (suc k) ∷ new_servers batch (suc n) (count - (k + 1))) {x = suc k} {y = k + 1} (omega arith)

pub one_started : (batch k count : ℕ) (xs : List ServerSeen) (y : ServerSeen) → k < count → y ≡ new_server batch (k + 1) →
    xs ++ new_servers batch (suc k) (count - k) ≡ new_servers batch 1 count →
    (xs ++ y ∷ []) ++ new_servers batch (suc (k + 1)) (count - (k + 1)) ≡ new_servers batch 1 count
one_started batch k count xs y l is whole =
    append_one xs y (new_servers batch (suc (k + 1)) (count - (k + 1)))
    ∙ ap (λ z. xs ++ z ∷ new_servers batch (suc (k + 1)) (count - (k + 1))) (is ∙ ap (new_server batch) {x = k + 1} {y = suc k} (omega arith))
    ∙ ap (λ l. xs ++ l) (sym (one_more batch k count l))
    ∙ whole

pub all_started : (batch k count : ℕ) (xs : List ServerSeen) → count ≤ k → xs ++ new_servers batch (suc k) (count - k) ≡ new_servers batch 1 count →
    xs ≡ new_servers batch 1 count
all_started batch k count xs l whole = sym (append-nil xs) ∙ ap (λ n. xs ++ new_servers batch (suc k) n) {x = 0} {y = count - k} (omega (arith, l)) ∙ whole

pub new_cells : (batch n count : ℕ) → cells_of (new_servers batch n count) ≡ first_servers batch n count
new_cells batch n zero = refl
new_cells batch n (suc more) = ap (λ (cells : List ServerCell). first_server batch n ∷ cells) (new_cells batch (suc n) more)

pub new_are : (batch n count : ℕ) → AreServers 0 batch n (new_servers batch n count)
new_are batch n zero = tt
new_are batch n (suc more) = (refl, refl, refl, new_are batch (suc n) more)
