-- The numbers under which servers ask the map to split ranges: each is of one range, one generation and one key.
use Rattle.std.proofs.Common.{◌≡◌, ◌⊎◌, ℕ, zero, suc, ◌-◌, ◌^◌, ◌≤◌, ◌<◌, ◌==◌, Bool, true, false, nat_lt, List, [], ◌∷◌, ◌++◌, map, Option, Some, None, option_map, is_some, slice_get, slice_set, Contains, refl, sym, ap, ◌∙◌, subst, inl, inr, arith}
use Rattle.std.proofs.lemmas.Bool.Decides.{nat_tests}
use Rattle.std.proofs.lemmas.Option.{same_Some}
use Rattle.std.proofs.lemmas.List.Elements.{Contains-append_cases}
use Rattle.wire.specs.declared.actor.ReqNo.{ReqNo}
use Rattle.wire.specs.declared.actor.ReqNo.TheVariants as requests
use Rattle.wire.specs.declared.body.MapBody.TheVariants as maps
use Rattle.wire.specs.declared.body.Body.TheVariants as bodies
use Rattle.wire.specs.declared.packet.Packet.{Packet}
use Rattle.model_streams.specs.Maps.{entry_at}
use Rattle.model_streams.proofs.Tests.{if_elim}
use Rattle.model_partition.specs.Range.{RangeState, request}
use Rattle.model_partition.specs.Server.{ServerState, ServerOutcome, range_of, split_refusal, splits_in, server_split, has_numbers, moment_rule, started}
use Rattle.model_partition.specs.Servers.{ServerCell, cell_stops, cell_starts, first_pick, told_moment}
use Rattle.model_partition.specs.Splits.{new_split, begin_packet}
use Rattle.laws_map.specs.Generations.{HasAsked}

-- ---- lists that are numbered from 1

set_here : {A : Type 0} (xs : List A) (n : ℕ) (c d : A) → slice_get xs n ≡ Some c → slice_get (slice_set xs n d) n ≡ Some d
set_here [] n c d e = absurd cc
set_here (x ∷ xs) zero c d e = refl
set_here (x ∷ xs) (suc n) c d e = set_here xs n c d e

set_elsewhere : {A : Type 0} (xs : List A) (n m : ℕ) (d : A) → (m ≡ n → ⊥) → slice_get (slice_set xs n d) m ≡ slice_get xs m
set_elsewhere [] n m d apart = refl
set_elsewhere (x ∷ xs) zero zero d apart = absurd (apart refl)
set_elsewhere (x ∷ xs) zero (suc m) d apart = refl
set_elsewhere (x ∷ xs) (suc n) zero d apart = refl
set_elsewhere (x ∷ xs) (suc n) (suc m) d apart = set_elsewhere xs n m d (λ e. apart (ap suc e))

one_less : (n : ℕ) → n ≡ suc n - 1
one_less n = omega arith

-- what was set is there
pub entry_set : {A : Type 0} (xs : List A) (s : ℕ) (c d : A) → entry_at xs s ≡ Some c → entry_at (slice_set xs (s - 1) d) s ≡ Some d
entry_set xs zero c d e = absurd cc
entry_set xs (suc n) c d e = subst (λ k. slice_get (slice_set xs k d) n ≡ Some d) (one_less n) (set_here xs n c d e)

-- and nothing else changes
pub entry_other : {A : Type 0} (xs : List A) (s : ℕ) (c d : A) → entry_at xs s ≡ Some c → (t : ℕ) → (t ≡ s → ⊥) → entry_at (slice_set xs (s - 1) d) t ≡ entry_at xs t
entry_other xs zero c d e t apart = absurd cc
entry_other xs (suc n) c d e zero apart = refl
entry_other xs (suc n) c d e (suc m) apart = subst (λ k. slice_get (slice_set xs k d) m ≡ slice_get xs m) (one_less n) (set_elsewhere xs n m d (λ same. apart (ap suc same)))

-- ---- numbers that were used

-- a number of a session of this cell that is over, or of the one that lasts, and used
abbrev pub PastAt : ServerCell → ℕ → ℕ → Type 0
PastAt cell n k = (n < cell.session) ⊎ ((n ≡ cell.session) × ((st : ServerState) → cell.state ≡ Some st → k < st.context.count))

abbrev pub IsPast : List ServerCell → ReqNo → Type 0
IsPast servers (requests.Server s n k) = (cell : ServerCell) × (entry_at servers s ≡ Some cell) × PastAt cell n k
IsPast servers q = ⊥

-- the server at this place has its number, and is of the session of its cell
abbrev pub IsItself : ℕ → ServerCell → Type 0
IsItself s cell = (st : ServerState) → cell.state ≡ Some st → (st.context.server ≡ s) × (st.context.session ≡ cell.session)

abbrev pub AreThemselves : List ServerCell → Type 0
AreThemselves servers = (s : ℕ) (cell : ServerCell) → entry_at servers s ≡ Some cell → IsItself s cell

-- how the cell of a number changes: what was used stays used, and it stays itself
pub record CellOn (s : ℕ) (c d : ServerCell) : Type 0 where
  pub past : (n k : ℕ) → PastAt c n k → PastAt d n k
  pub itself : IsItself s c → IsItself s d

-- the same of all
pub record ServersOn (xs ys : List ServerCell) : Type 0 where
  pub past : (q : ReqNo) → IsPast xs q → IsPast ys q
  pub themselves : AreThemselves xs → AreThemselves ys

pub nothing_on : (xs : List ServerCell) → ServersOn xs xs
nothing_on xs = record { past = λ q p. p; themselves = λ a. a }

-- the server of a number changes so
pub one_on : (xs : List ServerCell) (s : ℕ) (c d : ServerCell) → entry_at xs s ≡ Some c → CellOn s c d → ServersOn xs (slice_set xs (s - 1) d)
one_on xs s c d at on = record { past = past; themselves = themselves }
  where
    past : (q : ReqNo) → IsPast xs q → IsPast (slice_set xs (s - 1) d) q
    past (requests.User u ticket) p = absurd p
    past requests.NoRequest p = absurd p
    past (requests.Server t n k) (cell, is, p) = go (t == s) refl
      where
        go : (b : Bool) → (t == s) ≡ b → IsPast (slice_set xs (s - 1) d) (requests.Server t n k)
        go true test =
            let same : t ≡ s = grind (arith, nat_tests) in
            let cells : cell ≡ c = same_Some cell c (sym is ∙ ap (entry_at xs) same ∙ at) in
            (d, ap (entry_at (slice_set xs (s - 1) d)) same ∙ entry_set xs s c d at, on.past n k (subst (λ z. PastAt z n k) cells p))
        go false test = (cell, entry_other xs s c d at t (λ same. grind (arith, nat_tests)) ∙ is, p)

    themselves : AreThemselves xs → AreThemselves (slice_set xs (s - 1) d)
    themselves a t cell is = go (t == s) refl
      where
        go : (b : Bool) → (t == s) ≡ b → IsItself t cell
        go true test =
            let same : t ≡ s = grind (arith, nat_tests) in
            let cells : d ≡ cell = same_Some d cell (sym (entry_set xs s c d at) ∙ sym (ap (entry_at (slice_set xs (s - 1) d)) same) ∙ is) in
            subst (IsItself t) cells (subst (λ n. IsItself n d) (sym same) (on.itself (a s c at)))
        go false test = a t cell (sym (entry_other xs s c d at t (λ same. grind (arith, nat_tests))) ∙ is)

-- ---- how cells change

pub same_cell : (s : ℕ) (c : ServerCell) → CellOn s c c
same_cell s c = record { past = λ n k p. p; itself = λ i. i }

-- a step of a server in its session, after which its count is no less
pub stepped_cell : (s : ℕ) (c : ServerCell) (st after : ServerState) → c.state ≡ Some st → st.context.count ≤ after.context.count → after.context.server ≡ st.context.server → after.context.session ≡ st.context.session →
    CellOn s c (record c { state = Some after })
stepped_cell s c st after is more server session = record {
  past = λ n k p. elim p [
    | inl over ↦ inl over
    | inr lasts ↦ inr (lasts.0, λ z e. (let same : after ≡ z = same_Some after z e in let l = lasts.1 st is in subst (λ (y : ServerState). k < y.context.count) same (omega (arith, l, more))))
  ];
  itself = λ i z e. (let same : after ≡ z = same_Some after z e in subst (λ (y : ServerState). (y.context.server ≡ s) × (y.context.session ≡ c.session)) same (server ∙ (i st is).0, session ∙ (i st is).1));
}

pub stopped_cell : (s call : ℕ) (c : ServerCell) → CellOn s c (cell_stops call c)
stopped_cell s call c =
    if_elim (CellOn s c) (call == 0) (record c { state = None }) c
    (λ t. record { past = λ n k p. elim p [ inl over ↦ inl over | inr lasts ↦ inr (lasts.0, λ z e. absurd cc) ]; itself = λ i z e. absurd cc }) (λ f. same_cell s c)

pub started_cell : (s now batch : ℕ) (c : ServerCell) (state : Option ServerState) → c.state ≡ state → CellOn s c (cell_starts s now batch c state)
started_cell s now batch c (Some server) is = same_cell s c
started_cell s now batch c None is =
    if_elim (CellOn s c) (nat_lt (suc c.session) (2 ^ 64)) (record { session = suc c.session; state = Some (started s (suc c.session) now first_pick batch) }) c
    (λ t. record {
      past = λ n k p. elim p [ inl over ↦ inl (omega (arith, over)) | inr lasts ↦ inl (let e = lasts.0 in omega (arith, e)) ];
      itself = λ i z e. (let same : started s (suc c.session) now first_pick batch ≡ z = same_Some _ z e in subst (λ (y : ServerState). (y.context.server ≡ s) × (y.context.session ≡ suc c.session)) same (refl, refl));
    })
    (λ f. same_cell s c)

-- ---- a moment, at all of them

moment_cell : (s now : ℕ) (c : ServerCell) → CellOn s c (told_moment now c)
moment_cell s now c = record { past = past; itself = itself }
  where
    told : (state : Option ServerState) (z : ServerState) → option_map (λ server. moment_rule server now) state ≡ Some z → (st : ServerState) × (state ≡ Some st) × (moment_rule st now ≡ z)
    told None z e = absurd cc
    told (Some st) z e = (st, refl, same_Some (moment_rule st now) z e)

    past : (n k : ℕ) → PastAt c n k → PastAt (told_moment now c) n k
    past n k (inl over) = inl over
    past n k (inr lasts) = inr (lasts.0, λ z e. (let (st, is, same) = told c.state z e in subst (λ (y : ServerState). k < y.context.count) same (lasts.1 st is)))

    itself : IsItself s c → IsItself s (told_moment now c)
    itself i z e = let (st, is, same) = told c.state z e in subst (λ (y : ServerState). (y.context.server ≡ s) × (y.context.session ≡ c.session)) same (i st is)

mapped : {A : Type 0} (f : A → A) (xs : List A) (n : ℕ) → slice_get (map f xs) n ≡ option_map f (slice_get xs n)
mapped f [] n = refl
mapped f (x ∷ xs) zero = refl
mapped f (x ∷ xs) (suc n) = mapped f xs n

pub entry_mapped : {A : Type 0} (f : A → A) (xs : List A) (s : ℕ) → entry_at (map f xs) s ≡ option_map f (entry_at xs s)
entry_mapped f xs zero = refl
entry_mapped f xs (suc n) = mapped f xs n

pub moments_on : (xs : List ServerCell) (now : ℕ) → ServersOn xs (map (told_moment now) xs)
moments_on xs now = record { past = past; themselves = themselves }
  where
    past : (q : ReqNo) → IsPast xs q → IsPast (map (told_moment now) xs) q
    past (requests.User u ticket) p = absurd p
    past requests.NoRequest p = absurd p
    past (requests.Server t n k) (cell, is, p) = (told_moment now cell, entry_mapped (told_moment now) xs t ∙ ap (option_map (told_moment now)) is, (moment_cell t now cell).past n k p)

    themselves : AreThemselves xs → AreThemselves (map (told_moment now) xs)
    themselves a s cell is = go (entry_at xs s) refl (sym (entry_mapped (told_moment now) xs s) ∙ is)
      where
        go : (o : Option ServerCell) → entry_at xs s ≡ o → option_map (told_moment now) o ≡ Some cell → IsItself s cell
        go None at e = absurd cc
        go (Some c) at e = subst (IsItself s) (same_Some (told_moment now c) cell e) ((moment_cell s now c).itself (a s c at))

-- ---- what was asked

-- what is in a longer post was asked before, or with what came
pub asked_cases : (old new : List Packet) (q : ReqNo) (range generation : ℕ) (key : List ℕ) → HasAsked (old ++ new) q range generation key → HasAsked old q range generation key ⊎ HasAsked new q range generation key
asked_cases old new q range generation key h = elim (Contains-append_cases old new h.packet h.sent) [
  | inl there ↦ inl (record { packet = h.packet; sent = there; is = h.is })
  | inr there ↦ inr (record { packet = h.packet; sent = there; is = h.is })
]

-- the request of a body that asks for a split, and what it asks for
same_ask : (range generation : ℕ) (key : List ℕ) (q : ReqNo) (n g : ℕ) (k : List ℕ) (w : ReqNo) → bodies.Map (maps.BeginSplit range generation key q) ≡ bodies.Map (maps.BeginSplit n g k w) → (range ≡ n) × (generation ≡ g) × (key ≡ k) × (q ≡ w)
same_ask range generation key q n g k w is = (cc, cc, cc, cc)

pub one_asked : (range generation : ℕ) (key : List ℕ) (q : ReqNo) (p : Packet) → p.body ≡ bodies.Map (maps.BeginSplit range generation key q) → (w : ReqNo) (n g : ℕ) (k : List ℕ) → HasAsked (p ∷ []) w n g k →
    (range ≡ n) × (generation ≡ g) × (key ≡ k) × (q ≡ w)
one_asked range generation key q p is w n g k h = go h.sent
  where
    go : Contains (p ∷ []) h.packet → (range ≡ n) × (generation ≡ g) × (key ≡ k) × (q ≡ w)
    go (zero, less, same) = same_ask range generation key q n g k w (sym is ∙ ap (λ (x : Packet). x.body) same ∙ h.is)
    go (suc j, less, same) = absurd (omega (arith, less))

-- a split that is asked for is begun, under the number of the server's next request, which is used then
pub record IsAskedFor (s : ServerState) (range : ℕ) (key : List ℕ) (o : ServerOutcome) : Type 0 where
  pub held : RangeState
  pub sent : o.packets ≡ begin_packet s.context (new_split s.context held key) (request s.context) ∷ []
  pub count : o.after.context.count ≡ suc s.context.count

abbrev pub AsksOrNot : ServerState → ℕ → List ℕ → ServerOutcome → Type 0
AsksOrNot s range key o = (o.packets ≡ []) ⊎ IsAskedFor s range key o

pub split_asks : (s : ServerState) (range : ℕ) (key : List ℕ) → AsksOrNot s range key (server_split s range key)
split_asks s range key = if_elim (AsksOrNot s range key) (is_some (split_refusal s range key)) _ _ (λ t. inl refl) (λ f. by (range_of s.ranges range))
  where
    by : (held : Option RangeState) → AsksOrNot s range key (splits_in s range key held)
    by None = inl refl
    by (Some r) = if_elim (AsksOrNot s range key) (has_numbers s.context) _ _ (λ t. inr (record { held = r; sent = refl; count = refl })) (λ f. inl refl)
