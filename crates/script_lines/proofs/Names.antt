-- Which words name no actor, and which are no change.
use Rattle.std.proofs.Common.{◌≡◌, ◌≢◌, ◌<◌, ◌∙◌, ◌++◌, ◌∷◌, ℕ, List, Option, Some, None, [], ap, arith, codes, drop, get_or, length, length-append, refl, subst, sym}
use Rattle.std.proofs.lemmas.List.{get_or_at}
use Rattle.wire.specs.declared.actor.ActorId.{ActorId}
use Rattle.wire.specs.declared.actor.ActorId.TheVariants as actors
use Rattle.wire.specs.declared.transaction.Change.{Change}
use Rattle.script_lines.specs.Values.{IsValue}
use Rattle.script_lines.specs.Words.{DenotesUpTo, IsActor, IsChange}

-- none of the four beginnings
pub no_actor : (word : List ℕ) → (word ≡ codes "m" → ⊥) → (word ≡ codes "p" → ⊥) → ((rest : List ℕ) → word ≢ 110 ∷ rest)
    → ((rest : List ℕ) → word ≢ 115 ∷ rest) → (a : ActorId) → IsActor a word → ⊥
no_actor word m p n s (actors.Node i) h = n h.0 h.1
no_actor word m p n s (actors.Server i) h = s h.0 h.1
no_actor word m p n s actors.Manager h = m h
no_actor word m p n s actors.Map h = p h
no_actor word m p n s (actors.User u) h = h

first_same : (a b : ℕ) (x y word : List ℕ) → word ≡ a ∷ x → word ≡ b ∷ y → a ≡ b
first_same a b x y word p q = ap (λ (t : List ℕ). get_or t 0 0) (sym p ∙ q)

rest_same : (a b : ℕ) (x y word : List ℕ) → word ≡ a ∷ x → word ≡ b ∷ y → x ≡ y
rest_same a b x y word p q = ap (λ (t : List ℕ). drop 1 t) (sym p ∙ q)

apart : (a b : ℕ) (x y word : List ℕ) → (a ≡ b → ⊥) → word ≡ a ∷ x → word ≡ b ∷ y → ⊥
apart a b x y word ne p q = ne (first_same a b x y word p q)

s_no_n : ◌≡◌ {A = ℕ} 115 110 → ⊥
s_no_n e = omega arith

s_no_m : ◌≡◌ {A = ℕ} 115 109 → ⊥
s_no_m e = omega arith

s_no_p : ◌≡◌ {A = ℕ} 115 112 → ⊥
s_no_p e = omega arith

-- an s, and after it no number from 1 on
pub no_server : (word digits : List ℕ) → word ≡ 115 ∷ digits → ((n : ℕ) → DenotesUpTo 255 n digits × (0 < n) → ⊥)
    → (a : ActorId) → IsActor a word → ⊥
no_server word digits e none (actors.Node n) h = apart 115 110 digits h.0 word s_no_n e h.1
no_server word digits e none (actors.Server n) h =
    none n (subst (DenotesUpTo 255 n) (rest_same 115 115 h.0 digits word h.1 e) h.2, h.3)
no_server word digits e none actors.Manager h = apart 115 109 digits [] word s_no_m e h
no_server word digits e none actors.Map h = apart 115 112 digits [] word s_no_p e h
no_server word digits e none (actors.User u) h = h

plus_no_minus : ◌≡◌ {A = ℕ} 43 45 → ⊥
plus_no_minus e = omega arith

-- no `=` in it
abbrev pub NoEquals : List ℕ → Type 0
NoEquals key = (i : ℕ) → i < length key → get_or key i 0 ≢ 61

no_change_of : (word key : List ℕ) (value : Option (List ℕ)) → ((rest : List ℕ) → word ≢ 45 ∷ rest)
    → ((rest : List ℕ) → word ≢ 43 ∷ rest) → IsChange (record { key = key; value = value }) word → ⊥
no_change_of word key None minus plus h = minus key h
no_change_of word key (Some value) minus plus h = plus (key ++ (61 ∷ h.0)) h.1

-- neither beginning
pub no_change : (word : List ℕ) → ((rest : List ℕ) → word ≢ 45 ∷ rest) → ((rest : List ℕ) → word ≢ 43 ∷ rest)
    → (x : Change) → IsChange x word → ⊥
no_change word minus plus x h = no_change_of word x.key x.value minus plus h

no_put_of : (word put key : List ℕ) (value : Option (List ℕ)) → word ≡ 43 ∷ put
    → ((k text bytes : List ℕ) → put ≡ k ++ (61 ∷ text) → NoEquals k → IsValue text bytes → ⊥)
    → IsChange (record { key = key; value = value }) word → ⊥
no_put_of word put key None e none h = apart 43 45 put key word plus_no_minus e h
no_put_of word put key (Some value) e none h =
    none key h.0 value (rest_same 43 43 put (key ++ (61 ∷ h.0)) word e h.1) h.2 h.3

-- a `+`, and after it no key, `=` and value
pub no_put : (word put : List ℕ) → word ≡ 43 ∷ put
    → ((k text bytes : List ℕ) → put ≡ k ++ (61 ∷ text) → NoEquals k → IsValue text bytes → ⊥)
    → (x : Change) → IsChange x word → ⊥
no_put word put e none x h = no_put_of word put x.key x.value e none h

-- an `=` after a key is somewhere
pub equals_within : (put k text : List ℕ) → ((i : ℕ) → i < length put → get_or put i 0 ≢ 61) → put ≡ k ++ (61 ∷ text) → ⊥
equals_within put k text none e =
    let within : length k < length put = rw e (rw length-append (omega arith)) in
    none (length k) within (rw e (get_or_at k 61 text 0 (length k) refl))

pub put_spelled : (word put key name text bytes : List ℕ) → word ≡ 43 ∷ put → put ≡ name ++ (61 ∷ text) → NoEquals name
    → key ≡ name → IsValue text bytes → IsChange (record { key = key; value = Some bytes }) word
put_spelled word put key name text bytes e parts absent same value =
    (text, rw same (e ∙ ap (λ (t : List ℕ). 43 ∷ t) parts), rw same absent, value)
