-- The stream layer's facts about an extent, as steps of the stream that it belongs to.
use Rattle.std.proofs.Common.{◌≡◌, ℕ, suc, ◌+◌, ◌<◌, ◌≤◌, List, [], ◌∷◌, ◌++◌, map, Some, None, refl, sym, ap, ◌∙◌, subst, inl, inr, arith, append_assoc, nat_lt}
use Rattle.std.proofs.lemmas.List.{append-nil, append_cancel_left}
use Rattle.std.proofs.lemmas.Bool.{ltb-true, ltb-false}
use Rattle.block_types.specs.declared.record.Nodes.{Nodes}
use Rattle.replica.specs.Groups.{Group, size, text_length}
use Rattle.replica.proofs.Placing.{length-cons}
use Rattle.model_streams.specs.Honest.{Stands}
use Rattle.model_streams.specs.Node.{greater}
use Rattle.model_streams.proofs.Tests.{if_elim}
use Rattle.laws_streams.specs.Origins.{Begins}
use Rattle.laws_streams.proofs.Ground.{Ground, EndsAt, Sound}
use Rattle.laws_streams.proofs.MoreKnown.{Later}
use Rattle.model_histories.specs.Story.{Copy}
use Rattle.model_histories.specs.StreamMachine.{In, SealedExtent, OpenExtent, base, Chain, MachineState, MachineStep, Keeps, new_copy, May}
use Rattle.model_histories.specs.ServerTurns.{all_next}

-- a copy is as long as its group
abbrev pub Sized : List (Copy Group) → Type 0
Sized [] = Unit {0}
Sized (c ∷ cs) = (c.to ≡ c.from + size c.group) × Sized cs

abbrev pub group_of : Copy Group → Group
group_of c = c.group

-- the least generation that the primary listens to, as far as is known: the fence that the extent was made with, or that of
-- the last check that it answered
abbrev pub floor_of : Ground → ℕ → ℕ
floor_of g e = greater (g.fence e) (g.born e)

-- the live extent of a stream is this extent of the nodes
pub record TiedLive (g : Ground) (e index : ℕ) (v : OpenExtent Group) : Type 0 where
  pub groups : map group_of (v.kept ++ v.loose) ≡ g.script e
  pub kept_chain : Chain (base index) v.kept v.sure
  pub loose_chain : Chain v.sure v.loose v.end
  pub sized : Sized (v.kept ++ v.loose)
  -- no higher than what the primary listens to
  pub fence : v.fence ≤ floor_of g e
  pub unsealed : g.sealed e ≡ None
  -- what is kept all three places had
  pub had : (at : Nodes) → g.places e ≡ Some at →
      (v.sure ≤ base index + g.last at.primary e) × (v.sure ≤ base index + g.last at.second e) × (v.sure ≤ base index + g.last at.third e)

-- a sealed extent of a stream is this extent of the nodes
pub record TiedShut (g : Ground) (e index : ℕ) (x : SealedExtent Group) : Type 0 where
  pub length_at : ℕ
  pub sealed : g.sealed e ≡ Some length_at
  pub end : x.end ≡ base index + length_at
  pub begins : Begins (map group_of x.copies) (g.script e)
  pub chain : Chain (base index) x.copies x.end
  pub sized : Sized x.copies

-- ---- chains

pub chain_le : (a : ℕ) (xs : List (Copy Group)) (b : ℕ) → Chain a xs b → a ≤ b
chain_le a [] b e = omega arith
chain_le a (x ∷ xs) b (e, lt, more) = let le : x.to ≤ b = chain_le x.to xs b more in omega arith

pub chain_len : (a : ℕ) (xs : List (Copy Group)) (b : ℕ) → Chain a xs b → Sized xs → b ≡ a + text_length (map group_of xs)
chain_len a [] b e s = omega arith
chain_len a (x ∷ xs) b (e, lt, more) (is, s) =
    let l : b ≡ x.to + text_length (map group_of xs) = chain_len x.to xs b more s in
    omega (arith, length-cons x.group (map group_of xs))

pub chain_both : (a : ℕ) (xs ys : List (Copy Group)) (m b : ℕ) → Chain a xs m → Chain m ys b → Chain a (xs ++ ys) b
chain_both a [] ys m b e c = subst (λ z. Chain z ys b) (sym e) c
chain_both a (x ∷ xs) ys m b (e, lt, more) c = (e, lt, chain_both x.to xs ys m b more c)

chain_split : (a : ℕ) (xs ys : List (Copy Group)) (b : ℕ) → Chain a (xs ++ ys) b → (m : ℕ) × Chain a xs m × Chain m ys b
chain_split a [] ys b c = (a, refl, c)
chain_split a (x ∷ xs) ys b (e, lt, more) =
    let r : (m : ℕ) × Chain x.to xs m × Chain m ys b = chain_split x.to xs ys b more in
    (r.0, (e, lt, r.1), r.2)

sized_both : (xs ys : List (Copy Group)) → Sized xs → Sized ys → Sized (xs ++ ys)
sized_both [] ys a b = b
sized_both (x ∷ xs) ys (e, a) b = (e, sized_both xs ys a b)

pub sized_front : (xs ys : List (Copy Group)) → Sized (xs ++ ys) → Sized xs
sized_front [] ys a = tt
sized_front (x ∷ xs) ys (e, a) = (e, sized_front xs ys a)

pub map_both : (xs ys : List (Copy Group)) → map group_of (xs ++ ys) ≡ map group_of xs ++ map group_of ys
map_both [] ys = refl
map_both (x ∷ xs) ys = ap (λ z. x.group ∷ z) (map_both xs ys)

map_split : (xs : List (Copy Group)) (front back : List Group) → map group_of xs ≡ front ++ back →
    (us : List (Copy Group)) × (vs : List (Copy Group)) × (xs ≡ us ++ vs) × (map group_of us ≡ front)
map_split xs [] back e = ([], xs, refl, refl)
map_split [] (f ∷ front) back e = absurd (cc)
map_split (x ∷ xs) (f ∷ front) back e =
    let head : x.group ≡ f = cc in
    let tail : map group_of xs ≡ front ++ back = cc in
    let r : (us : List (Copy Group)) × (vs : List (Copy Group)) × (xs ≡ us ++ vs) × (map group_of us ≡ front) = map_split xs front back tail in
    (x ∷ r.0, r.1, ap (λ z. x ∷ z) r.2, ap (λ z. z ∷ map group_of r.0) head ∙ ap (λ z. f ∷ z) r.3)

-- of two fronts of one chain the one that ends later goes on from the other
longer_front : (a s t : ℕ) (ks us ls vs : List (Copy Group)) → ks ++ ls ≡ us ++ vs → Chain a ks s → Chain a us t → s ≤ t →
    (more : List (Copy Group)) × (us ≡ ks ++ more) × (ls ≡ more ++ vs)
longer_front a s t [] us ls vs e c d le = (us, refl, e)
longer_front a s t (k ∷ ks) [] ls vs e c d le = let up : k.to ≤ s = chain_le k.to ks s c.2 in let at : k.from ≡ a = c.0 in let lt : k.from < k.to = c.1 in let end : a ≡ t = d in absurd (omega arith)
longer_front a s t (k ∷ ks) (u ∷ us) ls vs e c d le =
    let head : k ≡ u = cc in
    let tail : ks ++ ls ≡ us ++ vs = cc in
    let d' : Chain k.to us t = subst (λ (z : Copy Group). Chain z.to us t) (sym head) d.2 in
    let r : (more : List (Copy Group)) × (us ≡ ks ++ more) × (ls ≡ more ++ vs) = longer_front k.to s t ks us ls vs tail c.2 d' le in
    (r.0, ap (λ z. z ∷ us) (sym head) ∙ ap (λ z. k ∷ z) r.1, r.2)

-- the live extent ends where its script does
pub live_end : (g : Ground) (e index : ℕ) (v : OpenExtent Group) → TiedLive g e index v → v.end ≡ base index + text_length (g.script e)
live_end g e index v tied =
    let whole = chain_both (base index) v.kept v.loose v.sure v.end tied.kept_chain tied.loose_chain in
    chain_len (base index) (v.kept ++ v.loose) v.end whole tied.sized ∙ ap (λ gs. base index + text_length gs) tied.groups

-- so it ends before the next extent begins
pub live_fits : (g : Ground) → Sound g → (e index : ℕ) (v : OpenExtent Group) → TiedLive g e index v → v.end ≤ base (suc index)
live_fits g sound e index v tied = let m = live_end g e index v tied in omega (arith, m, sound.short e)

-- ---- fences

pub floor_low : (g : Ground) (e low : ℕ) → g.fence e ≤ low → g.born e ≤ low → floor_of g e ≤ low
floor_low g e low a b = if_elim (λ x. x ≤ low) (nat_lt (g.fence e) (g.born e)) (g.born e) (g.fence e) (λ t. b) (λ t. a)

-- it is at least the fence of the last check, and at least that of the extent
pub floor_above : (g : Ground) (e : ℕ) → g.fence e ≤ floor_of g e
floor_above g e = if_elim (λ x. g.fence e ≤ x) (nat_lt (g.fence e) (g.born e)) (g.born e) (g.fence e) (λ t. let m = ltb-true (g.fence e) (g.born e) t in omega (arith, m)) (λ t. omega arith)

pub floor_born : (g : Ground) (e : ℕ) → g.born e ≤ floor_of g e
floor_born g e = if_elim (λ x. g.born e ≤ x) (nat_lt (g.fence e) (g.born e)) (g.born e) (g.fence e) (λ t. omega arith) (λ t. let m = ltb-false (g.fence e) (g.born e) t in omega (arith, m))

-- it never falls
pub floor_rises : (g h : Ground) (e : ℕ) → g.fence e ≤ h.fence e → g.born e ≤ h.born e → floor_of g e ≤ floor_of h e
floor_rises g h e a b =
    let f = floor_above h e in
    let k = floor_born h e in
    floor_low g e (floor_of h e) (omega (arith, a, f)) (omega (arith, b, k))

-- an extent that is made now
pub new_tied : (g : Ground) (e index fence : ℕ) → g.script e ≡ [] → fence ≤ floor_of g e → g.sealed e ≡ None →
    TiedLive g e index (record { kept = []; sure = base index; loose = []; end = base index; fence = fence })
new_tied g e index fence script low unsealed = record {
  groups = sym script;
  kept_chain = refl;
  loose_chain = refl;
  sized = tt;
  fence = low;
  unsealed = unsealed;
  had = λ p made. (omega arith, omega arith, omega arith);
}

-- a check that is answered raises the fence to its generation
pub check_tied : (g h : Ground) (e index generation : ℕ) (v : OpenExtent Group) → TiedLive g e index v → Later g h → h.script e ≡ g.script e →
    h.sealed e ≡ g.sealed e → ((at : Nodes) → h.places e ≡ Some at → g.places e ≡ Some at) → generation ≤ h.fence e →
    TiedLive h e index (record v { fence = generation })
check_tied g h e index generation v tied later script length_at places fence = record {
  groups = tied.groups ∙ sym script;
  kept_chain = tied.kept_chain;
  loose_chain = tied.loose_chain;
  sized = tied.sized;
  fence = let m = floor_above h e in omega (arith, m, fence);
  unsealed = length_at ∙ tied.unsealed;
  had = λ p made.
      let b = tied.had p (places p made) in (
        omega (arith, b.0, later.last p.primary e),
        omega (arith, b.1, later.last p.second e),
        omega (arith, b.2, later.last p.third e),
      );
}

-- ---- an append at the primary

-- The rule's tests give the guard of TakesAppend; what the primary then has is tied again.
pub append_tied : (generation : ℕ → ℕ) (g h : Ground) (e index append to : ℕ) (blocks : Group) (v : OpenExtent Group) → TiedLive g e index v → Later g h →
    h.script e ≡ g.script e ++ blocks ∷ [] → floor_of g e ≤ floor_of h e → h.sealed e ≡ g.sealed e → ((at : Nodes) → h.places e ≡ Some at → g.places e ≡ Some at) →
    0 < size blocks → to ≡ v.end + size blocks →
    (v.end < to) × TiedLive h e index (record v { loose = v.loose ++ new_copy Group generation v to append blocks ∷ []; end = to })
append_tied generation g h e index append to blocks v tied later script fence length_at places some at =
    let c : Copy Group = new_copy Group generation v to append blocks in (
      omega arith,
      record {
        groups = ap (λ z. map group_of z) (sym (append_assoc v.kept v.loose (c ∷ []))) ∙ map_both (v.kept ++ v.loose) (c ∷ []) ∙ ap (λ z. z ++ blocks ∷ []) tied.groups ∙ sym script;
        kept_chain = tied.kept_chain;
        loose_chain = chain_both v.sure v.loose (c ∷ []) v.end to tied.loose_chain (refl, omega arith, refl);
        sized = subst Sized (append_assoc v.kept v.loose (c ∷ [])) (sized_both (v.kept ++ v.loose) (c ∷ []) tied.sized (at, tt));
        fence = omega (arith, tied.fence, fence);
        unsealed = length_at ∙ tied.unsealed;
        had = λ p made.
            let b : (v.sure ≤ base index + g.last p.primary e) × (v.sure ≤ base index + g.last p.second e) × (v.sure ≤ base index + g.last p.third e) = tied.had p (places p made) in
            let l1 : g.last p.primary e ≤ h.last p.primary e = later.last p.primary e in
            let l2 : g.last p.second e ≤ h.last p.second e = later.last p.second e in
            let l3 : g.last p.third e ≤ h.last p.third e = later.last p.third e in
            let b0 : v.sure ≤ base index + g.last p.primary e = b.0 in
            let b1 : v.sure ≤ base index + g.last p.second e = b.1 in
            let b2 : v.sure ≤ base index + g.last p.third e = b.2 in
            (omega arith, omega arith, omega arith);
      },
    )

-- ---- keeping

module _ (generation : ℕ → ℕ) where
  -- steps from a state on, the newest first
  abbrev pub IsRunFrom : MachineState Group → List (MachineStep Group) → Type 0
  IsRunFrom s [] = Unit {0}
  IsRunFrom s (x ∷ earlier) = May Group generation (all_next Group generation s earlier) x × IsRunFrom s earlier

  abbrev pub end_after : ℕ → List (Copy Group) → ℕ
  end_after sure [] = sure
  end_after sure (c ∷ cs) = end_after c.to cs

  -- the copies that are there for good may be kept, one by one
  abbrev pub keeping_all : List (Copy Group) → List (Copy Group) → OpenExtent Group → List (MachineStep Group) → List (MachineStep Group)
  keeping_all [] rest v done = done
  keeping_all (c ∷ more) rest v done = keeping_all more rest (record v { kept = v.kept ++ c ∷ []; sure = c.to; loose = more ++ rest }) (Keeps c (more ++ rest) v ∷ done)

  pub kept_all : (more rest : List (Copy Group)) (s : MachineState Group) (v : OpenExtent Group) (done : List (MachineStep Group)) → IsRunFrom s done →
      (all_next Group generation s done).core.live ≡ Some v → v.loose ≡ more ++ rest →
      IsRunFrom s (keeping_all more rest v done)
      × ((all_next Group generation s (keeping_all more rest v done)).core.live ≡ Some (record v { kept = v.kept ++ more; sure = end_after v.sure more; loose = rest }))
  kept_all [] rest s v done ok live is = (ok, live ∙ ap (λ z. Some (record v { loose = z })) is ∙ ap (λ z. Some (record v { kept = z; loose = rest })) (sym (append-nil v.kept)))
  kept_all (c ∷ more) rest s v done ok live is =
      let w : OpenExtent Group = record v { kept = v.kept ++ c ∷ []; sure = c.to; loose = more ++ rest } in
      let r : IsRunFrom s (keeping_all more rest w (Keeps c (more ++ rest) v ∷ done))
      × ((all_next Group generation s (keeping_all more rest w (Keeps c (more ++ rest) v ∷ done))).core.live ≡ Some (record w { kept = w.kept ++ more; sure = end_after c.to more; loose = rest })) =
      kept_all more rest s w (Keeps c (more ++ rest) v ∷ done) ((live, is), ok) refl refl in
      (r.0, r.1 ∙ ap (λ z. Some (record v { kept = z; sure = end_after c.to more; loose = rest })) (append_assoc v.kept (c ∷ []) more))

-- ---- up to a boundary

chain_end : (a : ℕ) (xs : List (Copy Group)) (b c : ℕ) → Chain a xs b → Chain a xs c → b ≡ c
chain_end a [] b c d e = sym d ∙ e
chain_end a (x ∷ xs) b c d e = chain_end x.to xs b c d.2 e.2

module _ (generation : ℕ → ℕ) where
  pub after_chain : (a : ℕ) (xs : List (Copy Group)) (b : ℕ) → Chain a xs b → end_after generation a xs ≡ b
  after_chain a [] b c = c
  after_chain a (x ∷ xs) b c = after_chain x.to xs b c.2

  -- where a beginning of the script ends, after what is kept
  pub record FoundFront (g : Ground) (e index : ℕ) (v : OpenExtent Group) (front : List Group) (length_at : ℕ) : Type 0 where
    pub more : List (Copy Group)
    pub rest : List (Copy Group)
    pub loose : v.loose ≡ more ++ rest
    pub groups : map group_of (v.kept ++ more) ≡ front
    pub end : end_after generation v.sure more ≡ base index + length_at
    pub chain : Chain (base index) (v.kept ++ more) (base index + length_at)
    pub next_chain : Chain (base index + length_at) rest v.end
    pub sized : Sized (v.kept ++ more)

  pub find_front : (g : Ground) (e index : ℕ) (v : OpenExtent Group) (front : List Group) (length_at : ℕ) → TiedLive g e index v → Begins front (g.script e) → text_length front ≡ length_at →
      v.sure ≤ base index + length_at → FoundFront g e index v front length_at
  find_front g e index v front length_at tied begins is le =
      let split : (us : List (Copy Group)) × (vs : List (Copy Group)) × (v.kept ++ v.loose ≡ us ++ vs) × (map group_of us ≡ front) =
      map_split (v.kept ++ v.loose) front begins.rest (tied.groups ∙ begins.is) in
      let whole : Chain (base index) (split.0 ++ split.1) v.end = subst (λ z. Chain (base index) z v.end) split.2 (chain_both (base index) v.kept v.loose v.sure v.end tied.kept_chain tied.loose_chain) in
      let sized : Sized split.0 = sized_front split.0 split.1 (subst Sized split.2 tied.sized) in
      let cut : (m : ℕ) × Chain (base index) split.0 m × Chain m split.1 v.end = chain_split (base index) split.0 split.1 v.end whole in
      let at : cut.0 ≡ base index + text_length (map group_of split.0) = chain_len (base index) split.0 cut.0 cut.1 sized in
      let same : text_length (map group_of split.0) ≡ length_at = ap text_length split.3 ∙ is in
      let there : cut.0 ≡ base index + length_at = omega arith in
      let on : (more : List (Copy Group)) × (split.0 ≡ v.kept ++ more) × (v.loose ≡ more ++ split.1) =
      longer_front (base index) v.sure cut.0 v.kept split.0 v.loose split.1 split.2 tied.kept_chain cut.1 (omega arith) in
      let joined : Chain (base index) (v.kept ++ on.0) cut.0 = subst (λ z. Chain (base index) z cut.0) on.1 cut.1 in
      let parts : (m : ℕ) × Chain (base index) v.kept m × Chain m on.0 cut.0 = chain_split (base index) v.kept on.0 cut.0 joined in
      let mid : parts.0 ≡ v.sure = chain_end (base index) v.kept parts.0 v.sure parts.1 tied.kept_chain in
      record {
        more = on.0;
        rest = split.1;
        loose = on.2;
        groups = ap (λ z. map group_of z) (sym on.1) ∙ split.3;
        end = after_chain v.sure on.0 cut.0 (subst (λ z. Chain z on.0 cut.0) mid parts.2) ∙ there;
        chain = subst (λ z. Chain (base index) (v.kept ++ on.0) z) there joined;
        next_chain = subst (λ z. Chain z split.1 v.end) there cut.2;
        sized = subst Sized on.1 sized;
      }

  -- the same, for a length at which a beginning of the script ends
  pub found_at : (g : Ground) (e index : ℕ) (v : OpenExtent Group) (length_at : ℕ) → TiedLive g e index v → EndsAt (g.script e) length_at →
      v.sure ≤ base index + length_at → (front : List Group) × FoundFront g e index v front length_at
  found_at g e index v length_at tied at le = (at.front, find_front g e index v at.front length_at tied at.begins at.ends le)

  -- ---- a check that found all three equal, and an answer: more is kept
  pub keep_tied : (g : Ground) (e index : ℕ) (v : OpenExtent Group) (front : List Group) (length_at : ℕ) → TiedLive g e index v → (f : FoundFront g e index v front length_at) →
      ((at : Nodes) → g.places e ≡ Some at → (length_at ≤ g.last at.primary e) × (length_at ≤ g.last at.second e) × (length_at ≤ g.last at.third e)) →
      TiedLive g e index (record v { kept = v.kept ++ f.more; sure = end_after generation v.sure f.more; loose = f.rest })
  keep_tied g e index v front length_at tied f had =
      let back : (v.kept ++ f.more) ++ f.rest ≡ v.kept ++ v.loose = append_assoc v.kept f.more f.rest ∙ ap (λ z. v.kept ++ z) (sym f.loose) in
      let at : end_after generation v.sure f.more ≡ base index + length_at = f.end in
      record {
        groups = ap (λ z. map group_of z) back ∙ tied.groups;
        kept_chain = subst (λ z. Chain (base index) (v.kept ++ f.more) z) (sym at) f.chain;
        loose_chain = subst (λ z. Chain z f.rest v.end) (sym at) f.next_chain;
        sized = subst Sized (sym back) tied.sized;
        fence = tied.fence;
        unsealed = tied.unsealed;
        had = λ p made.
            let b : (length_at ≤ g.last p.primary e) × (length_at ≤ g.last p.second e) × (length_at ≤ g.last p.third e) = had p made in
            let b0 : length_at ≤ g.last p.primary e = b.0 in
            let b1 : length_at ≤ g.last p.second e = b.1 in
            let b2 : length_at ≤ g.last p.third e = b.2 in
            (omega arith, omega arith, omega arith);
      }

  -- ---- the manager seals at a boundary that is no shorter than what is kept
  pub seal_tied : (g h : Ground) (e index : ℕ) (v : OpenExtent Group) (front : List Group) (length_at : ℕ) → TiedLive g e index v → (f : FoundFront g e index v front length_at) →
      Begins front (g.script e) → h.script e ≡ g.script e → h.sealed e ≡ Some length_at →
      TiedShut h e index (record { copies = v.kept ++ f.more; end = end_after generation v.sure f.more })
  seal_tied g h e index v front length_at tied f begins script sealed = record {
    length_at = length_at;
    sealed = sealed;
    end = f.end;
    begins = subst (λ z. Begins z (h.script e)) (sym f.groups) (subst (λ z. Begins front z) (sym script) begins);
    chain = subst (λ z. Chain (base index) (v.kept ++ f.more) z) (sym f.end) f.chain;
    sized = f.sized;
  }

  -- ---- what stands in the script is a copy
  pub record StandsAt (e index o : ℕ) (group : Group) (copies : List (Copy Group)) : Type 0 where
    pub copy : Copy Group
    pub there : In copy copies
    pub from : copy.from ≡ base index + o
    pub to : copy.to ≡ base index + (o + size group)
    pub same : copy.group ≡ group

  copy_in : (us vs : List (Copy Group)) (c : Copy Group) → In c (us ++ c ∷ vs)
  copy_in [] vs c = inl refl
  copy_in (u ∷ us) vs c = inr (copy_in us vs c)

  pub stands_copy : (g : Ground) (e index o : ℕ) (group : Group) (v : OpenExtent Group) → TiedLive g e index v → Stands group o (g.script e) → StandsAt e index o group (v.kept ++ v.loose)
  stands_copy g e index o group v tied stands =
      let split : (us : List (Copy Group)) × (vs : List (Copy Group)) × (v.kept ++ v.loose ≡ us ++ vs) × (map group_of us ≡ stands.before) =
      map_split (v.kept ++ v.loose) stands.before (group ∷ stands.after) (tied.groups ∙ stands.split) in
      let all : map group_of split.0 ++ map group_of split.1 ≡ stands.before ++ group ∷ stands.after = sym (map_both split.0 split.1) ∙ ap (λ z. map group_of z) (sym split.2) ∙ tied.groups ∙ stands.split in
      let whole : Chain (base index) (split.0 ++ split.1) v.end = subst (λ z. Chain (base index) z v.end) split.2 (chain_both (base index) v.kept v.loose v.sure v.end tied.kept_chain tied.loose_chain) in
      let sized : Sized (split.0 ++ split.1) = subst Sized split.2 tied.sized in
      let tail : map group_of split.1 ≡ group ∷ stands.after = append_cancel_left stands.before (map group_of split.1) (group ∷ stands.after) (ap (λ z. z ++ map group_of split.1) (sym split.3) ∙ all) in
      go split.0 split.1 split.2 split.3 whole sized tail
    where
      go : (us vs : List (Copy Group)) → v.kept ++ v.loose ≡ us ++ vs → map group_of us ≡ stands.before → Chain (base index) (us ++ vs) v.end → Sized (us ++ vs) → map group_of vs ≡ group ∷ stands.after →
          StandsAt e index o group (v.kept ++ v.loose)
      go us [] is before chain sized tail = absurd (cc)
      go us (c ∷ vs) is before chain sized tail =
          let cut : (m : ℕ) × Chain (base index) us m × Chain m (c ∷ vs) v.end = chain_split (base index) us (c ∷ vs) v.end chain in
          let at : cut.0 ≡ base index + text_length (map group_of us) = chain_len (base index) us cut.0 cut.1 (sized_front us (c ∷ vs) sized) in
          let lens : text_length (map group_of us) ≡ o = ap text_length before ∙ stands.place in
          let from : c.from ≡ cut.0 = cut.2.0 in
          let same : c.group ≡ group = cc in
          let mine : c.to ≡ c.from + size c.group = sized_at us vs c sized in
          let sizes : size c.group ≡ size group = ap size same in
          record { copy = c; there = subst (In c) (sym is) (copy_in us vs c); from = omega arith; to = omega arith; same = same }
        where
          sized_at : (us vs : List (Copy Group)) (c : Copy Group) → Sized (us ++ c ∷ vs) → c.to ≡ c.from + size c.group
          sized_at [] vs c s = s.0
          sized_at (u ∷ us) vs c s = sized_at us vs c s.1
