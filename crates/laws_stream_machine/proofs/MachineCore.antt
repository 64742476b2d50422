-- What stands of a stream in the stream system, as the core of its machine; and what it becomes when more is known of its extents.
use Rattle.std.proofs.Common.{◌≡◌, ◌≢◌, ◌⊎◌, ℕ, zero, suc, ◌+◌, ◌-◌, ◌<◌, ◌≤◌, List, [], ◌∷◌, ◌++◌, length, map, Option, Some, None, slice_get, refl, sym, ap, ◌∙◌, subst, inl, inr, arith, append_assoc, length-append, ◌==◌}
use Rattle.std.proofs.lemmas.List.{append_cancel_left}
use Rattle.std.proofs.lemmas.Bool.Decides.{nat_tests}
use Rattle.std.proofs.lemmas.Option.{slice_get_within}
use Rattle.std.proofs.lemmas.Bool.{eqb-true, eqb-false}
use Rattle.block_types.specs.declared.record.Nodes.{Nodes}
use Rattle.wire.specs.declared.actor.ReqNo.{ReqNo}
use Rattle.wire.specs.declared.body.AppendBody.TheVariants.{Append}
use Rattle.wire.specs.declared.body.Body.TheVariants as bodies
use Rattle.replica.specs.Groups.{Group, size}
use Rattle.streams.specs.Streams.{Stream, whole}
use Rattle.model_streams.specs.Actors.{generation_of}
use Rattle.model_streams.proofs.Tests.{if_elim}
use Rattle.laws_streams.specs.Origins.{Origin, Begins}
use Rattle.laws_streams.proofs.Choices.{Each}
use Rattle.laws_streams.proofs.Lists.{begins_trans, get_left, get_next, NoneEmpty}
use Rattle.laws_streams.proofs.Ground.{Ground, Sound, EndsAt}
use Rattle.laws_streams.proofs.MoreKnown.{Later}
use Rattle.laws_streams.proofs.RestsOnGround.{Moment, Unmoved, Added, origin_of}
use Rattle.laws_streams.proofs.LastingLengths.{place_had}
use Rattle.model_histories.specs.Story.{Copy}
use Rattle.model_histories.specs.StreamMachine.{In, SealedExtent, OpenExtent, base, count, one_if_live, shut_at, Chain, Opened, Checked, AsksAppend, MachineState, TakesAppend, Seals, new_copy, next}
use Rattle.laws_stream_machine.specs.Refinement.{Purpose, Sent, purpose_of, Appends, extents_of}
use Rattle.laws_stream_machine.proofs.ExtentSteps.{Sized, group_of, floor_of, TiedLive, TiedShut, floor_low, floor_rises, append_tied, seal_tied, find_front, end_after, live_fits, FoundFront, chain_le}
use Rattle.laws_stream_machine.proofs.StepSequences.{Walk, stand, walk_on, steps_to, with_lived, keep_all}

-- the extent of an index in the list of a stream
abbrev pub IsIn : Option Stream → ℕ → ℕ → Type 0
IsIn o index e = slice_get (extents_of o) index ≡ Some e

-- where the number of its request is one of this stream's, a copy is of the append that the number is for
abbrev pub Sourced : Ground → List Sent → ℕ → ℕ → List (Copy Group) → Type 0
Sourced g sent e index copies = (k : ℕ) (c : Copy Group) (from : Origin) → slice_get copies k ≡ Some c → slice_get (g.origin e) k ≡ Some from →
    (p : Purpose) → purpose_of sent from.request ≡ Some p → (i : ℕ) × (p ≡ Appends i index c.append c.group)

pub record ShutThere (g : Ground) (sent : List Sent) (s : MachineState Group) (e index : ℕ) : Type 0 where
  pub shut : SealedExtent Group
  pub is : shut_at index s.core.shut ≡ Some shut
  pub tied : TiedShut g e index shut
  pub sources : Sourced g sent e index shut.copies

pub record LiveThere (o : Option Stream) (g : Ground) (sent : List Sent) (s : MachineState Group) (v : OpenExtent Group) : Type 0 where
  pub extent : ℕ
  pub at : IsIn o (length s.core.shut) extent
  pub tied : TiedLive g extent (length s.core.shut) v
  pub sources : Sourced g sent extent (length s.core.shut) (v.kept ++ v.loose)

-- what a check found begins the script of the extent
pub record StoodThere (o : Option Stream) (g : Ground) (index : ℕ) (stood : List (Copy Group)) (end : ℕ) : Type 0 where
  pub extent : ℕ
  pub at : IsIn o index extent
  pub begins : Begins (map group_of stood) (g.script extent)
  pub chain : Chain (base index) stood end
  pub sized : Sized stood

-- no generation has opened the stream
abbrev pub NeverOpened : MachineState Group → Type 0
NeverOpened s = (i n : ℕ) → In (Opened i n) s.facts → ⊥

-- the manager's fence; a stream that nobody has opened may be made with any
abbrev pub FencedBy : MachineState Group → Option Stream → Type 0
FencedBy s None = (s.core.fence ≡ 0) × NeverOpened s
FencedBy s (Some x) = (s.core.fence ≡ x.fence) ⊎ ((s.core.fence ≡ 0) × NeverOpened s)

-- all but the last extent while it is not sealed
pub record Settled (o : Option Stream) (g : Ground) (s : MachineState Group) (sent : List Sent) : Type 0 where
  pub fence : FencedBy s o
  pub counts : length (extents_of o) ≡ count s.core
  pub born : (index e : ℕ) → IsIn o index e → 1 ≤ g.born e
  pub made : (index e : ℕ) → IsIn o index e → (at : Nodes) × (g.places e ≡ Some at)
  pub shut : (index e : ℕ) → IsIn o index e → index < length s.core.shut → ShutThere g sent s e index
  pub checked : (i index : ℕ) (stood : List (Copy Group)) (end : ℕ) → In (Checked i index stood end) s.facts → StoodThere o g index stood end

-- the stream is the core of the machine
pub record Shaped (o : Option Stream) (g : Ground) (s : MachineState Group) (sent : List Sent) : Type 0 where
  pub settled : Settled o g s sent
  pub live : (v : OpenExtent Group) → s.core.live ≡ Some v → LiveThere o g sent s v

-- a stream with the same list and the same fence
pub same_shape : (x y : Stream) (g : Ground) (s : MachineState Group) (sent : List Sent) → whole y ≡ whole x → y.fence ≡ x.fence → Shaped (Some x) g s sent → Shaped (Some y) g s sent
same_shape x y g s sent list fence a = record {
  settled = record {
    fence = elim a.settled.fence [ inl f ↦ inl (f ∙ sym fence) | inr f ↦ inr f ];
    counts = ap (λ (es : List ℕ). length es) list ∙ a.settled.counts;
    born = λ index e at. a.settled.born index e (was index e at);
    made = λ index e at. a.settled.made index e (was index e at);
    shut = λ index e at l. let b = a.settled.shut index e (was index e at) l in record { shut = b.shut; is = b.is; tied = b.tied; sources = b.sources };
    checked = λ i index stood end m. let c = a.settled.checked i index stood end m in record { extent = c.extent; at = now index c.extent c.at; begins = c.begins; chain = c.chain; sized = c.sized };
  };
  live = λ v is. let b = a.live v is in record { extent = b.extent; at = now (length s.core.shut) b.extent b.at; tied = b.tied; sources = b.sources };
}
  where
    was : (index e : ℕ) → slice_get (whole y) index ≡ Some e → slice_get (whole x) index ≡ Some e
    was index e at = subst (λ xs. slice_get xs index ≡ Some e) list at

    now : (index e : ℕ) → slice_get (whole x) index ≡ Some e → slice_get (whole y) index ≡ Some e
    now index e at = subst (λ xs. slice_get xs index ≡ Some e) (sym list) at

-- ---- lists

pub length_map : (xs : List (Copy Group)) → length (map group_of xs) ≡ length xs
length_map [] = refl
length_map (x ∷ xs) = ap suc (length_map xs)

pub get_same : {A : Type 0} (xs ys : List A) (k : ℕ) → k < length xs → slice_get (xs ++ ys) k ≡ slice_get xs k
get_same [] ys k l = absurd (omega (arith, l))
get_same (x ∷ xs) ys zero l = refl
get_same (x ∷ xs) ys (suc k) l = get_same xs ys k (omega (arith, l))

pub get_front : {A : Type 0} (xs ys : List A) (k : ℕ) (x : A) → k < length xs → slice_get (xs ++ ys) k ≡ Some x → slice_get xs k ≡ Some x
get_front xs ys k x l is = sym (get_same xs ys k l) ∙ is

pub same_got : {A : Type 0} (xs : List A) (k : ℕ) (x y : A) → slice_get xs k ≡ Some x → slice_get xs k ≡ Some y → x ≡ y
same_got xs k x y a b = let c : Some x ≡ Some y = sym a ∙ b in cc

begins_count : {xs ys : List Group} → Begins xs ys → length xs ≤ length ys
begins_count {xs} {ys} b = omega (arith, ap (λ (zs : List Group). length zs) b.is, length-append xs b.rest)

each_last : {A : Type 0} (P : A → Type 0) (xs : List A) (x : A) → Each P (xs ++ x ∷ []) → P x
each_last P [] x a = a.0
each_last P (y ∷ xs) x a = each_last P xs x a.1

none_empty_last : (xs : List Group) (x : Group) → NoneEmpty (xs ++ x ∷ []) → 0 < size x
none_empty_last [] x a = a.0
none_empty_last (y ∷ xs) x a = none_empty_last xs x a.1

pub pushed_get : {A : Type 0} (xs : List A) (y : A) (k : ℕ) (x : A) → slice_get (xs ++ y ∷ []) k ≡ Some x → (slice_get xs k ≡ Some x) ⊎ ((k ≡ length xs) × (x ≡ y))
pushed_get [] y zero x is = inr (refl, (let c : y ≡ x = cc in sym c))
pushed_get [] y (suc k) x is = absurd cc
pushed_get (z ∷ xs) y zero x is = inl is
pushed_get (z ∷ xs) y (suc k) x is = elim (pushed_get xs y k x is) [ inl a ↦ inl a | inr a ↦ inr (ap suc a.0, a.1) ]

different : (i n : ℕ) → i ≢ n → i < suc n → i < n
different i n other l = grind (arith, nat_tests)

-- ---- more is known

pub shut_later : (g h : Ground) → Later g h → (e index : ℕ) (x : SealedExtent Group) → TiedShut g e index x → TiedShut h e index x
shut_later g h later e index x tied = record {
  length_at = tied.length_at;
  sealed = later.sealed e tied.length_at tied.sealed;
  end = tied.end;
  begins = begins_trans tied.begins (later.script e);
  chain = tied.chain;
  sized = tied.sized;
}

-- where the extent is made its places are known already
pub places_back : (g h : Ground) → Later g h → (e : ℕ) → (made : (at : Nodes) × (g.places e ≡ Some at)) → (at : Nodes) → h.places e ≡ Some at → g.places e ≡ Some at
places_back g h later e (was, is) at now = let c : Some was ≡ Some at = sym (later.places e was is) ∙ now in is ∙ c

born_later : (g h : Ground) → Later g h → (e : ℕ) → (at : Nodes) × (g.places e ≡ Some at) → h.born e ≡ g.born e
born_later g h later e (at, is) = later.born e at is

pub floor_later : (g h : Ground) → Later g h → (e : ℕ) → (at : Nodes) × (g.places e ≡ Some at) → floor_of g e ≤ floor_of h e
floor_later g h later e made = let b = born_later g h later e made in floor_rises g h e (later.fence e) (omega (arith, b))

pub live_later : (g h : Ground) → Later g h → (e index : ℕ) (v : OpenExtent Group) → (at : Nodes) × (g.places e ≡ Some at) → h.script e ≡ g.script e → h.sealed e ≡ None →
    TiedLive g e index v → TiedLive h e index v
live_later g h later e index v made script sealed tied = record {
  groups = tied.groups ∙ sym script;
  kept_chain = tied.kept_chain;
  loose_chain = tied.loose_chain;
  sized = tied.sized;
  fence = let m = floor_later g h later e made in omega (arith, tied.fence, m);
  unsealed = sealed;
  had = λ at is.
      let b = tied.had at (places_back g h later e made at is) in (
        omega (arith, b.0, later.last at.primary e),
        omega (arith, b.1, later.last at.second e),
        omega (arith, b.2, later.last at.third e),
      );
}

-- there are no more copies than origins
pub sourced_later : (g h : Ground) → Later g h → (sent : List Sent) (e index : ℕ) (copies : List (Copy Group)) → length copies ≤ length (g.origin e) →
    Sourced g sent e index copies → Sourced h sent e index copies
sourced_later g h later sent e index copies fits old k c from is at =
    let (news, origins, newer) = later.origin e in
    let within = slice_get_within copies k c is in
    old k c from is (get_front (g.origin e) news k from (omega (arith, fits, within)) (subst (λ z. slice_get z k ≡ Some from) origins at))

pub shut_fits : (g : Ground) → Sound g → (e index : ℕ) (x : SealedExtent Group) → TiedShut g e index x → length x.copies ≤ length (g.origin e)
shut_fits g sound e index x tied =
    let m = begins_count tied.begins in
    omega (arith, m, length_map x.copies, sound.aged e)

pub live_count_is : (g : Ground) → Sound g → (e index : ℕ) (v : OpenExtent Group) → TiedLive g e index v → length (v.kept ++ v.loose) ≡ length (g.origin e)
live_count_is g sound e index v tied =
    omega (arith, ap (λ (zs : List Group). length zs) tied.groups, length_map (v.kept ++ v.loose), sound.aged e)

-- one more copy, for one more origin
grown_sources : (g h : Ground) (sent : List Sent) (e index : ℕ) (copies : List (Copy Group)) (new : Copy Group) (from : Origin) → length copies ≡ length (g.origin e) →
    Sourced g sent e index copies → h.origin e ≡ g.origin e ++ from ∷ [] → ((p : Purpose) → purpose_of sent from.request ≡ Some p → (i : ℕ) × (p ≡ Appends i index new.append new.group)) →
    Sourced h sent e index (copies ++ new ∷ [])
grown_sources g h sent e index copies new from count old origins mine k c origin is at p for =
    let there : slice_get (g.origin e ++ from ∷ []) k ≡ Some origin = subst (λ z. slice_get z k ≡ Some origin) origins at in
    elim (pushed_get copies new k c is) [
      | inl m ↦ let within = slice_get_within copies k c m in old k c origin m (get_front (g.origin e) (from ∷ []) k origin (omega (arith, count, within)) there) p for
      | inr m ↦
          let last : slice_get (g.origin e ++ from ∷ []) (length (g.origin e)) ≡ Some origin = subst (λ z. slice_get (g.origin e ++ from ∷ []) z ≡ Some origin) (m.0 ∙ count) there in
          let same : from ≡ origin = same_got (g.origin e ++ from ∷ []) (length (g.origin e)) from origin (get_next (g.origin e) [] from) last in
          subst (λ (z : Copy Group). (i : ℕ) × (p ≡ Appends i index z.append z.group)) (sym m.1) (mine p (subst (λ (z : Origin). purpose_of sent z.request ≡ Some p) (sym same) for))
    ]

module _ (o : Option Stream) (g h : Ground) (later : Later g h) (sound : Sound g) (sent : List Sent) (s : MachineState Group) where
  shut_there_later : (e index : ℕ) → ShutThere g sent s e index → ShutThere h sent s e index
  shut_there_later e index a = record {
    shut = a.shut;
    is = a.is;
    tied = shut_later g h later e index a.shut a.tied;
    sources = sourced_later g h later sent e index a.shut.copies (shut_fits g sound e index a.shut a.tied) a.sources;
  }

  pub settled_later : Settled o g s sent → Settled o h s sent
  settled_later a = record {
    fence = a.fence;
    counts = a.counts;
    born = λ index e at. let b = born_later g h later e (a.made index e at) in omega (arith, b, a.born index e at);
    made = λ index e at. let m = a.made index e at in (m.0, later.places e m.0 m.1);
    shut = λ index e at l. shut_there_later e index (a.shut index e at l);
    checked = λ i index stood end m.
        let c = a.checked i index stood end m in
        record { extent = c.extent; at = c.at; begins = begins_trans c.begins (later.script c.extent); chain = c.chain; sized = c.sized };
  }

-- the same with another last extent
pub settled_lived : (generation : ℕ → ℕ) (o : Option Stream) (g : Ground) (sent : List Sent) (s : MachineState Group) (v w : OpenExtent Group) → s.core.live ≡ Some v → Settled o g s sent →
    Settled o g (with_lived generation s w) sent
settled_lived generation o g sent s v w live a = record {
  fence = by_fence o a.fence;
  counts = let c = ap one_if_live live in omega (arith, a.counts, c);
  born = a.born;
  made = a.made;
  shut = λ index e at l. let b = a.shut index e at l in record { shut = b.shut; is = b.is; tied = b.tied; sources = b.sources };
  checked = a.checked;
}
  where
    by_fence : (o : Option Stream) → FencedBy s o → FencedBy (with_lived generation s w) o
    by_fence None f = f
    by_fence (Some x) f = f

-- ---- the last extent is sealed

module _ (generation : ℕ → ℕ) (o : Option Stream) (g h : Ground) (later : Later g h) (sound : Sound g) (after : Sound h) (sent : List Sent) (s : MachineState Group) (a : Settled o g s sent)
    (v : OpenExtent Group) (live : s.core.live ≡ Some v) (b : LiveThere o g sent s v) where
  abbrev index : ℕ
  index = length s.core.shut

  abbrev extent : ℕ
  extent = b.extent

  abbrev sealed_state : MachineState Group → OpenExtent Group → MachineState Group
  sealed_state t w = next Group generation t (Seals w)

  module _ (unmoved : Unmoved g h extent) (l : ℕ) (sealed : h.sealed extent ≡ Some l) where
    sure_within : (n : ℕ) → (at : Nodes) → h.places extent ≡ Some at → (p : (v.sure - base index ≤ h.last n extent)) → h.last n extent ≡ l → v.sure ≤ base index + l
    sure_within n at made p is = let le = chain_le (base index) v.kept v.sure b.tied.kept_chain in omega (arith, p, is, le)

    all_had : (at : Nodes) → h.places extent ≡ Some at →
        (v.sure - base index ≤ h.last at.primary extent) × (v.sure - base index ≤ h.last at.second extent) × (v.sure - base index ≤ h.last at.third extent)
    all_had at made =
        let m = b.tied.had at (places_back g h later extent (a.made index extent b.at) at made) in (
          omega (arith, m.0, later.last at.primary extent),
          omega (arith, m.1, later.last at.second extent),
          omega (arith, m.2, later.last at.third extent),
        )

    fence_kept : (t : MachineState Group) → t.core.fence ≡ s.core.fence → t.facts ≡ s.facts → (o : Option Stream) → FencedBy s o → FencedBy t o
    fence_kept t fence facts None f = (fence ∙ f.0, λ i n m. f.1 i n (subst (In (Opened i n)) facts m))
    fence_kept t fence facts (Some x) (inl f) = inl (fence ∙ f)
    fence_kept t fence facts (Some x) (inr f) = inr (fence ∙ f.0, λ i n m. f.1 i n (subst (In (Opened i n)) facts m))

    -- with one more sealed extent
    sealed_shape : (x : SealedExtent Group) → TiedShut h extent index x → Sourced h sent extent index x.copies →
        Shaped o h (record s { core = record s.core { shut = x ∷ s.core.shut; live = None } }) sent
    sealed_shape x tied sources =
        let k = settled_later o g h later sound sent s a in
        let t : MachineState Group = record s { core = record s.core { shut = x ∷ s.core.shut; live = None } } in
        record {
          settled = record {
            fence = fence_kept t refl refl o a.fence;
            counts = let c = ap one_if_live live in omega (arith, a.counts, c);
            born = k.born;
            made = k.made;
            shut = λ i e at lt.
                let r : (z : SealedExtent Group) × (shut_at i (x ∷ s.core.shut) ≡ Some z) × TiedShut h e i z × Sourced h sent e i z.copies =
                if_elim (λ (y : Option (SealedExtent Group)). ((z : SealedExtent Group) × (y ≡ Some z) × TiedShut h e i z × Sourced h sent e i z.copies)) (i == index) (Some x) (shut_at i s.core.shut)
                (λ q.
                let same : i ≡ index = eqb-true i index q in
                let which : extent ≡ e = same_got (extents_of o) i extent e (subst (λ z. slice_get (extents_of o) z ≡ Some extent) (sym same) b.at) at in (
                  x,
                  refl,
                  subst (λ z. TiedShut h e z x) (sym same) (subst (λ z. TiedShut h z index x) which tied),
                  subst (λ z. Sourced h sent e z x.copies) (sym same) (subst (λ z. Sourced h sent z index x.copies) which sources),
                ))
                (λ q.
                let other = eqb-false i index q in
                let below : i < index = different i index other lt in
                let old = k.shut i e at below in
                (old.shut, old.is, old.tied, old.sources)) in
                record { shut = r.0; is = r.1; tied = r.2; sources = r.3 };
            checked = k.checked;
          };
          live = λ w is. absurd cc;
        }

    pub seal_walk : Walk generation s (λ t. Shaped o h t sent)
    seal_walk =
        let (at, n, made, place, closed, last) = after.noted extent l sealed in
        let whole : EndsAt (g.script extent) l = subst (λ z. EndsAt (g.script extent) z) last (subst (λ z. EndsAt z (h.last n extent)) unmoved.0 (after.whole n extent)) in
        let had = place_had h extent (v.sure - base index) (λ at made. all_had at made) n at made place in
        let f : FoundFront generation g extent index v whole.front l =
        find_front generation g extent index v whole.front l b.tied whole.begins whole.ends (sure_within n at made had last) in
        let w : OpenExtent Group = record v { kept = v.kept ++ f.more; sure = end_after generation v.sure f.more; loose = f.rest } in
        let x : SealedExtent Group = record { copies = w.kept; end = w.sure } in
        let tied : TiedShut h extent index x = seal_tied generation g h extent index v whole.front l b.tied f whole.begins unmoved.0 sealed in
        let all : v.kept ++ v.loose ≡ w.kept ++ f.rest = ap (λ z. v.kept ++ z) f.loose ∙ sym (append_assoc v.kept f.more f.rest) in
        let sources : Sourced h sent extent index x.copies =
        λ k c from is there p for. b.sources k c from (subst (λ z. slice_get z k ≡ Some c) (sym all) (get_left w.kept f.rest k c is)) (subst (λ z. slice_get z k ≡ Some from) unmoved.1 there) p for in
        walk_on generation s (λ t. t ≡ with_lived generation s w) _ (keep_all generation f.more f.rest s v live f.loose)
        (λ t on is.
        steps_to generation t (λ u. Shaped o h u sent) (Seals w) refl (ap (λ (z : MachineState Group). z.core.live) is)
        (subst (λ z. Shaped o h (sealed_state z w) sent) (sym is) (sealed_shape x tied sources)))

-- ---- an append at the primary of the last extent

-- the append was asked for by an incarnation of this generation
pub record AppendFor (generation : ℕ → ℕ) (sent : List Sent) (s : MachineState Group) (index counted : ℕ) (request : ReqNo) (group : Group) : Type 0 where
  pub i : ℕ
  pub append : ℕ
  pub for : purpose_of sent request ≡ Some (Appends i index append group)
  pub under : generation i ≡ counted
  pub fact : In (AsksAppend i index append group) s.facts

module _ (generation : ℕ → ℕ) (o : Option Stream) (g h : Ground) (later : Later g h) (sound : Sound g) (after : Sound h) (sent : List Sent) (s : MachineState Group) (now : Moment)
    (a : Settled o g s sent) where
  pub append_walk : (v : OpenExtent Group) → s.core.live ≡ Some v → (b : LiveThere o g sent s v) → (added : Added now g h b.extent) → h.sealed b.extent ≡ None →
      (1 ≤ generation_of now.packet.from added.generation →
      AppendFor generation sent s (length s.core.shut) (generation_of now.packet.from added.generation) added.request added.group) → Walk generation s (λ t. Shaped o h t sent)
  append_walk v live b added unsealed asked =
      let e = b.extent in
      let index = length s.core.shut in
      let made = a.made index e b.at in
      let from : Origin = origin_of now added.generation added.request in
      let (news, origins, newer) = later.origin e in
      let only : news ≡ from ∷ [] = append_cancel_left (g.origin e) news (from ∷ []) (sym origins ∙ added.origin) in
      let fenced : g.fence e ≤ from.generation = (subst (Each (λ x. g.fence e ≤ x.generation)) only newer).0 in
      let older : h.born e ≤ from.generation = each_last (λ x. h.born e ≤ x.generation) (g.origin e) from (subst (Each (λ x. h.born e ≤ x.generation)) added.origin (after.born e)) in
      let same = born_later g h later e made in
      let first = a.born index e b.at in
      let f = asked (omega (arith, first, same, older)) in
      let to : ℕ = v.end + size added.group in
      let filled : 0 < size added.group = none_empty_last (g.script e) added.group (subst NoneEmpty added.script (after.none_empty e)) in
      let floor = floor_low g e from.generation fenced (omega (arith, same, older)) in
      let under : generation f.i ≡ from.generation = f.under in
      let (grown, tied) = append_tied generation g h e index f.append to added.group v b.tied later added.script (floor_later g h later e made)
      (unsealed ∙ sym b.tied.unsealed) (places_back g h later e made) filled refl in
      let new : Copy Group = new_copy Group generation v to f.append added.group in
      let w : OpenExtent Group = record v { loose = v.loose ++ new ∷ []; end = to } in
      steps_to generation s (λ t. Shaped o h t sent) (TakesAppend f.i f.append added.group to v) refl
      (f.fact, live, omega (arith, b.tied.fence, floor, under), grown, live_fits h after e index w tied)
      (record {
        settled = settled_lived generation o h sent s v w live (settled_later o g h later sound sent s a);
        live = λ u is.
            let c : w ≡ u = cc in
            subst (λ z. LiveThere o h sent (with_lived generation s w) z) c
            (record {
              extent = e;
              at = b.at;
              tied = tied;
              sources = subst (Sourced h sent e index) (append_assoc v.kept v.loose (new ∷ []))
                  (grown_sources g h sent e index (v.kept ++ v.loose) new from (live_count_is g sound e index v b.tied) b.sources added.origin
                  (λ p for. (f.i, (let c : Some p ≡ Some (Appends f.i index f.append added.group) = sym for ∙ f.for in cc))));
            });
      })

  -- ---- whatever a rule leaves

  pub ground_walk : ((k : ℕ) → Unmoved g h k ⊎ Added now g h k) → ((k : ℕ) → Added now g h k → h.sealed k ≡ g.sealed k) →
      ((k : ℕ) → IsIn o (length s.core.shut) k → g.sealed k ≡ None → (counted : ℕ) (request : ReqNo) (group : Group) → now.packet.body ≡ bodies.Append (Append k counted group request) →
      1 ≤ generation_of now.packet.from counted → AppendFor generation sent s (length s.core.shut) (generation_of now.packet.from counted) request group) →
      ((v : OpenExtent Group) → s.core.live ≡ Some v → LiveThere o g sent s v) → Walk generation s (λ t. Shaped o h t sent)
  ground_walk grown same asked live = by_live s.core.live refl
    where
      by_sealed : (v : OpenExtent Group) → s.core.live ≡ Some v → (b : LiveThere o g sent s v) → Unmoved g h b.extent → (l : Option ℕ) → h.sealed b.extent ≡ l →
          Walk generation s (λ t. Shaped o h t sent)
      by_sealed v is b unmoved (Some l) sealed = seal_walk generation o g h later sound after sent s a v is b unmoved l sealed
      by_sealed v is b unmoved None unsealed =
          let e = b.extent in
          let tied = live_later g h later e (length s.core.shut) v (a.made (length s.core.shut) e b.at) unmoved.0 unsealed b.tied in
          let count = live_count_is g sound e (length s.core.shut) v b.tied in
          stand generation s _ (record {
            settled = settled_later o g h later sound sent s a;
            live = λ w lives.
                let c : v ≡ w = (let d : Some v ≡ Some w = sym is ∙ lives in cc) in
                subst (LiveThere o h sent s) c (record {
                  extent = e;
                  at = b.at;
                  tied = tied;
                  sources = sourced_later g h later sent e (length s.core.shut) (v.kept ++ v.loose) (omega (arith, count)) b.sources;
                });
          })

      by_grown : (v : OpenExtent Group) → s.core.live ≡ Some v → (b : LiveThere o g sent s v) → Unmoved g h b.extent ⊎ Added now g h b.extent → Walk generation s (λ t. Shaped o h t sent)
      by_grown v is b (inl unmoved) = by_sealed v is b unmoved (h.sealed b.extent) refl
      by_grown v is b (inr added) =
          append_walk v is b added (same b.extent added ∙ b.tied.unsealed)
          (λ some. asked b.extent b.at b.tied.unsealed added.generation added.request added.group added.body some)

      by_live : (l : Option (OpenExtent Group)) → s.core.live ≡ l → Walk generation s (λ t. Shaped o h t sent)
      by_live None none = stand generation s _ (record { settled = settled_later o g h later sound sent s a; live = λ v is. absurd (let c : None ≡ Some v = sym none ∙ is in cc) })
      by_live (Some v) is = let b = live v is in by_grown v is b (grown b.extent)
