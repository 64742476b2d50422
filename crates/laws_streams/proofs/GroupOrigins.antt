-- Each group of a script with its origin, in the order of the events, and each sealed length with its decision.
use Rattle.std.proofs.Common.{◌≡◌, ◌⊎◌, ℕ, zero, suc, ◌<◌, List, [], ◌∷◌, ◌++◌, Some, slice_get, sym, ◌∙◌, inl, inr, arith, subst}
use Rattle.wire.specs.declared.actor.ReqNo.{ReqNo}
use Rattle.wire.specs.declared.body.AppendBody.TheVariants.{Append}
use Rattle.wire.specs.declared.body.Body.TheVariants as bodies
use Rattle.replica.specs.Groups.{Group}
use Rattle.laws_streams.specs.Origins.{Origin}
use Rattle.laws_streams.proofs.Choices.{Each, each-append, each-weaker, each-get, EachPair, pairs-append}
use Rattle.laws_streams.proofs.Ground.{Ground}
use Rattle.laws_streams.proofs.RestsOnGround.{Moment, origin_of, Unmoved, Added}

-- R holds of the elements of two lists that are as long, one after the other
abbrev pub EachOf : {A B : Type 0} → (A → B → Type 0) → List A → List B → Type 0
EachOf R [] [] = Unit {0}
EachOf R (x ∷ xs) (y ∷ ys) = R x y × EachOf R xs ys
EachOf R _ _ = ⊥

each_of-push : {A B : Type 0} (R : A → B → Type 0) (xs : List A) (ys : List B) (x : A) (y : B) → EachOf R xs ys → R x y → EachOf R (xs ++ x ∷ []) (ys ++ y ∷ [])
each_of-push R [] [] x y a r = (r, tt)
each_of-push R (z ∷ zs) (v ∷ vs) x y a r = (a.0, each_of-push R zs vs x y a.1 r)
each_of-push R [] (v ∷ vs) x y a r = absurd a
each_of-push R (z ∷ zs) [] x y a r = absurd a

pub each_of-get : {A B : Type 0} (R : A → B → Type 0) (xs : List A) (ys : List B) (i : ℕ) (x : A) (y : B) → EachOf R xs ys →
    slice_get xs i ≡ Some x → slice_get ys i ≡ Some y → R x y
each_of-get R [] ys i x y a p q = absurd cc
each_of-get R (z ∷ zs) [] i x y a p q = absurd cc
each_of-get R (z ∷ zs) (v ∷ vs) zero x y a p q =
    let s : z ≡ x = cc in
    let t : v ≡ y = cc in
    subst (λ b. R x b) t (subst (λ b. R b v) s a.0)
each_of-get R (z ∷ zs) (v ∷ vs) (suc i) x y a p q = each_of-get R zs vs i x y a.1 p q

pub pair-get : {A : Type 0} (R : A → A → Type 0) (xs : List A) (i j : ℕ) (x y : A) → EachPair R xs → i < j →
    slice_get xs i ≡ Some x → slice_get xs j ≡ Some y → R x y
pair-get R [] i j x y a l p q = absurd cc
pair-get R (z ∷ zs) zero zero x y a l p q = absurd (omega arith)
pair-get R (z ∷ zs) zero (suc j) x y a l p q = let s : z ≡ x = cc in subst (λ b. R b y) s (each-get (R z) zs j y a.0 q)
pair-get R (z ∷ zs) (suc i) zero x y a l p q = absurd (omega arith)
pair-get R (z ∷ zs) (suc i) (suc j) x y a l p q = pair-get R zs i j x y a.1 (omega arith) p q

-- C holds of each group of each extent with its origin, all from before the event of this number, and D of each extent
-- that is sealed with its length
pub record Dated (C : ℕ → Group → Origin → Type 0) (D : ℕ → ℕ → Type 0) (k : ℕ) (g : Ground) : Type 0 where
  pub came : (e : ℕ) → EachOf (C e) (g.script e) (g.origin e)
  pub earlier : (e : ℕ) → Each (λ o. o.event < k) (g.origin e)
  pub in_order : (e : ℕ) → EachPair (λ o p. o.event < p.event) (g.origin e)
  pub decided : (e l : ℕ) → g.sealed e ≡ Some l → D e l

-- what comes of one event, for one extent
record DatedAt (C : ℕ → Group → Origin → Type 0) (k e : ℕ) (script : List Group) (origin : List Origin) : Type 0 where
  came : EachOf (C e) script origin
  earlier : Each (λ o. o.event < k) origin
  in_order : EachPair (λ o p. o.event < p.event) origin

-- whatever append comes now has this property
abbrev pub Comes : (ℕ → Group → Origin → Type 0) → Moment → Type 0
Comes C now = (e generation : ℕ) (group : Group) (request : ReqNo) →
    now.packet.body ≡ bodies.Append (Append e generation group request) → C e group (origin_of now generation request)

-- what is sealed was sealed before, or is one of these news
abbrev pub Sealings : (ℕ → ℕ → Type 0) → Ground → Ground → Type 0
Sealings News g h = (e l : ℕ) → h.sealed e ≡ Some l → (g.sealed e ≡ Some l) ⊎ News e l

module _ (C : ℕ → Group → Origin → Type 0) (D : ℕ → ℕ → Type 0) where
  kept_at : (k : ℕ) (g h : Ground) (e : ℕ) → Dated C D k g → Unmoved g h e → DatedAt C (suc k) e (h.script e) (h.origin e)
  kept_at k g h e d same = rw (same.0, same.1) (record {
    came = d.came e;
    earlier = each-weaker (λ o. o.event < k) (λ o. o.event < suc k) (λ o l. omega (arith, l)) (g.origin e) (d.earlier e);
    in_order = d.in_order e;
  })

  added_at : (now : Moment) (g h : Ground) (e : ℕ) → Dated C D now.number g → Comes C now → Added now g h e → DatedAt C (suc now.number) e (h.script e) (h.origin e)
  added_at now g h e d comes a =
      let new = origin_of now a.generation a.request in
      rw (a.script, a.origin) (record {
        came = each_of-push (C e) (g.script e) (g.origin e) a.group (origin_of now a.generation a.request) (d.came e) (comes e a.generation a.group a.request a.body);
        earlier = each-append (λ o. o.event < suc now.number) (g.origin e) (origin_of now a.generation a.request ∷ [])
            (each-weaker (λ o. o.event < now.number) (λ o. o.event < suc now.number) (λ o l. omega (arith, l)) (g.origin e) (d.earlier e)) (omega arith, tt);
        in_order = pairs-append (λ o p. o.event < p.event) (g.origin e) (origin_of now a.generation a.request ∷ []) (d.in_order e) (tt, tt)
            (each-weaker (λ o. o.event < now.number) (λ o. Each (λ p. o.event < p.event) (origin_of now a.generation a.request ∷ [])) (λ o l. (l, tt)) (g.origin e) (d.earlier e));
      })

  all_at : (k : ℕ) (g h : Ground) → Dated C D k g → Sealings D g h → ((e : ℕ) → DatedAt C (suc k) e (h.script e) (h.origin e)) → Dated C D (suc k) h
  all_at k g h d sealings each = record {
    came = λ e. (each e).came;
    earlier = λ e. (each e).earlier;
    in_order = λ e. (each e).in_order;
    decided = λ e l is. elim (sealings e l is) [ inl old ↦ d.decided e l old | inr new ↦ new ];
  }

  pub unmoved_dated : (k : ℕ) (g h : Ground) → Dated C D k g → ((e : ℕ) → Unmoved g h e) → Sealings D g h → Dated C D (suc k) h
  unmoved_dated k g h d same sealings = all_at k g h d sealings (λ e. kept_at k g h e d (same e))

  pub grown_dated : (now : Moment) (g h : Ground) → Dated C D now.number g → Comes C now → ((e : ℕ) → Unmoved g h e ⊎ Added now g h e) →
      ((e : ℕ) → h.sealed e ≡ g.sealed e) → Dated C D (suc now.number) h
  grown_dated now g h d comes grown sealed = all_at now.number g h d (λ e l is. inl (sym (sealed e) ∙ is))
      (λ e. elim (grown e) [ inl s ↦ kept_at now.number g h e d s | inr a ↦ added_at now g h e d comes a ])
