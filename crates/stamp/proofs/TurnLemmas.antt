-- What turns come to, one after another.
use Rattle.std.proofs.Common.{◌≡◌, ◌+◌, ◌≤◌, ℕ, zero, suc, List, [], ◌++◌, refl, sym, ap, subst, ◌∙◌, inl, inr, arith, append-nil, append_assoc}
use Rattle.stamp_traces.specs.Passes.{IsPrefixOf, PassLooks, events_of_pass}
use Rattle.stamp_run.specs.Passes.{Delivers, Sight}
use Rattle.stamp.specs.Turns.{Works, WorksFor}

-- ---- looks, one after another

prefix_trans : {X : Type 0} (xs ys zs : List X) → IsPrefixOf xs ys → IsPrefixOf ys zs → IsPrefixOf xs zs
prefix_trans xs ys zs a b = (a.0 ++ b.0, b.1 ∙ (ap (λ l. l ++ b.0) a.1 ∙ append_assoc xs a.0 b.0))

pub looks-same : (v : Sight) → PassLooks v v
looks-same v = record { number = refl; begins = ([], sym (append-nil v.seen)); own = refl }

looks_trans : (u v w : Sight) → PassLooks u v → PassLooks v w → PassLooks u w
looks_trans u v w a b = record {
  number = b.number ∙ a.number;
  begins = prefix_trans u.seen v.seen w.seen a.begins b.begins;
  own = subst (λ (n : ℕ). events_of_pass n w.seen ≡ events_of_pass n v.seen) a.number b.own ∙ a.own;
}

-- ---- turns

works_look : (n : ℕ) (u v w : Sight) → Works n u v → PassLooks v w → Works n u w
works_look zero u v w works looks = looks_trans u v w works looks
works_look (suc n) u v w works looks = record {
  before = works.before;
  works = works.works;
  after = works.after;
  number = works.number;
  puts = works.puts;
  looks = looks_trans works.after v w works.looks looks;
}

pub works-none : (v : Sight) → WorksFor 0 0 v v
works-none v = record { delivered = 0; works = looks-same v; within = omega arith }

-- one turn more, by which a packet was delivered, or was not there
pub works_more : (n lost k : ℕ) (u v w : Sight) → WorksFor n lost u v → Delivers k v w → WorksFor (n + 1) lost u w
works_more n lost k u v w done delivers = elim delivers [
  | inl puts ↦ record {
    delivered = suc done.delivered;
    works = record { before = v; works = done.works; after = w; number = k; puts = puts; looks = looks-same w };
    within = omega (arith, done.within);
  }
  | inr looks ↦ record { delivered = done.delivered; works = works_look done.delivered u v w done.works looks.0; within = omega (arith, done.within) }
]

-- one turn more, by which nothing was delivered
pub works_idle : (n lost : ℕ) (u v w : Sight) → WorksFor n lost u v → w ≡ v → WorksFor (n + 1) lost u w
works_idle n lost u v w done same = record { delivered = done.delivered; works = subst (Works done.delivered u) (sym same) done.works; within = omega (arith, done.within) }

-- the same, and a packet was lost
pub works_lost : (n lost : ℕ) (u v w : Sight) → WorksFor n lost u v → w ≡ v → WorksFor (n + 1) (lost + 1) u w
works_lost n lost u v w done same = record { delivered = done.delivered; works = subst (Works done.delivered u) (sym same) done.works; within = omega (arith, done.within) }
