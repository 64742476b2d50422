use Rattle.std.proofs.Common.{rules, ◌≡◌, inl, inr, ⊎_elim, refl, ap, subst, ◌∙◌, sym, arith, List, ℕ, ◌∷◌}
use Rattle.disk.specs.Disk.{Holds}
use Rattle.disk.specs.Image.{ImageBytes, KeepsRoom}
use Rattle.disk.proofs.Images.{crash_done, goes_by, spends_write}
use Rattle.disk.proofs.real.FileDiskDisk.write_at.Goals as goal

pub returns-clause-writes : goal.returns-clause-writes
returns-clause-writes g c =
    let was = c.args.self.now.image in
    let now = c.overwrite.new.self in
    let held = c.put.ensures.same.0 in
    let seen : c.put.new.self.image.seen ≡ was.seen = ap (λ (h : ImageBytes). h.seen) held ∙ c.reserve.ensures.same.0 in
    let synced : now.synced ≡ was.synced = c.overwrite.ensures.synced ∙ ap (λ (h : ImageBytes). h.synced) held ∙ c.reserve.ensures.same.1 in
    let done : Holds was.seen c.args.at c.args.bytes.now now.seen = subst (λ (old : List ℕ). Holds old c.args.at c.args.bytes.now now.seen) seen c.in_ok-overwrite.ensures.ok in
    let keeps : KeepsRoom was now = record {
      seen = omega (arith, c.reserve.ensures.keeps.seen, c.overwrite.ensures.keeps.seen, ap (λ (h : ImageBytes). h.seen_room) held);
      synced = omega (arith, c.reserve.ensures.keeps.synced, c.overwrite.ensures.keeps.synced, ap (λ (h : ImageBytes). h.synced_room) held);
    } in
    let noted : c.note-2.new.self.events ≡ (0, was.seen) ∷ c.args.self.now.history.events = c.note-2.ensures ∙ ap (λ (l : List ℕ). (0, l) ∷ c.put.new.self.history.events) (c.bytes-2.ensures ∙ seen) ∙ ap (λ (h : _). (0, was.seen) ∷ h.events) c.put.ensures.same.1 in
    record {
      written = done;
      crash = crash_done was now c.args.at c.args.bytes.now c.requires done synced;
      time = goes_by was now c.args.self.now.history.events c.note-2.new.self.events 0 was.seen _ _ _ noted (inl refl) (λ f there. ⊎_elim (λ here. inl here) (λ sure. inr (inr (sure ∙ sym synced))) there);
      cause = search rules;
      spent = λ le. spends_write was now _ _ _ _ _ c.args.at c.args.bytes.now c.requires done keeps le;
      synced = synced;
      stops = search rules;
      memory = search rules;
    }

pub returns-then-not-put-clause-writes : goal.returns-then-not-put-clause-writes
returns-then-not-put-clause-writes g c = search rules

pub returns-then-not-put-clause-broken : goal.returns-then-not-put-clause-broken
returns-then-not-put-clause-broken g c = search rules
