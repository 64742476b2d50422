use Rattle.std.proofs.Common.{rules, inl, inr, ⊎_elim, refl, ap, ◌∙◌, sym, List, ℕ, ◌∷◌}
use Rattle.disk.proofs.Images.{crash_done, crash_none, goes_by, spends_write}
use Rattle.disk.proofs.memory.MemDiskDisk.write_at.Goals as goal

pub returns-in_ok-overwrite-in-None : goal.returns-in_ok-overwrite-in-None
returns-in_ok-overwrite-in-None c =
    let was = c.args.self.now in
    let now = c.overwrite.new.self in
    let done = c.in_ok-overwrite-in-None.ensures.ok in
    record {
      written = done;
      crash = crash_done was.image now c.args.at c.args.bytes.now c.requires done c.overwrite.ensures.synced;
      time = goes_by was.image now was.history.events c.note_seen.new.self.events 0 was.image.seen _ _ _ (c.note_seen.ensures) (inl refl) (λ f there. ⊎_elim (λ seen. inl seen) (λ synced. inr (inr (synced ∙ sym c.overwrite.ensures.synced))) there);
      cause = search rules;
      spent = λ le. spends_write was.image now _ _ _ _ _ c.args.at c.args.bytes.now c.requires done c.overwrite.ensures.keeps le;
      synced = c.overwrite.ensures.synced;
      stops = search rules;
      memory = search rules;
    }

pub returns-in_ok-overwrite-in-Some-true : goal.returns-in_ok-overwrite-in-Some-true
returns-in_ok-overwrite-in-Some-true c =
    let was = c.args.self.now in
    let now = c.overwrite-in-Some-true.new.self in
    let done = c.in_ok-overwrite-in-Some-true.ensures.ok in
    record {
      written = tt;
      crash = crash_done was.image now c.args.at c.args.bytes.now c.requires done c.overwrite-in-Some-true.ensures.synced;
      time = goes_by was.image now was.history.events c.note_seen-in-Some-true.new.self.events 1 was.image.seen _ _ _ (c.note_seen-in-Some-true.ensures) (inl refl) (λ f there. ⊎_elim (λ seen. inl seen) (λ synced. inr (inr (synced ∙ sym c.overwrite-in-Some-true.ensures.synced))) there);
      cause = search rules;
      spent = λ _. tt;
      synced = tt;
      stops = search rules;
      memory = search rules;
    }

pub returns-in-Some-false : goal.returns-in-Some-false
returns-in-Some-false c =
    let was = c.args.self.now in
    let now = c.forget.new.self in
    record {
      written = tt;
      crash = crash_none was.image now c.args.at _ (λ f there. ⊎_elim (λ seen. inr (seen ∙ c.forget.ensures.seen)) (λ synced. inr (synced ∙ c.forget.ensures.synced)) there);
      time = goes_by was.image now was.history.events c.note_seen-in-Some-false.new.self.events 1 was.image.seen _ _ _ (c.note_seen-in-Some-false.ensures) (inl refl) (λ f there. ⊎_elim (λ seen. inl seen) (λ synced. inr (inl (synced ∙ sym c.forget.ensures.seen))) there);
      cause = search rules;
      spent = λ _. tt;
      synced = tt;
      stops = search rules;
      memory = search rules;
    }
