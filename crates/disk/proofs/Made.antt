-- What an actor holds stays made of its records.
use Rattle.std.proofs.Common.{◌≡◌, Bool, true, false, List, ◌++◌, Option, Some, None, Err, refl, inl, inr, ⊎_elim, sym, subst, ◌∙◌}
use Rattle.block_types.specs.declared.record.Record.{Record}
use Rattle.disk.specs.declared.device.DiskFault.TheVariants.{Failed}
use Rattle.disk.specs.Disk.{DiskState}
use Rattle.disk.specs.Filed.{Filed}
use Rattle.disk.specs.Appends.{Records, listed}
use Rattle.disk.specs.Made.{IsMadeOf}

module _ (Makes Fit : List Record → Type 0) where
  -- while it runs, of all of them
  pub running : (stopped : Bool) (rs : List Record) → IsMadeOf Makes Fit stopped rs → stopped ≡ false → Makes rs
  running stopped rs holds up = ⊎_elim (λ all. all) (λ less. absurd (let down = less.0 in cc)) holds.made

  -- a stop leaves it
  pub still_made : (was is : Bool) (old new : List Record) → IsMadeOf Makes Fit was old → (was ≡ true → is ≡ true) → new ≡ old → IsMadeOf Makes Fit is new
  still_made was is old new holds stops same = record {
    fit = subst Fit (sym same) holds.fit;
    made = ⊎_elim
        (λ all. inl (subst Makes (sym same) all))
        (λ less. inr (stops less.0, less.1, less.2, same ∙ less.3, less.4))
        holds.made;
  }

  -- and a step in which the disk failed, where the record fits that it was to write
  pub made_broken : {D : Type 0} (T : Type 0) (state : D → DiskState) (old new : Filed D) (written : Option Record) → Records {T = T} state old new (listed written) (Err Failed)
      → Makes old.records → Fit old.records → Fit (old.records ++ listed written) → IsMadeOf Makes Fit new.stopped new.records
  made_broken T state old new None step all fits more = absurd (step.1 refl)
  made_broken T state old new (Some r) step all fits more = ⊎_elim
      (λ without. record { fit = subst Fit (sym without) fits; made = inl (subst Makes (sym without) all) })
      (λ with_it. record { fit = subst Fit (sym with_it) more; made = inr ((step.failed refl).0, old.records, r, with_it, all) })
      (step.either refl)
