-- What the records make, with one more of them.
use Rattle.std.proofs.Common.{◌≡◌, ℕ, suc, ◌+◌, ◌<◌, true, List, [], ◌∷◌, ◌++◌, length, get_or, take, drop, drop-cons, ap, sym, ◌∙◌}
use Rattle.std.proofs.lemmas.List.{take_more, take-append-drop}
use Rattle.std.proofs.lemmas.Bool.{and_from, and_parts}
use Rattle.block_types.specs.declared.record.Record.{Record}
use Rattle.model_partition.specs.Map.{MapState, first_map}
use Rattle.model_partition.specs.Replay.{map_after, map_record_of, replay_from, map_record_fits, fit_from, map_fits}
use Rattle.model_partition.proofs.Replaying.{replay_push, fits_push}
use Rattle.pmap_table.specs.MakesMap.{MakesMap}

-- one record more
pub makes_push : (rs : List Record) (m : MapState) (r : Record) → MakesMap rs m → map_record_fits m (map_record_of r) ≡ true → MakesMap (rs ++ r ∷ []) (map_after m (map_record_of r))
makes_push rs m r made fits = record {
  replays = replay_push rs r ∙ ap (λ (x : MapState). map_after x (map_record_of r)) made.replays;
  fits = fits_push rs r ∙ and_from _ _ made.fits (ap (λ (x : MapState). map_record_fits x (map_record_of r)) made.replays ∙ fits);
}

-- ---- a record that does not fit

fit_there : (m : MapState) (rs others : List Record) (r : Record) → fit_from m (rs ++ r ∷ others) ≡ true → map_record_fits (replay_from m rs) (map_record_of r) ≡ true
fit_there m [] others r fits = (and_parts _ _ fits).0
fit_there m (x ∷ rs) others r fits = fit_there (map_after m (map_record_of x)) rs others r (and_parts _ _ fits).1

-- the record after those that have made a map fits it, where all of them fit
fits_next : (rs others : List Record) (r : Record) (m : MapState) → MakesMap rs m → map_fits (rs ++ r ∷ others) ≡ true → map_record_fits m (map_record_of r) ≡ true
fits_next rs others r m made fits = ap (λ (x : MapState). map_record_fits x (map_record_of r)) (sym made.replays) ∙ fit_there first_map rs others r fits

-- ---- a step over the records

pub made_more : (rs : List Record) (i : ℕ) (r : Record) (m u : MapState) → i < length rs → r ≡ get_or rs i r → MakesMap (take i rs) m → map_record_fits m (map_record_of r) ≡ true → u ≡ map_after m (map_record_of r) →
    MakesMap (take (i + 1) rs) u
made_more rs i r m u lt is made fits after =
    let more : take (i + 1) rs ≡ take i rs ++ r ∷ [] = take_more rs i r lt ∙ ap (λ (x : Record). take i rs ++ x ∷ []) (sym is) in
    rw (more, after) (makes_push (take i rs) m r made fits)

pub fits_there : (rs : List Record) (i : ℕ) (r : Record) (m : MapState) → i < length rs → r ≡ get_or rs i r → MakesMap (take i rs) m → map_fits rs ≡ true → map_record_fits m (map_record_of r) ≡ true
fits_there rs i r m lt is made fits =
    let whole : take i rs ++ r ∷ drop (suc i) rs ≡ rs =
    ap (λ (x : Record). take i rs ++ x ∷ drop (suc i) rs) is ∙ ap (λ (l : List Record). take i rs ++ l) (sym (drop-cons rs i r lt)) ∙ take-append-drop i rs in
    fits_next (take i rs) (drop (suc i) rs) r m made (ap map_fits whole ∙ fits)
