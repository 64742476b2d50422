-- Two runs of a chain that do not replay: one whose metadata keeps no order, and one whose log keeps none. They meet all the other
-- premises of the law.
use Rattle.std.proofs.Common.{◌≡◌, ℕ, suc, ◌+◌, length, ap, sym, ◌∙◌, ⊎_elim, inr, List, [], ◌∷◌, refl, Some, None, arith, Bool, true, false, cond, length-append}
use Rattle.std.specs.Prelude.{bytes_eq}
use Rattle.wire.specs.declared.rows.Row.{Row}
use Rattle.commitlog.specs.Replay.{Numbered as Group}
use Rattle.metadata.specs.declared.record.MetaItem.{MetaItem}
use Rattle.metadata.specs.Fold.{all_keys}
use Rattle.model_partition.specs.Past.{Bytes, Transaction, stored, kept}
use Rattle.model_partition.specs.Lines.{StandsIn}
use Rattle.model_histories.specs.Story.{Placed, Showed, Story, event_at, KeepsOrder, EndsRise}
use Rattle.laws_tables.specs.Fenced.{Seen, Fenced, LogRun, IsLogRun, visible}
use Rattle.laws_tables.specs.Layers.{flat}
use Rattle.laws_tables.specs.Runs.{Confirms, Run, log_of, meta_of, first_beginning, loaded_layer, shown_at, IsChainRun, ShowsLayers, ShowsLine, ChainReplays}
use Rattle.laws_tables.proofs.Fenced.{keeps_order, ends_rise}
use Rattle.laws_tables.proofs.Layers.{in_all, kept_all, pick}
use Rattle.laws_tables.proofs.Range.{event_cases, newest, older}
use Rattle.laws_tables.proofs.WorkedRuns.{not_loaded, one_is_not_two, row, t3, g2, g3, layers, up_to_trim, is_up_to_trim, before_second, log_run, is_log, metadata_run, is_metadata, checkpoint_shown, load, right_rows, two_loads, nothing_kept}

-- a line in which the third group stands has three transactions or more
third_stands : (line : List Transaction) → StandsIn line g3 → 3 ≡ suc (length line) → ⊥
third_stands line s n =
    let at : suc (length s.before) ≡ 3 = s.at in
    let is : length line ≡ length s.before + suc (length s.after) = ap length s.is ∙ length-append s.before (t3 ∷ s.after) in
    omega arith

-- ---- metadata that loses a record, after the log was trimmed

abbrev trimmed : List (Placed (Group Transaction))
trimmed = record { from = 4294967296; to = 4294967320; group = g2 } ∷ record { from = 4294967320; to = 4294967344; group = g3 } ∷ []

abbrev forgetful_run : Run
forgetful_run = Confirms 2 4294967296 4294967344 trimmed 40 [] ∷ up_to_trim

abbrev trimmed_log_run : LogRun (Group Transaction)
trimmed_log_run = Seen (Showed 2 4294967296 4294967344 trimmed) ∷ Fenced 2 4294967344 ∷ before_second

is_trimmed_log : IsLogRun trimmed_log_run
is_trimmed_log = ((before_second, [], refl, refl), is_log.1)

two_groups : (c b : Bool) → cond c (Some (122 ∷ [])) (cond b (Some (121 ∷ [])) None) ≡ flat (pick (cond c (Some (Some (122 ∷ []))) (cond b (Some (Some (121 ∷ []))) None)) None)
two_groups true b = refl
two_groups false true = refl
two_groups false false = refl

trimmed_rows_are : (key : Bytes) → stored right_rows key ≡ kept all_keys (λ k. flat (loaded_layer first_beginning layers trimmed [] k)) key
trimmed_rows_are key = two_groups (bytes_eq key (99 ∷ [])) (bytes_eq key (98 ∷ [])) ∙ sym (kept_all (λ k. flat (loaded_layer first_beginning layers trimmed [] k)) key)

-- nothing but the order of the metadata is missing
pub record IsForgetful (rows : ℕ → List Row) (run : Run) : Type 0 where
  pub allowed : IsChainRun layers first_beginning run
  pub right : ShowsLayers layers first_beginning rows run
  pub log_order : KeepsOrder (log_of run)
  pub ends : EndsRise (log_of run)
  pub fails : ChainReplays first_beginning rows run → ⊥

pub needs_metadata_order : IsForgetful (two_loads right_rows) forgetful_run
needs_metadata_order = record {
  allowed = (
    ((λ h. not_loaded Transaction (log_of up_to_trim) 2 (one_is_not_two, tt) h), (4294967296, inr (1, omega arith, (0, omega arith, refl)), refl)),
    is_up_to_trim,
  );
  right = (trimmed_rows_are, (nothing_kept, tt));
  log_order = keeps_order (Group Transaction) trimmed_log_run is_trimmed_log;
  ends = ends_rise (Group Transaction) trimmed_log_run is_trimmed_log;
  fails = λ r.
      let s : ShowsLine first_beginning (shown_at first_beginning (two_loads right_rows) forgetful_run 7) (r.line 7) = r.shown 7 2 4294967296 4294967344 trimmed refl in
      third_stands (r.line 7) (r.complete 7 2 4294967296 4294967344 5 1 6 4294967320 4294967344 trimmed g3 refl refl (omega arith) refl) s.number;
}

-- ---- a log that loses a group

abbrev index_rows : List Row
index_rows = row 98 121 ∷ row 97 120 ∷ []

abbrev lossy_run : Run
lossy_run = Confirms 2 4294967320 4294967344 [] 40 (checkpoint_shown ∷ []) ∷ up_to_trim

index_alone : (b a : Bool) → cond b (Some (121 ∷ [])) (cond a (Some (120 ∷ [])) None) ≡ flat (pick None (pick (cond b (Some (Some (121 ∷ []))) (cond a (Some (Some (120 ∷ []))) None)) None))
index_alone true a = refl
index_alone false true = refl
index_alone false false = refl

index_rows_are : (key : Bytes) → stored index_rows key ≡ kept all_keys (λ k. flat (loaded_layer first_beginning layers [] (checkpoint_shown ∷ []) k)) key
index_rows_are key =
    index_alone (bytes_eq key (98 ∷ [])) (bytes_eq key (97 ∷ []))
    ∙ ap (λ w. flat (pick None (pick (cond w (cond (bytes_eq key (98 ∷ [])) (Some (Some (121 ∷ []))) (cond (bytes_eq key (97 ∷ [])) (Some (Some (120 ∷ []))) None)) None) None))) (sym (in_all key))
    ∙ sym (kept_all (λ k. flat (loaded_layer first_beginning layers [] (checkpoint_shown ∷ []) k)) key)

-- its loads end where those of the log that loses nothing end
same_end : (g s e : ℕ) (xs ys : List (Placed (Group Transaction))) (earlier : Story (Group Transaction)) (l h s' e' : ℕ) (zs : List (Placed (Group Transaction))) →
    event_at (Showed g s e xs ∷ earlier) l ≡ Some (Showed h s' e' zs) → (other : List (Placed (Group Transaction))) × (event_at (Showed g s e ys ∷ earlier) l ≡ Some (Showed h s' e' other))
same_end g s e xs ys earlier l h s' e' zs is =
    ⊎_elim {C = (other : List (Placed (Group Transaction))) × (event_at (Showed g s e ys ∷ earlier) l ≡ Some (Showed h s' e' other))}
    (λ (q : (l ≡ length earlier) × (Showed g s e xs ≡ Showed h s' e' zs)).
    let both : Showed g s e xs ≡ Showed h s' e' zs = q.1 in
    let eg : g ≡ h = cc in
    let es : s ≡ s' = cc in
    let ee : e ≡ e' = cc in
    let same : Some (Showed g s e ys) ≡ Some (Showed h s' e' ys) = cc (eg, es, ee) in
    (ys, ap (event_at (Showed g s e ys ∷ earlier)) q.0 ∙ newest (Group Transaction) (Showed g s e ys) earlier ∙ same))
    (λ o. (zs, older (Group Transaction) (Showed g s e ys) earlier l (Showed h s' e' zs) o))
    (event_cases (Group Transaction) (Showed g s e xs) earlier l (Showed h s' e' zs) is)

lossy_ends : EndsRise (log_of lossy_run)
lossy_ends l m g h s e s' e' xs ys hl hm lt =
    let a : (other : List (Placed (Group Transaction))) × (event_at (visible log_run) l ≡ Some (Showed g s e other)) = same_end 2 4294967320 4294967344 [] load (log_of up_to_trim) l g s e xs hl in
    let b : (other : List (Placed (Group Transaction))) × (event_at (visible log_run) m ≡ Some (Showed h s' e' other)) = same_end 2 4294967320 4294967344 [] load (log_of up_to_trim) m h s' e' ys hm in
    ends_rise (Group Transaction) log_run is_log l m g h s e s' e' a.0 b.0 a.1 b.1 lt

-- nothing but the order of the log is missing
pub record IsLossy (rows : ℕ → List Row) (run : Run) : Type 0 where
  pub allowed : IsChainRun layers first_beginning run
  pub right : ShowsLayers layers first_beginning rows run
  pub ends : EndsRise (log_of run)
  pub metadata_order : KeepsOrder (meta_of run)
  pub fails : ChainReplays first_beginning rows run → ⊥

pub needs_log_order : IsLossy (two_loads index_rows) lossy_run
needs_log_order = record {
  allowed = (
    ((λ h. not_loaded Transaction (log_of up_to_trim) 2 (one_is_not_two, tt) h), (4294967296, inr (1, omega arith, (0, omega arith, refl)), refl)),
    is_up_to_trim,
  );
  right = (index_rows_are, (nothing_kept, tt));
  ends = lossy_ends;
  metadata_order = keeps_order (Group MetaItem) metadata_run is_metadata;
  fails = λ r.
      let s : ShowsLine first_beginning (shown_at first_beginning (two_loads index_rows) lossy_run 7) (r.line 7) = r.shown 7 2 4294967320 4294967344 [] refl in
      third_stands (r.line 7) (r.complete 7 2 4294967320 4294967344 5 1 6 4294967320 4294967344 [] g3 refl refl (omega arith) refl) s.number;
}
