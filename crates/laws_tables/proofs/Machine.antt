-- The law of a chain: what holds of its servers, event by event, and what its loads show.
use Rattle.std.proofs.Common.{◌≡◌, ℕ, suc, ◌<◌, ◌≤◌, List, [], ◌∷◌, length, map, cond, Some, refl, sym, ap, ◌∙◌, subst, inl, inr, ◌⊎◌, ⊎_elim, arith, eqb}
use Rattle.std.specs.Prelude.{Contains}
use Rattle.std.proofs.lemmas.Bool.{cases_eq}
use Rattle.wire.specs.declared.rows.Row.{Row}
use Rattle.memtable.specs.declared.cell.Place.{Place}
use Rattle.commitlog.specs.Replay.{Numbered as Group}
use Rattle.metadata.specs.declared.record.MetaItem.{MetaItem}
use Rattle.metadata.specs.Fold.{MetadataState}
use Rattle.model_histories.specs.Log.{line_shown}
use Rattle.model_partition.specs.Past.{Bytes, Transaction, after_line, stored, kept}
use Rattle.model_histories.specs.Story.{Placed, StreamEvent, Made, Answered, Showed, event_at, Copy, placed, from_place, KeepsOrder, EndsRise, whole}
use Rattle.model_histories.specs.StreamMachine.{In}
use Rattle.laws_tables.specs.Ends.{StandsBehind}
use Rattle.laws_tables.specs.Layers.{Layer, flat}
use Rattle.laws_tables.specs.Runs.{Event, Forms, Logged, Notes, Records, Recorded, Trims, Confirms, Run, log_of, record_group, meta_of, Beginning, IsBeginning, start_number, Serving, formed, logged, noting, recording, recorded, ShownLoad, said, next_loaded, loaded_layer, confirmed, held, shown_at, IsServing, MayStart, MayInChain, IsChainRun, ShowsLayers, ShowsLine, ChainReplays}
use Rattle.laws_tables.specs.Through.{IsLoaded, HadLine, HasAllAnswered, HasOneOut, HasLine}
use Rattle.laws_tables.specs.WholeStories.{IsServed}
use Rattle.laws_tables.proofs.Books.{one_out_is_made, had_line_of, allowed_made}
use Rattle.laws_tables.proofs.Holds.{LogStory, MetadataStory, HoldsRightly, IsFitRecord, WasFitRecord, NumberIs, holds_log_later, holds_metadata_later, record_log_later, record_metadata_later, holds_formed, holds_logged, holds_noting, fit_record, holds_recording, record_made, holds_recorded}
use Rattle.laws_tables.proofs.Layers.{kept_same}
use Rattle.laws_tables.proofs.Loads.{ItemFrom, item_from, holds_confirmed, base_low, loaded_table, loaded_next}
use Rattle.laws_tables.proofs.Members.{in_contains}
use Rattle.laws_tables.proofs.Range.{IsMadeAt, IsShownAt, older, newest, bound, eq_test, ne_test, made_cases, made_shown, answered_made, answered_shown, showed_made, shown_cases}
use Rattle.laws_tables.proofs.Through.{had_line_later, lines_begin, answered_stands}
use Rattle.laws_tables.proofs.Whole.{whole_length, back_made, back_shown, to_made, to_answered, to_shown, whole_order, order_before, ends_before, ends_whole}

-- a confirmed load is seen in both stories
pub loaded_in_log : (run : Run) (g : ℕ) → IsLoaded (meta_of run) g → IsLoaded (log_of run) g
loaded_in_log [] g h = absurd (let q : event_at [] h.0 ≡ Some (Showed g h.1 h.2 h.3) = h.4 in cc)
loaded_in_log (Forms g' group ∷ earlier) g h =
    let o : IsLoaded (log_of earlier) g = loaded_in_log earlier g h in
    (o.0, o.1, o.2, o.3, older (Group Transaction) (Made g' group) (log_of earlier) o.0 (Showed g o.1 o.2 o.3) o.4)
loaded_in_log (Logged g' a from to ∷ earlier) g h =
    let o : IsLoaded (log_of earlier) g = loaded_in_log earlier g h in
    (o.0, o.1, o.2, o.3, older (Group Transaction) (Answered a from to) (log_of earlier) o.0 (Showed g o.1 o.2 o.3) o.4)
loaded_in_log (Notes g' ∷ earlier) g h = loaded_in_log earlier g h
loaded_in_log (Records g' number item ∷ earlier) g h =
    loaded_in_log earlier g (h.0, h.1, h.2, h.3, made_shown MetaItem g' (record_group number item) (meta_of earlier) h.0 g h.1 h.2 h.3 h.4)
loaded_in_log (Recorded g' a from to ∷ earlier) g h = loaded_in_log earlier g (h.0, h.1, h.2, h.3, answered_shown MetaItem a from to (meta_of earlier) h.0 g h.1 h.2 h.3 h.4)
loaded_in_log (Trims g' place ∷ earlier) g h = loaded_in_log earlier g h
loaded_in_log (Confirms g' start end groups metadata_end records ∷ earlier) g h =
    let load : StreamEvent (Group Transaction) = Showed g' start end groups in
    ⊎_elim {C = IsLoaded (Showed g' start end groups ∷ log_of earlier) g}
    (λ (q : (h.0 ≡ length (meta_of earlier)) × (g' ≡ g) × (records ≡ h.3)).
    subst (λ z. IsLoaded (Showed g' start end groups ∷ log_of earlier) z) q.1 (length (log_of earlier), start, end, groups, newest (Group Transaction) load (log_of earlier)))
    (λ (old : IsShownAt MetaItem (meta_of earlier) h.0 g h.1 h.2 h.3).
    let o : IsLoaded (log_of earlier) g = loaded_in_log earlier g (h.0, h.1, h.2, h.3, old) in
    (o.0, o.1, o.2, o.3, older (Group Transaction) load (log_of earlier) o.0 (Showed g o.1 o.2 o.3) o.4))
    (shown_cases MetaItem g' 0 metadata_end records (meta_of earlier) h.0 g h.1 h.2 h.3 h.4)

same_one : (A : Type 0) (g : ℕ) (x y : A) → cond (eqb g g) x y ≡ x
same_one A g x y = ap (λ b. cond b x y) (eq_test A g)

other_one : (A : Type 0) (g g' : ℕ) (x y : A) → (g ≡ g' → ⊥) → cond (eqb g g') x y ≡ y
other_one A g g' x y n = ap (λ b. cond b x y) (ne_test A g g' n)

-- the step of one incarnation, and all others as they were
pub by_owner : (P : ℕ → Serving → Type 0) (state : ℕ → Serving) (step : Serving → Serving) (owner g : ℕ) → P owner (step (state owner)) → ((g ≡ owner → ⊥) → P g (state g)) →
    P g (cond (eqb g owner) (step (state g)) (state g))
by_owner P state step owner g own other =
    ⊎_elim {C = P g (cond (eqb g owner) (step (state g)) (state g))}
    (λ (q : g ≡ owner). subst (λ z. P z (cond (eqb z owner) (step (state z)) (state z))) (sym q) (subst (P owner) (sym (same_one Serving owner (step (state owner)) (state owner))) own))
    (λ (q : g ≡ owner → ⊥). subst (P g) (sym (other_one Serving g owner (step (state g)) (state g) q)) (other q))
    (cases_eq g owner)

module _ (layer_at : Place → Layer) (b : Beginning) where
  -- the log's story, each load of which shows the whole log
  abbrev pub whole_log : (ℕ → List (Copy (Group Transaction))) → Run → LogStory
  whole_log cs run = whole (Group Transaction) cs (log_of run)

  -- what stood in the metadata when a Trim was sent let go all that the Trim names
  abbrev pub LetGo : MetadataStory → ℕ → ℕ → Type 0
  LetGo metadata g place = (before : List MetaItem) × HadLine metadata g before × (place ≤ start_number (said b before).regions)

  -- rows: those that each load shows
  pub record Inv (rows : ℕ → List Row) (cs : ℕ → List (Copy (Group Transaction))) (run : Run) : Type 0 where
    pub served : IsServed (whole_log cs run)
    pub metadata_served : IsServed (meta_of run)
    pub holds : (g : ℕ) → IsLoaded (whole_log cs run) g → HoldsRightly layer_at b (whole_log cs run) (meta_of run) g (held b run g)
    pub fit : (a g : ℕ) (group : Group MetaItem) → IsMadeAt MetaItem (meta_of run) a g group → WasFitRecord layer_at b (whole_log cs run) (meta_of run) g group
    pub trims : (g place : ℕ) → In (Trims g place) run → LetGo (meta_of run) g place
    pub shows : (l g s e : ℕ) (xs : List (Placed (Group Transaction))) → IsShownAt Transaction (whole_log cs run) l g s e xs → ShowsLine b (shown_at b rows run l) (line_shown xs)

  module _ (rows : ℕ → List Row) (cs : ℕ → List (Copy (Group Transaction))) (run : Run) (inv : Inv rows cs run) where
    abbrev V : LogStory
    V = whole_log cs run

    abbrev M : MetadataStory
    M = meta_of run

    serving : (g : ℕ) → IsServing run g → IsLoaded V g
    serving g h = (h.0, 0, h.2, map placed (cs h.0), to_shown (Group Transaction) cs (log_of run) h.0 g h.1 h.2 h.3 h.4)

    serving_back : (g : ℕ) → IsLoaded V g → IsServing run g
    serving_back g h =
        let r : (s' : ℕ) × (xs' : List (Placed (Group Transaction))) × (event_at (log_of run) h.0 ≡ Some (Showed g s' h.2 xs')) × (h.1 ≡ 0) × (h.3 ≡ map placed (cs h.0)) =
        back_shown (Group Transaction) cs (log_of run) h.0 g h.1 h.2 h.3 h.4 in
        (h.0, r.0, h.2, r.1, r.2)

    holds_of : (owner : ℕ) → IsServing run owner → HoldsRightly layer_at b V M owner (held b run owner)
    holds_of owner h = inv.holds owner (serving owner h)

    no_trim : (e : Event) → ((g place : ℕ) → Trims g place ≡ e → ⊥) → (g place : ℕ) → In (Trims g place) (e ∷ run) → In (Trims g place) run
    no_trim e differs g place (inl q) = absurd (differs g place q)
    no_trim e differs g place (inr i) = i

    let_go_later : (e : StreamEvent (Group MetaItem)) (g place : ℕ) → LetGo M g place → LetGo (e ∷ M) g place
    let_go_later e g place t = (t.0, had_line_later MetaItem e M g t.0 t.1, t.2)

    pub inv_forms : (owner : ℕ) (group : Group Transaction) → MayInChain layer_at b run (Forms owner group) → Inv rows cs (Forms owner group ∷ run)
    inv_forms owner group may =
        let h : HoldsRightly layer_at b V M owner (held b run owner) = holds_of owner may.0 in
        let len : length (log_of run) ≡ length V = sym (whole_length (Group Transaction) cs (log_of run)) in
        let answered : HasAllAnswered V owner h.line = subst (λ z. HasLine V owner h.line z) may.1 h.has_line in
        let number : (held b run owner).next ≡ suc (length h.line) = subst (λ z. NumberIs z (held b run owner).next h.line) may.1 h.number in
        record {
          served = (allowed_made Transaction V owner h.line group inv.served answered (may.2 ∙ number), inv.served);
          metadata_served = inv.metadata_served;
          holds = λ g is.
              let old : IsLoaded V g = (is.0, is.1, is.2, is.3, made_shown Transaction owner group V is.0 g is.1 is.2 is.3 is.4) in
              by_owner (λ z s. HoldsRightly layer_at b (Made owner group ∷ V) M z s) (held b run) (formed (length (log_of run)) group) owner g
              (holds_formed layer_at b V M owner (held b run owner) (length (log_of run)) group len h may.1 may.2)
              (λ (q : g ≡ owner → ⊥). holds_log_later layer_at b (Made owner group) V M g (held b run g) q (inv.holds g old));
          fit = λ a g x m. record_log_later layer_at b (Made owner group) V M g x (inv.fit a g x m);
          trims = λ g place i. inv.trims g place (no_trim (Forms owner group) (λ g p q. cc) g place i);
          shows = λ l g s e xs is. inv.shows l g s e xs (made_shown Transaction owner group V l g s e xs is);
        }

    pub inv_logged : (owner a from to : ℕ) → MayInChain layer_at b run (Logged owner a from to) → Inv rows cs (Logged owner a from to ∷ run)
    inv_logged owner a from to may =
        let h : HoldsRightly layer_at b V M owner (held b run owner) = holds_of owner may.0 in
        let out : HasOneOut V owner h.line a may.1 = subst (λ z. HasLine V owner h.line z) may.2 h.has_line in
        record {
          served = ((owner, may.1, one_out_is_made Transaction V owner h.line a may.1 out), inv.served);
          metadata_served = inv.metadata_served;
          holds = λ g is.
              let old : IsLoaded V g = (is.0, is.1, is.2, is.3, answered_shown Transaction a from to V is.0 g is.1 is.2 is.3 is.4) in
              by_owner (λ z s. HoldsRightly layer_at b (Answered a from to ∷ V) M z s) (held b run) (logged to) owner g
              (holds_logged layer_at b V M owner (held b run owner) a from to may.1 h may.2)
              (λ (q : g ≡ owner → ⊥). holds_log_later layer_at b (Answered a from to) V M g (held b run g) tt (inv.holds g old));
          fit = λ x g y m. record_log_later layer_at b (Answered a from to) V M g y (inv.fit x g y m);
          trims = λ g place i. inv.trims g place (no_trim (Logged owner a from to) (λ g p q. cc) g place i);
          shows = λ l g s e xs is. inv.shows l g s e xs (answered_shown Transaction a from to V l g s e xs is);
        }

    pub inv_notes : (owner : ℕ) → MayInChain layer_at b run (Notes owner) → Inv rows cs (Notes owner ∷ run)
    inv_notes owner may = record {
      served = inv.served;
      metadata_served = inv.metadata_served;
      holds = λ g is.
          by_owner (λ z s. HoldsRightly layer_at b V M z s) (held b run) noting owner g (holds_noting layer_at b V M owner (held b run owner) (holds_of owner may.0) may.1 may.2)
          (λ (q : g ≡ owner → ⊥). inv.holds g is);
      fit = inv.fit;
      trims = λ g place i. inv.trims g place (no_trim (Notes owner) (λ g p q. cc) g place i);
      shows = inv.shows;
    }

    pub inv_trims : (owner place : ℕ) → MayInChain layer_at b run (Trims owner place) → Inv rows cs (Trims owner place ∷ run)
    inv_trims owner place may =
        let h : HoldsRightly layer_at b V M owner (held b run owner) = holds_of owner may.0 in
        let s : Serving = held b run owner in
        let mine : LetGo M owner place = (s.records, had_line_of MetaItem M owner s.records s.record_out h.has_records, may.1) in
        record {
          served = inv.served;
          metadata_served = inv.metadata_served;
          holds = inv.holds;
          fit = inv.fit;
          trims = λ g p i.
              ⊎_elim {C = LetGo M g p}
              (λ (q : Trims g p ≡ Trims owner place).
              let eg : g ≡ owner = cc in
              let ep : p ≡ place = cc in
              subst (λ z. LetGo M z p) (sym eg) (subst (LetGo M owner) (sym ep) mine))
              (λ o. inv.trims g p o) i;
          shows = inv.shows;
        }

    pub inv_records : (owner number : ℕ) (item : MetaItem) → MayInChain layer_at b run (Records owner number item) → Inv rows cs (Records owner number item ∷ run)
    inv_records owner number item may =
        let h : HoldsRightly layer_at b V M owner (held b run owner) = holds_of owner may.0 in
        let s : Serving = held b run owner in
        let group : Group MetaItem = record_group number item in
        let e : StreamEvent (Group MetaItem) = Made owner group in
        let r : IsFitRecord layer_at b s.noted s.fixed s.records group = fit_record layer_at b s group item refl may.3 in
        let answered : HasAllAnswered M owner s.records = subst (λ z. HasLine M owner s.records z) may.1 h.has_records in
        record {
          served = inv.served;
          metadata_served = (allowed_made MetaItem M owner s.records group inv.metadata_served answered may.2, inv.metadata_served);
          holds = λ g is.
              by_owner (λ z s. HoldsRightly layer_at b V (Made owner group ∷ M) z s) (held b run) (recording (length M) group) owner g
              (holds_recording layer_at b V M owner (held b run owner) (length M) group refl h may.1 r)
              (λ (q : g ≡ owner → ⊥). holds_metadata_later layer_at b e V M g (held b run g) q (inv.holds g is));
          fit = λ a g x m.
              ⊎_elim {C = WasFitRecord layer_at b V (Made owner group ∷ M) g x}
              (λ (q : (a ≡ length M) × (owner ≡ g) × (group ≡ x)).
              subst (λ z. WasFitRecord layer_at b V (Made owner group ∷ M) g z) q.2
              (subst (λ z. WasFitRecord layer_at b V (Made owner group ∷ M) z group) q.1
              (record_metadata_later layer_at b e V M owner group (record_made layer_at b V M owner s group h may.1 may.2 r))))
              (λ o. record_metadata_later layer_at b e V M g x (inv.fit a g x o))
              (made_cases MetaItem owner group M a g x m);
          trims = λ g place i. let_go_later e g place (inv.trims g place (no_trim (Records owner number item) (λ g p q. cc) g place i));
          shows = inv.shows;
        }

    pub inv_recorded : (owner a from to : ℕ) → MayInChain layer_at b run (Recorded owner a from to) → Inv rows cs (Recorded owner a from to ∷ run)
    inv_recorded owner a from to may =
        let h : HoldsRightly layer_at b V M owner (held b run owner) = holds_of owner may.0 in
        let s : Serving = held b run owner in
        let e : StreamEvent (Group MetaItem) = Answered a from to in
        let out : HasOneOut M owner s.records a may.1 = subst (λ z. HasLine M owner s.records z) may.2 h.has_records in
        record {
          served = inv.served;
          metadata_served = ((owner, may.1, one_out_is_made MetaItem M owner s.records a may.1 out), inv.metadata_served);
          holds = λ g is.
              by_owner (λ z s. HoldsRightly layer_at b V (Answered a from to ∷ M) z s) (held b run) recorded owner g
              (holds_recorded layer_at b V M owner (held b run owner) a from to may.1 h may.2)
              (λ (q : g ≡ owner → ⊥). holds_metadata_later layer_at b e V M g (held b run g) tt (inv.holds g is));
          fit = λ x g y m. record_metadata_later layer_at b e V M g y (inv.fit x g y (answered_made MetaItem a from to M x g y m));
          trims = λ g place i. let_go_later e g place (inv.trims g place (no_trim (Recorded owner a from to) (λ g p q. cc) g place i));
          shows = inv.shows;
        }

    -- a load is confirmed
    module _ (begins : IsBeginning layer_at b) (owner start end : ℕ) (groups : List (Placed (Group Transaction))) (metadata_end : ℕ) (records : List (Placed (Group MetaItem)))
        (may : MayInChain layer_at b run (Confirms owner start end groups metadata_end records))
        (right : (key : Bytes) → stored (rows (length (log_of run))) key ≡ kept (said b (line_shown records)).keys (λ k. flat (loaded_layer b layer_at groups records k)) key)
        (order : KeepsOrder (Showed owner 0 end (map placed (cs (length (log_of run)))) ∷ V)) (ends : EndsRise (Showed owner 0 end (map placed (cs (length (log_of run)))) ∷ V))
        (behind : StandsBehind b.place (Showed owner 0 end (map placed (cs (length (log_of run)))) ∷ V) order)
        (copies_are : order.copies (length V) ≡ cs (length (log_of run))) (metadata_order : KeepsOrder (Showed owner 0 metadata_end records ∷ M))
        (shown : groups ≡ map placed (from_place start (cs (length (log_of run))))) where
      abbrev xs : List (Placed (Group Transaction))
      xs = map placed (cs (length (log_of run)))

      abbrev load : StreamEvent (Group Transaction)
      load = Showed owner 0 end xs

      abbrev metadata_load : StreamEvent (Group MetaItem)
      metadata_load = Showed owner 0 metadata_end records

      abbrev now : MetadataState
      now = said b (line_shown records)

      fresh : IsLoaded V owner → ⊥
      fresh h = may.0 (serving_back owner h)

      metadata_fresh : IsLoaded M owner → ⊥
      metadata_fresh h = may.0 (loaded_in_log run owner h)

      served : IsServed (Showed owner 0 end xs ∷ V)
      served = ((refl, λ l s e other h. fresh (l, s, e, other, h)), inv.served)

      metadata_served : IsServed (Showed owner 0 metadata_end records ∷ M)
      metadata_served = ((refl, λ l s e other h. metadata_fresh (l, s, e, other, h)), inv.metadata_served)

      start_is : start ≡ start_number now.regions
      start_is =
          let at : MayStart layer_at b run owner start (line_shown records) = may.1 in
          at.2 ∙ base_low layer_at b begins V M owner end metadata_end xs records served order ends behind metadata_served metadata_order inv.fit at.0 (lower at.0 at.1)
        where
          lower : (base : ℕ) → (base ≤ b.place) ⊎ ((g' : ℕ) × (g' < owner) × Contains run (Trims g' base)) →
              (base ≤ b.place) ⊎ ((h : ℕ) × (h < owner) × (before : List MetaItem) × HadLine M h before × (base ≤ start_number (said b before).regions))
          lower base (inl z) = inl z
          lower base (inr t) =
              let k : LetGo M t.0 base = inv.trims t.0 base (in_contains (Trims t.0 base) run t.2) in
              inr (t.0, t.1, k.0, k.1, k.2)

      groups_are : groups ≡ map placed (from_place (start_number now.regions) (order.copies (length V)))
      groups_are = shown ∙ ap (λ z. map placed (from_place z (cs (length (log_of run))))) start_is ∙ ap (λ z. map placed (from_place (start_number now.regions) z)) (sym copies_are)

      shows_line : ShowsLine b (record { rows = rows (length (log_of run)); keys = now.keys; next = next_loaded b groups records }) (line_shown xs)
      shows_line = record {
        table = λ key.
            right key
            ∙ kept_same now.keys (λ k. flat (loaded_layer b layer_at groups records k)) (after_line (line_shown xs) b.table)
            (loaded_table layer_at b begins V M owner end metadata_end xs records served order ends behind metadata_served metadata_order inv.fit groups groups_are) key;
        number = loaded_next layer_at b begins V M owner end metadata_end xs records served order ends behind metadata_served metadata_order inv.fit groups groups_are;
      }

      pub inv_confirms : Inv rows cs (Confirms owner start end groups metadata_end records ∷ run)
      inv_confirms = record {
        served = served;
        metadata_served = metadata_served;
        holds = λ g is.
            by_owner (λ z s. HoldsRightly layer_at b (Showed owner 0 end xs ∷ V) (Showed owner 0 metadata_end records ∷ M) z s) (held b run) (λ s. confirmed b start end groups records) owner g
            (holds_confirmed layer_at b begins V M owner end metadata_end xs records served order ends behind metadata_served metadata_order inv.fit groups groups_are start start_is fresh metadata_fresh)
            (λ (q : g ≡ owner → ⊥).
            let old : IsLoaded V g = (
              is.0,
              is.1,
              is.2,
              is.3,
              ⊎_elim {C = IsShownAt Transaction V is.0 g is.1 is.2 is.3} (λ (n : (is.0 ≡ length V) × (owner ≡ g) × (xs ≡ is.3)). absurd (q (sym n.1))) (λ o. o)
                  (shown_cases Transaction owner 0 end xs V is.0 g is.1 is.2 is.3 is.4),
            ) in
            holds_log_later layer_at b load V (Showed owner 0 metadata_end records ∷ M) g (held b run g) q
            (holds_metadata_later layer_at b metadata_load V M g (held b run g) q (inv.holds g old)));
        fit = λ a g x m.
            record_log_later layer_at b load V (Showed owner 0 metadata_end records ∷ M) g x
            (record_metadata_later layer_at b metadata_load V M g x (inv.fit a g x (showed_made MetaItem owner 0 metadata_end records M a g x m)));
        trims = λ g place i. let_go_later metadata_load g place (inv.trims g place (no_trim (Confirms owner start end groups metadata_end records) (λ g p q. cc) g place i));
        shows = λ l g s e ys is.
            let len : length V ≡ length (log_of run) = whole_length (Group Transaction) cs (log_of run) in
            let mine : ShownLoad = record { rows = rows (length (log_of run)); keys = now.keys; next = next_loaded b groups records } in
            let at : ℕ → ShownLoad = λ n. cond (eqb n (length (log_of run))) (record { rows = rows n; keys = now.keys; next = next_loaded b groups records }) (shown_at b rows run n) in
            ⊎_elim {C = ShowsLine b (at l) (line_shown ys)}
            (λ (n : (l ≡ length V) × (owner ≡ g) × (xs ≡ ys)).
            let last : l ≡ length (log_of run) = n.0 ∙ len in
            let here : mine ≡ at l = sym (ap at last ∙ same_one ShownLoad (length (log_of run)) mine (shown_at b rows run (length (log_of run)))) in
            subst (λ z. ShowsLine b z (line_shown ys)) here (subst (λ z. ShowsLine b mine (line_shown z)) n.2 shows_line))
            (λ (o : IsShownAt Transaction V l g s e ys).
            let low : l < length V = bound (Group Transaction) V l (Showed g s e ys) o in
            let there : shown_at b rows run l ≡ at l = sym (other_one ShownLoad l (length (log_of run)) (record { rows = rows l; keys = now.keys; next = next_loaded b groups records }) (shown_at b rows run l) (λ (q : l ≡ length (log_of run)). omega arith)) in
            subst (λ z. ShowsLine b z (line_shown ys)) there (inv.shows l g s e ys o))
            (shown_cases Transaction owner 0 end xs V l g s e ys is);
      }

  -- ---- each run

  behind_before : (e : StreamEvent (Group Transaction)) (earlier : LogStory) (order : KeepsOrder (e ∷ earlier)) → StandsBehind b.place (e ∷ earlier) order →
      StandsBehind b.place earlier (order_before (Group Transaction) e earlier order)
  unfolding order_before
  behind_before e earlier order h = record {
    copies = h.copies;
    ends = λ l g start end groups is. h.ends l g start end groups (older (Group Transaction) e earlier l (Showed g start end groups) is);
  }

  behind_whole : (story : LogStory) (order : KeepsOrder story) → StandsBehind b.place story order →
      StandsBehind b.place (whole (Group Transaction) order.copies story) (whole_order (Group Transaction) story order)
  unfolding whole_order
  behind_whole story order h = record {
    copies = h.copies;
    ends = λ l g start end groups is.
        let r : (s' : ℕ) × (xs' : List (Placed (Group Transaction))) × (event_at story l ≡ Some (Showed g s' end xs')) × (start ≡ 0) × (groups ≡ map placed (order.copies l)) =
        back_shown (Group Transaction) order.copies story l g start end groups is in
        h.ends l g r.0 end r.1 r.2;
  }

  pub inv_of : (rows : ℕ → List Row) (run : Run) → IsBeginning layer_at b → IsChainRun layer_at b run → ShowsLayers layer_at b rows run →
      (order : KeepsOrder (log_of run)) → EndsRise (log_of run) → StandsBehind b.place (log_of run) order → KeepsOrder (meta_of run) → Inv rows order.copies run
  unfolding order_before whole_order
  inv_of rows [] begins ok right order ends behind metadata_order = record {
    served = tt;
    metadata_served = tt;
    holds = λ g h. absurd (let q : event_at [] h.0 ≡ Some (Showed g h.1 h.2 h.3) = h.4 in cc);
    fit = λ a h x m. absurd (cc);
    trims = λ g p i. absurd i;
    shows = λ l g s e xs h. absurd (cc);
  }
  inv_of rows (Forms g group ∷ run) begins ok right order ends behind metadata_order =
      let e : StreamEvent (Group Transaction) = Made g group in
      inv_forms rows order.copies run
      (inv_of rows run begins ok.1 right (order_before (Group Transaction) e (log_of run) order) (ends_before (Group Transaction) e (log_of run) ends) (behind_before e (log_of run) order behind) metadata_order) g group ok.0
  inv_of rows (Logged g a from to ∷ run) begins ok right order ends behind metadata_order =
      let e : StreamEvent (Group Transaction) = Answered a from to in
      inv_logged rows order.copies run
      (inv_of rows run begins ok.1 right (order_before (Group Transaction) e (log_of run) order) (ends_before (Group Transaction) e (log_of run) ends) (behind_before e (log_of run) order behind) metadata_order) g a from to ok.0
  inv_of rows (Notes g ∷ run) begins ok right order ends behind metadata_order = inv_notes rows order.copies run (inv_of rows run begins ok.1 right order ends behind metadata_order) g ok.0
  inv_of rows (Records g number item ∷ run) begins ok right order ends behind metadata_order =
      inv_records rows order.copies run (inv_of rows run begins ok.1 right order ends behind (order_before (Group MetaItem) (Made g (record_group number item)) (meta_of run) metadata_order)) g number item ok.0
  inv_of rows (Recorded g a from to ∷ run) begins ok right order ends behind metadata_order =
      inv_recorded rows order.copies run (inv_of rows run begins ok.1 right order ends behind (order_before (Group MetaItem) (Answered a from to) (meta_of run) metadata_order)) g a from to ok.0
  inv_of rows (Trims g place ∷ run) begins ok right order ends behind metadata_order = inv_trims rows order.copies run (inv_of rows run begins ok.1 right order ends behind metadata_order) g place ok.0
  inv_of rows (Confirms g start end groups metadata_end records ∷ run) begins ok right order ends behind metadata_order =
      let e : StreamEvent (Group Transaction) = Showed g start end groups in
      inv_confirms rows order.copies run
      (inv_of rows run begins ok.1 right.1 (order_before (Group Transaction) e (log_of run) order) (ends_before (Group Transaction) e (log_of run) ends) (behind_before e (log_of run) order behind)
      (order_before (Group MetaItem) (Showed g 0 metadata_end records) (meta_of run) metadata_order))
      begins g start end groups metadata_end records ok.0 right.0
      (whole_order (Group Transaction) (e ∷ log_of run) order)
      (ends_whole (Group Transaction) order.copies (e ∷ log_of run) ends)
      (behind_whole (e ∷ log_of run) order behind)
      (ap order.copies (whole_length (Group Transaction) order.copies (log_of run)))
      metadata_order
      (order.shown (length (log_of run)) g start end groups (newest (Group Transaction) e (log_of run)))

  -- THE LAW OF A CHAIN
  pub chain_replays : (rows : ℕ → List Row) (run : Run) → IsBeginning layer_at b → IsChainRun layer_at b run → ShowsLayers layer_at b rows run →
      (order : KeepsOrder (log_of run)) → EndsRise (log_of run) → StandsBehind b.place (log_of run) order → KeepsOrder (meta_of run) → ChainReplays b rows run
  chain_replays rows run begins ok right order ends behind metadata_order =
      let inv : Inv rows order.copies run = inv_of rows run begins ok right order ends behind metadata_order in
      let log : LogStory = whole_log order.copies run in
      let all : KeepsOrder log = whole_order (Group Transaction) (log_of run) order in
      let shown : (l g s e : ℕ) (xs : List (Placed (Group Transaction))) → event_at (log_of run) l ≡ Some (Showed g s e xs) → IsShownAt Transaction log l g 0 e (map placed (order.copies l)) =
      λ l g s e xs h. to_shown (Group Transaction) order.copies (log_of run) l g s e xs h in
      record {
        line = λ l. line_shown (map placed (order.copies l));
        shown = λ l g s e xs h. inv.shows l g 0 e (map placed (order.copies l)) (shown l g s e xs h);
        in_order = λ l m g h s e s' e' xs ys hl hm lt.
            lines_begin Transaction log inv.served all l m g h 0 e 0 e' (map placed (order.copies l)) (map placed (order.copies m)) (shown l g s e xs hl) (shown m h s' e' ys hm) lt;
        complete = λ l g s e a g' k from to xs group hl ha lt hk.
            answered_stands Transaction log inv.served all l g 0 e a g' k from to (map placed (order.copies l)) group (shown l g s e xs hl)
            (to_made (Group Transaction) order.copies (log_of run) a g' group ha) lt (to_answered (Group Transaction) order.copies (log_of run) k a from to hk);
        began = λ l g s e xs us vs t hl eq.
            let f : ItemFrom Transaction log inv.served all l g us t = item_from Transaction log inv.served all l g 0 e (map placed (order.copies l)) (shown l g s e xs hl) us vs t eq in
            (f.append, f.generation, f.of, back_made (Group Transaction) order.copies (log_of run) f.append f.generation f.of f.made, f.below, f.earlier, f.front, f.back, f.items, f.number);
      }
