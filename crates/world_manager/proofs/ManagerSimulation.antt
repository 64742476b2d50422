-- What the real manager does is what the model's manager does.
use Rattle.std.proofs.Common.{◌≡◌, ◌≢◌, ◌≤◌, ℕ, zero, suc, Bool, true, false, not, ◌==◌, if◌then◌else◌, List, [], ◌∷◌, ◌++◌, length, map, Option, Some, None, Ok, Err, refl, sym, ap, ◌∙◌, subst, append-nil}
use Rattle.std.proofs.lemmas.List.{length-map}
use Rattle.std.proofs.lemmas.Option.{same_Some}
use Rattle.std.proofs.lemmas.Bool.{eqb-true}
use Rattle.block_types.specs.Limits.{IsTarget}
use Rattle.disk.specs.declared.device.DiskFault.TheVariants.{Failed, Memory}
use Rattle.disk.specs.declared.memory.MemDisk.{MemDisk}
use Rattle.disk.specs.Appends.{Records, listed}
use Rattle.disk.specs.Filed.{Filed}
use Rattle.disk.specs.Memory.{memory_state}
use Rattle.block_types.specs.declared.record.Record.{Record}
use Rattle.wire.specs.declared.actor.ActorId.TheVariants.{Manager}
use Rattle.wire.specs.declared.packet.Step.{Step}
use Rattle.model_streams.specs.declared.extent.Extent.{Extent}
use Rattle.model_streams.specs.Maps.{entry_at}
use Rattle.model_streams.specs.Outcome.{Outcome}
use Rattle.model_streams.specs.Manager.{Catalog, catalog_stopped, first_catalog, forgotten, forgotten_if}
use Rattle.model_streams.specs.Replay.{catalog_replay}
use Rattle.model_streams.specs.StreamSystem.{StreamSystem, after_manager_rule, manager_halted, manager_performs, manager_stops, restart, running, stands_in, start, stop, stops_in, unsent}
use Rattle.model_streams.proofs.Tests.{if_elim}
use Rattle.manager_state.specs.Table.{ManagerTableState, SameCatalog, first_table, forgotten_table}
use Rattle.manager_state.specs.Replay.{TableIsReplay}
use Rattle.manager_state.proofs.Recovering.{first_replay}
use Rattle.manager_state.proofs.Spelling.{first_again}
use Rattle.manager.specs.Manager.{ManagerState, ManagerIsReplay, MakesCatalog, ShowsCatalog, first_record, table_of}
use Rattle.manager.specs.Performs.{ManagerPerforms}
use Rattle.world_stops.specs.LastRecord.{shown_if}
use Rattle.world_stops.proofs.StopInRecord.{broken_down, broken_records, broken_stops, burnt_up, no_stop, plan_armed, plan_ok, short_same, up_ok}
use Rattle.world_steps.specs.ActorStep.{ActorStep, nothing, stream_step}
use Rattle.world_manager.specs.Seen.{ManagerSeen, ManagerMirrors, RecordsMakeCatalog, ManagerSteps, CatalogMirrors, new_manager, seen_of}

nil : {A : Type 0} (xs : List A) {ys : List A} → ys ≡ [] → xs ≡ xs ++ ys
nil xs is = sym (ap (λ l. xs ++ l) is ∙ append-nil xs)

nil_end : {A : Type 0} (xs : List A) {ys : List A} → ys ≡ [] → xs ++ [] ≡ xs ++ ys
nil_end xs is = ap (λ l. xs ++ l) (sym is)

-- ---- catalogs and tables

entry-forgotten : (xs : List Extent) (e : ℕ) → entry_at (map forgotten xs) e ≡ forgotten_if (entry_at xs e)
entry-forgotten xs zero = refl
entry-forgotten [] (suc n) = refl
entry-forgotten (x ∷ xs) (suc zero) = refl
entry-forgotten (x ∷ xs) (suc (suc n)) = entry-forgotten xs (suc n)

made_stopped : (rs : List Record) (b : Catalog) → MakesCatalog rs b → RecordsMakeCatalog rs (catalog_stopped b)
made_stopped rs b m = record { catalog = m.catalog; replays = m.replays; nodes = m.nodes; target = m.target; count = m.count; stream = m.stream; extent = m.extent }

-- what the records make is what a stop leaves
replay_stopped : (t : ManagerTableState) (rs : List Record) (b : Catalog) → TableIsReplay t rs → SameCatalog t b → RecordsMakeCatalog rs (catalog_stopped b)
replay_stopped t rs b l shows = record {
  catalog = l.catalog;
  replays = l.replays;
  nodes = l.shows.nodes ∙ sym shows.nodes;
  target = l.shows.target ∙ sym shows.target;
  count = l.shows.count ∙ length-map t.extents forgotten ∙ sym shows.count;
  stream = λ range kind. l.shows.stream range kind ∙ sym (shows.stream range kind);
  extent = λ e. l.shows.extent e ∙ entry-forgotten t.extents e ∙ ap forgotten_if (sym (shows.extent e));
}

-- and a table that was made from them says so
came_back : (t : ManagerTableState) (rs : List Record) (b : Catalog) → RecordsMakeCatalog rs b → TableIsReplay t rs → t ≡ forgotten_table t → SameCatalog t b
came_back t rs b m l fresh =
    let same : m.catalog ≡ l.catalog = same_Some m.catalog l.catalog (sym m.replays ∙ l.replays) in
    let shows : SameCatalog t l.catalog = subst (λ (u : ManagerTableState). SameCatalog u l.catalog) (sym fresh) l.shows in
    record {
      nodes = sym m.nodes ∙ ap (λ (k : Catalog). k.nodes) same ∙ shows.nodes;
      target = sym m.target ∙ ap (λ (k : Catalog). k.target) same ∙ shows.target;
      count = sym m.count ∙ ap (λ (k : Catalog). k.count) same ∙ shows.count;
      stream = λ range kind. sym (m.stream range kind) ∙ ap (λ (j : Catalog). j.stream range kind) same ∙ shows.stream range kind;
      extent = λ e. sym (m.extent e) ∙ ap (λ (j : Catalog). j.extent e) same ∙ shows.extent e;
    }

-- what a table says and what its records make is what is seen
pub lists_told : (x : ManagerState MemDisk) (b : Catalog) → ManagerIsReplay x x.file.records → ShowsCatalog x b → CatalogMirrors (seen_of x) b
lists_told x b l shows = record {
  nodes = shows.nodes;
  target = shows.target;
  count = shows.count;
  extent = shows.extent;
  streams = record { catalog = l.catalog; replays = l.replays; stream = λ range kind. l.shows.stream range kind ∙ sym (shows.stream range kind) };
}

pub told_lists : (x : ManagerState MemDisk) (b : Catalog) → ManagerIsReplay x x.file.records → CatalogMirrors (seen_of x) b → ShowsCatalog x b
told_lists x b l t =
    let same : t.streams.catalog ≡ l.catalog = same_Some t.streams.catalog l.catalog (sym t.streams.replays ∙ l.replays) in
    record {
      nodes = t.nodes;
      target = t.target;
      count = t.count;
      stream = λ range kind. sym (t.streams.stream range kind) ∙ ap (λ (k : Catalog). k.stream range kind) same ∙ l.shows.stream range kind;
      extent = t.extent;
    }

-- one whose table and records are as they were is seen as it was
told_as_before : (x y : ManagerState MemDisk) (b : Catalog) → table_of y ≡ table_of x → y.file.records ≡ x.file.records → CatalogMirrors (seen_of x) b → CatalogMirrors (seen_of y) b
told_as_before x y b kept same t = record {
  nodes = t.nodes ∙ ap (λ (u : ManagerTableState). u.nodes) (sym kept);
  target = t.target ∙ ap (λ (u : ManagerTableState). u.target) (sym kept);
  count = t.count ∙ ap (λ (u : ManagerTableState). length u.extents) (sym kept);
  extent = λ e. t.extent e ∙ ap (λ (u : ManagerTableState). entry_at u.extents e) (sym kept);
  streams = record { catalog = t.streams.catalog; replays = ap catalog_replay same ∙ t.streams.replays; stream = t.streams.stream };
}

ok_records : (old new : Filed MemDisk) (k : Option Record) (s : Step) → Records memory_state old new (listed k) (Ok s) → new.records ≡ old.records ++ listed k
ok_records old new None s h = ap (λ (f : Filed MemDisk). f.records) h.0 ∙ sym (append-nil old.records)
ok_records old new (Some r) s h = h.ok.2

-- and after a rule what the rule says of it
rule_told : (o : Outcome Catalog) (x y : ManagerState MemDisk) (s : Step) → ManagerPerforms memory_state x y o (Ok s) → CatalogMirrors (seen_of y) o.after
rule_told o x y s h = record {
  nodes = h.after.nodes;
  target = h.after.target;
  count = h.after.count;
  extent = h.after.extent;
  streams = record { catalog = h.stands.catalog; replays = ap catalog_replay (ok_records x.file y.file o.written s h.file) ∙ h.stands.replays; stream = h.stands.stream };
}

-- ---- a rule

pub served_ok : (o : Outcome Catalog) (x y : ManagerState MemDisk) (w : StreamSystem) (s : Step) → x.file.stopped ≡ false → ManagerMirrors (seen_of x) w →
    ManagerPerforms memory_state x y o (Ok s) → ManagerSteps (seen_of y) w (manager_performs w o) (stream_step s)
served_ok o x y w s up m h =
    if_elim (λ v. ManagerSteps (seen_of y) w v (stream_step s)) (stops_in w.manager_cell o.written) _ _
    (λ t. absurd (no_stop x.file y.file o.written s w.manager_cell h.file (m.plan up) t))
    (λ f. record {
      post = ap (λ l. w.post ++ l) (sym h.packets);
      notes = ap (λ l. w.notes ++ l) (sym h.notes);
      manager = record {
        running = λ _. rule_told o x y s h;
        stopped = λ isdown. absurd (let u = yup in cc);
        up = burnt_up w.manager_cell o.written ∙ m.up ∙ ap not (up ∙ sym yup);
        plan = λ _. plan_ok x.file y.file o.written s w.manager_cell h.file (m.plan up) f;
      };
      replica = refl;
      cell = refl;
      nodes = refl;
    })
  where
    yup : y.file.stopped ≡ false
    yup = up_ok x.file y.file o.written s h.file up

halted_manager : (y : ManagerSeen) (w u : StreamSystem) (s : ActorStep) → y.stopped ≡ true → u.post ≡ w.post ++ s.packets → u.notes ≡ w.notes ++ s.notes → RecordsMakeCatalog y.records (catalog_stopped u.catalog) →
    u.replica ≡ w.replica → u.cell ≡ w.cell → u.nodes ≡ w.nodes → ManagerSteps y w (manager_halted u) s
halted_manager y w u s isdown post notes makes replica cell nodes = record {
  post = post;
  notes = notes;
  manager = record {
    running = λ isup. absurd (let d = isdown in cc);
    stopped = λ _. makes;
    up = ap not (sym isdown);
    plan = λ isup. absurd (let d = isdown in cc);
  };
  replica = replica;
  cell = cell;
  nodes = nodes;
}

-- it stops in the rule's record; what the rule shows is there where the record stands
pub served_broken : (o : Outcome Catalog) (x y : ManagerState MemDisk) (w : StreamSystem) (s : ActorStep) → x.file.stopped ≡ false → ManagerMirrors (seen_of x) w → ManagerIsReplay x x.file.records →
    s.packets ≡ [] → (stops_in w.manager_cell o.written ≡ true → s.notes ≡ shown_if (stands_in w.manager_cell) o.notes) → ManagerPerforms memory_state x y o (Err Failed) → ManagerSteps (seen_of y) w (manager_performs w o) s
served_broken o x y w s up m before sent told h =
    if_elim (λ v. ManagerSteps (seen_of y) w v s) (stops_in w.manager_cell o.written) _ _
    (λ t. if_elim2 (stands_in w.manager_cell)
    (λ c. (y.file.records ≡ (if c then x.file.records ++ listed o.written else x.file.records)) × (s.notes ≡ shown_if c o.notes))
    (λ c. ManagerSteps (seen_of y) w (if c then manager_halted (after_manager_rule w (unsent o)) else manager_halted w) s)
    (broken_records x.file y.file o.written w.manager_cell h.file (m.plan up) t, told t)
    (λ more. halted_manager (seen_of y) w (after_manager_rule w (unsent o)) s ydown (nil_end w.post sent) (ap (λ l. w.notes ++ l) (sym more.1))
    (subst (λ (rs : List Record). RecordsMakeCatalog rs (catalog_stopped o.after)) (sym more.0) (made_stopped (x.file.records ++ listed o.written) o.after h.stands)) refl refl refl)
    (λ less. halted_manager (seen_of y) w w s ydown (nil w.post sent) (nil w.notes less.1)
    (subst (λ (rs : List Record). RecordsMakeCatalog rs (catalog_stopped w.catalog)) (sym less.0) (replay_stopped (table_of x) x.file.records w.catalog before (told_lists x w.catalog before (m.running up)))) refl refl refl))
    (λ f. absurd (broken_stops x.file y.file o.written w.manager_cell h.file (m.plan up) f))
  where
    if_elim2 : (b : Bool) (Q P : Bool → Type 0) → Q b → (Q true → P true) → (Q false → P false) → P b
    if_elim2 true Q P q f g = f q
    if_elim2 false Q P q f g = g q

    ydown : y.file.stopped ≡ true
    ydown = broken_down x.file y.file o.written h.file

-- where no memory was left all that is seen of it is as it was
pub manager_same : (o : Outcome Catalog) (x y : ManagerState MemDisk) → ManagerPerforms memory_state x y o (Err Memory) → seen_of y ≡ seen_of x
manager_same o x y h =
    let f = short_same x.file y.file o.written h.file in
    let table : table_of y ≡ table_of x = h.same in
    λ i. record { nodes = (table i).nodes; target = (table i).target; extents = (table i).extents; records = f.0 i; stopped = f.1 i; stop = f.2 i }

pub served_still : (x : ManagerSeen) (w : StreamSystem) (s : ActorStep) → ManagerMirrors x w → s.packets ≡ [] → s.notes ≡ [] → ManagerSteps x w w s
served_still x w s m sent told = record { post = nil w.post sent; notes = nil w.notes told; manager = m; replica = refl; cell = refl; nodes = refl }

-- one that has stopped does nothing
pub served_down : (x : ManagerSeen) (w v : StreamSystem) (s : ActorStep) → x.stopped ≡ true → ManagerMirrors x w → s.packets ≡ [] → s.notes ≡ [] → ManagerSteps x w (if w.manager_cell.up then v else w) s
served_down x w v s isdown m sent told =
    if_elim (λ u. ManagerSteps x w u s) w.manager_cell.up v w
    (λ t. absurd (let a = m.up ∙ ap not isdown in cc))
    (λ f. served_still x w s m sent told)

-- one that runs does
pub served_up : (x y : ManagerSeen) (w v : StreamSystem) (s : ActorStep) → x.stopped ≡ false → ManagerMirrors x w → ManagerSteps y w v s → ManagerSteps y w (if w.manager_cell.up then v else w) s
served_up x y w v s isup m h =
    if_elim (λ u. ManagerSteps y w u s) w.manager_cell.up v w
    (λ t. h)
    (λ f. absurd (let a = m.up ∙ ap not isup in cc))

-- ---- stops and restarts

pub manager_stop_down : (call : ℕ) (keep : Bool) (x : ManagerSeen) (w : StreamSystem) → x.stopped ≡ true → ManagerMirrors x w → ManagerSteps x w (stop w Manager call keep) nothing
manager_stop_down call keep x w isdown m = served_down x w (manager_stops w call keep) nothing isdown m refl refl

pub manager_stop_now : (call : ℕ) (keep : Bool) (x y : ManagerState MemDisk) (w : StreamSystem) → x.file.stopped ≡ false → call ≡ 0 → ManagerMirrors (seen_of x) w → ManagerIsReplay x x.file.records →
    y.file.records ≡ x.file.records → y.file.stopped ≡ true → ManagerSteps (seen_of y) w (stop w Manager call keep) nothing
manager_stop_now call keep x y w up now m before same isdown =
    served_up (seen_of x) (seen_of y) w (manager_stops w call keep) nothing up m
    (if_elim (λ v. ManagerSteps (seen_of y) w v nothing) (call == 0) (manager_halted w) _
    (λ z. halted_manager (seen_of y) w w nothing isdown (sym (append-nil w.post)) (sym (append-nil w.notes))
    (subst (λ (rs : List Record). RecordsMakeCatalog rs (catalog_stopped w.catalog)) (sym same) (replay_stopped (table_of x) x.file.records w.catalog before (told_lists x w.catalog before (m.running up)))) refl refl refl)
    (λ z. absurd (let f = subst (λ k. (k == 0) ≡ false) now z in cc)))

pub manager_stop_later : (call : ℕ) (keep : Bool) (x y : ManagerState MemDisk) (w : StreamSystem) → x.file.stopped ≡ false → call ≢ 0 → ManagerMirrors (seen_of x) w →
    table_of y ≡ table_of x → y.file.records ≡ x.file.records → y.file.stopped ≡ x.file.stopped → (memory_state y.file.disk).stop ≡ Some (call, keep) → ManagerSteps (seen_of y) w (stop w Manager call keep) nothing
manager_stop_later call keep x y w up later m kept records same told =
    served_up (seen_of x) (seen_of y) w (manager_stops w call keep) nothing up m
    (if_elim (λ v. ManagerSteps (seen_of y) w v nothing) (call == 0) (manager_halted w) _
    (λ z. absurd (later (eqb-true call 0 z)))
    (λ z. record {
      post = sym (append-nil w.post);
      notes = sym (append-nil w.notes);
      manager = record {
        running = λ _. told_as_before x y w.catalog kept records (m.running up);
        stopped = λ isdown. absurd (let a = same ∙ up in cc);
        up = ap not (sym (same ∙ up));
        plan = λ _. told ∙ sym (plan_armed call keep later);
      };
      replica = refl;
      cell = refl;
      nodes = refl;
    }))

pub manager_restart_up : (x : ManagerSeen) (w : StreamSystem) → x.stopped ≡ false → ManagerMirrors x w → ManagerSteps x w (restart w Manager) nothing
manager_restart_up x w isup m =
    if_elim (λ v. ManagerSteps x w v nothing) w.manager_cell.up w (record w { manager_cell = running })
    (λ t. served_still x w nothing m refl refl)
    (λ f. absurd (let a = m.up ∙ ap not isup in cc))

pub manager_restarts : (x y : ManagerState MemDisk) (w : StreamSystem) → x.file.stopped ≡ true → ManagerMirrors (seen_of x) w → y.file.stopped ≡ false → y.file.records ≡ x.file.records →
    (memory_state y.file.disk).stop ≡ None → ManagerIsReplay y y.file.records → table_of y ≡ forgotten_table (table_of y) → ManagerSteps (seen_of y) w (restart w Manager) nothing
manager_restarts x y w isdown m isup same untold made fresh =
    if_elim (λ v. ManagerSteps (seen_of y) w v nothing) w.manager_cell.up w (record w { manager_cell = running })
    (λ t. absurd (let a = m.up ∙ ap not isdown in cc))
    (λ f. record {
      post = sym (append-nil w.post);
      notes = sym (append-nil w.notes);
      manager = record {
        running = λ _. lists_told y w.catalog made (came_back (table_of y) y.file.records w.catalog (subst (λ (rs : List Record). RecordsMakeCatalog rs w.catalog) (sym same) (m.stopped isdown)) made fresh);
        stopped = λ d. absurd cc;
        up = ap not (sym isup);
        plan = λ _. untold;
      };
      replica = refl;
      cell = refl;
      nodes = refl;
    })

-- ---- a manager with its first record

no_entry : {A : Type 0} (xs : List A) → 0 ≡ length xs → xs ≡ []
no_entry [] none = refl
no_entry (x ∷ xs) none = absurd cc

pub is_new : (nodes target : ℕ) (x : ManagerState MemDisk) → x.file.stopped ≡ false → ShowsCatalog x (first_catalog nodes target) → x.file.records ≡ first_record nodes target ∷ [] →
    (memory_state x.file.disk).stop ≡ None → seen_of x ≡ new_manager nodes target
is_new nodes target x up shows records untold =
    let none = no_entry x.extents shows.count in
    λ i. record { nodes = sym shows.nodes i; target = sym shows.target i; extents = none i; records = records i; stopped = up i; stop = untold i }

-- it is the manager of the model as it begins
pub new_mirrors : (nodes target : ℕ) → (3 ≤ nodes) × (nodes ≤ 12) → IsTarget target → ManagerMirrors (new_manager nodes target) (start nodes target)
new_mirrors nodes target are is = record {
  running = λ up. record {
    nodes = refl;
    target = refl;
    count = refl;
    extent = no_extent;
    streams = record { catalog = first.catalog; replays = first.replays; stream = λ range kind. first.shows.stream range kind };
  };
  stopped = λ isdown. absurd cc;
  up = refl;
  plan = λ up. refl;
}
  where
    first : TableIsReplay (first_table nodes target) (first_record nodes target ∷ [])
    first = first_replay nodes target (first_record nodes target) (first_again nodes target (are, is))

    no_extent : (e : ℕ) → (first_catalog nodes target).extent e ≡ entry_at [] e
    no_extent zero = refl
    no_extent (suc e) = refl
