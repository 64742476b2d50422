-- What a range that is served keeps while it takes transactions and its groups come to stand: the values of its layers stand within what was
-- shown and answered.
use Rattle.std.proofs.Common.{◌≡◌, ℕ, suc, ◌+◌, ◌-◌, ◌<◌, ◌^◌, true, false, not, List, [], ◌∷◌, ◌++◌, length, map, nat_lt, ◌&&◌, Option, Some, None, is_some, refl, sym, ◌∙◌, subst, arith, if◌then◌else◌}
use Rattle.std.specs.Prelude.{flat_map, take}
use Rattle.wire.specs.declared.actor.ActorId.{ActorId}
use Rattle.wire.specs.declared.actor.ReqNo.{ReqNo}
use Rattle.wire.specs.declared.packet.Packet.{Packet}
use Rattle.wire.specs.declared.refusal.Refusal.{Refusal}
use Rattle.wire.specs.declared.streams.StreamKind.TheVariants as kinds
use Rattle.wire.specs.declared.transaction.Change.{Change}
use Rattle.replica.specs.Groups.{joined}
use Rattle.memtable.specs.Entries.{put_all}
use Rattle.client.specs.declared.job.News.{News}
use Rattle.client.specs.declared.job.News.TheVariants as news
use Rattle.client.specs.declared.load.LoadPhase.TheVariants as phases
use Rattle.client.specs.Client.{ClientState}
use Rattle.commitlog.specs.Places.{kept}
use Rattle.model_streams.proofs.Tests.{if_elim}
use Rattle.model_partition.specs.declared.server_context.ServerContext.{ServerContext}
use Rattle.model_partition.specs.declared.shown_table.ShownTable.{ShownTable}
use Rattle.model_partition.specs.declared.table_note.TableNote.{TableNote}
use Rattle.model_partition.specs.declared.waiting.WaitingTransaction.{WaitingTransaction}
use Rattle.model_partition.specs.Answering.{serving_news}
use Rattle.model_partition.specs.Range.{OutGroup, RangeState, RangeOutcome, goes, if_there, is_serving}
use Rattle.model_partition.specs.Serving.{group_count, began, appends as appending, forms, transact_fault, transacts, transact_rule, dones, record_of, out_size, applies, log_done}
use Rattle.model_histories.specs.StreamActions.{StreamAction, Forms, Stands, PlacedBytes, group_of, formed, transact_actions, last_position, stood, serving_actions}
use Rattle.laws_loads.proofs.WaitingIsSound.{is_next, appends_sound, pushed_sound, taken_served}
use Rattle.laws_loads.specs.Sound.{IsSound, OutFits}
use Rattle.commitlog.specs.Record.{Fits}
use Rattle.commitlog.proofs.Measures.{size-spelling}
use Rattle.laws_server_runs.proofs.LaidFits.{applied_low}
use Rattle.laws_loads.specs.RangeView.{RangeView, view_after_all}
use Rattle.laws_server_runs.specs.Places.{AreWithin, AreLow, NotesWithin, placed_of, CheckpointLaid, RangeLaid, RangeLaidIf, Quiet, IsQuiet, IsConfirmed, TablesAre, RuleLaid}
use Rattle.laws_server_runs.proofs.LaidBytes.{Covers, entries_on, checkpoint_on, actions_cover, later_cover, spelled_within}
use Rattle.laws_server_runs.proofs.LaidLayers.{within_front, within_behind, within_put}
use Rattle.laws_server_runs.proofs.LaidStates.{both_quiet, formed_quiet, Left, left_drops}

-- ---- observations

notes_both : (k g : ℕ) (shown : List PlacedBytes) (xs ys : List TableNote) → NotesWithin k g shown xs → NotesWithin k g shown ys → NotesWithin k g shown (xs ++ ys)
notes_both k g shown [] ys a b = b
notes_both k g shown (x ∷ xs) ys a b = (a.0, notes_both k g shown xs ys a.1 b)

began_within : (k g : ℕ) (shown : List PlacedBytes) (range generation s : ℕ) (ts : List WaitingTransaction) → range ≡ k → generation ≡ g → NotesWithin k g shown (began range generation s ts)
began_within k g shown range generation s [] is under = tt
began_within k g shown range generation s (t ∷ ts) is under = ((is, under), began_within k g shown range generation (suc s) ts is under)

dones_within : (k g : ℕ) (shown : List PlacedBytes) (range generation s : ℕ) (ts : List WaitingTransaction) → range ≡ k → generation ≡ g → NotesWithin k g shown (dones range generation s ts)
dones_within k g shown range generation s [] is under = tt
dones_within k g shown range generation s (t ∷ ts) is under = ((is, under), dones_within k g shown range generation (suc s) ts is under)

-- none shows a table
module _ (Is : ShownTable → Type 0) where
  began_none : (range g s : ℕ) (ts : List WaitingTransaction) → TablesAre Is (began range g s ts)
  began_none range g s [] = tt
  began_none range g s (t ∷ ts) = began_none range g (suc s) ts

  dones_none : (range g s : ℕ) (ts : List WaitingTransaction) (notes : List TableNote) → TablesAre Is notes → TablesAre Is (dones range g s ts ++ notes)
  dones_none range g s [] notes rest = rest
  dones_none range g s (t ∷ ts) notes rest = dones_none range g (suc s) ts notes rest

-- a state that is served
pub record IsServed (k g : ℕ) (placed : List PlacedBytes) (s : RangeState) : Type 0 where
  pub range : s.load.range ≡ k
  pub generation : s.load.generation ≡ g
  pub serving : is_serving s.stage ≡ true
  pub confirmed : s.load.phase ≡ phases.Confirmed
  pub live : AreWithin placed s.live
  pub low : AreLow s.live
  pub sound : IsSound s
  pub checkpoint : CheckpointLaid placed s.rows s.fixed s.control

abbrev pub IsServedIf : ℕ → ℕ → List PlacedBytes → Option RangeState → Type 0
IsServedIf k g placed None = Unit {0}
IsServedIf k g placed (Some s) = IsServed k g placed s

module _ (k g : ℕ) (placed : List PlacedBytes) (Is : ShownTable → Type 0) (d : ServerContext) where
  -- a step of a range that is served
  pub record ServesOn (o : RangeOutcome) : Type 0 where
    pub there : is_some o.after ≡ true
    pub after : IsServedIf k g placed o.after
    pub notes : (shown : List PlacedBytes) → NotesWithin k g shown o.notes
    pub tables : TablesAre Is o.notes

  pub calm_on : (s : RangeState) → IsServed k g placed s → (packets : List Packet) → ServesOn (goes d s packets [])
  calm_on s b packets = record { there = refl; after = b; notes = λ shown. tt; tables = tt }

  forms_on : (s : RangeState) → IsServed k g placed s → ServesOn (forms d s)
  forms_on s b =
      if_elim ServesOn (not (is_some s.out) && (nat_lt 0 (group_count d s) && nat_lt (s.next + group_count d s) (2 ^ 64))) (appending d s (group_count d s)) (goes d s [] [])
      (λ t. record {
        there = refl;
        after = record { range = b.range; generation = b.generation; serving = b.serving; confirmed = b.confirmed; live = b.live; low = b.low; sound = appends_sound d s (group_count d s) b.sound (is_next d s b.sound t); checkpoint = b.checkpoint };
        notes = λ shown. began_within k g shown s.load.range s.load.generation s.next _ b.range b.generation;
        tables = began_none Is s.load.range s.load.generation s.next (take (group_count d s) s.queue);
      })
      (λ f. calm_on s b [])

  -- the group stands, and its values with it
  pub applies_on : (s : RangeState) → IsServed k g placed s → (out : OutGroup) (extent offset : ℕ) → AreWithin placed (flat_map (λ changes. changes) (kept (record_of out.first out.transactions) extent offset)) →
      s.out ≡ Some out → offset + out_size out < 2 ^ 32 → ServesOn (applies d s out extent offset)
  applies_on s b out extent offset values is room =
      let after : RangeState =
      record s {
        live = put_all s.live (flat_map (λ changes. changes) (kept (record_of out.first out.transactions) extent offset));
        position = record { index = (s.log.base + length s.log.extents) - 1; offset = offset + out_size out };
        out = None;
      } in
      let fits : Fits (record_of out.first out.transactions) = subst OutFits is b.sound.out_fits in
      let f : ServesOn (forms d after) =
      forms_on after (record {
        range = b.range;
        generation = b.generation;
        serving = b.serving;
        confirmed = b.confirmed;
        live = within_put placed s.live (flat_map (λ changes. changes) (kept (record_of out.first out.transactions) extent offset)) b.live values;
        low = applied_low s.live extent offset (record_of out.first out.transactions) b.low fits.transactions (omega (arith, room, size-spelling (record_of out.first out.transactions)));
        sound = record { queue_fits = b.sound.queue_fits; out_fits = tt; counted = omega (arith, b.sound.counted); numbered = b.sound.numbered };
        checkpoint = b.checkpoint;
      }) in
      record {
        there = f.there;
        after = f.after;
        notes = λ shown. notes_both k g shown (dones s.load.range s.load.generation out.first out.transactions) _ (dones_within k g shown s.load.range s.load.generation out.first out.transactions b.range b.generation) (f.notes shown);
        tables = dones_none Is s.load.range s.load.generation out.first out.transactions _ f.tables;
      }

  pub queued_on : (s : RangeState) → IsServed k g placed s → ServesOn (forms d s)
  queued_on s b = forms_on s b

module _ (k : ℕ) (v : RangeView) (r : RangeState) (before : RangeLaid k v r) (d : ServerContext) where
  abbrev placed : List StreamAction → List PlacedBytes
  placed actions = placed_of (view_after_all r.load.generation v actions)

  served_laid : (w : RangeView) (s : RangeState) → IsServed k r.load.generation (placed_of w) s → RangeLaid k w s
  served_laid w s b = record {
    range = b.range;
    confirmed = λ e. b.confirmed;
    layer = λ e. absurd (let z : true ≡ false = sym b.serving ∙ e in cc);
    live = λ e. b.live;
    low = b.low;
    sound = b.sound;
    checkpoint = b.checkpoint;
  }

  -- it was served before
  is_served : (actions : List StreamAction) → is_serving r.stage ≡ true → IsServed k r.load.generation (placed actions) r
  is_served actions e = record {
    range = before.range;
    generation = refl;
    serving = e;
    confirmed = before.confirmed e;
    live = entries_on (placed_of v) (placed actions) (actions_cover r.load.generation v actions) r.live (before.live e);
    low = before.low;
    sound = before.sound;
    checkpoint = checkpoint_on (placed_of v) (placed actions) (actions_cover r.load.generation v actions) r.rows r.fixed r.control before.checkpoint;
  }

  serves_on : (actions : List StreamAction) (o : RangeOutcome) → IsQuiet actions → ServesOn k r.load.generation (placed actions) (IsConfirmed r actions) d o → RuleLaid k v r actions o
  serves_on actions o quiet s = record {
    step = record { after = go o.after s.after; notes = s.notes (view_after_all r.load.generation v actions).shown };
    forms = Quiet actions quiet;
    tables = s.tables;
  }
    where
      go : (a : Option RangeState) → IsServedIf k r.load.generation (placed actions) a → RangeLaidIf k (view_after_all r.load.generation v actions) a
      go None b = tt
      go (Some z) b = served_laid (view_after_all r.load.generation v actions) z b

  serves_left : (actions : List StreamAction) (o : RangeOutcome) → IsQuiet actions → ServesOn k r.load.generation (placed actions) (IsConfirmed r actions) d o → Left k v r actions o
  serves_left actions o quiet s = subst (λ b. RuleLaid k v r (if b then actions else []) o) (sym s.there) (serves_on actions o quiet s)

  -- ---- news of the log

  -- the group that is out ends below what an extent can have
  abbrev pub RoomFor : Option OutGroup → ℕ → Type 0
  RoomFor None offset = Unit {0}
  RoomFor (Some out) offset = offset + out_size out < 2 ^ 32

  abbrev pub RoomIf : Option OutGroup → Option News → Type 0
  RoomIf out (Some (news.Appended e offset)) = RoomFor out offset
  RoomIf out told = Unit {0}

  module _ (serving : is_serving r.stage ≡ true) (c : ClientState) (packets : List Packet) where
    abbrev now : RangeState
    now = record r { log = c }

    calm_left : (sent : List Packet) → Left k v r [] (goes d now sent [])
    calm_left sent =
        let b : IsServed k r.load.generation (placed_of v) r = is_served [] serving in
        serves_left [] (goes d now sent []) tt (calm_on k r.load.generation (placed_of v) (IsConfirmed r []) d now (record { range = b.range; generation = b.generation; serving = b.serving; confirmed = b.confirmed; live = b.live; low = b.low; sound = b.sound; checkpoint = b.checkpoint }) sent)

    done_left : (out : Option OutGroup) → r.out ≡ out → (e offset : ℕ) → RoomFor out offset → Left k v r (stood r out e offset (log_done d now out e offset)) (log_done d now out e offset)
    done_left None is e offset room = calm_left []
    done_left (Some out) is e offset room =
        serves_left (formed o.after ++ stands) o (both_quiet (formed o.after) stands (formed_quiet o.after) tt)
        (applies_on k r.load.generation (placed (formed o.after ++ stands)) (IsConfirmed r (formed o.after ++ stands)) d now (record { range = b.range; generation = b.generation; serving = b.serving; confirmed = b.confirmed; live = b.live; low = b.low; sound = b.sound; checkpoint = b.checkpoint }) out e offset
        (spelled_within (placed (formed o.after ++ stands)) one on (record_of out.first out.transactions) refl) is room)
      where
        o : RangeOutcome
        o = applies d now out e offset

        stands : List StreamAction
        stands = Stands kinds.Log e (last_position r.log offset) (group_of out) ∷ []

        one : PlacedBytes
        one = record { extent = e; offset = offset; bytes = joined (group_of out) }

        on : Covers (one ∷ []) (placed (formed o.after ++ stands))
        on place w = later_cover r.load.generation v (formed o.after) stands place (within_behind v.shown (one ∷ v.answered) place (within_front v.answered (one ∷ []) place w))

        b : IsServed k r.load.generation (placed (formed o.after ++ stands)) r
        b = is_served (formed o.after ++ stands) serving

    pub serving_left : (told : Option News) → RoomIf r.out told → Left k v r (serving_actions r told (serving_news d now told packets)) (serving_news d now told packets)
    serving_left None room = calm_left packets
    serving_left (Some news.Fenced) room = left_drops k v r [] _ _
    serving_left (Some (news.Appended e offset)) room = done_left r.out refl e offset room
    serving_left (Some (news.Checked e l)) room = calm_left packets
    serving_left (Some (news.Sealed e l)) room = calm_left packets
    serving_left (Some (news.Content e upto)) room = calm_left packets

  -- ---- transactions

  refused_laid : (actions : List StreamAction) → actions ≡ [] → (o : RangeOutcome) → RuleLaid k v r [] o → RuleLaid k v r actions o
  refused_laid actions none o l = subst (λ done. RuleLaid k v r done o) (sym none) l

  transacts_laid : (from : ActorId) (q : ReqNo) (changes : List Change) (fault : Option Refusal) → transact_fault d r changes ≡ fault →
      RuleLaid k v r (transact_actions r (transacts d r from q changes fault)) (transacts d r from q changes fault)
  transacts_laid from q changes (Some refusal) e =
      refused_laid (transact_actions r (transacts d r from q changes (Some refusal))) (no_group r.out) (transacts d r from q changes (Some refusal))
      (record { step = record { after = before; notes = tt }; forms = Quiet [] tt; tables = tt })
    where
      no_group : (x : Option OutGroup) → (if is_some x then [] else map (λ out. Forms kinds.Log (group_of out)) (if_there x)) ≡ []
      no_group None = refl
      no_group (Some out) = refl
  transacts_laid from q changes None e = serves_on actions o quiet (queued_on k r.load.generation (placed actions) (IsConfirmed r actions) d (record r { queue = r.queue ++ record { from = from; request = q; changes = changes } ∷ [] }) served)
    where
      o : RangeOutcome
      o = transacts d r from q changes None

      actions : List StreamAction
      actions = transact_actions r o

      quiet : IsQuiet actions
      quiet = if_elim IsQuiet (is_some r.out) [] (formed o.after) (λ t. tt) (λ f. formed_quiet o.after)

      served : IsServed k r.load.generation (placed actions) (record r { queue = r.queue ++ record { from = from; request = q; changes = changes } ∷ [] })
      served =
          let b : IsServed k r.load.generation (placed actions) r = is_served actions (taken_served d r changes e) in
          record { range = b.range; generation = b.generation; serving = b.serving; confirmed = b.confirmed; live = b.live; low = b.low; sound = pushed_sound d r from q changes e b.sound; checkpoint = b.checkpoint }

  pub transact_laid : (from : ActorId) (q : ReqNo) (changes : List Change) → RuleLaid k v r (transact_actions r (transact_rule d r from q changes)) (transact_rule d r from q changes)
  transact_laid from q changes = transacts_laid from q changes (transact_fault d r changes) refl
