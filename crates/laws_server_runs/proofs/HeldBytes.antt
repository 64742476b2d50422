-- What a range's cache holds are the bytes of its places, whatever is used of it and whatever comes that stands there.
use Rattle.std.proofs.Common.{◌≡◌, ℕ, zero, suc, ◌-◌, Bool, true, false, cond, List, [], ◌∷◌, take, Option, Some, None, refl, sym, ap, subst, ◌∙◌}
use Rattle.std.specs.Map.{lookup_entry, remove_entry}
use Rattle.std.specs.Option.{option_map_or}
use Rattle.lru.specs.LruCache.{lru_cache, put_entries, promoted}
use Rattle.memtable.specs.declared.cell.Cell.{Cell}
use Rattle.memtable.specs.declared.cell.Cell.TheVariants.{Deleted, Inline, Placed}
use Rattle.memtable.specs.declared.cell.Place.{Place}
use Rattle.checkpoint.specs.declared.installed_index.InstalledIndex.{InstalledIndex}
use Rattle.checkpoint.specs.Lookup.{looked_up}
use Rattle.model_partition.specs.declared.waiting.PlaceRead.{PlaceRead}
use Rattle.model_partition.specs.Getting.{Held, held_at, most_held, used_place, used, used_all, pages_of_key, found_cell, used_for, is_asked, came}
use Rattle.model_histories.specs.IndexContents.{bytes_in}
use Rattle.model_partition.specs.Past.{Bytes}
use Rattle.model_partition.specs.PlaceReads.{is_place}
use Rattle.laws_checkpoints.specs.ShownTables.{HoldsBytes}
use Rattle.laws_checkpoints.proofs.HeldPages.{same_place}

module _ (texts : ℕ → Bytes) where
  -- a pair has the bytes of its place
  abbrev IsRight : Place × Bytes → Type 0
  IsRight x = x.1 ≡ bytes_in texts x.0

  all_removed : (test : Place → Bool) (held : Held) → HoldsBytes texts held → HoldsBytes texts (remove_entry test held)
  all_removed test [] right = tt
  all_removed test (x ∷ held) right = by (test x.0) (all_removed test held right.1)
    where
      by : (b : Bool) → HoldsBytes texts (remove_entry test held) → HoldsBytes texts (cond b held (x ∷ remove_entry test held))
      by true others = right.1
      by false others = (right.0, others)

  all_first : (n : ℕ) (held : Held) → HoldsBytes texts held → HoldsBytes texts (take n held)
  all_first zero held right = tt
  all_first (suc n) [] right = tt
  all_first (suc n) (x ∷ held) right = (right.0, all_first n held right.1)

  -- the first pair whose place passes
  found_right : (test : Place → Bool) (held : Held) → HoldsBytes texts held → (x : Place × Bytes) → lookup_entry test held ≡ Some x → IsRight x × (test x.0 ≡ true)
  found_right test [] right x is = absurd cc
  found_right test (y ∷ held) right x is = by (test y.0) refl is (found_right test held right.1 x)
    where
      by : (b : Bool) → test y.0 ≡ b → cond b (Some y) (lookup_entry test held) ≡ Some x → (lookup_entry test held ≡ Some x → IsRight x × (test x.0 ≡ true)) → IsRight x × (test x.0 ≡ true)
      by true passes e others = let same : y ≡ x = cc in subst (λ (z : Place × Bytes). IsRight z × (test z.0 ≡ true)) same (right.0, passes)
      by false fails e others = others e

  -- ---- what is used

  promoted_right : (test : Place → Bool) (held : Held) → HoldsBytes texts held → HoldsBytes texts (promoted test held)
  promoted_right test held right = by (lookup_entry test held) refl
    where
      by : (o : Option (Place × Bytes)) → lookup_entry test held ≡ o → HoldsBytes texts (option_map_or (λ x. x ∷ remove_entry test held) o held)
      by None none = right
      by (Some x) is = ((found_right test held right x is).0, all_removed test held right)

  used_right : (held : Held) (cell : Option Cell) → HoldsBytes texts held → HoldsBytes texts (used held cell)
  used_right held None right = right
  used_right held (Some Deleted) right = right
  used_right held (Some (Inline value)) right = right
  used_right held (Some (Placed place)) right = promoted_right (is_place place) held right

  all_used : (held : Held) (places : List Place) → HoldsBytes texts held → HoldsBytes texts (used_all held places)
  all_used held [] right = right
  all_used held (place ∷ places) right = all_used (used_place held place) places (promoted_right (is_place place) held right)

  -- a Get uses what serves it
  pub holds_used : (held : Held) (indexes : List InstalledIndex) (key : List ℕ) (cell : Option Cell) → HoldsBytes texts held → HoldsBytes texts (used_for held indexes key cell)
  holds_used held indexes key None right =
      used_right (used_all held (pages_of_key indexes key)) (found_cell (looked_up (held_at held) indexes key)) (all_used held (pages_of_key indexes key) right)
  holds_used held indexes key (Some cell) right = used_right held (Some cell) right

  -- ---- what comes

  put_right : (held : Held) (place : Place) (bytes : Bytes) → HoldsBytes texts held → bytes_in texts place ≡ bytes → HoldsBytes texts (put_entries is_place (lru_cache held most_held) place bytes)
  put_right held place bytes right stand = by (lookup_entry (is_place place) held) refl
    where
      by : (o : Option (Place × Bytes)) → lookup_entry (is_place place) held ≡ o →
          HoldsBytes texts (option_map_or (λ (x : Place × Bytes). (x.0, bytes) ∷ remove_entry (is_place place) held) o ((place, bytes) ∷ take (most_held - 1) held))
      by None none = (sym stand, all_first (most_held - 1) held right)
      by (Some x) is =
          let there : place ≡ x.0 = same_place place x.0 (found_right (is_place place) held right x is).1 in
          (sym stand ∙ ap (bytes_in texts) there, all_removed (is_place place) held right)

  -- bytes that stand at their place
  pub holds_came : (held : Held) (asked : Option PlaceRead) (place : Place) (bytes : Bytes) → HoldsBytes texts held → bytes_in texts place ≡ bytes → HoldsBytes texts (came held asked place bytes)
  holds_came held asked place bytes right stand = by (is_asked place asked)
    where
      by : (b : Bool) → HoldsBytes texts (cond b (put_entries is_place (lru_cache held most_held) place bytes) held)
      by true = put_right held place bytes right stand
      by false = right
