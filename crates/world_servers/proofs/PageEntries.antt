-- Entries of pages, one page after the other.
use Rattle.std.proofs.Common.{◌≡◌, ◌<◌, ◌+◌, ℕ, List, ◌∷◌, ◌++◌, length, drop, Option, sym, ap, ◌∙◌, subst, slice_index_or, append_assoc}
use Rattle.std.proofs.lemmas.List.{at_drop_more}
use Rattle.std.specs.Prelude.{flat_map, ◌&&◌}
use Rattle.std.proofs.lemmas.List.Elements.{filter-append}
use Rattle.wire.specs.declared.note.Note.{Note}
use Rattle.memtable.specs.Entries.{Entries}
use Rattle.metadata.specs.declared.record.KeyRange.{KeyRange}
use Rattle.metadata.specs.Keys.{within}
use Rattle.checkpoint_format.specs.declared.index.PageAt.{PageAt}
use Rattle.checkpoint.specs.declared.installed_index.InstalledIndex.{InstalledIndex}
use Rattle.checkpoint.specs.Pages.{kept_within}
use Rattle.model_partition.specs.Servers.{entries_shown_in, first_shown, page_shown}

-- the entries with those of these pages after them
abbrev pub with_pages : List Note → KeyRange → KeyRange → Entries → List PageAt → Entries
with_pages notes a b entries pages = entries ++ kept_within a b (flat_map (page_shown notes) pages)

-- one page more, of which the earliest observation shows these bytes
page_more : (notes : List Note) (a b : KeyRange) (entries after whole : Entries) (page : PageAt) (shown : Option (List ℕ)) (pages : List PageAt) →
    after ≡ entries ++ kept_within a b (entries_shown_in shown) → shown ≡ first_shown notes page.place → with_pages notes a b entries (page ∷ pages) ≡ whole →
    with_pages notes a b after pages ≡ whole
page_more notes a b entries after whole page shown pages put is all =
    let here : after ≡ entries ++ kept_within a b (page_shown notes page) = put ∙ ap (λ (o : Option (List ℕ)). entries ++ kept_within a b (entries_shown_in o)) is in
    ap (λ (es : Entries). with_pages notes a b es pages) here
    ∙ append_assoc entries (kept_within a b (page_shown notes page)) (kept_within a b (flat_map (page_shown notes) pages))
    ∙ ap (λ (es : Entries). entries ++ es) (sym (filter-append (λ e. within a e.0 && within b e.0) (page_shown notes page) (flat_map (page_shown notes) pages)))
    ∙ all

-- the same, one page of an index more
pub index_more : (notes : List Note) (keys : KeyRange) (x y : InstalledIndex) (entries after whole : Entries) (pages : List PageAt) (at : ℕ) (page : PageAt) (shown : Option (List ℕ)) →
    x ≡ y → pages ≡ x.index.pages → at < length pages → page ≡ slice_index_or pages at page →
    after ≡ entries ++ kept_within x.keys keys (entries_shown_in shown) → shown ≡ first_shown notes page.place →
    with_pages notes y.keys keys entries (drop at y.index.pages) ≡ whole → with_pages notes y.keys keys after (drop (at + 1) y.index.pages) ≡ whole
index_more notes keys x y entries after whole pages at page shown same are there is put found =
    subst (λ (z : InstalledIndex). with_pages notes z.keys keys entries (drop at z.index.pages) ≡ whole → with_pages notes z.keys keys after (drop (at + 1) z.index.pages) ≡ whole) same
    (subst (λ (ps : List PageAt). with_pages notes x.keys keys entries (drop at ps) ≡ whole → with_pages notes x.keys keys after (drop (at + 1) ps) ≡ whole) are
    (λ all. page_more notes x.keys keys entries after whole page shown (drop (at + 1) pages) put found (next ∙ all)))
  where
    next : with_pages notes x.keys keys entries (page ∷ drop (at + 1) pages) ≡ with_pages notes x.keys keys entries (drop at pages)
    next =
        ap (λ (p : PageAt). with_pages notes x.keys keys entries (p ∷ drop (at + 1) pages)) is
        ∙ sym (at_drop_more (λ (ps : List PageAt). with_pages notes x.keys keys entries ps) pages at page there)
