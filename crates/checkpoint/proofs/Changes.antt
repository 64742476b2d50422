-- What the changes of pages lead to.
use Rattle.std.proofs.Common.{◌≡◌, ℕ, suc, ◌+◌, ◌<◌, true, List, [], ◌∷◌, ◌++◌, length, drop, get_or, Option, Some, None, refl, sym, ap, subst, ◌∙◌, arith}
use Rattle.std.specs.Prelude.{option_map, is_some}
use Rattle.blocks.proofs.Formats.{some_is}
use Rattle.metadata.specs.declared.record.KeyRange.{KeyRange}
use Rattle.memtable.specs.Entries.{Entries, key_cmp, put_all}
use Rattle.std.specs.BTreeMap.{insert_entry}
use Rattle.checkpoint.specs.declared.unmerged_page.UnmergedPage.{UnmergedPage}
use Rattle.checkpoint.specs.Lookup.{PageSource}
use Rattle.checkpoint.specs.Pages.{kept_within}
use Rattle.checkpoint.specs.Merges.{ChangesState, LeadsTo, IsWithPage, all_of, at_hand, changes_of, next_place, with_at_hand, with_more, with_page}

-- changes behind others
pub put_behind : (es changes others : Entries) → put_all es (changes ++ others) ≡ put_all (put_all es changes) others
put_behind es [] others = refl
put_behind es (c ∷ changes) others = put_behind (insert_entry key_cmp es c.0 c.1) changes others

begins : {A : Type 0} (xs : List A) (x : A) → 0 < length xs → x ≡ get_or xs 0 x → xs ≡ x ∷ drop 1 xs
begins [] x some is = absurd (omega (arith, some))
begins {A} (y ∷ xs) x some is = ap (λ (z : A). z ∷ xs) (sym is)

drop_behind : {A : Type 0} (x : A) (xs : List A) (n : ℕ) → drop (1 + n) (x ∷ xs) ≡ drop n xs
drop_behind x xs n =
    let e : 1 + n ≡ suc n = omega arith in
    ap (λ (k : ℕ). drop k (x ∷ xs)) e

-- the page at the front and those behind it that are at hand
front_leads : (source : PageSource) (keys : KeyRange) (es : Entries) (p : UnmergedPage) (left : List UnmergedPage) (page : Entries) →
    LeadsTo (with_more (changes_of p.keys keys page) (at_hand source keys left)) (record { entries = es; left = p ∷ left })
    (with_at_hand source keys (record { entries = put_all es (kept_within p.keys keys page); left = left }))
front_leads source keys es p left page = record {
  entries = sym (put_behind es (kept_within p.keys keys page) (all_of (at_hand source keys left)));
  left = sym (drop_behind p left (length (at_hand source keys left)));
}

abbrev IsNextPage : PageSource → KeyRange → Entries → Entries → ChangesState → List UnmergedPage → Type 0
IsNextPage source keys es page all left =
    (is_some (next_place (record { entries = es; left = left })) ≡ true) × LeadsTo all (record { entries = es; left = left }) (with_at_hand source keys (with_page keys (record { entries = es; left = left }) page))

spelled : (source : PageSource) (keys : KeyRange) (es : Entries) (left : List UnmergedPage) (p : UnmergedPage) (page : Entries) (found all : ChangesState) → left ≡ p ∷ drop 1 left → found ≡ changes_of p.keys keys page →
    all ≡ with_more found (at_hand source keys (drop found.count left)) → IsNextPage source keys es page all left
spelled source keys es left p page found all is one more =
    let same : all ≡ with_more (changes_of p.keys keys page) (at_hand source keys (drop 1 left)) =
    more ∙ ap (λ (f : ChangesState). with_more f (at_hand source keys (drop f.count left))) one in
    subst (λ (l : List UnmergedPage). IsNextPage source keys es page all l) (sym is) (
      refl,
      subst (λ (a : ChangesState). LeadsTo a (record { entries = es; left = p ∷ drop 1 left }) (with_at_hand source keys (record { entries = put_all es (kept_within p.keys keys page); left = drop 1 left }))) (sym same)
          (front_leads source keys es p (drop 1 left) page),
    )

-- the page that comes next was found
pub with_page_is : (source : PageSource) (keys : KeyRange) (es : Entries) (left : List UnmergedPage) (p : UnmergedPage) (page : Option Entries) (found all : ChangesState) → 0 < length left → p ≡ get_or left 0 p →
    Some found ≡ option_map (changes_of p.keys keys) page → all ≡ with_more found (at_hand source keys (drop found.count left)) →
    IsWithPage source keys (record { entries = es; left = left }) page (Some all)
with_page_is source keys es left p None found all some is one more = absurd cc
with_page_is source keys es left p (Some page) found all some is one more =
    spelled source keys es left p page found all (begins left p some is) (some_is found (changes_of p.keys keys page) one) more
