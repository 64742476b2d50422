-- The text of records that are spelled in turn.
use Rattle.std.proofs.Common.{◌≡◌, ◌∙◌, ap, sym, subst, ℕ, ◌+◌, ◌<◌, ◌≤◌, List, [], ◌∷◌, ◌++◌, length, drop, get_or, append-nil, append_assoc}
use Rattle.std.specs.List.{AllByRecursion}
use Rattle.std.proofs.lemmas.List.{drop_more, drop_all}
use Rattle.block_types.specs.declared.record.Record.{Record}
use Rattle.block_types.specs.declared.record.Version.{Version}
use Rattle.blocks.specs.Record.{spelling, Fits}
use Rattle.disk.specs.File.{opened}

module _ (v : Version) (rs : List Record) (i : ℕ) (r : Record) (is : r ≡ get_or rs i r) (below : i < length rs) where
  left_of : drop i rs ≡ r ∷ drop (i + 1) rs
  left_of = drop_more rs i r below ∙ ap (λ (s : Record). s ∷ drop (i + 1) rs) (sym is)

  pub next_fits : AllByRecursion (Fits v) (drop i rs) → Fits v r × AllByRecursion (Fits v) (drop (i + 1) rs)
  next_fits fit = subst (AllByRecursion (Fits v)) left_of fit

  -- one more
  pub text_next : (before gate now : List ℕ) → gate ≡ before ++ 1 ∷ [] → now ≡ gate ++ spelling v r → before ++ opened v (drop i rs) ≡ opened v rs → now ++ opened v (drop (i + 1) rs) ≡ opened v rs
  text_next before gate now opens spells done =
      let rest : List ℕ = opened v (drop (i + 1) rs) in
      ap (λ (l : List ℕ). l ++ rest) (spells ∙ ap (λ (l : List ℕ). l ++ spelling v r) opens) ∙ append_assoc (before ++ 1 ∷ []) (spelling v r) rest ∙ append_assoc before (1 ∷ []) (spelling v r ++ rest)
      ∙ ap (λ (l : List Record). before ++ opened v l) (sym left_of) ∙ done

pub text_done : (v : Version) (rs : List Record) (i : ℕ) → length rs ≤ i → (text : List ℕ) → text ++ opened v (drop i rs) ≡ opened v rs → text ≡ opened v rs
text_done v rs i most text done = sym (append-nil text) ∙ ap (λ (l : List Record). text ++ opened v l) (sym (drop_all i rs most)) ∙ done
