-- Records that name keys, in the parts of a run: those of a range's own part, and those of what its streams were built of.
use Rattle.std.proofs.Common.{◌≡◌, ℕ, ◌<◌, [], ◌∷◌, ◌++◌, sym, subst, arith}
use Rattle.metadata.specs.declared.record.KeyRange.{KeyRange}
use Rattle.metadata.specs.declared.record.MetaItem.TheVariants.{Ranges}
use Rattle.laws_tables.specs.Families.{NamesNoOther}
use Rattle.laws_tables.specs.Runs.{Forms, Logged, Notes, Records, Recorded, Trims, Confirms, Run, KeepsKeys}
use Rattle.laws_server_runs.specs.FamilyMembers.{NamesOwn}

-- each record that names keys names these
abbrev pub NamesThese : KeyRange → Run → Type 0
NamesThese keys [] = Unit {0}
NamesThese keys (Records i number item ∷ earlier) = ((named : KeyRange) → item ≡ Ranges named → named ≡ keys) × NamesThese keys earlier
NamesThese keys (e ∷ earlier) = NamesThese keys earlier

-- and is under a lower generation
abbrev pub NamesBelow : ℕ → Run → Type 0
NamesBelow g [] = Unit {0}
NamesBelow g (Records i number item ∷ earlier) = ((named : KeyRange) → item ≡ Ranges named → i < g) × NamesBelow g earlier
NamesBelow g (e ∷ earlier) = NamesBelow g earlier

-- ---- of a range that came of another

pub own_these : (g : ℕ) (keys : KeyRange) (own : Run) → NamesOwn g keys own → NamesThese keys own
own_these g keys [] h = tt
own_these g keys (Records i number item ∷ own) h = (λ named e. (h.0 named e).1, own_these g keys own h.1)
own_these g keys (Forms i group ∷ own) h = own_these g keys own h
own_these g keys (Logged i append from to ∷ own) h = own_these g keys own h
own_these g keys (Notes i ∷ own) h = own_these g keys own h
own_these g keys (Recorded i append from to ∷ own) h = own_these g keys own h
own_these g keys (Trims i place ∷ own) h = own_these g keys own h
own_these g keys (Confirms i start end groups metadata_end records ∷ own) h = own_these g keys own h

-- what its own part and what it took name, below a higher generation
pub own_below : (g h : ℕ) (keys : KeyRange) (own taken : Run) → g < h → NamesOwn g keys own → NamesBelow g taken → NamesBelow h (own ++ taken)
own_below g h keys [] [] less n b = tt
own_below g h keys [] (Records i number item ∷ taken) less n b = (λ named e. (let low : i < g = b.0 named e in omega (arith, low, less)), own_below g h keys [] taken less n b.1)
own_below g h keys [] (Forms i group ∷ taken) less n b = own_below g h keys [] taken less n b
own_below g h keys [] (Logged i append from to ∷ taken) less n b = own_below g h keys [] taken less n b
own_below g h keys [] (Notes i ∷ taken) less n b = own_below g h keys [] taken less n b
own_below g h keys [] (Recorded i append from to ∷ taken) less n b = own_below g h keys [] taken less n b
own_below g h keys [] (Trims i place ∷ taken) less n b = own_below g h keys [] taken less n b
own_below g h keys [] (Confirms i start end groups metadata_end records ∷ taken) less n b = own_below g h keys [] taken less n b
own_below g h keys (Records i number item ∷ own) taken less n b = (λ named e. subst (λ j. j < h) (sym (n.0 named e).0) less, own_below g h keys own taken less n.1 b)
own_below g h keys (Forms i group ∷ own) taken less n b = own_below g h keys own taken less n b
own_below g h keys (Logged i append from to ∷ own) taken less n b = own_below g h keys own taken less n b
own_below g h keys (Notes i ∷ own) taken less n b = own_below g h keys own taken less n b
own_below g h keys (Recorded i append from to ∷ own) taken less n b = own_below g h keys own taken less n b
own_below g h keys (Trims i place ∷ own) taken less n b = own_below g h keys own taken less n b
own_below g h keys (Confirms i start end groups metadata_end records ∷ own) taken less n b = own_below g h keys own taken less n b

-- from the generation on they name no others
pub own_no_other : (g : ℕ) (keys : KeyRange) (own taken : Run) → NamesOwn g keys own → NamesBelow g taken → NamesNoOther g keys (own ++ taken)
own_no_other g keys [] [] n b = tt
own_no_other g keys [] (Records i number item ∷ taken) n b = (λ le other e. absurd (let low : i < g = b.0 other e in omega (arith, low, le)), own_no_other g keys [] taken n b.1)
own_no_other g keys [] (Forms i group ∷ taken) n b = own_no_other g keys [] taken n b
own_no_other g keys [] (Logged i append from to ∷ taken) n b = own_no_other g keys [] taken n b
own_no_other g keys [] (Notes i ∷ taken) n b = own_no_other g keys [] taken n b
own_no_other g keys [] (Recorded i append from to ∷ taken) n b = own_no_other g keys [] taken n b
own_no_other g keys [] (Trims i place ∷ taken) n b = own_no_other g keys [] taken n b
own_no_other g keys [] (Confirms i start end groups metadata_end records ∷ taken) n b = own_no_other g keys [] taken n b
own_no_other g keys (Records i number item ∷ own) taken n b = (λ le other e. (n.0 other e).1, own_no_other g keys own taken n.1 b)
own_no_other g keys (Forms i group ∷ own) taken n b = own_no_other g keys own taken n b
own_no_other g keys (Logged i append from to ∷ own) taken n b = own_no_other g keys own taken n b
own_no_other g keys (Notes i ∷ own) taken n b = own_no_other g keys own taken n b
own_no_other g keys (Recorded i append from to ∷ own) taken n b = own_no_other g keys own taken n b
own_no_other g keys (Trims i place ∷ own) taken n b = own_no_other g keys own taken n b
own_no_other g keys (Confirms i start end groups metadata_end records ∷ own) taken n b = own_no_other g keys own taken n b

-- ---- of the first range

pub kept_these : (keys : KeyRange) (own taken : Run) → KeepsKeys (own ++ taken) → NamesThese keys own
kept_these keys [] taken k = tt
kept_these keys (Records i number item ∷ own) taken k = (λ named e. absurd (k.0 named e), kept_these keys own taken k.1)
kept_these keys (Forms i group ∷ own) taken k = kept_these keys own taken k
kept_these keys (Logged i append from to ∷ own) taken k = kept_these keys own taken k
kept_these keys (Notes i ∷ own) taken k = kept_these keys own taken k
kept_these keys (Recorded i append from to ∷ own) taken k = kept_these keys own taken k
kept_these keys (Trims i place ∷ own) taken k = kept_these keys own taken k
kept_these keys (Confirms i start end groups metadata_end records ∷ own) taken k = kept_these keys own taken k

pub kept_below : (g : ℕ) (run : Run) → KeepsKeys run → NamesBelow g run
kept_below g [] k = tt
kept_below g (Records i number item ∷ run) k = (λ named e. absurd (k.0 named e), kept_below g run k.1)
kept_below g (Forms i group ∷ run) k = kept_below g run k
kept_below g (Logged i append from to ∷ run) k = kept_below g run k
kept_below g (Notes i ∷ run) k = kept_below g run k
kept_below g (Recorded i append from to ∷ run) k = kept_below g run k
kept_below g (Trims i place ∷ run) k = kept_below g run k
kept_below g (Confirms i start end groups metadata_end records ∷ run) k = kept_below g run k

-- ---- what stands behind more

pub these_behind : (keys : KeyRange) (more own : Run) → NamesThese keys (more ++ own) → NamesThese keys own
these_behind keys [] own h = h
these_behind keys (Records i number item ∷ more) own h = these_behind keys more own h.1
these_behind keys (Forms i group ∷ more) own h = these_behind keys more own h
these_behind keys (Logged i append from to ∷ more) own h = these_behind keys more own h
these_behind keys (Notes i ∷ more) own h = these_behind keys more own h
these_behind keys (Recorded i append from to ∷ more) own h = these_behind keys more own h
these_behind keys (Trims i place ∷ more) own h = these_behind keys more own h
these_behind keys (Confirms i start end groups metadata_end records ∷ more) own h = these_behind keys more own h

pub below_behind : (g : ℕ) (more run : Run) → NamesBelow g (more ++ run) → NamesBelow g run
below_behind g [] run h = h
below_behind g (Records i number item ∷ more) run h = below_behind g more run h.1
below_behind g (Forms i group ∷ more) run h = below_behind g more run h
below_behind g (Logged i append from to ∷ more) run h = below_behind g more run h
below_behind g (Notes i ∷ more) run h = below_behind g more run h
below_behind g (Recorded i append from to ∷ more) run h = below_behind g more run h
below_behind g (Trims i place ∷ more) run h = below_behind g more run h
below_behind g (Confirms i start end groups metadata_end records ∷ more) run h = below_behind g more run h
