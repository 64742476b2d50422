-- What stood in an extent up to an end is told in one way, since all that is told of it begins one script, and each copy is as long
-- as it is said to be.
use Rattle.std.proofs.Common.{◌≡◌, ℕ, suc, ◌+◌, ◌<◌, ◌≤◌, List, [], ◌∷◌, ◌++◌, length, Option, Some, slice_get, get_or, refl, sym, ap, ◌∙◌, subst, arith}
use Rattle.std.proofs.lemmas.Option.{slice_get-get_or}
use Rattle.replica.specs.Groups.{Group, size, text_length}
use Rattle.replica.proofs.Placing.{length-cons}
use Rattle.streams.specs.Streams.{Stream}
use Rattle.model_histories.specs.Story.{Copy}
use Rattle.model_histories.specs.StreamMachine as machine
use Rattle.laws_streams.proofs.Ground.{Ground, Sound}
use Rattle.laws_streams.specs.Origins.{Begins}
use Rattle.laws_stream_machine.specs.Refinement.{Sent, extents_of}
use Rattle.laws_stream_machine.proofs.ExtentSteps.{Sized, chain_le, chain_len}
use Rattle.laws_stream_machine.proofs.MachineCore.{StoodThere, ShutThere, Settled}
use Rattle.laws_ranges.proofs.MachineSteps.{is_within}
use Rattle.laws_log_reads.specs.Reads.{groups_in, StandsOnce, IsSized}

-- two lists of copies between the same places, which begin the same groups
one_way : (from end : ℕ) (xs ys : List (Copy Group)) (a b : List Group) → machine.Chain from xs end → Sized xs → machine.Chain from ys end → Sized ys →
    groups_in xs ++ a ≡ groups_in ys ++ b → groups_in xs ≡ groups_in ys
one_way from end [] [] a b c s d t e = refl
one_way from end [] (y ∷ ys) a b c s d t e =
    let le : y.to ≤ end = chain_le y.to ys end d.2 in
    let lt : y.from < y.to = d.1 in
    absurd (omega (arith, c, d.0, lt, le))
one_way from end (x ∷ xs) [] a b c s d t e =
    let le : x.to ≤ end = chain_le x.to xs end c.2 in
    let lt : x.from < x.to = c.1 in
    absurd (omega (arith, d, c.0, lt, le))
one_way from end (x ∷ xs) (y ∷ ys) a b c s d t e =
    let head : x.group ≡ y.group = cc in
    let tail : groups_in xs ++ a ≡ groups_in ys ++ b = cc in
    let sizes : size x.group ≡ size y.group = ap size head in
    let place : y.to ≡ x.to = omega (arith, c.0, d.0, s.0, t.0, sizes) in
    ap (λ z. z ∷ groups_in xs) head
    ∙ ap (λ zs. y.group ∷ zs) (one_way x.to end xs ys a b c.2 s.1 (subst (λ k. machine.Chain k ys end) place d.2) t.1 tail)

-- a list of groups is no longer than one that it begins
begins_short : (xs ys : List Group) → text_length xs ≤ text_length (xs ++ ys)
begins_short [] ys = omega arith
begins_short (x ∷ xs) ys = let more = begins_short xs ys in omega (arith, length-cons x xs, length-cons x (xs ++ ys), more)

-- what begins the script of an extent ends before the next extent begins
ends_before : (g : Ground) → Sound g → (e index end : ℕ) (copies : List (Copy Group)) → Begins (groups_in copies) (g.script e) → machine.Chain (machine.base index) copies end → Sized copies →
    end ≤ machine.base (suc index)
ends_before g sound e index end copies begins chain sized =
    let long = chain_len (machine.base index) copies end chain sized in
    let short : text_length (groups_in copies) ≤ text_length (g.script e) = subst (λ gs. text_length (groups_in copies) ≤ text_length gs) (sym begins.is) (begins_short (groups_in copies) begins.rest) in
    omega (arith, long, short, sound.short e)

-- where all that was checked is known of the nodes
module _ (o : Option Stream) (g : Ground) (s : machine.MachineState Group) (sent : List Sent) (settled : Settled o g s sent) (i : ℕ) where
  pub stands_once : StandsOnce i s
  stands_once index end stood other a b =
      let one : StoodThere o g index stood end = settled.checked i index stood end a in
      let two : StoodThere o g index other end = settled.checked i index other end b in
      let both : Some one.extent ≡ Some two.extent = sym one.at ∙ two.at in
      let same : one.extent ≡ two.extent = cc in
      one_way (machine.base index) end stood other one.begins.rest two.begins.rest one.chain one.sized two.chain two.sized
      (sym one.begins.is ∙ ap (λ e. g.script e) same ∙ two.begins.is)

  -- and all that stands in an extent is as long as it is said to be
  pub all_sized : Sound g → IsSized i s
  all_sized sound =
      record {
        sealed = shut_sized;
        stood = λ index end copies fact.
            (let k : StoodThere o g index copies end = settled.checked i index copies end fact in (k.chain, k.sized, ends_before g sound k.extent index end copies k.begins k.chain k.sized));
      }
    where
      shut_sized : (index : ℕ) (y : machine.SealedExtent Group) → machine.shut_at index s.core.shut ≡ Some y →
          machine.Chain (machine.base index) y.copies y.end × Sized y.copies × (y.end ≤ machine.base (suc index))
      shut_sized index y is =
          let inside : suc index ≤ length s.core.shut = is_within index s.core.shut y is in
          let counted : length (extents_of o) ≡ length s.core.shut + machine.one_if_live s.core.live = settled.counts in
          let at : slice_get (extents_of o) index ≡ Some (get_or (extents_of o) index 0) = slice_get-get_or (extents_of o) index 0 (omega (arith, inside, counted)) in
          let there : ShutThere g sent s (get_or (extents_of o) index 0) index = settled.shut index (get_or (extents_of o) index 0) at (omega (arith, inside)) in
          let both : Some there.shut ≡ Some y = sym there.is ∙ is in
          let same : there.shut ≡ y = cc in
          let bound : there.shut.end ≤ machine.base (suc index) =
          ends_before g sound (get_or (extents_of o) index 0) index there.shut.end there.shut.copies there.tied.begins there.tied.chain there.tied.sized in
          subst (λ (z : machine.SealedExtent Group). machine.Chain (machine.base index) z.copies z.end × Sized z.copies × (z.end ≤ machine.base (suc index))) same
          (there.tied.chain, there.tied.sized, bound)
