-- A stream that was built of another's has its part of that, where all its extents were sealed then, and nothing of the generation that was named was
-- out, or is begun since.
use Rattle.std.proofs.Common.{◌≡◌, ⊎_elim, ℕ, ◌≤◌, ◌<◌, List, [], ◌∷◌, ◌++◌, length, Some, Contains, sym, ap, ◌∙◌, subst, inl, inr, arith, append_assoc}
use Rattle.std.proofs.lemmas.Bool.{cases_eq}
use Rattle.std.proofs.lemmas.List.Elements.{Contains-append_cases}
use Rattle.replica.specs.Groups.{Group}
use Rattle.model_histories.specs.ServerTurns.{Move, after_all, AreMoves}
use Rattle.model_histories.specs.Story.{Placed, Made, Answered, Showed, Story, event_at, Copy, Ascending}
use Rattle.model_histories.specs.StreamMachine.{In, all_copies}
use Rattle.laws_tables.specs.Built.{ReadsInOrder, KeepsSource, story_of, HasLoad, AnsweredBy}
use Rattle.laws_tables.proofs.Built.{moves_in_order, moves_confirmed, same_copies, built_keeps_source}
use Rattle.laws_tables.proofs.Members.{in_contains, contains_in, in_left, in_cases, in_split}
use Rattle.laws_tables.proofs.Range.{bound}
use Rattle.laws_clusters.specs.BuiltOrders.{HasPart}
use Rattle.laws_clusters.proofs.RestingIncarnations.{IsSettled, answers_none, event_early, event_later, story_goes}
use Rattle.laws_clusters.proofs.SourceExtents.{StandsBehind, stands_behind, stands_begun, stands_ascending, read_stands}

-- the same part of the same stories, with the same copies
pub same_part : (g : ℕ) (early early' source source' built built' : Story Group) (a a' b b' : ℕ → List (Copy Group)) → early ≡ early' → source ≡ source' → built ≡ built' → a ≡ a' → b ≡ b' → HasPart g early source built a b → HasPart g early' source' built' a' b'
same_part g early early' source source' built built' a a' b b' early_is source_is built_is a_is b_is part =
    subst (HasPart g early' source' built' a') b_is
    (subst (λ z. HasPart g early' source' built' z b) a_is
    (subst (λ z. HasPart g early' source' z a b) built_is
    (subst (λ z. HasPart g early' z built a b) source_is
    (subst (λ z. HasPart g z source built a b) early_is part))))

module _ (generation : ℕ → ℕ) where
  abbrev Moves : Type 0
  Moves = List (Move Group generation)

  abbrev story : Moves → Story Group
  story moves = story_of Group generation moves

  -- the copies of each load, by what it has read
  abbrev pub copies_of : (moves : Moves) → AreMoves Group generation moves → ℕ → List (Copy Group)
  copies_of moves ok = (moves_in_order Group generation moves ok).order.copies

  ends_are : (own early : Moves) → AreMoves Group generation (own ++ early) → AreMoves Group generation early
  ends_are [] early ok = ok
  ends_are (m ∷ own) early ok = ends_are own early ok.1

  module _ (g : ℕ) (early late own : Moves) (ok_source : AreMoves Group generation (late ++ early)) (ok_built : AreMoves Group generation (own ++ early)) (settled : IsSettled generation g early (late ++ early)) where
    keeps : KeepsSource Group generation early late own
    keeps = built_keeps_source Group generation early late own ok_source ok_built

    s : ReadsInOrder generation (after_all Group generation (late ++ early)).state
    s = moves_in_order Group generation (late ++ early) ok_source

    b : ReadsInOrder generation (after_all Group generation (own ++ early)).state
    b = moves_in_order Group generation (own ++ early) ok_built

    abbrev load : HasLoad Group generation (story early) g
    load = settled.loaded

    load_source : event_at (story (late ++ early)) load.0 ≡ Some (Showed g load.1 load.2 load.3)
    load_source = event_later generation late early load.0 (Showed g load.1 load.2 load.3) load.4

    load_built : event_at (story (own ++ early)) load.0 ≡ Some (Showed g load.1 load.2 load.3)
    load_built = event_later generation own early load.0 (Showed g load.1 load.2 load.3) load.4

    load_early : load.0 < length (story early)
    load_early = bound Group (story early) load.0 (Showed g load.1 load.2 load.3) load.4

    calm : AnsweredBy Group generation g (story early) (story (late ++ early))
    calm = answers_none generation g early settled.rests late ok_source settled.begun

    shared : (l h start end : ℕ) (groups : List (Placed Group)) → event_at (story early) l ≡ Some (Showed h start end groups) → b.order.copies l ≡ s.order.copies l
    shared l h start end groups at = same_copies Group generation early late own ok_source s b l h start end groups at

    -- what is answered was begun by then
    begun_early : (a g' k from to : ℕ) (group : Group) → event_at (story (late ++ early)) a ≡ Some (Made g' group) → g' ≤ g → event_at (story (late ++ early)) k ≡ Some (Answered a from to) → a < length (story early)
    begun_early a g' k from to group made low answer = elim (cases_eq g' g) [
      | inl same ↦ settled.begun a group (subst (λ n. event_at (story (late ++ early)) a ≡ Some (Made n group)) same made)
      | inr other ↦
          (let here : Contains (s.order.copies load.0) (record { from = from; to = to; append = a; group = group }) = s.order.answered load.0 g load.1 load.2 a g' k from to load.3 group load_source made (omega (arith, low, other)) answer in
          let less : a < load.0 = (s.order.handed load.0 g load.1 load.2 load.3 (record { from = from; to = to; append = a; group = group }) load_source here).3 in
          let l = load_early in
          omega (arith, less, l))
    ]

    answered : (a g' k from to m h start end : ℕ) (group : Group) (groups : List (Placed Group)) → event_at (story (late ++ early)) a ≡ Some (Made g' group) → g' ≤ g → event_at (story (late ++ early)) k ≡ Some (Answered a from to) →
        event_at (story (own ++ early)) m ≡ Some (Showed h start end groups) → g < h → (a < length (story early)) × Contains (b.order.copies m) (record { from = from; to = to; append = a; group = group })
    answered a g' k from to m h start end group groups made low answer shown up = (
      begun_early a g' k from to group made low answer,
      subst (λ copies. Contains copies (record { from = from; to = to; append = a; group = group })) (same_copies Group generation (own ++ early) [] [] ok_built b keeps.built m h start end groups shown)
          (keeps.stands g a g' k from to m h start end group groups load calm made low answer shown up),
    )

    -- ---- in a load of a higher generation

    module _ (m h start end : ℕ) (groups : List (Placed Group)) (shown : event_at (story (own ++ early)) m ≡ Some (Showed h start end groups)) (up : g < h) where
      -- what was appended since stands behind the load of the generation
      behind_load : (d : Copy Group) → Contains (b.order.copies m) d → length (story early) ≤ d.append → load.2 ≤ d.from
      behind_load d there new =
          let begins = b.order.begins load.0 m g h load.1 load.2 start end load.3 groups load_built shown up in
          elim (Contains-append_cases (b.order.copies load.0) begins.0 d (subst (λ copies. Contains copies d) begins.1 there)) [
            | inl old ↦
                (let less : d.append < load.0 = (b.order.handed load.0 g load.1 load.2 load.3 d load_built old).3 in
                let l = load_early in
                absurd (omega (arith, less, l, new)))
            | inr rest ↦ (begins.2 d rest).0
          ]

      -- and what was appended under a lower one stands in that load
      before_load : (c : Copy Group) (g' : ℕ) → Contains (b.order.copies m) c → event_at (story early) c.append ≡ Some (Made g' c.group) → g' < g → c.to ≤ load.2
      before_load c g' there made low =
          let begins = b.order.begins load.0 m g h load.1 load.2 start end load.3 groups load_built shown up in
          elim (Contains-append_cases (b.order.copies load.0) begins.0 c (subst (λ copies. Contains copies c) begins.1 there)) [
            | inl old ↦ b.order.ends load.0 g load.1 load.2 load.3 c load_built old
            | inr rest ↦
                (let above : g ≤ g' = (begins.2 c rest).1 g' c.group (event_later generation own early c.append (Made g' c.group) made) in
                absurd (omega (arith, above, low)))
          ]

      abbrev all_of : Moves → List (Copy Group)
      all_of moves = all_copies Group generation (after_all Group generation moves).state.core (after_all Group generation moves).state.core.live

      behind : StandsBehind generation g early (ends_are own early ok_built) settled.closed settled.rests own
      behind = stands_behind generation g early (ends_are own early ok_built) settled.closed settled.rests own ok_built

      -- what the load shows stood, in order
      in_all : (c : Copy Group) → Contains (b.order.copies m) c → In c (all_of early ++ behind.rest)
      in_all c there =
          let confirmed = moves_confirmed Group generation (own ++ early) ok_built m h start end groups shown in
          let same : b.order.copies m ≡ confirmed.1 = b.reads m h start end confirmed.0 confirmed.2 groups confirmed.1 shown confirmed.3 confirmed.4 in
          let stood = read_stands generation (own ++ early) ok_built confirmed.0 confirmed.1 confirmed.2 confirmed.3 in
          subst (In c) (sym stood.1 ∙ behind.is) (in_left c confirmed.1 stood.0 (subst (In c) same (in_contains c (b.order.copies m) there)))

      ascending : Ascending (all_of early ++ behind.rest)
      ascending = subst (λ copies. Ascending copies) behind.is (stands_ascending generation (own ++ early) ok_built)

      -- the two are of the generation itself, or of a later append
      same_before : (c d : Copy Group) → In c (all_of early) → In d behind.rest → c.to ≤ d.from
      same_before c d c_there d_there =
          let split = in_split d behind.rest d_there in
          ascending (all_of early ++ split.0) split.1 d c (ap (λ l. all_of early ++ l) split.2 ∙ sym (append_assoc (all_of early) split.0 (d ∷ split.1))) (contains_in c (all_of early ++ split.0) (in_left c (all_of early) split.0 c_there))

      in_early : (c : Copy Group) (g' : ℕ) → In c (all_of early ++ behind.rest) → event_at (story early) c.append ≡ Some (Made g' c.group) → g' ≡ g → In c (all_of early)
      in_early c g' there made same = ⊎_elim {C = In c (all_of early)} (λ old. old) (λ new. absurd (other (behind.others c new (bound Group (story early) c.append (Made g' c.group) made)))) (in_cases c (all_of early) behind.rest there)
        where
          other : (i : ℕ) × (group : Group) × (generation i ≡ g → ⊥) × (event_at (story early) c.append ≡ Some (Made (generation i) group)) → ⊥
          other o =
              let both : Some (Made (generation o.0) o.1) ≡ Some (Made g' c.group) = sym o.3 ∙ made in
              let under : generation o.0 ≡ g' = cc in
              o.2 (under ∙ same)

      in_rest : (d : Copy Group) → In d (all_of early ++ behind.rest) → length (story early) ≤ d.append → In d behind.rest
      in_rest d there new =
          ⊎_elim {C = In d behind.rest} (λ old. absurd (let less : d.append < length (story early) = stands_begun generation early (ends_are own early ok_built) d old in omega (arith, less, new))) (λ r. r)
          (in_cases d (all_of early) behind.rest there)

      before : (g' : ℕ) (c d : Copy Group) → Contains (b.order.copies m) c → Contains (b.order.copies m) d → event_at (story early) c.append ≡ Some (Made g' c.group) → g' ≤ g → length (story early) ≤ d.append → c.to ≤ d.from
      before g' c d c_there d_there made low new = elim (cases_eq g' g) [
        | inl same ↦ same_before c d (in_early c g' (in_all c c_there) made same) (in_rest d (in_all d d_there) new)
        | inr other ↦
            (let one : c.to ≤ load.2 = before_load c g' c_there made (omega (arith, low, other)) in
            let two : load.2 ≤ d.from = behind_load d d_there new in
            omega (arith, one, two))
      ]

    pub part_of : HasPart g (story early) (story (late ++ early)) (story (own ++ early)) (copies_of (late ++ early) ok_source) (copies_of (own ++ early) ok_built)
    unfolding s b
    part_of =
        let source = story_goes generation late early in
        let built = story_goes generation own early in
        record {
          late = source.0;
          own = built.0;
          source_is = source.1;
          built_is = built.1;
          loaded = load;
          shared = shared;
          answered = answered;
          highest = settled.highest;
          before = λ m h start end groups c d shown up c_there d_there old new.
              (let handed = b.order.handed m h start end groups c shown c_there in
              let made : event_at (story early) c.append ≡ Some (Made handed.0 c.group) = event_early generation own early c.append (Made handed.0 c.group) handed.1 old in
              before m h start end groups shown up handed.0 c d c_there d_there made (settled.highest c.append handed.0 c.group made) new);
        }

  -- so it is of machines that have grown from one
  pub grown_part : (g : ℕ) (early late own source built : Moves) → source ≡ late ++ early → built ≡ own ++ early → (ok_source : AreMoves Group generation source) (ok_built : AreMoves Group generation built) → IsSettled generation g early source →
      HasPart g (story early) (story source) (story built) (copies_of source ok_source) (copies_of built ok_built)
  grown_part g early late own source built source_is built_is =
      subst (λ z. (ok_source : AreMoves Group generation z) (ok_built : AreMoves Group generation built) → IsSettled generation g early z → HasPart g (story early) (story z) (story built) (copies_of z ok_source) (copies_of built ok_built)) (sym source_is)
      (subst (λ z. (ok_source : AreMoves Group generation (late ++ early)) (ok_built : AreMoves Group generation z) → IsSettled generation g early (late ++ early) →
      HasPart g (story early) (story (late ++ early)) (story z) (copies_of (late ++ early) ok_source) (copies_of z ok_built)) (sym built_is) (λ ok_source ok_built settled. part_of g early late own ok_source ok_built settled))
