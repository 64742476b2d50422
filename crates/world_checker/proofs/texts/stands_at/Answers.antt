use Rattle.std.proofs.Common.{◌≡◌, ◌+◌, ◌-◌, drop, sym, subst, ◌∙◌, arith}
use Rattle.std.proofs.lemmas.Bool.Decides.{not_from_Decides}
use Rattle.std.proofs.lemmas.List.{at_drop_all}
use Rattle.replica.specs.Groups.{size}
use Rattle.replica.proofs.Lengths.{group_size-size}
use Rattle.model_streams.specs.Honest.{Stands}
use Rattle.world_checker.proofs.Showing.{not_so, stands_back, stands_on, none_stand, next_of}
use Rattle.world_checker.proofs.texts.stands_at.Goals as goal
use Rattle.world_checker.proofs.texts.stands_at.Goals.{else-rest-eq0-via-then-rest-eq0+else-is_same_group, else-rest-eq0-via-else-rest-eq0}

pub returns-then-size-rest : goal.returns-then-size-rest
returns-then-size-rest c =
    let g = c.args.group.now in
    let x = c.next-item.result in
    let groups = c.args.groups.now in
    let i = c.loop-next.next-index in
    let not_here : c.loop-next.rest ≡ 0 → x ≡ g → ⊥ = elim c.else-rest-eq0.branch [
      | else-rest-eq0-via-then-rest-eq0+else-is_same_group w ↦ λ zero same. not_from_Decides w.is_same_group.result w.is_same_group.ensures w.if-is_same_group.false (w.blocks-then-rest-eq0.ensures.value ∙ (same ∙ sym w.blocks-then-rest-eq0-2.ensures.value))
      | else-rest-eq0-via-else-rest-eq0 w ↦ λ zero same. w.if-rest-eq0.false zero
    ] in
    not_so (λ s.
    let now = subst (Stands g c.loop-next.rest) (next_of groups i x c.loop-next-test.true c.next-item.is) (c.loop-next.invariant.0 s) in
    let on = stands_on g x (drop (i + 1) groups) c.loop-next.rest not_here now in
    absurd (omega (arith, on.0, c.if-size-rest.true, c.size-size.ensures.value, group_size-size x)))

pub loop-next-preserved : goal.loop-next-preserved
loop-next-preserved c =
    let g = c.args.group.now in
    let x = c.next-item.result in
    let groups = c.args.groups.now in
    let i = c.loop-next.next-index in
    let rest = c.loop-next.rest in
    let not_here : rest ≡ 0 → x ≡ g → ⊥ = elim c.else-rest-eq0.branch [
      | else-rest-eq0-via-then-rest-eq0+else-is_same_group w ↦ λ zero same. not_from_Decides w.is_same_group.result w.is_same_group.ensures w.if-is_same_group.false (w.blocks-then-rest-eq0.ensures.value ∙ (same ∙ sym w.blocks-then-rest-eq0-2.ensures.value))
      | else-rest-eq0-via-else-rest-eq0 w ↦ λ zero same. w.if-rest-eq0.false zero
    ] in
    let here = next_of groups i x c.loop-next-test.true c.next-item.is in
    let sized : c.size-size.result ≡ size x = c.size-size.ensures.value ∙ group_size-size x in (
      (λ s. subst (λ n. Stands g (rest - n) (drop (i + 1) groups)) (sym sized) (stands_on g x (drop (i + 1) groups) rest not_here (subst (Stands g rest) here (c.loop-next.invariant.0 s))).1),
      (λ s. c.loop-next.invariant.1 (subst (Stands g rest) (sym here) (stands_back g x (drop (i + 1) groups) rest (omega (arith, sized, c.if-size-rest.false)) (subst (λ n. Stands g (rest - n) (drop (i + 1) groups)) sized s)))),
    )

pub returns : goal.returns
returns c =
    let g = c.args.group.now in
    let groups = c.args.groups.now in
    not_so (λ s. none_stand g c.loop-next.rest (subst (Stands g c.loop-next.rest) (at_drop_all (λ l. l) groups c.loop-next.next-index c.loop-next-test.false) (c.loop-next.invariant.0 s)))
