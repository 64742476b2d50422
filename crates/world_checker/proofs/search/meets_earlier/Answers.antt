use Rattle.std.proofs.Common.{◌≡◌, ◌-◌, sym, ◌∙◌, arith, Some}
use Rattle.std.proofs.lemmas.Grind.{common_steps}
use Rattle.std.proofs.lemmas.Bool.Decides.{not_from_Decides}
use Rattle.world_checker.specs.Checking.{extent_of}
use Rattle.world_checker.proofs.Linking.{link_of, walk_begins, walk_passes, walk_goes_on}
use Rattle.world_checker.proofs.Beginning.{starts_known}
use Rattle.world_checker.proofs.search.meets_earlier.Goals as goal

pub loop-below-init : goal.loop-below-init
loop-below-init c =
    let linked = link_of c.args.notes.now c.args.links.now c.args.place c.args.place c.link-below.result c.requires.linked (omega arith) c.link-below.ensures.linked c.link-below.ensures.unlinked in
    record {
      within = linked.0;
      meets = walk_begins c.args.notes.now c.args.place c.index-notes-place.result c.in-Some.extent c.requires.within c.index-notes-place.is (sym c.extent_of.ensures ∙ c.in-Some.is) c.link-below.result linked;
    }

pub loop-below-preserved-then-not-is_of : goal.loop-below-preserved-then-not-is_of
loop-below-preserved-then-not-is_of c = record {
  within = omega (arith, c.loop-below.invariant.within);
  meets = walk_passes c.args.notes.now c.args.place c.index-notes-place.result c.in-Some.extent c.requires.within c.index-notes-place.is (sym c.extent_of.ensures ∙ c.in-Some.is)
      c.loop-below.below c.loop-below-test.true c.loop-below.invariant.within c.loop-below.invariant.meets c.index-notes-before.result c.index-notes-before.is (not_from_Decides c.is_of.result c.is_of.ensures c.if-not-is_of.true);
}

pub loop-below-preserved : goal.loop-below-preserved
loop-below-preserved c =
    let linked = link_of c.args.notes.now c.args.links.now c.args.place (c.loop-below.below - 1) c.link-below-in-loop-below.result c.requires.linked (omega (arith, c.loop-below.invariant.within)) c.link-below-in-loop-below.ensures.linked c.link-below-in-loop-below.ensures.unlinked in
    let e = c.in-Some.extent in
    let mine : extent_of c.index-notes-place.result ≡ Some e = sym c.extent_of.ensures ∙ c.in-Some.is in
    let earlier : extent_of c.index-notes-before.result ≡ Some e = c.is_of.ensures.0 c.if-not-is_of.false in
    let compared = (c.are_compatible.ensures e earlier mine).0 c.if-not-are_compatible.false in
    record {
      within = omega (arith, linked.0, c.loop-below.invariant.within);
      meets = walk_goes_on c.args.notes.now c.args.place c.index-notes-place.result c.in-Some.extent c.requires.within c.index-notes-place.is (sym c.extent_of.ensures ∙ c.in-Some.is)
          c.loop-below.below c.loop-below-test.true c.loop-below.invariant.within c.loop-below.invariant.meets c.index-notes-before.result c.index-notes-before.is
          c.link-below-in-loop-below.result earlier compared linked;
    }

pub returns-in_default : goal.returns-in_default
returns-in_default c = grind (arith, common_steps)

pub returns-then-not-are_compatible : goal.returns-then-not-are_compatible
returns-then-not-are_compatible c = grind (arith, common_steps)

pub are_compatible-requires-clause-first : goal.are_compatible-requires-clause-first
are_compatible-requires-clause-first c =
    starts_known c.args.notes.now c.args.starts.now (c.loop-below.below - 1) c.index-notes-before.result c.starts_at-earlier_starts.result.now c.requires.starts c.index-notes-before.is
    c.starts_at-earlier_starts.ensures.known c.starts_at-earlier_starts.ensures.unknown

pub are_compatible-requires-clause-second : goal.are_compatible-requires-clause-second
are_compatible-requires-clause-second c =
    starts_known c.args.notes.now c.args.starts.now c.args.place c.index-notes-place.result c.starts_at-note_starts.result.now c.requires.starts c.index-notes-place.is
    c.starts_at-note_starts.ensures.known c.starts_at-note_starts.ensures.unknown
