use Rattle.std.proofs.Common.{◌≡◌, length}
use Rattle.std.specs.BTreeMap.{get}
use Rattle.std.specs.Ordering.{nat_cmp}
use Rattle.world_checker.specs.Links.{AreLinks, AllLead, IsLast}
use Rattle.world_checker.proofs.index.links_of.Given as goal

abbrev pub invariant-loop-place : goal.invariant-loop-place
invariant-loop-place l = record {
  counted : length l.links.items ≡ l.place;
  links : AreLinks l.sought l.notes l.links.items;
  lead : AllLead l.sought l.notes l.links.items;
  last : IsLast l.sought l.notes l.place (get nat_cmp l.last);
}
