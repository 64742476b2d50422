use Rattle.std.proofs.Common.{rules}
use Rattle.std.proofs.lemmas.List.Sorted.{answers_always}
use Rattle.streams.specs.Table.{key_of}
use Rattle.streams.proofs.Names.{searched}
use Rattle.streams.proofs.entries.search.Goals as goal

pub returns-clause-found : goal.returns-clause-found
returns-clause-found c =
    let facts = c.binary_search_by_key.ensures in
    let by_key = facts.position (λ x. key_of x.name) (answers_always _ _ _ (λ f a r g called. search rules)) in
    rw (← c.deref.ensures.value, ← c.key_of-key.ensures) (searched _ (rw c.deref.ensures.value c.requires.sorted) _ _ facts.bound by_key).found

pub returns-clause-absent : goal.returns-clause-absent
returns-clause-absent c =
    let facts = c.binary_search_by_key.ensures in
    let by_key = facts.position (λ x. key_of x.name) (answers_always _ _ _ (λ f a r g called. search rules)) in
    rw (← c.deref.ensures.value, ← c.key_of-key.ensures) (searched _ (rw c.deref.ensures.value c.requires.sorted) _ _ facts.bound by_key).absent
