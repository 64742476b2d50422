use Rattle.std.proofs.Common.{◌≡◌, ◌≢◌, Bool, true, false}
use Rattle.std.specs.Prelude.{MatchBool}
use Rattle.stamp_marks.specs.Tokens.{index_of}
use Rattle.stamp_traces.proofs.PassLemmas.{stands}
use Rattle.stamp_traces.proofs.Lists.{match_bool}
use Rattle.stamp_traces.proofs.journal.Journal.stands.Goals as goal

pub is_token_at-requires-clause-tokens : goal.is_token_at-requires-clause-tokens
is_token_at-requires-clause-tokens g c = λ n t there. rw c.requires.named (c.self.invariant.1.each n t (rw c.as_slice.ensures.value at there)).of

pub returns-clause-stands : goal.returns-clause-stands
returns-clause-stands g c =
    let s = c.self.inside in
    let p = c.pass.inside in
    rw (← c.self.view_is, ← c.pass.view_is)
    (match_bool c.is_token_at.result (λ at. stands g.K.Identity.prefixes s.entries.items s.passes.items p.number p.token (index_of p.token) c.self.invariant.1 at) (λ other. other) (rw c.as_slice.ensures.value at c.is_token_at.ensures))
