use Rattle.std.proofs.Common.{ap, sym, ◌∙◌, rules}
use Rattle.replica.specs.Replay.{fit}
use Rattle.disk.specs.Filed.{Filed}
use Rattle.disk.proofs.Outcomes.{ok_more, kept_moment}
use Rattle.enode.proofs.FaultLemmas.{file_damaged}
use Rattle.enode.proofs.node.Node.restart.Goals as goal

pub returns-in-Ok-clause-damaged : goal.returns-in-Ok-clause-damaged
returns-in-Ok-clause-damaged g c = λ v rs is fits. c.recovered.ensures.damaged (ap (fit c.args.number) (c.in-Ok.ensures.only v rs is).1 ∙ fits)

pub returns-in-Err-clause-damaged : goal.returns-in-Err-clause-damaged
returns-in-Err-clause-damaged g c = λ v rs is fits damaged. c.in-Err.ensures.only v rs is (file_damaged c.in-Err.fault (sym c.into.ensures ∙ damaged))

pub returns-in-Ok-clause-only : goal.returns-in-Ok-clause-only
returns-in-Ok-clause-only g c = λ v rs is. ok_more c.recovered.result (λ x same. (ap (λ (f : Filed _). f.version) same ∙ (c.in-Ok.ensures.only v rs is).0, ap (λ (f : Filed _). f.records) same ∙ (c.in-Ok.ensures.only v rs is).1)) c.recovered.ensures.file

pub returns-in-Ok-clause-any_moment : goal.returns-in-Ok-clause-any_moment
returns-in-Ok-clause-any_moment g c = kept_moment g.D.Disk.state _ _ _ c.recovered.result (λ x. x.file) c.in-Ok.ensures.any_moment c.recovered.ensures.file c.recovered.ensures.disk

pub returns-in-Err-clause-any_moment : goal.returns-in-Err-clause-any_moment
returns-in-Err-clause-any_moment g c = search rules

pub returns-in-Ok-clause-unfit : goal.returns-in-Ok-clause-unfit
returns-in-Ok-clause-unfit g c = λ v rs is unfit. ok_more c.recovered.result (λ x made. unfit (ap (fit c.args.number) (sym (c.in-Ok.ensures.only v rs is).1) ∙ made.fits)) c.recovered.ensures.replays

pub returns-in-Ok-clause-no_file : goal.returns-in-Ok-clause-no_file
returns-in-Ok-clause-no_file g c = λ none. absurd (c.in-Ok.ensures.no_file none)
