use Rattle.std.proofs.Common.{sym, subst, OnOk}
use Rattle.model_streams.specs.declared.event.Event.{Event}
use Rattle.model_streams.specs.StreamSystem.{StreamSystem, happens}
use Rattle.world_streams.specs.StreamLayer.{StreamLayerMirrors}
use Rattle.world_streams.proofs.stream_layer.StreamLayer.step.Goals as goal

pub returns-in-Submit-clause-ok : goal.returns-in-Submit-clause-ok
returns-in-Submit-clause-ok c = subst (λ (event : Event). OnOk c.submit_copy.result ((w : StreamSystem) → StreamLayerMirrors c.args.self.now w → StreamLayerMirrors c.submit_copy.new.self (happens w event))) (sym c.in-Submit.is) c.submit_copy.ensures.ok

pub returns-in-Deliver-clause-ok : goal.returns-in-Deliver-clause-ok
returns-in-Deliver-clause-ok c = subst (λ (event : Event). OnOk c.deliver.result ((w : StreamSystem) → StreamLayerMirrors c.args.self.now w → StreamLayerMirrors c.deliver.new.self (happens w event))) (sym c.in-Deliver.is) c.deliver.ensures.ok
