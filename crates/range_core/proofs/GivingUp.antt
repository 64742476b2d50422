-- What a range leaves that is told to give up.
use Rattle.std.proofs.Common.{◌≡◌, ◌∙◌, ◌+◌, false, List, [], ◌++◌, map, Option, Some, None, refl, sym, ap, arith, append_assoc}
use Rattle.std.specs.Prelude.{option_map, option_to_list, flat_map}
use Rattle.wire.specs.declared.packet.Packet.{Packet}
use Rattle.client.specs.Client.{ClientState}
use Rattle.client.specs.Load.{again}
use Rattle.model_partition.specs.CheckpointStates.{CheckpointState}
use Rattle.model_partition.specs.declared.checkpoint_job.CheckpointPhase.{CheckpointPhase}
use Rattle.model_partition.specs.declared.checkpoint_job.CheckpointPhase.TheVariants as phases
use Rattle.model_partition.specs.declared.server_context.ServerContext.{ServerContext}
use Rattle.model_partition.specs.declared.waiting.WaitingGet.{WaitingGet}
use Rattle.model_partition.specs.Range.{RangeState, used}
use Rattle.model_partition.specs.Answering.{gives_up_job, gives_up_reading, give_up_all}
use Rattle.model_partition.specs.ControlJobs.{give_up_control}
use Rattle.model_partition.specs.Checkpoints.{phase_again, trim_again}
use Rattle.model_partition.specs.PlaceReads.{moved_on}
use Rattle.model_partition.specs.Getting.{gives_up_get}
use Rattle.range_core.specs.Steps.{RangeStep, outcome}

phase_alike : (d : ServerContext) (r s : RangeState) (phase : CheckpointPhase) → r.load ≡ s.load → phase_again d r phase ≡ phase_again d s phase
phase_alike d r s (phases.Trim before to_blob q) load = rw load refl
phase_alike d r s phase load = refl

-- the Trim that is sent again is that of the load alone
pub trim_alike : (d : ServerContext) (r s : RangeState) (control : Option CheckpointState) → r.load ≡ s.load → trim_again d r control ≡ trim_again d s control
trim_alike d r s None load = refl
trim_alike d r s (Some job) load = phase_alike d r s job.phase load

pub given_up : (d : ServerContext) (r : RangeState) (log metadata rows : ClientState) (gets : List WaitingGet) (l g m w x y : Option Packet) (reads packets : List Packet) (t : RangeStep)
    → l ≡ again r.load r.load.phase → gives_up_job d r.log ≡ record { after = log; packet = g; news = None }
    → gives_up_job (used d) r.metadata ≡ record { after = metadata; packet = m; news = None }
    → gives_up_job (used (used d)) r.rows ≡ record { after = rows; packet = w; news = None }
    → option_to_list x ≡ gives_up_reading d r r.reading
    → option_to_list y ≡ trim_again d r r.control
    → gets ≡ map (λ y. (gives_up_get d r y).0) r.gets → reads ≡ flat_map (λ y. (gives_up_get d r y).1) r.gets
    → packets ≡ (((((option_to_list l ++ option_to_list g) ++ option_to_list m) ++ option_to_list w) ++ option_to_list x) ++ option_to_list y) ++ reads
    → t ≡ record { dropped = false; count = d.count + 3; packets = packets; notes = [] }
    → give_up_all d r ≡ outcome t (record r { metadata = metadata; log = log; rows = rows; reading = option_map moved_on r.reading; gets = gets })
given_up d r log metadata rows gets l g m w x y reads packets t l_is g_is m_is w_is x_is y_is gets_is reads_is packets_is t_is =
    let counted : (used (used (used d))).count ≡ d.count + 3 = omega arith in
    let nested : option_to_list l ++ (option_to_list g ++ (option_to_list m ++ (option_to_list w ++ (option_to_list x ++ (option_to_list y ++ reads))))) ≡ (((((option_to_list l ++ option_to_list g) ++ option_to_list m) ++ option_to_list w) ++ option_to_list x) ++ option_to_list y) ++ reads = simp append_assoc refl in
    let first : give_up_all d r ≡ record { after = Some (record r { metadata = metadata; log = log; rows = rows; reading = option_map moved_on r.reading; gets = gets }); count = d.count + 3; packets = option_to_list l ++ (option_to_list g ++ (option_to_list m ++ (option_to_list w ++ (option_to_list x ++ (option_to_list y ++ reads))))); notes = [] } = λ i.
    record { after = Some (record r { metadata = (m_is i).after; log = (g_is i).after; rows = (w_is i).after; reading = option_map moved_on r.reading; gets = sym gets_is i }); count = counted i; packets = option_to_list (sym l_is i) ++ (option_to_list (g_is i).packet ++ (option_to_list (m_is i).packet ++ (option_to_list (w_is i).packet ++ (sym x_is i ++ (sym y_is i ++ sym reads_is i))))); notes = [] } in
    first ∙ ap (λ (ps : List Packet). outcome (record { dropped = false; count = d.count + 3; packets = ps; notes = [] }) (record r { metadata = metadata; log = log; rows = rows; reading = option_map moved_on r.reading; gets = gets })) (nested ∙ sym packets_is)
    ∙ ap (λ (x : RangeStep). outcome x (record r { metadata = metadata; log = log; rows = rows; reading = option_map moved_on r.reading; gets = gets })) (sym t_is)

-- ---- of a range whose checkpoint alone gives up

pub control_after : (d : ServerContext) (r : RangeState) (metadata rows : ClientState) (m w : Option Packet)
    → gives_up_job (used d) r.metadata ≡ record { after = metadata; packet = m; news = None }
    → gives_up_job (used (used d)) r.rows ≡ record { after = rows; packet = w; news = None }
    → (give_up_control d r).after ≡ Some (record r { metadata = metadata; rows = rows; reading = option_map moved_on r.reading })
control_after d r metadata rows m w m_is w_is = λ i. Some (record r { metadata = (m_is i).after; rows = (w_is i).after; reading = option_map moved_on r.reading })

pub control_sent : (d : ServerContext) (r : RangeState) (metadata rows : ClientState) (m w x y : Option Packet) (sent packets : List Packet)
    → gives_up_job (used d) r.metadata ≡ record { after = metadata; packet = m; news = None }
    → gives_up_job (used (used d)) r.rows ≡ record { after = rows; packet = w; news = None }
    → option_to_list x ≡ gives_up_reading d r r.reading
    → option_to_list y ≡ trim_again d r r.control
    → packets ≡ (((sent ++ option_to_list m) ++ option_to_list w) ++ option_to_list x) ++ option_to_list y
    → packets ≡ sent ++ (give_up_control d r).packets
control_sent d r metadata rows m w x y sent packets m_is w_is x_is y_is packets_is =
    let nested : (((sent ++ option_to_list m) ++ option_to_list w) ++ option_to_list x) ++ option_to_list y ≡ sent ++ (option_to_list m ++ (option_to_list w ++ (option_to_list x ++ option_to_list y))) = simp append_assoc refl in
    packets_is
    ∙ nested
    ∙ (λ i. sent ++ (option_to_list (sym m_is i).packet ++ (option_to_list (sym w_is i).packet ++ (x_is i ++ y_is i))))
