-- The lines of a script: which words spell which line.
use Rattle.std.specs.Prelude.{◌<◌, ℕ, List, codes, length}
use Rattle.std.specs.List.{AllByRecursion}
use Rattle.block_types.specs.declared.record.Nodes.{Nodes}
use Rattle.model_streams.specs.declared.event.Event.{Event}
use Rattle.model_streams.specs.declared.event.Event.TheVariants as events
use Rattle.script_lines.specs.Sequences.{◌then◌, each, end, says}
use Rattle.script_lines.specs.Values.{IsValue}
use Rattle.script_lines.specs.Words.{Denotes, IsActor, IsChange, IsFate, IsKey, IsKind, IsLast, IsManner, IsNode, IsPlace, IsServer}
use Rattle.script_lines.specs.declared.line.Line.{Line}
use Rattle.script_lines.specs.declared.line.Line.TheVariants as lines
use Rattle.script_lines.specs.declared.line.Request.{Request}
use Rattle.script_lines.specs.declared.line.Request.TheVariants as requests

-- the three places of an extent, the primary first
abbrev pub AreNodes : Nodes → List (List ℕ) → Type 0
AreNodes pick = IsNode pick.primary then IsNode pick.second then IsNode pick.third then end

-- what a user asks, in the words after `user U`
abbrev pub Asks : Request → List (List ℕ) → Type 0
Asks (requests.Create kind) = says (codes "create") then IsKind kind then end
Asks (requests.Extend kind last pick) = says (codes "extend") then IsKind kind then IsLast last then AreNodes pick
Asks (requests.Append node extent blocks) =
    says (codes "append") then IsNode node then Denotes extent then each (λ bytes word. IsValue word bytes) blocks
Asks (requests.Read node extent offset length) =
    says (codes "read") then IsNode node then Denotes extent then IsPlace offset then IsPlace length then end
Asks (requests.Content node extent upto) =
    says (codes "content") then IsNode node then Denotes extent then IsPlace upto then end
Asks (requests.Seal extent) = says (codes "seal") then Denotes extent then end
Asks (requests.Transact server range changes) =
    says (codes "tx") then IsServer server then Denotes range then each IsChange changes
Asks (requests.Get server range key) =
    says (codes "get") then IsServer server then Denotes range then IsKey key then end
Asks (requests.Route key) = says (codes "route") then IsKey key then end

-- an event of its own; no line submits or delivers so
abbrev pub SpellsEvent : Event → List (List ℕ) → Type 0
SpellsEvent (events.Assign range server until) =
    says (codes "assign") then Denotes range then IsServer server then Denotes until then end
SpellsEvent (events.Renew range server until) =
    says (codes "renew") then Denotes range then IsServer server then Denotes until then end
SpellsEvent (events.Moment now) = says (codes "moment") then Denotes now then end
SpellsEvent (events.GiveUp server range pick) =
    says (codes "giveup") then IsServer server then Denotes range then AreNodes pick
SpellsEvent (events.Decide extent) = says (codes "decide") then Denotes extent then end
SpellsEvent (events.Stop actor call keep) =
    says (codes "stop") then IsActor actor then Denotes call then IsFate keep then end
SpellsEvent (events.Restart actor) = says (codes "restart") then IsActor actor then end
SpellsEvent (events.Submit user to body) = λ words. ⊥
SpellsEvent (events.Deliver number) = λ words. ⊥
SpellsEvent (events.Checkpoint server range combine) =
    says (codes "checkpoint") then IsServer server then Denotes range then IsManner combine then end
SpellsEvent (events.Split server range key) =
    says (codes "split") then IsServer server then Denotes range then IsKey key then end
SpellsEvent (events.Merge server left right) =
    says (codes "merge") then IsServer server then Denotes left then Denotes right then end

-- the form of a line; the node that is shown is below 256
abbrev pub HasForm : Line → List (List ℕ) → Type 0
HasForm (lines.Submit user request) = says (codes "user") then Denotes user then Asks request
HasForm (lines.Happens event) = SpellsEvent event
HasForm (lines.Deliver packet) = says (codes "deliver") then Denotes packet then end
HasForm lines.DeliverLast = says (codes "deliver") then says (codes "last") then end
HasForm lines.Settle = says (codes "settle") then end
HasForm (lines.Cut actor) = says (codes "cut") then IsActor actor then end
HasForm (lines.Heal actor) = says (codes "heal") then IsActor actor then end
HasForm (lines.Show node extent) =
    says (codes "show") then (λ word. Denotes node word × (node < 256)) then Denotes extent then end

-- these words spell this line: they have its form, and none is empty, as between two blanks
abbrev pub Spells : Line → List (List ℕ) → Type 0
Spells line words = AllByRecursion (λ word. 0 < length word) words × HasForm line words
