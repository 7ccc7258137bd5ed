-- One that left and asks the leader is told so: what the leader plans is its step in names.
use Rattle.std.proofs.Common.{◌≡◌, ◌∙◌, ℕ, List, Option, Some, None, refl, sym}
use Rattle.std.proofs.lemmas.Option.{none-some}
use Rattle.cs_base.specs.Address.{Address}
use Rattle.cs_base.specs.declared.change.Change.{Change}
use Rattle.cs_base.specs.declared.change.Mode.{Mode}
use Rattle.cs_lead.specs.Decision.{body_plan}
use Rattle.cs_node.specs.Effects.{effects_of_leader}
use Rattle.cs_packet.specs.declared.packet.Body.TheVariants as bodies
use Rattle.cs_machine.specs.Answers.{ForSlice, ForSnapshot, Wish, wish_step}
use Rattle.cs_machine.specs.Contents.{Contents, contents_of}
use Rattle.cs_machine.specs.Machine.{deliver_step}
use Rattle.cs_machine.specs.Names.{Ask, Leading, Need, Node, World, leader_of, node_of}
use Rattle.cs_machine.specs.Reached.{IsReached}
use Rattle.cs_machine.specs.Squares.{StandsForStep, address_in}
use Rattle.cs_machine.specs.Values.{leader_for, node_for}
use Rattle.cs_machine.proofs.AnswerSquares.{asking, wish-square}
use Rattle.cs_machine.proofs.Follows.{is-up}
use Rattle.cs_machine.proofs.Lifts.{lifted}
use Rattle.cs_machine.proofs.ReachedAnswers.{IsQuiet-wish}
use Rattle.cs_machine.proofs.SquareParts.{on_body}

-- who has an address is there
node-there : (world : World) (id : ℕ) (addr : Address) → address_in world id ≡ Some addr → (node : Node) × (node_of world id ≡ Some node)
node-there world id addr there = go (node_of world id) refl
  where
    go : (o : Option Node) → node_of world id ≡ o → (node : Node) × (node_of world id ≡ Some node)
    go None none = (let nowhere : address_in world id ≡ None = rw none refl in absurd (none-some addr (sym nowhere ∙ there)))
    go (Some node) found = (node, found)

module _ (world : World) (node : Node) (epoch : ℕ) (pending : List Change) (reached : IsReached world)
    (leads : leader_of world ≡ Some node) (leading : node.state ≡ Some (Leading epoch pending)) (asker : ℕ) (addr : Address)
    (there : address_in world asker ≡ Some addr) where
  -- the contents of the run
  abbrev c : Contents
  c = contents_of world

  -- what the leader answers to one that is there
  wish-stands : (wish : Wish)
      → StandsForStep world node (Leading epoch pending) (wish_step c (Leading epoch pending) asker wish)
      (on_body (node_for c node.own (Leading epoch pending)) asker (asking addr wish))
  wish-stands wish =
      let found = reached.found node leads in
      let is = reached.nodes node.own.id node found in
      let fits = (is-up world node (Leading epoch pending) is leading).fits in
      let asks = node-there world asker addr there in
      lifted world reached node found (Leading epoch pending) (wish_step c (Leading epoch pending) asker wish)
      (IsQuiet-wish world reached node is asker asks.0 asks.1 (Leading epoch pending) wish fits)
      (on_body (node_for c node.own (Leading epoch pending)) asker (asking addr wish))
      (wish-square world reached node is asker addr there (Leading epoch pending) fits wish)

  -- whether it asks for a snapshot
  pub ask-stands : (mode : Mode) (least : ℕ)
      → StandsForStep world node (Leading epoch pending) (deliver_step c node.own (Leading epoch pending) asker (Ask addr mode least))
      (effects_of_leader (body_plan (leader_for c node.own epoch pending) asker (bodies.Ask addr mode least)))
  ask-stands mode least = wish-stands (ForSnapshot mode least)

  -- or for a slice
  pub need-stands : (mode : Mode) (wanted region : ℕ)
      → StandsForStep world node (Leading epoch pending) (deliver_step c node.own (Leading epoch pending) asker (Need addr mode wanted region))
      (effects_of_leader (body_plan (leader_for c node.own epoch pending) asker (bodies.Need addr mode wanted region)))
  need-stands mode wanted region = wish-stands (ForSlice mode wanted region)
