-- From a square over the contents of a world to the world after the step.
use Rattle.std.proofs.Common.{◌≡◌, ◌∙◌, ℕ, List, [], ◌∷◌, Option, Some, None, refl, sym, ap, subst}
use Rattle.std.specs.List.{AllByRecursion, AllZip}
use Rattle.std.specs.Option.{option_map}
use Rattle.cs_base.specs.Address.{Address}
use Rattle.cs_node.specs.Effects.{on_bytes}
use Rattle.cs_node.specs.declared.effects.Effects.{Effects}
use Rattle.cs_packet.specs.declared.packet.Body.{Body}
use Rattle.cs_packet.specs.declared.packet.Packet.{Packet}
use Rattle.cs_machine.specs.Contents.{contents_of}
use Rattle.cs_machine.specs.Entries.{Entry, entries_of}
use Rattle.cs_machine.specs.Machine.{deliver_step}
use Rattle.cs_machine.specs.Outcome.{committed, sent_by}
use Rattle.cs_machine.specs.Names.{Name, Node, Sent, State, World, node_of}
use Rattle.cs_machine.specs.Packets.{bytes_of}
use Rattle.cs_machine.specs.Reached.{IsLogged, IsReached, IsSent, NameStands}
use Rattle.cs_machine.specs.Squares.{IsStep, SendStands, StandsForStep}
use Rattle.cs_machine.specs.Step.{Step}
use Rattle.cs_machine.proofs.Commits.{Follows-commit}
use Rattle.cs_machine.specs.Values.{entry_for, node_for}
use Rattle.cs_machine.proofs.Follows.{Follows, body_for-later, entry_for-later, is-up, node_for-later}
use Rattle.cs_machine.proofs.HeldFits.{keeps-held}
use Rattle.cs_machine.proofs.Nodes.{id-found}
use Rattle.cs_machine.proofs.ReachedPieces.{IsQuiet-deliver}
use Rattle.cs_machine.proofs.ReachedSteps.{IsQuiet, quiet-keeps}
use Rattle.cs_machine.proofs.RunSquares.{address-found, address-later, run-square}
use Rattle.cs_machine.proofs.SquareParts.{SendOver, SquareAt}

-- lists that agree place by place agree better where each of the second list has more
AllZip-where : {A B : Type 0} (R S : A → B → Type 0) (P : B → Type 0) → ((x : A) (y : B) → R x y → P y → S x y)
    → (xs : List A) (ys : List B) → AllZip R xs ys → AllByRecursion P ys → AllZip S xs ys
AllZip-where R S P each [] [] zip all = zip
AllZip-where R S P each [] (y ∷ ys) zip all = absurd zip
AllZip-where R S P each (x ∷ xs) [] zip all = absurd zip
AllZip-where R S P each (x ∷ xs) (y ∷ ys) zip all = (each x y zip.0 all.0, AllZip-where R S P each xs ys zip.1 all.1)

-- what a node sends, as it is sent
abbrev IsSend : World → ℕ → ℕ × Name → Type 0
IsSend world from send = IsSent world (record { from = from; to = send.0; name = send.1 })

-- each of it is sent where all is
each-sent : (world : World) (from : ℕ) (sends : List (ℕ × Name)) → AllByRecursion (IsSent world) (sent_by from sends)
    → AllByRecursion (IsSend world from) sends
each-sent world from [] all = tt
each-sent world from (send ∷ sends) all = (all.0, each-sent world from sends all.1)

module _ (world : World) (reached : IsReached world) (node : Node) (found : node_of world node.own.id ≡ Some node) (state : State) (step : Step)
    (is_quiet : IsQuiet world node.own state step) (effects : Effects)
    (square : SquareAt world (contents_of world) node.own state step effects) where
  -- the world after the step
  abbrev later : World
  later = committed world node step

  -- which comes from the world
  follows : Follows world later
  follows = Follows-commit world node step

  -- a packet that stands for a name does so in it
  send-later : (send : Address × Packet) (named : ℕ × Name) → SendOver world (contents_of world) node.own.id send named
      → IsSend world node.own.id named → SendStands later node.own.id send named
  send-later send named stands is_sent =
      let is = reached.nodes node.own.id node found in
      record {
        address = address-later world later follows named.0 is_sent.node is_sent.receiver
            ∙ (sym (address-found world named.0 is_sent.node is_sent.receiver) ∙ stands.address);
        packet = stands.packet
            ∙ ap (λ (body : Body). (let p : Packet = record { from = node.own.id; to = named.0; body = body } in p))
            (sym (body_for-later world later follows is.leader is.led node.own.id named.0 named.1 is_sent.name));
      }

  -- an entry says in it what it said
  entry-later : (o : Option Entry) → AllByRecursion (IsLogged world) (entries_of o)
      → option_map (entry_for (contents_of world)) o ≡ option_map (entry_for (contents_of later)) o
  entry-later None is_logged = refl
  entry-later (Some entry) is_logged =
      let is = reached.nodes node.own.id node found in
      ap (λ e. Some e) (sym (entry_for-later world later follows is.leader is.led entry is_logged.0.fits))

  -- the effects stand for the step
  pub lifted : StandsForStep world node state step effects
  lifted =
      let is = reached.nodes node.own.id node found in
      record {
        note = square.note;
        entry = square.entry;
        entry_after = square.entry ∙ entry-later step.entry is_quiet.entry;
        after = square.after ∙ sym (node_for-later world later follows is.leader is.led node.own step.state is_quiet.state);
        sends = AllZip-where (SendOver world (contents_of world) node.own.id) (SendStands later node.own.id) (IsSend world node.own.id)
            send-later effects.sends step.sends square.sends (each-sent world node.own.id step.sends is_quiet.sends);
      }

  -- and where the node is in the state, the step leads to a reached world
  pub lifted-step : node.state ≡ Some state → IsStep world node state step effects
  lifted-step is_up = (lifted, (quiet-keeps world node node.own.id state step reached found is_up is_quiet).reached)

-- what a node decides on the bytes of a packet of the run is its step
pub deliver-step : (world : World) (node : Node) (state : State) (sent : Sent) → IsReached world → IsSent world sent
    → node_of world sent.to ≡ Some node → node.state ≡ Some state
    → IsStep world node state (deliver_step (contents_of world) node.own state sent.from sent.name)
    (on_bytes (node_for (contents_of world) node.own state) (bytes_of world sent))
deliver-step world node state sent reached is_sent found is_up =
    let mine = sym (id-found world sent.to node found) in
    let here = subst (λ id. node_of world id ≡ Some node) mine found in
    let is = reached.nodes sent.to node found in
    let up = is-up world node state is is_up in
    lifted-step world reached node here state _
    (IsQuiet-deliver world reached node is state up.fits node.own.id sent.from sent.name (keeps-held world)
    (subst (λ id. NameStands world sent.from id sent.name) mine is_sent.name))
    _ (run-square world reached node is state up.fits sent is_sent mine) is_up
