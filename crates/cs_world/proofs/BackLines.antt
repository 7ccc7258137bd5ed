-- How a node says what it came back as.
use Rattle.std.proofs.Common.{◌≡◌, ◌++◌, ℕ, Option, None, Some, codes, decimal, ap, sym, refl, ◌∙◌}
use Rattle.std.specs.Option.{option_map, option_map_or}
use Rattle.std.proofs.lemmas.Option.{none-some, same_Some}
use Rattle.cs_core.specs.Node.{Following as Membership, Node as Follower, view_of as follower_view}
use Rattle.cs_item.specs.declared.picture.Picture.{Picture}
use Rattle.cs_link.specs.declared.link.Link.{Ghosts as LinkGhosts}
use Rattle.cs_log.specs.declared.log.Log.{Ghosts as LogGhosts}
use Rattle.cs_node.specs.Placed.{Placed}
use Rattle.cs_node.specs.declared.node.Node.{Node}
use Rattle.cs_node.specs.declared.node.Node.TheVariants as nodes
use Rattle.cs_packet.specs.declared.own.Own.{Own}
use Rattle.cs_machine.specs.Contents.{Contents}
use Rattle.cs_machine.specs.Happens.{restart_line}
use Rattle.cs_machine.specs.Names.{Following, Joining, Leading, Left, State}
use Rattle.cs_machine.specs.Values.{node_for}
use Rattle.cs_world.specs.AloneEvents.{back_word}
use Rattle.cs_world.specs.Processes.{Parts, parts_in}
use Rattle.cs_world.specs.Seats.{parts_at, state_at}
use Rattle.cs_world.specs.declared.seats.Seats.{Seats}

-- a node that isn't the leader says it by its view
pub follower-word : (f : Follower) (view : Option Picture) → view ≡ follower_view f
    → option_map_or (λ (v : Picture). codes "member" ++ codes " " ++ decimal v.epoch) view (codes "joining") ≡ back_word (nodes.Follower f)
follower-word f view is =
    ap (λ (o : Option Picture). option_map_or (λ (v : Picture). codes "member" ++ codes " " ++ decimal v.epoch) o (codes "joining")) is
    ∙ go f.following
  where
    go : (o : Option Membership)
        → option_map_or (λ (v : Picture). codes "member" ++ codes " " ++ decimal v.epoch) (option_map (λ (m : Membership). m.view) o) (codes "joining")
        ≡ option_map_or (λ (m : Membership). codes "member " ++ decimal m.view.epoch) o (codes "joining")
    go None = refl
    go (Some m) = refl

-- what a node of the machine comes back as is said so
pub back-named : (c : Contents) (own : Own) (named : State) → back_word (node_for c own named) ≡ restart_line named
back-named c own Joining = refl
back-named c own (Following m) = refl
back-named c own (Leading epoch pending) = refl
back-named c own Left = refl

-- what stands under an id has what its process has
pub node-at : {L G : Type 0} (link : LinkGhosts L) (log : LogGhosts G) (seats : Seats (Placed L G)) (id : ℕ) (process : Placed L G)
    (parts : Parts) → state_at seats id ≡ Some process → parts_at link log seats id ≡ Some parts → process.node ≡ parts.node
node-at link log seats id process parts at there =
    ap (λ (p : Parts). p.node)
    (same_Some (parts_in link log process) parts (sym (ap (option_map (parts_in link log)) at) ∙ there))

-- where nothing stands under an id, there are no parts
pub none-at : {L G : Type 0} (link : LinkGhosts L) (log : LogGhosts G) (seats : Seats (Placed L G)) (id : ℕ) (parts : Parts)
    → state_at seats id ≡ None → parts_at link log seats id ≡ Some parts → ⊥
none-at link log seats id parts gone there = none-some parts (sym (ap (option_map (parts_in link log)) gone) ∙ there)
