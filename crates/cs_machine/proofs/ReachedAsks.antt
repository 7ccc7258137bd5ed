-- What a node asks of another is sent: the node gives its own address, and the other is a node of the world. So a step at
-- which it asks keeps what every reached world has.
use Rattle.std.proofs.Common.{◌≡◌, ◌==◌, ℕ, ◌+◌, ◌≤◌, ◌<◌, Option, Some, None, length, refl, arith}
use Rattle.std.proofs.lemmas.Bool.{cond_both, eqb-false}
use Rattle.cs_base.specs.Address.{Address}
use Rattle.cs_base.specs.Limits.{last_id, last_number}
use Rattle.cs_base.specs.Ranges.{IsRegion}
use Rattle.cs_core.specs.Asking.{asked_address, lacks_roll, least_wanted}
use Rattle.cs_item.specs.declared.picture.Picture.{Picture}
use Rattle.cs_node.specs.declared.note.Note.TheVariants as notes
use Rattle.cs_packet.specs.declared.own.Own.{Own}
use Rattle.cs_machine.specs.Asking.{ask_leader_step, ask_step, asks, need_step, unless_last}
use Rattle.cs_machine.specs.Contents.{Contents, contents_of, items, view_at}
use Rattle.cs_machine.specs.Names.{Ask, Following, Joining, Membership, Name, Need, Node, World, node_of}
use Rattle.cs_machine.specs.Reached.{IsAsker, IsReached, IsSent, IsStarted, MemberFits}
use Rattle.cs_machine.specs.Step.{quiet}
use Rattle.cs_machine.proofs.ReachedSteps.{IsQuiet, IsQuiet-stays}
use Rattle.cs_machine.proofs.ReachedTargets.{IsNodeThere, IsNodeThere-asked, IsNodeThere-leader, IsSent-to}

module _ (world : World) (reached : IsReached world) (node : Node) (is : IsStarted world node) where
  -- who the node is, and the contents of the run
  abbrev own : Own
  own = node.own

  abbrev c : Contents
  c = contents_of world

  module _ (found : node_of world own.id ≡ Some node) where
    -- who asks is the node itself
    asker : IsAsker world own.id own.addr
    asker = record { node = node; found = found; same = refl }

    -- it asks a node that is there for a snapshot
    sent-ask : (to : ℕ) (addr : Address) (least : ℕ) → IsNodeThere world (to, addr) → least ≤ last_id
        → IsSent world (record { from = own.id; to = to; name = Ask own.addr own.mode least })
    sent-ask to addr least there few =
        IsSent-to world reached own.id to (Ask own.addr own.mode least) there.node is.allowed.id there.found asker
        (is.allowed.addr, (omega arith, few))

    -- or for a slice
    sent-need : (to : ℕ) (addr : Address) (epoch region : ℕ) → IsNodeThere world (to, addr) → 0 < epoch → epoch ≤ last_number → IsRegion region
        → IsSent world (record { from = own.id; to = to; name = Need own.addr own.mode epoch region })
    sent-need to addr epoch region there some few allowed =
        IsSent-to world reached own.id to (Need own.addr own.mode epoch region) there.node is.allowed.id there.found asker
        (is.allowed.addr, (omega (arith, some), few), allowed)

    -- a joining node asks the leader for a snapshot
    pub IsQuiet-ask_leader : IsQuiet world own Joining (ask_leader_step own)
    IsQuiet-ask_leader = record {
      no_items = refl;
      state = tt;
      entry = tt;
      lasts = refl;
      rises = λ n at. at;
      sends = (sent-ask own.leader own.leader_addr 0 (IsNodeThere-leader world reached node is) (omega arith), tt);
    }

    module _ (m : Membership) (fits : MemberFits world m) where
      -- what the member sees
      abbrev view : Picture
      view = view_at c m.epoch m.known

      -- whom it may ask is there
      there-asked : (to : ℕ) (addr : Address) → asked_address own view to ≡ Some addr → IsNodeThere world (to, addr)
      there-asked = IsNodeThere-asked world reached own m.epoch m.known (IsNodeThere-leader world reached node is)

      -- its epoch is at most the last one
      few-epochs : m.epoch ≤ last_number
      few-epochs =
          let so_far : m.epoch ≤ length (items world) = fits.epoch in
          let few : length (items world) ≤ last_number = reached.epochs in omega (arith, so_far, few)

      -- so that of a snapshot which tells it something new has a number of 32 bits
      few-wanted : least_wanted own view ≤ last_id
      few-wanted =
          cond_both (lacks_roll own.mode view) m.epoch (m.epoch + 1) (λ (n : ℕ). n ≤ last_id)
          (λ _. omega (arith, few-epochs)) (λ _. omega (arith, few-epochs))

      -- what it asks goes to another node, where it is sent
      IsQuiet-asks : (to : ℕ) (name : Name) (o : Option Address)
          → ((addr : Address) → o ≡ Some addr → IsSent world (record { from = own.id; to = to; name = name }))
          → IsQuiet world own (Following m) (asks m to name o)
      IsQuiet-asks to name None sent = IsQuiet-stays world own (Following m) (notes.Unknown to) fits
      IsQuiet-asks to name (Some addr) sent =
          record { no_items = refl; state = fits; entry = tt; lasts = refl; rises = λ n at. at; sends = (sent addr refl, tt) }

      -- a member asks for a snapshot
      pub IsQuiet-ask : (to : ℕ) → IsQuiet world own (Following m) (ask_step c own to m)
      IsQuiet-ask to =
          IsQuiet-asks to (Ask own.addr own.mode (least_wanted own view)) (asked_address own view to)
          (λ addr is_asked. sent-ask to addr (least_wanted own view) (there-asked to addr is_asked) few-wanted)

      -- it asks for a slice of the next epoch, unless it is at the last one
      pub IsQuiet-need : (to region : ℕ) → IsRegion region → IsQuiet world own (Following m) (need_step c own to region m)
      IsQuiet-need to region allowed = go (asked_address own view to) refl
        where
          name : Name
          name = Need own.addr own.mode (m.epoch + 1) region

          go : (o : Option Address) → asked_address own view to ≡ o → IsQuiet world own (Following m) (unless_last m o (asks m to name o))
          go None unknown = IsQuiet-stays world own (Following m) (notes.Unknown to) fits
          go (Some addr) is_asked =
              cond_both (m.epoch == last_number) (quiet (Following m) notes.Spent) (asks m to name (Some addr)) (IsQuiet world own (Following m))
              (λ _. IsQuiet-stays world own (Following m) notes.Spent fits)
              (λ left.
              let other = eqb-false m.epoch last_number left in
              let few = few-epochs in
              IsQuiet-asks to name (Some addr)
              (λ _ _. sent-need to addr (m.epoch + 1) region (there-asked to addr is_asked) (omega arith) (omega (arith, other, few)) allowed))
