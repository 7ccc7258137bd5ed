-- Squares of a node's own calls: it joins, moves, wants to leave, hands on what is pending, or asks another node.
use Rattle.std.proofs.Common.{◌≡◌, ◌+◌, ◌==◌, ℕ, Bool, true, false, cond, List, [], ◌∷◌, Option, Some, None, refl, sym, subst}
use Rattle.std.specs.List.{AllZip}
use Rattle.std.specs.Option.{option_map_or}
use Rattle.cs_base.specs.Address.{Address}
use Rattle.cs_base.specs.Axes.{Axes}
use Rattle.cs_base.specs.Limits.{last_id, last_number}
use Rattle.cs_base.specs.declared.change.Change.{Change}
use Rattle.cs_base.specs.declared.change.Change.TheVariants as changes
use Rattle.cs_core.specs.Addresses.{address_of, packet_from}
use Rattle.cs_core.specs.Asking.{ask_plan, asked, asked_address, least_wanted, need_of, need_plan}
use Rattle.cs_core.specs.Changes.{flush_plan, kept_as as kept_values, leave_plan, move_plan, pending_with as pending_values, sends_of}
use Rattle.cs_core.specs.Decision.{ask_leader_plan, join_plan}
use Rattle.cs_core.specs.Node.{Following as Values}
use Rattle.cs_core.specs.Plans.{goes_on, only}
use Rattle.cs_core.specs.declared.plan.FollowNote.TheVariants as follow_notes
use Rattle.cs_core.specs.declared.plan.Plan.{Plan}
use Rattle.cs_item.specs.declared.picture.Picture.{Picture}
use Rattle.cs_node.specs.Effects.{effects_of_follower}
use Rattle.cs_node.specs.declared.note.Note.TheVariants as notes
use Rattle.cs_packet.specs.declared.entry.Entry.TheVariants as entries
use Rattle.cs_packet.specs.declared.own.Own.{Own}
use Rattle.cs_packet.specs.declared.packet.Body.TheVariants as bodies
use Rattle.cs_packet.specs.declared.packet.Packet.{Packet}
use Rattle.cs_machine.specs.Asking.{ask_leader_step, ask_step, asks, need_step, unless_last}
use Rattle.cs_machine.specs.Changes.{flush_step, is_reporter, join_step, kept_as, leave_step, move_step, pending_with, reporter, reports}
use Rattle.cs_machine.specs.Contents.{Contents, view_at}
use Rattle.cs_machine.specs.Entries as named
use Rattle.cs_machine.specs.Names.{Ask, Following, Joining, Membership, Name, Need, Report, World}
use Rattle.cs_machine.specs.Packets.{body_for}
use Rattle.cs_machine.specs.Squares.{address_in}
use Rattle.cs_machine.specs.Step.{Step, quiet}
use Rattle.cs_machine.specs.Values.{member_for}
use Rattle.cs_machine.proofs.SquareParts.{SendOver, SquareAt, quiet-follower}

-- a member knows the address that a node was started with
pub record KnowsAddress (world : World) (c : Contents) (own : Own) (m : Membership) (id : ℕ) : Type 0 where
  pub addr : Address
  pub known : address_of own (view_at c m.epoch m.known) id ≡ Some addr
  pub started : address_in world id ≡ Some addr

module _ (world : World) (c : Contents) (own : Own) (led : address_in world own.leader ≡ Some own.leader_addr) where
  -- a joining node joins
  pub join-square : SquareAt world c own Joining (join_step own) (effects_of_follower (join_plan own))
  join-square = record { note = refl; entry = refl; after = refl; sends = (record { address = led; packet = refl }, tt) }

  -- it asks the leader for a snapshot
  pub ask_leader-square : SquareAt world c own Joining (ask_leader_step own) (effects_of_follower (ask_leader_plan own))
  ask_leader-square = record { note = refl; entry = refl; after = refl; sends = (record { address = led; packet = refl }, tt) }

  -- what is pending goes to the leader
  pub flush-square : (m : Membership) (pending : List Change)
      → SquareAt world c own (Following m) (flush_step own m pending) (effects_of_follower (flush_plan own (member_for c m) pending))
  flush-square m [] = quiet-follower world c own (Following m) follow_notes.Nothing
  flush-square m (change ∷ changes) = record { note = refl; entry = refl; after = refl; sends = (record { address = led; packet = refl }, tt) }

-- the step of a member that has a number left for a move
abbrev moved_step : Contents → Own → Axes → Membership → Step
moved_step c own at m =
    let change = changes.Move own.id (m.seq + 1) at in
    record {
      state = Following (record m { pending = pending_with c own m change; seq = m.seq + 1 });
      entry = Some (named.Seq (m.seq + 1) at);
      note = notes.Moved (m.seq + 1) (kept_as c own m change);
      sends = reports c own m change;
    }

-- and its plan
abbrev moved_plan : Own → Values → Axes → Plan
moved_plan own m at =
    let change = changes.Move own.id (m.seq + 1) at in
    record {
      entry = Some (entries.Seq (m.seq + 1) at);
      sends = sends_of own m change;
      note = follow_notes.Moved (m.seq + 1) (kept_values own m change);
      after = goes_on own (record m { pending = pending_values own m change; seq = m.seq + 1 });
    }

module _ (world : World) (c : Contents) (own : Own) (m : Membership) (knows : KnowsAddress world c own m (reporter c own m)) where
  -- a change goes to the reporter, unless that is the node itself
  sent-square : (change : Change) → AllZip (SendOver world c own.id) (sends_of own (member_for c m) change) (reports c own m change)
  sent-square change = go (is_reporter c own m)
    where
      to : ℕ
      to = reporter c own m

      one : Address → List (Address × Packet)
      one addr = (addr, packet_from own to (bodies.Report (change ∷ []))) ∷ []

      go : (b : Bool)
          → AllZip (SendOver world c own.id)
          (cond b [] (option_map_or one (address_of own (view_at c m.epoch m.known) to) []))
          (cond b [] ((to, Report (change ∷ [])) ∷ []))
      go true = tt
      go false =
          subst (λ (o : Option Address). AllZip (SendOver world c own.id) (option_map_or one o []) ((to, Report (change ∷ [])) ∷ []))
          (sym knows.known) (record { address = knows.started; packet = refl }, tt)

  -- the member wants to leave
  pub leave-square : SquareAt world c own (Following m) (leave_step c own m) (effects_of_follower (leave_plan own (member_for c m)))
  leave-square = record { note = refl; entry = refl; after = refl; sends = sent-square (changes.Leave own.id) }

  -- the member moves
  pub move-square : (at : Axes) → SquareAt world c own (Following m) (move_step c own at m) (effects_of_follower (move_plan own (member_for c m) at))
  move-square at = go (m.seq == last_id)
    where
      moves_on : SquareAt world c own (Following m) (moved_step c own at m) (effects_of_follower (moved_plan own (member_for c m) at))
      moves_on = record { note = refl; entry = refl; after = refl; sends = sent-square (changes.Move own.id (m.seq + 1) at) }

      go : (b : Bool)
          → SquareAt world c own (Following m)
          (cond b (quiet (Following m) notes.SeqSpent) (moved_step c own at m))
          (effects_of_follower (cond b (only follow_notes.SeqSpent) (moved_plan own (member_for c m) at)))
      go true = quiet-follower world c own (Following m) follow_notes.SeqSpent
      go false = moves_on

-- a name that goes to an address stands for what is asked there
asks-square : (world : World) (c : Contents) (own : Own) (m : Membership) (to : ℕ) (name : Name) (o : Option Address)
    → ((addr : Address) → o ≡ Some addr → address_in world to ≡ Some addr)
    → SquareAt world c own (Following m) (asks m to name o) (effects_of_follower (asked own to (body_for c name) o))
asks-square world c own m to name None started = quiet-follower world c own (Following m) (follow_notes.Unknown to)
asks-square world c own m to name (Some addr) started =
    record { note = refl; entry = refl; after = refl; sends = (record { address = started addr refl; packet = refl }, tt) }

module _ (world : World) (c : Contents) (own : Own) (m : Membership) (to : ℕ)
    (started : (addr : Address) → asked_address own (view_at c m.epoch m.known) to ≡ Some addr → address_in world to ≡ Some addr) where
  -- what the member sees
  abbrev view : Picture
  view = view_at c m.epoch m.known

  -- the member asks a node for a snapshot
  pub ask-square : SquareAt world c own (Following m) (ask_step c own to m) (effects_of_follower (ask_plan own (member_for c m) to))
  ask-square = asks-square world c own m to (Ask own.addr own.mode (least_wanted own view)) (asked_address own view to) started

  -- or for a slice
  pub need-square : (region : ℕ)
      → SquareAt world c own (Following m) (need_step c own to region m) (effects_of_follower (need_plan own (member_for c m) to region))
  need-square region = go (asked_address own view to) started
    where
      name : Name
      name = Need own.addr own.mode (m.epoch + 1) region

      unless_spent : (addr : Address) → ((at : Address) → Some addr ≡ Some at → address_in world to ≡ Some at) → (b : Bool)
          → SquareAt world c own (Following m) (cond b (quiet (Following m) notes.Spent) (asks m to name (Some addr)))
          (effects_of_follower (cond b (only follow_notes.Spent) (asked own to (body_for c name) (Some addr))))
      unless_spent addr there true = quiet-follower world c own (Following m) follow_notes.Spent
      unless_spent addr there false = asks-square world c own m to name (Some addr) there

      go : (o : Option Address) → ((addr : Address) → o ≡ Some addr → address_in world to ≡ Some addr)
          → SquareAt world c own (Following m) (unless_last m o (asks m to name o)) (effects_of_follower (need_of own (member_for c m) to region o))
      go None there = quiet-follower world c own (Following m) (follow_notes.Unknown to)
      go (Some addr) there = unless_spent addr there (m.epoch == last_number)
