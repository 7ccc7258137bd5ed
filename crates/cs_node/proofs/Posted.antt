-- Datagrams are sent one by one.
use Rattle.std.proofs.Common.{◌≡◌, ℕ, List, length, take, drop}
use Rattle.cs_link.specs.Room.{HasRoom, Room}
use Rattle.cs_link.specs.Sent.{Datagram}
use Rattle.cs_node.specs.Posting.{all_posted, bytes_in}
use Rattle.cs_node.specs.Told.{LinkTold}

-- the first of them are sent, nothing else changed, and there is room for the others
pub record IsPostedTo (sent place : ℕ) (datagrams : List Datagram) (before now : LinkTold) (room : Room) : Type 0 where
  pub counted : sent ≡ place
  pub posted : now ≡ record before { sent = all_posted (take place datagrams) before.sent }
  pub enough : HasRoom (length (drop place datagrams)) (bytes_in (drop place datagrams)) room
