-- The packet that a sent name stands for, and its bytes.
use Rattle.std.specs.Prelude.{ℕ, List, length, map, sum}
use Rattle.cs_packet.specs.declared.packet.Packet.{Packet}
use Rattle.cs_packet.specs.declared.packet.Body.{Body}
use Rattle.cs_packet.specs.declared.packet.Body.TheVariants as bodies
use Rattle.cs_packet.specs.PacketField.{packet_bytes}
use Rattle.cs_machine.specs.Contents.{Contents, contents_of, piece_at, slice_at, view_at}
use Rattle.cs_machine.specs.Names.{Name, Report, Piece, Need, Slice, Ask, Snap, Bye, Sent, World}

-- a datagram over IPv4 carries at most so many bytes (RFC 791, RFC 768): 65,535 without the 28 of both headers
abbrev pub most_datagram : ℕ
most_datagram = 65507

-- what the packet says
abbrev pub body_for : Contents → Name → Body
body_for c (Report changes) = bodies.Report changes
body_for c (Piece epoch region colour) = bodies.Piece epoch region colour (piece_at c epoch region colour)
body_for c (Need addr mode epoch region) = bodies.Need addr mode epoch region
body_for c (Slice epoch region) = bodies.Slice (slice_at c epoch region)
body_for c (Ask addr mode least) = bodies.Ask addr mode least
body_for c (Snap epoch regions) = bodies.Snap (view_at c epoch regions)
body_for c (Bye epoch) = bodies.Bye epoch

-- the packet of a sent name
abbrev pub packet_for : Contents → Sent → Packet
packet_for c sent = record { from = sent.from; to = sent.to; body = body_for c sent.name }

-- and how it is spelled
abbrev pub bytes_of : World → Sent → List ℕ
bytes_of world sent = packet_bytes (packet_for (contents_of world) sent)

-- how many bytes were sent in all
abbrev pub bytes_sent : World → ℕ
bytes_sent world = sum (map (λ (sent : Sent). length (bytes_of world sent)) world.sent)
