use Rattle.std.proofs.Common.{◌≡◌, ◌++◌, IfOk, OnOk, subst, sym}
use Rattle.std.specs.String.{string_bytes}
use Rattle.cs_packet.proofs.PacketLaws.{packet_only}
use Rattle.cs_show.specs.Text.{ended}
use Rattle.cs_world.specs.Named.{IsNamed}
use Rattle.cs_world.proofs.NamedPieces.{line-named}
use Rattle.cs_world.proofs.posting.put_names.Goals as goal

-- the packet that the bytes spell has the names that were read
pub returns-in-Some : goal.returns-in-Some
returns-in-Some c = λ packet is spelt.
    let names = c.in-Some.names in
    let named = subst (λ read. IfOk read (IsNamed names)) (packet_only c.args.bytes.now packet is spelt) c.in-Some.ensures in
    subst (λ line. OnOk c.put_named.result (string_bytes c.put_named.new.out ≡ string_bytes c.args.out.now ++ ended line))
    (sym (line-named c.args.number names packet named)) c.put_named.ensures
