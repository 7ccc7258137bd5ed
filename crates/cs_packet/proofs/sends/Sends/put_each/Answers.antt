use Rattle.std.proofs.Common.{[], ◌∷◌, sym, subst, arith}
use Rattle.std.proofs.lemmas.Grind.{common_steps}
use Rattle.cs_base.proofs.Elements.{All-append}
use Rattle.cs_packet.specs.PacketField.{AreSends, IsSend}
use Rattle.cs_packet.proofs.sends.Sends.put_each.Goals as goal

-- one more packet
pub loop-target-preserved : goal.loop-target-preserved
loop-target-preserved c = record {
  value = grind (arith, common_steps);
  allowed = λ later below text before.
      subst AreSends (sym c.in_ok-push.ensures.ok)
      (All-append IsSend c.loop-target.self (c.in_ok-send.send ∷ []) (c.loop-target.invariant.allowed later below text before)
      (c.in_ok-send.ensures.allowed later below text, tt));
}
