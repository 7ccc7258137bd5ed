use Rattle.std.proofs.Common.{◌≡◌, ◌∙◌, ◌==◌, ℕ, Bool, true, sym, ap, subst}
use Rattle.cs_base.specs.Address.{Address}
use Rattle.cs_base.specs.declared.change.Mode.{Mode}
use Rattle.cs_node.specs.Appending.{Keeps, entry_frame}
use Rattle.cs_node.specs.Booting.{as_own}
use Rattle.cs_node.specs.Told.{log_told}
use Rattle.cs_packet.specs.BootField.{IsLedBy}
use Rattle.cs_packet.specs.Own.{member_of_own}
use Rattle.cs_packet.specs.declared.entry.Entry.TheVariants.{Boot}
use Rattle.cs_packet.specs.declared.own.Own.{Own}
use Rattle.cs_world.proofs.launch.booted.Goals as goal

-- a node that leads itself is the one that its member stands for
itself : (own : Own) → IsLedBy true own → as_own (member_of_own own) ≡ own
itself own led =
    ap (λ (mode : Mode). record {
      id = own.id;
      addr = own.addr;
      at = own.at;
      mode = mode;
      leader = own.id;
      leader_addr = own.addr;
    }) (sym led.0)
    ∙ ap (λ (leader : ℕ). record own { leader = leader; leader_addr = own.addr }) (sym led.1)
    ∙ ap (λ (addr : Address). record own { leader_addr = addr }) (sym led.2)

-- the leader's entry is that of this start
pub returns-in-Ok-clause-kept : goal.returns-in-Ok-clause-kept
returns-in-Ok-clause-kept g c = λ led.
    let own = c.args.own.now in
    let leads : (own.id == own.leader) ≡ true = sym c.eq.ensures ∙ c.if-eq.true in
    let before = log_told g.G.Log c.args.log in
    let now = log_told g.G.Log c.in-Ok.node.log in
    let same : as_own c.member.result ≡ own =
    ap as_own c.member.ensures.value ∙ itself own (subst (λ (b : Bool). IsLedBy b own) leads led) in
    subst (λ (b : Bool). Keeps (entry_frame (Boot b own)) before now) (sym leads)
    (subst (λ (o : Own). Keeps (entry_frame (Boot true o)) before now) same c.in-Ok.ensures.kept)
