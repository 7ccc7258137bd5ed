-- What stands under an id: the code has something for each node, and nothing where there is none.
use Rattle.std.proofs.Common.{◌≡◌, Option, None, Some, refl, subst}
use Rattle.cs_machine.specs.Names.{Node, World}
use Rattle.cs_world.specs.Processes.{Parts}
use Rattle.cs_world.specs.Stands.{NodeStands, StandsIf}

-- under whose id the code has nothing is no node
pub none-under : (world : World) (o : Option Node) (parts : Option Parts) → parts ≡ None → StandsIf world o parts → o ≡ None
none-under world None parts is stands = refl
none-under world (Some node) parts is stands = absurd (subst (StandsIf world (Some node)) is stands)

-- under whose id it has something is a node, for which that stands
pub node-under : (world : World) (o : Option Node) (parts : Option Parts) (p : Parts) → parts ≡ Some p → StandsIf world o parts
    → (node : Node) × (o ≡ Some node) × NodeStands world node p
node-under world None parts p is stands = absurd (subst (StandsIf world None) is stands)
node-under world (Some node) parts p is stands = (node, refl, subst (StandsIf world (Some node)) is stands)

-- and it has something for each node
pub parts-under : (world : World) (o : Option Node) (parts : Option Parts) (node : Node) → o ≡ Some node → StandsIf world o parts
    → (p : Parts) × (parts ≡ Some p) × NodeStands world node p
parts-under world o None node is stands = absurd (subst (λ o. StandsIf world o None) is stands)
parts-under world o (Some p) node is stands = (p, refl, subst (λ o. StandsIf world o (Some p)) is stands)
