use Rattle.std.proofs.Common.{◌≡◌, ◌++◌, take}
use Rattle.std.specs.List.{flat_map}
use Rattle.std.specs.String.{string_bytes}
use Rattle.cs_base.specs.declared.member.Member.{Member}
use Rattle.cs_show.specs.Block.{edges_text}
use Rattle.cs_show.proofs.trees.put_member_edges.Given as goal

abbrev pub invariant-loop-member : goal.invariant-loop-member
invariant-loop-member l =
    string_bytes l.out
    ≡ string_bytes l.initial.out ++ flat_map (λ (m : Member). edges_text l.tree.edges m.id) (take l.member-index l.members)
