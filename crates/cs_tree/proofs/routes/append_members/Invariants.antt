use Rattle.std.proofs.Common.{◌≡◌, ◌++◌, take}
use Rattle.cs_tree.specs.Route.{members_with}
use Rattle.cs_tree.proofs.routes.append_members.Given as goal

abbrev pub invariant-loop-id : goal.invariant-loop-id
invariant-loop-id l = l.offered.items ≡ l.initial.offered.items ++ members_with l.roll (take l.id-index l.ids)
