-- History: the group at each epoch of a list of items, from the leader alone on.
use Rattle.std.specs.Prelude.{ℕ, List, Option, Some, None, take}
use Rattle.std.specs.List.{fold}
use Rattle.std.specs.Option.{option_map}
use Rattle.cs_base.specs.declared.change.Change.{Change}
use Rattle.cs_base.specs.declared.member.Member.{Member}
use Rattle.cs_group.specs.declared.next.Turn.{Turn}
use Rattle.cs_group.specs.Group.{GroupState, first_group}
use Rattle.cs_group.specs.Next.{next_turn}

-- the group after one more item: none where the item has no turn
abbrev pub next_group : Option GroupState → List Change → Option GroupState
next_group None item = None
next_group (Some g) item = option_map (λ (turn : Turn). turn.group) (next_turn g item)

-- the group at an epoch: only so many items count
abbrev pub group_at : Member → List (List Change) → ℕ → Option GroupState
group_at leader items epoch = fold next_group (Some (first_group leader)) (take epoch items)
