-- Of the blocks that nodes print any two of one epoch agree, the epochs of one node's never fall, and the local trees of
-- each are good.
use Rattle.std.proofs.Common.{◌≡◌, ℕ, ◌≤◌, List, [], ◌∷◌, ◌++◌, length, Some, Ok, codes, refl, ap, sym, subst, ◌∙◌, arith}
use Rattle.std.specs.List.{AllByRecursion}
use Rattle.cs_base.specs.Limits.{last_number}
use Rattle.cs_base.proofs.Elements.{All-weaker, Pairwise}
use Rattle.cs_group.specs.Group.{GroupState, IsGroup}
use Rattle.cs_script.specs.declared.event.Event.TheVariants as events
use Rattle.cs_script.specs.Grammar.{event_of}
use Rattle.cs_show.specs.Agreement.{Agree, Block, epoch_of}
use Rattle.cs_show.specs.Block.{block_lines}
use Rattle.cs_show.specs.PrintedTrees.{TreesAreGood}
use Rattle.cs_show.specs.Text.{Line, all_but_last}
use Rattle.cs_show.proofs.AgreeingBlocks.{agree-printed, epoch-printed}
use Rattle.cs_show.proofs.PrintedTrees.{good-printed}
use Rattle.cs_slicer.specs.Projection.{projection}
use Rattle.cs_machine.specs.Contents.{group_of, items}
use Rattle.cs_machine.specs.Names.{Node, State, Joining, Following, Leading, Left, World, node_of, leader_of}
use Rattle.cs_machine.specs.Reached.{IsStarted}
use Rattle.cs_machine.proofs.Rises.{IsAtLeast, IsAtLeast-restored, IsLater, IsLater-same, IsLater-further}
use Rattle.census.proofs.Projections.{AreRegions-rolls_of, IsByRegion-rolls_of, IsSight-projection, same-rolls}

-- the lines of a node's block up to `end`: it is at this epoch, with this group, and knows these regions
abbrev lines_at : ℕ → List ℕ → GroupState → List Line
lines_at epoch known group = all_but_last (block_lines (projection epoch known group))

-- a node in this state prints the block of this epoch
abbrev pub IsAt : ℕ → State → Type 0
IsAt epoch Joining = ⊥
IsAt epoch (Following m) = epoch ≡ m.epoch
IsAt epoch (Leading last pending) = epoch ≡ last
IsAt epoch Left = ⊥

-- so it is at least at this epoch
IsAtLeast-is : (epoch : ℕ) (state : State) → IsAt epoch state → IsAtLeast epoch state
IsAtLeast-is epoch Joining at = absurd at
IsAtLeast-is epoch (Following m) at = omega (arith, at)
IsAtLeast-is epoch (Leading last pending) at = omega (arith, at)
IsAtLeast-is epoch Left at = absurd at

-- and at no later one
IsAtLeast-most : (n epoch : ℕ) (state : State) → IsAtLeast n state → IsAt epoch state → n ≤ epoch
IsAtLeast-most n epoch Joining least at = absurd at
IsAtLeast-most n epoch (Following m) least at = omega (arith, least, at)
IsAtLeast-most n epoch (Leading last pending) least at = omega (arith, least, at)
IsAtLeast-most n epoch Left least at = absurd at

-- a node prints the block in this world, at this line
pub record IsPrinted (world : World) (block : Block) : Type 0 where
  pub line : List ℕ
  pub id : ℕ
  pub said : event_of line ≡ Ok (events.Print id)
  pub call : block.call ≡ Some (codes "> " ++ line)
  pub node : Node
  pub found : node_of world id ≡ Some node
  pub started : IsStarted world node
  pub state : State
  pub up : node.state ≡ Some state
  pub leader : Node
  pub led : leader_of world ≡ Some leader
  pub epoch : ℕ
  pub is_at : IsAt epoch state
  pub within : epoch ≤ length (items world)
  pub small : epoch ≤ last_number
  pub group : IsGroup (group_of world epoch)
  pub known : List ℕ
  pub lines : block.lines ≡ lines_at epoch known (group_of world epoch)

-- the epoch in the block is the node's
printed_epoch : (world : World) (block : Block) (printed : IsPrinted world block) → epoch_of block ≡ printed.epoch
printed_epoch world block printed =
    let epoch = printed.epoch in
    ap (λ (lines : List Line). epoch_of (record { call = block.call; lines = lines })) printed.lines
    ∙ epoch-printed (projection epoch printed.known (group_of world epoch)) block.call (let small = printed.small in omega arith)

-- its local trees are good
pub printed_trees : (world : World) (block : Block) → IsPrinted world block → TreesAreGood block
printed_trees world block printed =
    let epoch = printed.epoch in
    let group = group_of world epoch in
    subst (λ (lines : List Line). TreesAreGood (record { call = block.call; lines = lines })) (sym printed.lines)
    (good-printed (projection epoch printed.known group) block.call (IsSight-projection group epoch printed.known printed.group printed.small)
    (AreRegions-rolls_of group epoch printed.known printed.group printed.small))

-- of two blocks, the earlier first
pub record Fit (earlier later : Block) : Type 0 where
  pub agree : epoch_of earlier ≡ epoch_of later → Agree earlier later
  pub epochs : earlier.call ≡ later.call → epoch_of earlier ≤ epoch_of later

-- two projections of one group agree
agree-lines : (a b : Block) (epoch : ℕ) (group : GroupState) (known also : List ℕ) → IsGroup group → epoch ≤ last_number
    → a.lines ≡ lines_at epoch known group → b.lines ≡ lines_at epoch also group → Agree a b
agree-lines a b epoch group known also is small one other =
    subst (λ (lines : List Line). Agree (record { call = a.call; lines = lines }) b) (sym one)
    (subst (λ (lines : List Line). Agree (record { call = a.call; lines = lines_at epoch known group }) (record { call = b.call; lines = lines }))
    (sym other)
    (agree-printed (projection epoch known group) (projection epoch also group) a.call b.call refl refl
    (same-rolls known also group.rows) (IsByRegion-rolls_of group epoch known is small) (IsByRegion-rolls_of group epoch also is small)
    (AreRegions-rolls_of group epoch known is small) (AreRegions-rolls_of group epoch also is small)))

-- equal calls are of one node
same_id : (one other : List ℕ) (id also : ℕ) → event_of one ≡ Ok (events.Print id) → event_of other ≡ Ok (events.Print also)
    → Some (codes "> " ++ one) ≡ Some (codes "> " ++ other) → id ≡ also
same_id one other id also said too same =
    let lines : one ≡ other = (let e = same in cc) in
    let both : Ok (events.Print id) ≡ Ok (events.Print also) = sym said ∙ ap event_of lines ∙ too in
    (let e = both in cc)

-- what is printed now fits what is printed later
Fit-printed : (world later : World) (a b : Block) → IsLater world later → IsPrinted world a → IsPrinted later b → Fit a b
Fit-printed world later a b follows now then =
    let epoch = now.epoch in
    let next = then.epoch in
    let first = printed_epoch world a now in
    let second = printed_epoch later b then in
    record {
      agree = λ same.
          let equal : next ≡ epoch = sym second ∙ sym same ∙ first in
          let lines : b.lines ≡ lines_at epoch then.known (group_of world epoch) =
          then.lines ∙ ap (λ n. lines_at n then.known (group_of later n)) equal
          ∙ ap (lines_at epoch then.known) ((follows.0.contents now.leader now.led).group epoch now.within) in
          agree-lines a b epoch (group_of world epoch) now.known then.known now.group now.small now.lines lines;
      epochs = λ same.
          let id = same_id now.line then.line now.id then.id now.said then.said (sym now.call ∙ same ∙ then.call) in
          let came = (IsAtLeast-restored world now.node now.state now.started now.up).0 epoch (IsAtLeast-is epoch now.state now.is_at) in
          let goes = follows.1 now.id now.node then.node now.found (ap (node_of later) id ∙ then.found) epoch came in
          let comes = (IsAtLeast-restored later then.node then.state then.started then.up).1 epoch goes in
          let le = IsAtLeast-most epoch next then.state comes then.is_at in
          omega (arith, first, second, le);
    }

-- a node prints the block in a world that comes from this one
abbrev pub IsPrintedAfter : World → Block → Type 0
IsPrintedAfter world block = (later : World) × IsLater world later × IsPrinted later block

-- the blocks are printed from this world on, and fit
pub record AllFit (world : World) (blocks : List Block) : Type 0 where
  pub pairs : Pairwise Fit blocks
  pub printed : AllByRecursion (IsPrintedAfter world) blocks

-- no blocks fit
pub AllFit-none : (world : World) → AllFit world []
AllFit-none world = record { pairs = tt; printed = tt }

-- blocks that are printed from a later world on are printed from the earlier one on
pub AllFit-later : (world later : World) (blocks : List Block) → IsLater world later → AllFit later blocks → AllFit world blocks
AllFit-later world later blocks follows fit = record {
  pairs = fit.pairs;
  printed = All-weaker (IsPrintedAfter later) (IsPrintedAfter world)
      (λ block (last, behind, printed). (last, IsLater-further world later last follows behind, printed)) blocks fit.printed;
}

-- a block that is printed now fits those that are printed from now on
pub AllFit-more : (world : World) (block : Block) (blocks : List Block) → IsPrinted world block → AllFit world blocks
    → AllFit world (block ∷ blocks)
AllFit-more world block blocks now fit = record {
  pairs = (
    All-weaker (IsPrintedAfter world) (Fit block)
        (λ next (later, follows, printed). Fit-printed world later block next follows now printed) blocks fit.printed,
    fit.pairs,
  );
  printed = ((world, IsLater-same world, now), fit.printed);
}
