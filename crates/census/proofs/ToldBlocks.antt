-- The blocks of what is told are those that nodes print.
use Rattle.std.proofs.Common.{◌≡◌, ◌⊎◌, ℕ, ◌≤◌, false, List, [], ◌∷◌, ◌++◌, length, Option, Some, None, Ok}
use Rattle.std.proofs.Common.{codes, refl, ap, sym, subst, ◌∙◌, inl, inr, append_assoc, arith}
use Rattle.std.specs.List.{AllByRecursion, last_or}
use Rattle.std.specs.Str.{bytes_eq}
use Rattle.std.proofs.lemmas.Grind.{flat_map-append}
use Rattle.cs_base.proofs.Elements.{All-append, All-weaker}
use Rattle.cs_group.specs.Rows.{regions}
use Rattle.cs_item.specs.declared.picture.Picture.{Picture}
use Rattle.cs_packet.specs.declared.own.Own.{Own}
use Rattle.cs_script.specs.declared.event.Event.{Event}
use Rattle.cs_script.specs.declared.event.Event.TheVariants as events
use Rattle.cs_script.specs.Grammar.{event_of}
use Rattle.cs_script.proofs.Events.{IsEvent-said}
use Rattle.cs_show.specs.Agreement.{Block, blocks_in}
use Rattle.cs_show.specs.Block.{block_lines}
use Rattle.cs_show.specs.Text.{Line, all_but_last, ended, text_of}
use Rattle.cs_show.proofs.BlockOfText.{IsLine}
use Rattle.cs_show.proofs.BlocksInLines.{IsQuiet, block-among}
use Rattle.cs_machine.specs.Contents.{contents_of, group_of, items, view_at}
use Rattle.cs_machine.specs.Happens.{happens, print_as, print_at, print_lines}
use Rattle.cs_machine.specs.Outcome.{After, answer, unless_down}
use Rattle.cs_machine.specs.Names.{Node, State, Joining, Following, Leading, Left, World, node_of}
use Rattle.cs_machine.specs.Reached.{StateFits, IsReached}
use Rattle.cs_machine.proofs.ReachedGroups.{group_of-there}
use Rattle.cs_machine.proofs.Follows.{is-up}
use Rattle.cs_machine.proofs.ReachedHeld.{happens-keeps, happens-later}
use Rattle.cs_machine.proofs.Rises.{IsLater}
use Rattle.census.specs.Systems.{Many}
use Rattle.census.specs.Transcript.{Said, told}
use Rattle.census.proofs.PrintedBlocks.{AllFit, AllFit-later, AllFit-more, AllFit-none, IsAt, IsPrinted}
use Rattle.census.proofs.QuietLines.{IsQuietLine, is_print, quiet-departed, quiet-down, quiet-echo, quiet-happens, quiet-joining, quiet-no_node}
use Rattle.census.proofs.TextFronts.{blocks_in-none}

-- the lines that are told in a world
abbrev pub told_lines : World → List Said → List Line
told_lines world [] = []
told_lines world (line ∷ lines) =
    let after = happens world line.1 in
    ((codes "> " ++ line.0) ∷ after.lines) ++ told_lines after.world lines

-- they are the text that is told
pub told-text : (world : World) (lines : List Said) → told (Many world) lines ≡ text_of (told_lines world lines)
told-text world [] = refl
told-text world (line ∷ lines) =
    let after = happens world line.1 in
    ap (λ t. (ended (codes "> " ++ line.0) ++ text_of after.lines) ++ t) (told-text after.world lines)
    ∙ sym (flat_map-append ended ((codes "> " ++ line.0) ∷ after.lines) (told_lines after.world lines))

-- a line without LF, and its event
abbrev pub IsSaid : Said → Type 0
IsSaid line = (event_of line.0 ≡ Ok line.1) × IsLine line.0

-- what has to be shown of lines: the blocks behind those that wait fit
abbrev Tells : World → List Line → List Said → List Line → Type 0
Tells world waiting lines tail = AllFit world (blocks_in (waiting ++ (told_lines world lines ++ tail)))

-- an event without a block
tells-quiet : (world : World) (waiting : List Line) (line : Said) (lines : List Said) (tail : List Line) → IsLater world (happens world line.1).world
    → Tells (happens world line.1).world (waiting ++ (codes "> " ++ line.0) ∷ (happens world line.1).lines) lines tail
    → Tells world waiting (line ∷ lines) tail
tells-quiet world waiting line lines tail later behind =
    let after = happens world line.1 in
    let piece : List Line = (codes "> " ++ line.0) ∷ after.lines in
    let rest = told_lines after.world lines in
    let grouped : (waiting ++ piece) ++ (rest ++ tail) ≡ waiting ++ ((piece ++ rest) ++ tail) =
    append_assoc waiting piece (rest ++ tail) ∙ ap (λ l. waiting ++ l) (sym (append_assoc piece rest tail)) in
    subst (λ l. AllFit world (blocks_in l)) grouped
    (AllFit-later world after.world (blocks_in ((waiting ++ piece) ++ (rest ++ tail))) later behind)

-- the last line of some and one more
last-push : (lines : List Line) (first : Option Line) (line : Line) → last_or first (lines ++ line ∷ []) ≡ Some line
last-push [] first line = refl
last-push (x ∷ lines) first line = last-push lines (Some x) line

-- how lines are grouped around a block
around_block : (waiting block rest tail : List Line) (call : Line)
    → (waiting ++ call ∷ []) ++ block ++ (rest ++ tail) ≡ waiting ++ (((call ∷ block) ++ rest) ++ tail)
around_block waiting block rest tail call = simp append_assoc

-- a printed block, with the lines before it
tells-block : (world : World) (waiting : List Line) (line : List ℕ) (id : ℕ) (lines : List Said) (tail : List Line) (p : Picture)
    → IsLine line → AllByRecursion IsQuietLine waiting → happens world (events.Print id) ≡ record { world = world; lines = block_lines p }
    → IsPrinted world (record { call = Some (codes "> " ++ line); lines = all_but_last (block_lines p) })
    → Tells world [] lines tail → Tells world waiting ((line, events.Print id) ∷ lines) tail
tells-block world waiting line id lines tail p is_line quiet prints printed behind =
    let echoed = codes "> " ++ line in
    let rest = told_lines world lines in
    let front : List Line = waiting ++ echoed ∷ [] in
    let block : Block = record { call = Some echoed; lines = all_but_last (block_lines p) } in
    let are = All-append IsQuietLine waiting (echoed ∷ []) quiet (quiet-echo line is_line, tt) in
    let found : blocks_in (front ++ block_lines p ++ (rest ++ tail)) ≡ block ∷ blocks_in (rest ++ tail) =
    block-among front p (rest ++ tail) (All-weaker IsQuietLine IsQuiet (λ l q. q.quiet) front are)
    ∙ ap (λ (c : Option Line). record { call = c; lines = all_but_last (block_lines p) } ∷ blocks_in (rest ++ tail))
    (last-push waiting None echoed) in
    let told_is : told_lines world ((line, events.Print id) ∷ lines) ≡ (echoed ∷ block_lines p) ++ rest =
    ap (λ (after : After). (echoed ∷ after.lines) ++ told_lines after.world lines) prints in
    let grouped : front ++ block_lines p ++ (rest ++ tail) ≡ waiting ++ (told_lines world ((line, events.Print id) ∷ lines) ++ tail) =
    around_block waiting (block_lines p) rest tail echoed ∙ ap (λ l. waiting ++ (l ++ tail)) (sym told_is) in
    subst (λ l. AllFit world (blocks_in l)) grouped
    (subst (AllFit world) (sym found) (AllFit-more world block (blocks_in (rest ++ tail)) printed behind))

-- what is printed in a state: one quiet line, or the block of the node's epoch, which is one so far
abbrev PrintFits : World → State → Type 0
PrintFits world state =
    ((line : Line) × IsQuietLine line × (print_lines (contents_of world) state ≡ line ∷ []))
    ⊎ ((epoch : ℕ) × (known : List ℕ) × IsAt epoch state × (epoch ≤ length (items world))
    × (print_lines (contents_of world) state ≡ block_lines (view_at (contents_of world) epoch known)))

-- a fitting state prints one of these
print-fits : (world : World) (own : Own) (state : State) → StateFits world own state → PrintFits world state
print-fits world own Joining fits = inl (codes "joining", quiet-joining, refl)
print-fits world own (Following m) fits = inr (m.epoch, m.known, refl, fits.epoch, refl)
print-fits world own (Leading epoch pending) fits =
    inr (epoch, regions (group_of world epoch).rows, refl, (let is = fits.last in omega (arith, is)), refl)
print-fits world own Left fits = inl (codes "departed", quiet-departed, refl)

-- a node that is up prints what its state says
printed_at : (world : World) (id : ℕ) (node : Node) (state : State) → node_of world id ≡ Some node → node.state ≡ Some state
    → happens world (events.Print id) ≡ print_as world state
printed_at world id node state found up = ap (print_at world) found ∙ ap (unless_down world (print_as world)) up

module _ (world : World) (waiting : List Line) (line : List ℕ) (id : ℕ) (lines : List Said) (tail : List Line) (reached : IsReached world)
    (says : event_of line ≡ Ok (events.Print id)) (is_line : IsLine line) (quiet : AllByRecursion IsQuietLine waiting)
    (behind : (more : List Line) → AllByRecursion IsQuietLine more → Tells world more lines tail) where
  -- a print of one quiet line
  tells-one : (one : Line) → IsQuietLine one → happens world (events.Print id) ≡ answer world one
      → Tells world waiting ((line, events.Print id) ∷ lines) tail
  tells-one one calm only =
      let all = All-append IsQuietLine waiting ((codes "> " ++ line) ∷ one ∷ []) quiet (quiet-echo line is_line, (calm, tt)) in
      tells-quiet world waiting (line, events.Print id) lines tail
      (happens-later world (events.Print id) (IsEvent-said line (events.Print id) says) reached)
      (subst (λ (after : After). Tells after.world (waiting ++ (codes "> " ++ line) ∷ after.lines) lines tail) (sym only) (behind _ all))

  -- a print of a node that is up
  tells-up : (node : Node) (state : State) → node_of world id ≡ Some node → node.state ≡ Some state
      → Tells world waiting ((line, events.Print id) ∷ lines) tail
  tells-up node state found up =
      let is = reached.nodes id node found in
      let shown = printed_at world id node state found up in
      elim (print-fits world node.own state (is-up world node state is up).fits) [
        | inl (one, calm, prints) ↦ tells-one one calm (shown ∙ ap (λ l. record { world = world; lines = l }) prints)
        | inr (epoch, known, is_at, within, prints) ↦
            tells-block world waiting line id lines tail (view_at (contents_of world) epoch known) is_line quiet
            (shown ∙ ap (λ l. record { world = world; lines = l }) prints)
            (record {
              line = line;
              id = id;
              said = says;
              call = refl;
              node = node;
              found = found;
              started = is;
              state = state;
              up = up;
              leader = is.leader;
              led = is.led;
              epoch = epoch;
              is_at = is_at;
              within = within;
              small = omega (arith, within, reached.epochs);
              group = (group_of-there world reached is.leader epoch is.led within).1.group;
              known = known;
              lines = refl;
            })
            (behind [] tt)
      ]

  -- a print of a node that is there
  tells-there : (node : Node) → node_of world id ≡ Some node → (state : Option State) → node.state ≡ state
      → Tells world waiting ((line, events.Print id) ∷ lines) tail
  tells-there node found None down =
      tells-one (codes "down") quiet-down (ap (print_at world) found ∙ ap (unless_down world (print_as world)) down)
  tells-there node found (Some state) up = tells-up node state found up

  -- a print, whatever stands under the id
  tells-print : (there : Option Node) → node_of world id ≡ there → Tells world waiting ((line, events.Print id) ∷ lines) tail
  tells-print None found = tells-one (codes "no node") quiet-no_node (ap (print_at world) found)
  tells-print (Some node) found = tells-there node found node.state refl

-- a print of a node that is there leaves the world as it is
print_as-keeps : (world : World) (state : Option State) → (unless_down world (print_as world) state).world ≡ world
print_as-keeps world None = refl
print_as-keeps world (Some state) = refl

-- so does any print
print_keeps : (world : World) (there : Option Node) → (print_at world there).world ≡ world
print_keeps world None = refl
print_keeps world (Some node) = print_as-keeps world node.state

-- an event that prints no block
without_block : (event : Event) (lines : List Said) (world : World) (waiting tail : List Line) (line : List ℕ) → IsReached world
    → IsSaid (line, event) → AllByRecursion IsQuietLine waiting → is_print event ≡ false
    → ((more : List Line) → AllByRecursion IsQuietLine more → Tells (happens world event).world more lines tail)
    → Tells world waiting ((line, event) ∷ lines) tail
without_block event lines world waiting tail line reached is quiet other behind =
    let after = happens world event in
    tells-quiet world waiting (line, event) lines tail (happens-later world event (IsEvent-said line event is.0) reached)
    (behind (waiting ++ (codes "> " ++ line) ∷ after.lines)
    (All-append IsQuietLine waiting ((codes "> " ++ line) ∷ after.lines) quiet (quiet-echo line is.1, quiet-happens world event other)))

-- an event of any kind
by_event : (event : Event) (lines : List Said) (world : World) (waiting tail : List Line) (line : List ℕ) → IsReached world
    → IsSaid (line, event) → AllByRecursion IsQuietLine waiting
    → ((more : List Line) → AllByRecursion IsQuietLine more → Tells (happens world event).world more lines tail)
    → Tells world waiting ((line, event) ∷ lines) tail
by_event (events.Print id) lines world waiting tail line reached is quiet behind =
    let same = print_keeps world (node_of world id) in
    tells-print world waiting line id lines tail reached is.0 is.1 quiet
    (λ more calm. subst (λ w. Tells w more lines tail) same (behind more calm)) (node_of world id) refl
by_event event lines world waiting tail line reached is quiet behind =
    without_block event lines world waiting tail line reached is quiet refl behind

-- the blocks of what is told fit, whatever quiet lines stand before and behind
pub tells : (lines : List Said) (world : World) (waiting tail : List Line) → IsReached world → AllByRecursion IsSaid lines
    → AllByRecursion IsQuietLine waiting → AllByRecursion IsQuietLine tail → Tells world waiting lines tail
tells [] world waiting tail reached are quiet behind =
    let all = All-append IsQuietLine waiting tail quiet behind in
    let none = blocks_in-none (waiting ++ tail)
    (All-weaker IsQuietLine (λ (l : Line). bytes_eq l (codes "end") ≡ false) (λ l q. q.quiet.no_end) (waiting ++ tail) all) in
    subst (AllFit world) (sym none) (AllFit-none world)
tells ((line, event) ∷ lines) world waiting tail reached are quiet behind =
    let next = (happens-keeps world event (IsEvent-said line event are.0.0) reached).reached in
    let later : (more : List Line) → AllByRecursion IsQuietLine more → Tells (happens world event).world more lines tail =
    λ more calm. tells lines (happens world event).world more tail next are.1 calm behind in
    by_event event lines world waiting tail line reached are.0 quiet later
