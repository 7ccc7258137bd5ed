-- One step of one node, in names: what it becomes, what it logs, what it answers, and what it sends to whom.
use Rattle.std.specs.Prelude.{ℕ, List, [], map, Option, None}
use Rattle.cs_item.specs.declared.picture.Picture.{Picture}
use Rattle.cs_node.specs.declared.note.Note.{Note}
use Rattle.cs_tree.specs.Route.{Target, route}
use Rattle.cs_machine.specs.Contents.{Contents, view_at}
use Rattle.cs_machine.specs.Entries.{Entry}
use Rattle.cs_machine.specs.Names.{Name, Piece, State}

-- what a call makes of a node: its state, the entry of its log if there is one, its answer, and what it sends to whom,
-- in order
pub record Step : Type 0 where
  pub state : State
  pub entry : Option Entry
  pub note : Note
  pub sends : List (ℕ × Name)

-- the node logs nothing and sends nothing
abbrev pub quiet : State → Note → Step
quiet state note = record { state = state; entry = None; note = note; sends = [] }

-- a piece of an epoch goes to each of these nodes
abbrev pub piece_sends : ℕ → ℕ → ℕ → List Target → List (ℕ × Name)
piece_sends epoch region colour targets = map (λ (target : Target). (target.0, Piece epoch region colour)) targets

-- it is passed on by what a node knows, or knew, of the epoch before
abbrev pub passed_on : Contents → ℕ → ℕ → List ℕ → ℕ → ℕ → ℕ → List (ℕ × Name)
passed_on c me epoch known given region colour =
    let view : Picture = view_at c epoch known in
    piece_sends given region colour (route me view.summaries view.rolls region colour)
