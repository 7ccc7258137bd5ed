use Rattle.std.proofs.Common.{◌≡◌, ◌≢◌, ◌<◌, ◌≤◌, ℕ, List, length, get_or, None, arith, subst, sym, ap, ◌∙◌}
use Rattle.cs_base.specs.Ascending.{at_key, placed_by}
use Rattle.cs_hold.specs.Kept.{HasAll}
use Rattle.cs_hold.specs.Pieces.{ArePieces, colour_of}
use Rattle.cs_hold.proofs.Gained.{ArePieces-placed, HasAll-placed, misfit}
use Rattle.cs_piece.specs.Joining.{joined}
use Rattle.cs_piece.specs.declared.fault.PieceFault.TheVariants.{Memory}
use Rattle.cs_hold.proofs.shelf.Shelf.gained.Goals as goal

-- the piece is put in its place among those before
placed : (c : goal.After-result-1) → c.put.new.self ≡ placed_by colour_of (c.args.colour, c.args.bytes.now) c.self.inside.pieces
placed c =
    let bytes : c.in_ok-from_slice.field-0 ≡ c.args.bytes.now = c.in_ok-from_slice.ensures in
    let piece : c.in_ok-piece.piece ≡ (c.args.colour, c.args.bytes.now) = c.in_ok-piece.ensures ∙ ap (λ b. (c.args.colour, b)) bytes in
    c.in_ok-put.ensures.placed ∙ ap (λ p. placed_by colour_of p c.in_ok-pieces.pieces) piece
    ∙ ap (placed_by colour_of (c.args.colour, c.args.bytes.now)) c.in_ok-pieces.ensures

-- no piece before has the colour
absent : (c : goal.After-result-1) → at_key colour_of c.args.colour c.self.inside.pieces ≡ None
absent c = ap (λ s. at_key colour_of c.args.colour s.1) c.self.view_is ∙ c.requires.absent

pub invariant_of-result : goal.invariant_of-result
invariant_of-result c =
    let few : length c.self.inside.pieces < 2 = omega arith in
    subst ArePieces (sym (placed c)) (ArePieces-placed c.args.colour c.args.bytes.now c.self.inside.pieces c.self.invariant c.requires.allowed few)

pub returns-then-len-lt2-clause-kept : goal.returns-then-len-lt2-clause-kept
returns-then-len-lt2-clause-kept c =
    let has = HasAll-placed c.args.colour c.args.bytes.now c.self.inside.pieces (absent c) in
    let after = subst (HasAll c.args.colour c.args.bytes.now c.self.inside.pieces) (sym (placed c)) has in
    subst (λ (before : List (ℕ × List ℕ)). HasAll c.args.colour c.args.bytes.now before c.put.new.self) (ap (λ s. s.1) c.self.view_is) after

-- memory didn't run out
not_memory : (c : goal.In-Err) → c.in-Err.fault ≢ Memory
not_memory c is = grind arith

pub returns-in-Err-clause-misfit : goal.returns-in-Err-clause-misfit
returns-in-Err-clause-misfit c =
    let pieces = c.as_slice-pieces.ensures.value in
    let x_is : c.index-pieces-0.result ≡ get_or c.self.inside.pieces 0 c.index-pieces-0.result =
    c.index-pieces-0.is ∙ ap (λ ps. get_or ps 0 c.index-pieces-0.result) pieces in
    let y_is : c.index-pieces-1.result ≡ get_or c.self.inside.pieces 1 c.index-pieces-1.result =
    c.index-pieces-1.is ∙ ap (λ ps. get_or ps 1 c.index-pieces-1.result) pieces in
    let none : at_key colour_of c.args.colour c.self.inside.pieces ≡ None =
    ap (λ s. at_key colour_of c.args.colour s.1) c.self.view_is ∙ c.requires.absent in
    let many : 2 ≤ length c.self.inside.pieces = omega arith in
    let joins =
    sym (λ j. joined c.args.colour c.args.bytes.now (c.colour.ensures.value j) (c.bytes.ensures j) (c.colour-2.ensures.value j) (c.bytes-2.ensures j))
    ∙ c.in-Err.ensures.exact (not_memory c) in
    misfit c.args.colour c.args.bytes.now c.self.inside.pieces c.index-pieces-0.result c.index-pieces-1.result c.in-Err.fault c.self.invariant
    c.requires.allowed none many x_is y_is joins
