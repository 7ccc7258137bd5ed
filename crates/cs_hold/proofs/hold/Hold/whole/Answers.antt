use Rattle.std.proofs.Common.{◌≡◌, ◌<◌, length, get_or, sym, ap, ◌∙◌, arith}
use Rattle.cs_hold.specs.Pieces.{four_of}
use Rattle.cs_hold.specs.Held.{pieces_at}
use Rattle.cs_piece.specs.Joining.{AreThree}
use Rattle.cs_hold.specs.Whole.{given_by}
use Rattle.cs_hold.proofs.Takes.{given_by-few, given_by-four}
use Rattle.cs_hold.proofs.Whole.{of_region-view}
use Rattle.cs_hold.proofs.hold.Hold.whole.Goals as goal

pub returns-then-pieces-lt3-clause-some : goal.returns-then-pieces-lt3-clause-some
returns-then-pieces-lt3-clause-some c =
    let same = of_region-view c.self.inside.shelves c.args.self.now c.self.view_is c.pieces-pieces.ensures.ascending c.args.region in
    omega (arith, ap length (same ∙ sym c.pieces-pieces.ensures.value))

pub returns-in-Ok-clause-none : goal.returns-in-Ok-clause-none
returns-in-Ok-clause-none c few =
    let same = of_region-view c.self.inside.shelves c.args.self.now c.self.view_is c.pieces-pieces.ensures.ascending c.args.region in
    absurd (omega (arith, ap length (same ∙ sym c.pieces-pieces.ensures.value)))

pub returns-in-Err-clause-none : goal.returns-in-Err-clause-none
returns-in-Err-clause-none c few =
    let same = of_region-view c.self.inside.shelves c.args.self.now c.self.view_is c.pieces-pieces.ensures.ascending c.args.region in
    absurd (omega (arith, ap length (same ∙ sym c.pieces-pieces.ensures.value)))

pub returns-in-Ok-clause-whole : goal.returns-in-Ok-clause-whole
returns-in-Ok-clause-whole c =
    let same = of_region-view c.self.inside.shelves c.args.self.now c.self.view_is c.pieces-pieces.ensures.ascending c.args.region in
    let many : 2 < length (pieces_at c.args.region c.self.inside.shelves) = omega (arith, ap length c.pieces-pieces.ensures.value) in
    let w = c.pieces-pieces.ensures.keeps.whole many in
    let list : c.pieces-pieces.result.now ≡ four_of w.bytes = c.pieces-pieces.ensures.value ∙ w.all in
    let three : AreThree 0 1 2 = (record {
      first = omega arith;
      second = omega arith;
      third = omega arith;
      ab = omega arith;
      ac = omega arith;
      bc = omega arith;
    }) in
    let bytes_0 = c.bytes.ensures ∙ ap (λ p. p.1) (c.index-pieces-0.is ∙ ap (λ ps. get_or ps 0 c.index-pieces-0.result) list) in
    let bytes_1 = c.bytes-2.ensures ∙ ap (λ p. p.1) (c.index-pieces-1.is ∙ ap (λ ps. get_or ps 1 c.index-pieces-1.result) list) in
    let bytes_2 = c.bytes-3.ensures ∙ ap (λ p. p.1) (c.index-pieces-2.is ∙ ap (λ ps. get_or ps 2 c.index-pieces-2.result) list) in
    let given = c.in-Ok.ensures.whole w.bytes w.few three bytes_0 bytes_1 bytes_2 in
    let out : w.bytes ≡ c.in-Ok.bytes = cc in
    same ∙ w.all ∙ ap four_of out

pub returns-in-Ok-clause-value : goal.returns-in-Ok-clause-value
returns-in-Ok-clause-value c = sym (ap given_by (returns-in-Ok-clause-whole c) ∙ given_by-four c.in-Ok.bytes c.in-Ok.ensures.few)

pub returns-then-pieces-lt3-clause-value : goal.returns-then-pieces-lt3-clause-value
returns-then-pieces-lt3-clause-value c =
    let same = of_region-view c.self.inside.shelves c.args.self.now c.self.view_is c.pieces-pieces.ensures.ascending c.args.region in
    sym (ap given_by same ∙ given_by-few (pieces_at c.args.region c.self.inside.shelves) (omega (arith, ap length c.pieces-pieces.ensures.value)))
