use Rattle.std.proofs.Common.{length, sym, ap, ◌∙◌, refl}
use Rattle.cs_hold.proofs.Taken.{sliced-four, sliced-put}
use Rattle.cs_hold.proofs.Whole.{of_region-view}
use Rattle.cs_hold.proofs.hold.Hold.take_slice.Goals as goal

pub returns-then-pieces-eq4-clause-took : goal.returns-then-pieces-eq4-clause-took
returns-then-pieces-eq4-clause-took c =
    let same = of_region-view c.self.inside.shelves c.args.self.now c.self.view_is c.pieces.ensures.ascending c.args.region in
    (λ e. ap length (same ∙ sym c.pieces.ensures.value) ∙ c.if-pieces-eq4.true, λ four. refl)

pub returns-then-pieces-eq4-clause-ok : goal.returns-then-pieces-eq4-clause-ok
returns-then-pieces-eq4-clause-ok c =
    sliced-four c.self.inside.shelves c.args.self.now c.self.view_is c.pieces.ensures.ascending c.args.region c.args.bytes.now
    (ap length (sym c.pieces.ensures.value) ∙ c.if-pieces-eq4.true)

pub returns-clause-took : goal.returns-clause-took
returns-clause-took c =
    let same = of_region-view c.self.inside.shelves c.args.self.now c.self.view_is c.pieces.ensures.ascending c.args.region in
    (λ e. absurd (cc), λ four. absurd (c.if-pieces-eq4.false (ap length (c.pieces.ensures.value ∙ sym same) ∙ four)))

pub returns-clause-ok : goal.returns-clause-ok
returns-clause-ok c =
    sliced-put c.self.inside.shelves c.args.self.now c.self.view_is c.pieces.ensures.ascending c.args.region c.args.bytes.now
    (λ four. c.if-pieces-eq4.false (ap length c.pieces.ensures.value ∙ four))
    c.in_ok-shelf.shelf c.in_ok-shelf.ensures.0 c.in_ok-shelf.ensures.1 c.put.new.self c.in_ok-put.ensures.placed
