use Rattle.std.proofs.Common.{◌≡◌, ◌∙◌, ◌++◌, ℕ, List, [], ◌∷◌, Some, None, ap}
use Rattle.cs_base.specs.Address.{Address}
use Rattle.cs_item.specs.declared.picture.Picture.{Picture}
use Rattle.cs_packet.specs.declared.packet.Packet.{Packet}
use Rattle.cs_core.specs.Node.{Past}
use Rattle.cs_core.specs.Pieces.{had_too}
use Rattle.cs_core.specs.Plans.{goes_on}
use Rattle.cs_core.specs.Routing.{routed}
use Rattle.cs_core.specs.declared.plan.FollowNote.TheVariants as notes
use Rattle.cs_core.specs.declared.plan.Outcome.{Outcome}
use Rattle.cs_core.specs.declared.plan.Plan.{Plan}
use Rattle.cs_core.proofs.following.Following.pass.Goals as goal

-- a plan that passes something on
abbrev passes : List (Address × Packet) → Outcome → Plan
passes sends after = record { entry = None; sends = sends; note = notes.Passed; after = after }

-- the past with one more pair
abbrev with_pair : Past → ℕ → ℕ → Past
with_pair past region colour = record { view = past.view; had = past.had ++ (region, colour) ∷ [] }

pub returns-clause-plan : goal.returns-clause-plan
returns-clause-plan c =
    let own = c.args.own.now in
    let m = c.args.self.now in
    let past = c.args.past.now in
    let piece = c.args.piece.now in
    let sends : c.sends.inside.items.items ≡ routed own.id past.view piece =
    c.sends.view_is
    ∙ (c.in_ok-put_routed.ensures.value
    ∙ (ap (λ (sends : List (Address × Packet)). sends ++ routed own.id c.with_trees.result.now piece) c.new-sends.ensures
    ∙ ap (λ (view : Picture). routed own.id view piece) c.with_trees.ensures)) in
    let had : c.in_ok-past.past ≡ had_too past piece =
    c.in_ok-past.ensures
    ∙ (ap (λ (region : ℕ). with_pair past region c.colour.result) c.region.ensures
    ∙ ap (with_pair past piece.region) c.colour.ensures) in
    let next : c.in_ok-with_past.field-0 ≡ record m { past = Some (had_too past piece) } =
    c.in_ok-with_past.ensures ∙ ap (λ (p : Past). record m { past = Some p }) had in
    ap (λ (sends : List (Address × Packet)). passes sends c.in_ok-goes_on.field-0) sends
    ∙ ap (passes (routed own.id past.view piece)) (c.in_ok-goes_on.ensures ∙ ap (goes_on own) next)
