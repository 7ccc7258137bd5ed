use Rattle.std.proofs.Common.{◌≡◌, ℕ, Vec, Global, Option, Some, get_or, ap, sym, ◌∙◌}
use Rattle.std.specs.Option.{option_map}
use Rattle.cs_roll.specs.Roll.{member_of}
use Rattle.cs_tree.specs.Route.{Target, target_of}
use Rattle.cs_tree.proofs.Offers.{filter_map-none, filter_map-some}
use Rattle.cs_tree.proofs.routes.append_members.Goals as goal
use Rattle.cs_tree.proofs.routes.append_members.Goals.{in-Some+in_ok-push, in_default}

-- one more member is found, or none
pub loop-id-preserved : goal.loop-id-preserved
loop-id-preserved c =
    let ids = c.args.ids.now in
    let i = c.loop-id.id-index in
    let find : ℕ → Option Target = λ id. option_map target_of (member_of id c.args.roll.now) in
    elim c.match-member_with.branch [
      | in-Some+in_ok-push w ↦
          let found : member_of (get_or ids i 0) c.args.roll.now ≡ Some w.in-Some.member = sym c.member_with.ensures ∙ w.in-Some.is in
          let pushed = ap (λ (v : Vec Target Global). v.items) w.offered-is ∙ w.in_ok-push.ensures.items in
          filter_map-some find ids i 0 (target_of w.in-Some.member) c.args.offered.now.items c.loop-id.offered.items c.match-member_with.offered.items
          c.loop-id-test.true (ap (option_map target_of) found) c.loop-id.invariant pushed
      | in_default w ↦
          let absent = ap (option_map target_of) (sym c.member_with.ensures ∙ w.in_default.is) in
          let same = ap (λ (v : Vec Target Global). v.items) w.offered-is in
          filter_map-none find ids i 0 c.args.offered.now.items c.match-member_with.offered.items c.loop-id-test.true absent (same ∙ c.loop-id.invariant)
    ]
