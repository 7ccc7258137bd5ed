use Rattle.std.proofs.Common.{◌≡◌, ◌∙◌, ◌==◌, Bool, Some, sym, ap, subst}
use Rattle.std.specs.List.{find}
use Rattle.std.specs.Option.{option_copied}
use Rattle.cs_base.proofs.Elements.{All-find}
use Rattle.cs_item.specs.SliceField.{IsSlice}
use Rattle.cs_item.specs.declared.slice.Slice.{Slice}
use Rattle.cs_lead.proofs.leader.Leader.used_slice.Goals as goal

-- each of the leader's slices is one
pub returns-in_ok-copy-in-Some-clause-allowed : goal.returns-in_ok-copy-in-Some-clause-allowed
returns-in_ok-copy-in-Some-clause-allowed c =
    let slices = c.args.self.now.slices in
    let s = c.in-Some.slice.now in
    let named : Slice → Bool = λ t. t.part.region == c.get.result in
    let found : find named slices ≡ Some s =
    ap (find named) (sym c.slices.ensures.value) ∙ (sym c.get-2.ensures ∙ ap option_copied c.in-Some.is) in
    subst IsSlice (sym c.in_ok-copy-in-Some.ensures) (All-find IsSlice named slices s c.slices.ensures.keeps.allowed found)
