use Rattle.std.proofs.Common.{◌≡◌, ◌∙◌, ◌==◌, Bool, Some, sym, ap, subst}
use Rattle.std.specs.List.{find}
use Rattle.std.specs.Option.{option_copied}
use Rattle.cs_base.proofs.Elements.{All-find}
use Rattle.cs_item.specs.SliceField.{IsSlice}
use Rattle.cs_item.specs.declared.slice.Slice.{Slice}
use Rattle.cs_core.proofs.following.Following.used_slice.Goals as goal

-- each of the used slices is one
pub returns-in_ok-copy-in-Some-clause-allowed : goal.returns-in_ok-copy-in-Some-clause-allowed
returns-in_ok-copy-in-Some-clause-allowed c =
    let used = c.args.self.now.used in
    let s = c.in-Some.slice.now in
    let named : Slice → Bool = λ t. t.part.region == c.get.result in
    let found : find named used ≡ Some s =
    ap (find named) (sym c.used.ensures.value) ∙ (sym c.get-2.ensures ∙ ap option_copied c.in-Some.is) in
    subst IsSlice (sym c.in_ok-copy-in-Some.ensures) (All-find IsSlice named used s c.used.ensures.keeps found)
