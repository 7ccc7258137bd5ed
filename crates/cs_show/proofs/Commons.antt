-- What blocks have in common depends on the epoch and the summaries alone.
use Rattle.std.proofs.Common.{◌≡◌, ◌∙◌, ◌++◌, ◌∷◌, ap, codes, decimal, subst, sym}
use Rattle.std.specs.List.{flat_map}
use Rattle.std.specs.String.{string_bytes}
use Rattle.sha2.specs.Sha256.{sha256}
use Rattle.cs_item.specs.declared.picture.Picture.{Picture}
use Rattle.cs_show.specs.Block.{IsCommonOf, digest_of, inter_lines, region_lines, shared_lines}
use Rattle.cs_show.specs.Text.{text_of}
use Rattle.cs_show.specs.declared.common.Common.{Common}

-- what stands there is that of a view
abbrev pub IsOf : Picture → Common → Type 0
IsOf view common = IsCommonOf view (string_bytes common.regions) (string_bytes common.inters) common.digest

-- the lines of the epoch and its regions are the same
same_shared : (v w : Picture) → v.epoch ≡ w.epoch → v.summaries ≡ w.summaries → shared_lines v ≡ shared_lines w
same_shared v w epoch summaries = λ i. (codes "epoch " ++ decimal (epoch i)) ∷ flat_map region_lines (summaries i)

-- and the digest is
same_digest : (v w : Picture) → v.epoch ≡ w.epoch → v.summaries ≡ w.summaries → digest_of v ≡ digest_of w
same_digest v w epoch summaries =
    λ i. sha256 (text_of (same_shared v w epoch summaries i) ++ text_of (inter_lines (summaries i)))

-- so what is made of one view is that of another with the same epoch and summaries, also as a copy
pub of_the_same : (made copy : Common) (view : Picture) → copy ≡ made → made.view.epoch ≡ view.epoch → made.view.summaries ≡ view.summaries
    → IsOf view copy
of_the_same made copy view same epoch summaries =
    subst (IsOf view) (sym same) (
      made.listed ∙ ap text_of (same_shared made.view view epoch summaries),
      made.rooted ∙ (λ i. text_of (inter_lines (summaries i))),
      made.digested ∙ same_digest made.view view epoch summaries,
    )

-- and of the same view
pub of_its_view : (made copy : Common) (view : Picture) → copy ≡ made → made.view ≡ view → IsOf view copy
of_its_view made copy view same is =
    of_the_same made copy view same (ap (λ (v : Picture). v.epoch) is) (ap (λ (v : Picture). v.summaries) is)
