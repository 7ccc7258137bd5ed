use Rattle.std.proofs.Common.{◌≡◌, ◌∙◌, ◌++◌, ap, sym, rules}
use Rattle.std.specs.String.{string_bytes}
use Rattle.sha2.specs.Sha256.{sha256}
use Rattle.cs_item.specs.declared.picture.Picture.{Picture}
use Rattle.cs_show.specs.Block.{digest_of, inter_lines, shared_lines}
use Rattle.cs_show.specs.Text.{text_of}
use Rattle.cs_show.proofs.BlockText.{hashed_put}
use Rattle.cs_show.proofs.common.Common.with.Goals as goal

-- the texts are those of the view, and so of its copy
pub invariant_of-result : goal.invariant_of-result
invariant_of-result c =
    let view = c.args.view.now in
    let same = sym c.in_ok-view.ensures in
    let regions = c.put_shared.new.out in
    let inters = c.args.inters in
    let listed : string_bytes regions ≡ text_of (shared_lines view) = search rules in
    let hashed : c.sha256-digest.result ≡ sha256 (string_bytes regions ++ string_bytes inters) = search rules in
    record {
      listed = listed ∙ ap (λ (v : Picture). text_of (shared_lines v)) same;
      rooted = c.requires ∙ ap (λ (v : Picture). text_of (inter_lines v.summaries)) same;
      digested =
          hashed ∙ hashed_put (string_bytes regions) (string_bytes inters) (text_of (shared_lines view)) (text_of (inter_lines view.summaries)) listed
          c.requires ∙ ap digest_of same;
    }
