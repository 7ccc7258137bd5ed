use Rattle.std.proofs.Common.{sym, ◌∙◌}
use Rattle.cs_view.proofs.Finding.{is_ok-searched, is_some-map}
use Rattle.cs_view.proofs.pairs.has_region.Goals as goal

-- the search ends at the region exactly where it is there
pub returns : goal.returns
returns g c =
    c.is_ok.ensures.value
    ∙ (is_ok-searched (λ pair. pair.0) c.args.n c.args.pairs.now c.search.result c.requires c.search.ensures.found c.search.ensures.absent
    ∙ sym (is_some-map (λ pair. pair.1) _))
