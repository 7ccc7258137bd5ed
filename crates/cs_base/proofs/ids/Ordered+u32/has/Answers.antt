use Rattle.cs_base.proofs.Searches.{found_is_there}
use Rattle.cs_base.proofs.ids.Ordered+u32.has.Goals as goal

-- the search ends at the number, or at the gap for it
pub returns : goal.returns
returns c =
    rw c.is_ok.ensures.value (found_is_there c.args.self.now c.args.n c.search.result c.search.ensures.found c.search.ensures.absent)
