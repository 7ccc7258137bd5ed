use Rattle.std.proofs.Common.{ℕ, not, Bool, rules, tests}
use Rattle.std.proofs.lemmas.Iterator.{YieldsList-from_map, YieldsList-from_slice}
use Rattle.std.proofs.lemmas.Iterator.Adapters.{items_from_extend}
use Rattle.std.proofs.lemmas.Iterator.Consumers.{YieldsList-at, YieldsList-from_copied, YieldsList-from_enumerate, YieldsList-from_filter}
use Rattle.std.specs.Iterator.Adapters.{filter_source}
use Rattle.cs_base.specs.declared.member.Member.{Member}
use Rattle.cs_tree.specs.Colour.{has_colour}
use Rattle.cs_tree.proofs.colour.members_of_others.Goals as goal

-- those that pass are put behind one another
pub returns : goal.returns
returns c =
    let colour = c.args.colour in
    let passes : ℕ × Member → Bool = λ placed. not (has_colour colour placed) in
    let member : ℕ × Member → Member = λ placed. placed.1 in
    let numbered = YieldsList-from_enumerate {s = filter_source c.filter.result} (YieldsList-from_copied (YieldsList-from_slice c.args.roll.now cc)) cc in
    let all = items_from_extend c.extend.result c.extend.ensures.ran
    (YieldsList-from_map _ member
    (YieldsList-at c.map.ensures.source
    (YieldsList-from_filter {s = c.filter.result} _ passes numbered c.filter.ensures.closure (λ x r q e. search (rules, tests))))
    c.map.ensures.closure (λ x r q e. search (rules, tests))) in
    search rules
