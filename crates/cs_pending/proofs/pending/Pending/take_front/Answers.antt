use Rattle.std.proofs.Common.{◌∙◌, drop, sym, ap, subst}
use Rattle.std.specs.Map.{values_of}
use Rattle.std.proofs.lemmas.List.{drop-map, drop_min, take_min}
use Rattle.cs_base.specs.Ascending.{IsDistinctBy}
use Rattle.cs_pending.specs.Pending.{key_of}
use Rattle.cs_pending.proofs.Table.{distinct-take}
use Rattle.cs_pending.proofs.pending.Pending.take_front.Goals as goal

pub returns-clause-taken : goal.returns-clause-taken
returns-clause-taken c = c.in_ok-front.ensures ∙ rw (c.min-n.ensures, c.len.ensures.value) (take_min c.args.n c.args.self.now)

pub returns-clause-distinct : goal.returns-clause-distinct
returns-clause-distinct c =
    subst (IsDistinctBy key_of) (sym c.in_ok-front.ensures) (distinct-take c.min-n.result c.args.self.now c.len.ensures.keeps.distinct)

pub returns-clause-rest : goal.returns-clause-rest
returns-clause-rest c =
    ap values_of c.in_ok-self-inside.ensures.tail
    ∙ sym (drop-map (λ e. e.1) c.min-n.result c.self.inside.table.entries)
    ∙ ap (drop c.min-n.result) c.self.view_is
    ∙ rw (c.min-n.ensures, c.len.ensures.value) (drop_min c.args.n c.args.self.now)
