use Rattle.std.proofs.Common.{◌≡◌, ◌∙◌, None, nat_eq, sym, ap, subst, inl, inr}
use Rattle.std.specs.Map.{lookup, values_of}
use Rattle.indexmap.specs.IndexMap.{insert_entry}
use Rattle.cs_pending.specs.Pending.{after_offer, IsTable, offer_of}
use Rattle.cs_pending.proofs.Table.{IsPut, new_where_absent, put}
use Rattle.cs_pending.proofs.pending.Pending.offer.Goals.{in-Ok, in-Err}
use Rattle.cs_pending.proofs.pending.Pending.offer.Goals as goal

-- what the change meets, by the table
meets : (c : goal.Joined-insert) → c.offer_to-offer.result ≡ offer_of (values_of c.self.inside.table.entries) c.args.change
meets c = c.offer_to-offer.ensures ∙ ap (λ pending. offer_of pending c.args.change) (sym c.self.view_is)

-- the table where the change was put in
after_put : (c : goal.Joined-insert) → c.insert.new.self.entries ≡ insert_entry nat_eq c.self.inside.table.entries c.key_of.result c.args.change
    → IsPut c.offer_to-offer.result c.args.change c.insert.new.self.entries (values_of c.self.inside.table.entries)
after_put c inserted =
    put c.offer_to-offer.result c.args.change c.self.inside.table.entries c.insert.new.self.entries c.self.invariant (meets c) c.in-New.is
    (inserted ∙ ap (λ k. insert_entry nat_eq c.self.inside.table.entries k c.args.change) c.key_of.ensures)

pub invariant_of-self : goal.invariant_of-self
invariant_of-self c = elim c.match-insert.branch [
  | in-Ok w ↦ (after_put c w.in-Ok.ensures.entries).table
  | in-Err w ↦ subst IsTable (sym w.in-Err.ensures.err) c.self.invariant
]

pub returns-after-insert-clause-memory : goal.returns-after-insert-clause-memory
returns-after-insert-clause-memory c = elim c.match-insert.branch [
  | in-Ok w ↦ λ memory. elim c.in-New.is [ inl is ↦ absurd (cc (w.result-is, memory, is)) | inr is ↦ absurd (cc (w.result-is, memory, is)) ]
  | in-Err w ↦ λ memory.
      let absent = subst (λ k. lookup (nat_eq k) c.self.inside.table.entries ≡ None) c.key_of.ensures w.in-Err.ensures.absent in
      sym c.offer_to-offer.ensures ∙ new_where_absent c.offer_to-offer.result c.args.change c.self.inside.table.entries c.self.invariant
      (meets c) c.in-New.is absent
]

pub returns-after-insert-clause-after : goal.returns-after-insert-clause-after
returns-after-insert-clause-after c = elim c.match-insert.branch [
  | in-Ok w ↦
      (after_put c w.in-Ok.ensures.entries).after
      ∙ ap (λ pending. after_offer c.offer_to-offer.result pending c.args.change) c.self.view_is
      ∙ ap (λ offer. after_offer offer c.args.self.now c.args.change) (sym w.result-is)
  | in-Err w ↦
      ap values_of w.in-Err.ensures.err ∙ c.self.view_is ∙ ap (λ offer. after_offer offer c.args.self.now c.args.change) (sym w.result-is)
]
