-- The one node among the seats.
use Rattle.std.proofs.Common.{◌≡◌, ◌≢◌, ◌∙◌, ℕ, Bool, true, false, cond, eqb, [], Option, Some, None, refl, sym, ap, subst}
use Rattle.std.specs.Option.{option_and_then, option_map_or}
use Rattle.std.proofs.lemmas.Bool.{eqb-true, eq-eqb, false≢true}
use Rattle.std.proofs.lemmas.Option.{none-some, same_Some}
use Rattle.cs_link.specs.declared.link.Link.{Ghosts as LinkGhosts}
use Rattle.cs_log.specs.declared.log.Log.{Ghosts as LogGhosts}
use Rattle.cs_world.specs.Alone.{Alone, OneNode, all_sent, if_named, node_named}
use Rattle.cs_world.specs.AloneStands.{AreAlone, IsOneIf, IsOneNode, KeepsSent}
use Rattle.cs_world.specs.Processes.{Parts}
use Rattle.cs_world.specs.Seats.{parts_at}
use Rattle.cs_world.specs.declared.nodes.Nodes.{Nodes}

-- where the code has a node it is the one node
pub one-under : (o : Option OneNode) (p : Option Parts) (parts : Parts) → p ≡ Some parts → IsOneIf o p
    → (n : OneNode) × (o ≡ Some n) × IsOneNode n parts
one-under None p parts is stands = absurd (subst (IsOneIf None) is stands)
one-under (Some n) p parts is stands = (n, refl, subst (IsOneIf (Some n)) is stands)

-- where it has none there is none
pub nobody-under : (o : Option OneNode) (p : Option Parts) → p ≡ None → IsOneIf o p → o ≡ None
nobody-under None p is stands = refl
nobody-under (Some n) p is stands = absurd (subst (IsOneIf (Some n)) is stands)

-- and it has none where there is none
pub none-alone : (o : Option OneNode) (p : Option Parts) → o ≡ None → IsOneIf o p → p ≡ None
none-alone o None is stands = refl
none-alone o (Some parts) is stands = absurd (subst (λ n. IsOneIf n (Some parts)) is stands)

-- a node that has the id is the one node
pub named-node : (alone : Alone) (id : ℕ) (n : OneNode) → node_named alone id ≡ Some n → (alone.node ≡ Some n) × (n.own.id ≡ id)
named-node alone id n is = go alone.node is
  where
    by : (m : OneNode) (b : Bool) → eqb m.own.id id ≡ b → cond b (Some m) None ≡ Some n → (Some m ≡ Some n) × (n.own.id ≡ id)
    by m true same there = (there, subst (λ (x : OneNode). x.own.id ≡ id) (same_Some m n there) (eqb-true m.own.id id same))
    by m false other there = absurd (none-some n there)

    go : (o : Option OneNode) → option_and_then (if_named id) o ≡ Some n → (o ≡ Some n) × (n.own.id ≡ id)
    go None there = absurd (none-some n there)
    go (Some m) there = by m (eqb m.own.id id) refl there

-- the node has its own id
pub named-itself : (n : OneNode) → if_named n.own.id n ≡ Some n
named-itself n = ap (λ b. cond b (Some n) None) (eq-eqb n.own.id n.own.id refl)

module _ {L G : Type 0} (link : LinkGhosts L) (log : LogGhosts G) (code later : Nodes L G) (alone : Alone)
    (are : AreAlone link log code alone) where
  -- where all is seen as it was, nothing has changed
  pub still-alone : ((q : ℕ) → parts_at link log later.seats q ≡ parts_at link log code.seats q) → later.traffic ≡ code.traffic
      → AreAlone link log later alone
  still-alone same traffic = record {
    nodes = λ q. subst (IsOneIf (node_named alone q)) (sym (same q)) (are.nodes q);
    traffic = subst (λ t. KeepsSent t (all_sent alone)) (sym traffic) are.traffic;
  }

  module _ (n : OneNode) (there : alone.node ≡ Some n) where
    -- what was sent is kept
    pub sent-kept : KeepsSent code.traffic n.sent
    sent-kept = subst (λ o. KeepsSent code.traffic (option_map_or (λ (m : OneNode). m.sent) o [])) there are.traffic

    -- under any other id there is nothing
    others-none : (q : ℕ) → eqb n.own.id q ≡ false → IsOneIf None (parts_at link log code.seats q)
    others-none q other =
        subst (λ o. IsOneIf o (parts_at link log code.seats q))
        (ap (option_and_then (if_named q)) there ∙ ap (λ b. cond b (Some n) None) other) (are.nodes q)

    -- the one node is another one now
    pub put-alone : (next : OneNode) (new : Parts) → next.own.id ≡ n.own.id → parts_at link log later.seats n.own.id ≡ Some new
        → ((q : ℕ) → q ≢ n.own.id → parts_at link log later.seats q ≡ parts_at link log code.seats q) → IsOneNode next new
        → KeepsSent later.traffic next.sent → AreAlone link log later (record alone { node = Some next })
    put-alone next new same now others stands sent = record { nodes = λ q. by q (eqb next.own.id q) refl; traffic = sent }
      where
        by : (q : ℕ) (b : Bool) → eqb next.own.id q ≡ b → IsOneIf (cond b (Some next) None) (parts_at link log later.seats q)
        by q true is =
            subst (IsOneIf (Some next)) (sym (ap (parts_at link log later.seats) (sym (eqb-true next.own.id q is) ∙ same) ∙ now)) stands
        by q false is =
            let other : eqb n.own.id q ≡ false = ap (λ i. eqb i q) (sym same) ∙ is in
            subst (IsOneIf None) (sym (others q (λ e. false≢true (sym other ∙ eq-eqb n.own.id q (sym e))))) (others-none q other)
