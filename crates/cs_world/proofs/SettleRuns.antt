-- A settling: rounds that were gone through, and those that are left.
use Rattle.std.proofs.Common.{◌≡◌, ◌⊎◌, inl, inr, ◌∙◌, ℕ, zero, suc, ◌+◌, ◌-◌, ◌<◌, ◌≤◌, false, List, [], ◌∷◌, ◌++◌, length}
use Rattle.std.proofs.Common.{refl, sym, ap, subst, arith, append-nil, codes, decimal}
use Rattle.std.specs.List.{filter, range_with_len}
use Rattle.std.proofs.lemmas.List.Concat.{flat_map-append}
use Rattle.std.proofs.lemmas.Slice.Zip.{AllZip-long}
use Rattle.cs_link.specs.declared.link.Link.{Ghosts as LinkGhosts}
use Rattle.cs_log.specs.declared.log.Log.{Ghosts as LogGhosts}
use Rattle.cs_show.specs.Text.{ended, text_of}
use Rattle.cs_machine.specs.Names.{World}
use Rattle.cs_machine.specs.Outcome.{After}
use Rattle.cs_machine.specs.Settling.{Settling, at_rest, behind, deliveries, is_open, open_numbers, round, rounds, settled}
use Rattle.cs_machine.proofs.Contents.{bytes_sent-rises}
use Rattle.cs_machine.proofs.Settles.{deliveries-keeps, rounds-keeps}
use Rattle.cs_world.specs.declared.fault.WorldFault.{WorldFault}
use Rattle.cs_world.specs.declared.nodes.Nodes.{Nodes}
use Rattle.cs_world.specs.Sent.{PacketStands}
use Rattle.cs_world.specs.Settles.{Settles}
use Rattle.cs_world.specs.Stands.{IsLimitOf, Stands, Tells}
use Rattle.cs_world.proofs.Answering.{limit-later}
use Rattle.cs_world.proofs.Rounds.{behind-behind, behind-none, behind-nothing, skip-closed}

-- so many rounds were gone through
pub record SettledTo {L G : Type 0} (link : LinkGhosts L) (log : LogGhosts G) (start : World) (most : ℕ) (code : Nodes L G) (now : List ℕ)
    (count gone : ℕ) : Type 0 where
  pub world : World
  pub lines : List (List ℕ)
  pub stands : Stands link log code world
  pub text : now ≡ text_of lines
  pub rest : rounds start most ≡ behind lines count (rounds world (most - gone))

module _ {L G : Type 0} (link : LinkGhosts L) (log : LogGhosts G) where
  module _ (start : World) (most : ℕ) (code : Nodes L G) (now : List ℕ) (count gone : ℕ) (so_far : SettledTo link log start most code now count gone) where
    -- the machine's world
    abbrev here : World
    here = so_far.world

    -- one round of those that are left, and the others
    one_more : gone < most → rounds start most ≡ behind so_far.lines count (behind (round here).lines (round here).count
        (rounds (round here).world (most - (gone + 1))))
    one_more less =
        let left : most - gone ≡ suc (most - (gone + 1)) = omega (arith, less) in
        so_far.rest ∙ ap (λ n. behind so_far.lines count (rounds here n)) left

    -- one round more
    pub settle-round : (later : Nodes L G) (then : List ℕ) (more : ℕ) → gone < most → Settles link log later now then more (round here)
        → SettledTo link log start most later then (count + more) (gone + 1)
    settle-round later then more less settles = record {
      world = (round here).world;
      lines = so_far.lines ++ (round here).lines;
      stands = settles.stands;
      text = settles.text ∙ ap (λ t. t ++ text_of (round here).lines) so_far.text ∙ sym (flat_map-append ended so_far.lines (round here).lines);
      rest = one_more less
          ∙ behind-behind so_far.lines (round here).lines count (round here).count (rounds (round here).world (most - (gone + 1)))
          ∙ ap (λ n. behind (so_far.lines ++ (round here).lines) (count + n) (rounds (round here).world (most - (gone + 1)))) (sym settles.count);
    }

    -- where a round would send too much, so would all of them
    pub settle-limit : (fault : WorldFault) → gone < most → IsLimitOf (round here).world fault → IsLimitOf (settled start most).world fault
    settle-limit fault less limit =
        let reached = deliveries-keeps here (open_numbers here) so_far.stands.reached in
        let last = (rounds (round here).world (most - (gone + 1))).world in
        let rises = bytes_sent-rises (round here).world last reached.reached
        (rounds-keeps (round here).world (most - (gone + 1)) reached.reached) in
        subst (λ (all : Settling). IsLimitOf all.world fault) (sym (one_more less))
        (limit-later (round here).world last rises fault limit)

    -- where the front has come to the end, nothing is open
    none_open : length code.traffic.datagrams.items ≤ code.traffic.front → open_numbers here ≡ []
    none_open beyond =
        let long = AllZip-long (PacketStands here) code.traffic.datagrams.items here.sent so_far.stands.traffic.packets in
        let same : length here.sent ≡ length here.sent + 0 = omega arith in
        ap (λ n. filter (is_open here) (range_with_len 1 n)) same
        ∙ skip-closed (is_open here) 1 (length here.sent) 0 (λ number from to.
        (let before : number - 1 + 1 ≡ number = omega (arith, from) in
        subst (λ n. is_open here n ≡ false) before (so_far.stands.traffic.front (number - 1) (omega (arith, from, to, long, beyond)))))

    -- so further rounds do nothing
    quiet : (n : ℕ) → open_numbers here ≡ [] → rounds here n ≡ at_rest here
    quiet zero none = refl
    quiet (suc n) none =
        let still : round here ≡ at_rest here = ap (deliveries here) none in
        ap (λ (first : Settling). behind first.lines first.count (rounds first.world n)) still
        ∙ sym (behind-none (rounds here n)) ∙ quiet n none

    -- nothing is left
    done : (most ≤ gone) ⊎ (length code.traffic.datagrams.items ≤ code.traffic.front) → rounds here (most - gone) ≡ at_rest here
    done (inl all) = (let none : most - gone ≡ 0 = omega (arith, all) in ap (rounds here) none)
    done (inr beyond) = quiet (most - gone) (none_open beyond)

    -- and the settling is told
    pub settle-end : (most ≤ gone) ⊎ (length code.traffic.datagrams.items ≤ code.traffic.front) → (then : List ℕ)
        → then ≡ now ++ ended (codes "settled " ++ decimal count) → Tells link log code [] then (settled start most)
    settle-end ends then told =
        let all : rounds start most ≡ record { world = here; lines = so_far.lines; count = count } =
        so_far.rest ∙ ap (behind so_far.lines count) (done ends) ∙ behind-nothing so_far.lines count here in
        let outcome = λ (all : Settling). (let a : After = record {
          world = all.world;
          lines = all.lines ++ (codes "settled " ++ decimal all.count) ∷ [];
        } in a) in
        subst (Tells link log code [] then) (ap outcome (sym all)) (record {
          text = told ∙ ap (λ t. t ++ ended (codes "settled " ++ decimal count)) so_far.text
              ∙ ap (λ t. text_of so_far.lines ++ t) (sym (append-nil (ended (codes "settled " ++ decimal count))))
              ∙ sym (flat_map-append ended so_far.lines ((codes "settled " ++ decimal count) ∷ []));
          stands = so_far.stands;
        })
