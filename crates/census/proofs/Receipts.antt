-- Datagrams that come, one after the other, and the counts that rise with them.
use Rattle.std.proofs.Common.{◌≡◌, ℕ, ◌+◌, ◌<◌, ◌≤◌, true, false, List, [], ◌∷◌, ◌++◌, length, Option, Ok, refl, ap, sym, subst, ◌∙◌, length-append, arith}
use Rattle.std.specs.Prelude.{nat_lt, if◌then◌else◌}
use Rattle.std.specs.List.{AllByRecursion}
use Rattle.std.proofs.lemmas.Bool.{le-ltb, lt-ltb}
use Rattle.std.proofs.lemmas.Bool.Decides.{nat_tests}
use Rattle.cs_base.proofs.Elements.{All-append, All-front}
use Rattle.cs_link.specs.Counts.{counted, last_count}
use Rattle.cs_machine.specs.Names.{World}
use Rattle.cs_script.specs.declared.event.Event.{Event}
use Rattle.cs_script.specs.declared.event.Event.TheVariants as events
use Rattle.cs_world.specs.Receiving.{IsReceipt}
use Rattle.census.specs.declared.status.Status.{Status}
use Rattle.census.specs.Drilled.{world_behind}
use Rattle.census.specs.Lived.{AreReceipts, AreReceived, AreTold, IsFrontIn, Rose, StopsIn}
use Rattle.census.specs.Lived.{dry_behind, dry_in_pass, dry_in_poll, most_passes, most_taken, told_events}
use Rattle.census.specs.Restarts.{brings_back}
use Rattle.census.specs.Streams.{Appends}
use Rattle.census.proofs.ToldEvents.{AreTold-more, AreTold-none, StopsIn-behind}

-- ---- counts

-- nothing was counted
pub Rose-none : (taken dry : ℕ) → taken ≤ last_count → Rose taken taken dry dry 0 0
Rose-none taken dry few = record { taken = omega arith; dry = omega arith }

-- more was counted
pub Rose-more : (taken_before taken_mid taken_now dry_before dry_mid dry_now came missed more again : ℕ)
    → Rose taken_before taken_mid dry_before dry_mid came missed → Rose taken_mid taken_now dry_mid dry_now more again
    → Rose taken_before taken_now dry_before dry_now (came + more) (missed + again)
Rose-more taken_before taken_mid taken_now dry_before dry_mid dry_now came missed more again first second = record {
  taken = omega (arith, first.taken, second.taken);
  dry = omega (arith, first.dry, second.dry);
}

-- nothing more was counted
pub Rose-same : (taken_before taken_mid taken_now dry_before dry_mid dry_now came missed : ℕ)
    → Rose taken_before taken_mid dry_before dry_mid came missed → taken_now ≡ taken_mid → dry_now ≡ dry_mid
    → Rose taken_before taken_now dry_before dry_now came missed
Rose-same taken_before taken_mid taken_now dry_before dry_mid dry_now came missed rose same_taken same_dry =
    record { taken = same_taken ∙ rose.taken; dry = omega (arith, rose.dry, same_dry) }

-- one datagram more came, and was told
pub Rose-next : (taken_before taken_mid taken_later taken_now dry_before dry_mid dry_later dry_now came : ℕ)
    → Rose taken_before taken_mid dry_before dry_mid came 0 → Rose taken_mid taken_later dry_mid dry_later 1 0
    → taken_now ≡ taken_later → dry_now ≡ dry_later → Rose taken_before taken_now dry_before dry_now (came + 1) 0
Rose-next taken_before taken_mid taken_later taken_now dry_before dry_mid dry_later dry_now came first second same_taken same_dry = record {
  taken = omega (arith, first.taken, second.taken);
  dry = omega (arith, first.dry, second.dry);
}

-- less is missed
pub Rose-less : (taken_before taken_now dry_before dry_now came missed less : ℕ) → less ≤ missed
    → Rose taken_before taken_now dry_before dry_now came missed → Rose taken_before taken_now dry_before dry_now came less
Rose-less taken_before taken_now dry_before dry_now came missed less few rose =
    record { taken = rose.taken; dry = omega (arith, rose.dry, few) }

-- ---- datagrams

-- that a datagram came brings no node back
pub quiet-receipt : (event : Event) → IsReceipt event → brings_back (Ok event) ≡ false
quiet-receipt (events.Deliver number) is = refl
quiet-receipt (events.Noise id size) is = refl
quiet-receipt event is = absurd is

-- none came
pub AreReceived-none : (StandsNow : World → Type 0) (written : ℕ) (world : World) (before : Option (List ℕ)) → StandsNow world
    → AreReceived StandsNow written written world 0 before before
AreReceived-none StandsNow written world before stands =
    record { events = []; receipts = tt; count = refl; told = AreTold-none StandsNow written written world before stands refl }

module _ (old mid : ℕ) (world : World) (came : ℕ) (StandsMid : World → Type 0) (before between after : Option (List ℕ))
    (so_far : AreReceived StandsMid old mid world came before between) where
  -- more came
  pub AreReceived-more : (StandsNow : World → Type 0) (new more : ℕ)
      → AreReceived StandsNow mid new (world_behind world so_far.events) more between after
      → AreReceived StandsNow old new world (came + more) before after
  AreReceived-more StandsNow new more received = record {
    events = so_far.events ++ received.events;
    receipts = All-append IsReceipt so_far.events received.events so_far.receipts received.receipts;
    count = omega (arith, so_far.count, received.count, length-append so_far.events received.events);
    told = AreTold-more old mid world so_far.events StandsMid before between after so_far.told StandsNow new received.events received.told;
  }

  -- no more came
  pub AreReceived-same : (StandsNow : World → Type 0) (new : ℕ) → StandsNow (world_behind world so_far.events) → new ≡ mid → after ≡ between
      → AreReceived StandsNow old new world came before after
  AreReceived-same StandsNow new stands same unwritten = record {
    events = so_far.events;
    receipts = so_far.receipts;
    count = so_far.count;
    told = record {
      allowed = so_far.told.allowed;
      stands = stands;
      written = same ∙ so_far.told.written;
      within = so_far.told.within;
      text = subst (λ now. Appends before now (told_events world so_far.events)) (sym unwritten) so_far.told.text;
    };
  }

  -- the next one is told
  pub AreReceived-next : (StandsNow : World → Type 0) (later new : ℕ) (event : Event) → later ≡ mid → IsReceipt event
      → AreTold StandsNow later new (world_behind world so_far.events) (event ∷ []) between after
      → AreReceived StandsNow old new world (came + 1) before after
  AreReceived-next StandsNow later new event same is told =
      AreReceived-more StandsNow new 1 (record {
        events = event ∷ [];
        receipts = (is, tt);
        count = refl;
        told = subst (λ n. AreTold StandsNow n new (world_behind world so_far.events) (event ∷ []) between after) same told;
      })

  -- behind them others ended with a status
  pub AreReceived-stopped : (status : Status) → StopsIn AreReceipts status mid (world_behind world so_far.events) between after
      → StopsIn AreReceipts status old world before after
  AreReceived-stopped status stops =
      StopsIn-behind old mid world so_far.events StandsMid before between after so_far.told AreReceipts AreReceipts
      (λ more are. All-append IsReceipt so_far.events more so_far.receipts are) status stops

  -- the next one did
  pub AreReceived-failed : (status : Status) (later : ℕ) (event : Event) → later ≡ mid → IsReceipt event
      → StopsIn (IsFrontIn (event ∷ [])) status later (world_behind world so_far.events) between after
      → StopsIn AreReceipts status old world before after
  AreReceived-failed status later event same is stops =
      StopsIn-behind old mid world so_far.events StandsMid before between after so_far.told (IsFrontIn (event ∷ [])) AreReceipts
      (λ more front. All-append IsReceipt so_far.events more so_far.receipts
      (All-front IsReceipt more front.0 (subst AreReceipts front.1 (is, tt)))) status
      (subst (λ n. StopsIn (IsFrontIn (event ∷ [])) status n (world_behind world so_far.events) between after) same stops)

-- ---- passes

-- below the most that a pass takes from a link, nothing was waiting at last
pub dry-few : (came : ℕ) → came < most_taken → dry_behind came ≡ 1
dry-few came few = ap (λ b. if b then 1 else 0) (lt-ltb came most_taken few)

-- and so the counts are behind the last
pub Rose-last : (taken_before taken_mid taken_now dry_before dry_mid dry_now came : ℕ) → came < most_taken
    → Rose taken_before taken_mid dry_before dry_mid came 0 → Rose taken_mid taken_now dry_mid dry_now 0 1
    → Rose taken_before taken_now dry_before dry_now came (dry_behind came)
Rose-last taken_before taken_mid taken_now dry_before dry_mid dry_now came few first second = record {
  taken = omega (arith, first.taken, second.taken);
  dry = omega (arith, first.dry, second.dry, dry-few came few);
}

-- one link more was asked
pub dry-next : (asked came more : ℕ) → more ≤ most_taken → dry_in_pass (asked + 1) (came + more) ≤ dry_in_pass asked came + dry_behind more
dry-next asked came more few = grind (arith, nat_tests)

-- a pass took nothing, so each link was asked behind the last
pub dry-last : (nodes now came more : ℕ) → more ≡ 0 → now ≡ nodes → dry_in_poll nodes came ≤ 0 + dry_in_pass now more
dry-last nodes now came more none same =
    let few : dry_in_poll nodes came ≤ nodes =
    elim (nat_lt came most_passes) as (λ b. (if b then nodes else 0) ≤ nodes) [ true ↦ omega arith | false ↦ omega arith ] in
    let asked : dry_in_pass now more ≡ now = ap (λ m. dry_in_pass now m) none in omega (arith, few, asked)

-- a poll with as many datagrams as passes may ask no link behind the last
pub dry-many : (nodes came : ℕ) → most_passes ≤ came → dry_in_poll nodes came ≡ 0
dry-many nodes came many = ap (λ b. if b then nodes else 0) (le-ltb came most_passes many)
