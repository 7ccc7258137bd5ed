-- Events that happen in a world, one after the other, and what is told of them.
use Rattle.std.proofs.Common.{◌≡◌, ℕ, ◌+◌, ◌≤◌, true, false, ◌||◌, List, [], ◌∷◌, ◌++◌, length, Option}
use Rattle.std.proofs.Common.{refl, ap, sym, subst, ◌∙◌, append_assoc, append-nil, length-append, arith}
use Rattle.std.specs.List.{AllByRecursion}
use Rattle.std.proofs.lemmas.Bool.{or_parts}
use Rattle.cs_base.proofs.Elements.{All-append}
use Rattle.cs_machine.specs.Happens.{happens}
use Rattle.cs_machine.specs.Names.{World}
use Rattle.cs_script.specs.Event.{IsEvent}
use Rattle.cs_script.specs.declared.event.Event.{Event}
use Rattle.census.specs.declared.status.Status.{Status}
use Rattle.census.specs.declared.status.Status.TheVariants.{Limit, Link, Log, Memory, Write}
use Rattle.census.specs.Drilled.{world_behind}
use Rattle.census.specs.Lived.{AreTold, EndIn, Happened, StopsIn, WritesBy, output_of, passes_by, passes_with, told_events}
use Rattle.census.specs.Run.{IsEventStop, WritesFront}
use Rattle.census.specs.Streams.{Appends}
use Rattle.census.proofs.RunLemmas.{Appends-more, Appends-nothing, WritesFront-behind}

-- what is told of more events behind others
told-append : (first more : List Event) (world : World)
    → told_events world (first ++ more) ≡ told_events world first ++ told_events (world_behind world first) more
told-append [] more world = refl
told-append (event ∷ first) more world =
    let next = (happens world event).world in
    ap (λ t. output_of world event ++ t) (told-append first more next)
    ∙ sym (append_assoc (output_of world event) (told_events next first) (told_events (world_behind next first) more))

-- the world behind them
pub behind-append : (first more : List Event) (world : World) → world_behind world (first ++ more) ≡ world_behind (world_behind world first) more
behind-append [] more world = refl
behind-append (event ∷ first) more world = behind-append first more (happens world event).world

-- where none of the others goes beyond a limit, one of them does where one of those behind does
passes-append : (first more : List Event) (world : World) (written : ℕ) → passes_by written world first ≡ false
    → passes_by written world (first ++ more) ≡ passes_by (written + length (told_events world first)) (world_behind world first) more
passes-append [] more world written within =
    let same : written ≡ written + 0 = omega arith in ap (λ n. passes_by n world more) same
passes-append (event ∷ first) more world written within =
    let next = (happens world event).world in
    let out = output_of world event in
    let both = or_parts (passes_with written world event) (passes_by (written + length out) next first) within in
    let len = length-append out (told_events next first) in
    let same : (written + length out) + length (told_events next first) ≡ written + length (out ++ told_events next first) =
    omega (arith, len) in
    ap (λ b. b || passes_by (written + length out) next (first ++ more)) both.0
    ∙ passes-append first more next (written + length out) both.1
    ∙ ap (λ n. passes_by n (world_behind next first) more) same

-- nothing was told
pub AreTold-none : (StandsNow : World → Type 0) (old new : ℕ) (world : World) (before : Option (List ℕ)) → StandsNow world → new ≡ old
    → AreTold StandsNow old new world [] before before
AreTold-none StandsNow old new world before stands same = record {
  allowed = tt;
  stands = stands;
  written = omega arith;
  within = refl;
  text = Appends-nothing before;
}

-- what an event leads to was written
pub AreTold-one : (StandsNow : World → Type 0) (old new : ℕ) (world : World) (event : Event) (text : List ℕ) (before after : Option (List ℕ))
    → IsEvent event → Happened StandsNow old new world event text → Appends before after text
    → AreTold StandsNow old new world (event ∷ []) before after
AreTold-one StandsNow old new world event text before after is happened written = record {
  allowed = (is, tt);
  stands = happened.stands;
  written = happened.written ∙ ap (λ t. old + length t) (sym (append-nil (output_of world event)));
  within = ap (λ b. b || false) happened.within;
  text = subst (Appends before after) (happened.said ∙ sym (append-nil (output_of world event))) written;
}

module _ (old mid : ℕ) (world : World) (first : List Event) (StandsMid : World → Type 0) (before between after : Option (List ℕ))
    (so_far : AreTold StandsMid old mid world first before between) where
  -- more of them go beyond a limit
  passes-behind : (more : List Event) → passes_by old world (first ++ more) ≡ passes_by mid (world_behind world first) more
  passes-behind more =
      passes-append first more world old so_far.within ∙ ap (λ n. passes_by n (world_behind world first) more) (sym so_far.written)

  -- more were told
  pub AreTold-more : (StandsNow : World → Type 0) (new : ℕ) (more : List Event)
      → AreTold StandsNow mid new (world_behind world first) more between after → AreTold StandsNow old new world (first ++ more) before after
  AreTold-more StandsNow new more told = record {
    allowed = All-append IsEvent first more so_far.allowed told.allowed;
    stands = subst StandsNow (sym (behind-append first more world)) told.stands;
    written =
        let len = length-append (told_events world first) (told_events (world_behind world first) more) in
        let all = ap length (told-append first more world) in
        omega (arith, so_far.written, told.written, len, all);
    within = passes-behind more ∙ told.within;
    text = subst (Appends before after) (sym (told-append first more world)) (Appends-more before between after _ _ so_far.text told.text);
  }

  -- their text was written, or a front of it
  writes-behind : (status : Status) (more : List Event) → WritesBy status (told_events (world_behind world first) more) between after
      → WritesBy status (told_events world (first ++ more)) before after
  writes-behind Write more text = WritesFront-behind _ _ _ before between after (told-append first more world) so_far.text text
  writes-behind status more text =
      subst (Appends before after) (sym (told-append first more world)) (Appends-more before between after _ _ so_far.text text)

  module _ (Such SuchInAll : List Event → Type 0) (join : (more : List Event) → Such more → SuchInAll (first ++ more)) where
    -- more of them ended with a status
    end-behind : (status : Status) (more : List Event) → EndIn Such status mid (world_behind world first) more
        → EndIn SuchInAll status old world (first ++ more)
    end-behind Limit more (next, such, passes) =
        let grouped = append_assoc first more (next ∷ []) in (
          next,
          subst SuchInAll (sym grouped) (join (more ++ next ∷ []) such),
          ap (passes_by old world) grouped ∙ passes-behind (more ++ next ∷ []) ∙ passes,
        )
    end-behind Write more such = join more such
    end-behind Link more such = join more such
    end-behind Log more such = join more such
    end-behind Memory more such = join more such
    end-behind status more none = absurd none

    -- and so did all
    pub StopsIn-behind : (status : Status) → StopsIn Such status mid (world_behind world first) between after
        → StopsIn SuchInAll status old world before after
    StopsIn-behind status stops = record {
      events = first ++ stops.events;
      end = end-behind status stops.events stops.end;
      allowed = All-append IsEvent first stops.events so_far.allowed stops.allowed;
      within = passes-behind stops.events ∙ stops.within;
      text = writes-behind status stops.events stops.text;
    }

module _ (Such : List Event → Type 0) (written : ℕ) (world : World) (none : Such []) where
  -- nothing was told before a link or a log failed, or memory ran out, or an event would go beyond a limit
  pub StopsIn-untold : (unlinked unlogged : Type 0) (status : Status) (next : Event) (before : Option (List ℕ))
      → IsEventStop unlinked unlogged status → Such (next ∷ []) → (status ≡ Limit → passes_with written world next ≡ true)
      → StopsIn Such status written world before before
  StopsIn-untold unlinked unlogged Limit next before stop such passes = record {
    events = [];
    end = (next, such, ap (λ b. b || false) (passes refl));
    allowed = tt;
    within = refl;
    text = Appends-nothing before;
  }
  StopsIn-untold unlinked unlogged Link next before stop such passes =
      record { events = []; end = none; allowed = tt; within = refl; text = Appends-nothing before }
  StopsIn-untold unlinked unlogged Log next before stop such passes =
      record { events = []; end = none; allowed = tt; within = refl; text = Appends-nothing before }
  StopsIn-untold unlinked unlogged Memory next before stop such passes =
      record { events = []; end = none; allowed = tt; within = refl; text = Appends-nothing before }
  StopsIn-untold unlinked unlogged status next before stop such passes = absurd stop

  -- nothing was told before a link failed
  pub StopsIn-link : (status : Status) (before : Option (List ℕ)) → status ≡ Link → StopsIn Such status written world before before
  StopsIn-link status before is =
      subst (λ s. StopsIn Such s written world before before) (sym is)
      (record { events = []; end = none; allowed = tt; within = refl; text = Appends-nothing before })

-- a front of what an event leads to was written
pub StopsIn-unwritten : (Such : List Event → Type 0) (StandsNow : World → Type 0) (old new : ℕ) (world : World) (event : Event) (text : List ℕ)
    (status : Status) (before after : Option (List ℕ)) → Such (event ∷ []) → IsEvent event → Happened StandsNow old new world event text
    → status ≡ Write → WritesFront text before after → StopsIn Such status old world before after
StopsIn-unwritten Such StandsNow old new world event text status before after such is happened failed front =
    subst (λ s. StopsIn Such s old world before after) (sym failed) (record {
      events = event ∷ [];
      end = such;
      allowed = (is, tt);
      within = ap (λ b. b || false) happened.within;
      text = subst (λ t. WritesFront t before after) (happened.said ∙ sym (append-nil (output_of world event))) front;
    })
