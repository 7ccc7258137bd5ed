-- What a restart brings back of a state: what the entries of the log lead to lacks what is lost at a restart, and what
-- lasts of a fitting state fits.
use Rattle.std.proofs.Common.{◌≡◌, ◌==◌, ℕ, true, false, cond, List, [], ◌∷◌, ◌++◌, refl, ap, ◌∙◌, arith}
use Rattle.cs_node.specs.Logged.{restarted}
use Rattle.cs_packet.specs.declared.own.Own.{Own}
use Rattle.cs_machine.specs.Contents.{Contents}
use Rattle.cs_machine.specs.Entries.{Entry}
use Rattle.cs_machine.specs.Entries as entries
use Rattle.cs_machine.specs.Names.{Following, Joining, Leading, Left, State, World}
use Rattle.cs_machine.specs.Reached.{AreHeld, CanWait, StateFits}
use Rattle.cs_machine.specs.Restoring.{at_step, first_state, lasting, restored, resumed, resumed_by, seq_of, with_seq}
use Rattle.cs_machine.specs.Snapshots.{at_snapshot}
use Rattle.cs_machine.specs.Values.{node_for}

-- ---- entries

-- at its start a node has nothing that is lost
lasting-first : (own : Own) → lasting (first_state own) ≡ first_state own
lasting-first own =
    elim (own.id == own.leader) as (λ b. lasting (cond b (Leading 0 []) Joining) ≡ cond b (Leading 0 []) Joining) [ true ↦ refl | false ↦ refl ]

-- the number of the last move lasts
seq_of-lasting : (state : State) → seq_of state ≡ seq_of (lasting state)
seq_of-lasting Joining = refl
seq_of-lasting (Following m) = refl
seq_of-lasting (Leading epoch pending) = refl
seq_of-lasting Left = refl

-- what lasts has moved where the state has
lasting-seq : (seq : ℕ) (state : State) → lasting (with_seq seq state) ≡ with_seq seq (lasting state)
lasting-seq seq Joining = refl
lasting-seq seq (Following m) = refl
lasting-seq seq (Leading epoch pending) = refl
lasting-seq seq Left = refl

module _ (c : Contents) (own : Own) where
  -- and has come to an epoch where the state has
  lasting-at_step : (epoch : ℕ) (used : List ℕ) (state : State) → lasting (at_step c own epoch used state) ≡ at_step c own epoch used (lasting state)
  lasting-at_step epoch used Joining = refl
  lasting-at_step epoch used (Following m) = refl
  lasting-at_step epoch used (Leading at pending) = refl
  lasting-at_step epoch used Left = refl

  -- an entry makes of what lasts what lasts of what it makes of the state
  lasting-resumed : (state : State) (entry : Entry) → lasting (resumed c own state entry) ≡ resumed c own (lasting state) entry
  lasting-resumed state (entries.Boot who) = lasting-first who
  lasting-resumed state (entries.Seq seq at) = lasting-seq seq state
  lasting-resumed state (entries.View epoch known) = ap (λ seq. Following (at_snapshot epoch known [] seq)) (seq_of-lasting state)
  lasting-resumed state (entries.Step epoch used) = lasting-at_step epoch used state
  lasting-resumed state (entries.Gone epoch) = refl
  lasting-resumed state (entries.Item epoch changes anew) = refl

  -- and so do many
  lasting-resumed_by : (state : State) (written : List Entry)
      → lasting (resumed_by c own state written) ≡ resumed_by c own (lasting state) written
  lasting-resumed_by state [] = refl
  lasting-resumed_by state (entry ∷ more) =
      lasting-resumed_by (resumed c own state entry) more ∙ ap (λ s. resumed_by c own s more) (lasting-resumed state entry)

  -- so what a log leads to lasts
  pub lasting-restored : (written : List Entry) → lasting (restored c own written) ≡ restored c own written
  lasting-restored written = lasting-resumed_by Joining written

  -- further entries go on from what the first ones lead to
  pub resumed_by-append : (state : State) (xs ys : List Entry)
      → resumed_by c own state (xs ++ ys) ≡ resumed_by c own (resumed_by c own state xs) ys
  resumed_by-append state [] ys = refl
  resumed_by-append state (x ∷ xs) ys = resumed_by-append (resumed c own state x) xs ys

  -- a restart brings back what lasts
  pub restarted-for : (state : State) → restarted (node_for c own state) ≡ node_for c own (lasting state)
  restarted-for Joining = refl
  restarted-for (Following m) = refl
  restarted-for (Leading epoch pending) = refl
  restarted-for Left = refl

-- ---- what fits

module _ (world : World) where
  -- nothing is held
  pub AreHeld-none : (epoch : ℕ) → AreHeld world epoch []
  AreHeld-none epoch = record {
    ascending = tt;
    begun = λ some. absurd (some refl);
    there = tt;
    colours = tt;
    whole = λ region many. absurd (omega (arith, many));
  }

  -- no pending changes can wait
  pub CanWait-none : CanWait world []
  CanWait-none = record {
    reportable = record { pending = record { few = omega arith; distinct = tt }; changes = tt };
    asked = tt;
  }

  -- what lasts of a state that fits does
  pub StateFits-lasting : (own : Own) (state : State) → StateFits world own state → StateFits world own (lasting state)
  StateFits-lasting own Joining fits = tt
  StateFits-lasting own (Following m) fits = record {
    epoch = fits.epoch;
    known = fits.known;
    held = AreHeld-none m.epoch;
    used = fits.used;
    pending = CanWait-none;
    seq = fits.seq;
    past = tt;
  }
  StateFits-lasting own (Leading epoch pending) fits = record { last = fits.last; leads = fits.leads; waiting = CanWait-none }
  StateFits-lasting own Left fits = tt
