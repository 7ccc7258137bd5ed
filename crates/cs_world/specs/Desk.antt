-- What a desk tells of itself, and what it has once links and logs were handed back.
use Rattle.std.specs.Prelude.{◌≡◌, ℕ, ◌≤◌, List, slice_get, Option, Some}
use Rattle.cs_link.specs.Maps.{ById}
use Rattle.cs_link.specs.Sent.{Datagram}
use Rattle.cs_link.specs.declared.grounds.Ground.{Ghosts as GroundGhosts}
use Rattle.cs_world.specs.Seats.{Seated}

-- the logs and the traffic that were handed back, how often granting failed, how often a link or a log that was handed
-- back had failed, and what the links had received
pub record DeskTold : Type 0 where
  pub logs : Option (ById (List ℕ))
  pub traffic : Option (ById (List Datagram))
  pub faults : ℕ
  pub link_faults : ℕ
  pub log_faults : ℕ
  pub taken : ℕ
  pub dry : ℕ

-- links and logs were granted, or could not be, and none was handed back
pub record OnlyGrants (before now : DeskTold) : Type 0 where
  pub counts : before.faults ≤ now.faults
  pub others : now ≡ record before { faults = now.faults }

-- for each seat, what it tells is kept under its id
abbrev pub AreKept : {T : Type 0} → (Seated → Option T) → List Seated → ById T → Type 0
AreKept told seats kept = (place : ℕ) (seat : Seated) → slice_get seats place ≡ Some seat → kept seat.id ≡ told seat

abbrev pub desk_told : {D W S : Type 0} → GroundGhosts D W S → D → DeskTold
desk_told told desk = record {
  logs = told.logs desk;
  traffic = told.traffic desk;
  faults = told.faults desk;
  link_faults = told.link_faults desk;
  log_faults = told.log_faults desk;
  taken = told.taken desk;
  dry = told.dry desk;
}
