-- What a log and a link tell of themselves.
use Rattle.std.specs.Prelude.{ℕ, List, Option}
use Rattle.cs_link.specs.Sent.{Datagram}
use Rattle.cs_link.specs.declared.link.Link.{Ghosts as LinkGhosts}
use Rattle.cs_log.specs.declared.armed.Tear.{Tear}
use Rattle.cs_log.specs.declared.log.Log.{Ghosts as LogGhosts}

-- its bytes and how many of them are synced, how often it failed, how often by itself, and what is armed
pub record LogTold : Type 0 where
  pub bytes : Option (List ℕ)
  pub synced : ℕ
  pub faults : ℕ
  pub own_faults : ℕ
  pub tear : Tear

-- what was sent and what waits, and how often it failed, received something and had nothing waiting
pub record LinkTold : Type 0 where
  pub sent : Option (List Datagram)
  pub waiting : Option (List (List ℕ))
  pub faults : ℕ
  pub taken : ℕ
  pub dry : ℕ

abbrev pub log_told : {G : Type 0} → LogGhosts G → G → LogTold
log_told told log = record {
  bytes = told.bytes log;
  synced = told.synced log;
  faults = told.faults log;
  own_faults = told.own_faults log;
  tear = told.tear log;
}

abbrev pub link_told : {L : Type 0} → LinkGhosts L → L → LinkTold
link_told told link = record {
  sent = told.sent link;
  waiting = told.waiting link;
  faults = told.faults link;
  taken = told.taken link;
  dry = told.dry link;
}
