-- The calls of links and of logs that are to fail, named by node, and a link and a log that fail at some.
use Rattle.std.specs.Prelude.{◌≡◌, ℕ, List, [], map, filter, ◌==◌}
use Rattle.cs_link.specs.Sent.{datagrams}
use Rattle.cs_link.specs.declared.failing.Failing.{Failing}
use Rattle.cs_link.specs.declared.mem_link.MemLink.{MemLink}
use Rattle.cs_log.specs.declared.memory.MemLog.{MemLog}

-- the numbers of the calls that are named of a node, in the order in which they were named
abbrev pub calls_of : ℕ → List Failing → List ℕ
calls_of id failing = map (λ f. f.call) (filter (λ f. f.id == id) failing)

-- a link that fails at these calls, none of which was made: nothing was sent or received, and nothing waits
pub record IsNewLink (failing : List ℕ) (link : MemLink) : Type 0 where
  pub fails : link.calls.failing.items ≡ failing
  pub count : link.calls.count ≡ 0
  pub faults : link.calls.faults ≡ 0
  pub sent : datagrams link.link.outbox.posts.items link.link.outbox.room.items ≡ []
  pub waiting : link.link.inbox.waiting.items ≡ []
  pub taken : link.link.inbox.taken ≡ 0
  pub dry : link.link.inbox.dry ≡ 0

-- a log that fails at these calls, none of which was made: it has no bytes
pub record IsNewLog (failing : List ℕ) (log : MemLog) : Type 0 where
  pub fails : log.calls.failing.items ≡ failing
  pub count : log.calls.count ≡ 0
  pub faults : log.calls.faults ≡ 0
  pub bytes : log.log.bytes.items ≡ []
