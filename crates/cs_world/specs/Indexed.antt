-- Where packets are found: by a hash of their address and first bytes.
use Rattle.std.specs.Prelude.{◌≡◌, ℕ, ◌+◌, ◌*◌, ◌%◌, ◌^◌, ◌==◌, ◌&&◌, Bool, true, false, not, List, [], ◌∷◌, take}
use Rattle.std.specs.Option.{option_map_or}
use Rattle.std.specs.BTreeSet.{BTreeSet, contains}
use Rattle.std.specs.declared.cmp.Ordering.{Ordering}
use Rattle.std.specs.Ordering.{nat_cmp, ordering_then}
use Rattle.cs_base.specs.Address.{Address}
use Rattle.cs_world.specs.Sending.{datagram_at}
use Rattle.cs_world.specs.declared.datagram.Datagram.{Datagram}
use Rattle.cs_world.specs.declared.index.Hashed.{Hashed}
use Rattle.cs_world.specs.declared.index.Index.{Index}

-- the hash behind one more number
abbrev pub next_hash : ℕ → ℕ → ℕ
next_hash hash number = (hash * 6364136223846793005 + number + 1) % 2 ^ 64

-- the hash behind bytes
unfoldable pub hash_behind : ℕ → List ℕ → ℕ
hash_behind hash [] = hash
hash_behind hash (byte ∷ bytes) = hash_behind (next_hash hash byte) bytes

-- so many bytes of a packet are hashed at most
abbrev pub most_hashed : ℕ
most_hashed = 32

-- the hash of an address and of the first bytes of a packet
abbrev pub hash_for : Address → List ℕ → ℕ
hash_for addr bytes = hash_behind (next_hash (hash_behind 0 addr.ip) addr.port) (take most_hashed bytes)

-- the order of hashed numbers: by hash, and then by number
abbrev pub hashed_cmp : Hashed → Hashed → Ordering
hashed_cmp a b = ordering_then (nat_cmp a.hash b.hash) (nat_cmp a.number b.number)

-- a datagram has the hash
abbrev pub has_hash : ℕ → Datagram → Bool
has_hash hash datagram = hash_for datagram.addr datagram.bytes == hash

-- a hash and a number stand in the set just where the packet with the number has the hash and passes the test
abbrev pub AreHashed : (Datagram → Bool) → List Datagram → BTreeSet Hashed → Type 0
AreHashed test datagrams set = (hashed : Hashed) → contains hashed_cmp set hashed
    ≡ option_map_or (λ (datagram : Datagram). has_hash hashed.hash datagram && test datagram)
    (datagram_at datagrams hashed.number) false

-- all packets stand in an index, and those that weren't delivered yet
pub record IsIndexOf (datagrams : List Datagram) (index : Index) : Type 0 where
  pub all : AreHashed (λ datagram. true) datagrams index.all
  pub fresh : AreHashed (λ datagram. not datagram.is_delivered) datagrams index.fresh
