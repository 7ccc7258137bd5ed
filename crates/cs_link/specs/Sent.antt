-- The datagrams that were sent, kept as a post for each.
use Rattle.std.specs.Prelude.{ℕ, ◌-◌, ◌≤◌, List, [], ◌∷◌, ◌++◌, length, map, Option, vec_len, vec_capacity}
use Rattle.std.specs.List.{slice_range}
use Rattle.std.specs.Option.{option_map}
use Rattle.cs_base.specs.Address.{Address}
use Rattle.std.specs.declared.vec.Vec.{Vec}
use Rattle.cs_link.specs.Room.{Room}
use Rattle.bytes.specs.Filled.{Filled}
use Rattle.cs_link.specs.declared.post.Post.{Post}
use Rattle.cs_link.specs.declared.post.Stored.{Stored}
use Rattle.cs_link.specs.declared.post.Stored.TheVariants.{InRoom, Shared}

-- a datagram: where to, and its bytes
abbrev pub Datagram : Type 0
Datagram = Address × List ℕ

-- the datagrams with one more, where they are told
abbrev pub posted : Datagram → Option (List Datagram) → Option (List Datagram)
posted datagram told = option_map (λ sent. sent ++ datagram ∷ []) told

-- bytes as they are stored: shared, or a part of those in the room
abbrev pub bytes_of : List ℕ → Stored → List ℕ
bytes_of room (Shared bytes) = bytes
bytes_of room (InRoom start end) = slice_range room start end

-- where the part begins and ends; of shared bytes it is empty
abbrev pub part_of : Stored → ℕ × ℕ
part_of (Shared bytes) = (0, 0)
part_of (InRoom start end) = (start, end)

-- the part lies within the room
pub record IsStored (room : List ℕ) (stored : Stored) : Type 0 where
  pub order : (part_of stored).0 ≤ (part_of stored).1
  pub end : (part_of stored).1 ≤ length room

-- the datagram of a post
abbrev pub datagram_of : List ℕ → Post → Datagram
datagram_of room post = (post.to, bytes_of room post.bytes)

-- the datagrams of the posts
abbrev pub datagrams : List Post → List ℕ → List Datagram
datagrams posts room = map (datagram_of room) posts

-- the bytes of the post are stored
abbrev pub IsWithin : List ℕ → Post → Type 0
IsWithin room post = IsStored room post.bytes

-- the room behind the posts and behind the bytes
abbrev pub room_of : {A : Type 0} → Vec Post A → Filled → Room
room_of posts room = record {
  pieces = vec_capacity posts - vec_len posts;
  bytes = room.spare;
}
