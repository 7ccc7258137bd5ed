-- One more datagram: those before it stay.
use Rattle.std.proofs.Common.{◌≡◌, ℕ, ◌-◌, ◌≤◌, List, [], ◌∷◌, ◌++◌, length, map, take, drop, refl, ap, ◌∙◌}
use Rattle.std.proofs.Common.{arith, length-drop}
use Rattle.std.specs.List.{AllByRecursion, slice_range}
use Rattle.std.proofs.lemmas.List.{drop-append-le, map-append, take-append-le}
use Rattle.cs_link.specs.declared.post.Post.{Post}
use Rattle.cs_link.specs.declared.post.Stored.{Stored}
use Rattle.cs_link.specs.declared.post.Stored.TheVariants.{InRoom, Shared}
use Rattle.cs_link.specs.Sent.{Datagram, IsStored, IsWithin, bytes_of, datagram_of, datagrams}

-- a part within some bytes is the same with more behind them
slice_range-front : (bytes more : List ℕ) (start end : ℕ) → start ≤ end → end ≤ length bytes
    → slice_range (bytes ++ more) start end ≡ slice_range bytes start end
slice_range-front bytes more start end le within =
    let before : start ≤ length bytes = omega arith in
    let long : end - start ≤ length (drop start bytes) = omega (arith, length-drop start bytes) in
    ap (take (end - start)) (drop-append-le start bytes more before) ∙ take-append-le (end - start) (drop start bytes) more long

-- so stored bytes are the same with more in the room
stored-stays : (room more : List ℕ) (stored : Stored) → IsStored room stored → bytes_of (room ++ more) stored ≡ bytes_of room stored
stored-stays room more (Shared bytes) within = refl
stored-stays room more (InRoom start end) within = slice_range-front room more start end within.order within.end

-- and the datagrams of all posts
all-stay : (room more : List ℕ) (posts : List Post) → AllByRecursion (IsWithin room) posts → datagrams posts (room ++ more) ≡ datagrams posts room
all-stay room more [] all = refl
all-stay room more (post ∷ posts) all =
    ap (λ (bytes : List ℕ). (post.to, bytes) ∷ map (datagram_of (room ++ more)) posts) (stored-stays room more post.bytes all.0)
    ∙ ap (λ (rest : List Datagram). datagram_of room post ∷ rest) (all-stay room more posts all.1)

-- a post more adds its datagram
pub all-put : (posts : List Post) (post : Post) (room more : List ℕ) → AllByRecursion (IsWithin room) posts
    → datagrams (posts ++ post ∷ []) (room ++ more) ≡ datagrams posts room ++ (post.to, bytes_of (room ++ more) post.bytes) ∷ []
all-put posts post room more all =
    map-append (datagram_of (room ++ more)) posts (post ∷ [])
    ∙ ap (λ sent. sent ++ datagram_of (room ++ more) post ∷ []) (all-stay room more posts all)
