-- Packets that are told and kept one after another, as a link has them.
use Rattle.std.proofs.Common.{◌≡◌, ◌∙◌, ℕ, zero, suc, ◌+◌, ◌-◌, ◌<◌, ◌≤◌, List, [], ◌∷◌, ◌++◌, length, map, take, get_or, slice_get}
use Rattle.std.proofs.Common.{Option, Some, None, inl, inr, refl, sym, ap, subst, arith, append-nil, append_assoc}
use Rattle.std.specs.Option.{option_map}
use Rattle.std.proofs.lemmas.List.{length-append, length-map, map-append, take_all, take_more}
use Rattle.std.proofs.lemmas.Option.{none-some, same_Some, slice_get_cases, slice_get_within}
use Rattle.cs_base.specs.Address.{Address}
use Rattle.cs_link.specs.Sent.{Datagram}
use Rattle.cs_node.specs.Posting.{datagrams_of}
use Rattle.cs_packet.specs.PacketField.{IsPacket, packet_bytes}
use Rattle.cs_packet.specs.declared.packet.Packet.{Packet}
use Rattle.cs_show.specs.Text.{text_of}
use Rattle.cs_world.specs.Posting.{ArePackets, IsPostFault, IsSentBehind, Posts, sent_line, sent_lines}
use Rattle.cs_world.specs.Sending.{bytes_in, datagram_of}
use Rattle.cs_world.specs.declared.fault.WorldFault.{WorldFault}
use Rattle.cs_world.specs.declared.fault.WorldFault.TheVariants.{Limit, Link, Log, Memory}
use Rattle.cs_world.specs.declared.telling.Telling.{Telling}
use Rattle.cs_world.specs.declared.traffic.Traffic.{Traffic}
use Rattle.cs_world.proofs.SentLines.{numbered_text-append}
use Rattle.cs_world.proofs.Traffics.{at-append, bytes-append, bytes-within}

-- nothing is told and kept
pub posts-none : (telling : Telling) (traffic : Traffic) (said : List ℕ) → Posts telling [] traffic traffic said said
posts-none telling traffic said = record {
  text = sym (append-nil said);
  datagrams = sym (append-nil traffic.datagrams.items);
  bytes = omega arith;
  front = refl;
}

-- so many are kept then
kept-count : (telling : Telling) (sends : List (Address × Packet)) (a b : Traffic) (s t : List ℕ) → Posts telling sends a b s t
    → length b.datagrams.items + 1 ≡ (length a.datagrams.items + 1) + length sends
kept-count telling sends a b s t posts =
    let all = ap length posts.datagrams ∙ length-append a.datagrams.items (map datagram_of sends) in
    let kept : length (map datagram_of sends) ≡ length sends = length-map sends datagram_of in
    omega (arith, all, kept)

-- some, and then more
pub posts-append : (telling : Telling) (sends more : List (Address × Packet)) (a b c : Traffic) (s t u : List ℕ)
    → Posts telling sends a b s t → Posts telling more b c t u → Posts telling (sends ++ more) a c s u
posts-append telling sends more a b c s t u first second =
    let number = length a.datagrams.items + 1 in
    let behind = text_of (sent_lines telling (number + length sends) more) in
    record {
      text = second.text
          ∙ ap (λ n. t ++ text_of (sent_lines telling n more)) (kept-count telling sends a b s t first)
          ∙ ap (λ (said : List ℕ). said ++ behind) first.text
          ∙ append_assoc s (text_of (sent_lines telling number sends)) behind
          ∙ ap (λ (said : List ℕ). s ++ said) (sym (numbered_text-append (sent_line telling) number sends more));
      datagrams = second.datagrams
          ∙ ap (λ items. items ++ map datagram_of more) first.datagrams
          ∙ append_assoc a.datagrams.items (map datagram_of sends) (map datagram_of more)
          ∙ ap (λ items. a.datagrams.items ++ items) (sym (map-append datagram_of sends more));
      bytes = (let one = first.bytes in let two = second.bytes in omega (arith, one, two, bytes-append sends more));
      front = second.front ∙ first.front;
    }

-- the packet whose datagram stands at a place of those that were sent
pub record SentAt (sends : List (Address × Packet)) (place : ℕ) (datagram : Datagram) : Type 0 where
  pub send : Address × Packet
  pub within : place < length sends
  pub at : send ≡ get_or sends place send
  pub packet : IsPacket send.1
  pub address : datagram.0 ≡ send.0
  pub bytes : datagram.1 ≡ packet_bytes send.1

-- there is one at each place with a datagram
sent-at : (sends : List (Address × Packet)) (place : ℕ) (datagram : Datagram) → ArePackets sends
    → slice_get (datagrams_of sends) place ≡ Some datagram → SentAt sends place datagram
sent-at [] place datagram are at = absurd (none-some datagram at)
sent-at (send ∷ sends) zero datagram are at =
    let same = same_Some (send.0, packet_bytes send.1) datagram at in
    record {
      send = send;
      within = omega arith;
      at = refl;
      packet = are.0;
      address = sym (ap (λ (d : Datagram). d.0) same);
      bytes = sym (ap (λ (d : Datagram). d.1) same);
    }
sent-at (send ∷ sends) (suc place) datagram are at =
    let there = sent-at sends place datagram are.1 at in
    record {
      send = there.send;
      within = (let below = there.within in omega (arith, below));
      at = there.at;
      packet = there.packet;
      address = there.address;
      bytes = there.bytes;
    }

module _ (sends : List (Address × Packet)) (earlier place : ℕ) (sent : Option (List Datagram)) (are : ArePackets sends)
    (behind : IsSentBehind earlier sends sent) (from : earlier ≤ place) where
  -- what a link has at a place behind the earlier ones is the datagram of a packet
  pub sent-behind : (datagram : Datagram) (at : Some (Some datagram) ≡ option_map (λ ds. slice_get ds place) sent)
      → SentAt sends (place - earlier) datagram
  sent-behind datagram at =
      let here : slice_get (behind.0 ++ datagrams_of sends) place ≡ Some datagram =
      sym (same_Some (Some datagram) (slice_get (behind.0 ++ datagrams_of sends) place)
      (at ∙ ap (option_map (λ ds. slice_get ds place)) behind.2)) in
      elim (at-append behind.0 (datagrams_of sends) place datagram here) [
        | inl there ↦
            let below = slice_get_within behind.0 place datagram there in
            let long = behind.1 in absurd (omega (arith, below, long, from))
        | inr (past, there) ↦
            sent-at sends (place - earlier) datagram are (subst (λ n. slice_get (datagrams_of sends) (place - n) ≡ Some datagram) behind.1 there)
      ]

  -- so one packet more is told and kept
  pub posts-more : (telling : Telling) (datagram : Datagram) (there : SentAt sends (place - earlier) datagram) (a b c : Traffic) (s t u : List ℕ)
      → Posts telling (take (place - earlier) sends) a b s t → Posts telling ((datagram.0, there.send.1) ∷ []) b c t u
      → Posts telling (take (place + 1 - earlier) sends) a c s u
  posts-more telling datagram there a b c s t u first second =
      let next : place + 1 - earlier ≡ (place - earlier) + 1 = omega (arith, from) in
      let one : take (place - earlier) sends ++ there.send ∷ [] ≡ take (place + 1 - earlier) sends =
      ap (λ (x : Address × Packet). take (place - earlier) sends ++ x ∷ []) there.at
      ∙ sym (take_more sends (place - earlier) there.send there.within) ∙ ap (λ n. take n sends) (sym next) in
      subst (λ all. Posts telling all a c s u) one
      (posts-append telling (take (place - earlier) sends) (there.send ∷ []) a b c s t u first
      (subst (λ (addr : Address). Posts telling ((addr, there.send.1) ∷ []) b c t u) there.address second))

  -- or there is the fault of all of them
  pub fault-more : (telling : Telling) (datagram : Datagram) (there : SentAt sends (place - earlier) datagram) (a b : Traffic) (s t : List ℕ)
      (fault : WorldFault)
      → Posts telling (take (place - earlier) sends) a b s t → IsPostFault b ((datagram.0, there.send.1) ∷ []) fault → IsPostFault a sends fault
  fault-more telling datagram there a b s t Limit first beyond =
      let so_far = first.bytes in
      let one : bytes_in ((datagram.0, there.send.1) ∷ []) ≡ length (packet_bytes there.send.1) = omega arith in
      let within = bytes-within sends (place - earlier) there.send there.within there.at in
      omega (arith, beyond, so_far, one, within)
  fault-more telling datagram there a b s t Link first none = none
  fault-more telling datagram there a b s t Log first none = none
  fault-more telling datagram there a b s t Memory first any = tt

-- a link that has nothing at a place has sent no more than so many
pub past-sent : (place : ℕ) (sent : Option (List Datagram)) (count : ℕ) → Some count ≡ option_map length sent → place < count
    → Some None ≡ option_map (λ ds. slice_get ds place) sent → ⊥
past-sent place None count is below at = none-some count (sym is)
past-sent place (Some ds) count is below at =
    let long = same_Some count (length ds) is in
    let none = same_Some None (slice_get ds place) at in
    elim (slice_get_cases ds place).1 [
      | inl there ↦ none-some there.0 (none ∙ there.2)
      | inr past ↦ absurd (let far = past.0 in omega (arith, long, below, far))
    ]

-- behind the last of them all are told and kept
pub posts-all : (telling : Telling) (sends : List (Address × Packet)) (earlier place count : ℕ) (sent : Option (List Datagram))
    → IsSentBehind earlier sends sent → Some count ≡ option_map length sent → count ≤ place → (a b : Traffic) (s t : List ℕ)
    → Posts telling (take (place - earlier) sends) a b s t → Posts telling sends a b s t
posts-all telling sends earlier place count sent behind is past a b s t posts =
    let long = same_Some count (length (behind.0 ++ datagrams_of sends)) (is ∙ ap (option_map length) behind.2) in
    let both = length-append behind.0 (datagrams_of sends) in
    let same : length (datagrams_of sends) ≡ length sends = length-map sends (λ (send : Address × Packet). (send.0, packet_bytes send.1)) in
    let first = behind.1 in
    let all : length sends ≤ place - earlier = omega (arith, long, both, same, first, past) in
    subst (λ taken. Posts telling taken a b s t) (take_all (place - earlier) sends all) posts
