-- A log with one more frame is the log of the node that its entry leads to.
use Rattle.std.proofs.Common.{◌≡◌, ℕ, Bool, true, false, ◌+◌, ◌<◌, ◌≤◌, inl, inr, nat_le, if◌then◌else◌, List, [], ◌∷◌, ◌++◌, length, take, Option}
use Rattle.std.proofs.Common.{Some, None, Ok}
use Rattle.std.proofs.Common.{refl, sym, ap, subst, ◌∙◌, arith, length-append, length-take, take_all}
use Rattle.std.proofs.lemmas.Bool.{cases_lt, le-leb, lt-leb}
use Rattle.std.specs.Option.{option_map_or}
use Rattle.std.proofs.lemmas.List.{flat_map_more}
use Rattle.cs_base.proofs.Elements.{All-append}
use Rattle.cs_fields.proofs.Codec.{whole_only}
use Rattle.cs_log.specs.Crash.{MayBeLeft}
use Rattle.cs_log.specs.Frames.{AreFramesOf, Fits, frame, framed, placed}
use Rattle.cs_log.proofs.Left.{part_is_left}
use Rattle.cs_log.proofs.Readings.{frames_are_found, placed-push}
use Rattle.cs_log.proofs.Torn.{part_is_torn}
use Rattle.cs_packet.specs.EntryField.{entry_bytes, entry_of, IsEntry}
use Rattle.cs_packet.specs.declared.entry.Entry.{Entry}
use Rattle.cs_packet.proofs.EntryLaws.{entry_codec, entry_size}
use Rattle.cs_node.specs.Appending.{entry_frame}
use Rattle.cs_lead.specs.Leading.{Leading}
use Rattle.cs_node.specs.Folding.{after_entry, begins_as_base, fold, fold_from, FoldsTo, looked_at, takes_in}
use Rattle.cs_node.specs.Logged.{IsLogOf, restarted}
use Rattle.cs_node.specs.declared.folding.Folded.TheVariants.{Bad, Gives}
use Rattle.cs_node.specs.declared.node.Node.{Node}
use Rattle.cs_node.specs.declared.node.Node.TheVariants as nodes
use Rattle.cs_node.proofs.Bases.{base-again, base-entry, leader-again, seen-base, seen-other, seen_of}
use Rattle.cs_node.proofs.Logs.{log-folds}

-- four bytes can say the length of an entry
pub entry-fits : (entry : Entry) → IsEntry entry → Fits (entry_bytes entry)
entry-fits entry is = omega (arith, entry_size entry is)

-- the frame of an entry is read as it
pub entry-read : (entry : Entry) → IsEntry entry → entry_of (entry_bytes entry) ≡ Ok entry
entry-read entry is = whole_only entry_codec entry is

-- one more frame that goes on
fold-more : (before : Node) (frames : List (ℕ × List ℕ)) (place : ℕ) (payload : List ℕ) (node next : Node)
    → fold_from before frames ≡ Gives node → takes_in (Some node) (entry_of payload) ≡ Some next
    → fold_from before (frames ++ (place, payload) ∷ []) ≡ Gives next
fold-more before [] place payload node next gives goes =
    let same : before ≡ node = let e = gives in cc in
    let on : takes_in (Some before) (entry_of payload) ≡ Some next = ap (λ n. takes_in (Some n) (entry_of payload)) same ∙ goes in
    ap (λ o. option_map_or (λ (n : Node). fold_from n []) o (Bad place)) on
fold-more before (first ∷ frames) place payload node next gives goes =
    go (takes_in (Some before) (entry_of first.1)) gives (λ n is. fold-more n frames place payload node next is goes)
  where
    go : (o : Option Node) → option_map_or (λ (n : Node). fold_from n frames) o (Bad first.0) ≡ Gives node
        → ((n : Node) → fold_from n frames ≡ Gives node → fold_from n (frames ++ (place, payload) ∷ []) ≡ Gives next)
        → option_map_or (λ (n : Node). fold_from n (frames ++ (place, payload) ∷ [])) o (Bad first.0) ≡ Gives next
    go None is later = absurd (let e = is in cc)
    go (Some n) is later = later n is

module _ (frames : List (ℕ × List ℕ)) (place : ℕ) (entry : Entry) (node next : Node) (is : IsEntry entry) (goes : after_entry node entry ≡ Some next) where
  -- the entry as a frame goes on
  goes-read : takes_in (Some node) (entry_of (entry_bytes entry)) ≡ Some next
  goes-read = ap (takes_in (Some node)) (entry-read entry is) ∙ goes

  -- behind a leader's start it is looked at: alone where it is a base, which reads of the leader only who it is
  more-led : (leader : Leading) → fold_from (nodes.Leader leader) (seen_of frames) ≡ Gives node
      → fold_from (nodes.Leader leader) (seen_of (frames ++ (place, entry_bytes entry) ∷ [])) ≡ Gives next
  more-led leader gives = by (begins_as_base (entry_bytes entry)) refl
    where
      by : (b : Bool) → begins_as_base (entry_bytes entry) ≡ b
          → fold_from (nodes.Leader leader) (seen_of (frames ++ (place, entry_bytes entry) ∷ [])) ≡ Gives next
      by true base =
          let same = leader-again leader (seen_of frames) node gives in
          let here : after_entry (nodes.Leader leader) entry ≡ Some next =
          base-again leader same.0 entry (base-entry entry base) (sym same.2) ∙ ap (λ n. after_entry n entry) (sym same.1) ∙ goes in
          let read : takes_in (Some (nodes.Leader leader)) (entry_of (entry_bytes entry)) ≡ Some next =
          ap (takes_in (Some (nodes.Leader leader))) (entry-read entry is) ∙ here in
          ap (fold_from (nodes.Leader leader)) (seen-base frames (place, entry_bytes entry) base)
          ∙ ap (λ o. option_map_or (λ (n : Node). fold_from n []) o (Bad place)) read
      by false other =
          ap (fold_from (nodes.Leader leader)) (seen-other frames (place, entry_bytes entry) other)
          ∙ fold-more (nodes.Leader leader) (seen_of frames) place (entry_bytes entry) node next gives goes-read

  more-looked_at : (start : Node) → fold_from start (looked_at start frames) ≡ Gives node
      → fold_from start (looked_at start (frames ++ (place, entry_bytes entry) ∷ [])) ≡ Gives next
  more-looked_at (nodes.Follower f) gives = fold-more (nodes.Follower f) frames place (entry_bytes entry) node next gives goes-read
  more-looked_at (nodes.Leader leader) gives = more-led leader gives
  more-looked_at nodes.Left gives = fold-more nodes.Left frames place (entry_bytes entry) node next gives goes-read

-- so a log with one more entry that goes on gives the next node
fold-entry : (frames : List (ℕ × List ℕ)) (place : ℕ) (entry : Entry) (node next : Node) → IsEntry entry → fold frames ≡ Gives node
    → after_entry node entry ≡ Some next → fold (frames ++ (place, entry_bytes entry) ∷ []) ≡ Gives next
fold-entry [] place entry node next is gives goes = absurd (let e = gives in cc)
fold-entry (first ∷ frames) place entry node next is gives goes = go (takes_in None (entry_of first.1)) gives
  where
    go : (o : Option Node) → option_map_or (λ (n : Node). fold_from n (looked_at n frames)) o (Bad first.0) ≡ Gives node
        → option_map_or (λ (n : Node). fold_from n (looked_at n (frames ++ (place, entry_bytes entry) ∷ []))) o (Bad first.0) ≡ Gives next
    go None from = absurd (let e = from in cc)
    go (Some start) from = more-looked_at frames place entry node next is goes start from

-- the payloads of a log with one more entry lead to the next node
more-gives : (payloads : List (List ℕ)) (entry : Entry) (node next : Node) → IsEntry entry
    → fold (placed 0 payloads) ≡ Gives (restarted node) → after_entry (restarted node) entry ≡ Some (restarted next)
    → fold (placed 0 (payloads ++ entry_bytes entry ∷ [])) ≡ Gives (restarted next)
more-gives payloads entry node next is gives goes =
    ap fold (placed-push 0 payloads (entry_bytes entry))
    ∙ fold-entry (placed 0 payloads) (0 + length (framed payloads)) entry (restarted node) (restarted next) is gives goes

-- the log with the frame behind, all of it synced
pub entered : (synced synced_now : ℕ) (bytes : List ℕ) (node next : Node) (entry : Entry) → IsLogOf synced bytes node → IsEntry entry
    → after_entry (restarted node) entry ≡ Some (restarted next) → synced_now ≡ length (bytes ++ entry_frame entry)
    → IsLogOf synced_now (bytes ++ entry_frame entry) next
entered synced synced_now bytes node next entry log is goes all = record {
  payloads = log.payloads ++ entry_bytes entry ∷ [];
  fit = All-append Fits log.payloads (entry_bytes entry ∷ []) log.fit (entry-fits entry is, tt);
  whole = ap (λ (b : List ℕ). b ++ entry_frame entry) log.whole ∙ flat_map_more frame [] log.payloads (entry_bytes entry);
  all = all;
  gives = more-gives log.payloads entry node next is log.gives goes;
}

-- a part of the frame behind, which gives the node before
part-folds : (synced : ℕ) (bytes : List ℕ) (node : Node) (entry : Entry) (m : ℕ) (left : List ℕ) → IsLogOf synced bytes node → IsEntry entry
    → m < length (entry_frame entry) → left ≡ bytes ++ take m (entry_frame entry) → FoldsTo left (Gives (restarted node))
part-folds synced bytes node entry m left log is short same =
    let behind = take m (entry_frame entry) in
    let from : left ≡ framed log.payloads ++ behind = same ∙ ap (λ (b : List ℕ). b ++ behind) log.whole in (
      placed 0 log.payloads,
      subst (λ b. AreFramesOf b (placed 0 log.payloads)) (sym from)
          (frames_are_found log.payloads behind log.fit (part_is_torn (entry_bytes entry) m (entry-fits entry is) short)),
      log.gives,
    )

-- the whole frame behind, which gives the next node
whole-folds : (synced : ℕ) (bytes : List ℕ) (node next : Node) (entry : Entry) (m : ℕ) (left : List ℕ) → IsLogOf synced bytes node
    → IsEntry entry → after_entry (restarted node) entry ≡ Some (restarted next) → length (entry_frame entry) ≤ m
    → left ≡ bytes ++ take m (entry_frame entry) → FoldsTo left (Gives (restarted next))
whole-folds synced bytes node next entry m left log is goes long same =
    let all : left ≡ bytes ++ entry_frame entry = same ∙ ap (λ (behind : List ℕ). bytes ++ behind) (take_all m (entry_frame entry) long) in
    subst (λ b. FoldsTo b (Gives (restarted next))) (sym all)
    (log-folds _ (bytes ++ entry_frame entry) next (entered synced _ bytes node next entry log is goes refl))

-- the log with a part of the frame behind, none of which is synced: a crash leaves the log of the node before, or of the next one
-- where the whole frame is left
pub partly-entered : (synced : ℕ) (bytes : List ℕ) (node next : Node) (entry : Entry) (n : ℕ) (left : List ℕ) → IsLogOf synced bytes node
    → IsEntry entry → after_entry (restarted node) entry ≡ Some (restarted next)
    → MayBeLeft synced (bytes ++ take n (entry_frame entry)) left
    → FoldsTo left (Gives (restarted (if nat_le (length bytes + length (entry_frame entry)) (length left) then next else node)))
partly-entered synced bytes node next entry n left log is goes may =
    let piece = entry_frame entry in
    let part = part_is_left bytes piece left n (subst (λ k. MayBeLeft k (bytes ++ take n piece) left) log.all may) in
    let long : length left ≡ length bytes + length (take part.0 piece) = ap length part.1 ∙ length-append bytes (take part.0 piece) in
    elim (cases_lt part.0 (length piece)) [
      | inl short ↦ subst (λ b. FoldsTo left (Gives (restarted (if b then next else node))))
          (sym (lt-leb (length bytes + length piece) (length left) (omega (arith, short, long, length-take part.0 piece))))
          (part-folds synced bytes node entry part.0 left log is short part.1)
      | inr whole ↦ subst (λ b. FoldsTo left (Gives (restarted (if b then next else node))))
          (sym (le-leb (length bytes + length piece) (length left) (omega (arith, whole, long, length-take part.0 piece))))
          (whole-folds synced bytes node next entry part.0 left log is goes whole part.1)
    ]
