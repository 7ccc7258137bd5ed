-- A piece or a slice that comes to a node keeps what every reached world has: what the node gains fits, what it passes on
-- is sent to nodes that are there, and so are the steps of a delivery.
use Rattle.std.proofs.Common.{◌≡◌, Bool, ℕ, ◌+◌, ◌-◌, ◌≤◌, ◌<◌, ◌==◌, ◌&&◌, false, true, not, nat_le, nat_lt, List, length, map}
use Rattle.std.proofs.Common.{Option, Some, None}
use Rattle.std.proofs.Common.{[], ◌∷◌, ◌≢◌, ◌∙◌, refl, sym, ap, subst, arith, IfSome}
use Rattle.std.specs.List.{AllByRecursion, filter, flat_map, range_with_len}
use Rattle.std.proofs.lemmas.Bool.{cond_both, eqb-false, false≢true, leb-false, ltb-false}
use Rattle.cs_base.specs.Limits.{colours}
use Rattle.cs_base.proofs.Ascending.{All-of_filter, All-placed, IsAscendingBy-filter, IsAscendingBy-placed}
use Rattle.cs_base.proofs.Elements.{All-find, All-weaker}
use Rattle.cs_core.specs.Node.{has_pair}
use Rattle.cs_group.specs.Group.{GroupState, is_among}
use Rattle.cs_group.specs.Rows.{regions}
use Rattle.cs_group.specs.declared.next.Turn.{Turn}
use Rattle.cs_group.proofs.Cutting.{is_among-placed_itself}
use Rattle.cs_group.proofs.Lists.{ByRecursion-map}
use Rattle.cs_item.specs.declared.picture.Picture.{Picture}
use Rattle.cs_node.specs.declared.note.Note.TheVariants as notes
use Rattle.cs_packet.specs.declared.own.Own.{Own}
use Rattle.cs_slicer.specs.Head.{is_same_kind, left_in, touched_in}
use Rattle.cs_slicer.specs.Part.{part_in}
use Rattle.cs_slicer.specs.Projection.{image, reached as reaches_of}
use Rattle.cs_tree.specs.Route.{Target, route}
use Rattle.cs_tree.specs.Seen.{IsSeen}
use Rattle.cs_tree.proofs.SeenTargets.{seen-route}
use Rattle.cs_machine.specs.Answers.{ForSlice, ForSnapshot}
use Rattle.cs_machine.specs.Contents.{Contents, contents_of, group_of, items, turn_of, view_at}
use Rattle.cs_machine.specs.Entries as entries
use Rattle.cs_machine.specs.Held.{Gain, are_whole, gain_of_piece, gain_of_slice, is_whole, least_whole}
use Rattle.cs_machine.specs.Machine.{deliver_step, piece_comes, slice_comes}
use Rattle.cs_machine.specs.Names.{Name, Report, Piece, Need, Slice, Ask, Snap, Bye, State, Joining, Following, Leading, Left, Membership, Node, Past}
use Rattle.cs_machine.specs.Names.{World}
use Rattle.cs_machine.specs.Pieces.{already, early, late_piece, next_piece, next_slice, passes, piece_step, slice_step, stale}
use Rattle.cs_machine.specs.Progress.{advances, departs, gain_sends, gain_step, goes_on, holds, needed, progress, stepped}
use Rattle.cs_machine.specs.Reached.{AreHeld, AreRegionsOf, IsLogged, IsPast, IsPieceOf, IsReached, IsSliceOf, IsStarted, MemberFits, NameStands, StateFits}
use Rattle.cs_machine.specs.Restoring.{lasting, resumed_by}
use Rattle.cs_machine.specs.Snapshots.{known_from, untold}
use Rattle.cs_machine.specs.Step.{Step, passed_on}
use Rattle.cs_machine.proofs.Groups.{AreRegionsOf-known_by, AreRegionsOf-regions}
use Rattle.cs_machine.proofs.HeldFits.{KeepsHeld, keeps-slice}
use Rattle.cs_machine.proofs.ReachedAnswers.{IsQuiet-bye, IsQuiet-wish}
use Rattle.cs_machine.proofs.ReachedSlices.{AreSlices-there, IsBody-piece, IsPicture-there, turn-there}
use Rattle.cs_machine.proofs.Lasts.{AreHeld-none}
use Rattle.cs_machine.proofs.ReachedSteps.{IsQuiet, IsQuiet-report, IsQuiet-snapshot, IsQuiet-stays}
use Rattle.cs_machine.proofs.ReachedTargets.{All-flat_map-where, AreSends-pieces, AreSent-sends, IsNodeThere, IsNodeThere-seen, IsSend}

-- some of a group's regions are regions of it
AreRegionsOf-filter : (g : GroupState) (p : ℕ → Bool) (known : List ℕ) → AreRegionsOf g known → AreRegionsOf g (filter p known)
AreRegionsOf-filter g p known are = record {
  ascending = IsAscendingBy-filter (λ n. n) p known are.ascending;
  there = All-of_filter (λ region. is_among (regions g.rows) region ≡ true) p known are.there;
}

-- each colour is one of the four
pub colours-below : AllByRecursion (λ n. n < colours) (range_with_len 0 colours)
colours-below = (omega arith, (omega arith, (omega arith, (omega arith, tt))))

-- what a member gains fits: what it holds then, and the pieces that it passes on
pub record IsGain (world : World) (m : Membership) (gain : Gain) : Type 0 where
  pub begun : m.epoch < length (items world)
  pub held : AreHeld world m.epoch gain.held
  pub pieces : AllByRecursion (IsPieceOf world (m.epoch + 1) gain.region) gain.colours

module _ (world : World) (reached : IsReached world) (node : Node) (is : IsStarted world node) where
  abbrev own : Own
  own = node.own

  abbrev c : Contents
  c = contents_of world

  -- a piece that is passed on is sent to nodes
  AreSends-passed : (epoch : ℕ) (known : List ℕ) (given region colour : ℕ) → IsPieceOf world given region colour
      → AllByRecursion (IsSend world reached own.id) (passed_on c own.id epoch known given region colour)
  AreSends-passed epoch known given region colour piece =
      let view : Picture = view_at c epoch known in
      let targets : List Target = route own.id view.summaries view.rolls region colour in
      AreSends-pieces world reached own.id given region colour targets is.allowed.id piece
      (IsBody-piece world reached is.leader is.led given region colour piece)
      (All-weaker (IsSeen view.summaries view.rolls) (IsNodeThere world) (IsNodeThere-seen world reached epoch known) targets
      (seen-route view.summaries view.rolls own.id region colour))

  -- and so are several
  AreSends-all : (epoch : ℕ) (known : List ℕ) (region : ℕ) (some : List ℕ) → AllByRecursion (IsPieceOf world (epoch + 1) region) some
      → AllByRecursion (IsSend world reached own.id) (flat_map (passed_on c own.id epoch known (epoch + 1) region) some)
  AreSends-all epoch known region some all =
      All-flat_map-where (IsSend world reached own.id) (IsPieceOf world (epoch + 1) region) (passed_on c own.id epoch known (epoch + 1) region)
      (AreSends-passed epoch known (epoch + 1) region) some all

  module _ (m : Membership) (fits : MemberFits world m) where
    -- ---- gains

    module _ (gain : Gain) (gains : IsGain world m gain) where
      -- the member holds what came
      IsQuiet-holds : IsQuiet world own (Following m) (holds c own m gain)
      IsQuiet-holds = record {
        no_items = refl;
        state = record {
          epoch = fits.epoch;
          known = fits.known;
          held = gains.held;
          used = fits.used;
          pending = fits.pending;
          seq = fits.seq;
          past = fits.past;
        };
        entry = tt;
        lasts = refl;
        rises = λ n at. at;
        sends = AreSent-sends world reached own.id (gain_sends c own m gain) (AreSends-all m.epoch m.known gain.region gain.colours gains.pieces);
      }

      -- the least whole region is one of the group
      whole-there : (w : ℕ) → least_whole gain.held ≡ Some w → is_among (regions (group_of world m.epoch).rows) w ≡ true
      whole-there w found =
          let There : ℕ → Type 0 = λ region. is_among (regions (group_of world m.epoch).rows) region ≡ true in
          let first = λ (pair : ℕ × ℕ). pair.0 in
          All-find There (is_whole gain.held) (map first gain.held) w (ByRecursion-map first There gain.held gains.held.there) found

      -- so the needed ones are
      AreRegionsOf-needed : (w : ℕ) → least_whole gain.held ≡ Some w → AreRegionsOf (group_of world m.epoch) (needed c m w)
      AreRegionsOf-needed w found =
          let g : GroupState = group_of world m.epoch in
          let turn : Turn = turn_of world (m.epoch + 1) in
          let touched : AreRegionsOf g (touched_in g turn) =
          AreRegionsOf-filter g (λ region. not (is_same_kind (part_in g turn region).kind)) (regions g.rows) (AreRegionsOf-regions g) in
          let known : List ℕ = filter (is_among m.known) (touched_in g turn) in
          let are = AreRegionsOf-filter g (is_among m.known) (touched_in g turn) touched in
          record {
            ascending = IsAscendingBy-placed (λ region. region) w known are.ascending;
            there = All-placed (λ region. region) (λ region. is_among (regions g.rows) region ≡ true) w known (whole-there w found) are.there;
          }

      -- the least whole region is one of them
      some-needed : (w : ℕ) → needed c m w ≢ []
      some-needed w none =
          let known : List ℕ = filter (is_among m.known) (touched_in (c.group m.epoch) (c.turn (m.epoch + 1))) in
          false≢true (ap (λ ns. is_among ns w) (sym none) ∙ is_among-placed_itself w known)

      -- the next epoch has begun
      next_begun : m.epoch + 1 ≤ length (items world)
      next_begun = (let lt = gains.begun in omega (arith, lt))

      -- the regions that the member knows then are of the next group
      AreRegionsOf-image : AreRegionsOf (group_of world (m.epoch + 1)) (image (c.group m.epoch) (c.turn (m.epoch + 1)) m.known own.id own.mode)
      AreRegionsOf-image =
          let g : GroupState = group_of world m.epoch in
          let turn : Turn = turn_of world (m.epoch + 1) in
          let made = turn-there world reached is.leader is.led (m.epoch + 1) (omega arith) next_begun in
          let there : List ℕ = reaches_of g turn m.known in
          subst (λ (h : GroupState). AreRegionsOf h (image g turn m.known own.id own.mode)) made.group
          (AreRegionsOf-known_by turn.group own.id own.mode there
          (AreRegionsOf-filter turn.group _ (regions turn.group.rows) (AreRegionsOf-regions turn.group)))

      -- the slices by which the member goes there are of regions of its group
      IsLogged-stepped : (used : List ℕ) → used ≢ [] → AreRegionsOf (group_of world m.epoch) used
          → IsLogged world (entries.Step (m.epoch + 1) used)
      IsLogged-stepped used some are =
          let before : m.epoch ≡ m.epoch + 1 - 1 = omega arith in
          let of_group = subst (λ n. AreRegionsOf (group_of world n) used) before are in
          record {
            fits = (omega arith, next_begun, of_group);
            formed = AreSlices-there world reached is.leader is.led (m.epoch + 1) used (omega arith) next_begun some of_group;
          }

      -- an item retires the node at an epoch that has begun
      IsLogged-departs : IsLogged world (entries.Gone (m.epoch + 1))
      IsLogged-departs = record { fits = tt; formed = (omega arith, omega (arith, next_begun, reached.epochs)) }

      -- the member of the next epoch fits
      MemberFits-stepped : (used : List ℕ) → AreRegionsOf (group_of world m.epoch) used → MemberFits world (stepped c own m gain used)
      MemberFits-stepped used are =
          let before : m.epoch ≡ m.epoch + 1 - 1 = omega arith in
          record {
            epoch = next_begun;
            known = AreRegionsOf-image;
            held = AreHeld-none world (m.epoch + 1);
            used = record {
              later = λ some. omega arith;
              regions = subst (λ n. AreRegionsOf (group_of world n) used) before are;
            };
            pending = fits.pending;
            seq = fits.seq;
            past = record {
              later = omega arith;
              known = subst (λ n. AreRegionsOf (group_of world n) m.known) before fits.known;
            };
          }

      -- the entry of the step says what lasts of it
      lasts-stepped : (used : List ℕ)
          → lasting (Following (stepped c own m gain used))
          ≡ resumed_by c own (lasting (Following m)) (entries.Step (m.epoch + 1) used ∷ [])
      lasts-stepped used =
          let before : m.epoch ≡ m.epoch + 1 - 1 = omega arith in
          λ i. lasting (Following (record (stepped c own m gain used) {
            known = image (c.group (before i)) (c.turn (m.epoch + 1)) m.known own.id own.mode;
          }))

      -- so the member goes on, or has left
      IsQuiet-goes_on : (used : List ℕ) → used ≢ [] → AreRegionsOf (group_of world m.epoch) used
          → IsQuiet world own (Following m) (goes_on c own m gain used)
      IsQuiet-goes_on used some are =
          let sends = AreSent-sends world reached own.id (gain_sends c own m gain) (AreSends-all m.epoch m.known gain.region gain.colours gains.pieces) in
          cond_both (is_among (left_in (c.group m.epoch) (c.group (m.epoch + 1))) own.id) (departs c own m gain) (advances c own m gain used)
          (IsQuiet world own (Following m))
          (λ _. record { no_items = refl; state = tt; entry = (IsLogged-departs, tt); lasts = refl; rises = λ n at. tt; sends = sends })
          (λ _. record {
            no_items = refl;
            state = MemberFits-stepped used are;
            entry = (IsLogged-stepped used some are, tt);
            lasts = lasts-stepped used;
            rises = λ n at. omega (arith, at);
            sends = sends;
          })

      -- what the member does with what it gained
      pub IsQuiet-gain : IsQuiet world own (Following m) (gain_step c own m gain)
      IsQuiet-gain = by (least_whole gain.held) refl
        where
          by : (o : Option ℕ) → least_whole gain.held ≡ o → IsQuiet world own (Following m) (progress c own m gain o)
          by None e = IsQuiet-holds
          by (Some w) e =
              cond_both (are_whole gain.held (needed c m w)) (goes_on c own m gain (needed c m w)) (holds c own m gain)
              (IsQuiet world own (Following m))
              (λ _. IsQuiet-goes_on (needed c m w) (some-needed w) (AreRegionsOf-needed w e)) (λ _. IsQuiet-holds)

    -- ---- pieces

    -- the pieces that became held with a piece are of its epoch and its region
    IsGain-piece : (region colour : ℕ) → KeepsHeld world → has_pair m.held region colour ≡ false → IsPieceOf world (m.epoch + 1) region colour
        → IsGain world m (gain_of_piece m region colour)
    IsGain-piece region colour keeps fresh piece =
        let after = (gain_of_piece m region colour).held in
        let Below : ℕ → Type 0 = λ n. n < colours in
        let some = piece.begun in
        let new = λ (n : ℕ). has_pair after region n && not (has_pair m.held region n) in
        let news = All-of_filter Below new (range_with_len 0 colours) colours-below in
        let others = All-of_filter Below (λ n. not (n == colour)) (filter new (range_with_len 0 colours)) news in
        record {
          begun = omega (arith, some);
          held = keeps m region colour fits fresh piece;
          pieces = (
            piece,
            All-weaker Below (IsPieceOf world (m.epoch + 1) region)
                (λ n below. record { later = piece.later; begun = piece.begun; there = piece.there; below = below })
                (filter (λ n. not (n == colour)) (filter new (range_with_len 0 colours))) others,
          );
        }

    -- a piece of the next epoch
    IsQuiet-next : (region colour : ℕ) → KeepsHeld world → IsPieceOf world (m.epoch + 1) region colour
        → IsQuiet world own (Following m) (next_piece c own m region colour)
    IsQuiet-next region colour keeps piece =
        let gain : Gain = gain_of_piece m region colour in
        cond_both (has_pair m.held region colour) (already m) (gain_step c own m gain) (IsQuiet world own (Following m))
        (λ _. IsQuiet-stays world own (Following m) notes.Already fits)
        (λ fresh. IsQuiet-gain gain (IsGain-piece region colour keeps fresh piece))

    -- a piece of the member's own epoch
    IsQuiet-late : (given region colour : ℕ) (past : Option Past) → IfSome past (IsPast world m.epoch) → IsPieceOf world given region colour
        → IsQuiet world own (Following m) (late_piece c own m given region colour past)
    IsQuiet-late given region colour None is_past piece = IsQuiet-stays world own (Following m) (notes.Stale m.epoch given) fits
    IsQuiet-late given region colour (Some past) is_past piece =
        cond_both (has_pair past.had region colour) (already m) (passes c own m past given region colour)
        (IsQuiet world own (Following m))
        (λ _. IsQuiet-stays world own (Following m) notes.Already fits)
        (λ _. record {
          no_items = refl;
          state = record {
            epoch = fits.epoch;
            known = fits.known;
            held = fits.held;
            used = fits.used;
            pending = fits.pending;
            seq = fits.seq;
            past = record { later = is_past.later; known = is_past.known };
          };
          entry = tt;
          lasts = refl;
          rises = λ n at. at;
          sends = AreSent-sends world reached own.id (passed_on c own.id (m.epoch - 1) past.known given region colour)
              (AreSends-passed (m.epoch - 1) past.known given region colour piece);
        })

    -- whatever its epoch is
    pub IsQuiet-piece : (given region colour : ℕ) → KeepsHeld world → IsPieceOf world given region colour
        → IsQuiet world own (Following m) (piece_step c own m given region colour)
    IsQuiet-piece given region colour keeps piece =
        let P : Step → Type 0 = IsQuiet world own (Following m) in
        cond_both (nat_lt given m.epoch) (stale m given) _ P
        (λ _. IsQuiet-stays world own (Following m) (notes.Stale m.epoch given) fits)
        (λ not_before. cond_both (given == m.epoch) (late_piece c own m given region colour m.past) _ P
        (λ same. IsQuiet-late given region colour m.past fits.past piece)
        (λ differs. cond_both (nat_lt (m.epoch + 1) given) (early m given) (next_piece c own m region colour) P
        (λ _. IsQuiet-stays world own (Following m) (notes.Early m.epoch given) fits)
        (λ not_after.
        let least = ltb-false given m.epoch not_before in
        let most = ltb-false (m.epoch + 1) given not_after in
        let other = eqb-false given m.epoch differs in
        let next : given ≡ m.epoch + 1 = omega (arith, least, most, other) in
        IsQuiet-next region colour keeps (subst (λ e. IsPieceOf world e region colour) next piece))))

    -- ---- slices

    -- the pieces that became held with a slice are of its epoch and its region
    IsGain-slice : (region : ℕ) → IsSliceOf world (m.epoch + 1) region → IsGain world m (gain_of_slice m region)
    IsGain-slice region slice =
        let after = (gain_of_slice m region).held in
        let Below : ℕ → Type 0 = λ n. n < colours in
        let some = slice.begun in
        let new = λ (n : ℕ). has_pair after region n && not (has_pair m.held region n) in
        record {
          begun = omega (arith, some);
          held = keeps-slice world m region fits slice;
          pieces = All-weaker Below (IsPieceOf world (m.epoch + 1) region)
              (λ n below. record { later = slice.later; begun = slice.begun; there = slice.there; below = below })
              (filter new (range_with_len 0 colours)) (All-of_filter Below new (range_with_len 0 colours) colours-below);
        }

    -- a slice of the next epoch
    IsQuiet-next_slice : (region : ℕ) → IsSliceOf world (m.epoch + 1) region → IsQuiet world own (Following m) (next_slice c own m region)
    IsQuiet-next_slice region slice =
        let gain : Gain = gain_of_slice m region in
        cond_both (is_whole m.held region) (already m) (gain_step c own m gain) (IsQuiet world own (Following m))
        (λ _. IsQuiet-stays world own (Following m) notes.Already fits)
        (λ _. IsQuiet-gain gain (IsGain-slice region slice))

    -- whatever its epoch is
    IsQuiet-slice : (given region : ℕ) → IsSliceOf world given region → IsQuiet world own (Following m) (slice_step c own m given region)
    IsQuiet-slice given region slice =
        let P : Step → Type 0 = IsQuiet world own (Following m) in
        cond_both (nat_le given m.epoch) (stale m given) _ P
        (λ _. IsQuiet-stays world own (Following m) (notes.Stale m.epoch given) fits)
        (λ above. cond_both (nat_lt (m.epoch + 1) given) (early m given) (next_slice c own m region) P
        (λ _. IsQuiet-stays world own (Following m) (notes.Early m.epoch given) fits)
        (λ not_after.
        let least = leb-false given m.epoch above in
        let most = ltb-false (m.epoch + 1) given not_after in
        let next : given ≡ m.epoch + 1 = omega (arith, least, most) in
        IsQuiet-next_slice region (subst (λ e. IsSliceOf world e region) next slice)))

  -- ---- deliveries

  -- a piece comes to a node in a state
  IsQuiet-piece_comes : (state : State) (epoch region colour : ℕ) → KeepsHeld world → IsPieceOf world epoch region colour → StateFits world own state
      → IsQuiet world own state (piece_comes c own state epoch region colour)
  IsQuiet-piece_comes Joining epoch region colour keeps piece fits = IsQuiet-stays world own Joining notes.Idle tt
  IsQuiet-piece_comes (Following m) epoch region colour keeps piece fits = IsQuiet-piece m fits epoch region colour keeps piece
  IsQuiet-piece_comes (Leading have pending) epoch region colour keeps piece fits =
      IsQuiet-stays world own (Leading have pending) (untold have epoch) fits
  IsQuiet-piece_comes Left epoch region colour keeps piece fits = IsQuiet-stays world own Left notes.Departed tt

  -- a slice comes to a node in a state
  IsQuiet-slice_comes : (state : State) (epoch region : ℕ) → IsSliceOf world epoch region → StateFits world own state
      → IsQuiet world own state (slice_comes c own state epoch region)
  IsQuiet-slice_comes Joining epoch region slice fits = IsQuiet-stays world own Joining notes.Idle tt
  IsQuiet-slice_comes (Following m) epoch region slice fits = IsQuiet-slice m fits epoch region slice
  IsQuiet-slice_comes (Leading have pending) epoch region slice fits =
      IsQuiet-stays world own (Leading have pending) (untold have epoch) fits
  IsQuiet-slice_comes Left epoch region slice fits = IsQuiet-stays world own Left notes.Departed tt

  module _ (state : State) (fits : StateFits world own state) where
    -- a packet comes to it
    pub IsQuiet-deliver : (to from : ℕ) (name : Name) → KeepsHeld world → NameStands world from to name
        → IsQuiet world own state (deliver_step c own state from name)
    IsQuiet-deliver to from (Report changes) keeps stands = IsQuiet-report world own state changes stands.0 stands.1 fits
    IsQuiet-deliver to from (Piece epoch region colour) keeps stands = IsQuiet-piece_comes state epoch region colour keeps stands fits
    IsQuiet-deliver to from (Need addr mode epoch region) keeps stands =
        IsQuiet-wish world reached node is from stands.node stands.found state (ForSlice mode epoch region) fits
    IsQuiet-deliver to from (Slice epoch region) keeps stands = IsQuiet-slice_comes state epoch region stands fits
    IsQuiet-deliver to from (Ask addr mode least) keeps stands =
        IsQuiet-wish world reached node is from stands.node stands.found state (ForSnapshot mode least) fits
    IsQuiet-deliver to from (Snap epoch given) keeps stands =
        IsQuiet-snapshot world own state epoch (known_from c own epoch given) stands.begun
        (AreRegionsOf-known_by (group_of world epoch) own.id own.mode given stands.regions)
        (IsPicture-there world reached is.leader is.led epoch (known_from c own epoch given) stands.begun) fits
    IsQuiet-deliver to from (Bye epoch) keeps stands = IsQuiet-bye world reached own state epoch stands fits
