-- The square of what a member gained: it holds it, goes to the next epoch, or departs.
use Rattle.std.proofs.Common.{◌≡◌, ◌∙◌, ℕ, ◌+◌, Bool, true, false, not, cond, List, [], ◌∷◌, map, Option, Some, None, Result, Ok}
use Rattle.std.proofs.Common.{refl, sym, ap, subst}
use Rattle.std.specs.List.{AllByRecursion, AllZip, find}
use Rattle.std.specs.Option.{option_map}
use Rattle.cs_core.specs.Heads.{is_same_head}
use Rattle.cs_core.specs.Holding.{least_slice}
use Rattle.cs_core.specs.Node.{Following as Values, member}
use Rattle.cs_core.specs.Plans.{or_unfit, unfit_by, unless_unfit, ◌>>=◌}
use Rattle.cs_core.specs.Taking.{Gain as Gained, are_whole as are_whole_values, gain_plan, gain_sends as sends_values}
use Rattle.cs_core.specs.Taking.{gained_sends, heads_fault, hold_plan, names_of, needed as needed_values, parts_of, plan_by, progress_from, progress_with}
use Rattle.cs_core.specs.Taking.{slices_in, step_with, stepped as stepped_values, text_in, used_with}
use Rattle.cs_core.specs.declared.plan.Unfit.{Unfit}
use Rattle.cs_core.specs.declared.plan.Unfit.TheVariants as unfit
use Rattle.cs_group.specs.Group.{GroupState, is_among}
use Rattle.cs_group.specs.Rows.{regions}
use Rattle.cs_hold.specs.Held.{Held}
use Rattle.cs_item.specs.declared.picture.Picture.{Picture}
use Rattle.cs_item.specs.declared.slice.Slice.{Slice}
use Rattle.cs_node.specs.Effects.{effects_of_follower}
use Rattle.cs_node.specs.declared.node.Node.TheVariants as nodes
use Rattle.cs_packet.specs.NamedPiece.{NamedPiece, piece_to}
use Rattle.cs_packet.specs.declared.own.Own.{Own}
use Rattle.cs_packet.specs.declared.packet.Body.TheVariants as bodies
use Rattle.cs_packet.specs.declared.packet.Packet.{Packet}
use Rattle.cs_projection.specs.Law.{after_turn}
use Rattle.cs_slicer.specs.Head.{left_in}
use Rattle.cs_slicer.specs.Projection.{image, projection}
use Rattle.cs_tree.specs.Route.{Target, route}
use Rattle.cs_view.specs.Faults.{step}
use Rattle.cs_view.specs.declared.fault.ViewFault.{ViewFault}
use Rattle.cs_view.specs.declared.next.Next.{Next}
use Rattle.cs_view.specs.declared.next.Next.TheVariants as next
use Rattle.cs_machine.specs.Contents.{Contents, piece_at, slice_at, view_at}
use Rattle.cs_machine.specs.Held.{Gain, are_whole, least_whole}
use Rattle.cs_machine.specs.Names.{Following, Membership, Piece, World}
use Rattle.cs_machine.specs.Progress.{advances, departs, gain_sends, gain_step, goes_on, holds, needed, progress}
use Rattle.cs_machine.specs.Squares.{address_in}
use Rattle.cs_machine.specs.Step.{passed_on}
use Rattle.cs_machine.specs.Values.{held_for, member_for}
use Rattle.cs_machine.proofs.CloseSquares.{AreStarted, back}
use Rattle.cs_machine.proofs.SquareParts.{SendOver, SquareAt}
use Rattle.cs_machine.proofs.Zips.{AllZip-flat_same, AllZip-map}

-- what a member gained in values is what its names stand for
pub record GainStands (c : Contents) (m : Membership) (gain : Gain) : Type 0 where
  pub texts : AllByRecursion (λ colour. text_in gain.region colour (map (held_for c (m.epoch + 1)) gain.held)
      ≡ piece_at c (m.epoch + 1) gain.region colour) gain.colours
  pub least : least_slice (map (held_for c (m.epoch + 1)) gain.held)
      ≡ option_map (slice_at c (m.epoch + 1)) (least_whole gain.held)
  pub there : (w : ℕ) → least_whole gain.held ≡ Some w → is_among (regions (c.group m.epoch).rows) w ≡ true
  pub whole : (rs : List ℕ) → are_whole_values (map (held_for c (m.epoch + 1)) gain.held) rs ≡ are_whole gain.held rs
  pub slices : (rs : List ℕ) → are_whole gain.held rs ≡ true
      → slices_in (map (held_for c (m.epoch + 1)) gain.held) rs ≡ map (slice_at c (m.epoch + 1)) rs

-- the turn to the next epoch steps what the member knows
pub record Steps (c : Contents) (own : Own) (m : Membership) : Type 0 where
  pub group : (c.turn (m.epoch + 1)).group ≡ c.group (m.epoch + 1)
  pub needs : (w : ℕ) → needed_values (view_at c m.epoch m.known) (slice_at c (m.epoch + 1) w) ≡ needed c m w
  pub by_slices : (w : ℕ) → is_among (regions (c.group m.epoch).rows) w ≡ true
      → step own.id own.mode (view_at c m.epoch m.known) (slice_at c (m.epoch + 1) w).head
      (parts_of (map (slice_at c (m.epoch + 1)) (needed c m w)))
      ≡ (let wanted : Result Next ViewFault = Ok (after_turn (c.group m.epoch) (c.turn (m.epoch + 1)) m.epoch m.known own.id own.mode) in wanted)
  pub same_head : (w : ℕ) → is_same_head (slice_at c (m.epoch + 1) w).head (slice_at c (m.epoch + 1) w).head ≡ true

-- nothing of the same is found to differ
find-none : {X : Type 0} (p : X → Bool) (f : ℕ → X) → ((n : ℕ) → p (f n) ≡ false) → (ns : List ℕ) → find p (map f ns) ≡ None
find-none p f not_one [] = refl
find-none p f not_one (n ∷ ns) = ap (λ b. cond b (Some (f n)) (find p (map f ns))) (not_one n) ∙ find-none p f not_one ns

-- the names of held pieces are those that they stand for
pub names-for : (c : Contents) (epoch : ℕ) (held : List (ℕ × ℕ)) → names_of (map (held_for c epoch) held) ≡ held
names-for c epoch [] = refl
names-for c epoch (pair ∷ held) = ap (λ (ps : List (ℕ × ℕ)). pair ∷ ps) (names-for c epoch held)

-- a piece is passed on by what is known of an epoch
pub routed-stands : (world : World) (c : Contents) (me epoch : ℕ) (known : List ℕ) (given region colour : ℕ) (text : List ℕ)
    → AreStarted world (route me (view_at c epoch known).summaries (view_at c epoch known).rolls region colour)
    → text ≡ piece_at c given region colour
    → AllZip (SendOver world c me)
    (map (piece_to me (let p : NamedPiece = record { epoch = given; region = region; colour = colour; bytes = text } in p))
    (route me (view_at c epoch known).summaries (view_at c epoch known).rolls region colour))
    (passed_on c me epoch known given region colour)
routed-stands world c me epoch known given region colour text targets is =
    let piece : NamedPiece = record { epoch = given; region = region; colour = colour; bytes = text } in
    AllZip-map (SendOver world c me) (piece_to me piece) (λ (t : Target). (t.0, Piece given region colour))
    (λ (t : Target). address_in world t.0 ≡ Some t.1)
    (λ t there. record {
      address = there;
      packet = ap (λ bytes. (let p : Packet = record { from = me; to = t.0; body = bodies.Piece given region colour bytes } in p)) is;
    })
    (route me (view_at c epoch known).summaries (view_at c epoch known).rolls region colour) targets

module _ (world : World) (c : Contents) (own : Own) (m : Membership)
    (targets : (region colour : ℕ)
    → AreStarted world (route own.id (view_at c m.epoch m.known).summaries (view_at c m.epoch m.known).rolls region colour)) where
  -- what the member is in values
  abbrev values : Values
  values = member_for c m

  -- a slice of the next epoch
  abbrev slice : ℕ → Slice
  slice region = slice_at c (m.epoch + 1) region

  -- what its held names stand for
  abbrev for : List (ℕ × ℕ) → List Held
  for held = map (held_for c (m.epoch + 1)) held

  -- a gain in values that stands for one in names
  abbrev gained : Gain → Gained
  gained gain = record { region = gain.region; held = for gain.held; colours = gain.colours }

  module _ (gain : Gain) (stands : GainStands c m gain) where
    -- what became held is passed on
    sends-stand : AllZip (SendOver world c own.id) (sends_values own values (gained gain)) (gain_sends c own m gain)
    sends-stand =
        AllZip-flat_same (SendOver world c own.id) (gained_sends own values (gained gain))
        (passed_on c own.id m.epoch m.known (m.epoch + 1) gain.region)
        (λ colour. text_in gain.region colour (for gain.held) ≡ piece_at c (m.epoch + 1) gain.region colour)
        (λ colour is. routed-stands world c own.id m.epoch m.known (m.epoch + 1) gain.region colour (text_in gain.region colour (for gain.held))
        (targets gain.region colour) is) gain.colours stands.texts

    -- the member waits for more
    hold-square : SquareAt world c own (Following m) (holds c own m gain) (effects_of_follower (hold_plan own values (gained gain)))
    hold-square = record { note = refl; entry = refl; after = refl; sends = sends-stand }

    module _ (steps : Steps c own m) where
      -- the member goes on by slices of these regions
      goes-square : (rs : List ℕ)
          → SquareAt world c own (Following m) (goes_on c own m gain rs)
          (effects_of_follower (stepped_values own values (gained gain) (map slice rs)
          (after_turn (c.group m.epoch) (c.turn (m.epoch + 1)) m.epoch m.known own.id own.mode)))
      goes-square rs =
          let left : GroupState → Bool = λ g. is_among (left_in (c.group m.epoch) g) own.id in
          subst (λ b. SquareAt world c own (Following m) (cond b (departs c own m gain) (advances c own m gain rs))
          (effects_of_follower (stepped_values own values (gained gain) (map slice rs)
          (after_turn (c.group m.epoch) (c.turn (m.epoch + 1)) m.epoch m.known own.id own.mode))))
          (ap left steps.group) (go (left (c.turn (m.epoch + 1)).group))
        where
          seen : GroupState → Picture
          seen g = projection (m.epoch + 1) (image (c.group m.epoch) (c.turn (m.epoch + 1)) m.known own.id own.mode) g

          after-values : Picture → List (ℕ × ℕ) → Picture → Values
          after-values view had before = record {
            view = view;
            held = [];
            used = map slice rs;
            pending = m.pending;
            seq = m.seq;
            past = Some (record { view = before; had = had });
          }

          go : (b : Bool)
              → SquareAt world c own (Following m) (cond b (departs c own m gain) (advances c own m gain rs))
              (effects_of_follower (stepped_values own values (gained gain) (map slice rs)
              (cond b next.Departed (next.Member (seen (c.turn (m.epoch + 1)).group)))))
          go true = record { note = refl; entry = refl; after = refl; sends = sends-stand }
          go false = record {
            note = refl;
            entry = refl;
            after =
                ap (λ (v : Picture). nodes.Follower (member own (after-values v (names_of (for gain.held)) (view_at c m.epoch m.known))))
                (ap seen steps.group)
                ∙ (ap (λ had. nodes.Follower (member own (after-values (seen (c.group (m.epoch + 1))) had (view_at c m.epoch m.known))))
                (names-for c (m.epoch + 1) gain.held)
                ∙ ap (λ n. nodes.Follower (member own (after-values (seen (c.group (m.epoch + 1))) gain.held (view_at c n m.known))))
                (sym (back m.epoch)));
            sends = sends-stand;
          }

      -- what the step of these slices gives
      stepped-by : (w : ℕ) → is_among (regions (c.group m.epoch).rows) w ≡ true
          → step_with own (view_at c m.epoch m.known) (slice w) (map slice (needed c m w))
          ≡ (let wanted : Result Next Unfit = Ok (after_turn (c.group m.epoch) (c.turn (m.epoch + 1)) m.epoch m.known own.id own.mode) in wanted)
      stepped-by w there =
          let fits : heads_fault (slice w) (map slice (needed c m w)) ≡ None =
          ap (option_map (λ (s : Slice). unfit.Heads s.part.region))
          (find-none (λ (s : Slice). not (is_same_head s.head (slice w).head)) slice (λ n. ap not (steps.same_head w)) (needed c m w)) in
          ap (λ (o : Option Unfit). unless_unfit o (map slice (needed c m w))
          >>= λ all. unfit_by unfit.View (step own.id own.mode (view_at c m.epoch m.known) (slice w).head (parts_of all))) fits
          ∙ ap (unfit_by unfit.View) (steps.by_slices w there)

      -- where w is the least whole region
      whole-square : (w : ℕ) → is_among (regions (c.group m.epoch).rows) w ≡ true
          → SquareAt world c own (Following m) (progress c own m gain (Some w))
          (effects_of_follower (or_unfit (progress_with own (view_at c m.epoch m.known) (slice w)
          (used_with (view_at c m.epoch m.known) (for gain.held) (slice w)) >>= λ made. Ok (plan_by own values (gained gain) made))))
      whole-square w there =
          subst (λ (o : Option (List Slice)). SquareAt world c own (Following m) (progress c own m gain (Some w))
          (effects_of_follower (or_unfit (progress_with own (view_at c m.epoch m.known) (slice w) o
          >>= λ made. Ok (plan_by own values (gained gain) made))))) (sym used) (go (are_whole gain.held (needed c m w)))
        where
          used : used_with (view_at c m.epoch m.known) (for gain.held) (slice w)
              ≡ cond (are_whole gain.held (needed c m w)) (Some (map slice (needed c m w))) None
          used =
              ap (λ rs. cond (are_whole_values (for gain.held) rs) (Some (slices_in (for gain.held) rs)) None) (steps.needs w)
              ∙ (ap (λ b. cond b (Some (slices_in (for gain.held) (needed c m w))) None) (stands.whole (needed c m w))
              ∙ all (are_whole gain.held (needed c m w)) refl)
            where
              all : (b : Bool) → are_whole gain.held (needed c m w) ≡ b
                  → cond b (Some (slices_in (for gain.held) (needed c m w))) None ≡ cond b (Some (map slice (needed c m w))) None
              all true is = ap (λ (ss : List Slice). Some ss) (stands.slices (needed c m w) is)
              all false is = refl

          go : (b : Bool)
              → SquareAt world c own (Following m) (cond b (goes_on c own m gain (needed c m w)) (holds c own m gain))
              (effects_of_follower (or_unfit (progress_with own (view_at c m.epoch m.known) (slice w)
              (cond b (Some (map slice (needed c m w))) None) >>= λ made. Ok (plan_by own values (gained gain) made))))
          go true =
              subst (λ (r : Result Next Unfit). SquareAt world c own (Following m) (goes_on c own m gain (needed c m w))
              (effects_of_follower (or_unfit ((r >>= λ after. Ok (Some (map slice (needed c m w), after)))
              >>= λ made. Ok (plan_by own values (gained gain) made))))) (sym (stepped-by w there)) (goes-square (needed c m w))
          go false = hold-square

      -- what the member does with what it gained
      pub gain-square : SquareAt world c own (Following m) (gain_step c own m gain)
          (effects_of_follower (or_unfit (gain_plan own values (gained gain))))
      gain-square =
          subst (λ (o : Option Slice). SquareAt world c own (Following m) (gain_step c own m gain)
          (effects_of_follower (or_unfit (progress_from own (view_at c m.epoch m.known) (for gain.held) o
          >>= λ made. Ok (plan_by own values (gained gain) made))))) (sym stands.least) (go (least_whole gain.held) refl)
        where
          go : (o : Option ℕ) → least_whole gain.held ≡ o
              → SquareAt world c own (Following m) (progress c own m gain o)
              (effects_of_follower (or_unfit (progress_from own (view_at c m.epoch m.known) (for gain.held) (option_map slice o)
              >>= λ made. Ok (plan_by own values (gained gain) made))))
          go None is = hold-square
          go (Some w) is = whole-square w (stands.there w is)
