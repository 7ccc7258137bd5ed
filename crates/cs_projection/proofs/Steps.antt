-- The projection of a group steps by a turn's slices to the projection of the next group on its image.
use Rattle.std.proofs.Common.{◌≡◌, ◌+◌, ◌||◌, ℕ, Bool, true, false, if◌then◌else◌, List, map, Option, None, Result, Ok, refl, ap, ◌∙◌}
use Rattle.std.specs.List.{AllByRecursion, filter}
use Rattle.std.specs.Option.{option_or}
use Rattle.cs_base.specs.declared.change.Mode.{Mode}
use Rattle.cs_base.proofs.Ascending.{All-of_filter, IsAscendingBy-filter}
use Rattle.cs_group.specs.Group.{GroupState, IsGroup, is_among}
use Rattle.cs_group.specs.Rows.{members_in, regions}
use Rattle.cs_group.specs.declared.next.Turn.{Turn}
use Rattle.cs_group.specs.declared.row.Row.{Row}
use Rattle.cs_group.proofs.Regions.{IsAscending-regions}
use Rattle.cs_item.specs.declared.head.Head.{Head}
use Rattle.cs_item.specs.declared.part.Part.{Part}
use Rattle.cs_item.specs.declared.picture.Picture.{Picture}
use Rattle.cs_slicer.specs.Head.{head_in}
use Rattle.cs_slicer.specs.Projection.{heirs, image, is_cut_from, projection, reached, rolls_of}
use Rattle.cs_slicer.specs.Turn.{IsTurnOf, summaries_of}
use Rattle.cs_slicer.proofs.Beside.{beside}
use Rattle.cs_slicer.proofs.Summaries.{regions-listed}
use Rattle.cs_view.specs.Faults.{gone_or_next, step_fault}
use Rattle.cs_view.specs.Step.{next_rolls, next_summaries, next_view}
use Rattle.cs_view.specs.Taking.{few_members, few_regions, or_fault, roll_fault, unless}
use Rattle.cs_view.specs.View.{kept}
use Rattle.cs_view.specs.declared.fault.ViewFault.{ViewFault}
use Rattle.cs_view.specs.declared.fault.ViewFault.TheVariants as faults
use Rattle.cs_view.specs.declared.next.Next.{Next}
use Rattle.cs_view.specs.declared.next.Next.TheVariants as next
use Rattle.cs_projection.specs.Law.{ArePartsFor, StepsTo}
use Rattle.cs_projection.proofs.Faultless.{few_members-regions, missing_fault-none, part_fault-none, roll_fault-none}
use Rattle.cs_projection.proofs.Kept.{kept-known}
use Rattle.cs_projection.proofs.Reached.{next_rolls-reached}
use Rattle.cs_projection.proofs.Summaries.{epoch_fault-none, few_regions-group, next_summaries-is, region_fault-none}

-- of faults that aren't there none is
no_fault : (a b c d e f : Option ViewFault) → a ≡ None → b ≡ None → c ≡ None → d ≡ None → e ≡ None → f ≡ None
    → option_or a (option_or b (option_or c (option_or d (option_or e f)))) ≡ None
no_fault a b c d e f no_a no_b no_c no_d no_e no_f = rw (no_a, no_b, no_c, no_d, no_e, no_f) refl

-- without a fault the node departs or goes on
went : (me : ℕ) (mode : Mode) (view : Picture) (head : Head) (parts : List Part) (fault : Option ViewFault) (after : Picture) → fault ≡ None
    → next_view me mode view head parts ≡ after → few_members after.rolls ≡ true
    → gone_or_next me mode view head parts fault ≡ Ok (if is_among head.left me then next.Departed else next.Member after)
went me mode view head parts fault after none is few = ap (gone_or_next me mode view head parts) none ∙ by_left (is_among head.left me)
  where
    next_one : Picture
    next_one = next_view me mode view head parts

    by_left : (b : Bool)
        → (let given : Result Next ViewFault =
        (if b then Ok next.Departed else or_fault (unless (few_members next_one.rolls) faults.Size) (next.Member next_one)) in given)
        ≡ Ok (if b then next.Departed else next.Member after)
    by_left true = refl
    by_left false =
        ap (λ (v : Picture). or_fault (unless (few_members v.rolls) faults.Size) (next.Member v)) is
        ∙ ap (λ passes. or_fault (unless passes faults.Size) (next.Member after)) few

module _ (before : GroupState) (turn : Turn) (epoch : ℕ) (known : List ℕ) (me : ℕ) (mode : Mode) (parts : List Part)
    (is : IsGroup before) (is_next : IsGroup turn.group) (of : IsTurnOf before turn)
    (old : AllByRecursion (λ r. is_among (regions before.rows) r ≡ true) known) (fits : ArePartsFor before turn known parts) where
  -- the view before the step
  abbrev view : Picture
  view = projection epoch known before

  -- the head of the turn
  abbrev head : Head
  head = head_in before turn (epoch + 1)

  -- the rows after the turn
  abbrev after : List Row
  after = turn.group.rows

  -- the reached regions
  abbrev there : List ℕ
  there = reached before turn known

  -- the summaries become those of the next group
  summaries-are : next_summaries view.summaries head ≡ summaries_of after
  summaries-are = next_summaries-is before.rows after head refl refl

  -- the rolls become those of the reached regions
  rolls-are : next_rolls view.rolls head parts ≡ map (beside (λ n. members_in n after)) there
  rolls-are = next_rolls-reached before turn is of (epoch + 1) known parts old fits

  -- of which those of the image are kept
  kept-are : kept me mode (next_rolls view.rolls head parts) ≡ rolls_of (image before turn known me mode) after
  kept-are =
      ap (kept me mode) rolls-are
      ∙ kept-known after me mode (λ region. is_among (heirs before turn known) region || is_cut_from turn.cut (heirs before turn known) region)
      is_next.staffed.distinct

  -- so the next view is the projection on the image
  view-is : next_view me mode view head parts ≡ projection (epoch + 1) (image before turn known me mode) turn.group
  view-is = λ i. record { epoch = epoch + 1; summaries = summaries-are i; rolls = kept-are i }

  -- each reached region is one of the next group
  each-there : AllByRecursion (λ n. is_among (regions after) n ≡ true) there
  each-there =
      All-of_filter (λ n. is_among (regions after) n ≡ true)
      (λ region. is_among (heirs before turn known) region || is_cut_from turn.cut (heirs before turn known) region) (regions after) (regions-listed after)

  -- no fault comes first
  no-fault : step_fault view head parts ≡ None
  no-fault =
      no_fault _ _ _ _ _ _ (epoch_fault-none epoch known before turn) (region_fault-none epoch (epoch + 1) known before turn)
      (missing_fault-none before turn epoch (epoch + 1) known parts fits)
      (ap (λ summaries. unless (few_regions summaries) faults.Size) summaries-are
      ∙ ap (λ b. unless b faults.Size) (few_regions-group turn.group is_next))
      (part_fault-none before turn epoch (epoch + 1) known parts fits)
      (ap (λ summaries. roll_fault summaries (next_rolls view.rolls head parts)) summaries-are
      ∙ (ap (roll_fault (summaries_of after)) rolls-are ∙ roll_fault-none after there each-there))

  -- and the kept rolls are few
  few : few_members (rolls_of (image before turn known me mode) after) ≡ true
  few =
      few_members-regions after (filter (λ region. is_among (image before turn known me mode) region) (regions after)) is_next.staffed.few_members
      (IsAscendingBy-filter (λ n. n) (λ region. is_among (image before turn known me mode) region) (regions after) (IsAscending-regions after))

  -- so the view steps to the projection
  pub steps : StepsTo before turn epoch known me mode parts
  steps =
      went me mode view head parts (step_fault view head parts) (projection (epoch + 1) (image before turn known me mode) turn.group) no-fault view-is few
