-- What is held after a piece or a slice came: it is of listed regions, and each whole region is its slice of the epoch.
use Rattle.std.proofs.Common.{◌≡◌, ◌≢◌, ℕ, ◌+◌, ◌^◌, ◌<◌, ◌≤◌, ◌==◌, nat_lt, not, ◌&&◌, Bool, true, false, if◌then◌else◌, List, [], ◌∷◌, ◌++◌, length}
use Rattle.std.proofs.Common.{filter, is_some, IsTrue, Option, Some, None, Result, Ok, Err, ◌⊎◌, refl, sym, ap, subst, ◌∙◌, inl, inr, arith, length-append}
use Rattle.std.specs.Int.{w32, to_be_bytes, from_be_bytes}
use Rattle.std.specs.List.{AllByRecursion, range_with_len}
use Rattle.std.specs.Option.{option_and_then, option_map, option_map_or}
use Rattle.std.proofs.lemmas.Bool.{and_parts, cases_eq, cases_lt, eq-eqb, eqb-true}
use Rattle.std.proofs.lemmas.List.{take_at}
use Rattle.std.proofs.lemmas.Nat.{from_be_bytes-to_be_bytes_4}
use Rattle.cs_base.specs.Ascending.{at_key, placed_by}
use Rattle.cs_base.specs.Limits.{colours, most_piece_total, most_slice_bytes}
use Rattle.cs_base.specs.Ranges.{IsRegion}
use Rattle.cs_base.proofs.Ascending.{All-of_filter, find-placed}
use Rattle.cs_base.proofs.Elements.{All-append}
use Rattle.cs_fields.specs.Fields.{IsLaterEpoch}
use Rattle.cs_fields.specs.Numbers.{number_at, number_bytes, raw_at}
use Rattle.cs_fields.specs.Whole.{whole_of}
use Rattle.cs_fields.specs.declared.fault.PacketFault.{PacketFault}
use Rattle.cs_fields.proofs.Codec.{sum-append, whole_only}
use Rattle.cs_hold.specs.Held.{Held, in_region, of_region, piece_in, with_region}
use Rattle.cs_hold.specs.Kept.{Takes}
use Rattle.cs_hold.specs.Pieces.{colour_of, four_of, gained}
use Rattle.cs_hold.specs.Taking.{put_in, sliced, taken}
use Rattle.cs_hold.specs.Whole.{given_by, whole_in}
use Rattle.cs_hold.proofs.Gained.{at_key-four, joined-short}
use Rattle.cs_hold.proofs.Takes.{given_by-four, length-piece, takes, takes_slice}
use Rattle.cs_item.specs.SliceField.{IsSlice, head_sizes, part_sizes, slice_at, slice_bytes}
use Rattle.cs_item.specs.declared.picture.Picture.{Picture}
use Rattle.cs_item.specs.declared.slice.Slice.{Slice}
use Rattle.cs_item.proofs.SliceLaws.{slice_codec, slice_size}
use Rattle.cs_packet.specs.PieceField.{IsPieceText}
use Rattle.cs_piece.specs.Blocks.{block, piece_of}
use Rattle.cs_piece.specs.Joining.{total_of}
use Rattle.cs_piece.specs.declared.fault.PieceFault.{PieceFault}
use Rattle.cs_core.specs.Gained.{IsGain}
use Rattle.cs_core.specs.Holding.{bytes_fault, held_with_piece, named_as, region_fault, slice_of}
use Rattle.cs_core.specs.Kept.{IsFollowing, IsHeldFor}
use Rattle.cs_core.specs.Node.{Following, lists}
use Rattle.cs_core.specs.Plans.{unfit_by, unless_unfit, ◌>>=◌}
use Rattle.cs_core.specs.Taking.{Gain, came_first, gain_of_piece, gain_of_slice, new_colours, text_in}
use Rattle.cs_core.specs.declared.plan.Unfit.{Unfit}
use Rattle.cs_core.specs.declared.plan.Unfit.TheVariants as unfit

-- ---- listed regions

-- each held piece is of a listed region
abbrev AreListed : Picture → List Held → Type 0
AreListed view held = AllByRecursion (λ (h : Held). IsTrue (lists view h.region)) held

listed-in_region : (view : Picture) (region : ℕ) (pieces : List (ℕ × List ℕ)) → IsTrue (lists view region) → AreListed view (in_region region pieces)
listed-in_region view region [] is = tt
listed-in_region view region (p ∷ ps) is = (is, listed-in_region view region ps is)

module _ (view : Picture) (region : ℕ) (held : List Held) (is : IsTrue (lists view region)) (all : AreListed view held) where
  listed-with : (pieces : List (ℕ × List ℕ)) → AreListed view (with_region region pieces held)
  listed-with pieces =
      let P : Held → Type 0 = λ h. IsTrue (lists view h.region) in
      let low = filter (λ (h : Held). nat_lt h.region region) held in
      let high = filter (λ (h : Held). nat_lt region h.region) held in
      All-append P (low ++ in_region region pieces) high
      (All-append P low (in_region region pieces) (All-of_filter P (λ h. nat_lt h.region region) held all) (listed-in_region view region pieces is))
      (All-of_filter P (λ h. nat_lt region h.region) held all)

  listed-put : (given : Result (List (ℕ × List ℕ)) PieceFault) (next : List Held) → put_in region held given ≡ Ok next → AreListed view next
  listed-put (Ok pieces) next e = let same : with_region region pieces held ≡ next = cc in subst (AreListed view) same (listed-with pieces)
  listed-put (Err fault) next e = absurd (cc)

  listed-taken : (colour : ℕ) (bytes : List ℕ) (next : List Held) → taken region colour bytes held ≡ Ok next → AreListed view next
  listed-taken colour bytes next given = by (at_key colour_of colour (of_region region held)) given
    where
      by : (found : Option (ℕ × List ℕ)) → (if is_some found then Ok held else put_in region held (gained colour bytes (of_region region held))) ≡ Ok next
          → AreListed view next
      by (Some p) e = let same : held ≡ next = cc in subst (AreListed view) same all
      by None e = listed-put (gained colour bytes (of_region region held)) next e

  listed-sliced : (bytes : List ℕ) → AreListed view (sliced region bytes held)
  listed-sliced bytes = by (length (of_region region held) == 4)
    where
      by : (b : Bool) → AreListed view (if b then held else with_region region (four_of bytes) held)
      by true = all
      by false = listed-with (four_of bytes)

-- ---- whole regions

-- a region's fault goes by its pieces alone
abbrev pieces_fault : ℕ → ℕ → List (ℕ × List ℕ) → Option Unfit
pieces_fault epoch region pieces = option_and_then (λ bytes. bytes_fault epoch region (slice_of bytes)) (given_by pieces)

-- a slice that is named so has no fault
named_as-none : (epoch region : ℕ) (s : Slice) → s.head.epoch ≡ epoch → s.part.region ≡ region → named_as epoch region s ≡ None
named_as-none epoch region s e r =
    let one : (s.head.epoch == epoch) ≡ true = eq-eqb s.head.epoch epoch e in
    let two : (s.part.region == region) ≡ true = eq-eqb s.part.region region r in
    rw (one, two) refl

-- what it says where there is none
abbrev IsNamed : ℕ → ℕ → Slice → Type 0
IsNamed epoch region s = (s.head.epoch ≡ epoch) × (s.part.region ≡ region)

named_as-is : (epoch region : ℕ) (s : Slice) → named_as epoch region s ≡ None → IsNamed epoch region s
named_as-is epoch region s none = by ((s.head.epoch == epoch) && (s.part.region == region)) refl none
  where
    by : (b : Bool) → ((s.head.epoch == epoch) && (s.part.region == region)) ≡ b → (if b then None else Some unfit.Name) ≡ None
        → IsNamed epoch region s
    by true passes e =
        let parts = and_parts (s.head.epoch == epoch) (s.part.region == region) passes in
        (eqb-true s.head.epoch epoch parts.0, eqb-true s.part.region region parts.1)
    by false fails e = absurd (cc)

-- bytes without a fault spell such a slice
pub record IsReadAs (epoch region : ℕ) (bytes : List ℕ) : Type 0 where
  pub slice : Slice
  pub reads : slice_of bytes ≡ Ok slice
  pub named : IsNamed epoch region slice

read_as : (epoch region : ℕ) (bytes : List ℕ) → bytes_fault epoch region (slice_of bytes) ≡ None → IsReadAs epoch region bytes
read_as epoch region bytes none = by (slice_of bytes) refl none
  where
    by : (r : Result Slice PacketFault) → slice_of bytes ≡ r → bytes_fault epoch region r ≡ None → IsReadAs epoch region bytes
    by (Ok s) is e = record { slice = s; reads = is; named = named_as-is epoch region s e }
    by (Err fault) is e = absurd (cc)

-- the bytes of a region without a fault
pub whole_read : (epoch region : ℕ) (held : List Held) (bytes : List ℕ) → region_fault epoch region held ≡ None → whole_in region held ≡ Some bytes
    → IsReadAs epoch region bytes
whole_read epoch region held bytes none whole =
    read_as epoch region bytes
    (sym (ap (option_and_then (λ (b : List ℕ). bytes_fault epoch region (slice_of b))) whole) ∙ none)

-- no slice is spelt without bytes
no_bytes : (s : Slice) → slice_of [] ≡ Ok s → ⊥
unfolding slice_at whole_of raw_at number_at
no_bytes s e = absurd (cc)

-- ---- texts

-- the pieces of some bytes are texts
pub IsPieceText-piece : (bytes : List ℕ) (c : ℕ) → c < colours → 1 ≤ length bytes → length bytes ≤ most_piece_total → IsPieceText (piece_of bytes c)
unfolding piece_of number_bytes
IsPieceText-piece bytes c lt some few = record {
  total = length bytes;
  block = block bytes c;
  parts = refl;
  few = (some, few);
  third = omega (arith, length-piece bytes c lt, length-append (to_be_bytes w32 (length bytes)) (block bytes c));
}

-- a text says its total
pub total_of-text : (text : List ℕ) → (is : IsPieceText text) → total_of text ≡ is.total
unfolding number_bytes
total_of-text text is =
    ap total_of is.parts
    ∙ ap (from_be_bytes w32) (take_at (to_be_bytes w32 is.total) is.block 4 refl)
    ∙ from_be_bytes-to_be_bytes_4 is.total (omega (arith, is.few.1))

-- so it fits 32 bits
pub text-few : (text : List ℕ) → IsPieceText text → total_of text < 2 ^ 32
text-few text is = omega (arith, total_of-text text is, is.few.1)

-- ---- a piece that came

-- a piece is held where it was taken and its region has no fault then
record IsWith (epoch region colour : ℕ) (bytes : List ℕ) (held next : List Held) : Type 0 where
  took : taken region colour bytes held ≡ Ok next
  fits : region_fault epoch region next ≡ None

fits_by : (f : Option Unfit) (n next : List Held) → unless_unfit f n ≡ Ok next → (f ≡ None) × (n ≡ next)
fits_by None n next e = (refl, cc)
fits_by (Some reason) n next e = absurd (cc)

is_with : (epoch region colour : ℕ) (bytes : List ℕ) (held next : List Held) → held_with_piece epoch region colour bytes held ≡ Ok next
    → IsWith epoch region colour bytes held next
is_with epoch region colour bytes held next given = by (taken region colour bytes held) refl given
  where
    by : (t : Result (List Held) PieceFault) → taken region colour bytes held ≡ t
        → (unfit_by unfit.Piece t >>= λ n. unless_unfit (region_fault epoch region n) n) ≡ Ok next → IsWith epoch region colour bytes held next
    by (Err fault) is e = absurd (cc)
    by (Ok n) is e =
        let fit = fits_by (region_fault epoch region n) n next e in
        record { took = is ∙ ap (λ (h : List Held). Ok h) fit.1; fits = ap (region_fault epoch region) (sym fit.1) ∙ fit.0 }

module _ (epoch region colour : ℕ) (view : Picture) (bytes : List ℕ) (held next : List Held) (is : IsHeldFor epoch view held)
    (listed : IsTrue (lists view region)) (lt : colour < colours) (few : total_of bytes < 2 ^ 32)
    (given : held_with_piece epoch region colour bytes held ≡ Ok next) where
  -- what taking keeps
  pub piece_takes : Takes region colour bytes held next
  piece_takes = takes region colour bytes held next is.hold lt few (is_with epoch region colour bytes held next given).took

  -- and its region has no fault
  pub piece_fits : region_fault epoch region next ≡ None
  piece_fits = (is_with epoch region colour bytes held next given).fits

  -- so it is held for the epoch
  pub held_next : IsHeldFor epoch view next
  held_next = record {
    hold = piece_takes.hold;
    listed = listed-taken view region held listed is.listed colour bytes next (is_with epoch region colour bytes held next given).took;
    whole = λ other. elim (cases_eq other region) [
      | inl same ↦ ap (λ r. region_fault epoch r next) same ∙ piece_fits
      | inr apart ↦ ap (pieces_fault epoch other) (piece_takes.others other apart) ∙ is.whole other
    ];
  }

-- ---- a slice that came

-- a slice is spelt in few bytes, and in some
pub slice-few : (s : Slice) → IsSlice s → length (slice_bytes s) ≤ most_slice_bytes
slice-few s is = omega (arith, slice_codec.sized s is, slice_size s is)

slice-some : (s : Slice) → IsSlice s → 1 ≤ length (slice_bytes s)
slice-some s is =
    omega (arith, slice_codec.sized s is, sum-append (4 ∷ 4 ∷ []) (head_sizes s.head ++ part_sizes s.part))

-- and read again
pub slice_of-bytes : (s : Slice) → IsSlice s → slice_of (slice_bytes s) ≡ Ok s
slice_of-bytes s is = whole_only slice_codec s is

module _ (epoch : ℕ) (view : Picture) (held : List Held) (s : Slice) (is : IsHeldFor epoch view held) (slice : IsSlice s)
    (named : s.head.epoch ≡ epoch) (listed : IsTrue (lists view s.part.region)) (absent : length (of_region s.part.region held) ≢ 4) where
  abbrev after : List Held
  after = sliced s.part.region (slice_bytes s) held

  small : length (slice_bytes s) < 2 ^ 32
  small = omega (arith, slice-few s slice)

  -- the region has the four pieces of the bytes
  pub slice_four : of_region s.part.region after ≡ four_of (slice_bytes s)
  slice_four = (takes_slice s.part.region (slice_bytes s) held is.hold small).whole absent

  -- and is whole
  pub slice_whole : whole_in s.part.region after ≡ Some (slice_bytes s)
  slice_whole = ap given_by slice_four ∙ given_by-four (slice_bytes s) small

  -- so it is held for the epoch
  pub held_slice : IsHeldFor epoch view after
  held_slice =
      let took = takes_slice s.part.region (slice_bytes s) held is.hold small in
      let fits : region_fault epoch s.part.region after ≡ None =
      ap (option_and_then (λ (b : List ℕ). bytes_fault epoch s.part.region (slice_of b))) slice_whole
      ∙ ap (bytes_fault epoch s.part.region) (slice_of-bytes s slice)
      ∙ named_as-none epoch s.part.region s named refl in
      record {
        hold = took.hold;
        listed = listed-sliced view s.part.region held listed is.listed (slice_bytes s);
        whole = λ other. elim (cases_eq other s.part.region) [
          | inl same ↦ ap (λ r. region_fault epoch r after) same ∙ fits
          | inr apart ↦ ap (pieces_fault epoch other) (took.others other apart) ∙ is.whole other
        ];
      }

-- ---- the colours that became held

-- what follows for each that passes holds of those that are kept
All-kept : {T : Type 0} (P Q : T → Type 0) (p : T → Bool) → ((x : T) → p x ≡ true → P x → Q x) → (xs : List T) → AllByRecursion P xs
    → AllByRecursion Q (filter p xs)
All-kept P Q p follows [] all = tt
All-kept P Q p follows (x ∷ xs) all = by (p x) refl (All-kept P Q p follows xs all.1)
  where
    by : (b : Bool) → p x ≡ b → AllByRecursion Q (filter p xs) → AllByRecursion Q (if b then x ∷ filter p xs else filter p xs)
    by true passes rest = (follows x passes all.0, rest)
    by false passes rest = rest

all_colours : AllByRecursion (λ c. c < colours) (range_with_len 0 colours)
all_colours = (omega arith, (omega arith, (omega arith, (omega arith, tt))))

-- new colours are colours
pub new_colours-small : (region : ℕ) (held next : List Held) → AllByRecursion (λ c. c < colours) (new_colours region held next)
new_colours-small region held next =
    All-of_filter (λ c. c < colours) (λ c. is_some (piece_in region c next) && not (is_some (piece_in region c held))) (range_with_len 0 colours) all_colours

-- the bytes of a piece that is there
text-some : (region c : ℕ) (held : List Held) (text : List ℕ) → piece_in region c held ≡ Some text → text_in region c held ≡ text
text-some region c held text is = ap (λ (o : Option (List ℕ)). option_map_or (λ t. t) o []) is

-- of the four pieces of some bytes each is a text
text-four : (region : ℕ) (held : List Held) (whole : List ℕ) → of_region region held ≡ four_of whole → 1 ≤ length whole → length whole ≤ most_piece_total
    → (c : ℕ) → c < colours → IsPieceText (text_in region c held)
text-four region held whole four some few c lt =
    let there : piece_in region c held ≡ Some (piece_of whole c) =
    ap (λ (ps : List (ℕ × List ℕ)). option_map (λ (p : ℕ × List ℕ). p.1) (at_key colour_of c ps)) four
    ∙ ap (option_map (λ (p : ℕ × List ℕ). p.1)) (at_key-four whole c lt) in
    subst IsPieceText (sym (text-some region c held (piece_of whole c) there)) (IsPieceText-piece whole c lt some few)

-- of one or two pieces the new one is that which came
text-placed : (region colour : ℕ) (bytes : List ℕ) (held next : List Held)
    → of_region region next ≡ placed_by colour_of (colour, bytes) (of_region region held)
    → (c : ℕ) → piece_in region c next ≡ (if colour == c then Some bytes else piece_in region c held)
text-placed region colour bytes held next placed c =
    ap (λ (ps : List (ℕ × List ℕ)). option_map (λ (p : ℕ × List ℕ). p.1) (at_key colour_of c ps)) placed
    ∙ ap (option_map (λ (p : ℕ × List ℕ). p.1)) (find-placed colour_of (colour, bytes) c (of_region region held))
    ∙ by (colour == c)
  where
    by : (b : Bool) → option_map (λ (p : ℕ × List ℕ). p.1) (if b then Some (colour, bytes) else at_key colour_of c (of_region region held))
        ≡ (if b then Some bytes else piece_in region c held)
    by true = refl
    by false = refl

-- bytes that are read as a slice are some
module _ (epoch region : ℕ) (held : List Held) (whole : List ℕ) where
  read-some : length whole < 2 ^ 32 → of_region region held ≡ four_of whole → region_fault epoch region held ≡ None → 1 ≤ length whole
  read-some few four fits =
      let read = whole_read epoch region held whole fits (ap given_by four ∙ given_by-four whole few) in
      by whole read.slice read.reads
    where
      by : (bytes : List ℕ) (s : Slice) → slice_of bytes ≡ Ok s → 1 ≤ length bytes
      by [] s e = absurd (no_bytes s e)
      by (b ∷ bytes) s e = omega arith

module _ (epoch region colour : ℕ) (bytes : List ℕ) (held next : List Held) (takes : Takes region colour bytes held next)
    (fits : region_fault epoch region next ≡ None) (lt : colour < colours) (text : IsPieceText bytes) (absent : piece_in region colour held ≡ None) where
  -- whether a colour became held
  abbrev is_new : ℕ → Bool
  is_new c = is_some (piece_in region c next) && not (is_some (piece_in region c held))

  -- where the piece is the first or second
  text-first : length (of_region region held) < 2 → (c : ℕ) → (c ≡ colour) ⊎ (is_new c ≡ true) → IsPieceText (text_in region c next)
  text-first few c new =
      let placed = text-placed region colour bytes held next (takes.first absent few) c in
      by (colour == c) refl placed new
    where
      by : (b : Bool) → (colour == c) ≡ b → piece_in region c next ≡ (if b then Some bytes else piece_in region c held)
          → (c ≡ colour) ⊎ (is_new c ≡ true) → IsPieceText (text_in region c next)
      by true same there new = subst IsPieceText (sym (text-some region c next bytes there)) text
      by false other there (inl same) = absurd (cc (sym (eq-eqb colour c (sym same)) ∙ other))
      by false other there (inr new) =
          let parts = and_parts (is_some (piece_in region c next)) (not (is_some (piece_in region c held))) new in
          let gone : not (is_some (piece_in region c next)) ≡ true = ap (λ (o : Option (List ℕ)). not (is_some o)) there ∙ parts.1 in
          absurd (cc (gone, ap not parts.0))

  -- where it is the third
  text-third : 2 ≤ length (of_region region held) → (c : ℕ) → c < colours → IsPieceText (text_in region c next)
  text-third many c below =
      let done = takes.third absent many in
      let short = joined-short colour bytes done.x.0 done.x.1 done.y.0 done.y.1 done.whole done.joins in
      let few : length done.whole ≤ most_piece_total = omega (arith, short, total_of-text bytes text, text.few.1) in
      text-four region next done.whole done.four (read-some epoch region next done.whole done.few done.four fits) few c below

  text-new : (c : ℕ) → c < colours → (c ≡ colour) ⊎ (is_new c ≡ true) → IsPieceText (text_in region c next)
  text-new c below new = elim (cases_lt (length (of_region region held)) 2) [
    | inl few ↦ text-first few c new
    | inr many ↦ text-third many c below
  ]

  abbrev HasText : ℕ → Type 0
  HasText c = IsPieceText (text_in region c next)

  -- each colour that became held has a text
  texts : AllByRecursion HasText (came_first colour (new_colours region held next))
  texts = (
    text-new colour lt (inl refl),
    All-of_filter HasText (λ other. not (other == colour)) (new_colours region held next)
        (All-kept (λ c. c < colours) HasText is_new (λ c new below. text-new c below (inr new)) (range_with_len 0 colours) all_colours),
  )

-- ---- what a member gains

-- what is gained by a piece
record IsGainedBy (m : Following) (region colour : ℕ) (bytes : List ℕ) (gain : Gain) : Type 0 where
  next : List Held
  given : held_with_piece (m.view.epoch + 1) region colour bytes m.held ≡ Ok next
  made : record { region = region; held = next; colours = came_first colour (new_colours region m.held next) } ≡ gain

is_gained_by : (m : Following) (region colour : ℕ) (bytes : List ℕ) (gain : Gain) → gain_of_piece m region colour bytes ≡ Ok gain
    → IsGainedBy m region colour bytes gain
is_gained_by m region colour bytes gain e = by (held_with_piece (m.view.epoch + 1) region colour bytes m.held) refl e
  where
    by : (r : Result (List Held) Unfit) → held_with_piece (m.view.epoch + 1) region colour bytes m.held ≡ r
        → (r >>= λ (held : List Held). Ok (record { region = region; held = held; colours = came_first colour (new_colours region m.held held) })) ≡ Ok gain
        → IsGainedBy m region colour bytes gain
    by (Ok next) is e = record { next = next; given = is; made = cc }
    by (Err reason) is e = absurd (cc)

-- a piece of a listed region, of the next epoch, that isn't held
pub gain_of_piece-is : (m : Following) (region colour : ℕ) (bytes : List ℕ) (gain : Gain) → IsFollowing m → IsLaterEpoch (m.view.epoch + 1)
    → IsRegion region → IsTrue (lists m.view region) → colour < colours → IsPieceText bytes → piece_in region colour m.held ≡ None
    → gain_of_piece m region colour bytes ≡ Ok gain → IsGain m gain
gain_of_piece-is m region colour bytes gain is epoch is_region listed lt text absent given =
    let by = is_gained_by m region colour bytes gain given in
    let e = m.view.epoch + 1 in
    let few = text-few bytes text in
    let takes = piece_takes e region colour m.view bytes m.held by.next is.held listed lt few by.given in
    let fits = piece_fits e region colour m.view bytes m.held by.next is.held listed lt few by.given in
    subst (IsGain m) by.made (record {
      epoch = epoch;
      region = is_region;
      listed = listed;
      colours = (
        lt,
        All-of_filter (λ c. c < colours) (λ other. not (other == colour)) (new_colours region m.held by.next)
            (new_colours-small region m.held by.next),
      );
      texts = texts e region colour bytes m.held by.next takes fits lt text absent;
      held = held_next e region colour m.view bytes m.held by.next is.held listed lt few by.given;
    })

-- a slice of the next epoch and of a listed region that isn't whole
pub gain_of_slice-is : (m : Following) (s : Slice) → IsFollowing m → IsLaterEpoch (m.view.epoch + 1) → IsSlice s → s.head.epoch ≡ m.view.epoch + 1
    → IsTrue (lists m.view s.part.region) → length (of_region s.part.region m.held) ≢ 4 → IsGain m (gain_of_slice m s)
gain_of_slice-is m s is epoch slice named listed absent =
    let region = s.part.region in
    let next : List Held = sliced region (slice_bytes s) m.held in
    let few : length (slice_bytes s) ≤ most_piece_total = omega (arith, slice-few s slice) in
    record {
      epoch = epoch;
      region = slice.part.region;
      listed = listed;
      colours = new_colours-small region m.held next;
      texts =
          All-kept (λ c. c < colours) (λ c. IsPieceText (text_in region c next))
          (λ c. is_some (piece_in region c next) && not (is_some (piece_in region c m.held)))
          (λ c new below. text-four region next (slice_bytes s) (slice_four (m.view.epoch + 1) m.view m.held s is.held slice named listed absent)
          (slice-some s slice) few c below)
          (range_with_len 0 colours) all_colours;
      held = held_slice (m.view.epoch + 1) m.view m.held s is.held slice named listed absent;
    }
