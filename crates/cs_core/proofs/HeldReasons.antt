-- Why a piece isn't held: each reason can be told.
use Rattle.std.proofs.Common.{◌≡◌, ◌⊎◌, ℕ, ◌<◌, ◌==◌, ◌&&◌, Bool, true, false, if◌then◌else◌, List, [], ◌∷◌}
use Rattle.std.proofs.Common.{is_some, Option, Some, None, Result, Ok, Err, refl, sym, ap, subst, ◌∙◌, inl, inr, arith}
use Rattle.std.specs.Option.{option_and_then}
use Rattle.cs_base.specs.Ascending.{at_key}
use Rattle.cs_base.specs.Limits.{colours}
use Rattle.cs_fields.specs.declared.fault.PacketFault.{PacketFault}
use Rattle.cs_hold.specs.Held.{Held, IsHold, of_region}
use Rattle.cs_hold.specs.Pieces.{ArePieces, colour_of, four_from, gained}
use Rattle.cs_hold.specs.Taking.{put_in, taken}
use Rattle.cs_hold.specs.Whole.{whole_in}
use Rattle.cs_hold.proofs.Gained.{misfit}
use Rattle.cs_item.specs.SliceField.{slice_at}
use Rattle.cs_item.specs.declared.slice.Slice.{Slice}
use Rattle.cs_piece.specs.Joining.{joined}
use Rattle.cs_piece.specs.declared.fault.PieceFault.{PieceFault}
use Rattle.cs_piece.specs.declared.fault.PieceFault.TheVariants.{Length, Padding}
use Rattle.cs_core.specs.Holding.{bytes_fault, held_with_piece, named_as, region_fault, slice_of}
use Rattle.cs_core.specs.Plans.{unfit_by, unless_unfit, ◌>>=◌}
use Rattle.cs_core.specs.Sound.{IsPieceReason, IsReason}
use Rattle.cs_core.specs.declared.plan.Unfit.{Unfit}
use Rattle.cs_core.specs.declared.plan.Unfit.TheVariants as unfit
use Rattle.cs_core.proofs.Readers.{slice-faults, whole_of-fault}

-- bytes that are no slice have a fault, and memory is none
pub slice_of-fault : (bytes : List ℕ) (fault : PacketFault) → slice_of bytes ≡ Err fault → IsReason (unfit.Bytes fault)
slice_of-fault bytes fault e same = whole_of-fault slice_at slice-faults bytes (e ∙ ap (λ (f : PacketFault). Err f) same)

named_as-reason : (epoch region : ℕ) (s : Slice) (reason : Unfit) → named_as epoch region s ≡ Some reason → IsReason reason
named_as-reason epoch region s reason e = by ((s.head.epoch == epoch) && (s.part.region == region)) e
  where
    by : (b : Bool) → (if b then None else Some unfit.Name) ≡ Some reason → IsReason reason
    by true e = absurd (cc)
    by false e = let same : unfit.Name ≡ reason = cc in subst IsReason same tt

bytes-reason : (epoch region : ℕ) (bytes : List ℕ) (reason : Unfit) → bytes_fault epoch region (slice_of bytes) ≡ Some reason → IsReason reason
bytes-reason epoch region bytes reason e = by (slice_of bytes) refl e
  where
    by : (r : Result Slice PacketFault) → slice_of bytes ≡ r → bytes_fault epoch region r ≡ Some reason → IsReason reason
    by (Ok s) is e = named_as-reason epoch region s reason e
    by (Err fault) is e = let same : unfit.Bytes fault ≡ reason = cc in subst IsReason same (slice_of-fault bytes fault is)

-- why a region isn't the slice that its pieces are said to be of
pub region-reason : (epoch region : ℕ) (held : List Held) (reason : Unfit) → region_fault epoch region held ≡ Some reason → IsReason reason
region-reason epoch region held reason e = by (whole_in region held) e
  where
    by : (whole : Option (List ℕ)) → option_and_then (λ (b : List ℕ). bytes_fault epoch region (slice_of b)) whole ≡ Some reason → IsReason reason
    by None e = absurd (cc)
    by (Some bytes) e = bytes-reason epoch region bytes reason e

-- a piece that doesn't fit
piece-told : (fault : PieceFault) → (fault ≡ Length) ⊎ (fault ≡ Padding) → IsPieceReason fault
piece-told fault (inl same) = subst IsPieceReason (sym same) tt
piece-told fault (inr same) = subst IsPieceReason (sym same) tt

joined-fault : (given : Result (List ℕ) PieceFault) (fault : PieceFault) → four_from given ≡ Err fault → given ≡ Err fault
joined-fault (Ok bytes) fault e = absurd (cc)
joined-fault (Err other) fault e = let same : other ≡ fault = cc in ap (λ (f : PieceFault). Err f) same

gained-reason : (colour : ℕ) (bytes : List ℕ) (pieces : List (ℕ × List ℕ)) (fault : PieceFault) → ArePieces pieces → colour < colours
    → at_key colour_of colour pieces ≡ None → gained colour bytes pieces ≡ Err fault → IsPieceReason fault
gained-reason colour bytes [] fault are lt absent e = absurd (cc)
gained-reason colour bytes (x ∷ []) fault are lt absent e = absurd (cc)
gained-reason colour bytes (x ∷ y ∷ []) fault are lt absent e =
    piece-told fault
    (misfit colour bytes (x ∷ y ∷ []) x y fault are lt absent (omega arith) refl refl (joined-fault (joined colour bytes x.0 x.1 y.0 y.1) fault e))
gained-reason colour bytes (x ∷ y ∷ z ∷ rest) fault are lt absent e = absurd (cc)

put-fault : (region : ℕ) (held : List Held) (given : Result (List (ℕ × List ℕ)) PieceFault) (fault : PieceFault) → put_in region held given ≡ Err fault
    → given ≡ Err fault
put-fault region held (Ok pieces) fault e = absurd (cc)
put-fault region held (Err other) fault e = let same : other ≡ fault = cc in ap (λ (f : PieceFault). Err f) same

-- why a piece isn't taken
pub taken-reason : (region colour : ℕ) (bytes : List ℕ) (held : List Held) (fault : PieceFault) → IsHold held → colour < colours
    → taken region colour bytes held ≡ Err fault → IsPieceReason fault
taken-reason region colour bytes held fault hold lt e = by (at_key colour_of colour (of_region region held)) refl e
  where
    by : (found : Option (ℕ × List ℕ)) → at_key colour_of colour (of_region region held) ≡ found
        → (if is_some found then Ok held else put_in region held (gained colour bytes (of_region region held))) ≡ Err fault → IsPieceReason fault
    by (Some p) is e = absurd (cc)
    by None is e =
        gained-reason colour bytes (of_region region held) fault (hold.regions region) lt is
        (put-fault region held (gained colour bytes (of_region region held)) fault e)

-- why a piece isn't held
pub held-reason : (epoch region colour : ℕ) (bytes : List ℕ) (held : List Held) (reason : Unfit) → IsHold held → colour < colours
    → held_with_piece epoch region colour bytes held ≡ Err reason → IsReason reason
held-reason epoch region colour bytes held reason hold lt e = by (taken region colour bytes held) refl e
  where
    unless : (f : Option Unfit) (next : List Held) → unless_unfit f next ≡ Err reason → f ≡ Some reason
    unless None next e = absurd (cc)
    unless (Some other) next e = let same : other ≡ reason = cc in ap (λ (f : Unfit). Some f) same

    by : (t : Result (List Held) PieceFault) → taken region colour bytes held ≡ t
        → (unfit_by unfit.Piece t >>= λ next. unless_unfit (region_fault epoch region next) next) ≡ Err reason → IsReason reason
    by (Err fault) is e = let same : unfit.Piece fault ≡ reason = cc in subst IsReason same (taken-reason region colour bytes held fault hold lt is)
    by (Ok next) is e = region-reason epoch region next reason (unless (region_fault epoch region next) next e)
