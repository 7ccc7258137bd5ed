-- The laws of a summary.
use Rattle.std.proofs.Common.{◌≡◌, ℕ, zero, suc, ◌*◌, ◌<◌, ◌≤◌, min, Bool, true, false, cond, ℤ, pos, ◌*ℤ◌, ◌≤ℤ◌, List, [], ◌∷◌, ◌++◌}
use Rattle.std.proofs.Common.{length, Result, Ok, Err}
use Rattle.std.proofs.Common.{refl, sym, subst, append_assoc, arith}
use Rattle.std.specs.Prelude.{FitsSigned, neg_ℤ}
use Rattle.std.specs.Int.{w64}
use Rattle.std.specs.List.{sum}
use Rattle.std.proofs.lemmas.Int.{ints}
use Rattle.std.proofs.lemmas.List.{append-nil}
use Rattle.cs_base.specs.Axes.{Axes, IsNear, IsPoint}
use Rattle.cs_base.specs.Limits.{farthest, most_globals, most_members}
use Rattle.cs_base.specs.Ranges.{IsFromTo}
use Rattle.cs_base.specs.declared.member.Member.{Member}
use Rattle.cs_fields.specs.declared.fault.PacketFault.{PacketFault}
use Rattle.cs_fields.specs.Reading.{Reader, ◌>>=◌, Gives, IsTaken}
use Rattle.cs_fields.specs.Fields.{point_at, point_bytes, point_sizes}
use Rattle.cs_fields.proofs.Codec.{IsBytes, IsCodec, IsCodec-bind, IsCodec-done, IsCodec-same, IsCodec-text, Gives-same, bind_ok, sum-append, taken}
use Rattle.cs_fields.proofs.Fields.{axis_codec, cast64, point_codec, signed_codec}
use Rattle.cs_fields.proofs.Numbers.{number_in_codec}
use Rattle.cs_roll.specs.Summary.{IsBounded, IsSummary, RegionSummary}
use Rattle.cs_item.specs.SummaryField.{AreGlobals, globals_at, globals_bytes, globals_len, globals_sizes, high_at, IsHigh, IsShortSummary, is_sum_of}
use Rattle.cs_item.specs.SummaryField.{sum_at, sum_bytes, sum_sizes, summary_at, summary_bytes, summary_len, summary_sizes, sums_fit}
use Rattle.cs_item.proofs.RollLaws.{members_codec, members_size}

-- ---- sums and bounds
-- one number for each axis
axes_codec : {at_x at_y at_z : Reader ℤ} {spell sizes : ℤ → List ℕ} {X Y Z : ℤ → Type 0} → IsCodec at_x spell sizes X → IsCodec at_y spell sizes Y
    → IsCodec at_z spell sizes Z
    → IsCodec {T = Axes} (λ bytes at. at_x bytes at >>= λ x. at_y bytes x.1 >>= λ y. at_z bytes y.1 >>= λ z. Ok (record { x = x.0; y = y.0; z = z.0 }, z.1))
    (λ p. spell p.x ++ (spell p.y ++ (spell p.z ++ []))) (λ p. sizes p.x ++ (sizes p.y ++ (sizes p.z ++ []))) (λ p. X p.x × Y p.y × Z p.z)
axes_codec {at_x} {at_y} {at_z} law_x law_y law_z =
    IsCodec-bind (λ x. λ bytes at. at_y bytes at >>= λ y. at_z bytes y.1 >>= λ z. Ok (record { x = x.0; y = y.0; z = z.0 }, z.1)) (λ p. p.x) law_x
    (λ x is_x. IsCodec-bind (λ y. λ bytes at. at_z bytes at >>= λ z. Ok (record { x = x.0; y = y.0; z = z.0 }, z.1)) (λ p. p.y) law_y
    (λ y is_y. IsCodec-bind (λ z. λ bytes at. Ok (record { x = x.0; y = y.0; z = z.0 }, at)) (λ p. p.z) law_z
    (λ z is_z. IsCodec-done (record { x = x.0; y = y.0; z = z.0 }) (refl, (refl, (refl, (is_x, is_y, is_z))))
    (λ p is. rw (← is.0, ← is.1.0, ← is.1.1.0) refl))
    (λ p is. is.1.1.2))
    (λ p is. is.1.1))
    (λ p is. is.0)

-- each number fits 64 bits
pub record AreWide (p : Axes) : Type 0 where
  pub x : FitsSigned w64 p.x
  pub y : FitsSigned w64 p.y
  pub z : FitsSigned w64 p.z

pub sum_codec : IsCodec sum_at sum_bytes sum_sizes AreWide
unfolding sum_at sum_bytes
sum_codec =
    let one = signed_codec w64 8 cast64 in
    IsCodec-same (axes_codec one one one) (λ p is. record { x = is.0; y = is.1; z = is.2 }) (λ p is. (is.x, is.y, is.z))
    (λ p is. (simp (append_assoc, append-nil), refl))

pub high_codec : (low : Axes) → IsPoint low → IsCodec (high_at low) point_bytes point_sizes (IsHigh low)
unfolding high_at point_bytes
high_codec low near =
    IsCodec-same (axes_codec (axis_codec low.x near.x.0) (axis_codec low.y near.y.0) (axis_codec low.z near.z.0))
    (λ p is. record { x = is.0; y = is.1; z = is.2 }) (λ p is. (is.x, is.y, is.z)) (λ p is. (simp (append_assoc, append-nil), refl))

pub high_taken : (low : Axes) (bytes : List ℕ) (at : ℕ) (r : Result (Axes × ℕ) PacketFault) → IsPoint low → IsBytes bytes → at ≤ length bytes
    → r ≡ high_at low bytes at → IsTaken point_bytes (IsHigh low) 12 bytes at r
high_taken low bytes at r near are_bytes within e = taken 12 bytes at r (high_codec low near) (λ p is. omega arith) are_bytes within (Gives-same r _ e)

-- ---- globals
pub globals_codec : (size : ℕ) → IsCodec (globals_at size) globals_bytes globals_sizes (AreGlobals size)
unfolding globals_at globals_bytes
globals_codec size = members_codec 1 (min most_globals size) (min most_globals size) (omega arith) (omega arith)

pub globals_size : (size : ℕ) (members : List Member) → AreGlobals size members → sum (globals_sizes members) ≤ globals_len
globals_size size members are = members_size 1 most_globals members are.allowed (omega (arith, are.few))

pub globals_taken : (size : ℕ) (bytes : List ℕ) (at : ℕ) (r : Result (List Member × ℕ) PacketFault) → IsBytes bytes → at ≤ length bytes
    → Gives r (globals_at size bytes at) → IsTaken globals_bytes (AreGlobals size) globals_len bytes at r
globals_taken size bytes at r are_bytes within given = taken globals_len bytes at r (globals_codec size) (globals_size size) are_bytes within given

-- ---- the sums within the bounds
-- a test that is passed is a fact
bounded : (size : ℕ) (low high sum : ℤ) → low ≤ℤ high → is_sum_of size low high sum ≡ true → IsBounded size sum low high
bounded size low high sum ordered e = record { ordered = ordered; at_least = grind (arith, ints); at_most = grind (arith, ints) }

passed : (size : ℕ) (low high sum : ℤ) → IsBounded size sum low high → is_sum_of size low high sum ≡ true
passed size low high sum is = let least = is.at_least in let most = is.at_most in grind (arith, ints)

pub record AreSums (size : ℕ) (sum low high : Axes) : Type 0 where
  pub x : is_sum_of size low.x high.x sum.x ≡ true
  pub y : is_sum_of size low.y high.y sum.y ≡ true
  pub z : is_sum_of size low.z high.z sum.z ≡ true

if_fits : {A : Type 0} (b : Bool) (fault : PacketFault) (r : Result A PacketFault) (x : A) → cond b r (Err fault) ≡ Ok x → (b ≡ true) × (r ≡ Ok x)
if_fits true fault r x e = (refl, e)
if_fits false fault r x e = cc

fits-sums : (size : ℕ) (sum low high : Axes) (at : ℕ) (u : Unit {0}) → sums_fit size sum low high at ≡ Ok u → AreSums size sum low high
unfolding sums_fit
fits-sums size sum low high at u e =
    let x = if_fits (is_sum_of size low.x high.x sum.x) _ _ u e in
    let y = if_fits (is_sum_of size low.y high.y sum.y) _ _ u x.1 in
    let z = if_fits (is_sum_of size low.z high.z sum.z) _ _ u y.1 in
    record { x = x.0; y = y.0; z = z.0 }

sums-fit : (size : ℕ) (sum low high : Axes) (at : ℕ) → AreSums size sum low high → sums_fit size sum low high at ≡ Ok tt
unfolding sums_fit
sums-fit size sum low high at are = rw (are.x, are.y, are.z) refl

-- what `check_sum` found
pub checked_sums : (s : RegionSummary) (at : ℕ) → 0 < s.size → s.size ≤ most_members → IsPoint s.low → IsHigh s.low s.high
    → Ok tt ≡ sums_fit s.size s.sum s.low s.high at → AreGlobals s.size s.globals → IsSummary s
checked_sums s at some few low high fit globals =
    let are = fits-sums s.size s.sum s.low s.high at tt (sym fit) in
    record {
      some = some;
      few = omega arith;
      low = low;
      high = record {
        x = (omega (arith, ints, low.x.0, high.x.0), high.x.1);
        y = (omega (arith, ints, low.y.0, high.y.0), high.y.1);
        z = (omega (arith, ints, low.z.0, high.z.0), high.z.1);
      };
      x = bounded s.size s.low.x s.high.x s.sum.x high.x.0 are.x;
      y = bounded s.size s.low.y s.high.y s.sum.y high.y.0 are.y;
      z = bounded s.size s.low.z s.high.z s.sum.z high.z.0 are.z;
      globals = omega (arith, globals.enough, globals.few);
      roll = record { ascending = globals.ascending; allowed = globals.allowed };
    }

-- so many times a number near 0
product_near : (size : ℕ) (z : ℤ) → IsNear farthest z → (neg_ℤ (pos (farthest * size)) ≤ℤ (pos size *ℤ z)) × ((pos size *ℤ z) ≤ℤ pos (farthest * size))
product_near zero z near = (omega (arith, ints), omega (arith, ints))
product_near (suc n) z near =
    let rest = product_near n z near in
    (omega (arith, ints, rest.0, near.0), omega (arith, ints, rest.1, near.1))

pub times_near : (size : ℕ) (z : ℤ) → size ≤ most_members → IsNear farthest z → IsNear (farthest * most_members) (pos size *ℤ z)
times_near size z few near = let all = product_near size z near in (omega (arith, ints, all.0), omega (arith, ints, all.1))

wide : (size : ℕ) (sum low high : ℤ) → size ≤ most_members → IsNear farthest low → IsNear farthest high → IsBounded size sum low high → FitsSigned w64 sum
wide size sum low high few near_low near_high is =
    let least = times_near size low few near_low in
    let most = times_near size high few near_high in
    omega (arith, ints, is.at_least, is.at_most, least.0, most.1)

wide_sums : (s : RegionSummary) → IsShortSummary s → AreWide s.sum
wide_sums s is = record {
  x = wide s.size s.sum.x s.low.x s.high.x is.few is.summary.low.x is.summary.high.x is.summary.x;
  y = wide s.size s.sum.y s.low.y s.high.y is.few is.summary.low.y is.summary.high.y is.summary.y;
  z = wide s.size s.sum.z s.low.z s.high.z is.few is.summary.low.z is.summary.high.z is.summary.z;
}

-- ---- the whole summary
-- what is read only where a test is passed
guarded_codec : {T : Type 0} (check : Result (Unit {0}) PacketFault) {read : Reader T} {spell sizes : T → List ℕ} {Allowed : T → Type 0}
    → (check ≡ Ok tt → IsCodec read spell sizes Allowed) → ((v : T) → Allowed v → check ≡ Ok tt)
    → IsCodec (λ bytes at. check >>= λ u. read bytes at) spell sizes Allowed
guarded_codec check {read} law passes = record {
  found = λ bytes at x are_bytes within e.
      let step = bind_ok check (λ u. read bytes at) x e in
      (law step.1).found bytes at x are_bytes within step.2;
  only = λ bytes at v rest allowed e. rw (passes v allowed) ((law (passes v allowed)).only bytes at v rest allowed e);
  sized = λ v allowed. (law (passes v allowed)).sized v allowed;
  short = λ bytes at v n allowed within lt e. rw (passes v allowed) ((law (passes v allowed)).short bytes at v n allowed within lt e);
}

high_of_summary : (s : RegionSummary) → IsShortSummary s → IsHigh s.low s.high
high_of_summary s is = record {
  x = (is.summary.x.ordered, is.summary.high.x.1);
  y = (is.summary.y.ordered, is.summary.high.y.1);
  z = (is.summary.z.ordered, is.summary.high.z.1);
}

globals_of_summary : (s : RegionSummary) → IsShortSummary s → AreGlobals s.size s.globals
globals_of_summary s is = record {
  enough = omega (arith, is.summary.globals);
  few = omega (arith, is.summary.globals);
  allowed = is.summary.roll.allowed;
  ascending = is.summary.roll.ascending;
}

sums_of_summary : (s : RegionSummary) → IsShortSummary s → AreSums s.size s.sum s.low s.high
sums_of_summary s is = record {
  x = passed s.size s.low.x s.high.x s.sum.x is.summary.x;
  y = passed s.size s.low.y s.high.y s.sum.y is.summary.y;
  z = passed s.size s.low.z s.high.z s.sum.z is.summary.z;
}

-- a summary of these parts
abbrev summary_with : ℕ → Axes → Axes → Axes → List Member → RegionSummary
summary_with size sum low high globals = record { size = size; sum = sum; low = low; high = high; globals = globals }

-- what has been read of it
abbrev WithSize : ℕ → RegionSummary → Type 0
WithSize size s = (s.size ≡ size) × IsShortSummary s

abbrev WithSum : ℕ → Axes → RegionSummary → Type 0
WithSum size sum s = (s.sum ≡ sum) × WithSize size s

abbrev WithLow : ℕ → Axes → Axes → RegionSummary → Type 0
WithLow size sum low s = (s.low ≡ low) × WithSum size sum s

abbrev WithHigh : ℕ → Axes → Axes → Axes → RegionSummary → Type 0
WithHigh size sum low high s = (s.high ≡ high) × WithLow size sum low s

abbrev WithAll : ℕ → Axes → Axes → Axes → List Member → RegionSummary → Type 0
WithAll size sum low high globals s = (s.globals ≡ globals) × WithHigh size sum low high s

all_is : (size : ℕ) (sum low high : Axes) (globals : List Member) (s : RegionSummary) → WithAll size sum low high globals s
    → s ≡ summary_with size sum low high globals
all_is size sum low high globals s is = rw (← is.0, ← is.1.0, ← is.1.1.0, ← is.1.1.1.0, ← is.1.1.1.1.0) refl

-- the sums of what has been read
sums_of_parts : (size : ℕ) (sum low high : Axes) (globals : List Member) (s : RegionSummary) → WithAll size sum low high globals s → AreSums size sum low high
sums_of_parts size sum low high globals s is =
    let same = all_is size sum low high globals s is in
    subst (λ (t : RegionSummary). AreSums t.size t.sum t.low t.high) same (sums_of_summary s is.1.1.1.1.1)

-- what is left to do when all has been read
last_codec : (size : ℕ) (sum low high : Axes) (globals : List Member) (at : ℕ) → IsFromTo 1 most_members size → IsPoint low → IsHigh low high
    → AreGlobals size globals
    → IsCodec (λ bytes behind. sums_fit size sum low high at >>= λ fit. Ok (summary_with size sum low high globals, behind)) (λ s. []) (λ s. [])
    (WithAll size sum low high globals)
last_codec size sum low high globals at is_size is_low is_high are_globals =
    guarded_codec (sums_fit size sum low high at)
    (λ fit. IsCodec-done (summary_with size sum low high globals) (
      refl,
      (
        refl,
        (
          refl,
          (
            refl,
            (
              refl,
              record {
                summary = checked_sums (summary_with size sum low high globals) at (omega (arith, is_size.0)) is_size.1 is_low is_high (sym fit) are_globals;
                few = is_size.1;
              },
            ),
          ),
        ),
      ),
    )
    (all_is size sum low high globals))
    (λ s is. sums-fit size sum low high at (sums_of_parts size sum low high globals s is))

pub summary_codec : IsCodec summary_at summary_bytes summary_sizes IsShortSummary
unfolding summary_at summary_bytes
summary_codec =
    IsCodec-text
    (IsCodec-bind
    (λ size. λ bytes at. sum_at bytes at >>= λ sum. point_at bytes sum.1 >>= λ low. high_at low.0 bytes low.1 >>= λ high. globals_at size.0 bytes high.1 >>=
    λ globals. sums_fit size.0 sum.0 low.0 high.0 size.1 >>= λ fit. Ok (summary_with size.0 sum.0 low.0 high.0 globals.0, globals.1))
    (λ s. s.size) (number_in_codec 4 1 most_members (omega arith) (omega arith))
    (λ size is_size. IsCodec-bind
    (λ sum. λ bytes at. point_at bytes at >>= λ low. high_at low.0 bytes low.1 >>= λ high. globals_at size.0 bytes high.1 >>= λ globals.
    sums_fit size.0 sum.0 low.0 high.0 size.1 >>= λ fit. Ok (summary_with size.0 sum.0 low.0 high.0 globals.0, globals.1))
    (λ s. s.sum) sum_codec
    (λ sum is_sum. IsCodec-bind
    (λ low. λ bytes at. high_at low.0 bytes at >>= λ high. globals_at size.0 bytes high.1 >>= λ globals.
    sums_fit size.0 sum.0 low.0 high.0 size.1 >>= λ fit. Ok (summary_with size.0 sum.0 low.0 high.0 globals.0, globals.1))
    (λ s. s.low) point_codec
    (λ low is_low. IsCodec-bind
    (λ high. λ bytes at. globals_at size.0 bytes at >>= λ globals.
    sums_fit size.0 sum.0 low.0 high.0 size.1 >>= λ fit. Ok (summary_with size.0 sum.0 low.0 high.0 globals.0, globals.1))
    (λ s. s.high) (high_codec low.0 is_low)
    (λ high is_high. IsCodec-bind
    (λ globals. λ bytes at. sums_fit size.0 sum.0 low.0 high.0 size.1 >>= λ fit. Ok (summary_with size.0 sum.0 low.0 high.0 globals.0, at))
    (λ s. s.globals) (globals_codec size.0)
    (λ globals are_globals. last_codec size.0 sum.0 low.0 high.0 globals.0 size.1 is_size is_low is_high are_globals)
    (λ s is. subst (λ (n : ℕ). AreGlobals n s.globals) is.1.1.1.0 (globals_of_summary s is.1.1.1.1)))
    (λ s is. subst (λ (p : Axes). IsHigh p s.high) is.0 (high_of_summary s is.1.1.1)))
    (λ s is. is.1.1.summary.low))
    (λ s is. wide_sums s is.1))
    (λ s is. (omega (arith, is.summary.some), is.few)))
    (λ s is. (simp (append_assoc, append-nil), simp append-nil))

pub summary_size : (s : RegionSummary) → IsShortSummary s → sum (summary_sizes s) ≤ summary_len
summary_size s is =
    omega (
      arith,
      sum-append (4 ∷ sum_sizes s.sum ++ point_sizes s.low ++ point_sizes s.high) (globals_sizes s.globals),
      globals_size s.size s.globals (globals_of_summary s is),
    )

pub summary_taken : (bytes : List ℕ) (at : ℕ) (r : Result (RegionSummary × ℕ) PacketFault) → IsBytes bytes → at ≤ length bytes
    → Gives r (summary_at bytes at) → IsTaken summary_bytes IsShortSummary summary_len bytes at r
summary_taken bytes at r are_bytes within given = taken summary_len bytes at r summary_codec summary_size are_bytes within given
