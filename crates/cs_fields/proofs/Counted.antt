-- The laws of counted lists: of elements that go by what came before, and of ascending ones.
use Rattle.std.proofs.Common.{◌≡◌, ℕ, zero, suc, ◌+◌, ◌*◌, ◌^◌, ◌<◌, ◌≤◌, List, [], ◌∷◌, ◌++◌, length, drop, take, Ok, Err, refl, sym, ap, subst, ◌∙◌}
use Rattle.std.proofs.Common.{append_assoc, arith}
use Rattle.std.specs.List.{flat_map, AllByRecursion, sum}
use Rattle.std.proofs.Math.Nat.{mul-le-mul_left}
use Rattle.std.proofs.lemmas.List.{length-append}
use Rattle.cs_base.proofs.Elements.{All-weaker}
use Rattle.cs_fields.specs.declared.fault.PacketFault.TheVariants.{Short}
use Rattle.cs_base.specs.Ascending.{IsAscendingBy}
use Rattle.cs_fields.specs.Reading.{Reader, ◌>>=◌, IsSpelt}
use Rattle.cs_fields.specs.Whole.{field_start}
use Rattle.cs_base.specs.Ranges.{IsFromTo}
use Rattle.cs_fields.specs.Counted.{elements_at, counted_at, counted, counted_sizes, above, IsListed}
use Rattle.cs_fields.proofs.Codec.{IsBytes, IsCodec, IsCodec-bind, IsCodec-same, bind_ok, IsSpelt-then, drop_behind, short_then, sum-append, sum-cons}
use Rattle.cs_fields.proofs.Numbers.{number_in_codec}

-- each element is allowed by what came before it
abbrev pub IsAllowedFrom : {S T : Type 0} → (S → T → Type 0) → (S → T → S) → S → List T → Type 0
IsAllowedFrom Allowed after before [] = Unit {0}
IsAllowedFrom Allowed after before (x ∷ xs) = Allowed before x × IsAllowedFrom Allowed after (after before x) xs

-- so many elements, each allowed
abbrev pub AreElements : {S T : Type 0} → (S → T → Type 0) → (S → T → S) → S → ℕ → List T → Type 0
AreElements Allowed after before n xs = (length xs ≡ n) × IsAllowedFrom Allowed after before xs

-- `Good` says what may have come before: the law of an element is asked for that alone
module _ {S T : Type 0} {element : S → Reader T} (after : S → T → S) {spell sizes : T → List ℕ} {Allowed : S → T → Type 0} (Good : S → Type 0)
    (law : (before : S) → Good before → IsCodec (element before) spell sizes (Allowed before))
    (stays : (before : S) (x : T) → Good before → Allowed before x → Good (after before x)) where
  -- what is read are so many allowed elements, spelt so
  elements_found : (n : ℕ) (before : S) → Good before → (bytes : List ℕ) (at : ℕ) (y : List T × ℕ) → IsBytes bytes → at ≤ length bytes
      → elements_at element after n before bytes at ≡ Ok y → AreElements Allowed after before n y.0 × IsSpelt bytes at (flat_map spell y.0) y.1
  unfolding elements_at
  elements_found zero before good bytes at y are_bytes within e =
      let none : AreElements Allowed after before 0 [] × IsSpelt bytes at [] at = ((refl, tt), record { parts = refl; ends = omega arith; within = within }) in
      let is : ([], at) ≡ y = cc in
      subst (λ (z : List T × ℕ). AreElements Allowed after before 0 z.0 × IsSpelt bytes at (flat_map spell z.0) z.1) is none
  elements_found (suc n) before good bytes at y are_bytes within e =
      let step = bind_ok (element before bytes at) (λ first. elements_at element after n (after before first.0) bytes first.1 >>= λ others. Ok
      (first.0 ∷ others.0, others.1)) y e in
      let x = step.0 in
      let more = bind_ok (elements_at element after n (after before x.0) bytes x.1) (λ others. Ok (x.0 ∷ others.0, others.1)) y step.2 in
      let xs = more.0 in
      let one = (law before good).found bytes at x are_bytes within step.1 in
      let others = elements_found n (after before x.0) (stays before x.0 good one.0) bytes x.1 xs are_bytes one.1.within more.1 in
      let all : AreElements Allowed after before (suc n) (x.0 ∷ xs.0) × IsSpelt bytes at (spell x.0 ++ flat_map spell xs.0) xs.1 =
      ((ap suc others.0.0, (one.0, others.0.1)), IsSpelt-then bytes at (spell x.0) x.1 (flat_map spell xs.0) xs.1 one.1 others.1) in
      let is : (x.0 ∷ xs.0, xs.1) ≡ y = cc in
      subst (λ (z : List T × ℕ). AreElements Allowed after before (suc n) z.0 × IsSpelt bytes at (flat_map spell z.0) z.1) is all

  -- what is spelt so is read
  elements_only : (n : ℕ) (before : S) → Good before → (bytes : List ℕ) (at : ℕ) (xs : List T) (rest : List ℕ) → AreElements Allowed after before n xs
      → drop at bytes ≡ flat_map spell xs ++ rest → elements_at element after n before bytes at ≡ Ok (xs, at + length (flat_map spell xs))
  unfolding elements_at
  elements_only zero before good bytes at [] rest is e = let place : at + 0 ≡ at = omega arith in rw place refl
  elements_only zero before good bytes at (x ∷ xs) rest is e = absurd (omega (arith, is.0))
  elements_only (suc n) before good bytes at [] rest is e = absurd (omega (arith, is.0))
  elements_only (suc n) before good bytes at (x ∷ xs) rest is e =
      let text = flat_map spell xs in
      let grouped : drop at bytes ≡ spell x ++ (text ++ rest) = e ∙ append_assoc (spell x) text rest in
      let one = (law before good).only bytes at x (text ++ rest) is.1.0 grouped in
      let mid = at + length (spell x) in
      let others = elements_only n (after before x) (stays before x good is.1.0) bytes mid xs rest (omega (arith, is.0), is.1.1)
      (drop_behind bytes at (spell x) (text ++ rest) grouped) in
      let place : mid + length text ≡ at + length (spell x ++ text) = omega (arith, length-append (spell x) text) in
      rw (one, others) (ap (λ (p : ℕ). Ok (x ∷ xs, p)) place)

  -- the sizes of their fields add up
  elements_sized : (n : ℕ) (before : S) → Good before → (xs : List T) → AreElements Allowed after before n xs
      → sum (flat_map sizes xs) ≡ length (flat_map spell xs)
  elements_sized n before good [] is = refl
  elements_sized zero before good (x ∷ xs) is = absurd (omega (arith, is.0))
  elements_sized (suc n) before good (x ∷ xs) is =
      omega (
        arith,
        (law before good).sized x is.1.0,
        elements_sized n (after before x) (stays before x good is.1.0) xs (omega (arith, is.0), is.1.1),
        sum-append (sizes x) (flat_map sizes xs),
        length-append (spell x) (flat_map spell xs),
      )

  -- and where the bytes end within an element, the fault is there
  elements_short : (n : ℕ) (before : S) → Good before → (bytes : List ℕ) (at : ℕ) (xs : List T) (k : ℕ) → AreElements Allowed after before n xs
      → at ≤ length bytes → k < length (flat_map spell xs) → drop at bytes ≡ take k (flat_map spell xs)
      → elements_at element after n before bytes at ≡ Err (Short (at + field_start (flat_map sizes xs) k))
  unfolding elements_at
  elements_short n before good bytes at [] k is within lt e = absurd (omega (arith, lt))
  elements_short zero before good bytes at (x ∷ xs) k is within lt e = absurd (omega (arith, is.0))
  elements_short (suc n) before good bytes at (x ∷ xs) k is within lt e =
      let rest : AreElements Allowed after (after before x) n xs = (omega (arith, is.0), is.1.1) in
      short_then (law before good)
      (λ first. elements_at element after n (after before first.0) bytes first.1 >>= λ others. Ok (first.0 ∷ others.0, others.1)) x
      (flat_map spell xs) (flat_map sizes xs) bytes at k is.1.0 within lt e
      (λ j ends small behind. rw (elements_short n (after before x) (stays before x good is.1.0) bytes (at + length (spell x)) xs j rest ends small behind)
      refl)

  pub elements_codec : (n : ℕ) (before : S) → Good before
      → IsCodec (elements_at element after n before) (flat_map spell) (flat_map sizes) (AreElements Allowed after before n)
  elements_codec n before good = record {
    found = elements_found n before good;
    only = elements_only n before good;
    sized = elements_sized n before good;
    short = elements_short n before good;
  }

  -- a count, and so many elements
  pub counted_codec : (width least most : ℕ) (before : S) → Good before → 0 < width → most < 256 ^ width
      → IsCodec (counted_at width least most element after before) (counted width spell) (counted_sizes width sizes)
      (λ xs. IsFromTo least most (length xs) × IsAllowedFrom Allowed after before xs)
  unfolding counted_at
  counted_codec width least most before good some fits =
      IsCodec-bind (λ count. elements_at element after count.0 before) length (number_in_codec width least most some fits)
      (λ count ok. IsCodec-same (elements_codec count.0 before good)
      (λ xs is. (is.0, (subst (IsFromTo least most) (sym is.0) ok, is.1))) (λ xs is. (is.0, is.1.1)) (λ xs _. (refl, refl)))
      (λ xs is. is.0)

-- ---- ascending lists
module _ {T : Type 0} (key : T → ℕ) (Fits : T → Type 0) where
  -- an element whose key is at least so much
  abbrev pub IsAtLeast : ℕ → T → Type 0
  IsAtLeast least x = (least ≤ key x) × Fits x

  -- elements that each go by the one before ascend
  pub ascending_from : (least : ℕ) (xs : List T) → IsAllowedFrom IsAtLeast (above key) least xs
      → AllByRecursion Fits xs × IsAscendingBy key xs × AllByRecursion (λ y. least ≤ key y) xs
  ascending_from least [] is = (tt, tt, tt)
  ascending_from least (x ∷ xs) is =
      let rest = ascending_from (key x + 1) xs is.1 in (
        (is.0.1, rest.0),
        (All-weaker (λ (y : T). key x + 1 ≤ key y) (λ y. key x < key y) (λ y h. omega arith) xs rest.2, rest.1),
        (is.0.0, All-weaker (λ (y : T). key x + 1 ≤ key y) (λ y. least ≤ key y) (λ y h. omega (arith, h, is.0.0)) xs rest.2),
      )

  -- and ascending ones each go by the one before
  pub allowed_from : (least : ℕ) (xs : List T) → AllByRecursion Fits xs → IsAscendingBy key xs → AllByRecursion (λ y. least ≤ key y) xs
      → IsAllowedFrom IsAtLeast (above key) least xs
  allowed_from least [] all up low = tt
  allowed_from least (x ∷ xs) all up low =
      let above = All-weaker (λ (y : T). key x < key y) (λ y. key x + 1 ≤ key y) (λ y h. omega arith) xs up.0 in
      ((low.0, all.0), allowed_from (key x + 1) xs all.1 up.1 above)

  module _ (first : ℕ) (Allowed : T → Type 0) (to : (x : T) → first ≤ key x → Fits x → Allowed x) (from : (x : T) → Allowed x → (first ≤ key x) × Fits x) where
    pub all_to : (xs : List T) → AllByRecursion (λ y. first ≤ key y) xs → AllByRecursion Fits xs → AllByRecursion Allowed xs
    all_to [] low fits = tt
    all_to (x ∷ xs) low fits = (to x low.0 fits.0, all_to xs low.1 fits.1)

    -- a counted ascending list
    pub listed_codec : {element : ℕ → Reader T} {spell sizes : T → List ℕ} → ((least : ℕ) → IsCodec (element least) spell sizes (IsAtLeast least))
        → (width least most : ℕ) → 0 < width → most < 256 ^ width
        → IsCodec (counted_at width least most element (above key) first) (counted width spell) (counted_sizes width sizes) (IsListed least most Allowed key)
    listed_codec {element} {spell} {sizes} law width least most some fits =
        IsCodec-same (counted_codec (above key) (λ k. Unit {0}) (λ k _. law k) (λ k x _ _. tt) width least most first tt some fits)
        (λ xs is. let up = ascending_from first xs is.1 in record { enough = is.0.0; few = is.0.1; allowed = all_to xs up.2 up.0; ascending = up.1 })
        (λ xs is. (
          (is.enough, is.few),
          allowed_from first xs (All-weaker Allowed Fits (λ x h. (from x h).1) xs is.allowed) is.ascending
              (All-weaker Allowed (λ (y : T). first ≤ key y) (λ x h. (from x h).0) xs is.allowed),
        ))
        (λ xs _. (refl, refl))

-- elements of at most so many bytes each have at most so many together
flat_size : {T : Type 0} (sizes : T → List ℕ) (Allowed : T → Type 0) (size : ℕ) → ((x : T) → Allowed x → sum (sizes x) ≤ size)
    → (xs : List T) → AllByRecursion Allowed xs → sum (flat_map sizes xs) ≤ size * length xs
flat_size sizes Allowed size small [] all = omega arith
flat_size sizes Allowed size small (x ∷ xs) all =
    omega (arith, sum-append (sizes x) (flat_map sizes xs), small x all.0, flat_size sizes Allowed size small xs all.1)

-- and so many with a count in front
pub counted_size : {T : Type 0} (sizes : T → List ℕ) (Allowed : T → Type 0) (width size most : ℕ) → ((x : T) → Allowed x → sum (sizes x) ≤ size)
    → (xs : List T) → AllByRecursion Allowed xs → length xs ≤ most → sum (counted_sizes width sizes xs) ≤ width + size * most
counted_size sizes Allowed width size most small xs all few =
    omega (
      arith,
      sum-cons width (flat_map sizes xs),
      flat_size sizes Allowed size small xs all,
      mul-le-mul_left size few,
    )
