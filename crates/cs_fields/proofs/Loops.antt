-- Reading elements one behind the other, as a loop does.
use Rattle.std.proofs.Common.{◌≡◌, ℕ, suc, ◌-◌, ◌+◌, ◌≤◌, ◌<◌, List, [], ◌∷◌, ◌++◌, Result, Ok, Err, refl, sym, ap, ◌∙◌, append_assoc, arith}
use Rattle.std.specs.List.{AllByRecursion}
use Rattle.std.proofs.lemmas.List.{append-nil}
use Rattle.cs_base.specs.Ascending.{IsAscendingBy}
use Rattle.cs_fields.specs.declared.fault.PacketFault.{PacketFault}
use Rattle.cs_fields.specs.Reading.{Reader, ◌>>=◌, Gives}
use Rattle.cs_fields.specs.Counted.{elements_at}
use Rattle.cs_base.proofs.Elements.{All-weaker}

-- the elements that were read before, and those that are still read
abbrev pub with_front : {T : Type 0} → List T → Result (List T × ℕ) PacketFault → Result (List T × ℕ) PacketFault
with_front front read = read >>= λ x. Ok (front ++ x.0, x.1)

regrouped : {T : Type 0} (front : List T) (x : T) (read : Result (List T × ℕ) PacketFault)
    → with_front front (read >>= λ y. Ok (x ∷ y.0, y.1)) ≡ with_front (front ++ x ∷ []) read
regrouped front x (Ok y) = ap (λ (xs : List _). Ok (xs, y.1)) (simp append_assoc)
regrouped front x (Err fault) = refl

module _ {S T : Type 0} (element : S → Reader T) (after : S → T → S) where
  -- one more element
  pub goes_on : (front : List T) (count i : ℕ) (before : S) (bytes : List ℕ) (place : ℕ) (x : T) (behind : ℕ) (total : Result (List T × ℕ) PacketFault)
      → i < count → element before bytes place ≡ Ok (x, behind)
      → with_front front (elements_at element after (count - i) before bytes place) ≡ total
      → with_front (front ++ x ∷ []) (elements_at element after (count - (i + 1)) (after before x) bytes behind) ≡ total
  unfolding elements_at
  goes_on front count i before bytes place x behind total lt h so_far =
      let k : count - i ≡ suc (count - (i + 1)) = omega arith in
      let one : with_front front (elements_at element after (count - i) before bytes place)
      ≡ with_front (front ++ x ∷ []) (elements_at element after (count - (i + 1)) (after before x) bytes behind) =
      rw (k, h) (regrouped front x (elements_at element after (count - (i + 1)) (after before x) bytes behind)) in
      sym one ∙ so_far

  -- an element with a fault
  pub ends : (fault : PacketFault) (front : List T) (count i : ℕ) (before : S) (bytes : List ℕ) (place : ℕ) (total : Result (List T × ℕ) PacketFault)
      → i < count → Gives (Err fault) (element before bytes place)
      → with_front front (elements_at element after (count - i) before bytes place) ≡ total → Gives (Err fault) total
  unfolding elements_at
  ends fault front count i before bytes place total lt given so_far = λ other.
      let k : count - i ≡ suc (count - (i + 1)) = omega arith in
      let one : with_front front (elements_at element after (count - i) before bytes place) ≡ Err fault = rw (k, given other) refl in
      sym so_far ∙ one

  -- no further element
  pub is_done : (front : List T) (count i : ℕ) (before : S) (bytes : List ℕ) (place : ℕ) (total : Result (List T × ℕ) PacketFault)
      → count ≤ i → with_front front (elements_at element after (count - i) before bytes place) ≡ total → total ≡ Ok (front, place)
  unfolding elements_at
  is_done front count i before bytes place total le so_far =
      let k : count - i ≡ 0 = omega arith in
      let one : with_front front (elements_at element after (count - i) before bytes place) ≡ Ok (front, place) =
      rw k (ap (λ (xs : List T). Ok (xs, place)) (append-nil front)) in
      sym so_far ∙ one

-- ---- ascending elements
-- what holds of each and of one more holds of all
pub All-push : {T : Type 0} (P : T → Type 0) (xs : List T) (x : T) → AllByRecursion P xs → P x → AllByRecursion P (xs ++ x ∷ [])
All-push P [] x all here = (here, tt)
All-push P (y ∷ ys) x all here = (all.0, All-push P ys x all.1 here)

module _ {T : Type 0} (key : T → ℕ) where
  -- an element above those before keeps the order
  pub IsAscendingBy-push : (least : ℕ) (xs : List T) (x : T) → IsAscendingBy key xs → AllByRecursion (λ y. key y < least) xs → least ≤ key x
      → IsAscendingBy key (xs ++ x ∷ [])
  IsAscendingBy-push least [] x up below le = (tt, tt)
  IsAscendingBy-push least (y ∷ ys) x up below le =
      (All-push (λ z. key y < key z) ys x up.0 (omega (arith, below.0)), IsAscendingBy-push least ys x up.1 below.1 le)

  -- and all are below what may follow it
  pub below-push : (least : ℕ) (xs : List T) (x : T) → AllByRecursion (λ y. key y < least) xs → least ≤ key x
      → AllByRecursion (λ y. key y < key x + 1) (xs ++ x ∷ [])
  below-push least xs x below le =
      All-push (λ y. key y < key x + 1) xs x (All-weaker (λ (y : T). key y < least) _ (λ y h. omega (arith, h, le)) xs below) (omega arith)
