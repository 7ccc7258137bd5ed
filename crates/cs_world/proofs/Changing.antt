-- A datagram that is changed among those that were sent: which one it is, and what stays.
use Rattle.std.proofs.Common.{◌≡◌, ◌≢◌, ◌⊎◌, inl, inr, ◌∙◌, ℕ, zero, suc, ◌+◌, ◌-◌, ◌<◌, ◌≤◌, List, [], ◌∷◌, length, length-set, slice_get, slice_set}
use Rattle.std.proofs.Common.{Some, refl, sym, ap, arith}
use Rattle.std.proofs.lemmas.Option.{none-some, same_Some}
use Rattle.cs_world.specs.Sending.{changed_at}
use Rattle.cs_world.specs.declared.datagram.Datagram.{Datagram}

-- to change a datagram is to set it
changed-set : (change : Datagram → Datagram) (place : ℕ) (ds : List Datagram) (d : Datagram) → slice_get ds place ≡ Some d
    → slice_set ds place (change d) ≡ changed_at change (suc place) ds
changed-set change place [] d at = absurd (none-some d at)
changed-set change zero (x ∷ ds) d at = ap (λ (e : Datagram). change e ∷ ds) (sym (same_Some x d at))
changed-set change (suc place) (x ∷ ds) d at = ap (λ more. x ∷ more) (changed-set change place ds d at)

-- so it is by its number
pub changed-number : (change : Datagram → Datagram) (number : ℕ) (ds : List Datagram) (d : Datagram) → 0 < number
    → slice_get ds (number - 1) ≡ Some d → slice_set ds (number - 1) (change d) ≡ changed_at change number ds
changed-number change number ds d from at =
    let here : suc (number - 1) ≡ number = omega (arith, from) in
    changed-set change (number - 1) ds d at ∙ ap (λ n. changed_at change n ds) here

-- and behind the last nothing is changed
pub changed-behind : (change : Datagram → Datagram) (place : ℕ) (ds : List Datagram) → length ds ≤ place
    → ds ≡ changed_at change (suc place) ds
changed-behind change place [] behind = refl
changed-behind change zero (x ∷ ds) behind = absurd (omega (arith, behind))
changed-behind change (suc place) (x ∷ ds) behind = ap (λ more. x ∷ more) (changed-behind change place ds (omega (arith, behind)))

-- to change one leaves as many
pub changed-length : (change : Datagram → Datagram) (number : ℕ) (ds : List Datagram) → length (changed_at change number ds) ≡ length ds
changed-length change number [] = refl
changed-length change zero (d ∷ ds) = refl
changed-length change (suc zero) (d ∷ ds) = refl
changed-length change (suc (suc number)) (d ∷ ds) = ap (λ n. suc n) (changed-length change (suc number) ds)

-- and one that is set leaves as many
pub set-within : (ds : List Datagram) (place : ℕ) (d : Datagram) (n : ℕ) → n ≤ length ds → n ≤ length (slice_set ds place d)
set-within ds place d n within = rw length-set within

-- what stands at a place is the one with the number, changed, or stood there before
pub changed-at : (change : Datagram → Datagram) (number : ℕ) (ds : List Datagram) (place : ℕ) (d : Datagram)
    → slice_get (changed_at change number ds) place ≡ Some d
    → ((number ≡ place + 1) × (old : Datagram) × (slice_get ds place ≡ Some old) × (d ≡ change old))
    ⊎ ((number ≢ place + 1) × (slice_get ds place ≡ Some d))
changed-at change number [] place d at = absurd (none-some d at)
changed-at change zero (x ∷ ds) place d at = inr (λ is. omega (arith, is), at)
changed-at change (suc zero) (x ∷ ds) zero d at = inl (refl, x, refl, sym (same_Some (change x) d at))
changed-at change (suc zero) (x ∷ ds) (suc place) d at = inr (λ is. omega (arith, is), at)
changed-at change (suc (suc number)) (x ∷ ds) zero d at = inr (λ is. omega (arith, is), at)
changed-at change (suc (suc number)) (x ∷ ds) (suc place) d at = elim (changed-at change (suc number) ds place d at) [
  | inl changed ↦ inl (omega (arith, changed.0), changed.1, changed.2, changed.3)
  | inr other ↦ inr (λ is. other.0 (omega (arith, is)), other.1)
]
