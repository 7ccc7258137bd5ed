-- An index, as packets are sent and delivered.
use Rattle.std.proofs.Common.{◌≡◌, ◌≢◌, ◌∙◌, inl, inr, ℕ, zero, suc, ◌+◌, ◌-◌, ◌<◌, ◌≤◌, ◌==◌, ◌&&◌, Bool, true, false, not, cond, List, [], ◌∷◌, ◌++◌}
use Rattle.std.proofs.Common.{length, slice_get, IfSome, Option, Some, None, refl, sym, ap, arith, length-append}
use Rattle.std.proofs.lemmas.Bool.{and_right, cases_eq, cases_lt, eq-eqb, ne_eqb}
use Rattle.std.proofs.Math.Bool.{and-true}
use Rattle.std.proofs.lemmas.Option.{slice_get_past}
use Rattle.std.specs.BTreeMap.{is_at}
use Rattle.std.specs.BTreeSet.{BTreeSet, Updates, contains}
use Rattle.std.specs.Option.{option_map, option_map_or}
use Rattle.cs_machine.proofs.Follows.{slice_get-append}
use Rattle.cs_world.proofs.Pushed.{slice_get-end}
use Rattle.cs_world.proofs.Sorted.{hashed-only, same-hashed}
use Rattle.cs_world.specs.Indexed.{AreHashed, IsIndexOf, has_hash, hash_for, hashed_cmp}
use Rattle.cs_world.specs.Sending.{as_closed, as_delivered, changed_at, datagram_at, marked, noted}
use Rattle.cs_world.specs.declared.datagram.Datagram.{Datagram}
use Rattle.cs_world.specs.declared.index.Hashed.{Hashed}
use Rattle.cs_world.specs.declared.index.Index.{Index}

-- ---- datagrams by their numbers

-- a number stands for the place before it
pub at-place : (ds : List Datagram) (place : ℕ) → datagram_at ds (suc place) ≡ slice_get ds place
at-place ds place =
    let here : suc place - 1 ≡ place = omega arith in
    ap (λ b. cond b None (slice_get ds (suc place - 1))) (ne_eqb (suc place) 0 (λ none. omega (arith, none))) ∙ ap (slice_get ds) here

-- so the datagram before it has the number
pub at-number : (ds : List Datagram) (number : ℕ) (d : Datagram) → 0 < number → slice_get ds (number - 1) ≡ Some d
    → datagram_at ds number ≡ Some d
at-number ds number d from at =
    ap (λ b. cond b None (slice_get ds (number - 1))) (ne_eqb number 0 (λ none. omega (arith, from, none))) ∙ at

-- behind the last there is none
pub at-past : (ds : List Datagram) (number : ℕ) → length ds + 1 ≤ number → datagram_at ds number ≡ None
at-past ds zero past = absurd (omega (arith, past))
at-past ds (suc place) past = at-place ds place ∙ slice_get_past ds place (omega (arith, past))

-- one more has the next number
at-end : (ds : List Datagram) (d : Datagram) (number : ℕ) → number ≡ length ds + 1 → datagram_at (ds ++ d ∷ []) number ≡ Some d
at-end ds d zero last = absurd (omega (arith, last))
at-end ds d (suc place) last = at-place (ds ++ d ∷ []) place ∙ slice_get-end ds d place (omega (arith, last))

-- and changes no other
at-others : (ds : List Datagram) (d : Datagram) (number : ℕ) → number ≢ length ds + 1 → datagram_at (ds ++ d ∷ []) number ≡ datagram_at ds number
at-others ds d zero apart = refl
at-others ds d (suc place) apart = elim (cases_lt place (length ds)) [
  | inl before ↦ at-place (ds ++ d ∷ []) place ∙ slice_get-append ds (d ∷ []) place before ∙ sym (at-place ds place)
  | inr behind ↦ elim (cases_eq place (length ds)) [
    | inl last ↦ absurd (apart (omega (arith, last)))
    | inr far ↦
        let past : length ds + 1 ≤ place = grind (arith, behind, far) in
        at-past (ds ++ d ∷ []) (suc place) (omega (arith, past, length-append ds (d ∷ []))) ∙ sym (at-past ds (suc place) (omega (arith, past)))
  ]
]

-- the one that is changed
changed-there : (change : Datagram → Datagram) (place : ℕ) (ds : List Datagram)
    → slice_get (changed_at change (suc place) ds) place ≡ option_map change (slice_get ds place)
changed-there change place [] = refl
changed-there change zero (d ∷ ds) = refl
changed-there change (suc place) (d ∷ ds) = changed-there change place ds

pub at-changed : (change : Datagram → Datagram) (ds : List Datagram) (number : ℕ)
    → datagram_at (changed_at change number ds) number ≡ option_map change (datagram_at ds number)
at-changed change ds zero = refl
at-changed change ds (suc place) =
    at-place (changed_at change (suc place) ds) place ∙ changed-there change place ds ∙ ap (option_map change) (sym (at-place ds place))

-- and those that aren't
unchanged-there : (change : Datagram → Datagram) (number place : ℕ) (ds : List Datagram) → number ≢ suc place
    → slice_get (changed_at change number ds) place ≡ slice_get ds place
unchanged-there change number place [] apart = refl
unchanged-there change zero place (d ∷ ds) apart = refl
unchanged-there change (suc zero) zero (d ∷ ds) apart = absurd (apart refl)
unchanged-there change (suc zero) (suc place) (d ∷ ds) apart = refl
unchanged-there change (suc (suc number)) zero (d ∷ ds) apart = refl
unchanged-there change (suc (suc number)) (suc place) (d ∷ ds) apart =
    unchanged-there change (suc number) place ds (λ same. apart (ap (λ n. suc n) same))

at-unchanged : (change : Datagram → Datagram) (ds : List Datagram) (number other : ℕ) → number ≢ other
    → datagram_at (changed_at change number ds) other ≡ datagram_at ds other
at-unchanged change ds number zero apart = refl
at-unchanged change ds number (suc place) apart =
    at-place (changed_at change number ds) place ∙ unchanged-there change number place ds apart ∙ sym (at-place ds place)

-- ---- what stands in a set

-- a place at a number is one at its hash
own-place : (hashed q : Hashed) → hashed.number ≡ q.number → is_at (hashed_cmp hashed) q ≡ (hashed.hash == q.hash)
own-place hashed q same =
    same-hashed hashed q ∙ ap (λ b. (hashed.hash == q.hash) && b) (eq-eqb hashed.number q.number same) ∙ and-true (hashed.hash == q.hash)

-- and at another number another place
other-place : (hashed q : Hashed) → hashed.number ≢ q.number → is_at (hashed_cmp hashed) q ≡ false
other-place hashed q apart =
    same-hashed hashed q ∙ and_right (hashed.hash == q.hash) (hashed.number == q.number) (ne_eqb hashed.number q.number apart)

module _ (test : Datagram → Bool) where
  -- whether a datagram that may be there has the hash and passes
  abbrev hit : ℕ → Option Datagram → Bool
  hit hash there = option_map_or (λ (d : Datagram). has_hash hash d && test d) there false

  -- the number of the next packet stands nowhere
  none-yet : (ds : List Datagram) (set : BTreeSet Hashed) (q : Hashed) → AreHashed test ds set → length ds + 1 ≡ q.number
      → contains hashed_cmp set q ≡ false
  none-yet ds set q are last = are q ∙ ap (hit q.hash) (at-past ds q.number (omega (arith, last)))

  module _ (ds : List Datagram) (before now : BTreeSet Hashed) (hashed : Hashed) (are : AreHashed test ds before)
      (next : hashed.number ≡ length ds + 1) (adds : Updates hashed_cmp before now hashed true) where
    -- once it is put in, it stands there
    pub hashed-pushed : (d : Datagram) → hashed.hash ≡ hash_for d.addr d.bytes → test d ≡ true → AreHashed test (ds ++ d ∷ []) now
    hashed-pushed d hash passes q = adds.0 q ∙ elim (cases_eq hashed.number q.number) [
      | inl same ↦
          ap (λ b. cond b true (contains hashed_cmp before q)) (own-place hashed q same)
          ∙ ap (cond (hashed.hash == q.hash) true) (none-yet ds before q are (sym next ∙ same))
          ∙ whole (hashed.hash == q.hash)
          ∙ ap (λ h. (h == q.hash) && true) hash
          ∙ ap (λ b. has_hash q.hash d && b) (sym passes)
          ∙ sym (ap (hit q.hash) (at-end ds d q.number (sym same ∙ next)))
      | inr apart ↦
          ap (λ b. cond b true (contains hashed_cmp before q)) (other-place hashed q apart)
          ∙ are q
          ∙ sym (ap (hit q.hash) (at-others ds d q.number (λ same. apart (next ∙ sym same))))
    ]
      where
        whole : (b : Bool) → cond b true false ≡ (b && true)
        whole true = refl
        whole false = refl

    -- and taken out again it never did
    pub hashed-back : (after : BTreeSet Hashed) → Updates hashed_cmp now after hashed false → AreHashed test ds after
    hashed-back after removes q = removes.0 q ∙ go (is_at (hashed_cmp hashed) q) refl ∙ are q
      where
        go : (b : Bool) → is_at (hashed_cmp hashed) q ≡ b → cond b false (contains hashed_cmp now q) ≡ contains hashed_cmp before q
        go true here = sym (none-yet ds before q are (sym next ∙ ap (λ (h : Hashed). h.number) (hashed-only hashed q here)))
        go false other = adds.0 q ∙ ap (λ b. cond b true (contains hashed_cmp before q)) other

  -- a change that leaves hash and test leaves where all stands
  pub hashed-changed : (change : Datagram → Datagram)
      → ((hash : ℕ) (d : Datagram) → (has_hash hash (change d) && test (change d)) ≡ (has_hash hash d && test d))
      → (number : ℕ) (ds : List Datagram) (set : BTreeSet Hashed) → AreHashed test ds set → AreHashed test (changed_at change number ds) set
  hashed-changed change same number ds set are q = are q ∙ sym (elim (cases_eq number q.number) [
    | inl here ↦ ap (λ n. hit q.hash (datagram_at (changed_at change n ds) q.number)) here
        ∙ ap (hit q.hash) (at-changed change ds q.number) ∙ still (datagram_at ds q.number)
    | inr apart ↦ ap (hit q.hash) (at-unchanged change ds number q.number apart)
  ])
    where
      still : (o : Option Datagram) → hit q.hash (option_map change o) ≡ hit q.hash o
      still None = refl
      still (Some d) = same q.hash d

-- a packet that was delivered stands among those that weren't no more
pub hashed-noted : (ds : List Datagram) (d : Datagram) (before now : BTreeSet Hashed) (hashed : Hashed)
    → AreHashed (λ d. not d.is_delivered) ds before → hashed.hash ≡ hash_for d.addr d.bytes
    → datagram_at ds hashed.number ≡ Some d → Updates hashed_cmp before now hashed false
    → AreHashed (λ d. not d.is_delivered) (noted hashed.number ds) now
hashed-noted ds d before now hashed are hash there removes q = removes.0 q ∙ elim (cases_eq hashed.number q.number) [
  | inl same ↦
      ap (λ b. cond b false (contains hashed_cmp before q)) (own-place hashed q same)
      ∙ ap (cond (hashed.hash == q.hash) false)
      (are q ∙ ap (hit (λ d. not d.is_delivered) q.hash) (ap (datagram_at ds) (sym same) ∙ there)
      ∙ ap (λ h. (h == q.hash) && not d.is_delivered) (sym hash))
      ∙ gone (hashed.hash == q.hash) (not d.is_delivered)
      ∙ sym (ap (hit (λ d. not d.is_delivered) q.hash)
      (ap (datagram_at (noted hashed.number ds)) (sym same) ∙ at-changed as_delivered ds hashed.number ∙ ap (option_map as_delivered) there)
      ∙ and_right (has_hash q.hash d) false refl)
  | inr apart ↦
      ap (λ b. cond b false (contains hashed_cmp before q)) (other-place hashed q apart)
      ∙ are q ∙ sym (ap (hit (λ d. not d.is_delivered) q.hash) (at-unchanged as_delivered ds hashed.number q.number apart))
]
  where
    gone : (b c : Bool) → cond b false (b && c) ≡ false
    gone true c = refl
    gone false c = refl

-- ---- the index of all

-- settling passes over a packet
pub index-marked : (number : ℕ) (ds : List Datagram) (index : Index) → IsIndexOf ds index → IsIndexOf (marked number ds) index
index-marked number ds index is = record {
  all = hashed-changed (λ d. true) as_closed (λ hash d. refl) number ds index.all is.all;
  fresh = hashed-changed (λ d. not d.is_delivered) as_closed (λ hash d. refl) number ds index.fresh is.fresh;
}

-- so it does where there is an index
pub indexed-marked : (number : ℕ) (ds : List Datagram) (o : Option Index) → IfSome o (IsIndexOf ds) → IfSome o (IsIndexOf (marked number ds))
indexed-marked number ds None is = tt
indexed-marked number ds (Some index) is = index-marked number ds index is

-- a packet is delivered
pub index-noted : (ds : List Datagram) (d : Datagram) (index : Index) (now : BTreeSet Hashed) (hashed : Hashed) → IsIndexOf ds index
    → hashed.hash ≡ hash_for d.addr d.bytes → datagram_at ds hashed.number ≡ Some d → Updates hashed_cmp index.fresh now hashed false
    → IsIndexOf (noted hashed.number ds) (record { all = index.all; fresh = now })
index-noted ds d index now hashed is hash there removes = record {
  all = hashed-changed (λ d. true) as_delivered (λ hash d. refl) hashed.number ds index.all is.all;
  fresh = hashed-noted ds d index.fresh now hashed is.fresh hash there removes;
}
