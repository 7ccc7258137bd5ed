-- A roll by its part: the old roll without those who went out, and with those who came in or differ, is the new roll.
use Rattle.std.proofs.Common.{◌≡◌, ◌==◌, ◌<◌, ℕ, Bool, true, false, not, cond, if◌then◌else◌, List, [], ◌∷◌, map, Option, Some, None}
use Rattle.std.proofs.Common.{refl, sym, ap, subst, ◌∙◌}
use Rattle.std.specs.List.{AllByRecursion, filter}
use Rattle.std.specs.Option.{is_some, option_map_or, option_or}
use Rattle.std.proofs.lemmas.Bool.{eqb-true}
use Rattle.std.proofs.lemmas.Option.{same_Some, none-some}
use Rattle.cs_base.specs.Ascending.{IsAscendingBy, at_key}
use Rattle.cs_base.specs.declared.member.Member.{Member}
use Rattle.cs_base.proofs.Ascending.{All-of_filter, IsAscendingBy-filter, at_key-above, same_at_keys}
use Rattle.cs_roll.specs.Roll.{IsById, member_id, member_of}
use Rattle.cs_roll.specs.Same.{is_same_member}
use Rattle.cs_roll.proofs.Same.{Decides-member}
use Rattle.cs_slicer.specs.Part.{gone_from, new_in}
use Rattle.cs_slicer.proofs.Beside.{IsAscendingBy-placed_each, at_key-placed_each}
use Rattle.cs_view.specs.Step.{changed, is_among}

-- the value, where it passes
abbrev pub if_passes : {T : Type 0} → (T → Bool) → Option T → Option T
if_passes p None = None
if_passes p (Some x) = if p x then Some x else None

module _ {T : Type 0} (key : T → ℕ) where
  -- in a filter the element of a key is found where it passes
  pub at_key-filter : (p : T → Bool) (k : ℕ) (xs : List T) → IsAscendingBy key xs → at_key key k (filter p xs) ≡ if_passes p (at_key key k xs)
  at_key-filter p k [] up = refl
  at_key-filter p k (x ∷ xs) up = by_key (key x == k) refl (p x) refl (at_key-filter p k xs up.1)
    where
      by_key : (same : Bool) → (key x == k) ≡ same → (passes : Bool) → p x ≡ passes → at_key key k (filter p xs) ≡ if_passes p (at_key key k xs)
          → at_key key k (cond (p x) (x ∷ filter p xs) (filter p xs)) ≡ if_passes p (at_key key k (x ∷ xs))
      by_key true e true f rest = rw (f, e, f) refl
      by_key true e false f rest =
          let none : at_key key k (filter p xs) ≡ None =
          at_key-above key k (filter p xs)
          (subst (λ n. AllByRecursion (λ y. n < key y) (filter p xs)) (eqb-true (key x) k e) (All-of_filter (λ y. key x < key y) p xs up.0)) in
          rw (f, e, f) none
      by_key false e true f rest = rw (f, e) rest
      by_key false e false f rest = rw (f, e) rest

  -- what is found has the key
  pub at_key-key : (k : ℕ) (xs : List T) (x : T) → at_key key k xs ≡ Some x → key x ≡ k
  at_key-key k [] x found = absurd (none-some x found)
  at_key-key k (y ∷ ys) x found = by_key (key y == k) refl (at_key-key k ys x)
    where
      by_key : (same : Bool) → (key y == k) ≡ same → (at_key key k ys ≡ Some x → key x ≡ k) → key x ≡ k
      by_key true e later =
          let here : at_key key k (y ∷ ys) ≡ Some y = rw e refl in
          ap key (sym (same_Some y x (sym here ∙ found))) ∙ eqb-true (key y) k e
      by_key false e later = later (let rest : at_key key k (y ∷ ys) ≡ at_key key k ys = rw e refl in sym rest ∙ found)

  -- a key is among the keys where it is found
  pub among-keys : (k : ℕ) (xs : List T) → is_among (map key xs) k ≡ is_some (at_key key k xs)
  among-keys k [] = refl
  among-keys k (x ∷ xs) = by_key (key x == k) refl (among-keys k xs)
    where
      by_key : (same : Bool) → (key x == k) ≡ same → is_among (map key xs) k ≡ is_some (at_key key k xs)
          → is_among (key x ∷ map key xs) k ≡ is_some (at_key key k (x ∷ xs))
      by_key true e rest = rw e refl
      by_key false e rest = rw e rest

module _ (old new : List Member) (up_old : IsById old) (up_new : IsById new) where
  -- whether the member goes out
  abbrev goes : Member → Bool
  goes m = not (is_some (member_of m.id new))

  -- whether it stays
  abbrev stays : Member → Bool
  stays m = not (is_among (gone_from old new) m.id)

  -- whether it comes in, or differs
  abbrev comes : Member → Bool
  comes m = not (option_map_or (is_same_member m) (member_of m.id old) false)

  -- who goes out
  among-gone : (k : ℕ) (o : Option Member) → member_of k old ≡ o → is_among (gone_from old new) k ≡ is_some (if_passes goes o)
  among-gone k o found =
      among-keys member_id k (filter goes old)
      ∙ (ap (λ p. is_some p) (at_key-filter member_id goes k old up_old) ∙ ap (λ p. is_some (if_passes goes p)) found)

  -- what stays and what comes in, of one id
  stays-and-comes : (k : ℕ) (o n : Option Member) → member_of k old ≡ o → member_of k new ≡ n
      → option_or (if_passes comes n) (if_passes stays o) ≡ n
  stays-and-comes k None None was is = refl
  stays-and-comes k (Some m) None was is =
      let id : m.id ≡ k = at_key-key member_id k old m was in
      let absent : member_of m.id new ≡ None = ap (λ j. member_of j new) id ∙ is in
      let going : goes m ≡ true = rw absent refl in
      let gone : is_among (gone_from old new) m.id ≡ true = ap (is_among (gone_from old new)) id ∙ (among-gone k (Some m) was ∙ (rw going refl)) in
      let staying : stays m ≡ false = ap not gone in
      rw staying refl
  stays-and-comes k None (Some n) was is =
      let id : n.id ≡ k = at_key-key member_id k new n is in
      let absent : member_of n.id old ≡ None = ap (λ j. member_of j old) id ∙ was in
      let coming : comes n ≡ true = rw absent refl in
      rw coming refl
  stays-and-comes k (Some m) (Some n) was is = by_same (is_same_member n m) refl
    where
      by_same : (b : Bool) → is_same_member n m ≡ b → option_or (if_passes comes (Some n)) (if_passes stays (Some m)) ≡ Some n
      by_same true e =
          let id : n.id ≡ k = at_key-key member_id k new n is in
          let old_id : m.id ≡ k = at_key-key member_id k old m was in
          let there : member_of n.id old ≡ Some m = ap (λ j. member_of j old) id ∙ was in
          let coming : comes n ≡ false = rw (there, e) refl in
          let still : member_of m.id new ≡ Some n = ap (λ j. member_of j new) old_id ∙ is in
          let going : goes m ≡ false = rw still refl in
          let gone : is_among (gone_from old new) m.id ≡ false =
          ap (is_among (gone_from old new)) old_id ∙ (among-gone k (Some m) was ∙ (rw going refl)) in
          let staying : stays m ≡ true = ap not gone in
          rw (coming, staying) (ap (λ p. Some p) (sym ((Decides-member n m).0 e)))
      by_same false e =
          let id : n.id ≡ k = at_key-key member_id k new n is in
          let there : member_of n.id old ≡ Some m = ap (λ j. member_of j old) id ∙ was in
          let coming : comes n ≡ true = rw (there, e) refl in
          rw coming refl

  -- so the changed roll is the new one
  pub changed-is : changed (gone_from old new) (new_in old new) old ≡ new
  changed-is =
      let base = filter stays old in
      let here = new_in old new in
      let up_base = IsAscendingBy-filter member_id stays old up_old in
      let up_here = IsAscendingBy-filter member_id comes new up_new in
      same_at_keys member_id (changed (gone_from old new) here old) new (IsAscendingBy-placed_each member_id base here up_base) up_new
      (λ k. at_key-placed_each member_id k base here up_here
      ∙ (ap (λ p. option_or p (at_key member_id k base)) (at_key-filter member_id comes k new up_new)
      ∙ (ap (option_or (if_passes comes (at_key member_id k new))) (at_key-filter member_id stays k old up_old)
      ∙ stays-and-comes k (member_of k old) (member_of k new) refl refl)))
