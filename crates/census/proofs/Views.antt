-- Which views are of an epoch and agree with one, a node more at a time.
use Rattle.std.proofs.Common.{◌≡◌, ℕ, ◌+◌, ◌≤◌, ◌==◌, List, [], ◌∷◌, ◌++◌, length, Option, Some, None, Bool, true, false, cond, refl, ap, sym, ◌∙◌, arith}
use Rattle.std.specs.Option.{option_map, option_to_list, unwrap_or}
use Rattle.std.specs.Str.{bytes_eq}
use Rattle.std.proofs.lemmas.List.{append-nil, length-append}
use Rattle.std.proofs.lemmas.List.Elements.{filter-append}
use Rattle.cs_item.specs.declared.picture.Picture.{Picture}
use Rattle.cs_machine.specs.Names.{World}
use Rattle.cs_show.specs.Block.{digest_of}
use Rattle.census.specs.Drilled.{agreeing, of_epoch, shows, views_of}
use Rattle.census.proofs.Ranges.{found-more}

-- what is told of a view
abbrev pub told_of : Picture → ℕ × List ℕ
told_of view = (view.epoch, digest_of view)

-- nothing is told of a node that shows no view
pub none-told : (shown : Option Picture) → None ≡ option_map told_of shown → shown ≡ None
none-told None is = refl
none-told (Some view) is = cc

-- what is told is told of the view that the node shows
pub record IsToldOf (shown : Option Picture) (epoch : ℕ) (digest : List ℕ) : Type 0 where
  pub view : Picture
  pub shows : shown ≡ Some view
  pub epoch_is : view.epoch ≡ epoch
  pub digest_is : digest_of view ≡ digest

pub some-told : (shown : Option Picture) (epoch : ℕ) (digest : List ℕ) → Some (epoch, digest) ≡ option_map told_of shown
    → IsToldOf shown epoch digest
some-told None epoch digest is = absurd (cc)
some-told (Some view) epoch digest is = record {
  view = view;
  shows = refl;
  epoch_is = ap (λ told. (unwrap_or {T = ℕ × List ℕ} told (0, [])).0) (sym is);
  digest_is = ap (λ told. (unwrap_or {T = ℕ × List ℕ} told (0, [])).1) (sym is);
}

module _ (world : World) (epoch count : ℕ) where
  -- the views of so many nodes, and of one more
  more : of_epoch epoch (views_of (count + 1) world)
      ≡ of_epoch epoch (views_of count world) ++ of_epoch epoch (option_to_list (shows world (count + 1)))
  more =
      let next : 1 + count ≡ count + 1 = omega arith in
      found-more (shows world) (λ (view : Picture). view.epoch == epoch) 1 count
      ∙ ap (λ n. of_epoch epoch (views_of count world) ++ of_epoch epoch (option_to_list (shows world n))) next

  -- a node without a view adds none
  pub of_epoch-none : shows world (count + 1) ≡ None → of_epoch epoch (views_of (count + 1) world) ≡ of_epoch epoch (views_of count world)
  of_epoch-none is =
      more ∙ ap (λ o. of_epoch epoch (views_of count world) ++ of_epoch epoch (option_to_list o)) is ∙ append-nil _

  module _ (view : Picture) (is : shows world (count + 1) ≡ Some view) where
    added : of_epoch epoch (views_of (count + 1) world) ≡ of_epoch epoch (views_of count world) ++ cond (view.epoch == epoch) (view ∷ []) []
    added = more ∙ ap (λ o. of_epoch epoch (views_of count world) ++ of_epoch epoch (option_to_list o)) is

    -- nor does one with a view of another epoch
    pub of_epoch-other : (view.epoch == epoch) ≡ false → of_epoch epoch (views_of (count + 1) world) ≡ of_epoch epoch (views_of count world)
    of_epoch-other differs =
        added ∙ ap (λ b. of_epoch epoch (views_of count world) ++ cond b (view ∷ []) []) differs ∙ append-nil _

    -- and one of the epoch adds it
    pub of_epoch-one : (view.epoch == epoch) ≡ true → of_epoch epoch (views_of (count + 1) world) ≡ of_epoch epoch (views_of count world) ++ view ∷ []
    of_epoch-one same = added ∙ ap (λ b. of_epoch epoch (views_of count world) ++ cond b (view ∷ []) []) same

-- one view more, which agrees or doesn't
pub agreeing-more : (lead view : Picture) (views : List Picture)
    → length (agreeing lead (views ++ view ∷ [])) ≡ length (agreeing lead views) + cond (bytes_eq (digest_of view) (digest_of lead)) 1 0
agreeing-more lead view views =
    ap length (filter-append (λ (other : Picture). bytes_eq (digest_of other) (digest_of lead)) views (view ∷ []))
    ∙ length-append (agreeing lead views) (agreeing lead (view ∷ []))
    ∙ ap (λ n. length (agreeing lead views) + n) (one-length (bytes_eq (digest_of view) (digest_of lead)))
  where
    one-length : (b : Bool) → length (cond b (view ∷ []) []) ≡ cond b 1 0
    one-length true = refl
    one-length false = refl

-- a view counts once at most
pub cond-few : (b : Bool) → cond b 1 0 ≤ 1
cond-few true = omega arith
cond-few false = omega arith

-- the next node, and what is told of it
module _ (world : World) (epoch count id : ℕ) (next : id ≡ count + 1) where
  -- it shows no view
  pub next-none : None ≡ option_map told_of (shows world id)
      → of_epoch epoch (views_of (count + 1) world) ≡ of_epoch epoch (views_of count world)
  next-none is = of_epoch-none world epoch count (ap (shows world) (sym next) ∙ none-told (shows world id) is)

  module _ (told : ℕ × List ℕ) (is : Some told ≡ option_map told_of (shows world id)) where
    -- it shows one of another epoch
    pub next-other : (told.0 == epoch) ≡ false
        → of_epoch epoch (views_of (count + 1) world) ≡ of_epoch epoch (views_of count world)
    next-other differs =
        let t = some-told (shows world id) told.0 told.1 is in
        of_epoch-other world epoch count t.view (ap (shows world) (sym next) ∙ t.shows) (ap (λ n. n == epoch) t.epoch_is ∙ differs)

    -- it shows one of the epoch
    pub next-one : (told.0 == epoch) ≡ true
        → length (of_epoch epoch (views_of (count + 1) world)) ≡ length (of_epoch epoch (views_of count world)) + 1
    next-one same =
        let t = some-told (shows world id) told.0 told.1 is in
        ap length (of_epoch-one world epoch count t.view (ap (shows world) (sym next) ∙ t.shows) (ap (λ n. n == epoch) t.epoch_is ∙ same))
        ∙ length-append (of_epoch epoch (views_of count world)) (t.view ∷ [])

    -- which agrees or doesn't
    pub next-agrees : (lead : Picture) → (told.0 == epoch) ≡ true
        → length (agreeing lead (of_epoch epoch (views_of (count + 1) world)))
        ≡ length (agreeing lead (of_epoch epoch (views_of count world))) + cond (bytes_eq told.1 (digest_of lead)) 1 0
    next-agrees lead same =
        let t = some-told (shows world id) told.0 told.1 is in
        ap (λ views. length (agreeing lead views))
        (of_epoch-one world epoch count t.view (ap (shows world) (sym next) ∙ t.shows) (ap (λ n. n == epoch) t.epoch_is ∙ same))
        ∙ agreeing-more lead t.view (of_epoch epoch (views_of count world))
        ∙ ap (λ digest. length (agreeing lead (of_epoch epoch (views_of count world))) + cond (bytes_eq digest (digest_of lead)) 1 0) t.digest_is
