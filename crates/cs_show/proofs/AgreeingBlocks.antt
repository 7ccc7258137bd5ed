-- The blocks of two views agree where the views have one list of summaries, and one roll of each region that both know.
use Rattle.std.proofs.Common.{◌≡◌, ℕ, Bool, false, List, [], ◌∷◌, ◌++◌, IsSome, Option, Some, refl, sym, ap, subst, ◌∙◌, arith}
use Rattle.std.specs.List.{AllByRecursion, filter, flat_map}
use Rattle.std.specs.Option.{is_some}
use Rattle.std.proofs.lemmas.Fmt.{decimal_injective}
use Rattle.std.proofs.lemmas.Option.{same_Some}
use Rattle.cs_base.specs.Ranges.{IsRegion}
use Rattle.cs_base.specs.declared.member.Member.{Member}
use Rattle.cs_item.specs.declared.picture.Picture.{Picture}
use Rattle.cs_roll.specs.Sight.{IsByRegion, Summaries, at_region}
use Rattle.cs_show.specs.Agreement.{Agree, epoch_of, is_inside, is_shared}
use Rattle.cs_show.specs.Block.{block_lines, digest_line, digest_of, inter_lines, local_lines, roll_lines, shared_lines}
use Rattle.cs_show.specs.Text.{Line, all_but_last}
use Rattle.cs_show.proofs.BlockLines.{All-inters, All-locals, All-rolls, All-shared, body, body-block}
use Rattle.cs_show.proofs.FiveLists.{filter-even, filter-odd}
use Rattle.cs_show.proofs.KnownRolls.{IsTold}
use Rattle.cs_show.proofs.RegionLines.{known-told, tells-locals, tells-members}
use Rattle.cs_show.proofs.Words.{IsShort, epoch-read}

-- the shared lines of a block whose view has these
abbrev shared_of : ℕ → Summaries → List Line
shared_of epoch summaries =
    let p : Picture = record { epoch = epoch; summaries = summaries; rolls = [] } in
    filter is_shared (shared_lines p) ++ filter is_shared (inter_lines summaries) ++ filter is_shared (digest_line (digest_of p) ∷ [])

-- they don't depend on the rolls
shared-body : (p : Picture) → filter is_shared (body p) ≡ shared_of p.epoch p.summaries
shared-body p =
    let P : Line → Type 0 = λ line. is_shared line ≡ false in
    filter-odd is_shared (shared_lines p) (flat_map roll_lines p.rolls) (inter_lines p.summaries) (flat_map local_lines p.rolls)
    (digest_line (digest_of p) ∷ []) (All-rolls P p (λ region m. refl)) (All-locals P p (λ region colour tree. refl))

module _ (region : List ℕ) where
  -- what stands inside a known region is the lines of its members and its local lines
  inside-body : (p : Picture) (found : IsTold region p.rolls) → filter (is_inside region) (body p)
      ≡ roll_lines (found.number, found.members) ++ local_lines (found.number, found.members)
  inside-body p found =
      let test : Line → Bool = is_inside region in
      let P : Line → Type 0 = λ line. is_inside region line ≡ false in
      filter-even test (shared_lines p) (flat_map roll_lines p.rolls) (inter_lines p.summaries) (flat_map local_lines p.rolls)
      (digest_line (digest_of p) ∷ []) (All-shared P p (λ epoch. refl) (λ number s. refl) (λ number m. refl))
      (All-inters P p (λ colour tree. refl)) (refl, tt)
      ∙ (ap (λ lines. lines ++ filter test (flat_map local_lines p.rolls)) (found.lines test roll_lines (tells-members region test (λ number m. refl)))
      ∙ ap (λ lines. roll_lines (found.number, found.members) ++ lines)
      (found.lines test local_lines (tells-locals region test (λ number colour tree. refl))))

  -- so where both views have one roll of each region that both know, the same stands there in both blocks
  same-inside : (a b : Picture)
      → ((number : ℕ) → IsSome (at_region number a.rolls) → IsSome (at_region number b.rolls) → at_region number a.rolls ≡ at_region number b.rolls)
      → IsTold region a.rolls → IsTold region b.rolls → filter (is_inside region) (body a) ≡ filter (is_inside region) (body b)
  same-inside a b alike one other =
      let same : one.number ≡ other.number =
      decimal_injective one.number other.number (omega (arith, one.small.1)) (omega (arith, other.small.1)) (one.is ∙ sym other.is) in
      let there : at_region one.number b.rolls ≡ Some other.members = ap (λ n. at_region n b.rolls) same ∙ other.there in
      let rolls = alike one.number (ap is_some one.there) (ap is_some there) in
      let members : one.members ≡ other.members = same_Some one.members other.members (sym one.there ∙ (rolls ∙ there)) in
      inside-body a one
      ∙ (ap (λ n. roll_lines (n, one.members) ++ local_lines (n, one.members)) same
      ∙ (ap (λ ms. roll_lines (other.number, ms) ++ local_lines (other.number, ms)) members ∙ sym (inside-body b other)))

module _ (a b : Picture) (before_a before_b : Option Line) (epoch : a.epoch ≡ b.epoch) (summaries : a.summaries ≡ b.summaries)
    (alike : (region : ℕ) → IsSome (at_region region a.rolls) → IsSome (at_region region b.rolls)
    → at_region region a.rolls ≡ at_region region b.rolls)
    (a_ascends : IsByRegion a.rolls) (b_ascends : IsByRegion b.rolls) (a_regions : AllByRecursion (λ (pair : ℕ × List Member). IsRegion pair.0) a.rolls)
    (b_regions : AllByRecursion (λ (pair : ℕ × List Member). IsRegion pair.0) b.rolls) where
  -- the lines of both blocks agree
  agree-bodies : Agree (record { call = before_a; lines = body a }) (record { call = before_b; lines = body b })
  agree-bodies = record {
    shared = shared-body a ∙ ((λ i. shared_of (epoch i) (summaries i)) ∙ sym (shared-body b));
    inside = λ region known_a known_b.
        same-inside region a b alike (known-told region a a_ascends a_regions known_a) (known-told region b b_ascends b_regions known_b);
  }

  -- so the blocks do
  pub agree-printed :
      Agree (record { call = before_a; lines = all_but_last (block_lines a) }) (record { call = before_b; lines = all_but_last (block_lines b) })
  agree-printed =
      subst (λ (lines : List Line). Agree (record { call = before_a; lines = lines }) (record { call = before_b; lines = all_but_last (block_lines b) }))
      (sym (body-block a))
      (subst (λ (lines : List Line). Agree (record { call = before_a; lines = body a }) (record { call = before_b; lines = lines }))
      (sym (body-block b)) agree-bodies)

-- the epoch is read back from the first line of a block
pub epoch-printed : (p : Picture) (before : Option Line) → IsShort p.epoch
    → epoch_of (record { call = before; lines = all_but_last (block_lines p) }) ≡ p.epoch
epoch-printed p before short =
    ap (λ (lines : List Line). epoch_of (record { call = before; lines = lines })) (body-block p) ∙ epoch-read p.epoch short
