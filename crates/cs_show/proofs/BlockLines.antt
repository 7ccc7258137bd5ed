-- The lines of a block up to `end`, and what holds of each of them.
use Rattle.std.proofs.Common.{◌≡◌, ℕ, List, [], ◌∷◌, ◌++◌, length, codes, decimal, Option, Some, None, refl, sym, ap, ◌∙◌, append_assoc}
use Rattle.std.specs.List.{AllByRecursion, cons_option, filter_map, flat_map, range_with_len}
use Rattle.std.specs.Option.{option_map}
use Rattle.cs_base.specs.Limits.{colours}
use Rattle.cs_base.specs.declared.member.Member.{Member}
use Rattle.cs_base.proofs.Elements.{All-append, All-flat_map, All-map}
use Rattle.cs_item.specs.declared.picture.Picture.{Picture}
use Rattle.cs_roll.specs.Summary.{RegionSummary}
use Rattle.cs_tree.specs.Colour.{trees_of}
use Rattle.cs_tree.specs.Inter.{inter_tree}
use Rattle.cs_tree.specs.Local.{local_tree}
use Rattle.cs_tree.specs.Tree.{RootedTree}
use Rattle.cs_show.specs.Block.{block_lines, digest_line, digest_of, inter_line, inter_lines, local_line, local_lines, member_line}
use Rattle.cs_show.specs.Block.{region_line, region_lines, roll_lines, shared_lines}
use Rattle.cs_show.specs.Text.{Line, all_but_last}

-- the lines of a block but `end`
abbrev pub body : Picture → List Line
body p =
    shared_lines p ++ flat_map roll_lines p.rolls ++ inter_lines p.summaries ++ flat_map local_lines p.rolls ++ digest_line (digest_of p) ∷ []

-- a list without the last of one more
pub all_but_last-push : {X : Type 0} (xs : List X) (x : X) → all_but_last (xs ++ x ∷ []) ≡ xs
all_but_last-push [] x = refl
all_but_last-push (y ∷ []) x = refl
all_but_last-push (y ∷ z ∷ more) x = ap (λ l. y ∷ l) (all_but_last-push (z ∷ more) x)

-- the lines of a view are these and `end`
pub whole-block : (p : Picture) → block_lines p ≡ body p ++ codes "end" ∷ []
whole-block p =
    let front = shared_lines p ++ flat_map roll_lines p.rolls ++ inter_lines p.summaries ++ flat_map local_lines p.rolls in
    sym (append_assoc front (digest_line (digest_of p) ∷ []) (codes "end" ∷ []))

-- without it they are these
pub body-block : (p : Picture) → all_but_last (block_lines p) ≡ body p
body-block p = ap all_but_last (whole-block p) ∙ all_but_last-push (body p) (codes "end")

-- what holds of each line that may be there holds of those that are
module _ (P : Line → Type 0) (line : ℕ → RootedTree → Line) (tree : ℕ → Option RootedTree) (each : (n : ℕ) (t : RootedTree) → P (line n t)) where
  -- one line, or none, and others
  All-cons_option : (n : ℕ) (there : Option RootedTree) (rest : List Line) → AllByRecursion P rest
      → AllByRecursion P (cons_option (option_map (line n) there) rest)
  All-cons_option n None rest all = all
  All-cons_option n (Some t) rest all = (each n t, all)

  -- a line for each colour that has a tree
  pub All-coloured : (ns : List ℕ) → AllByRecursion P (filter_map (λ n. option_map (line n) (tree n)) ns)
  All-coloured [] = tt
  All-coloured (n ∷ ns) = All-cons_option n (tree n) (filter_map (λ n. option_map (line n) (tree n)) ns) (All-coloured ns)

-- what holds of five lists holds of all of them in a row
pub All-five : {T : Type 0} (P : T → Type 0) (a b c d e : List T) → AllByRecursion P a → AllByRecursion P b → AllByRecursion P c
    → AllByRecursion P d → AllByRecursion P e → AllByRecursion P (a ++ b ++ c ++ d ++ e)
All-five P a b c d e all_a all_b all_c all_d all_e =
    All-append P (a ++ b ++ c ++ d) e (All-append P (a ++ b ++ c) d (All-append P (a ++ b) c (All-append P a b all_a all_b) all_c) all_d) all_e

-- what holds of each line of a block but `end`
module _ (P : Line → Type 0) (p : Picture) where
  -- of the shared lines
  pub All-shared : ((epoch : ℕ) → P (codes "epoch " ++ decimal epoch)) → ((region : ℕ) (s : RegionSummary) → P (region_line region s))
      → ((region : ℕ) (m : Member) → P (member_line (codes "global") region m)) → AllByRecursion P (shared_lines p)
  All-shared of_epoch of_region of_global = (
    of_epoch p.epoch,
    All-flat_map P region_lines
        (λ pair. (of_region pair.0 pair.1, All-map P (member_line (codes "global") pair.0) (of_global pair.0) pair.1.globals)) p.summaries,
  )

  -- of the members' lines
  pub All-rolls : ((region : ℕ) (m : Member) → P (member_line (codes "member") region m)) → AllByRecursion P (flat_map roll_lines p.rolls)
  All-rolls of_member = All-flat_map P roll_lines (λ pair. All-map P (member_line (codes "member") pair.0) (of_member pair.0) pair.1) p.rolls

  -- of the lines of the regions' trees
  pub All-inters : ((colour : ℕ) (tree : RootedTree) → P (inter_line colour tree)) → AllByRecursion P (inter_lines p.summaries)
  All-inters of_inter = All-coloured P inter_line (λ colour. inter_tree colour p.summaries) of_inter (range_with_len 0 colours)

  -- of the local lines
  pub All-locals : ((region colour : ℕ) (tree : RootedTree) → P (local_line region colour tree)) → AllByRecursion P (flat_map local_lines p.rolls)
  All-locals of_local =
      All-flat_map P local_lines
      (λ pair. All-coloured P (local_line pair.0) (λ colour. local_tree colour pair.1) (of_local pair.0) (range_with_len 0 (trees_of (length pair.1)))) p.rolls

  -- of all of them
  pub All-body : ((epoch : ℕ) → P (codes "epoch " ++ decimal epoch)) → ((region : ℕ) (s : RegionSummary) → P (region_line region s))
      → ((region : ℕ) (m : Member) → P (member_line (codes "global") region m))
      → ((region : ℕ) (m : Member) → P (member_line (codes "member") region m))
      → ((colour : ℕ) (tree : RootedTree) → P (inter_line colour tree))
      → ((region colour : ℕ) (tree : RootedTree) → P (local_line region colour tree))
      → ((digest : List ℕ) → P (digest_line digest)) → AllByRecursion P (body p)
  All-body of_epoch of_region of_global of_member of_inter of_local of_digest =
      All-five P (shared_lines p) (flat_map roll_lines p.rolls) (inter_lines p.summaries) (flat_map local_lines p.rolls)
      (digest_line (digest_of p) ∷ []) (All-shared of_epoch of_region of_global) (All-rolls of_member) (All-inters of_inter)
      (All-locals of_local) (of_digest (digest_of p), tt)
