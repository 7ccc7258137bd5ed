-- The lines of a block that tell of a region: those of its members and of its local trees.
use Rattle.std.proofs.Common.{◌≡◌, ℕ, Bool, true, false, ◌&&◌, List, [], ◌∷◌, length, get_or, codes, bytes_eq, refl, sym, ap, ◌∙◌, ⊎_elim}
use Rattle.std.specs.List.{AllByRecursion, flat_map, list_any, range_with_len}
use Rattle.std.proofs.lemmas.Bool.{false≢true}
use Rattle.cs_base.specs.Ranges.{IsRegion}
use Rattle.cs_base.specs.declared.member.Member.{Member}
use Rattle.cs_base.proofs.Elements.{All-map}
use Rattle.cs_item.specs.declared.picture.Picture.{Picture}
use Rattle.cs_roll.specs.Sight.{IsByRegion}
use Rattle.cs_tree.specs.Colour.{trees_of}
use Rattle.cs_tree.specs.Local.{local_tree}
use Rattle.cs_tree.specs.Tree.{RootedTree}
use Rattle.cs_show.specs.Agreement.{begins_with, has_word}
use Rattle.cs_show.specs.Block.{digest_line, digest_of, inter_lines, local_line, local_lines, member_line, roll_lines, shared_lines}
use Rattle.cs_show.specs.Text.{Line, words_of}
use Rattle.cs_show.proofs.BlockLines.{body, All-coloured, All-inters, All-locals, All-shared}
use Rattle.cs_show.proofs.FiveLists.{any-none}
use Rattle.cs_show.proofs.KnownRolls.{IsTold, TellsRegion, All-others, is_of, told}
use Rattle.cs_show.proofs.Words.{words-local, words-member}

-- whether the second word of the line is the region, where the words of the line are known
word-is : (line : Line) (words : List (List ℕ)) (region : List ℕ) → words_of line ≡ words
    → has_word 1 region line ≡ bytes_eq (get_or words 1 []) region
word-is line words region is = ap (λ ws. bytes_eq (get_or ws 1 []) region) is

module _ (region : List ℕ) where
  -- the line of a member of the region
  abbrev pub is_member : Line → Bool
  is_member line = begins_with (codes "member") line && has_word 1 region line

  -- the line of a local tree of the region
  abbrev pub is_local : Line → Bool
  is_local line = begins_with (codes "local") line && has_word 1 region line

  -- of members' lines those of the region pass, where such lines are tested by their second word
  pub tells-members : (test : Line → Bool)
      → ((number : ℕ) (m : Member) → test (member_line (codes "member") number m) ≡ has_word 1 region (member_line (codes "member") number m))
      → TellsRegion region test roll_lines
  tells-members test by_word pair =
      All-map (λ line. test line ≡ is_of region pair) (member_line (codes "member") pair.0)
      (λ m. by_word pair.0 m ∙ word-is (member_line (codes "member") pair.0 m) _ region (words-member pair.0 m)) pair.1

  -- and so of the lines of local trees
  pub tells-locals : (test : Line → Bool)
      → ((number colour : ℕ) (tree : RootedTree) → test (local_line number colour tree) ≡ has_word 1 region (local_line number colour tree))
      → TellsRegion region test local_lines
  tells-locals test by_word pair =
      All-coloured (λ line. test line ≡ is_of region pair) (local_line pair.0) (λ colour. local_tree colour pair.1)
      (λ colour tree. by_word pair.0 colour tree ∙ word-is (local_line pair.0 colour tree) _ region (words-local pair.0 colour tree))
      (range_with_len 0 (trees_of (length pair.1)))

  -- a region without a roll isn't known in the block
  unknown : (p : Picture) → AllByRecursion (λ pair. is_of region pair ≡ false) p.rolls → list_any is_member (body p) ≡ false
  unknown p others =
      let P : Line → Type 0 = λ line. is_member line ≡ false in
      any-none is_member (shared_lines p) (flat_map roll_lines p.rolls) (inter_lines p.summaries) (flat_map local_lines p.rolls)
      (digest_line (digest_of p) ∷ [])
      (All-shared P p (λ epoch. refl) (λ number s. refl) (λ number m. refl))
      (All-others region is_member roll_lines (tells-members is_member (λ number m. refl)) p.rolls others)
      (All-inters P p (λ colour tree. refl)) (All-locals P p (λ number colour tree. refl)) (refl, tt)

  -- so a known region has a roll
  pub known-told : (p : Picture) → IsByRegion p.rolls → AllByRecursion (λ (pair : ℕ × List Member). IsRegion pair.0) p.rolls
      → list_any is_member (body p) ≡ true → IsTold region p.rolls
  known-told p ascending regions is_known =
      ⊎_elim (λ found. found) (λ others. absurd (false≢true (sym (unknown p others) ∙ is_known))) (told region p.rolls ascending regions)
