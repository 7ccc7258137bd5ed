-- The whole blocks in a front of what is told agree, the epochs of one node's never fall, and their local trees are
-- good.
use Rattle.std.proofs.Common.{◌≡◌, ℕ, ◌≤◌, All, List, [], ◌++◌, append-nil, ap, sym, subst, ◌∙◌}
use Rattle.std.proofs.lemmas.List.Elements.{All-from_recursion}
use Rattle.cs_base.proofs.Elements.{AllPairs-pairwise, All-append, All-front, All-weaker, Pairwise-front}
use Rattle.cs_show.specs.Agreement.{Agree, BlocksAgree, EpochsNeverFall, blocks_in, blocks_of, epoch_of}
use Rattle.cs_show.specs.PrintedTrees.{TreesAreGood}
use Rattle.cs_show.specs.Text.{Line, all_but_last, parts, text_of}
use Rattle.cs_show.proofs.BlockOfText.{IsLine}
use Rattle.std.specs.List.{AllByRecursion}
use Rattle.cs_machine.specs.Names.{empty_world}
use Rattle.cs_machine.proofs.Reached.{IsReached-empty}
use Rattle.census.specs.declared.form.Form.TheVariants.{Replay}
use Rattle.census.specs.Run.{course_from}
use Rattle.census.specs.Systems.{Many, begun}
use Rattle.census.specs.Transcript.{Said, told, written_by}
use Rattle.census.proofs.PrintedBlocks.{AllFit, AllFit-none, Fit, IsPrintedAfter, printed_trees}
use Rattle.census.proofs.QuietLines.{IsQuietLine}
use Rattle.census.proofs.TextFronts.{blocks_in-front, lines-front}
use Rattle.census.proofs.ToldBlocks.{IsSaid, tells, told-text, told_lines}
use Rattle.census.proofs.TranscriptLines.{are_lines, end_lines, end_lines-quiet, said_here, told_are_lines, transcript-text}

-- the blocks of a front of what is told of lines fit, with quiet lines behind
told_fits : (said : List Said) (tail : List Line) → AllByRecursion IsSaid said → AllByRecursion IsQuietLine tail → (front rest : List ℕ)
    → text_of (told_lines empty_world said ++ tail) ≡ front ++ rest → AllFit empty_world (blocks_of front)
told_fits said tail are quiet front rest is =
    let all = All-append IsLine (told_lines empty_world said) tail (told_are_lines said empty_world are) (are_lines tail quiet) in
    let whole = lines-front (told_lines empty_world said ++ tail) front rest all (sym is) in
    let found = blocks_in-front (all_but_last (parts front)) whole.0 in
    let fit : AllFit empty_world (blocks_of front ++ found.0) =
    subst (AllFit empty_world) (ap blocks_in whole.1 ∙ found.1) (tells said empty_world [] tail IsReached-empty are tt quiet) in
    record {
      pairs = Pairwise-front Fit (blocks_of front) found.0 fit.pairs;
      printed = All-front (IsPrintedAfter empty_world) (blocks_of front) found.0 fit.printed;
    }

-- of the whole blocks of a text any two of one epoch agree, the epochs of one node's never fall, and the local trees of
-- each are good
pub record HasGoodBlocks (text : List ℕ) : Type 0 where
  pub agree : BlocksAgree text
  pub epochs : EpochsNeverFall text
  pub trees : All TreesAreGood (blocks_of text)

-- so do blocks that fit
good_blocks : (text : List ℕ) → AllFit empty_world (blocks_of text) → HasGoodBlocks text
good_blocks text fit = record {
  agree = AllPairs-pairwise Fit (λ a b. epoch_of a ≡ epoch_of b → Agree a b) (λ a b fit. fit.agree) (blocks_of text) fit.pairs;
  epochs = AllPairs-pairwise Fit (λ a b. a.call ≡ b.call → epoch_of a ≤ epoch_of b) (λ a b fit. fit.epochs) (blocks_of text) fit.pairs;
  trees = All-from_recursion TreesAreGood (blocks_of text)
      (All-weaker (IsPrintedAfter empty_world) TreesAreGood (λ block (later, follows, printed). printed_trees later block printed) (blocks_of text)
      fit.printed);
}

-- each front of what a replay writes of lines has good blocks
pub front_is_good : (lines : List Line) → AllByRecursion IsLine lines → (front rest : List ℕ)
    → written_by (begun Replay) (course_from 1 0 (begun Replay) lines) ≡ front ++ rest → HasGoodBlocks front
front_is_good lines are front rest is =
    let c = course_from 1 0 (begun Replay) lines in
    good_blocks front
    (told_fits c.said (end_lines c.end) (said_here lines are) (end_lines-quiet c.end) front rest (sym (transcript-text lines are) ∙ is))

-- so has each front of what is told of lines
pub said_is_good : (said : List Said) → AllByRecursion IsSaid said → (front rest : List ℕ) → told (Many empty_world) said ≡ front ++ rest
    → HasGoodBlocks front
said_is_good said are front rest is =
    let same = told-text empty_world said ∙ ap text_of (sym (append-nil (told_lines empty_world said))) in
    good_blocks front (told_fits said [] are tt front rest (sym same ∙ is))

-- and so has a text without a block
pub nothing_is_good : HasGoodBlocks []
nothing_is_good = good_blocks [] (AllFit-none empty_world)
