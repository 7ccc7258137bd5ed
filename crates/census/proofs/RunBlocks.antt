-- The blocks among the bytes that a replay writes are good, however it ends.
use Rattle.std.proofs.Common.{◌≡◌, ℕ, All, List, [], Option, None}
use Rattle.cs_show.specs.Agreement.{BlocksAgree, EpochsNeverFall, blocks_of}
use Rattle.cs_show.specs.PrintedTrees.{TreesAreGood}
use Rattle.census.specs.declared.form.Form.TheVariants.{Replay}
use Rattle.cs_base.proofs.Elements.{All-weaker}
use Rattle.cs_show.proofs.BlockOfText.{IsLine}
use Rattle.census.specs.Lines.{first_lf}
use Rattle.census.specs.Systems.{begun}
use Rattle.census.specs.Streams.{Appends, Writes}
use Rattle.census.specs.Run.{WritesOfLines}
use Rattle.census.proofs.RunLemmas.{Appends-nothing}
use Rattle.census.proofs.TranscriptLines.{line_is}
use Rattle.census.proofs.TranscriptBlocks.{HasGoodBlocks, front_is_good, nothing_is_good}

-- what was written has good blocks
pub record WritesGoodBlocks (before after : Option (List ℕ)) : Type 0 where
  pub agree : Writes BlocksAgree before after
  pub epochs : Writes EpochsNeverFall before after
  pub trees : Writes (λ text. All TreesAreGood (blocks_of text)) before after

-- a text with good blocks was written
pub good_written : (text : List ℕ) (before after : Option (List ℕ)) → Appends before after text → HasGoodBlocks text
    → WritesGoodBlocks before after
good_written text before after written good = record {
  agree = (text, written, good.agree);
  epochs = (text, written, good.epochs);
  trees = (text, written, good.trees);
}

-- a front of what a replay writes of some lines was written
pub lines_written : (before after : Option (List ℕ)) → WritesOfLines (begun Replay) before after → WritesGoodBlocks before after
lines_written before after (lines, none, (front, rest, is, written)) =
    good_written front before after written (front_is_good lines (All-weaker (λ line. first_lf line ≡ None) IsLine line_is lines none) front rest is)

-- nothing was written
pub nothing_written : (sink : Option (List ℕ)) → WritesGoodBlocks sink sink
nothing_written sink = good_written [] sink sink (Appends-nothing sink) nothing_is_good
