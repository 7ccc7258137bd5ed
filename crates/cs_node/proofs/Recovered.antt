-- What a recovery leaves of a log.
use Rattle.std.proofs.Common.{◌≡◌, ◌≤◌, ◌⊎◌, ℕ, inl, inr, arith, List, Option, Some, None, IfSome, length, take, refl, sym, ap, subst, ◌∙◌}
use Rattle.cs_log.specs.Bytes.{cut_to}
use Rattle.cs_log.specs.Faults.{HasRisen}
use Rattle.cs_log.specs.Frames.{AreFramesOf, framed, payloads_of, whole_len}
use Rattle.cs_log.specs.Tears.{FailsSync}
use Rattle.cs_node.specs.Folding.{fold}
use Rattle.cs_node.specs.Logged.{HasLogged}
use Rattle.cs_node.specs.Recovery.{Explains, HasCause, LeavesWhole}
use Rattle.cs_node.specs.Told.{LogTold}
use Rattle.cs_node.specs.declared.folding.Folded.TheVariants.{Gives}
use Rattle.cs_node.specs.declared.node.Node.{Node}
use Rattle.cs_node.specs.declared.stopped.Why.TheVariants.{Log}
use Rattle.cs_node.proofs.Restarts.{fold-back}

-- a log that is cut to its whole frames and synced is the log of the node that they give
pub cut-logged : (told now : Option (List ℕ)) (all : List ℕ) (frames : List (ℕ × List ℕ)) (node : Node) (synced : ℕ)
    → IfSome told (λ bytes. all ≡ bytes) → AreFramesOf all frames → fold frames ≡ Gives node
    → now ≡ cut_to (whole_len frames) told → IfSome now (λ bytes. synced ≡ length bytes) → HasLogged synced now node
cut-logged None now all frames node synced same are gives cut synced_all = subst (λ o. HasLogged synced o node) (sym cut) tt
cut-logged (Some bytes) now all frames node synced same are gives cut synced_all =
    let front : framed (payloads_of frames) ≡ take (whole_len frames) bytes = are.front ∙ ap (take (whole_len frames)) same in
    subst (λ o. HasLogged synced o node) (sym cut)
    (record {
      payloads = payloads_of frames;
      fit = are.fit;
      whole = sym front;
      all = subst (λ o. IfSome o (λ b. synced ≡ length b)) cut synced_all;
      gives = ap fold (sym are.places) ∙ gives ∙ ap (λ n. Gives n) (sym (fold-back frames node gives));
    })

-- a log that was cut has its whole frames
pub cut-whole : (told now : Option (List ℕ)) (all : List ℕ) (frames : List (ℕ × List ℕ)) → IfSome told (λ bytes. all ≡ bytes)
    → AreFramesOf all frames → now ≡ cut_to (whole_len frames) told → LeavesWhole told now
cut-whole None now all frames same are cut = tt
cut-whole (Some bytes) now all frames same are cut =
    (take (whole_len frames) bytes, cut, (frames, subst (λ b. AreFramesOf b frames) same are, refl))

-- a count that rose later rose
pub risen-later : (first before now : ℕ) → first ≤ before → HasRisen before now → HasRisen first now
risen-later first before now earlier (inl below) = inl (omega (arith, earlier, below))
risen-later first before now earlier (inr last) = inr last

-- a later cause is one from before, where till then nothing failed and the same was armed
pub cause-later : (first before now : LogTold) → before.own_faults ≡ first.own_faults → before.tear ≡ first.tear
    → HasCause before now → HasCause first now
cause-later first before now own armed cause =
    subst (λ n. HasRisen n now.own_faults ⊎ FailsSync first.tear) own
    (subst (λ t. HasRisen before.own_faults now.own_faults ⊎ FailsSync t) armed cause)

-- where keeping the front failed the log is as it was, or it was cut
pub failed-left : (told read now : Option (List ℕ)) (all : List ℕ) (frames : List (ℕ × List ℕ)) (len : ℕ) → read ≡ told
    → len ≡ whole_len frames → IfSome told (λ bytes. all ≡ bytes) → AreFramesOf all frames → (now ≡ read) ⊎ (now ≡ cut_to len read)
    → (now ≡ told) ⊎ LeavesWhole told now
failed-left told read now all frames len is_told is_len same are (inl still) = inl (still ∙ is_told)
failed-left told read now all frames len is_told is_len same are (inr cut) =
    inr (cut-whole told now all frames same are (cut ∙ ap (λ n. cut_to n read) is_len ∙ ap (cut_to (whole_len frames)) is_told))

-- that a log failed says nothing of its bytes
pub failed-explains : (told : Option (List ℕ)) → IfSome told (Explains Log)
failed-explains None = tt
failed-explains (Some bytes) = tt
