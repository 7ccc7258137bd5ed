-- A log into which a node wrote how it started, or tried to.
use Rattle.std.proofs.Common.{◌≡◌, ℕ, ◌⊎◌, inl, inr, List, [], ◌∷◌, ◌++◌, length, take}
use Rattle.std.proofs.Common.{Option, Some, None, IfSome, refl, sym, ap, subst, ◌∙◌, append-nil, arith}
use Rattle.cs_log.specs.Bytes.{appended}
use Rattle.cs_log.specs.Crash.{MayBeLeft}
use Rattle.cs_log.specs.Frames.{placed}
use Rattle.cs_log.proofs.Left.{whole_entries_are_left}
use Rattle.cs_packet.specs.EntryField.{entry_bytes, IsEntry}
use Rattle.cs_packet.specs.declared.entry.Entry.{Entry}
use Rattle.std.specs.Option.{option_map_or}
use Rattle.cs_node.specs.Appending.{entry_frame}
use Rattle.cs_node.specs.Booting.{HasNotBooted, StartsAgain}
use Rattle.cs_node.specs.Folding.{fold, fold_from, FoldsTo, looked_at, started_by, takes_in}
use Rattle.cs_node.specs.Logged.{HasLogged, restarted}
use Rattle.cs_node.specs.Told.{LogTold}
use Rattle.cs_node.specs.declared.folding.Folded.TheVariants.{Bad, Empty, Gives}
use Rattle.cs_node.specs.declared.node.Node.{Node}
use Rattle.cs_node.specs.declared.node.Node.TheVariants as nodes
use Rattle.cs_node.specs.declared.stopped.Why.{Why}
use Rattle.cs_node.specs.declared.stopped.Why.TheVariants as why
use Rattle.cs_node.proofs.Entered.{entry-fits, entry-read}

-- one frame alone gives the node that its entry starts
first-gives : (entry : Entry) (node : Node) → IsEntry entry → started_by entry ≡ Some node
    → fold (placed 0 (entry_bytes entry ∷ [])) ≡ Gives node
first-gives entry node is starts =
    ap (λ o. option_map_or (λ (n : Node). fold_from n (looked_at n [])) o (Bad 0)) (ap (takes_in None) (entry-read entry is) ∙ starts) ∙ alone node
  where
    alone : (n : Node) → fold_from n (looked_at n []) ≡ Gives n
    alone (nodes.Follower f) = refl
    alone (nodes.Leader leader) = refl
    alone nodes.Left = refl

-- the frame in a log that was empty is the log of the node
pub booted-logged : (told now : Option (List ℕ)) (synced : ℕ) (entry : Entry) (node : Node) → IfSome told (λ bytes. bytes ≡ [])
    → IsEntry entry → started_by entry ≡ Some node → restarted node ≡ node → now ≡ appended told (entry_frame entry)
    → IfSome now (λ bytes. synced ≡ length bytes) → HasLogged synced now node
booted-logged None now synced entry node empty is starts back more all = subst (λ o. HasLogged synced o node) (sym more) tt
booted-logged (Some bytes) now synced entry node empty is starts back more all =
    subst (λ o. HasLogged synced o node) (sym more)
    (record {
      payloads = entry_bytes entry ∷ [];
      fit = (entry-fits entry is, tt);
      whole = ap (λ (b : List ℕ). b ++ entry_frame entry) empty ∙ sym (append-nil (entry_frame entry));
      all = subst (λ o. IfSome o (λ b. synced ≡ length b)) more all;
      gives = first-gives entry node is starts ∙ ap (λ n. Gives n) (sym back);
    })

-- a part of the frame in a log that was empty gives no node, or this one
part-starts : (told now : Option (List ℕ)) (synced n : ℕ) (entry : Entry) (node : Node) → IfSome told (λ bytes. bytes ≡ [])
    → IsEntry entry → started_by entry ≡ Some node → now ≡ appended told (take n (entry_frame entry))
    → IfSome now (λ bytes. (left : List ℕ) → MayBeLeft synced bytes left → FoldsTo left Empty ⊎ FoldsTo left (Gives node))
part-starts None now synced n entry node empty is starts more =
    subst (λ o. IfSome o (λ bytes. (left : List ℕ) → MayBeLeft synced bytes left → FoldsTo left Empty ⊎ FoldsTo left (Gives node))) (sym more) tt
part-starts (Some bytes) now synced n entry node empty is starts more =
    subst (λ o. IfSome o (λ b. (left : List ℕ) → MayBeLeft synced b left → FoldsTo left Empty ⊎ FoldsTo left (Gives node))) (sym more)
    (λ left may. let p = entry_bytes entry in
    let from_start : MayBeLeft 0 ([] ++ take n (entry_frame entry)) left = record {
      front = may.front ∙ ap (λ (b : List ℕ). take (length left) (b ++ take n (entry_frame entry))) empty;
      enough = omega arith;
    } in
    elim (whole_entries_are_left [] p left n tt (entry-fits entry is) from_start) [
      | inl are ↦ inl (placed 0 [], are, refl)
      | inr are ↦ inr (placed 0 (p ∷ []), are, first-gives entry node is starts)
    ])

-- nothing more is there
none-more : (told : Option (List ℕ)) (frame : List ℕ) → told ≡ appended told (take 0 frame)
none-more None frame = refl
none-more (Some bytes) frame = ap (λ (b : List ℕ). Some b) (sym (append-nil bytes))

-- where a node couldn't start
pub starts-again : (reason : Why) (log now : LogTold) (entry : Entry) (node : Node) → IfSome log.bytes (λ bytes. bytes ≡ [])
    → IsEntry entry → started_by entry ≡ Some node → HasNotBooted entry reason log now → StartsAgain node now
starts-again why.Log log now entry node empty is starts failed =
    part-starts log.bytes now.bytes now.synced failed.front.0 entry node empty is starts failed.front.2
starts-again why.Memory log now entry node empty is starts same =
    part-starts log.bytes now.bytes now.synced 0 entry node empty is starts
    (ap (λ (l : LogTold). l.bytes) same ∙ none-more log.bytes (entry_frame entry))
starts-again (why.Bad place) log now entry node empty is starts failed = absurd failed
starts-again why.Empty log now entry node empty is starts failed = absurd failed
