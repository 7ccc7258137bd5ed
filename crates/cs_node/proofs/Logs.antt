-- A log of whole frames that are all synced survives any crash.
use Rattle.std.proofs.Common.{ℕ, List, [], Option, Some, None, IfSome, sym, subst, ◌∙◌, append-nil}
use Rattle.cs_log.specs.Crash.{MayBeLeft}
use Rattle.cs_log.specs.Frames.{AreFramesOf, framed, placed}
use Rattle.cs_log.proofs.Left.{all_is_left}
use Rattle.cs_log.proofs.Readings.{frames_are_found}
use Rattle.cs_log.proofs.Torn.{nothing_is_torn}
use Rattle.cs_node.specs.Folding.{FoldsTo}
use Rattle.cs_node.specs.Logged.{HasLogged, IsLogOf, Survives, restarted}
use Rattle.cs_node.specs.declared.folding.Folded.TheVariants.{Gives}
use Rattle.cs_node.specs.declared.node.Node.{Node}

-- its bytes give the node
pub log-folds : (synced : ℕ) (bytes : List ℕ) (node : Node) → IsLogOf synced bytes node → FoldsTo bytes (Gives (restarted node))
log-folds synced bytes node is = (
  placed 0 is.payloads,
  subst (λ b. AreFramesOf b (placed 0 is.payloads)) (append-nil (framed is.payloads) ∙ sym is.whole)
      (frames_are_found is.payloads [] is.fit nothing_is_torn),
  is.gives,
)

-- and so does what a crash leaves of them, which is all
log-survives : (synced : ℕ) (bytes : List ℕ) (node : Node) → IsLogOf synced bytes node → Survives synced bytes node
log-survives synced bytes node is left may =
    subst (λ b. FoldsTo b (Gives (restarted node)))
    (sym (all_is_left bytes left (subst (λ n. MayBeLeft n bytes left) is.all may))) (log-folds synced bytes node is)

-- where the log tells its bytes
pub logged-survives : (synced : ℕ) (told : Option (List ℕ)) (node : Node) → HasLogged synced told node
    → IfSome told (λ bytes. Survives synced bytes node)
logged-survives synced None node is = tt
logged-survives synced (Some bytes) node is = log-survives synced bytes node is
