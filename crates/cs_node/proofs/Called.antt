-- How a call ends: the log is that of the node after, and whatever is left of it gives the node again.
use Rattle.std.proofs.Common.{◌≡◌, ℕ, ◌+◌, inl, inr, nat_le, if◌then◌else◌, OnOk, IfErr, List, ◌++◌, length, take}
use Rattle.std.proofs.Common.{Option, Some, None, IfSome, Result, Ok, Err, refl, sym, ap, subst, ◌∙◌}
use Rattle.std.specs.Prelude.{MatchOption, ⊤}
use Rattle.cs_link.specs.Sent.{Datagram}
use Rattle.cs_link.specs.declared.link.Link.{Ghosts as LinkGhosts}
use Rattle.cs_log.specs.Bytes.{appended}
use Rattle.cs_log.specs.Crash.{MayBeLeft}
use Rattle.cs_log.specs.declared.log.Log.{Ghosts as LogGhosts}
use Rattle.cs_packet.specs.EntryField.{IsEntry}
use Rattle.cs_packet.specs.declared.entry.Entry.{Entry}
use Rattle.cs_node.specs.Acting.{HasSent, IsDecision, LeadsOn}
use Rattle.cs_node.specs.Appending.{entry_frame, IsKept, IsLost}
use Rattle.cs_node.specs.Calls.{Acts, Ends, ends_in, frame_length, GivesAgain, node_after}
use Rattle.cs_node.specs.Folding.{after_entry, FoldsTo}
use Rattle.cs_node.specs.Logged.{HasLogged, IsLogOf, restarted}
use Rattle.cs_node.specs.Posting.{AreSent, datagrams_of, SendsFront}
use Rattle.cs_node.specs.States.{link_of, log_of, status_of}
use Rattle.cs_node.specs.Told.{LinkTold, link_told, LogTold, log_told}
use Rattle.cs_node.specs.declared.effects.Effects.{Effects}
use Rattle.cs_node.specs.declared.folding.Folded.TheVariants.{Gives}
use Rattle.cs_node.specs.declared.node.Node.{Node}
use Rattle.cs_node.specs.declared.note.Note.{Note}
use Rattle.cs_node.specs.declared.note.Note.TheVariants as notes
use Rattle.cs_node.specs.declared.state.State.{State}
use Rattle.cs_node.specs.declared.stopped.Why.{Why}
use Rattle.cs_node.specs.declared.stopped.Why.TheVariants as why
use Rattle.cs_node.proofs.Entered.{entered, partly-entered}
use Rattle.cs_node.proofs.Logs.{logged-survives}

-- ---- the log of the node after

-- a log of a node is one of any node of which a restart brings back the same
same-log : (synced : ℕ) (bytes : List ℕ) (node after : Node) → restarted after ≡ restarted node → IsLogOf synced bytes node
    → IsLogOf synced bytes after
same-log synced bytes node after same log = record {
  payloads = log.payloads;
  fit = log.fit;
  whole = log.whole;
  all = log.all;
  gives = log.gives ∙ ap (λ n. Gives n) (sym same);
}

same-logged : (synced : ℕ) (told : Option (List ℕ)) (node after : Node) → restarted after ≡ restarted node → HasLogged synced told node
    → HasLogged synced told after
same-logged synced None node after same logged = tt
same-logged synced (Some bytes) node after same logged = same-log synced bytes node after same logged

-- with one more frame
entry-logged : (told : Option (List ℕ)) (synced synced_now : ℕ) (now : Option (List ℕ)) (node after : Node) (entry : Entry)
    → HasLogged synced told node → IsEntry entry → after_entry (restarted node) entry ≡ Some (restarted after)
    → now ≡ appended told (entry_frame entry) → IfSome now (λ bytes. synced_now ≡ length bytes) → HasLogged synced_now now after
entry-logged None synced synced_now now node after entry logged is goes more all = subst (λ o. HasLogged synced_now o after) (sym more) tt
entry-logged (Some bytes) synced synced_now now node after entry logged is goes more all =
    subst (λ o. HasLogged synced_now o after) (sym more)
    (entered synced synced_now bytes node after entry logged is goes (subst (λ o. IfSome o (λ b. synced_now ≡ length b)) more all))

-- by what was decided
pub kept-logged : (node after : Node) (o : Option Entry) (log now : LogTold) → HasLogged log.synced log.bytes node
    → MatchOption o ⊤ IsEntry → LeadsOn node o after → IsKept o log now → HasLogged now.synced now.bytes after
kept-logged node after None log now logged are leads kept =
    subst (λ (l : LogTold). HasLogged l.synced l.bytes after) (sym kept) (same-logged log.synced log.bytes node after leads logged)
kept-logged node after (Some entry) log now logged is leads kept =
    entry-logged log.bytes log.synced now.synced now.bytes node after entry logged is leads kept.bytes kept.synced

-- all of it is synced
logged-synced : (synced : ℕ) (told : Option (List ℕ)) (node : Node) → HasLogged synced told node → IfSome told (λ bytes. synced ≡ length bytes)
logged-synced synced None node logged = tt
logged-synced synced (Some bytes) node logged = logged.all

-- ---- a log that failed

-- what is left gives the node before, or the next one where the whole frame of the entry is there
abbrev GivesOne : Node → Node → Option Entry → Option (List ℕ) → List ℕ → Type 0
GivesOne node after o told left = IfSome told (λ before.
    FoldsTo left (Gives (restarted (if nat_le (length before + frame_length o) (length left) then after else node))))

-- a part of the frame is there
part-left : (told now : Option (List ℕ)) (synced synced_now n : ℕ) (node after : Node) (entry : Entry) → HasLogged synced told node
    → IsEntry entry → after_entry (restarted node) entry ≡ Some (restarted after)
    → now ≡ appended told (take n (entry_frame entry)) → synced_now ≡ synced
    → IfSome now (λ bytes. (left : List ℕ) → MayBeLeft synced_now bytes left → GivesOne node after (Some entry) told left)
part-left None now synced synced_now n node after entry logged is goes more same =
    subst (λ o. IfSome o (λ bytes. (left : List ℕ) → MayBeLeft synced_now bytes left → GivesOne node after (Some entry) None left)) (sym more) tt
part-left (Some bytes) now synced synced_now n node after entry logged is goes more same =
    subst (λ o. IfSome o (λ b. (left : List ℕ) → MayBeLeft synced_now b left → GivesOne node after (Some entry) (Some bytes) left)) (sym more)
    (λ left may. partly-entered synced bytes node after entry n left logged is goes
    (subst (λ k. MayBeLeft k (bytes ++ take n (entry_frame entry)) left) same may))

-- so it is with an entry that wasn't kept
lost-left : (node after : Node) (o : Option Entry) (log now : LogTold) → HasLogged log.synced log.bytes node
    → MatchOption o ⊤ IsEntry → LeadsOn node o after → IsLost o log now
    → IfSome now.bytes (λ bytes. (left : List ℕ) → MayBeLeft now.synced bytes left → GivesOne node after o log.bytes left)
lost-left node after None log now logged are leads lost = absurd lost
lost-left node after (Some entry) log now logged is leads lost =
    part-left log.bytes now.bytes log.synced now.synced lost.front.0 node after entry logged is leads lost.front.2 lost.synced

-- ---- the four ends of a call

-- whatever a crash leaves of a log gives its node
survives-again : (node after : Node) (effects : Effects) (told : Option (List ℕ)) (log : LogTold) → HasLogged log.synced log.bytes after
    → IfSome log.bytes (λ bytes. (left : List ℕ) → MayBeLeft log.synced bytes left → GivesAgain node effects told (Ok after) left)
survives-again node after effects told log logged = logged-survives log.synced log.bytes after logged

-- the entry is kept, and the packets went out, or the first of them
pub sent-acts : (node : Node) (effects : Effects) (link : LinkTold) (log : LogTold) (note : Note) (now : Ends) → HasLogged log.synced log.bytes node
    → IsDecision node effects → now.status ≡ Ok (node_after node effects) → IsKept effects.entry log now.log
    → HasSent effects.note (datagrams_of effects.sends) link note now.link → Acts node effects link log note now
sent-acts node effects link log note now logged decision status kept sent =
    let next = node_after node effects in
    let after = kept-logged node next effects.entry log now.log logged decision.sound.entry decision.leads kept in
    record {
      ended = elim sent [
        | inl all ↦ inl (all.0, (status, kept), all.1)
        | inr front ↦ inr (inl (front.0, front.1, (status, kept), front.2))
      ];
      comes_back = subst (λ r. IfSome now.log.bytes (λ bytes. (left : List ℕ)
          → MayBeLeft now.log.synced bytes left → GivesAgain node effects log.bytes r left))
          (sym status) (survives-again node next effects log.bytes now.log after);
      synced_first = inr (logged-synced now.log.synced now.log.bytes next after);
      sound = λ some. decision.sound;
    }

-- the entry isn't kept
pub stopped-acts : (node : Node) (effects : Effects) (link : LinkTold) (log log_now : LogTold) → HasLogged log.synced log.bytes node
    → IsDecision node effects → IsLost effects.entry log log_now
    → Acts node effects link log notes.LogFault (record { status = Err why.Log; link = link; log = log_now })
stopped-acts node effects link log log_now logged decision lost = record {
  ended = inr (inr (inl (refl, refl, refl, lost)));
  comes_back = lost-left node (node_after node effects) effects.entry log log_now logged decision.sound.entry decision.leads lost;
  synced_first = inl refl;
  sound = λ some. decision.sound;
}

-- memory is wanting
pub memory-acts : (node : Node) (effects : Effects) (link : LinkTold) (log : LogTold) → HasLogged log.synced log.bytes node
    → Acts node effects link log notes.Memory (record { status = Ok node; link = link; log = log })
memory-acts node effects link log logged = record {
  ended = inr (inr (inr (refl, refl, refl, refl)));
  comes_back = survives-again node node effects log.bytes log logged;
  synced_first = inl refl;
  sound = λ some. absurd (some refl);
}

-- ---- the node of a state

-- what is known of the node, the link and the log of a state
pub ends-of : {L G : Type 0} (link_ghosts : LinkGhosts L) (log_ghosts : LogGhosts G) (state : State L G) (status : Result Node Why) (link : L) (log : G)
    → status_of state ≡ status → link_of state ≡ link → log_of state ≡ log
    → ends_in link_ghosts log_ghosts state ≡ record { status = status; link = link_told link_ghosts link; log = log_told log_ghosts log }
ends-of link_ghosts log_ghosts state status link log is_status is_link is_log = rw (is_status, is_link, is_log) refl

-- the answer says how many were sent
pub has-sent : {T : Type 0} (r : Result T ℕ) (datagrams : List Datagram) (link link_now : LinkTold) (note note_now : Note)
    → OnOk r (AreSent datagrams link link_now) → IfErr r (λ n. SendsFront n datagrams link link_now) → OnOk r (note_now ≡ note)
    → IfErr r (λ n. note_now ≡ notes.LinkFault n) → HasSent note datagrams link note_now link_now
has-sent (Ok x) datagrams link link_now note note_now all front same told = inl (same, all)
has-sent (Err n) datagrams link link_now note note_now all front same told = inr (n, told, front)
