-- An append and a sync, and what they leave where one of them fails.
use Rattle.std.proofs.Common.{◌≡◌, ℕ, ◌⊎◌, inl, inr, List, length, take, Option, Ok, Err, Result, OnErr, refl, sym, ap, subst, ◌∙◌, take_all, arith}
use Rattle.std.proofs.lemmas.Bool.{cases_lt}
use Rattle.cs_log.specs.Bytes.{appended, AppendsFront}
use Rattle.cs_log.specs.Faults.{HasRisen}
use Rattle.cs_log.specs.Tears.{armed_number, FailsAlone, FailsByTear, FailsSync, passed, TearsAppend, TornAppend}
use Rattle.cs_log.specs.declared.armed.Tear.{Tear}
use Rattle.cs_log.specs.declared.armed.Tear.TheVariants.{Nothing, Append, Sync}
use Rattle.cs_node.specs.Appending.{FailsByArm, FailsByItself, FailsToKeep, IsLeftByArm}
use Rattle.cs_node.specs.Told.{LogTold}

-- ---- where both succeed

-- nothing was armed then, and nothing is
pub none-armed : (tear mid now : Tear) (len : ℕ) → ((kept : ℕ) → TearsAppend tear len kept → ⊥) → mid ≡ passed tear
    → (FailsSync mid → ⊥) → now ≡ mid → (tear ≡ Nothing) × (now ≡ Nothing)
none-armed Nothing mid now len untorn let_pass unfailing same = (refl, same ∙ let_pass)
none-armed (Append b) mid now len untorn let_pass unfailing same = absurd (unfailing (subst FailsSync (sym let_pass) tt))
none-armed (Sync b) mid now len untorn let_pass unfailing same = absurd (unfailing (subst FailsSync (sym let_pass) tt))

-- ---- where the append fails

-- what an arm leaves of the frame then
torn-left : (tear : Tear) (frame : List ℕ) (before now : Option (List ℕ)) → TornAppend tear before now frame
    → IsLeftByArm tear frame before now
torn-left Nothing frame before now torn = absurd torn.1
torn-left (Append b) frame before now torn = torn.2 ∙ ap (λ n. appended before (take n frame)) torn.1.1
torn-left (Sync b) frame before now torn = absurd torn.1

-- by itself, or by what was armed
pub append-cause : (frame : List ℕ) (before now : LogTold)
    → FailsAlone before.own_faults now.own_faults before.tear now.tear
    ⊎ (FailsByTear before.own_faults now.own_faults now.tear × TornAppend before.tear before.bytes now.bytes frame)
    → FailsByItself before now ⊎ FailsByArm frame before now
append-cause frame before now (inl alone) = inl (record { risen = alone.risen; armed = ap armed_number alone.armed })
append-cause frame before now (inr torn) = inr (record {
  uncounted = torn.0.uncounted;
  unarmed = torn.0.unarmed;
  left = torn-left before.tear frame before.bytes now.bytes torn.1;
})

-- ---- where the sync fails

-- the whole frame is there
pub all-there : (frame : List ℕ) (before now : Option (List ℕ)) → now ≡ appended before frame → AppendsFront before now frame
all-there frame before now is =
    (length frame, omega arith, is ∙ ap (appended before) (sym (take_all (length frame) frame (omega arith))))

-- the number of an arm was enough for the frame
enough-left : (tear : Tear) (frame : List ℕ) (before now : Option (List ℕ))
    → ((kept : ℕ) → TearsAppend tear (length frame) kept → ⊥) → FailsSync (passed tear) → now ≡ appended before frame
    → IsLeftByArm tear frame before now
enough-left Nothing frame before now untorn fails is = absurd fails
enough-left (Append b) frame before now untorn fails is = elim (cases_lt b (length frame)) [
  | inl short ↦ absurd (untorn b (short, refl))
  | inr enough ↦ is ∙ ap (appended before) (sym (take_all b frame enough))
]
enough-left (Sync b) frame before now untorn fails is = is

-- an append that is let pass leaves the number armed
passed-number : (tear : Tear) → armed_number (passed tear) ≡ armed_number tear
passed-number Nothing = refl
passed-number (Append b) = refl
passed-number (Sync b) = refl

-- by itself, or by what was armed
pub sync-cause : (frame : List ℕ) (before mid now : LogTold) → ((kept : ℕ) → TearsAppend before.tear (length frame) kept → ⊥)
    → mid.tear ≡ passed before.tear → mid.own_faults ≡ before.own_faults → now.bytes ≡ appended before.bytes frame
    → FailsAlone mid.own_faults now.own_faults mid.tear now.tear
    ⊎ (FailsByTear mid.own_faults now.own_faults now.tear × FailsSync mid.tear)
    → FailsByItself before now ⊎ FailsByArm frame before now
sync-cause frame before mid now untorn let_pass own is (inl alone) = inl (record {
  risen = subst (λ n. HasRisen n now.own_faults) own alone.risen;
  armed = ap armed_number (alone.armed ∙ let_pass) ∙ passed-number before.tear;
})
sync-cause frame before mid now untorn let_pass own is (inr torn) = inr (record {
  uncounted = torn.0.uncounted ∙ own;
  unarmed = torn.0.unarmed;
  left = enough-left before.tear frame before.bytes now.bytes untorn (subst FailsSync let_pass torn.1) is;
})

-- what is there then
pub sync-fails : {T E : Type 0} (r : Result T E) (frame : List ℕ) (before mid now : LogTold)
    → ((kept : ℕ) → TearsAppend before.tear (length frame) kept → ⊥) → mid.tear ≡ passed before.tear
    → mid.own_faults ≡ before.own_faults → mid.faults ≡ before.faults → mid.synced ≡ before.synced
    → now.bytes ≡ appended before.bytes frame → OnErr r (now.synced ≡ mid.synced) → OnErr r (HasRisen mid.faults now.faults)
    → OnErr r (FailsAlone mid.own_faults now.own_faults mid.tear now.tear
    ⊎ (FailsByTear mid.own_faults now.own_faults now.tear × FailsSync mid.tear))
    → OnErr r (FailsToKeep frame before now)
sync-fails (Ok x) frame before mid now untorn let_pass own faults synced is stays failed cause = tt
sync-fails (Err e) frame before mid now untorn let_pass own faults synced is stays failed cause = record {
  front = all-there frame before.bytes now.bytes is;
  synced = stays ∙ synced;
  risen = subst (λ n. HasRisen n now.faults) faults failed;
  cause = sync-cause frame before mid now untorn let_pass own is cause;
}
