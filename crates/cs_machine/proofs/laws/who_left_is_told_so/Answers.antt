use Rattle.std.proofs.Common.{cond, Some, None, ap}
use Rattle.cs_group.specs.Group.{GroupState}
use Rattle.cs_group.specs.Rows.{has_member, regions}
use Rattle.cs_machine.specs.Answers.{answers, granted, slices_of_leader}
use Rattle.cs_machine.specs.Names.{Bye, Leading}
use Rattle.cs_machine.proofs.ByeRun.{ask-stands, need-stands}
use Rattle.cs_machine.proofs.laws.who_left_is_told_so.Goals as goal

-- it asks for a snapshot
pub returns-clause-asks : goal.returns-clause-asks
returns-clause-asks c = λ world node epoch asker least pending addr mode reached leads leading retired there.
    ask-stands world node epoch pending reached leads leading asker addr there mode least

-- it asks for a slice
pub returns-clause-needs : goal.returns-clause-needs
returns-clause-needs c = λ world node epoch asker wanted region pending addr mode reached leads leading retired there.
    need-stands world node epoch pending reached leads leading asker addr there mode wanted region

-- the step sends a bye
pub returns-clause-byes : goal.returns-clause-byes
returns-clause-byes c = λ contents epoch asker pending wish retired.
    let group : GroupState = contents.group epoch in
    let told = granted contents epoch (regions group.rows) (slices_of_leader contents epoch) asker wish in
    ap (λ b. (answers (Leading epoch pending) asker (cond b (Some (Bye epoch)) (cond (has_member asker group.rows) told None))).sends) retired
