use Rattle.std.proofs.Common.{rules}
use Rattle.cs_base.proofs.Addresses.{only_answer, own_text}
use Rattle.cs_base.proofs.canonical.read_addr.Goals as goal

pub returns-in_err-a-clause-only : goal.returns-in_err-a-clause-only
returns-in_err-a-clause-only c = only_answer _ _ (search rules)

pub returns-in_err-b-clause-only : goal.returns-in_err-b-clause-only
returns-in_err-b-clause-only c = only_answer _ _ (search rules)

pub returns-in_err-c-clause-only : goal.returns-in_err-c-clause-only
returns-in_err-c-clause-only c = only_answer _ _ (search rules)

pub returns-in_err-d-clause-only : goal.returns-in_err-d-clause-only
returns-in_err-d-clause-only c = only_answer _ _ (search rules)

pub returns-in_err-read_up_to-clause-only : goal.returns-in_err-read_up_to-clause-only
returns-in_err-read_up_to-clause-only c = only_answer _ _ (search rules)

pub returns-in_err-read_up_to-2-clause-only : goal.returns-in_err-read_up_to-2-clause-only
returns-in_err-read_up_to-2-clause-only c = only_answer _ _ (search rules)

pub returns-in_err-read_up_to-3-clause-only : goal.returns-in_err-read_up_to-3-clause-only
returns-in_err-read_up_to-3-clause-only c = only_answer _ _ (search rules)

pub returns-in_err-read_up_to-4-clause-only : goal.returns-in_err-read_up_to-4-clause-only
returns-in_err-read_up_to-4-clause-only c = only_answer _ _ (search rules)

pub returns-in_err-read_up_to-5-clause-only : goal.returns-in_err-read_up_to-5-clause-only
returns-in_err-read_up_to-5-clause-only c = only_answer _ _ (search rules)

pub returns-clause-exact : goal.returns-clause-exact
returns-clause-exact c = search rules

pub returns-clause-found : goal.returns-clause-found
returns-clause-found c = own_text _ _ (returns-clause-exact c)

pub returns-clause-only : goal.returns-clause-only
returns-clause-only c = only_answer _ _ (returns-clause-exact c)
