use Rattle.std.proofs.Common.{rules}
use Rattle.cs_script.proofs.Events.{line-said}
use Rattle.cs_script.proofs.printing.print_event.Goals as goal

pub returns-clause-read : goal.returns-clause-read
returns-clause-read c = line-said c.from_vec.result c.args.e.now c.requires (search rules)
