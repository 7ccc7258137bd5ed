use Rattle.std.proofs.Common.{◌≡◌, refl}
use Rattle.cs_packet.specs.declared.entry.Entry.{Entry}
use Rattle.cs_packet.specs.declared.entry.Entry.TheVariants as entries
use Rattle.cs_lead.specs.Laws.{lasting}
use Rattle.cs_lead.specs.Leading.{Leading}
use Rattle.cs_lead.specs.Resume.{resumed_by}
use Rattle.cs_lead.proofs.laws.all_that_resuming_reads_lasts.Goals as goal

-- an item and a base read all but pending changes
resumed-lasts : (leader : Leading) (entry : Entry) → resumed_by leader entry ≡ resumed_by (lasting leader) entry
resumed-lasts leader (entries.Boot leads own) = refl
resumed-lasts leader (entries.Seq seq at) = refl
resumed-lasts leader (entries.View picture) = refl
resumed-lasts leader (entries.Step slices) = refl
resumed-lasts leader (entries.Gone epoch) = refl
resumed-lasts leader (entries.Item epoch changes) = refl
resumed-lasts leader (entries.Base epoch next_region retired rows changes) = refl

-- of each leader
pub returns : goal.returns
returns c = resumed-lasts
