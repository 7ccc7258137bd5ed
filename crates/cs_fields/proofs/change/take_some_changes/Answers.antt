use Rattle.std.proofs.Common.{arith}
use Rattle.cs_fields.specs.Changes.{changes_len}
use Rattle.cs_fields.proofs.Codec.{taken}
use Rattle.cs_fields.proofs.Changes.{changes_codec, changes_size}
use Rattle.cs_fields.proofs.change.take_some_changes.Goals as goal

pub returns-clause-spelt : goal.returns-clause-spelt
returns-clause-spelt c =
    taken changes_len c.args.bytes.now c.args.at _ (changes_codec c.args.least) (changes_size c.args.least)
    (λ i. omega (arith, c.type_inv.bytes i)) c.requires.within
    c.read_changes.ensures
