use Rattle.std.proofs.Common.{arith, ap, length}
use Rattle.std.proofs.lemmas.List.{length-append}
use Rattle.cs_fields.proofs.Codec.{spelt_once}
use Rattle.cs_packet.specs.EntryField.{entry_bytes}
use Rattle.cs_packet.proofs.EntryLaws.{entry_codec, entry_size}
use Rattle.cs_packet.proofs.codec.entry.encode_entry.Goals as goal

pub returns-clause-short : goal.returns-clause-short
returns-clause-short c =
    omega (
      arith,
      entry_size c.args.e.now c.requires,
      ap length c.from_vec.ensures,
      ap length c.in_ok-append_entry.ensures,
      ap length c.in_ok-out.ensures.items,
      length-append c.in_ok-out.out.items (entry_bytes c.args.e.now),
    )

pub returns-in_err-out-clause-one : goal.returns-in_err-out-clause-one
returns-in_err-out-clause-one c q is_q same = spelt_once entry_codec c.args.e.now q c.requires is_q same

pub returns-in_err-append_entry-clause-one : goal.returns-in_err-append_entry-clause-one
returns-in_err-append_entry-clause-one c q is_q same = spelt_once entry_codec c.args.e.now q c.requires is_q same

pub returns-clause-one : goal.returns-clause-one
returns-clause-one c q is_q same = spelt_once entry_codec c.args.e.now q c.requires is_q same
