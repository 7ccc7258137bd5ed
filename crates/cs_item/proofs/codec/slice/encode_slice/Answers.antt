use Rattle.std.proofs.Common.{◌≡◌, ◌++◌, length, ap, ◌∙◌, arith}
use Rattle.std.proofs.lemmas.List.{length-append}
use Rattle.cs_item.specs.SliceField.{slice_bytes}
use Rattle.cs_item.proofs.SliceLaws.{slice_codec, slice_size}
use Rattle.cs_fields.proofs.Codec.{spelt_once}
use Rattle.cs_item.proofs.codec.slice.encode_slice.Goals as goal

-- the bytes are those of the slice behind none
pub returns-clause-short : goal.returns-clause-short
returns-clause-short c =
    let s = c.args.s.now in
    let same : c.from_vec.result ≡ c.in_ok-out.out.items ++ slice_bytes s = c.from_vec.ensures ∙ c.in_ok-put_slice.ensures in
    let nothing = ap length c.in_ok-out.ensures.items in
    omega (arith, ap length same, nothing, length-append c.in_ok-out.out.items (slice_bytes s), slice_codec.sized s c.requires, slice_size s c.requires)

pub returns-in_err-out-clause-one : goal.returns-in_err-out-clause-one
returns-in_err-out-clause-one c t is_t same = spelt_once slice_codec c.args.s.now t c.requires is_t same

pub returns-in_err-put_slice-clause-one : goal.returns-in_err-put_slice-clause-one
returns-in_err-put_slice-clause-one c t is_t same = spelt_once slice_codec c.args.s.now t c.requires is_t same

pub returns-clause-one : goal.returns-clause-one
returns-clause-one c t is_t same = spelt_once slice_codec c.args.s.now t c.requires is_t same
