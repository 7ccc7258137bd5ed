-- How many bytes a picture has that a call gives, and that it is as well formed as the view.
use Rattle.std.proofs.Common.{◌≡◌, ◌≤◌, length, Result, Ok, Err, IfOk, sym, subst, arith}
use Rattle.std.specs.declared.alloc.AllocError.{AllocError}
use Rattle.cs_base.specs.Limits.{most_picture_bytes}
use Rattle.cs_item.specs.PictureField.{IsPicture, picture_bytes}
use Rattle.cs_item.specs.declared.picture.Picture.{Picture}
use Rattle.cs_item.proofs.PictureLaws.{picture_codec, picture_size}

-- a well-formed picture has at most so many
pub picture_short : (p : Picture) → IsPicture p → length (picture_bytes p) ≤ most_picture_bytes
picture_short p is = omega (arith, picture_codec.sized p is, picture_size p is)

-- and so has one that a call gives
pub given_short : (result : Result Picture AllocError) → IfOk result (λ p. IsPicture p → length (picture_bytes p) ≤ most_picture_bytes)
given_short (Ok p) = picture_short p
given_short (Err e) = tt

-- one that is a view is as well formed
pub given_well_formed : (result : Result Picture AllocError) (view : Picture) → IfOk result (λ p. p ≡ view)
    → IfOk result (λ p. IsPicture view → IsPicture p)
given_well_formed (Ok p) view same = λ is. subst IsPicture (sym same) is
given_well_formed (Err e) view same = tt
