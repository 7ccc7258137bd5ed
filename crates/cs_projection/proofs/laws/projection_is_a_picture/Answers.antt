use Rattle.cs_slicer.specs.Projection.{projection}
use Rattle.cs_view.proofs.Spelled.{picture_short}
use Rattle.cs_projection.proofs.Pictures.{IsPicture-projection}
use Rattle.cs_projection.proofs.laws.projection_is_a_picture.Goals as goal

-- each field is that of the group
pub returns-clause-well_formed : goal.returns-clause-well_formed
returns-clause-well_formed c = λ g epoch known is small. IsPicture-projection g epoch known is small

-- and a picture is short
pub returns-clause-short : goal.returns-clause-short
returns-clause-short c = λ g epoch known is small. picture_short (projection epoch known g) (IsPicture-projection g epoch known is small)
