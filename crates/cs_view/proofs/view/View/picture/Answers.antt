use Rattle.std.proofs.Common.{refl, sym, subst}
use Rattle.cs_item.specs.PictureField.{IsPicture}
use Rattle.cs_view.proofs.Spelled.{given_short, given_well_formed, picture_short}
use Rattle.cs_view.proofs.WellFormed.{IsPicture-shown}
use Rattle.cs_view.proofs.view.View.picture.Goals as goal

-- the roll of the region alone
pub returns-in_ok-only_roll-in-Some-clause-value : goal.returns-in_ok-only_roll-in-Some-clause-value
returns-in_ok-only_roll-in-Some-clause-value c =
    rw (c.in-Some.is, c.in_ok-copy-in-Some.ensures, c.in_ok-only_roll-in-Some.ensures, c.find_region.ensures, c.known.ensures.value, ← c.self.view_is) refl

pub returns-in_ok-only_roll-in-Some-clause-well_formed : goal.returns-in_ok-only_roll-in-Some-clause-well_formed
returns-in_ok-only_roll-in-Some-clause-well_formed c =
    λ is. subst IsPicture (sym (returns-in_ok-only_roll-in-Some-clause-value c)) (IsPicture-shown c.args.only c.args.self.now is)

pub returns-in_ok-only_roll-in-Some-clause-short : goal.returns-in_ok-only_roll-in-Some-clause-short
returns-in_ok-only_roll-in-Some-clause-short c = picture_short _

-- every known roll
pub returns-in-None-clause-well_formed : goal.returns-in-None-clause-well_formed
returns-in-None-clause-well_formed c = given_well_formed c.copy.result c.args.self.now (rw (← c.self.view_is) c.copy.ensures)

pub returns-in-None-clause-short : goal.returns-in-None-clause-short
returns-in-None-clause-short c = given_short c.copy.result
