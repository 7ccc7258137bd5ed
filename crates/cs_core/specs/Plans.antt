-- Plans that several rules have in common.
use Rattle.std.specs.Prelude.{ℕ, List, [], Option, None, Some, Result, Ok, Err}
use Rattle.cs_base.specs.Address.{Address}
use Rattle.cs_item.specs.declared.picture.Picture.{Picture}
use Rattle.cs_packet.specs.declared.own.Own.{Own}
use Rattle.cs_packet.specs.declared.packet.Packet.{Packet}
use Rattle.cs_core.specs.Node.{Following, member}
use Rattle.cs_core.specs.declared.plan.FollowNote.{FollowNote}
use Rattle.cs_core.specs.declared.plan.FollowNote.TheVariants as notes
use Rattle.cs_core.specs.declared.plan.Outcome.{Outcome}
use Rattle.cs_core.specs.declared.plan.Outcome.TheVariants as outcomes
use Rattle.cs_core.specs.declared.plan.Plan.{Plan}
use Rattle.cs_core.specs.declared.plan.Unfit.{Unfit}
use Rattle.cs_core.specs.declared.plan.Unfit.TheVariants as unfit
use Rattle.cs_view.specs.declared.fault.ViewFault.TheVariants as view_faults

-- nothing is logged or sent, and the node stays as it is
abbrev pub only : FollowNote → Plan
only note = record { entry = None; sends = []; note = note; after = outcomes.Same }

-- packets are sent, and the node stays as it is
abbrev pub sent : List (Address × Packet) → FollowNote → Plan
sent sends note = record { entry = None; sends = sends; note = note; after = outcomes.Same }

-- the node goes on as a member
abbrev pub goes_on : Own → Following → Outcome
goes_on own m = outcomes.Next (member own m)

-- what came tells the node nothing new
abbrev pub stale : Following → ℕ → Plan
stale m given = only (notes.Stale m.view.epoch given)

-- what came is of an epoch that the node can't use yet
abbrev pub early : Following → ℕ → Plan
early m given = only (notes.Early m.view.epoch given)

-- a region that the view doesn't list
abbrev pub unlisted : ℕ → Plan
unlisted region = only (notes.Unfit (unfit.View (view_faults.Region region)))

infixl 10 ◌>>=◌
-- a rule goes on where what came fits so far
abbrev pub ◌>>=◌ : {A B : Type 0} → Result A Unfit → (A → Result B Unfit) → Result B Unfit
(Ok x) >>= f = f x
(Err fault) >>= f = Err fault

-- a fault of another layer says why something doesn't fit
abbrev pub unfit_by : {T F : Type 0} → (F → Unfit) → Result T F → Result T Unfit
unfit_by why (Ok x) = Ok x
unfit_by why (Err fault) = Err (why fault)

-- it fits, unless there is a reason against it
abbrev pub unless_unfit : {T : Type 0} → Option Unfit → T → Result T Unfit
unless_unfit None x = Ok x
unless_unfit (Some fault) x = Err fault

-- the plan, or the answer why something doesn't fit: then nothing was taken and nothing is sent
abbrev pub or_unfit : Result Plan Unfit → Plan
or_unfit (Ok plan) = plan
or_unfit (Err fault) = only (notes.Unfit fault)
