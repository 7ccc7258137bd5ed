-- The leader's view of a group: the picture of all its regions, of which nothing is left out.
use Rattle.std.proofs.Common.{◌≡◌, ℕ, ◌<◌, List, length, map, Option, Some, None, Result, Ok, Err, ap, sym, subst, ◌∙◌, arith}
use Rattle.std.specs.Result.{IfOk, IsErrAnd, MatchResult}
use Rattle.std.proofs.lemmas.List.{length-map}
use Rattle.cs_base.specs.declared.change.Mode.TheVariants.{Full}
use Rattle.cs_base.specs.declared.member.Member.{Member}
use Rattle.cs_group.specs.Group.{GroupState, IsGroup, is_among}
use Rattle.cs_group.specs.Rows.{members_in, regions}
use Rattle.cs_group.specs.declared.row.Row.{Row}
use Rattle.cs_item.specs.declared.picture.Picture.{Picture}
use Rattle.cs_roll.specs.Sight.{Rolls, Summaries}
use Rattle.cs_slicer.specs.Turn.{summaries_of}
use Rattle.cs_slicer.proofs.Beside.{beside}
use Rattle.cs_slicer.proofs.Middle.{some_region}
use Rattle.cs_slicer.proofs.Searched.{filter-all}
use Rattle.cs_slicer.proofs.Summaries.{regions-listed, summary_in}
use Rattle.cs_view.specs.Taking.{or_fault, picture_fault, taken, view_from}
use Rattle.cs_view.specs.declared.fault.ViewFault.{ViewFault}
use Rattle.cs_lead.specs.Kept.{IsLeading}
use Rattle.cs_lead.specs.Leading.{Leading, whole_view}

-- the roll of a region, in rows
abbrev pub roll_in_rows : List Row → ℕ → List Member
roll_in_rows rows region = members_in region rows

-- the picture of all regions
pub whole-made : (epoch : ℕ) (g : GroupState) (summaries : Summaries) (rolls : Rolls)
    → summaries ≡ map (beside (summary_in g.rows)) (regions g.rows) → rolls ≡ map (beside (roll_in_rows g.rows)) (regions g.rows)
    → (let p : Picture = record { epoch = epoch; summaries = summaries; rolls = rolls } in p) ≡ whole_view epoch g
whole-made epoch g summaries rolls first second =
    let picture : Summaries → Rolls → Picture = λ s r. record { epoch = epoch; summaries = s; rolls = r } in
    let all = filter-all (λ region. is_among (regions g.rows) region) (regions g.rows) (regions-listed g.rows) in
    ap (λ s. picture s rolls) first
    ∙ ap (picture (summaries_of g.rows)) (second ∙ sym (ap (map (beside (roll_in_rows g.rows))) all))

-- it lists a region
pub whole_listed : (epoch : ℕ) (g : GroupState) → IsGroup g → 0 < length (whole_view epoch g).summaries
whole_listed epoch g is =
    let long = length-map (regions g.rows) (beside (summary_in g.rows)) in
    omega (arith, long, some_region g.leader g.rows is.staffed.leader_there)

-- and so does the view of a leader
pub view_listed : (leader : Leading) → IsLeading leader → 0 < length leader.view.summaries
view_listed leader is =
    subst (λ (p : Picture). 0 < length p.summaries) (sym is.view) (whole_listed leader.view.epoch leader.group is.group)

-- who wants to know all takes a picture as it is
pub taken-full : (me : ℕ) (p view : Picture) → taken me Full p ≡ Ok view → view ≡ p
taken-full me p view is = go (picture_fault me p) is
  where
    go : (fault : Option ViewFault) → or_fault fault (view_from me Full p) ≡ Ok view → view ≡ p
    go None e = (let same : view_from me Full p ≡ view = cc in sym same)
    go (Some fault) e = absurd (cc)

-- what holds of the value holds of it where only the fault was changed
pub IfOk-map_err : {T E F : Type 0} (r : Result T E) (s : Result T F) (P : T → Type 0) (Q : E → F → Type 0)
    → MatchResult r (λ x. s ≡ Ok x) (λ e. IsErrAnd s (Q e)) → IfOk r P → IfOk s P
IfOk-map_err (Ok x) s P Q is ok = subst (λ t. IfOk t P) (sym is) ok
IfOk-map_err (Err e) (Ok x) P Q is ok = absurd is
IfOk-map_err (Err e) (Err f) P Q is ok = tt
