use Rattle.std.proofs.Common.{◌≡◌, ◌<◌, ◌≤◌, length, get_or, add-one, rules}
use Rattle.std.proofs.lemmas.List.{get_or_default}
use Rattle.cs_tree.proofs.Counts.{count_of, count-map}
use Rattle.cs_tree.proofs.Parting.{put-first}
use Rattle.cs_tree.proofs.sides.put_first.Goals as goal

-- the root goes before those that stood before it
pub returns-in-Some : goal.returns-in-Some
returns-in-Some g c =
    let key = g.P.Keyed.key_of in
    let own = c.args.own.now in
    let root = c.args.root in
    let place = c.in-Some.place in
    let lt : place < length own = search rules in
    let at : key (get_or own place root) ≡ key root = search rules in
    let is : get_or own place root ≡ root = c.requires.distinct (get_or own place root) root (place, lt, get_or_default own place _ root lt) c.requires.there at in
    let once : count_of key (key root) own ≤ 1 = rw (← count-map key (key root) own) (c.requires.once (key root)) in
    rw add-one (put-first key root own c.rotate_right.new.self place lt is once (rw (← add-one) c.rotate_right.ensures.after))
