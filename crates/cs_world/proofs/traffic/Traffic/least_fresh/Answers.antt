-- the first that passes, in the index and without one
use Rattle.std.proofs.Common.{rules, tests, ◌≡◌, ◌∙◌, ◌&&◌, Bool, not, IfSome, sym, ap, subst, ◌+◌}
use Rattle.std.proofs.lemmas.Iterator.{YieldsList-from_slice}
use Rattle.std.proofs.lemmas.Iterator.Search.{position_from_yields_List}
use Rattle.std.specs.List.{position}
use Rattle.std.specs.Option.{option_map}
use Rattle.cs_world.proofs.Searches.{least-from_place}
use Rattle.cs_world.specs.Indexed.{IsIndexOf}
use Rattle.cs_world.specs.Sending.{is_for}
use Rattle.cs_world.specs.declared.datagram.Datagram.{Datagram}
use Rattle.cs_world.proofs.traffic.Traffic.least_fresh.Goals as goal

pub returns-in_err-place : goal.returns-in_err-place
returns-in_err-place c =
    let items = c.args.self.now.datagrams.items in
    let test : Datagram → Bool = λ d. is_for c.args.addr c.args.bytes.now d && not d.is_delivered in
    let found : c.position.result ≡ position test items =
    position_from_yields_List test _ _ c.position.result c.position.ensures.ran (YieldsList-from_slice items cc)
    (λ x b q k. search (rules, tests)) in
    c.from_residual.ensures ∙ ap (option_map (λ place. place + 1)) (sym c.in_err-place.was ∙ found) ∙ least-from_place _ items

pub returns-in_default : goal.returns-in_default
returns-in_default c =
    let items = c.args.self.now.datagrams.items in
    let test : Datagram → Bool = λ d. is_for c.args.addr c.args.bytes.now d && not d.is_delivered in
    let found : c.position.result ≡ position test items =
    position_from_yields_List test _ _ c.position.result c.position.ensures.ran (YieldsList-from_slice items cc)
    (λ x b q k. search (rules, tests)) in
    ap (option_map (λ place. place + 1)) (sym c.in_ok-place.was ∙ found) ∙ least-from_place _ items

pub returns : goal.returns
returns c =
    let items = c.args.self.now.datagrams.items in
    c.least_in.ensures (λ d. not d.is_delivered) (subst (λ o. IfSome o (IsIndexOf items)) c.in-Some.is c.args.self.now.indexed).fresh
