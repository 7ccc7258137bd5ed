use Rattle.std.proofs.Common.{◌++◌, sym, ap, map, take, ◌∙◌}
use Rattle.std.specs.List.{flat_map}
use Rattle.std.proofs.lemmas.List.{take_all}
use Rattle.cs_hold.proofs.Names.{name_of, names_on, names-more, names-on_shelves}
use Rattle.cs_hold.proofs.hold.Hold.names.Goals as goal

-- one more shelf has its names behind
pub loop-shelf-preserved : goal.loop-shelf-preserved
loop-shelf-preserved c =
    let shelves = c.as_slice-shelf-items.result.now in
    let i = c.loop-shelf.shelf-index in
    c.in_ok-append_names.ensures
    ∙ ap (λ names. names ++ names_on c.shelf-item.result) c.loop-shelf.invariant
    ∙ ap (λ shelf. flat_map names_on (take i shelves) ++ names_on shelf) c.shelf-item.is
    ∙ sym (names-more shelves i c.shelf-item.result c.loop-shelf-test.true)

-- the names on all shelves are those of all pieces
pub returns : goal.returns
returns c =
    let shelves = c.as_slice-shelf-items.result.now in
    c.loop-shelf.invariant
    ∙ ap (flat_map names_on) (take_all c.loop-shelf.shelf-index shelves c.loop-shelf-test.false ∙ c.as_slice-shelf-items.ensures.value)
    ∙ sym (names-on_shelves c.self.inside.shelves)
    ∙ ap (map name_of) c.self.view_is
