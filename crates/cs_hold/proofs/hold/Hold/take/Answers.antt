use Rattle.std.proofs.Common.{◌∙◌, ap, Ok, refl}
use Rattle.cs_base.specs.Ascending.{at_key}
use Rattle.cs_hold.specs.Held.{pieces_at}
use Rattle.cs_hold.specs.Pieces.{colour_of}
use Rattle.cs_hold.proofs.Taken.{not-some, seen, some-none, taken-fault, taken-put, taken-there, there}
use Rattle.cs_hold.proofs.Takes.{keeps-put}
use Rattle.cs_hold.proofs.hold.Hold.take.Goals as goal

pub returns-in_ok-put-in-Ok-Some-clause-took : goal.returns-in_ok-put-in-Ok-Some-clause-took
returns-in_ok-put-in-Ok-Some-clause-took c =
    let is = c.in-Ok-Some.is ∙ ap (λ found. Ok found) c.in-Ok-Some.field-0-is in
    let already = rw is at c.gained.ensures.already in (
      λ e. absurd (cc),
      λ some.
          (let none = already.1 (there c.self.inside.shelves c.args.self.now c.self.view_is c.gained.ensures.ascending
          c.args.region c.args.colour some) in absurd (cc)),
    )

pub returns-in_ok-put-in-Ok-Some-clause-ok : goal.returns-in_ok-put-in-Ok-Some-clause-ok
returns-in_ok-put-in-Ok-Some-clause-ok c =
    let is = c.in-Ok-Some.is ∙ ap (λ found. Ok found) c.in-Ok-Some.field-0-is in
    let already = rw is at c.gained.ensures.already in
    let region = rw is at c.gained.ensures.region in
    let gains = rw is at c.gained.ensures.ok in
    let none = not-some (at_key colour_of c.args.colour (pieces_at c.args.region c.self.inside.shelves)) (λ some. (let none = already.1 some in absurd (cc))) in
    taken-put c.self.inside.shelves c.args.self.now c.self.view_is c.gained.ensures.ascending c.args.region c.args.colour c.args.bytes.now none
    c.in-Ok-Some.shelf region gains c.put.new.self c.in_ok-put-in-Ok-Some.ensures.placed

pub returns-in-Ok-None-clause-took : goal.returns-in-Ok-None-clause-took
returns-in-Ok-None-clause-took c =
    let is = c.in-Ok-None.is ∙ ap (λ found. Ok found) c.in-Ok-None.field-0-is in
    let already = rw is at c.gained.ensures.already in
    (λ e. seen c.self.inside.shelves c.args.self.now c.self.view_is c.gained.ensures.ascending c.args.region c.args.colour (already.0 refl), λ some. refl)

pub returns-in-Ok-None-clause-ok : goal.returns-in-Ok-None-clause-ok
returns-in-Ok-None-clause-ok c =
    let is = c.in-Ok-None.is ∙ ap (λ found. Ok found) c.in-Ok-None.field-0-is in
    let already = rw is at c.gained.ensures.already in
    taken-there c.self.inside.shelves c.args.self.now c.self.view_is c.gained.ensures.ascending c.args.region c.args.colour c.args.bytes.now (already.0 refl)

pub returns-in-Err-clause-fault : goal.returns-in-Err-clause-fault
returns-in-Err-clause-fault c =
    taken-fault c.self.inside.shelves c.args.self.now c.self.view_is c.gained.ensures.ascending c.args.region c.args.colour c.args.bytes.now
    c.in-Err.ensures.absent c.in-Err.fault c.in-Err.ensures.fault

pub returns-in_ok-put-in-Ok-Some-clause-kept : goal.returns-in_ok-put-in-Ok-Some-clause-kept
returns-in_ok-put-in-Ok-Some-clause-kept c =
    let is = c.in-Ok-Some.is ∙ ap (λ found. Ok found) c.in-Ok-Some.field-0-is in
    let region = rw is at c.gained.ensures.region in
    let has = rw is at c.gained.ensures.kept in
    keeps-put c.self.inside.shelves c.args.self.now c.self.view_is c.gained.ensures.ascending c.args.region c.args.colour c.args.bytes.now
    c.in-Ok-Some.shelf region has c.put.new.self c.in_ok-put-in-Ok-Some.ensures.placed

pub returns-in-Ok-None-clause-kept : goal.returns-in-Ok-None-clause-kept
returns-in-Ok-None-clause-kept c =
    let is = c.in-Ok-None.is ∙ ap (λ found. Ok found) c.in-Ok-None.field-0-is in
    let already = rw is at c.gained.ensures.already in
    let some = seen c.self.inside.shelves c.args.self.now c.self.view_is c.gained.ensures.ascending c.args.region c.args.colour (already.0 refl) in
    record { there = λ none. absurd (some-none _ some none); kept = λ k b is. is }
