-- Whether two heads, and two views, are the same, as tests.
use Rattle.std.specs.Prelude.{◌==◌, ◌&&◌, Bool}
use Rattle.std.specs.Str.{bytes_eq}
use Rattle.cs_item.specs.declared.head.Head.{Head}
use Rattle.cs_item.specs.declared.picture.Picture.{Picture}
use Rattle.cs_roll.specs.SameByRegion.{are_same_rolls, are_same_summaries}

-- the same epoch, summaries and known rolls
abbrev pub is_same_view : Picture → Picture → Bool
is_same_view v w =
    (v.epoch == w.epoch) && (are_same_rolls v.rolls w.rolls && are_same_summaries v.summaries w.summaries)

abbrev pub is_same_head : Head → Head → Bool
is_same_head h k =
    (h.epoch == k.epoch)
    && (bytes_eq h.left k.left
    && (bytes_eq h.dropped k.dropped && (are_same_summaries h.summaries k.summaries && bytes_eq h.touched k.touched)))
