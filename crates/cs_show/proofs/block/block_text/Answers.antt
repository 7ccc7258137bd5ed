use Rattle.std.proofs.Common.{◌++◌, codes, ap, ◌∙◌, ◌≡◌, rules}
use Rattle.std.specs.List.{flat_map}
use Rattle.std.specs.String.{string_bytes}
use Rattle.cs_show.specs.Block.{digest_line, digest_of, inter_lines, local_lines, roll_lines, shared_lines}
use Rattle.cs_show.specs.Text.{ended, text_of}
use Rattle.cs_show.proofs.BlockText.{block_put}
use Rattle.cs_show.proofs.block.block_text.Goals as goal

pub returns : goal.returns
returns c =
    let view = c.args.view.now in
    let shared = shared_lines view in
    let inters = inter_lines view.summaries in
    let common = c.in_ok-common.common.value in
    let front : string_bytes c.push_str.new.self ≡ string_bytes c.new-text.result ++ string_bytes common.regions = search rules in
    let trees : string_bytes c.push_str-2.new.self ≡ string_bytes c.put_rolls.new.out ++ string_bytes common.inters = search rules in
    block_put shared (flat_map roll_lines view.rolls) inters (flat_map local_lines view.rolls) (digest_line (digest_of view)) (codes "end")
    (string_bytes c.new-text.result) (string_bytes c.push_str.new.self) (string_bytes c.put_rolls.new.out) (string_bytes c.push_str-2.new.self)
    (string_bytes c.put_locals.new.out) (string_bytes c.put_digest.new.out) (string_bytes c.writeln.new.self)
    c.new-text.ensures.bytes (front ∙ ap (λ text. string_bytes c.new-text.result ++ text) c.in_ok-common.ensures.0)
    (c.in_ok-put_rolls.ensures ∙ ap (λ rolls. string_bytes c.push_str.new.self ++ text_of (flat_map roll_lines rolls)) c.known.ensures.value)
    (trees ∙ ap (λ text. string_bytes c.put_rolls.new.out ++ text) c.in_ok-common.ensures.1) c.in_ok-put_locals.ensures
    (c.in_ok-put_digest.ensures ∙ ap (λ d. string_bytes c.put_locals.new.out ++ ended (digest_line d)) (search rules))
    c.in_ok-writeln.ensures.bytes
