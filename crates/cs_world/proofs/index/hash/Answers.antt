-- the first bytes behind the address
use Rattle.std.proofs.Common.{◌∙◌, ap, take}
use Rattle.std.proofs.lemmas.List.{take_min}
use Rattle.cs_world.specs.Indexed.{hash_behind, most_hashed, next_hash}
use Rattle.cs_world.proofs.index.hash.Goals as goal

pub returns : goal.returns
returns c =
    let front = take most_hashed c.args.bytes.now in
    c.hash_of.ensures
    ∙ ap (λ n. hash_behind c.next.result (take n c.args.bytes.now)) c.min.ensures
    ∙ ap (hash_behind c.next.result) (take_min most_hashed c.args.bytes.now)
    ∙ ap (λ hash. hash_behind hash front) (c.next.ensures
    ∙ ap (λ hash. next_hash hash c.port.result) (c.hash_of-behind_ip.ensures ∙ ap (hash_behind 0) c.ip-ip.ensures.value)
    ∙ ap (next_hash (hash_behind 0 c.args.addr.ip)) c.port.ensures.value)
