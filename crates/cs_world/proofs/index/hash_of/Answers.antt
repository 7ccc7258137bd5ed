-- byte by byte
use Rattle.std.proofs.Common.{◌∙◌, ap, sym, arith}
use Rattle.std.proofs.lemmas.List.{at_drop_all}
use Rattle.cs_world.proofs.Hashes.{hash-more}
use Rattle.cs_world.specs.Indexed.{hash_behind, next_hash}
use Rattle.cs_world.proofs.index.hash_of.Goals as goal

pub loop-byte-preserved : goal.loop-byte-preserved
loop-byte-preserved c =
    hash-more c.loop-byte.hash c.args.bytes.now c.loop-byte.byte-index 0 _ (omega arith)
    (c.next-hash.ensures ∙ ap (next_hash c.loop-byte.hash) c.from.ensures) ∙ c.loop-byte.invariant

pub returns : goal.returns
unfolding hash_behind
returns c =
    sym (at_drop_all (hash_behind c.loop-byte.hash) c.args.bytes.now c.loop-byte.byte-index (omega arith)) ∙ c.loop-byte.invariant
