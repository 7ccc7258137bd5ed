-- One step of the hash.
use Rattle.std.proofs.Common.{◌≡◌, ℕ, ◌+◌, ◌<◌, ◌∙◌, ap, sym, List, drop, get_or, length}
use Rattle.std.proofs.lemmas.List.{at_drop_more}
use Rattle.cs_world.specs.Indexed.{hash_behind, next_hash}

-- the hash of what is left goes on behind the next byte
pub hash-more : (hash : ℕ) (bytes : List ℕ) (i d next : ℕ) → i < length bytes → next ≡ next_hash hash (get_or bytes i d)
    → hash_behind next (drop (i + 1) bytes) ≡ hash_behind hash (drop i bytes)
unfolding hash_behind
hash-more hash bytes i d next within is =
    ap (λ n. hash_behind n (drop (i + 1) bytes)) is ∙ sym (at_drop_more (hash_behind hash) bytes i d within)
